-- The numbers of handlers go on rising where one is connected, some go and some are changed.
use Rattle.std.proofs.Common.{◌≡◌, ℕ, ◌<◌, ◌≤◌, ◌++◌, Bool, true, false, cond, map, List, [], ◌∷◌, None, Some, arith, refl}
use Rattle.std.specs.List.{filter, find}
use Rattle.ui_machine.specs.State.Handlers.{Handler}
use Rattle.signal_core.specs.Connected.{Numbered}

-- from above a lower number too
pub numbered_lower : (low above : ℕ) (hs : List Handler) (last : ℕ) → low ≤ above → Numbered above hs last → Numbered low hs last
numbered_lower low above [] last below n = omega arith
numbered_lower low above (h ∷ hs) last below n = (omega (arith, n.0), n.1)

-- with one more under a number above the last
pub numbered_push : (above : ℕ) (hs : List Handler) (last : ℕ) (h : Handler) → last < h.number → Numbered above hs last → Numbered above (hs ++ h ∷ []) h.number
numbered_push above [] last h new n = (omega arith, omega arith)
numbered_push above (x ∷ hs) last h new n = (n.0, numbered_push x.number hs last h new n.1)

-- without some
pub numbered_filter : (p : Handler → Bool) (above : ℕ) (hs : List Handler) (last : ℕ) → Numbered above hs last → Numbered above (filter p hs) last
numbered_filter p above [] last n = n
numbered_filter p above (h ∷ hs) last n =
    by (p h) (numbered_filter p h.number hs last n.1) (numbered_filter p above hs last (numbered_lower above h.number hs last (omega (arith, n.0)) n.1))
  where
    by : (b : Bool) → Numbered h.number (filter p hs) last → Numbered above (filter p hs) last → Numbered above (cond b (h ∷ filter p hs) (filter p hs)) last
    by true kept gone = (n.0, kept)
    by false kept gone = gone

-- with some changed, that keep their numbers
pub numbered_map : (f : Handler → Handler) → ((h : Handler) → (f h).number ≡ h.number) → (above : ℕ) (hs : List Handler) (last : ℕ) →
    Numbered above hs last → Numbered above (map f hs) last
numbered_map f same above [] last n = n
numbered_map f same above (h ∷ hs) last n =
    (rw (same h) n.0, rw (same h) (numbered_map f same h.number hs last n.1))

-- one that is found has a number above
pub found_above : (p : Handler → Bool) (above : ℕ) (hs : List Handler) (last : ℕ) (h : Handler) → Numbered above hs last → find p hs ≡ Some h → above < h.number
found_above p above [] last h n e = absurd (cc)
found_above p above (x ∷ hs) last h n e = by (p x) e (λ later. found_above p x.number hs last h n.1 later)
  where
    by : (b : Bool) → cond b (Some x) (find p hs) ≡ Some h → (find p hs ≡ Some h → x.number < h.number) → above < h.number
    by true e later = let is : x ≡ h = cc in rw (← is) n.0
    by false e later = let up = later e in omega (arith, n.0, up)

-- the number that is given where there is room
pub number_given : (room : Bool) (next number : ℕ) → cond room (Some next) None ≡ Some number → (room ≡ true) × (number ≡ next)
number_given true next number e = (refl, cc)
number_given false next number e = absurd (cc)

-- the last number is above all
pub numbered_within : (above : ℕ) (hs : List Handler) (last : ℕ) → Numbered above hs last → above ≤ last
numbered_within above [] last n = n
numbered_within above (h ∷ hs) last n = let within = numbered_within h.number hs last n.1 in omega (arith, n.0, within)
