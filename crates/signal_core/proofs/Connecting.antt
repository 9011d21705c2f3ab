-- What connecting makes of the handlers, and that their numbers are there.
use Rattle.std.proofs.Common.{◌≡◌, ◌∙◌, ℕ, suc, ◌+◌, ◌-◌, ◌<◌, ◌++◌, ◌&&◌, Bool, true, false, cond, nat_lt, count_by, List, [], ◌∷◌, ap, arith}
use Rattle.std.proofs.lemmas.Bool.Decides.{nat_tests}
use Rattle.ui_machine.specs.Rules.Connections.{by_code_to, greatest_handler, new_handler}
use Rattle.ui_machine.specs.Rules.Connections as machine
use Rattle.ui_machine.specs.State.Handlers.{Handler}
use Rattle.signal_core.specs.Connected.{Connected, has_room, has_room_for_code, with_connection}

lt_is : (m n : ℕ) → nat_lt m n ≡ true → m < n
lt_is m n h = grind (arith, nat_tests)

second : (s t : Bool) → (s && t) ≡ true → t ≡ true
second true t e = e
second false t e = let no : false ≡ true = e in absurd (cc)

-- where there is room, a number is left
pub last_below : (h : Connected) (c : machine.Connection) → has_room h c ≡ true → h.last < greatest_handler
last_below h c room = by c.by_code room
  where
    by : (b : Bool) → cond b (has_room_for_code h c.object c.signal) (nat_lt h.last greatest_handler) ≡ true → h.last < greatest_handler
    by true e =
        let fits = lt_is (h.last + h.to_come) greatest_handler (second (nat_lt (count_by (by_code_to c.object c.signal) h.handlers) h.most) (nat_lt (h.last + h.to_come) greatest_handler) e) in
        omega (arith, fits)
    by false e = lt_is h.last greatest_handler e

-- and where bytecode connects, one beside those of the builder
pub code_below : (h : Connected) (c : machine.Connection) → has_room h c ≡ true → c.by_code ≡ true → h.last + h.to_come < greatest_handler
code_below h c room code = by c.by_code room code
  where
    by : (b : Bool) → cond b (has_room_for_code h c.object c.signal) (nat_lt h.last greatest_handler) ≡ true → b ≡ true → h.last + h.to_come < greatest_handler
    by true e f = lt_is (h.last + h.to_come) greatest_handler (second (nat_lt (count_by (by_code_to c.object c.signal) h.handlers) h.most) (nat_lt (h.last + h.to_come) greatest_handler) e)
    by false e f = let no : false ≡ true = f in absurd (cc)

-- the handlers with one more
pub connected_is : (h : Connected) (hs : List Handler) (n left : ℕ) (x : Handler) (c : machine.Connection) → hs ≡ h.handlers ++ x ∷ [] → x ≡ new_handler n c → n ≡ h.last + 1
    → left ≡ cond c.by_code h.to_come (h.to_come - 1) → record { handlers = hs; last = n; to_come = left; most = h.most } ≡ with_connection h c
connected_is h hs n left x c e f g k =
    let next : n ≡ suc h.last = omega (arith, g) in
    ap (λ (these : List Handler). record { handlers = these; last = n; to_come = left; most = h.most }) (e ∙ ap (λ (y : Handler). h.handlers ++ y ∷ []) f)
    ∙ ap (λ m. record { handlers = h.handlers ++ new_handler m c ∷ []; last = m; to_come = left; most = h.most }) next
    ∙ ap (λ m. record { handlers = h.handlers ++ new_handler (suc h.last) c ∷ []; last = suc h.last; to_come = m; most = h.most }) k
