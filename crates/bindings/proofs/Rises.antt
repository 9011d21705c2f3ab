-- The numbers of bindings go on rising where one is made, some end and some are changed.
use Rattle.std.proofs.Common.{◌≡◌, ℕ, ◌+◌, ◌<◌, ◌≤◌, ◌++◌, Bool, true, false, cond, map, List, [], ◌∷◌, arith}
use Rattle.std.specs.List.{AllByRecursion, filter}
use Rattle.ui_machine.specs.State.Bindings.{Binding}
use Rattle.bindings.specs.Kept.{Numbered}

-- from a lower number too
pub numbered_lower : (low from : ℕ) (bs : List Binding) (limit : ℕ) → low ≤ from → Numbered from bs limit → Numbered low bs limit
numbered_lower low from [] limit below n = omega arith
numbered_lower low from (b ∷ bs) limit below n = (omega (arith, n.0), n.1)

-- with one more under a number above all
pub numbered_push : (from : ℕ) (bs : List Binding) (limit : ℕ) (b : Binding) → from ≤ b.number → AllByRecursion (λ x. x.number < b.number) bs → b.number < limit → Numbered from bs limit
    → Numbered from (bs ++ b ∷ []) limit
numbered_push from [] limit b low below few n = (low, omega (arith, few))
numbered_push from (x ∷ bs) limit b low below few n = (n.0, numbered_push (x.number + 1) bs limit b (omega (arith, below.0)) below.1 few n.1)

-- without some
pub numbered_filter : (p : Binding → Bool) (from : ℕ) (bs : List Binding) (limit : ℕ) → Numbered from bs limit → Numbered from (filter p bs) limit
numbered_filter p from [] limit n = n
numbered_filter p from (b ∷ bs) limit n =
    by (p b) (numbered_filter p (b.number + 1) bs limit n.1) (numbered_filter p from bs limit (numbered_lower from (b.number + 1) bs limit (omega (arith, n.0)) n.1))
  where
    by : (t : Bool) → Numbered (b.number + 1) (filter p bs) limit → Numbered from (filter p bs) limit → Numbered from (cond t (b ∷ filter p bs) (filter p bs)) limit
    by true kept gone = (n.0, kept)
    by false kept gone = gone

-- with some changed, that keep their numbers
pub numbered_map : (f : Binding → Binding) → ((b : Binding) → (f b).number ≡ b.number) → (from : ℕ) (bs : List Binding) (limit : ℕ)
    → Numbered from bs limit → Numbered from (map f bs) limit
numbered_map f same from [] limit n = n
numbered_map f same from (b ∷ bs) limit n = (rw (same b) n.0, rw (same b) (numbered_map f same (b.number + 1) bs limit n.1))

-- the limit is not below the first number
pub numbered_within : (from : ℕ) (bs : List Binding) (limit : ℕ) → Numbered from bs limit → from ≤ limit
numbered_within from [] limit n = n
numbered_within from (b ∷ bs) limit n = let within = numbered_within (b.number + 1) bs limit n.1 in omega (arith, n.0, within)
