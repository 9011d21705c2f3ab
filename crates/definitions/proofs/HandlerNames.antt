-- The programs that a class names for signals, by name: one more of them.
use Rattle.std.proofs.Common.{◌≡◌, ℕ, zero, suc, Bool, true, false, cond, List, [], ◌∷◌, take, None, Some, slice_get, refl, ap}
use Rattle.ui_machine.specs.Definition.Names.{same_name}
use Rattle.ui_machine.specs.Definition.Signals.{ClassHandler}
use Rattle.ui_machine.specs.Rules.EmissionPlan.{handler_in}
use Rattle.name_tables.specs.Names.{with_number}

-- the first program of a name, with one more
pub handler_in-more : (name : List ℕ) (hs : List ClassHandler) (n : ℕ) (h : ClassHandler) → slice_get hs n ≡ Some h
    → handler_in (take (suc n) hs) name ≡ with_number (same_name h.signal name) h.program (handler_in (take n hs) name)
handler_in-more name [] n h at = cc
handler_in-more name (y ∷ hs) zero h at = let is : y ≡ h = cc in ap (λ (z : ClassHandler). cond (same_name z.signal name) (Some z.program) None) is
handler_in-more name (y ∷ hs) (suc n) h at = by (same_name y.signal name) (handler_in-more name hs n h at)
  where
    by : (b : Bool) → handler_in (take (suc n) hs) name ≡ with_number (same_name h.signal name) h.program (handler_in (take n hs) name)
        → cond b (Some y.program) (handler_in (take (suc n) hs) name) ≡ with_number (same_name h.signal name) h.program (cond b (Some y.program) (handler_in (take n hs) name))
    by true rest = refl
    by false rest = rest
