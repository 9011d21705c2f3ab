-- Values, one after the other, as a loop takes them.
use Rattle.std.proofs.Common.{◌≡◌, ℕ, suc, ◌+◌, ◌≤◌, ◌<◌, List, ◌∷◌, length, map, Option, option_map, drop, get_or, refl, ap, arith, add-one}
use Rattle.std.proofs.Math.Seq.{drop-cons}
use Rattle.std.proofs.lemmas.List.{nil_from_length, length-drop}
use Rattle.ui_machine.specs.Definition.Values as values
use Rattle.ui_machine.specs.Seq.{total}
use Rattle.g_values.specs.View.{value_view}
use Rattle.g_values.specs.declared.value.Value.{Value}
use Rattle.bytecode.specs.Computing.{registers_of}

module _ (f : values.Value → ℕ) (vs : List Value) (i : ℕ) where
  -- the one at a place, and those behind it
  pub values_next : (v : Value) → i < length vs → v ≡ get_or vs i v → total f (map value_view (drop i vs)) ≡ f (value_view v) + total f (map value_view (drop (i + 1) vs))
  values_next v lt is = let e : drop i vs ≡ get_or vs i v ∷ drop (suc i) vs = drop-cons vs i v lt in rw (add-one, e, ← is) refl

  -- past the end there are none
  pub values_end : length vs ≤ i → total f (map value_view (drop i vs)) ≡ 0
  values_end le = ap (λ (xs : List Value). total f (map value_view xs)) (nil_from_length (drop i vs) (omega (arith, length-drop i vs)))

-- the same of registers
module _ (f : Option values.Value → ℕ) (rs : List (Option Value)) (i : ℕ) where
  pub registers_next : (r : Option Value) → i < length rs → r ≡ get_or rs i r → total f (registers_of (drop i rs)) ≡ f (option_map value_view r) + total f (registers_of (drop (i + 1) rs))
  registers_next r lt is = let e : drop i rs ≡ get_or rs i r ∷ drop (suc i) rs = drop-cons rs i r lt in rw (add-one, e, ← is) refl

  pub registers_end : length rs ≤ i → total f (registers_of (drop i rs)) ≡ 0
  registers_end le = ap (λ (xs : List (Option Value)). total f (registers_of xs)) (nil_from_length (drop i rs) (omega (arith, length-drop i rs)))
