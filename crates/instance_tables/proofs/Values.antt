-- Values that are seen as the machine's, read and written at a slot.
use Rattle.std.proofs.Common.{◌≡◌, ℕ, zero, suc, ◌<◌, List, [], ◌∷◌, length, map, get_or, Some, Ok, slice_get, slice_set, refl, sym, ap, ◌∙◌, arith}
use Rattle.ui_machine.specs.declared.arm.Arm.TheVariants as arms
use Rattle.ui_machine.specs.Definition.Values as values
use Rattle.ui_machine.specs.State.Objects as config
use Rattle.ui_machine.specs.Outcome.{◌>>=◌, known}
use Rattle.ui_machine.specs.State.Objects.{value_at, with_value}
use Rattle.g_values.specs.declared.value.Value.{Value}
use Rattle.g_values.specs.View.{value_view}

module _ {A B : Type 0} (f : A → B) where
  got : (xs : List A) (i : ℕ) (d : A) → i < length xs → slice_get (map f xs) i ≡ Some (f (get_or xs i d))
  got [] i d h = absurd (omega arith)
  got (x ∷ xs) zero d h = refl
  got (x ∷ xs) (suc i) d h = got xs i d (omega arith)

  set-map : (xs : List A) (i : ℕ) (y : A) → map f (slice_set xs i y) ≡ slice_set (map f xs) i (f y)
  set-map [] i y = refl
  set-map (x ∷ xs) zero y = refl
  set-map (x ∷ xs) (suc i) y = ap (λ ys. f x ∷ ys) (set-map xs i y)

-- a value that is there
pub read_there : (o : config.Object) (vs : List Value) (i : ℕ) (v : Value) → o.values ≡ map value_view vs
    → i < length vs → v ≡ get_or vs i v → value_at i o ≡ Ok (value_view v)
read_there o vs i v is lt was =
    ap (λ (xs : List values.Value). known arms.Code (slice_get xs i)) is
    ∙ ap (λ x. known arms.Code x) (got value_view vs i v lt) ∙ ap (λ (x : Value). Ok (value_view x)) (sym was)

-- a value written over another
pub write_over : (o : config.Object) (vs : List Value) (i : ℕ) (v old : Value) → o.values ≡ map value_view vs
    → i < length vs → old ≡ get_or vs i old → with_value i (value_view v) o
    ≡ Ok (record { state = record o { values = map value_view (slice_set vs i v) }; answer = value_view old })
unfolding with_value
write_over o vs i v old is lt was =
    let here : slice_get o.values i ≡ Some (value_view old) =
    ap (λ (xs : List values.Value). slice_get xs i) is ∙ got value_view vs i old lt ∙ ap (λ (x : Value). Some (value_view x)) (sym was) in
    let new : slice_set o.values i (value_view v) ≡ map value_view (slice_set vs i v) =
    ap (λ (xs : List values.Value). slice_set xs i (value_view v)) is ∙ sym (set-map value_view vs i v) in
    ap (λ x. known arms.Code x >>= λ w. Ok (record { state = record o { values = slice_set o.values i (value_view v) }; answer = w }))
    here
    ∙ ap (λ (xs : List values.Value). Ok (record { state = record o { values = xs }; answer = value_view old })) new
