-- The defaults of a class's properties, one by one.
use Rattle.std.proofs.Common.{◌≡◌, refl, sym, ap, ◌∙◌, ℕ, zero, suc, List, [], ◌∷◌, ◌++◌, map, take, Some, slice_get}
use Rattle.ui_machine.specs.Definition.Properties.{Spec}
use Rattle.g_values.specs.View.{value_view}
use Rattle.g_values.specs.declared.value.Value.{Value}

mapped_more : {A B : Type 0} (f : A → B) (xs : List A) (x : A) → map f (xs ++ x ∷ []) ≡ map f xs ++ f x ∷ []
mapped_more f [] x = refl
mapped_more f (y ∷ xs) x = ap (λ zs. f y ∷ zs) (mapped_more f xs x)

one_taken : (specs : List Spec) (slot : ℕ) (s : Spec) → slice_get specs slot ≡ Some s → take (suc slot) specs ≡ take slot specs ++ s ∷ []
one_taken [] slot s at = absurd (cc at)
one_taken (t ∷ specs) zero s at = cc
one_taken (t ∷ specs) (suc slot) s at = ap (λ ss. t ∷ ss) (one_taken specs slot s at)

pub one_default_more : (specs : List Spec) (slot : ℕ) (s : Spec) (vs : List Value) (v : Value) → slice_get specs slot ≡ Some s → value_view v ≡ s.default
    → map value_view vs ≡ map (λ (t : Spec). t.default) (take slot specs) → map value_view (vs ++ v ∷ []) ≡ map (λ (t : Spec). t.default) (take (suc slot) specs)
one_default_more specs slot s vs v at default before =
    mapped_more value_view vs v
    ∙ ap (λ ws. ws ++ value_view v ∷ []) before
    ∙ ap (λ x. map (λ (t : Spec). t.default) (take slot specs) ++ x ∷ []) default
    ∙ sym (mapped_more (λ (t : Spec). t.default) (take slot specs) s)
    ∙ ap (map (λ (t : Spec). t.default)) (sym (one_taken specs slot s at))
