-- What is given against parameters.
use Rattle.std.proofs.Common.{Bool, true, false, ◌≡◌, refl, ap, ◌∙◌, ℕ, suc, ◌+◌, ◌<◌, ◌≤◌, List, [], ◌∷◌, length, drop, slice_index_or}
use Rattle.std.specs.Prelude.{◌&&◌}
use Rattle.bytecode.specs.declared.programs.RegisterKind.{RegisterKind as CodeKind}
use Rattle.bytecode.specs.View.{register_kind_view}
use Rattle.ui_machine.specs.Definition.{Definition}
use Rattle.law_typing.specs.Rules.RegisterKinds.{fits}
use Rattle.law_typing.specs.Rules.Signatures.{parameters_fit}
use Rattle.verify_operands.specs.Views.{kinds_of}
use Rattle.verify_operands.proofs.MappedLists.{from_end, from_entry}

none : (b : Bool) → {c : Bool} → c ≡ false → (b && c) ≡ false
none true e = e
none false e = refl

-- where the counts differ nothing fits
pub other_count : (d : Definition) (ks ps : List CodeKind) → (length ks ≡ length ps → ⊥) → parameters_fit d (kinds_of ks) (kinds_of ps) ≡ false
other_count d [] [] other = absurd (other refl)
other_count d [] (p ∷ ps) other = refl
other_count d (k ∷ ks) [] other = refl
other_count d (k ∷ ks) (p ∷ ps) other =
    none (fits d (register_kind_view k) (register_kind_view p)) (other_count d ks ps (λ same. other (ap suc same)))

-- one after the other
pub next_parameter : (d : Definition) (ks ps : List CodeKind) (n : ℕ) (k p : CodeKind) → n < length ks → n < length ps →
    k ≡ slice_index_or ks n k → p ≡ slice_index_or ps n p →
    parameters_fit d (drop n (kinds_of ks)) (drop n (kinds_of ps))
    ≡ (fits d (register_kind_view k) (register_kind_view p) && parameters_fit d (drop (n + 1) (kinds_of ks)) (drop (n + 1) (kinds_of ps)))
next_parameter d ks ps n k p within inside is are =
    ap (λ xs. parameters_fit d xs (drop n (kinds_of ps))) (from_entry register_kind_view ks n k within is)
    ∙ ap (λ xs. parameters_fit d (register_kind_view k ∷ drop (n + 1) (kinds_of ks)) xs) (from_entry register_kind_view ps n p inside are)

-- one that does not fit is enough
pub stops : (d : Definition) (ks ps : List CodeKind) (n : ℕ) (k p : CodeKind) →
    parameters_fit d (kinds_of ks) (kinds_of ps) ≡ parameters_fit d (drop n (kinds_of ks)) (drop n (kinds_of ps)) →
    n < length ks → n < length ps → k ≡ slice_index_or ks n k → p ≡ slice_index_or ps n p →
    fits d (register_kind_view k) (register_kind_view p) ≡ false → parameters_fit d (kinds_of ks) (kinds_of ps) ≡ false
stops d ks ps n k p so_far within inside is are fails =
    so_far ∙ (next_parameter d ks ps n k p within inside is are
    ∙ ap (λ b. b && parameters_fit d (drop (n + 1) (kinds_of ks)) (drop (n + 1) (kinds_of ps))) fails)

-- where it fits, the next one decides
pub goes_on : (d : Definition) (ks ps : List CodeKind) (n : ℕ) (k p : CodeKind) →
    parameters_fit d (kinds_of ks) (kinds_of ps) ≡ parameters_fit d (drop n (kinds_of ks)) (drop n (kinds_of ps)) →
    n < length ks → n < length ps → k ≡ slice_index_or ks n k → p ≡ slice_index_or ps n p →
    fits d (register_kind_view k) (register_kind_view p) ≡ true →
    parameters_fit d (kinds_of ks) (kinds_of ps) ≡ parameters_fit d (drop (n + 1) (kinds_of ks)) (drop (n + 1) (kinds_of ps))
goes_on d ks ps n k p so_far within inside is are passes =
    so_far ∙ (next_parameter d ks ps n k p within inside is are
    ∙ ap (λ b. b && parameters_fit d (drop (n + 1) (kinds_of ks)) (drop (n + 1) (kinds_of ps))) passes)

-- and at the end all fit
pub ends : (d : Definition) (ks ps : List CodeKind) (n : ℕ) →
    parameters_fit d (kinds_of ks) (kinds_of ps) ≡ parameters_fit d (drop n (kinds_of ks)) (drop n (kinds_of ps)) →
    length ks ≤ n → length ps ≤ n → parameters_fit d (kinds_of ks) (kinds_of ps) ≡ true
ends d ks ps n so_far behind past =
    so_far ∙ (ap (λ xs. parameters_fit d xs (drop n (kinds_of ps))) (from_end register_kind_view ks n behind)
    ∙ ap (λ xs. parameters_fit d [] xs) (from_end register_kind_view ps n past))
