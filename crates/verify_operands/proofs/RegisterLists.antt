-- Registers against what is wanted of them.
use Rattle.std.proofs.Common.{true, false, ◌≡◌, refl, ap, ◌∙◌, ℕ, ◌+◌, ◌<◌, ◌≤◌, List, [], ◌∷◌, length, drop, Err, slice_index_or}
use Rattle.std.specs.Prelude.{◌&&◌}
use Rattle.bytecode.specs.declared.programs.RegisterKind.{RegisterKind as CodeKind}
use Rattle.bytecode.specs.View.{register_kind_view}
use Rattle.ui_machine.specs.Seq.{read}
use Rattle.ui_machine.specs.Definition.{Definition}
use Rattle.ui_machine.specs.Definition.Kinds.{Kind, RegisterKind}
use Rattle.ui_machine.specs.Definition.Kinds as kinds
use Rattle.law_typing.specs.Rules.RegisterKinds.{Kinds, fits, kind_in, kinds_fit}
use Rattle.law_typing.specs.Rules.Typing.{class_of_operand}
use Rattle.verify_operands.specs.Views.{kinds_of, rule_of_value}
use Rattle.verify_operands.proofs.MappedLists.{from_end, from_entry, less_one, first_of_rest}

-- a register with a kind of values is no object operand
pub of_value : (d : Definition) (k : Kind) → class_of_operand d (kinds.plain k) ≡ Err (rule_of_value k)
of_value d kinds.bool = refl
of_value d (kinds.whole w) = refl
of_value d kinds.text = refl
of_value d (kinds.enum t) = refl
of_value d (kinds.flags t) = refl
of_value d (kinds.object t) = refl

-- nothing is wanted
pub none_wanted : (d : Definition) (ks : Kinds) → kinds_fit d ks [] ≡ true
none_wanted d [] = refl
none_wanted d (k ∷ ks) = refl

-- the first is looked at, and then the rest
first_wanted : (d : Definition) (ks : Kinds) (e : RegisterKind) (es : Kinds) →
    kinds_fit d ks (e ∷ es) ≡ (fits d (read kinds.unset ks 0) e && kinds_fit d (drop 1 ks) es)
first_wanted d [] e es = refl
first_wanted d (k ∷ ks) e es = refl

-- the same from a register on
pub next_wanted : (d : Definition) (ks : Kinds) (es : List CodeKind) (n : ℕ) (e : CodeKind) → n < length es → e ≡ slice_index_or es n e →
    kinds_fit d (drop n ks) (drop n (kinds_of es)) ≡ (fits d (kind_in ks n) (register_kind_view e) && kinds_fit d (drop (n + 1) ks) (drop (n + 1) (kinds_of es)))
next_wanted d ks es n e within is =
    ap (λ xs. kinds_fit d (drop n ks) xs) (from_entry register_kind_view es n e within is)
    ∙ (first_wanted d (drop n ks) (register_kind_view e) (drop (n + 1) (kinds_of es))
    ∙ (ap (λ k. fits d k (register_kind_view e) && kinds_fit d (drop 1 (drop n ks)) (drop (n + 1) (kinds_of es))) (first_of_rest kinds.unset n ks)
    ∙ ap (λ xs. fits d (kind_in ks n) (register_kind_view e) && kinds_fit d xs (drop (n + 1) (kinds_of es))) (less_one n ks)))

-- a register that does not fit is enough
pub stops : (d : Definition) (ks : Kinds) (es : List CodeKind) (n : ℕ) (e : CodeKind) →
    kinds_fit d ks (kinds_of es) ≡ kinds_fit d (drop n ks) (drop n (kinds_of es)) → n < length es → e ≡ slice_index_or es n e →
    fits d (kind_in ks n) (register_kind_view e) ≡ false → kinds_fit d ks (kinds_of es) ≡ false
stops d ks es n e so_far within is fails =
    so_far ∙ (next_wanted d ks es n e within is ∙ ap (λ b. b && kinds_fit d (drop (n + 1) ks) (drop (n + 1) (kinds_of es))) fails)

-- where it fits, the next one decides
pub goes_on : (d : Definition) (ks : Kinds) (es : List CodeKind) (n : ℕ) (e : CodeKind) →
    kinds_fit d ks (kinds_of es) ≡ kinds_fit d (drop n ks) (drop n (kinds_of es)) → n < length es → e ≡ slice_index_or es n e →
    fits d (kind_in ks n) (register_kind_view e) ≡ true → kinds_fit d ks (kinds_of es) ≡ kinds_fit d (drop (n + 1) ks) (drop (n + 1) (kinds_of es))
goes_on d ks es n e so_far within is passes =
    so_far ∙ (next_wanted d ks es n e within is ∙ ap (λ b. b && kinds_fit d (drop (n + 1) ks) (drop (n + 1) (kinds_of es))) passes)

-- and at the end all fit
pub ends : (d : Definition) (ks : Kinds) (es : List CodeKind) (n : ℕ) →
    kinds_fit d ks (kinds_of es) ≡ kinds_fit d (drop n ks) (drop n (kinds_of es)) → length es ≤ n → kinds_fit d ks (kinds_of es) ≡ true
ends d ks es n so_far behind =
    so_far ∙ (ap (λ xs. kinds_fit d (drop n ks) xs) (from_end register_kind_view es n behind) ∙ none_wanted d (drop n ks))
