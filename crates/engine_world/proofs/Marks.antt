-- Which properties are weak, as code lists it.
use Rattle.std.proofs.Common.{◌≡◌, ℕ, zero, suc, ◌<◌, ◌≤◌, Bool, List, [], ◌∷◌, ◌++◌, length, take, Some, slice_get, refl, sym, ap, ◌∙◌, inl, inr, arith}
use Rattle.std.proofs.lemmas.Bool.{cases_eq}
use Rattle.ui_machine.specs.Seq.{read}
use Rattle.ui_machine.specs.Definition.Properties.{Spec}
use Rattle.engine_world.specs.WeakView.{weak_of}
use Rattle.engine_world.proofs.Building.{mapped_more, one_taken}

pub one_mark_more : (specs : List Spec) (slot : ℕ) (s : Spec) (marks : List Bool) → slice_get specs slot ≡ Some s
    → marks ≡ weak_of (take slot specs) → marks ++ s.weak ∷ [] ≡ weak_of (take (suc slot) specs)
one_mark_more specs slot s marks at before =
    ap (λ ms. ms ++ s.weak ∷ []) before
    ∙ sym (mapped_more (λ (t : Spec). t.weak) (take slot specs) s)
    ∙ ap weak_of (sym (one_taken specs slot s at))

read-last : (rows : List (List Bool)) (row : List Bool) → read [] (rows ++ row ∷ []) (length rows) ≡ row
read-last [] row = refl
read-last (r ∷ rows) row = read-last rows row

read-first : (rows : List (List Bool)) (row : List Bool) (i : ℕ) → i < length rows → read [] (rows ++ row ∷ []) i ≡ read [] rows i
read-first [] row i small = absurd (omega arith)
read-first (r ∷ rows) row zero small = refl
read-first (r ∷ rows) row (suc i) small = read-first rows row i (omega arith)

-- the marks of one type more
pub one_type_more : (of : ℕ → List Bool) (rows : List (List Bool)) (n : ℕ) → length rows ≡ n
    → ((class : ℕ) → class < n → of class ≡ read [] rows class)
    → (class : ℕ) → class < suc n → of class ≡ read [] (rows ++ of n ∷ []) class
one_type_more of rows n long known class small = elim (cases_eq class n) [
  | inl is ↦ ap of is ∙ sym (read-last rows (of n)) ∙ ap (read [] (rows ++ of n ∷ [])) (long ∙ sym is)
  | inr ne ↦ let less : class < n = omega arith in known class less ∙ sym (read-first rows (of n) class (omega (arith, long, less)))
]

pub read_past : {A : Type 0} (none : A) (xs : List A) (i : ℕ) → length xs ≤ i → read none xs i ≡ none
read_past none [] i past = refl
read_past none (x ∷ xs) zero past = absurd (omega arith)
read_past none (x ∷ xs) (suc i) past = read_past none xs i (omega arith)
