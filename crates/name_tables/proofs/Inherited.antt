-- Numbers that classes have from their ancestors.
use Rattle.std.proofs.Common.{◌≡◌, ℕ, zero, suc, ◌+◌, ◌<◌, ◌≤◌, Bool, true, false, cond, nat_eq, List, [], ◌∷◌, length, Option, None, Some, option_and_then, refl, sym, ap, subst, ◌∙◌, arith, inl, inr}
use Rattle.std.proofs.lemmas.Bool.{cases_lt}
use Rattle.std.proofs.lemmas.Bool.Decides.{nat_tests}
use Rattle.ui_machine.specs.Definition.Names.{same_name}
use Rattle.ui_machine.specs.Definition.Types.{GType}
use Rattle.ui_machine.specs.Output.Text.{no_type}
use Rattle.ui_machine.specs.Rules.Ancestry.{lineage, parent_of}
use Rattle.ui_machine.specs.Rules.EmissionPlan.{first_given, or_else}
use Rattle.type_tree.specs.Tree.{IsTree}
use Rattle.type_tree.proofs.Entries.{read-past}
use Rattle.type_tree.proofs.Lines.{line_from-parent, line_from-root}
use Rattle.name_tables.specs.Names.{Named, Inherits, number_in, number_of}
use Rattle.name_tables.specs.Steps.{InheritsNumber, InheritsNumbers, parent_number}
use Rattle.name_tables.proofs.Lookups.{found, number_of-found, numbers_of, set_numbers}

-- ** what is given first

-- where nothing is given, nothing is first
first_given-none : (line : List ℕ) → first_given (λ c. None) line ≡ None
first_given-none [] = refl
first_given-none (c ∷ line) = first_given-none line

-- what is given alike is first alike
first_given-same : (f g : ℕ → Option ℕ) → ((c : ℕ) → f c ≡ g c) → (line : List ℕ) → first_given f line ≡ first_given g line
first_given-same f g same [] = refl
first_given-same f g same (c ∷ line) =
    ap (λ o. or_else o (first_given f line)) (same c) ∙ ap (or_else (g c)) (first_given-same f g same line)

-- a choice that does not depend on the class is made once
first_given-cond : (b : Bool) (f g : ℕ → Option ℕ) (line : List ℕ) → cond b (first_given f line) (first_given g line) ≡ first_given (λ c. cond b (f c) (g c)) line
first_given-cond true f g line = refl
first_given-cond false f g line = refl

or_else-none : (o : Option ℕ) → o ≡ or_else o None
or_else-none None = refl
or_else-none (Some n) = refl

-- ** the classes of a name

-- the classes before one have what they inherit, and the others what they had
pub record InheritsBefore (types : List GType) (old new : List (ℕ × ℕ)) (class : ℕ) : Type 0 where
  pub done : (c : ℕ) → c < class → number_in new c ≡ first_given (number_in old) (lineage types c)
  pub rest : (c : ℕ) → class ≤ c → number_in new c ≡ number_in old c

module _ (types : List GType) (tree : IsTree types) where
  -- what a line gives first is what the class gives, or else the line of its parent
  first_given-child : (f : ℕ → Option ℕ) (t : ℕ)
      → or_else (f t) (option_and_then (λ p. first_given f (lineage types p)) (parent_of types t)) ≡ first_given f (lineage types t)
  first_given-child f t = by (parent_of types t) refl
    where
      above : ℕ → Option ℕ
      above p = first_given f (lineage types p)

      by : (o : Option ℕ) → parent_of types t ≡ o → or_else (f t) (option_and_then above (parent_of types t)) ≡ first_given f (lineage types t)
      by None root =
          ap (λ o. or_else (f t) (option_and_then above o)) root ∙ ap (λ line. or_else (f t) (first_given f line)) (sym (line_from-root types tree t root))
      by (Some p) child =
          ap (λ o. or_else (f t) (option_and_then above o)) child ∙ ap (λ line. or_else (f t) (first_given f line)) (sym (line_from-parent types tree t p child))

  module _ (old : List (ℕ × ℕ)) where
    -- a parent comes before its children, so it has what it inherits
    parent_number-before : (new : List (ℕ × ℕ)) (class : ℕ) → InheritsBefore types old new class
        → parent_number types new class ≡ option_and_then (λ p. first_given (number_in old) (lineage types p)) (parent_of types class)
    parent_number-before new class before = by (parent_of types class) refl
      where
        by : (o : Option ℕ) → parent_of types class ≡ o
            → option_and_then (number_in new) o ≡ option_and_then (λ p. first_given (number_in old) (lineage types p)) o
        by None is = refl
        by (Some p) is = before.done p (tree.parents_first class p is)

    -- one class more
    pub before-more : (new next : List (ℕ × ℕ)) (class : ℕ) → InheritsBefore types old new class → InheritsNumber types new next class
        → InheritsBefore types old next (class + 1)
    before-more new next class before step = record {
      done = λ c small. elim (cases_lt c class) [
        | inl less ↦ past c (omega arith) ∙ before.done c less
        | inr more ↦ here c (omega arith)
      ];
      rest = λ c large. past c (omega arith) ∙ before.rest c (omega arith);
    }
      where
        past : (c : ℕ) → (c ≡ class → ⊥) → number_in next c ≡ number_in new c
        past c other =
            let no : nat_eq c class ≡ false = grind (arith, nat_tests) in
            step c ∙ ap (λ b. cond b (or_else (number_in new class) (parent_number types new class)) (number_in new c)) no

        here : (c : ℕ) → c ≡ class → number_in next c ≡ first_given (number_in old) (lineage types c)
        here c is =
            let yes : nat_eq c class ≡ true = grind (arith, nat_tests) in
            step c ∙ ap (λ b. cond b (or_else (number_in new class) (parent_number types new class)) (number_in new c)) yes
            ∙ ap (λ o. or_else o (parent_number types new class)) (before.rest class (omega arith))
            ∙ ap (or_else (number_in old class)) (parent_number-before new class before)
            ∙ first_given-child (number_in old) class
            ∙ ap (λ t. first_given (number_in old) (lineage types t)) (sym is)

    -- past the tree there are no parents, so all classes have what they inherit
    pub before-all : (new : List (ℕ × ℕ)) (class : ℕ) → InheritsBefore types old new class → length types ≤ class → InheritsNumbers types old new
    before-all new class before all c = elim (cases_lt c class) [
      | inl less ↦ before.done c less
      | inr more ↦ before.rest c more ∙ alone (ap (λ (g : GType). g.parent) (read-past no_type types c (omega arith)))
    ]
      where
        alone : parent_of types c ≡ None → number_in old c ≡ first_given (number_in old) (lineage types c)
        alone root =
            or_else-none (number_in old c) ∙ ap (λ line. or_else (number_in old c) (first_given (number_in old) line)) (sym (line_from-root types tree c root))

-- ** the names of a table

-- the first names, so many, have what their classes inherit, and the others are as they were
abbrev pub InheritsFirst : List GType → ℕ → List Named → List Named → Type 0
InheritsFirst types zero old new = new ≡ old
InheritsFirst types (suc n) [] new = new ≡ []
InheritsFirst types (suc n) (x ∷ xs) [] = ⊥
InheritsFirst types (suc n) (x ∷ xs) (y ∷ ys) = (y.name ≡ x.name) × InheritsNumbers types x.numbers y.numbers × InheritsFirst types n xs ys

module _ (types : List GType) where
  -- they are as many
  pub first-length : (n : ℕ) (xs ys : List Named) → InheritsFirst types n xs ys → length ys ≡ length xs
  first-length zero xs ys same = ap (λ (l : List Named). length l) same
  first-length (suc n) [] ys same = ap (λ (l : List Named). length l) same
  first-length (suc n) (x ∷ xs) [] h = absurd h
  first-length (suc n) (x ∷ xs) (y ∷ ys) h = ap suc (first-length n xs ys h.2)

  -- one name more
  pub first-more : (n : ℕ) (xs ys : List Named) (before numbers : List (ℕ × ℕ)) → InheritsFirst types n xs ys → numbers_of ys n ≡ Some before
      → InheritsNumbers types before numbers → InheritsFirst types (suc n) xs (set_numbers ys n numbers)
  first-more zero [] ys before numbers same at inherits = ap (λ l. set_numbers l 0 numbers) same
  first-more zero (x ∷ xs) [] before numbers same at inherits = absurd (cc)
  first-more zero (x ∷ xs) (y ∷ ys) before numbers same at inherits =
      let one : y ≡ x = cc in
      let his : before ≡ x.numbers = cc in
      (ap (λ (n : Named). n.name) one, subst (λ l. InheritsNumbers types l numbers) his inherits, cc)
  first-more (suc n) [] ys before numbers same at inherits = ap (λ l. set_numbers l (suc n) numbers) same
  first-more (suc n) (x ∷ xs) [] before numbers h at inherits = absurd h
  first-more (suc n) (x ∷ xs) (y ∷ ys) before numbers h at inherits = (h.0, h.1, first-more n xs ys before numbers h.2 at inherits)

  found-first : (n : ℕ) (xs ys : List Named) (c : ℕ) (name : List ℕ) → length xs ≤ n → InheritsFirst types n xs ys
      → found ys c name ≡ first_given (λ t. found xs t name) (lineage types c)
  found-first zero [] ys c name all same = ap (λ l. found l c name) same ∙ sym (first_given-none (lineage types c))
  found-first zero (x ∷ xs) ys c name all same = absurd (omega arith)
  found-first (suc n) [] ys c name all same = ap (λ l. found l c name) same ∙ sym (first_given-none (lineage types c))
  found-first (suc n) (x ∷ xs) [] c name all h = absurd h
  found-first (suc n) (x ∷ xs) (y ∷ ys) c name all h =
      ap (λ m. cond (same_name m name) (number_in y.numbers c) (found ys c name)) h.0
      ∙ ap (λ o. cond (same_name x.name name) o (found ys c name)) (h.1 c)
      ∙ ap (cond (same_name x.name name) (first_given (number_in x.numbers) (lineage types c))) (found-first n xs ys c name (omega arith) h.2)
      ∙ first_given-cond (same_name x.name name) (number_in x.numbers) (λ t. found xs t name) (lineage types c)

  -- once there are no others, each class has what it inherits
  pub first-all : (n : ℕ) (xs ys : List Named) → length xs ≤ n → InheritsFirst types n xs ys → Inherits types xs ys
  first-all n xs ys all h c name =
      number_of-found ys c name ∙ found-first n xs ys c name all h
      ∙ first_given-same (λ t. found xs t name) (λ t. number_of xs t name) (λ t. sym (number_of-found xs t name)) (lineage types c)
