-- The types that a class is.
use Rattle.std.proofs.Common.{◌≡◌, ◌∙◌, ℕ, Bool, true, false, cond, nat_eq, ◌||◌, List, None, Some, refl, sym, ap, arith}
use Rattle.std.specs.BTreeMap.{is_at}
use Rattle.std.specs.List.{list_any}
use Rattle.std.specs.Ordering.{nat_cmp}
use Rattle.std.proofs.lemmas.Bool.Decides.{nat_tests}
use Rattle.std.proofs.Math.Bool.{or_assoc}
use Rattle.ui_machine.specs.Definition.Types.{GType}
use Rattle.ui_machine.specs.Rules.Ancestry.{is_a, is_or_implements, parent_of}
use Rattle.type_tree.specs.Adding.{would_be}
use Rattle.type_tree.specs.Tree.{IsTree}
use Rattle.type_tree.proofs.Lines.{line_from-parent, line_from-root}

or_comm : (a b : Bool) → (a || b) ≡ (b || a)
or_comm true true = refl
or_comm true false = refl
or_comm false true = refl
or_comm false false = refl

or_false : (b : Bool) → b ≡ (b || false)
or_false true = refl
or_false false = refl

-- a query finds the key that is its number
finds : (s t : ℕ) → is_at (nat_cmp s) t ≡ nat_eq s t
finds s t = grind (arith, nat_tests)

turned : (s t : ℕ) → nat_eq s t ≡ nat_eq t s
turned s t = grind (arith, nat_tests)

if_or : (b rest : Bool) → cond b true rest ≡ (rest || b)
if_or true true = refl
if_or true false = refl
if_or false rest = or_false rest

-- one type more
pub type_added : (s t : ℕ) (new had : Bool) → new ≡ cond (is_at (nat_cmp s) t) true had → new ≡ (had || nat_eq s t)
type_added s t new had is = is ∙ ap (λ b. cond b true had) (finds s t) ∙ if_or (nat_eq s t) had

-- as a test of the other
pub type_found : (s t : ℕ) (new had : Bool) → new ≡ cond (is_at (nat_cmp s) t) true had → new ≡ (had || nat_eq t s)
type_found s t new had is = type_added s t new had is ∙ ap (λ b. had || b) (turned s t)

-- a class and what it names
pub class_added : (class t : ℕ) (implements new mid had : Bool) → mid ≡ cond (is_at (nat_cmp class) t) true had → new ≡ (mid || implements) → new ≡ (had || (nat_eq class t || implements))
class_added class t implements new mid had own more =
    more ∙ ap (λ b. b || implements) (type_added class t mid had own) ∙ or_assoc had (nat_eq class t) implements

module _ (types : List GType) (tree : IsTree types) (t : ℕ) where
  -- what is left is what the line has from a class on
  pub is_above : (class parent : ℕ) (new mid all : Bool) → parent_of types class ≡ Some parent → new ≡ (mid || is_or_implements types t class) → (mid || is_a types class t) ≡ all
      → (new || is_a types parent t) ≡ all
  is_above class parent new mid all up is before =
      ap (λ b. b || is_a types parent t) is
      ∙ or_assoc mid (is_or_implements types t class) (is_a types parent t)
      ∙ ap (λ l. mid || (is_or_implements types t class || list_any (is_or_implements types t) l)) (sym (line_from-parent types tree class parent up))
      ∙ before

  -- at the root nothing is left
  pub is_whole : (class parent : ℕ) (named : List ℕ) (new mid had : Bool) → parent_of types class ≡ None → new ≡ (mid || is_or_implements types t class)
      → (mid || is_a types class t) ≡ (had || is_a types parent t) → had ≡ list_any (nat_eq t) named → new ≡ would_be types parent named t
  is_whole class parent named new mid had root is before first =
      is
      ∙ ap (λ b. mid || b) (or_false (is_or_implements types t class) ∙ ap (λ l. is_or_implements types t class || list_any (is_or_implements types t) l) (sym (line_from-root types tree class root)))
      ∙ before
      ∙ ap (λ b. b || is_a types parent t) first
      ∙ or_comm (list_any (nat_eq t) named) (is_a types parent t)
