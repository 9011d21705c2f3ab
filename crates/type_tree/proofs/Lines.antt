-- The line from a type up to the root.
use Rattle.std.proofs.Common.{◌≡◌, ℕ, zero, suc, ◌+◌, ◌<◌, ◌≤◌, true, false, ◌||◌, List, [], ◌∷◌, length, Option, None, Some, IfSome, refl, sym, ap, ◌∙◌, arith, add-one, inl, inr}
use Rattle.std.specs.List.{list_any}
use Rattle.std.proofs.lemmas.Bool.{cases_lt}
use Rattle.std.proofs.lemmas.Option.{none-some}
use Rattle.ui_machine.specs.Definition.Types.{GType}
use Rattle.ui_machine.specs.Output.Text.{no_type}
use Rattle.ui_machine.specs.Rules.Ancestry.{parent_of, line_from, is_a, is_or_implements, depth}
use Rattle.type_tree.specs.Tree.{IsTree}
use Rattle.type_tree.proofs.Entries.{read-past, parent_before}

module _ (types : List GType) (tree : IsTree types) where
  -- where a parent is
  below_more : (t n : ℕ) (o : Option ℕ) → IfSome o (λ p. p < t) → t ≤ n → IfSome o (λ p. p < n)
  below_more t n None h l = tt
  below_more t n (Some p) h l = omega (arith, h)

  parent_below : (t n : ℕ) → t ≤ n → IfSome (parent_of types t) (λ p. p < n)
  parent_below t n l = below_more t n (parent_of types t) (parent_before types tree t (parent_of types t) refl) l

  pub parent_within : (t p : ℕ) → parent_of types t ≡ Some p → p < length types
  parent_within t p h =
      elim (cases_lt t (length types)) [ inl l ↦ omega (arith, tree.parents_first t p h, l) | inr l ↦ absurd (none-some p (sym (ap (λ g. g.parent) (read-past no_type types t l)) ∙ h)) ]

  -- the line does not depend on how many it may have, if they are enough
  line_from-enough : (m n : ℕ) (o : Option ℕ) → IfSome o (λ p. p < m) → IfSome o (λ p. p < n) → line_from m types o ≡ line_from n types o
  line_from-enough zero zero o a b = refl
  line_from-enough zero (suc n) None a b = refl
  line_from-enough zero (suc n) (Some t) a b = absurd (omega (arith, a))
  line_from-enough (suc m) zero None a b = refl
  line_from-enough (suc m) zero (Some t) a b = absurd (omega (arith, b))
  line_from-enough (suc m) (suc n) None a b = refl
  line_from-enough (suc m) (suc n) (Some t) a b =
      ap (λ l. t ∷ l) (line_from-enough m n (parent_of types t) (parent_below t m (omega (arith, a))) (parent_below t n (omega (arith, b))))

  line_from-some : (n t : ℕ) → t < n → line_from n types (Some t) ≡ t ∷ line_from n types (parent_of types t)
  line_from-some zero t h = absurd (omega arith)
  line_from-some (suc n) t h =
      ap (λ l. t ∷ l) (line_from-enough n (suc n) (parent_of types t) (parent_below t n (omega arith)) (parent_below t (suc n) (omega arith)))

  line_from-none : (n : ℕ) → line_from n types None ≡ []
  line_from-none zero = refl
  line_from-none (suc n) = refl

  -- the line of a child is that of its parent, with the child before it
  pub line_from-parent : (t p : ℕ) → parent_of types t ≡ Some p → line_from (length types) types (parent_of types t) ≡ p ∷ line_from (length types) types (parent_of types p)
  line_from-parent t p h = ap (line_from (length types) types) h ∙ line_from-some (length types) p (parent_within t p h)

  pub line_from-root : (t : ℕ) → parent_of types t ≡ None → line_from (length types) types (parent_of types t) ≡ []
  line_from-root t h = ap (line_from (length types) types) h ∙ line_from-none (length types)

  pub is_a-here : (t b : ℕ) → is_or_implements types b t ≡ true → is_a types t b ≡ true
  is_a-here t b h = ap (λ x. x || list_any (is_or_implements types b) (line_from (length types) types (parent_of types t))) h

  pub is_a-up : (t b p : ℕ) → is_or_implements types b t ≡ false → parent_of types t ≡ Some p → is_a types t b ≡ is_a types p b
  is_a-up t b p h e =
      ap (λ x. x || list_any (is_or_implements types b) (line_from (length types) types (parent_of types t))) h
      ∙ ap (list_any (is_or_implements types b)) (line_from-parent t p e)

  pub is_a-root : (t b : ℕ) → is_or_implements types b t ≡ false → parent_of types t ≡ None → is_a types t b ≡ false
  is_a-root t b h e =
      ap (λ x. x || list_any (is_or_implements types b) (line_from (length types) types (parent_of types t))) h
      ∙ ap (list_any (is_or_implements types b)) (line_from-root t e)

  pub depth-up : (t p : ℕ) → parent_of types t ≡ Some p → depth types t ≡ depth types p + 1
  depth-up t p e = ap (λ l. suc (length l)) (line_from-parent t p e) ∙ sym (add-one (depth types p))

  pub depth-root : (t : ℕ) → parent_of types t ≡ None → depth types t ≡ 1
  depth-root t e = ap (λ l. suc (length l)) (line_from-root t e)
