-- What is what: ancestors of ancestors are ancestors.
use Rattle.std.proofs.Common.{◌≡◌, refl, ap, sym, subst, ℕ, zero, suc, ◌<◌, Bool, true, false, List, [], ◌∷◌, length, Option, None, Some, arith}
use Rattle.std.specs.Prelude.{nat_eq, ◌||◌}
use Rattle.std.specs.List.{list_any}
use Rattle.std.proofs.lemmas.Bool.{eqb-true, eq-eqb}
use Rattle.ui_machine.specs.Definition.Types.{GType}
use Rattle.ui_machine.specs.Rules.Ancestry.{parent_of, line_from, implemented_by, is_or_implements, is_a}
use Rattle.machine_laws.specs.TypeLaws.{IsTree, IsAReflexive, IsATransitive}

-- ** truth

left_true : (a b : Bool) → a ≡ true → (a || b) ≡ true
left_true a b e = ap (λ x. x || b) e

right_true : (a b : Bool) → b ≡ true → (a || b) ≡ true
right_true true b e = refl
right_true false b e = e

-- one of two
one_of : {P : Type 0} (a b : Bool) → (a || b) ≡ true → (a ≡ true → P) → (b ≡ true → P) → P
one_of true b e f g = f refl
one_of false b e f g = g e

module _ (types : List GType) where
  no_line : (n : ℕ) → line_from n types None ≡ []
  no_line zero = refl
  no_line (suc n) = refl

  reflexive_at : (n a : ℕ) → list_any (is_or_implements types a) (line_from (suc n) types (Some a)) ≡ true
  reflexive_at n a =
      left_true (is_or_implements types a a) (list_any (is_or_implements types a) (line_from n types (parent_of types a)))
      (left_true (nat_eq a a) (list_any (nat_eq a) (implemented_by types a)) (eq-eqb a a refl))

  nothing_found : {P : Type 0} (n : ℕ) (g : ℕ → Bool) → list_any g (line_from n types None) ≡ true → P
  nothing_found zero g e = absurd (cc)
  nothing_found (suc n) g e = absurd (cc)

  module _ (tree : IsTree types) where
    -- what is found on a line is found on each one that is long enough
    enough : (g : ℕ → Bool) (n m t : ℕ) → t < m → list_any g (line_from n types (Some t)) ≡ true → list_any g (line_from m types (Some t)) ≡ true
    enough g zero m t h e = absurd (cc)
    enough g (suc n) zero t h e = absurd (omega (arith, h))
    enough g (suc n) (suc m) t h e =
        one_of (g t) (list_any g (line_from n types (parent_of types t))) e
        (λ (f : g t ≡ true). left_true (g t) (list_any g (line_from m types (parent_of types t))) f)
        (λ (f : list_any g (line_from n types (parent_of types t)) ≡ true). right_true (g t) (list_any g (line_from m types (parent_of types t)))
        (above (parent_of types t) refl (λ p less. enough g n m p less) f))
      where
        above : (o : Option ℕ) → parent_of types t ≡ o → ((p : ℕ) → p < m → list_any g (line_from n types (Some p)) ≡ true → list_any g (line_from m types (Some p)) ≡ true) →
            list_any g (line_from n types o) ≡ true → list_any g (line_from m types o) ≡ true
        above None k go f = nothing_found n g f
        above (Some p) k go f = let less = tree.earlier t p k in go p (omega (arith, h, less)) f

    -- where what passes one test has on its own line what passes another
    further : (f g : ℕ → Bool) → ((u : ℕ) → f u ≡ true → list_any g (line_from (suc u) types (Some u)) ≡ true) →
        (m t : ℕ) → t < m → list_any f (line_from m types (Some t)) ≡ true → list_any g (line_from m types (Some t)) ≡ true
    further f g pass zero t h e = absurd (omega (arith, h))
    further f g pass (suc m) t h e =
        one_of (f t) (list_any f (line_from m types (parent_of types t))) e
        (λ (k : f t ≡ true). enough g (suc t) (suc m) t h (pass t k))
        (λ (k : list_any f (line_from m types (parent_of types t)) ≡ true). right_true (g t) (list_any g (line_from m types (parent_of types t)))
        (above (parent_of types t) refl (λ p less. further f g pass m p less) k))
      where
        above : (o : Option ℕ) → parent_of types t ≡ o → ((p : ℕ) → p < m → list_any f (line_from m types (Some p)) ≡ true → list_any g (line_from m types (Some p)) ≡ true) →
            list_any f (line_from m types o) ≡ true → list_any g (line_from m types o) ≡ true
        above None k go e = nothing_found m f e
        above (Some p) k go e = let less = tree.earlier t p k in go p (omega (arith, h, less)) e

    -- an interface is nothing else
    only_itself : (n b c : ℕ) → parent_of types b ≡ None → implemented_by types b ≡ [] → list_any (is_or_implements types c) (line_from n types (Some b)) ≡ true → b ≡ c
    only_itself zero b c none empty e = absurd (cc)
    only_itself (suc n) b c none empty e =
        one_of (is_or_implements types c b) (list_any (is_or_implements types c) (line_from n types (parent_of types b))) e
        (λ (k : is_or_implements types c b ≡ true). one_of (nat_eq b c) (list_any (nat_eq c) (implemented_by types b)) k
        (λ (j : nat_eq b c ≡ true). eqb-true b c j)
        (λ (j : list_any (nat_eq c) (implemented_by types b) ≡ true). absurd (no_interface (implemented_by types b) empty j)))
        (λ (k : list_any (is_or_implements types c) (line_from n types (parent_of types b)) ≡ true).
        nothing_found n (is_or_implements types c) (subst (λ (o : Option ℕ). list_any (is_or_implements types c) (line_from n types o) ≡ true) none k))
      where
        no_interface : (is : List ℕ) → is ≡ [] → list_any (nat_eq c) is ≡ true → ⊥
        no_interface [] i j = absurd (cc)
        no_interface (x ∷ is) i j = absurd (cc)

    passes : (b c u : ℕ) → is_a types b c ≡ true → is_or_implements types b u ≡ true → list_any (is_or_implements types c) (line_from (suc u) types (Some u)) ≡ true
    passes b c u e k = one_of (nat_eq u b) (list_any (nat_eq b) (implemented_by types u)) k itself implemented
      where
        itself : nat_eq u b ≡ true → list_any (is_or_implements types c) (line_from (suc u) types (Some u)) ≡ true
        itself j =
            subst (λ (x : ℕ). list_any (is_or_implements types c) (line_from (suc x) types (Some x)) ≡ true) (sym (eqb-true u b j))
            (enough (is_or_implements types c) (suc (length types)) (suc b) b (omega arith) e)

        implemented : list_any (nat_eq b) (implemented_by types u) ≡ true → list_any (is_or_implements types c) (line_from (suc u) types (Some u)) ≡ true
        implemented j =
            let alone = tree.alone u b j in
            let same = only_itself (suc (length types)) b c alone.0 alone.1 e in
            left_true (is_or_implements types c u) (list_any (is_or_implements types c) (line_from u types (parent_of types u)))
            (right_true (nat_eq u c) (list_any (nat_eq c) (implemented_by types u)) (subst (λ (x : ℕ). list_any (nat_eq x) (implemented_by types u) ≡ true) same j))

pub is_a_reflexive : IsAReflexive
is_a_reflexive types a = reflexive_at types (length types) a

pub is_a_transitive : IsATransitive
is_a_transitive types a b c tree h e f =
    further types tree (is_or_implements types b) (is_or_implements types c) (λ u k. passes types tree b c u f k) (suc (length types)) a (omega (arith, h)) e
