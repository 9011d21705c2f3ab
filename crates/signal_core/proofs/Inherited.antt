-- A type has the signals of the types that it is.
use Rattle.std.proofs.Common.{◌≡◌, ◌∙◌, ℕ, Bool, true, false, cond, not, ◌||◌, nat_eq, List, [], ◌∷◌, ◌++◌, reverse, refl, sym, ap, subst, arith}
use Rattle.std.specs.List.{Contains, filter, flat_map, list_any}
use Rattle.std.proofs.lemmas.Bool.{false≢true}
use Rattle.std.proofs.lemmas.Bool.Decides.{nat_tests}
use Rattle.std.proofs.lemmas.List.Elements.{Contains-append_left, Contains-append_right}
use Rattle.ui_machine.specs.Rules.Ancestry.{lineage}
use Rattle.ui_machine.specs.Words.{notify}
use Rattle.signal_core.specs.Sources.{brought_by, declared_of, each_once, own_of, sources_of}
use Rattle.signal_core.specs.TableLaws.{AncestorsComeFirst, SignalsAreInherited}
use Rattle.signal_core.proofs.Walks.{any_brought, until_child, until_first}

pub ancestors_come_first : AncestorsComeFirst
ancestors_come_first types tree signals t p h =
    let rest = until_first types signals t 0 in
    record {
      more = rest.0;
      whole = ap (λ l. notify ∷ l) (rest.1 ∙ ap (λ l. l ++ rest.0) (until_child types signals tree t p h));
    }

-- ** numbers that are in a list

stands_beside : (a x : ℕ) (ys : List ℕ) → nat_eq a x ≡ false → list_any (nat_eq a) ys ≡ true → list_any (nat_eq a) (filter (λ y. not (nat_eq x y)) ys) ≡ true
stands_beside a x [] apart h = h
stands_beside a x (y ∷ ys) apart h = by (nat_eq x y) refl (stands_beside a x ys apart)
  where
    rest : List ℕ
    rest = filter (λ y. not (nat_eq x y)) ys

    later : nat_eq a y ≡ false → (nat_eq a y || list_any (nat_eq a) ys) ≡ true → list_any (nat_eq a) ys ≡ true
    later e there = ap (λ b. b || list_any (nat_eq a) ys) (sym e) ∙ there

    kept : (b : Bool) → nat_eq a y ≡ b → (list_any (nat_eq a) ys ≡ true → list_any (nat_eq a) rest ≡ true) → (nat_eq a y || list_any (nat_eq a) rest) ≡ true
    kept true e again = ap (λ b. b || list_any (nat_eq a) rest) e
    kept false e again = ap (λ b. b || list_any (nat_eq a) rest) e ∙ again (later e h)

    by : (b : Bool) → nat_eq x y ≡ b → (list_any (nat_eq a) ys ≡ true → list_any (nat_eq a) rest ≡ true) → list_any (nat_eq a) (cond (not b) (y ∷ rest) rest) ≡ true
    by true e again =
        let other : nat_eq a y ≡ false = grind (arith, nat_tests) in
        again (later other h)
    by false e again = kept (nat_eq a y) refl again

stands_once : (a : ℕ) (xs : List ℕ) → list_any (nat_eq a) xs ≡ true → list_any (nat_eq a) (each_once xs) ≡ true
stands_once a [] h = h
stands_once a (x ∷ xs) h = by (nat_eq a x) refl h (stands_once a xs)
  where
    by : (b : Bool) → nat_eq a x ≡ b → (b || list_any (nat_eq a) xs) ≡ true → (list_any (nat_eq a) xs ≡ true → list_any (nat_eq a) (each_once xs) ≡ true)
        → (b || list_any (nat_eq a) (filter (λ y. not (nat_eq x y)) (each_once xs))) ≡ true
    by true e there again = refl
    by false e there again = stands_beside a x (each_once xs) e (again there)

same_number : (a x : ℕ) → nat_eq a x ≡ true → a ≡ x
same_number a x h = grind (arith, nat_tests)

has_all : {A : Type 0} (f : ℕ → List A) (a : ℕ) (s : A) (xs : List ℕ) → list_any (nat_eq a) xs ≡ true → Contains (f a) s → Contains (flat_map f xs) s
has_all f a s [] h has = absurd (false≢true h)
has_all f a s (x ∷ xs) h has = by (nat_eq a x) refl h (has_all f a s xs)
  where
    by : (b : Bool) → nat_eq a x ≡ b → (b || list_any (nat_eq a) xs) ≡ true → (list_any (nat_eq a) xs ≡ true → Contains (f a) s → Contains (flat_map f xs) s)
        → Contains (f x ++ flat_map f xs) s
    by true e there rest = Contains-append_left (f x) (flat_map f xs) s (subst (λ n. Contains (f n) s) (same_number a x e) has)
    by false e there rest = Contains-append_right (f x) (flat_map f xs) s (rest there has)

-- ** signals that are inherited

pub signals_are_inherited : SignalsAreInherited
unfolding declared_of sources_of
signals_are_inherited types signals t above is s has =
    let stands = any_brought types above (lineage types t) ∙ is in
    Contains-append_right (notify ∷ []) (declared_of types signals t) s
    (has_all (own_of signals) above s (sources_of types t) (stands_once above (flat_map (brought_by types) (reverse (lineage types t))) stands) has)
