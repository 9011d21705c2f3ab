use Rattle.std.proofs.Common.{◌≡◌, ◌∙◌, ℕ, Bool, true, false, cond, nat_eq, List, [], ◌∷◌, Option, None, Some, sym, ap, refl, subst, arith}
use Rattle.std.proofs.lemmas.Bool.Decides.{nat_tests}
use Rattle.std.specs.Option.{IfSome, IsSomeAnd}
use Rattle.ui_machine.specs.Definition.Names.{same_name}
use Rattle.ui_machine.specs.State.Bindings.{Binding, is_called, is_name}
use Rattle.bindings.specs.Kept.{IsListed, is_listed, name_number}
use Rattle.bindings.specs.declared.listings.Listings.{Listings}
use Rattle.bindings.proofs.listings.Listings.called.Goals as goal

same_number : (x y : ℕ) → nat_eq x y ≡ true → x ≡ y
same_number x y e = grind (arith, nat_tests)

same_names : (xs ys : List ℕ) → same_name xs ys ≡ true → xs ≡ ys
same_names [] [] h = refl
same_names [] (y ∷ ys) h = let no : false ≡ true = h in absurd (cc)
same_names (x ∷ xs) [] h = let no : false ≡ true = h in absurd (cc)
same_names (x ∷ xs) (y ∷ ys) h = by (nat_eq x y) refl (same_names xs ys) h
  where
    by : (b : Bool) → nat_eq x y ≡ b → (same_name xs ys ≡ true → xs ≡ ys) → cond b (same_name xs ys) false ≡ true → (x ∷ xs) ≡ (y ∷ ys)
    by true e rec h = ap (λ n. n ∷ xs) (same_number x y e) ∙ ap (λ l. y ∷ l) (rec h)
    by false e rec h = let no : false ≡ true = h in absurd (cc)

-- a binding that is called so is listed under the number of the name, which has one
module _ (l : Listings) (name : List ℕ) (b : Binding) where
  under : (number : Option ℕ) → IsSomeAnd number (λ k. is_listed l.by_name k 0 b.number ≡ true) → (k : ℕ) × (number ≡ Some k) × (is_listed l.by_name k 0 b.number ≡ true)
  under None is = absurd is
  under (Some k) is = (k, refl, is)

  listed_so : IsListed l b → is_called name b ≡ true → (k : ℕ) × (name_number l.names name ≡ Some k) × (is_listed l.by_name k 0 b.number ≡ true)
  listed_so mine called = by b.name mine.4 called
    where
      by : (own : Option (List ℕ)) → IfSome own (λ name. IsSomeAnd (name_number l.names name) (λ k. is_listed l.by_name k 0 b.number ≡ true)) → is_name name own ≡ true
          → (k : ℕ) × (name_number l.names name ≡ Some k) × (is_listed l.by_name k 0 b.number ≡ true)
      by None mine called = let no : false ≡ true = called in absurd (cc)
      by (Some own) mine called =
          let found = under (name_number l.names own) mine in
          (found.0, ap (name_number l.names) (sym (same_names own name called)) ∙ found.1, found.2)

pub returns-in_err-name : goal.returns-in_err-name
returns-in_err-name c =
    rw c.from_residual.ensures (
      tt,
      λ b mine called.
          let found = listed_so c.args.self.now c.args.name.now b mine called in
          let none = sym c.number.ensures ∙ c.in_err-name.was in
          let no : Some found.0 ≡ None = sym found.1 ∙ none in absurd (cc),
    )

pub returns : goal.returns
returns c = (
  c.before-2.ensures.0,
  λ b mine called.
      let found = listed_so c.args.self.now c.args.name.now b mine called in
      let same : Some found.0 ≡ Some c.in_ok-name.name = sym found.1 ∙ sym c.number.ensures ∙ c.in_ok-name.was in
      let is : found.0 ≡ c.in_ok-name.name = cc in
      c.before-2.ensures.1 b.number (subst (λ k. is_listed c.args.self.now.by_name k 0 b.number ≡ true) is found.2),
)
