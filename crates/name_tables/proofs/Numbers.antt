-- Numbers that classes get.
use Rattle.std.proofs.Common.{◌≡◌, ◌≢◌, ◌∙◌, ℕ, Bool, true, false, cond, nat_eq, Option, None, Some, is_some, true≢false, inl, inr, refl, sym, ap, arith}
use Rattle.std.proofs.lemmas.Bool.{cases_eq}
use Rattle.std.proofs.lemmas.Bool.Decides.{nat_tests}
use Rattle.std.specs.BTreeMap.{is_at}
use Rattle.std.specs.Ordering.{nat_cmp}
use Rattle.name_tables.specs.Names.{with_number}

-- a number that comes to another class leaves what is there
pub unchanged : (number : ℕ) (o : Option ℕ) → with_number false number o ≡ o
unchanged number None = refl
unchanged number (Some k) = refl

-- what is not there is not
pub none-of : {A : Type 0} (o : Option A) → is_some o ≡ false → o ≡ None
none-of None h = refl
none-of (Some x) h = absurd (true≢false h)

is_it : (class : ℕ) → nat_eq class class ≡ true
is_it class = grind (arith, nat_tests)

is_other : (q class : ℕ) → q ≢ class → nat_eq q class ≡ false
is_other q class ne = grind (arith, nat_tests)

is_elsewhere : (q class : ℕ) → q ≢ class → is_at (nat_cmp class) q ≡ false
is_elsewhere q class ne = grind (arith, nat_tests)

-- the entry that an insertion adds is a class's number, where the class had none
pub inserted : (new old : ℕ → Option ℕ) (class number : ℕ) → old class ≡ None → new class ≡ Some number
    → ((q : ℕ) → is_at (nat_cmp class) q ≡ false → new q ≡ old q) → (q : ℕ) → new q ≡ with_number (nat_eq q class) number (old q)
inserted new old class number none here others q =
    elim (cases_eq q class) [
      | inl same ↦
          ap new same ∙ here ∙ sym (ap (with_number true number) none) ∙ ap (λ k. with_number true number (old k)) (sym same)
          ∙ ap (λ b. with_number b number (old q)) (sym (ap (λ k. nat_eq k class) same ∙ is_it class))
      | inr ne ↦
          others q (is_elsewhere q class ne) ∙ sym (unchanged number (old q))
          ∙ ap (λ b. with_number b number (old q)) (sym (is_other q class ne))
    ]
