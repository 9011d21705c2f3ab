-- Counts that are written at one identity.
use Rattle.std.proofs.Common.{◌≡◌, ℕ, zero, suc, ◌+◌, ◌-◌, ◌<◌, List, [], ◌∷◌, Bool, true, false, cond, nat_eq, refl, sym, ap, ◌∙◌, arith}
use Rattle.std.proofs.Math.Nat.{sub-zero}
use Rattle.std.proofs.lemmas.Bool.Decides.{nat_tests}
use Rattle.ui_machine.specs.Seq.{read, write}
use Rattle.instance_tables.specs.Store.{count_of, counts_with, so_often}

write_here : (counts : List ℕ) (i n : ℕ) → read 0 (write 0 counts i n) i ≡ n
write_here [] zero n = refl
write_here [] (suc i) n = write_here [] i n
write_here (c ∷ cs) zero n = refl
write_here (c ∷ cs) (suc i) n = write_here cs i n

write_there : (counts : List ℕ) (i j n : ℕ) → (i ≡ j → ⊥) → read 0 (write 0 counts i n) j ≡ read 0 counts j
write_there [] zero zero n ne = absurd (ne refl)
write_there [] zero (suc j) n ne = refl
write_there [] (suc i) zero n ne = refl
write_there [] (suc i) (suc j) n ne = write_there [] i j n (λ e. ne (ap suc e))
write_there (c ∷ cs) zero zero n ne = absurd (ne refl)
write_there (c ∷ cs) zero (suc j) n ne = refl
write_there (c ∷ cs) (suc i) zero n ne = refl
write_there (c ∷ cs) (suc i) (suc j) n ne = write_there cs i j n (λ e. ne (ap suc e))

pub count_here : (counts : List ℕ) (id n : ℕ) → 0 < id → count_of (counts_with counts id n) id ≡ n
count_here counts zero n some = absurd (omega (arith, some))
count_here counts (suc i) n some = write_here counts i n

pub count_there : (counts : List ℕ) (id n o : ℕ) → nat_eq id o ≡ false → count_of (counts_with counts id n) o ≡ count_of counts o
count_there counts zero n o ne = refl
count_there counts (suc i) n zero ne = refl
count_there counts (suc i) n (suc o) ne = write_there counts i o n (λ e. let yes : nat_eq (suc i) (suc o) ≡ true = grind (arith, nat_tests) in absurd (cc))

equal : (i o : ℕ) → nat_eq i o ≡ true → i ≡ o
equal i o e = grind (arith, nat_tests)

-- one count less
pub less_at : (counts : List ℕ) (id n times : ℕ) → 0 < id → n ≡ count_of counts id - times
    → (o : ℕ) → count_of (counts_with counts id n) o ≡ count_of counts o - so_often times id o
less_at counts id n times some is o = by (nat_eq id o) refl
  where
    by : (b : Bool) → nat_eq id o ≡ b → count_of (counts_with counts id n) o ≡ count_of counts o - cond b times 0
    by true e =
        let here : id ≡ o = equal id o e in
        ap (λ j. count_of (counts_with counts id n) j) (sym here) ∙ count_here counts id n some ∙ is
        ∙ ap (λ j. count_of counts j - times) here
    by false e = count_there counts id n o e ∙ sym (sub-zero (count_of counts o))

-- nothing less of what is not held
pub none_less : (counts : List ℕ) (id times : ℕ) → ◌≡◌ {A = ℕ} (count_of counts id) 0
    → (o : ℕ) → count_of counts o ≡ count_of counts o - so_often times id o
none_less counts id times none o = by (nat_eq id o) refl
  where
    by : (b : Bool) → nat_eq id o ≡ b → count_of counts o ≡ count_of counts o - cond b times 0
    by true e = let zero_there : ◌≡◌ {A = ℕ} (count_of counts o) 0 = ap (count_of counts) (sym (equal id o e))
        ∙ none in omega (arith, zero_there)
    by false e = sym (sub-zero (count_of counts o))

-- one count more
pub more_at : (counts : List ℕ) (id n times : ℕ) → 0 < id → n ≡ count_of counts id + times
    → (o : ℕ) → count_of (counts_with counts id n) o ≡ count_of counts o + so_often times id o
more_at counts id n times some is o = by (nat_eq id o) refl
  where
    by : (b : Bool) → nat_eq id o ≡ b → count_of (counts_with counts id n) o ≡ count_of counts o + cond b times 0
    by true e =
        let here : id ≡ o = equal id o e in
        ap (λ j. count_of (counts_with counts id n) j) (sym here) ∙ count_here counts id n some ∙ is
        ∙ ap (λ j. count_of counts j + times) here
    by false e = omega (arith, count_there counts id n o e)
