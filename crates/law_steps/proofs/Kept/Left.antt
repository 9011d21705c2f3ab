-- Lists of which some entries are left, and lists whose entries are changed.
use Rattle.std.proofs.Common.{◌≡◌, refl, sym, subst, ◌∙◌, ℕ, suc, ◌+◌, ◌<◌, ◌≤◌, Bool, true, false, cond, List, [], ◌∷◌, length, map, Option, Some, arith}
use Rattle.std.specs.Prelude.{nat_eq}
use Rattle.std.specs.List.{filter, find}
use Rattle.std.proofs.lemmas.Bool.{eqb-true}
use Rattle.ui_machine.specs.Seq.{total}
use Rattle.law_typing.specs.Verdict.Accepted.{Each}
use Rattle.law_typing.specs.Good.Standing.{Rising}

module _ {A : Type 0} where
  pub each_to : (P Q : A → Type 0) (xs : List A) → ((x : A) → P x → Q x) → Each P xs → Each Q xs
  each_to P Q [] f all = tt
  each_to P Q (x ∷ xs) f all = (f x all.0, each_to P Q xs f all.1)

  -- what holds of each one that passes
  pub each_left : (P Q : A → Type 0) (test : A → Bool) (xs : List A) → ((x : A) → test x ≡ true → P x → Q x) → Each P xs → Each Q (filter test xs)
  each_left P Q test [] f all = tt
  each_left P Q test (x ∷ xs) f all = go (test x) refl (each_left P Q test xs f all.1)
    where
      go : (b : Bool) → test x ≡ b → Each Q (filter test xs) → Each Q (cond b (x ∷ filter test xs) (filter test xs))
      go true e rest = (f x e all.0, rest)
      go false e rest = rest

  -- of those that pass two tests
  pub each_left_twice : (P : A → Type 0) (p test : A → Bool) (xs : List A) → Each P (filter p xs) → Each P (filter p (filter test xs))
  each_left_twice P p test [] all = tt
  each_left_twice P p test (x ∷ xs) all = go (test x) (p x) refl (λ rest. each_left_twice P p test xs rest) all
    where
      go : (a b : Bool) → p x ≡ b → (Each P (filter p xs) → Each P (filter p (filter test xs))) → Each P (cond b (x ∷ filter p xs) (filter p xs)) →
          Each P (filter p (cond a (x ∷ filter test xs) (filter test xs)))
      go false true e rec all = rec all.1
      go false false e rec all = rec all
      go true true e rec all = subst (λ c. Each P (cond c (x ∷ filter p (filter test xs)) (filter p (filter test xs)))) (sym e) (all.0, rec all.1)
      go true false e rec all = subst (λ c. Each P (cond c (x ∷ filter p (filter test xs)) (filter p (filter test xs)))) (sym e) (rec all)

  pub total_left : (f : A → ℕ) (p test : A → Bool) (xs : List A) → total f (filter p (filter test xs)) ≤ total f (filter p xs)
  total_left f p test [] = omega arith
  total_left f p test (x ∷ xs) = go (test x) (p x) refl (total_left f p test xs)
    where
      go : (a b : Bool) → p x ≡ b → total f (filter p (filter test xs)) ≤ total f (filter p xs) →
          total f (filter p (cond a (x ∷ filter test xs) (filter test xs))) ≤ total f (cond b (x ∷ filter p xs) (filter p xs))
      go false true e rec = omega (arith, rec)
      go false false e rec = rec
      go true true e rec = subst (λ c. total f (cond c (x ∷ filter p (filter test xs)) (filter p (filter test xs))) ≤ f x + total f (filter p xs)) (sym e) (omega (arith, rec))
      go true false e rec = subst (λ c. total f (cond c (x ∷ filter p (filter test xs)) (filter p (filter test xs))) ≤ total f (filter p xs)) (sym e) rec

  pub length_left : (p test : A → Bool) (xs : List A) → length (filter p (filter test xs)) ≤ length (filter p xs)
  length_left p test [] = omega arith
  length_left p test (x ∷ xs) = go (test x) (p x) refl (length_left p test xs)
    where
      go : (a b : Bool) → p x ≡ b → length (filter p (filter test xs)) ≤ length (filter p xs) →
          length (filter p (cond a (x ∷ filter test xs) (filter test xs))) ≤ length (cond b (x ∷ filter p xs) (filter p xs))
      go false true e rec = omega (arith, rec)
      go false false e rec = rec
      go true true e rec = subst (λ c. length (cond c (x ∷ filter p (filter test xs)) (filter p (filter test xs))) ≤ suc (length (filter p xs))) (sym e) (omega (arith, rec))
      go true false e rec = subst (λ c. length (cond c (x ∷ filter p (filter test xs)) (filter p (filter test xs))) ≤ length (filter p xs)) (sym e) rec

  -- ** rising numbers

  pub rising_later : (number : A → ℕ) (k m : ℕ) (xs : List A) → k ≤ m → Rising number m xs → Rising number k xs
  rising_later number k m [] less r = tt
  rising_later number k m (x ∷ xs) less r = ((let a = r.0 in omega (arith, a, less)), r.1)

  pub rising_left : (number : A → ℕ) (test : A → Bool) (k : ℕ) (xs : List A) → Rising number k xs → Rising number k (filter test xs)
  rising_left number test k [] r = tt
  rising_left number test k (x ∷ xs) r = go (test x) (rising_left number test (suc (number x)) xs r.1)
    where
      go : (b : Bool) → Rising number (suc (number x)) (filter test xs) → Rising number k (cond b (x ∷ filter test xs) (filter test xs))
      go true rest = (r.0, rest)
      go false rest = rising_later number k (suc (number x)) (filter test xs) (let a = r.0 in omega (arith, a)) rest

  -- a number below those that rise finds nothing
  pub none_below : (number : A → ℕ) (k n : ℕ) (xs : List A) (x : A) → n < k → Rising number k xs → find (λ x. nat_eq (number x) n) xs ≡ Some x → ⊥
  none_below number k n [] x less r e = cc
  none_below number k n (y ∷ ys) x less r e = go (nat_eq (number y) n) refl (λ e. none_below number (suc (number y)) n ys x (let a = r.0 in omega (arith, a, less)) r.1 e) e
    where
      go : (b : Bool) → nat_eq (number y) n ≡ b → (find (λ x. nat_eq (number x) n) ys ≡ Some x → ⊥) → cond b (Some y) (find (λ x. nat_eq (number x) n) ys) ≡ Some x → ⊥
      go true t rec f = let s = eqb-true (number y) n t in let a = r.0 in omega (arith, s, a, less)
      go false t rec f = rec f

  -- what is found among those that are left is found among all
  pub left_found : (number : A → ℕ) (test : A → Bool) (k n : ℕ) (xs : List A) (x : A) → Rising number k xs → find (λ x. nat_eq (number x) n) (filter test xs) ≡ Some x →
      find (λ x. nat_eq (number x) n) xs ≡ Some x
  left_found number test k n [] x r e = e
  left_found number test k n (y ∷ ys) x r e = go (test y) (nat_eq (number y) n) refl (λ e. left_found number test (suc (number y)) n ys x r.1 e) e
    where
      Rest : Option A
      Rest = find (λ x. nat_eq (number x) n) ys

      gone : nat_eq (number y) n ≡ true → (find (λ x. nat_eq (number x) n) (filter test ys) ≡ Some x → Rest ≡ Some x) → find (λ x. nat_eq (number x) n) (filter test ys) ≡ Some x → Some y ≡ Some x
      gone t rec f = absurd (let s = eqb-true (number y) n t in none_below number (suc (number y)) n ys x (omega (arith, s)) r.1 (rec f))

      go : (a b : Bool) → nat_eq (number y) n ≡ b → (find (λ x. nat_eq (number x) n) (filter test ys) ≡ Some x → Rest ≡ Some x) →
          find (λ x. nat_eq (number x) n) (cond a (y ∷ filter test ys) (filter test ys)) ≡ Some x → cond b (Some y) Rest ≡ Some x
      go true true t rec f = subst (λ b. cond b (Some y) (find (λ x. nat_eq (number x) n) (filter test ys)) ≡ Some x) t f
      go true false t rec f = rec (subst (λ b. cond b (Some y) (find (λ x. nat_eq (number x) n) (filter test ys)) ≡ Some x) t f)
      go false true t rec f = gone t rec f
      go false false t rec f = rec f

  -- ** changed entries

  pub each_changed : (P : A → Type 0) (change : A → A) (xs : List A) → ((x : A) → P x → P (change x)) → Each P xs → Each P (map change xs)
  each_changed P change [] f all = tt
  each_changed P change (x ∷ xs) f all = (f x all.0, each_changed P change xs f all.1)

  pub each_changed_left : (P : A → Type 0) (p : A → Bool) (change : A → A) (xs : List A) → ((x : A) → p (change x) ≡ p x) → ((x : A) → P x → P (change x)) →
      Each P (filter p xs) → Each P (filter p (map change xs))
  each_changed_left P p change [] same f all = tt
  each_changed_left P p change (x ∷ xs) same f all = go (p x) refl (λ rest. each_changed_left P p change xs same f rest) all
    where
      go : (b : Bool) → p x ≡ b → (Each P (filter p xs) → Each P (filter p (map change xs))) → Each P (cond b (x ∷ filter p xs) (filter p xs)) → Each P (filter p (map change (x ∷ xs)))
      go true e rec all = subst (λ c. Each P (cond c (change x ∷ filter p (map change xs)) (filter p (map change xs)))) (sym (same x ∙ e)) (f x all.0, rec all.1)
      go false e rec all = subst (λ c. Each P (cond c (change x ∷ filter p (map change xs)) (filter p (map change xs)))) (sym (same x ∙ e)) (rec all)

  pub total_changed : (f : A → ℕ) (p : A → Bool) (change : A → A) (xs : List A) → ((x : A) → p (change x) ≡ p x) → ((x : A) → f (change x) ≡ f x) →
      total f (filter p (map change xs)) ≡ total f (filter p xs)
  total_changed f p change [] same equal = refl
  total_changed f p change (x ∷ xs) same equal = go (p x) refl (total_changed f p change xs same equal)
    where
      go : (b : Bool) → p x ≡ b → total f (filter p (map change xs)) ≡ total f (filter p xs) → total f (filter p (map change (x ∷ xs))) ≡ total f (cond b (x ∷ filter p xs) (filter p xs))
      go true e rec =
          subst (λ c. total f (cond c (change x ∷ filter p (map change xs)) (filter p (map change xs))) ≡ f x + total f (filter p xs)) (sym (same x ∙ e))
          (let h = equal x in omega (arith, h, rec))
      go false e rec = subst (λ c. total f (cond c (change x ∷ filter p (map change xs)) (filter p (map change xs))) ≡ total f (filter p xs)) (sym (same x ∙ e)) rec

  pub length_changed : (p : A → Bool) (change : A → A) (xs : List A) → ((x : A) → p (change x) ≡ p x) → length (filter p (map change xs)) ≡ length (filter p xs)
  length_changed p change [] same = refl
  length_changed p change (x ∷ xs) same = go (p x) refl (length_changed p change xs same)
    where
      go : (b : Bool) → p x ≡ b → length (filter p (map change xs)) ≡ length (filter p xs) → length (filter p (map change (x ∷ xs))) ≡ length (cond b (x ∷ filter p xs) (filter p xs))
      go true e rec = subst (λ c. length (cond c (change x ∷ filter p (map change xs)) (filter p (map change xs))) ≡ suc (length (filter p xs))) (sym (same x ∙ e)) (omega (arith, rec))
      go false e rec = subst (λ c. length (cond c (change x ∷ filter p (map change xs)) (filter p (map change xs))) ≡ length (filter p xs)) (sym (same x ∙ e)) rec

  pub rising_changed : (number : A → ℕ) (change : A → A) (k : ℕ) (xs : List A) → ((x : A) → number (change x) ≡ number x) → Rising number k xs → Rising number k (map change xs)
  rising_changed number change k [] same r = tt
  rising_changed number change k (x ∷ xs) same r =
      ((let a = r.0 in let e = same x in omega (arith, a, e)), subst (λ n. Rising number (suc n) (map change xs)) (sym (same x)) (rising_changed number change (suc (number x)) xs same r.1))
