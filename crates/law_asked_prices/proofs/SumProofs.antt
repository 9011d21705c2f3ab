-- Sums over the numbers that pass a test, in which one number is counted once.
use Rattle.std.proofs.Common.{◌≡◌, refl, sym, ap, ◌∙◌, ℕ, zero, suc, ◌+◌, ◌<◌, ◌≤◌, Bool, true, false, cond, nat_eq, List, [], ◌∷◌, ◌++◌, length, arith}
use Rattle.std.specs.Prelude.{◌&&◌}
use Rattle.std.specs.List.{filter}
use Rattle.std.proofs.lemmas.Bool.{eqb-true, eq-eqb}
use Rattle.std.proofs.lemmas.List.{length-append}
use Rattle.ui_machine.specs.Seq.{listed, total}

-- ** one number

-- 1 at the number
abbrev pub one_at : ℕ → ℕ → ℕ
one_at s i = cond (nat_eq s i) 1 0

differs : (s i : ℕ) → (s ≡ i → ⊥) → one_at s i ≡ 0
differs s i other = by (nat_eq s i) refl
  where
    by : (b : Bool) → nat_eq s i ≡ b → ◌≡◌ {A = ℕ} (cond b 1 0) 0
    by true e = absurd (other (eqb-true s i e))
    by false e = refl

-- what is 0 is so wherever it counts
is_none : (b : Bool) (m : ℕ) → m ≡ 0 → cond b m 0 ≡ 0
is_none true m e = e
is_none false m e = refl

module _ (test : ℕ → Bool) (s : ℕ) where
  -- a test that takes a number in or leaves it out
  step_of : (i : ℕ) (rest : List ℕ) → total (one_at s) (cond (test i) (i ∷ rest) rest) ≡ cond (test i) (one_at s i) 0 + total (one_at s) rest
  step_of i rest = by (test i)
    where
      by : (b : Bool) → total (one_at s) (cond b (i ∷ rest) rest) ≡ cond b (one_at s i) 0 + total (one_at s) rest
      by true = refl
      by false = omega arith

  -- what counts up from k on does not come to a number below k
  none_below : (f : ℕ → ℕ) (k : ℕ) → ((i : ℕ) → f i ≡ k + i) → s < k → (n : ℕ) → total (one_at s) (filter test (listed f n)) ≡ 0
  none_below f k is low zero = refl
  none_below f k is low (suc n) =
      let rest = none_below (λ i. f (suc i)) (suc k) (λ i. let e = is (suc i) in omega (arith, e)) (omega arith) n in
      let none = is_none (test (f 0)) (one_at s (f 0)) (differs s (f 0) (λ e. let at = is 0 in omega (arith, e, at))) in
      let split = step_of (f 0) (filter test (listed (λ i. f (suc i)) n)) in
      omega (arith, rest, none, split)

  -- and to each other once
  once : (f : ℕ → ℕ) (k : ℕ) → ((i : ℕ) → f i ≡ k + i) → k ≤ s → (n : ℕ) → s < k + n → total (one_at s) (filter test (listed f n)) ≡ cond (test s) 1 0
  once f k is low zero high = absurd (omega arith)
  once f k is low (suc n) high = by (nat_eq s (f 0)) refl (λ more. once (λ i. f (suc i)) (suc k) later more n (omega arith))
    where
      later : (i : ℕ) → f (suc i) ≡ suc k + i
      later i = let e = is (suc i) in omega (arith, e)

      split : total (one_at s) (filter test (listed f (suc n)))
          ≡ cond (test (f 0)) (one_at s (f 0)) 0 + total (one_at s) (filter test (listed (λ i. f (suc i)) n))
      split = step_of (f 0) (filter test (listed (λ i. f (suc i)) n))

      by : (b : Bool) → nat_eq s (f 0) ≡ b → (suc k ≤ s → total (one_at s) (filter test (listed (λ i. f (suc i)) n)) ≡ cond (test s) 1 0) →
          total (one_at s) (filter test (listed f (suc n))) ≡ cond (test s) 1 0
      by true e next =
          let same = eqb-true s (f 0) e in
          let at = is 0 in
          let rest = none_below (λ i. f (suc i)) (suc k) later (omega (arith, same, at)) n in
          let here : cond (test (f 0)) (one_at s (f 0)) 0 ≡ cond (test s) 1 0 =
          ap (λ b. cond (test (f 0)) (cond b 1 0) 0) e ∙ ap (λ i. cond (test i) 1 0) (sym same) in
          omega (arith, rest, here, split)
      by false e next =
          let at = is 0 in
          let other : s ≡ k → ⊥ = λ same. (let this = eq-eqb s (f 0) (omega (arith, same, at)) in absurd (cc (e, this))) in
          let rest = next (omega (arith, other)) in
          let none = is_none (test (f 0)) (one_at s (f 0)) (ap (λ b. cond b 1 0) e) in
          omega (arith, rest, none, split)

-- so a number is among those that pass, if it passes, once
pub is_once : (test : ℕ → Bool) (s n : ℕ) → s < n → total (one_at s) (filter test (listed (λ i. i) n)) ≡ cond (test s) 1 0
is_once test s n less = once test s (λ i. i) 0 (λ i. omega arith) (omega arith) n (omega arith)

-- ** sums of lengths

-- of two lists each, taken together
pub total_both : {A : Type 0} (f g : ℕ → List A) (ss : List ℕ) → total (λ s. length (f s ++ g s)) ss ≡ total (λ s. length (f s)) ss + total (λ s. length (g s)) ss
total_both f g [] = refl
total_both f g (s ∷ ss) =
    let rest = total_both f g ss in
    let here = length-append (f s) (g s) in
    omega (arith, rest, here)

-- of lists of one element at the number, where the second part of a test is so
pub total_ones : {A : Type 0} (x : A) (number : ℕ) (b : Bool) (ss : List ℕ) →
    total (λ s. length (cond (nat_eq number s && b) (x ∷ []) [])) ss ≡ cond b (total (one_at number) ss) 0
total_ones x number true [] = refl
total_ones x number false [] = refl
total_ones x number true (s ∷ ss) = let rest = total_ones x number true ss in let here = by (nat_eq number s) in omega (arith, rest, here)
  where
    by : (b : Bool) → length (cond (b && true) (x ∷ []) []) ≡ cond b 1 0
    by true = refl
    by false = refl
total_ones x number false (s ∷ ss) = let rest = total_ones x number false ss in let here = by (nat_eq number s) in omega (arith, rest, here)
  where
    by : (b : Bool) → length (cond (b && false) (x ∷ []) []) ≡ 0
    by true = refl
    by false = refl

-- of no elements
pub total_none : (A : Type 0) (test : ℕ → Bool) (ss : List ℕ) → total (λ s. length (cond {A = List A} (test s) [] [])) ss ≡ 0
total_none A test [] = refl
total_none A test (s ∷ ss) = let rest = total_none A test ss in let here = by (test s) in omega (arith, rest, here)
  where
    by : (b : Bool) → length (cond {A = List A} b [] []) ≡ 0
    by true = refl
    by false = refl
