-- Sums and greatest values.
use Rattle.std.proofs.Common.{◌≡◌, inl, inr, refl, ℕ, suc, ◌+◌, ◌≤◌, Bool, true, false, cond, List, [], ◌∷◌, ◌++◌, map, Option, None, Some, arith}
use Rattle.std.specs.List.{filter}
use Rattle.ui_machine.specs.Definition.Places.{Bind}
use Rattle.ui_machine.specs.Seq.{total}
use Rattle.law_typing.specs.Graph.Tables.{greatest}
use Rattle.law_typing.specs.Laws.{IsIn}
use Rattle.law_prices.specs.Prices.{by_number, price_of}

pub cond_zero : (b : Bool) (n : ℕ) → n ≡ 0 → cond b n 0 ≡ 0
cond_zero true n e = e
cond_zero false n e = refl

pub cond_less : (b : Bool) (n : ℕ) → cond b n 0 ≤ n
cond_less true n = omega arith
cond_less false n = omega arith

pub cond_less_than : (b : Bool) (n : ℕ) → cond b 0 n ≤ n
cond_less_than true n = omega arith
cond_less_than false n = omega arith

module _ {A : Type 0} where
  pub price_of_zero : (f : A → ℕ) (o : Option A) → ((x : A) → f x ≡ 0) → price_of f o ≡ 0
  price_of_zero f None zero = refl
  price_of_zero f (Some x) zero = zero x

  pub total_zero : (f : A → ℕ) (xs : List A) → ((x : A) → f x ≡ 0) → total f xs ≡ 0
  total_zero f [] zero = refl
  total_zero f (x ∷ xs) zero = let h = total_zero f xs zero in let z = zero x in omega (arith, h, z)

  pub greatest_zero : (f : A → ℕ) (xs : List A) → ((x : A) → f x ≡ 0) → greatest f xs ≡ 0
  greatest_zero f [] zero = refl
  greatest_zero f (x ∷ xs) zero = let h = greatest_zero f xs zero in let z = zero x in omega (arith, h, z)

  pub total_same : (f g : A → ℕ) (xs : List A) → ((x : A) → f x ≡ g x) → total f xs ≡ total g xs
  total_same f g [] same = refl
  total_same f g (x ∷ xs) same = let h = total_same f g xs same in let s = same x in omega (arith, h, s)

  pub total_less : (f g : A → ℕ) (xs : List A) → ((x : A) → f x ≤ g x) → total f xs ≤ total g xs
  total_less f g [] less = omega arith
  total_less f g (x ∷ xs) less = let h = total_less f g xs less in let s = less x in omega (arith, h, s)

  pub greatest_same : (f g : A → ℕ) (xs : List A) → ((x : A) → f x ≡ g x) → greatest f xs ≡ greatest g xs
  greatest_same f g [] same = refl
  greatest_same f g (x ∷ xs) same = let h = greatest_same f g xs same in let s = same x in omega (arith, h, s)

  pub total_plus : (f g : A → ℕ) (xs : List A) → total (λ x. f x + g x) xs ≡ total f xs + total g xs
  total_plus f g [] = omega arith
  total_plus f g (x ∷ xs) = let h = total_plus f g xs in omega (arith, h)

  pub total_both : (f : A → ℕ) (xs ys : List A) → total f (xs ++ ys) ≡ total f xs + total f ys
  total_both f [] ys = omega arith
  total_both f (x ∷ xs) ys = let h = total_both f xs ys in omega (arith, h)

  pub total_filter : (f : A → ℕ) (test : A → Bool) (xs : List A) → total f (filter test xs) ≤ total f xs
  total_filter f test [] = omega arith
  total_filter f test (x ∷ xs) = go (test x) (total_filter f test xs)
    where
      go : (b : Bool) → total f (filter test xs) ≤ total f xs → total f (cond b (x ∷ filter test xs) (filter test xs)) ≤ f x + total f xs
      go true h = omega (arith, h)
      go false h = omega (arith, h)

pub total_map : {A B : Type 0} (f : B → ℕ) (m : A → B) (xs : List A) → total f (map m xs) ≡ total (λ x. f (m x)) xs
total_map f m [] = refl
total_map f m (x ∷ xs) = let h = total_map f m xs in omega (arith, h)

pub by_number_same : (f g : ℕ → Bind → ℕ) (n : ℕ) (bs : List Bind) → ((n : ℕ) (b : Bind) → f n b ≡ g n b) → by_number f n bs ≡ by_number g n bs
by_number_same f g n [] same = refl
by_number_same f g n (b ∷ bs) same = let h = by_number_same f g (suc n) bs same in let s = same n b in omega (arith, h, s)

pub by_number_in : (f g : ℕ → Bind → ℕ) (n : ℕ) (bs : List Bind) → ((n : ℕ) (b : Bind) → IsIn b bs → f n b ≡ g n b) → by_number f n bs ≡ by_number g n bs
by_number_in f g n [] same = refl
by_number_in f g n (b ∷ bs) same = let h = by_number_in f g (suc n) bs (λ n x k. same n x (inr k)) in let s = same n b (inl refl) in omega (arith, h, s)

pub by_number_less : (f g : ℕ → Bind → ℕ) (n : ℕ) (bs : List Bind) → ((n : ℕ) (b : Bind) → f n b ≤ g n b) → by_number f n bs ≤ by_number g n bs
by_number_less f g n [] less = omega arith
by_number_less f g n (b ∷ bs) less = let h = by_number_less f g (suc n) bs less in let s = less n b in omega (arith, h, s)

pub by_number_plus : (f g : ℕ → Bind → ℕ) (n : ℕ) (bs : List Bind) → by_number (λ n b. f n b + g n b) n bs ≡ by_number f n bs + by_number g n bs
by_number_plus f g n [] = omega arith
by_number_plus f g n (b ∷ bs) = let h = by_number_plus f g (suc n) bs in omega (arith, h)
