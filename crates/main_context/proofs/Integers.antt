-- Tests on signed numbers.
use Rattle.std.proofs.Common.{◌≡◌, ℤ, true, false, cond, refl, arith, ◌⊎◌, inl, inr, int_le, int_lt}
use Rattle.std.specs.Ordering.{int_eq}
use Rattle.std.specs.Int.{int_min}
use Rattle.std.proofs.lemmas.Int.{ints}
use Rattle.std.proofs.lemmas.Bool.Decides.{Decides-int_eq}

pub int_le_same : (a : ℤ) → int_le a a ≡ true
int_le_same a = grind (arith, ints)

pub int_le_through : (a b c : ℤ) → int_le a b ≡ true → int_le b c ≡ true → int_le a c ≡ true
int_le_through a b c h k = grind (arith, ints)

pub int_min_left : (a b : ℤ) → int_le (int_min a b) a ≡ true
int_min_left a b = grind (arith, ints)

pub int_min_right : (a b : ℤ) → int_le (int_min a b) b ≡ true
int_min_right a b = grind (arith, ints)

pub same_from_int_eq : (a b : ℤ) → int_eq a b ≡ true → a ≡ b
same_from_int_eq a b e = (Decides-int_eq a b).0 e

pub int_eq_same : (a : ℤ) → int_eq a a ≡ true
int_eq_same a = (Decides-int_eq a a).1 refl

pub int_eq_both : (a b : ℤ) → int_le a b ≡ true → int_le b a ≡ true → int_eq a b ≡ true
int_eq_both a b h k = grind (arith, ints)

pub int_min_either : (a b : ℤ) → (int_min a b ≡ a) ⊎ (int_min a b ≡ b)
int_min_either a b = elim (int_lt b a) as (λ t. (cond t b a ≡ a) ⊎ (cond t b a ≡ b)) [ true ↦ inr refl | false ↦ inl refl ]
