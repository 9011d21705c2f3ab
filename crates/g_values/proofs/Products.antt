-- Products of numbers with a sign.
use Rattle.std.proofs.Common.{◌≡◌, ◌*◌, ◌%◌, ℤ, ◌*ℤ◌, FitsSigned, to_z, of_z, w32, w64}
use Rattle.std.specs.Int.{int_wrap}
use Rattle.std.proofs.lemmas.Int.{wrapping_mul_is}
use Rattle.ui_machine.specs.Definition.Kinds.{int, int64}
use Rattle.ui_machine.specs.Rules.Transform.{wrapped}

pub product_of_32_bits : (m n : ℤ) → FitsSigned w32 m → FitsSigned w32 n → to_z w32 (of_z w32 m * of_z w32 n % 4294967296) ≡ wrapped int (m *ℤ n)
unfolding int_wrap
product_of_32_bits m n f g = wrapping_mul_is w32 m n f g

pub product_of_64_bits : (m n : ℤ) → FitsSigned w64 m → FitsSigned w64 n → to_z w64 (of_z w64 m * of_z w64 n % 18446744073709551616) ≡ wrapped int64 (m *ℤ n)
unfolding int_wrap
product_of_64_bits m n f g = wrapping_mul_is w64 m n f g
