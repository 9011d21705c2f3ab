-- A wrapped number is one of its kind.
use Rattle.std.proofs.Common.{◌≡◌, refl, ℕ, suc, ◌-◌, ◌%◌, ◌<◌, Bool, true, false, ℤ, pos, negsuc, FitsSigned, w32, w64, arith}
use Rattle.std.specs.Prelude.{◌&&◌, int_lt}
use Rattle.std.specs.Int.{int_wrap}
use Rattle.std.proofs.lemmas.Int.{ints, SFits-int_wrap}
use Rattle.ui_machine.specs.Definition.Kinds.{Whole, int, uint, int64, uint64}
use Rattle.ui_machine.specs.Rules.Transform.{least, greatest, is_between, wrapped, same_whole}

not_below : (a b : ℤ) → (int_lt a b ≡ true → ⊥) → int_lt a b ≡ false
not_below a b none = go (int_lt a b) refl
  where
    go : (t : Bool) → int_lt a b ≡ t → int_lt a b ≡ false
    go true e = absurd (none e)
    go false e = e

between_if : (low high n : ℤ) → (int_lt n low ≡ true → ⊥) → (int_lt high n ≡ true → ⊥) → is_between low high n ≡ true
between_if low high n p q = rw (not_below n low p, not_below high n q) refl

signed_32 : (z : ℤ) → FitsSigned w32 z → is_between (least int) (greatest int) z ≡ true
signed_32 z f = let h = f.sfits in between_if (least int) (greatest int) z (λ e. omega (arith, ints, h)) (λ e. omega (arith, ints, h))

signed_64 : (z : ℤ) → FitsSigned w64 z → is_between (least int64) (greatest int64) z ≡ true
signed_64 z f = let h = f.sfits in between_if (least int64) (greatest int64) z (λ e. omega (arith, ints, h)) (λ e. omega (arith, ints, h))

natural : (n top : ℕ) → n < suc top → is_between (pos 0) (pos top) (pos n) ≡ true
natural n top low = between_if (pos 0) (pos top) (pos n) (λ e. omega (arith, ints)) (λ e. omega (arith, ints))

pub wrapped_fits : (k : Whole) (z : ℤ) → is_between (least k) (greatest k) (wrapped k z) ≡ true
unfolding int_wrap
wrapped_fits int z = signed_32 (wrapped int z) (SFits-int_wrap w32 z)
wrapped_fits int64 z = signed_64 (wrapped int64 z) (SFits-int_wrap w64 z)
wrapped_fits uint (pos a) = natural (a % 4294967296) 4294967295 (omega arith)
wrapped_fits uint (negsuc a) = natural (4294967296 - 1 - a % 4294967296) 4294967295 (omega arith)
wrapped_fits uint64 (pos a) = natural (a % 18446744073709551616) 18446744073709551615 (omega arith)
wrapped_fits uint64 (negsuc a) = natural (18446744073709551616 - 1 - a % 18446744073709551616) 18446744073709551615 (omega arith)

pub whole_fits : (k : Whole) (z : ℤ) → (same_whole k k && is_between (least k) (greatest k) (wrapped k z)) ≡ true
whole_fits int z = wrapped_fits int z
whole_fits uint z = wrapped_fits uint z
whole_fits int64 z = wrapped_fits int64 z
whole_fits uint64 z = wrapped_fits uint64 z
