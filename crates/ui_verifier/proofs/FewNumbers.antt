-- Numbers that are small enough for what is reported.
use Rattle.std.proofs.Common.{ℕ, zero, suc, ◌≤◌, List, [], ◌∷◌, arith}
use Rattle.ui_machine.specs.Seq.{listed}
use Rattle.law_typing.specs.Graph.Tables.{greatest}
use Rattle.verify_order.specs.Numbers.{AreWithin}

pub within_listed : (f : ℕ → ℕ) (n most : ℕ) → ((i : ℕ) → f i ≤ most) → AreWithin (listed f n) most
within_listed f zero most each node = omega arith
within_listed f (suc n) most each zero = each 0
within_listed f (suc n) most each (suc node) = within_listed (λ i. f (suc i)) n most (λ i. each (suc i)) node

-- the greatest of them is as small
pub greatest_within : (xs : List ℕ) (most : ℕ) → AreWithin xs most → greatest (λ (n : ℕ). n) xs ≤ most
greatest_within [] most each = omega arith
greatest_within (x ∷ xs) most each =
    let a = each 0 in
    let b = greatest_within xs most (λ i. each (suc i)) in
    omega (arith, a, b)
