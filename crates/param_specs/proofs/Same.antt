-- A value is the same as itself.
use Rattle.std.proofs.Common.{◌≡◌, ℕ, ℤ, Bool, true, false, cond, nat_eq, ◌&&◌, List, [], ◌∷◌, None, Some, refl, ap, ◌∙◌, arith}
use Rattle.std.specs.Ordering.{int_eq}
use Rattle.std.proofs.lemmas.Bool.Decides.{nat_tests, Decides-int_eq}
use Rattle.ui_machine.specs.Definition.Names.{same_name}
use Rattle.ui_machine.specs.Definition.Kinds.{Whole, int, uint, int64, uint64}
use Rattle.ui_machine.specs.Definition.Values.{Value, bool, whole, text, enum, flags, object}
use Rattle.ui_machine.specs.Rules.Transform.{same_value, same_whole}

nat_same : (n : ℕ) → nat_eq n n ≡ true
nat_same n = grind (arith, nat_tests)

int_same : (n : ℤ) → int_eq n n ≡ true
int_same n = (Decides-int_eq n n).1 refl

name_same : (s : List ℕ) → same_name s s ≡ true
name_same [] = refl
name_same (x ∷ xs) = ap (λ b. cond b (same_name xs xs) false) (nat_same x) ∙ name_same xs

whole_same : (k : Whole) → same_whole k k ≡ true
whole_same int = refl
whole_same uint = refl
whole_same int64 = refl
whole_same uint64 = refl

both : (a b : Bool) → a ≡ true → b ≡ true → (a && b) ≡ true
both a b p q = ap (λ x. x && b) p ∙ q

pub same_value_refl : (v : Value) → same_value v v ≡ true
same_value_refl (bool true) = refl
same_value_refl (bool false) = refl
same_value_refl (whole k n) = both (same_whole k k) (int_eq n n) (whole_same k) (int_same n)
same_value_refl (text None) = refl
same_value_refl (text (Some s)) = name_same s
same_value_refl (enum t n) = both (nat_eq t t) (int_eq n n) (nat_same t) (int_same n)
same_value_refl (flags t bits) = both (nat_eq t t) (nat_eq bits bits) (nat_same t) (nat_same bits)
same_value_refl (object None) = refl
same_value_refl (object (Some id)) = nat_same id
