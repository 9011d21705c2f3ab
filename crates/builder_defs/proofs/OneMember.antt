-- An object with exactly one member.
use Rattle.std.proofs.Common.{◌≡◌, ℕ, suc, nat_eq, List, [], ◌∷◌, length, false, String, Global, refl, arith}
use Rattle.std.proofs.lemmas.Bool.Decides.{nat_tests}
use Rattle.serde_json.specs.declared.value.Value.{Value}
use Rattle.serde_json.specs.View.{members_view}
use Rattle.definition_format.specs.EventMeaning.{is_one_member}

many : (n : ℕ) → false ≡ nat_eq (suc (suc n)) 1
many n = grind (arith, nat_tests)

pub one_member_is : (es : List (String Global × Value)) → is_one_member (members_view es) ≡ nat_eq (length es) 1
one_member_is [] = refl
one_member_is (e ∷ []) = refl
one_member_is (e ∷ f ∷ es) = many (length es)
