-- The nick of a member, found one after the other.
use Rattle.std.proofs.Common.{◌≡◌, ℕ, suc, ◌+◌, ◌<◌, ◌≤◌, List, [], ◌∷◌, length, drop, get_or, map, cond, true, false, ℤ, pos, negsuc, FitsSigned, to_z, of_z, w32, string_bytes, subst, refl, sym, ap, ◌∙◌, arith, add-one}
use Rattle.std.specs.Ordering.{int_eq}
use Rattle.std.proofs.Math.Seq.{drop-cons}
use Rattle.std.proofs.lemmas.List.{nil_from_length, length-drop}
use Rattle.std.proofs.lemmas.Bool.{false_from_ne_true}
use Rattle.std.proofs.lemmas.Bool.Decides.{Decides-int_eq}
use Rattle.std.proofs.lemmas.Int.{ints, to_z-of_z}
use Rattle.std.proofs.Math.IntN.{pos-ne-negsuc}
use Rattle.std.specs.Int.{FitsUnsignedBits}
use Rattle.ui_machine.specs.Definition.Types.{Member}
use Rattle.ui_machine.specs.Output.Text.{nick_of}
use Rattle.type_tree.specs.declared.member.FlagsMember.{FlagsMember}
use Rattle.type_tree.specs.Entry.{flags_member}

module _ {A : Type 0} (f : A → Member) (n : ℤ) where
  next : (xs : List A) (i : ℕ) (x : A) → i < length xs → x ≡ get_or xs i x → map f (drop i xs) ≡ f x ∷ map f (drop (i + 1) xs)
  next xs i x lt is = let e : drop i xs ≡ get_or xs i x ∷ drop (suc i) xs = drop-cons xs i x lt in rw (add-one, e, ← is) refl

  pub is_here : (xs : List A) (i : ℕ) (x : A) → i < length xs → x ≡ get_or xs i x → (f x).number ≡ n → nick_of (map f (drop i xs)) n ≡ nick_of (map f xs) n → (f x).nick ≡ nick_of (map f xs) n
  is_here xs i x lt is same so_far =
      let test : int_eq (f x).number n ≡ true = (Decides-int_eq (f x).number n).1 same in
      sym (ap (λ ms. nick_of ms n) (next xs i x lt is) ∙ ap (λ b. cond b (f x).nick (nick_of (map f (drop (i + 1) xs)) n)) test) ∙ so_far

  pub is_further : (xs : List A) (i : ℕ) (x : A) → i < length xs → x ≡ get_or xs i x → ((f x).number ≡ n → ⊥) → nick_of (map f (drop i xs)) n ≡ nick_of (map f xs) n → nick_of (map f (drop (i + 1) xs)) n ≡ nick_of (map f xs) n
  is_further xs i x lt is other so_far =
      let test : int_eq (f x).number n ≡ false = false_from_ne_true (int_eq (f x).number n) (λ e. other ((Decides-int_eq (f x).number n).0 e)) in
      sym (ap (λ ms. nick_of ms n) (next xs i x lt is) ∙ ap (λ b. cond b (f x).nick (nick_of (map f (drop (i + 1) xs)) n)) test) ∙ so_far

  pub is_none : (xs : List A) (i : ℕ) → length xs ≤ i → nick_of (map f (drop i xs)) n ≡ nick_of (map f xs) n → [] ≡ nick_of (map f xs) n
  is_none xs i le so_far =
      let none : drop i xs ≡ [] = nil_from_length (drop i xs) (omega (arith, length-drop i xs)) in
      sym (ap (λ ys. nick_of (map f ys) n) none) ∙ so_far

-- no bits are a negative number
none_negative : (ms : List FlagsMember) (n : ℕ) → [] ≡ nick_of (map flags_member ms) (negsuc n)
none_negative [] n = refl
none_negative (m ∷ ms) n =
    let test : int_eq (pos m.bits) (negsuc n) ≡ false = false_from_ne_true (int_eq (pos m.bits) (negsuc n)) (λ e. pos-ne-negsuc m.bits n ((Decides-int_eq (pos m.bits) (negsuc n)).0 e)) in
    none_negative ms n ∙ sym (ap (λ b. cond b (string_bytes m.nick) (nick_of (map flags_member ms) (negsuc n))) test)

pub no_bits : (ms : List FlagsMember) (n : ℤ) → FitsSigned w32 n → (FitsUnsignedBits 32 (to_z w32 (of_z w32 n)) → ⊥) → [] ≡ nick_of (map flags_member ms) n
no_bits ms n fits outside = by n fits (λ h. outside (subst (FitsUnsignedBits 32) (sym (to_z-of_z w32 n fits)) h))
  where
    by : (n : ℤ) → FitsSigned w32 n → (FitsUnsignedBits 32 n → ⊥) → [] ≡ nick_of (map flags_member ms) n
    by (pos n) fits out = absurd (out (omega (arith, ints)))
    by (negsuc n) fits out = none_negative ms n
