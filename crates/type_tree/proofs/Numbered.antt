-- The first member of an enum with a number.
use Rattle.std.proofs.Common.{◌≡◌, ◌∙◌, ℕ, zero, suc, ◌<◌, ℤ, Bor, Bool, true, false, cond, ◌||◌, List, [], ◌∷◌, length, map, drop, get_or, Option, None, Some, is_some, slice_get, option_and_then, string_bytes, refl, sym, ap, arith}
use Rattle.std.specs.BTreeMap.{BTreeMap, Updates}
use Rattle.std.specs.List.{find}
use Rattle.std.specs.Option.{option_copied, option_map_or}
use Rattle.std.specs.Ordering.{int_cmp, int_eq}
use Rattle.std.proofs.lemmas.Bool.Decides.{Decides-int_eq}
use Rattle.ui_machine.specs.Output.Text.{nick_of}
use Rattle.ui_machine.specs.Rules.Transform.{has_number}
use Rattle.type_tree.specs.declared.member.EnumMember.{EnumMember}
use Rattle.type_tree.specs.Entry.{enum_member}
use Rattle.type_tree.specs.Numbered.{at_place}

pub some_copied : {A : Type 0} (o : Option (Bor A)) → is_some o ≡ is_some (option_copied o)
some_copied None = refl
some_copied (Some x) = refl

-- whether one has it
pub is_numbered : (members : List EnumMember) (n : ℤ) → is_some (find (λ m. int_eq m.number n) members) ≡ has_number (map enum_member members) n
is_numbered [] n = refl
is_numbered (m ∷ ms) n = by (int_eq m.number n) (is_numbered ms n)
  where
    by : (b : Bool) → is_some (find (λ m. int_eq m.number n) ms) ≡ has_number (map enum_member ms) n
        → is_some (cond b (Some m) (find (λ m. int_eq m.number n) ms)) ≡ (b || has_number (map enum_member ms) n)
    by true rest = refl
    by false rest = rest

-- and its nick
pub nick_numbered : (members : List EnumMember) (n : ℤ) → option_map_or (λ (m : EnumMember). string_bytes m.nick) (find (λ m. int_eq m.number n) members) [] ≡ nick_of (map enum_member members) n
nick_numbered [] n = refl
nick_numbered (m ∷ ms) n = by (int_eq m.number n) (nick_numbered ms n)
  where
    by : (b : Bool) → option_map_or (λ (m : EnumMember). string_bytes m.nick) (find (λ m. int_eq m.number n) ms) [] ≡ nick_of (map enum_member ms) n
        → option_map_or (λ (m : EnumMember). string_bytes m.nick) (cond b (Some m) (find (λ m. int_eq m.number n) ms)) [] ≡ cond b (string_bytes m.nick) (nick_of (map enum_member ms) n)
    by true rest = refl
    by false rest = rest

-- ** the first member of a number

pub none_numbered : (members : List EnumMember) (n : ℤ) → find (λ m. int_eq m.number n) members ≡ None → has_number (map enum_member members) n ≡ false
none_numbered [] n h = refl
none_numbered (m ∷ ms) n h = by (int_eq m.number n) h (none_numbered ms n)
  where
    by : (b : Bool) → cond b (Some m) (find (λ x. int_eq x.number n) ms) ≡ None
        → (find (λ x. int_eq x.number n) ms ≡ None → has_number (map enum_member ms) n ≡ false) → (b || has_number (map enum_member ms) n) ≡ false
    by true h rest = absurd (cc)
    by false h rest = rest h

pub one_numbered : (members : List EnumMember) (n : ℤ) (found : EnumMember) → find (λ m. int_eq m.number n) members ≡ Some found
    → (found.number ≡ n) × (has_number (map enum_member members) n ≡ true)
one_numbered [] n found h = absurd (cc)
one_numbered (m ∷ ms) n found h = by (int_eq m.number n) refl h (one_numbered ms n found)
  where
    by : (b : Bool) → int_eq m.number n ≡ b → cond b (Some m) (find (λ x. int_eq x.number n) ms) ≡ Some found
        → (find (λ x. int_eq x.number n) ms ≡ Some found → (found.number ≡ n) × (has_number (map enum_member ms) n ≡ true))
        → (found.number ≡ n) × ((b || has_number (map enum_member ms) n) ≡ true)
    by true q h rest = let same : m ≡ found = cc in (ap (λ (x : EnumMember). x.number) (sym same) ∙ (Decides-int_eq m.number n).0 q, refl)
    by false q h rest = rest h

-- ** places that are kept

-- what code reads at a place is the member there
pub there : (members : List EnumMember) (i : ℕ) (m : EnumMember) → i < length members → m ≡ get_or members i m → slice_get members i ≡ Some m
there [] i m lt is = absurd (omega (arith, lt))
there (x ∷ members) zero m lt is = ap (λ (y : EnumMember). Some y) (sym is)
there (x ∷ members) (suc i) m lt is = there members i m (omega (arith, lt)) is

drop_there : (xs : List EnumMember) (i : ℕ) (x : EnumMember) → slice_get xs i ≡ Some x → drop i xs ≡ x ∷ drop (suc i) xs
drop_there [] i x at = cc at
drop_there (y ∷ xs) zero x at = let here : y ≡ x = cc at in ap (λ z. z ∷ xs) here
drop_there (y ∷ xs) (suc i) x at = drop_there xs i x at

-- the place of one member more, which comes before those whose places are kept
pub first_place : (members : List EnumMember) (places new : BTreeMap ℤ ℕ) (left : ℕ) (m : EnumMember) → slice_get members left ≡ Some m → Updates int_cmp places new m.number (Some left)
    → ((n : ℤ) → at_place places members n ≡ find (λ x. int_eq x.number n) (drop (suc left) members))
    → (n : ℤ) → at_place new members n ≡ find (λ x. int_eq x.number n) (drop left members)
first_place members places new left m at updates rest n =
    by (int_eq m.number n) refl ∙ ap (λ (ms : List EnumMember). find (λ x. int_eq x.number n) ms) (sym (drop_there members left m at))
  where
    by : (b : Bool) → int_eq m.number n ≡ b → at_place new members n ≡ cond b (Some m) (find (λ x. int_eq x.number n) (drop (suc left) members))
    by true e =
        let same : m.number ≡ n = (Decides-int_eq m.number n).0 e in
        ap (λ k. at_place new members k) (sym same) ∙ ap (λ o. option_and_then (λ place. slice_get members place) o) updates.1 ∙ at
    by false e = ap (λ o. option_and_then (λ place. slice_get members place) o) (updates.2 n e) ∙ rest n
