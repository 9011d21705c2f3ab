-- The canonical spelling of a name.
use Rattle.std.proofs.Common.{◌≡◌, ℕ, ◌<◌, Bool, true, false, cond, nat_eq, List, [], ◌∷◌, map, ◌&&◌, refl, ap, arith, IsUtf8}
use Rattle.std.specs.Str.{IsAscii}
use Rattle.std.proofs.lemmas.Bool.{false≢true}
use Rattle.std.proofs.lemmas.Bool.Decides.{nat_tests}
use Rattle.std.proofs.lemmas.Str.{IsUtf8-from_ascii}
use Rattle.std.proofs.lemmas.Str.Ascii.{IsAscii-nil, IsAscii-cons}
use Rattle.type_tree.specs.PropertyName.{is_property_name, segments_follow, is_letter, is_letter_or_digit, is_separator}
use Rattle.ui_machine.specs.Definition.Names.{canonical}

pub canonical_is_map : (bytes : List ℕ) → canonical bytes ≡ map (λ b. cond (nat_eq b 95) 45 b) bytes
canonical_is_map [] = refl
canonical_is_map (b ∷ bytes) = ap (λ l. cond (nat_eq b 95) 45 b ∷ l) (canonical_is_map bytes)

letter_small : (x : ℕ) → is_letter_or_digit x ≡ true → x < 128
letter_small x h = grind (arith, nat_tests)

separator_small : (x : ℕ) → is_separator x ≡ true → x < 128
separator_small x h = grind (arith, nat_tests)

dash_small : (x : ℕ) → x < 128 → cond (nat_eq x 95) 45 x < 128
dash_small x h = by (nat_eq x 95)
  where
    by : (b : Bool) → cond b 45 x < 128
    by true = omega arith
    by false = h

left : (a b : Bool) → (a && b) ≡ true → a ≡ true
left true b h = refl
left false b h = h

right : (a b : Bool) → (a && b) ≡ true → b ≡ true
right true b h = h
right false b h = absurd (false≢true h)

segments_ascii : (xs : List ℕ) → segments_follow xs ≡ true → IsAscii (canonical xs)
segments_ascii [] h = IsAscii-nil
segments_ascii (x ∷ []) h = IsAscii-cons (cond (nat_eq x 95) 45 x) [] (dash_small x (letter_small x h)) IsAscii-nil
segments_ascii (x ∷ y ∷ xs) h = by (is_separator x) refl h (segments_ascii xs) (segments_ascii (y ∷ xs))
  where
    by : (b : Bool) → is_separator x ≡ b
        → cond b (is_letter_or_digit y && segments_follow xs) (is_letter_or_digit x && segments_follow (y ∷ xs)) ≡ true
        → (segments_follow xs ≡ true → IsAscii (canonical xs)) → (segments_follow (y ∷ xs) ≡ true → IsAscii (canonical (y ∷ xs)))
        → IsAscii (canonical (x ∷ y ∷ xs))
    by true e t two one =
        IsAscii-cons (cond (nat_eq x 95) 45 x) (canonical (y ∷ xs)) (dash_small x (separator_small x e))
        (IsAscii-cons (cond (nat_eq y 95) 45 y) (canonical xs) (dash_small y (letter_small y (left (is_letter_or_digit y) (segments_follow xs) t))) (two (right (is_letter_or_digit y) (segments_follow xs) t)))
    by false e t two one =
        IsAscii-cons (cond (nat_eq x 95) 45 x) (canonical (y ∷ xs)) (dash_small x (letter_small x (left (is_letter_or_digit x) (segments_follow (y ∷ xs)) t)))
        (one (right (is_letter_or_digit x) (segments_follow (y ∷ xs)) t))

first_small : (x : ℕ) → is_letter x ≡ true → x < 128
first_small x h = grind (arith, nat_tests)

-- a property's name is text in its canonical spelling too
pub canonical_utf8 : (name : List ℕ) → is_property_name name ≡ true → IsUtf8 (canonical name)
canonical_utf8 [] h = absurd (false≢true h)
canonical_utf8 (x ∷ xs) h =
    IsUtf8-from_ascii (canonical (x ∷ xs)) (IsAscii-cons (cond (nat_eq x 95) 45 x) (canonical xs)
    (dash_small x (first_small x (left (is_letter x) (segments_follow xs) h))) (segments_ascii xs (right (is_letter x) (segments_follow xs) h)))
