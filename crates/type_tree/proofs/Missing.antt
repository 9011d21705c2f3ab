-- The first required type that a class would not be, interface by interface.
use Rattle.std.proofs.Common.{◌≡◌, ℕ, ◌+◌, ◌<◌, Bool, true, false, cond, List, [], ◌∷◌, ◌++◌, length, get_or, drop, Option, None, Some, refl, sym, ap, ◌∙◌, add-one, drop-cons}
use Rattle.std.specs.List.{find, flat_map, filter_map, cons_option}
use Rattle.std.proofs.lemmas.Option.{none-some}
use Rattle.type_tree.specs.Adding.{first_required}

abbrev either : Option ℕ → Option ℕ → Option ℕ
either None o = o
either (Some m) o = Some m

module _ (test : ℕ → Bool) where
  find-after : (xs ys : List ℕ) → find test xs ≡ None → find test (xs ++ ys) ≡ find test ys
  find-after [] ys h = refl
  find-after (x ∷ xs) ys h = by (test x) h (find-after xs ys)
    where
      by : (b : Bool) → cond b (Some x) (find test xs) ≡ None → (find test xs ≡ None → find test (xs ++ ys) ≡ find test ys) → cond b (Some x) (find test (xs ++ ys)) ≡ find test ys
      by true e after = absurd (none-some x (sym e))
      by false e after = after e

  find-before : (xs ys : List ℕ) (m : ℕ) → find test xs ≡ Some m → find test (xs ++ ys) ≡ Some m
  find-before [] ys m h = absurd (none-some m h)
  find-before (x ∷ xs) ys m h = by (test x) h (find-before xs ys m)
    where
      by : (b : Bool) → cond b (Some x) (find test xs) ≡ Some m → (find test xs ≡ Some m → find test (xs ++ ys) ≡ Some m) → cond b (Some x) (find test (xs ++ ys)) ≡ Some m
      by true e before = e
      by false e before = before e

  module _ {A : Type 0} (named : A → Option ℕ) (required : ℕ → List ℕ) where
    -- the first that passes, of what these require
    abbrev pub first_of : List A → Option ℕ
    first_of xs = find test (flat_map required (filter_map named xs))

    first_of-cons : (xs : List A) (i : ℕ) (d : A) → i < length xs → first_of (drop i xs) ≡ find test (flat_map required (cons_option (named (get_or xs i d)) (filter_map named (drop (i + 1) xs))))
    first_of-cons xs i d h =
        ap first_of (drop-cons xs i d h) ∙ ap (λ k. find test (flat_map required (cons_option (named (get_or xs i d)) (filter_map named (drop k xs))))) (sym (add-one i))

    joined : (o : Option ℕ) (ys : List ℕ) (r : Option ℕ) → first_required test required o ≡ r → find test (flat_map required (cons_option o ys)) ≡ either r (find test (flat_map required ys))
    joined None ys None h = refl
    joined None ys (Some m) h = absurd (none-some m h)
    joined (Some i) ys None h = find-after (required i) (flat_map required ys) h
    joined (Some i) ys (Some m) h = find-before (required i) (flat_map required ys) m h

    pub first_of-after : (xs : List A) (i : ℕ) (d : A) → i < length xs → first_required test required (named (get_or xs i d)) ≡ None → first_of (drop (i + 1) xs) ≡ first_of (drop i xs)
    first_of-after xs i d h n = sym (first_of-cons xs i d h ∙ joined (named (get_or xs i d)) (filter_map named (drop (i + 1) xs)) None n)

    pub first_of-found : (xs : List A) (i m : ℕ) (d : A) → i < length xs → first_required test required (named (get_or xs i d)) ≡ Some m → first_of (drop i xs) ≡ Some m
    first_of-found xs i m d h n = first_of-cons xs i d h ∙ joined (named (get_or xs i d)) (filter_map named (drop (i + 1) xs)) (Some m) n
