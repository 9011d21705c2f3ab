-- The number that a name has, found entry by entry, and what a new entry or new numbers of an entry do to it.
use Rattle.std.proofs.Common.{◌≡◌, ℕ, zero, suc, ◌+◌, Bool, true, false, cond, nat_eq, ◌&&◌, is_some, List, [], ◌∷◌, ◌++◌, length, Option, None, Some, option_map, option_and_then, slice_get, true≢false, refl, sym, ap, ◌∙◌, ◌<◌, arith}
use Rattle.std.proofs.lemmas.Option.{none-some, slice_get_within}
use Rattle.std.proofs.lemmas.Slice.Eq.{bytes_eq-Decides}
use Rattle.ui_machine.specs.Definition.Names.{same_name, place_from}
use Rattle.ui_machine.specs.Rules.EmissionPlan.{or_else}
use Rattle.type_tree.proofs.Lookups.{same_name-bytes_eq}
use Rattle.name_tables.specs.Names.{Named, Adds, SameNumbers, number_by, number_in, number_of, place_of, with_number}
use Rattle.name_tables.specs.Steps.{with_name, ReadsSame, GivesNumber}
use Rattle.name_tables.proofs.Numbers.{unchanged}

-- ** names

-- names that are one are equal
pub same-equal : (a b : List ℕ) → same_name a b ≡ true → a ≡ b
same-equal a b h = sym ((bytes_eq-Decides b a).0 (sym (same_name-bytes_eq b a) ∙ h))

pub same-self : (a : List ℕ) → same_name a a ≡ true
same-self a = same_name-bytes_eq a a ∙ (bytes_eq-Decides a a).1 refl

-- ** entry by entry

-- the number that a name has in a class: that of the first entry that is called so
abbrev pub found : List Named → ℕ → List ℕ → Option ℕ
found [] class name = None
found (x ∷ xs) class name = cond (same_name x.name name) (number_in x.numbers class) (found xs class name)

-- one entry before shifts each place by one
place_from-suc : (i : ℕ) (xs : List Named) (name : List ℕ) → place_from (λ n. n.name) (suc i) xs name ≡ option_map suc (place_from (λ n. n.name) i xs name)
place_from-suc i [] name = refl
place_from-suc i (x ∷ xs) name = by (same_name x.name name) (place_from-suc (suc i) xs name)
  where
    later : Option ℕ
    later = place_from (λ n. n.name) (suc (suc i)) xs name

    next : Option ℕ
    next = place_from (λ n. n.name) (suc i) xs name

    by : (b : Bool) → later ≡ option_map suc next → cond b (Some (suc i)) later ≡ option_map suc (cond b (Some i) next)
    by true r = refl
    by false r = r

-- and leaves what is at each
behind : (x : Named) (xs : List Named) (class : ℕ) (o : Option ℕ) → number_by (x ∷ xs) class (option_map suc o) ≡ number_by xs class o
behind x xs class None = refl
behind x xs class (Some i) = refl

-- so a name has the number of the first entry that is called so
pub number_of-found : (xs : List Named) (class : ℕ) (name : List ℕ) → number_of xs class name ≡ found xs class name
number_of-found [] class name = refl
number_of-found (x ∷ xs) class name =
    by (same_name x.name name) (ap (number_by (x ∷ xs) class) (place_from-suc 0 xs name) ∙ behind x xs class (place_of xs name) ∙ number_of-found xs class name)
  where
    next : Option ℕ
    next = place_from (λ n. n.name) 1 xs name

    by : (b : Bool) → number_by (x ∷ xs) class next ≡ found xs class name
        → number_by (x ∷ xs) class (cond b (Some 0) next) ≡ cond b (number_in x.numbers class) (found xs class name)
    by true r = refl
    by false r = r

-- ** the place of a name

-- where the first entry is called so, its place is the first
place-first : (x : Named) (xs : List Named) (name : List ℕ) (at : ℕ) → same_name x.name name ≡ true → place_of (x ∷ xs) name ≡ Some at → at ≡ 0
place-first x xs name at is h =
    let e : Some 0 ≡ Some at = sym (ap (λ b. cond b (Some 0) (place_from (λ (n : Named). n.name) 1 xs name)) is) ∙ h in
    cc

-- otherwise it is behind
record Behind (xs : List Named) (name : List ℕ) (at : ℕ) : Type 0 where
  before : ℕ
  is : at ≡ suc before
  place : place_of xs name ≡ Some before

place-behind : (x : Named) (xs : List Named) (name : List ℕ) (at : ℕ) → same_name x.name name ≡ false → place_of (x ∷ xs) name ≡ Some at → Behind xs name at
place-behind x xs name at not_it h =
    by (place_of xs name) refl (sym (place_from-suc 0 xs name) ∙ sym (ap (λ b. cond b (Some 0) (place_from (λ (n : Named). n.name) 1 xs name)) not_it) ∙ h)
  where
    by : (o : Option ℕ) → place_of xs name ≡ o → option_map suc (place_of xs name) ≡ Some at → Behind xs name at
    by None is e = absurd (none-some at (sym (ap (option_map suc) is) ∙ e))
    by (Some k) is e =
        let same : Some (suc k) ≡ Some at = sym (ap (option_map suc) is) ∙ e in
        record { before = k; is = cc; place = is }

-- what is at the place of a name is called so
pub called_at : (xs : List Named) (name : List ℕ) (at : ℕ) → place_of xs name ≡ Some at → option_map (λ n. n.name) (slice_get xs at) ≡ Some name
called_at [] name at h = absurd (none-some at h)
called_at (x ∷ xs) name at h = by (same_name x.name name) refl (called_at xs name)
  where
    by : (b : Bool) → same_name x.name name ≡ b → ((k : ℕ) → place_of xs name ≡ Some k → option_map (λ (n : Named). n.name) (slice_get xs k) ≡ Some name)
        → option_map (λ (n : Named). n.name) (slice_get (x ∷ xs) at) ≡ Some name
    by true is rest =
        ap (λ i. option_map (λ (n : Named). n.name) (slice_get (x ∷ xs) i)) (place-first x xs name at is h) ∙ ap Some (same-equal x.name name is)
    by false is rest =
        let b = place-behind x xs name at is h in
        ap (λ i. option_map (λ (n : Named). n.name) (slice_get (x ∷ xs) i)) b.is ∙ rest b.before b.place

-- ** new numbers

-- the names, of which one got other numbers
abbrev pub set_numbers : List Named → ℕ → List (ℕ × ℕ) → List Named
set_numbers [] at numbers = []
set_numbers (x ∷ xs) zero numbers = record { name = x.name; numbers = numbers } ∷ xs
set_numbers (x ∷ xs) (suc at) numbers = x ∷ set_numbers xs at numbers

module _ (name : List ℕ) (numbers : List (ℕ × ℕ)) (c : ℕ) (n : List ℕ) where
  -- where the name of an entry is the name
  at_name : (x : Named) (b : Bool) (rest : Option ℕ)
      → cond b (number_in numbers c) rest ≡ cond b (number_in numbers c) (cond b (number_in x.numbers c) rest)
  at_name x true rest = refl
  at_name x false rest = refl

  -- where it is another
  past_name : (x : Named) → same_name x.name name ≡ false → (p q : Bool) (rest : Option ℕ) → same_name x.name n ≡ p → same_name name n ≡ q
      → cond p (number_in x.numbers c) (cond q (number_in numbers c) rest) ≡ cond q (number_in numbers c) (cond p (number_in x.numbers c) rest)
  past_name x other true true rest is too =
      let one : x.name ≡ name = same-equal x.name n is ∙ sym (same-equal name n too) in
      absurd (true≢false (sym (same-self name) ∙ ap (λ m. same_name m name) (sym one) ∙ other))
  past_name x other true false rest is too = refl
  past_name x other false true rest is too = refl
  past_name x other false false rest is too = refl

  -- they are read under that name alone
  pub found-set : (xs : List Named) (at : ℕ) → place_of xs name ≡ Some at → found (set_numbers xs at numbers) c n ≡ cond (same_name name n) (number_in numbers c) (found xs c n)
  found-set [] at h = absurd (none-some at h)
  found-set (x ∷ xs) at h = by (same_name x.name name) refl (found-set xs)
    where
      by : (b : Bool) → same_name x.name name ≡ b
          → ((k : ℕ) → place_of xs name ≡ Some k → found (set_numbers xs k numbers) c n ≡ cond (same_name name n) (number_in numbers c) (found xs c n))
          → found (set_numbers (x ∷ xs) at numbers) c n ≡ cond (same_name name n) (number_in numbers c) (found (x ∷ xs) c n)
      by true is rest =
          ap (λ i. found (set_numbers (x ∷ xs) i numbers) c n) (place-first x xs name at is h)
          ∙ at_name x (same_name x.name n) (found xs c n)
          ∙ ap (λ m. cond (same_name m n) (number_in numbers c) (found (x ∷ xs) c n)) (same-equal x.name name is)
      by false is rest =
          let b = place-behind x xs name at is h in
          ap (λ i. found (set_numbers (x ∷ xs) i numbers) c n) b.is
          ∙ ap (cond (same_name x.name n) (number_in x.numbers c)) (rest b.before b.place)
          ∙ past_name x is (same_name x.name n) (same_name name n) (found xs c n) refl refl

-- the numbers of the entry at a place
abbrev pub numbers_of : List Named → ℕ → Option (List (ℕ × ℕ))
numbers_of xs at = option_map (λ n. n.numbers) (slice_get xs at)

-- the numbers of the entry at the place of a name are the name's
pub found_at : (xs : List Named) (name : List ℕ) (at : ℕ) (numbers : List (ℕ × ℕ)) (c : ℕ) → place_of xs name ≡ Some at → numbers_of xs at ≡ Some numbers
    → found xs c name ≡ number_in numbers c
found_at xs name at numbers c place is =
    sym (number_of-found xs c name) ∙ ap (number_by xs c) place ∙ through (slice_get xs at) ∙ ap (option_and_then (λ (ns : List (ℕ × ℕ)). number_in ns c)) is
  where
    through : (o : Option Named) → option_and_then (λ (n : Named). number_in n.numbers c) o
        ≡ option_and_then (λ (ns : List (ℕ × ℕ)). number_in ns c) (option_map (λ (n : Named). n.numbers) o)
    through None = refl
    through (Some n) = refl

module _ (xs : List Named) (name : List ℕ) (at : ℕ) (before numbers : List (ℕ × ℕ)) (place : place_of xs name ≡ Some at) (is : numbers_of xs at ≡ Some before) where
  -- numbers that read the same change no name's number
  pub set_numbers-same : ReadsSame before numbers → SameNumbers xs (set_numbers xs at numbers)
  set_numbers-same same c n =
      number_of-found (set_numbers xs at numbers) c n ∙ found-set name numbers c n xs at place ∙ by (same_name name n) refl ∙ sym (number_of-found xs c n)
    where
      by : (b : Bool) → same_name name n ≡ b → cond b (number_in numbers c) (found xs c n) ≡ found xs c n
      by true one = same c ∙ sym (found_at xs name at before c place is) ∙ ap (found xs c) (same-equal name n one)
      by false one = refl

  -- a number that a class got for a name is the name's there
  pub set_numbers-adds : (class number : ℕ) → GivesNumber before numbers class number → Adds xs (set_numbers xs at numbers) class name number
  set_numbers-adds class number gives c n =
      number_of-found (set_numbers xs at numbers) c n ∙ found-set name numbers c n xs at place ∙ by (same_name name n) refl
      ∙ ap (with_number (nat_eq c class && same_name name n) number) (sym (number_of-found xs c n))
    where
      and_true : (b : Bool) → b ≡ (b && true)
      and_true true = refl
      and_true false = refl

      and_false : (b : Bool) → false ≡ (b && false)
      and_false true = refl
      and_false false = refl

      by : (b : Bool) → same_name name n ≡ b → cond b (number_in numbers c) (found xs c n) ≡ with_number (nat_eq c class && b) number (found xs c n)
      by true one =
          gives c ∙ ap (with_number (nat_eq c class) number) (sym (found_at xs name at before c place is) ∙ ap (found xs c) (same-equal name n one))
          ∙ ap (λ b. with_number b number (found xs c n)) (and_true (nat_eq c class))
      by false one = sym (unchanged number (found xs c n)) ∙ ap (λ b. with_number b number (found xs c n)) (and_false (nat_eq c class))

-- ** a new name

-- a name that no class has is found nowhere
found-more : (xs : List Named) (name : List ℕ) (c : ℕ) (n : List ℕ) → found (xs ++ record { name = name; numbers = [] } ∷ []) c n ≡ found xs c n
found-more [] name c n = by (same_name name n)
  where
    by : (b : Bool) → ◌≡◌ {A = Option ℕ} (cond b None None) None
    by true = refl
    by false = refl
found-more (x ∷ xs) name c n = ap (cond (same_name x.name n) (number_in x.numbers c)) (found-more xs name c n)

-- a name that is there leaves the names as they are
pub with_name-there : (xs : List Named) (name : List ℕ) (at : ℕ) → place_of xs name ≡ Some at → with_name xs name ≡ xs
with_name-there xs name at place = ap (λ o. cond (is_some o) xs (xs ++ record { name = name; numbers = [] } ∷ [])) place

-- another goes last
pub with_name-new : (xs : List Named) (name : List ℕ) → place_of xs name ≡ None → with_name xs name ≡ xs ++ record { name = name; numbers = [] } ∷ []
with_name-new xs name place = ap (λ o. cond (is_some o) xs (xs ++ record { name = name; numbers = [] } ∷ [])) place

-- no number differs in either case
pub with_name-same : (xs : List Named) (name : List ℕ) → SameNumbers xs (with_name xs name)
with_name-same xs name c n = by (is_some (place_of xs name))
  where
    more : List Named
    more = xs ++ record { name = name; numbers = [] } ∷ []

    by : (b : Bool) → number_of (cond b xs more) c n ≡ number_of xs c n
    by true = refl
    by false = number_of-found more c n ∙ found-more xs name c n ∙ sym (number_of-found xs c n)

-- one entry more is found where none before is called so
place_from-more : (i : ℕ) (xs : List Named) (x : Named) (n : List ℕ)
    → place_from (λ k. k.name) i (xs ++ x ∷ []) n ≡ or_else (place_from (λ k. k.name) i xs n) (cond (same_name x.name n) (Some (i + length xs)) None)
place_from-more i [] x n = let zero_more : i ≡ i + 0 = omega arith in ap (λ k. cond (same_name x.name n) (Some k) None) zero_more
place_from-more i (y ∷ xs) x n = by (same_name y.name n) (place_from-more (suc i) xs x n)
  where
    next : Option ℕ
    next = place_from (λ k. k.name) (suc i) xs n

    last : Option ℕ
    last = place_from (λ k. k.name) (suc i) (xs ++ x ∷ []) n

    by : (b : Bool) → last ≡ or_else next (cond (same_name x.name n) (Some (suc i + length xs)) None)
        → cond b (Some i) last ≡ or_else (cond b (Some i) next) (cond (same_name x.name n) (Some (i + suc (length xs))) None)
    by true rest = refl
    by false rest =
        let shift : suc i + length xs ≡ i + suc (length xs) = omega arith in
        rest ∙ ap (λ k. or_else next (cond (same_name x.name n) (Some k) None)) shift

pub place_of-more : (xs : List Named) (x : Named) (n : List ℕ) → place_of (xs ++ x ∷ []) n ≡ or_else (place_of xs n) (cond (same_name x.name n) (Some (length xs)) None)
place_of-more xs x n =
    let none_before : 0 + length xs ≡ length xs = omega arith in
    place_from-more 0 xs x n ∙ ap (λ k. or_else (place_of xs n) (cond (same_name x.name n) (Some k) None)) none_before

-- a new one comes last
pub place_of-last : (xs : List Named) (x : Named) → place_of xs x.name ≡ None → place_of (xs ++ x ∷ []) x.name ≡ Some (length xs)
place_of-last xs x h =
    place_of-more xs x x.name
    ∙ ap (λ o. or_else o (cond (same_name x.name x.name) (Some (length xs)) None)) h
    ∙ ap (λ b. cond b (Some (length xs)) None) (same-self x.name)

-- ** places

-- the place of a name is within the names
pub place_of-within : (xs : List Named) (name : List ℕ) (at : ℕ) → place_of xs name ≡ Some at → at < length xs
place_of-within xs name at place = by (slice_get xs at) refl (called_at xs name at place)
  where
    by : (o : Option Named) → slice_get xs at ≡ o → option_map (λ (n : Named). n.name) (slice_get xs at) ≡ Some name → at < length xs
    by None is called = absurd (none-some name (sym (ap (option_map (λ (n : Named). n.name)) is) ∙ called))
    by (Some n) is called = slice_get_within xs at n is

-- names at one place are one
pub place_of-one : (xs : List Named) (a b : List ℕ) (at : ℕ) → place_of xs a ≡ Some at → place_of xs b ≡ Some at → a ≡ b
place_of-one xs a b at one two = let same : Some a ≡ Some b = sym (called_at xs a at one) ∙ called_at xs b at two in cc
