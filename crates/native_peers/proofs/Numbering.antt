-- The serial numbers of peers: how they change with the list of peers, and which place a search by halves finds.
use Rattle.std.proofs.Common.{◌≡◌, refl, ap, sym, subst, ◌∙◌, arith, ℕ, zero, suc, ◌+◌, ◌-◌, ◌^◌, ◌<◌, ◌≤◌, Bool, true, false, cond, not, nat_lt, ◌&&◌, ◌||◌, List, [], ◌∷◌, ◌++◌, length, map, get_or, if◌then◌else◌, slice_get, slice_set, bytes_eq, Option, None, Some, Result, Ok, Err, inl, inr}
use Rattle.std.specs.List.{list_any}
use Rattle.std.specs.List.Sorted.{IsSearchInRange, IsBinarySearchResult, IsNonDecreasingBy}
use Rattle.std.specs.Option.{IfSome, SomeIff}
use Rattle.std.specs.Ordering.{nat_cmp, ordering_index}
use Rattle.std.specs.Prelude.{is_some, remove}
use Rattle.std.specs.Result.{result_ok}
use Rattle.std.proofs.lemmas.Bool.Decides.{nat_tests}
use Rattle.std.proofs.lemmas.Bool.{cases_lt}
use Rattle.std.proofs.lemmas.Cmp.{ranked}
use Rattle.std.proofs.lemmas.List.Sorted.{IsNonDecreasingBy-from_default}
use Rattle.std.proofs.lemmas.Option.{get_or_from_slice_get, slice_get_within}
use Rattle.ui_machine.specs.Definition.Names.{place_from, place_named, same_name}
use Rattle.law_typing.specs.Laws.WellRead.{no_two}
use Rattle.law_peers.proofs.PoolProofs.{name_true}
use Rattle.g_values.proofs.Texts.{same_bytes}
use Rattle.native_peers.specs.Serials.{rises_from, serial_named}

parts : (a b : Bool) → (a && b) ≡ true → (a ≡ true) × (b ≡ true)
parts true b is = (refl, is)
parts false b is = absurd (cc is)

both : {a b : Bool} → a ≡ true → b ≡ true → (a && b) ≡ true
both first second = rw (first, second) refl

neither : (a b : Bool) → (a || b) ≡ false → (a ≡ false) × (b ≡ false)
neither true b is = absurd (cc is)
neither false b is = (refl, is)

first_apart : (a b : Bool) → (not a && b) ≡ true → (a ≡ false) × (b ≡ true)
first_apart true b is = absurd (cc is)
first_apart false b is = (refl, is)

-- ** numbers that rise

lower_rises : (below above : ℕ) (ns : List ℕ) → below < above → rises_from above ns ≡ true → rises_from below ns ≡ true
lower_rises below above [] low rises = refl
lower_rises below above (n ∷ ns) low rises =
    let p = parts (nat_lt above n) (rises_from n ns) rises in
    let first : nat_lt below n ≡ true = grind (arith, nat_tests, low, p.0) in
    both first p.1

-- one less
pub rises_less : (above : ℕ) (ns : List ℕ) (k : ℕ) → rises_from above ns ≡ true → rises_from above (remove ns k) ≡ true
rises_less above [] zero rises = rises
rises_less above [] (suc k) rises = rises
rises_less above (n ∷ ns) zero rises =
    let p = parts (nat_lt above n) (rises_from n ns) rises in
    lower_rises above n ns (grind (arith, nat_tests, p.0)) p.1
rises_less above (n ∷ ns) (suc k) rises =
    let p = parts (nat_lt above n) (rises_from n ns) rises in
    both p.0 (rises_less n ns k p.1)

module _ {N : Type 0} (serial : N → ℕ) where
  pub numbers_less : (xs : List N) (k : ℕ) → map serial (remove xs k) ≡ remove (map serial xs) k
  numbers_less [] zero = refl
  numbers_less [] (suc k) = refl
  numbers_less (x ∷ xs) zero = refl
  numbers_less (x ∷ xs) (suc k) = ap (λ ns. serial x ∷ ns) (numbers_less xs k)

  pub numbers_set : (xs : List N) (k : ℕ) (x y : N) → slice_get xs k ≡ Some x → serial y ≡ serial x → map serial (slice_set xs k y) ≡ map serial xs
  numbers_set [] k x y at same = refl
  numbers_set (z ∷ xs) zero x y at same = let own : z ≡ x = cc at in ap (λ s. s ∷ map serial xs) (same ∙ ap serial (sym own))
  numbers_set (z ∷ xs) (suc k) x y at same = ap (λ ns. serial z ∷ ns) (numbers_set xs k x y at same)

  abbrev last_of : N → List N → N
  last_of x [] = x
  last_of x (y ∷ ys) = last_of y ys

  last_is : (x : N) (xs : List N) → slice_get (x ∷ xs) (length xs) ≡ Some (last_of x xs)
  last_is x [] = refl
  last_is x (y ∷ ys) = last_is y ys

  rises_on : (above : ℕ) (x : N) (xs : List N) (n : ℕ) → rises_from above (map serial (x ∷ xs)) ≡ true → serial (last_of x xs) < n
      → rises_from above (map serial (x ∷ xs) ++ n ∷ []) ≡ true
  rises_on above x [] n rises low =
      let next : nat_lt (serial x) n ≡ true = grind (arith, nat_tests, low) in
      both (parts (nat_lt above (serial x)) true rises).0 (both next refl)
  rises_on above x (y ∷ ys) n rises low =
      let p = parts (nat_lt above (serial x)) (rises_from (serial x) (map serial (y ∷ ys))) rises in
      both p.0 (rises_on (serial x) y ys n p.1 low)

  at_end : (x : N) (xs : List N) → slice_get (x ∷ xs) (length (x ∷ xs) - 1) ≡ Some (last_of x xs)
  at_end x xs = let end : length (x ∷ xs) - 1 ≡ length xs = omega arith in ap (slice_get (x ∷ xs)) end ∙ last_is x xs

  -- one more, above the last one
  pub next_rises : (xs : List N) (x : N) (r : Option ℕ) → slice_get xs (length xs - 1) ≡ Some x → SomeIff r (serial x + 1 < 2 ^ 64) (serial x + 1) → rises_from 0 (map serial xs) ≡ true
      → IfSome r (λ n. rises_from 0 (map serial xs ++ n ∷ []) ≡ true)
  next_rises xs x None at next rises = tt
  next_rises [] x (Some n) at next rises = absurd (cc at)
  next_rises (y ∷ ys) x (Some n) at next rises =
      let same : last_of y ys ≡ x = cc (sym (at_end y ys) ∙ at) in
      let low : serial (last_of y ys) < n = omega (arith, next.1, ap serial same) in
      rises_on 0 y ys n rises low

  -- the first
  pub first_rises : (xs : List N) → slice_get xs (length xs - 1) ≡ None → rises_from 0 (map serial xs ++ 1 ∷ []) ≡ true
  first_rises [] none = refl
  first_rises (x ∷ xs) none = absurd (cc (sym (at_end x xs) ∙ none))

  -- the number of the entry at a place
  abbrev number_at : List N → N → ℕ → ℕ
  number_at xs d i = serial (get_or xs i d)

  above_all : (above : ℕ) (xs : List N) (d : N) (i : ℕ) → rises_from above (map serial xs) ≡ true → i < length xs → above < number_at xs d i
  above_all above [] d i rises small = absurd (omega (arith, small))
  above_all above (x ∷ xs) d zero rises small =
      let p = parts (nat_lt above (serial x)) (rises_from (serial x) (map serial xs)) rises in
      grind (arith, nat_tests, p.0)
  above_all above (x ∷ xs) d (suc i) rises small =
      let p = parts (nat_lt above (serial x)) (rises_from (serial x) (map serial xs)) rises in
      let first : above < serial x = grind (arith, nat_tests, p.0) in
      omega (arith, first, above_all (serial x) xs d i p.1 (omega (arith, small)))

  goes_up : (above : ℕ) (xs : List N) (d : N) (i j : ℕ) → rises_from above (map serial xs) ≡ true → i < j → j < length xs → number_at xs d i < number_at xs d j
  goes_up above [] d i j rises le small = absurd (omega (arith, small))
  goes_up above (x ∷ xs) d i zero rises le small = absurd (omega (arith, le))
  goes_up above (x ∷ xs) d zero (suc j) rises le small =
      let p = parts (nat_lt above (serial x)) (rises_from (serial x) (map serial xs)) rises in
      above_all (serial x) xs d j p.1 (omega (arith, small))
  goes_up above (x ∷ xs) d (suc i) (suc j) rises le small =
      let p = parts (nat_lt above (serial x)) (rises_from (serial x) (map serial xs)) rises in
      goes_up (serial x) xs d i j p.1 (omega (arith, le)) (omega (arith, small))

  module _ (xs : List N) (rises : rises_from 0 (map serial xs) ≡ true) where
    no_fall : (d : N) (i j : ℕ) → i ≤ j → j < length xs → number_at xs d i ≤ number_at xs d j
    no_fall d i j le small = elim (cases_lt i j) [
      | inl before ↦ omega (arith, goes_up 0 xs d i j rises before small)
      | inr after ↦ let same : i ≡ j = omega (arith, le, after) in omega (arith, ap (number_at xs d) same)
    ]

    one_place : (d : N) (i j : ℕ) → i < length xs → j < length xs → number_at xs d i ≡ number_at xs d j → i ≡ j
    one_place d i j i_small j_small same = elim (cases_lt i j) [
      | inl before ↦ absurd (omega (arith, same, goes_up 0 xs d i j rises before j_small))
      | inr after ↦ elim (cases_lt j i) [
        | inl past ↦ absurd (omega (arith, same, goes_up 0 xs d j i rises past i_small))
        | inr at ↦ omega (arith, after, at)
      ]
    ]

    -- the comparisons with a number rise along the list, as a search by halves asks
    comparisons_rise : (s : ℕ) → N → IsNonDecreasingBy (λ (x : N). ordering_index (nat_cmp (serial x) s)) xs
    comparisons_rise s d = IsNonDecreasingBy-from_default (λ (x : N). ordering_index (nat_cmp (serial x) s)) xs d (λ i j le small.
        let rise = no_fall d i j le small in
        grind (arith, nat_tests, rise))

    -- a search by halves finds the entry of a number
    pub searched : (k : ℕ) (x : N) (r : Result ℕ ℕ) → slice_get xs k ≡ Some x → k < length xs → IsSearchInRange r (length xs)
        → IsBinarySearchResult (λ (y : N). nat_cmp (serial y) (serial x)) xs r → result_ok r ≡ Some k
    searched k x (Ok i) at small in_range equal =
        let own : number_at xs x k ≡ serial x = ap serial (get_or_from_slice_get xs k x x at) in
        ap (λ j. Some j) (one_place x i k in_range small (ranked (number_at xs x i) (serial x) _ (sym (equal x)) ∙ sym own))
    searched k x (Err i) at small in_range parted =
        let own : number_at xs x k ≡ serial x = ap serial (get_or_from_slice_get xs k x x at) in
        elim (cases_lt k i) [
          | inl before ↦ absurd (omega (arith, own, ranked (number_at xs x k) (serial x) _ (sym ((parted (comparisons_rise (serial x) x)).0 k x (omega arith) before))))
          | inr after ↦ absurd (omega (arith, own, ranked (number_at xs x k) (serial x) _ (sym ((parted (comparisons_rise (serial x) x)).1 k x after small))))
        ]

-- ** the serial numbers of names

module _ {N : Type 0} (name : N → List ℕ) (serial : N → ℕ) where
  unfound : (b : Bool) (i : ℕ) (rest : Option ℕ) → cond b (Some i) rest ≡ None → (b ≡ false) × (rest ≡ None)
  unfound true i rest is = absurd (cc is)
  unfound false i rest is = (refl, is)

  -- of two tests that do not both hold, either may come first
  before : (b l : Bool) (u v rest : Option ℕ) → (b ≡ true → l ≡ false) → cond b u (cond l v rest) ≡ cond l v (cond b u rest)
  before true l u v rest apart = rw (apart refl) refl
  before false l u v rest apart = refl

  not_last : (x y n : List ℕ) → same_name x y ≡ false → (l : Bool) → same_name y n ≡ l → same_name x n ≡ true → l ≡ false
  not_last x y n apart false last is = refl
  not_last x y n apart true last is =
      let e : x ≡ n = name_true x n is in
      let f : y ≡ n = name_true y n last in
      absurd (cc (apart, ap (same_name x) f, is))

  last_from : (i : ℕ) (xs : List N) (y : N) (n : List ℕ) → place_from name i xs (name y) ≡ None
      → serial_named name serial (xs ++ y ∷ []) n ≡ cond (same_name (name y) n) (Some (serial y)) (serial_named name serial xs n)
  last_from i [] y n none = refl
  last_from i (x ∷ xs) y n none =
      let apart = unfound (same_name (name x) (name y)) i (place_from name (suc i) xs (name y)) none in
      ap (cond (same_name (name x) n) (Some (serial x))) (last_from (suc i) xs y n apart.1)
      ∙ before (same_name (name x) n) (same_name (name y) n) (Some (serial x)) (Some (serial y)) (serial_named name serial xs n) (not_last (name x) (name y) n apart.0 (same_name (name y) n) refl)

  -- one more at the end, under a new name
  serials_last : (xs : List N) (y : N) → place_named name xs (name y) ≡ None → (n : List ℕ)
      → serial_named name serial (xs ++ y ∷ []) n ≡ (if bytes_eq (name y) n then Some (serial y) else serial_named name serial xs n)
  serials_last xs y none n = last_from 0 xs y n none ∙ ap (λ b. cond b (Some (serial y)) (serial_named name serial xs n)) (same_bytes (name y) n)

  -- one more, whose name was not found
  pub serials_added : (xs : List N) (y : N) (found : Option ℕ) → found ≡ place_named name xs (name y) → is_some found ≡ false → (n : List ℕ)
      → serial_named name serial (xs ++ y ∷ []) n ≡ (if bytes_eq (name y) n then Some (serial y) else serial_named name serial xs n)
  serials_added xs y None is none n = serials_last xs y (sym is) n
  serials_added xs y (Some k) is none n = absurd (cc none)

  -- one in place of another of the same name and serial number
  pub serials_set : (xs : List N) (k : ℕ) (x y : N) → slice_get xs k ≡ Some x → name y ≡ name x → serial y ≡ serial x → (n : List ℕ)
      → serial_named name serial (slice_set xs k y) n ≡ serial_named name serial xs n
  serials_set [] k x y at named same n = refl
  serials_set (z ∷ xs) zero x y at named same n =
      let own : z ≡ x = cc at in
      ap (λ m. cond (same_name m n) (Some (serial y)) (serial_named name serial xs n)) (named ∙ ap name (sym own))
      ∙ ap (λ s. cond (same_name (name z) n) (Some s) (serial_named name serial xs n)) (same ∙ ap serial (sym own))
  serials_set (z ∷ xs) (suc k) x y at named same n = ap (cond (same_name (name z) n) (Some (serial z))) (serials_set xs k x y at named same n)

  unnamed : (m : List ℕ) (xs : List N) → list_any (same_name m) (map name xs) ≡ false → serial_named name serial xs m ≡ None
  unnamed m [] none = refl
  unnamed m (x ∷ xs) none =
      let p = neither (same_name m (name x)) (list_any (same_name m) (map name xs)) none in
      by p.0 (unnamed m xs p.1) (same_name (name x) m) refl
    where
      by : same_name m (name x) ≡ false → serial_named name serial xs m ≡ None → (b : Bool) → same_name (name x) m ≡ b → cond b (Some (serial x)) (serial_named name serial xs m) ≡ None
      by other rest true is =
          let e : name x ≡ m = name_true (name x) m is in
          let same : same_name m (name x) ≡ true = ap (same_name m) e ∙ sym (ap (λ (z : List ℕ). same_name z m) e) ∙ is in
          absurd (cc (other, same))
      by other rest false is = rest

  not_at : (m : List ℕ) (xs : List N) (k : ℕ) (x : N) → list_any (same_name m) (map name xs) ≡ false → slice_get xs k ≡ Some x → same_name m (name x) ≡ false
  not_at m [] k x none at = absurd (cc at)
  not_at m (z ∷ xs) zero x none at =
      let own : z ≡ x = cc at in
      ap (λ y. same_name m (name y)) (sym own) ∙ (neither (same_name m (name z)) (list_any (same_name m) (map name xs)) none).0
  not_at m (z ∷ xs) (suc k) x none at = not_at m xs k x (neither (same_name m (name z)) (list_any (same_name m) (map name xs)) none).1 at

  gone : (b : Bool) (s : ℕ) (rest : Option ℕ) → (b ≡ true → rest ≡ None) → rest ≡ cond b None (cond b (Some s) rest)
  gone true s rest none = none refl
  gone false s rest none = refl

  less_named : (xs : List N) (k : ℕ) (x : N) → slice_get xs k ≡ Some x → no_two same_name (map name xs) ≡ true → (n : List ℕ)
      → serial_named name serial (remove xs k) n ≡ cond (same_name (name x) n) None (serial_named name serial xs n)
  less_named [] k x at apart n = absurd (cc at)
  less_named (z ∷ xs) zero x at apart n =
      let own : z ≡ x = cc at in
      let p = first_apart (list_any (same_name (name z)) (map name xs)) (no_two same_name (map name xs)) apart in
      gone (same_name (name z) n) (serial z) (serial_named name serial xs n) (λ is. ap (serial_named name serial xs) (sym (name_true (name z) n is)) ∙ unnamed (name z) xs p.0)
      ∙ ap (λ y. cond (same_name (name y) n) None (serial_named name serial (z ∷ xs) n)) own
  less_named (z ∷ xs) (suc k) x at apart n =
      let p = first_apart (list_any (same_name (name z)) (map name xs)) (no_two same_name (map name xs)) apart in
      ap (cond (same_name (name z) n) (Some (serial z))) (less_named xs k x at p.1 n)
      ∙ before (same_name (name z) n) (same_name (name x) n) (Some (serial z)) None (serial_named name serial xs n)
      (not_last (name z) (name x) n (not_at (name z) xs k x p.0 at) (same_name (name x) n) refl)

  -- one less
  pub serials_less : (xs : List N) (k : ℕ) (x : N) → slice_get xs k ≡ Some x → no_two same_name (map name xs) ≡ true → (n : List ℕ)
      → serial_named name serial (remove xs k) n ≡ (if bytes_eq (name x) n then None else serial_named name serial xs n)
  serials_less xs k x at apart n = less_named xs k x at apart n ∙ ap (λ b. cond b None (serial_named name serial xs n)) (same_bytes (name x) n)

  -- ** the place of a name

  record Placed (i : ℕ) (xs : List N) (n : List ℕ) (s : ℕ) : Type 0 where
    k : ℕ
    x : N
    place : place_from name i xs n ≡ Some (i + k)
    at : slice_get xs k ≡ Some x
    own : serial x ≡ s

  placed_from : (i : ℕ) (xs : List N) (n : List ℕ) (s : ℕ) → serial_named name serial xs n ≡ Some s → Placed i xs n s
  placed_from i [] n s is = absurd (cc is)
  placed_from i (y ∷ ys) n s is = by (placed_from (suc i) ys n s) (same_name (name y) n) refl is
    where
      by : (serial_named name serial ys n ≡ Some s → Placed (suc i) ys n s) → (b : Bool) → same_name (name y) n ≡ b
          → cond b (Some (serial y)) (serial_named name serial ys n) ≡ Some s → Placed i (y ∷ ys) n s
      by rest true same e = record {
        k = 0;
        x = y;
        place = let first : i ≡ i + 0 = omega arith in ap (λ b. cond b (Some i) (place_from name (suc i) ys n)) same ∙ ap (λ j. Some j) first;
        at = refl;
        own = cc e;
      }
      by rest false other e =
          let p = rest e in
          let next : suc i + p.k ≡ i + suc p.k = omega arith in
          record {
            k = suc p.k;
            x = p.x;
            place = ap (λ b. cond b (Some i) (place_from name (suc i) ys n)) other ∙ p.place ∙ ap (λ j. Some j) next;
            at = p.at;
            own = p.own;
          }

  unplaced_from : (i : ℕ) (xs : List N) (n : List ℕ) → serial_named name serial xs n ≡ None → place_from name i xs n ≡ None
  unplaced_from i [] n none = refl
  unplaced_from i (y ∷ ys) n none =
      let p = unfound (same_name (name y) n) (serial y) (serial_named name serial ys n) none in
      ap (λ b. cond b (Some i) (place_from name (suc i) ys n)) p.0 ∙ unplaced_from (suc i) ys n p.1

  -- a name without a serial number has no place
  pub no_place : (xs : List N) (n : List ℕ) → serial_named name serial xs n ≡ None → place_named name xs n ≡ None
  no_place xs n none = unplaced_from 0 xs n none

  -- a search by halves for the serial number of a name finds the place of the name
  pub place_searched : (xs : List N) (n : List ℕ) (s : ℕ) (r : Result ℕ ℕ) → rises_from 0 (map serial xs) ≡ true → serial_named name serial xs n ≡ Some s
      → IsSearchInRange r (length xs) → IsBinarySearchResult (λ (y : N). nat_cmp (serial y) s) xs r → result_ok r ≡ place_named name xs n
  place_searched xs n s r rises is in_range found =
      let p = placed_from 0 xs n s is in
      let first : p.k ≡ 0 + p.k = omega arith in
      searched serial xs rises p.k p.x r p.at (slice_get_within xs p.k p.x p.at) in_range (subst (λ (t : ℕ). IsBinarySearchResult (λ (y : N). nat_cmp (serial y) t) xs r) (sym p.own) found)
      ∙ ap (λ j. Some j) first
      ∙ sym p.place
