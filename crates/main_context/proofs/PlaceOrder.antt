-- Places in order: what a search finds, and what one place more or less leaves.
use Rattle.std.proofs.Common.{◌≡◌, ℕ, zero, suc, ◌+◌, ◌<◌, ◌≤◌, ℤ, Bool, true, false, cond, List, [], ◌∷◌, ◌++◌, length, get_or, slice_get, take, Option, None, Some, refl, sym, ap, ◌∙◌, arith, inl, inr}
use Rattle.std.specs.List.{AllByRecursion, filter, find, insert, prefix_len, remove}
use Rattle.std.specs.List.Sorted.{IsPartitionedBy, IsPartitionPoint}
use Rattle.std.proofs.lemmas.Bool.{cases_Bool}
use Rattle.std.proofs.lemmas.Bool.Decides.{nat_tests}
use Rattle.std.proofs.lemmas.Int.{ints}
use Rattle.std.proofs.lemmas.List.{take_more}
use Rattle.std.proofs.lemmas.Option.{slice_get_past, slice_get_read}
use Rattle.main_context.specs.Places.{IsAscending, all_added, has_rank, index_from, is_before, is_up_to, with_place, without_place}
use Rattle.main_context.specs.declared.places.Place.{Place}

-- ** the order

abbrev pub place : ℤ → ℕ → Place
place rank number = record { rank = rank; number = number }

-- two places are the same where neither is before the other
same_place : (p q : Place) → is_before p q ≡ false → is_before q p ≡ false → p ≡ q
unfolding is_before
same_place p q h k =
    let rank : p.rank ≡ q.rank = grind (arith, ints, nat_tests) in
    let number : p.number ≡ q.number = grind (arith, ints, nat_tests) in
    ap (λ r. place r p.number) rank ∙ ap (λ n. place q.rank n) number

not_itself : (p : Place) → is_before p p ≡ false
unfolding is_before
not_itself p = grind (arith, ints, nat_tests)

not_back : (p q : Place) → is_before p q ≡ true → is_before q p ≡ false
unfolding is_before
not_back p q h = grind (arith, ints, nat_tests)

-- a place that is not after one that is before another is before the other, too
before_through : (p a q : Place) → is_before a p ≡ false → is_before a q ≡ true → is_before p q ≡ true
unfolding is_before
before_through p a q h k = grind (arith, ints, nat_tests)

-- a place that is not before one that is not before another is not before the other either
after_through : (p a q : Place) → is_before p a ≡ false → is_before a q ≡ false → is_before p q ≡ false
unfolding is_before
after_through p a q h k = grind (arith, ints, nat_tests)

-- ** what holds of all places

pub all_mapped : {A : Type 0} (P Q : A → Type 0) → ((a : A) → P a → Q a) → (l : List A) → AllByRecursion P l → AllByRecursion Q l
all_mapped P Q f [] h = tt
all_mapped P Q f (a ∷ l) h = (f a h.0, all_mapped P Q f l h.1)

all_at : {A : Type 0} (P : A → Type 0) (l : List A) (i : ℕ) (d : A) → AllByRecursion P l → i < length l → P (get_or l i d)
all_at P [] i d h small = absurd (omega (arith, small))
all_at P (a ∷ l) zero d h small = h.0
all_at P (a ∷ l) (suc i) d h small = all_at P l i d h.1 (omega (arith, small))

pub all_with : (P : Place → Type 0) (p : Place) (l : List Place) → P p → AllByRecursion P l → AllByRecursion P (with_place p l)
all_with P p [] new h = (new, tt)
all_with P p (q ∷ l) new h = elim (cases_Bool (is_before q p)) [
  | inl e ↦ rw e (h.0, all_with P p l new h.1)
  | inr e ↦ rw e (new, h)
]

-- ** what a search finds

-- a test that only the first pass parts the places there
parted_at : {A : Type 0} (t : A → Bool) (l : List A) (i : ℕ) → i ≤ length l → IsPartitionPoint (λ a. t a ≡ true) (λ a. t a ≡ false) l i → i ≡ prefix_len t l
parted_at t [] i le h = omega (arith, le)
parted_at t (a ∷ l) zero le h = rw (h.1 0 a (omega arith) (omega arith)) refl
parted_at t (a ∷ l) (suc i) le h =
    rw (h.0 0 a (omega arith) (omega arith))
    (omega (arith, parted_at t l i (omega (arith, le)) (λ k d low small. h.0 (suc k) d (omega arith) (omega (arith, small)), λ k d low small. h.1 (suc k) d (omega (arith, low)) (omega (arith, small)))))

-- those before a place come first
pub parted : (x : Place) (l : List Place) → IsAscending l → IsPartitionedBy (λ q. is_before q x) l
parted x [] up i j d le small h = absurd (omega (arith, small))
parted x (q ∷ l) up zero zero d le small h = h
parted x (q ∷ l) up zero (suc j) d le small h = before_through q (get_or l j d) x (all_at (λ a. is_before a q ≡ false) l j d up.0 (omega (arith, small))) h
parted x (q ∷ l) up (suc i) zero d le small h = absurd (omega (arith, le))
parted x (q ∷ l) up (suc i) (suc j) d le small h = parted x l up.1 i j d (omega (arith, le)) (omega (arith, small)) h

pub searched : (x : Place) (l : List Place) (i : ℕ) → i ≤ length l → IsPartitionPoint (λ q. is_before q x ≡ true) (λ q. is_before q x ≡ false) l i → i ≡ index_from x l
searched x l i le h = parted_at (λ q. is_before q x) l i le h

-- ** one place more

pub index_within : (p : Place) (l : List Place) → index_from p l ≤ length l
index_within p [] = omega arith
index_within p (q ∷ l) = elim (cases_Bool (is_before q p)) [
  | inl e ↦ rw e (omega (arith, index_within p l))
  | inr e ↦ rw e (omega arith)
]

insert_after : (q p : Place) (l : List Place) (i j : ℕ) → j ≡ suc i → insert (q ∷ l) j p ≡ q ∷ insert l i p
insert_after q p l i j e = rw e refl

pub inserted : (p : Place) (l : List Place) → insert l (index_from p l) p ≡ with_place p l
inserted p [] = refl
inserted p (q ∷ l) = elim (cases_Bool (is_before q p)) [
  | inl e ↦ rw e (insert_after q p l (index_from p l) _ (omega arith) ∙ ap (λ m. q ∷ m) (inserted p l))
  | inr e ↦ rw e refl
]

pub ascending_with : (p : Place) (l : List Place) → IsAscending l → IsAscending (with_place p l)
ascending_with p [] up = (tt, tt)
ascending_with p (q ∷ l) up = elim (cases_Bool (is_before q p)) [
  | inl e ↦ rw e (all_with (λ a. is_before a q ≡ false) p l (not_back q p e) up.0, ascending_with p l up.1)
  | inr e ↦ rw e ((e, all_mapped (λ a. is_before a q ≡ false) (λ a. is_before a p ≡ false) (λ a h. after_through a q p h e) l up.0), up)
]

-- the order in which two are put in is the same
both_new : (p q : Place) → cond (is_before q p) (q ∷ p ∷ []) (p ∷ q ∷ []) ≡ cond (is_before p q) (p ∷ q ∷ []) (q ∷ p ∷ [])
both_new p q = elim (cases_Bool (is_before q p)) [
  | inl e ↦ rw (e, not_back q p e) refl
  | inr e ↦ elim (cases_Bool (is_before p q)) [
    | inl f ↦ rw (e, f) refl
    | inr f ↦ rw (e, f) (let same = same_place p q f e in rw same refl)
  ]
]

both_before : (p q a : Place) (l : List Place) → cond (is_before q p) (q ∷ p ∷ a ∷ l) (p ∷ q ∷ a ∷ l) ≡ cond (is_before p q) (p ∷ q ∷ a ∷ l) (q ∷ p ∷ a ∷ l)
both_before p q a l = elim (cases_Bool (is_before q p)) [
  | inl e ↦ rw (e, not_back q p e) refl
  | inr e ↦ elim (cases_Bool (is_before p q)) [
    | inl f ↦ rw (e, f) refl
    | inr f ↦ rw (e, f) (let same = same_place p q f e in rw same refl)
  ]
]

pub with_both : (p q : Place) (l : List Place) → with_place p (with_place q l) ≡ with_place q (with_place p l)
with_both p q [] = both_new p q
with_both p q (a ∷ l) = elim (cases_Bool (is_before a q)) [
  | inl aq ↦ elim (cases_Bool (is_before a p)) [
    | inl ap' ↦ simp (aq, ap') (ap (λ m. a ∷ m) (with_both p q l))
    | inr ap' ↦ simp (aq, ap', before_through p a q ap' aq) refl
  ]
  | inr aq ↦ elim (cases_Bool (is_before a p)) [
    | inl ap' ↦ simp (aq, ap', before_through q a p aq ap') refl
    | inr ap' ↦ simp (aq, ap') (both_before p q a l)
  ]
]

-- ** one place less

pub index_there : (p : Place) (l : List Place) → index_from p (with_place p l) < length (with_place p l)
index_there p [] = rw (not_itself p) (omega arith)
index_there p (q ∷ l) = elim (cases_Bool (is_before q p)) [
  | inl e ↦ simp e (omega (arith, index_there p l))
  | inr e ↦ simp (e, not_itself p) (omega arith)
]

remove_after : (q : Place) (l : List Place) (i j : ℕ) → j ≡ suc i → remove (q ∷ l) j ≡ q ∷ remove l i
remove_after q l i j e = rw e refl

-- a place that was put in can be taken out
pub without_new : (p : Place) (l : List Place) → without_place p (with_place p l) ≡ l
without_new p [] = rw (not_itself p) refl
without_new p (q ∷ l) = elim (cases_Bool (is_before q p)) [
  | inl e ↦ simp e (remove_after q (with_place p l) (index_from p (with_place p l)) _ (omega arith) ∙ ap (λ m. q ∷ m) (without_new p l))
  | inr e ↦ simp (e, not_itself p) refl
]

-- ** the first place of a rank

before_rank : (q : Place) (rank : ℤ) → is_before q (place rank 0) ≡ true → has_rank rank q ≡ false
unfolding is_before
before_rank q rank h = grind (arith, ints, nat_tests)

-- where a place is past all of a rank, so are those that are not before it
past_rank : (a q : Place) (rank : ℤ) → is_before q (place rank 0) ≡ false → has_rank rank q ≡ false → is_before a q ≡ false → has_rank rank a ≡ false
unfolding is_before
past_rank a q rank h k later = grind (arith, ints, nat_tests)

none_found : (t : Place → Bool) (l : List Place) → AllByRecursion (λ a. t a ≡ false) l → find t l ≡ None
none_found t [] h = refl
none_found t (a ∷ l) h = rw h.0 (none_found t l h.1)

get_after : (q : Place) (l : List Place) (i j : ℕ) → j ≡ suc i → slice_get (q ∷ l) j ≡ slice_get l i
get_after q l i j e = rw e refl

-- a place, if it has the rank
abbrev pub of_rank : ℤ → Option Place → Option Place
of_rank rank None = None
of_rank rank (Some q) = cond (has_rank rank q) (Some q) None

pub first_at : (rank : ℤ) (l : List Place) → IsAscending l → find (has_rank rank) l ≡ of_rank rank (slice_get l (index_from (place rank 0) l))
first_at rank [] up = refl
first_at rank (q ∷ l) up = elim (cases_Bool (is_before q (place rank 0))) [
  | inl e ↦ simp (e, before_rank q rank e) (first_at rank l up.1 ∙ sym (ap (of_rank rank) (get_after q l (index_from (place rank 0) l) _ (omega arith))))
  | inr e ↦ elim (cases_Bool (has_rank rank q)) [
    | inl f ↦ simp (e, f) refl
    | inr f ↦ simp (e, f) (none_found (has_rank rank) l (all_mapped (λ a. is_before a q ≡ false) (λ a. has_rank rank a ≡ false) (λ a later. past_rank a q rank e f later) l up.0))
  ]
]

pub first_past : (rank : ℤ) (l : List Place) → IsAscending l → length l ≤ index_from (place rank 0) l → find (has_rank rank) l ≡ None
first_past rank l up past = first_at rank l up ∙ ap (of_rank rank) (slice_get_past l (index_from (place rank 0) l) past)

pub first_here : (rank : ℤ) (l : List Place) (q : Place) → IsAscending l → index_from (place rank 0) l < length l → q ≡ get_or l (index_from (place rank 0) l) q
    → find (has_rank rank) l ≡ cond (has_rank rank q) (Some q) None
first_here rank l q up within at = first_at rank l up ∙ ap (of_rank rank) (slice_get_read l (length l) (index_from (place rank 0) l) q refl within at)

-- ** the places up to a rank

-- a place that is not after one of at most a rank has at most that rank
up_to_through : (rank : ℤ) (q a : Place) → is_before a q ≡ false → is_up_to rank a ≡ true → is_up_to rank q ≡ true
unfolding is_before
up_to_through rank q a h k = grind (arith, ints, nat_tests)

pub parted_by_rank : (rank : ℤ) (l : List Place) → IsAscending l → IsPartitionedBy (is_up_to rank) l
parted_by_rank rank [] up i j d le small h = absurd (omega (arith, small))
parted_by_rank rank (q ∷ l) up zero zero d le small h = h
parted_by_rank rank (q ∷ l) up zero (suc j) d le small h = up_to_through rank q (get_or l j d) (all_at (λ a. is_before a q ≡ false) l j d up.0 (omega (arith, small))) h
parted_by_rank rank (q ∷ l) up (suc i) zero d le small h = absurd (omega (arith, le))
parted_by_rank rank (q ∷ l) up (suc i) (suc j) d le small h = parted_by_rank rank l up.1 i j d (omega (arith, le)) (omega (arith, small)) h

pub taken : {A : Type 0} (t : A → Bool) (l : List A) (i : ℕ) → i ≤ length l → IsPartitionPoint (λ a. t a ≡ true) (λ a. t a ≡ false) l i → take i l ≡ filter t l
taken t [] zero le h = refl
taken t [] (suc i) le h = refl
taken t (a ∷ l) zero le h = rw (h.1 0 a (omega arith) (omega arith)) (taken t l zero (omega arith) (λ k d low small. absurd (omega (arith, small)), λ k d low small. h.1 (suc k) d (omega arith) (omega (arith, small))))
taken t (a ∷ l) (suc i) le h =
    rw (h.0 0 a (omega arith) (omega arith))
    (ap (λ m. a ∷ m) (taken t l i (omega (arith, le)) (λ k d low small. h.0 (suc k) d (omega arith) (omega (arith, small)), λ k d low small. h.1 (suc k) d (omega (arith, low)) (omega (arith, small)))))

-- ** the places with more

pub all_added_more : (more : List Place) (p : Place) (l : List Place) → all_added (more ++ p ∷ []) l ≡ with_place p (all_added more l)
all_added_more [] p l = refl
all_added_more (q ∷ more) p l = ap (with_place q) (all_added_more more p l) ∙ with_both q p (all_added more l)

pub all_added_with : (more : List Place) (p : Place) (l : List Place) → all_added more (with_place p l) ≡ with_place p (all_added more l)
all_added_with [] p l = refl
all_added_with (q ∷ more) p l = ap (with_place q) (all_added_with more p l) ∙ with_both q p (all_added more l)

pub all_added_ascend : (more l : List Place) → IsAscending l → IsAscending (all_added more l)
all_added_ascend [] l up = up
all_added_ascend (q ∷ more) l up = ascending_with q (all_added more l) (all_added_ascend more l up)

pub all_added_take : (more : List Place) (i : ℕ) (d : Place) (l : List Place) → i < length more → all_added (take (i + 1) more) l ≡ with_place (get_or more i d) (all_added (take i more) l)
all_added_take more i d l small = ap (λ m. all_added m l) (take_more more i d small) ∙ all_added_more (take i more) (get_or more i d) l

-- ** the places that pass

-- one that does not pass
pub without_it : (t : Place → Bool) (q : Place) (l : List Place) → t q ≡ false → filter t (with_place q l) ≡ filter t l
without_it t q [] h = rw h refl
without_it t q (a ∷ l) h = elim (cases_Bool (is_before a q)) [
  | inl e ↦ let rest = without_it t q l h in simp e (ap (λ m. cond (t a) (a ∷ m) m) rest)
  | inr e ↦ simp (e, h) refl
]

-- one that is before all others
pub put_first : (q : Place) (l : List Place) → AllByRecursion (λ a. is_before a q ≡ false) l → with_place q l ≡ q ∷ l
put_first q [] h = refl
put_first q (a ∷ l) h = rw h.0 refl

pub all_added_passing : (t : Place → Bool) (q : Place) (l base : List Place) → all_added (filter t (with_place q l)) base ≡ cond (t q) (with_place q (all_added (filter t l) base)) (all_added (filter t l) base)
all_added_passing t q [] base = elim (cases_Bool (t q)) [
  | inl e ↦ simp e refl
  | inr e ↦ simp e refl
]
all_added_passing t q (a ∷ l) base = elim (cases_Bool (is_before a q)) [
  | inl e ↦
      let rest = all_added_passing t q l base in
      elim (cases_Bool (t a)) [
        | inl f ↦ elim (cases_Bool (t q)) [
          | inl g ↦ let r = simp g at rest in simp (e, f, g) (ap (with_place a) r ∙ with_both a q (all_added (filter t l) base))
          | inr g ↦ let r = simp g at rest in simp (e, f, g) (ap (with_place a) r)
        ]
        | inr f ↦ simp (e, f) rest
      ]
  | inr e ↦ elim (cases_Bool (t q)) [
    | inl g ↦ simp (e, g) refl
    | inr g ↦ simp (e, g) refl
  ]
]
