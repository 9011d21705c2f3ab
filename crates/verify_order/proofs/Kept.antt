-- Lists that are kept one behind the other.
use Rattle.std.proofs.Common.{◌≡◌, inl, inr, ◌⊎◌, refl, sym, ap, ◌∙◌, ℕ, zero, suc, ◌+◌, ◌-◌, ◌<◌, ◌≤◌, List, [], ◌∷◌, ◌++◌, length, drop, take, Some, slice_get, slice_index_or, arith}
use Rattle.std.specs.Prelude.{slice_range}
use Rattle.std.proofs.lemmas.Option.{slice_get-get_or, slice_get_within, none-some, same_Some}
use Rattle.verify_order.specs.Kept.{lists_in, AreStarts, with_last}
use Rattle.verify_order.proofs.Lists.{get_was, append_length}

-- there are as many lists as places
pub as_many : (starts all : List ℕ) → length (lists_in starts all) ≡ length starts
as_many [] all = refl
as_many (s ∷ []) all = refl
as_many (s ∷ t ∷ more) all = ap suc (as_many (t ∷ more) all)

-- ** one more list

-- nothing is left of a list behind its end
drop_all : {A : Type 0} → (xs : List A) → drop (length xs) xs ≡ []
drop_all [] = refl
drop_all (x ∷ xs) = drop_all xs

-- up to its end a list is whole
take_all : {A : Type 0} → (xs : List A) (n : ℕ) → length xs ≤ n → take n xs ≡ xs
take_all [] zero within = refl
take_all [] (suc n) within = refl
take_all (x ∷ xs) zero within = absurd (omega (arith, within))
take_all (x ∷ xs) (suc n) within = ap (λ ys. x ∷ ys) (take_all xs n (omega (arith, within)))

drop_length : {A : Type 0} → (n : ℕ) (xs : List A) → length (drop n xs) ≡ length xs - n
drop_length zero xs = omega arith
drop_length (suc n) [] = omega arith
drop_length (suc n) (x ∷ xs) = drop_length n xs ∙ omega arith

pub one_list_more : (starts all : List ℕ) → lists_in (starts ++ length all ∷ []) all ≡ lists_in starts all ++ [] ∷ []
one_list_more [] all = ap (λ xs. xs ∷ []) (drop_all all)
one_list_more (s ∷ []) all =
    ap (λ xs. xs ∷ drop (length all) all ∷ []) (take_all (drop s all) (length all - s) (omega (arith, drop_length s all)))
    ∙ ap (λ xs. drop s all ∷ xs ∷ []) (drop_all all)
one_list_more (s ∷ t ∷ more) all = ap (λ xs. slice_range all s t ∷ xs) (one_list_more (t ∷ more) all)

pub one_start_more : (starts all : List ℕ) → AreStarts starts all → AreStarts (starts ++ length all ∷ []) all
one_start_more starts all are = record { ordered = ordered; within = within }
  where
    within : (i start : ℕ) → slice_get (starts ++ length all ∷ []) i ≡ Some start → start ≤ length all
    within i start at = by (get_was starts i (length all) start at)
      where
        by : (slice_get starts i ≡ Some start) ⊎ ((i ≡ length starts) × (length all ≡ start)) → start ≤ length all
        by (inl was) = are.within i start was
        by (inr l) = omega (arith, l.1)

    ordered : (i start next : ℕ) → slice_get (starts ++ length all ∷ []) i ≡ Some start → slice_get (starts ++ length all ∷ []) (suc i) ≡ Some next → start ≤ next
    ordered i start next at then = by (get_was starts (suc i) (length all) next then)
      where
        by : (slice_get starts (suc i) ≡ Some next) ⊎ ((suc i ≡ length starts) × (length all ≡ next)) → start ≤ next
        by (inr l) = omega (arith, within i start at, l.1)
        by (inl was) = earlier (get_was starts i (length all) start at)
          where
            earlier : (slice_get starts i ≡ Some start) ⊎ ((i ≡ length starts) × (length all ≡ start)) → start ≤ next
            earlier (inl was_first) = are.ordered i start next was_first was
            earlier (inr l) = absurd (omega (arith, slice_get_within starts (suc i) next was, l.0))

-- ** one more entry

drop_more : {A : Type 0} → (n : ℕ) (xs : List A) (x : A) → n ≤ length xs → drop n (xs ++ x ∷ []) ≡ drop n xs ++ x ∷ []
drop_more zero xs x within = refl
drop_more (suc n) [] x within = absurd (omega (arith, within))
drop_more (suc n) (y ∷ xs) x within = drop_more n xs x (omega (arith, within))

take_more : {A : Type 0} → (n : ℕ) (xs : List A) (x : A) → n ≤ length xs → take n (xs ++ x ∷ []) ≡ take n xs
take_more zero xs x within = refl
take_more (suc n) [] x within = absurd (omega (arith, within))
take_more (suc n) (y ∷ xs) x within = ap (λ ys. y ∷ ys) (take_more n xs x (omega (arith, within)))

range_more : (all : List ℕ) (s t x : ℕ) → s ≤ t → t ≤ length all → slice_range (all ++ x ∷ []) s t ≡ slice_range all s t
range_more all s t x ordered within =
    ap (λ ys. take (t - s) ys) (drop_more s all x (omega (arith, ordered, within)))
    ∙ take_more (t - s) (drop s all) x (omega (arith, drop_length s all, within))

later : (s t : ℕ) (more all : List ℕ) → AreStarts (s ∷ t ∷ more) all → AreStarts (t ∷ more) all
later s t more all are = record { ordered = λ i. are.ordered (suc i); within = λ i. are.within (suc i) }

pub one_entry_more : (starts all : List ℕ) (x : ℕ) → AreStarts starts all → lists_in starts (all ++ x ∷ []) ≡ with_last (lists_in starts all) x
one_entry_more [] all x are = refl
one_entry_more (s ∷ []) all x are = ap (λ ys. ys ∷ []) (drop_more s all x (are.within 0 s refl))
one_entry_more (s ∷ t ∷ []) all x are =
    ap (λ ys. ys ∷ drop t (all ++ x ∷ []) ∷ []) (range_more all s t x (are.ordered 0 s t refl refl) (are.within 1 t refl))
    ∙ ap (λ ys. slice_range all s t ∷ ys) (one_entry_more (t ∷ []) all x (later s t [] all are))
one_entry_more (s ∷ t ∷ u ∷ more) all x are =
    ap (λ ys. ys ∷ lists_in (t ∷ u ∷ more) (all ++ x ∷ [])) (range_more all s t x (are.ordered 0 s t refl refl) (are.within 1 t refl))
    ∙ ap (λ ys. slice_range all s t ∷ ys) (one_entry_more (t ∷ u ∷ more) all x (later s t (u ∷ more) all are))

pub starts_stay : (starts all : List ℕ) (x : ℕ) → AreStarts starts all → AreStarts starts (all ++ x ∷ [])
starts_stay starts all x are = record {
  ordered = are.ordered;
  within = λ i start at. omega (arith, are.within i start at, append_length all x);
}

-- ** a list is read

-- where a list has the next place behind it
pub list_between : (starts all : List ℕ) (i start next : ℕ) → slice_get starts i ≡ Some start → slice_get starts (suc i) ≡ Some next →
    slice_get (lists_in starts all) i ≡ Some (slice_range all start next)
list_between [] all i start next at then = absurd (none-some _ at)
list_between (s ∷ []) all i start next at then = absurd (none-some _ then)
list_between (s ∷ t ∷ more) all zero start next at then =
    ap (λ x. Some (slice_range all x t)) (same_Some _ _ at) ∙ ap (λ x. Some (slice_range all start x)) (same_Some _ _ then)
list_between (s ∷ t ∷ more) all (suc i) start next at then = list_between (t ∷ more) all i start next at then

-- and where it is the last list
pub list_at_end : (starts all : List ℕ) (i start : ℕ) → slice_get starts i ≡ Some start → suc i ≡ length starts →
    slice_get (lists_in starts all) i ≡ Some (drop start all)
list_at_end [] all i start at last = absurd (none-some _ at)
list_at_end (s ∷ []) all zero start at last = ap (λ x. Some (drop x all)) (same_Some _ _ at)
list_at_end (s ∷ []) all (suc i) start at last = absurd (none-some _ at)
list_at_end (s ∷ t ∷ more) all zero start at last = absurd (omega (arith, last))
list_at_end (s ∷ t ∷ more) all (suc i) start at last = list_at_end (t ∷ more) all i start at (omega (arith, last))

-- ** by what is read

-- the places that are read
pub read_places : (starts all : List ℕ) (i : ℕ) → AreStarts starts all → i + 1 < length starts →
    (slice_index_or starts i 0 ≤ slice_index_or starts (i + 1) 0) × (slice_index_or starts (i + 1) 0 ≤ length all)
read_places starts all i are within = (
  are.ordered i _ _ (slice_get-get_or starts i 0 (omega (arith, within))) (later_place starts i within),
  are.within (i + 1) _ (slice_get-get_or starts (i + 1) 0 within),
)
  where
    later_place : (xs : List ℕ) (k : ℕ) → k + 1 < length xs → slice_get xs (suc k) ≡ Some (slice_index_or xs (k + 1) 0)
    later_place xs k inside = let e : suc k ≡ k + 1 = omega arith in ap (λ n. slice_get xs n) e ∙ slice_get-get_or xs (k + 1) 0 inside

-- the list between them
pub read_between : (starts all : List ℕ) (i : ℕ) → i + 1 < length starts →
    slice_get (lists_in starts all) i ≡ Some (slice_range all (slice_index_or starts i 0) (slice_index_or starts (i + 1) 0))
read_between starts all i within =
    list_between starts all i _ _ (slice_get-get_or starts i 0 (omega (arith, within)))
    (let e : suc i ≡ i + 1 = omega arith in ap (λ n. slice_get starts n) e ∙ slice_get-get_or starts (i + 1) 0 within)

-- the last list
pub read_last : (starts all : List ℕ) (i : ℕ) → i < length starts → length starts ≤ i + 1 →
    slice_get (lists_in starts all) i ≡ Some (slice_range all (slice_index_or starts i 0) (length all))
read_last starts all i within last =
    let start = slice_index_or starts i 0 in
    list_at_end starts all i _ (slice_get-get_or starts i 0 within) (omega (arith, within, last))
    ∙ ap (λ (xs : List ℕ). Some xs) (sym (take_all (drop start all) (length all - start) (omega (arith, drop_length start all))))
