-- Bindings by their numbers, and the ones of a kind among them.
use Rattle.std.proofs.Common.{◌≡◌, ◌∙◌, ℕ, ◌+◌, ◌<◌, ◌≤◌, ◌++◌, Bool, true, false, cond, not, ◌&&◌, nat_eq, count_by, length, map, List, [], ◌∷◌, Some, None, Greater, refl, sym, ap, subst, arith}
use Rattle.std.proofs.lemmas.Bool.{false≢true}
use Rattle.std.proofs.lemmas.Bool.Decides.{nat_tests}
use Rattle.std.proofs.lemmas.List.Sums.{length-filter, sum_by-cons}
use Rattle.std.specs.BTreeMap.{insert_entry, is_at}
use Rattle.std.specs.List.{AllByRecursion, filter, find}
use Rattle.std.specs.Map.{lookup, remove_entry, set_value, values_of}
use Rattle.std.specs.Ordering.{match_ordering, nat_cmp}
use Rattle.ui_machine.specs.State.Bindings.{Binding}
use Rattle.bindings.specs.Kept.{Numbered, is_numbered, numbered}
use Rattle.bindings.proofs.Rises.{numbered_within}

-- ** all of some

pub all_filter : {X : Type 0} (P : X → Type 0) (q : X → Bool) (xs : List X) → AllByRecursion P xs → AllByRecursion P (filter q xs)
all_filter P q [] all = tt
all_filter P q (x ∷ xs) all = by (q x) (all_filter P q xs all.1)
  where
    by : (b : Bool) → AllByRecursion P (filter q xs) → AllByRecursion P (cond b (x ∷ filter q xs) (filter q xs))
    by true rest = (all.0, rest)
    by false rest = rest

pub all_push : {X : Type 0} (P : X → Type 0) (xs : List X) (x : X) → AllByRecursion P xs → P x → AllByRecursion P (xs ++ x ∷ [])
all_push P [] x all here = (here, tt)
all_push P (y ∷ xs) x all here = (all.0, all_push P xs x all.1 here)

pub all_two : {X : Type 0} (P Q R : X → Type 0) → ((x : X) → P x → Q x → R x) → (xs : List X) → AllByRecursion P xs → AllByRecursion Q xs → AllByRecursion R xs
all_two P Q R step [] p q = tt
all_two P Q R step (x ∷ xs) p q = (step x p.0 q.0, all_two P Q R step xs p.1 q.1)

pub all_each : {X : Type 0} (P : X → Type 0) → ((x : X) → P x) → (xs : List X) → AllByRecursion P xs
all_each P each [] = tt
all_each P each (x ∷ xs) = (each x, all_each P each xs)

-- ** tests that agree on all of some

pub filter_alike : {X : Type 0} (p q : X → Bool) (xs : List X) → AllByRecursion (λ x. p x ≡ q x) xs → filter p xs ≡ filter q xs
filter_alike p q [] same = refl
filter_alike p q (x ∷ xs) same =
    ap (λ b. cond b (x ∷ filter p xs) (filter p xs)) same.0 ∙ ap (λ these. cond (q x) (x ∷ these) these) (filter_alike p q xs same.1)

pub map_alike : {X : Type 0} (f g : X → X) (xs : List X) → AllByRecursion (λ x. f x ≡ g x) xs → map f xs ≡ map g xs
map_alike f g [] same = refl
map_alike f g (x ∷ xs) same = ap (λ y. y ∷ map f xs) same.0 ∙ ap (λ these. g x ∷ these) (map_alike f g xs same.1)

pub count_cons : {X : Type 0} (p : X → Bool) (x : X) (xs : List X) → count_by p (x ∷ xs) ≡ cond (p x) 1 0 + count_by p xs
count_cons p x xs = sum_by-cons (λ x. cond (p x) 1 0) x xs

pub filter_true : {X : Type 0} (p : X → Bool) (xs : List X) → AllByRecursion (λ x. p x ≡ true) xs → filter p xs ≡ xs
filter_true p [] all = refl
filter_true p (x ∷ xs) all = ap (λ b. cond b (x ∷ filter p xs) (filter p xs)) all.0 ∙ ap (λ these. x ∷ these) (filter_true p xs all.1)

pub map_id : {X : Type 0} (f : X → X) (xs : List X) → AllByRecursion (λ x. f x ≡ x) xs → map f xs ≡ xs
map_id f [] same = refl
map_id f (x ∷ xs) same = ap (λ y. y ∷ map f xs) same.0 ∙ ap (λ these. x ∷ these) (map_id f xs same.1)

filter_false : {X : Type 0} (p : X → Bool) (xs : List X) → AllByRecursion (λ x. p x ≡ false) xs → filter p xs ≡ []
filter_false p [] all = refl
filter_false p (x ∷ xs) all = ap (λ b. cond b (x ∷ filter p xs) (filter p xs)) all.0 ∙ filter_false p xs all.1

pub count_none : {X : Type 0} (p : X → Bool) (xs : List X) → AllByRecursion (λ x. p x ≡ false) xs → count_by p xs ≡ 0
count_none p xs all = sym (length-filter p xs) ∙ ap length (filter_false p xs all)

pub find_none : {X : Type 0} (p : X → Bool) (xs : List X) → AllByRecursion (λ x. p x ≡ false) xs → find p xs ≡ None
find_none p [] all = refl
find_none p (x ∷ xs) all = ap (λ t. cond t (Some x) (find p xs)) all.0 ∙ find_none p xs all.1

pub find_false : {X : Type 0} (p : X → Bool) (xs : List X) → find p xs ≡ None → AllByRecursion (λ x. p x ≡ false) xs
find_false p [] e = tt
find_false p (x ∷ xs) e = by (p x) refl e (find_false p xs)
  where
    by : (b : Bool) → p x ≡ b → cond b (Some x) (find p xs) ≡ None → (find p xs ≡ None → AllByRecursion (λ x. p x ≡ false) xs) → (p x ≡ false) × AllByRecursion (λ x. p x ≡ false) xs
    by true is e rec = absurd (cc)
    by false is e rec = (is, rec e)

pub all_one : {X : Type 0} (P Q : X → Type 0) → ((x : X) → P x → Q x) → (xs : List X) → AllByRecursion P xs → AllByRecursion Q xs
all_one P Q step xs all = all_two P P Q (λ x p q. step x p) xs all all

-- ** numbers that rise

pub all_from : (from : ℕ) (bs : List Binding) (limit : ℕ) → Numbered from bs limit → AllByRecursion (λ it. from ≤ it.number) bs
all_from from [] limit n = tt
all_from from (b ∷ bs) limit n =
    (n.0, all_one (λ it. b.number + 1 ≤ it.number) (λ it. from ≤ it.number) (λ it up. omega (arith, up, n.0)) bs (all_from (b.number + 1) bs limit n.1))

pub all_within : (from : ℕ) (bs : List Binding) (limit : ℕ) → Numbered from bs limit → AllByRecursion (λ it. it.number < limit) bs
all_within from [] limit n = tt
all_within from (b ∷ bs) limit n =
    let up = numbered_within (b.number + 1) bs limit n.1 in
    (omega (arith, up), all_within (b.number + 1) bs limit n.1)

other_number : (m n : ℕ) → n < m → nat_eq m n ≡ false
other_number m n low = grind (arith, nat_tests)

pub none_above : (n from : ℕ) (bs : List Binding) (limit : ℕ) → n < from → Numbered from bs limit → AllByRecursion (λ it. nat_eq it.number n ≡ false) bs
none_above n from bs limit low rising =
    all_one (λ it. from ≤ it.number) (λ it. nat_eq it.number n ≡ false) (λ it up. other_number it.number n (omega (arith, up, low))) bs (all_from from bs limit rising)

-- ** under their numbers

pub values_numbered : (bs : List Binding) → values_of (numbered bs) ≡ bs
values_numbered [] = refl
values_numbered (it ∷ bs) = ap (λ these. it ∷ these) (values_numbered bs)

pub keyed_again : (es : List (ℕ × Binding)) (bs : List Binding) → es ≡ numbered bs → (values_of es ≡ bs) × (es ≡ numbered (values_of es))
keyed_again es bs e =
    let same : values_of es ≡ bs = ap values_of e ∙ values_numbered bs in
    (same, e ∙ ap numbered (sym same))

at_test : (n k : ℕ) → is_at (nat_cmp n) k ≡ nat_eq k n
at_test n k = grind (arith, nat_tests)

pub look : (n : ℕ) (bs : List Binding) → lookup (is_at (nat_cmp n)) (numbered bs) ≡ find (λ it. nat_eq it.number n) bs
look n [] = refl
look n (it ∷ bs) =
    ap (λ b. cond b (Some it) (lookup (is_at (nat_cmp n)) (numbered bs))) (at_test n it.number) ∙ ap (cond (nat_eq it.number n) (Some it)) (look n bs)

greater : (n k : ℕ) → k < n → nat_cmp n k ≡ Greater
greater n k low = grind (arith, nat_tests)

pub put : (n : ℕ) (b : Binding) → b.number ≡ n → (bs : List Binding) → AllByRecursion (λ it. it.number < n) bs
    → insert_entry nat_cmp (numbered bs) n b ≡ numbered (bs ++ b ∷ [])
put n b same [] below = ap (λ (k : ℕ). (k, b) ∷ []) (sym same)
put n b same (x ∷ bs) below =
    ap (λ o. match_ordering o ((n, b) ∷ (x.number, x) ∷ numbered bs) ((x.number, b) ∷ numbered bs) ((x.number, x) ∷ insert_entry nat_cmp (numbered bs) n b)) (greater n x.number below.0)
    ∙ ap (λ (es : List (ℕ × Binding)). (x.number, x) ∷ es) (put n b same bs below.1)

pub take_out : (n from : ℕ) (bs : List Binding) (limit : ℕ) → Numbered from bs limit
    → remove_entry (is_at (nat_cmp n)) (numbered bs) ≡ numbered (filter (λ it. not (nat_eq it.number n)) bs)
take_out n from [] limit rising = refl
take_out n from (x ∷ bs) limit rising =
    ap (λ b. cond b (numbered bs) ((x.number, x) ∷ remove_entry (is_at (nat_cmp n)) (numbered bs))) (at_test n x.number)
    ∙ by (nat_eq x.number n) refl (take_out n (x.number + 1) bs limit rising.1)
  where
    kept : (b : Bool) → b ≡ false → not b ≡ true
    kept b e = ap not e

    by : (b : Bool) → nat_eq x.number n ≡ b
        → remove_entry (is_at (nat_cmp n)) (numbered bs) ≡ numbered (filter (λ it. not (nat_eq it.number n)) bs)
        → cond b (numbered bs) ((x.number, x) ∷ remove_entry (is_at (nat_cmp n)) (numbered bs))
        ≡ numbered (cond (not b) (x ∷ filter (λ it. not (nat_eq it.number n)) bs) (filter (λ it. not (nat_eq it.number n)) bs))
    by true e rec =
        let same : x.number ≡ n = grind (arith, nat_tests) in
        ap numbered (sym (filter_true (λ it. not (nat_eq it.number n)) bs
        (all_one (λ it. nat_eq it.number n ≡ false) (λ it. not (nat_eq it.number n) ≡ true) (λ it e. kept (nat_eq it.number n) e) bs
        (none_above n (x.number + 1) bs limit (omega (arith, same)) rising.1))))
    by false e rec = ap (λ (es : List (ℕ × Binding)). (x.number, x) ∷ es) rec

pub written : (n : ℕ) (w : Binding) → w.number ≡ n → (from : ℕ) (bs : List Binding) (limit : ℕ) → Numbered from bs limit
    → set_value (is_at (nat_cmp n)) (numbered bs) w ≡ numbered (map (λ it. cond (nat_eq it.number n) w it) bs)
written n w same from [] limit rising = refl
written n w same from (x ∷ bs) limit rising =
    ap (λ b. cond b ((x.number, w) ∷ numbered bs) ((x.number, x) ∷ set_value (is_at (nat_cmp n)) (numbered bs) w)) (at_test n x.number)
    ∙ by (nat_eq x.number n) refl (written n w same (x.number + 1) bs limit rising.1)
  where
    stays : (it : Binding) → nat_eq it.number n ≡ false → cond (nat_eq it.number n) w it ≡ it
    stays it e = ap (λ b. cond b w it) e

    by : (b : Bool) → nat_eq x.number n ≡ b
        → set_value (is_at (nat_cmp n)) (numbered bs) w ≡ numbered (map (λ it. cond (nat_eq it.number n) w it) bs)
        → cond b ((x.number, w) ∷ numbered bs) ((x.number, x) ∷ set_value (is_at (nat_cmp n)) (numbered bs) w)
        ≡ numbered (cond b w x ∷ map (λ it. cond (nat_eq it.number n) w it) bs)
    by true e rec =
        let mine : x.number ≡ n = grind (arith, nat_tests) in
        let none = none_above n (x.number + 1) bs limit (omega (arith, mine)) rising.1 in
        ap (λ (k : ℕ). (k, w) ∷ numbered bs) (mine ∙ sym same)
        ∙ ap (λ (l : List Binding). (w.number, w) ∷ numbered l)
        (sym (map_id (λ it. cond (nat_eq it.number n) w it) bs (all_one (λ it. nat_eq it.number n ≡ false) (λ it. cond (nat_eq it.number n) w it ≡ it) stays bs none)))
    by false e rec = ap (λ (es : List (ℕ × Binding)). (x.number, x) ∷ es) rec

-- ** the one of a number

-- where none has the number, none is numbered so
pub none_numbered : (p : Binding → Bool) (n : ℕ) (bs : List Binding) → find (λ it. nat_eq it.number n) bs ≡ None → AllByRecursion (λ it. is_numbered p n it ≡ false) bs
none_numbered p n [] e = tt
none_numbered p n (x ∷ bs) e = by (nat_eq x.number n) refl e (none_numbered p n bs)
  where
    by : (b : Bool) → nat_eq x.number n ≡ b → cond b (Some x) (find (λ it. nat_eq it.number n) bs) ≡ None
        → (find (λ it. nat_eq it.number n) bs ≡ None → AllByRecursion (λ it. is_numbered p n it ≡ false) bs)
        → (is_numbered p n x ≡ false) × AllByRecursion (λ it. is_numbered p n it ≡ false) bs
    by true at e rec = absurd (cc)
    by false at e rec = (ap (λ b. b && p x) at, rec e)

-- where one has it, it is the only one
pub found_only : (p : Binding → Bool) (n : ℕ) (x : Binding) (from : ℕ) (bs : List Binding) (limit : ℕ) → Numbered from bs limit
    → find (λ it. nat_eq it.number n) bs ≡ Some x → AllByRecursion (λ it. is_numbered p n it ≡ (nat_eq it.number n && p x)) bs
found_only p n x from [] limit rising e = tt
found_only p n x from (y ∷ bs) limit rising e = by (nat_eq y.number n) refl e (found_only p n x (y.number + 1) bs limit rising.1)
  where
    none : (it : Binding) → nat_eq it.number n ≡ false → is_numbered p n it ≡ (nat_eq it.number n && p x)
    none it at = ap (λ b. b && p it) at ∙ sym (ap (λ b. b && p x) at)

    by : (b : Bool) → nat_eq y.number n ≡ b → cond b (Some y) (find (λ it. nat_eq it.number n) bs) ≡ Some x
        → (find (λ it. nat_eq it.number n) bs ≡ Some x → AllByRecursion (λ it. is_numbered p n it ≡ (nat_eq it.number n && p x)) bs)
        → (is_numbered p n y ≡ (nat_eq y.number n && p x)) × AllByRecursion (λ it. is_numbered p n it ≡ (nat_eq it.number n && p x)) bs
    by true at e rec =
        let is : y ≡ x = cc in
        let same : y.number ≡ n = grind (arith, nat_tests) in (
          ap (λ (it : Binding). nat_eq y.number n && p it) is,
          all_one (λ it. nat_eq it.number n ≡ false) (λ it. is_numbered p n it ≡ (nat_eq it.number n && p x)) none bs
              (none_above n (y.number + 1) bs limit (omega (arith, same)) rising.1),
        )
    by false at e rec = (none y at, rec e)

-- what holds of all holds of one that is found, and so does the test
pub found_holds : (P : Binding → Type 0) (q : Binding → Bool) (x : Binding) (bs : List Binding) → find q bs ≡ Some x → AllByRecursion P bs → P x × (q x ≡ true)
found_holds P q x [] e all = absurd (cc)
found_holds P q x (y ∷ bs) e all = by (q y) refl e (λ e. found_holds P q x bs e all.1)
  where
    by : (b : Bool) → q y ≡ b → cond b (Some y) (find q bs) ≡ Some x → (find q bs ≡ Some x → P x × (q x ≡ true)) → P x × (q x ≡ true)
    by true at e rec = let is : y ≡ x = cc in subst (λ (it : Binding). P it × (q it ≡ true)) is (all.0, at)
    by false at e rec = rec e

-- it has the number
pub found_number : (n : ℕ) (x : Binding) (bs : List Binding) → find (λ it. nat_eq it.number n) bs ≡ Some x → x.number ≡ n
found_number n x bs e =
    let at = (found_holds (λ it. Unit {0}) (λ it. nat_eq it.number n) x bs e (all_each (λ it. Unit {0}) (λ it. tt) bs)).1 in
    grind (arith, nat_tests)

-- one of a number counts as the one that it is
counts_alike : (q : Binding → Bool) (n : ℕ) (y x : Binding) → nat_eq y.number n ≡ true → y ≡ x → ◌≡◌ {A = ℕ} (cond (is_numbered q n y) 1 0) (cond (q x) 1 0)
counts_alike q n y x at is = ap (λ b. cond (b && q y) 1 0) at ∙ ap (λ (it : Binding). cond (q it) 1 0) is

-- it counts once if it is one of these
pub found_counts : (q : Binding → Bool) (n : ℕ) (x : Binding) (from : ℕ) (bs : List Binding) (limit : ℕ) → Numbered from bs limit
    → find (λ it. nat_eq it.number n) bs ≡ Some x → count_by (is_numbered q n) bs ≡ cond (q x) 1 0
found_counts q n x from [] limit rising e = absurd (cc)
found_counts q n x from (y ∷ bs) limit rising e =
    count_cons (is_numbered q n) y bs ∙ by (nat_eq y.number n) refl e (found_counts q n x (y.number + 1) bs limit rising.1)
  where
    by : (b : Bool) → nat_eq y.number n ≡ b → cond b (Some y) (find (λ it. nat_eq it.number n) bs) ≡ Some x
        → (find (λ it. nat_eq it.number n) bs ≡ Some x → count_by (is_numbered q n) bs ≡ cond (q x) 1 0)
        → cond (is_numbered q n y) 1 0 + count_by (is_numbered q n) bs ≡ cond (q x) 1 0
    by true at e rec =
        let is : y ≡ x = cc in
        let same : y.number ≡ n = grind (arith, nat_tests) in
        let none = count_none (is_numbered q n) bs
        (all_one (λ it. nat_eq it.number n ≡ false) (λ it. is_numbered q n it ≡ false) (λ it a. ap (λ t. t && q it) a) bs (none_above n (y.number + 1) bs limit (omega (arith, same)) rising.1)) in
        omega (arith, counts_alike q n y x at is, none)
    by false at e rec =
        let no : ◌≡◌ {A = ℕ} (cond (is_numbered q n y) 1 0) 0 = ap (λ b. cond (b && q y) 1 0) at in
        let rest = rec e in omega (arith, no, rest)

-- ** what is done to the binding of a number if it is one of a kind

module _ (p : Binding → Bool) (n : ℕ) (bs : List Binding) where
  pub other_numbered : (x : Binding) (limit : ℕ) → Numbered 0 bs limit → find (λ it. nat_eq it.number n) bs ≡ Some x → p x ≡ false → AllByRecursion (λ it. is_numbered p n it ≡ false) bs
  other_numbered x limit rising e apart =
      all_one (λ it. is_numbered p n it ≡ (nat_eq it.number n && p x)) (λ it. is_numbered p n it ≡ false)
      (λ it same. same ∙ ap (λ b. nat_eq it.number n && b) apart ∙ none (nat_eq it.number n)) bs (found_only p n x 0 bs limit rising e)
    where
      none : (b : Bool) → (b && false) ≡ false
      none true = refl
      none false = refl

  module _ (skipped : AllByRecursion (λ it. is_numbered p n it ≡ false) bs) where
    pub skip_count : 0 ≡ count_by (is_numbered p n) bs
    skip_count = sym (count_none (is_numbered p n) bs skipped)

    pub skip_filter : bs ≡ filter (λ it. not (is_numbered p n it)) bs
    skip_filter = sym (filter_true (λ it. not (is_numbered p n it)) bs (all_one (λ it. is_numbered p n it ≡ false) (λ it. not (is_numbered p n it) ≡ true) (λ it e. ap not e) bs skipped))

    pub skip_find : None ≡ find (is_numbered p n) bs
    skip_find = sym (find_none (is_numbered p n) bs skipped)

  module _ (x : Binding) (limit : ℕ) (rising : Numbered 0 bs limit) (e : find (λ it. nat_eq it.number n) bs ≡ Some x) (of : p x ≡ true) where
    same_numbered : AllByRecursion (λ it. is_numbered p n it ≡ nat_eq it.number n) bs
    same_numbered =
        all_one (λ it. is_numbered p n it ≡ (nat_eq it.number n && p x)) (λ it. is_numbered p n it ≡ nat_eq it.number n)
        (λ it same. same ∙ ap (λ b. nat_eq it.number n && b) of ∙ all (nat_eq it.number n)) bs (found_only p n x 0 bs limit rising e)
      where
        all : (b : Bool) → (b && true) ≡ b
        all true = refl
        all false = refl

    pub one_count : 1 ≡ count_by (is_numbered p n) bs
    one_count = sym (found_counts p n x 0 bs limit rising e ∙ ap (λ b. cond b 1 0) of)

    pub one_filter : filter (λ it. not (nat_eq it.number n)) bs ≡ filter (λ it. not (is_numbered p n it)) bs
    one_filter =
        filter_alike (λ it. not (nat_eq it.number n)) (λ it. not (is_numbered p n it)) bs
        (all_one (λ it. is_numbered p n it ≡ nat_eq it.number n) (λ it. not (nat_eq it.number n) ≡ not (is_numbered p n it)) (λ it same. ap not (sym same)) bs same_numbered)

-- it is found among those of a kind
pub found_one : (p : Binding → Bool) (n : ℕ) (x : Binding) (bs : List Binding) → find (λ it. nat_eq it.number n) bs ≡ Some x → p x ≡ true → Some x ≡ find (is_numbered p n) bs
found_one p n x [] e of = absurd (cc)
found_one p n x (y ∷ bs) e of = by (nat_eq y.number n) e (λ e. found_one p n x bs e of)
  where
    by : (b : Bool) → cond b (Some y) (find (λ it. nat_eq it.number n) bs) ≡ Some x → (find (λ it. nat_eq it.number n) bs ≡ Some x → Some x ≡ find (is_numbered p n) bs)
        → Some x ≡ cond (b && p y) (Some y) (find (is_numbered p n) bs)
    by true e rec =
        let is : y ≡ x = cc in
        ap Some (sym is) ∙ sym (ap (λ b. cond b (Some y) (find (is_numbered p n) bs)) (ap p is ∙ of))
    by false e rec = rec e

-- the only one that has a number
pub found_same : (n : ℕ) (x : Binding) (from : ℕ) (bs : List Binding) (limit : ℕ) → Numbered from bs limit
    → find (λ it. nat_eq it.number n) bs ≡ Some x → AllByRecursion (λ it. nat_eq it.number n ≡ true → it ≡ x) bs
found_same n x from [] limit rising e = tt
found_same n x from (y ∷ bs) limit rising e = by (nat_eq y.number n) refl e (found_same n x (y.number + 1) bs limit rising.1)
  where
    by : (b : Bool) → nat_eq y.number n ≡ b → cond b (Some y) (find (λ it. nat_eq it.number n) bs) ≡ Some x
        → (find (λ it. nat_eq it.number n) bs ≡ Some x → AllByRecursion (λ it. nat_eq it.number n ≡ true → it ≡ x) bs)
        → (nat_eq y.number n ≡ true → y ≡ x) × AllByRecursion (λ it. nat_eq it.number n ≡ true → it ≡ x) bs
    by true at e rec =
        let is : y ≡ x = cc in
        let same : y.number ≡ n = grind (arith, nat_tests) in (
          λ t. is,
          all_one (λ it. nat_eq it.number n ≡ false) (λ it. nat_eq it.number n ≡ true → it ≡ x) (λ it no yes. absurd (false≢true (sym no ∙ yes))) bs
              (none_above n (y.number + 1) bs limit (omega (arith, same)) rising.1),
        )
    by false at e rec = (λ yes. absurd (false≢true (sym at ∙ yes)), rec e)

pub same_map : (f : Binding → Binding) (n : ℕ) (x : Binding) (bs : List Binding) (limit : ℕ) → Numbered 0 bs limit
    → find (λ it. nat_eq it.number n) bs ≡ Some x
    → map (λ it. cond (nat_eq it.number n) (f x) it) bs ≡ map (λ it. cond (nat_eq it.number n) (f it) it) bs
same_map f n x bs limit rising e =
    map_alike (λ it. cond (nat_eq it.number n) (f x) it) (λ it. cond (nat_eq it.number n) (f it) it) bs
    (all_one (λ it. nat_eq it.number n ≡ true → it ≡ x) (λ it. cond (nat_eq it.number n) (f x) it ≡ cond (nat_eq it.number n) (f it) it) (λ it is. by it (nat_eq it.number n) is) bs
    (found_same n x 0 bs limit rising e))
  where
    by : (it : Binding) (b : Bool) → (b ≡ true → it ≡ x) → cond b (f x) it ≡ cond b (f it) it
    by it true is = ap f (sym (is refl))
    by it false is = refl

-- where none has the number, none is changed
pub none_map : (f : Binding → Binding) (n : ℕ) (bs : List Binding) → find (λ it. nat_eq it.number n) bs ≡ None → map (λ it. cond (nat_eq it.number n) (f it) it) bs ≡ bs
none_map f n [] e = refl
none_map f n (y ∷ bs) e = by (nat_eq y.number n) e (none_map f n bs)
  where
    by : (b : Bool) → cond b (Some y) (find (λ it. nat_eq it.number n) bs) ≡ None
        → (find (λ it. nat_eq it.number n) bs ≡ None → map (λ it. cond (nat_eq it.number n) (f it) it) bs ≡ bs)
        → (cond b (f y) y ∷ map (λ it. cond (nat_eq it.number n) (f it) it) bs) ≡ y ∷ bs
    by true e rec = absurd (cc)
    by false e rec = ap (λ these. y ∷ these) (rec e)

-- where those of a kind are not below a number, the one of that number is the first of them
pub first_is : (p : Binding → Bool) (n : ℕ) (x : Binding) (from : ℕ) (bs : List Binding) (limit : ℕ) → Numbered from bs limit
    → AllByRecursion (λ it. p it ≡ true → n ≤ it.number) bs → find (is_numbered p n) bs ≡ Some x → Some x ≡ find p bs
first_is p n x from [] limit rising low e = absurd (cc)
first_is p n x from (y ∷ bs) limit rising low e = by (p y) refl (nat_eq y.number n) refl e (first_is p n x (y.number + 1) bs limit rising.1 low.1)
  where
    past : n < y.number → find (is_numbered p n) bs ≡ None
    past up =
        find_none (is_numbered p n) bs
        (all_one (λ it. nat_eq it.number n ≡ false) (λ it. is_numbered p n it ≡ false) (λ it at. ap (λ b. b && p it) at) bs (none_above n (y.number + 1) bs limit (omega (arith, up)) rising.1))

    by : (b : Bool) → p y ≡ b → (c : Bool) → nat_eq y.number n ≡ c → cond (c && b) (Some y) (find (is_numbered p n) bs) ≡ Some x
        → (find (is_numbered p n) bs ≡ Some x → Some x ≡ find p bs) → Some x ≡ cond b (Some y) (find p bs)
    by true of true at e rec = sym e
    by true of false at e rec =
        let least : n ≤ y.number = low.0 of in
        let up : n < y.number = (let other : y.number ≡ n → ⊥ = (λ same. grind (arith, nat_tests)) in omega (arith, least, other)) in
        let none = past up in absurd (cc)
    by false of true at e rec = rec e
    by false of false at e rec = rec e
