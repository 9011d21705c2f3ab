-- Handlers by their numbers, and the ones of a kind among them.
use Rattle.std.proofs.Common.{◌≡◌, ◌∙◌, ℕ, ◌+◌, ◌-◌, ◌<◌, ◌≤◌, ◌++◌, Bool, true, false, cond, not, ◌&&◌, nat_eq, count_by, length, map, List, [], ◌∷◌, Some, None, Greater, refl, sym, ap, subst, arith}
use Rattle.std.proofs.lemmas.Bool.{false≢true}
use Rattle.std.proofs.lemmas.Bool.Decides.{nat_tests}
use Rattle.std.proofs.lemmas.List.Sums.{length-filter, sum_by-cons}
use Rattle.std.specs.BTreeMap.{insert_entry, is_at}
use Rattle.std.specs.List.{AllByRecursion, filter, find}
use Rattle.std.specs.Map.{lookup, remove_entry, set_value, values_of}
use Rattle.std.specs.Ordering.{match_ordering, nat_cmp}
use Rattle.ui_machine.specs.State.Handlers.{Handler}
use Rattle.signal_core.specs.Connected.{Numbered}
use Rattle.signal_core.specs.Kept.{is_numbered, numbered}
use Rattle.signal_core.proofs.Numbers.{numbered_within}

-- ** all of some

pub all_filter : {X : Type 0} (P : X → Type 0) (q : X → Bool) (xs : List X) → AllByRecursion P xs → AllByRecursion P (filter q xs)
all_filter P q [] all = tt
all_filter P q (x ∷ xs) all = by (q x) (all_filter P q xs all.1)
  where
    by : (b : Bool) → AllByRecursion P (filter q xs) → AllByRecursion P (cond b (x ∷ filter q xs) (filter q xs))
    by true rest = (all.0, rest)
    by false rest = rest

-- of those that are left and those that are not
pub all_unfilter : {X : Type 0} (P : X → Type 0) (q : X → Bool) → ((x : X) → q x ≡ false → P x) → (xs : List X) → AllByRecursion P (filter q xs) → AllByRecursion P xs
all_unfilter P q gone [] all = tt
all_unfilter P q gone (x ∷ xs) all = by (q x) refl all (all_unfilter P q gone xs)
  where
    by : (b : Bool) → q x ≡ b → AllByRecursion P (cond b (x ∷ filter q xs) (filter q xs)) → (AllByRecursion P (filter q xs) → AllByRecursion P xs)
        → P x × AllByRecursion P xs
    by true e all rec = (all.0, rec all.1)
    by false e all rec = (gone x e, rec all)

pub all_unmap : {X : Type 0} (P Q : X → Type 0) (f : X → X) → ((x : X) → P (f x) → Q x) → (xs : List X) → AllByRecursion P (map f xs) → AllByRecursion Q xs
all_unmap P Q f step [] all = tt
all_unmap P Q f step (x ∷ xs) all = (step x all.0, all_unmap P Q f step xs all.1)

pub all_push : {X : Type 0} (P : X → Type 0) (xs : List X) (x : X) → AllByRecursion P xs → P x → AllByRecursion P (xs ++ x ∷ [])
all_push P [] x all here = (here, tt)
all_push P (y ∷ xs) x all here = (all.0, all_push P xs x all.1 here)

pub all_two : {X : Type 0} (P Q R : X → Type 0) → ((x : X) → P x → Q x → R x) → (xs : List X) → AllByRecursion P xs → AllByRecursion Q xs → AllByRecursion R xs
all_two P Q R step [] p q = tt
all_two P Q R step (x ∷ xs) p q = (step x p.0 q.0, all_two P Q R step xs p.1 q.1)

pub all_each : {X : Type 0} (P : X → Type 0) → ((x : X) → P x) → (xs : List X) → AllByRecursion P xs
all_each P each [] = tt
all_each P each (x ∷ xs) = (each x, all_each P each xs)

-- ** tests that agree on all of some

pub filter_alike : {X : Type 0} (p q : X → Bool) (xs : List X) → AllByRecursion (λ x. p x ≡ q x) xs → filter p xs ≡ filter q xs
filter_alike p q [] same = refl
filter_alike p q (x ∷ xs) same =
    ap (λ b. cond b (x ∷ filter p xs) (filter p xs)) same.0 ∙ ap (λ these. cond (q x) (x ∷ these) these) (filter_alike p q xs same.1)

pub map_alike : {X : Type 0} (f g : X → X) (xs : List X) → AllByRecursion (λ x. f x ≡ g x) xs → map f xs ≡ map g xs
map_alike f g [] same = refl
map_alike f g (x ∷ xs) same = ap (λ y. y ∷ map f xs) same.0 ∙ ap (λ these. g x ∷ these) (map_alike f g xs same.1)

pub count_alike : {X : Type 0} (p q : X → Bool) (xs : List X) → AllByRecursion (λ x. p x ≡ q x) xs → count_by p xs ≡ count_by q xs
count_alike p q xs same = sym (length-filter p xs) ∙ ap length (filter_alike p q xs same) ∙ length-filter q xs

pub count_cons : {X : Type 0} (p : X → Bool) (x : X) (xs : List X) → count_by p (x ∷ xs) ≡ cond (p x) 1 0 + count_by p xs
count_cons p x xs = sum_by-cons (λ x. cond (p x) 1 0) x xs

pub filter_true : {X : Type 0} (p : X → Bool) (xs : List X) → AllByRecursion (λ x. p x ≡ true) xs → filter p xs ≡ xs
filter_true p [] all = refl
filter_true p (x ∷ xs) all = ap (λ b. cond b (x ∷ filter p xs) (filter p xs)) all.0 ∙ ap (λ these. x ∷ these) (filter_true p xs all.1)

pub map_id : {X : Type 0} (f : X → X) (xs : List X) → AllByRecursion (λ x. f x ≡ x) xs → map f xs ≡ xs
map_id f [] same = refl
map_id f (x ∷ xs) same = ap (λ y. y ∷ map f xs) same.0 ∙ ap (λ these. x ∷ these) (map_id f xs same.1)

filter_false : {X : Type 0} (p : X → Bool) (xs : List X) → AllByRecursion (λ x. p x ≡ false) xs → filter p xs ≡ []
filter_false p [] all = refl
filter_false p (x ∷ xs) all = ap (λ b. cond b (x ∷ filter p xs) (filter p xs)) all.0 ∙ filter_false p xs all.1

pub count_none : {X : Type 0} (p : X → Bool) (xs : List X) → AllByRecursion (λ x. p x ≡ false) xs → count_by p xs ≡ 0
count_none p xs all = sym (length-filter p xs) ∙ ap length (filter_false p xs all)

pub find_none : {X : Type 0} (p : X → Bool) (xs : List X) → AllByRecursion (λ x. p x ≡ false) xs → find p xs ≡ None
find_none p [] all = refl
find_none p (x ∷ xs) all = ap (λ t. cond t (Some x) (find p xs)) all.0 ∙ find_none p xs all.1

pub find_false : {X : Type 0} (p : X → Bool) (xs : List X) → find p xs ≡ None → AllByRecursion (λ x. p x ≡ false) xs
find_false p [] e = tt
find_false p (x ∷ xs) e = by (p x) refl e (find_false p xs)
  where
    by : (b : Bool) → p x ≡ b → cond b (Some x) (find p xs) ≡ None → (find p xs ≡ None → AllByRecursion (λ x. p x ≡ false) xs) → (p x ≡ false) × AllByRecursion (λ x. p x ≡ false) xs
    by true is e rec = absurd (cc)
    by false is e rec = (is, rec e)

-- ** numbers that rise

pub all_above : (above : ℕ) (hs : List Handler) (last : ℕ) → Numbered above hs last → AllByRecursion (λ h. above < h.number) hs
all_above above [] last n = tt
all_above above (h ∷ hs) last n = (n.0, all_two (λ h'. h.number < h'.number) (λ h'. h.number < h'.number) (λ h'. above < h'.number) (λ h' p q. omega (arith, p, n.0)) hs (all_above h.number hs last n.1) (all_above h.number hs last n.1))

pub all_within : (above : ℕ) (hs : List Handler) (last : ℕ) → Numbered above hs last → AllByRecursion (λ h. h.number ≤ last) hs
all_within above [] last n = tt
all_within above (h ∷ hs) last n = (numbered_within h.number hs last n.1, all_within h.number hs last n.1)

other_number : (m n : ℕ) → n < m → nat_eq m n ≡ false
other_number m n h = grind (arith, nat_tests)

none_above : (n above : ℕ) (hs : List Handler) (last : ℕ) → n ≤ above → Numbered above hs last → AllByRecursion (λ h. nat_eq h.number n ≡ false) hs
none_above n above hs last low rising =
    all_two (λ h. above < h.number) (λ h. above < h.number) (λ h. nat_eq h.number n ≡ false) (λ h p q. other_number h.number n (omega (arith, p, low))) hs (all_above above hs last rising) (all_above above hs last rising)

pub all_one : {X : Type 0} (P Q : X → Type 0) → ((x : X) → P x → Q x) → (xs : List X) → AllByRecursion P xs → AllByRecursion Q xs
all_one P Q step xs all = all_two P P Q (λ x p q. step x p) xs all all

-- no more are of a kind than the last number
pub count_within : (p : Handler → Bool) (above : ℕ) (hs : List Handler) (last : ℕ) → Numbered above hs last → above + count_by p hs ≤ last
count_within p above [] last n = omega (arith, n)
count_within p above (h ∷ hs) last n = by (p h) (count_cons p h hs) (count_within p h.number hs last n.1)
  where
    by : (b : Bool) → count_by p (h ∷ hs) ≡ cond b 1 0 + count_by p hs → h.number + count_by p hs ≤ last → above + count_by p (h ∷ hs) ≤ last
    by true whole rest = omega (arith, whole, rest, n.0)
    by false whole rest = omega (arith, whole, rest, n.0)

-- ** under their numbers

pub values_numbered : (hs : List Handler) → values_of (numbered hs) ≡ hs
values_numbered [] = refl
values_numbered (h ∷ hs) = ap (λ these. h ∷ these) (values_numbered hs)

pub keyed_again : (es : List (ℕ × Handler)) (hs : List Handler) → es ≡ numbered hs → (values_of es ≡ hs) × (es ≡ numbered (values_of es))
keyed_again es hs e =
    let same : values_of es ≡ hs = ap values_of e ∙ values_numbered hs in
    (same, e ∙ ap numbered (sym same))

at_test : (n k : ℕ) → is_at (nat_cmp n) k ≡ nat_eq k n
at_test n k = grind (arith, nat_tests)

pub look : (n : ℕ) (hs : List Handler) → lookup (is_at (nat_cmp n)) (numbered hs) ≡ find (λ h. nat_eq h.number n) hs
look n [] = refl
look n (h ∷ hs) =
    ap (λ b. cond b (Some h) (lookup (is_at (nat_cmp n)) (numbered hs))) (at_test n h.number) ∙ ap (cond (nat_eq h.number n) (Some h)) (look n hs)

greater : (n k : ℕ) → k < n → nat_cmp n k ≡ Greater
greater n k h = grind (arith, nat_tests)

pub put : (n : ℕ) (h : Handler) → h.number ≡ n → (above : ℕ) (hs : List Handler) (last : ℕ) → last < n → Numbered above hs last
    → insert_entry nat_cmp (numbered hs) n h ≡ numbered (hs ++ h ∷ [])
put n h same above [] last up rising = ap (λ (k : ℕ). (k, h) ∷ []) (sym same)
put n h same above (x ∷ hs) last up rising =
    let below : x.number < n = omega (arith, up, numbered_within x.number hs last rising.1) in
    ap (λ o. match_ordering o ((n, h) ∷ (x.number, x) ∷ numbered hs) ((x.number, h) ∷ numbered hs) ((x.number, x) ∷ insert_entry nat_cmp (numbered hs) n h)) (greater n x.number below)
    ∙ ap (λ (es : List (ℕ × Handler)). (x.number, x) ∷ es) (put n h same x.number hs last up rising.1)

pub take_out : (n above : ℕ) (hs : List Handler) (last : ℕ) → Numbered above hs last
    → remove_entry (is_at (nat_cmp n)) (numbered hs) ≡ numbered (filter (λ h. not (nat_eq h.number n)) hs)
take_out n above [] last rising = refl
take_out n above (x ∷ hs) last rising =
    ap (λ b. cond b (numbered hs) ((x.number, x) ∷ remove_entry (is_at (nat_cmp n)) (numbered hs))) (at_test n x.number)
    ∙ by (nat_eq x.number n) refl (take_out n x.number hs last rising.1)
  where
    kept : (b : Bool) → b ≡ false → not b ≡ true
    kept b e = ap not e

    by : (b : Bool) → nat_eq x.number n ≡ b
        → remove_entry (is_at (nat_cmp n)) (numbered hs) ≡ numbered (filter (λ h. not (nat_eq h.number n)) hs)
        → cond b (numbered hs) ((x.number, x) ∷ remove_entry (is_at (nat_cmp n)) (numbered hs))
        ≡ numbered (cond (not b) (x ∷ filter (λ h. not (nat_eq h.number n)) hs) (filter (λ h. not (nat_eq h.number n)) hs))
    by true e rec =
        let same : x.number ≡ n = grind (arith, nat_tests) in
        ap numbered (sym (filter_true (λ h. not (nat_eq h.number n)) hs
        (all_one (λ h. nat_eq h.number n ≡ false) (λ h. not (nat_eq h.number n) ≡ true) (λ h e. kept (nat_eq h.number n) e) hs
        (none_above n x.number hs last (omega (arith, same)) rising.1))))
    by false e rec = ap (λ (es : List (ℕ × Handler)). (x.number, x) ∷ es) rec

pub written : (n : ℕ) (w : Handler) → w.number ≡ n → (above : ℕ) (hs : List Handler) (last : ℕ) → Numbered above hs last
    → set_value (is_at (nat_cmp n)) (numbered hs) w ≡ numbered (map (λ h. cond (nat_eq h.number n) w h) hs)
written n w same above [] last rising = refl
written n w same above (x ∷ hs) last rising =
    ap (λ b. cond b ((x.number, w) ∷ numbered hs) ((x.number, x) ∷ set_value (is_at (nat_cmp n)) (numbered hs) w)) (at_test n x.number)
    ∙ by (nat_eq x.number n) refl (written n w same x.number hs last rising.1)
  where
    stays : (h : Handler) → nat_eq h.number n ≡ false → cond (nat_eq h.number n) w h ≡ h
    stays h e = ap (λ b. cond b w h) e

    by : (b : Bool) → nat_eq x.number n ≡ b
        → set_value (is_at (nat_cmp n)) (numbered hs) w ≡ numbered (map (λ h. cond (nat_eq h.number n) w h) hs)
        → cond b ((x.number, w) ∷ numbered hs) ((x.number, x) ∷ set_value (is_at (nat_cmp n)) (numbered hs) w)
        ≡ numbered (cond b w x ∷ map (λ h. cond (nat_eq h.number n) w h) hs)
    by true e rec =
        let mine : x.number ≡ n = grind (arith, nat_tests) in
        let none = none_above n x.number hs last (omega (arith, mine)) rising.1 in
        ap (λ (k : ℕ). (k, w) ∷ numbered hs) (mine ∙ sym same)
        ∙ ap (λ (l : List Handler). (w.number, w) ∷ numbered l)
        (sym (map_id (λ h. cond (nat_eq h.number n) w h) hs (all_one (λ h. nat_eq h.number n ≡ false) (λ h. cond (nat_eq h.number n) w h ≡ h) stays hs none)))
    by false e rec = ap (λ (es : List (ℕ × Handler)). (x.number, x) ∷ es) rec

-- ** the one of a number

-- where none has the number, none is numbered so
pub none_numbered : (p : Handler → Bool) (n : ℕ) (hs : List Handler) → find (λ h. nat_eq h.number n) hs ≡ None → AllByRecursion (λ h. is_numbered p n h ≡ false) hs
none_numbered p n [] e = tt
none_numbered p n (x ∷ hs) e = by (nat_eq x.number n) refl e (none_numbered p n hs)
  where
    by : (b : Bool) → nat_eq x.number n ≡ b → cond b (Some x) (find (λ h. nat_eq h.number n) hs) ≡ None
        → (find (λ h. nat_eq h.number n) hs ≡ None → AllByRecursion (λ h. is_numbered p n h ≡ false) hs)
        → (is_numbered p n x ≡ false) × AllByRecursion (λ h. is_numbered p n h ≡ false) hs
    by true at e rec = absurd (cc)
    by false at e rec = (ap (λ b. b && p x) at, rec e)

-- where one has it, it is the only one
pub found_only : (p : Handler → Bool) (n : ℕ) (x : Handler) (above : ℕ) (hs : List Handler) (last : ℕ) → Numbered above hs last
    → find (λ h. nat_eq h.number n) hs ≡ Some x → AllByRecursion (λ h. is_numbered p n h ≡ (nat_eq h.number n && p x)) hs
found_only p n x above [] last rising e = tt
found_only p n x above (y ∷ hs) last rising e = by (nat_eq y.number n) refl e (found_only p n x y.number hs last rising.1)
  where
    none : (h : Handler) → nat_eq h.number n ≡ false → is_numbered p n h ≡ (nat_eq h.number n && p x)
    none h at = ap (λ b. b && p h) at ∙ sym (ap (λ b. b && p x) at)

    by : (b : Bool) → nat_eq y.number n ≡ b → cond b (Some y) (find (λ h. nat_eq h.number n) hs) ≡ Some x
        → (find (λ h. nat_eq h.number n) hs ≡ Some x → AllByRecursion (λ h. is_numbered p n h ≡ (nat_eq h.number n && p x)) hs)
        → (is_numbered p n y ≡ (nat_eq y.number n && p x)) × AllByRecursion (λ h. is_numbered p n h ≡ (nat_eq h.number n && p x)) hs
    by true at e rec =
        let is : y ≡ x = cc in
        let same : y.number ≡ n = grind (arith, nat_tests) in (
          ap (λ (h : Handler). nat_eq y.number n && p h) is,
          all_one (λ h. nat_eq h.number n ≡ false) (λ h. is_numbered p n h ≡ (nat_eq h.number n && p x)) none hs
              (none_above n y.number hs last (omega (arith, same)) rising.1),
        )
    by false at e rec = (none y at, rec e)

-- what holds of all holds of one that is found, and so does the test
pub found_holds : (P : Handler → Type 0) (q : Handler → Bool) (x : Handler) (hs : List Handler) → find q hs ≡ Some x → AllByRecursion P hs → P x × (q x ≡ true)
found_holds P q x [] e all = absurd (cc)
found_holds P q x (y ∷ hs) e all = by (q y) refl e (λ e. found_holds P q x hs e all.1)
  where
    by : (b : Bool) → q y ≡ b → cond b (Some y) (find q hs) ≡ Some x → (find q hs ≡ Some x → P x × (q x ≡ true)) → P x × (q x ≡ true)
    by true at e rec = let is : y ≡ x = cc in subst (λ (h : Handler). P h × (q h ≡ true)) is (all.0, at)
    by false at e rec = rec e

-- it has the number
pub found_number : (n : ℕ) (x : Handler) (hs : List Handler) → find (λ h. nat_eq h.number n) hs ≡ Some x → x.number ≡ n
found_number n x hs e =
    let at = (found_holds (λ h. Unit {0}) (λ h. nat_eq h.number n) x hs e (all_each (λ h. Unit {0}) (λ h. tt) hs)).1 in
    grind (arith, nat_tests)

-- one of a number counts as the one that it is
counts_alike : (q : Handler → Bool) (n : ℕ) (y x : Handler) → nat_eq y.number n ≡ true → y ≡ x → ◌≡◌ {A = ℕ} (cond (is_numbered q n y) 1 0) (cond (q x) 1 0)
counts_alike q n y x at is = ap (λ b. cond (b && q y) 1 0) at ∙ ap (λ (h : Handler). cond (q h) 1 0) is

-- it counts once if it is one of these
pub found_counts : (q : Handler → Bool) (n : ℕ) (x : Handler) (above : ℕ) (hs : List Handler) (last : ℕ) → Numbered above hs last
    → find (λ h. nat_eq h.number n) hs ≡ Some x → count_by (is_numbered q n) hs ≡ cond (q x) 1 0
found_counts q n x above [] last rising e = absurd (cc)
found_counts q n x above (y ∷ hs) last rising e =
    count_cons (is_numbered q n) y hs ∙ by (nat_eq y.number n) refl e (found_counts q n x y.number hs last rising.1)
  where
    by : (b : Bool) → nat_eq y.number n ≡ b → cond b (Some y) (find (λ h. nat_eq h.number n) hs) ≡ Some x
        → (find (λ h. nat_eq h.number n) hs ≡ Some x → count_by (is_numbered q n) hs ≡ cond (q x) 1 0)
        → cond (is_numbered q n y) 1 0 + count_by (is_numbered q n) hs ≡ cond (q x) 1 0
    by true at e rec =
        let is : y ≡ x = cc in
        let same : y.number ≡ n = grind (arith, nat_tests) in
        let none = count_none (is_numbered q n) hs
        (all_one (λ h. nat_eq h.number n ≡ false) (λ h. is_numbered q n h ≡ false) (λ h a. ap (λ t. t && q h) a) hs (none_above n y.number hs last (omega (arith, same)) rising.1)) in
        omega (arith, counts_alike q n y x at is, none)
    by false at e rec =
        let no : ◌≡◌ {A = ℕ} (cond (is_numbered q n y) 1 0) 0 = ap (λ b. cond (b && q y) 1 0) at in
        let rest = rec e in omega (arith, no, rest)

-- those of a kind, without those of a number
count_split : (q : Handler → Bool) (n : ℕ) (hs : List Handler) → count_by q hs ≡ count_by q (filter (λ h. not (nat_eq h.number n)) hs) + count_by (is_numbered q n) hs
count_split q n [] = refl
count_split q n (y ∷ hs) = by (nat_eq y.number n) refl (count_cons q y hs) (count_cons (is_numbered q n) y hs) (count_split q n hs)
  where
    rest : List Handler
    rest = filter (λ h. not (nat_eq h.number n)) hs

    by : (b : Bool) → nat_eq y.number n ≡ b → count_by q (y ∷ hs) ≡ cond (q y) 1 0 + count_by q hs
        → count_by (is_numbered q n) (y ∷ hs) ≡ cond (is_numbered q n y) 1 0 + count_by (is_numbered q n) hs
        → count_by q hs ≡ count_by q rest + count_by (is_numbered q n) hs
        → count_by q (y ∷ hs) ≡ count_by q (cond (not b) (y ∷ rest) rest) + count_by (is_numbered q n) (y ∷ hs)
    by true at whole mine rec =
        let one : ◌≡◌ {A = ℕ} (cond (is_numbered q n y) 1 0) (cond (q y) 1 0) = ap (λ b. cond (b && q y) 1 0) at in
        omega (arith, whole, mine, rec, one)
    by false at whole mine rec =
        let no : ◌≡◌ {A = ℕ} (cond (is_numbered q n y) 1 0) 0 = ap (λ b. cond (b && q y) 1 0) at in
        let left = count_cons q y rest in
        omega (arith, whole, mine, rec, no, left)

-- the others of a kind, once the one of a number goes
pub counts_less : (q : Handler → Bool) (n : ℕ) (x : Handler) (above : ℕ) (hs : List Handler) (last : ℕ) → Numbered above hs last
    → find (λ h. nat_eq h.number n) hs ≡ Some x → count_by q (filter (λ h. not (nat_eq h.number n)) hs) ≡ count_by q hs - cond (q x) 1 0
counts_less q n x above hs last rising e =
    let all = count_split q n hs in
    let mine = found_counts q n x above hs last rising e in
    omega (arith, all, mine)

pub counts_more : (q : Handler → Bool) (hs : List Handler) (x : Handler) → count_by q (hs ++ x ∷ []) ≡ count_by q hs + cond (q x) 1 0
counts_more q [] x = count_cons q x [] ∙ omega arith
counts_more q (y ∷ hs) x =
    let whole = count_cons q y (hs ++ x ∷ []) in
    let part = count_cons q y hs in
    let rec = counts_more q hs x in
    omega (arith, whole, part, rec)

-- ** what is done to the handler of a number if it is one of a kind

module _ (p : Handler → Bool) (n : ℕ) (hs : List Handler) where
  pub other_numbered : (x : Handler) (last : ℕ) → Numbered 0 hs last → find (λ h. nat_eq h.number n) hs ≡ Some x → p x ≡ false → AllByRecursion (λ h. is_numbered p n h ≡ false) hs
  other_numbered x last rising e apart =
      all_one (λ h. is_numbered p n h ≡ (nat_eq h.number n && p x)) (λ h. is_numbered p n h ≡ false)
      (λ h same. same ∙ ap (λ b. nat_eq h.number n && b) apart ∙ none (nat_eq h.number n)) hs (found_only p n x 0 hs last rising e)
    where
      none : (b : Bool) → (b && false) ≡ false
      none true = refl
      none false = refl

  module _ (skipped : AllByRecursion (λ h. is_numbered p n h ≡ false) hs) where
    pub skip_count : 0 ≡ count_by (is_numbered p n) hs
    skip_count = sym (count_none (is_numbered p n) hs skipped)

    pub skip_filter : hs ≡ filter (λ h. not (is_numbered p n h)) hs
    skip_filter = sym (filter_true (λ h. not (is_numbered p n h)) hs (all_one (λ h. is_numbered p n h ≡ false) (λ h. not (is_numbered p n h) ≡ true) (λ h e. ap not e) hs skipped))

    pub skip_map : (f : Handler → Handler) → hs ≡ map (λ h. cond (is_numbered p n h) (f h) h) hs
    skip_map f =
        sym (map_id (λ h. cond (is_numbered p n h) (f h) h) hs
        (all_one (λ h. is_numbered p n h ≡ false) (λ h. cond (is_numbered p n h) (f h) h ≡ h) (λ h e. ap (λ b. cond b (f h) h) e) hs skipped))

    pub skip_find : None ≡ find (is_numbered p n) hs
    skip_find = sym (find_none (is_numbered p n) hs skipped)

  module _ (x : Handler) (last : ℕ) (rising : Numbered 0 hs last) (e : find (λ h. nat_eq h.number n) hs ≡ Some x) (of : p x ≡ true) where
    same_numbered : AllByRecursion (λ h. is_numbered p n h ≡ nat_eq h.number n) hs
    same_numbered =
        all_one (λ h. is_numbered p n h ≡ (nat_eq h.number n && p x)) (λ h. is_numbered p n h ≡ nat_eq h.number n)
        (λ h same. same ∙ ap (λ b. nat_eq h.number n && b) of ∙ all (nat_eq h.number n)) hs (found_only p n x 0 hs last rising e)
      where
        all : (b : Bool) → (b && true) ≡ b
        all true = refl
        all false = refl

    pub one_count : 1 ≡ count_by (is_numbered p n) hs
    one_count = sym (found_counts p n x 0 hs last rising e ∙ ap (λ b. cond b 1 0) of)

    pub one_filter : filter (λ h. not (nat_eq h.number n)) hs ≡ filter (λ h. not (is_numbered p n h)) hs
    one_filter =
        filter_alike (λ h. not (nat_eq h.number n)) (λ h. not (is_numbered p n h)) hs
        (all_one (λ h. is_numbered p n h ≡ nat_eq h.number n) (λ h. not (nat_eq h.number n) ≡ not (is_numbered p n h)) (λ h same. ap not (sym same)) hs same_numbered)

    pub one_change : (f : Handler → Handler) → map (λ h. cond (nat_eq h.number n) (f h) h) hs ≡ map (λ h. cond (is_numbered p n h) (f h) h) hs
    one_change f =
        map_alike (λ h. cond (nat_eq h.number n) (f h) h) (λ h. cond (is_numbered p n h) (f h) h) hs
        (all_one (λ h. is_numbered p n h ≡ nat_eq h.number n) (λ h. cond (nat_eq h.number n) (f h) h ≡ cond (is_numbered p n h) (f h) h)
        (λ h same. ap (λ b. cond b (f h) h) (sym same)) hs same_numbered)

-- it is found among those of a kind
pub found_one : (p : Handler → Bool) (n : ℕ) (x : Handler) (hs : List Handler) → find (λ h. nat_eq h.number n) hs ≡ Some x → p x ≡ true → Some x ≡ find (is_numbered p n) hs
found_one p n x [] e of = absurd (cc)
found_one p n x (y ∷ hs) e of = by (nat_eq y.number n) e (λ e. found_one p n x hs e of)
  where
    by : (b : Bool) → cond b (Some y) (find (λ h. nat_eq h.number n) hs) ≡ Some x → (find (λ h. nat_eq h.number n) hs ≡ Some x → Some x ≡ find (is_numbered p n) hs)
        → Some x ≡ cond (b && p y) (Some y) (find (is_numbered p n) hs)
    by true e rec =
        let is : y ≡ x = cc in
        ap Some (sym is) ∙ sym (ap (λ b. cond b (Some y) (find (is_numbered p n) hs)) (ap p is ∙ of))
    by false e rec = rec e

-- the only one that has a number
pub found_same : (n : ℕ) (x : Handler) (above : ℕ) (hs : List Handler) (last : ℕ) → Numbered above hs last
    → find (λ h. nat_eq h.number n) hs ≡ Some x → AllByRecursion (λ h. nat_eq h.number n ≡ true → h ≡ x) hs
found_same n x above [] last rising e = tt
found_same n x above (y ∷ hs) last rising e = by (nat_eq y.number n) refl e (found_same n x y.number hs last rising.1)
  where
    by : (b : Bool) → nat_eq y.number n ≡ b → cond b (Some y) (find (λ h. nat_eq h.number n) hs) ≡ Some x
        → (find (λ h. nat_eq h.number n) hs ≡ Some x → AllByRecursion (λ h. nat_eq h.number n ≡ true → h ≡ x) hs)
        → (nat_eq y.number n ≡ true → y ≡ x) × AllByRecursion (λ h. nat_eq h.number n ≡ true → h ≡ x) hs
    by true at e rec =
        let is : y ≡ x = cc in
        let same : y.number ≡ n = grind (arith, nat_tests) in (
          λ t. is,
          all_one (λ h. nat_eq h.number n ≡ false) (λ h. nat_eq h.number n ≡ true → h ≡ x) (λ h no yes. absurd (false≢true (sym no ∙ yes))) hs
              (none_above n y.number hs last (omega (arith, same)) rising.1),
        )
    by false at e rec = (λ yes. absurd (false≢true (sym at ∙ yes)), rec e)

pub same_map : (f : Handler → Handler) (n : ℕ) (x : Handler) (hs : List Handler) (last : ℕ) → Numbered 0 hs last
    → find (λ h. nat_eq h.number n) hs ≡ Some x
    → map (λ h. cond (nat_eq h.number n) (f x) h) hs ≡ map (λ h. cond (nat_eq h.number n) (f h) h) hs
same_map f n x hs last rising e =
    map_alike (λ h. cond (nat_eq h.number n) (f x) h) (λ h. cond (nat_eq h.number n) (f h) h) hs
    (all_one (λ h. nat_eq h.number n ≡ true → h ≡ x) (λ h. cond (nat_eq h.number n) (f x) h ≡ cond (nat_eq h.number n) (f h) h) (λ h is. by h (nat_eq h.number n) is) hs
    (found_same n x 0 hs last rising e))
  where
    by : (h : Handler) (b : Bool) → (b ≡ true → h ≡ x) → cond b (f x) h ≡ cond b (f h) h
    by h true is = ap f (sym (is refl))
    by h false is = refl

-- where none has the number, none is changed
pub none_map : (f : Handler → Handler) (n : ℕ) (hs : List Handler) → find (λ h. nat_eq h.number n) hs ≡ None → map (λ h. cond (nat_eq h.number n) (f h) h) hs ≡ hs
none_map f n [] e = refl
none_map f n (y ∷ hs) e = by (nat_eq y.number n) e (none_map f n hs)
  where
    by : (b : Bool) → cond b (Some y) (find (λ h. nat_eq h.number n) hs) ≡ None
        → (find (λ h. nat_eq h.number n) hs ≡ None → map (λ h. cond (nat_eq h.number n) (f h) h) hs ≡ hs)
        → (cond b (f y) y ∷ map (λ h. cond (nat_eq h.number n) (f h) h) hs) ≡ y ∷ hs
    by true e rec = absurd (cc)
    by false e rec = ap (λ these. y ∷ these) (rec e)

-- where those of a kind are not below a number, the one of that number is the first of them
pub first_is : (p : Handler → Bool) (n : ℕ) (x : Handler) (above : ℕ) (hs : List Handler) (last : ℕ) → Numbered above hs last
    → AllByRecursion (λ h. p h ≡ true → n ≤ h.number) hs → find (is_numbered p n) hs ≡ Some x → Some x ≡ find p hs
first_is p n x above [] last rising low e = absurd (cc)
first_is p n x above (y ∷ hs) last rising low e = by (p y) refl (nat_eq y.number n) refl e (first_is p n x y.number hs last rising.1 low.1)
  where
    past : n < y.number → find (is_numbered p n) hs ≡ None
    past up =
        find_none (is_numbered p n) hs
        (all_one (λ h. nat_eq h.number n ≡ false) (λ h. is_numbered p n h ≡ false) (λ h at. ap (λ b. b && p h) at) hs (none_above n y.number hs last (omega (arith, up)) rising.1))

    by : (b : Bool) → p y ≡ b → (c : Bool) → nat_eq y.number n ≡ c → cond (c && b) (Some y) (find (is_numbered p n) hs) ≡ Some x
        → (find (is_numbered p n) hs ≡ Some x → Some x ≡ find p hs) → Some x ≡ cond b (Some y) (find p hs)
    by true of true at e rec = sym e
    by true of false at e rec =
        let least : n ≤ y.number = low.0 of in
        let up : n < y.number = (let other : y.number ≡ n → ⊥ = (λ same. grind (arith, nat_tests)) in omega (arith, least, other)) in
        let none = past up in absurd (cc)
    by false of true at e rec = rec e
    by false of false at e rec = rec e
