-- How often the bracket of each register is open.
use Rattle.std.proofs.Common.{Bool, true, false, inl, inr, ◌≡◌, refl, sym, ap, ◌∙◌, subst, ℕ, zero, suc, ◌+◌, ◌-◌, ◌<◌, ◌≤◌, List, [], ◌∷◌, length, None, Some, cond, nat_eq, slice_index_or, arith}
use Rattle.std.specs.Prelude.{◌||◌, not}
use Rattle.std.proofs.lemmas.Bool.{cases_lt}
use Rattle.std.proofs.lemmas.Bool.Decides.{nat_tests}
use Rattle.ui_machine.specs.Seq.{read, write}
use Rattle.law_typing.specs.Rules.Brackets.{is_among, is_empty, less_one}
use Rattle.verify_rules.specs.BracketSteps.{Counts, Goes, freezes, thaws, times, writes}

eq_swapped : (x y : ℕ) → nat_eq x y ≡ nat_eq y x
eq_swapped x y = grind (arith, nat_tests)

eq_same : (x : ℕ) → nat_eq x x ≡ true
eq_same x = grind (arith, nat_tests)

eq_true : (x y : ℕ) → nat_eq x y ≡ true → x ≡ y
eq_true x y e = grind (arith, nat_tests)

eq_false : (x y : ℕ) → nat_eq x y ≡ false → x ≡ y → ⊥
eq_false x y e is = grind (arith, nat_tests)

eq_other : (x y : ℕ) → (x ≡ y → ⊥) → nat_eq x y ≡ false
eq_other x y other = by (nat_eq x y) refl
  where
    by : (b : Bool) → nat_eq x y ≡ b → nat_eq x y ≡ false
    by true e = absurd (other (eq_true x y e))
    by false e = e

-- ** registers among others

pub none_among : (r : ℕ) (xs : List ℕ) → times r xs ≡ 0 → is_among xs r ≡ false
none_among r [] none = refl
none_among r (x ∷ xs) none = ap (λ b. b || is_among xs r) (eq_swapped r x) ∙ by (nat_eq x r) (λ e. none_among r xs e) none
  where
    by : (b : Bool) → (times r xs ≡ 0 → is_among xs r ≡ false) → cond b (suc (times r xs)) (times r xs) ≡ 0 → (b || is_among xs r) ≡ false
    by true later e = absurd (omega (arith, e))
    by false later e = later e

pub one_among : (r : ℕ) (xs : List ℕ) → (times r xs ≡ 0 → ⊥) → is_among xs r ≡ true
one_among r [] some = absurd (some refl)
one_among r (x ∷ xs) some = ap (λ b. b || is_among xs r) (eq_swapped r x) ∙ by (nat_eq x r) (λ e. one_among r xs e) some
  where
    by : (b : Bool) → ((times r xs ≡ 0 → ⊥) → is_among xs r ≡ true) → (cond b (suc (times r xs)) (times r xs) ≡ 0 → ⊥) →
        (b || is_among xs r) ≡ true
    by true later e = refl
    by false later e = later e

less_here : (r : ℕ) (xs : List ℕ) → times r (less_one r xs) ≡ times r xs - 1
less_here r [] = refl
less_here r (x ∷ xs) = by (nat_eq x r) refl (less_here r xs)
  where
    by : (b : Bool) → nat_eq x r ≡ b → times r (less_one r xs) ≡ times r xs - 1 →
        times r (cond b xs (x ∷ less_one r xs)) ≡ cond b (suc (times r xs)) (times r xs) - 1
    by true e later = omega arith
    by false e later = ap (λ b. cond b (suc (times r (less_one r xs))) (times r (less_one r xs))) e ∙ later

less_there : (r s : ℕ) (xs : List ℕ) → (r ≡ s → ⊥) → times s (less_one r xs) ≡ times s xs
less_there r s [] other = refl
less_there r s (x ∷ xs) other = by (nat_eq x r) refl (less_there r s xs other)
  where
    by : (b : Bool) → nat_eq x r ≡ b → times s (less_one r xs) ≡ times s xs →
        times s (cond b xs (x ∷ less_one r xs)) ≡ cond (nat_eq x s) (suc (times s xs)) (times s xs)
    by true e later = sym (ap (λ b. cond b (suc (times s xs)) (times s xs)) (eq_other x s (λ is. other (sym (eq_true x r e) ∙ is))))
    by false e later = ap (λ n. cond (nat_eq x s) (suc n) n) later

more_here : (r : ℕ) (xs : List ℕ) → times r (r ∷ xs) ≡ times r xs + 1
more_here r xs = ap (λ b. cond b (suc (times r xs)) (times r xs)) (eq_same r) ∙ omega arith

more_there : (r s : ℕ) (xs : List ℕ) → (r ≡ s → ⊥) → times s (r ∷ xs) ≡ times s xs
more_there r s xs other = ap (λ b. cond b (suc (times s xs)) (times s xs)) (eq_other r s other)

-- a register is among some no more often than they are
pub times_within : (r : ℕ) (xs : List ℕ) → times r xs ≤ length xs
times_within r [] = omega arith
times_within r (x ∷ xs) = by (nat_eq x r) (times_within r xs)
  where
    by : (b : Bool) → times r xs ≤ length xs → cond b (suc (times r xs)) (times r xs) ≤ suc (length xs)
    by true later = omega (arith, later)
    by false later = omega (arith, later)

-- ** counts

written_here : (counts : List ℕ) (i n : ℕ) → read 0 (write 0 counts i n) i ≡ n
written_here [] zero n = refl
written_here [] (suc i) n = written_here [] i n
written_here (x ∷ xs) zero n = refl
written_here (x ∷ xs) (suc i) n = written_here xs i n

written_there : (counts : List ℕ) (i j n : ℕ) → (i ≡ j → ⊥) → read 0 (write 0 counts i n) j ≡ read 0 counts j
written_there [] zero zero n other = absurd (other refl)
written_there [] zero (suc j) n other = refl
written_there [] (suc i) zero n other = refl
written_there [] (suc i) (suc j) n other = written_there [] i j n (λ is. other (ap suc is))
written_there (x ∷ xs) zero zero n other = absurd (other refl)
written_there (x ∷ xs) zero (suc j) n other = refl
written_there (x ∷ xs) (suc i) zero n other = refl
written_there (x ∷ xs) (suc i) (suc j) n other = written_there xs i j n (λ is. other (ap suc is))

-- what is in a list, and what is behind it
pub read_within : (xs : List ℕ) (i : ℕ) → i < length xs → slice_index_or xs i 0 ≡ read 0 xs i
read_within [] i within = absurd (omega (arith, within))
read_within (x ∷ xs) zero within = refl
read_within (x ∷ xs) (suc i) within = read_within xs i (omega (arith, within))

pub read_behind : (xs : List ℕ) (i : ℕ) → length xs ≤ i → 0 ≡ read 0 xs i
read_behind [] i behind = refl
read_behind (x ∷ xs) zero behind = absurd (omega (arith, behind))
read_behind (x ∷ xs) (suc i) behind = read_behind xs i (omega (arith, behind))

-- one count changes with the registers
changed : (counts old new : List ℕ) (r n : ℕ) → Counts counts old → n ≡ times r new → ((s : ℕ) → (r ≡ s → ⊥) → times s new ≡ times s old) →
    Counts (write 0 counts r n) new
changed counts old new r n counted here there s = by (nat_eq r s) refl
  where
    by : (b : Bool) → nat_eq r s ≡ b → read 0 (write 0 counts r n) s ≡ times s new
    by true e =
        let is = eq_true r s e in
        ap (λ t. read 0 (write 0 counts r n) t) (sym is) ∙ (written_here counts r n ∙ (here ∙ ap (λ t. times t new) is))
    by false e =
        let other = eq_false r s e in
        written_there counts r s n other ∙ (counted s ∙ sym (there s other))

pub less_counted : (counts registers : List ℕ) (r : ℕ) → Counts counts registers →
    Counts (write 0 counts r (read 0 counts r - 1)) (less_one r registers)
less_counted counts registers r counted =
    changed counts registers (less_one r registers) r (read 0 counts r - 1) counted
    (ap (λ n. n - 1) (counted r) ∙ sym (less_here r registers)) (λ s other. less_there r s registers other)

pub more_counted : (counts registers : List ℕ) (r : ℕ) → Counts counts registers → Counts (write 0 counts r (read 0 counts r + 1)) (r ∷ registers)
more_counted counts registers r counted =
    changed counts registers (r ∷ registers) r (read 0 counts r + 1) counted
    (ap (λ n. n + 1) (counted r) ∙ sym (more_here r registers)) (λ s other. more_there r s registers other)

-- ** steps

-- a bracket is opened that is open after it
pub opens : (old new : List ℕ) (r n : ℕ) → n ≡ read 0 old r → (n ≡ 0 → ⊥) → new ≡ write 0 old r (n - 1) → Goes true new old (freezes r)
opens old new r n is some made registers counted = (
  sym (one_among r registers (λ none. some (is ∙ (counted r ∙ none)))),
  λ kept. subst (λ ns. Counts ns (less_one r registers)) (ap (λ m. write 0 old r (m - 1)) (sym is) ∙ sym made) (less_counted old registers r counted),
)

-- one that is not open
pub opens_none : (old new : List ℕ) (r n : ℕ) → n ≡ read 0 old r → n ≡ 0 → Goes false new old (freezes r)
opens_none old new r n is none registers counted =
    (sym (none_among r registers (sym (counted r) ∙ (sym is ∙ none))), λ kept. absurd (cc))

-- a bracket is closed
pub closes : (old new : List ℕ) (r n : ℕ) → n ≡ read 0 old r → new ≡ write 0 old r (n + 1) → (registers : List ℕ) → Counts old registers →
    Counts new (r ∷ registers)
closes old new r n is made registers counted =
    subst (λ ns. Counts ns (r ∷ registers)) (ap (λ m. write 0 old r (m + 1)) (sym is) ∙ sym made) (more_counted old registers r counted)

pub goes_closed : (old new : List ℕ) (r : ℕ) → ((registers : List ℕ) → Counts old registers → Counts new (r ∷ registers)) → Goes true new old (thaws r)
goes_closed old new r is registers counted = (refl, λ kept. is registers counted)

-- a register is written
pub writes_one : (counts : List ℕ) (r n : ℕ) (b : Bool) → n ≡ read 0 counts r → b ≡ nat_eq n 0 → Goes b counts counts (writes (Some r))
writes_one counts r n b is tests registers counted = (tests ∙ by (nat_eq n 0) refl, λ kept. counted)
  where
    by : (c : Bool) → nat_eq n 0 ≡ c → nat_eq n 0 ≡ not (is_among registers r)
    by true e = e ∙ sym (ap not (none_among r registers (sym (counted r) ∙ (sym is ∙ eq_true n 0 e))))
    by false e = e ∙ sym (ap not (one_among r registers (λ none. eq_false n 0 e (is ∙ (counted r ∙ none)))))

-- none is
pub writes_none : (counts : List ℕ) → Goes true counts counts (writes None)
writes_none counts registers counted = (refl, λ kept. counted)

-- ** at the beginning of a block

-- a bracket is open
pub one_open : (counts : List ℕ) (r : ℕ) (registers : List ℕ) → Counts counts registers → r < length counts → 0 < slice_index_or counts r 0 →
    is_empty registers ≡ false
one_open counts r [] counted within some = absurd (let e = counted r in let f = read_within counts r within in omega (arith, e, f, some))
one_open counts r (x ∷ xs) counted within some = refl

-- none is, if none was so far
pub closed_on : (counts : List ℕ) (n : ℕ) → ((k : ℕ) → k < n → read 0 counts k ≡ 0) → n < length counts → slice_index_or counts n 0 ≤ 0 →
    (k : ℕ) → k < n + 1 → read 0 counts k ≡ 0
closed_on counts n closed within none k below = by (nat_eq k n) refl
  where
    by : (b : Bool) → nat_eq k n ≡ b → read 0 counts k ≡ 0
    by true e =
        let f = eq_true k n e in
        let g = read_within counts n within in
        ap (λ m. read 0 counts m) f ∙ omega (arith, g, none)
    by false e = closed k (omega (arith, below, eq_false k n e))

pub closed_all : (counts : List ℕ) (n : ℕ) → ((k : ℕ) → k < n → read 0 counts k ≡ 0) → length counts ≤ n → (r : ℕ) → read 0 counts r ≡ 0
closed_all counts n closed behind r = elim (cases_lt r n) [
  | inl below ↦ closed r below
  | inr past ↦ sym (read_behind counts r (omega (arith, behind, past)))
]

-- none is
pub none_open : (counts registers : List ℕ) → Counts counts registers → ((r : ℕ) → read 0 counts r ≡ 0) → is_empty registers ≡ true
none_open counts [] counted none = refl
none_open counts (x ∷ xs) counted none = absurd (let e = more_here x xs in let f = counted x in let g = none x in omega (arith, e, f, g))
