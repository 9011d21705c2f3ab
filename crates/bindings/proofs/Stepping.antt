-- Going over the bindings of a kind by their numbers, from the last one on.
use Rattle.std.proofs.Common.{◌≡◌, ◌∙◌, ℕ, ◌+◌, ◌<◌, ◌≤◌, ◌^◌, Bool, true, false, cond, not, ◌&&◌, nat_eq, nat_le, count_by, List, [], ◌∷◌, Option, Some, None, refl, sym, ap, arith}
use Rattle.std.proofs.lemmas.Bool.Decides.{nat_tests}
use Rattle.std.specs.List.{AllByRecursion, filter, find}
use Rattle.ui_machine.specs.State.Bindings.{Binding, listens}
use Rattle.bindings.specs.Made.{is_next}
use Rattle.bindings.specs.Kept.{IsListed, IsNextAmong, IsNextOf, IsPreviousAmong, IsPreviousOf, Numbered, is_numbered}
use Rattle.bindings.specs.declared.listings.Listings.{Listings}
use Rattle.bindings.proofs.Keeping.{all_each, all_one, all_two, all_within, count_cons, count_none, filter_alike, filter_true, find_false, find_none, first_is, none_above}

-- a number by what is listed is one among the bindings
pub previous_of : (p : Binding → Bool) (l : Listings) (limit : ℕ) (bs : List Binding) → AllByRecursion (IsListed l) bs
    → (previous : Option ℕ) → IsPreviousAmong l p limit previous → IsPreviousOf p limit bs previous
previous_of p l limit bs all None is = all_one (IsListed l) (λ b. p b ≡ true → b.number < limit → ⊥) (λ b mine. is.1 b mine) bs all
previous_of p l limit bs all (Some previous) is = (
  is.0,
  all_one (IsListed l) (λ b. p b ≡ true → b.number < limit → previous < b.number → ⊥) (λ b mine. is.1 b mine) bs all,
)

pub next_of : (p : Binding → Bool) (l : Listings) (from : ℕ) (bs : List Binding) (limit : ℕ) → limit < 2 ^ 64 → Numbered 0 bs limit → AllByRecursion (IsListed l) bs
    → (next : Option ℕ) → IsNextAmong l p from next → IsNextOf p from bs next
next_of p l from bs limit few rising all None is =
    all_two (IsListed l) (λ b. b.number < limit) (λ b. p b ≡ true → from ≤ b.number → ⊥) (λ b mine low of up. is.1 b mine of up (omega (arith, low, few))) bs all (all_within 0 bs limit rising)
next_of p l from bs limit few rising all (Some next) is = (
  is.0,
  all_one (IsListed l) (λ b. p b ≡ true → from ≤ b.number → b.number < next → ⊥) (λ b mine. is.1 b mine) bs all,
)

-- no binding is one of a kind between two numbers
abbrev pub Gap : (Binding → Bool) → (at next : ℕ) → Binding → Type 0
Gap p at next b = p b ≡ true → b.number < at → next < b.number → ⊥

-- those of a kind are below a number
abbrev pub Below : (Binding → Bool) → ℕ → Binding → Type 0
Below p at b = p b ≡ true → b.number < at

abbrev pub None_below : (Binding → Bool) → ℕ → Binding → Type 0
None_below p at b = p b ≡ true → b.number < at → ⊥

same_is : (m n : ℕ) → nat_eq m n ≡ true → m ≡ n
same_is m n h = grind (arith, nat_tests)

other_is : (m n : ℕ) → nat_eq m n ≡ false → m ≡ n → ⊥
other_is m n h same = grind (arith, nat_tests)

low_test : (m n : ℕ) → m ≤ n → nat_le m n ≡ true
low_test m n h = grind (arith, nat_tests)

past_test : (m n : ℕ) → n < m → nat_le m n ≡ false
past_test m n h = grind (arith, nat_tests)

low_is : (m n : ℕ) → nat_le m n ≡ true → m ≤ n
low_is m n h = grind (arith, nat_tests)

past_is : (m n : ℕ) → nat_le m n ≡ false → n < m
past_is m n h = grind (arith, nat_tests)

never : (b : Bool) → (b && false) ≡ false
never true = refl
never false = refl

-- ** at the beginning all are below, and at the end there is none

pub all_below : (p : Binding → Bool) (bs : List Binding) (limit : ℕ) → Numbered 0 bs limit → AllByRecursion (Below p limit) bs
all_below p bs limit rising = all_one (λ b. b.number < limit) (Below p limit) (λ b low of. low) bs (all_within 0 bs limit rising)

module _ (p : Binding → Bool) (at : ℕ) (bs : List Binding) (below : AllByRecursion (Below p at) bs) (none : AllByRecursion (None_below p at) bs) where
  none_left : AllByRecursion (λ b. p b ≡ false) bs
  none_left = all_two (Below p at) (None_below p at) (λ b. p b ≡ false) (λ b low gone. by b (p b) refl low gone) bs below none
    where
      by : (b : Binding) (t : Bool) → p b ≡ t → Below p at b → None_below p at b → t ≡ false
      by b true e low gone = absurd (gone e (low e))
      by b false e low gone = refl

  pub none_counted : count_by p bs ≡ 0
  none_counted = count_none p bs none_left

  pub all_stay : filter (λ b. not (p b)) bs ≡ bs
  all_stay = filter_true (λ b. not (p b)) bs (all_one (λ b. p b ≡ false) (λ b. not (p b) ≡ true) (λ b e. ap not e) bs none_left)

-- ** those of a kind that have a number end

module _ (p : Binding → Bool) (n : ℕ) where
  abbrev pub left : List Binding → List Binding
  left bs = filter (λ b. not (is_numbered p n b)) bs

  pub left_count : (bs : List Binding) → count_by p bs ≡ count_by (is_numbered p n) bs + count_by p (left bs)
  left_count [] = refl
  left_count (x ∷ bs) = by (p x) refl (nat_eq x.number n) refl (count_cons p x bs) (count_cons (is_numbered p n) x bs) (count_cons p x (left bs)) (left_count bs)
    where
      by : (t : Bool) → p x ≡ t → (s : Bool) → nat_eq x.number n ≡ s → count_by p (x ∷ bs) ≡ cond t 1 0 + count_by p bs
          → count_by (is_numbered p n) (x ∷ bs) ≡ cond (s && t) 1 0 + count_by (is_numbered p n) bs
          → count_by p (x ∷ left bs) ≡ cond t 1 0 + count_by p (left bs)
          → count_by p bs ≡ count_by (is_numbered p n) bs + count_by p (left bs)
          → count_by p (x ∷ bs) ≡ count_by (is_numbered p n) (x ∷ bs) + count_by p (cond (not (s && t)) (x ∷ left bs) (left bs))
      by true e true f all mine rest rec = omega (arith, all, mine, rec)
      by true e false f all mine rest rec = omega (arith, all, mine, rest, rec)
      by false e true f all mine rest rec = omega (arith, all, mine, rest, rec)
      by false e false f all mine rest rec = omega (arith, all, mine, rest, rec)

  pub left_others : (bs : List Binding) → filter (λ b. not (p b)) (left bs) ≡ filter (λ b. not (p b)) bs
  left_others [] = refl
  left_others (x ∷ bs) = by (p x) refl (nat_eq x.number n) (left_others bs)
    where
      rest : List Binding
      rest = filter (λ b. not (p b)) bs

      by : (t : Bool) → p x ≡ t → (s : Bool) → filter (λ b. not (p b)) (left bs) ≡ rest
          → filter (λ b. not (p b)) (cond (not (s && t)) (x ∷ left bs) (left bs)) ≡ cond (not t) (x ∷ rest) rest
      by true e true rec = rec
      by true e false rec = ap (λ t. cond (not t) (x ∷ filter (λ b. not (p b)) (left bs)) (filter (λ b. not (p b)) (left bs))) e ∙ rec
      by false e true rec = ap (λ t. cond (not t) (x ∷ filter (λ b. not (p b)) (left bs)) (filter (λ b. not (p b)) (left bs))) e ∙ ap (λ these. x ∷ these) rec
      by false e false rec = ap (λ t. cond (not t) (x ∷ filter (λ b. not (p b)) (left bs)) (filter (λ b. not (p b)) (left bs))) e ∙ ap (λ these. x ∷ these) rec

  -- the others of the kind are below the number
  pub left_below : (at : ℕ) (bs : List Binding) → AllByRecursion (Below p at) bs → AllByRecursion (Gap p at n) bs → AllByRecursion (Below p n) (left bs)
  left_below at [] below gaps = tt
  left_below at (x ∷ bs) below gaps = by (nat_eq x.number n) refl (p x) refl (left_below at bs below.1 gaps.1)
    where
      by : (s : Bool) → nat_eq x.number n ≡ s → (t : Bool) → p x ≡ t → AllByRecursion (Below p n) (left bs) → AllByRecursion (Below p n) (cond (not (s && t)) (x ∷ left bs) (left bs))
      by true e true f rec = rec
      by true e false f rec = (λ of. let no : true ≡ false = sym of ∙ f in absurd (cc), rec)
      by false e true f rec = (λ of. lower (nat_le x.number n) refl, rec)
        where
          lower : (t : Bool) → nat_le x.number n ≡ t → x.number < n
          lower true le = let up = low_is x.number n le in let other = other_is x.number n e in omega (arith, up, other)
          lower false le = absurd (gaps.0 f (below.0 f) (past_is x.number n le))
      by false e false f rec = (λ of. let no : true ≡ false = sym of ∙ f in absurd (cc), rec)

-- ** those from a number on

abbrev pub from_on : (Binding → Bool) → ℕ → Binding → Bool
from_on p at b = p b && nat_le at b.number

module _ (p : Binding → Bool) where
  -- none is from the limit on
  pub none_from : (bs : List Binding) (limit : ℕ) → Numbered 0 bs limit → filter (from_on p limit) bs ≡ []
  none_from bs limit rising = each bs (all_within 0 bs limit rising)
    where
      each : (bs : List Binding) → AllByRecursion (λ b. b.number < limit) bs → filter (from_on p limit) bs ≡ []
      each [] low = refl
      each (x ∷ bs) low =
          ap (λ t. cond (p x && t) (x ∷ filter (from_on p limit) bs) (filter (from_on p limit) bs)) (past_test limit x.number low.0)
          ∙ ap (λ t. cond t (x ∷ filter (from_on p limit) bs) (filter (from_on p limit) bs)) (never (p x)) ∙ each bs low.1

  -- all of the kind are from a number on that none of them is below
  pub all_from_on : (at : ℕ) (bs : List Binding) → AllByRecursion (None_below p at) bs → filter (from_on p at) bs ≡ filter p bs
  all_from_on at bs none = filter_alike (from_on p at) p bs (all_one (None_below p at) (λ b. from_on p at b ≡ p b) (λ b gone. by b (p b) refl gone) bs none)
    where
      up : (b : Binding) → (b.number < at → ⊥) → (t : Bool) → nat_le at b.number ≡ t → t ≡ true
      up b gone true e = refl
      up b gone false e = absurd (gone (past_is at b.number e))

      by : (b : Binding) (t : Bool) → p b ≡ t → None_below p at b → (t && nat_le at b.number) ≡ t
      by b true e gone = up b (gone e) (nat_le at b.number) refl
      by b false e gone = refl

  module _ (at next : ℕ) (low : next < at) where
    -- one of another number is from the one on as from the other
    pub alike : (b : Binding) → Gap p at next b → is_numbered p next b ≡ false → from_on p next b ≡ from_on p at b
    alike b gap other = by (p b) refl (nat_eq b.number next) refl other
      where
        ends : p b ≡ true → (b.number ≡ next → ⊥) → (t : Bool) → nat_le at b.number ≡ t → nat_le next b.number ≡ t
        ends of ne true e = low_test next b.number (omega (arith, low_is at b.number e, low))
        ends of ne false e = past_test next b.number (below (nat_le b.number next) refl)
          where
            below : (t : Bool) → nat_le b.number next ≡ t → b.number < next
            below true le = omega (arith, low_is b.number next le, ne)
            below false le = absurd (gap of (past_is at b.number e) (past_is b.number next le))

        by : (t : Bool) → p b ≡ t → (s : Bool) → nat_eq b.number next ≡ s → (s && t) ≡ false → (t && nat_le next b.number) ≡ (t && nat_le at b.number)
        by true e true f apart = let never : true ≡ false = apart in absurd (cc)
        by true e false f apart = ends e (other_is b.number next f) (nat_le at b.number) refl
        by false e s f apart = refl

    -- where none of the kind has the number, the same are from it on
    pub same_from : (bs : List Binding) → AllByRecursion (Gap p at next) bs → AllByRecursion (λ b. is_numbered p next b ≡ false) bs
        → filter (from_on p next) bs ≡ filter (from_on p at) bs
    same_from bs gaps none =
        filter_alike (from_on p next) (from_on p at) bs (all_two (Gap p at next) (λ b. is_numbered p next b ≡ false) (λ b. from_on p next b ≡ from_on p at b) alike bs gaps none)

    -- where one has it, it is the first of them
    pub one_from : (x : Binding) (from : ℕ) (bs : List Binding) (limit : ℕ) → Numbered from bs limit → AllByRecursion (Gap p at next) bs → find (is_numbered p next) bs ≡ Some x
        → filter (from_on p next) bs ≡ x ∷ filter (from_on p at) bs
    one_from x from [] limit rising gaps e = absurd (cc)
    one_from x from (y ∷ bs) limit rising gaps e = by (nat_eq y.number next) refl (p y) refl e (one_from x (y.number + 1) bs limit rising.1 gaps.1)
      where
        lower : y.number < next → (nat_le next y.number ≡ false) × (nat_le at y.number ≡ false)
        lower h = (past_test next y.number h, past_test at y.number (omega (arith, h, low)))

        by : (s : Bool) → nat_eq y.number next ≡ s → (t : Bool) → p y ≡ t → cond (s && t) (Some y) (find (is_numbered p next) bs) ≡ Some x
            → (find (is_numbered p next) bs ≡ Some x → filter (from_on p next) bs ≡ x ∷ filter (from_on p at) bs)
            → cond (t && nat_le next y.number) (y ∷ filter (from_on p next) bs) (filter (from_on p next) bs)
            ≡ x ∷ cond (t && nat_le at y.number) (y ∷ filter (from_on p at) bs) (filter (from_on p at) bs)
        by true f true g e rec =
            let is : y ≡ x = cc in
            let same = same_is y.number next f in
            let rest = same_from bs gaps.1
            (all_one (λ b. nat_eq b.number next ≡ false) (λ b. is_numbered p next b ≡ false) (λ b a. ap (λ t. t && p b) a) bs (none_above next (y.number + 1) bs limit (omega (arith, same)) rising.1)) in
            ap (λ t. cond t (y ∷ filter (from_on p next) bs) (filter (from_on p next) bs)) (low_test next y.number (omega (arith, same)))
            ∙ ap (λ (these : List Binding). y ∷ these) rest
            ∙ ap (λ (z : Binding). z ∷ filter (from_on p at) bs) is
            ∙ sym (ap (λ t. x ∷ cond t (y ∷ filter (from_on p at) bs) (filter (from_on p at) bs)) (past_test at y.number (omega (arith, same, low))))
        by true f false g e rec = rec e
        by false f true g e rec = split (nat_le y.number next) refl
          where
            split : (t : Bool) → nat_le y.number next ≡ t
                → cond (nat_le next y.number) (y ∷ filter (from_on p next) bs) (filter (from_on p next) bs)
                ≡ x ∷ cond (nat_le at y.number) (y ∷ filter (from_on p at) bs) (filter (from_on p at) bs)
            split true le =
                let below = lower (omega (arith, low_is y.number next le, other_is y.number next f)) in
                ap (λ t. cond t (y ∷ filter (from_on p next) bs) (filter (from_on p next) bs)) below.0 ∙ rec e
                ∙ sym (ap (λ t. x ∷ cond t (y ∷ filter (from_on p at) bs) (filter (from_on p at) bs)) below.1)
            split false le =
                let none = find_none (is_numbered p next) bs
                (all_one (λ b. nat_eq b.number next ≡ false) (λ b. is_numbered p next b ≡ false) (λ b a. ap (λ t. t && p b) a) bs
                (none_above next (y.number + 1) bs limit (omega (arith, past_is y.number next le)) rising.1)) in
                absurd (cc)
        by false f false g e rec = rec e

-- ** the first one that may be next

module _ (object slot from : ℕ) where
  abbrev may_be : Binding → Bool
  may_be = is_next object slot from

  both : (s t : Bool) → (s && t) ≡ true → (s ≡ true) × (t ≡ true)
  both true true e = (refl, refl)
  both true false e = let no : false ≡ true = e in absurd (cc)
  both false t e = let no : false ≡ true = e in absurd (cc)

  parts : (b : Binding) → may_be b ≡ true → (from ≤ b.number) × (listens object slot b ≡ true)
  parts b of =
      let two = both (nat_le from b.number && listens object slot b) (not b.busy) of in
      let one = both (nat_le from b.number) (listens object slot b) two.0 in
      (low_is from b.number one.0, one.1)

  -- each that may be next is from a number on
  abbrev pub Later : ℕ → Binding → Type 0
  Later at b = is_next object slot from b ≡ true → at ≤ b.number

  pub later_begin : (bs : List Binding) → AllByRecursion (Later from) bs
  later_begin bs = all_each (Later from) (λ b of. (parts b of).0) bs

  abbrev Before : (at next : ℕ) → Binding → Type 0
  Before at next b = listens object slot b ≡ true → at ≤ b.number → b.number < next → ⊥

  module _ (at next : ℕ) (bs : List Binding) (later : AllByRecursion (Later at) bs) (gaps : AllByRecursion (Before at next) bs) where
    not_before : AllByRecursion (λ b. may_be b ≡ true → next ≤ b.number) bs
    not_before = all_two (Later at) (Before at next) (λ b. may_be b ≡ true → next ≤ b.number) (λ b low gap of. by b (nat_le next b.number) refl (gap (parts b of).1 (low of))) bs later gaps
      where
        by : (b : Binding) (t : Bool) → nat_le next b.number ≡ t → (b.number < next → ⊥) → next ≤ b.number
        by b true e none = low_is next b.number e
        by b false e none = absurd (none (past_is next b.number e))

    pub later_step : None ≡ find (is_numbered (is_next object slot from) next) bs → AllByRecursion (Later (next + 1)) bs
    later_step e =
        all_two (λ b. may_be b ≡ true → next ≤ b.number) (λ b. is_numbered may_be next b ≡ false) (Later (next + 1))
        (λ b low other of. by b (low of) (nat_eq b.number next) refl (sym (ap (λ t. nat_eq b.number next && t) of) ∙ other)) bs not_before (find_false (is_numbered may_be next) bs (sym e))
      where
        by : (b : Binding) → next ≤ b.number → (t : Bool) → nat_eq b.number next ≡ t → (nat_eq b.number next && true) ≡ false → next + 1 ≤ b.number
        by b low true e none = let no : true ≡ false = sym (ap (λ t. t && true) e) ∙ none in absurd (cc)
        by b low false e none = let other = other_is b.number next e in omega (arith, low, other)

    pub found_first : (x : Binding) (limit : ℕ) → Numbered 0 bs limit → Some x ≡ find (is_numbered (is_next object slot from) next) bs → Some x ≡ find (is_next object slot from) bs
    found_first x limit rising e = first_is may_be next x 0 bs limit rising not_before (sym e)

  pub none_later : (at : ℕ) (bs : List Binding) → AllByRecursion (Later at) bs → AllByRecursion (λ b. listens object slot b ≡ true → at ≤ b.number → ⊥) bs
      → None ≡ find (is_next object slot from) bs
  none_later at bs later none =
      sym (find_none may_be bs (all_two (Later at) (λ b. listens object slot b ≡ true → at ≤ b.number → ⊥) (λ b. may_be b ≡ false) (λ b low gone. by b (may_be b) refl low gone) bs later none))
    where
      by : (b : Binding) (t : Bool) → may_be b ≡ t → Later at b → (listens object slot b ≡ true → at ≤ b.number → ⊥) → t ≡ false
      by b false e low gone = refl
      by b true e low gone = absurd (gone (parts b e).1 (low e))

  -- where each would be past the limit there is none
  pub none_past : (at : ℕ) (bs : List Binding) (limit : ℕ) → Numbered 0 bs limit → AllByRecursion (Later at) bs → limit ≤ at → None ≡ find (is_next object slot from) bs
  none_past at bs limit rising later past =
      sym (find_none may_be bs (all_two (Later at) (λ b. b.number < limit) (λ b. may_be b ≡ false) (λ b low below. by b (may_be b) refl low below) bs later (all_within 0 bs limit rising)))
    where
      by : (b : Binding) (t : Bool) → may_be b ≡ t → Later at b → b.number < limit → t ≡ false
      by b false e low below = refl
      by b true e low below = absurd (omega (arith, low e, below, past))
