-- Going over the handlers of a kind by their numbers: those up to a number were changed, or are gone.
use Rattle.std.proofs.Common.{◌≡◌, ◌∙◌, ℕ, ◌+◌, ◌<◌, ◌^◌, ◌≤◌, Bool, true, false, cond, not, ◌&&◌, ◌||◌, nat_eq, nat_le, nat_lt, count_by, map, List, [], ◌∷◌, Option, Some, None, inl, inr, ◌⊎◌, refl, sym, ap, subst, arith}
use Rattle.std.proofs.lemmas.Bool.Decides.{nat_tests}
use Rattle.std.specs.List.{AllByRecursion, filter, find}
use Rattle.std.specs.Option.{IfSome, IsSomeAnd}
use Rattle.ui_machine.specs.Definition.Names.{same_name}
use Rattle.ui_machine.specs.Rules.Connections.{is_on}
use Rattle.ui_machine.specs.Rules.EmissionPlan.{fits_detail, runs_for}
use Rattle.ui_machine.specs.Rules.Disposal.{is_identity, is_of_object}
use Rattle.ui_machine.specs.State.Handlers.{Handler}
use Rattle.signal_core.specs.Connected.{Numbered}
use Rattle.signal_core.specs.Emission.{Walk, has_next_turn, is_ahead}
use Rattle.signal_core.specs.Kept.{IsAbove, IsListed, IsNext, IsNextOf, NotBefore, channel, detail_number, is_listed, is_numbered, least_of, may_run}
use Rattle.signal_core.specs.declared.listings.Listings.{Listings}
use Rattle.signal_core.proofs.Keeping.{all_above, all_each, all_one, all_two, all_unfilter, all_unmap, all_within, count_alike, count_cons, count_none, filter_alike, filter_true, find_false, find_none, first_is, map_alike, map_id}

-- ** the next one of a kind, by what is listed

pub next_listed : (p : Handler → Bool) (l : Listings) (given : ℕ) (hs : List Handler) (last : ℕ) → last < 2 ^ 64 → Numbered 0 hs last → AllByRecursion (IsListed l) hs
    → (next : Option ℕ) → IsAbove given next → ((h : Handler) → IsListed l h → p h ≡ true → NotBefore given next h.number) → IsNextOf p given hs next
next_listed p l given hs last few rising all None above each =
    all_two (IsListed l) (λ h. h.number ≤ last) (λ h. p h ≡ true → given < h.number → ⊥) (λ h mine low of up. each h mine of up (omega (arith, low, few))) hs all (all_within 0 hs last rising)
next_listed p l given hs last few rising all (Some next) above each = (
  above.0,
  all_one (IsListed l) (λ h. p h ≡ true → given < h.number → h.number < next → ⊥) (λ h mine of up low. each h mine of up low) hs all,
)

both : (s t : Bool) → (s && t) ≡ true → (s ≡ true) × (t ≡ true)
both true true e = (refl, refl)
both true false e = let no : false ≡ true = e in absurd (cc)
both false t e = let no : false ≡ true = e in absurd (cc)

same_number : (x y : ℕ) → nat_eq x y ≡ true → x ≡ y
same_number x y e = grind (arith, nat_tests)

module _ (l : Listings) (hs : List Handler) (last : ℕ) (few : last < 2 ^ 64) (rising : Numbered 0 hs last) (all : AllByRecursion (IsListed l) hs) where
  pub next_on_is : (o s given : ℕ) (next : Option ℕ) → IsNext l.by_program o s 0 given next → IsNextOf (is_on o s) given hs next
  next_on_is o s given next is = next_listed (is_on o s) l given hs last few rising all next is.0 (λ h mine of. is.1 h.number (has h mine of))
    where
      has : (h : Handler) → IsListed l h → is_on o s h ≡ true → is_listed l.by_program o s 0 h.number ≡ true
      has h mine of =
          let parts = both (nat_eq h.object o) (nat_eq h.program s) of in
          subst (λ k. is_listed l.by_program k s 0 h.number ≡ true) (same_number h.object o parts.0)
          (subst (λ k. is_listed l.by_program h.object k 0 h.number ≡ true) (same_number h.program s parts.1) mine.1)

  pub next_of_is : (o given : ℕ) (next : Option ℕ) → IsNext l.by_object o 0 0 given next → IsNextOf (is_of_object o) given hs next
  next_of_is o given next is = next_listed (is_of_object o) l given hs last few rising all next is.0 (λ h mine of. is.1 h.number (has h mine of))
    where
      as_data : (number : ℕ) (arg : Option ℕ) → IfSome arg (λ id. is_listed l.by_object id 0 0 number ≡ true) → is_identity o arg ≡ true → is_listed l.by_object o 0 0 number ≡ true
      as_data number None mine of = let no : false ≡ true = of in absurd (cc)
      as_data number (Some id) mine of = subst (λ k. is_listed l.by_object k 0 0 number ≡ true) (same_number id o of) mine

      by : (h : Handler) → IsListed l h → (b : Bool) → nat_eq h.object o ≡ b → (b || is_identity o h.arg) ≡ true → is_listed l.by_object o 0 0 h.number ≡ true
      by h mine true e of = subst (λ k. is_listed l.by_object k 0 0 h.number ≡ true) (same_number h.object o e) mine.2
      by h mine false e of = as_data h.number h.arg mine.3 of

      has : (h : Handler) → IsListed l h → is_of_object o h ≡ true → is_listed l.by_object o 0 0 h.number ≡ true
      has h mine of = by h mine (nat_eq h.object o) refl of

-- ** what runs in an emission, by what is listed

same_names : (xs ys : List ℕ) → same_name xs ys ≡ true → xs ≡ ys
same_names [] [] h = refl
same_names [] (y ∷ ys) h = let no : false ≡ true = h in absurd (cc)
same_names (x ∷ xs) [] h = let no : false ≡ true = h in absurd (cc)
same_names (x ∷ xs) (y ∷ ys) h = by (nat_eq x y) refl (same_names xs ys) h
  where
    by : (b : Bool) → nat_eq x y ≡ b → (same_name xs ys ≡ true → xs ≡ ys) → cond b (same_name xs ys) false ≡ true → (x ∷ xs) ≡ (y ∷ ys)
    by true e rec h = ap (λ n. n ∷ xs) (same_number x y e) ∙ ap (λ l. y ∷ l) (rec h)
    by false e rec h = let no : false ≡ true = h in absurd (cc)

module _ (w : Walk) (after : Bool) (l : Listings) where
  -- it is listed under a number
  abbrev pub Under : ℕ → ℕ → Type 0
  Under detail n = is_listed l.by_signal w.object (channel w.signal after) detail n ≡ true

  -- what runs is listed without a detail, or under the emission's own
  pub covered : (h : Handler) → IsListed l h → l.is_whole ≡ true → may_run w after h ≡ true → Under 0 h.number ⊎ ((k : ℕ) × (detail_number l.details w.detail ≡ Some k) × Under k h.number)
  covered h mine whole of =
      let turn = both (runs_for w.object w.signal w.detail h && cond after h.after (not h.after)) (not (nat_lt 0 h.blocks)) of in
      let parts = both (runs_for w.object w.signal w.detail h) (cond after h.after (not h.after)) turn.0 in
      let runs = both (nat_eq h.object w.object && nat_eq h.signal w.signal) (fits_detail h.detail w.detail) parts.0 in
      let at = both (nat_eq h.object w.object) (nat_eq h.signal w.signal) runs.0 in
      by h.detail w.detail (moved h.object h.signal h.after h.number (same_number h.object w.object at.0) (same_number h.signal w.signal at.1) (same_place after h.after parts.1)) (mine.0 whole (unblocked_is h.blocks turn.1)) runs.1
    where
      unblocked_is : (n : ℕ) → not (nat_lt 0 n) ≡ true → n ≡ 0
      unblocked_is n e = grind (arith, nat_tests)

      same_place : (a b : Bool) → cond a b (not b) ≡ true → b ≡ a
      same_place true b e = e
      same_place false true e = let no : false ≡ true = e in absurd (cc)
      same_place false false e = refl

      moved : (o s : ℕ) (a : Bool) (n : ℕ) → o ≡ w.object → s ≡ w.signal → a ≡ after → (detail : ℕ) → is_listed l.by_signal o (channel s a) detail n ≡ true → Under detail n
      moved o s a n e f g detail listed =
          subst (λ k. is_listed l.by_signal k (channel w.signal after) detail n ≡ true) e
          (subst (λ k. is_listed l.by_signal o (channel k after) detail n ≡ true) f (subst (λ b. is_listed l.by_signal o (channel s b) detail n ≡ true) g listed))

      own : (o : Option ℕ) (n : ℕ) (P : ℕ → Type 0) → ((k : ℕ) → P k → Under k n) → IsSomeAnd o P → (k : ℕ) × (o ≡ Some k) × Under k n
      own None n P move listed = absurd listed
      own (Some k) n P move listed = (k, refl, move k listed)

      by : (mine given : Option (List ℕ)) → ((detail : ℕ) → is_listed l.by_signal h.object (channel h.signal h.after) detail h.number ≡ true → Under detail h.number)
          → IsSomeAnd (detail_number l.details mine) (λ detail. is_listed l.by_signal h.object (channel h.signal h.after) detail h.number ≡ true)
          → fits_detail mine given ≡ true
          → Under 0 h.number ⊎ ((k : ℕ) × (detail_number l.details given ≡ Some k) × Under k h.number)
      by None given move listed fits = inl (move 0 listed)
      by (Some mine) None move listed fits = let no : false ≡ true = fits in absurd (cc)
      by (Some mine) (Some given) move listed fits =
          let found = own (detail_number l.details (Some mine)) h.number (λ detail. is_listed l.by_signal h.object (channel h.signal h.after) detail h.number ≡ true) move listed in
          inr (found.0, ap (λ (bytes : List ℕ). detail_number l.details (Some bytes)) (sym (same_names mine given fits)) ∙ found.1, found.2)

-- ** the lower one of two

pub least_first : (given : ℕ) (x y : Option ℕ) (n : ℕ) → IsAbove given y → NotBefore given x n → NotBefore given (least_of x y) n
least_first given None None n b none = none
least_first given None (Some y) n b none = λ up low. none up (omega (arith, low, b.1))
least_first given (Some x) None n b none = none
least_first given (Some x) (Some y) n b none = λ up low. none up (omega (arith, low))

pub least_second : (given : ℕ) (x y : Option ℕ) (n : ℕ) → IsAbove given x → NotBefore given y n → NotBefore given (least_of x y) n
least_second given None y n a none = none
least_second given (Some x) None n a none = λ up low. none up (omega (arith, low, a.1))
least_second given (Some x) (Some y) n a none = λ up low. none up (omega (arith, low))

-- so the next one is found by what is listed under the two
module _ (w : Walk) (after : Bool) (l : Listings) (given o ch : ℕ) (is_o : o ≡ w.object) (is_ch : ch ≡ channel w.signal after) where
  as_listed : (detail n : ℕ) → Under w after l detail n → is_listed l.by_signal o ch detail n ≡ true
  as_listed detail n under = ap (λ k. is_listed l.by_signal k ch detail n) is_o ∙ ap (λ k. is_listed l.by_signal w.object k detail n) is_ch ∙ under

  pub plain_only : l.is_whole ≡ true → (plain : Option ℕ) → IsNext l.by_signal o ch 0 given plain → ((k : ℕ) → detail_number l.details w.detail ≡ Some k → k ≡ 0)
      → (h : Handler) → IsListed l h → may_run w after h ≡ true → NotBefore given plain h.number
  plain_only whole plain is none h mine of =
      elim (covered w after l h mine whole of) [
        | inl under ↦ is.1 h.number (as_listed 0 h.number under)
        | inr own ↦ is.1 h.number (as_listed 0 h.number (subst (λ k. Under w after l k h.number) (none own.0 own.1) own.2))
      ]

  pub plain_or_own : l.is_whole ≡ true → (detail : ℕ) (plain own : Option ℕ) → detail_number l.details w.detail ≡ Some detail → IsNext l.by_signal o ch 0 given plain
      → IsNext l.by_signal o ch detail given own → (h : Handler) → IsListed l h → may_run w after h ≡ true → NotBefore given (least_of plain own) h.number
  plain_or_own whole detail plain own e is_plain is_own h mine of =
      elim (covered w after l h mine whole of) [
        | inl under ↦ least_first given plain own h.number is_own.0 (is_plain.1 h.number (as_listed 0 h.number under))
        | inr found ↦
            least_second given plain own h.number is_plain.0
            (is_own.1 h.number (as_listed detail h.number (subst (λ k. Under w after l k h.number) (let same : Some found.0 ≡ Some detail = sym found.1 ∙ e in cc) found.2)))
      ]

-- ** those up to a number

abbrev pub up_to : (Handler → Bool) → ℕ → Handler → Bool
up_to p at h = p h && nat_le h.number at

-- none is one of a kind between two numbers
abbrev pub Gap : (Handler → Bool) → (at next : ℕ) → Handler → Type 0
Gap p at next h = p h ≡ true → at < h.number → h.number < next → ⊥

abbrev pub None_past : (Handler → Bool) → (at : ℕ) → Handler → Type 0
None_past p at h = p h ≡ true → at < h.number → ⊥

low_test : (m n : ℕ) → m ≤ n → nat_le m n ≡ true
low_test m n h = grind (arith, nat_tests)

past_test : (m n : ℕ) → n < m → nat_le m n ≡ false
past_test m n h = grind (arith, nat_tests)

low_is : (m n : ℕ) → nat_le m n ≡ true → m ≤ n
low_is m n h = grind (arith, nat_tests)

past_is : (m n : ℕ) → nat_le m n ≡ false → n < m
past_is m n h = grind (arith, nat_tests)

other_is : (m n : ℕ) → nat_eq m n ≡ false → m ≡ n → ⊥
other_is m n h same = grind (arith, nat_tests)

other_test : (m n : ℕ) → m < n → nat_eq m n ≡ false
other_test m n h = grind (arith, nat_tests)

-- nothing is up to 0
pub none_up_to : (p : Handler → Bool) (hs : List Handler) (last : ℕ) → Numbered 0 hs last → AllByRecursion (λ h. up_to p 0 h ≡ false) hs
none_up_to p hs last rising =
    all_one (λ h. 0 < h.number) (λ h. up_to p 0 h ≡ false) (λ h above. ap (λ b. p h && b) (past_test h.number 0 above) ∙ never (p h)) hs (all_above 0 hs last rising)
  where
    never : (b : Bool) → (b && false) ≡ false
    never true = refl
    never false = refl

-- all of a kind are up to a number that none of them is past
pub all_up_to : (p : Handler → Bool) (at : ℕ) (hs : List Handler) → AllByRecursion (None_past p at) hs → AllByRecursion (λ h. up_to p at h ≡ p h) hs
all_up_to p at hs none = all_one (None_past p at) (λ h. up_to p at h ≡ p h) (λ h past. by h (p h) refl past) hs none
  where
    low : (h : Handler) → (at < h.number → ⊥) → (b : Bool) → nat_le h.number at ≡ b → b ≡ true
    low h past true e = refl
    low h past false e = absurd (past (past_is h.number at e))

    by : (h : Handler) (b : Bool) → p h ≡ b → None_past p at h → (b && nat_le h.number at) ≡ b
    by h true e past = low h (past e) (nat_le h.number at) refl
    by h false e past = refl

-- ** the beginning and the end

-- nothing is gone or changed yet
pub left_none : (p : Handler → Bool) (hs : List Handler) (last : ℕ) → Numbered 0 hs last → hs ≡ filter (λ h. not (up_to p 0 h)) hs
left_none p hs last rising =
    sym (filter_true (λ h. not (up_to p 0 h)) hs (all_one (λ h. up_to p 0 h ≡ false) (λ h. not (up_to p 0 h) ≡ true) (λ h e. ap not e) hs (none_up_to p hs last rising)))

pub changed_none : (p : Handler → Bool) (f : Handler → Handler) (hs : List Handler) (last : ℕ) → Numbered 0 hs last → hs ≡ map (λ h. cond (up_to p 0 h) (f h) h) hs
changed_none p f hs last rising =
    sym (map_id (λ h. cond (up_to p 0 h) (f h) h) hs
    (all_one (λ h. up_to p 0 h ≡ false) (λ h. cond (up_to p 0 h) (f h) h ≡ h) (λ h e. ap (λ b. cond b (f h) h) e) hs (none_up_to p hs last rising)))

pub counted_none : (p : Handler → Bool) (hs : List Handler) (last : ℕ) → Numbered 0 hs last → 0 ≡ count_by (up_to p 0) hs
counted_none p hs last rising = sym (count_none (up_to p 0) hs (none_up_to p hs last rising))

module _ (p : Handler → Bool) (at : ℕ) (hs : List Handler) where
  pub past_left : AllByRecursion (None_past p at) (filter (λ h. not (up_to p at h)) hs) → AllByRecursion (None_past p at) hs
  past_left all = all_unfilter (None_past p at) (λ h. not (up_to p at h)) gone hs all
    where
      yes : (b : Bool) → not b ≡ false → b ≡ true
      yes true e = refl
      yes false e = let no : true ≡ false = e in absurd (cc)

      gone : (h : Handler) → not (up_to p at h) ≡ false → None_past p at h
      gone h e of past =
          let below = low_is h.number at (both (p h) (nat_le h.number at) (yes (up_to p at h) e)).1 in
          omega (arith, below, past)

  pub past_changed : (f : Handler → Handler) → ((h : Handler) → (f h).number ≡ h.number) → ((h : Handler) → p (f h) ≡ p h)
      → AllByRecursion (None_past p at) (map (λ h. cond (up_to p at h) (f h) h) hs) → AllByRecursion (None_past p at) hs
  past_changed f number kind all = all_unmap (None_past p at) (None_past p at) (λ h. cond (up_to p at h) (f h) h) same hs all
    where
      same : (h : Handler) → None_past p at (cond (up_to p at h) (f h) h) → None_past p at h
      same h = by (up_to p at h)
        where
          by : (b : Bool) → None_past p at (cond b (f h) h) → None_past p at h
          by true none of past = none (kind h ∙ of) (omega (arith, past, number h))
          by false none of past = none of past

  module _ (none : AllByRecursion (None_past p at) hs) where
    pub left_all : filter (λ h. not (up_to p at h)) hs ≡ filter (λ h. not (p h)) hs
    left_all =
        filter_alike (λ h. not (up_to p at h)) (λ h. not (p h)) hs
        (all_one (λ h. up_to p at h ≡ p h) (λ h. not (up_to p at h) ≡ not (p h)) (λ h e. ap not e) hs (all_up_to p at hs none))

    pub changed_all : (f : Handler → Handler) → map (λ h. cond (up_to p at h) (f h) h) hs ≡ map (λ h. cond (p h) (f h) h) hs
    changed_all f =
        map_alike (λ h. cond (up_to p at h) (f h) h) (λ h. cond (p h) (f h) h) hs
        (all_one (λ h. up_to p at h ≡ p h) (λ h. cond (up_to p at h) (f h) h ≡ cond (p h) (f h) h) (λ h e. ap (λ b. cond b (f h) h) e) hs (all_up_to p at hs none))

    pub counted_all : count_by (up_to p at) hs ≡ count_by p hs
    counted_all = count_alike (up_to p at) p hs (all_up_to p at hs none)

-- ** a step

module _ (p : Handler → Bool) (at next : ℕ) (up : at < next) where
  -- those up to the next number are those up to the one before and the one of it
  step_one : (h : Handler) → Gap p at next h → up_to p next h ≡ (up_to p at h || is_numbered p next h)
  step_one h gap = by (p h) refl (nat_le h.number at) refl
    where
      ends : (b : Bool) → nat_eq h.number next ≡ b → p h ≡ true → at < h.number → nat_le h.number next ≡ (b && true)
      ends true e of past = low_test h.number next (let same : h.number ≡ next = grind (arith, nat_tests) in omega (arith, same))
      ends false e of past = past_test h.number next (beyond (nat_le h.number next) refl)
        where
          beyond : (b : Bool) → nat_le h.number next ≡ b → next < h.number
          beyond false le = past_is h.number next le
          beyond true le = absurd (gap of past (omega (arith, low_is h.number next le, other_is h.number next e)))

      never : (b : Bool) → false ≡ (b && false)
      never true = refl
      never false = refl

      by : (mine : Bool) → p h ≡ mine → (b : Bool) → nat_le h.number at ≡ b → (mine && nat_le h.number next) ≡ ((mine && b) || (nat_eq h.number next && mine))
      by false e b le = never (nat_eq h.number next)
      by true e true le = low_test h.number next (omega (arith, low_is h.number at le, up))
      by true e false le = ends (nat_eq h.number next) refl e (past_is h.number at le)

  -- no handler is both
  apart_one : (h : Handler) → up_to p at h ≡ true → is_numbered p next h ≡ false
  apart_one h e =
      let low = low_is h.number at (both (p h) (nat_le h.number at) e).1 in
      ap (λ b. b && p h) (other_test h.number next (omega (arith, low, up)))

  filter_two : (a b : Handler → Bool) (hs : List Handler) → filter (λ h. not (b h)) (filter (λ h. not (a h)) hs) ≡ filter (λ h. not (a h || b h)) hs
  filter_two a b [] = refl
  filter_two a b (x ∷ hs) = by (a x) (filter_two a b hs)
    where
      rest : List Handler
      rest = filter (λ h. not (a h)) hs

      all : List Handler
      all = filter (λ h. not (a h || b h)) hs

      by : (c : Bool) → filter (λ h. not (b h)) rest ≡ all → filter (λ h. not (b h)) (cond (not c) (x ∷ rest) rest) ≡ cond (not (c || b x)) (x ∷ all) all
      by true e = e
      by false e = ap (λ these. cond (not (b x)) (x ∷ these) these) e

  count_two : (a b : Handler → Bool) → ((h : Handler) → a h ≡ true → b h ≡ false) → (hs : List Handler)
      → count_by (λ h. a h || b h) hs ≡ count_by a hs + count_by b hs
  count_two a b apart [] = refl
  count_two a b apart (x ∷ hs) =
      by (a x) refl (b x) refl (count_cons (λ h. a h || b h) x hs) (count_cons a x hs) (count_cons b x hs) (count_two a b apart hs)
    where
      by : (c : Bool) → a x ≡ c → (d : Bool) → b x ≡ d → count_by (λ h. a h || b h) (x ∷ hs) ≡ cond (c || d) 1 0 + count_by (λ h. a h || b h) hs
          → count_by a (x ∷ hs) ≡ cond c 1 0 + count_by a hs → count_by b (x ∷ hs) ≡ cond d 1 0 + count_by b hs
          → count_by (λ h. a h || b h) hs ≡ count_by a hs + count_by b hs → count_by (λ h. a h || b h) (x ∷ hs) ≡ count_by a (x ∷ hs) + count_by b (x ∷ hs)
      by true e true f whole one two rec = let no : true ≡ false = sym f ∙ apart x e in absurd (cc)
      by true e false f whole one two rec = omega (arith, whole, one, two, rec)
      by false e true f whole one two rec = omega (arith, whole, one, two, rec)
      by false e false f whole one two rec = omega (arith, whole, one, two, rec)

  module _ (hs : List Handler) (gaps : AllByRecursion (Gap p at next) hs) where
    steps : AllByRecursion (λ h. up_to p next h ≡ (up_to p at h || is_numbered p next h)) hs
    steps = all_one (Gap p at next) (λ h. up_to p next h ≡ (up_to p at h || is_numbered p next h)) step_one hs gaps

    count_step : count_by (up_to p at) hs + count_by (is_numbered p next) hs ≡ count_by (up_to p next) hs
    count_step =
        sym (count_alike (up_to p next) (λ h. up_to p at h || is_numbered p next h) hs steps
        ∙ count_two (up_to p at) (is_numbered p next) apart_one hs)

  -- ** where those up to a number are gone

  abbrev left_at : ℕ → List Handler → List Handler
  left_at n hs = filter (λ h. not (up_to p n h)) hs

  -- the gap among those that are left is one among all
  gaps_left : (hs : List Handler) → AllByRecursion (Gap p at next) (left_at at hs) → AllByRecursion (Gap p at next) hs
  gaps_left hs all = all_unfilter (Gap p at next) (λ h. not (up_to p at h)) gone hs all
    where
      yes : (b : Bool) → not b ≡ false → b ≡ true
      yes true e = refl
      yes false e = let no : true ≡ false = e in absurd (cc)

      gone : (h : Handler) → not (up_to p at h) ≡ false → Gap p at next h
      gone h e of past low =
          let below = low_is h.number at (both (p h) (nat_le h.number at) (yes (up_to p at h) e)).1 in
          omega (arith, below, past)

  pub left_step : (hs : List Handler) → AllByRecursion (Gap p at next) (left_at at hs) → filter (λ h. not (is_numbered p next h)) (left_at at hs) ≡ left_at next hs
  left_step hs all =
      filter_two (up_to p at) (is_numbered p next) hs
      ∙ filter_alike (λ h. not (up_to p at h || is_numbered p next h)) (λ h. not (up_to p next h)) hs
      (all_one (λ h. up_to p next h ≡ (up_to p at h || is_numbered p next h)) (λ h. not (up_to p at h || is_numbered p next h) ≡ not (up_to p next h)) (λ h e. ap not (sym e)) hs
      (steps hs (gaps_left hs all)))

  pub left_count : (hs : List Handler) → AllByRecursion (Gap p at next) (left_at at hs)
      → count_by (up_to p at) hs + count_by (is_numbered p next) (left_at at hs) ≡ count_by (up_to p next) hs
  left_count hs all = ap (λ k. count_by (up_to p at) hs + k) (stays hs) ∙ count_step hs (gaps_left hs all)
    where
      stays : (hs : List Handler) → count_by (is_numbered p next) (left_at at hs) ≡ count_by (is_numbered p next) hs
      stays [] = refl
      stays (x ∷ hs) = by (up_to p at x) refl (count_cons (is_numbered p next) x hs) (stays hs)
        where
          rest : List Handler
          rest = left_at at hs

          by : (b : Bool) → up_to p at x ≡ b → count_by (is_numbered p next) (x ∷ hs) ≡ cond (is_numbered p next x) 1 0 + count_by (is_numbered p next) hs
              → count_by (is_numbered p next) (left_at at hs) ≡ count_by (is_numbered p next) hs
              → count_by (is_numbered p next) (cond (not b) (x ∷ rest) rest) ≡ count_by (is_numbered p next) (x ∷ hs)
          by true e whole rec = rec ∙ sym (whole ∙ ap (λ b. cond b 1 0 + count_by (is_numbered p next) hs) (apart_one x e) ∙ omega arith)
          by false e whole rec = count_cons (is_numbered p next) x rest ∙ ap (λ k. cond (is_numbered p next x) 1 0 + k) rec ∙ sym whole

  -- ** where those up to a number are changed

  module _ (f : Handler → Handler) (number : (h : Handler) → (f h).number ≡ h.number) (kind : (h : Handler) → p (f h) ≡ p h) where
    abbrev changed_at : ℕ → Handler → Handler
    changed_at n h = cond (up_to p n h) (f h) h

    gaps_changed : (hs : List Handler) → AllByRecursion (Gap p at next) (map (changed_at at) hs) → AllByRecursion (Gap p at next) hs
    gaps_changed hs all = all_unmap (Gap p at next) (Gap p at next) (changed_at at) same hs all
      where
        same : (h : Handler) → Gap p at next (changed_at at h) → Gap p at next h
        same h = by (up_to p at h)
          where
            by : (b : Bool) → Gap p at next (cond b (f h) h) → Gap p at next h
            by true gap of past low = gap (kind h ∙ of) (omega (arith, past, number h)) (omega (arith, low, number h))
            by false gap of past low = gap of past low

    one_step : (h : Handler) → up_to p next h ≡ (up_to p at h || is_numbered p next h)
        → cond (is_numbered p next (changed_at at h)) (f (changed_at at h)) (changed_at at h) ≡ changed_at next h
    one_step h e = by (up_to p at h) refl ∙ sym (ap (λ b. cond b (f h) h) e)
      where
        numbered_still : is_numbered p next (f h) ≡ is_numbered p next h
        numbered_still = ap (λ k. nat_eq k next && p (f h)) (number h) ∙ ap (λ b. nat_eq h.number next && b) (kind h)

        by : (b : Bool) → up_to p at h ≡ b
            → cond (is_numbered p next (cond b (f h) h)) (f (cond b (f h) h)) (cond b (f h) h) ≡ cond (b || is_numbered p next h) (f h) h
        by true e = ap (λ b. cond b (f (f h)) (f h)) (numbered_still ∙ apart_one h e)
        by false e = refl

    pub changed_step : (hs : List Handler) → AllByRecursion (Gap p at next) (map (changed_at at) hs)
        → map (λ h. cond (is_numbered p next h) (f h) h) (map (changed_at at) hs) ≡ map (changed_at next) hs
    changed_step hs all = each hs (steps hs (gaps_changed hs all))
      where
        each : (hs : List Handler) → AllByRecursion (λ h. up_to p next h ≡ (up_to p at h || is_numbered p next h)) hs
            → map (λ h. cond (is_numbered p next h) (f h) h) (map (changed_at at) hs) ≡ map (changed_at next) hs
        each [] all = refl
        each (x ∷ hs) all =
            ap (λ (y : Handler). y ∷ map (λ h. cond (is_numbered p next h) (f h) h) (map (changed_at at) hs)) (one_step x all.0)
            ∙ ap (λ (these : List Handler). changed_at next x ∷ these) (each hs all.1)

    pub changed_count : (hs : List Handler) → AllByRecursion (Gap p at next) (map (changed_at at) hs)
        → count_by (up_to p at) hs + count_by (is_numbered p next) (map (changed_at at) hs) ≡ count_by (up_to p next) hs
    changed_count hs all = ap (λ k. count_by (up_to p at) hs + k) (stays hs) ∙ count_step hs (gaps_changed hs all)
      where
        same : (h : Handler) → is_numbered p next (changed_at at h) ≡ is_numbered p next h
        same h = by (up_to p at h)
          where
            by : (b : Bool) → is_numbered p next (cond b (f h) h) ≡ is_numbered p next h
            by true = ap (λ k. nat_eq k next && p (f h)) (number h) ∙ ap (λ b. nat_eq h.number next && b) (kind h)
            by false = refl

        stays : (hs : List Handler) → count_by (is_numbered p next) (map (changed_at at) hs) ≡ count_by (is_numbered p next) hs
        stays [] = refl
        stays (x ∷ hs) =
            count_cons (is_numbered p next) (changed_at at x) (map (changed_at at) hs)
            ∙ ap (λ b. cond b 1 0 + count_by (is_numbered p next) (map (changed_at at) hs)) (same x)
            ∙ ap (λ k. cond (is_numbered p next x) 1 0 + k) (stays hs)
            ∙ sym (count_cons (is_numbered p next) x hs)

-- ** the next turn

module _ (w : Walk) (given : ℕ) (after : Bool) where
  abbrev has_turn : Handler → Bool
  has_turn = has_next_turn w given after

  turn_parts : (h : Handler) → has_turn h ≡ true → (given < h.number) × (may_run w after h ≡ true)
  turn_parts h of =
      let turn = both (is_ahead w given after h) (not (nat_lt 0 h.blocks)) of in
      let parts = both (nat_lt given h.number && nat_le h.number w.greatest) (runs_for w.object w.signal w.detail h && cond after h.after (not h.after)) turn.0 in
      let low = (both (nat_lt given h.number) (nat_le h.number w.greatest) parts.0).0 in
      (above_is given h.number low, ap (λ b. b && not (nat_lt 0 h.blocks)) parts.1 ∙ turn.1)
    where
      above_is : (m n : ℕ) → nat_lt m n ≡ true → m < n
      above_is m n h = grind (arith, nat_tests)

  -- each that has a turn is past a number
  abbrev pub Later : ℕ → Handler → Type 0
  Later at h = has_turn h ≡ true → at < h.number

  pub later_begin : (hs : List Handler) → AllByRecursion (Later given) hs
  later_begin hs = all_each (Later given) (λ h of. (turn_parts h of).0) hs

  to_it : (h : Handler) → has_turn h ≡ true → may_run w after h ≡ true
  to_it h of = (turn_parts h of).1

  module _ (at next : ℕ) (hs : List Handler) (later : AllByRecursion (Later at) hs) (gaps : AllByRecursion (Gap (may_run w after) at next) hs) where
    not_below : AllByRecursion (λ h. has_turn h ≡ true → next ≤ h.number) hs
    not_below = all_two (Later at) (Gap (may_run w after) at next) (λ h. has_turn h ≡ true → next ≤ h.number) (λ h past gap of. by h (nat_le next h.number) refl (gap (to_it h of) (past of))) hs later gaps
      where
        by : (h : Handler) (b : Bool) → nat_le next h.number ≡ b → (h.number < next → ⊥) → next ≤ h.number
        by h true e none = low_is next h.number e
        by h false e none = absurd (none (past_is next h.number e))

    pub later_step : None ≡ find (is_numbered has_turn next) hs → AllByRecursion (Later next) hs
    later_step e =
        all_two (λ h. has_turn h ≡ true → next ≤ h.number) (λ h. is_numbered has_turn next h ≡ false) (Later next)
        (λ h low other of. by h (low of) (nat_eq h.number next) refl (sym (ap (λ b. nat_eq h.number next && b) of) ∙ other)) hs not_below (find_false (is_numbered has_turn next) hs (sym e))
      where
        by : (h : Handler) → next ≤ h.number → (b : Bool) → nat_eq h.number next ≡ b → (nat_eq h.number next && true) ≡ false → next < h.number
        by h low true e none = let no : true ≡ false = sym (ap (λ b. b && true) e) ∙ none in absurd (cc)
        by h low false e none = omega (arith, low, other_is h.number next e)

    pub found_first : (x : Handler) (last : ℕ) → Numbered 0 hs last → Some x ≡ find (is_numbered has_turn next) hs → Some x ≡ find has_turn hs
    found_first x last rising e = first_is has_turn next x 0 hs last rising not_below (sym e)

  pub none_later : (at : ℕ) (hs : List Handler) → AllByRecursion (Later at) hs → AllByRecursion (None_past (may_run w after) at) hs → None ≡ find has_turn hs
  none_later at hs later none =
      sym (find_none has_turn hs (all_two (Later at) (None_past (may_run w after) at) (λ h. has_turn h ≡ false) (λ h past no_more. by h (has_turn h) refl past no_more) hs later none))
    where
      by : (h : Handler) (b : Bool) → has_turn h ≡ b → Later at h → None_past (may_run w after) at h → b ≡ false
      by h false e past no_more = refl
      by h true e past no_more = absurd (no_more (to_it h e) (past e))
