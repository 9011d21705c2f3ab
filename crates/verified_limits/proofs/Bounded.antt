-- Bounds that are compared with a limit, one after the other.
use Rattle.std.proofs.Common.{◌≡◌, ◌∙◌, ◌⊎◌, inl, inr, refl, sym, ap, ℕ, zero, suc, ◌+◌, ◌<◌, ◌≤◌, Bool, true, false, ◌&&◌, ◌||◌, nat_eq, nat_le, List, [], ◌∷◌, ◌++◌, length, map, take, Option, None, Some, option_map, slice_get, arith}
use Rattle.std.specs.List.{flat_map, list_all, list_any}
use Rattle.std.proofs.lemmas.Bool.{false≢true}
use Rattle.std.proofs.lemmas.Bool.Decides.{nat_tests}
use Rattle.std.proofs.lemmas.List.{length-map, take_all}
use Rattle.std.proofs.lemmas.List.Folds.{list_all-append}
use Rattle.std.proofs.lemmas.Option.{none-some, same_Some, slice_get-map}
use Rattle.ui_machine.specs.Definition.{Definition}
use Rattle.ui_machine.specs.declared.ids.Channel as code
use Rattle.law_typing.specs.Graph.{graph}
use Rattle.law_typing.specs.Graph.Channels.{Channel, Entry, channels, channels_at, is_channel}
use Rattle.law_typing.specs.Graph.Channels as entries
use Rattle.law_typing.specs.Laws.{IsIn}
use Rattle.law_typing.specs.Rules.RegisterKinds.{place_numbers}
use Rattle.law_typing.specs.Verdict.Accepted.{Accepted}
use Rattle.law_typing.proofs.CostProofs.{listed_in}
use Rattle.law_typing.proofs.EdgeProofs.{flat_in}
use Rattle.verify_graph.specs.ChannelView.{channel_of, channels_of}
use Rattle.verify_graph.proofs.Prefixes.{listed_get, listed_length}
use Rattle.verified.specs.declared.numbers.SourceBound.{SourceBound}
use Rattle.verified.specs.Entries.{is_entry}
use Rattle.verified.specs.Told.{IsBound, bound_of, source_view}
use Rattle.verified.proofs.LookUps.{has_channel}
use Rattle.verified_limits.specs.Limits.{NoneCountsMore, OneIsGreater, is_entry_within, is_within, ways_in}

-- ** tests of a list, one element after the other

module _ {A : Type 0} (p : A → Bool) where
  -- one that fails settles it
  pub one_fails : (xs : List A) (k : ℕ) (x : A) → slice_get xs k ≡ Some x → p x ≡ false → list_all p xs ≡ false
  one_fails [] k x at fails = absurd (none-some x at)
  one_fails (y ∷ ys) zero x at fails = ap (λ b. b && list_all p ys) (ap p (same_Some _ _ at) ∙ fails)
  one_fails (y ∷ ys) (suc k) x at fails = ap (λ b. p y && b) (one_fails ys k x at fails) ∙ and_false (p y)
    where
      and_false : (b : Bool) → (b && false) ≡ false
      and_false true = refl
      and_false false = refl

  first : (b rest : Bool) → (b && rest) ≡ true → b ≡ true
  first true rest h = refl
  first false rest h = h

  passes_next : (xs : List A) (k : ℕ) (x : A) → slice_get xs k ≡ Some x → p x ≡ true → list_all p (take k xs) ≡ true → list_all p (take (suc k) xs) ≡ true
  passes_next [] k x at passes before = absurd (none-some x at)
  passes_next (y ∷ ys) zero x at passes before = ap (λ b. b && true) (ap p (same_Some _ _ at) ∙ passes)
  passes_next (y ∷ ys) (suc k) x at passes before =
      let here = first (p y) (list_all p (take k ys)) before in
      ap (λ b. b && list_all p (take (suc k) ys)) here ∙ passes_next ys k x at passes (ap (λ b. b && list_all p (take k ys)) (sym here) ∙ before)

  -- one more that passes
  pub one_passes : (xs : List A) (k : ℕ) (x : A) → slice_get xs k ≡ Some x → p x ≡ true → list_all p (take k xs) ≡ true → list_all p (take (k + 1) xs) ≡ true
  one_passes xs k x at passes before =
      let next : k + 1 ≡ suc k = omega arith in
      ap (λ n. list_all p (take n xs)) next ∙ passes_next xs k x at passes before

  -- all have passed
  pub all_pass : (xs : List A) (k : ℕ) → length xs ≤ k → list_all p (take k xs) ≡ true → list_all p xs ≡ true
  all_pass xs k all before = ap (list_all p) (sym (take_all k xs all)) ∙ before

all_flat : {A : Type 0} (p : A → Bool) (f : ℕ → List A) (xs : List ℕ) → list_all p (flat_map f xs) ≡ list_all (λ x. list_all p (f x)) xs
all_flat p f [] = refl
all_flat p f (x ∷ xs) = list_all-append p (f x) (flat_map f xs) ∙ ap (λ b. list_all p (f x) && b) (all_flat p f xs)

and_false : (b : Bool) → (b && false) ≡ false
and_false true = refl
and_false false = refl

-- ** a limit

pub is_more : (n most : ℕ) → most < n → nat_le n most ≡ false
is_more n most h = grind (arith, nat_tests)

pub is_not_more : (n most : ℕ) → n ≤ most → nat_le n most ≡ true
is_not_more n most h = grind (arith, nat_tests)

at_most : (n most : ℕ) → nat_le n most ≡ true → n ≤ most
at_most n most h = grind (arith, nat_tests)

above : (n most : ℕ) → nat_le n most ≡ false → most < n
above n most h = grind (arith, nat_tests)

-- ** the channels of a place

pub in_place : (cs : List Channel) (k : ℕ) (c : Channel) → slice_get cs k ≡ Some c → IsIn c cs
in_place [] k c at = absurd (none-some c at)
in_place (e ∷ cs) zero c at = inl (sym (same_Some _ _ at))
in_place (e ∷ cs) (suc k) c at = inr (in_place cs k c at)

module _ (d : Definition) (a : Accepted d) (most : ℕ) where
  abbrev pub is_channel_within : Channel → Bool
  is_channel_within c = is_entry_within d a most (entries.at c)

  abbrev pub is_source_within : ℕ → Bool
  is_source_within program = is_entry_within d a most (entries.source program)

  -- one of them, as the code has it
  pub channel_here : (own : List code.Channel) (place k : ℕ) (c : code.Channel) → channels_of own ≡ channels_at d place → slice_get own k ≡ Some c →
      slice_get (channels_at d place) k ≡ Some (channel_of c)
  channel_here own place k c are at = ap (λ cs. slice_get cs k) (sym are) ∙ (slice_get-map channel_of own k ∙ ap (option_map channel_of) at)

  pub bound_here : (own : List code.Channel) (place k : ℕ) (c : code.Channel) (bound : ℕ) → place < length d.places → channels_of own ≡ channels_at d place →
      slice_get own k ≡ Some c → (IsIn (channel_of c) (channels d) → IsBound d (entries.at (channel_of c)) bound) → bound ≡ bound_of d a (entries.at (channel_of c))
  bound_here own place k c bound within are at is =
      is
      (flat_in (channels_at d) (place_numbers d) place (channel_of c) (listed_in (λ i. i) (length d.places) place within)
      (in_place (channels_at d place) k (channel_of c) (channel_here own place k c are at)))
      a

  pub place_fails : (own : List code.Channel) (place k : ℕ) (c : code.Channel) (bound : ℕ) → place < length d.places → channels_of own ≡ channels_at d place →
      slice_get own k ≡ Some c → (IsIn (channel_of c) (channels d) → IsBound d (entries.at (channel_of c)) bound) → most < bound →
      list_all is_channel_within (channels_at d place) ≡ false
  place_fails own place k c bound within are at is more =
      one_fails is_channel_within (channels_at d place) k (channel_of c) (channel_here own place k c are at)
      (ap (λ n. nat_le n most) (sym (bound_here own place k c bound within are at is)) ∙ is_more bound most more)

  pub place_passes : (own : List code.Channel) (place k : ℕ) (c : code.Channel) (bound : ℕ) → place < length d.places → channels_of own ≡ channels_at d place →
      slice_get own k ≡ Some c → (IsIn (channel_of c) (channels d) → IsBound d (entries.at (channel_of c)) bound) → bound ≤ most →
      list_all is_channel_within (take k (channels_at d place)) ≡ true → list_all is_channel_within (take (k + 1) (channels_at d place)) ≡ true
  place_passes own place k c bound within are at is less before =
      one_passes is_channel_within (channels_at d place) k (channel_of c) (channel_here own place k c are at)
      (ap (λ n. nat_le n most) (sym (bound_here own place k c bound within are at is)) ∙ is_not_more bound most less)
      before

  pub place_ends : (own : List code.Channel) (place k : ℕ) → channels_of own ≡ channels_at d place → length own ≤ k →
      list_all is_channel_within (take k (channels_at d place)) ≡ true → list_all is_channel_within (channels_at d place) ≡ true
  place_ends own place k are past before =
      let same = ap length are in
      all_pass is_channel_within (channels_at d place) k (omega (arith, past, same, length-map own channel_of)) before

  -- ** all places

  abbrev pub is_place_within : ℕ → Bool
  is_place_within place = list_all is_channel_within (channels_at d place)

  pub all_channels : list_all is_channel_within (channels d) ≡ list_all is_place_within (place_numbers d)
  all_channels = all_flat is_channel_within (channels_at d) (place_numbers d)

  pub places_fail : (n : ℕ) → n < length d.places → is_place_within n ≡ false → list_all is_channel_within (channels d) ≡ false
  places_fail n within fails = all_channels ∙ one_fails is_place_within (place_numbers d) n n (listed_get (λ i. i) (length d.places) n within) fails

  pub places_pass : (n : ℕ) → n < length d.places → is_place_within n ≡ true → list_all is_place_within (take n (place_numbers d)) ≡ true →
      list_all is_place_within (take (n + 1) (place_numbers d)) ≡ true
  places_pass n within passes before = one_passes is_place_within (place_numbers d) n n (listed_get (λ i. i) (length d.places) n within) passes before

  pub places_end : (n : ℕ) → length d.places ≤ n → list_all is_place_within (take n (place_numbers d)) ≡ true → list_all is_channel_within (channels d) ≡ true
  places_end n past before =
      let long = listed_length (λ i. i) (length d.places) in
      all_channels ∙ all_pass is_place_within (place_numbers d) n (omega (arith, past, long)) before

  -- ** the sources

  pub sources_compared : (ss : List SourceBound) (ps : List ℕ) → map source_view ss ≡ map (λ (p : ℕ). (p, bound_of d a (entries.source p))) ps →
      list_all (λ (s : SourceBound). nat_le s.bound most) ss ≡ list_all is_source_within ps
  sources_compared [] [] is = refl
  sources_compared [] (p ∷ ps) is = absurd (cc)
  sources_compared (s ∷ ss) [] is = absurd (cc)
  sources_compared (s ∷ ss) (p ∷ ps) is =
      let head : source_view s ≡ (p, bound_of d a (entries.source p)) = cc in
      let tail : map source_view ss ≡ map (λ (p : ℕ). (p, bound_of d a (entries.source p))) ps = cc in
      ap (λ (v : ℕ × ℕ). nat_le v.1 most && list_all (λ (s : SourceBound). nat_le s.bound most) ss) head
      ∙ ap (λ b. is_source_within p && b) (sources_compared ss ps tail)

  -- ** all of them

  all_mapped : {A : Type 0} (f : A → Entry) (xs : List A) → list_all (is_entry_within d a most) (map f xs) ≡ list_all (λ x. is_entry_within d a most (f x)) xs
  all_mapped f [] = refl
  all_mapped f (x ∷ xs) = ap (λ b. is_entry_within d a most (f x) && b) (all_mapped f xs)

  -- part by part
  pub in_parts : is_within d a most
      ≡ (is_entry_within d a most entries.build && (is_entry_within d a most entries.plain && (list_all is_source_within (graph d).sources && list_all is_channel_within (channels d))))
  in_parts =
      ap (λ b. is_entry_within d a most entries.build && (is_entry_within d a most entries.plain && b))
      (list_all-append (is_entry_within d a most) (map entries.source (graph d).sources) (map entries.at (channels d))
      ∙ ap (λ b. b && list_all (is_entry_within d a most) (map entries.at (channels d))) (all_mapped entries.source (graph d).sources)
      ∙ ap (λ b. list_all is_source_within (graph d).sources && b) (all_mapped entries.at (channels d)))

  -- where a part fails
  pub build_fails : (bound : ℕ) → bound ≡ bound_of d a entries.build → most < bound → is_within d a most ≡ false
  build_fails bound is more =
      let fails = ap (λ n. nat_le n most) (sym is) ∙ is_more bound most more in
      in_parts ∙ ap (λ b. b && (is_entry_within d a most entries.plain && (list_all is_source_within (graph d).sources && list_all is_channel_within (channels d)))) fails

  pub plain_fails : (bound : ℕ) → bound ≡ bound_of d a entries.plain → most < bound → is_within d a most ≡ false
  plain_fails bound is more =
      let fails = ap (λ n. nat_le n most) (sym is) ∙ is_more bound most more in
      in_parts ∙ ap (λ b. is_entry_within d a most entries.build && (b && (list_all is_source_within (graph d).sources && list_all is_channel_within (channels d)))) fails
      ∙ and_false (is_entry_within d a most entries.build)

  pub sources_fail : list_all is_source_within (graph d).sources ≡ false → is_within d a most ≡ false
  sources_fail fails =
      in_parts ∙ ap (λ b. is_entry_within d a most entries.build && (is_entry_within d a most entries.plain && (b && list_all is_channel_within (channels d)))) fails
      ∙ ap (λ b. is_entry_within d a most entries.build && b) (and_false (is_entry_within d a most entries.plain))
      ∙ and_false (is_entry_within d a most entries.build)

  -- where the channels are left
  pub parts_are : (build plain : ℕ) (left : Bool) → build ≡ bound_of d a entries.build → build ≤ most → plain ≡ bound_of d a entries.plain → plain ≤ most
      → list_all is_source_within (graph d).sources ≡ true → left ≡ list_all is_channel_within (channels d) → left ≡ is_within d a most
  parts_are build plain left b few p small s c =
      let first = ap (λ n. nat_le n most) (sym b) ∙ is_not_more build most few in
      let second = ap (λ n. nat_le n most) (sym p) ∙ is_not_more plain most small in
      c
      ∙ sym (in_parts
      ∙ ap (λ x. x && (is_entry_within d a most entries.plain && (list_all is_source_within (graph d).sources && list_all is_channel_within (channels d)))) first
      ∙ ap (λ x. x && (list_all is_source_within (graph d).sources && list_all is_channel_within (channels d))) second
      ∙ ap (λ x. x && list_all is_channel_within (channels d)) s)

-- ** what it says

both : (a b : Bool) → (a && b) ≡ true → (a ≡ true) × (b ≡ true)
both true b h = (refl, h)
both false b h = absurd (false≢true h)

-- one of a list for which all pass
passes_in : {A : Type 0} (p : A → Bool) (x : A) (xs : List A) → list_all p xs ≡ true → IsIn x xs → p x ≡ true
passes_in p x [] all there = absurd there
passes_in p x (y ∷ ys) all (inl is) = ap p is ∙ (both (p y) (list_all p ys) all).0
passes_in p x (y ∷ ys) all (inr there) = passes_in p x ys (both (p y) (list_all p ys) all).1 there

-- one of a list for which not all do
fails_in : {A : Type 0} (p : A → Bool) (xs : List A) → list_all p xs ≡ false → (x : A) × IsIn x xs × (p x ≡ false)
fails_in p [] h = absurd (false≢true (sym h))
fails_in p (y ∷ ys) h = by (p y) refl h (fails_in p ys)
  where
    by : (b : Bool) → p y ≡ b → (b && list_all p ys) ≡ false → (list_all p ys ≡ false → (x : _) × IsIn x ys × (p x ≡ false)) → (x : _) × IsIn x (y ∷ ys) × (p x ≡ false)
    by true e h rest = let later = rest h in (later.0, inr later.1, later.2)
    by false e h rest = (y, inl refl, e)

listed : (x : ℕ) (xs : List ℕ) → list_any (nat_eq x) xs ≡ true → IsIn x xs
listed x [] there = absurd (false≢true there)
listed x (y ∷ ys) there = by (nat_eq x y) refl there (listed x ys)
  where
    same : nat_eq x y ≡ true → x ≡ y
    same h = grind (arith, nat_tests)

    by : (b : Bool) → nat_eq x y ≡ b → (b || list_any (nat_eq x) ys) ≡ true → (list_any (nat_eq x) ys ≡ true → IsIn x ys) → IsIn x (y ∷ ys)
    by true e h rest = inl (same e)
    by false e h rest = inr (rest h)

each_within : (d : Definition) (a : Accepted d) (most : ℕ) → is_entry_within d a most entries.build ≡ true → is_entry_within d a most entries.plain ≡ true
    → list_all (is_source_within d a most) (graph d).sources ≡ true → list_all (is_channel_within d a most) (channels d) ≡ true
    → (e : Entry) → is_entry d e ≡ true → is_entry_within d a most e ≡ true
each_within d a most build plain sources all entries.build begins = build
each_within d a most build plain sources all (entries.at c) begins = passes_in (is_channel_within d a most) c (channels d) all (has_channel d c begins)
each_within d a most build plain sources all (entries.source p) begins = passes_in (is_source_within d a most) p (graph d).sources sources (listed p (graph d).sources begins)
each_within d a most build plain sources all entries.plain begins = plain

pub none_counts_more : NoneCountsMore
none_counts_more d a most is e begins =
    let sources = list_all (is_source_within d a most) (graph d).sources in
    let all = list_all (is_channel_within d a most) (channels d) in
    let one = both (is_entry_within d a most entries.build) (is_entry_within d a most entries.plain && (sources && all)) (sym (in_parts d a most) ∙ is) in
    let two = both (is_entry_within d a most entries.plain) (sources && all) one.1 in
    let three = both sources all two.1 in
    at_most (bound_of d a e) most (each_within d a most one.0 two.0 three.0 three.1 e begins)

pub one_is_greater : OneIsGreater
one_is_greater d a most is = let greater = fails_in (is_entry_within d a most) (ways_in d) is in (greater.0, greater.1, above (bound_of d a greater.0) most greater.2)
