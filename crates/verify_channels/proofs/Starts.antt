-- What instructions may start, as it is sketched.
use Rattle.std.proofs.Common.{◌≡◌, ◌∙◌, inl, inr, refl, sym, ap, subst, ℕ, zero, suc, ◌+◌, ◌<◌, Bool, true, false, cond, List, [], ◌∷◌, ◌++◌, length, map, Option, None, Some, slice_get, arith}
use Rattle.std.specs.Prelude.{is_some}
use Rattle.std.specs.List.{filter, filter_map, flat_map}
use Rattle.std.proofs.lemmas.List.Elements.{filter-append}
use Rattle.std.proofs.lemmas.Option.{none-some, same_Some}
use Rattle.ui_machine.specs.Seq.{listed, read}
use Rattle.ui_machine.specs.Definition.Kinds.{RegisterKind}
use Rattle.ui_machine.specs.Definition.{Definition}
use Rattle.ui_machine.specs.Definition.Lookups.{place_of, slot_of, specs_of}
use Rattle.ui_machine.specs.Definition.Programs.{Block, Instruction, Program}
use Rattle.ui_machine.specs.Definition.Programs as words
use Rattle.ui_machine.specs.Definition.Properties.{Spec, is_readable}
use Rattle.ui_machine.specs.Rules.Connections.{signal_number}
use Rattle.law_typing.specs.Graph.{Start, Stretch, channel_over, making_of, over, paired_at, pairs_of, start_of, starts_of, stretch_of, stretches_of}
use Rattle.law_typing.specs.Graph as starts
use Rattle.law_typing.specs.Graph.Channels.{Channel, is_channel, is_paired, is_readable_one, of_class, present, property, readable_from, signal, spec_at, spec_if}
use Rattle.law_typing.specs.Graph.Ranks.{is_raised, started}
use Rattle.law_typing.specs.Laws.{IsIn}
use Rattle.law_typing.specs.Rules.RegisterKinds.{Kinds, class_at, covers, kind_in, places}
use Rattle.law_typing.specs.Rules.Typing.{after}
use Rattle.law_typing.specs.Verdict.Accepted.{Each}
use Rattle.verify_sketches.specs.Pointwise.{Pointwise}
use Rattle.verify_sketches.specs.Sketches.{AreNamed, IsSketchedBlock, IsSketchedStart, IsStartOf, Names, Sketch, SketchedBlock, SketchedStart, channels_in}
use Rattle.verify_sketches.specs.Sketches as sketched
use Rattle.law_idle.specs.Idle.{busy_graph, is_busy}
use Rattle.verify_graph.specs.Numbers.{number_of, numbers_of}
use Rattle.verify_graph.specs.Paired.{HaveNumbers, if_paired, other_number, slots_at}
use Rattle.verify_graph.specs.Paired as numbered
use Rattle.verify_graph.proofs.Positions.{found_is}
use Rattle.verify_graph.proofs.Prefixes.{listed_read, same_listed}
use Rattle.verify_starts.specs.Covering.{covering}
use Rattle.verify_starts.specs.SketchedCode.{AreNumbersOf, ArePrograms, IsBlock, sketched_code}
use Rattle.verify_starts.specs.Tables.{AreOfSome}
use Rattle.verify_starts.specs.Triggers.{Trigger, start_for, trigger_of}
use Rattle.verify_starts.specs.Triggers as triggers
use Rattle.verify_channels.proofs.Covered.{covering_places}
use Rattle.verify_starts.proofs.Pointwise.{pointwise_both}
use Rattle.verify_channels.proofs.GraphChannels.{has_number, making_there, named_present, named_raised, named_there, no_channel}
use Rattle.verify_channels.proofs.PairEnds.{paired_is}

-- ** kinds

-- the places are those of the definition
kept_below : (test : ℕ → Bool) (n : ℕ) (f : ℕ → ℕ) (count : ℕ) → ((i : ℕ) → i < count → f i < n) → Each (λ p. p < n) (filter test (listed f count))
kept_below test n f zero below = tt
kept_below test n f (suc count) below = by (test (f 0)) (kept_below test n (λ i. f (suc i)) count (λ i h. below (suc i) (omega (arith, h))))
  where
    by : (b : Bool) → Each (λ p. p < n) (filter test (listed (λ i. f (suc i)) count)) →
        Each (λ p. p < n) (cond b (f 0 ∷ filter test (listed (λ i. f (suc i)) count)) (filter test (listed (λ i. f (suc i)) count)))
    by true later = (below 0 (omega arith), later)
    by false later = later

places_below : (d : Definition) (k : RegisterKind) → Each (λ p. p < length d.places) (places d k)
places_below d k = kept_below (covers d k) (length d.places) (λ p. p) (length d.places) (λ i h. h)

-- ** the paired properties of a place

-- what a list has at a place
listed_at : {A : Type 0} → (f : ℕ → A) (count n : ℕ) (x : A) → slice_get (listed f count) n ≡ Some x → f n ≡ x
listed_at f zero n x is = absurd (none-some x is)
listed_at f (suc count) zero x is = same_Some _ _ is
listed_at f (suc count) (suc n) x is = listed_at (λ i. f (suc i)) count n x is

module _ (d : Definition) (others : List (Option ℕ)) (there : HaveNumbers (channels_in (busy_graph d)) (pairs_of d.bindings))
    (right : (n : ℕ) (c : Channel) → slice_get (channels_in (busy_graph d)) n ≡ Some c → slice_get others n ≡ Some (other_number (channels_in (busy_graph d)) (pairs_of d.bindings) c)) where
  abbrev all : List Channel
  all = channels_in (busy_graph d)

  read_is : (xs : List (Option ℕ)) (n : ℕ) (o : Option ℕ) → slice_get xs n ≡ Some o → read None xs n ≡ o
  read_is [] n o is = absurd (none-some o is)
  read_is (x ∷ xs) zero o is = same_Some _ _ is
  read_is (x ∷ xs) (suc n) o is = read_is xs n o is

  -- one property
  one_paired : (place slot : ℕ) (b : Bool) → is_channel d (property place slot) ≡ b →
      AreNamed (busy_graph d) (if_paired others (number_of all (property place slot))) (filter (is_paired d) (cond b (property place slot ∷ []) []))
  one_paired place slot b is = by (number_of all (property place slot)) refl b is
    where
      test : (n : ℕ) → number_of all (property place slot) ≡ Some n → is_some (read None others n) ≡ is_paired d (property place slot)
      test n number =
          ap is_some (read_is others n (other_number all (pairs_of d.bindings) (property place slot)) (right n (property place slot) (found_is all (property place slot) n number)))
          ∙ sym (paired_is d all (property place slot) there)

      kept : (n : ℕ) → number_of all (property place slot) ≡ Some n → (p q : Bool) → p ≡ q → AreNamed (busy_graph d) (cond p (n ∷ []) []) (cond q (property place slot ∷ []) [])
      kept n number true true e = (found_is all (property place slot) n number, tt)
      kept n number false false e = tt
      kept n number true false e = absurd (cc)
      kept n number false true e = absurd (cc)

      by : (o : Option ℕ) → number_of all (property place slot) ≡ o → (b : Bool) → is_channel d (property place slot) ≡ b →
          AreNamed (busy_graph d) (if_paired others o) (filter (is_paired d) (cond b (property place slot ∷ []) []))
      by None number true is = absurd (let h = has_number d (property place slot) refl is in let e = ap is_some number in cc)
      by None number false is = tt
      by (Some n) number true is = kept n number (is_some (read None others n)) (is_paired d (property place slot)) (test n number)
      by (Some n) number false is = absurd (no_channel d (property place slot) n (found_is all (property place slot) n number) is)

  named_both : (xs us : List ℕ) (ys vs : List Channel) → AreNamed (busy_graph d) xs ys → AreNamed (busy_graph d) us vs → AreNamed (busy_graph d) (xs ++ us) (ys ++ vs)
  named_both xs us ys vs one two = pointwise_both (Names (busy_graph d)) xs us ys vs one two

  -- one property in front of others
  one_more : (place n : ℕ) (s : Spec) (specs : List Spec) → ((i : ℕ) → spec_at d place (n + i) ≡ slice_get (s ∷ specs) i) →
      AreNamed (busy_graph d) (flat_map (λ slot. if_paired others (number_of all (property place slot))) (listed (λ i. suc n + i) (length specs)))
      (filter (is_paired d) (readable_from place (suc n) specs)) →
      AreNamed (busy_graph d) (flat_map (λ slot. if_paired others (number_of all (property place slot))) (listed (λ i. n + i) (suc (length specs))))
      (filter (is_paired d) (readable_from place n (s ∷ specs)))
  one_more place n s specs at rest =
      subst (AreNamed (busy_graph d) (flat_map (λ slot. if_paired others (number_of all (property place slot))) (listed (λ i. n + i) (suc (length specs)))))
      (sym (filter-append (is_paired d) (cond (is_readable s) (property place n ∷ []) []) (readable_from place (suc n) specs)))
      (named_both (if_paired others (number_of all (property place (n + 0))))
      (flat_map (λ slot. if_paired others (number_of all (property place slot))) (listed (λ i. n + suc i) (length specs)))
      (filter (is_paired d) (cond (is_readable s) (property place n ∷ []) [])) (filter (is_paired d) (readable_from place (suc n) specs)) here later)
    where
      zero_more : n + 0 ≡ n
      zero_more = omega arith

      spec_is : spec_at d place n ≡ Some s
      spec_is = ap (spec_at d place) (sym zero_more) ∙ at 0

      here : AreNamed (busy_graph d) (if_paired others (number_of all (property place (n + 0)))) (filter (is_paired d) (cond (is_readable s) (property place n ∷ []) []))
      here =
          subst (λ m. AreNamed (busy_graph d) (if_paired others (number_of all (property place m))) (filter (is_paired d) (cond (is_readable s) (property place n ∷ []) []))) (sym zero_more)
          (one_paired place n (is_readable s) (ap is_readable_one spec_is))

      later : AreNamed (busy_graph d) (flat_map (λ slot. if_paired others (number_of all (property place slot))) (listed (λ i. n + suc i) (length specs)))
          (filter (is_paired d) (readable_from place (suc n) specs))
      later =
          subst (λ ns. AreNamed (busy_graph d) (flat_map (λ slot. if_paired others (number_of all (property place slot))) ns) (filter (is_paired d) (readable_from place (suc n) specs)))
          (same_listed (length specs) (λ i. suc n + i) (λ i. n + suc i) (λ i. omega arith)) rest

  all_paired : (place n : ℕ) (specs : List Spec) → ((i : ℕ) → spec_at d place (n + i) ≡ slice_get specs i) →
      AreNamed (busy_graph d) (flat_map (λ slot. if_paired others (number_of all (property place slot))) (listed (λ i. n + i) (length specs))) (filter (is_paired d) (readable_from place n specs))
  all_paired place n [] at = tt
  all_paired place n (s ∷ specs) at =
      one_more place n s specs at (all_paired place (suc n) specs (λ i. (let e : suc n + i ≡ n + suc i = omega arith in ap (spec_at d place) e ∙ at (suc i))))

  pub paired_named : (place : ℕ) → AreNamed (busy_graph d) (numbered.paired_at d all others place) (paired_at d place)
  paired_named place = by (class_at d place) refl
    where
      by : (o : Option ℕ) → class_at d place ≡ o →
          AreNamed (busy_graph d) (flat_map (λ slot. if_paired others (number_of all (property place slot))) (listed (λ slot. slot) (length (of_class (specs_of d) o))))
          (filter (is_paired d) (readable_from place 0 (of_class (specs_of d) o)))
      by None is = tt
      by (Some class) is =
          subst (λ ns. AreNamed (busy_graph d) (flat_map (λ slot. if_paired others (number_of all (property place slot))) ns) (filter (is_paired d) (readable_from place 0 (specs_of d class))))
          (same_listed (length (specs_of d class)) (λ i. 0 + i) (λ i. i) (λ i. omega arith))
          (all_paired place 0 (specs_of d class) (λ i. (let z : 0 + i ≡ i = omega arith in ap (spec_at d place) z ∙ ap (spec_if d i) is)))

  -- ** starts

  module _ (paired : List (List ℕ)) (paired_is_listed : paired ≡ listed (numbered.paired_at d all others) (length d.places)) where
    thawed : (ps : List ℕ) → Each (λ p. p < length d.places) ps → Pointwise (AreNamed (busy_graph d)) (map (read [] paired) ps) (map (paired_at d) ps)
    thawed [] below = tt
    thawed (p ∷ ps) below = (
      subst (λ ns. AreNamed (busy_graph d) ns (paired_at d p))
          (sym (ap (λ xs. read [] xs p) paired_is_listed ∙ listed_read [] (numbered.paired_at d all others) (length d.places) p below.0)) (paired_named p),
      thawed ps below.1,
    )

    over_named : (number_in : ℕ → Option ℕ) (channel : ℕ → ℕ → Channel) (k : RegisterKind) → ((c : Channel) → IsIn c (over d number_in channel (places d k)) → is_busy d c ≡ true) →
        AreNamed (busy_graph d) (numbers_of all (filter_map (channel_over d number_in channel) (places d (covering k)))) (over d number_in channel (places d k))
    over_named number_in channel k busy =
        subst (λ ps. AreNamed (busy_graph d) (numbers_of all (filter_map (channel_over d number_in channel) ps)) (over d number_in channel (places d k))) (sym (covering_places d k))
        (named_present d (filter_map (channel_over d number_in channel) (places d k)) busy)

    thaws_named : (k : RegisterKind) → Pointwise (AreNamed (busy_graph d)) (map (read [] paired) (places d (covering k))) (map (paired_at d) (places d k))
    thaws_named k =
        subst (λ ps. Pointwise (AreNamed (busy_graph d)) (map (read [] paired) ps) (map (paired_at d) (places d k))) (sym (covering_places d k))
        (thawed (places d k) (places_below d k))

    pub start_right : (ks : Kinds) (i : Instruction) → ((c : Channel) → IsIn c (started (start_of d ks i)) → is_busy d c ≡ true) →
        IsSketchedStart (busy_graph d) paired (start_for d all (trigger_of d ks i)) (start_of d ks i)
    start_right ks (words.set object name from) busy = over_named (λ class. slot_of d class name) property (kind_in ks object) busy
    start_right ks (words.notify object name) busy = over_named (λ class. slot_of d class name) property (kind_in ks object) busy
    start_right ks (words.emit into object name detail args) busy = over_named (λ class. signal_number d class name) signal (kind_in ks object) busy
    start_right ks (words.new to id) busy = named_there d (making_of d (place_of d id)) (making_there d (place_of d id)) busy
    start_right ks (words.thaw object) busy = thaws_named (kind_in ks object)
    start_right ks _ busy = tt

    -- some channels, of which those that have numbers are raised
    raised : (cs : List Channel) → (start : Start) × IsSketchedStart (busy_graph d) paired (sketched.raises (numbers_of all cs)) start
    raised cs = (starts.raises (filter (is_raised (busy_graph d)) cs), named_raised (busy_graph d) cs)

    -- what any trigger may start
    of_trigger : (t : Trigger) → (start : Start) × IsSketchedStart (busy_graph d) paired (start_for d all t) start
    of_trigger triggers.idle = (starts.nothing, tt)
    of_trigger (triggers.on_property k name) = raised (filter_map (channel_over d (λ class. slot_of d class name) property) (places d k))
    of_trigger (triggers.on_signal k name) = raised (filter_map (channel_over d (λ class. signal_number d class name) signal) (places d k))
    of_trigger (triggers.making place) = (starts.makes (filter (is_raised (busy_graph d)) (making_of d place)), named_raised (busy_graph d) (making_of d place))
    of_trigger (triggers.thawing k) = (starts.thaws (map (paired_at d) (places d k)), thawed (places d k) (places_below d k))

    -- each start that is kept
    pub starts_named : (xs : List SketchedStart) → AreOfSome d all xs → (number : ℕ) (k : SketchedStart) → slice_get xs number ≡ Some k →
        (start : Start) × IsSketchedStart (busy_graph d) paired k start
    starts_named xs each number k at =
        let some = each number k at in
        subst (λ (x : SketchedStart). (start : Start) × IsSketchedStart (busy_graph d) paired x start) (sym some.1) (of_trigger some.0)

    -- and the paired properties of each place
    pub places_named : (place : ℕ) (numbers : List ℕ) → slice_get paired place ≡ Some numbers → (cs : List Channel) × AreNamed (busy_graph d) numbers cs
    places_named place numbers at =
        let is = listed_at (numbered.paired_at d all others) (length d.places) place numbers (sym (ap (λ xs. slice_get xs place) paired_is_listed) ∙ at) in
        (paired_at d place, subst (λ ns. AreNamed (busy_graph d) ns (paired_at d place)) is (paired_named place))

    -- ** programs

    module _ (s : Sketch) (paired_of : s.paired ≡ paired) where
      start_named : (n : ℕ) (x : SketchedStart) (y : Start) → slice_get s.starts n ≡ Some x → IsSketchedStart (busy_graph d) paired x y → IsStartOf (busy_graph d) s n y
      start_named n x y at is =
          subst (λ ps. IsSketchedStart (busy_graph d) ps (read sketched.nothing s.starts n) y) (sym paired_of)
          (subst (λ z. IsSketchedStart (busy_graph d) paired z y) (sym (start_read s.starts n x at)) is)
        where
          start_read : (xs : List SketchedStart) (n : ℕ) (x : SketchedStart) → slice_get xs n ≡ Some x → read sketched.nothing xs n ≡ x
          start_read [] n x is = absurd (none-some x is)
          start_read (y ∷ ys) zero x is = same_Some _ _ is
          start_read (y ∷ ys) (suc n) x is = start_read ys n x is

      code_right : (p : Program) (ks : Kinds) (code : List Instruction) (numbers : List ℕ) →
          ((i : Start) → IsIn i (starts_of d p ks code) → (c : Channel) → IsIn c (started i) → is_busy d c ≡ true) → AreNumbersOf s.starts numbers (sketched_code d all p ks code) →
          Pointwise (IsStartOf (busy_graph d) s) numbers (starts_of d p ks code)
      code_right p ks [] [] busy are = tt
      code_right p ks [] (n ∷ ns) busy are = absurd are
      code_right p ks (i ∷ code) [] busy are = absurd are
      code_right p ks (i ∷ code) (n ∷ ns) busy are = (
        start_named n (start_for d all (trigger_of d ks i)) (start_of d ks i) are.0 (start_right ks i (busy (start_of d ks i) (inl refl))),
        code_right p (after d p ks i) code ns (λ j h. busy j (inr h)) are.1,
      )

      block_right : (p : Program) (b : SketchedBlock) (block : Block) →
          ((i : Start) → IsIn i (starts_of d p block.entry block.code) → (c : Channel) → IsIn c (started i) → is_busy d c ≡ true) → IsBlock d all s.starts p b block →
          IsSketchedBlock (busy_graph d) s b (stretch_of d p block)
      block_right p b block busy is = record {
        starts = code_right p block.entry block.code b.starts busy is.starts_are;
        passes = is.passes;
        next = is.next;
      }

      blocks_right : (p : Program) (bs : List SketchedBlock) (blocks : List Block) →
          ((x : Stretch) → IsIn x (map (stretch_of d p) blocks) → (i : Start) → IsIn i x.starts → (c : Channel) → IsIn c (started i) → is_busy d c ≡ true) →
          Pointwise (IsBlock d all s.starts p) bs blocks → Pointwise (IsSketchedBlock (busy_graph d) s) bs (map (stretch_of d p) blocks)
      blocks_right p [] [] busy are = tt
      blocks_right p [] (b ∷ blocks) busy are = absurd are
      blocks_right p (b ∷ bs) [] busy are = absurd are
      blocks_right p (b ∷ bs) (block ∷ blocks) busy are = (
        block_right p b block (busy (stretch_of d p block) (inl refl)) are.0,
        blocks_right p bs blocks (λ x h. busy x (inr h)) are.1,
      )

      pub programs_right : (sketches : List (List SketchedBlock)) (programs : List Program) →
          ((q : List Stretch) → IsIn q (map (stretches_of d) programs) → (x : Stretch) → IsIn x q → (i : Start) → IsIn i x.starts → (c : Channel) → IsIn c (started i) → is_busy d c ≡ true) →
          ArePrograms d all s.starts sketches programs → Pointwise (Pointwise (IsSketchedBlock (busy_graph d) s)) sketches (map (stretches_of d) programs)
      programs_right [] [] busy are = tt
      programs_right [] (p ∷ programs) busy are = absurd are
      programs_right (bs ∷ sketches) [] busy are = absurd are
      programs_right (bs ∷ sketches) (p ∷ programs) busy are = (
        blocks_right p bs p.blocks (busy (stretches_of d p) (inl refl)) are.0,
        programs_right sketches programs (λ q h. busy q (inr h)) are.1,
      )
