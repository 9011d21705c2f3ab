-- What falls still falls where an emission takes its next turn.
use Rattle.std.proofs.Common.{◌≡◌, refl, sym, ap, ◌∙◌, ℕ, ◌+◌, ◌<◌, ◌≤◌, Bool, true, false, cond, List, [], ◌∷◌, ◌++◌, Option, None, Some, Ok, slice_get, arith}
use native.Mathlib.Omega.{arith}
use Rattle.std.specs.List.{filter}
use Rattle.std.specs.Prelude.{IfOk, max, nat_eq, nat_lt, not, ◌&&◌, ◌||◌}
use Rattle.std.proofs.lemmas.Bool.{eqb-true, false≢true}
use Rattle.ui_machine.specs.declared.arm.Arm.TheVariants as arms
use Rattle.ui_machine.specs.Definition.{Definition}
use Rattle.ui_machine.specs.Definition.Lookups.{program_at}
use Rattle.ui_machine.specs.Definition.Places.{Bind}
use Rattle.ui_machine.specs.Definition.Programs.{Program}
use Rattle.ui_machine.specs.Definition.Values.{Value}
use Rattle.ui_machine.specs.Outcome.{known}
use Rattle.ui_machine.specs.Output.Lines as lines
use Rattle.ui_machine.specs.Rules.Accumulation.{given_to, instance_of, running_handler, taking_entry}
use Rattle.ui_machine.specs.Rules.Programs.{all_fit, beginning_program, first_frame, fits_register, program_before}
use Rattle.ui_machine.specs.State.Config.{World, Started, said, starts}
use Rattle.ui_machine.specs.State.Handlers.{Handler, handler_of}
use Rattle.ui_machine.specs.State.Tasks.{Emission, Emitting, PlanEntry, Running, Task, class_handler, handler}
use Rattle.machine_laws.proofs.KeptProofs.{bind_keeps, cond_keeps, kept_at, only_keeps}
use Rattle.law_typing.specs.Good.Freezes.{frozen_by}
use Rattle.law_typing.specs.Good.Programs.{code_left, code_of, code_of_block}
use Rattle.law_typing.specs.Good.Standing.{Standing, standing}
use Rattle.law_typing.specs.Graph.{graph}
use Rattle.law_typing.specs.Graph.Channels.{Channel, is_channel, is_pair, same_channel, source_of, target_of}
use Rattle.law_typing.specs.Graph.Depths.{depth, depth_within_if}
use Rattle.law_typing.specs.Graph.Tables.{Tables, entry, of_program}
use Rattle.law_typing.specs.Laws.StepsKeepGood.{IsGood}
use Rattle.law_typing.specs.Laws.WellRead.{WellRead}
use Rattle.law_typing.specs.Rules.BindingRules.{word_of}
use Rattle.law_typing.specs.Rules.Brackets.{is_bracketed, is_empty, opened}
use Rattle.law_typing.specs.Verdict.Accepted.{Accepted, Each}
use Rattle.law_typing.proofs.Lists.{both_parts, each_in, filter_in, greatest_in, map_in, same_channel_refl}
use Rattle.law_typing.proofs.OneSolutionProofs.{find_in}
use Rattle.law_typing.proofs.PairProofs.{no_words, pair_read}
use Rattle.law_static.specs.Raises.{raised_there}
use Rattle.law_static.proofs.RaisesProofs.{channels_known}
use Rattle.law_static.proofs.SiteProofs.{blocks_keep}
use Rattle.law_static.proofs.SubclassProofs.{get_in}
use Rattle.law_steps.proofs.Tasked.Over.{other_end_is}
use Rattle.law_steps.proofs.Tasked.Pairs as pairs
use Rattle.law_frames.specs.Frames.{Falls, FallsAt, TaskFalls, TurnFalls, Under, channel_at, channel_of, from_end, height, height_if, is_over, to_end, within}
use Rattle.law_frames.proofs.Going.{GoesOn}
use Rattle.law_frames.proofs.Leading.{framed}
use Rattle.law_frames.proofs.Staying.{SameAt, falls_stay, good_from, low_at, low_turns, same_place}
use Rattle.law_frames.proofs.Tasks.{LeadsStarted, Nothing}

-- ** a program at its first instruction holds nothing frozen

empty_is : (xs : List ℕ) → is_empty xs ≡ true → xs ≡ []
empty_is [] e = refl
empty_is (x ∷ xs) e = absurd (cc)

pub first_free : (d : Definition) → WellRead d → Accepted d → (number : ℕ) (p : Program) (args : List Value) → program_at d number ≡ Some p → (id : ℕ) →
    frozen_by d id (Running (first_frame number p args)) ≡ 0
first_free d well a number p args is id =
    let block = (well.programs number p is).some in
    let kept = blocks_keep d a number 0 p block.0 (record { is = is; has = block.1 }) in
    let code : code_of 0 (program_at d number) ≡ block.0.code = ap (code_of 0) is ∙ ap code_of_block block.1 in
    let empty : opened (code_left d (first_frame number p args)) ≡ [] =
    ap opened code ∙ empty_is (opened block.0.code) (both_parts (is_bracketed block.0.code) (is_empty (opened block.0.code)) kept.balanced).1 in
    rw empty refl

-- ** another emission of the same

-- at the same channel
pub same_emission : (d : Definition) (s : Standing) (e x : Emission) → x.object ≡ e.object → x.signal ≡ e.signal → x.detail ≡ e.detail → channel_of d s x ≡ channel_of d s e
same_emission d s e x object sig detail = rw (object, sig, detail) refl

-- ** turns

module _ (d : Definition) (depths : Tables) where
  pub low_entry : (below : List Task) (c : Channel) → within d depths c < entry depths.channels c → 1 + within d depths c ≤ height d depths below c
  low_entry below c more = by (is_over d below c)
    where
      by : (b : Bool) → 1 + within d depths c ≤ cond b (1 + within d depths c) (entry depths.channels c)
      by true = omega arith
      by false = omega (arith, more)

  -- an emission of the same, with some of the turns, falls
  pub emitting_again : (s : Standing) (hs : List Handler) (below : List Task) (e x : Emission) (turns left : List PlanEntry) → x.object ≡ e.object → x.signal ≡ e.signal → x.detail ≡ e.detail →
      ((c : Channel) → Each (TurnFalls d depths hs c) turns → Each (TurnFalls d depths hs c) left) →
      TaskFalls d depths s hs below (Emitting e turns) → TaskFalls d depths s hs below (Emitting x left)
  emitting_again s hs below e x turns left object sig detail some falls =
      let same = same_emission d s e x object sig detail in (
        record {
          channel = falls.0.channel;
          is = same ∙ falls.0.is;
          there = falls.0.there;
          more = falls.0.more;
          under = falls.0.under;
          turns_fall = some falls.0.channel falls.0.turns_fall;
        },
        λ c is. falls.1 c (sym same ∙ is),
      )

-- ** the bindings of an accepted definition

module _ (d : Definition) (a : Accepted d) where
  abbrev depths : Tables
  depths = a.weighed.depths

  pub word_none : (number : ℕ) (b : Bind) → slice_get d.bindings number ≡ Some b → word_of d b ≡ None
  word_none number b is = each_in (λ b. word_of d b ≡ None) d.bindings (no_words d 0 d.bindings a.bindings) b (get_in d.bindings number b is)

  -- both ends of a pair need the same
  pub pair_height : (number : ℕ) (b : Bind) → slice_get d.bindings number ≡ Some b → (pair : is_pair b ≡ true) →
      (entry depths.channels (source_of b) ≡ 2 + max (within d depths (source_of b)) (within d depths (target_of b)))
      × (entry depths.channels (target_of b) ≡ 2 + max (within d depths (target_of b)) (within d depths (source_of b)))
  pair_height number b is pair =
      let read = pair_read d b pair (word_none number b is) in
      let p : pairs.PairIs d number b = record { is = is; pair = pair } in
      let ks = channels_known d a (source_of b) read.source in
      let kt = channels_known d a (target_of b) read.target in
      let os = other_end_is d a (source_of b) number b p (pairs.source_end b) ∙ ap (λ x. Some (cond x (target_of b) (source_of b))) (same_channel_refl (source_of b)) in
      let ot = other_end_is d a (target_of b) number b p (pairs.target_end b) ∙ ap (λ x. Some (cond x (target_of b) (source_of b))) read.two in (
        ks.deep ∙ rw (os, ks.found) refl,
        kt.deep ∙ rw (ot, kt.found) refl,
      )

  -- the ends of a binding are two
  pub ends_differ : (number : ℕ) (b : Bind) → slice_get d.bindings number ≡ Some b → same_channel (source_of b) (target_of b) ≡ false
  ends_differ number b is = by (same_channel (source_of b) (target_of b)) refl (word_none number b is)
    where
      by : (x : Bool) → same_channel (source_of b) (target_of b) ≡ x → word_of d b ≡ None → same_channel (source_of b) (target_of b) ≡ false
      by false e none = e
      by true e none = absurd (let f = rw e at none in cc f)

  pub from_is_not_to : (number : ℕ) (b : Bind) (back : Bool) → slice_get d.bindings number ≡ Some b → from_end back b ≡ to_end back b → ⊥
  from_is_not_to number b false is same = false≢true (sym (ends_differ number b is) ∙ (ap (same_channel (source_of b)) (sym same) ∙ same_channel_refl (source_of b)))
  from_is_not_to number b true is same = false≢true (sym (ends_differ number b is) ∙ (ap (same_channel (source_of b)) same ∙ same_channel_refl (source_of b)))

  -- a target is within what runs at its source, one way
  pub target_within : (number : ℕ) (b : Bind) → slice_get d.bindings number ≡ Some b → is_pair b ≡ false → is_channel d (source_of b) ≡ true →
      entry depths.channels (target_of b) ≤ within d depths (source_of b)
  target_within number b is one there =
      let known = channels_known d a (source_of b) there in
      let passes : (not (is_pair b) && same_channel (source_of b) (source_of b)) ≡ true = rw (one, same_channel_refl (source_of b)) refl in
      let among = map_in target_of (filter (λ (x : Bind). not (is_pair x) && same_channel (source_of x) (source_of b)) d.bindings) b
      (filter_in (λ (x : Bind). not (is_pair x) && same_channel (source_of x) (source_of b)) d.bindings b passes (get_in d.bindings number b is)) in
      let low = greatest_in (entry depths.channels) (raised_there d (source_of b)).targets (target_of b) among in
      let here = ap (depth_within_if depths) known.found in
      omega (arith, low, here)

pub known_is : {A E : Type 0} (e : E) (o : Option A) (x : A) → known e o ≡ Ok x → o ≡ Some x
known_is e None x h = absurd (cc h)
known_is e (Some y) x h = let same : y ≡ x = cc h in ap (λ z. Some z) same

-- ** the turns of an emission

module _ (d : Definition) (well : WellRead d) (a : Accepted d) (most_counted : ℕ) (w : World) (e : Emission) (turn : PlanEntry) (turns : List PlanEntry) (rest : List Task) (n : ℕ)
    (g : IsGood d a most_counted (record { world = w; agenda = Emitting e (turn ∷ turns) ∷ rest; counted = n }))
    (f : FallsAt d a.weighed.depths (record { world = w; agenda = Emitting e (turn ∷ turns) ∷ rest; counted = n })) where
  abbrev pub table : Tables
  table = a.weighed.depths

  abbrev pub c : Channel
  c = f.agenda.0.0.channel

  abbrev pub Led : Started → Type 0
  Led = LeadsStarted d a most_counted w (Emitting e (turn ∷ turns)) rest n g f Nothing n

  -- in its stage or another
  module _ (cleanup : Bool) where
    abbrev pub x : Emission
    x = record e { cleanup = cleanup }

    module _ (v : World) (new : List Task) (k : ℕ) (good : IsGood d a most_counted (record { world = v; agenda = new ++ Emitting x turns ∷ rest; counted = k })) (goes : GoesOn Nothing w v)
        (same : SameAt (standing w.objects) (standing v.objects) rest) where
      object_same : standing v.objects e.object ≡ standing w.objects e.object
      object_same =
          let from = good_from d a.weighed.costs table (depth (graph d) table) v new (Emitting x turns ∷ rest) _ good.budget good.agenda in
          same_place w.objects v.objects goes.places e.object g.agenda.3.fits.place from.2.3.fits.place g.agenda.3.fits.is from.2.3.fits.is

      pub at_same : channel_of d (standing v.objects) x ≡ Some c
      at_same = ap (channel_at d x) object_same ∙ f.agenda.0.0.is

      pub own : Falls d table (standing v.objects) v.handlers rest → TaskFalls d table (standing v.objects) v.handlers rest (Emitting x turns)
      own falls =
          let tail = emitting_again d table (standing w.objects) w.handlers rest e e (turn ∷ turns) turns refl refl refl (λ c all. all.1) f.agenda.0 in
          let low = low_turns d a.weighed.costs table (depth (graph d) table) w e (turn ∷ turns) g.agenda.3.turns_fit in
          let stay = falls_stay d table (standing w.objects) (standing v.objects) w.last_handler w.handlers v.handlers goes.handlers (Emitting e turns ∷ rest) (object_same, same)
          (low.1, low_at d a.weighed.costs table (depth (graph d) table) w rest _ g.agenda.2 g.agenda.6) (tail, f.agenda.1) in
          emitting_again d table (standing v.objects) v.handlers rest e x turns turns refl refl refl (λ c all. all) stay.0

      pub under : (m : ℕ) → Under d table (standing w.objects) m (Emitting e (turn ∷ turns) ∷ rest) → Under d table (standing v.objects) m (Emitting x turns ∷ rest)
      under m u =
          let was = ap (height_if d table rest) f.agenda.0.0.is in
          let is = ap (height_if d table rest) at_same in
          omega (arith, u, was, is)

      -- what runs at the channel is under it
      pub within_under : (m : ℕ) → m ≤ within d table c → Under d table (standing v.objects) m (Emitting x turns ∷ rest)
      within_under m low =
          let is = ap (height_if d table rest) at_same in
          let room = low_entry d table rest c f.agenda.0.0.more in
          omega (arith, low, is, room)

    pub passes_over : Led (record { world = w; tasks = Emitting x turns ∷ [] })
    passes_over =
        framed d a most_counted w (Emitting e (turn ∷ turns)) rest n g f Nothing w [] (Emitting x turns) n
        (λ good goes same falls. own w [] n good goes same falls)
        (λ good goes same falls. falls)
        (λ good goes same m u. under w [] n good goes same m u)
        (λ id slot o is there. refl)
        (λ good goes falls id slot o is there none. absurd none)

    pub begins : (number : ℕ) (args : List Value) → of_program table number ≤ within d table c → IfOk (program_before d w number args (Emitting x turns ∷ [])) Led
    unfolding program_before beginning_program
    begins number args low =
        bind_keeps (beginning_program d w number args) _ _ (λ s is. kept_at (λ (s : Started). Led (record { world = s.world; tasks = s.tasks ++ Emitting x turns ∷ [] })) (beginning_program d w number args) s begun is)
      where
        led : (p : Program) → program_at d number ≡ Some p → (v : World) → Led (record { world = v; tasks = Running (first_frame number p args) ∷ Emitting x turns ∷ [] })
        led p at v =
            framed d a most_counted w (Emitting e (turn ∷ turns)) rest n g f Nothing v (Running (first_frame number p args) ∷ []) (Emitting x turns) n
            (λ good goes same falls. own v (Running (first_frame number p args) ∷ []) n good goes same falls)
            (λ good goes same falls. (within_under v (Running (first_frame number p args) ∷ []) n good goes same (of_program table number) low, falls))
            (λ good goes same m u. under v (Running (first_frame number p args) ∷ []) n good goes same m u)
            (λ id slot o is there. (let free = first_free d well a number p args at id in omega (arith, free)))
            (λ good goes falls id slot o is there none. absurd none)

        begun : IfOk (beginning_program d w number args) (λ s. Led (record { world = s.world; tasks = s.tasks ++ Emitting x turns ∷ [] }))
        begun = bind_keeps (known arms.Code (program_at d number)) _ _ (λ p at.
            only_keeps (all_fit (fits_register d w.objects) args p.params) arms.Parameters (starts (said d w (lines.run p.name)) (Running (first_frame number p args) ∷ [])) _
            (led p (known_is arms.Code (program_at d number) p at) (said d w (lines.run p.name))))

-- ** each turn

module _ (d : Definition) (well : WellRead d) (a : Accepted d) (most_counted : ℕ) (w : World) (e : Emission) (turns : List PlanEntry) (rest : List Task) (n : ℕ) where
  abbrev pub GoodAt : PlanEntry → Type 0
  GoodAt turn = IsGood d a most_counted (record { world = w; agenda = Emitting e (turn ∷ turns) ∷ rest; counted = n })

  abbrev pub FallsThere : PlanEntry → Type 0
  FallsThere turn = FallsAt d a.weighed.depths (record { world = w; agenda = Emitting e (turn ∷ turns) ∷ rest; counted = n })

  abbrev pub Takes : (turn : PlanEntry) → GoodAt turn → FallsThere turn → Type 0
  Takes turn g f = IfOk (taking_entry d w e turns turn) (LeadsStarted d a most_counted w (Emitting e (turn ∷ turns)) rest n g f Nothing n)

  pub takes_class : (program : ℕ) (cleanup : Bool) (g : GoodAt (class_handler program cleanup)) (f : FallsThere (class_handler program cleanup)) → Takes (class_handler program cleanup) g f
  takes_class program cleanup g f =
      begins d well a most_counted w e (class_handler program cleanup) turns rest n g f (e.cleanup || cleanup) program (instance_of e ∷ e.args) f.agenda.0.0.turns_fall.0

  pub takes_handler : (number : ℕ) (g : GoodAt (handler number)) (f : FallsThere (handler number)) → Takes (handler number) g f
  takes_handler number g f = by (handler_of number w.handlers) refl
    where
      over : LeadsStarted d a most_counted w (Emitting e (handler number ∷ turns)) rest n g f Nothing n (record { world = w; tasks = Emitting e turns ∷ [] })
      over = passes_over d well a most_counted w e (handler number) turns rest n g f e.cleanup

      by : (o : Option Handler) → handler_of number w.handlers ≡ o → IfOk (running_handler d w e turns o) (LeadsStarted d a most_counted w (Emitting e (handler number ∷ turns)) rest n g f Nothing n)
      by None is = over
      by (Some h) is =
          let there = find_in (λ (h : Handler). nat_eq h.number number) w.handlers h is in
          cond_keeps (nat_lt 0 h.blocks) _ _ _ over
          (begins d well a most_counted w e (handler number) turns rest n g f e.cleanup h.program (given_to e h) (f.agenda.0.0.turns_fall.0 h there.0 (eqb-true h.number number there.1)))
