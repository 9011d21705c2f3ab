-- No step says more lines than the list of lines says.
use Rattle.std.proofs.Common.{◌≡◌, refl, sym, ap, subst, ◌∙◌, ℕ, zero, suc, ◌+◌, ◌-◌, ◌≤◌, Bool, true, false, cond, not, List, [], ◌∷◌, length, Option, None, Some, Ok, Err, slice_get, arith}
use Rattle.std.specs.Prelude.{IfOk, nat_lt, option_and_then, option_map}
use Rattle.ui_machine.specs.declared.arm.Arm.{Arm}
use Rattle.ui_machine.specs.declared.arm.Arm.TheVariants as arms
use Rattle.ui_machine.specs.Seq.{total}
use Rattle.ui_machine.specs.Definition.{Definition}
use Rattle.ui_machine.specs.Definition.Lookups.{program_at}
use Rattle.ui_machine.specs.Definition.Places.{Place}
use Rattle.ui_machine.specs.Definition.Programs.{Block, Instruction, Program}
use Rattle.ui_machine.specs.Definition.Programs as words
use Rattle.ui_machine.specs.Definition.Signals.{Signal}
use Rattle.ui_machine.specs.Definition.Values.{Value}
use Rattle.ui_machine.specs.Instructions.{instruction_step, running}
use Rattle.ui_machine.specs.Instructions.Jumps.{block_in, in_pass, is_again, past}
use Rattle.ui_machine.specs.Instructions.Peers.{calling_on}
use Rattle.ui_machine.specs.Instructions.Registers.{operand_in}
use Rattle.ui_machine.specs.Outcome.{Answer, known, ◌>>=◌}
use Rattle.ui_machine.specs.Output.Lines as lines
use Rattle.ui_machine.specs.Output.Text.{text_of_line}
use Rattle.ui_machine.specs.Rules.Accumulation.{ending, result_of, resulting, taking_entry}
use Rattle.ui_machine.specs.Rules.Build.{building}
use Rattle.ui_machine.specs.Rules.Construction.{constructing, nearest_shape}
use Rattle.ui_machine.specs.Rules.Disposal.{disposed, finalised, is_first, peer_of}
use Rattle.ui_machine.specs.Rules.EmissionPlan.{beginning_emission, notifying, signal_at, signal_of}
use Rattle.ui_machine.specs.Rules.Events.{request_step}
use Rattle.ui_machine.specs.Rules.MainLoop.{sourcing}
use Rattle.ui_machine.specs.Rules.NotifyQueue.{thawing}
use Rattle.ui_machine.specs.Rules.Sets.{setting}
use Rattle.ui_machine.specs.Rules.Transfers.{transferring}
use Rattle.ui_machine.specs.State.Bindings.{binding_of}
use Rattle.ui_machine.specs.Runs.{Fits, Steps}
use Rattle.ui_machine.specs.State.Config.{Config, Left, Started, World, said, starts, with_objects}
use Rattle.ui_machine.specs.State.Objects.{Object, class_in, living, object_at, put}
use Rattle.ui_machine.specs.State.Peers.{Peer, Reply}
use Rattle.ui_machine.specs.State.References.{mentions, next_unheld}
use Rattle.ui_machine.specs.State.Sources.{Source, source_of}
use Rattle.ui_machine.specs.State.Tasks.{Answering, Beginning, Building, Calling, Constructing, ConstructStep, Due, Emission, Emitting, Frame, Handling, Notifying, Running, Setting, Task, Thawing, Transferring, Unsetting, runs, sets, thaws}
use Rattle.ui_machine.specs.Steps.{act, before, counted, finalising, first_of, left, most_steps, sink_first_floating, step, uncounted}
use Rattle.machine_laws.proofs.KeptProofs.{kept_at, only_keeps}
use Rattle.law_typing.specs.Good.Objects.{ObjectsGood, PeerGood}
use Rattle.law_typing.specs.Good.Standing.{standing}
use Rattle.law_typing.specs.Graph.Tables.{Tables}
use Rattle.law_typing.specs.Laws.StepsKeepGood.{IsGood}
use Rattle.law_typing.specs.Laws.WellRead.{WellRead}
use Rattle.law_typing.specs.Rules.RegisterKinds.{class_at}
use Rattle.law_typing.specs.Verdict.Accepted.{Accepted, Each}
use Rattle.law_steps.specs.Tasked.First.{at_first}
use Rattle.law_steps.proofs.Instructed.Inverse.{bound, known_is, only}
use Rattle.law_steps.specs.Served.Sessions.{beginning_of}
use Rattle.law_steps.proofs.Served.DispatchProofs.{one_step}
use Rattle.law_steps.proofs.Tasked.EndingProofs.{emits}
use Rattle.law_steps.proofs.Tasked.StepsProofs.{steps_keep_good}
use Rattle.law_prices.specs.Dispatches.{LinesAreFew, steps_price}
use Rattle.law_prices.proofs.DispatchPays.{begins_at, dispatches_pay, first_fits}
use Rattle.law_prices.specs.Asked as asked
use Rattle.law_prices.specs.Deeds as deeds
use Rattle.law_prices.specs.Lists.{has_peer, has_result, instruction_at, lines_of, one_where}
use Rattle.law_prices.specs.Lists as lists
use Rattle.law_prices.specs.Prices.{shape_number}
use Rattle.law_prices.specs.Steps.{agenda_deeds, construct_deeds, dispose_deeds, done_by, end_deeds, final_deeds, first_deeds, first_dispose, instruction_deeds, more_deeds, running_deeds, step_price, task_deeds, turn_deeds}
use Rattle.law_prices.proofs.CountProofs.{class_found}
use Rattle.law_prices.proofs.Pays.{ok_is}
use Rattle.law_prices.proofs.SaidProofs.{Extra, Says, disposed_kept, instructed_kept, one_longer, still}
use Rattle.law_prices.proofs.SaidTasks.{SaysOf, begins_emission, builds, calls, carries_by, carries_request, constructs, ends_emission, notifies_one, runs_source, sets_one, takes, thaws_rest}
use Rattle.law_prices.proofs.SendPays.{some_same}
use Rattle.law_prices.proofs.StepFalls.{unheld_lives}
use Rattle.law_prices.proofs.TaskFalls.{counted_is, done_is, left_is}

module _ (d : Definition) where
  -- ** disposes

  -- what is said of a dispose: that it is the first, and the close of its peer
  module _ (w : World) (few : ℕ) (objects : ObjectsGood d w) where
    first_says : (o : Object) → o.disposed ≡ false → total (lists.lines d) (first_dispose o) ≡ 1 + has_peer d o.place
    first_says o e = ap (λ b. total (lists.lines d) (cond b [] (deeds.dispose o.place ∷ []))) e ∙ omega arith

    -- an object with a peer that is open is not disposed, and objects of its place have one
    open_peer : (id : ℕ) (o : Object) → living w.objects id ≡ Some o → (number : ℕ) (p : Peer) → o.peer ≡ Some number → slice_get w.peers number ≡ Some p → p.state.is_open ≡ true → (o.disposed ≡ false) × (has_peer d o.place ≡ 1)
    open_peer id o lives number p has is open_is = go (nearest_shape d o.class) refl
      where
        good : PeerGood d w.peers id o
        good = (objects id o lives).peer

        class : class_at d o.place ≡ Some o.class
        class = let g = objects id o lives in ap (option_map (λ (p : Place). p.class)) g.is ∙ ap Some (sym g.class)

        go : (x : Option ℕ) → nearest_shape d o.class ≡ x → (o.disposed ≡ false) × (has_peer d o.place ≡ 1)
        go None e = absurd (let h = rw e at good in let k = sym h ∙ has in cc)
        go (Some shape) e =
            let h = rw e at good in
            let same : h.0 ≡ number = (let k = sym h.2 ∙ has in cc) in
            let peer : h.1 ≡ p = (let k = sym h.3 ∙ (ap (slice_get w.peers) same ∙ is) in cc) in
            let shut : p.state.is_open ≡ cond o.disposed false true = ap (λ (p : Peer). p.state.is_open) (sym peer) ∙ h.5 in (
              by o.disposed (sym shut ∙ open_is),
              ap (λ c. one_where (option_and_then (nearest_shape d) c)) class ∙ ap one_where e,
            )
          where
            by : (b : Bool) → cond b false true ≡ true → b ≡ false
            by true e = absurd (cc)
            by false e = refl

    dispose_says : (id : ℕ) → total (lists.lines d) (done_by first_dispose (living w.objects id)) ≤ few → IfOk (disposed d w id) (Says d w few)
    dispose_says id low = disposed_kept d w few id (go (living w.objects id) low) (λ number p has is open_is. both (living w.objects id) refl low number p has is open_is)
      where
        not_gone : (b : Bool) → not b ≡ true → b ≡ false
        not_gone true e = absurd (cc)
        not_gone false e = refl

        go : (x : Option Object) → total (lists.lines d) (done_by first_dispose x) ≤ few → is_first x ≡ true → 1 ≤ few
        go None low e = absurd (cc)
        go (Some o) low e = let f = first_says o (not_gone o.disposed e) in omega (arith, low, f)

        both : (x : Option Object) → living w.objects id ≡ x → total (lists.lines d) (done_by first_dispose x) ≤ few → (number : ℕ) (p : Peer) → peer_of x ≡ Some number → slice_get w.peers number ≡ Some p → p.state.is_open ≡ true → (is_first x ≡ true) × (2 ≤ few)
        both None lives low number p has is open_is = absurd (cc)
        both (Some o) lives low number p has is open_is =
            let k = open_peer id o lives number p has is open_is in
            let f = first_says o k.0 in
            let peer = k.1 in
            (ap not k.0, omega (arith, low, f, peer))

  -- ** steps

  not_counted : (w : World) (few : ℕ) (rest : List Task) (n : ℕ) (a : Answer Started) → IfOk a (λ s. Says d w few s.world) → IfOk (uncounted rest n a) (λ e. Says d w few e.world)
  not_counted w few rest n (Ok s) says = says
  not_counted w few rest n (Err arm) says = tt

  is_counted : (w : World) (few : ℕ) (rest : List Task) (n : ℕ) (a : Answer Started) → IfOk a (λ s. Says d w few s.world) → IfOk (counted rest n a) (λ e. Says d w few e.world)
  is_counted w few rest n a says = only_keeps (nat_lt n most_steps) arms.Steps (uncounted rest (suc n) a) _ (not_counted w few rest (suc n) a says)

  leaves_agenda : (w : World) (few : ℕ) (n : ℕ) (a : Answer Left) → IfOk a (λ l. Says d w few l.world) → IfOk (left n a) (λ e. Says d w few e.world)
  unfolding left
  leaves_agenda w few n (Ok l) says = says
  leaves_agenda w few n (Err arm) says = tt

  module _ (a : Accepted d) (most : ℕ) (t : Tables) (w : World) (rest : List Task) (n : ℕ) where
    -- an event is told a result where the signal has one
    result_told : (em : Emission) (place : ℕ) (sig : Signal) (class : ℕ) (o : Object) → living w.objects em.object ≡ Some o → signal_of d o.class em.signal ≡ Some sig → class_at d place ≡ Some class → signal_of d class em.signal ≡ Some sig →
        (v : Option Value) → resulting d w em ≡ Ok v → (x : Value) → v ≡ Some x → has_result d place em.signal ≡ 1
    unfolding resulting signal_at
    result_told em place sig class o lives has of_class there v e x is =
        let y = bound (object_at w.objects em.object) (λ (o : Object). signal_at d o.class em.signal >>= (λ (s : Signal). Ok (result_of d s.result em.value))) v e in
        let s = bound (signal_at d y.0.class em.signal) (λ (s : Signal). Ok (result_of d s.result em.value)) v y.2 in
        let same : y.0 ≡ o = some_same y.0 o (sym (known_is _ (living w.objects em.object) y.0 y.1) ∙ lives) in
        let found : s.0 ≡ sig = some_same s.0 sig (sym (known_is _ (signal_of d y.0.class em.signal) s.0 s.1) ∙ (ap (λ (o : Object). signal_of d o.class em.signal) same ∙ has)) in
        let some : result_of d sig.result em.value ≡ Some x = ap (λ (s : Signal). result_of d s.result em.value) (sym found) ∙ (ok_is {E = Arm} _ v s.2 ∙ is) in
        let whole : has_result d place em.signal ≡ one_where sig.result = rw (of_class, there) refl in
        whole ∙ go sig.result some
      where
        go : (r : _) → result_of d r em.value ≡ Some x → one_where r ≡ 1
        go None e = absurd (cc)
        go (Some kind) e = refl

    -- ** programs

    block_kept : (b : Block) (f : Frame) → ((in_pass b f).program ≡ f.program) × ((in_pass b f).block ≡ f.block)
    block_kept b f = go (is_again b f)
      where
        go : (again : Bool) → ((cond again (record f { at = 0; passes = f.passes - 1 }) f).program ≡ f.program) × ((cond again (record f { at = 0; passes = f.passes - 1 }) f).block ≡ f.block)
        go true = (refl, refl)
        go false = (refl, refl)

    -- what an operand past an instruction is, it was before it
    same_operand : (f : Frame) (object : ℕ) → operand_in w (past f) object ≡ operand_in w f object
    unfolding operand_in
    same_operand f object = refl

    extra : (few : ℕ) (objects : ObjectsGood d w) (f : Frame) (i : Instruction) → total (lists.lines d) (more_deeds d w f i) ≤ few → Extra d w few (past f) i
    extra few objects f (words.new to id) low = λ place is. (let one = ap (λ o. total (lists.lines d) (done_by (λ place. deeds.make place ∷ []) o)) is in omega (arith, low, one))
    extra few objects f (words.dispose object) low = λ id is alive.
        dispose_says w few objects id
        (let deed = ap (λ x. total (lists.lines d) (dispose_deeds w x)) (sym (same_operand f object) ∙ is) in omega (arith, low, deed))
    extra few objects f _ low = tt

    running_says : (objects : ObjectsGood d w) (f : Frame) (l : Left) → running d w rest f ≡ Ok l → Says d w (total (lists.lines d) (running_deeds d w f (block_in d f))) l.world
    unfolding running block_in
    running_says objects f l e =
        let b = bound (block_in d f) _ l e in
        let i = bound (known arms.Code (slice_get b.0.code (in_pass b.0 f).at)) _ l b.2 in
        let p = bound (known arms.Code (program_at d f.program)) (λ (p : Program). known arms.Code (slice_get p.blocks f.block)) b.0 b.1 in
        let program = known_is arms.Code (program_at d f.program) p.0 p.1 in
        let block = known_is arms.Code (slice_get p.0.blocks f.block) b.0 p.2 in
        let at = known_is arms.Code (slice_get b.0.code (in_pass b.0 f).at) i.0 i.1 in
        let kept = block_kept b.0 f in
        let there : instruction_at d (in_pass b.0 f).program (in_pass b.0 f).block (in_pass b.0 f).at ≡ Some i.0 =
        ap (λ q. instruction_at d q (in_pass b.0 f).block (in_pass b.0 f).at) kept.0
        ∙ (ap (λ k. instruction_at d f.program k (in_pass b.0 f).at) kept.1
        ∙ (ap (λ o. option_and_then (λ (x : Block). slice_get x.code (in_pass b.0 f).at) (option_and_then (λ (p : Program). slice_get p.blocks f.block) o)) program
        ∙ (ap (option_and_then (λ (x : Block). slice_get x.code (in_pass b.0 f).at)) block ∙ at))) in
        let own = ap lines_of there in
        let deeds_are = ap (λ x. total (lists.lines d) (running_deeds d w f x)) b.1 in
        let one = ap (λ o. total (lists.lines d) (instruction_deeds d w (in_pass b.0 f) o)) at in
        let few = total (lists.lines d) (running_deeds d w f (block_in d f)) in
        kept_at (λ (l : Left). Says d w few l.world) (instruction_step d w rest (past (in_pass b.0 f)) i.0) l
        (instructed_kept d w few rest (past (in_pass b.0 f)) i.0 (omega (arith, own, deeds_are, one)) (extra few objects (in_pass b.0 f) i.0 (omega (arith, deeds_are, one)))) i.2

    -- ** tasks

    abbrev Acts : Option Reply → Task → Type 0
    Acts reply task = (e : Config) → act d w reply (task ∷ rest) n ≡ Ok e → Says d w (total (lists.lines d) (task_deeds d w task)) e.world

    by_answer : (reply : Option Reply) (task : Task) → IfOk (act d w reply (task ∷ rest) n) (λ e. Says d w (total (lists.lines d) (task_deeds d w task)) e.world) → Acts reply task
    by_answer reply task says e is = kept_at (λ (e : Config). Says d w (total (lists.lines d) (task_deeds d w task)) e.world) (act d w reply (task ∷ rest) n) e says is

    abbrev task_lines : Task → ℕ
    task_lines task = total (lists.lines d) (task_deeds d w task)

    constructs_says : (place id : ℕ) (steps : List ConstructStep) (held : Bool) (good : standing w.objects id ≡ Some place) → SaysOf d w (task_lines (Constructing id steps held)) steps
    constructs_says place id [] held good = tt
    constructs_says place id (sets slot v ∷ steps) held good = tt
    constructs_says place id (runs program ∷ steps) held good = let is = done_is d (lists.lines d) t (λ place. construct_deeds place (runs program)) (standing w.objects id) place good in omega (arith, is)
    constructs_says place id (thaws ∷ steps) held good = tt

    task_says : (reply : Option Reply) (task : Task) → IsGood d a most (at_first w task rest n) → Acts reply task
    task_says reply (Setting id slot v) g e h =
        let is = done_is d (lists.lines d) t (λ place. deeds.set place slot ∷ []) (standing w.objects id) g.agenda.3.1.due.place g.agenda.3.1.due.is in
        let few = task_lines (Setting id slot v) in
        by_answer reply (Setting id slot v) (not_counted w few rest n (setting d w id slot v) (sets_one d w few (omega (arith, is)) id slot v)) e h
    task_says reply (Notifying id slot) g e h =
        let is = done_is d (lists.lines d) t (λ place. deeds.notify place slot ∷ []) (standing w.objects id) g.agenda.3.1.due.place g.agenda.3.1.due.is in
        let few = task_lines (Notifying id slot) in
        by_answer reply (Notifying id slot) (is_counted w few rest n (notifying d w id slot) (notifies_one d w few (omega (arith, is)) id slot)) e h
    task_says reply (Beginning em) g e h =
        let is = done_is d (lists.lines d) t (λ place. deeds.emit place em.signal ∷ []) (standing w.objects em.object) g.agenda.3.1.fits.place g.agenda.3.1.fits.is in
        let few = task_lines (Beginning em) in
        by_answer reply (Beginning em) (is_counted w few rest n (beginning_emission d w em) (begins_emission d w few (omega (arith, is)) em)) e h
    task_says reply (Emitting em []) g e h =
        let fits = g.agenda.3.fits in
        let is = done_is d (lists.lines d) t (end_deeds em) (standing w.objects em.object) fits.place fits.is in
        let few = task_lines (Emitting em []) in
        let x = emits d w g.objects em fits in
        by_answer reply (Emitting em [])
        (leaves_agenda w few n (ending d w em rest)
        (ends_emission d w few em rest
        (λ v at by_event y some.
        (let has = result_told em fits.place fits.sig fits.class x.o x.lives x.has fits.of_class fits.has v at y some in
        let told = ap (λ b. total (lists.lines d) (cond b (deeds.tell fits.place em.signal ∷ []) [])) by_event in
        omega (arith, is, has, told)))))
        e h
    task_says reply (Emitting em (entry ∷ entries)) g e h =
        let fits = g.agenda.3.fits in
        let is = done_is d (lists.lines d) t (λ place. turn_deeds w place em.signal entry) (standing w.objects em.object) fits.place fits.is in
        let few = task_lines (Emitting em (entry ∷ entries)) in
        by_answer reply (Emitting em (entry ∷ entries)) (not_counted w few rest n (taking_entry d w em entries entry) (takes d w few em entries entry fits.place (omega (arith, is)))) e h
    task_says reply (Transferring number back) g e h =
        let few = task_lines (Transferring number back) in
        by_answer reply (Transferring number back) (is_counted w few rest n (transferring d w number back) (carries_by d w few back (binding_of number w.bindings))) e h
    task_says reply (Unsetting number) g e h = by_answer reply (Unsetting number) (still d w (task_lines (Unsetting number))) e h
    task_says reply (Thawing id slots) g e h =
        let few = task_lines (Thawing id slots) in
        by_answer reply (Thawing id slots) (not_counted w few rest n (thawing w id slots) (thaws_rest d w few id slots)) e h
    task_says reply (Running f) g e h =
        let k = only (nat_lt n most_steps) arms.Steps (left (suc n) (running d w rest f)) e h in
        let l = left_is (suc n) (running d w rest f) e k.1 in
        subst (λ (e : Config). Says d w (task_lines (Running f)) e.world) l.2 (running_says g.objects f l.0 l.1)
    task_says reply (Answering source) g e h = absurd (cc)
    task_says reply (Calling call) g e h =
        let class = class_found w call.object g.agenda.3.1.lives in
        let is = done_is d (lists.lines d) t (λ class. deeds.answer (shape_number d (nearest_shape d class)) call.method ∷ []) (class_in w.objects call.object) class.0 class.1 in
        let few = task_lines (Calling call) in
        by_answer reply (Calling call) (leaves_agenda w few n (calling_on d w call rest reply) (calls d w few (omega (arith, is)) call rest reply)) e h
    task_says reply (Constructing id steps held) g e h =
        let few = task_lines (Constructing id steps held) in
        by_answer reply (Constructing id steps held) (not_counted w few rest n (constructing d w id steps held) (constructs d w few id steps held (constructs_says g.agenda.3.1.place id steps held g.agenda.3.1.is))) e h
    task_says reply (Building items) g e h =
        let few = task_lines (Building items) in
        by_answer reply (Building items) (not_counted w few rest n (building d w items) (builds d w few items (omega arith))) e h
    task_says reply (Handling request) g e h =
        let few = task_lines (Handling request) in
        by_answer reply (Handling request) (not_counted w few rest n (request_step d w request) (carries_request d w few request (omega arith))) e h
    task_says reply (Due number) g e h =
        let s = g.agenda.3.2.0 in
        let is = done_is d (lists.lines d) t (λ (s : Source). deeds.begin (asked.source s.program) ∷ deeds.run s.program ∷ []) (source_of number w.sources) s g.agenda.3.2.1 in
        let few = task_lines (Due number) in
        by_answer reply (Due number) (not_counted w few rest n (sourcing d w number) (runs_source d w few (omega (arith, is)) number)) e h

  -- ** each step

  module _ (a : Accepted d) (most : ℕ) (t : Tables) where
    at_rest_says : (w : World) (ids : List ℕ) (few : ℕ) → Says d w few (sink_first_floating w ids)
    at_rest_says w [] few = still d w few
    at_rest_says w (id ∷ ids) few = still d w few

    -- an object that is finalised
    final_says : (w : World) (objects : ObjectsGood d w) (id : ℕ) (o : Object) → living w.objects id ≡ Some o → (agenda : List Task) (n : ℕ) (e : Config) → counted agenda n (finalising d w id) ≡ Ok e →
        Says d w (total (lists.lines d) (done_by final_deeds (living w.objects id))) e.world
    unfolding finalising finalised
    final_says w objects id o lives agenda n e h =
        let s = counted_is agenda n (finalising d w id) e h in
        let last = bound (finalised d w id) (λ (v : World). starts v []) s.0 s.1 in
        let v = bound (disposed d w id) (λ (v : World). Ok (said d (with_objects v (put v.objects id None)) (lines.final id))) last.0 last.1 in
        let after : said d (with_objects v.0 (put v.0.objects id None)) (lines.final id) ≡ last.0 = ok_is {E = Arm} _ last.0 v.2 in
        let leads : record { world = last.0; tasks = [] } ≡ s.0 = ok_is {E = Arm} (record { world = last.0; tasks = [] }) s.0 last.2 in
        let is = ap (λ (w : World). before agenda (suc n) (record { world = w; tasks = [] })) after ∙ (ap (before agenda (suc n)) leads ∙ s.2) in
        let first = total (lists.lines d) (done_by first_dispose (living w.objects id)) in
        let says = kept_at (Says d w first) (disposed d w id) v.0 (dispose_says w first objects id (omega arith)) v.1 in
        let own = done_is d (lists.lines d) t final_deeds (living w.objects id) o lives in
        let one = done_is d (lists.lines d) t first_dispose (living w.objects id) o lives in
        let more = one_longer v.0.transcript (text_of_line d.types (lines.final id)) in
        subst (λ (e : Config). Says d w (total (lists.lines d) (done_by final_deeds (living w.objects id))) e.world) is (omega (arith, says, own, one, more))

    pub step_says : (c : Config) → IsGood d a most c → (reply : Option Reply) (e : Config) → step d reply c ≡ Ok e → Says d c.world (step_price d (lists.lines d) c) e.world
    step_says c g reply e h = go (next_unheld (mentions d c) c.world.objects) refl
      where
        by : (tasks : List Task) → IsGood d a most (record { world = c.world; agenda = tasks; counted = c.counted }) → act d c.world reply tasks c.counted ≡ Ok e → Says d c.world (total (lists.lines d) (agenda_deeds d c.world tasks)) e.world
        by [] g h = subst (λ (e : Config). Says d c.world (total (lists.lines d) (agenda_deeds d c.world [])) e.world) (ok_is {E = Arm} _ e h) (at_rest_says c.world c.world.floating (total (lists.lines d) (agenda_deeds d c.world [])))
        by (task ∷ rest) g h = task_says a most t c.world rest c.counted reply task g e h

        go : (o : Option ℕ) → next_unheld (mentions d c) c.world.objects ≡ o → Says d c.world (step_price d (lists.lines d) c) e.world
        go None is =
            let price = ap (λ o. total (lists.lines d) (first_deeds d c o)) is in
            let says = by c.agenda g (ap (first_of d reply c) (sym is) ∙ h) in
            omega (arith, price, says)
        go (Some id) is =
            let u = unheld_lives (mentions d c) 1 c.world.objects id is in
            let at : id ≡ suc u.0 = (let e = u.1 in omega (arith, e)) in
            let there = ap (living c.world.objects) at ∙ u.3 in
            let price = ap (λ o. total (lists.lines d) (first_deeds d c o)) is in
            let says = final_says c.world g.objects id u.2 there c.agenda c.counted e (ap (first_of d reply c) (sym is) ∙ h) in
            omega (arith, price, says)

-- ** along a dispatch

module _ (d : Definition) (well : WellRead d) (a : Accepted d) (most : ℕ) (few : most ≤ most_steps) (t : Tables) where
  all_say : (n : ℕ) (replies : List Reply) → Each (Fits d) replies → (c e : Config) → IsGood d a most c → (s : Steps d n replies c e) → Says d c.world (steps_price d (lists.lines d) n replies c e s) e.world
  all_say zero replies fit c e good s = let same = ap (λ (c : Config). length c.world.transcript) s.1 in omega (arith, same)
  all_say (suc n) replies fit c e good s =
      let both = first_fits d s.reply s.later (subst (Each (Fits d)) s.replied fit) in
      let next = one_step steps_keep_good d well a most few c s.mid good s.reply both.0 s.step in
      let one = step_says d a most t c good s.reply s.mid s.step.leads in
      let rest = all_say n s.later both.1 s.mid e next s.follows in
      omega (arith, one, rest)

pub lines_are_few : LinesAreFew
lines_are_few d well a peers ready events read x replies fit n at s t solves =
    let b = begins_at d well a (lists.lines d) t solves peers ready events read x in
    let pays = dispatches_pay d well a peers ready events read x replies fit n at s (lists.lines d) t solves in
    let says = all_say d well a b.most b.few t n replies fit (beginning_of x) at b.good s in
    omega (arith, pays, says)
