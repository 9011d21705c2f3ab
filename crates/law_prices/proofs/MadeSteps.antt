-- No step makes more objects than the list of objects says.
use Rattle.std.proofs.Common.{◌≡◌, refl, sym, ap, subst, ◌∙◌, ℕ, zero, suc, ◌≤◌, true, List, [], ◌∷◌, length, Option, None, Some, Ok, Err, slice_get, arith}
use Rattle.std.specs.Prelude.{is_some, map, IfOk, nat_lt, option_map}
use Rattle.ui_machine.specs.declared.arm.Arm.{Arm}
use Rattle.ui_machine.specs.declared.arm.Arm.TheVariants as arms
use Rattle.ui_machine.specs.Seq.{total}
use Rattle.ui_machine.specs.Definition.{Definition}
use Rattle.ui_machine.specs.Definition.Programs.{Block, Instruction, Program}
use Rattle.ui_machine.specs.Definition.Programs as words
use Rattle.ui_machine.specs.Instructions.{instruction_step, running}
use Rattle.ui_machine.specs.Instructions.Jumps.{block_in, in_pass, past}
use Rattle.ui_machine.specs.Instructions.Peers.{calling_on}
use Rattle.ui_machine.specs.Outcome.{Answer, known}
use Rattle.ui_machine.specs.Output.Lines as lines
use Rattle.ui_machine.specs.Rules.Accumulation.{ending, taking_entry}
use Rattle.ui_machine.specs.Rules.Build.{building}
use Rattle.ui_machine.specs.Rules.Construction.{constructing}
use Rattle.ui_machine.specs.Rules.Disposal.{all_forget, children_of, forgets, lets_go, objects_disposed, one_lets_go, orphans, without_parent, disposed, finalised}
use Rattle.ui_machine.specs.Rules.EmissionPlan.{beginning_emission, notifying}
use Rattle.ui_machine.specs.Rules.Events.{request_step}
use Rattle.ui_machine.specs.Rules.MainLoop.{sourcing}
use Rattle.ui_machine.specs.Rules.NotifyQueue.{thawing}
use Rattle.ui_machine.specs.Rules.Sets.{setting}
use Rattle.ui_machine.specs.Rules.Transfers.{transferring}
use Rattle.ui_machine.specs.State.Bindings.{binding_of}
use Rattle.ui_machine.specs.Runs.{Fits, Steps}
use Rattle.ui_machine.specs.State.Config.{Config, Left, Started, World, said, starts, with_objects}
use Rattle.ui_machine.specs.State.Objects.{Objects, Object, living, put}
use Rattle.ui_machine.specs.State.Peers.{Reply}
use Rattle.ui_machine.specs.State.References.{mentions, next_unheld}
use Rattle.ui_machine.specs.State.Tasks.{Answering, Beginning, Building, Calling, Constructing, Due, Emitting, Frame, Handling, Notifying, Running, Setting, Task, Thawing, Transferring, Unsetting}
use Rattle.ui_machine.specs.Steps.{act, before, counted, finalising, first_of, left, most_steps, sink_first_floating, step, uncounted}
use Rattle.machine_laws.proofs.KeptProofs.{kept_at, only_keeps}
use Rattle.law_typing.specs.Good.Objects.{FamilyGood, ObjectsGood}
use Rattle.law_typing.specs.Good.Standing.{Lives, standing}
use Rattle.law_typing.specs.Graph.Tables.{Tables}
use Rattle.law_typing.specs.Laws.StepsKeepGood.{IsGood}
use Rattle.law_typing.specs.Laws.WellRead.{WellRead}
use Rattle.law_typing.specs.Verdict.Accepted.{Accepted, Each}
use Rattle.law_steps.specs.Tasked.First.{at_first}
use Rattle.law_steps.proofs.Instructed.Inverse.{bound, known_is, only}
use Rattle.law_steps.specs.Served.Sessions.{beginning_of}
use Rattle.law_steps.proofs.Kept.NewProofs.{at_place}
use Rattle.law_prices.proofs.Disposals.{disposed_only}
use Rattle.law_steps.proofs.Served.DispatchProofs.{one_step}
use Rattle.law_steps.proofs.Tasked.StepsProofs.{steps_keep_good}
use Rattle.law_prices.specs.Dispatches.{ObjectsAreFew, steps_price}
use Rattle.law_prices.proofs.DispatchPays.{begins_at, dispatches_pay, first_fits}
use Rattle.law_prices.specs.Deeds as deeds
use Rattle.law_prices.specs.Lists.{has_peer, has_result, instruction_at, lines_of, one_where}
use Rattle.law_prices.specs.Lists as lists
use Rattle.law_prices.specs.Steps.{agenda_deeds, done_by, first_deeds, instruction_deeds, more_deeds, running_deeds, step_price, task_deeds}
use Rattle.law_prices.proofs.Pays.{ok_is}
use Rattle.law_prices.proofs.MadeProofs.{Extra, Grows, below_length, instructed_kept, put_length, still}
use Rattle.law_prices.proofs.MadeTasks.{begins_emission, builds, calls, carries_by, carries_request, constructs, ends_emission, notifies_one, runs_source, sets_one, takes, thaws_rest}
use Rattle.law_prices.proofs.StepFalls.{unheld_lives}
use Rattle.law_prices.proofs.TaskFalls.{counted_is, left_is}

-- ** disposes

mapped_length : {A B : Type 0} (f : A → B) (xs : List A) → length (map f xs) ≡ length xs
mapped_length f [] = refl
mapped_length f (x ∷ xs) = let h = mapped_length f xs in omega (arith, h)

orphans_length : (ids : List ℕ) (os : Objects) → Each (λ id. id ≤ length os) ids → length (orphans ids os) ≡ length os
orphans_length [] os low = refl
orphans_length (id ∷ ids) os low =
    let one = put_length os id (option_map without_parent (living os id)) low.0 in
    let rest = orphans_length ids (put os id (option_map without_parent (living os id))) (subst (λ n. Each (λ id. id ≤ n) ids) (sym one) low.1) in
    omega (arith, one, rest)

module _ (d : Definition) where
  module _ (w : World) (objects : ObjectsGood d w) where
    all_low : (ids : List ℕ) → Each (Lives (standing w.objects)) ids → Each (λ id. id ≤ length w.objects) ids
    all_low [] all = tt
    all_low (id ∷ ids) all = let o = at_place w.objects id all.0.place all.0.is in (below_length w.objects id o.0 o.1, all_low ids all.1)

    disposed_length : (id : ℕ) → is_some (living w.objects id) ≡ true → length (objects_disposed d id w.objects) ≡ length w.objects
    disposed_length id some = go (living w.objects id) refl some
      where
        go : (x : Option Object) → living w.objects id ≡ x → is_some x ≡ true → length (objects_disposed d id w.objects) ≡ length w.objects
        go None e some = absurd (cc)
        go (Some o) e some =
            let low = below_length w.objects id o e in
            let forgot = mapped_length (option_map (forgets d id)) w.objects in
            let gone = put_length (all_forget d id w.objects) id (option_map (lets_go d) (living (all_forget d id w.objects) id)) (omega (arith, low, forgot)) in
            let children = all_low o.children (objects id o e).children in
            let same : length (one_lets_go d id (all_forget d id w.objects)) ≡ length w.objects = omega (arith, forgot, gone) in
            let last = orphans_length o.children (one_lets_go d id (all_forget d id w.objects)) (subst (λ n. Each (λ id. id ≤ n) o.children) (sym same) children) in
            let whole = ap (λ x. length (orphans (children_of x) (one_lets_go d id (all_forget d id w.objects)))) e in
            omega (arith, same, last, whole)

    parent_low : (id : ℕ) (o : Object) → living w.objects id ≡ Some o → (parent : ℕ) → o.parent ≡ Some parent → parent ≤ length w.objects
    parent_low id o e parent is = let f = subst (FamilyGood w.objects id) is (objects id o e).parent in below_length w.objects parent f.0 f.1

  -- ** steps

  not_counted : (w : World) (few : ℕ) (rest : List Task) (n : ℕ) (a : Answer Started) → IfOk a (λ s. Grows d w few s.world) → IfOk (uncounted rest n a) (λ e. Grows d w few e.world)
  not_counted w few rest n (Ok s) grows = grows
  not_counted w few rest n (Err arm) grows = tt

  is_counted : (w : World) (few : ℕ) (rest : List Task) (n : ℕ) (a : Answer Started) → IfOk a (λ s. Grows d w few s.world) → IfOk (counted rest n a) (λ e. Grows d w few e.world)
  is_counted w few rest n a grows = only_keeps (nat_lt n most_steps) arms.Steps (uncounted rest (suc n) a) _ (not_counted w few rest (suc n) a grows)

  leaves_agenda : (w : World) (few : ℕ) (n : ℕ) (a : Answer Left) → IfOk a (λ l. Grows d w few l.world) → IfOk (left n a) (λ e. Grows d w few e.world)
  unfolding left
  leaves_agenda w few n (Ok l) grows = grows
  leaves_agenda w few n (Err arm) grows = tt

  module _ (a : Accepted d) (most : ℕ) (t : Tables) (w : World) (rest : List Task) (n : ℕ) where
    -- ** programs

    extra : (few : ℕ) (objects : ObjectsGood d w) (f g : Frame) (i : Instruction) → total lists.objects (more_deeds d w f i) ≤ few → Extra d w few g i
    extra few objects f g (words.new to id) low = λ place is. (let one = ap (λ o. total lists.objects (done_by (λ place. deeds.make place ∷ []) o)) is in omega (arith, low, one))
    extra few objects f g (words.dispose object) low = λ id some. (let h = disposed_length w objects id some in omega (arith, h))
    extra few objects f g (words.orphan object) low = λ id o e parent is. parent_low w objects id o e parent is
    extra few objects f g _ low = tt

    running_grows : (objects : ObjectsGood d w) (f : Frame) (l : Left) → running d w rest f ≡ Ok l → Grows d w (total lists.objects (running_deeds d w f (block_in d f))) l.world
    unfolding running
    running_grows objects f l e =
        let b = bound (block_in d f) _ l e in
        let i = bound (known arms.Code (slice_get b.0.code (in_pass b.0 f).at)) _ l b.2 in
        let at = known_is arms.Code (slice_get b.0.code (in_pass b.0 f).at) i.0 i.1 in
        let deeds_are = ap (λ x. total lists.objects (running_deeds d w f x)) b.1 in
        let one = ap (λ o. total lists.objects (instruction_deeds d w (in_pass b.0 f) o)) at in
        let few = total lists.objects (running_deeds d w f (block_in d f)) in
        kept_at (λ (l : Left). Grows d w few l.world) (instruction_step d w rest (past (in_pass b.0 f)) i.0) l
        (instructed_kept d w few rest (past (in_pass b.0 f)) i.0 (extra few objects (in_pass b.0 f) (past (in_pass b.0 f)) i.0 (omega (arith, deeds_are, one)))) i.2

    -- ** tasks

    abbrev task_makes : Task → ℕ
    task_makes task = total lists.objects (task_deeds d w task)

    abbrev Acts : Option Reply → Task → Type 0
    Acts reply task = (e : Config) → act d w reply (task ∷ rest) n ≡ Ok e → Grows d w (task_makes task) e.world

    by_answer : (reply : Option Reply) (task : Task) → IfOk (act d w reply (task ∷ rest) n) (λ e. Grows d w (task_makes task) e.world) → Acts reply task
    by_answer reply task grows e is = kept_at (λ (e : Config). Grows d w (task_makes task) e.world) (act d w reply (task ∷ rest) n) e grows is

    task_grows : (reply : Option Reply) (task : Task) → IsGood d a most (at_first w task rest n) → Acts reply task
    task_grows reply (Setting id slot v) g e h = by_answer reply (Setting id slot v) (not_counted w (task_makes (Setting id slot v)) rest n (setting d w id slot v) (sets_one d w (task_makes (Setting id slot v)) id slot v)) e h
    task_grows reply (Notifying id slot) g e h = by_answer reply (Notifying id slot) (is_counted w (task_makes (Notifying id slot)) rest n (notifying d w id slot) (notifies_one d w (task_makes (Notifying id slot)) id slot)) e h
    task_grows reply (Beginning em) g e h = by_answer reply (Beginning em) (is_counted w (task_makes (Beginning em)) rest n (beginning_emission d w em) (begins_emission d w (task_makes (Beginning em)) em)) e h
    task_grows reply (Emitting em []) g e h = by_answer reply (Emitting em []) (leaves_agenda w (task_makes (Emitting em [])) n (ending d w em rest) (ends_emission d w (task_makes (Emitting em [])) em rest)) e h
    task_grows reply (Emitting em (entry ∷ entries)) g e h =
        by_answer reply (Emitting em (entry ∷ entries)) (not_counted w (task_makes (Emitting em (entry ∷ entries))) rest n (taking_entry d w em entries entry) (takes d w (task_makes (Emitting em (entry ∷ entries))) em entries entry)) e h
    task_grows reply (Transferring number back) g e h =
        by_answer reply (Transferring number back) (is_counted w (task_makes (Transferring number back)) rest n (transferring d w number back) (carries_by d w (task_makes (Transferring number back)) back (binding_of number w.bindings))) e h
    task_grows reply (Unsetting number) g e h = by_answer reply (Unsetting number) (still d w (task_makes (Unsetting number))) e h
    task_grows reply (Thawing id slots) g e h = by_answer reply (Thawing id slots) (not_counted w (task_makes (Thawing id slots)) rest n (thawing w id slots) (thaws_rest d w (task_makes (Thawing id slots)) id slots)) e h
    task_grows reply (Running f) g e h =
        let k = only (nat_lt n most_steps) arms.Steps (left (suc n) (running d w rest f)) e h in
        let l = left_is (suc n) (running d w rest f) e k.1 in
        subst (λ (e : Config). Grows d w (task_makes (Running f)) e.world) l.2 (running_grows g.objects f l.0 l.1)
    task_grows reply (Answering source) g e h = absurd (cc)
    task_grows reply (Calling call) g e h = by_answer reply (Calling call) (leaves_agenda w (task_makes (Calling call)) n (calling_on d w call rest reply) (calls d w (task_makes (Calling call)) call rest reply)) e h
    task_grows reply (Constructing id steps held) g e h =
        by_answer reply (Constructing id steps held) (not_counted w (task_makes (Constructing id steps held)) rest n (constructing d w id steps held) (constructs d w (task_makes (Constructing id steps held)) id steps held)) e h
    task_grows reply (Building items) g e h = by_answer reply (Building items) (not_counted w (task_makes (Building items)) rest n (building d w items) (builds d w (task_makes (Building items)) items (omega arith))) e h
    task_grows reply (Handling request) g e h = by_answer reply (Handling request) (not_counted w (task_makes (Handling request)) rest n (request_step d w request) (carries_request d w (task_makes (Handling request)) request)) e h
    task_grows reply (Due number) g e h = by_answer reply (Due number) (not_counted w (task_makes (Due number)) rest n (sourcing d w number) (runs_source d w (task_makes (Due number)) number)) e h

  -- ** each step

  module _ (a : Accepted d) (most : ℕ) (t : Tables) where
    at_rest_grows : (w : World) (ids : List ℕ) (few : ℕ) → Grows d w few (sink_first_floating w ids)
    at_rest_grows w [] few = still d w few
    at_rest_grows w (id ∷ ids) few = still d w few

    -- an object that is finalised
    final_grows : (w : World) (objects : ObjectsGood d w) (id : ℕ) (o : Object) → living w.objects id ≡ Some o → (few : ℕ) (agenda : List Task) (n : ℕ) (e : Config) → counted agenda n (finalising d w id) ≡ Ok e → Grows d w few e.world
    unfolding finalising finalised
    final_grows w objects id o lives few agenda n e h =
        let s = counted_is agenda n (finalising d w id) e h in
        let last = bound (finalised d w id) (λ (v : World). starts v []) s.0 s.1 in
        let v = bound (disposed d w id) (λ (v : World). Ok (said d (with_objects v (put v.objects id None)) (lines.final id))) last.0 last.1 in
        let after : said d (with_objects v.0 (put v.0.objects id None)) (lines.final id) ≡ last.0 = ok_is {E = Arm} _ last.0 v.2 in
        let leads : record { world = last.0; tasks = [] } ≡ s.0 = ok_is {E = Arm} (record { world = last.0; tasks = [] }) s.0 last.2 in
        let is = ap (λ (w : World). before agenda (suc n) (record { world = w; tasks = [] })) after ∙ (ap (before agenda (suc n)) leads ∙ s.2) in
        let same = disposed_only d w id v.0 v.1 in
        let long = ap (λ (os : Objects). length os) same.objects ∙ disposed_length w objects id (ap (λ o. is_some o) lives) in
        let low = below_length w.objects id o lives in
        let out = put_length v.0.objects id None (omega (arith, long, low)) in
        subst (λ (e : Config). Grows d w few e.world) is (omega (arith, long, out))

    pub step_grows : (c : Config) → IsGood d a most c → (reply : Option Reply) (e : Config) → step d reply c ≡ Ok e → Grows d c.world (step_price d lists.objects c) e.world
    step_grows c g reply e h = go (next_unheld (mentions d c) c.world.objects) refl
      where
        by : (tasks : List Task) → IsGood d a most (record { world = c.world; agenda = tasks; counted = c.counted }) → act d c.world reply tasks c.counted ≡ Ok e → Grows d c.world (total lists.objects (agenda_deeds d c.world tasks)) e.world
        by [] g h = subst (λ (e : Config). Grows d c.world (total lists.objects (agenda_deeds d c.world [])) e.world) (ok_is {E = Arm} _ e h) (at_rest_grows c.world c.world.floating (total lists.objects (agenda_deeds d c.world [])))
        by (task ∷ rest) g h = task_grows a most t c.world rest c.counted reply task g e h

        go : (o : Option ℕ) → next_unheld (mentions d c) c.world.objects ≡ o → Grows d c.world (step_price d lists.objects c) e.world
        go None is =
            let price = ap (λ o. total lists.objects (first_deeds d c o)) is in
            let grows = by c.agenda g (ap (first_of d reply c) (sym is) ∙ h) in
            omega (arith, price, grows)
        go (Some id) is =
            let u = unheld_lives (mentions d c) 1 c.world.objects id is in
            let at : id ≡ suc u.0 = (let e = u.1 in omega (arith, e)) in
            let there = ap (living c.world.objects) at ∙ u.3 in
            final_grows c.world g.objects id u.2 there (step_price d lists.objects c) c.agenda c.counted e (ap (first_of d reply c) (sym is) ∙ h)

-- ** along a dispatch

module _ (d : Definition) (well : WellRead d) (a : Accepted d) (most : ℕ) (few : most ≤ most_steps) (t : Tables) where
  all_grow : (n : ℕ) (replies : List Reply) → Each (Fits d) replies → (c e : Config) → IsGood d a most c → (s : Steps d n replies c e) → Grows d c.world (steps_price d lists.objects n replies c e s) e.world
  all_grow zero replies fit c e good s = let same = ap (λ (c : Config). length c.world.objects) s.1 in omega (arith, same)
  all_grow (suc n) replies fit c e good s =
      let both = first_fits d s.reply s.later (subst (Each (Fits d)) s.replied fit) in
      let next = one_step steps_keep_good d well a most few c s.mid good s.reply both.0 s.step in
      let one = step_grows d a most t c good s.reply s.mid s.step.leads in
      let rest = all_grow n s.later both.1 s.mid e next s.follows in
      omega (arith, one, rest)

pub objects_are_few : ObjectsAreFew
objects_are_few d well a peers ready events read x replies fit n at s t solves =
    let b = begins_at d well a lists.objects t solves peers ready events read x in
    let pays = dispatches_pay d well a peers ready events read x replies fit n at s lists.objects t solves in
    let grows = all_grow d well a b.most b.few t n replies fit (beginning_of x) at b.good s in
    omega (arith, pays, grows)
