-- A dispatch that is good comes to its end. Each counted step brings the count nearer to the bound. Each other step leaves what
-- lies below the first task as it is, and puts tasks in its place that have less to do.
use Rattle.std.proofs.Common.{◌≡◌, refl, sym, subst, ap, ℕ, zero, suc, ◌+◌, ◌<◌, ◌≤◌, Bool, true, false, cond, List, [], ◌∷◌, ◌++◌, length, Option, None, Some, Ok, Err, arith}
use Rattle.std.specs.Prelude.{IfOk, not, ◌&&◌, ◌||◌, nat_eq, nat_lt, slice_get}
use Rattle.std.specs.List.{list_all}
use Rattle.std.proofs.lemmas.Bool.{eq-eqb}
use Rattle.ui_machine.specs.declared.arm.Arm.TheVariants as arms
use Rattle.ui_machine.specs.Definition.{Definition}
use Rattle.ui_machine.specs.Definition.Values.{Value}
use Rattle.ui_machine.specs.Definition.Values as values
use Rattle.ui_machine.specs.Definition.Lookups.{type_of, specs_of, place_at, program_at}
use Rattle.ui_machine.specs.Definition.Places.{Bind}
use Rattle.ui_machine.specs.Definition.Properties.{Spec, has_flags, is_lax, is_writable, is_readable, is_construct_only}
use Rattle.ui_machine.specs.Definition.Signals.{Method}
use Rattle.ui_machine.specs.Outcome.{Answer, known}
use Rattle.ui_machine.specs.State.Bindings.{Binding, binding_of}
use Rattle.ui_machine.specs.State.Handlers.{Handler, handler_of}
use Rattle.ui_machine.specs.State.Objects.{living, class_in, object_at, changed, asked, value_at, with_value}
use Rattle.ui_machine.specs.State.Peers.{Peer, Reply, method_of}
use Rattle.ui_machine.specs.State.References.{mentions, next_unheld}
use Rattle.ui_machine.specs.State.Sources.{source_of}
use Rattle.ui_machine.specs.State.Tasks.{PlanEntry, class_handler, handler, Emission, ConstructStep, sets, runs, thaws, Item, makes, adopts, forwards, binds, connects, Request, Frame, Call, Task, Setting, Notifying, Beginning, Emitting, Transferring, Unsetting, Thawing, Running, Answering, Calling, Constructing, Building, Handling, Due}
use Rattle.ui_machine.specs.State.Tasks as config
use Rattle.ui_machine.specs.State.Config.{World, Config, Started, Left, sunk, without, peer_at, is_asked, is_unbuilt, builder_entry}
use Rattle.ui_machine.specs.Steps.{step, most_steps, uncounted, counted, left, counted_left, sink_first_floating, act, first_of, finalising}
use Rattle.ui_machine.specs.Instructions.{running}
use Rattle.ui_machine.specs.Instructions.Peers.{left_with, with_method, called, uncalled, replied, calling_on}
use Rattle.ui_machine.specs.Instructions.Registers.{with_register}
use Rattle.ui_machine.specs.Rules.Accumulation.{ending, passed_down, taken, received_by, received, resulting, taking_entry, running_handler, in_stage}
use Rattle.ui_machine.specs.Rules.EmissionPlan.{new_emission, notifying, beginning_emission}
use Rattle.ui_machine.specs.Rules.Programs.{all_fit, fits_register, first_frame, beginning_program, program_before}
use Rattle.ui_machine.specs.Rules.Transfers.{transferring, transfer_for, unsetting}
use Rattle.ui_machine.specs.Rules.NotifyQueue.{raised, thawing, frozen_less}
use Rattle.ui_machine.specs.Rules.Sets.{has_kind, lives, is_disposed, spec_at, raising, raising_if, written, setting}
use Rattle.ui_machine.specs.Rules.Children.{adopted}
use Rattle.ui_machine.specs.Rules.Connections.{signal_number, detail_at, detail_in}
use Rattle.ui_machine.specs.Rules.Construction.{has_valid_default, construction, given_value, making, apply_construct_property, constructed, thawing_made, constructing}
use Rattle.ui_machine.specs.Rules.Build.{held_object, held_data, peer_for, building, building_child, set_forward, building_forward, building_binding, building_handler, building_object}
use Rattle.ui_machine.specs.Rules.Events.{set_given, set_from_event, get_from_event, given_values, emit_from_event, release_from_event, request_step}
use Rattle.ui_machine.specs.Rules.MainLoop.{sourcing}
use Rattle.ui_machine.specs.Rules.Transform.{same_value}
use Rattle.ui_machine.specs.Rules.Validation.{clamp}
use Rattle.law_typing.specs.Graph.{graph}
use Rattle.law_typing.specs.Graph.Depths.{depth}
use Rattle.law_typing.specs.Verdict.Accepted.{Each, Accepted}
use Rattle.law_typing.specs.Laws.WellRead.{WellRead}
use Rattle.law_typing.specs.Laws.StepsKeepGood.{IsGood, StepsKeepGood}
use Rattle.law_typing.proofs.Lists.{each_append}
use Rattle.law_typing.proofs.RestProofs.{good_is_within}
use Rattle.law_steps.specs.Served.Endings.{ComesToEnd, ended, goes}
use Rattle.law_steps.proofs.Served.ReplyProofs.{unstuck_goes_on}
use Rattle.law_steps.proofs.Served.DispatchProofs.{one_step, unstuck}
use Rattle.law_steps.proofs.Served.IfOkProofs.{after_each, after_such, only_such, either_such}

-- ** counts

-- a counted step counts one
counted_one : (rest : List Task) (n : ℕ) (answer : Answer Started) → IfOk (counted rest n answer) (λ (e : Config). e.counted ≡ suc n)
counted_one rest n answer =
    only_such (nat_lt n most_steps) arms.Steps (uncounted rest (suc n) answer) _ (after_each answer _ _ (λ s. refl))

counted_left_one : (n : ℕ) (answer : Answer Left) → IfOk (counted_left n answer) (λ (e : Config). e.counted ≡ suc n)
unfolding left
counted_left_one n answer = only_such (nat_lt n most_steps) arms.Steps (left (suc n) answer) _ (after_each answer _ _ (λ l. refl))

-- what is left of a list has no more entries
without_fewer : (id : ℕ) (xs : List ℕ) → length (without id xs) ≤ length xs
without_fewer id [] = omega arith
without_fewer id (x ∷ xs) = go (nat_eq x id) (without_fewer id xs)
  where
    go : (b : Bool) → length (without id xs) ≤ length xs → length (cond b (without id xs) (x ∷ without id xs)) ≤ suc (length xs)
    go true h = omega (arith, h)
    go false h = omega (arith, h)

first_goes : (id : ℕ) (ids : List ℕ) → length (without id (id ∷ ids)) ≤ length ids
first_goes id ids =
    subst (λ b. length (cond b (without id ids) (id ∷ without id ids)) ≤ length ids) (sym (eq-eqb id id refl)) (without_fewer id ids)

-- ** steps

module _ (keep : StepsKeepGood) (d : Definition) (well : WellRead d) (a : Accepted d) (most : ℕ) (few : most ≤ most_steps) where
  -- as much as so many counted steps may still come
  abbrev pub Within : ℕ → Type 0
  Within k = (c : Config) → IsGood d a most c → most < c.counted + k → ComesToEnd d c

  module _ (k : ℕ) (nearer : Within k) where
    abbrev Near : Config → Type 0
    Near c = most < c.counted + suc k

    -- where it comes to its end from whatever comes next it does from here
    onward : (c : Config) → IsGood d a most c → ((reply : Option Reply) → IfOk (step d reply c) (λ e. IsGood d a most e → ComesToEnd d e)) →
        ComesToEnd d c
    onward c good all =
        goes c (unstuck_goes_on d c (unstuck keep d well a most few c good))
        (λ reply fits next s.
        subst (λ x. IfOk x (λ e. IsGood d a most e → ComesToEnd d e)) s.leads (all reply)
        (one_step keep d well a most few c next good reply fits s))

    counts_on : (c : Config) → Near c → (x : Answer Config) → IfOk x (λ (e : Config). e.counted ≡ suc c.counted) →
        IfOk x (λ e. IsGood d a most e → ComesToEnd d e)
    counts_on c near (Ok e) one = λ good. nearer e good (omega (arith, near, one))
    counts_on c near (Err arm) one = tt

    -- where something is finalised first, that counts; so only the first task is to be looked at
    by_first : (c : Config) → IsGood d a most c → Near c → (next_unheld (mentions d c) c.world.objects ≡ None → ComesToEnd d c) →
        ComesToEnd d c
    by_first c good near acts = go (next_unheld (mentions d c) c.world.objects) refl
      where
        go : (o : Option ℕ) → next_unheld (mentions d c) c.world.objects ≡ o → ComesToEnd d c
        go None e = acts e
        go (Some id) e =
            onward c good (λ reply.
            subst (λ o. IfOk (first_of d reply c o) (λ e. IsGood d a most e → ComesToEnd d e)) (sym e)
            (counts_on c near (counted c.agenda c.counted (finalising d c.world id))
            (counted_one c.agenda c.counted (finalising d c.world id))))

    acts_on : (c : Config) → IsGood d a most c → Near c →
        ((reply : Option Reply) → IfOk (act d c.world reply c.agenda c.counted) (λ e. IsGood d a most e → ComesToEnd d e)) → ComesToEnd d c
    acts_on c good near all =
        by_first c good near (λ e. onward c good (λ reply.
        subst (λ o. IfOk (first_of d reply c o) (λ e. IsGood d a most e → ComesToEnd d e)) (sym e) (all reply)))

    -- ** agendas

    -- from whatever world this is to do, it comes to its end
    abbrev at_agenda : World → List Task → ℕ → Config
    at_agenda w agenda n = record { world = w; agenda = agenda; counted = n }

    abbrev Ends : List Task → Type 0
    Ends agenda =
        (w : World) (n : ℕ) → IsGood d a most (at_agenda w agenda n) → Near (at_agenda w agenda n) → ComesToEnd d (at_agenda w agenda n)

    -- a task comes to its end in front of whatever does
    abbrev Comes : Task → Type 0
    Comes task = (rest : List Task) → Ends rest → Ends (task ∷ rest)

    all_end : (tasks : List Task) → Each Comes tasks → (rest : List Task) → Ends rest → Ends (tasks ++ rest)
    all_end [] all rest below = below
    all_end (task ∷ tasks) all rest below = all.0 (tasks ++ rest) (all_end tasks all.1 rest below)

    -- ** nothing is left but what floats

    abbrev at_end : World → ℕ → Config
    at_end w n = record { world = w; agenda = []; counted = n }

    settle : (w : World) (n : ℕ) → IsGood d a most (at_end w n) → Near (at_end w n) →
        ((id : ℕ) (ids : List ℕ) → w.floating ≡ id ∷ ids → IsGood d a most (at_end (sunk w id) n) → ComesToEnd d (at_end (sunk w id) n)) →
        ComesToEnd d (at_end w n)
    settle w n good near again = by_first (at_end w n) good near (λ held. go w.floating refl held)
      where
        go : (floating : List ℕ) → w.floating ≡ floating → next_unheld (mentions d (at_end w n)) w.objects ≡ None →
            ComesToEnd d (at_end w n)
        go [] e held = ended (at_end w n) (record { agenda = refl; floating = e; held = held })
        go (id ∷ ids) e held =
            acts_on (at_end w n) good near (λ reply.
            subst (λ v. IsGood d a most (at_end v n) → ComesToEnd d (at_end v n)) (sym (ap (sink_first_floating w) e)) (again id ids e))

    fewer : (w : World) (m id : ℕ) (ids : List ℕ) → w.floating ≡ id ∷ ids → length w.floating ≤ suc m → length (without id w.floating) ≤ m
    fewer w m id ids e less =
        let goes = subst (λ xs. length (without id xs) ≤ length ids) (sym e) (first_goes id ids) in
        let some = ap length e in
        omega (arith, goes, some, less)

    settles : (m : ℕ) (w : World) (n : ℕ) → length w.floating ≤ m → IsGood d a most (at_end w n) → Near (at_end w n) →
        ComesToEnd d (at_end w n)
    settles zero w n less good near =
        settle w n good near (λ id ids e sunk_good. absurd (let some = ap length e in omega (arith, less, some)))
    settles (suc m) w n less good near =
        settle w n good near (λ id ids e sunk_good. settles m (sunk w id) n (fewer w m id ids e less) sunk_good near)

    nothing_ends : Ends []
    nothing_ends w n good near = settles (length w.floating) w n (omega arith) good near

    -- ** tasks that count

    counted_comes : (task : Task) (rest : List Task) →
        ((w : World) (reply : Option Reply) (n : ℕ) → IfOk (act d w reply (task ∷ rest) n) (λ (e : Config). e.counted ≡ suc n)) →
        Ends (task ∷ rest)
    counted_comes task rest one w n good near =
        acts_on (record { world = w; agenda = task ∷ rest; counted = n }) good near
        (λ reply. counts_on (record { world = w; agenda = task ∷ rest; counted = n }) near (act d w reply (task ∷ rest) n) (one w reply n))

    notification : (id slot : ℕ) → Comes (Notifying id slot)
    notification id slot rest below =
        counted_comes (Notifying id slot) rest (λ w reply n. counted_one rest n (notifying d w id slot))

    emission : (e : Emission) → Comes (Beginning e)
    emission e rest below = counted_comes (Beginning e) rest (λ w reply n. counted_one rest n (beginning_emission d w e))

    transfer : (number : ℕ) (back : Bool) → Comes (Transferring number back)
    transfer number back rest below =
        counted_comes (Transferring number back) rest (λ w reply n. counted_one rest n (transferring d w number back))

    program_ends : (f : Frame) (rest : List Task) → Ends (Running f ∷ rest)
    program_ends f rest = counted_comes (Running f) rest (λ w reply n. counted_left_one n (running d w rest f))

    program : (f : Frame) → Comes (Running f)
    program f rest below = program_ends f rest

    -- ** tasks that do not

    -- what a step starts comes to its end
    abbrev Starts : Answer Started → Type 0
    Starts answer = IfOk answer (λ (s : Started). Each Comes s.tasks)

    started : (rest : List Task) → Ends rest → (n : ℕ) → most < n + suc k → (answer : Answer Started) → Starts answer →
        IfOk (uncounted rest n answer) (λ e. IsGood d a most e → ComesToEnd d e)
    started rest below n near (Ok s) all = λ good. all_end s.tasks all rest below s.world n good near
    started rest below n near (Err arm) all = tt

    uncounted_comes : (task : Task) (answer : World → Answer Started) →
        ((w : World) (reply : Option Reply) (rest : List Task) (n : ℕ) → act d w reply (task ∷ rest) n ≡ uncounted rest n (answer w)) →
        ((w : World) → Starts (answer w)) → Comes task
    uncounted_comes task answer is all rest below w n good near =
        acts_on (record { world = w; agenda = task ∷ rest; counted = n }) good near (λ reply.
        subst (λ x. IfOk x (λ e. IsGood d a most e → ComesToEnd d e)) (sym (is w reply rest n))
        (started rest below n near (answer w) (all w)))

    -- a step that leaves a whole agenda
    lefts : (n : ℕ) → most < n + suc k → (answer : Answer Left) → IfOk answer (λ (l : Left). Ends l.agenda) →
        IfOk (left n answer) (λ e. IsGood d a most e → ComesToEnd d e)
    unfolding left
    lefts n near (Ok l) all = λ good. all l.world n good near
    lefts n near (Err arm) all = tt

    -- ** sets

    raising_starts : (w : World) (id slot : ℕ) → Starts (raising w id slot)
    unfolding raising
    raising_starts w id slot = after_each (changed w.objects id (raised slot)) _ _ (λ raise. noted raise.answer)
      where
        noted : (b : Bool) → Each Comes (cond b (Notifying id slot ∷ []) [])
        noted true = (notification id slot, tt)
        noted false = tt

    raising_if_starts : (b : Bool) (w : World) (id slot : ℕ) → Starts (raising_if b w id slot)
    raising_if_starts false w id slot = tt
    raising_if_starts true w id slot = raising_starts w id slot

    written_starts : (w : World) (id slot : ℕ) (s : Spec) (v : Value) → Starts (written d w id slot s v)
    unfolding written
    written_starts w id slot s v = after_each (changed w.objects id (with_value slot v)) _ _ (λ write. raising_if_starts _ _ id slot)

    setting_starts : (w : World) (id slot : ℕ) (v : Value) → Starts (setting d w id slot v)
    unfolding setting
    setting_starts w id slot v =
        after_each (spec_at d w.objects id slot) _ _ (λ s.
        only_such (has_kind v s.kind && lives w.objects v) arms.Value _ _
        (either_such (same_value (clamp (class_in w.objects) d.types s v) v || is_lax s) _ _ _ (written_starts w id slot s _) tt))

    set : (id slot : ℕ) (v : Value) → Comes (Setting id slot v)
    set id slot v =
        uncounted_comes (Setting id slot v) (λ w. setting d w id slot v) (λ w reply rest n. refl) (λ w. setting_starts w id slot v)

    -- ** emissions

    begins : (w : World) (number : ℕ) (args : List Value) → Starts (beginning_program d w number args)
    unfolding beginning_program
    begins w number args = after_each (known arms.Code (program_at d number)) _ _ (λ p.
        only_such (all_fit (fits_register d w.objects) args p.params) arms.Parameters _ _ (program (first_frame number p args), tt))

    program_before_starts : (w : World) (number : ℕ) (args : List Value) (tasks : List Task) → Each Comes tasks →
        Starts (program_before d w number args tasks)
    unfolding program_before
    program_before_starts w number args tasks all =
        after_such (beginning_program d w number args) _ (λ (s : Started). Each Comes s.tasks) _ (begins w number args)
        (λ s some. each_append Comes s.tasks tasks some all)

    entry_starts : (e : Emission) (entries : List PlanEntry) → ((e : Emission) → Comes (Emitting e entries)) → (entry : PlanEntry)
        (w : World) → Starts (taking_entry d w e entries entry)
    entry_starts e entries later (class_handler number cleanup) w =
        program_before_starts w number _ (Emitting (in_stage cleanup e) entries ∷ []) (later (in_stage cleanup e), tt)
    entry_starts e entries later (handler number) w = go (handler_of number w.handlers)
      where
        go : (o : Option Handler) → Starts (running_handler d w e entries o)
        go None = (later e, tt)
        go (Some h) =
            either_such (nat_lt 0 h.blocks) _ _ _ (later e, tt)
            (program_before_starts w h.program _ (Emitting e entries ∷ []) (later e, tt))
    entry_starts e entries later (config.transfer number back) w = go (binding_of number w.bindings)
      where
        due : (b : Bool) → Each Comes (cond b [] (Transferring number back ∷ []) ++ Emitting e entries ∷ [])
        due true = (later e, tt)
        due false = (transfer number back, (later e, tt))

        go : (o : Option Binding) → Each Comes (transfer_for o number back ++ Emitting e entries ∷ [])
        go None = (later e, tt)
        go (Some b) = due b.busy

    received_ends : (f : Frame) (rest : List Task) (to : ℕ) (v : Option Value) → IfOk (received_by f rest to v) Ends
    unfolding received_by
    received_ends f rest to v = after_each (with_register to v f.registers) _ _ (λ new. program_ends _ rest)

    taken_ends : (into : Option ℕ) (f : Frame) (rest : List Task) (v : Option Value) → IfOk (taken into f rest v) Ends
    taken_ends None f rest v = program_ends f rest
    taken_ends (Some to) f rest None = tt
    taken_ends (Some to) f rest (Some v) = received_ends f rest to (Some v)

    passed_ends : (rest : List Task) → Ends rest → (v : Option Value) → IfOk (passed_down rest v) Ends
    passed_ends (Running f ∷ rest) below v = taken_ends f.into f rest v
    passed_ends rest below v = below

    ending_ends : (w : World) (e : Emission) (rest : List Task) → Ends rest → IfOk (ending d w e rest) (λ (l : Left). Ends l.agenda)
    unfolding ending
    ending_ends w e rest below =
        after_each (resulting d w e) _ _ (λ v. after_such (passed_down rest v) _ Ends _ (passed_ends rest below v) (λ agenda all. all))

    emission_ended : (e : Emission) → Comes (Emitting e [])
    emission_ended e rest below w n good near =
        acts_on (record { world = w; agenda = Emitting e [] ∷ rest; counted = n }) good near
        (λ reply. lefts n near (ending d w e rest) (ending_ends w e rest below))

    emitting : (entries : List PlanEntry) (e : Emission) → Comes (Emitting e entries)
    emitting [] e = emission_ended e
    emitting (entry ∷ entries) e =
        uncounted_comes (Emitting e (entry ∷ entries)) (λ w. taking_entry d w e entries entry) (λ w reply rest n. refl)
        (entry_starts e entries (emitting entries) entry)

    -- ** calls, thaws, and bindings that are set free

    free : (number : ℕ) → Comes (Unsetting number)
    free number = uncounted_comes (Unsetting number) (λ w. unsetting w number) (λ w reply rest n. refl) (λ w. tt)

    thaw : (slots : List ℕ) (id : ℕ) → Comes (Thawing id slots)
    thaw [] id = uncounted_comes (Thawing id []) (λ w. thawing w id []) (λ w reply rest n. refl) (λ w. tt)
    thaw (slot ∷ slots) id =
        uncounted_comes (Thawing id (slot ∷ slots)) (λ w. thawing w id (slot ∷ slots)) (λ w reply rest n. refl)
        (λ w. (notification id slot, (thaw slots id, tt)))

    answered_ends : (rest : List Task) (to : ℕ) (v : Option Value) → IfOk (received rest to v) Ends
    answered_ends (Running f ∷ rest) to v = received_ends f rest to v
    answered_ends _ to v = tt

    left_with_ends : (w : World) (rest : List Task) (to : ℕ) (v : Value) → IfOk (left_with w rest to v) (λ (l : Left). Ends l.agenda)
    unfolding left_with
    left_with_ends w rest to v = after_such (received rest to (Some v)) _ Ends _ (answered_ends rest to (Some v)) (λ agenda all. all)

    with_method_ends : (w : World) (peer method : ℕ) (f : Peer → Method → Answer Left) →
        ((p : Peer) (m : Method) → IfOk (f p m) (λ (l : Left). Ends l.agenda)) →
        IfOk (with_method w peer method f) (λ (l : Left). Ends l.agenda)
    unfolding with_method
    with_method_ends w peer method f all =
        after_each (known arms.Call (peer_at w peer)) _ _ (λ p. after_each (known arms.Call (method_of p method)) _ _ (λ m. all p m))

    calling_ends : (w : World) (call : Call) (rest : List Task) (reply : Option Reply) →
        IfOk (calling_on d w call rest reply) (λ (l : Left). Ends l.agenda)
    unfolding called uncalled
    calling_ends w call rest reply = either_such (is_asked w call.peer) _ _ _ (replied_ends reply) uncalled_ends
      where
        replied_ends : (reply : Option Reply) → IfOk (replied d w call rest reply) (λ (l : Left). Ends l.agenda)
        replied_ends None = tt
        replied_ends (Some reply) = with_method_ends w call.peer call.method _ (λ p m. left_with_ends _ rest call.to _)

        uncalled_ends : IfOk (uncalled d w call rest) (λ (l : Left). Ends l.agenda)
        uncalled_ends = with_method_ends w call.peer call.method _ (λ p m. left_with_ends _ rest call.to _)

    call_comes : (call : Call) → Comes (Calling call)
    call_comes call rest below w n good near =
        acts_on (record { world = w; agenda = Calling call ∷ rest; counted = n }) good near
        (λ reply. lefts n near (calling_on d w call rest reply) (calling_ends w call rest reply))

    answering : (source : ℕ) → Comes (Answering source)
    answering source rest below w n good near =
        acts_on (record { world = w; agenda = Answering source ∷ rest; counted = n }) good near (λ reply. tt)

    -- ** constructions

    constructed_starts : (w : World) (id : ℕ) (held : Bool) → Starts (constructed w id held)
    unfolding constructed
    constructed_starts w id false = tt
    constructed_starts w id true = after_each (object_at w.objects id) _ _ (λ o.
        only_such (is_unbuilt (builder_entry w o.place)) arms.Code _ _ tt)

    making_set_starts : (w : World) (id slot : ℕ) (v : Value) (tasks : List Task) → Each Comes tasks →
        Starts (apply_construct_property d w id slot v tasks)
    unfolding apply_construct_property
    making_set_starts w id slot v tasks all =
        after_each (spec_at d w.objects id slot) _ _ (λ s. only_such (is_writable s) arms.Flags _ _ (set id slot v, all))

    thawing_made_starts : (w : World) (id : ℕ) (steps : List ConstructStep) (held : Bool) → Comes (Constructing id steps held) →
        Starts (thawing_made w id steps held)
    unfolding thawing_made
    thawing_made_starts w id steps held later =
        after_each (changed w.objects id frozen_less) _ _ (λ taken. (thaw taken.answer id, (later, tt)))

    construction_comes : (steps : List ConstructStep) (id : ℕ) (held : Bool) → Comes (Constructing id steps held)
    construction_comes [] id held =
        uncounted_comes (Constructing id [] held) (λ w. constructed w id held) (λ w reply rest n. refl) (λ w. constructed_starts w id held)
    construction_comes (sets slot v ∷ steps) id held =
        uncounted_comes (Constructing id (sets slot v ∷ steps) held) (λ w. apply_construct_property d w id slot v (Constructing id steps held ∷ []))
        (λ w reply rest n. refl)
        (λ w. making_set_starts w id slot v (Constructing id steps held ∷ []) (construction_comes steps id held, tt))
    construction_comes (runs number ∷ steps) id held =
        uncounted_comes (Constructing id (runs number ∷ steps) held) (λ w. constructing d w id (runs number ∷ steps) held)
        (λ w reply rest n. refl)
        (λ w. program_before_starts w number _ (Constructing id steps held ∷ []) (construction_comes steps id held, tt))
    construction_comes (thaws ∷ steps) id held =
        uncounted_comes (Constructing id (thaws ∷ steps) held) (λ w. thawing_made w id steps held) (λ w reply rest n. refl)
        (λ w. thawing_made_starts w id steps held (construction_comes steps id held))

    -- ** the build

    making_starts : (w : World) (place : ℕ) (peer : Option ℕ) (held : Bool) → Starts (making d w place peer held)
    unfolding making
    making_starts w place peer held =
        after_each (known arms.Code (place_at d place)) _ _ (λ p.
        only_such (not (type_of d p.class).is_abstract) arms.Abstract _ _
        (only_such (list_all (has_valid_default d) (specs_of d p.class)) arms.Value _ _
        (construction_comes (construction d w place p) (suc (length w.objects)) held, tt)))

    module _ (items : List Item) (later : Comes (Building items)) where
      object_starts : (w : World) (place : ℕ) → Starts (building_object d w place items)
      unfolding building_object
      object_starts w place =
          after_each (known arms.Code (place_at d place)) _ _ (λ p.
          after_each (peer_for d w p) _ _ (λ peer.
          after_such (making d w place peer true) _ (λ (s : Started). Each Comes s.tasks) _ (making_starts w place peer true)
          (λ made all. each_append Comes made.tasks (Building items ∷ []) all (later, tt))))

      child_starts : (w : World) (place : ℕ) → Starts (building_child d w place items)
      unfolding building_child
      child_starts w place =
          after_each (known arms.Code (place_at d place)) _ _ (λ p.
          after_each (known arms.Code p.parent) _ _ (λ above.
          after_each (held_object w above) _ _ (λ parent.
          after_each (held_object w place) _ _ (λ child.
          after_each (adopted d w parent child) _ _ (λ family. (later, tt))))))

      forward_starts : (w : World) (place slot to : ℕ) → Starts (building_forward d w place slot to items)
      unfolding building_forward set_forward
      forward_starts w place slot to =
          after_each (held_object w place) _ _ (λ id.
          after_each (spec_at d w.objects id slot) _ _ (λ s.
          only_such (is_writable s) arms.Flags _ _ (only_such (not (is_construct_only s)) arms.ConstructOnly _ _
          (after_each (held_object w to) _ _ (λ target. (set id slot (values.object (Some target)), (later, tt)))))))

      binding_starts : (w : World) (number : ℕ) → Starts (building_binding d w number items)
      unfolding building_binding
      binding_starts w number =
          after_each (known arms.Code (slice_get d.bindings number)) _ _ (λ b.
          after_each (held_object w b.source) _ _ (λ source.
          after_each (held_object w b.target) _ _ (λ target.
          either_such (is_disposed (living w.objects source) || is_disposed (living w.objects target)) _ _ _ (later, tt)
          (first b (has_flags 2 b.flags)))))
        where
          first : (b : Bind) (now : Bool) → Each Comes (cond now (Transferring number false ∷ []) [] ++ Building items ∷ [])
          first b true = (transfer number false, (later, tt))
          first b false = (later, tt)

      handler_starts : (w : World) (place number : ℕ) → Starts (building_handler d w place number items)
      unfolding building_handler
      handler_starts w place number =
          after_each (known arms.Code (place_at d place)) _ _ (λ p.
          after_each (known arms.Code (slice_get p.signals number)) _ _ (λ x.
          after_each (held_object w place) _ _ (λ id.
          after_each (held_data w x.with) _ _ (λ arg.
          after_each (known arms.Code (signal_number d p.class x.signal)) _ _ (λ number.
          after_each (detail_at d p.class number x.detail) _ _ (λ detail. (later, tt)))))))

      item_starts : (item : Item) (w : World) → Starts (building d w (item ∷ items))
      item_starts (makes place) w = object_starts w place
      item_starts (adopts place) w = child_starts w place
      item_starts (forwards place slot to) w = forward_starts w place slot to
      item_starts (binds number) w = binding_starts w number
      item_starts (connects place number) w = handler_starts w place number

    build : (items : List Item) → Comes (Building items)
    build [] = uncounted_comes (Building []) (λ w. building d w []) (λ w reply rest n. refl) (λ w. tt)
    build (item ∷ items) =
        uncounted_comes (Building (item ∷ items)) (λ w. building d w (item ∷ items)) (λ w reply rest n. refl)
        (item_starts items (build items) item)

    -- ** requests and sources

    request_starts : (r : Request) (w : World) → Starts (request_step d w r)
    unfolding set_from_event set_given get_from_event asked emit_from_event release_from_event
    request_starts (config.set place slot given) w =
        after_each (held_object w place) _ _ (λ id.
        after_each (spec_at d w.objects id slot) _ _ (λ s.
        only_such (is_writable s) arms.Flags _ _ (only_such (not (is_construct_only s)) arms.ConstructOnly _ _
        (after_each (known arms.Operand (given_value w given)) _ _ (λ v. (set id slot v, tt))))))
    request_starts (config.get place slot) w =
        after_each (held_object w place) _ _ (λ id.
        after_each (spec_at d w.objects id slot) _ _ (λ s.
        after_each (asked w.objects id (value_at slot)) _ _ (λ v. only_such (is_readable s) arms.Flags _ _ tt)))
    request_starts (config.emit place number args detail) w =
        after_each (held_object w place) _ _ (λ id.
        after_each (detail_in d w id number detail) _ _ (λ stands.
        after_each (given_values w args) _ _ (λ given. (emission (new_emission id number stands given true), tt))))
    request_starts (config.release place) w =
        after_each (known arms.Code (place_at d place)) _ _ (λ p. after_each (held_object w place) _ _ (λ id. tt))

    request : (r : Request) → Comes (Handling r)
    request r = uncounted_comes (Handling r) (λ w. request_step d w r) (λ w reply rest n. refl) (request_starts r)

    source_starts : (number : ℕ) (w : World) → Starts (sourcing d w number)
    unfolding sourcing
    source_starts number w =
        after_each (known arms.Code (source_of number w.sources)) _ _ (λ s.
        program_before_starts w s.program _ (Answering number ∷ []) (answering number, tt))

    source : (number : ℕ) → Comes (Due number)
    source number = uncounted_comes (Due number) (λ w. sourcing d w number) (λ w reply rest n. refl) (source_starts number)

    -- ** all tasks

    task_comes : (task : Task) → Comes task
    task_comes (Setting id slot v) = set id slot v
    task_comes (Notifying id slot) = notification id slot
    task_comes (Beginning e) = emission e
    task_comes (Emitting e entries) = emitting entries e
    task_comes (Transferring number back) = transfer number back
    task_comes (Unsetting number) = free number
    task_comes (Thawing id slots) = thaw slots id
    task_comes (Running f) = program f
    task_comes (Answering number) = answering number
    task_comes (Calling c) = call_comes c
    task_comes (Constructing id steps held) = construction_comes steps id held
    task_comes (Building items) = build items
    task_comes (Handling r) = request r
    task_comes (Due number) = source number

    agenda_ends : (agenda : List Task) → Ends agenda
    agenda_ends [] = nothing_ends
    agenda_ends (task ∷ agenda) = task_comes task agenda (agenda_ends agenda)

  within : (k : ℕ) → Within k
  within zero c good near =
      let count = (good_is_within d a.weighed.costs a.weighed.depths most (depth (graph d) a.weighed.depths) c good).0 in
      absurd (omega (arith, near, count))
  within (suc k) c good near = agenda_ends k (within k) c.agenda c.world c.counted good near

  pub comes_to_end : (c : Config) → IsGood d a most c → ComesToEnd d c
  comes_to_end c good = within (suc most) c good (omega arith)
