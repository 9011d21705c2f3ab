-- What the step of each task leaves of the work, of the count and of the lines.
use Rattle.std.proofs.Common.{◌≡◌, ℕ, suc, ◌+◌, ◌*◌, ◌<◌, ◌≤◌, Bool, true, false, cond, not, ◌||◌, nat_lt, List, [], ◌∷◌, ◌++◌, length, Option, Some, None, Ok, Err, slice_get, refl, ap, arith}
use Rattle.std.specs.List.{list_all}
use Rattle.std.specs.Prelude.{IfOk}
use Rattle.std.proofs.lemmas.Bool.Decides.{nat_tests}
use Rattle.ui_machine.specs.Definition.Properties.{has_flags, is_writable}
use Rattle.ui_machine.specs.declared.arm.Arm.TheVariants as arms
use Rattle.ui_machine.specs.Seq.{total}
use Rattle.ui_machine.specs.Definition.Values.{Value}
use Rattle.ui_machine.specs.Definition.{Definition}
use Rattle.ui_machine.specs.Definition.Places.{Bind, Place}
use Rattle.ui_machine.specs.Rules.Ancestry.{is_a}
use Rattle.ui_machine.specs.Output.Lines as lines
use Rattle.ui_machine.specs.Definition.Lookups.{type_of, program_at, place_at, specs_of}
use Rattle.ui_machine.specs.State.Tasks as config
use Rattle.ui_machine.specs.State.Objects.{Object, Objects, changed, living, object_at}
use Rattle.ui_machine.specs.State.Peers.{Reply, method_of}
use Rattle.ui_machine.specs.State.Sources.{source_of}
use Rattle.ui_machine.specs.State.Tasks.{ConstructStep, Item, makes, adopts, connects, PlanEntry, class_handler, handler, transfer, Call, Emission, Frame, Request, Task, Setting, Notifying, Beginning, Emitting, Transferring, Unsetting, Thawing, Running, Answering, Calling, Constructing, Building, Handling, Due}
use Rattle.ui_machine.specs.State.Config.{World, Config, built, Started, starts, said, builder_entry, is_asked, peer_at, is_unbuilt, with_builder_entry, sunk, Left}
use Rattle.ui_machine.specs.Outcome.{After, Answer, known, only_if}
use Rattle.ui_machine.specs.Rules.NotifyQueue.{frozen_less, thawing}
use Rattle.ui_machine.specs.Rules.Programs.{first_frame, all_fit, fits_register, beginning_program, program_before}
use Rattle.ui_machine.specs.Rules.EmissionPlan.{notifying, beginning_emission}
use Rattle.ui_machine.specs.Rules.Accumulation.{resulting, passed_down, received, received_by, taken, told, ending, given_to, in_stage, instance_of, running_handler, taking_entry}
use Rattle.ui_machine.specs.Rules.Transfers.{transfer_for, transferring, unsetting}
use Rattle.ui_machine.specs.Rules.Construction.{construction, has_valid_default, not_forward, initially_unowned, making, with_object, new_object, thawing_made, constructed, apply_construct_property, constructed_runs}
use Rattle.ui_machine.specs.Rules.Sets.{is_disposed, setting, spec_at}
use Rattle.ui_machine.specs.Steps.{most_steps, before, counted, uncounted, left, act}
use Rattle.ui_machine.specs.Rules.Build.{building, building_binding, building_child, building_forward, building_handler, building_object, connection, held_data, held_object, new_binding, peer_for, with_binding}
use Rattle.ui_machine.specs.Rules.Connections.{Connection, detail_at, is_too_late, signal_number, with_handler}
use Rattle.ui_machine.specs.Rules.Children.{adopted}
use Rattle.ui_machine.specs.Rules.Events.{set_from_event, get_from_event, emit_from_event, release_from_event, request_step}
use Rattle.ui_machine.specs.Rules.MainLoop.{source_data, sourcing}
use Rattle.ui_machine.specs.Instructions.{running}
use Rattle.ui_machine.specs.Instructions.Peers.{called, calling_on, left_with, replied, uncalled, with_method}
use Rattle.ui_machine.specs.Instructions.Registers.{with_register}
use Rattle.signal_core.specs.Laws.{is_passed_over}
use Rattle.ui_machine.specs.State.Bindings.{Binding, binding_of, with_busy}
use Rattle.ui_machine.specs.State.Handlers.{Handler, handler_of}
use Rattle.engine_world.specs.EngineView.{is_counted}
use Rattle.engine_world.specs.Standing.{entries_due, makes_no_transfer, past_turns}
use Rattle.ui_machine.specs.Prefix.{IsPrefix}
use Rattle.ui_machine.proofs.Prefixes.{prefix_same, prefix_one}
use Rattle.machine_laws.proofs.KeptProofs.{only_keeps, running_grows}
use Rattle.engine_world.specs.Measure.{sets_of_place, weight, waiting_in, waiting}
use Rattle.engine_world.specs.MakingView.{making_of_object}
use Rattle.engine_stack.proofs.Lists.{total-append}
use Rattle.engine_world.proofs.Floats.{Quietly, if_ok_at, bind_ok, one_floats, without_less}
use Rattle.engine_dispatches.proofs.Quiet.{Calm, notifying_calm, beginning_calm, carrying_emit_calm, setting_calm, building_forward_calm, carrying_set_calm, carrying_get_calm, carrying_release_calm, thawing_calm, transferring_calm}
use Rattle.engine_dispatches.proofs.Falls.{Falls, setting_falls, thawing_falls, thawing_made_falls, building_forward_falls, carrying_set_falls, carrying_get_falls, carrying_emit_falls, carrying_release_falls}
use Rattle.engine_dispatches.proofs.Joining.{Joins, adopted_joins}
use Rattle.engine_world.proofs.Building.{few_steps, few_early}

-- what the step of a task leads to
pub record Passes (d : Definition) (w : World) (t : Task) (rest : List Task) (n : ℕ) (e : Config) : Type 0 where
  pub falls : is_counted t ≡ false → total (weight d) e.agenda + waiting e.world.objects + length e.world.floating < total (weight d) (t ∷ rest) + waiting w.objects + length w.floating
  pub stays : is_counted t ≡ false → e.counted ≡ n
  pub counts : is_counted t ≡ true → (n < most_steps) × (e.counted ≡ suc n)
  pub grows : IsPrefix w.transcript e.world.transcript

both : {A : Type 0} (P Q R : A → Type 0) (a : Answer A) → IfOk a P → IfOk a Q → ((x : A) → P x → Q x → R x) → IfOk a R
both P Q R (Ok x) p q h = h x p q
both P Q R (Err arm) p q h = tt

module _ (d : Definition) (w : World) (rest : List Task) (n : ℕ) where
  uncounted_if : (t : Task) (a : Answer Started) → IfOk a (λ s. Passes d w t rest n (before rest n s)) → IfOk (uncounted rest n a) (Passes d w t rest n)
  uncounted_if t (Ok s) h = h
  uncounted_if t (Err arm) h = tt

  -- a step that is not counted
  steady : (t : Task) → is_counted t ≡ false → (s : Started) → Calm w s → Falls d w (weight d t) s → Passes d w t rest n (before rest n s)
  steady t plain s calm falls = record {
    falls = λ _. let l = falls.less in let f = ap (λ (fl : List ℕ). length fl) calm.floating in omega (arith, l, f, total-append (weight d) s.tasks rest);
    stays = λ _. refl;
    counts = λ yes. cc (yes, plain);
    grows = calm.grows;
  }

  steadily : (t : Task) → is_counted t ≡ false → (a : Answer Started) → IfOk a (Calm w) → IfOk a (Falls d w (weight d t)) → IfOk (uncounted rest n a) (Passes d w t rest n)
  steadily t plain a calm falls = uncounted_if t a (both (Calm w) (Falls d w (weight d t)) (λ s. Passes d w t rest n (before rest n s)) a calm falls (steady t plain))

  -- a counted step
  counts_one : (t : Task) → is_counted t ≡ true → (a : Answer Started) → IfOk a (Calm w) → IfOk (counted rest n a) (Passes d w t rest n)
  counts_one t is = by (nat_lt n most_steps) refl
    where
      by : (b : Bool) → nat_lt n most_steps ≡ b → (a : Answer Started) → IfOk a (Calm w) → IfOk (only_if b arms.Steps (uncounted rest (suc n) a)) (Passes d w t rest n)
      by false large a calm = tt
      by true small (Err arm) calm = tt
      by true small (Ok s) calm = record {
        falls = λ plain. cc (is, plain);
        stays = λ plain. cc (is, plain);
        counts = λ _. ((let few : n < most_steps = grind (arith, nat_tests) in few), refl);
        grows = calm.grows;
      }

  -- ** ends of notifications

  -- a result that goes down leaves the same tasks to do
  down_weighs : (ts : List Task) (v : Option Value) → IfOk (passed_down ts v) (λ agenda. total (weight d) agenda ≡ total (weight d) ts)
  unfolding received_by
  down_weighs [] v = refl
  down_weighs (Running f ∷ ts) v = by f.into v
    where
      Same : List Task → Type 0
      Same = λ agenda. total (weight d) agenda ≡ total (weight d) (Running f ∷ ts)

      by : (into : Option ℕ) (v : Option Value) → IfOk (taken into f ts v) Same
      by None v = refl
      by (Some to) None = tt
      by (Some to) (Some v) = bind_ok (with_register to (Some v) f.registers) _ Same (λ new _. refl)
  down_weighs (task ∷ ts) v = refl

  ending_at : (e : Emission) (agenda : List Task) → total (weight d) agenda ≡ total (weight d) rest → (v : World) → v.objects ≡ w.objects → v.floating ≡ w.floating → IsPrefix w.transcript v.transcript
      → Passes d w (Emitting e []) rest n (record { world = v; agenda = agenda; counted = n })
  ending_at e agenda weighs v objects floating grows = record {
    falls = λ _. let same = ap waiting objects in let f = ap (λ (fl : List ℕ). length fl) floating in omega (arith, same, f, weighs);
    stays = λ _. refl;
    counts = λ yes. cc yes;
    grows = grows;
  }

  ended : (e : Emission) (agenda : List Task) → total (weight d) agenda ≡ total (weight d) rest → (v : Option Value) (b : Bool)
      → Passes d w (Emitting e []) rest n (record { world = told d w b v; agenda = agenda; counted = n })
  ended e agenda weighs None b = ending_at e agenda weighs w refl refl (prefix_same w.transcript)
  ended e agenda weighs (Some v) false = ending_at e agenda weighs w refl refl (prefix_same w.transcript)
  ended e agenda weighs (Some v) true = ending_at e agenda weighs (told d w true (Some v)) refl refl (prefix_one w.transcript _)

  left_if : (t : Task) (a : Answer Left) → IfOk a (λ l. Passes d w t rest n (record { world = l.world; agenda = l.agenda; counted = n })) → IfOk (left n a) (Passes d w t rest n)
  unfolding left
  left_if t (Ok l) h = h
  left_if t (Err arm) h = tt

  ending_passes : (e : Emission) → IfOk (left n (ending d w e rest)) (Passes d w (Emitting e []) rest n)
  unfolding ending
  ending_passes e = left_if (Emitting e []) (ending d w e rest) (bind_ok (resulting d w e) _ Left_passes (λ v _. bind_ok (passed_down rest v) _ Left_passes (λ agenda is.
      ended e agenda (if_ok_at (λ (ts : List Task). total (weight d) ts ≡ total (weight d) rest) (passed_down rest v) agenda (down_weighs rest v) is) v e.by_event)))
    where
      Left_passes : Left → Type 0
      Left_passes = λ l. Passes d w (Emitting e []) rest n (record { world = l.world; agenda = l.agenda; counted = n })

  -- ** turns

  -- a step of an emission with some entries left that goes on behind a task
  onward : (e m : Emission) (entry : PlanEntry) (entries : List PlanEntry) (s : Started) → Quietly w s.world → total (weight d) s.tasks ≤ 1 → waiting s.world.objects ≡ waiting w.objects
      → Passes d w (Emitting e (entry ∷ entries)) rest n (before rest n (record { world = s.world; tasks = s.tasks ++ Emitting m entries ∷ [] }))
  onward e m entry entries s quiet few waits = record {
    falls = λ _.
        let f = ap (λ (fl : List ℕ). length fl) quiet.floating in
        omega (arith, few, waits, f, total-append (weight d) (s.tasks ++ Emitting m entries ∷ []) rest, total-append (weight d) s.tasks (Emitting m entries ∷ []));
    stays = λ _. refl;
    counts = λ yes. cc yes;
    grows = quiet.grows;
  }

  -- a program begins
  Begins : Started → Type 0
  Begins = λ s. Quietly w s.world × (total (weight d) s.tasks ≤ 1) × (waiting s.world.objects ≡ waiting w.objects)

  begins : (program : ℕ) (args : List Value) → IfOk (beginning_program d w program args) Begins
  unfolding beginning_program Begins
  begins program args = bind_ok (known arms.Code (program_at d program)) _ Begins (λ p _.
      only (all_fit (fits_register d w.objects) args p.params) (record { world = said d w (lines.run p.name); tasks = Running (first_frame program p args) ∷ [] })
      (record { floating = refl; grows = prefix_one w.transcript _ }, omega arith, refl))
    where
      only : (b : Bool) (s : Started) → Begins s → IfOk (only_if b arms.Parameters (Ok s)) Begins
      only true s h = h
      only false s h = tt

  begins_before : (program : ℕ) (args : List Value) (tasks : List Task) (P : Started → Type 0) → ((s : Started) → Begins s → P (record { world = s.world; tasks = s.tasks ++ tasks }))
      → IfOk (program_before d w program args tasks) P
  unfolding program_before
  begins_before program args tasks P on = bind_ok (beginning_program d w program args) _ P (λ s is. on s (if_ok_at Begins (beginning_program d w program args) s (begins program args) is))

  taking_passes : (e : Emission) (entry : PlanEntry) (entries : List PlanEntry) → IfOk (act d w None (Emitting e (entry ∷ entries) ∷ rest) n) (Passes d w (Emitting e (entry ∷ entries)) rest n)
  unfolding Begins
  taking_passes e entry entries = uncounted_if (Emitting e (entry ∷ entries)) (taking_entry d w e entries entry) (by entry)
    where
      P : PlanEntry → Started → Type 0
      P = λ entry s. Passes d w (Emitting e (entry ∷ entries)) rest n (before rest n s)

      runs : (entry : PlanEntry) (m : Emission) (program : ℕ) (args : List Value) → IfOk (program_before d w program args (Emitting m entries ∷ [])) (P entry)
      runs entry m program args = begins_before program args (Emitting m entries ∷ []) (P entry) (λ s b. onward e m entry entries s b.0 b.1 b.2)

      none : (entry : PlanEntry) (tasks : List Task) → total (weight d) tasks ≤ 1 → P entry (record { world = w; tasks = tasks ++ Emitting e entries ∷ [] })
      none entry tasks few = onward e e entry entries (record { world = w; tasks = tasks }) (record { floating = refl; grows = prefix_same w.transcript }) few refl

      blocked : (number : ℕ) (h : Handler) (b : Bool) → IfOk (cond b (starts w (Emitting e entries ∷ [])) (program_before d w h.program (given_to e h) (Emitting e entries ∷ []))) (P (handler number))
      blocked number h true = none (handler number) [] (omega arith)
      blocked number h false = runs (handler number) e h.program (given_to e h)

      of_handler : (number : ℕ) (o : Option Handler) → IfOk (running_handler d w e entries o) (P (handler number))
      of_handler number None = none (handler number) [] (omega arith)
      of_handler number (Some h) = blocked number h (nat_lt 0 h.blocks)

      of_binding : (number : ℕ) (back : Bool) (o : Option Binding) → IfOk (starts w (transfer_for o number back ++ Emitting e entries ∷ [])) (P (transfer number back))
      of_binding number back None = none (transfer number back) [] (omega arith)
      of_binding number back (Some b) = busy b.busy
        where
          busy : (x : Bool) → IfOk (starts w (cond x [] (Transferring number back ∷ []) ++ Emitting e entries ∷ [])) (P (transfer number back))
          busy true = none (transfer number back) [] (omega arith)
          busy false = none (transfer number back) (Transferring number back ∷ []) (omega arith)

      by : (entry : PlanEntry) → IfOk (taking_entry d w e entries entry) (P entry)
      by (class_handler program cleanup) = runs (class_handler program cleanup) (in_stage cleanup e) program (instance_of e ∷ e.args)
      by (handler number) = of_handler number (handler_of number w.handlers)
      by (transfer number back) = of_binding number back (binding_of number w.bindings)

  -- an emission has less to do once it comes first
  first_passes : (e : Emission) (entries : List PlanEntry) (c : Config) → Passes d w (Emitting e (entries_due w entries)) rest n c → Passes d w (Emitting e entries) rest n c
  first_passes e entries c p = record {
    falls = λ plain. let less = p.falls refl in omega (arith, less, fewer entries);
    stays = λ plain. p.stays refl;
    counts = λ yes. cc yes;
    grows = p.grows;
  }
    where
      fewer : (entries : List PlanEntry) → length (entries_due w entries) ≤ length entries
      fewer [] = omega arith
      fewer (class_handler program cleanup ∷ entries) = omega arith
      fewer (transfer number back ∷ entries) = by (makes_no_transfer (binding_of number w.bindings)) (fewer entries)
        where
          by : (b : Bool) → length (entries_due w entries) ≤ length entries → length (cond b (entries_due w entries) (transfer number back ∷ entries)) ≤ suc (length entries)
          by true less = omega (arith, less)
          by false less = omega arith
      fewer (handler number ∷ entries) = by (is_passed_over (handler_of number w.handlers)) (fewer entries)
        where
          by : (b : Bool) → length (entries_due w entries) ≤ length entries → length (cond b (entries_due w entries) (handler number ∷ entries)) ≤ suc (length entries)
          by true less = omega (arith, less)
          by false less = omega arith

  -- ** programs

  -- it takes an instruction, which is counted
  ran : (f : Frame) → n < most_steps → (a : Answer Left) → IfOk a (λ l. IsPrefix w.transcript l.world.transcript)
      → IfOk (left (suc n) a) (Passes d w (Running f) rest n)
  unfolding left
  ran f small (Ok l) grows = record {
    falls = λ no. cc no;
    stays = λ no. cc no;
    counts = λ _. (small, refl);
    grows = grows;
  }
  ran f small (Err arm) grows = tt

  running_passes : (f : Frame) → IfOk (act d w None (Running f ∷ rest) n) (Passes d w (Running f) rest n)
  running_passes f = by (nat_lt n most_steps) refl
    where
      by : (b : Bool) → nat_lt n most_steps ≡ b → IfOk (only_if b arms.Steps (left (suc n) (running d w rest f))) (Passes d w (Running f) rest n)
      by true small = ran f (let few : n < most_steps = grind (arith, nat_tests) in few) (running d w rest f) (running_grows d w rest f)
      by false large = tt

  -- ** constructions

  constructed_passes : (id : ℕ) (held : Bool) → IfOk (uncounted rest n (constructed w id held)) (Passes d w (Constructing id [] held) rest n)
  unfolding constructed
  constructed_passes id false =
      steady (Constructing id [] false) refl (record { world = w; tasks = [] })
      (record { floating = refl; grows = prefix_same w.transcript })
      (record { less = omega arith })
  constructed_passes id true = uncounted_if (Constructing id [] true) (constructed w id true) (bind_ok (object_at w.objects id) _ P (λ o _. by o.place (is_unbuilt (builder_entry w o.place)) refl))
    where
      P : Started → Type 0
      P = λ s. Passes d w (Constructing id [] true) rest n (before rest n s)

      by : (place : ℕ) (b : Bool) → is_unbuilt (builder_entry w place) ≡ b → IfOk (only_if b arms.Code (starts (sunk (with_builder_entry w place (built id)) id) [])) P
      by place true new = record {
        falls = λ _. omega (arith, without_less id w.floating);
        stays = λ _. refl;
        counts = λ yes. cc yes;
        grows = prefix_same w.transcript;
      }
      by place false old = tt

  -- a step of a construction
  handing : (t : Task) → is_counted t ≡ false → (s : Started) → Quietly w s.world → Falls d w (weight d t) s → Passes d w t rest n (before rest n s)
  handing t plain s quiet falls = record {
    falls = λ _. let l = falls.less in let f = ap (λ (fl : List ℕ). length fl) quiet.floating in omega (arith, l, f, total-append (weight d) s.tasks rest);
    stays = λ _. refl;
    counts = λ yes. cc (yes, plain);
    grows = quiet.grows;
  }

  sets_passes : (id slot : ℕ) (v : Value) (steps : List ConstructStep) (held : Bool) → IfOk (uncounted rest n (apply_construct_property d w id slot v (Constructing id steps held ∷ []))) (Passes d w (Constructing id (config.sets slot v ∷ steps) held) rest n)
  unfolding apply_construct_property
  sets_passes id slot v steps held = uncounted_if whole (apply_construct_property d w id slot v (Constructing id steps held ∷ [])) (bind_ok (spec_at d w.objects id slot) _ P (λ s _. by (is_writable s)))
    where
      whole : Task
      whole = Constructing id (config.sets slot v ∷ steps) held

      P : Started → Type 0
      P = λ s. Passes d w whole rest n (before rest n s)

      by : (b : Bool) → IfOk (only_if b arms.Flags (starts w (Setting id slot v ∷ Constructing id steps held ∷ []))) P
      by true = handing whole refl (record { world = w; tasks = Setting id slot v ∷ Constructing id steps held ∷ [] })
          (record { floating = refl; grows = prefix_same w.transcript })
          (record { less = omega arith })
      by false = tt

  runs_passes : (id program : ℕ) (steps : List ConstructStep) (held : Bool) → (args : List Value)
      → IfOk (uncounted rest n (program_before d w program args (Constructing id steps held ∷ []))) (Passes d w (Constructing id (config.runs program ∷ steps) held) rest n)
  unfolding Begins
  runs_passes id program steps held args = uncounted_if whole (program_before d w program args (Constructing id steps held ∷ []))
      (begins_before program args (Constructing id steps held ∷ []) (λ s. Passes d w whole rest n (before rest n s)) (λ s b.
      handing whole refl (record { world = s.world; tasks = s.tasks ++ Constructing id steps held ∷ [] })
      b.0
      (record { less = let l = b.1 in let k = b.2 in omega (arith, l, k, total-append (weight d) s.tasks (Constructing id steps held ∷ [])) })))
    where
      whole : Task
      whole = Constructing id (config.runs program ∷ steps) held

  thaws_passes : (id : ℕ) (steps : List ConstructStep) (held : Bool) → IfOk (uncounted rest n (thawing_made w id steps held)) (Passes d w (Constructing id (config.thaws ∷ steps) held) rest n)
  unfolding thawing_made
  thaws_passes id steps held = uncounted_if whole (thawing_made w id steps held)
      (both Quiet (Falls d w (weight d whole)) (λ s. Passes d w whole rest n (before rest n s)) (thawing_made w id steps held) quiet (thawing_made_falls d w id steps held)
      (λ s h falls. handing whole refl s h falls))
    where
      whole : Task
      whole = Constructing id (config.thaws ∷ steps) held

      Quiet : Started → Type 0
      Quiet = λ s. Quietly w s.world

      quiet : IfOk (thawing_made w id steps held) Quiet
      quiet = bind_ok (changed w.objects id frozen_less) _ Quiet (λ r e. record { floating = refl; grows = prefix_same w.transcript })

  constructing_passes : (id : ℕ) (steps : List ConstructStep) (held : Bool) → IfOk (act d w None (Constructing id steps held ∷ rest) n) (Passes d w (Constructing id steps held) rest n)
  constructing_passes id [] held = constructed_passes id held
  constructing_passes id (config.sets slot v ∷ steps) held = sets_passes id slot v steps held
  constructing_passes id (config.runs program ∷ steps) held = runs_passes id program steps held _
  constructing_passes id (config.thaws ∷ steps) held = thaws_passes id steps held

  -- ** thaws and events

  thawing_passes : (id : ℕ) (slots : List ℕ) → IfOk (act d w None (Thawing id slots ∷ rest) n) (Passes d w (Thawing id slots) rest n)
  thawing_passes id slots = steadily (Thawing id slots) refl (thawing w id slots) (thawing_calm w id slots) (thawing_falls d w id slots)

  setting_passes : (id slot : ℕ) (v : Value) → IfOk (act d w None (Setting id slot v ∷ rest) n) (Passes d w (Setting id slot v) rest n)
  setting_passes id slot v = steadily (Setting id slot v) refl (setting d w id slot v) (setting_calm d w id slot v) (setting_falls d w id slot v)

  request_passes : (r : Request) → IfOk (uncounted rest n (request_step d w r)) (Passes d w (Handling r) rest n)
  request_passes (config.set place slot given) =
      steadily (Handling (config.set place slot given)) refl (set_from_event d w place slot given) (carrying_set_calm d w place slot given) (carrying_set_falls d w place slot given)
  request_passes (config.get place slot) = steadily (Handling (config.get place slot)) refl (get_from_event d w place slot) (carrying_get_calm d w place slot) (carrying_get_falls d w place slot)
  request_passes (config.emit place signal args detail) =
      steadily (Handling (config.emit place signal args detail)) refl (emit_from_event d w place signal args detail) (carrying_emit_calm d w place signal args detail) (carrying_emit_falls d w place signal args detail)
  request_passes (config.release place) = steadily (Handling (config.release place)) refl (release_from_event d w place) (carrying_release_calm d w place) (carrying_release_falls d w place)

  -- ** sources, bindings and calls

  due_passes : (source : ℕ) → IfOk (uncounted rest n (sourcing d w source)) (Passes d w (Due source) rest n)
  unfolding sourcing Begins
  due_passes source = uncounted_if (Due source) (sourcing d w source) (bind_ok (known arms.Code (source_of source w.sources)) _ P (λ s _.
      begins_before s.program (source_data s.arg) (Answering source ∷ []) P (λ t b.
      handing (Due source) refl (record { world = t.world; tasks = t.tasks ++ Answering source ∷ [] }) b.0
      (record { less = let l = b.1 in let k = b.2 in omega (arith, l, k, total-append (weight d) t.tasks (Answering source ∷ [])) }))))
    where
      P : Started → Type 0
      P = λ s. Passes d w (Due source) rest n (before rest n s)

  unsetting_passes : (number : ℕ) → IfOk (uncounted rest n (unsetting w number)) (Passes d w (Unsetting number) rest n)
  unsetting_passes number =
      steady (Unsetting number) refl (record { world = record w { bindings = with_busy number false w.bindings }; tasks = [] })
      (record { floating = refl; grows = prefix_same w.transcript })
      (record { less = omega arith })

  received_weighs : (ts : List Task) (to : ℕ) (v : Option Value) → IfOk (received ts to v) (λ agenda. total (weight d) agenda ≡ total (weight d) ts)
  unfolding received_by
  received_weighs [] to v = tt
  received_weighs (Running f ∷ ts) to v = bind_ok (with_register to v f.registers) _ (λ agenda. total (weight d) agenda ≡ total (weight d) (Running f ∷ ts)) (λ new _. refl)
  received_weighs (task ∷ ts) to v = tt

  module _ (call : Call) where
    abbrev Answered : Left → Type 0
    Answered l = Passes d w (Calling call) rest n (record { world = l.world; agenda = l.agenda; counted = n })

    answered : (v : World) → v.objects ≡ w.objects → v.floating ≡ w.floating → IsPrefix w.transcript v.transcript → (x : Value) → IfOk (left_with v rest call.to x) Answered
    unfolding left_with
    answered v objects floating grows x = bind_ok (received rest call.to (Some x)) _ Answered (λ agenda is.
        let weighs = if_ok_at (λ (ts : List Task). total (weight d) ts ≡ total (weight d) rest) (received rest call.to (Some x)) agenda (received_weighs rest call.to (Some x)) is in
        record {
          falls = λ _. let same = ap waiting objects in let f = ap (λ (fl : List ℕ). length fl) floating in omega (arith, same, f, weighs);
          stays = λ _. refl;
          counts = λ yes. cc yes;
          grows = grows;
        })

    replied_passes : (reply : Option Reply) → IfOk (replied d w call rest reply) Answered
    unfolding called with_method
    replied_passes None = tt
    replied_passes (Some reply) = bind_ok (known arms.Call (peer_at w call.peer)) _ Answered (λ p _. bind_ok (known arms.Call (method_of p call.method)) _ Answered (λ m _.
        answered _ refl refl (prefix_one w.transcript _) _))

    uncalled_passes : IfOk (uncalled d w call rest) Answered
    unfolding uncalled with_method
    uncalled_passes = bind_ok (known arms.Call (peer_at w call.peer)) _ Answered (λ p _. bind_ok (known arms.Call (method_of p call.method)) _ Answered (λ m _.
        answered _ refl refl (prefix_one w.transcript _) _))

    calling_passes : (reply : Option Reply) → IfOk (left n (calling_on d w call rest reply)) (Passes d w (Calling call) rest n)
    calling_passes reply = left_if (Calling call) (calling_on d w call rest reply) (by (is_asked w call.peer))
      where
        by : (b : Bool) → IfOk (cond b (replied d w call rest reply) (uncalled d w call rest)) Answered
        by true = replied_passes reply
        by false = uncalled_passes

  -- ** the build

  waiting_more : (os : Objects) (o : Object) → o.queue ≡ [] → waiting (os ++ Some o ∷ []) ≡ waiting os
  waiting_more os o none = let e = ap (λ (q : List ℕ). 2 * length q) none in omega (arith, e, total-append waiting_in os (Some o ∷ []))

  -- an object is made, and its construction begins
  made : (place : ℕ) (p : Place) (peer : Option ℕ) (items : List Item) → place_at d place ≡ Some p → Passes d w (Building (makes place ∷ items)) rest n (record {
    world = said d (with_object d w (new_object d place p peer)) (lines.construct (suc (length w.objects)) (type_of d p.class).name);
    agenda = Constructing (suc (length w.objects)) (making_of_object d w p.class (not_forward place p.given)) true ∷ Building items ∷ rest;
    counted = n;
  })
  made place p peer items at = record {
    falls = λ _.
        let few = few_steps d w p.class (not_forward place p.given) in
        let early = few_early place p.given in
        let slots : sets_of_place d (place_at d place) ≡ length (specs_of d p.class) + length (constructed_runs d p.class) + length p.given = ap (sets_of_place d) at in
        let one = one_floats (is_a d.types p.class initially_unowned) (suc (length w.objects)) w.floating in
        omega (arith, few, early, slots, one, waiting_more w.objects (new_object d place p peer) refl);
    stays = λ _. refl;
    counts = λ yes. cc yes;
    grows = (prefix_one w.transcript _);
  }

  known_some : (o : Option Place) (p : Place) → known arms.Code o ≡ Ok p → o ≡ Some p
  known_some None p is = cc is
  known_some (Some q) p is = let same : q ≡ p = cc is in ap (λ r. Some r) same

  object_passes : (place : ℕ) (items : List Item) → IfOk (uncounted rest n (building_object d w place items)) (Passes d w (Building (makes place ∷ items)) rest n)
  unfolding building_object making
  object_passes place items = uncounted_if whole (building_object d w place items)
      (bind_ok (known arms.Code (place_at d place)) _ P (λ p _. bind_ok (peer_for d w p) _ P (λ peer _. bind_ok (making d w place peer true) _ P (λ s is.
      if_ok_at Before (making d w place peer true) s (makes_one peer) is))))
    where
      whole : Task
      whole = Building (makes place ∷ items)

      P : Started → Type 0
      P = λ s. Passes d w whole rest n (before rest n s)

      Before : Started → Type 0
      Before = λ s. P (record { world = s.world; tasks = s.tasks ++ Building items ∷ [] })

      begun : (p : Place) → Option ℕ → Answer Started
      begun p peer = starts (said d (with_object d w (new_object d place p peer)) (lines.construct (suc (length w.objects)) (type_of d p.class).name))
          (Constructing (suc (length w.objects)) (construction d w place p) true ∷ [])

      makes_one : (peer : Option ℕ) → IfOk (making d w place peer true) Before
      makes_one peer = bind_ok (known arms.Code (place_at d place)) _ Before (λ p at.
          only_keeps (not (type_of d p.class).is_abstract) arms.Abstract (only_if (list_all (has_valid_default d) (specs_of d p.class)) arms.Value (begun p peer)) Before
          (only_keeps (list_all (has_valid_default d) (specs_of d p.class)) arms.Value (begun p peer) Before (made place p peer items (known_some (place_at d place) p at))))

  -- a signal is connected
  handler_passes : (place number : ℕ) (items : List Item)
      → IfOk (uncounted rest n (building_handler d w place number items)) (Passes d w (Building (connects place number ∷ items)) rest n)
  unfolding building_handler
  handler_passes place number items = uncounted_if whole (building_handler d w place number items)
      (bind_ok (known arms.Code (place_at d place)) _ P (λ p _. bind_ok (known arms.Code (slice_get p.signals number)) _ P (λ a _. bind_ok (held_object w place) _ P (λ id _.
      bind_ok (held_data w a.with) _ P (λ arg _. bind_ok (known arms.Code (signal_number d p.class a.signal)) _ P (λ signal _. bind_ok (detail_at d p.class signal a.detail) _ P (λ detail _.
      by (connection id signal detail a arg) (is_too_late w.objects id arg))))))))
    where
      whole : Task
      whole = Building (connects place number ∷ items)

      P : Started → Type 0
      P = λ s. Passes d w whole rest n (before rest n s)

      by : (c : Connection) (late : Bool) → P (record { world = cond late w (with_handler w c); tasks = Building items ∷ [] })
      by c true = record { falls = λ _. omega arith; stays = λ _. refl; counts = λ yes. cc yes; grows = prefix_same w.transcript }
      by c false = record {
        falls = λ _. omega arith;
        stays = λ _. refl;
        counts = λ yes. cc yes;
        grows = prefix_same w.transcript;
      }

  -- an object becomes its parent's child, or does not
  adopting_passes : (place : ℕ) (items : List Item) → IfOk (uncounted rest n (building_child d w place items)) (Passes d w (Building (adopts place ∷ items)) rest n)
  unfolding building_child
  adopting_passes place items = uncounted_if whole (building_child d w place items)
      (bind_ok (known arms.Code (place_at d place)) _ P (λ p _. bind_ok (known arms.Code p.parent) _ P (λ above _. bind_ok (held_object w above) _ P (λ parent _.
      bind_ok (held_object w place) _ P (λ child _. bind_ok (adopted d w parent child) _ P (λ family is.
      by family.state (if_ok_at (λ (r : After World Bool). Joins w r.state) (adopted d w parent child) family (adopted_joins d w parent child) is)))))))
    where
      whole : Task
      whole = Building (adopts place ∷ items)

      P : Started → Type 0
      P = λ s. Passes d w whole rest n (before rest n s)

      by : (v : World) → Joins w v → P (record { world = v; tasks = Building items ∷ [] })
      by v joins = record {
        falls = λ _. omega (arith, joins.waits, joins.floats);
        stays = λ _. refl;
        counts = λ yes. cc yes;
        grows = joins.grows;
      }

  -- a binding is made, or is not
  binding_passes : (number : ℕ) (items : List Item) → IfOk (uncounted rest n (building_binding d w number items)) (Passes d w (Building (config.binds number ∷ items)) rest n)
  unfolding building_binding
  binding_passes number items = uncounted_if whole (building_binding d w number items)
      (bind_ok (known arms.Code (slice_get d.bindings number)) _ P (λ b _. bind_ok (held_object w b.source) _ P (λ source _. bind_ok (held_object w b.target) _ P (λ target _.
      by b source target (is_disposed (living w.objects source) || is_disposed (living w.objects target)) (has_flags 2 b.flags)))))
    where
      whole : Task
      whole = Building (config.binds number ∷ items)

      P : Started → Type 0
      P = λ s. Passes d w whole rest n (before rest n s)

      by : (b : Bind) (source target : ℕ) (disposed sync : Bool) → IfOk (cond disposed (starts w (Building items ∷ []))
          (starts (with_binding w (new_binding number b source target)) (cond sync (Transferring number false ∷ []) [] ++ Building items ∷ []))) P
      by b source target true sync = record { falls = λ _. omega arith; stays = λ _. refl; counts = λ yes. cc yes; grows = prefix_same w.transcript }
      by b source target false true = record { falls = λ _. omega arith; stays = λ _. refl; counts = λ yes. cc yes; grows = prefix_same w.transcript }
      by b source target false false = record { falls = λ _. omega arith; stays = λ _. refl; counts = λ yes. cc yes; grows = prefix_same w.transcript }

  building_passes : (items : List Item) → IfOk (uncounted rest n (building d w items)) (Passes d w (Building items) rest n)
  building_passes [] =
      steady (Building []) refl (record { world = w; tasks = [] })
      (record { floating = refl; grows = prefix_same w.transcript })
      (record { less = omega arith })
  building_passes (makes place ∷ items) = object_passes place items
  building_passes (adopts place ∷ items) = adopting_passes place items
  building_passes (config.forwards place slot to ∷ items) =
      steadily (Building (config.forwards place slot to ∷ items)) refl (building_forward d w place slot to items) (building_forward_calm d w place slot to items) (building_forward_falls d w place slot to items)
  building_passes (config.binds number ∷ items) = binding_passes number items
  building_passes (connects place number ∷ items) = handler_passes place number items

  -- ** tasks

  task_passes : (reply : Option Reply) (t : Task) → IfOk (act d w reply (t ∷ rest) n) (Passes d w t rest n)
  task_passes reply (Setting id slot v) = setting_passes id slot v
  task_passes reply (Notifying id slot) = counts_one (Notifying id slot) refl (notifying d w id slot) (notifying_calm d w id slot)
  task_passes reply (Beginning e) = counts_one (Beginning e) refl (beginning_emission d w e) (beginning_calm d w e)
  task_passes reply (Emitting e []) = ending_passes e
  task_passes reply (Emitting e (entry ∷ entries)) = taking_passes e entry entries
  task_passes reply (Transferring number back) = counts_one (Transferring number back) refl (transferring d w number back) (transferring_calm d w number back)
  task_passes reply (Unsetting number) = unsetting_passes number
  task_passes reply (Thawing id slots) = thawing_passes id slots
  task_passes reply (Running f) = running_passes f
  task_passes reply (Answering source) = tt
  task_passes reply (Calling call) = calling_passes call reply
  task_passes reply (Constructing id steps held) = constructing_passes id steps held
  task_passes reply (Building items) = building_passes items
  task_passes reply (Handling r) = request_passes r
  task_passes reply (Due source) = due_passes source

  -- what the step of a task leads to once an emission is past the turns that are passed over
  pub acted : (reply : Option Reply) (t : Task) → IfOk (act d w reply (past_turns w t ∷ rest) n) (Passes d w t rest n)
  acted reply (Emitting e entries) =
      weaker (act d w reply (Emitting e (entries_due w entries) ∷ rest) n) (λ c p. first_passes e entries c p) (task_passes reply (Emitting e (entries_due w entries)))
    where
      weaker : {P Q : Config → Type 0} (a : Answer Config) → ((c : Config) → P c → Q c) → IfOk a P → IfOk a Q
      weaker (Ok c) on p = on c p
      weaker (Err arm) on p = tt
  acted reply task = task_passes reply task
