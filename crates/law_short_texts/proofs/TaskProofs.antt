-- A task keeps all values short.
use Rattle.std.proofs.Common.{ℕ, zero, suc, ◌-◌, Bool, true, false, not, List, [], ◌∷◌, ◌++◌, map, replicate, Option, None, Some, Ok, Err, ◌&&◌, ◌||◌}
use Rattle.std.specs.Prelude.{IfOk, IfSome, length, nat_lt, slice_get}
use Rattle.ui_machine.specs.declared.arm.Arm.TheVariants as arms
use Rattle.ui_machine.specs.Definition.{Definition}
use Rattle.ui_machine.specs.Definition.Lookups.{place_at, program_at, spec_of}
use Rattle.ui_machine.specs.Definition.Places.{Given}
use Rattle.ui_machine.specs.Definition.Programs.{Program}
use Rattle.ui_machine.specs.Definition.Properties.{Spec, has_flags, is_construct_only, is_lax, is_readable, is_writable}
use Rattle.ui_machine.specs.Definition.Values.{Value}
use Rattle.ui_machine.specs.Definition.Values as values
use Rattle.ui_machine.specs.Instructions.{running}
use Rattle.ui_machine.specs.Instructions.Peers.{called, calling_on, left_with, replied, uncalled, with_method}
use Rattle.ui_machine.specs.Outcome.{Answer, known, only_if}
use Rattle.ui_machine.specs.Output.Lines as lines
use Rattle.ui_machine.specs.Rules.Accumulation.{data_of, ending, given_to, in_stage, instance_of, or_zero, passed_down, received, result_of, resulting, running_handler, taking_entry, told}
use Rattle.ui_machine.specs.Rules.Build.{building, building_binding, building_child, building_forward, building_handler, building_object, connection, first_transfer, held_data, held_object, new_binding, peer_for, set_forward, with_binding, with_signal}
use Rattle.ui_machine.specs.Rules.Children.{adopted}
use Rattle.ui_machine.specs.Rules.Connections.{Connection, detail_at, detail_in, is_too_late, signal_number, with_handler}
use Rattle.ui_machine.specs.Rules.Construction.{apply_construct_property, constructed, constructing, given_value, making, thawing_made}
use Rattle.ui_machine.specs.Rules.Disposal.{disposed, finalised}
use Rattle.ui_machine.specs.Rules.EmissionPlan.{beginning_emission, emission_plan, notifying, signal_at}
use Rattle.ui_machine.specs.Rules.Events.{emit_from_event, get_from_event, given_values, release_from_event, request_step, set_from_event, set_given, with_result}
use Rattle.ui_machine.specs.Rules.MainLoop.{source_data, sourcing}
use Rattle.ui_machine.specs.Rules.NotifyQueue.{frozen_less, thawing}
use Rattle.ui_machine.specs.Rules.Programs.{all_fit, beginning_program, first_frame, first_registers, fits_register, program_before}
use Rattle.ui_machine.specs.Rules.Sets.{has_kind, if_settable, is_disposed, lives, notifies, raising_if, setting, settled, spec_at, without_disposed, written}
use Rattle.ui_machine.specs.Rules.Transform.{kind_fits, same_value, transformed, zero_value}
use Rattle.ui_machine.specs.Rules.Validation.{clamp}
use Rattle.ui_machine.specs.Rules.Transfers.{End, carried, carried_by, inverted, inverts, set_by, source_end, target_end, transfer_for, transferring}
use Rattle.ui_machine.specs.Runs.{IsShort}
use Rattle.ui_machine.specs.State.Bindings.{Binding, binding_of}
use Rattle.ui_machine.specs.State.Config.{Left, Started, World, builder_entry, built, is_asked, is_unbuilt, peer_at, said, starts, sunk, with_builder_entry}
use Rattle.ui_machine.specs.State.Handlers.{Handler, handler_of}
use Rattle.ui_machine.specs.State.Objects.{asked, changed, class_in, living, object_at, value_at, with_value}
use Rattle.ui_machine.specs.State.Peers.{Reply, method_of}
use Rattle.ui_machine.specs.State.Sources.{source_of}
use Rattle.ui_machine.specs.State.Tasks.{Answering, Beginning, Building, Call, Calling, ConstructStep, Constructing, Due, Emission, Emitting, Handling, Item, Notifying, PlanEntry, Request, Running, Setting, Task, Thawing, Transferring, Unsetting, adopts, binds, class_handler, connects, forwards, handler, makes, runs, sets, thaws}
use Rattle.ui_machine.specs.State.Tasks as config
use Rattle.ui_machine.specs.Steps.{act, counted, finalising, left, most_steps, sink_first_floating, uncounted}
use Rattle.machine_laws.proofs.KeptProofs.{bind_keeps, cond_keeps, only_keeps}
use Rattle.law_typing.specs.Verdict.Accepted.{Each}
use Rattle.law_typing.proofs.Lists.{each_append}
use Rattle.law_short_texts.specs.ShortValues.{AllShort, HasShortAnswer, HasShortTexts, IsShortEmission, IsShortGiven, IsShortRequest, IsShortStep, IsShortTask, IsShortWorld}
use Rattle.law_short_texts.proofs.Entries.{bind_with, each_changed, either_is, known_with}
use Rattle.law_short_texts.proofs.ValueProofs.{clamped_short, inverted_short, or_zero_short, transformed_short, without_short, zero_short}
use Rattle.law_short_texts.proofs.ObjectProofs.{AreShortObjects, HasShortDefault, asked_short, changed_short, less_short, put_short, spec_short, value_short}
use Rattle.law_short_texts.proofs.RegisterProofs.{IsShortRegister, LeavesShort, StartsShort, passed_short, received_short}
use Rattle.law_short_texts.proofs.InstructionProofs.{adopts_short, disposes_short, given_value_short, makes_short, raises_short, runs_short}

-- ** registers of a program that begins

unset_short : (n : ℕ) → Each IsShortRegister (replicate n None)
unset_short zero = tt
unset_short (suc n) = (tt, unset_short n)

registers_short : (p : Program) (args : List Value) → Each IsShort args → Each IsShortRegister (first_registers p args)
registers_short p args all =
    each_append IsShortRegister (map (λ v. Some v) args) (replicate (p.registers - length args) None)
    (each_changed IsShort IsShortRegister (λ v. Some v) args (λ v one. one) all) (unset_short (p.registers - length args))

data_short : (h : Handler) → Each IsShort (data_of h)
data_short h = by h.arg
  where
    by : (arg : Option ℕ) → Each IsShort (data_of (record h { arg = arg }))
    by None = tt
    by (Some id) = (tt, tt)

given_to_short : (e : Emission) → IsShortEmission e → (h : Handler) → Each IsShort (given_to e h)
given_to_short e short h =
    either_is (Each IsShort) h.swapped (data_of h ++ (e.args ++ instance_of e ∷ [])) (instance_of e ∷ (e.args ++ data_of h))
    (each_append IsShort (data_of h) _ (data_short h) (each_append IsShort e.args _ short.0 (tt, tt)))
    (tt, each_append IsShort e.args (data_of h) short.0 (data_short h))

source_data_short : (arg : Option ℕ) → Each IsShort (source_data arg)
source_data_short None = tt
source_data_short (Some id) = (tt, tt)

-- ** parts of a step

module _ (d : Definition) (texts : HasShortTexts d) (w : World) (short : IsShortWorld w) where
  settable : (s : Spec) (a : Answer Started) → IfOk a StartsShort → IfOk (if_settable s a) StartsShort
  settable s a k = only_keeps (is_writable s) arms.Flags (only_if (not (is_construct_only s)) arms.ConstructOnly a) StartsShort (only_keeps (not (is_construct_only s)) arms.ConstructOnly a StartsShort k)

  raises_if : (b : Bool) (v : World) → IsShortWorld v → (id slot : ℕ) → IfOk (raising_if b v id slot) StartsShort
  raises_if true v k id slot = raises_short d v k id slot
  raises_if false v k id slot = (k, tt)

  writes : (id slot : ℕ) (s : Spec) (v : Value) → IsShort v → IfOk (written d w id slot s v) StartsShort
  unfolding written
  writes id slot s v one = bind_with (changed w.objects id (with_value slot v)) _ (λ a. AreShortObjects a.state) StartsShort
      (changed_short w.objects short.0 id (with_value slot v) (value_short slot v one)) (λ r now. raises_if (notifies s r.answer v) _ (now, short.1) id slot)

  settles : (id slot : ℕ) (s : Spec) (v valid : Value) → IsShort valid → IfOk (settled d w id slot s v valid) StartsShort
  settles id slot s v valid one =
      cond_keeps (same_value valid v || is_lax s) (written d w id slot s (without_disposed w.objects s valid)) (starts (said d w (lines.refused id s.name v)) []) StartsShort
      (writes id slot s (without_disposed w.objects s valid) (without_short w.objects s valid one)) (short, tt)

  sets_one : (id slot : ℕ) (v : Value) → IsShort v → IfOk (setting d w id slot v) StartsShort
  unfolding setting
  sets_one id slot v one = bind_with (spec_at d w.objects id slot) _ HasShortDefault StartsShort (spec_short d texts w.objects id slot) (λ s default.
      let valid = clamp (class_in w.objects) d.types s v in
      only_keeps (has_kind v s.kind && lives w.objects v) arms.Value (settled d w id slot s v valid) StartsShort
      (settles id slot s v valid (clamped_short (class_in w.objects) d.types s v default one)))

  notifies_one : (id slot : ℕ) → IfOk (notifying d w id slot) StartsShort
  unfolding notifying
  notifies_one id slot = bind_keeps (object_at w.objects id) _ StartsShort (λ o _. bind_keeps (known arms.Code (spec_of d o.class slot)) _ StartsShort (λ p _.
      bind_keeps (signal_at d o.class 0) _ StartsShort (λ s _. (short, ((tt, tt), tt)))))

  begins_emission : (e : Emission) → IsShortEmission e → IfOk (beginning_emission d w e) StartsShort
  unfolding beginning_emission
  begins_emission e own = bind_keeps (object_at w.objects e.object) _ StartsShort (λ o _. bind_keeps (signal_at d o.class e.signal) _ StartsShort (λ s _.
      only_keeps (all_fit (kind_fits (class_in w.objects) d.types) e.args s.params) arms.Argument
      (starts (said d w (lines.emit e.object s.name e.detail e.args)) (Emitting e (emission_plan d w s o.class e) ∷ [])) StartsShort (short, (own, tt))))

  begins_program : (number : ℕ) (args : List Value) → Each IsShort args → IfOk (beginning_program d w number args) StartsShort
  unfolding beginning_program
  begins_program number args all = bind_keeps (known arms.Code (program_at d number)) _ StartsShort (λ p _.
      only_keeps (all_fit (fits_register d w.objects) args p.params) arms.Parameters (starts (said d w (lines.run p.name)) (Running (first_frame number p args) ∷ [])) StartsShort
      (short, (registers_short p args all, tt)))

  runs_before : (number : ℕ) (args : List Value) → Each IsShort args → (tasks : List Task) → Each IsShortTask tasks → IfOk (program_before d w number args tasks) StartsShort
  unfolding program_before
  runs_before number args all tasks below = bind_with (beginning_program d w number args) _ StartsShort StartsShort (begins_program number args all) (λ s now.
      (now.0, each_append IsShortTask s.tasks tasks now.1 below))

  -- ** emissions

  turns : (e : Emission) → IsShortEmission e → (entries : List PlanEntry) (o : Option Handler) → IfOk (running_handler d w e entries o) StartsShort
  turns e own entries None = (short, (own, tt))
  turns e own entries (Some h) = cond_keeps (nat_lt 0 h.blocks) _ _ StartsShort (short, (own, tt)) (runs_before h.program (given_to e h) (given_to_short e own h) (Emitting e entries ∷ []) (own, tt))

  transfers : (number : ℕ) (back : Bool) (b : Option Binding) → Each IsShortTask (transfer_for b number back)
  transfers number back None = tt
  transfers number back (Some b) = either_is (Each IsShortTask) b.busy [] (Transferring number back ∷ []) tt (tt, tt)

  takes : (e : Emission) → IsShortEmission e → (entries : List PlanEntry) (entry : PlanEntry) → IfOk (taking_entry d w e entries entry) StartsShort
  takes e own entries (class_handler program cleanup) = runs_before program (instance_of e ∷ e.args) (tt, own.0) (Emitting (in_stage cleanup e) entries ∷ []) (own, tt)
  takes e own entries (handler number) = turns e own entries (handler_of number w.handlers)
  takes e own entries (config.transfer number back) =
      (short, each_append IsShortTask (transfer_for (binding_of number w.bindings) number back) (Emitting e entries ∷ []) (transfers number back (binding_of number w.bindings)) (own, tt))

  tells : (b : Bool) (v : Option Value) → IfSome v IsShort → IsShortWorld (told d w b v)
  tells b None one = short
  tells false (Some v) one = short
  tells true (Some v) one = (short.0, one)

  results : (e : Emission) → IsShortEmission e → IfOk (resulting d w e) (λ v. IfSome v IsShort)
  unfolding resulting
  results e own = bind_keeps (object_at w.objects e.object) _ (λ v. IfSome v IsShort) (λ o _. bind_keeps (signal_at d o.class e.signal) _ (λ v. IfSome v IsShort) (λ s _. by s.result))
    where
      by : (result : _) → IfSome (result_of d result e.value) IsShort
      by None = tt
      by (Some kind) = or_zero_short d kind e.value own.1

  ends_emission : (e : Emission) → IsShortEmission e → (rest : List Task) → Each IsShortTask rest → IfOk (ending d w e rest) LeavesShort
  unfolding ending
  ends_emission e own rest below = bind_with (resulting d w e) _ (λ v. IfSome v IsShort) LeavesShort (results e own) (λ v one.
      bind_with (passed_down rest v) _ (Each IsShortTask) LeavesShort (passed_short rest below v one) (λ agenda now. (tells e.by_event v one, now)))

  -- ** transfers

  sets_by : (number : ℕ) (end : End) (v : Option Value) → IfSome v IsShort → IfOk (set_by w number end v) StartsShort
  sets_by number end None one = (short, tt)
  sets_by number end (Some v) one = (short, (one, (tt, tt)))

  -- where the one end is read and the other set
  may_set : (from to : Spec) (a : Answer Started) → IfOk a StartsShort
      → IfOk (only_if (is_readable from) arms.Flags (only_if (is_writable to) arms.Flags (only_if (not (is_construct_only to)) arms.ConstructOnly a))) StartsShort
  may_set from to a k = only_keeps (is_readable from) arms.Flags _ StartsShort (settable to a k)

  carries : (b : Binding) (source target : End) → IfOk (carried d w b source target) StartsShort
  unfolding carried
  carries b source target = bind_keeps (spec_at d w.objects source.object source.slot) _ StartsShort (λ from _. bind_keeps (spec_at d w.objects target.object target.slot) _ StartsShort (λ to _.
      bind_with (asked w.objects source.object (value_at source.slot)) _ IsShort StartsShort (asked_short w.objects short.0 source.object source.slot) (λ v one.
      may_set from to (set_by w b.number target (inverted (inverts b) (transformed d.types from.kind to.kind v)))
      (sets_by b.number target _ (inverted_short (inverts b) (transformed d.types from.kind to.kind v) (transformed_short d.types from.kind to.kind v one))))))

  carries_by : (back : Bool) (b : Option Binding) → IfOk (carried_by d w back b) StartsShort
  carries_by back None = (short, tt)
  carries_by false (Some b) = carries b (source_end b) (target_end b)
  carries_by true (Some b) = carries b (target_end b) (source_end b)

  -- ** constructions and the build

  thaws_rest : (id : ℕ) (slots : List ℕ) → IfOk (thawing w id slots) StartsShort
  thaws_rest id [] = (short, tt)
  thaws_rest id (slot ∷ slots) = (short, (tt, (tt, tt)))

  is_constructed : (id : ℕ) (held : Bool) → IfOk (constructed w id held) StartsShort
  unfolding constructed
  is_constructed id false = (short, tt)
  is_constructed id true = bind_keeps (object_at w.objects id) _ StartsShort (λ o _.
      only_keeps (is_unbuilt (builder_entry w o.place)) arms.Code (starts (sunk (with_builder_entry w o.place (built id)) id) []) StartsShort (short, tt))

  makes_set : (id slot : ℕ) (v : Value) → IsShort v → (tasks : List Task) → Each IsShortTask tasks → IfOk (apply_construct_property d w id slot v tasks) StartsShort
  unfolding apply_construct_property
  makes_set id slot v one tasks below = bind_keeps (spec_at d w.objects id slot) _ StartsShort (λ s _.
      only_keeps (is_writable s) arms.Flags (starts w (Setting id slot v ∷ tasks)) StartsShort (short, (one, below)))

  thaws_made : (id : ℕ) (steps : List ConstructStep) → Each IsShortStep steps → (held : Bool) → IfOk (thawing_made w id steps held) StartsShort
  unfolding thawing_made
  thaws_made id steps all held = bind_with (changed w.objects id frozen_less) _ (λ a. AreShortObjects a.state) StartsShort
      (changed_short w.objects short.0 id frozen_less less_short) (λ thaw now. ((now, short.1), (tt, (all, tt))))

  constructs : (id : ℕ) (steps : List ConstructStep) → Each IsShortStep steps → (held : Bool) → IfOk (constructing d w id steps held) StartsShort
  constructs id [] all held = is_constructed id held
  constructs id (sets slot v ∷ steps) all held = makes_set id slot v all.0 (Constructing id steps held ∷ []) (all.1, tt)
  constructs id (runs program ∷ steps) all held = runs_before program (values.object (Some id) ∷ []) (tt, tt) (Constructing id steps held ∷ []) (all.1, tt)
  constructs id (thaws ∷ steps) all held = thaws_made id steps all.1 held

  builds_object : (place : ℕ) (items : List Item) → IfOk (building_object d w place items) StartsShort
  unfolding building_object
  builds_object place items = bind_keeps (known arms.Code (place_at d place)) _ StartsShort (λ p _. bind_keeps (peer_for d w p) _ StartsShort (λ peer _.
      bind_with (making d w place peer true) _ StartsShort StartsShort (makes_short d texts w short place peer true) (λ made now.
      (now.0, each_append IsShortTask made.tasks (Building items ∷ []) now.1 (tt, tt)))))

  builds_child : (place : ℕ) (items : List Item) → IfOk (building_child d w place items) StartsShort
  unfolding building_child
  builds_child place items = bind_keeps (known arms.Code (place_at d place)) _ StartsShort (λ p _. bind_keeps (known arms.Code p.parent) _ StartsShort (λ above _.
      bind_keeps (held_object w above) _ StartsShort (λ parent _. bind_keeps (held_object w place) _ StartsShort (λ child _.
      bind_with (adopted d w parent child) _ (λ r. IsShortWorld r.state) StartsShort (adopts_short d w short parent child) (λ family now. (now, (tt, tt)))))))

  sets_forward : (id slot to : ℕ) (items : List Item) → IfOk (set_forward w id slot to items) StartsShort
  unfolding set_forward
  sets_forward id slot to items = bind_keeps (held_object w to) _ StartsShort (λ target _. (short, (tt, (tt, tt))))

  builds_forward : (place slot to : ℕ) (items : List Item) → IfOk (building_forward d w place slot to items) StartsShort
  unfolding building_forward
  builds_forward place slot to items = bind_keeps (held_object w place) _ StartsShort (λ id _. bind_keeps (spec_at d w.objects id slot) _ StartsShort (λ s _.
      settable s (set_forward w id slot to items) (sets_forward id slot to items)))

  builds_binding : (number : ℕ) (items : List Item) → IfOk (building_binding d w number items) StartsShort
  unfolding building_binding
  builds_binding number items = bind_keeps (known arms.Code (slice_get d.bindings number)) _ StartsShort (λ b _. bind_keeps (held_object w b.source) _ StartsShort (λ source _.
      bind_keeps (held_object w b.target) _ StartsShort (λ target _.
      cond_keeps (is_disposed (living w.objects source) || is_disposed (living w.objects target)) (starts w (Building items ∷ []))
      (starts (with_binding w (new_binding number b source target)) (first_transfer number b ++ Building items ∷ [])) StartsShort (short, (tt, tt)) (
        short,
        each_append IsShortTask (first_transfer number b) (Building items ∷ [])
            (either_is (Each IsShortTask) (has_flags 2 b.flags) (Transferring number false ∷ []) [] (tt, tt) tt) (tt, tt),
      ))))

  connects_signal : (c : Connection) → IsShortWorld (with_signal w c)
  connects_signal c = either_is IsShortWorld (is_too_late w.objects c.object c.arg) w (with_handler w c) short short

  builds_handler : (place number : ℕ) (items : List Item) → IfOk (building_handler d w place number items) StartsShort
  unfolding building_handler
  builds_handler place number items = bind_keeps (known arms.Code (place_at d place)) _ StartsShort (λ p _. bind_keeps (known arms.Code (slice_get p.signals number)) _ StartsShort (λ a _.
      bind_keeps (held_object w place) _ StartsShort (λ id _. bind_keeps (held_data w a.with) _ StartsShort (λ arg _. bind_keeps (known arms.Code (signal_number d p.class a.signal)) _ StartsShort (λ signal _.
      bind_keeps (detail_at d p.class signal a.detail) _ StartsShort (λ detail _. (connects_signal (connection id signal detail a arg), (tt, tt))))))))

  builds : (items : List Item) → IfOk (building d w items) StartsShort
  builds [] = (short, tt)
  builds (makes place ∷ items) = builds_object place items
  builds (adopts place ∷ items) = builds_child place items
  builds (forwards place slot to ∷ items) = builds_forward place slot to items
  builds (binds number ∷ items) = builds_binding number items
  builds (connects place number ∷ items) = builds_handler place number items

  -- ** requests, sources and calls

  sets_given : (id slot : ℕ) (given : Given) → IsShortGiven given → IfOk (set_given w id slot given) StartsShort
  unfolding set_given
  sets_given id slot given one = bind_with (known arms.Operand (given_value w given)) _ IsShort StartsShort
      (known_with arms.Operand (given_value w given) IsShort (given_value_short w given one)) (λ v now. (short, (now, tt)))

  carries_set : (place slot : ℕ) (given : Given) → IsShortGiven given → IfOk (set_from_event d w place slot given) StartsShort
  unfolding set_from_event
  carries_set place slot given one = bind_keeps (held_object w place) _ StartsShort (λ id _. bind_keeps (spec_at d w.objects id slot) _ StartsShort (λ s _.
      settable s (set_given w id slot given) (sets_given id slot given one)))

  carries_get : (place slot : ℕ) → IfOk (get_from_event d w place slot) StartsShort
  unfolding get_from_event
  carries_get place slot = bind_keeps (held_object w place) _ StartsShort (λ id _. bind_keeps (spec_at d w.objects id slot) _ StartsShort (λ s _.
      bind_with (asked w.objects id (value_at slot)) _ IsShort StartsShort (asked_short w.objects short.0 id slot) (λ v one.
      only_keeps (is_readable s) arms.Flags (starts (with_result (said d w (lines.get id s.name v)) v) []) StartsShort ((short.0, one), tt))))

  gives_all : (gs : List Given) → Each IsShortGiven gs → IfOk (given_values w gs) (Each IsShort)
  unfolding given_values
  gives_all [] all = tt
  gives_all (g ∷ gs) all = bind_with (known arms.Operand (given_value w g)) _ IsShort (Each IsShort)
      (known_with arms.Operand (given_value w g) IsShort (given_value_short w g all.0)) (λ v one.
      bind_with (given_values w gs) _ (Each IsShort) (Each IsShort) (gives_all gs all.1) (λ vs rest. (one, rest)))

  carries_emit : (place signal : ℕ) (args : List Given) (detail : Option (List ℕ)) → Each IsShortGiven args → IfOk (emit_from_event d w place signal args detail) StartsShort
  unfolding emit_from_event
  carries_emit place signal args detail all = bind_keeps (held_object w place) _ StartsShort (λ id _. bind_keeps (detail_in d w id signal detail) _ StartsShort (λ stands _.
      bind_with (given_values w args) _ (Each IsShort) StartsShort (gives_all args all) (λ given now. (short, ((now, tt), tt)))))

  carries_release : (place : ℕ) → IfOk (release_from_event d w place) StartsShort
  unfolding release_from_event
  carries_release place = bind_keeps (known arms.Code (place_at d place)) _ StartsShort (λ p _. bind_keeps (held_object w place) _ StartsShort (λ id _. (short, tt)))

  carries_request : (r : Request) → IsShortRequest r → IfOk (request_step d w r) StartsShort
  carries_request (config.set place slot given) one = carries_set place slot given one
  carries_request (config.get place slot) one = carries_get place slot
  carries_request (config.emit place signal args detail) one = carries_emit place signal args detail one
  carries_request (config.release place) one = carries_release place

  runs_source : (source : ℕ) → IfOk (sourcing d w source) StartsShort
  unfolding sourcing
  runs_source source = bind_keeps (known arms.Code (source_of source w.sources)) _ StartsShort (λ s _. runs_before s.program (source_data s.arg) (source_data_short s.arg) (Answering source ∷ []) (tt, tt))

  left_one : (v : World) → IsShortWorld v → (rest : List Task) → Each IsShortTask rest → (to : ℕ) (x : Value) → IsShort x → IfOk (left_with v rest to x) LeavesShort
  unfolding left_with
  left_one v k rest below to x one = bind_with (received rest to (Some x)) _ (Each IsShortTask) LeavesShort (received_short rest below to (Some x) one) (λ agenda now. (k, now))

  is_called : (call : Call) (rest : List Task) → Each IsShortTask rest → (reply : Reply) → HasShortAnswer reply → IfOk (called d w call rest reply) LeavesShort
  unfolding called with_method
  is_called call rest below reply one = bind_keeps (known arms.Call (peer_at w call.peer)) _ LeavesShort (λ p _. bind_keeps (known arms.Call (method_of p call.method)) _ LeavesShort (λ m _.
      left_one _ short rest below call.to (or_zero d m.result reply.answer) (or_zero_short d m.result reply.answer one)))

  is_uncalled : (call : Call) (rest : List Task) → Each IsShortTask rest → IfOk (uncalled d w call rest) LeavesShort
  unfolding uncalled with_method
  is_uncalled call rest below = bind_keeps (known arms.Call (peer_at w call.peer)) _ LeavesShort (λ p _. bind_keeps (known arms.Call (method_of p call.method)) _ LeavesShort (λ m _.
      left_one _ short rest below call.to (zero_value d.types m.result) (zero_short d.types m.result)))

  is_replied : (call : Call) (rest : List Task) → Each IsShortTask rest → (reply : Option Reply) → IfSome reply HasShortAnswer → IfOk (replied d w call rest reply) LeavesShort
  is_replied call rest below None one = tt
  is_replied call rest below (Some reply) one = is_called call rest below reply one

  calls : (call : Call) (rest : List Task) → Each IsShortTask rest → (reply : Option Reply) → IfSome reply HasShortAnswer → IfOk (calling_on d w call rest reply) LeavesShort
  calls call rest below reply one =
      cond_keeps (is_asked w call.peer) (replied d w call rest reply) (uncalled d w call rest) LeavesShort (is_replied call rest below reply one) (is_uncalled call rest below)

  is_finalised : (id : ℕ) → IfOk (finalising d w id) StartsShort
  unfolding finalising finalised
  is_finalised id = bind_with (finalised d w id) _ IsShortWorld StartsShort
      (bind_with (disposed d w id) _ IsShortWorld IsShortWorld (disposes_short d w short id) (λ v now. (put_short v.objects now.0 id None tt, now.1))) (λ v now. (now, tt))

  -- ** steps

  not_counted : (rest : List Task) → Each IsShortTask rest → (n : ℕ) (a : Answer Started) → IfOk a StartsShort → IfOk (uncounted rest n a) AllShort
  not_counted rest below n (Ok s) k = (k.0, each_append IsShortTask s.tasks rest k.1 below)
  not_counted rest below n (Err arm) k = tt

  is_counted : (rest : List Task) → Each IsShortTask rest → (n : ℕ) (a : Answer Started) → IfOk a StartsShort → IfOk (counted rest n a) AllShort
  is_counted rest below n a k = only_keeps (nat_lt n most_steps) arms.Steps (uncounted rest (suc n) a) AllShort (not_counted rest below (suc n) a k)

  leaves_agenda : (n : ℕ) (a : Answer Left) → IfOk a LeavesShort → IfOk (left n a) AllShort
  unfolding left
  leaves_agenda n (Ok l) k = k
  leaves_agenda n (Err arm) k = tt

  sinks_first : (floating : List ℕ) → IsShortWorld (sink_first_floating w floating)
  sinks_first [] = short
  sinks_first (id ∷ ids) = short

  -- an object is finalised before all tasks
  pub finalises_short : (tasks : List Task) → Each IsShortTask tasks → (n id : ℕ) → IfOk (counted tasks n (finalising d w id)) AllShort
  finalises_short tasks all n id = is_counted tasks all n (finalising d w id) (is_finalised id)

  pub acts_short : (reply : Option Reply) → IfSome reply HasShortAnswer → (tasks : List Task) → Each IsShortTask tasks → (n : ℕ) → IfOk (act d w reply tasks n) AllShort
  acts_short reply one [] all n = (sinks_first w.floating, tt)
  acts_short reply one (Setting id slot v ∷ rest) all n = not_counted rest all.1 n (setting d w id slot v) (sets_one id slot v all.0)
  acts_short reply one (Notifying id slot ∷ rest) all n = is_counted rest all.1 n (notifying d w id slot) (notifies_one id slot)
  acts_short reply one (Beginning e ∷ rest) all n = is_counted rest all.1 n (beginning_emission d w e) (begins_emission e all.0)
  acts_short reply one (Emitting e [] ∷ rest) all n = leaves_agenda n (ending d w e rest) (ends_emission e all.0 rest all.1)
  acts_short reply one (Emitting e (entry ∷ entries) ∷ rest) all n = not_counted rest all.1 n (taking_entry d w e entries entry) (takes e all.0 entries entry)
  acts_short reply one (Transferring number back ∷ rest) all n = is_counted rest all.1 n (transferring d w number back) (carries_by back (binding_of number w.bindings))
  acts_short reply one (Unsetting number ∷ rest) all n = (short, all.1)
  acts_short reply one (Thawing id slots ∷ rest) all n = not_counted rest all.1 n (thawing w id slots) (thaws_rest id slots)
  acts_short reply one (Running f ∷ rest) all n =
      only_keeps (nat_lt n most_steps) arms.Steps (left (suc n) (running d w rest f)) AllShort (leaves_agenda (suc n) (running d w rest f) (runs_short d texts w short f all.0 rest all.1))
  acts_short reply one (Answering source ∷ rest) all n = tt
  acts_short reply one (Calling call ∷ rest) all n = leaves_agenda n (calling_on d w call rest reply) (calls call rest all.1 reply one)
  acts_short reply one (Constructing id steps held ∷ rest) all n = not_counted rest all.1 n (constructing d w id steps held) (constructs id steps all.0 held)
  acts_short reply one (Building items ∷ rest) all n = not_counted rest all.1 n (building d w items) (builds items)
  acts_short reply one (Handling r ∷ rest) all n = not_counted rest all.1 n (request_step d w r) (carries_request r all.0)
  acts_short reply one (Due source ∷ rest) all n = not_counted rest all.1 n (sourcing d w source) (runs_source source)
