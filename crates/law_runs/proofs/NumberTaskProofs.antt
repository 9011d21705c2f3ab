-- What a task takes.
use Rattle.std.proofs.Common.{◌≡◌, refl, ℕ, suc, ◌+◌, ◌≤◌, Bool, true, false, cond, not, List, [], ◌∷◌, ◌++◌, arith, Option, None, Some, Ok, Err, ◌&&◌, ◌||◌}
use Rattle.std.specs.Prelude.{IfOk, nat_lt, slice_get}
use Rattle.ui_machine.specs.declared.arm.Arm.TheVariants as arms
use Rattle.ui_machine.specs.Definition.{Definition}
use Rattle.ui_machine.specs.Definition.Lookups.{place_at, program_at, spec_of}
use Rattle.ui_machine.specs.Definition.Places.{Bind, Given}
use Rattle.ui_machine.specs.Definition.Properties.{Spec, has_flags, is_construct_only, is_lax, is_readable, is_writable}
use Rattle.ui_machine.specs.Definition.Values.{Value}
use Rattle.ui_machine.specs.Definition.Values as values
use Rattle.ui_machine.specs.Instructions.{running}
use Rattle.ui_machine.specs.Instructions.Peers.{called, calling_on, left_with, replied, uncalled, with_method}
use Rattle.ui_machine.specs.Outcome.{After, Answer, known, only_if}
use Rattle.ui_machine.specs.Output.Lines as lines
use Rattle.ui_machine.specs.Rules.Accumulation.{ending, given_to, in_stage, instance_of, passed_down, received, received_by, resulting, taken, running_handler, taking_entry, told}
use Rattle.ui_machine.specs.Rules.Build.{building, building_child, building_forward, building_handler, building_object, connection, held_data, held_object, peer_for, set_forward, with_signal, with_binding, new_binding, building_binding}
use Rattle.ui_machine.specs.Rules.Children.{adopted}
use Rattle.ui_machine.specs.Rules.Connections.{Connection, detail_at, detail_in, is_too_late, signal_number, with_handler}
use Rattle.ui_machine.specs.Rules.Construction.{apply_construct_property, constructed, constructing, given_value, making, thawing_made}
use Rattle.ui_machine.specs.Rules.Disposal.{finalised}
use Rattle.ui_machine.specs.Rules.EmissionPlan.{beginning_emission, emission_plan, notifying, signal_at}
use Rattle.ui_machine.specs.Rules.Events.{emit_from_event, get_from_event, given_values, release_from_event, request_step, set_from_event, set_given, with_result}
use Rattle.ui_machine.specs.Rules.MainLoop.{source_data, sourcing}
use Rattle.ui_machine.specs.Rules.NotifyQueue.{frozen_less, thawing}
use Rattle.ui_machine.specs.Rules.Programs.{all_fit, beginning_program, fits_register, first_frame, program_before}
use Rattle.ui_machine.specs.Rules.Sets.{has_kind, is_disposed, if_settable, lives, notifies, raising_if, setting, settled, spec_at, without_disposed, written}
use Rattle.ui_machine.specs.Rules.Transform.{kind_fits, same_value, transformed}
use Rattle.ui_machine.specs.Rules.Validation.{clamp}
use Rattle.ui_machine.specs.Rules.Transfers.{End, transfer_for, unsetting, inverted, inverts, carried, carried_by, set_by, source_end, target_end, transferring}
use Rattle.ui_machine.specs.State.Bindings.{Binding, binding_of}
use Rattle.ui_machine.specs.State.Config.{Config, Left, Started, World, builder_entry, built, is_asked, is_unbuilt, peer_at, said, starts, sunk, with_builder_entry}
use Rattle.ui_machine.specs.Seq.{total}
use Rattle.ui_machine.specs.Instructions.Registers.{with_register}
use Rattle.ui_machine.specs.State.Handlers.{Handler, handler_of}
use Rattle.ui_machine.specs.State.Objects.{Objects, asked, changed, class_in, living, with_value, object_at, value_at}
use Rattle.ui_machine.specs.State.Peers.{Reply, method_of}
use Rattle.ui_machine.specs.State.Sources.{source_of}
use Rattle.ui_machine.specs.State.Tasks.{Answering, Beginning, Building, Call, Calling, ConstructStep, Constructing, Due, Emission, Emitting, Frame, Handling, Item, Notifying, PlanEntry, Request, Running, Setting, Task, Thawing, Transferring, Unsetting, adopts, binds, class_handler, connects, forwards, handler, makes, runs, sets, thaws}
use Rattle.ui_machine.specs.State.Tasks as config
use Rattle.ui_machine.specs.Steps.{act, counted, finalising, left, most_steps, sink_first_floating, uncounted}
use Rattle.machine_laws.proofs.KeptProofs.{bind_keeps, cond_keeps, kept_at, only_keeps}
use Rattle.law_runs.proofs.NumberInstructionProofs.{running_kept}
use Rattle.law_runs.proofs.Counting.{Counting, Taken, adopted_taken, finalised_taken, thawed_taken, to_take, written_taken}
use Rattle.law_runs.proofs.NumberStartProofs.{Within, if_weaker, in_front_of, makes_one, more_room, raises_one, within, within_also}

-- ** what comes down

module _ (takes : Item → ℕ) where
  -- a program that is given a value takes nothing, as before
  received_same : (f : Frame) (rest : List Task) (to : ℕ) (v : Option Value) → IfOk (received_by f rest to v) (λ a. to_take takes a ≡ to_take takes (Running f ∷ rest))
  unfolding received_by
  received_same f rest to v = bind_keeps (with_register to v f.registers) _ _ (λ r _. refl)

  receives : (rest : List Task) (to : ℕ) (v : Option Value) → IfOk (received rest to v) (λ a. to_take takes a ≡ to_take takes rest)
  receives (Running f ∷ rest) to v = received_same f rest to v
  receives _ to v = tt

  takes_down : (into : Option ℕ) (f : Frame) (rest : List Task) (v : Option Value) → IfOk (taken into f rest v) (λ a. to_take takes a ≡ to_take takes (Running f ∷ rest))
  takes_down None f rest v = refl
  takes_down (Some to) f rest None = tt
  takes_down (Some to) f rest (Some v) = received_same f rest to (Some v)

  passes : (rest : List Task) (v : Option Value) → IfOk (passed_down rest v) (λ a. to_take takes a ≡ to_take takes rest)
  passes (Running f ∷ rest) v = takes_down f.into f rest v
  passes rest v = refl

-- ** parts of a step

module _ (K : Counting) (d : Definition) (w : World) (n : ℕ) (holds : Taken K n w) where
  abbrev Kept : Started → Type 0
  Kept s = Within K n s.world s.tasks

  abbrev Leaves : Left → Type 0
  Leaves l = Within K K.most l.world l.agenda

  -- as many were taken, and the tasks take none
  same : (v : World) (tasks : List Task) → Taken K n v → to_take K.takes tasks ≡ 0 → Within K n v tasks
  same v tasks holds none = within K n 0 n v tasks holds none (omega arith)

  -- as many were taken, and the agenda takes as many as the rest
  rests : (v : World) (rest agenda : List Task) → Taken K n v → to_take K.takes agenda ≡ to_take K.takes rest → n + to_take K.takes rest ≤ K.most → Within K K.most v agenda
  rests v rest agenda holds sum few = within K n (to_take K.takes rest) K.most v agenda holds sum few

  settable : (s : Spec) (a : Answer Started) → IfOk a Kept → IfOk (if_settable s a) Kept
  settable s a k = only_keeps (is_writable s) arms.Flags (only_if (not (is_construct_only s)) arms.ConstructOnly a) Kept (only_keeps (not (is_construct_only s)) arms.ConstructOnly a Kept k)

  raises_if : (b : Bool) (v : World) → Taken K n v → (id slot : ℕ) → IfOk (raising_if b v id slot) Kept
  raises_if true v now id slot = raises_one K n v now id slot
  raises_if false v now id slot = same v [] now refl

  writes : (id slot : ℕ) (s : Spec) (v : Value) → IfOk (written d w id slot s v) Kept
  unfolding written
  writes id slot s v = bind_keeps (changed w.objects id (with_value slot v)) _ Kept (λ r is.
      raises_if (notifies s r.answer v) _ (kept_at (λ (r : After Objects Value). K.Holds n r.state w.last_handler) (changed w.objects id (with_value slot v)) r (written_taken K n w holds id slot v) is) id slot)

  settles : (id slot : ℕ) (s : Spec) (v valid : Value) → IfOk (settled d w id slot s v valid) Kept
  settles id slot s v valid =
      cond_keeps (same_value valid v || is_lax s) (written d w id slot s (without_disposed w.objects s valid)) (starts (said d w (lines.refused id s.name v)) []) Kept
      (writes id slot s (without_disposed w.objects s valid)) (same _ _ holds refl)

  sets_one : (id slot : ℕ) (v : Value) → IfOk (setting d w id slot v) Kept
  unfolding setting
  sets_one id slot v = bind_keeps (spec_at d w.objects id slot) _ Kept (λ s _.
      let valid = clamp (class_in w.objects) d.types s v in
      only_keeps (has_kind v s.kind && lives w.objects v) arms.Value (settled d w id slot s v valid) Kept (settles id slot s v valid))

  notifies_one : (id slot : ℕ) → IfOk (notifying d w id slot) Kept
  unfolding notifying
  notifies_one id slot = bind_keeps (object_at w.objects id) _ Kept (λ o _. bind_keeps (known arms.Code (spec_of d o.class slot)) _ Kept (λ p _. bind_keeps (signal_at d o.class 0) _ Kept (λ s _. same _ _ holds refl)))

  begins_emission : (e : Emission) → IfOk (beginning_emission d w e) Kept
  unfolding beginning_emission
  begins_emission e = bind_keeps (object_at w.objects e.object) _ Kept (λ o _. bind_keeps (signal_at d o.class e.signal) _ Kept (λ s _.
      only_keeps (all_fit (kind_fits (class_in w.objects) d.types) e.args s.params) arms.Argument
      (starts (said d w (lines.emit e.object s.name e.detail e.args)) (Emitting e (emission_plan d w s o.class e) ∷ [])) Kept (same _ _ holds refl)))

  begins_program : (number : ℕ) (args : List Value) → IfOk (beginning_program d w number args) Kept
  unfolding beginning_program
  begins_program number args = bind_keeps (known arms.Code (program_at d number)) _ Kept (λ p _.
      only_keeps (all_fit (fits_register d w.objects) args p.params) arms.Parameters (starts (said d w (lines.run p.name)) (Running (first_frame number p args) ∷ [])) Kept
      (same _ _ holds refl))

  runs_before : (number : ℕ) (args : List Value) (tasks : List Task) → to_take K.takes tasks ≡ 0 → IfOk (program_before d w number args tasks) Kept
  unfolding program_before
  runs_before number args tasks none = bind_keeps (beginning_program d w number args) _ Kept (λ s is.
      within_also K n s.world s.tasks tasks none (kept_at Kept (beginning_program d w number args) s (begins_program number args) is))

  -- ** emissions

  turns : (e : Emission) (entries : List PlanEntry) (o : Option Handler) → IfOk (running_handler d w e entries o) Kept
  turns e entries None = same _ _ holds refl
  turns e entries (Some h) = cond_keeps (nat_lt 0 h.blocks) _ _ Kept (same _ _ holds refl) (runs_before h.program (given_to e h) (Emitting e entries ∷ []) refl)

  takes : (e : Emission) (entries : List PlanEntry) (entry : PlanEntry) → IfOk (taking_entry d w e entries entry) Kept
  takes e entries (class_handler program cleanup) = runs_before program (instance_of e ∷ e.args) (Emitting (in_stage cleanup e) entries ∷ []) refl
  takes e entries (handler number) = turns e entries (handler_of number w.handlers)
  takes e entries (config.transfer number back) = same _ _ holds (transfers (binding_of number w.bindings))
    where
      either : (b : Bool) → to_take K.takes (cond b [] (Transferring number back ∷ []) ++ Emitting e entries ∷ []) ≡ 0
      either true = refl
      either false = refl

      transfers : (b : Option Binding) → to_take K.takes (transfer_for b number back ++ Emitting e entries ∷ []) ≡ 0
      transfers None = refl
      transfers (Some b) = either b.busy

  -- an event reports a result, and as many were taken
  tells : (b : Bool) (v : Option Value) → Taken K n (told d w b v)
  tells b None = holds
  tells false (Some v) = holds
  tells true (Some v) = holds

  ends_emission : (e : Emission) (rest : List Task) → n + to_take K.takes rest ≤ K.most → IfOk (ending d w e rest) Leaves
  unfolding ending
  ends_emission e rest few = bind_keeps (resulting d w e) _ Leaves (λ v _. bind_keeps (passed_down rest v) _ Leaves (λ agenda is.
      rests (told d w e.by_event v) rest agenda (tells e.by_event v) (kept_at (λ (a : List Task). to_take K.takes a ≡ to_take K.takes rest) (passed_down rest v) agenda (passes K.takes rest v) is) few))

  -- ** transfers

  sets_by : (number : ℕ) (end : End) (v : Option Value) → IfOk (set_by w number end v) Kept
  sets_by number end None = same _ _ holds refl
  sets_by number end (Some v) = same _ _ holds refl

  -- where the one end is read and the other set
  may_set : (from to : Spec) (a : Answer Started) → IfOk a Kept
      → IfOk (only_if (is_readable from) arms.Flags (only_if (is_writable to) arms.Flags (only_if (not (is_construct_only to)) arms.ConstructOnly a))) Kept
  may_set from to a k = only_keeps (is_readable from) arms.Flags _ Kept (settable to a k)

  carries : (b : Binding) (source target : End) → IfOk (carried d w b source target) Kept
  unfolding carried
  carries b source target = bind_keeps (spec_at d w.objects source.object source.slot) _ Kept (λ from _. bind_keeps (spec_at d w.objects target.object target.slot) _ Kept (λ to _.
      bind_keeps (asked w.objects source.object (value_at source.slot)) _ Kept (λ v _.
      may_set from to (set_by w b.number target (inverted (inverts b) (transformed d.types from.kind to.kind v))) (sets_by b.number target _))))

  carries_by : (back : Bool) (b : Option Binding) → IfOk (carried_by d w back b) Kept
  carries_by back None = same _ _ holds refl
  carries_by false (Some b) = carries b (source_end b) (target_end b)
  carries_by true (Some b) = carries b (target_end b) (source_end b)

  -- ** constructions and the build

  thaws_rest : (id : ℕ) (slots : List ℕ) → IfOk (thawing w id slots) Kept
  thaws_rest id [] = same _ _ holds refl
  thaws_rest id (slot ∷ slots) = same _ _ holds refl

  is_constructed : (id : ℕ) (held : Bool) → IfOk (constructed w id held) Kept
  unfolding constructed
  is_constructed id false = same _ _ holds refl
  is_constructed id true = bind_keeps (object_at w.objects id) _ Kept (λ o _.
      only_keeps (is_unbuilt (builder_entry w o.place)) arms.Code (starts (sunk (with_builder_entry w o.place (built id)) id) []) Kept (same _ _ holds refl))

  makes_set : (id slot : ℕ) (v : Value) (tasks : List Task) → to_take K.takes tasks ≡ 0 → IfOk (apply_construct_property d w id slot v tasks) Kept
  unfolding apply_construct_property
  makes_set id slot v tasks none = bind_keeps (spec_at d w.objects id slot) _ Kept (λ s _.
      only_keeps (is_writable s) arms.Flags (starts w (Setting id slot v ∷ tasks)) Kept (same _ _ holds (omega (arith, none))))

  thaws_made : (id : ℕ) (steps : List ConstructStep) (held : Bool) → IfOk (thawing_made w id steps held) Kept
  unfolding thawing_made
  thaws_made id steps held = bind_keeps (changed w.objects id frozen_less) _ Kept (λ thaw is.
      same _ _ (kept_at (λ (r : After Objects (List ℕ)). K.Holds n r.state w.last_handler) (changed w.objects id frozen_less) thaw (thawed_taken K n w holds id) is) refl)

  constructs : (id : ℕ) (steps : List ConstructStep) (held : Bool) → IfOk (constructing d w id steps held) Kept
  constructs id [] held = is_constructed id held
  constructs id (sets slot v ∷ steps) held = makes_set id slot v (Constructing id steps held ∷ []) refl
  constructs id (runs program ∷ steps) held = runs_before program (values.object (Some id) ∷ []) (Constructing id steps held ∷ []) refl
  constructs id (thaws ∷ steps) held = thaws_made id steps held

  -- what is still to be built is left
  abbrev Builds : List Item → Started → Type 0
  Builds items s = Within K (n + total K.takes items) s.world s.tasks

  builds_on : (v : World) (items : List Item) (tasks : List Task) → Taken K n v → to_take K.takes tasks ≡ total K.takes items
      → Within K (n + total K.takes items) v tasks
  builds_on v items tasks holds sum = within K n (total K.takes items) (n + total K.takes items) v tasks holds sum (omega arith)

  -- where the build makes an object, as much less is left as the item takes
  builds_object : (place : ℕ) (items : List Item) → IfOk (building_object d w place items) (Builds (makes place ∷ items))
  unfolding building_object
  builds_object place items = bind_keeps (known arms.Code (place_at d place)) _ _ (λ p _. bind_keeps (peer_for d w p) _ _ (λ peer _.
      bind_keeps (making d w place peer true) _ _ (λ s is.
      in_front_of K (K.takes (makes place) + n) (n + total K.takes (makes place ∷ items)) (Building items ∷ []) (omega arith) s.world s.tasks
      (kept_at (λ (s : Started). Within K (K.takes (makes place) + n) s.world s.tasks) (making d w place peer true) s (makes_one K d w n holds place peer true) is))))

  builds_child : (place : ℕ) (items : List Item) → IfOk (building_child d w place items) (Builds items)
  unfolding building_child
  builds_child place items = bind_keeps (known arms.Code (place_at d place)) _ _ (λ p _. bind_keeps (known arms.Code p.parent) _ _ (λ above _.
      bind_keeps (held_object w above) _ _ (λ parent _. bind_keeps (held_object w place) _ _ (λ child _. bind_keeps (adopted d w parent child) _ _ (λ family is.
      builds_on family.state items (Building items ∷ [])
      (kept_at (λ (r : After World Bool). Taken K n r.state) (adopted d w parent child) family (adopted_taken K d w n holds parent child) is) (omega arith))))))

  sets_forward : (id slot to : ℕ) (items : List Item) → IfOk (set_forward w id slot to items) (Builds items)
  unfolding set_forward
  sets_forward id slot to items = bind_keeps (held_object w to) _ _ (λ target _. builds_on w items _ holds (omega arith))

  builds_forward : (place slot to : ℕ) (items : List Item) → IfOk (building_forward d w place slot to items) (Builds items)
  unfolding building_forward
  builds_forward place slot to items = bind_keeps (held_object w place) _ _ (λ id _. bind_keeps (spec_at d w.objects id slot) _ _ (λ s _.
      only_keeps (is_writable s) arms.Flags (only_if (not (is_construct_only s)) arms.ConstructOnly (set_forward w id slot to items)) (Builds items)
      (only_keeps (not (is_construct_only s)) arms.ConstructOnly (set_forward w id slot to items) (Builds items) (sets_forward id slot to items))))

  builds_binding : (number : ℕ) (items : List Item) → IfOk (building_binding d w number items) (Builds items)
  unfolding building_binding
  builds_binding number items = bind_keeps (known arms.Code (slice_get d.bindings number)) _ _ (λ b _. bind_keeps (held_object w b.source) _ _ (λ source _.
      bind_keeps (held_object w b.target) _ _ (λ target _. cond_keeps (is_disposed (living w.objects source) || is_disposed (living w.objects target)) _ _ (Builds items)
      (builds_on w items (Building items ∷ []) holds (omega arith))
      (builds_on (with_binding w (new_binding number b source target)) items _ holds (transfers b (has_flags 2 b.flags))))))
    where
      transfers : (b : Bind) (at_once : Bool) → to_take K.takes (cond at_once (Transferring number false ∷ []) [] ++ Building items ∷ []) ≡ total K.takes items
      transfers b true = omega arith
      transfers b false = omega arith

  -- so it is where it connects a handler, or is too late
  connects_signal : (c : Connection) (place number : ℕ) (items : List Item)
      → Within K (n + total K.takes (connects place number ∷ items)) (with_signal w c) (Building items ∷ [])
  connects_signal c place number items = by (is_too_late w.objects c.object c.arg)
    where
      by : (late : Bool) → Within K (n + total K.takes (connects place number ∷ items)) (cond late w (with_handler w c)) (Building items ∷ [])
      by true = within K n (total K.takes items) (n + total K.takes (connects place number ∷ items)) w (Building items ∷ []) holds (omega arith) (omega arith)
      by false = within K (K.takes (connects place number) + n) (total K.takes items) (n + total K.takes (connects place number ∷ items)) (with_handler w c) (Building items ∷ [])
          (K.connects_handler n w.last_handler w.objects place number holds) (omega arith) (omega arith)

  builds_handler : (place number : ℕ) (items : List Item) → IfOk (building_handler d w place number items) (Builds (connects place number ∷ items))
  unfolding building_handler
  builds_handler place number items = bind_keeps (known arms.Code (place_at d place)) _ _ (λ p _. bind_keeps (known arms.Code (slice_get p.signals number)) _ _ (λ a _.
      bind_keeps (held_object w place) _ _ (λ id _. bind_keeps (held_data w a.with) _ _ (λ arg _. bind_keeps (known arms.Code (signal_number d p.class a.signal)) _ _ (λ signal _.
      bind_keeps (detail_at d p.class signal a.detail) _ _ (λ detail _. connects_signal (connection id signal detail a arg) place number items))))))

  -- an item that takes none of what is counted
  other : (item : Item) (items : List Item) (a : Answer Started) → IfOk a (Builds items) → IfOk a (Builds (item ∷ items))
  other item items a kept = if_weaker (Builds items) (Builds (item ∷ items)) a (λ s within.
      more_room K (n + total K.takes items) (n + total K.takes (item ∷ items)) s.world s.tasks (omega arith) within) kept

  builds : (items : List Item) → IfOk (building d w items) (Builds items)
  builds [] = builds_on w [] [] holds refl
  builds (makes place ∷ items) = builds_object place items
  builds (adopts place ∷ items) = other (adopts place) items _ (builds_child place items)
  builds (forwards place slot to ∷ items) = other (forwards place slot to) items _ (builds_forward place slot to items)
  builds (binds number ∷ items) = other (binds number) items _ (builds_binding number items)
  builds (connects place number ∷ items) = builds_handler place number items

  -- ** requests, sources and calls

  sets_given : (id slot : ℕ) (given : Given) → IfOk (set_given w id slot given) Kept
  unfolding set_given
  sets_given id slot given = bind_keeps (known arms.Operand (given_value w given)) _ Kept (λ v _. same _ _ holds refl)

  carries_set : (place slot : ℕ) (given : Given) → IfOk (set_from_event d w place slot given) Kept
  unfolding set_from_event
  carries_set place slot given = bind_keeps (held_object w place) _ Kept (λ id _. bind_keeps (spec_at d w.objects id slot) _ Kept (λ s _.
      settable s (set_given w id slot given) (sets_given id slot given)))

  carries_get : (place slot : ℕ) → IfOk (get_from_event d w place slot) Kept
  unfolding get_from_event
  carries_get place slot = bind_keeps (held_object w place) _ Kept (λ id _. bind_keeps (spec_at d w.objects id slot) _ Kept (λ s _. bind_keeps (asked w.objects id (value_at slot)) _ Kept (λ v _.
      only_keeps (is_readable s) arms.Flags (starts (with_result (said d w (lines.get id s.name v)) v) []) Kept (same _ _ holds refl))))

  carries_emit : (place signal : ℕ) (args : List Given) (detail : Option (List ℕ)) → IfOk (emit_from_event d w place signal args detail) Kept
  unfolding emit_from_event
  carries_emit place signal args detail = bind_keeps (held_object w place) _ Kept (λ id _. bind_keeps (detail_in d w id signal detail) _ Kept (λ stands _. bind_keeps (given_values w args) _ Kept (λ given _. same _ _ holds refl)))

  carries_release : (place : ℕ) → IfOk (release_from_event d w place) Kept
  unfolding release_from_event
  carries_release place = bind_keeps (known arms.Code (place_at d place)) _ Kept (λ p _. bind_keeps (held_object w place) _ Kept (λ id _. same _ _ holds refl))

  carries_request : (r : Request) → IfOk (request_step d w r) Kept
  carries_request (config.set place slot given) = carries_set place slot given
  carries_request (config.get place slot) = carries_get place slot
  carries_request (config.emit place signal args detail) = carries_emit place signal args detail
  carries_request (config.release place) = carries_release place

  runs_source : (source : ℕ) → IfOk (sourcing d w source) Kept
  unfolding sourcing
  runs_source source = bind_keeps (known arms.Code (source_of source w.sources)) _ Kept (λ s _. runs_before s.program (source_data s.arg) (Answering source ∷ []) refl)

  left_one : (v : World) → Taken K n v → (rest : List Task) → n + to_take K.takes rest ≤ K.most → (to : ℕ) (x : Value) → IfOk (left_with v rest to x) Leaves
  unfolding left_with
  left_one v now rest few to x = bind_keeps (received rest to (Some x)) _ Leaves (λ agenda is.
      rests v rest agenda now (kept_at (λ (a : List Task). to_take K.takes a ≡ to_take K.takes rest) (received rest to (Some x)) agenda (receives K.takes rest to (Some x)) is) few)

  is_called : (call : Call) (rest : List Task) → n + to_take K.takes rest ≤ K.most → (reply : Reply) → IfOk (called d w call rest reply) Leaves
  unfolding called with_method
  is_called call rest few reply = bind_keeps (known arms.Call (peer_at w call.peer)) _ Leaves (λ p _. bind_keeps (known arms.Call (method_of p call.method)) _ Leaves (λ m _.
      left_one _ holds rest few call.to _))

  is_uncalled : (call : Call) (rest : List Task) → n + to_take K.takes rest ≤ K.most → IfOk (uncalled d w call rest) Leaves
  unfolding uncalled with_method
  is_uncalled call rest few = bind_keeps (known arms.Call (peer_at w call.peer)) _ Leaves (λ p _. bind_keeps (known arms.Call (method_of p call.method)) _ Leaves (λ m _.
      left_one _ holds rest few call.to _))

  is_replied : (call : Call) (rest : List Task) → n + to_take K.takes rest ≤ K.most → (reply : Option Reply) → IfOk (replied d w call rest reply) Leaves
  is_replied call rest few None = tt
  is_replied call rest few (Some reply) = is_called call rest few reply

  calls : (call : Call) (rest : List Task) → n + to_take K.takes rest ≤ K.most → (reply : Option Reply) → IfOk (calling_on d w call rest reply) Leaves
  calls call rest few reply = cond_keeps (is_asked w call.peer) (replied d w call rest reply) (uncalled d w call rest) Leaves (is_replied call rest few reply) (is_uncalled call rest few)

  is_finalised : (id : ℕ) → K.IsAmong n id → IfOk (finalising d w id) Kept
  unfolding finalising
  is_finalised id low = bind_keeps (finalised d w id) _ Kept (λ v is.
      same v [] (kept_at (Taken K n) (finalised d w id) v (finalised_taken K d w n holds id low) is) refl)

  -- ** steps

  abbrev At : Config → Type 0
  At c = Within K K.most c.world c.agenda

  leaves_agenda : (k : ℕ) (a : Answer Left) → IfOk a Leaves → IfOk (left k a) At
  unfolding left
  leaves_agenda k (Ok l) within = within
  leaves_agenda k (Err arm) within = tt

  sinks_first : (floating : List ℕ) → Taken K n (sink_first_floating w floating)
  sinks_first [] = holds
  sinks_first (id ∷ ids) = holds

  module _ (some : ℕ) (rest : List Task) (few : some + to_take K.takes rest ≤ K.most) where
    not_counted : (k : ℕ) (a : Answer Started) → IfOk a (λ s. Within K some s.world s.tasks) → IfOk (uncounted rest k a) At
    not_counted k (Ok s) within = in_front_of K some K.most rest few s.world s.tasks within
    not_counted k (Err arm) within = tt

    is_counted : (k : ℕ) (a : Answer Started) → IfOk a (λ s. Within K some s.world s.tasks) → IfOk (counted rest k a) At
    is_counted k a within = only_keeps (nat_lt k most_steps) arms.Steps (uncounted rest (suc k) a) At (not_counted (suc k) a within)

  -- where an object is finalised, before all tasks
  pub finalises : (tasks : List Task) → n + to_take K.takes tasks ≤ K.most → (k id : ℕ) → K.IsAmong n id → IfOk (counted tasks k (finalising d w id)) At
  finalises tasks few k id low = is_counted n tasks few k (finalising d w id) (is_finalised id low)

  pub acts_within : (reply : Option Reply) (tasks : List Task) (k : ℕ) → n + to_take K.takes tasks ≤ K.most → IfOk (act d w reply tasks k) At
  acts_within reply [] k few = rests _ [] [] (sinks_first w.floating) refl few
  acts_within reply (Setting id slot v ∷ rest) k few = not_counted n rest (omega (arith, few)) k (setting d w id slot v) (sets_one id slot v)
  acts_within reply (Notifying id slot ∷ rest) k few = is_counted n rest (omega (arith, few)) k (notifying d w id slot) (notifies_one id slot)
  acts_within reply (Beginning e ∷ rest) k few = is_counted n rest (omega (arith, few)) k (beginning_emission d w e) (begins_emission e)
  acts_within reply (Emitting e [] ∷ rest) k few = leaves_agenda k (ending d w e rest) (ends_emission e rest (omega (arith, few)))
  acts_within reply (Emitting e (entry ∷ entries) ∷ rest) k few = not_counted n rest (omega (arith, few)) k (taking_entry d w e entries entry) (takes e entries entry)
  acts_within reply (Transferring number back ∷ rest) k few = is_counted n rest (omega (arith, few)) k (transferring d w number back) (carries_by back (binding_of number w.bindings))
  acts_within reply (Unsetting number ∷ rest) k few = not_counted n rest (omega (arith, few)) k (unsetting w number) (same _ _ holds refl)
  acts_within reply (Thawing id slots ∷ rest) k few = not_counted n rest (omega (arith, few)) k (thawing w id slots) (thaws_rest id slots)
  acts_within reply (Running f ∷ rest) k few =
      only_keeps (nat_lt k most_steps) arms.Steps (left (suc k) (running d w rest f)) At
      (leaves_agenda (suc k) (running d w rest f) (running_kept K d w n holds rest (omega (arith, few)) f))
  acts_within reply (Answering source ∷ rest) k few = tt
  acts_within reply (Calling call ∷ rest) k few = leaves_agenda k (calling_on d w call rest reply) (calls call rest (omega (arith, few)) reply)
  acts_within reply (Constructing id steps held ∷ rest) k few = not_counted n rest (omega (arith, few)) k (constructing d w id steps held) (constructs id steps held)
  acts_within reply (Building items ∷ rest) k few = not_counted (n + total K.takes items) rest (omega (arith, few)) k (building d w items) (builds items)
  acts_within reply (Handling r ∷ rest) k few = not_counted n rest (omega (arith, few)) k (request_step d w r) (carries_request r)
  acts_within reply (Due source ∷ rest) k few = not_counted n rest (omega (arith, few)) k (sourcing d w source) (runs_source source)
