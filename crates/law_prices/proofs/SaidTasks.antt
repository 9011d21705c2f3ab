-- How many lines a task says at most.
use Rattle.std.proofs.Common.{◌≡◌, refl, ap, ℕ, Bool, true, false, cond, not, List, [], ◌∷◌, Option, None, Some, Ok, ◌&&◌, ◌||◌}
use Rattle.std.specs.Prelude.{IfOk, nat_lt, slice_get}
use Rattle.ui_machine.specs.declared.arm.Arm.TheVariants as arms
use Rattle.ui_machine.specs.Definition.{Definition}
use Rattle.ui_machine.specs.Definition.Lookups.{place_at, program_at, spec_of}
use Rattle.ui_machine.specs.Definition.Places.{Given}
use Rattle.ui_machine.specs.Definition.Properties.{Spec, is_construct_only, is_lax, is_readable, is_writable}
use Rattle.ui_machine.specs.Definition.Values.{Value}
use Rattle.ui_machine.specs.Definition.Values as values
use Rattle.ui_machine.specs.Instructions.Peers.{called, calling_on, left_with, replied, uncalled, with_method}
use Rattle.ui_machine.specs.Outcome.{After, Answer, known, only_if}
use Rattle.ui_machine.specs.Output.Lines as lines
use Rattle.ui_machine.specs.Rules.Accumulation.{ending, given_to, in_stage, instance_of, passed_down, received, resulting, running_handler, taking_entry, told}
use Rattle.ui_machine.specs.Rules.Build.{building, building_child, building_forward, building_handler, building_object, connection, held_data, held_object, peer_for, set_forward, with_signal}
use Rattle.ui_machine.specs.Rules.Children.{adopted}
use Rattle.ui_machine.specs.Rules.Connections.{Connection, detail_at, detail_in, is_too_late, signal_number, with_handler}
use Rattle.ui_machine.specs.Rules.Construction.{apply_construct_property, constructed, constructing, given_value, making, thawing_made}
use Rattle.ui_machine.specs.Rules.EmissionPlan.{beginning_emission, emission_plan, notifying, signal_at}
use Rattle.ui_machine.specs.Rules.Events.{emit_from_event, get_from_event, given_values, release_from_event, request_step, set_from_event, set_given, with_result}
use Rattle.ui_machine.specs.Rules.MainLoop.{source_data, sourcing}
use Rattle.ui_machine.specs.Rules.NotifyQueue.{frozen_less, raised, thawing}
use Rattle.ui_machine.specs.Rules.Programs.{all_fit, beginning_program, fits_register, first_frame, program_before}
use Rattle.ui_machine.specs.Rules.Sets.{has_kind, if_settable, lives, notifies, raising, raising_if, setting, settled, spec_at, without_disposed, written}
use Rattle.ui_machine.specs.Rules.Transform.{kind_fits, same_value, transformed}
use Rattle.ui_machine.specs.Rules.Validation.{clamp}
use Rattle.ui_machine.specs.Rules.Transfers.{End, inverted, inverts, carried, carried_by, set_by, source_end, target_end}
use Rattle.ui_machine.specs.State.Bindings.{Binding, with_busy}
use Rattle.ui_machine.specs.State.Config.{Left, Started, World, builder_entry, built, is_asked, is_unbuilt, peer_at, said, starts, sunk, with_builder_entry}
use Rattle.ui_machine.specs.State.Handlers.{Handler, handler_of}
use Rattle.ui_machine.specs.State.Objects.{asked, changed, class_in, object_at, value_at, with_value}
use Rattle.ui_machine.specs.State.Peers.{Reply, method_of}
use Rattle.ui_machine.specs.State.Sources.{source_of}
use Rattle.ui_machine.specs.State.Tasks.{Answering, Beginning, Building, Call, Calling, ConstructStep, Constructing, Due, Emission, Emitting, Frame, Handling, Item, Notifying, PlanEntry, Request, Running, Setting, Task, Thawing, Transferring, Unsetting, adopts, binds, class_handler, connects, forwards, handler, makes, runs, sets, thaws}
use Rattle.ui_machine.specs.State.Tasks as config
use Rattle.std.proofs.Common.{◌+◌, ◌≤◌, ◌++◌, arith}
use Rattle.std.specs.Prelude.{⊤, length}
use Rattle.ui_machine.specs.Rules.Build.{building_binding}
use Rattle.ui_machine.specs.Rules.Sets.{is_disposed}
use Rattle.ui_machine.specs.Seq.{total}
use Rattle.ui_machine.specs.State.Objects.{living}
use Rattle.machine_laws.proofs.KeptProofs.{bind_keeps, cond_keeps, kept_at, only_keeps}
use Rattle.law_prices.specs.Deeds as deeds
use Rattle.law_prices.specs.Lists as lists
use Rattle.law_prices.specs.Steps.{done_by, task_deeds, turn_deeds}
use Rattle.law_prices.proofs.SaidProofs.{Says}
use Rattle.law_prices.proofs.SaidProofs as said

-- ** parts of a step

module _ (d : Definition) (w : World) (few : ℕ) where
  abbrev pub Kept : Started → Type 0
  Kept s = Says d w few s.world

  abbrev pub Leaves : Left → Type 0
  Leaves l = Says d w few l.world

  abbrev still : Says d w few w
  still = said.still d w few

  abbrev once : 1 ≤ few → (x : List ℕ) → length (w.transcript ++ x ∷ []) ≤ length w.transcript + few
  once some x = said.once d w few some x

  settable : (s : Spec) (a : Answer Started) → IfOk a Kept → IfOk (if_settable s a) Kept
  settable s a k = only_keeps (is_writable s) arms.Flags (only_if (not (is_construct_only s)) arms.ConstructOnly a) Kept (only_keeps (not (is_construct_only s)) arms.ConstructOnly a Kept k)

  raises : (v : World) → Says d w few v → (id slot : ℕ) → IfOk (raising v id slot) Kept
  unfolding raising
  raises v k id slot = bind_keeps (changed v.objects id (raised slot)) _ Kept (λ r _. k)

  raises_if : (b : Bool) (v : World) → Says d w few v → (id slot : ℕ) → IfOk (raising_if b v id slot) Kept
  raises_if true v k id slot = raises v k id slot
  raises_if false v k id slot = k

  writes : 1 ≤ few → (id slot : ℕ) (s : Spec) (v : Value) → IfOk (written d w id slot s v) Kept
  unfolding written
  writes some id slot s v = bind_keeps (changed w.objects id (with_value slot v)) _ Kept (λ r _. raises_if (notifies s r.answer v) _ (once some _) id slot)

  settles : 1 ≤ few → (id slot : ℕ) (s : Spec) (v valid : Value) → IfOk (settled d w id slot s v valid) Kept
  settles some id slot s v valid =
      cond_keeps (same_value valid v || is_lax s) (written d w id slot s (without_disposed w.objects s valid)) (starts (said d w (lines.refused id s.name v)) []) Kept
      (writes some id slot s (without_disposed w.objects s valid)) (once some _)

  pub sets_one : 1 ≤ few → (id slot : ℕ) (v : Value) → IfOk (setting d w id slot v) Kept
  unfolding setting
  sets_one some id slot v = bind_keeps (spec_at d w.objects id slot) _ Kept (λ s _.
      let valid = clamp (class_in w.objects) d.types s v in
      only_keeps (has_kind v s.kind && lives w.objects v) arms.Value (settled d w id slot s v valid) Kept (settles some id slot s v valid))

  pub notifies_one : 1 ≤ few → (id slot : ℕ) → IfOk (notifying d w id slot) Kept
  unfolding notifying
  notifies_one some id slot = bind_keeps (object_at w.objects id) _ Kept (λ o _. bind_keeps (known arms.Code (spec_of d o.class slot)) _ Kept (λ p _. bind_keeps (signal_at d o.class 0) _ Kept (λ s _. once some _)))

  pub begins_emission : 1 ≤ few → (e : Emission) → IfOk (beginning_emission d w e) Kept
  unfolding beginning_emission
  begins_emission some e = bind_keeps (object_at w.objects e.object) _ Kept (λ o _. bind_keeps (signal_at d o.class e.signal) _ Kept (λ s _.
      only_keeps (all_fit (kind_fits (class_in w.objects) d.types) e.args s.params) arms.Argument
      (starts (said d w (lines.emit e.object s.name e.detail e.args)) (Emitting e (emission_plan d w s o.class e) ∷ [])) Kept (once some _)))

  begins_program : 1 ≤ few → (number : ℕ) (args : List Value) → IfOk (beginning_program d w number args) Kept
  unfolding beginning_program
  begins_program some number args = bind_keeps (known arms.Code (program_at d number)) _ Kept (λ p _.
      only_keeps (all_fit (fits_register d w.objects) args p.params) arms.Parameters (starts (said d w (lines.run p.name)) (Running (first_frame number p args) ∷ [])) Kept
      (once some _))

  pub runs_before : 1 ≤ few → (number : ℕ) (args : List Value) (tasks : List Task) → IfOk (program_before d w number args tasks) Kept
  unfolding program_before
  runs_before some number args tasks = bind_keeps (beginning_program d w number args) _ Kept (λ s is. kept_at Kept (beginning_program d w number args) s (begins_program some number args) is)

  -- ** emissions

  turns : (e : Emission) (entries : List PlanEntry) (o : Option Handler) → ((h : Handler) → o ≡ Some h → 1 ≤ few) → IfOk (running_handler d w e entries o) Kept
  turns e entries None some = still
  turns e entries (Some h) some = cond_keeps (nat_lt 0 h.blocks) _ _ Kept (still) (runs_before (some h refl) h.program (given_to e h) (Emitting e entries ∷ []))

  pub takes : (e : Emission) (entries : List PlanEntry) (entry : PlanEntry) (place : ℕ) → total (lists.lines d) (turn_deeds w place e.signal entry) ≤ few → IfOk (taking_entry d w e entries entry) Kept
  takes e entries (class_handler program cleanup) place low = runs_before (omega (arith, low)) program (instance_of e ∷ e.args) (Emitting (in_stage cleanup e) entries ∷ [])
  takes e entries (handler number) place low = turns e entries (handler_of number w.handlers) (λ h is. (let one = ap (λ o. total (lists.lines d) (done_by (λ (h : Handler). deeds.run h.program ∷ []) o)) is in omega (arith, low, one)))
  takes e entries (config.transfer number back) place low = still

  tells : (b : Bool) (v : Option Value) → (b ≡ true → (x : Value) → v ≡ Some x → 1 ≤ few) → Says d w few (told d w b v)
  tells b None some = still
  tells false (Some v) some = still
  tells true (Some v) some = once (some refl v refl) _

  pub ends_emission : (e : Emission) (rest : List Task) → ((v : Option Value) → resulting d w e ≡ Ok v → e.by_event ≡ true → (x : Value) → v ≡ Some x → 1 ≤ few) → IfOk (ending d w e rest) Leaves
  unfolding ending
  ends_emission e rest some = bind_keeps (resulting d w e) _ Leaves (λ v is. bind_keeps (passed_down rest v) _ Leaves (λ agenda _. tells e.by_event v (some v is)))

  -- ** transfers

  -- a binding that begins or ends to set
  pub busies : (number : ℕ) (busy : Bool) → Says d w few (record w { bindings = with_busy number busy w.bindings })
  busies number busy = still

  sets_by : (number : ℕ) (end : End) (v : Option Value) → IfOk (set_by w number end v) Kept
  sets_by number end None = still
  sets_by number end (Some v) = busies number true

  -- where the one end is read and the other set
  may_set : (from to : Spec) (a : Answer Started) → IfOk a Kept
      → IfOk (only_if (is_readable from) arms.Flags (only_if (is_writable to) arms.Flags (only_if (not (is_construct_only to)) arms.ConstructOnly a))) Kept
  may_set from to a k = only_keeps (is_readable from) arms.Flags _ Kept (settable to a k)

  carries : (b : Binding) (source target : End) → IfOk (carried d w b source target) Kept
  unfolding carried
  carries b source target = bind_keeps (spec_at d w.objects source.object source.slot) _ Kept (λ from _. bind_keeps (spec_at d w.objects target.object target.slot) _ Kept (λ to _.
      bind_keeps (asked w.objects source.object (value_at source.slot)) _ Kept (λ v _.
      may_set from to (set_by w b.number target (inverted (inverts b) (transformed d.types from.kind to.kind v))) (sets_by b.number target _))))

  pub carries_by : (back : Bool) (b : Option Binding) → IfOk (carried_by d w back b) Kept
  carries_by back None = still
  carries_by false (Some b) = carries b (source_end b) (target_end b)
  carries_by true (Some b) = carries b (target_end b) (source_end b)

  -- ** constructions and the build

  pub thaws_rest : (id : ℕ) (slots : List ℕ) → IfOk (thawing w id slots) Kept
  thaws_rest id [] = still
  thaws_rest id (slot ∷ slots) = still

  is_constructed : (id : ℕ) (held : Bool) → IfOk (constructed w id held) Kept
  unfolding constructed
  is_constructed id false = still
  is_constructed id true = bind_keeps (object_at w.objects id) _ Kept (λ o _.
      only_keeps (is_unbuilt (builder_entry w o.place)) arms.Code (starts (sunk (with_builder_entry w o.place (built id)) id) []) Kept (still))

  makes_set : (id slot : ℕ) (v : Value) (tasks : List Task) → IfOk (apply_construct_property d w id slot v tasks) Kept
  unfolding apply_construct_property
  makes_set id slot v tasks = bind_keeps (spec_at d w.objects id slot) _ Kept (λ s _.
      only_keeps (is_writable s) arms.Flags (starts w (Setting id slot v ∷ tasks)) Kept (still))

  thaws_made : (id : ℕ) (steps : List ConstructStep) (held : Bool) → IfOk (thawing_made w id steps held) Kept
  unfolding thawing_made
  thaws_made id steps held = bind_keeps (changed w.objects id frozen_less) _ Kept (λ thaw _. still)

  abbrev pub SaysOf : List ConstructStep → Type 0
  SaysOf (runs program ∷ steps) = 1 ≤ few
  SaysOf _ = ⊤

  pub constructs : (id : ℕ) (steps : List ConstructStep) (held : Bool) → SaysOf steps → IfOk (constructing d w id steps held) Kept
  constructs id [] held some = is_constructed id held
  constructs id (sets slot v ∷ steps) held some = makes_set id slot v (Constructing id steps held ∷ [])
  constructs id (runs program ∷ steps) held some = runs_before some program (values.object (Some id) ∷ []) (Constructing id steps held ∷ [])
  constructs id (thaws ∷ steps) held some = thaws_made id steps held

  builds_object : 1 ≤ few → (place : ℕ) (items : List Item) → IfOk (building_object d w place items) Kept
  unfolding building_object
  builds_object some place items = bind_keeps (known arms.Code (place_at d place)) _ Kept (λ p _. bind_keeps (peer_for d w p) _ Kept (λ peer _.
      bind_keeps (making d w place peer true) _ Kept (λ made is. kept_at Kept (making d w place peer true) made (said.makes d w few some place peer true) is)))

  builds_child : 1 ≤ few → (place : ℕ) (items : List Item) → IfOk (building_child d w place items) Kept
  unfolding building_child
  builds_child some place items = bind_keeps (known arms.Code (place_at d place)) _ Kept (λ p _. bind_keeps (known arms.Code p.parent) _ Kept (λ above _. bind_keeps (held_object w above) _ Kept (λ parent _.
      bind_keeps (held_object w place) _ Kept (λ child _. bind_keeps (adopted d w parent child) _ Kept (λ family is.
      kept_at (λ (r : After World Bool). Says d w few r.state) (adopted d w parent child) family (said.adopted_kept d w few some parent child) is)))))

  sets_forward : (id slot to : ℕ) (items : List Item) → IfOk (set_forward w id slot to items) Kept
  unfolding set_forward
  sets_forward id slot to items = bind_keeps (held_object w to) _ Kept (λ target _. still)

  builds_forward : (place slot to : ℕ) (items : List Item) → IfOk (building_forward d w place slot to items) Kept
  unfolding building_forward
  builds_forward place slot to items = bind_keeps (held_object w place) _ Kept (λ id _. bind_keeps (spec_at d w.objects id slot) _ Kept (λ s _.
      settable s (set_forward w id slot to items) (sets_forward id slot to items)))

  connects_signal : (c : Connection) → Says d w few (with_signal w c)
  connects_signal c = by (is_too_late w.objects c.object c.arg)
    where
      by : (late : Bool) → Says d w few (cond late w (with_handler w c))
      by true = still
      by false = still

  builds_handler : (place number : ℕ) (items : List Item) → IfOk (building_handler d w place number items) Kept
  unfolding building_handler
  builds_handler place number items = bind_keeps (known arms.Code (place_at d place)) _ Kept (λ p _. bind_keeps (known arms.Code (slice_get p.signals number)) _ Kept (λ a _. bind_keeps (held_object w place) _ Kept (λ id _.
      bind_keeps (held_data w a.with) _ Kept (λ arg _. bind_keeps (known arms.Code (signal_number d p.class a.signal)) _ Kept (λ signal _. bind_keeps (detail_at d p.class signal a.detail) _ Kept (λ detail _.
      connects_signal (connection id signal detail a arg)))))))

  builds_binding : (number : ℕ) (items : List Item) → IfOk (building_binding d w number items) Kept
  unfolding building_binding
  builds_binding number items = bind_keeps (known arms.Code (slice_get d.bindings number)) _ Kept (λ b _. bind_keeps (held_object w b.source) _ Kept (λ source _. bind_keeps (held_object w b.target) _ Kept (λ target _.
      cond_keeps (is_disposed (living w.objects source) || is_disposed (living w.objects target)) (starts w (Building items ∷ [])) _ Kept still still)))

  pub builds : (items : List Item) → total (lists.lines d) (task_deeds d w (Building items)) ≤ few → IfOk (building d w items) Kept
  builds [] low = still
  builds (makes place ∷ items) low = builds_object (omega (arith, low)) place items
  builds (adopts place ∷ items) low = builds_child (omega (arith, low)) place items
  builds (forwards place slot to ∷ items) low = builds_forward place slot to items
  builds (binds number ∷ items) low = builds_binding number items
  builds (connects place number ∷ items) low = builds_handler place number items

  -- ** requests, sources and calls

  sets_given : (id slot : ℕ) (given : Given) → IfOk (set_given w id slot given) Kept
  unfolding set_given
  sets_given id slot given = bind_keeps (known arms.Operand (given_value w given)) _ Kept (λ v _. still)

  carries_set : (place slot : ℕ) (given : Given) → IfOk (set_from_event d w place slot given) Kept
  unfolding set_from_event
  carries_set place slot given = bind_keeps (held_object w place) _ Kept (λ id _. bind_keeps (spec_at d w.objects id slot) _ Kept (λ s _.
      settable s (set_given w id slot given) (sets_given id slot given)))

  carries_get : 1 ≤ few → (place slot : ℕ) → IfOk (get_from_event d w place slot) Kept
  unfolding get_from_event
  carries_get some place slot = bind_keeps (held_object w place) _ Kept (λ id _. bind_keeps (spec_at d w.objects id slot) _ Kept (λ s _. bind_keeps (asked w.objects id (value_at slot)) _ Kept (λ v _.
      only_keeps (is_readable s) arms.Flags (starts (with_result (said d w (lines.get id s.name v)) v) []) Kept (once some _))))

  carries_emit : (place signal : ℕ) (args : List Given) (detail : Option (List ℕ)) → IfOk (emit_from_event d w place signal args detail) Kept
  unfolding emit_from_event
  carries_emit place signal args detail = bind_keeps (held_object w place) _ Kept (λ id _. bind_keeps (detail_in d w id signal detail) _ Kept (λ stands _. bind_keeps (given_values w args) _ Kept (λ given _. still)))

  carries_release : 1 ≤ few → (place : ℕ) → IfOk (release_from_event d w place) Kept
  unfolding release_from_event
  carries_release some place = bind_keeps (known arms.Code (place_at d place)) _ Kept (λ p _. bind_keeps (held_object w place) _ Kept (λ id _. once some _))

  pub carries_request : (r : Request) → total (lists.lines d) (task_deeds d w (Handling r)) ≤ few → IfOk (request_step d w r) Kept
  carries_request (config.set place slot given) low = carries_set place slot given
  carries_request (config.get place slot) low = carries_get (omega (arith, low)) place slot
  carries_request (config.emit place signal args detail) low = carries_emit place signal args detail
  carries_request (config.release place) low = carries_release (omega (arith, low)) place

  pub runs_source : 1 ≤ few → (source : ℕ) → IfOk (sourcing d w source) Kept
  unfolding sourcing
  runs_source some source = bind_keeps (known arms.Code (source_of source w.sources)) _ Kept (λ s _. runs_before some s.program (source_data s.arg) (Answering source ∷ []))

  left_one : (v : World) → Says d w few v → (rest : List Task) (to : ℕ) (x : Value) → IfOk (left_with v rest to x) Leaves
  unfolding left_with
  left_one v k rest to x = bind_keeps (received rest to (Some x)) _ Leaves (λ agenda _. k)

  is_called : 1 ≤ few → (call : Call) (rest : List Task) (reply : Reply) → IfOk (called d w call rest reply) Leaves
  unfolding called with_method
  is_called some call rest reply = bind_keeps (known arms.Call (peer_at w call.peer)) _ Leaves (λ p _. bind_keeps (known arms.Call (method_of p call.method)) _ Leaves (λ m _.
      left_one _ (once some _) rest call.to _))

  is_uncalled : 1 ≤ few → (call : Call) (rest : List Task) → IfOk (uncalled d w call rest) Leaves
  unfolding uncalled with_method
  is_uncalled some call rest = bind_keeps (known arms.Call (peer_at w call.peer)) _ Leaves (λ p _. bind_keeps (known arms.Call (method_of p call.method)) _ Leaves (λ m _.
      left_one _ (once some _) rest call.to _))

  is_replied : 1 ≤ few → (call : Call) (rest : List Task) (reply : Option Reply) → IfOk (replied d w call rest reply) Leaves
  is_replied some call rest None = tt
  is_replied some call rest (Some reply) = is_called some call rest reply

  pub calls : 1 ≤ few → (call : Call) (rest : List Task) (reply : Option Reply) → IfOk (calling_on d w call rest reply) Leaves
  calls some call rest reply = cond_keeps (is_asked w call.peer) (replied d w call rest reply) (uncalled d w call rest) Leaves (is_replied some call rest reply) (is_uncalled some call rest)
