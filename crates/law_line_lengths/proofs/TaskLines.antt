-- Each line that a task says is short.
use Rattle.std.proofs.Common.{◌≡◌, ℕ, Bool, true, false, cond, not, List, [], ◌∷◌, Option, None, Some, Ok, ◌&&◌, ◌||◌}
use Rattle.std.specs.Prelude.{IfOk, nat_lt, slice_get}
use Rattle.ui_machine.specs.declared.arm.Arm.TheVariants as arms
use Rattle.ui_machine.specs.Definition.{Definition}
use Rattle.ui_machine.specs.Definition.Lookups.{place_at, program_at, spec_of}
use Rattle.ui_machine.specs.Definition.Places.{Given}
use Rattle.ui_machine.specs.Definition.Properties.{Spec, is_construct_only, is_lax, is_readable, is_writable}
use Rattle.ui_machine.specs.Definition.Values.{Value}
use Rattle.ui_machine.specs.Definition.Values as values
use Rattle.ui_machine.specs.Instructions.Peers.{called, calling_on, left_with, replied, uncalled, with_method}
use Rattle.ui_machine.specs.Outcome.{After, Answer, known, only_if}
use Rattle.ui_machine.specs.Output.Lines as lines
use Rattle.ui_machine.specs.Rules.Accumulation.{ending, given_to, in_stage, instance_of, passed_down, received, resulting, running_handler, taking_entry, told}
use Rattle.ui_machine.specs.Rules.Build.{building, building_child, building_forward, building_handler, building_object, connection, held_data, held_object, peer_for, set_forward, with_signal}
use Rattle.ui_machine.specs.Rules.Children.{adopted}
use Rattle.ui_machine.specs.Rules.Connections.{Connection, detail_at, detail_in, is_too_late, signal_number, with_handler}
use Rattle.ui_machine.specs.Rules.Construction.{apply_construct_property, constructed, constructing, given_value, making, thawing_made}
use Rattle.ui_machine.specs.Rules.EmissionPlan.{beginning_emission, emission_plan, notifying, signal_at}
use Rattle.ui_machine.specs.Rules.Events.{emit_from_event, get_from_event, given_values, release_from_event, request_step, set_from_event, set_given, with_result}
use Rattle.ui_machine.specs.Rules.MainLoop.{source_data, sourcing}
use Rattle.ui_machine.specs.Rules.NotifyQueue.{frozen_less, raised, thawing}
use Rattle.ui_machine.specs.Rules.Programs.{all_fit, beginning_program, fits_register, first_frame, program_before}
use Rattle.ui_machine.specs.Rules.Sets.{has_kind, if_settable, lives, notifies, raising, raising_if, setting, settled, spec_at, without_disposed, written}
use Rattle.ui_machine.specs.Rules.Transform.{kind_fits, same_value, transformed}
use Rattle.ui_machine.specs.Rules.Validation.{clamp}
use Rattle.ui_machine.specs.Rules.Transfers.{End, inverted, inverts, carried, carried_by, set_by, source_end, target_end}
use Rattle.ui_machine.specs.State.Bindings.{Binding, with_busy}
use Rattle.ui_machine.specs.State.Config.{Left, Started, World, builder_entry, built, is_asked, is_unbuilt, peer_at, said, starts, sunk, with_builder_entry}
use Rattle.ui_machine.specs.State.Handlers.{Handler, handler_of}
use Rattle.ui_machine.specs.State.Objects.{asked, changed, class_in, object_at, value_at, with_value}
use Rattle.ui_machine.specs.State.Peers.{Reply, method_of}
use Rattle.ui_machine.specs.State.Sources.{source_of}
use Rattle.ui_machine.specs.State.Tasks.{Answering, Beginning, Building, Call, Calling, ConstructStep, Constructing, Due, Emission, Emitting, Frame, Handling, Item, Notifying, PlanEntry, Request, Running, Setting, Task, Thawing, Transferring, Unsetting, adopts, binds, class_handler, connects, forwards, handler, makes, runs, sets, thaws}
use Rattle.ui_machine.specs.State.Tasks as config
use Rattle.std.proofs.Common.{◌≤◌, ◌++◌, arith}
use Rattle.std.specs.Prelude.{length}
use Rattle.ui_machine.specs.Rules.Build.{building_binding}
use Rattle.ui_machine.specs.Rules.Sets.{is_disposed}
use Rattle.ui_machine.specs.State.Objects.{living}
use Rattle.machine_laws.proofs.KeptProofs.{bind_keeps, cond_keeps, kept_at, only_keeps}
use Rattle.std.specs.Prelude.{IfSome}
use Rattle.ui_machine.specs.Definition.Signals.{Method}
use Rattle.ui_machine.specs.Instructions.Peers.{call_line}
use Rattle.ui_machine.specs.Output.Lines.{Line}
use Rattle.ui_machine.specs.Output.Text.{text_of_line}
use Rattle.ui_machine.specs.Rules.Accumulation.{result_of}
use Rattle.ui_machine.specs.Runs.{IsShort}
use Rattle.ui_machine.specs.State.Peers.{Peer}
use Rattle.law_typing.specs.Verdict.Accepted.{Each}
use Rattle.law_steps.proofs.Instructed.Inverse.{known_is}
use Rattle.law_short_texts.specs.ShortValues.{HasShortAnswer, HasShortTexts, IsShortWorld}
use Rattle.law_short_texts.proofs.Entries.{each_get, there}
use Rattle.law_short_texts.proofs.ObjectProofs.{HasShortDefault, asked_short, spec_short}
use Rattle.law_short_texts.proofs.ValueProofs.{clamped_short, or_zero_short, without_short}
use Rattle.law_line_lengths.specs.LineLengths.{AreArgumentsOf, IsLikeLineOf, IsLikeNameOf, detail_length}
use Rattle.law_line_lengths.specs.StepLines.{Grows, HasLikePeers, IsLikePeerAt, IsLikePeerOf}
use Rattle.law_line_lengths.proofs.GrowthProofs.{grows_not, grows_once}
use Rattle.law_line_lengths.proofs.InstructionLines.{Says}
use Rattle.law_line_lengths.proofs.InstructionLines as said
use Rattle.law_line_lengths.proofs.NameProofs.{fit_lengths, only_when, place_like, program_like, signal_like, spec_like, spec_of_like}

-- ** parts of a step

module _ (d : Definition) (texts : HasShortTexts d) (w : World) (short : IsShortWorld w) (peers : HasLikePeers d w) where
  abbrev pub Kept : Started → Type 0
  Kept s = Says d w peers s.world

  abbrev pub Leaves : Left → Type 0
  Leaves l = Says d w peers l.world

  still : Says d w peers w
  still = grows_not d w.transcript

  once : (line : Line) → IsLikeLineOf d line → Grows d w.transcript (w.transcript ++ text_of_line d.types line ∷ [])
  once line is = grows_once d w.transcript line is

  settable : (s : Spec) (a : Answer Started) → IfOk a Kept → IfOk (if_settable s a) Kept
  settable s a k = only_keeps (is_writable s) arms.Flags (only_if (not (is_construct_only s)) arms.ConstructOnly a) Kept (only_keeps (not (is_construct_only s)) arms.ConstructOnly a Kept k)

  raises : (v : World) → Says d w peers v → (id slot : ℕ) → IfOk (raising v id slot) Kept
  unfolding raising
  raises v k id slot = bind_keeps (changed v.objects id (raised slot)) _ Kept (λ r _. k)

  raises_if : (b : Bool) (v : World) → Says d w peers v → (id slot : ℕ) → IfOk (raising_if b v id slot) Kept
  raises_if true v k id slot = raises v k id slot
  raises_if false v k id slot = k

  writes : (id slot : ℕ) (s : Spec) → IsLikeNameOf d s.name → (v : Value) → IsShort v → IfOk (written d w id slot s v) Kept
  unfolding written
  writes id slot s name v one = bind_keeps (changed w.objects id (with_value slot v)) _ Kept (λ r _. raises_if (notifies s r.answer v) _ (once (lines.set id s.name v) (name, one)) id slot)

  settles : (id slot : ℕ) (s : Spec) → IsLikeNameOf d s.name → (v valid : Value) → IsShort v → IsShort valid → IfOk (settled d w id slot s v valid) Kept
  settles id slot s name v valid given one =
      cond_keeps (same_value valid v || is_lax s) (written d w id slot s (without_disposed w.objects s valid)) (starts (said d w (lines.refused id s.name v)) []) Kept
      (writes id slot s name (without_disposed w.objects s valid) (without_short w.objects s valid one)) (once (lines.refused id s.name v) (name, given))

  pub sets_one : (id slot : ℕ) (v : Value) → IsShort v → IfOk (setting d w id slot v) Kept
  unfolding setting
  sets_one id slot v one = bind_keeps (spec_at d w.objects id slot) _ Kept (λ s is.
      let valid = clamp (class_in w.objects) d.types s v in
      only_keeps (has_kind v s.kind && lives w.objects v) arms.Value (settled d w id slot s v valid) Kept
      (settles id slot s (spec_like d w.objects id slot s is) v valid one (clamped_short (class_in w.objects) d.types s v (kept_at HasShortDefault (spec_at d w.objects id slot) s (spec_short d texts w.objects id slot) is) one)))

  pub notifies_one : (id slot : ℕ) → IfOk (notifying d w id slot) Kept
  unfolding notifying
  notifies_one id slot = bind_keeps (object_at w.objects id) _ Kept (λ o _. bind_keeps (known arms.Code (spec_of d o.class slot)) _ Kept (λ p is.
      bind_keeps (signal_at d o.class 0) _ Kept (λ s _. once (lines.notify id p.name) (spec_of_like d o.class slot p (known_is arms.Code (spec_of d o.class slot) p is)))))

  pub begins_emission : (e : Emission) → Each IsShort e.args → IfSome e.detail (λ (s : List ℕ). length s ≤ detail_length) → IfOk (beginning_emission d w e) Kept
  unfolding beginning_emission
  begins_emission e args detail = bind_keeps (object_at w.objects e.object) _ Kept (λ o _. bind_keeps (signal_at d o.class e.signal) _ Kept (λ s is.
      only_when (all_fit (kind_fits (class_in w.objects) d.types) e.args s.params) arms.Argument
      (starts (said d w (lines.emit e.object s.name e.detail e.args)) (Emitting e (emission_plan d w s o.class e) ∷ [])) Kept
      (λ fits. once (lines.emit e.object s.name e.detail e.args)
      (let like = signal_like d o.class e.signal s is in (like.0, detail, (args, let same = fit_lengths (kind_fits (class_in w.objects) d.types) e.args s.params fits in let most = like.1 in omega (arith, same, most)))))))

  begins_program : (number : ℕ) (args : List Value) → IfOk (beginning_program d w number args) Kept
  unfolding beginning_program
  begins_program number args = bind_keeps (known arms.Code (program_at d number)) _ Kept (λ p is.
      only_keeps (all_fit (fits_register d w.objects) args p.params) arms.Parameters (starts (said d w (lines.run p.name)) (Running (first_frame number p args) ∷ [])) Kept
      (once (lines.run p.name) (program_like d number p (known_is arms.Code (program_at d number) p is))))

  pub runs_before : (number : ℕ) (args : List Value) (tasks : List Task) → IfOk (program_before d w number args tasks) Kept
  unfolding program_before
  runs_before number args tasks = bind_keeps (beginning_program d w number args) _ Kept (λ s is. kept_at Kept (beginning_program d w number args) s (begins_program number args) is)

  -- ** emissions

  turns : (e : Emission) (entries : List PlanEntry) (o : Option Handler) → IfOk (running_handler d w e entries o) Kept
  turns e entries None = still
  turns e entries (Some h) = cond_keeps (nat_lt 0 h.blocks) _ _ Kept still (runs_before h.program (given_to e h) (Emitting e entries ∷ []))

  pub takes : (e : Emission) (entries : List PlanEntry) (entry : PlanEntry) → IfOk (taking_entry d w e entries entry) Kept
  takes e entries (class_handler program cleanup) = runs_before program (instance_of e ∷ e.args) (Emitting (in_stage cleanup e) entries ∷ [])
  takes e entries (handler number) = turns e entries (handler_of number w.handlers)
  takes e entries (config.transfer number back) = still

  tells : (b : Bool) (v : Option Value) → IfSome v IsShort → Says d w peers (told d w b v)
  tells b None one = still
  tells false (Some v) one = still
  tells true (Some v) one = once (lines.result v) one

  results : (e : Emission) → IfSome e.value IsShort → IfOk (resulting d w e) (λ v. IfSome v IsShort)
  unfolding resulting
  results e own = bind_keeps (object_at w.objects e.object) _ (λ v. IfSome v IsShort) (λ o _. bind_keeps (signal_at d o.class e.signal) _ (λ v. IfSome v IsShort) (λ s _. by s.result))
    where
      by : (result : _) → IfSome (result_of d result e.value) IsShort
      by None = tt
      by (Some kind) = or_zero_short d kind e.value own

  pub ends_emission : (e : Emission) → IfSome e.value IsShort → (rest : List Task) → IfOk (ending d w e rest) Leaves
  unfolding ending
  ends_emission e own rest = bind_keeps (resulting d w e) _ Leaves (λ v is. bind_keeps (passed_down rest v) _ Leaves (λ agenda _. tells e.by_event v (kept_at (λ v. IfSome v IsShort) (resulting d w e) v (results e own) is)))

  -- ** transfers

  -- a binding that begins or ends to set
  pub busies : (number : ℕ) (busy : Bool) → Says d w peers (record w { bindings = with_busy number busy w.bindings })
  busies number busy = still

  sets_by : (number : ℕ) (end : End) (v : Option Value) → IfOk (set_by w number end v) Kept
  sets_by number end None = still
  sets_by number end (Some v) = busies number true

  -- where the one end is read and the other set
  may_set : (from to : Spec) (a : Answer Started) → IfOk a Kept
      → IfOk (only_if (is_readable from) arms.Flags (only_if (is_writable to) arms.Flags (only_if (not (is_construct_only to)) arms.ConstructOnly a))) Kept
  may_set from to a k = only_keeps (is_readable from) arms.Flags _ Kept (settable to a k)

  carries : (b : Binding) (source target : End) → IfOk (carried d w b source target) Kept
  unfolding carried
  carries b source target = bind_keeps (spec_at d w.objects source.object source.slot) _ Kept (λ from _. bind_keeps (spec_at d w.objects target.object target.slot) _ Kept (λ to _.
      bind_keeps (asked w.objects source.object (value_at source.slot)) _ Kept (λ v _.
      may_set from to (set_by w b.number target (inverted (inverts b) (transformed d.types from.kind to.kind v))) (sets_by b.number target _))))

  pub carries_by : (back : Bool) (b : Option Binding) → IfOk (carried_by d w back b) Kept
  carries_by back None = still
  carries_by false (Some b) = carries b (source_end b) (target_end b)
  carries_by true (Some b) = carries b (target_end b) (source_end b)

  -- ** constructions and the build

  pub thaws_rest : (id : ℕ) (slots : List ℕ) → IfOk (thawing w id slots) Kept
  thaws_rest id [] = still
  thaws_rest id (slot ∷ slots) = still

  is_constructed : (id : ℕ) (held : Bool) → IfOk (constructed w id held) Kept
  unfolding constructed
  is_constructed id false = still
  is_constructed id true = bind_keeps (object_at w.objects id) _ Kept (λ o _.
      only_keeps (is_unbuilt (builder_entry w o.place)) arms.Code (starts (sunk (with_builder_entry w o.place (built id)) id) []) Kept still)

  makes_set : (id slot : ℕ) (v : Value) (tasks : List Task) → IfOk (apply_construct_property d w id slot v tasks) Kept
  unfolding apply_construct_property
  makes_set id slot v tasks = bind_keeps (spec_at d w.objects id slot) _ Kept (λ s _.
      only_keeps (is_writable s) arms.Flags (starts w (Setting id slot v ∷ tasks)) Kept still)

  thaws_made : (id : ℕ) (steps : List ConstructStep) (held : Bool) → IfOk (thawing_made w id steps held) Kept
  unfolding thawing_made
  thaws_made id steps held = bind_keeps (changed w.objects id frozen_less) _ Kept (λ thaw _. still)

  pub constructs : (id : ℕ) (steps : List ConstructStep) (held : Bool) → IfOk (constructing d w id steps held) Kept
  constructs id [] held = is_constructed id held
  constructs id (sets slot v ∷ steps) held = makes_set id slot v (Constructing id steps held ∷ [])
  constructs id (runs program ∷ steps) held = runs_before program (values.object (Some id) ∷ []) (Constructing id steps held ∷ [])
  constructs id (thaws ∷ steps) held = thaws_made id steps held

  builds_object : (place : ℕ) (items : List Item) → IfOk (building_object d w place items) Kept
  unfolding building_object
  builds_object place items = bind_keeps (known arms.Code (place_at d place)) _ Kept (λ p _. bind_keeps (peer_for d w p) _ Kept (λ peer _.
      bind_keeps (making d w place peer true) _ Kept (λ made is. kept_at Kept (making d w place peer true) made (said.makes d w peers place peer true) is)))

  builds_child : (place : ℕ) (items : List Item) → IfOk (building_child d w place items) Kept
  unfolding building_child
  builds_child place items = bind_keeps (known arms.Code (place_at d place)) _ Kept (λ p _. bind_keeps (known arms.Code p.parent) _ Kept (λ above _. bind_keeps (held_object w above) _ Kept (λ parent _.
      bind_keeps (held_object w place) _ Kept (λ child _. bind_keeps (adopted d w parent child) _ Kept (λ family is.
      kept_at (λ (r : After World Bool). Says d w peers r.state) (adopted d w parent child) family (said.adopted_kept d w peers parent child) is)))))

  sets_forward : (id slot to : ℕ) (items : List Item) → IfOk (set_forward w id slot to items) Kept
  unfolding set_forward
  sets_forward id slot to items = bind_keeps (held_object w to) _ Kept (λ target _. still)

  builds_forward : (place slot to : ℕ) (items : List Item) → IfOk (building_forward d w place slot to items) Kept
  unfolding building_forward
  builds_forward place slot to items = bind_keeps (held_object w place) _ Kept (λ id _. bind_keeps (spec_at d w.objects id slot) _ Kept (λ s _.
      settable s (set_forward w id slot to items) (sets_forward id slot to items)))

  connects_signal : (c : Connection) → Says d w peers (with_signal w c)
  connects_signal c = by (is_too_late w.objects c.object c.arg)
    where
      by : (late : Bool) → Says d w peers (cond late w (with_handler w c))
      by true = still
      by false = still

  builds_handler : (place number : ℕ) (items : List Item) → IfOk (building_handler d w place number items) Kept
  unfolding building_handler
  builds_handler place number items = bind_keeps (known arms.Code (place_at d place)) _ Kept (λ p _. bind_keeps (known arms.Code (slice_get p.signals number)) _ Kept (λ a _. bind_keeps (held_object w place) _ Kept (λ id _.
      bind_keeps (held_data w a.with) _ Kept (λ arg _. bind_keeps (known arms.Code (signal_number d p.class a.signal)) _ Kept (λ signal _. bind_keeps (detail_at d p.class signal a.detail) _ Kept (λ detail _.
      connects_signal (connection id signal detail a arg)))))))

  builds_binding : (number : ℕ) (items : List Item) → IfOk (building_binding d w number items) Kept
  unfolding building_binding
  builds_binding number items = bind_keeps (known arms.Code (slice_get d.bindings number)) _ Kept (λ b _. bind_keeps (held_object w b.source) _ Kept (λ source _. bind_keeps (held_object w b.target) _ Kept (λ target _.
      cond_keeps (is_disposed (living w.objects source) || is_disposed (living w.objects target)) (starts w (Building items ∷ [])) _ Kept still still)))

  pub builds : (items : List Item) → IfOk (building d w items) Kept
  builds [] = still
  builds (makes place ∷ items) = builds_object place items
  builds (adopts place ∷ items) = builds_child place items
  builds (forwards place slot to ∷ items) = builds_forward place slot to items
  builds (binds number ∷ items) = builds_binding number items
  builds (connects place number ∷ items) = builds_handler place number items

  -- ** requests, sources and calls

  sets_given : (id slot : ℕ) (given : Given) → IfOk (set_given w id slot given) Kept
  unfolding set_given
  sets_given id slot given = bind_keeps (known arms.Operand (given_value w given)) _ Kept (λ v _. still)

  carries_set : (place slot : ℕ) (given : Given) → IfOk (set_from_event d w place slot given) Kept
  unfolding set_from_event
  carries_set place slot given = bind_keeps (held_object w place) _ Kept (λ id _. bind_keeps (spec_at d w.objects id slot) _ Kept (λ s _.
      settable s (set_given w id slot given) (sets_given id slot given)))

  carries_get : (place slot : ℕ) → IfOk (get_from_event d w place slot) Kept
  unfolding get_from_event
  carries_get place slot = bind_keeps (held_object w place) _ Kept (λ id _. bind_keeps (spec_at d w.objects id slot) _ Kept (λ s is. bind_keeps (asked w.objects id (value_at slot)) _ Kept (λ v at.
      only_keeps (is_readable s) arms.Flags (starts (with_result (said d w (lines.get id s.name v)) v) []) Kept
      (once (lines.get id s.name v) (spec_like d w.objects id slot s is, kept_at IsShort (asked w.objects id (value_at slot)) v (asked_short w.objects short.0 id slot) at)))))

  carries_emit : (place signal : ℕ) (args : List Given) (detail : Option (List ℕ)) → IfOk (emit_from_event d w place signal args detail) Kept
  unfolding emit_from_event
  carries_emit place signal args detail = bind_keeps (held_object w place) _ Kept (λ id _. bind_keeps (detail_in d w id signal detail) _ Kept (λ stands _. bind_keeps (given_values w args) _ Kept (λ given _. still)))

  carries_release : (place : ℕ) → IfOk (release_from_event d w place) Kept
  unfolding release_from_event
  carries_release place = bind_keeps (known arms.Code (place_at d place)) _ Kept (λ p is. bind_keeps (held_object w place) _ Kept (λ id _.
      once (lines.release p.id) (place_like d place p (known_is arms.Code (place_at d place) p is))))

  pub carries_request : (r : Request) → IfOk (request_step d w r) Kept
  carries_request (config.set place slot given) = carries_set place slot given
  carries_request (config.get place slot) = carries_get place slot
  carries_request (config.emit place signal args detail) = carries_emit place signal args detail
  carries_request (config.release place) = carries_release place

  pub runs_source : (source : ℕ) → IfOk (sourcing d w source) Kept
  unfolding sourcing
  runs_source source = bind_keeps (known arms.Code (source_of source w.sources)) _ Kept (λ s _. runs_before s.program (source_data s.arg) (Answering source ∷ []))

  left_one : (v : World) → Says d w peers v → (rest : List Task) (to : ℕ) (x : Value) → IfOk (left_with v rest to x) Leaves
  unfolding left_with
  left_one v k rest to x = bind_keeps (received rest to (Some x)) _ Leaves (λ agenda _. k)

  -- a peer that is there has a name that is long enough, and so have its methods
  peer_known : (call : Call) → IsLikePeerAt d w call.peer → (p : Peer) → known arms.Call (peer_at w call.peer) ≡ Ok p → (m : Method) → known arms.Call (method_of p call.method) ≡ Ok m
      → IsLikeNameOf d p.name × IsLikeNameOf d m.name
  peer_known call own p is m has =
      let like = there (IsLikePeerOf d) (slice_get w.peers call.peer) p own (known_is arms.Call (peer_at w call.peer) p is) in
      (like.0, there (λ (m : Method). IsLikeNameOf d m.name) (slice_get p.state.shape call.method) m (each_get (λ (m : Method). IsLikeNameOf d m.name) p.state.shape like.1 call.method) (known_is arms.Call (method_of p call.method) m has))

  call_says : (p : Peer) (m : Method) → IsLikeNameOf d p.name × IsLikeNameOf d m.name → (args : List Value) → AreArgumentsOf d args → (answer : Option Value) → IfSome answer IsShort → IsLikeLineOf d (call_line p m args answer)
  call_says p m like args are None one = (like.0, like.1, are)
  call_says p m like args are (Some v) one = (like.0, like.1, are, one)

  is_called : (call : Call) → IsLikePeerAt d w call.peer → AreArgumentsOf d call.args → (rest : List Task) (reply : Reply) → HasShortAnswer reply → IfOk (called d w call rest reply) Leaves
  unfolding called with_method
  is_called call own are rest reply one = bind_keeps (known arms.Call (peer_at w call.peer)) _ Leaves (λ p is. bind_keeps (known arms.Call (method_of p call.method)) _ Leaves (λ m has.
      left_one _ (once (call_line p m call.args reply.answer) (call_says p m (peer_known call own p is m has) call.args are reply.answer one)) rest call.to _))

  is_uncalled : (call : Call) → IsLikePeerAt d w call.peer → AreArgumentsOf d call.args → (rest : List Task) → IfOk (uncalled d w call rest) Leaves
  unfolding uncalled with_method
  is_uncalled call own are rest = bind_keeps (known arms.Call (peer_at w call.peer)) _ Leaves (λ p is. bind_keeps (known arms.Call (method_of p call.method)) _ Leaves (λ m has.
      left_one _ (once (lines.closed p.name m.name call.args) (let like = peer_known call own p is m has in (like.0, like.1, are))) rest call.to _))

  is_replied : (call : Call) → IsLikePeerAt d w call.peer → AreArgumentsOf d call.args → (rest : List Task) (reply : Option Reply) → IfSome reply HasShortAnswer → IfOk (replied d w call rest reply) Leaves
  is_replied call own are rest None one = tt
  is_replied call own are rest (Some reply) one = is_called call own are rest reply one

  pub calls : (call : Call) → IsLikePeerAt d w call.peer → AreArgumentsOf d call.args → (rest : List Task) (reply : Option Reply) → IfSome reply HasShortAnswer → IfOk (calling_on d w call rest reply) Leaves
  calls call own are rest reply one = cond_keeps (is_asked w call.peer) (replied d w call rest reply) (uncalled d w call rest) Leaves (is_replied call own are rest reply one) (is_uncalled call own are rest)
