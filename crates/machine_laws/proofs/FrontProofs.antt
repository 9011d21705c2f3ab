-- A step adds lines to the transcript, and never reads it.
use Rattle.std.proofs.Common.{◌≡◌, refl, ap, sym, ◌∙◌, ℕ, suc, Bool, true, false, cond, List, [], ◌∷◌, Option, None, Some, Ok, Err, append_assoc}
use Rattle.std.specs.Prelude.{codes, length, nat_lt}
use Rattle.ui_machine.specs.declared.arm.Arm.{Arm}
use Rattle.ui_machine.specs.declared.arm.Arm.TheVariants as arms
use Rattle.ui_machine.specs.Definition.Kinds.{Kind}
use Rattle.ui_machine.specs.Definition.Values.{Value}
use Rattle.ui_machine.specs.Definition.Values as values
use Rattle.ui_machine.specs.Definition.Properties.{Spec}
use Rattle.ui_machine.specs.Definition.{Definition}
use Rattle.ui_machine.specs.Definition.Places.{Given, Place}
use Rattle.ui_machine.specs.Definition.Signals.{Method}
use Rattle.ui_machine.specs.Definition.Programs.{Instruction, Arithmetic, Comparison, Connect}
use Rattle.ui_machine.specs.Definition.Programs as words
use Rattle.ui_machine.specs.Definition.Places as places
use Rattle.ui_machine.specs.Output.Lines.{Line}
use Rattle.ui_machine.specs.Output.Lines as lines
use Rattle.ui_machine.specs.State.Sources as sources
use Rattle.ui_machine.specs.Seq.{write}
use Rattle.ui_machine.specs.Rules.Transform.{zero_value}
use Rattle.ui_machine.specs.Output.Text.{text_of_line}
use Rattle.ui_machine.specs.State.Tasks as config
use Rattle.ui_machine.specs.State.Objects.{Object, Objects, living}
use Rattle.ui_machine.specs.State.Peers.{Peer, Reply, no_peer, closed_peer}
use Rattle.ui_machine.specs.State.Config.{World, Config, BuilderEntry, Started, said, with_objects, with_builder_entry, sunk, Left, with_peer_state}
use Rattle.ui_machine.specs.State.Tasks.{Setting, Notifying, Beginning, Emitting, Transferring, Unsetting, Thawing, Running, Answering, Calling, Constructing, Building, Handling, Due, Task, Emission, PlanEntry, class_handler, handler, Frame, Call, ConstructStep, sets, runs, thaws, Item, makes, adopts, forwards, binds, connects, Request}
use Rattle.ui_machine.specs.State.Bindings.{Binding, binding_of}
use Rattle.ui_machine.specs.State.Handlers.{Handler, handler_of}
use Rattle.ui_machine.specs.Outcome.{After, Answer, ◌>>=◌, only_if}
use Rattle.ui_machine.specs.State.References.{next_unheld, mentions}
use Rattle.ui_machine.specs.Rules.Sets.{raising, raising_if, written, setting}
use Rattle.ui_machine.specs.Rules.EmissionPlan.{notifying, beginning_emission}
use Rattle.ui_machine.specs.Rules.Programs.{beginning_program, program_before}
use Rattle.ui_machine.specs.Rules.Transfers.{End, source_end, target_end, set_by, carried, carried_by, transferring}
use Rattle.ui_machine.specs.Rules.Accumulation.{or_zero, running_handler, taking_entry, collecting, resulting, told, down_to_emission, down_to_source, given_down, ending}
use Rattle.ui_machine.specs.Rules.Children.{updated, with_parent, with_child, with_family, adopted, orphaned}
use Rattle.ui_machine.specs.Rules.Disposal.{closed_if_open, closing, said_if, is_first, peer_of, without_object, disposed, finalised}
use Rattle.ui_machine.specs.Instructions.Registers.{tells, operand_in, data_in, written_to, moving, constant, clearing}
use Rattle.ui_machine.specs.Rules.MainLoop.{kept_source, sourcing}
use Rattle.ui_machine.specs.Instructions.Peers.{call_line, replied, with_method, left_with, called, uncalled, calling_on, calling}
use Rattle.ui_machine.specs.Rules.Connections.{detail_in, is_too_late, has_room_for_handler, with_handler, connected, disconnected, blocked, unblocked, with_handlers_on, Connection}
use Rattle.ui_machine.specs.Rules.Construction.{given_value, with_object, making, apply_construct_property, constructed, thawing_made, constructing}
use Rattle.ui_machine.specs.Rules.Build.{held_data, building_child, set_forward, building_forward, building_binding, building_handler, with_signal, building_object, building}
use Rattle.ui_machine.specs.Instructions.Signals.{Emit, signal_in, signal_to_emit, emitting, connecting, on_handlers, disconnecting, blocking, unblocking, unbinding}
use Rattle.ui_machine.specs.Instructions.Objects.{disposed_once, look_up_object, made_new, creating, sinking, orphaning, disposing, adopting, freezing, thaw_notify}
use Rattle.ui_machine.specs.Instructions.Arithmetic.{most_bytes, gives_from, within_bytes, reckoning, comparing, sameness, negating, conjunction, disjunction, joining, converting}
use Rattle.ui_machine.specs.Instructions.Sources.{with_source, attached_to, attaching, removing, Attach}
use Rattle.ui_machine.specs.Instructions.Properties.{slot_at, get_property, set_from, set_property, then_goes_on, notify_from_program}
use Rattle.ui_machine.specs.Instructions.Jumps.{jumping, branching, branching_null, returned, returning}
use Rattle.ui_machine.specs.Instructions.{in_front, instruction_step, running}
use Rattle.ui_machine.specs.Rules.Events.{with_result, set_given, set_from_event, get_from_event, given_values, emit_from_event, release_from_event, request_step}
use Rattle.ui_machine.specs.Steps.{most_steps, uncounted, counted, counted_left, left, sink_first_floating, act, finalising, first_of, asked_first, asked_after}
use Rattle.ui_machine.specs.Rules.NotifyQueue.{thawing}
use Rattle.machine_laws.specs.FrontLaws.{fronted, fronted_at, mapped, StepAppends, QuestionStays}

mapped_then : {A B C : Type 0} (f : B → C) (a : Answer A) (g : A → Answer B) → mapped f (a >>= g) ≡ (a >>= λ x. mapped f (g x))
mapped_then f (Ok x) g = refl
mapped_then f (Err arm) g = refl

mapped_if : {A B : Type 0} (f : A → B) (b : Bool) (arm : Arm) (a : Answer A) → mapped f (only_if b arm a) ≡ only_if b arm (mapped f a)
mapped_if f true arm a = refl
mapped_if f false arm a = refl

mapped_cond : {A B : Type 0} (f : A → B) (b : Bool) (x y : Answer A) → mapped f (cond b x y) ≡ cond b (mapped f x) (mapped f y)
mapped_cond f true x y = refl
mapped_cond f false x y = refl

mapped_before : {A B C : Type 0} (f : A → B) (a : Answer A) (g : B → Answer C) → (mapped f a >>= g) ≡ (a >>= λ x. g (f x))
mapped_before f (Ok x) g = refl
mapped_before f (Err arm) g = refl

module _ (front : List (List ℕ)) (d : Definition) where
  abbrev started : Started → Started
  started s = record s { world = fronted front s.world }

  said_in_front : (w : World) (line : Line) → said d (fronted front w) line ≡ fronted front (said d w line)
  said_in_front w line = ap (λ (ls : List (List ℕ)). record w { transcript = ls }) (append_assoc front w.transcript (text_of_line d.types line ∷ []))

  said_with_objects : (w : World) (os : Objects) (line : Line) → said d (with_objects (fronted front w) os) line ≡ fronted front (said d (with_objects w os) line)
  said_with_objects w os line = said_in_front (with_objects w os) line

  abbrev family : After World Bool → After World Bool
  family done = record done { state = fronted front done.state }

  abbrev pub remaining : Left → Left
  remaining l = record l { world = fronted front l.world }

  ruleset parts = (mapped_then, mapped_if, mapped_cond, said_in_front, said_with_objects)

  raises : (w : World) (id slot : ℕ) → raising (fronted front w) id slot ≡ mapped started (raising w id slot)
  unfolding raising
  raises w id slot = simp (raising, parts)

  raises_if : (b : Bool) (w : World) (id slot : ℕ) → raising_if b (fronted front w) id slot ≡ mapped started (raising_if b w id slot)
  raises_if false w id slot = refl
  raises_if true w id slot = raises w id slot

  writes : (w : World) (id slot : ℕ) (s : Spec) (v : Value) → written d (fronted front w) id slot s v ≡ mapped started (written d w id slot s v)
  unfolding written
  writes w id slot s v = simp (written, parts, raises_if)

  sets_one : (w : World) (id slot : ℕ) (v : Value) → setting d (fronted front w) id slot v ≡ mapped started (setting d w id slot v)
  unfolding setting
  sets_one w id slot v = simp (setting, parts, writes)

  -- ** emissions

  notifies : (w : World) (id slot : ℕ) → notifying d (fronted front w) id slot ≡ mapped started (notifying d w id slot)
  unfolding notifying
  notifies w id slot = simp (notifying, parts)

  begins_emission : (w : World) (e : Emission) → beginning_emission d (fronted front w) e ≡ mapped started (beginning_emission d w e)
  unfolding beginning_emission
  begins_emission w e = simp (beginning_emission, parts)

  begins_program : (w : World) (number : ℕ) (args : List Value) → beginning_program d (fronted front w) number args ≡ mapped started (beginning_program d w number args)
  unfolding beginning_program
  begins_program w number args = simp (beginning_program, parts)

  runs_before : (w : World) (number : ℕ) (args : List Value) (tasks : List Task) → program_before d (fronted front w) number args tasks ≡ mapped started (program_before d w number args tasks)
  unfolding program_before
  runs_before w number args tasks = simp (program_before, parts, mapped_before, begins_program)

  turns : (w : World) (e : Emission) (ts : List PlanEntry) (h : Option Handler) → running_handler d (fronted front w) e ts h ≡ mapped started (running_handler d w e ts h)
  turns w e ts None = refl
  turns w e ts (Some h) = simp (parts, runs_before)

  takes : (w : World) (e : Emission) (ts : List PlanEntry) (t : PlanEntry) → taking_entry d (fronted front w) e ts t ≡ mapped started (taking_entry d w e ts t)
  takes w e ts (class_handler program cleanup) = simp (parts, runs_before)
  takes w e ts (handler number) = turns w e ts (handler_of number w.handlers)
  takes w e ts (config.transfer number back) = refl

  collects : (w : World) (e : Emission) (ts : List PlanEntry) (given : Option Value) → collecting d (fronted front w) e ts given ≡ collecting d w e ts given
  unfolding collecting
  collects w e ts given = refl

  results : (w : World) (e : Emission) → resulting d (fronted front w) e ≡ resulting d w e
  unfolding resulting
  results w e = refl

  -- ** transfers, families, disposal

  sets_by : (w : World) (number : ℕ) (end : End) (v : Option Value) → set_by (fronted front w) number end v ≡ mapped started (set_by w number end v)
  sets_by w number end None = refl
  sets_by w number end (Some v) = refl

  carries : (w : World) (b : Binding) (source target : End) → carried d (fronted front w) b source target ≡ mapped started (carried d w b source target)
  unfolding carried
  carries w b source target = simp (carried, parts, sets_by)

  carries_by : (w : World) (back : Bool) (b : Option Binding) → carried_by d (fronted front w) back b ≡ mapped started (carried_by d w back b)
  carries_by w back None = refl
  carries_by w false (Some b) = carries w b (source_end b) (target_end b)
  carries_by w true (Some b) = carries w b (target_end b) (source_end b)

  adopts_if_room : (w : World) (parent child : ℕ) (refused : Bool) →
      ◌≡◌ {A = After World Bool} (cond refused (record { state = said d (fronted front w) (lines.limit (codes "adopt")); answer = false }) (record { state = with_family d (fronted front w) parent child; answer = true }))
      (family (cond refused (record { state = said d w (lines.limit (codes "adopt")); answer = false }) (record { state = with_family d w parent child; answer = true })))
  adopts_if_room w parent child true = ap (λ (v : World). record { state = v; answer = false }) (said_in_front w (lines.limit (codes "adopt")))
  adopts_if_room w parent child false =
      ap (λ (v : World). record { state = v; answer = true }) (said_in_front (sunk (with_objects w (updated (with_parent (Some parent)) child (updated (with_child child) parent w.objects))) child) (lines.adopt parent child))

  adopts_one : (w : World) (parent child : ℕ) → adopted d (fronted front w) parent child ≡ mapped family (adopted d w parent child)
  unfolding adopted
  adopts_one w parent child = simp (adopted, mapped_then, adopts_if_room)

  orphans_one : (w : World) (child : ℕ) (parent : Option ℕ) → orphaned d (fronted front w) child parent ≡ fronted front (orphaned d w child parent)
  orphans_one w child None = refl
  orphans_one w child (Some parent) = simp parts

  closes_open : (w : World) (number : ℕ) (p : Peer) → closed_if_open d (fronted front w) number p ≡ fronted front (closed_if_open d w number p)
  closes_open w number p = by_open (record w { peers = write no_peer w.peers number (closed_peer p) }) p.state.is_open
    where
      by_open : (closed : World) (b : Bool) → cond b (said d (fronted front closed) (lines.close p.name)) (fronted front w) ≡ fronted front (cond b (said d closed (lines.close p.name)) w)
      by_open closed true = said_in_front closed (lines.close p.name)
      by_open closed false = refl

  closes : (w : World) (peer : Option ℕ) → closing d peer (fronted front w) ≡ mapped (fronted front) (closing d peer w)
  unfolding closing
  closes w None = refl
  closes w (Some number) = simp (closing, parts, closes_open)

  says_if : (w : World) (first : Bool) (line : Line) → said_if d first (fronted front w) line ≡ fronted front (said_if d first w line)
  says_if w false line = refl
  says_if w true line = said_in_front w line

  disposes : (w : World) (id : ℕ) → disposed d (fronted front w) id ≡ mapped (fronted front) (disposed d w id)
  disposes w id =
      ap (closing d (peer_of (living w.objects id))) (says_if (without_object d w id) (is_first (living w.objects id)) (lines.dispose id))
      ∙ closes (said_if d (is_first (living w.objects id)) (without_object d w id) (lines.dispose id)) (peer_of (living w.objects id))

  finalises : (w : World) (id : ℕ) → finalised d (fronted front w) id ≡ mapped (fronted front) (finalised d w id)
  unfolding finalised
  finalises w id = simp (finalised, parts, disposes, mapped_before)

  -- ** instructions

  reads_operand : (w : World) (f : Frame) (from : ℕ) → operand_in (fronted front w) f from ≡ operand_in w f from
  unfolding operand_in
  reads_operand w f from = refl

  reads_data : (w : World) (f : Frame) (from : Option ℕ) → data_in (fronted front w) f from ≡ data_in w f from
  unfolding data_in operand_in
  reads_data w f None = refl
  reads_data w f (Some from) = refl

  writes_register : (w : World) (to : ℕ) (v : Option Value) (f : Frame) → written_to (fronted front w) to v f ≡ mapped started (written_to w to v f)
  unfolding written_to
  writes_register w to v f = simp (written_to, parts)

  moves : (w : World) (f : Frame) (to from : ℕ) → moving (fronted front w) f to from ≡ mapped started (moving w f to from)
  unfolding moving
  moves w f to from = simp (moving, parts, writes_register, reads_operand, reads_data)

  reckons : (w : World) (f : Frame) (op : Arithmetic) (to a b : ℕ) → reckoning (fronted front w) f op to a b ≡ mapped started (reckoning w f op to a b)
  unfolding reckoning
  reckons w f op to a b = simp (reckoning, parts, writes_register, reads_operand, reads_data)

  compares : (w : World) (f : Frame) (op : Comparison) (to a b : ℕ) → comparing (fronted front w) f op to a b ≡ mapped started (comparing w f op to a b)
  unfolding comparing
  compares w f op to a b = simp (comparing, parts, writes_register, reads_operand, reads_data)

  tells_same : (w : World) (f : Frame) (to a b : ℕ) → sameness (fronted front w) f to a b ≡ mapped started (sameness w f to a b)
  unfolding sameness
  tells_same w f to a b = simp (sameness, parts, writes_register, reads_operand, reads_data)

  joins_both : (w : World) (f : Frame) (to a b : ℕ) → conjunction (fronted front w) f to a b ≡ mapped started (conjunction w f to a b)
  unfolding conjunction
  joins_both w f to a b = simp (conjunction, parts, writes_register, reads_operand, reads_data)

  joins_either : (w : World) (f : Frame) (to a b : ℕ) → disjunction (fronted front w) f to a b ≡ mapped started (disjunction w f to a b)
  unfolding disjunction
  joins_either w f to a b = simp (disjunction, parts, writes_register, reads_operand, reads_data)

  negates : (w : World) (f : Frame) (to a : ℕ) → negating (fronted front w) f to a ≡ mapped started (negating w f to a)
  unfolding negating
  negates w f to a = simp (negating, parts, writes_register, reads_operand, reads_data)

  joins_within : (w : World) (to : ℕ) (f : Frame) (s : List ℕ) → gives_from (within_bytes d (fronted front w) s) to f ≡ mapped started (gives_from (within_bytes d w s) to f)
  joins_within w to f s = by_length (nat_lt most_bytes (length s))
    where
      by_length : (b : Bool) →
          gives_from (cond b (record { state = said d (fronted front w) (lines.limit (codes "join")); answer = values.text None }) (record { state = fronted front w; answer = values.text (Some s) })) to f
          ≡ mapped started (gives_from (cond b (record { state = said d w (lines.limit (codes "join")); answer = values.text None }) (record { state = w; answer = values.text (Some s) })) to f)
      by_length true = simp (parts, writes_register)
      by_length false = simp (parts, writes_register)

  joins : (w : World) (f : Frame) (to a b : ℕ) → joining d (fronted front w) f to a b ≡ mapped started (joining d w f to a b)
  unfolding joining
  joins w f to a b = simp (joining, mapped_then, joins_within)

  converts : (w : World) (f : Frame) (to a : ℕ) (kind : Kind) → converting d (fronted front w) f to a kind ≡ mapped started (converting d w f to a kind)
  unfolding converting
  converts w f to a kind = simp (converting, parts, writes_register, reads_operand, reads_data)

  finds_slot : (w : World) (id : ℕ) (name : List ℕ) → slot_at d (fronted front w) id name ≡ slot_at d w id name
  unfolding slot_at
  finds_slot w id name = refl

  gets : (w : World) (f : Frame) (to object : ℕ) (name : List ℕ) → get_property d (fronted front w) f to object name ≡ mapped started (get_property d w f to object name)
  unfolding get_property
  gets w f to object name = simp (get_property, parts, writes_register, reads_operand, reads_data, finds_slot)

  sets_from : (w : World) (f : Frame) (id slot from : ℕ) → set_from (fronted front w) f id slot from ≡ mapped started (set_from w f id slot from)
  unfolding set_from
  sets_from w f id slot from = simp (set_from, parts, writes_register, reads_operand, reads_data)

  assigns : (w : World) (f : Frame) (object : ℕ) (name : List ℕ) (from : ℕ) → set_property d (fronted front w) f object name from ≡ mapped started (set_property d w f object name from)
  unfolding set_property
  assigns w f object name from = simp (set_property, parts, writes_register, reads_operand, reads_data, finds_slot, sets_from)

  goes_on_after : (f : Frame) (a : Answer Started) → then_goes_on f (mapped started a) ≡ mapped started (then_goes_on f a)
  unfolding then_goes_on
  goes_on_after f (Ok s) = refl
  goes_on_after f (Err arm) = refl

  tells_of : (w : World) (f : Frame) (object : ℕ) (name : List ℕ) → notify_from_program d (fronted front w) f object name ≡ mapped started (notify_from_program d w f object name)
  unfolding notify_from_program
  tells_of w f object name = simp (notify_from_program, parts, writes_register, reads_operand, reads_data, finds_slot, raises, goes_on_after)

  names : (w : World) (f : Frame) (to : ℕ) (id : List ℕ) → look_up_object d (fronted front w) f to id ≡ mapped started (look_up_object d w f to id)
  unfolding look_up_object
  names w f to id = simp (look_up_object, parts, writes_register, reads_operand, reads_data)

  -- ** constructions

  said_with_object : (w : World) (o : Object) (line : Line) → said d (with_object d (fronted front w) o) line ≡ fronted front (said d (with_object d w o) line)
  said_with_object w o line = said_in_front (with_object d w o) line

  makes_object : (w : World) (place : ℕ) (peer : Option ℕ) (held : Bool) → making d (fronted front w) place peer held ≡ mapped started (making d w place peer held)
  unfolding making
  makes_object w place peer held = simp (making, parts, said_with_object)

  makes_new : (w : World) (f : Frame) (to place : ℕ) (p : Place) → made_new d (fronted front w) f to place p ≡ mapped started (made_new d w f to place p)
  unfolding made_new
  makes_new w f to place p = simp (made_new, parts, mapped_before, makes_object)

  creates : (w : World) (rest : List Task) (f : Frame) (to : ℕ) (id : List ℕ) → creating d (fronted front w) rest f to id ≡ mapped started (creating d w rest f to id)
  unfolding creating
  creates w rest f to id = simp (creating, parts, writes_register, reads_operand, reads_data, makes_new)

  sinks : (w : World) (f : Frame) (object : ℕ) → sinking (fronted front w) f object ≡ mapped started (sinking w f object)
  unfolding sinking
  sinks w f object = simp (sinking, parts, writes_register, reads_operand, reads_data)

  orphans_of : (w : World) (f : Frame) (object : ℕ) → orphaning d (fronted front w) f object ≡ mapped started (orphaning d w f object)
  unfolding orphaning
  orphans_of w f object = simp (orphaning, parts, writes_register, reads_operand, reads_data, orphans_one)

  disposes_once : (w : World) (id : ℕ) → disposed_once d (fronted front w) id ≡ mapped (fronted front) (disposed_once d w id)
  disposes_once w id = simp (parts, disposes)

  disposes_of : (w : World) (f : Frame) (object : ℕ) → disposing d (fronted front w) f object ≡ mapped started (disposing d w f object)
  unfolding disposing
  disposes_of w f object = simp (disposing, mapped_then, reads_operand, disposes_once, mapped_before)

  adopts_of : (w : World) (f : Frame) (to parent child : ℕ) → adopting d (fronted front w) f to parent child ≡ mapped started (adopting d w f to parent child)
  unfolding adopting
  adopts_of w f to parent child = simp (adopting, parts, writes_register, reads_operand, reads_data, adopts_one, mapped_before)

  freezes : (w : World) (f : Frame) (object : ℕ) → freezing (fronted front w) f object ≡ mapped started (freezing w f object)
  unfolding freezing
  freezes w f object = simp (freezing, parts, writes_register, reads_operand, reads_data)

  unfreezes : (w : World) (f : Frame) (object : ℕ) → thaw_notify (fronted front w) f object ≡ mapped started (thaw_notify w f object)
  unfolding thaw_notify
  unfreezes w f object = simp (thaw_notify, parts, writes_register, reads_operand, reads_data)

  -- ** signals, sources and peers

  finds_signal : (w : World) (id : ℕ) (name : List ℕ) → signal_in d (fronted front w) id name ≡ signal_in d w id name
  unfolding signal_in
  finds_signal w id name = refl

  finds_emitted : (w : World) (id : ℕ) (name : List ℕ) → signal_to_emit d (fronted front w) id name ≡ signal_to_emit d w id name
  unfolding signal_to_emit
  finds_emitted w id name = simp (signal_to_emit, parts, finds_signal)

  finds_detail : (w : World) (id number : ℕ) (detail : Option (List ℕ)) → detail_in d (fronted front w) id number detail ≡ detail_in d w id number detail
  unfolding detail_in
  finds_detail w id number detail = refl

  emits : (w : World) (f : Frame) (object : ℕ) (e : Emit) → emitting d (fronted front w) f object e ≡ mapped started (emitting d w f object e)
  unfolding emitting
  emits w f object e = simp (emitting, parts, writes_register, reads_operand, reads_data, finds_emitted, finds_detail)

  tells_done : (w v : World) (to : ℕ) (f : Frame) (b : Bool) (line : Line) →
      tells (cond b (record { state = fronted front v; answer = true }) (record { state = said d (fronted front w) line; answer = false })) to f ≡ mapped started (tells (cond b (record { state = v; answer = true }) (record { state = said d w line; answer = false })) to f)
  tells_done w v to f true line = writes_register v to (Some (values.bool true)) f
  tells_done w v to f false line = simp (parts, writes_register)

  connects_one : (w : World) (to_come to : ℕ) (f : Frame) (c : Connection) → tells (connected d (fronted front w) to_come c) to f ≡ mapped started (tells (connected d w to_come c) to f)
  connects_one w to_come to f c = by_late (is_too_late w.objects c.object c.arg)
    where
      by_late : (late : Bool) →
          tells (cond late (record { state = fronted front w; answer = false })
          (cond (has_room_for_handler d w to_come c.object c.signal) (record { state = fronted front (with_handler w c); answer = true }) (record { state = said d (fronted front w) (lines.limit (codes "connect")); answer = false }))) to f
          ≡ mapped started (tells (cond late (record { state = w; answer = false }) (cond (has_room_for_handler d w to_come c.object c.signal) (record { state = with_handler w c; answer = true }) (record { state = said d w (lines.limit (codes "connect")); answer = false }))) to f)
      by_late true = writes_register w to (Some (values.bool false)) f
      by_late false = tells_done w (with_handler w c) to f (has_room_for_handler d w to_come c.object c.signal) (lines.limit (codes "connect"))

  connects_of : (w : World) (rest : List Task) (f : Frame) (to object : ℕ) (c : Connect) → connecting d (fronted front w) rest f to object c ≡ mapped started (connecting d w rest f to object c)
  unfolding connecting
  connects_of w rest f to object c = simp (connecting, mapped_then, reads_operand, reads_data, finds_signal, finds_detail, connects_one)

  disconnects : (w : World) (f : Frame) (object : ℕ) (program : List ℕ) → on_handlers d (fronted front w) f object program disconnected ≡ mapped started (on_handlers d w f object program disconnected)
  unfolding on_handlers
  disconnects w f object program = simp (on_handlers, parts, writes_register, reads_operand, reads_data)

  blocks_of : (w : World) (f : Frame) (object : ℕ) (program : List ℕ) → on_handlers d (fronted front w) f object program (with_handlers_on blocked) ≡ mapped started (on_handlers d w f object program (with_handlers_on blocked))
  unfolding on_handlers
  blocks_of w f object program = simp (on_handlers, parts, writes_register, reads_operand, reads_data)

  unblocks_of : (w : World) (f : Frame) (object : ℕ) (program : List ℕ) → on_handlers d (fronted front w) f object program (with_handlers_on unblocked) ≡ mapped started (on_handlers d w f object program (with_handlers_on unblocked))
  unfolding on_handlers
  unblocks_of w f object program = simp (on_handlers, parts, writes_register, reads_operand, reads_data)

  attaches_one : (w : World) (a : Attach) (program : ℕ) (arg : Option ℕ) (to : ℕ) (f : Frame) →
      tells (attached_to d (fronted front w) a program arg) to f ≡ mapped started (tells (attached_to d w a program arg) to f)
  attaches_one w a program arg to f = tells_done w (with_source w a program arg) to f (sources.has_room w.sources w.last_source) (lines.limit a.word)

  attaches : (w : World) (f : Frame) (to : ℕ) (a : Attach) → attaching d (fronted front w) f to a ≡ mapped started (attaching d w f to a)
  unfolding attaching
  attaches w f to a = simp (attaching, mapped_then, reads_data, attaches_one)

  removes : (w : World) (f : Frame) (program : List ℕ) → removing d (fronted front w) f program ≡ mapped started (removing d w f program)
  unfolding removing
  removes w f program = simp (removing, parts, writes_register, reads_operand, reads_data)

  calls_of : (w : World) (f : Frame) (to object : ℕ) (name args : List ℕ) → calling d (fronted front w) f to object name args ≡ mapped started (calling d w f to object name args)
  unfolding calling
  calls_of w f to object name args = simp (calling, parts, writes_register, reads_operand, reads_data)

  jumps : (w : World) (f : Frame) (to : ℕ) → jumping d (fronted front w) f to ≡ mapped started (jumping d w f to)
  unfolding jumping
  jumps w f to = simp (jumping, parts, writes_register, reads_operand, reads_data)

  branches : (w : World) (f : Frame) (on then_to else_to : ℕ) → branching d (fronted front w) f on then_to else_to ≡ mapped started (branching d w f on then_to else_to)
  unfolding branching
  branches w f on then_to else_to = simp (branching, parts, writes_register, reads_operand, reads_data, jumps)

  branches_null : (w : World) (f : Frame) (on then_to else_to : ℕ) → branching_null d (fronted front w) f on then_to else_to ≡ mapped started (branching_null d w f on then_to else_to)
  unfolding branching_null
  branches_null w f on then_to else_to = simp (branching_null, parts, writes_register, reads_operand, reads_data, jumps)

  unbinds : (w : World) (f : Frame) (name : List ℕ) → unbinding d (fronted front w) f name ≡ mapped started (unbinding d w f name)
  unbinds w f name = simp parts

  -- ** what comes down

  gives_emission : (w : World) (e : Emission) (ts : List PlanEntry) (rest : List Task) (given : Option Value) → down_to_emission d (fronted front w) e ts rest given ≡ mapped remaining (down_to_emission d w e ts rest given)
  unfolding down_to_emission
  gives_emission w e ts rest given = simp (down_to_emission, parts, collects)

  keeps_source : (w : World) (source : ℕ) (given : Option Value) → kept_source (fronted front w) source given ≡ mapped (fronted front) (kept_source w source given)
  keeps_source w source (Some (values.bool keep)) = refl
  keeps_source w source None = refl
  keeps_source w source (Some (values.whole kind n)) = refl
  keeps_source w source (Some (values.text s)) = refl
  keeps_source w source (Some (values.enum type n)) = refl
  keeps_source w source (Some (values.flags type bits)) = refl
  keeps_source w source (Some (values.object o)) = refl

  gives_source : (w : World) (source : ℕ) (rest : List Task) (given : Option Value) → down_to_source (fronted front w) source rest given ≡ mapped remaining (down_to_source w source rest given)
  unfolding down_to_source
  gives_source w source rest given = simp (down_to_source, parts, keeps_source, mapped_before)

  gives_down : (w : World) (rest : List Task) (given : Option Value) → given_down d (fronted front w) rest given ≡ mapped remaining (given_down d w rest given)
  gives_down w (Emitting e turns ∷ rest) given = gives_emission w e turns rest given
  gives_down w (Answering source ∷ rest) given = gives_source w source rest given
  gives_down w rest None = refl
  gives_down w rest (Some v) = refl

  tells_result : (w : World) (by_event : Bool) (v : Option Value) → told d (fronted front w) by_event v ≡ fronted front (told d w by_event v)
  tells_result w by_event None = refl
  tells_result w false (Some v) = refl
  tells_result w true (Some v) = ap (λ (x : World). record x { result = Some v }) (said_in_front w (lines.result v))

  ends_emission : (w : World) (e : Emission) (rest : List Task) → ending d (fronted front w) e rest ≡ mapped remaining (ending d w e rest)
  unfolding ending
  ends_emission w e rest = simp (ending, parts, results, tells_result)

  says_returned : (w : World) (f : Frame) (from : Option ℕ) → returned d (fronted front w) f from ≡ returned d w f from
  unfolding returned
  says_returned w f from = refl

  returns : (w : World) (f : Frame) (rest : List Task) (from : Option ℕ) → returning d (fronted front w) f rest from ≡ mapped remaining (returning d w f rest from)
  unfolding returning
  returns w f rest from = simp (returning, parts, says_returned, gives_down)

  puts_in_front : (rest : List Task) (a : Answer Started) → in_front rest (mapped started a) ≡ mapped remaining (in_front rest a)
  unfolding in_front
  puts_in_front rest (Ok s) = refl
  puts_in_front rest (Err arm) = refl

  begins : (w : World) (rest : List Task) (a b : Answer Started) → a ≡ mapped started b → in_front rest a ≡ mapped remaining (in_front rest b)
  begins w rest a b same = ap (in_front rest) same ∙ puts_in_front rest b

  instructs_all : (w : World) (rest : List Task) (f : Frame) (i : Instruction) → instruction_step d (fronted front w) rest f i ≡ mapped remaining (instruction_step d w rest f i)
  instructs_all w rest f (words.const to kind v) = begins w rest (constant (fronted front w) f to v) (constant w f to v) (writes_register w to (Some v) f)
  instructs_all w rest f (words.move to from) = begins w rest (moving (fronted front w) f to from) (moving w f to from) (moves w f to from)
  instructs_all w rest f (words.clear to) = begins w rest (clearing (fronted front w) f to) (clearing w f to) (writes_register w to None f)
  instructs_all w rest f (words.arithmetic operation to a b) = begins w rest (reckoning (fronted front w) f operation to a b) (reckoning w f operation to a b) (reckons w f operation to a b)
  instructs_all w rest f (words.compare comparison to a b) = begins w rest (comparing (fronted front w) f comparison to a b) (comparing w f comparison to a b) (compares w f comparison to a b)
  instructs_all w rest f (words.same to a b) = begins w rest (sameness (fronted front w) f to a b) (sameness w f to a b) (tells_same w f to a b)
  instructs_all w rest f (words.negate to a) = begins w rest (negating (fronted front w) f to a) (negating w f to a) (negates w f to a)
  instructs_all w rest f (words.both to a b) = begins w rest (conjunction (fronted front w) f to a b) (conjunction w f to a b) (joins_both w f to a b)
  instructs_all w rest f (words.either to a b) = begins w rest (disjunction (fronted front w) f to a b) (disjunction w f to a b) (joins_either w f to a b)
  instructs_all w rest f (words.join to a b) = begins w rest (joining d (fronted front w) f to a b) (joining d w f to a b) (joins w f to a b)
  instructs_all w rest f (words.convert to a kind) = begins w rest (converting d (fronted front w) f to a kind) (converting d w f to a kind) (converts w f to a kind)
  instructs_all w rest f (words.get to object name) = begins w rest (get_property d (fronted front w) f to object name) (get_property d w f to object name) (gets w f to object name)
  instructs_all w rest f (words.set object name from) = begins w rest (set_property d (fronted front w) f object name from) (set_property d w f object name from) (assigns w f object name from)
  instructs_all w rest f (words.object to id) = begins w rest (look_up_object d (fronted front w) f to id) (look_up_object d w f to id) (names w f to id)
  instructs_all w rest f (words.new to id) = begins w rest (creating d (fronted front w) rest f to id) (creating d w rest f to id) (creates w rest f to id)
  instructs_all w rest f (words.sink object) = begins w rest (sinking (fronted front w) f object) (sinking w f object) (sinks w f object)
  instructs_all w rest f (words.orphan object) = begins w rest (orphaning d (fronted front w) f object) (orphaning d w f object) (orphans_of w f object)
  instructs_all w rest f (words.dispose object) = begins w rest (disposing d (fronted front w) f object) (disposing d w f object) (disposes_of w f object)
  instructs_all w rest f (words.adopt to parent child) = begins w rest (adopting d (fronted front w) f to parent child) (adopting d w f to parent child) (adopts_of w f to parent child)
  instructs_all w rest f (words.freeze object) = begins w rest (freezing (fronted front w) f object) (freezing w f object) (freezes w f object)
  instructs_all w rest f (words.thaw object) = begins w rest (thaw_notify (fronted front w) f object) (thaw_notify w f object) (unfreezes w f object)
  instructs_all w rest f (words.emit into object name detail args) = begins w rest (emitting d (fronted front w) f object (record { into = into; signal = name; detail = detail; args = args })) (emitting d w f object (record { into = into; signal = name; detail = detail; args = args })) (emits w f object (record { into = into; signal = name; detail = detail; args = args }))
  instructs_all w rest f (words.notify object name) = begins w rest (notify_from_program d (fronted front w) f object name) (notify_from_program d w f object name) (tells_of w f object name)
  instructs_all w rest f (words.connect to object c) = begins w rest (connecting d (fronted front w) rest f to object c) (connecting d w rest f to object c) (connects_of w rest f to object c)
  instructs_all w rest f (words.disconnect object program) = begins w rest (disconnecting d (fronted front w) f object program) (disconnecting d w f object program) (disconnects w f object program)
  instructs_all w rest f (words.block object program) = begins w rest (blocking d (fronted front w) f object program) (blocking d w f object program) (blocks_of w f object program)
  instructs_all w rest f (words.unblock object program) = begins w rest (unblocking d (fronted front w) f object program) (unblocking d w f object program) (unblocks_of w f object program)
  instructs_all w rest f words.stop = refl
  instructs_all w rest f (words.unbind name) = begins w rest (unbinding d (fronted front w) f name) (unbinding d w f name) (unbinds w f name)
  instructs_all w rest f (words.idle to program priority with) = begins w rest (attaching d (fronted front w) f to (record { word = codes "idle"; program = program; priority = priority; interval = None; with = with })) (attaching d w f to (record { word = codes "idle"; program = program; priority = priority; interval = None; with = with })) (attaches w f to (record { word = codes "idle"; program = program; priority = priority; interval = None; with = with }))
  instructs_all w rest f (words.timeout to program priority interval with) = begins w rest (attaching d (fronted front w) f to (record { word = codes "timeout"; program = program; priority = priority; interval = Some interval; with = with })) (attaching d w f to (record { word = codes "timeout"; program = program; priority = priority; interval = Some interval; with = with })) (attaches w f to (record { word = codes "timeout"; program = program; priority = priority; interval = Some interval; with = with }))
  instructs_all w rest f (words.remove program) = begins w rest (removing d (fronted front w) f program) (removing d w f program) (removes w f program)
  instructs_all w rest f (words.call to object name args) = begins w rest (calling d (fronted front w) f to object name args) (calling d w f to object name args) (calls_of w f to object name args)
  instructs_all w rest f (words.jump to) = begins w rest (jumping d (fronted front w) f to) (jumping d w f to) (jumps w f to)
  instructs_all w rest f (words.branch on then_to else_to) = begins w rest (branching d (fronted front w) f on then_to else_to) (branching d w f on then_to else_to) (branches w f on then_to else_to)
  instructs_all w rest f (words.branch_null on then_to else_to) = begins w rest (branching_null d (fronted front w) f on then_to else_to) (branching_null d w f on then_to else_to) (branches_null w f on then_to else_to)
  instructs_all w rest f (words.return from) = returns w f rest from

  pub runs_on : (w : World) (rest : List Task) (f : Frame) → running d (fronted front w) rest f ≡ mapped remaining (running d w rest f)
  unfolding running
  runs_on w rest f = simp (running, parts, instructs_all)

  -- ** peers

  left_with_one : (w : World) (rest : List Task) (to : ℕ) (v : Value) → left_with (fronted front w) rest to v ≡ mapped remaining (left_with w rest to v)
  unfolding left_with
  left_with_one w rest to v = simp (left_with, mapped_then)

  says_call : (w : World) (c : Call) (rest : List Task) (reply : Reply) (p : Peer) (m : Method) →
      left_with (said d (with_peer_state (fronted front w) c.peer p reply.state) (call_line p m c.args reply.answer)) rest c.to (or_zero d m.result reply.answer)
      ≡ mapped remaining (left_with (said d (with_peer_state w c.peer p reply.state) (call_line p m c.args reply.answer)) rest c.to (or_zero d m.result reply.answer))
  says_call w c rest reply p m =
      ap (λ v. left_with v rest c.to (or_zero d m.result reply.answer)) (said_in_front (with_peer_state w c.peer p reply.state) (call_line p m c.args reply.answer))
      ∙ left_with_one (said d (with_peer_state w c.peer p reply.state) (call_line p m c.args reply.answer)) rest c.to (or_zero d m.result reply.answer)

  says_closed : (w : World) (c : Call) (rest : List Task) (p : Peer) (m : Method) →
      left_with (said d (fronted front w) (lines.closed p.name m.name c.args)) rest c.to (zero_value d.types m.result)
      ≡ mapped remaining (left_with (said d w (lines.closed p.name m.name c.args)) rest c.to (zero_value d.types m.result))
  says_closed w c rest p m =
      ap (λ v. left_with v rest c.to (zero_value d.types m.result)) (said_in_front w (lines.closed p.name m.name c.args))
      ∙ left_with_one (said d w (lines.closed p.name m.name c.args)) rest c.to (zero_value d.types m.result)

  is_called_with : (w : World) (c : Call) (rest : List Task) (reply : Reply) → called d (fronted front w) c rest reply ≡ mapped remaining (called d w c rest reply)
  unfolding called with_method
  is_called_with w c rest reply = simp (called, mapped_then, with_method, says_call)

  is_uncalled : (w : World) (c : Call) (rest : List Task) → uncalled d (fronted front w) c rest ≡ mapped remaining (uncalled d w c rest)
  unfolding uncalled with_method
  is_uncalled w c rest = simp (uncalled, mapped_then, with_method, says_closed)

  is_replied : (w : World) (c : Call) (rest : List Task) (reply : Option Reply) → replied d (fronted front w) c rest reply ≡ mapped remaining (replied d w c rest reply)
  is_replied w c rest None = refl
  is_replied w c rest (Some reply) = is_called_with w c rest reply

  calls_on : (w : World) (c : Call) (rest : List Task) (reply : Option Reply) → calling_on d (fronted front w) c rest reply ≡ mapped remaining (calling_on d w c rest reply)
  calls_on w c rest reply = simp (mapped_cond, is_replied, is_uncalled)

  -- ** constructions and the build

  makes_set : (w : World) (id slot : ℕ) (v : Value) (tasks : List Task) → apply_construct_property d (fronted front w) id slot v tasks ≡ mapped started (apply_construct_property d w id slot v tasks)
  unfolding apply_construct_property
  makes_set w id slot v tasks = simp (apply_construct_property, parts)

  is_constructed : (w : World) (id : ℕ) (held : Bool) → constructed (fronted front w) id held ≡ mapped started (constructed w id held)
  unfolding constructed
  is_constructed w id false = refl
  is_constructed w id true = simp (constructed, parts)

  thaws_made : (w : World) (id : ℕ) (steps : List ConstructStep) (held : Bool) → thawing_made (fronted front w) id steps held ≡ mapped started (thawing_made w id steps held)
  unfolding thawing_made
  thaws_made w id steps held = simp (thawing_made, parts)

  constructs : (w : World) (id : ℕ) (steps : List ConstructStep) (held : Bool) → constructing d (fronted front w) id steps held ≡ mapped started (constructing d w id steps held)
  constructs w id [] held = is_constructed w id held
  constructs w id (sets slot v ∷ steps) held = makes_set w id slot v (Constructing id steps held ∷ [])
  constructs w id (runs program ∷ steps) held = runs_before w program (values.object (Some id) ∷ []) (Constructing id steps held ∷ [])
  constructs w id (thaws ∷ steps) held = thaws_made w id steps held

  builds_object : (w : World) (place : ℕ) (items : List Item) → building_object d (fronted front w) place items ≡ mapped started (building_object d w place items)
  unfolding building_object
  builds_object w place items = simp (building_object, parts, makes_object, mapped_before)

  builds_child : (w : World) (place : ℕ) (items : List Item) → building_child d (fronted front w) place items ≡ mapped started (building_child d w place items)
  unfolding building_child
  builds_child w place items = simp (building_child, mapped_then, adopts_one, mapped_before)

  sets_forward : (w : World) (id slot to : ℕ) (items : List Item) → set_forward (fronted front w) id slot to items ≡ mapped started (set_forward w id slot to items)
  unfolding set_forward
  sets_forward w id slot to items = simp (set_forward, parts)

  builds_forward : (w : World) (place slot to : ℕ) (items : List Item) → building_forward d (fronted front w) place slot to items ≡ mapped started (building_forward d w place slot to items)
  unfolding building_forward
  builds_forward w place slot to items = simp (building_forward, parts, sets_forward)

  builds_binding : (w : World) (number : ℕ) (items : List Item) → building_binding d (fronted front w) number items ≡ mapped started (building_binding d w number items)
  unfolding building_binding
  builds_binding w number items = simp (building_binding, parts)

  finds_data : (w : World) (place : Option ℕ) → held_data (fronted front w) place ≡ held_data w place
  unfolding held_data
  finds_data w None = refl
  finds_data w (Some place) = refl

  connects_signal : (w : World) (c : Connection) → with_signal (fronted front w) c ≡ fronted front (with_signal w c)
  connects_signal w c = by_late (is_too_late w.objects c.object c.arg)
    where
      by_late : (late : Bool) → cond late (fronted front w) (fronted front (with_handler w c)) ≡ fronted front (cond late w (with_handler w c))
      by_late true = refl
      by_late false = refl

  builds_handler : (w : World) (place number : ℕ) (items : List Item) → building_handler d (fronted front w) place number items ≡ mapped started (building_handler d w place number items)
  unfolding building_handler
  builds_handler w place number items = simp (building_handler, parts, finds_data, connects_signal)

  builds : (w : World) (items : List Item) → building d (fronted front w) items ≡ mapped started (building d w items)
  builds w [] = refl
  builds w (makes place ∷ items) = builds_object w place items
  builds w (adopts place ∷ items) = builds_child w place items
  builds w (forwards place slot to ∷ items) = builds_forward w place slot to items
  builds w (binds number ∷ items) = builds_binding w number items
  builds w (connects place number ∷ items) = builds_handler w place number items

  -- ** requests and sources

  finds_given : (w : World) (given : Given) → given_value (fronted front w) given ≡ given_value w given
  finds_given w (places.value v) = refl
  finds_given w (places.named to) = refl

  finds_givens : (w : World) (given : List Given) → given_values (fronted front w) given ≡ given_values w given
  unfolding given_values
  finds_givens w [] = refl
  finds_givens w (g ∷ gs) = simp (given_values, finds_given, finds_givens w gs)

  sets_given : (w : World) (id slot : ℕ) (given : Given) → set_given (fronted front w) id slot given ≡ mapped started (set_given w id slot given)
  unfolding set_given
  sets_given w id slot given = simp (set_given, parts, finds_given)

  carries_set : (w : World) (place slot : ℕ) (given : Given) → set_from_event d (fronted front w) place slot given ≡ mapped started (set_from_event d w place slot given)
  unfolding set_from_event
  carries_set w place slot given = simp (set_from_event, parts, sets_given)

  says_answer : (w : World) (line : Line) (v : Value) → with_result (said d (fronted front w) line) v ≡ fronted front (with_result (said d w line) v)
  says_answer w line v = ap (λ x. with_result x v) (said_in_front w line)

  says_held : (w : World) (line : Line) (place : ℕ) (held : BuilderEntry) → with_builder_entry (said d (fronted front w) line) place held ≡ fronted front (with_builder_entry (said d w line) place held)
  says_held w line place held = ap (λ x. with_builder_entry x place held) (said_in_front w line)

  carries_get : (w : World) (place slot : ℕ) → get_from_event d (fronted front w) place slot ≡ mapped started (get_from_event d w place slot)
  unfolding get_from_event
  carries_get w place slot = simp (get_from_event, mapped_then, mapped_if, says_answer)

  carries_emit : (w : World) (place signal : ℕ) (args : List Given) (detail : Option (List ℕ)) → emit_from_event d (fronted front w) place signal args detail ≡ mapped started (emit_from_event d w place signal args detail)
  unfolding emit_from_event
  carries_emit w place signal args detail = simp (emit_from_event, parts, finds_detail, finds_givens)

  carries_release : (w : World) (place : ℕ) → release_from_event d (fronted front w) place ≡ mapped started (release_from_event d w place)
  unfolding release_from_event
  carries_release w place = simp (release_from_event, mapped_then, says_held)

  carries_request : (w : World) (r : Request) → request_step d (fronted front w) r ≡ mapped started (request_step d w r)
  carries_request w (config.set place slot given) = carries_set w place slot given
  carries_request w (config.get place slot) = carries_get w place slot
  carries_request w (config.emit place signal args detail) = carries_emit w place signal args detail
  carries_request w (config.release place) = carries_release w place

  runs_source : (w : World) (source : ℕ) → sourcing d (fronted front w) source ≡ mapped started (sourcing d w source)
  unfolding sourcing
  runs_source w source = simp (sourcing, parts, runs_before)

  thaws_rest : (w : World) (id : ℕ) (slots : List ℕ) → thawing (fronted front w) id slots ≡ mapped started (thawing w id slots)
  thaws_rest w id [] = refl
  thaws_rest w id (slot ∷ slots) = refl

  -- ** steps

  not_counted : (rest : List Task) (n : ℕ) (a b : Answer Started) → a ≡ mapped started b → uncounted rest n a ≡ mapped (fronted_at front) (uncounted rest n b)
  not_counted rest n a (Ok s) same = ap (uncounted rest n) same
  not_counted rest n a (Err arm) same = ap (uncounted rest n) same

  is_counted : (rest : List Task) (n : ℕ) (a b : Answer Started) → a ≡ mapped started b → counted rest n a ≡ mapped (fronted_at front) (counted rest n b)
  is_counted rest n a b same =
      ap (only_if (nat_lt n most_steps) arms.Steps) (not_counted rest (suc n) a b same)
      ∙ sym (mapped_if (fronted_at front) (nat_lt n most_steps) arms.Steps (uncounted rest (suc n) b))

  leaves_agenda : (n : ℕ) (a b : Answer Left) → a ≡ mapped remaining b → left n a ≡ mapped (fronted_at front) (left n b)
  unfolding left
  leaves_agenda n a (Ok l) same = ap (left n) same
  leaves_agenda n a (Err arm) same = ap (left n) same

  leaves_counted : (n : ℕ) (a b : Answer Left) → a ≡ mapped remaining b → counted_left n a ≡ mapped (fronted_at front) (counted_left n b)
  leaves_counted n a b same =
      ap (only_if (nat_lt n most_steps) arms.Steps) (leaves_agenda (suc n) a b same)
      ∙ sym (mapped_if (fronted_at front) (nat_lt n most_steps) arms.Steps (left (suc n) b))

  settles_floating : (w : World) (ids : List ℕ) → sink_first_floating (fronted front w) ids ≡ fronted front (sink_first_floating w ids)
  settles_floating w [] = refl
  settles_floating w (id ∷ ids) = refl

  is_finalised : (w : World) (id : ℕ) → finalising d (fronted front w) id ≡ mapped started (finalising d w id)
  unfolding finalising
  is_finalised w id = simp (finalising, parts, finalises, mapped_before)

  acts : (w : World) (reply : Option Reply) (tasks : List Task) (n : ℕ) → act d (fronted front w) reply tasks n ≡ mapped (fronted_at front) (act d w reply tasks n)
  acts w reply [] n = ap (λ v. Ok (record { world = v; agenda = []; counted = n })) (settles_floating w w.floating)
  acts w reply (Setting id slot v ∷ rest) n = not_counted rest n (setting d (fronted front w) id slot v) (setting d w id slot v) (sets_one w id slot v)
  acts w reply (Notifying id slot ∷ rest) n = is_counted rest n (notifying d (fronted front w) id slot) (notifying d w id slot) (notifies w id slot)
  acts w reply (Beginning e ∷ rest) n = is_counted rest n (beginning_emission d (fronted front w) e) (beginning_emission d w e) (begins_emission w e)
  acts w reply (Emitting e [] ∷ rest) n = leaves_agenda n (ending d (fronted front w) e rest) (ending d w e rest) (ends_emission w e rest)
  acts w reply (Emitting e (t ∷ ts) ∷ rest) n = not_counted rest n (taking_entry d (fronted front w) e ts t) (taking_entry d w e ts t) (takes w e ts t)
  acts w reply (Transferring number back ∷ rest) n = is_counted rest n (transferring d (fronted front w) number back) (transferring d w number back) (carries_by w back (binding_of number w.bindings))
  acts w reply (Unsetting number ∷ rest) n = refl
  acts w reply (Thawing id slots ∷ rest) n = not_counted rest n (thawing (fronted front w) id slots) (thawing w id slots) (thaws_rest w id slots)
  acts w reply (Running f ∷ rest) n = leaves_counted n (running d (fronted front w) rest f) (running d w rest f) (runs_on w rest f)
  acts w reply (Answering source ∷ rest) n = refl
  acts w reply (Calling c ∷ rest) n = leaves_agenda n (calling_on d (fronted front w) c rest reply) (calling_on d w c rest reply) (calls_on w c rest reply)
  acts w reply (Constructing id steps held ∷ rest) n = not_counted rest n (constructing d (fronted front w) id steps held) (constructing d w id steps held) (constructs w id steps held)
  acts w reply (Building items ∷ rest) n = not_counted rest n (building d (fronted front w) items) (building d w items) (builds w items)
  acts w reply (Handling r ∷ rest) n = not_counted rest n (request_step d (fronted front w) r) (request_step d w r) (carries_request w r)
  acts w reply (Due source ∷ rest) n = not_counted rest n (sourcing d (fronted front w) source) (sourcing d w source) (runs_source w source)

  steps_first : (reply : Option Reply) (c : Config) (id : Option ℕ) → first_of d reply (fronted_at front c) id ≡ mapped (fronted_at front) (first_of d reply c id)
  steps_first reply c None = acts c.world reply c.agenda c.counted
  steps_first reply c (Some id) = is_counted c.agenda c.counted (finalising d (fronted front c.world) id) (finalising d c.world id) (is_finalised c.world id)

  asks_first : (w : World) (tasks : List Task) → asked_first (fronted front w) tasks ≡ asked_first w tasks
  asks_first w [] = refl
  asks_first w (Setting object slot v ∷ rest) = refl
  asks_first w (Notifying object slot ∷ rest) = refl
  asks_first w (Beginning emission ∷ rest) = refl
  asks_first w (Emitting emission turns ∷ rest) = refl
  asks_first w (Transferring number back ∷ rest) = refl
  asks_first w (Unsetting number ∷ rest) = refl
  asks_first w (Thawing object slots ∷ rest) = refl
  asks_first w (Running frame ∷ rest) = refl
  asks_first w (Answering source ∷ rest) = refl
  asks_first w (Calling call ∷ rest) = refl
  asks_first w (Constructing object steps held ∷ rest) = refl
  asks_first w (Building items ∷ rest) = refl
  asks_first w (Handling request ∷ rest) = refl
  asks_first w (Due source ∷ rest) = refl

  asks_after : (c : Config) (id : Option ℕ) → asked_after (fronted_at front c) id ≡ asked_after c id
  asks_after c None = asks_first c.world c.agenda
  asks_after c (Some id) = refl

pub step_appends : StepAppends
step_appends front d reply c = steps_first front d reply c (next_unheld (mentions d c) c.world.objects)

pub question_stays : QuestionStays
question_stays front d c = asks_after front d c (next_unheld (mentions d c) c.world.objects)
