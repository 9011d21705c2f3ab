-- What a step does that is not about peers is the same whatever the peers are, and whatever was said before.
use Rattle.std.proofs.Common.{◌≡◌, refl, ap, sym, ◌∙◌, ℕ, suc, Bool, true, false, cond, List, [], ◌∷◌, ◌++◌, Option, None, Some, Ok, Err, ◌++◌}
use Rattle.std.specs.Prelude.{codes, is_some, length, nat_lt, not, slice_get, ◌+◌, ◌&&◌, ◌||◌}
use Rattle.ui_machine.specs.declared.arm.Arm.{Arm}
use Rattle.ui_machine.specs.declared.arm.Arm.TheVariants as arms
use Rattle.ui_machine.specs.Definition.Kinds.{Kind}
use Rattle.ui_machine.specs.Definition.Values.{Value}
use Rattle.ui_machine.specs.Definition.Values as values
use Rattle.ui_machine.specs.Definition.Properties.{Spec}
use Rattle.ui_machine.specs.Definition.{Definition}
use Rattle.ui_machine.specs.Definition.Lookups.{place_at, place_of}
use Rattle.ui_machine.specs.Definition.Places.{Given, Place}
use Rattle.ui_machine.specs.Definition.Programs.{Block, Instruction, Arithmetic, Comparison, Connect}
use Rattle.ui_machine.specs.Definition.Programs as words
use Rattle.ui_machine.specs.Definition.Places as places
use Rattle.ui_machine.specs.Output.Lines.{Line}
use Rattle.ui_machine.specs.Output.Lines as lines
use Rattle.ui_machine.specs.State.Sources as sources
use Rattle.ui_machine.specs.Rules.Transform.{same_bool}
use Rattle.ui_machine.specs.Output.Text.{text_of_line}
use Rattle.ui_machine.specs.State.Tasks as config
use Rattle.ui_machine.specs.State.Objects.{Objects, live, living, most_identities}
use Rattle.ui_machine.specs.State.Peers.{Peer, Reply}
use Rattle.ui_machine.specs.State.Config.{World, Config, BuilderEntry, Started, said, with_objects, with_builder_entry, starts, sunk, Left}
use Rattle.ui_machine.specs.State.Tasks.{Setting, Notifying, Beginning, Emitting, Transferring, Unsetting, Thawing, Running, Answering, Calling, Constructing, Building, Handling, Due, Task, Emission, PlanEntry, class_handler, handler, Frame, ConstructStep, sets, runs, thaws, Item, makes, adopts, forwards, binds, connects, Request}
use Rattle.ui_machine.specs.State.Bindings.{Binding, binding_of}
use Rattle.ui_machine.specs.State.Handlers.{Handler, handler_of}
use Rattle.ui_machine.specs.Outcome.{After, Answer, ◌>>=◌, known, only_if}
use Rattle.ui_machine.specs.Rules.Sets.{raising, raising_if, written, setting}
use Rattle.ui_machine.specs.Rules.EmissionPlan.{notifying, beginning_emission}
use Rattle.ui_machine.specs.Rules.Programs.{beginning_program, program_before}
use Rattle.ui_machine.specs.Rules.Transfers.{End, source_end, target_end, set_by, carried, carried_by, transferring}
use Rattle.ui_machine.specs.Rules.Accumulation.{running_handler, taking_entry, collecting, resulting, told, down_to_emission, down_to_source, given_down, ending}
use Rattle.ui_machine.specs.Rules.Children.{updated, with_parent, with_child, with_family, adopted, orphaned}
use Rattle.ui_machine.specs.Rules.Disposal.{closing, said_if, is_first, peer_of, without_object, disposed, finalised}
use Rattle.ui_machine.specs.Instructions.Registers.{gives, goes_on, with_register, tells, operand_in, data_in, written_to, moving, constant, clearing}
use Rattle.ui_machine.specs.Rules.MainLoop.{kept_source, sourcing}
use Rattle.ui_machine.specs.Rules.Connections.{detail_in, is_too_late, has_room_for_handler, with_handler, connected, disconnected, blocked, unblocked, with_handlers_on, Connection}
use Rattle.ui_machine.specs.Rules.Construction.{new_object, has_shape, peer_left, peer_to_take, given_value, with_object, making, apply_construct_property, constructed, thawing_made, constructing}
use Rattle.ui_machine.specs.Rules.Build.{first_peer, peer_for, to_make, held_data, building_child, set_forward, building_forward, building_binding, building_handler, with_signal, building_object, building}
use Rattle.ui_machine.specs.Instructions.Signals.{Emit, signal_in, signal_to_emit, emitting, connecting, on_handlers, disconnecting, blocking, unblocking, unbinding}
use Rattle.ui_machine.specs.Instructions.Objects.{has_room_for_object, made_if_room, disposed_once, look_up_object, made_new, creating, sinking, orphaning, disposing, adopting, freezing, thaw_notify}
use Rattle.ui_machine.specs.Instructions.Arithmetic.{most_bytes, gives_from, within_bytes, reckoning, comparing, sameness, negating, conjunction, disjunction, joining, converting}
use Rattle.ui_machine.specs.Instructions.Sources.{with_source, attached_to, attaching, removing, Attach}
use Rattle.ui_machine.specs.Instructions.Properties.{slot_at, get_property, set_from, set_property, then_goes_on, notify_from_program}
use Rattle.ui_machine.specs.Instructions.Jumps.{block_in, in_pass, past, jumping, branching, branching_null, returned, returning}
use Rattle.ui_machine.specs.Instructions.{in_front, instruction_step, running}
use Rattle.ui_machine.specs.Rules.Events.{with_result, set_given, set_from_event, get_from_event, given_values, emit_from_event, release_from_event, request_step}
use Rattle.ui_machine.specs.Steps.{most_steps, uncounted, counted, counted_left, left, sink_first_floating, act, finalising, first_of}
use Rattle.ui_machine.specs.Rules.NotifyQueue.{thawing}
use Rattle.machine_laws.specs.FrontLaws.{mapped}
use Rattle.law_peers.specs.PeerLines.{is_peer_line}
use Rattle.law_peers.specs.Blind.{are_named, takes_peer, wants_peer, place_numbered, is_of_peer, instruction_meets_peers, next_meets_peers, block_meets_peers, items_meet_peers, tasks_meet_peers, first_meets_peers}

mapped_then : {A B C : Type 0} (f : B → C) (a : Answer A) (g : A → Answer B) → mapped f (a >>= g) ≡ (a >>= λ x. mapped f (g x))
mapped_then f (Ok x) g = refl
mapped_then f (Err arm) g = refl

mapped_if : {A B : Type 0} (f : A → B) (b : Bool) (arm : Arm) (a : Answer A) → mapped f (only_if b arm a) ≡ only_if b arm (mapped f a)
mapped_if f true arm a = refl
mapped_if f false arm a = refl

mapped_cond : {A B : Type 0} (f : A → B) (b : Bool) (x y : Answer A) → mapped f (cond b x y) ≡ cond b (mapped f x) (mapped f y)
mapped_cond f true x y = refl
mapped_cond f false x y = refl

mapped_before : {A B C : Type 0} (f : A → B) (a : Answer A) (g : B → Answer C) → (mapped f a >>= g) ≡ (a >>= λ x. g (f x))
mapped_before f (Ok x) g = refl
mapped_before f (Err arm) g = refl

-- the world with other peers, and a transcript made of its own
abbrev pub other : (List (List ℕ) → List (List ℕ)) → List Peer → World → World
other retold peers w = record w { peers = peers; transcript = retold w.transcript }

-- the configuration with other peers, and a transcript made of its own
abbrev pub other_at : (List (List ℕ) → List (List ℕ)) → List Peer → Config → Config
other_at retold peers c = record c { world = other retold peers c.world }

-- a line that is not about a peer comes behind the transcript that is made
abbrev pub Adds : (List (List ℕ) → List (List ℕ)) → Type 0
Adds retold = (t : List (List ℕ)) (line : List ℕ) → is_peer_line line ≡ false → retold (t ++ line ∷ []) ≡ retold t ++ line ∷ []

module _ (retold : List (List ℕ) → List (List ℕ)) (adds : Adds retold) (ps : List Peer) (d : Definition) where
  abbrev started : Started → Started
  started s = record s { world = other retold ps s.world }

  said_in_front : (w : World) (line : Line) → is_peer_line (text_of_line d.types line) ≡ false → said d (other retold ps w) line ≡ other retold ps (said d w line)
  said_in_front w line quiet = ap (λ (ls : List (List ℕ)). record w { peers = ps; transcript = ls }) (sym (adds w.transcript (text_of_line d.types line) quiet))

  said_set : (w : World) (id : ℕ) (name : List ℕ) (v : Value) → said d (other retold ps w) (lines.set id name v) ≡ other retold ps (said d w (lines.set id name v))
  said_set w id name v = said_in_front w (lines.set id name v) refl

  said_set_at : (w : World) (os : Objects) (id : ℕ) (name : List ℕ) (v : Value) → said d (with_objects (other retold ps w) os) (lines.set id name v) ≡ other retold ps (said d (with_objects w os) (lines.set id name v))
  said_set_at w os id name v = said_in_front (with_objects w os) (lines.set id name v) refl

  said_refused : (w : World) (id : ℕ) (name : List ℕ) (v : Value) → said d (other retold ps w) (lines.refused id name v) ≡ other retold ps (said d w (lines.refused id name v))
  said_refused w id name v = said_in_front w (lines.refused id name v) refl

  said_notify : (w : World) (id : ℕ) (name : List ℕ) → said d (other retold ps w) (lines.notify id name) ≡ other retold ps (said d w (lines.notify id name))
  said_notify w id name = said_in_front w (lines.notify id name) refl

  said_emit : (w : World) (id : ℕ) (name : List ℕ) (detail : Option (List ℕ)) (args : List Value) → said d (other retold ps w) (lines.emit id name detail args) ≡ other retold ps (said d w (lines.emit id name detail args))
  said_emit w id name detail args = said_in_front w (lines.emit id name detail args) refl

  said_run : (w : World) (program : List ℕ) → said d (other retold ps w) (lines.run program) ≡ other retold ps (said d w (lines.run program))
  said_run w program = said_in_front w (lines.run program) refl

  said_limit : (w : World) (word : List ℕ) → said d (other retold ps w) (lines.limit word) ≡ other retold ps (said d w (lines.limit word))
  said_limit w word = said_in_front w (lines.limit word) refl

  said_orphan : (w : World) (id : ℕ) → said d (other retold ps w) (lines.orphan id) ≡ other retold ps (said d w (lines.orphan id))
  said_orphan w id = said_in_front w (lines.orphan id) refl

  said_orphan_at : (w : World) (os : Objects) (id : ℕ) → said d (with_objects (other retold ps w) os) (lines.orphan id) ≡ other retold ps (said d (with_objects w os) (lines.orphan id))
  said_orphan_at w os id = said_in_front (with_objects w os) (lines.orphan id) refl

  said_adopt : (w : World) (parent child : ℕ) → said d (other retold ps w) (lines.adopt parent child) ≡ other retold ps (said d w (lines.adopt parent child))
  said_adopt w parent child = said_in_front w (lines.adopt parent child) refl

  said_dispose : (w : World) (id : ℕ) → said d (other retold ps w) (lines.dispose id) ≡ other retold ps (said d w (lines.dispose id))
  said_dispose w id = said_in_front w (lines.dispose id) refl

  said_dispose_at : (w : World) (os : Objects) (id : ℕ) → said d (with_objects (other retold ps w) os) (lines.dispose id) ≡ other retold ps (said d (with_objects w os) (lines.dispose id))
  said_dispose_at w os id = said_in_front (with_objects w os) (lines.dispose id) refl

  said_final : (w : World) (id : ℕ) → said d (other retold ps w) (lines.final id) ≡ other retold ps (said d w (lines.final id))
  said_final w id = said_in_front w (lines.final id) refl

  said_final_at : (w : World) (os : Objects) (id : ℕ) → said d (with_objects (other retold ps w) os) (lines.final id) ≡ other retold ps (said d (with_objects w os) (lines.final id))
  said_final_at w os id = said_in_front (with_objects w os) (lines.final id) refl

  said_construct : (w : World) (id : ℕ) (class : List ℕ) → said d (other retold ps w) (lines.construct id class) ≡ other retold ps (said d w (lines.construct id class))
  said_construct w id class = said_in_front w (lines.construct id class) refl

  said_get : (w : World) (id : ℕ) (name : List ℕ) (v : Value) → said d (other retold ps w) (lines.get id name v) ≡ other retold ps (said d w (lines.get id name v))
  said_get w id name v = said_in_front w (lines.get id name v) refl

  said_release : (w : World) (id : List ℕ) → said d (other retold ps w) (lines.release id) ≡ other retold ps (said d w (lines.release id))
  said_release w id = said_in_front w (lines.release id) refl

  said_result : (w : World) (v : Value) → said d (other retold ps w) (lines.result v) ≡ other retold ps (said d w (lines.result v))
  said_result w v = said_in_front w (lines.result v) refl

  said_closed : (w : World) (peer method : List ℕ) (args : List Value) → said d (other retold ps w) (lines.closed peer method args) ≡ other retold ps (said d w (lines.closed peer method args))
  said_closed w peer method args = said_in_front w (lines.closed peer method args) refl

  said_construct_at : (w : World) (place : ℕ) (p : Place) (id : ℕ) (class : List ℕ) →
      said d (with_object d (other retold ps w) (new_object d place p None)) (lines.construct id class) ≡ other retold ps (said d (with_object d w (new_object d place p None)) (lines.construct id class))
  said_construct_at w place p id class = said_in_front (with_object d w (new_object d place p None)) (lines.construct id class) refl

  abbrev family : After World Bool → After World Bool
  family done = record done { state = other retold ps done.state }

  abbrev pub remaining : Left → Left
  remaining l = record l { world = other retold ps l.world }

  ruleset parts = (mapped_then, mapped_if, mapped_cond, said_set, said_set_at, said_refused, said_notify, said_emit, said_run, said_limit, said_orphan_at, said_result, said_final_at)

  raises : (w : World) (id slot : ℕ) → raising (other retold ps w) id slot ≡ mapped started (raising w id slot)
  unfolding raising
  raises w id slot = simp (raising, parts)

  raises_if : (b : Bool) (w : World) (id slot : ℕ) → raising_if b (other retold ps w) id slot ≡ mapped started (raising_if b w id slot)
  raises_if false w id slot = refl
  raises_if true w id slot = raises w id slot

  writes : (w : World) (id slot : ℕ) (s : Spec) (v : Value) → written d (other retold ps w) id slot s v ≡ mapped started (written d w id slot s v)
  unfolding written
  writes w id slot s v = simp (written, parts, raises_if)

  sets_one : (w : World) (id slot : ℕ) (v : Value) → setting d (other retold ps w) id slot v ≡ mapped started (setting d w id slot v)
  unfolding setting
  sets_one w id slot v = simp (setting, parts, writes)

  -- ** emissions

  notifies : (w : World) (id slot : ℕ) → notifying d (other retold ps w) id slot ≡ mapped started (notifying d w id slot)
  unfolding notifying
  notifies w id slot = simp (notifying, parts)

  begins_emission : (w : World) (e : Emission) → beginning_emission d (other retold ps w) e ≡ mapped started (beginning_emission d w e)
  unfolding beginning_emission
  begins_emission w e = simp (beginning_emission, parts)

  begins_program : (w : World) (number : ℕ) (args : List Value) → beginning_program d (other retold ps w) number args ≡ mapped started (beginning_program d w number args)
  unfolding beginning_program
  begins_program w number args = simp (beginning_program, parts)

  runs_before : (w : World) (number : ℕ) (args : List Value) (tasks : List Task) → program_before d (other retold ps w) number args tasks ≡ mapped started (program_before d w number args tasks)
  unfolding program_before
  runs_before w number args tasks = simp (program_before, parts, mapped_before, begins_program)

  turns : (w : World) (e : Emission) (ts : List PlanEntry) (h : Option Handler) → running_handler d (other retold ps w) e ts h ≡ mapped started (running_handler d w e ts h)
  turns w e ts None = refl
  turns w e ts (Some h) = simp (parts, runs_before)

  takes : (w : World) (e : Emission) (ts : List PlanEntry) (t : PlanEntry) → taking_entry d (other retold ps w) e ts t ≡ mapped started (taking_entry d w e ts t)
  takes w e ts (class_handler program cleanup) = simp (parts, runs_before)
  takes w e ts (handler number) = turns w e ts (handler_of number w.handlers)
  takes w e ts (config.transfer number back) = refl

  collects : (w : World) (e : Emission) (ts : List PlanEntry) (given : Option Value) → collecting d (other retold ps w) e ts given ≡ collecting d w e ts given
  unfolding collecting
  collects w e ts given = refl

  results : (w : World) (e : Emission) → resulting d (other retold ps w) e ≡ resulting d w e
  unfolding resulting
  results w e = refl

  -- ** transfers, families, disposal

  sets_by : (w : World) (number : ℕ) (end : End) (v : Option Value) → set_by (other retold ps w) number end v ≡ mapped started (set_by w number end v)
  sets_by w number end None = refl
  sets_by w number end (Some v) = refl

  carries : (w : World) (b : Binding) (source target : End) → carried d (other retold ps w) b source target ≡ mapped started (carried d w b source target)
  unfolding carried
  carries w b source target = simp (carried, parts, sets_by)

  carries_by : (w : World) (back : Bool) (b : Option Binding) → carried_by d (other retold ps w) back b ≡ mapped started (carried_by d w back b)
  carries_by w back None = refl
  carries_by w false (Some b) = carries w b (source_end b) (target_end b)
  carries_by w true (Some b) = carries w b (target_end b) (source_end b)

  adopts_if_room : (w : World) (parent child : ℕ) (refused : Bool) →
      ◌≡◌ {A = After World Bool} (cond refused (record { state = said d (other retold ps w) (lines.limit (codes "adopt")); answer = false }) (record { state = with_family d (other retold ps w) parent child; answer = true }))
      (family (cond refused (record { state = said d w (lines.limit (codes "adopt")); answer = false }) (record { state = with_family d w parent child; answer = true })))
  adopts_if_room w parent child true = ap (λ (v : World). record { state = v; answer = false }) (said_limit w (codes "adopt"))
  adopts_if_room w parent child false =
      ap (λ (v : World). record { state = v; answer = true }) (said_in_front (sunk (with_objects w (updated (with_parent (Some parent)) child (updated (with_child child) parent w.objects))) child) (lines.adopt parent child) refl)

  adopts_one : (w : World) (parent child : ℕ) → adopted d (other retold ps w) parent child ≡ mapped family (adopted d w parent child)
  unfolding adopted
  adopts_one w parent child = simp (adopted, mapped_then, adopts_if_room)

  orphans_one : (w : World) (child : ℕ) (parent : Option ℕ) → orphaned d (other retold ps w) child parent ≡ other retold ps (orphaned d w child parent)
  orphans_one w child None = refl
  orphans_one w child (Some parent) = simp parts

  says_if : (w : World) (first : Bool) (id : ℕ) → said_if d first (other retold ps w) (lines.dispose id) ≡ other retold ps (said_if d first w (lines.dispose id))
  says_if w false id = refl
  says_if w true id = said_dispose w id

  closes_none : (w : World) (peer : Option ℕ) → peer ≡ None → closing d peer w ≡ Ok w
  unfolding closing
  closes_none w None none = refl
  closes_none w (Some k) none = absurd (cc)

  disposes : (w : World) (id : ℕ) → peer_of (living w.objects id) ≡ None → disposed d (other retold ps w) id ≡ mapped (other retold ps) (disposed d w id)
  disposes w id none =
      closes_none (said_if d (is_first (living w.objects id)) (other retold ps (without_object d w id)) (lines.dispose id)) (peer_of (living w.objects id)) none
      ∙ (ap (λ (v : World). Ok v) (says_if (without_object d w id) (is_first (living w.objects id)) id)
      ∙ sym (ap (mapped (other retold ps)) (closes_none (said_if d (is_first (living w.objects id)) (without_object d w id) (lines.dispose id)) (peer_of (living w.objects id)) none)))

  says_final : (v : World) (os : Objects) (id : ℕ) → said d (with_objects (other retold ps v) os) (lines.final id) ≡ other retold ps (said d (with_objects v os) (lines.final id))
  says_final v os id = said_final_at v os id

  finalises : (w : World) (id : ℕ) → peer_of (living w.objects id) ≡ None → finalised d (other retold ps w) id ≡ mapped (other retold ps) (finalised d w id)
  unfolding finalised
  finalises w id none = simp (finalised, parts, disposes w id none, mapped_before)

  -- ** instructions

  reads_operand : (w : World) (f : Frame) (from : ℕ) → operand_in (other retold ps w) f from ≡ operand_in w f from
  unfolding operand_in
  reads_operand w f from = refl

  reads_data : (w : World) (f : Frame) (from : Option ℕ) → data_in (other retold ps w) f from ≡ data_in w f from
  unfolding data_in operand_in
  reads_data w f None = refl
  reads_data w f (Some from) = refl

  writes_register : (w : World) (to : ℕ) (v : Option Value) (f : Frame) → written_to (other retold ps w) to v f ≡ mapped started (written_to w to v f)
  unfolding written_to
  writes_register w to v f = simp (written_to, parts)

  moves : (w : World) (f : Frame) (to from : ℕ) → moving (other retold ps w) f to from ≡ mapped started (moving w f to from)
  unfolding moving
  moves w f to from = simp (moving, parts, writes_register, reads_operand, reads_data)

  reckons : (w : World) (f : Frame) (op : Arithmetic) (to a b : ℕ) → reckoning (other retold ps w) f op to a b ≡ mapped started (reckoning w f op to a b)
  unfolding reckoning
  reckons w f op to a b = simp (reckoning, parts, writes_register, reads_operand, reads_data)

  compares : (w : World) (f : Frame) (op : Comparison) (to a b : ℕ) → comparing (other retold ps w) f op to a b ≡ mapped started (comparing w f op to a b)
  unfolding comparing
  compares w f op to a b = simp (comparing, parts, writes_register, reads_operand, reads_data)

  tells_same : (w : World) (f : Frame) (to a b : ℕ) → sameness (other retold ps w) f to a b ≡ mapped started (sameness w f to a b)
  unfolding sameness
  tells_same w f to a b = simp (sameness, parts, writes_register, reads_operand, reads_data)

  joins_both : (w : World) (f : Frame) (to a b : ℕ) → conjunction (other retold ps w) f to a b ≡ mapped started (conjunction w f to a b)
  unfolding conjunction
  joins_both w f to a b = simp (conjunction, parts, writes_register, reads_operand, reads_data)

  joins_either : (w : World) (f : Frame) (to a b : ℕ) → disjunction (other retold ps w) f to a b ≡ mapped started (disjunction w f to a b)
  unfolding disjunction
  joins_either w f to a b = simp (disjunction, parts, writes_register, reads_operand, reads_data)

  negates : (w : World) (f : Frame) (to a : ℕ) → negating (other retold ps w) f to a ≡ mapped started (negating w f to a)
  unfolding negating
  negates w f to a = simp (negating, parts, writes_register, reads_operand, reads_data)

  joins_within : (w : World) (to : ℕ) (f : Frame) (s : List ℕ) → gives_from (within_bytes d (other retold ps w) s) to f ≡ mapped started (gives_from (within_bytes d w s) to f)
  joins_within w to f s = by_length (nat_lt most_bytes (length s))
    where
      by_length : (b : Bool) →
          gives_from (cond b (record { state = said d (other retold ps w) (lines.limit (codes "join")); answer = values.text None }) (record { state = other retold ps w; answer = values.text (Some s) })) to f
          ≡ mapped started (gives_from (cond b (record { state = said d w (lines.limit (codes "join")); answer = values.text None }) (record { state = w; answer = values.text (Some s) })) to f)
      by_length true = simp (parts, writes_register)
      by_length false = simp (parts, writes_register)

  joins : (w : World) (f : Frame) (to a b : ℕ) → joining d (other retold ps w) f to a b ≡ mapped started (joining d w f to a b)
  unfolding joining
  joins w f to a b = simp (joining, mapped_then, joins_within)

  converts : (w : World) (f : Frame) (to a : ℕ) (kind : Kind) → converting d (other retold ps w) f to a kind ≡ mapped started (converting d w f to a kind)
  unfolding converting
  converts w f to a kind = simp (converting, parts, writes_register, reads_operand, reads_data)

  finds_slot : (w : World) (id : ℕ) (name : List ℕ) → slot_at d (other retold ps w) id name ≡ slot_at d w id name
  unfolding slot_at
  finds_slot w id name = refl

  gets : (w : World) (f : Frame) (to object : ℕ) (name : List ℕ) → get_property d (other retold ps w) f to object name ≡ mapped started (get_property d w f to object name)
  unfolding get_property
  gets w f to object name = simp (get_property, parts, writes_register, reads_operand, reads_data, finds_slot)

  sets_from : (w : World) (f : Frame) (id slot from : ℕ) → set_from (other retold ps w) f id slot from ≡ mapped started (set_from w f id slot from)
  unfolding set_from
  sets_from w f id slot from = simp (set_from, parts, writes_register, reads_operand, reads_data)

  assigns : (w : World) (f : Frame) (object : ℕ) (name : List ℕ) (from : ℕ) → set_property d (other retold ps w) f object name from ≡ mapped started (set_property d w f object name from)
  unfolding set_property
  assigns w f object name from = simp (set_property, parts, writes_register, reads_operand, reads_data, finds_slot, sets_from)

  goes_on_after : (f : Frame) (a : Answer Started) → then_goes_on f (mapped started a) ≡ mapped started (then_goes_on f a)
  unfolding then_goes_on
  goes_on_after f (Ok s) = refl
  goes_on_after f (Err arm) = refl

  tells_of : (w : World) (f : Frame) (object : ℕ) (name : List ℕ) → notify_from_program d (other retold ps w) f object name ≡ mapped started (notify_from_program d w f object name)
  unfolding notify_from_program
  tells_of w f object name = simp (notify_from_program, parts, writes_register, reads_operand, reads_data, finds_slot, raises, goes_on_after)

  names : (w : World) (f : Frame) (to : ℕ) (id : List ℕ) → look_up_object d (other retold ps w) f to id ≡ mapped started (look_up_object d w f to id)
  unfolding look_up_object
  names w f to id = simp (look_up_object, parts, writes_register, reads_operand, reads_data)

  -- ** constructions

  makes_object : (w : World) (place : ℕ) (held : Bool) → making d (other retold ps w) place None held ≡ mapped started (making d w place None held)
  unfolding making
  makes_object w place held = simp (making, parts, said_construct_at)

  makes_new : (w : World) (f : Frame) (to place : ℕ) (p : Place) → has_shape d p.class ≡ false → made_new d (other retold ps w) f to place p ≡ mapped started (made_new d w f to place p)
  unfolding made_new
  makes_new w f to place p none =
      takes_none (other retold ps w) ∙ (made ∙ ap (mapped started) (sym (takes_none w)))
    where
      after : World → Option ℕ → Answer Started
      after v peer = making d v place peer false >>= λ (m : Started). with_register to (Some (values.object (Some (suc (length v.objects))))) f.registers >>= λ registers. goes_on m.world m.tasks (record f { registers = registers })

      takes_none : (v : World) → after v (peer_to_take d v p) ≡ after v None
      takes_none v = ap (λ b. after v (cond b (peer_left v p) None)) none

      made : after (other retold ps w) None ≡ mapped started (after w None)
      made = simp (parts, mapped_before, makes_object)

  makes_if_room : (w : World) (to_come : ℕ) (f : Frame) (to place : ℕ) (p : Place) → has_shape d p.class ≡ false → made_if_room d (other retold ps w) to_come f to place p ≡ mapped started (made_if_room d w to_come f to place p)
  makes_if_room w to_come f to place p none =
      ap (λ b. cond b (made_new d (other retold ps w) f to place p) (gives (said d (other retold ps w) (lines.limit (codes "new"))) to (values.object None) f)) same_room
      ∙ by (has_room_for_object d w to_come p)
    where
      fits : World → Bool → Bool
      fits v shaped = nat_lt (live v.objects + to_come) d.most_objects && (nat_lt (length v.objects + to_come) most_identities && (not shaped || is_some (peer_left v p)))

      same_room : has_room_for_object d (other retold ps w) to_come p ≡ has_room_for_object d w to_come p
      same_room = ap (fits (other retold ps w)) none ∙ sym (ap (fits w) none)

      by : (b : Bool) → cond b (made_new d (other retold ps w) f to place p) (gives (said d (other retold ps w) (lines.limit (codes "new"))) to (values.object None) f) ≡ mapped started (cond b (made_new d w f to place p) (gives (said d w (lines.limit (codes "new"))) to (values.object None) f))
      by true = makes_new w f to place p none
      by false = simp (parts, writes_register)

  creates : (w : World) (rest : List Task) (f : Frame) (to : ℕ) (id : List ℕ) → takes_peer d (place_numbered d (place_of d id)) ≡ false → creating d (other retold ps w) rest f to id ≡ mapped started (creating d w rest f to id)
  unfolding creating
  creates w rest f to id none = by_number (place_of d id) none
    where
      at : World → Option ℕ → Answer Started
      at v number = known arms.Code number >>= λ place. known arms.Code (place_at d place) >>= λ (p : Place). only_if p.is_prototype arms.Code (made_if_room d v (to_make rest) f to place p)

      here : World → ℕ → Option Place → Answer Started
      here v place o = known arms.Code o >>= λ (p : Place). only_if p.is_prototype arms.Code (made_if_room d v (to_make rest) f to place p)

      by_place : (place : ℕ) (o : Option Place) → takes_peer d o ≡ false → here (other retold ps w) place o ≡ mapped started (here w place o)
      by_place place None n = refl
      by_place place (Some p) n =
          ap (only_if p.is_prototype arms.Code) (makes_if_room w (to_make rest) f to place p n)
          ∙ sym (mapped_if started p.is_prototype arms.Code (made_if_room d w (to_make rest) f to place p))

      by_number : (number : Option ℕ) → takes_peer d (place_numbered d number) ≡ false → at (other retold ps w) number ≡ mapped started (at w number)
      by_number None n = refl
      by_number (Some place) n = by_place place (place_at d place) n

  sinks : (w : World) (f : Frame) (object : ℕ) → sinking (other retold ps w) f object ≡ mapped started (sinking w f object)
  unfolding sinking
  sinks w f object = simp (sinking, parts, writes_register, reads_operand, reads_data)

  orphans_of : (w : World) (f : Frame) (object : ℕ) → orphaning d (other retold ps w) f object ≡ mapped started (orphaning d w f object)
  unfolding orphaning
  orphans_of w f object = simp (orphaning, parts, writes_register, reads_operand, reads_data, orphans_one)

  disposes_once : (w : World) (id : ℕ) → peer_of (living w.objects id) ≡ None → disposed_once d (other retold ps w) id ≡ mapped (other retold ps) (disposed_once d w id)
  disposes_once w id none = simp (parts, disposes w id none)

  none_there : (peer : Option ℕ) → is_some peer ≡ false → peer ≡ None
  none_there None e = refl
  none_there (Some k) e = absurd (cc)

  disposes_of : (w : World) (f : Frame) (object : ℕ) → is_of_peer w (operand_in w f object) ≡ false → disposing d (other retold ps w) f object ≡ mapped started (disposing d w f object)
  unfolding disposing
  disposes_of w f object none =
      ap (at (other retold ps w)) (reads_operand w f object) ∙ by (operand_in w f object) none
    where
      at : World → Answer ℕ → Answer Started
      at v operand = operand >>= λ id. disposed_once d v id >>= λ after. goes_on after [] f

      by : (operand : Answer ℕ) → is_of_peer w operand ≡ false → at (other retold ps w) operand ≡ mapped started (at w operand)
      by (Err arm) n = refl
      by (Ok id) n =
          ap (λ a. a >>= λ after. goes_on after [] f) (disposes_once w id (none_there (peer_of (living w.objects id)) n))
          ∙ (mapped_before (other retold ps) (disposed_once d w id) (λ after. goes_on after [] f)
          ∙ sym (mapped_then started (disposed_once d w id) (λ after. goes_on after [] f)))

  adopts_of : (w : World) (f : Frame) (to parent child : ℕ) → adopting d (other retold ps w) f to parent child ≡ mapped started (adopting d w f to parent child)
  unfolding adopting
  adopts_of w f to parent child = simp (adopting, parts, writes_register, reads_operand, reads_data, adopts_one, mapped_before)

  freezes : (w : World) (f : Frame) (object : ℕ) → freezing (other retold ps w) f object ≡ mapped started (freezing w f object)
  unfolding freezing
  freezes w f object = simp (freezing, parts, writes_register, reads_operand, reads_data)

  unfreezes : (w : World) (f : Frame) (object : ℕ) → thaw_notify (other retold ps w) f object ≡ mapped started (thaw_notify w f object)
  unfolding thaw_notify
  unfreezes w f object = simp (thaw_notify, parts, writes_register, reads_operand, reads_data)

  -- ** signals, sources and peers

  finds_signal : (w : World) (id : ℕ) (name : List ℕ) → signal_in d (other retold ps w) id name ≡ signal_in d w id name
  unfolding signal_in
  finds_signal w id name = refl

  finds_emitted : (w : World) (id : ℕ) (name : List ℕ) → signal_to_emit d (other retold ps w) id name ≡ signal_to_emit d w id name
  unfolding signal_to_emit
  finds_emitted w id name = simp (signal_to_emit, parts, finds_signal)

  finds_detail : (w : World) (id number : ℕ) (detail : Option (List ℕ)) → detail_in d (other retold ps w) id number detail ≡ detail_in d w id number detail
  unfolding detail_in
  finds_detail w id number detail = refl

  emits : (w : World) (f : Frame) (object : ℕ) (e : Emit) → emitting d (other retold ps w) f object e ≡ mapped started (emitting d w f object e)
  unfolding emitting
  emits w f object e = simp (emitting, parts, writes_register, reads_operand, reads_data, finds_emitted, finds_detail)

  tells_done : (w v : World) (to : ℕ) (f : Frame) (b : Bool) (word : List ℕ) →
      tells (cond b (record { state = other retold ps v; answer = true }) (record { state = said d (other retold ps w) (lines.limit word); answer = false })) to f ≡ mapped started (tells (cond b (record { state = v; answer = true }) (record { state = said d w (lines.limit word); answer = false })) to f)
  tells_done w v to f true word = writes_register v to (Some (values.bool true)) f
  tells_done w v to f false word = simp (parts, writes_register)

  connects_one : (w : World) (to_come to : ℕ) (f : Frame) (c : Connection) → tells (connected d (other retold ps w) to_come c) to f ≡ mapped started (tells (connected d w to_come c) to f)
  connects_one w to_come to f c = by_late (is_too_late w.objects c.object c.arg)
    where
      by_late : (late : Bool) →
          tells (cond late (record { state = other retold ps w; answer = false })
          (cond (has_room_for_handler d w to_come c.object c.signal) (record { state = other retold ps (with_handler w c); answer = true }) (record { state = said d (other retold ps w) (lines.limit (codes "connect")); answer = false }))) to f
          ≡ mapped started (tells (cond late (record { state = w; answer = false }) (cond (has_room_for_handler d w to_come c.object c.signal) (record { state = with_handler w c; answer = true }) (record { state = said d w (lines.limit (codes "connect")); answer = false }))) to f)
      by_late true = writes_register w to (Some (values.bool false)) f
      by_late false = tells_done w (with_handler w c) to f (has_room_for_handler d w to_come c.object c.signal) (codes "connect")

  connects_of : (w : World) (rest : List Task) (f : Frame) (to object : ℕ) (c : Connect) → connecting d (other retold ps w) rest f to object c ≡ mapped started (connecting d w rest f to object c)
  unfolding connecting
  connects_of w rest f to object c = simp (connecting, mapped_then, reads_operand, reads_data, finds_signal, finds_detail, connects_one)

  disconnects : (w : World) (f : Frame) (object : ℕ) (program : List ℕ) → on_handlers d (other retold ps w) f object program disconnected ≡ mapped started (on_handlers d w f object program disconnected)
  unfolding on_handlers
  disconnects w f object program = simp (on_handlers, parts, writes_register, reads_operand, reads_data)

  blocks_of : (w : World) (f : Frame) (object : ℕ) (program : List ℕ) → on_handlers d (other retold ps w) f object program (with_handlers_on blocked) ≡ mapped started (on_handlers d w f object program (with_handlers_on blocked))
  unfolding on_handlers
  blocks_of w f object program = simp (on_handlers, parts, writes_register, reads_operand, reads_data)

  unblocks_of : (w : World) (f : Frame) (object : ℕ) (program : List ℕ) → on_handlers d (other retold ps w) f object program (with_handlers_on unblocked) ≡ mapped started (on_handlers d w f object program (with_handlers_on unblocked))
  unfolding on_handlers
  unblocks_of w f object program = simp (on_handlers, parts, writes_register, reads_operand, reads_data)

  attaches_one : (w : World) (a : Attach) (program : ℕ) (arg : Option ℕ) (to : ℕ) (f : Frame) →
      tells (attached_to d (other retold ps w) a program arg) to f ≡ mapped started (tells (attached_to d w a program arg) to f)
  attaches_one w a program arg to f = tells_done w (with_source w a program arg) to f (sources.has_room w.sources w.last_source) a.word

  attaches : (w : World) (f : Frame) (to : ℕ) (a : Attach) → attaching d (other retold ps w) f to a ≡ mapped started (attaching d w f to a)
  unfolding attaching
  attaches w f to a = simp (attaching, mapped_then, reads_data, attaches_one)

  removes : (w : World) (f : Frame) (program : List ℕ) → removing d (other retold ps w) f program ≡ mapped started (removing d w f program)
  unfolding removing
  removes w f program = simp (removing, parts, writes_register, reads_operand, reads_data)

  jumps : (w : World) (f : Frame) (to : ℕ) → jumping d (other retold ps w) f to ≡ mapped started (jumping d w f to)
  unfolding jumping
  jumps w f to = simp (jumping, parts, writes_register, reads_operand, reads_data)

  branches : (w : World) (f : Frame) (on then_to else_to : ℕ) → branching d (other retold ps w) f on then_to else_to ≡ mapped started (branching d w f on then_to else_to)
  unfolding branching
  branches w f on then_to else_to = simp (branching, parts, writes_register, reads_operand, reads_data, jumps)

  branches_null : (w : World) (f : Frame) (on then_to else_to : ℕ) → branching_null d (other retold ps w) f on then_to else_to ≡ mapped started (branching_null d w f on then_to else_to)
  unfolding branching_null
  branches_null w f on then_to else_to = simp (branching_null, parts, writes_register, reads_operand, reads_data, jumps)

  unbinds : (w : World) (f : Frame) (name : List ℕ) → unbinding d (other retold ps w) f name ≡ mapped started (unbinding d w f name)
  unbinds w f name = simp parts

  -- ** what comes down

  gives_emission : (w : World) (e : Emission) (ts : List PlanEntry) (rest : List Task) (given : Option Value) → down_to_emission d (other retold ps w) e ts rest given ≡ mapped remaining (down_to_emission d w e ts rest given)
  unfolding down_to_emission
  gives_emission w e ts rest given = simp (down_to_emission, parts, collects)

  keeps_source : (w : World) (source : ℕ) (given : Option Value) → kept_source (other retold ps w) source given ≡ mapped (other retold ps) (kept_source w source given)
  keeps_source w source (Some (values.bool keep)) = refl
  keeps_source w source None = refl
  keeps_source w source (Some (values.whole kind n)) = refl
  keeps_source w source (Some (values.text s)) = refl
  keeps_source w source (Some (values.enum type n)) = refl
  keeps_source w source (Some (values.flags type bits)) = refl
  keeps_source w source (Some (values.object o)) = refl

  gives_source : (w : World) (source : ℕ) (rest : List Task) (given : Option Value) → down_to_source (other retold ps w) source rest given ≡ mapped remaining (down_to_source w source rest given)
  unfolding down_to_source
  gives_source w source rest given = simp (down_to_source, parts, keeps_source, mapped_before)

  gives_down : (w : World) (rest : List Task) (given : Option Value) → given_down d (other retold ps w) rest given ≡ mapped remaining (given_down d w rest given)
  gives_down w (Emitting e turns ∷ rest) given = gives_emission w e turns rest given
  gives_down w (Answering source ∷ rest) given = gives_source w source rest given
  gives_down w rest None = refl
  gives_down w rest (Some v) = refl

  tells_result : (w : World) (by_event : Bool) (v : Option Value) → told d (other retold ps w) by_event v ≡ other retold ps (told d w by_event v)
  tells_result w by_event None = refl
  tells_result w false (Some v) = refl
  tells_result w true (Some v) = ap (λ (x : World). record x { result = Some v }) (said_result w v)

  ends_emission : (w : World) (e : Emission) (rest : List Task) → ending d (other retold ps w) e rest ≡ mapped remaining (ending d w e rest)
  unfolding ending
  ends_emission w e rest = simp (ending, parts, results, tells_result)

  says_returned : (w : World) (f : Frame) (from : Option ℕ) → returned d (other retold ps w) f from ≡ returned d w f from
  unfolding returned
  says_returned w f from = refl

  returns : (w : World) (f : Frame) (rest : List Task) (from : Option ℕ) → returning d (other retold ps w) f rest from ≡ mapped remaining (returning d w f rest from)
  unfolding returning
  returns w f rest from = simp (returning, parts, says_returned, gives_down)

  puts_in_front : (rest : List Task) (a : Answer Started) → in_front rest (mapped started a) ≡ mapped remaining (in_front rest a)
  unfolding in_front
  puts_in_front rest (Ok s) = refl
  puts_in_front rest (Err arm) = refl

  begins : (w : World) (rest : List Task) (a b : Answer Started) → a ≡ mapped started b → in_front rest a ≡ mapped remaining (in_front rest b)
  begins w rest a b same = ap (in_front rest) same ∙ puts_in_front rest b

  pub instructs_all : (w : World) (rest : List Task) (f : Frame) (i : Instruction) → instruction_meets_peers d w f i ≡ false → instruction_step d (other retold ps w) rest f i ≡ mapped remaining (instruction_step d w rest f i)
  instructs_all w rest f (words.const to kind v) none = begins w rest (constant (other retold ps w) f to v) (constant w f to v) (writes_register w to (Some v) f)
  instructs_all w rest f (words.move to from) none = begins w rest (moving (other retold ps w) f to from) (moving w f to from) (moves w f to from)
  instructs_all w rest f (words.clear to) none = begins w rest (clearing (other retold ps w) f to) (clearing w f to) (writes_register w to None f)
  instructs_all w rest f (words.arithmetic operation to a b) none = begins w rest (reckoning (other retold ps w) f operation to a b) (reckoning w f operation to a b) (reckons w f operation to a b)
  instructs_all w rest f (words.compare comparison to a b) none = begins w rest (comparing (other retold ps w) f comparison to a b) (comparing w f comparison to a b) (compares w f comparison to a b)
  instructs_all w rest f (words.same to a b) none = begins w rest (sameness (other retold ps w) f to a b) (sameness w f to a b) (tells_same w f to a b)
  instructs_all w rest f (words.negate to a) none = begins w rest (negating (other retold ps w) f to a) (negating w f to a) (negates w f to a)
  instructs_all w rest f (words.both to a b) none = begins w rest (conjunction (other retold ps w) f to a b) (conjunction w f to a b) (joins_both w f to a b)
  instructs_all w rest f (words.either to a b) none = begins w rest (disjunction (other retold ps w) f to a b) (disjunction w f to a b) (joins_either w f to a b)
  instructs_all w rest f (words.join to a b) none = begins w rest (joining d (other retold ps w) f to a b) (joining d w f to a b) (joins w f to a b)
  instructs_all w rest f (words.convert to a kind) none = begins w rest (converting d (other retold ps w) f to a kind) (converting d w f to a kind) (converts w f to a kind)
  instructs_all w rest f (words.get to object name) none = begins w rest (get_property d (other retold ps w) f to object name) (get_property d w f to object name) (gets w f to object name)
  instructs_all w rest f (words.set object name from) none = begins w rest (set_property d (other retold ps w) f object name from) (set_property d w f object name from) (assigns w f object name from)
  instructs_all w rest f (words.object to id) none = begins w rest (look_up_object d (other retold ps w) f to id) (look_up_object d w f to id) (names w f to id)
  instructs_all w rest f (words.new to id) none = begins w rest (creating d (other retold ps w) rest f to id) (creating d w rest f to id) (creates w rest f to id none)
  instructs_all w rest f (words.sink object) none = begins w rest (sinking (other retold ps w) f object) (sinking w f object) (sinks w f object)
  instructs_all w rest f (words.orphan object) none = begins w rest (orphaning d (other retold ps w) f object) (orphaning d w f object) (orphans_of w f object)
  instructs_all w rest f (words.dispose object) none = begins w rest (disposing d (other retold ps w) f object) (disposing d w f object) (disposes_of w f object none)
  instructs_all w rest f (words.adopt to parent child) none = begins w rest (adopting d (other retold ps w) f to parent child) (adopting d w f to parent child) (adopts_of w f to parent child)
  instructs_all w rest f (words.freeze object) none = begins w rest (freezing (other retold ps w) f object) (freezing w f object) (freezes w f object)
  instructs_all w rest f (words.thaw object) none = begins w rest (thaw_notify (other retold ps w) f object) (thaw_notify w f object) (unfreezes w f object)
  instructs_all w rest f (words.emit into object name detail args) none = begins w rest (emitting d (other retold ps w) f object (record { into = into; signal = name; detail = detail; args = args })) (emitting d w f object (record { into = into; signal = name; detail = detail; args = args })) (emits w f object (record { into = into; signal = name; detail = detail; args = args }))
  instructs_all w rest f (words.notify object name) none = begins w rest (notify_from_program d (other retold ps w) f object name) (notify_from_program d w f object name) (tells_of w f object name)
  instructs_all w rest f (words.connect to object c) none = begins w rest (connecting d (other retold ps w) rest f to object c) (connecting d w rest f to object c) (connects_of w rest f to object c)
  instructs_all w rest f (words.disconnect object program) none = begins w rest (disconnecting d (other retold ps w) f object program) (disconnecting d w f object program) (disconnects w f object program)
  instructs_all w rest f (words.block object program) none = begins w rest (blocking d (other retold ps w) f object program) (blocking d w f object program) (blocks_of w f object program)
  instructs_all w rest f (words.unblock object program) none = begins w rest (unblocking d (other retold ps w) f object program) (unblocking d w f object program) (unblocks_of w f object program)
  instructs_all w rest f words.stop none = refl
  instructs_all w rest f (words.unbind name) none = begins w rest (unbinding d (other retold ps w) f name) (unbinding d w f name) (unbinds w f name)
  instructs_all w rest f (words.idle to program priority with) none = begins w rest (attaching d (other retold ps w) f to (record { word = codes "idle"; program = program; priority = priority; interval = None; with = with })) (attaching d w f to (record { word = codes "idle"; program = program; priority = priority; interval = None; with = with })) (attaches w f to (record { word = codes "idle"; program = program; priority = priority; interval = None; with = with }))
  instructs_all w rest f (words.timeout to program priority interval with) none = begins w rest (attaching d (other retold ps w) f to (record { word = codes "timeout"; program = program; priority = priority; interval = Some interval; with = with })) (attaching d w f to (record { word = codes "timeout"; program = program; priority = priority; interval = Some interval; with = with })) (attaches w f to (record { word = codes "timeout"; program = program; priority = priority; interval = Some interval; with = with }))
  instructs_all w rest f (words.remove program) none = begins w rest (removing d (other retold ps w) f program) (removing d w f program) (removes w f program)
  instructs_all w rest f (words.call to object name args) none = absurd (cc)
  instructs_all w rest f (words.jump to) none = begins w rest (jumping d (other retold ps w) f to) (jumping d w f to) (jumps w f to)
  instructs_all w rest f (words.branch on then_to else_to) none = begins w rest (branching d (other retold ps w) f on then_to else_to) (branching d w f on then_to else_to) (branches w f on then_to else_to)
  instructs_all w rest f (words.branch_null on then_to else_to) none = begins w rest (branching_null d (other retold ps w) f on then_to else_to) (branching_null d w f on then_to else_to) (branches_null w f on then_to else_to)
  instructs_all w rest f (words.return from) none = returns w f rest from

  pub runs_on : (w : World) (rest : List Task) (f : Frame) → block_meets_peers d w f (block_in d f) ≡ false → running d (other retold ps w) rest f ≡ mapped remaining (running d w rest f)
  unfolding running
  runs_on w rest f none = by_block (block_in d f) none
    where
      next : World → Frame → Option Instruction → Answer Left
      next v g o = known arms.Code o >>= λ (i : Instruction). instruction_step d v rest g i

      by_next : (g : Frame) (o : Option Instruction) → next_meets_peers d w g o ≡ false → next (other retold ps w) g o ≡ mapped remaining (next w g o)
      by_next g None n = refl
      by_next g (Some i) n = instructs_all w rest g i n

      at : World → Answer Block → Answer Left
      at v block = block >>= λ (b : Block). next v (past (in_pass b f)) (slice_get b.code (in_pass b f).at)

      by_block : (block : Answer Block) → block_meets_peers d w f block ≡ false → at (other retold ps w) block ≡ mapped remaining (at w block)
      by_block (Err arm) n = refl
      by_block (Ok b) n = by_next (past (in_pass b f)) (slice_get b.code (in_pass b f).at) n

  -- ** constructions and the build

  makes_set : (w : World) (id slot : ℕ) (v : Value) (tasks : List Task) → apply_construct_property d (other retold ps w) id slot v tasks ≡ mapped started (apply_construct_property d w id slot v tasks)
  unfolding apply_construct_property
  makes_set w id slot v tasks = simp (apply_construct_property, parts)

  is_constructed : (w : World) (id : ℕ) (held : Bool) → constructed (other retold ps w) id held ≡ mapped started (constructed w id held)
  unfolding constructed
  is_constructed w id false = refl
  is_constructed w id true = simp (constructed, parts)

  thaws_made : (w : World) (id : ℕ) (steps : List ConstructStep) (held : Bool) → thawing_made (other retold ps w) id steps held ≡ mapped started (thawing_made w id steps held)
  unfolding thawing_made
  thaws_made w id steps held = simp (thawing_made, parts)

  constructs : (w : World) (id : ℕ) (steps : List ConstructStep) (held : Bool) → constructing d (other retold ps w) id steps held ≡ mapped started (constructing d w id steps held)
  constructs w id [] held = is_constructed w id held
  constructs w id (sets slot v ∷ steps) held = makes_set w id slot v (Constructing id steps held ∷ [])
  constructs w id (runs program ∷ steps) held = runs_before w program (values.object (Some id) ∷ []) (Constructing id steps held ∷ [])
  constructs w id (thaws ∷ steps) held = thaws_made w id steps held

  builds_object : (w : World) (place : ℕ) (items : List Item) → wants_peer d (place_at d place) ≡ false → building_object d (other retold ps w) place items ≡ mapped started (building_object d w place items)
  unfolding building_object
  builds_object w place items none = by (place_at d place) none
    where
      made : World → Option ℕ → Answer Started
      made v peer = making d v place peer true >>= λ (m : Started). starts m.world (m.tasks ++ Building items ∷ [])

      asked : World → Bool → Option ℕ → Answer Started
      asked v shaped first = only_if (same_bool shaped (is_some first)) arms.Code (Ok first) >>= λ peer. made v peer

      at : World → Option Place → Answer Started
      at v o = known arms.Code o >>= λ (p : Place). peer_for d v p >>= λ peer. made v peer

      by_names : (shaped : Bool) (names : List (List ℕ)) → (shaped || are_named names) ≡ false → asked (other retold ps w) shaped (first_peer ps names) ≡ mapped started (asked w shaped (first_peer w.peers names))
      by_names true names n = absurd (cc)
      by_names false (name ∷ names) n = absurd (cc)
      by_names false [] n = simp (parts, makes_object, mapped_before)

      by : (o : Option Place) → wants_peer d o ≡ false → at (other retold ps w) o ≡ mapped started (at w o)
      by None n = refl
      by (Some p) n = by_names (has_shape d p.class) p.peers n

  builds_child : (w : World) (place : ℕ) (items : List Item) → building_child d (other retold ps w) place items ≡ mapped started (building_child d w place items)
  unfolding building_child
  builds_child w place items = simp (building_child, mapped_then, adopts_one, mapped_before)

  sets_forward : (w : World) (id slot to : ℕ) (items : List Item) → set_forward (other retold ps w) id slot to items ≡ mapped started (set_forward w id slot to items)
  unfolding set_forward
  sets_forward w id slot to items = simp (set_forward, parts)

  builds_forward : (w : World) (place slot to : ℕ) (items : List Item) → building_forward d (other retold ps w) place slot to items ≡ mapped started (building_forward d w place slot to items)
  unfolding building_forward
  builds_forward w place slot to items = simp (building_forward, parts, sets_forward)

  builds_binding : (w : World) (number : ℕ) (items : List Item) → building_binding d (other retold ps w) number items ≡ mapped started (building_binding d w number items)
  unfolding building_binding
  builds_binding w number items = simp (building_binding, parts)

  finds_data : (w : World) (place : Option ℕ) → held_data (other retold ps w) place ≡ held_data w place
  unfolding held_data
  finds_data w None = refl
  finds_data w (Some place) = refl

  connects_signal : (w : World) (c : Connection) → with_signal (other retold ps w) c ≡ other retold ps (with_signal w c)
  connects_signal w c = by_late (is_too_late w.objects c.object c.arg)
    where
      by_late : (late : Bool) → cond late (other retold ps w) (other retold ps (with_handler w c)) ≡ other retold ps (cond late w (with_handler w c))
      by_late true = refl
      by_late false = refl

  builds_handler : (w : World) (place number : ℕ) (items : List Item) → building_handler d (other retold ps w) place number items ≡ mapped started (building_handler d w place number items)
  unfolding building_handler
  builds_handler w place number items = simp (building_handler, parts, finds_data, connects_signal)

  builds : (w : World) (items : List Item) → items_meet_peers d items ≡ false → building d (other retold ps w) items ≡ mapped started (building d w items)
  builds w [] none = refl
  builds w (makes place ∷ items) none = builds_object w place items none
  builds w (adopts place ∷ items) none = builds_child w place items
  builds w (forwards place slot to ∷ items) none = builds_forward w place slot to items
  builds w (binds number ∷ items) none = builds_binding w number items
  builds w (connects place number ∷ items) none = builds_handler w place number items

  -- ** requests and sources

  finds_given : (w : World) (given : Given) → given_value (other retold ps w) given ≡ given_value w given
  finds_given w (places.value v) = refl
  finds_given w (places.named to) = refl

  finds_givens : (w : World) (given : List Given) → given_values (other retold ps w) given ≡ given_values w given
  unfolding given_values
  finds_givens w [] = refl
  finds_givens w (g ∷ gs) = simp (given_values, finds_given, finds_givens w gs)

  sets_given : (w : World) (id slot : ℕ) (given : Given) → set_given (other retold ps w) id slot given ≡ mapped started (set_given w id slot given)
  unfolding set_given
  sets_given w id slot given = simp (set_given, parts, finds_given)

  carries_set : (w : World) (place slot : ℕ) (given : Given) → set_from_event d (other retold ps w) place slot given ≡ mapped started (set_from_event d w place slot given)
  unfolding set_from_event
  carries_set w place slot given = simp (set_from_event, parts, sets_given)

  says_answer : (w : World) (id : ℕ) (name : List ℕ) (v : Value) → with_result (said d (other retold ps w) (lines.get id name v)) v ≡ other retold ps (with_result (said d w (lines.get id name v)) v)
  says_answer w id name v = ap (λ x. with_result x v) (said_get w id name v)

  says_held : (w : World) (id : List ℕ) (place : ℕ) (held : BuilderEntry) → with_builder_entry (said d (other retold ps w) (lines.release id)) place held ≡ other retold ps (with_builder_entry (said d w (lines.release id)) place held)
  says_held w id place held = ap (λ x. with_builder_entry x place held) (said_release w id)

  carries_get : (w : World) (place slot : ℕ) → get_from_event d (other retold ps w) place slot ≡ mapped started (get_from_event d w place slot)
  unfolding get_from_event
  carries_get w place slot = simp (get_from_event, mapped_then, mapped_if, says_answer)

  carries_emit : (w : World) (place signal : ℕ) (args : List Given) (detail : Option (List ℕ)) → emit_from_event d (other retold ps w) place signal args detail ≡ mapped started (emit_from_event d w place signal args detail)
  unfolding emit_from_event
  carries_emit w place signal args detail = simp (emit_from_event, parts, finds_detail, finds_givens)

  carries_release : (w : World) (place : ℕ) → release_from_event d (other retold ps w) place ≡ mapped started (release_from_event d w place)
  unfolding release_from_event
  carries_release w place = simp (release_from_event, mapped_then, says_held)

  carries_request : (w : World) (r : Request) → request_step d (other retold ps w) r ≡ mapped started (request_step d w r)
  carries_request w (config.set place slot given) = carries_set w place slot given
  carries_request w (config.get place slot) = carries_get w place slot
  carries_request w (config.emit place signal args detail) = carries_emit w place signal args detail
  carries_request w (config.release place) = carries_release w place

  runs_source : (w : World) (source : ℕ) → sourcing d (other retold ps w) source ≡ mapped started (sourcing d w source)
  unfolding sourcing
  runs_source w source = simp (sourcing, parts, runs_before)

  thaws_rest : (w : World) (id : ℕ) (slots : List ℕ) → thawing (other retold ps w) id slots ≡ mapped started (thawing w id slots)
  thaws_rest w id [] = refl
  thaws_rest w id (slot ∷ slots) = refl

  -- ** steps

  not_counted : (rest : List Task) (n : ℕ) (a b : Answer Started) → a ≡ mapped started b → uncounted rest n a ≡ mapped (other_at retold ps) (uncounted rest n b)
  not_counted rest n a (Ok s) same = ap (uncounted rest n) same
  not_counted rest n a (Err arm) same = ap (uncounted rest n) same

  is_counted : (rest : List Task) (n : ℕ) (a b : Answer Started) → a ≡ mapped started b → counted rest n a ≡ mapped (other_at retold ps) (counted rest n b)
  is_counted rest n a b same =
      ap (only_if (nat_lt n most_steps) arms.Steps) (not_counted rest (suc n) a b same)
      ∙ sym (mapped_if (other_at retold ps) (nat_lt n most_steps) arms.Steps (uncounted rest (suc n) b))

  leaves_agenda : (n : ℕ) (a b : Answer Left) → a ≡ mapped remaining b → left n a ≡ mapped (other_at retold ps) (left n b)
  unfolding left
  leaves_agenda n a (Ok l) same = ap (left n) same
  leaves_agenda n a (Err arm) same = ap (left n) same

  leaves_counted : (n : ℕ) (a b : Answer Left) → a ≡ mapped remaining b → counted_left n a ≡ mapped (other_at retold ps) (counted_left n b)
  leaves_counted n a b same =
      ap (only_if (nat_lt n most_steps) arms.Steps) (leaves_agenda (suc n) a b same)
      ∙ sym (mapped_if (other_at retold ps) (nat_lt n most_steps) arms.Steps (left (suc n) b))

  settles_floating : (w : World) (ids : List ℕ) → sink_first_floating (other retold ps w) ids ≡ other retold ps (sink_first_floating w ids)
  settles_floating w [] = refl
  settles_floating w (id ∷ ids) = refl

  is_finalised : (w : World) (id : ℕ) → peer_of (living w.objects id) ≡ None → finalising d (other retold ps w) id ≡ mapped started (finalising d w id)
  unfolding finalising
  is_finalised w id none = simp (finalising, parts, finalises w id none, mapped_before)

  pub acts : (w : World) (reply : Option Reply) (tasks : List Task) (n : ℕ) → tasks_meet_peers d w tasks ≡ false → act d (other retold ps w) reply tasks n ≡ mapped (other_at retold ps) (act d w reply tasks n)
  acts w reply [] n none = ap (λ v. Ok (record { world = v; agenda = []; counted = n })) (settles_floating w w.floating)
  acts w reply (Setting id slot v ∷ rest) n none = not_counted rest n (setting d (other retold ps w) id slot v) (setting d w id slot v) (sets_one w id slot v)
  acts w reply (Notifying id slot ∷ rest) n none = is_counted rest n (notifying d (other retold ps w) id slot) (notifying d w id slot) (notifies w id slot)
  acts w reply (Beginning e ∷ rest) n none = is_counted rest n (beginning_emission d (other retold ps w) e) (beginning_emission d w e) (begins_emission w e)
  acts w reply (Emitting e [] ∷ rest) n none = leaves_agenda n (ending d (other retold ps w) e rest) (ending d w e rest) (ends_emission w e rest)
  acts w reply (Emitting e (t ∷ ts) ∷ rest) n none = not_counted rest n (taking_entry d (other retold ps w) e ts t) (taking_entry d w e ts t) (takes w e ts t)
  acts w reply (Transferring number back ∷ rest) n none = is_counted rest n (transferring d (other retold ps w) number back) (transferring d w number back) (carries_by w back (binding_of number w.bindings))
  acts w reply (Unsetting number ∷ rest) n none = refl
  acts w reply (Thawing id slots ∷ rest) n none = not_counted rest n (thawing (other retold ps w) id slots) (thawing w id slots) (thaws_rest w id slots)
  acts w reply (Running f ∷ rest) n none = leaves_counted n (running d (other retold ps w) rest f) (running d w rest f) (runs_on w rest f none)
  acts w reply (Answering source ∷ rest) n none = refl
  acts w reply (Calling c ∷ rest) n none = absurd (cc)
  acts w reply (Constructing id steps held ∷ rest) n none = not_counted rest n (constructing d (other retold ps w) id steps held) (constructing d w id steps held) (constructs w id steps held)
  acts w reply (Building items ∷ rest) n none = not_counted rest n (building d (other retold ps w) items) (building d w items) (builds w items none)
  acts w reply (Handling r ∷ rest) n none = not_counted rest n (request_step d (other retold ps w) r) (request_step d w r) (carries_request w r)
  acts w reply (Due source ∷ rest) n none = not_counted rest n (sourcing d (other retold ps w) source) (sourcing d w source) (runs_source w source)

  pub steps_first : (reply : Option Reply) (c : Config) (id : Option ℕ) → first_meets_peers d c id ≡ false → first_of d reply (other_at retold ps c) id ≡ mapped (other_at retold ps) (first_of d reply c id)
  steps_first reply c None none = acts c.world reply c.agenda c.counted none
  steps_first reply c (Some id) none =
      is_counted c.agenda c.counted (finalising d (other retold ps c.world) id) (finalising d c.world id) (is_finalised c.world id (none_there (peer_of (living c.world.objects id)) none))
