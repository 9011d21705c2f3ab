-- What is kept by each change is so after each task.
use Rattle.std.proofs.Common.{◌≡◌, refl, ℕ, suc, Bool, true, false, cond, List, [], ◌∷◌, Option, None, Some, Ok, Err}
use Rattle.std.specs.Prelude.{IfOk, nat_lt, slice_get}
use Rattle.ui_machine.specs.declared.arm.Arm.TheVariants as arms
use Rattle.ui_machine.specs.Definition.{Definition}
use Rattle.ui_machine.specs.Definition.Lookups.{place_at}
use Rattle.ui_machine.specs.Definition.Values.{Value}
use Rattle.ui_machine.specs.Instructions.{running}
use Rattle.ui_machine.specs.Instructions.Peers.{called, calling_on, left_with, replied, uncalled, with_method}
use Rattle.ui_machine.specs.Outcome.{After, Answer, known, ◌>>=◌}
use Rattle.ui_machine.specs.Rules.Accumulation.{ending, passed_down, received, resulting, running_handler, taking_entry, told}
use Rattle.ui_machine.specs.Rules.Build.{building, building_binding, building_child, building_forward, building_handler, building_object, connection, held_data, held_object, peer_for, set_forward}
use Rattle.ui_machine.specs.Rules.Children.{adopted}
use Rattle.ui_machine.specs.Rules.Connections.{Connection, detail_at, is_too_late, signal_number, with_handler}
use Rattle.ui_machine.specs.Rules.Construction.{apply_construct_property, constructed, constructing, making, thawing_made}
use Rattle.ui_machine.specs.Rules.Disposal.{finalised}
use Rattle.ui_machine.specs.Rules.EmissionPlan.{beginning_emission, notifying}
use Rattle.ui_machine.specs.Rules.Events.{emit_from_event, get_from_event, release_from_event, request_step, set_from_event, set_given}
use Rattle.ui_machine.specs.Rules.MainLoop.{source_data, sourcing}
use Rattle.ui_machine.specs.Rules.NotifyQueue.{frozen_less, thawing}
use Rattle.ui_machine.specs.Rules.Programs.{beginning_program, program_before}
use Rattle.ui_machine.specs.Rules.Sets.{raising_if, setting, written}
use Rattle.ui_machine.specs.Rules.Transfers.{End, carried, carried_by, set_by, source_end, target_end, transferring}
use Rattle.ui_machine.specs.State.Bindings.{Binding, binding_of}
use Rattle.ui_machine.specs.State.Config.{Config, Left, Started, World, is_asked, peer_at}
use Rattle.ui_machine.specs.State.Handlers.{Handler, handler_of}
use Rattle.ui_machine.specs.State.Objects.{Objects, changed, with_value}
use Rattle.ui_machine.specs.State.Peers.{Reply, method_of}
use Rattle.ui_machine.specs.State.References.{mentions, next_unheld}
use Rattle.ui_machine.specs.State.Sources.{source_of}
use Rattle.ui_machine.specs.State.Tasks.{Answering, Beginning, Building, Call, Calling, ConstructStep, Constructing, Due, Emission, Emitting, Handling, Item, Notifying, PlanEntry, Request, Running, Setting, Task, Thawing, Transferring, Unsetting, class_handler, handler}
use Rattle.ui_machine.specs.State.Tasks as config
use Rattle.ui_machine.specs.Runs.{Step}
use Rattle.ui_machine.specs.Steps.{act, counted, finalising, first_of, left, most_steps, sink_first_floating, step, uncounted}
use Rattle.machine_laws.proofs.KeptProofs.{bind_keeps, cond_keeps, kept_at, only_keeps}
use Rattle.law_held_peers.proofs.Changes.{bind_kept, known_is}
use Rattle.law_held_peers.proofs.Keeping.{Keeping}
use Rattle.law_held_peers.proofs.PartProofs.{Kept, adopted_kept, finalised_kept, makes_kept, raises_kept, thawed_kept, written_kept}
use Rattle.law_held_peers.proofs.InstructionProofs.{running_kept}

module _ (K : Keeping) (d : Definition) (w : World) (holds : Kept K w) where
  -- so it is where a task starts others, or leaves an agenda
  abbrev Begins : Started → Type 0
  Begins s = Kept K s.world

  abbrev Leaves : Left → Type 0
  Leaves l = Kept K l.world

  -- ** sets and emissions

  raises_if : (b : Bool) (v : World) → Kept K v → (id slot : ℕ) → IfOk (raising_if b v id slot) Begins
  raises_if true v now id slot = raises_kept K v now id slot
  raises_if false v now id slot = now

  writes : (id slot : ℕ) (v : Value) → (f : After Objects Value → Answer Started) →
      ((r : After Objects Value) → K.Holds r.state w.peers → IfOk (f r) Begins) → IfOk (changed w.objects id (with_value slot v) >>= f) Begins
  writes id slot v f so = bind_kept (λ (r : After Objects Value). K.Holds r.state w.peers) (changed w.objects id (with_value slot v)) f Begins (written_kept K w holds id slot v) so

  sets_one : (id slot : ℕ) (v : Value) → IfOk (setting d w id slot v) Begins
  unfolding setting written
  sets_one id slot v = search (bind_keeps, only_keeps, cond_keeps, raises_if, writes) depth 8

  notifies_one : (id slot : ℕ) → IfOk (notifying d w id slot) Begins
  unfolding notifying
  notifies_one id slot = search bind_keeps

  begins_emission : (e : Emission) → IfOk (beginning_emission d w e) Begins
  unfolding beginning_emission
  begins_emission e = search (bind_keeps, only_keeps)

  begins_program : (number : ℕ) (args : List Value) → IfOk (beginning_program d w number args) Begins
  unfolding beginning_program
  begins_program number args = search (bind_keeps, only_keeps)

  runs_before : (number : ℕ) (args : List Value) (tasks : List Task) → IfOk (program_before d w number args tasks) Begins
  unfolding program_before
  runs_before number args tasks = bind_kept Begins (beginning_program d w number args) _ Begins (begins_program number args) (λ s x. x)

  turns : (e : Emission) (entries : List PlanEntry) (o : Option Handler) → IfOk (running_handler d w e entries o) Begins
  turns e entries None = holds
  turns e entries (Some h) = cond_keeps (nat_lt 0 h.blocks) _ _ Begins holds (runs_before _ _ _)

  takes : (e : Emission) (entries : List PlanEntry) (entry : PlanEntry) → IfOk (taking_entry d w e entries entry) Begins
  takes e entries (class_handler program cleanup) = runs_before program _ _
  takes e entries (handler number) = turns e entries (handler_of number w.handlers)
  takes e entries (config.transfer number back) = holds

  tells : (b : Bool) (v : Option Value) → Kept K (told d w b v)
  tells b None = holds
  tells false (Some v) = holds
  tells true (Some v) = holds

  ends_emission : (e : Emission) (rest : List Task) → IfOk (ending d w e rest) Leaves
  unfolding ending
  ends_emission e rest = bind_keeps (resulting d w e) _ Leaves (λ v _. bind_keeps (passed_down rest v) _ Leaves (λ agenda _. tells e.by_event v))

  -- ** transfers

  sets_by : (number : ℕ) (end : End) (v : Option Value) → IfOk (set_by w number end v) Begins
  sets_by number end None = holds
  sets_by number end (Some v) = holds

  carries : (b : Binding) (source target : End) → IfOk (carried d w b source target) Begins
  unfolding carried
  carries b source target = search (bind_keeps, only_keeps, sets_by) depth 8

  carries_by : (back : Bool) (b : Option Binding) → IfOk (carried_by d w back b) Begins
  carries_by back None = holds
  carries_by false (Some b) = carries b (source_end b) (target_end b)
  carries_by true (Some b) = carries b (target_end b) (source_end b)

  -- ** constructions and the build

  thaws_rest : (id : ℕ) (slots : List ℕ) → IfOk (thawing w id slots) Begins
  thaws_rest id [] = holds
  thaws_rest id (slot ∷ slots) = holds

  thaws_made : (id : ℕ) (steps : List ConstructStep) (held : Bool) → IfOk (thawing_made w id steps held) Begins
  unfolding thawing_made
  thaws_made id steps held = bind_kept (λ (r : After Objects (List ℕ)). K.Holds r.state w.peers) (changed w.objects id frozen_less) _ Begins (thawed_kept K w holds id) (λ r x. x)

  constructs : (id : ℕ) (steps : List ConstructStep) (held : Bool) → IfOk (constructing d w id steps held) Begins
  unfolding constructed apply_construct_property
  constructs id [] true = search (bind_keeps, only_keeps)
  constructs id [] false = holds
  constructs id (config.sets slot v ∷ steps) held = search (bind_keeps, only_keeps)
  constructs id (config.runs program ∷ steps) held = runs_before program _ _
  constructs id (config.thaws ∷ steps) held = thaws_made id steps held

  builds_object : (place : ℕ) (items : List Item) → IfOk (building_object d w place items) Begins
  unfolding building_object
  builds_object place items = bind_keeps (known arms.Code (place_at d place)) _ Begins (λ p _. bind_keeps (peer_for d w p) _ Begins (λ peer _.
      bind_kept Begins (making d w place peer true) _ Begins (makes_kept K d w holds place peer true) (λ s x. x)))

  builds_child : (place : ℕ) (items : List Item) → IfOk (building_child d w place items) Begins
  unfolding building_child
  builds_child place items = bind_keeps (known arms.Code (place_at d place)) _ Begins (λ p _. bind_keeps (known arms.Code p.parent) _ Begins (λ above _.
      bind_keeps (held_object w above) _ Begins (λ parent _. bind_keeps (held_object w place) _ Begins (λ child _.
      bind_kept (λ (r : After World Bool). Kept K r.state) (adopted d w parent child) _ Begins (adopted_kept K d w holds parent child) (λ family x. x)))))

  connects_signal : (late : Bool) (c : Connection) → Kept K (cond late w (with_handler w c))
  connects_signal true c = holds
  connects_signal false c = holds

  builds_handler : (place number : ℕ) (items : List Item) → IfOk (building_handler d w place number items) Begins
  unfolding building_handler
  builds_handler place number items = bind_keeps (known arms.Code (place_at d place)) _ Begins (λ p _. bind_keeps (known arms.Code (slice_get p.signals number)) _ Begins (λ a _.
      bind_keeps (held_object w place) _ Begins (λ id _. bind_keeps (held_data w a.with) _ Begins (λ arg _. bind_keeps (known arms.Code (signal_number d p.class a.signal)) _ Begins (λ signal _.
      bind_keeps (detail_at d p.class signal a.detail) _ Begins (λ detail _.
      connects_signal (is_too_late w.objects id arg) (connection id signal detail a arg)))))))

  builds : (items : List Item) → IfOk (building d w items) Begins
  unfolding building_forward set_forward building_binding
  builds [] = holds
  builds (config.makes place ∷ items) = builds_object place items
  builds (config.adopts place ∷ items) = builds_child place items
  builds (config.forwards place slot to ∷ items) = search (bind_keeps, only_keeps) depth 8
  builds (config.binds number ∷ items) = search (bind_keeps, cond_keeps) depth 8
  builds (config.connects place number ∷ items) = builds_handler place number items

  -- ** requests, sources and calls

  carries_request : (r : Request) → IfOk (request_step d w r) Begins
  unfolding set_from_event set_given get_from_event emit_from_event release_from_event
  carries_request (config.set place slot given) = search (bind_keeps, only_keeps)
  carries_request (config.get place slot) = search (bind_keeps, only_keeps)
  carries_request (config.emit place signal args detail) = search bind_keeps
  carries_request (config.release place) = search bind_keeps

  runs_source : (source : ℕ) → IfOk (sourcing d w source) Begins
  unfolding sourcing
  runs_source source = bind_keeps (known arms.Code (source_of source w.sources)) _ Begins (λ s _. runs_before s.program (source_data s.arg) _)

  left_one : (v : World) → Kept K v → (rest : List Task) (to : ℕ) (x : Value) → IfOk (left_with v rest to x) Leaves
  unfolding left_with
  left_one v now rest to x = bind_keeps (received rest to (Some x)) _ Leaves (λ agenda _. now)

  is_called : (call : Call) (rest : List Task) → is_asked w call.peer ≡ true → (reply : Reply) → IfOk (called d w call rest reply) Leaves
  unfolding called with_method
  is_called call rest opened reply = bind_keeps (known arms.Call (peer_at w call.peer)) _ Leaves (λ p there. bind_keeps (known arms.Call (method_of p call.method)) _ Leaves (λ m _.
      left_one _ (K.replies w.objects w.peers call.peer p reply.state (known_is arms.Call (peer_at w call.peer) p there) opened holds) rest call.to _))

  is_uncalled : (call : Call) (rest : List Task) → IfOk (uncalled d w call rest) Leaves
  unfolding uncalled with_method
  is_uncalled call rest = bind_keeps (known arms.Call (peer_at w call.peer)) _ Leaves (λ p _. bind_keeps (known arms.Call (method_of p call.method)) _ Leaves (λ m _.
      left_one _ holds rest call.to _))

  calls : (call : Call) (rest : List Task) (reply : Option Reply) → IfOk (calling_on d w call rest reply) Leaves
  calls call rest reply = by (is_asked w call.peer) refl reply
    where
      by : (b : Bool) → is_asked w call.peer ≡ b → (reply : Option Reply) → IfOk (cond b (replied d w call rest reply) (uncalled d w call rest)) Leaves
      by true opened None = tt
      by true opened (Some reply) = is_called call rest opened reply
      by false shut reply = is_uncalled call rest

  is_finalised : (id : ℕ) → IfOk (finalising d w id) Begins
  unfolding finalising
  is_finalised id = bind_kept (Kept K) (finalised d w id) _ Begins (finalised_kept K d w holds id) (λ v x. x)

  -- ** steps

  abbrev At : Config → Type 0
  At c = Kept K c.world

  leaves_agenda : (n : ℕ) (a : Answer Left) → IfOk a Leaves → IfOk (left n a) At
  unfolding left
  leaves_agenda n (Ok l) x = x
  leaves_agenda n (Err arm) x = tt

  sinks_first : (floating : List ℕ) → Kept K (sink_first_floating w floating)
  sinks_first [] = holds
  sinks_first (id ∷ ids) = holds

  module _ (rest : List Task) where
    not_counted : (n : ℕ) (a : Answer Started) → IfOk a Begins → IfOk (uncounted rest n a) At
    not_counted n (Ok s) x = x
    not_counted n (Err arm) x = tt

    is_counted : (n : ℕ) (a : Answer Started) → IfOk a Begins → IfOk (counted rest n a) At
    is_counted n a x = only_keeps (nat_lt n most_steps) arms.Steps (uncounted rest (suc n) a) At (not_counted (suc n) a x)

  acts : (reply : Option Reply) (tasks : List Task) (n : ℕ) → IfOk (act d w reply tasks n) At
  acts reply [] n = sinks_first w.floating
  acts reply (Setting id slot v ∷ rest) n = not_counted rest n (setting d w id slot v) (sets_one id slot v)
  acts reply (Notifying id slot ∷ rest) n = is_counted rest n (notifying d w id slot) (notifies_one id slot)
  acts reply (Beginning e ∷ rest) n = is_counted rest n (beginning_emission d w e) (begins_emission e)
  acts reply (Emitting e [] ∷ rest) n = leaves_agenda n (ending d w e rest) (ends_emission e rest)
  acts reply (Emitting e (entry ∷ entries) ∷ rest) n = not_counted rest n (taking_entry d w e entries entry) (takes e entries entry)
  acts reply (Transferring number back ∷ rest) n = is_counted rest n (transferring d w number back) (carries_by back (binding_of number w.bindings))
  acts reply (Unsetting number ∷ rest) n = holds
  acts reply (Thawing id slots ∷ rest) n = not_counted rest n (thawing w id slots) (thaws_rest id slots)
  acts reply (Running f ∷ rest) n =
      only_keeps (nat_lt n most_steps) arms.Steps (left (suc n) (running d w rest f)) At
      (leaves_agenda (suc n) (running d w rest f) (running_kept K d w holds rest f))
  acts reply (Answering source ∷ rest) n = tt
  acts reply (Calling call ∷ rest) n = leaves_agenda n (calling_on d w call rest reply) (calls call rest reply)
  acts reply (Constructing id steps held ∷ rest) n = not_counted rest n (constructing d w id steps held) (constructs id steps held)
  acts reply (Building items ∷ rest) n = not_counted rest n (building d w items) (builds items)
  acts reply (Handling r ∷ rest) n = not_counted rest n (request_step d w r) (carries_request r)
  acts reply (Due source ∷ rest) n = not_counted rest n (sourcing d w source) (runs_source source)

  steps_first : (reply : Option Reply) (tasks : List Task) (n : ℕ) (o : Option ℕ) → IfOk (first_of d reply (record { world = w; agenda = tasks; counted = n }) o) At
  steps_first reply tasks n None = acts reply tasks n
  steps_first reply tasks n (Some id) = is_counted tasks n (finalising d w id) (is_finalised id)

-- each step keeps it
pub step_keeps : (K : Keeping) (d : Definition) (reply : Option Reply) (c e : Config) → Step d reply c e → Kept K c.world → Kept K e.world
step_keeps K d reply c e s holds =
    kept_at (λ (x : Config). Kept K x.world) (step d reply c) e (steps_first K d c.world holds reply c.agenda c.counted (next_unheld (mentions d c) c.world.objects)) s.leads
