-- A step leaves objects with short peers, and tasks that are short as they become due.
use Rattle.std.proofs.Common.{◌≡◌, ℕ, suc, Bool, true, false, cond, List, [], ◌∷◌, ◌++◌, Option, None, Some, Ok, Err, ◌||◌}
use Rattle.std.specs.Prelude.{IfOk, IfSome, ⊤, is_some, nat_lt, slice_get}
use Rattle.ui_machine.specs.declared.arm.Arm.TheVariants as arms
use Rattle.ui_machine.specs.Definition.{Definition}
use Rattle.ui_machine.specs.Definition.Lookups.{place_at}
use Rattle.ui_machine.specs.Definition.Places.{Given, Place}
use Rattle.ui_machine.specs.Definition.Values.{Value}
use Rattle.ui_machine.specs.Instructions.{running}
use Rattle.ui_machine.specs.Instructions.Peers.{called, calling_on, left_with, replied, uncalled, with_method}
use Rattle.ui_machine.specs.Outcome.{After, Answer, known, ◌>>=◌}
use Rattle.ui_machine.specs.Rules.Accumulation.{ending, passed_down, received, received_by, resulting, running_handler, taken, taking_entry, told}
use Rattle.ui_machine.specs.Rules.Build.{building, building_binding, building_child, building_forward, building_handler, building_object, connection, first_peer, first_transfer, held_data, held_object, new_binding, peer_for, set_forward, with_binding}
use Rattle.ui_machine.specs.Rules.Children.{adopted}
use Rattle.ui_machine.specs.Rules.Connections.{Connection, detail_at, detail_in, is_too_late, signal_number, with_handler}
use Rattle.ui_machine.specs.Rules.Construction.{apply_construct_property, constructed, constructing, has_shape, making, thawing_made}
use Rattle.ui_machine.specs.Rules.Disposal.{finalised}
use Rattle.ui_machine.specs.Rules.EmissionPlan.{beginning_emission, notifying}
use Rattle.ui_machine.specs.Rules.Events.{emit_from_event, get_from_event, given_values, release_from_event, request_step, set_from_event, set_given}
use Rattle.ui_machine.specs.Rules.MainLoop.{source_data, sourcing}
use Rattle.ui_machine.specs.Rules.NotifyQueue.{frozen_less, thawing}
use Rattle.ui_machine.specs.Rules.Programs.{beginning_program, program_before}
use Rattle.ui_machine.specs.Rules.Sets.{is_disposed, raising_if, setting, written}
use Rattle.ui_machine.specs.Rules.Transfers.{End, carried, carried_by, set_by, source_end, target_end, transfer_for, transferring}
use Rattle.ui_machine.specs.Rules.Transform.{same_bool}
use Rattle.ui_machine.specs.State.Bindings.{Binding, binding_of}
use Rattle.ui_machine.specs.State.Config.{Config, Left, Started, World, is_asked, peer_at, starts}
use Rattle.ui_machine.specs.State.Handlers.{Handler, handler_of}
use Rattle.ui_machine.specs.State.Objects.{Objects, changed, living, with_value}
use Rattle.ui_machine.specs.State.Peers.{Reply, method_of}
use Rattle.ui_machine.specs.State.Sources.{source_of}
use Rattle.ui_machine.specs.State.Tasks.{Answering, Beginning, Building, Call, Calling, ConstructStep, Constructing, Due, Emission, Emitting, Frame, Handling, Item, Notifying, PlanEntry, Request, Running, Setting, Task, Thawing, Transferring, Unsetting, class_handler, handler}
use Rattle.ui_machine.specs.State.Tasks as config
use Rattle.ui_machine.specs.Steps.{act, counted, finalising, first_of, left, most_steps, sink_first_floating, uncounted}
use Rattle.machine_laws.proofs.KeptProofs.{bind_keeps, cond_keeps, only_keeps}
use Rattle.law_steps.proofs.Instructed.Inverse.{known_is}
use Rattle.law_short_texts.proofs.Entries.{bind_with}
use Rattle.law_short_lines.specs.ShortParts.{HasShortDetail, HasShortDetails, HasShortPool, IsShortDetail, IsShortPeerAt}
use Rattle.law_short_lines.proofs.InstructionProofs.{Holds, Leaves, Starts, makes, raises, runs_short}
use Rattle.law_short_lines.proofs.Objects.{Have, adopts_have, finalises_have, less_have, value_have}
use Rattle.law_short_lines.proofs.PeerParts.{first_short}
use Rattle.law_short_lines.proofs.Tasks.{AreDue, detail_short, due_append}

module _ (d : Definition) (details : HasShortDetails d) (w : World) (pool : HasShortPool d w.peers) (h : Have (IsShortPeerAt d w.peers) w.objects) where
  abbrev Begins : Started → Type 0
  Begins s = Starts d w pool h s

  abbrev Ends : Left → Type 0
  Ends l = Leaves d w pool h l

  abbrev Kept : World → Type 0
  Kept v = Holds d w pool h v

  -- the objects are as before, and nothing is asked
  here : Kept w × ⊤
  here = (h, tt)

  -- ** sets and emissions

  raises_if : (b : Bool) (v : World) → Kept v → (id slot : ℕ) → IfOk (raising_if b v id slot) Begins
  raises_if true v now id slot = raises d w pool h v now id slot
  raises_if false v now id slot = (now, tt)

  writes : (id slot : ℕ) (v : Value) (f : After Objects Value → Answer Started) → ((r : After Objects Value) → Have (IsShortPeerAt d w.peers) r.state → IfOk (f r) Begins) →
      IfOk (changed w.objects id (with_value slot v) >>= f) Begins
  writes id slot v f so = bind_with (changed w.objects id (with_value slot v)) f (λ (r : After Objects Value). Have (IsShortPeerAt d w.peers) r.state) Begins
      (value_have (IsShortPeerAt d w.peers) w.objects h id slot v) so

  sets_one : (id slot : ℕ) (v : Value) → IfOk (setting d w id slot v) Begins
  unfolding setting written
  sets_one id slot v = search (bind_keeps, only_keeps, cond_keeps, raises_if, writes, here) depth 8

  notifies_one : (id slot : ℕ) → IfOk (notifying d w id slot) Begins
  unfolding notifying
  notifies_one id slot = search (bind_keeps, here)

  begins_emission : (e : Emission) → IfOk (beginning_emission d w e) Begins
  unfolding beginning_emission
  begins_emission e = search (bind_keeps, only_keeps, here)

  begins_program : (number : ℕ) (args : List Value) → IfOk (beginning_program d w number args) Begins
  unfolding beginning_program
  begins_program number args = search (bind_keeps, only_keeps, here)

  runs_before : (number : ℕ) (args : List Value) (tasks : List Task) → AreDue d w.peers tasks → IfOk (program_before d w number args tasks) Begins
  unfolding program_before
  runs_before number args tasks due = bind_with (beginning_program d w number args) _ Begins Begins (begins_program number args) (λ s now.
      (now.0, due_append d w.peers s.tasks tasks now.1 due))

  turns : (e : Emission) (entries : List PlanEntry) (o : Option Handler) → IfOk (running_handler d w e entries o) Begins
  turns e entries None = here
  turns e entries (Some one) = cond_keeps (nat_lt 0 one.blocks) _ _ Begins here (runs_before _ _ (Emitting e entries ∷ []) tt)

  takes : (e : Emission) (entries : List PlanEntry) (entry : PlanEntry) → IfOk (taking_entry d w e entries entry) Begins
  takes e entries (class_handler program cleanup) = runs_before program _ (Emitting _ entries ∷ []) tt
  takes e entries (handler number) = turns e entries (handler_of number w.handlers)
  takes e entries (config.transfer number back) = (h, transfers (binding_of number w.bindings))
    where
      either : (b : Bool) → AreDue d w.peers (cond b [] (Transferring number back ∷ []) ++ Emitting e entries ∷ [])
      either true = tt
      either false = tt

      transfers : (b : Option Binding) → AreDue d w.peers (transfer_for b number back ++ Emitting e entries ∷ [])
      transfers None = tt
      transfers (Some b) = either b.busy

  -- ** transfers

  sets_by : (number : ℕ) (end : End) (v : Option Value) → IfOk (set_by w number end v) Begins
  sets_by number end None = here
  sets_by number end (Some v) = here

  carries : (b : Binding) (source target : End) → IfOk (carried d w b source target) Begins
  unfolding carried
  carries b source target = search (bind_keeps, only_keeps, sets_by) depth 8

  carries_by : (back : Bool) (b : Option Binding) → IfOk (carried_by d w back b) Begins
  carries_by back None = here
  carries_by false (Some b) = carries b (source_end b) (target_end b)
  carries_by true (Some b) = carries b (target_end b) (source_end b)

  -- ** constructions and the build

  thaws_rest : (id : ℕ) (slots : List ℕ) → IfOk (thawing w id slots) Begins
  thaws_rest id [] = here
  thaws_rest id (slot ∷ slots) = here

  thaws_made : (id : ℕ) (steps : List ConstructStep) (held : Bool) → IfOk (thawing_made w id steps held) Begins
  unfolding thawing_made
  thaws_made id steps held = bind_with (changed w.objects id frozen_less) _ (λ (r : After Objects (List ℕ)). Have (IsShortPeerAt d w.peers) r.state) Begins
      (less_have (IsShortPeerAt d w.peers) w.objects h id) (λ r now. (now, tt))

  constructs : (id : ℕ) (steps : List ConstructStep) (held : Bool) → IfOk (constructing d w id steps held) Begins
  unfolding constructed apply_construct_property
  constructs id [] true = search (bind_keeps, only_keeps, here)
  constructs id [] false = here
  constructs id (config.sets slot v ∷ steps) held = search (bind_keeps, only_keeps, here)
  constructs id (config.runs program ∷ steps) held = runs_before program _ (Constructing id steps held ∷ []) tt
  constructs id (config.thaws ∷ steps) held = thaws_made id steps held

  -- the peer that a place names is short
  builds_with : (place : ℕ) (p : Place) → known arms.Code (place_at d place) ≡ Ok p → IfOk (peer_for d w p) (λ peer. IfSome peer (IsShortPeerAt d w.peers))
  builds_with place p is = only_keeps (same_bool (has_shape d p.class) (is_some (first_peer w.peers p.peers))) arms.Code (Ok (first_peer w.peers p.peers)) (λ (peer : Option ℕ). IfSome peer (IsShortPeerAt d w.peers))
      (first_short d w.peers p.peers (pool place p (known_is arms.Code (place_at d place) p is)))

  builds_object : (place : ℕ) (items : List Item) → IfOk (building_object d w place items) Begins
  unfolding building_object
  builds_object place items = bind_keeps (known arms.Code (place_at d place)) _ Begins (λ p is.
      bind_with (peer_for d w p) _ (λ (peer : Option ℕ). IfSome peer (IsShortPeerAt d w.peers)) Begins (builds_with place p is) (λ peer own.
      bind_with (making d w place peer true) _ Begins Begins (makes d w pool h place peer own true) (λ s now.
      (now.0, due_append d w.peers s.tasks (Building items ∷ []) now.1 tt))))

  builds_child : (place : ℕ) (items : List Item) → IfOk (building_child d w place items) Begins
  unfolding building_child
  builds_child place items = bind_keeps (known arms.Code (place_at d place)) _ Begins (λ p _. bind_keeps (known arms.Code p.parent) _ Begins (λ above _.
      bind_keeps (held_object w above) _ Begins (λ parent _. bind_keeps (held_object w place) _ Begins (λ child _.
      bind_with (adopted d w parent child) _ (λ (r : After World Bool). Kept r.state) Begins (adopts_have (IsShortPeerAt d w.peers) d w h parent child) (λ family now. (now, tt))))))

  connects_signal : (late : Bool) (c : Connection) → Kept (cond late w (with_handler w c))
  connects_signal true c = h
  connects_signal false c = h

  builds_handler : (place number : ℕ) (items : List Item) → IfOk (building_handler d w place number items) Begins
  unfolding building_handler
  builds_handler place number items = bind_keeps (known arms.Code (place_at d place)) _ Begins (λ p _. bind_keeps (known arms.Code (slice_get p.signals number)) _ Begins (λ a _.
      bind_keeps (held_object w place) _ Begins (λ id _. bind_keeps (held_data w a.with) _ Begins (λ arg _. bind_keeps (known arms.Code (signal_number d p.class a.signal)) _ Begins (λ signal _.
      bind_keeps (detail_at d p.class signal a.detail) _ Begins (λ detail _.
      (connects_signal (is_too_late w.objects id arg) (connection id signal detail a arg), tt)))))))

  transfers_first : (number : ℕ) (items : List Item) (at_once : Bool) → AreDue d w.peers (cond at_once (Transferring number false ∷ []) [] ++ Building items ∷ [])
  transfers_first number items true = tt
  transfers_first number items false = tt

  builds_binding : (number : ℕ) (items : List Item) → IfOk (building_binding d w number items) Begins
  unfolding building_binding
  builds_binding number items = bind_keeps (known arms.Code (slice_get d.bindings number)) _ Begins (λ b _. bind_keeps (held_object w b.source) _ Begins (λ source _.
      bind_keeps (held_object w b.target) _ Begins (λ target _.
      cond_keeps (is_disposed (living w.objects source) || is_disposed (living w.objects target)) (starts w (Building items ∷ []))
      (starts (with_binding w (new_binding number b source target)) (first_transfer number b ++ Building items ∷ [])) Begins here (h, transfers_first number items _))))

  builds : (items : List Item) → IfOk (building d w items) Begins
  unfolding building_forward set_forward
  builds [] = here
  builds (config.makes place ∷ items) = builds_object place items
  builds (config.adopts place ∷ items) = builds_child place items
  builds (config.forwards place slot to ∷ items) = search (bind_keeps, only_keeps, here) depth 8
  builds (config.binds number ∷ items) = builds_binding number items
  builds (config.connects place number ∷ items) = builds_handler place number items

  -- ** requests and sources

  carries_emit : (place signal : ℕ) (args : List Given) (detail : Option (List ℕ)) → IsShortDetail detail → IfOk (emit_from_event d w place signal args detail) Begins
  unfolding emit_from_event
  carries_emit place signal args detail short = bind_keeps (held_object w place) _ Begins (λ id _.
      bind_with (detail_in d w id signal detail) _ IsShortDetail Begins (detail_short d w id signal detail short) (λ kept now.
      bind_keeps (given_values w args) _ Begins (λ given _. (h, (now, tt)))))

  carries_request : (r : Request) → HasShortDetail r → IfOk (request_step d w r) Begins
  unfolding set_from_event set_given get_from_event release_from_event
  carries_request (config.set place slot given) short = search (bind_keeps, only_keeps, here) depth 8
  carries_request (config.get place slot) short = search (bind_keeps, only_keeps, here) depth 8
  carries_request (config.emit place signal args detail) short = carries_emit place signal args detail short
  carries_request (config.release place) short = search (bind_keeps, here)

  runs_source : (source : ℕ) → IfOk (sourcing d w source) Begins
  unfolding sourcing
  runs_source source = bind_keeps (known arms.Code (source_of source w.sources)) _ Begins (λ s _. runs_before s.program (source_data s.arg) (Answering source ∷ []) tt)

  is_finalised : (id : ℕ) → IfOk (finalising d w id) Begins
  unfolding finalising
  is_finalised id = bind_with (finalised d w id) _ Kept Begins (finalises_have (IsShortPeerAt d w.peers) d w h id) (λ v now. (now, tt))

  -- ** what comes down

  module _ (rest : List Task) (due : AreDue d w.peers rest) where
    tells : (b : Bool) (v : Option Value) → Kept (told d w b v)
    tells b None = h
    tells false (Some v) = h
    tells true (Some v) = h

    -- a program goes on with a value in a register
    receives : (f : Frame) (below : List Task) → AreDue d w.peers below → (to : ℕ) (v : Option Value) → IfOk (received_by f below to v) (AreDue d w.peers)
    unfolding received_by
    receives f below all to v = search bind_keeps

    called_receives : (below : List Task) → AreDue d w.peers below → (to : ℕ) (v : Option Value) → IfOk (received below to v) (AreDue d w.peers)
    called_receives (Running f ∷ below) all to v = receives f below all to v
    called_receives _ all to v = tt

    takes_result : (into : Option ℕ) (f : Frame) (below : List Task) → AreDue d w.peers below → (v : Option Value) → IfOk (taken into f below v) (AreDue d w.peers)
    takes_result None f below all v = all
    takes_result (Some to) f below all None = tt
    takes_result (Some to) f below all (Some v) = receives f below all to (Some v)

    passes : (below : List Task) → AreDue d w.peers below → (v : Option Value) → IfOk (passed_down below v) (AreDue d w.peers)
    passes (Running f ∷ below) all v = takes_result f.into f below all v
    passes below all v = all

    ends_emission : (e : Emission) → IfOk (ending d w e rest) Ends
    unfolding ending
    ends_emission e = bind_keeps (resulting d w e) _ Ends (λ v _. bind_with (passed_down rest v) _ (AreDue d w.peers) Ends (passes rest due v) (λ agenda now. (tells e.by_event v, now)))

    left_one : (v : World) → Kept v → (to : ℕ) (x : Value) → IfOk (left_with v rest to x) Ends
    unfolding left_with
    left_one v kept to x = bind_with (received rest to (Some x)) _ (AreDue d w.peers) Ends (called_receives rest due to (Some x)) (λ agenda now. (kept, now))

    is_called : (call : Call) (reply : Reply) → IfOk (called d w call rest reply) Ends
    unfolding called with_method
    is_called call reply = bind_keeps (known arms.Call (peer_at w call.peer)) _ Ends (λ p _. bind_keeps (known arms.Call (method_of p call.method)) _ Ends (λ m _. left_one _ h call.to _))

    is_uncalled : (call : Call) → IfOk (uncalled d w call rest) Ends
    unfolding uncalled with_method
    is_uncalled call = bind_keeps (known arms.Call (peer_at w call.peer)) _ Ends (λ p _. bind_keeps (known arms.Call (method_of p call.method)) _ Ends (λ m _. left_one _ h call.to _))

    is_replied : (call : Call) (reply : Option Reply) → IfOk (replied d w call rest reply) Ends
    is_replied call None = tt
    is_replied call (Some reply) = is_called call reply

    calls : (call : Call) (reply : Option Reply) → IfOk (calling_on d w call rest reply) Ends
    calls call reply = cond_keeps (is_asked w call.peer) (replied d w call rest reply) (uncalled d w call rest) Ends (is_replied call reply) (is_uncalled call)

  -- ** steps

  -- the objects of a configuration have peers that were short, and so it is of its tasks
  abbrev pub Comes : Config → Type 0
  Comes c = Kept c.world × AreDue d w.peers c.agenda

  leaves_agenda : (n : ℕ) (a : Answer Left) → IfOk a Ends → IfOk (left n a) Comes
  unfolding left
  leaves_agenda n (Ok l) now = now
  leaves_agenda n (Err arm) now = tt

  sinks_first : (floating : List ℕ) → Kept (sink_first_floating w floating)
  sinks_first [] = h
  sinks_first (id ∷ ids) = h

  module _ (rest : List Task) (due : AreDue d w.peers rest) where
    not_counted : (n : ℕ) (a : Answer Started) → IfOk a Begins → IfOk (uncounted rest n a) Comes
    not_counted n (Ok s) now = (now.0, due_append d w.peers s.tasks rest now.1 due)
    not_counted n (Err arm) now = tt

    is_counted : (n : ℕ) (a : Answer Started) → IfOk a Begins → IfOk (counted rest n a) Comes
    is_counted n a now = only_keeps (nat_lt n most_steps) arms.Steps (uncounted rest (suc n) a) Comes (not_counted (suc n) a now)

  acts : (reply : Option Reply) (tasks : List Task) → AreDue d w.peers tasks → (n : ℕ) → IfOk (act d w reply tasks n) Comes
  acts reply [] all n = (sinks_first w.floating, tt)
  acts reply (Setting id slot v ∷ rest) all n = not_counted rest all n (setting d w id slot v) (sets_one id slot v)
  acts reply (Notifying id slot ∷ rest) all n = is_counted rest all n (notifying d w id slot) (notifies_one id slot)
  acts reply (Beginning e ∷ rest) all n = is_counted rest all.1 n (beginning_emission d w e) (begins_emission e)
  acts reply (Emitting e [] ∷ rest) all n = leaves_agenda n (ending d w e rest) (ends_emission rest all e)
  acts reply (Emitting e (entry ∷ entries) ∷ rest) all n = not_counted rest all n (taking_entry d w e entries entry) (takes e entries entry)
  acts reply (Transferring number back ∷ rest) all n = is_counted rest all n (transferring d w number back) (carries_by back (binding_of number w.bindings))
  acts reply (Unsetting number ∷ rest) all n = (h, all)
  acts reply (Thawing id slots ∷ rest) all n = not_counted rest all n (thawing w id slots) (thaws_rest id slots)
  acts reply (Running f ∷ rest) all n =
      only_keeps (nat_lt n most_steps) arms.Steps (left (suc n) (running d w rest f)) Comes
      (leaves_agenda (suc n) (running d w rest f) (runs_short d details w pool h rest all f))
  acts reply (Answering source ∷ rest) all n = tt
  acts reply (Calling call ∷ rest) all n = leaves_agenda n (calling_on d w call rest reply) (calls rest all.1 call reply)
  acts reply (Constructing id steps held ∷ rest) all n = not_counted rest all n (constructing d w id steps held) (constructs id steps held)
  acts reply (Building items ∷ rest) all n = not_counted rest all n (building d w items) (builds items)
  acts reply (Handling r ∷ rest) all n = not_counted rest all.1 n (request_step d w r) (carries_request r all.0)
  acts reply (Due source ∷ rest) all n = not_counted rest all n (sourcing d w source) (runs_source source)

  pub steps_first : (reply : Option Reply) (tasks : List Task) → AreDue d w.peers tasks → (n : ℕ) (o : Option ℕ) →
      IfOk (first_of d reply (record { world = w; agenda = tasks; counted = n }) o) Comes
  steps_first reply tasks all n None = acts reply tasks all n
  steps_first reply tasks all n (Some id) = is_counted tasks all n (finalising d w id) (is_finalised id)
