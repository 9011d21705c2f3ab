-- A task leaves a seated agenda.
use Rattle.std.proofs.Common.{ℕ, suc, Bool, true, false, cond, List, [], ◌∷◌, ◌++◌, Option, None, Some, Ok, Err}
use Rattle.std.specs.Prelude.{IfOk, nat_lt}
use Rattle.ui_machine.specs.declared.arm.Arm.TheVariants as arms
use Rattle.ui_machine.specs.Definition.{Definition}
use Rattle.ui_machine.specs.Definition.Lookups.{place_at}
use Rattle.ui_machine.specs.Definition.Values.{Value}
use Rattle.ui_machine.specs.Instructions.{running}
use Rattle.ui_machine.specs.Instructions.Peers.{called, calling_on, left_with, replied, uncalled, with_method}
use Rattle.ui_machine.specs.Instructions.Registers.{with_register}
use Rattle.ui_machine.specs.Outcome.{Answer, known}
use Rattle.ui_machine.specs.Rules.Accumulation.{ending, passed_down, received, received_by, resulting, running_handler, taken, taking_entry}
use Rattle.ui_machine.specs.Rules.Build.{building, building_binding, building_child, building_forward, building_handler, building_object, peer_for, set_forward}
use Rattle.ui_machine.specs.Rules.Construction.{apply_construct_property, constructed, constructing, making, thawing_made}
use Rattle.ui_machine.specs.Rules.Disposal.{finalised}
use Rattle.ui_machine.specs.Rules.EmissionPlan.{beginning_emission, notifying}
use Rattle.ui_machine.specs.Rules.Events.{emit_from_event, get_from_event, release_from_event, request_step, set_from_event, set_given}
use Rattle.ui_machine.specs.Rules.MainLoop.{sourcing}
use Rattle.ui_machine.specs.Rules.NotifyQueue.{thawing}
use Rattle.ui_machine.specs.Rules.Programs.{beginning_program, program_before}
use Rattle.ui_machine.specs.Rules.Sets.{raising, raising_if, setting, written}
use Rattle.ui_machine.specs.Rules.Transfers.{End, carried, carried_by, set_by, transfer_for, transferring}
use Rattle.ui_machine.specs.State.Bindings.{Binding, binding_of}
use Rattle.ui_machine.specs.State.Config.{Config, Left, Started, World}
use Rattle.ui_machine.specs.State.Handlers.{Handler, handler_of}
use Rattle.ui_machine.specs.State.Peers.{Reply}
use Rattle.ui_machine.specs.State.Sources.{source_of}
use Rattle.ui_machine.specs.State.Tasks.{Answering, Beginning, Building, Call, Calling, ConstructStep, Constructing, Due, Emission, Emitting, Frame, Handling, Item, Notifying, PlanEntry, Request, Running, Setting, Task, Thawing, Transferring, Unsetting, class_handler, handler}
use Rattle.ui_machine.specs.State.Tasks as config
use Rattle.ui_machine.specs.Steps.{act, counted, finalising, left, most_steps, uncounted}
use Rattle.machine_laws.proofs.KeptProofs.{bind_keeps, cond_keeps, kept_at, only_keeps}
use Rattle.law_runs.specs.Stacks.{BeginsFirmly, IsMaker, LieBelow}
use Rattle.law_runs.proofs.StartProofs.{begins_constructing, begins_running, raises}
use Rattle.law_held_peers.proofs.Seats.{IsSeated, are_seated}
use Rattle.law_held_peers.proofs.SeatInstructionProofs.{runs_seated}

-- ** what comes down

-- a program goes on with a value in a register
receives : (w : World) (f : Frame) (rest : List Task) → LieBelow rest → (to : ℕ) (v : Option Value) → IfOk (received_by f rest to v) (IsSeated w)
unfolding received_by
receives w f rest low to v = bind_keeps (with_register to v f.registers) _ _ (λ r _. low)

-- so does one that called a peer, and one that waits for an emission
called_receives : (w : World) (rest : List Task) → LieBelow rest → (to : ℕ) (v : Option Value) → IfOk (received rest to v) (IsSeated w)
called_receives w (Running f ∷ rest) low to v = receives w f rest low to v
called_receives w _ low to v = tt

takes : (w : World) (into : Option ℕ) (f : Frame) (rest : List Task) → LieBelow rest → (v : Option Value) → IfOk (taken into f rest v) (IsSeated w)
takes w None f rest low v = low
takes w (Some to) f rest low None = tt
takes w (Some to) f rest low (Some v) = receives w f rest low to (Some v)

-- an emission's result is passed down
passes : (w : World) (rest : List Task) → LieBelow rest → (v : Option Value) → IfOk (passed_down rest v) (IsSeated w)
passes w (Running f ∷ rest) low v = takes w f.into f rest low v
passes w rest low v = are_seated w rest low

module _ (d : Definition) (w : World) (rest : List Task) (low : LieBelow rest) where
  -- the whole agenda is seated
  abbrev Leaves : Left → Type 0
  Leaves l = IsSeated w l.agenda

  ends_emission : (e : Emission) → IfOk (ending d w e rest) Leaves
  unfolding ending
  ends_emission e = bind_keeps (resulting d w e) _ Leaves (λ v _. bind_keeps (passed_down rest v) _ Leaves (λ agenda is. kept_at (IsSeated w) (passed_down rest v) agenda (passes w rest low v) is))

  left_one : (v : World) (to : ℕ) (x : Value) → IfOk (left_with v rest to x) Leaves
  unfolding left_with
  left_one v to x = bind_keeps (received rest to (Some x)) _ Leaves (λ agenda is. kept_at (IsSeated w) (received rest to (Some x)) agenda (called_receives w rest low to (Some x)) is)

  is_replied : (call : Call) (reply : Option Reply) → IfOk (replied d w call rest reply) Leaves
  unfolding called with_method
  is_replied call None = tt
  is_replied call (Some reply) = search (bind_keeps, left_one)

  calls : (call : Call) (reply : Option Reply) → IfOk (calling_on d w call rest reply) Leaves
  unfolding uncalled with_method
  calls call reply = search (bind_keeps, cond_keeps, left_one, is_replied)

  -- ** what a task starts

  -- what it starts is seated on the rest
  abbrev Stacks : Started → Type 0
  Stacks s = IsSeated w (s.tasks ++ rest)

  rests : IsSeated w rest
  rests = are_seated w rest low

  raises_on : (v : World) (id slot : ℕ) → IfOk (raising v id slot) Stacks
  raises_on v id slot = raises (λ tasks. IsSeated w (tasks ++ rest)) v id slot rests low

  raises_if : (b : Bool) (v : World) (id slot : ℕ) → IfOk (raising_if b v id slot) Stacks
  raises_if true v id slot = raises_on v id slot
  raises_if false v id slot = rests

  sets_one : (id slot : ℕ) (v : Value) → IfOk (setting d w id slot v) Stacks
  unfolding setting written
  sets_one id slot v = search (bind_keeps, only_keeps, cond_keeps, raises_if, rests)

  notifies_one : (id slot : ℕ) → IfOk (notifying d w id slot) Stacks
  unfolding notifying
  notifies_one id slot = search bind_keeps

  begins_emission : (e : Emission) → IfOk (beginning_emission d w e) Stacks
  unfolding beginning_emission
  begins_emission e = search (bind_keeps, only_keeps)

  -- a program begins on these tasks and the rest
  runs_before : (tasks : List Task) → LieBelow (tasks ++ rest) → (number : ℕ) (args : List Value) → IfOk (program_before d w number args tasks) Stacks
  unfolding program_before
  runs_before tasks lie number args = bind_keeps (beginning_program d w number args) _ Stacks (λ s is.
      kept_at (λ (s : Started). IsSeated w ((s.tasks ++ tasks) ++ rest)) (beginning_program d w number args) s
      (begins_running (λ begun. IsSeated w ((begun ++ tasks) ++ rest)) d w (λ f. lie) number args) is)

  -- ** emissions

  turns : (e : Emission) (entries : List PlanEntry) (h : Option Handler) → IfOk (running_handler d w e entries h) Stacks
  turns e entries None = low
  turns e entries (Some h) = cond_keeps (nat_lt 0 h.blocks) _ _ Stacks low (runs_before (Emitting e entries ∷ []) low _ _)

  takes_entry : (e : Emission) (entries : List PlanEntry) (entry : PlanEntry) → IfOk (taking_entry d w e entries entry) Stacks
  takes_entry e entries (class_handler program cleanup) = runs_before (Emitting _ entries ∷ []) low program _
  takes_entry e entries (handler number) = turns e entries (handler_of number w.handlers)
  takes_entry e entries (config.transfer number back) = transfers (binding_of number w.bindings)
    where
      either : (b : Bool) → IsSeated w ((cond b [] (Transferring number back ∷ []) ++ Emitting e entries ∷ []) ++ rest)
      either true = low
      either false = (tt, low)

      transfers : (b : Option Binding) → IsSeated w ((transfer_for b number back ++ Emitting e entries ∷ []) ++ rest)
      transfers None = low
      transfers (Some b) = either b.busy

  -- ** where the rest begins firmly

  module _ (firm : BeginsFirmly rest) where
    sets_by : (number : ℕ) (end : End) (v : Option Value) → IfOk (set_by w number end v) Stacks
    sets_by number end None = rests
    sets_by number end (Some v) = (firm, low)

    carries : (b : Binding) (source target : End) → IfOk (carried d w b source target) Stacks
    unfolding carried
    carries b source target = search (bind_keeps, only_keeps, sets_by) depth 8

    carries_by : (back : Bool) (b : Option Binding) → IfOk (carried_by d w back b) Stacks
    carries_by back None = rests
    carries_by false (Some b) = carries b _ _
    carries_by true (Some b) = carries b _ _

    runs_source : (source : ℕ) → IfOk (sourcing d w source) Stacks
    unfolding sourcing
    runs_source source = bind_keeps (known arms.Code (source_of source w.sources)) _ Stacks (λ s _. runs_before (Answering source ∷ []) (firm, low) s.program _)

    thaws_rest : (id : ℕ) (slots : List ℕ) → IfOk (thawing w id slots) Stacks
    thaws_rest id [] = rests
    thaws_rest id (slot ∷ slots) = (firm, low)

  -- ** constructions and requests

  constructs : IsMaker rest → (id : ℕ) (steps : List ConstructStep) (held : Bool) → IfOk (constructing d w id steps held) Stacks
  unfolding constructed apply_construct_property thawing_made
  constructs made id [] true = search (bind_keeps, only_keeps, rests)
  constructs made id [] false = rests
  constructs made id (config.sets slot v ∷ steps) held = search (bind_keeps, only_keeps)
  constructs made id (config.runs program ∷ steps) held = runs_before (Constructing id steps held ∷ []) (made, low) program _
  constructs made id (config.thaws ∷ steps) held = search bind_keeps

  carries_out : (r : Request) → IfOk (request_step d w r) Stacks
  unfolding set_from_event set_given get_from_event emit_from_event release_from_event
  carries_out (config.set place slot given) = search (bind_keeps, only_keeps)
  carries_out (config.get place slot) = search (bind_keeps, only_keeps, rests)
  carries_out (config.emit place signal args detail) = search bind_keeps
  carries_out (config.release place) = search (bind_keeps, rests)

-- ** the build

module _ (d : Definition) (w : World) where
  -- nothing lies below the build
  abbrev Builds : Started → Type 0
  Builds s = IsSeated w (s.tasks ++ [])

  builds_object : (place : ℕ) (items : List Item) → IfOk (building_object d w place items) Builds
  unfolding building_object
  builds_object place items = bind_keeps (known arms.Code (place_at d place)) _ Builds (λ p _. bind_keeps (peer_for d w p) _ Builds (λ peer _.
      bind_keeps (making d w place peer true) _ Builds (λ made is.
      kept_at (λ (s : Started). IsSeated w ((s.tasks ++ Building items ∷ []) ++ [])) (making d w place peer true) made
      (begins_constructing (λ begun. IsSeated w ((begun ++ Building items ∷ []) ++ [])) d w (λ id steps held. (tt, tt)) place peer true) is)))

  -- a transfer lies on the build, or none
  transfers_first : (number : ℕ) (items : List Item) (at_once : Bool) → IsSeated w ((cond at_once (Transferring number false ∷ []) [] ++ Building items ∷ []) ++ [])
  transfers_first number items true = (tt, tt)
  transfers_first number items false = tt

  builds : (items : List Item) → IfOk (building d w items) Builds
  unfolding building_child building_forward set_forward building_binding building_handler
  builds [] = tt
  builds (config.makes place ∷ items) = builds_object place items
  builds (config.adopts place ∷ items) = search bind_keeps depth 8
  builds (config.forwards place slot to ∷ items) = search (bind_keeps, only_keeps) depth 8
  builds (config.binds number ∷ items) = search (bind_keeps, cond_keeps, transfers_first)
  builds (config.connects place number ∷ items) = search bind_keeps depth 8

-- ** steps

-- the agenda is seated, by the peers of this world
abbrev pub AtSeat : World → Config → Type 0
AtSeat w c = IsSeated w c.agenda

module _ (w : World) where
  leaves_seated : (k : ℕ) (a : Answer Left) → IfOk a (λ l. IsSeated w l.agenda) → IfOk (left k a) (AtSeat w)
  unfolding left
  leaves_seated k (Ok l) seated = seated
  leaves_seated k (Err arm) seated = tt

  module _ (rest : List Task) where
    starts_seated : (k : ℕ) (a : Answer Started) → IfOk a (λ s. IsSeated w (s.tasks ++ rest)) → IfOk (uncounted rest k a) (AtSeat w)
    starts_seated k (Ok s) seated = seated
    starts_seated k (Err arm) seated = tt

    counts_seated : (k : ℕ) (a : Answer Started) → IfOk a (λ s. IsSeated w (s.tasks ++ rest)) → IfOk (counted rest k a) (AtSeat w)
    counts_seated k a seated = only_keeps (nat_lt k most_steps) arms.Steps (uncounted rest (suc k) a) (AtSeat w) (starts_seated (suc k) a seated)

module _ (d : Definition) (w : World) where
  is_finalised : (tasks : List Task) → IsSeated w tasks → (id : ℕ) → IfOk (finalising d w id) (λ s. IsSeated w (s.tasks ++ tasks))
  unfolding finalising
  is_finalised tasks seated id = bind_keeps (finalised d w id) _ _ (λ v _. seated)

  -- an object is finalised before all tasks
  pub finalises_seated : (tasks : List Task) → IsSeated w tasks → (k id : ℕ) → IfOk (counted tasks k (finalising d w id)) (AtSeat w)
  finalises_seated tasks seated k id = counts_seated w tasks k (finalising d w id) (is_finalised tasks seated id)

  pub acts_seated : (reply : Option Reply) (tasks : List Task) (k : ℕ) → IsSeated w tasks → IfOk (act d w reply tasks k) (AtSeat w)
  acts_seated reply [] k seated = tt
  acts_seated reply (Setting id slot v ∷ rest) k low = starts_seated w rest k (setting d w id slot v) (sets_one d w rest low id slot v)
  acts_seated reply (Notifying id slot ∷ rest) k low = counts_seated w rest k (notifying d w id slot) (notifies_one d w rest low id slot)
  acts_seated reply (Beginning e ∷ rest) k low = counts_seated w rest k (beginning_emission d w e) (begins_emission d w rest low e)
  acts_seated reply (Emitting e [] ∷ rest) k low = leaves_seated w k (ending d w e rest) (ends_emission d w rest low e)
  acts_seated reply (Emitting e (entry ∷ entries) ∷ rest) k low = starts_seated w rest k (taking_entry d w e entries entry) (takes_entry d w rest low e entries entry)
  acts_seated reply (Transferring number back ∷ rest) k below =
      counts_seated w rest k (transferring d w number back) (carries_by d w rest below.1 below.0 back (binding_of number w.bindings))
  acts_seated reply (Unsetting number ∷ rest) k below = are_seated w rest below.1
  acts_seated reply (Thawing id slots ∷ rest) k below = starts_seated w rest k (thawing w id slots) (thaws_rest d w rest below.1 below.0 id slots)
  acts_seated reply (Running f ∷ rest) k low =
      only_keeps (nat_lt k most_steps) arms.Steps (left (suc k) (running d w rest f)) (AtSeat w) (leaves_seated w (suc k) (running d w rest f) (runs_seated d w rest low f))
  acts_seated reply (Answering source ∷ rest) k below = tt
  acts_seated reply (Calling call ∷ rest) k below = leaves_seated w k (calling_on d w call rest reply) (calls d w rest below.1 call reply)
  acts_seated reply (Constructing id steps held ∷ rest) k low = starts_seated w rest k (constructing d w id steps held) (constructs d w rest low.1 low.0 id steps held)
  acts_seated reply (Building items ∷ []) k low = starts_seated w [] k (building d w items) (builds d w items)
  acts_seated reply (Building items ∷ task ∷ rest) k low = absurd low
  acts_seated reply (Handling r ∷ rest) k low = starts_seated w rest k (request_step d w r) (carries_out d w rest low r)
  acts_seated reply (Due source ∷ rest) k below = starts_seated w rest k (sourcing d w source) (runs_source d w rest below.1 below.0 source)
