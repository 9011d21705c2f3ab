-- How many uncounted steps the tasks of an agenda take before a counted one is due, beside the extra ones; and what each task leaves of them.
use Rattle.std.proofs.Common.{ℕ, ◌+◌, ◌≤◌, Bool, true, false, cond, List, [], ◌∷◌, ◌++◌, length, Option, None, Some, arith}
use Rattle.std.specs.Prelude.{IfOk, nat_lt}
use Rattle.ui_machine.specs.declared.arm.Arm.TheVariants as arms
use Rattle.ui_machine.specs.Definition.{Definition}
use Rattle.ui_machine.specs.Definition.Lookups.{place_at}
use Rattle.ui_machine.specs.Definition.Values.{Value}
use Rattle.ui_machine.specs.Instructions.Peers.{called, calling_on, left_with, replied, uncalled, with_method}
use Rattle.ui_machine.specs.Instructions.Registers.{with_register}
use Rattle.ui_machine.specs.Outcome.{known}
use Rattle.ui_machine.specs.Rules.Accumulation.{ending, passed_down, received, received_by, resulting, running_handler, taken, taking_entry}
use Rattle.ui_machine.specs.Rules.Build.{building, building_binding, building_child, building_forward, building_handler, building_object, peer_for, set_forward}
use Rattle.ui_machine.specs.Rules.Construction.{apply_construct_property, constructed, constructing, making, thawing_made}
use Rattle.ui_machine.specs.Rules.Events.{emit_from_event, get_from_event, release_from_event, request_step, set_from_event, set_given}
use Rattle.ui_machine.specs.Rules.MainLoop.{sourcing}
use Rattle.ui_machine.specs.Rules.Programs.{beginning_program, program_before}
use Rattle.ui_machine.specs.Rules.Sets.{raising, raising_if, setting, written}
use Rattle.ui_machine.specs.Rules.Transfers.{transfer_for}
use Rattle.ui_machine.specs.State.Bindings.{Binding, binding_of}
use Rattle.ui_machine.specs.State.Config.{Started, World}
use Rattle.ui_machine.specs.State.Handlers.{Handler, handler_of}
use Rattle.ui_machine.specs.State.Peers.{Reply}
use Rattle.ui_machine.specs.State.Sources.{source_of}
use Rattle.ui_machine.specs.State.Tasks.{Answering, Beginning, Building, Call, Calling, ConstructStep, Constructing, Due, Emission, Emitting, Frame, Handling, Item, Notifying, PlanEntry, Request, Running, Setting, Task, Thawing, Transferring, Unsetting, class_handler, handler}
use Rattle.ui_machine.specs.State.Tasks as config
use Rattle.machine_laws.proofs.KeptProofs.{bind_keeps, cond_keeps, kept_at, only_keeps}
use Rattle.law_runs.proofs.StartProofs.{begins_constructing, begins_running, raises}

-- one for each task that goes on, down to the first whose step is counted
abbrev pub pace : List Task → ℕ
pace [] = 0
pace (Setting id slot v ∷ rest) = 1 + pace rest
pace (Notifying id slot ∷ rest) = 0
pace (Beginning e ∷ rest) = 0
pace (Emitting e turns ∷ rest) = 1 + pace rest
pace (Transferring number back ∷ rest) = 0
pace (Unsetting number ∷ rest) = 1 + pace rest
pace (Thawing id slots ∷ rest) = 1 + pace rest
pace (Running frame ∷ rest) = 0
pace (Answering number ∷ rest) = pace rest
pace (Calling call ∷ rest) = 1 + pace rest
pace (Constructing id steps held ∷ rest) = pace rest
pace (Building items ∷ rest) = pace rest
pace (Handling request ∷ rest) = pace rest
pace (Due number ∷ rest) = pace rest

pub pace_short : (tasks : List Task) → pace tasks ≤ length tasks
pace_short [] = omega arith
pace_short (Setting id slot v ∷ rest) = let h = pace_short rest in omega (arith, h)
pace_short (Notifying id slot ∷ rest) = omega arith
pace_short (Beginning e ∷ rest) = omega arith
pace_short (Emitting e turns ∷ rest) = let h = pace_short rest in omega (arith, h)
pace_short (Transferring number back ∷ rest) = omega arith
pace_short (Unsetting number ∷ rest) = let h = pace_short rest in omega (arith, h)
pace_short (Thawing id slots ∷ rest) = let h = pace_short rest in omega (arith, h)
pace_short (Running frame ∷ rest) = omega arith
pace_short (Answering number ∷ rest) = let h = pace_short rest in omega (arith, h)
pace_short (Calling call ∷ rest) = let h = pace_short rest in omega (arith, h)
pace_short (Constructing id steps held ∷ rest) = let h = pace_short rest in omega (arith, h)
pace_short (Building items ∷ rest) = let h = pace_short rest in omega (arith, h)
pace_short (Handling request ∷ rest) = let h = pace_short rest in omega (arith, h)
pace_short (Due number ∷ rest) = let h = pace_short rest in omega (arith, h)

least : (m : ℕ) → 0 ≤ m
least m = omega arith

-- ** what comes down

receives : (f : Frame) (rest : List Task) (to : ℕ) (v : Option Value) → IfOk (received_by f rest to v) (λ tasks. pace tasks ≤ 0)
unfolding received_by
receives f rest to v = bind_keeps (with_register to v f.registers) _ _ (λ r _. least 0)

called_receives : (rest : List Task) (to : ℕ) (v : Option Value) → IfOk (received rest to v) (λ tasks. pace tasks ≤ 0)
called_receives (Running f ∷ rest) to v = receives f rest to v
called_receives _ to v = tt

takes : (into : Option ℕ) (f : Frame) (rest : List Task) (v : Option Value) → IfOk (taken into f rest v) (λ tasks. pace tasks ≤ 0)
takes None f rest v = least 0
takes (Some to) f rest None = tt
takes (Some to) f rest (Some v) = receives f rest to (Some v)

same : (m : ℕ) → m ≤ m
same m = omega arith

passes : (rest : List Task) (v : Option Value) → IfOk (passed_down rest v) (λ tasks. pace tasks ≤ pace rest)
passes (Running f ∷ rest) v = takes f.into f rest v
passes rest v = same (pace rest)

module _ (d : Definition) (w : World) (rest : List Task) where
  pub ends_emission : (e : Emission) → IfOk (ending d w e rest) (λ l. pace l.agenda ≤ pace rest)
  unfolding ending
  ends_emission e = bind_keeps (resulting d w e) _ _ (λ v _. bind_keeps (passed_down rest v) _ _ (λ agenda is. kept_at (λ tasks. pace tasks ≤ pace rest) (passed_down rest v) agenda (passes rest v) is))

  left_one : (v : World) (to : ℕ) (x : Value) → IfOk (left_with v rest to x) (λ l. pace l.agenda ≤ 0)
  unfolding left_with
  left_one v to x = bind_keeps (received rest to (Some x)) _ _ (λ agenda is. kept_at (λ tasks. pace tasks ≤ 0) (received rest to (Some x)) agenda (called_receives rest to (Some x)) is)

  is_replied : (call : Call) (reply : Option Reply) → IfOk (replied d w call rest reply) (λ l. pace l.agenda ≤ 0)
  unfolding called with_method
  is_replied call None = tt
  is_replied call (Some reply) = search (bind_keeps, left_one)

  pub calls : (call : Call) (reply : Option Reply) → IfOk (calling_on d w call rest reply) (λ l. pace l.agenda ≤ 0)
  unfolding uncalled with_method
  calls call reply = search (bind_keeps, cond_keeps, left_one, is_replied)

  -- ** what a task starts, where so much is allowed

  module _ (m : ℕ) (none : pace rest ≤ m) where
    abbrev pub Paces : Started → Type 0
    Paces s = pace (s.tasks ++ rest) ≤ m

    raises_on : (v : World) (id slot : ℕ) → IfOk (raising v id slot) Paces
    raises_on v id slot = raises (λ tasks. pace (tasks ++ rest) ≤ m) v id slot none (least m)

    raises_if : (b : Bool) (v : World) (id slot : ℕ) → IfOk (raising_if b v id slot) Paces
    raises_if true v id slot = raises_on v id slot
    raises_if false v id slot = none

    pub sets_one : (id slot : ℕ) (v : Value) → IfOk (setting d w id slot v) Paces
    unfolding setting written
    sets_one id slot v = search (bind_keeps, only_keeps, cond_keeps, raises_if, none)

    -- a program begins on these tasks and the rest
    runs_before : (tasks : List Task) (number : ℕ) (args : List Value) → IfOk (program_before d w number args tasks) Paces
    unfolding program_before
    runs_before tasks number args = bind_keeps (beginning_program d w number args) _ Paces (λ s is.
        kept_at (λ (s : Started). pace ((s.tasks ++ tasks) ++ rest) ≤ m) (beginning_program d w number args) s
        (begins_running (λ begun. pace ((begun ++ tasks) ++ rest) ≤ m) d w (λ f. least m) number args) is)

    pub runs_source : (source : ℕ) → IfOk (sourcing d w source) Paces
    unfolding sourcing
    runs_source source = bind_keeps (known arms.Code (source_of source w.sources)) _ Paces (λ s _. runs_before (Answering source ∷ []) s.program _)

    -- ** where one more is allowed

    module _ (one : 1 + pace rest ≤ m) where
      turns : (e : Emission) (entries : List PlanEntry) (h : Option Handler) → IfOk (running_handler d w e entries h) Paces
      turns e entries None = one
      turns e entries (Some h) = cond_keeps (nat_lt 0 h.blocks) _ _ Paces one (runs_before (Emitting e entries ∷ []) _ _)

      pub takes_entry : (e : Emission) (entries : List PlanEntry) (entry : PlanEntry) → IfOk (taking_entry d w e entries entry) Paces
      takes_entry e entries (class_handler program cleanup) = runs_before (Emitting _ entries ∷ []) program _
      takes_entry e entries (handler number) = turns e entries (handler_of number w.handlers)
      takes_entry e entries (config.transfer number back) = transfers (binding_of number w.bindings)
        where
          either : (b : Bool) → pace ((cond b [] (Transferring number back ∷ []) ++ Emitting e entries ∷ []) ++ rest) ≤ m
          either true = one
          either false = least m

          transfers : (b : Option Binding) → pace ((transfer_for b number back ++ Emitting e entries ∷ []) ++ rest) ≤ m
          transfers None = one
          transfers (Some b) = either b.busy

      pub constructs : (id : ℕ) (steps : List ConstructStep) (held : Bool) → IfOk (constructing d w id steps held) Paces
      unfolding constructed apply_construct_property thawing_made
      constructs id [] true = search (bind_keeps, only_keeps, none)
      constructs id [] false = none
      constructs id (config.sets slot v ∷ steps) held = search (bind_keeps, only_keeps, one)
      constructs id (config.runs program ∷ steps) held = runs_before (Constructing id steps held ∷ []) program _
      constructs id (config.thaws ∷ steps) held = search (bind_keeps, one)

      pub sets_request : (place slot : ℕ) (given : _) → IfOk (request_step d w (config.set place slot given)) Paces
      unfolding set_from_event set_given
      sets_request place slot given = search (bind_keeps, only_keeps, one)

      pub sets_forward : (place slot to : ℕ) (items : List Item) → IfOk (building d w (config.forwards place slot to ∷ items)) Paces
      unfolding building_forward set_forward
      sets_forward place slot to items = search (bind_keeps, only_keeps, one) depth 8

    -- ** requests and the build

    pub gets_request : (place slot : ℕ) → IfOk (request_step d w (config.get place slot)) Paces
    unfolding get_from_event
    gets_request place slot = search (bind_keeps, only_keeps, none)

    nothing : 0 ≤ m
    nothing = least m

    pub emits_request : (place signal : ℕ) (args : _) (detail : _) → IfOk (request_step d w (config.emit place signal args detail)) Paces
    unfolding emit_from_event
    emits_request place signal args detail = search (bind_keeps, nothing)

    pub releases_request : (place : ℕ) → IfOk (request_step d w (config.release place)) Paces
    unfolding release_from_event
    releases_request place = search (bind_keeps, none)

    pub makes_object : (place : ℕ) (items : List Item) → IfOk (building d w (config.makes place ∷ items)) Paces
    unfolding building_object
    makes_object place items = bind_keeps (known arms.Code (place_at d place)) _ Paces (λ p _. bind_keeps (peer_for d w p) _ Paces (λ peer _.
        bind_keeps (making d w place peer true) _ Paces (λ made is.
        kept_at (λ (s : Started). pace ((s.tasks ++ Building items ∷ []) ++ rest) ≤ m) (making d w place peer true) made
        (begins_constructing (λ begun. pace ((begun ++ Building items ∷ []) ++ rest) ≤ m) d w (λ id steps held. none) place peer true) is)))

    pub adopts_child : (place : ℕ) (items : List Item) → IfOk (building d w (config.adopts place ∷ items)) Paces
    unfolding building_child
    adopts_child place items = search (bind_keeps, none) depth 8

    transfers_first : (number : ℕ) (items : List Item) (at_once : Bool) → pace ((cond at_once (Transferring number false ∷ []) [] ++ Building items ∷ []) ++ rest) ≤ m
    transfers_first number items true = least m
    transfers_first number items false = none

    pub binds_one : (number : ℕ) (items : List Item) → IfOk (building d w (config.binds number ∷ items)) Paces
    unfolding building_binding
    binds_one number items = search (bind_keeps, cond_keeps, transfers_first, none)

    pub connects_one : (place number : ℕ) (items : List Item) → IfOk (building d w (config.connects place number ∷ items)) Paces
    unfolding building_handler
    connects_one place number items = search (bind_keeps, none) depth 8
