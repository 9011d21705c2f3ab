-- What an event from outside does: set, get, emit, turn, release.
use Rattle.std.specs.List.{list_any}
use Rattle.std.specs.Prelude.{Bool, List, None, Ok, Option, Some, [], false, true, ℕ, ◌||◌, ◌∷◌}
use Rattle.ui_machine.specs.declared.arm.Arm.TheVariants as arms
use Rattle.ui_machine.specs.Definition.{Definition}
use Rattle.ui_machine.specs.Definition.Lookups.{place_at}
use Rattle.ui_machine.specs.Definition.Places.{Given, named, value}
use Rattle.ui_machine.specs.Definition.Properties.{is_readable}
use Rattle.ui_machine.specs.Definition.Values.{Value}
use Rattle.ui_machine.specs.Outcome.{Answer, known, only_if, ◌>>=◌}
use Rattle.ui_machine.specs.Output.Lines as lines
use Rattle.ui_machine.specs.Rules.Build.{held_object}
use Rattle.ui_machine.specs.Rules.Connections.{detail_in}
use Rattle.ui_machine.specs.Rules.Construction.{given_value}
use Rattle.ui_machine.specs.Rules.EmissionPlan.{new_emission}
use Rattle.ui_machine.specs.Rules.MainLoop.{is_back}
use Rattle.ui_machine.specs.Rules.Sets.{if_settable, spec_at}
use Rattle.ui_machine.specs.State.Config.{BuilderEntry, Started, World, built, builder_entry, released, said, starts, unbuilt, with_builder_entry}
use Rattle.ui_machine.specs.State.Objects.{asked, value_at}
use Rattle.ui_machine.specs.State.Tasks.{Beginning, Event, Request, Setting}
use Rattle.ui_machine.specs.State.Tasks as config

-- ** requests

-- the set of a given value
unfoldable pub set_given : World → (id slot : ℕ) → Given → Answer Started
set_given w id slot given = do
  v ← known arms.Operand (given_value w given)
  starts w (Setting id slot v ∷ [])

-- a set by an event
unfoldable pub set_from_event : Definition → World → (place slot : ℕ) → Given → Answer Started
set_from_event d w place slot given = do
  id ← held_object w place
  s ← spec_at d w.objects id slot
  if_settable s (set_given w id slot given)

-- the world with a value for the event
abbrev pub with_result : World → Value → World
with_result w v = record w { result = Some v }

-- a get by an event
unfoldable pub get_from_event : Definition → World → ℕ → ℕ → Answer Started
get_from_event d w place slot = do
  id ← held_object w place
  s ← spec_at d w.objects id slot
  v ← asked w.objects id (value_at slot)
  only_if (is_readable s) arms.Flags (starts (with_result (said d w (lines.get id s.name v)) v) [])

-- the given values of an emission's arguments
unfoldable pub given_values : World → List Given → Answer (List Value)
given_values w [] = Ok []
given_values w (g ∷ gs) = do
  v ← known arms.Operand (given_value w g)
  vs ← given_values w gs
  Ok (v ∷ vs)

-- an emission by an event
unfoldable pub emit_from_event : Definition → World → (place signal : ℕ) → List Given → Option (List ℕ) → Answer Started
emit_from_event d w place signal args detail = do
  id ← held_object w place
  stands ← detail_in d w id signal detail
  given ← given_values w args
  starts w (Beginning (new_emission id signal stands given true) ∷ [])

-- the builder lets an object go
unfoldable pub release_from_event : Definition → World → ℕ → Answer Started
release_from_event d w place = do
  p ← known arms.Code (place_at d place)
  _ ← held_object w place
  starts (with_builder_entry (said d w (lines.release p.id)) place released) []

-- what a request does
abbrev pub request_step : Definition → World → Request → Answer Started
request_step d w (config.set place slot given) = set_from_event d w place slot given
request_step d w (config.get place slot) = get_from_event d w place slot
request_step d w (config.emit place signal args detail) = emit_from_event d w place signal args detail
request_step d w (config.release place) = release_from_event d w place

-- ** which events are refused

-- whether the builder has let an object go
abbrev pub is_released : BuilderEntry → Bool
is_released unbuilt = false
is_released (built id) = false
is_released released = true

-- whether a given value names such an object
abbrev pub gives_released : World → Given → Bool
gives_released w (value v) = false
gives_released w (named place) = is_released (builder_entry w place)

-- whether a request names an object that was released, in any position
abbrev pub names_released : World → Request → Bool
names_released w (config.set place slot given) = is_released (builder_entry w place) || gives_released w given
names_released w (config.get place slot) = is_released (builder_entry w place)
names_released w (config.emit place signal args detail) = is_released (builder_entry w place) || list_any (gives_released w) args
names_released w (config.release place) = is_released (builder_entry w place)

-- why an event is refused, which then leaves the world as it is
pub data Refusal : Type 0 where
  gone : Refusal  -- it names an object that the builder has let go
  clock_back : Refusal  -- its moment lies before the latest one

-- why an event is refused, if it is
abbrev pub refusal : World → Event → Option Refusal
refusal w (config.request r) = elim (names_released w r) [ true ↦ Some gone | false ↦ None ]
refusal w (config.turn moment) = elim (is_back w moment) [ true ↦ Some clock_back | false ↦ None ]
