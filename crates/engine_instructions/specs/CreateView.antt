-- What the instruction `new` comes to.
use Rattle.std.specs.Prelude.{ℕ, suc, ◌+◌, ◌&&◌, nat_lt, false, Bool, List, length, cond, codes, None, Option, Some, Ok}
use Rattle.ui_machine.specs.declared.arm.Arm.TheVariants as arms
use Rattle.ui_machine.specs.Definition.{Definition}
use Rattle.ui_machine.specs.Definition.Lookups.{place_at, place_of}
use Rattle.ui_machine.specs.Definition.Places.{Place}
use Rattle.ui_machine.specs.Definition.Values as values
use Rattle.ui_machine.specs.Instructions.Registers.{gives, goes_on, with_register}
use Rattle.ui_machine.specs.Outcome.{Answer, known, only_if, ◌>>=◌}
use Rattle.ui_machine.specs.Output.Lines as lines
use Rattle.ui_machine.specs.Rules.Construction.{making}
use Rattle.ui_machine.specs.State.Config.{Started, World, said}
use Rattle.ui_machine.specs.State.Objects.{live, most_identities}
use Rattle.ui_machine.specs.State.Tasks.{Frame}
use Rattle.definitions.specs.EntryView.{entry_view}
use Rattle.engine_instructions.specs.declared.new_objects.Prototype as code

-- a prototype, and the number of its place
pub record Prototype : Type 0 where
  pub number : ℕ
  pub place : Place

-- the prototype that is found, as the engine lends it
abbrev pub prototype_of : code.Prototype → Prototype
prototype_of p = record { number = p.place.0; place = entry_view p.entry }

-- the prototype of an id
abbrev pub prototype_named : Definition → List ℕ → Answer Prototype
prototype_named d id =
    known arms.Code (place_of d id) >>= λ number. known arms.Code (place_at d number) >>= λ (p : Place).
    only_if p.is_prototype arms.Code (Ok (record { number = number; place = p }))

-- whether one more object may be made, where the builder has still so many to make
abbrev pub has_room : Definition → World → (to_come : ℕ) → Bool
has_room d w to_come = nat_lt (live w.objects + to_come) d.most_objects && nat_lt (length w.objects + to_come) most_identities

-- an object of the prototype at a place is made, and gets this peer, and a register is written
unfoldable pub created : Definition → World → Frame → (to place : ℕ) → Option ℕ → Answer Started
created d w f to place peer =
    making d w place peer false >>= λ made. with_register to (Some (values.object (Some (suc (length w.objects))))) f.registers >>= λ registers.
    goes_on made.world made.tasks (record f { registers = registers })

-- the same where there is room, and else a limit's line is said
abbrev pub created_if : Bool → Definition → World → Frame → (to place : ℕ) → Option ℕ → Answer Started
created_if room d w f to place peer = cond room (created d w f to place peer) (gives (said d w (lines.limit (codes "new"))) to (values.object None) f)
