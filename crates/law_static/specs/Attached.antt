-- The signals that the definition names for its objects: their programs take what they are given, and are paid for where they run.
use Rattle.std.specs.Prelude.{◌≡◌, ℕ, ◌≤◌, true, Some, slice_get}
use Rattle.ui_machine.specs.Definition.{Definition}
use Rattle.ui_machine.specs.Definition.Places.{Attached, Place}
use Rattle.ui_machine.specs.Definition.Lookups.{place_at}
use Rattle.ui_machine.specs.State.Handlers.{Handler}
use Rattle.ui_machine.specs.State.Tasks.{connects}
use Rattle.ui_machine.specs.Rules.Connections.{signal_number, detail_for}
use Rattle.law_typing.specs.Rules.Handlers.{attached_fits}
use Rattle.law_typing.specs.Graph.{Raised, graph, place_of_channel}
use Rattle.law_typing.specs.Graph.Tables.{Tables, of_program}
use Rattle.law_typing.specs.Verdict.Accepted.{Accepted}
use Rattle.law_typing.specs.Laws.{IsIn}
use Rattle.law_typing.specs.Laws.WellRead.{TypesRead}
use Rattle.law_typing.specs.Good.Handlers.{runs_at, connecting_cost}

-- one of the signals of an object of the definition
pub record IsAttached (d : Definition) (place number : ℕ) (p : Place) (x : Attached) : Type 0 where
  pub at : place_at d place ≡ Some p
  pub is : slice_get p.signals number ≡ Some x

-- in an accepted definition its program takes what it is given
abbrev pub AttachedFit : Type 0
AttachedFit =
    (d : Definition) → Accepted d → (place number : ℕ) (p : Place) (x : Attached) → IsAttached d place number p x →
    attached_fits d place p x ≡ true

-- where its handler runs the item of the build pays for the program, which is one of the channel's handlers
abbrev pub AttachedArePaid : Type 0
AttachedArePaid =
    (d : Definition) → TypesRead d → (costs : Tables) (place number : ℕ) (p : Place) (x : Attached) (h : Handler) →
    IsAttached d place number p x → signal_number d p.class x.signal ≡ Some h.signal → h.detail ≡ detail_for h.signal x.detail →
    h.program ≡ x.program → (r : Raised) → IsIn r (graph d).raised → place_of_channel r.channel ≡ place → runs_at d h r.channel ≡ true →
    (of_program costs h.program ≤ connecting_cost d costs r.channel (connects place number)) × IsIn h.program r.handlers
