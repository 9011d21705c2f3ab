-- What reading says of a request, and a request that is carried out, within so many steps and frames.
use Rattle.std.specs.Prelude.{◌≡◌, ℕ, ◌≤◌, ◌<◌, true, false, List, [], ◌∷◌, Some}
use Rattle.std.specs.List.{AllZip, flat_map}
use Rattle.ui_machine.specs.Seq.{read}
use Rattle.ui_machine.specs.Definition.Properties.{Spec, is_readable, is_writable, is_construct_only}
use Rattle.ui_machine.specs.Definition.{Definition}
use Rattle.ui_machine.specs.Definition.Signals.{Signal}
use Rattle.ui_machine.specs.Definition.Places.{Given}
use Rattle.ui_machine.specs.Definition.Places as words
use Rattle.ui_machine.specs.Rules.Connections.{may_stand}
use Rattle.ui_machine.specs.Rules.EmissionPlan.{signal_of}
use Rattle.ui_machine.specs.State.Config.{unbuilt, built}
use Rattle.ui_machine.specs.State.Tasks.{Request}
use Rattle.ui_machine.specs.State.Tasks as config
use Rattle.law_typing.specs.Rules.RegisterKinds.{class_at}
use Rattle.law_typing.specs.Graph.Channels.{property, signal, Entry, spec_at}
use Rattle.law_typing.specs.Graph.Channels as entries
use Rattle.law_typing.specs.Graph.{graph}
use Rattle.law_typing.specs.Graph.Tables.{Tables, entry, of_program}
use Rattle.law_typing.specs.Graph.Costs.{cost}
use Rattle.law_typing.specs.Verdict.Accepted.{Each}
use Rattle.law_typing.specs.Laws.WellRead.{GivenFits, IsObject}
use Rattle.law_typing.specs.Good.Standing.{View}

-- where a request's dispatch begins
abbrev pub entry_of : Definition → Request → Entry
entry_of d (config.set place slot g) = entries.at (property place slot)
entry_of d (config.get place slot) = entries.plain
entry_of d (config.emit place number args detail) = entries.at (signal place number)
entry_of d (config.release place) = entries.plain

-- the frames of what begins so
abbrev pub entry_depth : Tables → Entry → ℕ
entry_depth depths entries.build = 0
entry_depth depths (entries.at c) = entry depths.channels c
entry_depth depths (entries.source program) = of_program depths program
entry_depth depths entries.plain = 0

-- what reading says of a request: it is of an object of the document
abbrev pub RequestRead : Definition → Request → Type 0
RequestRead d (config.set place slot g) =
    IsObject d place × (spec : Spec) × (spec_at d place slot ≡ Some spec) × (is_writable spec ≡ true) × (is_construct_only spec ≡ false)
    × GivenFits d spec.kind g
RequestRead d (config.get place slot) = IsObject d place × (spec : Spec) × (spec_at d place slot ≡ Some spec) × (is_readable spec ≡ true)
RequestRead d (config.emit place number args detail) =
    IsObject d place × (class : ℕ) × (sig : Signal) × (class_at d place ≡ Some class) × (signal_of d class number ≡ Some sig) × (0 < number)
    × AllZip (λ g kind. GivenFits d kind g) args sig.params × (may_stand d class number sig detail ≡ true)
RequestRead d (config.release place) = IsObject d place

-- the places that a request names; they are held, as reading and the session see to
abbrev pub places_named : Request → List ℕ
places_named (config.set place slot (words.value v)) = place ∷ []
places_named (config.set place slot (words.named to)) = place ∷ to ∷ []
places_named (config.get place slot) = place ∷ []
places_named (config.emit place number args detail) = place ∷ flat_map of args
  where
    of : Given → List ℕ
    of (words.value v) = []
    of (words.named to) = to ∷ []
places_named (config.release place) = place ∷ []

pub record CarryingGood (d : Definition) (costs depths : Tables) (w : View) (request : Request) (steps frames : ℕ) : Type 0 where
  pub fits : RequestRead d request
  pub held : Each (λ place. (id : ℕ) × (read unbuilt w.builder place ≡ built id)) (places_named request)
  pub cheap : cost (graph d) costs (entry_of d request) ≤ steps
  pub shallow : entry_depth depths (entry_of d request) ≤ frames
