-- Laws of configurations and steps.
use Rattle.std.specs.Prelude.{◌≡◌, ℕ, ◌+◌, true, false, List, [], Option, None, Some, Ok}
use Rattle.ui_machine.specs.Seq.{total}
use Rattle.ui_machine.specs.Definition.Kinds as kinds
use Rattle.ui_machine.specs.Definition.Values as values
use Rattle.ui_machine.specs.Definition.Types.{GType}
use Rattle.ui_machine.specs.Rules.Ancestry.{is_a}
use Rattle.ui_machine.specs.Rules.Transform.{kind_fits}
use Rattle.ui_machine.specs.Definition.{Definition}
use Rattle.ui_machine.specs.State.Peers.{Reply}
use Rattle.ui_machine.specs.State.Objects.{Object, Objects, living, put, class_in}
use Rattle.ui_machine.specs.State.Config.{World, Config}
use Rattle.ui_machine.specs.State.References.{same, in_object, in_held, in_source, mentions}
use Rattle.ui_machine.specs.Steps.{step}
use Rattle.ui_machine.specs.Runs.{HasEnded}

-- without tasks an object is held by objects, the builder, what floats and sources
abbrev pub HeldAtRest : Type 0
HeldAtRest =
    (d : Definition) (w : World) (counted o : ℕ) →
    mentions d (record { world = w; agenda = []; counted = counted }) o
    ≡ total (in_object d o) w.objects + (total (in_held o) w.builder + (total (same o) w.floating + total (in_source o) w.sources))

-- where a dispatch has ended no step changes anything
abbrev pub EndsStay : Type 0
EndsStay = (d : Definition) (reply : Option Reply) (c : Config) → HasEnded d c → step d reply c ≡ Ok c

-- an object that fits a type lives, and its class is the type
abbrev pub FittingLives : Type 0
FittingLives =
    (os : Objects) (types : List GType) (id t : ℕ) → kind_fits (class_in os) types (values.object (Some id)) (kinds.object t) ≡ true →
    (o : Object) × (living os id ≡ Some o) × (is_a types o.class t ≡ true)

-- what was finalised fits no type
abbrev pub FinalisedFitsNothing : Type 0
FinalisedFitsNothing =
    (os : Objects) (types : List GType) (id t : ℕ) →
    kind_fits (class_in (put os id None)) types (values.object (Some id)) (kinds.object t) ≡ false
