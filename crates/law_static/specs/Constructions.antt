-- The steps of a construction are good: their values are of the properties' kinds and live, their programs take the new object, and none of
-- them goes deeper than what the making of the place's object raises.
use Rattle.std.specs.Prelude.{◌≡◌, ℕ, ◌≤◌, Some}
use Rattle.ui_machine.specs.Definition.{Definition}
use Rattle.ui_machine.specs.Definition.Places.{Place}
use Rattle.ui_machine.specs.Definition.Lookups.{place_at}
use Rattle.ui_machine.specs.State.Config.{World}
use Rattle.ui_machine.specs.Rules.Construction.{construction}
use Rattle.law_typing.specs.Graph.{raised_by_making}
use Rattle.law_typing.specs.Graph.Depths.{deepest}
use Rattle.law_typing.specs.Verdict.Accepted.{Accepted, Each}
use Rattle.law_typing.specs.Laws.WellRead.{TypesRead, PlaceRead}
use Rattle.law_typing.specs.Good.Standing.{Standing}
use Rattle.law_typing.specs.Good.Bindings.{HeldGood}
use Rattle.law_typing.specs.Good.Builds.{MakingGood, step_depth}
use Rattle.law_typing.specs.Good.Freezes.{to_thaw}

-- wherever what the builder holds is at its place
abbrev pub ConstructionsFit : Type 0
ConstructionsFit =
    (d : Definition) → TypesRead d → Accepted d → (s : Standing) (w : World) (place : ℕ) (p : Place) → HeldGood s w.builder →
    place_at d place ≡ Some p → PlaceRead d place p → Each (MakingGood d s w.builder place) (construction d w place p)

-- as deep as what the making raises
abbrev pub ConstructionsShallow : Type 0
ConstructionsShallow =
    (d : Definition) (a : Accepted d) (w : World) (place : ℕ) (p : Place) → place_at d place ≡ Some p → PlaceRead d place p →
    Each (λ m. step_depth a.weighed.depths place m ≤ deepest a.weighed.depths (raised_by_making d place p)) (construction d w place p)

-- a construction thaws its object once
abbrev pub ConstructionsThaw : Type 0
ConstructionsThaw = (d : Definition) (w : World) (place : ℕ) (p : Place) → to_thaw (construction d w place p) ≡ 1
