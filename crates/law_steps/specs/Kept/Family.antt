-- Families that change: objects get other parents and children, and nothing else of them changes.
use Rattle.std.specs.Prelude.{◌≡◌, ℕ, List, Some}
use Rattle.ui_machine.specs.Definition.{Definition}
use Rattle.ui_machine.specs.State.Objects.{Object, Objects, living}
use Rattle.ui_machine.specs.State.Tasks.{Task}
use Rattle.ui_machine.specs.State.Config.{World}
use Rattle.law_typing.specs.Graph.Tables.{Tables}
use Rattle.law_typing.specs.Verdict.Accepted.{Each}
use Rattle.law_typing.specs.Good.Standing.{standing, Lives}
use Rattle.law_typing.specs.Good.Objects.{FamilyGood}
use Rattle.law_steps.specs.Kept.Write.{Whole}

-- what there was of an object that is found in the end: all but its parent and its children, which live and know each other
pub record Kin (w : World) (os : Objects) (id : ℕ) (x : Object) : Type 0 where
  pub old : Object
  pub was : living w.objects id ≡ Some old
  pub same : x ≡ record old { children = x.children; parent = x.parent }
  pub children : Each (Lives (standing w.objects)) x.children
  pub parent : FamilyGood os id x.parent

-- the objects are the same, with other families
pub record FamiliesGood (w : World) (os : Objects) : Type 0 where
  pub stands : standing os ≡ standing w.objects
  pub kin : (id : ℕ) (x : Object) → living os id ≡ Some x → Kin w os id x

-- the world with them, with some that float and what was said
abbrev pub with_families : World → Objects → List ℕ → List (List ℕ) → World
with_families w os floating lines = record w { objects = os; floating = floating; transcript = lines }

-- what is good of a world stays so
abbrev pub FamiliesKeep : Type 0
FamiliesKeep =
    (d : Definition) (costs depths : Tables) (agenda : List Task) (w : World) (os : Objects) (floating : List ℕ) (lines : List (List ℕ)) →
    FamiliesGood w os → Each (Lives (standing w.objects)) floating → Whole d costs depths agenda w →
    Whole d costs depths agenda (with_families w os floating lines)
