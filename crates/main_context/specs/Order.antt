-- The order of sources: their numbers rise.
use Rattle.std.specs.List.{AllByRecursion}
use Rattle.std.specs.Prelude.{ℕ, ◌<◌, ◌≤◌, List, [], ◌∷◌, length}
use Rattle.ui_machine.specs.State.Sources.{Source}

-- the numbers rise, and the first is above this one
abbrev pub RisesFrom : ℕ → List Source → Type 0
RisesFrom above [] = Unit {0}
RisesFrom above (s ∷ sources) = (above < s.number) × RisesFrom s.number sources

-- the sources of a context: few, of rising numbers, none of which is above the last one that was given
pub record AreInOrder (sources : List Source) (last : ℕ) : Type 0 where
  pub few : length sources ≤ 256
  pub rising : RisesFrom 0 sources
  pub given : AllByRecursion (λ s. s.number ≤ last) sources
