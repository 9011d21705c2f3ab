-- What an accepted definition is.
use Rattle.std.specs.Prelude.{◌≡◌, ◌≤◌, ⊤, true, List, [], ◌∷◌}
use Rattle.ui_machine.specs.Definition.{Definition}
use Rattle.law_typing.specs.Rules.Sites.{typing_faults}
use Rattle.law_typing.specs.Rules.Handlers.{handler_faults}
use Rattle.law_typing.specs.Rules.BindingRules.{binding_faults, pair_faults}
use Rattle.law_typing.specs.Rules.Brackets.{bracket_faults}
use Rattle.law_typing.specs.Graph.{Graph, graph}
use Rattle.law_typing.specs.Graph.Tables.{Table, Tables}
use Rattle.law_typing.specs.Graph.Ranks.{IsRanking, IsAcyclic}
use Rattle.law_typing.specs.Graph.Costs.{SolvesCosts, bound}
use Rattle.law_typing.specs.Graph.Depths.{SolvesDepths}
use Rattle.law_typing.specs.Verdict.Inherits.{inherits}
use Rattle.law_typing.specs.Verdict.{most_bound, told}

-- P holds of each entry
abbrev pub Each : {A : Type 0} → (A → Type 0) → List A → Type 0
Each P [] = ⊤
Each P (x ∷ xs) = P x × Each P xs

-- the numbers that the report gives of a graph, and that each bound is small enough
pub record Weighed (g : Graph) : Type 0 where
  pub ranks : Table
  pub costs : Tables
  pub depths : Tables
  pub ranking : IsRanking g ranks
  pub solves_costs : SolvesCosts g costs
  pub solves_depths : SolvesDepths g depths
  pub bounded : Each (λ e. bound g costs e ≤ most_bound) (told g)

pub record Accepted (d : Definition) : Type 0 where
  -- each instruction of each program keeps its rule
  pub typed : typing_faults d ≡ []
  -- each program that a class or an object names takes what it is given
  pub handlers : handler_faults d ≡ []
  -- each binding keeps the rules, and no property is in two pairs
  pub bindings : binding_faults d ≡ []
  pub pairs : pair_faults d ≡ []
  -- freezes and thaws match
  pub brackets : bracket_faults d ≡ []
  -- nothing that is raised may raise itself again
  pub acyclic : IsAcyclic (graph d)
  -- each dispatch has a bound, and it is small enough
  pub weighed : Weighed (graph d)
  -- each class has what its ancestors and interfaces have; reading a definition gives this
  pub inherits : inherits d ≡ true
