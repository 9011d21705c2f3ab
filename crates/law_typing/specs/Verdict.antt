-- What a definition is judged to be: accepted with its report, or refused.
pub mod Report
pub mod Inherits
pub mod Accepted
pub mod FaultText
pub mod Judges
use Rattle.std.specs.Prelude.{ℕ, nat_lt, List, [], ◌∷◌, ◌++◌, map, Option, None, Some}
use Rattle.std.specs.List.{find}
use Rattle.ui_machine.specs.Definition.{Definition}
use Rattle.law_typing.specs.Graph.Channels.{Entry}
use Rattle.law_typing.specs.Graph.Channels as entries
use Rattle.law_typing.specs.Rules.Faults.{Fault, bound_too_large}
use Rattle.law_typing.specs.Rules.Sites.{typing_faults}
use Rattle.law_typing.specs.Rules.Handlers.{handler_faults}
use Rattle.law_typing.specs.Rules.BindingRules.{binding_faults, pair_faults}
use Rattle.law_typing.specs.Rules.Brackets.{bracket_faults}
use Rattle.law_typing.specs.Graph.{Graph, Raised, graph}
use Rattle.law_typing.specs.Graph.Tables.{Table, Tables}
use Rattle.law_typing.specs.Graph.Ranks.{ranks}
use Rattle.law_typing.specs.Graph.Costs.{costs, bound}
use Rattle.law_typing.specs.Graph.Depths.{depths}
use Rattle.law_typing.specs.Verdict.Report.{report}

pub data Verdict : Type 0 where
  accepted : (report : List (List ℕ)) → Verdict
  refused : Fault → Verdict
  has_cycle : Verdict  -- whichever is reported

-- all faults but cycles and bounds that are too large, phase by phase, each in document order
abbrev pub local_faults : Definition → List Fault
local_faults d =
    typing_faults d ++ (handler_faults d ++ (binding_faults d ++ (pair_faults d ++ bracket_faults d)))

-- ** bounds

-- the greatest bound
abbrev pub most_bound : ℕ
most_bound = 1_000_000_000_000

-- the entries that the report lists, in its order
abbrev pub told : Graph → List Entry
told g = entries.build ∷ (map (λ (r : Raised). entries.at r.channel) g.raised ++ map entries.source g.sources)

-- the first entry whose bound is too large
abbrev pub too_large : Graph → Tables → Option Entry
too_large g t = find (λ e. nat_lt most_bound (bound g t e)) (told g)

-- ** phases

abbrev pub unless_too_large : List (List ℕ) → Option Entry → Verdict
unless_too_large lines None = accepted lines
unless_too_large lines (Some e) = refused (bound_too_large e)

abbrev pub by_tables : Definition → Graph → Option Table → Option Tables → Option Tables → Verdict
by_tables d g (Some ranks) (Some costs) (Some depths) = unless_too_large (report d g ranks costs depths) (too_large g costs)
by_tables d g _ _ _ = has_cycle

abbrev pub by_ranks : Definition → Graph → Option Table → Verdict
by_ranks d g None = has_cycle
by_ranks d g (Some ranks) = by_tables d g (Some ranks) (costs g) (depths g)

abbrev pub by_graph : Definition → Graph → Verdict
by_graph d g = by_ranks d g (ranks g)

abbrev pub by_faults : Definition → List Fault → Verdict
by_faults d [] = by_graph d (graph d)
by_faults d (fault ∷ more) = refused fault

-- the first fault, or the report
abbrev pub verdict : Definition → Verdict
verdict d = by_faults d (local_faults d)
