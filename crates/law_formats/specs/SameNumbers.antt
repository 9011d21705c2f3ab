-- What was accepted in the first format keeps its numbers.
use Rattle.std.specs.Prelude.{◌≡◌, []}
use Rattle.ui_machine.specs.Definition.{Definition}
use Rattle.law_typing.specs.Graph.Channels.{Channel, Entry}
use Rattle.law_typing.specs.Graph.{graph}
use Rattle.law_typing.specs.Graph.Tables.{entry}
use Rattle.law_typing.specs.Graph.Ranks.{node}
use Rattle.law_typing.specs.Graph.Costs.{cost, bound}
use Rattle.law_typing.specs.Graph.Depths.{depth}
use Rattle.law_typing.specs.Verdict.{verdict, accepted}
use Rattle.law_typing.specs.Verdict.Accepted.{Accepted}
use Rattle.law_typing.specs.Verdict.Report.{report}
use Rattle.law_formats.specs.FirstRules.{NoRepeats, freezes_over_pairs}
use Rattle.law_formats.specs.FirstGraph.{graph as first_graph}
use Rattle.law_formats.specs.FirstFormat as first

-- the numbers of a definition as it is accepted now are those of the first format
pub record HasSameNumbers (d : Definition) (before : first.Accepted d) (now : Accepted d) : Type 0 where
  -- the tables
  pub ranks : now.weighed.ranks ≡ before.weighed.ranks
  pub costs : now.weighed.costs ≡ before.weighed.costs
  pub depths : now.weighed.depths ≡ before.weighed.depths
  -- the rank of each channel's node, the cost and the bound of each entry, and the depth
  pub rank : (c : Channel) → entry now.weighed.ranks (node (graph d) c) ≡ entry before.weighed.ranks (node (first_graph d) c)
  pub cost : (e : Entry) → cost (graph d) now.weighed.costs e ≡ cost (first_graph d) before.weighed.costs e
  pub bound : (e : Entry) → bound (graph d) now.weighed.costs e ≡ bound (first_graph d) before.weighed.costs e
  pub depth : depth (graph d) now.weighed.depths ≡ depth (first_graph d) before.weighed.depths
  -- so the report
  pub report :
      report d (graph d) now.weighed.ranks now.weighed.costs now.weighed.depths
      ≡ report d (first_graph d) before.weighed.ranks before.weighed.costs before.weighed.depths

-- what was accepted in the first format is accepted now, with the same numbers
abbrev pub NumbersStay : Type 0
NumbersStay = (d : Definition) (before : first.Accepted d) → (now : Accepted d) × HasSameNumbers d before now

-- and it is judged to be accepted, with the report of the first format
abbrev pub AcceptedBefore : Type 0
AcceptedBefore =
    (d : Definition) (before : first.Accepted d) →
    verdict d ≡ accepted (report d (first_graph d) before.weighed.ranks before.weighed.costs before.weighed.depths)

-- the other way round: what is accepted now was accepted there, where no block says how often it is passed and no program freezes an object
-- with a paired property
abbrev pub NothingElseChanged : Type 0
NothingElseChanged = (d : Definition) → Accepted d → NoRepeats d → freezes_over_pairs d ≡ [] → first.Accepted d
