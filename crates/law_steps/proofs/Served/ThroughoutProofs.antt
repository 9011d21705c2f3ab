-- What holds of all that is good holds throughout each dispatch of a run.
use Rattle.std.proofs.Common.{◌≡◌, ℕ, ◌≤◌, List, Some, false}
use Rattle.ui_machine.specs.Definition.{Definition}
use Rattle.ui_machine.specs.Rules.Events.{names_released}
use Rattle.ui_machine.specs.Runs.{beginning, of_build, of_request}
use Rattle.ui_machine.specs.State.Config.{Config, World}
use Rattle.ui_machine.specs.State.Peers.{Peer}
use Rattle.ui_machine.specs.State.Sources.{Source, source_of}
use Rattle.ui_machine.specs.State.Tasks.{Due, Request}
use Rattle.ui_machine.specs.Steps.{most_steps}
use Rattle.law_typing.specs.Good.{Good}
use Rattle.law_typing.specs.Good.Bindings.{SourceGood}
use Rattle.law_typing.specs.Good.Requests.{RequestRead}
use Rattle.law_typing.specs.Good.Standing.{standing}
use Rattle.law_typing.specs.Graph.{graph}
use Rattle.law_typing.specs.Graph.Channels as entries
use Rattle.law_typing.specs.Graph.Depths.{depth}
use Rattle.law_typing.specs.Graph.Tables.{Tables}
use Rattle.law_typing.specs.Laws.StepsKeepGood.{IsGood, IsResting, PoolReady, bound_of}
use Rattle.law_typing.specs.Laws.WellRead.{WellRead}
use Rattle.law_typing.specs.Verdict.Accepted.{Accepted}
use Rattle.law_typing.proofs.Lists.{each_in}
use Rattle.law_typing.proofs.OneSolutionProofs.{find_in}
use Rattle.law_static.proofs.BuildCostProofs.{build_begins}
use Rattle.law_static.proofs.RequestProofs.{requests_begin}
use Rattle.law_static.proofs.SourceProofs.{sources_begin}
use Rattle.law_steps.proofs.Tasked.StepsProofs.{steps_keep_good}
use Rattle.law_steps.specs.Served.Dispatches.{Throughout}
use Rattle.law_steps.proofs.Served.DispatchProofs.{stays}
use Rattle.law_steps.proofs.Served.EntryProofs.{build_printed, printed_few, request_printed, source_printed}

-- all that is good is so
abbrev pub HoldsOfGood : Definition → (Config → Type 0) → Type 0
HoldsOfGood d P = (costs depths : Tables) (most_counted most : ℕ) (c : Config) → Good d costs depths most_counted most c → P c

module _ (d : Definition) (P : Config → Type 0) (so : HoldsOfGood d P) (well : WellRead d) (a : Accepted d) where
  -- so is all that comes of what begins well
  pub throughout : (most : ℕ) → most ≤ most_steps → (c : Config) → IsGood d a most c → Throughout d c P
  throughout most few c good replies fit at reached =
      so a.weighed.costs a.weighed.depths most (depth (graph d) a.weighed.depths) at (stays steps_keep_good d well a most few replies fit c at good reached)

  pub throughout_build : (peers : List Peer) → PoolReady d peers → Throughout d (of_build d peers) P
  throughout_build peers ready =
      throughout (bound_of d a entries.build) (printed_few d a well entries.build (build_printed d a)) (of_build d peers) (build_begins d well a peers ready)

  pub throughout_request : (w : World) → IsResting d a w → (r : Request) → RequestRead d r → names_released w r ≡ false → Throughout d (of_request w r) P
  throughout_request w rest r fits kept =
      throughout _ (printed_few d a well _ (request_printed d a r)) (of_request w r) (requests_begin d well a w rest r fits kept)

  pub throughout_source : (w : World) → IsResting d a w → (number : ℕ) (s : Source) → source_of number w.sources ≡ Some s → Throughout d (beginning w (Due number)) P
  throughout_source w rest number s is =
      let known = each_in (SourceGood d (standing w.objects)) w.sources rest.sources s (find_in _ w.sources s is).0 in
      throughout _ (printed_few d a well _ (source_printed d a s.program known.told)) (beginning w (Due number)) (sources_begin d well a w rest number s is)
