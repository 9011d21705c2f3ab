use Rattle.std.proofs.Common.{◌≡◌, ◌++◌, drop}
use Rattle.law_typing.specs.Graph.{pairs_of}
use Rattle.verify_graph.specs.Pairs.{pairs_view}
use Rattle.verify_graph.proofs.bound_channels.pairs.Given as goal

abbrev pub invariant-loop-number : goal.invariant-loop-number
invariant-loop-number l =
    pairs_view l.pairs.items ++ pairs_of (drop l.number l.definition.bindings) ≡ pairs_of l.definition.bindings
