use Rattle.std.proofs.Common.{◌≡◌, None}
use Rattle.ui_machine.specs.Seq.{listed}
use Rattle.verify_graph.proofs.pairs_by_number.PairedNumbers.alone.Given as goal

abbrev pub invariant-loop-number : goal.invariant-loop-number
invariant-loop-number l = record {
  firsts : l.firsts.items ≡ listed (λ n. n) l.number;
  others : l.others.items ≡ listed (λ n. None) l.number;
}
