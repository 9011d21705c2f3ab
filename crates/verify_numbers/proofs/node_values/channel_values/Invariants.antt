use Rattle.std.proofs.Common.{◌≡◌}
use Rattle.verify_numbers.specs.Tables.{value_of}
use Rattle.verify_sketches.specs.View.{sketch_view}
use Rattle.verify_numbers.specs.Counts.{at_in}
use Rattle.ui_machine.specs.Seq.{listed}
use Rattle.verify_numbers.proofs.node_values.channel_values.Given as goal

abbrev pub invariant-loop-channel : goal.invariant-loop-channel
invariant-loop-channel l = l.numbers.items ≡ listed (value_of (sketch_view l.sketch) (at_in (sketch_view l.sketch)) l.values) l.channel
