use Rattle.std.proofs.Common.{◌≡◌}
use Rattle.std.specs.List.{flat_map}
use Rattle.ui_machine.specs.Seq.{listed}
use Rattle.law_typing.specs.Graph.Channels.{property}
use Rattle.verify_graph.specs.Numbers.{number_of}
use Rattle.verify_graph.specs.Paired.{if_paired}
use Rattle.verify_graph.proofs.paired_properties.paired_at.Given as goal

abbrev pub invariant-loop-slot : goal.invariant-loop-slot
invariant-loop-slot l = l.paired.items ≡ flat_map (λ slot. if_paired l.others (number_of l.numbers (property l.place.0 slot))) (listed (λ slot. slot) l.slot)
