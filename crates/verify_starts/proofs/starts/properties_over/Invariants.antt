use Rattle.std.proofs.Common.{◌≡◌}
use Rattle.std.specs.List.{filter, filter_map}
use Rattle.ui_machine.specs.Seq.{listed}
use Rattle.ui_machine.specs.Definition.Lookups.{slot_of}
use Rattle.bytecode.specs.View.{register_kind_view}
use Rattle.law_typing.specs.Graph.{channel_over}
use Rattle.law_typing.specs.Graph.Channels.{property}
use Rattle.law_typing.specs.Rules.RegisterKinds.{covers}
use Rattle.verify_graph.specs.Numbers.{numbers_of}
use Rattle.verify_starts.proofs.starts.properties_over.Given as goal

abbrev pub invariant-loop-place : goal.invariant-loop-place
invariant-loop-place l =
    l.found.items
    ≡ numbers_of l.numbers
    (filter_map (channel_over l.lookups (λ class. slot_of l.lookups class l.name) property) (filter (covers l.lookups (register_kind_view l.kind)) (listed (λ place. place) l.place)))
