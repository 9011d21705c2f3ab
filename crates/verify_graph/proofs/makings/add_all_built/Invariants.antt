use Rattle.std.proofs.Common.{◌≡◌, ◌++◌, drop, map}
use Rattle.ui_machine.specs.Definition.Lookups.{specs_of}
use Rattle.definition_format.specs.Meaning.{given_property}
use Rattle.law_typing.specs.Graph.{set_from}
use Rattle.law_typing.specs.Graph.Channels.{present}
use Rattle.verify_graph.specs.ChannelView.{channels_of}
use Rattle.verify_graph.proofs.makings.add_all_built.Given as goal

abbrev pub invariant-loop-slot : goal.invariant-loop-slot
invariant-loop-slot l =
    channels_of l.channels.items ++ present l.lookups (set_from l.place.0 (map given_property l.given) l.slot (drop l.slot (specs_of l.lookups l.class)))
    ≡ channels_of l.initial.channels.items ++ present l.lookups (set_from l.place.0 (map given_property l.given) 0 (specs_of l.lookups l.class))
