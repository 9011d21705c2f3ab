-- What a dispatch begins with.
use Rattle.std.specs.Prelude.{Bool, true, nat_eq}
use Rattle.std.specs.List.{list_any}
use Rattle.ui_machine.specs.declared.ids.Entry as code
use Rattle.ui_machine.specs.declared.ids.Entry.TheVariants as of_code
use Rattle.ui_machine.specs.Definition.{Definition}
use Rattle.law_typing.specs.Graph.{graph}
use Rattle.law_typing.specs.Graph.Channels.{Entry, is_channel}
use Rattle.law_typing.specs.Graph.Channels as entries
use Rattle.verify_graph.specs.ChannelView.{channel_of}

-- an entry of the code as one of the law
abbrev pub entry_of : code.Entry → Entry
entry_of of_code.Build = entries.build
entry_of (of_code.At c) = entries.at (channel_of c)
entry_of (of_code.Source program) = entries.source program
entry_of of_code.Plain = entries.plain

-- whether a dispatch of the definition may begin so: a channel has to be one of its channels, and a program that of a source
abbrev pub is_entry : Definition → Entry → Bool
is_entry d entries.build = true
is_entry d (entries.at c) = is_channel d c
is_entry d (entries.source program) = list_any (nat_eq program) (graph d).sources
is_entry d entries.plain = true
