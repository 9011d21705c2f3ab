-- What an accepted definition's graph has at a channel, and which programs it knows as connectable and as sources.
use Rattle.std.specs.Prelude.{◌≡◌, ℕ, ◌<◌, true, Some}
use Rattle.ui_machine.specs.Definition.{Definition}
use Rattle.ui_machine.specs.Definition.Programs.{Program}
use Rattle.ui_machine.specs.Definition.Lookups.{program_at}
use Rattle.law_typing.specs.Rules.RegisterKinds.{class_at}
use Rattle.law_typing.specs.Rules.Sites.{Site, sites}
use Rattle.law_typing.specs.Graph.Channels.{Channel, is_channel}
use Rattle.law_typing.specs.Graph.{Connection, Raised, graph, raised_at, connections, connection_of, may_be_at, place_of_channel, source_named}
use Rattle.law_typing.specs.Graph.Tables.{entry}
use Rattle.law_typing.specs.Graph.Costs.{channel_cost}
use Rattle.law_typing.specs.Graph.Depths.{raised_of, channel_depth}
use Rattle.law_typing.specs.Verdict.Accepted.{Accepted}
use Rattle.law_typing.specs.Laws.{IsIn}

-- ** channels

-- what runs at a channel of a definition
abbrev pub raised_there : Definition → Channel → Raised
raised_there d c = raised_at d (connections d (sites d)) c

-- a channel that is there is in the graph, with what runs there, and costs what that does
pub record ChannelKnown (d : Definition) (a : Accepted d) (c : Channel) : Type 0 where
  pub found : raised_of (graph d) c ≡ Some (raised_there d c)
  pub known : IsIn (raised_there d c) (graph d).raised
  pub costs : entry a.weighed.costs.channels c ≡ channel_cost (graph d) a.weighed.costs (raised_there d c)
  pub deep : entry a.weighed.depths.channels c ≡ channel_depth (graph d) a.weighed.depths (raised_there d c)

abbrev pub ChannelsKnown : Type 0
ChannelsKnown = (d : Definition) (a : Accepted d) (c : Channel) → is_channel d c ≡ true → ChannelKnown d a c

-- ** programs that instructions name

-- what an instruction connects is connectable wherever it may be
abbrev pub ConnectionsKnown : Type 0
ConnectionsKnown =
    (d : Definition) (site : Site) (n : Connection) (program class : ℕ) (c : Channel) → IsIn site (sites d) →
    connection_of d site.kinds site.instruction ≡ Some n → n.program ≡ Some program → class_at d (place_of_channel c) ≡ Some class →
    may_be_at d c class n ≡ true → 0 < d.most_handlers → IsIn program (raised_there d c).connectable

-- what an instruction makes a source of is a source of the graph
abbrev pub SourcesKnown : Type 0
SourcesKnown =
    (d : Definition) (site : Site) (program : ℕ) (p : Program) → IsIn site (sites d) → source_named d site.instruction ≡ Some program →
    program_at d program ≡ Some p → IsIn program (graph d).sources
