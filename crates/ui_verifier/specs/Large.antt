-- Entries whose bound is too large.
use Rattle.std.specs.Prelude.{ℕ, Bool, List, map, nat_lt, Option}
use Rattle.std.specs.List.{find}
use Rattle.ui_machine.specs.Definition.{Definition}
use Rattle.law_typing.specs.Graph.{graph}
use Rattle.law_typing.specs.Graph.Channels.{Channel, Entry, channels}
use Rattle.law_typing.specs.Graph.Channels as entries
use Rattle.law_typing.specs.Graph.Costs.{bound}
use Rattle.law_typing.specs.Graph.Tables.{Tables}
use Rattle.law_typing.specs.Verdict.{most_bound}

-- whether the bound of an entry is too large
abbrev pub is_large : Definition → Tables → Entry → Bool
is_large d t e = nat_lt most_bound (bound (graph d) t e)

-- the first of some channels for which it is
abbrev pub large_channel : Definition → Tables → List Channel → Option Entry
large_channel d t cs = find (is_large d t) (map entries.at cs)

-- and the first of some programs of sources
abbrev pub large_source : Definition → Tables → List ℕ → Option Entry
large_source d t programs = find (is_large d t) (map entries.source programs)
