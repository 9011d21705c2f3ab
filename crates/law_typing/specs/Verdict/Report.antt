-- The report of a definition, as lines of bytes.
use Rattle.std.specs.Prelude.{ℕ, List, [], ◌∷◌, ◌++◌, codes, decimal, map, Option, None, Some}
use Rattle.ui_machine.specs.Definition.Properties.{Spec}
use Rattle.ui_machine.specs.Definition.{Definition}
use Rattle.ui_machine.specs.Definition.Signals.{Signal}
use Rattle.ui_machine.specs.Definition.Places.{Place}
use Rattle.ui_machine.specs.Definition.Programs.{Program}
use Rattle.ui_machine.specs.Definition.Lookups.{place_at, program_at}
use Rattle.ui_machine.specs.Rules.EmissionPlan.{signal_of}
use Rattle.law_typing.specs.Rules.RegisterKinds.{class_at}
use Rattle.law_typing.specs.Graph.Channels.{Channel, constructed, property, signal, Entry, spec_at}
use Rattle.law_typing.specs.Graph.Channels as entries
use Rattle.law_typing.specs.Graph.{Graph, Raised}
use Rattle.law_typing.specs.Graph.Tables.{Table, entry, Tables}
use Rattle.law_typing.specs.Graph.Ranks.{node}
use Rattle.law_typing.specs.Graph.Costs.{bound}
use Rattle.law_typing.specs.Graph.Depths.{depth}

-- ** names

abbrev pub id_of : Definition → ℕ → List ℕ
id_of d place = of (place_at d place)
  where
    of : Option Place → List ℕ
    of None = []
    of (Some p) = p.id

abbrev pub property_name : Option Spec → List ℕ
property_name None = []
property_name (Some s) = s.name

abbrev pub signal_name : Option Signal → List ℕ
signal_name None = []
signal_name (Some s) = s.name

-- the name of a signal of a place
abbrev pub name_of_signal : Definition → ℕ → Option ℕ → List ℕ
name_of_signal d number None = []
name_of_signal d number (Some class) = signal_name (signal_of d class number)

abbrev pub name_of_program : Option Program → List ℕ
name_of_program None = []
name_of_program (Some p) = p.name

-- ** lines

-- a channel as it is called
abbrev pub text_of_channel : Definition → Channel → List ℕ
text_of_channel d (constructed place) = codes "constructed " ++ id_of d place
text_of_channel d (property place slot) = codes "property " ++ (id_of d place ++ (codes "." ++ property_name (spec_at d place slot)))
text_of_channel d (signal place number) = codes "signal " ++ (id_of d place ++ (codes "." ++ name_of_signal d number (class_at d place)))

-- a number after a word
abbrev pub numbered : List ℕ → ℕ → List ℕ
numbered word n = word ++ decimal n

-- the line of a channel
abbrev pub channel_line : Definition → Graph → Table → Tables → Channel → List ℕ
channel_line d g ranks costs c =
    text_of_channel d c ++ (numbered (codes " rank ") (entry ranks (node g c)) ++ numbered (codes " bound ") (bound g costs (entries.at c)))

-- the line of a source's program
abbrev pub source_line : Definition → Graph → Tables → ℕ → List ℕ
source_line d g costs program =
    codes "source " ++ (name_of_program (program_at d program) ++ numbered (codes " bound ") (bound g costs (entries.source program)))

-- the report, by these ranks, costs and depths
abbrev pub report : Definition → Graph → Table → Tables → Tables → List (List ℕ)
report d g ranks costs depths =
    numbered (codes "depth ") (depth g depths)
    ∷ numbered (codes "build bound ") (bound g costs entries.build)
    ∷ (map (λ (r : Raised). channel_line d g ranks costs r.channel) g.raised ++ map (source_line d g costs) g.sources)
