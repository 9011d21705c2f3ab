-- Depths: how many frames may lie on each other, of programs, emissions and constructions.
use Rattle.std.specs.Prelude.{◌≡◌, ℕ, max, ◌+◌, List, length, map, Option, None, Some}
use Rattle.std.specs.List.{find}
use Rattle.law_typing.specs.Graph.Channels.{Channel, same_channel, constructed, property, signal}
use Rattle.law_typing.specs.Graph.{Graph, Raised, Start, nothing, raises, makes, thaws, Stretch}
use Rattle.law_typing.specs.Graph.Tables.{entry, Tables, of_program, greatest, same_tables, settled}
use Rattle.law_typing.specs.Graph.Ranks.{running_at}
use Rattle.law_typing.specs.Graph.Costs.{other_end, no_tables}

-- the greatest depth of some channels
abbrev pub deepest : Tables → List Channel → ℕ
deepest t cs = greatest (entry t.channels) cs

-- ** programs

-- the frames that an instruction may need; for a new object that of its construction and those above it
abbrev pub start_depth : Tables → Start → ℕ
start_depth t nothing = 0
start_depth t (raises cs) = deepest t cs
start_depth t (makes cs) = 1 + deepest t cs
start_depth t (thaws css) = greatest (deepest t) css

-- a program's frame, and the most that an instruction of it needs
abbrev pub program_depth : Tables → List Stretch → ℕ
program_depth t stretches = 1 + greatest (λ (s : Stretch). greatest (start_depth t) s.starts) stretches

-- ** channels

-- the most of what runs at a channel and of the bindings that lead from it
abbrev pub depth_within : Tables → Raised → ℕ
depth_within t r = max (greatest (of_program t) (running_at r)) (deepest t r.targets)

-- what runs at a channel that may be missing
abbrev pub depth_within_if : Tables → Option Raised → ℕ
depth_within_if t None = 0
depth_within_if t (Some r) = depth_within t r

-- the entry of a channel in the graph
abbrev pub raised_of : Graph → Channel → Option Raised
raised_of g c = find (λ (r : Raised). same_channel r.channel c) g.raised

-- a property's emission, and in a pair that of the other end as well, with the most of what runs at either
abbrev pub property_depth : Graph → Tables → Raised → Option Channel → ℕ
property_depth g t r None = 1 + depth_within t r
property_depth g t r (Some other) = 2 + max (depth_within t r) (depth_within_if t (raised_of g other))

-- a construction has no frame of its own here, a signal that of its emission
abbrev pub depth_at : Graph → Tables → Raised → Channel → ℕ
depth_at g t r (constructed place) = depth_within t r
depth_at g t r (property place slot) = property_depth g t r (other_end g (property place slot))
depth_at g t r (signal place number) = 1 + depth_within t r

-- the depth of a channel
abbrev pub channel_depth : Graph → Tables → Raised → ℕ
channel_depth g t r = depth_at g t r r.channel

-- ** the equations

-- the depths of all programs, by those of the channels
abbrev pub programs_by : Graph → Tables → Tables
programs_by g t = record t { programs = map (program_depth t) g.programs }

-- the depths of all channels, by those of the programs and of the other channels
abbrev pub channels_by : Graph → Tables → Tables
channels_by g t = record t { channels = map (λ (r : Raised). (r.channel, channel_depth g t r)) g.raised }

-- the tables are the depths of the graph
pub record SolvesDepths (g : Graph) (t : Tables) : Type 0 where
  pub channels : t.channels ≡ (channels_by g t).channels
  pub programs : t.programs ≡ (programs_by g t).programs

-- the depths, where the graph has no cycle
abbrev pub depths : Graph → Option Tables
depths g = settled same_tables (3 + length g.raised) (λ t. channels_by g (programs_by g t)) (no_tables g)

-- the making of an object: its construction's frame, and the most above it
abbrev pub making_depth : Tables → List Channel → ℕ
making_depth t raised = 1 + deepest t raised

-- the most frames of any configuration: the greatest depth of a channel, a program or a making
abbrev pub depth : Graph → Tables → ℕ
depth g t = max (greatest (λ (x : Channel × ℕ). x.1) t.channels) (max (greatest (λ n. n) t.programs) (greatest (making_depth t) g.makings))
