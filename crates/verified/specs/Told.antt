-- The numbers of an accepted definition, as they are reported.
use Rattle.std.specs.Prelude.{◌≡◌, ℕ, nat_eq, List, map, Option, None, Some, option_map}
use Rattle.std.specs.List.{find}
use Rattle.ui_machine.specs.Seq.{read}
use Rattle.ui_machine.specs.Definition.{Definition}
use Rattle.law_typing.specs.Graph.{graph}
use Rattle.law_typing.specs.Graph.Channels.{Channel, Entry, channels}
use Rattle.law_typing.specs.Graph.Channels as entries
use Rattle.law_typing.specs.Graph.Costs.{bound}
use Rattle.law_typing.specs.Graph.Depths.{depth}
use Rattle.law_typing.specs.Graph.Ranks.{node}
use Rattle.law_typing.specs.Graph.Tables.{Table, Tables, entry}
use Rattle.law_typing.specs.Verdict.Accepted.{Accepted}
use Rattle.law_idle.specs.Idle.{busy_channels}
use Rattle.verify_graph.specs.Numbers.{number_of}
use Rattle.verified.specs.declared.numbers.Numbers.{Numbers}
use Rattle.verified.specs.declared.numbers.SourceBound.{SourceBound}

-- ** numbers that are kept

-- a source's program and its bound
abbrev pub source_view : SourceBound → ℕ × ℕ
source_view s = (s.program, s.bound)

-- the bound of the first of some sources that runs the program
abbrev pub bound_in : ℕ → List SourceBound → Option ℕ
bound_in program ss = option_map (λ (s : SourceBound). s.bound) (find (λ (s : SourceBound). nat_eq s.program program) ss)

-- the value at the number of a channel, if it has one, or else that of an idle channel
abbrev pub value_at : {A : Type 0} → List A → (idle : A) → Option ℕ → A
value_at values idle None = idle
value_at values idle (Some number) = read idle values number

-- the value of a channel, where the busy channels have values
abbrev pub value_among : {A : Type 0} → List Channel → List A → (idle : A) → Channel → A
value_among busy values idle c = value_at values idle (number_of busy c)

-- the rank that is kept for a channel; that of an idle one is 0
abbrev pub told_rank : Definition → Numbers → Channel → ℕ
told_rank d n c = value_among (busy_channels d) n.ranks.items 0 c

-- and its bound
abbrev pub told_bound : Definition → Numbers → Channel → ℕ
told_bound d n c = value_among (busy_channels d) n.bounds.items n.idle c

-- numbers that say the ranks, bounds and depth of these tables
pub record AreTold (d : Definition) (n : Numbers) (by_rank : Table) (by_cost by_depth : Tables) : Type 0 where
  pub ranks : map (told_rank d n) (channels d) ≡ map (λ (c : Channel). entry by_rank (node (graph d) c)) (channels d)
  pub bounds : map (told_bound d n) (channels d) ≡ map (λ (c : Channel). bound (graph d) by_cost (entries.at c)) (channels d)
  pub build : n.build ≡ bound (graph d) by_cost entries.build
  pub sources : map source_view n.sources.items ≡ map (λ (p : ℕ). (p, bound (graph d) by_cost (entries.source p))) (graph d).sources
  pub depth : n.depth ≡ depth (graph d) by_depth

-- numbers that are those of an accepted definition
abbrev pub AreNumbersOf : (d : Definition) → Numbers → Accepted d → Type 0
AreNumbersOf d n a = AreTold d n a.weighed.ranks a.weighed.costs a.weighed.depths

-- an accepted definition with its busy channels, in the order of the report, and its numbers
pub record IsVerified (d : Definition) (busy : List Channel) (n : Numbers) : Type 0 where
  pub busy_channels : busy ≡ busy_channels d
  pub accepted : Accepted d
  pub numbers : AreNumbersOf d n accepted

-- ** numbers that are asked for

-- the rank of a channel's node
abbrev pub rank_of : (d : Definition) → Accepted d → Channel → ℕ
rank_of d a c = entry a.weighed.ranks (node (graph d) c)

-- the most counted steps of a dispatch that begins so
abbrev pub bound_of : (d : Definition) → Accepted d → Entry → ℕ
bound_of d a e = bound (graph d) a.weighed.costs e

-- the most frames of any configuration
abbrev pub depth_of : (d : Definition) → Accepted d → ℕ
depth_of d a = depth (graph d) a.weighed.depths

-- a number that is the rank of a channel, however the definition is accepted
abbrev pub IsRank : Definition → Channel → ℕ → Type 0
IsRank d c n = (a : Accepted d) → n ≡ rank_of d a c

-- a number that is the bound of an entry
abbrev pub IsBound : Definition → Entry → ℕ → Type 0
IsBound d e n = (a : Accepted d) → n ≡ bound_of d a e

-- a number that is the depth
abbrev pub IsDepth : Definition → ℕ → Type 0
IsDepth d n = (a : Accepted d) → n ≡ depth_of d a

-- sources' programs, each with a number that is its bound
abbrev pub AreSources : Definition → List SourceBound → Type 0
AreSources d ss = (a : Accepted d) → map source_view ss ≡ map (λ (p : ℕ). (p, bound_of d a (entries.source p))) (graph d).sources
