-- Costs: how many counted steps what is raised may take at most. A counted step is an instruction, the beginning of an emission, a
-- binding's transfer or a finalisation; the finalisations are not in the costs, but in the bounds.
use Rattle.std.specs.Prelude.{◌≡◌, ℕ, suc, ◌+◌, ◌*◌, ◌-◌, cond, List, [], ◌∷◌, map, Option, None, Some, length}
use Rattle.ui_machine.specs.Seq.{read, total}
use Rattle.law_typing.specs.Graph.Channels.{Channel, same_channel, constructed, property, signal, Entry}
use Rattle.law_typing.specs.Graph.Channels as entries
use Rattle.law_typing.specs.Graph.{Graph, Raised, Start, nothing, raises, makes, thaws, Stretch}
use Rattle.law_typing.specs.Graph.Tables.{entry, Tables, of_program, greatest, same_tables, settled}

-- ** nodes

-- the other end of a pair among these
abbrev pub other_end_in : List (Channel × Channel) → Channel → Option Channel
other_end_in [] c = None
other_end_in (p ∷ pairs) c = cond (same_channel p.0 c) (Some p.1) (cond (same_channel p.1 c) (Some p.0) (other_end_in pairs c))

-- the property that a channel is bound with both ways
abbrev pub other_end : Graph → Channel → Option Channel
other_end g c = other_end_in g.pairs c

-- a channel by itself, or with the other end: each is raised once, and one transfer leads over
abbrev pub with_other : Tables → ℕ → Option Channel → ℕ
with_other t own None = own
with_other t own (Some other) = own + entry t.channels other + 1

-- the cost of a channel's node; one that is not there has 0
abbrev pub node_cost : Graph → Tables → Channel → ℕ
node_cost g t c = with_other t (entry t.channels c) (other_end g c)

-- ** programs

-- what an instruction may start costs, beside the instruction itself: the costliest channel; for a new object its finalisation, its
-- construction and its notifications; for a thaw the costliest of the lists, each channel with its node
abbrev pub start_cost : Graph → Tables → Start → ℕ
start_cost g t nothing = 0
start_cost g t (raises cs) = greatest (node_cost g t) cs
start_cost g t (makes cs) = 1 + total (node_cost g t) cs
start_cost g t (thaws css) = greatest (λ cs. total (node_cost g t) cs) css

-- each instruction of a block, with what it may start
abbrev pub starts_cost : Graph → Tables → List Start → ℕ
starts_cost g t starts = total (λ s. 1 + start_cost g t s) starts

-- what comes before the last of some
abbrev pub before_last : {A : Type 0} → List A → List A
before_last [] = []
before_last (x ∷ []) = []
before_last (x ∷ y ∷ more) = x ∷ before_last (y ∷ more)

-- the last of some, as a list of one; none of none
abbrev pub only_last : {A : Type 0} → List A → List A
only_last [] = []
only_last (x ∷ []) = x ∷ []
only_last (x ∷ y ∷ more) = only_last (y ∷ more)

-- what so many passes over a block's instructions before its last one cost
abbrev pub passes_cost : Graph → Tables → ℕ → Stretch → ℕ
passes_cost g t passes s = passes * starts_cost g t (before_last s.starts)

-- a block's own cost: its instructions before the last as often as it is passed, and the last one
abbrev pub stretch_cost : Graph → Tables → Stretch → ℕ
stretch_cost g t s = passes_cost g t s.passes s + starts_cost g t (only_last s.starts)

-- a block's own cost and the costliest of the next ones, in front of the costs of the blocks after it, where this one has the number n
abbrev pub with_next : Graph → Tables → ℕ → Stretch → List ℕ → List ℕ
with_next g t n s later = (stretch_cost g t s + greatest (λ to. read 0 later (to - suc n)) s.next) ∷ later

-- the costs from each of some blocks to a return, where the first has the number n; a block goes to later ones alone
abbrev pub path_costs : Graph → Tables → ℕ → List Stretch → List ℕ
path_costs g t n [] = []
path_costs g t n (s ∷ more) = with_next g t n s (path_costs g t (suc n) more)

-- a program's costliest path from its first block to a return
abbrev pub program_cost : Graph → Tables → List Stretch → ℕ
program_cost g t stretches = read 0 (path_costs g t 0 stretches) 0

-- the costliest way from the beginning of a block to a return
abbrev pub block_cost : Graph → Tables → List Stretch → ℕ → ℕ
block_cost g t stretches block = read 0 (path_costs g t 0 stretches) block

-- the costliest way from some instruction on, where these are what it and those after it may start, and these the next blocks
abbrev pub code_cost : Graph → Tables → List Stretch → List Start → List ℕ → ℕ
code_cost g t stretches starts next = starts_cost g t starts + greatest (block_cost g t stretches) next

-- ** channels

-- some programs, each once
abbrev pub programs_cost : Tables → List ℕ → ℕ
programs_cost t programs = total (of_program t) programs

-- the bindings that lead from a channel: each its transfer, and the target's node
abbrev pub targets_cost : Graph → Tables → List Channel → ℕ
targets_cost g t targets = total (λ c. 1 + node_cost g t c) targets

-- what an emission at a channel costs: its beginning, the class handler at each of its stages, the objects' handlers, as many of the
-- costliest handlers as bytecode may connect, and the bindings
abbrev pub emission_cost : Graph → Tables → Raised → ℕ
emission_cost g t r =
    1 + r.stages * programs_cost t r.class_handler
    + programs_cost t r.handlers
    + g.most_handlers * greatest (of_program t) r.connectable
    + targets_cost g t r.targets

-- a construction costs its programs
abbrev pub cost_at : Graph → Tables → Raised → Channel → ℕ
cost_at g t r (constructed place) = programs_cost t r.handlers
cost_at g t r (property place slot) = emission_cost g t r
cost_at g t r (signal place number) = emission_cost g t r

-- the cost of a channel without the other end of its pair
abbrev pub channel_cost : Graph → Tables → Raised → ℕ
channel_cost g t r = cost_at g t r r.channel

-- ** the equations

-- the costs of all programs, by those of the channels
abbrev pub programs_by : Graph → Tables → Tables
programs_by g t = record t { programs = map (program_cost g t) g.programs }

-- the costs of all channels, by those of the programs and of the other channels
abbrev pub channels_by : Graph → Tables → Tables
channels_by g t = record t { channels = map (λ (r : Raised). (r.channel, channel_cost g t r)) g.raised }

-- the tables are the costs of the graph: each channel and each program costs what its parts do
pub record SolvesCosts (g : Graph) (t : Tables) : Type 0 where
  pub channels : t.channels ≡ (channels_by g t).channels
  pub programs : t.programs ≡ (programs_by g t).programs

-- before anything is reckoned
abbrev pub no_tables : Graph → Tables
no_tables g = record { channels = map (λ (r : Raised). (r.channel, 0)) g.raised; programs = map (λ (p : List Stretch). 0) g.programs }

-- the costs, where the graph has no cycle: they are reached in as many goes as there are channels, and three
abbrev pub costs : Graph → Option Tables
costs g = settled same_tables (3 + length g.raised) (λ t. channels_by g (programs_by g t)) (no_tables g)

-- ** entries

-- the making of an object: its construction, and the notifications of its built properties
abbrev pub making_cost : Graph → Tables → List Channel → ℕ
making_cost g t raised = total (node_cost g t) raised

-- the build: its makings, its forward values, and the bindings that it carries out
abbrev pub build_cost : Graph → Tables → ℕ
build_cost g t = total (making_cost g t) g.built + total (node_cost g t) g.forwards + targets_cost g t g.created

-- what a dispatch costs that begins so
abbrev pub cost : Graph → Tables → Entry → ℕ
cost g t entries.build = build_cost g t
cost g t (entries.at c) = node_cost g t c
cost g t (entries.source program) = of_program t program
cost g t entries.plain = 0

-- the most counted steps of a dispatch: its cost, and the finalisation of each object that may live
abbrev pub bound : Graph → Tables → Entry → ℕ
bound g t e = cost g t e + g.most_objects
