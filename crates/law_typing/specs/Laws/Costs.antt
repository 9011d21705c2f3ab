-- What the equations of costs and depths give: a number of a table is at least each part that is added to it.
use Rattle.std.specs.Prelude.{◌≡◌, ℕ, suc, ◌+◌, ◌*◌, ◌≤◌, ◌<◌, true, List, ◌∷◌, Option, None, Some, slice_get}
use Rattle.ui_machine.specs.Seq.{total}
use Rattle.ui_machine.specs.Definition.{Definition}
use Rattle.ui_machine.specs.Definition.Programs.{Instruction}
use Rattle.ui_machine.specs.Definition.Programs as words
use Rattle.ui_machine.specs.Definition.Lookups.{slot_of}
use Rattle.ui_machine.specs.Rules.Connections.{signal_number}
use Rattle.law_typing.specs.Rules.RegisterKinds.{Kinds, kind_in, class_at, covers}
use Rattle.law_typing.specs.Graph.Channels.{Channel, property, signal, is_channel}
use Rattle.law_typing.specs.Graph.{Graph, Raised, Start, raises, makes, Stretch, start_of}
use Rattle.law_typing.specs.Graph.Tables.{entry, Tables, of_program, greatest}
use Rattle.law_typing.specs.Graph.Ranks.{running_at}
use Rattle.law_typing.specs.Graph.Costs.{SolvesCosts, other_end, node_cost, start_cost, starts_cost, passes_cost, stretch_cost, program_cost, block_cost, code_cost, emission_cost, channel_cost}
use Rattle.law_typing.specs.Graph.Depths.{SolvesDepths, raised_of, start_depth, program_depth, channel_depth, making_depth}
use Rattle.law_typing.specs.Verdict.Accepted.{Each}
use Rattle.law_typing.specs.Laws.{IsIn}

-- ** the equations, one by one

-- each channel of the graph costs what its entry says, and each program its costliest path
abbrev pub CostsSolved : Type 0
CostsSolved =
    (g : Graph) (t : Tables) → SolvesCosts g t →
    ((c : Channel) (r : Raised) → raised_of g c ≡ Some r → entry t.channels c ≡ channel_cost g t r)
    × ((q : ℕ) (stretches : List Stretch) → slice_get g.programs q ≡ Some stretches → of_program t q ≡ program_cost g t stretches)

-- each channel of the graph is as deep as its entry says, and each program as its deepest path
abbrev pub DepthsSolved : Type 0
DepthsSolved =
    (g : Graph) (t : Tables) → SolvesDepths g t →
    ((c : Channel) (r : Raised) → raised_of g c ≡ Some r → entry t.channels c ≡ channel_depth g t r)
    × ((q : ℕ) (stretches : List Stretch) → slice_get g.programs q ≡ Some stretches → of_program t q ≡ program_depth t stretches)

-- ** costs

-- what is raised at a channel costs more than the class handler at all its stages, than each of the objects' handlers, than as many as may
-- be connected of each connectable program, and than each transfer with its target
pub record EmissionCovers (g : Graph) (t : Tables) (r : Raised) : Type 0 where
  pub class_handler : (q : ℕ) → IsIn q r.class_handler → 1 + r.stages * of_program t q ≤ emission_cost g t r
  pub handlers : (q : ℕ) → IsIn q r.handlers → 1 + of_program t q ≤ emission_cost g t r
  pub connectable : (q : ℕ) → IsIn q r.connectable → 1 + g.most_handlers * of_program t q ≤ emission_cost g t r
  pub targets : (c : Channel) → IsIn c r.targets → 1 + (1 + node_cost g t c) ≤ emission_cost g t r

abbrev pub EmissionsCover : Type 0
EmissionsCover = (g : Graph) (t : Tables) (r : Raised) → EmissionCovers g t r

-- a pair costs both of its ends and one transfer
abbrev pub PairsCover : Type 0
PairsCover =
    (g : Graph) (t : Tables) (c : Channel) →
    (other_end g c ≡ None → node_cost g t c ≡ entry t.channels c)
    × ((other : Channel) → other_end g c ≡ Some other → node_cost g t c ≡ entry t.channels c + entry t.channels other + 1)

-- an instruction that may raise one of some channels costs more than each; a new object costs more than all that its making raises
abbrev pub StartsCover : Type 0
StartsCover =
    (g : Graph) (t : Tables) (cs : List Channel) →
    ((c : Channel) → IsIn c cs → node_cost g t c ≤ start_cost g t (raises cs)) × (1 + total (node_cost g t) cs ≡ start_cost g t (makes cs))

-- from an instruction on it costs more than from the next one on
abbrev pub CodeCovers : Type 0
CodeCovers =
    (g : Graph) (t : Tables) (stretches : List Stretch) (s : Start) (starts : List Start) (next : List ℕ) →
    code_cost g t stretches (s ∷ starts) next ≡ 1 + start_cost g t s + code_cost g t stretches starts next

-- a block costs its own part and each next block, where these are later ones
abbrev pub BlocksCover : Type 0
BlocksCover =
    (g : Graph) (t : Tables) (stretches : List Stretch) (block : ℕ) (s : Stretch) → slice_get stretches block ≡ Some s →
    Each (λ to. block < to) s.next →
    stretch_cost g t s + greatest (block_cost g t stretches) s.next ≤ block_cost g t stretches block

-- a block's own part is that of all its instructions, each once, and of its further passes
abbrev pub PassesCover : Type 0
PassesCover =
    (g : Graph) (t : Tables) (s : Stretch) (further : ℕ) → s.passes ≡ suc further →
    stretch_cost g t s ≡ passes_cost g t further s + starts_cost g t s.starts

-- ** what programs raise

-- The place of an operand's object is one that the operand's kind covers; what is set, notified or emitted there is among what the
-- instruction may start.
abbrev pub SetsCover : Type 0
SetsCover =
    (d : Definition) (g : Graph) (t : Tables) (ks : Kinds) (object : ℕ) (name : List ℕ) (from place class slot : ℕ) →
    covers d (kind_in ks object) place ≡ true → class_at d place ≡ Some class → slot_of d class name ≡ Some slot →
    is_channel d (property place slot) ≡ true →
    (node_cost g t (property place slot) ≤ start_cost g t (start_of d ks (words.set object name from)))
    × (node_cost g t (property place slot) ≤ start_cost g t (start_of d ks (words.notify object name)))

abbrev pub EmitsCover : Type 0
EmitsCover =
    (d : Definition) (g : Graph) (t : Tables) (ks : Kinds) (into : Option ℕ) (object : ℕ) (name : List ℕ) (detail : Option (List ℕ))
    (args : List ℕ) (place class number : ℕ) →
    covers d (kind_in ks object) place ≡ true → class_at d place ≡ Some class → signal_number d class name ≡ Some number →
    is_channel d (signal place number) ≡ true →
    node_cost g t (signal place number) ≤ start_cost g t (start_of d ks (words.emit into object name detail args))

-- ** depths

-- a program is deeper than what its instructions may start, an emission deeper than each program that runs there and each target, and a
-- making deeper than what it raises
abbrev pub DepthsCover : Type 0
DepthsCover =
    ((t : Tables) (stretches : List Stretch) (s : Stretch) (i : Start) → IsIn s stretches → IsIn i s.starts →
    1 + start_depth t i ≤ program_depth t stretches)
    × ((g : Graph) (t : Tables) (r : Raised) (place slot : ℕ) (q : ℕ) → r.channel ≡ property place slot → IsIn q (running_at r) →
    1 + of_program t q ≤ channel_depth g t r)
    × ((g : Graph) (t : Tables) (r : Raised) (place number : ℕ) (q : ℕ) → r.channel ≡ signal place number → IsIn q (running_at r) →
    1 + of_program t q ≤ channel_depth g t r)
    × ((g : Graph) (t : Tables) (r : Raised) (place slot : ℕ) (c : Channel) → r.channel ≡ property place slot → IsIn c r.targets →
    1 + entry t.channels c ≤ channel_depth g t r)
    × ((t : Tables) (cs : List Channel) (c : Channel) → IsIn c cs → 1 + entry t.channels c ≤ making_depth t cs)
