-- Links of a cycle by the numbers of channels, and what nodes are for.
use Rattle.std.specs.Prelude.{◌≡◌, ◌<◌, ◌++◌, ℕ, IfSome, List, ◌∷◌, length, drop, take, map, Option, None, Some, slice_get}
use Rattle.law_typing.specs.Graph.{Graph}
use Rattle.law_typing.specs.Graph.Channels.{Cause, Link}
use Rattle.law_typing.specs.Graph.Channels as causes
use Rattle.verify_numbers.specs.Cycles.{channel_numbered, links_of}
use Rattle.verify_sketches.specs.Sketches.{Sketch}
use Rattle.verify_numbers.specs.Counts.{Counts, counts_of}
use Rattle.verify_numbers.specs.Laid.{laid}
use Rattle.verify_sketches.specs.Numbered.{Node, Part, whole, own, stages, connected, group, program, blocks, place, start, block, passes, next}
use Rattle.verify_numbers.specs.declared.cycle_links.SketchedLink.{SketchedLink}
use Rattle.verify_numbers.specs.declared.cycle_links.NodePart.{NodePart}
use Rattle.verify_numbers.specs.declared.cycle_links.NodePart.TheVariants as parts

-- a program, or a binding
abbrev pub cause_of : Option ℕ → Cause
cause_of None = causes.binding
cause_of (Some p) = causes.program p

abbrev pub link_view : Graph → SketchedLink → Link
link_view g l = record { from = channel_numbered g l.from; by = cause_of l.by }

abbrev pub links_view : Graph → List SketchedLink → List Link
links_view g links = map (link_view g) links

-- what a node is for; a number without a node is for nothing that counts
abbrev pub part_or : Option Node → Part
part_or None = next 0 0
part_or (Some y) = y.part

abbrev pub part_at : List Node → ℕ → Part
part_at nodes number = part_or (slice_get nodes number)

abbrev pub parts_at : List Node → List ℕ → List Part
parts_at nodes numbers = map (part_at nodes) numbers

-- neither a channel nor a program
abbrev pub IsOther : Part → Type 0
IsOther (whole i) = ⊥
IsOther (program i) = ⊥
IsOther (own i) = Unit {0}
IsOther (stages i) = Unit {0}
IsOther (connected i) = Unit {0}
IsOther (group i) = Unit {0}
IsOther (blocks i) = Unit {0}
IsOther (place i) = Unit {0}
IsOther (start i) = Unit {0}
IsOther (block p i) = Unit {0}
IsOther (passes p i) = Unit {0}
IsOther (next p i) = Unit {0}

-- what the code says of a part
abbrev pub Describes : NodePart → Part → Type 0
Describes (parts.Channel i) x = x ≡ whole i
Describes (parts.Program p) x = x ≡ program p
Describes parts.Other x = IsOther x

-- a part that is a program has a number below this
abbrev pub PartBelow : ℕ → NodePart → Type 0
PartBelow count (parts.Channel i) = Unit {0}
PartBelow count (parts.Program p) = p < count
PartBelow count parts.Other = Unit {0}

-- the program that a link names, if any, has a number below this
abbrev pub NamesBelow : ℕ → SketchedLink → Type 0
NamesBelow count l = IfSome l.by (λ p. p < count)

-- the links of a cycle of nodes, from one of its channels on
abbrev pub ComesOfCycle : Counts → List ℕ → List SketchedLink → Type 0
ComesOfCycle c cycle links =
    (first channel : ℕ) × (rest : List ℕ) × (first < length cycle) × (drop first cycle ++ take first cycle ≡ channel ∷ rest) × (channel < c.channels)
    × ((g : Graph) (s : Sketch) (handlers : ℕ) → c ≡ counts_of s → links_view g links ≡ links_of g channel (parts_at (laid s handlers) rest))
