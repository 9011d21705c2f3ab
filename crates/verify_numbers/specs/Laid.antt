-- The nodes of a sketch one behind the other.
use Rattle.std.specs.Prelude.{ℕ, suc, List, [], ◌∷◌, ◌++◌, length, map}
use Rattle.verify_sketches.specs.Sketches.{Sketch, SketchedBlock, SketchedChannel, SketchedStart}
use Rattle.verify_sketches.specs.Numbered.{Node, whole_node, own_node, stages_node, connected_node, group_node, program_node, blocks_node, place_node, start_node, block_node, passes_node, next_node}
use Rattle.verify_numbers.specs.Counts.{at_in}
use Rattle.verify_numbers.specs.declared.channel_nodes.ChannelPart.{ChannelPart}
use Rattle.verify_numbers.specs.declared.channel_nodes.ChannelPart.TheVariants as of_channel
use Rattle.verify_numbers.specs.declared.program_nodes.ProgramPart.{ProgramPart}
use Rattle.verify_numbers.specs.declared.program_nodes.ProgramPart.TheVariants as of_program
use Rattle.verify_numbers.specs.declared.block_nodes.BlockPart.{BlockPart}
use Rattle.verify_numbers.specs.declared.block_nodes.BlockPart.TheVariants as of_block

-- something for each of some things and its number, where the first has this one
abbrev pub numbered : {A : Type 0} → (ℕ → A → Node) → ℕ → List A → List Node
numbered f number [] = []
numbered f number (x ∷ xs) = f number x ∷ numbered f (suc number) xs

-- ** one node

abbrev pub channel_node : Sketch → (handlers : ℕ) → ChannelPart → ℕ → SketchedChannel → Node
channel_node s handlers of_channel.Whole number k = whole_node (at_in s) number k
channel_node s handlers of_channel.Own number k = own_node s (at_in s) number k
channel_node s handlers of_channel.Stages number k = stages_node s (at_in s) number k
channel_node s handlers of_channel.Connected number k = connected_node s (at_in s) handlers number k

abbrev pub program_part_node : Sketch → ProgramPart → ℕ → List SketchedBlock → Node
program_part_node s of_program.Program number bs = program_node (at_in s) number bs
program_part_node s of_program.Blocks number bs = blocks_node (at_in s) number bs

abbrev pub block_part_node : Sketch → BlockPart → (program count number : ℕ) → SketchedBlock → Node
block_part_node s of_block.Block p count number b = block_node s (at_in s) p number b
block_part_node s of_block.Passes p count number b = passes_node s (at_in s) p number b
block_part_node s of_block.Next p count number b = next_node (at_in s) p count number b

-- ** nodes of one sort

abbrev pub channel_nodes : Sketch → (handlers : ℕ) → ChannelPart → List Node
channel_nodes s handlers part = numbered (channel_node s handlers part) 0 s.channels

abbrev pub group_nodes : Sketch → List Node
group_nodes s = numbered (group_node s (at_in s)) 0 s.groups

abbrev pub program_nodes : Sketch → ProgramPart → List Node
program_nodes s part = numbered (program_part_node s part) 0 s.programs

abbrev pub place_nodes : Sketch → List Node
place_nodes s = numbered (place_node s (at_in s)) 0 s.paired

abbrev pub start_nodes : Sketch → List Node
start_nodes s = numbered (start_node s (at_in s)) 0 s.starts

-- of the blocks of a program
abbrev pub nodes_in_program : Sketch → BlockPart → ℕ → List SketchedBlock → List Node
nodes_in_program s part p bs = numbered (block_part_node s part p (length bs)) 0 bs

-- of those of some programs, where the first has this number
abbrev pub block_nodes_from : Sketch → BlockPart → ℕ → List (List SketchedBlock) → List Node
block_nodes_from s part p [] = []
block_nodes_from s part p (bs ∷ more) = nodes_in_program s part p bs ++ block_nodes_from s part (suc p) more

abbrev pub block_nodes : Sketch → BlockPart → List Node
block_nodes s part = block_nodes_from s part 0 s.programs

-- ** all nodes

abbrev pub all_of_channels : Sketch → (handlers : ℕ) → List Node
all_of_channels s handlers =
    channel_nodes s handlers of_channel.Whole
    ++ (channel_nodes s handlers of_channel.Own
    ++ (channel_nodes s handlers of_channel.Stages ++ channel_nodes s handlers of_channel.Connected))

abbrev pub all_of_programs : Sketch → List Node
all_of_programs s =
    group_nodes s
    ++ (program_nodes s of_program.Program ++ (program_nodes s of_program.Blocks ++ (place_nodes s ++ start_nodes s)))

abbrev pub all_of_blocks : Sketch → List Node
all_of_blocks s = block_nodes s of_block.Block ++ (block_nodes s of_block.Passes ++ block_nodes s of_block.Next)

-- the nodes of a sketch, where so many handlers may be connected by bytecode
abbrev pub laid : Sketch → (handlers : ℕ) → List Node
laid s handlers = all_of_channels s handlers ++ (all_of_programs s ++ all_of_blocks s)
