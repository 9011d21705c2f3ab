-- Which peer a task closes.
use Rattle.std.specs.Prelude.{ℕ, Bool, true, false, Err, List, ◌∷◌, None, Ok, Option, Some, slice_get}
use Rattle.ui_machine.specs.Definition.{Definition}
use Rattle.ui_machine.specs.Definition.Programs.{Block, Instruction}
use Rattle.ui_machine.specs.Definition.Programs as words
use Rattle.ui_machine.specs.Instructions.Jumps.{block_in, in_pass}
use Rattle.ui_machine.specs.Outcome.{Answer}
use Rattle.ui_machine.specs.State.Peers.{Peer}
use Rattle.ui_machine.specs.State.Tasks.{Frame, Running, Task}
use Rattle.engine_world.specs.SeatView.{closed_at}

-- the peers once that of a number was closed, if one was
abbrev pub after_closing : Option ℕ → List Peer → List Peer
after_closing None peers = peers
after_closing (Some number) peers = closed_at peers number

-- whether an instruction is `dispose`
abbrev pub disposes_by : Option Instruction → Bool
disposes_by (Some (words.dispose object)) = true
disposes_by _ = false

-- whether the next one of a program is
abbrev pub disposes_next : Frame → Answer Block → Bool
disposes_next f (Err arm) = false
disposes_next f (Ok b) = disposes_by (slice_get b.code (in_pass b f).at)

-- whether the first task may close a peer
abbrev pub first_closes : Definition → List Task → Bool
first_closes d (Running f ∷ rest) = disposes_next f (block_in d f)
first_closes d _ = false
