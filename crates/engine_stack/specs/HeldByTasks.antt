-- What a task holds: its subject, and what it names beside that.
use Rattle.std.specs.Prelude.{ℕ, ◌+◌}
use Rattle.ui_machine.specs.Seq.{total}
use Rattle.ui_machine.specs.State.References.{same, in_value, in_register, in_task}
use Rattle.ui_machine.specs.State.Tasks.{Emission, Frame, Task, Beginning, Calling, Emitting, Running}

-- what an emission holds beside its object: its arguments, and the value that it has accumulated
abbrev pub in_emitted : ℕ → Emission → ℕ
in_emitted o e = total (in_value o) e.args + in_register o e.value

-- what a program that runs holds: what its registers name
abbrev pub in_frame : ℕ → Frame → ℕ
in_frame o f = total (in_register o) f.registers

-- what a task holds beside its subject
abbrev pub in_given : ℕ → Task → ℕ
in_given o (Beginning emission) = in_emitted o emission
in_given o (Emitting emission entries) = in_emitted o emission
in_given o (Running frame) = in_frame o frame
in_given o (Calling call) = total (in_value o) call.args
in_given o _ = 0

-- the object that a task holds; it is let go once the task is done
abbrev pub in_subject : ℕ → Task → ℕ
in_subject o (Beginning emission) = same o emission.object
in_subject o (Emitting emission entries) = same o emission.object
in_subject o (Running frame) = 0
in_subject o (Calling call) = same o call.object
in_subject o task = in_task o task
