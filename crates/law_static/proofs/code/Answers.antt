use Rattle.law_static.proofs.CodeProofs.{instructions_taken, programs_go_on, programs_wait}
use Rattle.law_static.proofs.BeginProofs.{programs_begin, first_registers_fit}
use Rattle.law_static.proofs.code.Goals as goal

pub returns : goal.returns
returns c = record { taken = instructions_taken; goes_on = programs_go_on; waits = programs_wait; begins = programs_begin; registers = first_registers_fit }
