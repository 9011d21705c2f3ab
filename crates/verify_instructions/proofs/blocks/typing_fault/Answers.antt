use Rattle.std.proofs.Common.{◌∙◌, sym, ap, ◌+◌, drop, option_map, slice_get}
use Rattle.bytecode.specs.View.{program_view}
use Rattle.law_typing.specs.Rules.Sites.{program_faults, typing_faults}
use Rattle.verify_instructions.specs.Faults.{fault_view}
use Rattle.verify_instructions.proofs.CodeSteps.{from_program, no_program, program_stops, program_goes_on}
use Rattle.verify_instructions.proofs.blocks.typing_fault.Goals as goal

pub returns-in_default : goal.returns-in_default
returns-in_default c =
    let d = c.args.lookups.now in
    let n = c.loop-number.number in
    sym (c.loop-number.invariant ∙ ap (λ programs. slice_get (program_faults d n programs) 0) (no_program d.programs n c.in_default.ensures))

pub returns-in-Some-2 : goal.returns-in-Some-2
returns-in-Some-2 c =
    let d = c.args.lookups.now in
    let n = c.loop-number.number in
    let p = program_view c.in-Some.program.now in
    sym (program_stops d n p (drop (n + 1) d.programs) (fault_view c.in-Some-2.fault) (slice_get (typing_faults d) 0)
    (c.loop-number.invariant ∙ ap (λ programs. slice_get (program_faults d n programs) 0) (from_program d.programs n p c.in-Some.ensures))
    (sym c.in_ok-fault.ensures ∙ ap (option_map fault_view) c.in-Some-2.is))

pub loop-number-preserved : goal.loop-number-preserved
loop-number-preserved c =
    let d = c.args.lookups.now in
    let n = c.loop-number.number in
    let p = program_view c.in-Some.program.now in
    program_goes_on d n p (drop (n + 1) d.programs) (slice_get (typing_faults d) 0)
    (c.loop-number.invariant ∙ ap (λ programs. slice_get (program_faults d n programs) 0) (from_program d.programs n p c.in-Some.ensures))
    (sym c.in_ok-fault.ensures ∙ ap (option_map fault_view) c.in_default-2.is)
