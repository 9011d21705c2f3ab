use Rattle.std.proofs.Common.{List, ap, sym, arith}
use Rattle.ui_machine.specs.Seq.{total}
use Rattle.ui_machine.specs.State.References.{in_register, in_task}
use Rattle.ui_machine.specs.State.Tasks as config
use Rattle.bytecode.specs.Computing.{registers_of}
use Rattle.engine_stack.specs.HeldByTasks.{in_frame}
use Rattle.engine_world.specs.FirstPrograms.{first_frame, rest_of}
use Rattle.engine_world.proofs.Counts.{dropped}
use Rattle.engine_world.proofs.FirstPrograms.{begins}
use Rattle.engine_stack.proofs.FirstPrograms.{frame_found}
use Rattle.engine_world.proofs.program_frames.drop_program.Goals as goal

pub let_go_registers-requires : goal.let_go_registers-requires
let_go_registers-requires c = record {
  held = λ o.
      let e = c.args.engine.now in
      let own = ap (λ (g : config.Frame). in_frame o g) (frame_found e.stack c.in-Some.frame.now (sym c.in-Some.ensures)) in
      let slice = ap (λ rs. total (in_register o) (registers_of rs)) c.as_slice.ensures.value in
      omega (arith, c.requires.held o, own, slice);
}

pub returns-clause-counts : goal.returns-clause-counts
returns-clause-counts c o =
    let e = c.args.engine.now in
    let own = ap (λ (g : config.Frame). in_frame o g) (frame_found e.stack c.in-Some.frame.now (sym c.in-Some.ensures)) in
    let slice = ap (λ rs. total (in_register o) (registers_of rs)) c.as_slice.ensures.value in
    omega (arith, c.let_go_registers.ensures.counts o, own, slice)

pub returns-clause-agenda : goal.returns-clause-agenda
returns-clause-agenda c d = c.drop_program.ensures.tasks d c.args.engine.now.world.handlers.handlers

pub returns-clause-counted : goal.returns-clause-counted
returns-clause-counted c d =
    let e = c.args.engine.now in
    record {
      at = λ taken h.
          dropped d e c.let_go_registers.new.table c.drop_program.new.self taken taken (λ o. in_frame o (first_frame e)) (rest_of d e) c.let_go_registers.ensures.only
          (λ o.
          let own = ap (λ (g : config.Frame). in_frame o g) (frame_found e.stack c.in-Some.frame.now (sym c.in-Some.ensures)) in
          let slice = ap (λ rs. total (in_register o) (registers_of rs)) c.as_slice.ensures.value in
          omega (arith, c.let_go_registers.ensures.counts o, own, slice))
          (λ o. let before = ap (λ (ts : List config.Task). total (in_task o) ts) (begins d e c.requires.first) in omega (arith, before))
          (c.drop_program.ensures.tasks d e.world.handlers.handlers) c.drop_program.ensures.begun h;
    }
