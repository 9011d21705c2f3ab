use Rattle.std.proofs.Common.{List, refl, ap, map, arith}
use Rattle.ui_machine.specs.Rules.Programs.{first_frame}
use Rattle.ui_machine.specs.Seq.{total}
use Rattle.ui_machine.specs.State.References.{in_register, in_task}
use Rattle.ui_machine.specs.State.Tasks.{Task}
use Rattle.bytecode.specs.Computing.{registers_of}
use Rattle.bytecode.specs.View.{program_view}
use Rattle.frames.specs.FrameView.{set_values}
use Rattle.engine_world.specs.View.{held_of}
use Rattle.engine_world.specs.TaskView.{agenda_of}
use Rattle.engine_stack.specs.TaskView.{tasks_of}
use Rattle.engine_world.proofs.Begun.{first_total, set_total}
use Rattle.engine_world.proofs.Counts.{keeps_by, holder_more}
use Rattle.engine_world.proofs.Held.{may_by, may_less}
use Rattle.engine_world.proofs.Rooms.{registers_most}
use Rattle.engine_world.proofs.program_frames.push_program.Goals as goal

pub hold_registers-requires : goal.hold_registers-requires
hold_registers-requires c = record {
  may =
      let e = c.args.engine.now in
      let rs = c.args.values.now.items in
      may_less e.world.table (λ o. total (in_register o) (registers_of rs)) _ (λ o. let slice = ap (λ rs. total (in_register o) (registers_of rs)) c.as_slice.ensures.value in omega (arith, slice))
      (may_by e _ c.never_full.ensures.room (λ o. registers_most o c.args.values.now) c.requires.may);
}

pub returns-clause-agenda : goal.returns-clause-agenda
returns-clause-agenda c d = c.push_program.ensures.tasks d c.args.engine.now.world.handlers.handlers (set_values (registers_of c.args.values.now.items)) c.requires.set

pub returns-clause-counted : goal.returns-clause-counted
returns-clause-counted c d =
    let e = c.args.engine.now in
    let b = map held_of e.world.builder.items in
    let hs = e.world.handlers.handlers in
    let rs = registers_of c.args.values.now.items in
    let p = program_view c.args.program.now in
    let f = first_frame c.args.number p (set_values rs) in
    keeps_by d e _ refl refl (λ g. g) refl (λ h. record { most = h.most; to_come = h.to_come; begun = c.push_program.ensures.begun e.world.handlers.last h.begun }) (λ taken _ h.
    holder_more d taken e.world.table c.hold_registers.new.table b b (agenda_of d e) (tasks_of d hs c.push_program.new.self) (λ o. total (in_register o) rs) c.hold_registers.ensures.only
    (λ o. let slice = ap (λ rs. total (in_register o) (registers_of rs)) c.as_slice.ensures.value in omega (arith, c.hold_registers.ensures.counts o, slice))
    (λ o. omega (arith, ap (λ (ts : List Task). total (in_task o) ts) (c.push_program.ensures.tasks d hs (set_values rs) c.requires.set), first_total o p (set_values rs), set_total o rs c.requires.set)) h)
