use Rattle.std.proofs.Common.{List, refl, ap, map, arith}
use Rattle.ui_machine.specs.Seq.{total}
use Rattle.ui_machine.specs.State.References.{in_task}
use Rattle.ui_machine.specs.State.Tasks.{Task}
use Rattle.engine_world.specs.Counting.{MayHold}
use Rattle.engine_stack.specs.HeldByTasks.{in_subject}
use Rattle.engine_world.specs.View.{held_of}
use Rattle.engine_world.specs.TaskView.{task_in, agenda_of}
use Rattle.engine_stack.specs.TaskView.{task_of, tasks_of}
use Rattle.engine_world.proofs.Counts.{keeps_by, holder_more, both_only}
use Rattle.engine_world.proofs.Held.{any, may_after, may_by, may_less}
use Rattle.engine_world.proofs.Parts.{parts, task_alike}
use Rattle.engine_world.proofs.Rooms.{task_most}
use Rattle.engine_world.proofs.references.push_task.Goals as goal

pub hold_any-requires : goal.hold_any-requires
hold_any-requires c = record {
  may =
      let e = c.args.engine.now in
      let hs = e.world.handlers.handlers in
      may_less e.world.table (λ o. in_task o (task_in any e c.args.task)) _ (λ o. omega (arith, c.object.ensures any hs o, parts any hs c.args.task o))
      (may_by e _ c.never_full.ensures.room (λ o. omega (arith, task_most any hs o c.args.task)) (c.requires.may.at any));
}

pub hold_given-requires : goal.hold_given-requires
hold_given-requires c = record {
  frameless = c.requires.frameless;
  may = λ d hs.
      let e = c.args.engine.now in
      let all : MayHold e.world.table (λ o. in_task o (task_of d hs c.args.task)) =
      may_by e _ c.never_full.ensures.room (λ o. omega (arith, task_most d hs o c.args.task)) (λ o held. c.requires.may.at any o (omega (arith, held, task_alike d any hs e.world.handlers.handlers c.args.task o))) in
      may_after e.world.table c.hold_any.new.table (λ o. in_subject o (task_of d hs c.args.task)) _ c.hold_any.ensures.only
      (λ o. omega (arith, c.hold_any.ensures.counts o, c.object.ensures d hs o))
      (may_less e.world.table (λ o. in_task o (task_of d hs c.args.task)) _ (λ o. omega (arith, parts d hs c.args.task o)) all);
}

pub returns-clause-connects : goal.returns-clause-connects
returns-clause-connects c d h =
    record { most = h.most; to_come = h.to_come; begun = c.push_task.ensures.begun c.args.engine.now.world.handlers.last c.requires.begun h.begun }

pub returns-clause-counted : goal.returns-clause-counted
returns-clause-counted c d =
    let e = c.args.engine.now in
    let b = map held_of e.world.builder.items in
    let hs = e.world.handlers.handlers in
    let t = task_in d e c.args.task in
    let only = both_only e.world.table c.hold_any.new.table c.hold_given.new.table c.hold_any.ensures.only c.hold_given.ensures.only in
    keeps_by d e _ refl refl (λ g. g) refl (λ h. record { most = h.most; to_come = h.to_come; begun = c.push_task.ensures.begun e.world.handlers.last c.requires.begun h.begun }) (λ taken _ h.
    holder_more d taken e.world.table c.hold_given.new.table b b (agenda_of d e) (tasks_of d hs c.push_task.new.self) (λ o. in_task o t) only
    (λ o. omega (arith, c.hold_any.ensures.counts o, c.hold_given.ensures.counts d hs o, c.object.ensures d hs o, parts d hs c.args.task o))
    (λ o. omega (arith, ap (λ (ts : List Task). total (in_task o) ts) (c.push_task.ensures.tasks d hs))) h)
