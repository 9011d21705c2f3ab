use Rattle.std.proofs.Common.{ℕ, arith}
use Rattle.ui_machine.specs.Definition.Names.{same_name}
use Rattle.ui_machine.specs.Definition.Signals.{ClassHandler}
use Rattle.ui_machine.proofs.Mapped.{mapped_written}
use Rattle.signal_core.specs.Table.{with_program}
use Rattle.signal_core.proofs.Changed.{changed_one, kept_one}
use Rattle.signal_core.proofs.table.give_program.Goals as goal
use Rattle.signal_core.proofs.table.give_program.Goals.{then-is_for, else-is_for}

abbrev given : ℕ → ClassHandler → ClassHandler
given program h = record h { program = program }

pub loop-handler-preserved : goal.loop-handler-preserved
loop-handler-preserved c =
    elim c.if-is_for.branch [
      | then-is_for w ↦
          let e = changed_one (given c.args.program) (λ h. same_name h.signal c.args.name.now) c.handler-item.result (cc) in
          rw w.handlers-is (mapped_written (with_program c.args.name.now c.args.program) c.args.handlers.now c.loop-handler.handlers c.loop-handler.handler-index c.handler-item.result w.set_program.new.self (omega arith) c.loop-handler.invariant c.handler-item.is (cc))
      | else-is_for w ↦
          let e = kept_one (given c.args.program) (λ h. same_name h.signal c.args.name.now) c.handler-item.result (cc) in
          rw (w.handlers-is, ← c.handler-item.is) (mapped_written (with_program c.args.name.now c.args.program) c.args.handlers.now c.loop-handler.handlers c.loop-handler.handler-index c.handler-item.result c.handler-item.result (omega arith) c.loop-handler.invariant c.handler-item.is e)
    ]
