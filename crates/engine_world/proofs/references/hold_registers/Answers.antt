use Rattle.std.proofs.Common.{ℕ, arith}
use Rattle.ui_machine.specs.State.References.{in_register}
use Rattle.engine_world.proofs.Counts.{both_only}
use Rattle.engine_world.proofs.Held.{may_next}
use Rattle.engine_world.proofs.Values.{registers_next, registers_end}
use Rattle.engine_world.proofs.references.hold_registers.Goals as goal

pub hold_any-requires : goal.hold_any-requires
hold_any-requires c = record {
  may =
      let l = c.loop-register in
      let v = c.register-item.result in
      may_next c.args.table.now l.table _ _ _ l.invariant.only c.requires.may l.invariant.counts l.invariant.less (λ o.
      omega (arith, c.register_named.ensures o, registers_next (in_register o) c.args.registers.now l.register-index v c.loop-register-test.true c.register-item.is));
}

pub loop-register-preserved : goal.loop-register-preserved
loop-register-preserved c =
    let l = c.loop-register in
    let v = c.register-item.result in
    let next = λ (o : ℕ). registers_next (in_register o) c.args.registers.now l.register-index v c.loop-register-test.true c.register-item.is in
    record {
      only = both_only c.args.table.now l.table c.hold_any.new.table l.invariant.only c.hold_any.ensures.only;
      counts = λ o. omega (arith, l.invariant.counts o, c.hold_any.ensures.counts o, c.register_named.ensures o, next o);
      less = λ o. omega (arith, l.invariant.less o, next o);
    }

pub returns-clause-counts : goal.returns-clause-counts
returns-clause-counts c o =
    omega (arith, c.loop-register.invariant.counts o, registers_end (in_register o) c.args.registers.now c.loop-register.register-index c.loop-register-test.false)
