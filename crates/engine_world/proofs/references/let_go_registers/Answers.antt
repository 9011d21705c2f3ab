use Rattle.std.proofs.Common.{arith}
use Rattle.ui_machine.specs.State.References.{in_register}
use Rattle.engine_world.proofs.Counts.{both_only}
use Rattle.engine_world.proofs.Values.{registers_next, registers_end}
use Rattle.engine_world.proofs.references.let_go_registers.Goals as goal

pub let_go_any-requires : goal.let_go_any-requires
let_go_any-requires c = record {
  held = λ o.
      let l = c.loop-register in
      let r = c.register-item.result in
      omega (arith, l.invariant.counts o, c.requires.held o, c.register_named.ensures o, registers_next (in_register o) c.args.registers.now l.register-index r c.loop-register-test.true c.register-item.is);
}

pub loop-register-preserved : goal.loop-register-preserved
loop-register-preserved c =
    let l = c.loop-register in
    let r = c.register-item.result in
    record {
      only = both_only c.args.table.now l.table c.let_go_any.new.table l.invariant.only c.let_go_any.ensures.only;
      counts = λ o.
          omega (arith, l.invariant.counts o, c.let_go_any.ensures.counts o, c.register_named.ensures o, registers_next (in_register o) c.args.registers.now l.register-index r c.loop-register-test.true c.register-item.is);
    }

pub returns-clause-counts : goal.returns-clause-counts
returns-clause-counts c o =
    omega (arith, c.loop-register.invariant.counts o, registers_end (in_register o) c.args.registers.now c.loop-register.register-index c.loop-register-test.false)
