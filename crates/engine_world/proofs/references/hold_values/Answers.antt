use Rattle.std.proofs.Common.{ℕ, Option, ap, ◌∙◌, arith}
use Rattle.ui_machine.specs.State.References.{in_option, in_value}
use Rattle.g_values.specs.View.{value_view}
use Rattle.instance_tables.proofs.Written.{by_name}
use Rattle.engine_world.proofs.Counts.{both_only}
use Rattle.engine_world.proofs.Held.{may_next}
use Rattle.engine_world.proofs.Values.{values_next, values_end}
use Rattle.engine_world.proofs.references.hold_values.Goals as goal

pub hold_any-requires : goal.hold_any-requires
hold_any-requires c = record {
  may =
      let l = c.loop-value in
      let v = c.value-item.result in
      may_next c.args.table.now l.table _ _ _ l.invariant.only c.requires.may l.invariant.counts l.invariant.less (λ o.
      let named = ap (λ (i : Option ℕ). in_option o i) c.named.ensures ∙ by_name o (value_view v) in
      omega (arith, named, values_next (in_value o) c.args.values.now l.value-index v c.loop-value-test.true c.value-item.is));
}

pub loop-value-preserved : goal.loop-value-preserved
loop-value-preserved c =
    let l = c.loop-value in
    let v = c.value-item.result in
    let next = λ (o : ℕ). values_next (in_value o) c.args.values.now l.value-index v c.loop-value-test.true c.value-item.is in
    record {
      only = both_only c.args.table.now l.table c.hold_any.new.table l.invariant.only c.hold_any.ensures.only;
      counts = λ o.
          let named = ap (λ (i : Option ℕ). in_option o i) c.named.ensures ∙ by_name o (value_view v) in
          omega (arith, l.invariant.counts o, c.hold_any.ensures.counts o, named, next o);
      less = λ o. omega (arith, l.invariant.less o, next o);
    }

pub returns-clause-counts : goal.returns-clause-counts
returns-clause-counts c o =
    omega (arith, c.loop-value.invariant.counts o, values_end (in_value o) c.args.values.now c.loop-value.value-index c.loop-value-test.false)
