use Rattle.std.proofs.Common.{map, option_map}
use Rattle.g_values.specs.View.{kind_view}
use Rattle.verify_operands.specs.Views.{kinds_of, rule_view}
use Rattle.verify_instructions.proofs.ArgumentLists.{no_register, stops, goes_on, ends, ends_badly}
use Rattle.verify_instructions.proofs.arguments.check_arguments.Goals as goal

pub returns-in-Err : goal.returns-in-Err
returns-in-Err c =
    stops c.args.lookups.now (kinds_of c.args.kinds.now) c.args.args.now (map kind_view c.args.params.now) c.loop-number.number no_register
    (option_map kind_view c.param_at.result) (rule_view c.in-Err.rule) c.loop-number.invariant c.loop-number-test.true c.param_at.ensures c.in-Err.ensures

pub loop-number-preserved : goal.loop-number-preserved
loop-number-preserved c =
    goes_on c.args.lookups.now (kinds_of c.args.kinds.now) c.args.args.now (map kind_view c.args.params.now) c.loop-number.number no_register
    (option_map kind_view c.param_at.result) c.loop-number.invariant c.loop-number-test.true c.param_at.ensures c.in_default.ensures

pub returns-then-args-params : goal.returns-then-args-params
returns-then-args-params c =
    ends_badly c.args.lookups.now (kinds_of c.args.kinds.now) c.args.args.now c.args.params.now c.loop-number.number c.loop-number.invariant
    c.loop-number-test.false c.if-args-params.true

pub returns : goal.returns
returns c =
    ends c.args.lookups.now (kinds_of c.args.kinds.now) c.args.args.now c.args.params.now c.loop-number.number c.loop-number.invariant
    c.loop-number-test.false c.if-args-params.false
