use Rattle.std.proofs.Common.{◌∙◌, Ok, sym, ap, arith, rules}
use Rattle.ui_machine.specs.State.References.{same}
use Rattle.instance_tables.proofs.Few.{same_most}
use Rattle.engine_world.specs.Counting.{nothing}
use Rattle.engine_world.proofs.Counts.{config_same, less_held}
use Rattle.engine_tasks.proofs.builds.end_construction.Goals as goal

pub hold_made_if-requires-clause-counted : goal.hold_made_if-requires-clause-counted
hold_made_if-requires-clause-counted c = record {
  taken = λ o. same o c.args.rest.object.0;
  counts = c.requires.counted;
  little = λ o. let one = same_most o c.args.rest.object.0 in omega (arith, one);
}

pub let_go_any-requires : goal.let_go_any-requires
let_go_any-requires c = record {
  held = λ o. let kept = c.in_ok-hold_made_if.ensures.counted.at _ c.requires.counted in omega (arith, kept.exact o);
}

pub returns : goal.returns
returns c = record {
  step = c.in_ok-hold_made_if.ensures.step ∙ ap (λ x. Ok x) (sym (config_same c.args.definition.now c.hold_made_if.new.engine c.let_go_any.new.table c.let_go_any.ensures.only));
  quiet = search rules;
  counted =
      less_held c.args.definition.now c.hold_made_if.new.engine c.let_go_any.new.table (λ o. same o c.args.rest.object.0) nothing (λ o. same o c.args.rest.object.0) c.let_go_any.ensures.only c.let_go_any.ensures.counts (λ o. omega arith)
      (c.in_ok-hold_made_if.ensures.counted.at _ c.requires.counted);
  room = search rules;
}
