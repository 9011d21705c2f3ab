use Rattle.std.proofs.Common.{rules}
use Rattle.ui_machine.specs.Rules.Sets.{written}
use Rattle.engine_world.proofs.Counts.{keeps_on, still_counted}
use Rattle.engine_world.proofs.Registers.{on_ok}
use Rattle.engine_tasks.proofs.sets.write_and_notify.Goals as goal

pub say_and_raise-requires-clause-counted : goal.say_and_raise-requires-clause-counted
say_and_raise-requires-clause-counted c = still_counted c.args.definition.now c.args.engine.now _ c.write-old.ensures.counted c.requires.counted

pub returns : goal.returns
unfolding written
returns c = record {
  step = search rules;
  quiet = search rules;
  counted = on_ok c.say_and_raise.result (λ k. keeps_on c.args.definition.now _ _ _ c.write-old.ensures.counted k) c.say_and_raise.ensures.counted;
  room = search rules;
}
