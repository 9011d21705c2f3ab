use Rattle.std.proofs.Common.{◌∙◌, None, Some, ap, arith, rules}
use Rattle.std.proofs.lemmas.Result.{err_from_is_err_and}
use Rattle.ui_machine.specs.Instructions.Registers.{written_to}
use Rattle.ui_machine.specs.Output.Lines as lines
use Rattle.ui_machine.specs.Seq.{write}
use Rattle.ui_machine.specs.State.Config.{World, said}
use Rattle.g_values.specs.View.{value_view}
use Rattle.engine_world.specs.Counting.{nothing}
use Rattle.engine_world.specs.View.{world_of}
use Rattle.engine_world.specs.declared.engine.Engine.{Engine}
use Rattle.engine_world.proofs.Left.{same_agenda}
use Rattle.engine_world.proofs.Quiets.{quiet_same}
use Rattle.engine_world.proofs.Registers.{going_left, tasks_world, writes_register, writes_there}
use Rattle.engine_instructions.proofs.Holding.{written_may}
use Rattle.engine_instructions.proofs.Jumping.{register_able}
use Rattle.engine_world.specs.FirstPrograms.{first_frame, rest_of}
use Rattle.engine_instructions.proofs.registers.write_null_and_say_limit.Goals as goal

pub put-requires : goal.put-requires
put-requires c =
    let d = c.args.definition.now in
    let e = c.args.engine.now in
    let v = Some (value_view c.args.value) in
    record {
      first = c.requires.first;
      able = register_able e.counted (rest_of d e) (said d (world_of e.world) (lines.limit c.args.word.now)) (first_frame e) c.args.to.0 v c.requires.able;
      held = record { at = λ o. omega (arith, c.requires.counted.exact o) };
      may = written_may d e c.never_full.ensures.room c.requires.counted v c.requires.names;
    }

pub returns : goal.returns
returns c = record {
  step =
      let d = c.args.definition.now in
      let e = c.args.engine.now in
      let b = c.put.new.engine in
      let w = said d (world_of e.world) (lines.limit c.args.word.now) in
      let f = first_frame e in
      let to = c.args.to.0 in
      let v = Some (value_view c.args.value) in
      let new = record f { registers = write None f.registers to v } in
      going_left e.counted (rest_of d e) (written_to w to v f) w new _ _ _
      (writes_register w f to v _ (writes_there to v f.registers (register_able e.counted (rest_of d e) w f to v c.requires.able)))
      (c.in_ok-say_limit.ensures.ok ∙ ap (λ (v : World). said d v (lines.limit c.args.word.now)) (tasks_world e b c.put.ensures.only))
      (same_agenda d b c.say_limit.new.engine c.say_limit.ensures.same.0 c.say_limit.ensures.handlers ∙ c.put.ensures.agenda)
      (c.say_limit.ensures.same.1 ∙ ap (λ (x : Engine). x.counted) c.put.ensures.only.beside);
  quiet = search rules;
  counted = c.in_ok-say_limit.ensures.counted.at nothing (c.put.ensures.counted.at nothing c.requires.counted);
  room = search rules;
}

pub returns-in_err-say_limit : goal.returns-in_err-say_limit
returns-in_err-say_limit c = record {
  step = search rules;
  quiet =
      let e = c.args.engine.now in
      let p = err_from_is_err_and c.from_residual.result c.from_residual.ensures.1 in
      rw p.1 (quiet_same (world_of e.world) (world_of c.say_limit.new.engine.world) (c.in_err-say_limit.ensures.err ∙ tasks_world e c.put.new.engine c.put.ensures.only));
  counted = search rules;
  room = search rules;
}
