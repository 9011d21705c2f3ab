use Rattle.std.proofs.Common.{None, option_map, ap, arith, rules}
use Rattle.ui_machine.specs.Instructions.Registers.{written_to}
use Rattle.ui_machine.specs.Seq.{write}
use Rattle.g_values.specs.View.{value_view}
use Rattle.engine_world.specs.Counting.{nothing}
use Rattle.engine_world.specs.View.{world_of}
use Rattle.engine_world.specs.declared.engine.Engine.{Engine}
use Rattle.engine_world.proofs.Registers.{going_left, tasks_world, writes_register, writes_there}
use Rattle.engine_instructions.proofs.Holding.{written_may}
use Rattle.engine_instructions.proofs.Jumping.{register_able}
use Rattle.engine_world.specs.FirstPrograms.{first_frame, rest_of}
use Rattle.engine_instructions.proofs.registers.write_register.Goals as goal

pub put-requires : goal.put-requires
put-requires c =
    let d = c.args.definition.now in
    let e = c.args.engine.now in
    let v = option_map value_view c.args.value in
    record {
      first = c.requires.first;
      able = register_able e.counted (rest_of d e) (world_of e.world) (first_frame e) c.args.to.0 v c.requires.able;
      held = record { at = λ o. omega (arith, c.requires.counted.exact o) };
      may = written_may d e c.never_full.ensures.room c.requires.counted v c.requires.names;
    }

pub returns-clause-executes : goal.returns-clause-executes
returns-clause-executes c = record {
  step =
      let d = c.args.definition.now in
      let e = c.args.engine.now in
      let w = world_of e.world in
      let f = first_frame e in
      let to = c.args.to.0 in
      let v = option_map value_view c.args.value in
      let new = record f { registers = write None f.registers to v } in
      going_left e.counted (rest_of d e) (written_to w to v f) w new _ _ _
      (writes_register w f to v _ (writes_there to v f.registers (register_able e.counted (rest_of d e) w f to v c.requires.able)))
      (tasks_world e c.put.new.engine c.put.ensures.only) c.put.ensures.agenda (ap (λ (x : Engine). x.counted) c.put.ensures.only.beside);
  quiet = search rules;
  counted = c.put.ensures.counted.at nothing c.requires.counted;
  room = search rules;
}
