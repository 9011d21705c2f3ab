use Rattle.std.proofs.Common.{List, option_map, refl, sym, subst, ap, ◌∙◌, IsSome, arith, rules}
use Rattle.ui_machine.specs.Rules.Accumulation.{given_down}
use Rattle.ui_machine.specs.Seq.{total}
use Rattle.ui_machine.specs.State.Config.{World}
use Rattle.ui_machine.specs.State.Objects.{Objects, living}
use Rattle.ui_machine.specs.State.References.{in_task}
use Rattle.ui_machine.specs.State.Tasks.{Task}
use Rattle.g_values.specs.View.{value_view}
use Rattle.bytecode.specs.View.{number_of, program_view}
use Rattle.engine_world.specs.Counting.{nothing}
use Rattle.engine_world.specs.FirstPrograms.{first_frame, rest_of}
use Rattle.engine_world.specs.TaskView.{agenda_of}
use Rattle.engine_world.specs.View.{world_of}
use Rattle.engine_world.specs.declared.engine.Engine.{Engine}
use Rattle.engine_world.proofs.Ableness.{able_as, in_left}
use Rattle.engine_world.proofs.FirstPrograms.{begins}
use Rattle.engine_world.proofs.Held.{counted_lives}
use Rattle.engine_world.proofs.Left.{left_kept}
use Rattle.engine_world.proofs.Registers.{tasks_world}
use Rattle.engine_world.proofs.Rooms.{register_most}
use Rattle.engine_instructions.proofs.Returning.{given_able, given_within, returning_gives}
use Rattle.engine_instructions.proofs.returns.return_from_program.Goals as goal

pub given_by-requires : goal.given_by-requires
given_by-requires c =
    let d = c.args.definition.now in
    let e = c.args.engine.now in
    let f = first_frame c.args.engine.now in
    record { first = c.requires.first; able = given_able d (world_of e.world) f (option_map number_of c.args.from) (program_view c.args.program.now) c.requires.program (rest_of d e) (in_left e.counted _ c.requires.able) }

pub drop_program-requires : goal.drop_program-requires
drop_program-requires c = record {
  first = c.requires.first;
  held = λ o.
      let before = ap (λ (ts : List Task). total (in_task o) ts) (begins c.args.definition.now c.args.engine.now c.requires.first) in
      omega (arith, c.requires.counted.exact o, before);
}

pub give_down-requires : goal.give_down-requires
give_down-requires c =
    let d = c.args.definition.now in
    let e = c.args.engine.now in
    let m = c.drop_program.new.engine in
    let f = first_frame e in
    let from = option_map number_of c.args.from in
    let given = option_map value_view c.in_ok-given.given in
    let able = in_left e.counted _ c.requires.able in
    let world = tasks_world e m c.drop_program.ensures.only in
    let counted = (c.drop_program.ensures.counted d).at nothing c.requires.counted in
    record {
      able =
          able_as
          (returning_gives d (world_of e.world) f from (program_view c.args.program.now) c.requires.program (rest_of d e) _ c.in_ok-given.ensures able
          ∙ ap (λ (w : World). given_down d w (rest_of d e) given) (sym world)
          ∙ ap (λ (ts : List Task). given_down d (world_of m.world) ts given) (sym (c.drop_program.ensures.agenda d)))
          able;
      held = record { at = λ o. omega (arith, counted.exact o) };
      may = record {
        at = λ o held.
            let within = given_within f from given o c.in_ok-given.ensures in
            let before = ap (λ (ts : List Task). total (in_task o) ts) (begins d e c.requires.first) in
            let lives = counted_lives d nothing e c.never_full.ensures.dead c.requires.counted o (omega (arith, held, within, before)) in
            let room = c.never_full.ensures.room d (record { taken = nothing; counts = c.requires.counted; little = λ o. omega arith }) o in
            (subst (λ (os : Objects). IsSome (living os o)) (sym c.drop_program.ensures.only.table.objects) lives, omega (arith, room, c.drop_program.ensures.counts o, register_most o given));
      };
      counted = record { taken = nothing; counts = counted; little = λ o. omega arith };
      sources = record { at = λ o. omega (arith, counted.exact o) };
      begun = counted.connects.begun;
    }

pub returns : goal.returns
returns c = record {
  step =
      let d = c.args.definition.now in
      let e = c.args.engine.now in
      let m = c.drop_program.new.engine in
      let b = c.give_down.new.engine in
      let f = first_frame e in
      let from = option_map number_of c.args.from in
      let given = option_map value_view c.in_ok-given.given in
      let world = tasks_world e m c.drop_program.ensures.only in
      left_kept e.counted _ (world_of b.world) (agenda_of d b) (world_of b.world) (agenda_of d b) b.counted
      (returning_gives d (world_of e.world) f from (program_view c.args.program.now) c.requires.program (rest_of d e) _ c.in_ok-given.ensures (in_left e.counted _ c.requires.able)
      ∙ ap (λ (w : World). given_down d w (rest_of d e) given) (sym world)
      ∙ ap (λ (ts : List Task). given_down d (world_of m.world) ts given) (sym (c.drop_program.ensures.agenda d))
      ∙ c.give_down.ensures.step)
      refl refl (c.give_down.ensures.same ∙ ap (λ (x : Engine). x.counted) c.drop_program.ensures.only.beside);
  quiet = search rules;
  counted =
      let d = c.args.definition.now in
      c.give_down.ensures.counted.at nothing ((c.drop_program.ensures.counted d).at nothing c.requires.counted);
  room = search rules;
}
