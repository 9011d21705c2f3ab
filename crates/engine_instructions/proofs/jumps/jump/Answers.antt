use Rattle.std.proofs.Common.{List, ap, refl, slice_get, arith, rules}
use Rattle.ui_machine.specs.Instructions.Jumps.{jumping}
use Rattle.ui_machine.specs.Seq.{total}
use Rattle.ui_machine.specs.State.References.{in_register, in_task}
use Rattle.ui_machine.specs.State.Tasks.{Registers, Task}
use Rattle.bytecode.specs.View.{program_view}
use Rattle.engine_world.specs.Counting.{nothing}
use Rattle.engine_world.specs.View.{world_of}
use Rattle.engine_world.specs.FirstPrograms.{first_frame, rest_of}
use Rattle.engine_stack.specs.FirstPrograms.{stack_frame}
use Rattle.engine_world.proofs.Ableness.{no_arm}
use Rattle.engine_world.proofs.FirstPrograms.{begins}
use Rattle.engine_world.proofs.Registers.{going_left, stack_same_held}
use Rattle.engine_instructions.proofs.Jumping.{is_there, jump_keeps, jumps, no_block, stuck_left}
use Rattle.engine_instructions.proofs.jumps.jump.Goals as goal

pub jump_first-requires : goal.jump_first-requires
jump_first-requires c = record {
  there = c.requires.first;
  block =
      let d = c.args.definition.now in
      let e = c.args.engine.now in
      is_there _ (λ none. no_arm _ _ c.requires.able
      (stuck_left d e (jumping d (world_of e.world) (first_frame e) c.args.to.0) _
      (no_block d (world_of e.world) (first_frame e) (program_view c.args.program.now) c.requires.program c.args.to.0 none)));
}

pub returns : goal.returns
returns c = record {
  step =
      let d = c.args.definition.now in
      let e = c.args.engine.now in
      let s = c.jump_first.new.self in
      going_left e.counted (rest_of d e) _ (world_of e.world) (stack_frame s) _ _ _
      (jumps d (world_of e.world) (first_frame e) (program_view c.args.program.now) c.requires.program c.args.to.0 (stack_frame s) c.jump_first.ensures.jumped)
      refl (c.jump_first.ensures.rewritten.tasks d e.world.handlers.handlers) refl;
  quiet = search rules;
  counted =
      let d = c.args.definition.now in
      let e = c.args.engine.now in
      let s = c.jump_first.new.self in
      let kept = jump_keeps c.args.to.0 (first_frame e) (stack_frame s) (slice_get (program_view c.args.program.now).blocks c.args.to.0) c.jump_first.ensures.jumped in
      stack_same_held d e s
      (λ o.
      let before = ap (λ (ts : List Task). total (in_task o) ts) (begins d e c.requires.first) in
      let after = ap (λ (ts : List Task). total (in_task o) ts) (c.jump_first.ensures.rewritten.tasks d e.world.handlers.handlers) in
      let same = ap (λ (rs : Registers). total (in_register o) rs) kept in
      omega (arith, before, after, same))
      c.jump_first.ensures.begun nothing c.requires.counted;
  room = search rules;
}
