use Rattle.std.proofs.Common.{[], ◌∷◌, List, ap, ◌∙◌, arith, rules}
use Rattle.ui_machine.specs.Seq.{total}
use Rattle.ui_machine.specs.State.References.{in_task}
use Rattle.ui_machine.specs.State.Tasks.{Beginning, Frame, Running, Task}
use Rattle.engine_world.specs.Counting.{nothing}
use Rattle.engine_instructions.specs.EmitView.{emit_of}
use Rattle.engine_stack.specs.TaskView.{new_of}
use Rattle.engine_world.specs.View.{world_of}
use Rattle.engine_world.proofs.Held.{emission_lives, pushes_living}
use Rattle.engine_instructions.proofs.Calling.{emission_able, emission_begins}
use Rattle.engine_instructions.proofs.Holding.{all_counted, begun_names}
use Rattle.engine_world.proofs.Registers.{stack_same_held}
use Rattle.engine_instructions.proofs.Starting.{started_left}
use Rattle.engine_world.specs.FirstPrograms.{first_frame, rest_of}
use Rattle.engine_world.proofs.FirstPrograms.{begins}
use Rattle.engine_instructions.proofs.emits.emit_from_program.Goals as goal

pub new_emission-requires : goal.new_emission-requires
new_emission-requires c =
    let d = c.args.definition.now in
    let e = c.args.engine.now in
    record { first = c.requires.first; able = emission_able d (world_of e.world) (first_frame c.args.engine.now) c.args.object.0 (emit_of c.args.emit) e.counted (rest_of d e) c.requires.able; link = c.requires.link; none = c.take_for-args.ensures }

pub push_task-requires-clause-may : goal.push_task-requires-clause-may
push_task-requires-clause-may c =
    let d = c.args.definition.now in
    let e = c.args.engine.now in
    let w = world_of e.world in
    let b = record e { stack = c.wait_first.new.self } in
    let m = new_of c.in_ok-emission.emission in
    let f = record (first_frame e) { into = (emit_of c.args.emit).into } in
    let names = begun_names e.counted (rest_of d e) _ w (Beginning m) f (emission_begins d w (first_frame e) c.args.object.0 (emit_of c.args.emit) m c.in_ok-emission.ensures) c.requires.names in
    pushes_living d b _ (all_counted d b
    (stack_same_held d e c.wait_first.new.self
    (λ o.
    let before = ap (λ (ts : List Task). total (in_task o) ts) (begins d e c.requires.first) in
    let after = ap (λ (ts : List Task). total (in_task o) ts)
    (c.wait_first.ensures.rewritten.tasks d e.world.handlers.handlers ∙ ap (λ (g : Frame). Running g ∷ rest_of d e) c.wait_first.ensures.waits) in
    omega (arith, before, after))
    c.wait_first.ensures.begun nothing c.requires.counted))
    (λ _ o held. emission_lives w o m names held)

pub returns : goal.returns
returns c = record {
  step =
      let d = c.args.definition.now in
      let e = c.args.engine.now in
      let w = world_of e.world in
      let m = new_of c.in_ok-emission.emission in
      let f = record (first_frame e) { into = (emit_of c.args.emit).into } in
      started_left e.counted (rest_of d e) _ w (Beginning m ∷ []) f _ _ _
      (emission_begins d w (first_frame e) c.args.object.0 (emit_of c.args.emit) m c.in_ok-emission.ensures)
      c.push_task.ensures.world
      (c.push_task.ensures.agenda d
      ∙ ap (λ (ts : List Task). Beginning m ∷ ts)
      (c.wait_first.ensures.rewritten.tasks d e.world.handlers.handlers ∙ ap (λ (g : Frame). Running g ∷ rest_of d e) c.wait_first.ensures.waits))
      c.push_task.ensures.same;
  quiet = search rules;
  counted =
      let d = c.args.definition.now in
      let e = c.args.engine.now in
      (c.push_task.ensures.counted d).at nothing
      (stack_same_held d e c.wait_first.new.self
      (λ o.
      let before = ap (λ (ts : List Task). total (in_task o) ts) (begins d e c.requires.first) in
      let after = ap (λ (ts : List Task). total (in_task o) ts)
      (c.wait_first.ensures.rewritten.tasks d e.world.handlers.handlers ∙ ap (λ (g : Frame). Running g ∷ rest_of d e) c.wait_first.ensures.waits) in
      omega (arith, before, after))
      c.wait_first.ensures.begun nothing c.requires.counted);
  room = search rules;
}
