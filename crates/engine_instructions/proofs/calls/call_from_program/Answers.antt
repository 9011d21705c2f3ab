use Rattle.std.proofs.Common.{[], ◌∷◌, List, ap, map, string_bytes, ◌∙◌, rules}
use Rattle.ui_machine.specs.State.Tasks.{Calling, Task}
use Rattle.bytecode.specs.View.{number_of}
use Rattle.engine_world.specs.Counting.{nothing}
use Rattle.engine_stack.specs.TaskView.{call_of}
use Rattle.engine_world.specs.View.{world_of}
use Rattle.engine_world.proofs.Held.{pushes_living}
use Rattle.engine_instructions.proofs.Holding.{all_counted, begun_names, call_lives}
use Rattle.engine_instructions.proofs.PeerCalls.{calls, due_able}
use Rattle.engine_instructions.proofs.Starting.{started_left}
use Rattle.engine_world.specs.FirstPrograms.{first_frame, rest_of}
use Rattle.engine_world.proofs.FirstPrograms.{begins}
use Rattle.engine_instructions.proofs.calls.call_from_program.Goals as goal

pub due_call-requires : goal.due_call-requires
due_call-requires c =
    let d = c.args.definition.now in
    let e = c.args.engine.now in
    let call = c.args.call.now in
    record {
      first = c.requires.first;
      link = c.requires.link;
      meanings = c.requires.meanings;
      able = due_able d (world_of e.world) (first_frame c.args.engine.now) call.to.0 call.object.0 (string_bytes call.method) (map number_of call.args.items) e.counted (rest_of d e) c.requires.able;
    }

pub push_task-requires-clause-may : goal.push_task-requires-clause-may
push_task-requires-clause-may c =
    let d = c.args.definition.now in
    let e = c.args.engine.now in
    let w = world_of e.world in
    let call = c.args.call.now in
    let due = call_of c.in_ok-due.due in
    let f = first_frame c.args.engine.now in
    let names = begun_names e.counted (rest_of d e) _ w (Calling due) f (calls d w f call.to.0 call.object.0 (string_bytes call.method) (map number_of call.args.items) due c.in_ok-due.ensures) c.requires.names in
    pushes_living d e _ (all_counted d e c.requires.counted)
    (λ _ o held. (call_lives w due o names held))

pub returns : goal.returns
returns c = record {
  step =
      let d = c.args.definition.now in
      let e = c.args.engine.now in
      let w = world_of e.world in
      let call = c.args.call.now in
      let due = call_of c.in_ok-due.due in
      let f = first_frame c.args.engine.now in
      started_left e.counted (rest_of d e) _ w (Calling due ∷ []) f _ _ _
      (calls d w f call.to.0 call.object.0 (string_bytes call.method) (map number_of call.args.items) due c.in_ok-due.ensures)
      c.push_task.ensures.world
      (c.push_task.ensures.agenda d ∙ ap (λ (ts : List Task). Calling due ∷ ts) (begins d e c.requires.first))
      c.push_task.ensures.same;
  quiet = search rules;
  counted =
      let d = c.args.definition.now in
      (c.push_task.ensures.counted d).at nothing
      c.requires.counted;
  room = search rules;
}
