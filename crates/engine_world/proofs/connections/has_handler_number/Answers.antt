use Rattle.std.proofs.Common.{◌≡◌, ◌<◌, ◌+◌, nat_lt, [], drop, get_or, length, map, ap, sym, ◌∙◌, arith}
use Rattle.std.proofs.lemmas.List.{nil_from_length, length-drop}
use Rattle.ui_machine.specs.Rules.Build.{is_connecting, of_items, to_connect}
use Rattle.ui_machine.specs.Rules.Connections.{greatest_handler}
use Rattle.engine_stack.specs.TaskView.{task_of}
use Rattle.engine_world.proofs.Signals.{tasks_left}
use Rattle.engine_world.proofs.connections.has_handler_number.Goals as goal

pub loop-task-preserved : goal.loop-task-preserved
loop-task-preserved c more =
    let hs = c.args.engine.now.world.handlers.handlers in
    let f = task_of c.args.definition.now hs in
    let ts = c.of_build-build.result.now in
    let i = c.loop-task.task-index in
    let x = c.task-item.result in
    let n = of_items is_connecting (f x) in
    let within : i < length ts = c.loop-task-test.true in
    let is : x ≡ get_or ts i x = c.task-item.is in
    let rest = to_connect (map f (drop (i + 1) ts)) in
    ap (λ k. nat_lt k greatest_handler) (let e : c.taken_by-taken.result + rest + more ≡ c.taken_by-taken.result + (rest + more) = omega arith in e)
    ∙ c.taken_by-taken.ensures hs (rest + more)
    ∙ ap (λ k. nat_lt k greatest_handler) (let e : c.loop-task.taken + n + (rest + more) ≡ c.loop-task.taken + (n + rest) + more = omega arith in e)
    ∙ ap (λ k. nat_lt (c.loop-task.taken + k + more) greatest_handler) (sym (tasks_left is_connecting f ts i x within is))
    ∙ c.loop-task.invariant more

pub returns : goal.returns
returns c =
    let hs = c.args.engine.now.world.handlers.handlers in
    let f = task_of c.args.definition.now hs in
    let ts = c.of_build-build.result.now in
    let i = c.loop-task.task-index in
    let last = c.args.engine.now.world.handlers.last in
    let none : drop i ts ≡ [] = nil_from_length (drop i ts) (omega (arith, length-drop i ts, c.loop-task-test.false)) in
    let end : c.loop-task.taken ≡ c.loop-task.taken + to_connect (map f (drop i ts)) + 0 = omega (arith, ap (λ l. to_connect (map f l)) none) in
    let all : last + to_connect (map f ts) + 0 ≡ last + to_connect (map f ts) = omega arith in
    ap (λ k. nat_lt k greatest_handler) end ∙ c.loop-task.invariant 0 ∙ ap (λ k. nat_lt k greatest_handler) all
    ∙ ap (λ k. nat_lt (last + k) greatest_handler) (c.of_build-build.ensures is_connecting c.args.definition.now hs)
