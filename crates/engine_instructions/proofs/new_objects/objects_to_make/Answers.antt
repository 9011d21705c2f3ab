use Rattle.std.proofs.Common.{◌≡◌, ◌<◌, ◌+◌, [], drop, get_or, length, map, min, ap, sym, ◌∙◌, arith}
use Rattle.std.proofs.lemmas.List.{nil_from_length, length-drop}
use Rattle.ui_machine.specs.Rules.Build.{is_making, of_items, to_make}
use Rattle.engine_stack.specs.TaskView.{task_of}
use Rattle.engine_instructions.proofs.Creating.{counted_more}
use Rattle.engine_world.proofs.Signals.{tasks_left}
use Rattle.engine_instructions.proofs.new_objects.objects_to_make.Goals as goal

pub loop-task-preserved : goal.loop-task-preserved
loop-task-preserved c =
    let hs = c.args.engine.now.world.handlers.handlers in
    let f = task_of c.args.definition.now hs in
    let ts = c.of_build-build.result.now in
    let i = c.loop-task.task-index in
    let x = c.task-item.result in
    let n = of_items is_making (f x) in
    let within : i < length ts = c.loop-task-test.true in
    let is : x ≡ get_or ts i x = c.task-item.is in
    let rest = to_make (map f (drop (i + 1) ts)) in
    let count = c.loop-task.count in
    record {
      fits = omega (arith, c.saturating_add-count.ensures);
      same =
          ap (λ k. min (k + rest) 4294967295) (c.saturating_add-count.ensures ∙ ap (λ k. min (count + k) 4294967295) (c.made_by.ensures hs))
          ∙ counted_more count n rest (to_make (map f ts)) (ap (λ k. min (count + k) 4294967295) (sym (tasks_left is_making f ts i x within is)) ∙ c.loop-task.invariant.same);
    }

pub returns : goal.returns
returns c =
    let hs = c.args.engine.now.world.handlers.handlers in
    let f = task_of c.args.definition.now hs in
    let ts = c.of_build-build.result.now in
    let i = c.loop-task.task-index in
    let none : drop i ts ≡ [] = nil_from_length (drop i ts) (omega (arith, length-drop i ts, c.loop-task-test.false)) in
    let end : c.loop-task.count ≡ min (c.loop-task.count + to_make (map f (drop i ts))) 4294967295 = omega (arith, ap (λ l. to_make (map f l)) none, c.loop-task.invariant.fits) in
    end ∙ c.loop-task.invariant.same ∙ ap (λ k. min k 4294967295) (c.of_build-build.ensures is_making c.args.definition.now hs)
