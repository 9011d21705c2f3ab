use Rattle.std.proofs.Common.{ap, map, take, ◌∙◌}
use Rattle.ui_machine.specs.Rules.Build.{of_items}
use Rattle.ui_machine.specs.Seq.{total}
use Rattle.engine_stack.specs.TaskView.{task_of}
use Rattle.engine_stack.proofs.BuildTasks.{lowest_have}
use Rattle.engine_stack.proofs.stacks.Frames.of_build.Goals as goal

pub returns : goal.returns
returns c g d hs =
    let s = c.args.self.now in
    ap (λ ts. total (of_items g) (map (task_of d hs) (take s.lowest ts))) c.deref.ensures.value ∙ lowest_have g d hs s.lowest s.tasks.items s.above
