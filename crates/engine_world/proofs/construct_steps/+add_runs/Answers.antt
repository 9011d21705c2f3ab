use Rattle.std.proofs.Common.{List, ap, sym, ◌∙◌, subst}
use Rattle.ui_machine.specs.Definition.Types.{GType}
use Rattle.ui_machine.specs.Rules.Ancestry.{parent_of}
use Rattle.type_tree.specs.Tree.{IsTree}
use Rattle.engine_stack.specs.MakingView.{making_steps}
use Rattle.engine_world.proofs.ConstructedRuns.{runs_before_child}
use Rattle.engine_world.proofs.construct_steps.+add_runs.Goals as goal

pub returns : goal.returns
returns t c =
    let d = c.args.definition.now in
    let tree = subst IsTree c.types.ensures.types c.parent.ensures.tree in
    let parent = ap (λ (types : List GType). parent_of types c.args.class) (sym c.types.ensures.types) ∙ sym c.parent.ensures.parent ∙ c.in-Some.is in
    runs_before_child d tree c.args.class c.in-Some.parent (making_steps c.add_run.new.steps.items) _ _ parent c.in_ok-add_run.ensures c.in_ok-add_runs.ensures
