use Rattle.std.proofs.Common.{◌∙◌, sym, ap, subst, ◌++◌, List, append_assoc}
use Rattle.ui_machine.specs.Definition.Lookups.{class_of}
use Rattle.ui_machine.specs.Definition.Types.{GType}
use Rattle.ui_machine.specs.Rules.Ancestry.{parent_of}
use Rattle.ui_machine.specs.Rules.Construction.{constructed_runs}
use Rattle.type_tree.specs.Tree.{IsTree}
use Rattle.law_typing.specs.Graph.{listed_if}
use Rattle.law_typing.specs.Graph.Channels.{programs_of}
use Rattle.verify_channels.proofs.ClassHandlers.{runs_below}
use Rattle.verify_channels.proofs.class_handlers.+add_constructed.Goals as goal

pub returns : goal.returns
returns t c =
    let d = c.args.definition.now in
    let class = c.args.class in
    let old = c.args.programs.now.items in
    let parent = c.in-Some.parent in
    let own = listed_if (class_of d class).constructed in
    let tree = subst IsTree c.types.ensures.types c.in-Some.ensures.tree in
    let above = ap (λ (types : List GType). parent_of types class) (sym c.types.ensures.types) ∙ sym c.in-Some.ensures.parent in
    c.in_ok-add_own.ensures
    ∙ (ap (λ xs. xs ++ own) c.in_ok-add_constructed.ensures
    ∙ (append_assoc old (programs_of (constructed_runs d parent)) own ∙ ap (λ xs. old ++ xs) (sym (runs_below d tree class parent above))))
