use Rattle.std.proofs.Common.{List, is_some, ap, sym, ◌∙◌, subst}
use Rattle.ui_machine.specs.Definition.Types.{GType}
use Rattle.ui_machine.specs.Rules.Ancestry.{parent_of}
use Rattle.type_tree.specs.Tree.{IsTree}
use Rattle.verify_graph.proofs.Constructed.{runs_own, runs_of_parent}
use Rattle.verify_graph.proofs.report_channels.+runs_constructed.Goals as goal

pub returns-then-is_some : goal.returns-then-is_some
returns-then-is_some t c =
    runs_own c.args.definition.now c.args.class (ap is_some (sym c.constructed.ensures) ∙ (sym c.is_some.ensures ∙ c.if-is_some.true))

pub returns-in-Some : goal.returns-in-Some
returns-in-Some t c =
    let d = c.args.definition.now in
    let tree = subst IsTree c.types.ensures.types c.parent.ensures.tree in
    let parent = ap (λ (types : List GType). parent_of types c.args.class) (sym c.types.ensures.types) ∙ sym c.parent.ensures.parent ∙ c.in-Some.is in
    c.runs_constructed.ensures
    ∙ runs_of_parent d tree c.args.class c.in-Some.parent (ap is_some (sym c.constructed.ensures) ∙ (sym c.is_some.ensures ∙ c.if-is_some.false)) parent
