use Rattle.std.proofs.Common.{◌∙◌, ap, Some}
use Rattle.type_tree.proofs.Lookups.{find_type-position}
use Rattle.type_tree.proofs.tree.TypeTree.find.Goals as goal

pub returns-in_err-index-clause-named : goal.returns-in_err-index-clause-named
returns-in_err-index-clause-named c =
    rw (← c.self.view_is) (rw (find_type-position c.args.name.now c.self.inside.types.entries) (c.from_residual.ensures ∙ c.in_err-index.ensures.index))

pub returns-clause-named : goal.returns-clause-named
returns-clause-named c =
    rw (← c.self.view_is) (rw (find_type-position c.args.name.now c.self.inside.types.entries) (ap Some c.new.ensures ∙ c.in_ok-index.ensures.index))
