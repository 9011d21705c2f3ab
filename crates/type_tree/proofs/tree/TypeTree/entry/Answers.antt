use Rattle.std.proofs.Common.{sym}
use Rattle.type_tree.proofs.Entries.{type_of_entry, no_entry, none_if}
use Rattle.type_tree.proofs.tree.TypeTree.entry.Goals as goal

pub returns-clause-entry : goal.returns-clause-entry
returns-clause-entry c =
    rw (← c.self.view_is) (rw (← c.index.ensures) (type_of_entry c.self.inside.types.entries c.index.result c.in_ok-entry.field-0-0.now c.in_ok-entry.entry.now (sym c.in_ok-entry.ensures.entry)))

pub returns-in_err-entry-clause-none : goal.returns-in_err-entry-clause-none
returns-in_err-entry-clause-none c =
    none_if c.from_residual.result (rw (← c.self.view_is) (no_entry c.self.inside.types.entries c.args.t (rw (← c.index.ensures) (λ h. let g = c.in_err-entry.ensures.found.1 h in cc))))
