use Rattle.std.proofs.Common.{◌∙◌, sym}
use Rattle.type_tree.proofs.Entries.{name_of_entry}
use Rattle.type_tree.proofs.tree.TypeTree.name.Goals as goal

pub returns-in-Some : goal.returns-in-Some
returns-in-Some c =
    rw (← c.self.view_is) (rw (← c.index.ensures) (c.as_str.ensures.value ∙ sym (name_of_entry c.self.inside.types.entries c.index.result c.in-Some.name.now c.in-Some.field-0-1.now (sym c.in-Some.ensures.entry))))
