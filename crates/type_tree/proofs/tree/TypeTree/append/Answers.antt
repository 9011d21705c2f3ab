use Rattle.std.proofs.Common.{◌∙◌, sym, ap, subst, refl, length}
use Rattle.std.proofs.lemmas.List.{length-map}
use Rattle.type_tree.specs.Entry.{type_of}
use Rattle.type_tree.specs.Tree.{IsTree}
use Rattle.type_tree.proofs.Entries.{IsTree-append, typed}
use Rattle.type_tree.proofs.Lookups.{types-insert_entry}
use Rattle.type_tree.proofs.tree.TypeTree.append.Goals as goal

pub invariant_of-self-2 : goal.invariant_of-self-2
invariant_of-self-2 c =
    let longer = types-insert_entry c.self.inside.types.entries c.insert.new.self.entries c.in_ok-name.name c.args.entry c.args.self.now c.args.name.now c.self.view_is c.in_ok-name.ensures.ok c.requires.fresh c.in_ok-insert.ensures.entries in
    subst IsTree (sym longer) (IsTree-append c.args.self.now (type_of c.args.name.now c.args.entry) (subst IsTree c.self.view_is c.self.invariant) c.requires.room c.requires.parent)

pub returns : goal.returns
returns c =
    let longer = types-insert_entry c.self.inside.types.entries c.insert.new.self.entries c.in_ok-name.name c.args.entry c.args.self.now c.args.name.now c.self.view_is c.in_ok-name.ensures.ok c.requires.fresh c.in_ok-insert.ensures.entries in
    (refl, c.new.ensures ∙ c.len-number.ensures.len ∙ sym (length-map c.self.inside.types.entries typed) ∙ ap length c.self.view_is, longer)
