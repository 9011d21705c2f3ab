use Rattle.std.proofs.Common.{◌∙◌, sym}
use Rattle.type_tree.proofs.Texts.{new_class_is, Adds-same}
use Rattle.type_tree.proofs.tree.TypeTree.add_class.Goals as goal

pub returns : goal.returns
returns c =
    Adds-same c.append.result _ _ _ c.args.self.now c.append.new.self (sym c.class_fault.ensures ∙ c.in_default.is)
    (new_class_is c.args.self.now c.args.name.now c.args.parent.now c.args.flags c.args.interfaces.now c.find_class-parent.result c.in_ok-interfaces.interfaces.items c.find_class-parent.ensures.class c.in_ok-interfaces.ensures)
    c.append.ensures
