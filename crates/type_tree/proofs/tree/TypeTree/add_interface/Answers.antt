use Rattle.std.proofs.Common.{◌∙◌, sym}
use Rattle.type_tree.proofs.Texts.{new_interface_is, Adds-same}
use Rattle.type_tree.proofs.tree.TypeTree.add_interface.Goals as goal

pub returns : goal.returns
returns c =
    Adds-same c.append.result _ _ _ c.args.self.now c.append.new.self (sym c.interface_fault.ensures ∙ c.in_default.is)
    (new_interface_is c.args.self.now c.args.name.now c.args.required.now c.in_ok-required.required.items c.in_ok-required.ensures)
    c.append.ensures
