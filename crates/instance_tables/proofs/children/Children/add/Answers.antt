use Rattle.std.proofs.Common.{◌≡◌, List, [], ◌∷◌, ◌++◌, ap, ◌∙◌}
use Rattle.ui_machine.specs.declared.ids.ObjectId.{ObjectId}
use Rattle.instance_tables.specs.Store.{ids_of}
use Rattle.instance_tables.proofs.Counted.{counted_with, ids_with}
use Rattle.instance_tables.proofs.children.Children.add.Goals as goal

pub invariant_of-self-2 : goal.invariant_of-self-2
invariant_of-self-2 c =
    let ids = c.self.inside.ids.items in
    let child = c.args.child in
    let added : ids_of c.push_reserved.new.self.items ≡ ids_of ids ++ child.0 ∷ [] =
    ap ids_of (c.push_reserved.ensures.items ∙ ap (λ (is : List ObjectId). is ++ child ∷ []) c.reserve.ensures.items) ∙ ids_with ids child in
    counted_with _ _ child.0 (ids_of ids) _ c.self.invariant _ c.in-Ok.ensures.updates.0 c.of_added-occurrence.ensures added
