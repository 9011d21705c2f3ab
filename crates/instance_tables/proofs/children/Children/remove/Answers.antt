use Rattle.std.proofs.Common.{◌≡◌, List, slice_get, ap, sym, ◌∙◌}
use Rattle.ui_machine.specs.State.Config.{without}
use Rattle.ui_machine.specs.declared.ids.ObjectId.{ObjectId}
use Rattle.instance_tables.specs.Store.{ids_of}
use Rattle.instance_tables.proofs.Counted.{counted_without, never_there, none_without, removed_once}
use Rattle.instance_tables.proofs.children.Children.remove.Goals as goal

pub returns-in_default-clause-rest : goal.returns-in_default-clause-rest
returns-in_default-clause-rest c =
    let child = c.args.child.0 in
    let none = never_there _ child _ c.self.invariant (sym c.remove.ensures.value ∙ c.in_default.is) in
    sym (none_without child _ none) ∙ ap (without child) c.self.view_is

pub invariant_of-self-in_default-index_in : goal.invariant_of-self-in_default-index_in
invariant_of-self-in_default-index_in c =
    counted_without _ _ c.args.child.0 _ _ c.self.invariant c.remove.ensures.updates.0 c.remove_id-count.ensures.rest

-- the child stood at the index
removed : (c : goal.After-remove-3) → ids_of c.remove-2.new.self.items ≡ without c.args.child.0 (ids_of c.self.inside.ids.items)
removed c =
    let there = ap (λ (is : List ObjectId). slice_get is c.in-Some-index_in.index) (sym c.deref.ensures.value) ∙ c.in-Some-index_in.ensures.found in
    ap ids_of c.remove-2.ensures.items
    ∙ removed_once _ c.self.inside.ids.items _ c.args.child _ c.self.invariant (sym c.remove.ensures.value ∙ c.in-Some.is) c.in-Some-index_in.ensures.once there

pub invariant_of-self-2 : goal.invariant_of-self-2
invariant_of-self-2 c = counted_without _ _ c.args.child.0 _ _ c.self.invariant c.remove.ensures.updates.0 (removed c)

pub returns-clause-rest : goal.returns-clause-rest
returns-clause-rest c = removed c ∙ ap (without c.args.child.0) c.self.view_is
