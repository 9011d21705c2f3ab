use Rattle.std.proofs.Common.{refl, sym, ap, ◌∙◌}
use Rattle.std.specs.Option.{option_map}
use Rattle.instance_tables.specs.Store.{id_of, with_objects}
use Rattle.instance_tables.specs.Weak.{forgetting}
use Rattle.instance_tables.specs.Names.{forgotten_in}
use Rattle.instance_tables.specs.View.{object_in, count_in, instances_at}
use Rattle.instance_tables.proofs.Short.{forgetting_few}
use Rattle.instance_tables.proofs.Forgotten.{all_changed, one_object, one_count, still_known, all_forgets, nothing_forgets}
use Rattle.instance_tables.proofs.table.Table.forget.Goals as goal

pub returns-then-not-has_weak : goal.returns-then-not-has_weak
returns-then-not-has_weak c d knows =
    ap (with_objects c.args.self.now)
    (nothing_forgets d c.args.weak.now c.args.id.0 knows (sym c.has_weak.ensures ∙ c.if-not-has_weak.true) c.args.self.now.objects)

pub returns : goal.returns
returns c d knows =
    let at = instances_at c.self.inside.instances in
    let new = c.forget_everywhere.ensures.forgotten in
    all_changed at (instances_at c.forget_everywhere.new.instances) c.self.inside.made c.self.inside.limit
    c.self.inside.floating.items c.args.self.now (option_map (forgetting c.args.weak.now c.args.id.0)) c.self.view_is
    (λ q. ap object_in (new q) ∙ one_object c.args.weak.now c.args.id.0 (at q))
    (λ q. ap count_in (new q) ∙ one_count c.args.weak.now c.args.id.0 (at q))
    ∙ ap (with_objects c.args.self.now) (all_forgets d c.args.weak.now c.args.id.0 knows c.args.self.now.objects)

pub invariant_of-self : goal.invariant_of-self
invariant_of-self c =
    still_known (instances_at c.self.inside.instances) (instances_at c.forget_everywhere.new.instances) c.self.inside.made
    c.self.inside.unheld c.self.inside.namers c.forget_everywhere.new.namers (forgotten_in c.args.weak.now c.args.id.0)
    (λ x. refl) (λ x. record { children = refl; parent = refl }) (λ x few. forgetting_few c.args.weak.now c.args.id.0 x.object few)
    c.forget_everywhere.ensures.forgotten c.forget_everywhere.ensures.known
    c.self.invariant
