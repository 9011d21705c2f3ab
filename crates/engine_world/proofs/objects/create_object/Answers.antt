use Rattle.std.proofs.Common.{◌≡◌, ℕ, Some, refl, ap, map, ◌∙◌, arith}
use Rattle.ui_machine.specs.State.Objects.{Object}
use Rattle.ui_machine.specs.State.References.{in_object}
use Rattle.engine_world.specs.View.{held_of}
use Rattle.engine_world.specs.TaskView.{agenda_of}
use Rattle.engine_world.proofs.Counts.{keeps_by, beside_of, to_counted, from_counted, stays}
use Rattle.instance_tables.proofs.Born.{newest_lives}
use Rattle.engine_world.proofs.objects.create_object.Goals as goal

pub returns-clause-live : goal.returns-clause-live
returns-clause-live c =
    newest_lives c.args.engine.now.world.table.objects c.add.new.table.objects c.new-object.result c.in_ok-id.id.0 c.in_ok-id.ensures.added.identity c.in_ok-id.ensures.added.objects

pub returns-clause-counted : goal.returns-clause-counted
returns-clause-counted c none =
    let d = c.args.definition.now in
    let e = c.args.engine.now in
    let b = map held_of e.world.builder.items in
    let a = agenda_of d e in
    let x = c.new-object.result in
    let empty : (o : ℕ) → in_object d o (Some x) ≡ 0 = λ o. ap (λ (y : Object). in_object d o (Some y)) c.new-object.ensures ∙ omega (arith, none o) in
    keeps_by d e _ refl refl (λ g. g) refl (stays d e _ refl refl) (λ taken _ h.
    from_counted d taken c.add.new.table b a
    (c.in_ok-id.ensures.added.counted d (beside_of taken b a) empty (to_counted d taken e.world.table b a h)))
