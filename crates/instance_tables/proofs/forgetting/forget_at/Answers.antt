use Rattle.std.proofs.Common.{[], Some, sym, ap, ◌∙◌}
use Rattle.std.specs.Option.{option_copied_mut, option_map}
use Rattle.ui_machine.specs.Seq.{read}
use Rattle.ui_machine.specs.State.Objects.{Object}
use Rattle.instance_tables.specs.Lent.{with_instance}
use Rattle.instance_tables.specs.Names.{forgotten_in, names_any}
use Rattle.instance_tables.specs.declared.instance.Instance.{Instance}
use Rattle.instance_tables.specs.View.{instances_at}
use Rattle.instance_tables.proofs.Maps.{written}
use Rattle.instance_tables.proofs.Naming.{forgotten_names, known_replaced}
use Rattle.instance_tables.proofs.forgetting.forget_at.Goals as goal

pub returns-clause-known : goal.returns-clause-known
returns-clause-known c known =
    let here = sym c.get_mut.ensures.value ∙ ap option_copied_mut c.in-Some.is in
    let was = c.in-Some.instance.now in
    let y : Instance = record { object = c.forget.new.self; mentions = was.mentions } in
    known_replaced (instances_at c.args.instances.now) (instances_at (with_instance c.args.instances.now c.args.holder y)) c.args.holder c.args.namers.now
    c.remove_unnamed.new.self known (λ t h ne may. c.remove_unnamed.ensures.stays t h (λ is. absurd (ne is)) may) y
    (written c.args.instances.now c.args.holder was y here)
    (λ t named.
    c.remove_unnamed.ensures.stays t c.args.holder (λ is. named)
    (known c.args.holder t was here
    (forgotten_names c.args.id.0 t (read [] c.args.weak.now was.object.class) was.object.values
    (ap (λ (o : Object). names_any t o.values) (sym c.forget.ensures) ∙ named))))

pub returns-clause-changed : goal.returns-clause-changed
returns-clause-changed c =
    let here = sym c.get_mut.ensures.value ∙ ap option_copied_mut c.in-Some.is in
    let was = c.in-Some.instance.now in
    let y : Instance = record { object = c.forget.new.self; mentions = was.mentions } in
    (written c.args.instances.now c.args.holder was y here).changed
    ∙ ap (λ (o : Object). Some (record { object = o; mentions = was.mentions })) c.forget.ensures
    ∙ ap (option_map (forgotten_in c.args.weak.now c.args.id.0)) (sym here)

pub returns-clause-others : goal.returns-clause-others
returns-clause-others c q ne =
    let here = sym c.get_mut.ensures.value ∙ ap option_copied_mut c.in-Some.is in
    let was = c.in-Some.instance.now in
    let y : Instance = record { object = c.forget.new.self; mentions = was.mentions } in
    (written c.args.instances.now c.args.holder was y here).others q ne
