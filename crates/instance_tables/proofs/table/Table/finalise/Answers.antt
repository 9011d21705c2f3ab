use Rattle.std.proofs.Common.{IsSome, None, length, ap, subst, sym, ◌∙◌, arith}
use Rattle.ui_machine.specs.State.Objects.{Objects, living}
use Rattle.instance_tables.specs.Store.{Store}
use Rattle.instance_tables.proofs.Families.{length_put, was_made}
use Rattle.instance_tables.proofs.Disposed.{disposed_lives, known_by}
use Rattle.instance_tables.proofs.table.Table.finalise.Goals as goal

pub take_out-requires-clause-live : goal.take_out-requires-clause-live
take_out-requires-clause-live c =
    let known = known_by c.args.weak.now in
    subst (λ (os : Objects). IsSome (living os c.args.id.0)) (sym (c.dispose.ensures.disposes known.0 known.1).objects)
    (disposed_lives known.0 c.args.self.now.objects c.args.id.0 c.requires.live)

pub take_out-requires-clause-unheld : goal.take_out-requires-clause-unheld
take_out-requires-clause-unheld c =
    let known = known_by c.args.weak.now in
    omega (arith, (c.dispose.ensures.disposes known.0 known.1).counts c.args.id.0, c.requires.unheld)

pub returns-clause-made : goal.returns-clause-made
returns-clause-made c =
    let known = known_by c.args.weak.now in
    let disposed = c.dispose.ensures.disposes known.0 known.1 in
    let live =
    subst (λ (os : Objects). IsSome (living os c.args.id.0)) (sym disposed.objects)
    (disposed_lives known.0 c.args.self.now.objects c.args.id.0 c.requires.live) in
    ap (λ (s : Store). length s.objects) c.take_out.ensures
    ∙ length_put c.dispose.new.self.objects c.args.id.0 None (was_made c.dispose.new.self.objects c.args.id.0 live).1
    ∙ c.dispose.ensures.made
