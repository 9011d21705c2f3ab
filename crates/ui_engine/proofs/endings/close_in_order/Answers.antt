use Rattle.std.proofs.Common.{◌≡◌, ◌+◌, ◌-◌, ◌<◌, ◌≤◌, ℕ, Option, Some, ap, subst, arith}
use Rattle.ui_machine.specs.State.Objects.{most_identities}
use Rattle.instance_tables.specs.Store.{IsNextLiving, id_of}
use Rattle.engine_dispatches.proofs.Points.{same_on}
use Rattle.ui_engine.proofs.InOrder.{last_one, left_none, one_on}
use Rattle.ui_engine.proofs.TakenProofs.{comes_nearer, has_next, no_next}
use Rattle.ui_engine.proofs.endings.close_in_order.Goals as goal

pub objects-preserved : goal.objects-preserved
objects-preserved g c =
    let id = c.in-Some.id.0 in
    let next = c.in-Some-identity_after.next in
    let found = has_next id next c.identity_after.result c.identity_after.ensures c.in-Some-identity_after.is in
    let few : id < most_identities = found.0 in
    let after : next ≡ id + 1 = found.1 in
    let lives : IsNextLiving c.args.table.now.objects c.objects.from.0 (Some id) =
    subst (λ r. IsNextLiving c.args.table.now.objects c.objects.from.0 (id_of r)) c.in-Some.is c.next_live.ensures in
    record {
      closed = one_on c.args.seats.now most_identities c.args.table.now.objects c.objects.from.0 id next _ _ _ lives (omega (arith, few)) (omega (arith, after))
          c.close_of.ensures.closed c.objects.invariant.closed;
      same = same_on c.objects.invariant.same c.close_of.ensures.same;
    }

pub objects-smaller : goal.objects-smaller
objects-smaller g c =
    let lives = c.next_live.ensures.lives c.in-Some.id.0 (ap id_of c.in-Some.is) in
    comes_nearer c.objects.from.0 c.in-Some.id.0 c.in-Some-identity_after.next c.identity_after.result lives.0 c.identity_after.ensures c.in-Some-identity_after.is

pub returns-in_default-identity_after-clause-closed : goal.returns-in_default-identity_after-clause-closed
returns-in_default-identity_after-clause-closed g c =
    let id = c.in-Some.id.0 in
    last_one c.args.seats.now most_identities c.args.table.now.objects c.objects.from.0 id _ _ _
    (subst (λ r. IsNextLiving c.args.table.now.objects c.objects.from.0 (id_of r)) c.in-Some.is c.next_live.ensures)
    (no_next id c.identity_after.result c.identity_after.ensures c.in_default-identity_after.is) c.close_of.ensures.closed c.objects.invariant.closed

pub returns-clause-closed : goal.returns-clause-closed
returns-clause-closed g c =
    left_none c.args.seats.now most_identities c.args.table.now.objects c.objects.from.0 _ _
    (subst (λ r. IsNextLiving c.args.table.now.objects c.objects.from.0 (id_of r)) c.in_default.is c.next_live.ensures) c.objects.invariant.closed
