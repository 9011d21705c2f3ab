use Rattle.std.proofs.Common.{length, sym, subst, ℕ}
use Rattle.native_peers.specs.Pool.{entries}
use Rattle.instances.specs.Lent.{AreLent}
use Rattle.instances.proofs.Kept.{apart_born, lent_born, slotted_born}
use Rattle.instances.proofs.heaps.Heap.add_object.Goals as goal

pub invariant_of-self-2-clause-lent : goal.invariant_of-self-2-clause-lent
invariant_of-self-2-clause-lent g c =
    let P : ℕ → Type 0 = λ last. AreLent last (length (entries c.args.self.now.pool)) c.create.new.self.objects in
    subst P (sym c.max-self.ensures)
    (lent_born c.args.self.now.last_lent c.in_ok-id.id.0 (length (entries c.args.self.now.pool)) c.args.self.now.table c.create.new.self c.args.object c.args.self.now.lent c.requires.inside c.in_ok-id.ensures)

pub invariant_of-self-2-clause-apart : goal.invariant_of-self-2-clause-apart
invariant_of-self-2-clause-apart g c =
    apart_born c.in_ok-id.id.0 c.args.self.now.table c.create.new.self c.args.object c.args.self.now.apart c.requires.free c.in_ok-id.ensures

pub invariant_of-self-2-clause-slotted : goal.invariant_of-self-2-clause-slotted
invariant_of-self-2-clause-slotted g c =
    slotted_born c.args.self.now.classes.types.now c.args.self.now.classes.specs.now c.in_ok-id.id.0 c.args.self.now.table c.create.new.self c.args.object
    c.args.self.now.slotted c.requires.full c.in_ok-id.ensures
