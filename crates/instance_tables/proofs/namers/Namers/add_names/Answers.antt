use Rattle.std.proofs.Common.{arith}
use Rattle.instance_tables.proofs.Names.{slot_of}
use Rattle.instance_tables.proofs.namers.Namers.add_names.Goals as goal

pub returns-clause-added : goal.returns-clause-added
returns-clause-added c t named =
    let slot = slot_of t c.args.object.now.values named in
    c.slots.invariant.added slot.0 t (omega (arith, slot.1, c.slots-test.false, c.slot_count-slot-end.ensures)) slot.2
