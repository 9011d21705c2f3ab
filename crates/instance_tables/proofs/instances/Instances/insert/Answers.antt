use Rattle.std.proofs.Common.{refl, sym, ◌∙◌}
use Rattle.instance_tables.specs.declared.instances.Entry.{Entry}
use Rattle.instance_tables.proofs.Slabs.{more_seen, more_sound}
use Rattle.instance_tables.proofs.instances.Instances.insert.Goals as goal

pub invariant_of-self-2 : goal.invariant_of-self-2
invariant_of-self-2 c =
    let y : Entry = record { id = c.args.id; instance = c.args.instance } in
    more_sound c.self.inside.entries c.self.inside.keys _ c.self.invariant c.self.view_is c.reserve.new.self c.insert_reserved.new.self
    c.insert.new.self c.args.id.0 c.vacant_key-key.result c.insert_reserved.result y c.requires.absent c.in_ok-reserve.ensures.rest_kept
    c.vacant_key-key.ensures.vacant (c.vacant_key-key.ensures.value ∙ sym c.insert_reserved.ensures.key) c.in-Ok.ensures.updates
    c.insert_reserved.ensures.updates refl c.insert.ensures.ordered

pub returns-clause-ok : goal.returns-clause-ok
returns-clause-ok c =
    let y : Entry = record { id = c.args.id; instance = c.args.instance } in
    more_seen c.self.inside.entries c.self.inside.keys _ c.self.invariant c.self.view_is c.reserve.new.self c.insert_reserved.new.self
    c.insert.new.self c.args.id.0 c.vacant_key-key.result c.insert_reserved.result y c.requires.absent c.in_ok-reserve.ensures.rest_kept
    c.vacant_key-key.ensures.vacant (c.vacant_key-key.ensures.value ∙ sym c.insert_reserved.ensures.key) c.in-Ok.ensures.updates
    c.insert_reserved.ensures.updates refl c.insert.ensures.ordered
