use Rattle.instance_tables.proofs.Born.{born_has_room, born_lives}
use Rattle.instance_tables.proofs.table.Table.make_listed.Goals as goal

pub hold-requires-clause-live : goal.hold-requires-clause-live
hold-requires-clause-live c = born_lives c.args.self.now c.make.new.self c.in_ok-id.id.0 c.args.object c.in_ok-id.ensures.made

pub hold-requires-clause-room : goal.hold-requires-clause-room
hold-requires-clause-room c = born_has_room c.args.self.now c.make.new.self c.in_ok-id.id.0 c.args.object c.next_unheld-unheld.ensures.dead c.in_ok-id.ensures.made
