use Rattle.engine_world.proofs.Rooms.{has_room, room_left}
use Rattle.engine_world.proofs.references.never_full.Goals as goal

pub returns-clause-may : goal.returns-clause-may
returns-clause-may c d is o lives = has_room d is.taken c.args.engine.now c.hold_few.ensures c.len.ensures.few is.counts o (is.little o) lives

pub returns-clause-room : goal.returns-clause-room
returns-clause-room c d is o = room_left d is.taken c.args.engine.now c.hold_few.ensures c.len.ensures.few is.counts o (is.little o)
