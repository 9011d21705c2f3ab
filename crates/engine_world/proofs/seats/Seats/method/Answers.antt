use Rattle.engine_world.proofs.PlainKinds.{if_known}
use Rattle.engine_world.proofs.seats.Seats.method.Goals as goal

pub returns-clause-known : goal.returns-clause-known
returns-clause-known c types = if_known types c.in_ok-seat.seat.shape.now c.args.method c.method.result c.in_ok-seat.ensures.plain c.method.ensures
