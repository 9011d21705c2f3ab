use Rattle.signal_core.specs.Connected.{connection_of}
use Rattle.engine_world.proofs.HandlerAdded.{connect_leaves, keeps_connected}
use Rattle.engine_world.proofs.connections.add_handler.Goals as goal

pub returns-in-Ok-clause-agenda : goal.returns-in-Ok-clause-agenda
returns-in-Ok-clause-agenda c =
    connect_leaves c.args.definition.now c.args.engine.now c.connect.new.self (connection_of c.args.connection) c.in-Ok.ensures.ok c.requires.connects

pub returns-in-Ok-clause-counted : goal.returns-in-Ok-clause-counted
returns-in-Ok-clause-counted c =
    keeps_connected c.args.definition.now c.args.engine.now c.connect.new.self (connection_of c.args.connection) c.in-Ok.ensures.ok c.requires.connects
