use Rattle.builder_defs.proofs.EventsRead.{read_if}
use Rattle.builder_defs.proofs.event_reader.EventReader.read.Goals as goal

pub returns-clause-read : goal.returns-clause-read
returns-clause-read c = read_if c.args.definition.now c.types-types.ensures.denoted c.args.bytes.now c.event_of_any.result c.event_of_any.ensures
