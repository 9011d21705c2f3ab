use Rattle.builder_defs.proofs.PlainEvents.{plain_value}
use Rattle.builder_defs.proofs.event_reader.plain_line.Goals as goal

pub returns : goal.returns
returns c = plain_value c.args.bytes.now c.in-Ok.text.now c.in_ok-line.line c.if-bytes-gt-MAX_LINE_BYTES.false c.in-Ok.ensures.cases.1 c.in-Ok.ensures.cases.0 c.in_ok-line.ensures
