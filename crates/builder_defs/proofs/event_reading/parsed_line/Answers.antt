use Rattle.std.proofs.Common.{Some}
use Rattle.serde_json.specs.View.{view}
use Rattle.read_parts.proofs.Values.{line_value-not_utf8, line_value-text}
use Rattle.builder_defs.proofs.event_reading.parsed_line.Goals as goal

pub returns-in_default : goal.returns-in_default
returns-in_default c = line_value-not_utf8 c.args.bytes.now c.if-bytes-gt-MAX_LINE_BYTES.false c.in_default.ensures.cases.0

pub returns-in-Ok-from_str : goal.returns-in-Ok-from_str
returns-in-Ok-from_str c = line_value-text c.args.bytes.now c.in-Ok.text.now (Some (view c.in-Ok-from_str.value)) c.if-bytes-gt-MAX_LINE_BYTES.false c.in-Ok.ensures.cases.1 c.in-Ok.ensures.cases.0 c.in-Ok-from_str.ensures.ok
