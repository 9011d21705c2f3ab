use Rattle.std.proofs.Common.{Some, None}
use Rattle.json_trees.specs.View.{view}
use Rattle.read_parts.proofs.Values.{document-not_utf8, document-text}
use Rattle.read_parts.proofs.document.parsed.Goals as goal

pub returns-in_default : goal.returns-in_default
returns-in_default c = document-not_utf8 c.args.bytes.now c.if-bytes-gt-MAX_BYTES.false c.in_default.ensures.cases.0

pub returns-in-Ok-from_str : goal.returns-in-Ok-from_str
returns-in-Ok-from_str c = document-text c.args.bytes.now c.in-Ok.text.now (Some (view c.in-Ok-from_str.value)) c.if-bytes-gt-MAX_BYTES.false c.in-Ok.ensures.cases.1 c.in-Ok.ensures.cases.0 c.in-Ok-from_str.ensures.ok

pub returns-in-Err-NotJson : goal.returns-in-Err-NotJson
returns-in-Err-NotJson c = document-text c.args.bytes.now c.in-Ok.text.now None c.if-bytes-gt-MAX_BYTES.false c.in-Ok.ensures.cases.1 c.in-Ok.ensures.cases.0 (c.in-Err-NotJson.ensures.err (rw c.in-Err-NotJson.field-0-is))
