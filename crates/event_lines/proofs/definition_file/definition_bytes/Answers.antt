use Rattle.std.proofs.Common.{◌+◌, arith, rules}
use Rattle.ui_machine.specs.Limits.{most_definition_bytes}
use Rattle.event_lines.proofs.LineLemmas.{taken_front, taken_to_end}
use Rattle.event_lines.proofs.definition_file.definition_bytes.Goals as goal

pub returns-then-count-eq0-clause-bytes : goal.returns-then-count-eq0-clause-bytes
returns-then-count-eq0-clause-bytes g c =
    taken_to_end _ _ _ c.loop-piece.bytes.items _ c.in_ok-count.count (most_definition_bytes + 1) c.loop-piece.invariant.consumed
    c.in_ok-count.ensures.bytes.0 c.if-count-eq0.true (c.in_ok-count.ensures.bytes.1 c.if-count-eq0.true (search rules)) c.loop-piece.invariant.within

pub returns-clause-bytes : goal.returns-clause-bytes
returns-clause-bytes g c =
    taken_front _ _ c.loop-piece.bytes.items (most_definition_bytes + 1) c.loop-piece.invariant.consumed
    (omega (arith, c.loop-piece.invariant.within, c.loop-piece.bytes.ok, c.loop-piece-test.false, c.len.ensures))
