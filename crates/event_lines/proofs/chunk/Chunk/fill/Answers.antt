use Rattle.std.proofs.Common.{arith, ap, length, length-take, length-drop, ◌∙◌}
use Rattle.event_lines.proofs.Pieces.{waits_out}
use Rattle.event_lines.proofs.chunk.Chunk.fill.Goals as goal

pub returns-then-self-clause-end : goal.returns-then-self-clause-end
returns-then-self-clause-end g c e =
    absurd (omega (arith, c.self.invariant, c.self.told, simp (length-drop, length-take) at (ap length (c.self.view_is ∙ e))))

pub returns-in_err-count-clause-waits : goal.returns-in_err-count-clause-waits
returns-in_err-count-clause-waits g c = waits_out _ _ _ _ _ _ _ _ c.in_ok-flush.ensures.writes c.in_ok-flush.ensures.empty c.flush.ensures.once c.read.ensures.counts
