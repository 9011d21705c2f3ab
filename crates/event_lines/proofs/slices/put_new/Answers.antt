use Rattle.std.specs.Prelude.{string_bytes}
use Rattle.event_lines.proofs.SliceLemmas.{kept_behind}
use Rattle.event_lines.proofs.slices.put_new.Goals as goal

pub returns-clause-puts : goal.returns-clause-puts
returns-clause-puts g c =
    rw (kept_behind string_bytes c.transcript.result.now c.args.known c.args.session.now.core.world.transcript c.transcript.ensures) at c.put_lines-put.ensures.puts
