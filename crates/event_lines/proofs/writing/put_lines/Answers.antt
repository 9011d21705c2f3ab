use Rattle.std.proofs.Common.{[], ◌∷◌}
use Rattle.std.specs.Prelude.{string_bytes, codes}
use Rattle.event_lines.specs.Texts.{joined}
use Rattle.event_lines.proofs.Pieces.{tears_in_map, passes_in_map}
use Rattle.event_lines.proofs.writing.put_lines.Goals as goal

pub returns-in_default-clause-puts : goal.returns-in_default-clause-puts
returns-in_default-clause-puts g c =
    let puts = rw c.as_bytes.ensures.value at c.in_default.ensures.puts in
    tears_in_map (λ line. joined (line ∷ codes "\n" ∷ [])) string_bytes c.args.lines.now c.loop-line.line-index c.line-item.result
    c.loop-line-test.true c.line-item.is c.loop-line.invariant.passes puts

pub loop-line-preserved : goal.loop-line-preserved
loop-line-preserved g c =
    let puts = rw c.as_bytes.ensures.value at c.in-Ok.ensures.puts in
    record {
      passes = passes_in_map (λ line. joined (line ∷ codes "\n" ∷ [])) string_bytes c.args.lines.now c.loop-line.line-index c.line-item.result
          c.loop-line-test.true c.line-item.is c.loop-line.invariant.passes puts;
      works = c.in-Ok.ensures.marks;
    }
