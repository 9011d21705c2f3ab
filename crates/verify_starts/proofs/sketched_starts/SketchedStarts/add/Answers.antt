use Rattle.std.proofs.Common.{◌≡◌, ◌∙◌, refl, ap, Some, length, slice_get, arith}
use Rattle.verify_starts.specs.Tables.{starts_in}
use Rattle.verify_starts.specs.Triggers.{trigger_view}
use Rattle.verify_starts.specs.declared.sketched_starts.SketchedStarts.{SketchedStarts}
use Rattle.verify_starts.proofs.StartTables.{one_more, one_more_at}
use Rattle.verify_starts.proofs.sketched_starts.SketchedStarts.add.Goals as goal

pub returns-clause-goes_on : goal.returns-clause-goes_on
returns-clause-goes_on c =
    let new : SketchedStarts = record { starts = c.push.new.self; numbers = c.args.self.now.numbers } in
    one_more c.args.lookups.now c.args.numbers.now c.args.self.now new c.in_ok-start.start c.requires.table
    (trigger_view c.args.trigger.now, c.in_ok-start.ensures) c.in_ok-push.ensures.items refl

pub returns-clause-start : goal.returns-clause-start
returns-clause-start c =
    let new : SketchedStarts = record { starts = c.push.new.self; numbers = c.args.self.now.numbers } in
    let e : c.len-number.result ≡ length c.args.self.now.starts.items = omega (arith, c.len-number.ensures, c.args.self.now.starts.ok.0) in
    ap (slice_get (starts_in new)) e ∙ (one_more_at c.args.self.now new c.in_ok-start.start c.in_ok-push.ensures.items ∙ ap Some c.in_ok-start.ensures)
