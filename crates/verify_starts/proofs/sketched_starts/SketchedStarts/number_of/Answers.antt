use Rattle.std.proofs.Common.{refl, sym}
use Rattle.verify_starts.specs.Triggers.{trigger_view}
use Rattle.verify_starts.specs.declared.sketched_starts.SketchedStarts.{SketchedStarts}
use Rattle.verify_starts.proofs.StartTables.{goes_on_both, one_key}
use Rattle.verify_starts.proofs.sketched_starts.SketchedStarts.number_of.Goals as goal

pub returns-in-Some-clause-start : goal.returns-in-Some-clause-start
returns-in-Some-clause-start c =
    c.requires.table.kept (trigger_view c.args.trigger.now) c.args.key c.in-Some.number.now c.requires.key (sym c.in-Some.ensures.value)

pub returns-clause-goes_on : goal.returns-clause-goes_on
returns-clause-goes_on c =
    let d = c.args.lookups.now in
    let all = c.args.numbers.now in
    let middle = c.add.new.self in
    let new : SketchedStarts = record { starts = c.add.new.self.starts; numbers = c.insert.new.self } in
    goes_on_both d all c.args.self.now middle new c.in_ok-number.ensures.goes_on
    (one_key d all middle new (trigger_view c.args.trigger.now) c.args.key c.in_ok-number.number c.in_ok-number.ensures.goes_on.table refl c.requires.key
    c.in_ok-number.ensures.start (λ k. c.in_ok-insert.ensures.updates.0 k))
