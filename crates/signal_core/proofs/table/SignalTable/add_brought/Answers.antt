use Rattle.std.proofs.Common.{◌≡◌, ◌<◌, length, sym, subst, arith}
use Rattle.signal_core.specs.SignalRows.{ArePlaces}
use Rattle.signal_core.specs.Sources.{AreMarked, brought_by, brought_until, declared_until}
use Rattle.signal_core.proofs.Walks.{until_end, until_more}
use Rattle.signal_core.proofs.table.SignalTable.add_brought.Goals as goal

pub loop-at-init : goal.loop-at-init
loop-at-init c = record { places = c.requires.above; marked = c.requires.marks }

pub add_source-requires-clause-marks : goal.add_source-requires-clause-marks
add_source-requires-clause-marks c = c.loop-at.invariant.marked

pub mark-requires-clause-marks : goal.mark-requires-clause-marks
mark-requires-clause-marks c = c.loop-at.invariant.marked

pub loop-at-preserved : goal.loop-at-preserved
loop-at-preserved c =
    let lt : c.loop-at.at < length (brought_by c.args.tree.now c.args.t) = omega (arith, c.loop-at-test.true, c.source_count-at-end.ensures) in
    record {
      places = subst (ArePlaces c.args.self.now.signals c.add_source.new.places.items) (sym (until_more c.args.tree.now c.args.self.now.signals c.args.t c.loop-at.at lt))
          (c.in_ok-add_source.ensures (declared_until c.args.tree.now c.args.self.now.signals c.args.t c.loop-at.at) c.loop-at.invariant.places);
      marked = c.mark.ensures;
    }

pub returns-clause-places : goal.returns-clause-places
returns-clause-places c =
    let end : c.loop-at.at ≡ length (brought_by c.args.tree.now c.args.t) = omega (arith, c.loop-at-test.false, c.loop-at.auto.at-end, c.source_count-at-end.ensures) in
    subst (ArePlaces c.args.self.now.signals c.loop-at.places.items) (until_end c.args.tree.now c.args.self.now.signals c.args.t c.loop-at.at end) c.loop-at.invariant.places

pub returns-clause-marks : goal.returns-clause-marks
returns-clause-marks c =
    let end : c.loop-at.at ≡ length (brought_by c.args.tree.now c.args.t) = omega (arith, c.loop-at-test.false, c.loop-at.auto.at-end, c.source_count-at-end.ensures) in
    subst (λ n. AreMarked c.loop-at.marks (brought_until c.args.tree.now c.args.t n)) end c.loop-at.invariant.marked
