use Rattle.std.proofs.Common.{◌∙◌, ap, subst, false, ◌+◌, ◌<◌, ◌∷◌, [], List, length, map, take, arith}
use Rattle.ui_machine.specs.Definition.Places.{Attached}
use Rattle.std.specs.Prelude.{◌||◌}
use Rattle.ui_machine.specs.Seq.{read}
use Rattle.ui_machine.specs.Rules.Connections.{signal_number}
use Rattle.ui_machine.specs.Rules.Programs.{is_number}
use Rattle.definition_format.specs.Meaning.{attached_view}
use Rattle.law_idle.specs.Idle.{signals_attached}
use Rattle.verify_graph.specs.Busy.{Marks}
use Rattle.verify_graph.proofs.BusySignals.{more_marked, none_marked, one_marked}
use Rattle.verify_graph.proofs.Prefixes.{mapped_last, take_all, take_entry}
use Rattle.verify_graph.proofs.busy_signals.mark_attached.Goals as goal

pub loop-number-init : goal.loop-number-init
loop-number-init c = none_marked c.args.lookups.now c.args.class c.args.marks.now.items

pub loop-number-preserved : goal.loop-number-preserved
loop-number-preserved c =
    let d = c.args.lookups.now in
    let xs = c.args.signals.now in
    let n = c.loop-number.number in
    let x = c.index-signals-number.result in
    let name = (attached_view x).signal in
    let within : n < length xs = omega (arith, c.loop-number-test.true) in
    more_marked d c.args.class (signals_attached (map attached_view (take n xs))) (name ∷ []) (signals_attached (map attached_view (take (n + 1) xs))) c.args.marks.now.items
    c.loop-number.marks.items c.mark.new.marks.items c.loop-number.invariant (one_marked d c.args.class name c.loop-number.marks.items c.mark.new.marks.items
    (λ m. c.in_ok-mark.ensures m
    ∙ ap (λ o. read false c.loop-number.marks.items m || is_number m o) (c.signal_number.ensures ∙ ap (signal_number d c.args.class) c.as_str.ensures.value)))
    (mapped_last (λ (a : Attached). a.signal) (map attached_view (take n xs)) (map attached_view (take (n + 1) xs)) (attached_view x)
    (mapped_last attached_view (take n xs) (take (n + 1) xs) x (take_entry xs n x within c.index-signals-number.is)))

pub returns : goal.returns
returns c =
    let xs = c.args.signals.now in
    subst (λ ys. Marks c.args.lookups.now c.args.class (signals_attached (map attached_view ys)) c.args.marks.now.items c.loop-number.marks.items)
    (take_all xs c.loop-number.number (omega (arith, c.loop-number-test.false))) c.loop-number.invariant
