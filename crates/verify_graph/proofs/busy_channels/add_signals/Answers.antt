use Rattle.std.proofs.Common.{◌∙◌, sym, ap, ◌+◌, ◌++◌, ◌<◌, ◌≤◌, ◌∷◌, [], cond, length, drop, arith}
use Rattle.std.specs.List.{filter}
use Rattle.ui_machine.specs.Seq.{read}
use Rattle.std.specs.Prelude.{false}
use Rattle.ui_machine.specs.Definition.{Definition}
use Rattle.ui_machine.specs.Definition.Lookups.{class_of}
use Rattle.law_typing.specs.Graph.Channels.{emitted_at, signal, signals_from}
use Rattle.law_idle.specs.Idle.{is_busy}
use Rattle.verify_graph.specs.ChannelView.{channels_of}
use Rattle.verify_graph.proofs.BusyLists.{one_kept}
use Rattle.verify_graph.proofs.ChannelLists.{added, adds, first_signal, next_signal, no_signal}
use Rattle.verify_graph.proofs.busy_channels.add_signals.Goals as goal

pub loop-number-init : goal.loop-number-init
loop-number-init c =
    record {
      added =
          ap (λ xs. channels_of c.args.channels.now.items ++ filter (is_busy c.args.lookups.now) xs)
          (first_signal c.args.place.0 (class_of c.args.lookups.now c.args.class).signals);
      few = omega arith;
    }

pub loop-number-preserved : goal.loop-number-preserved
loop-number-preserved c =
    let d = c.args.lookups.now in
    let place = c.args.place.0 in
    let number = c.loop-number.number in
    let signals = (class_of d c.args.class).signals in
    let so_far = channels_of c.loop-number.channels.items in
    let count = ap (λ (x : Definition). length (class_of x c.args.class).signals) c.definition.ensures in
    let within : number < length signals = omega (arith, c.loop-number-test.true, c.signal_count-number-end.ensures.count, count) in
    let rest = signals_from place (number + 1) (drop (number + 1) signals) in
    let mark = read false c.args.marks.now number in
    record {
      added =
          adds (channels_of c.args.channels.now.items) so_far (channels_of c.add_signal.new.channels.items) (cond mark (signal place number ∷ []) [])
          (filter (is_busy d) rest) (filter (is_busy d) (emitted_at place signals)) c.in_ok-add_signal.ensures.added
          (ap (λ xs. so_far ++ xs) (sym (ap (filter (is_busy d)) (next_signal place number signals within) ∙ one_kept d place number rest mark (c.requires number)))
          ∙ c.loop-number.invariant.added);
      few = omega (arith, c.in_ok-add_signal.ensures.few, c.loop-number.invariant.few);
    }

pub returns-clause-added : goal.returns-clause-added
returns-clause-added c =
    let d = c.args.lookups.now in
    let signals = (class_of d c.args.class).signals in
    let number = c.loop-number.number in
    let count = ap (λ (x : Definition). length (class_of x c.args.class).signals) c.definition.ensures in
    let behind : length signals ≤ number = omega (arith, c.loop-number-test.false, c.signal_count-number-end.ensures.count, count) in
    added (channels_of c.args.channels.now.items) (channels_of c.loop-number.channels.items)
    (filter (is_busy d) (signals_from c.args.place.0 number (drop number signals))) (filter (is_busy d) (emitted_at c.args.place.0 signals))
    (ap (filter (is_busy d)) (no_signal c.args.place.0 number number signals behind)) c.loop-number.invariant.added
