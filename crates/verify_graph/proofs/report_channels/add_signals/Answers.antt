use Rattle.std.proofs.Common.{◌∙◌, sym, ap, ◌+◌, ◌++◌, ◌<◌, ◌≤◌, [], ◌∷◌, length, length-append, drop, arith}
use Rattle.ui_machine.specs.declared.ids.Channel.{Channel}
use Rattle.ui_machine.specs.declared.ids.Member.TheVariants as members
use Rattle.ui_machine.specs.Definition.{Definition}
use Rattle.ui_machine.specs.Definition.Lookups.{class_of}
use Rattle.law_typing.specs.Graph.Channels.{emitted_at, signal, signals_from}
use Rattle.verify_graph.specs.ChannelView.{channel_of, channels_of}
use Rattle.verify_graph.proofs.ChannelLists.{added, adds, first_signal, next_signal, no_signal, seen_last}
use Rattle.verify_graph.proofs.report_channels.add_signals.Goals as goal

pub loop-number-init : goal.loop-number-init
loop-number-init c =
    record {
      added = ap (λ xs. channels_of c.args.channels.now.items ++ xs) (first_signal c.args.place.0 (class_of c.args.lookups.now c.args.class).signals);
      few = omega arith;
    }

pub loop-number-preserved : goal.loop-number-preserved
loop-number-preserved c =
    let place = c.args.place.0 in
    let number = c.loop-number.number in
    let signals = (class_of c.args.lookups.now c.args.class).signals in
    let so_far = channels_of c.loop-number.channels.items in
    let count = ap (λ (d : Definition). length (class_of d c.args.class).signals) c.definition.ensures in
    let within : number < length signals = omega (arith, c.loop-number-test.true, c.signal_count-number-end.ensures.count, count) in
    let x : Channel = record { place = c.args.place; member = members.Signal number } in
    record {
      added =
          adds (channels_of c.args.channels.now.items) so_far (channels_of c.push.new.self.items) (signal place number ∷ [])
          (signals_from place (number + 1) (drop (number + 1) signals)) (emitted_at place signals)
          (seen_last channel_of c.loop-number.channels.items c.push.new.self.items x c.in_ok-push.ensures.items)
          (ap (λ xs. so_far ++ xs) (sym (next_signal place number signals within)) ∙ c.loop-number.invariant.added);
      few =
          (let e = ap length c.in_ok-push.ensures.items in let l = length-append c.loop-number.channels.items (x ∷ []) in
          omega (arith, e, l, c.loop-number.invariant.few));
    }

pub returns-clause-added : goal.returns-clause-added
returns-clause-added c =
    let signals = (class_of c.args.lookups.now c.args.class).signals in
    let number = c.loop-number.number in
    let count = ap (λ (d : Definition). length (class_of d c.args.class).signals) c.definition.ensures in
    let behind : length signals ≤ number = omega (arith, c.loop-number-test.false, c.signal_count-number-end.ensures.count, count) in
    added (channels_of c.args.channels.now.items) (channels_of c.loop-number.channels.items) (signals_from c.args.place.0 number (drop number signals))
    (emitted_at c.args.place.0 signals) (no_signal c.args.place.0 number number signals behind) c.loop-number.invariant.added
