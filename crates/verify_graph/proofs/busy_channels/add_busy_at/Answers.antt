use Rattle.std.proofs.Common.{◌∙◌, sym, ap, ◌++◌, [], false, append-nil}
use Rattle.ui_machine.specs.Seq.{read}
use Rattle.std.specs.List.{filter}
use Rattle.ui_machine.specs.Definition.Lookups.{class_of, specs_of}
use Rattle.law_typing.specs.Graph.Channels.{channels_at, emitted_at, readable_from}
use Rattle.law_idle.specs.Idle.{is_busy}
use Rattle.verify_graph.specs.ChannelView.{channels_of, constructed_if}
use Rattle.verify_graph.proofs.BusyLists.{busy_there, none_there}
use Rattle.verify_graph.proofs.ChannelLists.{three}
use Rattle.verify_graph.proofs.busy_channels.add_busy_at.Goals as goal

pub returns-in_default-clause-added : goal.returns-in_default-clause-added
returns-in_default-clause-added c =
    let old = channels_of c.args.channels.now.items in
    sym (append-nil old) ∙ ap (λ xs. old ++ xs) (sym (none_there c.args.lookups.now c.args.place.0 c.in_default.ensures))

pub add_signals-requires : goal.add_signals-requires
add_signals-requires c n =
    ap (λ xs. read false xs n) c.as_slice.ensures.value ∙ c.in_ok-marks.ensures c.in-Some.class (sym c.in-Some.ensures) n

pub returns-clause-added : goal.returns-clause-added
returns-clause-added c =
    let d = c.args.lookups.now in
    let place = c.args.place.0 in
    let class = c.in-Some.class in
    three (channels_of c.args.channels.now.items) (channels_of c.add_constructed.new.channels.items) (channels_of c.add_properties.new.channels.items)
    (channels_of c.add_signals.new.channels.items) (constructed_if d place class) (readable_from place 0 (specs_of d class))
    (filter (is_busy d) (emitted_at place (class_of d class).signals)) (filter (is_busy d) (channels_at d place)) c.in_ok-add_constructed.ensures.added
    c.in_ok-add_properties.ensures.added c.in_ok-add_signals.ensures.added (busy_there d place class c.in-Some.ensures)
