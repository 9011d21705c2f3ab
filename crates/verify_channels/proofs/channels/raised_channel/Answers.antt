use Rattle.std.proofs.Common.{◌≡◌, ◌∙◌, sym, ap, subst, ℕ, ◌<◌, List, Option, Vec, length, arith}
use Rattle.std.specs.Global.{Global}
use Rattle.std.specs.List.{filter_map}
use Rattle.std.proofs.lemmas.Option.{same_Some}
use Rattle.definition_format.specs.Origin.{IsDenoted}
use Rattle.law_typing.specs.Graph.{class_handler_for}
use Rattle.law_typing.specs.Graph.Channels.{Channel, of_class}
use Rattle.law_typing.specs.Rules.RegisterKinds.{class_at}
use Rattle.verify_sketches.specs.View.{channel_view}
use Rattle.verify_sketches.specs.declared.channels.SketchedChannel.{SketchedChannel}
use Rattle.verify_graph.specs.ChannelView.{channel_of}
use Rattle.verify_channels.specs.Connected.{groups_for}
use Rattle.verify_channels.specs.Raised.{RunsAt}
use Rattle.verify_channels.specs.Transfers.{list_at}
use Rattle.verify_channels.specs.declared.connections.PlacedGroup.{PlacedGroup}
use Rattle.verify_channels.specs.declared.signal_lists.SignalLists.{SignalLists}
use Rattle.verify_channels.proofs.MeantLists.{got, place_is, read_mapped}
use Rattle.verify_channels.proofs.TransferLists.{few_targets}
use Rattle.verify_channels.proofs.channels.raised_channel.Goals as goal

pub overflow_cast-result : goal.overflow_cast-result
overflow_cast-result c =
    let d = c.args.lookups.now in
    let n = c.args.number in
    let all = c.args.numbers.now in
    let lists = c.args.parts.now.transfers.items in
    let channel = channel_of c.channel-channel.result in
    let within : n < length lists = omega (arith, c.requires.within, c.requires.targets) in
    let targets = c.as_slice-targets.ensures.value ∙ sym (read_mapped (λ (v : Vec (Option ℕ) Global). v.items) lists n c.index.result.now (got lists n c.index.result.now within c.index.ensures)) in
    let are = ap length (targets ∙ c.requires.transfers n channel c.channel-channel.ensures) in
    let denoted = subst IsDenoted c.definition.ensures c.types-types.ensures.denoted in
    let short = c.lengths.ensures d denoted in
    omega (arith, are, few_targets all channel d.bindings, short.bindings)

pub returns : goal.returns
returns c e at =
    let d = c.args.lookups.now in
    let n = c.args.number in
    let paired = c.args.paired.now in
    let parts = c.args.parts.now in
    let channel = c.channel-channel.result in
    let same : channel_of channel ≡ e = same_Some _ _ (sym c.channel-channel.ensures ∙ at) in
    let firsts = paired.firsts.items in
    let others = paired.others.items in
    let lists = parts.transfers.items in
    let targets = c.as_slice-targets.result.now in
    let k : SketchedChannel = record {
      emits = c.emits.result;
      class_handler = c.class_handler.result;
      stages = c.stages.result;
      handlers = c.in_ok-handlers_for.field-0;
      groups = c.in_ok-groups_at.field-0;
      transfers = length targets;
      targets = c.in_ok-known.field-0;
      first = c.index-2.result.now;
      other = c.index-3.result.now;
    } in
    let within_lists : n < length lists = omega (arith, c.requires.within, c.requires.targets) in
    let within_firsts : n < length firsts = omega (arith, c.requires.within, c.requires.firsts) in
    let within_others : n < length others = omega (arith, c.requires.within, c.requires.others) in
    let listed : targets ≡ list_at lists n =
    c.as_slice-targets.ensures.value
    ∙ sym (read_mapped (λ (v : Vec (Option ℕ) Global). v.items) lists n c.index.result.now (got lists n c.index.result.now within_lists c.index.ensures)) in
    subst (λ (x : Channel). RunsAt d paired parts n x (channel_view k)) same (record {
      emits = c.emits.ensures;
      class_handler = λ is.
          c.class_handler.ensures is ∙ ap (λ p. of_class (class_handler_for d (channel_of channel)) (class_at d p)) (sym (place_is channel));
      stages = c.stages.ensures;
      handlers = c.in_ok-handlers_for.ensures;
      groups = c.in_ok-groups_at.ensures ∙ ap (λ (xs : List (SignalLists PlacedGroup)). groups_for xs (channel_of channel)) c.as_slice-2.ensures.value;
      transfers = ap length listed;
      targets = c.in_ok-known.ensures ∙ ap (filter_map (λ (o : Option ℕ). o)) listed;
      first = sym (got firsts n c.index-2.result.now within_firsts c.index-2.ensures);
      other = sym (got others n c.index-3.result.now within_others c.index-3.ensures);
    })
