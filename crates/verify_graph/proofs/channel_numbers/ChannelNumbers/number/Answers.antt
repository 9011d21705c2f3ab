use Rattle.std.proofs.Common.{◌≡◌, ◌∙◌, ◌<◌, sym, ap, subst, length, List, Some, None, slice_get, arith}
use Rattle.std.specs.BTreeMap.{get}
use Rattle.std.proofs.lemmas.List.{length-map}
use Rattle.std.proofs.lemmas.Option.{none-some, slice_get_within}
use Rattle.law_typing.specs.Graph.Channels.{Channel}
use Rattle.verify_graph.specs.ChannelView.{channel_of, channels_of}
use Rattle.verify_graph.specs.Numbering.{compared, keyed}
use Rattle.verify_graph.specs.Numbers.{number_of}
use Rattle.verify_graph.proofs.Positions.{number_is, number_none}
use Rattle.verify_graph.proofs.channel_numbers.ChannelNumbers.number.Goals as goal

pub returns-in-Some-clause-found : goal.returns-in-Some-clause-found
returns-in-Some-clause-found c =
    let channel = channel_of c.args.channel.now in
    let numbers = c.self.inside.numbers in
    let number = c.in-Some.number.now in
    let kept : keyed numbers channel ≡ Some number = sym (c.in-Some.ensures.value ∙ ap (get compared numbers) c.key_of.ensures) in
    subst (λ (cs : List Channel). slice_get cs number ≡ Some channel) c.self.view_is (c.self.invariant.0.right channel number kept)

pub returns-in-Some-clause-number : goal.returns-in-Some-clause-number
returns-in-Some-clause-number c =
    let channel = channel_of c.args.channel.now in
    let numbers = c.self.inside.numbers in
    let number = c.in-Some.number.now in
    let kept : keyed numbers channel ≡ Some number = sym (c.in-Some.ensures.value ∙ ap (get compared numbers) c.key_of.ensures) in
    subst (λ (cs : List Channel). Some number ≡ number_of cs channel) c.self.view_is
    (number_is (channels_of c.self.inside.channels.items) c.self.invariant.1.once channel number (c.self.invariant.0.right channel number kept))

pub returns-in-Some-clause-within : goal.returns-in-Some-clause-within
returns-in-Some-clause-within c =
    let channel = channel_of c.args.channel.now in
    let numbers = c.self.inside.numbers in
    let number = c.in-Some.number.now in
    let kept : keyed numbers channel ≡ Some number = sym (c.in-Some.ensures.value ∙ ap (get compared numbers) c.key_of.ensures) in
    subst (λ (cs : List Channel). number < length cs) c.self.view_is
    (slice_get_within (channels_of c.self.inside.channels.items) number channel (c.self.invariant.0.right channel number kept))

pub returns-in-None-clause-none : goal.returns-in-None-clause-none
returns-in-None-clause-none c number there =
    let channel = channel_of c.args.channel.now in
    let numbers = c.self.inside.numbers in
    let items = c.self.inside.channels.items in
    let stands : slice_get (channels_of items) number ≡ Some channel =
    subst (λ (cs : List Channel). slice_get cs number ≡ Some channel) (sym c.self.view_is) there in
    let low = slice_get_within (channels_of items) number channel stands in
    let within : number < length items = omega (arith, low, length-map items channel_of) in
    let kept = c.self.invariant.0.all number channel within stands in
    let absent : None ≡ keyed numbers channel = c.in-None.ensures.value ∙ ap (get compared numbers) c.key_of.ensures in
    absurd (none-some kept.0 (absent ∙ kept.1))

pub returns-in-None-clause-number : goal.returns-in-None-clause-number
returns-in-None-clause-number c =
    let channel = channel_of c.args.channel.now in
    let numbers = c.self.inside.numbers in
    let items = c.self.inside.channels.items in
    let absent : None ≡ keyed numbers channel = c.in-None.ensures.value ∙ ap (get compared numbers) c.key_of.ensures in
    subst (λ (cs : List Channel). None ≡ number_of cs channel) c.self.view_is
    (number_none (channels_of items) channel
    (λ number stands.
    let low = slice_get_within (channels_of items) number channel stands in
    let within : number < length items = omega (arith, low, length-map items channel_of) in
    let kept = c.self.invariant.0.all number channel within stands in
    none-some kept.0 (absent ∙ kept.1)))
