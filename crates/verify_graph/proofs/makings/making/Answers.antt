use Rattle.std.proofs.Common.{◌≡◌, ◌∙◌, ap, ◌++◌, map, Some, None, slice_get}
use Rattle.ui_machine.specs.Definition.{Definition}
use Rattle.ui_machine.specs.Definition.Lookups.{place_at, specs_of}
use Rattle.definition_format.specs.Meaning.{given_property}
use Rattle.definitions.specs.EntryView.{entry_view}
use Rattle.law_typing.specs.Graph.{set_from}
use Rattle.law_typing.specs.Graph.Channels.{present}
use Rattle.verify_graph.specs.ChannelView.{channels_of, constructed_if}
use Rattle.verify_graph.proofs.MakingLists.{class_is, made, making_is, no_making}
use Rattle.verify_graph.proofs.makings.making.Goals as goal

pub returns-in_default : goal.returns-in_default
returns-in_default c =
    let d = c.args.lookups.now in
    let place = c.args.place.0 in
    let none : None ≡ place_at d place =
    c.in_default.ensures
    ∙ (ap (λ (e : Definition). slice_get e.places c.from.result) c.definition.ensures ∙ ap (slice_get d.places) c.from.ensures) in
    ap channels_of c.new-channels.ensures.items ∙ no_making d place none

pub returns : goal.returns
returns c =
    let d = c.args.lookups.now in
    let place = c.args.place.0 in
    let o = c.in-Some.entry in
    let given = o.given.now in
    let p = entry_view o in
    let some : Some p ≡ place_at d place =
    c.in-Some.ensures
    ∙ (ap (λ (e : Definition). slice_get e.places c.from.result) c.definition.ensures ∙ ap (slice_get d.places) c.from.ensures) in
    let built = present d (set_from place (map given_property given) 0 (specs_of d o.class)) in
    c.in_ok-add_all_built.ensures
    ∙ (ap (λ xs. xs ++ built) (c.in_ok-add_constructed.ensures.added ∙ ap (λ xs. channels_of xs ++ constructed_if d place o.class) c.new-channels.ensures.items)
    ∙ (made d place o.class (class_is d place p some) given ∙ making_is d place p some))
