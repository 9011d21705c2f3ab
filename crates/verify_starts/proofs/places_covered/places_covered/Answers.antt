use Rattle.std.proofs.Common.{◌≡◌, ◌∙◌, sym, ap, ◌++◌, ◌∷◌, [], length, arith}
use Rattle.std.specs.List.{filter}
use Rattle.std.proofs.lemmas.List.Elements.{filter-append}
use Rattle.ui_machine.specs.Seq.{listed}
use Rattle.ui_machine.specs.Definition.{Definition}
use Rattle.bytecode.specs.View.{register_kind_view}
use Rattle.law_typing.specs.Rules.RegisterKinds.{covers}
use Rattle.verify_graph.proofs.Prefixes.{listed_last}
use Rattle.verify_starts.proofs.places_covered.places_covered.Goals as goal

pub loop-place-preserved : goal.loop-place-preserved
loop-place-preserved c =
    let test = covers c.args.lookups.now (register_kind_view c.args.kind.now) in
    let n = c.loop-place.place in
    c.in_ok-add_covered.ensures
    ∙ (ap (λ xs. xs ++ filter test (n ∷ [])) c.loop-place.invariant
    ∙ (sym (filter-append test (listed (λ place. place) n) (n ∷ [])) ∙ ap (filter test) (sym (listed_last (λ place. place) n))))

pub returns : goal.returns
returns c =
    let d = c.args.lookups.now in
    let count = ap (λ (e : Definition). length e.places) c.definition.ensures in
    let whole : c.loop-place.place ≡ length d.places = omega (arith, count) in
    c.loop-place.invariant ∙ ap (λ k. filter (covers d (register_kind_view c.args.kind.now)) (listed (λ place. place) k)) whole
