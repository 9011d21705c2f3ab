use Rattle.std.proofs.Common.{◌≡◌, map, sym, ap, ◌∙◌}
use Rattle.std.proofs.lemmas.Result.{IfOk-weaker}
use Rattle.json_trees.specs.View.{view, items_view}
use Rattle.read_parts.specs.EntryViews.{views}
use Rattle.definition_format.specs.Denoted.Entries.{name_under, names_under, number_from}
use Rattle.read_parts.proofs.Numbered.{names_are, views_are}
use Rattle.read_parts.proofs.entries.numbers_in.Goals as goal

pub returns : goal.returns
returns c name =
    let listed : views c.as_slice.result.now ≡ map view c.args.items.now =
    ap views c.as_slice.ensures.value ∙ views_are c.in_ok-entries.entries.items c.args.items.now c.in_ok-entries.ensures in
    let names : map (name_under c.args.key.now) (views c.as_slice.result.now) ≡ names_under c.args.key.now (items_view c.args.items.now) =
    ap (map (name_under c.args.key.now)) listed ∙ sym (names_are c.args.key.now c.args.items.now) in
    IfOk-weaker c.numbers_of.result _ _ (λ numbers h. h ∙ ap (λ ns. number_from 0 ns name) names) (c.numbers_of.ensures name)
