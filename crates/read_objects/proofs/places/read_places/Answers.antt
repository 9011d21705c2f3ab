use Rattle.std.proofs.Common.{◌≡◌, ◌++◌, codes, List, map, option_map, ap, ◌∙◌}
use Rattle.std.proofs.lemmas.Result.{IfOk-weaker}
use Rattle.serde_json.specs.Data.{Data, Items}
use Rattle.json_trees.specs.View.{view, items_view}
use Rattle.read_parts.specs.EntryViews.{views}
use Rattle.definition_format.specs.Denoted.Entries.{at_most, in_order, most_levels, name_under, number_from, places_in_order, section}
use Rattle.read_objects.proofs.places.read_places.Goals as goal

pub returns : goal.returns
returns c id =
    let listed : views c.as_slice.result.now ≡ places_in_order (view c.args.value.now) =
    ap views c.as_slice.ensures.value ∙ c.in_ok-add_objects-2.ensures
    ∙ ap (λ ds. ds ++ in_order 1 (items_view c.section-2.result.now)) (c.in_ok-add_objects.ensures ∙ ap (λ vs. views vs ++ in_order most_levels (items_view c.section.result.now)) c.new-entries.ensures.items)
    ∙ ap (λ (list : Items). in_order most_levels list ++ in_order 1 (items_view c.section-2.result.now)) c.section.ensures
    ∙ ap (λ (list : Items). in_order most_levels (section (codes "objects") (view c.args.value.now)) ++ in_order 1 list) c.section-2.ensures in
    IfOk-weaker c.places_of.result _ _ (λ places h. h ∙ ap (λ (ds : List Data). option_map (at_most 512) (number_from 0 (map (name_under (codes "id")) ds) id)) listed) (c.places_of.ensures id)
