use Rattle.std.proofs.Common.{◌∙◌, [], None, ap, sym, refl, map}
use Rattle.std.proofs.lemmas.Result.{err_from_is_err_and}
use Rattle.json_trees.specs.View.{items_view}
use Rattle.ui_machine.specs.Seq.{read}
use Rattle.param_specs.specs.Table.{own_of}
use Rattle.definition_format.specs.Meaning.{plain_prototype}
use Rattle.definition_format.specs.Document.{at_entry, each}
use Rattle.definition_format.specs.Denoted.Properties.{specs_by}
use Rattle.definition_format.specs.Denoted.Prototypes.{prototype_at}
use Rattle.definition_format.specs.Denoted.Shapes.{is_shaped_by}
use Rattle.read_parts.proofs.Chains.{fails_as}
use Rattle.read_types.proofs.Drafting.{fails_from, read_from, was_read}
use Rattle.read_objects.specs.PeerDrafts.{Stock, stocked}
use Rattle.read_objects.specs.PeerViews.{is_named_in, stock_seen}
use Rattle.read_objects.proofs.StockProofs.{stock_begun, stock_is, stock_named}
use Rattle.read_objects.proofs.prototypes.read_prototypes.Goals as goal

pub returns-in_err-read_each-clause-prototypes : goal.returns-in_err-read_each-clause-prototypes
returns-in_err-read_each-clause-prototypes c =
    let known = c.args.known in
    let path = c.args.list.path.now in
    let items = items_view c.args.list.items.now in
    let specs = specs_by known.types.now (own_of known.specs.now) in
    let has_shape = is_shaped_by known.types.now (read None known.shaped.now) in
    let e = c.in_err-read_each.field-0.0 in
    let p = err_from_is_err_and c.from_residual.result c.from_residual.ensures.1 in
    let begun = stock_begun (map plain_prototype c.new.result.entries) (is_named_in c.new-2.result) (ap (map plain_prototype) c.new.ensures.empty) (λ name. c.new-2.ensures name) in
    rw (p.1, p.2) (fails_from stocked e (each (at_entry (λ at. prototype_at at known.types.now specs has_shape) path) 0 [] items)
    (fails_as e _ _ (sym (stock_is path known.types.now specs has_shape (let stock : Stock = record { places = map plain_prototype c.new.result.entries; is_named = is_named_in c.new-2.result } in stock) items begun)) c.in_err-read_each.ensures.read))

pub returns-clause-prototypes : goal.returns-clause-prototypes
returns-clause-prototypes c =
    let known = c.args.known in
    let path = c.args.list.path.now in
    let items = items_view c.args.list.items.now in
    let specs = specs_by known.types.now (own_of known.specs.now) in
    let has_shape = is_shaped_by known.types.now (read None known.shaped.now) in
    let begun = stock_begun (map plain_prototype c.new.result.entries) (is_named_in c.new-2.result) (ap (map plain_prototype) c.new.ensures.empty) (λ name. c.new-2.ensures name) in
    read_from stocked (λ (s : Stock). s.places) (λ places. refl) (each (at_entry (λ at. prototype_at at known.types.now specs has_shape) path) 0 [] items) _
    (sym (stock_is path known.types.now specs has_shape (let stock : Stock = record { places = map plain_prototype c.new.result.entries; is_named = is_named_in c.new-2.result } in stock) items begun) ∙ c.in_ok-read_each.ensures.read)

pub returns-clause-named : goal.returns-clause-named
returns-clause-named c =
    let known = c.args.known in
    let path = c.args.list.path.now in
    let items = items_view c.args.list.items.now in
    let specs = specs_by known.types.now (own_of known.specs.now) in
    let has_shape = is_shaped_by known.types.now (read None known.shaped.now) in
    let begun = stock_begun (map plain_prototype c.new.result.entries) (is_named_in c.new-2.result) (ap (map plain_prototype) c.new.ensures.empty) (λ name. c.new-2.ensures name) in
    let was = was_read stocked (each (at_entry (λ at. prototype_at at known.types.now specs has_shape) path) 0 [] items) (stock_seen c.read_each.new.state)
    (sym (stock_is path known.types.now specs has_shape (let stock : Stock = record { places = map plain_prototype c.new.result.entries; is_named = is_named_in c.new-2.result } in stock) items begun) ∙ c.in_ok-read_each.ensures.read) in
    stock_named was.0 (stock_seen c.read_each.new.state) was.2
