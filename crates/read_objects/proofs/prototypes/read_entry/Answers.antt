use Rattle.std.proofs.Common.{◌≡◌, ◌∙◌, ◌∷◌, ◌++◌, [], None, ap, sym, map}
use Rattle.std.proofs.lemmas.List.{map_push}
use Rattle.json_trees.specs.View.{view}
use Rattle.ui_machine.specs.Seq.{read}
use Rattle.param_specs.specs.Table.{own_of}
use Rattle.definition_format.specs.Meaning.{Prototype, plain_prototype}
use Rattle.definition_format.specs.Document.{path_of}
use Rattle.definition_format.specs.Denoted.Properties.{specs_by}
use Rattle.definition_format.specs.Denoted.Shapes.{is_shaped_by}
use Rattle.definitions.proofs.Ids.{prototype_last}
use Rattle.read_objects.specs.declared.peer_names.PeerNames.{PeerNames}
use Rattle.read_objects.specs.PeerDrafts.{Stock, stock_in}
use Rattle.read_objects.specs.PeerViews.{is_named_in, new_seen, stock_seen}
use Rattle.read_objects.proofs.StockProofs.{stock_more}
use Rattle.read_objects.proofs.prototypes.read_entry.Goals as goal

pub returns : goal.returns
returns c =
    let known = c.args.known.now in
    let path = path_of c.args.part.path in
    let specs = specs_by known.types.now (own_of known.specs.now) in
    let has_shape = is_shaped_by known.types.now (read None known.shaped.now) in
    let old = c.args.draft.now.prototypes.entries in
    let d = view c.args.part.value.now in
    let entry : Prototype = (c.in_ok-new.new.id, c.in_ok-new.new.body) in
    let longer : c.insert.new.self.entries ≡ old ++ entry ∷ [] =
    c.in_ok-insert.ensures.entries ∙ prototype_last c.in_ok-new.new.id c.in_ok-new.new.body old c.in_ok-new.ensures.new in
    let taken = ap (λ (names : PeerNames). stock_in path known.types.now specs has_shape (let stock : Stock = record { places = map plain_prototype old; is_named = is_named_in names } in stock) d) (sym c.replace-named.ensures.value) in
    stock_more path known.types.now specs has_shape (stock_seen c.args.draft.now) d (new_seen c.in_ok-new.new) (map plain_prototype c.insert.new.self.entries) (taken ∙ c.in_ok-new.ensures.prototype) (sym (ap (map plain_prototype) longer ∙ map_push plain_prototype old entry))
