use Rattle.std.proofs.Common.{ℕ, map, subst}
use Rattle.json_trees.specs.View.{items_view}
use Rattle.definition_format.specs.Meaning.{plain_shape}
use Rattle.definition_format.specs.Refusals.{Leads}
use Rattle.definition_format.specs.Document.{each, at_entry}
use Rattle.definition_format.specs.Denoted.Drafts.{ClassDraft, class_draft_of}
use Rattle.definition_format.specs.Denoted.Classes.{class_at}
use Rattle.read_types.proofs.classes.read_classes.Goals as goal

pub returns : goal.returns
returns c =
    let old : ClassDraft = class_draft_of c.args.draft.now.types c.args.draft.now.specs c.args.draft.now.signals c.args.draft.now.constructed.items (map plain_shape c.args.draft.now.shapes.entries) c.args.draft.now.shaped.items in
    let new : ClassDraft = class_draft_of c.read_each.new.state.types c.read_each.new.state.specs c.read_each.new.state.signals c.read_each.new.state.constructed.items (map plain_shape c.read_each.new.state.shapes.entries) c.read_each.new.state.shaped.items in
    let list = items_view c.args.list.items.now in
    subst (λ (first : ℕ). Leads c.read_each.result (each (at_entry (λ path. class_at path first list c.args.names.now c.args.programs.now) c.args.list.path.now) 0 old list) new)
    c.len.ensures c.read_each.ensures.read
