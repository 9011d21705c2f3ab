use Rattle.std.proofs.Common.{◌∙◌, ap, sym, refl, [], Ok, List}
use Rattle.std.proofs.lemmas.Result.{err_from_is_err_and}
use Rattle.json_trees.specs.View.{items_view}
use Rattle.ui_machine.specs.Definition.Types.{Member}
use Rattle.definition_format.specs.Document.{each, at_entry}
use Rattle.definition_format.specs.Denoted.Enums.{enum_member_at}
use Rattle.read_parts.proofs.Chains.{fails_as}
use Rattle.read_types.specs.EnumDrafts.{EnumParts, parts_of, parts_seen}
use Rattle.read_types.proofs.Drafting.{read_from, fails_from}
use Rattle.read_types.proofs.EnumParts.{reads_are}
use Rattle.read_types.proofs.enums.read_enum_members.Goals as goal

pub returns-in_err-read_each : goal.returns-in_err-read_each
returns-in_err-read_each c =
    let path = c.args.list.path.now in
    let items = items_view c.args.list.items.now in
    let e = c.in_err-read_each.field-0.0 in
    let p = err_from_is_err_and c.from_residual.result c.from_residual.ensures.1 in
    rw (p.1, p.2) (fails_from parts_of e (each (at_entry enum_member_at path) 0 [] items)
    (fails_as e _ _ (sym (reads_are path (parts_seen c.new-draft.result) items c.new-draft.ensures)) c.in_err-read_each.ensures.read))

pub returns : goal.returns
returns c =
    let path = c.args.list.path.now in
    let items = items_view c.args.list.items.now in
    read_from parts_of (λ (e : EnumParts). e.members) (λ ms. refl) (each (at_entry enum_member_at path) 0 [] items) _
    (sym (reads_are path (parts_seen c.new-draft.result) items c.new-draft.ensures) ∙ c.in_ok-read_each.ensures.read)
    ∙ ap (λ (l : List Member). Ok l) (sym c.into_members.ensures)
