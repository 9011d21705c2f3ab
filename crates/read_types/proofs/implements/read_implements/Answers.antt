use Rattle.std.proofs.Common.{◌∙◌, sym}
use Rattle.std.proofs.lemmas.Result.{err_from_is_err_and}
use Rattle.json_trees.specs.View.{view}
use Rattle.definition_format.specs.Document.{path_of}
use Rattle.definition_format.specs.Denoted.Drafts.{draft_of}
use Rattle.read_parts.proofs.Chains.{fails_as}
use Rattle.read_types.proofs.Implementing.{implements_with}
use Rattle.read_types.proofs.implements.read_implements.Goals as goal

pub returns-in_err-implemented : goal.returns-in_err-implemented
returns-in_err-implemented c =
    let p = err_from_is_err_and c.from_residual-in_err-implemented.result c.from_residual-in_err-implemented.ensures.1 in
    rw (p.1, p.2) (fails_as c.in_err-implemented.field-0.0 _ _
    (implements_with (path_of c.args.part.path) c.args.names.now (draft_of c.args.types.now c.args.specs.now c.args.signals.now.signals) c.args.parent (view c.args.part.value.now) c.in_ok-items.items.now c.in_ok-items.ensures (sym c.is_empty.ensures ∙ c.if-is_empty.false))
    c.in_err-implemented.ensures)

pub returns : goal.returns
returns c =
    implements_with (path_of c.args.part.path) c.args.names.now (draft_of c.args.types.now c.args.specs.now c.args.signals.now.signals) c.args.parent (view c.args.part.value.now) c.in_ok-items.items.now c.in_ok-items.ensures (sym c.is_empty.ensures ∙ c.if-is_empty.false)
    ∙ c.in_ok-implemented.ensures
