use Rattle.std.proofs.Common.{◌∙◌, [], None, List, ap, sym, map}
use Rattle.std.proofs.lemmas.Result.{err_from_is_err_and}
use Rattle.json_trees.specs.View.{items_view}
use Rattle.ui_machine.specs.Definition.Places as machine
use Rattle.definition_format.specs.Document.{at_entry, each}
use Rattle.definition_format.specs.Meaning.{Entry, plain_object}
use Rattle.definition_format.specs.Denoted.Entries.{most_levels}
use Rattle.definition_format.specs.Denoted.Objects.{Built, object_at}
use Rattle.read_parts.proofs.Chains.{fails_as}
use Rattle.read_objects.specs.ScopeView.{scope_of}
use Rattle.read_objects.proofs.objects.read_within.Goals as goal

pub returns-in_err-read_list : goal.returns-in_err-read_list
returns-in_err-read_list c =
    let e = c.in_err-read_list.field-0.0 in
    let p = err_from_is_err_and c.from_residual.result c.from_residual.ensures.1 in
    let begun = ap (λ (es : List Entry). let built : Built = record { places = map plain_object es; bindings = c.new-2.result } in built) c.new.ensures.empty
    ∙ ap (λ (bs : List machine.Bind). let built : Built = record { places = []; bindings = bs } in built) c.new-2.ensures in
    rw (p.1, p.2) (fails_as e _ _ (ap (λ (built : Built). each (at_entry (object_at most_levels (scope_of c.args.scope.now) None) c.args.list.path.now) 0 built (items_view c.args.list.items.now)) (sym begun)) c.in_err-read_list.ensures)
