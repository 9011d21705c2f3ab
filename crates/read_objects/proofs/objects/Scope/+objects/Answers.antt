use Rattle.std.proofs.Common.{◌-◌, Some, ap, ◌∙◌, arith}
use Rattle.std.proofs.lemmas.Result.{err_from_is_err_and}
use Rattle.json_trees.specs.View.{view, items_view, members_view}
use Rattle.definition_format.specs.Document.{path_of, each, at_entry}
use Rattle.definition_format.specs.Meaning.{place_number}
use Rattle.read_objects.specs.ScopeView.{built_of, scope_of}
use Rattle.definition_format.specs.Denoted.Objects.{object_at}
use Rattle.read_parts.proofs.Each.{goes_on, ends, is_done}
use Rattle.read_objects.proofs.Nested.{children_fail, other_member, all_read}
use Rattle.read_objects.proofs.objects.Scope.+objects.Goals as goal

pub read_entry-returns-in_err-read_list : goal.read_entry-returns-in_err-read_list
read_entry-returns-in_err-read_list t c =
    let p = err_from_is_err_and c.from_residual-in_err-read_list.result c.from_residual-in_err-read_list.ensures.1 in
    rw (p.1, p.2) (children_fail c.args.levels (c.args.levels - 1) (omega (arith, c.if-levels-eq0.false)) (scope_of c.args.self.now) (place_number c.args.parent) (Some c.in_ok-place.place.0) (path_of c.args.part.path) c.as_str.result.now (built_of c.args.built.now) (view c.args.part.value.now)
    (members_view c.in_ok-members.members.now) (built_of c.add_object.new.built) (items_view c.in_ok-items.items.now) (ap Some c.in_ok-place.ensures.place) (c.as_str.ensures.value ∙ c.in_ok-path.ensures)
    c.in_ok-members.ensures c.in_ok-place.ensures.objects c.in_ok-items.ensures
    c.in_err-read_list.field-0.0 c.in_err-read_list.ensures)

pub read_entry-returns-in_err-check_only : goal.read_entry-returns-in_err-check_only
read_entry-returns-in_err-check_only t c =
    let p = err_from_is_err_and c.from_residual-in_err-check_only.result c.from_residual-in_err-check_only.ensures.1 in
    rw (p.1, p.2) (other_member c.args.levels (c.args.levels - 1) (omega (arith, c.if-levels-eq0.false)) (scope_of c.args.self.now) (place_number c.args.parent) (Some c.in_ok-place.place.0) (path_of c.args.part.path) c.as_str.result.now (built_of c.args.built.now) (view c.args.part.value.now)
    (members_view c.in_ok-members.members.now) (built_of c.add_object.new.built) (items_view c.in_ok-items.items.now) (ap Some c.in_ok-place.ensures.place) (c.as_str.ensures.value ∙ c.in_ok-path.ensures)
    c.in_ok-members.ensures c.in_ok-place.ensures.objects c.in_ok-items.ensures
    (built_of c.read_list.new.built) c.in_err-check_only.field-0.0 c.in_ok-read_list.ensures c.in_err-check_only.ensures)

pub read_entry-returns : goal.read_entry-returns
read_entry-returns t c =
    all_read c.args.levels (c.args.levels - 1) (omega (arith, c.if-levels-eq0.false)) (scope_of c.args.self.now) (place_number c.args.parent) (Some c.in_ok-place.place.0) (path_of c.args.part.path) c.as_str.result.now (built_of c.args.built.now) (view c.args.part.value.now)
    (members_view c.in_ok-members.members.now) (built_of c.add_object.new.built) (items_view c.in_ok-items.items.now) (ap Some c.in_ok-place.ensures.place) (c.as_str.ensures.value ∙ c.in_ok-path.ensures)
    c.in_ok-members.ensures c.in_ok-place.ensures.objects c.in_ok-items.ensures
    (built_of c.read_list.new.built) c.in_ok-read_list.ensures c.in_ok-check_only.ensures

pub read_list-returns-in_err-read_entry : goal.read_list-returns-in_err-read_entry
read_list-returns-in_err-read_entry t c =
    let p = err_from_is_err_and c.from_residual.result c.from_residual.ensures.1 in
    rw (p.1, p.2) (ends (at_entry (object_at c.args.levels (scope_of c.args.self.now) (place_number c.args.parent)) c.args.list.path.now) c.args.list.items.now c.items.index (built_of c.items.built)
    (each (at_entry (object_at c.args.levels (scope_of c.args.self.now) (place_number c.args.parent)) c.args.list.path.now) 0 (built_of c.args.built.now) (items_view c.args.list.items.now))
    c.in_err-read_entry.field-0.0 c.value-item.result c.items-test.true c.value-item.is c.in_err-read_entry.ensures c.items.invariant)

pub read_list-items-preserved : goal.read_list-items-preserved
read_list-items-preserved t c =
    goes_on (at_entry (object_at c.args.levels (scope_of c.args.self.now) (place_number c.args.parent)) c.args.list.path.now) c.args.list.items.now c.items.index (built_of c.items.built)
    (each (at_entry (object_at c.args.levels (scope_of c.args.self.now) (place_number c.args.parent)) c.args.list.path.now) 0 (built_of c.args.built.now) (items_view c.args.list.items.now))
    c.value-item.result (built_of c.read_entry.new.built) c.items-test.true c.value-item.is c.in_ok-read_entry.ensures c.items.invariant

pub read_list-returns : goal.read_list-returns
read_list-returns t c =
    is_done (at_entry (object_at c.args.levels (scope_of c.args.self.now) (place_number c.args.parent)) c.args.list.path.now) c.args.list.items.now c.items.index (built_of c.items.built)
    (each (at_entry (object_at c.args.levels (scope_of c.args.self.now) (place_number c.args.parent)) c.args.list.path.now) 0 (built_of c.args.built.now) (items_view c.args.list.items.now))
    c.items-test.false c.items.invariant
