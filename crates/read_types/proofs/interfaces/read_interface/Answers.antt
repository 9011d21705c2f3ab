use Rattle.std.proofs.Common.{Ok, refl}
use Rattle.std.proofs.lemmas.Result.{err_from_is_err_and}
use Rattle.json_trees.specs.View.{view, items_view, members_view}
use Rattle.definition_format.specs.Document.{path_of}
use Rattle.definition_format.specs.Denoted.Drafts.{draft_of}
use Rattle.definition_format.specs.Denoted.Interfaces.{keys_of_interface, interface_type_at}
use Rattle.read_parts.proofs.Chains.{members_fail, only_fails, type_done}
use Rattle.definition_format.proofs.Soundness.{within_interface}
use Rattle.read_types.proofs.interfaces.read_interface.Goals as goal

pub give_members-requires : goal.give_members-requires
give_members-requires c =
    within_interface (path_of c.args.part.path) c.args.first (items_view c.args.sections.interfaces.now) (items_view c.args.sections.classes.now) c.args.types.now (view c.args.part.value.now)
    c.declare.new.types c.in_ok-interface.interface c.in_ok-interface.ensures.types c.in_ok-interface.ensures.interface

pub returns-in_err-give_members-clause-draft : goal.returns-in_err-give_members-clause-draft
returns-in_err-give_members-clause-draft c =
    let p = err_from_is_err_and c.from_residual-in_err-give_members.result c.from_residual-in_err-give_members.ensures.1 in
    rw (p.1, p.2) (members_fail (path_of c.args.part.path) keys_of_interface
    (interface_type_at (path_of c.args.part.path) c.args.first (items_view c.args.sections.interfaces.now) (items_view c.args.sections.classes.now) c.args.types.now (view c.args.part.value.now))
    Ok c.args.names.now c.args.types.now c.args.specs.now c.args.signals.now.signals (view c.args.part.value.now)
    (members_view c.in_ok-members.members.now) c.declare.new.types c.in_ok-interface.interface c.in_ok-members.ensures c.in_ok-interface.ensures.types c.in_ok-interface.ensures.interface
    c.in_err-give_members.field-0.0 c.in_err-give_members.ensures.given)

pub returns-in_err-check_only-clause-draft : goal.returns-in_err-check_only-clause-draft
returns-in_err-check_only-clause-draft c =
    let p = err_from_is_err_and c.from_residual-in_err-check_only.result c.from_residual-in_err-check_only.ensures.1 in
    rw (p.1, p.2) (only_fails (path_of c.args.part.path) keys_of_interface
    (interface_type_at (path_of c.args.part.path) c.args.first (items_view c.args.sections.interfaces.now) (items_view c.args.sections.classes.now) c.args.types.now (view c.args.part.value.now))
    Ok c.args.names.now c.args.types.now c.args.specs.now c.args.signals.now.signals (view c.args.part.value.now)
    (members_view c.in_ok-members.members.now) c.declare.new.types c.in_ok-interface.interface c.in_ok-members.ensures c.in_ok-interface.ensures.types c.in_ok-interface.ensures.interface
    (draft_of c.declare.new.types c.give_members.new.specs c.give_members.new.signals.signals) c.in_ok-give_members.ensures.given _ refl c.in_err-check_only.field-0.0 c.in_err-check_only.ensures)

pub returns-clause-draft : goal.returns-clause-draft
returns-clause-draft c = type_done (path_of c.args.part.path) keys_of_interface
    (interface_type_at (path_of c.args.part.path) c.args.first (items_view c.args.sections.interfaces.now) (items_view c.args.sections.classes.now) c.args.types.now (view c.args.part.value.now))
    Ok c.args.names.now c.args.types.now c.args.specs.now c.args.signals.now.signals (view c.args.part.value.now)
    (members_view c.in_ok-members.members.now) c.declare.new.types c.in_ok-interface.interface c.in_ok-members.ensures c.in_ok-interface.ensures.types c.in_ok-interface.ensures.interface
    (draft_of c.declare.new.types c.give_members.new.specs c.give_members.new.signals.signals) c.in_ok-give_members.ensures.given _ refl c.in_ok-check_only.ensures
