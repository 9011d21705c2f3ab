use Rattle.std.proofs.Common.{List, Ok, length, map, sym, ap, ◌∙◌}
use Rattle.ui_machine.specs.Definition.Signals.{Signal}
use Rattle.std.proofs.lemmas.Result.{err_from_is_err_and}
use Rattle.json_trees.specs.View.{view, items_view, members_view}
use Rattle.definition_format.specs.Document.{path_of}
use Rattle.definition_format.specs.Meaning.{plain_shape}
use Rattle.definition_format.specs.Denoted.Drafts.{answers_of, draft_of, with_answers}
use Rattle.definition_format.specs.Denoted.Classes.{keys_of_class, declared_at, answering_at}
use Rattle.read_types.proofs.Answering.{answering_fails, answering_with}
use Rattle.read_parts.proofs.Chains.{members_fail, unset_fails, only_fails, type_done}
use Rattle.definition_format.proofs.Soundness.{within_declared}
use Rattle.read_types.proofs.classes.read_class.Goals as goal

pub give_members-requires : goal.give_members-requires
give_members-requires c =
    within_declared (path_of c.args.part.path) c.args.first (items_view c.args.list.now) c.args.names.now (draft_of c.args.types.now c.args.specs.now c.args.signals.now.signals) (view c.args.part.value.now)
    c.declare.new.types c.in_ok-class.class c.in_ok-class.ensures.types c.in_ok-class.ensures.class

pub returns-in_err-give_members : goal.returns-in_err-give_members
returns-in_err-give_members c =
    let p = err_from_is_err_and c.from_residual-in_err-give_members.result c.from_residual-in_err-give_members.ensures.1 in
    rw (p.1, p.2) (members_fail (path_of c.args.part.path) keys_of_class
    (declared_at (path_of c.args.part.path) c.args.first (items_view c.args.list.now) c.args.names.now (draft_of c.args.types.now c.args.specs.now c.args.signals.now.signals) (view c.args.part.value.now))
    (answering_at (path_of c.args.part.path) c.args.programs.now (length c.args.types.now) (answers_of (map plain_shape c.args.shapes.now.entries) c.args.signals.now.handlers c.args.constructed.now.items c.args.shaped.now.items) (view c.args.part.value.now)) c.args.names.now c.args.types.now c.args.specs.now c.args.signals.now.signals (view c.args.part.value.now)
    (members_view c.in_ok-members.members.now) c.declare.new.types c.in_ok-class.class c.in_ok-members.ensures c.in_ok-class.ensures.types c.in_ok-class.ensures.class
    c.in_err-give_members.field-0.0 c.in_err-give_members.ensures.given)

pub returns-in_err-give_answers : goal.returns-in_err-give_answers
returns-in_err-give_answers c =
    let p = err_from_is_err_and c.from_residual-in_err-give_answers.result c.from_residual-in_err-give_answers.ensures.1 in
    rw (p.1, p.2) (unset_fails (path_of c.args.part.path) keys_of_class
    (declared_at (path_of c.args.part.path) c.args.first (items_view c.args.list.now) c.args.names.now (draft_of c.args.types.now c.args.specs.now c.args.signals.now.signals) (view c.args.part.value.now))
    (answering_at (path_of c.args.part.path) c.args.programs.now (length c.args.types.now) (answers_of (map plain_shape c.args.shapes.now.entries) c.args.signals.now.handlers c.args.constructed.now.items c.args.shaped.now.items) (view c.args.part.value.now)) c.args.names.now c.args.types.now c.args.specs.now c.args.signals.now.signals (view c.args.part.value.now)
    (members_view c.in_ok-members.members.now) c.declare.new.types c.in_ok-class.class c.in_ok-members.ensures c.in_ok-class.ensures.types c.in_ok-class.ensures.class
    (draft_of c.declare.new.types c.give_members.new.specs c.give_members.new.signals.signals) c.in_ok-give_members.ensures.given c.in_err-give_answers.field-0.0
    (answering_fails (path_of c.args.part.path) c.args.programs.now (length c.args.types.now) c.in_ok-class.class c.in_ok-class.ensures.class (map plain_shape c.args.shapes.now.entries) c.args.signals.now.handlers c.give_members.new.signals.handlers c.in_ok-give_members.ensures.handlers c.args.constructed.now.items c.args.shaped.now.items
    (view c.args.part.value.now) (draft_of c.declare.new.types c.give_members.new.specs c.give_members.new.signals.signals) c.in_err-give_answers.field-0.0 c.in_err-give_answers.ensures.answers))

pub returns-in_err-check_only : goal.returns-in_err-check_only
returns-in_err-check_only c =
    let p = err_from_is_err_and c.from_residual-in_err-check_only.result c.from_residual-in_err-check_only.ensures.1 in
    rw (p.1, p.2) (only_fails (path_of c.args.part.path) keys_of_class
    (declared_at (path_of c.args.part.path) c.args.first (items_view c.args.list.now) c.args.names.now (draft_of c.args.types.now c.args.specs.now c.args.signals.now.signals) (view c.args.part.value.now))
    (answering_at (path_of c.args.part.path) c.args.programs.now (length c.args.types.now) (answers_of (map plain_shape c.args.shapes.now.entries) c.args.signals.now.handlers c.args.constructed.now.items c.args.shaped.now.items) (view c.args.part.value.now)) c.args.names.now c.args.types.now c.args.specs.now c.args.signals.now.signals (view c.args.part.value.now)
    (members_view c.in_ok-members.members.now) c.declare.new.types c.in_ok-class.class c.in_ok-members.ensures c.in_ok-class.ensures.types c.in_ok-class.ensures.class
    (draft_of c.declare.new.types c.give_members.new.specs c.give_members.new.signals.signals) c.in_ok-give_members.ensures.given
    (with_answers (draft_of c.declare.new.types c.give_members.new.specs c.give_members.new.signals.signals) (answers_of (map plain_shape c.args.shapes.now.entries) c.give_answers.new.signals.handlers c.give_answers.new.constructed.items c.give_answers.new.shaped.items))
    (answering_with (path_of c.args.part.path) c.args.programs.now (length c.args.types.now) c.in_ok-class.class c.in_ok-class.ensures.class (map plain_shape c.args.shapes.now.entries) c.args.signals.now.handlers c.give_members.new.signals.handlers c.in_ok-give_members.ensures.handlers c.args.constructed.now.items c.args.shaped.now.items
    (view c.args.part.value.now) (draft_of c.declare.new.types c.give_members.new.specs c.give_members.new.signals.signals) (answers_of (map plain_shape c.args.shapes.now.entries) c.give_answers.new.signals.handlers c.give_answers.new.constructed.items c.give_answers.new.shaped.items) c.in_ok-give_answers.ensures.answers) c.in_err-check_only.field-0.0 c.in_err-check_only.ensures)

pub returns : goal.returns
returns c =
    type_done (path_of c.args.part.path) keys_of_class
    (declared_at (path_of c.args.part.path) c.args.first (items_view c.args.list.now) c.args.names.now (draft_of c.args.types.now c.args.specs.now c.args.signals.now.signals) (view c.args.part.value.now))
    (answering_at (path_of c.args.part.path) c.args.programs.now (length c.args.types.now) (answers_of (map plain_shape c.args.shapes.now.entries) c.args.signals.now.handlers c.args.constructed.now.items c.args.shaped.now.items) (view c.args.part.value.now)) c.args.names.now c.args.types.now c.args.specs.now c.args.signals.now.signals (view c.args.part.value.now)
    (members_view c.in_ok-members.members.now) c.declare.new.types c.in_ok-class.class c.in_ok-members.ensures c.in_ok-class.ensures.types c.in_ok-class.ensures.class
    (draft_of c.declare.new.types c.give_members.new.specs c.give_members.new.signals.signals) c.in_ok-give_members.ensures.given
    (with_answers (draft_of c.declare.new.types c.give_members.new.specs c.give_members.new.signals.signals) (answers_of (map plain_shape c.args.shapes.now.entries) c.give_answers.new.signals.handlers c.give_answers.new.constructed.items c.give_answers.new.shaped.items))
    (answering_with (path_of c.args.part.path) c.args.programs.now (length c.args.types.now) c.in_ok-class.class c.in_ok-class.ensures.class (map plain_shape c.args.shapes.now.entries) c.args.signals.now.handlers c.give_members.new.signals.handlers c.in_ok-give_members.ensures.handlers c.args.constructed.now.items c.args.shaped.now.items
    (view c.args.part.value.now) (draft_of c.declare.new.types c.give_members.new.specs c.give_members.new.signals.signals) (answers_of (map plain_shape c.args.shapes.now.entries) c.give_answers.new.signals.handlers c.give_answers.new.constructed.items c.give_answers.new.shaped.items) c.in_ok-give_answers.ensures.answers) c.in_ok-check_only.ensures
    ∙ ap (λ (signals : List (List Signal)). Ok (with_answers (draft_of c.declare.new.types c.give_members.new.specs signals) (answers_of (map plain_shape c.args.shapes.now.entries) c.give_answers.new.signals.handlers c.give_answers.new.constructed.items c.give_answers.new.shaped.items))) (sym c.in_ok-give_answers.ensures.signals)
