use Rattle.std.proofs.Common.{None, map}
use Rattle.std.proofs.lemmas.Result.{err_from_is_err_and}
use Rattle.json_trees.specs.View.{view}
use Rattle.ui_machine.specs.Seq.{read}
use Rattle.signal_core.specs.Table.{named_of}
use Rattle.definition_format.specs.Document.{path_of}
use Rattle.definition_format.specs.Meaning.{plain_shape}
use Rattle.definition_format.specs.Denoted.Drafts.{answers_of}
use Rattle.read_types.proofs.Answering.{constructed_fails, shape_fails, all_answered}
use Rattle.read_types.proofs.classes.give_answers.Goals as goal

pub returns-in_err-give_constructed-clause-answers : goal.returns-in_err-give_constructed-clause-answers
returns-in_err-give_constructed-clause-answers c =
    let p = err_from_is_err_and c.from_residual-in_err-give_constructed.result c.from_residual-in_err-give_constructed.ensures.1 in
    let answers = answers_of (map plain_shape c.args.shapes.now.entries) c.args.signals.now.handlers c.args.constructed.now.items c.args.shaped.now.items in
    rw (p.1, p.2) (constructed_fails (path_of c.args.part.path) c.args.programs.now c.args.types.now c.args.class answers (named_of c.give_class_handlers.new.signals.handlers)
    (view c.args.part.value.now) c.in_ok-give_class_handlers.ensures.handlers c.in_err-give_constructed.field-0.0 c.in_err-give_constructed.ensures)

pub returns-in_err-give_shape-clause-answers : goal.returns-in_err-give_shape-clause-answers
returns-in_err-give_shape-clause-answers c =
    let p = err_from_is_err_and c.from_residual-in_err-give_shape.result c.from_residual-in_err-give_shape.ensures.1 in
    let answers = answers_of (map plain_shape c.args.shapes.now.entries) c.args.signals.now.handlers c.args.constructed.now.items c.args.shaped.now.items in
    rw (p.1, p.2) (shape_fails (path_of c.args.part.path) c.args.programs.now c.args.types.now c.args.class answers (named_of c.give_class_handlers.new.signals.handlers)
    (view c.args.part.value.now) c.in_ok-give_class_handlers.ensures.handlers (read None c.give_constructed.new.constructed.items) c.in_ok-give_constructed.ensures
    c.in_err-give_shape.field-0.0 c.in_err-give_shape.ensures)

pub returns-clause-answers : goal.returns-clause-answers
returns-clause-answers c =
    let answers = answers_of (map plain_shape c.args.shapes.now.entries) c.args.signals.now.handlers c.args.constructed.now.items c.args.shaped.now.items in
    all_answered (path_of c.args.part.path) c.args.programs.now c.args.types.now c.args.class answers (named_of c.give_class_handlers.new.signals.handlers)
    (view c.args.part.value.now) c.in_ok-give_class_handlers.ensures.handlers (read None c.give_constructed.new.constructed.items) c.in_ok-give_constructed.ensures
    (read None c.give_shape.new.shaped.items) c.in_ok-give_shape.ensures
