use Rattle.std.proofs.Common.{◌∙◌, ℕ, List, Option, ap, arith}
use Rattle.std.proofs.Math.Path.{fun_ext}
use Rattle.ui_machine.specs.Definition.Signals.{ClassHandler}
use Rattle.ui_machine.specs.Rules.Ancestry.{lineage}
use Rattle.ui_machine.specs.Rules.EmissionPlan.{first_given, handler_in}
use Rattle.signal_core.specs.Table.{named_of}
use Rattle.name_tables.specs.Names.{number_of}
use Rattle.name_tables.proofs.Adding.{all_classes}
use Rattle.definitions.proofs.handler_names.handler_names.Goals as goal

pub returns : goal.returns
returns c class name =
    let handlers = c.args.signals.now.handlers in
    let own = λ (k : ℕ). all_classes (λ u. handler_in (named_of handlers u)) c.classes.class (number_of c.classes.names) c.classes.invariant
    (λ u past n. ap (λ (hs : List ClassHandler). handler_in hs n) (c.requires u (omega (arith, past, c.classes-test.false, c.len-class-end.ensures)))) k name in
    c.in_ok-inherit.ensures class name
    ∙ ap (λ (f : ℕ → Option ℕ). first_given f (lineage c.args.types.now class)) (fun_ext own)
