use Rattle.std.proofs.Common.{List, sym, ap, ◌∙◌, arith}
use Rattle.ui_machine.specs.Definition.Signals.{Signal}
use Rattle.ui_machine.specs.Definition as machine
use Rattle.ui_machine.specs.Rules.Connections.{signal_number}
use Rattle.signal_core.specs.Sources.{number_named}
use Rattle.definition_format.specs.Meaning.{parts}
use Rattle.definition_format.proofs.Tables.{known_signals, unknown_signals}
use Rattle.definitions.proofs.definition.Definition.signal_number.Goals as goal

pub returns-then-index-len : goal.returns-then-index-len
returns-then-index-len c =
    ap (λ (ss : List Signal). number_named ss c.args.name.now) (sym (unknown_signals (parts c.self.inside.types c.self.inside.specs c.self.inside.signals c.self.inside.constructed.items c.self.inside.shapes.entries c.self.inside.shaped.items c.self.inside.programs.entries c.self.inside.prototypes.entries c.self.inside.objects.entries c.self.inside.bindings.items c.self.inside.limits) c.args.class (omega (arith, c.len.ensures, c.index.ensures))))
    ∙ ap (λ (d : machine.Definition). signal_number d c.args.class c.args.name.now) c.self.view_is

pub returns-in-None : goal.returns-in-None
returns-in-None c =
    c.find.ensures.number ∙ ap (λ (ss : List Signal). number_named ss c.args.name.now) (sym (known_signals (parts c.self.inside.types c.self.inside.specs c.self.inside.signals c.self.inside.constructed.items c.self.inside.shapes.entries c.self.inside.shaped.items c.self.inside.programs.entries c.self.inside.prototypes.entries c.self.inside.objects.entries c.self.inside.bindings.items c.self.inside.limits) c.args.class (omega (arith, c.len.ensures, c.index.ensures))))
    ∙ ap (λ (d : machine.Definition). signal_number d c.args.class c.args.name.now) c.self.view_is

pub returns-in-Some : goal.returns-in-Some
returns-in-Some c =
    c.in-Some.ensures ∙ c.self.invariant.named c.args.class c.args.name.now
    ∙ ap (λ (d : machine.Definition). signal_number d c.args.class c.args.name.now) c.self.view_is
