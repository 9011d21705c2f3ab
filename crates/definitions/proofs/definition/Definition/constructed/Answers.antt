use Rattle.std.proofs.Common.{◌∙◌, List, None, Option, ℕ, ap, arith}
use Rattle.ui_machine.specs.Definition as machine
use Rattle.ui_machine.specs.Definition.Lookups.{class_of}
use Rattle.ui_machine.specs.Seq.{read}
use Rattle.definition_format.specs.Meaning.{parts}
use Rattle.definition_format.proofs.Tables.{known_constructed, unknown_constructed}
use Rattle.definitions.proofs.definition.Definition.constructed.Goals as goal

pub returns-then-index-len : goal.returns-then-index-len
returns-then-index-len c =
    unknown_constructed (parts c.self.inside.types c.self.inside.specs c.self.inside.signals c.self.inside.constructed.items c.self.inside.shapes.entries c.self.inside.shaped.items c.self.inside.programs.entries c.self.inside.prototypes.entries c.self.inside.objects.entries c.self.inside.bindings.items c.self.inside.limits) c.args.class (omega (arith, c.len.ensures, c.index.ensures))
    ∙ ap (λ (d : machine.Definition). (class_of d c.args.class).constructed) c.self.view_is

pub returns : goal.returns
returns c =
    c.number_at.ensures ∙ ap (λ (i : ℕ). read None c.as_slice.result.now i) c.index-2.ensures
    ∙ ap (λ (ns : List (Option ℕ)). read None ns c.args.class) c.as_slice.ensures.value
    ∙ known_constructed (parts c.self.inside.types c.self.inside.specs c.self.inside.signals c.self.inside.constructed.items c.self.inside.shapes.entries c.self.inside.shaped.items c.self.inside.programs.entries c.self.inside.prototypes.entries c.self.inside.objects.entries c.self.inside.bindings.items c.self.inside.limits) c.args.class (omega (arith, c.len.ensures, c.index.ensures))
    ∙ ap (λ (d : machine.Definition). (class_of d c.args.class).constructed) c.self.view_is
