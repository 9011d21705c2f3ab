use Rattle.std.proofs.Common.{List, ap, arith, length, map, sym, ◌∙◌}
use Rattle.std.proofs.lemmas.List.{length-map}
use Rattle.ui_machine.specs.Definition.Types.{GType}
use Rattle.ui_machine.specs.Rules.Ancestry.{depth}
use Rattle.definition_format.specs.Meaning.{given_property}
use Rattle.ui_engine.proofs.Widths.{few_runs}
use Rattle.ui_engine.proofs.rooms.steps_at.Goals as goal

pub returns : goal.returns
returns c =
    let d = c.args.definition.now in
    let class = c.in-Some.entry.class in
    let programs = c.depth-programs.ensures.depth ∙ ap (λ (types : List GType). depth types class) c.types.ensures.types in
    let given = length-map c.in-Some.entry.given.now given_property in
    rw (sym c.in-Some.ensures) (omega (arith, programs, given, few_runs d class, c.slots.ensures.slots))
