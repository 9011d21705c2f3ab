use Rattle.std.proofs.Common.{◌≡◌, Ok, sym, subst, None}
use Rattle.ui_machine.specs.Definition.{Definition}
use Rattle.law_typing.specs.Verdict.Judges.{Judges}
use Rattle.builder_defs.specs.Denoted.{denoted}
use Rattle.event_lines.proofs.definition_checks.verdict.Goals as goal

pub returns-in-Ok : goal.returns-in-Ok
returns-in-Ok c bytes denotes =
    let given = c.in-Ok.ensures in
    (subst (λ (d : Definition). denoted bytes ≡ Ok d) (sym given.0) denotes, subst (λ (d : Definition). Judges d None) (sym given.0) given.1)
