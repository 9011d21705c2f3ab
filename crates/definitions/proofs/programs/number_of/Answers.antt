use Rattle.std.proofs.Common.{◌∙◌, sym}
use Rattle.definitions.proofs.Ids.{program_is}
use Rattle.definitions.proofs.programs.number_of.Goals as goal

pub returns-in_err-number : goal.returns-in_err-number
returns-in_err-number c =
    c.from_residual.ensures ∙ c.in_err-number.ensures.index ∙ sym (program_is c.args.name.now c.args.programs.now.entries c.requires.named)

pub returns : goal.returns
returns c = c.in_ok-number.ensures.index ∙ sym (program_is c.args.name.now c.args.programs.now.entries c.requires.named)
