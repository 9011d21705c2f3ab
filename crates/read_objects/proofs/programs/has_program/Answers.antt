use Rattle.std.proofs.Common.{◌∙◌, ap, sym, is_some}
use Rattle.definitions.proofs.Ids.{program_is}
use Rattle.read_objects.proofs.programs.has_program.Goals as goal

pub returns : goal.returns
returns c =
    c.is_some.ensures ∙ ap is_some (c.get_index_of.ensures.index ∙ sym (program_is c.args.name.now c.args.programs.now.entries c.requires))
