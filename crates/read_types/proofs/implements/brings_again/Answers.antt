use Rattle.std.proofs.Common.{◌∙◌}
use Rattle.read_types.specs.ImplementDrafts.{has_name}
use Rattle.read_types.proofs.ImplementParts.{brings_are}
use Rattle.read_types.proofs.implements.brings_again.Goals as goal

pub returns : goal.returns
returns c = c.any_again.ensures ∙ brings_are c.args.heir.now c.args.interface (λ name. has_name c.args.implemented.now.names name) c.own.result.now c.own.ensures.own
