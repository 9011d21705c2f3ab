use Rattle.std.proofs.Common.{◌∙◌, ap, is_some}
use Rattle.ui_machine.specs.Definition.Names.{same_name}
use Rattle.native_peers.proofs.Needing.{placed_any}
use Rattle.native_peers.specs.declared.needs.Need.{Need}
use Rattle.native_peers.proofs.mismatches.need_of.Goals as goal

pub returns-clause-known : goal.returns-clause-known
returns-clause-known c = ap (λ o. is_some o) c.first_of.ensures ∙ placed_any (λ (n : Need). same_name n.name.now c.args.name.now) c.args.needs.now
