use Rattle.std.proofs.Common.{arith}
use Rattle.std.proofs.lemmas.Fn.{filter_same}
use Rattle.std.proofs.lemmas.Grind.{common_steps}
use Rattle.bindings.proofs.list.end_numbered.Goals as goal

pub returns : goal.returns
returns c = filter_same _ _ _ (λ x b f' k. grind (arith, common_steps)) _ _ c.retain.ensures.filtered
