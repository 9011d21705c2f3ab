use Rattle.std.proofs.Common.{None, ap, ◌∙◌}
use Rattle.ui_machine.specs.Seq.{read}
use Rattle.read_types.proofs.NamedByType.{none_behind}
use Rattle.read_types.proofs.by_type.grow.Goals as goal

pub growing-preserved : goal.growing-preserved
growing-preserved g c =
    λ u. ap (λ xs. read None xs u) c.in_ok-push.ensures.items ∙ none_behind c.growing.named.items u ∙ c.growing.invariant u
