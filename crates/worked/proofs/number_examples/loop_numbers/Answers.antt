use Rattle.std.proofs.Common.{refl}
use Rattle.worked.proofs.Numbers.Reckoned.{loop_meets}
use Rattle.worked.proofs.number_examples.loop_numbers.Goals as goal

pub returns : goal.returns
returns c = loop_meets _ c.in_ok-ranks.ensures.items c.in_ok-bounds.ensures.items refl refl c.in_ok-sources.ensures.items refl
