use Rattle.std.proofs.Common.{refl}
use Rattle.worked.proofs.Numbers.Reckoned.{knobs_meet}
use Rattle.worked.proofs.number_examples.knob_numbers.Goals as goal

pub returns : goal.returns
returns c = knobs_meet _ c.in_ok-ranks.ensures.items c.in_ok-bounds.ensures.items refl refl c.new.ensures.items refl
