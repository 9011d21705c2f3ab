-- The bytes of a pair meet what the promise of bytes asks.
use Rattle.std.proofs.Common.{refl}
use Rattle.std.specs.Prelude.{◌≡◌}
use Rattle.definition_format.specs.Denoted.{denoted, definition_in}
use Rattle.law_typing.specs.Examples.Pair as pair
use Rattle.law_typing.specs.Verdict.{verdict, accepted}
use Rattle.law_typing.proofs.JudgedProofs.{judged_is_accepted}
use Rattle.worked.specs.Laws.WorkedPair.{definition, PairMet}
use Rattle.worked.proofs.Laws.Judging.{typing}
use Rattle.worked.proofs.Laws.OnLiterals.{text_on_literals, types_on_literals, programs_on_literals, objects_on_literals, lines_on_literals}
use Rattle.worked.proofs.Laws.Begun.{pool_ready}

pair_is_judged : verdict definition ≡ accepted pair.lines
unfolding typing
pair_is_judged = refl

pub pair_met : PairMet
unfolding denoted definition_in text_on_literals types_on_literals programs_on_literals objects_on_literals lines_on_literals
pair_met = record {
  read = refl;
  judged = pair_is_judged;
  accepted = (judged_is_accepted definition pair.lines refl pair_is_judged).0;
  ready = pool_ready definition refl;
  events = refl;
}
