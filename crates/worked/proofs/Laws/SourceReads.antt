-- The premises of the promise of bytes are met.
use Rattle.std.proofs.Common.{refl}
use Rattle.std.specs.Prelude.{◌≡◌}
use Rattle.definition_format.specs.Denoted.{denoted, definition_in}
use Rattle.law_typing.specs.Verdict.{verdict, accepted}
use Rattle.law_typing.proofs.JudgedProofs.{judged_is_accepted}
use Rattle.worked.specs.Laws.WorkedSources.{definition, told, PremisesMet}
use Rattle.worked.proofs.Laws.Judging.{typing}
use Rattle.worked.proofs.Laws.OnLiterals.{text_on_literals, types_on_literals, programs_on_literals, objects_on_literals, lines_on_literals}
use Rattle.worked.proofs.Laws.Begun.{pool_ready}

pub is_judged : verdict definition ≡ accepted told
unfolding typing
is_judged = refl

pub premises_met : PremisesMet
unfolding denoted definition_in text_on_literals types_on_literals programs_on_literals objects_on_literals lines_on_literals
premises_met = record {
  read = refl;
  judged = is_judged;
  accepted = (judged_is_accepted definition told refl is_judged).0;
  ready = pool_ready definition refl;
  events = refl;
}
