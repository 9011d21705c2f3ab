-- The bytes of a definition with a peer meet what the promise of bytes asks, and those with peers that are wrong denote nothing.
use Rattle.std.proofs.Common.{◌≡◌, zero, suc, Option, None, Some, refl, subst}
use Rattle.std.specs.Prelude.{⊤}
use Rattle.std.specs.Fmt.{digits}
use Rattle.ui_machine.specs.Definition.Places.{Place}
use Rattle.definition_format.specs.Denoted.{denoted, definition_in}
use Rattle.law_typing.specs.Examples.LastReference.{definition}
use Rattle.law_typing.specs.Examples.LastReference as last_reference
use Rattle.law_typing.specs.Laws.StepsKeepGood.{PeerReady, PoolReady}
use Rattle.law_typing.specs.Verdict.{verdict, accepted}
use Rattle.law_typing.specs.Verdict.Accepted.{Each}
use Rattle.law_typing.proofs.JudgedProofs.{judged_is_accepted}
use Rattle.machine_rows.specs.Runs.LastReference as run
use Rattle.worked.specs.Laws.WorkedPeers.{PeersMet}
use Rattle.worked.proofs.Laws.Judging.{typing}
use Rattle.worked.proofs.Laws.OnLiterals.{text_on_literals, types_on_literals, peers_on_literals, calls_on_literals, programs_on_literals, objects_on_literals, lines_on_literals}

peer_is_judged : verdict definition ≡ accepted last_reference.lines
unfolding typing
peer_is_judged = refl

-- the peers of a place, if there is one, are ready
abbrev AreReady : Option Place → Type 0
AreReady None = ⊤
AreReady (Some p) = Each (PeerReady definition run.peers p) p.peers

ready : PoolReady definition run.peers
ready zero p e = subst AreReady e tt
ready (suc zero) p e =
    subst AreReady e (record { number = 0; peer = _; shape = 0; methods = _; is = refl; has = refl; of_class = refl; shaped = (refl, refl); is_open = refl; free = refl }, tt)
ready (suc (suc n)) p e = absurd (cc)

pub peers_met : PeersMet
unfolding denoted definition_in digits text_on_literals types_on_literals peers_on_literals calls_on_literals programs_on_literals objects_on_literals lines_on_literals
peers_met = record {
  read = refl;
  judged = peer_is_judged;
  accepted = (judged_is_accepted definition last_reference.lines refl peer_is_judged).0;
  ready = ready;
  events = refl;
  without = refl;
  twice = refl;
  taken = refl;
  again = refl;
}
