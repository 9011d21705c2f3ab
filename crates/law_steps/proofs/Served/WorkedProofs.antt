-- The premises of the promise are met.
use Rattle.std.proofs.Common.{refl, subst, zero, suc, [], ◌∷◌, Option, None, Some, arith}
use Rattle.std.specs.Prelude.{⊤}
use Rattle.ui_machine.specs.Definition.Places.{Place}
use Rattle.law_typing.specs.Verdict.Accepted.{Each}
use Rattle.law_typing.specs.Examples.LastReference.{definition, lines}
use Rattle.law_typing.specs.Laws.StepsKeepGood.{PeerReady, PoolReady}
use Rattle.law_typing.specs.Laws.Beginnings.{tally}
use Rattle.law_typing.proofs.JudgedProofs.{judged_is_accepted}
use Rattle.law_typing.proofs.JudgedRows.{lastreference_holds}
use Rattle.law_typing.proofs.WorkedReadProofs.{worked_read}
use Rattle.law_steps.specs.Served.Sessions.{EventRead}
use Rattle.law_steps.specs.Served.WorkedSession.{events, PremisesMet}

-- the peers of a place, if there is one, are ready
abbrev AreReady : Option Place → Type 0
AreReady None = ⊤
AreReady (Some p) = Each (PeerReady definition (tally ∷ []) p) p.peers

ready : PoolReady definition (tally ∷ [])
ready zero p e = subst AreReady e tt
ready (suc zero) p e = subst AreReady e (
  record {
    number = 0;
    peer = tally;
    shape = 0;
    methods = _;
    is = refl;
    has = refl;
    of_class = refl;
    shaped = (refl, refl);
    is_open = refl;
    free = refl;
  },
  tt,
)
ready (suc (suc n)) p e = absurd (cc)

read : Each (EventRead definition) events
read = (
  ((_, refl, refl), 3, _, refl, refl, omega arith, tt, refl),
  (
    ((_, refl, refl), 3, _, refl, refl, omega arith, tt, refl),
    (tt, (((_, refl, refl), _, refl, refl), ((_, refl, refl), tt))),
  ),
)

pub premises_met : PremisesMet
premises_met = record {
  well = worked_read.last_reference;
  accepted = (judged_is_accepted definition lines refl lastreference_holds).0;
  ready = ready;
  read = read;
}
