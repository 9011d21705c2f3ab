-- What is asked is met.
use Rattle.std.proofs.Common.{◌≡◌, refl, subst, ℕ, zero, suc, [], ◌∷◌, Option, None, Some, arith}
use Rattle.std.specs.Prelude.{⊤}
use Rattle.ui_machine.specs.Definition.Places.{Place}
use Rattle.ui_machine.specs.State.Objects.{Object, living}
use Rattle.law_typing.specs.Examples.LastReference.{definition}
use Rattle.law_typing.specs.Laws.Beginnings.{tally}
use Rattle.law_typing.specs.Verdict.Accepted.{Each}
use Rattle.law_steps.proofs.Served.WorkedProofs.{premises_met}
use Rattle.law_steps.specs.Served.WorkedSession.{events}
use Rattle.law_short_texts.specs.ShortValues.{HasShortTexts}
use Rattle.law_short_lines.specs.ShortParts.{FindsShort, HasShortDetails, HasShortPool, IsShortAll, IsShortPeerAt}
use Rattle.law_short_lines.specs.WorkedLines.{PremisesMetShort, StepsMet, at, detailed, item, stranger}

texts : HasShortTexts definition
texts = record {
  defaults = (tt, (tt, (tt, ((tt, (tt, tt)), tt))));
  given = (tt, (tt, tt));
  constants = (((tt, (tt, tt)), ((tt, tt), ((tt, (tt, (tt, (tt, (tt, tt))))), tt))), (((tt, (tt, (tt, tt))), tt), (((tt, (tt, (tt, tt))), tt), (((tt, (tt, tt)), ((tt, tt), ((tt, (tt, tt)), tt))), tt))));
}

details : HasShortDetails definition
details = (((tt, (tt, tt)), ((tt, tt), ((tt, (tt, (tt, (tt, (tt, tt))))), tt))), (((tt, (tt, (tt, tt))), tt), (((tt, (tt, (tt, tt))), tt), (((tt, (tt, tt)), ((tt, tt), ((tt, (tt, tt)), tt))), tt))))

short_events : Each IsShortAll events
short_events = ((tt, tt), ((tt, tt), (tt, ((tt, tt), ((tt, tt), tt)))))

pub premises_met_short : PremisesMetShort
premises_met_short = record { session = premises_met; texts = texts; details = details; events = short_events; length = refl }

-- ** steps

-- the peers that a place names, if it is there
abbrev AreShort : Option Place → Type 0
AreShort None = ⊤
AreShort (Some p) = Each (FindsShort detailed (tally ∷ stranger ∷ [])) p.peers

tally_short : IsShortPeerAt detailed (tally ∷ stranger ∷ []) 0
tally_short = (omega arith, ((omega arith, omega arith), ((omega arith, omega arith), tt)))

pool : HasShortPool detailed (tally ∷ stranger ∷ [])
pool zero p e = subst AreShort e tt
pool (suc zero) p e = subst AreShort e (tally_short, tt)
pool (suc (suc n)) p e = absurd (cc)

objects : (id number : ℕ) (o : Object) → living at.world.objects id ≡ Some o → o.peer ≡ Some number → IsShortPeerAt detailed (tally ∷ stranger ∷ []) number
objects zero number o lives own = absurd (cc lives)
objects (suc zero) number o lives own =
    let same : item ≡ o = cc lives in
    let peers : ◌≡◌ {A = Option ℕ} (Some 0) (Some number) = subst (λ (x : Object). x.peer ≡ Some number) (let s : o ≡ item = cc same in s) own in
    let zero_is : 0 ≡ number = cc peers in
    subst (IsShortPeerAt detailed (tally ∷ stranger ∷ [])) zero_is tally_short
objects (suc (suc n)) number o lives own = absurd (cc lives)

pub steps_met : StepsMet
steps_met = record {
  texts = record { defaults = (tt, (tt, (tt, ((tt, (tt, tt)), tt)))); given = (tt, (tt, tt)); constants = (((tt, (tt, tt)), tt), tt) };
  details = (((omega arith, (tt, tt)), tt), tt);
  pool = pool;
  short = record {
    values = (((tt, tt), tt), ((tt, tt), ((tt, tt), (tt, tt))));
    peers = record { pool = pool; objects = objects };
    tasks = ((tally_short, omega arith), (omega arith, (omega arith, tt)));
  };
}
