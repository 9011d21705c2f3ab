-- A fault is always a reply that fits; so where no step is stuck there is a next one.
use Rattle.std.proofs.Common.{◌≡◌, refl, sym, ap, ◌∙◌, Option, None, Some, Ok, Err}
use Rattle.std.specs.Prelude.{IfSome}
use Rattle.ui_machine.specs.Definition.{Definition}
use Rattle.ui_machine.specs.State.Peers.{Question, Reply}
use Rattle.ui_machine.specs.State.Config.{Config}
use Rattle.ui_machine.specs.Outcome.{Answer}
use Rattle.ui_machine.specs.Steps.{step, question}
use Rattle.ui_machine.specs.Runs.{Fits, one_more, question_in}
use Rattle.law_steps.specs.Served.Replies.{QuestionsAreAnswered, GoesOn}
use Rattle.law_steps.specs.Served.Dispatches.{IsUnstuck}

pub questions_are_answered : QuestionsAreAnswered
questions_are_answered d q = (fault, refl, record { shape = refl; openness = refl; calls = refl; faults = refl; answer = tt })
  where
    fault : Reply
    fault = record {
      question = q;
      answer = None;
      state = record q.state { calls = one_more q.state.calls; faults = one_more q.state.faults };
    }

pub unstuck_goes_on : (d : Definition) (c : Config) → IsUnstuck d c → GoesOn d c
unstuck_goes_on d c unstuck = ask (question d c) refl
  where
    take : (reply : Option Reply) → IfSome reply (Fits d) → question d c ≡ question_in reply → (a : Answer Config) → step d reply c ≡ a →
        GoesOn d c
    take reply fits asks (Ok next) e = record { reply = reply; fits = fits; next = next; step = record { asks = asks; leads = e } }
    take reply fits asks (Err arm) e = absurd (unstuck arm (record { reply = reply; asks = asks; stuck = e }) fits)

    ask : (q : Option Question) → question d c ≡ q → GoesOn d c
    ask None e = take None tt e (step d None c) refl
    ask (Some q) e =
        let answered = questions_are_answered d q in
        let asks = e ∙ ap Some (sym answered.1) in
        take (Some answered.0) answered.2 asks (step d (Some answered.0) c) refl
