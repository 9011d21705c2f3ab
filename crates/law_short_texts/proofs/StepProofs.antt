-- Each step keeps all values short, and so does all that a dispatch comes to.
use Rattle.std.proofs.Common.{◌≡◌, subst, ℕ, zero, suc, Bool, true, false, cond, List, [], ◌∷◌, Option, None, Some}
use Rattle.std.specs.Prelude.{IfOk, IfSome, slice_get}
use Rattle.ui_machine.specs.Definition.{Definition}
use Rattle.ui_machine.specs.Definition.Signals.{Method}
use Rattle.ui_machine.specs.Definition.Values.{Value}
use Rattle.ui_machine.specs.Instructions.Peers.{question_of}
use Rattle.ui_machine.specs.Runs.{AnswerFits, Fits, IsShort, Steps, listed}
use Rattle.ui_machine.specs.State.Config.{Config, World, is_asked, peer_state}
use Rattle.ui_machine.specs.State.Peers.{Question, Reply}
use Rattle.ui_machine.specs.State.References.{mentions, next_unheld}
use Rattle.ui_machine.specs.State.Tasks.{Call, Calling, Task}
use Rattle.ui_machine.specs.Steps.{asked_after, asked_first, first_of, step}
use Rattle.machine_laws.proofs.KeptProofs.{kept_at}
use Rattle.law_typing.specs.Verdict.Accepted.{Each}
use Rattle.law_steps.specs.Served.Dispatches.{Throughout}
use Rattle.law_steps.proofs.Served.DispatchProofs.{both_fit}
use Rattle.law_short_texts.specs.ShortTexts.{QuestionsAreShort, StepsKeepShort}
use Rattle.law_short_texts.specs.ShortValues.{AllShort, HasShortAnswer, HasShortTexts, IsShortTask}
use Rattle.law_short_texts.proofs.TaskProofs.{acts_short, finalises_short}

-- ** one step

step_short : (d : Definition) → HasShortTexts d → (reply : Option Reply) → IfSome reply HasShortAnswer → (c : Config) → AllShort c → IfOk (step d reply c) AllShort
step_short d texts reply one c all = first (next_unheld (mentions d c) c.world.objects)
  where
    first : (o : Option ℕ) → IfOk (first_of d reply c o) AllShort
    first None = acts_short d texts c.world all.0 reply one c.agenda all.1 c.counted
    first (Some id) = finalises_short d texts c.world all.0 c.agenda all.1 c.counted id

pub steps_keep_short : StepsKeepShort
steps_keep_short d texts c all reply one next s = kept_at AllShort (step d reply c) next (step_short d texts reply one c all) s.leads

-- ** questions

asks_call : (w : World) (call : Call) → Each IsShort call.args → (q : Question) → question_of w call ≡ Some q → Each IsShort q.args
asks_call w call short q e = by (is_asked w call.peer) e
  where
    asked : Question
    asked = record { peer = call.peer; state = peer_state w call.peer; method = call.method; args = call.args }

    by : (b : Bool) → cond b (Some asked) None ≡ Some q → Each IsShort q.args
    by true e = let same : asked ≡ q = cc e in subst (λ (x : Question). Each IsShort x.args) same short
    by false e = absurd (cc e)

asks_first : (w : World) (tasks : List Task) → Each IsShortTask tasks → (q : Question) → asked_first w tasks ≡ Some q → Each IsShort q.args
asks_first w (Calling call ∷ rest) all q e = asks_call w call all.0 q e
asks_first w [] all q e = absurd (cc e)
asks_first w (task ∷ rest) all q e = absurd (cc e)

pub questions_are_short : QuestionsAreShort
questions_are_short d c all q e = by (next_unheld (mentions d c) c.world.objects) e
  where
    by : (id : Option ℕ) → asked_after c id ≡ Some q → Each IsShort q.args
    by None e = asks_first c.world c.agenda all.1 q e
    by (Some id) e = absurd (cc e)

-- ** replies

-- an answer that fits is short
answer_short : (d : Definition) (m : Option Method) (o : Option Value) → AnswerFits d m o → IfSome o IsShort
answer_short d m None fit = tt
answer_short d None (Some v) fit = absurd fit
answer_short d (Some m) (Some v) fit = fit.1

reply_short : (d : Definition) (reply : Option Reply) → Each (Fits d) (listed reply) → IfSome reply HasShortAnswer
reply_short d None fit = tt
reply_short d (Some r) fit = answer_short d (slice_get r.question.state.shape r.question.method) r.answer fit.0.answer

-- ** dispatches

module _ (d : Definition) (texts : HasShortTexts d) where
  stays : (count : ℕ) (replies : List Reply) → Each (Fits d) replies → (c e : Config) → AllShort c → Steps d count replies c e → AllShort e
  stays zero replies fit c e all h = subst AllShort h.1 all
  stays (suc count) replies fit c e all h =
      let parts = both_fit d (listed h.reply) h.later (subst (Each (Fits d)) h.replied fit) in
      stays count h.later parts.1 h.mid e (steps_keep_short d texts c all h.reply (reply_short d h.reply parts.0) h.mid h.step) h.follows

  -- wherever a dispatch comes to from short values, all values are short
  pub throughout_short : (c : Config) → AllShort c → Throughout d c AllShort
  throughout_short c all replies fit at r = stays r.count replies fit c at all r.steps
