-- How many bytes a dispatch says at most.
use Rattle.std.proofs.Common.{refl, subst, ℕ, zero, suc, ◌+◌, ◌-◌, ◌*◌, ◌≤◌, length, List, [], ◌∷◌, ◌++◌, Option, None, Some, arith}
use Rattle.std.proofs.lemmas.List.{length-append}
use Rattle.std.proofs.lemmas.Nat.{mul-le}
use Rattle.std.specs.Prelude.{IfSome, slice_get}
use Rattle.ui_machine.specs.Definition.{Definition}
use Rattle.ui_machine.specs.Definition.Signals.{Method}
use Rattle.ui_machine.specs.Definition.Values.{Value}
use Rattle.ui_machine.specs.Output.Lines as said_lines
use Rattle.ui_machine.specs.Output.Text.{text_of_line}
use Rattle.ui_machine.specs.Runs.{AnswerFits, Fits, IsShort, Steps, listed}
use Rattle.ui_machine.specs.State.Config.{Config}
use Rattle.ui_machine.specs.State.Peers.{Reply}
use Rattle.law_typing.proofs.Lists.{each_append}
use Rattle.law_typing.specs.Verdict.Accepted.{Each}
use Rattle.law_steps.specs.Served.Sessions.{beginning_of}
use Rattle.law_steps.proofs.Served.DispatchProofs.{both_fit}
use Rattle.law_short_texts.specs.ShortValues.{HasShortAnswer, HasShortTexts}
use Rattle.law_prices.proofs.BoundProofs.{lines_are_within}
use Rattle.law_line_lengths.specs.DispatchBytes.{DispatchBytesAreWithin, DispatchesSayShortLines}
use Rattle.law_line_lengths.specs.LineLengths.{bytes_of, line_length}
use Rattle.law_line_lengths.specs.StepLines.{Grows, HasShortParts}
use Rattle.law_line_lengths.proofs.GrowthProofs.{grows_more, grows_not, grows_on}
use Rattle.law_line_lengths.proofs.LengthProofs.{growth_is_within}
use Rattle.law_line_lengths.proofs.StepLines.{steps_say_short_lines}

-- ** replies

-- an answer that fits is short
answer_short : (d : Definition) (m : Option Method) (o : Option Value) → AnswerFits d m o → IfSome o IsShort
answer_short d m None fit = tt
answer_short d None (Some v) fit = absurd fit
answer_short d (Some m) (Some v) fit = fit.1

pub reply_short : (d : Definition) (reply : Option Reply) → Each (Fits d) (listed reply) → IfSome reply HasShortAnswer
reply_short d None fit = tt
reply_short d (Some r) fit = answer_short d (slice_get r.question.state.shape r.question.method) r.answer fit.0.answer

-- ** steps

module _ (d : Definition) (texts : HasShortTexts d) where
  -- wherever steps lead from a configuration, the parts are short
  abbrev AllParts : Config → Type 0
  AllParts c = (n : ℕ) (replies : List Reply) → Each (Fits d) replies → (at : Config) → Steps d n replies c at → HasShortParts d at

  pub all_say : (n : ℕ) (replies : List Reply) → Each (Fits d) replies → (c at : Config) → AllParts c → Steps d n replies c at → Grows d c.world.transcript at.world.transcript
  all_say zero replies fit c at parts s = subst (λ (e : Config). Grows d c.world.transcript e.world.transcript) s.1 (grows_not d c.world.transcript)
  all_say (suc n) replies fit c at parts s =
      let both = both_fit d (listed s.reply) s.later (subst (Each (Fits d)) s.replied fit) in
      grows_on d c.world.transcript s.mid.world.transcript at.world.transcript
      (steps_say_short_lines d texts c (parts zero [] tt c (refl, refl)) s.reply (reply_short d s.reply both.0) s.mid s.step)
      (all_say n s.later both.1 s.mid at
      (λ m later fits e more. parts (suc m) (listed s.reply ++ later) (each_append (Fits d) (listed s.reply) later both.0 fits) e
      (record { reply = s.reply; later = later; mid = s.mid; replied = refl; step = s.step; follows = more }))
      s.follows)

-- ** dispatches

pub dispatches_say_short_lines : DispatchesSayShortLines
dispatches_say_short_lines d well a peers ready events read x replies fit n at s texts parts =
    all_say d texts n replies fit (beginning_of x) at (λ m more fits e steps. parts more fits e (record { count = m; steps = steps })) s

at_most : (old new grown most each : ℕ) → new ≤ old + grown * each → grown ≤ most → new ≤ old + most * each
at_most old new grown most each h le = let m = mul-le grown each most each le (omega arith) in omega (arith, h, m)

pub dispatch_bytes_are_within : DispatchBytesAreWithin
dispatch_bytes_are_within d well a peers ready events read x replies fit n at s texts parts =
    let before = (beginning_of x).world.transcript in
    let after = at.world.transcript ++ text_of_line d.types (said_lines.end at.counted) ∷ [] in
    let few = lines_are_within d well a peers ready events read x replies fit n at s in
    let g = grows_more d before at.world.transcript (dispatches_say_short_lines d well a peers ready events read x replies fit n at s texts parts) (said_lines.end at.counted) tt in
    let longer = length-append at.world.transcript (text_of_line d.types (said_lines.end at.counted) ∷ []) in
    let within = few.within in
    record {
      most = few.most;
      is = few.is;
      within = at_most (bytes_of before) (bytes_of after) (length after - length before) few.most (suc (line_length d)) (growth_is_within d g.said before after g.by) (omega (arith, longer, within));
    }
