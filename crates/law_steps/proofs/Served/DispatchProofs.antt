-- A dispatch that begins well stays so, as long as its replies fit.
use Rattle.std.proofs.Common.{subst, ℕ, zero, suc, ◌≤◌, List, [], ◌∷◌, ◌++◌, Option, None, Some}
use Rattle.std.specs.Prelude.{IfSome}
use Rattle.ui_machine.specs.Definition.{Definition}
use Rattle.ui_machine.specs.State.Peers.{Reply}
use Rattle.ui_machine.specs.State.Config.{World, Config}
use Rattle.ui_machine.specs.Steps.{step, most_steps}
use Rattle.ui_machine.specs.Runs.{Fits, Step, Steps, Reaches, Dispatches, listed}
use Rattle.law_typing.specs.Graph.{graph}
use Rattle.law_typing.specs.Graph.Depths.{depth}
use Rattle.law_typing.specs.Verdict.Accepted.{Each, Accepted}
use Rattle.law_typing.specs.Laws.WellRead.{WellRead}
use Rattle.law_typing.specs.Laws.StepsKeepGood.{IsGood, IsResting, Fine, Replies, StepsKeepGood}
use Rattle.law_typing.proofs.RestProofs.{good_is_within, ends_rest}
use Rattle.law_steps.specs.Served.Dispatches.{IsUnstuck}

-- where some replies fit, so does the first one, if there is one, and so do the later ones
first_fits : (d : Definition) (reply : Option Reply) (later : List Reply) → Each (Fits d) (listed reply ++ later) →
    IfSome reply (Fits d) × Each (Fits d) later
first_fits d None later fit = (tt, fit)
first_fits d (Some r) later fit = fit

pub both_fit : (d : Definition) (first later : List Reply) → Each (Fits d) (first ++ later) → Each (Fits d) first × Each (Fits d) later
both_fit d [] later fit = (tt, fit)
both_fit d (r ∷ first) later fit = let both = both_fit d first later fit.1 in ((fit.0, both.0), both.1)

module _ (keep : StepsKeepGood) (d : Definition) (well : WellRead d) (a : Accepted d) (most : ℕ) (few : most ≤ most_steps) where
  abbrev IsFine : Option Reply → Config → Type 0
  IsFine reply c = Fine d a.weighed.costs a.weighed.depths most (depth (graph d) a.weighed.depths) (step d reply c)

  fine : (c : Config) → IsGood d a most c → (reply : Option Reply) → Replies d c reply → IsFine reply c
  fine c good reply replies = keep d well a most few c good reply replies

  pub one_step : (c e : Config) → IsGood d a most c → (reply : Option Reply) → IfSome reply (Fits d) → Step d reply c e → IsGood d a most e
  one_step c e good reply fit s =
      subst (Fine d a.weighed.costs a.weighed.depths most (depth (graph d) a.weighed.depths)) s.leads
      (fine c good reply (record { asks = s.asks; fits = fit }))

  steps : (n : ℕ) (replies : List Reply) → Each (Fits d) replies → (c e : Config) → IsGood d a most c → Steps d n replies c e →
      IsGood d a most e
  steps zero replies fit c e good s = subst (IsGood d a most) s.1 good
  steps (suc n) replies fit c e good s =
      let both = first_fits d s.reply s.later (subst (Each (Fits d)) s.replied fit) in
      steps n s.later both.1 s.mid e (one_step c s.mid good s.reply both.0 s.step) s.follows

  -- whatever it comes to is good
  pub stays : (replies : List Reply) → Each (Fits d) replies → (c e : Config) → IsGood d a most c → Reaches d replies c e →
      IsGood d a most e
  stays replies fit c e good r = steps r.count replies fit c e good r.steps

  pub unstuck : (c : Config) → IsGood d a most c → IsUnstuck d c
  unstuck c good arm stuck fit =
      subst (Fine d a.weighed.costs a.weighed.depths most (depth (graph d) a.weighed.depths)) stuck.stuck
      (fine c good stuck.reply (record { asks = stuck.asks; fits = fit }))

  pub ends : (replies : List Reply) → Each (Fits d) replies → (c : Config) → IsGood d a most c → (count : ℕ) (new : World) →
      Dispatches d replies c count new → (count ≤ most) × IsResting d a new
  ends replies fit c good count new r =
      let last = stays replies fit c r.at good r.reached in (
        subst (λ n. n ≤ most) r.counts
            (good_is_within d a.weighed.costs a.weighed.depths most (depth (graph d) a.weighed.depths) r.at last).0,
        subst (IsResting d a) r.leaves
            (ends_rest d a.weighed.costs a.weighed.depths most (depth (graph d) a.weighed.depths) r.at last r.ended),
      )
