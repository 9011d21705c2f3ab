-- Where a dispatch begins it is safe, and what it comes to is.
use Rattle.std.proofs.Common.{◌≡◌, refl, sym, ap, subst, ◌∙◌, ℕ, zero, suc, List, [], ◌∷◌, ◌++◌, Option, None, Some}
use Rattle.ui_machine.specs.Definition.{Definition}
use Rattle.ui_machine.specs.State.Peers.{Reply}
use Rattle.ui_machine.specs.State.Config.{Config}
use Rattle.ui_machine.specs.Runs.{Fits, listed, Steps, Reaches}
use Rattle.law_typing.specs.Verdict.Accepted.{Each}
use Rattle.law_typing.proofs.Lists.{each_append}
use Rattle.law_steps.specs.Served.Safe.{BeginsSafe, SafeStays}
use Rattle.law_steps.proofs.Served.SessionProofs.{never_stuck}

-- replies in front of others
over : (o : Option Reply) (xs ys zs : List Reply) → xs ≡ listed o ++ ys → xs ++ zs ≡ listed o ++ (ys ++ zs)
over None xs ys zs e = ap (λ (l : List Reply). l ++ zs) e
over (Some r) xs ys zs e = ap (λ (l : List Reply). l ++ zs) e

module _ (d : Definition) where
  -- some steps, and then more
  steps_on : (n k : ℕ) (first later : List Reply) (c m e : Config) → Steps d n first c m → Steps d k later m e → Reaches d (first ++ later) c e
  steps_on zero k first later c m e here s =
      let at : Steps d k later c e = subst (λ c. Steps d k later c e) (sym here.1) s in
      subst (λ (l : List Reply). Reaches d (l ++ later) c e) (sym here.0) (record { count = k; steps = at })
  steps_on (suc n) k first later c m e g s =
      let more = steps_on n k g.later later g.mid m e g.follows s in
      record {
        count = suc more.count;
        steps = record {
          reply = g.reply;
          later = g.later ++ later;
          mid = g.mid;
          replied = over g.reply first g.later later g.replied;
          step = g.step;
          follows = more.steps;
        };
      }

pub begins_safe : BeginsSafe
begins_safe d well a peers ready events read x =
    let keeps = never_stuck d well a peers ready events read x in
    record { unstuck = keeps.never_stuck; shallow = keeps.shallow }

pub safe_stays : SafeStays
safe_stays d most c safe replies fit at r = record {
  unstuck = λ later fits e more. safe.unstuck (replies ++ later) (each_append (Fits d) replies later fit fits) e (steps_on d r.count more.count replies later c at e r.steps more.steps);
  shallow = λ later fits e more. safe.shallow (replies ++ later) (each_append (Fits d) replies later fit fits) e (steps_on d r.count more.count replies later c at e r.steps more.steps);
}
