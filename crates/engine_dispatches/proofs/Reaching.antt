-- Laws of runs.
use Rattle.std.proofs.Common.{ℕ, zero, suc, List, [], ◌++◌, None, refl, ap, subst, sym, ◌∙◌, append_assoc}
use Rattle.ui_machine.specs.declared.arm.Halt.{Halt}
use Rattle.ui_machine.specs.Definition.{Definition}
use Rattle.ui_machine.specs.State.Peers.{Reply}
use Rattle.ui_machine.specs.State.Config.{Config}
use Rattle.ui_machine.specs.Runs.{Step, listed, Steps, Reaches, Halts}

module _ (d : Definition) where
  pub reaches_here : (c : Config) → Reaches d [] c c
  reaches_here c = record { count = zero; steps = (refl, refl) }

  steps_on : (n k : ℕ) (first later : List Reply) (c m e : Config) → Steps d n first c m → Steps d k later m e → Reaches d (first ++ later) c e
  steps_on zero k first later c m e here s =
      subst (λ (replies : List Reply). Reaches d (replies ++ later) c e) (sym here.0)
      (subst (λ (from : Config). Reaches d later from e) (sym here.1) (record { count = k; steps = s }))
  steps_on (suc n) k first later c m e g s =
      let more = steps_on n k g.later later g.mid m e g.follows s in
      record {
        count = suc more.count;
        steps = record {
          reply = g.reply;
          later = g.later ++ later;
          mid = g.mid;
          replied = ap (λ replies. replies ++ later) g.replied ∙ append_assoc (listed g.reply) g.later later;
          step = g.step;
          follows = more.steps;
        };
      }

  -- one run after another
  pub reaches_on : {first later : List Reply} {c m e : Config} → Reaches d first c m → Reaches d later m e → Reaches d (first ++ later) c e
  reaches_on {first} {later} {c} {m} {e} r s = steps_on r.count s.count first later c m e r.steps s.steps

  -- a run of one step that asks no peer
  pub reaches_once : {c e : Config} → Step d None c e → Reaches d [] c e
  reaches_once {c} {e} s = record {
    count = suc zero;
    steps = record { reply = None; later = []; mid = e; replied = refl; step = s; follows = (refl, refl) };
  }

  -- one more step that asks no peer
  pub reaches_more : {c m e : Config} → Reaches d [] c m → Step d None m e → Reaches d [] c e
  reaches_more r s = reaches_on r (reaches_once s)

  -- a run that halts after another
  pub halts_on : {c m : Config} {halt : Halt} {shown : List (List ℕ)} → Reaches d [] c m → Halts d [] m halt shown → Halts d [] c halt shown
  halts_on r h = record { at = h.at; reached = reaches_on r h.reached; stops = h.stops; lines = h.lines }
