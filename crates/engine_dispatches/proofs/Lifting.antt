-- A run over peers of which what they count and keep is forgotten is one over these peers.
use Rattle.std.proofs.Common.{◌≡◌, refl, sym, ◌∙◌, subst, ℕ, zero, suc, List, [], ◌++◌, Option, None, Some, Ok, Err}
use Rattle.std.specs.Prelude.{option_map}
use Rattle.ui_machine.specs.Definition.{Definition}
use Rattle.ui_machine.specs.Outcome.{Answer}
use Rattle.ui_machine.specs.Runs.{Reaches, Step, Steps, listed}
use Rattle.ui_machine.specs.State.Config.{Config}
use Rattle.ui_machine.specs.State.Peers.{Question, Reply}
use Rattle.ui_machine.specs.Steps.{question, step}
use Rattle.machine_laws.specs.FrontLaws.{mapped}
use Rattle.law_peers.specs.Forgetting.{forgotten_at, forgotten_question, forgotten_reply}
use Rattle.law_peers.proofs.ForgettingProofs.{question_forgets, step_forgets}
use Rattle.engine_dispatches.proofs.Reaching.{reaches_here, reaches_on, reaches_once}

-- what leads there where something is changed
pub leads : {A B : Type 0} (f : A → B) (a : Answer A) (x : B) → mapped f a ≡ Ok x → (y : A) × (a ≡ Ok y) × (f y ≡ x)
leads f (Ok y) x is = (y, refl, cc is)
leads f (Err arm) x is = absurd (cc is)

pub asks_none : (q : Option Question) → option_map forgotten_question q ≡ None → q ≡ None
asks_none None is = refl
asks_none (Some q) is = absurd (cc is)

module _ (d : Definition) where
  -- a run to a configuration where all that is forgotten
  pub record Lifts (c e : Config) : Type 0 where
    pub at : Config
    pub reached : Reaches d [] c at
    pub is : forgotten_at at ≡ e

  -- a step with the reply that the peer gives
  pub lift_step : (reply : Option Reply) (c e : Config) → step d (option_map forgotten_reply reply) (forgotten_at c) ≡ Ok e
      → (x : Config) × (step d reply c ≡ Ok x) × (forgotten_at x ≡ e)
  lift_step reply c e is = leads forgotten_at (step d reply c) e (sym (step_forgets d reply c) ∙ is)

  quiet_step : (c e : Config) → Step d None (forgotten_at c) e → (x : Config) × Step d None c x × (forgotten_at x ≡ e)
  quiet_step c e s =
      let x = lift_step None c e s.leads in
      (x.0, record { asks = asks_none (question d c) (sym (question_forgets d c) ∙ s.asks); leads = x.1 }, x.2)

  lift_steps : (n : ℕ) (c e : Config) → Steps d n [] (forgotten_at c) e → Lifts c e
  lift_steps zero c e s = record { at = c; reached = reaches_here d c; is = s.1 }
  lift_steps (suc n) c e g = by (λ m s. lift_steps n m e s) g.reply g.later g.replied g.step g.follows
    where
      by : ((m : Config) → Steps d n [] (forgotten_at m) e → Lifts m e) → (reply : Option Reply) (later : List Reply) → ◌≡◌ {A = List Reply} [] (listed reply ++ later) → Step d reply (forgotten_at c) g.mid → Steps d n later g.mid e → Lifts c e
      by later_lifts (Some r) later is s rest = absurd (cc is)
      by later_lifts None later is s rest =
          let one = quiet_step c g.mid s in
          let others = later_lifts one.0 (subst (λ (m : Config). Steps d n [] m e) (sym one.2) (subst (λ (rs : List Reply). Steps d n rs g.mid e) (sym is) rest)) in
          record { at = others.at; reached = reaches_on d (reaches_once d one.1) others.reached; is = others.is }

  -- a run in which no peer is asked
  pub lift : (c e : Config) → Reaches d [] (forgotten_at c) e → Lifts c e
  lift c e r = lift_steps r.count c e r.steps
