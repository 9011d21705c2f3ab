-- What is counted stays within its bound, from the beginning of a dispatch on.
use Rattle.std.proofs.Common.{◌≡◌, refl, subst, ℕ, zero, suc, ◌+◌, Bool, true, false, cond, nat_eq, List, [], ◌∷◌, Option, None, Some, arith}
use Rattle.std.specs.Prelude.{IfOk}
use Rattle.ui_machine.specs.Definition.{Definition}
use Rattle.ui_machine.specs.Runs.{Steps}
use Rattle.ui_machine.specs.Seq.{read}
use Rattle.ui_machine.specs.State.Config.{Config}
use Rattle.ui_machine.specs.State.Objects.{Object, Objects, living}
use Rattle.ui_machine.specs.State.Peers.{Reply}
use Rattle.ui_machine.specs.State.References.{mentions, next_unheld, unheld_from}
use Rattle.ui_machine.specs.Steps.{first_of, step}
use Rattle.machine_laws.proofs.KeptProofs.{kept_at}
use Rattle.law_runs.proofs.Counting.{Counting}
use Rattle.law_runs.proofs.NumberStartProofs.{Within}
use Rattle.law_runs.proofs.NumberTaskProofs.{acts_within, finalises}

-- an object lives under an identity, of those from i on
record Lives (i : ℕ) (os : Objects) (id : ℕ) : Type 0 where
  pub object : Object
  pub at : ℕ
  pub there : read None os at ≡ Some object
  pub same : id ≡ i + at

lives_later : (i : ℕ) (o : Option Object) (os : Objects) (id : ℕ) → Lives (suc i) os id → Lives i (o ∷ os) id
lives_later i o os id lives = record { object = lives.object; at = suc lives.at; there = lives.there; same = (let same = lives.same in omega (arith, same)) }

-- who is without a mention lives
unheld_lives : (mentions : ℕ → ℕ) (i : ℕ) (os : Objects) (id : ℕ) → unheld_from mentions i os ≡ Some id → Lives i os id
unheld_lives mentions i [] id is = absurd (cc is)
unheld_lives mentions i (None ∷ os) id is = lives_later i None os id (unheld_lives mentions (suc i) os id is)
unheld_lives mentions i (Some o ∷ os) id is = by (nat_eq (mentions i) 0) (λ later. unheld_lives mentions (suc i) os id later) is
  where
    by : (b : Bool) → (unheld_from mentions (suc i) os ≡ Some id → Lives (suc i) os id) → cond b (Some i) (unheld_from mentions (suc i) os) ≡ Some id → Lives i (Some o ∷ os) id
    by true later is = record { object = o; at = 0; there = refl; same = (let same : i ≡ id = cc is in omega (arith, same)) }
    by false later is = lives_later i (Some o) os id (later is)

living_at : (os : Objects) (id : ℕ) (lives : Lives 1 os id) → living os id ≡ Some lives.object
living_at os id lives = subst (λ i. living os i ≡ Some lives.object) at lives.there
  where
    at : suc lives.at ≡ id
    at = let same = lives.same in omega (arith, same)

module _ (K : Counting) where
  abbrev At : Config → Type 0
  At c = Within K K.most c.world c.agenda

  -- each step keeps it
  pub step_within : (d : Definition) (reply : Option Reply) (c : Config) → At c → IfOk (step d reply c) At
  step_within d reply c at = first (next_unheld (mentions d c) c.world.objects) refl
    where
      first : (o : Option ℕ) → next_unheld (mentions d c) c.world.objects ≡ o → IfOk (first_of d reply c o) At
      first None is = acts_within K d c.world at.count at.taken reply c.agenda c.counted at.few
      first (Some id) is =
          let lives = unheld_lives (mentions d c) 1 c.world.objects id is in
          finalises K d c.world at.count at.taken c.agenda at.few c.counted id
          (K.lives at.count c.world.last_handler c.world.objects id lives.object at.taken (living_at c.world.objects id lives))

  -- so does each run
  pub steps_within : (d : Definition) (count : ℕ) (replies : List Reply) (c e : Config) → Steps d count replies c e → At c → At e
  steps_within d zero replies c e none at = subst At none.1 at
  steps_within d (suc count) replies c e goes at =
      steps_within d count goes.later goes.mid e goes.follows (kept_at At (step d goes.reply c) goes.mid (step_within d goes.reply c at) goes.step.leads)
