-- What falls still falls where the first task is no program.
use Rattle.std.proofs.Common.{refl, subst, ℕ, suc, List, [], ◌∷◌, ◌++◌, Ok, Err}
use Rattle.std.specs.Prelude.{IfOk, nat_lt}
use Rattle.ui_machine.specs.declared.arm.Arm.TheVariants as arms
use Rattle.ui_machine.specs.Definition.{Definition}
use Rattle.ui_machine.specs.Outcome.{Answer}
use Rattle.ui_machine.specs.Rules.NotifyQueue.{thawing}
use Rattle.ui_machine.specs.Rules.Transfers.{unsetting}
use Rattle.ui_machine.specs.State.Config.{World, Started, Left}
use Rattle.ui_machine.specs.State.Tasks.{Task, Notifying, Thawing, Unsetting}
use Rattle.ui_machine.specs.Steps.{counted, left, most_steps, uncounted}
use Rattle.machine_laws.proofs.KeptProofs.{only_keeps}
use Rattle.law_typing.specs.Good.Standing.{standing}
use Rattle.law_typing.specs.Laws.StepsKeepGood.{IsGood}
use Rattle.law_typing.specs.Verdict.Accepted.{Accepted}
use Rattle.law_frames.specs.Frames.{FallsAt, Under, waited_height}
use Rattle.law_frames.proofs.Leading.{Leads, framed, plain}

-- nothing is left out
abbrev pub Nothing : ℕ → ℕ → Type 0
Nothing id slot = ⊥

module _ (d : Definition) (a : Accepted d) (most_counted : ℕ) (w : World) (task : Task) (rest : List Task) (n : ℕ)
    (g : IsGood d a most_counted (record { world = w; agenda = task ∷ rest; counted = n })) (f : FallsAt d a.weighed.depths (record { world = w; agenda = task ∷ rest; counted = n }))
    (But : ℕ → ℕ → Type 0) where
  abbrev pub LeadsStarted : ℕ → Started → Type 0
  LeadsStarted k s = Leads d a most_counted w task rest n g f But (record { world = s.world; agenda = s.tasks ++ rest; counted = k })

  pub not_counted : (k : ℕ) (x : Answer Started) → IfOk x (LeadsStarted k) → IfOk (uncounted rest k x) (Leads d a most_counted w task rest n g f But)
  not_counted k (Ok s) l = l
  not_counted k (Err arm) l = tt

  pub is_counted : (k : ℕ) (x : Answer Started) → IfOk x (LeadsStarted (suc k)) → IfOk (counted rest k x) (Leads d a most_counted w task rest n g f But)
  is_counted k x l = only_keeps (nat_lt k most_steps) arms.Steps (uncounted rest (suc k) x) (Leads d a most_counted w task rest n g f But) (not_counted (suc k) x l)

  abbrev pub LeadsLeft : ℕ → Left → Type 0
  LeadsLeft k l = Leads d a most_counted w task rest n g f But (record { world = l.world; agenda = l.agenda; counted = k })

  pub leaves_agenda : (k : ℕ) (x : Answer Left) → IfOk x (LeadsLeft k) → IfOk (left k x) (Leads d a most_counted w task rest n g f But)
  unfolding left
  leaves_agenda k (Ok l) h = h
  leaves_agenda k (Err arm) h = tt

  -- the task is replaced by nothing
  pub none_left : (v : World) (k : ℕ) → ((id slot : ℕ) → But id slot → ⊥) → Leads d a most_counted w task rest n g f But (record { world = v; agenda = rest; counted = k })
  none_left v k none = plain d a most_counted w task rest n g f But v [] k (λ good goes same falls. falls) (λ id. refl) (λ good goes falls id slot o is there but. absurd (none id slot but))

-- ** what is left of a thaw

module _ (d : Definition) (a : Accepted d) (most_counted : ℕ) (w : World) (id : ℕ) (rest : List Task) (n : ℕ) where
  pub thaws_rest : (slots : List ℕ) (g : IsGood d a most_counted (record { world = w; agenda = Thawing id slots ∷ rest; counted = n }))
      (f : FallsAt d a.weighed.depths (record { world = w; agenda = Thawing id slots ∷ rest; counted = n })) →
      IfOk (thawing w id slots) (LeadsStarted d a most_counted w (Thawing id slots) rest n g f Nothing n)
  thaws_rest [] g f = none_left d a most_counted w (Thawing id []) rest n g f Nothing w n (λ id slot none. none)
  thaws_rest (slot ∷ slots) g f =
      framed d a most_counted w (Thawing id (slot ∷ slots)) rest n g f Nothing w (Notifying id slot ∷ []) (Thawing id slots) n
      (λ good goes same falls. f.agenda.0.1)
      (λ good goes same falls. (
        record {
          place = g.agenda.3.1.0;
          is = g.agenda.3.1.1;
          under = subst (λ o. Under d a.weighed.depths (standing w.objects) (waited_height d a.weighed.depths slot o) rest) g.agenda.3.1.1 f.agenda.0.0;
          apart = tt;
        },
        falls,
      ))
      (λ good goes same m u. u)
      (λ id slot o is there. refl)
      (λ good goes falls id slot o is there none. absurd none)

-- ** a binding that is set free

module _ (d : Definition) (a : Accepted d) (most_counted : ℕ) (w : World) (number : ℕ) (rest : List Task) (n : ℕ)
    (g : IsGood d a most_counted (record { world = w; agenda = Unsetting number ∷ rest; counted = n })) (f : FallsAt d a.weighed.depths (record { world = w; agenda = Unsetting number ∷ rest; counted = n })) where
  pub frees : IfOk (unsetting w number) (LeadsStarted d a most_counted w (Unsetting number) rest n g f Nothing n)
  frees = none_left d a most_counted w (Unsetting number) rest n g f Nothing _ n (λ id slot none. none)
