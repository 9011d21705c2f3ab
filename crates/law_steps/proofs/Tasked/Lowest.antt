-- Tasks that hold nothing frozen lie above the lowest one that does.
use Rattle.std.proofs.Common.{◌≡◌, refl, ℕ, ◌<◌, Bool, true, false, cond, List, ◌∷◌, arith}
use Rattle.std.specs.Prelude.{nat_eq}
use Rattle.std.proofs.lemmas.Bool.{eqb-true}
use Rattle.ui_machine.specs.Seq.{total}
use Rattle.ui_machine.specs.Definition.{Definition}
use Rattle.ui_machine.specs.State.Tasks.{Task}
use Rattle.law_typing.specs.Good.Agenda.{frames}
use Rattle.law_typing.specs.Good.Freezes.{frozen_by, below_lowest}

pub lowest_above : (d : Definition) (id : ℕ) (task : Task) (tasks : List Task) → 0 < total (frozen_by d id) tasks → below_lowest d id (task ∷ tasks) ≡ below_lowest d id tasks
lowest_above d id task tasks some = go (nat_eq (total (frozen_by d id) tasks) 0) refl
  where
    go : (b : Bool) → nat_eq (total (frozen_by d id) tasks) 0 ≡ b → cond b (frames tasks) (below_lowest d id tasks) ≡ below_lowest d id tasks
    go true e = absurd (let none = eqb-true (total (frozen_by d id) tasks) 0 e in omega (arith, none, some))
    go false e = refl
