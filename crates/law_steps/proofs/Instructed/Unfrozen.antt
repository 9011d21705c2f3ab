-- No task holds frozen what is not there.
use Rattle.std.proofs.Common.{◌≡◌, refl, sym, ap, ◌∙◌, ℕ, Bool, true, false, cond, List, [], ◌∷◌, Option, None, Some, arith}
use Rattle.std.specs.Prelude.{nat_eq, is_some}
use Rattle.std.proofs.lemmas.Bool.{eqb-true}
use Rattle.ui_machine.specs.Seq.{read, total}
use Rattle.ui_machine.specs.Definition.Kinds.{RegisterKind}
use Rattle.ui_machine.specs.Definition.Values.{Value}
use Rattle.ui_machine.specs.Definition.Values as values
use Rattle.ui_machine.specs.Definition.{Definition}
use Rattle.ui_machine.specs.State.Tasks.{Task, Running, Constructing}
use Rattle.law_typing.specs.Rules.Brackets.{opened}
use Rattle.law_typing.specs.Rules.RegisterKinds.{kind_in}
use Rattle.law_typing.specs.Graph.Tables.{Tables}
use Rattle.law_typing.specs.Good.Standing.{Standing, View, holds}
use Rattle.law_typing.specs.Good.ComingDown.{Down, down}
use Rattle.law_typing.specs.Good.Programs.{code_left}
use Rattle.law_typing.specs.Good.Freezes.{to_thaw, frozen_by}
use Rattle.law_typing.specs.Good.Agenda.{TaskGood, AgendaGood}
use Rattle.law_static.proofs.FitsProofs.{holds_live}
use Rattle.law_steps.proofs.Instructed.Counts.{names_it, frozen_is}

total_zero : {A : Type 0} (f : A → ℕ) (xs : List A) → ((x : A) → f x ≡ 0) → total f xs ≡ 0
total_zero f [] zero = refl
total_zero f (x ∷ xs) zero = let h = zero x in let rest = total_zero f xs zero in omega (arith, h, rest)

-- a register that holds what its kind says does not name it
unnamed : (d : Definition) (s : Standing) (id : ℕ) → s id ≡ None → (k : RegisterKind) (v : Option Value) → holds d s k v ≡ true → names_it id v ≡ 0
unnamed d s id gone k (Some (values.object (Some i))) h = go (nat_eq i id) refl
  where
    go : (b : Bool) → nat_eq i id ≡ b → names_it id (Some (values.object (Some i))) ≡ 0
    go true e = absurd (let none = ap s (eqb-true i id e) ∙ gone in let lives = holds_live d s k (values.object (Some i)) h in let f = sym (ap (λ o. is_some o) none) ∙ lives in cc)
    go false e = ap {B = ℕ} (λ b. cond b 1 0) e
unnamed d s id gone k _ h = refl

-- no task does
unfrozen_by : (d : Definition) (costs depths : Tables) (v : View) (up : Down) (below : List Task) (id : ℕ) → v.stands id ≡ None → (task : Task) (steps frames : ℕ) →
    TaskGood d costs depths v up below task steps frames → frozen_by d id task ≡ 0
unfrozen_by d costs depths v up below id gone (Running f) steps frames g =
    frozen_is d id f
    ∙ total_zero (λ r. names_it id (read None f.registers r)) (opened (code_left d f)) (λ r. unnamed d v.stands id gone (kind_in g.1.ks r) (read None f.registers r) (g.1.fit r))
unfrozen_by d costs depths v up below id gone (Constructing object todo held) steps frames g = go (nat_eq object id) refl
  where
    go : (b : Bool) → nat_eq object id ≡ b → cond b (to_thaw todo) 0 ≡ 0
    go true e = absurd (let none = ap v.stands (eqb-true object id e) ∙ gone in let f = sym none ∙ g.1.is in cc)
    go false e = refl
unfrozen_by d costs depths v up below id gone _ steps frames g = refl

pub unfrozen : (d : Definition) (costs depths : Tables) (v : View) (most : ℕ) (id : ℕ) → v.stands id ≡ None → (agenda : List Task) (up : Down) (budget : ℕ) →
    AgendaGood d costs depths v most up agenda budget → total (frozen_by d id) agenda ≡ 0
unfrozen d costs depths v most id gone [] up budget g = refl
unfrozen d costs depths v most id gone (task ∷ below) up budget g =
    let h = unfrozen_by d costs depths v up below id gone task g.0 g.1 g.3 in
    let rest = unfrozen d costs depths v most id gone below (down d v task) g.2 g.6 in
    omega (arith, h, rest)
