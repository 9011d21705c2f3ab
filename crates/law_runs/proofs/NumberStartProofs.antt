-- What a part of a step takes, and what it puts on the agenda.
use Rattle.std.proofs.Common.{◌≡◌, refl, ℕ, suc, ◌+◌, ◌≤◌, Bool, true, false, cond, not, List, [], ◌∷◌, ◌++◌, length, Option, Ok, Err, arith}
use Rattle.std.specs.List.{list_all}
use Rattle.std.specs.Prelude.{IfOk}
use Rattle.ui_machine.specs.declared.arm.Arm.TheVariants as arms
use Rattle.ui_machine.specs.Definition.{Definition}
use Rattle.ui_machine.specs.Definition.Lookups.{place_at, specs_of, type_of}
use Rattle.ui_machine.specs.Definition.Places.{Place}
use Rattle.ui_machine.specs.Outcome.{After, Answer, known, only_if}
use Rattle.ui_machine.specs.Output.Lines as lines
use Rattle.ui_machine.specs.Rules.Build.{of_items}
use Rattle.ui_machine.specs.Rules.Construction.{construction, has_valid_default, making, new_object, with_object}
use Rattle.ui_machine.specs.Rules.NotifyQueue.{raised}
use Rattle.ui_machine.specs.Rules.Sets.{raising}
use Rattle.ui_machine.specs.Seq.{total}
use Rattle.ui_machine.specs.State.Config.{Started, World, said, starts}
use Rattle.ui_machine.specs.State.Objects.{Objects, changed}
use Rattle.ui_machine.specs.State.Tasks.{Constructing, Notifying, Task, makes}
use Rattle.machine_laws.proofs.KeptProofs.{bind_keeps, kept_at, only_keeps}
use Rattle.law_runs.proofs.Counting.{Counting, Taken, raised_taken, to_take}

-- what was counted and what is still to be taken are no more than this
pub record Within (K : Counting) (most : ℕ) (w : World) (tasks : List Task) : Type 0 where
  pub count : ℕ
  pub taken : Taken K count w
  pub few : count + to_take K.takes tasks ≤ most

-- ** sums

pub total_append : {A : Type 0} (f : A → ℕ) (xs ys : List A) → total f (xs ++ ys) ≡ total f xs + total f ys
total_append f [] ys = omega arith
total_append f (x ∷ xs) ys = let rest = total_append f xs ys in omega (arith, rest)

pub if_weaker : {A : Type 0} (P Q : A → Type 0) (a : Answer A) → ((x : A) → P x → Q x) → IfOk a P → IfOk a Q
if_weaker P Q (Ok x) weaker p = weaker x p
if_weaker P Q (Err arm) weaker p = tt

module _ (K : Counting) where
  -- so many were taken, and the tasks take no more than is said
  pub within : (n m most : ℕ) (v : World) (tasks : List Task) → Taken K n v → to_take K.takes tasks ≡ m → n + m ≤ most → Within K most v tasks
  within n m most v tasks taken sum few = record { count = n; taken = taken; few = omega (arith, sum, few) }

  -- with tasks that take nothing
  pub within_also : (most : ℕ) (v : World) (tasks more : List Task) → to_take K.takes more ≡ 0 → Within K most v tasks → Within K most v (tasks ++ more)
  within_also most v tasks more none within = record {
    count = within.count;
    taken = within.taken;
    few = (let sum = total_append (of_items K.takes) tasks more in let few = within.few in omega (arith, none, sum, few));
  }

  -- in front of the rest of the agenda
  pub in_front_of : (some most : ℕ) (rest : List Task) → some + to_take K.takes rest ≤ most → (v : World) (tasks : List Task) → Within K some v tasks → Within K most v (tasks ++ rest)
  in_front_of some most rest room v tasks within = record {
    count = within.count;
    taken = within.taken;
    few = (let sum = total_append (of_items K.takes) tasks rest in let few = within.few in omega (arith, room, sum, few));
  }

  -- a part of a step that takes no more may go on in place of one that may take more
  pub more_room : (some most : ℕ) (v : World) (tasks : List Task) → some ≤ most → Within K some v tasks → Within K most v tasks
  more_room some most v tasks low within = record { count = within.count; taken = within.taken; few = (let few = within.few in omega (arith, low, few)) }

  -- a construction begins with one object more
  pub makes_one : (d : Definition) (w : World) (n : ℕ) → Taken K n w → (place : ℕ) (peer : Option ℕ) (held : Bool)
      → IfOk (making d w place peer held) (λ s. Within K (K.takes (makes place) + n) s.world s.tasks)
  unfolding making
  makes_one d w n taken place peer held = bind_keeps (known arms.Code (place_at d place)) _ _ (λ p _.
      only_keeps (not (type_of d p.class).is_abstract) arms.Abstract (only_if (list_all (has_valid_default d) (specs_of d p.class)) arms.Value (begun p)) _
      (only_keeps (list_all (has_valid_default d) (specs_of d p.class)) arms.Value (begun p) _
      (within (K.takes (makes place) + n) 0 (K.takes (makes place) + n) _ _ (K.makes_object n w.last_handler w.objects place (new_object d place p peer) refl refl taken) refl (omega arith))))
    where
      begun : Place → Answer Started
      begun p = starts (said d (with_object d w (new_object d place p peer)) (lines.construct (suc (length w.objects)) (type_of d p.class).name))
          (Constructing (suc (length w.objects)) (construction d w place p) held ∷ [])

  -- a notification is raised
  pub raises_one : (n : ℕ) (v : World) → Taken K n v → (id slot : ℕ) → IfOk (raising v id slot) (λ s. Within K n s.world s.tasks)
  unfolding raising
  raises_one n v taken id slot = bind_keeps (changed v.objects id (raised slot)) _ _ (λ r is.
      within n 0 n _ _ (kept_at (λ (r : After Objects Bool). K.Holds n r.state v.last_handler) (changed v.objects id (raised slot)) r (raised_taken K n v taken id slot) is) (none r.answer) (omega arith))
    where
      none : (b : Bool) → to_take K.takes (cond b (Notifying id slot ∷ []) []) ≡ 0
      none true = refl
      none false = refl
