-- A notification that waits: while the builder makes an object no pair is setting, so that what is due at a property costs its whole node.
use Rattle.std.proofs.Common.{◌≡◌, inl, inr, refl, sym, ap, subst, ◌∙◌, ℕ, suc, ◌+◌, ◌<◌, ◌≤◌, Bool, true, false, cond, List, [], ◌∷◌, Option, None, Some, slice_get, arith}
use Rattle.std.specs.Prelude.{nat_eq, ◌&&◌, ◌⊎◌}
use Rattle.std.proofs.lemmas.Bool.{eqb-true, eqb-false}
use Rattle.ui_machine.specs.Seq.{total}
use Rattle.ui_machine.specs.Definition.{Definition}
use Rattle.ui_machine.specs.Definition.Places.{Bind}
use Rattle.ui_machine.specs.State.Bindings.{Binding}
use Rattle.ui_machine.specs.State.Tasks.{Task, Setting, Notifying, Beginning, Emitting, Transferring, Unsetting, Thawing, Running, Answering, Calling, Constructing, Building, Handling, Due}
use Rattle.law_typing.specs.Graph.{graph}
use Rattle.law_typing.specs.Graph.Channels.{Channel, property, is_pair, source_of, target_of, same_channel}
use Rattle.law_typing.specs.Graph.Tables.{Tables, entry}
use Rattle.law_typing.specs.Graph.Costs.{with_other, node_cost, other_end}
use Rattle.law_typing.specs.Good.DueCosts.{unsets, has_end, is_setting_below, over_cost, due_cost, due_depth}
use Rattle.law_typing.specs.Rules.Brackets.{has_pair}
use Rattle.law_typing.specs.Good.Agenda.{frames}
use Rattle.law_typing.specs.Good.Builds.{is_for_builder}
use Rattle.law_typing.specs.Good.Freezes.{frozen_by, below_lowest, is_carrying_over, ObjectsFirst}
use Rattle.law_typing.proofs.Lists.{both_parts, same_channel_true}
use Rattle.law_static.proofs.PairCostProofs.{is_set_at}
use Rattle.law_steps.proofs.Kept.WriteProofs.{pair_has}

-- ** sums of what tasks count

total_less : (f g : Task → ℕ) → ((task : Task) → f task ≤ g task) → (tasks : List Task) → total f tasks ≤ total g tasks
total_less f g less [] = omega arith
total_less f g less (task ∷ tasks) = let a = less task in let b = total_less f g less tasks in omega (arith, a, b)

unset_is_carried : (number : ℕ) (task : Task) → unsets number task ≤ is_carrying_over task
unset_is_carried number (Unsetting n) = go (nat_eq n number)
  where
    go : (b : Bool) → cond b 1 0 ≤ 1
    go true = omega arith
    go false = omega arith
unset_is_carried number (Transferring n back) = omega arith
unset_is_carried number (Setting object slot v) = omega arith
unset_is_carried number (Notifying object slot) = omega arith
unset_is_carried number (Beginning e) = omega arith
unset_is_carried number (Emitting e turns) = omega arith
unset_is_carried number (Thawing object slots) = omega arith
unset_is_carried number (Running frame) = omega arith
unset_is_carried number (Answering source) = omega arith
unset_is_carried number (Calling call) = omega arith
unset_is_carried number (Constructing object todo held) = omega arith
unset_is_carried number (Building items) = omega arith
unset_is_carried number (Handling request) = omega arith
unset_is_carried number (Due source) = omega arith

-- ** frames

frozen_is_frame : (d : Definition) (id : ℕ) (task : Task) → 0 < frozen_by d id task → 0 < frames (task ∷ [])
frozen_is_frame d id (Running frame) some = omega arith
frozen_is_frame d id (Constructing object todo held) some = omega arith
frozen_is_frame d id (Setting object slot v) some = absurd (omega (arith, some))
frozen_is_frame d id (Notifying object slot) some = absurd (omega (arith, some))
frozen_is_frame d id (Beginning e) some = absurd (omega (arith, some))
frozen_is_frame d id (Emitting e turns) some = absurd (omega (arith, some))
frozen_is_frame d id (Transferring number back) some = absurd (omega (arith, some))
frozen_is_frame d id (Unsetting number) some = absurd (omega (arith, some))
frozen_is_frame d id (Thawing object slots) some = absurd (omega (arith, some))
frozen_is_frame d id (Answering source) some = absurd (omega (arith, some))
frozen_is_frame d id (Calling call) some = absurd (omega (arith, some))
frozen_is_frame d id (Building items) some = absurd (omega (arith, some))
frozen_is_frame d id (Handling request) some = absurd (omega (arith, some))
frozen_is_frame d id (Due source) some = absurd (omega (arith, some))

-- the lowest task that holds an object frozen is a frame, and lies on those below it
pub lowest_stands : (d : Definition) (id : ℕ) (tasks : List Task) → 0 < total (frozen_by d id) tasks → suc (below_lowest d id tasks) ≤ frames tasks
lowest_stands d id [] some = absurd (omega (arith, some))
lowest_stands d id (task ∷ tasks) some = go (nat_eq (total (frozen_by d id) tasks) 0) refl (λ some. lowest_stands d id tasks some)
  where
    go : (b : Bool) → nat_eq (total (frozen_by d id) tasks) 0 ≡ b → (0 < total (frozen_by d id) tasks → suc (below_lowest d id tasks) ≤ frames tasks) →
        suc (cond b (frames tasks) (below_lowest d id tasks)) ≤ frames (task ∷ tasks)
    go true e later =
        let none = eqb-true (total (frozen_by d id) tasks) 0 e in
        let own = frozen_is_frame d id task (omega (arith, none, some)) in
        omega (arith, own)
    go false e later =
        let apart = eqb-false (total (frozen_by d id) tasks) 0 e in
        let below = later (omega (arith, apart)) in
        omega (arith, below)

-- ** costs

-- a channel at whose ends no binding of a pair is to be set free
module _ (d : Definition) (costs : Tables) (below : List Task) (c : Channel) where
  pub none_setting : ((number : ℕ) (x : Bind) → slice_get d.bindings number ≡ Some x → is_pair x ≡ true → has_end c x ≡ true → total (unsets number) below ≡ 0) → is_setting_below d below c ≡ false
  none_setting free = go (is_setting_below d below c) refl
    where
      go : (b : Bool) → is_setting_below d below c ≡ b → is_setting_below d below c ≡ false
      go false e = e
      go true e =
          let found = is_set_at d costs below c d.bindings 0 e in
          let parts = both_parts (is_pair found.1 && has_end c found.1) _ found.3 in
          let of = both_parts (is_pair found.1) (has_end c found.1) parts.0 in
          let none = free found.0 found.1 found.2 of.0 of.1 in
          let same : total (unsets (0 + found.0)) below ≡ 0 = subst (λ n. total (unsets n) below ≡ 0) (omega arith) none in
          absurd (let t = ap (λ n. cond (nat_eq n 0) false true) same in let f = parts.1 in cc)

  pub node_is_due : is_setting_below d below c ≡ false → due_cost d costs below c ≡ node_cost (graph d) costs c
  node_is_due e = ap (λ b. entry costs.channels c + cond b 0 (over_cost costs (other_end (graph d) c))) e ∙ go (other_end (graph d) c)
    where
      go : (o : Option Channel) → entry costs.channels c + over_cost costs o ≡ with_other costs (entry costs.channels c) o
      go None = omega arith
      go (Some other) = omega arith

  pub depth_is_due : (depths : Tables) → is_setting_below d below c ≡ false → due_depth d depths below c ≡ entry depths.channels c
  depth_is_due depths e = rw e refl

-- ** pairs that are setting

same_place : (place at slot own : ℕ) → same_channel (property at own) (property place slot) ≡ true → place ≡ at
same_place place at slot own e = let f = same_channel_true (property at own) (property place slot) e in (let s : at ≡ place = cc in sym s)

-- an end at a property is at its place
end_at : (place slot : ℕ) (x : Bind) → has_end (property place slot) x ≡ true → (place ≡ x.source) ⊎ (place ≡ x.target)
end_at place slot x e = go (same_channel (source_of x) (property place slot)) refl e
  where
    go : (b : Bool) → same_channel (source_of x) (property place slot) ≡ b → cond b true (same_channel (target_of x) (property place slot)) ≡ true → (place ≡ x.source) ⊎ (place ≡ x.target)
    go true t f = inl (same_place place x.source slot x.source_slot t)
    go false t f = inr (same_place place x.target slot x.target_slot f)

-- while the builder makes an object no pair is setting
pub making_sets_none : (d : Definition) (costs : Tables) (task : Task) (rest : List Task) (bs : List Binding) (place slot : ℕ) → ObjectsFirst (task ∷ rest) bs →
    0 < total is_for_builder (task ∷ rest) → is_setting_below d rest (property place slot) ≡ false
making_sets_none d costs task rest bs place slot g making =
    none_setting d costs rest (property place slot)
    (λ number x is pair end. (
    let none = (g.before making).1 in
    let fewer = total_less (unsets number) is_carrying_over (unset_is_carried number) rest in
    omega (arith, none, fewer)))

-- what is setting at a property is a pair of its place
pub setting_has : (d : Definition) (costs : Tables) (below : List Task) (place slot : ℕ) → is_setting_below d below (property place slot) ≡ true → has_pair d place ≡ true
setting_has d costs below place slot e =
    let found = is_set_at d costs below (property place slot) d.bindings 0 e in
    let parts = both_parts (is_pair found.1 && has_end (property place slot) found.1) _ found.3 in
    let of = both_parts (is_pair found.1) (has_end (property place slot) found.1) parts.0 in
    pair_has d found.0 found.1 place found.2 of.0 (end_at place slot found.1 of.1)
