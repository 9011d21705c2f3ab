-- What may be held: it lives, and there is room for its count.
use Rattle.std.proofs.Common.{◌≡◌, ◌<◌, ◌≤◌, ◌+◌, ◌^◌, ℕ, zero, suc, Bool, true, false, cond, nat_eq, List, [], ◌∷◌, Option, Some, None, IfSome, IsSome, refl, sym, subst, arith}
use Rattle.std.proofs.lemmas.Bool.Decides.{nat_tests}
use Rattle.ui_machine.specs.Definition.{Definition}
use Rattle.ui_machine.specs.Definition.Values.{Value}
use Rattle.ui_machine.specs.Definition.Values as values
use Rattle.ui_machine.specs.Rules.Sets.{lives}
use Rattle.ui_machine.specs.Seq.{total}
use Rattle.ui_machine.specs.State.Config.{World}
use Rattle.ui_machine.specs.State.Objects.{Object, Objects, living}
use Rattle.ui_machine.specs.State.References.{in_emission, in_option, in_register, in_task, in_value, mentions, same}
use Rattle.law_typing.specs.Examples.NothingToDo as nothing_to_do
use Rattle.ui_machine.specs.State.Tasks.{Emission}
use Rattle.law_typing.specs.Good.Living.{EmissionNamesLiving, NamesLiving}
use Rattle.law_typing.specs.Verdict.Accepted.{Each}
use Rattle.instance_tables.proofs.Few.{same_most}
use Rattle.instance_tables.specs.Store.{Store, count_of}
use Rattle.engine_world.specs.Counting.{Counts, IsCounted, KeepsCounts, MayBeHeld, MayHold, MayPush, OnlyCounts}
use Rattle.engine_world.specs.EngineView.{config_of}
use Rattle.engine_world.specs.TaskView.{task_in}
use Rattle.engine_world.specs.View.{world_of}
use Rattle.engine_world.specs.declared.engine.Engine.{Engine}
use Rattle.engine_stack.specs.declared.task.Task as code
use Rattle.engine_world.proofs.Counts.{still_counted}

-- some definition, where any will do
abbrev pub any : Definition
any = nothing_to_do.definition

-- ** what is held names an object

pub same_is : (o i : ℕ) → 0 < same o i → i ≡ o
same_is o i held = by (nat_eq i o) refl held
  where
    by : (b : Bool) → nat_eq i o ≡ b → 0 < cond b 1 0 → i ≡ o
    by true e held = grind (arith, nat_tests)
    by false e held = absurd (omega (arith, held))

-- an object that lives
pub same_lives : (os : Objects) (o i : ℕ) → IsSome (living os i) → 0 < same o i → IsSome (living os o)
same_lives os o i lives held = subst (λ id. IsSome (living os id)) (same_is o i held) lives

pub option_lives : (os : Objects) (o : ℕ) (id : Option ℕ) → IfSome id (λ i. IsSome (living os i)) → 0 < in_option o id → IsSome (living os o)
option_lives os o None lives held = absurd (omega (arith, held))
option_lives os o (Some i) lives held = same_lives os o i lives held

none_held : (o : ℕ) → 0 < 0 → ⊥
none_held o held = omega (arith, held)

-- a value that names what lives
pub value_lives : (os : Objects) (o : ℕ) (v : Value) → lives os v ≡ true → 0 < in_value o v → IsSome (living os o)
value_lives os o (values.bool b) names held = absurd (none_held o held)
value_lives os o (values.whole kind n) names held = absurd (none_held o held)
value_lives os o (values.text s) names held = absurd (none_held o held)
value_lives os o (values.enum type n) names held = absurd (none_held o held)
value_lives os o (values.flags type bits) names held = absurd (none_held o held)
value_lives os o (values.object None) names held = absurd (none_held o held)
value_lives os o (values.object (Some i)) names held = same_lives os o i names held

pub register_lives : (os : Objects) (o : ℕ) (r : Option Value) → IfSome r (λ v. lives os v ≡ true) → 0 < in_register o r → IsSome (living os o)
register_lives os o None names held = absurd (none_held o held)
register_lives os o (Some v) names held = value_lives os o v names held

module _ {A : Type 0} (Names : A → Type 0) (f : A → ℕ) (P : Type 0) (one : (x : A) → Names x → 0 < f x → P) where
  -- one of several
  pub each_lives : (xs : List A) → Each Names xs → 0 < total f xs → P
  each_lives [] names held = absurd (omega (arith, held))
  each_lives (x ∷ xs) names held = by (f x) refl (each_lives xs names.1)
    where
      by : (n : ℕ) → f x ≡ n → (0 < total f xs → P) → P
      by zero is behind = behind (omega (arith, held, is))
      by (suc n) is behind = one x names.0 (omega (arith, is))

pub values_live : (w : World) (o : ℕ) (vs : List Value) → Each (NamesLiving w) vs → 0 < total (in_value o) vs → IsSome (living w.objects o)
values_live w o vs = each_lives (NamesLiving w) (in_value o) (IsSome (living w.objects o)) (value_lives w.objects o) vs

pub registers_live : (w : World) (o : ℕ) (rs : List (Option Value)) → Each (λ r. IfSome r (NamesLiving w)) rs → 0 < total (in_register o) rs → IsSome (living w.objects o)
registers_live w o rs = each_lives (λ r. IfSome r (NamesLiving w)) (in_register o) (IsSome (living w.objects o)) (register_lives w.objects o) rs

-- an emission that names what lives
pub emission_lives : (w : World) (o : ℕ) (e : Emission) → EmissionNamesLiving w e → 0 < in_emission o e → IsSome (living w.objects o)
emission_lives w o e names held = by (same o e.object) refl (total (in_value o) e.args) refl
  where
    by : (n : ℕ) → same o e.object ≡ n → (m : ℕ) → total (in_value o) e.args ≡ m → IsSome (living w.objects o)
    by (suc n) is m args = same_lives w.objects o e.object names.0 (omega (arith, is))
    by zero is (suc m) args = values_live w o e.args names.1 (omega (arith, args))
    by zero is zero args = register_lives w.objects o e.value names.2 (omega (arith, held, is, args))

-- ** what is counted lives

module _ (d : Definition) (taken : ℕ → ℕ) (e : Engine) (dead : (o : ℕ) → living e.world.table.objects o ≡ None → count_of e.world.table.counts o ≡ 0) (counts : Counts d taken e) where
  pub counted_lives : (o : ℕ) → 0 < mentions d (config_of d e) o + taken o → IsSome (living e.world.table.objects o)
  counted_lives o held = by (living e.world.table.objects o) (dead o)
    where
      by : (found : Option Object) → (found ≡ None → count_of e.world.table.counts o ≡ 0) → IsSome found
      by None none = absurd (omega (arith, none refl, counts.exact o, held))
      by (Some x) none = refl

-- ** what may be held

pub may_less : (s : Store) (more less : ℕ → ℕ) → ((o : ℕ) → less o ≤ more o) → MayHold s more → MayHold s less
may_less s more less fewer may = record {
  at = λ o held.
      let m = may.at o (omega (arith, held, fewer o)) in
      (m.0, omega (arith, m.1, fewer o));
}

-- of two, the second once the first is held
pub may_after : (s t : Store) (first later : ℕ → ℕ) → OnlyCounts s t → ((o : ℕ) → count_of t.counts o ≡ count_of s.counts o + first o)
    → MayHold s (λ o. first o + later o) → MayHold t later
may_after s t first later only counts may = record {
  at = λ o held.
      let m = may.at o (omega (arith, held)) in
      (subst (λ (os : Objects). IsSome (living os o)) (sym only.objects) m.0, omega (arith, m.1, counts o));
}

-- of a list, what comes next: `left` are those that are not held yet
pub may_next : (s t : Store) (all left one : ℕ → ℕ) → OnlyCounts s t → MayHold s all → ((o : ℕ) → count_of t.counts o + left o ≡ count_of s.counts o + all o)
    → ((o : ℕ) → left o ≤ all o) → ((o : ℕ) → one o ≤ left o) → MayHold t one
may_next s t all left one only may counts less few = record {
  at = λ o held.
      let m = may.at o (omega (arith, held, less o, few o)) in
      (subst (λ (os : Objects). IsSome (living os o)) (sym only.objects) m.0, omega (arith, m.1, counts o, few o));
}

-- by the engine's counts
pub may_by : (e : Engine) (more : ℕ → ℕ) → ((d : Definition) → IsCounted d e → (o : ℕ) → count_of e.world.table.counts o + 2 ^ 64 < 2 ^ 128)
    → ((o : ℕ) → more o ≤ 2 ^ 64) → ((o : ℕ) → 0 < more o → MayBeHeld e o) → MayHold e.world.table more
may_by e more room little may = record {
  at = λ o held.
      let m = may o held in
      (m.lives, omega (arith, room m.d m.counted o, little o));
}

-- one object
pub may_one : (e : Engine) (id : ℕ) → ((d : Definition) → IsCounted d e → (o : ℕ) → count_of e.world.table.counts o + 2 ^ 64 < 2 ^ 128) → MayBeHeld e id
    → MayHold e.world.table (λ o. same o id)
may_one e id room may = may_by e (λ o. same o id) room (λ o. let one = same_most o id in omega (arith, one)) (λ o held. subst (MayBeHeld e) (same_is o id held) may)

-- where each object is counted
pub may_counted : (d : Definition) (e : Engine) (more : ℕ → ℕ) → ((d : Definition) → IsCounted d e → (o : ℕ) → count_of e.world.table.counts o + 2 ^ 64 < 2 ^ 128)
    → IsCounted d e → ((o : ℕ) → more o ≤ 2 ^ 64) → ((o : ℕ) → 0 < more o → IsSome (living e.world.table.objects o)) → MayHold e.world.table more
may_counted d e more room counted little lives = may_by e more room little (λ o held. record { d = d; counted = counted; lives = lives o held })

-- ** tasks

-- an object that lives still may be held, once other tasks were put before the others
pub may_on : (d : Definition) (e b : Engine) (id : ℕ) → IsCounted d e → KeepsCounts d e b → IsSome (living b.world.table.objects id) → MayBeHeld b id
may_on d e b id counted keeps lives = record { d = d; counted = still_counted d e b keeps counted; lives = lives }

pub lives_still : (e b : Engine) (id : ℕ) → world_of b.world ≡ world_of e.world → IsSome (living e.world.table.objects id) → IsSome (living b.world.table.objects id)
lives_still e b id same = subst (λ (w : World). IsSome (living w.objects id)) (sym same)

-- a task that holds nothing
pub pushes_nothing : (e : Engine) (t : code.Task) → ((d : Definition) (o : ℕ) → in_task o (task_in d e t) ≡ 0) → MayPush e t
pushes_nothing e t none = record { at = λ d o held. absurd (omega (arith, held, none d o)) }

-- a task that holds one object
pub pushes_one : (e : Engine) (t : code.Task) (id : ℕ) → ((d : Definition) (o : ℕ) → in_task o (task_in d e t) ≡ same o id) → MayBeHeld e id → MayPush e t
pushes_one e t id one may = record {
  at = λ d o held.
      let here : id ≡ o = same_is o id (omega (arith, held, one d o)) in
      subst (MayBeHeld e) here may;
}

-- a task whose objects live
pub pushes_living : (d : Definition) (e : Engine) (t : code.Task) → IsCounted d e → ((d : Definition) (o : ℕ) → 0 < in_task o (task_in d e t) → IsSome (living e.world.table.objects o)) → MayPush e t
pushes_living d e t counted lives = record { at = λ d' o held. record { d = d; counted = counted; lives = lives d' o held } }
