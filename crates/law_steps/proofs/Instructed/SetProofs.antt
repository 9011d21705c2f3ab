-- A program sets a property: the set is due at once.
use Rattle.std.proofs.Common.{◌≡◌, refl, sym, ap, subst, ◌∙◌, ℕ, suc, ◌≤◌, Bool, true, false, cond, List, [], ◌∷◌, None, Some, Ok, arith}
use Rattle.std.specs.Prelude.{not, nat_eq, option_map}
use Rattle.std.proofs.lemmas.Bool.{eqb-true, eqb-false}
use Rattle.ui_machine.specs.declared.arm.Arm.TheVariants as arms
use Rattle.ui_machine.specs.Seq.{read}
use Rattle.ui_machine.specs.Definition.Kinds as kinds
use Rattle.ui_machine.specs.Definition.Places.{Place}
use Rattle.ui_machine.specs.Definition.Properties.{Spec, is_writable, is_construct_only}
use Rattle.ui_machine.specs.Definition.Values.{Value}
use Rattle.ui_machine.specs.Definition.{Definition}
use Rattle.ui_machine.specs.Definition.Lookups.{slot_of}
use Rattle.ui_machine.specs.Definition.Programs as words
use Rattle.ui_machine.specs.State.Objects.{Object, Objects}
use Rattle.ui_machine.specs.State.References.{unheld_from, next_unheld, mentions}
use Rattle.ui_machine.specs.State.Tasks.{Frame, Task, Setting, Running}
use Rattle.ui_machine.specs.State.Config.{World}
use Rattle.ui_machine.specs.Outcome.{known}
use Rattle.ui_machine.specs.Rules.Sets.{spec_at}
use Rattle.ui_machine.specs.Instructions.{in_front}
use Rattle.ui_machine.specs.Instructions.Registers.{operand_in, value_in, goes_on}
use Rattle.ui_machine.specs.Instructions.Properties.{slot_at, set_from, set_property}
use Rattle.ui_machine.specs.Instructions.Jumps.{past}
use Rattle.law_typing.specs.Rules.Answers as rules
use Rattle.law_typing.specs.Rules.RegisterKinds.{Kinds, kind_in, class_at, fits}
use Rattle.law_typing.specs.Rules.Typing as typing
use Rattle.law_typing.specs.Rules.Typing.{after, property_of, fitting, changing_none}
use Rattle.law_typing.specs.Graph.{graph, start_of}
use Rattle.law_typing.specs.Graph.Channels.{property, spec_if}
use Rattle.law_typing.specs.Graph.Costs.{start_cost}
use Rattle.law_typing.specs.Graph.Depths.{start_depth, depth}
use Rattle.law_typing.specs.Laws.WellRead.{is_set}
use Rattle.law_typing.specs.Good.Standing.{standing, holds}
use Rattle.law_static.proofs.FitsProofs.{holds_kind, holds_live, holds_set}
use Rattle.law_static.proofs.StartProofs.{starts_reach, due_within}
use Rattle.law_static.proofs.SubclassProofs.{specs_inherit}
use Rattle.law_steps.specs.Instructed.Running.{at_top, taking}
use Rattle.law_steps.proofs.Instructed.Passes.{turned}
use Rattle.law_typing.specs.Laws.StepsKeepGood.{Fine}
use Rattle.ui_machine.specs.Steps.{counted_left}
use Rattle.law_steps.specs.Instructed.Setting.{SetsAreFine}
use Rattle.law_steps.proofs.Instructed.Around.{Due, r, taken, StepIsFine}
use Rattle.law_steps.proofs.Instructed.Inverse.{bound, only, passing_is}
use Rattle.law_steps.proofs.Instructed.Typed.{Found, property_is, changing_none_is}
use Rattle.law_steps.proofs.Instructed.Operand.{Named, named}
use Rattle.law_steps.proofs.Instructed.ReadProofs.{slot_is, spec_is}
use Rattle.law_steps.proofs.Instructed.Started.{waiting, sends_fine}

-- ** where more is mentioned no more is unheld

pub held_from : (m more : ℕ → ℕ) → ((o : ℕ) → m o ≤ more o) → (i : ℕ) (os : Objects) → unheld_from m i os ≡ None → unheld_from more i os ≡ None
held_from m more less i [] e = refl
held_from m more less i (None ∷ os) e = held_from m more less (suc i) os e
held_from m more less i (Some o ∷ os) e = go (λ e. held_from m more less (suc i) os e) (nat_eq (m i) 0) (nat_eq (more i) 0) refl refl e
  where
    go : (unheld_from m (suc i) os ≡ None → unheld_from more (suc i) os ≡ None) → (a b : Bool) → nat_eq (m i) 0 ≡ a → nat_eq (more i) 0 ≡ b → cond a (Some i) (unheld_from m (suc i) os) ≡ None → cond b (Some i) (unheld_from more (suc i) os) ≡ None
    go later true b s t e = absurd (cc)
    go later false false s t e = later e
    go later false true s t e = absurd (eqb-false (m i) 0 s (let z = eqb-true (more i) 0 t in let l = less i in omega (arith, z, l)))

-- ** what typing says

pub record Assigns (d : Definition) (ks : Kinds) (object : ℕ) (name : List ℕ) (from : ℕ) (next : Kinds) : Type 0 where
  pub spec : Spec
  pub found : Found d ks object name spec
  pub writable : is_writable spec ≡ true
  pub not_construct_only : not (is_construct_only spec) ≡ true
  pub set : is_set (kind_in ks from) ≡ true
  pub fit : fits d (kind_in ks from) (kinds.plain spec.kind) ≡ true
  pub kinds_are : next ≡ ks

assigning_is : (d : Definition) (ks : Kinds) (object : ℕ) (name : List ℕ) (from : ℕ) (next : Kinds) → typing.set_property d ks object name from ≡ Ok next → Assigns d ks object name from next
unfolding typing.set_property
assigning_is d ks object name from next e =
    let x = bound (property_of d ks object name) _ next e in
    let p = only (is_writable x.0) rules.flags _ next x.2 in
    let q = only (not (is_construct_only x.0)) rules.construct_only (changing_none ks (fitting d ks from x.0.kind)) next p.1 in
    let c = changing_none_is ks (fitting d ks from x.0.kind) next q.1 in
    let k = passing_is ks from (λ k. fits d k (kinds.plain x.0.kind)) c.0 c.1 in
    record {
      spec = x.0;
      found = property_is d ks object name x.0 x.1;
      writable = p.0;
      not_construct_only = q.0;
      set = k.1;
      fit = k.2;
      kinds_are = c.2;
    }

-- ** the step

set_starts : (d : Definition) (w : World) (rest : List Task) (f : Frame) (object : ℕ) (name : List ℕ) (from id slot : ℕ) (s : Spec) (v : Value) → operand_in w f object ≡ Ok id →
    slot_at d w id name ≡ Ok slot → spec_at d w.objects id slot ≡ Ok s → is_writable s ≡ true → not (is_construct_only s) ≡ true → value_in f from ≡ Ok v →
    in_front rest (set_property d w f object name from) ≡ in_front rest (goes_on w (Setting id slot v ∷ []) f)
unfolding set_property set_from
set_starts d w rest f object name from id slot s v a b c writable free value = rw (a, b, c, writable, free, value) refl

module _ {d : Definition} (object : ℕ) (name : List ℕ) (from : ℕ) (t : Due d (words.set object name from)) where
  open t use {a, w, f, rest, n, g}

  set_of : next_unheld (mentions d (at_top w f rest n)) w.objects ≡ None → (k : Assigns d (r t).ks object name from (after d (r t).p (r t).ks (words.set object name from))) →
      Named t object k.found.class → StepIsFine t
  set_of held k o =
      let s = standing w.objects in
      let own = specs_inherit d t.well.types o.o.class k.found.class k.found.slot name k.spec o.known o.of_class k.found.is k.found.has in
      let v = holds_set d s (kind_in (r t).ks from) (read None f.registers from) k.set ((r t).fit from) in
      let value = subst (λ o. holds d s (kind_in (r t).ks from) o ≡ true) v.1 ((r t).fit from) in
      let kind = holds_kind d t.well.types s (kind_in (r t).ks from) k.spec.kind v.0 k.fit value in
      let at : s o.id ≡ Some o.o.place = ap (option_map (λ (o : Object). o.place)) o.lives in
      let class : class_at d o.o.place ≡ Some o.o.class = ap (option_map (λ (p : Place). p.class)) o.good.is ∙ ap (λ (c : ℕ). Some c) (sym o.good.class) in
      let reach = starts_reach d a (λ class. slot_of d class name) property (r t).ks object o.o.place o.o.class own.0 o.covered class own.1 in
      let due = due_within d a (Running (waiting t refl f.into) ∷ rest) o.o.place own.0 in
      let task = Setting o.id own.0 v.0 in
      sends_fine t refl (Setting o.id own.0 v.0) (start_cost (graph d) a.weighed.costs (start_of d (r t).ks (words.set object name from)))
      (start_depth a.weighed.depths (start_of d (r t).ks (words.set object name from)))
      (record {
        started = refl;
        more = refl;
        good = (
          tt,
          record {
            due = record {
              place = o.o.place;
              is = at;
              spec = k.spec;
              has = ap (spec_if d own.0) class ∙ own.2;
              cheap = (let node = due.0 in let most = reach.0 in omega (arith, node, most));
              shallow = (let deep = due.1 in let most = reach.1 in omega (arith, deep, most));
            };
            kind = kind.1;
            lives = holds_live d s (kind_in (r t).ks from) v.0 value;
          },
        );
        cheap = omega arith;
        shallow = omega arith;
        none_down = refl;
        kinds_are = k.kinds_are;
        held = λ some. held_from (mentions d (at_top w f rest n)) _ (λ o. omega arith) 1 w.objects held;
      })
      (set_starts d w rest (past f) object name from o.id own.0 k.spec v.0 o.asked (slot_is d w o.id own.0 o.o name o.lives own.1) (spec_is d w o.id own.0 o.o k.spec o.lives own.2)
      k.writable k.not_construct_only (ap (known arms.Register) v.1))

  set_fine : next_unheld (mentions d (at_top w f rest n)) w.objects ≡ None → StepIsFine t
  set_fine held = let k = assigning_is d (r t).ks object name from _ (taken t).typed in set_of held k (named t object k.found.class k.found.operand)

pub sets_are_fine : SetsAreFine
sets_are_fine object name from d well a most_counted within w f rest n g is held =
    let x = turned d well a most_counted w f rest n g in
    subst (λ answer. Fine d a.weighed.costs a.weighed.depths most_counted (depth (graph d) a.weighed.depths) (counted_left n answer)) x.same
    (set_fine object name from
    (record { well = well; a = a; most_counted = most_counted; w = w; f = taking d f; rest = rest; n = n; g = x.good; is = x.code ∙ is; settled = x.settled }) (x.held held) within)
