-- Jumps.
use Rattle.std.proofs.Common.{◌≡◌, inl, inr, ◌⊎◌, refl, sym, ap, subst, ◌∙◌, ℕ, suc, Bool, true, false, cond, List, Option, None, Some, Ok, slice_get}
use Rattle.std.specs.Prelude.{nat_eq}
use Rattle.std.proofs.lemmas.Bool.{eqb-true, eqb-false}
use Rattle.ui_machine.specs.Seq.{read, write}
use Rattle.ui_machine.specs.Definition.Kinds.{RegisterKind}
use Rattle.ui_machine.specs.Definition.Kinds as kinds
use Rattle.ui_machine.specs.Definition.Values.{Value}
use Rattle.ui_machine.specs.Definition.Values as values
use Rattle.ui_machine.specs.Definition.{Definition}
use Rattle.ui_machine.specs.Definition.Lookups.{program_at}
use Rattle.ui_machine.specs.Definition.Programs.{Block, Program, Instruction, passes_in}
use Rattle.ui_machine.specs.Definition.Programs as words
use Rattle.ui_machine.specs.State.Tasks.{Registers, Frame, Task}
use Rattle.ui_machine.specs.State.Config.{World}
use Rattle.ui_machine.specs.Rules.Transform.{is_one}
use Rattle.ui_machine.specs.Instructions.{in_front, instruction_step}
use Rattle.ui_machine.specs.Instructions.Registers.{truth_in}
use Rattle.ui_machine.specs.Instructions.Jumps.{jumping, branching, branching_null, null_of, past}
use Rattle.ui_machine.specs.Steps.{left}
use Rattle.law_typing.specs.Rules.RegisterKinds.{Kinds, kind_in, class_at, holds_objects, never_null}
use Rattle.law_typing.specs.Rules.Typing.{is_text, may_be_null}
use Rattle.law_typing.specs.Graph.{number_for, next_of}
use Rattle.law_typing.specs.Laws.{IsIn}
use Rattle.law_typing.specs.Laws.WellRead.{ends}
use Rattle.law_typing.specs.Good.Standing.{Standing, standing, holds, covers_if, RegistersFit}
use Rattle.law_typing.proofs.Lists.{either_part}
use Rattle.law_steps.proofs.Kept.WriteProofs.{read_here, read_apart}
use Rattle.law_steps.specs.Instructed.Running.{at_top}
use Rattle.law_steps.specs.Instructed.Jumps.{JumpsAreFine}
use Rattle.law_steps.proofs.Instructed.Passes.{fit_entry}
use Rattle.law_steps.proofs.Instructed.Around.{Due, r, taken, fine_where, waits_not, StepIsFine, fine_of}
use Rattle.law_steps.proofs.Instructed.Inverse.{truth_at, text_at, object_at}
use Rattle.law_steps.proofs.Instructed.Typed.{Enters, entering_is, branching_is, branching_null_is, with_kind}
use Rattle.law_steps.proofs.Instructed.Landing.{lands, landed}

-- ** what the machine does

jump_leads : (d : Definition) (w : World) (rest : List Task) (f : Frame) (n to : ℕ) (p : Program) (b : Block) → program_at d f.program ≡ Some p → slice_get p.blocks to ≡ Some b →
    left n (in_front rest (jumping d w f to)) ≡ Ok (at_top w (record f { block = to; at = 0; passes = passes_in b }) rest n)
unfolding jumping in_front left
jump_leads d w rest f n to p b is has = rw (is, has) refl

branch_leads : (d : Definition) (w : World) (rest : List Task) (f : Frame) (on then_to else_to : ℕ) (b : Bool) → truth_in f on ≡ Ok b →
    in_front rest (branching d w f on then_to else_to) ≡ in_front rest (jumping d w f (cond b then_to else_to))
unfolding branching
branch_leads d w rest f on then_to else_to b e = rw e refl

null_leads : (d : Definition) (w : World) (rest : List Task) (f : Frame) (on then_to else_to : ℕ) (v : Value) (b : Bool) → read None f.registers on ≡ Some v → null_of v ≡ Ok b →
    in_front rest (branching_null d w f on then_to else_to) ≡ in_front rest (jumping d w f (cond b then_to else_to))
unfolding branching_null
null_leads d w rest f on then_to else_to v b e is = rw (e, is) refl

truth_is : (f : Frame) (a : ℕ) (b : Bool) → read None f.registers a ≡ Some (values.bool b) → truth_in f a ≡ Ok b
unfolding truth_in
truth_is f a b e = rw e refl

-- ** what is not null

module _ (d : Definition) (s : Standing) where
  -- an object that is there
  some_class : (type id : ℕ) (o : Option ℕ) → is_one d.types type (number_for (class_at d) o) ≡ true → covers_if d (kinds.some type) o ≡ true
  some_class type id None h = absurd (cc)
  some_class type id (Some place) h = h

  object_stays : (k : RegisterKind) (id : ℕ) → holds d s k (Some (values.object (Some id))) ≡ true → holds d s (never_null k) (Some (values.object (Some id))) ≡ true
  object_stays kinds.unset id h = h
  object_stays (kinds.plain kinds.bool) id h = h
  object_stays (kinds.plain (kinds.whole k)) id h = h
  object_stays (kinds.plain kinds.text) id h = h
  object_stays (kinds.plain (kinds.enum t)) id h = h
  object_stays (kinds.plain (kinds.flags t)) id h = h
  object_stays (kinds.plain (kinds.object type)) id h = some_class type id (s id) h
  object_stays (kinds.some type) id h = h
  object_stays (kinds.at place) id h = h
  object_stays (kinds.at_or_null place) id h = h

  text_stays : (k : RegisterKind) (t : List ℕ) → holds d s k (Some (values.text (Some t))) ≡ true → holds d s (never_null k) (Some (values.text (Some t))) ≡ true
  text_stays kinds.unset t h = h
  text_stays (kinds.plain kinds.text) t h = h
  text_stays _ t h = absurd (cc)

  -- whether a register that may be null is; and then that it is not
  record Null (k : RegisterKind) (o : Option Value) : Type 0 where
    pub v : Value
    pub is : o ≡ Some v
    pub null : Bool
    pub tells : null_of v ≡ Ok null
    pub not : null ≡ false → holds d s (never_null k) o ≡ true

  null_text : (k : RegisterKind) (t : Option (List ℕ)) → holds d s k (Some (values.text t)) ≡ true → Null k (Some (values.text t))
  null_text k None h = record { v = values.text None; is = refl; null = true; tells = refl; not = λ e. absurd (cc) }
  null_text k (Some t) h = record { v = values.text (Some t); is = refl; null = false; tells = refl; not = λ e. text_stays k t h }

  null_object : (k : RegisterKind) (o : Option ℕ) → holds d s k (Some (values.object o)) ≡ true → Null k (Some (values.object o))
  null_object k None h = record { v = values.object None; is = refl; null = true; tells = refl; not = λ e. absurd (cc) }
  null_object k (Some id) h = record { v = values.object (Some id); is = refl; null = false; tells = refl; not = λ e. object_stays k id h }

  null_at : (k : RegisterKind) (o : Option Value) → may_be_null d k ≡ true → holds d s k o ≡ true → Null k o
  null_at k o e h = go (either_part (is_text k) (holds_objects d k) e)
    where
      some : (o : Option Value) → holds_objects d k ≡ true → holds d s k o ≡ true → Null k o
      some None e h = absurd (none k e h)
        where
          none : (k : RegisterKind) → holds_objects d k ≡ true → holds d s k None ≡ true → ⊥
          none kinds.unset e h = cc
          none (kinds.plain kind) e h = cc
          none (kinds.some t) e h = cc
          none (kinds.at p) e h = cc
          none (kinds.at_or_null p) e h = cc
      some (Some v) e h =
          let x = object_at d s k v e h in
          subst (λ v. Null k (Some v)) (sym x.1) (null_object k x.0 (subst (λ v. holds d s k (Some v) ≡ true) x.1 h))

      go : (is_text k ≡ true) ⊎ (holds_objects d k ≡ true) → Null k o
      go (inl e) = let x = text_at d s k o e h in subst (Null k) (sym x.1) (null_text k x.0 (subst (λ o. holds d s k o ≡ true) x.1 h))
      go (inr e) = some o e h

  -- registers fit where one's kind says more
  fit_more : (ks : Kinds) (registers : Registers) (on : ℕ) (k : RegisterKind) → RegistersFit d s ks registers → holds d s k (read None registers on) ≡ true →
      RegistersFit d s (with_kind ks on k) registers
  fit_more ks registers on k fit h r = go (nat_eq on r) refl
    where
      go : (b : Bool) → nat_eq on r ≡ b → holds d s (read kinds.unset (write kinds.unset ks on k) r) (read None registers r) ≡ true
      go true e =
          subst (λ r. holds d s (read kinds.unset (write kinds.unset ks on k) r) (read None registers r) ≡ true) (eqb-true on r e)
          (ap (λ k. holds d s k (read None registers on)) (read_here kinds.unset ks on k) ∙ h)
      go false e = ap (λ k. holds d s k (read None registers r)) (read_apart kinds.unset ks on k r (eqb-false on r e)) ∙ fit r

-- ** each is fine

module _ {d : Definition} where
  jump_to : {i : Instruction} (t : Due d i) → ends i ≡ true → (ks : Kinds) (to : ℕ) → Enters d (r t).p ks to → RegistersFit d (standing t.w.objects) ks t.f.registers → IsIn to (next_of i) →
      instruction_step d t.w t.rest (past t.f) i ≡ in_front t.rest (jumping d t.w (past t.f) to) → StepIsFine t
  jump_to t last ks to enters fit next does within =
      fine_where t within (at_top t.w (record (past t.f) { block = to; at = 0; passes = passes_in enters.b }) t.rest (suc t.n))
      (ap (left (suc t.n)) does ∙ jump_leads d t.w t.rest (past t.f) (suc t.n) to (r t).p enters.b (r t).is enters.is)
      (waits_not t t.w (landed t last to enters.b)
      (lands t last to enters.b enters.is (fit_entry d t.well.types (standing t.w.objects) ks enters.b.entry t.f.registers enters.fit fit) next))

  jump_fine : (to : ℕ) (t : Due d (words.jump to)) → StepIsFine t
  jump_fine to t = jump_to t refl (r t).ks to (entering_is d (r t).p (r t).ks to _ (taken t).typed) (r t).fit (inl refl) refl

  branch_fine : (on then_to else_to : ℕ) (t : Due d (words.branch on then_to else_to)) → StepIsFine t
  branch_fine on then_to else_to t =
      let ks = (r t).ks in
      let k = branching_is d (r t).p ks on then_to else_to _ (taken t).typed in
      let b = truth_at d (standing t.w.objects) (kind_in ks on) (read None t.f.registers on) k.0 ((r t).fit on) in
      go k.1 k.2 b.0 (branch_leads d t.w t.rest (past t.f) on then_to else_to b.0 (truth_is (past t.f) on b.0 b.1))
    where
      go : Enters d (r t).p (r t).ks then_to → Enters d (r t).p (r t).ks else_to → (b : Bool) →
          instruction_step d t.w t.rest (past t.f) (words.branch on then_to else_to) ≡ in_front t.rest (jumping d t.w (past t.f) (cond b then_to else_to)) → StepIsFine t
      go first second true does = jump_to t refl (r t).ks then_to first (r t).fit (inl refl) does
      go first second false does = jump_to t refl (r t).ks else_to second (r t).fit (inr (inl refl)) does

  branch_null_fine : (on then_to else_to : ℕ) (t : Due d (words.branch_null on then_to else_to)) → StepIsFine t
  branch_null_fine on then_to else_to t =
      let ks = (r t).ks in
      let k = branching_null_is d (r t).p ks on then_to else_to _ (taken t).typed in
      let v = null_at d (standing t.w.objects) (kind_in ks on) (read None t.f.registers on) k.0 ((r t).fit on) in
      go k.1 k.2 v.null v.not (null_leads d t.w t.rest (past t.f) on then_to else_to v.v v.null v.is v.tells)
    where
      go : Enters d (r t).p (r t).ks then_to → Enters d (r t).p (with_kind (r t).ks on (never_null (kind_in (r t).ks on))) else_to → (null : Bool) →
          (null ≡ false → holds d (standing t.w.objects) (never_null (kind_in (r t).ks on)) (read None t.f.registers on) ≡ true) →
          instruction_step d t.w t.rest (past t.f) (words.branch_null on then_to else_to) ≡ in_front t.rest (jumping d t.w (past t.f) (cond null then_to else_to)) → StepIsFine t
      go first second true not does = jump_to t refl (r t).ks then_to first (r t).fit (inl refl) does
      go first second false not does =
          jump_to t refl (with_kind (r t).ks on (never_null (kind_in (r t).ks on))) else_to second
          (fit_more d (standing t.w.objects) (r t).ks t.f.registers on (never_null (kind_in (r t).ks on)) (r t).fit (not refl)) (inr (inl refl)) does

pub jumps_are_fine : JumpsAreFine
jumps_are_fine (words.jump to) e = fine_of (λ d t. jump_fine to t)
jumps_are_fine (words.branch on then_to else_to) e = fine_of (λ d t. branch_fine on then_to else_to t)
jumps_are_fine (words.branch_null on then_to else_to) e = fine_of (λ d t. branch_null_fine on then_to else_to t)
jumps_are_fine _ e = absurd (cc)
