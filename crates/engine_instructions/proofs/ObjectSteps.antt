-- What instructions on objects come to, by what they find.
use Rattle.std.proofs.Common.{◌≡◌, ◌∙◌, refl, ap, subst, arith, ℕ, zero, suc, map, All, Bool, true, false, not, cond, List, [], ◌∷◌, Option, None, Some, IfSome, IsSome, is_some, Ok, Err}
use Rattle.ui_machine.specs.declared.arm.Arm.{Arm}
use Rattle.ui_machine.specs.declared.arm.Arm.TheVariants as arms
use Rattle.ui_machine.specs.declared.arm.Halt.{Halt}
use Rattle.ui_machine.specs.Definition.{Definition}
use Rattle.ui_machine.specs.Definition.Lookups.{place_at, place_of}
use Rattle.ui_machine.specs.Definition.Places.{Place}
use Rattle.ui_machine.specs.Definition.Values.{Value}
use Rattle.ui_machine.specs.Definition.Values as values
use Rattle.ui_machine.specs.Instructions.Objects.{disposed_once, disposing, freezing, look_up_object, or_null, orphaning, sinking, thaw_notify}
use Rattle.ui_machine.specs.Instructions.Registers.{data_in, gives, goes_on, identity_of, operand_in, value_in, values_in}
use Rattle.ui_machine.specs.Outcome.{After, Answer, Stops, known, only_if, ◌>>=◌}
use Rattle.ui_machine.specs.Rules.Build.{identity_held}
use Rattle.ui_machine.specs.Rules.Children.{orphaned}
use Rattle.ui_machine.specs.Rules.Construction.{object_held}
use Rattle.ui_machine.specs.Rules.Disposal.{disposed}
use Rattle.ui_machine.specs.Rules.NotifyQueue.{frozen_less, frozen_more}
use Rattle.ui_machine.specs.Rules.Sets.{is_disposed}
use Rattle.ui_machine.specs.State.Config.{BuilderEntry, Started, World, built, builder_entry, released, sunk, unbuilt, with_objects}
use Rattle.ui_machine.specs.State.Objects.{Object, Objects, changed, living, object_at}
use Rattle.ui_machine.specs.State.Tasks.{Frame, Registers, Thawing}
use Rattle.ui_machine.specs.Seq.{read}
use Rattle.bytecode.specs.View.{number_of}
use Rattle.bytecode.specs.declared.computations.Register.{Register}
use Rattle.frames.specs.Operand.{identity_in}
use Rattle.instance_tables.specs.Family.{parent_in}
use Rattle.engine_world.specs.Able.{Able}
use Rattle.engine_world.proofs.Ableness.{no_arm}
use Rattle.engine_world.proofs.Emits.{stops_on}

-- ** operands

-- what is found lives
pub operand_lives : (w : World) (f : Frame) (object id : ℕ) → operand_in w f object ≡ Ok id → IsSome (living w.objects id)
unfolding operand_in
operand_lives w f object id is = by_value (value_in f object) is
  where
    by_life : (i : ℕ) (b : Bool) → is_some (living w.objects i) ≡ b → only_if b arms.Operand (Ok i) ≡ Ok id → IsSome (living w.objects id)
    by_life i true live e = let same : i ≡ id = cc e in subst (λ j. IsSome (living w.objects j)) same live
    by_life i false dead e = absurd (cc e)

    by_identity : (found : Answer ℕ) → (found >>= λ i. only_if (is_some (living w.objects i)) arms.Operand (Ok i)) ≡ Ok id → IsSome (living w.objects id)
    by_identity (Err arm) e = absurd (cc e)
    by_identity (Ok i) e = by_life i (is_some (living w.objects i)) refl e

    by_value : (v : Answer Value) → (v >>= λ v. identity_of v >>= λ i. only_if (is_some (living w.objects i)) arms.Operand (Ok i)) ≡ Ok id → IsSome (living w.objects id)
    by_value (Err arm) e = absurd (cc e)
    by_value (Ok v) e = by_identity (identity_of v) e

-- and so does data
pub data_lives : (w : World) (f : Frame) (from arg : Option ℕ) → data_in w f from ≡ Ok arg → IfSome arg (λ id. IsSome (living w.objects id))
unfolding data_in
data_lives w f None arg is = let none : None ≡ arg = cc is in subst (λ (i : Option ℕ). IfSome i (λ id. IsSome (living w.objects id))) none tt
data_lives w f (Some from) arg is = by (operand_in w f from) refl is
  where
    by : (found : Answer ℕ) → operand_in w f from ≡ found → (found >>= λ i. Ok (Some i)) ≡ Ok arg → IfSome arg (λ id. IsSome (living w.objects id))
    by (Err arm) there e = absurd (cc e)
    by (Ok id) there e = let same : Some id ≡ arg = cc e in subst (λ (i : Option ℕ). IfSome i (λ id. IsSome (living w.objects id))) same (operand_lives w f from id there)

-- an operand, by the identity that the register has
pub operand_by : (w : World) (f : Frame) (from : ℕ) (id : Answer ℕ) → identity_in f.registers from ≡ id → operand_in w f from ≡ (id >>= λ i. only_if (is_some (living w.objects i)) arms.Operand (Ok i))
unfolding operand_in
operand_by w f from id is = by (value_in f from) ∙ ap (λ (a : Answer ℕ). a >>= λ i. only_if (is_some (living w.objects i)) arms.Operand (Ok i)) is
  where
    by : (v : Answer Value)
        → (v >>= λ v. identity_of v >>= λ i. only_if (is_some (living w.objects i)) arms.Operand (Ok i))
        ≡ ((v >>= identity_of) >>= λ i. only_if (is_some (living w.objects i)) arms.Operand (Ok i))
    by (Err arm) = refl
    by (Ok v) = refl

-- the registers are set whose values no arm stops
pub all_set : (f : Frame) (from : List Register) (rs : Registers) → f.registers ≡ rs → Able (values_in f (map number_of from)) → All (λ r. IsSome (read None rs (number_of r))) from
unfolding values_in
all_set f [] rs same able k x less = absurd (omega (arith, less))
all_set f (r ∷ from) rs same able zero x less = subst (λ (us : Registers). IsSome (read None us (number_of r))) same (set_first (read None f.registers (number_of r)) able)
  where
    set_first : (o : Option Value) → Able (known arms.Register o >>= λ v. values_in f (map number_of from) >>= λ vs. Ok (v ∷ vs)) → IsSome o
    set_first None may = absurd may
    set_first (Some v) may = refl
all_set f (r ∷ from) rs same able (suc k) x less = all_set f from rs same (set_later (read None f.registers (number_of r)) (values_in f (map number_of from)) able) k x (omega (arith, less))
  where
    set_later : (o : Option Value) (rest : Answer (List Value)) → Able (known arms.Register o >>= λ v. rest >>= λ vs. Ok (v ∷ vs)) → Able rest
    set_later None rest may = absurd may
    set_later (Some v) (Ok vs) may = tt
    set_later (Some v) (Err arm) may = may

-- ** `object`

held_value : (h : BuilderEntry) → or_null (object_held h) ≡ values.object (identity_held h)
held_value unbuilt = refl
held_value (built id) = refl
held_value released = refl

module _ (d : Definition) (w : World) (f : Frame) (to : ℕ) (id : List ℕ) where
  abbrev names_at : ℕ → Place → Answer Started
  names_at place p = only_if (not p.is_prototype) arms.Code (gives w to (or_null (object_held (builder_entry w place))) f)

  pub name_unknown : place_of d id ≡ None → look_up_object d w f to id ≡ Err arms.Code
  unfolding look_up_object
  name_unknown none = ap (λ (o : Option ℕ). known arms.Code o >>= λ place. known arms.Code (place_at d place) >>= names_at place) none

  module _ (place : ℕ) (is : place_of d id ≡ Some place) where
    names_of : (p : Option Place) → place_at d place ≡ p → look_up_object d w f to id ≡ (known arms.Code p >>= names_at place)
    unfolding look_up_object
    names_of p at =
        ap (λ (o : Option ℕ). known arms.Code o >>= λ place. known arms.Code (place_at d place) >>= names_at place) is
        ∙ ap (λ (o : Option Place). known arms.Code o >>= names_at place) at

    pub name_nowhere : place_at d place ≡ None → look_up_object d w f to id ≡ Err arms.Code
    name_nowhere none = names_of None none

    module _ (p : Place) (at : place_at d place ≡ Some p) where
      names_so : (b : Bool) → p.is_prototype ≡ b → look_up_object d w f to id ≡ only_if (not b) arms.Code (gives w to (or_null (object_held (builder_entry w place))) f)
      names_so b so = names_of (Some p) at ∙ ap (λ c. only_if (not c) arms.Code (gives w to (or_null (object_held (builder_entry w place))) f)) so

      pub name_prototype : p.is_prototype ≡ true → look_up_object d w f to id ≡ Err arms.Code
      name_prototype so = names_so true so

      pub names : p.is_prototype ≡ false → look_up_object d w f to id ≡ gives w to (values.object (identity_held (builder_entry w place))) f
      names so = names_so false so ∙ ap (λ (v : Value). gives w to v f) (held_value (builder_entry w place))

    -- it is that of an object where the instruction is not stuck
    pub names_able : Able (look_up_object d w f to id) → look_up_object d w f to id ≡ gives w to (values.object (identity_held (builder_entry w place))) f
    names_able able = by (place_at d place) refl
      where
        of : (p : Place) → place_at d place ≡ Some p → (b : Bool) → p.is_prototype ≡ b → look_up_object d w f to id ≡ gives w to (values.object (identity_held (builder_entry w place))) f
        of p at true so = absurd (no_arm _ _ able (name_prototype p at so))
        of p at false so = names p at so

        by : (p : Option Place) → place_at d place ≡ p → look_up_object d w f to id ≡ gives w to (values.object (identity_held (builder_entry w place))) f
        by None at = absurd (no_arm _ _ able (name_nowhere at))
        by (Some p) at = of p at p.is_prototype refl

-- ** what floats, and freezes

module _ (w : World) (f : Frame) (object : ℕ) where
  pub sink_none : (halt : Halt) → Stops halt (operand_in w f object) → Stops halt (sinking w f object)
  unfolding sinking
  sink_none halt s = stops_on halt (operand_in w f object) (λ id. goes_on (sunk w id) [] f) s

  abbrev freezes_of : ℕ → Answer Started
  freezes_of id = changed w.objects id frozen_more >>= λ (frozen : After Objects (Unit {0})). goes_on (with_objects w frozen.state) [] f

  abbrev thaws_of : ℕ → Answer Started
  thaws_of id = changed w.objects id frozen_less >>= λ (thaw : After Objects (List ℕ)). goes_on (with_objects w thaw.state) (Thawing id thaw.answer ∷ []) f

  pub freeze_none : (halt : Halt) → Stops halt (operand_in w f object) → Stops halt (freezing w f object)
  unfolding freezing
  freeze_none halt s = stops_on halt (operand_in w f object) freezes_of s

  pub thaw_none : (halt : Halt) → Stops halt (operand_in w f object) → Stops halt (thaw_notify w f object)
  unfolding thaw_notify
  thaw_none halt s = stops_on halt (operand_in w f object) thaws_of s

  module _ (id : ℕ) (is : operand_in w f object ≡ Ok id) where
    pub sinks : sinking w f object ≡ goes_on (sunk w id) [] f
    unfolding sinking
    sinks = ap (λ (a : Answer ℕ). a >>= λ id. goes_on (sunk w id) [] f) is

    freezes_by : freezing w f object ≡ freezes_of id
    unfolding freezing
    freezes_by = ap (λ (a : Answer ℕ). a >>= freezes_of) is

    pub freeze_stuck : (arm : Arm) → changed w.objects id frozen_more ≡ Err arm → freezing w f object ≡ Err arm
    freeze_stuck arm stuck = freezes_by ∙ ap (λ (a : Answer (After Objects (Unit {0}))). a >>= λ frozen. goes_on (with_objects w frozen.state) [] f) stuck

    pub freezes : (os : Objects) → changed w.objects id frozen_more ≡ Ok (record { state = os; answer = tt }) → freezing w f object ≡ goes_on (with_objects w os) [] f
    freezes os new = freezes_by ∙ ap (λ (a : Answer (After Objects (Unit {0}))). a >>= λ frozen. goes_on (with_objects w frozen.state) [] f) new

    thaws_by : thaw_notify w f object ≡ thaws_of id
    unfolding thaw_notify
    thaws_by = ap (λ (a : Answer ℕ). a >>= thaws_of) is

    pub thaw_stuck : (arm : Arm) → changed w.objects id frozen_less ≡ Err arm → thaw_notify w f object ≡ Err arm
    thaw_stuck arm stuck = thaws_by ∙ ap (λ (a : Answer (After Objects (List ℕ))). a >>= λ thaw. goes_on (with_objects w thaw.state) (Thawing id thaw.answer ∷ []) f) stuck

    pub thaws : (os : Objects) (slots : List ℕ) → changed w.objects id frozen_less ≡ Ok (record { state = os; answer = slots })
        → thaw_notify w f object ≡ goes_on (with_objects w os) (Thawing id slots ∷ []) f
    thaws os slots new = thaws_by ∙ ap (λ (a : Answer (After Objects (List ℕ))). a >>= λ thaw. goes_on (with_objects w thaw.state) (Thawing id thaw.answer ∷ []) f) new

-- ** `orphan` and `dispose`

module _ (d : Definition) (w : World) (f : Frame) (object : ℕ) where
  abbrev orphans_of : ℕ → Answer Started
  orphans_of id = object_at w.objects id >>= λ (o : Object). goes_on (orphaned d w id o.parent) [] f

  abbrev disposes_of : ℕ → Answer Started
  disposes_of id = disposed_once d w id >>= λ (after : World). goes_on after [] f

  pub orphan_none : (halt : Halt) → Stops halt (operand_in w f object) → Stops halt (orphaning d w f object)
  unfolding orphaning
  orphan_none halt s = stops_on halt (operand_in w f object) orphans_of s

  pub dispose_none : (halt : Halt) → Stops halt (operand_in w f object) → Stops halt (disposing d w f object)
  unfolding disposing
  dispose_none halt s = stops_on halt (operand_in w f object) disposes_of s

  module _ (id : ℕ) (is : operand_in w f object ≡ Ok id) where
    pub orphans : orphaning d w f object ≡ goes_on (orphaned d w id (parent_in (living w.objects id))) [] f
    unfolding orphaning
    orphans = ap (λ (a : Answer ℕ). a >>= orphans_of) is ∙ by (living w.objects id) (operand_lives w f object id is)
      where
        by : (o : Option Object) → IsSome o → (known arms.Operand o >>= λ (x : Object). goes_on (orphaned d w id x.parent) [] f) ≡ goes_on (orphaned d w id (parent_in o)) [] f
        by None none = cc none
        by (Some x) some = refl

    disposes_by : (b : Bool) → is_disposed (living w.objects id) ≡ b → disposing d w f object ≡ (cond b (Ok w) (disposed d w id) >>= λ (after : World). goes_on after [] f)
    unfolding disposing
    disposes_by b so =
        ap (λ (a : Answer ℕ). a >>= disposes_of) is ∙ ap (λ c. cond c (Ok w) (disposed d w id) >>= λ (after : World). goes_on after [] f) so

    pub disposes_nothing : is_disposed (living w.objects id) ≡ true → disposing d w f object ≡ goes_on w [] f
    disposes_nothing so = disposes_by true so

    pub disposes : is_disposed (living w.objects id) ≡ false → (after : World) → disposed d w id ≡ Ok after → disposing d w f object ≡ goes_on after [] f
    disposes not_so after done = disposes_by false not_so ∙ ap (λ (a : Answer World). a >>= λ after. goes_on after [] f) done

    pub dispose_stuck : is_disposed (living w.objects id) ≡ false → (arm : Arm) → disposed d w id ≡ Err arm → disposing d w f object ≡ Err arm
    dispose_stuck not_so arm stuck = disposes_by false not_so ∙ ap (λ (a : Answer World). a >>= λ after. goes_on after [] f) stuck
