-- What instructions on properties come to, by what they find.
use Rattle.std.proofs.Common.{◌≡◌, ◌∙◌, refl, ap, ℕ, Bool, true, false, not, cond, List, [], ◌∷◌, Option, None, Some, Ok, Err}
use Rattle.ui_machine.specs.declared.arm.Arm.{Arm}
use Rattle.ui_machine.specs.declared.arm.Arm.TheVariants as arms
use Rattle.ui_machine.specs.Definition.{Definition}
use Rattle.ui_machine.specs.Definition.Lookups.{slot_of}
use Rattle.ui_machine.specs.Definition.Properties.{Spec, is_construct_only, is_readable, is_writable}
use Rattle.ui_machine.specs.Definition.Values.{Value}
use Rattle.ui_machine.specs.Instructions.Properties.{set_property, get_property, set_from, slot_at, notify_from_program, then_goes_on}
use Rattle.ui_machine.specs.Instructions.Registers.{gives, goes_on, operand_in, value_in}
use Rattle.ui_machine.specs.Outcome.{Answer, known, only_if, ◌>>=◌}
use Rattle.ui_machine.specs.Rules.Sets.{if_settable, raising, spec_at}
use Rattle.ui_machine.specs.State.Config.{Started, World}
use Rattle.ui_machine.specs.State.Objects.{Object, asked, living, value_at}
use Rattle.ui_machine.specs.State.Tasks.{Frame, Setting}
use Rattle.engine_instructions.specs.PropertyView.{readable_value, settable_slot}
use Rattle.engine_world.specs.Able.{Able}
use Rattle.engine_world.proofs.Ableness.{able_as, first, no_arm, past}
use Rattle.engine_world.proofs.Forwarded.{settable_then}

-- ** slots by name

module _ (d : Definition) (w : World) (id : ℕ) (name : List ℕ) where
  by_class : (r : Answer ℕ) → asked w.objects id (λ o. Ok o.class) ≡ r → slot_at d w id name ≡ (r >>= λ class. known arms.Code (slot_of d class name))
  unfolding asked slot_at
  by_class r h = by (living w.objects id) ∙ ap (λ (a : Answer ℕ). a >>= λ class. known arms.Code (slot_of d class name)) h
    where
      by : (o : Option Object) → (known arms.Operand o >>= λ x. known arms.Code (slot_of d x.class name)) ≡ ((known arms.Operand o >>= λ x. Ok x.class) >>= λ class. known arms.Code (slot_of d class name))
      by None = refl
      by (Some x) = refl

  pub no_class_at : (arm : Arm) → asked w.objects id (λ o. Ok o.class) ≡ Err arm → slot_at d w id name ≡ Err arm
  no_class_at arm h = by_class (Err arm) h

  pub slot_by : (class : ℕ) (slot : Option ℕ) → asked w.objects id (λ o. Ok o.class) ≡ Ok class → slot_of d class name ≡ slot → slot_at d w id name ≡ known arms.Code slot
  slot_by class slot h is = by_class (Ok class) h ∙ ap (λ (o : Option ℕ). known arms.Code o) is

  -- ** values that are read

  -- what is done with the value
  pub read_then : {X : Type 0} (k : Value → Answer X)
      → (slot_at d w id name >>= λ slot. spec_at d w.objects id slot >>= λ s. asked w.objects id (value_at slot) >>= λ v. only_if (is_readable s) arms.Flags (k v))
      ≡ (readable_value d w id name >>= k)
  read_then {X} k = by (slot_at d w id name)
    where
      may : (b : Bool) (v : Value) → only_if b arms.Flags (k v) ≡ (only_if b arms.Flags (Ok v) >>= k)
      may true v = refl
      may false v = refl

      of_value : (s : Spec) (found : Answer Value) → (found >>= λ v. only_if (is_readable s) arms.Flags (k v)) ≡ ((found >>= λ v. only_if (is_readable s) arms.Flags (Ok v)) >>= k)
      of_value s (Err arm) = refl
      of_value s (Ok v) = may (is_readable s) v

      of_spec : (slot : ℕ) (found : Answer Spec)
          → (found >>= λ s. asked w.objects id (value_at slot) >>= λ v. only_if (is_readable s) arms.Flags (k v))
          ≡ ((found >>= λ s. asked w.objects id (value_at slot) >>= λ v. only_if (is_readable s) arms.Flags (Ok v)) >>= k)
      of_spec slot (Err arm) = refl
      of_spec slot (Ok s) = of_value s (asked w.objects id (value_at slot))

      by : (found : Answer ℕ)
          → (found >>= λ slot. spec_at d w.objects id slot >>= λ s. asked w.objects id (value_at slot) >>= λ v. only_if (is_readable s) arms.Flags (k v))
          ≡ ((found >>= λ slot. spec_at d w.objects id slot >>= λ s. asked w.objects id (value_at slot) >>= λ v. only_if (is_readable s) arms.Flags (Ok v)) >>= k)
      by (Err arm) = refl
      by (Ok slot) = of_spec slot (spec_at d w.objects id slot)

-- ** values that may be read

module _ (d : Definition) (w : World) (id : ℕ) (name : List ℕ) where
  abbrev value_of_slot : ℕ → Answer Value
  value_of_slot slot = spec_at d w.objects id slot >>= λ s. asked w.objects id (value_at slot) >>= λ v. only_if (is_readable s) arms.Flags (Ok v)

  -- its slot is there
  pub reads_slot : Able (readable_value d w id name) → Able (slot_at d w id name)
  reads_slot able = first (slot_at d w id name) value_of_slot able

  module _ (slot : ℕ) (is : slot_at d w id name ≡ Ok slot) where
    able_there : Able (readable_value d w id name) → Able (value_of_slot slot)
    able_there able = past (slot_at d w id name) value_of_slot slot is able

    by_spec : (found : Answer Spec) (v : Answer Value) → Able (found >>= λ s. v >>= λ x. only_if (is_readable s) arms.Flags (Ok x)) → Able v
    by_spec (Err arm) v able = absurd able
    by_spec (Ok s) v able = first v (λ x. only_if (is_readable s) arms.Flags (Ok x)) able

    -- and so is its value
    pub reads_none : (arm : Arm) → asked w.objects id (value_at slot) ≡ Err arm → Able (readable_value d w id name) → ⊥
    reads_none arm none able = no_arm (asked w.objects id (value_at slot)) arm (by_spec (spec_at d w.objects id slot) (asked w.objects id (value_at slot)) (able_there able)) none

    -- which is read
    pub reads_at : (v : Value) → asked w.objects id (value_at slot) ≡ Ok v → Able (readable_value d w id name) → readable_value d w id name ≡ Ok v
    reads_at v found able = ap (λ (a : Answer ℕ). a >>= value_of_slot) is ∙ by (spec_at d w.objects id slot) (able_there able)
      where
        of : (s : Spec) (b : Bool) → is_readable s ≡ b → Able (asked w.objects id (value_at slot) >>= λ x. only_if b arms.Flags (Ok x))
            → (asked w.objects id (value_at slot) >>= λ x. only_if b arms.Flags (Ok x)) ≡ Ok v
        of s true readable may = ap (λ (a : Answer Value). a >>= λ x. Ok x) found
        of s false readable may = absurd (past (asked w.objects id (value_at slot)) (λ x. only_if false arms.Flags (Ok x)) v found may)

        by : (found : Answer Spec) → Able (found >>= λ s. asked w.objects id (value_at slot) >>= λ x. only_if (is_readable s) arms.Flags (Ok x))
            → (found >>= λ s. asked w.objects id (value_at slot) >>= λ x. only_if (is_readable s) arms.Flags (Ok x)) ≡ Ok v
        by (Err arm) may = absurd may
        by (Ok s) may = of s (is_readable s) refl may

-- ** `get`

module _ (d : Definition) (w : World) (f : Frame) (to object : ℕ) (name : List ℕ) where
  abbrev gets_of : ℕ → Answer Started
  gets_of id = slot_at d w id name >>= λ slot. spec_at d w.objects id slot >>= λ s. asked w.objects id (value_at slot) >>= λ v. only_if (is_readable s) arms.Flags (gives w to v f)

  -- its object is there
  pub get_operand : Able (get_property d w f to object name) → Able (operand_in w f object)
  unfolding get_property
  get_operand able = first (operand_in w f object) gets_of able

  module _ (id : ℕ) (is : operand_in w f object ≡ Ok id) where
    gets_by : get_property d w f to object name ≡ (readable_value d w id name >>= λ v. gives w to v f)
    unfolding get_property
    gets_by = ap (λ (a : Answer ℕ). a >>= gets_of) is ∙ read_then d w id name (λ v. gives w to v f)

    -- and its value
    pub get_readable : Able (get_property d w f to object name) → Able (readable_value d w id name)
    get_readable able = first (readable_value d w id name) (λ v. gives w to v f) (able_as gets_by able)

    pub gets : (v : Value) → readable_value d w id name ≡ Ok v → get_property d w f to object name ≡ gives w to v f
    gets v read = gets_by ∙ ap (λ (a : Answer Value). a >>= λ v. gives w to v f) read

-- ** slots that may be set

module _ (d : Definition) (w : World) (id : ℕ) (name : List ℕ) where
  abbrev settable_of : ℕ → Answer ℕ
  settable_of slot = spec_at d w.objects id slot >>= λ s. if_settable s (Ok slot)

  pub settable_named : Able (settable_slot d w id name) → Able (slot_at d w id name)
  settable_named able = first (slot_at d w id name) settable_of able

  -- it is the one of the name
  pub settable_is : (slot : ℕ) → slot_at d w id name ≡ Ok slot → Able (settable_slot d w id name) → settable_slot d w id name ≡ Ok slot
  settable_is slot is able = ap (λ (a : Answer ℕ). a >>= settable_of) is ∙ by (spec_at d w.objects id slot) (past (slot_at d w id name) settable_of slot is able)
    where
      of : (writable construct : Bool) → Able (only_if writable arms.Flags (only_if (not construct) arms.ConstructOnly (Ok slot))) → only_if writable arms.Flags (only_if (not construct) arms.ConstructOnly (Ok slot)) ≡ Ok slot
      of true false may = refl
      of true true may = absurd may
      of false construct may = absurd may

      by : (found : Answer Spec) → Able (found >>= λ s. if_settable s (Ok slot)) → (found >>= λ s. if_settable s (Ok slot)) ≡ Ok slot
      by (Err arm) may = absurd may
      by (Ok s) may = of (is_writable s) (is_construct_only s) may

-- ** `set`

module _ (d : Definition) (w : World) (f : Frame) (object : ℕ) (name : List ℕ) (from : ℕ) where
  abbrev sets_of : ℕ → Answer Started
  sets_of id = slot_at d w id name >>= λ slot. spec_at d w.objects id slot >>= λ s. if_settable s (set_from w f id slot from)

  -- its object is there
  pub set_operand : Able (set_property d w f object name from) → Able (operand_in w f object)
  unfolding set_property
  set_operand able = first (operand_in w f object) sets_of able

  module _ (id : ℕ) (is : operand_in w f object ≡ Ok id) where
    sets_by : set_property d w f object name from ≡ (settable_slot d w id name >>= λ slot. set_from w f id slot from)
    unfolding set_property
    sets_by =
        ap (λ (a : Answer ℕ). a >>= sets_of) is
        ∙ settable_then (slot_at d w id name) (λ slot. spec_at d w.objects id slot) (λ slot. set_from w f id slot from)

    -- and its slot
    pub set_slot : Able (set_property d w f object name from) → Able (settable_slot d w id name)
    set_slot able = first (settable_slot d w id name) (λ slot. set_from w f id slot from) (able_as sets_by able)

    module _ (slot : ℕ) (found : settable_slot d w id name ≡ Ok slot) where
      sets_value : set_property d w f object name from ≡ (value_in f from >>= λ v. goes_on w (Setting id slot v ∷ []) f)
      unfolding set_from
      sets_value = sets_by ∙ ap (λ (a : Answer ℕ). a >>= λ slot. set_from w f id slot from) found

      -- and the value
      pub set_value : Able (set_property d w f object name from) → Able (value_in f from)
      set_value able = first (value_in f from) (λ v. goes_on w (Setting id slot v ∷ []) f) (able_as sets_value able)

      pub sets : (v : Value) → value_in f from ≡ Ok v → set_property d w f object name from ≡ goes_on w (Setting id slot v ∷ []) f
      sets v read = sets_value ∙ ap (λ (a : Answer Value). a >>= λ v. goes_on w (Setting id slot v ∷ []) f) read

-- ** `notify`

module _ (d : Definition) (w : World) (f : Frame) (object : ℕ) (name : List ℕ) where
  abbrev tells_slot : ℕ → ℕ → Answer Started
  tells_slot id slot = spec_at d w.objects id slot >>= λ s. cond (is_readable s) (then_goes_on f (raising w id slot)) (goes_on w [] f)

  -- its object is there
  pub tell_operand : Able (notify_from_program d w f object name) → Able (operand_in w f object)
  unfolding notify_from_program
  tell_operand able = first (operand_in w f object) (λ id. slot_at d w id name >>= tells_slot id) able

  module _ (id : ℕ) (is : operand_in w f object ≡ Ok id) where
    tells_by : notify_from_program d w f object name ≡ (slot_at d w id name >>= tells_slot id)
    unfolding notify_from_program
    tells_by = ap (λ (a : Answer ℕ). a >>= λ id. slot_at d w id name >>= tells_slot id) is

    -- and its slot
    pub tell_slot : Able (notify_from_program d w f object name) → Able (slot_at d w id name)
    tell_slot able = first (slot_at d w id name) (tells_slot id) (able_as tells_by able)

    module _ (slot : ℕ) (found : slot_at d w id name ≡ Ok slot) where
      tells_at : notify_from_program d w f object name ≡ tells_slot id slot
      tells_at = tells_by ∙ ap (λ (a : Answer ℕ). a >>= tells_slot id) found

      pub tell_no_spec : (arm : Arm) → spec_at d w.objects id slot ≡ Err arm → notify_from_program d w f object name ≡ Err arm
      tell_no_spec arm none = tells_at ∙ ap (λ (a : Answer Spec). a >>= λ s. cond (is_readable s) (then_goes_on f (raising w id slot)) (goes_on w [] f)) none

      module _ (s : Spec) (of : spec_at d w.objects id slot ≡ Ok s) where
        tells_if : (b : Bool) → is_readable s ≡ b → notify_from_program d w f object name ≡ cond b (then_goes_on f (raising w id slot)) (goes_on w [] f)
        tells_if b readable =
            tells_at ∙ ap (λ (a : Answer Spec). a >>= λ s. cond (is_readable s) (then_goes_on f (raising w id slot)) (goes_on w [] f)) of
            ∙ ap (λ c. cond c (then_goes_on f (raising w id slot)) (goes_on w [] f)) readable

        pub tells : is_readable s ≡ true → notify_from_program d w f object name ≡ then_goes_on f (raising w id slot)
        tells readable = tells_if true readable

        pub tells_nothing : is_readable s ≡ false → notify_from_program d w f object name ≡ goes_on w [] f
        tells_nothing unreadable = tells_if false unreadable
