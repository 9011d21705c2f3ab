-- What falls still falls where a program sets, notifies or emits.
use Rattle.std.proofs.Common.{◌≡◌, refl, sym, ap, subst, ◌∙◌, ℕ, ◌<◌, Bool, true, false, cond, List, ◌∷◌, Option, Some, Ok, Err, arith}
use Rattle.std.specs.Prelude.{IfOk, nat_eq, nat_lt, not, option_map}
use Rattle.std.proofs.lemmas.Bool.{eqb-true}
use Rattle.ui_machine.specs.declared.arm.Arm.TheVariants as arms
use Rattle.ui_machine.specs.Definition.{Definition}
use Rattle.ui_machine.specs.Definition.Lookups.{slot_of}
use Rattle.ui_machine.specs.Definition.Places.{Place}
use Rattle.ui_machine.specs.Definition.Programs as words
use Rattle.ui_machine.specs.Definition.Programs.{Instruction}
use Rattle.ui_machine.specs.Definition.Properties.{is_construct_only, is_writable}
use Rattle.ui_machine.specs.Definition.Values.{Value}
use Rattle.ui_machine.specs.Instructions.Jumps.{past}
use Rattle.ui_machine.specs.Instructions.Properties.{set_from, set_property, slot_at}
use Rattle.ui_machine.specs.Instructions.Registers.{operand_in, value_in, values_in}
use Rattle.ui_machine.specs.Instructions.Signals.{emitting, signal_in, signal_to_emit}
use Rattle.ui_machine.specs.Outcome.{Answer, known, only_if, ◌>>=◌}
use Rattle.ui_machine.specs.declared.arm.Arm.{Arm}
use Rattle.ui_machine.specs.Rules.Connections.{detail_in, signal_number}
use Rattle.ui_machine.specs.Rules.EmissionPlan.{new_emission}
use Rattle.ui_machine.specs.Rules.Sets.{spec_at}
use Rattle.ui_machine.specs.State.Config.{World}
use Rattle.ui_machine.specs.State.Objects.{Object, living}
use Rattle.ui_machine.specs.State.Tasks.{Beginning, Frame, Running, Setting}
use Rattle.machine_laws.proofs.KeptProofs.{bind_keeps, only_keeps}
use Rattle.law_typing.specs.Good.Standing.{standing}
use Rattle.law_typing.specs.Graph.{over, raises, start_of}
use Rattle.law_typing.specs.Graph.Channels.{Channel, property, signal}
use Rattle.law_typing.specs.Graph.Depths.{start_depth}
use Rattle.law_typing.specs.Graph.Tables.{Tables, entry, of_program}
use Rattle.law_typing.specs.Rules.RegisterKinds.{class_at, kind_in, places}
use Rattle.law_typing.specs.Rules.Typing as typing
use Rattle.law_static.proofs.StartProofs.{starts_reach}
use Rattle.law_steps.specs.Instructed.Running.{at_top}
use Rattle.law_steps.proofs.Instructed.Around.{Due, r, taken}
use Rattle.law_steps.proofs.Instructed.Inverse.{bound}
use Rattle.law_steps.proofs.Instructed.Operand.{Named, named}
use Rattle.law_steps.proofs.Instructed.Typed.{property_is}
use Rattle.law_frames.specs.Frames.{DueFalls, FallsAt, channel_at, channel_of, emission_height, height_if, named_at}
use Rattle.law_frames.proofs.Emissions.{known_is}
use Rattle.law_frames.proofs.Programs.{Led, started_low, starts_one}
use Rattle.law_frames.proofs.Tasks.{Nothing}

-- what a name found in an object's class
pub slot_found : (d : Definition) (w : World) (id slot : ℕ) (name : List ℕ) (o : Object) → living w.objects id ≡ Some o → slot_at d w id name ≡ Ok slot → slot_of d o.class name ≡ Some slot
unfolding slot_at
slot_found d w id slot name o is e = known_is arms.Code (slot_of d o.class name) slot (rw is at e)

-- an answer was found
pub answered : {A B : Type 0} (x : Answer A) (g : A → Answer B) (y : B) → (x >>= g) ≡ Ok y → (z : A) × (x ≡ Ok z) × (g z ≡ Ok y)
answered (Ok z) g y e = (z, refl, e)
answered (Err arm) g y e = absurd (cc e)

pub only_found : {A : Type 0} (b : Bool) (arm : Arm) (x y : A) → only_if b arm (Ok x) ≡ Ok y → x ≡ y
only_found true arm x y e = cc e
only_found false arm x y e = absurd (cc e)

signal_found : (d : Definition) (w : World) (id number : ℕ) (name : List ℕ) (o : Object) → living w.objects id ≡ Some o → signal_to_emit d w id name ≡ Ok number → signal_number d o.class name ≡ Some number
unfolding signal_to_emit signal_in
signal_found d w id number name o is e =
    let x = answered (known arms.Code (signal_number d o.class name)) (λ signal. only_if (nat_lt 0 signal) arms.Code (Ok signal)) number (rw is at e) in
    known_is arms.Code (signal_number d o.class name) x.0 x.1 ∙ ap (λ (n : ℕ). Some n) (only_found (nat_lt 0 x.0) arms.Code x.0 number x.2)

module _ {d : Definition} {i : Instruction} (t : Due d i) (f : FallsAt d t.a.weighed.depths (at_top t.w t.f t.rest t.n)) where
  open t use {w}

  abbrev pub table : Tables
  table = t.a.weighed.depths

  module _ (object class : ℕ) (o : Named t object class) where
    pub stands_there : standing w.objects o.id ≡ Some o.o.place
    stands_there = ap (option_map (λ (o : Object). o.place)) o.lives

    pub class_there : class_at d o.o.place ≡ Some o.o.class
    class_there = ap (option_map (λ (p : Place). p.class)) o.good.is ∙ ap (λ (c : ℕ). Some c) (sym o.good.class)

    -- what is raised at its place needs less than the program
    pub raises_low : (number_in : ℕ → Option ℕ) (channel : ℕ → ℕ → Channel) (number : ℕ) → number_in o.o.class ≡ Some number →
        start_of d (r t).ks i ≡ raises (over d number_in channel (places d (kind_in (r t).ks object))) → entry table.channels (channel o.o.place number) < of_program table t.f.program
    raises_low number_in channel number found is =
        let reach = (starts_reach d t.a number_in channel (r t).ks object o.o.place o.o.class number o.covered class_there found).1 in
        let same = ap (start_depth table) is in
        let low = started_low t f in
        omega (arith, reach, same, low)

    -- the operand is the object
    pub operand_same : (id : ℕ) → operand_in w (past t.f) object ≡ Ok id → o.id ≡ id
    operand_same id e = let f = sym o.asked ∙ e in cc f

module _ {d : Definition} (object : ℕ) (name : List ℕ) (from : ℕ) (t : Due d (words.set object name from)) (f : FallsAt d t.a.weighed.depths (at_top t.w t.f t.rest t.n)) where
  open t use {w}

  set_operand : (class : ℕ) × (typing.operand d (r t).ks object ≡ Ok class)
  unfolding typing.set_property
  set_operand =
      let x = bound (typing.property_of d (r t).ks object name) _ _ (taken t).typed in
      let p = property_is d (r t).ks object name x.0 x.1 in
      (p.class, p.operand)

  due : (id slot : ℕ) → operand_in w (past t.f) object ≡ Ok id → slot_at d w id name ≡ Ok slot → DueFalls d t.a.weighed.depths (standing w.objects) (Running (past t.f) ∷ t.rest) id slot
  due id slot asked found =
      let class = set_operand in
      let o = named t object class.0 class.1 in
      let same = operand_same t f object class.0 o id asked in
      let number = slot_found d w o.id slot name o.o o.lives (subst (λ id. slot_at d w id name ≡ Ok slot) (sym same) found) in
      subst (λ id. DueFalls d t.a.weighed.depths (standing w.objects) (Running (past t.f) ∷ t.rest) id slot) same
      (record {
        place = o.o.place;
        is = stands_there t f object class.0 o;
        under = raises_low t f object class.0 o (λ class. slot_of d class name) property slot number refl;
        apart = tt;
      })

  pub sets : IfOk (set_property d w (past t.f) object name from) (Led t f Nothing)
  unfolding set_property set_from
  sets = bind_keeps (operand_in w (past t.f) object) _ (Led t f Nothing) (λ id asked. bind_keeps (slot_at d w id name) _ (Led t f Nothing) (λ slot found.
      bind_keeps (spec_at d w.objects id slot) _ (Led t f Nothing) (λ s _. only_keeps (is_writable s) arms.Flags _ (Led t f Nothing) (only_keeps (not (is_construct_only s)) arms.ConstructOnly _ (Led t f Nothing)
      (bind_keeps (value_in (past t.f) from) _ (Led t f Nothing) (λ v _.
      starts_one t f w (Setting id slot v) (past t.f) refl (λ id. refl) (λ good goes. due id slot asked found)))))))

module _ {d : Definition} (into : Option ℕ) (object : ℕ) (name : List ℕ) (detail : Option (List ℕ)) (args : List ℕ) (t : Due d (words.emit into object name detail args)) (f : FallsAt d t.a.weighed.depths (at_top t.w t.f t.rest t.n)) where
  open t use {w}

  emit_operand : (class : ℕ) × (typing.operand d (r t).ks object ≡ Ok class)
  unfolding typing.emitting
  emit_operand =
      let x = bound (typing.operand d (r t).ks object) _ _ (taken t).typed in
      (x.0, x.1)

  abbrev next : Frame
  next = record (past t.f) { into = into }

  begins_low : (id number : ℕ) (own : Option (List ℕ)) (vs : List Value) → operand_in w (past t.f) object ≡ Ok id → signal_to_emit d w id name ≡ Ok number → 0 < number →
      emission_height d t.a.weighed.depths (standing w.objects) (Running next ∷ t.rest) (new_emission id number own vs false) < of_program t.a.weighed.depths t.f.program
  begins_low id number own vs asked found some =
      let class = emit_operand in
      let o = named t object class.0 class.1 in
      let same = operand_same t f object class.0 o id asked in
      let is = signal_found d w o.id number name o.o o.lives (subst (λ id. signal_to_emit d w id name ≡ Ok number) (sym same) found) in
      let low = raises_low t f object class.0 o (λ class. signal_number d class name) signal number is refl in
      let stands : standing w.objects id ≡ Some o.o.place = ap (standing w.objects) (sym same) ∙ stands_there t f object class.0 o in
      let at : channel_of d (standing w.objects) (new_emission id number own vs false) ≡ Some (signal o.o.place number) =
      ap (channel_at d (new_emission id number own vs false)) stands ∙ not_notify o.o.place in
      let height = ap (height_if d t.a.weighed.depths (Running next ∷ t.rest)) at in
      omega (arith, low, height)
    where
      not_notify : (place : ℕ) → cond (nat_eq number 0) (named_at d place (class_at d place) own) (Some (signal place number)) ≡ Some (signal place number)
      not_notify place = by (nat_eq number 0) refl
        where
          by : (b : Bool) → nat_eq number 0 ≡ b → cond (nat_eq number 0) (named_at d place (class_at d place) own) (Some (signal place number)) ≡ Some (signal place number)
          by true z = absurd (let none = eqb-true number 0 z in omega (arith, none, some))
          by false z = ap (λ b. cond b (named_at d place (class_at d place) own) (Some (signal place number))) z

  pub emits : IfOk (emitting d w (past t.f) object (record { into = into; signal = name; detail = detail; args = args })) (Led t f Nothing)
  unfolding emitting
  emits = bind_keeps (operand_in w (past t.f) object) _ (Led t f Nothing) (λ id asked. bind_keeps (signal_to_emit d w id name) _ (Led t f Nothing) (λ number found.
      bind_keeps (detail_in d w id number detail) _ (Led t f Nothing) (λ own _. bind_keeps (values_in (past t.f) args) _ (Led t f Nothing) (λ vs _.
      starts_one t f w (Beginning (new_emission id number own vs false)) next refl (λ id. refl) (λ good goes. (begins_low id number own vs asked found good.agenda.3.1.not_notify, λ c is. tt))))))
