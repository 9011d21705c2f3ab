-- A property is got, and an object of the builder named.
use Rattle.std.proofs.Common.{◌≡◌, refl, ap, ◌∙◌, ℕ, true, false, List, Some, Ok, slice_get}
use Rattle.std.specs.Prelude.{not}
use Rattle.std.proofs.lemmas.Bool.{eq-eqb}
use Rattle.ui_machine.specs.Definition.Kinds.{Kind}
use Rattle.ui_machine.specs.Definition.Kinds as kinds
use Rattle.ui_machine.specs.Definition.Values.{Value}
use Rattle.ui_machine.specs.Definition.Properties.{Spec, is_readable}
use Rattle.ui_machine.specs.Definition.Places.{Place}
use Rattle.ui_machine.specs.Definition.{Definition}
use Rattle.ui_machine.specs.Definition.Lookups.{slot_of, spec_of, place_at, place_of}
use Rattle.ui_machine.specs.Definition.Programs.{Instruction}
use Rattle.ui_machine.specs.Definition.Programs as words
use Rattle.ui_machine.specs.State.Objects.{Object, living, asked, value_at}
use Rattle.ui_machine.specs.State.Tasks.{Frame, Task}
use Rattle.ui_machine.specs.State.Config.{BuilderEntry, unbuilt, built, released, World, builder_entry}
use Rattle.ui_machine.specs.Rules.Sets.{spec_at}
use Rattle.ui_machine.specs.Rules.Construction.{object_held}
use Rattle.ui_machine.specs.Rules.Transform.{kind_fits}
use Rattle.ui_machine.specs.Instructions.{in_front}
use Rattle.ui_machine.specs.Instructions.Registers.{operand_in, written_to}
use Rattle.ui_machine.specs.Instructions.Properties.{slot_at, get_property}
use Rattle.ui_machine.specs.Instructions.Objects.{look_up_object, or_null}
use Rattle.ui_machine.specs.Instructions.Jumps.{past}
use Rattle.law_typing.specs.Good.Standing.{standing, class_by, covers_if, holds}
use Rattle.law_typing.proofs.Lists.{both_parts}
use Rattle.law_static.proofs.SubclassProofs.{specs_inherit}
use Rattle.law_steps.specs.Instructed.OfObjects.{ReadsAreFine}
use Rattle.law_steps.proofs.Instructed.Around.{Due, r, taken, StepIsFine, fine_of}
use Rattle.law_steps.proofs.Instructed.Written.{written_fine}
use Rattle.law_steps.proofs.Instructed.Typed.{getting_is, naming_is}
use Rattle.law_steps.proofs.Instructed.Operand.{named}

pub slot_is : (d : Definition) (w : World) (id slot : ℕ) (o : Object) (name : List ℕ) → living w.objects id ≡ Some o → slot_of d o.class name ≡ Some slot → slot_at d w id name ≡ Ok slot
unfolding slot_at
slot_is d w id slot o name e is = rw (e, is) refl

pub spec_is : (d : Definition) (w : World) (id slot : ℕ) (o : Object) (s : Spec) → living w.objects id ≡ Some o → spec_of d o.class slot ≡ Some s → spec_at d w.objects id slot ≡ Ok s
unfolding spec_at
spec_is d w id slot o s e is = rw (e, is) refl

value_is : (w : World) (id slot : ℕ) (o : Object) (v : Value) → living w.objects id ≡ Some o → slice_get o.values slot ≡ Some v → asked w.objects id (value_at slot) ≡ Ok v
unfolding asked
value_is w id slot o v e is = rw (e, is) refl

get_writes : (d : Definition) (w : World) (rest : List Task) (f : Frame) (to object : ℕ) (name : List ℕ) (id slot : ℕ) (s : Spec) (v : Value) → operand_in w f object ≡ Ok id →
    slot_at d w id name ≡ Ok slot → spec_at d w.objects id slot ≡ Ok s → asked w.objects id (value_at slot) ≡ Ok v → is_readable s ≡ true →
    in_front rest (get_property d w f to object name) ≡ in_front rest (written_to w to (Some v) f)
unfolding get_property
get_writes d w rest f to object name id slot s v a b c e readable = rw (a, b, c, e, readable) refl

object_writes : (d : Definition) (w : World) (rest : List Task) (f : Frame) (to : ℕ) (id : List ℕ) (place : ℕ) (p : Place) → place_of d id ≡ Some place → place_at d place ≡ Some p →
    not p.is_prototype ≡ true → in_front rest (look_up_object d w f to id) ≡ in_front rest (written_to w to (Some (or_null (object_held (builder_entry w place)))) f)
unfolding look_up_object
object_writes d w rest f to id place p a b c = rw (a, b, c) refl

module _ {d : Definition} where
  get_fine : (to object : ℕ) (name : List ℕ) (t : Due d (words.get to object name)) → StepIsFine t
  get_fine to object name t =
      let w = t.w in
      let k = getting_is d (r t).ks to object name _ (taken t).typed in
      let o = named t object k.found.class k.found.operand in
      let own = specs_inherit d t.well.types o.o.class k.found.class k.found.slot name k.spec o.known o.of_class k.found.is k.found.has in
      let v = o.good.values own.0 k.spec own.2 in
      written_fine t refl w.transcript to (kinds.plain k.spec.kind) (Some v.value) refl refl k.kinds_are
      (both_parts (kind_fits (class_by d (standing w.objects)) d.types v.value k.spec.kind) _ v.valid).0
      (get_writes d w t.rest (past t.f) to object name o.id own.0 k.spec v.value o.asked (slot_is d w o.id own.0 o.o name o.lives own.1) (spec_is d w o.id own.0 o.o k.spec o.lives own.2)
      (value_is w o.id own.0 o.o v.value o.lives v.is) k.readable)

  -- what the builder holds of a place, or null
  held_holds : {i : Instruction} (t : Due d i) (place : ℕ) → holds d (standing t.w.objects) (kinds.at_or_null place) (Some (or_null (object_held (builder_entry t.w place)))) ≡ true
  held_holds t place = go (builder_entry t.w place) refl
    where
      go : (h : BuilderEntry) → builder_entry t.w place ≡ h → holds d (standing t.w.objects) (kinds.at_or_null place) (Some (or_null (object_held h))) ≡ true
      go unbuilt e = refl
      go released e = refl
      go (built id) e = ap (covers_if d (kinds.at place)) (t.g.held place id e) ∙ eq-eqb place place refl

  object_fine : (to : ℕ) (id : List ℕ) (t : Due d (words.object to id)) → StepIsFine t
  object_fine to id t =
      let k = naming_is d (r t).ks to id false _ (taken t).typed in
      written_fine t refl t.w.transcript to (kinds.at_or_null k.place) (Some (or_null (object_held (builder_entry t.w k.place)))) refl refl k.kinds_are (held_holds t k.place)
      (object_writes d t.w t.rest (past t.f) to id k.place k.p k.is k.has k.allowed)

pub reads_are_fine : ReadsAreFine
reads_are_fine (words.get to object name) e = fine_of (λ d t. get_fine to object name t)
reads_are_fine (words.object to id) e = fine_of (λ d t. object_fine to id t)
reads_are_fine _ e = absurd (cc)
