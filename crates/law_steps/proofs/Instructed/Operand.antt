-- The object operand of an instruction: the object that it names lives, and its class has what the operand's has.
use Rattle.std.proofs.Common.{◌≡◌, refl, sym, ap, subst, ◌∙◌, ℕ, ◌<◌, true, length, None, Some, Ok}
use Rattle.std.specs.Prelude.{option_map}
use Rattle.ui_machine.specs.Seq.{read}
use Rattle.ui_machine.specs.Definition.Values.{Value}
use Rattle.ui_machine.specs.Definition.Values as values
use Rattle.ui_machine.specs.Definition.{Definition}
use Rattle.ui_machine.specs.Definition.Places.{Place}
use Rattle.ui_machine.specs.Definition.Programs.{Instruction}
use Rattle.ui_machine.specs.State.Objects.{Object, living}
use Rattle.ui_machine.specs.State.Tasks.{Frame}
use Rattle.ui_machine.specs.State.Config.{World}
use Rattle.ui_machine.specs.Rules.Ancestry.{is_a}
use Rattle.ui_machine.specs.Instructions.Registers.{operand_in}
use Rattle.ui_machine.specs.Instructions.Jumps.{past}
use Rattle.law_typing.specs.Rules.RegisterKinds.{kind_in, covers, class_at}
use Rattle.law_typing.specs.Rules.Typing.{operand}
use Rattle.law_typing.specs.Good.Standing.{standing}
use Rattle.law_typing.specs.Good.Objects.{ObjectGood}
use Rattle.law_static.proofs.FitsProofs.{operands_stand}
use Rattle.law_steps.proofs.Kept.NewProofs.{at_place}
use Rattle.law_steps.proofs.Instructed.Around.{Due, r}

pub operand_is : (w : World) (f : Frame) (register id : ℕ) (o : Object) → read None f.registers register ≡ Some (values.object (Some id)) → living w.objects id ≡ Some o →
    operand_in w f register ≡ Ok id
unfolding operand_in
operand_is w f register id o e is = rw (e, is) refl

-- the object that a register names, where its kind is of objects of a class
pub record Named {d : Definition} {i : Instruction} (t : Due d i) (register class : ℕ) : Type 0 where
  pub id : ℕ
  pub o : Object
  pub lives : living t.w.objects id ≡ Some o
  pub names : read None t.f.registers register ≡ Some (values.object (Some id))
  pub asked : operand_in t.w (past t.f) register ≡ Ok id
  pub good : ObjectGood d t.w (standing t.w.objects) id o
  pub covered : covers d (kind_in (r t).ks register) o.place ≡ true
  pub of_class : is_a d.types o.class class ≡ true
  pub known : o.class < length d.types

pub named : {d : Definition} {i : Instruction} (t : Due d i) (register class : ℕ) → operand d (r t).ks register ≡ Ok class → Named t register class
named {d} t register class e =
    let s = standing t.w.objects in
    let g = operands_stand d s (r t).ks register class (read None t.f.registers register) e ((r t).fit register) in
    let x = at_place t.w.objects g.id g.place g.stands in
    let good = t.g.objects g.id x.0 x.1 in
    let own : x.0.class ≡ g.own = (
    let at : class_at d x.0.place ≡ Some good.place.class = ap (option_map (λ (p : Place). p.class)) good.is in
    let place = x.2 in
    let f : class_at d x.0.place ≡ Some g.own = ap (class_at d) place ∙ g.of_class in
    let c = good.class in
    cc) in
    record {
      id = g.id;
      o = x.0;
      lives = x.1;
      names = g.names;
      asked = operand_is t.w (past t.f) register g.id x.0 g.names x.1;
      good = good;
      covered = subst (λ place. covers d (kind_in (r t).ks register) place ≡ true) (sym x.2) g.covered;
      of_class = subst (λ c. is_a d.types c class ≡ true) (sym own) g.is;
      known = subst (λ c. c < length d.types) (sym good.class) (t.well.places x.0.place good.place good.is).known;
    }
