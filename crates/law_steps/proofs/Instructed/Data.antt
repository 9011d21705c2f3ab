-- Data of handlers and sources: the object of an operand at its place, and what a program takes of it.
use Rattle.std.proofs.Common.{◌≡◌, refl, sym, ap, subst, ◌∙◌, ℕ, Bool, true, Option, None, Some, Ok}
use Rattle.std.specs.Prelude.{◌&&◌, option_map}
use Rattle.std.proofs.lemmas.Bool.{eqb-true}
use Rattle.ui_machine.specs.Definition.Kinds.{Kind, RegisterKind}
use Rattle.ui_machine.specs.Definition.Kinds as kinds
use Rattle.ui_machine.specs.Definition.{Definition}
use Rattle.ui_machine.specs.Definition.Programs.{Instruction}
use Rattle.ui_machine.specs.State.Objects.{Object}
use Rattle.ui_machine.specs.State.Tasks.{Frame}
use Rattle.ui_machine.specs.State.Config.{World}
use Rattle.ui_machine.specs.Instructions.Registers.{operand_in, data_in}
use Rattle.ui_machine.specs.Instructions.Jumps.{past}
use Rattle.law_typing.specs.Rules.RegisterKinds.{kind_in, covers, fits}
use Rattle.law_typing.specs.Rules.Typing.{class_of_operand}
use Rattle.law_typing.specs.Rules.Typing as typing
use Rattle.law_typing.specs.Laws.WellRead.{TypesRead}
use Rattle.law_typing.specs.Good.Standing.{standing, LivesIf}
use Rattle.law_typing.specs.Good.Handlers.{data_kind}
use Rattle.law_static.proofs.AtClass.{at_class}
use Rattle.law_steps.proofs.Instructed.Around.{Due, r}
use Rattle.law_steps.proofs.Instructed.Operand.{named}
use Rattle.law_steps.proofs.Instructed.Typed.{data_is, no_data_is}

both : (a b : Bool) → a ≡ true → b ≡ true → (a && b) ≡ true
both a b p q = ap (λ x. x && b) p ∙ q

module _ (d : Definition) (types : TypesRead d) where
  -- the object of an operand at its place fits what its kind fits
  pub at_fits : (k l : RegisterKind) (class place : ℕ) → class_of_operand d k ≡ Ok class → covers d k place ≡ true → fits d k l ≡ true → fits d (kinds.at place) l ≡ true
  at_fits (kinds.some type) l class place o c e = at_class d types place type l c e
  at_fits (kinds.at p) l class place o c e = subst (λ p. fits d (kinds.at p) l ≡ true) (eqb-true p place c) e
  at_fits kinds.unset l class place o c e = absurd (cc)
  at_fits (kinds.plain kinds.bool) l class place o c e = absurd (cc)
  at_fits (kinds.plain (kinds.whole w)) l class place o c e = absurd (cc)
  at_fits (kinds.plain kinds.text) l class place o c e = absurd (cc)
  at_fits (kinds.plain (kinds.enum t)) l class place o c e = absurd (cc)
  at_fits (kinds.plain (kinds.flags t)) l class place o c e = absurd (cc)
  at_fits (kinds.plain (kinds.object t)) l class place o c e = absurd (cc)
  at_fits (kinds.at_or_null p) l class place o c e = absurd (cc)

datum_is : (w : World) (f : Frame) (register id : ℕ) → operand_in w f register ≡ Ok id → data_in w f (Some register) ≡ Ok (Some id)
unfolding data_in
datum_is w f register id e = rw e refl

no_datum : (w : World) (f : Frame) → data_in w f None ≡ Ok None
unfolding data_in
no_datum w f = refl

-- the kinds of data, by the operand and by the place of its object
pub data OneKind (d : Definition) : Option RegisterKind → Option RegisterKind → Type 0 where
  none : OneKind d None None
  some : (a b : RegisterKind) → ((l : RegisterKind) → fits d a l ≡ true → fits d b l ≡ true) → OneKind d (Some a) (Some b)

-- the data of an instruction lives, of a kind that may take the place of the operand's
pub record HasData {d : Definition} {i : Instruction} (t : Due d i) (with : Option ℕ) (k : Option RegisterKind) : Type 0 where
  pub arg : Option ℕ
  pub is : data_in t.w (past t.f) with ≡ Ok arg
  pub lives : LivesIf (standing t.w.objects) arg
  pub kind : OneKind d k (data_kind (standing t.w.objects) arg)

pub has_data : {d : Definition} {i : Instruction} (t : Due d i) (with : Option ℕ) (k : Option RegisterKind) → typing.data_in d (r t).ks with ≡ Ok k → HasData t with k
has_data {d} t None k e =
    record { arg = None; is = no_datum t.w (past t.f); lives = tt; kind = subst (λ k. OneKind d k None) (sym (no_data_is d (r t).ks k e)) none }
has_data {d} t (Some register) k e =
    let x = data_is d (r t).ks register k e in
    let o = named t register x.0 x.1 in
    let at : standing t.w.objects o.id ≡ Some o.o.place = ap (option_map (λ (o : Object). o.place)) o.lives in
    record {
      arg = Some o.id;
      is = datum_is t.w (past t.f) register o.id o.asked;
      lives = record { place = o.o.place; is = at; allowed = tt };
      kind =
          subst (λ k. OneKind d k (data_kind (standing t.w.objects) (Some o.id))) (sym x.2)
          (subst (λ p. OneKind d (Some (kind_in (r t).ks register)) (option_map kinds.at p)) (sym at)
          (some (kind_in (r t).ks register) (kinds.at o.o.place) (λ l. at_fits d t.well.types (kind_in (r t).ks register) l x.0 o.o.place x.1 o.covered)));
    }
