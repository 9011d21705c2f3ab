-- A program begins in front of other tasks: it takes what it is given, and is good within its cost and depth.
use Rattle.std.proofs.Common.{◌≡◌, refl, sym, ap, subst, ◌∙◌, ℕ, Bool, true, false, cond, List, [], ◌∷◌, ◌++◌, map, Option, None, Some}
use Rattle.std.proofs.lemmas.Bool.{eq-eqb}
use Rattle.std.specs.List.{find}
use Rattle.ui_machine.specs.Definition.{Definition}
use Rattle.ui_machine.specs.Definition.Kinds.{Kind, RegisterKind}
use Rattle.ui_machine.specs.Definition.Kinds as kinds
use Rattle.ui_machine.specs.Definition.Values.{Value}
use Rattle.ui_machine.specs.Definition.Values as values
use Rattle.ui_machine.specs.Definition.Lookups.{program_at}
use Rattle.ui_machine.specs.Definition.Programs.{Program}
use Rattle.ui_machine.specs.Output.Lines as lines
use Rattle.ui_machine.specs.Rules.Programs.{all_fit, fits_register, first_frame, first_registers, beginning_program, program_before}
use Rattle.ui_machine.specs.Rules.Transform.{kind_fits}
use Rattle.ui_machine.specs.State.Config.{World, said, starts}
use Rattle.ui_machine.specs.State.Tasks.{Task, Running}
use Rattle.law_typing.specs.Rules.Brackets.{opened, is_bracketed, is_empty}
use Rattle.law_typing.specs.Rules.RegisterKinds.{Kinds}
use Rattle.law_typing.specs.Rules.Signatures.{is_taken_by, parameters_fit, result_fits, takes}
use Rattle.law_typing.specs.Graph.Tables.{of_program}
use Rattle.law_typing.specs.Verdict.Accepted.{Each, Accepted}
use Rattle.law_typing.specs.Laws.WellRead.{WellRead}
use Rattle.law_typing.specs.Good.Standing.{Standing, standing, class_by, holds, covers_if}
use Rattle.law_typing.specs.Good.Objects.{ObjectsGood}
use Rattle.law_typing.specs.Good.ComingDown.{none}
use Rattle.law_typing.specs.Good.Programs.{RunningGood, code_of, code_of_block, code_left}
use Rattle.law_typing.specs.Good.Freezes.{frozen_by}
use Rattle.law_typing.proofs.Lists.{both_parts}
use Rattle.law_static.specs.Fits.{AllHold}
use Rattle.law_static.proofs.BeginProofs.{programs_begin, first_registers_fit}
use Rattle.law_static.proofs.FitsProofs.{given_hold, given_fit}
use Rattle.law_static.proofs.SiteProofs.{blocks_keep}

-- ** what is given

-- what is in front and what follows
pub hold_both : (d : Definition) (s : Standing) (xs ys : List Value) (ks ls : Kinds) → AllHold d s xs ks → AllHold d s ys ls → AllHold d s (xs ++ ys) (ks ++ ls)
hold_both d s [] ys [] ls a b = b
hold_both d s [] ys (k ∷ ks) ls a b = absurd a
hold_both d s (x ∷ xs) ys [] ls a b = absurd a
hold_both d s (x ∷ xs) ys (k ∷ ks) ls a b = (a.0, hold_both d s xs ys ks ls a.1 b)

-- values of these kinds
pub args_hold : (d : Definition) (s : Standing) (vs : List Value) (ks : List Kind) → all_fit (kind_fits (class_by d s) d.types) vs ks ≡ true → AllHold d s vs (map kinds.plain ks)
args_hold d s [] [] e = tt
args_hold d s [] (k ∷ ks) e = absurd (cc)
args_hold d s (v ∷ vs) [] e = absurd (cc)
args_hold d s (v ∷ vs) (k ∷ ks) e =
    let parts = both_parts (kind_fits (class_by d s) d.types v k) (all_fit (kind_fits (class_by d s) d.types) vs ks) e in (parts.0, args_hold d s vs ks parts.1)

-- an object at its place
pub stands_hold : (d : Definition) (s : Standing) (id place : ℕ) → s id ≡ Some place → holds d s (kinds.at place) (Some (values.object (Some id))) ≡ true
stands_hold d s id place is = ap (covers_if d (kinds.at place)) is ∙ eq-eqb place place refl

-- what is found of a list is as all of it
pub each_found : {A : Type 0} (P : A → Type 0) (test : A → Bool) (xs : List A) (x : A) → Each P xs → find test xs ≡ Some x → P x
each_found P test [] x all e = absurd (cc)
each_found {A} P test (y ∷ ys) x all e = go (test y) refl (λ e. each_found P test ys x all.1 e)
  where
    go : (b : Bool) → test y ≡ b → (find test ys ≡ Some x → P x) → P x
    go true t later = let f = ap (λ b. cond b (Some y) (find test ys)) t in let s : y ≡ x = (let g = sym f ∙ e in cc) in subst P s all.0
    go false t later = later (sym (ap (λ b. cond b (Some y) (find test ys)) t) ∙ e)

-- ** the beginning

begins : (d : Definition) (w : World) (number : ℕ) (p : Program) (args : List Value) (tasks : List Task) → program_at d number ≡ Some p →
    all_fit (fits_register d w.objects) args p.params ≡ true →
    program_before d w number args tasks ≡ starts (said d w (lines.run p.name)) (Running (first_frame number p args) ∷ tasks)
unfolding program_before beginning_program
begins d w number p args tasks is fit = rw (is, fit) refl

module _ (d : Definition) (well : WellRead d) (a : Accepted d) (w : World) (objects : ObjectsGood d w) (number : ℕ) (args : List Value) where
  pub record Begun (wanted : Option Kind) : Type 0 where
    pub p : Program
    pub is : program_at d number ≡ Some p
    pub leads : (tasks : List Task) → program_before d w number args tasks ≡ starts (said d w (lines.run p.name)) (Running (first_frame number p args) ∷ tasks)
    pub gives : result_fits d p.result wanted ≡ true
    pub good : RunningGood d a.weighed.costs a.weighed.depths (standing w.objects) none (first_frame number p args) (of_program a.weighed.costs number) (of_program a.weighed.depths number)
    -- it holds nothing frozen
    pub free : (id : ℕ) → frozen_by d id (Running (first_frame number p args)) ≡ 0

  of_some : (given : Kinds) (wanted : Option Kind) (p : Program) → program_at d number ≡ Some p → takes d p given wanted ≡ true → AllHold d (standing w.objects) args given → Begun wanted
  of_some given wanted p is taken all =
      let read = well.programs number p is in
      let block = read.some in
      let fits = both_parts (parameters_fit d given p.params) (result_fits d p.result wanted) taken in
      let held = given_hold d well.types (standing w.objects) args given p.params all fits.0 in
      let first = first_registers_fit d well (standing w.objects) number p block.0 args is block.1 held in
      let kept = blocks_keep d a number 0 p block.0 (record { is = is; has = block.1 }) in
      let code : code_of 0 (program_at d number) ≡ block.0.code = ap (code_of 0) is ∙ ap code_of_block block.1 in
      let empty : opened (code_left d (first_frame number p args)) ≡ [] =
      ap opened code ∙ empty_is (opened block.0.code) (both_parts (is_bracketed block.0.code) (is_empty (opened block.0.code)) kept.balanced).1 in
      record {
        p = p;
        is = is;
        leads = λ tasks. begins d w number p args tasks is (given_fit d w objects args p.params held read.given);
        gives = fits.1;
        good = programs_begin d well a (standing w.objects) number p block.0 (first_registers p args) is block.1 first.0 first.1;
        free = λ id. rw empty refl;
      }
    where
      empty_is : (xs : List ℕ) → is_empty xs ≡ true → xs ≡ []
      empty_is [] e = refl
      empty_is (x ∷ xs) e = absurd (cc)

  pub begun : (given : Kinds) (wanted : Option Kind) → is_taken_by d (program_at d number) given wanted ≡ true → AllHold d (standing w.objects) args given → Begun wanted
  begun given wanted taken all = go (program_at d number) refl taken
    where
      go : (o : Option Program) → program_at d number ≡ o → is_taken_by d o given wanted ≡ true → Begun wanted
      go None is taken = absurd (cc)
      go (Some p) is taken = of_some given wanted p is taken all
