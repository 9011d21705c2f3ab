-- What falls still falls where an object is made, and where the build, a request and a source begin something.
use Rattle.std.proofs.Common.{◌≡◌, inl, inr, refl, sym, ap, subst, ◌∙◌, ℕ, zero, suc, ◌+◌, ◌<◌, ◌≤◌, ◌⊎◌, Bool, true, false, List, [], ◌∷◌, ◌++◌, Option, None, Some, arith}
use native.Mathlib.Omega.{arith}
use Rattle.std.specs.List.{list_all}
use Rattle.std.specs.Prelude.{IfOk, length, nat_eq, not}
use Rattle.std.proofs.lemmas.Bool.{eqb-true}
use Rattle.ui_machine.specs.declared.arm.Arm.TheVariants as arms
use Rattle.ui_machine.specs.Definition.{Definition}
use Rattle.ui_machine.specs.Definition.Programs.{Program}
use Rattle.ui_machine.specs.Definition.Values.{Value}
use Rattle.ui_machine.specs.Definition.Values as values
use Rattle.ui_machine.specs.Outcome.{known}
use Rattle.ui_machine.specs.Definition.Lookups.{place_at, place_of, specs_of, type_of}
use Rattle.ui_machine.specs.Definition.Places.{Place}
use Rattle.ui_machine.specs.Rules.Construction.{construction, has_valid_default, making, new_object, peer_to_take}
use Rattle.ui_machine.specs.State.Config.{World, Started}
use Rattle.ui_machine.specs.State.Objects.{Object, Objects, living}
use Rattle.ui_machine.specs.State.Tasks.{ConstructStep, Constructing, sets, runs, thaws, Frame, Running}
use Rattle.machine_laws.proofs.KeptProofs.{bind_keeps, cond_keeps, kept_at, only_keeps}
use Rattle.law_typing.specs.Good.Freezes.{frozen_by}
use Rattle.law_typing.specs.Good.Standing.{standing}
use Rattle.law_typing.specs.Graph.Tables.{of_program}
use Rattle.law_typing.specs.Laws.{IsIn}
use Rattle.law_typing.specs.Laws.WellRead.{WellRead}
use Rattle.law_typing.specs.Verdict.Accepted.{Accepted, Each}
use Rattle.ui_machine.specs.Definition.Programs as words
use Rattle.ui_machine.specs.Instructions.Jumps.{past}
use Rattle.ui_machine.specs.Instructions.Objects.{creating, has_room_for_object, made_new}
use Rattle.ui_machine.specs.Instructions.Registers.{with_register, written_to}
use Rattle.ui_machine.specs.Rules.Build.{to_make}
use Rattle.law_typing.specs.Good.Builds.{step_depth}
use Rattle.law_typing.specs.Graph.{making_of, raised_by_making}
use Rattle.law_typing.specs.Graph.Depths.{deepest, making_depth}
use Rattle.law_static.proofs.BuildCostProofs.{read_making}
use Rattle.law_static.proofs.ConstructionProofs.{constructions_shallow}
use Rattle.law_steps.proofs.Kept.NewProofs.{new_stands}
use Rattle.law_steps.specs.Instructed.Running.{at_top}
use Rattle.law_steps.proofs.Instructed.Around as due
use Rattle.law_frames.proofs.Going.{queues_more}
use Rattle.law_frames.specs.Frames.{StepFalls, making_height, FallsAt}
use Rattle.law_frames.proofs.Emissions.{known_is}
use Rattle.law_frames.proofs.Programs.{Led, goes, started_low, starts_on}
use Rattle.law_frames.proofs.Tasks.{Nothing}

-- ** a new object

module _ (d : Definition) (well : WellRead d) (a : Accepted d) (w : World) (place : ℕ) (p : Place) (at : place_at d place ≡ Some p) where
  making_is : making_height d a.weighed.depths (Some place) ≡ 1 + deepest a.weighed.depths (raised_by_making d place p)
  making_is = ap (making_depth a.weighed.depths) (read_making d 0 place place d.places p (omega arith) at).0

  each_low : (steps : List ConstructStep) → Each (λ m. step_depth a.weighed.depths place m ≤ deepest a.weighed.depths (raised_by_making d place p)) steps →
      Each (StepFalls d a.weighed.depths (making_height d a.weighed.depths (Some place)) place) steps
  each_low [] all = tt
  each_low (sets slot v ∷ steps) all = ((let low = all.0 in let is = making_is in omega (arith, low, is)), each_low steps all.1)
  each_low (runs program ∷ steps) all = ((let low = all.0 in let is = making_is in omega (arith, low, is)), each_low steps all.1)
  each_low (thaws ∷ steps) all = (tt, each_low steps all.1)

  pub steps_low : Each (StepFalls d a.weighed.depths (making_height d a.weighed.depths (Some place)) place) (construction d w place p)
  steps_low = each_low (construction d w place p) (constructions_shallow d a w place p at (well.places place p at))

was_made : (os : Objects) (id : ℕ) (o : Object) → living os id ≡ Some o → id ≤ length os
was_made os zero o is = absurd (cc is)
was_made [] (suc i) o is = absurd (cc is)
was_made (x ∷ os) (suc zero) o is = omega arith
was_made (x ∷ os) (suc (suc i)) o is = let low = was_made os (suc i) o is in omega (arith, low)

-- the construction of a new object holds no other one frozen
pub others_free : (d : Definition) (os : Objects) (x : Object) → x.queue ≡ [] → (steps : List ConstructStep) (held : Bool) (id slot : ℕ) (o : Object) → living (os ++ Some x ∷ []) id ≡ Some o → IsIn slot o.queue →
    frozen_by d id (Constructing (suc (length os)) steps held) ≡ 0
others_free d os x none steps held id slot o is there = by (queues_more Nothing os x none id o is slot there)
  where
    by : ((p : Object) × (living os id ≡ Some p) × (o.place ≡ p.place) × IsIn slot p.queue) ⊎ ⊥ → frozen_by d id (Constructing (suc (length os)) steps held) ≡ 0
    by (inr e) = absurd e
    by (inl y) = apart (nat_eq (suc (length os)) id) refl
      where
        apart : (b : Bool) → nat_eq (suc (length os)) id ≡ b → frozen_by d id (Constructing (suc (length os)) steps held) ≡ 0
        apart true e = absurd (let low = was_made os id y.0 y.1 in let same = eqb-true (suc (length os)) id e in omega (arith, low, same))
        apart false e = rw e refl

module _ {d : Definition} (to : ℕ) (id : List ℕ) (t : due.Due d (words.new to id)) (f : FallsAt d t.a.weighed.depths (at_top t.w t.f t.rest t.n)) where
  open t use {w}

  made : (place : ℕ) (p : Place) (peer : Option ℕ) → place_of d id ≡ Some place → place_at d place ≡ Some p → (next : Frame) → next.program ≡ t.f.program → (v : World) → v.objects ≡ w.objects ++ Some (new_object d place p peer) ∷ [] →
      Led t f Nothing (record { world = v; tasks = Constructing (suc (length w.objects)) (construction d w place p) false ∷ Running next ∷ [] })
  made place p peer named at next same v objects =
      starts_on t f Nothing v (Constructing (suc (length w.objects)) (construction d w place p) false ∷ []) next same
      (λ good goes falls. (
        record {
          place = place;
          is = stands;
          under = (let low = started_low t f in let is = ap (λ o. 1 + deepest t.a.weighed.depths (making_of d o)) named in subst (λ q. making_height d t.a.weighed.depths (Some place) < of_program t.a.weighed.depths q) (sym same) (omega (arith, low, is)));
          steps_fall = steps_low d t.well t.a w place p at;
        },
        falls,
      ))
      (λ i slot o is there. (let free = others_free d w.objects (new_object d place p peer) refl (construction d w place p) false i slot o (subst (λ os. living os i ≡ Some o) objects is) there in omega (arith, free)))
      (λ good goes falls i slot o is there none. absurd none)
    where
      stands : standing v.objects (suc (length w.objects)) ≡ Some place
      stands = ap (λ os. standing os (suc (length w.objects))) objects ∙ (new_stands d w (new_object d place p peer)).0.here

  makes_it : (place : ℕ) (p : Place) → place_of d id ≡ Some place → place_at d place ≡ Some p → IfOk (made_new d w (past t.f) to place p) (Led t f Nothing)
  unfolding made_new making
  makes_it place p named at = bind_keeps (making d w place (peer_to_take d w p) false) _ _ (λ m is. bind_keeps (with_register to _ (past t.f).registers) _ _ (λ registers _.
      kept_at (λ (s : Started). Led t f Nothing (record { world = s.world; tasks = s.tasks ++ Running (record (past t.f) { registers = registers }) ∷ [] })) (making d w place (peer_to_take d w p) false) m
      (bind_keeps (known arms.Code (place_at d place)) _ _ (λ q found.
      only_keeps (not (type_of d q.class).is_abstract) arms.Abstract _ _ (only_keeps (list_all (has_valid_default d) (specs_of d q.class)) arms.Value _ _
      (made place q (peer_to_take d w p) named (known_is arms.Code (place_at d place) q found) (record (past t.f) { registers = registers }) refl _ refl)))) is))

  pub creates : IfOk (creating d w t.rest (past t.f) to id) (Led t f Nothing)
  unfolding creating written_to
  creates = bind_keeps (known arms.Code (place_of d id)) _ _ (λ place named. bind_keeps (known arms.Code (place_at d place)) _ _ (λ p at. only_keeps p.is_prototype arms.Code _ _
      (cond_keeps (has_room_for_object d w (to_make t.rest) p) _ _ _ (makes_it place p (known_is arms.Code (place_of d id) place named) (known_is arms.Code (place_at d place) p at))
      (bind_keeps (with_register to (Some (values.object None)) (past t.f).registers) _ _ (λ r _. goes t f _ (record (past t.f) { registers = r }) refl)))))
