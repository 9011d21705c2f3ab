-- What is done beside the tasks: an object that floats is let go, and one that nothing holds is finalised.
use Rattle.std.proofs.Common.{◌≡◌, inl, inr, ◌⊎◌, refl, sym, ap, ◌∙◌, ℕ, suc, ◌+◌, ◌≤◌, Bool, true, false, cond, List, [], ◌∷◌, Option, None, Some, Ok, arith}
use Rattle.std.specs.Prelude.{nat_eq, not, option_map, ◌||◌}
use Rattle.std.specs.List.{filter}
use Rattle.std.proofs.lemmas.Bool.{eqb-true, eqb-false, eq-eqb}
use Rattle.ui_machine.specs.declared.arm.Arm.{Arm}
use Rattle.ui_machine.specs.Seq.{total}
use Rattle.ui_machine.specs.Definition.{Definition}
use Rattle.ui_machine.specs.Output.Lines as lines
use Rattle.ui_machine.specs.Rules.Disposal.{disposed, is_identity, is_of_object}
use Rattle.ui_machine.specs.Rules.Programs.{place_in}
use Rattle.ui_machine.specs.State.Config.{Config, World, said, with_objects, without}
use Rattle.ui_machine.specs.State.Handlers.{Handler, handler_of}
use Rattle.ui_machine.specs.State.Objects.{Object, living, put}
use Rattle.ui_machine.specs.Steps.{sink_first_floating}
use Rattle.law_typing.specs.Good.ComingDown as downs
use Rattle.law_typing.specs.Good.Builds.{is_for_builder}
use Rattle.law_typing.specs.Good.Standing.{Standing, standing, view}
use Rattle.law_typing.specs.Graph.{graph}
use Rattle.law_typing.specs.Graph.Depths.{depth}
use Rattle.law_typing.specs.Graph.Tables.{Tables}
use Rattle.law_typing.specs.Laws.StepsKeepGood.{IsGood}
use Rattle.law_typing.specs.Verdict.Accepted.{Accepted}
use Rattle.law_steps.specs.Kept.Agenda.{Stays}
use Rattle.law_steps.proofs.Kept.DisposeProofs.{put_apart, sum_put}
use Rattle.law_steps.proofs.Kept.DisposedProofs.{dispose_keeps}
use Rattle.law_steps.proofs.Kept.HandlersProofs.{handlers_left, left_are_found}
use Rattle.law_steps.proofs.Kept.NewProofs.{at_place}
use Rattle.law_steps.proofs.Kept.WriteProofs.{read_here}
use Rattle.law_prices.specs.Deeds.{PriceList}
use Rattle.law_prices.specs.Deeds as deeds
use Rattle.law_prices.specs.Paid.{HandlersPaid}
use Rattle.law_prices.specs.Potential.{floating_price, object_price, seen}
use Rattle.law_prices.specs.Prices.{price_of}
use Rattle.law_prices.specs.Steps.{done_by, final_deeds, settle_deeds}
use Rattle.law_prices.proofs.Agenda.{agenda_less, handler_price}
use Rattle.law_prices.proofs.Disposals.{disposed_only, disposed_price, first_is}
use Rattle.law_prices.proofs.MovePays.{found_less}
use Rattle.law_prices.proofs.Pays.{ok_is, paid_in}
use Rattle.law_prices.proofs.TaskFalls.{done_is}
use Rattle.law_prices.proofs.Whole.{floating_without, objects_price, whole}

module _ (d : Definition) (P : PriceList) (t : Tables) where
  -- ** what floats

  pub settling_falls : (w : World) (ids : List ℕ) → w.floating ≡ ids → total P (settle_deeds w ids) + whole d P t (sink_first_floating w ids) [] ≤ whole d P t w []
  settling_falls w [] e = omega arith
  settling_falls w (id ∷ ids) e =
      let s = standing w.objects in
      let left = floating_without d P t s id ids in
      let one : without id (id ∷ ids) ≡ without id ids = ap (λ b. cond b (without id ids) (id ∷ without id ids)) (eq-eqb id id refl) in
      let now = ap (λ xs. floating_price d P s (without id xs)) e in
      let then = ap (floating_price d P s) one in
      let was = ap (floating_price d P s) e in
      let deed = go (place_in w.objects id) in
      omega (arith, left, now, then, was, deed)
    where
      go : (o : Option ℕ) → total P (done_by (λ place. deeds.settle place ∷ []) o) ≤ price_of (λ place. P (deeds.settle place)) o
      go None = omega arith
      go (Some place) = omega arith

  -- ** a finalisation

  -- a handler that is left is not of the object
  neither : (a b : Bool) → not (a || b) ≡ true → (a ≡ false) × (b ≡ false)
  neither false false e = (refl, refl)
  neither true b e = absurd (cc)
  neither false true e = absurd (cc)

  not_same : (i o : ℕ) → nat_eq i o ≡ false → i ≡ o → ⊥
  not_same i o e s = let f = eq-eqb i o s in let g = sym e ∙ f in cc

  not_data : (o : ℕ) (arg : Option ℕ) (i : ℕ) → is_identity o arg ≡ false → arg ≡ Some i → i ≡ o → ⊥
  not_data o arg i e is = not_same i o (sym (ap (is_identity o) is) ∙ e)

  floats_less : (s z : Standing) → ((i place : ℕ) → z i ≡ Some place → s i ≡ Some place) → (ids : List ℕ) → floating_price d P z ids ≤ floating_price d P s ids
  floats_less s z more [] = omega arith
  floats_less s z more (i ∷ ids) = let h = floats_less s z more ids in let one = go (z i) (more i) in omega (arith, h, one)
    where
      go : (o : Option ℕ) → ((place : ℕ) → o ≡ Some place → s i ≡ Some place) → price_of (λ place. P (deeds.settle place)) o ≤ price_of (λ place. P (deeds.settle place)) (s i)
      go None f = omega arith
      go (Some place) f = let x = ap (price_of (λ place. P (deeds.settle place))) (f place refl) in omega (arith, x)

  module _ (a : Accepted d) (most_counted : ℕ) (c : Config) (g : IsGood d a most_counted c) (n : ℕ) (o : Object) (there : living c.world.objects (suc n) ≡ Some o)
      (paid : HandlersPaid d a (standing c.world.objects) c.agenda c.world.last_handler c.world.handlers) (v0 : World) (e : disposed d c.world (suc n) ≡ Ok v0) where
    abbrev id : ℕ
    id = suc n

    abbrev w : World
    w = c.world

    abbrev v : World
    v = said d (with_objects v0 (put v0.objects id None)) (lines.final id)

    abbrev s : Standing
    s = standing w.objects

    abbrev z : Standing
    z = standing v.objects

    stands_kept : standing v0.objects ≡ s
    stands_kept =
        let kept = dispose_keeps d w id o there g.objects in
        let same : kept.0 ≡ v0 = ok_is {E = Arm} kept.0 v0 (sym kept.1 ∙ e) in
        ap (λ (v : World). standing v.objects) (sym same) ∙ kept.2.stands

    gone : z id ≡ None
    gone = ap (option_map (λ (o : Object). o.place)) (read_here None v0.objects n None)

    other : (j : ℕ) → (j ≡ id → ⊥) → z j ≡ s j
    other j apart = ap (option_map (λ (o : Object). o.place)) (put_apart None id j v0.objects (λ e. apart (sym e))) ∙ ap (λ (s : Standing). s j) stands_kept

    stays : (j : ℕ) → (j ≡ id → ⊥) → Stays s z j
    stays j apart place e = other j apart ∙ e

    no_more : (j place : ℕ) → z j ≡ Some place → s j ≡ Some place
    no_more j place f = go (nat_eq j id) refl
      where
        go : (b : Bool) → nat_eq j id ≡ b → s j ≡ Some place
        go true t = absurd (let same = eqb-true j id t in let h = sym gone ∙ (ap z (sym same) ∙ f) in cc)
        go false t = sym (other j (eqb-false j id t)) ∙ f

    still : (j place : ℕ) → s j ≡ Some place → (z j ≡ Some place) ⊎ (z j ≡ None)
    still j place f = go (nat_eq j id) refl
      where
        go : (b : Bool) → nat_eq j id ≡ b → (z j ≡ Some place) ⊎ (z j ≡ None)
        go true t = inr (ap z (eqb-true j id t) ∙ gone)
        go false t = inl (stays j (eqb-false j id t) place f)

    abbrev test : Handler → Bool
    test h = not (is_of_object id h)

    pub final_paid : HandlersPaid d a (standing v.objects) c.agenda v.last_handler v.handlers
    final_paid =
        let same = disposed_only d w id v0 e in
        let hs : HandlersPaid d a z c.agenda w.last_handler (filter test w.handlers) =
        λ costs. handlers_left d costs a.weighed.depths s z c.agenda w.last_handler w.handlers test no_more
        (λ h passes. (let p = neither (nat_eq h.object id) (is_identity id h.arg) passes in (stays h.object (not_same h.object id p.0), λ i is. stays i (not_data id h.arg i p.1 is)))) (paid costs) in
        let x : World = record v { handlers = filter test w.handlers; last_handler = w.last_handler } in
        paid_in d a x v c.agenda c.agenda refl same.handlers same.last (λ f. omega arith) hs

    pub final_falls : total P (done_by final_deeds (living w.objects id)) + whole d P t v c.agenda ≤ whole d P t w c.agenda
    final_falls =
        let same = disposed_only d w id v0 e in
        let making = total is_for_builder c.agenda in
        let deed = done_is d P t final_deeds (living w.objects id) o there in
        let first = first_is d P t making o in
        let costs = disposed_price d P t making id w.objects o there in
        let os = ap (objects_price d P t making) same.objects in
        let was = at_place v0.objects id o.place (ap (λ (s : Standing). s id) stands_kept ∙ ap (option_map (λ (o : Object). o.place)) there) in
        let put_out = sum_put (price_of (object_price d P t making)) refl None v0.objects n in
        let here = ap (price_of (object_price d P t making)) was.1 in
        let final = ap (λ place. P (deeds.final place)) was.2 in
        let floats = floats_less s z no_more v.floating in
        let floating = ap (floating_price d P s) same.floating in
        let agenda = agenda_less d P t w.last_handler (seen w) (seen v) a.weighed.costs a.weighed.depths (view w) refl refl (depth (graph d) a.weighed.depths) downs.none c.agenda g.budget
        (record {
          stands = still;
          handlers = λ number low. (
              let found = found_less d P t (handler_of number (filter test w.handlers)) (handler_of number w.handlers) (left_are_found d a.weighed.costs a.weighed.depths s c.agenda w.last_handler w.handlers test g.handlers number) in
              let at = ap (λ (hs : List Handler). price_of (handler_price P t) (handler_of number hs)) same.handlers in
              omega (arith, found, at));
          sources = inr same.sources;
        }) g.agenda in
        omega (arith, deed, first, costs, os, put_out, here, final, floats, floating, agenda)
