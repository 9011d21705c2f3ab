-- What falls still falls where a transfer is due.
use Rattle.std.proofs.Common.{◌≡◌, refl, sym, ap, subst, ◌∙◌, ℕ, suc, Bool, true, false, List, [], ◌∷◌, Option, None, Some, slice_get}
use Rattle.std.specs.Prelude.{IfOk, nat_eq, not}
use Rattle.std.proofs.lemmas.Bool.{eqb-true}
use Rattle.ui_machine.specs.declared.arm.Arm.TheVariants as arms
use Rattle.ui_machine.specs.Definition.{Definition}
use Rattle.ui_machine.specs.Definition.Places.{Bind}
use Rattle.ui_machine.specs.Definition.Values.{Value}
use Rattle.ui_machine.specs.Definition.Properties.{is_construct_only, is_readable, is_writable}
use Rattle.ui_machine.specs.Rules.Sets.{spec_at}
use Rattle.ui_machine.specs.Rules.Transfers.{End, carried, carried_by, inverted, inverts, set_by, source_end, target_end, transferring}
use Rattle.ui_machine.specs.Rules.Transform.{transformed}
use Rattle.ui_machine.specs.State.Bindings.{Binding, binding_of, with_busy}
use Rattle.ui_machine.specs.State.Config.{World, Started}
use Rattle.ui_machine.specs.State.Objects.{asked, value_at}
use Rattle.ui_machine.specs.State.Tasks.{Setting, Task, Transferring, Unsetting}
use Rattle.machine_laws.proofs.KeptProofs.{bind_keeps, only_keeps}
use Rattle.law_typing.specs.Good.Bindings.{BindingGood}
use Rattle.law_typing.specs.Good.DueCosts.{has_end}
use Rattle.law_typing.specs.Good.Standing.{standing}
use Rattle.law_typing.specs.Graph.Channels.{is_pair, property}
use Rattle.law_typing.specs.Graph.Tables.{Tables}
use Rattle.law_typing.specs.Laws.{IsIn}
use Rattle.law_typing.specs.Laws.StepsKeepGood.{IsGood}
use Rattle.law_typing.specs.Laws.WellRead.{WellRead}
use Rattle.law_typing.specs.Verdict.Accepted.{Accepted}
use Rattle.law_typing.proofs.Lists.{each_in}
use Rattle.law_typing.proofs.OneSolutionProofs.{find_in}
use Rattle.law_steps.proofs.Tasked.Pairs as pairs
use Rattle.law_frames.specs.Frames.{FallsAt, IsApart, Under, height, to_end, transfer_height}
use Rattle.law_frames.proofs.Leading.{plain}
use Rattle.law_frames.proofs.Staying.{apart_stays, end_stays, same_place, under_stays}
use Rattle.law_frames.proofs.Tasks.{LeadsStarted, Nothing, none_left}

module _ (d : Definition) (well : WellRead d) (a : Accepted d) (most_counted : ℕ) (w : World) (number : ℕ) (back : Bool) (rest : List Task) (n : ℕ)
    (g : IsGood d a most_counted (record { world = w; agenda = Transferring number back ∷ rest; counted = n }))
    (f : FallsAt d a.weighed.depths (record { world = w; agenda = Transferring number back ∷ rest; counted = n })) where
  abbrev table : Tables
  table = a.weighed.depths

  abbrev Led : Started → Type 0
  Led = LeadsStarted d a most_counted w (Transferring number back) rest n g f Nothing (suc n)

  nothing : (v : World) → Led (record { world = v; tasks = [] })
  nothing v = none_left d a most_counted w (Transferring number back) rest n g f Nothing v (suc n) (λ id slot none. none)

  -- what is due at the other end needs as much as the transfer may
  due_height_is : (b : Bind) → slice_get d.bindings number ≡ Some b → height d table (Unsetting number ∷ rest) (to_end back b) ≡ transfer_height d table back (slice_get d.bindings number)
  due_height_is b is = by (is_pair b) refl
    where
      ends : has_end (to_end back b) b ≡ true
      ends = one back
        where
          one : (back : Bool) → has_end (to_end back b) b ≡ true
          one false = pairs.target_end b
          one true = pairs.source_end b

      by : (p : Bool) → is_pair b ≡ p → height d table (Unsetting number ∷ rest) (to_end back b) ≡ transfer_height d table back (slice_get d.bindings number)
      by true pair = rw (is, pair, ends) refl
      by false one = rw (is, one) refl

  sets : (b : Binding) → BindingGood d (standing w.objects) (Transferring number back ∷ rest) b → (x : Bind) → slice_get d.bindings number ≡ Some x → (v : World) (id slot place : ℕ) (value : Value) →
      standing w.objects id ≡ Some place → property place slot ≡ to_end back x → Led (record { world = v; tasks = Setting id slot value ∷ Unsetting number ∷ [] })
  sets b good x is v id slot place value stands at =
      plain d a most_counted w (Transferring number back) rest n g f Nothing v (Setting id slot value ∷ Unsetting number ∷ []) (suc n)
      (λ good goes same falls. (
        record {
          place = place;
          is = same_place w.objects v.objects goes.places id place good.agenda.3.1.due.place stands good.agenda.3.1.due.is ∙ stands;
          under =
              subst (λ c. Under d table (standing v.objects) (height d table (Unsetting number ∷ rest) c) rest) (sym at)
              (subst (λ m. Under d table (standing v.objects) m rest) (sym (due_height_is x is))
              (under_stays d table (standing w.objects) (standing v.objects) _ rest same f.agenda.0.0));
          apart = subst (IsApart d (standing v.objects) (Unsetting number ∷ rest)) (sym at) (apart_stays d table (standing w.objects) (standing v.objects) (to_end back x) (Unsetting number ∷ rest) same (f.agenda.0.2 x is));
        },
        (end_stays d table (standing w.objects) (standing v.objects) number rest same f.agenda.0.1, falls),
      ))
      (λ id. refl)
      (λ good goes falls id slot o is there none. absurd none)

  module _ (b : Binding) (there : IsIn b w.bindings) (same : b.number ≡ number) where
    good : BindingGood d (standing w.objects) (Transferring number back ∷ rest) b
    good = each_in (BindingGood d (standing w.objects) (Transferring number back ∷ rest)) w.bindings g.bindings.each b there

    bind_is : slice_get d.bindings number ≡ Some good.bind
    bind_is = ap (slice_get d.bindings) (sym same) ∙ good.is

    sets_by : (target : End) (place : ℕ) → standing w.objects target.object ≡ Some place → property place target.slot ≡ to_end back good.bind → (v : Option Value) → IfOk (set_by w b.number target v) Led
    sets_by target place stands at None = nothing w
    sets_by target place stands at (Some v) =
        subst (λ k. Led (record { world = record w { bindings = with_busy b.number true w.bindings }; tasks = Setting target.object target.slot v ∷ Unsetting k ∷ [] })) (sym same)
        (sets b good good.bind bind_is (record w { bindings = with_busy b.number true w.bindings }) target.object target.slot place v stands at)

    carries : (source target : End) (place : ℕ) → standing w.objects target.object ≡ Some place → property place target.slot ≡ to_end back good.bind → IfOk (carried d w b source target) Led
    unfolding carried
    carries source target place stands at = bind_keeps (spec_at d w.objects source.object source.slot) _ Led (λ from _. bind_keeps (spec_at d w.objects target.object target.slot) _ Led (λ to _.
        bind_keeps (asked w.objects source.object (value_at source.slot)) _ Led (λ v _.
        only_keeps (is_readable from) arms.Flags _ Led (only_keeps (is_writable to) arms.Flags _ Led (only_keeps (not (is_construct_only to)) arms.ConstructOnly _ Led
        (sets_by target place stands at (inverted (inverts b) (transformed d.types from.kind to.kind v))))))))

  pub transfers_one : IfOk (transferring d w number back) Led
  transfers_one = by (binding_of number w.bindings) refl
    where
      to : (b : Binding) (there : IsIn b w.bindings) (same : b.number ≡ number) (x : Bool) → back ≡ x → IfOk (carried_by d w x (Some b)) Led
      to b there same false e =
          let good = good b there same in
          carries b there same (source_end b) (target_end b) good.bind.target good.target (ap (property good.bind.target) good.slots.1 ∙ ap (λ back. to_end back good.bind) (sym e))
      to b there same true e =
          let good = good b there same in
          carries b there same (target_end b) (source_end b) good.bind.source good.source (ap (property good.bind.source) good.slots.0 ∙ ap (λ back. to_end back good.bind) (sym e))

      by : (o : Option Binding) → binding_of number w.bindings ≡ o → IfOk (carried_by d w back o) Led
      by None is = nothing w
      by (Some b) is = let x = find_in (λ (b : Binding). nat_eq b.number number) w.bindings b is in to b x.0 (eqb-true b.number number x.1) back refl
