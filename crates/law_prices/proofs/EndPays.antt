-- Instructions that reach the task below: stop and return.
use Rattle.std.proofs.Common.{◌≡◌, refl, sym, ap, subst, ◌∙◌, ℕ, ◌+◌, ◌≤◌, Bool, true, false, cond, List, [], ◌∷◌, Option, None, Some, Ok, arith}
use Rattle.std.specs.List.{filter}
use Rattle.ui_machine.specs.declared.arm.Arm.{Arm}
use Rattle.ui_machine.specs.Seq.{total}
use Rattle.ui_machine.specs.Definition.{Definition}
use Rattle.ui_machine.specs.Definition.Programs as words
use Rattle.ui_machine.specs.Definition.Signals.{Signal}
use Rattle.ui_machine.specs.Definition.Values.{Value}
use Rattle.ui_machine.specs.Definition.Values as values
use Rattle.ui_machine.specs.Instructions.Jumps.{past, returned, returning}
use Rattle.ui_machine.specs.Rules.Accumulation.{collected, collecting, down_to_emission, down_to_source, entries_after, given_down, is_last, is_of_cleanup, left_by_stop, stopped}
use Rattle.ui_machine.specs.Rules.Build.{of_items}
use Rattle.ui_machine.specs.Rules.EmissionPlan.{signal_at}
use Rattle.ui_machine.specs.Rules.MainLoop.{answered, kept_source}
use Rattle.ui_machine.specs.State.Config.{Left, World, leaves}
use Rattle.ui_machine.specs.State.Objects.{object_at}
use Rattle.ui_machine.specs.State.Tasks.{Answering, Beginning, Building, Calling, Constructing, Due, Emission, Emitting, Handling, Item, Notifying, PlanEntry, Running, Setting, Task, Thawing, Transferring, Unsetting}
use Rattle.law_typing.specs.Good.Builds.{is_for_builder}
use Rattle.law_typing.specs.Graph.Tables.{Tables}
use Rattle.law_steps.proofs.Instructed.Around as around
use Rattle.law_steps.proofs.Instructed.Inverse.{bound, only}
use Rattle.law_prices.specs.Deeds.{PriceList}
use Rattle.law_prices.specs.Deeds as deeds
use Rattle.law_prices.specs.Potential.{Seen, agenda_price, object_price, seen, task_price, told_price, turn_price}
use Rattle.law_prices.specs.Prices.{price_of}
use Rattle.law_prices.proofs.MovePays.{rest_less}
use Rattle.law_prices.proofs.Pays.{PaidThere, Pays, more, ok_is, paid_in}
use Rattle.law_prices.proofs.RegisterPays.{InstructionPays}
use Rattle.law_prices.proofs.Sums.{total_filter}

module _ (d : Definition) (P : PriceList) (t : Tables) where
  -- an emission with fewer turns costs no more
  pub fewer_turns : (s : Seen) (below : List Task) (e : Emission) (entries left : List PlanEntry) → ((f : PlanEntry → ℕ) → total f left ≤ total f entries) →
      task_price d P t s below (Emitting e left) ≤ task_price d P t s below (Emitting e entries)
  fewer_turns s below e entries left less = go (s.stands e.object)
    where
      go : (o : Option ℕ) → price_of (λ place. total (turn_price d P t s below place e.signal) left + (P (deeds.end place e.signal) + told_price P e place)) o
          ≤ price_of (λ place. total (turn_price d P t s below place e.signal) entries + (P (deeds.end place e.signal) + told_price P e place)) o
      go None = omega arith
      go (Some place) = let l = less (turn_price d P t s below place e.signal) in omega (arith, l)

  pub stop_leaves : (e : Emission) (entries : List PlanEntry) (f : PlanEntry → ℕ) → total f (left_by_stop e entries) ≤ total f entries
  stop_leaves e entries f = go e.cleanup
    where
      go : (b : Bool) → total f (cond b entries (filter is_of_cleanup entries)) ≤ total f entries
      go true = omega arith
      go false = total_filter f is_of_cleanup entries

  -- an agenda that is like another but for the turns of its first emission
  pub record Lighter (s : Seen) (before after : List Task) : Type 0 where
    pub price : agenda_price d P t s after ≤ agenda_price d P t s before
    pub items : (f : Item → ℕ) → total (of_items f) after ≡ total (of_items f) before
    pub makes : total is_for_builder after ≡ total is_for_builder before

  lighter_itself : (s : Seen) (rest : List Task) → Lighter s rest rest
  lighter_itself s rest = record { price = omega arith; items = λ f. refl; makes = refl }

  stopped_lighter : (s : Seen) (rest : List Task) → Lighter s rest (stopped rest)
  stopped_lighter s [] = lighter_itself s []
  stopped_lighter s (Emitting e entries ∷ rest) =
      let f = fewer_turns s rest e entries (left_by_stop e entries) (stop_leaves e entries) in
      record { price = omega (arith, f); items = λ f. refl; makes = refl }
  stopped_lighter s (Setting object slot v ∷ rest) = lighter_itself s _
  stopped_lighter s (Notifying object slot ∷ rest) = lighter_itself s _
  stopped_lighter s (Beginning e ∷ rest) = lighter_itself s _
  stopped_lighter s (Transferring n back ∷ rest) = lighter_itself s _
  stopped_lighter s (Unsetting n ∷ rest) = lighter_itself s _
  stopped_lighter s (Thawing object slots ∷ rest) = lighter_itself s _
  stopped_lighter s (Running frame ∷ rest) = lighter_itself s _
  stopped_lighter s (Answering n ∷ rest) = lighter_itself s _
  stopped_lighter s (Calling call ∷ rest) = lighter_itself s _
  stopped_lighter s (Constructing object steps held ∷ rest) = lighter_itself s _
  stopped_lighter s (Building items ∷ rest) = lighter_itself s _
  stopped_lighter s (Handling request ∷ rest) = lighter_itself s _
  stopped_lighter s (Due n ∷ rest) = lighter_itself s _

  pub stop_pays : InstructionPays d P t words.stop
  stop_pays u paid l e =
      let x = stopped_lighter (seen u.w) u.rest in
      let price = x.price in
      let makes = x.makes in
      let making : total is_for_builder (Running (past u.f) ∷ stopped u.rest) ≡ total is_for_builder (Running (past u.f) ∷ u.rest) = omega (arith, makes) in
      let os = ap (λ m. total (price_of (object_price d P t m)) u.w.objects) making in
      subst (Pays u P t) (ok_is {E = Arm} _ l e)
      (record {
        falls = omega (arith, price, os);
        paid = paid_in d u.a u.w u.w (Running u.f ∷ u.rest) (Running (past u.f) ∷ stopped u.rest) refl refl refl (λ f. (let i = x.items f in omega (arith, i))) paid;
      })

  -- ** return

  -- a program has ended, and left this below
  ended : {i : words.Instruction} (u : around.Due d i) → more u P t ≡ 0 → PaidThere u P t → (agenda : List Task) → Lighter (seen u.w) u.rest agenda → Pays u P t (record { world = u.w; agenda = agenda })
  ended u none paid agenda x =
      let price = x.price in
      let makes = x.makes in
      let making : total is_for_builder agenda ≡ total is_for_builder (Running (past u.f) ∷ u.rest) = omega (arith, makes) in
      let os = ap (λ m. total (price_of (object_price d P t m)) u.w.objects) making in
      record {
        falls = omega (arith, price, os, none);
        paid = paid_in d u.a u.w u.w (Running u.f ∷ u.rest) agenda refl refl refl (λ f. (let i = x.items f in omega (arith, i))) paid;
      }

  collected_lighter : (s : Seen) (sig : Signal) (e : Emission) (entries : List PlanEntry) (given : Option Value) (rest : List Task) → Lighter s (Emitting e entries ∷ rest) (collected sig e entries given ∷ rest)
  collected_lighter s sig e entries None rest = lighter_itself s _
  collected_lighter s sig e entries (Some v) rest = go e.cleanup (is_last sig.accumulator v)
    where
      go : (cleanup last : Bool) → Lighter s (Emitting e entries ∷ rest) (cond cleanup (Emitting e entries) (Emitting (record e { value = Some v }) (entries_after last e entries)) ∷ rest)
      go true last = lighter_itself s _
      go false false = record { price = omega arith; items = λ f. refl; makes = refl }
      go false true = let f = fewer_turns s rest e entries (left_by_stop e entries) (stop_leaves e entries) in record { price = omega (arith, f); items = λ f. refl; makes = refl }

  to_emission : {i : words.Instruction} (u : around.Due d i) → more u P t ≡ 0 → PaidThere u P t → (e : Emission) (entries : List PlanEntry) (rest : List Task) (given : Option Value) → u.rest ≡ Emitting e entries ∷ rest → (l : Left) →
      down_to_emission d u.w e entries rest given ≡ Ok l → Pays u P t l
  unfolding down_to_emission collecting
  to_emission u none paid e entries rest given is l leads =
      let task = bound (collecting d u.w e entries given) (λ (task : Task). leaves u.w (task ∷ rest)) l leads in
      let o = bound (object_at u.w.objects e.object) _ task.0 task.1 in
      let sig = bound (signal_at d o.0.class e.signal) _ task.0 o.2 in
      let k = only _ _ _ task.0 sig.2 in
      let made : collected sig.0 e entries given ≡ task.0 = ok_is {E = Arm} _ task.0 k.1 in
      subst (Pays u P t) (ap (λ task. record { world = u.w; agenda = task ∷ rest }) made ∙ ok_is {E = Arm} _ l task.2)
      (ended u none paid (collected sig.0 e entries given ∷ rest) (subst (λ (before : List Task). Lighter (seen u.w) before (collected sig.0 e entries given ∷ rest)) (sym is) (collected_lighter (seen u.w) sig.0 e entries given rest)))

  -- a source's program has ended, and the sources are others
  to_source : {i : words.Instruction} (u : around.Due d i) → more u P t ≡ 0 → PaidThere u P t → (n : ℕ) (rest : List Task) (given : Option Value) → u.rest ≡ Answering n ∷ rest → (l : Left) → down_to_source u.w n rest given ≡ Ok l → Pays u P t l
  unfolding down_to_source
  to_source u none paid n rest given is l leads =
      let kept = bound (kept_source u.w n given) (λ (kept : World). leaves kept rest) l leads in
      let k = kept_is given kept.0 kept.1 in
      subst (Pays u P t) (ap (λ w. record { world = w; agenda = rest }) k.1 ∙ ok_is {E = Arm} _ l kept.2) (pays k.0)
    where
      kept_is : (given : Option Value) (v : World) → kept_source u.w n given ≡ Ok v → (keep : Bool) × (record u.w { sources = answered u.w.moment n keep u.w.sources } ≡ v)
      kept_is (Some (values.bool keep)) v e = (keep, ok_is {E = Arm} _ v e)
      kept_is None v e = absurd (cc)
      kept_is (Some (values.whole kind number)) v e = absurd (cc)
      kept_is (Some (values.text s)) v e = absurd (cc)
      kept_is (Some (values.enum type number)) v e = absurd (cc)
      kept_is (Some (values.flags type bits)) v e = absurd (cc)
      kept_is (Some (values.object o)) v e = absurd (cc)

      pays : (keep : Bool) → Pays u P t (record { world = record u.w { sources = answered u.w.moment n keep u.w.sources }; agenda = rest })
      pays keep =
          let v = record u.w { sources = answered u.w.moment n keep u.w.sources } in
          let less = rest_less d P t u v refl (λ n low. omega arith) in
          let before = ap (agenda_price d P t (seen u.w)) is in
          let after = ap (agenda_price d P t (seen v)) is in
          let makes = ap (total is_for_builder) is in
          let making : total is_for_builder rest ≡ total is_for_builder (Running (past u.f) ∷ u.rest) = omega (arith, makes) in
          let os = ap (λ m. total (price_of (object_price d P t m)) u.w.objects) making in
          record {
            falls = omega (arith, less, before, after, makes, os, none);
            paid = paid_in d u.a u.w v (Running u.f ∷ u.rest) rest refl refl refl (λ f. (let i = ap (total (of_items f)) is in omega (arith, i))) paid;
          }

  -- to all others a program gives nothing
  plain : {i : words.Instruction} (u : around.Due d i) → more u P t ≡ 0 → PaidThere u P t → (rest : List Task) → u.rest ≡ rest → (l : Left) → leaves u.w rest ≡ Ok l → Pays u P t l
  plain u none paid rest is l leads =
      subst (Pays u P t) (ap (λ rest. record { world = u.w; agenda = rest }) is ∙ ok_is {E = Arm} _ l leads) (ended u none paid u.rest (lighter_itself (seen u.w) u.rest))

  down_pays : {i : words.Instruction} (u : around.Due d i) → more u P t ≡ 0 → PaidThere u P t → (given : Option Value) (rest : List Task) → u.rest ≡ rest → (l : Left) → given_down d u.w rest given ≡ Ok l → Pays u P t l
  down_pays u none paid given (Emitting e entries ∷ rest) is l leads = to_emission u none paid e entries rest given is l leads
  down_pays u none paid given (Answering n ∷ rest) is l leads = to_source u none paid n rest given is l leads
  down_pays u none paid None [] is l leads = plain u none paid [] is l leads
  down_pays u none paid None (Setting object slot v ∷ rest) is l leads = plain u none paid _ is l leads
  down_pays u none paid None (Notifying object slot ∷ rest) is l leads = plain u none paid _ is l leads
  down_pays u none paid None (Beginning e ∷ rest) is l leads = plain u none paid _ is l leads
  down_pays u none paid None (Transferring n back ∷ rest) is l leads = plain u none paid _ is l leads
  down_pays u none paid None (Unsetting n ∷ rest) is l leads = plain u none paid _ is l leads
  down_pays u none paid None (Thawing object slots ∷ rest) is l leads = plain u none paid _ is l leads
  down_pays u none paid None (Running frame ∷ rest) is l leads = plain u none paid _ is l leads
  down_pays u none paid None (Calling call ∷ rest) is l leads = plain u none paid _ is l leads
  down_pays u none paid None (Constructing object steps held ∷ rest) is l leads = plain u none paid _ is l leads
  down_pays u none paid None (Building items ∷ rest) is l leads = plain u none paid _ is l leads
  down_pays u none paid None (Handling request ∷ rest) is l leads = plain u none paid _ is l leads
  down_pays u none paid None (Due n ∷ rest) is l leads = plain u none paid _ is l leads
  down_pays u none paid (Some v) [] is l leads = absurd (cc)
  down_pays u none paid (Some v) (Setting object slot x ∷ rest) is l leads = absurd (cc)
  down_pays u none paid (Some v) (Notifying object slot ∷ rest) is l leads = absurd (cc)
  down_pays u none paid (Some v) (Beginning e ∷ rest) is l leads = absurd (cc)
  down_pays u none paid (Some v) (Transferring n back ∷ rest) is l leads = absurd (cc)
  down_pays u none paid (Some v) (Unsetting n ∷ rest) is l leads = absurd (cc)
  down_pays u none paid (Some v) (Thawing object slots ∷ rest) is l leads = absurd (cc)
  down_pays u none paid (Some v) (Running frame ∷ rest) is l leads = absurd (cc)
  down_pays u none paid (Some v) (Calling call ∷ rest) is l leads = absurd (cc)
  down_pays u none paid (Some v) (Constructing object steps held ∷ rest) is l leads = absurd (cc)
  down_pays u none paid (Some v) (Building items ∷ rest) is l leads = absurd (cc)
  down_pays u none paid (Some v) (Handling request ∷ rest) is l leads = absurd (cc)
  down_pays u none paid (Some v) (Due n ∷ rest) is l leads = absurd (cc)

  pub return_pays : (from : Option ℕ) → InstructionPays d P t (words.return from)
  unfolding returning
  return_pays from u paid l e =
      let given = bound (returned d u.w (past u.f) from) _ l e in
      down_pays u refl paid given.0 u.rest refl l given.2
