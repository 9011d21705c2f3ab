-- The turn of an emission that begins a transfer of a binding, or is passed over.
use Rattle.std.proofs.Common.{◌≡◌, refl, sym, ap, subst, ◌∙◌, ℕ, ◌+◌, ◌≤◌, Bool, true, false, cond, List, [], ◌∷◌, ◌++◌, length, Option, None, Some, slice_get, arith}
use Rattle.std.specs.Prelude.{nat_eq}
use Rattle.std.proofs.lemmas.Bool.{eqb-true}
use Rattle.ui_machine.specs.Seq.{total}
use Rattle.ui_machine.specs.Definition.{Definition}
use Rattle.ui_machine.specs.Definition.Places.{Bind}
use Rattle.ui_machine.specs.Rules.Build.{of_items}
use Rattle.ui_machine.specs.Rules.Transfers.{transfer_for}
use Rattle.ui_machine.specs.State.Bindings.{Binding, binding_of}
use Rattle.ui_machine.specs.State.Config.{starts}
use Rattle.ui_machine.specs.State.Tasks as config
use Rattle.ui_machine.specs.State.Tasks.{Item, PlanEntry, Emission, Task, Emitting, Transferring}
use Rattle.ui_machine.specs.Steps.{uncounted}
use Rattle.law_typing.specs.Laws.StepsKeepGood.{IsGood}
use Rattle.law_typing.specs.Graph.Channels.{is_pair, source_of}
use Rattle.law_typing.specs.Verdict.Accepted.{Each, Accepted}
use Rattle.law_typing.specs.Good.Bindings.{BindingGood}
use Rattle.law_typing.specs.Good.Standing.{Standing, standing, view}
use Rattle.law_typing.specs.Good.Objects.{PeersGood}
use Rattle.law_typing.specs.Good.Builds.{is_for_builder}
use Rattle.law_typing.specs.Good.DueCosts.{unsets, transfer_cost, turn_cost, turn_depth}
use Rattle.law_typing.specs.Good.Freezes.{ObjectsFirst}
use Rattle.law_steps.proofs.Kept.AlikeProofs.{build_stays}
use Rattle.law_steps.proofs.Tasked.First.{First, good_of, fine_where, StepIsFine, fine_of, costs, depths}
use Rattle.law_steps.proofs.Tasked.Lowest.{lowest_above}
use Rattle.law_steps.proofs.Tasked.Moving.{handlers_moved, bindings_moved, cost_same, depth_same}
use Rattle.law_steps.proofs.Tasked.TurnProofs.{passed_over}
use Rattle.law_steps.proofs.Tasked.Pairs.{source_end, not_setting}
use Rattle.law_steps.specs.Tasked.Turns.{TransfersAreFine}

-- the binding that a number finds is of that number, and good
pub binding_found : (d : Definition) (s : Standing) (agenda : List Task) (bs : List Binding) (number : ℕ) (b : Binding) → Each (BindingGood d s agenda) bs → binding_of number bs ≡ Some b →
    BindingGood d s agenda b × (b.number ≡ number)
binding_found d s agenda [] number b all e = absurd (cc)
binding_found d s agenda (x ∷ bs) number b all e = go (nat_eq x.number number) refl (λ e. binding_found d s agenda bs number b all.1 e)
  where
    go : (t : Bool) → nat_eq x.number number ≡ t → (binding_of number bs ≡ Some b → BindingGood d s agenda b × (b.number ≡ number)) → BindingGood d s agenda b × (b.number ≡ number)
    go true t later =
        let f = sym (ap (λ t. cond t (Some x) (binding_of number bs)) t) ∙ e in
        let same : x ≡ b = cc in
        (subst (BindingGood d s agenda) same all.0, ap (λ (b : Binding). b.number) (sym same) ∙ eqb-true x.number number t)
    go false t later = later (sym (ap (λ t. cond t (Some x) (binding_of number bs)) t) ∙ e)

-- a transfer whose binding is not to be set free below costs its step
paid : (d : Definition) (a : Accepted d) (below : List Task) (number : ℕ) (back : Bool) (x : Bind) → slice_get d.bindings number ≡ Some x → total (unsets number) below ≡ 0 →
    1 ≤ transfer_cost d a.weighed.costs below back (slice_get d.bindings number)
paid d a below number back x is free = subst (λ o. 1 ≤ transfer_cost d a.weighed.costs below back o) (sym is) (go (is_pair x) refl)
  where
    go : (p : Bool) → is_pair x ≡ p → 1 ≤ transfer_cost d a.weighed.costs below back (Some x)
    go false p = rw p (omega arith)
    go true p = let apart = not_setting d a below number x (record { is = is; pair = p }) (source_of x) (source_end x) free in rw (p, apart) (omega arith)

module _ {d : Definition} (e : Emission) (number : ℕ) (back : Bool) (turns : List PlanEntry) (t : First d (Emitting e (config.transfer number back ∷ turns))) where
  open t use {a, w, rest, n, g}

  abbrev later : List Task
  later = Transferring number back ∷ Emitting e turns ∷ rest

  items_same : (f : Item → ℕ) → total (of_items f) later ≡ total (of_items f) (Emitting e (config.transfer number back ∷ turns) ∷ rest)
  items_same f = omega arith

  unset_same : (x : ℕ) → total (unsets x) later ≡ total (unsets x) (Emitting e (config.transfer number back ∷ turns) ∷ rest)
  unset_same x = omega arith

  unset_above : (x : ℕ) → total (unsets x) (Emitting e turns ∷ rest) ≡ total (unsets x) rest
  unset_above x = omega arith

  made_same : total is_for_builder later ≡ total is_for_builder (Emitting e (config.transfer number back ∷ turns) ∷ rest)
  made_same = omega arith

  module _ (b : Binding) (is : binding_of number w.bindings ≡ Some b) (still : b.busy ≡ false) where
    objects_first_later : ObjectsFirst later w.bindings
    objects_first_later = record {
      before = λ some. absurd (let none = (g.objects_first.before (omega (arith, some))).0 in let found = sym is ∙ ap (binding_of number) none in cc);
      one = (let old = g.objects_first.one in omega (arith, old));
    }

    -- what sets is to be set free
    free : total (unsets number) rest ≡ 0
    free =
        let good = binding_found d (standing w.objects) (Emitting e (config.transfer number back ∷ turns) ∷ rest) w.bindings number b g.bindings.each is in
        let none = good.0.setting in
        let sets = ap {B = ℕ} (λ b. cond b 1 0) still in
        let same = ap (λ n. total (unsets n) rest) good.1 in
        omega (arith, none, sets, same)

    -- the transfer of a binding that does not set is paid for
    counted_step : 1 ≤ turn_cost d (costs t) (view w) rest (config.transfer number back)
    counted_step =
        let good = binding_found d (standing w.objects) (Emitting e (config.transfer number back ∷ turns) ∷ rest) w.bindings number b g.bindings.each is in
        paid d a rest number back good.0.bind (sym (ap (slice_get d.bindings) good.1) ∙ good.0.is) free

    transfer_good : IsGood d a t.most_counted (record { world = w; agenda = later; counted = n })
    transfer_good =
        let old = g.agenda.3 in
        let turn = turn_cost d (costs t) (view w) rest (config.transfer number back) in
        good_of t w later
        (record {
          objects = refl;
          whole = record {
            objects = g.objects;
            handlers = handlers_moved d (costs t) (depths t) (Emitting e (config.transfer number back ∷ turns) ∷ rest) later items_same (standing w.objects) w.last_handler w.handlers g.handlers;
            bindings = bindings_moved d (costs t) (depths t) (Emitting e (config.transfer number back ∷ turns) ∷ rest) later items_same unset_same (standing w.objects) w.bindings g.bindings;
            sources = g.sources;
            held = g.held;
            floating = g.floating;
            objects_first = objects_first_later;
          };
          pool = subst (λ made. PeersGood d w.peers (length w.builder + made)) (sym made_same) g.peers;
          to_make = omega arith;
          makes = omega arith;
          build = build_stays d w.builder (Emitting e (config.transfer number back ∷ turns) ∷ rest) later rest made_same g.build;
          frozen = λ id. omega arith;
          lowest = λ id some. (let above = lowest_above d id (Transferring number back) (Emitting e turns ∷ rest) (omega (arith, some)) in omega (arith, above));
          no_set = (let none = g.sets.first in omega (arith, none));
          no_source = (let none = g.sets.alone in omega (arith, none));
          budget = g.agenda.0 + g.agenda.2;
          less = omega arith;
          good = (
            turn,
            turn_depth d (depths t) (view w) rest (config.transfer number back),
            total (turn_cost d (costs t) (view w) rest) turns + g.agenda.2,
            (
              tt,
              record {
                free = (let none = free in omega (arith, none));
                goes_back = old.turns_fit.0.0;
                cheap = (let same = cost_same d rest (Emitting e turns ∷ rest) unset_above (costs t) back (slice_get d.bindings number) in omega (arith, same));
                one = (counted_step);
                shallow = (let same = depth_same d rest (Emitting e turns ∷ rest) unset_above (depths t) back (slice_get d.bindings number) in omega (arith, same));
              },
            ),
            (let deep = old.shallow.0 in let low = g.agenda.4 in omega (arith, deep, low)),
            (let c = old.cheap in omega (arith, c)),
            (
              total (turn_cost d (costs t) (view w) rest) turns,
              g.agenda.1,
              g.agenda.2,
              record { fits = old.fits; suits = old.suits; turns_fit = old.turns_fit.1; cheap = omega arith; shallow = old.shallow.1; one = old.one },
              g.agenda.4,
              omega arith,
              g.agenda.6,
            ),
          );
        })

  does : (o : Option Binding) → binding_of number w.bindings ≡ o →
      uncounted rest n (starts w (transfer_for (binding_of number w.bindings) number back ++ Emitting e turns ∷ [])) ≡ uncounted rest n (starts w (transfer_for o number back ++ Emitting e turns ∷ []))
  does o is = ap (λ o. uncounted rest n (starts w (transfer_for o number back ++ Emitting e turns ∷ []))) is

  transfer_fine : (o : Option Binding) → binding_of number w.bindings ≡ o → StepIsFine t
  transfer_fine None is = fine_where t (record { world = w; agenda = Emitting e turns ∷ rest; counted = n }) (does None is) (passed_over t)
  transfer_fine (Some b) is = go b.busy refl
    where
      go : (busy : Bool) → b.busy ≡ busy → StepIsFine t
      go true sets = fine_where t (record { world = w; agenda = Emitting e turns ∷ rest; counted = n }) (does (Some b) is ∙ rw sets refl) (passed_over t)
      go false still = fine_where t (record { world = w; agenda = later; counted = n }) (does (Some b) is ∙ rw still refl) (transfer_good b is still)

pub transfers_are_fine : TransfersAreFine
transfers_are_fine e number back turns = fine_of (λ d t. transfer_fine e number back turns t (binding_of number t.w.bindings) refl)
