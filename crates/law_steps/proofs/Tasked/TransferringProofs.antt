-- A due transfer: the value of one end of its binding is due at the other, and the binding sets; or nothing is to be set.
use Rattle.std.proofs.Common.{◌≡◌, refl, sym, ap, subst, ◌∙◌, ℕ, suc, ◌+◌, ◌<◌, ◌≤◌, Bool, true, false, cond, List, [], ◌∷◌, length, Option, None, Some, Ok, slice_get, arith}
use Rattle.std.specs.Prelude.{not}
use Rattle.std.proofs.lemmas.Bool.{eq-eqb}
use Rattle.ui_machine.specs.Seq.{total}
use Rattle.ui_machine.specs.Definition.{Definition}
use Rattle.ui_machine.specs.Definition.Places.{Bind}
use Rattle.ui_machine.specs.Definition.Properties.{Spec, is_readable, is_writable, is_construct_only, has_flags}
use Rattle.ui_machine.specs.Definition.Values.{Value}
use Rattle.ui_machine.specs.Rules.Build.{of_items}
use Rattle.ui_machine.specs.Rules.Sets.{has_kind, spec_at}
use Rattle.ui_machine.specs.Rules.Transfers.{End, source_end, target_end, inverts, inverted, set_by, carried, carried_by, transferring}
use Rattle.ui_machine.specs.Rules.Transform.{kind_fits, transformed}
use Rattle.ui_machine.specs.State.Bindings.{Binding, binding_of, with_busy}
use Rattle.ui_machine.specs.State.Config.{World, starts}
use Rattle.ui_machine.specs.State.Objects.{asked, value_at}
use Rattle.ui_machine.specs.State.References.{mentions}
use Rattle.ui_machine.specs.State.Tasks.{Item, Task, Setting, Transferring, Unsetting}
use Rattle.ui_machine.specs.Steps.{uncounted}
use Rattle.law_typing.specs.Rules.BindingRules.{word_of}
use Rattle.law_typing.specs.Graph.Channels.{Channel, property, is_pair, source_of, target_of}
use Rattle.law_typing.specs.Graph.Channels as channels
use Rattle.law_typing.specs.Verdict.Accepted.{Accepted}
use Rattle.law_typing.specs.Laws.StepsKeepGood.{IsGood}
use Rattle.law_typing.specs.Good.Standing.{standing, view, class_by, lives_by}
use Rattle.law_typing.specs.Good.Objects.{ValueGood, PeersGood}
use Rattle.law_typing.specs.Good.ComingDown.{none}
use Rattle.law_typing.specs.Good.Bindings.{BindingGood}
use Rattle.law_typing.specs.Good.Builds.{is_for_builder}
use Rattle.law_typing.specs.Good.DueCosts.{unsets, has_end, due_cost, due_depth, transfer_cost, transfer_depth}
use Rattle.law_typing.specs.Good.Freezes.{ObjectsFirst}
use Rattle.law_typing.proofs.Lists.{both_parts, each_in}
use Rattle.law_typing.proofs.PairProofs.{no_words}
use Rattle.law_static.proofs.SubclassProofs.{get_in}
use Rattle.law_static.proofs.StartProofs.{due_within}
use Rattle.law_steps.specs.Kept.Bindings.{OneMore}
use Rattle.law_steps.proofs.Kept.AlikeProofs.{build_stays}
use Rattle.law_steps.proofs.Kept.BindingsProofs.{binding_sets}
use Rattle.law_steps.proofs.Instructed.Ended.{lowest_falls}
use Rattle.law_steps.proofs.Instructed.ReadProofs.{spec_is}
use Rattle.law_steps.proofs.Instructed.SetProofs.{held_from}
use Rattle.law_steps.proofs.Tasked.Bound.{agenda_bound}
use Rattle.law_steps.proofs.Tasked.CarryingProofs.{value_is}
use Rattle.law_steps.proofs.Tasked.Carried.{Leads, leads_forwards, leads_backwards, carried_sets}
use Rattle.law_steps.proofs.Tasked.Changed.{AsFrozen, no_sets, queue_moved, changed_well, fine_counted}
use Rattle.law_steps.proofs.Tasked.First.{First, none_later, StepIsFine, fine_of, costs, depths, most}
use Rattle.law_steps.proofs.Tasked.FreeingProofs.{objects_freed}
use Rattle.law_steps.proofs.Tasked.Lowest.{lowest_above}
use Rattle.law_steps.proofs.Tasked.Moving.{handlers_moved, bindings_moved}
use Rattle.law_steps.proofs.Tasked.Pairs as pairs
use Rattle.law_steps.proofs.Tasked.Pairs.{not_setting, is_setting}
use Rattle.law_steps.proofs.Tasked.SettingProofs.{Owns, owns}
use Rattle.law_steps.proofs.Tasked.TransferProofs.{binding_found}
use Rattle.law_steps.specs.Tasked.Transferring.{DueTransfersAreFine}

-- ** what the machine does

carries : (d : Definition) (w : World) (b : Binding) (source target : End) (from to : Spec) (v : Value) → spec_at d w.objects source.object source.slot ≡ Ok from →
    spec_at d w.objects target.object target.slot ≡ Ok to → asked w.objects source.object (value_at source.slot) ≡ Ok v → is_readable from ≡ true → is_writable to ≡ true → not (is_construct_only to) ≡ true →
    carried d w b source target ≡ set_by w b.number target (inverted (inverts b) (transformed d.types from.kind to.kind v))
unfolding carried
carries d w b source target from to v a c e readable writable free = rw (a, c, e, readable, writable, free) refl

-- ** what it costs

module _ (d : Definition) (a : Accepted d) (rest : List Task) (number : ℕ) (back : Bool) (x : Bind) (is : slice_get d.bindings number ≡ Some x) (free : total (unsets number) rest ≡ 0)
    (pair_back : back ≡ true → is_pair x ≡ true) where
  -- the end at which the value is due
  abbrev pub there : Channel
  there = cond back (source_of x) (target_of x)

  one_end : (back : Bool) → has_end (cond back (source_of x) (target_of x)) x ≡ true
  one_end true = pairs.source_end x
  one_end false = pairs.target_end x

  set_free : 0 < total (unsets number) (Unsetting number ∷ rest)
  set_free = let one = ap {B = ℕ} (λ b. cond b 1 0) (eq-eqb number number refl) in omega (arith, one)

  forwards : is_pair x ≡ false → back ≡ false
  forwards one = go back pair_back
    where
      go : (back : Bool) → (back ≡ true → is_pair x ≡ true) → back ≡ false
      go false f = refl
      go true f = absurd (let pair = f refl in cc)

  -- the set costs a step less than the transfer may
  pub cheaper : 1 + due_cost d a.weighed.costs (Unsetting number ∷ rest) there ≤ transfer_cost d a.weighed.costs rest back (Some x)
  cheaper = go (is_pair x) refl
    where
      go : (p : Bool) → is_pair x ≡ p → 1 + due_cost d a.weighed.costs (Unsetting number ∷ rest) there ≤ transfer_cost d a.weighed.costs rest back (Some x)
      go true pair =
          let p : pairs.PairIs d number x = record { is = is; pair = pair } in
          let sets = is_setting d a (Unsetting number ∷ rest) number x p there (one_end back) set_free in
          let not = not_setting d a rest number x p (source_of x) (pairs.source_end x) free in
          rw (pair, not, sets) (omega arith)
      go false one =
          let way = forwards one in
          let node = (due_within d a (Unsetting number ∷ rest) x.target x.target_slot).0 in
          rw (one, way) (omega (arith, node))

  pub shallower : due_depth d a.weighed.depths (Unsetting number ∷ rest) there ≤ transfer_depth d a.weighed.depths rest back (Some x)
  shallower = go (is_pair x) refl
    where
      go : (p : Bool) → is_pair x ≡ p → due_depth d a.weighed.depths (Unsetting number ∷ rest) there ≤ transfer_depth d a.weighed.depths rest back (Some x)
      go true pair =
          let p : pairs.PairIs d number x = record { is = is; pair = pair } in
          let sets = is_setting d a (Unsetting number ∷ rest) number x p there (one_end back) set_free in
          let not = not_setting d a rest number x p (source_of x) (pairs.source_end x) free in
          rw (pair, not, sets) (omega arith)
      go false one =
          let way = forwards one in
          let node = (due_within d a (Unsetting number ∷ rest) x.target x.target_slot).1 in
          rw (one, way) (omega (arith, node))

-- ** from one end to the other

-- where a binding leads from and to, and what is known of the properties there
record Way (d : Definition) (w : World) (b : Binding) (x : Bind) (back : Bool) : Type 0 where
  pub source : End
  pub target : End
  pub is : carried_by d w back (Some b) ≡ carried d w b source target
  pub from_place : ℕ
  pub to_place : ℕ
  pub from_stands : standing w.objects source.object ≡ Some from_place
  pub to_stands : standing w.objects target.object ≡ Some to_place
  pub leads : Leads d (has_flags 4 x.flags) (channels.spec_at d from_place source.slot) (channels.spec_at d to_place target.slot)
  pub at : property to_place target.slot ≡ cond back (source_of x) (target_of x)

way_of : (d : Definition) (w : World) (agenda : List Task) (b : Binding) (g : BindingGood d (standing w.objects) agenda b) (back : Bool) → word_of d g.bind ≡ None →
    (back ≡ true → is_pair g.bind ≡ true) → Way d w b g.bind back
way_of d w agenda b g false word pair = record {
  source = source_end b;
  target = target_end b;
  is = refl;
  from_place = g.bind.source;
  to_place = g.bind.target;
  from_stands = g.source;
  to_stands = g.target;
  leads = rw (g.slots.0, g.slots.1) (leads_forwards d g.bind word);
  at = ap (property g.bind.target) g.slots.1;
}
way_of d w agenda b g true word pair = record {
  source = target_end b;
  target = source_end b;
  is = refl;
  from_place = g.bind.target;
  to_place = g.bind.source;
  from_stands = g.target;
  to_stands = g.source;
  leads = rw (g.slots.0, g.slots.1) (leads_backwards d g.bind (pair refl) word);
  at = ap (property g.bind.source) g.slots.0;
}

-- ** the step

module _ {d : Definition} (number : ℕ) (back : Bool) (t : First d (Transferring number back)) where
  open t use {well, a, w, rest, n, g}

  abbrev task : Task
  task = Transferring number back

  -- ** nothing is set

  items_rest : (f : Item → ℕ) → total (of_items f) rest ≡ total (of_items f) (task ∷ rest)
  items_rest f = omega arith

  unset_rest : (x : ℕ) → total (unsets x) rest ≡ total (unsets x) (task ∷ rest)
  unset_rest x = omega arith

  made_rest : total is_for_builder rest ≡ total is_for_builder (task ∷ rest)
  made_rest = omega arith

  as_rest : AsFrozen d (task ∷ rest) rest
  as_rest = record { frozen = λ id. omega arith; lowest = λ id some. lowest_falls d id task rest }

  objects_first_rest : ObjectsFirst rest w.bindings
  objects_first_rest = record {
    before = λ some. (let old = g.objects_first.before (omega (arith, some)) in let none = old.1 in (old.0, omega (arith, none)));
    one = (let old = g.objects_first.one in omega (arith, old));
  }

  idle_good : IsGood d a t.most_counted (record { world = w; agenda = rest; counted = suc n })
  idle_good =
      changed_well t w rest (suc n)
      (record {
        whole = record {
          objects = g.objects;
          handlers = handlers_moved d (costs t) (depths t) (task ∷ rest) rest items_rest (standing w.objects) w.last_handler w.handlers g.handlers;
          bindings = bindings_moved d (costs t) (depths t) (task ∷ rest) rest items_rest unset_rest (standing w.objects) w.bindings g.bindings;
          sources = g.sources;
          held = g.held;
          floating = g.floating;
          objects_first = objects_first_rest;
        };
        pool = subst (λ made. PeersGood d w.peers (length w.builder + made)) (sym made_rest) g.peers;
        build = build_stays d w.builder (task ∷ rest) rest rest made_rest g.build;
        sets = no_sets d (record { world = w; agenda = rest; counted = suc n }) g.sets.first (none_later _ rest g.sets.alone);
        queues = λ id o is. queue_moved d (depths t) (most t) (task ∷ rest) rest n (suc n) id o as_rest (omega arith) (g.queues id o is);
        alive = refl;
        to_make = omega arith;
        makes = omega arith;
        budget = g.agenda.2;
        good = g.agenda.6;
        spent = (let one = g.agenda.3.1.one in omega (arith, one));
      })

  idle_fine : transferring d w number back ≡ starts w [] → StepIsFine t
  idle_fine is = fine_counted t (transferring d w number back) (record { world = w; agenda = rest; counted = suc n }) refl g.agenda.3.1.one (ap (uncounted rest (suc n)) is) idle_good

  -- ** a value is set

  module _ (b : Binding) (found : binding_of number w.bindings ≡ Some b) (good : BindingGood d (standing w.objects) (task ∷ rest) b) (numbered : b.number ≡ number)
      (way : Way d w b good.bind back) (u : Value) where
    abbrev later : List Task
    later = Setting way.target.object way.target.slot u ∷ Unsetting number ∷ rest

    abbrev bound : World
    bound = record w { bindings = with_busy number true w.bindings }

    items_later : (f : Item → ℕ) → total (of_items f) later ≡ total (of_items f) (task ∷ rest)
    items_later f = omega arith

    made_later : total is_for_builder later ≡ total is_for_builder (task ∷ rest)
    made_later = omega arith

    one_more : OneMore number (task ∷ rest) later
    one_more = record { unset = λ n. omega arith; items = omega arith }

    as_later : AsFrozen d (task ∷ rest) later
    as_later = record {
      frozen = λ id. omega arith;
      lowest = λ id some. (
          let first = lowest_above d id (Setting way.target.object way.target.slot u) (Unsetting number ∷ rest) (omega (arith, some)) in
          let second = lowest_above d id (Unsetting number) rest (omega (arith, some)) in
          let was = lowest_above d id task rest (omega (arith, some)) in
          omega (arith, first, second, was));
    }

    objects_first_later : ObjectsFirst later (with_busy number true w.bindings)
    objects_first_later = record {
      before = λ some. absurd (let none = (g.objects_first.before (omega (arith, some))).0 in let f = sym found ∙ ap (binding_of number) none in cc);
      one = (let old = g.objects_first.one in omega (arith, old));
    }

    bind_is : slice_get d.bindings number ≡ Some good.bind
    bind_is = sym (ap (slice_get d.bindings) numbered) ∙ good.is

    pair_back : back ≡ true → is_pair good.bind ≡ true
    pair_back e = g.agenda.3.1.goes_back e good.bind bind_is

    set_good : has_kind u way.leads.to.kind ≡ true → lives_by (standing w.objects) u ≡ true → IsGood d a t.most_counted (record { world = bound; agenda = later; counted = suc n })
    set_good kind lives =
        let due = g.agenda.3.1 in
        let cost = due_cost d (costs t) (Unsetting number ∷ rest) (property way.to_place way.target.slot) in
        let deep = due_depth d (depths t) (Unsetting number ∷ rest) (property way.to_place way.target.slot) in
        let cheap = cheaper d a rest number back good.bind bind_is due.free pair_back in
        let shallow = shallower d a rest number back good.bind bind_is due.free pair_back in
        let same_cost = ap (due_cost d (costs t) (Unsetting number ∷ rest)) way.at in
        let same_depth = ap (due_depth d (depths t) (Unsetting number ∷ rest)) way.at in
        let own_cost = ap (transfer_cost d (costs t) rest back) bind_is in
        let own_depth = ap (transfer_depth d (depths t) rest back) bind_is in
        let may_cost = due.cheap in
        let may_deep = due.shallow in
        let low = g.agenda.4 in
        changed_well t bound later (suc n)
        (record {
          whole = record {
            objects = objects_freed d w (with_busy number true w.bindings) g.objects;
            handlers = handlers_moved d (costs t) (depths t) (task ∷ rest) later items_later (standing w.objects) w.last_handler w.handlers g.handlers;
            bindings = binding_sets d (standing w.objects) (task ∷ rest) later w.bindings number one_more (let none = due.free in omega (arith, none)) g.bindings;
            sources = g.sources;
            held = g.held;
            floating = g.floating;
            objects_first = objects_first_later;
          };
          pool = subst (λ made. PeersGood d w.peers (length w.builder + made)) (sym made_later) g.peers;
          build = build_stays d w.builder (task ∷ rest) later rest made_later g.build;
          sets = record {
            alone = (let none = g.sets.alone in omega (arith, none));
            first = (let none = g.sets.first in omega (arith, none));
            held = λ some. held_from (mentions d (record { world = w; agenda = task ∷ rest; counted = n })) _ (λ o. omega arith) 1 w.objects t.settled;
          };
          queues = λ id o is. queue_moved d (depths t) (most t) (task ∷ rest) later n (suc n) id o as_later (omega arith) (g.queues id o is);
          alive = refl;
          to_make = omega arith;
          makes = omega arith;
          budget = cost + g.agenda.2;
          good = (
            cost,
            deep,
            g.agenda.2,
            (
              tt,
              record {
                due = record { place = way.to_place; is = way.to_stands; spec = way.leads.to; has = way.leads.there; cheap = omega arith; shallow = omega arith };
                kind = kind;
                lives = lives;
              },
            ),
            omega (arith, low, shallow, same_depth, own_depth, may_deep),
            omega arith,
            (0, 0, g.agenda.2, tt, omega (arith, low), omega arith, agenda_bound d (costs t) (depths t) (view w) number true (most t) none rest g.agenda.2 g.agenda.6),
          );
          spent = omega (arith, cheap, same_cost, own_cost, may_cost);
        })

  -- ** what is carried over

  module _ (b : Binding) (found : binding_of number w.bindings ≡ Some b) (good : BindingGood d (standing w.objects) (task ∷ rest) b) (numbered : b.number ≡ number) where
    bind_here : slice_get d.bindings number ≡ Some good.bind
    bind_here = sym (ap (slice_get d.bindings) numbered) ∙ good.is

    way : Way d w b good.bind back
    way =
        way_of d w (task ∷ rest) b good back
        (each_in (λ b. word_of d b ≡ None) d.bindings (no_words d 0 d.bindings a.bindings) good.bind (get_in d.bindings number good.bind bind_here))
        (λ e. g.agenda.3.1.goes_back e good.bind bind_here)

    source : Owns d w way.source.object way.from_place way.source.slot way.leads.from
    source = owns d w g.objects way.source.object way.from_place way.source.slot way.leads.from way.from_stands way.leads.has

    target : Owns d w way.target.object way.to_place way.target.slot way.leads.to
    target = owns d w g.objects way.target.object way.to_place way.target.slot way.leads.to way.to_stands way.leads.there

    transfer_fine : StepIsFine t
    transfer_fine = go (inverted (inverts b) (transformed d.types way.leads.from.kind way.leads.to.kind v.value)) refl
      where
        v : ValueGood d (standing w.objects) way.leads.from (slice_get source.o.values way.source.slot)
        v = source.good.values way.source.slot way.leads.from source.has

        fits : kind_fits (class_by d (standing w.objects)) d.types v.value way.leads.from.kind ≡ true
        fits = (both_parts (kind_fits (class_by d (standing w.objects)) d.types v.value way.leads.from.kind) _ v.valid).0

        does : (o : Option Value) → inverted (inverts b) (transformed d.types way.leads.from.kind way.leads.to.kind v.value) ≡ o → transferring d w number back ≡ set_by w number way.target o
        does o is =
            ap (carried_by d w back) found
            ∙ (way.is
            ∙ (carries d w b way.source way.target way.leads.from way.leads.to v.value (spec_is d w way.source.object way.source.slot source.o way.leads.from source.lives source.has)
            (spec_is d w way.target.object way.target.slot target.o way.leads.to target.lives target.has)
            (value_is w way.source.object way.source.slot source.o v.value source.lives v.is) way.leads.readable way.leads.writable way.leads.not_construct_only
            ∙ (ap (set_by w b.number way.target) is ∙ ap (λ n. set_by w n way.target o) numbered)))

        go : (o : Option Value) → inverted (inverts b) (transformed d.types way.leads.from.kind way.leads.to.kind v.value) ≡ o → StepIsFine t
        go None is = idle_fine (does None is)
        go (Some u) is =
            let sets = carried_sets d (standing w.objects) (inverts b) way.leads.from.kind way.leads.to.kind v.value u fits way.leads.transformable is in
            fine_counted t (transferring d w number back) (record { world = bound b found good numbered way u; agenda = later b found good numbered way u; counted = suc n }) refl g.agenda.3.1.one
            (ap (uncounted rest (suc n)) (does (Some u) is))
            (set_good b found good numbered way u sets.0 sets.1)

  due_fine : (o : Option Binding) → binding_of number w.bindings ≡ o → StepIsFine t
  due_fine None is = idle_fine (ap (carried_by d w back) is)
  due_fine (Some b) is =
      let good = binding_found d (standing w.objects) (task ∷ rest) w.bindings number b g.bindings.each is in transfer_fine b is good.0 good.1

pub due_transfers_are_fine : DueTransfersAreFine
due_transfers_are_fine number back = fine_of (λ d t. due_fine number back t (binding_of number t.w.bindings) refl)
