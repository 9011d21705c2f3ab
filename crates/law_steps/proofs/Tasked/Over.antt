-- The transfers of a notification: each listens to the property, and goes no deeper than what is due there.
use Rattle.std.proofs.Common.{◌≡◌, inl, inr, refl, sym, ap, subst, ◌∙◌, ℕ, zero, suc, ◌+◌, ◌≤◌, Bool, true, false, cond, List, [], ◌∷◌, Option, None, Some, slice_get, arith}
use Rattle.std.specs.Prelude.{not, nat_eq, ◌&&◌, ◌||◌, ◌⊎◌}
use Rattle.std.specs.List.{filter}
use Rattle.std.proofs.lemmas.Bool.{eq-eqb, eqb-true, eqb-false}
use Rattle.ui_machine.specs.Seq.{total}
use Rattle.ui_machine.specs.Definition.{Definition}
use Rattle.ui_machine.specs.Definition.Places.{Bind}
use Rattle.ui_machine.specs.Definition.Properties.{has_flags}
use Rattle.ui_machine.specs.State.Bindings.{Binding, binding_of, is_bidirectional, is_source, is_target, listens, goes_back, transfers}
use Rattle.ui_machine.specs.State.Config.{World}
use Rattle.ui_machine.specs.State.Tasks as config
use Rattle.ui_machine.specs.State.Tasks.{PlanEntry, Emission, Task}
use Rattle.law_typing.specs.Rules.BindingRules.{word_of, shares_end}
use Rattle.law_typing.specs.Graph.{Raised, graph, pairs_of}
use Rattle.law_typing.specs.Graph.Channels.{Channel, property, same_channel, is_pair, source_of, target_of}
use Rattle.law_typing.specs.Graph.Costs.{other_end_in, other_end}
use Rattle.law_typing.specs.Graph.Depths.{depth_within, depth_within_if, raised_of, property_depth}
use Rattle.law_typing.specs.Graph.Tables.{Tables, entry}
use Rattle.law_typing.specs.Verdict.Accepted.{Each, Accepted}
use Rattle.law_typing.specs.Laws.{IsIn}
use Rattle.law_typing.specs.Good.Standing.{standing, view, Rising}
use Rattle.law_typing.specs.Good.Bindings.{BindingGood, BindingsGood}
use Rattle.law_typing.specs.Good.DueCosts.{unsets, has_end, is_setting_below, due_depth, transfer_depth, turn_depth}
use Rattle.law_typing.specs.Good.Emissions.{GoesBack, TurnGood}
use Rattle.law_typing.proofs.Lists.{each_in, filter_in, map_in, greatest_in}
use Rattle.law_typing.proofs.PairProofs.{NoSecond, no_words, no_second, later_apart, pair_read}
use Rattle.law_static.specs.Raises.{raised_there, ChannelKnown}
use Rattle.law_static.proofs.SubclassProofs.{get_in}
use Rattle.law_static.proofs.NotifyCostProofs.{source_here, target_here, source_apart}
use Rattle.law_static.proofs.PairCostProofs.{other_of, sharing, ordered, passed, no_end}
use Rattle.law_steps.proofs.Tasked.Pairs as pairs
use Rattle.law_steps.proofs.Tasked.Pairs.{not_setting, is_setting}
use Rattle.law_steps.proofs.Tasked.Planned.{each_passing}

-- ** bindings under rising numbers

-- no binding of the list has a number below the one where the numbers begin
above : (k : ℕ) (bs : List Binding) (b : Binding) → Rising (λ (b : Binding). b.number) k bs → IsIn b bs → k ≤ b.number
above k [] b r h = absurd h
above k (x ∷ bs) b r (inl e) = let low = r.0 in let same = ap (λ (b : Binding). b.number) e in omega (arith, low, same)
above k (x ∷ bs) b r (inr h) = let low = r.0 in let more = above (suc x.number) bs b r.1 h in omega (arith, low, more)

-- each is the one that its number finds
pub finds_itself : (k : ℕ) (bs : List Binding) (b : Binding) → Rising (λ (b : Binding). b.number) k bs → IsIn b bs → binding_of b.number bs ≡ Some b
finds_itself k [] b r h = absurd h
finds_itself k (x ∷ bs) b r (inl e) =
    ap (λ t. cond t (Some x) (binding_of b.number bs)) (eq-eqb x.number b.number (ap (λ (b : Binding). b.number) (sym e))) ∙ ap (λ (b : Binding). Some b) (sym e)
finds_itself k (x ∷ bs) b r (inr h) = go (nat_eq x.number b.number) refl (finds_itself (suc x.number) bs b r.1 h)
  where
    go : (t : Bool) → nat_eq x.number b.number ≡ t → binding_of b.number bs ≡ Some b → cond t (Some x) (binding_of b.number bs) ≡ Some b
    go true t later = absurd (let same = eqb-true x.number b.number t in let low = above (suc x.number) bs b r.1 h in omega (arith, same, low))
    go false t later = later

-- ** the other end of a pair

other_in : (d : Definition) (costs : Tables) (below : List Task) (c : Channel) (earlier xs : List Bind) (k : ℕ) (x : Bind) → Each (λ b. word_of d b ≡ None) xs → NoSecond earlier xs →
    slice_get xs k ≡ Some x → is_pair x ≡ true → has_end c x ≡ true → other_end_in (pairs_of xs) c ≡ Some (other_of c x)
other_in d costs below c earlier [] k x words once is pair end = absurd (cc)
other_in d costs below c earlier (y ∷ ys) zero x words once is pair end =
    let same : y ≡ x = cc in
    subst (λ z. other_end_in (pairs_of (y ∷ ys)) c ≡ Some (other_of c z)) same (here (ap is_pair same ∙ pair) (ap (has_end c) same ∙ end))
  where
    here : is_pair y ≡ true → has_end c y ≡ true → other_end_in (pairs_of (y ∷ ys)) c ≡ Some (other_of c y)
    here p e = rw p (ordered d costs below c y (same_channel (source_of y) c) (same_channel (target_of y) c) (other_end_in (pairs_of ys) c) refl refl (pair_read d y p words.0).two e)
other_in d costs below c earlier (y ∷ ys) (suc k) x words once is pair end = go (is_pair y) refl (other_in d costs below c (y ∷ earlier) ys k x words.1 once.1 is pair end)
  where
    apart : is_pair y ≡ true → has_end c y ≡ false
    apart p = by (has_end c y) refl
      where
        by : (b : Bool) → has_end c y ≡ b → has_end c y ≡ false
        by false e = e
        by true e =
            absurd (let no = each_in (λ z. is_pair z ≡ true → shares_end y z ≡ false) ys (later_apart y (y ∷ earlier) ys p (inl refl) once.1) x (get_in ys k x is) pair in
            let yes = sharing c y x e end in cc)

    go : (p : Bool) → is_pair y ≡ p → other_end_in (pairs_of ys) c ≡ Some (other_of c x) → other_end_in (pairs_of (y ∷ ys)) c ≡ Some (other_of c x)
    go false p later = rw p later
    go true p later = let no = no_end d costs below c y (apart p) in rw p (passed d costs below c y (other_end_in (pairs_of ys) c) no.0 no.1 ∙ later)

pub other_end_is : (d : Definition) (a : Accepted d) (c : Channel) (number : ℕ) (x : Bind) → pairs.PairIs d number x → has_end c x ≡ true → other_end (graph d) c ≡ Some (other_of c x)
other_end_is d a c number x p end = other_in d a.weighed.costs [] c [] d.bindings number x (no_words d 0 d.bindings a.bindings) (no_second [] 0 d.bindings a.pairs) p.is p.pair end

-- ** depths

module _ (d : Definition) (a : Accepted d) (w : World) (agenda below : List Task) (id place slot : ℕ) (stands : standing w.objects id ≡ Some place)
    (bindings : BindingsGood d (standing w.objects) agenda w.bindings) (known : ChannelKnown d a (property place slot)) (frames : ℕ)
    (deep : due_depth d a.weighed.depths below (property place slot) ≤ frames) where
  abbrev c : Channel
  c = property place slot

  abbrev r : Raised
  r = raised_there d c

  abbrev depths : Tables
  depths = a.weighed.depths

  words : Each (λ b. word_of d b ≡ None) d.bindings
  words = no_words d 0 d.bindings a.bindings

  -- a property's emission is at least as deep as what runs in it
  own_within : (o : Option Channel) → 1 + depth_within depths r ≤ property_depth (graph d) depths r o
  own_within None = omega arith
  own_within (Some other) = omega arith

  pub own_deep : 1 + depth_within depths r ≤ frames
  own_deep = go (is_setting_below d below c) refl
    where
      go : (b : Bool) → is_setting_below d below c ≡ b → 1 + depth_within depths r ≤ frames
      go true e =
          let due : due_depth d depths below c ≡ 1 + depth_within depths r = rw (e, known.found) refl in
          omega (arith, due, deep)
      go false e =
          let due : due_depth d depths below c ≡ entry depths.channels c = rw e refl in
          let is = known.deep in
          let own = own_within (other_end (graph d) c) in
          omega (arith, due, is, own, deep)

  -- over a pair
  pair_deep : (b : Binding) (g : BindingGood d (standing w.objects) agenda b) → is_pair g.bind ≡ true → (same_channel (source_of g.bind) c ≡ true) ⊎ (same_channel (target_of g.bind) c ≡ true) →
      (back : Bool) → other_of c g.bind ≡ cond back (source_of g.bind) (target_of g.bind) → 1 + transfer_depth d depths below back (Some g.bind) ≤ frames
  pair_deep b g pair end back other = go (is_setting_below d below (source_of g.bind)) refl
    where
      p : pairs.PairIs d b.number g.bind
      p = record { is = g.is; pair = pair }

      ends : has_end c g.bind ≡ true
      ends = by end
        where
          by : (same_channel (source_of g.bind) c ≡ true) ⊎ (same_channel (target_of g.bind) c ≡ true) → has_end c g.bind ≡ true
          by (inl e) = rw e refl
          by (inr e) = go (same_channel (source_of g.bind) c)
            where
              go : (t : Bool) → cond t true (same_channel (target_of g.bind) c) ≡ true
              go true = refl
              go false = e

      not_here : is_setting_below d below (source_of g.bind) ≡ false → is_setting_below d below c ≡ false
      not_here e = by (nat_eq (total (unsets b.number) below) 0) refl
        where
          by : (z : Bool) → nat_eq (total (unsets b.number) below) 0 ≡ z → is_setting_below d below c ≡ false
          by true z = not_setting d a below b.number g.bind p c ends (eqb-true (total (unsets b.number) below) 0 z)
          by false z =
              absurd (let some = eqb-false (total (unsets b.number) below) 0 z in
              let sets = is_setting d a below b.number g.bind p (source_of g.bind) (pairs.source_end g.bind) (omega (arith, some)) in cc)

      go : (s : Bool) → is_setting_below d below (source_of g.bind) ≡ s → 1 + transfer_depth d depths below back (Some g.bind) ≤ frames
      go true e =
          let own = own_deep in
          let none : transfer_depth d depths below back (Some g.bind) ≡ 0 = rw (pair, e) refl in
          omega (arith, own, none)
      go false e =
          let due : due_depth d depths below c ≡ entry depths.channels c = ap (λ b. cond b (1 + depth_within_if depths (raised_of (graph d) c)) (entry depths.channels c)) (not_here e) in
          let is = known.deep in
          let two = ap (property_depth (graph d) depths r) (other_end_is d a c b.number g.bind p ends) in
          let there = ap (λ x. depth_within_if depths (raised_of (graph d) x)) other in
          let over : transfer_depth d depths below back (Some g.bind) ≡ 1 + depth_within_if depths (raised_of (graph d) (cond back (source_of g.bind) (target_of g.bind))) = rw (pair, e) refl in
          omega (arith, due, is, two, there, over, deep)

  -- one way
  target_deep : (b : Binding) (g : BindingGood d (standing w.objects) agenda b) → is_pair g.bind ≡ false → is_source id slot b ≡ true → (back : Bool) →
      1 + transfer_depth d depths below back (Some g.bind) ≤ frames
  target_deep b g one src back =
      let here = source_here d a.weighed.costs w below id place slot agenda w.objects stands words b g src in
      let passes : (not (is_pair g.bind) && same_channel (source_of g.bind) c) ≡ true = rw (one, here) refl in
      let among = map_in target_of (filter (λ (x : Bind). not (is_pair x) && same_channel (source_of x) c) d.bindings) g.bind
      (filter_in (λ (x : Bind). not (is_pair x) && same_channel (source_of x) c) d.bindings g.bind passes (get_in d.bindings b.number g.bind g.is)) in
      let low = greatest_in (entry depths.channels) r.targets (target_of g.bind) among in
      let own = own_deep in
      let over : transfer_depth d depths below back (Some g.bind) ≡ entry depths.channels (target_of g.bind) = rw one refl in
      omega (arith, low, own, over)

  -- ** the turns

  bidirectional : (b : Binding) (g : BindingGood d (standing w.objects) agenda b) → is_bidirectional b ≡ is_pair g.bind
  bidirectional b g = ap (has_flags 1) g.slots.2

  binding_deep : (b : Binding) (g : BindingGood d (standing w.objects) agenda b) → listens id slot b ≡ true → 1 + transfer_depth d depths below (goes_back id slot b) (Some g.bind) ≤ frames
  binding_deep b g hears = of (is_pair g.bind) (is_source id slot b) (is_target id slot b) refl refl refl (ap (λ p. is_source id slot b || (p && is_target id slot b)) (sym (bidirectional b g)) ∙ hears)
    where
      of : (p s t : Bool) → is_pair g.bind ≡ p → is_source id slot b ≡ s → is_target id slot b ≡ t → (s || (p && t)) ≡ true → 1 + transfer_depth d depths below (goes_back id slot b) (Some g.bind) ≤ frames
      of false true t pair src tgt e = target_deep b g pair src (goes_back id slot b)
      of false false t pair src tgt e = absurd (cc)
      of true true t pair src tgt e =
          let here = source_here d a.weighed.costs w below id place slot agenda w.objects stands words b g src in
          pair_deep b g pair (inl here) (goes_back id slot b) (rw (here, src) refl)
      of true false true pair src tgt e =
          let here = target_here d a.weighed.costs w below id place slot agenda w.objects stands words b g tgt in
          let word = each_in (λ b. word_of d b ≡ None) d.bindings words g.bind (get_in d.bindings b.number g.bind g.is) in
          let apart = source_apart d a.weighed.costs w below id place slot agenda w.objects stands words g.bind (pair_read d g.bind pair word).two here in
          pair_deep b g pair (inr here) (goes_back id slot b) (rw (apart, src) refl)
      of true false false pair src tgt e = absurd (cc)

  back_of_pair : (b : Binding) (g : BindingGood d (standing w.objects) agenda b) → listens id slot b ≡ true → GoesBack d b.number (goes_back id slot b)
  back_of_pair b g hears back x is =
      let same : g.bind ≡ x = (let f = sym g.is ∙ is in cc) in
      subst (λ x. is_pair x ≡ true) same (by (is_source id slot b) (is_bidirectional b) refl refl)
    where
      by : (s p : Bool) → is_source id slot b ≡ s → is_bidirectional b ≡ p → is_pair g.bind ≡ true
      by true p e f = absurd (let h = ap not e in let k = back in cc)
      by false true e f = sym (bidirectional b g) ∙ f
      by false false e f = absurd (let h = rw (e, f) at hears in cc)

  pub transfers_good : (e : Emission) → e.object ≡ id → Each (λ turn. TurnGood d (view w) e turn × (1 + turn_depth d depths (view w) below turn ≤ frames)) (transfers id slot w.bindings)
  transfers_good e is =
      each_passing (λ turn. TurnGood d (view w) e turn × (1 + turn_depth d depths (view w) below turn ≤ frames)) (λ (b : Binding). config.transfer b.number (goes_back id slot b)) (listens id slot) w.bindings
      (λ b there hears.
      (let g = each_in (BindingGood d (standing w.objects) agenda) w.bindings bindings.each b there in
      let found = finds_itself 0 w.bindings b bindings.rising there in
      let low = binding_deep b g hears in (
        (
          back_of_pair b g hears,
          λ x at. (slot, (let same : b ≡ x = (let f = sym found ∙ at in cc) in subst (λ object. listens object slot x ≡ true) (sym is) (subst (λ x. listens id slot x ≡ true) same hears))),
        ),
        subst (λ o. 1 + transfer_depth d depths below (goes_back id slot b) o ≤ frames) (sym g.is) low,
      )))
