-- What the turns of a notification cost as it begins.
use Rattle.std.proofs.Common.{◌≡◌, refl, sym, ap, subst, ◌∙◌, ℕ, ◌+◌, ◌-◌, ◌≤◌, Bool, true, false, cond, List, [], ◌∷◌, ◌++◌, length, map, None, Some, slice_get, arith}
use Rattle.std.specs.Prelude.{not, ◌&&◌, ◌||◌, nat_eq}
use Rattle.std.specs.List.{filter}
use Rattle.std.proofs.lemmas.Bool.{eqb-true, eq-eqb}
use Rattle.ui_machine.specs.Seq.{total}
use Rattle.ui_machine.specs.Definition.Properties.{has_flags}
use Rattle.ui_machine.specs.Definition.{Definition}
use Rattle.ui_machine.specs.Definition.Places.{Bind}
use Rattle.ui_machine.specs.State.Objects.{Objects}
use Rattle.ui_machine.specs.State.Handlers.{Handler}
use Rattle.ui_machine.specs.State.Bindings.{Binding, is_bidirectional, is_source, is_target, listens, goes_back, transfers}
use Rattle.ui_machine.specs.State.Tasks.{handler, PlanEntry, Task}
use Rattle.ui_machine.specs.State.Tasks as config
use Rattle.ui_machine.specs.State.Config.{World}
use Rattle.ui_machine.specs.Rules.EmissionPlan.{fits_detail, at_stage, handlers_for, runs_for, class_handler_of}
use Rattle.law_typing.specs.Rules.BindingRules.{word_of}
use Rattle.law_typing.specs.Graph.Channels.{Channel, property, same_channel, is_pair, source_of, target_of, spec_at, of_class}
use Rattle.law_typing.specs.Graph.{graph, listed_if, class_handler_for}
use Rattle.law_typing.specs.Graph.Tables.{Tables, entry, of_program, greatest}
use Rattle.law_typing.specs.Graph.Costs.{node_cost, programs_cost}
use Rattle.law_typing.specs.Verdict.Accepted.{Each}
use Rattle.law_typing.specs.Verdict.Report.{property_name}
use Rattle.law_typing.specs.Good.Standing.{standing}
use Rattle.law_typing.specs.Good.Handlers.{is_connected, running_for}
use Rattle.law_typing.specs.Good.Bindings.{BindingGood}
use Rattle.law_typing.specs.Good.DueCosts.{is_setting_below, transfer_cost}
use Rattle.law_typing.proofs.Lists.{both_parts, each_in, same_channel_true}
use Rattle.law_typing.proofs.PairProofs.{Differ, no_words, no_second, pair_read}
use Rattle.law_static.specs.Rising.{Priced}
use Rattle.law_static.specs.Raises.{raised_there}
use Rattle.law_static.specs.NotifyCost.{NotifyCosts}
use Rattle.law_static.proofs.RisingProofs.{rising_are_found, rising_costs}
use Rattle.law_static.proofs.RaisesProofs.{channels_known}
use Rattle.law_static.proofs.SubclassProofs.{get_in}
use Rattle.law_static.proofs.PlanCostProofs.{total_append, total_first, mapped_first, count_first, times_le, at_most, tc, cost_of, stage, turns_of_found}
use Rattle.law_static.proofs.PairCostProofs.{pair_part, pair_costs}

-- ** handlers

-- of one handler: what it costs in the plan is what it costs among its own or the connected ones
one_handler : (x y z after by_code : Bool) (v : ℕ) →
    cond (((x && y) && z) && not after) v 0 + cond (((x && y) && z) && after) v 0 ≤ cond (not by_code && (x && (y && z))) v 0 + cond (by_code && (x && (y && z))) v 0
one_handler false y z after true v = omega arith
one_handler false y z after false v = omega arith
one_handler true false z after true v = omega arith
one_handler true false z after false v = omega arith
one_handler true true false after true v = omega arith
one_handler true true false after false v = omega arith
one_handler true true true true true v = omega arith
one_handler true true true true false v = omega arith
one_handler true true true false true v = omega arith
one_handler true true true false false v = omega arith

counted_once : (by_code x y z : Bool) → cond (by_code && (x && (y && z))) 1 0 ≤ cond (by_code && (x && y)) 1 0
counted_once false x y z = omega arith
counted_once true false y z = omega arith
counted_once true true false z = omega arith
counted_once true true true true = omega arith
counted_once true true true false = omega arith

module _ (d : Definition) (costs : Tables) (w : World) (below : List Task) (id place slot : ℕ) where
  abbrev name : List ℕ
  name = property_name (spec_at d place slot)

  abbrev c : Channel
  c = property place slot

  planned : (hs : List Handler) → Each (λ (h : Handler). tc d costs w below (handler h.number) ≡ cost_of d costs w below h) hs →
      total (tc d costs w below) (handlers_for hs id 0 (Some name) false) + total (tc d costs w below) (handlers_for hs id 0 (Some name) true)
      ≤ total (cost_of d costs w below) (running_for d false id c hs) + total (cost_of d costs w below) (running_for d true id c hs)
  planned [] all = omega arith
  planned (h ∷ hs) all =
      let ih = planned hs all.1 in
      let v = all.0 in
      let a = mapped_first (tc d costs w below) (λ (h : Handler). handler h.number) (λ (h : Handler). runs_for id 0 (Some name) h && not h.after) h hs in
      let b = mapped_first (tc d costs w below) (λ (h : Handler). handler h.number) (λ (h : Handler). runs_for id 0 (Some name) h && h.after) h hs in
      let o = total_first (cost_of d costs w below) (λ (h : Handler). not h.by_code && (nat_eq h.object id && (nat_eq h.signal 0 && fits_detail h.detail (Some name)))) h hs in
      let e = total_first (cost_of d costs w below) (λ (h : Handler). h.by_code && (nat_eq h.object id && (nat_eq h.signal 0 && fits_detail h.detail (Some name)))) h hs in
      let one = one_handler (nat_eq h.object id) (nat_eq h.signal 0) (fits_detail h.detail (Some name)) h.after h.by_code (cost_of d costs w below h) in
      let a2 = subst (λ n. total (tc d costs w below) (handlers_for (h ∷ hs) id 0 (Some name) false) ≡ cond (runs_for id 0 (Some name) h && not h.after) n 0 + total (tc d costs w below) (handlers_for hs id 0 (Some name) false)) v a in
      let b2 = subst (λ n. total (tc d costs w below) (handlers_for (h ∷ hs) id 0 (Some name) true) ≡ cond (runs_for id 0 (Some name) h && h.after) n 0 + total (tc d costs w below) (handlers_for hs id 0 (Some name) true)) v b in
      omega (arith, ih, a2, b2, o, e, one)

  few_run : (hs : List Handler) → length (running_for d true id c hs) ≤ length (filter (is_connected id 0) hs)
  few_run [] = omega arith
  few_run (h ∷ hs) =
      let ih = few_run hs in
      let a = count_first (λ (h : Handler). h.by_code && (nat_eq h.object id && (nat_eq h.signal 0 && fits_detail h.detail (Some name)))) h hs in
      let b = count_first (is_connected id 0) h hs in
      let one = counted_once h.by_code (nat_eq h.object id) (nat_eq h.signal 0) (fits_detail h.detail (Some name)) in
      omega (arith, ih, a, b, one)

  -- ** transfers

  -- what the transfer of a binding that has not ended costs, if it listens
  abbrev carries : Binding → ℕ
  carries b = cond (listens id slot b) (transfer_cost d costs below (goes_back id slot b) (slice_get d.bindings b.number)) 0

  -- what it may cost by the definition: one way its target, both ways the other end
  abbrev one_way : Bind → ℕ
  one_way x = cond (not (is_pair x) && same_channel (source_of x) c) (1 + node_cost (graph d) costs (target_of x)) 0

  abbrev may_carry : Bind → ℕ
  may_carry x = one_way x + pair_part d costs below c x

  carried_all : (bs : List Binding) → total (tc d costs w below) (transfers id slot bs) ≡ total carries bs
  carried_all [] = refl
  carried_all (b ∷ bs) =
      let h = carried_all bs in
      let a = mapped_first (tc d costs w below) (λ b. config.transfer b.number (goes_back id slot b)) (listens id slot) b bs in
      omega (arith, h, a)

  one_ways : (xs : List Bind) → total one_way xs ≡ total (λ c. 1 + node_cost (graph d) costs c) (map target_of (filter (λ b. not (is_pair b) && same_channel (source_of b) c) xs))
  one_ways [] = refl
  one_ways (x ∷ xs) =
      let h = one_ways xs in
      let a = mapped_first (λ c. 1 + node_cost (graph d) costs c) target_of (λ b. not (is_pair b) && same_channel (source_of b) c) x xs in
      omega (arith, h, a)

  both_ways : (xs : List Bind) → total may_carry xs ≡ total one_way xs + total (pair_part d costs below c) xs
  both_ways [] = omega arith
  both_ways (x ∷ xs) = let h = both_ways xs in omega (arith, h)

  both : (a b : Bool) → a ≡ true → b ≡ true → (a && b) ≡ true
  both a b p q = ap (λ x. x && b) p ∙ q

  module _ (agenda : List Task) (os : Objects) (stands : standing w.objects id ≡ Some place) (words : Each (λ b. word_of d b ≡ None) d.bindings) where
    -- the binding's source or target, where it is the property that is notified
    pub source_here : (b : Binding) (g : BindingGood d (standing w.objects) agenda b) → is_source id slot b ≡ true → same_channel (source_of g.bind) c ≡ true
    source_here b g e =
        let p = both_parts (nat_eq b.source id) (nat_eq b.source_slot slot) e in
        let same_id = eqb-true b.source id p.0 in
        let same_slot = eqb-true b.source_slot slot p.1 in
        let at : g.bind.source ≡ place = (let f = ap (standing w.objects) same_id ∙ stands in let h = sym g.source ∙ f in cc) in
        let on : g.bind.source_slot ≡ slot = sym g.slots.0 ∙ same_slot in
        both (nat_eq g.bind.source place) (nat_eq g.bind.source_slot slot) (eq-eqb g.bind.source place at) (eq-eqb g.bind.source_slot slot on)

    pub target_here : (b : Binding) (g : BindingGood d (standing w.objects) agenda b) → is_target id slot b ≡ true → same_channel (target_of g.bind) c ≡ true
    target_here b g e =
        let p = both_parts (nat_eq b.target id) (nat_eq b.target_slot slot) e in
        let same_id = eqb-true b.target id p.0 in
        let same_slot = eqb-true b.target_slot slot p.1 in
        let at : g.bind.target ≡ place = (let f = ap (standing w.objects) same_id ∙ stands in let h = sym g.target ∙ f in cc) in
        let on : g.bind.target_slot ≡ slot = sym g.slots.1 ∙ same_slot in
        both (nat_eq g.bind.target place) (nat_eq g.bind.target_slot slot) (eq-eqb g.bind.target place at) (eq-eqb g.bind.target_slot slot on)

    -- the source of a pair is not this channel where its target is
    pub source_apart : (x : Bind) → Differ (source_of x) (target_of x) → same_channel (target_of x) c ≡ true → same_channel (source_of x) c ≡ false
    source_apart x differ e = subst (λ c. same_channel (source_of x) c ≡ false) (same_channel_true (target_of x) c e) differ

    priced : (b : Binding) (g : BindingGood d (standing w.objects) agenda b) → carries b ≤ may_carry g.bind
    priced b g = go (listens id slot b) refl
      where
        -- one way
        forward : is_pair g.bind ≡ false → is_source id slot b ≡ true → transfer_cost d costs below (goes_back id slot b) (slice_get d.bindings b.number) ≤ may_carry g.bind
        forward pair src =
            let here = source_here b g src in
            let cost : transfer_cost d costs below (goes_back id slot b) (slice_get d.bindings b.number) ≡ 1 + node_cost (graph d) costs (target_of g.bind) = rw (g.is, pair) in
            let may : one_way g.bind ≡ 1 + node_cost (graph d) costs (target_of g.bind) = rw (pair, here) in
            omega (arith, cost, may)

        -- both ways, from the source and back from the target
        over : is_pair g.bind ≡ true → is_source id slot b ≡ true → transfer_cost d costs below (goes_back id slot b) (slice_get d.bindings b.number) ≤ may_carry g.bind
        over pair src =
            let here = source_here b g src in
            let cost : transfer_cost d costs below (goes_back id slot b) (slice_get d.bindings b.number) ≡ cond (is_setting_below d below (source_of g.bind)) 0 (1 + entry costs.channels (target_of g.bind)) = rw (g.is, pair, src) in
            let may : pair_part d costs below c g.bind ≡ cond (is_setting_below d below (source_of g.bind)) 0 (1 + entry costs.channels (target_of g.bind)) = rw (pair, here) in
            omega (arith, cost, may)

        back : is_pair g.bind ≡ true → is_source id slot b ≡ false → is_target id slot b ≡ true → transfer_cost d costs below (goes_back id slot b) (slice_get d.bindings b.number) ≤ may_carry g.bind
        back pair src tgt =
            let here = target_here b g tgt in
            let word = each_in (λ b. word_of d b ≡ None) d.bindings words g.bind (get_in d.bindings b.number g.bind g.is) in
            let apart = source_apart g.bind (pair_read d g.bind pair word).two here in
            let cost : transfer_cost d costs below (goes_back id slot b) (slice_get d.bindings b.number) ≡ cond (is_setting_below d below (source_of g.bind)) 0 (1 + entry costs.channels (source_of g.bind)) = rw (g.is, pair, src) in
            let may : pair_part d costs below c g.bind ≡ cond (is_setting_below d below (source_of g.bind)) 0 (1 + entry costs.channels (source_of g.bind)) = rw (pair, apart, here) in
            omega (arith, cost, may)

        bidirectional : is_bidirectional b ≡ is_pair g.bind
        bidirectional = ap (has_flags 1) g.slots.2

        of : (p s t : Bool) → is_pair g.bind ≡ p → is_source id slot b ≡ s → is_target id slot b ≡ t → (s || (p && t)) ≡ true →
            transfer_cost d costs below (goes_back id slot b) (slice_get d.bindings b.number) ≤ may_carry g.bind
        of false true t pair src tgt e = forward pair src
        of false false t pair src tgt e = absurd (cc)
        of true true t pair src tgt e = over pair src
        of true false true pair src tgt e = back pair src tgt
        of true false false pair src tgt e = absurd (cc)

        listened : listens id slot b ≡ true → (is_source id slot b || (is_pair g.bind && is_target id slot b)) ≡ true
        listened e = ap (λ p. is_source id slot b || (p && is_target id slot b)) (sym bidirectional) ∙ e

        go : (l : Bool) → listens id slot b ≡ l → cond l (transfer_cost d costs below (goes_back id slot b) (slice_get d.bindings b.number)) 0 ≤ may_carry g.bind
        go false e = omega arith
        go true e = of (is_pair g.bind) (is_source id slot b) (is_target id slot b) refl refl refl (listened e)

    all_priced : (bs : List Binding) → Each (BindingGood d (standing w.objects) agenda) bs → Each (Priced carries may_carry 0 d.bindings) bs
    all_priced [] all = tt
    all_priced (b ∷ bs) all =
        let g = all.0 in
        let same : b.number ≡ b.number - 0 = omega arith in
        ((g.bind, subst (λ n. slice_get d.bindings n ≡ Some g.bind) same g.is, priced b g), all_priced bs all.1)

-- ** the whole

pub notify_costs : NotifyCosts
notify_costs d a w agenda below id place slot class sig begins handlers bindings =
    let costs = a.weighed.costs in
    let ch = property place slot in
    let r = raised_there d ch in
    let known = channels_known d a ch begins.readable in
    let found = rising_are_found 0 w.handlers handlers.rising in
    let few = handlers.few id 0 in
    let good = each_in _ (graph d).raised (handlers.channels id place begins.stands) r known.known refl in
    let tcs = tc d costs w below in
    let nm = property_name (spec_at d place slot) in
    let o = class_handler_of d class sig.name in
    let p = programs_cost costs (listed_if o) in
    let hs = w.handlers in
    let own = good.own in
    let conn = at_most (cost_of d costs w below) (greatest (of_program costs) r.connectable) (running_for d true id ch hs) good.connected in
    let run = few_run d costs w below id place slot hs in
    let few2 = times_le (greatest (of_program costs) r.connectable) (length (running_for d true id ch hs)) d.most_handlers (omega (arith, run, few)) in
    let turns = planned d costs w below id place slot hs (turns_of_found d costs w below hs found) in
    let words = no_words d 0 d.bindings a.bindings in
    let once = no_second [] 0 d.bindings a.pairs in
    let paid = rising_costs (carries d costs w below id place slot) (may_carry d costs w below id place slot) 0 d.bindings w.bindings bindings.rising (all_priced d costs w below id place slot agenda w.objects begins.stands words w.bindings bindings.each) in
    let moved = carried_all d costs w below id place slot w.bindings in
    let split = both_ways d costs w below id place slot d.bindings in
    let ways = one_ways d costs w below id place slot d.bindings in
    let pair = pair_costs d costs below ch words once in
    let s1 = stage d costs w below (has_flags 1 sig.flags) false o in
    let s2 = stage d costs w below (has_flags 2 sig.flags) false o in
    let s4 = stage d costs w below (has_flags 4 sig.flags) true o in
    let f1 : total tcs (at_stage (has_flags 1 sig.flags) false o) ≡ p = s1 ∙ ap (λ f. cond (has_flags 1 f) p 0) begins.flags in
    let f2 : total tcs (at_stage (has_flags 2 sig.flags) false o) ≡ 0 = s2 ∙ ap (λ f. cond (has_flags 2 f) p 0) begins.flags in
    let f4 : total tcs (at_stage (has_flags 4 sig.flags) true o) ≡ 0 = s4 ∙ ap (λ f. cond (has_flags 4 f) p 0) begins.flags in
    let by_class : programs_cost costs r.class_handler ≡ p =
    ap (λ c. programs_cost costs (of_class (class_handler_for d ch) c)) begins.of_class ∙ ap (λ n. programs_cost costs (listed_if (class_handler_of d class n))) (sym begins.called) in
    let l1 = at_stage (has_flags 1 sig.flags) false o in
    let lt = transfers id slot w.bindings in
    let l2 = handlers_for hs id 0 (Some nm) false in
    let l3 = at_stage (has_flags 2 sig.flags) false o in
    let l4 = handlers_for hs id 0 (Some nm) true in
    let l5 = at_stage (has_flags 4 sig.flags) true o in
    let a1 = total_append tcs l1 (lt ++ (l2 ++ (l3 ++ (l4 ++ l5)))) in
    let at = total_append tcs lt (l2 ++ (l3 ++ (l4 ++ l5))) in
    let a2 = total_append tcs l2 (l3 ++ (l4 ++ l5)) in
    let a3 = total_append tcs l3 (l4 ++ l5) in
    let a4 = total_append tcs l4 l5 in
    let entry_is = known.costs in
    omega (arith, own, conn, few2, turns, f1, f2, f4, by_class, a1, at, a2, a3, a4, paid, moved, split, ways, pair, entry_is)
