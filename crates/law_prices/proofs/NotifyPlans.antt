-- What the turns of a notification cost as it begins, with the transfers of its bindings and over its pair.
use Rattle.std.proofs.Common.{◌≡◌, refl, sym, ap, subst, ◌∙◌, ℕ, suc, ◌+◌, ◌-◌, ◌≤◌, Bool, true, false, cond, List, [], ◌∷◌, ◌++◌, length, None, Some, slice_get, arith}
use Rattle.std.specs.Prelude.{not, ◌&&◌, ◌||◌, nat_eq}
use Rattle.std.specs.List.{filter}
use Rattle.std.proofs.lemmas.Bool.{eqb-true, eqb-false}
use Rattle.ui_machine.specs.Seq.{total}
use Rattle.ui_machine.specs.Definition.Properties.{has_flags}
use Rattle.ui_machine.specs.Definition.{Definition}
use Rattle.ui_machine.specs.Definition.Places.{Bind}
use Rattle.ui_machine.specs.Definition.Signals.{Signal}
use Rattle.ui_machine.specs.State.Handlers.{Handler}
use Rattle.ui_machine.specs.State.Bindings.{Binding, goes_back, is_bidirectional, is_source, is_target, listens, transfers}
use Rattle.ui_machine.specs.State.Tasks.{handler, PlanEntry, Task}
use Rattle.ui_machine.specs.State.Tasks as config
use Rattle.ui_machine.specs.State.Config.{World}
use Rattle.ui_machine.specs.Rules.EmissionPlan.{at_stage, class_handler_of, fits_detail, handlers_for, notify_plan, runs_for}
use Rattle.law_typing.specs.Rules.BindingRules.{word_of}
use Rattle.law_typing.specs.Graph.Channels.{Channel, is_pair, of_class, property, same_channel, source_of, spec_at, target_of}
use Rattle.law_typing.specs.Graph.{class_handler_for, listed_if}
use Rattle.law_typing.specs.Graph.Tables.{Tables, entry, greatest}
use Rattle.law_typing.specs.Verdict.Accepted.{Accepted, Each}
use Rattle.law_typing.specs.Verdict.Report.{property_name}
use Rattle.law_typing.specs.Good.Standing.{Rising, standing}
use Rattle.law_typing.specs.Good.Handlers.{is_connected, running_for}
use Rattle.law_typing.specs.Good.Bindings.{BindingGood, BindingsGood}
use Rattle.law_typing.proofs.PairProofs.{no_words}
use Rattle.law_static.specs.NotifyCost.{NotifyBegins}
use Rattle.law_static.specs.Raises.{raised_there}
use Rattle.law_static.proofs.NotifyCostProofs.{source_here, target_here}
use Rattle.law_static.proofs.PlanCostProofs.{at_most, count_first, mapped_first, times_le, total_first}
use Rattle.law_static.proofs.RaisesProofs.{channels_known}
use Rattle.law_static.proofs.RisingProofs.{rising_are_found}
use Rattle.law_prices.specs.Deeds.{PriceList}
use Rattle.law_prices.specs.Deeds as deeds
use Rattle.law_prices.specs.Paid.{HandlersPaid}
use Rattle.law_prices.specs.Potential.{due_pair, due_price, is_free, seen, transfer_by, turn_price}
use Rattle.law_prices.specs.Prices.{SolvesPrices, by_number, carry_price, handled_price, is_heard, leads_on, node_price, pair_price, turn_over, way_price}
use Rattle.law_prices.proofs.Equations.{channel_is}
use Rattle.law_prices.proofs.Plans.{cost_of, stage, tc, turns_of_found, weighed}
use Rattle.law_prices.proofs.Sums.{by_number_plus, total_both}

-- ** bindings by their numbers

-- a binding is the definition's of its number, where the first of the list has the number k, and costs no more than that
abbrev PricedBy : (Binding → ℕ) → (ℕ → Bind → ℕ) → ℕ → List Bind → Binding → Type 0
PricedBy f g k xs b = (x : Bind) × (slice_get xs (b.number - k) ≡ Some x) × (f b ≤ g b.number x)

abbrev number : Binding → ℕ
number b = b.number

past : (x : Bind) (xs : List Bind) (n k : ℕ) → suc k ≤ n → slice_get (x ∷ xs) (n - k) ≡ slice_get xs (n - suc k)
past x xs n k h = let e : n - k ≡ suc (n - suc k) = omega (arith, h) in ap (slice_get (x ∷ xs)) e

module _ (f : Binding → ℕ) (g : ℕ → Bind → ℕ) where
  shift : (k m : ℕ) (x : Bind) (xs : List Bind) (bs : List Binding) → suc k ≤ m → Rising number m bs → Each (PricedBy f g k (x ∷ xs)) bs → Each (PricedBy f g (suc k) xs) bs
  shift k m x xs [] h r all = tt
  shift k m x xs (b ∷ bs) h r all =
      let low : suc k ≤ b.number = (let a = r.0 in omega (arith, h, a)) in
      let p = all.0 in
      ((p.0, sym (past x xs b.number k low) ∙ p.1, p.2), shift k (suc b.number) x xs bs (omega (arith, low)) r.1 all.1)

  rising : (k : ℕ) (xs : List Bind) (bs : List Binding) → Rising number k bs → Each (PricedBy f g k xs) bs → total f bs ≤ by_number g k xs
  rising k [] [] r all = omega arith
  rising k [] (b ∷ bs) r all = absurd (let e = all.0.1 in cc)
  rising k (x ∷ xs) [] r all = omega arith
  rising k (x ∷ xs) (b ∷ bs) r all = go (λ cs h each. rising (suc k) xs cs h each) (nat_eq b.number k) refl
    where
      Rec : Type 0
      Rec = (cs : List Binding) → Rising number (suc k) cs → Each (PricedBy f g (suc k) xs) cs → total f cs ≤ by_number g (suc k) xs

      first : Rec → b.number ≡ k → total f (b ∷ bs) ≤ by_number g k (x ∷ xs)
      first rec same =
          let z : b.number - k ≡ 0 = omega (arith, same) in
          let e = sym (ap (slice_get (x ∷ xs)) z) ∙ all.0.1 in
          let is : x ≡ all.0.0 = cc in
          let here = subst (λ y. f b ≤ g b.number y) (sym is) all.0.2 in
          let at = ap (λ n. g n x) same in
          let later = rec bs (subst (λ n. Rising number (suc n) bs) same r.1) (shift k (suc b.number) x xs bs (omega (arith, same)) r.1 all.1) in
          omega (arith, here, later, at)

      go : Rec → (t : Bool) → nat_eq b.number k ≡ t → total f (b ∷ bs) ≤ by_number g k (x ∷ xs)
      go rec true t = first rec (eqb-true b.number k t)
      go rec false t =
          let apart = eqb-false b.number k t in
          let low : suc k ≤ b.number = (let a = r.0 in omega (arith, a, apart)) in
          let h = rec (b ∷ bs) (low, r.1) (shift k b.number x xs (b ∷ bs) low (omega arith, r.1) all) in
          omega (arith, h)

-- ** handlers

one_handler : (x y z after by_code : Bool) (v : ℕ) →
    cond (((x && y) && z) && not after) v 0 + cond (((x && y) && z) && after) v 0 ≤ cond (not by_code && (x && (y && z))) v 0 + cond (by_code && (x && (y && z))) v 0
one_handler false y z after true v = omega arith
one_handler false y z after false v = omega arith
one_handler true false z after true v = omega arith
one_handler true false z after false v = omega arith
one_handler true true false after true v = omega arith
one_handler true true false after false v = omega arith
one_handler true true true true true v = omega arith
one_handler true true true true false v = omega arith
one_handler true true true false true v = omega arith
one_handler true true true false false v = omega arith

counted_once : (by_code x y z : Bool) → cond (by_code && (x && (y && z))) 1 0 ≤ cond (by_code && (x && y)) 1 0
counted_once false x y z = omega arith
counted_once true false y z = omega arith
counted_once true true false z = omega arith
counted_once true true true true = omega arith
counted_once true true true false = omega arith

module _ (d : Definition) (P : PriceList) (t : Tables) (w : World) (below : List Task) (id place slot : ℕ) where
  abbrev name : List ℕ
  name = property_name (spec_at d place slot)

  abbrev c : Channel
  c = property place slot

  abbrev turns : PlanEntry → ℕ
  turns e = tc d P t w below place 0 e

  abbrev costs : Handler → ℕ
  costs h = cost_of d P t w below place 0 h

  planned : (hs : List Handler) → Each (λ (h : Handler). turns (handler h.number) ≡ costs h) hs →
      total turns (handlers_for hs id 0 (Some name) false) + total turns (handlers_for hs id 0 (Some name) true) ≤ total costs (running_for d false id c hs) + total costs (running_for d true id c hs)
  planned [] all = omega arith
  planned (h ∷ hs) all =
      let ih = planned hs all.1 in
      let v = all.0 in
      let a = mapped_first turns (λ (h : Handler). handler h.number) (λ (h : Handler). runs_for id 0 (Some name) h && not h.after) h hs in
      let b = mapped_first turns (λ (h : Handler). handler h.number) (λ (h : Handler). runs_for id 0 (Some name) h && h.after) h hs in
      let o = total_first costs (λ (h : Handler). not h.by_code && (nat_eq h.object id && (nat_eq h.signal 0 && fits_detail h.detail (Some name)))) h hs in
      let e = total_first costs (λ (h : Handler). h.by_code && (nat_eq h.object id && (nat_eq h.signal 0 && fits_detail h.detail (Some name)))) h hs in
      let one = one_handler (nat_eq h.object id) (nat_eq h.signal 0) (fits_detail h.detail (Some name)) h.after h.by_code (costs h) in
      let a2 = subst (λ n. total turns (handlers_for (h ∷ hs) id 0 (Some name) false) ≡ cond (runs_for id 0 (Some name) h && not h.after) n 0 + total turns (handlers_for hs id 0 (Some name) false)) v a in
      let b2 = subst (λ n. total turns (handlers_for (h ∷ hs) id 0 (Some name) true) ≡ cond (runs_for id 0 (Some name) h && h.after) n 0 + total turns (handlers_for hs id 0 (Some name) true)) v b in
      omega (arith, ih, a2, b2, o, e, one)

  few_run : (hs : List Handler) → length (running_for d true id c hs) ≤ length (filter (is_connected id 0) hs)
  few_run [] = omega arith
  few_run (h ∷ hs) =
      let ih = few_run hs in
      let a = count_first (λ (h : Handler). h.by_code && (nat_eq h.object id && (nat_eq h.signal 0 && fits_detail h.detail (Some name)))) h hs in
      let b = count_first (is_connected id 0) h hs in
      let one = counted_once h.by_code (nat_eq h.object id) (nat_eq h.signal 0) (fits_detail h.detail (Some name)) in
      omega (arith, ih, a, b, one)

  -- ** transfers

  -- the turn of a binding that has not ended, if it listens
  abbrev carries : Binding → ℕ
  carries b = cond (listens id slot b) (P (deeds.turn place 0) + transfer_by d P t below b.number (goes_back id slot b) (slice_get d.bindings b.number)) 0

  -- what it may cost by the definition
  abbrev may_carry : ℕ → Bind → ℕ
  may_carry n x = turn_over d P t place 0 c n x + due_pair d P t below c n x

  carried_all : (bs : List Binding) → total turns (transfers id slot bs) ≡ total carries bs
  carried_all [] = refl
  carried_all (b ∷ bs) =
      let h = carried_all bs in
      let a = mapped_first turns (λ b. config.transfer b.number (goes_back id slot b)) (listens id slot) b bs in
      omega (arith, h, a)

  module _ (agenda : List Task) (stands : standing w.objects id ≡ Some place) (words : Each (λ b. word_of d b ≡ None) d.bindings) where
    module _ (b : Binding) (g : BindingGood d (standing w.objects) agenda b) where
      abbrev x : Bind
      x = g.bind

      -- what its turn costs where it listens
      abbrev Turn : Type 0
      Turn = P (deeds.turn place 0) + transfer_by d P t below b.number (goes_back id slot b) (slice_get d.bindings b.number) ≤ may_carry b.number x

      -- one way
      forward : is_pair x ≡ false → is_source id slot b ≡ true → Turn
      forward pair src =
          let here = source_here d t w below id place slot agenda w.objects stands words b g src in
          let cost : transfer_by d P t below b.number (goes_back id slot b) (slice_get d.bindings b.number) ≡ carry_price d P b.number (target_of x) + node_price d P t (target_of x) = rw (g.is, pair) in
          let heard : cond (is_heard c x) (P (deeds.turn place 0)) 0 ≡ P (deeds.turn place 0) = rw (here) in
          let leads : cond (leads_on c x) (carry_price d P b.number (target_of x) + node_price d P t (target_of x)) 0 ≡ carry_price d P b.number (target_of x) + node_price d P t (target_of x) = rw (pair, here) in
          omega (arith, cost, heard, leads)

      -- both ways, from the source and back from the target
      over : is_pair x ≡ true → is_source id slot b ≡ true → Turn
      over pair src =
          let here = source_here d t w below id place slot agenda w.objects stands words b g src in
          let cost : transfer_by d P t below b.number (goes_back id slot b) (slice_get d.bindings b.number) ≡ cond (is_free below b.number) (carry_price d P b.number (target_of x) + entry t.channels (target_of x)) 0 = rw (g.is, pair, src) in
          let heard : cond (is_heard c x) (P (deeds.turn place 0)) 0 ≡ P (deeds.turn place 0) = rw (here) in
          let way : pair_price d P t c b.number x ≡ (carry_price d P b.number (target_of x) + entry t.channels (target_of x)) + way_price d P t c b.number (target_of x) (source_of x) = rw (pair, here) in
          let free = by (is_free below b.number) way in
          omega (arith, cost, heard, free)
        where
          by : (f : Bool) → pair_price d P t c b.number x ≡ (carry_price d P b.number (target_of x) + entry t.channels (target_of x)) + way_price d P t c b.number (target_of x) (source_of x) →
              cond f (carry_price d P b.number (target_of x) + entry t.channels (target_of x)) 0 ≤ cond f (pair_price d P t c b.number x) 0
          by true e = omega (arith, e)
          by false e = omega arith

      back : is_pair x ≡ true → is_source id slot b ≡ false → is_target id slot b ≡ true → Turn
      back pair src tgt =
          let here = target_here d t w below id place slot agenda w.objects stands words b g tgt in
          let cost : transfer_by d P t below b.number (goes_back id slot b) (slice_get d.bindings b.number) ≡ cond (is_free below b.number) (carry_price d P b.number (source_of x) + entry t.channels (source_of x)) 0 = rw (g.is, pair, src) in
          let heard = hears (same_channel (source_of x) c) pair here in
          let way : pair_price d P t c b.number x ≡ way_price d P t c b.number (source_of x) (target_of x) + (carry_price d P b.number (source_of x) + entry t.channels (source_of x)) = rw (pair, here) in
          let free = by (is_free below b.number) way in
          omega (arith, cost, heard, free)
        where
          hears : (s : Bool) → is_pair x ≡ true → same_channel (target_of x) c ≡ true → cond (s || (is_pair x && same_channel (target_of x) c)) (P (deeds.turn place 0)) 0 ≡ P (deeds.turn place 0)
          hears true pair here = refl
          hears false pair here = rw (pair, here)

          by : (f : Bool) → pair_price d P t c b.number x ≡ way_price d P t c b.number (source_of x) (target_of x) + (carry_price d P b.number (source_of x) + entry t.channels (source_of x)) →
              cond f (carry_price d P b.number (source_of x) + entry t.channels (source_of x)) 0 ≤ cond f (pair_price d P t c b.number x) 0
          by true e = omega (arith, e)
          by false e = omega arith

      of : (p s u : Bool) → is_pair x ≡ p → is_source id slot b ≡ s → is_target id slot b ≡ u → (s || (p && u)) ≡ true → Turn
      of false true u pair src tgt e = forward pair src
      of false false u pair src tgt e = absurd (cc)
      of true true u pair src tgt e = over pair src
      of true false true pair src tgt e = back pair src tgt
      of true false false pair src tgt e = absurd (cc)

      bidirectional : is_bidirectional b ≡ is_pair x
      bidirectional = ap (has_flags 1) g.slots.2

      listened : listens id slot b ≡ true → (is_source id slot b || (is_pair x && is_target id slot b)) ≡ true
      listened e = ap (λ p. is_source id slot b || (p && is_target id slot b)) (sym bidirectional) ∙ e

      priced : carries b ≤ may_carry b.number x
      priced = go (listens id slot b) refl
        where
          go : (l : Bool) → listens id slot b ≡ l → cond l (P (deeds.turn place 0) + transfer_by d P t below b.number (goes_back id slot b) (slice_get d.bindings b.number)) 0 ≤ may_carry b.number x
          go false e = omega arith
          go true e = of (is_pair x) (is_source id slot b) (is_target id slot b) refl refl refl (listened e)

    all_priced : (bs : List Binding) → Each (BindingGood d (standing w.objects) agenda) bs → Each (PricedBy carries may_carry 0 d.bindings) bs
    all_priced [] all = tt
    all_priced (b ∷ bs) all =
        let g = all.0 in
        let same : b.number ≡ b.number - 0 = omega arith in
        ((g.bind, subst (λ n. slice_get d.bindings n ≡ Some g.bind) same g.is, priced b g), all_priced bs all.1)

-- ** the whole

-- the beginning, the turns and the end of a notification are within what is due
pub notify_price : (d : Definition) (a : Accepted d) (P : PriceList) (t : Tables) → SolvesPrices d P t → (w : World) (agenda below : List Task) (id place slot class : ℕ) (sig : Signal) →
    NotifyBegins d w id place slot class sig → HandlersPaid d a (standing w.objects) agenda w.last_handler w.handlers → BindingsGood d (standing w.objects) agenda w.bindings →
    P (deeds.notify place slot) + (total (turn_price d P t (seen w) below place 0) (notify_plan d w sig class id slot (property_name (spec_at d place slot))) + P (deeds.end place 0))
    ≤ due_price d P t below (property place slot)
notify_price d a P t solves w agenda below id place slot class sig begins handled bindings =
    let f = handled_price P t place 0 in
    let ch = property place slot in
    let r = raised_there d ch in
    let known = channels_known d a ch begins.readable in
    let handlers = handled (record { channels = []; programs = [] }) in
    let found = rising_are_found 0 w.handlers handlers.rising in
    let few = handlers.few id 0 in
    let good = weighed d f w.handlers r a (standing w.objects) agenda w.last_handler handled id place begins.stands known.known refl in
    let tcs = tc d P t w below place 0 in
    let nm = property_name (spec_at d place slot) in
    let o = class_handler_of d class sig.name in
    let p = total f (listed_if o) in
    let hs = w.handlers in
    let own = good.own in
    let conn = at_most (cost_of d P t w below place 0) (greatest f r.connectable) (running_for d true id ch hs) good.connected in
    let run = few_run d P t w below id place slot hs in
    let few2 = times_le (greatest f r.connectable) (length (running_for d true id ch hs)) d.most_handlers (omega (arith, run, few)) in
    let turns = planned d P t w below id place slot hs (turns_of_found d P t w below place 0 hs found) in
    let words = no_words d 0 d.bindings a.bindings in
    let paid = rising (carries d P t w below id place slot) (may_carry d P t w below id place slot) 0 d.bindings w.bindings bindings.rising (all_priced d P t w below id place slot agenda begins.stands words w.bindings bindings.each) in
    let moved = carried_all d P t w below id place slot w.bindings in
    let split = by_number_plus (turn_over d P t place 0 ch) (due_pair d P t below ch) 0 d.bindings in
    let s1 = stage d P t w below place 0 (has_flags 1 sig.flags) false o in
    let s2 = stage d P t w below place 0 (has_flags 2 sig.flags) false o in
    let s4 = stage d P t w below place 0 (has_flags 4 sig.flags) true o in
    let f1 : total tcs (at_stage (has_flags 1 sig.flags) false o) ≡ p = s1 ∙ ap (λ f. cond (has_flags 1 f) p 0) begins.flags in
    let f2 : total tcs (at_stage (has_flags 2 sig.flags) false o) ≡ 0 = s2 ∙ ap (λ f. cond (has_flags 2 f) p 0) begins.flags in
    let f4 : total tcs (at_stage (has_flags 4 sig.flags) true o) ≡ 0 = s4 ∙ ap (λ f. cond (has_flags 4 f) p 0) begins.flags in
    let by_class : total f r.class_handler ≡ p =
    ap (λ c. total f (of_class (class_handler_for d ch) c)) begins.of_class ∙ ap (λ n. total f (listed_if (class_handler_of d class n))) (sym begins.called) in
    let l1 = at_stage (has_flags 1 sig.flags) false o in
    let lt = transfers id slot w.bindings in
    let l2 = handlers_for hs id 0 (Some nm) false in
    let l3 = at_stage (has_flags 2 sig.flags) false o in
    let l4 = handlers_for hs id 0 (Some nm) true in
    let l5 = at_stage (has_flags 4 sig.flags) true o in
    let a1 = total_both tcs l1 (lt ++ (l2 ++ (l3 ++ (l4 ++ l5)))) in
    let at = total_both tcs lt (l2 ++ (l3 ++ (l4 ++ l5))) in
    let a2 = total_both tcs l2 (l3 ++ (l4 ++ l5)) in
    let a3 = total_both tcs l3 (l4 ++ l5) in
    let a4 = total_both tcs l4 l5 in
    let entry_is = channel_is d P t solves a ch begins.readable in
    omega (arith, own, conn, few2, turns, f1, f2, f4, by_class, a1, at, a2, a3, a4, paid, moved, split, entry_is)
