-- What the turns of an emission cost as it begins: what runs at its channel.
use Rattle.std.proofs.Common.{◌≡◌, refl, ap, subst, ◌∙◌, ℕ, zero, suc, ◌+◌, ◌*◌, ◌<◌, ◌≤◌, Bool, true, false, cond, List, [], ◌∷◌, ◌++◌, length, Option, None, Some, arith}
use Rattle.std.specs.Prelude.{not, ◌&&◌, nat_eq}
use Rattle.std.specs.List.{filter}
use Rattle.ui_machine.specs.Seq.{listed, read, total}
use Rattle.ui_machine.specs.Definition.Properties.{has_flags}
use Rattle.ui_machine.specs.Definition.{Definition}
use Rattle.ui_machine.specs.Definition.Signals.{Signal}
use Rattle.ui_machine.specs.State.Handlers.{Handler, handler_of}
use Rattle.ui_machine.specs.State.Tasks.{handler, PlanEntry, Task}
use Rattle.ui_machine.specs.State.Config.{World}
use Rattle.ui_machine.specs.Rules.EmissionPlan.{at_stage, class_handler_of, fits_detail, handlers_for, plan, runs_for}
use Rattle.law_typing.specs.Graph.Channels.{signal}
use Rattle.law_typing.specs.Graph.{Raised, graph, listed_if, place_of_channel, stages_of}
use Rattle.law_typing.specs.Graph.Tables.{Tables, of_program, greatest}
use Rattle.law_typing.specs.Laws.{IsIn}
use Rattle.law_typing.specs.Verdict.Accepted.{Accepted, Each}
use Rattle.law_typing.specs.Good.Handlers.{is_connected, running_for}
use Rattle.law_typing.specs.Good.Standing.{Standing, standing}
use Rattle.law_typing.proofs.Lists.{each_in}
use Rattle.law_static.specs.PlanCost.{planned as planned_by}
use Rattle.law_static.proofs.PlanCostProofs.{at_most, count_first, mapped_first, three, times_le, total_first}
use Rattle.law_static.proofs.RisingProofs.{rising_are_found}
use Rattle.law_steps.proofs.Kept.Left.{each_left}
use Rattle.law_prices.specs.Deeds.{PriceList}
use Rattle.law_prices.specs.Deeds as deeds
use Rattle.law_prices.specs.Paid.{HandlersPaid}
use Rattle.law_prices.specs.Potential.{seen, turn_price}
use Rattle.law_prices.specs.Prices.{begun_price, handled_price, price_of}
use Rattle.law_prices.proofs.Sums.{total_both}

-- ** whatever programs weigh

read_listed : (f : ℕ → ℕ) (n i : ℕ) → i < n → read 0 (listed f n) i ≡ f i
read_listed f zero i low = absurd (omega (arith, low))
read_listed f (suc n) zero low = refl
read_listed f (suc n) (suc i) low = read_listed (λ i. f (suc i)) n i (omega (arith, low))

same_total : {A : Type 0} (f g : A → ℕ) (xs : List A) → Each (λ x. f x ≡ g x) xs → total f xs ≡ total g xs
same_total f g [] all = refl
same_total f g (x ∷ xs) all = let h = same_total f g xs all.1 in let e = all.0 in omega (arith, h, e)

same_greatest : {A : Type 0} (f g : A → ℕ) (xs : List A) → Each (λ x. f x ≡ g x) xs → greatest f xs ≡ greatest g xs
same_greatest f g [] all = refl
same_greatest f g (x ∷ xs) all = let h = same_greatest f g xs all.1 in let e = all.0 in omega (arith, h, e)

-- each number is below one more than the greatest
below_greatest : {A : Type 0} (f : A → ℕ) (n : ℕ) (xs : List A) → greatest f xs < n → Each (λ x. f x < n) xs
below_greatest f n [] low = tt
below_greatest f n (x ∷ xs) low = (omega (arith, low), below_greatest f n xs (omega (arith, low)))

each_to : {A : Type 0} (Q R : A → Type 0) (xs : List A) → ((x : A) → Q x → R x) → Each Q xs → Each R xs
each_to Q R [] f all = tt
each_to Q R (x ∷ xs) f all = (f x all.0, each_to Q R xs f all.1)

-- the handlers of a channel weigh no more than what the graph has there
pub record Weighed (d : Definition) (f : ℕ → ℕ) (id : ℕ) (hs : List Handler) (r : Raised) : Type 0 where
  pub own : total (λ (h : Handler). f h.program) (running_for d false id r.channel hs) ≤ total f r.handlers
  pub connected : Each (λ (h : Handler). f h.program ≤ greatest f r.connectable) (running_for d true id r.channel hs)

module _ (d : Definition) (f : ℕ → ℕ) (hs : List Handler) (r : Raised) where
  abbrev most : ℕ
  most = suc (greatest (λ (h : Handler). h.program) hs + (greatest (λ (q : ℕ). q) r.handlers + greatest (λ (q : ℕ). q) r.connectable))

  -- tables in which each program of these weighs so
  abbrev costs : Tables
  costs = record { channels = []; programs = listed f most }

  weighs : (q : ℕ) → q < most → of_program costs q ≡ f q
  weighs q low = read_listed f most q low

  filtered : (test : Handler → Bool) → Each (λ (h : Handler). of_program costs h.program ≡ f h.program) (filter test hs)
  filtered test =
      each_left (λ (h : Handler). of_program costs h.program ≡ f h.program) (λ (h : Handler). of_program costs h.program ≡ f h.program) test hs (λ h e k. k)
      (each_to (λ (h : Handler). h.program < most) (λ (h : Handler). of_program costs h.program ≡ f h.program) hs (λ h low. weighs h.program low) (below_greatest (λ (h : Handler). h.program) most hs (omega arith)))

  both_each : (xs : List Handler) → Each (λ (h : Handler). of_program costs h.program ≡ f h.program) xs → greatest (of_program costs) r.connectable ≡ greatest f r.connectable →
      Each (λ (h : Handler). of_program costs h.program ≤ greatest (of_program costs) r.connectable) xs → Each (λ (h : Handler). f h.program ≤ greatest f r.connectable) xs
  both_each [] all same low = tt
  both_each (h ∷ xs) all same low = ((let e = all.0 in let l = low.0 in omega (arith, e, l, same)), both_each xs all.1 same low.1)

  pub weighed : (a : Accepted d) (s : Standing) (agenda : List Task) (last : ℕ) → HandlersPaid d a s agenda last hs → (id place : ℕ) → s id ≡ Some place → IsIn r (graph d).raised → place_of_channel r.channel ≡ place →
      Weighed d f id hs r
  weighed a s agenda last paid id place stands there at =
      let good = each_in _ (graph d).raised ((paid costs).channels id place stands) r there at in
      let o = good.own in
      let x = same_total (λ (h : Handler). of_program costs h.program) (λ (h : Handler). f h.program) (running_for d false id r.channel hs) (filtered _) in
      let y = same_total (of_program costs) f r.handlers (each_to (λ q. q < most) (λ q. of_program costs q ≡ f q) r.handlers (λ q low. weighs q low) (below_greatest (λ (q : ℕ). q) most r.handlers (omega arith))) in
      let z = same_greatest (of_program costs) f r.connectable (each_to (λ q. q < most) (λ q. of_program costs q ≡ f q) r.connectable (λ q low. weighs q low) (below_greatest (λ (q : ℕ). q) most r.connectable (omega arith))) in
      record {
        own = omega (arith, o, x, y);
        connected = both_each (running_for d true id r.channel hs) (filtered _) z good.connected;
      }

-- ** plans

-- of one handler: what it costs in the plan is what it costs among its own or the connected ones
one_handler : (on fits after by_code : Bool) (v : ℕ) →
    cond ((on && fits) && not after) v 0 + cond ((on && fits) && after) v 0 ≤ cond (not by_code && on) v 0 + cond (by_code && on) v 0
one_handler false fits after true v = omega arith
one_handler false fits after false v = omega arith
one_handler true false after true v = omega arith
one_handler true false after false v = omega arith
one_handler true true true true v = omega arith
one_handler true true true false v = omega arith
one_handler true true false true v = omega arith
one_handler true true false false v = omega arith

times_of : (b : Bool) (v : ℕ) → cond b v 0 ≡ cond b 1 0 * v
times_of true v = omega arith
times_of false v = omega arith

module _ (d : Definition) (P : PriceList) (t : Tables) (w : World) (below : List Task) (place number : ℕ) where
  abbrev pub tc : PlanEntry → ℕ
  tc e = turn_price d P t (seen w) below place number e

  abbrev pub cost_of : Handler → ℕ
  cost_of h = handled_price P t place number h.program

  pub stage : (runs cleanup : Bool) (o : Option ℕ) → total tc (at_stage runs cleanup o) ≡ cond runs (total (handled_price P t place number) (listed_if o)) 0
  stage true cleanup None = refl
  stage false cleanup None = refl
  stage true cleanup (Some p) = refl
  stage false cleanup (Some p) = refl

  -- a handler that is found costs its turn and its program
  pub turns_of_found : (hs : List Handler) → Each (λ (h : Handler). handler_of h.number w.handlers ≡ Some h) hs → Each (λ (h : Handler). tc (handler h.number) ≡ cost_of h) hs
  turns_of_found [] all = tt
  turns_of_found (h ∷ hs) all = (ap (λ o. P (deeds.turn place number) + price_of (λ (h : Handler). begun_price P t h.program) o) all.0, turns_of_found hs all.1)

  module _ (id : ℕ) (detail : Option (List ℕ)) where
    planned : (hs : List Handler) → Each (λ (h : Handler). tc (handler h.number) ≡ cost_of h) hs →
        total tc (handlers_for hs id number detail false) + total tc (handlers_for hs id number detail true)
        ≤ total cost_of (running_for d false id (signal place number) hs) + total cost_of (running_for d true id (signal place number) hs)
    planned [] all = omega arith
    planned (h ∷ hs) all =
        let ih = planned hs all.1 in
        let v = all.0 in
        let a = mapped_first tc (λ (h : Handler). handler h.number) (λ (h : Handler). runs_for id number detail h && not h.after) h hs in
        let b = mapped_first tc (λ (h : Handler). handler h.number) (λ (h : Handler). runs_for id number detail h && h.after) h hs in
        let o = total_first cost_of (λ (h : Handler). not h.by_code && (nat_eq h.object id && nat_eq h.signal number)) h hs in
        let c = total_first cost_of (λ (h : Handler). h.by_code && (nat_eq h.object id && nat_eq h.signal number)) h hs in
        let one = one_handler (nat_eq h.object id && nat_eq h.signal number) (fits_detail h.detail detail) h.after h.by_code (cost_of h) in
        let a2 = subst (λ n. total tc (handlers_for (h ∷ hs) id number detail false) ≡ cond (runs_for id number detail h && not h.after) n 0 + total tc (handlers_for hs id number detail false)) v a in
        let b2 = subst (λ n. total tc (handlers_for (h ∷ hs) id number detail true) ≡ cond (runs_for id number detail h && h.after) n 0 + total tc (handlers_for hs id number detail true)) v b in
        omega (arith, ih, a2, b2, o, c, one)

-- the turns of a signal's emission are within what runs at its channel
pub plan_price : (d : Definition) (a : Accepted d) (P : PriceList) (t : Tables) (w : World) (agenda below : List Task) (r : Raised) (id place number class : ℕ) (sig : Signal) (detail : Option (List ℕ)) →
    HandlersPaid d a (standing w.objects) agenda w.last_handler w.handlers → standing w.objects id ≡ Some place → IsIn r (graph d).raised → r.channel ≡ signal place number →
    r.class_handler ≡ listed_if (class_handler_of d class sig.name) → r.stages ≡ stages_of (Some sig) →
    total (turn_price d P t (seen w) below place number) (plan w (planned_by d class id number sig detail))
    ≤ r.stages * total (handled_price P t place number) r.class_handler + total (handled_price P t place number) r.handlers + d.most_handlers * greatest (handled_price P t place number) r.connectable
plan_price d a P t w agenda below r id place number class sig detail paid stands here at by_class staged =
    let handlers = paid (record { channels = []; programs = [] }) in
    let found = rising_are_found 0 w.handlers handlers.rising in
    let few = handlers.few id number in
    let good = weighed d (handled_price P t place number) w.handlers r a (standing w.objects) agenda w.last_handler paid id place stands here (ap place_of_channel at) in
    let tcs = tc d P t w below place number in
    let o = class_handler_of d class sig.name in
    let p = total (handled_price P t place number) (listed_if o) in
    let hs = w.handlers in
    let own = subst (λ c. total (cost_of d P t w below place number) (running_for d false id c hs) ≤ total (handled_price P t place number) r.handlers) at good.own in
    let each = subst (λ c. Each (λ (h : Handler). handled_price P t place number h.program ≤ greatest (handled_price P t place number) r.connectable) (running_for d true id c hs)) at good.connected in
    let conn = at_most (cost_of d P t w below place number) (greatest (handled_price P t place number) r.connectable) (running_for d true id (signal place number) hs) each in
    let few2 = times_le (greatest (handled_price P t place number) r.connectable) (length (filter (is_connected id number) hs)) d.most_handlers few in
    let turns = planned d P t w below place number id detail hs (turns_of_found d P t w below place number hs found) in
    let s1 = stage d P t w below place number (has_flags 1 sig.flags) false o in
    let s2 = stage d P t w below place number (has_flags 2 sig.flags) false o in
    let s4 = stage d P t w below place number (has_flags 4 sig.flags) true o in
    let t1 = times_of (has_flags 1 sig.flags) p in
    let t2 = times_of (has_flags 2 sig.flags) p in
    let t4 = times_of (has_flags 4 sig.flags) p in
    let n1 = count_first (λ stage. has_flags stage sig.flags) 1 (2 ∷ 4 ∷ []) in
    let n2 = count_first (λ stage. has_flags stage sig.flags) 2 (4 ∷ []) in
    let n4 = count_first (λ stage. has_flags stage sig.flags) 4 [] in
    let sum = three (cond (has_flags 1 sig.flags) 1 0) (cond (has_flags 2 sig.flags) 1 0) (cond (has_flags 4 sig.flags) 1 0) p in
    let stages : r.stages ≡ cond (has_flags 1 sig.flags) 1 0 + (cond (has_flags 2 sig.flags) 1 0 + (cond (has_flags 4 sig.flags) 1 0 + 0)) = staged ∙ omega (arith, n1, n2, n4) in
    let whole : r.stages * total (handled_price P t place number) r.class_handler ≡ (cond (has_flags 1 sig.flags) 1 0 + (cond (has_flags 2 sig.flags) 1 0 + (cond (has_flags 4 sig.flags) 1 0 + 0))) * p =
    ap (λ n. n * total (handled_price P t place number) r.class_handler) stages ∙ ap (λ q. (cond (has_flags 1 sig.flags) 1 0 + (cond (has_flags 2 sig.flags) 1 0 + (cond (has_flags 4 sig.flags) 1 0 + 0))) * total (handled_price P t place number) q) by_class in
    let l1 = at_stage (has_flags 1 sig.flags) false o in
    let l2 = handlers_for hs id number detail false in
    let l3 = at_stage (has_flags 2 sig.flags) false o in
    let l4 = handlers_for hs id number detail true in
    let l5 = at_stage (has_flags 4 sig.flags) true o in
    let a1 = total_both tcs l1 (l2 ++ (l3 ++ (l4 ++ l5))) in
    let a2 = total_both tcs l2 (l3 ++ (l4 ++ l5)) in
    let a3 = total_both tcs l3 (l4 ++ l5) in
    let a4 = total_both tcs l4 l5 in
    omega (arith, own, conn, few2, turns, s1, s2, s4, t1, t2, t4, sum, whole, a1, a2, a3, a4)
