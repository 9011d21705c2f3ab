-- What the turns of an emission cost as it begins is what runs at its channel.
use Rattle.std.proofs.Common.{◌≡◌, refl, ap, subst, ◌∙◌, ℕ, ◌+◌, ◌*◌, ◌≤◌, Bool, true, false, cond, List, [], ◌∷◌, ◌++◌, length, map, Option, None, Some, arith}
use Rattle.std.specs.Prelude.{not, ◌&&◌, nat_eq}
use Rattle.std.specs.List.{filter}
use Rattle.ui_machine.specs.Seq.{total}
use Rattle.ui_machine.specs.Definition.Properties.{has_flags}
use Rattle.ui_machine.specs.Definition.{Definition}
use Rattle.ui_machine.specs.State.Handlers.{Handler, handler_of}
use Rattle.ui_machine.specs.State.Tasks.{handler, PlanEntry, Task}
use Rattle.ui_machine.specs.State.Config.{World}
use Rattle.ui_machine.specs.Rules.EmissionPlan.{fits_detail, at_stage, handlers_for, runs_for, class_handler_of}
use Rattle.law_typing.specs.Graph.Channels.{signal}
use Rattle.law_typing.specs.Graph.{graph, place_of_channel, listed_if}
use Rattle.law_typing.specs.Graph.Tables.{Tables, of_program, greatest}
use Rattle.law_typing.specs.Graph.Costs.{programs_cost}
use Rattle.law_typing.specs.Verdict.Accepted.{Each}
use Rattle.ui_machine.specs.Rules.Build.{of_items}
use Rattle.law_typing.specs.Good.Standing.{view}
use Rattle.law_typing.specs.Good.Handlers.{connecting_cost, is_connected, running_for}
use Rattle.law_typing.specs.Good.DueCosts.{turn_cost}
use Rattle.law_typing.proofs.Lists.{each_in}
use Rattle.law_static.specs.PlanCost.{PlanCosts}
use Rattle.law_static.proofs.RisingProofs.{rising_are_found}

pub total_append : {A : Type 0} (f : A → ℕ) (xs ys : List A) → total f (xs ++ ys) ≡ total f xs + total f ys
total_append f [] ys = omega arith
total_append f (x ∷ xs) ys = let h = total_append f xs ys in omega arith

-- a filter's first
pub total_first : {A : Type 0} (f : A → ℕ) (test : A → Bool) (x : A) (xs : List A) → total f (filter test (x ∷ xs)) ≡ cond (test x) (f x) 0 + total f (filter test xs)
total_first f test x xs = go (test x)
  where
    go : (b : Bool) → total f (cond b (x ∷ filter test xs) (filter test xs)) ≡ cond b (f x) 0 + total f (filter test xs)
    go true = refl
    go false = omega arith

pub mapped_first : {A B : Type 0} (f : B → ℕ) (m : A → B) (test : A → Bool) (x : A) (xs : List A) →
    total f (map m (filter test (x ∷ xs))) ≡ cond (test x) (f (m x)) 0 + total f (map m (filter test xs))
mapped_first f m test x xs = go (test x)
  where
    go : (b : Bool) → total f (map m (cond b (x ∷ filter test xs) (filter test xs))) ≡ cond b (f (m x)) 0 + total f (map m (filter test xs))
    go true = refl
    go false = omega arith

pub count_first : {A : Type 0} (test : A → Bool) (x : A) (xs : List A) → length (filter test (x ∷ xs)) ≡ cond (test x) 1 0 + length (filter test xs)
count_first test x xs = go (test x)
  where
    go : (b : Bool) → length (cond b (x ∷ filter test xs) (filter test xs)) ≡ cond b 1 0 + length (filter test xs)
    go true = omega arith
    go false = omega arith

-- of one handler: what it costs in the plan is what it costs among its own or the connected ones
one_handler : (on fits after by_code : Bool) (v : ℕ) →
    cond ((on && fits) && not after) v 0 + cond ((on && fits) && after) v 0 ≤ cond (not by_code && on) v 0 + cond (by_code && on) v 0
one_handler false fits after true v = omega arith
one_handler false fits after false v = omega arith
one_handler true false after true v = omega arith
one_handler true false after false v = omega arith
one_handler true true true true v = omega arith
one_handler true true true false v = omega arith
one_handler true true false true v = omega arith
one_handler true true false false v = omega arith

-- the stages
times_of : (b : Bool) (v : ℕ) → cond b v 0 ≡ cond b 1 0 * v
times_of true v = omega arith
times_of false v = omega arith

pub three : (a b c v : ℕ) → (a + (b + (c + 0))) * v ≡ a * v + (b * v + c * v)
three a b c v = grind arith

pub times_le : (n a b : ℕ) → a ≤ b → a * n ≤ b * n
times_le n a b h = grind arith

pub at_most : {A : Type 0} (f : A → ℕ) (most : ℕ) (xs : List A) → Each (λ x. f x ≤ most) xs → total f xs ≤ length xs * most
at_most f most [] all = omega arith
at_most f most (x ∷ xs) all = let h = at_most f most xs all.1 in let k = all.0 in omega (arith, h, k)

module _ (d : Definition) (costs : Tables) (w : World) (below : List Task) where
  abbrev pub tc : PlanEntry → ℕ
  tc t = turn_cost d costs (view w) below t

  abbrev pub cost_of : Handler → ℕ
  cost_of h = of_program costs h.program

  pub stage : (runs cleanup : Bool) (o : Option ℕ) → total tc (at_stage runs cleanup o) ≡ cond runs (programs_cost costs (listed_if o)) 0
  stage true cleanup None = refl
  stage false cleanup None = refl
  stage true cleanup (Some p) = refl
  stage false cleanup (Some p) = refl

  -- a handler that is found costs its program
  turn_of_found : (h : Handler) → handler_of h.number w.handlers ≡ Some h → tc (handler h.number) ≡ cost_of h
  turn_of_found h e = rw e

  pub turns_of_found : (hs : List Handler) → Each (λ (h : Handler). handler_of h.number w.handlers ≡ Some h) hs → Each (λ (h : Handler). tc (handler h.number) ≡ cost_of h) hs
  turns_of_found [] all = tt
  turns_of_found (h ∷ hs) all = (turn_of_found h all.0, turns_of_found hs all.1)

  module _ (id place number : ℕ) (detail : Option (List ℕ)) where
    planned : (hs : List Handler) → Each (λ (h : Handler). tc (handler h.number) ≡ cost_of h) hs →
        total tc (handlers_for hs id number detail false) + total tc (handlers_for hs id number detail true)
        ≤ total cost_of (running_for d false id (signal place number) hs) + total cost_of (running_for d true id (signal place number) hs)
    planned [] all = omega arith
    planned (h ∷ hs) all =
        let ih = planned hs all.1 in
        let v = all.0 in
        let a = mapped_first tc (λ (h : Handler). handler h.number) (λ (h : Handler). runs_for id number detail h && not h.after) h hs in
        let b = mapped_first tc (λ (h : Handler). handler h.number) (λ (h : Handler). runs_for id number detail h && h.after) h hs in
        let o = total_first cost_of (λ (h : Handler). not h.by_code && (nat_eq h.object id && nat_eq h.signal number)) h hs in
        let c = total_first cost_of (λ (h : Handler). h.by_code && (nat_eq h.object id && nat_eq h.signal number)) h hs in
        let one = one_handler (nat_eq h.object id && nat_eq h.signal number) (fits_detail h.detail detail) h.after h.by_code (cost_of h) in
        let a2 = subst (λ n. total tc (handlers_for (h ∷ hs) id number detail false) ≡ cond (runs_for id number detail h && not h.after) n 0 + total tc (handlers_for hs id number detail false)) v a in
        let b2 = subst (λ n. total tc (handlers_for (h ∷ hs) id number detail true) ≡ cond (runs_for id number detail h && h.after) n 0 + total tc (handlers_for hs id number detail true)) v b in
        omega (arith, ih, a2, b2, o, c, one)

pub plan_costs : PlanCosts
plan_costs d costs depths w agenda below r id place number class sig detail handlers stands here at by_class staged =
    let g = graph d in
    let found = rising_are_found 0 w.handlers handlers.rising in
    let few = handlers.few id number in
    let good = each_in _ g.raised (handlers.channels id place stands) r here (ap place_of_channel at) in
    let tcs = tc d costs w below in
    let o = class_handler_of d class sig.name in
    let p = programs_cost costs (listed_if o) in
    let hs = w.handlers in
    let own = subst (λ c. total (cost_of d costs w below) (running_for d false id c hs) + total (of_items (connecting_cost d costs c)) agenda ≤ programs_cost costs r.handlers) at good.own in
    let each = subst (λ c. Each (λ (h : Handler). of_program costs h.program ≤ greatest (of_program costs) r.connectable) (running_for d true id c hs)) at good.connected in
    let conn = at_most (cost_of d costs w below) (greatest (of_program costs) r.connectable) (running_for d true id (signal place number) hs) each in
    let few2 = times_le (greatest (of_program costs) r.connectable) (length (filter (is_connected id number) hs)) g.most_handlers few in
    let turns = planned d costs w below id place number detail hs (turns_of_found d costs w below hs found) in
    let s1 = stage d costs w below (has_flags 1 sig.flags) false o in
    let s2 = stage d costs w below (has_flags 2 sig.flags) false o in
    let s4 = stage d costs w below (has_flags 4 sig.flags) true o in
    let t1 = times_of (has_flags 1 sig.flags) p in
    let t2 = times_of (has_flags 2 sig.flags) p in
    let t4 = times_of (has_flags 4 sig.flags) p in
    let n1 = count_first (λ stage. has_flags stage sig.flags) 1 (2 ∷ 4 ∷ []) in
    let n2 = count_first (λ stage. has_flags stage sig.flags) 2 (4 ∷ []) in
    let n4 = count_first (λ stage. has_flags stage sig.flags) 4 [] in
    let sum = three (cond (has_flags 1 sig.flags) 1 0) (cond (has_flags 2 sig.flags) 1 0) (cond (has_flags 4 sig.flags) 1 0) p in
    let stages : r.stages ≡ cond (has_flags 1 sig.flags) 1 0 + (cond (has_flags 2 sig.flags) 1 0 + (cond (has_flags 4 sig.flags) 1 0 + 0)) = staged ∙ omega (arith, n1, n2, n4) in
    let whole : r.stages * programs_cost costs r.class_handler ≡ (cond (has_flags 1 sig.flags) 1 0 + (cond (has_flags 2 sig.flags) 1 0 + (cond (has_flags 4 sig.flags) 1 0 + 0))) * p =
    ap (λ n. n * programs_cost costs r.class_handler) stages ∙ ap (λ q. (cond (has_flags 1 sig.flags) 1 0 + (cond (has_flags 2 sig.flags) 1 0 + (cond (has_flags 4 sig.flags) 1 0 + 0))) * programs_cost costs q) by_class in
    let l1 = at_stage (has_flags 1 sig.flags) false o in
    let l2 = handlers_for hs id number detail false in
    let l3 = at_stage (has_flags 2 sig.flags) false o in
    let l4 = handlers_for hs id number detail true in
    let l5 = at_stage (has_flags 4 sig.flags) true o in
    let a1 = total_append tcs l1 (l2 ++ (l3 ++ (l4 ++ l5))) in
    let a2 = total_append tcs l2 (l3 ++ (l4 ++ l5)) in
    let a3 = total_append tcs l3 (l4 ++ l5) in
    let a4 = total_append tcs l4 l5 in
    omega (arith, own, conn, few2, turns, s1, s2, s4, t1, t2, t4, sum, whole, a1, a2, a3, a4)
