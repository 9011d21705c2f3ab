-- The turns that an emission begins with are of what runs at its channel.
use Rattle.std.proofs.Common.{◌≡◌, inl, inr, refl, sym, ap, subst, ◌∙◌, ℕ, ◌≤◌, Bool, true, false, cond, List, [], ◌∷◌, ◌++◌, Option, None, Some, slice_get, arith}
use Rattle.std.specs.Prelude.{nat_eq, not, ◌&&◌, ◌||◌}
use Rattle.std.proofs.lemmas.Bool.{eqb-true}
use Rattle.ui_machine.specs.Definition.{Definition}
use Rattle.ui_machine.specs.Definition.Places.{Bind}
use Rattle.ui_machine.specs.Definition.Properties.{has_flags}
use Rattle.ui_machine.specs.Rules.EmissionPlan.{at_stage, class_handler_of, fits_detail, handlers_for, plan, runs_for}
use Rattle.ui_machine.specs.State.Bindings.{Binding, goes_back, is_bidirectional, is_source, is_target, listens, transfers}
use Rattle.ui_machine.specs.State.Config.{World}
use Rattle.ui_machine.specs.State.Handlers.{Handler, handler_of}
use Rattle.ui_machine.specs.State.Tasks.{Beginning, Emission, Emitting, Notifying, PlanEntry, Task, class_handler, handler}
use Rattle.ui_machine.specs.State.Tasks as config
use Rattle.law_typing.specs.Good.Bindings.{BindingGood, BindingsGood}
use Rattle.law_typing.specs.Good.Handlers.{ChannelGood, runs_at, running_for}
use Rattle.law_typing.specs.Good.Standing.{standing}
use Rattle.law_typing.specs.Graph.{graph, listed_if}
use Rattle.law_typing.specs.Graph.Channels.{Channel, is_channel, property}
use Rattle.law_typing.specs.Graph.Depths.{depth_within, depth_within_if}
use Rattle.law_typing.specs.Graph.Ranks.{running_at}
use Rattle.law_typing.specs.Graph.Tables.{Tables, of_program}
use Rattle.law_typing.specs.Laws.{IsIn}
use Rattle.law_typing.specs.Verdict.Accepted.{Accepted, Each}
use Rattle.law_typing.proofs.Lists.{both_parts, each_append, each_in, filter_in, greatest_in}
use Rattle.law_static.specs.Raises.{raised_there}
use Rattle.law_static.proofs.RaisesProofs.{channels_known}
use Rattle.law_static.proofs.RisingProofs.{rising_are_found}
use Rattle.law_steps.proofs.Tasked.Planned.{Emitted, each_passing}
use Rattle.law_frames.specs.Frames.{TurnFalls, from_end, within}

-- ** the plan

in_first : {A : Type 0} (xs ys : List A) (x : A) → IsIn x xs → IsIn x (xs ++ ys)
in_first [] ys x h = absurd h
in_first (z ∷ xs) ys x (inl e) = inl e
in_first (z ∷ xs) ys x (inr h) = inr (in_first xs ys x h)

module _ (d : Definition) (a : Accepted d) (w : World) (agenda : List Task) (e : Emission) (x : Emitted d a w agenda e) (c : Channel) (there : is_channel d c ≡ true) (at_channel : x.r ≡ raised_there d c) where
  abbrev depths : Tables
  depths = a.weighed.depths

  within_is : within d depths c ≡ depth_within depths x.r
  within_is = ap (depth_within_if depths) (channels_known d a c there).found ∙ ap (depth_within depths) (sym at_channel)

  abbrev Falls : PlanEntry → Type 0
  Falls turn = TurnFalls d depths w.handlers c turn

  runs_low : (program : ℕ) → IsIn program (running_at x.r) → of_program depths program ≤ within d depths c
  runs_low program there =
      let low = greatest_in (of_program depths) (running_at x.r) program there in
      let is = within_is in
      omega (arith, low, is)

  stage : (runs cleanup : Bool) → Each Falls (at_stage runs cleanup (class_handler_of d x.class x.sig.name))
  stage runs cleanup = go runs (class_handler_of d x.class x.sig.name) refl
    where
      one : (program : ℕ) → class_handler_of d x.class x.sig.name ≡ Some program → of_program depths program ≤ within d depths c
      one program is =
          let here : IsIn program (listed_if (class_handler_of d x.class x.sig.name)) = subst (λ o. IsIn program (listed_if o)) (sym is) (inl refl) in
          runs_low program (in_first x.r.class_handler (x.r.handlers ++ x.r.connectable) program (subst (IsIn program) (sym x.by_class) here))

      go : (runs : Bool) (o : Option ℕ) → class_handler_of d x.class x.sig.name ≡ o → Each Falls (at_stage runs cleanup o)
      go runs None is = tt
      go true (Some program) is = (one program is, tt)
      go false (Some program) is = tt

  good : ChannelGood d a.weighed.costs depths agenda e.object w.handlers x.r
  good = each_in _ (graph d).raised (x.handlers.channels e.object x.place x.stands) x.r x.there x.at

  shallow : (h : Handler) → IsIn h w.handlers → nat_eq h.object e.object ≡ true → runs_at d h x.r.channel ≡ true → of_program depths h.program ≤ depth_within depths x.r
  shallow h there own runs = go h.by_code refl
    where
      passes : (b : Bool) → h.by_code ≡ b → (cond b h.by_code (not h.by_code) && (nat_eq h.object e.object && runs_at d h x.r.channel)) ≡ true
      passes true e = rw (e, own, runs) refl
      passes false e = rw (e, own, runs) refl

      go : (b : Bool) → h.by_code ≡ b → of_program depths h.program ≤ depth_within depths x.r
      go true is =
          each_in (λ (h : Handler). of_program depths h.program ≤ depth_within depths x.r) (running_for d true e.object x.r.channel w.handlers) good.connected_shallow h
          (filter_in (λ (h : Handler). cond true h.by_code (not h.by_code) && (nat_eq h.object e.object && runs_at d h x.r.channel)) w.handlers h (passes true is) there)
      go false is =
          each_in (λ (h : Handler). of_program depths h.program ≤ depth_within depths x.r) (running_for d false e.object x.r.channel w.handlers) good.own_shallow h
          (filter_in (λ (h : Handler). cond false h.by_code (not h.by_code) && (nat_eq h.object e.object && runs_at d h x.r.channel)) w.handlers h (passes false is) there)

  handler_turn : (h : Handler) → IsIn h w.handlers → runs_for e.object e.signal e.detail h ≡ true → Falls (handler h.number)
  handler_turn h there runs k also same =
      let p = both_parts (nat_eq h.object e.object && nat_eq h.signal e.signal) (fits_detail h.detail e.detail) runs in
      let q = both_parts (nat_eq h.object e.object) (nat_eq h.signal e.signal) p.0 in
      let found = each_in (λ (h : Handler). handler_of h.number w.handlers ≡ Some h) w.handlers (rising_are_found 0 w.handlers x.handlers.rising) in
      let one : ◌≡◌ {A = Option Handler} (Some k) (Some h) = sym (found k also) ∙ (ap (λ n. handler_of n w.handlers) same ∙ found h there) in
      let is : k ≡ h = cc one in
      let low = shallow h there q.0 (x.runs h runs) in
      let own = ap (λ (h : Handler). of_program depths h.program) is in
      let all = within_is in
      omega (arith, low, own, all)

  handlers_fall : (after : Bool) → Each Falls (handlers_for w.handlers e.object e.signal e.detail after)
  handlers_fall after =
      each_passing Falls (λ (h : Handler). handler h.number) (λ (h : Handler). runs_for e.object e.signal e.detail h && cond after h.after (not h.after)) w.handlers
      (λ h there passes. handler_turn h there (both_parts (runs_for e.object e.signal e.detail h) _ passes).0)

  pub plan_falls : (flags : ℕ) (ts : List PlanEntry) → Each Falls ts →
      Each Falls (plan w (record { object = e.object; signal = e.signal; detail = e.detail; flags = flags; class_program = class_handler_of d x.class x.sig.name; transfers = ts }))
  plan_falls flags ts over =
      let o = class_handler_of d x.class x.sig.name in
      let l1 = at_stage (has_flags 1 flags) false o in
      let l2 = handlers_for w.handlers e.object e.signal e.detail false in
      let l3 = at_stage (has_flags 2 flags) false o in
      let l4 = handlers_for w.handlers e.object e.signal e.detail true in
      let l5 = at_stage (has_flags 4 flags) true o in
      each_append Falls l1 (ts ++ (l2 ++ (l3 ++ (l4 ++ l5)))) (stage (has_flags 1 flags) false)
      (each_append Falls ts (l2 ++ (l3 ++ (l4 ++ l5))) over
      (each_append Falls l2 (l3 ++ (l4 ++ l5)) (handlers_fall false)
      (each_append Falls l3 (l4 ++ l5) (stage (has_flags 2 flags) false)
      (each_append Falls l4 l5 (handlers_fall true) (stage (has_flags 4 flags) true)))))

-- ** transfers

module _ (d : Definition) (depths : Tables) (w : World) (agenda : List Task) (id place slot : ℕ) (stands : standing w.objects id ≡ Some place) (bindings : BindingsGood d (standing w.objects) agenda w.bindings) where
  at_end : (object p at own : ℕ) → (nat_eq object id && nat_eq at slot) ≡ true → standing w.objects object ≡ Some p → at ≡ own → property p own ≡ property place slot
  at_end object p at own is there same =
      let parts = both_parts (nat_eq object id) (nat_eq at slot) is in
      let one : ◌≡◌ {A = Option ℕ} (Some p) (Some place) = sym there ∙ (ap (standing w.objects) (eqb-true object id parts.0) ∙ stands) in
      let p_is : p ≡ place = cc one in
      let slot_is : own ≡ slot = sym same ∙ eqb-true at slot parts.1 in
      rw (p_is, slot_is) refl

  pub transfers_fall : Each (TurnFalls d depths w.handlers (property place slot)) (transfers id slot w.bindings)
  transfers_fall =
      each_passing (TurnFalls d depths w.handlers (property place slot)) (λ (b : Binding). config.transfer b.number (goes_back id slot b)) (listens id slot) w.bindings
      (λ b there hears x at. by b (each_in (BindingGood d (standing w.objects) agenda) w.bindings bindings.each b there) x at hears)
    where
      by : (b : Binding) → BindingGood d (standing w.objects) agenda b → (x : Bind) → slice_get d.bindings b.number ≡ Some x → listens id slot b ≡ true → from_end (goes_back id slot b) x ≡ property place slot
      by b good x at hears =
          let one : ◌≡◌ {A = Option Bind} (Some good.bind) (Some x) = sym good.is ∙ at in
          let same : good.bind ≡ x = cc one in
          subst (λ x. from_end (goes_back id slot b) x ≡ property place slot) same (go (is_source id slot b) refl hears)
        where
          go : (t : Bool) → is_source id slot b ≡ t → (t || (is_bidirectional b && is_target id slot b)) ≡ true → from_end (not t) good.bind ≡ property place slot
          go true src e = at_end b.source good.bind.source b.source_slot good.bind.source_slot src good.source good.slots.0
          go false src e =
              let parts = both_parts (is_bidirectional b) (is_target id slot b) e in
              at_end b.target good.bind.target b.target_slot good.bind.target_slot parts.1 good.target good.slots.1
