-- The turns of an emission that begins: each is of its object and signal, takes what it is given, and is no deeper than what runs at its channel.
use Rattle.std.proofs.Common.{◌≡◌, inl, inr, refl, sym, ap, subst, ◌∙◌, ℕ, ◌<◌, ◌≤◌, Bool, true, false, cond, List, [], ◌∷◌, ◌++◌, length, map, Option, None, Some, arith}
use Rattle.std.specs.Prelude.{not, nat_eq, ◌&&◌}
use Rattle.std.specs.List.{filter}
use Rattle.std.proofs.lemmas.Bool.{eqb-true}
use Rattle.ui_machine.specs.Definition.{Definition}
use Rattle.ui_machine.specs.Definition.Properties.{has_flags}
use Rattle.ui_machine.specs.Definition.Signals.{Signal}
use Rattle.ui_machine.specs.Rules.EmissionPlan.{signal_of, class_handler_of, fits_detail, runs_for, at_stage, handlers_for, plan}
use Rattle.ui_machine.specs.State.Config.{World}
use Rattle.ui_machine.specs.State.Handlers.{Handler, handler_of}
use Rattle.ui_machine.specs.State.Tasks.{PlanEntry, class_handler, handler, Emission, Task}
use Rattle.law_typing.specs.Rules.RegisterKinds.{class_at}
use Rattle.law_typing.specs.Graph.{Raised, graph, place_of_channel, listed_if}
use Rattle.law_typing.specs.Graph.Ranks.{running_at}
use Rattle.law_typing.specs.Graph.Tables.{of_program}
use Rattle.law_typing.specs.Graph.Depths.{depth_within}
use Rattle.law_typing.specs.Verdict.Accepted.{Each, Accepted}
use Rattle.law_typing.specs.Laws.{IsIn}
use Rattle.law_typing.specs.Laws.WellRead.{TypesRead}
use Rattle.law_typing.specs.Good.Standing.{standing, view}
use Rattle.law_typing.specs.Good.DueCosts.{turn_depth}
use Rattle.law_typing.specs.Good.Emissions.{TurnGood}
use Rattle.law_typing.specs.Good.Handlers.{runs_at, running_for, ChannelGood, HandlersGood}
use Rattle.law_typing.proofs.Lists.{both_parts, each_in, each_append, filter_in, greatest_in}
use Rattle.law_static.proofs.RisingProofs.{rising_are_found}
use Rattle.law_steps.proofs.Tasked.ClassHandlers.{class_takes}

in_first : {A : Type 0} (xs ys : List A) (x : A) → IsIn x xs → IsIn x (xs ++ ys)
in_first [] ys x h = absurd h
in_first (z ∷ xs) ys x (inl e) = inl e
in_first (z ∷ xs) ys x (inr h) = inr (in_first xs ys x h)

-- what passes a test, in another form
pub each_passing : {A B : Type 0} (P : B → Type 0) (f : A → B) (test : A → Bool) (xs : List A) → ((x : A) → IsIn x xs → test x ≡ true → P (f x)) → Each P (map f (filter test xs))
each_passing P f test [] h = tt
each_passing {A} {B} P f test (x ∷ xs) h = go (test x) refl (each_passing P f test xs (λ y there. h y (inr there)))
  where
    go : (b : Bool) → test x ≡ b → Each P (map f (filter test xs)) → Each P (map f (cond b (x ∷ filter test xs) (filter test xs)))
    go true t later = (h x (inl refl) t, later)
    go false t later = later

-- what an emission is of, and what runs at its channel
pub record Emitted (d : Definition) (a : Accepted d) (w : World) (agenda : List Task) (e : Emission) : Type 0 where
  pub types : TypesRead d
  pub handlers : HandlersGood d a.weighed.costs a.weighed.depths (standing w.objects) agenda w.last_handler w.handlers
  pub place : ℕ
  pub class : ℕ
  pub sig : Signal
  pub stands : standing w.objects e.object ≡ Some place
  pub of_class : class_at d place ≡ Some class
  pub has : signal_of d class e.signal ≡ Some sig
  pub known : class < length d.types
  pub r : Raised
  pub there : IsIn r (graph d).raised
  pub at : place_of_channel r.channel ≡ place
  pub by_class : r.class_handler ≡ listed_if (class_handler_of d class sig.name)
  pub runs : (h : Handler) → runs_for e.object e.signal e.detail h ≡ true → runs_at d h r.channel ≡ true

module _ (d : Definition) (a : Accepted d) (w : World) (agenda below : List Task) (e : Emission) (x : Emitted d a w agenda e) where
  -- a turn that is good, and no deeper
  abbrev pub Planned : PlanEntry → Type 0
  Planned turn = TurnGood d (view w) e turn × (turn_depth d a.weighed.depths (view w) below turn ≤ depth_within a.weighed.depths x.r)

  class_turn : (program : ℕ) (cleanup : Bool) → class_handler_of d x.class x.sig.name ≡ Some program → Planned (class_handler program cleanup)
  class_turn program cleanup is = (
    record { place = x.place; is = x.stands; allowed = class_takes d x.types a x.place x.class e.signal program x.sig x.of_class x.has x.known is },
    (let low = greatest_in (of_program a.weighed.depths) (running_at x.r) program runs_there in omega (arith, low)),
  )
    where
      runs_there : IsIn program (running_at x.r)
      runs_there =
          let one : IsIn program (listed_if (class_handler_of d x.class x.sig.name)) = subst (λ o. IsIn program (listed_if o)) (sym is) (inl refl) in
          in_first x.r.class_handler (x.r.handlers ++ x.r.connectable) program (subst (IsIn program) (sym x.by_class) one)

  stage : (runs cleanup : Bool) → Each Planned (at_stage runs cleanup (class_handler_of d x.class x.sig.name))
  stage runs cleanup = go runs (class_handler_of d x.class x.sig.name) refl
    where
      go : (runs : Bool) (o : Option ℕ) → class_handler_of d x.class x.sig.name ≡ o → Each Planned (at_stage runs cleanup o)
      go runs None is = tt
      go true (Some program) is = (class_turn program cleanup is, tt)
      go false (Some program) is = tt

  good : ChannelGood d a.weighed.costs a.weighed.depths agenda e.object w.handlers x.r
  good = each_in _ (graph d).raised (x.handlers.channels e.object x.place x.stands) x.r x.there x.at

  shallow : (h : Handler) → IsIn h w.handlers → nat_eq h.object e.object ≡ true → runs_at d h x.r.channel ≡ true → of_program a.weighed.depths h.program ≤ depth_within a.weighed.depths x.r
  shallow h there own runs = go h.by_code refl
    where
      passes : (b : Bool) → h.by_code ≡ b → (cond b h.by_code (not h.by_code) && (nat_eq h.object e.object && runs_at d h x.r.channel)) ≡ true
      passes true e = rw (e, own, runs) refl
      passes false e = rw (e, own, runs) refl

      go : (b : Bool) → h.by_code ≡ b → of_program a.weighed.depths h.program ≤ depth_within a.weighed.depths x.r
      go true is =
          each_in (λ (h : Handler). of_program a.weighed.depths h.program ≤ depth_within a.weighed.depths x.r) (running_for d true e.object x.r.channel w.handlers) good.connected_shallow h
          (filter_in (λ (h : Handler). cond true h.by_code (not h.by_code) && (nat_eq h.object e.object && runs_at d h x.r.channel)) w.handlers h (passes true is) there)
      go false is =
          each_in (λ (h : Handler). of_program a.weighed.depths h.program ≤ depth_within a.weighed.depths x.r) (running_for d false e.object x.r.channel w.handlers) good.own_shallow h
          (filter_in (λ (h : Handler). cond false h.by_code (not h.by_code) && (nat_eq h.object e.object && runs_at d h x.r.channel)) w.handlers h (passes false is) there)

  handler_turn : (h : Handler) → IsIn h w.handlers → runs_for e.object e.signal e.detail h ≡ true → Planned (handler h.number)
  handler_turn h there runs =
      let p = both_parts (nat_eq h.object e.object && nat_eq h.signal e.signal) (fits_detail h.detail e.detail) runs in
      let q = both_parts (nat_eq h.object e.object) (nat_eq h.signal e.signal) p.0 in
      let found = each_in (λ (h : Handler). handler_of h.number w.handlers ≡ Some h) w.handlers (rising_are_found 0 w.handlers x.handlers.rising) h there in
      let low = each_in (λ (h : Handler). h.number ≤ w.last_handler) w.handlers x.handlers.numbered h there in
      let deep = shallow h there q.0 (x.runs h runs) in (
        (
          low,
          λ y is. (let same : h ≡ y = (let f = sym found ∙ is in cc) in (
            ap (λ (h : Handler). h.object) (sym same) ∙ eqb-true h.object e.object q.0,
            ap (λ (h : Handler). h.signal) (sym same) ∙ eqb-true h.signal e.signal q.1,
          )),
        ),
        subst (λ m. m ≤ depth_within a.weighed.depths x.r) (sym (costs_its_program found)) deep,
      )
    where
      costs_its_program : handler_of h.number w.handlers ≡ Some h → turn_depth d a.weighed.depths (view w) below (handler h.number) ≡ of_program a.weighed.depths h.program
      costs_its_program found = rw found refl

  handlers_planned : (after : Bool) → Each Planned (handlers_for w.handlers e.object e.signal e.detail after)
  handlers_planned after =
      each_passing Planned (λ (h : Handler). handler h.number) (λ (h : Handler). runs_for e.object e.signal e.detail h && cond after h.after (not h.after)) w.handlers
      (λ h there passes. handler_turn h there (both_parts (runs_for e.object e.signal e.detail h) _ passes).0)

  -- the whole plan, with its transfers, of which another bound may be shown
  pub plan_good : (Q : PlanEntry → Type 0) → ((turn : PlanEntry) → Planned turn → Q turn) → (flags : ℕ) (transfers : List PlanEntry) → Each Q transfers →
      Each Q
      (plan w
      (record { object = e.object; signal = e.signal; detail = e.detail; flags = flags; class_program = class_handler_of d x.class x.sig.name; transfers = transfers }))
  plan_good Q from flags ts over =
      let o = class_handler_of d x.class x.sig.name in
      let l1 = at_stage (has_flags 1 flags) false o in
      let l2 = handlers_for w.handlers e.object e.signal e.detail false in
      let l3 = at_stage (has_flags 2 flags) false o in
      let l4 = handlers_for w.handlers e.object e.signal e.detail true in
      let l5 = at_stage (has_flags 4 flags) true o in
      each_append Q l1 (ts ++ (l2 ++ (l3 ++ (l4 ++ l5)))) (all l1 (stage (has_flags 1 flags) false))
      (each_append Q ts (l2 ++ (l3 ++ (l4 ++ l5))) over
      (each_append Q l2 (l3 ++ (l4 ++ l5)) (all l2 (handlers_planned false))
      (each_append Q l3 (l4 ++ l5) (all l3 (stage (has_flags 2 flags) false))
      (each_append Q l4 l5 (all l4 (handlers_planned true)) (all l5 (stage (has_flags 4 flags) true))))))
    where
      all : (turns : List PlanEntry) → Each Planned turns → Each Q turns
      all [] h = tt
      all (turn ∷ turns) h = (from turn h.0, all turns h.1)
