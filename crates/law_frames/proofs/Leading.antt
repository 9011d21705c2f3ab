-- Where a task is the first one, what is to be shown of the tasks that its step leaves, so that all falls again.
use Rattle.std.proofs.Common.{◌≡◌, refl, sym, subst, ℕ, zero, suc, ◌+◌, ◌<◌, ◌⊎◌, inl, inr, Bool, true, false, cond, List, [], ◌∷◌, ◌++◌, Option, None, Some, slice_get, arith}
use Rattle.ui_machine.specs.Seq.{total}
use Rattle.ui_machine.specs.Definition.{Definition}
use Rattle.ui_machine.specs.Definition.Places.{Bind}
use Rattle.ui_machine.specs.State.Config.{World, Config}
use Rattle.ui_machine.specs.State.Handlers.{Handler}
use Rattle.ui_machine.specs.State.Objects.{Object, living}
use Rattle.ui_machine.specs.State.Tasks.{Task, Setting, Notifying, Beginning, Emitting, Transferring, Unsetting, Thawing, Running, Answering, Calling, Constructing, Building, Handling, Due}
use Rattle.law_typing.specs.Good.Agenda.{AgendaGood}
use Rattle.law_typing.specs.Good.ComingDown.{Down}
use Rattle.law_typing.specs.Good.Freezes.{QueuesGood, frozen_by}
use Rattle.law_typing.specs.Good.Standing.{Standing, standing, view}
use Rattle.law_typing.specs.Graph.{graph}
use Rattle.law_typing.specs.Graph.Channels.{Channel, property, source_of, target_of}
use Rattle.law_typing.specs.Graph.Depths.{depth}
use Rattle.law_typing.specs.Graph.Tables.{Tables, entry}
use Rattle.law_typing.specs.Laws.{IsIn}
use Rattle.law_typing.specs.Laws.StepsKeepGood.{IsGood}
use Rattle.law_typing.specs.Verdict.Accepted.{Accepted, Each}
use Rattle.law_typing.proofs.Lists.{each_in}
use Rattle.law_static.proofs.PlanCostProofs.{total_append}
use Rattle.law_frames.specs.Frames.{Falls, FallsAt, IsHeld, LiesOnEnd, QueuesFall, TaskFalls, Under, emission_height, height, is_pair_of, within}
use Rattle.law_frames.proofs.Going.{GoesOn}
use Rattle.law_frames.proofs.OnceProofs.{entry_low, fewer_under, height_is, under_below, which_end}
use Rattle.law_frames.proofs.Staying.{SameAt, falls_stay, good_from, held_again, held_stays, low_at, same_at, under_stays}

pub all_each : {A : Type 0} (P : A → Type 0) (xs : List A) → ((x : A) → IsIn x xs → P x) → Each P xs
all_each P [] h = tt
all_each P (x ∷ xs) h = (h x (inl refl), all_each P xs (λ y there. h y (inr there)))

held_front : (d : Definition) (depths : Tables) (s : Standing) (id n : ℕ) (new mid : List Task) → IsHeld d depths s id n mid → IsHeld d depths s id n (new ++ mid)
held_front d depths s id n [] mid held = held
held_front d depths s id n (task ∷ new) mid held = inr (held_front d depths s id n new mid held)

-- where something waits for an object, it is frozen
pub frozen_somewhere : (d : Definition) (depths : Tables) (most : ℕ) (agenda : List Task) (n : ℕ) (v : World) → QueuesGood d depths most agenda n v.objects → (id slot : ℕ) (o : Object) → living v.objects id ≡ Some o →
    IsIn slot o.queue → 0 < total (frozen_by d id) agenda
frozen_somewhere d depths most agenda n v good id slot o is there = by o.freezes refl
  where
    by : (k : ℕ) → o.freezes ≡ k → 0 < total (frozen_by d id) agenda
    by zero none = absurd (subst (IsIn slot) ((good id o is).none none) there)
    by (suc k) some = let count = (good id o is).count in omega (arith, count, some)

-- what is due at an object that is frozen is held, also where a pair began it: then the emission that the pair came from may need as much
module _ (d : Definition) (depths : Tables) (s : Standing) (hs : List Handler) (id : ℕ) where
  over_held : (c : Channel) (b : Bind) (below : List Task) → (source_of b ≡ c) ⊎ (target_of b ≡ c) → LiesOnEnd d depths s b below → Falls d depths s hs below → 0 < total (frozen_by d id) below →
      IsHeld d depths s id (entry depths.channels c) below
  over_held c b (Building items ∷ []) end lies falls some = absurd (omega (arith, some))
  over_held c b (Emitting e turns ∷ below) end lies falls some =
      let low = entry_low d depths s hs c b (emission_height d depths s below e) end lies in
      let is = height_is d depths s hs below e turns falls.0.0 in
      let n = entry depths.channels c in
      inr (held_again d depths s hs id n below falls.1 (fewer_under d depths s hs n (height d depths below falls.0.0.channel) below (omega (arith, low, is)) falls.0.0.under) (omega (arith, some)))
  over_held c b _ end lies falls some = absurd lies

  pub held_where_due : (c : Channel) (below : List Task) → Under d depths s (height d depths below c) below → Falls d depths s hs below → 0 < total (frozen_by d id) below →
      IsHeld d depths s id (entry depths.channels c) below
  held_where_due c (Unsetting number ∷ below) u falls some = by (slice_get d.bindings number) refl u
    where
      by : (o : Option Bind) → slice_get d.bindings number ≡ o → Under d depths s (cond (is_pair_of c o) (1 + within d depths c) (entry depths.channels c)) below →
          IsHeld d depths s id (entry depths.channels c) (Unsetting number ∷ below)
      by None is u = held_again d depths s hs id (entry depths.channels c) (Unsetting number ∷ below) falls u some
      by (Some b) is u = pairs (is_pair_of c (Some b)) refl u
        where
          pairs : (x : Bool) → is_pair_of c (Some b) ≡ x → Under d depths s (cond x (1 + within d depths c) (entry depths.channels c)) below →
              IsHeld d depths s id (entry depths.channels c) (Unsetting number ∷ below)
          pairs false e u = held_again d depths s hs id (entry depths.channels c) (Unsetting number ∷ below) falls u some
          pairs true e u =
              let end = which_end d depths s hs c b e in
              inr (over_held c b below end.1 (falls.0 b is end.0) falls.1 (omega (arith, some)))
  held_where_due c [] u falls some = held_again d depths s hs id (entry depths.channels c) [] falls u some
  held_where_due c (Running frame ∷ below) u falls some = held_again d depths s hs id (entry depths.channels c) (Running frame ∷ below) falls u some
  held_where_due c (Emitting e turns ∷ below) u falls some = held_again d depths s hs id (entry depths.channels c) (Emitting e turns ∷ below) falls u some
  held_where_due c (Constructing i steps held ∷ below) u falls some = held_again d depths s hs id (entry depths.channels c) (Constructing i steps held ∷ below) falls u some
  held_where_due c (Setting i slot v ∷ below) u falls some = held_again d depths s hs id (entry depths.channels c) (Setting i slot v ∷ below) falls u some
  held_where_due c (Notifying i slot ∷ below) u falls some = held_again d depths s hs id (entry depths.channels c) (Notifying i slot ∷ below) falls u some
  held_where_due c (Beginning e ∷ below) u falls some = held_again d depths s hs id (entry depths.channels c) (Beginning e ∷ below) falls u some
  held_where_due c (Transferring number back ∷ below) u falls some = held_again d depths s hs id (entry depths.channels c) (Transferring number back ∷ below) falls u some
  held_where_due c (Thawing i slots ∷ below) u falls some = held_again d depths s hs id (entry depths.channels c) (Thawing i slots ∷ below) falls u some
  held_where_due c (Answering source ∷ below) u falls some = held_again d depths s hs id (entry depths.channels c) (Answering source ∷ below) falls u some
  held_where_due c (Calling call ∷ below) u falls some = held_again d depths s hs id (entry depths.channels c) (Calling call ∷ below) falls u some
  held_where_due c (Building items ∷ below) u falls some = held_again d depths s hs id (entry depths.channels c) (Building items ∷ below) falls u some
  held_where_due c (Handling request ∷ below) u falls some = held_again d depths s hs id (entry depths.channels c) (Handling request ∷ below) falls u some
  held_where_due c (Due source ∷ below) u falls some = held_again d depths s hs id (entry depths.channels c) (Due source ∷ below) falls u some

-- what is raised into a queue is held
abbrev pub RaisedHeld : Definition → Tables → (ℕ → ℕ → Type 0) → World → List Task → Type 0
RaisedHeld d depths But v agenda = (id slot : ℕ) (o : Object) → living v.objects id ≡ Some o → IsIn slot o.queue → But id slot →
    IsHeld d depths (standing v.objects) id (entry depths.channels (property o.place slot)) agenda

module _ (d : Definition) (depths : Tables) (But : ℕ → ℕ → Type 0) (w v : World) (agenda new mid : List Task) (goes : GoesOn But w v) where
  pub queues_fall : QueuesFall d depths w.objects (standing w.objects) agenda → Falls d depths (standing v.objects) v.handlers mid →
      ((id n : ℕ) → IsHeld d depths (standing w.objects) id n agenda → Under d depths (standing v.objects) n mid ⊎ IsHeld d depths (standing v.objects) id n mid) →
      ((id slot : ℕ) (o : Object) → living v.objects id ≡ Some o → IsIn slot o.queue → 0 < total (frozen_by d id) mid) →
      RaisedHeld d depths But v (new ++ mid) → QueuesFall d depths v.objects (standing v.objects) (new ++ mid)
  queues_fall old falls carry some raised id o is =
      all_each (λ slot. IsHeld d depths (standing v.objects) id (entry depths.channels (property o.place slot)) (new ++ mid)) o.queue (λ slot there. by slot there (goes.queues id o is slot there))
    where
      mid_held : (slot n : ℕ) → IsIn slot o.queue → Under d depths (standing v.objects) n mid ⊎ IsHeld d depths (standing v.objects) id n mid → IsHeld d depths (standing v.objects) id n mid
      mid_held slot n there (inl u) = held_again d depths (standing v.objects) v.handlers id n mid falls u (some id slot o is there)
      mid_held slot n there (inr held) = held

      by : (slot : ℕ) → IsIn slot o.queue → ((p : Object) × (living w.objects id ≡ Some p) × (o.place ≡ p.place) × IsIn slot p.queue) ⊎ But id slot →
          IsHeld d depths (standing v.objects) id (entry depths.channels (property o.place slot)) (new ++ mid)
      by slot there (inr may) = raised id slot o is there may
      by slot there (inl x) =
          let was = each_in (λ slot. IsHeld d depths (standing w.objects) id (entry depths.channels (property x.0.place slot)) agenda) x.0.queue (old id x.0 x.1) slot x.3 in
          let at = subst (λ place. IsHeld d depths (standing w.objects) id (entry depths.channels (property place slot)) agenda) (sym x.2) was in
          let n = entry depths.channels (property o.place slot) in
          held_front d depths (standing v.objects) id n new mid (mid_held slot n there (carry id n at))

module _ (d : Definition) (a : Accepted d) (most_counted : ℕ) (w : World) (task : Task) (rest : List Task) (n : ℕ)
    (g : IsGood d a most_counted (record { world = w; agenda = task ∷ rest; counted = n })) (f : FallsAt d a.weighed.depths (record { world = w; agenda = task ∷ rest; counted = n }))
    (But : ℕ → ℕ → Type 0) where
  abbrev depths : Tables
  depths = a.weighed.depths

  abbrev most : ℕ
  most = depth (graph d) depths

  -- what is good, and went on, falls
  abbrev pub Leads : Config → Type 0
  Leads e = IsGood d a most_counted e → GoesOn But w e.world → FallsAt d depths e

  -- what lies below falls still
  pub rest_same : (v : World) → GoesOn But w v → (up : Down) (budget : ℕ) → AgendaGood d a.weighed.costs depths (view v) most up rest budget → SameAt (standing w.objects) (standing v.objects) rest
  rest_same v goes up budget h = same_at d a.weighed.costs depths most w v goes.places rest _ up g.agenda.2 budget g.agenda.6 h

  pub rest_falls : (v : World) → GoesOn But w v → SameAt (standing w.objects) (standing v.objects) rest → Falls d depths (standing v.objects) v.handlers rest
  rest_falls v goes same =
      falls_stay d depths (standing w.objects) (standing v.objects) w.last_handler w.handlers v.handlers goes.handlers rest same (low_at d a.weighed.costs depths most w rest _ g.agenda.2 g.agenda.6) f.agenda.1

  -- the step replaces the task by these
  pub plain : (v : World) (new : List Task) (k : ℕ) →
      (IsGood d a most_counted (record { world = v; agenda = new ++ rest; counted = k }) → GoesOn But w v → SameAt (standing w.objects) (standing v.objects) rest → Falls d depths (standing v.objects) v.handlers rest → Falls d depths (standing v.objects) v.handlers (new ++ rest)) →
      ((id : ℕ) → total (frozen_by d id) new ≡ 0) →
      (IsGood d a most_counted (record { world = v; agenda = new ++ rest; counted = k }) → GoesOn But w v → Falls d depths (standing v.objects) v.handlers rest → RaisedHeld d depths But v (new ++ rest)) →
      Leads (record { world = v; agenda = new ++ rest; counted = k })
  plain v new k top unfrozen raised good goes =
      let from = good_from d a.weighed.costs depths most v new rest _ good.budget good.agenda in
      let same = rest_same v goes from.0 from.1 from.2 in
      let below = rest_falls v goes same in
      record {
        agenda = top good goes same below;
        queues = queues_fall d depths But w v (task ∷ rest) new rest goes f.queues below carry some (raised good goes below);
      }
    where
      some : (id slot : ℕ) (o : Object) → living v.objects id ≡ Some o → IsIn slot o.queue → 0 < total (frozen_by d id) rest
      some id slot o is there =
          let all = frozen_somewhere d depths most (new ++ rest) k v good.queues id slot o is there in
          let sum = total_append (frozen_by d id) new rest in
          let none = unfrozen id in
          omega (arith, all, sum, none)

      carry : (id m : ℕ) → IsHeld d depths (standing w.objects) id m (task ∷ rest) → Under d depths (standing v.objects) m rest ⊎ IsHeld d depths (standing v.objects) id m rest
      carry id m (inl x) =
          let from = good_from d a.weighed.costs depths most v new rest _ good.budget good.agenda in
          let same = rest_same v goes from.0 from.1 from.2 in
          inl (under_stays d depths (standing w.objects) (standing v.objects) m rest same (under_below d depths (standing w.objects) w.handlers m task rest f.agenda.0 x.1))
      carry id m (inr held) =
          let from = good_from d a.weighed.costs depths most v new rest _ good.budget good.agenda in
          let same = rest_same v goes from.0 from.1 from.2 in
          inr (held_stays d depths (standing w.objects) (standing v.objects) id m rest same held)

  -- the step leaves the task, as another like it, below these
  pub framed : (v : World) (new : List Task) (next : Task) (k : ℕ) →
      (IsGood d a most_counted (record { world = v; agenda = new ++ next ∷ rest; counted = k }) → GoesOn But w v → SameAt (standing w.objects) (standing v.objects) rest →
      Falls d depths (standing v.objects) v.handlers rest → TaskFalls d depths (standing v.objects) v.handlers rest next) →
      (IsGood d a most_counted (record { world = v; agenda = new ++ next ∷ rest; counted = k }) → GoesOn But w v → SameAt (standing w.objects) (standing v.objects) rest →
      Falls d depths (standing v.objects) v.handlers (next ∷ rest) → Falls d depths (standing v.objects) v.handlers (new ++ next ∷ rest)) →
      (IsGood d a most_counted (record { world = v; agenda = new ++ next ∷ rest; counted = k }) → GoesOn But w v → SameAt (standing w.objects) (standing v.objects) rest →
      (m : ℕ) → Under d depths (standing w.objects) m (task ∷ rest) → Under d depths (standing v.objects) m (next ∷ rest)) →
      ((id slot : ℕ) (o : Object) → living v.objects id ≡ Some o → IsIn slot o.queue → total (frozen_by d id) new ≡ 0) →
      (IsGood d a most_counted (record { world = v; agenda = new ++ next ∷ rest; counted = k }) → GoesOn But w v → Falls d depths (standing v.objects) v.handlers (next ∷ rest) → RaisedHeld d depths But v (new ++ next ∷ rest)) →
      Leads (record { world = v; agenda = new ++ next ∷ rest; counted = k })
  framed v new next k own top under unfrozen raised good goes =
      record {
        agenda = top good goes same (own good goes same below, below);
        queues = queues_fall d depths But w v (task ∷ rest) new (next ∷ rest) goes f.queues (own good goes same below, below) carry some (raised good goes (own good goes same below, below));
      }
    where
      same : SameAt (standing w.objects) (standing v.objects) rest
      same =
          let from = good_from d a.weighed.costs depths most v new (next ∷ rest) _ good.budget good.agenda in
          rest_same v goes _ from.2.2 from.2.6

      below : Falls d depths (standing v.objects) v.handlers rest
      below = rest_falls v goes same

      some : (id slot : ℕ) (o : Object) → living v.objects id ≡ Some o → IsIn slot o.queue → 0 < total (frozen_by d id) (next ∷ rest)
      some id slot o is there =
          let all = frozen_somewhere d depths most (new ++ next ∷ rest) k v good.queues id slot o is there in
          let sum = total_append (frozen_by d id) new (next ∷ rest) in
          let none = unfrozen id slot o is there in
          omega (arith, all, sum, none)

      carry : (id m : ℕ) → IsHeld d depths (standing w.objects) id m (task ∷ rest) → Under d depths (standing v.objects) m (next ∷ rest) ⊎ IsHeld d depths (standing v.objects) id m (next ∷ rest)
      carry id m (inl x) = inl (under good goes same m x.1)
      carry id m (inr held) = inr (inr (held_stays d depths (standing w.objects) (standing v.objects) id m rest same held))
