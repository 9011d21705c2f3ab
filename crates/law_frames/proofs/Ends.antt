-- What falls still falls where the task below takes what comes down.
use Rattle.std.proofs.Common.{◌≡◌, inl, inr, sym, ap, subst, ℕ, ◌<◌, ◌⊎◌, Bool, true, false, cond, List, [], ◌∷◌, ◌++◌, arith}
use Rattle.std.specs.List.{filter}
use Rattle.ui_machine.specs.Definition.{Definition}
use Rattle.ui_machine.specs.Rules.Accumulation.{is_of_cleanup, left_by_stop}
use Rattle.ui_machine.specs.State.Config.{World}
use Rattle.ui_machine.specs.State.Tasks.{Emission, Emitting, Frame, PlanEntry, Running, Task}
use Rattle.law_typing.specs.Good.ComingDown.{none}
use Rattle.law_typing.specs.Good.Standing.{standing}
use Rattle.law_typing.specs.Graph.{graph}
use Rattle.law_typing.specs.Graph.Depths.{depth}
use Rattle.law_typing.specs.Graph.Tables.{Tables, of_program}
use Rattle.law_typing.specs.Laws.StepsKeepGood.{IsGood}
use Rattle.law_typing.specs.Verdict.Accepted.{Accepted, Each}
use Rattle.law_frames.specs.Frames.{Falls, FallsAt, IsHeld, TaskFalls, TurnFalls, Under, emission_height, height_if}
use Rattle.law_frames.proofs.Emissions.{emitting_again, same_emission}
use Rattle.law_frames.proofs.Going.{GoesOn}
use Rattle.law_frames.proofs.Leading.{frozen_somewhere, queues_fall}
use Rattle.law_frames.proofs.OnceProofs.{under_below}
use Rattle.law_frames.proofs.Staying.{SameAt, falls_stay, good_from, held_stays, low_at, same_at, under_stays}
use Rattle.law_frames.proofs.Tasks.{Nothing}

-- some turns are left by a stop
pub each_kept : {A : Type 0} (P : A → Type 0) (test : A → Bool) (xs : List A) → Each P xs → Each P (filter test xs)
each_kept P test [] all = tt
each_kept {A} P test (x ∷ xs) all = by (test x) (each_kept P test xs all.1)
  where
    by : (b : Bool) → Each P (filter test xs) → Each P (cond b (x ∷ filter test xs) (filter test xs))
    by true rest = (all.0, rest)
    by false rest = rest

pub each_left : (P : PlanEntry → Type 0) (e : Emission) (turns : List PlanEntry) → Each P turns → Each P (left_by_stop e turns)
each_left P e turns all = by e.cleanup
  where
    by : (b : Bool) → Each P (cond b turns (filter is_of_cleanup turns))
    by true = all
    by false = each_kept P is_of_cleanup turns all

module _ (d : Definition) (a : Accepted d) (most_counted : ℕ) (w : World) (task : Task) (low : List Task) (rest : List Task) (n : ℕ)
    (g : IsGood d a most_counted (record { world = w; agenda = task ∷ low ++ rest; counted = n })) (f : FallsAt d a.weighed.depths (record { world = w; agenda = task ∷ low ++ rest; counted = n })) where
  abbrev depths : Tables
  depths = a.weighed.depths

  -- the step leaves other tasks in the place of the first ones
  pub replaced : (v : World) (mid : List Task) (k : ℕ) →
      (IsGood d a most_counted (record { world = v; agenda = mid ++ rest; counted = k }) → GoesOn Nothing w v → SameAt (standing w.objects) (standing v.objects) rest →
      Falls d depths (standing v.objects) v.handlers rest → Falls d depths (standing v.objects) v.handlers (mid ++ rest)) →
      (IsGood d a most_counted (record { world = v; agenda = mid ++ rest; counted = k }) → GoesOn Nothing w v → SameAt (standing w.objects) (standing v.objects) rest →
      (id m : ℕ) → IsHeld d depths (standing w.objects) id m (task ∷ low ++ rest) → Under d depths (standing v.objects) m (mid ++ rest) ⊎ IsHeld d depths (standing v.objects) id m (mid ++ rest)) →
      IsGood d a most_counted (record { world = v; agenda = mid ++ rest; counted = k }) → GoesOn Nothing w v → FallsAt d depths (record { world = v; agenda = mid ++ rest; counted = k })
  replaced v mid k top carry good goes =
      let was = good_from d a.weighed.costs depths (depth (graph d) depths) w (task ∷ low) rest none g.budget g.agenda in
      let now = good_from d a.weighed.costs depths (depth (graph d) depths) v mid rest none good.budget good.agenda in
      let same = same_at d a.weighed.costs depths (depth (graph d) depths) w v goes.places rest _ _ was.1 now.1 was.2 now.2 in
      let below = falls_stay d depths (standing w.objects) (standing v.objects) w.last_handler w.handlers v.handlers goes.handlers rest same
      (low_at d a.weighed.costs depths (depth (graph d) depths) w rest _ was.1 was.2) (lower (task ∷ low) rest f.agenda) in
      let falls = top good goes same below in
      record {
        agenda = falls;
        queues = queues_fall d depths Nothing w v (task ∷ low ++ rest) [] (mid ++ rest) goes f.queues falls (carry good goes same)
            (λ id slot o is there. frozen_somewhere d depths (depth (graph d) depths) (mid ++ rest) k v good.queues id slot o is there) (λ id slot o is there none. absurd none);
      }
    where
      lower : (front tasks : List Task) → Falls d depths (standing w.objects) w.handlers (front ++ tasks) → Falls d depths (standing w.objects) w.handlers tasks
      lower [] tasks falls = falls
      lower (x ∷ front) tasks falls = lower front tasks falls.1

-- ** a program below goes on

module _ (d : Definition) (a : Accepted d) (most_counted : ℕ) (w : World) (task : Task) (h : Frame) (rest : List Task) (n : ℕ)
    (g : IsGood d a most_counted (record { world = w; agenda = task ∷ Running h ∷ rest; counted = n })) (f : FallsAt d a.weighed.depths (record { world = w; agenda = task ∷ Running h ∷ rest; counted = n })) where
  pub frame_goes_on : (v : World) (next : Frame) (k : ℕ) → next.program ≡ h.program →
      IsGood d a most_counted (record { world = v; agenda = Running next ∷ rest; counted = k }) → GoesOn Nothing w v → FallsAt d a.weighed.depths (record { world = v; agenda = Running next ∷ rest; counted = k })
  frame_goes_on v next k program =
      replaced d a most_counted w task (Running h ∷ []) rest n g f v (Running next ∷ []) k
      (λ good goes same falls. (
        subst (λ p. Under d a.weighed.depths (standing v.objects) (of_program a.weighed.depths p) rest) (sym program)
            (under_stays d a.weighed.depths (standing w.objects) (standing v.objects) (of_program a.weighed.depths h.program) rest same f.agenda.1.0),
        falls,
      ))
      carry
    where
      carry : IsGood d a most_counted (record { world = v; agenda = Running next ∷ rest; counted = k }) → GoesOn Nothing w v → SameAt (standing w.objects) (standing v.objects) rest →
          (id m : ℕ) → IsHeld d a.weighed.depths (standing w.objects) id m (task ∷ Running h ∷ rest) →
          Under d a.weighed.depths (standing v.objects) m (Running next ∷ rest) ⊎ IsHeld d a.weighed.depths (standing v.objects) id m (Running next ∷ rest)
      carry good goes same id m (inl x) =
          inl (subst (λ p. m < of_program a.weighed.depths p) (sym program) (under_below d a.weighed.depths (standing w.objects) w.handlers m task (Running h ∷ rest) f.agenda.0 x.1))
      carry good goes same id m (inr (inl x)) = inl (subst (λ p. m < of_program a.weighed.depths p) (sym program) x.1)
      carry good goes same id m (inr (inr held)) = inr (inr (held_stays d a.weighed.depths (standing w.objects) (standing v.objects) id m rest same held))

-- ** the emission below takes what a program gave, or is stopped

module _ (d : Definition) (a : Accepted d) (most_counted : ℕ) (w : World) (h : Frame) (e : Emission) (turns : List PlanEntry) (rest : List Task) (n : ℕ)
    (g : IsGood d a most_counted (record { world = w; agenda = Running h ∷ Emitting e turns ∷ rest; counted = n })) (f : FallsAt d a.weighed.depths (record { world = w; agenda = Running h ∷ Emitting e turns ∷ rest; counted = n })) where
  -- where no object changes
  module _ (x : Emission) (left : List PlanEntry) (object : x.object ≡ e.object) (sig : x.signal ≡ e.signal) (detail : x.detail ≡ e.detail) (some : (P : PlanEntry → Type 0) → Each P turns → Each P left) where
    again : TaskFalls d a.weighed.depths (standing w.objects) w.handlers rest (Emitting x left)
    again = emitting_again d a.weighed.depths (standing w.objects) w.handlers rest e x turns left object sig detail (λ c all. some (TurnFalls d a.weighed.depths w.handlers c) all) f.agenda.1.0

    height_same : emission_height d a.weighed.depths (standing w.objects) rest x ≡ emission_height d a.weighed.depths (standing w.objects) rest e
    height_same = ap (height_if d a.weighed.depths rest) (same_emission d (standing w.objects) e x object sig detail)

    pub emission_goes_on : (k : ℕ) → IsGood d a most_counted (record { world = w; agenda = Emitting x left ∷ rest; counted = k }) → GoesOn Nothing w w → FallsAt d a.weighed.depths (record { world = w; agenda = Emitting x left ∷ rest; counted = k })
    emission_goes_on k =
        replaced d a most_counted w (Running h) (Emitting e turns ∷ []) rest n g f w (Emitting x left ∷ []) k (λ good goes same falls. (again, falls)) carry
      where
        carry : IsGood d a most_counted (record { world = w; agenda = Emitting x left ∷ rest; counted = k }) → GoesOn Nothing w w → SameAt (standing w.objects) (standing w.objects) rest →
            (id m : ℕ) → IsHeld d a.weighed.depths (standing w.objects) id m (Running h ∷ Emitting e turns ∷ rest) →
            Under d a.weighed.depths (standing w.objects) m (Emitting x left ∷ rest) ⊎ IsHeld d a.weighed.depths (standing w.objects) id m (Emitting x left ∷ rest)
        carry good goes same id m (inl y) =
            inl (let low = under_below d a.weighed.depths (standing w.objects) w.handlers m (Running h) (Emitting e turns ∷ rest) f.agenda.0 y.1 in let is = height_same in omega (arith, low, is))
        carry good goes same id m (inr (inl y)) = inl (let low = y.1 in let is = height_same in omega (arith, low, is))
        carry good goes same id m (inr (inr held)) = inr (inr held)

    pub program_goes_on : (next : Frame) (k : ℕ) → next.program ≡ h.program → IsGood d a most_counted (record { world = w; agenda = Running next ∷ Emitting x left ∷ rest; counted = k }) → GoesOn Nothing w w →
        FallsAt d a.weighed.depths (record { world = w; agenda = Running next ∷ Emitting x left ∷ rest; counted = k })
    program_goes_on next k program =
        replaced d a most_counted w (Running h) (Emitting e turns ∷ []) rest n g f w (Running next ∷ Emitting x left ∷ []) k
        (λ good goes same falls. (
          (
              let low = f.agenda.0 in
              let is = height_same in
              let p = ap (of_program a.weighed.depths) program in
              omega (arith, low, is, p)),
          (again, falls),
        )) carry
      where
        carry : IsGood d a most_counted (record { world = w; agenda = Running next ∷ Emitting x left ∷ rest; counted = k }) → GoesOn Nothing w w → SameAt (standing w.objects) (standing w.objects) rest →
            (id m : ℕ) → IsHeld d a.weighed.depths (standing w.objects) id m (Running h ∷ Emitting e turns ∷ rest) →
            Under d a.weighed.depths (standing w.objects) m (Running next ∷ Emitting x left ∷ rest) ⊎ IsHeld d a.weighed.depths (standing w.objects) id m (Running next ∷ Emitting x left ∷ rest)
        carry good goes same id m (inl y) = inl (subst (λ p. m < of_program a.weighed.depths p) (sym program) y.1)
        carry good goes same id m (inr (inl y)) = absurd (let none = y.0 in omega (arith, none))
        carry good goes same id m (inr (inr held)) = inr (inr (inr held))

-- ** nothing is left in the place of two tasks

module _ (d : Definition) (a : Accepted d) (most_counted : ℕ) (w : World) (task low : Task) (rest : List Task) (n : ℕ)
    (g : IsGood d a most_counted (record { world = w; agenda = task ∷ low ∷ rest; counted = n })) (f : FallsAt d a.weighed.depths (record { world = w; agenda = task ∷ low ∷ rest; counted = n })) where
  pub both_gone : (v : World) (k : ℕ) → IsGood d a most_counted (record { world = v; agenda = rest; counted = k }) → GoesOn Nothing w v → FallsAt d a.weighed.depths (record { world = v; agenda = rest; counted = k })
  both_gone v k =
      replaced d a most_counted w task (low ∷ []) rest n g f v [] k (λ good goes same falls. falls) carry
    where
      carry : IsGood d a most_counted (record { world = v; agenda = rest; counted = k }) → GoesOn Nothing w v → SameAt (standing w.objects) (standing v.objects) rest →
          (id m : ℕ) → IsHeld d a.weighed.depths (standing w.objects) id m (task ∷ low ∷ rest) → Under d a.weighed.depths (standing v.objects) m rest ⊎ IsHeld d a.weighed.depths (standing v.objects) id m rest
      carry good goes same id m (inl x) =
          inl (under_stays d a.weighed.depths (standing w.objects) (standing v.objects) m rest same
          (under_below d a.weighed.depths (standing w.objects) w.handlers m low rest f.agenda.1.0 (under_below d a.weighed.depths (standing w.objects) w.handlers m task (low ∷ rest) f.agenda.0 x.1)))
      carry good goes same id m (inr (inl x)) =
          inl (under_stays d a.weighed.depths (standing w.objects) (standing v.objects) m rest same (under_below d a.weighed.depths (standing w.objects) w.handlers m low rest f.agenda.1.0 x.1))
      carry good goes same id m (inr (inr held)) = inr (held_stays d a.weighed.depths (standing w.objects) (standing v.objects) id m rest same held)
