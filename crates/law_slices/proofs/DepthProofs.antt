-- A part of a dispatch has few steps by the depth of the report.
use Rattle.std.proofs.Common.{◌≡◌, inl, inr, refl, sym, ap, subst, ◌∙◌, ℕ, zero, suc, ◌+◌, ◌*◌, ◌≤◌, ◌⊎◌, List, [], Some, arith}
use Rattle.std.specs.Prelude.{option_map}
use Rattle.ui_machine.specs.Definition.{Definition}
use Rattle.ui_machine.specs.Runs.{Fits, Steps, listed}
use Rattle.ui_machine.specs.State.Config.{Config}
use Rattle.ui_machine.specs.State.Peers.{Peer, Reply}
use Rattle.ui_machine.specs.State.Tasks.{Event}
use Rattle.ui_machine.specs.Steps.{most_steps}
use Rattle.law_typing.specs.Graph.{graph}
use Rattle.law_typing.specs.Graph.Depths.{depth, depths}
use Rattle.law_typing.specs.Graph.Tables.{Tables}
use Rattle.law_typing.specs.Laws.StepsKeepGood.{IsGood}
use Rattle.law_typing.specs.Laws.WellRead.{WellRead}
use Rattle.law_typing.specs.Verdict.Accepted.{Accepted, Each}
use Rattle.law_typing.proofs.ExactProofs.{depths_found}
use Rattle.law_typing.proofs.PairProofs.{accepted_is_paired}
use Rattle.law_typing.proofs.RestProofs.{good_is_within}
use Rattle.law_steps.specs.Served.Sessions.{Dispatch, beginning_of, building, serving, turning}
use Rattle.law_steps.proofs.Served.DispatchProofs.{one_step}
use Rattle.law_steps.proofs.Tasked.StepsProofs.{steps_keep_good}
use Rattle.law_runs.specs.Stacks.{IsStacked}
use Rattle.law_runs.proofs.ShortProofs.{stacked_are_short}
use Rattle.law_runs.proofs.StepProofs.{stacks_last}
use Rattle.law_prices.specs.Dispatches.{NoneHasEnded, steps_price}
use Rattle.law_prices.proofs.BoundProofs.{within}
use Rattle.law_prices.proofs.DispatchPays.{begins_at, comes, first_fits}
use Rattle.law_slices.specs.Depths.{DepthIsFound, PartsAreWithinDepth, QuietPartsAreWithinDepth, most_frames, most_tasks}
use Rattle.law_slices.specs.Lists.{extra}
use Rattle.law_slices.proofs.PaceProofs.{step_paces}
use Rattle.law_slices.proofs.Paces.{pace, pace_short}
use Rattle.law_slices.proofs.QuietRunProofs.{counts_rise, counts_rise_by_one, none_more}

-- the depth that is computed is that of the tables
depth_is : (d : Definition) (a : Accepted d) → depths (graph d) ≡ Some a.weighed.depths
depth_is d a = depths_found (graph d) a.weighed.ranks a.weighed.ranking (accepted_is_paired d a) a.weighed.depths a.weighed.solves_depths

frames_are : (d : Definition) (a : Accepted d) → most_frames d ≡ Some (depth (graph d) a.weighed.depths)
frames_are d a = ap (option_map (λ (t : Tables). depth (graph d) t)) (depth_is d a)

pub depth_is_found : DepthIsFound
depth_is_found d a = (depth (graph d) a.weighed.depths, frames_are d a)

-- the most tasks, by the depth of the tables
abbrev tasks_of : (d : Definition) → Accepted d → ℕ
tasks_of d a = most_tasks (depth (graph d) a.weighed.depths)

some_is : (n m : ℕ) → Some n ≡ Some m → n ≡ m
some_is n m e = cc

same_tasks : (d : Definition) (a : Accepted d) (frames : ℕ) → most_frames d ≡ Some frames → tasks_of d a ≡ most_tasks frames
same_tasks d a frames is = ap most_tasks (some_is (depth (graph d) a.weighed.depths) frames (sym (frames_are d a) ∙ is))

-- where a dispatch begins
begins_stacked : {d : Definition} {peers : List Peer} {events : List Event} → (x : Dispatch d peers events) → IsStacked (beginning_of x).agenda
begins_stacked building = tt
begins_stacked (serving r w serves) = tt
begins_stacked (turning moment w serves number v s runs) = (tt, tt)

module _ (d : Definition) (well : WellRead d) (a : Accepted d) (most : ℕ) (few : most ≤ most_steps) where
  pace_within : (c : Config) → IsGood d a most c → IsStacked c.agenda → pace c.agenda ≤ tasks_of d a
  pace_within c good stacked =
      let short = pace_short c.agenda in
      let all = stacked_are_short c.agenda stacked in
      let deep = (good_is_within d a.weighed.costs a.weighed.depths most (depth (graph d) a.weighed.depths) c good).1 in
      omega (arith, short, all, deep)

  along : (n : ℕ) (replies : List Reply) → Each (Fits d) replies → (c e : Config) → IsGood d a most c → IsStacked c.agenda → (s : Steps d n replies c e) → NoneHasEnded d n replies c e s →
      (k : ℕ) → e.counted ≤ c.counted + k → n ≤ pace c.agenda + k * (1 + tasks_of d a) + steps_price d extra n replies c e s
  along zero replies fit c e good stacked s none k low = omega arith
  along (suc n) replies fit c e good stacked s none k low =
      let both = first_fits d s.reply s.later (subst (Each (Fits d)) s.replied fit) in
      let next = one_step steps_keep_good d well a most few c s.mid good s.reply both.0 s.step in
      let lies = stacks_last d (listed s.reply) c s.mid (record { count = 1; steps = one }) stacked in
      on next lies (counts_rise_by_one d s.reply c s.mid s.step.leads) (λ k low. along n s.later both.1 s.mid e next lies s.follows none.1 k low)
    where
      one : Steps d 1 (listed s.reply) c s.mid
      one = record { reply = s.reply; later = []; mid = s.mid; replied = none_more (listed s.reply); step = s.step; follows = (refl, refl) }

      Rest : Type 0
      Rest = (k : ℕ) → e.counted ≤ s.mid.counted + k → n ≤ pace s.mid.agenda + k * (1 + tasks_of d a) + steps_price d extra n s.later s.mid e s.follows

      Whole : ℕ → Type 0
      Whole k = suc n ≤ pace c.agenda + k * (1 + tasks_of d a) + steps_price d extra (suc n) replies c e s

      counts : IsGood d a most s.mid → IsStacked s.mid.agenda → s.mid.counted ≡ suc c.counted → Rest → (k : ℕ) → e.counted ≤ c.counted + k → Whole k
      counts next lies more rest zero low = let rises = counts_rise d n s.later s.mid e s.follows in absurd (omega (arith, rises, low, more))
      counts next lies more rest (suc k) low =
          let later = rest k (omega (arith, low, more)) in
          let deep = pace_within s.mid next lies in
          let times : suc k * (1 + tasks_of d a) ≡ k * (1 + tasks_of d a) + (1 + tasks_of d a) = omega arith in
          omega (arith, later, deep, times)

      on : IsGood d a most s.mid → IsStacked s.mid.agenda → (s.mid.counted ≡ c.counted) ⊎ (s.mid.counted ≡ suc c.counted) → Rest → Whole k
      on next lies (inl quiet) rest =
          let later = rest k (omega (arith, low, quiet)) in
          let falls = step_paces d a most s.reply s.mid c good s.step.leads quiet none.0 in
          omega (arith, later, falls)
      on next lies (inr more) rest = counts next lies more rest k low

pub parts_are_within_depth : PartsAreWithinDepth
parts_are_within_depth d well a peers ready events read x early fits m c before n replies fit at s none frames is k few =
    within d a extra _ _ (λ t solves.
    let b = begins_at d well a extra t solves peers ready events read x in
    let first = comes d well a extra t solves b.most b.few m early fits (beginning_of x) c b.good b.paid before in
    let part = comes d well a extra t solves b.most b.few n replies fit c at first.good first.paid s in
    let stacked = stacks_last d early (beginning_of x) c (record { count = m; steps = before }) (begins_stacked x) in
    let low = along d well a b.most b.few n replies fit c at first.good stacked s none k few in
    let deep = pace_within d well a b.most b.few c first.good stacked in
    let times : (k + 1) * tasks_of d a ≡ k * tasks_of d a + tasks_of d a = omega arith in
    let split : k * (1 + tasks_of d a) ≡ k + k * tasks_of d a = omega arith in
    let same = ap (λ n. (k + 1) * n) (same_tasks d a frames is) in
    let start = b.within in
    let f1 = first.falls in
    let f2 = part.falls in
    omega (arith, low, deep, times, split, same, start, f1, f2))

pub quiet_parts_are_within_depth : QuietPartsAreWithinDepth
quiet_parts_are_within_depth d well a peers ready events read x early fits m c before n replies fit at s none frames is same =
    let w = parts_are_within_depth d well a peers ready events read x early fits m c before n replies fit at s none frames is 0 (omega (arith, same)) in
    let low = w.within in
    record { most = w.most; is = w.is; within = omega (arith, low) }
