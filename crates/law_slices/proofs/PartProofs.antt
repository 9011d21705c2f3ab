-- A part of a dispatch has no more uncounted steps than the dispatch's bound by the list of these.
use Rattle.std.proofs.Common.{◌≡◌, inl, inr, refl, ap, ℕ, zero, suc, ◌+◌, ◌-◌, ◌*◌, ◌≤◌, ◌⊎◌, List, [], ◌∷◌, Some, arith}
use Rattle.ui_machine.specs.Seq.{total}
use Rattle.ui_machine.specs.Definition.{Definition}
use Rattle.ui_machine.specs.Runs.{Steps}
use Rattle.law_typing.specs.Graph.Tables.{Tables}
use Rattle.ui_machine.specs.State.Config.{Config}
use Rattle.ui_machine.specs.State.Peers.{Reply}
use Rattle.law_steps.specs.Served.Sessions.{beginning_of}
use Rattle.law_prices.specs.Deeds.{Deed, PriceList}
use Rattle.law_prices.specs.Deeds as deeds
use Rattle.law_prices.specs.Dispatches.{steps_price}
use Rattle.law_prices.specs.Lists.{counted, steps}
use Rattle.law_prices.specs.Prices.{prices}
use Rattle.law_prices.specs.Steps.{step_deeds, step_price}
use Rattle.law_prices.proofs.BoundProofs.{prices_are_found, within}
use Rattle.law_prices.proofs.CountProofs.{all_count}
use Rattle.law_prices.proofs.SolvedProofs.{prices_are_solved}
use Rattle.law_prices.proofs.DispatchPays.{begins_at, comes}
use Rattle.law_slices.specs.Lists.{CountedCost, uncounted, without_counted}
use Rattle.law_slices.specs.Parts.{PartsAreWithin, PartsCost, QuietPartsAreWithin}
use Rattle.law_slices.proofs.StepCounts.{counts_so}

-- more of something costs more
times_more : (p q k : ℕ) → q ≤ k → p * q ≤ k * p
times_more p q k low =
    let all : k ≡ q + (k - q) = omega (arith, low) in
    let product : k * p ≡ (q + (k - q)) * p = ap (λ n. n * p) all in
    omega (arith, product)

module _ (P : PriceList) (p : ℕ) (cheap : CountedCost P p) where
  -- what is done has its price without the counted steps, and p where it is counted
  one_deed : (x : Deed) → P x ≤ without_counted P x + p * counted x
  one_deed (deeds.instruction program block at) = let low = cheap (deeds.instruction program block at) (omega arith) in omega (arith, low)
  one_deed (deeds.set place slot) = omega arith
  one_deed (deeds.notify place slot) = let low = cheap (deeds.notify place slot) (omega arith) in omega (arith, low)
  one_deed (deeds.emit place signal) = let low = cheap (deeds.emit place signal) (omega arith) in omega (arith, low)
  one_deed (deeds.turn place signal) = omega arith
  one_deed (deeds.end place signal) = omega arith
  one_deed (deeds.tell place signal) = omega arith
  one_deed (deeds.run program) = omega arith
  one_deed (deeds.transfer binding) = let low = cheap (deeds.transfer binding) (omega arith) in omega (arith, low)
  one_deed (deeds.free binding) = omega arith
  one_deed (deeds.name place slot) = omega arith
  one_deed deeds.thawed = omega arith
  one_deed (deeds.answer shape method) = omega arith
  one_deed (deeds.make place) = omega arith
  one_deed (deeds.construct place) = omega arith
  one_deed (deeds.item i) = omega arith
  one_deed deeds.built = omega arith
  one_deed (deeds.begin asked) = omega arith
  one_deed (deeds.dispose place) = omega arith
  one_deed (deeds.final place) = let low = cheap (deeds.final place) (omega arith) in omega (arith, low)
  one_deed (deeds.settle place) = omega arith
  one_deed deeds.finish = omega arith

  some_deeds : (xs : List Deed) → total P xs ≤ total (without_counted P) xs + p * total counted xs
  some_deeds [] = omega arith
  some_deeds (x ∷ xs) = let one = one_deed x in let rest = some_deeds xs in omega (arith, one, rest)

  some_steps : (d : Definition) (n : ℕ) (replies : List Reply) (c e : Config) (s : Steps d n replies c e) →
      steps_price d P n replies c e s ≤ steps_price d (without_counted P) n replies c e s + p * steps_price d counted n replies c e s
  some_steps d zero replies c e s = omega arith
  some_steps d (suc n) replies c e s = let one = some_deeds (step_deeds d c) in let rest = some_steps d n s.later s.mid e s.follows in omega (arith, one, rest)

  -- the end is not counted
  same_end : without_counted P deeds.finish ≡ P deeds.finish
  same_end = refl

module _ (d : Definition) where
  -- what some steps count is their price by the list of counted ones, or more
  counts_all : (n : ℕ) (replies : List Reply) (c e : Config) (s : Steps d n replies c e) → c.counted + steps_price d counted n replies c e s ≤ e.counted
  counts_all zero replies c e s = let same = ap (λ (c : Config). c.counted) s.1 in omega (arith, same)
  counts_all (suc n) replies c e s =
      let rest = counts_all n s.later s.mid e s.follows in
      let one = first in
      omega (arith, one, rest)
    where
      first : c.counted + step_price d counted c ≤ s.mid.counted
      first = by (counts_so d s.reply s.mid c s.step.leads)
        where
          by : ((s.mid.counted ≡ c.counted) × (step_price d counted c ≤ 0)) ⊎ ((s.mid.counted ≡ suc c.counted) × (step_price d counted c ≤ 1)) → c.counted + step_price d counted c ≤ s.mid.counted
          by (inl same) = let e = same.0 in let low = same.1 in omega (arith, e, low)
          by (inr more) = let e = more.0 in let low = more.1 in omega (arith, e, low)

pub parts_cost : PartsCost
parts_cost d well a peers ready events read x early fits m c before n replies fit at s P p cheap k few =
    within d a (without_counted P) _ _ (λ t solves.
    let b = begins_at d well a (without_counted P) t solves peers ready events read x in
    let first = comes d well a (without_counted P) t solves b.most b.few m early fits (beginning_of x) c b.good b.paid before in
    let part = comes d well a (without_counted P) t solves b.most b.few n replies fit c at first.good first.paid s in
    let both = some_steps P p cheap d n replies c at s in
    let those = counts_all d n replies c at s in
    let times = times_more p (steps_price d counted n replies c at s) k (omega (arith, those, few)) in
    let start = b.within in
    let f1 = first.falls in
    let f2 = part.falls in
    let end = same_end P p cheap in
    omega (arith, both, times, start, f1, f2, end))

-- by the list of all steps a counted one costs 1
one_each : CountedCost steps 1
one_each (deeds.tell place signal) low = omega arith
one_each (deeds.run program) low = omega arith
one_each (deeds.make place) low = omega arith
one_each (deeds.dispose place) low = omega arith
one_each x low = omega arith

pub parts_are_within : PartsAreWithin
parts_are_within d well a peers ready events read x early fits m c before n replies fit at s none k few =
    let w = parts_cost d well a peers ready events read x early fits m c before n replies fit at s steps 1 one_each k few in
    let low = w.within in
    record { most = w.most; is = w.is; within = omega (arith, low, count) }
  where
    count : n ≤ steps_price d steps n replies c at s
    count = within_none (prices_are_found d a uncounted)
      where
        within_none : (t : Tables) × (prices d uncounted ≡ Some t) → n ≤ steps_price d steps n replies c at s
        within_none found =
            let solves = prices_are_solved d uncounted found.0 found.1 in
            let b = begins_at d well a uncounted found.0 solves peers ready events read x in
            let first = comes d well a uncounted found.0 solves b.most b.few m early fits (beginning_of x) c b.good b.paid before in
            all_count d a b.most well b.few found.0 n replies fit c at first.good s none

pub quiet_parts_are_within : QuietPartsAreWithin
quiet_parts_are_within d well a peers ready events read x early fits m c before n replies fit at s none same =
    let w = parts_are_within d well a peers ready events read x early fits m c before n replies fit at s none 0 (omega (arith, same)) in
    let low = w.within in
    record { most = w.most; is = w.is; within = omega (arith, low) }
