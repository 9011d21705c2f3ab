-- A dispatch that begins well, within the bound of its entry, keeps what is promised.
use Rattle.std.proofs.Common.{◌≡◌, ◌⊎◌, refl, ℕ, ◌≤◌, List}
use Rattle.ui_machine.specs.declared.arm.Halt.{Halt}
use Rattle.ui_machine.specs.declared.arm.Halt.TheVariants as halts
use Rattle.ui_machine.specs.Definition.{Definition}
use Rattle.ui_machine.specs.State.Peers.{Reply}
use Rattle.ui_machine.specs.State.Config.{Config}
use Rattle.ui_machine.specs.Steps.{most_steps}
use Rattle.ui_machine.specs.Runs.{Fits, Reaches, HaltsAt}
use Rattle.law_typing.specs.Graph.Channels.{Entry}
use Rattle.law_typing.specs.Graph.{graph}
use Rattle.law_typing.specs.Graph.Depths.{depth}
use Rattle.law_typing.specs.Verdict.{told}
use Rattle.law_typing.specs.Verdict.Accepted.{Each, Accepted}
use Rattle.law_typing.specs.Laws.{IsIn}
use Rattle.law_typing.specs.Laws.WellRead.{WellRead}
use Rattle.law_typing.specs.Good.Agenda.{frames}
use Rattle.law_typing.specs.Laws.StepsKeepGood.{IsGood, bound_of, StepsKeepGood}
use Rattle.law_typing.proofs.RestProofs.{good_is_within}
use Rattle.law_steps.specs.Served.Dispatches.{Keeps, IsUnstuck, LastFits}
use Rattle.law_steps.proofs.Served.ReplyProofs.{unstuck_goes_on}
use Rattle.law_steps.proofs.Served.DispatchProofs.{stays, unstuck, ends}
use Rattle.law_steps.proofs.Served.EndProofs.{comes_to_end}

pub keeps : StepsKeepGood → (d : Definition) → WellRead d → (a : Accepted d) → (e : Entry) (c : Config) → bound_of d a e ≤ most_steps →
    IsIn e (told (graph d)) ⊎ (bound_of d a e ≡ d.most_objects) → IsGood d a (bound_of d a e) c → Keeps d a e c
keeps keep d well a e c few printed good = record {
  never_stuck = λ replies fit at r. free at (stay replies fit at r);
  goes_on = λ replies fit at r. unstuck_goes_on d at (free at (stay replies fit at r));
  halts = λ replies fit halt shown h last.
      for_memory h.at (free h.at (stay replies fit h.at h.reached)) halt h.stops last;
  counted = λ replies fit at r. (within at (stay replies fit at r)).0;
  shallow = λ replies fit at r. (within at (stay replies fit at r)).1;
  comes_to_end = comes_to_end keep d well a most few c good;
  ends = λ replies fit count new r. ends keep d well a most few replies fit c good count new r;
  printed = printed;
}
  where
    most : ℕ
    most = bound_of d a e

    stay : (replies : List Reply) → Each (Fits d) replies → (at : Config) → Reaches d replies c at → IsGood d a most at
    stay replies fit at r = stays keep d well a most few replies fit c at good r

    for_memory : (at : Config) → IsUnstuck d at → (halt : Halt) (stops : HaltsAt d at halt) → LastFits d at halt stops →
        halt ≡ halts.OutOfMemory
    for_memory at unstuck halts.OutOfMemory stops last = refl
    for_memory at unstuck (halts.Stuck arm) stops last = absurd (unstuck arm stops last)

    free : (at : Config) → IsGood d a most at → IsUnstuck d at
    free at good = unstuck keep d well a most few at good

    within : (at : Config) → IsGood d a most at → (at.counted ≤ most) × (frames at.agenda ≤ depth (graph d) a.weighed.depths)
    within at good = good_is_within d a.weighed.costs a.weighed.depths most (depth (graph d) a.weighed.depths) at good
