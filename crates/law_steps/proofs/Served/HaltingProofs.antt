-- An event of a run halts nowhere but where no memory is found, since each of its dispatches does.
use Rattle.std.proofs.Common.{◌≡◌, refl, subst, Option, None, Some}
use Rattle.std.specs.Prelude.{IsSome}
use Rattle.ui_machine.specs.declared.arm.Halt.TheVariants as halts
use Rattle.ui_machine.specs.State.Sources.{Source, source_of}
use Rattle.ui_machine.specs.State.Tasks as config
use Rattle.ui_machine.specs.Runs.{Fits, at_a_source, at_its_beginning}
use Rattle.law_typing.specs.Verdict.Accepted.{Each}
use Rattle.law_steps.specs.Served.Sessions.{Runs, serving, turning}
use Rattle.law_steps.specs.Served.Halting.{EventsHaltForMemory}
use Rattle.law_steps.proofs.Served.DispatchProofs.{both_fit}
use Rattle.law_steps.proofs.Served.SessionProofs.{never_stuck}

pub events_halt_for_memory : EventsHaltForMemory
events_halt_for_memory d well a peers ready events read (config.request r) w serves replies fit halt shown h last =
    (never_stuck d well a peers ready events read (serving r w serves)).halts replies fit halt shown h last
events_halt_for_memory d well a peers ready events read (config.turn moment) w serves replies fit halt shown (at_its_beginning stops) last = stops.memory
events_halt_for_memory d well a peers ready events read (config.turn moment) w serves replies fit halt shown (at_a_source h) last =
    go (source_of h.number h.mid.sources) refl h.stands
  where
    fits : Each (Fits d) h.first × Each (Fits d) h.later
    fits = both_fit d h.first h.later (subst (Each (Fits d)) h.replied fit)

    runs : (s : Source) → source_of h.number h.mid.sources ≡ Some s → Runs d w moment h.number h.mid s
    runs s is = record {
      before = h.done;
      later = h.more;
      is = h.sources;
      replies = h.first;
      fit = fits.0;
      tally = h.tally;
      run = h.runs;
      stands = is;
    }

    go : (o : Option Source) → source_of h.number h.mid.sources ≡ o → IsSome o → halt ≡ halts.OutOfMemory
    go None is stands = absurd (cc)
    go (Some s) is stands =
        (never_stuck d well a peers ready events read (turning moment w serves h.number h.mid s (runs s is))).halts h.later fits.1
        halt shown h.halts last
