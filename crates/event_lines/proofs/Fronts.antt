-- An event for which no memory is found halts in the same way behind lines that were said before, and leaves the same peers.
use Rattle.std.proofs.Common.{◌≡◌, ℕ, List, [], ◌∷◌, ◌++◌, Option, None, Some, ap, subst, sym, ◌∙◌, append_assoc}
use Rattle.ui_machine.specs.Definition.{Definition}
use Rattle.ui_machine.specs.declared.arm.Halt.TheVariants as halts
use Rattle.ui_machine.specs.Output.Lines as lines
use Rattle.ui_machine.specs.Output.Text.{text_of_line}
use Rattle.ui_machine.specs.Rules.MainLoop.{turned}
use Rattle.ui_machine.specs.Runs.{HaltsIn, Rests, RunsSource, RunsSources, Tally, at_a_source, at_its_beginning, beginning}
use Rattle.ui_machine.specs.State.Config.{Config, World, untold}
use Rattle.ui_machine.specs.State.Peers.{Peer, Reply}
use Rattle.ui_machine.specs.State.Sources.{Source, source_of}
use Rattle.ui_machine.specs.State.Tasks.{Due, Event}
use Rattle.ui_machine.specs.State.Tasks as config
use Rattle.machine_laws.specs.FrontLaws.{fronted, fronted_at}
use Rattle.machine_laws.proofs.FrontProofs.{question_stays}
use Rattle.machine_laws.proofs.FrontRuns.{dispatch_appends, steps_append}
use Rattle.native_peers.specs.Seen.{Relations}
use Rattle.engine_dispatches.specs.PoolView.{IsLeft, as_shown, one_more}
use Rattle.engine_dispatches.specs.Ways.{CutOff, EventLeaves}

module _ (front : List (List ℕ)) (d : Definition) where
  -- ** what runs

  abbrev Behind : (List Reply → World → Tally → World → Type 0) → Type 0
  Behind Leads = (replies : List Reply) (w : World) (tally : Tally) (new : World) → Leads replies w tally new → Leads replies (fronted front w) tally (fronted front new)

  rests : Behind Rests
  rests replies w tally new r = record { replied = r.replied; counts = r.counts; same = ap (fronted front) r.same }

  runs_source : (number : ℕ) (s : Option Source) → Behind (RunsSource d number s)
  runs_source number None replies w tally new r = rests replies w tally new r
  runs_source number (Some s) replies w tally new r = record {
    steps = r.steps;
    counts = r.counts;
    dispatches = dispatch_appends front d replies (beginning w (Due number)) r.steps new r.dispatches;
  }

  runs_sources : (sources : List ℕ) → Behind (RunsSources d sources)
  runs_sources [] replies w tally new r = rests replies w tally new r
  runs_sources (number ∷ more) replies w tally new t = record {
    first = t.first;
    later = t.later;
    mid = fronted front t.mid;
    first_tally = t.first_tally;
    later_tally = t.later_tally;
    replied = t.replied;
    counts = t.counts;
    begins = runs_source number (source_of number w.sources) t.first w t.first_tally t.mid t.begins;
    goes_on = runs_sources more t.later t.mid t.later_tally new t.goes_on;
  }

  turns : (w : World) (moment : ℕ) → turned d (fronted front w) moment ≡ fronted front (turned d w moment)
  turns w moment =
      ap (λ (ls : List (List ℕ)). record (untold w) { moment = moment; transcript = ls }) (append_assoc front w.transcript (text_of_line d.types (lines.turn moment) ∷ []))

  -- ** what halts

  module _ (may : Relations) where
    left_behind : {at : Config} {left : List Peer} → IsLeft d may at left → IsLeft d may (fronted_at front at) left
    left_behind (as_shown seen) = as_shown seen
    left_behind {at} (one_more o) = one_more (record { reply = o.reply; given = o.given; asks = question_stays front d at ∙ o.asks; peers = o.peers })

    cut_behind : (event : Event) (replies : List Reply) (w : World) (left : List Peer) (shown : List (List ℕ)) (h : HaltsIn d event replies w halts.OutOfMemory shown)
        → EventLeaves d may event replies w shown h left → CutOff d may event replies (fronted front w) left (front ++ shown)
    cut_behind (config.request r) replies w peers shown h leaves = record {
      halts = record {
        at = fronted_at front h.at;
        reached = (steps_append d 0 replies).1 front _ h.at h.reached;
        stops = tt;
        lines = ap (λ ls. front ++ ls) h.lines;
      };
      leaves = left_behind leaves;
    }
    cut_behind (config.turn moment) replies w peers shown (at_its_beginning stops) leaves = record {
      halts = at_its_beginning (record { memory = stops.memory; asked = stops.asked; lines = ap (λ ls. front ++ ls) stops.lines });
      leaves = leaves;
    }
    cut_behind (config.turn moment) replies w peers shown (at_a_source h) leaves = record {
      halts = at_a_source (record {
        done = h.done;
        number = h.number;
        more = h.more;
        sources = h.sources;
        first = h.first;
        later = h.later;
        replied = h.replied;
        mid = fronted front h.mid;
        tally = h.tally;
        runs = subst (λ (v : World). RunsSources d h.done h.first v h.tally (fronted front h.mid)) (sym (turns w moment)) (runs_sources h.done h.first (turned d w moment) h.tally h.mid h.runs);
        stands = h.stands;
        halts = record {
          at = fronted_at front h.halts.at;
          reached = (steps_append d 0 h.later).1 front _ h.halts.at h.halts.reached;
          stops = tt;
          lines = ap (λ ls. front ++ ls) h.halts.lines;
        };
      });
      leaves = left_behind leaves;
    }

    pub cut_appends : {event : Event} {replies : List Reply} {w : World} {left : List Peer} {shown : List (List ℕ)} → CutOff d may event replies w left shown → CutOff d may event replies (fronted front w) left (front ++ shown)
    cut_appends {event} {replies} {w} {left} {shown} cut = cut_behind event replies w left shown cut.halts cut.leaves
