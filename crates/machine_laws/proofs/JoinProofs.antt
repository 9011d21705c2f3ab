-- The parts of a run, joined.
use Rattle.std.proofs.Common.{◌≡◌, ℕ, ◌+◌, List, [], ◌∷◌, ◌++◌, refl, sym, ap, subst, ◌∙◌, append_assoc, add_assoc, add-zero, zero-add}
use Rattle.std.proofs.lemmas.List.{append-nil}
use Rattle.ui_machine.specs.Definition.{Definition}
use Rattle.ui_machine.specs.State.Peers.{Reply}
use Rattle.ui_machine.specs.State.Tasks.{Event}
use Rattle.ui_machine.specs.State.Config.{World}
use Rattle.ui_machine.specs.Runs.{Tally, no_dispatch, tallied, Serves, ServesAll}
use Rattle.machine_laws.specs.JoinLaws.{BuildIsRun, RunsGoOn}

none_more : (t : Tally) → tallied t no_dispatch ≡ t
none_more t =
    ap (λ (n : ℕ). let x : Tally = record { dispatches = n; steps = t.steps + 0 } in x) (add-zero t.dispatches)
    ∙ ap (λ (n : ℕ). let x : Tally = record { dispatches = t.dispatches; steps = n } in x) (add-zero t.steps)

more_none : (t : Tally) → tallied no_dispatch t ≡ t
more_none t =
    ap (λ (n : ℕ). let x : Tally = record { dispatches = n; steps = 0 + t.steps } in x) (zero-add t.dispatches)
    ∙ ap (λ (n : ℕ). let x : Tally = record { dispatches = t.dispatches; steps = n } in x) (zero-add t.steps)

in_threes : (s t u : Tally) → tallied (tallied s t) u ≡ tallied s (tallied t u)
in_threes s t u =
    ap (λ (n : ℕ). let x : Tally = record { dispatches = n; steps = (s.steps + t.steps) + u.steps } in x) (add_assoc s.dispatches t.dispatches u.dispatches)
    ∙ ap (λ (n : ℕ). let x : Tally = record { dispatches = s.dispatches + (t.dispatches + u.dispatches); steps = n } in x) (add_assoc s.steps t.steps u.steps)

pub build_is_run : BuildIsRun
build_is_run d peers replies tally w build = record {
  first = replies;
  later = [];
  mid = w;
  first_tally = tally;
  later_tally = no_dispatch;
  replied = sym (append-nil replies);
  counts = sym (none_more tally);
  begins = build;
  goes_on = record { replied = refl; counts = refl; same = refl };
}

module _ (d : Definition) (event : Event) where
  -- one event alone
  served_alone : (later : List Reply) (w : World) (more : Tally) (new : World) → Serves d event later w more new → ServesAll d (event ∷ []) later w more new
  served_alone later w more new s = record {
    first = later;
    later = [];
    mid = new;
    first_tally = more;
    later_tally = no_dispatch;
    replied = sym (append-nil later);
    counts = sym (none_more more);
    begins = s;
    goes_on = record { replied = refl; counts = refl; same = refl };
  }

  served_on : (events : List Event) (replies : List Reply) (v : World) (tally : Tally) (w : World) → ServesAll d events replies v tally w →
      (later : List Reply) (more : Tally) (new : World) → Serves d event later w more new → ServesAll d (events ++ event ∷ []) (replies ++ later) v (tallied tally more) new
  served_on [] replies v tally w rests later more new s =
      subst (λ (rs : List Reply). ServesAll d (event ∷ []) (rs ++ later) v (tallied tally more) new) (sym rests.replied)
      (subst (λ (t : Tally). ServesAll d (event ∷ []) later v (tallied t more) new) (sym rests.counts)
      (subst (λ (t : Tally). ServesAll d (event ∷ []) later v t new) (sym (more_none more))
      (served_alone later v more new (subst (λ (from : World). Serves d event later from more new) (sym rests.same) s))))
  served_on (e ∷ events) replies v tally w part later more new s = record {
    first = part.first;
    later = part.later ++ later;
    mid = part.mid;
    first_tally = part.first_tally;
    later_tally = tallied part.later_tally more;
    replied = ap (λ (rs : List Reply). rs ++ later) part.replied ∙ append_assoc part.first part.later later;
    counts = ap (λ (t : Tally). tallied t more) part.counts ∙ in_threes part.first_tally part.later_tally more;
    begins = part.begins;
    goes_on = served_on events part.later part.mid part.later_tally w part.goes_on later more new s;
  }

pub runs_go_on : RunsGoOn
runs_go_on d peers events replies tally w run event later more new s = record {
  first = run.first;
  later = run.later ++ later;
  mid = run.mid;
  first_tally = run.first_tally;
  later_tally = tallied run.later_tally more;
  replied = ap (λ (rs : List Reply). rs ++ later) run.replied ∙ append_assoc run.first run.later later;
  counts = ap (λ (t : Tally). tallied t more) run.counts ∙ in_threes run.first_tally run.later_tally more;
  begins = run.begins;
  goes_on = served_on d event events run.later run.mid run.later_tally w run.goes_on later more new s;
}
