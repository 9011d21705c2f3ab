-- Where nothing is left to do, the lowest object that floats is let go.
use Rattle.std.proofs.Common.{refl, sym, subst, ℕ, Bool, true, false, cond, List, [], ◌∷◌, arith}
use Rattle.std.specs.Prelude.{nat_eq}
use Rattle.ui_machine.specs.Definition.{Definition}
use Rattle.ui_machine.specs.State.Config.{World, without}
use Rattle.ui_machine.specs.Steps.{first_of, sink_first_floating}
use Rattle.law_typing.specs.Graph.Tables.{Tables}
use Rattle.law_typing.specs.Verdict.Accepted.{Each}
use Rattle.law_typing.specs.Laws.StepsKeepGood.{Fine}
use Rattle.law_typing.specs.Good.{Good}
use Rattle.law_typing.specs.Good.Standing.{standing, Lives}
use Rattle.law_steps.proofs.Kept.Lists.{objects_stay}
use Rattle.law_steps.specs.Tasked.Settling.{at_end, SettlingIsFine}

pub each_without : (P : ℕ → Type 0) (id : ℕ) (ids : List ℕ) → Each P ids → Each P (without id ids)
each_without P id [] all = tt
each_without P id (i ∷ ids) all = go (nat_eq i id) (each_without P id ids all.1)
  where
    go : (b : Bool) → Each P (without id ids) → Each P (cond b (without id ids) (i ∷ without id ids))
    go true later = later
    go false later = (all.0, later)

-- fewer float
sunk_good : (d : Definition) (costs depths : Tables) (most_counted most : ℕ) (w : World) (n : ℕ) (floating : List ℕ) → Good d costs depths most_counted most (at_end w n) →
    Each (Lives (standing w.objects)) floating → Good d costs depths most_counted most (at_end (record w { floating = floating }) n)
sunk_good d costs depths most_counted most w n floating g lives = record {
  objects = objects_stay d w (record w { floating = floating }) g.objects;
  handlers = g.handlers;
  bindings = g.bindings;
  sources = g.sources;
  peers = g.peers;
  build = g.build;
  held = g.held;
  floating = lives;
  sets = record { alone = refl; first = refl; held = λ some. absurd (omega (arith, some)) };
  objects_first = g.objects_first;
  budget = g.budget;
  agenda = g.agenda;
  queues = g.queues;
  few = g.few;
  spent = g.spent;
}

settled_good : (d : Definition) (costs depths : Tables) (most_counted most : ℕ) (w : World) (n : ℕ) (ids : List ℕ) → Good d costs depths most_counted most (at_end w n) →
    Good d costs depths most_counted most (at_end (sink_first_floating w ids) n)
settled_good d costs depths most_counted most w n [] g = g
settled_good d costs depths most_counted most w n (id ∷ ids) g =
    sunk_good d costs depths most_counted most w n (without id w.floating) g (each_without (Lives (standing w.objects)) id w.floating g.floating)

pub settling_is_fine : SettlingIsFine
settling_is_fine d costs depths most_counted most within w n g settled reply =
    subst (λ o. Fine d costs depths most_counted most (first_of d reply (at_end w n) o)) (sym settled) (settled_good d costs depths most_counted most w n w.floating g)
