-- A task is done, and nothing takes its place.
use Rattle.std.proofs.Common.{◌≡◌, refl, ℕ, List, ◌∷◌, Option, arith}
use Rattle.ui_machine.specs.Definition.{Definition}
use Rattle.ui_machine.specs.Definition.Values.{Value}
use Rattle.ui_machine.specs.Rules.Build.{is_making}
use Rattle.ui_machine.specs.State.Tasks.{Task}
use Rattle.law_typing.specs.Laws.StepsKeepGood.{IsGood}
use Rattle.law_typing.specs.Good.Standing.{view}
use Rattle.law_typing.specs.Good.ComingDown.{none}
use Rattle.law_typing.specs.Good.Agenda.{AgendaGood}
use Rattle.law_typing.specs.Good.Builds.{BuildGood}
use Rattle.law_typing.specs.Good.Freezes.{frozen_by, is_due_source}
use Rattle.law_steps.specs.Kept.Alike.{Alike}
use Rattle.law_steps.proofs.Instructed.Ended.{lowest_falls}
use Rattle.law_steps.proofs.Tasked.First.{First, none_later, good_of, whole_told, pool_alike, build_alike, costs, depths, most}

module _ {d : Definition} {task : Task} (t : First d task) where
  open t use {a, w, rest, n, g}

  -- what is to be shown of it and of the tasks below
  pub record Ends : Type 0 where
    pub alike : Alike (task ∷ rest) rest
    pub frozen : (id : ℕ) → frozen_by d id task ≡ 0
    pub build : BuildGood d w.builder rest (task ∷ rest) → BuildGood d w.builder rest rest
    pub good : AgendaGood d (costs t) (depths t) (view w) (most t) none rest g.agenda.2

  -- a line is perhaps said, and a value reported
  pub done : (lines : List (List ℕ)) (v : Option Value) → Ends → IsGood d a t.most_counted (record { world = record w { transcript = lines; result = v }; agenda = rest; counted = n })
  done lines v e =
      good_of t (record w { transcript = lines; result = v }) rest
      (record {
        objects = refl;
        whole = whole_told t rest lines v e.alike;
        pool = pool_alike t rest e.alike;
        to_make = e.alike.items is_making;
        makes = (let same = e.alike.makes in omega (arith, same));
        build = e.build (build_alike t rest e.alike);
        frozen = λ id. (let free = e.frozen id in omega (arith, free));
        lowest = λ id some. lowest_falls d id task rest;
        no_set = g.sets.first;
        no_source = none_later is_due_source rest g.sets.alone;
        budget = g.agenda.2;
        less = omega arith;
        good = e.good;
      })
