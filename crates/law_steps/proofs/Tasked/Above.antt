-- A task leads to a program, which begins above what takes its result.
use Rattle.std.proofs.Common.{◌≡◌, refl, sym, ap, subst, ℕ, ◌+◌, ◌≤◌, List, [], ◌∷◌, ◌++◌, Option, arith}
use Rattle.ui_machine.specs.Definition.{Definition}
use Rattle.ui_machine.specs.Definition.Kinds.{Kind}
use Rattle.ui_machine.specs.Definition.Values.{Value}
use Rattle.ui_machine.specs.Output.Lines as lines
use Rattle.ui_machine.specs.Output.Text.{text_of_line}
use Rattle.ui_machine.specs.Rules.Build.{is_making}
use Rattle.ui_machine.specs.Rules.Programs.{first_frame}
use Rattle.ui_machine.specs.State.Config.{said}
use Rattle.ui_machine.specs.State.Tasks.{Task, Running}
use Rattle.law_typing.specs.Graph.Tables.{of_program}
use Rattle.law_typing.specs.Laws.StepsKeepGood.{IsGood}
use Rattle.law_typing.specs.Good.Standing.{view}
use Rattle.law_typing.specs.Good.ComingDown.{given, result_of_program}
use Rattle.law_typing.specs.Good.Agenda.{AgendaGood, frames}
use Rattle.law_typing.specs.Good.Builds.{BuildGood}
use Rattle.law_typing.specs.Good.Freezes.{frozen_by, is_due_set, is_due_source}
use Rattle.law_steps.specs.Kept.Alike.{Alike}
use Rattle.law_steps.proofs.Tasked.First.{First, good_of, whole_told, pool_alike, build_alike, costs, depths, most}
use Rattle.law_steps.proofs.Tasked.Begun.{Begun}
use Rattle.law_steps.proofs.Tasked.Lowest.{lowest_above}

module _ {d : Definition} {task : Task} (t : First d task) (program : ℕ) (args : List Value) (wanted : Option Kind) where
  open t use {well, a, w, rest, n, g}

  module _ (b : Begun d well a w g.objects program args wanted) (next : Task) where
    -- the program above the task that takes its result
    abbrev pub later : List Task
    later = Running (first_frame program b.p args) ∷ next ∷ rest

    -- what is to be shown of that task
    pub record Takes : Type 0 where
      pub alike : Alike (task ∷ rest) (next ∷ rest)
      pub frozen : (id : ℕ) → frozen_by d id next ≡ frozen_by d id task
      pub no_set : is_due_set next ≡ 0
      pub no_source : is_due_source next ≡ 0
      pub build : BuildGood d w.builder later (task ∷ rest) → BuildGood d w.builder later later
      pub left : ℕ
      pub cheap : of_program (costs t) program + left ≤ g.agenda.0 + g.agenda.2
      pub shallow : frames (next ∷ rest) + of_program (depths t) program ≤ most t
      pub good : AgendaGood d (costs t) (depths t) (view w) (most t) (given b.p.result) (next ∷ rest) left

    run_alike : Alike (task ∷ rest) (next ∷ rest) → Alike (task ∷ rest) later
    run_alike alike = record {
      items = λ f. (let same = alike.items f in omega (arith, same));
      unset = λ number. (let same = alike.unset number in omega (arith, same));
      request_step = (let same = alike.request_step in omega (arith, same));
      makes = (let same = alike.makes in omega (arith, same));
    }

    pub begins_above : Takes → IsGood d a t.most_counted (record { world = said d w (lines.run b.p.name); agenda = later; counted = n })
    begins_above e =
        let alike = run_alike e.alike in
        good_of t (said d w (lines.run b.p.name)) later
        (record {
          objects = refl;
          whole = whole_told t later (w.transcript ++ text_of_line d.types (lines.run b.p.name) ∷ []) w.result alike;
          pool = pool_alike t later alike;
          to_make = alike.items is_making;
          makes = (let same = alike.makes in omega (arith, same));
          build = e.build (build_alike t later alike);
          frozen = λ id. (let free = b.free id in let same = e.frozen id in omega (arith, free, same));
          lowest = λ id some. (
              let free = b.free id in
              let above = lowest_above d id (Running (first_frame program b.p args)) (next ∷ rest) (omega (arith, free, some)) in
              omega (arith, above));
          no_set = (let none = g.sets.first in let not = e.no_set in omega (arith, none, not));
          no_source = (let none = g.sets.alone in let not = e.no_source in omega (arith, none, not));
          budget = of_program (costs t) program + e.left;
          less = e.cheap;
          good = (
            of_program (costs t) program,
            of_program (depths t) program,
            e.left,
            (tt, b.good),
            e.shallow,
            omega arith,
            subst (λ k. AgendaGood d (costs t) (depths t) (view w) (most t) (given k) (next ∷ rest) e.left) (sym (ap result_of_program b.is)) e.good,
          );
        })
