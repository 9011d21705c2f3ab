use Rattle.std.proofs.Common.{◌≡◌, List, length, sym, ap, ◌∙◌, arith}
use Rattle.std.specs.List.{find}
use Rattle.ui_machine.specs.Seq.{total}
use Rattle.ui_machine.specs.State.References.{in_source}
use Rattle.ui_machine.specs.State.Sources.{Source, runs_program, without_first, without_program}
use Rattle.main_context.specs.Attached.{Attached}
use Rattle.main_context.proofs.First.{total_without_first, without_none}
use Rattle.engine_world.proofs.Counts.{both_only}
use Rattle.engine_world.proofs.SourceCounts.{fewer_left, first_left, found_none, found_source, none_left}
use Rattle.engine_world.proofs.sources.remove_each.Goals as goal

pub let_go_any-requires : goal.let_go_any-requires
let_go_any-requires c = record {
  held = λ o.
      let xs = c.loop-due.context.sources in
      let f = found_source (find (runs_program c.args.program) xs) c.in-Some.due c.in-Some.ensures.given in
      omega (arith, f.holds o, total_without_first (in_source o) (runs_program c.args.program) xs f.source f.found, c.loop-due.invariant.held o);
}

pub loop-due-smaller : goal.loop-due-smaller
loop-due-smaller c =
    let xs = c.loop-due.context.sources in
    let f = found_source (find (runs_program c.args.program) xs) c.in-Some.due c.in-Some.ensures.given in
    let left : length c.remove.new.self.sources ≡ length (without_first (runs_program c.args.program) xs) = ap (λ (a : Attached). length a.sources) c.in-Some.ensures.left in
    omega (arith, left, fewer_left c.args.program xs f.source f.found)

pub loop-due-preserved : goal.loop-due-preserved
loop-due-preserved c =
    let p = c.args.program in
    let old = c.loop-due.context in
    let new = c.remove.new.self in
    let left = c.in-Some.ensures.left in
    let f = found_source (find (runs_program p) old.sources) c.in-Some.due c.in-Some.ensures.given in
    record {
      left = ap (λ (a : Attached). without_program p a.sources) left ∙ first_left p old.sources ∙ c.loop-due.invariant.left;
      beside =
          left ∙ ap (λ (ss : List Source). record old { sources = ss }) (sym (ap (λ (a : Attached). a.sources) left))
          ∙ ap (λ (a : Attached). record a { sources = new.sources }) c.loop-due.invariant.beside;
      only = both_only c.args.table.now c.loop-due.table c.let_go_any.new.table c.loop-due.invariant.only c.let_go_any.ensures.only;
      counts = λ o.
          let less = ap (λ (a : Attached). total (in_source o) a.sources) left in
          omega (arith, less, f.holds o, total_without_first (in_source o) (runs_program p) old.sources f.source f.found, c.loop-due.invariant.counts o, c.let_go_any.ensures.counts o);
      held = λ o.
          let less = ap (λ (a : Attached). total (in_source o) a.sources) left in
          omega (arith, less, f.holds o, total_without_first (in_source o) (runs_program p) old.sources f.source f.found, c.loop-due.invariant.held o, c.let_go_any.ensures.counts o);
    }

pub returns-clause-context : goal.returns-clause-context
returns-clause-context c =
    let p = c.args.program in
    let old = c.loop-due.context in
    let none = found_none (find (runs_program p) old.sources) c.remove.result c.remove.ensures.given c.in_default.not-Some in
    let sources = without_none (runs_program p) old.sources none ∙ sym (none_left p old.sources none) ∙ c.loop-due.invariant.left in
    c.remove.ensures.left ∙ ap (λ (ss : List Source). record old { sources = ss }) sources
    ∙ ap (λ (a : Attached). record a { sources = without_program p c.args.context.now.sources }) c.loop-due.invariant.beside

pub returns-clause-counts : goal.returns-clause-counts
returns-clause-counts c o =
    let p = c.args.program in
    let old = c.loop-due.context in
    let none = found_none (find (runs_program p) old.sources) c.remove.result c.remove.ensures.given c.in_default.not-Some in
    let left = ap (λ (a : Attached). total (in_source o) a.sources) c.remove.ensures.left ∙ ap (total (in_source o)) (without_none (runs_program p) old.sources none) in
    omega (arith, c.loop-due.invariant.counts o, left)
