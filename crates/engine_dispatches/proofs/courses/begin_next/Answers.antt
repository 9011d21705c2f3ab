use Rattle.std.proofs.Common.{refl, sym, ap, ◌∙◌}
use Rattle.ui_machine.specs.Runs.{beginning}
use Rattle.ui_machine.specs.State.Tasks.{Due}
use Rattle.engine_world.specs.Counting.{nothing}
use Rattle.engine_world.specs.View.{world_of}
use Rattle.main_context.specs.Attached.{next_source}
use Rattle.engine_dispatches.specs.Courses.{sources_left}
use Rattle.engine_dispatches.proofs.Turning.{due_is}
use Rattle.engine_dispatches.proofs.courses.begin_next.Goals as goal

pub returns-clause-begins : goal.returns-clause-begins
returns-clause-begins c =
    let w = world_of c.args.engine.now.world in
    let f = due_is (next_source w.sources (sources_left c.args.course.left)) c.in-Some.due c.in-Some.ensures.given in
    record {
      source = f.0;
      next = f.1;
      left = c.next_due.ensures.left;
      so_far = refl;
      view_is = c.begin_dispatch.ensures.ok ∙ ap (λ n. beginning w (Due n)) (sym f.2);
    }

pub returns-clause-counted : goal.returns-clause-counted
returns-clause-counted c = c.begin_dispatch.ensures.counted.at nothing c.requires.rests.counts
