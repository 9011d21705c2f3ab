-- Events in parts, as the session forgets lines meanwhile, and by relations that are the same.
use Rattle.std.proofs.Common.{◌≡◌, ℕ, Bool, List, [], ◌++◌, Result, Ok, Err, subst, sym, append-nil}
use Rattle.ui_machine.specs.Definition.{Definition}
use Rattle.ui_machine.specs.State.Config.{World}
use Rattle.ui_machine.specs.State.Tasks.{Event}
use Rattle.native_peers.specs.Seen.{Relations, SameRelations, Seen}
use Rattle.engine_dispatches.specs.declared.courses.Course.{Course}
use Rattle.engine_dispatches.specs.declared.courses.Progress.{Progress}
use Rattle.engine_dispatches.specs.declared.courses.Progress.TheVariants as progress
use Rattle.engine_dispatches.specs.Courses.{IfUnderWay}
use Rattle.engine_dispatches.specs.Following.{Stands}
use Rattle.engine_dispatches.specs.PoolView.{world_at}
use Rattle.engine_dispatches.specs.Ways.{serving}
use Rattle.engine_dispatches.proofs.Points.{replied_before, same_here}
use Rattle.engine_dispatches.proofs.UnderWay.{cut_before, same_back, under_way_before}
use Rattle.ui_engine.specs.declared.faults.SessionFault.{SessionFault}
use Rattle.ui_engine.specs.declared.faults.SessionFault.TheVariants as faults
use Rattle.ui_engine.specs.SessionView.{BeginsEvent, Comes, ComesOn, HasCourse, InCourse, SessionState, state_at, without_lines}
use Rattle.ui_engine.proofs.InParts.{was_begun}

module _ (may : Relations) (d : Definition) (event : Event) (w : World) (front : List (List ℕ)) (pool : List Seen) (s : SessionState) where
  -- lines that are forgotten come in front
  pub comes_forgotten : (p : Progress) → ComesOn (Ok p) may d event w front pool s → ComesOn (Ok p) may d event w (front ++ s.world.transcript) pool (without_lines s)
  comes_forgotten (progress.UnderWay course) so =
      let u = so.so_far in
      record {
        definition = so.definition;
        under_way = so.under_way;
        stops = so.stops;
        so_far = record {
          may_begin = u.may_begin;
          first = u.first;
          given_first = u.given_first;
          start = u.start;
          starts = u.starts;
          later = u.later;
          given_later = u.given_later;
          at = u.at;
          reached = u.reached;
          stands =
              subst (λ (lines : List (List ℕ)). Stands (record { pool = pool; view = record { world = record s.world { transcript = lines }; agenda = s.agenda; counted = s.counted } }) u.at)
              (sym (append-nil (front ++ s.world.transcript))) u.stands;
          dispatches = u.dispatches;
          steps = u.steps;
          counted = u.counted;
        };
      }
  comes_forgotten (progress.Ended reply) ends =
      subst (λ (lines : List (List ℕ)). Comes (Ok reply) (serving may d w event) d (record (state_at pool s) { world = record (state_at pool s).world { transcript = lines } }))
      (sym (append-nil (front ++ s.world.transcript))) ends

module _ {may later : Relations} (same : SameRelations may later) (d : Definition) (event : Event) (w : World) (front : List (List ℕ)) (pool : List Seen) (s : SessionState) where
  pub course_before : (course : Course) → InCourse later d event w front course pool s → InCourse may d event w front course pool s
  course_before course so = record { definition = so.definition; under_way = so.under_way; stops = so.stops; so_far = under_way_before same so.so_far }

  pub comes_before : (r : Result Progress SessionFault) → ComesOn r later d event w front pool s → ComesOn r may d event w front pool s
  comes_before (Ok (progress.UnderWay course)) so = course_before course so
  comes_before (Ok (progress.Ended reply)) ends = record { leads = replied_before same (λ rs serves. serves) ends.leads; value = ends.value; definition = ends.definition; goes_on = ends.goes_on }
  comes_before (Err faults.OutOfMemory) breaks = record { breaks_off = replied_before same (λ rs cut. cut_before d same cut) breaks.breaks_off; definition = breaks.definition; stops = breaks.stops }
  comes_before (Err faults.Stopped) never = absurd never
  comes_before (Err faults.ClockBack) never = absurd never
  comes_before (Err faults.Released) never = absurd never

  -- where it goes on, the session may be asked to
  pub has_course_on : (p : Progress) → ComesOn (Ok p) may d event w front pool s → IfUnderWay {E = SessionFault} (Ok p) (λ course. HasCourse later course pool s)
  has_course_on (progress.UnderWay course) so = record {
    event = event;
    from = w;
    front = front;
    in_course = subst (λ (x : Definition). InCourse later x event w front course pool s) (sym so.definition) (record {
      definition = so.definition;
      under_way = so.under_way;
      stops = so.stops;
      so_far = under_way_before (same_back same) so.so_far;
    });
  }
  has_course_on (progress.Ended reply) ends = tt

-- so it is as it begins
pub has_course_begun : (may : Relations) (pool : List Seen) (old : SessionState) (event : Event) (stopped : Bool) (result : Result Progress SessionFault) (new : SessionState) → BeginsEvent may stopped result pool old event new
    → IfUnderWay result (λ course. HasCourse may course pool new)
has_course_begun may pool old event stopped (Ok (progress.UnderWay course)) new begins =
    let b = was_begun may pool pool old event stopped course new begins in
    has_course_on (same_here may) old.definition event (world_at pool old.world) [] pool new (progress.UnderWay course) b.so
has_course_begun may pool old event stopped (Ok (progress.Ended reply)) new begins = tt
has_course_begun may pool old event stopped (Err fault) new begins = tt

-- and where the session forgets its lines
pub course_forgets : (may : Relations) (pool : List Seen) (s new : SessionState) → new ≡ without_lines s → (course : Course) → HasCourse may course pool s → HasCourse may course pool new
course_forgets may pool s new is course h =
    subst (λ (x : SessionState). HasCourse may course pool x) (sym is) (record {
      event = h.event;
      from = h.from;
      front = h.front ++ s.world.transcript;
      in_course = comes_forgotten may s.definition h.event h.from h.front pool s (progress.UnderWay course) h.in_course;
    })
