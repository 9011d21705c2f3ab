-- How an event goes on: by steps of a dispatch, and from one dispatch to the next.
use Rattle.std.proofs.Common.{◌≡◌, ◌<◌, ◌≤◌, ◌+◌, ◌*◌, refl, ap, sym, ◌∙◌, subst, ℕ, List, [], ◌∷◌, ◌++◌, length, map, option_map, Option, None, Some, Ok, append_assoc, arith}
use Rattle.ui_machine.specs.declared.arm.Halt.TheVariants as halts
use Rattle.ui_machine.specs.Definition.{Definition}
use Rattle.ui_machine.specs.Output.Lines as lines
use Rattle.ui_machine.specs.Prefix.{IsPrefix}
use Rattle.ui_machine.specs.Rules.Events.{Refusal, refusal}
use Rattle.ui_machine.specs.Rules.MainLoop.{turned}
use Rattle.ui_machine.specs.Runs.{Comes, Dispatches, Does, Fits, HasEnded, RunsSource, RunsSources, Serves, Tally, HaltsIn, at_a_source, at_its_beginning, beginning, of_request, one_dispatch, tallied}
use Rattle.ui_machine.specs.State.Config.{Config, World, said}
use Rattle.ui_machine.specs.State.Peers.{Peer, Reply}
use Rattle.ui_machine.specs.State.Sources.{Source, source_of}
use Rattle.ui_machine.specs.State.Tasks.{Due, Event, Handling, Request}
use Rattle.ui_machine.specs.State.Tasks as config
use Rattle.ui_machine.specs.Steps.{most_steps}
use Rattle.ui_machine.proofs.Prefixes.{prefix_one}
use Rattle.g_values.specs.View.{value_view}
use Rattle.g_values.specs.declared.kind.Kind.{Kind}
use Rattle.law_steps.proofs.Served.SafeProofs.{safe_stays}
use Rattle.law_steps.proofs.Served.SessionProofs.{not_released}
use Rattle.law_steps.proofs.Tasked.StepsProofs.{steps_keep_good}
use Rattle.law_typing.specs.Laws.WellRead.{WellRead}
use Rattle.law_typing.specs.Verdict.Accepted.{Accepted, Each}
use Rattle.machine_laws.specs.FrontLaws.{fronted, fronted_at}
use Rattle.main_context.specs.Attached.{next_source, numbers_after}
use Rattle.native_peers.specs.Seen.{Relations, SameRelations, Seen}
use Rattle.engine_world.specs.EngineView.{config_of}
use Rattle.engine_world.specs.Standing.{without_gone}
use Rattle.engine_world.specs.View.{world_of}
use Rattle.engine_world.specs.declared.engine.Engine.{Engine}
use Rattle.engine_instructions.proofs.Whole.{engine_whole}
use Rattle.engine_dispatches.specs.declared.courses.Course.{Course}
use Rattle.engine_dispatches.specs.declared.courses.Progress.{Progress}
use Rattle.engine_dispatches.specs.declared.courses.Progress.TheVariants as progress
use Rattle.engine_dispatches.specs.declared.dispatches.Reply as code
use Rattle.engine_dispatches.specs.CallPoints.{point_of}
use Rattle.engine_dispatches.specs.Courses.{BeginsNext, HasCome, IfGoesOn, IfHasEnded, IsUnderWay, LeadsTo, MayBegin, NextBegins, Proceeds, Starts, fronted_point, nothing_yet, sources_left}
use Rattle.engine_dispatches.specs.Dispatched.{EndsBy}
use Rattle.engine_dispatches.specs.Following.{Breaks, Follows, Halting, Point, Stands}
use Rattle.engine_dispatches.specs.PoolView.{GivenBy, Knows, Replied, forgotten_seen, seen_of, world_at}
use Rattle.engine_dispatches.specs.Promises.{IsRoomy, Rests}
use Rattle.engine_dispatches.specs.Safety.{ComesOfSafe, IsSafe}
use Rattle.engine_dispatches.specs.TurnView.{TurnBegins}
use Rattle.engine_dispatches.specs.Ways.{CutOff, EventLeaves, serving, tally_of}
use Rattle.engine_dispatches.proofs.Fronting.{breaks_behind, comes_of_safe, ends_behind, follows_behind, says_behind}
use Rattle.engine_dispatches.proofs.Keeping.{other_lines_rest, request_rests, request_safe, runs_rest, source_safe, turn_rests}
use Rattle.engine_dispatches.proofs.Points.{each_both, ended_there, fitting, forgotten_as_seen, given_before, halting_on, known_at, left_before, real, stands_there, world_there}
use Rattle.engine_dispatches.proofs.Reaching.{reaches_here, reaches_on}
use Rattle.engine_dispatches.proofs.Turning.{NextIs, fewer_after, next_is, none_first, none_is, runs_more, runs_past}

module _ (d : Definition) (event : Event) (w : World) where
  -- ** what a dispatch begins with is safe

  module _ (well : WellRead d) (a : Accepted d) (m : MayBegin d event w) where
    pub start_safe : (room : ℕ) → IsRoomy d room → (left : List ℕ) (first : List Reply) (tally : Tally) (c : Config) → Each (Fits d) first → Starts d event left first w tally c → IsSafe d room c
    start_safe room roomy left first tally c fit s = by event m s
      where
        by : (e : Event) → MayBegin d e w → Starts d e left first w tally c → IsSafe d room c
        by (config.request r) m s =
            subst (IsSafe d room) (sym s.is) (request_safe d well w m.rests r m.read (not_released steps_keep_good d well a w r m.goes) room roomy a)
        by (config.turn moment) m s =
            subst (IsSafe d room) (sym s.is)
            (source_safe d well s.mid (λ b. runs_rest d well b s.done first fit (turned d w moment) tally s.mid (turn_rests d well w moment m.rests b) s.runs) s.number s.source s.stands room roomy a)

  -- and what it ends with is at rest
  module _ (well : WellRead d) (m : MayBegin d event w) where
    pub come_rests : (left : List ℕ) (replies : List Reply) (tally : Tally) (new : World) → Each (Fits d) replies → LeadsTo d event left replies w tally new → Rests d new
    come_rests left replies tally new fit l = by event m l
      where
        by : (e : Event) → MayBegin d e w → LeadsTo d e left replies w tally new → Rests d new
        by (config.request r) m l b = request_rests d well w m.rests r m.read (not_released steps_keep_good d well b w r m.goes) replies fit l.1.steps new l.1.dispatches b
        by (config.turn moment) m l b = runs_rest d well b l.done replies fit (turned d w moment) tally new (turn_rests d well w moment m.rests b) l.runs

  -- ** from one to the next

  -- a dispatch comes to its end
  pub dispatch_ends : (left : List ℕ) (first later : List Reply) (tally : Tally) (c : Config) (count : ℕ) (new : World) → Starts d event left first w tally c
      → Dispatches d later c count new → LeadsTo d event left (first ++ later) w (tallied tally (one_dispatch count)) new
  dispatch_ends left first later tally c count new s dispatches = by event s
    where
      by : (e : Event) → Starts d e left first w tally c → LeadsTo d e left (first ++ later) w (tallied tally (one_dispatch count)) new
      by (config.request r) s = (
        s.none_left,
        record {
          steps = count;
          counts = ap (λ (t : Tally). tallied t (one_dispatch count)) s.counts ∙ none_first d (one_dispatch count);
          dispatches =
              subst (λ (rs : List Reply). Dispatches d (rs ++ later) (of_request w r) count new) (sym s.none_before)
              (subst (λ (x : Config). Dispatches d later x count new) s.is dispatches);
        },
      )
      by (config.turn moment) s = record {
        done = s.done ++ s.number ∷ [];
        sources = s.sources ∙ sym (append_assoc s.done (s.number ∷ []) left);
        runs = runs_more d s.done s.number first later (turned d w moment) s.mid new tally (one_dispatch count) s.runs one;
      }
        where
          one : RunsSource d s.number (source_of s.number s.mid.sources) later s.mid (one_dispatch count) new
          one = rw s.stands (record { steps = count; counts = refl; dispatches = subst (λ (x : Config). Dispatches d later x count new) s.is dispatches })

  -- the next one begins
  pub next_starts : (left : List ℕ) (replies : List Reply) (tally : Tally) (now : World) (s : Source) → LeadsTo d event left replies w tally now → next_source now.sources left ≡ Some s
      → Starts d event (numbers_after now.sources left) replies w tally (beginning now (Due s.number))
  next_starts left replies tally now s l next = by event l
    where
      none : left ≡ [] → ⊥
      none empty = (let never : ◌≡◌ {A = Option Source} None (Some s) = ap (λ (ns : List ℕ). next_source now.sources ns) (sym empty) ∙ next in cc never)

      by : (e : Event) → LeadsTo d e left replies w tally now → Starts d e (numbers_after now.sources left) replies w tally (beginning now (Due s.number))
      by (config.request r) l = absurd (none l.0)
      by (config.turn moment) l =
          let n : NextIs now.sources left s = next_is now.sources left s next in
          record {
            done = l.done ++ n.skipped;
            number = s.number;
            sources = l.sources ∙ ap (λ (ns : List ℕ). l.done ++ ns) n.parts ∙ sym (append_assoc l.done n.skipped (s.number ∷ numbers_after now.sources left));
            mid = now;
            runs = runs_past d n.skipped l.done replies (turned d w moment) now tally n.absent l.runs;
            source = s;
            stands = n.there;
            is = refl;
          }

  -- or none is left
  pub all_served : (left : List ℕ) (replies : List Reply) (tally : Tally) (now : World) → refusal w event ≡ None → LeadsTo d event left replies w tally now
      → next_source now.sources left ≡ None → Serves d event replies w tally now
  all_served left replies tally now goes l none =
      subst (λ (why : Option Refusal). Comes d event why replies w tally now) (sym goes) (by event l)
    where
      by : (e : Event) → LeadsTo d e left replies w tally now → Does d e replies w tally now
      by (config.request r) l = l.1
      by (config.turn moment) l =
          subst (λ (ns : List ℕ). RunsSources d ns replies (turned d w moment) tally now) (sym l.sources)
          (runs_past d left l.done replies (turned d w moment) now tally (none_is now.sources left none).0 l.runs)

  -- or no memory is found in it
  module _ (may : Relations) where
    pub start_breaks : (left : List ℕ) (first : List Reply) (tally : Tally) (c : Config) → Each (GivenBy may) first → Starts d event left first w tally c
        → (left_peers : List Peer) (shown : List (List ℕ)) → Replied may (λ replies. Halting d may replies c left_peers shown)
        → Replied may (λ replies. CutOff d may event replies w left_peers shown)
    start_breaks left first tally c given s left_peers shown h = record {
      replies = first ++ h.replies;
      given = each_both (GivenBy may) first h.replies given h.given;
      so = by event s;
    }
      where
        by : (e : Event) → Starts d e left first w tally c → CutOff d may e (first ++ h.replies) w left_peers shown
        by (config.request r) s =
            let halting : Halting d may (first ++ h.replies) (of_request w r) left_peers shown =
            subst (λ (rs : List Reply). Halting d may (rs ++ h.replies) (of_request w r) left_peers shown) (sym s.none_before)
            (subst (λ (x : Config). Halting d may h.replies x left_peers shown) s.is h.so) in
            record { halts = halting.halts; leaves = halting.leaves }
        by (config.turn moment) s =
            let halting : Halting d may h.replies (beginning s.mid (Due s.number)) left_peers shown = subst (λ (x : Config). Halting d may h.replies x left_peers shown) s.is h.so in
            record {
              halts = at_a_source (record {
                done = s.done;
                number = s.number;
                more = left;
                sources = s.sources;
                first = first;
                later = h.replies;
                replied = refl;
                mid = s.mid;
                tally = tally;
                runs = s.runs;
                stands = rw s.stands refl;
                halts = halting.halts;
              });
              leaves = halting.leaves;
            }

-- ** beside a pool

-- what the dispatches led to with one more
abbrev pub after : code.Reply → code.Reply → code.Reply
after so_far one = record { result = one.result; dispatches = so_far.dispatches + 1; steps = so_far.steps + one.steps }

module _ (d : Definition) (may : Relations) (event : Event) (w : World) (front : List (List ℕ)) where
  module _ (course : Course) (p : Point) (u : IsUnderWay d may event w front course p) where
    -- the machine is where it may go on
    pub under_way_safe : (room : ℕ) → IsRoomy d room → WellRead d → Accepted d → ComesOfSafe d room p
    under_way_safe room roomy well a =
        let fits = fitting d may u.first u.given_first in
        let later = fitting d may u.later u.given_later in
        let safe = start_safe d event w well a u.may_begin room roomy (sources_left course.left) u.first (tally_of course.so_far) u.start fits u.starts in
        comes_of_safe d front p u.at u.stands (record {
          most = safe.most;
          safe = safe_stays d safe.most u.start safe.safe u.later later u.at u.reached;
          asks = λ replies fit at reached. safe.asks (u.later ++ replies) (each_both (Fits d) u.later replies later fit) at (reaches_on d u.reached reached);
          names = λ replies fit at reached. safe.names (u.later ++ replies) (each_both (Fits d) u.later replies later fit) at (reaches_on d u.reached reached);
          meanings = λ replies fit at reached. safe.meanings (u.later ++ replies) (each_both (Fits d) u.later replies later fit) at (reaches_on d u.reached reached);
          few = λ replies fit at reached. safe.few (u.later ++ replies) (each_both (Fits d) u.later replies later fit) at (reaches_on d u.reached reached);
          numbers = λ replies fit at reached. safe.numbers (u.later ++ replies) (each_both (Fits d) u.later replies later fit) at (reaches_on d u.reached reached);
        })

    -- the engine knows the pool
    pub under_way_knows : Knows p.view.world p.pool
    under_way_knows =
        ap (λ (l : List Seen). map forgotten_seen l) (sym u.stands.peers)
        ∙ forgotten_as_seen u.at.world.peers
        ∙ ap (λ (l : List Peer). map seen_of l) (known_at d (fronted_point front p) u.at u.stands)

    -- it goes on by steps
    pub under_way_on : (q : Point) → Follows d may p q → q.view.counted ≤ most_steps → IsUnderWay d may event w front course q
    under_way_on q follows few =
        let f = follows_behind d front follows in
        let x = f.arrives u.at u.stands in
        record {
          may_begin = u.may_begin;
          first = u.first;
          given_first = u.given_first;
          start = u.start;
          starts = u.starts;
          later = u.later ++ f.replies;
          given_later = each_both (GivenBy may) u.later f.replies u.given_later f.given;
          at = x.at;
          reached = reaches_on d u.reached x.reached;
          stands = x.stands;
          dispatches = u.dispatches;
          steps = u.steps;
          counted = few;
        }

    -- no memory is found for one
    pub under_way_breaks : (left : List Peer) (shown : List (List ℕ)) → Breaks d may p left shown → (serving may d w event).breaks_off left (front ++ shown)
    under_way_breaks left shown breaks =
        let b = breaks_behind d front breaks in
        start_breaks d event w may (sources_left course.left) u.first (tally_of course.so_far) u.start u.given_first u.starts left (front ++ shown) (record {
          replies = u.later ++ b.replies;
          given = each_both (GivenBy may) u.later b.replies u.given_later b.given;
          so = halting_on d u.reached (b.breaks u.at u.stands);
        })

    -- its dispatch comes to its end
    module _ (ended : HasEnded d p.view) (one : code.Reply) (new : World) (ends : EndsBy one d p.view new) where
      ended_so : Dispatches d u.later u.start one.steps (fronted front (world_at p.pool new))
      ended_so =
          let behind = fronted_point front p in
          let counts : u.at.counted ≡ p.view.counted = ap (λ (x : Config). x.counted) u.stands.view in
          record {
            at = u.at;
            reached = u.reached;
            ended = ended_there d behind u.at u.stands (ends_behind d front p.view ended);
            counts = counts ∙ sym ends.steps;
            leaves =
                ap (λ (v : World). said d v (lines.end u.at.counted)) (world_there d behind u.at u.stands)
                ∙ ap (λ n. said d (world_at p.pool (fronted front p.view.world)) (lines.end n)) counts
                ∙ says_behind d front (world_at p.pool p.view.world) (lines.end p.view.counted)
                ∙ ap (λ (v : World). fronted front (world_at p.pool v)) (sym ends.said);
          }

      pub has_come : HasCome d may event w (sources_left course.left) (after course.so_far one) (fronted front (world_at p.pool new))
      has_come = record {
        may_begin = u.may_begin;
        replies = u.first ++ u.later;
        given = each_both (GivenBy may) u.first u.later u.given_first u.given_later;
        leads = dispatch_ends d event w (sources_left course.left) u.first u.later (tally_of course.so_far) u.start one.steps (fronted front (world_at p.pool new)) u.starts ended_so;
        value = ends.value ∙ sym (ap (λ (v : World). v.result) ends.said);
        small = record {
          dispatches = omega (arith, u.dispatches);
          steps = omega (arith, u.steps, ends.steps, u.counted);
        };
      }

  module _ (course : Course) (pool : List Seen) (world : World) (h : HasCome d may event w (sources_left course.left) course.so_far (fronted front (world_at pool world))) where
    -- it has ended
    pub come_ended : (reply : code.Reply) → reply ≡ course.so_far → next_source world.sources (sources_left course.left) ≡ None
        → (serving may d w event).to (tally_of reply) (fronted front (world_at pool world)) × (option_map value_view reply.result ≡ world.result)
    come_ended reply same none =
        subst (λ (r : code.Reply). (serving may d w event).to (tally_of r) (fronted front (world_at pool world)) × (option_map value_view r.result ≡ world.result)) (sym same) (
          record {
            replies = h.replies;
            given = h.given;
            so = all_served d event w (sources_left course.left) h.replies (tally_of course.so_far) (fronted front (world_at pool world)) h.may_begin.goes h.leads none;
          },
          h.value,
        )

    -- it leaves the world at rest
    pub come_at_rest : WellRead d → Rests d (world_at pool world)
    come_at_rest well =
        other_lines_rest d (fronted front (world_at pool world)) world.transcript
        (come_rests d event w well h.may_begin (sources_left course.left) h.replies (tally_of course.so_far) (fronted front (world_at pool world)) (fitting d may h.replies h.given) h.leads)

    -- its next dispatch begins
    module _ (knows : Knows world pool) where
      pub come_on : (next : Course) (view : Config) → without_gone view ≡ view → NextBegins course world next view
          → IsUnderWay d may event w front next (record { pool = pool; view = view })
      come_on next view whole b =
          let q : Point = record { pool = pool; view = view } in
          let fewer = fewer_after world.sources (sources_left course.left) b.source (next_is world.sources (sources_left course.left) b.source b.next) in
          let left : length (sources_left next.left) ≡ length (numbers_after world.sources (sources_left course.left)) = ap (λ (ns : List ℕ). length ns) b.left in
          let known : Knows view.world pool = knows ∙ sym (ap (λ (x : Config). map seen_of x.world.peers) b.view_is) in
          let begun : real d (fronted_point front q) ≡ beginning (fronted front (world_at pool world)) (Due b.source.number) =
          ap (λ (x : Config). record x { world = fronted front (world_at pool x.world) }) b.view_is in
          record {
            may_begin = h.may_begin;
            first = h.replies;
            given_first = h.given;
            start = beginning (fronted front (world_at pool world)) (Due b.source.number);
            starts =
                subst (λ (ns : List ℕ). Starts d event ns h.replies w (tally_of next.so_far) (beginning (fronted front (world_at pool world)) (Due b.source.number))) (sym b.left)
                (subst (λ (r : code.Reply). Starts d event (numbers_after world.sources (sources_left course.left)) h.replies w (tally_of r) (beginning (fronted front (world_at pool world)) (Due b.source.number)))
                (sym b.so_far) (next_starts d event w (sources_left course.left) h.replies (tally_of course.so_far) (fronted front (world_at pool world)) b.source h.leads b.next));
            later = [];
            given_later = tt;
            at = beginning (fronted front (world_at pool world)) (Due b.source.number);
            reached = reaches_here d (beginning (fronted front (world_at pool world)) (Due b.source.number));
            stands = subst (λ (c : Config). Stands (fronted_point front q) c) begun (stands_there d (fronted_point front q) (ap (fronted_at front) whole) known);
            dispatches =
                subst (λ (r : code.Reply). r.dispatches + (length (sources_left next.left) + 1) ≤ 256) (sym b.so_far)
                (omega (arith, left, fewer, h.small.dispatches));
            steps = subst (λ (r : code.Reply). r.steps ≤ r.dispatches * most_steps) (sym b.so_far) h.small.steps;
            counted = let none : view.counted ≡ 0 = ap (λ (x : Config). x.counted) b.view_is in omega (arith, none);
          }

    -- so it is whatever the code answers
    pub begins_on : (knows : Knows world pool) (p : Progress) (view : Config) → without_gone view ≡ view → IfHasEnded p (λ _. view.world ≡ world)
        → BeginsNext p course world view → Proceeds (Ok p) d may event w front (record { pool = pool; view = view })
    begins_on knows (progress.UnderWay next) view whole still b = come_on knows next view whole b
    begins_on knows (progress.Ended reply) view whole still b =
        subst (λ (v : World). (serving may d w event).to (tally_of reply) (fronted front (world_at pool v)) × (option_map value_view reply.result ≡ v.result)) (sym still) (come_ended reply b.0 b.1)

-- ** from one dispatch to the next

-- where the engine is as it was, so is its world
still_there : (e new : Engine) (p : Progress) → IfHasEnded p (λ _. new ≡ e) → IfHasEnded p (λ _. world_of new.world ≡ world_of e.world)
still_there e new (progress.UnderWay course) h = tt
still_there e new (progress.Ended reply) h = ap (λ (x : Engine). world_of x.world) h

module _ (d : Definition) (may : Relations) (event : Event) (w : World) (front : List (List ℕ)) (course : Course) (p : Point) (u : IsUnderWay d may event w front course p)
    (ended : HasEnded d p.view) (one : code.Reply) (e : Engine) (ends : EndsBy one d p.view (world_of e.world)) (next : Course)
    (is : next ≡ record { left = course.left; so_far = after course.so_far one; asked = course.asked }) where
  come_so : HasCome d may event w (sources_left next.left) next.so_far (fronted front (world_at p.pool (world_of e.world)))
  come_so =
      subst (λ (x : Course). HasCome d may event w (sources_left x.left) x.so_far (fronted front (world_at p.pool (world_of e.world)))) (sym is)
      (has_come d may event w front course p u ended one (world_of e.world) ends)

  pub ended_knows : Knows (world_of e.world) p.pool
  ended_knows = subst (λ (v : World). Knows v p.pool) (sym ends.said) (under_way_knows d may event w front course p u)

  pub ended_rests : WellRead d → Rests d (world_at p.pool (world_of e.world))
  ended_rests well = come_at_rest d may event w front next p.pool (world_of e.world) come_so well

  -- its next dispatch begins, or it has ended
  pub ended_on : (q : Progress) (new : Engine) → IfHasEnded q (λ _. new ≡ e) → BeginsNext q next (world_of e.world) (config_of d new)
      → Proceeds (Ok q) d may event w front (point_of d p.pool new)
  ended_on q new still begins =
      begins_on d may event w front next p.pool (world_of e.world) come_so ended_knows q (config_of d new) (engine_whole d new) (still_there e new q still) begins

-- so it is where the code names it otherwise
pub proceeds_as : (d : Definition) (may : Relations) (event : Event) (w : World) (front : List (List ℕ)) (p : Point) {x y : Progress} → x ≡ y → Proceeds (Ok x) d may event w front p → Proceeds (Ok y) d may event w front p
proceeds_as d may event w front p same h = subst (λ (z : Progress). Proceeds (Ok z) d may event w front p) same h

-- where it is under way, and where it has ended
pub if_under_way : {P : Type 0} {x : Progress} {next : Course} → x ≡ progress.UnderWay next → IfGoesOn x (λ _. P) → P
if_under_way {P} same h = subst (λ (z : Progress). IfGoesOn z (λ _. P)) same h

pub if_ended : {P : Type 0} {x : Progress} {reply : code.Reply} → x ≡ progress.Ended reply → IfHasEnded x (λ _. P) → P
if_ended {P} same h = subst (λ (z : Progress). IfHasEnded z (λ _. P)) same h

-- what was counted comes to what its dispatches led to
pub next_steps : (old : Course) (w : World) (view : Config) {x : Progress} {next : Course} → x ≡ progress.UnderWay next → BeginsNext x old w view → (next.so_far.steps ≡ old.so_far.steps) × (view.counted ≡ 0)
next_steps old w view {x} {next} is begins =
    let b : NextBegins old w next view = subst (λ (z : Progress). BeginsNext z old w view) is begins in
    (ap (λ (r : code.Reply). r.steps) b.so_far, ap (λ (c : Config). c.counted) b.view_is)

pub last_steps : (old : Course) (w : World) (view : Config) {x : Progress} {reply : code.Reply} → x ≡ progress.Ended reply → BeginsNext x old w view → reply.steps ≡ old.so_far.steps
last_steps old w view {x} {reply} is begins =
    let b : (reply ≡ old.so_far) × (next_source w.sources (sources_left old.left) ≡ None) = subst (λ (z : Progress). BeginsNext z old w view) is begins in
    ap (λ (r : code.Reply). r.steps) b.0

-- a dispatch that ends says one line more
pub ends_longer : (d : Definition) (one : code.Reply) (c : Config) (new : World) → EndsBy one d c new → IsPrefix c.world.transcript new.transcript
ends_longer d one c new ends = subst (λ (v : World). IsPrefix c.world.transcript v.transcript) (sym ends.said) (prefix_one c.world.transcript _)

-- fewer sources are left once one has begun
pub next_fewer : (course old : Course) (w : World) (view : Config) {x : Progress} {next : Course} → x ≡ progress.UnderWay next → sources_left old.left ≡ sources_left course.left → BeginsNext x old w view
    → length (sources_left next.left) < length (sources_left course.left)
next_fewer course old w view {x} {next} is same begins =
    let b : NextBegins old w next view = subst (λ (z : Progress). BeginsNext z old w view) is begins in
    let fewer = fewer_after w.sources (sources_left old.left) b.source (next_is w.sources (sources_left old.left) b.source b.next) in
    let left : length (sources_left next.left) ≡ length (numbers_after w.sources (sources_left old.left)) = ap (λ (ns : List ℕ). length ns) b.left in
    let even : length (sources_left old.left) ≡ length (sources_left course.left) = ap (λ (ns : List ℕ). length ns) same in
    omega (arith, fewer, left, even)

-- ** by relations that are the same

pub same_back : {a b : Relations} → SameRelations a b → SameRelations b a
same_back same k s m args answer t = (let p = same k s m args answer t in (p.1, p.0))

pub under_way_before : {d : Definition} {may later : Relations} {event : Event} {w : World} {front : List (List ℕ)} {course : Course} {p : Point} → SameRelations may later
    → IsUnderWay d later event w front course p → IsUnderWay d may event w front course p
under_way_before {d} {may} {later} same u = record {
  may_begin = u.may_begin;
  first = u.first;
  given_first = given_before may later same u.first u.given_first;
  start = u.start;
  starts = u.starts;
  later = u.later;
  given_later = given_before may later same u.later u.given_later;
  at = u.at;
  reached = u.reached;
  stands = u.stands;
  dispatches = u.dispatches;
  steps = u.steps;
  counted = u.counted;
}

module _ (d : Definition) {may later : Relations} (same : SameRelations may later) where
  leaves_before : (event : Event) (replies : List Reply) (w : World) (shown : List (List ℕ)) (left : List Peer) (h : HaltsIn d event replies w halts.OutOfMemory shown)
      → EventLeaves d later event replies w shown h left → EventLeaves d may event replies w shown h left
  leaves_before (config.request r) replies w shown left h leaves = left_before d same leaves
  leaves_before (config.turn moment) replies w shown left (at_its_beginning stops) leaves = leaves
  leaves_before (config.turn moment) replies w shown left (at_a_source h) leaves = left_before d same leaves

  pub cut_before : {event : Event} {replies : List Reply} {w : World} {left : List Peer} {shown : List (List ℕ)} → CutOff d later event replies w left shown → CutOff d may event replies w left shown
  cut_before {event} {replies} {w} {left} {shown} c = record { halts = c.halts; leaves = leaves_before event replies w shown left c.halts c.leaves }

-- ** how an event begins

module _ (d : Definition) (may : Relations) (pool : List Seen) (w : World) (knows : Knows w pool) where
  -- a request
  pub request_begins : (asked : Option Kind) (r : Request) (view : Config) → MayBegin d (config.request r) (world_at pool w) → view ≡ beginning w (Handling r) → without_gone view ≡ view
      → IsUnderWay d may (config.request r) (world_at pool w) [] (record { left = None; so_far = nothing_yet; asked = asked }) (record { pool = pool; view = view })
  request_begins asked r view begins is whole =
      let q : Point = record { pool = pool; view = view } in
      let known : Knows view.world pool = knows ∙ sym (ap (λ (x : Config). map seen_of x.world.peers) is) in
      let begun : real d q ≡ of_request (world_at pool w) r = ap (λ (x : Config). record x { world = world_at pool x.world }) is in
      record {
        may_begin = begins;
        first = [];
        given_first = tt;
        start = of_request (world_at pool w) r;
        starts = record { none_left = refl; none_before = refl; counts = refl; is = refl };
        later = [];
        given_later = tt;
        at = of_request (world_at pool w) r;
        reached = reaches_here d (of_request (world_at pool w) r);
        stands = subst (λ (c : Config). Stands q c) begun (stands_there d q whole known);
        dispatches = omega arith;
        steps = omega arith;
        counted = let none : view.counted ≡ 0 = ap (λ (x : Config). x.counted) is in omega (arith, none);
      }

-- a turn
pub turn_begins : (d : Definition) (may : Relations) (moment : ℕ) (w : World) (numbers : List ℕ) (now : World) → MayBegin d (config.turn moment) w → TurnBegins d moment w numbers now
    → HasCome d may (config.turn moment) w numbers nothing_yet now
turn_begins d may moment w numbers now begins b = record {
  may_begin = begins;
  replies = [];
  given = tt;
  leads = record { done = []; sources = sym b.ready; runs = record { replied = refl; counts = refl; same = sym b.world } };
  value = sym (ap (λ (v : World). v.result) b.world);
  small = record { dispatches = omega (arith, b.few); steps = omega arith };
}

-- ** by the engine

-- the next dispatch begins, or the event has ended
pub engine_begins : (d : Definition) (may : Relations) (event : Event) (w : World) (front : List (List ℕ)) (course : Course) (pool : List Seen) (e new : Engine)
    → HasCome d may event w (sources_left course.left) course.so_far (fronted front (world_at pool (world_of e.world))) → Knows (world_of e.world) pool → (p : Progress)
    → IfHasEnded p (λ _. new ≡ e) → BeginsNext p course (world_of e.world) (config_of d new) → Proceeds (Ok p) d may event w front (point_of d pool new)
engine_begins d may event w front course pool e new h knows p still begins =
    begins_on d may event w front course pool (world_of e.world) h knows p (config_of d new) (engine_whole d new) (still_there e new p still) begins

-- a request has begun
pub engine_handles : (d : Definition) (may : Relations) (pool : List Seen) (w : World) → Knows w pool → (asked : Option Kind) (r : Request) (new : Engine) → MayBegin d (config.request r) (world_at pool w)
    → config_of d new ≡ beginning w (Handling r) → IsUnderWay d may (config.request r) (world_at pool w) [] (record { left = None; so_far = nothing_yet; asked = asked }) (point_of d pool new)
engine_handles d may pool w knows asked r new begins is = request_begins d may pool w knows asked r (config_of d new) begins is (engine_whole d new)
