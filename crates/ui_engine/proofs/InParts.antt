-- How events go on in a session: what its engine comes to is what the session answers.
use Rattle.std.proofs.Common.{◌≡◌, ◌<◌, ◌+◌, ℕ, Bool, true, false, nat_lt, List, [], ◌++◌, Option, None, Some, Result, Ok, Err, refl, sym, ap, subst, arith, vec_capacity}
use Rattle.std.proofs.lemmas.Bool.Decides.{nat_tests}
use Rattle.std.specs.declared.alloc.AllocError.{AllocError}
use Rattle.ui_machine.specs.Definition.{Definition}
use Rattle.ui_machine.specs.Rules.Events.{Refusal, clock_back, gone, names_released, refusal}
use Rattle.ui_machine.specs.Rules.MainLoop.{is_back}
use Rattle.ui_machine.specs.Runs.{at_its_beginning, beginning}
use Rattle.ui_machine.specs.State.Config.{World}
use Rattle.ui_machine.specs.State.Tasks.{Event, Handling, Request}
use Rattle.ui_machine.specs.State.Tasks as config
use Rattle.g_values.specs.declared.kind.Kind.{Kind}
use Rattle.law_typing.specs.Verdict.Accepted.{Accepted}
use Rattle.native_peers.specs.Seen.{Relations, Seen}
use Rattle.engine_world.specs.Counting.{Counts, nothing}
use Rattle.engine_world.specs.EngineView.{config_of}
use Rattle.engine_world.specs.Room.{SameRoom}
use Rattle.engine_world.specs.View.{world_of}
use Rattle.engine_world.specs.declared.engine.Engine.{Engine}
use Rattle.engine_dispatches.specs.declared.courses.Course.{Course}
use Rattle.engine_dispatches.specs.declared.courses.Progress.{Progress}
use Rattle.engine_dispatches.specs.declared.courses.Progress.TheVariants as progress
use Rattle.engine_dispatches.specs.declared.dispatches.Reply.{Reply}
use Rattle.engine_dispatches.specs.CallPoints.{point_of}
use Rattle.engine_dispatches.specs.Courses.{BeginsNext, GoesOn, HasCome, IfGoesOn, IfHasEnded, IfUnderWay, IsUnderWay, MayBegin, Proceeds, nothing_yet}
use Rattle.engine_dispatches.specs.Dispatched.{IsAtRest}
use Rattle.engine_dispatches.specs.PoolView.{Knows, with_seen, world_at}
use Rattle.engine_dispatches.specs.Promises.{Rests, IsRoomy}
use Rattle.engine_dispatches.specs.TurnView.{TurnBegins}
use Rattle.engine_dispatches.specs.Ways.{serving}
use Rattle.engine_dispatches.proofs.Resting.{rests_here}
use Rattle.engine_dispatches.proofs.UnderWay.{engine_begins, engine_handles}
use Rattle.ui_engine.specs.declared.cores.Phase.{Phase}
use Rattle.ui_engine.specs.declared.cores.Phase.TheVariants as phases
use Rattle.ui_engine.specs.declared.faults.SessionFault.{SessionFault}
use Rattle.ui_engine.specs.declared.faults.SessionFault.TheVariants as faults
use Rattle.ui_engine.specs.Phases.{IsKept, has_stopped, is_under_way, phase_of, HasAllRoom}
use Rattle.ui_engine.specs.SessionView.{AnswersEvent, AnswersBy, BeginsBy, BeginsEvent, Comes, ComesOn, HasCourse, InCourse, SessionState, state_at}
use Rattle.ui_engine.proofs.Ending.{session_at}

-- ** what a session keeps

pub kept_at_rest : (d : Definition) (e : Engine) (phase : Phase) → has_stopped phase ≡ false → IsKept d e phase → IsAtRest d e × Rests d (world_of e.world) × HasAllRoom d e
kept_at_rest d e phases.AtRest goes_on kept = kept
kept_at_rest d e phases.UnderWay goes_on kept = absurd (cc goes_on)
kept_at_rest d e phases.Stopped goes_on kept = absurd (cc goes_on)

pub kept_under_way : (d : Definition) (e : Engine) (phase : Phase) → is_under_way phase ≡ true → IsKept d e phase → Counts d nothing e × HasAllRoom d e
kept_under_way d e phases.AtRest under_way kept = absurd (cc under_way)
kept_under_way d e phases.UnderWay under_way kept = kept
kept_under_way d e phases.Stopped under_way kept = absurd (cc under_way)

-- where it has not stopped
pub kept_on : (d : Definition) (e : Engine) (phase : Phase) → has_stopped phase ≡ false → IsAtRest d e × Rests d (world_of e.world) × HasAllRoom d e → IsKept d e phase
kept_on d e phases.AtRest goes_on rests = rests
kept_on d e phases.UnderWay goes_on rests = absurd (cc goes_on)
kept_on d e phases.Stopped goes_on rests = absurd (cc goes_on)

-- the room is what it was
pub room_on : (d : Definition) (e new : Engine) → SameRoom e new → HasAllRoom d e → HasAllRoom d new
room_on d e new same roomy = subst (IsRoomy d) (sym same) roomy

-- so that there is room for a task
pub room_for_one : (d : Definition) (e : Engine) → Accepted d → HasAllRoom d e → 0 < vec_capacity e.stack.tasks
room_for_one d e a roomy = let enough = roomy a in omega (arith, enough)

-- where it has begun
pub kept_begun : (d f : Definition) → f ≡ d → (e new : Engine) → SameRoom e new → IsAtRest d e × Rests d (world_of e.world) × HasAllRoom d e → (p : Progress) → IfGoesOn p (λ _. Counts f nothing new)
    → IfHasEnded p (λ _. new ≡ e) → (phase : Phase) → phase ≡ phase_of p → IsKept d new phase
kept_begun d f same e new room rests (progress.UnderWay course) counts still phase is =
    subst (IsKept d new) (sym is) (subst (λ (x : Definition). Counts x nothing new) same counts, room_on d e new room rests.2)
kept_begun d f same e new room rests (progress.Ended reply) counts still phase is =
    subst (IsKept d new) (sym is) (subst (λ (x : Engine). IsAtRest d x × Rests d (world_of x.world) × HasAllRoom d x) (sym still) rests)

-- where it was gone on with
pub kept_advanced : (d f : Definition) → f ≡ d → (e new : Engine) → SameRoom e new → HasAllRoom d e → (pool : List Seen) (p : Progress) → IfGoesOn p (λ _. Counts f nothing new)
    → IfHasEnded p (λ _. IsAtRest f new) → IfHasEnded p (λ _. Knows (world_of new.world) pool)
    → IfHasEnded p (λ _. Rests f (world_at pool (world_of new.world))) → (phase : Phase) → phase ≡ phase_of p → IsKept d new phase
kept_advanced d f same e new room roomy pool (progress.UnderWay course) counts rests knows resting phase is =
    subst (IsKept d new) (sym is) (subst (λ (x : Definition). Counts x nothing new) same counts, room_on d e new room roomy)
kept_advanced d f same e new room roomy pool (progress.Ended reply) counts rests knows resting phase is =
    subst (IsKept d new) (sym is) (
      subst (λ (x : Definition). IsAtRest x new) same rests,
      rests_here d pool (world_of new.world) knows (subst (λ (x : Definition). Rests x (world_at pool (world_of new.world))) same resting),
      room_on d e new room roomy,
    )

-- ** what it answers

module _ (d : Definition) (may : Relations) (event : Event) (w : World) (front : List (List ℕ)) (pool : List Seen) (e : Engine) where
  pub comes_so_far : (p : Progress) → Proceeds (Ok p) d may event w front (point_of d pool e) → (phase : Phase) → phase ≡ phase_of p → ComesOn (Ok p) may d event w front pool (session_at d e phase)
  comes_so_far (progress.UnderWay course) so phase is = record { definition = refl; under_way = ap is_under_way is; stops = ap has_stopped is; so_far = so }
  comes_so_far (progress.Ended reply) so phase is = record { leads = so.0; value = so.1; definition = refl; goes_on = ap has_stopped is }

  pub comes_to_nothing : (serving may d w event).breaks_off (with_seen pool (world_of e.world).peers) (front ++ (world_of e.world).transcript)
      → ComesOn (Err faults.OutOfMemory) may d event w front pool (session_at d e phases.Stopped)
  comes_to_nothing h = record { breaks_off = h; definition = refl; stops = refl }

-- ** how an event begins

pub goes_where_none : (w : World) (r : Request) → names_released w r ≡ false → refusal w (config.request r) ≡ None
goes_where_none w r none = ap (λ (b : Bool). elim b as (λ _. Option Refusal) [ true ↦ Some gone | false ↦ None ]) none

pub goes_forwards : (w : World) (moment : ℕ) → is_back w moment ≡ false → refusal w (config.turn moment) ≡ None
goes_forwards w moment is = ap (λ (b : Bool). elim b as (λ _. Option Refusal) [ true ↦ Some clock_back | false ↦ None ]) is

-- what is not less than the latest moment does not lie before it
pub not_back : (m n : ℕ) → (m < n → ⊥) → nat_lt m n ≡ false
not_back m n not_less = by (nat_lt m n) refl
  where
    by : (b : Bool) → nat_lt m n ≡ b → b ≡ false
    by true is = absurd (not_less (let less : m < n = grind (arith, nat_tests) in less))
    by false is = refl

-- what is less does
pub is_before : (m n : ℕ) → m < n → nat_lt m n ≡ true
is_before m n less = grind (arith, nat_tests, less)

-- a session that has not stopped begins an event
pub begins_event : (may : Relations) {stopped : Bool} (result : Result Progress SessionFault) (pool : List Seen) (old : SessionState) (event : Event) (new : SessionState) → stopped ≡ false
    → BeginsBy may (refusal old.world event) result pool old event new → BeginsEvent may stopped result pool old event new
begins_event may result pool old event new goes_on begins = subst (λ (b : Bool). BeginsEvent may b result pool old event new) (sym goes_on) begins

module _ (may : Relations) (pool : List Seen) (old : SessionState) where
  -- it names what was released
  pub begin_released : (r : Request) → names_released old.world r ≡ true → BeginsBy may (refusal old.world (config.request r)) (Err faults.Released) pool old (config.request r) old
  begin_released r names =
      subst (λ (why : Option Refusal). BeginsBy may why (Err faults.Released) pool old (config.request r) old)
      (sym (ap (λ (b : Bool). elim b as (λ _. Option Refusal) [ true ↦ Some gone | false ↦ None ]) names)) (refl, refl)

  -- it is a turn of a moment before the latest one
  pub begin_back : (moment : ℕ) → is_back old.world moment ≡ true → BeginsBy may (refusal old.world (config.turn moment)) (Err faults.ClockBack) pool old (config.turn moment) old
  begin_back moment is =
      subst (λ (why : Option Refusal). BeginsBy may why (Err faults.ClockBack) pool old (config.turn moment) old)
      (sym (ap (λ (b : Bool). elim b as (λ _. Option Refusal) [ true ↦ Some clock_back | false ↦ None ]) is)) (refl, refl)

  -- it goes
  pub begin_goes : (event : Event) → refusal old.world event ≡ None → (result : Result Progress SessionFault) (new : SessionState)
      → ComesOn result may old.definition event (world_at pool old.world) [] pool new → BeginsBy may (refusal old.world event) result pool old event new
  begin_goes event none result new comes = subst (λ (why : Option Refusal). BeginsBy may why result pool old event new) (sym none) comes

  -- no memory is found for the line of a turn
  pub turn_stops : (moment : ℕ) → is_back old.world moment ≡ false → (new : SessionState) → old.world.transcript ≡ new.world.transcript
      → (world_at pool old.world).peers ≡ (world_at pool new.world).peers → new.definition ≡ old.definition → new.stopped ≡ true
      → BeginsBy may (refusal old.world (config.turn moment)) (Err faults.OutOfMemory) pool old (config.turn moment) new
  turn_stops moment is new lines same definition stops =
      begin_goes (config.turn moment) (goes_forwards old.world moment is) (Err faults.OutOfMemory) new (record {
        breaks_off = record { replies = []; given = tt; so = record { halts = at_its_beginning (record { memory = refl; asked = refl; lines = lines }); leaves = same } };
        definition = definition;
        stops = stops;
      })

-- ** by the engine

module _ (may : Relations) (d e : Definition) (same : e ≡ d) (pool : List Seen) (engine new : Engine) (knows : Knows (world_of engine.world) pool) where
  -- a request has begun
  pub request_so_far : (asked : Option Kind) (r : Request) → MayBegin d (config.request r) (world_at pool (world_of engine.world)) → config_of e new ≡ beginning (world_of engine.world) (Handling r) → (so_far : Reply) → so_far ≡ nothing_yet
      → ComesOn (Ok (progress.UnderWay (record { left = None; so_far = so_far; asked = asked }))) may d (config.request r) (world_at pool (world_of engine.world)) [] pool (session_at d new phases.UnderWay)
  request_so_far asked r begins is so_far none =
      subst (λ (x : Reply). ComesOn (Ok (progress.UnderWay (record { left = None; so_far = x; asked = asked }))) may d (config.request r) (world_at pool (world_of engine.world)) [] pool (session_at d new phases.UnderWay)) (sym none) (record {
        definition = refl;
        under_way = refl;
        stops = refl;
        so_far = engine_handles d may pool (world_of engine.world) knows asked r new begins (subst (λ (x : Definition). config_of x new ≡ beginning (world_of engine.world) (Handling r)) same is);
      })

  -- the first source of a turn begins, if there is one
  module _ (event : Event) (w : World) (batch : List ℕ) (so_far : Reply) (asked : Option Kind) (none : so_far ≡ nothing_yet)
      (h : HasCome d may event w batch nothing_yet (world_at pool (world_of engine.world))) where
    pub sources_begin : (p : Progress) → IfHasEnded p (λ _. new ≡ engine) → BeginsNext p (record { left = Some batch; so_far = so_far; asked = asked }) (world_of engine.world) (config_of e new)
        → (phase : Phase) → phase ≡ phase_of p → ComesOn (Ok p) may d event w [] pool (session_at d new phase)
    sources_begin p still begins phase is =
        comes_so_far d may event w [] pool new p
        (engine_begins d may event w [] (record { left = Some batch; so_far = so_far; asked = asked }) pool engine new
        (subst (λ (x : Reply). HasCome d may event w batch x (world_at pool (world_of engine.world))) (sym none) h) knows p still
        (subst (λ (x : Definition). BeginsNext p (record { left = Some batch; so_far = so_far; asked = asked }) (world_of engine.world) (config_of x new)) same begins))
        phase is

-- ** an event that goes on

module _ (may : Relations) (d f : Definition) (same : f ≡ d) (pool : List Seen) where
  -- the engine may go on with it
  pub course_goes_on : (e : Engine) (phase : Phase) (course : Course) (s : SessionState) → session_at d e phase ≡ s → HasCourse may course pool s → GoesOn f may course (point_of f pool e)
  course_goes_on e phase course s view has =
      let here = subst (λ (x : SessionState). InCourse may x.definition has.event has.from has.front course pool x) (sym view) has.in_course in
      record {
        event = has.event;
        from = has.from;
        front = has.front;
        under_way = subst (λ (x : Definition). IsUnderWay x may has.event has.from has.front course (point_of x pool e)) (sym same) here.so_far;
      }

  module _ (left : List Seen) (e : Engine) (phase : Phase) (new : Engine) (event : Event) (w : World) (front : List (List ℕ)) (course : Course) (s : SessionState) (view : session_at d e phase ≡ s)
      (u : InCourse may s.definition event w front course pool s) where
    so_here : IsUnderWay f may event w front course (point_of f pool e)
    so_here =
        let here = subst (λ (x : SessionState). InCourse may x.definition event w front course pool x) (sym view) u in
        subst (λ (x : Definition). IsUnderWay x may event w front course (point_of x pool e)) (sym same) here.so_far

    proceeds_there : (r : Result Progress AllocError) → (IsUnderWay f may event w front course (point_of f pool e) → Proceeds r f may event w front (point_of f left new)) → Proceeds r d may event w front (point_of d left new)
    proceeds_there r proceeds = subst (λ (x : Definition). Proceeds r x may event w front (point_of x left new)) same (proceeds so_here)

    pub course_comes : (p : Progress) → (IsUnderWay f may event w front course (point_of f pool e) → Proceeds (Ok p) f may event w front (point_of f left new)) → (after : Phase) → after ≡ phase_of p
        → ComesOn (Ok p) may d event w front left (session_at d new after)
    course_comes p proceeds after is = comes_so_far d may event w front left new p (proceeds_there (Ok p) proceeds) after is

    pub course_stops : (fault : AllocError) → (IsUnderWay f may event w front course (point_of f pool e) → Proceeds (Err fault) f may event w front (point_of f left new))
        → ComesOn (Err faults.OutOfMemory) may d event w front left (session_at d new phases.Stopped)
    course_stops fault proceeds = comes_to_nothing d may event w front left new (proceeds_there (Err fault) proceeds)

-- ** turns, where the code names them otherwise

-- beside a pool
pub begins_beside : {d f : Definition} (moment : ℕ) (pool : List Seen) (w : World) (numbers : List ℕ) (now : World) → f ≡ d → TurnBegins f moment w numbers now → TurnBegins d moment (world_at pool w) numbers (world_at pool now)
begins_beside {d} {f} moment pool w numbers now same begins =
    let b = subst (λ (x : Definition). TurnBegins x moment w numbers now) same begins in
    record { ready = b.ready; world = ap (λ (v : World). world_at pool v) b.world; few = b.few }

-- ** where the code names it otherwise

pub comes_as : (may : Relations) (d : Definition) (course : Course) (pool left : List Seen) (mid new : SessionState) {x y : Progress} → x ≡ y
    → ((e : Event) (w : World) (front : List (List ℕ)) → InCourse may d e w front course pool mid → ComesOn (Ok x) may d e w front left new)
    → (e : Event) (w : World) (front : List (List ℕ)) → InCourse may d e w front course pool mid → ComesOn (Ok y) may d e w front left new
comes_as may d course pool left mid new same comes e w front so = subst (λ (p : Progress). ComesOn (Ok p) may d e w front left new) same (comes e w front so)

pub none_as : (counted : ℕ) {x : Progress} {course : Course} → x ≡ progress.UnderWay course → IfUnderWay {E = SessionFault} (Ok x) (λ c. c.so_far.steps + counted ≡ 0) → course.so_far.steps + counted ≡ 0
none_as counted same none = subst (λ (p : Progress). IfUnderWay {E = SessionFault} (Ok p) (λ c. c.so_far.steps + counted ≡ 0)) same none

pub made_as : (counted sum : ℕ) {x : Progress} {next : Course} → x ≡ progress.UnderWay next → IfUnderWay {E = SessionFault} (Ok x) (λ c. c.so_far.steps + counted ≡ sum) → next.so_far.steps + counted ≡ sum
made_as counted sum same made = subst (λ (p : Progress). IfUnderWay {E = SessionFault} (Ok p) (λ c. c.so_far.steps + counted ≡ sum)) same made

-- ** a whole event

module _ (may : Relations) (pool left : List Seen) (old : SessionState) (event : Event) where
  -- it was under way, in a session that had not stopped
  pub record WasBegun (stopped : Bool) (course : Course) (mid : SessionState) : Type 0 where
    pub goes_on : stopped ≡ false
    pub none : refusal old.world event ≡ None
    pub so : InCourse may old.definition event (world_at pool old.world) [] course pool mid

  pub was_begun : (stopped : Bool) (course : Course) (mid : SessionState) → BeginsEvent may stopped (Ok (progress.UnderWay course)) pool old event mid → WasBegun stopped course mid
  was_begun true course mid h = absurd (cc h.0)
  was_begun false course mid h = by (refusal old.world event) refl h
    where
      by : (why : Option Refusal) → refusal old.world event ≡ why → BeginsBy may why (Ok (progress.UnderWay course)) pool old event mid → WasBegun false course mid
      by (Some gone) is h = absurd (cc h.0)
      by (Some clock_back) is h = absurd (cc h.0)
      by None is h = record { goes_on = refl; none = is; so = h }

  pub answers_later : {stopped : Bool} → stopped ≡ false → refusal old.world event ≡ None → (result : _) (new : SessionState)
      → Comes result (serving may old.definition (world_at pool old.world) event) old.definition (state_at left new) → AnswersEvent may stopped result (state_at pool old) event (state_at left new)
  answers_later goes_on none result new comes =
      subst (λ (b : Bool). AnswersEvent may b result (state_at pool old) event (state_at left new)) (sym goes_on)
      (subst (λ (why : Option Refusal). AnswersBy may why result (state_at pool old) event (state_at left new)) (sym none) comes)

  -- what came of going on with it, as it began
  module _ (stopped : Bool) (course : Course) (mid new : SessionState) (begins : BeginsEvent may stopped (Ok (progress.UnderWay course)) pool old event mid) where
    pub comes_of : (result : Result Progress SessionFault)
        → ((e : Event) (w : World) (front : List (List ℕ)) → InCourse may mid.definition e w front course pool mid → ComesOn result may mid.definition e w front left new)
        → ComesOn result may old.definition event (world_at pool old.world) [] left new
    comes_of result comes =
        let b = was_begun stopped course mid begins in
        let so = subst (λ (d : Definition). InCourse may d event (world_at pool old.world) [] course pool mid) (sym b.so.definition) b.so in
        subst (λ (d : Definition). ComesOn result may d event (world_at pool old.world) [] left new) b.so.definition (comes event (world_at pool old.world) [] so)

    pub answers_reply : (reply : Reply)
        → ((e : Event) (w : World) (front : List (List ℕ)) → InCourse may mid.definition e w front course pool mid → ComesOn (Ok (progress.Ended reply)) may mid.definition e w front left new)
        → AnswersEvent may stopped (Ok reply) (state_at pool old) event (state_at left new)
    answers_reply reply comes = (let b = was_begun stopped course mid begins in answers_later b.goes_on b.none (Ok reply) new (comes_of (Ok (progress.Ended reply)) comes))

    pub answers_fault : (fault : SessionFault)
        → ((e : Event) (w : World) (front : List (List ℕ)) → InCourse may mid.definition e w front course pool mid → ComesOn (Err fault) may mid.definition e w front left new)
        → AnswersEvent may stopped (Err fault) (state_at pool old) event (state_at left new)
    answers_fault fault comes = (let b = was_begun stopped course mid begins in answers_later b.goes_on b.none (Err fault) new (comes_of (Err fault) comes))

    -- it has ended before so many steps
    pub has_ended : (next : Course)
        → ((e : Event) (w : World) (front : List (List ℕ)) → InCourse may mid.definition e w front course pool mid → ComesOn (Ok (progress.UnderWay next)) may mid.definition e w front left new)
        → course.so_far.steps + mid.counted ≡ 0 → next.so_far.steps + new.counted ≡ course.so_far.steps + mid.counted + 18446744073709551615 → ⊥
    has_ended next comes none made =
        let u = (comes_of (Ok (progress.UnderWay next)) comes).so_far in
        absurd (omega (arith, none, made, u.dispatches, u.steps, u.counted))
