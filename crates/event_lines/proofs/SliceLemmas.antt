-- How the lines of an event come to be said, slice by slice.
use Rattle.std.proofs.Common.{◌≡◌, ◌<◌, ◌+◌, ◌-◌, ℕ, List, [], ◌∷◌, ◌++◌, drop, length, map, take, refl, ap, sym, subst, ◌∙◌, Result, Ok, Err, inl, append_assoc, append-nil, arith}
use Rattle.std.proofs.lemmas.List.{drop-map, take-append-drop, take_rest}
use Rattle.std.proofs.lemmas.List.Concat.{flat_map-append}
use Rattle.std.specs.Prelude.{IfOk, codes}
use Rattle.ui_machine.specs.Definition.{Definition}
use Rattle.ui_machine.specs.Prefix.{IsPrefix}
use Rattle.ui_machine.specs.State.Config.{World}
use Rattle.ui_machine.specs.State.Tasks.{Event}
use Rattle.native_peers.specs.Seen.{Relations, SameRelations, Seen}
use Rattle.engine_dispatches.specs.declared.courses.Course.{Course}
use Rattle.engine_dispatches.specs.declared.courses.Progress.{Progress}
use Rattle.engine_dispatches.specs.declared.courses.Progress.TheVariants as progress
use Rattle.engine_dispatches.specs.declared.dispatches.Reply.{Reply}
use Rattle.engine_dispatches.specs.Courses.{IfUnderWay}
use Rattle.engine_dispatches.specs.PoolView.{with_seen, world_at}
use Rattle.engine_dispatches.specs.Ways.{serving, tally_of}
use Rattle.engine_dispatches.proofs.Points.{cut_off}
use Rattle.engine_dispatches.proofs.UnderWay.{same_back, under_way_breaks}
use Rattle.ui_engine.specs.declared.faults.SessionFault.{SessionFault}
use Rattle.ui_engine.specs.declared.faults.SessionFault.TheVariants as faults
use Rattle.ui_engine.specs.SessionView.{Comes, ComesOn, HasCourse, InCourse, SessionState, point_in, state_at, with_front, without_lines}
use Rattle.ui_engine.proofs.Slices.{comes_before, comes_forgotten, course_before}
use Rattle.builder_defs.specs.EventMeaning.{event_denoted}
use Rattle.event_lines.specs.EventFileRun as file_run
use Rattle.event_lines.specs.EventFileRun.{Meets, sort_of_line}
use Rattle.event_lines.specs.Events.{event_replies}
use Rattle.event_lines.specs.LineOutcome.{outcome_with}
use Rattle.event_lines.specs.Reading.{IsOf}
use Rattle.event_lines.specs.Slices.{Follows, SoFar, most_left, outcome_after}
use Rattle.event_lines.specs.Telling.{Tells}
use Rattle.event_lines.specs.Texts.{joined, lines_text, stopped_line}
use Rattle.event_lines.specs.Writing.{Passes, Puts, Sent, Tears}
use Rattle.event_lines.specs.declared.line_outcome.LineOutcome.{LineOutcome}
use Rattle.event_lines.specs.declared.line_outcome.LineOutcome.TheVariants as outcomes
use Rattle.event_lines.specs.declared.line_reader.Found.{Found}
use Rattle.event_lines.proofs.Pieces.{passes_start, passes_then, puts_after, tears_early, tears_then}

-- ** texts

pub kept_behind : {X : Type 0} (f : X → List ℕ) (xs : List X) (known : ℕ) (lines : List (List ℕ)) → map f xs ≡ lines → map f (take (length xs - known) (drop known xs)) ≡ drop known lines
kept_behind f xs known lines is = ap (map f) (take_rest xs known) ∙ sym (drop-map f known xs) ∙ ap (drop known) is

pub more_lines : (xs ys : List (List ℕ)) → lines_text (xs ++ ys) ≡ lines_text xs ++ lines_text ys
more_lines xs ys = flat_map-append (λ line. joined (line ∷ codes "\n" ∷ [])) xs ys

-- ** what has come so far

-- an event that is under way may break off where it is, as it does where no memory is found
broken_off : (may : Relations) (d : Definition) (event : Event) (w : World) (front : List (List ℕ)) (course : Course) (pool : List Seen) (s : SessionState)
    → InCourse may d event w front course pool s → Comes (Err faults.OutOfMemory) (serving may d w event) d (with_front front (state_at pool s))
broken_off may d event w front course pool s so = record {
  breaks_off =
      under_way_breaks d may event w front course (point_in pool s) so.so_far (with_seen pool s.world.peers) s.world.transcript
      (cut_off d may (point_in pool s) pool s.world refl (refl, refl));
  definition = so.definition;
  stops = so.stops;
}

module _ (may : Relations) (d : Definition) (event : Event) (w : World) (before : List (List ℕ)) (a : Sent) (p : List ℕ) where
  abbrev Far : Progress → ℕ → Sent → List ℕ → List Seen → SessionState → Type 0
  Far so_far known b q pool s = SoFar so_far may d event w before known a p b q pool s

  -- nothing is said yet
  pub far_begins : (so_far : Progress) (known : ℕ) (pool : List Seen) (s : SessionState) → before ≡ take known s.world.transcript → ComesOn (Ok so_far) may d event w [] pool s → Far so_far known a p pool s
  far_begins so_far known pool s is comes = record {
    front = [];
    lines = [];
    comes = comes;
    whole = sym (ap (λ (ls : List (List ℕ)). ls ++ drop known s.world.transcript) (append-nil before ∙ is) ∙ take-append-drop known s.world.transcript);
    said = passes_start a p;
  }

  -- all that came by then is what was said before, and what is kept
  all_shown : (so_far : Progress) (known : ℕ) (b : Sent) (q : List ℕ) (pool : List Seen) (s : SessionState) (f : Far so_far known b q pool s)
      → f.front ++ s.world.transcript ≡ before ++ (f.lines ++ drop known s.world.transcript)
  all_shown so_far known b q pool s f = f.whole ∙ append_assoc before f.lines (drop known s.world.transcript)

  -- what is kept is said and forgotten
  pub far_said : (so_far : Progress) (known : ℕ) (b c : Sent) (q t : List ℕ) (pool : List Seen) (s new : SessionState) → Far so_far known b q pool s
      → Passes b q c t (lines_text (drop known s.world.transcript)) → new ≡ without_lines s → Far so_far 0 c t pool new
  far_said so_far known b c q t pool s new f more is =
      subst (λ (x : SessionState). Far so_far 0 c t pool x) (sym is) (record {
        front = f.front ++ s.world.transcript;
        lines = f.lines ++ drop known s.world.transcript;
        comes = comes_forgotten may d event w f.front pool s so_far f.comes;
        whole =
            append-nil (f.front ++ s.world.transcript) ∙ all_shown so_far known b q pool s f
            ∙ sym (append-nil (before ++ (f.lines ++ drop known s.world.transcript)));
        said =
            subst (λ (text : List ℕ). Passes a p c t text) (sym (more_lines f.lines (drop known s.world.transcript)))
            (passes_then f.said more);
      })

  -- the writer failed: an event that has not ended breaks off
  pub far_torn : {E : Type 0} (so_far : Progress) (known : ℕ) (b c : Sent) (q t : List ℕ) (pool : List Seen) (s new : SessionState) (number : ℕ) (e : E) → Far so_far known b q pool s
      → Tears b q c (lines_text (drop known s.world.transcript)) → new ≡ without_lines s → Follows {E = E} may d event w before number (Err e) a p c t pool new
  far_torn {E} (progress.Ended reply) known b c q t pool s new number e f torn is = record {
    came = Ok reply;
    lines = f.lines ++ drop known s.world.transcript;
    mid = with_front f.front (state_at pool s);
    comes = f.comes;
    shows = all_shown (progress.Ended reply) known b q pool s f;
    forgets = ap (state_at pool) is;
    is = tt;
    puts = subst (λ (text : List ℕ). Tears a p c text) (sym (more_lines f.lines (drop known s.world.transcript))) (tears_then f.said torn);
  }
  far_torn {E} (progress.UnderWay course) known b c q t pool s new number e f torn is = record {
    came = Err faults.OutOfMemory;
    lines = f.lines ++ drop known s.world.transcript;
    mid = with_front f.front (state_at pool s);
    comes = broken_off may d event w f.front course pool s f.comes;
    shows = all_shown (progress.UnderWay course) known b q pool s f;
    forgets = ap (state_at pool) is;
    is = tt;
    puts = tears_early (stopped_line number) (subst (λ (text : List ℕ). Tears a p c text) (sym (more_lines f.lines (drop known s.world.transcript))) (tears_then f.said torn));
  }

  pub far_as : {x y : Progress} (known : ℕ) (b : Sent) (q : List ℕ) (pool : List Seen) (s : SessionState) → x ≡ y → Far x known b q pool s → Far y known b q pool s
  far_as known b q pool s same f = subst (λ (z : Progress). Far z known b q pool s) same f

  -- by relations that are the same now
  module _ (later : Relations) (same : SameRelations may later) (course : Course) (b : Sent) (q : List ℕ) (pool : List Seen) (s : SessionState) (f : Far (progress.UnderWay course) 0 b q pool s) where
    course_now : InCourse later s.definition event w f.front course pool s
    course_now =
        let so : InCourse may d event w f.front course pool s = f.comes in
        subst (λ (x : Definition). InCourse later x event w f.front course pool s) (sym so.definition) (course_before (same_back same) d event w f.front pool s course so)

    -- the session may go on with it
    pub has_course : HasCourse later course pool s
    has_course = record { event = event; from = w; front = f.front; in_course = course_now }

    -- and so it does
    pub comes_to : (left : List Seen) (new : SessionState) (r : Result Progress SessionFault)
        → ((e : Event) (v : World) (front : List (List ℕ)) → InCourse later s.definition e v front course pool s → ComesOn r later s.definition e v front left new) → ComesOn r may d event w f.front left new
    comes_to left new r comes =
        let so : InCourse may d event w f.front course pool s = f.comes in
        comes_before same d event w f.front left new r (subst (λ (x : Definition). ComesOn r later x event w f.front left new) so.definition (comes event w f.front course_now))

    -- with fewer steps left
    pub fewer_steps : (left : List Seen) (new : SessionState) (next : Progress) → ComesOn (Ok next) may d event w f.front left new
        → IfUnderWay {E = SessionFault} (Ok next) (λ n. n.so_far.steps + new.counted ≡ course.so_far.steps + s.counted + 64) → most_left next new.counted < most_left (progress.UnderWay course) s.counted
    fewer_steps left new (progress.UnderWay n) so made =
        let was : InCourse may d event w f.front course pool s = f.comes in
        let u = was.so_far in
        let v = so.so_far in
        omega (arith, made, u.dispatches, u.steps, u.counted, v.dispatches, v.steps, v.counted)
    fewer_steps left new (progress.Ended reply) ends made =
        let was : InCourse may d event w f.front course pool s = f.comes in
        let u = was.so_far in
        omega (arith, u.dispatches, u.steps, u.counted)

  module _ (b : Sent) (q : List ℕ) (pool : List Seen) (s : SessionState) (empty : s.world.transcript ≡ []) where
    -- all that came before is said
    all_said : (so_far : Progress) (f : Far so_far 0 b q pool s) → f.front ≡ before ++ f.lines
    all_said so_far f =
        sym (append-nil f.front) ∙ ap (λ (ls : List (List ℕ)). f.front ++ ls) (sym empty) ∙ f.whole
        ∙ ap (λ (ls : List (List ℕ)). (before ++ f.lines) ++ ls) empty ∙ append-nil (before ++ f.lines)

    -- it goes on
    pub far_on : (so_far next : Progress) (left : List Seen) (new : SessionState) (f : Far so_far 0 b q pool s) → ComesOn (Ok next) may d event w f.front left new → Far next 0 b q left new
    far_on so_far next left new f comes = record {
      front = f.front;
      lines = f.lines;
      comes = comes;
      whole = ap (λ (ls : List (List ℕ)). ls ++ new.world.transcript) (all_said so_far f);
      said = f.said;
    }

    -- it has ended
    pub far_ended : {E : Type 0} (reply : Reply) (number : ℕ) → Far (progress.Ended reply) 0 b q pool s → Follows {E = E} may d event w before number (Ok outcomes.Said) a p b q pool s
    far_ended reply number f = record {
      came = Ok reply;
      lines = f.lines;
      mid = with_front f.front (state_at pool s);
      comes = f.comes;
      shows = ap (λ (ls : List (List ℕ)). ls ++ s.world.transcript) (all_said (progress.Ended reply) f) ∙ ap (λ (ls : List (List ℕ)). (before ++ f.lines) ++ ls) empty ∙ append-nil (before ++ f.lines);
      forgets = ap (λ (ls : List (List ℕ)). record (state_at pool s) { world = record (state_at pool s).world { transcript = ls } }) empty;
      is = refl;
      puts = f.said;
    }

    -- no memory is found
    pub far_stopped : {E : Type 0} (so_far : Progress) (fault : SessionFault) (number : ℕ) (r : Result LineOutcome E) (left : List Seen) (new last : SessionState) (c : Sent) (t : List ℕ) (f : Far so_far 0 b q pool s)
        → ComesOn (Err fault) may d event w f.front left new → Puts r b q c t (lines_text new.world.transcript ++ stopped_line number) → last ≡ without_lines new
        → IfOk r (λ outcome. outcome ≡ outcomes.Stopped) → Follows may d event w before number r a p c t left last
    far_stopped {E} so_far fault number r left new last c t f comes more forgets is = record {
      came = Err fault;
      lines = f.lines ++ new.world.transcript;
      mid = with_front f.front (state_at left new);
      comes = comes;
      shows = ap (λ (ls : List (List ℕ)). ls ++ new.world.transcript) (all_said so_far f) ∙ append_assoc before f.lines new.world.transcript;
      forgets = ap (state_at left) forgets;
      is = stopped_so r (f.lines ++ new.world.transcript) is;
      puts =
          subst (λ (text : List ℕ). Puts r a p c t text)
          (sym (append_assoc (lines_text f.lines) (lines_text new.world.transcript) (stopped_line number)) ∙ ap (λ (text : List ℕ). text ++ stopped_line number) (sym (more_lines f.lines new.world.transcript)))
          (puts_after r a b c p q t (lines_text f.lines) (lines_text new.world.transcript ++ stopped_line number) f.said more);
    }
      where
        stopped_so : (r : Result LineOutcome E) (lines : List (List ℕ)) → IfOk r (λ outcome. outcome ≡ outcomes.Stopped) → IfOk r (λ outcome. outcome_after (Err fault) lines ≡ outcome_with outcome lines)
        stopped_so (Ok outcome) lines is = subst (λ (o : LineOutcome). outcome_after (Err fault) lines ≡ outcome_with o lines) (sym is) refl
        stopped_so (Err e) lines is = tt

-- ** what a line comes to

pub begun_definition : (may : Relations) (d : Definition) (event : Event) (w : World) (front : List (List ℕ)) (pool : List Seen) (s : SessionState) (p : Progress) → ComesOn (Ok p) may d event w front pool s → s.definition ≡ d
begun_definition may d event w front pool s (progress.UnderWay course) so = so.definition
begun_definition may d event w front pool s (progress.Ended reply) ends = ends.definition

pub take_front : (xs ys : List (List ℕ)) → IsPrefix xs ys → take (length xs) ys ≡ xs
take_front xs ys longer = ap (take (length xs)) longer.whole ∙ taken xs longer.more
  where
    taken : (zs more : List (List ℕ)) → take (length zs) (zs ++ more) ≡ zs
    taken [] more = refl
    taken (z ∷ zs) more = ap (λ (ls : List (List ℕ)). z ∷ ls) (taken zs more)

-- its event was gone on with
module _ {E : Type 0} (may : Relations) (pool : List Seen) (old : SessionState) (line : List ℕ) (event : Event) (denotes : event_denoted old.definition line ≡ Ok event) (number : ℕ) (result : Result LineOutcome E) (a : Sent) (p : List ℕ) (b : Sent) (q : List ℕ)
    (left : List Seen) (new : SessionState) where
  pub followed : (f : Follows may old.definition event (world_at pool old.world) old.world.transcript number result a p b q left new) → event_replies may (state_at pool old) line (outcome_after f.came f.lines) f.mid
  followed f = by f.came f.comes
    where
      by : (came : Result Reply SessionFault) → Comes came (serving may old.definition (world_at pool old.world) event) old.definition f.mid → event_replies may (state_at pool old) line (outcome_after came f.lines) f.mid
      by (Ok reply) ends = record {
        event = event;
        tally = tally_of reply;
        denotes = denotes;
        serves = ends.leads;
        shows = f.shows;
        definition = ends.definition;
        goes_on = ends.goes_on;
      }
      by (Err faults.OutOfMemory) breaks = inl (record { event = event; denotes = denotes; breaks_off = breaks.breaks_off; shows = f.shows; definition = breaks.definition; stops = breaks.stops })
      by (Err faults.Stopped) never = absurd never
      by (Err faults.ClockBack) never = absurd never
      by (Err faults.Released) never = absurd never

  -- so the line has come to this, and was said
  pub tells : (found : Found) (buffer : List ℕ) → line ≡ buffer → ((l : List ℕ) → IsOf found buffer l → (sort_of_line number l ≡ file_run.event) × (l ≡ buffer))
      → Follows may old.definition event (world_at pool old.world) old.world.transcript number result a p b q left new → Tells may (state_at pool old) number found buffer result a p b q (state_at left new)
  tells found buffer same starts f = record {
    outcome = outcome_after f.came f.lines;
    mid = f.mid;
    comes = λ l is.
        let st = starts l is in
        inl (subst (λ sort. Meets (event_replies may) sort (state_at pool old) l (outcome_after f.came f.lines) f.mid) (sym st.0)
        (subst (λ (x : List ℕ). event_replies may (state_at pool old) x (outcome_after f.came f.lines) f.mid) (same ∙ sym st.1) (followed f)));
    forgets = f.forgets;
    is = is_so result f.is;
    puts = f.puts;
  }
    where
      is_so : (r : Result LineOutcome E) → IfOk r (λ outcome. outcome_after f.came f.lines ≡ outcome_with outcome f.lines) → IfOk r (λ o. (said : List (List ℕ)) × (outcome_after f.came f.lines ≡ outcome_with o said))
      is_so (Ok outcome) is = (f.lines, is)
      is_so (Err e) is = tt
