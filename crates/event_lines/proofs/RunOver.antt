-- What the lines of an event file come to is a run of the machine.
use Rattle.std.proofs.Common.{◌≡◌, ℕ, ◌+◌, true, List, [], ◌∷◌, ◌++◌, Result, Ok, Err, refl, sym, ap, subst, ◌∙◌, append_assoc, append-nil, inl, inr}
use Rattle.std.specs.Prelude.{◌⊎◌}
use Rattle.ui_machine.specs.Definition.{Definition}
use Rattle.ui_machine.specs.State.Tasks.{Event}
use Rattle.ui_machine.specs.State.Config.{World}
use Rattle.ui_machine.specs.State.Peers.{Peer, Reply}
use Rattle.ui_machine.specs.Runs.{Tally, no_dispatch, tallied, Comes, Serves, ServesAll}
use Rattle.machine_laws.specs.FrontLaws.{fronted}
use Rattle.machine_laws.proofs.FrontRuns.{event_appends}
use Rattle.builder_defs.specs.Denoted.{denoted}
use Rattle.builder_defs.specs.EventMeaning.{EventRefusal, event_denoted}
use Rattle.law_typing.specs.Verdict.Accepted.{Each}
use Rattle.law_typing.proofs.Lists.{each_append}
use Rattle.law_steps.specs.Served.Sessions.{EventRead}
use Rattle.law_steps.proofs.Served.SessionProofs.{never_stuck}
use Rattle.law_reading.proofs.Whole.{events_read, well_read}
use Rattle.native_peers.specs.Seen.{Relations}
use Rattle.engine_dispatches.specs.PoolView.{GivenBy, Replied}
use Rattle.engine_dispatches.specs.Ways.{CutOff}
use Rattle.ui_engine.specs.SessionView.{SessionState, without_lines}
use Rattle.event_lines.specs.EventFileRun as file_run
use Rattle.event_lines.specs.EventFileRun.{Outcome, said, refused, cut_off, stopped, LineSort, too_many, too_long, skipped, sort_of_line, ends, Meets, LineComesTo, LinesComeTo}
use Rattle.event_lines.specs.Events.{event_replies}
use Rattle.event_lines.specs.RunOver.{event_of_line, event_served, events_served, said_of, said_in, BreaksOffNext, RunsOver}
use Rattle.event_lines.specs.Opening.{IsBuilt, IsTaken}
use Rattle.event_lines.proofs.Fronts.{cut_appends}

-- what some lines came to from a world: these events were served, and perhaps one more halted; and what was said of them
pub record Served (d : Definition) (may : Relations) (w : World) (events : List Event) (lines : List (List ℕ)) (new : World) : Type 0 where
  pub replies : List Reply
  pub given : Each (GivenBy may) replies
  pub tally : Tally
  pub last : World
  pub serves : ServesAll d events replies w tally last
  pub front : List (List ℕ)
  pub after : (last ≡ fronted front new) ⊎ BreaksOffNext d may last (fronted front new)
  pub shows : front ++ new.transcript ≡ w.transcript ++ lines

-- what one line came to: no event that was served, or one; and whether the session goes on
pub data Line (d : Definition) (may : Relations) (old : World) (events : List Event) (mid : World) (outcome : Outcome) : Type 0 where
  no_event : events ≡ [] → mid ≡ old → Line d may old events mid outcome
  one_event : (event : Event) (tally : Tally) → events ≡ event ∷ [] → Replied may (λ replies. Serves d event replies old tally mid) → Line d may old events mid outcome
  halting : events ≡ [] → BreaksOffNext d may old mid → ends outcome ≡ true → Line d may old events mid outcome

-- a line's world, what was said of it, and that its session runs the definition
pub record Lined (d : Definition) (may : Relations) (old : SessionState) (n : ℕ) (line : List ℕ) (outcome : Outcome) (mid : SessionState) : Type 0 where
  pub came : Line d may old.world (event_served d n line outcome) mid.world outcome
  pub says : mid.world.transcript ≡ old.world.transcript ++ said_of outcome
  pub definition : mid.definition ≡ d

-- a world without its lines
abbrev emptied : World → World
emptied w = record w { transcript = [] }

-- a world with lines in front is the one without its own, with all of them in front
all_in_front : (front : List (List ℕ)) (w : World) → fronted (front ++ w.transcript) (emptied w) ≡ fronted front w
all_in_front front w = ap (λ (lines : List (List ℕ)). record w { transcript = lines }) (append-nil (front ++ w.transcript))

module _ (d : Definition) (may : Relations) where
  untouched : (old mid : SessionState) (n : ℕ) (line : List ℕ) (outcome : Outcome) → old.definition ≡ d → event_served d n line outcome ≡ [] → said_of outcome ≡ []
      → mid ≡ old → Lined d may old n line outcome mid
  untouched old mid n line outcome is none silent same = record {
    came = no_event none (ap (λ (s : SessionState). s.world) same);
    says = ap (λ (s : SessionState). s.world.transcript) same ∙ sym (append-nil old.world.transcript) ∙ ap (λ lines. old.world.transcript ++ lines) (sym silent);
    definition = ap (λ (s : SessionState). s.definition) same ∙ is;
  }

  -- what a line of the session's came to
  replied : (old mid : SessionState) (n : ℕ) (line : List ℕ) (outcome : Outcome) → old.definition ≡ d → sort_of_line n line ≡ file_run.event → event_replies may old line outcome mid → Lined d may old n line outcome mid
  replied old mid n line (said lines) is event says = record {
    came = one_event says.event says.tally
        (ap (λ f. event_of_line f (event_denoted d line)) event ∙ ap (event_of_line file_run.event) (subst (λ (e : Definition). event_denoted e line ≡ Ok says.event) is says.denotes))
        (subst (λ (e : Definition). Replied may (λ replies. Serves e says.event replies old.world says.tally mid.world)) is says.serves);
    says = says.shows;
    definition = says.definition ∙ is;
  }
  replied old mid n line (refused r) is event (inl denied, same) =
      let none : event_served d n line (refused r) ≡ [] =
      ap (λ f. event_of_line f (event_denoted d line)) event
      ∙ ap (event_of_line file_run.event) (subst (λ (e : Definition). event_denoted e line ≡ Err denied.0.refusal) is denied.0.denotes) in
      untouched old mid n line (refused r) is none refl same
  replied old mid n line (refused r) is event (inr named, same) = record {
    came = one_event named.0.event no_dispatch
        (ap (λ f. event_of_line f (event_denoted d line)) event ∙ ap (event_of_line file_run.event) (subst (λ (e : Definition). event_denoted e line ≡ Ok named.0.event) is named.0.denotes))
        (record {
          replies = [];
          given = tt;
          so = subst (λ why. Comes d named.0.event why [] old.world no_dispatch mid.world) (sym named.0.refuses) (record { replied = refl; counts = refl; same = sym (ap (λ (s : SessionState). s.world) same) });
        });
    says = ap (λ (s : SessionState). s.world.transcript) same ∙ sym (append-nil old.world.transcript);
    definition = ap (λ (s : SessionState). s.definition) same ∙ is;
  }
  replied old mid n line (cut_off r) is event never = absurd never
  replied old mid n line (stopped lines) is event (inl h) = record {
    came = halting refl (record { event = h.event; breaks_off = subst (λ (e : Definition). Replied may (λ replies. CutOff e may h.event replies old.world mid.world.peers mid.world.transcript)) is h.breaks_off }) refl;
    says = h.shows;
    definition = h.definition ∙ is;
  }
  replied old mid n line (stopped lines) is event (inr wants) = untouched old mid n line (stopped lines) is refl wants.0 wants.1

  unserved : (n : ℕ) (line : List ℕ) (outcome found : Outcome) → outcome ≡ found → event_served d n line found ≡ [] → event_served d n line outcome ≡ []
  unserved n line outcome found same none = ap (event_served d n line) same ∙ none

  met : (old mid : SessionState) (n : ℕ) (line : List ℕ) (outcome : Outcome) → old.definition ≡ d → (f : LineSort) → sort_of_line n line ≡ f → Meets (event_replies may) f old line outcome mid → Lined d may old n line outcome mid
  met old mid n line outcome is too_many f m = untouched old mid n line outcome is (unserved n line outcome _ m.0 refl) (ap said_of m.0) m.1
  met old mid n line outcome is too_long f m = untouched old mid n line outcome is (unserved n line outcome _ m.0 refl) (ap said_of m.0) m.1
  met old mid n line outcome is skipped f m = untouched old mid n line outcome is (unserved n line outcome _ m.0 (ap (λ found. event_of_line found (event_denoted d line)) f)) (ap said_of m.0) m.1
  met old mid n line outcome is file_run.event f m = replied old mid n line outcome is f m

  told : (old mid : SessionState) (n : ℕ) (line : List ℕ) (outcome : Outcome) → old.definition ≡ d → LineComesTo (event_replies may) old n line outcome mid → Lined d may old n line outcome mid
  told old mid n line outcome is (inl m) = met old mid n line outcome is (sort_of_line n line) refl m
  told old mid n line outcome is (inr wants) = untouched old mid n line outcome is (unserved n line outcome _ wants.0 refl) (ap said_of wants.0) wants.1

  -- what a line came to is the same behind what was said before
  behind : (front : List (List ℕ)) (w mid : World) (events : List Event) (outcome : Outcome) → Line d may w events mid outcome → Line d may (fronted front w) events (fronted front mid) outcome
  behind front w mid events outcome (no_event none same) = no_event none (ap (fronted front) same)
  behind front w mid events outcome (one_event event tally one serves) =
      one_event event tally one (record { replies = serves.replies; given = serves.given; so = event_appends d event front serves.replies w tally mid serves.so })
  behind front w mid events outcome (halting none h ending) =
      halting none (record { event = h.event; breaks_off = record { replies = h.breaks_off.replies; given = h.breaks_off.given; so = cut_appends front d may h.breaks_off.so } }) ending

  -- one line, and what the others came to after it; all was said so far
  on : (w mid new : World) (first later : List Event) (lines more : List (List ℕ)) (outcome : Outcome) → Line d may w first mid outcome → mid.transcript ≡ w.transcript ++ lines
      → (ends outcome ≡ true → (later ≡ []) × (more ≡ []) × (front : List (List ℕ)) × (fronted front new ≡ mid)) → Served d may mid later more new → Served d may w (first ++ later) (lines ++ more) new
  on w mid new first later lines more outcome line says over s = by line
    where
      shows : s.front ++ new.transcript ≡ w.transcript ++ (lines ++ more)
      shows = s.shows ∙ ap (λ all. all ++ more) says ∙ append_assoc w.transcript lines more

      by : Line d may w first mid outcome → Served d may w (first ++ later) (lines ++ more) new
      by (no_event none same) =
          subst (λ (events : List Event). Served d may w (events ++ later) (lines ++ more) new) (sym none) (record {
            replies = s.replies;
            given = s.given;
            tally = s.tally;
            last = s.last;
            serves = subst (λ (from : World). ServesAll d later s.replies from s.tally s.last) same s.serves;
            front = s.front;
            after = s.after;
            shows = shows;
          })
      by (one_event event tally one serves) =
          subst (λ (events : List Event). Served d may w (events ++ later) (lines ++ more) new) (sym one) (record {
            replies = serves.replies ++ s.replies;
            given = each_append (GivenBy may) serves.replies s.replies serves.given s.given;
            tally = tallied tally s.tally;
            last = s.last;
            serves = record { first = serves.replies; later = s.replies; mid = mid; first_tally = tally; later_tally = s.tally; replied = refl; counts = refl; begins = serves.so; goes_on = s.serves };
            front = s.front;
            after = s.after;
            shows = shows;
          })
      by (halting none h ending) =
          let last = over ending in
          let none_said = ap (λ (w' : World). w'.transcript) last.3 ∙ says ∙ ap (λ rest. w.transcript ++ rest) (sym (append-nil lines) ∙ ap (λ rest. lines ++ rest) (sym last.1)) in
          subst (λ (events : List Event). Served d may w (events ++ later) (lines ++ more) new) (sym none)
          (subst (λ (events : List Event). Served d may w events (lines ++ more) new) (sym last.0) (record {
            replies = [];
            given = tt;
            tally = no_dispatch;
            last = w;
            serves = record { replied = refl; counts = refl; same = refl };
            front = last.2;
            after = inr (subst (BreaksOffNext d may w) (sym last.3) h);
            shows = none_said;
          }))

  -- after an end nothing comes
  over : (outcomes : List Outcome) (n : ℕ) (lines : List (List ℕ)) (front : List (List ℕ)) (mid new : SessionState) → outcomes ≡ [] → LinesComeTo (event_replies may) without_lines (without_lines mid) n lines outcomes new
      → (events_served d n lines outcomes ≡ []) × (said_in outcomes ≡ []) × (given_up : List (List ℕ)) × (fronted given_up new.world ≡ fronted front mid.world)
  over [] n lines front mid new none come =
      (refl, refl, front ++ mid.world.transcript, ap (λ (s : SessionState). fronted (front ++ mid.world.transcript) s.world) come ∙ all_in_front front mid.world)
  over (outcome ∷ outcomes) n lines front mid new none come = cc none

  served : (outcomes : List Outcome) (n : ℕ) (lines : List (List ℕ)) (front : List (List ℕ)) (old new : SessionState) → old.definition ≡ d → LinesComeTo (event_replies may) without_lines old n lines outcomes new
      → Served d may (fronted front old.world) (events_served d n lines outcomes) (said_in outcomes) new.world
  served [] n lines front old new is come =
      subst (λ (w : World). Served d may (fronted front old.world) [] [] w) (ap (λ (s : SessionState). s.world) (sym come)) (record {
        replies = [];
        given = tt;
        tally = no_dispatch;
        last = fronted front old.world;
        serves = record { replied = refl; counts = refl; same = refl };
        front = front;
        after = inl refl;
        shows = sym (append-nil (front ++ old.world.transcript));
      })
  served (outcome ∷ outcomes) n [] front old new is come = absurd come
  served (outcome ∷ outcomes) n (line ∷ lines) front old new is come =
      let mid = come.0 in
      let one = told old mid n line outcome is come.1 in
      on (fronted front old.world) (fronted front mid.world) new.world (event_served d n line outcome) (events_served d (n + 1) lines outcomes) (said_of outcome) (said_in outcomes) outcome
      (behind front old.world mid.world (event_served d n line outcome) outcome one.came)
      (ap (λ all. front ++ all) one.says ∙ sym (append_assoc front old.world.transcript (said_of outcome)))
      (λ ending. over outcomes (n + 1) lines front mid new (come.2 ending) come.3)
      (subst (λ (w : World). Served d may w (events_served d (n + 1) lines outcomes) (said_in outcomes) new.world) (all_in_front front mid.world)
      (served outcomes (n + 1) lines (front ++ mid.world.transcript) (without_lines mid) new one.definition come.3))

-- the events that lines come to are such as the laws of runs take
module _ (bytes : List ℕ) (d : Definition) (denotes : denoted bytes ≡ Ok d) where
  read_one : (sort : LineSort) (line : List ℕ) (found : Result Event EventRefusal) → event_denoted d line ≡ found → Each (EventRead d) (event_of_line sort found)
  read_one too_many line found is = tt
  read_one too_long line found is = tt
  read_one skipped line found is = tt
  read_one file_run.event line (Ok event) is = (events_read bytes d denotes line event is, tt)
  read_one file_run.event line (Err refusal) is = tt

  read_at : (n : ℕ) (line : List ℕ) (outcome : Outcome) → Each (EventRead d) (event_served d n line outcome)
  read_at n line (said lines) = read_one (sort_of_line n line) line (event_denoted d line) refl
  read_at n line (refused r) = read_one (sort_of_line n line) line (event_denoted d line) refl
  read_at n line (cut_off r) = tt
  read_at n line (stopped lines) = tt

  all_read : (n : ℕ) (lines : List (List ℕ)) (outcomes : List Outcome) → Each (EventRead d) (events_served d n lines outcomes)
  all_read n lines [] = tt
  all_read n [] (outcome ∷ outcomes) = tt
  all_read n (line ∷ lines) (outcome ∷ outcomes) =
      each_append (EventRead d) (event_served d n line outcome) (events_served d (n + 1) lines outcomes) (read_at n line outcome) (all_read (n + 1) lines outcomes)

-- the build and the lines of the events are a run of the machine, each dispatch of which keeps what is promised
pub runs_over : (may : Relations) (peers : List Peer) (s : SessionState) (lines : List (List ℕ)) (outcomes : List Outcome) (new : SessionState) (bytes : List ℕ) → IsTaken bytes s.definition peers → IsBuilt may peers s
    → LinesComeTo (event_replies may) without_lines (without_lines s) 1 lines outcomes new → RunsOver may s peers lines outcomes new
runs_over may peers s lines outcomes new bytes taken built come =
    let events = subst (λ (w : World). Served s.definition may w (events_served s.definition 1 lines outcomes) (said_in outcomes) new.world) (all_in_front [] s.world)
    (served s.definition may outcomes 1 lines s.world.transcript (without_lines s) new refl come) in
    let built_by = built.carries in
    record {
      replies = built_by.replies ++ events.replies;
      given = each_append (GivenBy may) built_by.replies events.replies built_by.given events.given;
      tally = tallied built.tally events.tally;
      last = events.last;
      run = record {
        first = built_by.replies;
        later = events.replies;
        mid = s.world;
        first_tally = built.tally;
        later_tally = events.tally;
        replied = refl;
        counts = refl;
        begins = built_by.so;
        goes_on = events.serves;
      };
      accepted = taken.accepted;
      keeps = λ x.
          never_stuck s.definition (well_read bytes s.definition taken.denoted) taken.accepted peers taken.ready (events_served s.definition 1 lines outcomes)
          (all_read bytes s.definition taken.denoted 1 lines outcomes) x;
      front = events.front;
      after = events.after;
      shows = events.shows;
    }
