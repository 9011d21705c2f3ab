-- Runs with peers that may do the same: what is a run of the one is a run of the other.
use Rattle.std.proofs.Common.{◌≡◌, ◌⊎◌, inl, inr, ℕ, ◌+◌, Bool, List, [], ◌∷◌, Option}
use Rattle.ui_machine.specs.declared.arm.Halt.TheVariants as halts
use Rattle.ui_machine.specs.Definition.{Definition}
use Rattle.ui_machine.specs.Runs.{HaltsIn, at_a_source, at_its_beginning}
use Rattle.ui_machine.specs.State.Config.{Config, World}
use Rattle.ui_machine.specs.State.Peers.{Peer, Reply}
use Rattle.ui_machine.specs.State.Tasks.{Event}
use Rattle.ui_machine.specs.State.Tasks as config
use Rattle.law_typing.specs.Verdict.Accepted.{Each}
use Rattle.native_peers.specs.Seen.{Relations, SameRelations, Seen}
use Rattle.engine_dispatches.specs.Following.{Halting}
use Rattle.engine_dispatches.specs.PoolView.{GivenBy, IsLeft, Replied, as_shown, one_more}
use Rattle.engine_dispatches.specs.Ways.{CutOff, EventLeaves}
use Rattle.ui_engine.specs.SessionView.{SessionState}
use Rattle.event_lines.specs.EventFileRun.{EventFileRun, LineComesTo, LineSort, LinesComeTo, Meets, Outcome, cut_off, refused, said, stopped, skipped, too_long, too_many}
use Rattle.event_lines.specs.EventFileRun as file_run
use Rattle.event_lines.specs.Events.{BrokenOff, event_replies}
use Rattle.event_lines.specs.Opening.{IsBrokenOff, IsBuilt, Opening, Opens, Plays, Proceeds, Ran}
use Rattle.event_lines.specs.Opening as opening
use Rattle.event_lines.specs.RunOver.{BreaksOffNext, RunsOver}

pub same_back : (a b : Relations) → SameRelations a b → SameRelations b a
same_back a b same k s m args answer t = let both = same k s m args answer t in (both.1, both.0)

module _ (a b : Relations) (same : SameRelations a b) where
  -- ** replies

  given : (reply : Reply) → GivenBy a reply → GivenBy b reply
  given reply g = record {
    allowed = (same reply.question.peer reply.question.state reply.question.method reply.question.args reply.answer reply.state).0 g.allowed;
    fits = g.fits;
  }

  all_given : (replies : List Reply) → Each (GivenBy a) replies → Each (GivenBy b) replies
  all_given [] g = tt
  all_given (reply ∷ replies) g = (given reply g.0, all_given replies g.1)

  replied : {P Q : List Reply → Type 0} → ((replies : List Reply) → P replies → Q replies) → Replied a P → Replied b Q
  replied f r = record { replies = r.replies; given = all_given r.replies r.given; so = f r.replies r.so }

  -- ** where no memory is found

  is_left : (d : Definition) (at : Config) (peers : List Peer) → IsLeft d a at peers → IsLeft d b at peers
  is_left d at peers (as_shown is) = as_shown is
  is_left d at peers (one_more m) = one_more (record { reply = m.reply; given = given m.reply m.given; asks = m.asks; peers = m.peers })

  halting : (d : Definition) (c : Config) (peers : List Peer) (shown : List (List ℕ)) (replies : List Reply) → Halting d a replies c peers shown → Halting d b replies c peers shown
  halting d c peers shown replies h = record { halts = h.halts; leaves = is_left d h.halts.at peers h.leaves }

  leaves : (d : Definition) (event : Event) (replies : List Reply) (w : World) (shown : List (List ℕ)) (h : HaltsIn d event replies w halts.OutOfMemory shown) (peers : List Peer)
      → EventLeaves d a event replies w shown h peers → EventLeaves d b event replies w shown h peers
  leaves d (config.request r) replies w shown h peers l = is_left d h.at peers l
  leaves d (config.turn moment) replies w shown (at_its_beginning stops) peers l = l
  leaves d (config.turn moment) replies w shown (at_a_source h) peers l = is_left d h.halts.at peers l

  cuts_off : (d : Definition) (event : Event) (w : World) (peers : List Peer) (shown : List (List ℕ)) (replies : List Reply) → CutOff d a event replies w peers shown → CutOff d b event replies w peers shown
  cuts_off d event w peers shown replies c = record { halts = c.halts; leaves = leaves d event replies w shown c.halts peers c.leaves }

  -- ** lines

  broken_off : (old : SessionState) (line : List ℕ) (lines : List (List ℕ)) (new : SessionState) → BrokenOff a old line lines new → BrokenOff b old line lines new
  broken_off old line lines new o = record {
    event = o.event;
    denotes = o.denotes;
    breaks_off = replied (cuts_off old.definition o.event old.world new.world.peers new.world.transcript) o.breaks_off;
    shows = o.shows;
    definition = o.definition;
    stops = o.stops;
  }

  replies_same : (old : SessionState) (line : List ℕ) (outcome : Outcome) (new : SessionState) → event_replies a old line outcome new → event_replies b old line outcome new
  replies_same old line (said lines) new s = record {
    event = s.event;
    tally = s.tally;
    denotes = s.denotes;
    serves = replied (λ replies so. so) s.serves;
    shows = s.shows;
    definition = s.definition;
    goes_on = s.goes_on;
  }
  replies_same old line (refused r) new s = s
  replies_same old line (cut_off r) new s = s
  replies_same old line (stopped lines) new (inl o) = inl (broken_off old line lines new o)
  replies_same old line (stopped lines) new (inr none) = inr none

  meets : (sort : LineSort) (old : SessionState) (line : List ℕ) (outcome : Outcome) (new : SessionState) → Meets (event_replies a) sort old line outcome new → Meets (event_replies b) sort old line outcome new
  meets too_many old line outcome new m = m
  meets too_long old line outcome new m = m
  meets skipped old line outcome new m = m
  meets file_run.event old line outcome new m = replies_same old line outcome new m

  line_comes : (old : SessionState) (n : ℕ) (line : List ℕ) (outcome : Outcome) (new : SessionState) → LineComesTo (event_replies a) old n line outcome new → LineComesTo (event_replies b) old n line outcome new
  line_comes old n line outcome new (inl m) = inl (meets (file_run.sort_of_line n line) old line outcome new m)
  line_comes old n line outcome new (inr none) = inr none

  lines_come : (f : SessionState → SessionState) (old : SessionState) (n : ℕ) (lines : List (List ℕ)) (outcomes : List Outcome) (new : SessionState)
      → LinesComeTo (event_replies a) f old n lines outcomes new → LinesComeTo (event_replies b) f old n lines outcomes new
  lines_come f old n lines [] new come = come
  lines_come f old n [] (outcome ∷ outcomes) new come = come
  lines_come f old n (line ∷ lines) (outcome ∷ outcomes) new come =
      (come.0, line_comes old n line outcome come.0 come.1, come.2, lines_come f (f come.0) (n + 1) lines outcomes new come.3)

  -- ** the opening

  built_same : (peers : List Peer) (s : SessionState) → IsBuilt a peers s → IsBuilt b peers s
  built_same peers s is = record { tally = is.tally; carries = replied (λ replies so. so) is.carries; goes_on = is.goes_on }

  broken_same : (peers : List Peer) (s : SessionState) → IsBrokenOff a peers s → IsBrokenOff b peers s
  broken_same peers s is = record { breaks_off = replied (halting s.definition _ s.world.peers s.world.transcript) is.breaks_off; stops = is.stops }

  opens_same : (peers : List Peer) (bytes : List ℕ) (o : Opening) → Opens a peers bytes o → Opens b peers bytes o
  opens_same peers bytes (opening.refused refusal) opens = opens
  opens_same peers bytes (opening.rejected d fault) opens = opens
  opens_same peers bytes (opening.mismatched d m) opens = opens
  opens_same peers bytes opening.unbegun opens = opens
  opens_same peers bytes (opening.stopped s) opens = (opens.0, broken_same peers s opens.1)
  opens_same peers bytes (opening.built s) opens = (opens.0, built_same peers s opens.1)

  -- ** the run

  breaks_next : (d : Definition) (w new : World) → BreaksOffNext d a w new → BreaksOffNext d b w new
  breaks_next d w new n = record { event = n.event; breaks_off = replied (cuts_off d n.event w new.peers new.transcript) n.breaks_off }

  after_same : {A : Type 0} (d : Definition) (w new : World) → A ⊎ BreaksOffNext d a w new → A ⊎ BreaksOffNext d b w new
  after_same d w new (inl is) = inl is
  after_same d w new (inr n) = inr (breaks_next d w new n)

  runs_same : (s : SessionState) (peers : List Peer) (lines : List (List ℕ)) (outcomes : List Outcome) (new : SessionState) → RunsOver a s peers lines outcomes new → RunsOver b s peers lines outcomes new
  runs_same s peers lines outcomes new r = record {
    replies = r.replies;
    given = all_given r.replies r.given;
    tally = r.tally;
    last = r.last;
    run = r.run;
    accepted = r.accepted;
    keeps = r.keeps;
    front = r.front;
    after = after_same s.definition r.last _ r.after;
    shows = r.shows;
  }

order_same : {A B C : Type 0} → (A → B) → A ⊎ C → B ⊎ C
order_same f (inl x) = inl (f x)
order_same f (inr y) = inr y

module _ (a b : Relations) (same : SameRelations a b) (peers : List Peer) (left : List Seen) (lines : List (List ℕ)) (status : ℕ) (torn : Bool)
    (unread other : Type 0) (so : unread → other) (first last : Option (List ℕ)) (text : List ℕ) where
  plays_same : (s : SessionState) → Plays a peers left s lines status torn unread first last text → Plays b peers left s lines status torn other first last text
  plays_same s p = record {
    new = p.new;
    file_run = record {
      outcomes = p.file_run.outcomes;
      told = lines_come a b same _ _ 1 lines p.file_run.outcomes p.new p.file_run.told;
      broke = p.file_run.broke;
      whole = p.file_run.whole;
      over = p.file_run.over;
      answer = p.file_run.answer;
      order = order_same so p.file_run.order;
      heard = p.file_run.heard;
    };
    run = λ bytes taken built. runs_same a b same s peers lines p.file_run.outcomes p.new (p.run bytes taken (built_same b a (same_back a b same) peers s built));
    leaves = p.leaves;
  }

  proceeds_same : (o : Opening) → Proceeds a peers left o lines status torn unread first last text → Proceeds b peers left o lines status torn other first last text
  proceeds_same (opening.refused refusal) p = (so p.0, p.1, p.2)
  proceeds_same (opening.rejected d fault) p = (so p.0, p.1, p.2)
  proceeds_same (opening.mismatched d m) p = (so p.0, p.1, p.2)
  proceeds_same opening.unbegun p = (so p.0, p.1, p.2)
  proceeds_same (opening.stopped s) p = (so p.0, p.1, p.2)
  proceeds_same (opening.built s) p = plays_same s p

  -- what is a run with the one is a run with the other; that nothing was read may be said in other words
  pub ran_same : (bytes : List ℕ) → Ran a peers left bytes lines status torn unread first last text → Ran b peers left bytes lines status torn other first last text
  ran_same bytes r = record { opening = r.opening; opens = opens_same a b same peers bytes r.opening r.opens; proceeds = proceeds_same r.opening r.proceeds }
