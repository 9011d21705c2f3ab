-- How a run opens, and what follows.
use Rattle.std.proofs.Common.{◌≡◌, ℕ, Bool, true, false, is_some, List, [], ◌∷◌, ◌++◌, map, take, length, length-append, arith, append_assoc, append-nil, String, Global, Option, Some, None, Result, Ok, Err, refl, sym, ap, subst, ◌∙◌, inl, inr}
use Rattle.std.specs.Prelude.{IfSome, OnErr, string_bytes, ◌⊎◌}
use Rattle.std.proofs.KnownBytes.{Appends-trans}
use Rattle.ui_machine.specs.Definition.{Definition}
use Rattle.ui_machine.specs.Runs.{of_build, Carries}
use Rattle.ui_machine.specs.State.Peers.{Peer}
use Rattle.builder_defs.specs.Denoted.{denoted}
use Rattle.native_peers.specs.Matching.{as_peers}
use Rattle.native_peers.specs.Seen.{Relations, SameRelations, Seen}
use Rattle.native_peers.specs.declared.pooled_peers.Peers.{Ghosts}
use Rattle.law_peers.specs.MatchedPools.{AllFree}
use Rattle.engine_dispatches.specs.declared.dispatches.Reply.{Reply}
use Rattle.ui_engine.specs.Endings.{closed_if, taken_closed}
use Rattle.engine_dispatches.specs.Following.{Halting}
use Rattle.engine_dispatches.specs.PoolView.{Replied, seen_of, with_seen}
use Rattle.engine_dispatches.specs.Ways.{tally_of}
use Rattle.engine_dispatches.proofs.Points.{with_seen_is}
use Rattle.ui_engine.specs.declared.faults.SessionFault.{SessionFault}
use Rattle.ui_engine.specs.declared.faults.SessionFault.TheVariants as faults
use Rattle.ui_engine.specs.declared.session.Session.{Session}
use Rattle.ui_engine.specs.SessionView.{SessionState, without_lines, building, state_at, Comes}
use Rattle.event_lines.specs.declared.session_start.Opening.TheVariants as code
use Rattle.event_lines.specs.OpeningView.{IsOpening, Opened}
use Rattle.event_lines.specs.CheckView.{IsUnread, IsRejected}
use Rattle.law_peers.specs.Needs.{Mismatch, mismatch}
use Rattle.law_typing.specs.Graph.{graph}
use Rattle.law_typing.specs.Verdict.{Verdict}
use Rattle.law_typing.specs.Verdict.Accepted.{Accepted}
use Rattle.law_typing.specs.Verdict.Judges.{Answers, Judges}
use Rattle.law_typing.proofs.ExactProofs.{accepted_is_judged}
use Rattle.event_lines.specs.Texts.{lines_text, mismatch_text, nothing_begun, build_stopped}
use Rattle.event_lines.specs.EventFileRun.{EventFileRun, InStep, Replies, text_from}
use Rattle.event_lines.specs.Events.{event_replies}
use Rattle.event_lines.proofs.Runs.{few_writes, few_after}
use Rattle.event_lines.proofs.CheckProofs.{line_is, line_of}
use Rattle.event_lines.proofs.Befores.{told_before}
use Rattle.event_lines.proofs.RunOver.{runs_over}
use Rattle.event_lines.specs.Writing.{Sent, Passes, Tears, Finishes, Sends}
use Rattle.ui_machine.specs.Prefix.{IsPrefix}
use Rattle.event_lines.specs.Lines.{lines_of}
use Rattle.event_lines.specs.Opening.{Opening, refused, rejected, mismatched, unbegun, built, stopped, left_by, IsTaken, Opens, Concludes, Ran}

-- ** pools

-- what is seen of peers that no object has got
pub seen_free : (pool : List Seen) → map seen_of (as_peers pool) ≡ pool
seen_free [] = refl
seen_free (s ∷ pool) = ap (λ (l : List Seen). s ∷ l) (seen_free pool)

-- no object has got the peers of a pool
pub all_free : (pool : List Seen) → AllFree (as_peers pool)
all_free [] = tt
all_free (s ∷ pool) = (refl, all_free pool)

-- an accepted definition is judged so
pub judges_accepted : (d : Definition) → Accepted d → Judges d None
judges_accepted d accepted = subst (λ (v : Verdict). Answers (graph d) v None) (sym (accepted_is_judged d accepted)) refl

-- the peers are closed that an object has got, by what is known of them
closed_so : (pool : List Seen) (peers : List Peer) → taken_closed (with_seen pool peers) pool ≡ taken_closed peers pool
closed_so [] [] = refl
closed_so [] (p ∷ peers) = refl
closed_so (s ∷ pool) [] = ap (λ (l : List Seen). s ∷ l) (closed_so pool [])
closed_so (s ∷ pool) (p ∷ peers) = ap (λ (l : List Seen). closed_if (is_some p.holder) s ∷ l) (closed_so pool peers)

-- so is the pool that a session leaves
pub left_so : (pool left : List Seen) (s : SessionState) → left ≡ taken_closed s.world.peers pool → left ≡ left_by (state_at pool s).world
left_so pool left s is = is ∙ sym (closed_so pool s.world.peers) ∙ ap (taken_closed (with_seen pool s.world.peers)) (sym (with_seen_is pool s.world.peers))

-- ** openings

module _ {P : Type 0} {g : Ghosts P} (see : P → List Seen) (may : Relations) (peers : List Peer) (old : P) (bytes : List ℕ) where
  -- the opening of what is not accepted
  pub opens_refused : (text : String Global) (pool : P) → pool ≡ old → IsUnread bytes (string_bytes text) ⊎ IsRejected bytes (string_bytes text)
      → Opened {g = g} see may peers old bytes (code.Refused text pool)
  opens_refused text pool same (inl (refusal, denotes, is)) = record { opening = refused refusal; is = is; opens = denotes; leaves = same }
  opens_refused text pool same (inr (d, fault, denotes, judged, is)) = record { opening = rejected d fault; is = is; opens = (denotes, judged); leaves = same }

  -- that for which no memory was found
  pub opens_unbegun : (pool : P) → pool ≡ old → Opened {g = g} see may peers old bytes (code.Unbegun pool)
  opens_unbegun pool same = record { opening = unbegun; is = tt; opens = tt; leaves = same }

  module _ (d : Definition) (denotes : denoted bytes ≡ Ok d) (judged : Judges d None) where
    -- that of what is accepted, but does not match
    pub opens_mismatched : (text : String Global) (pool : P) → pool ≡ old → (m : Mismatch) × (mismatch d peers ≡ Some m) × (string_bytes text ≡ mismatch_text m)
        → Opened {g = g} see may peers old bytes (code.Refused text pool)
    opens_mismatched text pool same lack = record { opening = mismatched d lack.0; is = lack.2; opens = (denotes, judged, lack.1); leaves = same }

    module _ (session : Session P g) (taken : IsTaken bytes d peers) where
      abbrev s : SessionState
      s = state_at (see session.pool) session.core

      -- that of what is built
      pub opens_built : (reply : Reply) → Comes (Ok reply) (building may d peers) d s → Opened {g = g} see may peers old bytes (code.Built session)
      opens_built reply comes = record {
        opening = built s;
        is = refl;
        opens = (
          subst (λ (e : Definition). IsTaken bytes e peers) (sym comes.definition) taken,
          record {
            tally = tally_of reply;
            carries = subst (λ (e : Definition). Replied may (λ replies. Carries e (of_build e peers) replies (tally_of reply) s.world)) (sym comes.definition) comes.leads;
            goes_on = comes.goes_on;
          },
        );
        leaves = tt;
      }

      -- that of what broke off in the build
      pub opens_stopped : (fault : SessionFault) → Comes (Err fault) (building may d peers) d s → Opened {g = g} see may peers old bytes (code.Stopped session)
      opens_stopped faults.OutOfMemory comes = record {
        opening = stopped s;
        is = refl;
        opens = (
          subst (λ (e : Definition). IsTaken bytes e peers) (sym comes.definition) taken,
          record {
            breaks_off = subst (λ (e : Definition). Replied may (λ replies. Halting e may replies (of_build e peers) s.world.peers s.world.transcript)) (sym comes.definition) comes.breaks_off;
            stops = comes.stops;
          },
        );
        leaves = tt;
      }
      opens_stopped faults.Stopped comes = absurd comes
      opens_stopped faults.ClockBack comes = absurd comes
      opens_stopped faults.Released comes = absurd comes

-- where what is said of a refusal is so
pub on_err : {A E : Type 0} {P : Type 0} (r : Result A E) → P → OnErr r P
on_err (Ok x) p = tt
on_err (Err e) p = p

-- and where what is read is no refusal
pub on_ok : {A E : Type 0} (P : Type 0) (r : Result A E) (x : A) → r ≡ Ok x → OnErr r P
on_ok P (Ok y) x is = tt
on_ok P (Err e) x is = absurd (cc is)

-- ** what is written

-- there are bytes that the reader's are, where these are known
pub any_bytes : (a : Option (List ℕ)) → (input : List ℕ) × IfSome a (λ known. known ≡ input)
any_bytes None = ([], tt)
any_bytes (Some xs) = (xs, refl)

-- a text was said where nothing was gathered, and the run ends
pub concludes : (failed : Bool) (a b c : Sent) (p q whole : List ℕ) (answer status : ℕ) → p ≡ [] → Passes a p b q whole → Finishes answer status failed b q c
    → (out : List ℕ) × Concludes whole answer status failed out × Sends 0 0 a c out
concludes false a b c p q whole answer status none h f =
    let w = f.whole refl in
    let said : whole ≡ h.moved ++ q = ap (λ t. t ++ whole) (sym none) ∙ h.whole in (
      h.moved ++ q,
      inr (w.0, refl, sym said),
      record {
        appends = Appends-trans a.bytes b.bytes c.bytes h.moved q h.appends w.1;
        few = let n = length-append h.moved q in few_writes 0 0 a.writes c.writes (length (h.moved ++ q)) (omega arith) (omega (arith, h.full, f.once, n));
      },
    )
concludes true a b c p q whole answer status none h f =
    let w = f.part refl in
    let said : whole ≡ h.moved ++ q = ap (λ t. t ++ whole) (sym none) ∙ h.whole in (
      h.moved ++ w.1.part,
      inl (w.0, refl, record { more = w.1.more; whole = said ∙ ap (λ t. h.moved ++ t) w.1.split ∙ sym (append_assoc h.moved w.1.part w.1.more) }),
      record {
        appends = Appends-trans a.bytes b.bytes c.bytes h.moved w.1.part h.appends w.1.appends;
        few = let n = length-append h.moved w.1.part in few_writes 0 0 a.writes c.writes (length (h.moved ++ w.1.part)) (omega arith) (omega (arith, h.full, f.once, n));
      },
    )

pub concludes_torn : (failed : Bool) (a b : Sent) (p whole : List ℕ) (answer : ℕ) → p ≡ [] → failed ≡ true → Tears a p b whole → (out : List ℕ) × Concludes whole answer 4 failed out × Sends 0 0 a b out
concludes_torn failed a b p whole answer none torn h = (
  h.moved,
  inl (refl, torn, record { more = h.lost; whole = ap (λ t. t ++ whole) (sym none) ∙ h.whole }),
  record { appends = h.appends; few = few_writes 0 0 a.writes b.writes (length h.moved) (omega arith) (omega (arith, h.full)) },
)

-- also where something is read meanwhile
sends_more : (r r' : ℕ) (a b : Sent) (text : List ℕ) → Sends 0 0 a b text → Sends r r' a b text
sends_more r r' a b text h = record { appends = h.appends; few = omega (arith, h.few) }

-- some of what came before was written, and then what is left of it and more
left_and_more : (moved left before more : List ℕ) → before ≡ moved ++ left → before ++ more ≡ moved ++ (left ++ more)
left_and_more moved left before more e = ap (λ t. t ++ more) e ∙ append_assoc moved left more

prefix_after : (moved left before more text : List ℕ) → before ≡ moved ++ left → IsPrefix text (left ++ more) → IsPrefix (moved ++ text) (before ++ more)
prefix_after moved left before more text e h = record { more = h.more; whole = left_and_more moved left before more e ∙ ap (λ t. moved ++ t) h.whole ∙ sym (append_assoc moved text h.more) }

after_prefix : (moved left before more text : List ℕ) → before ≡ moved ++ left → IsPrefix (left ++ more) text → IsPrefix (before ++ more) (moved ++ text)
after_prefix moved left before more text e h =
    record { more = h.more; whole = ap (λ t. moved ++ t) h.whole ∙ sym (append_assoc moved (left ++ more) h.more) ∙ ap (λ t. t ++ h.more) (sym (left_and_more moved left before more e)) }

module _ (replies : Replies SessionState) (old : SessionState) (build : List ℕ) (torn : Bool) (unread : Type 0) (first last : Option (List ℕ)) where
  -- the build's lines were said, and the events handled
  plays_on : (lines : List (List ℕ)) (status : ℕ) (moved left text : List ℕ) (new : SessionState) → build ≡ moved ++ left → EventFileRun replies without_lines old left lines status torn unread first last text new
      → EventFileRun replies without_lines old build lines status torn unread first last (moved ++ text) new
  plays_on lines status moved left text new is file_run = record {
    outcomes = file_run.outcomes;
    told = file_run.told;
    broke = λ failed. prefix_after moved left build (text_from 1 file_run.outcomes) text is (file_run.broke failed);
    whole = λ fine. ap (λ t. moved ++ t) (file_run.whole fine) ∙ sym (left_and_more moved left build (text_from 1 file_run.outcomes) is);
    over = file_run.over;
    answer = file_run.answer;
    order = by file_run.order;
    heard = file_run.heard;
  }
    where
      by : unread ⊎ InStep left file_run.outcomes first last text → unread ⊎ InStep build file_run.outcomes first last (moved ++ text)
      by (inl un) = inl un
      by (inr step) = inr (record {
        count = step.count;
        within = step.within;
        goes_on = step.goes_on;
        written = after_prefix moved left build (text_from 1 (take step.count file_run.outcomes)) text is step.written;
        ended = step.ended;
        near = step.near;
      })

  module _ (r r' : ℕ) (a : Sent) where
    -- what comes of the lines of the build and of the events
    abbrev pub PlaysOver : ℕ → Sent → SessionState → Type 0
    PlaysOver status end new =
        (input : List ℕ) × IfSome first (λ known. known ≡ input) × (text : List ℕ) × EventFileRun replies without_lines old build (lines_of input) status torn unread first last text new × Sends r r' a end text

    module _ (b : Sent) (p q : List ℕ) where
      -- the build's lines broke off
      pub breaks_off : r ≡ r' → p ≡ [] → torn ≡ true → unread → Tears a p b build → PlaysOver 4 b old
      breaks_off same none failed un h =
          let input = any_bytes first in
          let is : build ≡ h.moved ++ h.lost = ap (λ t. t ++ build) (sym none) ∙ h.whole in (
            input.0,
            input.1,
            h.moved,
            record {
              outcomes = [];
              told = refl;
              broke = λ _. record { more = h.lost; whole = append-nil build ∙ is };
              whole = λ fine. cc (failed, fine);
              over = λ ne. absurd (ne refl);
              answer = λ ne. absurd (ne refl);
              order = inl un;
              heard = λ _ fine. cc (failed, fine);
            },
            record { appends = h.appends; few = few_writes r r' a.writes b.writes (length h.moved) (omega (arith, same)) (omega (arith, h.full, same)) },
          )

      -- they were said, and then the events handled
      pub plays : (c : Sent) (status : ℕ) (new : SessionState) → p ≡ [] → Passes a p b q build
          → (input : List ℕ) × IfSome first (λ known. known ≡ input) × (text : List ℕ) × EventFileRun replies without_lines old q (lines_of input) status torn unread first last text new × Sends r r' b c text
          → PlaysOver status c new
      plays c status new none h told =
          let is : build ≡ h.moved ++ q = ap (λ t. t ++ build) (sym none) ∙ h.whole in (
            told.0,
            told.1,
            h.moved ++ told.2,
            plays_on (lines_of told.0) status h.moved q told.2 new is told.3,
            record {
              appends = Appends-trans a.bytes b.bytes c.bytes h.moved told.2 h.appends told.4.appends;
              few = rw (length-append h.moved told.2) (few_after r r' a.writes b.writes c.writes (length h.moved) (length told.2) h.full told.4.few);
            },
          )

-- ** which opening the code's is

module _ {P : Type 0} {g : Ghosts P} (see : P → List Seen) (may : Relations) (peers : List Peer) (bytes : List ℕ) (session : Session P g) where
  abbrev state : SessionState
  state = state_at (see session.pool) session.core

  open_stopped : (opening : Opening) → IsOpening see (code.Stopped session) opening → Opens may peers bytes opening → Opens may peers bytes (stopped state)
  open_stopped (refused r) is opens = absurd is
  open_stopped (rejected d fault) is opens = absurd is
  open_stopped (mismatched d m) is opens = absurd is
  open_stopped unbegun is opens = absurd is
  open_stopped (stopped s) is opens = subst (λ (t : SessionState). Opens may peers bytes (stopped t)) (sym is) opens
  open_stopped (built s) is opens = absurd is

  open_built : (opening : Opening) → IsOpening see (code.Built session) opening → Opens may peers bytes opening → Opens may peers bytes (built state)
  open_built (refused r) is opens = absurd is
  open_built (rejected d fault) is opens = absurd is
  open_built (mismatched d m) is opens = absurd is
  open_built unbegun is opens = absurd is
  open_built (stopped s) is opens = absurd is
  open_built (built s) is opens = subst (λ (t : SessionState). Opens may peers bytes (built t)) (sym is) opens

  -- where a session was built, the bytes denote its definition
  pub denoted_where_built : (old : P) → Opened {g = g} see may peers old bytes (code.Built session) → denoted bytes ≡ Ok state.definition
  denoted_where_built old o = (open_built o.opening o.is o.opens).0.denoted

module _ {P : Type 0} (see : P → List Seen) (may : Relations) (old : P) (bytes : List ℕ) (first last : Option (List ℕ)) (r r' : ℕ) (a c : Sent) (status : ℕ) (torn : Bool) (unread : Type 0) where
  abbrev pool_seen : List Seen
  pool_seen = see old

  abbrev pub IsWritten : List ℕ → ℕ → Type 0
  IsWritten whole answer = (out : List ℕ) × Concludes whole answer status torn out × Sends 0 0 a c out

  abbrev pub RanOver : List Seen → Type 0
  RanOver left =
      (input : List ℕ) × IfSome first (λ known. known ≡ input) × (text : List ℕ) × Ran may (as_peers pool_seen) left bytes (lines_of input) status torn unread first last text × Sends r r' a c text

  -- nothing was begun with the pool
  kept : (pool : P) → pool ≡ old → see pool ≡ map seen_of (as_peers pool_seen)
  kept pool same = ap (λ (l : P). see l) same ∙ sym (seen_free pool_seen)

  pub ran_stopped : {g : Ghosts P} (session : Session P g) (left : List Seen) → Opened {g = g} see may (as_peers pool_seen) old bytes (code.Stopped session) → left ≡ taken_closed session.core.world.peers (see session.pool) → unread
      → IsWritten (lines_text session.core.world.transcript ++ build_stopped) 3 → RanOver left
  ran_stopped {g} session left o closes un w =
      let input = any_bytes first in
      let s = state_at (see session.pool) session.core in (
        input.0,
        input.1,
        w.0,
        record {
          opening = stopped s;
          opens = open_stopped see may (as_peers pool_seen) bytes session o.opening o.is o.opens;
          proceeds = (un, left_so (see session.pool) left session.core closes, w.1);
        },
        sends_more r r' a c w.0 w.2,
      )

  pub ran_unbegun : {g : Ghosts P} (pool : P) → Opened {g = g} see may (as_peers pool_seen) old bytes (code.Unbegun pool) → unread → IsWritten nothing_begun 3 → RanOver (see pool)
  ran_unbegun {g} pool o un w =
      let input = any_bytes first in
      (input.0, input.1, w.0, record { opening = unbegun; opens = tt; proceeds = (un, kept pool o.leaves, w.1) }, sends_more r r' a c w.0 w.2)

  pub ran_refused : {g : Ghosts P} (text : String Global) (pool : P) → Opened {g = g} see may (as_peers pool_seen) old bytes (code.Refused text pool) → unread → IsWritten (line_of (string_bytes text)) 1 → RanOver (see pool)
  ran_refused {g} text pool o un w = by o.opening o.is o.opens
    where
      input : (input : List ℕ) × IfSome first (λ known. known ≡ input)
      input = any_bytes first

      by : (opening : Opening) → IsOpening {g = g} see (code.Refused text pool) opening → Opens may (as_peers pool_seen) bytes opening → RanOver (see pool)
      by (refused refusal) is opens =
          let written = subst (λ t. IsWritten (line_of t) 1) is w in
          (input.0, input.1, written.0, record { opening = refused refusal; opens = opens; proceeds = (un, kept pool o.leaves, written.1) }, sends_more r r' a c written.0 written.2)
      by (rejected d fault) is opens =
          let written = subst (λ t. IsWritten t 1) (line_is d fault) (subst (λ t. IsWritten (line_of t) 1) is w) in
          (input.0, input.1, written.0, record { opening = rejected d fault; opens = opens; proceeds = (un, kept pool o.leaves, written.1) }, sends_more r r' a c written.0 written.2)
      by (mismatched d m) is opens =
          let written = subst (λ t. IsWritten (line_of t) 1) is w in
          (input.0, input.1, written.0, record { opening = mismatched d m; opens = opens; proceeds = (un, kept pool o.leaves, written.1) }, sends_more r r' a c written.0 written.2)
      by unbegun is opens = absurd is
      by (stopped s) is opens = absurd is
      by (built s) is opens = absurd is

  -- the events were handled, whose peers might do what they might at the beginning
  pub ran_built : {g : Ghosts P} (later : Relations) (session : Session P g) (pool : List Seen) (core : SessionState) (left : List Seen) → Opened {g = g} see may (as_peers pool_seen) old bytes (code.Built session) → SameRelations may later → left ≡ taken_closed core.world.peers pool
      → PlaysOver (event_replies later) (without_lines (state_at (see session.pool) session.core)) (lines_text session.core.world.transcript) torn unread first last r r' a status c (state_at pool core) → RanOver left
  ran_built {g} later session pool core left o same closes t =
      let s = state_at (see session.pool) session.core in
      let told = told_before same t.3 in (
        t.0,
        t.1,
        t.2,
        record {
          opening = built s;
          opens = open_built see may (as_peers pool_seen) bytes session o.opening o.is o.opens;
          proceeds = record {
            new = state_at pool core;
            file_run = told;
            run = λ bytes taken stands. runs_over may (as_peers pool_seen) s (lines_of t.0) told.outcomes (state_at pool core) bytes taken stands told.told;
            leaves = left_so pool left core closes;
          };
        },
        t.4,
      )
