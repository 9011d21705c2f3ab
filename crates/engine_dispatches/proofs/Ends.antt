-- How a dispatch over a pool ends, in the machine's words.
use Rattle.std.proofs.Common.{◌≡◌, refl, ap, sym, subst, ◌∙◌, ℕ, List, [], map, Result, Ok, Err}
use Rattle.std.specs.Prelude.{IfOk, OnErr, OnOk}
use Rattle.std.specs.declared.alloc.AllocError.{AllocError}
use Rattle.ui_machine.specs.Definition.{Definition}
use Rattle.ui_machine.specs.Output.Lines as lines
use Rattle.ui_machine.specs.Runs.{Dispatches, HasEnded, beginning}
use Rattle.ui_machine.specs.State.Peers.{Peer}
use Rattle.ui_machine.specs.State.Tasks.{Task}
use Rattle.ui_machine.specs.State.Config.{Config, World, said}
use Rattle.engine_world.specs.Quiet.{IsQuiet}
use Rattle.engine_world.specs.Standing.{without_gone}
use Rattle.native_peers.specs.Seen.{Relations, Seen}
use Rattle.engine_dispatches.specs.Dispatched.{Carried, EndsBy}
use Rattle.engine_dispatches.specs.Following.{Breaks, Follows, Halting, Point}
use Rattle.engine_dispatches.specs.PoolView.{Knows, Replied, as_shown, seen_of, with_seen, world_at}
use Rattle.engine_dispatches.specs.Safety.{ComesOfSafe, IsSafe}
use Rattle.engine_dispatches.specs.declared.dispatches.Reply.{Reply}
use Rattle.engine_dispatches.proofs.Points.{breaks_on, cut_off, ended_there, held_with, left_as, real, safe_knows, safe_on, stands_there, with_seen_is, world_there}
use Rattle.engine_dispatches.proofs.Reaching.{reaches_here}

module _ (d : Definition) (may : Relations) (p : Point) (whole : without_gone p.view ≡ p.view) (knows : Knows p.view.world p.pool) where
  -- it comes to its end, and says its last line
  pub dispatches : (q : Point) → Follows d may p q → HasEnded d q.view → (new : World) → new ≡ said d (world_at q.pool q.view.world) (lines.end q.view.counted)
      → Replied may (λ replies. Dispatches d replies (real d p) q.view.counted new)
  dispatches q follows ended new is =
      let there = follows.arrives (real d p) (stands_there d p whole knows) in
      let counts = ap (λ (x : Config). x.counted) there.stands.view in
      record {
        replies = follows.replies;
        given = follows.given;
        so = record {
          at = there.at;
          reached = there.reached;
          ended = ended_there d q there.at there.stands ended;
          counts = counts;
          leaves =
              ap (λ (w : World). said d w (lines.end there.at.counted)) (world_there d q there.at there.stands)
              ∙ ap (λ n. said d (world_at q.pool q.view.world) (lines.end n)) counts
              ∙ sym is;
        };
      }

  -- or no memory is found
  pub halts_so : (left : List Peer) (shown : List (List ℕ)) → Breaks d may p left shown → Replied may (λ replies. Halting d may replies (real d p) left shown)
  halts_so left shown breaks = record { replies = breaks.replies; given = breaks.given; so = breaks.breaks (real d p) (stands_there d p whole knows) }

  -- it ends, or no memory is found for its end
  pub carried : (q : Point) → Follows d may p q → HasEnded d q.view → (r : Result Reply AllocError) (new : World) → IfOk r (λ reply. EndsBy reply d q.view new)
      → OnErr r (IsQuiet q.view.world new) → Carried r d may (real d p) (world_at q.pool new)
  carried q follows ended (Ok reply) new ends quiet = (
    subst (λ n. Replied may (λ replies. Dispatches d replies (real d p) n (world_at q.pool new))) (sym ends.steps)
        (dispatches q follows ended (world_at q.pool new) (ap (λ (w : World). world_at q.pool w) ends.said)),
    ends.value ∙ sym (ap (λ (w : World). w.result) ends.said),
    ends.dispatches,
  )
  carried q follows ended (Err e) new ends quiet = halts_so (with_seen q.pool new.peers) new.transcript (breaks_on d follows (cut_off d may q q.pool new refl quiet))

-- ** where it begins

module _ (d : Definition) (may : Relations) (pool : List Seen) (w : World) (t : Task) where
  -- no memory is found for its beginning
  pub unbegun : Knows w pool → (new : World) → IsQuiet w new → Replied may (λ replies. Halting d may replies (beginning (world_at pool w) t) (with_seen pool new.peers) new.transcript)
  unbegun knows new quiet = record {
    replies = [];
    given = tt;
    so = record {
      halts = record { at = beginning (world_at pool w) t; reached = reaches_here d (beginning (world_at pool w) t); stops = tt; lines = sym quiet.0 };
      leaves = as_shown (left_as (with_seen pool w.peers) new.peers pool (with_seen_is pool w.peers) (quiet.1 ∙ sym (held_with pool w.peers knows)));
    };
  }

  module _ (view : Config) (begun : view ≡ beginning w t) (whole : without_gone view ≡ view) (knows : Knows w pool) where
    abbrev pub first : Point
    first = record { pool = pool; view = view }

    real_there : real d first ≡ beginning (world_at pool w) t
    real_there = ap (λ (x : Config). record x { world = world_at pool x.world }) begun

    knows_there : Knows view.world pool
    knows_there = knows ∙ sym (ap (λ (x : Config). map seen_of x.world.peers) begun)

    pub safe_begun : {room : ℕ} → IsSafe d room (beginning (world_at pool w) t) → ComesOfSafe d room first
    safe_begun {room} safe = record { at = real d first; safe = subst (IsSafe d room) (sym real_there) safe; stands = stands_there d first whole knows_there }

    pub carried_begun : (q : Point) → Follows d may first q → HasEnded d q.view → (r : Result Reply AllocError) (new : World) → IfOk r (λ reply. EndsBy reply d q.view new)
        → OnErr r (IsQuiet q.view.world new) → Carried r d may (beginning (world_at pool w) t) (world_at q.pool new)
    carried_begun q follows ended r new ends quiet =
        subst (λ (x : Config). Carried r d may x (world_at q.pool new)) real_there (carried d may first whole knows_there q follows ended r new ends quiet)

    pub breaks_begun : (left : List Peer) (shown : List (List ℕ)) → Breaks d may first left shown → Replied may (λ replies. Halting d may replies (beginning (world_at pool w) t) left shown)
    breaks_begun left shown breaks =
        subst (λ (x : Config). Replied may (λ replies. Halting d may replies x left shown)) real_there (halts_so d may first whole knows_there left shown breaks)

    -- the pool is known at its end
    pub knows_begun : {room : ℕ} → IsSafe d room (beginning (world_at pool w) t) → (q : Point) → Follows d may first q → (r : Result Reply AllocError) (new : World) → IfOk r (λ reply. EndsBy reply d q.view new)
        → OnOk r (Knows new q.pool)
    knows_begun safe q follows (Ok reply) new ends = subst (λ (v : World). Knows v q.pool) (sym ends.said) (safe_knows d (safe_on d (safe_begun safe) follows))
    knows_begun safe q follows (Err e) new ends = tt
