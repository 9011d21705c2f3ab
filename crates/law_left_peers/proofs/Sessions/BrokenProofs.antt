-- What an event and a run leave of each peer where no memory was found.
use Rattle.std.proofs.Common.{◌≡◌, refl, ap, sym, subst, ◌∙◌, ℕ, Bool, false, cond, List, [], ◌∷◌, ◌++◌, map, Option, None, Some, append_assoc}
use Rattle.std.proofs.lemmas.List.{append-nil}
use Rattle.std.proofs.lemmas.List.Elements.{filter-append}
use Rattle.ui_machine.specs.declared.arm.Halt.TheVariants as halts
use Rattle.ui_machine.specs.Definition.{Definition}
use Rattle.ui_machine.specs.Output.Lines as lines
use Rattle.ui_machine.specs.Output.Text.{text_of_line}
use Rattle.ui_machine.specs.Rules.MainLoop.{turned}
use Rattle.ui_machine.specs.State.Sources.{source_of}
use Rattle.ui_machine.specs.Runs.{Carries, Halts, HaltsIn, Rests, RunsSource, RunsSources, Tally, at_a_source, at_its_beginning, beginning, first_world, of_build, of_request}
use Rattle.ui_machine.specs.State.Config.{Config, World}
use Rattle.ui_machine.specs.State.Peers.{Peer, PeerState, Reply}
use Rattle.ui_machine.specs.State.Sources.{Source}
use Rattle.ui_machine.specs.State.Tasks.{Due, Event}
use Rattle.ui_machine.specs.State.Tasks as config
use Rattle.law_peers.specs.PeerLaws.{IsNamedApart, Lives, PeersLive, nothing, peer_in}
use Rattle.law_peers.specs.PeerLines.{is_peer_line, peer_lines}
use Rattle.law_peers.proofs.LifeProofs.{joined, then_live}
use Rattle.law_peers.proofs.PartLives.{quiet_line}
use Rattle.law_peers.proofs.RunLives.{dispatch_lives, reaches_lives, run_lives}
use Rattle.native_peers.specs.Moves.{closed}
use Rattle.native_peers.specs.Seen.{Relations, Seen}
use Rattle.engine_dispatches.specs.PoolView.{seen_of}
use Rattle.engine_dispatches.specs.Ways.{EventLeaves}
use Rattle.engine_dispatches.proofs.Living.{seen_at}
use Rattle.ui_engine.specs.Endings.{is_taken}
use Rattle.law_left_peers.specs.Sessions.LeftPeers.{BreaksOff, BuildBreaksOff, CutLeaves, RunBreaksOff, ended, state_in}
use Rattle.law_left_peers.proofs.Sessions.LeftProofs.{breaks, closed_at, front_off, so_far}

-- ** parts of an event

-- nothing happens to the peers
rested : (d : Definition) (w v : World) → v.peers ≡ w.peers → peer_lines v.transcript ≡ peer_lines w.transcript → PeersLive d [] w v
rested d w v peers same = record {
  lines = [];
  shown = same ∙ sym (append-nil (peer_lines w.transcript));
  lives = subst (λ (ps : List Peer). Lives d w.peers [] [] ps) (sym peers) nothing;
}

module _ (d : Definition) where
  carried : (c : Config) (w : World) → c.world.peers ≡ w.peers → peer_lines c.world.transcript ≡ peer_lines w.transcript → (replies : List Reply) (tally : Tally) (new : World) →
      Carries d c replies tally new → PeersLive d replies w new
  carried c w peers same replies tally new r =
      then_live d [] replies w c.world new (rested d w c.world peers same) (dispatch_lives d replies c r.steps new r.dispatches)

  rests : (replies : List Reply) (w : World) (tally : Tally) (new : World) → Rests replies w tally new → PeersLive d replies w new
  rests replies w tally new r = subst (λ rs. PeersLive d rs w new) (sym r.replied) (subst (λ v. PeersLive d [] w v) r.same (rested d w w refl refl))

  one_source : (number : ℕ) (s : Option Source) (replies : List Reply) (w : World) (tally : Tally) (new : World) → RunsSource d number s replies w tally new → PeersLive d replies w new
  one_source number None replies w tally new r = rests replies w tally new r
  one_source number (Some s) replies w tally new r = carried (beginning w (Due number)) w refl refl replies tally new r

  sources : (numbers : List ℕ) (replies : List Reply) (w : World) (tally : Tally) (new : World) → RunsSources d numbers replies w tally new → PeersLive d replies w new
  sources [] replies w tally new r = rests replies w tally new r
  sources (number ∷ more) replies w tally new t =
      subst (λ rs. PeersLive d rs w new) (sym t.replied)
      (then_live d t.first t.later w t.mid new (one_source number (source_of number w.sources) t.first w t.first_tally t.mid t.begins) (sources more t.later t.mid t.later_tally new t.goes_on))

  reached : (c : Config) (w : World) → c.world.peers ≡ w.peers → peer_lines c.world.transcript ≡ peer_lines w.transcript → (replies : List Reply) (shown : List (List ℕ))
      (h : Halts d replies c halts.OutOfMemory shown) → PeersLive d replies w h.at.world
  reached c w peers same replies shown h = then_live d [] replies w c.world h.at.world (rested d w c.world peers same) (reaches_lives d replies c h.at h.reached)

-- ** where it breaks off

-- the peers lived from a pool to a world, which has shown some lines before, and then these about them
record Behind (d : Definition) (peers : List Peer) (before : List Reply) (base : List (List ℕ)) (w : World) : Type 0 where
  lines : List (List ℕ)
  shows : peer_lines w.transcript ≡ base ++ lines
  lives : Lives d peers before lines w.peers

module _ (may : Relations) (d : Definition) (peers : List Peer) (k : ℕ) (apart : IsNamedApart peers k) (before : List Reply) (base rest shown : List (List ℕ))
    (is : peer_lines shown ≡ base ++ peer_lines rest) (w : World) (b : Behind d peers before base w) where
  -- they lived to a world whose lines are all that were shown
  lived : (replies : List Reply) (at : World) → at.transcript ≡ shown → PeersLive d replies w at → Lives d peers (before ++ replies) (peer_lines rest) at.peers
  lived replies at all x =
      subst (λ (l : List (List ℕ)). Lives d peers (before ++ replies) l at.peers)
      (front_off base (b.lines ++ x.lines) (peer_lines rest)
      (sym (append_assoc base b.lines x.lines) ∙ (ap (λ t. t ++ x.lines) (sym b.shows) ∙ (sym x.shown ∙ (ap peer_lines all ∙ is)))))
      (joined b.lives x.lives)

  event_breaks : (event : Event) (replies : List Reply) (left : List Peer) (h : HaltsIn d event replies w halts.OutOfMemory shown) → EventLeaves d may event replies w shown h left
      → (got : Bool) (state : PeerState) → state ≡ cond got (closed (peer_in left k).state) (peer_in left k).state → BreaksOff d peers k rest got state
  event_breaks (config.request r) replies left h leaves got state so =
      breaks may d peers k apart rest (before ++ replies) h.at (lived replies h.at.world h.lines (reached d (of_request w r) w refl refl replies shown h)) left leaves got state so
  event_breaks (config.turn moment) replies left (at_its_beginning stops) leaves got state so =
      so_far d peers k apart rest (before ++ replies) w.peers
      (lived replies w stops.lines (subst (λ rs. PeersLive d rs w w) (sym stops.asked) (rested d w w refl refl)))
      got state (so ∙ ap (λ (s : PeerState). cond got (closed s) s) (ap (λ (l : List Peer). (peer_in l k).state) (sym leaves)))
  event_breaks (config.turn moment) replies left (at_a_source h) leaves got state so =
      breaks may d peers k apart rest (before ++ replies) h.halts.at (lived replies h.halts.at.world h.halts.lines live) left leaves got state so
    where
      turn : World
      turn = turned d w moment

      live : PeersLive d replies w h.halts.at.world
      live =
          subst (λ rs. PeersLive d rs w h.halts.at.world) (sym h.replied)
          (then_live d h.first h.later w h.mid h.halts.at.world
          (then_live d [] h.first w turn h.mid (rested d w turn refl (quiet_line w.transcript (text_of_line d.types (lines.turn moment)) refl)) (sources d h.done h.first turn h.tally h.mid h.runs))
          (reached d (beginning h.mid (Due h.number)) h.mid refl refl h.later shown h.halts))

-- a peer as the session is finished
ends_so : (left : List Peer) (k : ℕ) → state_in (ended left) k ≡ cond (is_taken left k) (closed (peer_in left k).state) (peer_in left k).state
ends_so left k =
    closed_at left (map seen_of left) k ∙ ap (λ (s : PeerState). cond (is_taken left k) (closed s) s) (ap (λ (s : Seen). s.state) (seen_at left k))

pub cut_leaves : (may : Relations) → CutLeaves may
cut_leaves may d event replies w left added cut k apart =
    event_breaks may d w.peers k apart [] (peer_lines w.transcript) added (w.transcript ++ added) (filter-append is_peer_line w.transcript added) w
    (record { lines = []; shows = sym (append-nil (peer_lines w.transcript)); lives = nothing }) event replies left cut.halts cut.leaves false (peer_in left k).state refl

pub run_breaks_off : (may : Relations) → RunBreaksOff may
run_breaks_off may d peers events replies more tally last event left shown run cut k apart =
    event_breaks may d peers k apart replies [] shown shown refl last
    (record { lines = peer_lines last.transcript; shows = refl; lives = run_lives d peers events replies tally last run }) event more left cut.halts cut.leaves
    (is_taken left k) (state_in (ended left) k) (ends_so left k)

pub build_breaks_off : (may : Relations) → BuildBreaksOff may
build_breaks_off may d peers replies left shown h k apart =
    breaks may d peers k apart shown replies h.halts.at lives left h.leaves (is_taken left k) (state_in (ended left) k) (ends_so left k)
  where
    x : PeersLive d replies (first_world d peers) h.halts.at.world
    x = reached d (of_build d peers) (first_world d peers) refl refl replies shown h.halts

    lives : Lives d peers replies (peer_lines shown) h.halts.at.world.peers
    lives = subst (λ (l : List (List ℕ)). Lives d peers replies l h.halts.at.world.peers) (sym x.shown ∙ ap peer_lines h.halts.lines) x.lives
