-- A world at rest stays so where what its peers count and keep is forgotten, and where it is remembered.
use Rattle.std.proofs.Common.{◌≡◌, refl, ap, sym, ◌∙◌, subst, ℕ, suc, cond, List, [], ◌∷◌, map, Option, None, Some}
use Rattle.std.specs.Prelude.{option_map, slice_get}
use Rattle.std.proofs.lemmas.Option.{slice_get-map}
use Rattle.ui_machine.specs.Definition.{Definition}
use Rattle.ui_machine.specs.Definition.Names.{place_from, same_name}
use Rattle.ui_machine.specs.Definition.Places.{Place}
use Rattle.ui_machine.specs.Rules.Construction.{nearest_shape}
use Rattle.ui_machine.specs.State.Config.{World}
use Rattle.ui_machine.specs.State.Objects.{Object}
use Rattle.ui_machine.specs.State.Peers.{Peer, peer_number}
use Rattle.law_peers.specs.Forgetting.{forgotten, forgotten_in}
use Rattle.law_static.proofs.SourceProofs.{each_to}
use Rattle.law_typing.specs.Good.Objects.{PeerGood, PoolGood}
use Rattle.law_typing.specs.Laws.StepsKeepGood.{IsResting}
use Rattle.law_typing.specs.Verdict.Accepted.{Accepted}
use Rattle.native_peers.specs.Seen.{Seen}
use Rattle.engine_dispatches.specs.PoolView.{Knows, world_at}
use Rattle.engine_dispatches.specs.Promises.{Rests}
use Rattle.engine_dispatches.proofs.Points.{forgets_to}

-- a peer that may be in another's place
record Alike (p q : Peer) : Type 0 where
  holder : q.holder ≡ p.holder
  is_open : q.state.is_open ≡ p.state.is_open
  shape : q.state.shape ≡ p.state.shape

record SamePeers (ps qs : List Peer) : Type 0 where
  numbers : (name : List ℕ) → peer_number qs name ≡ peer_number ps name
  peers : (k : ℕ) (p : Peer) → slice_get ps k ≡ Some p → (q : Peer) × (slice_get qs k ≡ Some q) × Alike p q

same_places : (k : ℕ) (ps : List Peer) (name : List ℕ) → place_from (λ (p : Peer). p.name) k (map forgotten ps) name ≡ place_from (λ (p : Peer). p.name) k ps name
same_places k [] name = refl
same_places k (p ∷ ps) name = ap (λ (o : Option ℕ). cond (same_name p.name name) (Some k) o) (same_places (suc k) ps name)

forgets : (ps : List Peer) → SamePeers ps (map forgotten ps)
forgets ps = record {
  numbers = same_places 0 ps;
  peers = λ k p at. (forgotten p, slice_get-map forgotten ps k ∙ ap (option_map forgotten) at, record { holder = refl; is_open = refl; shape = refl });
}

remembers : (ps : List Peer) → SamePeers (map forgotten ps) ps
remembers ps = record {
  numbers = λ name. sym (same_places 0 ps name);
  peers = λ k p at. by k p (slice_get ps k) refl (sym (slice_get-map forgotten ps k) ∙ at);
}
  where
    by : (k : ℕ) (p : Peer) (o : Option Peer) → slice_get ps k ≡ o → option_map forgotten o ≡ Some p → (q : Peer) × (slice_get ps k ≡ Some q) × Alike p q
    by k p None is e = absurd (cc e)
    by k p (Some q) is e = let same : forgotten q ≡ p = cc e in (q, is, subst (λ (x : Peer). Alike x q) same (record { holder = refl; is_open = refl; shape = refl }))

module _ (d : Definition) (ps qs : List Peer) (same : SamePeers ps qs) where
  pool_still : (made place : ℕ) (p : Place) (name : List ℕ) → PoolGood d ps made place p name → PoolGood d qs made place p name
  pool_still made place p name g =
      let x = same.peers g.number g.peer g.has in
      record {
        number = g.number;
        peer = x.0;
        shape = g.shape;
        methods = g.methods;
        is = same.numbers name ∙ g.is;
        has = x.1;
        of_class = g.of_class;
        shaped = (g.shaped.0, x.2.shape ∙ g.shaped.1);
        is_open = λ none. x.2.is_open ∙ g.is_open (sym x.2.holder ∙ none);
        left = λ object made. x.2.holder ∙ g.left object made;
      }

  peer_still : (id : ℕ) (o : Object) → PeerGood d ps id o → PeerGood d qs id o
  peer_still id o = by (nearest_shape d o.class) refl
    where
      by : (shape : Option ℕ) → nearest_shape d o.class ≡ shape → PeerGood d ps id o → PeerGood d qs id o
      by None is g = rw is (rw is at g)
      by (Some shape) is g =
          let h = rw is at g in
          let x = same.peers h.0 h.1 h.3 in
          rw is (h.0, x.0, h.2, x.1, x.2.holder ∙ h.4, x.2.is_open ∙ h.5, x.2.shape ∙ h.6)

  rests_still : (a : Accepted d) (w : World) → w.peers ≡ ps → IsResting d a w → IsResting d a (record w { peers = qs })
  rests_still a w is r =
      let here = subst (λ (l : List Peer). IsResting d a (record w { peers = l })) is r in
      record {
        objects = λ id o e. (let g = here.objects id o e in record {
          place = g.place;
          is = g.is;
          class = g.class;
          values = g.values;
          children = g.children;
          parent = g.parent;
          queue = g.queue;
          apart = g.apart;
          peer = peer_still id o g.peer;
        });
        handlers = r.handlers;
        bindings = r.bindings;
        sources = r.sources;
        peers = λ place p at. each_to _ _ p.peers (λ name. pool_still _ place p name) (here.peers place p at);
        document = r.document;
        held = r.held;
        floating = r.floating;
        thawed = r.thawed;
        few = r.few;
      }

pub forgotten_rests : (d : Definition) (a : Accepted d) (w : World) → IsResting d a w → IsResting d a (forgotten_in w)
forgotten_rests d a w r = rests_still d w.peers (map forgotten w.peers) (forgets w.peers) a w refl r

pub remembered_rests : (d : Definition) (a : Accepted d) (w : World) → IsResting d a (forgotten_in w) → IsResting d a w
remembered_rests d a w r = rests_still d (map forgotten w.peers) w.peers (remembers w.peers) a (forgotten_in w) refl r

-- beside a pool that is known
pub rests_there : (d : Definition) (pool : List Seen) (w : World) → Knows w pool → Rests d w → Rests d (world_at pool w)
rests_there d pool w knows rests a = (
  remembered_rests d a (world_at pool w) (subst (λ (l : List Peer). IsResting d a (record w { peers = l })) (sym (forgets_to pool w.peers knows)) (rests a).0),
  record { objects = (rests a).1.objects; handlers = (rests a).1.handlers },
)

pub rests_here : (d : Definition) (pool : List Seen) (w : World) → Knows w pool → Rests d (world_at pool w) → Rests d w
rests_here d pool w knows rests a = (
  subst (λ (l : List Peer). IsResting d a (record w { peers = l })) (forgets_to pool w.peers knows) (forgotten_rests d a (world_at pool w) (rests a).0),
  record { objects = (rests a).1.objects; handlers = (rests a).1.handlers },
)
