-- A peer is in another state, of the same shape and as open as it was: what is good of a world stays so.
use Rattle.std.proofs.Common.{◌≡◌, inr, refl, sym, ap, ◌∙◌, ℕ, Bool, true, false, List, Option, None, Some, slice_get, arith}
use Rattle.std.specs.Prelude.{nat_eq}
use Rattle.std.proofs.lemmas.Bool.{eqb-true, eqb-false}
use Rattle.ui_machine.specs.Seq.{write}
use Rattle.ui_machine.specs.Definition.{Definition}
use Rattle.ui_machine.specs.Definition.Places.{Place}
use Rattle.ui_machine.specs.Definition.Values.{Value}
use Rattle.ui_machine.specs.Rules.Construction.{nearest_shape}
use Rattle.ui_machine.specs.State.Config.{World}
use Rattle.ui_machine.specs.State.Objects.{Object}
use Rattle.ui_machine.specs.State.Peers.{PeerState, Peer, no_peer}
use Rattle.ui_machine.specs.State.Tasks.{Task}
use Rattle.law_typing.specs.Good.Standing.{view}
use Rattle.law_typing.specs.Good.Objects.{PeerGood, ObjectsGood, PoolGood, PeersGood}
use Rattle.law_steps.specs.Kept.Agenda.{Serves}
use Rattle.law_steps.proofs.Kept.DisposeProofs.{names_written}
use Rattle.law_steps.proofs.Kept.Left.{each_to}
use Rattle.law_steps.proofs.Kept.NewProofs.{peer_write}

module _ (d : Definition) (w : World) (n : ℕ) (p : Peer) (is : slice_get w.peers n ≡ Some p) (state : PeerState) (shape : state.shape ≡ p.state.shape) (openness : state.is_open ≡ p.state.is_open) where
  -- the pool with the peer in that state
  abbrev pub pool : List Peer
  pool = write no_peer w.peers n (record p { state = state })

  -- a peer of it has the shape and the holder that it had, and is as open
  record Same (number : ℕ) (old : Peer) : Type 0 where
    pub now : Peer
    pub is_there : slice_get pool number ≡ Some now
    pub methods : now.state.shape ≡ old.state.shape
    pub is_open : now.state.is_open ≡ old.state.is_open
    pub holder : now.holder ≡ old.holder

  peer_same : (number : ℕ) (old : Peer) → slice_get w.peers number ≡ Some old → Same number old
  peer_same number old at = go (nat_eq n number) refl
    where
      go : (b : Bool) → nat_eq n number ≡ b → Same number old
      go true t =
          let here = eqb-true n number t in
          let one : p ≡ old = (let f = sym is ∙ (ap (slice_get w.peers) here ∙ at) in cc) in
          record {
            now = record p { state = state };
            is_there = ((peer_write w.peers n (record p { state = state }) number old at).1 here).0;
            methods = shape ∙ ap (λ (p : Peer). p.state.shape) one;
            is_open = openness ∙ ap (λ (p : Peer). p.state.is_open) one;
            holder = ap (λ (p : Peer). p.holder) one;
          }
      go false t = record {
        now = old;
        is_there = (peer_write w.peers n (record p { state = state }) number old at).0 (eqb-false n number t);
        methods = refl;
        is_open = refl;
        holder = refl;
      }

  pub pool_good : (made : ℕ) → PeersGood d w.peers made → PeersGood d pool made
  pool_good made g place own there = each_to _ _ own.peers (λ name old. still place own name old) (g place own there)
    where
      still : (place : ℕ) (own : Place) (name : List ℕ) → PoolGood d w.peers made place own name → PoolGood d pool made place own name
      still place own name old =
          let x = peer_same old.number old.peer old.has in
          record {
            number = old.number;
            peer = x.now;
            shape = old.shape;
            methods = old.methods;
            is = names_written w.peers n (record p { state = state }) p name is refl ∙ old.is;
            has = x.is_there;
            of_class = old.of_class;
            shaped = (old.shaped.0, x.methods ∙ old.shaped.1);
            is_open = λ free. x.is_open ∙ old.is_open (sym x.holder ∙ free);
            left = λ object made. x.holder ∙ old.left object made;
          }

  own_good : (id : ℕ) (o : Object) → PeerGood d w.peers id o → PeerGood d pool id o
  own_good id o g = by (nearest_shape d o.class) refl
    where
      by : (shape : Option ℕ) → nearest_shape d o.class ≡ shape → PeerGood d pool id o
      by None e = rw e (rw e at g)
      by (Some shape) e = rw e (let h = rw e at g in let x = peer_same h.0 h.1 h.3 in (h.0, x.now, h.2, x.is_there, x.holder ∙ h.4, x.is_open ∙ h.5, x.methods ∙ h.6))

  pub objects_good : (lines : List (List ℕ)) (v : Option Value) → ObjectsGood d w → ObjectsGood d (record w { peers = pool; transcript = lines; result = v })
  objects_good lines v g id o e = let x = g id o e in record {
    place = x.place;
    is = x.is;
    class = x.class;
    values = x.values;
    children = x.children;
    parent = x.parent;
    queue = x.queue;
    apart = x.apart;
    peer = own_good id o x.peer;
  }

  pub pool_serves : (lines : List (List ℕ)) (v : Option Value) (agenda : List Task) → Serves d agenda (view w) (view (record w { peers = pool; transcript = lines; result = v }))
  pool_serves lines v agenda = record {
    stands = λ id some place e. e;
    held = λ place id at e here. here;
    builder = refl;
    last = omega arith;
    handlers = λ number low h there. (h, there, refl, refl, refl);
    bindings = λ number b there. there;
    sources = inr refl;
    peers = λ number old at. (let x = peer_same number old at in (x.now, x.is_there, x.methods));
  }
