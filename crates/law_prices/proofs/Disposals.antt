-- What a dispose takes away: the dispose of an object that was not disposed is paid once.
use Rattle.std.proofs.Common.{◌≡◌, refl, sym, ap, subst, ◌∙◌, ℕ, zero, suc, ◌+◌, Bool, true, false, cond, [], ◌∷◌, map, Option, None, Some, Result, Ok, slice_get, arith}
use Rattle.std.specs.Prelude.{option_map}
use Rattle.ui_machine.specs.declared.arm.Arm.{Arm}
use Rattle.ui_machine.specs.Seq.{read, total, write}
use Rattle.ui_machine.specs.Definition.{Definition}
use Rattle.ui_machine.specs.Outcome.{known}
use Rattle.ui_machine.specs.Output.Lines.{Line}
use Rattle.ui_machine.specs.Output.Lines as lines
use Rattle.ui_machine.specs.Rules.Disposal.{all_forget, children_of, closed_if_open, closing, disposed, forgets, is_first, lets_go, objects_disposed, one_lets_go, peer_of, said_if, without_object}
use Rattle.ui_machine.specs.State.Config.{World, said}
use Rattle.ui_machine.specs.State.Objects.{Object, Objects, living}
use Rattle.ui_machine.specs.State.Peers.{Peer, closed_peer, no_peer}
use Rattle.law_typing.specs.Graph.Tables.{Tables}
use Rattle.law_steps.proofs.Instructed.Inverse.{bound}
use Rattle.law_steps.proofs.Kept.DisposeProofs.{sum_mapped, sum_orphaned, sum_put}
use Rattle.law_prices.specs.Deeds.{PriceList}
use Rattle.law_prices.specs.Deeds as deeds
use Rattle.law_prices.specs.Potential.{object_price}
use Rattle.law_prices.specs.Prices.{price_of}
use Rattle.law_prices.specs.Steps.{first_dispose}
use Rattle.law_prices.proofs.Whole.{objects_price}

ok_same : {A : Type 0} (x y : A) → ◌≡◌ {A = Result A Arm} (Ok x) (Ok y) → x ≡ y
ok_same x y e = cc

-- a world with a peer closed and lines said, and the rest as it was
pub record OnlyPeers (w v : World) : Type 0 where
  pub objects : v.objects ≡ w.objects
  pub handlers : v.handlers ≡ w.handlers
  pub last : v.last_handler ≡ w.last_handler
  pub sources : v.sources ≡ w.sources
  pub floating : v.floating ≡ w.floating

only_itself : (w v : World) → w ≡ v → OnlyPeers w v
only_itself w v e = record {
  objects = ap (λ (w : World). w.objects) (sym e);
  handlers = ap (λ (w : World). w.handlers) (sym e);
  last = ap (λ (w : World). w.last_handler) (sym e);
  sources = ap (λ (w : World). w.sources) (sym e);
  floating = ap (λ (w : World). w.floating) (sym e);
}

closed_open : (d : Definition) (w : World) (number : ℕ) (p : Peer) → OnlyPeers w (closed_if_open d w number p)
closed_open d w number p = go p.state.is_open (record w { peers = write no_peer w.peers number (closed_peer p) })
  where
    go : (b : Bool) (x : World) → OnlyPeers w (cond b (said d (record w { peers = write no_peer w.peers number (closed_peer p) }) (lines.close p.name)) w)
    go true x = record { objects = refl; handlers = refl; last = refl; sources = refl; floating = refl }
    go false x = record { objects = refl; handlers = refl; last = refl; sources = refl; floating = refl }

closed_only : (d : Definition) (o : Option ℕ) (w v : World) → closing d o w ≡ Ok v → OnlyPeers w v
unfolding closing
closed_only d None w v e = only_itself w v (ok_same w v e)
closed_only d (Some number) w v e =
    let p = bound (known _ (slice_get w.peers number)) _ v e in
    subst (OnlyPeers w) (ok_same (closed_if_open d w number p.0) v p.2) (closed_open d w number p.0)

said_only : (d : Definition) (b : Bool) (w : World) (line : Line) → OnlyPeers w (said_if d b w line)
said_only d false w line = record { objects = refl; handlers = refl; last = refl; sources = refl; floating = refl }
said_only d true w line = record { objects = refl; handlers = refl; last = refl; sources = refl; floating = refl }

both_only : (w v x : World) → OnlyPeers w v → OnlyPeers v x → OnlyPeers w x
both_only w v x a b = record {
  objects = b.objects ∙ a.objects;
  handlers = b.handlers ∙ a.handlers;
  last = b.last ∙ a.last;
  sources = b.sources ∙ a.sources;
  floating = b.floating ∙ a.floating;
}

-- after a dispose the world is that without the object, but for its peer and what is said
pub disposed_only : (d : Definition) (w : World) (id : ℕ) (v : World) → disposed d w id ≡ Ok v → OnlyPeers (without_object d w id) v
disposed_only d w id v e =
    let said_w = said_if d (is_first (living w.objects id)) (without_object d w id) (lines.dispose id) in
    both_only (without_object d w id) said_w v (said_only d (is_first (living w.objects id)) (without_object d w id) (lines.dispose id)) (closed_only d (peer_of (living w.objects id)) said_w v e)

-- ** objects

living_forgets : (f : Object → Object) (os : Objects) (id : ℕ) → living (map (option_map f) os) id ≡ option_map f (living os id)
living_forgets f os zero = refl
living_forgets f os (suc i) = go os i
  where
    go : (os : Objects) (i : ℕ) → read None (map (option_map f) os) i ≡ option_map f (read None os i)
    go [] i = refl
    go (x ∷ os) zero = refl
    go (x ∷ os) (suc i) = go os i

module _ (d : Definition) (P : PriceList) (t : Tables) (making : ℕ) where
  -- the dispose of an object that was not disposed
  abbrev pub first_price : Object → ℕ
  first_price o = cond o.disposed 0 (P (deeds.dispose o.place))

  pub first_is : (o : Object) → total P (first_dispose o) ≡ first_price o
  first_is o = go o.disposed
    where
      go : (b : Bool) → total P (cond b [] (deeds.dispose o.place ∷ [])) ≡ cond b 0 (P (deeds.dispose o.place))
      go true = refl
      go false = omega arith

  lets_go_price : (o : Object) → object_price d P t making (lets_go d o) + first_price o ≡ object_price d P t making o
  lets_go_price o = omega arith

  pub disposed_price : (id : ℕ) (os : Objects) (o : Object) → living os id ≡ Some o → objects_price d P t making (objects_disposed d id os) + first_price o ≡ objects_price d P t making os
  disposed_price zero os o is = absurd (cc)
  disposed_price (suc i) os o is =
      let f = price_of (object_price d P t making) in
      let forgot = all_forget d (suc i) os in
      let a = sum_mapped f refl (forgets d (suc i)) (λ o. refl) os in
      let here : living forgot (suc i) ≡ Some (forgets d (suc i) o) = living_forgets (forgets d (suc i)) os (suc i) ∙ ap (option_map (forgets d (suc i))) is in
      let b = sum_put f refl (option_map (lets_go d) (living forgot (suc i))) forgot i in
      let was = ap f here in
      let now = ap (λ (x : Option Object). f (option_map (lets_go d) x)) here in
      let c = sum_orphaned f refl (λ o. refl) (children_of (living os (suc i))) (one_lets_go d (suc i) forgot) in
      let own = lets_go_price (forgets d (suc i) o) in
      omega (arith, a, b, was, now, c, own)
