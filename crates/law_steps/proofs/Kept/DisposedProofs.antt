-- A dispose keeps each object good.
use Rattle.std.proofs.Common.{◌≡◌, inl, inr, ◌⊎◌, refl, sym, ap, subst, ◌∙◌, ℕ, zero, suc, Bool, true, false, cond, List, [], ◌∷◌, map, Option, None, Some, Ok, slice_get}
use Rattle.std.proofs.Math.Path.{fun_ext}
use Rattle.std.specs.Prelude.{nat_eq, option_map}
use Rattle.std.proofs.lemmas.Bool.{eqb-true, eqb-false}
use Rattle.ui_machine.specs.Seq.{read, write, total}
use Rattle.ui_machine.specs.Definition.Values.{Value}
use Rattle.ui_machine.specs.Definition.Values as values
use Rattle.ui_machine.specs.Definition.Properties.{Spec}
use Rattle.ui_machine.specs.Definition.{Definition}
use Rattle.ui_machine.specs.Definition.Lookups.{specs_of, spec_of}
use Rattle.ui_machine.specs.State.Objects.{Object, Objects, living}
use Rattle.ui_machine.specs.State.Peers.{Peer, no_peer, closed_peer, peer_number}
use Rattle.ui_machine.specs.State.Config.{World, said}
use Rattle.ui_machine.specs.Rules.Programs.{place_in}
use Rattle.ui_machine.specs.Rules.Construction.{nearest_shape}
use Rattle.ui_machine.specs.Rules.Disposal.{names_object, is_object, nulled, forgets, lets_go, without_parent, orphans, children_of, closed_if_open, closing, said_if, is_first, peer_of, all_forget, one_lets_go, objects_disposed, without_object, disposed}
use Rattle.ui_machine.specs.Output.Lines as lines
use Rattle.law_typing.specs.Verdict.Accepted.{Each}
use Rattle.law_typing.specs.Laws.{IsIn}
use Rattle.law_typing.specs.Good.Standing.{Standing, standing, Lives}
use Rattle.law_typing.specs.Good.Objects.{ValueGood, PeerGood, FamilyGood, ObjectGood, ObjectsGood}
use Rattle.law_steps.specs.Kept.Dispose.{Shed, DisposedKept, DisposeKeeps}
use Rattle.law_steps.proofs.Kept.DisposeProofs.{Was, was, place_same, orphaned_was, orphaned_place, nulled_at, nulled_good, forgotten, let_go, not_named, sum_changed, sum_mapped, sum_orphaned, names_written}
use Rattle.law_steps.proofs.Kept.NewProofs.{at_place, peer_write}

read_mapped : (f : Object → Object) (os : Objects) (i : ℕ) → read None (map (option_map f) os) i ≡ option_map f (read None os i)
read_mapped f [] i = refl
read_mapped f (x ∷ os) zero = refl
read_mapped f (x ∷ os) (suc i) = read_mapped f os i

living_mapped : (f : Object → Object) (os : Objects) (id : ℕ) → living (map (option_map f) os) id ≡ option_map f (living os id)
living_mapped f os zero = refl
living_mapped f os (suc i) = read_mapped f os i

abbrev weak_named : ℕ → Spec → Value → Bool
weak_named id s v = cond s.weak (names_object id v) false

abbrev strong_object : Spec → Value → Bool
strong_object s v = cond s.weak false (is_object v)

module _ (d : Definition) (w : World) (id : ℕ) (o : Object) (is : living w.objects id ≡ Some o) (good : ObjectsGood d w) where
  abbrev s : Standing
  s = standing w.objects

  abbrev nos : Objects
  nos = objects_disposed d id w.objects

  abbrev shed : List Spec → List Value → List Value
  shed specs vs = nulled (weak_named id) specs vs

  -- what is known of the values afterwards
  abbrev ValuesKept : ℕ → List Value → List Value → Type 0
  ValuesKept class olds vs = (slot : ℕ) (spec : Spec) → spec_of d class slot ≡ Some spec →
      ValueGood d s spec (slice_get vs slot) × (spec.weak ≡ true → (v : Value) → slice_get vs slot ≡ Some v → names_object id v ≡ false)
      × ((v : Value) → slice_get vs slot ≡ Some v → (v ≡ values.object None) ⊎ (slice_get olds slot ≡ Some v))

  -- an object afterwards, by what it was
  record Left (j : ℕ) (x : Object) : Type 0 where
    pub old : Object
    pub old_is : living w.objects j ≡ Some old
    pub vs : List Value
    pub cs : List ℕ
    pub b : Bool
    pub p : Option ℕ
    pub shape : x ≡ record old { values = vs; children = cs; parent = p; disposed = b }
    pub kept : ValuesKept old.class old.values vs
    pub this : ((id ≡ j) × (cs ≡ []) × (b ≡ true)) ⊎ ((id ≡ j → ⊥) × (cs ≡ old.children) × (b ≡ old.disposed))
    pub family : (p ≡ None) ⊎ ((p ≡ old.parent) × (IsIn j o.children → ⊥))

  null_or : {P : Type 0} (b : Bool) (own v : Value) → Some (cond b (values.object None) own) ≡ Some v → (own ≡ v → P) → (v ≡ values.object None) ⊎ P
  null_or true own v e f = inl (let h : values.object None ≡ v = cc in sym h)
  null_or false own v e f = inr (f (let h : own ≡ v = cc in h))

  forgot_values : (y : Object) → ((slot : ℕ) (spec : Spec) → spec_of d y.class slot ≡ Some spec → ValueGood d s spec (slice_get y.values slot)) → ValuesKept y.class y.values (shed (specs_of d y.class) y.values)
  forgot_values y g slot spec has = (
    nulled_good d s y.class (weak_named id) (forgotten id) y.values slot spec has (g slot spec has),
    λ weak v e.
        (let own = g slot spec has in
        let now = nulled_at (weak_named id) (specs_of d y.class) y.values slot spec own.value has own.is in
        let at = now ∙ ap (λ b. Some (cond (cond b (names_object id own.value) false) (values.object None) own.value)) weak in
        let same : cond (names_object id own.value) (values.object None) own.value ≡ v = (let f = sym at ∙ e in cc) in
        subst (λ v. names_object id v ≡ false) same (not_named id own.value)),
    λ v e.
        (let own = g slot spec has in
        let now = nulled_at (weak_named id) (specs_of d y.class) y.values slot spec own.value has own.is in
        null_or (weak_named id spec own.value) own.value v (let f = sym now ∙ e in f) (λ same. own.is ∙ ap (λ (v : Value). Some v) same)),
  )

  let_go_values : (class : ℕ) (olds vs : List Value) → ValuesKept class olds vs → ValuesKept class olds (nulled strong_object (specs_of d class) vs)
  let_go_values class olds vs g slot spec has = (
    nulled_good d s class strong_object let_go vs slot spec has (g slot spec has).0,
    λ weak v e.
        (let own = (g slot spec has).0 in
        let now = nulled_at strong_object (specs_of d class) vs slot spec own.value has own.is in
        let at = now ∙ ap (λ b. Some (cond (cond b false (is_object own.value)) (values.object None) own.value)) weak in
        let same : own.value ≡ v = (let f = sym at ∙ e in cc) in
        subst (λ v. names_object id v ≡ false) same ((g slot spec has).1 weak own.value own.is)),
    λ v e.
        (let own = (g slot spec has).0 in
        let now = nulled_at strong_object (specs_of d class) vs slot spec own.value has own.is in
        of (null_or (strong_object spec own.value) own.value v (let f = sym now ∙ e in f) (λ same. (g slot spec has).2 v (own.is ∙ ap (λ (v : Value). Some v) same)))),
  )
    where
      of : {A B : Type 0} → A ⊎ (A ⊎ B) → A ⊎ B
      of (inl a) = inl a
      of (inr h) = h

  left : (j : ℕ) (x : Object) → living nos j ≡ Some x → Left j x
  left j x e = of a.0 a.2 (was (lets_go d) id j (all_forget d id w.objects) a.0 a.1)
    where
      abbrev_children : children_of (living w.objects id) ≡ o.children
      abbrev_children = ap children_of is

      a : (y : Object) × (living (one_lets_go d id (all_forget d id w.objects)) j ≡ Some y) × ((x ≡ without_parent y) ⊎ ((x ≡ y) × (IsIn j o.children → ⊥)))
      a = orphaned_was o.children (one_lets_go d id (all_forget d id w.objects)) j x
          (subst (λ ids. living (orphans ids (one_lets_go d id (all_forget d id w.objects))) j ≡ Some x) abbrev_children e)

      forgot : (m : Object) → living (all_forget d id w.objects) j ≡ Some m → (y : Object) × (living w.objects j ≡ Some y) × (m ≡ forgets d id y)
      forgot m e = go (living w.objects j) refl (sym (living_mapped (forgets d id) w.objects j) ∙ e)
        where
          go : (q : Option Object) → living w.objects j ≡ q → option_map (forgets d id) q ≡ Some m → (y : Object) × (living w.objects j ≡ Some y) × (m ≡ forgets d id y)
          go None f g = absurd (cc)
          go (Some y) f g = (y, f, (let h : forgets d id y ≡ m = cc in sym h))

      -- from before the orphans on
      ended : (y m : Object) (vs : List Value) (cs : List ℕ) (b : Bool) → living w.objects j ≡ Some y → m ≡ record y { values = vs; children = cs; disposed = b } →
          ValuesKept y.class y.values vs → ((id ≡ j) × (cs ≡ []) × (b ≡ true)) ⊎ ((id ≡ j → ⊥) × (cs ≡ y.children) × (b ≡ y.disposed)) →
          (x ≡ without_parent m) ⊎ ((x ≡ m) × (IsIn j o.children → ⊥)) → Left j x
      ended y m vs cs b there shape kept this (inl h) = record {
        old = y;
        old_is = there;
        vs = vs;
        cs = cs;
        b = b;
        p = None;
        shape = h ∙ ap without_parent shape;
        kept = kept;
        this = this;
        family = inl refl;
      }
      ended y m vs cs b there shape kept this (inr h) = record {
        old = y;
        old_is = there;
        vs = vs;
        cs = cs;
        b = b;
        p = y.parent;
        shape = h.0 ∙ shape;
        kept = kept;
        this = this;
        family = inr (refl, h.1);
      }

      of : (m : Object) → (x ≡ without_parent m) ⊎ ((x ≡ m) × (IsIn j o.children → ⊥)) → Was (lets_go d) id j (all_forget d id w.objects) m → Left j x
      of m how u = by (forgot u.old u.is) u.how
        where
          by : ((y : Object) × (living w.objects j ≡ Some y) × (u.old ≡ forgets d id y)) → ((id ≡ j) × (m ≡ lets_go d u.old)) ⊎ ((id ≡ j → ⊥) × (m ≡ u.old)) → Left j x
          by f (inl h) =
              let kept = forgot_values f.0 (good j f.0 f.1).values in
              ended f.0 m (nulled strong_object (specs_of d f.0.class) (shed (specs_of d f.0.class) f.0.values)) [] true f.1 (h.1 ∙ ap (lets_go d) f.2)
              (let_go_values f.0.class f.0.values (shed (specs_of d f.0.class) f.0.values) kept) (inl (h.0, refl, refl)) how
          by f (inr h) =
              ended f.0 m (shed (specs_of d f.0.class) f.0.values) f.0.children f.0.disposed f.1 (h.1 ∙ f.2) (forgot_values f.0 (good j f.0 f.1).values)
              (inr (h.0, refl, refl)) how

  -- ** who is still at a place

  stands_same : standing nos ≡ s
  stands_same = fun_ext (λ j.
      orphaned_place (children_of (living w.objects id)) (one_lets_go d id (all_forget d id w.objects)) j
      ∙ (place_same (lets_go d) (λ o. refl) id j (all_forget d id w.objects) ∙ forgot_place j))
    where
      mapped : (q : Option Object) → option_map (λ (o : Object). o.place) (option_map (forgets d id) q) ≡ option_map (λ (o : Object). o.place) q
      mapped None = refl
      mapped (Some q) = refl

      forgot_place : (j : ℕ) → place_in (all_forget d id w.objects) j ≡ place_in w.objects j
      forgot_place j = ap (option_map (λ (o : Object). o.place)) (living_mapped (forgets d id) w.objects j) ∙ mapped (living w.objects j)

  -- ** families

  family_kept : (j : ℕ) (p : Option ℕ) → (IsIn j o.children → ⊥) → FamilyGood w.objects j p → FamilyGood nos j p
  family_kept j None none f = tt
  family_kept j (Some above) none f = found (at_place nos above f.0.place (ap (λ (s : Standing). s above) stands_same ∙ ap (option_map (λ (o : Object). o.place)) f.1))
    where
      found : ((q : Object) × (living nos above ≡ Some q) × (q.place ≡ f.0.place)) → FamilyGood nos j (Some above)
      found q = (q.0, q.1, by (left above q.0 q.1))
        where
          by : Left above q.0 → IsIn j q.0.children
          by l = go l.this
            where
              old_same : l.old ≡ f.0
              old_same = (let e = sym l.old_is ∙ f.1 in cc)

              go : ((id ≡ above) × (l.cs ≡ []) × (l.b ≡ true)) ⊎ ((id ≡ above → ⊥) × (l.cs ≡ l.old.children) × (l.b ≡ l.old.disposed)) → IsIn j q.0.children
              go (inl h) =
                  absurd (none (let e = sym (ap (living w.objects) h.0) ∙ is in let f_is : f.0 ≡ o = (let g = sym f.1 ∙ e in cc) in subst (λ (p : Object). IsIn j p.children) f_is f.2))
              go (inr h) =
                  subst (IsIn j) (sym (ap (λ (x : Object). x.children) l.shape ∙ (h.1 ∙ ap (λ (x : Object). x.children) old_same))) f.2

  -- ** peers

  record Closed (ps : List Peer) (number : ℕ) (p : Peer) : Type 0 where
    pub now : Peer
    pub now_is : slice_get ps number ≡ Some now
    pub methods : now.state.shape ≡ p.state.shape
    pub holder : now.holder ≡ p.holder
    pub how : ((o.peer ≡ Some number) × (now.state.is_open ≡ false)) ⊎ ((o.peer ≡ Some number → ⊥) × (now ≡ p))

  abbrev ClosedPeers : List Peer → Type 0
  ClosedPeers ps = (number : ℕ) (p : Peer) → slice_get w.peers number ≡ Some p → Closed ps number p

  -- an object's own peer is no other's
  peer_kept : (ps : List Peer) → ClosedPeers ps → (j : ℕ) (y : Object) (vs : List Value) (cs : List ℕ) (p : Option ℕ) (b : Bool) → living w.objects j ≡ Some y →
      ((id ≡ j) × (cs ≡ []) × (b ≡ true)) ⊎ ((id ≡ j → ⊥) × (cs ≡ y.children) × (b ≡ y.disposed)) → PeerGood d w.peers j y →
      PeerGood d ps j (record y { values = vs; children = cs; parent = p; disposed = b })
  peer_kept ps closed j y vs cs p b there this g = by (nearest_shape d y.class) refl
    where
      -- the object whose peer it is
      one : (number : ℕ) (q : Peer) → o.peer ≡ Some number → slice_get w.peers number ≡ Some q → q.holder ≡ Some j → id ≡ j
      one number q own q_is held = at (nearest_shape d o.class) refl
        where
          at : (shape : Option ℕ) → nearest_shape d o.class ≡ shape → id ≡ j
          at None e = absurd (let none = rw e at (good id o is).peer in let f = sym own ∙ none in cc)
          at (Some shape) e =
              let h = rw e at (good id o is).peer in
              let n : h.0 ≡ number = (let f = sym h.2 ∙ own in cc) in
              let same : h.1 ≡ q = (let f = sym h.3 ∙ (ap (slice_get w.peers) n ∙ q_is) in cc) in
              let f = sym h.4 ∙ (ap (λ (p : Peer). p.holder) same ∙ held) in cc

      open_as : (number : ℕ) (q : Peer) (c : Closed ps number q) → y.peer ≡ Some number → slice_get w.peers number ≡ Some q → q.holder ≡ Some j →
          q.state.is_open ≡ cond y.disposed false true → c.now.state.is_open ≡ cond b false true
      open_as number q c own q_is held opened = go c.how this
        where
          go : ((o.peer ≡ Some number) × (c.now.state.is_open ≡ false)) ⊎ ((o.peer ≡ Some number → ⊥) × (c.now ≡ q)) →
              ((id ≡ j) × (cs ≡ []) × (b ≡ true)) ⊎ ((id ≡ j → ⊥) × (cs ≡ y.children) × (b ≡ y.disposed)) → c.now.state.is_open ≡ cond b false true
          go (inl h) (inl k) = h.1 ∙ sym (ap (λ b. cond b false true) k.2)
          go (inl h) (inr k) = absurd (k.0 (one number q h.0 q_is held))
          go (inr h) (inl k) =
              absurd (h.0 (let e = sym (ap (living w.objects) k.0) ∙ is in let same : y ≡ o = (let f = sym there ∙ e in cc) in ap (λ (y : Object). y.peer) (sym same) ∙ own))
          go (inr h) (inr k) = ap (λ (p : Peer). p.state.is_open) h.1 ∙ (opened ∙ sym (ap (λ b. cond b false true) k.2))

      by : (shape : Option ℕ) → nearest_shape d y.class ≡ shape → PeerGood d ps j (record y { values = vs; children = cs; parent = p; disposed = b })
      by None e = rw e (rw e at g)
      by (Some shape) e =
          rw e (let h = rw e at g in let c = closed h.0 h.1 h.3 in (h.0, c.now, h.2, c.now_is, c.holder ∙ h.4, open_as h.0 h.1 c h.2 h.3 h.4 h.5, c.methods ∙ h.6))

  -- ** the whole

  object_kept : (v : World) → v.objects ≡ nos → ClosedPeers v.peers → (j : ℕ) (x : Object) → living nos j ≡ Some x → ObjectGood d v (standing v.objects) j x
  object_kept v objects closed j x e =
      let l = left j x e in
      let g = good j l.old l.old_is in
      subst (ObjectGood d v (standing v.objects) j) (sym l.shape)
      (subst (λ (z : Standing). ObjectGood d v z j (record l.old { values = l.vs; children = l.cs; parent = l.p; disposed = l.b })) (sym (ap standing objects ∙ stands_same))
      (record {
        place = g.place;
        is = g.is;
        class = g.class;
        values = λ slot spec has. (l.kept slot spec has).0;
        children = children l.old l.cs l.b l.this g.children;
        parent = subst (λ os. FamilyGood os j l.p) (sym objects) (parent l.old l.p l.family g.parent);
        queue = g.queue;
        apart = g.apart;
        peer = peer_kept v.peers closed j l.old l.vs l.cs l.p l.b l.old_is l.this g.peer;
      }))
    where
      children : (y : Object) (cs : List ℕ) (b : Bool) → ((id ≡ j) × (cs ≡ []) × (b ≡ true)) ⊎ ((id ≡ j → ⊥) × (cs ≡ y.children) × (b ≡ y.disposed)) → Each (Lives s) y.children → Each (Lives s) cs
      children y cs b (inl h) all = subst (Each (Lives s)) (sym h.1) tt
      children y cs b (inr h) all = subst (Each (Lives s)) (sym h.1) all

      parent : (y : Object) (p : Option ℕ) → (p ≡ None) ⊎ ((p ≡ y.parent) × (IsIn j o.children → ⊥)) → FamilyGood w.objects j y.parent → FamilyGood nos j p
      parent y p (inl h) f = subst (FamilyGood nos j) (sym h) tt
      parent y p (inr h) f = subst (FamilyGood nos j) (sym h.0) (family_kept j y.parent h.1 f)

  -- ** the peer is closed

  abbrev shed_world : World
  shed_world = without_object d w id

  -- what the world is in the end
  record Ends (v : World) : Type 0 where
    pub answers : disposed d w id ≡ Ok v
    pub transcript : List (List ℕ)
    pub peers : List Peer
    pub shape : v ≡ record shed_world { transcript = transcript; peers = peers }
    pub closed : ClosedPeers peers
    pub names : (name : List ℕ) → peer_number peers name ≡ peer_number w.peers name

  said_like : (b : Bool) (x : World) (n : ℕ) → (t : List (List ℕ)) × (said_if d b x (lines.dispose n) ≡ record x { transcript = t })
  said_like true x n = ((said d x (lines.dispose n)).transcript, refl)
  said_like false x n = (x.transcript, refl)

  abbrev told : World
  told = said_if d (is_first (living w.objects id)) shed_world (lines.dispose id)

  told_like : (t : List (List ℕ)) × (told ≡ record shed_world { transcript = t })
  told_like = said_like (is_first (living w.objects id)) shed_world id

  closing_none : (x : World) → closing d None x ≡ Ok x
  unfolding closing
  closing_none x = refl

  closing_some : (n : ℕ) (x : World) (p : Peer) → slice_get x.peers n ≡ Some p → closing d (Some n) x ≡ Ok (closed_if_open d x n p)
  unfolding closing
  closing_some n x p e = rw e

  open_left : (number : ℕ) (q : Peer) → slice_get w.peers number ≡ Some q → (o.peer ≡ Some number → ⊥) → Closed w.peers number q
  open_left number q e none = record { now = q; now_is = e; methods = refl; holder = refl; how = inr (none, refl) }

  same_peer : (n number : ℕ) (p q : Peer) → n ≡ number → slice_get w.peers n ≡ Some p → slice_get w.peers number ≡ Some q → p ≡ q
  same_peer n number p q same e f = let g = sym (ap (slice_get w.peers) same) ∙ e in let h = sym g ∙ f in cc

  not_own : (n number : ℕ) → o.peer ≡ Some n → (n ≡ number → ⊥) → o.peer ≡ Some number → ⊥
  not_own n number own apart e = apart (let f = sym own ∙ e in cc)

  was_closed : (n : ℕ) (p : Peer) → o.peer ≡ Some n → slice_get w.peers n ≡ Some p → p.state.is_open ≡ false → ClosedPeers w.peers
  was_closed n p own p_is shut number q e = go (nat_eq n number) refl
    where
      go : (b : Bool) → nat_eq n number ≡ b → Closed w.peers number q
      go true t =
          let same = eqb-true n number t in
          record {
            now = q;
            now_is = e;
            methods = refl;
            holder = refl;
            how = inl (own ∙ ap (λ (n : ℕ). Some n) same, sym (ap (λ (p : Peer). p.state.is_open) (same_peer n number p q same p_is e)) ∙ shut);
          }
      go false t = open_left number q e (not_own n number own (eqb-false n number t))

  is_closed : (n : ℕ) (p : Peer) → o.peer ≡ Some n → slice_get w.peers n ≡ Some p → ClosedPeers (write no_peer w.peers n (closed_peer p))
  is_closed n p own p_is number q e = go (nat_eq n number) refl
    where
      go : (b : Bool) → nat_eq n number ≡ b → Closed (write no_peer w.peers n (closed_peer p)) number q
      go true t =
          let same = eqb-true n number t in
          let one = same_peer n number p q same p_is e in
          record {
            now = closed_peer p;
            now_is = ((peer_write w.peers n (closed_peer p) number q e).1 same).0;
            methods = ap (λ (p : Peer). p.state.shape) one;
            holder = ap (λ (p : Peer). p.holder) one;
            how = inl (own ∙ ap (λ (n : ℕ). Some n) same, refl);
          }
      go false t =
          let apart = eqb-false n number t in
          record {
            now = q;
            now_is = (peer_write w.peers n (closed_peer p) number q e).0 apart;
            methods = refl;
            holder = refl;
            how = inr (not_own n number own apart, refl);
          }

  ends : (v : World) × Ends v
  ends = at (nearest_shape d o.class) refl
    where
      own_peer : peer_of (living w.objects id) ≡ o.peer
      own_peer = ap peer_of is

      with_peer : (n : ℕ) (p : Peer) → o.peer ≡ Some n → slice_get w.peers n ≡ Some p → (v : World) × Ends v
      with_peer n p own p_is = go p.state.is_open refl
        where
          there : slice_get told.peers n ≡ Some p
          there = ap (λ (x : World). slice_get x.peers n) told_like.1 ∙ p_is

          answer : disposed d w id ≡ Ok (closed_if_open d told n p)
          answer = ap (λ o. closing d o told) (own_peer ∙ own) ∙ closing_some n told p there

          go : (b : Bool) → p.state.is_open ≡ b → (v : World) × Ends v
          go true e = (
            said d (record told { peers = write no_peer told.peers n (closed_peer p) }) (lines.close p.name),
            record {
              answers = answer ∙ ap (λ b. Ok (cond b (said d (record told { peers = write no_peer told.peers n (closed_peer p) }) (lines.close p.name)) told)) e;
              transcript = (said d (record told { peers = write no_peer told.peers n (closed_peer p) }) (lines.close p.name)).transcript;
              peers = write no_peer w.peers n (closed_peer p);
              shape =
                  ap (λ (x : World). record x {
                    peers = write no_peer x.peers n (closed_peer p);
                    transcript = (said d (record told { peers = write no_peer told.peers n (closed_peer p) }) (lines.close p.name)).transcript;
                  }) told_like.1;
              closed = is_closed n p own p_is;
              names = λ name. names_written w.peers n (closed_peer p) p name p_is refl;
            },
          )
          go false e = (
            told,
            record {
              answers = answer ∙ ap (λ b. Ok (cond b (said d (record told { peers = write no_peer told.peers n (closed_peer p) }) (lines.close p.name)) told)) e;
              transcript = told_like.0;
              peers = w.peers;
              shape = told_like.1;
              closed = was_closed n p own p_is e;
              names = λ name. refl;
            },
          )

      at : (shape : Option ℕ) → nearest_shape d o.class ≡ shape → (v : World) × Ends v
      at None e =
          let none = rw e at (good id o is).peer in (
            told,
            record {
              answers = ap (λ o. closing d o told) (own_peer ∙ none) ∙ closing_none told;
              transcript = told_like.0;
              peers = w.peers;
              shape = told_like.1;
              closed = λ number q f. open_left number q f (λ g. (let h = sym none ∙ g in cc));
              names = λ name. refl;
            },
          )
      at (Some shape) e = let h = rw e at (good id o is).peer in with_peer h.0 h.1 h.2 h.3

  shed_of : (j : ℕ) (x : Object) → living nos j ≡ Some x → (y : Object) × (living w.objects j ≡ Some y) × Shed d id y x
  shed_of j x e =
      let l = left j x e in (
        l.old,
        l.old_is,
        record {
          place = ap (λ (x : Object). x.place) l.shape;
          class = ap (λ (x : Object). x.class) l.shape;
          freezes = ap (λ (x : Object). x.freezes) l.shape;
          queue = ap (λ (x : Object). x.queue) l.shape;
          unnamed = λ slot spec v has there weak.
              (l.kept slot spec (sym (ap (λ (x : Object). spec_of d x.class slot) l.shape) ∙ has)).1 weak v
              (sym (ap (λ (x : Object). slice_get x.values slot) l.shape) ∙ there);
          came = λ slot spec v has there.
              (l.kept slot spec (sym (ap (λ (x : Object). spec_of d x.class slot) l.shape) ∙ has)).2 v
              (sym (ap (λ (x : Object). slice_get x.values slot) l.shape) ∙ there);
          children = λ child there. fewer l child l.this (subst (IsIn child) (ap (λ (x : Object). x.children) l.shape) there);
        },
      )
    where
      fewer : (l : Left j x) (child : ℕ) → ((id ≡ j) × (l.cs ≡ []) × (l.b ≡ true)) ⊎ ((id ≡ j → ⊥) × (l.cs ≡ l.old.children) × (l.b ≡ l.old.disposed)) → IsIn child l.cs → IsIn child l.old.children
      fewer l child (inl h) there = absurd (subst (IsIn child) h.1 there)
      fewer l child (inr h) there = subst (IsIn child) h.1 there

  own_holder : (number : ℕ) (p : Peer) → o.peer ≡ Some number → slice_get w.peers number ≡ Some p → p.holder ≡ Some id
  own_holder number p own p_is = at (nearest_shape d o.class) refl
    where
      at : (shape : Option ℕ) → nearest_shape d o.class ≡ shape → p.holder ≡ Some id
      at None e = absurd (let none = rw e at (good id o is).peer in let f = sym own ∙ none in cc)
      at (Some shape) e =
          let h = rw e at (good id o is).peer in
          let n : h.0 ≡ number = (let f = sym h.2 ∙ own in cc) in
          let same : p ≡ h.1 = (let f = sym p_is ∙ (sym (ap (slice_get w.peers) n) ∙ h.3) in cc) in
          ap (λ (p : Peer). p.holder) same ∙ h.4

  free_same : (ps : List Peer) (number : ℕ) (p : Peer) → slice_get w.peers number ≡ Some p → (c : Closed ps number p) → c.now.holder ≡ None → c.now ≡ p
  free_same ps number p p_is c free = go c.how
    where
      go : ((o.peer ≡ Some number) × (c.now.state.is_open ≡ false)) ⊎ ((o.peer ≡ Some number → ⊥) × (c.now ≡ p)) → c.now ≡ p
      go (inl h) = absurd (let held = own_holder number p h.0 p_is in let f = sym free ∙ (c.holder ∙ held) in cc)
      go (inr h) = h.1

  sums_same : (f : Option Object → ℕ) → f None ≡ 0 → ((x y : Object) → x.place ≡ y.place → x.queue ≡ y.queue → f (Some x) ≡ f (Some y)) → total f nos ≡ total f w.objects
  sums_same f none same =
      sum_orphaned f none (λ o. same (without_parent o) o refl refl) (children_of (living w.objects id)) (one_lets_go d id (all_forget d id w.objects))
      ∙ (sum_changed f none (lets_go d) (λ o. same (lets_go d o) o refl refl) (all_forget d id w.objects) id
      ∙ sum_mapped f none (forgets d id) (λ o. same (forgets d id o) o refl refl) w.objects)

  no_children : (x : Object) → living nos id ≡ Some x → x.children ≡ []
  no_children x e = let l = left id x e in ap (λ (x : Object). x.children) l.shape ∙ by l l.this
    where
      by : (l : Left id x) → ((id ≡ id) × (l.cs ≡ []) × (l.b ≡ true)) ⊎ ((id ≡ id → ⊥) × (l.cs ≡ l.old.children) × (l.b ≡ l.old.disposed)) → l.cs ≡ []
      by l (inl h) = h.1
      by l (inr h) = absurd (h.0 refl)

  disposed_kept : (v : World) → Ends v → DisposedKept d id w v
  disposed_kept v e =
      let objects = ap (λ (x : World). x.objects) e.shape in
      let peers = ap (λ (x : World). x.peers) e.shape in
      record {
        stands = ap standing objects ∙ stands_same;
        objects = λ j x there. object_kept v objects (subst ClosedPeers (sym peers) e.closed) j x (sym (ap (λ os. living os j) objects) ∙ there);
        shed = λ j x there. shed_of j x (sym (ap (λ os. living os j) objects) ∙ there);
        childless = λ x there. no_children x (sym (ap (λ os. living os id) objects) ∙ there);
        peers = λ number p f. (let c = e.closed number p f in (c.now, ap (λ ps. slice_get ps number) peers ∙ c.now_is, c.methods, c.holder, free_same e.peers number p f c));
        names = λ name. ap (λ ps. peer_number ps name) peers ∙ e.names name;
        sums = λ f none same. ap (total f) objects ∙ sums_same f none same;
        handlers = ap (λ (x : World). x.handlers) e.shape;
        bindings = ap (λ (x : World). x.bindings) e.shape;
        last = ap (λ (x : World). x.last_handler) e.shape;
        sources = ap (λ (x : World). x.sources) e.shape;
        floating = ap (λ (x : World). x.floating) e.shape;
        builder = ap (λ (x : World). x.builder) e.shape;
      }

pub dispose_keeps : DisposeKeeps
dispose_keeps d w id o is good =
    let e = ends d w id o is good in (e.0, e.1.answers, disposed_kept d w id o is good e.0 e.1)
