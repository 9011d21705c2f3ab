-- The replies of one peer of the pool, which keeps its methods.
use Rattle.std.proofs.Common.{◌≡◌, refl, sym, ap, subst, ◌∙◌, ℕ, zero, suc, ◌≤◌, Bool, true, false, cond, nat_eq, List, [], ◌∷◌, length, Option, None, Some, arith}
use Rattle.std.specs.Prelude.{◌&&◌}
use Rattle.std.proofs.lemmas.Bool.{eq-eqb, eqb-true}
use Rattle.ui_machine.specs.Definition.{Definition}
use Rattle.ui_machine.specs.Definition.Kinds.{Kind, Whole}
use Rattle.ui_machine.specs.Definition.Kinds as kinds
use Rattle.ui_machine.specs.Definition.Names.{same_name}
use Rattle.ui_machine.specs.Definition.Signals.{Method}
use Rattle.ui_machine.specs.Rules.Construction.{lent}
use Rattle.ui_machine.specs.Rules.Transform.{same_kind, same_whole}
use Rattle.ui_machine.specs.Runs.{Fits, Step, Steps, listed, question_in}
use Rattle.ui_machine.specs.State.Config.{Config}
use Rattle.ui_machine.specs.State.Peers.{Peer, PeerState, Reply, closed_peer}
use Rattle.ui_machine.specs.Steps.{question}
use Rattle.law_typing.specs.Verdict.Accepted.{Each}
use Rattle.law_typing.proofs.Lists.{each_append}
use Rattle.law_steps.specs.Served.Sessions.{beginning_of}
use Rattle.law_steps.proofs.Served.DispatchProofs.{both_fit}
use Rattle.law_peers.specs.Needs.{same_kinds, same_method, same_shape}
use Rattle.law_peers.specs.PeerLaws.{Lives, has_replied, nothing, peer_in, replied_in, shut_in, was_closed, was_got}
use Rattle.law_peers.proofs.LifeProofs.{kept}
use Rattle.law_peers.proofs.PoolProofs.{name_refl}
use Rattle.law_peers.proofs.RunLives.{step_lives}
use Rattle.law_prices.proofs.DispatchPays.{first_fits}
use Rattle.law_held_peers.specs.Questions.{AsksByShape}
use Rattle.law_asked_prices.specs.Replies.{EachPeerIsWithin, replies_by, replies_from}
use Rattle.law_asked_prices.proofs.AskedProofs.{asks_first, asks_later, dispatch_asks_by_shape}
use Rattle.law_asked_prices.proofs.ReplyProofs.{alike_peers_are_within}

-- ** methods are the same as themselves

both_true : (a b : Bool) → a ≡ true → b ≡ true → (a && b) ≡ true
both_true a b p q = ap (λ x. x && b) p ∙ q

whole_itself : (k : Whole) → same_whole k k ≡ true
whole_itself kinds.int = refl
whole_itself kinds.uint = refl
whole_itself kinds.int64 = refl
whole_itself kinds.uint64 = refl

kind_itself : (k : Kind) → same_kind k k ≡ true
kind_itself kinds.bool = refl
kind_itself (kinds.whole k) = whole_itself k
kind_itself kinds.text = refl
kind_itself (kinds.enum t) = eq-eqb t t refl
kind_itself (kinds.flags t) = eq-eqb t t refl
kind_itself (kinds.object t) = eq-eqb t t refl

kinds_themselves : (ks : List Kind) → same_kinds ks ks ≡ true
kinds_themselves [] = refl
kinds_themselves (k ∷ ks) = both_true (same_kind k k) (same_kinds ks ks) (kind_itself k) (kinds_themselves ks)

method_itself : (m : Method) → same_method m m ≡ true
method_itself m =
    both_true (same_name m.name m.name) (same_kinds m.params m.params && same_kind m.result m.result) (name_refl m.name)
    (both_true (same_kinds m.params m.params) (same_kind m.result m.result) (kinds_themselves m.params) (kind_itself m.result))

shape_itself : (ms : List Method) → same_shape ms ms ≡ true
shape_itself [] = refl
shape_itself (m ∷ ms) = both_true (same_method m m) (same_shape ms ms) (method_itself m) (shape_itself ms)

-- ** a peer keeps its methods

abbrev methods_in : List Peer → ℕ → List Method
methods_in peers k = (peer_in peers k).state.shape

abbrev of_peer : Peer → List Method
of_peer p = p.state.shape

module _ (d : Definition) (k : ℕ) where
  keeps : (ps : List Peer) (rs : List Reply) (ls : List (List ℕ)) (qs : List Peer) → Lives d ps rs ls qs → Each (Fits d) rs → methods_in qs k ≡ methods_in ps k
  keeps ps rs ls qs nothing fit = refl
  keeps ps rs ls qs (was_got number object x) fit =
      keeps (lent (Some number) object ps) rs ls qs x fit ∙ kept of_peer ps number k (record (peer_in ps number) { holder = Some object }) refl
  keeps ps (r ∷ rs) (line ∷ ls) qs (has_replied asked opened said x) fit =
      keeps (replied_in ps r) rs ls qs x fit.1
      ∙ kept of_peer ps r.question.peer k (record (peer_in ps r.question.peer) { state = r.state }) (fit.0.shape ∙ ap (λ (s : PeerState). s.shape) asked)
  keeps ps rs (line ∷ ls) qs (was_closed number opened said x) fit =
      keeps (shut_in ps number) rs ls qs x fit ∙ kept of_peer ps number k (closed_peer (peer_in ps number)) refl

  step_keeps : (reply : Option Reply) (c e : Config) → Each (Fits d) (listed reply) → Step d reply c e → methods_in e.world.peers k ≡ methods_in c.world.peers k
  step_keeps reply c e fit s = let x = step_lives d reply c e s in keeps c.world.peers (listed reply) x.lines e.world.peers x.lives fit

-- ** so each reply is of a peer with the methods that it had in the beginning

module _ (d : Definition) (first : List Peer) where
  -- the methods of a reply's peer
  abbrev AsFirst : Reply → Type 0
  AsFirst r = r.question.state.shape ≡ methods_in first r.question.peer

  one_as_first : (c : Config) (reply : Option Reply) → ((k : ℕ) → methods_in c.world.peers k ≡ methods_in first k) → AsksByShape d c →
      question d c ≡ question_in reply → Each AsFirst (listed reply)
  one_as_first c None same asks e = tt
  one_as_first c (Some r) same asks e =
      let of = asks_first d c asks r.question e in
      (ap (λ (s : PeerState). s.shape) of.state ∙ same r.question.peer, tt)

  all_as_first : (n : ℕ) (replies : List Reply) → Each (Fits d) replies → (c e : Config) → ((k : ℕ) → methods_in c.world.peers k ≡ methods_in first k) →
      AsksByShape d c → Steps d n replies c e → Each AsFirst replies
  all_as_first zero replies fit c e same asks s = subst (Each AsFirst) (sym s.0) tt
  all_as_first (suc n) replies fit c e same asks s =
      let fits = subst (Each (Fits d)) s.replied fit in
      let one = both_fit d (listed s.reply) s.later fits in
      let later = asks_later d c s.mid s.reply (first_fits d s.reply s.later fits).0 s.step asks in
      subst (Each AsFirst) (sym s.replied)
      (each_append AsFirst (listed s.reply) s.later (one_as_first c s.reply same asks s.step.asks)
      (all_as_first n s.later one.1 s.mid e (λ k. step_keeps d k s.reply c s.mid one.0 s.step ∙ same k) later s.follows))

  -- the replies of a peer are among those of all that have its methods
  fewer : (peer method : ℕ) (replies : List Reply) → Each AsFirst replies →
      length (replies_from peer method replies) ≤ length (replies_by (methods_in first peer) method replies)
  fewer peer method [] all = omega arith
  fewer peer method (r ∷ replies) all = by (nat_eq r.question.peer peer) refl (fewer peer method replies all.1) (nat_eq r.question.method method)
    where
      xs : List Reply
      xs = replies_from peer method replies

      ys : List Reply
      ys = replies_by (methods_in first peer) method replies

      both : (c : Bool) → length xs ≤ length ys → length (cond c (r ∷ xs) xs) ≤ length (cond c (r ∷ ys) ys)
      both true low = omega (arith, low)
      both false low = low

      more : (c : Bool) → length xs ≤ length ys → length xs ≤ length (cond c (r ∷ ys) ys)
      more true low = omega (arith, low)
      more false low = low

      by : (b : Bool) → nat_eq r.question.peer peer ≡ b → length xs ≤ length ys → (c : Bool) →
          length (cond (b && c) (r ∷ xs) xs) ≤ length (cond (same_shape (methods_in first peer) r.question.state.shape && c) (r ∷ ys) ys)
      by false e low c = more (same_shape (methods_in first peer) r.question.state.shape && c) low
      by true e low c =
          let same : r.question.state.shape ≡ methods_in first peer = all.0 ∙ ap (methods_in first) (eqb-true r.question.peer peer e) in
          let test = ap (same_shape (methods_in first peer)) same ∙ shape_itself (methods_in first peer) in
          subst (λ b. length (cond c (r ∷ xs) xs) ≤ length (cond (b && c) (r ∷ ys) ys)) (sym test) (both c low)

pub each_peer_is_within : EachPeerIsWithin
each_peer_is_within d well a peers ready events read x replies fit n at s peer method =
    let first = (beginning_of x).world.peers in
    let w = alike_peers_are_within d well a peers ready events read x replies fit n at s (methods_in first peer) method in
    let all = all_as_first d first n replies fit (beginning_of x) at (λ k. refl) (dispatch_asks_by_shape d well a peers ready events read x) s in
    let low = fewer d first peer method replies all in
    let within = w.within in
    record { most = w.most; is = w.is; within = omega (arith, low, within) }
