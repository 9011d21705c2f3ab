-- What a good configuration asks is apt, and what a method of plain kinds takes does not depend on types.
use Rattle.std.proofs.Common.{◌≡◌, refl, ap, sym, ◌∙◌, subst, ℕ, zero, suc, ◌≤◌, Bool, true, false, cond, ◌&&◌, List, [], ◌∷◌, Option, None, Some}
use Rattle.std.specs.Prelude.{IfSome, IsSomeAnd, slice_get}
use Rattle.std.specs.List.{list_all}
use Rattle.ui_machine.specs.Definition.{Definition}
use Rattle.ui_machine.specs.Definition.Kinds.{Kind}
use Rattle.ui_machine.specs.Definition.Kinds as kinds
use Rattle.ui_machine.specs.Definition.Signals.{Method}
use Rattle.ui_machine.specs.Definition.Types.{GType}
use Rattle.ui_machine.specs.Definition.Values.{Value}
use Rattle.ui_machine.specs.Definition.Values as values
use Rattle.ui_machine.specs.Rules.Programs.{all_fit}
use Rattle.ui_machine.specs.Rules.Transform.{kind_fits}
use Rattle.ui_machine.specs.State.Config.{Config, World, is_asked, peer_state}
use Rattle.ui_machine.specs.State.Peers.{Peer, PeerState, Question, no_peer}
use Rattle.ui_machine.specs.State.References.{mentions, next_unheld}
use Rattle.ui_machine.specs.State.Tasks.{Call, Calling, Task}
use Rattle.ui_machine.specs.Steps.{asked_after, asked_first, most_steps}
use Rattle.law_steps.specs.Served.Dispatches.{Throughout}
use Rattle.law_steps.proofs.Served.DispatchProofs.{stays}
use Rattle.law_typing.specs.Graph.{graph}
use Rattle.law_typing.specs.Graph.Depths.{depth}
use Rattle.law_typing.specs.Graph.Tables.{Tables}
use Rattle.law_typing.specs.Laws.StepsKeepGood.{IsGood, StepsKeepGood}
use Rattle.law_typing.specs.Laws.WellRead.{WellRead}
use Rattle.law_typing.specs.Verdict.Accepted.{Accepted}
use Rattle.peer_shapes.specs.MethodViews.{is_plain, is_plain_method, is_plain_shape}
use Rattle.law_typing.specs.Good.Agenda.{AgendaGood}
use Rattle.law_typing.specs.Good.ComingDown.{none}
use Rattle.law_typing.specs.Good.Programs.{CallingGood}
use Rattle.law_typing.specs.Good.Standing.{view}
use Rattle.native_peers.specs.Moves.{ArgsFit, MethodTakes}
use Rattle.engine_dispatches.specs.Safety.{AsksAptly, IsApt}
use Rattle.engine_dispatches.specs.PoolView.{Takes}
use Rattle.engine_dispatches.proofs.Living.{read_at}

pub and_parts : (a b : Bool) → (a && b) ≡ true → (a ≡ true) × (b ≡ true)
and_parts true b is = (refl, is)
and_parts false b is = absurd (cc is)

and_both : {a b : Bool} → a ≡ true → b ≡ true → (a && b) ≡ true
and_both first second = rw (first, second) refl

module _ (d : Definition) (w : World) where
  -- what a call asks is apt, whatever else there is
  abbrev Apt : Question → Type 0
  Apt q = IsSomeAnd (slice_get w.peers q.peer) (λ p. p.state ≡ q.state) × Takes d (slice_get q.state.shape q.method) q.args

  calls_aptly : (call : Call) (below : List Task) → CallingGood d (view w) below call → IfSome (asked_first w (Calling call ∷ below)) Apt
  calls_aptly call below good = by (is_asked w call.peer)
    where
      state : peer_state w call.peer ≡ good.p.state
      state = ap (λ (p : Peer). p.state) (read_at no_peer good.p w.peers call.peer good.is)

      there : IsSomeAnd (slice_get w.peers call.peer) (λ p. p.state ≡ peer_state w call.peer)
      there = subst (λ (o : Option Peer). IsSomeAnd o (λ p. p.state ≡ peer_state w call.peer)) (sym good.is) (sym state)

      takes : Takes d (slice_get (peer_state w call.peer).shape call.method) call.args
      takes = subst (λ (m : Option Method). Takes d m call.args) (sym good.has ∙ ap (λ (s : PeerState). slice_get s.shape call.method) (sym state)) (_, good.args_fit)

      by : (b : Bool) → IfSome (cond b (Some (record { peer = call.peer; state = peer_state w call.peer; method = call.method; args = call.args })) None) Apt
      by false = tt
      by true = (there, takes)

  asks_aptly : (costs depths : Tables) (most : ℕ) (agenda : List Task) (budget : ℕ) → AgendaGood d costs depths (view w) most none agenda budget → IfSome (asked_first w agenda) Apt
  asks_aptly costs depths most (Calling call ∷ below) budget good = calls_aptly call below good.3.1
  asks_aptly costs depths most [] budget good = tt
  asks_aptly costs depths most (task ∷ below) budget good = tt

module _ (d : Definition) (a : Accepted d) (most : ℕ) where
  -- a good configuration asks aptly
  pub good_asks : (c : Config) → IsGood d a most c → AsksAptly d c
  good_asks c good = by (next_unheld (mentions d c) c.world.objects)
    where
      apt : (q : Option Question) → IfSome q (Apt d c.world) → IfSome q (IsApt d c)
      apt None h = tt
      apt (Some q) h = record { there = h.0; args = h.1 }

      by : (o : Option ℕ) → IfSome (asked_after c o) (IsApt d c)
      by (Some id) = tt
      by None = apt (asked_first c.world c.agenda) (asks_aptly d c.world a.weighed.costs a.weighed.depths (depth (graph d) a.weighed.depths) c.agenda good.budget good.agenda)

  -- so does all that it comes to
  pub asks_on : (keep : StepsKeepGood) → WellRead d → most ≤ most_steps → (c : Config) → IsGood d a most c → Throughout d c (AsksAptly d)
  asks_on keep well few c good replies fit at reached = good_asks at (stays keep d well a most few replies fit c at good reached)

-- ** kinds

module _ (classes : ℕ → Option ℕ) (types : List GType) where
  plainly : (v : Value) (k : Kind) → is_plain k ≡ true → kind_fits classes types v k ≡ true → kind_fits (λ _. None) [] v k ≡ true
  plainly (values.bool b) kinds.bool plain is = is
  plainly (values.whole w n) (kinds.whole l) plain is = is
  plainly (values.text s) kinds.text plain is = is
  plainly v (kinds.enum t) plain is = absurd (cc plain)
  plainly v (kinds.flags t) plain is = absurd (cc plain)
  plainly v (kinds.object t) plain is = absurd (cc plain)
  plainly (values.object None) k plain is = absurd (cc is)
  plainly (values.object (Some id)) k plain is = absurd (cc is)
  plainly v k plain is = absurd (cc is)

  all_plainly : (args : List Value) (params : List Kind) → list_all is_plain params ≡ true → all_fit (kind_fits classes types) args params ≡ true
      → all_fit (kind_fits (λ _. None) []) args params ≡ true
  all_plainly [] [] plain is = refl
  all_plainly [] (k ∷ ks) plain is = absurd (cc is)
  all_plainly (v ∷ vs) [] plain is = absurd (cc is)
  all_plainly (v ∷ vs) (k ∷ ks) plain is =
      let here = and_parts (is_plain k) (list_all is_plain ks) plain in
      let fits = and_parts (kind_fits classes types v k) (all_fit (kind_fits classes types) vs ks) is in
      and_both (plainly v k here.0 fits.0) (all_plainly vs ks here.1 fits.1)

-- a method of plain kinds
plain_method : (shape : List Method) (k : ℕ) (m : Method) → is_plain_shape shape ≡ true → slice_get shape k ≡ Some m → list_all is_plain m.params ≡ true
plain_method [] k m plain at = absurd (cc at)
plain_method (n ∷ shape) zero m plain at =
    let same : n ≡ m = cc at in
    subst (λ (x : Method). list_all is_plain x.params ≡ true) same (and_parts (list_all is_plain n.params) (is_plain n.result) (and_parts (is_plain_method n) (list_all is_plain_method shape) plain).0).0
plain_method (n ∷ shape) (suc k) m plain at = plain_method shape k m (and_parts (is_plain_method n) (list_all is_plain_method shape) plain).1 at

-- what such a method takes does not depend on types
pub takes_plainly : (d : Definition) (s : PeerState) (method : ℕ) (args : List Value) → is_plain_shape s.shape ≡ true → Takes d (slice_get s.shape method) args → ArgsFit s method args
takes_plainly d s method args plain takes = by (slice_get s.shape method) refl takes
  where
    by : (o : Option Method) → slice_get s.shape method ≡ o → Takes d o args → MethodTakes o args
    by None is takes = takes
    by (Some m) is takes = all_plainly takes.0 d.types args m.params (plain_method s.shape method m plain is) takes.1
