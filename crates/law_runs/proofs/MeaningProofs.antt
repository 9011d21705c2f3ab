-- What is good keeps what names mean.
use Rattle.std.proofs.Common.{◌≡◌, ℕ, List, [], ◌∷◌, Option, Some, None, option_and_then, slice_get, refl, sym, ◌∙◌, ap}
use Rattle.ui_machine.specs.Definition.{Definition}
use Rattle.ui_machine.specs.Definition.Places.{Bind}
use Rattle.ui_machine.specs.Definition.Signals.{Method, Shape}
use Rattle.ui_machine.specs.Rules.Construction.{nearest_shape}
use Rattle.ui_machine.specs.State.Bindings.{Binding}
use Rattle.ui_machine.specs.State.Config.{Config, World, peer_at}
use Rattle.ui_machine.specs.State.Objects.{Object, living}
use Rattle.ui_machine.specs.State.Peers.{Peer}
use Rattle.ui_machine.specs.State.Tasks.{Task}
use Rattle.law_typing.specs.Good.{Good, Resting}
use Rattle.law_typing.specs.Good.Bindings.{BindingGood}
use Rattle.law_typing.specs.Good.Meanings.{KeepsMeanings, binding_name, class_methods, shape_methods}
use Rattle.law_typing.specs.Good.Objects.{ObjectsGood, PeerGood}
use Rattle.law_typing.specs.Good.Standing.{Standing}
use Rattle.law_typing.specs.Graph.Tables.{Tables}
use Rattle.law_typing.specs.Verdict.Accepted.{Each}
use Rattle.law_steps.proofs.Served.ThroughoutProofs.{throughout_build, throughout_request, throughout_source}
use Rattle.law_runs.specs.Meanings.{BuildsKeepMeanings, HasMeanings, RequestsKeepMeanings, RestsKeepMeanings, SourcesKeepMeanings}

module _ (d : Definition) where
  -- ** bindings

  binding_called : (s : Standing) (agenda : List Task) (b : Binding) → BindingGood d s agenda b → b.name ≡ binding_name d b.number
  binding_called s agenda b good = good.name ∙ sym (ap (option_and_then (λ (bind : Bind). bind.name)) good.is)

  bindings_called : (s : Standing) (agenda : List Task) (bs : List Binding) → Each (BindingGood d s agenda) bs → Each (λ (b : Binding). b.name ≡ binding_name d b.number) bs
  bindings_called s agenda [] good = tt
  bindings_called s agenda (b ∷ bs) good = (binding_called s agenda b good.0, bindings_called s agenda bs good.1)

  -- ** peers

  -- the peer of an object has the methods of its class
  peer_shaped : (peers : List Peer) (id : ℕ) (o : Object) → PeerGood d peers id o → (number : ℕ) (p : Peer) → o.peer ≡ Some number → slice_get peers number ≡ Some p
      → p.state.shape ≡ class_methods d o.class
  peer_shaped peers id o good number p has is = by (nearest_shape d o.class) refl good
    where
      same : (number_good : ℕ) (q : Peer) → o.peer ≡ Some number_good → slice_get peers number_good ≡ Some q → q ≡ p
      same number_good q has_good is_good =
          let numbers : ◌≡◌ {A = Option ℕ} (Some number_good) (Some number) = sym has_good ∙ has in
          let one : number_good ≡ number = cc numbers in
          let both : ◌≡◌ {A = Option Peer} (Some q) (Some p) = sym is_good ∙ (ap (slice_get peers) one ∙ is) in
          cc both

      by : (shape : Option ℕ) → nearest_shape d o.class ≡ shape → PeerGood d peers id o → p.state.shape ≡ class_methods d o.class
      by None e g = absurd (let none : o.peer ≡ None = (rw e at g) in cc (none, has))
      by (Some shape) e g = go (slice_get d.shapes shape) refl
        where
          go : (x : Option Shape) → slice_get d.shapes shape ≡ x → p.state.shape ≡ class_methods d o.class
          go None s = let h = rw (e, s) at g in rw (e, s) (ap (λ (q : Peer). q.state.shape) (sym (same h.0 h.1 h.2 h.3)) ∙ h.6)
          go (Some x) s = let h = rw (e, s) at g in rw (e, s) (ap (λ (q : Peer). q.state.shape) (sym (same h.0 h.1 h.2 h.3)) ∙ h.6)

  -- ** worlds

  pub good_means : (costs depths : Tables) (most_counted most : ℕ) (c : Config) → Good d costs depths most_counted most c → HasMeanings d c
  good_means costs depths most_counted most c good = record {
    bindings = bindings_called _ c.agenda c.world.bindings good.bindings.each;
    methods = λ id number o p lives. peer_shaped c.world.peers id o (good.objects id o lives).peer number p;
  }

pub rests_keep_meanings : RestsKeepMeanings
rests_keep_meanings d a w rest = record {
  bindings = bindings_called d _ [] w.bindings rest.bindings.each;
  methods = λ id number o p lives. peer_shaped d w.peers id o (rest.objects id o lives).peer number p;
}

pub builds_keep_meanings : BuildsKeepMeanings
builds_keep_meanings d well a = throughout_build d (HasMeanings d) (good_means d) well a

pub requests_keep_meanings : RequestsKeepMeanings
requests_keep_meanings d well a = throughout_request d (HasMeanings d) (good_means d) well a

pub sources_keep_meanings : SourcesKeepMeanings
sources_keep_meanings d well a = throughout_source d (HasMeanings d) (good_means d) well a
