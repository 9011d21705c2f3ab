-- Names mean in the engine's configuration what they mean in the machine's.
use Rattle.std.proofs.Common.{◌≡◌, refl, sym, ap, subst, ◌∙◌, ℕ, List, map, Option, None, Some, option_map, slice_get}
use Rattle.std.proofs.lemmas.Option.{slice_get-map}
use Rattle.ui_machine.specs.Definition.{Definition}
use Rattle.ui_machine.specs.State.Config.{Config, World}
use Rattle.ui_machine.specs.State.Objects.{Object}
use Rattle.ui_machine.specs.State.Peers.{Peer}
use Rattle.law_runs.specs.Meanings.{HasMeanings}
use Rattle.law_peers.specs.Forgetting.{forgotten, forgotten_at, forgotten_in}
use Rattle.law_typing.specs.Good.Meanings.{KeepsMeanings, class_methods}
use Rattle.engine_world.specs.Standing.{without_gone}

module _ (d : Definition) where
  -- what a peer counts and keeps is no part of it
  forgotten_shape : (peers : List Peer) (number : ℕ) (o : Object) (p : Peer)
      → ((q : Peer) → slice_get peers number ≡ Some q → q.state.shape ≡ class_methods d o.class) → slice_get (map forgotten peers) number ≡ Some p
      → p.state.shape ≡ class_methods d o.class
  forgotten_shape peers number o p shaped is = by (slice_get peers number) shaped (sym (slice_get-map forgotten peers number) ∙ is)
    where
      by : (found : Option Peer) → ((q : Peer) → found ≡ Some q → q.state.shape ≡ class_methods d o.class) → option_map forgotten found ≡ Some p
          → p.state.shape ≡ class_methods d o.class
      by None shaped is = absurd (cc is)
      by (Some q) shaped is =
          let same : forgotten q ≡ p = cc is in
          ap (λ (x : Peer). x.state.shape) (sym same) ∙ shaped q refl

  meanings_forgotten : (w : World) → KeepsMeanings d w → KeepsMeanings d (forgotten_in w)
  meanings_forgotten w m = record {
    bindings = m.bindings;
    methods = λ id number o p lives has. forgotten_shape w.peers number o p (λ q. m.methods id number o q lives has);
  }

  pub meanings_alike : (y x : Config) → without_gone (forgotten_at y) ≡ x → HasMeanings d y → HasMeanings d x
  meanings_alike y x is m = subst (λ (c : Config). KeepsMeanings d c.world) is (meanings_forgotten y.world m)
