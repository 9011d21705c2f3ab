-- Agendas that agree in their items, and in the bindings that they set free: what handlers and bindings read of them.
use Rattle.std.proofs.Common.{◌≡◌, ◌∙◌, ℕ, List, arith}
use Rattle.ui_machine.specs.Seq.{total}
use Rattle.ui_machine.specs.Definition.{Definition}
use Rattle.ui_machine.specs.State.Bindings.{Binding}
use Rattle.ui_machine.specs.State.Handlers.{Handler}
use Rattle.ui_machine.specs.State.Tasks.{Item, Task}
use Rattle.ui_machine.specs.Rules.Build.{of_items}
use Rattle.law_typing.specs.Graph.{Raised, graph, place_of_channel}
use Rattle.law_typing.specs.Graph.Tables.{Tables}
use Rattle.law_typing.specs.Good.Standing.{Standing}
use Rattle.law_typing.specs.Good.DueCosts.{unsets}
use Rattle.law_typing.specs.Good.Handlers.{connecting_cost, ChannelGood, HandlersGood}
use Rattle.law_typing.specs.Good.Bindings.{is_binding, BindingGood, BindingsGood}
use Rattle.law_steps.proofs.Kept.Left.{each_to}

module _ (d : Definition) (costs depths : Tables) (a b : List Task) (items : (f : Item → ℕ) → total (of_items f) b ≡ total (of_items f) a) where
  channel_moved : (id : ℕ) (hs : List Handler) (r : Raised) → ChannelGood d costs depths a id hs r → ChannelGood d costs depths b id hs r
  channel_moved id hs r g = record {
    own = (let same = items (connecting_cost d costs r.channel) in let old = g.own in omega (arith, same, old));
    connected = g.connected;
    own_shallow = g.own_shallow;
    connected_shallow = g.connected_shallow;
  }

  pub handlers_moved : (s : Standing) (last : ℕ) (hs : List Handler) → HandlersGood d costs depths s a last hs → HandlersGood d costs depths s b last hs
  handlers_moved s last hs g = record {
    each = g.each;
    rising = g.rising;
    numbered = g.numbered;
    few = g.few;
    channels = λ id place is.
        each_to (λ (r : Raised). place_of_channel r.channel ≡ place → ChannelGood d costs depths a id hs r)
        (λ (r : Raised). place_of_channel r.channel ≡ place → ChannelGood d costs depths b id hs r) (graph d).raised
        (λ r f same. channel_moved id hs r (f same)) (g.channels id place is);
  }

  module _ (unset : (number : ℕ) → total (unsets number) b ≡ total (unsets number) a) where
    binding_moved : (s : Standing) (x : Binding) → BindingGood d s a x → BindingGood d s b x
    binding_moved s x g = record {
      bind = g.bind;
      is = g.is;
      name = g.name;
      slots = g.slots;
      source = g.source;
      target = g.target;
      setting = unset x.number ∙ g.setting;
    }

    pub bindings_moved : (s : Standing) (bs : List Binding) → BindingsGood d s a bs → BindingsGood d s b bs
    bindings_moved s bs g = record {
      each = each_to (BindingGood d s a) (BindingGood d s b) bs (binding_moved s) g.each;
      rising = g.rising;
      made = each_to _ _ bs (λ x low. (let same = items is_binding in omega (arith, same, low))) g.made;
    }
