-- What the names of a definition mean in a world: a binding is called as the definition calls that of its number, and the peer of an object
-- has the methods of the object's class.
use Rattle.std.specs.Prelude.{◌≡◌, ℕ, List, [], Option, None, Some, option_and_then, slice_get}
use Rattle.ui_machine.specs.Definition.{Definition}
use Rattle.ui_machine.specs.Definition.Places.{Bind}
use Rattle.ui_machine.specs.Definition.Signals.{Method, Shape}
use Rattle.ui_machine.specs.Rules.Construction.{nearest_shape}
use Rattle.ui_machine.specs.State.Bindings.{Binding}
use Rattle.ui_machine.specs.State.Config.{World, peer_at}
use Rattle.ui_machine.specs.State.Objects.{Object, living}
use Rattle.ui_machine.specs.State.Peers.{Peer}
use Rattle.law_typing.specs.Verdict.Accepted.{Each}

-- the name of the definition's binding of a number, if it has one
abbrev pub binding_name : Definition → ℕ → Option (List ℕ)
binding_name d number = option_and_then (λ (b : Bind). b.name) (slice_get d.bindings number)

-- the methods of a shape, if there is one
abbrev pub shape_methods : Option Shape → List Method
shape_methods None = []
shape_methods (Some shape) = shape.methods

-- the methods of a class: those of its nearest shape
abbrev pub class_methods : Definition → ℕ → List Method
class_methods d class = shape_methods (option_and_then (slice_get d.shapes) (nearest_shape d class))

pub record KeepsMeanings (d : Definition) (w : World) : Type 0 where
  pub bindings : Each (λ (b : Binding). b.name ≡ binding_name d b.number) w.bindings
  pub methods : (id number : ℕ) (o : Object) (p : Peer) → living w.objects id ≡ Some o → o.peer ≡ Some number → peer_at w number ≡ Some p
      → p.state.shape ≡ class_methods d o.class
