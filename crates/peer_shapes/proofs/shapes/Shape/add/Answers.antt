use Rattle.std.proofs.Common.{◌≡◌, ◌∷◌, ◌++◌, [], List, None, String, Global, map, string_bytes, ap, subst, sym, ◌∙◌}
use Rattle.ui_machine.specs.Definition.Names.{place_named}
use Rattle.ui_machine.specs.Definition.Signals.{Method}
use Rattle.peer_shapes.specs.MethodViews.{method_view, signed}
use Rattle.peer_shapes.specs.declared.methods.Signature.{Signature}
use Rattle.peer_shapes.proofs.MethodNames.{method_last}
use Rattle.peer_shapes.proofs.shapes.Shape.add.Goals as goal

pub returns : goal.returns
returns c =
    let new : List Method = map signed c.insert.new.self.entries in
    subst (λ (v : List Method). new ≡ v ++ method_view c.args.method ∷ []) c.self.view_is
    (ap (λ (es : List (String Global × Signature)). map signed es) c.in_ok-insert.ensures.entries
    ∙ method_last c.args.method.name (record { params = c.args.method.params; result = c.args.method.result }) c.self.inside.methods.entries
    (subst (λ (v : List Method). place_named (λ (m : Method). m.name) v (string_bytes c.args.method.name) ≡ None) (sym c.self.view_is) c.requires))
