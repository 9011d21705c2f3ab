use Rattle.std.proofs.Common.{◌≡◌, ◌+◌, suc, take, sym, ap, ◌∙◌, arith}
use Rattle.ui_machine.specs.Definition.Names.{place_named}
use Rattle.engine_links.specs.Rows.{method_of}
use Rattle.name_tables.proofs.Adding.{adds_more, place_named-more}
use Rattle.engine_links.proofs.method_rows.MethodRows.add_shape.Goals as goal

pub loop-method-preserved : goal.loop-method-preserved
loop-method-preserved c =
    let methods = c.args.shape.now in
    let at = c.loop-method.at in
    let next : at + 1 ≡ suc at = omega arith in
    adds_more (method_of c.args.self.now) (method_of c.loop-method.self) (method_of c.add.new.self) c.args.number at c.in-Some.method.name.now
    (place_named (λ m. m.name) (take at methods)) (place_named (λ m. m.name) (take (at + 1) methods)) c.loop-method.invariant c.in_ok-add.ensures
    (λ n.
    ap (λ k. place_named (λ m. m.name) (take k methods) n) next
    ∙ place_named-more (λ m. m.name) n methods at _ (sym c.in-Some.ensures))
