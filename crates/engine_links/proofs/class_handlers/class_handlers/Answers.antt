use Rattle.std.proofs.Common.{◌≡◌, ◌+◌, ◌∙◌, ◌∷◌, [], length, length-append, map, sym, ap, subst, arith}
use Rattle.std.proofs.lemmas.List.{length-map}
use Rattle.ui_machine.specs.Definition.Lookups.{class_of}
use Rattle.engine_links.specs.Steps.{ArePairwise, IsHandler}
use Rattle.engine_links.proofs.Handling.{EachRow, all_handled, rows_more}
use Rattle.engine_links.proofs.Linking.{seen_more}
use Rattle.engine_links.proofs.class_handlers.class_handlers.Goals as goal

pub classes-init : goal.classes-init
classes-init c = record {
  count = ap length c.in_ok-rows.ensures.items;
  each = λ class small. absurd (let none = ap length c.in_ok-rows.ensures.items in omega (arith, small, none, length-map c.in_ok-rows.rows.items (λ row. row.items)));
}

pub classes-preserved : goal.classes-preserved
classes-preserved c =
    let d = c.args.definition.now in
    let rows = map (λ row. row.items) c.classes.rows.items in
    let row = c.in_ok-row.row.items in
    let long : c.new.result ≡ length rows = omega (arith, c.new.ensures, c.classes.invariant.count, length-map c.classes.rows.items (λ r. r.items)) in
    let more = seen_more (λ r. r.items) c.classes.rows.items c.push.new.self.items c.in_ok-row.row c.in_ok-push.ensures.items in
    record {
      count = ap length c.in_ok-push.ensures.items ∙ length-append c.classes.rows.items (c.in_ok-row.row ∷ []) ∙ ap (λ n. n + 1) c.classes.invariant.count;
      each = subst (EachRow d) (sym more) (rows_more d rows row c.classes.invariant.each (subst (λ u. ArePairwise (IsHandler d u) (class_of d u).signals row) long c.in_ok-row.ensures));
    }

pub returns : goal.returns
returns c =
    all_handled c.args.definition.now (map (λ row. row.items) c.classes.rows.items) c.classes.invariant.each
    (omega (arith, length-map c.classes.rows.items (λ r. r.items), c.classes.invariant.count, c.classes-test.false, c.class_count-count.ensures.count))
