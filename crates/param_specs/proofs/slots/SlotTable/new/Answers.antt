use Rattle.std.proofs.Common.{◌≡◌, ◌+◌, ◌∙◌, ◌++◌, ◌∷◌, ◌<◌, ◌≤◌, ◌*◌, [], length, length-append, map, sym, ap, subst, arith}
use Rattle.std.proofs.lemmas.List.{length-map, map-append}
use Rattle.param_specs.specs.SlotRows.{AreFew, HasRow, HasRows}
use Rattle.param_specs.proofs.SlotRows.{few_more, no_rows, rows_more}
use Rattle.param_specs.proofs.slots.SlotTable.new.Goals as goal

pub types-init : goal.types-init
types-init c =
    record {
      count = ap length c.in_ok-rows.ensures.items;
      rows = λ t small. absurd (let none = ap length c.in_ok-rows.ensures.items in omega (arith, small, none, length-map c.in_ok-rows.rows.items (λ row. row.items)));
      few = subst (λ rows. AreFew (map (λ row. row.items) rows)) (sym c.in_ok-rows.ensures.items) no_rows;
    }

pub overflow_cast-t : goal.overflow_cast-t
overflow_cast-t c = omega (arith, c.types-test.true, c.len-t-end.ensures, c.parent-root.ensures.tree.few)

pub row_of-requires-clause-before : goal.row_of-requires-clause-before
row_of-requires-clause-before c =
    let seen = ap length c.deref.ensures.value in
    omega (arith, c.new-in-types.ensures, c.types.invariant.count, seen)

pub row_of-requires-clause-rows : goal.row_of-requires-clause-rows
row_of-requires-clause-rows c = subst (λ rows. HasRows c.args.tree.now c.args.specs.now (map (λ r. r.items) rows)) (sym c.deref.ensures.value) c.types.invariant.rows

pub row_of-requires-clause-few : goal.row_of-requires-clause-few
row_of-requires-clause-few c = subst (λ rows. AreFew (map (λ r. r.items) rows)) (sym c.deref.ensures.value) c.types.invariant.few

pub types-preserved : goal.types-preserved
types-preserved c =
    let rows = map (λ row. row.items) c.types.rows.items in
    let row = c.in_ok-row.row.items in
    let long : c.new-in-types.result ≡ length rows = omega (arith, c.new-in-types.ensures, c.types.invariant.count, length-map c.types.rows.items (λ r. r.items)) in
    record {
      count = ap length c.in_ok-push.ensures.items ∙ length-append c.types.rows.items (c.in_ok-row.row ∷ []) ∙ ap (λ n. n + 1) c.types.invariant.count;
      rows = subst (HasRows c.args.tree.now c.args.specs.now) (sym (ap (map (λ r. r.items)) c.in_ok-push.ensures.items ∙ map-append (λ r. r.items) c.types.rows.items (c.in_ok-row.row ∷ [])))
          (rows_more c.args.tree.now c.args.specs.now rows row c.types.invariant.rows (subst (λ t. HasRow c.args.tree.now c.args.specs.now t row) long c.in_ok-row.ensures.row));
      few = subst AreFew (sym (ap (map (λ r. r.items)) c.in_ok-push.ensures.items ∙ map-append (λ r. r.items) c.types.rows.items (c.in_ok-row.row ∷ [])))
          (few_more rows c.types.invariant.few row (omega (arith, long, c.new-in-types.ensures, c.types-test.true, c.len-t-end.ensures, c.parent-root.ensures.tree.few)) (subst (λ n. length row ≤ 64 * (n + 1)) long c.in_ok-row.ensures.few));
    }

pub returns : goal.returns
returns c =
    record {
      all = omega (arith, length-map c.types.rows.items (λ r. r.items), c.types.invariant.count, c.types-test.false, c.types.auto.t-end, c.len-t-end.ensures);
      each = c.types.invariant.rows;
    }
