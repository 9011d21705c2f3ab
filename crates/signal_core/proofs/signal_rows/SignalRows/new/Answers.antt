use Rattle.std.proofs.Common.{◌≡◌, ◌+◌, ◌∙◌, ◌∷◌, [], length, length-append, map, sym, ap, subst, arith}
use Rattle.std.proofs.lemmas.List.{length-map, map-append}
use Rattle.signal_core.specs.SignalRows.{AreFew, ArePlaces}
use Rattle.signal_core.specs.Sources.{declared_of}
use Rattle.signal_core.proofs.PlacesOfSignals.{EachPlaced, few_more, rows_more}
use Rattle.signal_core.proofs.signal_rows.SignalRows.new.Goals as goal

pub types-init : goal.types-init
types-init c =
    record {
      count = ap length c.in_ok-rows.ensures.items;
      each = λ t small. absurd (let none = ap length c.in_ok-rows.ensures.items in omega (arith, small, none, length-map c.in_ok-rows.rows.items (λ row. row.items)));
      few = subst (λ rows. AreFew (map (λ row. row.items) rows)) (sym c.in_ok-rows.ensures.items) tt;
    }

pub overflow_cast-t : goal.overflow_cast-t
overflow_cast-t c = omega (arith, c.types-test.true, c.len-t-end.ensures, c.parent-root.ensures.tree.few)

pub types-preserved : goal.types-preserved
types-preserved c =
    let rows = map (λ row. row.items) c.types.rows.items in
    let row = c.in_ok-row.row.items in
    let own = c.args.signals.now.signals in
    let long : c.new-in-types.result ≡ length rows = omega (arith, c.new-in-types.ensures, c.types.invariant.count, length-map c.types.rows.items (λ r. r.items)) in
    let more = sym (ap (map (λ r. r.items)) c.in_ok-push.ensures.items ∙ map-append (λ r. r.items) c.types.rows.items (c.in_ok-row.row ∷ [])) in
    record {
      count = ap length c.in_ok-push.ensures.items ∙ length-append c.types.rows.items (c.in_ok-row.row ∷ []) ∙ ap (λ n. n + 1) c.types.invariant.count;
      each = subst (EachPlaced c.args.tree.now own) more
          (rows_more c.args.tree.now own rows row c.types.invariant.each (subst (λ t. ArePlaces own row (declared_of c.args.tree.now own t)) long c.in_ok-row.ensures.places));
      few = subst AreFew more (few_more rows row c.types.invariant.few c.in_ok-row.ensures.few);
    }

pub returns : goal.returns
returns c =
    record {
      all = omega (arith, length-map c.types.rows.items (λ r. r.items), c.types.invariant.count, c.types-test.false, c.types.auto.t-end, c.len-t-end.ensures);
      each = c.types.invariant.each;
    }
