use Rattle.std.proofs.Common.{arith, subst}
use Rattle.std.proofs.Math.ListN.{set}
use Rattle.std.proofs.lemmas.Result.{on_ok_weaker}
use Rattle.name_tables.proofs.Lookups.{place_of-within}
use Rattle.engine_links.specs.Steps.{AddsMethod}
use Rattle.engine_links.proofs.Naming.{adds_method, seen}
use Rattle.engine_links.proofs.method_rows.MethodRows.add.Goals as goal

pub index_mut-requires : goal.index_mut-requires
index_mut-requires c =
    let within = place_of-within c.intern_row.new.names c.args.name.now c.in_ok-at.at c.in_ok-at.ensures.found in
    omega (arith, within, c.intern_row.ensures.level)

pub returns : goal.returns
returns c =
    let names = c.intern_row.new.names in
    let rows = c.intern_row.new.rows.items in
    let at = c.in_ok-at.at in
    let name = c.args.name.now in
    let row = c.give_number.new.row in
    on_ok_weaker c.give_number.result
    (λ gives.
    subst (λ old. AddsMethod old (seen (λ m. m.entries) names (set rows at row)) c.args.shape name c.args.number) c.self.view_is
    (adds_method (λ m. m.entries) c.self.inside.names c.self.inside.rows.items names rows name at
    (record {
      new = c.new-empty.result;
      empty = c.new-empty.ensures.empty;
      old_level = c.self.invariant;
      level = c.intern_row.ensures.level;
      more_names = c.in_ok-at.ensures.names;
      more_rows = c.in_ok-at.ensures.rows;
      place = c.in_ok-at.ensures.found;
    })
    c.index_mut.result.now row c.args.shape c.args.number c.index_mut.ensures.value gives))
    c.give_number.ensures
