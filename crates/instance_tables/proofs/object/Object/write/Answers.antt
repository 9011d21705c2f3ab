use Rattle.std.proofs.Common.{◌≡◌, ◌<◌, length, get_or, map, slice_set, Ok, ◌∙◌, ap, sym, arith}
use Rattle.std.proofs.lemmas.List.{length-map}
use Rattle.ui_machine.specs.State.Objects as config
use Rattle.g_values.specs.View.{value_view}
use Rattle.instance_tables.proofs.Values.{write_over}
use Rattle.instance_tables.proofs.object.Object.write.Goals as goal

pub index_mut-requires : goal.index_mut-requires
index_mut-requires c =
    let items = c.self.inside.values.items in
    omega (arith, c.requires.slot, ap (λ (o : config.Object). length o.values) c.self.view_is, length-map items value_view)

pub returns-clause-changes : goal.returns-clause-changes
returns-clause-changes c =
    let items = c.self.inside.values.items in
    let slot : c.from.result ≡ c.args.slot = c.from.ensures in
    let after = c.replace.ensures.after in
    let short : c.args.slot < length items =
    omega (arith, c.requires.slot, ap (λ (o : config.Object). length o.values) c.self.view_is, length-map items value_view) in
    let was : c.replace.result ≡ get_or items c.args.slot c.replace.result =
    rw (c.replace.ensures.value, ← slot) c.index_mut.ensures.value in
    rw (slot, after)
    (write_over c.args.self.now items c.args.slot c.args.value c.replace.result
    (ap (λ (o : config.Object). o.values) (sym c.self.view_is)) short was
    ∙ ap (λ (o : config.Object). Ok (record {
      state = record o { values = map value_view (slice_set items c.args.slot c.args.value) };
      answer = value_view c.replace.result;
    }))
    (sym c.self.view_is))
