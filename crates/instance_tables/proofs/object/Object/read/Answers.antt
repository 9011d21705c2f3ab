use Rattle.std.proofs.Common.{◌≡◌, ◌<◌, length, get_or, ap, sym, arith}
use Rattle.std.proofs.lemmas.List.{length-map}
use Rattle.ui_machine.specs.State.Objects as config
use Rattle.g_values.specs.View.{value_view}
use Rattle.instance_tables.proofs.Values.{read_there}
use Rattle.instance_tables.proofs.object.Object.read.Goals as goal

pub index-requires : goal.index-requires
index-requires c =
    let items = c.self.inside.values.items in
    omega (arith, c.requires.slot, ap (λ (o : config.Object). length o.values) c.self.view_is, length-map items value_view)

pub returns : goal.returns
returns c =
    let items = c.self.inside.values.items in
    let slot : c.from.result ≡ c.args.slot = c.from.ensures in
    let short : c.args.slot < length items =
    omega (arith, c.requires.slot, ap (λ (o : config.Object). length o.values) c.self.view_is, length-map items value_view) in
    let is : c.index.result.now ≡ get_or items c.args.slot c.index.result.now = rw (← slot) c.index.ensures in
    read_there c.args.self.now items c.args.slot c.index.result.now (ap (λ (o : config.Object). o.values) (sym c.self.view_is)) short is
