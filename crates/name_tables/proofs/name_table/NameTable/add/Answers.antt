use Rattle.std.proofs.Common.{◌∙◌, ap}
use Rattle.std.proofs.lemmas.Result.{on_ok_weaker, on_err_weaker}
use Rattle.name_tables.specs.Names.{place_of}
use Rattle.name_tables.proofs.Rows.{place-within, addition, no_addition}
use Rattle.name_tables.proofs.name_table.NameTable.add.Goals as goal

pub index_mut-requires : goal.index_mut-requires
index_mut-requires c =
    place-within c.self.inside.names.entries c.args.name.now c.in_ok-place.place (ap (λ xs. place_of xs c.args.name.now) c.self.view_is ∙ c.in_ok-place.ensures.found)

pub returns-clause-ok : goal.returns-clause-ok
returns-clause-ok c =
    on_ok_weaker c.give_number.result
    (addition c.args.self.now c.intern.new.self c.self.inside.names.entries c.args.name.now c.in_ok-place.place c.index_mut.result.now c.give_number.new.numbers
    c.self.view_is c.in_ok-place.ensures.ok c.in_ok-place.ensures.found c.index_mut.ensures.value c.args.class c.args.number)
    c.give_number.ensures.ok

pub returns-clause-err : goal.returns-clause-err
returns-clause-err c =
    on_err_weaker c.give_number.result
    (no_addition c.args.self.now c.intern.new.self c.self.inside.names.entries c.args.name.now c.in_ok-place.place c.index_mut.result.now c.give_number.new.numbers
    c.self.view_is c.in_ok-place.ensures.ok c.in_ok-place.ensures.found c.index_mut.ensures.value)
    c.give_number.ensures.err
