use Rattle.std.proofs.Common.{◌≤◌, ◌∙◌, length, map, sym, ap, subst, add-one, List, suc, arith}
use Rattle.std.proofs.lemmas.List.{length-map}
use Rattle.indexmap.specs.IndexMap.{set_value_at}
use Rattle.name_tables.specs.Names.{Named}
use Rattle.name_tables.proofs.Inherited.{InheritsFirst, first-length, first-more, first-all}
use Rattle.name_tables.proofs.Rows.{named, named-set_value_at, numbers-value}
use Rattle.name_tables.proofs.name_table.NameTable.inherit.Goals as goal

pub names-init : goal.names-init
names-init c = c.self.view_is

pub index_mut-requires : goal.index_mut-requires
index_mut-requires c =
    let count = ap (λ (l : List Named). length l) (sym c.self.view_is) ∙ length-map c.self.inside.names.entries named in
    omega (
      arith,
      count,
      c.len-at-end.ensures.len,
      c.names-test.true,
      length-map c.names.self-inside.names.entries named,
      first-length c.args.tree.now c.names.at c.args.self.now (map named c.names.self-inside.names.entries) c.names.invariant,
    )

pub names-preserved : goal.names-preserved
names-preserved c =
    let entries = c.names.self-inside.names.entries in
    let numbers = c.inherit_numbers.new.numbers in
    subst (λ n. InheritsFirst c.args.tree.now n c.args.self.now (map named (set_value_at entries c.names.at numbers))) (sym (add-one c.names.at))
    (subst (InheritsFirst c.args.tree.now (suc c.names.at) c.args.self.now) (sym (named-set_value_at entries c.names.at numbers))
    (first-more c.args.tree.now c.names.at c.args.self.now (map named entries) c.index_mut.result.now.entries numbers.entries c.names.invariant
    (numbers-value entries c.names.at c.index_mut.result.now c.index_mut.ensures.value) c.in_ok-inherit_numbers.ensures))

pub returns : goal.returns
returns c =
    let count = ap (λ (l : List Named). length l) (sym c.self.view_is) ∙ length-map c.self.inside.names.entries named in
    let all : length c.args.self.now ≤ c.names.at = omega (arith, count, c.len-at-end.ensures.len, c.names-test.false) in
    first-all c.args.tree.now c.names.at c.args.self.now (map named c.names.self-inside.names.entries) all c.names.invariant
