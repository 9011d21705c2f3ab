use Rattle.std.proofs.Common.{refl, sym, subst, Some}
use Rattle.std.specs.Prelude.{option_map, string_bytes}
use Rattle.bytecode.specs.View.{register_kind_view}
use Rattle.definition_format.specs.Meaning.{IsBasic}
use Rattle.verify_channels.specs.declared.connections.Connects.{Connects}
use Rattle.verify_channels.proofs.Groups.{new_key, put_connected}
use Rattle.verify_channels.proofs.connections.Connects.add_keyed.Goals as goal

pub returns-in-Some-clause-more : goal.returns-in-Some-clause-more
returns-in-Some-clause-more c ns are =
    let d = c.args.lookups.now in
    let kind = register_kind_view c.args.kind.now in
    let signal = string_bytes c.args.connection.now.signal in
    let detail = option_map string_bytes c.args.connection.now.detail in
    let g = c.in-Some.number.now in
    let kept = are.kept kind signal detail (Some c.args.program) c.args.key g c.requires.key (sym c.in-Some.ensures.value) in
    put_connected d c.args.self.now c.put.new.self g c.args.program c.in_ok-put.ensures.at c.in_ok-put.ensures.numbers c.in_ok-put.ensures.count
    (c.in_ok-put.ensures.put kept.0) ns kind signal detail are kept.1

pub returns-clause-more : goal.returns-clause-more
returns-clause-more c ns are =
    let d = c.args.lookups.now in
    let kind = register_kind_view c.args.kind.now in
    let signal = string_bytes c.args.connection.now.signal in
    let detail = option_map string_bytes c.args.connection.now.detail in
    let last : Connects = record { groups = c.add.new.self.groups; at = c.add.new.self.at; numbers = c.insert.new.self } in
    let basic = subst IsBasic c.definition.ensures c.types-types.ensures.basic in
    new_key d c.args.self.now c.add.new.self kind signal detail c.args.program c.in_ok-group.group c.in_ok-group.ensures.adds basic ns last c.args.key are refl refl c.requires.key
    (λ k. c.in_ok-insert.ensures.updates.0 k)
