use Rattle.std.proofs.Common.{◌∙◌, sym, ap, subst, ℕ, ◌∷◌, [], Option}
use Rattle.std.specs.Prelude.{option_map, string_bytes}
use Rattle.ui_machine.specs.Definition.Lookups.{program_of}
use Rattle.bytecode.specs.View.{register_kind_view}
use Rattle.verify_channels.specs.Connected.{ConnectsMore, connection_over}
use Rattle.verify_channels.proofs.Groups.{new_group, none_connected}
use Rattle.verify_channels.proofs.connections.Connects.connect.Goals as goal

pub returns-in_default-clause-more : goal.returns-in_default-clause-more
returns-in_default-clause-more c =
    let d = c.args.lookups.now in
    let kind = register_kind_view c.args.kind.now in
    let signal = string_bytes c.args.connection.now.signal in
    let detail = option_map string_bytes c.args.connection.now.detail in
    let program = program_of d (string_bytes c.args.connection.now.program) in
    none_connected d c.args.self.now (connection_over d kind signal detail program) (ap (program_of d) (sym c.as_str.ensures.value) ∙ sym c.in_default.ensures)

pub returns-in_ok-add_keyed-in-Some-connection_key-clause-more : goal.returns-in_ok-add_keyed-in-Some-connection_key-clause-more
returns-in_ok-add_keyed-in-Some-connection_key-clause-more c =
    let d = c.args.lookups.now in
    let kind = register_kind_view c.args.kind.now in
    let signal = string_bytes c.args.connection.now.signal in
    let detail = option_map string_bytes c.args.connection.now.detail in
    subst (λ (o : Option ℕ). ConnectsMore d c.args.self.now c.add_keyed.new.self (connection_over d kind signal detail o ∷ []))
    (c.in-Some.ensures ∙ ap (program_of d) c.as_str.ensures.value) c.in_ok-add_keyed-in-Some-connection_key.ensures.more

pub returns-in_ok-add-in-None-clause-more : goal.returns-in_ok-add-in-None-clause-more
returns-in_ok-add-in-None-clause-more c =
    let d = c.args.lookups.now in
    let kind = register_kind_view c.args.kind.now in
    let signal = string_bytes c.args.connection.now.signal in
    let detail = option_map string_bytes c.args.connection.now.detail in
    subst (λ (o : Option ℕ). ConnectsMore d c.args.self.now c.add.new.self (connection_over d kind signal detail o ∷ []))
    (c.in-Some.ensures ∙ ap (program_of d) c.as_str.ensures.value)
    (new_group d c.args.self.now c.add.new.self kind signal detail c.in-Some.program c.in_ok-add-in-None.field-0 c.in_ok-add-in-None.ensures.adds)
