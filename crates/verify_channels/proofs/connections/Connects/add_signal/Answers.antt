use Rattle.std.proofs.Common.{◌∙◌, sym, ap, subst, ℕ, ◌∷◌, [], List}
use Rattle.std.specs.Prelude.{option_map, string_bytes}
use Rattle.ui_machine.specs.Definition.Lookups.{program_of}
use Rattle.bytecode.specs.View.{signal_instruction_view}
use Rattle.bytecode.specs.declared.instructions.SignalInstruction.{SignalInstruction}
use Rattle.law_typing.specs.Graph.{connection_of, listed_if}
use Rattle.law_typing.specs.Rules.RegisterKinds.{kind_in, places}
use Rattle.verify_operands.specs.Views.{kinds_of}
use Rattle.verify_starts.specs.Covering.{covering}
use Rattle.verify_channels.specs.Connected.{ConnectsMore}
use Rattle.verify_channels.proofs.Covered.{covering_places}
use Rattle.verify_channels.proofs.connections.Connects.add_signal.Goals as goal

pub returns-in_ok-connect-in-Connect-clause-more : goal.returns-in_ok-connect-in-Connect-clause-more
returns-in_ok-connect-in-Connect-clause-more c =
    let d = c.args.lookups.now in
    let k = c.in-Connect.connection in
    let ks = kinds_of c.args.kinds.now in
    let kind = kind_in ks c.in-Connect.object.0 in
    subst (λ (i : SignalInstruction). ConnectsMore d c.args.self.now c.connect.new.self (listed_if (connection_of d ks (signal_instruction_view i)))) (sym c.in-Connect.is)
    (subst (λ (ps : List ℕ). ConnectsMore d c.args.self.now c.connect.new.self
    (record { places = ps; signal = string_bytes k.signal; detail = option_map string_bytes k.detail; program = program_of d (string_bytes k.program) } ∷ []))
    (ap (places d) (c.covering-kind.ensures ∙ ap covering c.kind_in.ensures) ∙ covering_places d kind) c.in_ok-connect-in-Connect.ensures.more)
