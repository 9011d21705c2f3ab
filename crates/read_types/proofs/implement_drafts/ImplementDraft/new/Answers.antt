use Rattle.signal_core.specs.Sources.{signals_of}
use Rattle.read_types.proofs.ImplementParts.{begun}
use Rattle.read_types.proofs.implement_drafts.ImplementDraft.new.Goals as goal

pub returns : goal.returns
returns c =
    begun (signals_of c.args.types.now c.args.signals.now.signals) c.args.parent c.new.result.items c.new-names.result c.add_names.new.names c.new.ensures.items
    c.new-names.ensures.empty c.in_ok-add_names.ensures
