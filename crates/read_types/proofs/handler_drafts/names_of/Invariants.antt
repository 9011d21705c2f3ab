use Rattle.std.proofs.Common.{◌≡◌, ℕ, List, take, is_some}
use Rattle.std.specs.BTreeSet.{contains_text}
use Rattle.ui_machine.specs.Rules.EmissionPlan.{handler_in}
use Rattle.read_types.proofs.handler_drafts.names_of.Given as goal

abbrev pub invariant-loop-handler : goal.invariant-loop-handler
invariant-loop-handler l = (name : List ℕ) → contains_text l.named name ≡ is_some (handler_in (take l.handler-index l.handlers) name)
