use Rattle.std.proofs.Common.{◌≡◌, ℕ, List, take}
use Rattle.std.specs.List.{list_any}
use Rattle.std.specs.BTreeSet.{contains_text}
use Rattle.verify_operands.specs.Parts.{is_named}
use Rattle.verify_operands.proofs.bind_names.names_of.Given as goal

abbrev pub invariant-loop-number : goal.invariant-loop-number
invariant-loop-number l = (name : List ℕ) → contains_text l.names name ≡ list_any (is_named name) (take l.number l.definition.bindings)
