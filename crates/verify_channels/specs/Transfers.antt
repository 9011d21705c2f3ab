-- The bindings that lead from channels one way, by number.
use Rattle.std.specs.Prelude.{◌≡◌, ℕ, not, ◌&&◌, List, [], Option, Some, map, slice_get, Vec}
use Rattle.std.specs.Global.{Global}
use Rattle.std.specs.List.{filter}
use Rattle.ui_machine.specs.Seq.{read}
use Rattle.ui_machine.specs.Definition.Places.{Bind}
use Rattle.law_typing.specs.Graph.Channels.{Channel, is_pair, same_channel, source_of, target_of}
use Rattle.verify_graph.specs.Numbers.{number_of}

-- the targets of those of some bindings that lead from a channel one way
abbrev pub targets_in : Channel → List Bind → List Channel
targets_in c bindings = map target_of (filter (λ b. not (is_pair b) && same_channel (source_of b) c) bindings)

-- the numbers of the targets, where they are channels
abbrev pub target_numbers : List Channel → Channel → List Bind → List (Option ℕ)
target_numbers all c bindings = map (number_of all) (targets_in c bindings)

-- the list at a place
abbrev pub list_at : {A : Type 0} → List (Vec A Global) → ℕ → List A
list_at lists n = read [] (map (λ v. v.items) lists) n

-- of each channel, by number, those of some bindings
abbrev pub AreTargets : List Channel → List (Vec (Option ℕ) Global) → List Bind → Type 0
AreTargets all lists bindings = (n : ℕ) (c : Channel) → slice_get all n ≡ Some c → list_at lists n ≡ target_numbers all c bindings
