-- Lists by the numbers of signals.
use Rattle.std.specs.Prelude.{ℕ, List, [], Option, None, Some, Vec}
use Rattle.std.specs.Global.{Global}
use Rattle.std.specs.BTreeMap.{get}
use Rattle.std.specs.Ordering.{nat_cmp}
use Rattle.verify_channels.specs.declared.signal_lists.SignalLists.{SignalLists}

abbrev pub items_of : {T : Type 0} → Option (Vec T Global) → List T
items_of None = []
items_of (Some v) = v.items

-- the list of a signal
abbrev pub list_of : {T : Type 0} → SignalLists T → ℕ → List T
list_of s n = items_of (get nat_cmp s.lists n)
