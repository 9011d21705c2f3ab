use Rattle.std.proofs.Common.{◌≡◌, ℕ, ◌++◌, [], cond, length}
use Rattle.std.specs.Prelude.{nat_lt, option_map, string_bytes}
use Rattle.bytecode.specs.View.{register_kind_view}
use Rattle.verify_channels.specs.Connected.{meant_at, placed}
use Rattle.verify_channels.specs.Meanings.{of_signal}
use Rattle.verify_channels.proofs.connections.Connects.add.Given as goal

abbrev pub invariant-loop-place : goal.invariant-loop-place
invariant-loop-place l = record {
  groups : l.self.groups ≡ l.initial.self.groups;
  numbers : l.self.numbers ≡ l.initial.self.numbers;
  places : length l.self.at.items ≡ length l.lookups.places;
  placed_at : (n number : ℕ) →
      placed l.self.at.items n number
      ≡ placed l.initial.self.at.items n number
      ++ cond (nat_lt n l.place)
      (of_signal number (meant_at l.lookups (register_kind_view l.kind) (string_bytes l.connection.signal) (option_map string_bytes l.connection.detail) l.group n)) [];
}
