use Rattle.std.proofs.Common.{◌≡◌, ◌+◌, ◌++◌, None, replicate, vec_capacity, vec_len}
use Rattle.frames.proofs.frame.first_registers.Given as goal

abbrev pub invariant-filling : goal.invariant-filling
invariant-filling l = record {
  items : l.registers.items ≡ l.fn.registers.items ++ replicate l._added None;
  count : vec_len l.registers ≡ vec_len l.fn.registers + l._added;
  room : vec_capacity l.registers ≡ vec_capacity l.fn.registers;
}
