use Rattle.std.proofs.Common.{◌≡◌, ◌+◌, ◌≤◌, ◌++◌, Some, map, reverse, vec_capacity, vec_len}
use Rattle.engine_stack.proofs.plain_frames.fill.Given as goal

abbrev pub invariant-loop-value : goal.invariant-loop-value
invariant-loop-value l = record {
  filled : l.registers.items ++ map (λ v. Some v) (reverse l.values.items) ≡ map (λ v. Some v) l.fn.values.items;
  few : vec_len l.registers + vec_len l.values ≤ vec_capacity l.registers;
  room : vec_capacity l.registers ≡ vec_capacity l.fn.registers;
}

abbrev pub decreases-loop-value : goal.decreases-loop-value
decreases-loop-value l = vec_len l.values
