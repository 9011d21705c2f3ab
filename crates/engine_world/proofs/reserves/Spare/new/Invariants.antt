use Rattle.std.proofs.Common.{◌≡◌, ◌≤◌, All, [], vec_len, vec_capacity}
use Rattle.engine_world.proofs.reserves.Spare.new.Given as goal

abbrev pub invariant-loop : goal.invariant-loop
invariant-loop g l = record {
  made : vec_len l.plain ≡ l.counter;
  room : l.count ≤ vec_capacity l.plain;
  all_spare : All (λ v. v.items ≡ []) l.plain.items;
}
