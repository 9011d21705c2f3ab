use Rattle.std.proofs.Common.{◌≡◌, All, vec_len, vec_capacity}
use Rattle.engine_stack.specs.Stocks.{IsEmptyOf}
use Rattle.engine_stack.proofs.stocks.Stock.new.Given as goal

abbrev pub invariant-loop : goal.invariant-loop
invariant-loop g l = record {
  made : vec_len l.vectors ≡ l.counter;
  room : vec_capacity l.vectors ≡ l.count;
  all_empty : All (IsEmptyOf l.room) l.vectors.items;
}
