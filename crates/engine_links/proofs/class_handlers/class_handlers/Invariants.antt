use Rattle.std.proofs.Common.{◌≡◌, ◌<◌, [], ℕ, length, map}
use Rattle.ui_machine.specs.Definition.Lookups.{class_of}
use Rattle.ui_machine.specs.Seq.{read}
use Rattle.engine_links.specs.Steps.{ArePairwise, IsHandler}
use Rattle.engine_links.proofs.class_handlers.class_handlers.Given as goal

abbrev pub invariant-classes : goal.invariant-classes
invariant-classes l = record {
  count : length l.rows.items ≡ l.class;
  each : (c : ℕ) → c < length (map (λ row. row.items) l.rows.items)
      → ArePairwise (IsHandler l.definition c) (class_of l.definition c).signals (read [] (map (λ row. row.items) l.rows.items) c);
}
