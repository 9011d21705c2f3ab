-- The objects that a binding of the definition is between.
use Rattle.std.specs.Prelude.{ℕ, Ok}
use Rattle.ui_machine.specs.Definition.Places.{Bind}
use Rattle.ui_machine.specs.Outcome.{Answer, ◌>>=◌}
use Rattle.ui_machine.specs.Rules.Build.{held_object}
use Rattle.ui_machine.specs.State.Config.{World}
use Rattle.engine_tasks.specs.declared.binds.Ends as code

pub record Ends : Type 0 where
  pub source : ℕ
  pub target : ℕ

abbrev pub ends_of : code.Ends → Ends
ends_of ends = record { source = ends.source.0; target = ends.target.0 }

-- what the builder holds of its places
abbrev pub ends_at : World → Bind → Answer Ends
ends_at w b = held_object w b.source >>= λ source. held_object w b.target >>= λ target. Ok (record { source = source; target = target })
