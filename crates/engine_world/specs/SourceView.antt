-- Sources that programs attach, and what they hold.
use Rattle.std.specs.Prelude.{ℕ, suc, ◌≤◌}
use Rattle.ui_machine.specs.Seq.{total}
use Rattle.ui_machine.specs.State.Config.{World}
use Rattle.ui_machine.specs.State.References.{in_source}
use Rattle.ui_machine.specs.State.Sources.{attached, new_source}
use Rattle.instance_tables.specs.Store.{count_of, id_of}
use Rattle.engine_world.specs.declared.engine.Engine.{Engine}
use Rattle.engine_world.specs.declared.sources.NewSource.{NewSource}

-- the world with one source more
abbrev pub with_new_source : World → NewSource → World
with_new_source w s = record w {
  sources = attached w.sources (new_source (suc w.last_source) w.moment s.program s.priority s.interval (id_of s.arg));
  last_source = suc w.last_source;
}

-- the data of sources is counted at least so often
pub record HoldsSources (e : Engine) : Type 0 where
  pub at : (o : ℕ) → total (in_source o) e.world.context.sources ≤ count_of e.world.table.counts o
