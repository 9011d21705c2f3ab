-- What the engine's types denote in the machine.
use Rattle.std.specs.Prelude.{ℕ, List, [], ◌∷◌, ◌++◌, Option, None, Some, String, map, option_map, string_bytes}
use Rattle.std.specs.Global.{Global}
use Rattle.ui_machine.specs.State.Config as config
use Rattle.g_values.specs.View.{value_view}
use Rattle.engine_world.specs.declared.builder.BuilderEntry.{BuilderEntry}
use Rattle.engine_world.specs.declared.builder.BuilderEntry.TheVariants as held
use Rattle.engine_world.specs.declared.world.World.{World}

-- what the builder has of a place, as the machine says it
abbrev pub held_of : BuilderEntry → config.BuilderEntry
held_of held.Unbuilt = config.unbuilt
held_of (held.Built id) = config.built id.0
held_of held.Released = config.released

abbrev pub world_of : World → config.World
world_of w = record {
  objects = w.table.objects;
  handlers = w.handlers.handlers;
  last_handler = w.handlers.last;
  bindings = w.bindings.bindings;
  sources = w.context.sources;
  last_source = w.context.last;
  floating = w.table.floating;
  builder = map held_of w.builder.items;
  peers = w.seats;
  moment = w.context.moment;
  transcript = map string_bytes w.transcript.items;
  result = option_map value_view w.result;
}

-- the world with these lines more
abbrev pub with_lines : List (List ℕ) → config.World → config.World
with_lines lines w = record w { transcript = w.transcript ++ lines }

-- a line, if there is one
abbrev pub line_if : Option (String Global) → List (List ℕ)
line_if None = []
line_if (Some line) = string_bytes line ∷ []

-- the world with one line more
abbrev pub with_line : List ℕ → config.World → config.World
with_line text w = record w { transcript = w.transcript ++ text ∷ [] }

-- the same with a line that there may be
abbrev pub with_line_if : Option (String Global) → config.World → config.World
with_line_if None w = w
with_line_if (Some line) w = with_line (string_bytes line) w
