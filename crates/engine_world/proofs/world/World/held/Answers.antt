use Rattle.std.proofs.Common.{Some, None, sym, ◌∙◌}
use Rattle.engine_world.proofs.Built.{held_is}
use Rattle.engine_world.proofs.world.World.held.Goals as goal

pub returns-in-Some : goal.returns-in-Some
returns-in-Some c = sym (held_is c.args.self.now.builder.items c.args.place.0 (Some c.in-Some.held) (sym c.entry.ensures ∙ c.in-Some.is))

pub returns-in-None : goal.returns-in-None
returns-in-None c = sym (held_is c.args.self.now.builder.items c.args.place.0 None (sym c.entry.ensures ∙ c.in-None.is))
