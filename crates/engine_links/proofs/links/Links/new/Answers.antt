use Rattle.std.proofs.Common.{map}
use Rattle.engine_links.proofs.AllLinked.{all_linked}
use Rattle.engine_links.proofs.links.Links.new.Goals as goal

pub returns : goal.returns
returns c = record {
  slots = c.in_ok-tables.ensures.slots;
  signals = c.in_ok-tables.ensures.signals;
  handlers = c.in_ok-handlers.ensures;
  at = all_linked c.args.definition.now c.in_ok-tables.tables (map (λ row. row.items) c.in_ok-handlers.handlers.items) (map (λ p. map (λ b. b.items) p.items) c.in_ok-programs.programs.items) c.in_ok-programs.ensures;
}
