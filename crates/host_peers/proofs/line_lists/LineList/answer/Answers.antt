use Rattle.std.specs.Rc.{rc_str_bytes}
use Rattle.std.proofs.Common.{map}
use Rattle.g_values.specs.View.{value_view}
use Rattle.host_peers.specs.Screens.{first_place}
use Rattle.host_peers.proofs.Lines.{read_fits}
use Rattle.host_peers.proofs.line_lists.LineList.answer.Goals as goal

pub returns-else-method-eq0-clause-fits : goal.returns-else-method-eq0-clause-fits
returns-else-method-eq0-clause-fits c =
    read_fits rc_str_bytes c.args.self.now.items.items c.args.method (first_place (map value_view c.args.args.now)) (map value_view c.args.args.now) c.line.result c.if-method-eq0.false c.requires c.args.self.now.short c.line.ensures
