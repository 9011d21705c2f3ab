use Rattle.std.proofs.Common.{true, string_bytes}
use Rattle.std.proofs.Math.Path.{fun_ext}
use Rattle.std.proofs.lemmas.Map.Text.{btree_set_updates_text}
use Rattle.read_objects.proofs.peer_names.PeerNames.add.Goals as goal

pub returns : goal.returns
returns c = fun_ext (λ other. btree_set_updates_text (string_bytes c.args.name) c.args.self.now.names c.insert.new.self true c.in_ok-insert.ensures.updates other)
