use Rattle.std.proofs.Common.{IsTrue, string_bytes, sym, ap, ◌∙◌}
use Rattle.ui_machine.specs.State.Objects.{Object}
use Rattle.native_peers.specs.Pool.{entries}
use Rattle.native_peers.specs.Seen.{Seen}
use Rattle.instance_tables.specs.Store.{made_object}
use Rattle.instances.proofs.Kept.{born_full}
use Rattle.instances.proofs.Making.{floats_there, made_there}
use Rattle.instances.proofs.Pools.{seen_inside}
use Rattle.instances.proofs.heaps.Heap.create.Goals as goal

pub add_floating-requires-clause-inside : goal.add_floating-requires-clause-inside
add_floating-requires-clause-inside g c = λ number is.
    seen_inside (λ p. record { name = string_bytes p.name; state = (g.dyn-1.0.entry p.peer.vtable).1.state p.peer.value }) (entries c.args.self.now.pool) number
    (λ (s : Seen). IsTrue s.state.is_open) (c.requires.open number (sym (ap (λ (o : Object). o.peer) c.new-object.ensures) ∙ is))

pub add_floating-requires-clause-full : goal.add_floating-requires-clause-full
add_floating-requires-clause-full g c =
    born_full c.args.self.now.classes.types.now c.args.self.now.classes.specs.now c.args.place.0 c.args.class c.args.peer c.new-object.result
    (c.new-object.ensures ∙ ap (λ vs. made_object c.args.class c.args.place.0 vs c.args.peer) c.in-Ok.ensures)

pub add_object-requires-clause-full : goal.add_object-requires-clause-full
add_object-requires-clause-full g c =
    born_full c.args.self.now.classes.types.now c.args.self.now.classes.specs.now c.args.place.0 c.args.class c.args.peer c.new-object.result
    (c.new-object.ensures ∙ ap (λ vs. made_object c.args.class c.args.place.0 vs c.args.peer) c.in-Ok.ensures)

pub add_object-requires-clause-inside : goal.add_object-requires-clause-inside
add_object-requires-clause-inside g c = λ number is.
    seen_inside (λ p. record { name = string_bytes p.name; state = (g.dyn-1.0.entry p.peer.vtable).1.state p.peer.value }) (entries c.args.self.now.pool) number
    (λ (s : Seen). IsTrue s.state.is_open) (c.requires.open number (sym (ap (λ (o : Object). o.peer) c.new-object.ensures) ∙ is))

pub returns-then-floats_at_first-clause-made : goal.returns-then-floats_at_first-clause-made
returns-then-floats_at_first-clause-made g c =
    floats_there c.add_floating.result c.new-object.result (made_object c.args.class c.args.place.0 _ c.args.peer) c.args.self.now.table c.add_floating.new.self.table
    (c.new-object.ensures ∙ ap (λ vs. made_object c.args.class c.args.place.0 vs c.args.peer) c.in-Ok.ensures) c.add_floating.ensures.creates

pub returns-else-floats_at_first-clause-made : goal.returns-else-floats_at_first-clause-made
returns-else-floats_at_first-clause-made g c =
    made_there c.add_object.result c.new-object.result (made_object c.args.class c.args.place.0 _ c.args.peer) c.args.self.now.table c.add_object.new.self.table
    (c.new-object.ensures ∙ ap (λ vs. made_object c.args.class c.args.place.0 vs c.args.peer) c.in-Ok.ensures) c.add_object.ensures.creates
