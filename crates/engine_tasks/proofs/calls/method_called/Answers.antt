use Rattle.engine_world.specs.SeatView.{lent_view}
use Rattle.engine_stack.specs.TaskView.{call_of}
use Rattle.engine_world.specs.View.{world_of}
use Rattle.peer_shapes.specs.MethodViews as methods
use Rattle.engine_tasks.proofs.CallSteps.{method_named, no_method_called, no_peer_called}
use Rattle.engine_tasks.proofs.calls.method_called.Goals as goal

pub returns-in_default-clause-named : goal.returns-in_default-clause-named
returns-in_default-clause-named c = no_peer_called (world_of c.args.engine.now.world) (call_of c.args.call.now) c.in_default.ensures.found

pub returns-in_default-method-clause-named : goal.returns-in_default-method-clause-named
returns-in_default-method-clause-named c =
    no_method_called (world_of c.args.engine.now.world) (call_of c.args.call.now) (lent_view c.in-Some.seat) c.in-Some.ensures.found c.in_default-method.ensures.found

pub returns-clause-named : goal.returns-clause-named
returns-clause-named c =
    method_named (world_of c.args.engine.now.world) (call_of c.args.call.now) (lent_view c.in-Some.seat) c.in-Some.ensures.found (methods.lent_view c.in-Some-method.method) c.in-Some-method.ensures.found
