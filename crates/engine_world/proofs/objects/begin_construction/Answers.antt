use Rattle.std.proofs.Common.{◌≡◌, ◌<◌, ℕ, IfSome, List, Option, refl, ap, length, string_bytes, subst, sym, ◌∙◌}
use Rattle.ui_machine.specs.Rules.Construction.{lent}
use Rattle.ui_machine.specs.State.Config.{World}
use Rattle.ui_machine.specs.State.Peers.{Peer}
use Rattle.signal_core.specs.Connected.{Connected}
use Rattle.engine_stack.specs.TaskView.{tasks_of}
use Rattle.engine_world.specs.View.{with_line, world_of}
use Rattle.engine_world.proofs.Counts.{keeps_lent, keeps_on, keeps_said}
use Rattle.engine_world.proofs.Held.{pushes_one}
use Rattle.engine_world.proofs.objects.begin_construction.Goals as goal

-- a number is one of the peers still
still_there : (peer : Option ℕ) (v w u : World) → w ≡ u → u.peers ≡ v.peers → IfSome peer (λ number. number < length v.peers) → IfSome peer (λ number. number < length w.peers)
still_there peer v w u is same there =
    subst (λ (ps : List Peer). IfSome peer (λ number. number < length ps)) (sym (ap (λ (x : World). x.peers) is ∙ same)) there

pub push_task-requires-clause-may : goal.push_task-requires-clause-may
push_task-requires-clause-may c = pushes_one c.args.engine.now _ c.args.new.object.0 (λ d o. refl) c.requires.may

pub lend-requires : goal.lend-requires
lend-requires c =
    still_there c.args.new.peer (world_of c.args.engine.now.world) (world_of c.say.new.self) _ c.in_ok-say.ensures.ok (ap (λ (w : World). w.peers) c.push_task.ensures.world) c.requires.peer

pub returns-clause-agenda : goal.returns-clause-agenda
returns-clause-agenda c d = ap (λ (h : Connected). tasks_of d h.handlers c.push_task.new.engine.stack) c.say.ensures.handlers ∙ c.push_task.ensures.agenda d

pub returns-clause-world : goal.returns-clause-world
returns-clause-world c =
    let new = c.args.new in
    ap (λ (ps : List Peer). record (world_of c.say.new.self) { peers = ps }) c.lend.ensures
    ∙ ap (λ (w : World). record w { peers = lent new.peer new.object.0 w.peers }) (c.in_ok-say.ensures.ok ∙ ap (λ (w : World). with_line (string_bytes new.line) w) c.push_task.ensures.world)

pub returns-clause-counted : goal.returns-clause-counted
returns-clause-counted c d =
    let new = c.args.new in
    let e = record c.push_task.new.engine { world = c.say.new.self } in
    keeps_on d _ _ _ (c.push_task.ensures.counted d)
    (keeps_on d _ _ _ (keeps_said d c.push_task.new.engine c.say.new.self c.say.ensures.beside)
    (keeps_lent d e new.peer new.object.0 c.lend.new.seats c.lend.ensures
    (still_there new.peer (world_of c.args.engine.now.world) (world_of c.say.new.self) _ c.in_ok-say.ensures.ok (ap (λ (w : World). w.peers) c.push_task.ensures.world) c.requires.peer)))
