use Rattle.std.proofs.Common.{◌≡◌, suc, ◌+◌, List, [], ◌∷◌, refl, ap, ◌∙◌, arith, rules}
use Rattle.ui_machine.specs.Outcome.{Answer, ◌>>=◌}
use Rattle.ui_machine.specs.Rules.Build.{building, is_connecting, with_signal}
use Rattle.ui_machine.specs.Rules.Connections.{Connection}
use Rattle.ui_machine.specs.State.Config.{Started, World, starts}
use Rattle.ui_machine.specs.Seq.{total}
use Rattle.ui_machine.specs.State.Tasks.{Building, Item}
use Rattle.ui_machine.specs.Steps.{uncounted}
use Rattle.signal_core.specs.Connected.{connection_of}
use Rattle.engine_world.specs.TaskView.{agenda_of}
use Rattle.engine_stack.specs.TaskView.{connects_from}
use Rattle.engine_world.specs.View.{world_of}
use Rattle.engine_world.proofs.Counts.{keeps_on}
use Rattle.engine_world.proofs.Signals.{connects_attached}
use Rattle.engine_world.specs.ConnectView.{attached_at}
use Rattle.engine_world.proofs.Ableness.{able_as, first, in_uncounted}
use Rattle.engine_tasks.proofs.signals.connect_from_build.Goals as goal

pub attached-requires : goal.attached-requires
attached-requires c =
    let d = c.args.definition.now in
    let w = world_of c.args.engine.now.world in
    let at = c.in-Some.at in
    let items = connects_from d at.place.0 (suc at.number) in
    let start : Connection → Answer Started = λ (x : Connection). starts (with_signal w x) (Building items ∷ []) in
    let is = ap (building d w) c.in-Some.ensures.next ∙ connects_attached d w at.place.0 at.number items in
    record { able = first (attached_at d w at.place.0 at.number) start (able_as is (in_uncounted _ _ _ c.requires.able)) }

pub returns : goal.returns
returns c = record {
  step =
      let d = c.args.definition.now in
      let w = world_of c.args.engine.now.world in
      let rest = agenda_of d c.args.engine.now in
      let n = c.args.engine.now.counted in
      let at = c.in-Some.at in
      let items = connects_from d at.place.0 (suc at.number) in
      let meant = connection_of c.in_ok-connection.connection in
      let start : Connection → Answer Started = λ (x : Connection). starts (with_signal w x) (Building items ∷ []) in
      let is : building d w (connects_from d c.args.place.0 c.args.number) ≡ starts (with_signal w meant) (Building items ∷ []) =
      ap (building d w) c.in-Some.ensures.next ∙ connects_attached d w at.place.0 at.number items
      ∙ ap (λ (a : Answer Connection). a >>= start) c.in_ok-connection.ensures.attached in
      let pushed = c.push_task.ensures.agenda d ∙ ap (λ k. Building (connects_from d at.place.0 k) ∷ rest) (let e : at.number + 1 ≡ suc at.number = omega arith in e) in
      let world = c.in_ok-connect_signal.ensures.world ∙ ap (λ (v : World). with_signal v meant) c.push_task.ensures.world in
      let agenda = c.in_ok-connect_signal.ensures.agenda ∙ pushed in
      let count = c.connect_signal.ensures.same ∙ c.push_task.ensures.same in
      ap (uncounted rest n) is ∙ rw (world, agenda, count) refl;
  quiet = search rules;
  counted =
      let d = c.args.definition.now in
      keeps_on d _ _ _ (c.push_task.ensures.counted d) c.in_ok-connect_signal.ensures.counted;
  room = search rules;
}

pub connect_signal-requires : goal.connect_signal-requires
connect_signal-requires c = record {
  by_builder = c.in_ok-connection.ensures.by_builder;
  connects = c.push_task.ensures.connects c.args.definition.now c.requires.connects;
  number =
      let last = ap (λ (w : World). w.last_handler) c.push_task.ensures.world in
      let one = ap (λ (items : List Item). total is_connecting items) c.in-Some.ensures.next in
      omega (arith, c.requires.numbers, last, one);
}
