use Rattle.std.proofs.Common.{◌≡◌, ◌∙◌, sym, ap, subst, option_map, rules}
use Rattle.ui_machine.specs.Rules.Transfers.{set_by, transferring}
use Rattle.ui_machine.specs.Steps.{counted, uncounted}
use Rattle.g_values.specs.View.{value_view}
use Rattle.engine_world.specs.Counting.{PassesGot}
use Rattle.engine_world.specs.TaskView.{agenda_of}
use Rattle.engine_world.specs.View.{world_of}
use Rattle.engine_world.specs.declared.engine.Engine.{Engine}
use Rattle.engine_world.proofs.Counts.{keeps_on, keeps_same, still_counted}
use Rattle.engine_world.proofs.Notified.{counted_on}
use Rattle.engine_tasks.specs.TransferSteps.{carried_value, to_end}
use Rattle.engine_tasks.proofs.Carrying.{target_lives, transfer_sets, transfers_by}
use Rattle.engine_world.proofs.Ableness.{able_as, first, in_counted}
use Rattle.engine_tasks.proofs.transfers.transfer.Goals as goal

pub count-requires : goal.count-requires
count-requires c = record { few = (in_counted (agenda_of c.args.definition.now c.args.engine.now) c.args.engine.now.counted _ c.requires.able).0 }

pub carried_value-requires : goal.carried_value-requires
carried_value-requires c =
    let d = c.args.definition.now in
    let e = c.args.engine.now in
    let w = world_of c.count.new.engine.world in
    let t = c.in-Some.transfer in
    let by_value = ap (λ (x : Engine). transferring d (world_of x.world) c.args.number c.args.back) (sym c.count.ensures)
    ∙ transfers_by d w c.args.number c.args.back t (sym c.in-Some.is ∙ c.transfer.ensures) in
    record { able = first (carried_value d w t) (λ v. set_by w t.number (to_end t) v) (able_as by_value (in_counted (agenda_of d e) e.counted _ c.requires.able).1) }

pub set_by-requires : goal.set_by-requires
set_by-requires c =
    let d = c.args.definition.now in
    let e = c.args.engine.now in
    let f = c.count.new.engine in
    let t = c.in-Some.transfer in
    let is = c.count.ensures in
    let rest = agenda_of d e in
    let v = option_map value_view c.in_ok-value.value in
    let whole : counted rest e.counted (transferring d (world_of e.world) c.args.number c.args.back) ≡ uncounted (agenda_of d f) f.counted (set_by (world_of f.world) t.number (to_end t) v) =
    counted_on rest e.counted _ (in_counted rest e.counted _ c.requires.able).0
    ∙ ap (λ (x : Engine). uncounted (agenda_of d x) x.counted (transferring d (world_of x.world) c.args.number c.args.back)) (sym is)
    ∙ ap (uncounted (agenda_of d f) f.counted) (transfer_sets d (world_of f.world) c.args.number c.args.back t (sym c.in-Some.is ∙ c.transfer.ensures) v c.in_ok-value.ensures) in
    let by_value = ap (λ (x : Engine). transferring d (world_of x.world) c.args.number c.args.back) (sym is)
    ∙ transfers_by d (world_of f.world) c.args.number c.args.back t (sym c.in-Some.is ∙ c.transfer.ensures) in
    let same = keeps_same d e f (ap (λ (x : Engine). x.world.table) is) (ap (λ (x : Engine). x.world.weak) is) (ap (λ (x : Engine). x.links) is) (subst (λ (x : Engine). PassesGot d x) (sym is)) (ap (λ (x : Engine). x.world.context) is) (ap (λ (x : Engine). x.world.builder) is) (ap (λ (x : Engine). x.stack) is) (ap (λ (x : Engine). x.world.handlers) is) in
    record {
      able = able_as whole c.requires.able;
      live = target_lives d (world_of f.world) t (first (carried_value d (world_of f.world) t) (λ v. set_by (world_of f.world) t.number (to_end t) v) (able_as by_value (in_counted rest e.counted _ c.requires.able).1));
      counted = still_counted d e f same c.requires.counted;
      room = rw is c.requires.room;
    }

pub returns : goal.returns
returns c = record {
  step =
      let d = c.args.definition.now in
      let e = c.args.engine.now in
      let f = c.count.new.engine in
      let t = c.in-Some.transfer in
      let is = c.count.ensures in
      let rest = agenda_of d e in
      let v = option_map value_view c.in_ok-value.value in
      let whole : counted rest e.counted (transferring d (world_of e.world) c.args.number c.args.back) ≡ uncounted (agenda_of d f) f.counted (set_by (world_of f.world) t.number (to_end t) v) =
      counted_on rest e.counted _ (in_counted rest e.counted _ c.requires.able).0
      ∙ ap (λ (x : Engine). uncounted (agenda_of d x) x.counted (transferring d (world_of x.world) c.args.number c.args.back)) (sym is)
      ∙ ap (uncounted (agenda_of d f) f.counted) (transfer_sets d (world_of f.world) c.args.number c.args.back t (sym c.in-Some.is ∙ c.transfer.ensures) v c.in_ok-value.ensures) in
      whole ∙ c.set_by.ensures.step;
  quiet = search rules;
  counted =
      let d = c.args.definition.now in
      let e = c.args.engine.now in
      let f = c.count.new.engine in
      let is = c.count.ensures in
      let same = keeps_same d e f (ap (λ (x : Engine). x.world.table) is) (ap (λ (x : Engine). x.world.weak) is) (ap (λ (x : Engine). x.links) is) (subst (λ (x : Engine). PassesGot d x) (sym is)) (ap (λ (x : Engine). x.world.context) is) (ap (λ (x : Engine). x.world.builder) is) (ap (λ (x : Engine). x.stack) is) (ap (λ (x : Engine). x.world.handlers) is) in
      keeps_on d _ _ _ same c.set_by.ensures.counted;
  room = search rules;
}
