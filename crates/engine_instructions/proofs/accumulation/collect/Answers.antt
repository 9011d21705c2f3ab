use Rattle.std.proofs.Common.{Bool, [], cond, Some, option_map, ap, refl, ◌∙◌, arith}
use Rattle.ui_machine.specs.State.References.{in_register}
use Rattle.g_values.specs.View.{value_view}
use Rattle.signal_core.specs.Emission.{accumulator_of, collected}
use Rattle.engine_world.specs.FirstEmissions.{first_emitted}
use Rattle.engine_stack.specs.FirstEmissions.{Emitted}
use Rattle.engine_stack.specs.declared.task.Transfers.TheVariants as at
use Rattle.engine_instructions.specs.CollectView.{collects}
use Rattle.engine_world.proofs.Counts.{both_only}
use Rattle.engine_world.proofs.Held.{may_less}
use Rattle.engine_instructions.proofs.accumulation.collect.Goals as goal

pub first_collected-now-requires : goal.first_collected-now-requires
first_collected-now-requires c = record { first = c.collect.ensures.emits.first }

pub hold_any-requires : goal.hold_any-requires
hold_any-requires c = record {
  may =
      let e = c.args.engine.now in
      let own = first_emitted e in
      let a = option_map accumulator_of c.args.accumulator in
      let v = value_view c.args.value in
      let is = c.collect.ensures.emission ∙ ap (λ (last : Bool). record own { walk = collected v last own.walk; transfers = cond last (at.Due []) own.transfers }) c.is_last-is_last.ensures in
      may_less e.world.table (λ o. in_register o (collects a (Some v) own.walk).value) _
      (λ o. omega (arith, c.first_collected-now.ensures o, ap (λ (x : Emitted). in_register o x.walk.value) is)) c.requires.may;
}

pub let_go_any-requires : goal.let_go_any-requires
let_go_any-requires c = record {
  held = λ o. omega (arith, c.requires.held o, c.first_collected-before.ensures o, c.hold_any.ensures.counts o);
}

pub returns : goal.returns
returns c =
    let e = c.args.engine.now in
    let own = first_emitted e in
    let v = value_view c.args.value in
    record {
      emission = c.collect.ensures.emission ∙ ap (λ (last : Bool). record own { walk = collected v last own.walk; transfers = cond last (at.Due []) own.transfers }) c.is_last-is_last.ensures;
      emits = c.collect.ensures.emits;
      only = record { beside = refl; table = both_only e.world.table c.hold_any.new.table c.let_go_any.new.table c.hold_any.ensures.only c.let_go_any.ensures.only };
      counts = λ o. omega (arith, c.hold_any.ensures.counts o, c.let_go_any.ensures.counts o, c.first_collected-now.ensures o, c.first_collected-before.ensures o);
      room = c.collect.ensures.room.1;
    }
