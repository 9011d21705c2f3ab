use Rattle.std.proofs.Common.{◌≡◌, Result, Ok, Err, ap, sym, ◌∙◌}
use Rattle.std.specs.Prelude.{IfOk}
use Rattle.std.specs.declared.alloc.AllocError.{AllocError}
use Rattle.g_values.specs.View.{value_view}
use Rattle.g_values.specs.declared.value.Value as code
use Rattle.engine_world.specs.View.{world_of}
use Rattle.engine_world.proofs.Ableness.{is_ok}
use Rattle.engine_instructions.specs.PropertyView.{readable_value}
use Rattle.engine_instructions.proofs.PropertySteps.{reads_at, reads_none, reads_slot}
use Rattle.engine_instructions.proofs.properties.readable_value.Goals as goal

pub slot_at-slot-requires : goal.slot_at-slot-requires
slot_at-slot-requires c = record { able = reads_slot c.args.definition.now (world_of c.args.engine.now.world) c.args.object.0 c.args.property.now c.requires.able; link = c.requires.link }

pub read-requires : goal.read-requires
read-requires c = record {
  slot =
      let w = world_of c.args.engine.now.world in
      is_ok _ (λ arm is. reads_none c.args.definition.now w c.args.object.0 c.args.property.now c.slot_at-slot.result c.slot_at-slot.ensures arm is c.requires.able);
}

pub returns : goal.returns
returns c = by c.copied.result c.copied.ensures.value
  where
    by : (result : Result code.Value AllocError) → IfOk result (λ v. value_view v ≡ value_view c.read.result.now)
        → IfOk result (λ v. readable_value c.args.definition.now (world_of c.args.engine.now.world) c.args.object.0 c.args.property.now ≡ Ok (value_view v))
    by (Ok v) same =
        reads_at c.args.definition.now (world_of c.args.engine.now.world) c.args.object.0 c.args.property.now c.slot_at-slot.result c.slot_at-slot.ensures _ c.read.ensures c.requires.able
        ∙ ap (λ x. Ok x) (sym same)
    by (Err error) same = tt
