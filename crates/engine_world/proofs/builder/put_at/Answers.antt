use Rattle.std.proofs.Common.{◌≡◌, refl, ◌<◌, ◌≤◌, length, map, ap, ◌∙◌, arith}
use Rattle.std.proofs.lemmas.List.{length-map}
use Rattle.ui_machine.specs.Seq.{write}
use Rattle.ui_machine.specs.State.Config.{unbuilt}
use Rattle.engine_world.specs.declared.builder.BuilderEntry.TheVariants as held
use Rattle.engine_world.specs.View.{held_of}
use Rattle.engine_world.proofs.Built.{filled, held_more, held_set}
use Rattle.engine_world.proofs.builder.put_at.Goals as goal

pub growing-preserved : goal.growing-preserved
growing-preserved c =
    let items = c.growing.builder.items in
    let same : length (map held_of items) ≡ length items = rw length-map refl in
    let past : length (map held_of items) ≤ c.args.place = omega (arith, same, c.growing-test.true, c.len.ensures, c.growing.builder.ok.0) in
    ap (λ ids. write unbuilt (map held_of ids) c.args.place (held_of c.args.held)) c.in_ok-push.ensures.items
    ∙ ap (λ held. write unbuilt held c.args.place (held_of c.args.held)) (held_more items held.Unbuilt)
    ∙ filled (map held_of items) c.args.place (held_of c.args.held) past
    ∙ c.growing.invariant

pub returns : goal.returns
returns c =
    let within : c.args.place < length c.growing.builder.items = omega (arith, c.growing-test.false, c.len.ensures, c.growing.builder.ok.0) in
    held_set c.growing.builder.items c.args.place c.args.held within ∙ c.growing.invariant
