use Rattle.std.proofs.Common.{◌∙◌, sym, length, ◌-◌, arith}
use Rattle.std.proofs.lemmas.Option.{slice_get_within}
use Rattle.bytecode.proofs.BlockShapes.{last_jumps}
use Rattle.bytecode.proofs.shapes.ends_in_jump.Goals as goal

pub returns-in-Some : goal.returns-in-Some
returns-in-Some c =
    let code = c.args.code.now in
    let at = sym c.in-Some.ensures.value in
    let within = slice_get_within code _ _ at in
    c.is_jump.ensures ∙ sym (last_jumps code (length code - 1) c.in-Some.last.now (omega (arith, within)) at)
