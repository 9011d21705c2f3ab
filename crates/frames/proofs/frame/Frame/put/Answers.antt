use Rattle.std.proofs.Common.{◌≡◌, ◌<◌, length, get_or, option_map, sym, arith}
use Rattle.g_values.specs.View.{value_view}
use Rattle.bytecode.proofs.BlockShapes.{length_viewed}
use Rattle.frames.proofs.FrameRegisters.{held_in, set_in}
use Rattle.frames.proofs.frame.Frame.put.Goals as goal

pub index_mut-requires : goal.index_mut-requires
index_mut-requires c = omega (arith, c.requires.register, length_viewed (option_map value_view) c.args.self.now.registers.items)

pub returns-clause-written : goal.returns-clause-written
returns-clause-written c =
    let items = c.args.self.now.registers.items in
    let short : c.args.to.0 < length items = omega (arith, c.requires.register, length_viewed (option_map value_view) items) in
    rw (c.replace.ensures.after) (sym (set_in items c.args.to.0 c.args.value short))

pub returns-clause-held : goal.returns-clause-held
returns-clause-held c =
    let items = c.args.self.now.registers.items in
    let short : c.args.to.0 < length items = omega (arith, c.requires.register, length_viewed (option_map value_view) items) in
    let held : c.replace.result ≡ get_or items c.args.to.0 c.replace.result = rw (c.replace.ensures.value) c.index_mut.ensures.value in
    held_in items c.args.to.0 c.replace.result short held
