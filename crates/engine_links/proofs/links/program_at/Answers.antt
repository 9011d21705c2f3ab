use Rattle.std.proofs.Common.{◌≤◌, None, length, sym, arith}
use Rattle.engine_links.proofs.Reading.{get_or-read, read-past}
use Rattle.engine_links.proofs.links.program_at.Goals as goal

pub returns-then-at-programs : goal.returns-then-at-programs
returns-then-at-programs c = get_or-read None c.args.programs.now c.from-at.result c.args.number c.from-at.ensures

pub returns-else-at-programs : goal.returns-else-at-programs
returns-else-at-programs c =
    let over : length c.args.programs.now ≤ c.args.number = omega (arith, c.from-at.ensures, c.if-at-programs.false) in
    sym (read-past None c.args.programs.now c.args.number over)
