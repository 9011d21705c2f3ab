use Rattle.std.proofs.Common.{arith}
use Rattle.verify_order.proofs.Kept.{read_places, read_between, read_last}
use Rattle.verify_order.proofs.dependencies.list_at.Goals as goal

pub returns-then-number-starts : goal.returns-then-number-starts
returns-then-number-starts c = read_last c.args.starts.now c.args.all.now c.args.number c.requires.inside (omega arith)

pub offset_bounds-all-start-2 : goal.offset_bounds-all-start-2
offset_bounds-all-start-2 c = let r = read_places c.args.starts.now c.args.all.now c.args.number c.requires.places (omega arith) in omega (arith, r.0, r.1)

pub slice_bounds-result-count-2 : goal.slice_bounds-result-count-2
slice_bounds-result-count-2 c = let r = read_places c.args.starts.now c.args.all.now c.args.number c.requires.places (omega arith) in omega (arith, r.0, r.1)

pub slice_bounds-result-start-2 : goal.slice_bounds-result-start-2
slice_bounds-result-start-2 c = let r = read_places c.args.starts.now c.args.all.now c.args.number c.requires.places (omega arith) in omega (arith, r.0, r.1)

pub slice_bounds-result-end-2 : goal.slice_bounds-result-end-2
slice_bounds-result-end-2 c = let r = read_places c.args.starts.now c.args.all.now c.args.number c.requires.places (omega arith) in omega (arith, r.0, r.1)

pub returns : goal.returns
returns c = read_between c.args.starts.now c.args.all.now c.args.number (omega arith)
