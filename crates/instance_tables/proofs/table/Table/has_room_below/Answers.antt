use Rattle.std.proofs.Common.{sym, ap, ◌∙◌, ◌-◌, nat_lt, arith}
use Rattle.instance_tables.specs.Store.{Store}
use Rattle.instance_tables.proofs.Maps.{full, below_limit}
use Rattle.instance_tables.proofs.table.Table.has_room_below.Goals as goal

pub returns-then-len-limit : goal.returns-then-len-limit
returns-then-len-limit c =
    let most = c.args.most in
    sym (full c.self.inside.instances c.self.inside.made most c.self.inside.floating.items (record c.args.self.now { limit = most }) c.self.invariant.0
    (ap (λ (t : Store). record t { limit = most }) c.self.view_is) c.len.ensures.ordered
    c.args.to_come
    (omega (arith, c.len.ensures.len, c.if-len-limit.true, c.in-Some.ensures)))

pub returns : goal.returns
returns c =
    let most = c.args.most in
    ap (λ n. nat_lt n (18446744073709551615 - c.self.inside.made)) c.from.ensures
    ∙ below_limit c.self.inside.instances c.self.inside.made most c.self.inside.floating.items (record c.args.self.now { limit = most }) c.self.invariant.0
    (ap (λ (t : Store). record t { limit = most }) c.self.view_is) c.len.ensures.ordered
    c.args.to_come
    (18446744073709551615 - c.self.inside.made)
    (omega (arith, c.len.ensures.len, c.if-len-limit.false, c.in-Some.ensures)) (omega arith)
