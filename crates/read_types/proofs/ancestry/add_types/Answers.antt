use Rattle.std.proofs.Common.{nat_eq}
use Rattle.std.specs.BTreeSet.{contains}
use Rattle.std.specs.Ordering.{nat_cmp}
use Rattle.read_types.proofs.HeirTypes.{type_found}
use Rattle.read_types.proofs.SignalNames.{all_seen, none_yet, one_more}
use Rattle.read_types.proofs.ancestry.add_types.Goals as goal

pub loop-t-init : goal.loop-t-init
loop-t-init c t = none_yet (contains nat_cmp c.args.all.now t)

pub loop-t-preserved : goal.loop-t-preserved
loop-t-preserved c t =
    one_more (nat_eq t) c.args.types.now c.loop-t.t-index c.t-item.result (contains nat_cmp c.insert.new.self t) (contains nat_cmp c.loop-t.all t) (contains nat_cmp c.args.all.now t)
    c.loop-t-test.true c.t-item.is
    (type_found c.t-item.result t (contains nat_cmp c.insert.new.self t) (contains nat_cmp c.loop-t.all t) (c.in_ok-insert.ensures.updates.0 t))
    (c.loop-t.invariant t)

pub returns : goal.returns
returns c t = all_seen (nat_eq t) c.args.types.now c.loop-t.t-index (contains nat_cmp c.loop-t.all t) (contains nat_cmp c.args.all.now t) c.loop-t-test.false (c.loop-t.invariant t)
