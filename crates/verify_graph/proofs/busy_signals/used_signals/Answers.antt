use Rattle.std.proofs.Common.{◌∙◌, sym, ap, length, length-append, ◌∷◌, [], arith}
use Rattle.verify_graph.proofs.BusySignals.{one_type_more}
use Rattle.verify_graph.proofs.busy_signals.used_signals.Goals as goal

pub loop-number-preserved : goal.loop-number-preserved
loop-number-preserved c =
    let lists = c.loop-number.lists.items in
    let v = c.in_ok-marks.marks in
    record {
      count =
          (let e = ap length c.in_ok-push.ensures.items in let l = length-append lists (v ∷ []) in
          omega (arith, e, l, c.loop-number.invariant.count));
      used =
          one_type_more c.args.lookups.now lists c.push.new.self.items c.new.result v c.loop-number.invariant.used c.in_ok-marks.ensures (c.loop-number.invariant.count ∙ sym c.new.ensures)
          c.in_ok-push.ensures.items;
    }
