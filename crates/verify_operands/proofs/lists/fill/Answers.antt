use Rattle.std.proofs.Common.{◌≡◌, ◌++◌, ◌∙◌, ◌-◌, ◌+◌, ◌<◌, ap, suc, length, replicate, arith}
use Rattle.std.proofs.lemmas.List.{length_push}
use Rattle.verify_operands.proofs.Filled.{filled_more}
use Rattle.verify_operands.proofs.lists.fill.Goals as goal

pub items-preserved : goal.items-preserved
items-preserved g c =
    let old = c.args.items.now.items in
    let now = c.items.items.items in
    let one_more : length c.push.new.self.items ≡ length now + 1 = ap length c.in_ok-push.ensures.items ∙ length_push now c.args.item in
    let below : length now < c.args.count = omega (arith, c.items-test.true, c.len.ensures, c.items.items.ok.0) in
    record {
      filled =
          c.in_ok-push.ensures.items
          ∙ (filled_more old now (length now - length old) c.args.item c.items.invariant.filled
          ∙ (let e : suc (length now - length old) ≡ length c.push.new.self.items - length old = omega (arith, one_more, c.items.invariant.longer) in
          ap (λ n. old ++ replicate n c.args.item) e));
      longer = omega (arith, one_more, c.items.invariant.longer);
      most = omega (arith, one_more, below, c.items.invariant.longer);
    }
