use Rattle.std.proofs.Common.{◌≡◌, inl, inr, ◌∙◌, ap, ◌+◌, ◌*◌, ◌-◌, length, arith}
use Rattle.verify_sketches.specs.Numbered.{program}
use Rattle.verify_numbers.specs.Counts.{Counts}
use Rattle.verify_numbers.proofs.CycleParts.{sorted_at}
use Rattle.verify_numbers.proofs.cycle_links.part_of.Goals as goal
use Rattle.verify_numbers.proofs.cycle_links.part_of.Goals.{else-node-begin-via-then-node-begin+else-node-begin-2, else-node-begin-via-else-node-begin}

pub returns-then-node-channel_count-clause-described : goal.returns-then-node-channel_count-clause-described
returns-then-node-channel_count-clause-described c = λ s handlers counted.
    let n = ap (λ (x : Counts). x.channels) counted in
    (sorted_at s handlers c.args.node).channel (omega (arith, n, c.channel_count.ensures, c.if-node-channel_count.true))

pub returns-then-node-begin-2-clause-described : goal.returns-then-node-begin-2-clause-described
returns-then-node-begin-2-clause-described c = λ s handlers counted.
    let n = ap (λ (x : Counts). x.channels) counted in
    let m = ap (λ (x : Counts). x.groups) counted in
    let p = ap (λ (x : Counts). x.programs) counted in
    let begin : 4 * length s.channels + length s.groups ≡ 4 * c.channel_count-2.result + c.group_count.result = omega (arith, n, m, c.channel_count-2.ensures, c.group_count.ensures) in
    (sorted_at s handlers c.args.node).program (omega (arith, begin, c.if-node-begin.true))
    (omega (arith, begin, p, c.program_count.ensures, c.if-node-begin.true, c.if-node-begin-2.true))
    ∙ ap (λ k. program (c.args.node - k)) begin

pub returns-clause-described : goal.returns-clause-described
returns-clause-described c = λ s handlers counted.
    let n = ap (λ (x : Counts). x.channels) counted in
    let m = ap (λ (x : Counts). x.groups) counted in
    let p = ap (λ (x : Counts). x.programs) counted in
    (sorted_at s handlers c.args.node).other (omega (arith, n, c.channel_count.ensures, c.if-node-channel_count.false))
    (elim c.else-node-begin.branch [
      | else-node-begin-via-then-node-begin+else-node-begin-2 w ↦
          inr (omega (arith, n, m, p, c.channel_count-2.ensures, c.group_count.ensures, w.program_count.ensures, w.if-node-begin.true, w.if-node-begin-2.false))
      | else-node-begin-via-else-node-begin w ↦ inl (omega (arith, n, m, c.channel_count-2.ensures, c.group_count.ensures, w.if-node-begin.false))
    ])
