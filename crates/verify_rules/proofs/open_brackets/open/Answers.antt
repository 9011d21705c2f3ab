use Rattle.std.proofs.Common.{ap, ◌∙◌}
use Rattle.ui_machine.specs.Seq.{read}
use Rattle.verify_rules.proofs.OpenBrackets.{opens, opens_none}
use Rattle.verify_rules.proofs.open_brackets.open.Goals as goal

pub returns-then-count-eq0 : goal.returns-then-count-eq0
returns-then-count-eq0 c =
    opens_none c.args.counts.now.items c.args.counts.now.items c.args.register.0 c.count_of-count.result
    (c.count_of-count.ensures ∙ ap (λ ns. read 0 ns c.args.register.0) c.as_slice.ensures.value) c.if-count-eq0.true

pub returns : goal.returns
returns c =
    opens c.args.counts.now.items c.write.new.items.items c.args.register.0 c.count_of-count.result
    (c.count_of-count.ensures ∙ ap (λ ns. read 0 ns c.args.register.0) c.as_slice.ensures.value) c.if-count-eq0.false c.in_ok-write.ensures
