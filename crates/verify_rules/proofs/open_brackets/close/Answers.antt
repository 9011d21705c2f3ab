use Rattle.std.proofs.Common.{ap, ◌∙◌}
use Rattle.ui_machine.specs.Seq.{read}
use Rattle.verify_rules.proofs.OpenBrackets.{closes}
use Rattle.verify_rules.proofs.open_brackets.close.Goals as goal

pub returns : goal.returns
returns c =
    closes c.args.counts.now.items c.write.new.items.items c.args.register.0 c.count_of-count.result
    (c.count_of-count.ensures ∙ ap (λ ns. read 0 ns c.args.register.0) c.as_slice.ensures.value) c.in_ok-write.ensures
