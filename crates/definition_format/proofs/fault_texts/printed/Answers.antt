use Rattle.std.proofs.Common.{string_bytes, ap, ◌∙◌}
use Rattle.std.proofs.lemmas.List.{take_all}
use Rattle.definition_format.specs.FaultText.{printed}
use Rattle.definition_format.proofs.Printing.{printed_more}
use Rattle.definition_format.proofs.fault_texts.printed.Goals as goal

pub loop-byte-preserved : goal.loop-byte-preserved
loop-byte-preserved c =
    c.in_ok-push_printed.ensures
    ∙ printed_more c.as_bytes-byte-items.result.now c.loop-byte.byte-index (string_bytes c.loop-byte.out) c.loop-byte-test.true c.loop-byte.invariant

pub returns : goal.returns
returns c =
    c.loop-byte.invariant
    ∙ ap printed (take_all c.loop-byte.byte-index c.as_bytes-byte-items.result.now c.loop-byte-test.false ∙ c.as_bytes-byte-items.ensures.value)
