use Rattle.std.proofs.Common.{◌∙◌, sym}
use Rattle.definition_format.specs.Meaning.{bind_view}
use Rattle.verify_rules.proofs.PairedEnds.{adds_both}
use Rattle.verify_rules.proofs.pairs.add_ends.Goals as goal

pub returns : goal.returns
returns c =
    adds_both c.args.ends.now c.insert.new.self c.insert-2.new.self (bind_view c.args.binding.now) (sym c.is_pair.ensures ∙ c.if-not-is_pair.false)
    c.in_ok-insert.ensures.updates.0 c.in_ok-insert-2.ensures.updates.0
