use Rattle.std.proofs.Common.{◌∙◌, sym}
use Rattle.type_tree.proofs.Bits.{bits_more, no_more}
use Rattle.type_tree.proofs.flags_members.known_bits.Goals as goal

pub loop-member-preserved : goal.loop-member-preserved
loop-member-preserved c =
    bits_more c.args.members.now c.loop-member.member-index c.loop-member.bits c.member-item.result c.loop-member-test.true c.member-item.is ∙ c.loop-member.invariant

pub returns : goal.returns
returns c = sym (no_more c.args.members.now c.loop-member.member-index c.loop-member.bits c.loop-member-test.false) ∙ c.loop-member.invariant
