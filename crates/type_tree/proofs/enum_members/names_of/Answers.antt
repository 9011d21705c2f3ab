use Rattle.std.proofs.Common.{map, string_bytes}
use Rattle.type_tree.proofs.Called.{all_texts, text_more}
use Rattle.type_tree.proofs.enum_members.names_of.Goals as goal

pub loop-member-preserved : goal.loop-member-preserved
loop-member-preserved c =
    text_more (λ m. string_bytes m.name) c.args.members.now c.loop-member.member-index c.loop-member.names.items (map (λ m. string_bytes m.name) c.args.members.now) c.loop-member.invariant
    c.member-item.result c.as_str.result c.push.new.self.items c.loop-member-test.true c.member-item.is c.as_str.ensures.value c.in_ok-push.ensures.items

pub returns : goal.returns
returns c =
    all_texts (λ m. string_bytes m.name) c.args.members.now c.loop-member.member-index c.loop-member.names.items (map (λ m. string_bytes m.name) c.args.members.now) c.loop-member.invariant
    c.loop-member-test.false
