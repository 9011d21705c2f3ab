use Rattle.std.proofs.Common.{sym, subst, ◌+◌, drop, slice_set, Some, List}
use Rattle.law_typing.specs.Graph.Channels.{Channel}
use Rattle.verify_graph.specs.Paired.{ArePaired}
use Rattle.verify_graph.specs.Pairs.{pair_view, pairs_view}
use Rattle.verify_graph.proofs.BoundLists.{from_got}
use Rattle.verify_graph.proofs.PairedLists.{no_first, no_second, one_paired}
use Rattle.verify_graph.proofs.pairs_by_number.PairedNumbers.add.Goals as goal

pub returns-in_default : goal.returns-in_default
returns-in_default c =
    let all = c.args.numbers.now in
    let at = c.args.at in
    let p = pair_view c.pair_at-pair.result in
    let rest = drop (at + 1) (pairs_view c.args.pairs.now) in
    let firsts = c.args.self.now.firsts.items in
    let others = c.args.self.now.others.items in
    subst (λ (ps : List (Channel × Channel)). ArePaired all ps firsts others) (sym (from_got (pairs_view c.args.pairs.now) at p (sym c.pair_at-pair.ensures)))
    (no_first all p rest firsts others c.in_default.ensures.number c.requires.later)

pub returns-in_default-number : goal.returns-in_default-number
returns-in_default-number c =
    let all = c.args.numbers.now in
    let at = c.args.at in
    let p = pair_view c.pair_at-pair.result in
    let rest = drop (at + 1) (pairs_view c.args.pairs.now) in
    let firsts = c.args.self.now.firsts.items in
    let others = c.args.self.now.others.items in
    subst (λ (ps : List (Channel × Channel)). ArePaired all ps firsts others) (sym (from_got (pairs_view c.args.pairs.now) at p (sym c.pair_at-pair.ensures)))
    (no_second all p rest firsts others c.in_default-number.ensures.number c.requires.later)

pub returns : goal.returns
returns c =
    let all = c.args.numbers.now in
    let at = c.args.at in
    let p = pair_view c.pair_at-pair.result in
    let rest = drop (at + 1) (pairs_view c.args.pairs.now) in
    let firsts = c.args.self.now.firsts.items in
    let others = c.args.self.now.others.items in
    let a = c.in-Some.first in
    let b = c.in-Some-number.second in
    subst (λ (ps : List (Channel × Channel)). ArePaired all ps (slice_set firsts b a) (slice_set (slice_set others b (Some a)) a (Some b)))
    (sym (from_got (pairs_view c.args.pairs.now) at p (sym c.pair_at-pair.ensures)))
    (one_paired all c.count-count.ensures.countable.once p rest firsts others a b (sym c.in-Some.ensures.number) (sym c.in-Some-number.ensures.number) c.requires.later)
