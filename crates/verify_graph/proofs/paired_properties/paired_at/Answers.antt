use Rattle.std.proofs.Common.{◌≡◌, ◌∙◌, sym, ap, ◌++◌, arith}
use Rattle.std.specs.List.{flat_map}
use Rattle.ui_machine.specs.Seq.{listed}
use Rattle.law_typing.specs.Graph.Channels.{property}
use Rattle.verify_graph.specs.Numbers.{number_of}
use Rattle.verify_graph.specs.Paired.{if_paired, slots_at}
use Rattle.verify_graph.proofs.Prefixes.{flat_last}
use Rattle.verify_graph.proofs.paired_properties.paired_at.Goals as goal

pub loop-slot-preserved : goal.loop-slot-preserved
loop-slot-preserved c =
    let n = c.loop-slot.slot in
    let others = c.args.others.now in
    let all = c.args.numbers.now in
    let place = c.args.place.0 in
    c.in_ok-add_paired.ensures
    ∙ (ap (λ xs. xs ++ if_paired others (number_of all (property place n))) c.loop-slot.invariant
    ∙ sym (flat_last (λ slot. if_paired others (number_of all (property place slot))) n))

pub returns : goal.returns
returns c =
    let n = c.loop-slot.slot in
    let others = c.args.others.now in
    let all = c.args.numbers.now in
    let place = c.args.place.0 in
    let whole : n ≡ slots_at c.args.lookups.now place = omega arith in
    c.loop-slot.invariant ∙ ap (λ k. flat_map (λ slot. if_paired others (number_of all (property place slot))) (listed (λ slot. slot) k)) whole
