use Rattle.std.proofs.Common.{◌∙◌, ◌<◌, ◌∷◌, [], ◌++◌, length, ap, arith}
use Rattle.signal_core.proofs.Lists.{AddsItem-after, AddsItem-set, SameItems-after, SameItems-set, on_err_if}
use Rattle.signal_core.proofs.growing.add.Goals as goal

pub returns-in_err-push-clause-err : goal.returns-in_err-push-clause-err
returns-in_err-push-clause-err g c =
    let within : c.args.at < length c.grow.new.lists.items = omega (arith, c.in_ok-grow.ensures.ok, c.grow.new.lists.ok.0) in
    on_err_if c.from_residual-in_err-push.result
    (SameItems-after (λ v. v.items) c.args.lists.now.items c.grow.new.lists.items _ c.grow.ensures.same
    (SameItems-set (λ v. v.items) c.grow.new.lists.items c.args.at c.push.new.self c.index_mut.result.now within
    (c.in_err-push.ensures.items ∙ ap (λ v. v.items) c.index_mut.ensures.value)))

pub returns-clause-ok : goal.returns-clause-ok
returns-clause-ok g c =
    let within : c.args.at < length c.grow.new.lists.items = omega (arith, c.in_ok-grow.ensures.ok, c.grow.new.lists.ok.0) in
    AddsItem-after (λ v. v.items) c.args.lists.now.items c.grow.new.lists.items _ c.args.at c.args.item c.grow.ensures.same
    (AddsItem-set (λ v. v.items) c.grow.new.lists.items c.args.at c.push.new.self c.index_mut.result.now c.args.item within
    (c.in_ok-push.ensures.items ∙ ap (λ v. v.items ++ c.args.item ∷ []) c.index_mut.ensures.value))
