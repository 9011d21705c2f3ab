use Rattle.std.proofs.Common.{None, Some, ◌≡◌, ◌<◌, if◌then◌else◌, length, nat_eq, slice_set, subst, arith}
use Rattle.ui_machine.specs.Seq.{read}
use Rattle.read_types.proofs.NamedByType.{value_set, set_after}
use Rattle.read_types.proofs.by_type.set_named.Goals as goal

pub returns : goal.returns
returns g c u =
    let mid = c.grow.new.named.items in
    let within : c.index-at.result < length mid = omega (arith, c.in_ok-grow.ensures.ok, c.grow.new.named.ok.0) in
    let set = value_set mid c.index-at.result c.args.value within u in
    set_after c.args.named.now.items mid (slice_set mid c.index-at.result (Some c.args.value)) c.args.t c.args.value u (c.grow.ensures.same u)
    (subst (λ t. read None (slice_set mid c.index-at.result (Some c.args.value)) u ≡ (if nat_eq u t then Some c.args.value else read None mid u)) c.index-at.ensures set)
