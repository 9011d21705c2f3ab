use Rattle.std.proofs.Common.{◌≡◌, ◌∙◌, sym, ap, subst, ◌+◌, ◌-◌, ◌<◌, ◌^◌, ◌∷◌, length, drop, map, slice_index_or, arith}
use Rattle.std.proofs.lemmas.List.{length-map}
use Rattle.bytecode.specs.View.{instruction_view}
use Rattle.verify_rules.specs.BracketSteps.{Goes, step_of}
use Rattle.verify_operands.proofs.MappedLists.{from_entry}
use Rattle.verify_rules.proofs.BlockBrackets.{IsRead, few, stops, goes_on}
use Rattle.verify_rules.proofs.brackets.is_balanced.Goals as goal

pub go_before-requires : goal.go_before-requires
go_before-requires c =
    let code = c.args.block.now.code.items in
    let short : length (map instruction_view code) < 2 ^ 63 =
    omega (arith, length-map code instruction_view, c.args.block.now.code.small, c.args.block.now.code.ok.0) in
    few c.loop-behind.open.items (length code - c.loop-behind.behind) (map instruction_view code) c.loop-behind.invariant short

pub returns-then-not-kept : goal.returns-then-not-kept
returns-then-not-kept c =
    let code = c.args.block.now.code.items in
    let before = c.go_before.new.counts.items in
    let after = c.loop-behind.open.items in
    let behind = c.loop-behind.behind in
    let n = length code - behind in
    let at = length code - (behind + 1) in
    let i = instruction_view c.index.result.now in
    let counted : c.len-count.result ≡ length code = omega (arith, c.len-count.ensures, c.args.block.now.code.ok.0) in
    let within : at < length code = omega (arith, c.loop-behind-test.true, counted) in
    let here : c.len-count.result - 1 - behind ≡ at = omega (arith, counted) in
    let next : at + 1 ≡ n = omega (arith, c.loop-behind-test.true, counted) in
    let begins : drop at (map instruction_view code) ≡ i ∷ drop n (map instruction_view code) =
    from_entry instruction_view code at c.index.result.now within
    (c.index.ensures ∙ ap (λ m. slice_index_or code m c.index.result.now) here)
    ∙ ap (λ m. i ∷ drop m (map instruction_view code)) next in
    sym (stops before after at (map instruction_view code) (drop n (map instruction_view code)) i begins c.loop-behind.invariant
    (subst (λ b. Goes b before after (step_of i)) c.if-not-kept.true
    (subst (λ s. Goes c.in_ok-kept.kept before after s) c.bracket_step-step.ensures c.in_ok-kept.ensures)))

pub loop-behind-preserved : goal.loop-behind-preserved
loop-behind-preserved c =
    let code = c.args.block.now.code.items in
    let before = c.go_before.new.counts.items in
    let after = c.loop-behind.open.items in
    let behind = c.loop-behind.behind in
    let n = length code - behind in
    let at = length code - (behind + 1) in
    let i = instruction_view c.index.result.now in
    let counted : c.len-count.result ≡ length code = omega (arith, c.len-count.ensures, c.args.block.now.code.ok.0) in
    let within : at < length code = omega (arith, c.loop-behind-test.true, counted) in
    let here : c.len-count.result - 1 - behind ≡ at = omega (arith, counted) in
    let next : at + 1 ≡ n = omega (arith, c.loop-behind-test.true, counted) in
    let begins : drop at (map instruction_view code) ≡ i ∷ drop n (map instruction_view code) =
    from_entry instruction_view code at c.index.result.now within
    (c.index.ensures ∙ ap (λ m. slice_index_or code m c.index.result.now) here)
    ∙ ap (λ m. i ∷ drop m (map instruction_view code)) next in
    subst (λ code. IsRead before code) (sym begins)
    (goes_on before after (drop n (map instruction_view code)) i c.loop-behind.invariant
    (subst (λ b. Goes b before after (step_of i)) c.if-not-kept.false
    (subst (λ s. Goes c.in_ok-kept.kept before after s) c.bracket_step-step.ensures c.in_ok-kept.ensures)))
