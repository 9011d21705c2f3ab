use Rattle.std.proofs.Common.{◌∙◌, sym, ap, ℕ, ◌++◌, ◌∷◌, [], Option, take, arith}
use Rattle.std.specs.List.{filter_map}
use Rattle.std.proofs.lemmas.List.Elements.{filter_map-append}
use Rattle.verify_graph.proofs.Prefixes.{take_all, take_last}
use Rattle.verify_channels.proofs.transfers.known.Goals as goal

pub loop-number-preserved : goal.loop-number-preserved
loop-number-preserved c =
    let there : Option ℕ → Option ℕ = λ o. o in
    let xs = c.args.targets.now in
    let n = c.loop-number.number in
    let x = c.target_at.result in
    c.in_ok-add_known.ensures
    ∙ (ap (λ ps. ps ++ filter_map there (x ∷ [])) c.loop-number.invariant
    ∙ (sym (filter_map-append there (take n xs) (x ∷ [])) ∙ ap (filter_map there) (sym (take_last xs n x c.target_at.ensures))))

pub returns : goal.returns
returns c =
    let there : Option ℕ → Option ℕ = λ o. o in
    c.loop-number.invariant ∙ ap (filter_map there) (take_all c.args.targets.now c.loop-number.number (omega arith))
