use Rattle.std.proofs.Common.{◌≡◌, ◌∙◌, refl, sym, ap, ◌≤◌, ◌+◌, ◌++◌, ◌∷◌, [], cond, drop, length, append_assoc, append-nil, arith}
use Rattle.std.specs.Prelude.{nat_eq}
use Rattle.std.specs.List.{list_any}
use Rattle.bytecode.specs.View.{program_view}
use Rattle.law_typing.specs.Graph.{sources_of}
use Rattle.law_typing.specs.Rules.Sites.{sites}
use Rattle.ui_verifier.specs.NamedSources.{named_in_programs}
use Rattle.ui_verifier.proofs.Sums.{from_got, none_got}
use Rattle.ui_verifier.proofs.BuiltPlaces.{past}
use Rattle.ui_verifier.proofs.NamedSites.{next_source}
use Rattle.ui_verifier.proofs.sources.source_programs.Goals as goal

pub returns-in_default : goal.returns-in_default
returns-in_default c =
    let d = c.args.lookups.now in
    let n = c.loop-number.number in
    sym (append-nil c.loop-number.programs.items)
    ∙ (ap (λ ps. c.loop-number.programs.items ++ sources_of d (sites d) n ps) (sym (none_got d.programs n (sym c.in_default.ensures))) ∙ c.loop-number.invariant)

pub loop-number-preserved : goal.loop-number-preserved
loop-number-preserved c =
    let d = c.args.lookups.now in
    let n = c.loop-number.number in
    let p = program_view c.in-Some._program.now in
    let old = c.loop-number.programs.items in
    let rest = sources_of d (sites d) (n + 1) (drop (n + 1) d.programs) in
    let named = c.as_slice.ensures.value ∙ c.in_ok-named.ensures in
    let is = c.in_ok-add_if.ensures
    ∙ (ap (λ b. old ++ cond b (n ∷ []) []) c.is_named-is_source.ensures ∙ ap (λ ms. old ++ cond (list_any (λ m. nat_eq m n) ms) (n ∷ []) []) named) in
    ap (λ xs. xs ++ rest) is
    ∙ (append_assoc old (cond (list_any (λ m. nat_eq m n) (named_in_programs d d.programs)) (n ∷ []) []) rest
    ∙ (ap (λ xs. old ++ xs) (sym (next_source d n n p (drop (n + 1) d.programs) refl))
    ∙ (ap (λ ps. old ++ sources_of d (sites d) n ps) (sym (from_got d.programs n p (sym c.in-Some.ensures))) ∙ c.loop-number.invariant)))

pub returns : goal.returns
returns c =
    let d = c.args.lookups.now in
    let n = c.loop-number.number in
    let behind : length d.programs ≤ n = omega (arith, c.most_programs-number-end.ensures, c.loop-number-test.false) in
    sym (append-nil c.loop-number.programs.items)
    ∙ (ap (λ ps. c.loop-number.programs.items ++ sources_of d (sites d) n ps) (sym (past d.programs n behind)) ∙ c.loop-number.invariant)
