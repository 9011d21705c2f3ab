use Rattle.std.proofs.Common.{◌≡◌, ◌∙◌, suc, ◌-◌, ◌++◌, [], List, ℕ, codes, ap, subst, IfOk, string_bytes, arith}
use Rattle.definition_format.specs.Meaning.{place_number}
use Rattle.law_typing.specs.Verdict.FaultText.{before_in_list, entry_of, path_within}
use Rattle.definitions.specs.EntryView.{entry_view}
use Rattle.verify_rules.proofs.PathSteps.{nowhere, of_next, of_prototype, of_root}
use Rattle.verify_rules.proofs.paths.+path_within.Goals as goal

pub returns-in_default : goal.returns-in_default
returns-in_default t c =
    let d = c.args.definition.now in
    let steps = c.args.steps in
    let e : [] ≡ path_within steps d c.args.place.0 =
    nowhere steps d c.from-number.result c.in_default.ensures ∙ ap (path_within steps d) c.from-number.ensures in
    subst (λ (x : List ℕ). IfOk c.from_str.result (λ text. string_bytes text ≡ x)) e c.from_str.ensures.ok

pub returns-then-entry : goal.returns-then-entry
returns-then-entry t c =
    let d = c.args.definition.now in
    let steps = c.args.steps in
    let p = entry_view c.in-Some.entry in
    let e : entry_of (codes "prototypes") c.before_in_list-before.result ≡ path_within steps d c.args.place.0 =
    ap (entry_of (codes "prototypes")) c.before_in_list-before.ensures
    ∙ (of_prototype steps d c.from-number.result p c.in-Some.ensures c.if-entry.true ∙ ap (path_within steps d) c.from-number.ensures) in
    subst (λ (x : List ℕ). IfOk c.entry_of.result (λ text. string_bytes text ≡ x)) e c.entry_of.ensures

pub returns-in_default-parent : goal.returns-in_default-parent
returns-in_default-parent t c =
    let d = c.args.definition.now in
    let steps = c.args.steps in
    let p = entry_view c.in-Some.entry in
    let e : entry_of (codes "objects") c.before_in_list-before.result ≡ path_within steps d c.args.place.0 =
    ap (entry_of (codes "objects")) c.before_in_list-before.ensures
    ∙ (of_root steps d c.from-number.result p c.in-Some.ensures c.if-entry.false (ap place_number c.in_default-parent.is)
    ∙ ap (path_within steps d) c.from-number.ensures) in
    subst (λ (x : List ℕ). IfOk c.entry_of-in_default-parent.result (λ text. string_bytes text ≡ x)) e c.entry_of-in_default-parent.ensures

pub returns : goal.returns
returns t c =
    let d = c.args.definition.now in
    let steps = c.args.steps in
    let p = entry_view c.in-Some.entry in
    let n = c.from-number.result in
    let up = c.in-Some-parent.parent.0 in
    let last : suc (steps - 1) ≡ steps = omega (arith, c.if-steps-eq0.false) in
    let above : c.as_str.result.now ≡ path_within (steps - 1) d up = c.as_str.ensures.value ∙ c.in_ok-above.ensures in
    let own : c.as_str-2.result.now ≡ entry_of (codes "children") (before_in_list d n p) =
    c.as_str-2.ensures.value ∙ (c.in_ok-own.ensures ∙ ap (entry_of (codes "children")) c.before_in_list-before.ensures) in
    let e : c.as_str.result.now ++ c.as_str-2.result.now ≡ path_within steps d c.args.place.0 =
    ap (λ xs. xs ++ c.as_str-2.result.now) above
    ∙ (ap (λ xs. path_within (steps - 1) d up ++ xs) own
    ∙ (of_next (steps - 1) d n up p c.in-Some.ensures c.if-entry.false (ap place_number c.in-Some-parent.is)
    ∙ (ap (λ s. path_within s d n) last ∙ ap (path_within steps d) c.from-number.ensures))) in
    subst (λ (x : List ℕ). IfOk c.joined.result (λ text. string_bytes text ≡ x)) e c.joined.ensures
