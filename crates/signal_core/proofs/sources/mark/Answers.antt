use Rattle.std.proofs.Common.{◌≡◌, ◌∙◌, ◌||◌, ◌<◌, ℕ, Bool, List, true, false, length, get_or, nat_eq, ◌≤◌, slice_set, get_or-set_other, get_or-set_same, length-set, inl, inr, refl, sym, ap, arith}
use Rattle.std.proofs.lemmas.Bool.{cases_eq}
use Rattle.std.proofs.lemmas.Bool.Decides.{nat_tests}
use Rattle.signal_core.proofs.Walks.{marked_more}
use Rattle.signal_core.proofs.sources.mark.Goals as goal

or_true : (a : Bool) → true ≡ (a || true)
or_true true = refl
or_true false = refl

or_false : (a : Bool) → a ≡ (a || false)
or_false true = refl
or_false false = refl

-- one mark is set
set_mark : (marks : List Bool) (i s u : ℕ) → i ≡ s → i < length marks → get_or (slice_set marks i true) u false ≡ (get_or marks u false || nat_eq u s)
set_mark marks i s u is lt =
    elim (cases_eq u i) [
      | inl same ↦
          let here : nat_eq u s ≡ true = grind (arith, nat_tests) in
          ap (λ k. get_or (slice_set marks i true) k false) same ∙ get_or-set_same marks i true false lt ∙ or_true (get_or marks u false) ∙ ap (λ b. get_or marks u false || b) (sym here)
      | inr ne ↦
          let other : nat_eq u s ≡ false = grind (arith, nat_tests) in
          get_or-set_other marks i u true false ne ∙ or_false (get_or marks u false) ∙ ap (λ b. get_or marks u false || b) (sym other)
    ]

-- a mark that has no place
no_mark : (marks : List Bool) (i s u : ℕ) → i ≡ s → length marks ≤ i → u < length marks → get_or marks u false ≡ (get_or marks u false || nat_eq u s)
no_mark marks i s u is past small =
    let other : nat_eq u s ≡ false = grind (arith, nat_tests) in
    or_false (get_or marks u false) ∙ ap (λ b. get_or marks u false || b) (sym other)

pub returns-then-index-marks : goal.returns-then-index-marks
returns-then-index-marks c =
    marked_more c.args.tree.now c.args.t c.args.place c.args.marks.now _ c.requires.place c.requires.marks (length-set c.args.marks.now c.index-then-index-marks.result true)
    (λ u small. set_mark c.args.marks.now c.index-then-index-marks.result _ u (c.index-then-index-marks.ensures ∙ c.source_at-source.ensures) (omega (arith, c.if-index-marks.true, c.index-then-index-marks.ensures, c.index.ensures)))

pub returns-else-index-marks : goal.returns-else-index-marks
returns-else-index-marks c =
    marked_more c.args.tree.now c.args.t c.args.place c.args.marks.now c.args.marks.now c.requires.place c.requires.marks refl
    (λ u small. no_mark c.args.marks.now c.index.result _ u (c.index.ensures ∙ c.source_at-source.ensures) c.if-index-marks.false small)
