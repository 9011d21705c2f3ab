use Rattle.std.proofs.Common.{◌<◌, ◌≤◌, length, map, refl, arith}
use Rattle.std.proofs.lemmas.Bool.{false≢true}
use Rattle.std.proofs.lemmas.List.{length-map}
use Rattle.std.proofs.lemmas.Slice.Zip.{AllZip-long}
use Rattle.g_values.specs.View.{kind_view}
use Rattle.law_typing.specs.Laws.WellRead.{GivenFits}
use Rattle.definition_format.specs.Meaning.{IsKnownKind, given_view}
use Rattle.checked_events.proofs.Zipping.{holds_at, holds_of_none}
use Rattle.checked_events.proofs.givens.are_given_of_kinds.Goals as goal

pub returns-then-givens-kinds : goal.returns-then-givens-kinds
returns-then-givens-kinds c = (
  λ h. absurd (false≢true h),
  λ all.
      let long = AllZip-long (λ given kind. GivenFits c.args.definition.now kind given) (map given_view c.args.givens.now) (map kind_view c.args.kinds.now) all in
      absurd (omega (arith, long, length-map c.args.givens.now given_view, length-map c.args.kinds.now kind_view)),
)

pub is_given_of_kind-requires : goal.is_given_of_kind-requires
is_given_of_kind-requires c =
    let within : c.givens.index < length c.args.kinds.now = omega arith in
    record { known = holds_at (IsKnownKind c.args.definition.now.types) kind_view c.args.kinds.now c.givens.index c.index-kinds-index.result c.requires.known within c.index-kinds-index.is }

pub returns : goal.returns
returns c =
    let past : length c.args.kinds.now ≤ c.givens.index = omega arith in
    (λ h. c.givens.invariant.0 (holds_of_none (λ given kind. GivenFits c.args.definition.now kind given) given_view kind_view c.args.givens.now c.args.kinds.now c.givens.index c.givens-test.false past), λ all. refl)
