use Rattle.std.proofs.Common.{◌∙◌, ◌+◌, ℕ, None, Some, map, ap, sym}
use Rattle.std.proofs.lemmas.List.{length-map}
use Rattle.ui_machine.specs.Definition.Places.{Place}
use Rattle.definition_format.specs.Meaning.{plain_object, plain_prototype}
use Rattle.definition_format.proofs.AllPlaces.{named_before, named_behind}
use Rattle.definitions.proofs.places.place_in.Goals as goal

pub returns-in-Some-clause-place : goal.returns-in-Some-clause-place
returns-in-Some-clause-place c =
    named_before (λ (p : Place). p.id) c.args.id.now c.in-Some.place (map plain_object c.args.objects.now.entries) (map plain_prototype c.args.prototypes.now.entries)
    (sym c.position_of.ensures.place ∙ c.in-Some.is)

pub returns-in_err-number-in-None-clause-place : goal.returns-in_err-number-in-None-clause-place
returns-in_err-number-in-None-clause-place c =
    c.from_residual.ensures
    ∙ named_behind (λ (p : Place). p.id) c.args.id.now _ (map plain_object c.args.objects.now.entries) (map plain_prototype c.args.prototypes.now.entries) None
    (sym (length-map c.args.objects.now.entries plain_object)) (sym c.position_of.ensures.place ∙ c.in-None.is) c.in_err-number-in-None.ensures.place

pub returns-in_ok-number-in-None-clause-place : goal.returns-in_ok-number-in-None-clause-place
returns-in_ok-number-in-None-clause-place c =
    ap (λ (n : ℕ). Some (n + c.in_ok-number-in-None.number)) c.len.ensures.len
    ∙ named_behind (λ (p : Place). p.id) c.args.id.now _ (map plain_object c.args.objects.now.entries) (map plain_prototype c.args.prototypes.now.entries) (Some c.in_ok-number-in-None.number)
    (sym (length-map c.args.objects.now.entries plain_object)) (sym c.position_of.ensures.place ∙ c.in-None.is) c.in_ok-number-in-None.ensures.place
