-- Each definition that bytes denote has short texts, and so each run of one over lines has.
use Rattle.std.proofs.Common.{ℕ, List, ◌++◌, length, reverse, Result, Ok, Err, subst}
use Rattle.std.specs.Prelude.{IfOk}
use Rattle.ui_machine.specs.Definition.{Class, Definition}
use Rattle.ui_machine.specs.Rules.Ancestry.{lineage}
use Rattle.ui_machine.specs.State.Tasks.{Event}
use Rattle.definition_format.specs.Denoted.{definition_with}
use Rattle.definition_format.specs.Denoted.Properties.{specs_by}
use Rattle.definition_format.specs.Denoted.Shapes.{is_shaped_by}
use Rattle.definition_format.specs.EventMeaning.{EventRefusal, event_denoted}
use Rattle.definition_format.specs.Meaning.{type_with}
use Rattle.definition_format.specs.Denoted.Signals.{signals_by}
use Rattle.law_typing.specs.Verdict.Accepted.{Each}
use Rattle.law_typing.proofs.Lists.{each_append, each_flat}
use Rattle.law_reading.specs.ReadRuns.{event_if, events_in}
use Rattle.law_reading.proofs.Held.{on_held}
use Rattle.law_reading.proofs.Parts.{IsRead, parts}
use Rattle.law_short_texts.specs.ShortValues.{HasShortTexts, IsShortEvent}
use Rattle.law_short_texts.proofs.RunProofs.{dispatches_are_short, runs_are_short}
use Rattle.law_short_readings.specs.ShortReadings.{HeldIsShort, ReadTextsAreShort, ReadingIsShort}
use Rattle.law_short_readings.proofs.EventProofs.{event_short}
use Rattle.law_short_readings.proofs.ListProofs.{each_listed}
use Rattle.law_short_readings.proofs.PlaceProofs.{IsShortBuilt, IsShortPlace, objects_short, prototypes_short}
use Rattle.law_short_readings.proofs.ProgramProofs.{HasShortConstants, programs_short}
use Rattle.law_short_readings.proofs.PropertyProofs.{HasShortDefault, IsShortClassDraft, draft_short}

-- ** a definition

read_short : (d : Definition) → IsRead d → HasShortTexts d
read_short d r =
    let specs = specs_by r.draft.types r.draft.own in
    let has_shape = is_shaped_by r.draft.types r.draft.answers.shaped in
    let drafted : IsShortClassDraft r.draft = subst (λ x. IfOk x IsShortClassDraft) r.drafted (draft_short r.value) in
    let programs : Each HasShortConstants r.programs =
    subst (λ x. IfOk x (Each HasShortConstants)) r.programmed (programs_short r.format r.draft.types r.value) in
    let prototypes : Each IsShortPlace r.prototypes =
    subst (λ x. IfOk x (Each IsShortPlace)) r.made (prototypes_short r.draft.types specs has_shape r.value) in
    let objects : IsShortBuilt r.objects =
    subst (λ x. IfOk x IsShortBuilt) r.placed (objects_short r.draft.types specs has_shape r.programs r.prototypes r.limits.objects r.value) in
    let short : HasShortTexts (definition_with r.draft r.programs (r.objects.places ++ r.prototypes) r.objects.bindings r.limits) =
    record {
      defaults = each_listed (λ (c : Class). Each HasShortDefault c.specs)
          (λ t. type_with (specs t) (signals_by r.draft.types r.draft.signals t) (r.draft.answers.handlers t) (r.draft.answers.constructed t) (r.draft.answers.shaped t))
          (length r.draft.types) (λ t. each_flat HasShortDefault r.draft.own (reverse (lineage r.draft.types t)) (λ u h. drafted u));
      given = each_append IsShortPlace r.objects.places r.prototypes objects prototypes;
      constants = programs;
    } in
    subst HasShortTexts r.is short

pub reading_is_short : ReadingIsShort
reading_is_short bytes d h = read_short d (parts bytes d h)

pub held_is_short : HeldIsShort
held_is_short = on_held HasShortTexts reading_is_short

-- ** runs

-- the events that lines denote
events_short : (d : Definition) (lines : List (List ℕ)) → Each IsShortEvent (events_in d lines)
events_short d lines = each_flat IsShortEvent (λ line. event_if (event_denoted d line)) lines λ line h. by (event_denoted d line) (event_short d line)
  where
    by : (r : Result Event EventRefusal) → IfOk r IsShortEvent → Each IsShortEvent (event_if r)
    by (Ok event) short = (short, tt)
    by (Err refusal) short = tt

pub read_texts_are_short : ReadTextsAreShort
read_texts_are_short bytes d h peers lines =
    let texts = reading_is_short bytes d h in
    record {
      dispatches = λ x. dispatches_are_short d texts peers (events_in d lines) (events_short d lines) x;
      runs = λ replies fit tally last run. runs_are_short d texts peers (events_in d lines) (events_short d lines) replies fit tally last run;
    }
