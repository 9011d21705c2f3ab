-- How many bytes a dispatch says at most: where the parts of its lines are short, its bound by the list of lines, each of the greatest length and
-- with its LF.
use Rattle.std.specs.Prelude.{◌≡◌, ℕ, suc, ◌+◌, ◌*◌, ◌≤◌, List, Some}
use Rattle.ui_machine.specs.Definition.{Definition}
use Rattle.ui_machine.specs.Output.Lines as said_lines
use Rattle.ui_machine.specs.State.Config.{said}
use Rattle.law_steps.specs.Served.Dispatches.{Throughout}
use Rattle.law_short_texts.specs.ShortValues.{HasShortTexts}
use Rattle.law_prices.specs.Asked.{Asked}
use Rattle.law_prices.specs.Bounds.{most_price}
use Rattle.law_prices.specs.Dispatches.{OfDispatches}
use Rattle.law_prices.specs.Lists.{lines}
use Rattle.law_line_lengths.specs.LineLengths.{bytes_of, line_length}
use Rattle.law_line_lengths.specs.StepLines.{Grows, HasShortParts}

-- there is a bound by the list of lines, and a transcript grows by no more bytes than so many lines may have
pub record BytesWithin (d : Definition) (e : Asked) (before after : List (List ℕ)) : Type 0 where
  pub most : ℕ
  pub is : most_price d (lines d) e ≡ Some most
  pub within : bytes_of after ≤ bytes_of before + most * suc (line_length d)

-- where its configurations have short parts throughout, a dispatch says lines of short parts only
abbrev pub DispatchesSayShortLines : Type 0
DispatchesSayShortLines =
    OfDispatches
    (λ d e n replies c at s. HasShortTexts d → Throughout d c (HasShortParts d) → Grows d c.world.transcript at.world.transcript)

-- so the transcript grows by no more bytes than that bound allows, the line of the end among them
abbrev pub DispatchBytesAreWithin : Type 0
DispatchBytesAreWithin =
    OfDispatches
    (λ d e n replies c at s. HasShortTexts d → Throughout d c (HasShortParts d) →
    BytesWithin d e c.world.transcript (said d at.world (said_lines.end at.counted)).transcript)
