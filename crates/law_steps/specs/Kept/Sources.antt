-- Sources that are removed, put off and attached.
use Rattle.std.specs.Prelude.{◌≡◌, ℕ, Bool, List, Some}
use Rattle.std.specs.List.{filter}
use Rattle.ui_machine.specs.Definition.{Definition}
use Rattle.ui_machine.specs.State.Sources.{Source, without_first, attached}
use Rattle.ui_machine.specs.Rules.MainLoop.{answered}
use Rattle.law_typing.specs.Verdict.Accepted.{Each}
use Rattle.law_typing.specs.Good.Standing.{Standing}
use Rattle.law_typing.specs.Good.Bindings.{SourceGood}
use Rattle.law_steps.specs.Kept.Agenda.{Stays}

-- a source stays good where its data keeps its place
abbrev pub SourceStays : Type 0
SourceStays =
    (d : Definition) (s z : Standing) (source : Source) → ((id : ℕ) → source.arg ≡ Some id → Stays s z id) → SourceGood d s source →
    SourceGood d z source

-- those that are left stay good
abbrev pub SourcesLeft : Type 0
SourcesLeft =
    (d : Definition) (s : Standing) (sources : List Source) (test : Source → Bool) → Each (SourceGood d s) sources →
    Each (SourceGood d s) (filter test sources) × Each (SourceGood d s) (without_first test sources)

-- after its program answered, whatever it answered, they all are
abbrev pub SourcesAnswered : Type 0
SourcesAnswered =
    (d : Definition) (s : Standing) (sources : List Source) (moment number : ℕ) (keep : Bool) → Each (SourceGood d s) sources →
    Each (SourceGood d s) (answered moment number keep sources)

-- and they are good with one more source
abbrev pub SourcesAttached : Type 0
SourcesAttached =
    (d : Definition) (s : Standing) (sources : List Source) (source : Source) → Each (SourceGood d s) sources → SourceGood d s source →
    Each (SourceGood d s) (attached sources source)
