-- Sources that are removed, put off and attached.
use Rattle.std.proofs.Common.{◌≡◌, sym, subst, ℕ, Bool, true, false, cond, List, [], ◌∷◌, Some}
use Rattle.ui_machine.specs.Definition.Kinds as kinds
use Rattle.ui_machine.specs.Definition.{Definition}
use Rattle.ui_machine.specs.Definition.Lookups.{program_at}
use Rattle.ui_machine.specs.State.Sources.{Source, is_numbered, due_after, without_first}
use Rattle.ui_machine.specs.Rules.MainLoop.{rescheduled}
use Rattle.law_typing.specs.Rules.Signatures.{is_taken_by, data_kinds}
use Rattle.law_typing.specs.Verdict.Accepted.{Each}
use Rattle.law_typing.specs.Good.Standing.{Standing}
use Rattle.law_typing.specs.Good.Bindings.{SourceGood}
use Rattle.law_steps.specs.Kept.Sources.{SourceStays, SourcesLeft, SourcesAnswered, SourcesAttached}
use Rattle.law_steps.proofs.Kept.Left.{each_left}
use Rattle.law_steps.proofs.Kept.HandlersProofs.{data_kept}

pub source_stays : SourceStays
source_stays d s z source stays g =
    let held = data_kept d s z source.arg stays g.arg in
    record {
      arg = held.0;
      takes = subst (λ k. is_taken_by d (program_at d source.program) (data_kinds k) (Some kinds.bool) ≡ true) (sym held.1) g.takes;
      told = g.told;
    }

first_left : {A : Type 0} (P : A → Type 0) (test : A → Bool) (xs : List A) → Each P xs → Each P (without_first test xs)
first_left P test [] all = tt
first_left P test (x ∷ xs) all = go (test x) (first_left P test xs all.1)
  where
    go : (b : Bool) → Each P (without_first test xs) → Each P (cond b xs (x ∷ without_first test xs))
    go true rest = all.1
    go false rest = (all.0, rest)

pub sources_left : SourcesLeft
sources_left d s sources test all =
    (each_left (SourceGood d s) (SourceGood d s) test sources (λ x passes good. good) all, first_left (SourceGood d s) test sources all)

put_off : (d : Definition) (s : Standing) (moment number : ℕ) (sources : List Source) → Each (SourceGood d s) sources → Each (SourceGood d s) (rescheduled moment number sources)
put_off d s moment number [] all = tt
put_off d s moment number (x ∷ sources) all = (go (is_numbered number x), put_off d s moment number sources all.1)
  where
    go : (b : Bool) → SourceGood d s (cond b (record x { due = due_after moment x.interval }) x)
    go true = (let g = all.0 in record { arg = g.arg; takes = g.takes; told = g.told })
    go false = all.0

pub sources_answered : SourcesAnswered
sources_answered d s sources moment number false all = first_left (SourceGood d s) (is_numbered number) sources all
sources_answered d s sources moment number true all = put_off d s moment number sources all

pub sources_attached : SourcesAttached
sources_attached d s [] source all good = (good, tt)
sources_attached d s (x ∷ sources) source all good = (all.0, sources_attached d s sources source all.1 good)
