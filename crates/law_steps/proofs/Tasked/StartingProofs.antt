-- A due source, and a construction, start a program.
use Rattle.std.proofs.Common.{◌≡◌, refl, sym, ap, subst, ◌∙◌, ℕ, ◌+◌, Bool, true, List, [], ◌∷◌, Option, None, Some, arith}
use Rattle.std.specs.Prelude.{option_map}
use Rattle.ui_machine.specs.Seq.{total}
use Rattle.ui_machine.specs.Definition.{Definition}
use Rattle.ui_machine.specs.Definition.Kinds.{Kind}
use Rattle.ui_machine.specs.Definition.Kinds as kinds
use Rattle.ui_machine.specs.Definition.Values.{Value}
use Rattle.ui_machine.specs.Definition.Values as values
use Rattle.ui_machine.specs.Output.Lines as lines
use Rattle.ui_machine.specs.Rules.MainLoop.{source_data, sourcing}
use Rattle.ui_machine.specs.Rules.Programs.{program_before}
use Rattle.ui_machine.specs.State.Config.{World, said}
use Rattle.ui_machine.specs.State.Sources.{Source, source_of, is_numbered}
use Rattle.ui_machine.specs.State.Tasks.{ConstructStep, runs, Constructing, Due, Answering}
use Rattle.ui_machine.specs.Steps.{uncounted}
use Rattle.law_typing.specs.Rules.Signatures.{data_kinds, result_fits}
use Rattle.law_typing.specs.Good.Standing.{Standing, standing, LivesIf}
use Rattle.law_typing.specs.Good.Bindings.{SourceGood}
use Rattle.law_typing.specs.Good.Builds.{step_cost}
use Rattle.law_typing.specs.Good.Handlers.{data_kind}
use Rattle.law_static.specs.Fits.{AllHold}
use Rattle.law_steps.proofs.Tasked.First.{First, fine_where, StepIsFine, fine_of, costs}
use Rattle.law_steps.proofs.Tasked.Above.{later, begins_above}
use Rattle.law_steps.proofs.Tasked.Begun.{Begun, begun, stands_hold, each_found}
use Rattle.law_steps.specs.Tasked.Starting.{SourcesAreFine, RunsAreFine}

-- ** a due source

data_holds : (d : Definition) (s : Standing) (arg : Option ℕ) → LivesIf s arg → AllHold d s (source_data arg) (data_kinds (data_kind s arg))
data_holds d s None lives = tt
data_holds d s (Some id) lives =
    let kind : data_kind s (Some id) ≡ Some (kinds.at lives.place) = ap (λ o. option_map kinds.at o) lives.is in
    subst (λ k. AllHold d s (source_data (Some id)) (data_kinds k)) (sym kind) (stands_hold d s id lives.place lives.is, tt)

sources_start : (d : Definition) (w : World) (number : ℕ) (s : Source) → source_of number w.sources ≡ Some s →
    sourcing d w number ≡ program_before d w s.program (source_data s.arg) (Answering number ∷ [])
unfolding sourcing
sources_start d w number s is = rw is refl

module _ {d : Definition} (number : ℕ) (t : First d (Due number)) where
  open t use {well, a, w, rest, n, g}

  source : Source
  source = g.agenda.3.2.0

  source_good : SourceGood d (standing w.objects) source
  unfolding source
  source_good = each_found (SourceGood d (standing w.objects)) (is_numbered number) w.sources source g.sources g.agenda.3.2.1

  source_begun : Begun d well a w g.objects source.program (source_data source.arg) (Some kinds.bool)
  source_begun =
      begun d well a w g.objects source.program (source_data source.arg) (data_kinds (data_kind (standing w.objects) source.arg)) (Some kinds.bool) source_good.takes
      (data_holds d (standing w.objects) source.arg source_good.arg)

  source_fine : StepIsFine t
  unfolding source
  source_fine =
      let b = source_begun in
      let program = source.program in
      let args = source_data source.arg in
      fine_where t (record { world = said d w (lines.run b.p.name); agenda = later t program args (Some kinds.bool) b (Answering number); counted = n })
      (ap (uncounted rest n) (sources_start d w number source g.agenda.3.2.1 ∙ b.leads (Answering number ∷ [])))
      (begins_above t program args (Some kinds.bool) b (Answering number)
      (record {
        alike = record { items = λ f. refl; unset = λ number. refl; request_step = refl; makes = refl };
        frozen = λ id. refl;
        no_set = refl;
        no_source = refl;
        build = λ build. build;
        left = g.agenda.2;
        cheap = (let c = g.agenda.3.2.2 in omega (arith, c));
        shallow = (let deep = g.agenda.3.2.3 in let low = g.agenda.4 in omega (arith, deep, low));
        good = (0, 0, g.agenda.2, b.gives, (let low = g.agenda.4 in omega (arith, low)), omega arith, g.agenda.6);
      }))

pub sources_are_fine : SourcesAreFine
sources_are_fine number = fine_of (λ d t. source_fine number t)

-- ** a construction

gives_none : (d : Definition) (result : Option Kind) → result_fits d result None ≡ true → result ≡ None
gives_none d None e = refl
gives_none d (Some kind) e = absurd (cc)

module _ {d : Definition} (id program : ℕ) (todo : List ConstructStep) (held : Bool) (t : First d (Constructing id (runs program ∷ todo) held)) where
  open t use {well, a, w, rest, n, g}

  run_begun : Begun d well a w g.objects program (values.object (Some id) ∷ []) None
  run_begun =
      let c = g.agenda.3.1 in
      begun d well a w g.objects program (values.object (Some id) ∷ []) (kinds.at c.place ∷ []) None c.fits.0 (stands_hold d (standing w.objects) id c.place c.is, tt)

  run_fine : StepIsFine t
  run_fine =
      let b = run_begun in
      let c = g.agenda.3.1 in
      let args = values.object (Some id) ∷ [] in
      let left = total (step_cost d (costs t) c.place) todo in
      fine_where t (record { world = said d w (lines.run b.p.name); agenda = later t program args None b (Constructing id todo held); counted = n })
      (ap (uncounted rest n) (b.leads (Constructing id todo held ∷ [])))
      (begins_above t program args None b (Constructing id todo held)
      (record {
        alike = record { items = λ f. refl; unset = λ number. refl; request_step = refl; makes = refl };
        frozen = λ id. refl;
        no_set = refl;
        no_source = refl;
        build = λ build. build;
        left = left + g.agenda.2;
        cheap = (let cost = c.cheap in omega (arith, cost));
        shallow = (let deep = c.shallow.0 in let low = g.agenda.4 in omega (arith, deep, low));
        good = (
          left,
          g.agenda.1,
          g.agenda.2,
          (
            gives_none d b.p.result b.gives,
            record { place = c.place; is = c.is; for_builder = c.for_builder; for_program = c.for_program; fits = c.fits.1; cheap = omega arith; shallow = c.shallow.1; one = c.one },
            g.agenda.3.2,
          ),
          g.agenda.4,
          omega arith,
          g.agenda.6,
        );
      }))

pub runs_are_fine : RunsAreFine
runs_are_fine id program todo held = fine_of (λ d t. run_fine id program todo held t)
