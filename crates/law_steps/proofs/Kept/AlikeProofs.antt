-- Agendas that are alike in what handlers, bindings, pairs and the build read of them.
use Rattle.std.proofs.Common.{◌∙◌, ℕ, List, [], ◌∷◌, arith}
use Rattle.ui_machine.specs.Definition.{Definition}
use Rattle.ui_machine.specs.State.Bindings.{Binding}
use Rattle.ui_machine.specs.State.Handlers.{Handler}
use Rattle.ui_machine.specs.State.Tasks.{Task, Setting, Notifying, Beginning, Emitting, Transferring, Unsetting, Thawing, Running, Answering, Calling, Constructing, Building, Handling, Due}
use Rattle.law_typing.specs.Graph.Tables.{Tables}
use Rattle.law_typing.specs.Good.Standing.{Standing, standing}
use Rattle.law_typing.specs.Good.Handlers.{HandlersGood}
use Rattle.law_typing.specs.Good.Bindings.{BindingsGood}
use Rattle.law_typing.specs.Good.Freezes.{ObjectsFirst}
use Rattle.law_steps.specs.Kept.Alike.{Alike, WholeStays, BuildStays}
use Rattle.law_steps.proofs.Kept.Moved.{handlers_moved, bindings_moved}

module _ (d : Definition) (costs depths : Tables) (a b : List Task) (alike : Alike a b) where
  pub handlers_stay : (s : Standing) (last : ℕ) (hs : List Handler) → HandlersGood d costs depths s a last hs → HandlersGood d costs depths s b last hs
  handlers_stay = handlers_moved d costs depths a b alike.items

  pub bindings_stay : (s : Standing) (bs : List Binding) → BindingsGood d s a bs → BindingsGood d s b bs
  bindings_stay = bindings_moved d costs depths a b alike.items alike.unset

  pub objects_first_stay : (bs : List Binding) → ObjectsFirst a bs → ObjectsFirst b bs
  objects_first_stay bs g = record {
    before = λ some. (let same = alike.makes in let old = g.before (omega (arith, same, some)) in (old.0, alike.request_step ∙ old.1));
    one = (let same = alike.makes in let old = g.one in omega (arith, same, old));
  }

pub whole_stays : WholeStays
whole_stays d costs depths a b w alike g = record {
  objects = g.objects;
  handlers = handlers_stay d costs depths a b alike (standing w.objects) w.last_handler w.handlers g.handlers;
  bindings = bindings_stay d costs depths a b alike (standing w.objects) w.bindings g.bindings;
  sources = g.sources;
  held = g.held;
  floating = g.floating;
  objects_first = objects_first_stay d costs depths a b alike w.bindings g.objects_first;
}

pub build_stays : BuildStays
build_stays d builder a b [] e g = (g.0, e ∙ g.1)
build_stays d builder a b (Building items ∷ tasks) e g = (g.0, g.1, omega (arith, e, g), g.3)
build_stays d builder a b (Setting id slot v ∷ tasks) e g = build_stays d builder a b tasks e g
build_stays d builder a b (Notifying id slot ∷ tasks) e g = build_stays d builder a b tasks e g
build_stays d builder a b (Beginning emission ∷ tasks) e g = build_stays d builder a b tasks e g
build_stays d builder a b (Emitting emission turns ∷ tasks) e g = build_stays d builder a b tasks e g
build_stays d builder a b (Transferring number back ∷ tasks) e g = build_stays d builder a b tasks e g
build_stays d builder a b (Unsetting number ∷ tasks) e g = build_stays d builder a b tasks e g
build_stays d builder a b (Thawing id slots ∷ tasks) e g = build_stays d builder a b tasks e g
build_stays d builder a b (Running frame ∷ tasks) e g = build_stays d builder a b tasks e g
build_stays d builder a b (Answering source ∷ tasks) e g = build_stays d builder a b tasks e g
build_stays d builder a b (Calling call ∷ tasks) e g = build_stays d builder a b tasks e g
build_stays d builder a b (Constructing id todo held ∷ tasks) e g = build_stays d builder a b tasks e g
build_stays d builder a b (Handling request ∷ tasks) e g = build_stays d builder a b tasks e g
build_stays d builder a b (Due source ∷ tasks) e g = build_stays d builder a b tasks e g
