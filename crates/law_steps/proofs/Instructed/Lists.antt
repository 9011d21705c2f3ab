-- A world with other handlers, bindings, sources and floating objects, and the same objects.
use Rattle.std.proofs.Common.{◌≡◌, inl, refl, ℕ, ◌≤◌, false, List, [], ◌∷◌, Some, arith}
use Rattle.ui_machine.specs.Definition.{Definition}
use Rattle.ui_machine.specs.Definition.Programs.{Instruction}
use Rattle.ui_machine.specs.State.Handlers.{Handler, handler_of}
use Rattle.ui_machine.specs.State.Bindings.{Binding, binding_of}
use Rattle.ui_machine.specs.State.Sources.{Source}
use Rattle.ui_machine.specs.State.Tasks.{Running}
use Rattle.ui_machine.specs.State.Config.{World}
use Rattle.law_typing.specs.Verdict.Accepted.{Each}
use Rattle.law_typing.specs.Good.Standing.{standing, view, Lives}
use Rattle.law_typing.specs.Good.Handlers.{HandlersGood}
use Rattle.law_typing.specs.Good.Bindings.{BindingsGood, SourceGood}
use Rattle.law_steps.specs.Kept.Agenda.{Serves}
use Rattle.law_steps.proofs.Kept.Lists.{objects_stay}
use Rattle.law_steps.proofs.Instructed.Frozen.{is_bracket}
use Rattle.law_steps.proofs.Instructed.Around.{Due}
use Rattle.law_steps.proofs.Instructed.Written.{Moved}

-- what a world has beside its objects, peers and the builder's
pub record Lists : Type 0 where
  pub handlers : List Handler
  pub last_handler : ℕ
  pub bindings : List Binding
  pub sources : List Source
  pub last_source : ℕ
  pub floating : List ℕ
  pub transcript : List (List ℕ)

abbrev pub lists_of : World → Lists
lists_of w = record {
  handlers = w.handlers;
  last_handler = w.last_handler;
  bindings = w.bindings;
  sources = w.sources;
  last_source = w.last_source;
  floating = w.floating;
  transcript = w.transcript;
}

-- the world with these
abbrev pub with_lists : World → Lists → World
with_lists w l = record w {
  handlers = l.handlers;
  last_handler = l.last_handler;
  bindings = l.bindings;
  sources = l.sources;
  last_source = l.last_source;
  floating = l.floating;
  transcript = l.transcript;
}

module _ {d : Definition} {i : Instruction} (t : Due d i) (plain : is_bracket i ≡ false) where
  open t use {a, w, f, rest, g}

  -- what is to be shown of them
  pub record ListsGood (l : Lists) : Type 0 where
    pub handlers : HandlersGood d a.weighed.costs a.weighed.depths (standing w.objects) (Running f ∷ rest) l.last_handler l.handlers
    pub bindings : BindingsGood d (standing w.objects) (Running f ∷ rest) l.bindings
    pub sources : Each (SourceGood d (standing w.objects)) l.sources
    pub floating : Each (Lives (standing w.objects)) l.floating
    -- there is no binding where there was none
    pub none : w.bindings ≡ [] → l.bindings ≡ []
    -- a number finds a handler that was there, of the same object, signal and program, and a binding that was there
    pub last : w.last_handler ≤ l.last_handler
    pub handlers_were : (number : ℕ) → number ≤ w.last_handler → (h : Handler) → handler_of number l.handlers ≡ Some h →
        (o : Handler) × (handler_of number w.handlers ≡ Some o) × (h.object ≡ o.object) × (h.signal ≡ o.signal) × (h.program ≡ o.program)
    pub bindings_were : (number : ℕ) (b : Binding) → binding_of number l.bindings ≡ Some b → binding_of number w.bindings ≡ Some b

  served : (l : Lists) → ListsGood l → Serves d rest (view w) (view (with_lists w l))
  served l e = record {
    stands = λ id some place is. is;
    held = λ place id at here is. is;
    builder = refl;
    last = e.last;
    handlers = e.handlers_were;
    bindings = e.bindings_were;
    sources = inl g.sets.alone;
    peers = λ number p is. (p, is, refl);
  }

  pub lists_moved : (l : Lists) → ListsGood l → Moved t plain (with_lists w l)
  lists_moved l e = record {
    whole = record {
      objects = objects_stay d w (with_lists w l) g.objects;
      handlers = e.handlers;
      bindings = e.bindings;
      sources = e.sources;
      held = g.held;
      floating = e.floating;
      objects_first = record { before = λ some. (let b = g.objects_first.before some in (e.none b.0, b.1)); one = g.objects_first.one };
    };
    stands = refl;
    served = served l e;
    pool = g.peers;
    queues = λ id x is. (x, is, refl, refl, refl);
    few = omega arith;
    queued = omega arith;
  }
