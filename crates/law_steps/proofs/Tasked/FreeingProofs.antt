-- A binding is set free: it is as it was, but does not set.
use Rattle.std.proofs.Common.{◌≡◌, refl, sym, ap, subst, ℕ, ◌+◌, false, List, [], ◌∷◌, length, arith}
use Rattle.ui_machine.specs.Seq.{total}
use Rattle.ui_machine.specs.Definition.{Definition}
use Rattle.ui_machine.specs.State.Bindings.{Binding, with_busy}
use Rattle.ui_machine.specs.State.Tasks.{Unsetting}
use Rattle.ui_machine.specs.State.Config.{World}
use Rattle.law_typing.specs.Good.Standing.{view}
use Rattle.law_typing.specs.Good.Objects.{ObjectsGood, PeersGood}
use Rattle.law_typing.specs.Good.ComingDown.{none}
use Rattle.law_typing.specs.Good.Builds.{is_for_builder}
use Rattle.law_typing.specs.Good.Handlers.{ChannelGood, HandlersGood}
use Rattle.law_typing.specs.Good.Freezes.{ObjectsFirst, is_due_source}
use Rattle.law_typing.specs.Graph.{Raised, graph, place_of_channel}
use Rattle.law_typing.specs.Good.Standing.{standing}
use Rattle.law_steps.specs.Kept.Bindings.{OneMore}
use Rattle.law_steps.proofs.Kept.BindingsProofs.{binding_unset}
use Rattle.law_steps.proofs.Kept.AlikeProofs.{build_stays}
use Rattle.law_steps.proofs.Kept.Left.{each_to}
use Rattle.law_steps.proofs.Instructed.Ended.{lowest_falls}
use Rattle.law_steps.proofs.Tasked.First.{First, none_later, good_of, StepIsFine, fine_of, costs, depths, most}
use Rattle.law_steps.proofs.Tasked.Bound.{agenda_bound}
use Rattle.law_steps.specs.Tasked.Freeing.{FreeingsAreFine}

-- ** the step

pub objects_freed : (d : Definition) (w : World) (bs : List Binding) → ObjectsGood d w → ObjectsGood d (record w { bindings = bs })
objects_freed d w bs g id o e = let o = g id o e in record {
  place = o.place;
  is = o.is;
  class = o.class;
  values = o.values;
  children = o.children;
  parent = o.parent;
  queue = o.queue;
  apart = o.apart;
  peer = o.peer;
}

none_freed : (number : ℕ) (bs : List Binding) → bs ≡ [] → with_busy number false bs ≡ []
none_freed number bs e = ap (with_busy number false) e

module _ {d : Definition} (number : ℕ) (t : First d (Unsetting number)) where
  open t use {a, w, rest, n, g}

  one_more : OneMore number rest (Unsetting number ∷ rest)
  one_more = record { unset = λ n. refl; items = omega arith }

  objects_first_left : ObjectsFirst rest (with_busy number false w.bindings)
  objects_first_left = record {
    before = λ some. (let old = g.objects_first.before (omega (arith, some)) in let none = old.1 in (none_freed number w.bindings old.0, omega (arith, none)));
    one = (let old = g.objects_first.one in omega (arith, old));
  }

  channel_left : (id : ℕ) (r : Raised) → ChannelGood d (costs t) (depths t) (Unsetting number ∷ rest) id w.handlers r → ChannelGood d (costs t) (depths t) rest id w.handlers r
  channel_left id r c = record {
    own = (let old = c.own in omega (arith, old));
    connected = c.connected;
    own_shallow = c.own_shallow;
    connected_shallow = c.connected_shallow;
  }

  handlers_left : HandlersGood d (costs t) (depths t) (standing w.objects) rest w.last_handler w.handlers
  handlers_left = record {
    each = g.handlers.each;
    rising = g.handlers.rising;
    numbered = g.handlers.numbered;
    few = g.handlers.few;
    channels = λ id place is.
        each_to (λ (r : Raised). place_of_channel r.channel ≡ place → ChannelGood d (costs t) (depths t) (Unsetting number ∷ rest) id w.handlers r)
        (λ (r : Raised). place_of_channel r.channel ≡ place → ChannelGood d (costs t) (depths t) rest id w.handlers r) (graph d).raised
        (λ r f same. channel_left id r (f same)) (g.handlers.channels id place is);
  }

  fewer : total is_for_builder (Unsetting number ∷ rest) ≡ total is_for_builder rest
  fewer = omega arith

  freeing_fine : StepIsFine t
  freeing_fine =
      let bs = with_busy number false w.bindings in
      good_of t (record w { bindings = bs }) rest
      (record {
        objects = refl;
        whole = record {
          objects = objects_freed d w bs g.objects;
          handlers = handlers_left;
          bindings = binding_unset d (standing w.objects) rest (Unsetting number ∷ rest) w.bindings number one_more g.bindings;
          sources = g.sources;
          held = g.held;
          floating = g.floating;
          objects_first = objects_first_left;
        };
        pool = subst (λ made. PeersGood d w.peers (length w.builder + made)) fewer g.peers;
        to_make = omega arith;
        makes = omega arith;
        build = build_stays d w.builder (Unsetting number ∷ rest) rest rest (sym fewer) g.build;
        frozen = λ id. omega arith;
        lowest = λ id some. lowest_falls d id (Unsetting number) rest;
        no_set = g.sets.first;
        no_source = none_later is_due_source rest g.sets.alone;
        budget = g.agenda.2;
        less = omega arith;
        good = agenda_bound d (costs t) (depths t) (view w) number false (most t) none rest g.agenda.2 g.agenda.6;
      })

pub freeings_are_fine : FreeingsAreFine
freeings_are_fine number = fine_of (λ d t. freeing_fine number t)
