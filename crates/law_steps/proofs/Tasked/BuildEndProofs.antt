-- The end of the build.
use Rattle.std.proofs.Common.{◌≡◌, refl, sym, ap, subst, ℕ, ◌+◌, [], ◌∷◌, length, arith}
use Rattle.ui_machine.specs.Seq.{total}
use Rattle.ui_machine.specs.Definition.{Definition}
use Rattle.ui_machine.specs.Rules.Build.{is_making}
use Rattle.ui_machine.specs.State.Bindings.{Binding}
use Rattle.ui_machine.specs.State.Config.{BuilderEntry}
use Rattle.ui_machine.specs.State.Tasks.{Task, Building}
use Rattle.law_typing.specs.Laws.StepsKeepGood.{IsGood}
use Rattle.law_typing.specs.Good.Standing.{standing}
use Rattle.law_typing.specs.Good.Objects.{PeersGood}
use Rattle.law_typing.specs.Good.Bindings.{IsBuilt, BindingsGood, DocumentGood}
use Rattle.law_typing.specs.Good.Builds.{is_for_builder, BuildGood}
use Rattle.law_typing.specs.Good.Freezes.{frozen_by, is_due_source, ObjectsFirst}
use Rattle.law_static.proofs.MakingsProofs.{all_are_made}
use Rattle.law_static.proofs.PlanCostProofs.{total_append}
use Rattle.law_steps.proofs.Kept.AttachProofs.{handlers_wait_less}
use Rattle.law_steps.proofs.Kept.Left.{each_to}
use Rattle.law_steps.specs.Tasked.BuildEnd.{BuildsEnd}
use Rattle.law_steps.proofs.Tasked.First.{First, good_of, fine_where, none_later, StepIsFine, fine_of, costs, depths}

module _ {d : Definition} (t : First d (Building [])) where
  open t use {well, a, w, rest, n, g}

  none_below : (f : Task → ℕ) → total f rest ≡ 0
  none_below f = ap (total f) g.agenda.3.1

  -- each place is built
  document : DocumentGood d w.builder
  document = record {
    all = (let made = all_are_made d a in
        let whole = ap (total is_making) g.build.1 in
        let split = total_append is_making g.build.0 [] in
        let count = g.build.2 in
        let alone = none_below is_for_builder in
        omega (arith, made, whole, split, count, alone));
    each = each_to _ IsBuilt w.builder (λ (h : BuilderEntry) is. subst IsBuilt (sym is.1) tt) g.build.3;
  }

  bindings_good : BindingsGood d (standing w.objects) rest w.bindings
  bindings_good = record {
    each = each_to _ _ w.bindings
        (λ (b : Binding) old. record {
          bind = old.bind;
          is = old.is;
          name = old.name;
          slots = old.slots;
          source = old.source;
          target = old.target;
          setting = (let s = old.setting in omega (arith, s));
        }) g.bindings.each;
    rising = g.bindings.rising;
    made = each_to _ _ w.bindings (λ (b : Binding) low. omega (arith, low)) g.bindings.made;
  }

  objects_first_good : ObjectsFirst rest w.bindings
  objects_first_good = record {
    before = λ some. (let old = g.objects_first.before (omega (arith, some)) in (old.0, (let z = old.1 in omega (arith, z))));
    one = (let old = g.objects_first.one in omega (arith, old));
  }

  same_made : total is_for_builder (Building [] ∷ rest) ≡ total is_for_builder rest
  same_made = omega arith

  ends_well : IsGood d a t.most_counted (record { world = w; agenda = rest; counted = n })
  ends_well =
      good_of t w rest
      (record {
        objects = refl;
        whole = record {
          objects = g.objects;
          handlers = handlers_wait_less d (costs t) (depths t) (standing w.objects) (Building [] ∷ rest) rest w.last_handler w.handlers (λ f. omega arith) g.handlers;
          bindings = bindings_good;
          sources = g.sources;
          held = g.held;
          floating = g.floating;
          objects_first = objects_first_good;
        };
        pool = subst (λ m. PeersGood d w.peers (length w.builder + m)) same_made g.peers;
        to_make = omega arith;
        makes = omega arith;
        build = subst (λ r. BuildGood d w.builder r r) (sym g.agenda.3.1) (document, refl);
        frozen = λ id. omega arith;
        lowest = λ id some. absurd (let none = none_below (frozen_by d id) in omega (arith, none, some));
        no_set = g.sets.first;
        no_source = none_later is_due_source rest g.sets.alone;
        budget = g.agenda.2;
        less = omega arith;
        good = g.agenda.6;
      })

  end_fine : StepIsFine t
  end_fine = fine_where t (record { world = w; agenda = rest; counted = n }) refl ends_well

pub builds_end : BuildsEnd
builds_end = fine_of (λ d t. end_fine t)
