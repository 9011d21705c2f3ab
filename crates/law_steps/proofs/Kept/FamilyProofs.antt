-- Families that change: what is good of a world stays so.
use Rattle.std.proofs.Common.{sym, subst, ℕ, List, [], ◌∷◌}
use Rattle.ui_machine.specs.Definition.{Definition}
use Rattle.ui_machine.specs.State.Objects.{Object, Objects}
use Rattle.ui_machine.specs.State.Tasks.{Task}
use Rattle.ui_machine.specs.State.Config.{World}
use Rattle.law_typing.specs.Graph.Tables.{Tables}
use Rattle.law_typing.specs.Verdict.Accepted.{Each}
use Rattle.law_typing.specs.Good.Standing.{standing, Lives}
use Rattle.law_typing.specs.Good.Objects.{ObjectGood}
use Rattle.law_typing.specs.Good.Handlers.{HandlersGood}
use Rattle.law_typing.specs.Good.Bindings.{BindingGood, BindingsGood, SourceGood, HeldGood}
use Rattle.law_steps.specs.Kept.Write.{Whole}
use Rattle.law_steps.specs.Kept.Family.{Kin, FamiliesGood, with_families, FamiliesKeep}

each_of : {A : Type 0} (P Q : A → Type 0) (xs : List A) → ((x : A) → P x → Q x) → Each P xs → Each Q xs
each_of P Q [] f all = tt
each_of P Q (x ∷ xs) f all = (f x all.0, each_of P Q xs f all.1)

module _ (d : Definition) (costs depths : Tables) (agenda : List Task) (w : World) (os : Objects) (floating : List ℕ) (lines : List (List ℕ)) (f : FamiliesGood w os)
    (all : Each (Lives (standing w.objects)) floating) (g : Whole d costs depths agenda w) where
  abbrev new : World
  new = with_families w os floating lines

  object : (id : ℕ) (x : Object) → Kin w os id x → ObjectGood d new (standing os) id x
  object id x k =
      let o = g.objects id k.old k.was in
      subst (λ s. ObjectGood d new s id x) (sym f.stands)
      (subst (ObjectGood d new (standing w.objects) id) (sym k.same)
      (record {
        place = o.place;
        is = o.is;
        class = o.class;
        values = o.values;
        children = k.children;
        parent = k.parent;
        queue = o.queue;
        apart = o.apart;
        peer = o.peer;
      }))

  bindings : BindingsGood d (standing w.objects) agenda w.bindings
  bindings = record {
    each =
        each_of (BindingGood d (standing w.objects) agenda) (BindingGood d (standing w.objects) agenda) w.bindings
        (λ b good. good) g.bindings.each;
    rising = g.bindings.rising;
    made = g.bindings.made;
  }

  families_keep_them : Whole d costs depths agenda new
  families_keep_them = record {
    objects = λ id x is. object id x (f.kin id x is);
    handlers = subst (λ s. HandlersGood d costs depths s agenda w.last_handler w.handlers) (sym f.stands) g.handlers;
    bindings = subst (λ s. BindingsGood d s agenda w.bindings) (sym f.stands) bindings;
    sources = subst (λ s. Each (SourceGood d s) w.sources) (sym f.stands) g.sources;
    held = subst (λ s. HeldGood s w.builder) (sym f.stands) g.held;
    floating = subst (λ s. Each (Lives s) floating) (sym f.stands) all;
    objects_first = g.objects_first;
  }

pub families_keep : FamiliesKeep
families_keep d costs depths agenda w os floating lines f all g = families_keep_them d costs depths agenda w os floating lines f all g
