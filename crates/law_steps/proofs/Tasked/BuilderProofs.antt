-- The builder's construction ends: the builder holds the object, and the build goes on.
use Rattle.std.proofs.Common.{◌≡◌, inl, inr, ◌⊎◌, refl, sym, ap, subst, ◌∙◌, ℕ, zero, suc, Bool, true, false, cond, List, [], ◌∷◌, ◌++◌, length, Some, Ok, arith}
use Rattle.std.specs.Prelude.{nat_eq}
use Rattle.ui_machine.specs.Seq.{read, write, total}
use Rattle.ui_machine.specs.Definition.{Definition}
use Rattle.ui_machine.specs.Rules.Build.{of_items}
use Rattle.ui_machine.specs.Rules.Construction.{constructed}
use Rattle.ui_machine.specs.State.Config.{BuilderEntry, World, unbuilt, built, without, sunk, with_builder_entry, starts}
use Rattle.ui_machine.specs.State.Objects.{Object, living}
use Rattle.ui_machine.specs.State.Tasks.{Item, Task, Constructing, Building}
use Rattle.ui_machine.specs.Steps.{uncounted}
use Rattle.law_typing.specs.Verdict.Accepted.{Each}
use Rattle.law_typing.specs.Laws.StepsKeepGood.{IsGood}
use Rattle.law_typing.specs.Good.Standing.{standing, Lives}
use Rattle.law_typing.specs.Good.Objects.{PeersGood}
use Rattle.law_typing.specs.Good.Bindings.{HeldGood}
use Rattle.law_typing.specs.Good.Builds.{BuildGood}
use Rattle.law_typing.specs.Good.Freezes.{QueuesGood}
use Rattle.law_typing.specs.Good.DueCosts.{unsets}
use Rattle.law_typing.proofs.Lists.{each_append}
use Rattle.law_steps.specs.Kept.Write.{Whole}
use Rattle.law_steps.proofs.Kept.Lists.{objects_stay}
use Rattle.law_steps.proofs.Tasked.BeginningProofs.{Placed, placed}
use Rattle.law_steps.proofs.Tasked.Changed.{no_sets, changed_well}
use Rattle.law_steps.proofs.Tasked.First.{fine_where, StepIsFine, fine_of, costs, depths, most}
use Rattle.law_steps.proofs.Tasked.Moving.{handlers_moved, bindings_moved}
use Rattle.law_steps.proofs.Tasked.Received.{Above, first, fine_above_these}
use Rattle.law_steps.proofs.Tasked.SettlingProofs.{each_without}
use Rattle.law_steps.specs.Tasked.Ending.{BuilderTakes}

-- ** the builder with one object more

read_past : (xs : List BuilderEntry) → read unbuilt xs (length xs) ≡ unbuilt
read_past [] = refl
read_past (x ∷ xs) = read_past xs

write_end : (xs : List BuilderEntry) (h : BuilderEntry) → write unbuilt xs (length xs) h ≡ xs ++ h ∷ []
write_end [] h = refl
write_end (x ∷ xs) h = ap (λ (ys : List BuilderEntry). x ∷ ys) (write_end xs h)

one_longer : (xs : List BuilderEntry) (h : BuilderEntry) → length (xs ++ h ∷ []) ≡ suc (length xs)
one_longer [] h = refl
one_longer (x ∷ xs) h = let more = one_longer xs h in omega (arith, more)

-- an entry is the one that was there, or the new one at the end
read_more : (xs : List BuilderEntry) (h : BuilderEntry) (i : ℕ) → (read unbuilt (xs ++ h ∷ []) i ≡ read unbuilt xs i) ⊎ ((i ≡ length xs) × (read unbuilt (xs ++ h ∷ []) i ≡ h))
read_more [] h zero = inr (refl, refl)
read_more [] h (suc i) = inl refl
read_more (x ∷ xs) h zero = inl refl
read_more (x ∷ xs) h (suc i) = go (read_more xs h i)
  where
    go : (read unbuilt (xs ++ h ∷ []) i ≡ read unbuilt xs i) ⊎ ((i ≡ length xs) × (read unbuilt (xs ++ h ∷ []) i ≡ h)) →
        (read unbuilt (xs ++ h ∷ []) i ≡ read unbuilt xs i) ⊎ ((suc i ≡ suc (length xs)) × (read unbuilt (xs ++ h ∷ []) i ≡ h))
    go (inl e) = inl e
    go (inr e) = inr (ap suc e.0, e.1)

-- ** what the machine does

takes : (w : World) (id : ℕ) (o : Object) → living w.objects id ≡ Some o → read unbuilt w.builder o.place ≡ unbuilt →
    constructed w id true ≡ starts (sunk (with_builder_entry w o.place (built id)) id) []
unfolding constructed
takes w id o is none = rw (is, none) refl

nothing_frozen : (b : Bool) → ◌≡◌ {A = ℕ} (cond b 0 0) 0
nothing_frozen true = refl
nothing_frozen false = refl

-- ** the step

module _ {d : Definition} (id : ℕ) (items : List Item) (x : Above d (Constructing id [] true) (Building items ∷ [])) where
  open x use {well, a, w, n, g}

  abbrev task : Task
  task = Constructing id [] true

  abbrev agenda : List Task
  agenda = Building items ∷ []

  abbrev builder : List BuilderEntry
  builder = w.builder ++ built id ∷ []

  abbrev v : World
  v = record w { builder = builder; floating = without id w.floating }

  p : Placed d w id g.agenda.3.1.place
  p = placed d well w g.objects id g.agenda.3.1.place g.agenda.3.1.is

  place_is : p.o.place ≡ length w.builder
  place_is = p.at ∙ g.agenda.3.1.for_builder refl

  leads : uncounted agenda n (constructed w id true) ≡ Ok (record { world = v; agenda = agenda; counted = n })
  leads =
      ap (uncounted agenda n) (takes w id p.o p.lives (ap (read unbuilt w.builder) place_is ∙ read_past w.builder))
      ∙ ap (λ b. Ok (record { world = record w { builder = b; floating = without id w.floating }; agenda = agenda; counted = n }))
      (ap (λ place. write unbuilt w.builder place (built id)) place_is ∙ write_end w.builder (built id))

  held_good : HeldGood (standing w.objects) builder
  held_good place j is = go (read_more w.builder (built id) place)
    where
      go : (read unbuilt builder place ≡ read unbuilt w.builder place) ⊎ ((place ≡ length w.builder) × (read unbuilt builder place ≡ built id)) → standing w.objects j ≡ Some place
      go (inl e) = g.held place j (sym e ∙ is)
      go (inr e) =
          let same : id ≡ j = (let f = sym e.1 ∙ is in cc) in
          let at : g.agenda.3.1.place ≡ place = g.agenda.3.1.for_builder refl ∙ sym e.0 in
          sym (ap (standing w.objects) same) ∙ (g.agenda.3.1.is ∙ ap (λ (q : ℕ). Some q) at)

  items_same : (f : Item → ℕ) → total (of_items f) agenda ≡ total (of_items f) (task ∷ agenda)
  items_same f = omega arith

  unset_same : (number : ℕ) → total (unsets number) agenda ≡ total (unsets number) (task ∷ agenda)
  unset_same number = omega arith

  -- nothing is frozen
  thawed : (j : ℕ) (o : Object) → living w.objects j ≡ Some o → o.freezes ≡ 0
  thawed j o is = let count = (g.queues j o is).count in let none = nothing_frozen (nat_eq id j) in omega (arith, count, none)

  whole : Whole d (costs (first x)) (depths (first x)) agenda v
  whole = record {
    objects = objects_stay d w v g.objects;
    handlers = handlers_moved d (costs (first x)) (depths (first x)) (task ∷ agenda) agenda items_same (standing w.objects) w.last_handler w.handlers g.handlers;
    bindings = bindings_moved d (costs (first x)) (depths (first x)) (task ∷ agenda) agenda items_same unset_same (standing w.objects) w.bindings g.bindings;
    sources = g.sources;
    held = held_good;
    floating = each_without (Lives (standing w.objects)) id w.floating g.floating;
    objects_first = record {
      before = λ some. absurd (omega (arith, some));
      one = omega arith;
    };
  }

  build_good : BuildGood d builder agenda agenda
  build_good = (
    g.build.0,
    g.build.1,
    (let count = g.build.2 in let more = one_longer w.builder (built id) in omega (arith, count, more)),
    each_append (λ (h : BuilderEntry). (id : ℕ) × (h ≡ built id)) w.builder (built id ∷ []) g.build.3 ((id, refl), tt),
  )

  queues_good : QueuesGood d (depths (first x)) (most (first x)) agenda n w.objects
  queues_good j o is =
      let q = g.queues j o is in
      let none = thawed j o is in
      record { count = omega (arith, none); few = q.few; none = q.none; deep = subst (Each _) (sym (q.none none)) tt }

  takes_well : IsGood d a x.most_counted (record { world = v; agenda = agenda; counted = n })
  takes_well =
      changed_well (first x) v agenda n
      (record {
        whole = whole;
        pool = subst (PeersGood d w.peers) (let more = one_longer w.builder (built id) in omega (arith, more)) g.peers;
        build = build_good;
        sets = no_sets d (record { world = v; agenda = agenda; counted = n }) (omega arith) refl;
        queues = queues_good;
        alive = refl;
        to_make = omega arith;
        makes = omega arith;
        budget = g.agenda.2;
        good = (let b = g.agenda.6 in (b.0, b.1, b.2, b.3, b.4, b.5, b.6));
        spent = omega arith;
      })

  take_fine : StepIsFine (first x)
  take_fine = fine_where (first x) (record { world = v; agenda = agenda; counted = n }) leads takes_well

pub builder_takes : BuilderTakes
builder_takes id = fine_of (λ d t. (let on = t.g.agenda.3.2 refl in fine_above_these t (Building on.0 ∷ []) on.1 (λ x. take_fine id on.0 x)))
