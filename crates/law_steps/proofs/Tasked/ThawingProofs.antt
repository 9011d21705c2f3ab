-- What is left of a thaw: the next notification is due, or none is left.
use Rattle.std.proofs.Common.{◌≡◌, refl, ℕ, ◌+◌, List, [], ◌∷◌, arith}
use Rattle.ui_machine.specs.Seq.{total}
use Rattle.ui_machine.specs.Definition.{Definition}
use Rattle.ui_machine.specs.Rules.Build.{is_making}
use Rattle.ui_machine.specs.State.Tasks.{Task, Notifying, Thawing}
use Rattle.law_typing.specs.Graph.Channels.{Channel, property}
use Rattle.law_typing.specs.Graph.Tables.{Tables}
use Rattle.law_typing.specs.Laws.StepsKeepGood.{IsGood}
use Rattle.law_typing.specs.Good.Standing.{Standing, standing}
use Rattle.law_typing.specs.Good.DueCosts.{unsets, due_cost, due_depth}
use Rattle.law_typing.specs.Good.Emissions.{ThawingGood}
use Rattle.law_steps.specs.Kept.Alike.{Alike}
use Rattle.law_steps.proofs.Tasked.Done.{done}
use Rattle.law_steps.proofs.Tasked.First.{First, good_of, fine_where, StepIsFine, fine_of, whole_told, pool_alike, build_alike, costs, depths}
use Rattle.law_steps.proofs.Tasked.Lowest.{lowest_above}
use Rattle.law_steps.proofs.Tasked.Moving.{setting_same}
use Rattle.law_steps.specs.Tasked.Thawing.{DueThawsAreFine}

-- what is due costs the same, and is as deep, above tasks that set the same bindings free
module _ (d : Definition) (a b : List Task) (unset : (number : ℕ) → total (unsets number) b ≡ total (unsets number) a) (c : Channel) where
  pub due_same : (costs : Tables) → due_cost d costs b c ≡ due_cost d costs a c
  due_same costs = let same = setting_same d a b unset c 0 d.bindings in rw same refl

  pub deep_same : (depths : Tables) → due_depth d depths b c ≡ due_depth d depths a c
  deep_same depths = let same = setting_same d a b unset c 0 d.bindings in rw same refl

-- without one, the others are still within what is left
others_good : (d : Definition) (costs depths : Tables) (s : Standing) (below : List Task) (id slot : ℕ) (slots : List ℕ) (steps frames : ℕ) →
    (g : ThawingGood d costs depths s below id (slot ∷ slots) steps frames) → ThawingGood d costs depths s below id slots (total (λ slot. due_cost d costs below (property g.0 slot)) slots) frames
others_good d costs depths s below id slot [] steps frames g = tt
others_good d costs depths s below id slot (x ∷ slots) steps frames g = (g.0, g.1, omega arith, g.3.1)

module _ {d : Definition} (id slot : ℕ) (slots : List ℕ) (t : First d (Thawing id (slot ∷ slots))) where
  open t use {a, w, rest, n, g}

  abbrev later : List Task
  later = Notifying id slot ∷ Thawing id slots ∷ rest

  now_alike : Alike (Thawing id (slot ∷ slots) ∷ rest) later
  now_alike = record { items = λ f. omega arith; unset = λ number. omega arith; request_step = omega arith; makes = omega arith }

  unset_same : (number : ℕ) → total (unsets number) (Thawing id slots ∷ rest) ≡ total (unsets number) rest
  unset_same number = omega arith

  next_good : IsGood d a t.most_counted (record { world = w; agenda = later; counted = n })
  next_good =
      let old = g.agenda.3.1 in
      let c = property old.0 slot in
      let cost = due_cost d (costs t) rest c in
      let left = total (λ slot. due_cost d (costs t) rest (property old.0 slot)) slots in
      let cheap = old.2 in
      good_of t w later
      (record {
        objects = refl;
        whole = whole_told t later w.transcript w.result now_alike;
        pool = pool_alike t later now_alike;
        to_make = now_alike.items is_making;
        makes = (let same = now_alike.makes in omega (arith, same));
        build = build_alike t later now_alike;
        frozen = λ id. omega arith;
        lowest = λ x some. (
            let first = lowest_above d x (Notifying id slot) (Thawing id slots ∷ rest) (omega (arith, some)) in
            let second = lowest_above d x (Thawing id slots) rest (omega (arith, some)) in
            let was = lowest_above d x (Thawing id (slot ∷ slots)) rest (omega (arith, some)) in
            omega (arith, first, second, was));
        no_set = (let unset = g.sets.first in omega (arith, unset));
        no_source = (let alone = g.sets.alone in omega (arith, alone));
        budget = cost + (left + g.agenda.2);
        less = omega (arith, cheap);
        good = (
          cost,
          g.agenda.1,
          left + g.agenda.2,
          (
            tt,
            record {
              due = record {
                place = old.0;
                is = old.1;
                spec = old.3.0.1;
                has = old.3.0.2;
                cheap = (let same = due_same d rest (Thawing id slots ∷ rest) unset_same c (costs t) in omega (arith, same));
                shallow = (let same = deep_same d rest (Thawing id slots ∷ rest) unset_same c (depths t) in let deep = old.3.0.0 in omega (arith, same, deep));
              };
              readable = old.3.0.3;
            },
          ),
          (let low = g.agenda.4 in omega (arith, low)),
          omega arith,
          (left, g.agenda.1, g.agenda.2, (tt, others_good d (costs t) (depths t) (standing w.objects) rest id slot slots g.agenda.0 g.agenda.1 old), g.agenda.4, omega arith, g.agenda.6),
        );
      })

pub due_thaws_are_fine : DueThawsAreFine
due_thaws_are_fine id [] = fine_of (λ d t. none_left d t)
  where
    none_left : (d : Definition) (t : First d (Thawing id [])) → StepIsFine t
    none_left d t =
        fine_where t (record { world = t.w; agenda = t.rest; counted = t.n }) refl
        (done t t.w.transcript t.w.result
        (record {
          alike = record { items = λ f. omega arith; unset = λ number. omega arith; request_step = omega arith; makes = omega arith };
          frozen = λ id. refl;
          build = λ build. build;
          good = t.g.agenda.6;
        }))
due_thaws_are_fine id (slot ∷ slots) = fine_of (λ d t. fine_where t (record { world = t.w; agenda = later id slot slots t; counted = t.n }) refl (next_good id slot slots t))
