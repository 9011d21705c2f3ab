-- A build begins well where its items' costs, depths and number are within the bound, the depth and the limit, and its pool is ready.
use Rattle.std.proofs.Common.{◌≡◌, refl, ℕ, zero, suc, ◌+◌, Bool, true, List, [], ◌∷◌, Some, arith}
use Rattle.std.specs.Prelude.{nat_le}
use Rattle.std.specs.List.{list_all}
use Rattle.std.proofs.lemmas.Bool.{and_parts, leb-true}
use Rattle.ui_machine.specs.Seq.{read, total}
use Rattle.ui_machine.specs.Definition.{Definition}
use Rattle.ui_machine.specs.Definition.Places.{Place}
use Rattle.ui_machine.specs.State.Objects.{Object}
use Rattle.ui_machine.specs.State.Peers.{Peer}
use Rattle.ui_machine.specs.State.Config.{built, unbuilt}
use Rattle.ui_machine.specs.State.Objects as heap
use Rattle.ui_machine.specs.Rules.Build.{build_items, is_making}
use Rattle.ui_machine.specs.Runs.{of_build}
use Rattle.law_typing.specs.Graph.Tables.{Tables}
use Rattle.law_typing.specs.Verdict.Accepted.{Each}
use Rattle.law_typing.specs.Good.Standing.{standing}
use Rattle.law_typing.specs.Good.Objects.{PoolGood}
use Rattle.law_typing.specs.Good.Builds.{item_cost, item_depth}
use Rattle.law_typing.specs.Good.{Good}
use Rattle.law_typing.specs.Laws.StepsKeepGood.{PeerReady, PoolReady}

-- nothing lives yet
nothing_lives : {A : Type 0} (id : ℕ) (o : Object) → heap.living [] id ≡ Some o → A
nothing_lives zero o e = absurd (cc)
nothing_lives (suc i) o e = absurd (cc)

nothing_stands : {A : Type 0} (id place : ℕ) → standing [] id ≡ Some place → A
nothing_stands zero place e = absurd (cc)
nothing_stands (suc i) place e = absurd (cc)

nothing_held : {A : Type 0} (place id : ℕ) → read unbuilt [] place ≡ built id → A
nothing_held place id e = absurd (cc)

pub each_all : {A : Type 0} (test : A → Bool) (P : A → Type 0) → ((x : A) → test x ≡ true → P x) → (xs : List A) → list_all test xs ≡ true → Each P xs
each_all test P f [] e = tt
each_all test P f (x ∷ xs) e = let both = and_parts (test x) (list_all test xs) e in (f x both.0, each_all test P f xs both.1)

-- a peer that is ready is as the build wants it
ready : (d : Definition) (peers : List Peer) (place : ℕ) (p : Place) (names : List (List ℕ)) → Each (PeerReady d peers p) names → Each (PoolGood d peers 0 place p) names
ready d peers place p [] all = tt
ready d peers place p (name ∷ names) all =
    let r = all.0 in (
      record {
        number = r.number;
        peer = r.peer;
        shape = r.shape;
        methods = r.methods;
        is = r.is;
        has = r.has;
        of_class = r.of_class;
        shaped = r.shaped;
        is_open = λ e. r.is_open;
        left = λ e h. r.free;
      },
      ready d peers place p names all.1,
    )

-- what is reckoned of a build
pub record Reckoned (d : Definition) (costs depths : Tables) (most_counted most : ℕ) : Type 0 where
  pub cheap : nat_le (total (item_cost d costs) (build_items d) + total is_making (build_items d)) most_counted ≡ true
  pub few : nat_le (total is_making (build_items d)) d.most_objects ≡ true
  pub shallow : list_all (λ item. nat_le (item_depth d depths item) most) (build_items d) ≡ true

pub begins : (d : Definition) (costs depths : Tables) (most_counted most : ℕ) (peers : List Peer) → PoolReady d peers → Reckoned d costs depths most_counted most →
    Good d costs depths most_counted most (of_build d peers)
begins d costs depths most_counted most peers pool r =
    let cheap = leb-true _ most_counted r.cheap in
    let few = leb-true _ d.most_objects r.few in
    record {
      objects = λ id o e. nothing_lives id o e;
      handlers = record { each = tt; rising = tt; numbered = tt; few = λ id number. omega arith; channels = λ id place e. nothing_stands id place e };
      bindings = record { each = tt; rising = tt; made = tt };
      sources = tt;
      peers = λ place p e. ready d peers place p p.peers (pool place p e);
      build = ([], refl, refl, tt);
      held = λ place id e. nothing_held place id e;
      floating = tt;
      sets = record { alone = refl; first = refl; held = λ h. absurd (omega (arith, h)) };
      objects_first = record { before = λ h. absurd (omega (arith, h)); one = omega arith };
      budget = total (item_cost d costs) (build_items d);
      agenda = (
        total (item_cost d costs) (build_items d),
        most,
        0,
        (tt, refl, omega arith, each_all _ _ (λ item e. leb-true _ most e) (build_items d) r.shallow),
        omega arith,
        omega arith,
        tt,
      );
      queues = λ id o e. nothing_lives id o e;
      few = omega (arith, few);
      spent = omega (arith, cheap);
    }
