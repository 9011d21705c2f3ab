-- The names of the signals of a type, by the types that declare them.
use Rattle.std.proofs.Common.{◌≡◌, ◌∙◌, ℕ, suc, Bool, true, false, cond, not, nat_eq, ◌||◌, ◌&&◌, bytes_eq, string_bytes, List, [], ◌∷◌, ◌++◌, map, reverse, None, Option, Some, Vec, is_some, OnErr, OnOk, Result, Ok, Err, if◌then◌else◌, refl, sym, ap, arith}
use Rattle.std.specs.List.{filter, flat_map, list_any}
use Rattle.std.proofs.lemmas.Bool.{false≢true}
use Rattle.std.proofs.lemmas.Bool.Decides.{nat_tests}
use Rattle.std.proofs.lemmas.List.Folds.{list_any-append}
use Rattle.std.proofs.lemmas.Slice.Eq.{bytes_eq-Decides}
use Rattle.ui_machine.specs.Definition.Names.{place_from, same_name}
use Rattle.ui_machine.specs.Definition.Signals.{Signal}
use Rattle.ui_machine.specs.Definition.Types.{GType}
use Rattle.ui_machine.specs.Rules.Ancestry.{is_a, lineage}
use Rattle.ui_machine.specs.Words.{notify}
use Rattle.g_values.proofs.Texts.{same_bytes}
use Rattle.signal_core.specs.Owners.{AreOwners, KeepsOwners, has_signal, items_of, listed_for}
use Rattle.signal_core.specs.SignalView.{signal_view}
use Rattle.signal_core.specs.Sources.{brought_by, declared_of, each_once, own_of, signals_of, sources_of}
use Rattle.signal_core.specs.Table.{AddsSignal, SameSignals}
use Rattle.signal_core.specs.declared.owners.Owners.{Owners}
use Rattle.signal_core.specs.declared.signal.Signal as code
use Rattle.signal_core.proofs.Walks.{any_brought}

-- ** a name among those of a list

pub named_there : (signals : List Signal) (i : ℕ) (name : List ℕ)
    → is_some (place_from (λ (s : Signal). s.name) i signals name) ≡ list_any (λ (s : Signal). same_name s.name name) signals
named_there [] i name = refl
named_there (s ∷ ss) i name = by (same_name s.name name) (named_there ss (suc i) name)
  where
    by : (b : Bool) → is_some (place_from (λ (s : Signal). s.name) (suc i) ss name) ≡ list_any (λ (s : Signal). same_name s.name name) ss
        → is_some (cond b (Some i) (place_from (λ (s : Signal). s.name) (suc i) ss name)) ≡ (b || list_any (λ (s : Signal). same_name s.name name) ss)
    by true rest = refl
    by false rest = rest

-- the same of the signals of the code
pub named_in_code : (xs : List code.Signal) (name : List ℕ) → list_any (λ s. bytes_eq (string_bytes s.name) name) xs ≡ has_signal (map signal_view xs) name
named_in_code xs name = at xs ∙ sym (named_there (map signal_view xs) 0 name)
  where
    at : (xs : List code.Signal) → list_any (λ s. bytes_eq (string_bytes s.name) name) xs ≡ list_any (λ (s : Signal). same_name s.name name) (map signal_view xs)
    at [] = refl
    at (x ∷ xs) =
        ap (λ b. b || list_any (λ s. bytes_eq (string_bytes s.name) name) xs) (sym (same_bytes (string_bytes x.name) name))
        ∙ ap (λ b. same_name (string_bytes x.name) name || b) (at xs)

-- ** tests over lists of types

pub any_flat : {A : Type 0} (test : A → Bool) (f : ℕ → List A) (xs : List ℕ) → list_any test (flat_map f xs) ≡ list_any (λ x. list_any test (f x)) xs
any_flat test f [] = refl
any_flat test f (x ∷ xs) = list_any-append test (f x) (flat_map f xs) ∙ ap (λ b. list_any test (f x) || b) (any_flat test f xs)

-- without an element that fails the test
any_others : (test : ℕ → Bool) (x : ℕ) (ys : List ℕ) → test x ≡ false → list_any test (filter (λ y. not (nat_eq x y)) ys) ≡ list_any test ys
any_others test x [] fails = refl
any_others test x (y ∷ ys) fails = by (nat_eq x y) refl (any_others test x ys fails)
  where
    same : nat_eq x y ≡ true → x ≡ y
    same h = grind (arith, nat_tests)

    by : (b : Bool) → nat_eq x y ≡ b → list_any test (filter (λ z. not (nat_eq x z)) ys) ≡ list_any test ys
        → list_any test (cond (not b) (y ∷ filter (λ z. not (nat_eq x z)) ys) (filter (λ z. not (nat_eq x z)) ys)) ≡ (test y || list_any test ys)
    by true e rest = rest ∙ ap (λ b. b || list_any test ys) (sym fails ∙ ap test (same e))
    by false e rest = ap (λ b. test y || b) rest

-- what occurs twice counts once
pub any_once : (test : ℕ → Bool) (xs : List ℕ) → list_any test (each_once xs) ≡ list_any test xs
any_once test [] = refl
any_once test (x ∷ xs) = by (test x) refl (any_once test xs)
  where
    by : (b : Bool) → test x ≡ b → list_any test (each_once xs) ≡ list_any test xs
        → (b || list_any test (filter (λ y. not (nat_eq x y)) (each_once xs))) ≡ (b || list_any test xs)
    by true e rest = refl
    by false e rest = any_others test x (each_once xs) e ∙ rest

-- ** owners

same_number : (a x : ℕ) → nat_eq a x ≡ true → a ≡ x
same_number a x h = grind (arith, nat_tests)

or_true : (b : Bool) → (b || true) ≡ true
or_true true = refl
or_true false = refl

-- one that is in a list passes where some one of the list has to
passes : (test : ℕ → Bool) (x : ℕ) (ys : List ℕ) → list_any (nat_eq x) ys ≡ true → test x ≡ true → list_any test ys ≡ true
passes test x [] there holds = absurd (false≢true there)
passes test x (y ∷ ys) there holds = by (nat_eq x y) refl there (λ h. passes test x ys h holds)
  where
    by : (b : Bool) → nat_eq x y ≡ b → (b || list_any (nat_eq x) ys) ≡ true → (list_any (nat_eq x) ys ≡ true → list_any test ys ≡ true) → (test y || list_any test ys) ≡ true
    by true e h rest = ap (λ b. b || list_any test ys) (sym (ap test (same_number x y e)) ∙ holds)
    by false e h rest = ap (λ b. test y || b) (rest h) ∙ or_true (test y)

-- none of those that are listed, where none of the types
none_listed : (test : ℕ → Bool) (xs ls : List ℕ) → list_any test xs ≡ false → list_any (λ u. list_any (nat_eq u) xs && test u) ls ≡ false
none_listed test xs [] h = refl
none_listed test xs (l ∷ ls) h = at (list_any (nat_eq l) xs) (test l) refl refl (none_listed test xs ls h)
  where
    at : (a b : Bool) → list_any (nat_eq l) xs ≡ a → test l ≡ b → list_any (λ u. list_any (nat_eq u) xs && test u) ls ≡ false
        → ((a && b) || list_any (λ u. list_any (nat_eq u) xs && test u) ls) ≡ false
    at false b p q rest = rest
    at true false p q rest = rest
    at true true p q rest = absurd (false≢true (sym h ∙ passes test l xs p q))

-- one of them, where one of the types
one_listed : (test : ℕ → Bool) (xs listed : List ℕ) → ((u : ℕ) → test u ≡ true → list_any (nat_eq u) listed ≡ true)
    → (ys : List ℕ) → ((u : ℕ) → list_any (nat_eq u) ys ≡ true → list_any (nat_eq u) xs ≡ true) → list_any test ys ≡ true
    → list_any (λ u. list_any (nat_eq u) xs && test u) listed ≡ true
one_listed test xs listed all [] within h = absurd (false≢true h)
one_listed test xs listed all (y ∷ ys) within h =
    at (test y) refl h (one_listed test xs listed all ys (λ u there. within u (ap (λ b. nat_eq u y || b) there ∙ or_true (nat_eq u y))))
  where
    own : nat_eq y y ≡ true
    own = grind (arith, nat_tests)

    in_xs : list_any (nat_eq y) xs ≡ true
    in_xs = within y (ap (λ b. b || list_any (nat_eq y) ys) own)

    at : (b : Bool) → test y ≡ b → (b || list_any test ys) ≡ true → (list_any test ys ≡ true → list_any (λ u. list_any (nat_eq u) xs && test u) listed ≡ true)
        → list_any (λ u. list_any (nat_eq u) xs && test u) listed ≡ true
    at true e here rest = passes (λ u. list_any (nat_eq u) xs && test u) y listed (all y e) (ap (λ b. b && test y) in_xs ∙ e)
    at false e here rest = rest here

-- a test that only those pass that are listed is passed by one of some types, or by one that is listed and among them
pub among_listed : (test : ℕ → Bool) (xs listed : List ℕ) → ((u : ℕ) → test u ≡ true → list_any (nat_eq u) listed ≡ true)
    → list_any (λ u. list_any (nat_eq u) xs && test u) listed ≡ list_any test xs
among_listed test xs listed all = by (list_any test xs) refl
  where
    by : (b : Bool) → list_any test xs ≡ b → list_any (λ u. list_any (nat_eq u) xs && test u) listed ≡ b
    by true h = one_listed test xs listed all xs (λ u there. there) h
    by false h = none_listed test xs listed h

any_same : (p q : ℕ → Bool) → ((u : ℕ) → p u ≡ q u) → (xs : List ℕ) → list_any p xs ≡ list_any q xs
any_same p q same [] = refl
any_same p q same (x ∷ xs) = ap (λ b. b || list_any p xs) (same x) ∙ ap (λ b. q x || b) (any_same p q same xs)

module _ (types : List GType) (signals : List (List Signal)) (name : List ℕ) where
  -- a type has a signal of a name if a type that it is declares one
  pub declared_by : (t : ℕ) → has_signal (declared_of types signals t) name
      ≡ list_any (λ u. has_signal (own_of signals u) name) (flat_map (brought_by types) (reverse (lineage types t)))
  unfolding declared_of sources_of
  declared_by t =
      let called = λ (s : Signal). same_name s.name name in
      let all = flat_map (brought_by types) (reverse (lineage types t)) in
      named_there (declared_of types signals t) 0 name
      ∙ any_flat called (own_of signals) (each_once all)
      ∙ any_once (λ u. list_any called (own_of signals u)) all
      ∙ any_same (λ u. list_any called (own_of signals u)) (λ u. has_signal (own_of signals u) name) (λ u. sym (named_there (own_of signals u) 0 name)) all

  -- so it is enough to look at those that are listed for the name
  pub by_owners : (o : Owners) (t : ℕ) → AreOwners o signals
      → list_any (λ u. is_a types t u && has_signal (own_of signals u) name) (listed_for o name) ≡ has_signal (declared_of types signals t) name
  by_owners o t are =
      let all = flat_map (brought_by types) (reverse (lineage types t)) in
      any_same _ _ (λ u. ap (λ b. b && has_signal (own_of signals u) name) (sym (any_brought types u (lineage types t)))) (listed_for o name)
      ∙ among_listed (λ u. has_signal (own_of signals u) name) all (listed_for o name) (λ u has. are u name has)
      ∙ sym (declared_by t)

-- `notify` comes first
pub beside_notify : (types : List GType) (signals : List (List Signal)) (t : ℕ) (name : List ℕ) (here : Bool) → here ≡ same_name notify.name name
    → (here || has_signal (declared_of types signals t) name) ≡ has_signal (signals_of types signals t) name
beside_notify types signals t name here is =
    ap (λ b. b || has_signal (declared_of types signals t) name) is
    ∙ ap (λ b. same_name notify.name name || b) (named_there (declared_of types signals t) 0 name)
    ∙ sym (named_there (signals_of types signals t) 0 name)

-- ** one signal more

module _ (old new : Owners) (before after : List (List Signal)) where
  -- who is listed for the signals before is listed for the same signals
  pub owners_same : AreOwners old before → KeepsOwners old new → SameSignals before after → AreOwners new after
  owners_same are keeps same t name has = keeps name t (are t name (sym (ap (λ l. has_signal l name) (same t)) ∙ has))

  -- and for one more, where its type is listed for its name
  pub owners_more : (t : ℕ) (s : Signal) → AreOwners old before → KeepsOwners old new → list_any (nat_eq t) (listed_for new s.name) ≡ true → AddsSignal before after t s → AreOwners new after
  owners_more t s are keeps listed adds u name has =
      by (nat_eq u t) refl (sym (ap (λ l. list_any (λ (x : Signal). same_name x.name name) l) (adds u)) ∙ sym (named_there (own_of after u) 0 name) ∙ has)
    where
      there : list_any (λ (x : Signal). same_name x.name name) (own_of before u) ≡ true → list_any (nat_eq u) (listed_for new name) ≡ true
      there h = keeps name u (are u name (named_there (own_of before u) 0 name ∙ h))

      same_text : same_name s.name name ≡ true → s.name ≡ name
      same_text h = (bytes_eq-Decides s.name name).0 (sym (same_bytes s.name name) ∙ h)

      at : (u ≡ t) → (a b : Bool) → list_any (λ (x : Signal). same_name x.name name) (own_of before u) ≡ a → same_name s.name name ≡ b → (a || (b || false)) ≡ true
          → list_any (nat_eq u) (listed_for new name) ≡ true
      at e true b p q h = there p
      at e false true p q h = ap (λ n. list_any (nat_eq u) (listed_for new n)) (sym (same_text q)) ∙ ap (λ v. list_any (nat_eq v) (listed_for new s.name)) e ∙ listed
      at e false false p q h = absurd (false≢true h)

      by : (b : Bool) → nat_eq u t ≡ b → list_any (λ (x : Signal). same_name x.name name) (if b then own_of before u ++ s ∷ [] else own_of before u) ≡ true
          → list_any (nat_eq u) (listed_for new name) ≡ true
      by true e h =
          at (same_number u t e) (list_any (λ (x : Signal). same_name x.name name) (own_of before u)) (same_name s.name name) refl refl
          (sym (list_any-append (λ (x : Signal). same_name x.name name) (own_of before u) (s ∷ [])) ∙ h)
      by false e h = there h

pub owners_after : {E : Type 0} (r : Result (Unit {0}) E) (old new : Owners) (before after : List (List Signal)) (t : ℕ) (s : Signal)
    → AreOwners old before → KeepsOwners old new → list_any (nat_eq t) (listed_for new s.name) ≡ true
    → OnOk r (AddsSignal before after t s) → OnErr r (SameSignals before after) → AreOwners new after
owners_after (Ok done) old new before after t s are keeps listed ok err = owners_more old new before after t s are keeps listed ok
owners_after (Err e) old new before after t s are keeps listed ok err = owners_same old new before after are keeps err

-- ** one type more

-- who is listed stays so where the types of one name are written, and those before are among them
pub still_listed : {Y : Type 0} (old new : List ℕ → Option (Vec ℕ Y)) (bs cs : List ℕ) (w : Vec ℕ Y) (t : ℕ) → new cs ≡ (if bytes_eq bs cs then Some w else old cs)
    → ((u : ℕ) → list_any (nat_eq u) (items_of (old bs)) ≡ true → list_any (nat_eq u) w.items ≡ true)
    → list_any (nat_eq t) (items_of (old cs)) ≡ true → list_any (nat_eq t) (items_of (new cs)) ≡ true
still_listed old new bs cs w t is stay there = by (bytes_eq bs cs) refl is
  where
    by : (b : Bool) → bytes_eq bs cs ≡ b → new cs ≡ (if b then Some w else old cs) → list_any (nat_eq t) (items_of (new cs)) ≡ true
    by true e is =
        ap (λ o. list_any (nat_eq t) (items_of o)) is
        ∙ stay t (ap (λ ns. list_any (nat_eq t) (items_of (old ns))) ((bytes_eq-Decides bs cs).0 e) ∙ there)
    by false e is = ap (λ o. list_any (nat_eq t) (items_of o)) is ∙ there

-- with one more at the end
pub listed_before : (u t : ℕ) (types more : List ℕ) → more ≡ types ++ t ∷ [] → list_any (nat_eq u) types ≡ true → list_any (nat_eq u) more ≡ true
listed_before u t types more is there =
    ap (list_any (nat_eq u)) is ∙ list_any-append (nat_eq u) types (t ∷ []) ∙ ap (λ b. b || list_any (nat_eq u) (t ∷ [])) there

pub none_before : {Y : Type 0} (o : Option (Vec ℕ Y)) (u : ℕ) → o ≡ None → {P : Type 0} → list_any (nat_eq u) (items_of o) ≡ true → P
none_before o u none there = absurd (false≢true (sym (ap (λ o. list_any (nat_eq u) (items_of o)) none) ∙ there))
