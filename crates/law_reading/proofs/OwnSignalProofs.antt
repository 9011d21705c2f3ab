-- The signals that an entry gives to a type: none has a name that the type has already.
use Rattle.std.proofs.Common.{◌≡◌, ◌<◌, ◌≤◌, ℕ, ◌+◌, Bool, true, false, cond, ◌||◌, is_some, if◌then◌else◌, List, [], ◌∷◌, ◌++◌, length, Option, None, Some, option_and_then, Ok, Err, codes, refl, sym, ap, subst, ◌∙◌, append_assoc}
use Rattle.std.specs.List.{list_any}
use Rattle.std.specs.Str.{bytes_eq}
use Rattle.std.proofs.lemmas.Bool.{eq-eqb}
use Rattle.serde_json.specs.Data.{Data, Items, no_items, item}
use Rattle.serde_json.specs.Find.{get, as_str}
use Rattle.ui_machine.specs.Definition.Names.{canonical}
use Rattle.ui_machine.specs.Definition.Signals.{Signal}
use Rattle.ui_machine.specs.Definition.Types.{GType, Sort}
use Rattle.signal_core.specs.Sources.{number_named}
use Rattle.signal_core.specs.Table.{canonical_signal}
use Rattle.signal_core.specs.declared.fault.SignalFault.TheVariants.{BadName}
use Rattle.type_tree.specs.Adding.{sort_of}
use Rattle.type_tree.specs.PropertyName.{is_property_name}
use Rattle.definition_format.specs.Refusals.{shape, not_declared}
use Rattle.definition_format.specs.Document.{each, at_entry, under, nth, members_at, text_at, entries_at, only_at}
use Rattle.definition_format.specs.Denoted.Brought.{names_with, own_signal_at, own_signals_ahead}
use Rattle.definition_format.specs.Denoted.Entries.{TypeNames}
use Rattle.definition_format.specs.Denoted.Overrides.{own_name}
use Rattle.definition_format.specs.Denoted.Signals.{signals_by, count_by, params_at, result_at, flags_at, accumulator_at, room_for_signal, told_twice, new_signal, keys_of_signal, signal_of_entry, add_signal, signal_at, signals_at}
use Rattle.definition_format.proofs.Soundness.{OnRead, on_bind, on_all}
use Rattle.law_typing.specs.Verdict.Accepted.{Each}
use Rattle.law_typing.proofs.Lists.{each_append}
use Rattle.law_reading.proofs.AheadProofs.{bound, listed_is}
use Rattle.law_reading.proofs.NameProofs.{AreApart, is_named, none_called, signal_name, apart_between, unnamed_parts, unnamed_both}
use Rattle.law_reading.proofs.OverrideProofs.{bytes_same}
use Rattle.law_reading.proofs.Parts.{on_read, taken}
use Rattle.law_reading.proofs.PropertyProofs.{OnlyAt, canonical_once}

-- a signal is kept under a name in canonical spelling
abbrev pub IsCanonical : Signal → Type 0
IsCanonical s = canonical s.name ≡ s.name

-- none of these names is among those of these signals
abbrev pub AreNew : List (List ℕ) → List Signal → Type 0
AreNew names signals = (name : List ℕ) → list_any (bytes_eq name) names ≡ true → is_named signal_name signals name ≡ false

-- what is so of the signals of types that were read, where each type has these of its own
pub record SignalsRead (types : List GType) (own : ℕ → List Signal) : Type 0 where
  pub kept : (t : ℕ) → Each IsCanonical (own t)
  pub past : (t : ℕ) → length types ≤ t → own t ≡ []
  pub apart : (t : ℕ) → t < length types → AreApart signal_name (signals_by types own t)

-- ** a signal

-- the entry names the signal, by a name that none of these has
record IsNew (has : List Signal) (d : Data) (s : Signal) : Type 0 where
  called : option_and_then as_str (get (codes "name") d) ≡ Some s.name
  new : number_named has s.name ≡ None

new_name : (path : List ℕ) (sort : Sort) (has : List Signal) (name : List ℕ) (u : Unit {0}) → new_signal path sort has name ≡ Ok u
    → number_named has name ≡ None
new_name path sort has name u e = by (is_property_name name) (number_named has name) e
  where
    by : (valid : Bool) (found : Option ℕ)
        → (if valid then (if is_some found then Err (told_twice path sort) else Ok tt) else Err (not_declared path BadName)) ≡ Ok u
        → found ≡ None
    by false found e = absurd (cc)
    by true None e = refl
    by true (Some n) e = absurd (cc)

entry_new : (path : List ℕ) (types : List GType) (names : TypeNames) (t count : ℕ) (has : List Signal) (d : Data)
    → OnRead (IsNew has d) (signal_of_entry path types names t count has d)
unfolding signal_of_entry
entry_new path types names t count has d =
    on_bind (λ x. Unit {0}) (IsNew has d) (members_at path d) _ (on_all _) λ ms u.
    on_bind (λ x. Unit {0}) (IsNew has d) (room_for_signal count) _ (on_all _) λ room u.
    on_read (IsNew has d) (text_at path d (codes "name")) _ λ name called.
    on_read (IsNew has d) (new_signal (under path (codes "name")) (sort_of types t) has name) _ λ new fresh.
    on_bind (λ x. Unit {0}) (IsNew has d) (params_at path types names d) _ (on_all _) λ params u.
    on_bind (λ x. Unit {0}) (IsNew has d) (result_at path types names d) _ (on_all _) λ result u.
    on_bind (λ x. Unit {0}) (IsNew has d) (flags_at path d) _ (on_all _) λ flags u.
    on_bind (λ x. Unit {0}) (IsNew has d) (accumulator_at path result d) _ (on_all _) λ accumulator u.
    on_bind (λ x. Unit {0}) (IsNew has d) (only_at path ms keys_of_signal) _ (on_all _) λ only u. record {
      called = taken (shape (under path (codes "name"))) (option_and_then as_str (get (codes "name") d)) name called;
      new = new_name (under path (codes "name")) (sort_of types t) has name new fresh;
    }

in_either : (name last : List ℕ) (names : List (List ℕ)) → list_any (bytes_eq name) (names ++ last ∷ []) ≡ true
    → (P : List ℕ → Type 0) → (list_any (bytes_eq name) names ≡ true → P name) → P last → P name
in_either name last [] h P old new = by (bytes_eq name last) refl h
  where
    by : (b : Bool) → bytes_eq name last ≡ b → (b || false) ≡ true → P name
    by true e h = subst P (sym (bytes_same name last e)) new
    by false e h = absurd (cc)
in_either name last (x ∷ xs) h P old new = by (bytes_eq name x) h old (λ g f. in_either name last xs g P f new)
  where
    by : (b : Bool) → (b || list_any (bytes_eq name) (xs ++ last ∷ [])) ≡ true → ((b || list_any (bytes_eq name) xs) ≡ true → P name)
        → (list_any (bytes_eq name) (xs ++ last ∷ []) ≡ true → (list_any (bytes_eq name) xs ≡ true → P name) → P name) → P name
    by true h old later = old refl
    by false h old later = later h old

-- one more name that these signals do not have
one_new : (names : List (List ℕ)) (signals : List Signal) (last : List ℕ) → AreNew names signals → is_named signal_name signals last ≡ false
    → AreNew (names_with names (Some last)) signals
one_new names signals last old new = by (list_any (bytes_eq last) names)
  where
    by : (b : Bool) → AreNew (if b then names else names ++ last ∷ []) signals
    by true = old
    by false = λ name h. in_either name last names h (λ n. is_named signal_name signals n ≡ false) (old name) new

-- ** all signals of an entry

-- these names, with the one of an entry
abbrev with_entry : List (List ℕ) → Data → List (List ℕ)
with_entry names d = names_with names (own_name (option_and_then as_str (get (codes "name") d)))

-- a type whose signals are its own, behind some and before others
module _ (all : List GType) (names : TypeNames) (last : ℕ) (first : ℕ → List Signal) (front back : List Signal)
    (has : (own : ℕ → List Signal) → OnlyAt last first own → signals_by all own last ≡ front ++ (own last ++ back)) where
  -- what an entry gave so far: none of the names that are read ahead is among the others'
  pub record AreGiven (ahead : List (List ℕ)) (own : ℕ → List Signal) : Type 0 where
    pub only : OnlyAt last first own
    pub kept : Each IsCanonical (own last)
    pub apart : AreApart signal_name (front ++ back) → AreApart signal_name (front ++ (own last ++ back))
    pub new : AreNew ahead (front ++ back)

  module _ (ahead : List (List ℕ)) (own : ℕ → List Signal) (old : AreGiven ahead own) (d : Data) (s : Signal)
      (is : IsNew (signals_by all own last) d s) where
    itself : add_signal own last (canonical_signal s) last ≡ own last ++ canonical_signal s ∷ []
    itself = ap (λ b. cond b (own last ++ canonical_signal s ∷ []) (own last)) (eq-eqb last last refl)

    unnamed : is_named signal_name (front ++ (own last ++ back)) (canonical s.name) ≡ false
    unnamed =
        subst (λ xs. is_named signal_name xs (canonical s.name) ≡ false) (has own old.only)
        (none_called signal_name 0 (signals_by all own last) (canonical s.name) is.new)

    -- no other signal has the name
    unnamed_beside : is_named signal_name (front ++ back) (canonical s.name) ≡ false
    unnamed_beside =
        let outer = unnamed_parts signal_name front (own last ++ back) (canonical s.name) unnamed in
        unnamed_both signal_name front back (canonical s.name) outer.0
        (unnamed_parts signal_name (own last) back (canonical s.name) outer.1).1

    apart_more : AreApart signal_name (front ++ (own last ++ back))
        → AreApart signal_name (front ++ ((own last ++ canonical_signal s ∷ []) ++ back))
    apart_more apart =
        subst (AreApart signal_name)
        (append_assoc front (own last) (canonical_signal s ∷ back)
        ∙ ap (λ l. front ++ l) (sym (append_assoc (own last) (canonical_signal s ∷ []) back)))
        (apart_between signal_name (front ++ own last) (canonical_signal s) back
        (subst (AreApart signal_name) (sym (append_assoc front (own last) back)) apart)
        (subst (λ xs. is_named signal_name xs (canonical s.name) ≡ false) (sym (append_assoc front (own last) back)) unnamed))

    named_more : AreNew (with_entry ahead d) (front ++ back)
    named_more = subst (λ o. AreNew (names_with ahead (own_name o)) (front ++ back)) (sym is.called) (by (is_property_name s.name))
      where
        by : (b : Bool) → AreNew (names_with ahead (if b then Some (canonical s.name) else None)) (front ++ back)
        by true = one_new ahead (front ++ back) (canonical s.name) old.new unnamed_beside
        by false = old.new

    one_more : AreGiven (with_entry ahead d) (add_signal own last (canonical_signal s))
    one_more = record {
      only = λ u h. ap (λ b. cond b (own u ++ canonical_signal s ∷ []) (own u)) h ∙ old.only u h;
      kept = subst (Each IsCanonical) (sym itself)
          (each_append IsCanonical (own last) (canonical_signal s ∷ []) old.kept (canonical_once s.name, tt));
      apart = λ h. subst (λ own. AreApart signal_name (front ++ (own ++ back))) (sym itself) (apart_more (old.apart h));
      new = named_more;
    }

  next : (path : List ℕ) (ahead : List (List ℕ)) (own changed : ℕ → List Signal) (d : Data) → AreGiven ahead own
      → signal_at path all names last own d ≡ Ok changed
      → AreGiven (with_entry ahead d) changed
  unfolding signal_at
  next path ahead own changed d old e =
      let read = bound (signal_of_entry path all names last (count_by all own last) (signals_by all own last) d)
      (λ s. Ok (add_signal own last (canonical_signal s))) changed e in
      let same : add_signal own last (canonical_signal read.0) ≡ changed = cc in
      let is = subst (OnRead (IsNew (signals_by all own last) d)) read.1
      (entry_new path all names last (count_by all own last) (signals_by all own last) d) in
      subst (AreGiven (with_entry ahead d)) same (one_more ahead own old d read.0 is)

  -- what is read ahead of entries, beside what they give
  each_given : (path : List ℕ) (i : ℕ) (list : Items) (ahead : List (List ℕ)) (own changed : ℕ → List Signal) → AreGiven ahead own
      → each (at_entry (λ entry. signal_at entry all names last) path) i own list ≡ Ok changed
      → (later : List (List ℕ)) × (each (at_entry own_signal_at path) i ahead list ≡ Ok later) × AreGiven later changed
  unfolding each
  each_given path i no_items ahead own changed old e = let is : own ≡ changed = cc in (ahead, refl, subst (AreGiven ahead) is old)
  each_given path i (item d ds) ahead own changed old e =
      let first = bound (signal_at (nth path i) all names last own d)
      (λ t. each (at_entry (λ entry. signal_at entry all names last) path) (i + 1) t ds) changed e in
      each_given path (i + 1) ds (with_entry ahead d) first.0 changed
      (next (nth path i) ahead own first.0 d old first.1) first.2

  pub given_signals : (path : List ℕ) (d : Data) (changed : ℕ → List Signal) → first last ≡ []
      → signals_at path all names last first d ≡ Ok changed
      → (ahead : List (List ℕ)) × (own_signals_ahead path d ≡ Ok ahead) × AreGiven ahead changed
  unfolding signals_at
  given_signals path d changed none e =
      let read = bound (entries_at path d (codes "signals"))
      (λ list. each (at_entry (λ entry. signal_at entry all names last) (under path (codes "signals"))) 0 first list) changed e in
      let list = listed_is (under path (codes "signals")) (get (codes "signals") d) read.0 read.1 in
      let given = each_given (under path (codes "signals")) 0 read.0 [] first changed nothing read.2 in
      (given.0, ap (each (at_entry own_signal_at (under path (codes "signals"))) 0 []) list ∙ given.1, given.2)
    where
      nothing : AreGiven [] first
      nothing = record {
        only = λ u h. refl;
        kept = subst (Each IsCanonical) (sym none) tt;
        apart = subst (λ own. AreApart signal_name (front ++ back) → AreApart signal_name (front ++ (own ++ back))) (sym none) (λ h. h);
        new = λ name h. absurd (cc);
      }
