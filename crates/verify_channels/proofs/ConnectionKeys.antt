-- Connections with the same key may be at the same channels.
use Rattle.std.proofs.Common.{◌≡◌, ◌∙◌, refl, sym, ap, subst, ℕ, zero, suc, ◌<◌, ◌≤◌, Bool, true, false, cond, List, [], ◌∷◌, length, Option, None, Some, slice_get, arith}
use Rattle.std.specs.Prelude.{◌&&◌, nat_eq, nat_lt, option_map}
use Rattle.std.specs.List.{list_any}
use Rattle.std.proofs.lemmas.Bool.{eq-eqb, eqb-true, ltb-true}
use Rattle.std.proofs.lemmas.Bool.Decides.{nat_tests}
use Rattle.std.proofs.lemmas.Option.{none-some, same_Some}
use Rattle.ui_machine.specs.Definition.Kinds.{RegisterKind}
use Rattle.ui_machine.specs.Definition.Kinds as kinds
use Rattle.ui_machine.specs.Definition.{Definition}
use Rattle.ui_machine.specs.Definition.Lookups.{class_of, slot_of, specs_of}
use Rattle.ui_machine.specs.Definition.Names.{canonical, place_from, place_named, same_name}
use Rattle.ui_machine.specs.Definition.Properties.{Spec}
use Rattle.ui_machine.specs.Definition.Signals.{Signal}
use Rattle.ui_machine.specs.Rules.Connections.{signal_number}
use Rattle.ui_machine.specs.Rules.Programs.{is_number}
use Rattle.ui_machine.specs.Words.{notify}
use Rattle.definition_format.specs.Meaning.{IsBasic}
use Rattle.law_typing.specs.Graph.{can_mean, may_be_at, place_of_channel}
use Rattle.law_typing.specs.Graph.Channels.{Channel, constructed, property, signal}
use Rattle.law_typing.specs.Rules.RegisterKinds.{class_at, places}
use Rattle.verify_graph.specs.Numbering.{Key}
use Rattle.verify_starts.specs.Triggers.{member_key}
use Rattle.verify_starts.proofs.Names.{found_name, name_in}
use Rattle.verify_channels.specs.Connected.{connection_key, connection_over, detail_key, place_key}

-- ** names

same_name_refl : (xs : List ℕ) → same_name xs xs ≡ true
same_name_refl [] = refl
same_name_refl (x ∷ xs) = ap (λ b. cond b (same_name xs xs) false) (eq-eqb x x refl) ∙ same_name_refl xs

module _ (d : Definition) where
  -- by canonical names
  abbrev signal_named : ℕ → List ℕ → Option ℕ
  signal_named class name = place_named (λ (s : Signal). s.name) (class_of d class).signals name

  abbrev slot_named : ℕ → List ℕ → Option ℕ
  slot_named class name = place_named (λ (s : Spec). s.name) (specs_of d class) name

  abbrev detail_means : ℕ → ℕ → Option (List ℕ) → Bool
  detail_means class slot None = true
  detail_means class slot (Some detail) = is_number slot (slot_named class detail)

  abbrev means : ℕ → Channel → List ℕ → Option (List ℕ) → Bool
  means class (constructed place) name detail = false
  means class (property place slot) name detail = is_number 0 (signal_named class name) && detail_means class slot detail
  means class (signal place number) name detail = is_number number (signal_named class name)

  means_is : (class : ℕ) (c : Channel) (name : List ℕ) (detail : Option (List ℕ)) → can_mean d class c name detail ≡ means class c (canonical name) (option_map canonical detail)
  means_is class (constructed place) name detail = refl
  means_is class (property place slot) name None = refl
  means_is class (property place slot) name (Some detail) = refl
  means_is class (signal place number) name detail = refl

  abbrev signal_name : ℕ → ℕ → List ℕ
  signal_name class n = name_in (λ (s : Signal). s.name) (slice_get (class_of d class).signals n)

  abbrev property_name : ℕ → ℕ → List ℕ
  property_name class n = name_in (λ (s : Spec). s.name) (slice_get (specs_of d class) n)

  -- a class with signals is there
  there_of : IsBasic d → (class n : ℕ) (s : Signal) → slice_get (class_of d class).signals n ≡ Some s → class < length d.types
  there_of basic class n s is = by (nat_lt class (length d.types)) refl
    where
      by : (b : Bool) → nat_lt class (length d.types) ≡ b → class < length d.types
      by true e = ltb-true class (length d.types) e
      by false e =
          let behind : length d.types ≤ class = grind (arith, nat_tests) in
          absurd (none-some s (sym (ap (λ xs. slice_get xs n) (basic.unknown_signals class behind)) ∙ is))

  -- what has another number than `notify` in one class is `notify` in none
  first_is_other : (ss : List Signal) (name : List ℕ) (m : ℕ) (first : Signal) → slice_get ss 0 ≡ Some first → place_named (λ (s : Signal). s.name) ss name ≡ Some (suc m) →
      same_name first.name name ≡ false
  first_is_other [] name m first is found = absurd (none-some first is)
  first_is_other (s ∷ ss) name m first is found = by (same_name s.name name) refl found
    where
      by : (b : Bool) → same_name s.name name ≡ b → cond b (Some 0) (place_from (λ (s : Signal). s.name) 1 ss name) ≡ Some (suc m) → same_name first.name name ≡ false
      by true e h = absurd (let z : 0 ≡ suc m = same_Some _ _ h in omega (arith, z))
      by false e h = subst (λ (x : Signal). same_name x.name name ≡ false) (same_Some _ _ is) e

  some_signal : (ss : List Signal) (name : List ℕ) (n i : ℕ) → place_from (λ (s : Signal). s.name) i ss name ≡ Some n → (s : Signal) × (slice_get ss 0 ≡ Some s)
  some_signal [] name n i found = absurd (none-some n found)
  some_signal (s ∷ ss) name n i found = (s, refl)

  pub other_signal : IsBasic d → (type class m : ℕ) (name : List ℕ) → signal_named type name ≡ Some (suc m) → is_number 0 (signal_named class name) ≡ false
  other_signal basic type class m name found = by (signal_named class name) refl
    where
      first_of : (t n : ℕ) → signal_named t name ≡ Some n → slice_get (class_of d t).signals 0 ≡ Some notify
      first_of t n e = let s = some_signal (class_of d t).signals name n 0 e in basic.first_signal t (there_of basic t 0 s.0 s.1)

      apart : same_name notify.name name ≡ false
      apart = first_is_other (class_of d type).signals name m notify (first_of type (suc m) found) found

      by : (o : Option ℕ) → signal_named class name ≡ o → is_number 0 o ≡ false
      by None e = refl
      by (Some zero) e =
          let named : notify.name ≡ name = sym (ap (name_in (λ (s : Signal). s.name)) (first_of class 0 e)) ∙ found_name (λ (s : Signal). s.name) name (class_of d class).signals 0 e in
          let same : same_name notify.name name ≡ true = ap (same_name notify.name) (sym named) ∙ same_name_refl notify.name in
          let other : same_name notify.name name ≡ false = apart in
          absurd (cc)
      by (Some (suc n)) e = more (nat_eq (suc n) 0) refl
        where
          more : (b : Bool) → nat_eq (suc n) 0 ≡ b → b ≡ false
          more true h = absurd (let z = eqb-true (suc n) 0 h in omega (arith, z))
          more false h = refl

  -- a detail does not count there
  any_detail : IsBasic d → (type class m : ℕ) (name : List ℕ) (c : Channel) (detail : Option (List ℕ)) → signal_named type name ≡ Some (suc m) →
      means class c name detail ≡ means class c name None
  any_detail basic type class m name (constructed place) detail found = refl
  any_detail basic type class m name (property place slot) detail found =
      let none = other_signal basic type class m name found in
      ap (λ b. b && detail_means class slot detail) none ∙ sym (ap (λ b. b && true) none)
  any_detail basic type class m name (signal place number) detail found = refl

  -- ** keys

  -- the channels that a key means, by its sort: those over a kind, of a signal of this class
  abbrev decoded : (sort : ℕ) → RegisterKind → (type n class : ℕ) → Channel → Bool
  decoded zero kind type n class c = list_any (nat_eq (place_of_channel c)) (places d kind) && means class c (signal_name type n) None
  decoded (suc sort) kind type n class c = list_any (nat_eq (place_of_channel c)) (places d kind) && means class c (signal_name type 0) (Some (property_name type n))

  abbrev over : RegisterKind → Channel → Bool
  over kind c = list_any (nat_eq (place_of_channel c)) (places d kind)

  named : (type n : ℕ) (name : List ℕ) → signal_number d type name ≡ Some n → canonical name ≡ signal_name type n
  named type n name found = sym (found_name (λ (s : Signal). s.name) (canonical name) (class_of d type).signals n found)

  -- a key of a signal of a class, where `out` has what keys with its sort and the next one mean
  by_signal : IsBasic d → (kind : RegisterKind) (x sort type : ℕ) (name : List ℕ) (class : ℕ) (c : Channel) (out : Key → Bool) →
      ((n : ℕ) → out (x, sort, n) ≡ decoded 0 kind type n class c) → ((n : ℕ) → out (x, suc sort, n) ≡ decoded 1 kind type n class c) →
      (k : Key) (o : Option ℕ) → signal_number d type name ≡ o → (detail : Option (List ℕ)) → detail_key d x sort o type detail ≡ Some k →
      (over kind c && can_mean d class c name detail) ≡ out k
  by_signal basic kind x sort type name class c out plain slotted k None found detail is = absurd (none-some k is)
  by_signal basic kind x sort type name class c out plain slotted k (Some zero) found None is =
      let same : (x, sort, 0) ≡ k = same_Some _ _ is in
      subst (λ (j : Key). (over kind c && can_mean d class c name None) ≡ out j) same
      (ap (λ b. over kind c && b) (means_is class c name None ∙ ap (λ nm. means class c nm None) (named type 0 name found)) ∙ sym (plain 0))
  by_signal basic kind x sort type name class c out plain slotted k (Some zero) found (Some text) is = slot (slot_of d type text) refl is
    where
      slot : (o : Option ℕ) → slot_of d type text ≡ o → member_key x (suc sort) o ≡ Some k → (over kind c && can_mean d class c name (Some text)) ≡ out k
      slot None at is = absurd (none-some k is)
      slot (Some n) at is =
          let same : (x, suc sort, n) ≡ k = same_Some _ _ is in
          let text_is : canonical text ≡ property_name type n = sym (found_name (λ (s : Spec). s.name) (canonical text) (specs_of d type) n at) in
          subst (λ (j : Key). (over kind c && can_mean d class c name (Some text)) ≡ out j) same
          (ap (λ b. over kind c && b)
          (means_is class c name (Some text)
          ∙ (ap (λ nm. means class c nm (Some (canonical text))) (named type 0 name found) ∙ ap (λ t. means class c (signal_name type 0) (Some t)) text_is))
          ∙ sym (slotted n))
  by_signal basic kind x sort type name class c out plain slotted k (Some (suc m)) found detail is =
      let same : (x, sort, suc m) ≡ k = same_Some _ _ is in
      subst (λ (j : Key). (over kind c && can_mean d class c name detail) ≡ out j) same
      (ap (λ b. over kind c && b)
      (means_is class c name detail
      ∙ (any_detail basic type class m (canonical name) c (option_map canonical detail) found ∙ ap (λ nm. means class c nm None) (named type (suc m) name found)))
      ∙ sym (plain (suc m)))

  abbrev type_of : Option ℕ → ℕ
  type_of None = 0
  type_of (Some class) = class

  -- what a key means
  abbrev sorted : (sort x n class : ℕ) → Channel → Bool
  sorted zero x n class c = decoded 0 (kinds.some x) x n class c
  sorted (suc zero) x n class c = decoded 1 (kinds.some x) x n class c
  sorted (suc (suc zero)) x n class c = decoded 0 (kinds.at x) (type_of (class_at d x)) n class c
  sorted (suc (suc (suc m))) x n class c = decoded 1 (kinds.at x) (type_of (class_at d x)) n class c

  by_key : IsBasic d → (kind : RegisterKind) (name : List ℕ) (detail : Option (List ℕ)) (k : Key) → connection_key d kind name detail ≡ Some k →
      (class : ℕ) (c : Channel) → (over kind c && can_mean d class c name detail) ≡ sorted k.1 k.0 k.2 class c
  by_key basic (kinds.some type) name detail k is class c =
      by_signal basic (kinds.some type) type 0 type name class c (λ (j : Key). sorted j.1 j.0 j.2 class c) (λ n. refl) (λ n. refl) k (signal_number d type name) refl detail is
  by_key basic (kinds.at place) name detail k is class c = at_place (class_at d place) refl is
    where
      at_place : (o : Option ℕ) → class_at d place ≡ o → place_key d place o name detail ≡ Some k → (over (kinds.at place) c && can_mean d class c name detail) ≡ sorted k.1 k.0 k.2 class c
      at_place None here is = absurd (none-some k is)
      at_place (Some type) here is =
          by_signal basic (kinds.at place) place 2 type name class c (λ (j : Key). sorted j.1 j.0 j.2 class c)
          (λ n. ap (λ (o : Option ℕ). decoded 0 (kinds.at place) (type_of o) n class c) here) (λ n. ap (λ (o : Option ℕ). decoded 1 (kinds.at place) (type_of o) n class c) here)
          k (signal_number d type name) refl detail is
  by_key basic kinds.unset name detail k is class c = absurd (none-some k is)
  by_key basic (kinds.plain kind) name detail k is class c = absurd (none-some k is)
  by_key basic (kinds.at_or_null place) name detail k is class c = absurd (none-some k is)

  -- connections with keys that agree may be at the same channels
  pub same_channels : IsBasic d → (one two : RegisterKind) (name other : List ℕ) (detail text : Option (List ℕ)) (p q : Option ℕ) (k j : Key) →
      connection_key d one name detail ≡ Some k → connection_key d two other text ≡ Some j → k.0 ≡ j.0 → k.1 ≡ j.1 → k.2 ≡ j.2 →
      (class : ℕ) (c : Channel) → may_be_at d c class (connection_over d one name detail p) ≡ may_be_at d c class (connection_over d two other text q)
  same_channels basic one two name other detail text p q k j is also x sort n class c =
      by_key basic one name detail k is class c
      ∙ (ap (λ s. sorted s k.0 k.2 class c) sort
      ∙ (ap (λ y. sorted j.1 y k.2 class c) x ∙ (ap (λ m. sorted j.1 j.0 m class c) n ∙ sym (by_key basic two other text j also class c))))
