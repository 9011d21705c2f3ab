-- Triggers with the same key start the same.
use Rattle.std.proofs.Common.{◌≡◌, ◌∙◌, refl, sym, ap, subst, ℕ, zero, suc, List, Option, None, Some, slice_get}
use Rattle.std.specs.List.{filter_map}
use Rattle.std.proofs.lemmas.Option.{none-some, same_Some}
use Rattle.ui_machine.specs.Definition.Kinds.{RegisterKind}
use Rattle.ui_machine.specs.Definition.Kinds as kinds
use Rattle.ui_machine.specs.Definition.{Definition}
use Rattle.ui_machine.specs.Definition.Lookups.{class_of, slot_of, specs_of}
use Rattle.ui_machine.specs.Definition.Names.{canonical, place_named}
use Rattle.ui_machine.specs.Definition.Properties.{Spec}
use Rattle.ui_machine.specs.Definition.Signals.{Signal}
use Rattle.ui_machine.specs.Rules.Connections.{signal_number}
use Rattle.law_typing.specs.Graph.{channel_over, making_of, number_for}
use Rattle.law_typing.specs.Graph.Channels.{Channel, property, signal}
use Rattle.law_typing.specs.Rules.RegisterKinds.{class_at, places}
use Rattle.verify_sketches.specs.Sketches.{SketchedStart}
use Rattle.verify_sketches.specs.Sketches as sketched
use Rattle.verify_graph.specs.Numbering.{Key}
use Rattle.verify_graph.specs.Numbers.{numbers_of}
use Rattle.verify_starts.specs.Triggers.{Trigger, idle, key_for, making, making_key, member_key, on_property, on_signal, start_for, thaw_key, thawing}
use Rattle.verify_starts.proofs.Names.{found_name, name_in}

module _ (d : Definition) (all : List Channel) where
  -- the properties of a name over what a kind covers
  abbrev properties : RegisterKind → List ℕ → SketchedStart
  properties kind name =
      sketched.raises (numbers_of all (filter_map (channel_over d (λ class. place_named (λ (s : Spec). s.name) (specs_of d class) name) property) (places d kind)))

  abbrev signals : RegisterKind → List ℕ → SketchedStart
  signals kind name =
      sketched.raises (numbers_of all (filter_map (channel_over d (λ class. place_named (λ (s : Signal). s.name) (class_of d class).signals name) signal) (places d kind)))

  -- the name of a property of a class, if there is one
  abbrev property_name : ℕ → Option ℕ → List ℕ
  property_name n None = name_in (λ (s : Spec). s.name) None
  property_name n (Some class) = name_in (λ (s : Spec). s.name) (slice_get (specs_of d class) n)

  abbrev signal_name : ℕ → Option ℕ → List ℕ
  signal_name n None = name_in (λ (s : Signal). s.name) None
  signal_name n (Some class) = name_in (λ (s : Signal). s.name) (slice_get (class_of d class).signals n)

  -- what a key means, by its sort
  abbrev decoded : (sort x n : ℕ) → SketchedStart
  decoded zero x n = properties (kinds.some x) (property_name n (Some x))
  decoded (suc zero) x n = properties (kinds.at x) (property_name n (class_at d x))
  decoded (suc (suc zero)) x n = signals (kinds.some x) (signal_name n (Some x))
  decoded (suc (suc (suc zero))) x n = signals (kinds.at x) (signal_name n (class_at d x))
  decoded (suc (suc (suc (suc zero)))) x n = sketched.makes (numbers_of all (making_of d (Some x)))
  decoded (suc (suc (suc (suc (suc zero))))) x n = sketched.thaws (places d (kinds.some x))
  decoded (suc (suc (suc (suc (suc (suc m)))))) x n = sketched.thaws (places d (kinds.at x))

  abbrev decoded_key : Key → SketchedStart
  decoded_key k = decoded k.1 k.0 k.2

  member_is : (x sort : ℕ) (o : Option ℕ) (k : Key) (start : SketchedStart) → ((n : ℕ) → o ≡ Some n → start ≡ decoded sort x n) → member_key x sort o ≡ Some k →
      start ≡ decoded_key k
  member_is x sort None k start named is = absurd (none-some k is)
  member_is x sort (Some n) k start named is =
      let same : (x, sort, n) ≡ k = same_Some _ _ is in
      subst (λ (j : Key). start ≡ decoded_key j) same (named n refl)

  property_at : (place n : ℕ) (name : List ℕ) (o : Option ℕ) → number_for (λ class. slot_of d class name) o ≡ Some n → canonical name ≡ property_name n o
  property_at place n name None is = absurd (none-some n is)
  property_at place n name (Some class) is = sym (found_name (λ (s : Spec). s.name) (canonical name) (specs_of d class) n is)

  signal_at : (place n : ℕ) (name : List ℕ) (o : Option ℕ) → number_for (λ class. signal_number d class name) o ≡ Some n → canonical name ≡ signal_name n o
  signal_at place n name None is = absurd (none-some n is)
  signal_at place n name (Some class) is = sym (found_name (λ (s : Signal). s.name) (canonical name) (class_of d class).signals n is)

  of_property : (kind : RegisterKind) (name : List ℕ) (k : Key) → key_for d (on_property kind name) ≡ Some k → properties kind (canonical name) ≡ decoded_key k
  of_property (kinds.some type) name k is =
      member_is type 0 (slot_of d type name) k (properties (kinds.some type) (canonical name))
      (λ n found. ap (properties (kinds.some type)) (property_at 0 n name (Some type) found)) is
  of_property (kinds.at place) name k is =
      member_is place 1 (number_for (λ class. slot_of d class name) (class_at d place)) k (properties (kinds.at place) (canonical name))
      (λ n found. ap (properties (kinds.at place)) (property_at place n name (class_at d place) found)) is
  of_property kinds.unset name k is = absurd (none-some k is)
  of_property (kinds.plain kind) name k is = absurd (none-some k is)
  of_property (kinds.at_or_null place) name k is = absurd (none-some k is)

  of_signal : (kind : RegisterKind) (name : List ℕ) (k : Key) → key_for d (on_signal kind name) ≡ Some k → signals kind (canonical name) ≡ decoded_key k
  of_signal (kinds.some type) name k is =
      member_is type 2 (signal_number d type name) k (signals (kinds.some type) (canonical name))
      (λ n found. ap (signals (kinds.some type)) (signal_at 0 n name (Some type) found)) is
  of_signal (kinds.at place) name k is =
      member_is place 3 (number_for (λ class. signal_number d class name) (class_at d place)) k (signals (kinds.at place) (canonical name))
      (λ n found. ap (signals (kinds.at place)) (signal_at place n name (class_at d place) found)) is
  of_signal kinds.unset name k is = absurd (none-some k is)
  of_signal (kinds.plain kind) name k is = absurd (none-some k is)
  of_signal (kinds.at_or_null place) name k is = absurd (none-some k is)

  of_making : (place : Option ℕ) (k : Key) → making_key place ≡ Some k → sketched.makes (numbers_of all (making_of d place)) ≡ decoded_key k
  of_making None k is = absurd (none-some k is)
  of_making (Some place) k is =
      let same : (place, 4, 0) ≡ k = same_Some _ _ is in
      subst (λ (j : Key). sketched.makes (numbers_of all (making_of d (Some place))) ≡ decoded_key j) same refl

  of_thaw : (kind : RegisterKind) (k : Key) → thaw_key kind ≡ Some k → sketched.thaws (places d kind) ≡ decoded_key k
  of_thaw (kinds.some type) k is =
      let same : (type, 5, 0) ≡ k = same_Some _ _ is in
      subst (λ (j : Key). sketched.thaws (places d (kinds.some type)) ≡ decoded_key j) same refl
  of_thaw (kinds.at place) k is =
      let same : (place, 6, 0) ≡ k = same_Some _ _ is in
      subst (λ (j : Key). sketched.thaws (places d (kinds.at place)) ≡ decoded_key j) same refl
  of_thaw kinds.unset k is = absurd (none-some k is)
  of_thaw (kinds.plain kind) k is = absurd (none-some k is)
  of_thaw (kinds.at_or_null place) k is = absurd (none-some k is)

  by_key : (t : Trigger) (k : Key) → key_for d t ≡ Some k → start_for d all t ≡ decoded_key k
  by_key idle k is = absurd (none-some k is)
  by_key (on_property kind name) k is = of_property kind name k is
  by_key (on_signal kind name) k is = of_signal kind name k is
  by_key (making place) k is = of_making place k is
  by_key (thawing kind) k is = of_thaw kind k is

  -- two triggers with keys that agree
  pub same_start : (t u : Trigger) (k j : Key) → key_for d t ≡ Some k → key_for d u ≡ Some j → k.0 ≡ j.0 → k.1 ≡ j.1 → k.2 ≡ j.2 →
      start_for d all t ≡ start_for d all u
  same_start t u k j is also x sort n =
      by_key t k is
      ∙ (ap (λ s. decoded s k.0 k.2) sort ∙ (ap (λ y. decoded j.1 y k.2) x ∙ (ap (λ m. decoded j.1 j.0 m) n ∙ sym (by_key u j also))))
