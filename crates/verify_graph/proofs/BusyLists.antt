-- Lists of busy channels that are put together one after the other.
use Rattle.std.proofs.Common.{◌≡◌, ◌∙◌, refl, sym, ap, subst, ℕ, zero, suc, ◌+◌, ◌<◌, ◌≤◌, Bool, true, false, cond, List, [], ◌∷◌, ◌++◌, length, map, drop, Option, None, Some, option_map, append_assoc, arith}
use Rattle.std.specs.Prelude.{◌||◌}
use Rattle.std.specs.List.{filter, flat_map}
use Rattle.std.proofs.lemmas.List.Elements.{filter-append}
use Rattle.std.proofs.lemmas.Option.{same_Some}
use Rattle.ui_machine.specs.Seq.{read}
use Rattle.ui_machine.specs.Definition.{Definition}
use Rattle.ui_machine.specs.Definition.Lookups.{class_of, place_at, specs_of}
use Rattle.ui_machine.specs.Definition.Places.{Attached, Place}
use Rattle.ui_machine.specs.Definition.Properties.{Spec, is_readable}
use Rattle.ui_machine.specs.Definition.Signals.{Signal}
use Rattle.ui_machine.specs.Rules.Construction.{constructed_runs}
use Rattle.law_typing.specs.Graph.{attached_to, signals_of}
use Rattle.law_typing.specs.Graph.Channels.{Channel, channels_at, constructed, emitted_at, is_filled, programs_of, property, readable_from, signal, signals_from}
use Rattle.law_typing.specs.Rules.RegisterKinds.{class_at, place_numbers}
use Rattle.law_idle.specs.Idle.{busy_channels, is_busy, is_busy_at, is_named, is_used, signals_attached}
use Rattle.verify_graph.specs.Busy.{AreUsed, Marks}
use Rattle.verify_graph.specs.ChannelView.{constructed_if}
use Rattle.verify_graph.proofs.ChannelLists.{at_class, nowhere}

-- ** all but signals

module _ (d : Definition) where
  kept_constructed : (place class : ℕ) → filter (is_busy d) (constructed_if d place class) ≡ constructed_if d place class
  kept_constructed place class = by (is_filled (programs_of (constructed_runs d class)))
    where
      by : (b : Bool) → filter (is_busy d) (cond b (constructed place ∷ []) []) ≡ cond b (constructed place ∷ []) []
      by true = refl
      by false = refl

  kept_readable : (place slot : ℕ) (specs : List Spec) → filter (is_busy d) (readable_from place slot specs) ≡ readable_from place slot specs
  kept_readable place slot [] = refl
  kept_readable place slot (s ∷ specs) = by (is_readable s) (kept_readable place (suc slot) specs)
    where
      by : (b : Bool) → filter (is_busy d) (readable_from place (suc slot) specs) ≡ readable_from place (suc slot) specs →
          filter (is_busy d) (cond b (property place slot ∷ []) [] ++ readable_from place (suc slot) specs) ≡ cond b (property place slot ∷ []) [] ++ readable_from place (suc slot) specs
      by true later = ap (λ cs. property place slot ∷ cs) later
      by false later = later

  -- the busy channels of a place
  pub busy_there : (place class : ℕ) → Some class ≡ class_at d place →
      constructed_if d place class ++ (readable_from place 0 (specs_of d class) ++ filter (is_busy d) (emitted_at place (class_of d class).signals))
      ≡ filter (is_busy d) (channels_at d place)
  busy_there place class is =
      let emitted = emitted_at place (class_of d class).signals in
      let readable = readable_from place 0 (specs_of d class) in
      ap (λ cs. cs ++ (readable ++ filter (is_busy d) emitted)) (sym (kept_constructed place class))
      ∙ (ap (λ cs. filter (is_busy d) (constructed_if d place class) ++ (cs ++ filter (is_busy d) emitted)) (sym (kept_readable place 0 (specs_of d class)))
      ∙ (ap (λ cs. filter (is_busy d) (constructed_if d place class) ++ cs) (sym (filter-append (is_busy d) readable emitted))
      ∙ (sym (filter-append (is_busy d) (constructed_if d place class) (readable ++ emitted))
      ∙ ap (filter (is_busy d)) (at_class d place class is))))

  pub none_there : (place : ℕ) → None ≡ class_at d place → filter (is_busy d) (channels_at d place) ≡ []
  none_there place is = ap (filter (is_busy d)) (nowhere d place is)

  -- one signal more
  pub one_kept : (place number : ℕ) (more : List Channel) (b : Bool) → b ≡ is_busy d (signal place number) →
      filter (is_busy d) (signal place number ∷ more) ≡ cond b (signal place number ∷ []) [] ++ filter (is_busy d) more
  one_kept place number more b is = ap (λ x. cond x (signal place number ∷ filter (is_busy d) more) (filter (is_busy d) more)) (sym is) ∙ by b
    where
      by : (x : Bool) → cond x (signal place number ∷ filter (is_busy d) more) (filter (is_busy d) more) ≡ cond x (signal place number ∷ []) [] ++ filter (is_busy d) more
      by true = refl
      by false = refl

  -- the signals of a place that are marked are busy
  pub marked_busy : (place : ℕ) (p : Place) (used marks : List Bool) → Some p ≡ place_at d place → AreUsed d p.class used →
      Marks d p.class (signals_attached p.signals) used marks → (n : ℕ) → read false marks n ≡ is_busy d (signal place n)
  marked_busy place p used marks is known more n =
      more n
      ∙ (ap (λ b. b || is_named d (signals_attached p.signals) p.class n) (known n)
      ∙ (ap (λ (o : Option Place). of_class (option_map (λ (q : Place). q.class) o) (signals_of o)) is ∙ same (class_at d place)))
    where
      of_class : Option ℕ → List Attached → Bool
      of_class None signals = true
      of_class (Some class) signals = is_used d class n || is_named d (signals_attached signals) class n

      same : (o : Option ℕ) → of_class o (attached_to d place) ≡ is_busy_at d place n o
      same None = refl
      same (Some class) = refl

  -- ** places

  pub busy_flat : (places : List ℕ) → filter (is_busy d) (flat_map (channels_at d) places) ≡ flat_map (λ place. filter (is_busy d) (channels_at d place)) places
  busy_flat [] = refl
  busy_flat (place ∷ places) =
      filter-append (is_busy d) (channels_at d place) (flat_map (channels_at d) places)
      ∙ ap (λ cs. filter (is_busy d) (channels_at d place) ++ cs) (busy_flat places)
