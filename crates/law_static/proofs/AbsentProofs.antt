-- A channel that is not there costs nothing: it is in no table, and in no pair.
use Rattle.std.proofs.Common.{◌≡◌, refl, sym, ap, ◌∙◌, ℕ, suc, ◌+◌, ◌<◌, Bool, true, false, cond, List, [], ◌∷◌, ◌++◌, length, map, Option, None, Some, arith, lt-ltb}
use Rattle.std.specs.Prelude.{◌&&◌, nat_lt}
use Rattle.std.specs.List.{filter}
use Rattle.ui_machine.specs.Definition.{Definition}
use Rattle.ui_machine.specs.Definition.Signals.{Signal}
use Rattle.ui_machine.specs.Definition.Places.{Bind}
use Rattle.law_typing.specs.Rules.RegisterKinds.{place_numbers}
use Rattle.law_typing.specs.Rules.BindingRules.{word_of}
use Rattle.law_typing.specs.Graph.Channels.{Channel, constructed, same_channel, constructed_at, signals_at, readable_at, signals_from, emitted_at, is_filled, channels_at, channels, is_channel, is_pair, source_of, target_of}
use Rattle.law_typing.specs.Rules.Sites.{sites}
use Rattle.law_typing.specs.Graph.{Raised, graph, raised_at, connections, is_before, in_order, pairs_of}
use Rattle.law_typing.specs.Graph.Tables.{entry}
use Rattle.law_typing.specs.Graph.Costs.{other_end_in, other_end, with_other, channel_cost}
use Rattle.law_typing.specs.Verdict.Accepted.{Each}
use Rattle.law_typing.proofs.Lists.{same_channel_true, each_append, each_flat}
use Rattle.law_typing.proofs.EdgeProofs.{readable_there}
use Rattle.law_typing.proofs.PairProofs.{PairRead, no_words, pair_read}
use Rattle.law_static.specs.MakingCost.{AbsentCostsNothing}

module _ (d : Definition) where
  abbrev There : Channel → Type 0
  There c = is_channel d c ≡ true

  -- ** each channel of the graph is there

  emitted_each : (place n : ℕ) (signals : List Signal) → 0 < n → n + length signals ≡ length (signals_at d place) → Each There (signals_from place n signals)
  emitted_each place n [] some long = tt
  emitted_each place n (s ∷ signals) some long = (
    ap (λ b. b && nat_lt n (length (signals_at d place))) (lt-ltb 0 n some) ∙ lt-ltb n (length (signals_at d place)) (omega (arith, long)),
    emitted_each place (suc n) signals (omega arith) (omega (arith, long)),
  )

  emitted_there : (place : ℕ) (signals : List Signal) → length signals ≡ length (signals_at d place) → Each There (emitted_at place signals)
  emitted_there place [] long = tt
  emitted_there place (s ∷ signals) long = emitted_each place 1 signals (omega arith) (omega (arith, long))

  filled_there : (place : ℕ) → Each There (cond (is_filled (constructed_at d place)) (constructed place ∷ []) [])
  filled_there place = go (is_filled (constructed_at d place)) refl
    where
      go : (b : Bool) → is_filled (constructed_at d place) ≡ b → Each There (cond b (constructed place ∷ []) [])
      go true e = (e, tt)
      go false e = tt

  pub all_there : Each There (channels d)
  all_there =
      each_flat There (channels_at d) (place_numbers d)
      (λ place h.
      each_append There (cond (is_filled (constructed_at d place)) (constructed place ∷ []) [])
      (readable_at d place ++ emitted_at place (signals_at d place)) (filled_there place)
      (each_append There (readable_at d place) (emitted_at place (signals_at d place))
      (readable_there d place) (emitted_there place (signals_at d place) refl)))

  -- ** what is not there is in no table

  pub no_entry : (f : Raised → ℕ) (cs : List Channel) (c : Channel) → Each There cs → is_channel d c ≡ false →
      entry (map (λ (r : Raised). (r.channel, f r)) (map (raised_at d (connections d (sites d))) cs)) c ≡ 0
  no_entry f [] c all e = refl
  no_entry f (x ∷ cs) c all e = go (same_channel x c) refl (no_entry f cs c all.1 e)
    where
      Rest : ℕ
      Rest = entry (map (λ (r : Raised). (r.channel, f r)) (map (raised_at d (connections d (sites d))) cs)) c

      go : (b : Bool) → same_channel x c ≡ b → Rest ≡ 0 → cond b (f (raised_at d (connections d (sites d)) x)) Rest ≡ 0
      go true t later = absurd (let s = same_channel_true x c t in let h = sym (ap (is_channel d) s) ∙ all.0 in let k = sym e ∙ h in cc)
      go false t later = later

  -- ** nor in a pair

  pub end_there : (xs : List Bind) (c e : Channel) → Each (λ b. word_of d b ≡ None) xs → other_end_in (pairs_of xs) c ≡ Some e → is_channel d c ≡ true
  end_there [] c e words is = absurd (cc)
  end_there (x ∷ xs) c e words is = go (is_pair x) refl is (λ is. end_there xs c e words.1 is)
    where
      at : (p q : Channel) → There p → There q → (a b : Bool) → same_channel p c ≡ a → same_channel q c ≡ b → cond a (Some q) (cond b (Some p) (other_end_in (pairs_of xs) c)) ≡ Some e →
          (other_end_in (pairs_of xs) c ≡ Some e → is_channel d c ≡ true) → is_channel d c ≡ true
      at p q p_there q_there true b s t is later = ap (is_channel d) (sym (same_channel_true p c s)) ∙ p_there
      at p q p_there q_there false true s t is later = ap (is_channel d) (sym (same_channel_true q c t)) ∙ q_there
      at p q p_there q_there false false s t is later = later is

      ends : PairRead d x → There (in_order (source_of x) (target_of x)).0 × There (in_order (source_of x) (target_of x)).1
      ends r = by (is_before (target_of x) (source_of x))
        where
          by : (b : Bool) → There (cond {A = Channel × Channel} b (target_of x, source_of x) (source_of x, target_of x)).0 × There (cond {A = Channel × Channel} b (target_of x, source_of x) (source_of x, target_of x)).1
          by true = (r.target, r.source)
          by false = (r.source, r.target)

      go : (p : Bool) → is_pair x ≡ p → other_end_in (map (λ b. in_order (source_of b) (target_of b)) (cond p (x ∷ filter is_pair xs) (filter is_pair xs))) c ≡ Some e →
          (other_end_in (pairs_of xs) c ≡ Some e → is_channel d c ≡ true) → is_channel d c ≡ true
      go true pair is later =
          let t = ends (pair_read d x pair words.0) in
          at (in_order (source_of x) (target_of x)).0 (in_order (source_of x) (target_of x)).1 t.0 t.1 (same_channel (in_order (source_of x) (target_of x)).0 c)
          (same_channel (in_order (source_of x) (target_of x)).1 c) refl refl is later
      go false pair is later = later is

pub absent_costs_nothing : AbsentCostsNothing
absent_costs_nothing d a c absent = go (other_end (graph d) c) refl
  where
    none : entry a.weighed.costs.channels c ≡ 0
    none = ap (λ t. entry t c) a.weighed.solves_costs.channels ∙ no_entry d (channel_cost (graph d) a.weighed.costs) (channels d) c (all_there d) absent

    go : (o : Option Channel) → other_end (graph d) c ≡ o → with_other a.weighed.costs (entry a.weighed.costs.channels c) o ≡ 0
    go None e = none
    go (Some other) e = absurd (let h = end_there d d.bindings c other (no_words d 0 d.bindings a.bindings) e in let k = sym absent ∙ h in cc)
