-- The numbers of all channels are those of the busy ones, and those of idle ones.
use Rattle.std.proofs.Common.{◌≡◌, inl, inr, refl, sym, ap, ◌∙◌, ℕ, zero, suc, ◌+◌, ◌≤◌, min, Bool, true, false, cond, List, [], ◌∷◌, map, Option, None, Some, slice_get, arith}
use Rattle.std.specs.List.{filter}
use Rattle.std.proofs.lemmas.Option.{none-some, same_Some}
use Rattle.ui_machine.specs.Seq.{read}
use Rattle.ui_machine.specs.Definition.{Definition}
use Rattle.law_typing.specs.Graph.{Raised, connections, graph, raised_at}
use Rattle.law_typing.specs.Graph.Channels.{Channel, channels, same_channel}
use Rattle.law_typing.specs.Graph.Channels as entries
use Rattle.law_typing.specs.Graph.Costs.{bound}
use Rattle.law_typing.specs.Graph.Ranks.{is_raised, node}
use Rattle.law_typing.specs.Graph.Tables.{entry}
use Rattle.law_typing.specs.Laws.{IsIn}
use Rattle.law_typing.specs.Laws.Capped.{capped}
use Rattle.law_typing.specs.Rules.Sites.{sites}
use Rattle.law_typing.proofs.Lists.{any_true, filter_in, map_in, same_channel_refl}
use Rattle.law_typing.proofs.OneSolutionProofs.{filtered_kept, map_same}
use Rattle.law_idle.specs.Idle.{busy_channels, busy_graph, is_busy}
use Rattle.verify_graph.specs.Numbers.{number_of}
use Rattle.verify_graph.proofs.Positions.{found_is, is_found}
use Rattle.law_typing.specs.Verdict.{most_bound}
use Rattle.ui_verifier.specs.Bounds.{AddsIdle}
use Rattle.verified.specs.Told.{value_among, value_at}
use Rattle.verified.specs.declared.numbers.Numbers.{Numbers}

-- ** numbers of channels

-- what is in a list has a place in it
placed : (cs : List Channel) (c : Channel) → IsIn c cs → (n : ℕ) × (slice_get cs n ≡ Some c)
placed [] c h = absurd h
placed (e ∷ cs) c (inl s) = (0, ap Some (sym s))
placed (e ∷ cs) c (inr h) = let p = placed cs c h in (suc p.0, p.1)

-- what has a place in a list is in it
pub stands : (cs : List Channel) (n : ℕ) (c : Channel) → slice_get cs n ≡ Some c → IsIn c cs
stands [] n c is = absurd (none-some c is)
stands (e ∷ cs) zero c is = inl (sym (same_Some _ _ is))
stands (e ∷ cs) (suc n) c is = inr (stands cs n c is)

read_mapped : {A : Type 0} (f : Channel → A) (idle : A) (cs : List Channel) (n : ℕ) (c : Channel) → slice_get cs n ≡ Some c → read idle (map f cs) n ≡ f c
read_mapped f idle [] n c is = absurd (none-some c is)
read_mapped f idle (e ∷ cs) zero c is = ap f (same_Some _ _ is)
read_mapped f idle (e ∷ cs) (suc n) c is = read_mapped f idle cs n c is

-- the value of a channel among those that are kept of some
among : {A : Type 0} (test : Channel → Bool) (f : Channel → A) (idle : A) (cs : List Channel) (c : Channel) (b : Bool) → IsIn c cs → test c ≡ b →
    value_among (filter test cs) (map f (filter test cs)) idle c ≡ cond b (f c) idle
among test f idle cs c true h is =
    let p = placed (filter test cs) c (filter_in test cs c is h) in
    let m = is_found 0 (filter test cs) c p.0 p.1 in
    ap (value_at (map f (filter test cs)) idle) m.1 ∙ read_mapped f idle (filter test cs) m.0 c (found_is (filter test cs) c m.0 m.1)
among {A} test f idle cs c false h is = by (number_of (filter test cs) c) refl
  where
    by : (o : Option ℕ) → number_of (filter test cs) c ≡ o → value_at (map f (filter test cs)) idle o ≡ idle
    by None e = refl
    by (Some n) e = absurd (let k = (filtered_kept test cs c (stands (filter test cs) n c (found_is (filter test cs) c n e))).0 in cc)

-- ** numbers of a definition

module _ (d : Definition) where
  raised_there : (c : Channel) → IsIn c (channels d) → is_raised (graph d) c ≡ true
  raised_there c h =
      any_true (λ (r : Raised). same_channel r.channel c) (graph d).raised (raised_at d (connections d (sites d)) c)
      (map_in (raised_at d (connections d (sites d))) (channels d) c h) (same_channel_refl c)

  -- the values of all channels, where those of busy ones and of idle ones are right
  all_values : (f h : Channel → ℕ) (idle : ℕ) (values : List ℕ) → values ≡ map f (busy_channels d) →
      ((c : Channel) → IsIn c (channels d) → is_busy d c ≡ true → f c ≡ h c) → ((c : Channel) → IsIn c (channels d) → is_busy d c ≡ false → idle ≡ h c) →
      map (value_among (busy_channels d) values idle) (channels d) ≡ map h (channels d)
  all_values f h idle values are busy others =
      ap (λ vs. map (value_among (busy_channels d) vs idle) (channels d)) are
      ∙ map_same (value_among (busy_channels d) (map f (busy_channels d)) idle) h (channels d)
      (λ c there. among (is_busy d) f idle (channels d) c (is_busy d c) there refl ∙ by c there (is_busy d c) refl)
    where
      by : (c : Channel) → IsIn c (channels d) → (b : Bool) → is_busy d c ≡ b → cond b (f c) idle ≡ h c
      by c there true is = busy c there is
      by c there false is = others c there is

  -- the numbers of all channels are those of the busy ones, where that of an idle one is right
  pub idle_added : (n : Numbers) → n.idle ≡ capped (1 + d.most_objects) → n.idle ≤ most_bound → AddsIdle d n
  idle_added n is low r u t v p q are more costs depths = record {
    ranks =
        all_values (λ c. entry r (node (graph d) c)) (λ c. entry u (node (graph d) c)) 0 n.ranks.items are.ranks
        (λ c there busy. sym (more.at_busy c busy (raised_there c there))) (λ c there idle. sym (more.at_idle c idle));
    bounds =
        all_values (λ c. capped (bound (busy_graph d) t (entries.at c))) (λ c. capped (bound (graph d) v (entries.at c))) n.idle n.bounds.items are.bounds
        (λ c there busy. ap capped (sym (costs.at_busy c busy))) (λ c there idle. is ∙ ap capped (sym (costs.at_idle c idle (raised_there c there))));
    idle = low;
    build = are.build ∙ ap capped (sym costs.build);
    sources = are.sources
        ∙ map_same {B = ℕ × ℕ} (λ (k : ℕ). (k, capped (bound (busy_graph d) t (entries.source k)))) (λ (k : ℕ). (k, capped (bound (graph d) v (entries.source k))))
        (graph d).sources (λ k h. ap (λ n. (k, capped n)) (sym (costs.source k)));
    depth = are.depth ∙ sym depths.same;
  }

-- the bound of an idle channel of a definition with few objects
pub small_idle : (n objects : ℕ) → n ≡ capped (1 + objects) → objects ≤ 4096 → n ≤ most_bound
small_idle n objects is few = at n (1 + objects) most_bound is (fits objects few)
  where
    at : (n b most : ℕ) → n ≡ min b (1 + most) → b ≤ most → n ≤ most
    at n b most is low = omega (arith, is, low)

    fits : (m : ℕ) → m ≤ 4096 → 1 + m ≤ 1_000_000_000_000
    fits m low = omega (arith, low)
