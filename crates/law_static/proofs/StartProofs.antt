-- What is raised at the place of an operand's object is within what the instruction may start; and what is due at a property is within its
-- node.
use Rattle.std.proofs.Common.{◌≡◌, inl, inr, ◌⊎◌, refl, sym, ap, ◌∙◌, ℕ, suc, ◌+◌, ◌≤◌, Bool, true, false, cond, List, [], ◌∷◌, length, map, Option, None, Some, arith}
use Rattle.std.specs.Prelude.{◌&&◌, ◌||◌, nat_eq, not, is_some}
use Rattle.std.proofs.lemmas.Bool.{eq-eqb, eqb-true, eqb-false, or_left, or_right}
use Rattle.ui_machine.specs.Seq.{total}
use Rattle.std.specs.List.{filter, filter_map, list_any}
use Rattle.ui_machine.specs.Definition.{Definition}
use Rattle.ui_machine.specs.Definition.Places.{Bind}
use Rattle.ui_machine.specs.State.Objects.{Object, Objects}
use Rattle.ui_machine.specs.State.Tasks.{Task}
use Rattle.law_typing.specs.Good.Freezes.{carried}
use Rattle.law_typing.specs.Rules.RegisterKinds.{Kinds, kind_in, class_at, covers, places, place_numbers}
use Rattle.law_typing.specs.Rules.BindingRules.{word_of}
use Rattle.law_typing.specs.Rules.Brackets.{is_among, has_pair}
use Rattle.law_static.proofs.PairCostProofs.{is_set_at}
use Rattle.law_static.proofs.SubclassProofs.{get_in}
use Rattle.law_typing.specs.Graph.Channels.{Channel, property, same_channel, is_channel, readable_at, partner_in, is_paired, is_pair, source_of, target_of}
use Rattle.law_typing.specs.Graph.{Raised, graph, channel_for, number_for, channel_over, over, raises, paired_at, is_before, in_order, pairs_of}
use Rattle.law_typing.specs.Graph.Tables.{Tables, entry}
use Rattle.law_typing.specs.Graph.Costs.{other_end_in, other_end, with_other, node_cost, start_cost}
use Rattle.law_typing.specs.Graph.Depths.{depth_within, property_depth, depth_within_if, raised_of, deepest, start_depth, channel_depth}
use Rattle.law_typing.specs.Verdict.Accepted.{Each, Accepted}
use Rattle.law_typing.specs.Laws.{IsIn}
use Rattle.law_typing.specs.Laws.WellRead.{no_two}
use Rattle.law_typing.specs.Good.DueCosts.{has_end, is_setting_at, is_setting_from, is_setting_below, over_cost, queued_cost}
use Rattle.law_typing.proofs.Lists.{both_parts, same_channel_true, map_in, any_true, filter_in, greatest_in}
use Rattle.law_typing.proofs.EdgeProofs.{in_readable}
use Rattle.law_typing.proofs.CostProofs.{listed_in, place_below}
use Rattle.law_typing.proofs.PairProofs.{no_words, pair_read}
use Rattle.law_static.specs.Raises.{raised_there}
use Rattle.law_static.specs.Starts.{StartsReach, ThawsReach, PairsPay, DueWithin}
use Rattle.law_static.proofs.RaisesProofs.{channels_known, in_filter_map}
use Rattle.law_static.proofs.AbsentProofs.{all_there, no_entry, end_there, absent_costs_nothing}
use Rattle.ui_machine.specs.Definition.Lookups.{place_at}

-- ** over the places of an operand

over_has : (d : Definition) (number_in : ℕ → Option ℕ) (channel : ℕ → ℕ → Channel) (ks : Kinds) (object place class number : ℕ) → covers d (kind_in ks object) place ≡ true → class_at d place ≡ Some class →
    number_in class ≡ Some number → is_channel d (channel place number) ≡ true → IsIn (channel place number) (over d number_in channel (places d (kind_in ks object)))
over_has d number_in channel ks object place class number covered is named there =
    let ps = places d (kind_in ks object) in
    let among = filter_in (covers d (kind_in ks object)) (place_numbers d) place covered (listed_in (λ place. place) (length d.places) place (place_below d place class (place_at d place) refl is)) in
    filter_in (is_channel d) (filter_map (channel_over d number_in channel) ps) (channel place number) there
    (in_filter_map (channel_over d number_in channel) ps place (channel place number)
    (ap (λ c. channel_for (channel place) (number_for number_in c)) is ∙ ap (channel_for (channel place)) named) among)

pub absent_is_flat : (d : Definition) (a : Accepted d) (c : Channel) → is_channel d c ≡ false → entry a.weighed.depths.channels c ≡ 0
absent_is_flat d a c absent =
    ap (λ t. entry t c) a.weighed.solves_depths.channels ∙ no_entry d (channel_depth (graph d) a.weighed.depths) _ c (all_there d) absent

pub starts_reach : StartsReach
starts_reach d a number_in channel ks object place class number covered is named = go (is_channel d (channel place number)) refl
  where
    go : (b : Bool) → is_channel d (channel place number) ≡ b →
        (node_cost (graph d) a.weighed.costs (channel place number) ≤ start_cost (graph d) a.weighed.costs (raises (over d number_in channel (places d (kind_in ks object)))))
        × (entry a.weighed.depths.channels (channel place number) ≤ start_depth a.weighed.depths (raises (over d number_in channel (places d (kind_in ks object)))))
    go true e =
        let there = over_has d number_in channel ks object place class number covered is named e in (
          greatest_in (node_cost (graph d) a.weighed.costs) (over d number_in channel (places d (kind_in ks object))) (channel place number) there,
          greatest_in (entry a.weighed.depths.channels) (over d number_in channel (places d (kind_in ks object))) (channel place number) there,
        )
    go false e =
        let cheap = absent_costs_nothing d a (channel place number) e in
        let flat = absent_is_flat d a (channel place number) e in
        (omega (arith, cheap), omega (arith, flat))

-- ** what a thaw notifies

pub thaws_reach : ThawsReach
thaws_reach d t ks object place class covered is =
    let among = filter_in (covers d (kind_in ks object)) (place_numbers d) place covered (listed_in (λ place. place) (length d.places) place (place_below d place class (place_at d place) refl is)) in
    let one = map_in (paired_at d) (places d (kind_in ks object)) place among in
    let all = map (paired_at d) (places d (kind_in ks object)) in (
      greatest_in (λ cs. total (node_cost (graph d) t) cs) all (paired_at d place) one,
      λ c there. (
          let own = greatest_in (entry t.channels) (paired_at d place) c there in
          let most = greatest_in (deepest t) all (paired_at d place) one in
          omega (arith, own, most)),
    )

-- what is bound both ways is in a pair
pub is_paired_there : (bs : List Bind) (c e : Channel) → other_end_in (pairs_of bs) c ≡ Some e → is_some (partner_in bs c) ≡ true
is_paired_there [] c e is = absurd (cc)
is_paired_there (b ∷ bs) c e is = by (is_pair b) refl is (is_paired_there bs c e)
  where
    rest : Bool → Bool
    rest pair = is_some (cond (pair && same_channel (source_of b) c) (Some (target_of b)) (cond (pair && same_channel (target_of b) c) (Some (source_of b)) (partner_in bs c)))

    ends : (x y : Bool) (p q : Channel) → same_channel (source_of b) c ≡ x → same_channel (target_of b) c ≡ y → (x ≡ false → y ≡ false → is_some (partner_in bs c) ≡ true) → rest true ≡ true
    ends true y p q f h later = rw f refl
    ends false true p q f h later = rw (f, h) refl
    ends false false p q f h later = rw (f, h) (later refl refl)

    -- one that is no end of this pair is found later
    later : (x y : Bool) (before : Bool) → same_channel (source_of b) c ≡ x → same_channel (target_of b) c ≡ y →
        other_end_in (cond before (target_of b, source_of b) (source_of b, target_of b) ∷ pairs_of bs) c ≡ Some e →
        (other_end_in (pairs_of bs) c ≡ Some e → is_some (partner_in bs c) ≡ true) → x ≡ false → y ≡ false → is_some (partner_in bs c) ≡ true
    later x y true f h is more p q = let at : same_channel (source_of b) c ≡ false = f ∙ p in let to : same_channel (target_of b) c ≡ false = h ∙ q in more (rw (at, to) at is)
    later x y false f h is more p q = let at : same_channel (source_of b) c ≡ false = f ∙ p in let to : same_channel (target_of b) c ≡ false = h ∙ q in more (rw (at, to) at is)

    by : (pair : Bool) → is_pair b ≡ pair → other_end_in (map (λ b. in_order (source_of b) (target_of b)) (cond pair (b ∷ filter is_pair bs) (filter is_pair bs))) c ≡ Some e →
        (other_end_in (pairs_of bs) c ≡ Some e → is_some (partner_in bs c) ≡ true) → rest pair ≡ true
    by false f is more = more is
    by true f is more =
        ends (same_channel (source_of b) c) (same_channel (target_of b) c) (source_of b) (target_of b) refl refl
        (later (same_channel (source_of b) c) (same_channel (target_of b) c) (is_before (target_of b) (source_of b)) refl refl is more)

-- so it is one of the paired properties of its place
pub paired_in : (d : Definition) → Accepted d → (place slot : ℕ) (e : Channel) → other_end (graph d) (property place slot) ≡ Some e → IsIn (property place slot) (paired_at d place)
paired_in d a place slot e is =
    filter_in (is_paired d) (readable_at d place) (property place slot) (is_paired_there d.bindings (property place slot) e is)
    (in_readable d place slot (end_there d d.bindings (property place slot) e (no_words d 0 d.bindings a.bindings) is))

-- an end of a pair is a channel
end_is : (d : Definition) (b : Bind) (c : Channel) → is_pair b ≡ true → word_of d b ≡ None → has_end c b ≡ true → is_channel d c ≡ true
end_is d b c pair word end = go (same_channel (source_of b) c) refl end
  where
    go : (x : Bool) → same_channel (source_of b) c ≡ x → cond x true (same_channel (target_of b) c) ≡ true → is_channel d c ≡ true
    go true s e = ap (is_channel d) (sym (same_channel_true (source_of b) c s)) ∙ (pair_read d b pair word).source
    go false s e = ap (is_channel d) (sym (same_channel_true (target_of b) c e)) ∙ (pair_read d b pair word).target

-- and so is what a pair is setting
setting_is : (d : Definition) (below : List Task) (c : Channel) (n : ℕ) (xs : List Bind) → Each (λ b. word_of d b ≡ None) xs → is_setting_from below c n xs ≡ true → is_channel d c ≡ true
setting_is d below c n [] words e = absurd (cc)
setting_is d below c n (x ∷ xs) words e = go (is_setting_at below c n x) refl e (λ e. setting_is d below c (suc n) xs words.1 e)
  where
    go : (b : Bool) → is_setting_at below c n x ≡ b → cond b true (is_setting_from below c (suc n) xs) ≡ true → (is_setting_from below c (suc n) xs ≡ true → is_channel d c ≡ true) → is_channel d c ≡ true
    go true s e later = let p = both_parts (is_pair x) (has_end c x) (both_parts (is_pair x && has_end c x) _ s).0 in end_is d x c p.0 words.0 p.1
    go false s e later = later e

-- what a binding has as an end both ways is in a pair
partner_some : (bs : List Bind) (c : Channel) (b : Bind) → IsIn b bs → is_pair b ≡ true → has_end c b ≡ true → is_some (partner_in bs c) ≡ true
partner_some [] c b h pair end = absurd h
partner_some (x ∷ bs) c b h pair end =
    go (is_pair x) (same_channel (source_of x) c) (same_channel (target_of x) c) refl refl refl h (λ h. partner_some bs c b h pair end)
  where
    go : (p u v : Bool) → is_pair x ≡ p → same_channel (source_of x) c ≡ u → same_channel (target_of x) c ≡ v → IsIn b (x ∷ bs) → (IsIn b bs → is_some (partner_in bs c) ≡ true) →
        is_some (cond (p && u) (Some (target_of x)) (cond (p && v) (Some (source_of x)) (partner_in bs c))) ≡ true
    go true true v e f k h later = refl
    go true false true e f k h later = refl
    go true false false e f k (inl s) later =
        absurd (let own = ap (λ (y : Bind). has_end c y) s in let none : has_end c x ≡ false = rw (f, k) refl in cc)
    go true false false e f k (inr h) later = later h
    go false u v e f k (inl s) later = absurd (let own = ap is_pair s in cc)
    go false u v e f k (inr h) later = later h

-- the property at which a pair is still to be set free is one of the paired ones of its place
pub setting_in : (d : Definition) → Accepted d → (costs : Tables) (below : List Task) (place slot : ℕ) → is_setting_below d below (property place slot) ≡ true →
    IsIn (property place slot) (paired_at d place)
setting_in d a costs below place slot e =
    let words = no_words d 0 d.bindings a.bindings in
    let found = is_set_at d costs below (property place slot) d.bindings 0 e in
    let parts = both_parts (is_pair found.1 && has_end (property place slot) found.1) _ found.3 in
    let of = both_parts (is_pair found.1) (has_end (property place slot) found.1) parts.0 in
    filter_in (is_paired d) (readable_at d place) (property place slot)
    (partner_some d.bindings (property place slot) found.1 (get_in d.bindings found.0 found.1 found.2) of.0 of.1)
    (in_readable d place slot (setting_is d below (property place slot) 0 d.bindings words e))

-- where a place has no paired property, none of its properties has another end
same_property : (p s q t : ℕ) → same_channel (property p s) (property q t) ≡ true → nat_eq q p ≡ true
same_property p s q t e = eq-eqb q p (sym (eqb-true p q (both_parts (nat_eq p q) (nat_eq s t) e).0))

abbrev any_pair : List Bind → ℕ → Bool
any_pair bs place = list_any (λ (b : Bind). is_pair b && is_among (b.source ∷ b.target ∷ []) place) bs

partner_has : (bs : List Bind) (place slot : ℕ) → is_some (partner_in bs (property place slot)) ≡ true → any_pair bs place ≡ true
partner_has [] place slot e = absurd (cc)
partner_has (x ∷ bs) place slot e =
    go (is_pair x) (same_channel (source_of x) (property place slot)) (same_channel (target_of x) (property place slot)) refl refl refl e (partner_has bs place slot)
  where
    second : (a b : Bool) → b ≡ true → (a || (b || false)) ≡ true
    second true b e = refl
    second false true e = refl
    second false false e = absurd (cc)

    go : (p u v : Bool) → is_pair x ≡ p → same_channel (source_of x) (property place slot) ≡ u → same_channel (target_of x) (property place slot) ≡ v →
        is_some (cond (p && u) (Some (target_of x)) (cond (p && v) (Some (source_of x)) (partner_in bs (property place slot)))) ≡ true →
        (is_some (partner_in bs (property place slot)) ≡ true → any_pair bs place ≡ true) →
        ((p && (nat_eq place x.source || (nat_eq place x.target || false))) || any_pair bs place) ≡ true
    go true true v f h k e later = or_left _ (any_pair bs place) (or_left (nat_eq place x.source) (nat_eq place x.target || false) (same_property x.source x.source_slot place slot h))
    go true false true f h k e later = or_left _ (any_pair bs place) (second (nat_eq place x.source) (nat_eq place x.target) (same_property x.target x.target_slot place slot k))
    go true false false f h k e later = or_right _ (any_pair bs place) (later e)
    go false u v f h k e later = later e

pub unpaired_alone : (d : Definition) (place slot : ℕ) → has_pair d place ≡ false → other_end (graph d) (property place slot) ≡ None
unpaired_alone d place slot none = go (other_end (graph d) (property place slot)) refl
  where
    go : (o : Option Channel) → other_end (graph d) (property place slot) ≡ o → o ≡ None
    go None e = refl
    go (Some other) e = absurd (let some = partner_has d.bindings place slot (is_paired_there d.bindings (property place slot) other e) in cc)

-- a list without one of its entries
record Without (g : Channel → ℕ) (cs : List Channel) (c : Channel) : Type 0 where
  pub rest : List Channel
  pub sum : total g rest + g c ≡ total g cs
  pub others : (e : Channel) → IsIn e cs → (e ≡ c) ⊎ IsIn e rest

without_one : (g : Channel → ℕ) (cs : List Channel) (c : Channel) → IsIn c cs → Without g cs c
without_one g [] c h = absurd h
without_one g (x ∷ xs) c (inl s) = record {
  rest = xs;
  sum = (let same = ap g s in omega (arith, same));
  others = λ e h. of e h;
}
  where
    of : (e : Channel) → IsIn e (x ∷ xs) → (e ≡ c) ⊎ IsIn e xs
    of e (inl r) = inl (r ∙ sym s)
    of e (inr h) = inr h
without_one g (x ∷ xs) c (inr h) =
    let out = without_one g xs c h in
    record {
      rest = x ∷ out.rest;
      sum = (let sum = out.sum in omega (arith, sum));
      others = λ e k. of out.rest out.others e k;
    }
  where
    of : (rest : List Channel) → ((e : Channel) → IsIn e xs → (e ≡ c) ⊎ IsIn e rest) → (e : Channel) → IsIn e (x ∷ xs) → (e ≡ c) ⊎ IsIn e (x ∷ rest)
    of rest others e (inl r) = inr (inl r)
    of rest others e (inr k) = more (others e k)
      where
        more : (e ≡ c) ⊎ IsIn e rest → (e ≡ c) ⊎ IsIn e (x ∷ rest)
        more (inl r) = inl r
        more (inr m) = inr (inr m)

module _ (place : ℕ) (f : ℕ → ℕ) (g : Channel → ℕ) where
  -- a slot is paid for by an entry of a list, if it costs anything
  abbrev Paid : List Channel → ℕ → Type 0
  Paid cs slot = (f slot ≡ 0) ⊎ (IsIn (property place slot) cs × (f slot ≤ g (property place slot)))

  apart_from : (slot other : ℕ) (slots : List ℕ) → list_any (nat_eq slot) slots ≡ false → IsIn other slots → slot ≡ other → ⊥
  apart_from slot other slots none there same =
      let found = any_true (nat_eq slot) slots other there (eq-eqb slot other same) in
      cc

  abbrev slot_of_channel : (c : Channel) → ℕ
  slot_of_channel (property p s) = s
  slot_of_channel _ = 0

  -- slots, each once, cost no more than the list that pays for each
  all_paid : (slots : List ℕ) (cs : List Channel) → no_two nat_eq slots ≡ true → ((slot : ℕ) → IsIn slot slots → Paid cs slot) → total f slots ≤ total g cs
  all_paid [] cs apart paid = omega arith
  all_paid (slot ∷ slots) cs apart paid =
      let parts = both_parts (not (list_any (nat_eq slot) slots)) (no_two nat_eq slots) apart in
      first (λ cs paid. all_paid slots cs parts.1 paid) (list_any (nat_eq slot) slots) refl parts.0 (paid slot (inl refl))
    where
      first : ((cs : List Channel) → ((other : ℕ) → IsIn other slots → Paid cs other) → total f slots ≤ total g cs) →
          (b : Bool) → list_any (nat_eq slot) slots ≡ b → not b ≡ true → Paid cs slot → total f (slot ∷ slots) ≤ total g cs
      first more true e n p = absurd (cc)
      first more false e n (inl none) = let later = more cs (λ other h. paid other (inr h)) in omega (arith, later, none)
      first more false e n (inr here) =
          let out = without_one g cs (property place slot) here.0 in
          let later = more out.rest (λ other h. still out other (apart_from slot other slots e h) (paid other (inr h))) in
          let sum = out.sum in
          let low = here.1 in
          omega (arith, later, sum, low)
        where
          still : (out : Without g cs (property place slot)) (other : ℕ) → (slot ≡ other → ⊥) → Paid cs other → Paid out.rest other
          still out other apart (inl none) = inl none
          still out other apart (inr h) = of (out.others (property place other) h.0)
            where
              of : (property place other ≡ property place slot) ⊎ IsIn (property place other) out.rest → Paid out.rest other
              of (inl s) = absurd (apart (sym (ap slot_of_channel s)))
              of (inr k) = inr (k, h.1)

pub pairs_pay : PairsPay
pairs_pay d a t place slots apart =
    all_paid place (λ slot. over_cost t (other_end (graph d) (property place slot))) (node_cost (graph d) t) slots (paired_at d place) apart
    (λ slot h. paid slot (other_end (graph d) (property place slot)) refl)
  where
    paid : (slot : ℕ) (o : Option Channel) → other_end (graph d) (property place slot) ≡ o →
        Paid place (λ slot. over_cost t (other_end (graph d) (property place slot))) (node_cost (graph d) t) (paired_at d place) slot
    paid slot None e = inl (ap (over_cost t) e)
    paid slot (Some other) e =
        let whole = ap (with_other t (entry t.channels (property place slot))) e in
        let over = ap (over_cost t) e in
        inr (paired_in d a place slot other e, omega (arith, whole, over))

-- ** what is due

node_has : (costs : Tables) (own : ℕ) (b : Bool) (o : Option Channel) → own + cond b 0 (over_cost costs o) ≤ with_other costs own o
node_has costs own true None = omega arith
node_has costs own false None = omega arith
node_has costs own true (Some other) = omega arith
node_has costs own false (Some other) = omega arith

-- what is queued carries its own part at least, and its node at most
pub queued_has : (d : Definition) (costs : Tables) (making place slot : ℕ) → entry costs.channels (property place slot) ≤ queued_cost d costs making place slot
queued_has d costs making place slot = go (nat_eq making 0) (other_end (graph d) (property place slot))
  where
    go : (b : Bool) (o : Option Channel) → entry costs.channels (property place slot)
        ≤ cond b (entry costs.channels (property place slot)) (with_other costs (entry costs.channels (property place slot)) o)
    go true o = omega arith
    go false None = omega arith
    go false (Some other) = omega arith

pub queued_within : (d : Definition) (costs : Tables) (making place slot : ℕ) → queued_cost d costs making place slot ≤ node_cost (graph d) costs (property place slot)
queued_within d costs making place slot = go (nat_eq making 0) (other_end (graph d) (property place slot))
  where
    go : (b : Bool) (o : Option Channel) →
        cond b (entry costs.channels (property place slot)) (with_other costs (entry costs.channels (property place slot)) o)
        ≤ with_other costs (entry costs.channels (property place slot)) o
    go true None = omega arith
    go true (Some other) = omega arith
    go false o = omega arith

-- it carries no more where the builder makes fewer objects
queued_falls : (d : Definition) (costs : Tables) (less more place slot : ℕ) → less ≤ more → queued_cost d costs less place slot ≤ queued_cost d costs more place slot
queued_falls d costs less more place slot low = go (nat_eq less 0) (nat_eq more 0) refl refl
  where
    go : (x y : Bool) → nat_eq less 0 ≡ x → nat_eq more 0 ≡ y → queued_cost d costs less place slot ≤ queued_cost d costs more place slot
    go true y e f = let has = queued_has d costs more place slot in let own = ap (λ b. cond b (entry costs.channels (property place slot)) (node_cost (graph d) costs (property place slot))) e in omega (arith, has, own)
    go false false e f =
        let one = ap (λ b. cond b (entry costs.channels (property place slot)) (node_cost (graph d) costs (property place slot))) e in
        let two = ap (λ b. cond b (entry costs.channels (property place slot)) (node_cost (graph d) costs (property place slot))) f in
        omega (arith, one, two)
    go false true e f = absurd (eqb-false less 0 e (let none = eqb-true more 0 f in omega (arith, none, low)))

pub carried_falls : (d : Definition) (costs : Tables) (less more : ℕ) (os : Objects) → less ≤ more → total (carried d costs less) os ≤ total (carried d costs more) os
carried_falls d costs less more [] low = omega arith
carried_falls d costs less more (o ∷ os) low = let first = one o in let rest = carried_falls d costs less more os low in omega (arith, first, rest)
  where
    all : (place : ℕ) (slots : List ℕ) → total (λ slot. queued_cost d costs less place slot) slots ≤ total (λ slot. queued_cost d costs more place slot) slots
    all place [] = omega arith
    all place (slot ∷ slots) = let first = queued_falls d costs less more place slot low in let rest = all place slots in omega (arith, first, rest)

    one : (o : Option Object) → carried d costs less o ≤ carried d costs more o
    one None = omega arith
    one (Some o) = all o.place o.queue

emission_deep : (d : Definition) (t : Tables) (r : Raised) (o : Option Channel) → 1 + depth_within t r ≤ property_depth (graph d) t r o
emission_deep d t r None = omega arith
emission_deep d t r (Some other) = omega arith

pub due_within : DueWithin
due_within d a below place slot = (
  node_has a.weighed.costs (entry a.weighed.costs.channels (property place slot)) (is_setting_below d below (property place slot)) (other_end (graph d) (property place slot)),
  deep (is_setting_below d below (property place slot)) refl,
)
  where
    deep : (b : Bool) → is_setting_below d below (property place slot) ≡ b →
        cond b (1 + depth_within_if a.weighed.depths (raised_of (graph d) (property place slot))) (entry a.weighed.depths.channels (property place slot))
        ≤ entry a.weighed.depths.channels (property place slot)
    deep true e =
        let there = setting_is d below (property place slot) 0 d.bindings (no_words d 0 d.bindings a.bindings) e in
        let k = channels_known d a (property place slot) there in
        let within = ap (depth_within_if a.weighed.depths) k.found in
        let whole = k.deep in
        let most = emission_deep d a.weighed.depths (raised_there d (property place slot)) (other_end (graph d) (property place slot)) in
        omega (arith, within, whole, most)
    deep false e = omega arith
