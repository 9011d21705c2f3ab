-- What is raised at channels: absent ones cost nothing, what is due is within the node, what an instruction may raise is within its price.
use Rattle.std.proofs.Common.{◌≡◌, inl, inr, ◌⊎◌, refl, sym, ap, ◌∙◌, ℕ, suc, ◌+◌, ◌≤◌, Bool, true, false, cond, List, [], ◌∷◌, length, Option, None, Some, arith}
use Rattle.std.specs.Prelude.{nat_eq, not, ◌&&◌, is_some}
use Rattle.std.specs.List.{list_any}
use Rattle.std.proofs.lemmas.Bool.{eq-eqb}
use Rattle.ui_machine.specs.Seq.{total}
use Rattle.ui_machine.specs.Definition.{Definition}
use Rattle.ui_machine.specs.Definition.Places.{Bind}
use Rattle.ui_machine.specs.State.Tasks.{Task}
use Rattle.law_typing.specs.Graph.Channels.{Channel, is_channel, is_pair, is_paired, partner_in, property, readable_at, same_channel, source_of, target_of}
use Rattle.law_typing.specs.Graph.{channel_for, channel_over, number_for, over, paired_at}
use Rattle.law_typing.specs.Graph.Tables.{Tables, entry, greatest}
use Rattle.law_typing.specs.Laws.{IsIn}
use Rattle.law_typing.specs.Laws.WellRead.{no_two}
use Rattle.law_typing.specs.Rules.BindingRules.{word_of}
use Rattle.law_typing.specs.Rules.RegisterKinds.{Kinds, class_at, covers, kind_in, place_numbers, places}
use Rattle.law_typing.specs.Verdict.Accepted.{Accepted, Each}
use Rattle.law_typing.proofs.CostProofs.{listed_in, place_below}
use Rattle.law_typing.proofs.EdgeProofs.{in_readable}
use Rattle.law_typing.proofs.Lists.{any_true, both_parts, filter_in, greatest_in, same_channel_true}
use Rattle.law_typing.proofs.PairProofs.{no_words, pair_read}
use Rattle.law_static.proofs.RaisesProofs.{in_filter_map}
use Rattle.law_prices.specs.Deeds.{PriceList}
use Rattle.law_prices.specs.Potential.{due_pair, due_price, is_free}
use Rattle.law_prices.specs.Prices.{SolvesPrices, all_over, by_number, carry_price, node_price, over_price, pair_price, waited_price}
use Rattle.law_prices.proofs.Equations.{absent_is}
use Rattle.law_prices.proofs.Sums.{by_number_less, cond_less}

-- ** slots that are paid for

record Without (g : Channel → ℕ) (cs : List Channel) (c : Channel) : Type 0 where
  pub rest : List Channel
  pub sum : total g rest + g c ≡ total g cs
  pub others : (e : Channel) → IsIn e cs → (e ≡ c) ⊎ IsIn e rest

without_one : (g : Channel → ℕ) (cs : List Channel) (c : Channel) → IsIn c cs → Without g cs c
without_one g [] c h = absurd h
without_one g (x ∷ xs) c (inl s) = record {
  rest = xs;
  sum = (let same = ap g s in omega (arith, same));
  others = λ e h. of e h;
}
  where
    of : (e : Channel) → IsIn e (x ∷ xs) → (e ≡ c) ⊎ IsIn e xs
    of e (inl r) = inl (r ∙ sym s)
    of e (inr h) = inr h
without_one g (x ∷ xs) c (inr h) =
    let out = without_one g xs c h in
    record {
      rest = x ∷ out.rest;
      sum = (let sum = out.sum in omega (arith, sum));
      others = λ e k. of out.rest out.others e k;
    }
  where
    of : (rest : List Channel) → ((e : Channel) → IsIn e xs → (e ≡ c) ⊎ IsIn e rest) → (e : Channel) → IsIn e (x ∷ xs) → (e ≡ c) ⊎ IsIn e (x ∷ rest)
    of rest others e (inl r) = inr (inl r)
    of rest others e (inr k) = more (others e k)
      where
        more : (e ≡ c) ⊎ IsIn e rest → (e ≡ c) ⊎ IsIn e (x ∷ rest)
        more (inl r) = inl r
        more (inr m) = inr (inr m)

module _ (place : ℕ) (f : ℕ → ℕ) (g : Channel → ℕ) where
  -- a slot is paid for by an entry of a list, if it costs anything
  abbrev Paid : List Channel → ℕ → Type 0
  Paid cs slot = (f slot ≡ 0) ⊎ (IsIn (property place slot) cs × (f slot ≤ g (property place slot)))

  apart_from : (slot other : ℕ) (slots : List ℕ) → list_any (nat_eq slot) slots ≡ false → IsIn other slots → slot ≡ other → ⊥
  apart_from slot other slots none there same =
      let found = any_true (nat_eq slot) slots other there (eq-eqb slot other same) in
      cc

  abbrev slot_of_channel : (c : Channel) → ℕ
  slot_of_channel (property p s) = s
  slot_of_channel _ = 0

  -- slots, each once, cost no more than the list that pays for each
  all_paid : (slots : List ℕ) (cs : List Channel) → no_two nat_eq slots ≡ true → ((slot : ℕ) → IsIn slot slots → Paid cs slot) → total f slots ≤ total g cs
  all_paid [] cs apart paid = omega arith
  all_paid (slot ∷ slots) cs apart paid =
      let parts = both_parts (not (list_any (nat_eq slot) slots)) (no_two nat_eq slots) apart in
      first (λ cs paid. all_paid slots cs parts.1 paid) (list_any (nat_eq slot) slots) refl parts.0 (paid slot (inl refl))
    where
      first : ((cs : List Channel) → ((other : ℕ) → IsIn other slots → Paid cs other) → total f slots ≤ total g cs) →
          (b : Bool) → list_any (nat_eq slot) slots ≡ b → not b ≡ true → Paid cs slot → total f (slot ∷ slots) ≤ total g cs
      first more true e n p = absurd (cc)
      first more false e n (inl none) = let later = more cs (λ other h. paid other (inr h)) in omega (arith, later, none)
      first more false e n (inr here) =
          let out = without_one g cs (property place slot) here.0 in
          let later = more out.rest (λ other h. still out other (apart_from slot other slots e h) (paid other (inr h))) in
          let sum = out.sum in
          let low = here.1 in
          omega (arith, later, sum, low)
        where
          still : (out : Without g cs (property place slot)) (other : ℕ) → (slot ≡ other → ⊥) → Paid cs other → Paid out.rest other
          still out other apart (inl none) = inl none
          still out other apart (inr h) = of (out.others (property place other) h.0)
            where
              of : (property place other ≡ property place slot) ⊎ IsIn (property place other) out.rest → Paid out.rest other
              of (inl s) = absurd (apart (sym (ap slot_of_channel s)))
              of (inr k) = inr (k, h.1)

-- ** what pairs there are

module _ (d : Definition) (P : PriceList) (t : Tables) where
  -- a pair of which the channel is no end costs nothing
  pub no_way : (c : Channel) (n : ℕ) (b : Bind) → same_channel (source_of b) c ≡ false → same_channel (target_of b) c ≡ false → pair_price d P t c n b ≡ 0
  no_way c n b e f = go (is_pair b) (same_channel (source_of b) c) (same_channel (target_of b) c) e f
    where
      go : (p s u : Bool) → s ≡ false → u ≡ false → cond p (cond s (carry_price d P n (target_of b) + entry t.channels (target_of b)) 0 + cond u (carry_price d P n (source_of b) + entry t.channels (source_of b)) 0) 0 ≡ 0
      go true true u e f = absurd (cc)
      go true false true e f = absurd (cc)
      go true false false e f = refl
      go false s u e f = refl

  pub no_pair : (c : Channel) (n : ℕ) (b : Bind) → is_pair b ≡ false → pair_price d P t c n b ≡ 0
  no_pair c n b e = rw e

  -- a channel that is in no pair costs nothing over one
  alone : (c : Channel) (n : ℕ) (bs : List Bind) → is_some (partner_in bs c) ≡ false → by_number (pair_price d P t c) n bs ≡ 0
  alone c n [] e = refl
  alone c n (b ∷ bs) e = go (λ e. alone c (suc n) bs e) (is_pair b) (same_channel (source_of b) c) (same_channel (target_of b) c) refl refl refl e
    where
      go : (is_some (partner_in bs c) ≡ false → by_number (pair_price d P t c) (suc n) bs ≡ 0) → (p s u : Bool) → is_pair b ≡ p → same_channel (source_of b) c ≡ s → same_channel (target_of b) c ≡ u →
          is_some (cond (p && s) (Some (target_of b)) (cond (p && u) (Some (source_of b)) (partner_in bs c))) ≡ false → by_number (pair_price d P t c) n (b ∷ bs) ≡ 0
      go rec true true u pair src tgt e = absurd (cc)
      go rec true false true pair src tgt e = absurd (cc)
      go rec true false false pair src tgt e = let h = rec e in let z = no_way c n b src tgt in omega (arith, h, z)
      go rec false s u pair src tgt e = let h = rec e in let z = no_pair c n b pair in omega (arith, h, z)

  -- an end of a pair is a channel
  absent_over : (c : Channel) (n : ℕ) (bs : List Bind) → Each (λ b. word_of d b ≡ None) bs → is_channel d c ≡ false → by_number (pair_price d P t c) n bs ≡ 0
  absent_over c n [] words e = refl
  absent_over c n (b ∷ bs) words e = go (is_pair b) (same_channel (source_of b) c) (same_channel (target_of b) c) refl refl refl (absent_over c (suc n) bs words.1 e)
    where
      go : (p s u : Bool) → is_pair b ≡ p → same_channel (source_of b) c ≡ s → same_channel (target_of b) c ≡ u → by_number (pair_price d P t c) (suc n) bs ≡ 0 → by_number (pair_price d P t c) n (b ∷ bs) ≡ 0
      go false s u pair src tgt h = let z = no_pair c n b pair in omega (arith, h, z)
      go true true u pair src tgt h = absurd (let r = (pair_read d b pair words.0).source in let same = ap (is_channel d) (same_channel_true (source_of b) c src) in let k = sym e ∙ (sym same ∙ r) in cc)
      go true false true pair src tgt h = absurd (let r = (pair_read d b pair words.0).target in let same = ap (is_channel d) (same_channel_true (target_of b) c tgt) in let k = sym e ∙ (sym same ∙ r) in cc)
      go true false false pair src tgt h = let z = no_way c n b src tgt in omega (arith, h, z)

  -- what is due is within the node
  pub due_within : (below : List Task) (c : Channel) → due_price d P t below c ≤ node_price d P t c
  due_within below c =
      let h = by_number_less (due_pair d P t below c) (pair_price d P t c) 0 d.bindings (λ n b. cond_less (is_free below n) (pair_price d P t c n b)) in
      omega (arith, h)

  module _ (a : Accepted d) (solves : SolvesPrices d P t) where
    -- a channel that is not there costs nothing
    pub absent_node : (c : Channel) → is_channel d c ≡ false → node_price d P t c ≡ 0
    absent_node c e =
        let own = absent_is d P t solves c e in
        let over = absent_over c 0 d.bindings (no_words d 0 d.bindings a.bindings) e in
        omega (arith, own, over)

    -- ** what an instruction may raise

    -- a covered place is one of its operand's places
    pub in_places : (ks : Kinds) (object place class : ℕ) → covers d (kind_in ks object) place ≡ true → class_at d place ≡ Some class → IsIn place (places d (kind_in ks object))
    in_places ks object place class covered is =
        filter_in (covers d (kind_in ks object)) (place_numbers d) place covered
        (listed_in (λ place. place) (length d.places) place (place_below d place class _ refl is))

    -- and what its class has under a number is over the places
    pub in_all_over : (number_in : ℕ → Option ℕ) (channel : ℕ → ℕ → Channel) (ps : List ℕ) (place class number : ℕ) → IsIn place ps → class_at d place ≡ Some class → number_in class ≡ Some number →
        IsIn (channel place number) (all_over d number_in channel ps)
    in_all_over number_in channel ps place class number there is named =
        in_filter_map (channel_over d number_in channel) ps place (channel place number)
        (ap (λ c. channel_for (channel place) (number_for number_in c)) is ∙ ap (channel_for (channel place)) named) there

    -- what is raised there is within what may be raised, also where there is no such channel
    pub node_reached : (number_in : ℕ → Option ℕ) (channel : ℕ → ℕ → Channel) (ps : List ℕ) (place class number : ℕ) → IsIn place ps → class_at d place ≡ Some class → number_in class ≡ Some number →
        node_price d P t (channel place number) ≤ greatest (node_price d P t) (over d number_in channel ps)
    node_reached number_in channel ps place class number there is named = go (is_channel d (channel place number)) refl
      where
        go : (b : Bool) → is_channel d (channel place number) ≡ b → node_price d P t (channel place number) ≤ greatest (node_price d P t) (over d number_in channel ps)
        go true e = greatest_in (node_price d P t) (over d number_in channel ps) (channel place number) (filter_in (is_channel d) (all_over d number_in channel ps) (channel place number) e (in_all_over number_in channel ps place class number there is named))
        go false e = let z = absent_node (channel place number) e in omega (arith, z)

    -- ** what waits in a queue

    pub over_paid : (place slot : ℕ) → (over_price d P t (property place slot) ≡ 0) ⊎ (IsIn (property place slot) (paired_at d place) × (over_price d P t (property place slot) ≤ waited_price d P t (property place slot)))
    over_paid place slot = go (is_channel d (property place slot)) (is_some (partner_in d.bindings (property place slot))) refl refl
      where
        go : (b p : Bool) → is_channel d (property place slot) ≡ b → is_some (partner_in d.bindings (property place slot)) ≡ p →
            (over_price d P t (property place slot) ≡ 0) ⊎ (IsIn (property place slot) (paired_at d place) × (over_price d P t (property place slot) ≤ waited_price d P t (property place slot)))
        go b false e f = inl (alone (property place slot) 0 d.bindings f)
        go false true e f = inl (absent_over (property place slot) 0 d.bindings (no_words d 0 d.bindings a.bindings) e)
        go true true e f = inr (filter_in (is_paired d) (readable_at d place) (property place slot) f (in_readable d place slot e), omega arith)

    -- what waits, each property once, costs no more over pairs than the paired properties of its place
    pub queue_over : (place : ℕ) (slots : List ℕ) → no_two nat_eq slots ≡ true → total (λ slot. over_price d P t (property place slot)) slots ≤ total (waited_price d P t) (paired_at d place)
    queue_over place slots apart =
        all_paid place (λ slot. over_price d P t (property place slot)) (waited_price d P t) slots (paired_at d place) apart (λ slot h. over_paid place slot)
