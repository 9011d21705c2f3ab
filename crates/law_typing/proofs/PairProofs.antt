-- The pairs of an accepted definition: no two share an end, and both ends of each are channels of one node.
use Rattle.std.proofs.Common.{◌≡◌, inl, inr, refl, sym, ap, subst, ◌∙◌, ℕ, suc, Bool, true, false, cond, List, [], ◌∷◌, map, Option, None, Some}
use Rattle.std.specs.Prelude.{not, ◌&&◌, ◌||◌}
use Rattle.std.specs.List.{filter, list_any}
use Rattle.std.proofs.lemmas.Bool.{or_parts}
use Rattle.ui_machine.specs.Definition.Properties.{Spec, has_flags, is_readable, is_writable, is_construct_only}
use Rattle.ui_machine.specs.Rules.Transform.{is_transformable}
use Rattle.ui_machine.specs.Definition.{Definition}
use Rattle.ui_machine.specs.Definition.Places.{Bind}
use Rattle.law_typing.specs.Graph.Channels.{Channel, same_channel, spec_at, is_readable_one, is_channel, is_pair, source_of, target_of}
use Rattle.law_typing.specs.Rules.Faults.{BindingWord, Fault}
use Rattle.law_typing.specs.Rules.Faults as words
use Rattle.law_typing.specs.Rules.BindingRules.{or_word, first_word, is_invertible, word_between, word_of, fault_of, faults_from, shares_end, is_second, second_from, binding_faults, pair_faults}
use Rattle.law_typing.specs.Graph.{graph, is_before, in_order, pairs_of}
use Rattle.law_typing.specs.Graph.Ranks.{node_in}
use Rattle.law_typing.specs.Graph.Costs.{other_end_in}
use Rattle.law_typing.specs.Verdict.Accepted.{Each}
use Rattle.law_typing.specs.Laws.{IsIn}
use Rattle.law_typing.specs.Laws.OneSolution.{IsPaired, AcceptedIsPaired, AcceptedOnce}
use Rattle.law_typing.proofs.Lists.{same_channel_true, same_channel_refl, both_empty}
use Rattle.law_typing.proofs.EdgeProofs.{channel_is_raised}
use Rattle.law_typing.proofs.OneSolutionProofs.{one_ranking, one_cost, one_depth}

-- ** pairs that are apart

-- two channels are not one
abbrev pub Differ : Channel → Channel → Type 0
Differ c e = same_channel c e ≡ false

-- two pairs share no end
abbrev Apart : Channel × Channel → Channel × Channel → Type 0
Apart p q = Differ p.0 q.0 × Differ p.0 q.1 × Differ p.1 q.0 × Differ p.1 q.1

-- no pair has one end twice, and no two share one
abbrev Disjoint : List (Channel × Channel) → Type 0
Disjoint [] = Unit {0}
Disjoint (p ∷ ps) = Differ p.0 p.1 × Each (Apart p) ps × Disjoint ps

differ_back : (c e : Channel) → Differ c e → Differ e c
differ_back c e h = by (same_channel e c) refl
  where
    by : (b : Bool) → same_channel e c ≡ b → same_channel e c ≡ false
    by false k = k
    by true k = absurd (let s = same_channel_true e c k in let r = same_channel_refl c in let t = ap (λ x. same_channel c x) s in cc)

-- a channel is the second of no pair
first_of_none : (ps : List (Channel × Channel)) (c : Channel) → Each (λ (q : Channel × Channel). Differ q.1 c) ps → node_in ps c ≡ c
first_of_none [] c all = refl
first_of_none (q ∷ ps) c all = ap (λ b. cond b q.0 (node_in ps c)) all.0 ∙ first_of_none ps c all.1

each_to : {A : Type 0} (P Q : A → Type 0) (xs : List A) → ((x : A) → P x → Q x) → Each P xs → Each Q xs
each_to P Q [] f all = tt
each_to P Q (x ∷ xs) f all = (f x all.0, each_to P Q xs f all.1)

-- what differs from the ends of all pairs differs from both that are found
found_apart : (ps : List (Channel × Channel)) (p c e : Channel) → Each (λ (q : Channel × Channel). Differ p q.0 × Differ p q.1) ps → other_end_in ps c ≡ Some e → Differ p e
found_apart [] p c e all is = absurd (cc)
found_apart (q ∷ ps) p c e all is = by (same_channel q.0 c) (same_channel q.1 c) is (found_apart ps p c e all.1)
  where
    by : (a b : Bool) → cond a (Some q.1) (cond b (Some q.0) (other_end_in ps c)) ≡ Some e → (other_end_in ps c ≡ Some e → Differ p e) → Differ p e
    by true b k more = let s : q.1 ≡ e = cc in subst (Differ p) s all.0.1
    by false true k more = let s : q.0 ≡ e = cc in subst (Differ p) s all.0.0
    by false false k more = more k

one_node : (ps : List (Channel × Channel)) (c e : Channel) → Disjoint ps → other_end_in ps c ≡ Some e → node_in ps c ≡ node_in ps e
one_node [] c e apart is = absurd (cc)
one_node (p ∷ ps) c e apart is = by (same_channel p.0 c) (same_channel p.1 c) refl refl is (one_node ps c e apart.2)
  where
    -- the first end is its own node
    first : node_in (p ∷ ps) p.0 ≡ p.0
    first =
        ap (λ b. cond b p.0 (node_in ps p.0)) (differ_back p.0 p.1 apart.0)
        ∙ first_of_none ps p.0 (each_to (Apart p) (λ (q : Channel × Channel). Differ q.1 p.0) ps (λ q h. differ_back p.0 q.1 h.1) apart.1)

    second : node_in (p ∷ ps) p.1 ≡ p.0
    second = ap (λ b. cond b p.0 (node_in ps p.1)) (same_channel_refl p.1)

    by : (a b : Bool) → same_channel p.0 c ≡ a → same_channel p.1 c ≡ b → cond a (Some p.1) (cond b (Some p.0) (other_end_in ps c)) ≡ Some e →
        (other_end_in ps c ≡ Some e → node_in ps c ≡ node_in ps e) → node_in (p ∷ ps) c ≡ node_in (p ∷ ps) e
    by true b h k is more =
        let s : p.1 ≡ e = cc in
        let f = same_channel_true p.0 c h in
        subst (λ x. node_in (p ∷ ps) x ≡ node_in (p ∷ ps) e) f (subst (λ x. node_in (p ∷ ps) p.0 ≡ node_in (p ∷ ps) x) s (first ∙ sym second))
    by false true h k is more =
        let s : p.0 ≡ e = cc in
        let f = same_channel_true p.1 c k in
        subst (λ x. node_in (p ∷ ps) x ≡ node_in (p ∷ ps) e) f (subst (λ x. node_in (p ∷ ps) p.1 ≡ node_in (p ∷ ps) x) s (second ∙ sym first))
    by false false h k is more =
        let other = found_apart ps p.1 c e (each_to (Apart p) (λ (q : Channel × Channel). Differ p.1 q.0 × Differ p.1 q.1) ps (λ q h. (h.2, h.3)) apart.1) is in
        ap (λ b. cond b p.0 (node_in ps c)) k ∙ (more is ∙ sym (ap (λ b. cond b p.0 (node_in ps e)) other))

-- ** what no fault says

no_word : (binding : ℕ) (w : Option BindingWord) → fault_of binding w ≡ [] → w ≡ None
no_word binding None e = refl
no_word binding (Some w) e = absurd (cc)

-- no binding breaks a rule
pub no_words : (d : Definition) (n : ℕ) (bs : List Bind) → faults_from d n bs ≡ [] → Each (λ b. word_of d b ≡ None) bs
no_words d n [] e = tt
no_words d n (b ∷ bs) e =
    let parts = both_empty (fault_of n (word_of d b)) (faults_from d (suc n) bs) e in
    (no_word n (word_of d b) parts.0, no_words d (suc n) bs parts.1)

or_word_none : (test : Bool) (w : BindingWord) (next : Option BindingWord) → or_word test w next ≡ None → (test ≡ true) × (next ≡ None)
or_word_none true w next e = (refl, e)
or_word_none false w next e = absurd (cc)

first_word_none : (a b : Option BindingWord) → first_word a b ≡ None → (a ≡ None) × (b ≡ None)
first_word_none None b e = (refl, e)
first_word_none (Some w) b e = absurd (cc)

-- a binding without a fault has a source that can be read
readable_source : (d : Definition) (inverts : Bool) (s t : Option Spec) → word_between d inverts s t ≡ None → is_readable_one s ≡ true
readable_source d inverts None t e = absurd (cc)
readable_source d inverts (Some s) None e = absurd (cc)
readable_source d inverts (Some s) (Some t) e =
    (or_word_none (is_readable s) words.readable
    (or_word (is_writable t) words.writable
    (or_word (not (is_construct_only t)) words.construct_only
    (or_word (is_transformable d.types s.kind t.kind) words.kinds (or_word (is_invertible inverts s.kind t.kind) words.invert None)))) e).0

-- both ends of a pair can be read, and are two
pub record PairRead (d : Definition) (b : Bind) : Type 0 where
  pub two : Differ (source_of b) (target_of b)
  pub source : is_channel d (source_of b) ≡ true
  pub target : is_channel d (target_of b) ≡ true

not_true : (b : Bool) → not b ≡ true → b ≡ false
not_true true e = absurd (cc)
not_true false e = refl

pub pair_read : (d : Definition) (b : Bind) → is_pair b ≡ true → word_of d b ≡ None → PairRead d b
pair_read d b pair e =
    let forwards = word_between d (has_flags 4 b.flags) (spec_at d b.source b.source_slot) (spec_at d b.target b.target_slot) in
    let backwards = word_between d (has_flags 4 b.flags) (spec_at d b.target b.target_slot) (spec_at d b.source b.source_slot) in
    let one = or_word_none (not (same_channel (source_of b) (target_of b))) words.same (first_word forwards (cond (is_pair b) backwards None)) e in
    let two = first_word_none forwards (cond (is_pair b) backwards None) one.1 in
    record {
      two = not_true (same_channel (source_of b) (target_of b)) one.0;
      source = readable_source d (has_flags 4 b.flags) (spec_at d b.source b.source_slot) (spec_at d b.target b.target_slot) two.0;
      target =
          readable_source d (has_flags 4 b.flags) (spec_at d b.target b.target_slot) (spec_at d b.source b.source_slot)
          (subst (λ p. cond p backwards None ≡ None) pair two.1);
    }

-- ** no second pair

abbrev pub NoSecond : List Bind → List Bind → Type 0
NoSecond earlier [] = Unit {0}
NoSecond earlier (b ∷ bs) = (is_second earlier b ≡ false) × NoSecond (b ∷ earlier) bs

no_fault : (test : Bool) (fault : Fault) → cond test (fault ∷ []) [] ≡ [] → test ≡ false
no_fault true fault e = absurd (cc)
no_fault false fault e = refl

pub no_second : (earlier : List Bind) (n : ℕ) (bs : List Bind) → second_from earlier n bs ≡ [] → NoSecond earlier bs
no_second earlier n [] e = tt
no_second earlier n (b ∷ bs) e =
    let parts = both_empty (cond (is_second earlier b) (words.second_pair n ∷ []) []) (second_from (b ∷ earlier) (suc n) bs) e in
    (no_fault (is_second earlier b) (words.second_pair n) parts.0, no_second (b ∷ earlier) (suc n) bs parts.1)

none_passes : {A : Type 0} (test : A → Bool) (xs : List A) (x : A) → list_any test xs ≡ false → IsIn x xs → test x ≡ false
none_passes test [] x e h = absurd h
none_passes test (y ∷ ys) x e (inl s) = ap test s ∙ (or_parts (test y) (list_any test ys) e).0
none_passes test (y ∷ ys) x e (inr h) = none_passes test ys x (or_parts (test y) (list_any test ys) e).1 h

second_part : (a b : Bool) → (a && b) ≡ false → a ≡ true → b ≡ false
second_part true b e h = e
second_part false b e h = absurd (cc)

-- a later pair shares no end
pub later_apart : (b : Bind) (earlier bs : List Bind) → is_pair b ≡ true → IsIn b earlier → NoSecond earlier bs → Each (λ x. is_pair x ≡ true → shares_end b x ≡ false) bs
later_apart b earlier [] pair there none = tt
later_apart b earlier (x ∷ bs) pair there none = (
  λ h.
      let any = second_part (is_pair x) (list_any (λ a. is_pair a && shares_end a x) earlier) none.0 h in
      second_part (is_pair b) (shares_end b x) (none_passes (λ a. is_pair a && shares_end a x) earlier b any there) pair,
  later_apart b (x ∷ earlier) bs pair (inr there) none.1,
)

-- ** the pairs of a definition are disjoint

order_differ : (c e : Channel) → Differ c e → Differ (in_order c e).0 (in_order c e).1
order_differ c e h = by (is_before e c)
  where
    by : (b : Bool) → Differ (cond {A = Channel × Channel} b (e, c) (c, e)).0 (cond {A = Channel × Channel} b (e, c) (c, e)).1
    by true = differ_back c e h
    by false = h

order_apart : (a b x y : Channel) → Differ a x → Differ a y → Differ b x → Differ b y → Apart (in_order a b) (in_order x y)
order_apart a b x y ax ay bx by_ = by (is_before b a) (is_before y x)
  where
    by : (p q : Bool) → Apart (cond p (b, a) (a, b)) (cond q (y, x) (x, y))
    by true true = (by_, bx, ay, ax)
    by true false = (bx, by_, ax, ay)
    by false true = (ay, ax, by_, bx)
    by false false = (ax, ay, bx, by_)

binds_apart : (a b : Bind) → shares_end a b ≡ false → Apart (in_order (source_of a) (target_of a)) (in_order (source_of b) (target_of b))
binds_apart a b e =
    let h =
    or_parts (same_channel (source_of a) (source_of b) || same_channel (source_of a) (target_of b))
    (same_channel (target_of a) (source_of b) || same_channel (target_of a) (target_of b)) e in
    let s = or_parts (same_channel (source_of a) (source_of b)) (same_channel (source_of a) (target_of b)) h.0 in
    let t = or_parts (same_channel (target_of a) (source_of b)) (same_channel (target_of a) (target_of b)) h.1 in
    order_apart (source_of a) (target_of a) (source_of b) (target_of b) s.0 s.1 t.0 t.1

each_pair : (P : Channel × Channel → Type 0) (bs : List Bind) → Each (λ x. is_pair x ≡ true → P (in_order (source_of x) (target_of x))) bs → Each P (pairs_of bs)
each_pair P [] all = tt
each_pair P (b ∷ bs) all = by (is_pair b) refl (each_pair P bs all.1)
  where
    by : (p : Bool) → is_pair b ≡ p → Each P (pairs_of bs) →
        Each P (map (λ x. in_order (source_of x) (target_of x)) (cond p (b ∷ filter is_pair bs) (filter is_pair bs)))
    by true h rest = (all.0 h, rest)
    by false h rest = rest

disjoint : (d : Definition) (earlier bs : List Bind) → Each (λ b. word_of d b ≡ None) bs → NoSecond earlier bs → Disjoint (pairs_of bs)
disjoint d earlier [] all none = tt
disjoint d earlier (b ∷ bs) all none = by (is_pair b) refl (disjoint d (b ∷ earlier) bs all.1 none.1)
  where
    by : (p : Bool) → is_pair b ≡ p → Disjoint (pairs_of bs) → Disjoint (map (λ x. in_order (source_of x) (target_of x)) (cond p (b ∷ filter is_pair bs) (filter is_pair bs)))
    by true h rest = (
      order_differ (source_of b) (target_of b) (pair_read d b h all.0).two,
      each_pair (Apart (in_order (source_of b) (target_of b))) bs
          (each_to (λ x. is_pair x ≡ true → shares_end b x ≡ false) (λ x. is_pair x ≡ true → Apart (in_order (source_of b) (target_of b)) (in_order (source_of x) (target_of x))) bs
          (λ x f k. binds_apart b x (f k)) (later_apart b (b ∷ earlier) bs h (inl refl) none.1)),
      rest,
    )
    by false h rest = rest

-- ** an end of a pair is a channel

end_in : (P : Channel → Type 0) (ps : List (Channel × Channel)) (c e : Channel) → Each (λ (p : Channel × Channel). P p.0 × P p.1) ps → other_end_in ps c ≡ Some e → P c
end_in P [] c e all is = absurd (cc)
end_in P (p ∷ ps) c e all is = by (same_channel p.0 c) (same_channel p.1 c) refl refl is (end_in P ps c e all.1)
  where
    by : (a b : Bool) → same_channel p.0 c ≡ a → same_channel p.1 c ≡ b → cond a (Some p.1) (cond b (Some p.0) (other_end_in ps c)) ≡ Some e → (other_end_in ps c ≡ Some e → P c) → P c
    by true b h k f more = subst P (same_channel_true p.0 c h) all.0.0
    by false true h k f more = subst P (same_channel_true p.1 c k) all.0.1
    by false false h k f more = more f

order_both : (P : Channel → Type 0) (c e : Channel) → P c → P e → P (in_order c e).0 × P (in_order c e).1
order_both P c e x y = by (is_before e c)
  where
    by : (b : Bool) → P (cond {A = Channel × Channel} b (e, c) (c, e)).0 × P (cond {A = Channel × Channel} b (e, c) (c, e)).1
    by true = (y, x)
    by false = (x, y)

readable_ends : (d : Definition) (bs : List Bind) → Each (λ b. word_of d b ≡ None) bs → Each (λ b. is_pair b ≡ true → PairRead d b) bs
readable_ends d [] all = tt
readable_ends d (b ∷ bs) all = (λ h. pair_read d b h all.0, readable_ends d bs all.1)

pub paired_by : (d : Definition) → binding_faults d ≡ [] → pair_faults d ≡ [] → IsPaired (graph d)
paired_by d bindings pairs =
    let none = no_words d 0 d.bindings bindings in
    let apart = disjoint d [] d.bindings none (no_second [] 0 d.bindings pairs) in
    let ends =
    each_pair (λ (p : Channel × Channel). (is_channel d p.0 ≡ true) × (is_channel d p.1 ≡ true)) d.bindings
    (each_to (λ b. is_pair b ≡ true → PairRead d b)
    (λ b. is_pair b ≡ true → (is_channel d (in_order (source_of b) (target_of b)).0 ≡ true) × (is_channel d (in_order (source_of b) (target_of b)).1 ≡ true)) d.bindings
    (λ b f h. let r = f h in order_both (λ c. is_channel d c ≡ true) (source_of b) (target_of b) r.source r.target)
    (readable_ends d d.bindings none)) in
    record {
      node = λ c e is. one_node (pairs_of d.bindings) c e apart is;
      raised = λ c e is h. channel_is_raised d c (end_in (λ c. is_channel d c ≡ true) (pairs_of d.bindings) c e ends is);
    }

pub accepted_is_paired : AcceptedIsPaired
accepted_is_paired d a = paired_by d a.bindings a.pairs

pub accepted_once : AcceptedOnce
accepted_once d a b =
    let paired = accepted_is_paired d a in (
      one_ranking (graph d) a.weighed.ranks b.weighed.ranks a.weighed.ranking b.weighed.ranking,
      one_cost (graph d) a.weighed.ranks a.weighed.ranking paired a.weighed.costs b.weighed.costs a.weighed.solves_costs b.weighed.solves_costs,
      one_depth (graph d) a.weighed.ranks a.weighed.ranking paired a.weighed.depths b.weighed.depths a.weighed.solves_depths b.weighed.solves_depths,
    )
