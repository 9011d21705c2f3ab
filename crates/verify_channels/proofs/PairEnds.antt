-- The pairs of a definition that breaks no rule: both ends of each are channels, they name each other, and no two pairs share one.
use Rattle.std.proofs.Common.{◌≡◌, ◌∙◌, inl, inr, ◌⊎◌, refl, sym, ap, subst, Bool, true, false, cond, List, [], ◌∷◌, map, Option, None, Some}
use Rattle.std.specs.Prelude.{◌&&◌, ◌||◌, is_some, option_and_then}
use Rattle.std.specs.List.{filter}
use Rattle.std.proofs.lemmas.Bool.{or_parts}
use Rattle.std.proofs.lemmas.Option.{none-some, same_Some}
use Rattle.ui_machine.specs.Definition.{Definition}
use Rattle.ui_machine.specs.Definition.Places.{Bind}
use Rattle.law_typing.specs.Graph.{in_order, is_before, pairs_of}
use Rattle.law_typing.specs.Graph.Channels.{Channel, is_pair, is_paired, partner_in, same_channel, source_of, target_of}
use Rattle.law_typing.specs.Graph.Costs.{other_end, other_end_in}
use Rattle.law_typing.specs.Graph.Ranks.{node_in}
use Rattle.law_typing.specs.Rules.BindingRules.{binding_faults, pair_faults, shares_end, word_of}
use Rattle.law_typing.specs.Verdict.Accepted.{Each}
use Rattle.law_typing.proofs.Lists.{same_channel_refl, same_channel_true}
use Rattle.law_typing.proofs.PairProofs.{NoSecond, later_apart, no_second, no_words, pair_read}
use Rattle.verify_sketches.specs.Sketches.{IsRaisedProperty, channels_in}
use Rattle.law_idle.specs.Idle.{busy_graph}
use Rattle.verify_graph.specs.Numbers.{number_of}
use Rattle.verify_graph.specs.Paired.{HaveNumbers, other_number}
use Rattle.verify_channels.proofs.GraphChannels.{busy_is_raised, has_number}

-- ** pairs that are apart

abbrev Differ : Channel → Channel → Type 0
Differ c e = same_channel c e ≡ false

abbrev Apart : Channel × Channel → Channel × Channel → Type 0
Apart p q = Differ p.0 q.0 × Differ p.0 q.1 × Differ p.1 q.0 × Differ p.1 q.1

-- no pair has one end twice, and no two share one
abbrev pub Disjoint : List (Channel × Channel) → Type 0
Disjoint [] = Unit {0}
Disjoint (p ∷ ps) = (same_channel p.0 p.1 ≡ false) × Each (λ (q : Channel × Channel).
    (same_channel p.0 q.0 ≡ false) × (same_channel p.0 q.1 ≡ false) × (same_channel p.1 q.0 ≡ false) × (same_channel p.1 q.1 ≡ false)) ps × Disjoint ps

differ_back : (c e : Channel) → Differ c e → Differ e c
differ_back c e h = by (same_channel e c) refl
  where
    by : (b : Bool) → same_channel e c ≡ b → same_channel e c ≡ false
    by false k = k
    by true k = absurd (let s = same_channel_true e c k in let r = same_channel_refl c in let t = ap (λ x. same_channel c x) s in cc)

-- what differs from the ends of all pairs differs from what is found as an end
found_apart : (ps : List (Channel × Channel)) (p c e : Channel) → Each (λ (q : Channel × Channel). Differ p q.0 × Differ p q.1) ps → other_end_in ps c ≡ Some e → Differ p e × Differ p c
found_apart [] p c e all is = absurd (none-some e is)
found_apart (q ∷ ps) p c e all is = by (same_channel q.0 c) (same_channel q.1 c) refl refl is (found_apart ps p c e all.1)
  where
    by : (a b : Bool) → same_channel q.0 c ≡ a → same_channel q.1 c ≡ b → cond a (Some q.1) (cond b (Some q.0) (other_end_in ps c)) ≡ Some e →
        (other_end_in ps c ≡ Some e → Differ p e × Differ p c) → Differ p e × Differ p c
    by true b f g k more = (subst (Differ p) (same_Some _ _ k) all.0.1, subst (Differ p) (same_channel_true q.0 c f) all.0.0)
    by false true f g k more = (subst (Differ p) (same_Some _ _ k) all.0.0, subst (Differ p) (same_channel_true q.1 c g) all.0.1)
    by false false f g k more = more k

each_to : {A : Type 0} (P Q : A → Type 0) (xs : List A) → ((x : A) → P x → Q x) → Each P xs → Each Q xs
each_to P Q [] f all = tt
each_to P Q (x ∷ xs) f all = (f x all.0, each_to P Q xs f all.1)

-- no pair leads to a channel that is the second of none
own_node : (ps : List (Channel × Channel)) (c : Channel) → Each (λ (q : Channel × Channel). Differ q.1 c) ps → node_in ps c ≡ c
own_node [] c all = refl
own_node (q ∷ ps) c all = ap (λ b. cond b q.0 (node_in ps c)) all.0 ∙ own_node ps c all.1

-- what a pair with an end says of both: they name each other, have one node, and that is one of them
pub record Ends (ps : List (Channel × Channel)) (c e : Channel) : Type 0 where
  pub back : other_end_in ps e ≡ Some c
  pub node : node_in ps c ≡ node_in ps e
  pub one : (node_in ps c ≡ c) ⊎ (node_in ps c ≡ e)

pub ends_of : (ps : List (Channel × Channel)) (c e : Channel) → Disjoint ps → other_end_in ps c ≡ Some e → Ends ps c e
ends_of [] c e apart is = absurd (none-some e is)
ends_of (p ∷ ps) c e apart is = by (same_channel p.0 c) (same_channel p.1 c) refl refl is (ends_of ps c e apart.2)
  where
    first_node : node_in (p ∷ ps) p.0 ≡ p.0
    first_node =
        ap (λ b. cond b p.0 (node_in ps p.0)) (differ_back p.0 p.1 apart.0)
        ∙ own_node ps p.0 (each_to (λ (q : Channel × Channel).
        (same_channel p.0 q.0 ≡ false) × (same_channel p.0 q.1 ≡ false) × (same_channel p.1 q.0 ≡ false) × (same_channel p.1 q.1 ≡ false))
        (λ (q : Channel × Channel). Differ q.1 p.0) ps (λ q h. differ_back p.0 q.1 h.1) apart.1)

    second_node : node_in (p ∷ ps) p.1 ≡ p.0
    second_node = ap (λ b. cond b p.0 (node_in ps p.1)) (same_channel_refl p.1)

    first_end : other_end_in (p ∷ ps) p.0 ≡ Some p.1
    first_end = ap (λ b. cond b (Some p.1) (cond (same_channel p.1 p.0) (Some p.0) (other_end_in ps p.0))) (same_channel_refl p.0)

    second_end : other_end_in (p ∷ ps) p.1 ≡ Some p.0
    second_end =
        ap (λ b. cond b (Some p.1) (cond (same_channel p.1 p.1) (Some p.0) (other_end_in ps p.1))) apart.0
        ∙ ap (λ b. cond b (Some p.0) (other_end_in ps p.1)) (same_channel_refl p.1)

    -- the first end and the second
    forth : Ends (p ∷ ps) p.0 p.1
    forth = record { back = second_end; node = first_node ∙ sym second_node; one = inl first_node }

    from : Ends (p ∷ ps) p.1 p.0
    from = record { back = first_end; node = second_node ∙ sym first_node; one = inr second_node }

    by : (a b : Bool) → same_channel p.0 c ≡ a → same_channel p.1 c ≡ b → cond a (Some p.1) (cond b (Some p.0) (other_end_in ps c)) ≡ Some e →
        (other_end_in ps c ≡ Some e → Ends ps c e) → Ends (p ∷ ps) c e
    by true b f g k more = subst (λ x. Ends (p ∷ ps) x e) (same_channel_true p.0 c f) (subst (λ x. Ends (p ∷ ps) p.0 x) (same_Some _ _ k) forth)
    by false true f g k more = subst (λ x. Ends (p ∷ ps) x e) (same_channel_true p.1 c g) (subst (λ x. Ends (p ∷ ps) p.1 x) (same_Some _ _ k) from)
    by false false f g k more =
        let later = more k in
        let x = found_apart ps p.0 c e (each_to (λ (q : Channel × Channel).
        (same_channel p.0 q.0 ≡ false) × (same_channel p.0 q.1 ≡ false) × (same_channel p.1 q.0 ≡ false) × (same_channel p.1 q.1 ≡ false))
        (λ (q : Channel × Channel). Differ p.0 q.0 × Differ p.0 q.1) ps (λ q h. (h.0, h.1)) apart.1) k in
        let y = found_apart ps p.1 c e (each_to (λ (q : Channel × Channel).
        (same_channel p.0 q.0 ≡ false) × (same_channel p.0 q.1 ≡ false) × (same_channel p.1 q.0 ≡ false) × (same_channel p.1 q.1 ≡ false))
        (λ (q : Channel × Channel). Differ p.1 q.0 × Differ p.1 q.1) ps (λ q h. (h.2, h.3)) apart.1) k in
        let here : node_in (p ∷ ps) c ≡ node_in ps c = ap (λ b. cond b p.0 (node_in ps c)) y.1 in
        let there : node_in (p ∷ ps) e ≡ node_in ps e = ap (λ b. cond b p.0 (node_in ps e)) y.0 in
        record {
          back =
              ap (λ b. cond b (Some p.1) (cond (same_channel p.1 e) (Some p.0) (other_end_in ps e))) x.0
              ∙ (ap (λ b. cond b (Some p.0) (other_end_in ps e)) y.0 ∙ later.back);
          node = here ∙ (later.node ∙ sym there);
          one = elim later.one [ inl h ↦ inl (here ∙ h) | inr h ↦ inr (here ∙ h) ];
        }

-- a channel with no other end is its own node
pub alone_node : (ps : List (Channel × Channel)) (c : Channel) → other_end_in ps c ≡ None → node_in ps c ≡ c
alone_node [] c is = refl
alone_node (p ∷ ps) c is = by (same_channel p.0 c) (same_channel p.1 c) refl is (alone_node ps c)
  where
    by : (a b : Bool) → same_channel p.1 c ≡ b → cond a (Some p.1) (cond b (Some p.0) (other_end_in ps c)) ≡ None → (other_end_in ps c ≡ None → node_in ps c ≡ c) →
        cond (same_channel p.1 c) p.0 (node_in ps c) ≡ c
    by true b g k more = absurd (none-some _ (sym k))
    by false true g k more = absurd (none-some _ (sym k))
    by false false g k more = ap (λ x. cond x p.0 (node_in ps c)) g ∙ more k

-- ** the pairs of a definition

order_differ : (c e : Channel) → Differ c e → Differ (in_order c e).0 (in_order c e).1
order_differ c e h = by (is_before e c)
  where
    by : (b : Bool) → Differ (cond {A = Channel × Channel} b (e, c) (c, e)).0 (cond {A = Channel × Channel} b (e, c) (c, e)).1
    by true = differ_back c e h
    by false = h

order_apart : (a b x y : Channel) → Differ a x → Differ a y → Differ b x → Differ b y → Apart (in_order a b) (in_order x y)
order_apart a b x y ax ay bx by_ = by (is_before b a) (is_before y x)
  where
    by : (p q : Bool) → Apart (cond p (b, a) (a, b)) (cond q (y, x) (x, y))
    by true true = (by_, bx, ay, ax)
    by true false = (bx, by_, ax, ay)
    by false true = (ay, ax, by_, bx)
    by false false = (ax, ay, bx, by_)

binds_apart : (a b : Bind) → shares_end a b ≡ false → Apart (in_order (source_of a) (target_of a)) (in_order (source_of b) (target_of b))
binds_apart a b e =
    let h =
    or_parts (same_channel (source_of a) (source_of b) || same_channel (source_of a) (target_of b))
    (same_channel (target_of a) (source_of b) || same_channel (target_of a) (target_of b)) e in
    let s = or_parts (same_channel (source_of a) (source_of b)) (same_channel (source_of a) (target_of b)) h.0 in
    let t = or_parts (same_channel (target_of a) (source_of b)) (same_channel (target_of a) (target_of b)) h.1 in
    order_apart (source_of a) (target_of a) (source_of b) (target_of b) s.0 s.1 t.0 t.1

each_pair : (P : Channel × Channel → Type 0) (bs : List Bind) → Each (λ x. is_pair x ≡ true → P (in_order (source_of x) (target_of x))) bs → Each P (pairs_of bs)
each_pair P [] all = tt
each_pair P (b ∷ bs) all = by (is_pair b) refl (each_pair P bs all.1)
  where
    by : (p : Bool) → is_pair b ≡ p → Each P (pairs_of bs) →
        Each P (map (λ x. in_order (source_of x) (target_of x)) (cond p (b ∷ filter is_pair bs) (filter is_pair bs)))
    by true h rest = (all.0 h, rest)
    by false h rest = rest

disjoint : (d : Definition) (earlier bs : List Bind) → Each (λ b. word_of d b ≡ None) bs → NoSecond earlier bs → Disjoint (pairs_of bs)
disjoint d earlier [] all none = tt
disjoint d earlier (b ∷ bs) all none = by (is_pair b) refl (disjoint d (b ∷ earlier) bs all.1 none.1)
  where
    by : (p : Bool) → is_pair b ≡ p → Disjoint (pairs_of bs) → Disjoint (map (λ x. in_order (source_of x) (target_of x)) (cond p (b ∷ filter is_pair bs) (filter is_pair bs)))
    by true h rest = (
      order_differ (source_of b) (target_of b) (pair_read d b h all.0).two,
      each_pair (Apart (in_order (source_of b) (target_of b))) bs
          (each_to (λ x. is_pair x ≡ true → shares_end b x ≡ false) (λ x. is_pair x ≡ true → Apart (in_order (source_of b) (target_of b)) (in_order (source_of x) (target_of x))) bs
          (λ x f k. binds_apart b x (f k)) (later_apart b (b ∷ earlier) bs h (inl refl) none.1)),
      rest,
    )
    by false h rest = rest

pub pairs_disjoint : (d : Definition) → binding_faults d ≡ [] → pair_faults d ≡ [] → Disjoint (pairs_of d.bindings)
pairs_disjoint d bindings pairs = disjoint d [] d.bindings (no_words d 0 d.bindings bindings) (no_second [] 0 d.bindings pairs)

-- ** their ends have numbers

order_both : (P : Channel → Type 0) (c e : Channel) → P c → P e → P (in_order c e).0 × P (in_order c e).1
order_both P c e x y = by (is_before e c)
  where
    by : (b : Bool) → P (cond {A = Channel × Channel} b (e, c) (c, e)).0 × P (cond {A = Channel × Channel} b (e, c) (c, e)).1
    by true = (y, x)
    by false = (x, y)

have_numbers : (d : Definition) (bs : List Bind) → Each (λ b. word_of d b ≡ None) bs → HaveNumbers (channels_in (busy_graph d)) (pairs_of bs)
have_numbers d [] all = tt
have_numbers d (b ∷ bs) all = by (is_pair b) refl (have_numbers d bs all.1)
  where
    by : (p : Bool) → is_pair b ≡ p → HaveNumbers (channels_in (busy_graph d)) (pairs_of bs) →
        HaveNumbers (channels_in (busy_graph d)) (map (λ x. in_order (source_of x) (target_of x)) (cond p (b ∷ filter is_pair bs) (filter is_pair bs)))
    by true h rest =
        let r = pair_read d b h all.0 in
        let both = order_both (λ c. is_some (number_of (channels_in (busy_graph d)) c) ≡ true) (source_of b) (target_of b) (has_number d (source_of b) refl r.source) (has_number d (target_of b) refl r.target) in
        (both.0, both.1, rest)
    by false h rest = rest

pub pairs_numbered : (d : Definition) → binding_faults d ≡ [] → HaveNumbers (channels_in (busy_graph d)) (pairs_of d.bindings)
pairs_numbered d bindings = have_numbers d d.bindings (no_words d 0 d.bindings bindings)

-- ** only properties that are raised are in pairs

-- what has another end is an end of a pair
end_is : (P : Channel → Type 0) (ps : List (Channel × Channel)) (c e : Channel) → Each (λ (p : Channel × Channel). P p.0 × P p.1) ps → other_end_in ps c ≡ Some e → P c
end_is P [] c e all is = absurd (none-some e is)
end_is P (p ∷ ps) c e all is = by (same_channel p.0 c) (same_channel p.1 c) refl refl is (end_is P ps c e all.1)
  where
    by : (a b : Bool) → same_channel p.0 c ≡ a → same_channel p.1 c ≡ b → cond a (Some p.1) (cond b (Some p.0) (other_end_in ps c)) ≡ Some e →
        (other_end_in ps c ≡ Some e → P c) → P c
    by true b f g k more = subst P (same_channel_true p.0 c f) all.0.0
    by false true f g k more = subst P (same_channel_true p.1 c g) all.0.1
    by false false f g k more = more k

pub ends_raised : (d : Definition) → binding_faults d ≡ [] → (c e : Channel) → other_end (busy_graph d) c ≡ Some e → IsRaisedProperty (busy_graph d) c
ends_raised d bindings c e is =
    end_is (IsRaisedProperty (busy_graph d)) (pairs_of d.bindings) c e
    (each_pair (λ (p : Channel × Channel). IsRaisedProperty (busy_graph d) p.0 × IsRaisedProperty (busy_graph d) p.1) d.bindings
    (each_to (λ b. word_of d b ≡ None)
    (λ b. is_pair b ≡ true → IsRaisedProperty (busy_graph d) (in_order (source_of b) (target_of b)).0 × IsRaisedProperty (busy_graph d) (in_order (source_of b) (target_of b)).1) d.bindings
    (λ b none h. (let r = pair_read d b h none in
    order_both (IsRaisedProperty (busy_graph d)) (source_of b) (target_of b) (busy_is_raised d (source_of b) refl r.source) (busy_is_raised d (target_of b) refl r.target)))
    (no_words d 0 d.bindings bindings))) is

-- an other end has a number
pub other_has : (all : List Channel) (ps : List (Channel × Channel)) (c e : Channel) → HaveNumbers all ps → other_end_in ps c ≡ Some e → is_some (number_of all e) ≡ true
other_has all [] c e there is = absurd (none-some e is)
other_has all (p ∷ ps) c e there is = by (same_channel p.0 c) (same_channel p.1 c) is (other_has all ps c e there.2)
  where
    by : (a b : Bool) → cond a (Some p.1) (cond b (Some p.0) (other_end_in ps c)) ≡ Some e → (other_end_in ps c ≡ Some e → is_some (number_of all e) ≡ true) →
        is_some (number_of all e) ≡ true
    by true b k more = subst (λ x. is_some (number_of all x) ≡ true) (same_Some _ _ k) there.1
    by false true k more = subst (λ x. is_some (number_of all x) ≡ true) (same_Some _ _ k) there.0
    by false false k more = more k

-- ** pairs and bindings

partner_cases : (s t c : Channel) (later : Option Channel) →
    cond (same_channel s c) (Some t) (cond (same_channel t c) (Some s) later)
    ≡ cond (same_channel (in_order s t).0 c) (Some (in_order s t).1) (cond (same_channel (in_order s t).1 c) (Some (in_order s t).0) later)
partner_cases s t c later = by (is_before t s) (same_channel s c) (same_channel t c) refl refl
  where
    turned : (x y : Bool) → same_channel s c ≡ x → same_channel t c ≡ y →
        cond (same_channel s c) (Some t) (cond (same_channel t c) (Some s) later) ≡ cond (same_channel t c) (Some s) (cond (same_channel s c) (Some t) later)
    turned true true p q =
        let e = same_channel_true s c p in
        let f = same_channel_true t c q in
        let same : t ≡ s = f ∙ sym e in
        ap (λ b. cond b (Some t) (cond (same_channel t c) (Some s) later)) p
        ∙ (ap Some same ∙ sym (ap (λ b. cond b (Some s) (cond (same_channel s c) (Some t) later)) q))
    turned true false p q =
        ap (λ b. cond b (Some t) (cond (same_channel t c) (Some s) later)) p
        ∙ sym (ap (λ b. cond b (Some s) (cond (same_channel s c) (Some t) later)) q ∙ ap (λ b. cond b (Some t) later) p)
    turned false true p q =
        ap (λ b. cond b (Some t) (cond (same_channel t c) (Some s) later)) p
        ∙ (ap (λ b. cond b (Some s) later) q ∙ sym (ap (λ b. cond b (Some s) (cond (same_channel s c) (Some t) later)) q))
    turned false false p q =
        ap (λ b. cond b (Some t) (cond (same_channel t c) (Some s) later)) p
        ∙ (ap (λ b. cond b (Some s) later) q
        ∙ sym (ap (λ b. cond b (Some s) (cond (same_channel s c) (Some t) later)) q ∙ ap (λ b. cond b (Some t) later) p))

    by : (b x y : Bool) → same_channel s c ≡ x → same_channel t c ≡ y →
        cond (same_channel s c) (Some t) (cond (same_channel t c) (Some s) later)
        ≡ cond (same_channel (cond {A = Channel × Channel} b (t, s) (s, t)).0 c) (Some (cond {A = Channel × Channel} b (t, s) (s, t)).1)
        (cond (same_channel (cond {A = Channel × Channel} b (t, s) (s, t)).1 c) (Some (cond {A = Channel × Channel} b (t, s) (s, t)).0) later)
    by true x y p q = turned x y p q
    by false x y p q = refl

pub partner_is : (bs : List Bind) (c : Channel) → partner_in bs c ≡ other_end_in (pairs_of bs) c
partner_is [] c = refl
partner_is (b ∷ bs) c = by (is_pair b) (partner_is bs c)
  where
    by : (p : Bool) → partner_in bs c ≡ other_end_in (pairs_of bs) c →
        cond (p && same_channel (source_of b) c) (Some (target_of b)) (cond (p && same_channel (target_of b) c) (Some (source_of b)) (partner_in bs c))
        ≡ other_end_in (map (λ x. in_order (source_of x) (target_of x)) (cond p (b ∷ filter is_pair bs) (filter is_pair bs))) c
    by true more =
        ap (λ later. cond (same_channel (source_of b) c) (Some (target_of b)) (cond (same_channel (target_of b) c) (Some (source_of b)) later)) more
        ∙ partner_cases (source_of b) (target_of b) c (other_end_in (pairs_of bs) c)
    by false more = more

-- whether a channel is in a pair
pub paired_is : (d : Definition) (all : List Channel) (c : Channel) → HaveNumbers all (pairs_of d.bindings) → is_paired d c ≡ is_some (other_number all (pairs_of d.bindings) c)
paired_is d all c there = ap is_some (partner_is d.bindings c) ∙ by (other_end_in (pairs_of d.bindings) c) refl
  where
    by : (o : Option Channel) → other_end_in (pairs_of d.bindings) c ≡ o → is_some o ≡ is_some (option_and_then (number_of all) o)
    by None is = refl
    by (Some e) is = sym (other_has all (pairs_of d.bindings) c e there is)
