-- Groups of programs that bytecode may connect alike, as connections are put to them.
use Rattle.std.proofs.Common.{◌≡◌, ◌∙◌, inl, inr, ◌⊎◌, refl, sym, ap, subst, ℕ, zero, suc, ◌+◌, ◌<◌, Bool, true, false, cond, List, [], ◌∷◌, ◌++◌, length, map, Vec, Option, None, Some, append-nil, arith}
use Rattle.std.specs.Prelude.{◌&&◌, nat_eq, nat_lt}
use Rattle.std.specs.Global.{Global}
use Rattle.std.specs.BTreeMap.{get, is_at}
use Rattle.std.specs.Map.{lookup}
use Rattle.std.specs.List.{cons_option, filter, filter_map, list_any}
use Rattle.std.proofs.lemmas.Bool.{eqb-true, eq-eqb, ltb-false, ltb-true}
use Rattle.std.proofs.lemmas.List.Elements.{filter-append, filter_map-append}
use Rattle.std.proofs.lemmas.List.{length-append, length-map}
use Rattle.std.proofs.lemmas.Option.{none-some, same_Some}
use Rattle.ui_machine.specs.Seq.{listed, read}
use Rattle.ui_machine.specs.Definition.Kinds.{RegisterKind}
use Rattle.ui_machine.specs.Definition.{Definition}
use Rattle.ui_machine.specs.Definition.Lookups.{place_at}
use Rattle.definition_format.specs.Meaning.{IsBasic}
use Rattle.law_typing.specs.Graph.{Connection, can_mean, may_be_at, place_of_channel}
use Rattle.law_typing.specs.Graph.Channels.{Channel, of_class}
use Rattle.law_typing.specs.Laws.{IsIn}
use Rattle.law_typing.specs.Rules.RegisterKinds.{class_at, covers, places}
use Rattle.law_typing.proofs.CostProofs.{listed_in, place_below}
use Rattle.law_typing.proofs.EdgeProofs.{append_left, append_right}
use Rattle.law_typing.proofs.Lists.{any_in, any_true, filter_in}
use Rattle.verify_graph.specs.Numbering.{Key, compared}
use Rattle.verify_graph.proofs.Numbered.{same_key}
use Rattle.verify_graph.proofs.Prefixes.{mapped_last}
use Rattle.verify_channels.specs.Connected.{AddsGroup, AreConnected, ConnectsMore, IsAlike, connected_at, connection_key, connection_over, groups_for, meant_at, placed, programs_of}
use Rattle.verify_channels.specs.Meanings.{Meant, is_meant, meaning_of, meant, of_signal, signal_of_channel}
use Rattle.verify_channels.specs.declared.connections.Connects.{Connects}
use Rattle.verify_channels.specs.declared.connections.PlacedGroup.{PlacedGroup}
use Rattle.verify_channels.specs.declared.signal_lists.SignalLists.{SignalLists}
use Rattle.verify_channels.proofs.ConnectionKeys.{same_channels}
use Rattle.verify_channels.proofs.MeantLists.{meant_both, meant_is, meant_of_signal}

-- ** members

pub in_both : {A : Type 0} (xs ys : List A) (x : A) → IsIn x (xs ++ ys) → IsIn x xs ⊎ IsIn x ys
in_both [] ys x h = inr h
in_both (y ∷ xs) ys x (inl e) = inl (inl e)
in_both (y ∷ xs) ys x (inr h) = elim (in_both xs ys x h) [ inl k ↦ inl (inr k) | inr k ↦ inr k ]

-- the only entry
one_in : {A : Type 0} (b : Bool) (y x : A) → IsIn x (cond b (y ∷ []) []) → (b ≡ true) × (x ≡ y)
one_in true y x (inl e) = (refl, e)
one_in true y x (inr h) = absurd h
one_in false y x h = absurd h

in_one : {A : Type 0} (b : Bool) (x : A) → b ≡ true → IsIn x (cond b (x ∷ []) [])
in_one true x e = inl refl
in_one false x e = absurd (cc)

read_front : {A : Type 0} (none : A) (xs ys : List A) (n : ℕ) → n < length xs → read none (xs ++ ys) n ≡ read none xs n
read_front none [] ys n low = absurd (omega (arith, low))
read_front none (x ∷ xs) ys zero low = refl
read_front none (x ∷ xs) ys (suc n) low = read_front none xs ys n (omega (arith, low))

read_last : {A : Type 0} (none : A) (xs : List A) (x : A) (n : ℕ) → n ≡ length xs → read none (xs ++ x ∷ []) n ≡ x
read_last none [] x zero e = refl
read_last none [] x (suc n) e = absurd (omega (arith, e))
read_last none (y ∷ xs) x zero e = absurd (omega (arith, e))
read_last none (y ∷ xs) x (suc n) e = read_last none xs x n (omega (arith, e))

-- ** where a connection may be

in_filter : {A : Type 0} (test : A → Bool) (xs : List A) (x : A) → IsIn x (filter test xs) → test x ≡ true
in_filter test [] x h = absurd h
in_filter {A} test (y ∷ ys) x h = by (test y) refl h (in_filter test ys x)
  where
    by : (b : Bool) → test y ≡ b → IsIn x (cond b (y ∷ filter test ys) (filter test ys)) → (IsIn x (filter test ys) → test x ≡ true) → test x ≡ true
    by true e (inl s) later = ap test s ∙ e
    by true e (inr k) later = later k
    by false e k later = later k

-- a place is among those that a kind covers where it covers it
any_covered : (test : ℕ → Bool) (p count : ℕ) → p < count → list_any (nat_eq p) (filter test (listed (λ i. i) count)) ≡ test p
any_covered test p count low = by (list_any (nat_eq p) (filter test (listed (λ i. i) count))) refl (test p) refl
  where
    by : (x : Bool) → list_any (nat_eq p) (filter test (listed (λ i. i) count)) ≡ x → (y : Bool) → test p ≡ y → x ≡ y
    by true found true e = refl
    by false found false e = refl
    by true found false e =
        let h = any_in (nat_eq p) (filter test (listed (λ i. i) count)) found in
        let same : p ≡ h.0 = eqb-true p h.0 h.2 in
        let t = in_filter test (listed (λ i. i) count) h.0 h.1 in
        let u : test p ≡ true = ap test same ∙ t in
        absurd (cc)
    by false found true e =
        let there = filter_in test (listed (λ i. i) count) p e (listed_in (λ i. i) count p low) in
        let t = any_true (nat_eq p) (filter test (listed (λ i. i) count)) p there (eq-eqb p p refl) in
        absurd (cc)

-- ** one more connection

only : (p q : ℕ) → IsIn q (p ∷ []) → q ≡ p
only p q (inl e) = e
only p q (inr h) = absurd h

connected_both : (d : Definition) (ns : List Connection) (n : Connection) (c : Channel) (class : ℕ) →
    connected_at d (ns ++ n ∷ []) c class ≡ connected_at d ns c class ++ connected_at d (n ∷ []) c class
connected_both d ns n c class =
    ap (filter_map (λ (x : Connection). x.program)) (filter-append (may_be_at d c class) ns (n ∷ []))
    ∙ filter_map-append (λ (x : Connection). x.program) (filter (may_be_at d c class) ns) (filter (may_be_at d c class) (n ∷ []))

-- what one connection of a program gives
connected_one : (d : Definition) (n : Connection) (p : ℕ) → n.program ≡ Some p → (c : Channel) (class : ℕ) → connected_at d (n ∷ []) c class ≡ cond (may_be_at d c class n) (p ∷ []) []
connected_one d n p is c class = by (may_be_at d c class n)
  where
    by : (b : Bool) → filter_map (λ (x : Connection). x.program) (cond b (n ∷ []) []) ≡ cond b (p ∷ []) []
    by true = ap (λ o. cons_option o []) is
    by false = refl

old_program : (d : Definition) (ns : List Connection) (n : Connection) (c : Channel) (class q : ℕ) → IsIn q (connected_at d ns c class) → IsIn q (connected_at d (ns ++ n ∷ []) c class)
old_program d ns n c class q h = subst (IsIn q) (sym (connected_both d ns n c class)) (append_left (connected_at d ns c class) (connected_at d (n ∷ []) c class) q h)

new_program : (d : Definition) (ns : List Connection) (n : Connection) (p : ℕ) → n.program ≡ Some p → (c : Channel) (class q : ℕ) → may_be_at d c class n ≡ true → q ≡ p →
    IsIn q (connected_at d (ns ++ n ∷ []) c class)
new_program d ns n p is c class q may same =
    subst (IsIn q) (sym (connected_both d ns n c class))
    (append_right (connected_at d ns c class) (connected_at d (n ∷ []) c class) q
    (subst (IsIn q) (sym (connected_one d n p is c class)) (subst (λ x. IsIn x (cond (may_be_at d c class n) (p ∷ []) [])) (sym same) (in_one (may_be_at d c class n) p may))))

one_more_program : (d : Definition) (ns : List Connection) (n : Connection) (p : ℕ) → n.program ≡ Some p → (c : Channel) (class q : ℕ) → IsIn q (connected_at d (ns ++ n ∷ []) c class) →
    IsIn q (connected_at d ns c class) ⊎ ((may_be_at d c class n ≡ true) × (q ≡ p))
one_more_program d ns n p is c class q h =
    elim (in_both (connected_at d ns c class) (connected_at d (n ∷ []) c class) q (subst (IsIn q) (connected_both d ns n c class) h))
    [ inl k ↦ inl k | inr k ↦ inr (one_in (may_be_at d c class n) p q (subst (IsIn q) (connected_one d n p is c class) k)) ]

module _ (d : Definition) where
  below_of : (place class : ℕ) → class_at d place ≡ Some class → place < length d.places
  below_of place class is = place_below d place class (place_at d place) refl is

  -- where a group that is put to the places that a kind covers is for a channel
  abbrev here : RegisterKind → List ℕ → Option (List ℕ) → Channel → ℕ → Bool
  here kind signal detail c class = covers d kind (place_of_channel c) && can_mean d class c signal detail

  pub may_is : (kind : RegisterKind) (signal : List ℕ) (detail : Option (List ℕ)) (p : Option ℕ) (c : Channel) (class : ℕ) → class_at d (place_of_channel c) ≡ Some class →
      may_be_at d c class (connection_over d kind signal detail p) ≡ here kind signal detail c class
  may_is kind signal detail p c class is =
      ap (λ b. b && can_mean d class c signal detail) (any_covered (covers d kind) (place_of_channel c) (length d.places) (below_of (place_of_channel c) class is))

  meant_here : (kind : RegisterKind) (signal : List ℕ) (detail : Option (List ℕ)) (g : ℕ) (c : Channel) (class : ℕ) → class_at d (place_of_channel c) ≡ Some class →
      meant c (meant_at d kind signal detail g (place_of_channel c)) ≡ cond (here kind signal detail c class) (g ∷ []) []
  meant_here kind signal detail g c class is =
      ap (λ (o : Option ℕ). meant c (cond (covers d kind (place_of_channel c)) (of_class (λ k. record { what = g; meaning = meaning_of d k signal detail } ∷ []) o) [])) is
      ∙ by (covers d kind (place_of_channel c))
    where
      by : (b : Bool) → meant c (cond b (record { what = g; meaning = meaning_of d class signal detail } ∷ []) []) ≡ cond (b && can_mean d class c signal detail) (g ∷ []) []
      by true = one (is_meant c (meaning_of d class signal detail)) ∙ ap (λ x. cond x (g ∷ []) []) (meant_is d class c signal detail)
        where
          one : (x : Bool) → map (λ (y : Meant). y.what) (cond x (record { what = g; meaning = meaning_of d class signal detail } ∷ []) []) ≡ cond x (g ∷ []) []
          one true = refl
          one false = refl
      by false = refl

  -- ** a new group

  module _ (old new : Connects) (kind : RegisterKind) (signal : List ℕ) (detail : Option (List ℕ)) (p g : ℕ) (adds : AddsGroup d old new kind signal detail p g) where
    abbrev it : Connection
    it = connection_over d kind signal detail (Some p)

    groups_new : (c : Channel) (class : ℕ) → class_at d (place_of_channel c) ≡ Some class →
        groups_for new.at.items c ≡ groups_for old.at.items c ++ cond (may_be_at d c class it) (g ∷ []) []
    groups_new c class is =
        ap (meant c) (adds.placed_at (place_of_channel c) (signal_of_channel c) (below_of (place_of_channel c) class is))
        ∙ (meant_both c (placed old.at.items (place_of_channel c) (signal_of_channel c)) (of_signal (signal_of_channel c) (meant_at d kind signal detail g (place_of_channel c)))
        ∙ ap (λ xs. groups_for old.at.items c ++ xs) (meant_of_signal c (meant_at d kind signal detail g (place_of_channel c)) ∙ (meant_here kind signal detail g c class is
        ∙ ap (λ b. cond b (g ∷ []) []) (sym (may_is kind signal detail (Some p) c class is)))))

    group_cases : (c : Channel) (class h : ℕ) → class_at d (place_of_channel c) ≡ Some class → IsIn h (groups_for new.at.items c) →
        IsIn h (groups_for old.at.items c) ⊎ ((may_be_at d c class it ≡ true) × (h ≡ g))
    group_cases c class h is k =
        elim (in_both (groups_for old.at.items c) (cond (may_be_at d c class it) (g ∷ []) []) h (subst (IsIn h) (groups_new c class is) k))
        [ inl q ↦ inl q | inr q ↦ inr (one_in (may_be_at d c class it) g h q) ]

    group_old : (c : Channel) (class h : ℕ) → class_at d (place_of_channel c) ≡ Some class → IsIn h (groups_for old.at.items c) → IsIn h (groups_for new.at.items c)
    group_old c class h is k =
        subst (IsIn h) (sym (groups_new c class is)) (append_left (groups_for old.at.items c) (cond (may_be_at d c class it) (g ∷ []) []) h k)

    group_it : (c : Channel) (class : ℕ) → class_at d (place_of_channel c) ≡ Some class → may_be_at d c class it ≡ true → IsIn g (groups_for new.at.items c)
    group_it c class is may =
        subst (IsIn g) (sym (groups_new c class is))
        (append_right (groups_for old.at.items c) (cond (may_be_at d c class it) (g ∷ []) []) g (in_one (may_be_at d c class it) g may))

    old_length : length (programs_of old.groups.items) ≡ length old.groups.items
    old_length = length-map old.groups.items (λ (v : Vec ℕ Global). v.items)

    new_length : length new.groups.items ≡ length old.groups.items + 1
    new_length =
        sym (length-map new.groups.items (λ (v : Vec ℕ Global). v.items))
        ∙ (ap length adds.groups ∙ (length-append (programs_of old.groups.items) ((p ∷ []) ∷ []) ∙ ap (λ n. n + 1) old_length))

    programs_old : (h : ℕ) → h < length old.groups.items → read [] (programs_of new.groups.items) h ≡ read [] (programs_of old.groups.items) h
    programs_old h low =
        let e = old_length in
        ap (λ xs. read [] xs h) adds.groups ∙ read_front [] (programs_of old.groups.items) ((p ∷ []) ∷ []) h (omega (arith, low, e))

    programs_it : read [] (programs_of new.groups.items) g ≡ p ∷ []
    programs_it =
        let e = old_length in
        let n = adds.number in
        ap (λ xs. read [] xs g) adds.groups ∙ read_last [] (programs_of old.groups.items) (p ∷ []) g (omega (arith, e, n))

    pub new_group : (ns : List Connection) → AreConnected d old ns → AreConnected d new (ns ++ it ∷ [])
    new_group ns are = record {
      places = adds.places ∙ are.places;
      there = λ c class h q is k m. by c class h q is m (group_cases c class h is k);
      back = λ c class q is k. back c class q is (one_more_program d ns it p refl c class q k);
      known = λ c class h is k. elim (group_cases c class h is k) [
        | inl r ↦ (let low = are.known c class h is r in let e = new_length in omega (arith, low, e))
        | inr r ↦ (let n = adds.number in let e = new_length in let s = r.1 in omega (arith, n, e, s))
      ];
      kept = λ one name text program k h key found.
          let was = are.kept one name text program k h key (ap (λ m. get compared m k) (sym adds.numbers) ∙ found) in
          let low = was.0 in
          let e = new_length in
          (omega (arith, low, e), alike one name text program h low was.1);
    }
      where
        by : (c : Channel) (class h q : ℕ) → class_at d (place_of_channel c) ≡ Some class → IsIn q (read [] (programs_of new.groups.items) h) →
            IsIn h (groups_for old.at.items c) ⊎ ((may_be_at d c class it ≡ true) × (h ≡ g)) → IsIn q (connected_at d (ns ++ it ∷ []) c class)
        by c class h q is m (inl r) =
            old_program d ns it c class q
            (are.there c class h q is r (subst (IsIn q) (programs_old h (are.known c class h is r)) m))
        by c class h q is m (inr r) =
            let one = subst (IsIn q) (ap (read [] (programs_of new.groups.items)) r.1 ∙ programs_it) m in
            new_program d ns it p refl c class q r.0 (only p q one)

        back : (c : Channel) (class q : ℕ) → class_at d (place_of_channel c) ≡ Some class →
            IsIn q (connected_at d ns c class) ⊎ ((may_be_at d c class it ≡ true) × (q ≡ p)) →
            (h : ℕ) × IsIn h (groups_for new.at.items c) × IsIn q (read [] (programs_of new.groups.items) h)
        back c class q is (inl r) =
            let f = are.back c class q is r in
            (f.0, group_old c class f.0 is f.1, subst (IsIn q) (sym (programs_old f.0 (are.known c class f.0 is f.1))) f.2)
        back c class q is (inr r) = (g, group_it c class is r.0, subst (IsIn q) (sym programs_it) (inl r.1))

        alike : (one : RegisterKind) (name : List ℕ) (text : Option (List ℕ)) (program : Option ℕ) (h : ℕ) → h < length old.groups.items →
            IsAlike d old.at.items h (connection_over d one name text program) → IsAlike d new.at.items h (connection_over d one name text program)
        alike one name text program h low was c class is = (
          (λ k. elim (group_cases c class h is k) [ inl r ↦ (was c class is).0 r | inr r ↦ absurd (let n = adds.number in let s = r.1 in omega (arith, low, n, s)) ]),
          (λ may. group_old c class h is ((was c class is).1 may)),
        )

    -- and the number of its key is kept
    pub new_key : IsBasic d → (ns : List Connection) (last : Connects) (key : Key) → AreConnected d old ns → last.groups ≡ new.groups → last.at ≡ new.at →
        connection_key d kind signal detail ≡ Some key →
        ((k : Key) → get compared last.numbers k ≡ cond (is_at (compared key) k) (Some g) (get compared new.numbers k)) → AreConnected d last (ns ++ it ∷ [])
    new_key basic ns last key are groups at is updates =
        let all = new_group ns are in
        record {
          places = ap (λ (v : Vec (SignalLists PlacedGroup) Global). length v.items) at ∙ all.places;
          there = λ c class h q here k m. all.there c class h q here (at_new c h k) (programs_new h q m);
          back = λ c class q here k. (let f = all.back c class q here k in
              (f.0, subst (λ v. IsIn f.0 (groups_for v.items c)) (sym at) f.1, subst (λ v. IsIn q (read [] (programs_of v.items) f.0)) (sym groups) f.2));
          known = λ c class h here k. subst (λ v. h < length v.items) (sym groups) (all.known c class h here (at_new c h k));
          kept = λ one name text program k h found get_is.
              let w = kept_by all one name text program k h found (is_at (compared key) k) refl (sym (updates k) ∙ get_is) in
              (subst (λ v. h < length v.items) (sym groups) w.0, subst (λ v. IsAlike d v.items h (connection_over d one name text program)) (sym at) w.1);
        }
      where
        at_new : (c : Channel) (h : ℕ) → IsIn h (groups_for last.at.items c) → IsIn h (groups_for new.at.items c)
        at_new c h k = subst (λ v. IsIn h (groups_for v.items c)) at k

        programs_new : (h q : ℕ) → IsIn q (read [] (programs_of last.groups.items) h) → IsIn q (read [] (programs_of new.groups.items) h)
        programs_new h q m = subst (λ v. IsIn q (read [] (programs_of v.items) h)) groups m

        alike_it : (one : RegisterKind) (name : List ℕ) (text : Option (List ℕ)) (program : Option ℕ) (k : Key) → connection_key d one name text ≡ Some k → is_at (compared key) k ≡ true →
            IsAlike d new.at.items g (connection_over d one name text program)
        alike_it one name text program k found same c class here =
            let keys = same_key key k same in
            let e = same_channels d basic kind one signal name detail text (Some p) program key k is found keys.place keys.sort keys.number class c in (
              (λ m. elim (group_cases c class g here m) [
                | inl r ↦ absurd (let low = are.known c class g here r in let n = adds.number in omega (arith, low, n))
                | inr r ↦ sym e ∙ r.0
              ]),
              (λ may. group_it c class here (e ∙ may)),
            )

        kept_by : AreConnected d new (ns ++ it ∷ []) → (one : RegisterKind) (name : List ℕ) (text : Option (List ℕ)) (program : Option ℕ) (k : Key) (h : ℕ) →
            connection_key d one name text ≡ Some k → (b : Bool) → is_at (compared key) k ≡ b → cond b (Some g) (get compared new.numbers k) ≡ Some h →
            (h < length new.groups.items) × IsAlike d new.at.items h (connection_over d one name text program)
        kept_by all one name text program k h found true same get_is =
            let e : g ≡ h = same_Some _ _ get_is in
            let n = adds.number in
            let l = new_length in
            (omega (arith, e, n, l), subst (λ x. IsAlike d new.at.items x (connection_over d one name text program)) e (alike_it one name text program k found same))
        kept_by all one name text program k h found false same get_is = all.kept one name text program k h found get_is

  -- ** a program that is put to a group

  module _ (old new : Connects) (g p : ℕ) (at : new.at ≡ old.at) (numbers : new.numbers ≡ old.numbers) (count : length new.groups.items ≡ length old.groups.items)
      (puts : (n : ℕ) → read [] (programs_of new.groups.items) n
      ≡ cond (nat_eq g n) (read [] (programs_of old.groups.items) n ++ p ∷ []) (read [] (programs_of old.groups.items) n)) where
    put_old : (h q : ℕ) → IsIn q (read [] (programs_of old.groups.items) h) → IsIn q (read [] (programs_of new.groups.items) h)
    put_old h q m = subst (IsIn q) (sym (puts h)) (by (nat_eq g h))
      where
        by : (b : Bool) → IsIn q (cond b (read [] (programs_of old.groups.items) h ++ p ∷ []) (read [] (programs_of old.groups.items) h))
        by true = append_left (read [] (programs_of old.groups.items) h) (p ∷ []) q m
        by false = m

    put_it : IsIn p (read [] (programs_of new.groups.items) g)
    put_it =
        subst (IsIn p) (sym (puts g ∙ ap (λ b. cond b (read [] (programs_of old.groups.items) g ++ p ∷ []) (read [] (programs_of old.groups.items) g)) (eq-eqb g g refl)))
        (append_right (read [] (programs_of old.groups.items) g) (p ∷ []) p (inl refl))

    put_cases : (h q : ℕ) → IsIn q (read [] (programs_of new.groups.items) h) → IsIn q (read [] (programs_of old.groups.items) h) ⊎ ((h ≡ g) × (q ≡ p))
    put_cases h q m = by (nat_eq g h) refl (subst (IsIn q) (puts h) m)
      where
        by : (b : Bool) → nat_eq g h ≡ b → IsIn q (cond b (read [] (programs_of old.groups.items) h ++ p ∷ []) (read [] (programs_of old.groups.items) h)) →
            IsIn q (read [] (programs_of old.groups.items) h) ⊎ ((h ≡ g) × (q ≡ p))
        by true e k = elim (in_both (read [] (programs_of old.groups.items) h) (p ∷ []) q k) [ inl r ↦ inl r | inr r ↦ inr (sym (eqb-true g h e), only p q r) ]
        by false e k = inl k

    pub put_connected : (ns : List Connection) (kind : RegisterKind) (signal : List ℕ) (detail : Option (List ℕ)) → AreConnected d old ns →
        IsAlike d old.at.items g (connection_over d kind signal detail (Some p)) → AreConnected d new (ns ++ connection_over d kind signal detail (Some p) ∷ [])
    put_connected ns kind signal detail are alike = record {
      places = ap (λ (v : Vec (SignalLists PlacedGroup) Global). length v.items) at ∙ are.places;
      there = λ c class h q is k m. there c class h q is (at_old c h k) (put_cases h q m);
      back = λ c class q is k. back c class q is (one_more_program d ns (connection_over d kind signal detail (Some p)) p refl c class q k);
      known = λ c class h is k. (let low = are.known c class h is (at_old c h k) in omega (arith, low, count));
      kept = λ one name text program k h key found.
          let was = are.kept one name text program k h key (ap (λ m. get compared m k) (sym numbers) ∙ found) in
          let low = was.0 in
          (omega (arith, low, count), subst (λ v. IsAlike d v.items h (connection_over d one name text program)) (sym at) was.1);
    }
      where
        at_old : (c : Channel) (h : ℕ) → IsIn h (groups_for new.at.items c) → IsIn h (groups_for old.at.items c)
        at_old c h k = subst (λ v. IsIn h (groups_for v.items c)) at k

        at_new : (c : Channel) (h : ℕ) → IsIn h (groups_for old.at.items c) → IsIn h (groups_for new.at.items c)
        at_new c h k = subst (λ v. IsIn h (groups_for v.items c)) (sym at) k

        there : (c : Channel) (class h q : ℕ) → class_at d (place_of_channel c) ≡ Some class → IsIn h (groups_for old.at.items c) →
            IsIn q (read [] (programs_of old.groups.items) h) ⊎ ((h ≡ g) × (q ≡ p)) → IsIn q (connected_at d (ns ++ connection_over d kind signal detail (Some p) ∷ []) c class)
        there c class h q is k (inl m) = old_program d ns (connection_over d kind signal detail (Some p)) c class q (are.there c class h q is k m)
        there c class h q is k (inr m) =
            new_program d ns (connection_over d kind signal detail (Some p)) p refl c class q ((alike c class is).0 (subst (λ x. IsIn x (groups_for old.at.items c)) m.0 k)) m.1

        back : (c : Channel) (class q : ℕ) → class_at d (place_of_channel c) ≡ Some class →
            IsIn q (connected_at d ns c class) ⊎ ((may_be_at d c class (connection_over d kind signal detail (Some p)) ≡ true) × (q ≡ p)) →
            (h : ℕ) × IsIn h (groups_for new.at.items c) × IsIn q (read [] (programs_of new.groups.items) h)
        back c class q is (inl r) = (let f = are.back c class q is r in (f.0, at_new c f.0 f.1, put_old f.0 q f.2))
        back c class q is (inr r) =
            (g, at_new c g ((alike c class is).1 r.0), subst (λ x. IsIn x (read [] (programs_of new.groups.items) g)) (sym r.1) put_it)

-- ** steps of code

-- a connection of no program
pub none_connected : (d : Definition) (x : Connects) (n : Connection) → n.program ≡ None → ConnectsMore d x x (n ∷ [])
none_connected d x n none ns are = record {
  places = are.places;
  there = λ c class g p is k m. old_program d ns n c class p (are.there c class g p is k m);
  back = λ c class p is h. are.back c class p is (subst (IsIn p) (connected_both d ns n c class ∙ (ap (λ xs. connected_at d ns c class ++ xs) (no_program c class) ∙ append-nil (connected_at d ns c class))) h);
  known = are.known;
  kept = are.kept;
}
  where
    no_program : (c : Channel) (class : ℕ) → connected_at d (n ∷ []) c class ≡ []
    no_program c class = by (may_be_at d c class n)
      where
        by : (b : Bool) → filter_map (λ (x : Connection). x.program) (cond b (n ∷ []) []) ≡ []
        by true = ap (λ o. cons_option o []) none
        by false = refl

-- no groups
pub no_connects : (d : Definition) (x : Connects) → length x.at.items ≡ length d.places → ((n number : ℕ) → placed x.at.items n number ≡ []) → x.numbers.entries ≡ [] → AreConnected d x []
no_connects d x places empty none = record {
  places = places;
  there = λ c class g p is k m. absurd (no c g k);
  back = λ c class p is h. absurd h;
  known = λ c class g is k. absurd (no c g k);
  kept = λ kind signal detail program k g key found. absurd (none-some g (sym (ap (λ es. lookup (is_at (compared k)) es) none) ∙ found));
}
  where
    no : (c : Channel) (g : ℕ) → IsIn g (groups_for x.at.items c) → ⊥
    no c g k = subst (IsIn g) (ap (meant c) (empty (place_of_channel c) (signal_of_channel c))) k

-- what is at a place after so many of them
pub next_placed : {A : Type 0} → (n place : ℕ) (old more : List A) →
    cond (nat_eq place n) ((old ++ cond (nat_lt n place) more []) ++ more) (old ++ cond (nat_lt n place) more []) ≡ old ++ cond (nat_lt n (place + 1)) more []
next_placed {A} n place old more = by (nat_eq place n) refl (nat_lt n place) refl (nat_lt n (place + 1)) refl
  where
    by : (x : Bool) → nat_eq place n ≡ x → (y : Bool) → nat_lt n place ≡ y → (z : Bool) → nat_lt n (place + 1) ≡ z →
        cond x ((old ++ cond y more []) ++ more) (old ++ cond y more []) ≡ old ++ cond z more []
    by true e true f z g = absurd (let p = eqb-true place n e in let q = ltb-true n place f in omega (arith, p, q))
    by true e false f true g = ap (λ xs. xs ++ more) (append-nil old)
    by true e false f false g = absurd (let p = eqb-true place n e in let q = ltb-false n (place + 1) g in omega (arith, p, q))
    by false e true f true g = refl
    by false e true f false g = absurd (let p = ltb-true n place f in let q = ltb-false n (place + 1) g in omega (arith, p, q))
    by false e false f true g =
        absurd (let p = ltb-false n place f in let q = ltb-true n (place + 1) g in let same : place ≡ n = omega (arith, p, q) in let t = eq-eqb place n same in differ (nat_eq place n) t e)
      where
        differ : (b : Bool) → b ≡ true → b ≡ false → ⊥
        differ true p q = absurd (cc)
        differ false p q = absurd (cc)
    by false e false f false g = refl

-- a group at a place of a class that a kind covers
pub meant_class : (d : Definition) (kind : RegisterKind) (signal : List ℕ) (detail : Option (List ℕ)) (g place class : ℕ) → covers d kind place ≡ true → Some class ≡ class_at d place →
    meant_at d kind signal detail g place ≡ record { what = g; meaning = meaning_of d class signal detail } ∷ []
meant_class d kind signal detail g place class covered is =
    ap (λ b. cond b (of_class (λ k. record { what = g; meaning = meaning_of d k signal detail } ∷ []) (class_at d place)) []) covered
    ∙ ap (of_class (λ k. record { what = g; meaning = meaning_of d k signal detail } ∷ [])) (sym is)

-- it is put where the place is
pub put_there : {A : Type 0} → (place n : ℕ) (old here : List A) (more : ℕ → List A) → here ≡ more place →
    cond (nat_eq place n) (old ++ here) old ≡ cond (nat_eq place n) (old ++ more n) old
put_there place n old here more is = by (nat_eq place n) refl
  where
    by : (b : Bool) → nat_eq place n ≡ b → cond b (old ++ here) old ≡ cond b (old ++ more n) old
    by true e = ap (λ xs. old ++ xs) (is ∙ ap more (eqb-true place n e))
    by false e = refl

-- a group of a program by itself
pub one_group : (groups : List (Vec ℕ Global)) (more : List (Vec ℕ Global)) (v : Vec ℕ Global) (p : ℕ) → more ≡ groups ++ v ∷ [] → v.items ≡ p ∷ [] →
    programs_of more ≡ programs_of groups ++ (p ∷ []) ∷ []
one_group groups more v p is one = mapped_last (λ (x : Vec ℕ Global). x.items) groups more v is ∙ ap (λ x. programs_of groups ++ x ∷ []) one
