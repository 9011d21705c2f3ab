-- What is raised by makings, put together one after the other.
use Rattle.std.proofs.Common.{◌≡◌, ◌∙◌, refl, sym, ap, ℕ, zero, suc, ◌+◌, ◌<◌, ◌≤◌, Bool, true, false, cond, List, [], ◌∷◌, ◌++◌, length, map, drop, Option, None, Some, slice_get, arith}
use Rattle.std.specs.Prelude.{◌||◌}
use Rattle.std.specs.List.{list_any}
use Rattle.ui_machine.specs.Seq.{read}
use Rattle.ui_machine.specs.Definition.{Definition}
use Rattle.ui_machine.specs.Definition.Lookups.{place_at, spec_of, specs_of}
use Rattle.ui_machine.specs.Definition.Places.{Place}
use Rattle.ui_machine.specs.Definition.Properties.{Spec, is_readable}
use Rattle.ui_machine.specs.Rules.Construction.{constructed_runs, is_at_construction}
use Rattle.definition_format.specs.Meaning.{given_property}
use Rattle.definition_format.specs.declared.objects.GivenValue.{GivenValue}
use Rattle.law_typing.specs.Graph.{is_given, making_of, makings_from, raised_by_making, set_from}
use Rattle.law_typing.specs.Graph.Channels.{Channel, constructed, property, is_channel, is_filled, is_readable_one, of_class, present, programs_of, spec_if}
use Rattle.law_typing.specs.Rules.RegisterKinds.{class_at}
use Rattle.verify_graph.specs.ChannelView.{constructed_if}
use Rattle.verify_graph.specs.Makings.{built_one, gives}

more : (n : ℕ) → suc n + 1 ≡ suc (n + 1)
more n = omega arith

-- ** lists

any_seen : (place slot : ℕ) (given : List GivenValue) → list_any (is_given place slot) (map given_property given) ≡ list_any (gives place slot) given
any_seen place slot [] = refl
any_seen place slot (g ∷ gs) = ap (λ b. is_given place slot (given_property g) || b) (any_seen place slot gs)

pub present_joined : (d : Definition) (xs ys : List Channel) → present d (xs ++ ys) ≡ present d xs ++ present d ys
present_joined d [] ys = refl
present_joined d (x ∷ xs) ys = by (is_channel d x) (present_joined d xs ys)
  where
    by : (b : Bool) → present d (xs ++ ys) ≡ present d xs ++ present d ys →
        cond b (x ∷ present d (xs ++ ys)) (present d (xs ++ ys)) ≡ cond b (x ∷ present d xs) (present d xs) ++ present d ys
    by true later = ap (λ zs. x ∷ zs) later
    by false later = later

-- ** properties

-- the first of the specs that are left
record First (specs : List Spec) (slot : ℕ) : Type 0 where
  pub spec : Spec
  pub is : Some spec ≡ slice_get specs slot
  pub begins : drop slot specs ≡ spec ∷ drop (slot + 1) specs

first_left : (specs : List Spec) (slot : ℕ) → slot < length specs → First specs slot
first_left [] slot within = absurd (omega (arith, within))
first_left (s ∷ ss) zero within = record { spec = s; is = refl; begins = refl }
first_left (s ∷ ss) (suc slot) within =
    let f = first_left ss slot (omega (arith, within)) in
    record { spec = f.spec; is = f.is; begins = f.begins ∙ ap (λ m. f.spec ∷ drop m (s ∷ ss)) (sym (more slot)) }

module _ (d : Definition) (place class : ℕ) (is : class_at d place ≡ Some class) where
  one : (slot : ℕ) (s : Spec) (set : Bool) → Some s ≡ spec_of d class slot →
      present d (cond set (property place slot ∷ []) []) ≡ cond set (cond (is_readable s) (property place slot ∷ []) []) []
  one slot s true there =
      ap (λ o. cond (is_readable_one (spec_if d slot o)) (property place slot ∷ []) []) is
      ∙ ap (λ o. cond (is_readable_one o) (property place slot ∷ []) []) (sym there)
  one slot s false there = refl

  pub next_built : (given : List GivenValue) (slot : ℕ) → slot < length (specs_of d class) →
      present d (set_from place (map given_property given) slot (drop slot (specs_of d class)))
      ≡ built_one place slot (list_any (gives place slot) given) (spec_of d class slot)
      ++ present d (set_from place (map given_property given) (slot + 1) (drop (slot + 1) (specs_of d class)))
  next_built given slot within =
      ap (λ ss. present d (set_from place (map given_property given) slot ss)) (first.begins)
      ∙ (present_joined d (cond (set first.spec) (property place slot ∷ []) []) (set_from place (map given_property given) (suc slot) (drop (slot + 1) (specs_of d class)))
      ∙ (ap (λ xs. xs ++ present d (set_from place (map given_property given) (suc slot) (drop (slot + 1) (specs_of d class)))) (one slot first.spec (set first.spec) first.is)
      ∙ (ap (λ b. cond (is_at_construction first.spec || b) (cond (is_readable first.spec) (property place slot ∷ []) []) []
      ++ present d (set_from place (map given_property given) (suc slot) (drop (slot + 1) (specs_of d class)))) (any_seen place slot given)
      ∙ (ap (λ o. built_one place slot (list_any (gives place slot) given) o ++ present d (set_from place (map given_property given) (suc slot) (drop (slot + 1) (specs_of d class)))) first.is
      ∙ (let e : suc slot ≡ slot + 1 = omega arith in
      ap (λ n. built_one place slot (list_any (gives place slot) given) (spec_of d class slot) ++ present d (set_from place (map given_property given) n (drop (slot + 1) (specs_of d class)))) e)))))
    where
      set : Spec → Bool
      set s = is_at_construction s || list_any (is_given place slot) (map given_property given)

      first : First (specs_of d class) slot
      first = first_left (specs_of d class) slot within

  pub no_built : (given : List GivenValue) (slot : ℕ) → length (specs_of d class) ≤ slot →
      present d (set_from place (map given_property given) slot (drop slot (specs_of d class))) ≡ []
  no_built given slot behind = ap (λ ss. present d (set_from place (map given_property given) slot ss)) (past slot (specs_of d class) behind)
    where
      past : (n : ℕ) (ss : List Spec) → length ss ≤ n → drop n ss ≡ []
      past zero [] low = refl
      past (suc n) [] low = refl
      past zero (s ∷ ss) low = absurd (omega (arith, low))
      past (suc n) (s ∷ ss) low = past n ss (omega (arith, low))

  -- all of them behind the construction
  pub made : (given : List GivenValue) →
      constructed_if d place class ++ present d (set_from place (map given_property given) 0 (specs_of d class))
      ≡ present d (constructed place ∷ set_from place (map given_property given) 0 (specs_of d class))
  made given = by (is_filled (programs_of (constructed_runs d class))) ∙ sym (ap (λ o. cond (is_filled (of_class (λ c. programs_of (constructed_runs d c)) o)) (constructed place ∷ rest) rest) is)
    where
      rest : List Channel
      rest = present d (set_from place (map given_property given) 0 (specs_of d class))

      by : (b : Bool) → cond b (constructed place ∷ []) [] ++ rest ≡ cond b (constructed place ∷ rest) rest
      by true = refl
      by false = refl

-- ** places

read_makings : (d : Definition) (n i : ℕ) (ps : List Place) (p : Place) → Some p ≡ slice_get ps i → read [] (makings_from d n ps) i ≡ raised_by_making d (n + i) p
read_makings d n i [] p is = absurd (cc)
read_makings d n zero (q ∷ ps) p is =
    let same : q ≡ p = cc in
    let e : n + 0 ≡ n = omega arith in
    ap (raised_by_making d n) same ∙ ap (λ m. raised_by_making d m p) (sym e)
read_makings d n (suc i) (q ∷ ps) p is =
    let e : suc n + i ≡ n + suc i = omega arith in
    read_makings d (suc n) i ps p is ∙ ap (λ m. raised_by_making d m p) e

pub making_is : (d : Definition) (place : ℕ) (p : Place) → Some p ≡ place_at d place → raised_by_making d place p ≡ making_of d (Some place)
making_is d place p is =
    let e : 0 + place ≡ place = omega arith in
    sym (read_makings d 0 place d.places p is ∙ ap (λ m. raised_by_making d m p) e)

pub no_making : (d : Definition) (place : ℕ) → None ≡ place_at d place → [] ≡ making_of d (Some place)
no_making d place is = by d.places place is 0
  where
    by : (ps : List Place) (i : ℕ) → None ≡ slice_get ps i → (n : ℕ) → [] ≡ read [] (makings_from d n ps) i
    by [] i none n = refl
    by (p ∷ ps) zero none n = absurd (cc)
    by (p ∷ ps) (suc i) none n = by ps i none (suc n)

pub class_is : (d : Definition) (place : ℕ) (p : Place) → Some p ≡ place_at d place → class_at d place ≡ Some p.class
class_is d place p is = sym (ap (λ (o : Option Place). of o) is)
  where
    of : Option Place → Option ℕ
    of None = None
    of (Some q) = Some q.class
