-- The steps of a construction are good.
use Rattle.std.proofs.Common.{◌≡◌, inl, inr, ◌⊎◌, refl, sym, ap, subst, ◌∙◌, ℕ, zero, suc, ◌+◌, ◌≤◌, Bool, true, false, cond, List, [], ◌∷◌, ◌++◌, Option, None, Some, slice_get, arith}
use Rattle.std.specs.Prelude.{not, ◌&&◌, ◌||◌, nat_eq, is_some, option_map, reverse}
use Rattle.std.specs.List.{filter, list_any}
use Rattle.std.proofs.lemmas.Bool.{eqb-true, eq-eqb, or_left}
use Rattle.std.proofs.lemmas.List.{reverse-append}
use Rattle.ui_machine.specs.Seq.{read}
use Rattle.ui_machine.specs.Definition.Kinds.{Kind, RegisterKind}
use Rattle.ui_machine.specs.Definition.Kinds as kinds
use Rattle.ui_machine.specs.Definition.Values.{Value}
use Rattle.ui_machine.specs.Definition.Values as values
use Rattle.ui_machine.specs.Definition.Properties.{Spec, is_construct, is_construct_only, is_writable}
use Rattle.ui_machine.specs.Definition.{Definition, Class}
use Rattle.ui_machine.specs.Definition.Places.{Given, value, named, GivenProperty, Place}
use Rattle.ui_machine.specs.Definition.Programs.{Program}
use Rattle.ui_machine.specs.Definition.Lookups.{place_at, program_at, class_of, no_class, specs_of, spec_of}
use Rattle.ui_machine.specs.State.Config.{World, BuilderEntry, unbuilt, built, released, builder_entry}
use Rattle.ui_machine.specs.State.Tasks.{ConstructStep, sets, runs, thaws}
use Rattle.ui_machine.specs.Rules.Ancestry.{is_a, lineage, is_or_implements, implemented_by}
use Rattle.ui_machine.specs.Rules.Sets.{has_kind}
use Rattle.ui_machine.specs.Rules.Transform.{is_one, kind_fits}
use Rattle.ui_machine.specs.Rules.Construction.{is_forward, object_held, given_at, given_value, not_forward, is_at_construction, construct_sets, or_default, set_of, no_spec, given_sets, run_of, constructed_runs}
use Rattle.law_typing.specs.Rules.RegisterKinds.{class_at, fits}
use Rattle.law_typing.specs.Rules.Signatures.{is_taken_by, parameters_fit, result_fits}
use Rattle.law_typing.specs.Rules.Faults.{Fault, handler_signature}
use Rattle.law_typing.specs.Rules.Faults as faults
use Rattle.law_typing.specs.Rules.Handlers.{unless, class_handler_faults, constructed_fits, constructed_faults, class_faults, place_faults}
use Rattle.law_typing.specs.Graph.Channels.{Channel, constructed, property, programs_of, of_class, constructed_at, is_filled, is_channel, spec_if, present}
use Rattle.law_typing.specs.Graph.{is_given, set_from}
use Rattle.law_typing.specs.Graph.Tables.{entry, of_program}
use Rattle.law_typing.specs.Graph.Ranks.{running_at}
use Rattle.law_typing.specs.Graph.Depths.{deepest}
use Rattle.law_typing.specs.Verdict.Accepted.{Accepted, Each}
use Rattle.law_typing.specs.Laws.{IsIn}
use Rattle.law_typing.specs.Laws.WellRead.{no_class_of, TypesRead, GivenFits, GivenRead}
use Rattle.law_typing.specs.Good.Standing.{Standing, lives_by}
use Rattle.law_typing.specs.Good.Bindings.{HeldGood}
use Rattle.law_typing.specs.Good.Builds.{HeldIf, MakingGood, step_depth}
use Rattle.law_typing.specs.Good.Freezes.{to_thaw}
use Rattle.law_typing.proofs.Lists.{both_parts, either_part, any_true, each_append, each_flat, both_empty, filter_in, greatest_in}
use Rattle.law_typing.proofs.EdgeProofs.{append_left, append_right}
use Rattle.law_static.specs.Constructions.{ConstructionsFit, ConstructionsShallow, ConstructionsThaw}
use Rattle.law_static.specs.Raises.{raised_there}
use Rattle.law_static.proofs.AtClass.{at_class}
use Rattle.law_static.proofs.FitsProofs.{of_kind}
use Rattle.law_static.proofs.RaisesProofs.{channels_known}
use Rattle.law_static.proofs.StartProofs.{absent_is_flat}

-- ** lists

each_filter : {A : Type 0} (P : A → Type 0) (test : A → Bool) (xs : List A) → Each P xs → Each P (filter test xs)
each_filter P test [] all = tt
each_filter P test (x ∷ xs) all = go (test x) (each_filter P test xs all.1)
  where
    go : (b : Bool) → Each P (filter test xs) → Each P (cond b (x ∷ filter test xs) (filter test xs))
    go true rest = (all.0, rest)
    go false rest = rest

in_reverse : {A : Type 0} (xs : List A) (x : A) → IsIn x (reverse xs) → IsIn x xs
in_reverse [] x h = h
in_reverse {A} (y ∷ ys) x h = go (reverse ys) (λ h. in_reverse ys x h) (subst (IsIn x) (reverse-append (y ∷ []) ys) h)
  where
    go : (zs : List A) → (IsIn x zs → IsIn x ys) → IsIn x (zs ++ y ∷ []) → IsIn x (y ∷ ys)
    go [] back (inl e) = inl e
    go [] back (inr h) = absurd h
    go (z ∷ zs) back (inl e) = inr (back (inl e))
    go (z ∷ zs) back (inr h) = go zs (λ h. back (inr h)) h

-- ** values

-- what a set of a construction says of its value
pub record ValueFits (s : Standing) (builder : List BuilderEntry) (v : Value) (kind : Kind) : Type 0 where
  pub kind_is : has_kind v kind ≡ true
  pub lives : lives_by s v ≡ true
  pub held : HeldIf builder v

module _ (d : Definition) (s : Standing) (builder : List BuilderEntry) where
  plain_fits : (v : Value) (kind : Kind) → kind_fits no_class_of d.types v kind ≡ true → ValueFits s builder v kind
  plain_fits (values.object (Some id)) (kinds.object t) e = absurd (cc)
  plain_fits (values.object (Some id)) kinds.bool e = absurd (cc)
  plain_fits (values.object (Some id)) (kinds.whole k) e = absurd (cc)
  plain_fits (values.object (Some id)) kinds.text e = absurd (cc)
  plain_fits (values.object (Some id)) (kinds.enum t) e = absurd (cc)
  plain_fits (values.object (Some id)) (kinds.flags t) e = absurd (cc)
  plain_fits (values.object None) kind e = record { kind_is = of_kind no_class_of d.types (values.object None) kind e; lives = refl; held = tt }
  plain_fits (values.bool b) kind e = record { kind_is = of_kind no_class_of d.types (values.bool b) kind e; lives = refl; held = tt }
  plain_fits (values.whole k n) kind e = record { kind_is = of_kind no_class_of d.types (values.whole k n) kind e; lives = refl; held = tt }
  plain_fits (values.text t) kind e = record { kind_is = of_kind no_class_of d.types (values.text t) kind e; lives = refl; held = tt }
  plain_fits (values.enum t n) kind e = record { kind_is = of_kind no_class_of d.types (values.enum t n) kind e; lives = refl; held = tt }
  plain_fits (values.flags t n) kind e = record { kind_is = of_kind no_class_of d.types (values.flags t n) kind e; lives = refl; held = tt }

  -- an object of the builder
  held_fits : HeldGood s builder → (place type : ℕ) (h : BuilderEntry) (v : Value) → read unbuilt builder place ≡ h → object_held h ≡ Some v → ValueFits s builder v (kinds.object type)
  held_fits held place type unbuilt v is e = absurd (cc)
  held_fits held place type released v is e = absurd (cc)
  held_fits held place type (built id) v is e =
      let same : values.object (Some id) ≡ v = cc in
      subst (λ v. ValueFits s builder v (kinds.object type)) same
      (record { kind_is = refl; lives = ap (λ o. is_some o) (held place id is); held = (place, is) })

  pub given_fits : (w : World) → w.builder ≡ builder → HeldGood s builder → (kind : Kind) (g : Given) (v : Value) → GivenFits d kind g → given_value w g ≡ Some v → ValueFits s builder v kind
  given_fits w same held kind (value u) v fits e = let own : u ≡ v = cc in subst (λ v. ValueFits s builder v kind) own (plain_fits u kind fits)
  given_fits w same held kind (named to) v fits e =
      subst (ValueFits s builder v) (sym fits.4) (held_fits held to fits.1 (builder_entry w to) v (ap (λ b. read unbuilt b to) (sym same)) e)

-- ** sets

module _ (d : Definition) (types : TypesRead d) (s : Standing) (w : World) (held : HeldGood s w.builder) (place : ℕ) (p : Place) (is : place_at d place ≡ Some p) where
  class_is : class_at d place ≡ Some p.class
  class_is = ap (option_map (λ (p : Place). p.class)) is

  -- a set of a writable property, of a value that fits
  set_good : (slot : ℕ) (spec : Spec) (v : Value) → spec_of d p.class slot ≡ Some spec → is_writable spec ≡ true → ValueFits s w.builder v spec.kind →
      MakingGood d s w.builder place (sets slot v)
  set_good slot spec v has writable fits = (spec, ap (spec_if d slot) class_is ∙ has, fits.kind_is, fits.lives, fits.held, writable)

  found_fits : (gs : List GivenProperty) → Each (GivenRead d place p) gs → (slot : ℕ) (spec : Spec) (v : Value) → spec_of d p.class slot ≡ Some spec → given_at w gs slot ≡ Some v →
      ValueFits s w.builder v spec.kind
  found_fits [] all slot spec v has e = absurd (cc)
  found_fits (g ∷ gs) all slot spec v has e = go (nat_eq g.slot slot) refl (λ e. found_fits gs all.1 slot spec v has e) e
    where
      go : (b : Bool) → nat_eq g.slot slot ≡ b → (given_at w gs slot ≡ Some v → ValueFits s w.builder v spec.kind) → cond b (given_value w g.given) (given_at w gs slot) ≡ Some v →
          ValueFits s w.builder v spec.kind
      go true t later e =
          let own : all.0.spec ≡ spec = (let f = sym all.0.is ∙ (ap (spec_of d p.class) (eqb-true g.slot slot t) ∙ has) in cc) in
          subst (λ (x : Spec). ValueFits s w.builder v x.kind) own (given_fits d s w.builder w refl held all.0.spec.kind g.given v all.0.fits e)
      go false t later e = later e

  or_default_fits : (gs : List GivenProperty) → Each (GivenRead d place p) gs → (slot : ℕ) (spec : Spec) → spec_of d p.class slot ≡ Some spec →
      ValueFits s w.builder (or_default (given_at w gs slot) spec.default) spec.kind
  or_default_fits gs all slot spec has = go (given_at w gs slot) refl
    where
      go : (o : Option Value) → given_at w gs slot ≡ o → ValueFits s w.builder (or_default o spec.default) spec.kind
      go (Some v) e = found_fits gs all slot spec v has e
      go None e = plain_fits d s w.builder spec.default spec.kind (both_parts (kind_fits no_class_of d.types spec.default spec.kind) _ (types.specs p.class slot spec has).default).0

  construct_writable : (slot : ℕ) (spec : Spec) → spec_of d p.class slot ≡ Some spec → is_at_construction spec ≡ true → is_writable spec ≡ true
  construct_writable slot spec has e = go (either_part (is_construct spec) (is_construct_only spec) e)
    where
      go : (is_construct spec ≡ true) ⊎ (is_construct_only spec ≡ true) → is_writable spec ≡ true
      go (inl c) = (types.specs p.class slot spec has).construct c
      go (inr c) = (types.specs p.class slot spec has).construct_only c

  constructs_good : (gs : List GivenProperty) → Each (GivenRead d place p) gs → (n : ℕ) (specs : List Spec) → ((i : ℕ) → spec_of d p.class (n + i) ≡ slice_get specs i) →
      Each (MakingGood d s w.builder place) (construct_sets w gs n specs)
  constructs_good gs all n [] at = tt
  constructs_good gs all n (x ∷ specs) at =
      each_append (MakingGood d s w.builder place) (cond (is_at_construction x) (sets n (or_default (given_at w gs n) x.default) ∷ []) []) (construct_sets w gs (suc n) specs)
      (go (is_at_construction x) refl)
      (constructs_good gs all (suc n) specs (λ i. (let e : suc n + i ≡ n + suc i = omega arith in ap (spec_of d p.class) e ∙ at (suc i))))
    where
      here : spec_of d p.class n ≡ Some x
      here = let e : n ≡ n + 0 = omega arith in ap (spec_of d p.class) e ∙ at 0

      go : (b : Bool) → is_at_construction x ≡ b → Each (MakingGood d s w.builder place) (cond b (sets n (or_default (given_at w gs n) x.default) ∷ []) [])
      go true e = (set_good n x (or_default (given_at w gs n) x.default) here (construct_writable n x here e) (or_default_fits gs all n x here), tt)
      go false e = tt

  givens_good : (specs : List Spec) (gs : List GivenProperty) → Each (GivenRead d place p) gs → Each (MakingGood d s w.builder place) (given_sets w specs gs)
  givens_good specs [] all = tt
  givens_good specs (g ∷ gs) all =
      each_append (MakingGood d s w.builder place) (cond (is_at_construction (read no_spec specs g.slot)) [] (set_of (given_value w g.given) g.slot)) (given_sets w specs gs)
      (go (is_at_construction (read no_spec specs g.slot)) (given_value w g.given) refl) (givens_good specs gs all.1)
    where
      go : (b : Bool) (o : Option Value) → given_value w g.given ≡ o → Each (MakingGood d s w.builder place) (cond b [] (set_of o g.slot))
      go true o e = tt
      go false None e = tt
      go false (Some v) e = (set_good g.slot all.0.spec v all.0.is all.0.writable (given_fits d s w.builder w refl held all.0.spec.kind g.given v all.0.fits e), tt)

-- ** programs

pub no_fault : (b : Bool) (fault : Fault) → unless b fault ≡ [] → b ≡ true
no_fault true fault e = refl
no_fault false fault e = absurd (cc)

-- a class's own program takes an instance of the class
program_fits : (d : Definition) (n i : ℕ) (cs : List Class) (program : ℕ) → class_faults d n cs ≡ [] → (read no_class cs i).constructed ≡ Some program → constructed_fits d (n + i) program ≡ true
program_fits d n i [] program e is = absurd (cc)
program_fits d n zero (c ∷ cs) program e is =
    let x = both_empty (class_handler_faults d n 0 c.handlers) (constructed_faults d n c.constructed ++ class_faults d (suc n) cs) e in
    let y = both_empty (constructed_faults d n c.constructed) (class_faults d (suc n) cs) x.1 in
    let f : constructed_faults d n (Some program) ≡ [] = ap (constructed_faults d n) (sym is) ∙ y.0 in
    let same : n ≡ n + 0 = omega arith in
    ap (λ n. constructed_fits d n program) (sym same) ∙ no_fault (constructed_fits d n program) (handler_signature (faults.constructed n)) f
program_fits d n (suc i) (c ∷ cs) program e is =
    let x = both_empty (class_handler_faults d n 0 c.handlers) (constructed_faults d n c.constructed ++ class_faults d (suc n) cs) e in
    let y = both_empty (constructed_faults d n c.constructed) (class_faults d (suc n) cs) x.1 in
    let same : suc n + i ≡ n + suc i = omega arith in
    ap (λ n. constructed_fits d n program) (sym same) ∙ program_fits d (suc n) i cs program y.1 is

-- what an instance of a class is taken by takes the object of a place of the class
taken_at : (d : Definition) → TypesRead d → (place class : ℕ) → is_one d.types class (class_at d place) ≡ true → (o : Option Program) → is_taken_by d o (kinds.some class ∷ []) None ≡ true →
    is_taken_by d o (kinds.at place ∷ []) None ≡ true
taken_at d types place class one None e = absurd (cc)
taken_at d types place class one (Some p) e =
    let x = both_parts (parameters_fit d (kinds.some class ∷ []) p.params) (result_fits d p.result None) e in
    ap (λ b. b && result_fits d p.result None) (by p.params x.0) ∙ x.1
  where
    by : (ps : List RegisterKind) → parameters_fit d (kinds.some class ∷ []) ps ≡ true → parameters_fit d (kinds.at place ∷ []) ps ≡ true
    by [] e = absurd (cc)
    by (q ∷ ps) e =
        let x = both_parts (fits d (kinds.some class) q) (parameters_fit d [] ps) e in
        ap (λ b. b && parameters_fit d [] ps) (at_class d types place class q one x.0) ∙ x.1

module _ (d : Definition) (types : TypesRead d) (a : Accepted d) (s : Standing) (builder : List BuilderEntry) (place : ℕ) (p : Place) (is : place_at d place ≡ Some p) where
  runs_good : Each (MakingGood d s builder place) (constructed_runs d p.class)
  runs_good = each_flat (MakingGood d s builder place) (λ c. run_of (class_of d c).constructed) (reverse (lineage d.types p.class)) (λ c h. go c (in_reverse (lineage d.types p.class) c h) (class_of d c).constructed refl)
    where
      faults_none : class_faults d 0 d.classes ≡ []
      faults_none = (both_empty (class_faults d 0 d.classes) (place_faults d 0 d.places) a.handlers).0

      go : (c : ℕ) → IsIn c (lineage d.types p.class) → (o : Option ℕ) → (class_of d c).constructed ≡ o → Each (MakingGood d s builder place) (run_of o)
      go c h None e = tt
      go c h (Some program) e =
          let one : is_a d.types p.class c ≡ true =
          any_true (is_or_implements d.types c) (lineage d.types p.class) c h (or_left (nat_eq c c) (list_any (nat_eq c) (implemented_by d.types c)) (eq-eqb c c refl)) in
          let fits = program_fits d 0 c d.classes program faults_none e in
          let same : 0 + c ≡ c = omega arith in (
            taken_at d types place c (ap (λ o. is_one d.types c o) (ap (option_map (λ (p : Place). p.class)) is) ∙ one) (program_at d program)
                (ap (λ c. constructed_fits d c program) (sym same) ∙ fits),
            tt,
          )

pub constructions_fit : ConstructionsFit
constructions_fit d types a s w place p held is well =
    let given = not_forward place p.given in
    let all = each_filter (GivenRead d place p) (λ (g : GivenProperty). not (is_forward place g.given)) p.given well.given in
    let specs = specs_of d p.class in
    each_append (MakingGood d s w.builder place) (construct_sets w given 0 specs) (constructed_runs d p.class ++ (given_sets w specs given ++ thaws ∷ []))
    (constructs_good d types s w held place p is given all 0 specs (λ i. (let e : 0 + i ≡ i = omega arith in ap (spec_of d p.class) e)))
    (each_append (MakingGood d s w.builder place) (constructed_runs d p.class) (given_sets w specs given ++ thaws ∷ []) (runs_good d types a s w.builder place p is)
    (each_append (MakingGood d s w.builder place) (given_sets w specs given) (thaws ∷ []) (givens_good d types s w held place p is specs given all) (tt, tt)))

-- ** thaws

thaw_sum : (xs ys : List ConstructStep) → to_thaw (xs ++ ys) ≡ to_thaw xs + to_thaw ys
thaw_sum [] ys = omega arith
thaw_sum (sets slot v ∷ xs) ys = thaw_sum xs ys
thaw_sum (runs program ∷ xs) ys = thaw_sum xs ys
thaw_sum (thaws ∷ xs) ys = let h = thaw_sum xs ys in omega (arith, h)

no_thaw_constructs : (w : World) (gs : List GivenProperty) (n : ℕ) (specs : List Spec) → to_thaw (construct_sets w gs n specs) ≡ 0
no_thaw_constructs w gs n [] = refl
no_thaw_constructs w gs n (x ∷ specs) =
    let h = no_thaw_constructs w gs (suc n) specs in
    let t = thaw_sum (cond (is_at_construction x) (sets n (or_default (given_at w gs n) x.default) ∷ []) []) (construct_sets w gs (suc n) specs) in
    let e = go (is_at_construction x) in
    omega (arith, h, t, e)
  where
    go : (b : Bool) → to_thaw (cond b (sets n (or_default (given_at w gs n) x.default) ∷ []) []) ≡ 0
    go true = refl
    go false = refl

no_thaw_givens : (w : World) (specs : List Spec) (gs : List GivenProperty) → to_thaw (given_sets w specs gs) ≡ 0
no_thaw_givens w specs [] = refl
no_thaw_givens w specs (g ∷ gs) =
    let h = no_thaw_givens w specs gs in
    let t = thaw_sum (cond (is_at_construction (read no_spec specs g.slot)) [] (set_of (given_value w g.given) g.slot)) (given_sets w specs gs) in
    let e = go (is_at_construction (read no_spec specs g.slot)) (given_value w g.given) in
    omega (arith, h, t, e)
  where
    go : (b : Bool) (o : Option Value) → to_thaw (cond b [] (set_of o g.slot)) ≡ 0
    go true o = refl
    go false None = refl
    go false (Some v) = refl

-- whether a step runs a program
abbrev is_run : ConstructStep → Bool
is_run (runs program) = true
is_run m = false

all_run : (d : Definition) (class : ℕ) → Each (λ m. is_run m ≡ true) (constructed_runs d class)
all_run d class = each_flat (λ m. is_run m ≡ true) (λ c. run_of (class_of d c).constructed) (reverse (lineage d.types class)) (λ c h. go (class_of d c).constructed)
  where
    go : (o : Option ℕ) → Each (λ m. is_run m ≡ true) (run_of o)
    go None = tt
    go (Some program) = (refl, tt)

no_thaw_runs : (ms : List ConstructStep) → Each (λ m. is_run m ≡ true) ms → to_thaw ms ≡ 0
no_thaw_runs [] all = refl
no_thaw_runs (runs program ∷ ms) all = no_thaw_runs ms all.1
no_thaw_runs (sets slot v ∷ ms) all = absurd (let e = all.0 in cc)
no_thaw_runs (thaws ∷ ms) all = absurd (let e = all.0 in cc)

pub constructions_thaw : ConstructionsThaw
constructions_thaw d w place p =
    let given = not_forward place p.given in
    let specs = specs_of d p.class in
    let t1 = thaw_sum (construct_sets w given 0 specs) (constructed_runs d p.class ++ (given_sets w specs given ++ thaws ∷ [])) in
    let t2 = thaw_sum (constructed_runs d p.class) (given_sets w specs given ++ thaws ∷ []) in
    let t3 = thaw_sum (given_sets w specs given) (thaws ∷ []) in
    let a = no_thaw_constructs w given 0 specs in
    let b = no_thaw_runs (constructed_runs d p.class) (all_run d p.class) in
    let c = no_thaw_givens w specs given in
    omega (arith, t1, t2, t3, a, b, c)

-- ** depths

module _ (d : Definition) (a : Accepted d) (w : World) (place : ℕ) (p : Place) (is : place_at d place ≡ Some p) where
  abbrev specs : List Spec
  specs = specs_of d p.class

  abbrev raising : List Channel
  raising = constructed place ∷ set_from place p.given 0 specs

  abbrev most : ℕ
  most = deepest a.weighed.depths (present d raising)

  abbrev Low : ConstructStep → Type 0
  Low m = step_depth a.weighed.depths place m ≤ most

  -- what the making may raise goes no deeper, and what is not there is flat
  reached : (c : Channel) → IsIn c raising → entry a.weighed.depths.channels c ≤ most
  reached c h = go (is_channel d c) refl
    where
      go : (b : Bool) → is_channel d c ≡ b → entry a.weighed.depths.channels c ≤ most
      go true e = greatest_in (entry a.weighed.depths.channels) (present d raising) c (filter_in (is_channel d) raising c e h)
      go false e = let z = absent_is_flat d a c e in omega (arith, z)

  -- a property that is set is among them
  set_listed : (gs : List GivenProperty) (n k : ℕ) (xs : List Spec) (x : Spec) → slice_get xs k ≡ Some x → (is_at_construction x || list_any (is_given place (n + k)) gs) ≡ true →
      IsIn (property place (n + k)) (set_from place gs n xs)
  set_listed gs n k [] x e h = absurd (cc)
  set_listed gs n zero (y ∷ xs) x e h =
      let same : x ≡ y = cc in
      let at : n + 0 ≡ n = omega arith in
      let here : (is_at_construction y || list_any (is_given place n) gs) ≡ true = (let f = ap (λ n. is_at_construction x || list_any (is_given place n) gs) at in let g = ap (λ (x : Spec). is_at_construction x || list_any (is_given place n) gs) same in sym g ∙ (sym f ∙ h)) in
      append_left (cond (is_at_construction y || list_any (is_given place n) gs) (property place n ∷ []) []) (set_from place gs (suc n) xs) (property place (n + 0))
      (subst (λ b. IsIn (property place (n + 0)) (cond b (property place n ∷ []) [])) (sym here) (inl (ap (property place) at)))
  set_listed gs n (suc k) (y ∷ xs) x e h =
      let at : suc n + k ≡ n + suc k = omega arith in
      append_right (cond (is_at_construction y || list_any (is_given place n) gs) (property place n ∷ []) []) (set_from place gs (suc n) xs) (property place (n + suc k))
      (subst (λ m. IsIn (property place m) (set_from place gs (suc n) xs)) at
      (set_listed gs (suc n) k xs x e (ap (λ m. is_at_construction x || list_any (is_given place m) gs) at ∙ h)))

  constructs_low : (gs : List GivenProperty) (n : ℕ) (xs : List Spec) → ((i : ℕ) → slice_get specs (n + i) ≡ slice_get xs i) → Each Low (construct_sets w gs n xs)
  constructs_low gs n [] at = tt
  constructs_low gs n (x ∷ xs) at =
      each_append Low (cond (is_at_construction x) (sets n (or_default (given_at w gs n) x.default) ∷ []) []) (construct_sets w gs (suc n) xs) (go (is_at_construction x) refl)
      (constructs_low gs (suc n) xs (λ i. (let e : suc n + i ≡ n + suc i = omega arith in ap (slice_get specs) e ∙ at (suc i))))
    where
      here : slice_get specs n ≡ Some x
      here = let e : n ≡ n + 0 = omega arith in ap (slice_get specs) e ∙ at 0

      go : (b : Bool) → is_at_construction x ≡ b → Each Low (cond b (sets n (or_default (given_at w gs n) x.default) ∷ []) [])
      go true e = (
        (let zero_first : 0 + n ≡ n = omega arith in
            reached (property place n) (inr (subst (λ m. IsIn (property place m) (set_from place p.given 0 specs)) zero_first
            (set_listed p.given 0 n specs x here (ap (λ b. b || list_any (is_given place (0 + n)) p.given) e))))),
        tt,
      )
      go false e = tt

  -- of the given ones those that are not forward are
  givens_low : (gs : List GivenProperty) → ((g : GivenProperty) → IsIn g gs → IsIn g p.given) → Each (GivenRead d place p) gs →
      Each Low (given_sets w specs (not_forward place gs))
  givens_low [] among all = tt
  givens_low (g ∷ gs) among all = by (is_forward place g.given) refl (givens_low gs (λ x h. among x (inr h)) all.1)
    where
      listed : is_forward place g.given ≡ false → entry a.weighed.depths.channels (property place g.slot) ≤ most
      listed plain =
          let zero_first : 0 + g.slot ≡ g.slot = omega arith in
          let own : is_given place (0 + g.slot) g ≡ true = both (nat_eq g.slot (0 + g.slot)) (not (is_forward place g.given)) (eq-eqb g.slot (0 + g.slot) (sym zero_first)) (ap not plain) in
          let some = any_true (is_given place (0 + g.slot)) p.given g (among g (inl refl)) own in
          reached (property place g.slot)
          (inr (subst (λ m. IsIn (property place m) (set_from place p.given 0 specs)) zero_first
          (set_listed p.given 0 g.slot specs all.0.spec all.0.is (either_way (is_at_construction all.0.spec) (list_any (is_given place (0 + g.slot)) p.given) some))))
        where
          both : (a b : Bool) → a ≡ true → b ≡ true → (a && b) ≡ true
          both a b p q = ap (λ x. x && b) p ∙ q

          either_way : (a b : Bool) → b ≡ true → (a || b) ≡ true
          either_way true b e = refl
          either_way false b e = e

      one : (b : Bool) (o : Option Value) → is_forward place g.given ≡ false → Each Low (cond b [] (set_of o g.slot))
      one true o plain = tt
      one false None plain = tt
      one false (Some v) plain = (listed plain, tt)

      by : (f : Bool) → is_forward place g.given ≡ f → Each Low (given_sets w specs (not_forward place gs)) →
          Each Low (given_sets w specs (cond (not f) (g ∷ not_forward place gs) (not_forward place gs)))
      by true e rest = rest
      by false e rest =
          each_append Low (cond (is_at_construction (read no_spec specs g.slot)) [] (set_of (given_value w g.given) g.slot)) (given_sets w specs (not_forward place gs))
          (one (is_at_construction (read no_spec specs g.slot)) (given_value w g.given) e) rest

  -- a program of the construction is one of those that the construction's channel runs
  in_programs : (ms : List ConstructStep) (program : ℕ) → IsIn (runs program) ms → IsIn program (programs_of ms)
  in_programs [] program h = absurd h
  in_programs (runs q ∷ ms) program (inl e) = inl (let f = ap number_of e in f)
    where
      number_of : ConstructStep → ℕ
      number_of (runs q) = q
      number_of _ = program
  in_programs (runs q ∷ ms) program (inr h) = inr (in_programs ms program h)
  in_programs (sets slot v ∷ ms) program (inl e) = absurd (let f = ap is_run e in cc)
  in_programs (sets slot v ∷ ms) program (inr h) = in_programs ms program h
  in_programs (thaws ∷ ms) program (inl e) = absurd (let f = ap is_run e in cc)
  in_programs (thaws ∷ ms) program (inr h) = in_programs ms program h

  own_programs : programs_of (constructed_runs d p.class) ≡ constructed_at d place
  own_programs = ap (of_class (λ class. programs_of (constructed_runs d class))) (sym (ap (option_map (λ (p : Place). p.class)) is))

  filled : (xs : List ℕ) (x : ℕ) → IsIn x xs → is_filled xs ≡ true
  filled [] x h = absurd h
  filled (y ∷ ys) x h = refl

  run_low : (m : ConstructStep) → is_run m ≡ true → IsIn m (constructed_runs d p.class) → Low m
  run_low (sets slot v) e h = absurd (cc)
  run_low thaws e h = absurd (cc)
  run_low (runs program) e h =
      let there : IsIn program (constructed_at d place) = subst (IsIn program) own_programs (in_programs (constructed_runs d p.class) program h) in
      let k = channels_known d a (constructed place) (filled (constructed_at d place) program there) in
      let r = raised_there d (constructed place) in
      let inside = greatest_in (of_program a.weighed.depths) (running_at r) program (append_right r.class_handler (r.handlers ++ r.connectable) program (append_left r.handlers r.connectable program there)) in
      let top = reached (constructed place) (inl refl) in
      let deep = k.deep in
      omega (arith, inside, top, deep)

  runs_low : (ms : List ConstructStep) → Each (λ m. is_run m ≡ true) ms → ((m : ConstructStep) → IsIn m ms → IsIn m (constructed_runs d p.class)) → Each Low ms
  runs_low [] all among = tt
  runs_low (m ∷ ms) all among = (run_low m all.0 (among m (inl refl)), runs_low ms all.1 (λ x h. among x (inr h)))

pub constructions_shallow : ConstructionsShallow
constructions_shallow d a w place p is well =
    let given = not_forward place p.given in
    each_append (Low d a w place p is) (construct_sets w given 0 (specs_of d p.class)) (constructed_runs d p.class ++ (given_sets w (specs_of d p.class) given ++ thaws ∷ []))
    (constructs_low d a w place p is given 0 (specs_of d p.class) (λ i. (let e : 0 + i ≡ i = omega arith in ap (slice_get (specs_of d p.class)) e)))
    (each_append (Low d a w place p is) (constructed_runs d p.class) (given_sets w (specs_of d p.class) given ++ thaws ∷ [])
    (runs_low d a w place p is (constructed_runs d p.class) (all_run d p.class) (λ m h. h))
    (each_append (Low d a w place p is) (given_sets w (specs_of d p.class) given) (thaws ∷ [])
    (givens_low d a w place p is p.given (λ g h. h) well.given) (omega arith, tt)))
