-- What a change of one instance keeps of all: that each was given, which is the lowest that nothing holds, that children and parents
-- were given, that it is known who names whom, and that each holds few.
use Rattle.std.proofs.Common.{◌≡◌, ◌≢◌, ℕ, ◌<◌, ◌≤◌, List, [], ◌∷◌, ◌++◌, length, cond, nat_eq, refl, Bool, true, false, Option, None, Some, is_some, IsSome, inl, inr, sym, ap, subst, ◌∙◌, arith}
use Rattle.std.proofs.lemmas.Bool.{cases_eq}
use Rattle.std.proofs.lemmas.Bool.Decides.{nat_tests}
use Rattle.std.specs.Option.{option_map}
use Rattle.ui_machine.specs.Seq.{total}
use Rattle.ui_machine.specs.State.Objects.{Object, living}
use Rattle.ui_machine.specs.State.References.{same}
use Rattle.ui_machine.specs.State.Config.{without}
use Rattle.ui_machine.specs.Rules.Children.{with_child, with_parent, without_child}
use Rattle.ui_machine.specs.Rules.Disposal.{children_of}
use Rattle.instance_tables.specs.Family.{parent_in, KeepsKin}
use Rattle.ui_machine.specs.declared.ids.ObjectId.{ObjectId}
use Rattle.instance_tables.specs.Bounds.{AllHoldFew, HoldsFew}
use Rattle.instance_tables.specs.Lent.{with_instance}
use Rattle.instance_tables.specs.Names.{names_any, MayName, NamersKnow, StaysBeside}
use Rattle.instance_tables.specs.Store.{Store}
use Rattle.instance_tables.specs.Unheld.{KnowsUnheld, IsLetGo}
use Rattle.instance_tables.specs.View.{Lookup, held_in, object_in, store_of, InRange, IsHeldOrGone, KinInRange, Replaces, instances_at}
use Rattle.instance_tables.specs.declared.instance.Instance.{Instance}
use Rattle.instance_tables.specs.declared.namers.Namers.{Namers}
use Rattle.instance_tables.specs.declared.unheld.Unheld.{Unheld}
use Rattle.instance_tables.proofs.Exact.{one_more, split}
use Rattle.instance_tables.proofs.Maps.{written}
use Rattle.instance_tables.proofs.Naming.{known_gone, known_replaced, known_same}
use Rattle.instance_tables.proofs.Short.{no_more}
use Rattle.instance_tables.proofs.Shown.{found_in, given_out}
use Rattle.instance_tables.proofs.Noted.{known_same as unheld_same}

-- what holds of all instances
abbrev pub Well : Lookup → ℕ → Unheld → Namers → Type 0
Well at made u names = InRange at made × KnowsUnheld (held_in at) u × KinInRange at made × NamersKnow names at × AllHoldFew at

-- the children and the parent of one object were given
abbrev pub KinGiven : ℕ → Option Object → Type 0
KinGiven made o =
    ((child : ℕ) → 0 < total (same child) (children_of o) → child ≤ made) × ((parent : ℕ) → parent_in o ≡ Some parent → parent ≤ made)

-- an instance that holds few, new or in place of another
pub few_with : (at new : Lookup) (id : ℕ) (y : Instance) → AllHoldFew at → HoldsFew y.object → Replaces at new id (Some y) → AllHoldFew new
few_with at new id y all few replaces q x e =
    elim (cases_eq q id) [
      | inl is ↦
          let both : Some y ≡ Some x = sym replaces.changed ∙ ap new (sym is) ∙ e in
          let same : y ≡ x = cc in
          subst (λ (z : Instance). HoldsFew z.object) same few
      | inr ne ↦ all q x (sym (replaces.others q ne) ∙ e)
    ]

module _ (at new : Lookup) (made id : ℕ) (was y : Instance) (here : at id ≡ Some was) (replaces : Replaces at new id (Some y)) where
  still_range : InRange at made → InRange new made
  still_range range q some =
      elim (cases_eq q id) [
        | inl is ↦ range q (ap is_some (ap at is ∙ here))
        | inr ne ↦ range q (subst IsSome (replaces.others q ne) some)
      ]

  held_others : (q : ℕ) → q ≢ id → held_in new q ≡ held_in at q
  held_others q ne = ap (option_map (λ (x : Instance). x.mentions)) (replaces.others q ne)

  held_here : held_in new id ≡ Some y.mentions
  held_here = ap (option_map (λ (x : Instance). x.mentions)) replaces.changed

  held_was : held_in at id ≡ Some was.mentions
  held_was = ap (option_map (λ (x : Instance). x.mentions)) here

  more_held : 0 < y.mentions → held_in new id ≡ Some 0 → ⊥
  more_held more e = let same : Some y.mentions ≡ Some 0 = sym held_here ∙ e in let zero : y.mentions ≡ 0 = cc in omega (arith, more, zero)

  still_unheld : (u : Unheld) → KnowsUnheld (held_in at) u → y.mentions ≡ was.mentions → KnowsUnheld (held_in new) u
  still_unheld u noted same =
      unheld_same (held_in at) (held_in new) u
      (λ q. elim (cases_eq q id) [
        | inl is ↦ ap (held_in new) is ∙ held_here ∙ ap Some same ∙ sym held_was ∙ ap (held_in at) (sym is)
        | inr ne ↦ held_others q ne
      ]) noted

  -- one that is held less often
  is_let_go : y.mentions ≤ was.mentions → IsLetGo (held_in at) (held_in new) id y.mentions
  is_let_go less = record {
    here = held_here;
    less = λ more e.
        let none : Some was.mentions ≡ Some 0 = sym held_was ∙ e in
        let zero : was.mentions ≡ 0 = cc in
        omega (arith, more, less, zero);
    others = held_others;
  }

  still_kin : KinInRange at made → KinGiven made (Some y.object) → KinInRange new made
  still_kin kin given = (children, parents)
    where
      there : (q : ℕ) → q ≡ id → object_in (new q) ≡ Some y.object
      there q is = ap object_in (ap new is ∙ replaces.changed)

      children : (q child : ℕ) → 0 < total (same child) (children_of (object_in (new q))) → child ≤ made
      children q child some =
          elim (cases_eq q id) [
            | inl is ↦ given.0 child (subst (λ (o : Option Object). 0 < total (same child) (children_of o)) (there q is) some)
            | inr ne ↦ kin.0 q child (subst (λ (o : Option Instance). 0 < total (same child) (children_of (object_in o))) (replaces.others q ne) some)
          ]

      parents : (q parent : ℕ) → parent_in (object_in (new q)) ≡ Some parent → parent ≤ made
      parents q parent e =
          elim (cases_eq q id) [
            | inl is ↦ given.1 parent (ap parent_in (sym (there q is)) ∙ e)
            | inr ne ↦ kin.1 q parent (ap (λ (o : Option Instance). parent_in (object_in o)) (sym (replaces.others q ne)) ∙ e)
          ]

-- an object of the look-up has its kin in range, and so has one that keeps its kin
pub kin_kept : (at : Lookup) (made id : ℕ) (was : Instance) (o : Object) → KinInRange at made → at id ≡ Some was
    → KeepsKin was.object o → KinGiven made (Some o)
kin_kept at made id was o kin here keeps = (
  λ child some.
      let is : total (same child) o.children ≡ total (same child) (children_of (object_in (at id))) =
      ap (total (same child)) keeps.children ∙ ap (λ (x : Option Instance). total (same child) (children_of (object_in x))) (sym here) in
      kin.0 id child (omega (arith, is, some)),
  λ parent e. kin.1 id parent (ap (λ (x : Option Instance). parent_in (object_in x)) here ∙ sym keeps.parent ∙ e),
)

-- one that stays has the kin that it had
same_kin : (o p : Object) → p ≡ o → KeepsKin o p
same_kin o p e = record { children = ap (λ (x : Object). x.children) e; parent = ap (λ (x : Object). x.parent) e }

module _ (m : List (ℕ × Instance)) (made : ℕ) (u : Unheld) (names : Namers) (id : ℕ) (was y : Instance)
    (here : instances_at m id ≡ Some was) (well : Well (instances_at m) made u names) where
  replaced_well : (t : Unheld) (now : Namers) → KinGiven made (Some y.object) → HoldsFew y.object → KnowsUnheld (held_in (instances_at (with_instance m id y))) t
      → NamersKnow now (instances_at (with_instance m id y)) → Well (instances_at (with_instance m id y)) made t now
  replaced_well t now given few noted known =
      let replaces = written m id was y here in (
        still_range (instances_at m) (instances_at (with_instance m id y)) made id was y here replaces well.0,
        noted,
        still_kin (instances_at m) (instances_at (with_instance m id y)) made id was y here replaces well.2 given,
        known,
        few_with (instances_at m) (instances_at (with_instance m id y)) id y well.4 few replaces,
      )

  -- an object with other values and other kin, as often held, where what it names is known
  pub named_well : (now : Namers) → KinGiven made (Some y.object) → HoldsFew y.object → y.mentions ≡ was.mentions → StaysBeside id names now
      → ((t : ℕ) → names_any t y.object.values ≡ true → MayName now t id) → Well (instances_at (with_instance m id y)) made u now
  named_well now given few same beside own =
      let replaces = written m id was y here in
      replaced_well u now given few (still_unheld (instances_at m) (instances_at (with_instance m id y)) made id was y here replaces u well.1 same)
      (known_replaced (instances_at m) (instances_at (with_instance m id y)) id names now well.3 beside y replaces own)

  -- an object that keeps its values
  same_known : y.object.values ≡ was.object.values → NamersKnow names (instances_at (with_instance m id y))
  same_known = known_same (instances_at m) (instances_at (with_instance m id y)) id names was y well.3 here (written m id was y here)

  -- an object with other kin, as often held
  pub kin_well : KinGiven made (Some y.object) → HoldsFew y.object → y.mentions ≡ was.mentions → y.object.values ≡ was.object.values
      → Well (instances_at (with_instance m id y)) made u names
  kin_well given few same still =
      replaced_well u names given few
      (still_unheld (instances_at m) (instances_at (with_instance m id y)) made id was y here (written m id was y here) u well.1 same) (same_known still)

  -- another object with the same kin, as often held
  pub same_well : KeepsKin was.object y.object → y.mentions ≡ was.mentions → y.object.values ≡ was.object.values
      → Well (instances_at (with_instance m id y)) made u names
  same_well keeps same still =
      kin_well (kin_kept (instances_at m) made id was y.object well.2 here keeps)
      (no_more was.object y.object (well.4 id was here) (ap (λ vs. length vs) still)
      (let children : length y.object.children ≡ length was.object.children = ap (λ is. length is) keeps.children in omega (arith, children)))
      same still

  same_object : y.object ≡ was.object → KinGiven made (Some y.object)
  same_object same = kin_kept (instances_at m) made id was y.object well.2 here (same_kin was.object y.object same)

  same_few : y.object ≡ was.object → HoldsFew y.object
  same_few same = subst HoldsFew (sym same) (well.4 id was here)

  -- the same object, as often held
  pub unchanged_well : y.object ≡ was.object → y.mentions ≡ was.mentions → Well (instances_at (with_instance m id y)) made u names
  unchanged_well same still = kin_well (same_object same) (same_few same) still (ap (λ (o : Object). o.values) same)

  -- the same object, held more often
  pub held_well : (t : Unheld) → y.object ≡ was.object → 0 < y.mentions
      → ((held : ℕ → Option ℕ) → KnowsUnheld held u → IsHeldOrGone held (held_in (instances_at (with_instance m id y))) id
      → KnowsUnheld (held_in (instances_at (with_instance m id y))) t)
      → Well (instances_at (with_instance m id y)) made t names
  held_well t same more found =
      let replaces = written m id was y here in
      replaced_well t names (same_object same) (same_few same)
      (found (held_in (instances_at m)) well.1 (record {
        gone = more_held (instances_at m) (instances_at (with_instance m id y)) made id was y here replaces more;
        others = held_others (instances_at m) (instances_at (with_instance m id y)) made id was y here replaces;
      }))
      (same_known (ap (λ (o : Object). o.values) same))

  -- the same object, held less often
  pub less_well : (t : Unheld) → y.object ≡ was.object → y.mentions ≤ was.mentions
      → ((held new : ℕ → Option ℕ) → KnowsUnheld held u → IsLetGo held new id y.mentions → KnowsUnheld new t)
      → Well (instances_at (with_instance m id y)) made t names
  less_well t same less noted =
      replaced_well t names (same_object same) (same_few same)
      (noted (held_in (instances_at m)) (held_in (instances_at (with_instance m id y))) well.1
      (is_let_go (instances_at m) (instances_at (with_instance m id y)) made id was y here (written m id was y here) less))
      (same_known (ap (λ (o : Object). o.values) same))

-- one that is taken out
module _ (at new : Lookup) (made : ℕ) (u : Unheld) (names : Namers) (id : ℕ) (replaces : Replaces at new id None) (well : Well at made u names) where
  none_there : (q : ℕ) → q ≡ id → object_in (new q) ≡ None
  none_there q is = ap object_in (ap new is ∙ replaces.changed)

  gone_range : InRange new made
  gone_range q some =
      elim (cases_eq q id) [
        | inl is ↦ let no : is_some (new q) ≡ false = ap is_some (ap new is ∙ replaces.changed) in absurd (cc)
        | inr ne ↦ well.0 q (subst IsSome (replaces.others q ne) some)
      ]

  gone_kin : KinInRange new made
  gone_kin = (
    λ q child some.
        elim (cases_eq q id) [
          | inl is ↦
              let no : total (same child) (children_of (object_in (new q))) ≡ 0 =
              ap (λ (o : Option Object). total (same child) (children_of o)) (none_there q is) in
              absurd (omega (arith, some, no))
          | inr ne ↦ well.2.0 q child (subst (λ (o : Option Instance). 0 < total (same child) (children_of (object_in o))) (replaces.others q ne) some)
        ],
    λ q parent e.
        elim (cases_eq q id) [
          | inl is ↦ let no : parent_in (object_in (new q)) ≡ None = ap parent_in (none_there q is) in absurd (cc)
          | inr ne ↦ well.2.1 q parent (ap (λ (o : Option Instance). parent_in (object_in o)) (sym (replaces.others q ne)) ∙ e)
        ],
  )

  gone_few : AllHoldFew new
  gone_few q x e =
      elim (cases_eq q id) [
        | inl is ↦ let no : Some x ≡ None = sym e ∙ ap new is ∙ replaces.changed in absurd (cc)
        | inr ne ↦ well.4 q x (sym (replaces.others q ne) ∙ e)
      ]

  pub gone_well : (t : Unheld) (now : Namers)
      → ((held : ℕ → Option ℕ) → KnowsUnheld held u → IsHeldOrGone held (held_in new) id → KnowsUnheld (held_in new) t)
      → StaysBeside id names now → Well new made t now
  gone_well t now found beside = (
    gone_range,
    found (held_in at) well.1 (record {
      gone = λ e.
          let no : held_in new id ≡ None = ap (option_map (λ (x : Instance). x.mentions)) replaces.changed in
          absurd (cc);
      others = λ q ne. ap (option_map (λ (x : Instance). x.mentions)) (replaces.others q ne);
    }),
    gone_kin,
    known_gone at new id names now well.3 beside replaces,
    gone_few,
  )

-- ** other kin

-- whoever is in a list that is one longer is in it or is the new one
given_more : (made new : ℕ) (is : List ℕ) → ((i : ℕ) → 0 < total (same i) is → i ≤ made) → new ≤ made → (i : ℕ)
    → 0 < total (same i) (is ++ new ∷ []) → i ≤ made
given_more made new is given small i some = by (nat_eq new i) refl
  where
    by : (b : Bool) → nat_eq new i ≡ b → i ≤ made
    by true e = let is_it : new ≡ i = grind (arith, nat_tests) in omega (arith, is_it, small)
    by false e =
        let none : same i new ≡ 0 = ap (λ b. cond b 1 0) e in
        given i (omega (arith, some, one_more i new is, none))

module _ (at : Lookup) (made id : ℕ) (kin : KinInRange at made) (was : Instance) (here : at id ≡ Some was) (o : Object) where
  children_were : (child : ℕ) → 0 < total (same child) was.object.children → child ≤ made
  children_were child some =
      kin.0 id child (subst (λ (x : Option Instance). 0 < total (same child) (children_of (object_in x))) (sym here) some)

  parent_was : (parent : ℕ) → was.object.parent ≡ Some parent → parent ≤ made
  parent_was parent e = kin.1 id parent (ap (λ (x : Option Instance). parent_in (object_in x)) here ∙ e)

  pub child_given : (child : ℕ) → o ≡ with_child child was.object → child ≤ made → KinGiven made (Some o)
  child_given child is small = (
    λ c some.
        given_more made child was.object.children children_were small c
        (subst (λ (x : Object). 0 < total (same c) x.children) is some),
    λ p e. parent_was p (sym (ap (λ (x : Object). x.parent) is) ∙ e),
  )

  pub without_given : (child : ℕ) → o ≡ without_child child was.object → KinGiven made (Some o)
  without_given child is = (
    λ c some.
        let left : 0 < total (same c) (without child was.object.children) = subst (λ (x : Object). 0 < total (same c) x.children) is some in
        children_were c (omega (arith, left, split child c was.object.children)),
    λ p e. parent_was p (sym (ap (λ (x : Object). x.parent) is) ∙ e),
  )

  pub parent_given : (parent : Option ℕ) → o ≡ with_parent parent was.object → ((p : ℕ) → parent ≡ Some p → p ≤ made)
      → KinGiven made (Some o)
  parent_given parent is small = (
    λ c some. children_were c (subst (λ (x : Object). 0 < total (same c) x.children) is some),
    λ p e. small p (sym (ap (λ (x : Object). x.parent) is) ∙ e),
  )

  -- one without children
  pub childless_given : o.children ≡ [] → o.parent ≡ was.object.parent → KinGiven made (Some o)
  childless_given none same_one = (
    λ c some. let no : 0 < total (same c) [] = subst (λ (is : List ℕ). 0 < total (same c) is) none some in absurd (omega (arith, no)),
    λ p e. parent_was p (sym same_one ∙ e),
  )

-- ** what is seen of it

module _ (at : Lookup) (made limit : ℕ) (floats : List ObjectId) (old : Store) (range : InRange at made)
    (is : store_of at made limit floats ≡ old) (kin : KinInRange at made) (id : ℕ) where
  pub parent_made : (parent : ℕ) → parent_in (living old.objects id) ≡ Some parent → parent ≤ length old.objects
  parent_made parent e =
      let made_all : length old.objects ≡ made = given_out at made limit floats old is in
      omega (arith, made_all, kin.1 id parent (ap parent_in (sym (found_in at made limit floats old range is id)) ∙ e))

  pub children_made : (child : ℕ) → 0 < total (same child) (children_of (living old.objects id)) → child ≤ length old.objects
  children_made child some =
      let made_all : length old.objects ≡ made = given_out at made limit floats old is in
      omega (
        arith,
        made_all,
        kin.0 id child
            (subst (λ (o : Option Object). 0 < total (same child) (children_of o)) (found_in at made limit floats old range is id) some),
      )
