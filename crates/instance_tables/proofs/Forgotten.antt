-- Objects that forget one.
use Rattle.std.proofs.Common.{◌≡◌, ℕ, zero, suc, ◌<◌, List, [], ◌∷◌, map, Bool, true, false, cond, Option, Some, None, is_some, refl, sym, ap, subst, ◌∙◌}
use Rattle.std.specs.Option.{option_map}
use Rattle.std.specs.List.{list_any}
use Rattle.ui_machine.specs.Seq.{listed, read, total}
use Rattle.ui_machine.specs.State.References.{same as same_as}
use Rattle.ui_machine.specs.Definition.{Definition}
use Rattle.ui_machine.specs.Definition.Lookups.{specs_of}
use Rattle.ui_machine.specs.Definition.Properties.{Spec}
use Rattle.ui_machine.specs.Definition.Values.{Value}
use Rattle.ui_machine.specs.State.Objects.{Object, Objects}
use Rattle.ui_machine.specs.Rules.Disposal.{all_forget, children_of, forgets, names_object, nulled}
use Rattle.ui_machine.proofs.Listed.{listed-same}
use Rattle.ui_machine.specs.declared.ids.ObjectId.{ObjectId}
use Rattle.instance_tables.specs.Store.{Store, ids_of, with_objects}
use Rattle.instance_tables.specs.Family.{parent_in, KeepsKin}
use Rattle.instance_tables.specs.View.{Lookup, object_in, count_in, objects_of, counts_of, held_in, store_of, InRange, KinInRange}
use Rattle.instance_tables.specs.Bounds.{AllHoldFew, HoldsFew}
use Rattle.instance_tables.specs.Names.{forgotten_in, NamersKnow}
use Rattle.instance_tables.specs.Weak.{Marks, Knows, has_weak, masked, forgotten_value, forgetting}
use Rattle.instance_tables.specs.declared.instance.Instance.{Instance}
use Rattle.instance_tables.specs.declared.namers.Namers.{Namers}
use Rattle.instance_tables.specs.Unheld.{KnowsUnheld}
use Rattle.instance_tables.specs.declared.unheld.Unheld.{Unheld}
use Rattle.instance_tables.proofs.Noted.{known_same as unheld_same}

-- each object changed, and each count as it was
pub all_changed : (at new : Lookup) (made limit : ℕ) (floats : List ObjectId) (old : Store) (change : Option Object → Option Object)
    → store_of at made limit floats ≡ old → ((q : ℕ) → object_in (new q) ≡ change (object_in (at q)))
    → ((q : ℕ) → count_in (new q) ≡ count_in (at q)) → store_of new made limit floats ≡ with_objects old (map change old.objects)
all_changed at new made limit floats old change is objects counts =
    ap (λ (cs : List ℕ). record { objects = objects_of new made; counts = cs; limit = limit; floating = ids_of floats }) (listed-same (λ i. count_in (at (suc i))) (λ i. count_in (new (suc i))) made (λ i small. counts (suc i)))
    ∙ ap (λ (os : Objects). record { objects = os; counts = counts_of at made; limit = limit; floating = ids_of floats }) (listed-same (λ i. change (object_in (at (suc i)))) (λ i. object_in (new (suc i))) made (λ i small. objects (suc i)) ∙ sym (mapped (λ i. object_in (at (suc i))) made))
    ∙ ap (λ (s : Store). with_objects s (map change s.objects)) is
  where
    mapped : (f : ℕ → Option Object) (n : ℕ) → map change (listed f n) ≡ listed (λ i. change (f i)) n
    mapped f zero = refl
    mapped f (suc n) = ap (λ os. change (f 0) ∷ os) (mapped (λ i. f (suc i)) n)

-- one instance that forgets
pub one_object : (weak : Marks) (id : ℕ) (x : Option Instance)
    → object_in (option_map (forgotten_in weak id) x) ≡ option_map (forgetting weak id) (object_in x)
one_object weak id None = refl
one_object weak id (Some x) = refl

pub one_count : (weak : Marks) (id : ℕ) (x : Option Instance) → count_in (option_map (forgotten_in weak id) x) ≡ count_in x
one_count weak id None = refl
one_count weak id (Some x) = refl

was_there : (g : Instance → Instance) (o : Option Instance) → is_some (option_map g o) ≡ is_some o
was_there g None = refl
was_there g (Some x) = refl

held_so : (g : Instance → Instance) → ((x : Instance) → (g x).mentions ≡ x.mentions) → (o : Option Instance)
    → option_map (λ (x : Instance). x.mentions) (option_map g o) ≡ option_map (λ (x : Instance). x.mentions) o
held_so g same None = refl
held_so g same (Some x) = ap Some (same x)

children_kept : (g : Instance → Instance) → ((x : Instance) → KeepsKin x.object (g x).object) → (o : Option Instance)
    → children_of (object_in (option_map g o)) ≡ children_of (object_in o)
children_kept g keeps None = refl
children_kept g keeps (Some x) = (keeps x).children

parent_kept : (g : Instance → Instance) → ((x : Instance) → KeepsKin x.object (g x).object) → (o : Option Instance)
    → parent_in (object_in (option_map g o)) ≡ parent_in (object_in o)
parent_kept g keeps None = refl
parent_kept g keeps (Some x) = (keeps x).parent

few_kept : (g : Instance → Instance) → ((x : Instance) → HoldsFew x.object → HoldsFew (g x).object) → (o : Option Instance)
    → ((w : Instance) → o ≡ Some w → HoldsFew w.object) → (x : Instance) → option_map g o ≡ Some x → HoldsFew x.object
few_kept g keeps None all x e = absurd (cc)
few_kept g keeps (Some w) all x e = let same : g w ≡ x = cc in subst (λ (z : Instance). HoldsFew z.object) same (keeps w (all w refl))

-- a change of each instance that keeps its count and its kin, and holds as few
pub still_known : (at new : Lookup) (made : ℕ) (u : Unheld) (names now : Namers) (g : Instance → Instance)
    → ((x : Instance) → (g x).mentions ≡ x.mentions) → ((x : Instance) → KeepsKin x.object (g x).object)
    → ((x : Instance) → HoldsFew x.object → HoldsFew (g x).object) → ((q : ℕ) → new q ≡ option_map g (at q)) → NamersKnow now new
    → InRange at made × KnowsUnheld (held_in at) u × KinInRange at made × NamersKnow names at × AllHoldFew at
    → InRange new made × KnowsUnheld (held_in new) u × KinInRange new made × NamersKnow now new × AllHoldFew new
still_known at new made u names now g same keeps few is known well = (
  λ id some. well.0 id (sym (ap is_some (is id) ∙ was_there g (at id)) ∙ some),
  unheld_same (held_in at) (held_in new) u
      (λ q. ap (option_map (λ (x : Instance). x.mentions)) (is q) ∙ held_so g same (at q)) well.1,
  (
    λ id child some.
        well.2.0 id child
        (subst (λ (is : List ℕ). 0 < total (same_as child) is)
        (ap (λ (o : Option Instance). children_of (object_in o)) (is id) ∙ children_kept g keeps (at id)) some),
    λ id parent e.
        well.2.1 id parent
        (sym (ap (λ (o : Option Instance). parent_in (object_in o)) (is id) ∙ parent_kept g keeps (at id)) ∙ e),
  ),
  known,
  λ q x e. few_kept g few (at q) (well.4 q) x (sym (is q) ∙ e),
)

-- ** in the machine's words

by_marks : (id : ℕ) (specs : List Spec) (vs : List Value)
    → masked (forgotten_value id) (map (λ (s : Spec). s.weak) specs) vs
    ≡ nulled (λ s v. cond s.weak (names_object id v) false) specs vs
by_marks id [] vs = refl
by_marks id (s ∷ specs) [] = refl
by_marks id (s ∷ specs) (v ∷ vs) = ap (λ (ws : List Value). forgotten_value id s.weak v ∷ ws) (by_marks id specs vs)

one_forgets : (d : Definition) (weak : Marks) (id : ℕ) → Knows d weak → (o : Object) → forgetting weak id o ≡ forgets d id o
one_forgets d weak id knows o =
    ap (λ (bs : List Bool). record o { values = masked (forgotten_value id) bs o.values }) (sym (knows o.class))
    ∙ ap (λ (vs : List Value). record o { values = vs }) (by_marks id (specs_of d o.class) o.values)

pub all_forgets : (d : Definition) (weak : Marks) (id : ℕ) → Knows d weak → (os : Objects)
    → map (option_map (forgetting weak id)) os ≡ all_forget d id os
all_forgets d weak id knows [] = refl
all_forgets d weak id knows (None ∷ os) = ap (λ (xs : Objects). None ∷ xs) (all_forgets d weak id knows os)
all_forgets d weak id knows (Some o ∷ os) =
    ap (λ (x : Object). Some x ∷ map (option_map (forgetting weak id)) os) (one_forgets d weak id knows o)
    ∙ ap (λ (xs : Objects). Some (forgets d id o) ∷ xs) (all_forgets d weak id knows os)

-- ** where nothing is weak

no_mark : (weak : Marks) (class : ℕ) → has_weak weak ≡ false → list_any (λ b. b) (read [] weak class) ≡ false
no_mark [] zero none = refl
no_mark [] (suc class) none = refl
no_mark (bs ∷ weak) zero none = by (list_any (λ b. b) bs) refl
  where
    by : (b : Bool) → list_any (λ b. b) bs ≡ b → list_any (λ b. b) bs ≡ false
    by false e = e
    by true e =
        let some : has_weak (bs ∷ weak) ≡ true = rw e refl in
        absurd (cc)
no_mark (bs ∷ weak) (suc class) none = no_mark weak class (by (list_any (λ b. b) bs) refl)
  where
    by : (b : Bool) → list_any (λ b. b) bs ≡ b → has_weak weak ≡ false
    by false e =
        let rest : has_weak (bs ∷ weak) ≡ has_weak weak = rw e refl in
        sym rest ∙ none
    by true e =
        let some : has_weak (bs ∷ weak) ≡ true = rw e refl in
        absurd (cc)

unmasked : (id : ℕ) (bs : List Bool) (vs : List Value) → list_any (λ b. b) bs ≡ false → masked (forgotten_value id) bs vs ≡ vs
unmasked id [] vs none = refl
unmasked id (b ∷ bs) [] none = refl
unmasked id (true ∷ bs) (v ∷ vs) none = absurd (cc)
unmasked id (false ∷ bs) (v ∷ vs) none = ap (λ (ws : List Value). v ∷ ws) (unmasked id bs vs none)

none_forget : (weak : Marks) (id : ℕ) → has_weak weak ≡ false → (os : Objects) → os ≡ map (option_map (forgetting weak id)) os
none_forget weak id none [] = refl
none_forget weak id none (None ∷ os) = ap (λ (xs : Objects). None ∷ xs) (none_forget weak id none os)
none_forget weak id none (Some o ∷ os) =
    ap (λ (vs : List Value). Some (record o { values = vs }) ∷ os)
    (sym (unmasked id (read [] weak o.class) o.values (no_mark weak o.class none)))
    ∙ ap (λ (xs : Objects). Some (forgetting weak id o) ∷ xs) (none_forget weak id none os)

-- where no property is weak, all stays as it is
pub nothing_forgets : (d : Definition) (weak : Marks) (id : ℕ) → Knows d weak → has_weak weak ≡ false → (os : Objects)
    → os ≡ all_forget d id os
nothing_forgets d weak id knows none os = none_forget weak id none os ∙ all_forgets d weak id knows os
