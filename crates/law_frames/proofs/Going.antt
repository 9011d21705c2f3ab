-- What each step leaves of places and of handlers: an object that lives on has its place, and a handler of an earlier number was there, with
-- its program.
use Rattle.std.proofs.Common.{◌≡◌, refl, ap, sym, subst, ◌∙◌, ℕ, zero, suc, ◌-◌, ◌≤◌, ◌⊎◌, inl, inr, Bool, true, false, cond, nat_eq, List, [], ◌∷◌, ◌++◌, map, option_map, Option, None, Some, Ok, arith}
use Rattle.std.specs.List.{filter, list_any}
use Rattle.std.specs.Prelude.{IfOk, nat_lt}
use Rattle.ui_machine.specs.declared.arm.Arm.TheVariants as arms
use Rattle.ui_machine.specs.Definition.{Definition}
use Rattle.ui_machine.specs.Definition.Values.{Value}
use Rattle.ui_machine.specs.Outcome.{After, Answer, known}
use Rattle.ui_machine.specs.Rules.Children.{updated, with_child, with_parent, without_child}
use Rattle.ui_machine.specs.Rules.Connections.{Connection, new_handler, with_handler}
use Rattle.ui_machine.specs.Rules.Disposal.{all_forget, children_of, forgets, lets_go, objects_disposed, orphans, without_parent}
use Rattle.ui_machine.specs.Rules.NotifyQueue.{frozen_less, frozen_more, less_frozen, most_freezes, queued, raised}
use Rattle.ui_machine.specs.Seq.{read, write}
use Rattle.ui_machine.specs.State.Config.{World}
use Rattle.ui_machine.specs.State.Handlers.{Handler}
use Rattle.ui_machine.specs.State.Objects.{Object, Objects, changed, living, object_at, put, value_at, with_value}
use Rattle.machine_laws.proofs.KeptProofs.{bind_keeps, kept_at, only_keeps}
use Rattle.law_typing.specs.Laws.{IsIn}

-- ** objects

-- what waits for one object waits for the other, or is of those that are left out
abbrev pub WaitsFor : (ℕ → Type 0) → Object → Object → Type 0
WaitsFor But n o = (slot : ℕ) → IsIn slot n.queue → IsIn slot o.queue ⊎ But slot

-- each object of these was among those, at its place, with what waits
abbrev pub OfThose : (ℕ → ℕ → Type 0) → Objects → Objects → Type 0
OfThose But os z = (id : ℕ) (n : Object) → living z id ≡ Some n → (o : Object) × (living os id ≡ Some o) × (n.place ≡ o.place) × WaitsFor (But id) n o

-- an object that lives in both has its place
abbrev pub PlacesStay : Objects → Objects → Type 0
PlacesStay os z = (id : ℕ) (o n : Object) → living os id ≡ Some o → living z id ≡ Some n → n.place ≡ o.place

-- what waits did before, or is of those that are left out
abbrev pub QueuesStay : (ℕ → ℕ → Type 0) → Objects → Objects → Type 0
QueuesStay But os z = (id : ℕ) (n : Object) → living z id ≡ Some n → (slot : ℕ) → IsIn slot n.queue →
    ((o : Object) × (living os id ≡ Some o) × (n.place ≡ o.place) × IsIn slot o.queue) ⊎ But id slot

one_object : (x : Option Object) (o p : Object) → x ≡ Some o → x ≡ Some p → o ≡ p
one_object x o p a b = let same : ◌≡◌ {A = Option Object} (Some o) (Some p) = sym a ∙ b in cc same

-- what is found after a write was written, or was there
read_written : (os : Objects) (i j : ℕ) (x : Option Object) (o : Object) → read None (write None os i x) j ≡ Some o → ((x ≡ Some o) × (i ≡ j)) ⊎ (read None os j ≡ Some o)
read_written [] zero zero x o is = inl (is, refl)
read_written [] zero (suc j) x o is = absurd (cc is)
read_written [] (suc i) zero x o is = absurd (cc is)
read_written [] (suc i) (suc j) x o is = by (read_written [] i j x o is)
  where
    by : ((x ≡ Some o) × (i ≡ j)) ⊎ (read None [] j ≡ Some o) → ((x ≡ Some o) × (suc i ≡ suc j)) ⊎ (read None [] (suc j) ≡ Some o)
    by (inl e) = inl (e.0, ap suc e.1)
    by (inr e) = inr e
read_written (y ∷ os) zero zero x o is = inl (is, refl)
read_written (y ∷ os) zero (suc j) x o is = inr is
read_written (y ∷ os) (suc i) zero x o is = inr is
read_written (y ∷ os) (suc i) (suc j) x o is = by (read_written os i j x o is)
  where
    by : ((x ≡ Some o) × (i ≡ j)) ⊎ (read None os j ≡ Some o) → ((x ≡ Some o) × (suc i ≡ suc j)) ⊎ (read None (y ∷ os) (suc j) ≡ Some o)
    by (inl e) = inl (e.0, ap suc e.1)
    by (inr e) = inr e

living_put : (os : Objects) (id at : ℕ) (x : Option Object) (o : Object) → living (put os id x) at ≡ Some o → ((x ≡ Some o) × (id ≡ at)) ⊎ (living os at ≡ Some o)
living_put os zero at x o is = inr is
living_put os (suc i) zero x o is = inr is
living_put os (suc i) (suc j) x o is = by (read_written os i j x o is)
  where
    by : ((x ≡ Some o) × (i ≡ j)) ⊎ (read None os j ≡ Some o) → ((x ≡ Some o) × (suc i ≡ suc j)) ⊎ (living os (suc j) ≡ Some o)
    by (inl e) = inl (e.0, ap suc e.1)
    by (inr e) = inr e

found : {A : Type 0} (x : Option A) (o : A) → known arms.Operand x ≡ Ok o → x ≡ Some o
found None o is = absurd (cc is)
found (Some p) o is = let same : p ≡ o = cc is in ap (λ q. Some q) same

module _ (But : ℕ → ℕ → Type 0) where
  pub of_same : (os : Objects) → OfThose But os os
  of_same os id n is = (n, is, refl, λ slot there. inl there)

  waits_both : (id : ℕ) (n m o : Object) → WaitsFor (But id) n m → WaitsFor (But id) m o → WaitsFor (But id) n o
  waits_both id n m o later first slot there = by (later slot there)
    where
      by : IsIn slot m.queue ⊎ But id slot → IsIn slot o.queue ⊎ But id slot
      by (inl h) = first slot h
      by (inr h) = inr h

  pub of_both : (os y z : Objects) → OfThose But os y → OfThose But y z → OfThose But os z
  of_both os y z first later id n is =
      let m = later id n is in
      let o = first id m.0 m.1 in
      (o.0, o.1, m.2 ∙ o.2, waits_both id n m.0 o.0 m.3 o.3)

  pub places_of : (os z : Objects) → OfThose But os z → PlacesStay os z
  places_of os z of id o n was is =
      let x = of id n is in
      x.2 ∙ ap (λ (o : Object). o.place) (one_object (living os id) x.0 o x.1 was)

  pub queues_of : (os z : Objects) → OfThose But os z → QueuesStay But os z
  queues_of os z of id n is slot there = by (of id n is)
    where
      by : ((o : Object) × (living os id ≡ Some o) × (n.place ≡ o.place) × WaitsFor (But id) n o) → ((o : Object) × (living os id ≡ Some o) × (n.place ≡ o.place) × IsIn slot o.queue) ⊎ But id slot
      by x = or (x.3 slot there)
        where
          or : IsIn slot x.0.queue ⊎ But id slot → ((o : Object) × (living os id ≡ Some o) × (n.place ≡ o.place) × IsIn slot o.queue) ⊎ But id slot
          or (inl h) = inl (x.0, x.1, x.2, h)
          or (inr h) = inr h

  pub places_both : (os y z : Objects) → PlacesStay os y → OfThose But y z → PlacesStay os z
  places_both os y z first later id o n was is =
      let m = later id n is in
      m.2 ∙ first id o m.0 was m.1

  pub queues_both : (os y z : Objects) → QueuesStay But os y → OfThose But y z → QueuesStay But os z
  queues_both os y z first later id n is slot there = by (later id n is)
    where
      by : ((m : Object) × (living y id ≡ Some m) × (n.place ≡ m.place) × WaitsFor (But id) n m) → ((o : Object) × (living os id ≡ Some o) × (n.place ≡ o.place) × IsIn slot o.queue) ⊎ But id slot
      by x = or (x.3 slot there)
        where
          of : ((o : Object) × (living os id ≡ Some o) × (x.0.place ≡ o.place) × IsIn slot o.queue) ⊎ But id slot → ((o : Object) × (living os id ≡ Some o) × (n.place ≡ o.place) × IsIn slot o.queue) ⊎ But id slot
          of (inl o) = inl (o.0, o.1, x.2 ∙ o.2, o.3)
          of (inr h) = inr h

          or : IsIn slot x.0.queue ⊎ But id slot → ((o : Object) × (living os id ≡ Some o) × (n.place ≡ o.place) × IsIn slot o.queue) ⊎ But id slot
          or (inl h) = of (first id x.0 x.1 slot h)
          or (inr h) = inr h

  -- one is overwritten by one of its place
  pub put_of : (os : Objects) (id : ℕ) (old new : Object) → living os id ≡ Some old → new.place ≡ old.place → WaitsFor (But id) new old → OfThose But os (put os id (Some new))
  put_of os id old new was same waits at n is = by (living_put os id at (Some new) n is)
    where
      by : ((Some new ≡ Some n) × (id ≡ at)) ⊎ (living os at ≡ Some n) → (o : Object) × (living os at ≡ Some o) × (n.place ≡ o.place) × WaitsFor (But at) n o
      by (inl e) =
          let one : new ≡ n = (let f = e.0 in cc f) in
          (old, subst (λ i. living os i ≡ Some old) e.1 was, ap (λ (o : Object). o.place) (sym one) ∙ same, subst (λ i. WaitsFor (But i) n old) e.1 (subst (λ n. WaitsFor (But id) n old) one waits))
      by (inr e) = (n, e, refl, λ slot there. inl there)

  pub none_put : (os : Objects) (id : ℕ) → OfThose But os (put os id None)
  none_put os id at n is = by (living_put os id at None n is)
    where
      by : (◌≡◌ {A = Option Object} None (Some n) × (id ≡ at)) ⊎ (living os at ≡ Some n) → (o : Object) × (living os at ≡ Some o) × (n.place ≡ o.place) × WaitsFor (But at) n o
      by (inl e) = absurd (let f = e.0 in cc f)
      by (inr e) = (n, e, refl, λ slot there. inl there)

  -- a change that leaves the place and the queue
  abbrev pub Leaves : (Object → Object) → Type 0
  Leaves change = (o : Object) → ((change o).place ≡ o.place) × ((change o).queue ≡ o.queue)

  same_waits : (id : ℕ) (n o : Object) → n.queue ≡ o.queue → WaitsFor (But id) n o
  same_waits id n o same slot there = inl (subst (IsIn slot) same there)

  pub updated_of : (change : Object → Object) → Leaves change → (os : Objects) (id : ℕ) → OfThose But os (updated change id os)
  updated_of change leaves os id = by (living os id) refl
    where
      by : (x : Option Object) → living os id ≡ x → OfThose But os (put os id (option_map change x))
      by None was = none_put os id
      by (Some o) was = put_of os id o (change o) was (leaves o).0 (same_waits id (change o) o (leaves o).1)

  -- one is changed, and has its place
  pub changed_of : {X : Type 0} (os : Objects) (id : ℕ) (change : Object → Answer (After Object X)) → ((o : Object) → IfOk (change o) (λ r. (r.state.place ≡ o.place) × WaitsFor (But id) r.state o)) →
      (r : After Objects X) → changed os id change ≡ Ok r → OfThose But os r.state
  unfolding changed
  changed_of {X} os id change leaves r is = kept_at (λ (r : After Objects X). OfThose But os r.state) (changed os id change) r whole is
    where
      whole : IfOk (changed os id change) (λ r. OfThose But os r.state)
      whole = bind_keeps (object_at os id) _ _ (λ o was. bind_keeps (change o) _ _ (λ r at. (
          let x = kept_at (λ (r : After Object X). (r.state.place ≡ o.place) × WaitsFor (But id) r.state o) (change o) r (leaves o) at in
          put_of os id o r.state (found (living os id) o was) x.0 x.1)))

  in_queued : (queue : List ℕ) (slot x : ℕ) → IsIn x (queue ++ slot ∷ []) → IsIn x queue ⊎ (x ≡ slot)
  in_queued [] slot x (inl e) = inr e
  in_queued [] slot x (inr e) = absurd e
  in_queued (y ∷ ys) slot x (inl e) = inl (inl e)
  in_queued (y ∷ ys) slot x (inr there) = by (in_queued ys slot x there)
    where
      by : IsIn x ys ⊎ (x ≡ slot) → IsIn x (y ∷ ys) ⊎ (x ≡ slot)
      by (inl e) = inl (inr e)
      by (inr e) = inr e

  raised_leaves : (id slot : ℕ) → But id slot → (o : Object) → IfOk (raised slot o) (λ r. (r.state.place ≡ o.place) × WaitsFor (But id) r.state o)
  raised_leaves id slot may o = by (nat_eq o.freezes 0)
    where
      waits : (b : Bool) (x : ℕ) → IsIn x (cond b o.queue (o.queue ++ slot ∷ [])) → IsIn x o.queue ⊎ But id x
      waits true x there = inl there
      waits false x there = or (in_queued o.queue slot x there)
        where
          or : IsIn x o.queue ⊎ (x ≡ slot) → IsIn x o.queue ⊎ But id x
          or (inl e) = inl e
          or (inr e) = inr (subst (But id) (sym e) may)

      by : (b : Bool) → ((cond {A = After Object Bool} b (record { state = o; answer = true }) (record { state = record o { queue = queued o.queue slot }; answer = false })).state.place ≡ o.place)
          × WaitsFor (But id) (cond {A = After Object Bool} b (record { state = o; answer = true }) (record { state = record o { queue = queued o.queue slot }; answer = false })).state o
      by true = (refl, λ slot there. inl there)
      by false = (refl, λ x there. waits (list_any (λ s. nat_eq s slot) o.queue) x there)

  value_leaves : (id slot : ℕ) (v : Value) (o : Object) → IfOk (with_value slot v o) (λ r. (r.state.place ≡ o.place) × WaitsFor (But id) r.state o)
  unfolding with_value
  value_leaves id slot v o = bind_keeps (value_at slot o) _ _ (λ old _. (refl, λ slot there. inl there))

  more_leaves : (id : ℕ) (o : Object) → IfOk (frozen_more o) (λ r. (r.state.place ≡ o.place) × WaitsFor (But id) r.state o)
  more_leaves id o = only_keeps (nat_lt o.freezes most_freezes) arms.Freeze _ _ (refl, λ slot there. inl there)

  less_leaves : (id : ℕ) (o : Object) → IfOk (frozen_less o) (λ r. (r.state.place ≡ o.place) × WaitsFor (But id) r.state o)
  less_leaves id o = only_keeps (nat_lt 0 o.freezes) arms.Freeze _ _ (by (o.freezes - 1))
    where
      by : (k : ℕ) → ((less_frozen k o).state.place ≡ o.place) × WaitsFor (But id) (less_frozen k o).state o
      by zero = (refl, λ slot there. absurd there)
      by (suc k) = (refl, λ slot there. inl there)

  pub raised_of : (os : Objects) (id slot : ℕ) → But id slot → (r : After Objects Bool) → changed os id (raised slot) ≡ Ok r → OfThose But os r.state
  raised_of os id slot may = changed_of os id (raised slot) (raised_leaves id slot may)

  pub value_of : (os : Objects) (id slot : ℕ) (v : Value) (r : After Objects Value) → changed os id (with_value slot v) ≡ Ok r → OfThose But os r.state
  value_of os id slot v = changed_of os id (with_value slot v) (value_leaves id slot v)

  pub more_of : (os : Objects) (id : ℕ) (r : After Objects (Unit {0})) → changed os id frozen_more ≡ Ok r → OfThose But os r.state
  more_of os id = changed_of os id frozen_more (more_leaves id)

  pub less_of : (os : Objects) (id : ℕ) (r : After Objects (List ℕ)) → changed os id frozen_less ≡ Ok r → OfThose But os r.state
  less_of os id = changed_of os id frozen_less (less_leaves id)

  -- ** families

  pub family_of : (os : Objects) (parent child : ℕ) → OfThose But os (updated (with_parent (Some parent)) child (updated (with_child child) parent os))
  family_of os parent child =
      of_both os _ _ (updated_of (with_child child) (λ o. (refl, refl)) os parent) (updated_of (with_parent (Some parent)) (λ o. (refl, refl)) (updated (with_child child) parent os) child)

  pub left_of : (os : Objects) (parent child : ℕ) → OfThose But os (updated (with_parent None) child (updated (without_child child) parent os))
  left_of os parent child =
      of_both os _ _ (updated_of (without_child child) (λ o. (refl, refl)) os parent) (updated_of (with_parent None) (λ o. (refl, refl)) (updated (without_child child) parent os) child)

  -- ** what is disposed

  each_of : (change : Object → Object) → Leaves change → (os : Objects) → OfThose But os (map (option_map change) os)
  each_of change leaves os id n is = by (living os id) refl (sym (living_map os id) ∙ is)
    where
      read_map : (xs : Objects) (i : ℕ) → read None (map (option_map change) xs) i ≡ option_map change (read None xs i)
      read_map [] i = refl
      read_map (x ∷ xs) zero = refl
      read_map (x ∷ xs) (suc i) = read_map xs i

      living_map : (xs : Objects) (id : ℕ) → living (map (option_map change) xs) id ≡ option_map change (living xs id)
      living_map xs zero = refl
      living_map xs (suc i) = read_map xs i

      by : (x : Option Object) → living os id ≡ x → option_map change x ≡ Some n → (o : Object) × (living os id ≡ Some o) × (n.place ≡ o.place) × WaitsFor (But id) n o
      by None was e = absurd (cc e)
      by (Some o) was e =
          let same : change o ≡ n = cc e in
          (o, was, ap (λ (o : Object). o.place) (sym same) ∙ (leaves o).0, same_waits id n o (ap (λ (o : Object). o.queue) (sym same) ∙ (leaves o).1))

  orphans_of : (ids : List ℕ) (os : Objects) → OfThose But os (orphans ids os)
  orphans_of [] os = of_same os
  orphans_of (id ∷ ids) os = of_both os _ _ (updated_of without_parent (λ o. (refl, refl)) os id) (orphans_of ids (updated without_parent id os))

  pub disposed_of : (d : Definition) (os : Objects) (id : ℕ) → OfThose But os (objects_disposed d id os)
  disposed_of d os id =
      of_both os _ _ (of_both os _ _ (each_of (forgets d id) (λ o. (refl, refl)) os) (updated_of (lets_go d) (λ o. (refl, refl)) (all_forget d id os) id))
      (orphans_of (children_of (living os id)) (updated (lets_go d) id (all_forget d id os)))

  -- ** a new object

  read_more : (x : Object) (xs : Objects) (i : ℕ) (n : Object) → read None (xs ++ Some x ∷ []) i ≡ Some n → (read None xs i ≡ Some n) ⊎ ((read None xs i ≡ None) × (n ≡ x))
  read_more x [] zero n is = inr (refl, (let same : x ≡ n = cc is in sym same))
  read_more x [] (suc i) n is = absurd (cc is)
  read_more x (y ∷ xs) zero n is = inl is
  read_more x (y ∷ xs) (suc i) n is = read_more x xs i n is

  living_more : (x : Object) (xs : Objects) (id : ℕ) (n : Object) → living (xs ++ Some x ∷ []) id ≡ Some n → (living xs id ≡ Some n) ⊎ ((living xs id ≡ None) × (n ≡ x))
  living_more x xs zero n is = absurd (cc is)
  living_more x xs (suc i) n is = read_more x xs i n is

  pub places_more : (os : Objects) (x : Object) → PlacesStay os (os ++ Some x ∷ [])
  places_more os x id o n was is = by (living_more x os id n is)
    where
      by : (living os id ≡ Some n) ⊎ ((living os id ≡ None) × (n ≡ x)) → n.place ≡ o.place
      by (inl e) = ap (λ (o : Object). o.place) (one_object (living os id) n o e was)
      by (inr e) = absurd (let f : ◌≡◌ {A = Option Object} None (Some o) = sym e.0 ∙ was in cc f)

  pub queues_more : (os : Objects) (x : Object) → x.queue ≡ [] → QueuesStay But os (os ++ Some x ∷ [])
  queues_more os x none id n is slot there = by (living_more x os id n is)
    where
      by : (living os id ≡ Some n) ⊎ ((living os id ≡ None) × (n ≡ x)) → ((o : Object) × (living os id ≡ Some o) × (n.place ≡ o.place) × IsIn slot o.queue) ⊎ But id slot
      by (inl e) = inl (n, e, refl, there)
      by (inr e) = absurd (subst (IsIn slot) (ap (λ (o : Object). o.queue) e.1 ∙ none) there)

-- ** handlers

-- each of these handlers of an earlier number was among those, with its program
abbrev pub FromThose : ℕ → List Handler → List Handler → Type 0
FromThose last hs zs = (h : Handler) → IsIn h zs → h.number ≤ last → (g : Handler) × IsIn g hs × (g.number ≡ h.number) × (g.program ≡ h.program)

pub from_same : (last : ℕ) (hs : List Handler) → FromThose last hs hs
from_same last hs h there low = (h, there, refl, refl)

in_filtered : (keeps : Handler → Bool) (hs : List Handler) (h : Handler) → IsIn h (filter keeps hs) → IsIn h hs
in_filtered keeps [] h there = absurd there
in_filtered keeps (x ∷ hs) h there = by (keeps x) there (in_filtered keeps hs h)
  where
    by : (b : Bool) → IsIn h (cond b (x ∷ filter keeps hs) (filter keeps hs)) → (IsIn h (filter keeps hs) → IsIn h hs) → IsIn h (x ∷ hs)
    by true (inl e) later = inl e
    by true (inr e) later = inr (later e)
    by false e later = inr (later e)

pub from_filtered : (last : ℕ) (keeps : Handler → Bool) (hs : List Handler) → FromThose last hs (filter keeps hs)
from_filtered last keeps hs h there low = (h, in_filtered keeps hs h there, refl, refl)

pub from_mapped : (last : ℕ) (change : Handler → Handler) → ((h : Handler) → ((change h).number ≡ h.number) × ((change h).program ≡ h.program)) → (hs : List Handler) → FromThose last hs (map change hs)
from_mapped last change same [] h there low = absurd there
from_mapped last change same (x ∷ hs) h (inl e) low =
    (x, inl refl, sym ((same x).0) ∙ ap (λ (h : Handler). h.number) (sym e), sym ((same x).1) ∙ ap (λ (h : Handler). h.program) (sym e))
from_mapped last change same (x ∷ hs) h (inr there) low =
    let g = from_mapped last change same hs h there low in
    (g.0, inr g.1, g.2, g.3)

in_more : (hs : List Handler) (x h : Handler) → IsIn h (hs ++ x ∷ []) → IsIn h hs ⊎ (h ≡ x)
in_more [] x h (inl e) = inr e
in_more [] x h (inr e) = absurd e
in_more (y ∷ hs) x h (inl e) = inl (inl e)
in_more (y ∷ hs) x h (inr there) = by (in_more hs x h there)
  where
    by : IsIn h hs ⊎ (h ≡ x) → IsIn h (y ∷ hs) ⊎ (h ≡ x)
    by (inl e) = inl (inr e)
    by (inr e) = inr e

-- ** worlds

module _ (But : ℕ → ℕ → Type 0) where
  pub record GoesOn (w v : World) : Type 0 where
    pub places : PlacesStay w.objects v.objects
    pub queues : QueuesStay But w.objects v.objects
    pub handlers : FromThose w.last_handler w.handlers v.handlers
    pub last : w.last_handler ≤ v.last_handler

  same_numbers : (n m : ℕ) → m ≡ n → n ≤ m
  same_numbers n m e = omega (arith, e)

  -- with other objects, each of which was there
  pub objects_kept : (w v : World) → v.handlers ≡ w.handlers → v.last_handler ≡ w.last_handler → OfThose But w.objects v.objects → GoesOn w v
  objects_kept w v handlers last objects = record {
    places = places_of But w.objects v.objects objects;
    queues = queues_of But w.objects v.objects objects;
    handlers = subst (FromThose w.last_handler w.handlers) (sym handlers) (from_same w.last_handler w.handlers);
    last = same_numbers w.last_handler v.last_handler last;
  }

  -- the same objects and handlers
  pub same_kept : (w v : World) → v.handlers ≡ w.handlers → v.last_handler ≡ w.last_handler → v.objects ≡ w.objects → GoesOn w v
  same_kept w v handlers last objects = objects_kept w v handlers last (subst (OfThose But w.objects) (sym objects) (of_same But w.objects))

  -- with one object more
  pub more_kept : (w v : World) (x : Object) → x.queue ≡ [] → v.handlers ≡ w.handlers → v.last_handler ≡ w.last_handler → v.objects ≡ w.objects ++ Some x ∷ [] → GoesOn w v
  more_kept w v x none handlers last objects = record {
    places = subst (PlacesStay w.objects) (sym objects) (places_more But w.objects x);
    queues = subst (QueuesStay But w.objects) (sym objects) (queues_more But w.objects x none);
    handlers = subst (FromThose w.last_handler w.handlers) (sym handlers) (from_same w.last_handler w.handlers);
    last = same_numbers w.last_handler v.last_handler last;
  }

  -- with other handlers
  pub changed_kept : (w v : World) → v.last_handler ≡ w.last_handler → FromThose w.last_handler w.handlers v.handlers → OfThose But w.objects v.objects → GoesOn w v
  changed_kept w v last handlers objects = record {
    places = places_of But w.objects v.objects objects;
    queues = queues_of But w.objects v.objects objects;
    handlers = handlers;
    last = same_numbers w.last_handler v.last_handler last;
  }

  -- then with other objects
  pub then_objects : (w v u : World) → GoesOn w v → u.handlers ≡ v.handlers → u.last_handler ≡ v.last_handler → OfThose But v.objects u.objects → GoesOn w u
  then_objects w v u first handlers last objects = record {
    places = places_both But w.objects v.objects u.objects first.places objects;
    queues = queues_both But w.objects v.objects u.objects first.queues objects;
    handlers = subst (FromThose w.last_handler w.handlers) (sym handlers) first.handlers;
    last = (let low = first.last in omega (arith, low, last));
  }

  -- one more handler is there, whose number was not given before
  pub connected_kept : (w : World) (c : Connection) → GoesOn w (with_handler w c)
  connected_kept w c = record {
    places = places_of But w.objects w.objects (of_same But w.objects);
    queues = queues_of But w.objects w.objects (of_same But w.objects);
    handlers = λ h there low. by h low (in_more w.handlers (new_handler (suc w.last_handler) c) h there);
    last = omega arith;
  }
    where
      by : (h : Handler) → h.number ≤ w.last_handler → IsIn h w.handlers ⊎ (h ≡ new_handler (suc w.last_handler) c) →
          (g : Handler) × IsIn g w.handlers × (g.number ≡ h.number) × (g.program ≡ h.program)
      by h low (inl there) = (h, there, refl, refl)
      by h low (inr e) = absurd (let number = ap (λ (h : Handler). h.number) e in omega (arith, low, number))
