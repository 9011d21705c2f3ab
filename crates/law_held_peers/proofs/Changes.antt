-- What changes of objects leave of their peers.
use Rattle.std.proofs.Common.{◌≡◌, refl, ap, sym, ◌∙◌, ℕ, zero, suc, Bool, false, nat_eq, List, [], ◌∷◌, length, ◌≤◌, map, option_map, Option, None, Some, Ok, Err, arith}
use Rattle.std.specs.Prelude.{IfOk}
use Rattle.std.proofs.lemmas.Bool.Decides.{nat_tests}
use Rattle.std.proofs.lemmas.List.{length-map}
use Rattle.ui_machine.specs.Definition.{Definition}
use Rattle.ui_machine.specs.Outcome.{After, Answer, known, ◌>>=◌}
use Rattle.ui_machine.specs.Rules.Children.{updated}
use Rattle.ui_machine.specs.Rules.Disposal.{all_forget, children_of, forgets, lets_go, objects_disposed, one_lets_go, orphans, without_parent}
use Rattle.ui_machine.specs.Seq.{read, write}
use Rattle.ui_machine.specs.State.Objects.{Object, Objects, changed, living, object_at, put}
use Rattle.machine_laws.proofs.KeptProofs.{bind_keeps, kept_at}

-- ** answers

-- what is known is there
pub known_is : {A E : Type 0} (e : E) (o : Option A) (x : A) → known e o ≡ Ok x → o ≡ Some x
known_is e None x h = absurd (cc h)
known_is e (Some y) x h = let same : y ≡ x = cc h in ap (λ z. Some z) same

-- what holds of the first part holds where the second begins
pub bind_kept : {A B : Type 0} (P : A → Type 0) (a : Answer A) (f : A → Answer B) (Q : B → Type 0) → IfOk a P → ((x : A) → P x → IfOk (f x) Q) → IfOk (a >>= f) Q
bind_kept P (Ok x) f Q p h = h x p
bind_kept P (Err arm) f Q p h = tt

-- ** objects

-- what a write leaves of the entry that it replaces, it leaves of all
write_leaves : {B : Type 0} (f : Option Object → B) (os : Objects) (i j : ℕ) (x : Option Object) → f x ≡ f (read None os i) → f (read None (write None os i x) j) ≡ f (read None os j)
write_leaves f [] zero zero x e = e
write_leaves f [] zero (suc j) x e = refl
write_leaves f [] (suc i) zero x e = refl
write_leaves f [] (suc i) (suc j) x e = write_leaves f [] i j x e
write_leaves f (o ∷ os) zero zero x e = e
write_leaves f (o ∷ os) zero (suc j) x e = refl
write_leaves f (o ∷ os) (suc i) zero x e = refl
write_leaves f (o ∷ os) (suc i) (suc j) x e = write_leaves f os i j x e

put_leaves : {B : Type 0} (f : Option Object → B) (os : Objects) (id at : ℕ) (x : Option Object) → f x ≡ f (living os id) → f (living (put os id x) at) ≡ f (living os at)
put_leaves f os zero at x e = refl
put_leaves f os (suc i) zero x e = refl
put_leaves f os (suc i) (suc j) x e = write_leaves f os i j x e

-- a write leaves no fewer objects
write_more : (os : Objects) (i : ℕ) (x : Option Object) → length os ≤ length (write None os i x)
write_more [] zero x = omega arith
write_more [] (suc i) x = omega arith
write_more (o ∷ os) zero x = omega arith
write_more (o ∷ os) (suc i) x = let n = write_more os i x in omega (arith, n)

pub put_more : (os : Objects) (id : ℕ) (x : Option Object) → length os ≤ length (put os id x)
put_more os zero x = omega arith
put_more os (suc i) x = write_more os i x

-- what is found after one was taken out was there
write_none : (os : Objects) (i j : ℕ) (o : Object) → read None (write None os i None) j ≡ Some o → read None os j ≡ Some o
write_none [] zero zero o is = is
write_none [] zero (suc j) o is = is
write_none [] (suc i) zero o is = is
write_none [] (suc i) (suc j) o is = write_none [] i j o is
write_none (x ∷ os) zero zero o is = absurd (cc is)
write_none (x ∷ os) zero (suc j) o is = is
write_none (x ∷ os) (suc i) zero o is = is
write_none (x ∷ os) (suc i) (suc j) o is = write_none os i j o is

pub put_none : (os : Objects) (id at : ℕ) (o : Object) → living (put os id None) at ≡ Some o → living os at ≡ Some o
put_none os zero at o is = is
put_none os (suc i) zero o is = is
put_none os (suc i) (suc j) o is = write_none os i j o is

one_less : (i j : ℕ) → nat_eq (suc i) (suc j) ≡ false → nat_eq i j ≡ false
one_less i j e = grind (arith, nat_tests)

-- a write changes no other entry
write_other : (os : Objects) (i j : ℕ) (x : Option Object) → nat_eq i j ≡ false → read None (write None os i x) j ≡ read None os j
write_other [] zero zero x e = absurd (cc)
write_other [] zero (suc j) x e = refl
write_other [] (suc i) zero x e = refl
write_other [] (suc i) (suc j) x e = write_other [] i j x (one_less i j e)
write_other (o ∷ os) zero zero x e = absurd (cc)
write_other (o ∷ os) zero (suc j) x e = refl
write_other (o ∷ os) (suc i) zero x e = refl
write_other (o ∷ os) (suc i) (suc j) x e = write_other os i j x (one_less i j e)

pub put_other : (os : Objects) (id at : ℕ) (x : Option Object) → nat_eq id at ≡ false → living (put os id x) at ≡ living os at
put_other os zero at x e = refl
put_other os (suc i) zero x e = refl
put_other os (suc i) (suc j) x e = write_other os i j x (one_less i j e)

-- of an object that may be there: its peer, and whether it is disposed
abbrev pub peer_seen : Option Object → Option (Option ℕ)
peer_seen x = option_map (λ (o : Object). o.peer) x

abbrev pub disposed_seen : Option Object → Option Bool
disposed_seen x = option_map (λ (o : Object). o.disposed) x

-- an object with its peer and its state
pub record SamePeer (o new : Object) : Type 0 where
  pub peer : new.peer ≡ o.peer
  pub disposed : new.disposed ≡ o.disposed

-- no fewer objects, with the same peers, in the same states
pub record SamePeers (os new : Objects) : Type 0 where
  pub more : length os ≤ length new
  pub peer : (id : ℕ) → peer_seen (living new id) ≡ peer_seen (living os id)
  pub disposed : (id : ℕ) → disposed_seen (living new id) ≡ disposed_seen (living os id)

pub as_before : (os : Objects) → SamePeers os os
as_before os = record { more = omega arith; peer = λ id. refl; disposed = λ id. refl }

pub then_same : (a b c : Objects) → SamePeers a b → SamePeers b c → SamePeers a c
then_same a b c x y = record { more = (let p = x.more in let q = y.more in omega (arith, p, q)); peer = λ id. y.peer id ∙ x.peer id; disposed = λ id. y.disposed id ∙ x.disposed id }

put_same : (os : Objects) (id : ℕ) (x : Option Object) → peer_seen x ≡ peer_seen (living os id) → disposed_seen x ≡ disposed_seen (living os id) → SamePeers os (put os id x)
put_same os id x p q = record { more = put_more os id x; peer = λ at. put_leaves peer_seen os id at x p; disposed = λ at. put_leaves disposed_seen os id at x q }

-- one is changed, and keeps its peer
pub changed_same : {X : Type 0} (os : Objects) (id : ℕ) (change : Object → Answer (After Object X)) → ((o : Object) → IfOk (change o) (λ r. SamePeer o r.state)) →
    IfOk (changed os id change) (λ r. SamePeers os r.state)
unfolding changed
changed_same {X} os id change same = bind_keeps (object_at os id) _ _ (λ o is. bind_keeps (change o) _ _ (λ r at.
    let alive = known_is _ (living os id) o is in
    let so = kept_at (λ (r : After Object X). SamePeer o r.state) (change o) r (same o) at in
    put_same os id (Some r.state)
    (ap (λ p. Some p) so.peer ∙ ap peer_seen (sym alive))
    (ap (λ b. Some b) so.disposed ∙ ap disposed_seen (sym alive))))

pub updated_same : (change : Object → Object) → ((o : Object) → SamePeer o (change o)) → (os : Objects) (id : ℕ) → SamePeers os (updated change id os)
updated_same change same os id = put_same os id (option_map change (living os id)) (p (living os id)) (q (living os id))
  where
    p : (x : Option Object) → peer_seen (option_map change x) ≡ peer_seen x
    p None = refl
    p (Some o) = ap (λ b. Some b) (same o).peer

    q : (x : Option Object) → disposed_seen (option_map change x) ≡ disposed_seen x
    q None = refl
    q (Some o) = ap (λ b. Some b) (same o).disposed

-- each is
map_same : (change : Object → Object) → ((o : Object) → SamePeer o (change o)) → (os : Objects) → SamePeers os (map (option_map change) os)
map_same change same os = record { more = (let n = length-map os (option_map change) in omega (arith, n)); peer = λ id. ap peer_seen (living_map os id) ∙ p (living os id); disposed = λ id. ap disposed_seen (living_map os id) ∙ q (living os id) }
  where
    p : (x : Option Object) → peer_seen (option_map change x) ≡ peer_seen x
    p None = refl
    p (Some o) = ap (λ b. Some b) (same o).peer

    q : (x : Option Object) → disposed_seen (option_map change x) ≡ disposed_seen x
    q None = refl
    q (Some o) = ap (λ b. Some b) (same o).disposed

    read_map : (xs : Objects) (i : ℕ) → read None (map (option_map change) xs) i ≡ option_map change (read None xs i)
    read_map [] i = refl
    read_map (x ∷ xs) zero = refl
    read_map (x ∷ xs) (suc i) = read_map xs i

    living_map : (xs : Objects) (id : ℕ) → living (map (option_map change) xs) id ≡ option_map change (living xs id)
    living_map xs zero = refl
    living_map xs (suc i) = read_map xs i

orphans_same : (ids : List ℕ) (os : Objects) → SamePeers os (orphans ids os)
orphans_same [] os = as_before os
orphans_same (id ∷ ids) os =
    then_same os (updated without_parent id os) (orphans ids (updated without_parent id os))
    (updated_same without_parent (λ o. record { peer = refl; disposed = refl }) os id) (orphans_same ids (updated without_parent id os))

-- ** what is disposed

-- no fewer objects, with the same peers, in which each but one is in the same state
pub record SameButOne (id : ℕ) (os new : Objects) : Type 0 where
  pub more : length os ≤ length new
  pub peer : (at : ℕ) → peer_seen (living new at) ≡ peer_seen (living os at)
  pub disposed : (at : ℕ) → nat_eq id at ≡ false → disposed_seen (living new at) ≡ disposed_seen (living os at)

pub disposed_same : (d : Definition) (os : Objects) (id : ℕ) → SameButOne id os (objects_disposed d id os)
disposed_same d os id =
    let forgot = map_same (forgets d id) (λ o. record { peer = refl; disposed = refl }) os in
    let last = orphans_same (children_of (living os id)) (one_lets_go d id (all_forget d id os)) in
    record {
      more = (let p = forgot.more in let q = put_more (all_forget d id os) id (option_map (lets_go d) (living (all_forget d id os) id)) in let r = last.more in omega (arith, p, q, r));
      peer = λ at. last.peer at ∙ (put_leaves peer_seen (all_forget d id os) id at (option_map (lets_go d) (living (all_forget d id os) id)) (p (living (all_forget d id os) id)) ∙ forgot.peer at);
      disposed = λ at apart. last.disposed at ∙ (ap disposed_seen (put_other (all_forget d id os) id at (option_map (lets_go d) (living (all_forget d id os) id)) apart) ∙ forgot.disposed at);
    }
  where
    p : (x : Option Object) → peer_seen (option_map (lets_go d) x) ≡ peer_seen x
    p None = refl
    p (Some o) = refl
