-- Queued notifications: each once, and reversed.
use Rattle.std.proofs.Common.{◌≡◌, refl, subst, ap, ℕ, ◌+◌, ◌≤◌, Bool, true, false, cond, List, [], ◌∷◌, ◌++◌, reverse, arith}
use Rattle.std.specs.Prelude.{nat_eq, ◌||◌}
use Rattle.std.specs.List.{list_any}
use Rattle.std.proofs.lemmas.Grind.{reverse_onto}
use Rattle.std.proofs.lemmas.Bool.{eqb-true}
use Rattle.ui_machine.specs.Seq.{total}
use Rattle.ui_machine.specs.State.References.{same}
use Rattle.ui_machine.specs.Rules.NotifyQueue.{thawed}
use Rattle.machine_laws.specs.QueueLaws.{times, EachOnce, ThawsInReverse, QueuesOnce}

pub thaws_in_reverse : ThawsInReverse
thaws_in_reverse queue = refl

-- sums over two lists
pub total_append : {A : Type 0} (f : A → ℕ) (xs ys : List A) → total f (xs ++ ys) ≡ total f xs + total f ys
total_append f [] ys = omega arith
total_append f (x ∷ xs) ys =
    let ih = total_append f xs ys in
    omega (arith, ih)

times_thawed : (queue : List ℕ) (slot : ℕ) → times slot (thawed queue) ≡ times slot queue
times_thawed [] slot = refl
times_thawed (s ∷ queue) slot =
    let ih = times_thawed queue slot in
    let onto = ap (times slot) (reverse_onto queue s []) in
    let split = total_append (same slot) (reverse queue) (s ∷ []) in
    omega (arith, ih, onto, split)

-- a slot that is not found is nowhere in the list
nowhere : (here later : Bool) (n : ℕ) → (here || later) ≡ false → (later ≡ false → n ≡ 0) → cond here 1 0 + n ≡ 0
nowhere true later n e h = absurd (cc)
nowhere false later n e h = let z = h e in omega (arith, z)

not_there : (queue : List ℕ) (slot : ℕ) → list_any (λ s. nat_eq s slot) queue ≡ false → times slot queue ≡ 0
not_there [] slot e = refl
not_there (s ∷ queue) slot e = nowhere (nat_eq s slot) (list_any (λ s. nat_eq s slot) queue) (times slot queue) e (not_there queue slot)

-- one more slot is queued, which is not there yet
one_more : (queue : List ℕ) (slot s : ℕ) (is : Bool) → nat_eq slot s ≡ is → times s queue ≤ 1 → (slot ≡ s → times s queue ≡ 0) → times s queue + (cond is 1 0 + 0) ≤ 1
one_more queue slot s true e once none = let z = none (eqb-true slot s e) in omega (arith, z)
one_more queue slot s false e once none = omega (arith, once)

once_more : (queue : List ℕ) (slot : ℕ) (found : Bool) → list_any (λ s. nat_eq s slot) queue ≡ found → EachOnce queue → EachOnce (cond found queue (queue ++ slot ∷ []))
once_more queue slot true e once s = once s
once_more queue slot false e once s =
    let none = not_there queue slot e in
    let split = total_append (same s) queue (slot ∷ []) in
    let more = one_more queue slot s (nat_eq slot s) refl (once s) (λ (is : slot ≡ s). subst (λ t. times t queue ≡ 0) is none) in
    omega (arith, split, more)

pub queues_once : QueuesOnce
queues_once queue slot once =
    (once_more queue slot (list_any (λ s. nat_eq s slot) queue) refl once, λ s. let t = times_thawed queue s in let o = once s in omega (arith, t, o))
