-- An object that was just made.
use Rattle.std.proofs.Common.{◌≡◌, ◌∙◌, ℕ, zero, suc, ◌-◌, ◌<◌, ◌^◌, List, [], ◌∷◌, ◌++◌, length, None, Some, IsSome, refl, arith}
use Rattle.ui_machine.specs.Seq.{read}
use Rattle.ui_machine.specs.State.Objects.{Object, Objects, living}
use Rattle.instance_tables.specs.Store.{Store, count_of, with_object}

-- what does not live yet is not held as it is made
read_front : (xs : List ℕ) (i : ℕ) → read 0 (xs ++ 0 ∷ []) i ≡ read 0 xs i
read_front [] zero = refl
read_front [] (suc i) = refl
read_front (x ∷ xs) zero = refl
read_front (x ∷ xs) (suc i) = read_front xs i

read_behind : (os : Objects) → read None os (length os) ≡ None
read_behind [] = refl
read_behind (o ∷ os) = read_behind os

pub made_unheld : (os : Objects) (counts : List ℕ) → ((o : ℕ) → living os o ≡ None → count_of counts o ≡ 0) → count_of (counts ++ 0 ∷ []) (suc (length os)) ≡ 0
made_unheld os counts dead = read_front counts (length os) ∙ dead (suc (length os)) (read_behind os)

-- the newest object is there
newest : (os : Objects) (o : Object) → living (os ++ Some o ∷ []) (suc (length os)) ≡ Some o
newest [] o = refl
newest (x ∷ os) o = newest os o

pub newest_lives : (old new : Objects) (o : Object) (id : ℕ) → id ≡ suc (length old) → new ≡ old ++ Some o ∷ [] → IsSome (living new id)
newest_lives old new o id is objects = rw (objects, is, newest old o) refl

-- a new object is there
pub born_there : (s n : Store) (id : ℕ) (o : Object) → (id ≡ suc (length s.objects)) × (n ≡ with_object o s) → living n.objects id ≡ Some o
born_there s n id o created = rw (created.1, created.0) (newest s.objects o)

-- so it lives
pub born_lives : (s n : Store) (id : ℕ) (o : Object) → (id ≡ suc (length s.objects)) × (n ≡ with_object o s) → IsSome (living n.objects id)
born_lives s n id o created = rw (born_there s n id o created) refl

-- and nothing holds it
pub born_unheld : (s n : Store) (id : ℕ) (o : Object) → ((i : ℕ) → living s.objects i ≡ None → count_of s.counts i ≡ 0)
    → (id ≡ suc (length s.objects)) × (n ≡ with_object o s) → count_of n.counts id ≡ 0
born_unheld s n id o dead created = rw (created.1, created.0) (made_unheld s.objects s.counts dead)

-- so it may be held
pub born_has_room : (s n : Store) (id : ℕ) (o : Object) → ((i : ℕ) → living s.objects i ≡ None → count_of s.counts i ≡ 0)
    → (id ≡ suc (length s.objects)) × (n ≡ with_object o s) → count_of n.counts id < 2 ^ 128 - 1
born_has_room s n id o dead created = let none = born_unheld s n id o dead created in omega (arith, none)
