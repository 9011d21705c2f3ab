-- What a table is seen as: the machine's objects, and beside each how often it is held.
use Rattle.std.specs.Option.{option_map}
use Rattle.std.specs.Prelude.{◌≡◌, ◌+◌, ◌&&◌, ℕ, zero, suc, nat_lt, length, map, false, true, Bool, List, [], ◌∷◌, ◌++◌, Option, Some, None, is_some, IsSome, ◌≤◌, cond, nat_eq, Result, Ok, Err}
use Rattle.ui_machine.specs.declared.ids.ObjectId.{ObjectId}
use Rattle.ui_machine.specs.Definition.Values.{Value}
use Rattle.ui_machine.specs.Definition.Values as values
use Rattle.ui_machine.specs.Seq.{read, write}
use Rattle.ui_machine.specs.State.Objects.{Object, Objects, live, living, most_identities}
use Rattle.instance_tables.specs.declared.error.CreateError.{CreateError}
use Rattle.instance_tables.specs.declared.error.CreateError.TheVariants.{ObjectLimit, OutOfMemory}

pub record Store : Type 0 where
  pub objects : Objects
  pub counts : List ℕ  -- identity i + 1 at index i, 0 once it is finalised
  pub limit : ℕ  -- how many may live
  pub floating : List ℕ

-- the numbers of identities
abbrev pub ids_of : List ObjectId → List ℕ
ids_of ids = map (λ (i : ObjectId). i.0) ids

-- the number of an identity, if there is one
abbrev pub id_of : Option ObjectId → Option ℕ
id_of id = option_map (λ (i : ObjectId). i.0) id

-- an object that is just made: frozen once
abbrev pub made_object : ℕ → ℕ → List Value → Option ℕ → Object
made_object class place vs peer = record {
  class = class;
  place = place;
  values = vs;
  freezes = 1;
  queue = [];
  children = [];
  parent = None;
  disposed = false;
  peer = peer;
}

-- how often an object is frozen, if it lives
abbrev pub freezes_in : Option Object → ℕ
freezes_in None = 0
freezes_in (Some o) = o.freezes

-- ** counts by identity

-- how often an object is held
abbrev pub count_of : List ℕ → ℕ → ℕ
count_of counts zero = 0
count_of counts (suc i) = read 0 counts i

-- the counts with this one under an identity
abbrev pub counts_with : List ℕ → ℕ → ℕ → List ℕ
counts_with counts zero n = counts
counts_with counts (suc i) n = write 0 counts i n

abbrev pub with_count : Store → ℕ → ℕ → Store
with_count s id n = record s { counts = counts_with s.counts id n }

abbrev pub with_objects : Store → Objects → Store
with_objects s os = record s { objects = os }

-- whether an object lives and may be held once more
abbrev pub may_hold : Store → ℕ → Bool
may_hold s id = is_some (living s.objects id) && nat_lt (count_of s.counts id) 340282366920938463463374607431768211455

-- the same where there is an identity at all
abbrev pub may_hold_any : Store → Option ℕ → Bool
may_hold_any s None = true
may_hold_any s (Some id) = may_hold s id

-- the object that a value names
abbrev pub named_by : Value → Option ℕ
named_by (values.bool b) = None
named_by (values.whole kind n) = None
named_by (values.text s) = None
named_by (values.enum type n) = None
named_by (values.flags type bits) = None
named_by (values.object id) = id

-- so many at one identity, and nothing at the others
abbrev pub so_often : ℕ → ℕ → ℕ → ℕ
so_often times id o = cond (nat_eq id o) times 0

-- ** one more

-- whether there is room for one object more beside so many that are to come: they count in number and in identities
abbrev pub has_room : ℕ → Store → Bool
has_room to_come s = nat_lt (live s.objects + to_come) s.limit && nat_lt (length s.objects + to_come) most_identities

-- the store with one object more, which nothing holds, under the next identity
abbrev pub with_object : Object → Store → Store
with_object o s = record s { objects = s.objects ++ Some o ∷ []; counts = s.counts ++ 0 ∷ [] }

-- One more object under the next identity, or the limit exactly where there is no room. Memory is asked for only where there is room. An
-- error leaves all as it was.
abbrev pub Creates : Result ObjectId CreateError → Object → Store → Store → Type 0
Creates (Ok id) o old new = (has_room 0 old ≡ true) × (id.0 ≡ suc (length old.objects)) × (new ≡ with_object o old)
Creates (Err ObjectLimit) o old new = (has_room 0 old ≡ false) × (new ≡ old)
Creates (Err OutOfMemory) o old new = (has_room 0 old ≡ true) × (new ≡ old)

-- the store where an object floats too, and is held once more
abbrev pub with_floating : ℕ → Store → Store
with_floating id s = with_count (record s { floating = s.floating ++ id ∷ [] }) id (count_of s.counts id + 1)

-- the same of an object that floats
abbrev pub CreatesFloating : Result ObjectId CreateError → Object → Store → Store → Type 0
CreatesFloating (Ok id) o old new = (has_room 0 old ≡ true) × (id.0 ≡ suc (length old.objects)) × (new ≡ with_floating id.0 (with_object o old))
CreatesFloating (Err ObjectLimit) o old new = (has_room 0 old ≡ false) × (new ≡ old)
CreatesFloating (Err OutOfMemory) o old new = (has_room 0 old ≡ true) × (new ≡ old)

-- ** which objects live

-- the lowest identity of an object that lives, from an identity on, or there is none
pub record IsNextLiving (os : Objects) (from : ℕ) (next : Option ℕ) : Type 0 where
  pub lives : (id : ℕ) → next ≡ Some id → (from ≤ id) × IsSome (living os id)
  pub lowest : (id : ℕ) → from ≤ id → IsSome (living os id) → (n : ℕ) × (next ≡ Some n) × (n ≤ id)
