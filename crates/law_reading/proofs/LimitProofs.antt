-- The limits of a definition that was read.
use Rattle.std.proofs.Common.{◌≡◌, ℕ, suc, ◌+◌, ◌≤◌, ℤ, pos, negsuc, Bool, true, false, cond, not, ◌&&◌, List, [], ◌∷◌, ◌++◌, length, Option, None, Some, Ok, Err, refl, ap, arith}
use Rattle.std.specs.Prelude.{int_lt, unsigned_abs, if◌then◌else◌, codes}
use Rattle.std.proofs.lemmas.Int.{ints}
use Rattle.serde_json.specs.Data.{Data}
use Rattle.serde_json.specs.Find.{get}
use Rattle.g_values.specs.Reading.{whole_number}
use Rattle.ui_machine.specs.Seq.{total}
use Rattle.ui_machine.specs.Definition.Places.{Place}
use Rattle.ui_machine.specs.declared.limits.Limits.{Limits}
use Rattle.definition_format.specs.declared.faults.DefinitionLimit.{DefinitionLimit}
use Rattle.definition_format.specs.declared.faults.DefinitionLimit.TheVariants.{Objects, Handlers}
use Rattle.definition_format.specs.Meaning.{default_limits}
use Rattle.definition_format.specs.Refusals.{shape, limit, or_refused}
use Rattle.definition_format.specs.Document.{under, members_at, only_at}
use Rattle.definition_format.specs.Denoted.SessionLimits.{limit_within, given_limit, limit_or, keys_of_limits, given_limits, limits_or, limits_in}
use Rattle.definition_format.proofs.Soundness.{OnRead, on_bind, on_all}
use Rattle.law_typing.specs.Laws.WellRead.{is_object}
use Rattle.law_typing.specs.Verdict.Accepted.{Each}

pub record Small (limits : Limits) : Type 0 where
  pub objects : limits.objects ≤ 4096
  pub handlers : limits.handlers ≤ 16

below : (n : ℤ) (low high : ℕ) → int_lt n (pos low) ≡ false → int_lt (pos high) n ≡ false → unsigned_abs n ≤ high
below (pos k) low high p q = omega (arith, ints, q)
below (negsuc k) low high p q = absurd (omega (arith, ints, p))

within : (which : DefinitionLimit) (low high : ℕ) (n : ℤ) → OnRead (λ m. m ≤ high) (limit_within which (pos low) (pos high) n)
within which low high n = by (int_lt n (pos low)) (int_lt (pos high) n) refl refl
  where
    by : (a b : Bool) → int_lt n (pos low) ≡ a → int_lt (pos high) n ≡ b
        → OnRead (λ m. m ≤ high) (if not a && not b then Ok (unsigned_abs n) else Err (limit which))
    by true b p q = tt
    by false true p q = tt
    by false false p q = below n low high p q

given : (path : List ℕ) (which : DefinitionLimit) (low high : ℕ) (d : Data)
    → OnRead (λ m. m ≤ high) (given_limit path which (pos low) (pos high) d)
unfolding given_limit
given path which low high d =
    on_bind (λ x. Unit {0}) (λ m. m ≤ high) (or_refused (shape path) (whole_number d)) _ (on_all _) λ n u. within which low high n

limited : (path : List ℕ) (which : DefinitionLimit) (low high own : ℕ) (d : Option Data) → own ≤ high
    → OnRead (λ m. m ≤ high) (limit_or path which (pos low) (pos high) own d)
limited path which low high own None h = h
limited path which low high own (Some d) h = given path which low high d

given_small : (path : List ℕ) (d : Data) → OnRead Small (given_limits path d)
unfolding given_limits
given_small path d =
    on_bind (λ x. Unit {0}) Small (members_at path d) _ (on_all _) λ ms u.
    on_bind (λ m. m ≤ 4096) Small
    (limit_or (under path (codes "objects")) Objects (pos 1) (pos 4096) default_limits.objects (get (codes "objects") d)) _
    (limited (under path (codes "objects")) Objects 1 4096 default_limits.objects (get (codes "objects") d) (omega arith)) λ objects few.
    on_bind (λ m. m ≤ 16) Small
    (limit_or (under path (codes "handlers")) Handlers (pos 0) (pos 16) default_limits.handlers (get (codes "handlers") d)) _
    (limited (under path (codes "handlers")) Handlers 0 16 default_limits.handlers (get (codes "handlers") d) (omega arith))
    λ handlers small.
    on_bind (λ x. Unit {0}) Small (only_at path ms keys_of_limits) _ (on_all _) λ only u. record { objects = few; handlers = small }

small_or : (path : List ℕ) (d : Option Data) → OnRead Small (limits_or path d)
small_or path None = record { objects = omega arith; handlers = omega arith }
small_or path (Some d) = given_small path d

pub limits_small : (d : Data) → OnRead Small (limits_in d)
limits_small d = small_or (under [] (codes "limits")) (get (codes "limits") d)

-- prototypes are no objects
no_objects : (ps : List Place) → Each (λ p. p.is_prototype ≡ true) ps → total is_object ps ≡ 0
no_objects [] all = refl
no_objects (p ∷ ps) all = let here : is_object p ≡ 0 = ap (λ b. cond b 0 1) all.0 in let rest = no_objects ps all.1 in omega (arith, here, rest)

-- no more places are objects than come before the prototypes
pub objects_few : (objects prototypes : List Place) → Each (λ p. p.is_prototype ≡ true) prototypes → total is_object (objects ++ prototypes) ≤ length objects
objects_few [] prototypes all = let none = no_objects prototypes all in omega (arith, none)
objects_few (p ∷ ps) prototypes all = by p.is_prototype (objects_few ps prototypes all)
  where
    by : (b : Bool) → total is_object (ps ++ prototypes) ≤ length ps → cond b 0 1 + total is_object (ps ++ prototypes) ≤ suc (length ps)
    by true h = omega (arith, h)
    by false h = omega (arith, h)
