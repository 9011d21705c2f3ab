-- Kinds of registers: which fits which, and the objects of which places a register may hold.
use Rattle.std.specs.Prelude.{ℕ, Bool, true, false, ◌&&◌, ◌||◌, nat_eq, List, [], ◌∷◌, length, Option, None, Some, option_map, is_some}
use Rattle.std.specs.List.{filter}
use Rattle.ui_machine.specs.Seq.{read, listed}
use Rattle.ui_machine.specs.Definition.Kinds.{Kind, RegisterKind}
use Rattle.ui_machine.specs.Definition.Kinds as kinds
use Rattle.ui_machine.specs.Rules.Transform.{same_kind, is_one}
use Rattle.ui_machine.specs.Definition.{Definition}
use Rattle.ui_machine.specs.Definition.Places.{Place}
use Rattle.ui_machine.specs.Definition.Lookups.{place_at}

-- the kinds of a program's registers
abbrev pub Kinds : Type 0
Kinds = List RegisterKind

-- the kind of a register
abbrev pub kind_in : Kinds → ℕ → RegisterKind
kind_in ks register = read kinds.unset ks register

-- ** classes

-- the class of a place's object
abbrev pub class_at : Definition → ℕ → Option ℕ
class_at d place = option_map (λ (p : Place). p.class) (place_at d place)

-- the class or interface that a kind of objects names; other kinds name none
abbrev pub class_of_plain : Kind → Option ℕ
class_of_plain (kinds.object type) = Some type
class_of_plain _ = None

-- the class or interface that a kind of registers names
abbrev pub class_of_kind : Definition → RegisterKind → Option ℕ
class_of_kind d kinds.unset = None
class_of_kind d (kinds.plain kind) = class_of_plain kind
class_of_kind d (kinds.some type) = Some type
class_of_kind d (kinds.at place) = class_at d place
class_of_kind d (kinds.at_or_null place) = class_at d place

-- whether a register of the kind holds objects
abbrev pub holds_objects : Definition → RegisterKind → Bool
holds_objects d k = is_some (class_of_kind d k)

-- whether a register of the kind holds an object, and never null
abbrev pub is_never_null : RegisterKind → Bool
is_never_null (kinds.some type) = true
is_never_null (kinds.at place) = true
is_never_null _ = false

-- what a kind is once null is ruled out
abbrev pub never_null : RegisterKind → RegisterKind
never_null kinds.unset = kinds.unset
never_null (kinds.plain (kinds.object type)) = kinds.some type
never_null (kinds.plain kind) = kinds.plain kind
never_null (kinds.some type) = kinds.some type
never_null (kinds.at place) = kinds.at place
never_null (kinds.at_or_null place) = kinds.at place

-- ** which kind fits which

-- whether it is this kind of values
abbrev pub is_plain : Kind → RegisterKind → Bool
is_plain kind (kinds.plain k) = same_kind k kind
is_plain kind _ = false

-- whether it is the kind of the place's object
abbrev pub is_at : ℕ → RegisterKind → Bool
is_at place (kinds.at c) = nat_eq c place
is_at place _ = false

-- whether it is the kind of the place's object or null
abbrev pub is_at_or_null : ℕ → RegisterKind → Bool
is_at_or_null place (kinds.at_or_null c) = nat_eq c place
is_at_or_null place _ = false

-- whether a kind is of objects of a type, if there is one
abbrev pub is_of_class : Definition → RegisterKind → Option ℕ → Bool
is_of_class d a None = false
is_of_class d a (Some type) = is_one d.types type (class_of_kind d a)

-- Whether what has the first kind may go where the second is wanted. Anything may be forgotten; an object of a class is one of its
-- ancestors and interfaces; what is never null may go where null is allowed.
abbrev pub fits : Definition → RegisterKind → RegisterKind → Bool
fits d a kinds.unset = true
fits d a (kinds.plain kind) = is_plain kind a || is_of_class d a (class_of_plain kind)
fits d a (kinds.some type) = is_never_null a && is_of_class d a (Some type)
fits d a (kinds.at place) = is_at place a
fits d a (kinds.at_or_null place) = is_at place a || is_at_or_null place a

-- each register's kind fits the one that is wanted of it
abbrev pub kinds_fit : Definition → Kinds → Kinds → Bool
kinds_fit d ks [] = true
kinds_fit d [] (e ∷ es) = fits d kinds.unset e && kinds_fit d [] es
kinds_fit d (k ∷ ks) (e ∷ es) = fits d k e && kinds_fit d ks es

-- ** places

-- whether a register of the kind may hold the object of the place
abbrev pub covers : Definition → RegisterKind → ℕ → Bool
covers d kinds.unset place = false
covers d (kinds.plain kind) place = is_of_class d (kinds.at place) (class_of_plain kind)
covers d (kinds.some type) place = is_of_class d (kinds.at place) (Some type)
covers d (kinds.at c) place = nat_eq c place
covers d (kinds.at_or_null c) place = nat_eq c place

-- the numbers of the definition's places
abbrev pub place_numbers : Definition → List ℕ
place_numbers d = listed (λ place. place) (length d.places)

-- the places whose objects a register of the kind may hold
abbrev pub places : Definition → RegisterKind → List ℕ
places d k = filter (covers d k) (place_numbers d)
