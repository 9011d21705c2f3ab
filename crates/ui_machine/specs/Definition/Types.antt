-- Types: classes, interfaces, enums and flags (GObject manual, GType).
use Rattle.std.specs.Prelude.{ℕ, ℤ, Bool, false, List, [], ◌∷◌, Option, Some, None, codes}

pub data Sort : Type 0 where
  class : Sort
  interface : Sort
  enum : Sort
  flags : Sort

-- a member of an enum, with its number, or of a flags type, with its bits
pub record Member : Type 0 where
  pub name : List ℕ
  pub nick : List ℕ
  pub number : ℤ

-- an entry of the type tree; types are named by their numbers in it
pub record GType : Type 0 where
  pub name : List ℕ
  pub sort : Sort
  pub parent : Option ℕ
  pub is_abstract : Bool
  pub is_final : Bool
  pub interfaces : List ℕ  -- those that a class implements or an interface requires
  pub members : List Member

-- a class that is neither abstract nor final
abbrev pub plain_class : List ℕ → Option ℕ → List ℕ → GType
plain_class name parent interfaces =
    record { name = name; sort = class; parent = parent; is_abstract = false; is_final = false; interfaces = interfaces; members = [] }

-- the types that are there before any is declared
abbrev pub predeclared : List GType
predeclared = plain_class (codes "GObject") None [] ∷ plain_class (codes "GInitiallyUnowned") (Some 0) [] ∷ []
