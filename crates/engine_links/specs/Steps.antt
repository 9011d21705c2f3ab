-- What the steps that link programs do.
use Rattle.std.specs.List.{list_any}
use Rattle.std.specs.Prelude.{◌≡◌, ℕ, cond, nat_eq, ◌&&◌, List, [], ◌∷◌, ◌++◌, Option, slice_get}
use Rattle.ui_machine.specs.Definition.{Definition}
use Rattle.ui_machine.specs.Definition.Lookups.{specs_of}
use Rattle.ui_machine.specs.Definition.Names.{place_named, same_name}
use Rattle.ui_machine.specs.Definition.Programs.{Block, Program}
use Rattle.ui_machine.specs.Definition.Properties.{Spec}
use Rattle.ui_machine.specs.Definition.Signals.{Method, Signal}
use Rattle.ui_machine.specs.Rules.EmissionPlan.{class_handler_of}
use Rattle.ui_machine.specs.State.Bindings.{is_name}
use Rattle.law_typing.specs.Good.Meanings.{binding_name, shape_methods}
use Rattle.name_tables.specs.Names.{with_number}
use Rattle.definitions.specs.ClassNames.{AreSignals}
use Rattle.engine_links.specs.Linked.{AreSlots, IsLink, Linked}
use Rattle.engine_links.specs.Rows.{NamedRows, method_of, numbers_of}
use Rattle.engine_links.specs.declared.link.Link.{Link}
use Rattle.engine_links.specs.declared.tables.Tables.{Tables}

-- ** names

-- the slot of the property of a class that is called so, in canonical spelling
abbrev pub slot_called : Definition → ℕ → List ℕ → Option ℕ
slot_called d class name = place_named (λ (s : Spec). s.name) (specs_of d class) name

-- ** class handlers

-- it is what a class runs for a signal
abbrev pub IsHandler : Definition → ℕ → Signal → Option ℕ → Type 0
IsHandler d class s program = program ≡ class_handler_of d class s.name

-- ** methods and bindings

-- the number of the method of a shape that is called so
abbrev pub method_called : Definition → (shape : ℕ) → List ℕ → Option ℕ
method_called d shape name = place_named (λ (m : Method). m.name) (shape_methods (slice_get d.shapes shape)) name

-- nothing differs but that a shape has a method of this name and number, where it had none of the name
abbrev pub AddsMethod : NamedRows (List (ℕ × ℕ)) → NamedRows (List (ℕ × ℕ)) → (shape : ℕ) → List ℕ → ℕ → Type 0
AddsMethod old new shape name number =
    (s : ℕ) (n : List ℕ) → method_of new s n ≡ with_number (nat_eq s shape && same_name name n) number (method_of old s n)

-- the methods are those of a definition's shapes
abbrev pub AreMethods : Definition → NamedRows (List (ℕ × ℕ)) → Type 0
AreMethods d methods = (shape : ℕ) (name : List ℕ) → method_of methods shape name ≡ method_called d shape name

-- nothing differs but that a binding of this number has this name
abbrev pub AddsBinding : NamedRows (List ℕ) → NamedRows (List ℕ) → List ℕ → ℕ → Type 0
AddsBinding old new name number = (n : List ℕ) → numbers_of new n ≡ cond (same_name name n) (numbers_of old n ++ number ∷ []) (numbers_of old n)

-- the bindings are those of a definition
abbrev pub AreBindings : Definition → NamedRows (List ℕ) → Type 0
AreBindings d bindings = (number : ℕ) (name : List ℕ) → list_any (nat_eq number) (numbers_of bindings name) ≡ is_name name (binding_name d number)

-- ** links

-- the tables have the names of a definition
pub record AreTables (d : Definition) (t : Tables) : Type 0 where
  pub slots : AreSlots d t.slots
  pub signals : AreSignals d t.signals
  pub methods : AreMethods d t.methods
  pub bindings : AreBindings d t.bindings

-- the tables, with the programs that classes run and the links of programs
abbrev pub linked_by : Tables → List (List (Option ℕ)) → List (List (List Link)) → Linked
linked_by t handlers programs =
    record { slots = t.slots; signals = t.signals; methods = t.methods.rows; bindings = t.bindings.rows; handlers = handlers; programs = programs }

-- the tables alone: no link depends on the links of programs
abbrev pub tables_alone : Tables → Linked
tables_alone t = linked_by t [] []

-- two lists are equally long, and what is at one place of both is related
abbrev pub ArePairwise : {A B : Type 0} → (A → B → Type 0) → List A → List B → Type 0
ArePairwise R [] [] = Unit {0}
ArePairwise R [] (y ∷ ys) = ⊥
ArePairwise R (x ∷ xs) [] = ⊥
ArePairwise R (x ∷ xs) (y ∷ ys) = R x y × ArePairwise R xs ys

-- the links of a block's instructions
abbrev pub LinksBlock : Definition → Linked → Block → List Link → Type 0
LinksBlock d l block links = ArePairwise (IsLink d l) block.code links

-- the links of a program's blocks
abbrev pub LinksBlocks : Definition → Linked → Program → List (List Link) → Type 0
LinksBlocks d l program links = ArePairwise (LinksBlock d l) program.blocks links

-- the links of a definition's programs
abbrev pub LinksPrograms : Definition → Linked → List (List (List Link)) → Type 0
LinksPrograms d l links = ArePairwise (LinksBlocks d l) d.programs links
