-- Where the object of an id and the program of a name are, and one more of them.
use Rattle.std.proofs.Common.{◌≡◌, ℕ, List, [], ◌∷◌, ◌++◌, map, Option, None, position, String, Global, string_eq, string_bytes, refl, ap, ◌∙◌}
use Rattle.std.specs.List.{AllByRecursion}
use Rattle.std.specs.Map.{keys_of}
use Rattle.std.specs.Str.{bytes_eq}
use Rattle.indexmap.specs.IndexMap.{insert_entry}
use Rattle.ui_machine.specs.Definition.Names.{place_named}
use Rattle.ui_machine.specs.Definition.{Definition}
use Rattle.ui_machine.specs.Definition.Places.{Place}
use Rattle.ui_machine.specs.Definition.Programs.{Program}
use Rattle.ui_machine.specs.Definition.Signals.{Method, Shape}
use Rattle.ui_machine.specs.Definition.Lookups.{place_of}
use Rattle.bytecode.specs.declared.programs.Program as code
use Rattle.definition_format.specs.declared.objects.ObjectBody.{ObjectBody}
use Rattle.definition_format.specs.declared.objects.PrototypeBody.{PrototypeBody}
use Rattle.definition_format.specs.Meaning.{Parts, Entry, Prototype, NamedProgram, HasOwnName, NamedShape, plain_object, plain_prototype, plain_program, plain_shape, places_of, meaning}
use Rattle.peer_shapes.proofs.NamedEntries.{IsNamed, number_is, named_last}

-- ** objects

named_objects : (es : List Entry) → AllByRecursion (IsNamed plain_object (λ (p : Place). p.id)) es
named_objects [] = tt
named_objects (e ∷ es) = (refl, named_objects es)

pub place_is : (id : List ℕ) (es : List Entry) → place_named (λ (p : Place). p.id) (map plain_object es) id ≡ position (λ k. bytes_eq id (string_bytes k)) (keys_of es)
place_is id es = number_is plain_object (λ (p : Place). p.id) id es (named_objects es)

pub place_found : (p : Parts) (d : Definition) → meaning p ≡ d → (id : List ℕ) (r : Option ℕ)
    → r ≡ place_named (λ (p : Place). p.id) (places_of p.objects p.prototypes) id → r ≡ place_of d id
place_found p d is id r found = found ∙ ap (λ (e : Definition). place_of e id) is

pub goes_last : (id : String Global) (body : ObjectBody) (es : List Entry)
    → place_named (λ (p : Place). p.id) (map plain_object es) (string_bytes id) ≡ None → insert_entry string_eq es id body ≡ es ++ (id, body) ∷ []
goes_last id body es h = named_last plain_object (λ (p : Place). p.id) id body es (named_objects es) h

-- ** prototypes

named_prototypes : (es : List Prototype) → AllByRecursion (IsNamed plain_prototype (λ (p : Place). p.id)) es
named_prototypes [] = tt
named_prototypes (e ∷ es) = (refl, named_prototypes es)

pub prototype_is : (id : List ℕ) (es : List Prototype)
    → place_named (λ (p : Place). p.id) (map plain_prototype es) id ≡ position (λ k. bytes_eq id (string_bytes k)) (keys_of es)
prototype_is id es = number_is plain_prototype (λ (p : Place). p.id) id es (named_prototypes es)

pub prototype_last : (id : String Global) (body : PrototypeBody) (es : List Prototype)
    → place_named (λ (p : Place). p.id) (map plain_prototype es) (string_bytes id) ≡ None → insert_entry string_eq es id body ≡ es ++ (id, body) ∷ []
prototype_last id body es h = named_last plain_prototype (λ (p : Place). p.id) id body es (named_prototypes es) h

-- ** programs

pub program_is : (name : List ℕ) (es : List NamedProgram) → AllByRecursion HasOwnName es
    → place_named (λ (p : Program). p.name) (map plain_program es) name ≡ position (λ k. bytes_eq name (string_bytes k)) (keys_of es)
program_is name es named = number_is plain_program (λ (p : Program). p.name) name es named

pub program_last : (name : String Global) (body : code.Program) (es : List NamedProgram) → AllByRecursion HasOwnName es
    → place_named (λ (p : Program). p.name) (map plain_program es) (string_bytes name) ≡ None → insert_entry string_eq es name body ≡ es ++ (name, body) ∷ []
program_last name body es named h = named_last plain_program (λ (p : Program). p.name) name body es named h

-- ** shapes

named_shapes : (es : List NamedShape) → AllByRecursion (IsNamed plain_shape (λ (s : Shape). s.name)) es
named_shapes [] = tt
named_shapes (e ∷ es) = (refl, named_shapes es)

pub shape_is : (name : List ℕ) (es : List NamedShape)
    → place_named (λ (s : Shape). s.name) (map plain_shape es) name ≡ position (λ k. bytes_eq name (string_bytes k)) (keys_of es)
shape_is name es = number_is plain_shape (λ (s : Shape). s.name) name es (named_shapes es)

pub shape_last : (name : String Global) (methods : List Method) (es : List NamedShape)
    → place_named (λ (s : Shape). s.name) (map plain_shape es) (string_bytes name) ≡ None → insert_entry string_eq es name methods ≡ es ++ (name, methods) ∷ []
shape_last name methods es h = named_last plain_shape (λ (s : Shape). s.name) name methods es (named_shapes es) h
