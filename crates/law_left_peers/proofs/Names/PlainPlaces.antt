-- The prototypes and objects that were read name their peers plainly, so a definition that was read does.
use Rattle.std.proofs.Common.{refl, sym, subst, ℕ, zero, suc, Bool, List, [], ◌∷◌, ◌++◌, length, Option, None, Some, Ok, codes}
use Rattle.std.proofs.lemmas.Grind.{flat_map-append}
use Rattle.std.proofs.lemmas.List.{append-nil}
use Rattle.serde_json.specs.Data.{Data}
use Rattle.serde_json.specs.Find.{get}
use Rattle.ui_machine.specs.Definition.{Definition}
use Rattle.ui_machine.specs.Definition.Places.{Place}
use Rattle.ui_machine.specs.Definition.Programs.{Program}
use Rattle.ui_machine.specs.Definition.Properties.{Spec}
use Rattle.ui_machine.specs.Definition.Types.{GType}
use Rattle.definition_format.specs.Document.{each, at_entry, under, nth, members_at, text_at, entries_at, only_at}
use Rattle.definition_format.specs.Denoted.Attached.{all_attached}
use Rattle.definition_format.specs.Denoted.Entries.{most_levels}
use Rattle.definition_format.specs.Denoted.Filled.{all_filled}
use Rattle.definition_format.specs.Denoted.Objects.{Built, Placed, Scope, no_objects, target_in, with_place, room_for_object, new_id, class_at_key, keys_of_object, place_at, added_at, object_at}
use Rattle.definition_format.specs.Denoted.Peers.{peer_or, peers_of, peers_or}
use Rattle.definition_format.specs.Denoted.Properties.{specs_by}
use Rattle.definition_format.specs.Denoted.Prototypes.{all_plain_at, room_for_prototype, keys_of_prototype, prototype_in, prototype_at, prototypes_in}
use Rattle.definition_format.specs.Denoted.Shapes.{is_shaped_by}
use Rattle.definition_format.specs.Denoted.{objects_in, scope_with}
use Rattle.definition_format.proofs.Soundness.{OnRead, on_bind, on_all, on_each}
use Rattle.law_reading.proofs.Parts.{IsRead, parts}
use Rattle.law_left_peers.specs.Names.PeerNames.{NamesPeersPlainly}
use Rattle.law_left_peers.proofs.Names.PlainNames.{ArePlain, plain_append, peer_read, peers_read}

-- ** places

-- these places name their peers plainly
abbrev NamePlainly : List Place → Type 0
NamePlainly places = ArePlain (peers_of places)

-- one of them does
abbrev NamesPlainly : Place → Type 0
NamesPlainly p = ArePlain p.peers

-- those of two lists do
all_places : (first second : List Place) → NamePlainly first → NamePlainly second → NamePlainly (first ++ second)
all_places first second e h =
    subst ArePlain (sym (flat_map-append (λ (p : Place). p.peers) first second)) (plain_append (peers_of first) (peers_of second) e h)

-- a place more
one_more : (places : List Place) (p : Place) → NamePlainly places → NamesPlainly p → NamePlainly (places ++ p ∷ [])
one_more places p e h = all_places places (p ∷ []) e (subst ArePlain (sym (append-nil p.peers)) h)

-- ** prototypes

module _ (types : List GType) (specs : ℕ → List Spec) (has_shape : ℕ → Bool) where
  -- the prototype of an entry
  one_prototype : (path : List ℕ) (prototypes : List Place) (d : Data) → OnRead NamesPlainly (prototype_in path types specs has_shape prototypes d)
  unfolding prototype_in
  one_prototype path prototypes d =
      on_bind (λ x. Unit {0}) NamesPlainly (members_at path d) _ (on_all _) λ ms u.
      on_bind (λ x. Unit {0}) NamesPlainly (room_for_prototype prototypes) _ (on_all _) λ room u.
      on_bind (λ x. Unit {0}) NamesPlainly (text_at path d (codes "id")) _ (on_all _) λ id u.
      on_bind (λ x. Unit {0}) NamesPlainly (new_id (under path (codes "id")) prototypes id) _ (on_all _) λ new u.
      on_bind (λ x. Unit {0}) NamesPlainly (class_at_key path types d) _ (on_all _) λ class u.
      on_bind (λ x. Unit {0}) NamesPlainly (all_plain_at path types (specs class) d) _ (on_all _) λ given u.
      on_bind ArePlain NamesPlainly (peers_or (under path (codes "peers")) (has_shape class) (peers_of prototypes) (get (codes "peers") d)) _
      (peers_read (under path (codes "peers")) (has_shape class) (peers_of prototypes) (get (codes "peers") d)) λ peers plain.
      on_bind (λ x. Unit {0}) NamesPlainly (only_at path ms keys_of_prototype) _ (on_all _) λ only u. plain

  -- these prototypes, with that of an entry
  added_prototype : (path : List ℕ) (prototypes : List Place) (d : Data) → NamePlainly prototypes
      → OnRead NamePlainly (prototype_at path types specs has_shape prototypes d)
  unfolding prototype_at
  added_prototype path prototypes d old =
      on_bind NamesPlainly NamePlainly (prototype_in path types specs has_shape prototypes d) (λ p. Ok (prototypes ++ p ∷ []))
      (one_prototype path prototypes d) λ p plain. one_more prototypes p old plain

  -- all prototypes of a document
  all_prototypes : (d : Data) → OnRead NamePlainly (prototypes_in types specs has_shape d)
  unfolding prototypes_in
  all_prototypes d =
      on_bind (λ x. Unit {0}) NamePlainly (entries_at [] d (codes "prototypes")) _ (on_all _) λ list u.
      on_each NamePlainly (at_entry (λ path. prototype_at path types specs has_shape) (under [] (codes "prototypes")))
      (λ i ps entry old. added_prototype (nth (under [] (codes "prototypes")) i) ps entry old) 0 [] list refl

-- ** objects

-- objects that were read do
abbrev BuiltPlainly : Built → Type 0
BuiltPlainly built = NamePlainly built.places

-- an object that was read does
abbrev PlacedPlainly : Placed → Type 0
PlacedPlainly placed = NamesPlainly placed.place

module _ (scope : Scope) where
  -- the object of an entry, without its children
  one_object : (path : List ℕ) (parent : Option ℕ) (built : Built) (d : Data) → OnRead PlacedPlainly (place_at path scope parent built d)
  unfolding place_at
  one_object path parent built d =
      on_bind (λ x. Unit {0}) PlacedPlainly (room_for_object scope.most scope.prototypes built.places) _ (on_all _) λ room u.
      on_bind (λ x. Unit {0}) PlacedPlainly (text_at path d (codes "id")) _ (on_all _) λ id u.
      on_bind (λ x. Unit {0}) PlacedPlainly (new_id (under path (codes "id")) (built.places ++ scope.prototypes) id) _ (on_all _) λ new u.
      on_bind (λ x. Unit {0}) PlacedPlainly (class_at_key path scope.types d) _ (on_all _) λ class u.
      on_bind ArePlain PlacedPlainly
      (peer_or (under path (codes "peer")) (scope.has_shape class) (peers_of scope.prototypes ++ peers_of built.places) (get (codes "peer") d)) _
      (peer_read (under path (codes "peer")) (scope.has_shape class) (peers_of scope.prototypes ++ peers_of built.places) (get (codes "peer") d))
      λ peers plain.
      on_bind (λ x. Unit {0}) PlacedPlainly (all_filled path (target_in scope (length built.places) class) built.bindings d) _ (on_all _) λ filled u.
      on_bind (λ x. Unit {0}) PlacedPlainly (all_attached path scope.programs scope.names d) _ (on_all _) λ signals u. plain

  -- these objects, with that one
  added_object : (path : List ℕ) (parent : Option ℕ) (built : Built) (d : Data) → BuiltPlainly built
      → OnRead BuiltPlainly (added_at path scope parent built d)
  unfolding added_at
  added_object path parent built d old =
      on_bind PlacedPlainly BuiltPlainly (place_at path scope parent built d) (λ placed. Ok (with_place built placed.place placed.bindings))
      (one_object path parent built d) λ placed plain. one_more built.places placed.place old plain

  -- an object with its children
  object_plain : (levels : ℕ) (parent : Option ℕ) (path : List ℕ) (built : Built) (d : Data) → BuiltPlainly built
      → OnRead BuiltPlainly (object_at levels scope parent path built d)
  unfolding object_at
  object_plain zero parent path built d old = tt
  object_plain (suc levels) parent path built d old =
      on_bind (λ x. Unit {0}) BuiltPlainly (members_at path d) _ (on_all _) λ ms u.
      on_bind BuiltPlainly BuiltPlainly (added_at path scope parent built d) _ (added_object path parent built d old) λ more plain.
      on_bind (λ x. Unit {0}) BuiltPlainly (entries_at path d (codes "children")) _ (on_all _) λ list u.
      on_bind BuiltPlainly BuiltPlainly
      (each (at_entry (object_at levels scope (Some (length built.places))) (under path (codes "children"))) 0 more list) _
      (on_each BuiltPlainly (at_entry (object_at levels scope (Some (length built.places))) (under path (codes "children")))
      (λ i others entry before. object_plain levels (Some (length built.places)) (nth (under path (codes "children")) i) others entry before)
      0 more list plain)
      λ all whole.
      on_bind (λ x. Unit {0}) BuiltPlainly (only_at path ms keys_of_object) _ (on_all _) λ only u. whole

-- all objects of a document, among these types and programs, beside these prototypes
all_objects : (types : List GType) (specs : ℕ → List Spec) (has_shape : ℕ → Bool) (programs : List Program) (prototypes : List Place) (most : ℕ)
    (d : Data) → OnRead BuiltPlainly (objects_in types specs has_shape programs prototypes most d)
unfolding objects_in
all_objects types specs has_shape programs prototypes most d =
    on_bind (λ x. Unit {0}) BuiltPlainly (entries_at [] d (codes "objects")) _ (on_all _) λ list u.
    on_each BuiltPlainly
    (at_entry (object_at most_levels (scope_with types specs has_shape programs prototypes most list) None) (under [] (codes "objects")))
    (λ i others entry before. object_plain (scope_with types specs has_shape programs prototypes most list) most_levels None
    (nth (under [] (codes "objects")) i) others entry before) 0 no_objects list refl

-- ** the whole

-- the objects come first, then the prototypes
of_parts : (d : Definition) → IsRead d → NamePlainly d.places
of_parts d r =
    let specs = specs_by r.draft.types r.draft.own in
    let has_shape = is_shaped_by r.draft.types r.draft.answers.shaped in
    let made : NamePlainly r.prototypes = subst (OnRead NamePlainly) r.made (all_prototypes r.draft.types specs has_shape r.value) in
    let placed : BuiltPlainly r.objects =
    subst (OnRead BuiltPlainly) r.placed
    (all_objects r.draft.types specs has_shape r.programs r.prototypes r.limits.objects r.value) in
    subst (λ (x : Definition). NamePlainly x.places) r.is (all_places r.objects.places r.prototypes placed made)

-- each definition that bytes denote
pub names_peers_plainly : NamesPeersPlainly
names_peers_plainly bytes d h = of_parts d (parts bytes d h)
