-- The objects of a definition that was read: of concrete classes, each behind its parent and with a peer just where its class has a shape, and
-- bindings between them.
use Rattle.std.proofs.Common.{◌≡◌, ℕ, zero, suc, ◌+◌, ◌<◌, ◌⊎◌, inl, inr, Bool, true, false, cond, nat_le, List, [], ◌∷◌, ◌++◌, length, slice_get, Option, None, Some, option_and_then, Ok, Err, codes, map, refl, sym, ap, subst, ◌∙◌, arith, length-append}
use Rattle.std.proofs.lemmas.List.{append_assoc, append-nil, length-map}
use Rattle.std.proofs.lemmas.Bool.Decides.{nat_tests}
use Rattle.std.specs.Prelude.{if◌then◌else◌}
use Rattle.serde_json.specs.Data.{Data, Items, no_items, item}
use Rattle.serde_json.specs.Find.{get}
use Rattle.type_tree.specs.Adding.{find_type, class_named}
use Rattle.ui_machine.specs.Seq.{read}
use Rattle.ui_machine.specs.Definition.Programs.{Program}
use Rattle.ui_machine.specs.Definition.Places.{Place}
use Rattle.ui_machine.specs.Definition.Properties.{Spec}
use Rattle.ui_machine.specs.Definition.Types.{GType}
use Rattle.ui_machine.specs.Definition.Types as sorts
use Rattle.ui_machine.specs.Output.Text.{no_type, members_of}
use Rattle.definition_format.specs.Causes.{abstract_class}
use Rattle.definition_format.specs.declared.faults.DefinitionLimit.TheVariants.{Places, Objects}
use Rattle.definition_format.specs.Refusals.{shape, unknown, bad_type, limit, or_refused}
use Rattle.definition_format.specs.Document.{each, at_entry, under, nth, members_at, text_at, entries_at, only_at}
use Rattle.definition_format.specs.Denoted.Attached.{all_attached}
use Rattle.definition_format.specs.Denoted.Filled.{all_filled}
use Rattle.definition_format.specs.Denoted.Objects.{Built, Placed, Scope, no_objects, target_in, with_place, room_for_object, new_id, unless_abstract, class_at_key, keys_of_object, place_at, added_at, object_at}
use Rattle.definition_format.specs.Denoted.Entries.{ObjectNames, names_of, name_under, section, with_all, in_order, most_levels}
use Rattle.definition_format.specs.Denoted.Given.{class_ahead}
use Rattle.definition_format.specs.Denoted.Peers.{peer_or, peers_of}
use Rattle.definition_format.specs.Denoted.{objects_in}
use Rattle.definition_format.proofs.Soundness.{OnRead, on_bind, on_all}
use Rattle.law_typing.specs.Verdict.Accepted.{Each}
use Rattle.law_reading.proofs.AttachedProofs.{HasData, attached_read}
use Rattle.law_reading.proofs.BindProofs.{IsBetween}
use Rattle.law_reading.proofs.FilledProofs.{IsFilled, filled_read}
use Rattle.law_reading.proofs.GivenProofs.{AreGiven}
use Rattle.law_reading.proofs.ListProofs.{get_push, read_behind}
use Rattle.law_reading.proofs.Parts.{on_read, more_on, section_is, taken}
use Rattle.law_reading.proofs.PeerNames.{AreOnce, IsPeer, peer_read, place_once}
use Rattle.law_reading.proofs.TreeProofs.{IsClass, class_is}
use Rattle.law_reading.proofs.ValueProofs.{HaveFewBits}

-- ** what is so of an object that was read

-- a class that has objects
pub record IsConcrete (types : List GType) (class : ℕ) : Type 0 where
  pub known : class < length types
  pub sort : (read no_type types class).sort ≡ sorts.class
  pub concrete : (read no_type types class).is_abstract ≡ false

-- the object of a place, among these types with these properties, of which these have a shape, where all objects have these names
pub record IsObjectRead (types : List GType) (specs : ℕ → List Spec) (has_shape : ℕ → Bool) (names : ObjectNames) (place : ℕ) (p : Place) : Type 0 where
  pub class : IsConcrete types p.class
  pub given : AreGiven types names place (specs p.class) p.given
  pub named : class_ahead types names place ≡ Some p.class
  pub object : p.is_prototype ≡ false
  pub parent : (above : ℕ) → p.parent ≡ Some above → above < place
  pub peers : length p.peers ≡ cond (has_shape p.class) 1 0
  pub signals : Each (HasData names) p.signals

abbrev pub AreRead : List GType → (ℕ → List Spec) → (ℕ → Bool) → ObjectNames → List Place → Type 0
AreRead types specs has_shape names places = (i : ℕ) (p : Place) → slice_get places i ≡ Some p → IsObjectRead types specs has_shape names i p

-- all objects of a document beside these prototypes, by names of as many, and bindings between them; no peer is named twice
pub record AreObjects (types : List GType) (specs : ℕ → List Spec) (has_shape : ℕ → Bool) (prototypes : List Place) (built : Built) : Type 0 where
  pub names : ObjectNames
  pub many : length names.ids ≡ length built.places
  pub all : AreRead types specs has_shape names built.places
  pub once : AreOnce (peers_of prototypes ++ peers_of built.places)
  pub bound : Each (IsBetween names) built.bindings

-- the class that an entry names
pub record IsClassOf (types : List GType) (d : Data) (class : ℕ) : Type 0 where
  pub concrete : IsConcrete types class
  pub named : option_and_then (class_named types) (name_under (codes "class") d) ≡ Some class

pub class_read : (path : List ℕ) (types : List GType) (d : Data) → OnRead (IsClassOf types d) (class_at_key path types d)
class_read path types d =
    on_read (IsClassOf types d) (text_at path d (codes "class")) _ λ name said.
    on_read (IsClassOf types d) (or_refused (unknown (under path (codes "class")) name) (class_named types name)) _
    λ class e.
    let found : class_named types name ≡ Some class = taken _ (class_named types name) class e in
    let called : name_under (codes "class") d ≡ Some name = taken (shape (under path (codes "class"))) (name_under (codes "class") d) name said in
    of_class class (class_is types name (find_type types name) refl class found) (ap (option_and_then (class_named types)) called ∙ found)
  where
    by : (class : ℕ) → IsClass types class → option_and_then (class_named types) (name_under (codes "class") d) ≡ Some class
        → (b : Bool) → (read no_type types class).is_abstract ≡ b
        → OnRead (IsClassOf types d) (if b then Err (bad_type (under path (codes "class")) abstract_class) else Ok class)
    by class is called true e = tt
    by class is called false e = record { concrete = record { known = is.known; sort = is.sort; concrete = e }; named = called }

    of_class : (class : ℕ) → IsClass types class → option_and_then (class_named types) (name_under (codes "class") d) ≡ Some class
        → OnRead (IsClassOf types d) (unless_abstract (under path (codes "class")) types class)
    of_class class is called = by class is called (read no_type types class).is_abstract refl

place_left : (most : ℕ) (prototypes places : List Place) → OnRead (λ u. length places < 512) (room_for_object most prototypes places)
place_left most prototypes places = by (nat_le 512 (length places + length prototypes)) refl
  where
    life : (b : Bool) → length places < 512 → OnRead {A = Unit {0}} (λ u. length places < 512) (if b then Err (limit Objects) else Ok tt)
    life true h = tt
    life false h = h

    by : (b : Bool) → nat_le 512 (length places + length prototypes) ≡ b
        → OnRead {A = Unit {0}} (λ u. length places < 512)
        (if b then Err (limit Places) else (if nat_le most (length places) then Err (limit Objects) else Ok tt))
    by true e = tt
    by false e = life (nat_le most (length places)) (grind (arith, nat_tests))

module _ (types : List GType) (few : (t : ℕ) → HaveFewBits (members_of types t)) (specs : ℕ → List Spec) (has_shape : ℕ → Bool) (programs : List Program)
    (prototypes : List Place) (most : ℕ) (order : List Data) where
  abbrev names : ObjectNames
  names = names_of order

  abbrev scope : Scope
  scope = record { types = types; specs = specs; has_shape = has_shape; programs = programs; prototypes = prototypes; most = most; names = names }

  -- the object that another is a child of, if it is one, is one of these
  abbrev IsAbove : Option ℕ → List Place → Type 0
  IsAbove parent places = (above : ℕ) → parent ≡ Some above → above < length places

  -- ** one object

  abbrev IsOne : List Place → Place → Type 0
  IsOne places p = IsObjectRead types specs has_shape names (length places) p

  -- the names of all peers so far
  abbrev named_peers : List Place → List (List ℕ)
  named_peers places = peers_of prototypes ++ peers_of places

  -- with the bindings up to it; its peer is none of those so far
  record One (places : List Place) (placed : Placed) : Type 0 where
    object : IsOne places placed.place
    once : AreOnce (named_peers places ++ placed.place.peers)
    bound : Each (IsBetween names) placed.bindings

  one_object : (path : List ℕ) (parent : Option ℕ) (built : Built) (d : Data) → IsAbove parent built.places → length built.places < length names.ids
      → Each (IsBetween names) built.bindings → AreOnce (named_peers built.places)
      → option_and_then (class_named types) (name_under (codes "class") d) ≡ class_ahead types names (length built.places)
      → OnRead (One built.places) (place_at path scope parent built d)
  unfolding place_at
  one_object path parent built d higher there bound once ahead =
      on_bind (λ x. length built.places < 512) (One built.places) (room_for_object most prototypes built.places) _ (place_left most prototypes built.places) λ u room.
      on_bind (λ x. Unit {0}) (One built.places) (text_at path d (codes "id")) _ (on_all _) λ id u.
      on_bind (λ x. Unit {0}) (One built.places) (new_id (under path (codes "id")) (built.places ++ prototypes) id) _ (on_all _) λ new u.
      on_bind (IsClassOf types d) (One built.places) (class_at_key path types d) _ (class_read path types d) λ class is.
      on_bind (IsPeer (named_peers built.places) (has_shape class)) (One built.places)
      (peer_or (under path (codes "peer")) (has_shape class) (named_peers built.places) (get (codes "peer") d)) _
      (peer_read (under path (codes "peer")) (has_shape class) (named_peers built.places) (get (codes "peer") d) once) λ peers new.
      on_bind (IsFilled (target_in scope (length built.places) class) few room there) (One built.places)
      (all_filled path (target_in scope (length built.places) class) built.bindings d) _
      (filled_read (target_in scope (length built.places) class) few room there path built.bindings d bound) λ filled fit.
      on_bind (Each (HasData names)) (One built.places) (all_attached path programs names d) _ (attached_read programs names path d) λ signals have.
      record {
        object = record {
          class = is.concrete;
          given = fit.given;
          named = sym ahead ∙ is.named;
          object = refl;
          parent = higher;
          peers = new.count;
          signals = have;
        };
        once = new.once;
        bound = fit.bound;
      }

  -- ** all objects, in document order

  -- what is so while these entries are left, of which the next are children of the parent
  record Reading (parent : Option ℕ) (left : List Data) (built : Built) : Type 0 where
    done : List Data
    is : order ≡ done ++ left
    count : length done ≡ length built.places
    above : IsAbove parent built.places
    so : AreRead types specs has_shape names built.places
    once : AreOnce (named_peers built.places)
    bound : Each (IsBetween names) built.bindings

  next_class : (parent : Option ℕ) (d : Data) (left : List Data) (built : Built) → Reading parent (d ∷ left) built
      → option_and_then (class_named types) (name_under (codes "class") d) ≡ class_ahead types names (length built.places)
  next_class parent d left built r =
      ap (option_and_then (class_named types)) (
      sym (read_behind None (name_under (codes "class")) r.done d left)
      ∙ ap (λ ds. read None (map (name_under (codes "class")) ds) (length r.done)) (sym r.is)
      ∙ ap (read None names.classes) r.count)

  -- there is an entry for the next
  next_there : (parent : Option ℕ) (d : Data) (left : List Data) (built : Built) → Reading parent (d ∷ left) built → length built.places < length names.ids
  next_there parent d left built r =
      let named = length-map order (name_under (codes "id")) in
      let all = ap length r.is in
      let parts = length-append r.done (d ∷ left) in
      let n = r.count in
      omega (arith, named, all, parts, n)

  -- behind an object its children come
  grown : (parent : Option ℕ) (d : Data) (left : List Data) (built : Built) (placed : Placed) → Reading parent (d ∷ left) built
      → One built.places placed → Reading (Some (length built.places)) left (with_place built placed.place placed.bindings)
  grown parent d left built placed r one = record {
    done = r.done ++ d ∷ [];
    is = r.is ∙ sym (append_assoc r.done (d ∷ []) left);
    count = let n = r.count in let more = length-append r.done (d ∷ []) in omega (arith, n, more, longer);
    above = λ above e. let same : length built.places ≡ above = cc in omega (arith, same, longer);
    so = λ k p e. by k p (get_push built.places placed.place k p e);
    once = place_once (peers_of prototypes) built.places placed.place one.once;
    bound = one.bound;
  }
    where
      longer : length (built.places ++ placed.place ∷ []) ≡ length built.places + 1
      longer = length-append built.places (placed.place ∷ [])

      by : (k : ℕ) (p : Place) → (slice_get built.places k ≡ Some p) ⊎ ((k ≡ length built.places) × (p ≡ placed.place)) → IsObjectRead types specs has_shape names k p
      by k p (inl e) = r.so k p e
      by k p (inr e) = subst (λ n. IsObjectRead types specs has_shape names n p) (sym e.0) (subst (IsOne built.places) (sym e.1) one.object)

  -- behind its children its parent's next child comes
  after_children : (parent : Option ℕ) (before left : List Data) (built all : Built) → Reading parent before built
      → Reading (Some (length built.places)) left all → Reading parent left all
  after_children parent before left built all r q = record {
    done = q.done;
    is = q.is;
    count = q.count;
    above = λ above e. let first = r.above above e in let here = q.above (length built.places) refl in omega (arith, first, here);
    so = q.so;
    once = q.once;
    bound = q.bound;
  }

  added_read : (path : List ℕ) (parent : Option ℕ) (built : Built) (d : Data) (left : List Data) → Reading parent (d ∷ left) built
      → OnRead (Reading (Some (length built.places)) left) (added_at path scope parent built d)
  unfolding added_at
  added_read path parent built d left r =
      on_bind (One built.places) (Reading (Some (length built.places)) left) (place_at path scope parent built d)
      (λ placed. Ok (with_place built placed.place placed.bindings))
      (one_object path parent built d r.above (next_there parent d left built r) r.bound r.once (next_class parent d left built r))
      λ placed one. grown parent d left built placed r one

  -- what a list gives that nests so many levels deep: its objects are read, and these entries are left
  abbrev ListRead : ℕ → Type 0
  ListRead levels =
      (parent : Option ℕ) (path : List ℕ) (i : ℕ) (list : Items) (built : Built) (left : List Data)
      → Reading parent (in_order levels list ++ left) built
      → OnRead (Reading parent left) (each (at_entry (object_at levels scope parent) path) i built list)

  module _ (levels : ℕ) (children : ListRead levels) where
    abbrev below : Data → List Data
    below d = in_order levels (section (codes "children") d)

    object_read : (parent : Option ℕ) (path : List ℕ) (built : Built) (d : Data) (left : List Data)
        → Reading parent (d ∷ (below d ++ left)) built → OnRead (Reading parent left) (object_at (suc levels) scope parent path built d)
    unfolding object_at
    object_read parent path built d left r =
        on_bind (λ x. Unit {0}) (Reading parent left) (members_at path d) _ (on_all _) λ ms u.
        on_bind (Reading (Some (length built.places)) (below d ++ left)) (Reading parent left) (added_at path scope parent built d) _
        (added_read path parent built d (below d ++ left) r) λ more q.
        on_read (Reading parent left) (entries_at path d (codes "children")) _ λ list e.
        on_bind (Reading (Some (length built.places)) left) (Reading parent left)
        (each (at_entry (object_at levels scope (Some (length built.places))) (under path (codes "children"))) 0 more list) _
        (children (Some (length built.places)) (under path (codes "children")) 0 list more left
        (subst (λ ds. Reading (Some (length built.places)) (in_order levels ds ++ left) more) (section_is path (codes "children") d list e) q))
        λ all s.
        on_bind (λ x. Unit {0}) (Reading parent left) (only_at path ms keys_of_object) _ (on_all _) λ only u.
        after_children parent (d ∷ (below d ++ left)) left built all r s

    entries_read : (parent : Option ℕ) (path : List ℕ) (i : ℕ) (list : Items) (built : Built) (left : List Data)
        → Reading parent (with_all below list ++ left) built
        → OnRead (Reading parent left) (each (at_entry (object_at (suc levels) scope parent) path) i built list)
    unfolding each
    entries_read parent path i no_items built left r = r
    entries_read parent path i (item d ds) built left r =
        on_bind (Reading parent (with_all below ds ++ left)) (Reading parent left) (object_at (suc levels) scope parent (nth path i) built d) _
        (object_read parent (nth path i) built d (with_all below ds ++ left)
        (subst (λ es. Reading parent (d ∷ es) built) (append_assoc (below d) (with_all below ds) left) r))
        λ more q. entries_read parent path (i + 1) ds more left q

  list_read : (levels : ℕ) → ListRead levels
  unfolding each object_at
  list_read zero parent path i no_items built left r = r
  list_read zero parent path i (item d ds) built left r = tt
  list_read (suc levels) parent path i list built left r = entries_read levels (list_read levels) parent path i list built left r

  all_done : (built : Built) → Reading None [] built → AreObjects types specs has_shape prototypes built
  all_done built r = record {
    names = names;
    many = length-map order (name_under (codes "id")) ∙ ap length (r.is ∙ append-nil r.done) ∙ r.count;
    all = r.so;
    once = r.once;
    bound = r.bound;
  }

  read_all : (levels : ℕ) (list : Items) → in_order levels list ≡ order → AreOnce (peers_of prototypes)
      → OnRead (AreObjects types specs has_shape prototypes) (each (at_entry (object_at levels scope None) (under [] (codes "objects"))) 0 no_objects list)
  read_all levels list e once =
      more_on (Reading None []) (AreObjects types specs has_shape prototypes) (each (at_entry (object_at levels scope None) (under [] (codes "objects"))) 0 no_objects list)
      all_done (list_read levels None (under [] (codes "objects")) 0 list no_objects [] first)
    where
      first : Reading None (in_order levels list ++ []) no_objects
      first = record {
        done = [];
        is = sym (append-nil (in_order levels list) ∙ e);
        count = refl;
        above = λ above h. absurd (cc);
        so = λ i p h. absurd (cc);
        once = subst AreOnce (sym (append-nil (peers_of prototypes))) once;
        bound = tt;
      }

module _ (types : List GType) (few : (t : ℕ) → HaveFewBits (members_of types t)) (specs : ℕ → List Spec) (has_shape : ℕ → Bool) (programs : List Program)
    (prototypes : List Place) (most : ℕ) where
  pub all_objects : (d : Data) → AreOnce (peers_of prototypes)
      → OnRead (AreObjects types specs has_shape prototypes) (objects_in types specs has_shape programs prototypes most d)
  unfolding objects_in
  all_objects d once =
      on_bind (λ x. Unit {0}) (AreObjects types specs has_shape prototypes) (entries_at [] d (codes "objects")) _ (on_all _) λ list u.
      read_all types few specs has_shape programs prototypes most (in_order most_levels list) most_levels list refl once
