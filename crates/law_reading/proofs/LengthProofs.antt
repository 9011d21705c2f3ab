-- A definition that bytes denote has short lists.
use Rattle.std.proofs.Common.{◌≡◌, ℕ, zero, suc, ◌+◌, ◌*◌, ◌≤◌, ◌<◌, Bool, true, false, List, [], ◌∷◌, ◌++◌, length, codes, Option, None, Some, Ok, Err, refl, subst, arith, if◌then◌else◌}
use Rattle.std.proofs.lemmas.Bool.Decides.{nat_tests}
use Rattle.std.proofs.lemmas.List.{length-append}
use Rattle.std.specs.Prelude.{nat_le, nat_lt}
use Rattle.std.specs.Str.{is_utf8}
use Rattle.serde_json.specs.Data.{Data}
use Rattle.serde_json.specs.Find.{as_str, get}
use Rattle.serde_json.specs.Read.{read}
use Rattle.ui_machine.specs.Definition.Places.{Attached, Bind, Place}
use Rattle.ui_machine.specs.Definition.Programs.{Program}
use Rattle.ui_machine.specs.Definition.Properties.{Spec}
use Rattle.ui_machine.specs.Definition.Types.{GType}
use Rattle.ui_machine.specs.Limits.{most_definition_bytes}
use Rattle.ui_machine.specs.Seq.{total}
use Rattle.definition_format.specs.Denoted.{definition_in, denoted, draft_in, format_number, format_of, keys_of_definition, objects_in, scope_with}
use Rattle.definition_format.specs.Denoted.Attached.{all_attached, attached_at, attached_in}
use Rattle.definition_format.specs.Denoted.Binds.{Target, bind_at}
use Rattle.definition_format.specs.Denoted.Entries.{ObjectNames, most_levels}
use Rattle.definition_format.specs.Denoted.Filled.{Filled, all_filled, bound_at, filled_at, keys_of_given, unfilled, unless_named, unbound, value_or_bind, valued_at}
use Rattle.definition_format.specs.Denoted.Given.{Property, given_by, in_time, property_named, reference, spec_ahead, takes_value}
use Rattle.definition_format.specs.Denoted.Objects.{Built, Placed, Scope, added_at, class_at_key, keys_of_object, new_id, no_objects, object_at, place_at, room_for_object, target_in, with_place}
use Rattle.definition_format.specs.Denoted.Peers.{peer_or, peers_of, peers_or}
use Rattle.definition_format.specs.Denoted.Programs.{programs_in}
use Rattle.definition_format.specs.Denoted.Properties.{specs_by}
use Rattle.definition_format.specs.Denoted.Prototypes.{all_plain_at, keys_of_prototype, prototype_at, prototype_in, prototypes_in, room_for_prototype}
use Rattle.definition_format.specs.Denoted.SessionLimits.{limits_in}
use Rattle.definition_format.specs.Denoted.Shapes.{is_shaped_by}
use Rattle.definition_format.specs.Document.{at_entry, document, each, entries_at, members_at, only_at, text_at, under}
use Rattle.definition_format.specs.Meaning.{plain_place}
use Rattle.definition_format.specs.declared.faults.DefinitionLimit.TheVariants.{Objects, Places}
use Rattle.definition_format.specs.Refusals.{limit, not_json, not_utf8, or_refused, too_long}
use Rattle.definition_format.proofs.Soundness.{OnRead}
use Rattle.law_reading.proofs.Parts.{more_on, on_read}
use Rattle.law_reading.specs.Lengths.{DenotedAreShort, HasShortLists}
use Rattle.law_reading.proofs.PartProofs.{AreNarrow, each_adds, each_keeps, entries_narrow, if_some}
use Rattle.law_reading.proofs.WidthProofs.{count, read_within, width}

abbrev signals_of : List Place → ℕ
signals_of places = total (λ (p : Place). length p.signals) places

total_push : {A : Type 0} (f : A → ℕ) (xs ys : List A) → total f (xs ++ ys) ≡ total f xs + total f ys
total_push f [] ys = omega arith
total_push f (x ∷ xs) ys = let rest = total_push f xs ys in omega (arith, rest)

past_is : (m n : ℕ) → nat_le m n ≡ false → n < m
past_is m n h = grind (arith, nat_tests)

most_is : (m n : ℕ) → nat_lt m n ≡ false → n ≤ m
most_is m n h = grind (arith, nat_tests)

-- ** signals

one_attached : (path : List ℕ) (programs : List Program) (names : ObjectNames) (signals : List Attached) (d : Data)
    → OnRead (λ more. length more ≤ length signals + 1) (attached_at path programs names signals d)
unfolding attached_at
one_attached path programs names signals d =
    on_read _ (attached_in path programs names d) _ λ signal is. (let one = length-append signals (signal ∷ []) in omega (arith, one))

attached_few : (n : ℕ) (path : List ℕ) (programs : List Program) (names : ObjectNames) (d : Data) → width d ≤ suc n → OnRead (λ signals. length signals ≤ n) (all_attached path programs names d)
unfolding all_attached
attached_few n path programs names d narrow =
    if_some _ (entries_at path d (codes "signals")) _ (AreNarrow n) (entries_narrow n path (codes "signals") d narrow) λ list are.
    more_on (λ (signals : List Attached). length signals ≤ 0 + count list) (λ signals. length signals ≤ n) _ (λ signals few. let most = are.few in omega (arith, few, most))
    (each_adds (λ (signals : List Attached). length signals) (at_entry (λ entry. attached_at entry programs names) (under path (codes "signals"))) (λ i s e. one_attached _ programs names s e) 0 [] list)

-- ** bindings

module _ (path : List ℕ) (target : Target) where
  abbrev MayBind : Filled → Filled → Type 0
  MayBind filled more = length more.bindings ≤ length filled.bindings + 1

  value_binds : (property : Property) (filled : Filled) (v bind : Option Data) → OnRead (MayBind filled) (value_or_bind path target property filled v bind)
  unfolding valued_at bound_at
  value_binds property filled (Some d) bind =
      on_read _ (given_by (under path (codes "value")) target.types target.objects property.spec.kind d (reference property.spec.kind (as_str d))) _ λ v is.
      on_read _ (unbound (under path (codes "bind")) bind) _ λ u is. omega arith
  value_binds property filled None None = tt
  value_binds property filled None (Some d) =
      on_read _ (bind_at (under path (codes "bind")) target property (length filled.slots) filled.bindings d) _ λ bind is.
      (let one = length-append filled.bindings (bind ∷ []) in omega (arith, one))

  one_bound : (filled : Filled) (d : Data) → OnRead (MayBind filled) (filled_at path target filled d)
  unfolding filled_at
  one_bound filled d =
      on_read _ (members_at path d) _ λ members is.
      on_read _ (in_time path target.place target.objects d (spec_ahead (target.specs target.class) d)) _ λ early is.
      on_read _ (text_at path d (codes "name")) _ λ name is.
      on_read _ (property_named (under path (codes "name")) (target.specs target.class) name) _ λ property is.
      on_read _ (unless_named (under path (codes "name")) filled.slots property.slot) _ λ once is.
      on_read _ (takes_value (under path (codes "name")) (get (codes "value") d) property.spec) _ λ writable is.
      if_some _ (value_or_bind path target property filled (get (codes "value") d) (get (codes "bind") d)) _ (MayBind filled) (value_binds property filled _ _) λ more one.
      on_read _ (only_at path members keys_of_given) _ λ only is. one

bound_few : (n : ℕ) (path : List ℕ) (target : Target) (d : Data) (bindings : List Bind) → width d ≤ suc n
    → OnRead (λ filled. length filled.bindings ≤ length bindings + n) (all_filled path target bindings d)
unfolding all_filled
bound_few n path target d bindings narrow =
    if_some _ (entries_at path d (codes "properties")) _ (AreNarrow n) (entries_narrow n path (codes "properties") d narrow) λ list are.
    more_on (λ (filled : Filled). length filled.bindings ≤ length bindings + count list) _ _ (λ filled few. let most = are.few in omega (arith, few, most))
    (each_adds (λ (filled : Filled). length filled.bindings) (at_entry (λ entry. filled_at entry target) (under path (codes "properties"))) (λ i s e. one_bound _ target s e) 0 (unfilled bindings) list)

-- ** objects

-- objects that are few, with so many signals and bindings for each
record AreShort (built : Built) : Type 0 where
  few : length built.places ≤ 512
  signals : signals_of built.places ≤ length built.places * 4194304
  bindings : length built.bindings ≤ length built.places * 4194304

room_left : (most : ℕ) (prototypes places : List Place) → OnRead (λ u. length places + 1 ≤ 512) (room_for_object most prototypes places)
room_left most prototypes places = by (nat_le 512 (length places + length prototypes)) refl
  where
    later : length places + 1 ≤ 512 → (c : Bool) → OnRead (λ u. length places + 1 ≤ 512) (if c then Err (limit Objects) else Ok (tt {0}))
    later few true = tt
    later few false = few

    by : (b : Bool) → nat_le 512 (length places + length prototypes) ≡ b
        → OnRead (λ u. length places + 1 ≤ 512) (if b then Err (limit Places) else (if nat_le most (length places) then Err (limit Objects) else Ok (tt {0})))
    by true is = tt
    by false is = later (let not = past_is 512 (length places + length prototypes) is in omega (arith, not)) (nat_le most (length places))

one_more : (built : Built) (place : Place) (bindings : List Bind) → AreShort built → length built.places + 1 ≤ 512 → length place.signals ≤ 4194304
    → length bindings ≤ length built.bindings + 4194304 → AreShort (with_place built place bindings)
one_more built place bindings short left attached bound =
    let more = length-append built.places (place ∷ []) in
    let all = total_push (λ (p : Place). length p.signals) built.places (place ∷ []) in
    let signals = short.signals in
    let before = short.bindings in
    record {
      few = omega (arith, more, left);
      signals = omega (arith, more, all, signals, attached);
      bindings = omega (arith, more, before, bound);
    }

module _ (path : List ℕ) (scope : Scope) (parent : Option ℕ) (built : Built) (d : Data) (narrow : width d ≤ 4194305) (short : AreShort built) where
  one_placed : OnRead (λ (placed : Placed). AreShort (with_place built placed.place placed.bindings)) (place_at path scope parent built d)
  unfolding place_at
  one_placed =
      if_some _ (room_for_object scope.most scope.prototypes built.places) _ (λ u. length built.places + 1 ≤ 512) (room_left scope.most scope.prototypes built.places) λ room left.
      on_read _ (text_at path d (codes "id")) _ λ id is.
      on_read _ (new_id (under path (codes "id")) (built.places ++ scope.prototypes) id) _ λ new is.
      on_read _ (class_at_key path scope.types d) _ λ class is.
      on_read _ (peer_or (under path (codes "peer")) (scope.has_shape class) (peers_of scope.prototypes ++ peers_of built.places) (get (codes "peer") d)) _ λ peers is.
      if_some _ (all_filled path (target_in scope (length built.places) class) built.bindings d) _ (λ (filled : Filled). length filled.bindings ≤ length built.bindings + 4194304)
      (bound_few 4194304 path (target_in scope (length built.places) class) d built.bindings narrow) λ filled bound.
      if_some _ (all_attached path scope.programs scope.names d) _ (λ (signals : List Attached). length signals ≤ 4194304) (attached_few 4194304 path scope.programs scope.names d narrow)
      λ signals attached. one_more built (plain_place id class parent peers filled.given signals) filled.bindings short left attached bound

  one_added : OnRead AreShort (added_at path scope parent built d)
  unfolding added_at
  one_added =
      if_some AreShort (place_at path scope parent built d) _ (λ (placed : Placed). AreShort (with_place built placed.place placed.bindings)) one_placed λ placed more. more

object_short : (levels : ℕ) (scope : Scope) (parent : Option ℕ) (path : List ℕ) (built : Built) (d : Data) → width d ≤ 4194305 → AreShort built → OnRead AreShort (object_at levels scope parent path built d)
unfolding object_at
object_short zero scope parent path built d narrow short = tt
object_short (suc levels) scope parent path built d narrow short =
    on_read _ (members_at path d) _ λ members is.
    if_some AreShort (added_at path scope parent built d) _ AreShort (one_added path scope parent built d narrow short) λ more added.
    if_some AreShort (entries_at path d (codes "children")) _ (AreNarrow 4194304) (entries_narrow 4194304 path (codes "children") d narrow) λ list are.
    if_some AreShort (each (at_entry (object_at levels scope (Some (length built.places))) (under path (codes "children"))) 0 more list) _ AreShort
    (each_keeps 4194304 AreShort (at_entry (object_at levels scope (Some (length built.places))) (under path (codes "children")))
    (λ i s e thin kept. object_short levels scope (Some (length built.places)) _ s e thin kept) 0 more list are.narrow added) λ all kept.
    on_read _ (only_at path members keys_of_object) _ λ only is. kept

module _ (types : List GType) (specs : ℕ → List Spec) (has_shape : ℕ → Bool) where
  objects_short : (programs : List Program) (prototypes : List Place) (most : ℕ) (d : Data) → width d ≤ 4194305 → OnRead AreShort (objects_in types specs has_shape programs prototypes most d)
  unfolding objects_in
  objects_short programs prototypes most d narrow =
      if_some AreShort (entries_at [] d (codes "objects")) _ (AreNarrow 4194304) (entries_narrow 4194304 [] (codes "objects") d narrow) λ list are.
      each_keeps 4194304 AreShort (at_entry (object_at most_levels (scope_with types specs has_shape programs prototypes most list) None) (under [] (codes "objects")))
      (λ i s e thin kept. object_short most_levels (scope_with types specs has_shape programs prototypes most list) None _ s e thin kept) 0 no_objects list are.narrow
      (record { few = omega arith; signals = omega arith; bindings = omega arith })

  -- ** prototypes

  -- they have no signals
  silent_one : (path : List ℕ) (prototypes : List Place) (d : Data) → signals_of prototypes ≡ 0 → OnRead (λ (more : List Place). signals_of more ≡ 0) (prototype_at path types specs has_shape prototypes d)
  unfolding prototype_at prototype_in
  silent_one path prototypes d none =
      if_some _ (prototype_in path types specs has_shape prototypes d) _ (λ (p : Place). length p.signals ≡ 0) silent λ prototype no.
      (let all = total_push (λ (p : Place). length p.signals) prototypes (prototype ∷ []) in omega (arith, all, none, no))
    where
      silent : OnRead (λ (p : Place). length p.signals ≡ 0) (prototype_in path types specs has_shape prototypes d)
      silent =
          on_read _ (members_at path d) _ λ members is.
          on_read _ (room_for_prototype prototypes) _ λ room is.
          on_read _ (text_at path d (codes "id")) _ λ id is.
          on_read _ (new_id (under path (codes "id")) prototypes id) _ λ new is.
          on_read _ (class_at_key path types d) _ λ class is.
          on_read _ (all_plain_at path types (specs class) d) _ λ given is.
          on_read _ (peers_or (under path (codes "peers")) (has_shape class) (peers_of prototypes) (get (codes "peers") d)) _ λ peers is.
          on_read _ (only_at path members keys_of_prototype) _ λ only is. refl

  all_silent : (d : Data) → width d ≤ 4194305 → OnRead (λ (prototypes : List Place). signals_of prototypes ≡ 0) (prototypes_in types specs has_shape d)
  unfolding prototypes_in
  all_silent d narrow =
      if_some _ (entries_at [] d (codes "prototypes")) _ (AreNarrow 4194304) (entries_narrow 4194304 [] (codes "prototypes") d narrow) λ list are.
      each_keeps 4194304 (λ (prototypes : List Place). signals_of prototypes ≡ 0) (at_entry (λ path. prototype_at path types specs has_shape) (under [] (codes "prototypes")))
      (λ i s e thin none. silent_one _ s e none) 0 [] list are.narrow refl

-- ** a definition

definition_short : (d : Data) → width d ≤ 4194305 → OnRead HasShortLists (definition_in d)
unfolding definition_in
definition_short d narrow =
    on_read HasShortLists (members_at [] d) _ λ members is.
    on_read HasShortLists (format_of (format_number d)) _ λ format is.
    on_read HasShortLists (limits_in d) _ λ limits is.
    on_read HasShortLists (draft_in d) _ λ draft is.
    on_read HasShortLists (programs_in format draft.types d) _ λ programs is.
    if_some HasShortLists (prototypes_in draft.types (specs_by draft.types draft.own) (is_shaped_by draft.types draft.answers.shaped) d) _ (λ (prototypes : List Place). signals_of prototypes ≡ 0)
    (all_silent draft.types (specs_by draft.types draft.own) (is_shaped_by draft.types draft.answers.shaped) d narrow) λ prototypes none.
    if_some HasShortLists (objects_in draft.types (specs_by draft.types draft.own) (is_shaped_by draft.types draft.answers.shaped) programs prototypes limits.objects d) _ AreShort
    (objects_short draft.types (specs_by draft.types draft.own) (is_shaped_by draft.types draft.answers.shaped) programs prototypes limits.objects d narrow) λ objects short.
    on_read HasShortLists (only_at [] members keys_of_definition) _ λ only is.
    (let all = total_push (λ (p : Place). length p.signals) objects.places prototypes in
    let few = short.few in
    let signals = short.signals in
    let bindings = short.bindings in
    record { signals = omega (arith, all, none, few, signals); bindings = omega (arith, few, bindings) })

-- a document is read of a text that is not too long
document_narrow : (bytes : List ℕ) → OnRead (λ (d : Data). width d ≤ 4194305) (document bytes)
unfolding document
document_narrow bytes = by (nat_lt most_definition_bytes (length bytes)) refl
  where
    value_narrow : length bytes ≤ 4194304 → (o : Option Data) → read bytes ≡ o → OnRead (λ (d : Data). width d ≤ 4194305) (or_refused not_json o)
    value_narrow few None is = tt
    value_narrow few (Some d) is = let narrow = read_within bytes d is in omega (arith, few, narrow)

    later : length bytes ≤ 4194304 → (b : Bool) → OnRead (λ (d : Data). width d ≤ 4194305) (if b then or_refused not_json (read bytes) else Err not_utf8)
    later few true = value_narrow few (read bytes) refl
    later few false = tt

    by : (b : Bool) → nat_lt most_definition_bytes (length bytes) ≡ b
        → OnRead (λ (d : Data). width d ≤ 4194305) (if b then Err too_long else (if is_utf8 bytes then or_refused not_json (read bytes) else Err not_utf8))
    by true is = tt
    by false is = later (let not = most_is most_definition_bytes (length bytes) is in omega (arith, not)) (is_utf8 bytes)

bytes_short : (bytes : List ℕ) → OnRead HasShortLists (denoted bytes)
unfolding denoted
bytes_short bytes = if_some HasShortLists (document bytes) definition_in (λ (d : Data). width d ≤ 4194305) (document_narrow bytes) definition_short

pub denoted_are_short : DenotedAreShort
denoted_are_short d from = subst (OnRead HasShortLists) from.is (bytes_short from.bytes)
