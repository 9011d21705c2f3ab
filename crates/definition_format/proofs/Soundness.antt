-- All properties of a definition that was read are plain.
use Rattle.std.proofs.Common.{◌≡◌, ◌≤◌, ◌<◌, ℕ, codes, zero, suc, ◌+◌, ℤ, ◌≤ℤ◌, int_lt, Bool, true, false, cond, option_map, not, ◌&&◌, nat_eq, nat_le, arith, map, if◌then◌else◌, List, [], ◌∷◌, ◌++◌, length, reverse, slice_get, Option, Some, None, IfSome, Result, Ok, Err, refl, sym, ap, ◌∙◌, subst}
use Rattle.std.specs.List.{flat_map, AllByRecursion}
use Rattle.std.proofs.lemmas.List.{length_push, length-map}
use Rattle.std.proofs.lemmas.Bool.Decides.{nat_tests}
use Rattle.ui_machine.specs.Definition.Places.{Place}
use Rattle.ui_machine.specs.Definition.Programs.{Program}
use Rattle.serde_json.specs.Data.{Data, Items, no_items, item}
use Rattle.ui_machine.specs.Definition.Types.{GType}
use Rattle.ui_machine.specs.Definition.Types as sorts
use Rattle.type_tree.specs.Adding.{find_type, sort_of, of_sort}
use Rattle.type_tree.specs.Entry.{class_type, interface_type}
use Rattle.ui_machine.specs.Definition.Kinds.{Kind}
use Rattle.ui_machine.specs.Definition.Values.{Value}
use Rattle.ui_machine.specs.Definition.Values as values
use Rattle.ui_machine.specs.Definition.Properties.{Spec}
use Rattle.ui_machine.specs.Definition.Signals.{ClassHandler, Shape, Signal}
use Rattle.ui_machine.specs.Seq.{read}
use Rattle.ui_machine.specs.Words.{notify}
use Rattle.signal_core.specs.Sources.{declared_of, sources_of}
use Rattle.signal_core.specs.Sources as declared
use Rattle.signal_core.specs.Table.{Declared, canonical_signal, named_of}
use Rattle.std.specs.Str.{bytes_eq}
use Rattle.ui_machine.specs.Definition.Kinds as kinds
use Rattle.ui_machine.specs.Rules.Ancestry.{lineage}
use Rattle.ui_machine.specs.Rules.Validation.{is_valid}
use Rattle.serde_json.specs.Find.{get, as_str}
use Rattle.g_values.specs.View.{is_whole_kind}
use Rattle.g_values.specs.Reading.{whole_number, number_between}
use Rattle.g_values.specs.declared.error.JsonFault.TheVariants.{OutOfRange}
use Rattle.std.proofs.lemmas.Int.{ints}
use Rattle.param_specs.specs.declared.error.SpecFault.{SpecFault}
use Rattle.param_specs.specs.declared.error.SpecFault.TheVariants.{DefaultInvalid}
use Rattle.param_specs.specs.Table.{own_of, specs_of, install_fault, canonical_spec}
use Rattle.definition_format.specs.Meaning.{Parts, Prototype, plain_object, plain_prototype, plain_program, plain_shape, IsPlain, IsPlainKind, AreLimits, ArePlain, IsKnownKind, HasKnownKinds, HaveKnownKinds, HasOwnName, IsSound, IsSoundProgram}
use Rattle.definition_format.specs.Refusals.{Refusal, shape, unknown, not_installed, limit, or_refused, or_value_fault}
use Rattle.definition_format.specs.declared.faults.DefinitionLimit.TheVariants.{Places, Objects}
use Rattle.ui_machine.specs.Outcome.{◌>>=◌}
use Rattle.definition_format.specs.Document.{each, at_entry, under, nth, members_at, text_at, entries_at, listed_ahead, only_at}
use Rattle.definition_format.specs.Denoted.Entries.{TypeNames, type_names, most_levels, ProgramNames, program_names}
use Rattle.definition_format.specs.Denoted.Kinds.{is_enum, is_flags, enum_named, flags_named, parted, object_type, kind_by, kind_at, lowest, highest}
use Rattle.definition_format.specs.Denoted.PropertyFlags.{flags_at}
use Rattle.definition_format.specs.Denoted.Ranges.{Range, whole_range, end_given, end_or, check_filled, range_at}
use Rattle.definition_format.specs.Denoted.Defaults.{default_at, check_default, check_unranged}
use Rattle.definition_format.specs.Denoted.Properties.{specs_by, inherited_by, property_spec, room_for_property, new_property, weak_at, keys_of_property, valued_at, spec_at, add_own, installed_or, installed, property_at}
use Rattle.definition_format.specs.Denoted.Types.{room_for_type, new_type_name}
use Rattle.definition_format.specs.Denoted.Signals.{signals_by, count_by, param_at, params_at, some_kind, result_called, result_or, result_at, accumulator_at, room_for_signal, new_signal, keys_of_signal, signal_of_entry, add_signal, signal_at, signals_at}
use Rattle.definition_format.specs.Denoted.Signals as signals
use Rattle.definition_format.specs.Denoted.Drafts.{Answers, ClassDraft, Draft, draft_of, class_draft_of, bare_draft, no_answers, with_answers, unanswered, properties_at, given_at, type_at}
use Rattle.definition_format.specs.Denoted.ClassHandlers.{class_handler_in, add_handler, class_handler_at, class_handlers_at}
use Rattle.definition_format.specs.Denoted.Constructed.{add_program, constructed_at}
use Rattle.definition_format.specs.Denoted.Implements.{implements_at}
use Rattle.definition_format.specs.Denoted.Interfaces.{requires_at, interface_type_at, keys_of_interface, interface_at}
use Rattle.definition_format.specs.Denoted.Classes.{parent_at, parent_ahead, check_depth, keys_of_class, declared_at, answers_at, answering_at, class_at}
use Rattle.definition_format.specs.Denoted.Classes as classes
use Rattle.definition_format.specs.Denoted.Objects.{Scope, Built, Placed, built_view, no_objects, with_place, room_for_object, keys_of_object, place_at, added_at, object_at}
use Rattle.definition_format.specs.Denoted.Prototypes.{room_for_prototype, prototype_in, prototype_at, prototypes_in}
use Rattle.definition_format.specs.Denoted.Shapes.{is_shaped_by, named_shape_or, shaped_at, shapes_in}
use Rattle.definition_format.specs.Denoted.{enums_in, flags_in, interfaces_in, classes_in, draft_in, scope_with, objects_in}
use Rattle.definition_format.proofs.Elements.{both_all, flat_all, all_get, all_map}
use Rattle.definition_format.proofs.Installing.{specs_of-is}
use Rattle.definition_format.proofs.LaterTypes.{plain_later, known_later}

-- what is so of what was read, if it was
abbrev pub OnRead : {A : Type 0} → (A → Type 0) → Result A Refusal → Type 0
OnRead P (Ok x) = P x
OnRead P (Err e) = Unit {0}

pub on_bind : {A B : Type 0} (Q : A → Type 0) (P : B → Type 0) (r : Result A Refusal) (f : A → Result B Refusal) → OnRead Q r → ((x : A) → Q x → OnRead P (f x)) → OnRead P (r >>= f)
on_bind Q P (Ok x) f q h = h x q
on_bind Q P (Err e) f q h = tt

pub on_all : {A : Type 0} (r : Result A Refusal) → OnRead (λ x. Unit {0}) r
on_all (Ok x) = tt
on_all (Err e) = tt

on_known : {A : Type 0} (P : Type 0) → P → (r : Result A Refusal) → OnRead (λ x. P) r
on_known P p (Ok x) = p
on_known P p (Err e) = tt

pub on_each : {S : Type 0} (P : S → Type 0) (step : ℕ → S → Data → Result S Refusal) → ((i : ℕ) (s : S) (d : Data) → P s → OnRead P (step i s d))
    → (i : ℕ) (s : S) (ds : Items) → P s → OnRead P (each step i s ds)
unfolding each
on_each P step keeps i s no_items p = p
on_each P step keeps i s (item d ds) p = on_bind P P (step i s d) (λ t. each step (i + 1) t ds) (keeps i s d p) (λ t q. on_each P step keeps (i + 1) t ds q)

abbrev pub AllPlain : List GType → List Spec → Type 0
AllPlain types [] = Unit {0}
AllPlain types (s ∷ ss) = IsPlain types s × AllPlain types ss

pub plain_append : (types : List GType) (xs ys : List Spec) → AllPlain types xs → AllPlain types ys → AllPlain types (xs ++ ys)
plain_append types [] ys p q = q
plain_append types (x ∷ xs) ys p q = (p.0, plain_append types xs ys p.1 q)

pub plain_flat : (types : List GType) (own : ℕ → List Spec) → ((t : ℕ) → AllPlain types (own t)) → (ts : List ℕ) → AllPlain types (flat_map own ts)
plain_flat types own p [] = tt
plain_flat types own p (t ∷ ts) = plain_append types (own t) (flat_map own ts) (p t) (plain_flat types own p ts)

pub plain_get : (types : List GType) (ss : List Spec) (i : ℕ) (s : Spec) → AllPlain types ss → slice_get ss i ≡ Some s → IsPlain types s
plain_get types [] i s p h = absurd (cc)
plain_get types (x ∷ ss) zero s p h = let e : x ≡ s = cc in subst (IsPlain types) e p.0
plain_get types (x ∷ ss) (suc i) s p h = plain_get types ss i s p.1 h

-- ** what is read

named_open : (types : List GType) (r : Refusal) (u v w x y z : Bool)
    → OnRead (IsKnownKind types) (or_refused r
    (if u then Some kinds.bool else (if v then Some (kinds.whole kinds.int) else (if w then Some (kinds.whole kinds.uint) else
    (if x then Some (kinds.whole kinds.int64) else (if y then Some (kinds.whole kinds.uint64) else (if z then Some kinds.text else None)))))))
named_open types r true v w x y z = tt
named_open types r false true w x y z = tt
named_open types r false false true x y z = tt
named_open types r false false false true y z = tt
named_open types r false false false false true z = tt
named_open types r false false false false false true = tt
named_open types r false false false false false false = tt

of_enum : (types : List GType) (r : Refusal) (found : Option ℕ) → OnRead (IsKnownKind types) (or_refused r (option_map kinds.enum (of_sort is_enum types found)))
of_enum types r None = tt
of_enum types r (Some t) = by (sort_of types t) refl
  where
    by : (s : sorts.Sort) → sort_of types t ≡ s → OnRead (IsKnownKind types) (or_refused r (option_map kinds.enum (cond (is_enum s) (Some t) None)))
    by sorts.class e = tt
    by sorts.interface e = tt
    by sorts.enum e = e
    by sorts.flags e = tt

of_flags : (types : List GType) (r : Refusal) (found : Option ℕ) → OnRead (IsKnownKind types) (or_refused r (option_map kinds.flags (of_sort is_flags types found)))
of_flags types r None = tt
of_flags types r (Some t) = by (sort_of types t) refl
  where
    by : (s : sorts.Sort) → sort_of types t ≡ s → OnRead (IsKnownKind types) (or_refused r (option_map kinds.flags (cond (is_flags s) (Some t) None)))
    by sorts.class e = tt
    by sorts.interface e = tt
    by sorts.enum e = tt
    by sorts.flags e = e

of_object : (types : List GType) (r : Refusal) (found : Option ℕ) → OnRead (IsKnownKind types) (or_refused r (option_map kinds.object found))
of_object types r None = tt
of_object types r (Some t) = tt

typed_open : (path : List ℕ) (types : List GType) (names : TypeNames) (name : List ℕ) (e f o : Bool)
    → OnRead (IsKnownKind types) (if e then or_refused (unknown path name) (option_map kinds.enum (enum_named types name)) else
    (if f then or_refused (unknown path name) (option_map kinds.flags (flags_named types name)) else
    (if o then or_refused (unknown path name) (option_map kinds.object (object_type types names name)) else Err (shape path))))
typed_open path types names name true f o = of_enum types (unknown path name) (find_type types name)
typed_open path types names name false true o = of_flags types (unknown path name) (find_type types name)
typed_open path types names name false false true = of_object types (unknown path name) (object_type types names name)
typed_open path types names name false false false = tt

word_open : (path : List ℕ) (types : List GType) (names : TypeNames) (word : List ℕ) (parts : Option (List ℕ × List ℕ)) → OnRead (IsKnownKind types) (kind_by path types names word parts)
word_open path types names word None =
    named_open types _ (bytes_eq word (codes "bool")) (bytes_eq word (codes "int")) (bytes_eq word (codes "uint"))
    (bytes_eq word (codes "int64")) (bytes_eq word (codes "uint64")) (bytes_eq word (codes "text"))
word_open path types names word (Some parts) =
    typed_open path types names parts.1 (bytes_eq parts.0 (codes "enum")) (bytes_eq parts.0 (codes "flags")) (bytes_eq parts.0 (codes "object"))

pub kind_open : (path : List ℕ) (types : List GType) (names : TypeNames) (d : Data) → OnRead (IsKnownKind types) (kind_at path types names d)
kind_open path types names d =
    on_bind (λ x. Unit {0}) (IsKnownKind types) (text_at path d (codes "kind")) (λ word. kind_by (under path (codes "kind")) types names word (parted word)) (on_all _)
    λ word u. word_open (under path (codes "kind")) types names word (parted word)

-- ** ranges

-- a number lies within a kind
abbrev pub IsOf : Kind → ℤ → Type 0
IsOf kind n = (lowest kind ≤ℤ n) × (n ≤ℤ highest kind)

own_ends : (kind : Kind) → IsOf kind (lowest kind) × IsOf kind (highest kind)
own_ends kinds.bool = ((omega (arith, ints), omega (arith, ints)), (omega (arith, ints), omega (arith, ints)))
own_ends (kinds.whole kinds.int) = ((omega (arith, ints), omega (arith, ints)), (omega (arith, ints), omega (arith, ints)))
own_ends (kinds.whole kinds.uint) = ((omega (arith, ints), omega (arith, ints)), (omega (arith, ints), omega (arith, ints)))
own_ends (kinds.whole kinds.int64) = ((omega (arith, ints), omega (arith, ints)), (omega (arith, ints), omega (arith, ints)))
own_ends (kinds.whole kinds.uint64) = ((omega (arith, ints), omega (arith, ints)), (omega (arith, ints), omega (arith, ints)))
own_ends kinds.text = ((omega (arith, ints), omega (arith, ints)), (omega (arith, ints), omega (arith, ints)))
own_ends (kinds.enum t) = ((omega (arith, ints), omega (arith, ints)), (omega (arith, ints), omega (arith, ints)))
own_ends (kinds.flags t) = ((omega (arith, ints), omega (arith, ints)), (omega (arith, ints), omega (arith, ints)))
own_ends (kinds.object t) = ((omega (arith, ints), omega (arith, ints)), (omega (arith, ints), omega (arith, ints)))

between_is : (path : List ℕ) (kind : Kind) (n : Option ℤ) → OnRead (IsOf kind) (or_value_fault path (number_between (lowest kind) (highest kind) n))
between_is path kind None = tt
between_is path kind (Some n) = by (int_lt n (lowest kind)) (int_lt (highest kind) n) refl refl
  where
    by : (low high : Bool) → int_lt n (lowest kind) ≡ low → int_lt (highest kind) n ≡ high
        → OnRead (IsOf kind) (or_value_fault path (if not low && not high then Ok n else Err OutOfRange))
    by true high p q = tt
    by false true p q = tt
    by false false p q = (omega (arith, ints, p), omega (arith, ints, q))

given_is : (path : List ℕ) (kind : Kind) (d : Data) → OnRead (IsOf kind) (end_given path kind d)
given_is path kind d = by (is_whole_kind kind)
  where
    by : (b : Bool) → OnRead (IsOf kind) (if b then or_value_fault path (number_between (lowest kind) (highest kind) (whole_number d)) else Err (shape path))
    by true = between_is path kind (whole_number d)
    by false = tt

end_is : (path : List ℕ) (kind : Kind) (own : ℤ) (d : Option Data) → IsOf kind own → OnRead (IsOf kind) (end_or path kind own d)
end_is path kind own None p = p
end_is path kind own (Some d) p = given_is path kind d

abbrev pub IsRangeOf : Kind → Range → Type 0
IsRangeOf kind range = IsOf kind range.low × IsOf kind range.high

range_is : (path : List ℕ) (kind : Kind) (d : Data) → OnRead (IsRangeOf kind) (range_at path kind d)
unfolding range_at
range_is path kind d =
    on_bind (IsOf kind) (IsRangeOf kind) (end_or (under path (codes "min")) kind (lowest kind) (get (codes "min") d)) _ (end_is _ kind (lowest kind) (get (codes "min") d) (own_ends kind).0) λ low l.
    on_bind (IsOf kind) (IsRangeOf kind) (end_or (under path (codes "max")) kind (highest kind) (get (codes "max") d)) _ (end_is _ kind (highest kind) (get (codes "max") d) (own_ends kind).1) λ high h.
    on_bind (λ x. Unit {0}) (IsRangeOf kind) (check_filled (under path (codes "min")) low high) _ (on_all _) λ filled u. (l, h)

-- ** defaults

default_plain : (path : List ℕ) (types : List GType) (s : Spec) → IsPlainKind types s.kind s
    → OnRead (λ u. IsPlain types s) (check_default path types s)
default_plain path types s kind = by (is_valid (λ id. None) types s s.default) refl
  where
    by : (b : Bool) → is_valid (λ id. None) types s s.default ≡ b → OnRead {A = Unit {0}} (λ u. IsPlain types s) (if b then Ok tt else Err (not_installed path DefaultInvalid))
    by true is = record { kind = kind; default = is }
    by false is = tt

whole_within : (types : List GType) (kind : Kind) (s : Spec) → IsKnownKind types kind → IsOf kind s.low → IsOf kind s.high → IsPlainKind types kind s
whole_within types kinds.bool s known low high = tt
whole_within types (kinds.whole k) s known low high = (low.0, low.1, high.0, high.1)
whole_within types kinds.text s known low high = tt
whole_within types (kinds.enum t) s known low high = known
whole_within types (kinds.flags t) s known low high = known
whole_within types (kinds.object t) s known low high = tt

valued_plain : (path : List ℕ) (types : List GType) (name : List ℕ) (kind : Kind) (flags : ℕ) (d : Data) → IsKnownKind types kind → OnRead (IsPlain types) (valued_at path types name kind flags d)
unfolding valued_at
valued_plain path types name kind flags d known =
    on_bind (λ x. Unit {0}) (IsPlain types) (default_at path types kind d) _ (on_all _) λ default u.
    on_bind (λ x. Unit {0}) (IsPlain types)
    (check_unranged (under path (codes "default")) types (property_spec name kind flags default (whole_range kind))) _ (on_all _) λ unranged u.
    on_bind (IsRangeOf kind) (IsPlain types) (range_at path kind d) _ (range_is path kind d) λ range within.
    on_bind (λ u. IsPlain types (property_spec name kind flags default range)) (IsPlain types) (check_default (under path (codes "default")) types (property_spec name kind flags default range)) _
    (default_plain (under path (codes "default")) types (property_spec name kind flags default range) (whole_within types kind (property_spec name kind flags default range) known within.0 within.1))
    λ valid plain. plain

-- a property that is weak or not is as plain as another
weak_plain_kind : (types : List GType) (k : Kind) (s : Spec) (weak : Bool) → IsPlainKind types k s → IsPlainKind types k (record s { weak = weak })
weak_plain_kind types kinds.bool s weak p = p
weak_plain_kind types (kinds.whole k) s weak p = p
weak_plain_kind types kinds.text s weak p = p
weak_plain_kind types (kinds.enum t) s weak p = p
weak_plain_kind types (kinds.flags t) s weak p = p
weak_plain_kind types (kinds.object t) s weak p = p

weak_valid : (types : List GType) (s : Spec) (weak : Bool) (v : Value) → is_valid (λ id. None) types (record s { weak = weak }) v ≡ is_valid (λ id. None) types s v
weak_valid types s weak (values.bool b) = refl
weak_valid types s weak (values.whole k n) = refl
weak_valid types s weak (values.text t) = refl
weak_valid types s weak (values.enum t n) = refl
weak_valid types s weak (values.flags t bits) = refl
weak_valid types s weak (values.object o) = refl

weak_plain : (types : List GType) (s : Spec) (weak : Bool) → IsPlain types s → IsPlain types (record s { weak = weak })
weak_plain types s weak p =
    record { kind = weak_plain_kind types s.kind s weak p.kind; default = weak_valid types s weak s.default ∙ p.default }

spec_plain : (path : List ℕ) (types : List GType) (names : TypeNames) (inherited specs : List Spec) (d : Data) → OnRead (IsPlain types) (spec_at path types names inherited specs d)
unfolding spec_at
spec_plain path types names inherited specs d =
    on_bind (λ x. Unit {0}) (IsPlain types) (members_at path d) _ (on_all _) λ ms u.
    on_bind (λ x. Unit {0}) (IsPlain types) (room_for_property specs) _ (on_all _) λ room u.
    on_bind (λ x. Unit {0}) (IsPlain types) (text_at path d (codes "name")) _ (on_all _) λ name u.
    on_bind (λ x. Unit {0}) (IsPlain types) (new_property (under path (codes "name")) inherited specs name) _ (on_all _) λ new u.
    on_bind (IsKnownKind types) (IsPlain types) (kind_at path types names d) _ (kind_open path types names d) λ kind known.
    on_bind (λ x. Unit {0}) (IsPlain types) (flags_at path d) _ (on_all _) λ flags u.
    on_bind (IsPlain types) (IsPlain types) (valued_at path types name kind flags d) _ (valued_plain path types name kind flags d known) λ spec plain.
    on_bind (λ x. Unit {0}) (IsPlain types) (weak_at path kind d) _ (on_all _) λ weak u.
    on_bind (λ x. Unit {0}) (IsPlain types) (only_at path ms keys_of_property) _ (on_all _) λ only u. weak_plain types spec weak plain

abbrev pub AllOwn : List GType → (ℕ → List Spec) → Type 0
AllOwn types own = (t : ℕ) → AllPlain types (own t)

added_plain : (types : List GType) (own : ℕ → List Spec) (t : ℕ) (s : Spec) → AllOwn types own → IsPlain types s → AllOwn types (add_own own t s)
added_plain types own t s all plain u = by (nat_eq u t)
  where
    by : (b : Bool) → AllPlain types (if b then own u ++ s ∷ [] else own u)
    by true = plain_append types (own u) (s ∷ []) (all u) (plain, tt)
    by false = all u

-- ** a type more

-- a type more than these, behind them
abbrev pub IsOneMore : List GType → List GType → Type 0
IsOneMore types all = (g : GType) × (all ≡ types ++ g ∷ [])

one_more_declared : (path : List ℕ) (first : ℕ) (list : Items) (names : TypeNames) (draft : Draft) (d : Data)
    → OnRead (IsOneMore draft.types) (declared_at path first list names draft d)
unfolding declared_at
one_more_declared path first list names draft d =
    on_bind (λ x. Unit {0}) (IsOneMore draft.types) (room_for_type draft.types) _ (on_all _) λ room u.
    on_bind (λ x. Unit {0}) (IsOneMore draft.types) (check_depth draft.types (parent_ahead draft.types (get (codes "parent") d))) _ (on_all _) λ deep u.
    on_bind (λ x. Unit {0}) (IsOneMore draft.types) (text_at path d (codes "name")) _ (on_all _) λ name u.
    on_bind (λ x. Unit {0}) (IsOneMore draft.types) (new_type_name (under path (codes "name")) first draft.types name) _ (on_all _) λ new u.
    on_bind (λ x. Unit {0}) (IsOneMore draft.types) (parent_at path list draft.types d) _ (on_all _) λ parent u.
    on_bind (λ x. Unit {0}) (IsOneMore draft.types) (classes.flags_at path d) _ (on_all _) λ flags u.
    on_bind (λ x. Unit {0}) (IsOneMore draft.types) (implements_at path names draft parent d) _ (on_all _) λ interfaces u.
    (class_type name parent flags interfaces, refl)

one_more_interface : (path : List ℕ) (first : ℕ) (interfaces classes : Items) (types : List GType) (d : Data) → OnRead (IsOneMore types) (interface_type_at path first interfaces classes types d)
unfolding interface_type_at
one_more_interface path first interfaces classes types d =
    on_bind (λ x. Unit {0}) (IsOneMore types) (room_for_type types) _ (on_all _) λ room u.
    on_bind (λ x. Unit {0}) (IsOneMore types) (text_at path d (codes "name")) _ (on_all _) λ name u.
    on_bind (λ x. Unit {0}) (IsOneMore types) (new_type_name (under path (codes "name")) first types name) _ (on_all _) λ new u.
    on_bind (λ x. Unit {0}) (IsOneMore types) (requires_at path interfaces classes types d) _ (on_all _) λ required u.
    (interface_type name required, refl)

more_within : (types all : List GType) (t : ℕ) → IsOneMore types all → t ≡ length types → t < length all
more_within types all t more at =
    let one = length_push types more.0 in
    let same = ap length more.1 in
    omega (arith, at, one, same)

-- the type that an entry declares is there
pub within_declared : (path : List ℕ) (first : ℕ) (list : Items) (names : TypeNames) (draft : Draft) (d : Data) (all : List GType) (t : ℕ)
    → declared_at path first list names draft d ≡ Ok all → t ≡ length draft.types → t < length all
within_declared path first list names draft d all t e at =
    more_within draft.types all t (subst (OnRead (IsOneMore draft.types)) e (one_more_declared path first list names draft d)) at

pub within_interface : (path : List ℕ) (first : ℕ) (interfaces classes : Items) (types : List GType) (d : Data) (all : List GType) (t : ℕ)
    → interface_type_at path first interfaces classes types d ≡ Ok all → t ≡ length types → t < length all
within_interface path first interfaces classes types d all t e at =
    more_within types all t (subst (OnRead (IsOneMore types)) e (one_more_interface path first interfaces classes types d)) at

plain_longer : (types all : List GType) → IsOneMore types all → (ss : List Spec) → AllPlain types ss → AllPlain all ss
plain_longer types all more [] p = tt
plain_longer types all more (s ∷ ss) p = (subst (λ ts. IsPlain ts s) (sym more.1) (plain_later types more.0 s p.0), plain_longer types all more ss p.1)

installed_plain : (types : List GType) (path : List ℕ) (fault : Option SpecFault) (own : ℕ → List Spec) → AllOwn types own → OnRead (AllOwn types) (installed_or path fault own)
installed_plain types path None own all = all
installed_plain types path (Some cause) own all = tt

canonical_kind : (types : List GType) (k : Kind) (s : Spec) → IsPlainKind types k s → IsPlainKind types k (canonical_spec s)
canonical_kind types kinds.bool s p = p
canonical_kind types (kinds.whole k) s p = p
canonical_kind types kinds.text s p = p
canonical_kind types (kinds.enum t) s p = p
canonical_kind types (kinds.flags t) s p = p
canonical_kind types (kinds.object t) s p = p

property_plain : (path : List ℕ) (types : List GType) (names : TypeNames) (t : ℕ) (own : ℕ → List Spec) (d : Data) → AllOwn types own → OnRead (AllOwn types) (property_at path types names t own d)
unfolding property_at
property_plain path types names t own d all =
    on_bind (IsPlain types) (AllOwn types) (spec_at path types names (inherited_by types own t) (specs_by types own t) d) (λ spec. installed path types t own spec) (spec_plain path types names (inherited_by types own t) (specs_by types own t) d)
    λ spec plain. installed_plain types path (install_fault types (specs_by types own t) spec) (add_own own t (canonical_spec spec)) (added_plain types own t (canonical_spec spec) all (record { kind = canonical_kind types spec.kind spec plain.kind; default = plain.default }))

properties_plain : (path : List ℕ) (types : List GType) (names : TypeNames) (t : ℕ) (own : ℕ → List Spec) (d : Data) → AllOwn types own → OnRead (AllOwn types) (properties_at path types names t own d)
unfolding properties_at
properties_plain path types names t own d all =
    on_bind (λ x. Unit {0}) (AllOwn types) (entries_at path d (codes "properties")) _ (on_all _) λ list u.
    on_each (AllOwn types) (at_entry (λ entry. property_at entry types names t) (under path (codes "properties"))) (λ i own d all. property_plain (nth (under path (codes "properties")) i) types names t own d all) 0 own list all

-- ** signals

-- all signals of a list have known kinds
abbrev pub AllKnown : List GType → List Signal → Type 0
AllKnown types ss = AllByRecursion (HasKnownKinds types) ss

abbrev pub AllSignals : List GType → (ℕ → List Signal) → Type 0
AllSignals types own = (t : ℕ) → AllKnown types (own t)

some_map : {A : Type 0} (P Q : A → Type 0) → ((x : A) → P x → Q x) → (o : Option A) → IfSome o P → IfSome o Q
some_map P Q f None p = tt
some_map P Q f (Some x) p = f x p

param_known : (path : List ℕ) (types : List GType) (names : TypeNames) (ks : List Kind) (d : Data) → AllByRecursion (IsKnownKind types) ks
    → OnRead (AllByRecursion (IsKnownKind types)) (param_at path types names ks d)
unfolding param_at
param_known path types names ks d all =
    on_bind (λ x. Unit {0}) (AllByRecursion (IsKnownKind types)) (or_refused (shape path) (as_str d)) _ (on_all _) λ word u.
    on_bind (IsKnownKind types) (AllByRecursion (IsKnownKind types)) (kind_by path types names word (parted word)) _ (word_open path types names word (parted word)) λ kind known.
    both_all (IsKnownKind types) ks (kind ∷ []) all (known, tt)

params_known : (path : List ℕ) (types : List GType) (names : TypeNames) (d : Data) → OnRead (AllByRecursion (IsKnownKind types)) (params_at path types names d)
unfolding params_at
params_known path types names d =
    on_bind (λ x. Unit {0}) (AllByRecursion (IsKnownKind types)) (entries_at path d (codes "params")) _ (on_all _) λ list u.
    on_each (AllByRecursion (IsKnownKind types)) (at_entry (λ entry. param_at entry types names) (under path (codes "params")))
    (λ i ks e all. param_known (nth (under path (codes "params")) i) types names ks e all) 0 [] list tt

-- the kind of a result, if there is one, is known
abbrev pub IsKnownResult : List GType → Option Kind → Type 0
IsKnownResult types result = IfSome result (IsKnownKind types)

result_known : (path : List ℕ) (types : List GType) (names : TypeNames) (d : Option Data) → OnRead (IsKnownResult types) (result_or path types names d)
unfolding result_called some_kind
result_known path types names None = tt
result_known path types names (Some d) =
    on_bind (λ x. Unit {0}) (IsKnownResult types) (or_refused (shape path) (as_str d)) _ (on_all _) λ word u. by word (bytes_eq word (codes "none"))
  where
    by : (word : List ℕ) (b : Bool) → OnRead (IsKnownResult types) (if b then Ok None else some_kind path types names word)
    by word true = tt
    by word false =
        on_bind (IsKnownKind types) (IsKnownResult types) (kind_by path types names word (parted word)) _ (word_open path types names word (parted word)) λ kind known. known

entry_known : (path : List ℕ) (types : List GType) (names : TypeNames) (t count : ℕ) (has : List Signal) (d : Data)
    → OnRead (HasKnownKinds types) (signal_of_entry path types names t count has d)
unfolding signal_of_entry
entry_known path types names t count has d =
    on_bind (λ x. Unit {0}) (HasKnownKinds types) (members_at path d) _ (on_all _) λ ms u.
    on_bind (λ x. Unit {0}) (HasKnownKinds types) (room_for_signal count) _ (on_all _) λ room u.
    on_bind (λ x. Unit {0}) (HasKnownKinds types) (text_at path d (codes "name")) _ (on_all _) λ name u.
    on_bind (λ x. Unit {0}) (HasKnownKinds types) (new_signal (under path (codes "name")) (sort_of types t) has name) _ (on_all _) λ new u.
    on_bind (AllByRecursion (IsKnownKind types)) (HasKnownKinds types) (params_at path types names d) _ (params_known path types names d) λ params known.
    on_bind (IsKnownResult types) (HasKnownKinds types) (result_at path types names d) _ (result_known (under path (codes "result")) types names (get (codes "result") d)) λ result fine.
    on_bind (λ x. Unit {0}) (HasKnownKinds types) (signals.flags_at path d) _ (on_all _) λ flags u.
    on_bind (λ x. Unit {0}) (HasKnownKinds types) (accumulator_at path result d) _ (on_all _) λ accumulator u.
    on_bind (λ x. Unit {0}) (HasKnownKinds types) (only_at path ms keys_of_signal) _ (on_all _) λ only u. record { params = known; result = fine }

added_known : (types : List GType) (own : ℕ → List Signal) (t : ℕ) (s : Signal) → AllSignals types own → HasKnownKinds types s → AllSignals types (add_signal own t s)
added_known types own t s all known u = by (nat_eq u t)
  where
    by : (b : Bool) → AllKnown types (if b then own u ++ s ∷ [] else own u)
    by true = both_all (HasKnownKinds types) (own u) (s ∷ []) (all u) (known, tt)
    by false = all u

signal_known : (path : List ℕ) (types : List GType) (names : TypeNames) (t : ℕ) (own : ℕ → List Signal) (d : Data) → AllSignals types own → OnRead (AllSignals types) (signal_at path types names t own d)
unfolding signal_at
signal_known path types names t own d all =
    on_bind (HasKnownKinds types) (AllSignals types) (signal_of_entry path types names t (count_by types own t) (signals_by types own t) d) _
    (entry_known path types names t (count_by types own t) (signals_by types own t) d)
    λ s known. added_known types own t (canonical_signal s) all (record { params = known.params; result = known.result })

signals_known : (path : List ℕ) (types : List GType) (names : TypeNames) (t : ℕ) (own : ℕ → List Signal) (d : Data) → AllSignals types own → OnRead (AllSignals types) (signals_at path types names t own d)
unfolding signals_at
signals_known path types names t own d all =
    on_bind (λ x. Unit {0}) (AllSignals types) (entries_at path d (codes "signals")) _ (on_all _) λ list u.
    on_each (AllSignals types) (at_entry (λ entry. signal_at entry types names t) (under path (codes "signals"))) (λ i own e all. signal_known (nth (under path (codes "signals")) i) types names t own e all) 0 own list all

signal_later : (types all : List GType) → IsOneMore types all → (s : Signal) → HasKnownKinds types s → HasKnownKinds all s
signal_later types all more s known =
    let later : (k : Kind) → IsKnownKind types k → IsKnownKind all k = λ k h. subst (λ ts. IsKnownKind ts k) (sym more.1) (known_later types more.0 k h) in
    record {
      params = all_map (IsKnownKind types) (IsKnownKind all) later s.params known.params;
      result = some_map (IsKnownKind types) (IsKnownKind all) later s.result known.result;
    }

-- ** drafts

-- what is so of a draft: its properties are plain, and its signals have known kinds
pub record PlainDraft (draft : Draft) : Type 0 where
  pub plain : AllOwn draft.types draft.own
  pub known : AllSignals draft.types draft.signals

-- a plain draft of these types
PlainOf : List GType → Draft → Type 0
PlainOf types draft = PlainDraft draft × (draft.types ≡ types)

given_plain : (path : List ℕ) (types : List GType) (names : TypeNames) (t : ℕ) (own : ℕ → List Spec) (signals : ℕ → List Signal) (d : Data)
    → AllOwn types own → AllSignals types signals → OnRead (PlainOf types) (given_at path types names t own signals d)
unfolding given_at PlainOf
given_plain path types names t own signals d plain known =
    on_bind (AllOwn types) (PlainOf types) (properties_at path types names t own d) _ (properties_plain path types names t own d plain) λ properties p.
    on_bind (AllSignals types) (PlainOf types) (signals_at path types names t signals d) _ (signals_known path types names t signals d known) λ all k.
    (record { plain = p; known = k }, refl)

type_plain : {A : Type 0} (P : A → Type 0) (path : List ℕ) (keys : List (List ℕ)) (declared : Result (List GType) Refusal) (behind : Draft → Result A Refusal) (names : TypeNames) (draft : Draft) (d : Data)
    → OnRead (IsOneMore draft.types) declared → PlainDraft draft → ((given : Draft) → PlainDraft given → IsOneMore draft.types given.types → OnRead P (behind given))
    → OnRead P (type_at path keys declared behind names draft d)
unfolding type_at PlainOf
type_plain P path keys declared behind names draft d one_more all last =
    on_bind (λ x. Unit {0}) P (members_at path d) _ (on_all _) λ ms u.
    on_bind (IsOneMore draft.types) P declared _ one_more λ types more.
    on_bind (PlainOf types) P (given_at path types names (length draft.types) draft.own draft.signals d) _
    (given_plain path types names (length draft.types) draft.own draft.signals d (λ t. plain_longer draft.types types more (draft.own t) (all.plain t))
    (λ t. all_map (HasKnownKinds draft.types) (HasKnownKinds types) (signal_later draft.types types more) (draft.signals t) (all.known t))) λ given plain.
    on_bind P P (behind given) _ (last given plain.0 (more.0, plain.1 ∙ more.1)) λ whole p.
    on_bind (λ x. Unit {0}) P (only_at path ms keys) _ (on_all _) λ only u. p

-- no class handlers are of types from this one on
abbrev pub NoneFrom : ℕ → (ℕ → List ClassHandler) → Type 0
NoneFrom n handlers = (t : ℕ) → n ≤ t → handlers t ≡ []

-- no shapes are of types from this one on
abbrev pub UnshapedFrom : ℕ → (ℕ → Option ℕ) → Type 0
UnshapedFrom n own = (t : ℕ) → n ≤ t → own t ≡ None

-- neither are
pub record ArePast (n : ℕ) (answers : Answers) : Type 0 where
  pub handlers : NoneFrom n answers.handlers
  pub shaped : UnshapedFrom n answers.shaped

-- a plain draft whose types alone have class handlers and shapes
pub record PlainClasses (draft : ClassDraft) : Type 0 where
  pub plain : PlainDraft (unanswered draft)
  pub past : ArePast (length draft.types) draft.answers

unshaped_added : (n t : ℕ) (own : ℕ → Option ℕ) (named : Option ℕ) → t < n → UnshapedFrom n own → UnshapedFrom n (add_program own t named)
unshaped_added n t own None before none u past = none u past
unshaped_added n t own (Some given) before none u past =
    let other : nat_eq u t ≡ false = grind (arith, nat_tests) in
    ap (λ b. if b then Some given else own u) other ∙ none u past

shaped_past : (path : List ℕ) (types : List GType) (shapes : List Shape) (n t : ℕ) (own : ℕ → Option ℕ) (d : Data) → t < n → UnshapedFrom n own
    → OnRead (UnshapedFrom n) (shaped_at path types shapes t own d)
unfolding shaped_at
shaped_past path types shapes n t own d before none =
    on_bind (λ x. Unit {0}) (UnshapedFrom n) (named_shape_or (under path (codes "shape")) shapes (is_shaped_by types own t) (get (codes "shape") d)) _ (on_all _)
    λ named u. unshaped_added n t own named before none

none_added : (n t : ℕ) (own : ℕ → List ClassHandler) (h : ClassHandler) → t < n → NoneFrom n own → NoneFrom n (add_handler own t h)
none_added n t own h before none u past =
    let other : nat_eq u t ≡ false = grind (arith, nat_tests) in
    ap (λ b. if b then own u ++ h ∷ [] else own u) other ∙ none u past

handler_past : (path : List ℕ) (programs : ProgramNames) (n t : ℕ) (own : ℕ → List ClassHandler) (d : Data) → t < n → NoneFrom n own
    → OnRead (NoneFrom n) (class_handler_at path programs t own d)
unfolding class_handler_at
handler_past path programs n t own d before none =
    on_bind (λ x. Unit {0}) (NoneFrom n) (class_handler_in path programs (own t) d) _ (on_all _) λ h u. none_added n t own h before none

handlers_past : (path : List ℕ) (programs : ProgramNames) (n t : ℕ) (own : ℕ → List ClassHandler) (d : Data) → t < n → NoneFrom n own
    → OnRead (NoneFrom n) (class_handlers_at path programs t own d)
unfolding class_handlers_at
handlers_past path programs n t own d before none =
    on_bind (λ x. Unit {0}) (NoneFrom n) (entries_at path d (codes "class-handlers")) _ (on_all _) λ list u.
    on_each (NoneFrom n) (at_entry (λ entry. class_handler_at entry programs t) (under path (codes "class-handlers")))
    (λ i own e none. handler_past (nth (under path (codes "class-handlers")) i) programs n t own e before none) 0 own list none

answers_past : (path : List ℕ) (programs : ProgramNames) (types : List GType) (n t : ℕ) (answers : Answers) (d : Data) → t < n → ArePast n answers
    → OnRead (ArePast n) (answers_at path programs types t answers d)
unfolding answers_at
answers_past path programs types n t answers d before none =
    on_bind (NoneFrom n) (ArePast n) (class_handlers_at path programs t answers.handlers d) _
    (handlers_past path programs n t answers.handlers d before none.handlers) λ handlers past.
    on_bind (λ x. Unit {0}) (ArePast n) (constructed_at path programs t answers.constructed d) _ (on_all _) λ constructed u.
    on_bind (UnshapedFrom n) (ArePast n) (shaped_at path types answers.shapes t answers.shaped d) _
    (shaped_past path types answers.shapes n t answers.shaped d before none.shaped) λ shaped unshaped. record { handlers = past; shaped = unshaped }

answering_plain : (path : List ℕ) (programs : ProgramNames) (draft : ClassDraft) (d : Data) (given : Draft) → PlainDraft given → IsOneMore draft.types given.types
    → ArePast (length draft.types) draft.answers → OnRead PlainClasses (answering_at path programs (length draft.types) draft.answers d given)
unfolding answering_at
answering_plain path programs draft d given plain more none =
    let within = more_within draft.types given.types (length draft.types) more refl in
    on_bind (ArePast (length given.types)) PlainClasses (answers_at path programs given.types (length draft.types) draft.answers d) _
    (answers_past path programs given.types (length given.types) (length draft.types) draft.answers d within
    (record { handlers = λ t h. none.handlers t (omega (arith, within, h)); shaped = λ t h. none.shaped t (omega (arith, within, h)) })) λ all past.
    record { plain = plain; past = past }

class_plain : (path : List ℕ) (first : ℕ) (list : Items) (names : TypeNames) (programs : ProgramNames) (draft : ClassDraft) (d : Data) → PlainClasses draft
    → OnRead PlainClasses (class_at path first list names programs draft d)
class_plain path first list names programs draft d all =
    type_plain PlainClasses path keys_of_class (declared_at path first list names (unanswered draft) d) (answering_at path programs (length draft.types) draft.answers d) names (unanswered draft) d
    (one_more_declared path first list names (unanswered draft) d) all.plain (λ given plain more. answering_plain path programs draft d given plain more all.past)

interface_plain : (path : List ℕ) (first : ℕ) (interfaces classes : Items) (names : TypeNames) (draft : Draft) (d : Data) → PlainDraft draft → OnRead PlainDraft (interface_at path first interfaces classes names draft d)
interface_plain path first interfaces classes names draft d all =
    type_plain PlainDraft path keys_of_interface (interface_type_at path first interfaces classes draft.types d) Ok names draft d
    (one_more_interface path first interfaces classes draft.types d) all (λ given plain more. plain)

interfaces_plain : (names : TypeNames) (types : List GType) (d : Data) → OnRead PlainDraft (interfaces_in names types d)
unfolding interfaces_in
interfaces_plain names types d =
    on_bind (λ x. Unit {0}) PlainDraft (entries_at [] d (codes "interfaces")) _ (on_all _) λ list u.
    on_each PlainDraft (at_entry (λ path. interface_at path (length types) list (listed_ahead (codes "classes") d) names) (under [] (codes "interfaces")))
    (λ i draft e all. interface_plain (nth (under [] (codes "interfaces")) i) (length types) list (listed_ahead (codes "classes") d) names draft e all) 0 (bare_draft types) list (record { plain = λ t. tt; known = λ t. tt })

classes_plain : (names : TypeNames) (programs : ProgramNames) (draft : ClassDraft) (d : Data) → PlainClasses draft → OnRead PlainClasses (classes_in names programs draft d)
unfolding classes_in
classes_plain names programs draft d all =
    on_bind (λ x. Unit {0}) PlainClasses (entries_at [] d (codes "classes")) _ (on_all _) λ list u.
    on_each PlainClasses (at_entry (λ path. class_at path (length draft.types) list names programs) (under [] (codes "classes")))
    (λ i more e plain. class_plain (nth (under [] (codes "classes")) i) (length draft.types) list names programs more e plain) 0 draft list all

pub draft_plain : (d : Data) → OnRead PlainClasses (draft_in d)
unfolding draft_in
draft_plain d =
    on_bind (λ x. Unit {0}) PlainClasses (enums_in d) _ (on_all _) λ enums u.
    on_bind (λ x. Unit {0}) PlainClasses (flags_in enums d) _ (on_all _) λ types u.
    on_bind PlainDraft PlainClasses (interfaces_in (type_names types d) types d) _ (interfaces_plain (type_names types d) types d) λ draft all.
    on_bind (λ x. Unit {0}) PlainClasses (shapes_in d) _ (on_all _) λ shapes u.
    classes_plain (type_names types d) (program_names d) (with_answers draft (no_answers shapes)) d (record { plain = all; past = record { handlers = λ t past. refl; shaped = λ t past. refl } })

-- ** no more prototypes than there is room for

room_left : (prototypes : List Place) → OnRead (λ u. length prototypes < 512) (room_for_prototype prototypes)
room_left prototypes = by (nat_le 512 (length prototypes)) refl
  where
    by : (b : Bool) → nat_le 512 (length prototypes) ≡ b → OnRead {A = Unit {0}} (λ u. length prototypes < 512) (if b then Err (limit Places) else Ok tt)
    by true e = tt
    by false e = grind (arith, nat_tests)

-- not more than there are places
abbrev pub AreWithin : List Place → Type 0
AreWithin prototypes = length prototypes ≤ 512

prototype_room : (path : List ℕ) (types : List GType) (specs : ℕ → List Spec) (has_shape : ℕ → Bool) (prototypes : List Place) (d : Data)
    → OnRead (λ p. length prototypes < 512) (prototype_in path types specs has_shape prototypes d)
unfolding prototype_in
prototype_room path types specs has_shape prototypes d =
    on_bind (λ x. Unit {0}) (λ p. length prototypes < 512) (members_at path d) _ (on_all _) λ ms u.
    on_bind (λ x. length prototypes < 512) (λ p. length prototypes < 512) (room_for_prototype prototypes) _ (room_left prototypes) λ u room.
    on_known (length prototypes < 512) room _

prototype_within : (path : List ℕ) (types : List GType) (specs : ℕ → List Spec) (has_shape : ℕ → Bool) (prototypes : List Place) (d : Data)
    → OnRead AreWithin (prototype_at path types specs has_shape prototypes d)
unfolding prototype_at
prototype_within path types specs has_shape prototypes d =
    on_bind (λ p. length prototypes < 512) AreWithin (prototype_in path types specs has_shape prototypes d) (λ p. Ok (prototypes ++ p ∷ []))
    (prototype_room path types specs has_shape prototypes d) λ p room. let one = length_push prototypes p in omega (arith, one, room)

pub prototypes_within : (types : List GType) (specs : ℕ → List Spec) (has_shape : ℕ → Bool) (d : Data) → OnRead AreWithin (prototypes_in types specs has_shape d)
unfolding prototypes_in
prototypes_within types specs has_shape d =
    on_bind (λ x. Unit {0}) AreWithin (entries_at [] d (codes "prototypes")) _ (on_all _) λ list u.
    on_each AreWithin (at_entry (λ path. prototype_at path types specs has_shape) (under [] (codes "prototypes")))
    (λ i ps entry few. prototype_within (nth (under [] (codes "prototypes")) i) types specs has_shape ps entry) 0 [] list (omega arith)

pub few_prototypes : (types : List GType) (specs : ℕ → List Spec) (has_shape : ℕ → Bool) (d : Data) (ps : List Prototype) → prototypes_in types specs has_shape d ≡ Ok (map plain_prototype ps) → length ps ≤ 512
few_prototypes types specs has_shape d ps read =
    let within : AreWithin (map plain_prototype ps) = subst (OnRead AreWithin) read (prototypes_within types specs has_shape d) in
    omega (arith, within, length-map ps plain_prototype)

-- ** no more objects than there is room for

-- not more than there are places beside these prototypes, and not more than may live
pub record AreFew (most : ℕ) (prototypes places : List Place) : Type 0 where
  pub placed : length places + length prototypes ≤ 512
  pub live : length places ≤ most

-- there is room for one more
record HasRoom (most : ℕ) (prototypes places : List Place) : Type 0 where
  place : length places + length prototypes < 512
  life : length places < most

room_below : (most : ℕ) (prototypes places : List Place) → OnRead (λ u. HasRoom most prototypes places) (room_for_object most prototypes places)
room_below most prototypes places = by (nat_le 512 (length places + length prototypes)) (nat_le most (length places)) refl refl
  where
    by : (b c : Bool) → nat_le 512 (length places + length prototypes) ≡ b → nat_le most (length places) ≡ c
        → OnRead {A = Unit {0}} (λ u. HasRoom most prototypes places) (if b then Err (limit Places) else (if c then Err (limit Objects) else Ok tt))
    by true c e f = tt
    by false true e f = tt
    by false false e f = record { place = grind (arith, nat_tests); life = grind (arith, nat_tests) }

module _ (scope : Scope) where
  abbrev Roomy : Built → Type 0
  Roomy built = HasRoom scope.most scope.prototypes built.places

  abbrev Few : Built → Type 0
  Few built = AreFew scope.most scope.prototypes built.places

  place_few : (parent : Option ℕ) (path : List ℕ) (built : Built) (d : Data) → OnRead (λ placed. Roomy built) (place_at path scope parent built d)
  unfolding place_at
  place_few parent path built d =
      on_bind (λ x. Roomy built) (λ placed. Roomy built) (room_for_object scope.most scope.prototypes built.places) _
      (room_below scope.most scope.prototypes built.places) λ u room.
      on_known (Roomy built) room _

  one_place_more : (built : Built) (placed : Placed) → Roomy built → Few (with_place built placed.place placed.bindings)
  one_place_more built placed room =
      let one = length_push built.places placed.place in
      record { placed = omega (arith, one, room.place); live = omega (arith, one, room.life) }

  added_few : (parent : Option ℕ) (path : List ℕ) (built : Built) (d : Data) → OnRead Few (added_at path scope parent built d)
  unfolding added_at
  added_few parent path built d =
      on_bind (λ placed. Roomy built) Few (place_at path scope parent built d) (λ placed. Ok (with_place built placed.place placed.bindings))
      (place_few parent path built d) λ placed room. one_place_more built placed room

  object_few : (levels : ℕ) (parent : Option ℕ) (path : List ℕ) (built : Built) (d : Data) → OnRead Few (object_at levels scope parent path built d)
  unfolding object_at
  object_few zero parent path built d = tt
  object_few (suc levels) parent path built d =
      on_bind (λ x. Unit {0}) Few (members_at path d) _ (on_all _) λ ms u.
      on_bind Few Few (added_at path scope parent built d) _ (added_few parent path built d) λ more few.
      on_bind (λ x. Unit {0}) Few (entries_at path d (codes "children")) _ (on_all _) λ list u.
      on_bind Few Few (each (at_entry (object_at levels scope (Some (length built.places))) (under path (codes "children"))) 0 more list) _
      (on_each Few (at_entry (object_at levels scope (Some (length built.places))) (under path (codes "children")))
      (λ i others entry fewer. object_few levels (Some (length built.places)) (nth (under path (codes "children")) i) others entry) 0 more list few) λ all fewer.
      on_bind (λ x. Unit {0}) Few (only_at path ms keys_of_object) _ (on_all _) λ only u. fewer

pub objects_few : (types : List GType) (specs : ℕ → List Spec) (has_shape : ℕ → Bool) (programs : List Program) (prototypes : List Place) (most : ℕ) (d : Data) → AreWithin prototypes
    → OnRead (λ built. AreFew most prototypes built.places) (objects_in types specs has_shape programs prototypes most d)
unfolding objects_in
objects_few types specs has_shape programs prototypes most d within =
    on_bind (λ x. Unit {0}) (λ built. AreFew most prototypes built.places) (entries_at [] d (codes "objects")) _ (on_all _) λ list u.
    on_each (λ (built : Built). AreFew most prototypes built.places) (at_entry (object_at most_levels (scope_with types specs has_shape programs prototypes most list) None) (under [] (codes "objects")))
    (λ i others entry fewer. object_few (scope_with types specs has_shape programs prototypes most list) most_levels None (nth (under [] (codes "objects")) i) others entry) 0 no_objects list
    (record { placed = omega (arith, within); live = omega arith })

-- the properties of types that were read are plain
pub plain_read : (types : List GType) (table : List (List Spec)) (declared : Declared) (constructed : List (Option ℕ)) (shapes : List Shape) (shaped : List (Option ℕ)) (d : Data) → draft_in d ≡ Ok (class_draft_of types table declared constructed shapes shaped) → ArePlain types table
plain_read types table declared constructed shapes shaped d read =
    let all : PlainDraft (draft_of types table declared.signals) = (subst (OnRead PlainClasses) read (draft_plain d)).plain in
    record {
      at = λ t slot s h.
          plain_get types (specs_of types table t) slot s
          (subst (AllPlain types) (sym (specs_of-is types table t)) (plain_flat types (own_of table) all.plain (reverse (lineage types t)))) h;
    }

-- the signals of types that were read have known kinds
pub kinds_read : (types : List GType) (table : List (List Spec)) (given : Declared) (constructed : List (Option ℕ)) (shapes : List Shape) (shaped : List (Option ℕ)) (d : Data) → draft_in d ≡ Ok (class_draft_of types table given constructed shapes shaped) → HaveKnownKinds types given.signals
unfolding declared_of
kinds_read types table given constructed shapes shaped d read =
    let all : PlainDraft (draft_of types table given.signals) = (subst (OnRead PlainClasses) read (draft_plain d)).plain in
    record {
      at = λ t number s h.
          all_get (HasKnownKinds types) (notify ∷ flat_map (declared.own_of given.signals) (sources_of types t)) number s
          (record { params = tt; result = tt }, flat_all (HasKnownKinds types) (declared.own_of given.signals) all.known (sources_of types t)) h;
    }

-- types that were read alone have class handlers
handlers_read : (types : List GType) (table : List (List Spec)) (declared : Declared) (constructed : List (Option ℕ)) (shapes : List Shape) (shaped : List (Option ℕ)) (d : Data) → draft_in d ≡ Ok (class_draft_of types table declared constructed shapes shaped)
    → NoneFrom (length types) (named_of declared.handlers)
handlers_read types table declared constructed shapes shaped d read = (subst (OnRead PlainClasses) read (draft_plain d)).past.handlers

-- and shapes
shapes_read : (types : List GType) (table : List (List Spec)) (declared : Declared) (constructed : List (Option ℕ)) (shapes : List Shape) (shaped : List (Option ℕ)) (d : Data) → draft_in d ≡ Ok (class_draft_of types table declared constructed shapes shaped)
    → UnshapedFrom (length types) (read None shaped)
shapes_read types table declared constructed shapes shaped d drafted = (subst (OnRead PlainClasses) drafted (draft_plain d)).past.shaped

-- a definition of what was read
pub sound : (p : Parts) (d : Data) → draft_in d ≡ Ok (class_draft_of p.types p.specs p.declared p.constructed (map plain_shape p.shapes) p.shaped) → AreLimits p.limits
    → prototypes_in p.types (specs_by p.types (own_of p.specs)) (is_shaped_by p.types (read None p.shaped)) d ≡ Ok (map plain_prototype p.prototypes)
    → objects_in p.types (specs_by p.types (own_of p.specs)) (is_shaped_by p.types (read None p.shaped)) (map plain_program p.programs) (map plain_prototype p.prototypes) p.limits.objects d ≡ Ok (built_view p.objects p.bindings)
    → AllByRecursion HasOwnName p.programs → AllByRecursion (IsSoundProgram p.types) p.programs
    → length p.programs ≤ 256 → IsSound p
sound p d drafted within prototypes objects named programs fewer =
    let specs = specs_by p.types (own_of p.specs) in
    let has_shape = is_shaped_by p.types (read None p.shaped) in
    let shapes = map plain_shape p.shapes in
    let made = map plain_prototype p.prototypes in
    let most = p.limits.objects in
    let fit : AreWithin made = subst (OnRead AreWithin) prototypes (prototypes_within p.types specs has_shape d) in
    let few : AreFew most made (map plain_object p.objects) = subst (OnRead (λ (built : Built). AreFew most made built.places)) objects (objects_few p.types specs has_shape (map plain_program p.programs) made most d fit) in
    record {
      plain = plain_read p.types p.specs p.declared p.constructed shapes p.shaped d drafted;
      kinds = kinds_read p.types p.specs p.declared p.constructed shapes p.shaped d drafted;
      limited = within;
      few = omega (arith, few.live, length-map p.objects plain_object);
      places = omega (arith, few.placed, length-map p.objects plain_object, length-map p.prototypes plain_prototype);
      named = named;
      programs = programs;
      few_programs = fewer;
      handlers = handlers_read p.types p.specs p.declared p.constructed shapes p.shaped d drafted;
      shaped = shapes_read p.types p.specs p.declared p.constructed shapes p.shaped d drafted;
    }
