-- The defaults of the properties of types that were read are short.
use Rattle.std.proofs.Common.{ℕ, Bool, true, false, nat_eq, if◌then◌else◌, List, [], ◌∷◌, ◌++◌, length, codes, Option, None, Some, Result, Ok}
use Rattle.std.specs.Prelude.{IfOk}
use Rattle.serde_json.specs.Data.{Data, Items}
use Rattle.serde_json.specs.Find.{get}
use Rattle.ui_machine.specs.Definition.Kinds.{Kind}
use Rattle.ui_machine.specs.Definition.Properties.{Spec}
use Rattle.ui_machine.specs.Definition.Signals.{Signal}
use Rattle.ui_machine.specs.Definition.Types.{GType}
use Rattle.ui_machine.specs.Runs.{IsShort}
use Rattle.g_values.specs.Reading.{json_value}
use Rattle.param_specs.specs.declared.error.SpecFault.{SpecFault}
use Rattle.param_specs.specs.Table.{canonical_spec, install_fault}
use Rattle.definition_format.specs.Refusals.{Refusal}
use Rattle.definition_format.specs.Document.{at_entry, entries_at, listed_ahead, members_at, nth, only_at, text_at, under}
use Rattle.definition_format.specs.Denoted.{classes_in, draft_in, enums_in, flags_in, interfaces_in}
use Rattle.definition_format.specs.Denoted.Classes.{answering_at, answers_at, class_at, declared_at, keys_of_class}
use Rattle.definition_format.specs.Denoted.Defaults.{check_default, check_unranged, default_at, default_or_zero}
use Rattle.definition_format.specs.Denoted.Drafts.{ClassDraft, Draft, bare_draft, given_at, no_answers, properties_at, type_at, unanswered, with_answers}
use Rattle.definition_format.specs.Denoted.Entries.{ProgramNames, TypeNames, program_names, type_names}
use Rattle.definition_format.specs.Denoted.Interfaces.{interface_at, interface_type_at, keys_of_interface}
use Rattle.definition_format.specs.Denoted.Kinds.{kind_at}
use Rattle.definition_format.specs.Denoted.Properties.{add_own, inherited_by, installed_or, keys_of_property, new_property, property_at, property_spec, room_for_property, spec_at, specs_by, valued_at, weak_at}
use Rattle.definition_format.specs.Denoted.PropertyFlags.{flags_at}
use Rattle.definition_format.specs.Denoted.Ranges.{range_at, whole_range}
use Rattle.definition_format.specs.Denoted.Shapes.{shapes_in}
use Rattle.definition_format.specs.Denoted.Signals.{signals_at}
use Rattle.law_typing.specs.Verdict.Accepted.{Each}
use Rattle.law_typing.proofs.Lists.{each_append}
use Rattle.law_steps.proofs.Served.IfOkProofs.{after_each, after_such}
use Rattle.law_short_readings.proofs.ListProofs.{entries_keep}
use Rattle.law_short_readings.proofs.ValueProofs.{value_or_fault, value_short, zero_short}

abbrev pub HasShortDefault : Spec → Type 0
HasShortDefault s = IsShort s.default

-- the properties that each type has of its own
abbrev pub HaveShortDefaults : (ℕ → List Spec) → Type 0
HaveShortDefaults own = (t : ℕ) → Each HasShortDefault (own t)

-- ** a property

default_short : (path : List ℕ) (types : List GType) (kind : Kind) (d : Option Data) → IfOk (default_or_zero path types kind d) IsShort
default_short path types kind None = zero_short types kind
default_short path types kind (Some d) = value_or_fault path (json_value types kind d) (value_short types kind d)

valued_short : (path : List ℕ) (types : List GType) (name : List ℕ) (kind : Kind) (flags : ℕ) (d : Data) → IfOk (valued_at path types name kind flags d) HasShortDefault
unfolding valued_at
valued_short path types name kind flags d =
    after_such (default_at path types kind d) _ IsShort HasShortDefault (default_short (under path (codes "default")) types kind (get (codes "default") d)) λ default short.
    after_each (check_unranged (under path (codes "default")) types (property_spec name kind flags default (whole_range kind))) _ HasShortDefault λ unranged.
    after_each (range_at path kind d) _ HasShortDefault λ range.
    after_each (check_default (under path (codes "default")) types (property_spec name kind flags default range)) _ HasShortDefault λ valid. short

spec_short : (path : List ℕ) (types : List GType) (names : TypeNames) (inherited specs : List Spec) (d : Data) → IfOk (spec_at path types names inherited specs d) HasShortDefault
unfolding spec_at
spec_short path types names inherited specs d =
    after_each (members_at path d) _ HasShortDefault λ members.
    after_each (room_for_property specs) _ HasShortDefault λ room.
    after_each (text_at path d (codes "name")) _ HasShortDefault λ name.
    after_each (new_property (under path (codes "name")) inherited specs name) _ HasShortDefault λ new.
    after_each (kind_at path types names d) _ HasShortDefault λ kind.
    after_each (flags_at path d) _ HasShortDefault λ flags.
    after_such (valued_at path types name kind flags d) _ HasShortDefault HasShortDefault (valued_short path types name kind flags d) λ spec short.
    after_each (weak_at path kind d) _ HasShortDefault λ weak.
    after_each (only_at path members keys_of_property) _ HasShortDefault λ only. short

added_short : (own : ℕ → List Spec) (t : ℕ) (s : Spec) → HaveShortDefaults own → HasShortDefault s → HaveShortDefaults (add_own own t s)
added_short own t s all short u = by (nat_eq u t)
  where
    by : (b : Bool) → Each HasShortDefault (if b then own u ++ s ∷ [] else own u)
    by true = each_append HasShortDefault (own u) (s ∷ []) (all u) (short, tt)
    by false = all u

installed_short : (path : List ℕ) (fault : Option SpecFault) (own : ℕ → List Spec) → HaveShortDefaults own → IfOk (installed_or path fault own) HaveShortDefaults
installed_short path None own all = all
installed_short path (Some cause) own all = tt

property_short : (path : List ℕ) (types : List GType) (names : TypeNames) (t : ℕ) (own : ℕ → List Spec) (d : Data) → HaveShortDefaults own
    → IfOk (property_at path types names t own d) HaveShortDefaults
unfolding property_at
property_short path types names t own d all =
    after_such (spec_at path types names (inherited_by types own t) (specs_by types own t) d) _ HasShortDefault HaveShortDefaults
    (spec_short path types names (inherited_by types own t) (specs_by types own t) d) λ spec short.
    installed_short path (install_fault types (specs_by types own t) spec) (add_own own t (canonical_spec spec)) (added_short own t (canonical_spec spec) all short)

properties_short : (path : List ℕ) (types : List GType) (names : TypeNames) (t : ℕ) (own : ℕ → List Spec) (d : Data) → HaveShortDefaults own
    → IfOk (properties_at path types names t own d) HaveShortDefaults
unfolding properties_at
properties_short path types names t own d all =
    after_each (entries_at path d (codes "properties")) _ HaveShortDefaults λ list.
    entries_keep HaveShortDefaults (at_entry (λ entry. property_at entry types names t) (under path (codes "properties")))
    (λ i own d all. property_short (nth (under path (codes "properties")) i) types names t own d all) 0 own list all

-- ** types

abbrev IsShortDraft : Draft → Type 0
IsShortDraft draft = HaveShortDefaults draft.own

abbrev pub IsShortClassDraft : ClassDraft → Type 0
IsShortClassDraft draft = HaveShortDefaults draft.own

given_short : (path : List ℕ) (types : List GType) (names : TypeNames) (t : ℕ) (own : ℕ → List Spec) (signals : ℕ → List Signal) (d : Data) → HaveShortDefaults own
    → IfOk (given_at path types names t own signals d) IsShortDraft
unfolding given_at
given_short path types names t own signals d all =
    after_such (properties_at path types names t own d) _ HaveShortDefaults IsShortDraft (properties_short path types names t own d all) λ properties short.
    after_each (signals_at path types names t signals d) _ IsShortDraft λ signals. short

type_short : {A : Type 0} (P : A → Type 0) (path : List ℕ) (keys : List (List ℕ)) (declared : Result (List GType) Refusal) (behind : Draft → Result A Refusal) (names : TypeNames) (draft : Draft) (d : Data)
    → IsShortDraft draft → ((given : Draft) → IsShortDraft given → IfOk (behind given) P) → IfOk (type_at path keys declared behind names draft d) P
unfolding type_at
type_short P path keys declared behind names draft d all last =
    after_each (members_at path d) _ P λ members.
    after_each declared _ P λ types.
    after_such (given_at path types names (length draft.types) draft.own draft.signals d) _ IsShortDraft P
    (given_short path types names (length draft.types) draft.own draft.signals d all) λ given short.
    after_such (behind given) _ P P (last given short) λ whole p.
    after_each (only_at path members keys) _ P λ only. p

interface_short : (path : List ℕ) (first : ℕ) (interfaces classes : Items) (names : TypeNames) (draft : Draft) (d : Data) → IsShortDraft draft
    → IfOk (interface_at path first interfaces classes names draft d) IsShortDraft
interface_short path first interfaces classes names draft d all =
    type_short IsShortDraft path keys_of_interface (interface_type_at path first interfaces classes draft.types d) Ok names draft d all λ given short. short

answering_short : (path : List ℕ) (programs : ProgramNames) (draft : ClassDraft) (d : Data) (given : Draft) → IsShortDraft given
    → IfOk (answering_at path programs (length draft.types) draft.answers d given) IsShortClassDraft
unfolding answering_at
answering_short path programs draft d given all =
    after_each (answers_at path programs given.types (length draft.types) draft.answers d) _ IsShortClassDraft λ answers. all

class_short : (path : List ℕ) (first : ℕ) (list : Items) (names : TypeNames) (programs : ProgramNames) (draft : ClassDraft) (d : Data) → IsShortClassDraft draft
    → IfOk (class_at path first list names programs draft d) IsShortClassDraft
class_short path first list names programs draft d all =
    type_short IsShortClassDraft path keys_of_class (declared_at path first list names (unanswered draft) d) (answering_at path programs (length draft.types) draft.answers d)
    names (unanswered draft) d all λ given short. answering_short path programs draft d given short

interfaces_short : (names : TypeNames) (types : List GType) (d : Data) → IfOk (interfaces_in names types d) IsShortDraft
unfolding interfaces_in
interfaces_short names types d =
    after_each (entries_at [] d (codes "interfaces")) _ IsShortDraft λ list.
    entries_keep IsShortDraft (at_entry (λ path. interface_at path (length types) list (listed_ahead (codes "classes") d) names) (under [] (codes "interfaces")))
    (λ i draft e all. interface_short (nth (under [] (codes "interfaces")) i) (length types) list (listed_ahead (codes "classes") d) names draft e all) 0 (bare_draft types) list (λ t. tt)

classes_short : (names : TypeNames) (programs : ProgramNames) (draft : ClassDraft) (d : Data) → IsShortClassDraft draft → IfOk (classes_in names programs draft d) IsShortClassDraft
unfolding classes_in
classes_short names programs draft d all =
    after_each (entries_at [] d (codes "classes")) _ IsShortClassDraft λ list.
    entries_keep IsShortClassDraft (at_entry (λ path. class_at path (length draft.types) list names programs) (under [] (codes "classes")))
    (λ i more e short. class_short (nth (under [] (codes "classes")) i) (length draft.types) list names programs more e short) 0 draft list all

pub draft_short : (d : Data) → IfOk (draft_in d) IsShortClassDraft
unfolding draft_in
draft_short d =
    after_each (enums_in d) _ IsShortClassDraft λ enums.
    after_each (flags_in enums d) _ IsShortClassDraft λ types.
    after_such (interfaces_in (type_names types d) types d) _ IsShortDraft IsShortClassDraft (interfaces_short (type_names types d) types d) λ interfaces short.
    after_each (shapes_in d) _ IsShortClassDraft λ shapes.
    classes_short (type_names types d) (program_names d) (with_answers interfaces (no_answers shapes)) d short
