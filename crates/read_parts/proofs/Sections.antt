-- The sections of a definition that have types, and the members of these.
use Rattle.std.proofs.Common.{◌≡◌, ◌≤◌, ℕ, List, [], ◌∷◌, codes, length, Option, None, Some, option_and_then, Result, Ok, refl, sym, ap, ◌∙◌, arith}
use Rattle.serde_json.specs.Data.{Data, Items}
use Rattle.serde_json.specs.Find.{get, as_array}
use Rattle.json_trees.specs.declared.value.Value.{Value}
use Rattle.json_trees.specs.View.{items_view}
use Rattle.ui_machine.specs.Outcome.{◌>>=◌}
use Rattle.ui_machine.specs.Definition.Types.{GType, predeclared}
use Rattle.ui_machine.specs.Definition.Properties.{Spec}
use Rattle.ui_machine.specs.Definition.Signals.{ClassHandler, Signal}
use Rattle.definition_format.specs.declared.faults.ReadError.{ReadError}
use Rattle.definition_format.specs.Refusals.{Refusal, Fails, shape, or_refused}
use Rattle.definition_format.specs.Document.{under, listed_ahead, entries_at, each, at_entry}
use Rattle.definition_format.specs.Denoted.Enums.{three_in, some_items, some_entries_at, enum_at, flags_at}
use Rattle.definition_format.specs.Denoted.Entries.{ProgramNames, TypeNames}
use Rattle.definition_format.specs.Denoted.Properties.{property_at}
use Rattle.definition_format.specs.Denoted.Signals.{param_at, params_at, signal_at, signals_at}
use Rattle.definition_format.specs.Denoted.Drafts.{ClassDraft, bare_draft, properties_at}
use Rattle.definition_format.specs.Denoted.Interfaces.{interface_at}
use Rattle.definition_format.specs.Denoted.ClassHandlers.{two_in, class_handler_at, class_handlers_at}
use Rattle.definition_format.specs.Denoted.Classes.{class_at}
use Rattle.definition_format.specs.Denoted.Shapes.{shape_at, shapes_in}
use Rattle.definition_format.specs.Denoted.{enums_in, flags_in, interfaces_in, classes_in}
use Rattle.read_parts.proofs.Chains.{fails_as}

pub not_three : (vs : List Value) → (length vs ≡ 3 → ⊥) → None ≡ three_in (items_view vs)
not_three [] h = refl
not_three (v ∷ []) h = refl
not_three (v ∷ w ∷ []) h = refl
not_three (v ∷ w ∷ x ∷ []) h = absurd (h refl)
not_three (v ∷ w ∷ x ∷ y ∷ vs) h = refl

pub not_two : (vs : List Value) → (length vs ≡ 2 → ⊥) → None ≡ two_in (items_view vs)
not_two [] h = refl
not_two (v ∷ []) h = refl
not_two (v ∷ w ∷ []) h = absurd (h refl)
not_two (v ∷ w ∷ x ∷ vs) h = refl

pub some_there : (path key : List ℕ) (d : Data) (vs : List Value) → Some (items_view vs) ≡ option_and_then as_array (get key d) → 1 ≤ length vs → some_entries_at path d key ≡ Ok (items_view vs)
some_there path key d [] is h = absurd (omega arith)
some_there path key d (v ∷ vs) is h = ap (λ (o : Option Items). or_refused (shape (under path key)) (option_and_then some_items o)) (sym is)

pub enums_fail : (d : Data) (list : Items) (e : ReadError) → entries_at [] d (codes "enums") ≡ Ok list
    → Fails e (each (at_entry (λ path. enum_at path (length predeclared)) (codes "/enums")) 0 predeclared list) → Fails e (enums_in d)
unfolding enums_in
enums_fail d list e read fails =
    fails_as e _ _
    (ap (λ (r : Result Items Refusal). r >>= λ list. each (at_entry (λ path. enum_at path (length predeclared)) (codes "/enums")) 0 predeclared list) read)
    fails

pub flags_fail : (types : List GType) (d : Data) (list : Items) (e : ReadError) → entries_at [] d (codes "flags") ≡ Ok list
    → Fails e (each (at_entry (λ path. flags_at path (length types)) (codes "/flags")) 0 types list) → Fails e (flags_in types d)
unfolding flags_in
flags_fail types d list e read fails =
    fails_as e _ _ (ap (λ (r : Result Items Refusal). r >>= λ list. each (at_entry (λ path. flags_at path (length types)) (codes "/flags")) 0 types list) read) fails

pub interfaces_fail : (names : TypeNames) (types : List GType) (d : Data) (list : Items) (e : ReadError) → entries_at [] d (codes "interfaces") ≡ Ok list
    → Fails e (each (at_entry (λ path. interface_at path (length types) list (listed_ahead (codes "classes") d) names) (codes "/interfaces")) 0 (bare_draft types) list) → Fails e (interfaces_in names types d)
unfolding interfaces_in
interfaces_fail names types d list e read fails =
    fails_as e _ _
    (ap (λ (r : Result Items Refusal). r >>= λ list. each (at_entry (λ path. interface_at path (length types) list (listed_ahead (codes "classes") d) names) (codes "/interfaces")) 0 (bare_draft types) list) read) fails

pub shapes_read_fail : (d : Data) (list : Items) (e : ReadError) → entries_at [] d (codes "shapes") ≡ Ok list
    → Fails e (each (at_entry shape_at (codes "/shapes")) 0 [] list) → Fails e (shapes_in d)
unfolding shapes_in
shapes_read_fail d list e read fails =
    fails_as e _ _ (ap (λ (r : Result Items Refusal). r >>= λ list. each (at_entry shape_at (codes "/shapes")) 0 [] list) read) fails

pub classes_fail : (names : TypeNames) (programs : ProgramNames) (draft : ClassDraft) (d : Data) (list : Items) (e : ReadError) → entries_at [] d (codes "classes") ≡ Ok list
    → Fails e (each (at_entry (λ path. class_at path (length draft.types) list names programs) (codes "/classes")) 0 draft list) → Fails e (classes_in names programs draft d)
unfolding classes_in
classes_fail names programs draft d list e read fails =
    fails_as e _ _
    (ap (λ (r : Result Items Refusal). r >>= λ list. each (at_entry (λ path. class_at path (length draft.types) list names programs) (codes "/classes")) 0 draft list) read) fails

pub properties_read_fail : (path : List ℕ) (types : List GType) (names : TypeNames) (t : ℕ) (own : ℕ → List Spec) (d : Data) (list : Items) (e : ReadError)
    → entries_at path d (codes "properties") ≡ Ok list
    → Fails e (each (at_entry (λ entry. property_at entry types names t) (under path (codes "properties"))) 0 own list)
    → Fails e (properties_at path types names t own d)
unfolding properties_at
properties_read_fail path types names t own d list e read fails =
    fails_as e _ _ (ap (λ (r : Result Items Refusal). r >>= λ list. each (at_entry (λ entry. property_at entry types names t) (under path (codes "properties"))) 0 own list) read) fails

pub signals_read_fail : (path : List ℕ) (types : List GType) (names : TypeNames) (t : ℕ) (own : ℕ → List Signal) (d : Data) (list : Items) (e : ReadError)
    → entries_at path d (codes "signals") ≡ Ok list
    → Fails e (each (at_entry (λ entry. signal_at entry types names t) (under path (codes "signals"))) 0 own list)
    → Fails e (signals_at path types names t own d)
unfolding signals_at
signals_read_fail path types names t own d list e read fails =
    fails_as e _ _ (ap (λ (r : Result Items Refusal). r >>= λ list. each (at_entry (λ entry. signal_at entry types names t) (under path (codes "signals"))) 0 own list) read) fails

pub class_handlers_read_fail : (path : List ℕ) (programs : ProgramNames) (t : ℕ) (own : ℕ → List ClassHandler) (d : Data) (list : Items) (e : ReadError)
    → entries_at path d (codes "class-handlers") ≡ Ok list
    → Fails e (each (at_entry (λ entry. class_handler_at entry programs t) (under path (codes "class-handlers"))) 0 own list)
    → Fails e (class_handlers_at path programs t own d)
unfolding class_handlers_at
class_handlers_read_fail path programs t own d list e read fails =
    fails_as e _ _ (ap (λ (r : Result Items Refusal). r >>= λ list. each (at_entry (λ entry. class_handler_at entry programs t) (under path (codes "class-handlers"))) 0 own list) read) fails

pub params_read_fail : (path : List ℕ) (types : List GType) (names : TypeNames) (d : Data) (list : Items) (e : ReadError)
    → entries_at path d (codes "params") ≡ Ok list
    → Fails e (each (at_entry (λ entry. param_at entry types names) (under path (codes "params"))) 0 [] list)
    → Fails e (params_at path types names d)
unfolding params_at
params_read_fail path types names d list e read fails =
    fails_as e _ _ (ap (λ (r : Result Items Refusal). r >>= λ list. each (at_entry (λ entry. param_at entry types names) (under path (codes "params"))) 0 [] list) read) fails
