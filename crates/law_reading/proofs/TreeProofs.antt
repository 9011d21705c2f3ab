-- The types of a definition that was read are a tree, in which classes implement interfaces.
use Rattle.std.proofs.Common.{◌≡◌, ℕ, zero, suc, ◌+◌, ◌<◌, ◌≤◌, ◌⊎◌, inl, inr, Bool, true, false, cond, not, nat_eq, nat_le, is_some, option_and_then, List, [], ◌∷◌, ◌++◌, length, Option, None, Some, Result, Ok, Err, refl, sym, ap, subst, ◌∙◌, arith, reverse, length-append}
use Rattle.std.specs.Prelude.{codes, if◌then◌else◌}
use Rattle.std.specs.Option.{ForSome, option_or}
use Rattle.std.proofs.lemmas.Bool.{cases_lt}
use Rattle.std.proofs.lemmas.Bool.Decides.{nat_tests}
use Rattle.std.proofs.lemmas.Option.{none-some}
use Rattle.serde_json.specs.Data.{Data, Items, no_items, item}
use Rattle.serde_json.specs.Find.{get, as_str}
use Rattle.ui_machine.specs.Seq.{read}
use Rattle.ui_machine.specs.Definition.Types.{GType, Sort, predeclared}
use Rattle.ui_machine.specs.Definition.Types as sorts
use Rattle.ui_machine.specs.Output.Text.{no_type}
use Rattle.ui_machine.specs.Rules.Ancestry.{parent_of, implemented, implemented_by}
use Rattle.type_tree.specs.Tree.{IsTree}
use Rattle.type_tree.specs.Adding.{find_type, sort_of, is_class, of_sort, class_named, new_enum, new_flags, fault_if, ◌or_else◌}
use Rattle.type_tree.specs.declared.error.TypeFault.TheVariants as faults
use Rattle.type_tree.specs.declared.error.TypeLimit.TheVariants as limits
use Rattle.type_tree.specs.Entry.{class_type, interface_type}
use Rattle.type_tree.specs.declared.entry.TypeFlags.{TypeFlags}
use Rattle.type_tree.specs.declared.error.TypeFault.TheVariants.{BadName, Duplicate}
use Rattle.type_tree.specs.TypeName.{is_type_name}
use Rattle.type_tree.proofs.Entries.{IsTree-append, read-front, read-past, read-last}
use Rattle.definition_format.specs.Causes.{unknown_parent, final_parent, named_cause}
use Rattle.definition_format.specs.Refusals.{Refusal, limit, shape, unknown, duplicate, bad_type, or_refused, refused_if}
use Rattle.definition_format.specs.declared.faults.DefinitionLimit.TheVariants.{Types}
use Rattle.definition_format.specs.Document.{each, at_entry, under, nth, members_at, text_at, entries_at, listed_ahead, only_at}
use Rattle.definition_format.specs.Denoted.Types.{is_declared, is_from, room_for_type, new_type_name}
use Rattle.definition_format.specs.Denoted.Enums.{enum_at, flags_at, enum_member_at, flags_member_at, members_with, keys_of_members}
use Rattle.definition_format.specs.Denoted.Entries.{ProgramNames, TypeNames, program_names, type_names, name_under, names_under, number_from, section}
use Rattle.definition_format.specs.Denoted.Drafts.{Answers, ClassDraft, Draft, bare_draft, no_answers, properties_at, given_at, type_at, unanswered, with_answers}
use Rattle.definition_format.specs.Denoted.Signals.{signals_at}
use Rattle.definition_format.specs.Denoted.Implements.{implements_at}
use Rattle.definition_format.specs.Denoted.Interfaces.{requires_at, interface_type_at, keys_of_interface, interface_at}
use Rattle.definition_format.specs.Denoted.Classes.{parent_found, parent_called, named_parent, parent_or, parent_at, parent_ahead, check_depth, keys_of_class, declared_at, answers_at, answering_at, class_at}
use Rattle.definition_format.specs.Denoted.Classes as classes
use Rattle.definition_format.specs.Denoted.ClassHandlers.{class_handlers_at}
use Rattle.definition_format.specs.Denoted.Constructed.{constructed_at}
use Rattle.definition_format.specs.Denoted.Shapes.{shaped_at, shapes_in}
use Rattle.definition_format.specs.Denoted.{enums_in, flags_in, interfaces_in, classes_in, draft_in}
use Rattle.definition_format.proofs.Soundness.{OnRead, on_bind, on_all, on_each}
use Rattle.std.specs.List.{flat_map, list_any}
use Rattle.ui_machine.specs.Definition.Properties.{Spec}
use Rattle.ui_machine.specs.Definition.Signals.{Signal}
use Rattle.ui_machine.specs.Rules.Ancestry.{lineage}
use Rattle.law_reading.proofs.Ancestors.{AreInterfaces, Implements, specs_before}
use Rattle.law_reading.proofs.ListProofs.{named_within}
use Rattle.law_reading.proofs.OwnSignalProofs.{SignalsRead}
use Rattle.law_reading.proofs.HeirProofs.{AreImplemented, implements_are}
use Rattle.law_reading.proofs.SignalTreeProofs.{Announces, root_announces, class_announces}
use Rattle.signal_core.specs.Sources.{sources_of}
use Rattle.ui_machine.specs.Words.{notify}
use Rattle.law_reading.proofs.MemberProofs.{AreMembers, HasMembers, has_these, enum_members, flags_members}
use Rattle.law_reading.proofs.NameProofs.{AreApart, AreNamed, signal_name}
use Rattle.law_reading.proofs.Parts.{on_read, more_on, section_is, taken}
use Rattle.law_reading.proofs.PassedShapes.{AreShaped, none_shaped, shaped_read, type_more}
use Rattle.law_reading.proofs.PropertyProofs.{OwnRead, OnlyAt, properties_only, properties_read}
use Rattle.law_reading.proofs.ProvidedProofs.{Provides, all_provide}
use Rattle.law_reading.proofs.ReplyKinds.{HaveReplies, all_shapes}
use Rattle.law_reading.proofs.ImplementProofs.{class_provides}
use Rattle.law_reading.proofs.ReadAheadProofs.{read_ahead}
use Rattle.law_reading.proofs.NumberProofs.{on_rest, ClassesLeft, InterfacesLeft, IsNext, is_next, class_left, interface_left, no_interface_left}

pub record Grown (types : List GType) : Type 0 where
  pub tree : IsTree types
  pub heirs : Implements types
  pub members : (t : ℕ) → HasMembers (read no_type types t)

-- a type that may be added
record Fresh (types : List GType) (g : GType) : Type 0 where
  parent : ForSome g.parent (λ p. p < length types)
  root : g.sort ≡ sorts.interface → g.parent ≡ None
  interfaces : AreInterfaces types (implemented g.sort g.interfaces)
  members : HasMembers g

each_type : (P : GType → Type 0) (types : List GType) (g : GType) → ((t : ℕ) → P (read no_type types t)) → P g
    → (t : ℕ) → P (read no_type (types ++ g ∷ []) t)
each_type P [] g all new zero = new
each_type P [] g all new (suc t) = all 0
each_type P (x ∷ xs) g all new zero = all 0
each_type P (x ∷ xs) g all new (suc t) = each_type P xs g (λ u. all (suc u)) new t

-- an interface stays one where a type is added
stays : (types : List GType) (g : GType) (i : ℕ) → sort_of types i ≡ sorts.interface → sort_of (types ++ g ∷ []) i ≡ sorts.interface
stays types g i e = by (cases_lt i (length types))
  where
    by : (i < length types) ⊎ (length types ≤ i) → sort_of (types ++ g ∷ []) i ≡ sorts.interface
    by (inl h) = ap (λ (x : GType). x.sort) (read-front no_type g types i h) ∙ e
    by (inr h) = let other : sorts.class ≡ sorts.interface = sym (ap (λ (x : GType). x.sort) (read-past no_type types i h)) ∙ e in absurd (cc)

stay : (types : List GType) (g : GType) (is : List ℕ) → AreInterfaces types is → AreInterfaces (types ++ g ∷ []) is
stay types g [] all = tt
stay types g (i ∷ is) all = (stays types g i all.0, stay types g is all.1)

one_more : (types : List GType) (g : GType) → Grown types → length types < 256 → Fresh types g → Grown (types ++ g ∷ [])
one_more types g old room new = record {
  tree = IsTree-append types g old.tree room new.parent;
  heirs = record {
    root = each_type (λ (x : GType). x.sort ≡ sorts.interface → x.parent ≡ None) types g old.heirs.root new.root;
    interfaces = each_type (λ (x : GType). AreInterfaces (types ++ g ∷ []) (implemented x.sort x.interfaces)) types g
        (λ t. stay types g (implemented_by types t) (old.heirs.interfaces t)) (stay types g (implemented g.sort g.interfaces) new.interfaces);
  };
  members = each_type HasMembers types g old.members new.members;
}

room_left : (types : List GType) → OnRead (λ u. length types < 256) (room_for_type types)
room_left types = by (nat_le 256 (length types)) refl
  where
    by : (b : Bool) → nat_le 256 (length types) ≡ b
        → OnRead {A = Unit {0}} (λ u. length types < 256) (refused_if (λ fault. limit Types) (fault_if b (faults.Limit limits.Types)))
    by true e = tt
    by false e = grind (arith, nat_tests)

-- ** enums and flags types

plain_fresh : (types : List GType) (g : GType) → g.parent ≡ None → implemented g.sort g.interfaces ≡ [] → HasMembers g → Fresh types g
plain_fresh types g none bare members = record {
  parent = λ p e. absurd (none-some p (sym none ∙ e));
  root = λ e. none;
  interfaces = subst (AreInterfaces types) (sym bare) tt;
  members = members;
}

enum_grown : (path : List ℕ) (first : ℕ) (types : List GType) (d : Data) → Grown types → OnRead Grown (enum_at path first types d)
unfolding enum_at
enum_grown path first types d old =
    on_bind (λ x. Unit {0}) Grown (members_at path d) _ (on_all _) λ ms u.
    on_bind (λ x. length types < 256) Grown (room_for_type types) _ (room_left types) λ r room.
    on_bind (λ x. Unit {0}) Grown (text_at path d (codes "name")) _ (on_all _) λ name u.
    on_bind (λ x. Unit {0}) Grown (new_type_name (under path (codes "name")) first types name) _ (on_all _) λ new u.
    on_bind AreMembers Grown (members_with enum_member_at path d) _ (enum_members path d) λ members all.
    on_bind (λ x. Unit {0}) Grown (only_at path ms keys_of_members) _ (on_all _) λ only u.
    one_more types (new_enum name members) old room (plain_fresh types (new_enum name members) refl refl (has_these (new_enum name members) all))

flags_grown : (path : List ℕ) (first : ℕ) (types : List GType) (d : Data) → Grown types → OnRead Grown (flags_at path first types d)
unfolding flags_at
flags_grown path first types d old =
    on_bind (λ x. Unit {0}) Grown (members_at path d) _ (on_all _) λ ms u.
    on_bind (λ x. length types < 256) Grown (room_for_type types) _ (room_left types) λ r room.
    on_bind (λ x. Unit {0}) Grown (text_at path d (codes "name")) _ (on_all _) λ name u.
    on_bind (λ x. Unit {0}) Grown (new_type_name (under path (codes "name")) first types name) _ (on_all _) λ new u.
    on_bind AreMembers Grown (members_with flags_member_at path d) _ (flags_members path d) λ members all.
    on_bind (λ x. Unit {0}) Grown (only_at path ms keys_of_members) _ (on_all _) λ only u.
    one_more types (new_flags name members) old room (plain_fresh types (new_flags name members) refl refl (has_these (new_flags name members) all))

-- ** classes

-- a class among the types
pub record IsClass (types : List GType) (t : ℕ) : Type 0 where
  pub known : t < length types
  pub sort : sort_of types t ≡ sorts.class

pub class_is : (types : List GType) (name : List ℕ) (found : Option ℕ) → find_type types name ≡ found
    → ForSome (of_sort is_class types found) (IsClass types)
class_is types name None e p h = absurd (none-some p h)
class_is types name (Some t) e p h = by (sort_of types t) refl h
  where
    by : (s : Sort) → sort_of types t ≡ s → cond (is_class s) (Some t) None ≡ Some p → IsClass types p
    by sorts.class is x =
        let same : t ≡ p = cc in
        let there : IsClass types t = record { known = named_within (λ (g : GType). g.name) types name t e; sort = is } in
        subst (IsClass types) same there
    by sorts.interface is x = absurd (none-some p x)
    by sorts.enum is x = absurd (none-some p x)
    by sorts.flags is x = absurd (none-some p x)

parent_found_in : (path : List ℕ) (list : Items) (types : List GType) (name : List ℕ) (found : Option ℕ) → ForSome found (λ p. p < length types)
    → OnRead (λ p. p < length types) (parent_found path list types name found)
parent_found_in path list types name None h = by (is_declared list name)
  where
    by : (b : Bool) → OnRead {A = ℕ} (λ p. p < length types) (if b then Err (bad_type path unknown_parent) else Err (unknown path name))
    by true = tt
    by false = tt
parent_found_in path list types name (Some t) h = by (read no_type types t).is_final
  where
    by : (b : Bool) → OnRead {A = ℕ} (λ p. p < length types) (if b then Err (bad_type path final_parent) else Ok t)
    by true = tt
    by false = h t refl

parent_called_in : (path : List ℕ) (list : Items) (types : List GType) (name : List ℕ) → OnRead (λ p. p < length types) (parent_called path list types name)
parent_called_in path list types name =
    parent_found_in path list types name (class_named types name)
    (λ p e. (class_is types name (find_type types name) refl p e).known)

parent_in : (path : List ℕ) (list : Items) (types : List GType) (d : Option Data) → OnRead (λ p. p < length types) (parent_or path list types d)
unfolding named_parent
parent_in path list types None = parent_called_in path list types (codes "GObject")
parent_in path list types (Some d) =
    on_bind (λ x. Unit {0}) (λ p. p < length types) (or_refused (shape path) (as_str d)) _ (on_all _) λ name u. parent_called_in path list types name

class_fresh : (types : List GType) (name : List ℕ) (parent : ℕ) (flags : TypeFlags) (interfaces : List ℕ) → parent < length types → AreInterfaces types interfaces
    → Fresh types (class_type name parent flags interfaces)
class_fresh types name parent flags interfaces within all = record {
  parent = λ p e. let same : parent ≡ p = cc in omega (arith, same, within);
  root = λ e. let other : sorts.class ≡ sorts.interface = e in absurd (cc);
  interfaces = all;
  members = record { filled = λ e. absurd (cc); few = refl };
}

-- a type more than these
abbrev pub More : List GType → List GType → Type 0
More types all = Grown all × ((g : GType) × (all ≡ types ++ g ∷ []))

-- whatever own properties an entry gives to a type behind these, the type has those of the interfaces that it names
abbrev Offers : List ℕ → TypeNames → Draft → Data → List GType → Type 0
Offers path names draft d all =
    (own : ℕ → List Spec) → properties_at path all names (length draft.types) draft.own d ≡ Ok own → Provides all own (length draft.types)

-- the type behind these has the entry's name and is of this sort
abbrev pub IsCalled : Sort → Data → List GType → List GType → Type 0
IsCalled sort d types all = (g : GType) × (all ≡ types ++ g ∷ []) × (name_under (codes "name") d ≡ Some g.name) × (g.sort ≡ sort)

abbrev pub Declared : Sort → List ℕ → TypeNames → Draft → Data → List GType → Type 0
Declared sort path names draft d all =
    More draft.types all × Offers path names draft d all × IsCalled sort d draft.types all × Announces path names draft d all

unfound : (path : List ℕ) (first : ℕ) (types : List GType) (name : List ℕ) (u : Unit {0}) → new_type_name path first types name ≡ Ok u → find_type types name ≡ None
unfound path first types name u = by (find_type types name) (is_type_name name)
  where
    later : (first t : ℕ) (valid : Bool) (b : Bool) → (if b then Err (duplicate path) else refused_if (λ fault. bad_type path (named_cause types fault))
        (fault_if (not valid) BadName or_else fault_if true Duplicate)) ≡ Ok u → ⊥
    later first t valid true e = cc
    later first t true false e = cc
    later first t false false e = cc

    by : (found : Option ℕ) (valid : Bool)
        → (if is_from first found then Err (duplicate path) else refused_if (λ fault. bad_type path (named_cause types fault))
        (fault_if (not valid) BadName or_else fault_if (is_some found) Duplicate)) ≡ Ok u → found ≡ None
    by None valid e = refl
    by (Some t) valid e = absurd (later first t valid (nat_le first t) e)

declared_grown : (path : List ℕ) (first : ℕ) (list : Items) (names : TypeNames) (draft : Draft) (d : Data) → Grown draft.types
    → OwnRead draft.types draft.own → SignalsRead draft.types draft.signals → IsNext names draft.types d
    → OnRead (Declared sorts.class path names draft d) (declared_at path first list names draft d)
unfolding declared_at
declared_grown path first list names draft d old read signals next =
    on_bind (λ x. length draft.types < 256) (Declared sorts.class path names draft d) (room_for_type draft.types) _ (room_left draft.types) λ r room.
    on_bind (λ x. Unit {0}) (Declared sorts.class path names draft d) (check_depth draft.types (parent_ahead draft.types (get (codes "parent") d))) _ (on_all _) λ deep u.
    on_read (Declared sorts.class path names draft d) (text_at path d (codes "name")) _ λ name called.
    on_read (Declared sorts.class path names draft d) (new_type_name (under path (codes "name")) first draft.types name) _ λ new fresh.
    on_bind (λ p. p < length draft.types) (Declared sorts.class path names draft d) (parent_at path list draft.types d) _
    (parent_in (under path (codes "parent")) list draft.types (get (codes "parent") d)) λ parent within.
    on_bind (λ x. Unit {0}) (Declared sorts.class path names draft d) (classes.flags_at path d) _ (on_all _) λ flags u.
    on_bind (AreImplemented draft old.tree old.heirs signals names parent within path d) (Declared sorts.class path names draft d)
    (implements_at path names draft parent d) _
    (implements_are draft old.tree old.heirs signals names parent within path d) λ interfaces all.
    let g = class_type name parent flags interfaces in
    let more = one_more draft.types g old room (class_fresh draft.types name parent flags interfaces within all.0) in
    let is = taken (shape (under path (codes "name"))) (option_and_then as_str (get (codes "name") d)) name called in
    let number =
    next name is
    (unfound (under path (codes "name")) first draft.types name new fresh) in (
      (more, (g, refl)),
      class_provides draft.types g old.tree more.tree old.heirs draft.own read parent within refl names
          (read_ahead draft.types g refl room names number old.tree draft.own parent) path d interfaces refl all.0 all.1,
      (g, refl, is, refl),
      class_announces draft.types g old.tree more.tree old.heirs draft.signals signals names path d
          parent within refl interfaces all.0 refl all.2,
    )

interface_grown : (path : List ℕ) (first : ℕ) (interfaces classes : Items) (names : TypeNames) (draft : Draft) (d : Data) → Grown draft.types
    → SignalsRead draft.types draft.signals
    → OnRead (Declared sorts.interface path names draft d) (interface_type_at path first interfaces classes draft.types d)
unfolding interface_type_at
interface_grown path first interfaces classes names draft d old signals =
    on_bind (λ x. length draft.types < 256) (Declared sorts.interface path names draft d) (room_for_type draft.types) _ (room_left draft.types) λ r room.
    on_read (Declared sorts.interface path names draft d) (text_at path d (codes "name")) _ λ name called.
    on_bind (λ x. Unit {0}) (Declared sorts.interface path names draft d) (new_type_name (under path (codes "name")) first draft.types name) _ (on_all _) λ new u.
    on_bind (λ x. Unit {0}) (Declared sorts.interface path names draft d) (requires_at path interfaces classes draft.types d) _ (on_all _) λ required u.
    let g = interface_type name required in
    let more = one_more draft.types g old room (plain_fresh draft.types g refl refl (record { filled = λ e. absurd (cc); few = refl })) in (
      (more, (g, refl)),
      (λ own e i named slot s at.
          let none : false ≡ true =
          sym (ap (λ (x : GType). list_any (nat_eq i) (implemented x.sort x.interfaces)) (read-last no_type g draft.types)) ∙ named in absurd (cc)),
      (g, refl, taken (shape (under path (codes "name"))) (option_and_then as_str (get (codes "name") d)) name called, refl),
      root_announces draft.types g old.tree more.tree old.heirs draft.signals signals names path d refl refl,
    )

-- ** properties

longer : (types : List GType) (g : GType) (own : ℕ → List Spec) → IsTree types → IsTree (types ++ g ∷ []) → OwnRead types own
    → OwnRead (types ++ g ∷ []) own
longer types g own tree more old = record {
  kept = old.kept;
  past = λ t h. old.past t (let one = length-append types (g ∷ []) in omega (arith, one, h));
  named = specs_before types g tree more own old.past AreNamed refl old.named;
}

longer_by : (types all : List GType) (own : ℕ → List Spec) → IsTree types → More types all → OwnRead types own → OwnRead all own
longer_by types all own tree more old =
    subst (λ ts. OwnRead ts own) (sym more.1.1) (longer types more.1.0 own tree (subst IsTree more.1.1 more.0.tree) old)

one_longer : (types all : List GType) → More types all → suc (length types) ≡ length all
one_longer types all more = let same = ap length more.1.1 in let one = length-append types (more.1.0 ∷ []) in omega (arith, same, one)

abbrev pub GrownDraft : Draft → Type 0
GrownDraft draft =
    Grown draft.types × OwnRead draft.types draft.own × ((t : ℕ) → Provides draft.types draft.own t)
    × SignalsRead draft.types draft.signals

provides_by : (types all : List GType) (own changed : ℕ → List Spec) → Grown types → OwnRead types own → More types all
    → OnlyAt (length types) own changed → ((t : ℕ) → Provides types own t) → Provides all changed (length types) → (t : ℕ) → Provides all changed t
provides_by types all own changed grown read more same old new =
    subst (λ ts. IsTree ts → Provides ts changed (length types) → (t : ℕ) → Provides ts changed t) (sym more.1.1)
    (λ tree new. all_provide types more.1.0 grown.tree tree grown.heirs own changed read.past same old new) more.0.tree new

-- a draft that is grown, and of whose types this is so
abbrev With : (List GType → Type 0) → Draft → Type 0
With Q draft = GrownDraft draft × Q draft.types

-- what an entry gives to a type: properties, and signals
IsGiven : List ℕ → List GType → TypeNames → ℕ → (ℕ → List Spec) → (ℕ → List Signal) → Data → Draft → Type 0
IsGiven path types names t own signals d given =
    (properties : ℕ → List Spec) × (all : ℕ → List Signal) × (given ≡ record { types = types; own = properties; signals = all })
    × (properties_at path types names t own d ≡ Ok properties) × (signals_at path types names t signals d ≡ Ok all)

given_read : (path : List ℕ) (types : List GType) (names : TypeNames) (t : ℕ) (own : ℕ → List Spec) (signals : ℕ → List Signal) (d : Data)
    → OnRead (IsGiven path types names t own signals d) (given_at path types names t own signals d)
unfolding given_at IsGiven
given_read path types names t own signals d =
    on_read (IsGiven path types names t own signals d) (properties_at path types names t own d) _ λ properties e.
    on_read (IsGiven path types names t own signals d) (signals_at path types names t signals d) _ λ all f. (properties, all, refl, e, f)

type_grown : {A : Type 0} (P : A → Type 0) (Q : List GType → Type 0) (sort : Sort) (path : List ℕ) (keys : List (List ℕ)) (declared : Result (List GType) Refusal)
    (behind : Draft → Result A Refusal) (names : TypeNames) (draft : Draft) (d : Data) → OnRead (Declared sort path names draft d) declared → GrownDraft draft
    → ((g : GType) → name_under (codes "name") d ≡ Some g.name → g.sort ≡ sort → Grown (draft.types ++ g ∷ []) → Q (draft.types ++ g ∷ [])) → ((given : Draft) → With Q given → OnRead P (behind given))
    → OnRead P (type_at path keys declared behind names draft d)
unfolding type_at IsGiven
type_grown P Q sort path keys declared behind names draft d grown old left last =
    on_bind (λ x. Unit {0}) P (members_at path d) _ (on_all _) λ ms u.
    on_bind (Declared sort path names draft d) P declared _ grown λ types more.
    on_bind (IsGiven path types names (length draft.types) draft.own draft.signals d) P (given_at path types names (length draft.types) draft.own draft.signals d) _
    (given_read path types names (length draft.types) draft.own draft.signals d) λ given is.
    let own = is.0 in
    let e = is.3 in
    on_bind P P (behind given) _ (last given (subst (With Q) (sym is.2) (
      (
        more.0.0,
        subst (OnRead (OwnRead types)) e (properties_read types more.0.0.tree (length draft.types) (one_longer draft.types types more.0) names path draft.own d
            (longer_by draft.types types draft.own old.0.tree more.0 old.1)),
        provides_by draft.types types draft.own own old.0 old.1 more.0
            (subst (OnRead (OnlyAt (length draft.types) draft.own)) e (properties_only types names (length draft.types) draft.own path d)) old.2 (more.1 own e),
        more.3 is.1 is.4,
      ),
      subst Q (sym more.2.1) (left more.2.0 more.2.2 more.2.3 (subst Grown more.2.1 more.0.0)),
    ))) λ whole p.
    on_bind (λ x. Unit {0}) P (only_at path ms keys) _ (on_all _) λ only u. p

nothing_flat : {A : Type 0} (own : ℕ → List A) → ((t : ℕ) → own t ≡ []) → (ts : List ℕ) → flat_map own ts ≡ []
nothing_flat own none [] = refl
nothing_flat own none (t ∷ ts) = ap (λ l. l ++ flat_map own ts) (none t) ∙ nothing_flat own none ts

abbrev no_specs : ℕ → List Spec
no_specs t = []

bare_read : (types : List GType) → OwnRead types no_specs
bare_read types = record {
  kept = λ t. tt;
  past = λ t h. refl;
  named = λ t. subst AreNamed (sym (nothing_flat no_specs (λ u. refl) (reverse (lineage types t)))) refl;
}

abbrev no_signals : ℕ → List Signal
no_signals t = []

silent_read : (types : List GType) → SignalsRead types no_signals
silent_read types = record {
  kept = λ t. tt;
  past = λ t h. refl;
  apart = λ t h. subst (λ l. AreApart signal_name (notify ∷ l)) (sym (nothing_flat no_signals (λ u. refl) (sources_of types t))) refl;
}

interfaces_grown : (names : TypeNames) (types : List GType) (d : Data) → Grown types
    → ((list : Items) → entries_at [] d (codes "interfaces") ≡ Ok list → InterfacesLeft names types list)
    → OnRead (With (λ ts. InterfacesLeft names ts no_items)) (interfaces_in names types d)
unfolding interfaces_in
interfaces_grown names types d old begin =
    on_read (With (λ ts. InterfacesLeft names ts no_items)) (entries_at [] d (codes "interfaces")) _ λ list listed.
    on_rest (λ draft ds. With (λ ts. InterfacesLeft names ts ds) draft)
    (at_entry (λ path. interface_at path (length types) list (listed_ahead (codes "classes") d) names) (under [] (codes "interfaces")))
    (λ i draft e ds all. type_grown (With (λ ts. InterfacesLeft names ts ds)) (λ ts. InterfacesLeft names ts ds) sorts.interface (nth (under [] (codes "interfaces")) i) keys_of_interface
    (interface_type_at (nth (under [] (codes "interfaces")) i) (length types) list (listed_ahead (codes "classes") d) draft.types e)
    Ok names draft e
    (interface_grown (nth (under [] (codes "interfaces")) i) (length types) list (listed_ahead (codes "classes") d) names draft e
    all.0.0 all.0.3) all.0
    (λ g called sort grown. interface_left names draft.types e ds g called all.1) (λ given all. all))
    0 (bare_draft types) list ((old, bare_read types, λ t i named slot s at. absurd (cc), silent_read types), begin list listed)

-- ** classes with what they name

abbrev pub GrownClasses : ClassDraft → Type 0
GrownClasses draft = GrownDraft (unanswered draft)

-- classes, what they name, and the shapes beside them
pub record ReadClasses (draft : ClassDraft) : Type 0 where
  pub grown : GrownClasses draft
  pub shaped : AreShaped draft.types draft.answers.shaped
  pub replies : HaveReplies draft.answers.shapes

-- such classes, where these entries are left
abbrev Growing : TypeNames → ClassDraft → Items → Type 0
Growing names draft ds = ReadClasses draft × ClassesLeft names draft.types ds

-- a class that has named no shape so far is the last type
record IsLast (last : ℕ) (own : ℕ → Option ℕ) (types : List GType) : Type 0 where
  count : suc last ≡ length types
  class : sort_of types last ≡ sorts.class
  shaped : AreShaped types own

abbrev LastLeft : TypeNames → Items → ℕ → (ℕ → Option ℕ) → List GType → Type 0
LastLeft names ds last own types = ClassesLeft names types ds × IsLast last own types

last_type : (types : List GType) (g : GType) (own : ℕ → Option ℕ) → IsTree types → IsTree (types ++ g ∷ []) → g.sort ≡ sorts.class → AreShaped types own
    → IsLast (length types) own (types ++ g ∷ [])
last_type types g own tree more sort shaped = record {
  count = let one = length-append types (g ∷ []) in omega (arith, one);
  class = ap (λ (x : GType). x.sort) (read-last no_type g types) ∙ sort;
  shaped = type_more types g tree more own shaped;
}

-- the shapes that types name, and the shapes themselves
abbrev AnswersRead : List GType → Answers → Type 0
AnswersRead types answers = AreShaped types answers.shaped × HaveReplies answers.shapes

answers_read : (path : List ℕ) (programs : ProgramNames) (types : List GType) (t : ℕ) (answers : Answers) (d : Data) → IsTree types
    → IsLast t answers.shaped types → HaveReplies answers.shapes → OnRead (AnswersRead types) (answers_at path programs types t answers d)
unfolding answers_at
answers_read path programs types t answers d tree last replies =
    on_bind (λ x. Unit {0}) (AnswersRead types) (class_handlers_at path programs t answers.handlers d) _ (on_all _) λ handlers u.
    on_bind (λ x. Unit {0}) (AnswersRead types) (constructed_at path programs t answers.constructed d) _ (on_all _) λ constructed u.
    on_bind (AreShaped types) (AnswersRead types) (shaped_at path types answers.shapes t answers.shaped d) _
    (shaped_read types tree answers.shaped t last.count path answers.shapes d last.class last.shaped) λ shaped all. (all, replies)

answering_grown : (names : TypeNames) (ds : Items) (path : List ℕ) (programs : ProgramNames) (t : ℕ) (answers : Answers) (d : Data) (given : Draft)
    → HaveReplies answers.shapes → With (LastLeft names ds t answers.shaped) given
    → OnRead (λ draft. Growing names draft ds) (answering_at path programs t answers d given)
unfolding answering_at
answering_grown names ds path programs t answers d given replies all =
    on_bind (AnswersRead given.types) (λ draft. Growing names draft ds) (answers_at path programs given.types t answers d) _
    (answers_read path programs given.types t answers d all.0.0.tree all.1.1 replies) λ whole read.
    (record { grown = all.0; shaped = read.0; replies = read.1 }, all.1.0)

class_grown : (path : List ℕ) (first : ℕ) (list : Items) (names : TypeNames) (programs : ProgramNames) (draft : ClassDraft) (e : Data) (ds : Items)
    → Growing names draft (item e ds) → OnRead (λ more. Growing names more ds) (class_at path first list names programs draft e)
class_grown path first list names programs draft e ds all =
    let old = all.0.grown in
    type_grown (λ more. Growing names more ds) (LastLeft names ds (length draft.types) draft.answers.shaped) sorts.class path keys_of_class
    (declared_at path first list names (unanswered draft) e) (answering_at path programs (length draft.types) draft.answers e) names (unanswered draft) e
    (declared_grown path first list names (unanswered draft) e old.0 old.1 old.3 (is_next names draft.types e ds all.1)) old
    (λ g called sort grown.
    (class_left names draft.types e ds g called all.1, last_type draft.types g draft.answers.shaped old.0.tree grown.tree sort all.0.shaped))
    (λ given with. answering_grown names ds path programs (length draft.types) draft.answers e given all.0.replies with)

classes_grown : (names : TypeNames) (programs : ProgramNames) (draft : ClassDraft) (d : Data) → ReadClasses draft
    → ((list : Items) → entries_at [] d (codes "classes") ≡ Ok list → ClassesLeft names draft.types list) → OnRead ReadClasses (classes_in names programs draft d)
unfolding classes_in
classes_grown names programs draft d old begin =
    on_read ReadClasses (entries_at [] d (codes "classes")) _ λ list listed.
    more_on (λ more. Growing names more no_items) ReadClasses
    (each (at_entry (λ path. class_at path (length draft.types) list names programs) (under [] (codes "classes"))) 0 draft list) (λ x all. all.0)
    (on_rest (λ more ds. Growing names more ds) (at_entry (λ path. class_at path (length draft.types) list names programs) (under [] (codes "classes")))
    (λ i more e ds all. class_grown (nth (under [] (codes "classes")) i) (length draft.types) list names programs more e ds all) 0 draft list (old, begin list listed))

first_parents : (t p : ℕ) → parent_of predeclared t ≡ Some p → p < t
first_parents zero p h = absurd (cc)
first_parents (suc zero) p h = let same : 0 ≡ p = cc in omega (arith, same)
first_parents (suc (suc t)) p h = absurd (cc)

first_root : (t : ℕ) → sort_of predeclared t ≡ sorts.interface → parent_of predeclared t ≡ None
first_root zero e = refl
first_root (suc zero) e = let other : sorts.class ≡ sorts.interface = e in absurd (cc)
first_root (suc (suc t)) e = refl

first_interfaces : (t : ℕ) → AreInterfaces predeclared (implemented_by predeclared t)
first_interfaces zero = tt
first_interfaces (suc zero) = tt
first_interfaces (suc (suc t)) = tt

first_members : (t : ℕ) → HasMembers (read no_type predeclared t)
first_members zero = record { filled = λ e. absurd (cc); few = refl }
first_members (suc zero) = record { filled = λ e. absurd (cc); few = refl }
first_members (suc (suc t)) = record { filled = λ e. absurd (cc); few = refl }

first_grown : Grown predeclared
first_grown = record {
  tree = record { parents_first = first_parents; few = omega arith };
  heirs = record { root = first_root; interfaces = first_interfaces };
  members = first_members;
}

enums_grown : (d : Data) → OnRead Grown (enums_in d)
unfolding enums_in
enums_grown d =
    on_bind (λ x. Unit {0}) Grown (entries_at [] d (codes "enums")) _ (on_all _) λ list u.
    on_each Grown (at_entry (λ path. enum_at path (length predeclared)) (under [] (codes "enums")))
    (λ i types d all. enum_grown (nth (under [] (codes "enums")) i) (length predeclared) types d all) 0 predeclared list first_grown

all_flags_grown : (types : List GType) (d : Data) → Grown types → OnRead Grown (flags_in types d)
unfolding flags_in
all_flags_grown types d old =
    on_bind (λ x. Unit {0}) Grown (entries_at [] d (codes "flags")) _ (on_all _) λ list u.
    on_each Grown (at_entry (λ path. flags_at path (length types)) (under [] (codes "flags")))
    (λ i more d all. flags_grown (nth (under [] (codes "flags")) i) (length types) more d all) 0 types list old

pub draft_grown : (d : Data) → OnRead ReadClasses (draft_in d)
unfolding draft_in
draft_grown d =
    on_bind Grown ReadClasses (enums_in d) _ (enums_grown d) λ enums old.
    on_bind Grown ReadClasses (flags_in enums d) _ (all_flags_grown enums d old) λ types more.
    on_bind (With (λ ts. InterfacesLeft (type_names types d) ts no_items)) ReadClasses (interfaces_in (type_names types d) types d) _
    (interfaces_grown (type_names types d) types d more (λ list e. begin types list (section_is [] (codes "interfaces") d list e))) λ draft all.
    on_bind HaveReplies ReadClasses (shapes_in d) _ (all_shapes d) λ shapes replies.
    classes_grown (type_names types d) (program_names d) (with_answers draft (no_answers shapes)) d
    (record { grown = all.0; shaped = none_shaped draft.types; replies = replies })
    (λ list e. no_interface_left (type_names types d) draft.types list (ap (names_under (codes "name")) (section_is [] (codes "classes") d list e)) all.1)
  where
    begin : (types : List GType) (list : Items) → section (codes "interfaces") d ≡ list → InterfacesLeft (type_names types d) types list
    begin types list is name none =
        ap (λ (ds : Items). option_or (number_from (length types) (names_under (codes "name") ds) name)
        (number_from (length types + length (names_under (codes "name") ds)) (names_under (codes "name") (section (codes "classes") d)) name)) is
