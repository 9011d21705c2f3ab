-- What is written in the first format denotes the same definition in the second.
use Rattle.std.proofs.Common.{◌≡◌, ℕ, ◌+◌, Bool, true, false, if◌then◌else◌, List, [], ◌++◌, codes, Option, None, Some, map, option_map, option_and_then, Result, Ok, Err, refl, sym, ap, subst, ◌∙◌, Ordering, Less, Equal, Greater, nat_cmp}
use Rattle.std.specs.Str.{bytes_eq}
use Rattle.std.specs.Ordering.{match_ordering}
use Rattle.std.specs.Cmp.Lexicographic.{slice_cmp}
use Rattle.serde_json.specs.Data.{Data, null, boolean, number, unsigned, string, array, object, Items, no_items, item, Members, no_members, member, put}
use Rattle.serde_json.specs.Find.{as_array, get_member}
use Rattle.serde_json.proofs.Views.{get_member-put, get_member-put_other}
use Rattle.ui_machine.specs.Outcome.{◌>>=◌}
use Rattle.ui_machine.specs.Definition.Places.{Place}
use Rattle.ui_machine.specs.Definition.Programs.{Program}
use Rattle.ui_machine.specs.Definition.Properties.{Spec}
use Rattle.ui_machine.specs.Definition.Types.{GType}
use Rattle.bytecode.specs.declared.formats.Format.{Format}
use Rattle.bytecode.specs.declared.formats.Format.TheVariants as formats
use Rattle.bytecode.specs.Reading.Outline.{Outline, outline_in}
use Rattle.bytecode.specs.Reading.OutlineFaults.{OutlineFault}
use Rattle.bytecode.specs.Reading.RegisterKinds.{Names}
use Rattle.definition_format.specs.Document.{at_entry, each, entries, entries_at, first_other, is_among, members_at, only_at, text_at, under}
use Rattle.definition_format.specs.Refusals.{Refusal}
use Rattle.definition_format.specs.Denoted.Entries.{at_most, in_order, listed, most_levels, name_under, number_from, place_with_id}
use Rattle.definition_format.specs.Denoted.Properties.{specs_by}
use Rattle.definition_format.specs.Denoted.Programs.{code_names, new_program, or_bad_program, program_at, program_in, programs_in, read_ahead, room_for_program, unless_refused}
use Rattle.definition_format.specs.Denoted.Prototypes.{prototypes_in}
use Rattle.definition_format.specs.Denoted.SessionLimits.{limits_in}
use Rattle.definition_format.specs.Denoted.Shapes.{is_shaped_by, shapes_in}
use Rattle.definition_format.specs.Denoted.{classes_in, definition_in, denoted, draft_in, enums_in, flags_in, format_number, format_of, interfaces_in, keys_of_definition, objects_in}
use Rattle.law_reading.specs.Formats.{BytesAgree, FirstIsSecond, IsOfFirst}
use Rattle.law_reading.proofs.FormatCode.{Carries, differ, follows, given, outline_carries, same_program}

each_carries : {S : Type 0} (one two : ℕ → S → Data → Result S Refusal) → ((i : ℕ) (s : S) (x : Data) → Carries (one i s x) (two i s x))
    → (i : ℕ) (s : S) (xs : Items) → Carries (each one i s xs) (each two i s xs)
unfolding each
each_carries one two more i s no_items t e = e
each_carries one two more i s (item x xs) t e =
    let p = given (one i s x) _ t e in
    follows _ _ p.0 _ (more i s x p.0 p.1) (each_carries one two more (i + 1) p.0 xs t p.2)

-- ** programs

module _ (types : List GType) (v : Data) where
  -- what is read ahead, where it is a program
  ahead_carries : (path : List ℕ) (x : Data) (p : Program)
      → read_ahead path (code_names formats.First types v) (outline_in (code_names formats.First types v) x) ≡ Ok (Ok p)
      → read_ahead path (code_names formats.Second types v) (outline_in (code_names formats.Second types v) x) ≡ Ok (Ok p)
  ahead_carries path x p e = by (outline_in (code_names formats.First types v) x) refl e
    where
      by : (r : Result Outline OutlineFault) → outline_in (code_names formats.First types v) x ≡ r → read_ahead path (code_names formats.First types v) r ≡ Ok (Ok p)
          → read_ahead path (code_names formats.Second types v) (outline_in (code_names formats.Second types v) x) ≡ Ok (Ok p)
      by (Ok o) f g =
          ap (read_ahead path (code_names formats.Second types v)) (outline_carries types (place_with_id v) x o f)
          ∙ ap (λ r. or_bad_program path r >>= λ q. Ok (Ok q)) (same_program types (place_with_id v) o) ∙ g
      by (Err fault) f g = absurd (cc)

  is_program : (path : List ℕ) (ahead : Result Program OutlineFault) (p : Program) → unless_refused path ahead ≡ Ok p → ahead ≡ Ok p
  is_program path (Ok q) p e = let same : q ≡ p = cc in ap Ok same
  is_program path (Err fault) p e = absurd (cc)

  program_carries : (path : List ℕ) (programs : List Program) (x : Data)
      → Carries (program_in path (code_names formats.First types v) programs x) (program_in path (code_names formats.Second types v) programs x)
  unfolding program_in
  program_carries path programs x p e =
      let m = given (members_at path x) _ p e in
      let a = given (read_ahead path (code_names formats.First types v) (outline_in (code_names formats.First types v) x)) _ p m.2 in
      let r = given (room_for_program programs) _ p a.2 in
      let n = given (text_at path x (codes "name")) _ p r.2 in
      let w = given (new_program (under path (codes "name")) programs n.0) _ p n.2 in
      let is = is_program path a.0 p w.2 in
      follows _ _ m.0 _ m.1
      (follows _ _ (Ok p) _ (ahead_carries path x p (a.1 ∙ ap Ok is))
      (follows _ _ r.0 _ r.1
      (follows _ _ n.0 _ n.1
      (follows _ _ w.0 _ w.1 refl))))

  one_carries : (path : List ℕ) (programs : List Program) (x : Data)
      → Carries (program_at path (code_names formats.First types v) programs x) (program_at path (code_names formats.Second types v) programs x)
  unfolding program_at
  one_carries path programs x ps e =
      let p = given (program_in path (code_names formats.First types v) programs x) _ ps e in
      follows _ _ p.0 _ (program_carries path programs x p.0 p.1) p.2

  programs_carry : Carries (programs_in formats.First types v) (programs_in formats.Second types v)
  unfolding programs_in
  programs_carry ps e =
      let l = given (entries_at [] v (codes "programs")) _ ps e in
      follows _ _ l.0 _ l.1
      (each_carries (at_entry (λ path. program_at path (code_names formats.First types v)) (under [] (codes "programs")))
      (at_entry (λ path. program_at path (code_names formats.Second types v)) (under [] (codes "programs")))
      (λ i s x. one_carries _ s x) 0 [] l.0 ps l.2)

-- ** a value with another format

abbrev two : Data
two = number (unsigned 2)

abbrev key : List ℕ
key = codes "format"

known_at : (o : Ordering) (keys : List (List ℕ)) (l : List ℕ) (e : Data) (ms : Members) → slice_cmp nat_cmp key l ≡ o → is_among keys key ≡ true
    → first_other keys (put key two ms) ≡ first_other keys ms
    → first_other keys (match_ordering o (member key two (member l e ms)) (member l two ms) (member l e (put key two ms))) ≡ first_other keys (member l e ms)
known_at Less keys l e ms is among later = ap (λ (b : Bool). if b then first_other keys (member l e ms) else Some key) among
known_at Equal keys l e ms is among later = refl
known_at Greater keys l e ms is among later = ap (λ r. if is_among keys l then r else Some l) later

-- its keys are as known as before
still_known : (keys : List (List ℕ)) (ms : Members) → is_among keys key ≡ true → first_other keys (put key two ms) ≡ first_other keys ms
still_known keys no_members among = ap (λ (b : Bool). if b then None else Some key) among
still_known keys (member l e ms) among = known_at _ keys l e ms refl among (still_known keys ms among)

-- the place of an id by the lists of objects and of prototypes, and the programs of a list
abbrev place_by : Option Data → Option Data → List ℕ → Option ℕ
place_by objects prototypes id =
    option_map (at_most 512) (number_from 0 (map (name_under (codes "id"))
    (in_order most_levels (listed (option_and_then as_array objects)) ++ in_order 1 (listed (option_and_then as_array prototypes)))) id)

abbrev programs_by : Names → Option Data → Result (List Program) Refusal
programs_by names programs =
    entries (under [] (codes "programs")) programs >>= λ list. each (at_entry (λ path. program_at path names) (under [] (codes "programs"))) 0 [] list

-- what is given is one thing
same_given : {A E : Type 0} (r : Result A E) (x y : A) → r ≡ Ok x → r ≡ Ok y → y ≡ x
same_given r x y e f = let same : x ≡ y = cc in sym same

module _ (ms : Members) where
  abbrev before : Data
  before = object ms

  abbrev after : Data
  after = object (put key two ms)

  -- the other members are the same
  kept : (name : List ℕ) → bytes_eq name key ≡ false → get_member name (put key two ms) ≡ get_member name ms
  kept name apart = get_member-put_other name key two ms (differ name key apart)

  same_limits : limits_in after ≡ limits_in before
  same_limits = rw (kept (codes "limits") refl) refl

  same_draft : draft_in after ≡ draft_in before
  unfolding draft_in enums_in flags_in interfaces_in shapes_in classes_in
  same_draft =
      rw (kept (codes "enums") refl, kept (codes "flags") refl, kept (codes "interfaces") refl, kept (codes "shapes") refl, kept (codes "classes") refl, kept (codes "programs") refl) refl

  same_place : place_with_id after ≡ place_with_id before
  same_place =
      ap (λ (o : Option Data). place_by o (get_member (codes "prototypes") (put key two ms))) (kept (codes "objects") refl)
      ∙ ap (place_by (get_member (codes "objects") ms)) (kept (codes "prototypes") refl)

  same_programs : (format : Format) (types : List GType) → programs_in format types after ≡ programs_in format types before
  unfolding programs_in
  same_programs format types =
      ap (λ (o : Option Data). programs_by (record { format = format; types = types; place = place_with_id after }) o) (kept (codes "programs") refl)
      ∙ ap (λ (place : List ℕ → Option ℕ). programs_by (record { format = format; types = types; place = place }) (get_member (codes "programs") ms)) same_place

  same_prototypes : (types : List GType) (specs : ℕ → List Spec) (has_shape : ℕ → Bool)
      → prototypes_in types specs has_shape after ≡ prototypes_in types specs has_shape before
  unfolding prototypes_in
  same_prototypes types specs has_shape = rw (kept (codes "prototypes") refl) refl

  same_objects : (types : List GType) (specs : ℕ → List Spec) (has_shape : ℕ → Bool) (programs : List Program) (prototypes : List Place) (most : ℕ)
      → objects_in types specs has_shape programs prototypes most after ≡ objects_in types specs has_shape programs prototypes most before
  unfolding objects_in
  same_objects types specs has_shape programs prototypes most = rw (kept (codes "objects") refl) refl

  second_now : format_of (format_number after) ≡ Ok formats.Second
  second_now = rw (get_member-put key two ms) refl

  same_keys : only_at [] (put key two ms) keys_of_definition ≡ only_at [] ms keys_of_definition
  same_keys = rw (still_known keys_of_definition ms refl) refl

  object_carries : IsOfFirst before → Carries (definition_in before) (definition_in after)
  unfolding definition_in
  object_carries first d e =
      let f = given (format_of (format_number before)) _ d e in
      let l = given (limits_in before) _ d f.2 in
      let c = given (draft_in before) _ d l.2 in
      let p = given (programs_in f.0 c.0.types before) _ d c.2 in
      let specs = specs_by c.0.types c.0.own in
      let has_shape = is_shaped_by c.0.types c.0.answers.shaped in
      let q = given (prototypes_in c.0.types specs has_shape before) _ d p.2 in
      let o = given (objects_in c.0.types specs has_shape p.0 q.0 l.0.objects before) _ d q.2 in
      let k = given (only_at [] ms keys_of_definition) _ d o.2 in
      let is : f.0 ≡ formats.First = same_given (format_of (format_number before)) formats.First f.0 first f.1 in
      let read : programs_in formats.First c.0.types before ≡ Ok p.0 = subst (λ (format : Format). programs_in format c.0.types before ≡ Ok p.0) is p.1 in
      follows _ _ formats.Second _ second_now
      (follows _ _ l.0 _ (same_limits ∙ l.1)
      (follows _ _ c.0 _ (same_draft ∙ c.1)
      (follows _ _ p.0 _ (same_programs formats.Second c.0.types ∙ programs_carry c.0.types before p.0 read)
      (follows _ _ q.0 _ (same_prototypes c.0.types specs has_shape ∙ q.1)
      (follows _ _ o.0 _ (same_objects c.0.types specs has_shape p.0 q.0 l.0.objects ∙ o.1)
      (follows _ _ k.0 _ (same_keys ∙ k.1) k.2))))))

pub first_is_second : FirstIsSecond
first_is_second null d first e = e
first_is_second (boolean b) d first e = e
first_is_second (number n) d first e = e
first_is_second (string s) d first e = e
first_is_second (array ds) d first e = e
first_is_second (object ms) d first e = object_carries ms first d e

pub bytes_agree : BytesAgree
unfolding denoted
bytes_agree first second value d read changed is e =
    let one : definition_in value ≡ Ok d = sym (ap (λ (r : Result Data Refusal). r >>= definition_in) read) ∙ e in
    ap (λ (r : Result Data Refusal). r >>= definition_in) changed ∙ first_is_second value d is one
