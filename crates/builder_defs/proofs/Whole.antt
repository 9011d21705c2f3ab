-- A whole definition, of its parts.
use Rattle.std.proofs.Common.{◌≡◌, ℕ, List, [], ◌++◌, map, Result, Ok, Option, None, sym, ap, ◌∙◌, refl}
use Rattle.serde_json.specs.Data.{Data, Members}
use Rattle.ui_machine.specs.Definition.Types.{GType}
use Rattle.ui_machine.specs.Definition.Properties.{Spec}
use Rattle.ui_machine.specs.Definition.Signals.{ClassHandler, Shape}
use Rattle.ui_machine.specs.Seq.{read}
use Rattle.ui_machine.specs.Definition.{Definition}
use Rattle.ui_machine.specs.Definition.Places.{Place, Bind}
use Rattle.ui_machine.specs.Definition.Programs.{Program}
use Rattle.ui_machine.specs.declared.limits.Limits.{Limits}
use Rattle.param_specs.specs.Table.{own_of, specs_of}
use Rattle.signal_core.specs.Sources.{declared_of}
use Rattle.bytecode.specs.declared.formats.Format.{Format}
use Rattle.definition_format.specs.Meaning.{Parts, meaning, bind_view, plain_prototype, plain_program, plain_shape, places_of}
use Rattle.signal_core.specs.Table.{Declared}
use Rattle.ui_machine.specs.Outcome.{◌>>=◌}
use Rattle.definition_format.specs.declared.faults.ReadError.{ReadError}
use Rattle.definition_format.specs.Refusals.{Refusal, Fails}
use Rattle.definition_format.specs.Document.{members_at, only_at}
use Rattle.definition_format.specs.Denoted.Properties.{specs_by}
use Rattle.definition_format.specs.Denoted.Entries.{ProgramNames, TypeNames, program_names, type_names}
use Rattle.definition_format.specs.Denoted.Drafts.{ClassDraft, Draft, answers_of, class_draft_of, draft_of, no_answers, with_answers}
use Rattle.definition_format.specs.Denoted.SessionLimits.{limits_in}
use Rattle.definition_format.specs.Denoted.Objects.{Built, built_view}
use Rattle.definition_format.specs.Denoted.Programs.{programs_in}
use Rattle.definition_format.specs.Denoted.Prototypes.{prototypes_in}
use Rattle.definition_format.specs.Denoted.Shapes.{is_shaped_by, shapes_in}
use Rattle.definition_format.specs.Denoted.{format_number, format_of, enums_in, flags_in, interfaces_in, classes_in, draft_in, objects_in, definition_in, definition_with, keys_of_definition}
use Rattle.read_parts.proofs.Chains.{fails_as, fails_first}

-- ** its types

module _ (d : Data) (enums types more : List GType) (table : List (List Spec)) (declared : Declared) (constructed : List (Option ℕ)) (shapes : List Shape) (shaped : List (Option ℕ)) (names : TypeNames) (programs : ProgramNames)
    (named : names ≡ type_names types d) (known : programs ≡ program_names d) (first : enums_in d ≡ Ok enums) (second : flags_in enums d ≡ Ok types)
    (third : interfaces_in names types d ≡ Ok (draft_of more table declared.signals)) (fourth : shapes_in d ≡ Ok shapes) (none : declared.handlers ≡ []) (bare : constructed ≡ [])
    (plain : shaped ≡ []) where
  draft_is : draft_in d ≡ classes_in names programs (class_draft_of more table declared constructed shapes shaped) d
  unfolding draft_in
  draft_is =
      ap (λ (r : Result (List GType) Refusal). r >>= λ es. flags_in es d >>= λ ts. interfaces_in (type_names ts d) ts d >>= λ all. shapes_in d >>= λ ss. classes_in (type_names ts d) (program_names d) (with_answers all (no_answers ss)) d) first
      ∙ ap (λ (r : Result (List GType) Refusal). r >>= λ ts. interfaces_in (type_names ts d) ts d >>= λ all. shapes_in d >>= λ ss. classes_in (type_names ts d) (program_names d) (with_answers all (no_answers ss)) d) second
      ∙ ap (λ (ns : TypeNames). interfaces_in ns types d >>= λ all. shapes_in d >>= λ ss. classes_in ns (program_names d) (with_answers all (no_answers ss)) d) (sym named)
      ∙ ap (λ (r : Result Draft Refusal). r >>= λ all. shapes_in d >>= λ ss. classes_in names (program_names d) (with_answers all (no_answers ss)) d) third
      ∙ ap (λ (r : Result (List Shape) Refusal). r >>= λ ss. classes_in names (program_names d) (with_answers (draft_of more table declared.signals) (no_answers ss)) d) fourth
      ∙ ap (λ (ps : ProgramNames). classes_in names ps (with_answers (draft_of more table declared.signals) (no_answers shapes)) d) (sym known)
      ∙ ap (λ (hs : List (List ClassHandler)). classes_in names programs (with_answers (draft_of more table declared.signals) (answers_of shapes hs [] [])) d) (sym none)
      ∙ ap (λ (cs : List (Option ℕ)). classes_in names programs (class_draft_of more table declared cs shapes []) d) (sym bare)
      ∙ ap (λ (ss : List (Option ℕ)). classes_in names programs (class_draft_of more table declared constructed shapes ss) d) (sym plain)

  pub draft_fails : (e : ReadError) → Fails e (classes_in names programs (class_draft_of more table declared constructed shapes shaped) d) → Fails e (draft_in d)
  draft_fails e h = fails_as e _ _ draft_is h

  pub draft_with : (all : ClassDraft) → classes_in names programs (class_draft_of more table declared constructed shapes shaped) d ≡ Ok all → draft_in d ≡ Ok all
  draft_with all h = draft_is ∙ h

-- ** the whole

-- the definition of parts, as they are read
meant : (p : Parts)
    → definition_with (class_draft_of p.types p.specs p.declared p.constructed (map plain_shape p.shapes) p.shaped) (map plain_program p.programs) (places_of p.objects p.prototypes)
    (map bind_view p.bindings) p.limits ≡ meaning p
unfolding specs_of declared_of
meant p = refl

module _ (d : Data) where
  -- what is left to read behind each part
  after_places : Members → ClassDraft → Limits → List Program → List Place → List Bind → Result Definition Refusal
  after_places ms draft limits programs places bindings = only_at [] ms keys_of_definition >>= λ o. Ok (definition_with draft programs places bindings limits)

  after_objects : Members → ClassDraft → Limits → List Program → List Place → Built → Result Definition Refusal
  after_objects ms draft limits programs prototypes objects = after_places ms draft limits programs (objects.places ++ prototypes) objects.bindings

  after_prototypes : Members → ClassDraft → Limits → (programs : List Program) → List Place → Result Definition Refusal
  after_prototypes ms draft limits programs prototypes =
      objects_in draft.types (specs_by draft.types draft.own) (is_shaped_by draft.types draft.answers.shaped) programs prototypes limits.objects d >>= after_objects ms draft limits programs prototypes

  after_programs : Members → ClassDraft → Limits → List Program → Result Definition Refusal
  after_programs ms draft limits programs = prototypes_in draft.types (specs_by draft.types draft.own) (is_shaped_by draft.types draft.answers.shaped) d >>= after_prototypes ms draft limits programs

  after_draft : Members → Format → Limits → ClassDraft → Result Definition Refusal
  after_draft ms format limits draft = programs_in format draft.types d >>= after_programs ms draft limits

  after_limits : Members → Format → Limits → Result Definition Refusal
  after_limits ms format limits = draft_in d >>= after_draft ms format limits

  after_format : Members → Format → Result Definition Refusal
  after_format ms format = limits_in d >>= after_limits ms format

  module _ (ms : Members) (number : Option ℕ) (format : Format) (limits : Limits) (draft : ClassDraft) (programs : List Program)
      (members : members_at [] d ≡ Ok ms) (is : number ≡ format_number d) (one : format_of number ≡ Ok format)
      (limited : limits_in d ≡ Ok limits) (drafted : draft_in d ≡ Ok draft) (coded : programs_in format draft.types d ≡ Ok programs) where
    up_to_prototypes : definition_in d ≡ after_programs ms draft limits programs
    unfolding definition_in after_places after_objects after_prototypes after_programs after_draft after_limits after_format
    up_to_prototypes =
        ap (λ (r : Result Members Refusal). r >>= λ m. format_of (format_number d) >>= after_format m) members
        ∙ ap (λ (n : Option ℕ). format_of n >>= after_format ms) (sym is)
        ∙ ap (λ (r : Result Format Refusal). r >>= after_format ms) one
        ∙ ap (λ (r : Result Limits Refusal). r >>= after_limits ms format) limited
        ∙ ap (λ (r : Result ClassDraft Refusal). r >>= after_draft ms format limits) drafted
        ∙ ap (λ (r : Result (List Program) Refusal). r >>= after_programs ms draft limits) coded

    pub prototypes_fail : (e : ReadError) → Fails e (prototypes_in draft.types (specs_by draft.types draft.own) (is_shaped_by draft.types draft.answers.shaped) d) → Fails e (definition_in d)
    unfolding after_programs
    prototypes_fail e h =
        fails_as e _ _ up_to_prototypes
        (fails_first e (prototypes_in draft.types (specs_by draft.types draft.own) (is_shaped_by draft.types draft.answers.shaped) d) (after_prototypes ms draft limits programs) h)

  module _ (ms : Members) (number : Option ℕ) (format : Format) (limits : Limits) (draft : ClassDraft) (programs : List Program) (prototypes : List Place)
      (members : members_at [] d ≡ Ok ms) (is : number ≡ format_number d) (one : format_of number ≡ Ok format)
      (limited : limits_in d ≡ Ok limits) (drafted : draft_in d ≡ Ok draft) (coded : programs_in format draft.types d ≡ Ok programs)
      (made : prototypes_in draft.types (specs_by draft.types draft.own) (is_shaped_by draft.types draft.answers.shaped) d ≡ Ok prototypes) where
    up_to_objects : definition_in d ≡ after_prototypes ms draft limits programs prototypes
    unfolding after_programs
    up_to_objects =
        up_to_prototypes ms number format limits draft programs members is one limited drafted coded
        ∙ ap (λ (r : Result (List Place) Refusal). r >>= after_prototypes ms draft limits programs) made

    pub objects_fail : (e : ReadError) → Fails e (objects_in draft.types (specs_by draft.types draft.own) (is_shaped_by draft.types draft.answers.shaped) programs prototypes limits.objects d) → Fails e (definition_in d)
    unfolding after_prototypes
    objects_fail e h =
        fails_as e _ _ up_to_objects
        (fails_first e (objects_in draft.types (specs_by draft.types draft.own) (is_shaped_by draft.types draft.answers.shaped) programs prototypes limits.objects d) (after_objects ms draft limits programs prototypes) h)

  module _ (ms : Members) (number : Option ℕ) (format : Format) (limits : Limits) (draft : ClassDraft) (programs : List Program) (prototypes : List Place) (objects : Built)
      (members : members_at [] d ≡ Ok ms) (is : number ≡ format_number d) (one : format_of number ≡ Ok format)
      (limited : limits_in d ≡ Ok limits) (drafted : draft_in d ≡ Ok draft) (coded : programs_in format draft.types d ≡ Ok programs)
      (made : prototypes_in draft.types (specs_by draft.types draft.own) (is_shaped_by draft.types draft.answers.shaped) d ≡ Ok prototypes)
      (placed : objects_in draft.types (specs_by draft.types draft.own) (is_shaped_by draft.types draft.answers.shaped) programs prototypes limits.objects d ≡ Ok objects) where
    definition_is : definition_in d ≡ after_places ms draft limits programs (objects.places ++ prototypes) objects.bindings
    unfolding after_prototypes after_objects
    definition_is =
        up_to_objects ms number format limits draft programs prototypes members is one limited drafted coded made
        ∙ ap (λ (r : Result Built Refusal). r >>= after_objects ms draft limits programs prototypes) placed

    pub definition_fails : (e : ReadError) → Fails e (only_at [] ms keys_of_definition) → Fails e (definition_in d)
    unfolding after_places
    definition_fails e h = fails_as e _ _ definition_is (fails_first e (only_at [] ms keys_of_definition) (λ o. Ok (definition_with draft programs (objects.places ++ prototypes) objects.bindings limits)) h)

    definition_whole : only_at [] ms keys_of_definition ≡ Ok tt → definition_in d ≡ Ok (definition_with draft programs (objects.places ++ prototypes) objects.bindings limits)
    unfolding after_places
    definition_whole only = definition_is ∙ ap (λ (r : Result (Unit {0}) Refusal). r >>= λ o. Ok (definition_with draft programs (objects.places ++ prototypes) objects.bindings limits)) only

  pub definition_done : (ms : Members) (number : Option ℕ) (format : Format) (p : Parts)
      → members_at [] d ≡ Ok ms → number ≡ format_number d → format_of number ≡ Ok format
      → limits_in d ≡ Ok p.limits → draft_in d ≡ Ok (class_draft_of p.types p.specs p.declared p.constructed (map plain_shape p.shapes) p.shaped) → programs_in format p.types d ≡ Ok (map plain_program p.programs)
      → prototypes_in p.types (specs_by p.types (own_of p.specs)) (is_shaped_by p.types (read None p.shaped)) d ≡ Ok (map plain_prototype p.prototypes)
      → objects_in p.types (specs_by p.types (own_of p.specs)) (is_shaped_by p.types (read None p.shaped)) (map plain_program p.programs) (map plain_prototype p.prototypes) p.limits.objects d ≡ Ok (built_view p.objects p.bindings)
      → only_at [] ms keys_of_definition ≡ Ok tt → definition_in d ≡ Ok (meaning p)
  definition_done ms number format p members is one limited classes programs prototypes objects only =
      definition_whole ms number format p.limits (class_draft_of p.types p.specs p.declared p.constructed (map plain_shape p.shapes) p.shaped) (map plain_program p.programs) (map plain_prototype p.prototypes) (built_view p.objects p.bindings)
      members is one limited classes programs prototypes objects only
      ∙ ap (λ (m : Definition). Ok m) (meant p)
