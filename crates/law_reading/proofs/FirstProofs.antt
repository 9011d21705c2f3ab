-- What is written in the first format denotes what it does where there is no other.
use Rattle.std.proofs.Common.{◌≡◌, ℕ, ◌+◌, ◌==◌, List, [], ◌∷◌, ◌++◌, codes, Option, None, Some, option_map, option_and_then, Result, Ok, Err, refl, sym, ap, ◌∙◌, if◌then◌else◌, Bool, true, false, not, cond}
use Rattle.std.specs.Prelude.{IfOk}
use Rattle.std.specs.List.{position_from}
use Rattle.std.proofs.Math.Path.{fun_ext}
use Rattle.serde_json.specs.Data.{Data, Members}
use Rattle.serde_json.specs.Find.{as_array, as_object, as_str, get}
use Rattle.ui_machine.specs.Outcome.{◌>>=◌}
use Rattle.ui_machine.specs.Definition.{Definition}
use Rattle.ui_machine.specs.Definition.Kinds.{RegisterKind}
use Rattle.ui_machine.specs.Definition.Programs.{Block, Program}
use Rattle.ui_machine.specs.Definition.Types.{GType}
use Rattle.ui_machine.specs.declared.limits.Limits.{Limits}
use Rattle.bytecode.specs.declared.faults.ProgramFault.{ProgramFault}
use Rattle.bytecode.specs.declared.faults.ProgramFault.TheVariants as faults
use Rattle.bytecode.specs.declared.formats.Format.{Format}
use Rattle.bytecode.specs.declared.formats.Format.TheVariants as formats
use Rattle.bytecode.specs.Reading.Each as lists
use Rattle.bytecode.specs.Reading.Each.{entries_of}
use Rattle.bytecode.specs.Reading.Operands.{named}
use Rattle.bytecode.specs.Reading.Outline.{BlockOutline, Outline, block_at, block_step, blocks_at, entry_at, keys_of_block, keys_of_program, kinds_at, only_at, outline_in, registers_of, result_at, some_entries_at}
use Rattle.bytecode.specs.Reading.OutlineFaults.{OutlineFault, all_of, member_of, shaped}
use Rattle.bytecode.specs.Reading.Programs.{blocks_in, code_in, code_step, program_of, program_with, scope_of, unless_fault}
use Rattle.bytecode.specs.Reading.RegisterKinds.{Names}
use Rattle.bytecode.specs.Reading.Scopes.{Scope}
use Rattle.bytecode.specs.Shape.{at_block, first_backward, first_limit, first_open, may_repeat, or_next, shape_fault}
use Rattle.definition_format.specs.Document.{at_entry, each, entries_at, members_at, text_at, under}
use Rattle.definition_format.specs.Document as document
use Rattle.definition_format.specs.Refusals.{Refusal, shape}
use Rattle.definition_format.specs.Denoted.Drafts.{ClassDraft}
use Rattle.definition_format.specs.Denoted.Entries.{place_with_id}
use Rattle.definition_format.specs.Denoted.Properties.{specs_by}
use Rattle.definition_format.specs.Denoted.Programs.{code_names, new_program, or_bad_program, program_at, program_in, programs_in, read_ahead, room_for_program, unless_refused}
use Rattle.definition_format.specs.Denoted.Prototypes.{prototypes_in}
use Rattle.definition_format.specs.Denoted.SessionLimits.{limits_in}
use Rattle.definition_format.specs.Denoted.Shapes.{is_shaped_by}
use Rattle.definition_format.specs.Denoted.{definition_in, definition_with, draft_in, format_number, format_of, keys_of_definition, objects_in}
use Rattle.law_typing.specs.Verdict.Accepted.{Each}
use Rattle.law_typing.proofs.Lists.{each_append}
use Rattle.law_reading.specs.Formats.{FirstIsAsBefore}
use Rattle.law_reading.specs.FirstReading as before
use Rattle.law_reading.proofs.InstructionProofs.{beside, on}

-- the parts of one chain, read otherwise
same_next : {A B E : Type 0} (r : Result A E) (f g : A → Result B E) → ((x : A) → r ≡ Ok x → f x ≡ g x) → (r >>= f) ≡ (r >>= g)
same_next (Ok x) f g same = same x refl
same_next (Err e) f g same = refl

-- ** blocks that are passed once

abbrev SaysNothing : BlockOutline → Type 0
SaysNothing b = b.repeat ≡ None

abbrev IsOnce : Block → Type 0
IsOnce b = b.repeat ≡ None

-- what is so of each entry of a list stays so in what comes of it
kept_by : {S X E : Type 0} (P : S → Type 0) (Q : X → Type 0) (step : ℕ → S → X → Result S E)
    → ((i : ℕ) (s : S) (x : X) → Q x → P s → IfOk (step i s x) P) → (i : ℕ) (s : S) (xs : List X) → Each Q xs → P s → IfOk (lists.each step i s xs) P
unfolding lists.each
kept_by P Q step keeps i s [] all p = p
kept_by P Q step keeps i s (x ∷ xs) all p = on P P (step i s x) _ (keeps i s x all.0 p) λ t q. kept_by P Q step keeps (i + 1) t xs all.1 q

each_so : {X : Type 0} (Q : X → Type 0) → ((x : X) → Q x) → (xs : List X) → Each Q xs
each_so Q all [] = tt
each_so Q all (x ∷ xs) = (all x, each_so Q all xs)

no_bad_repeat : (i : ℕ) (bs : List Block) → Each IsOnce bs → position_from (λ b. not (may_repeat b.repeat b.code)) i bs ≡ None
no_bad_repeat i [] all = refl
no_bad_repeat i (b ∷ bs) all =
    ap (λ (r : Option ℕ). cond (not (may_repeat r b.code)) (Some i) (position_from (λ b. not (may_repeat b.repeat b.code)) (i + 1) bs)) all.0
    ∙ no_bad_repeat (i + 1) bs all.1

last_out : (a b c d : Option ProgramFault) → d ≡ None → or_next a (or_next b (or_next c d)) ≡ or_next a (or_next b c)
last_out (Some f) b c d e = refl
last_out None (Some f) c d e = refl
last_out None None (Some f) d e = refl
last_out None None None d e = e

-- the shape of such blocks is judged as before
same_shape : (p : Program) → Each IsOnce p.blocks → shape_fault p ≡ before.shape_fault p
same_shape p once =
    last_out (option_map (λ b. faults.BackwardJump (at_block b)) (first_backward p.blocks)) (option_map (λ b. faults.NoReturn (at_block b)) (first_open p.blocks))
    (option_map faults.Limit (first_limit p)) _ (ap (option_map (λ b. faults.BadRepeat (at_block b))) (no_bad_repeat 0 p.blocks once))

blocks_once : (s : Scope) (bs : List BlockOutline) → Each SaysNothing bs → IfOk (blocks_in s bs) (Each IsOnce)
unfolding blocks_in
blocks_once s bs all =
    kept_by (Each IsOnce) SaysNothing (code_step s)
    (λ i blocks b none old. beside (Each IsOnce) (code_in s i b.code) _ λ code. each_append IsOnce blocks _ old (none, tt)) 0 [] bs all tt

-- ** programs

module _ (types : List GType) (place : List ℕ → Option ℕ) where
  abbrev names : Names
  names = record { format = formats.First; types = types; place = place }

  block_says : (params : List RegisterKind) (registers block : ℕ) (d : Data) → IfOk (block_at names params registers block d) SaysNothing
  unfolding block_at
  block_says params registers block d =
      beside SaysNothing (shaped (all_of (Some block)) (as_object d)) _ λ ms.
      beside SaysNothing (entry_at names params registers block d) _ λ entry.
      beside SaysNothing (shaped (member_of (Some block) (codes "code")) (option_map entries_of (option_and_then as_array (get (codes "code") d)))) _ λ code.
      beside SaysNothing (only_at (Some block) ms (keys_of_block formats.First)) _ λ u. refl

  blocks_say : (params : List RegisterKind) (registers : ℕ) (d : Data) → IfOk (blocks_at names params registers d) (Each SaysNothing)
  unfolding blocks_at
  blocks_say params registers d =
      beside (Each SaysNothing) (some_entries_at d (codes "blocks")) _ λ ds.
      kept_by (Each SaysNothing) (λ (x : Data). Unit {0}) (block_step names params registers)
      (λ i bs x u old. on SaysNothing (Each SaysNothing) (block_at names params registers i x) _ (block_says params registers i x) λ b none.
      each_append SaysNothing bs (b ∷ []) old (none, tt)) 0 [] ds (each_so (λ (x : Data). Unit {0}) (λ x. tt) ds) tt

  outline_says : (d : Data) → IfOk (outline_in names d) (λ o. Each SaysNothing o.blocks)
  unfolding outline_in
  outline_says d =
      beside (λ o. Each SaysNothing o.blocks) (shaped (all_of None) (as_object d)) _ λ ms.
      beside (λ o. Each SaysNothing o.blocks) (shaped (member_of None (codes "name")) (named (option_and_then as_str (get (codes "name") d)))) _ λ name.
      beside (λ o. Each SaysNothing o.blocks) (kinds_at names false (member_of None (codes "params")) (registers_of d) (get (codes "params") d)) _ λ params.
      beside (λ o. Each SaysNothing o.blocks) (shaped (member_of None (codes "registers")) (registers_of d)) _ λ registers.
      beside (λ o. Each SaysNothing o.blocks) (result_at types d) _ λ result.
      on (Each SaysNothing) (λ o. Each SaysNothing o.blocks) (blocks_at names params registers d) _ (blocks_say params registers d) λ blocks all.
      beside (λ o. Each SaysNothing o.blocks) (only_at None ms keys_of_program) _ λ u. all

  same_outline : (d : Data) → outline_in names d ≡ before.outline_in names d
  unfolding outline_in blocks_at block_at before.outline_in before.blocks_at before.block_at
  same_outline d = refl

  same_program : (o : Outline) → Each SaysNothing o.blocks → program_of names o ≡ before.program_of names o
  unfolding program_of before.program_of
  same_program o all = by (blocks_in (scope_of names o) o.blocks) (blocks_once (scope_of names o) o.blocks all)
    where
      by : (r : Result (List Block) ProgramFault) → IfOk r (Each IsOnce)
          → (r >>= λ blocks. unless_fault (program_with o blocks) (shape_fault (program_with o blocks)))
          ≡ (r >>= λ blocks. unless_fault (program_with o blocks) (before.shape_fault (program_with o blocks)))
      by (Ok blocks) once = ap (unless_fault (program_with o blocks)) (same_shape (program_with o blocks) once)
      by (Err fault) once = refl

  same_ahead : (path : List ℕ) (d : Data) → read_ahead path names (outline_in names d) ≡ before.read_ahead path names (before.outline_in names d)
  same_ahead path d = by (outline_in names d) (outline_says d) ∙ ap (before.read_ahead path names) (same_outline d)
    where
      by : (r : Result Outline OutlineFault) → IfOk r (λ o. Each SaysNothing o.blocks) → read_ahead path names r ≡ before.read_ahead path names r
      by (Ok o) all = ap (λ r. or_bad_program path r >>= λ p. Ok (Ok p)) (same_program o all)
      by (Err fault) all = refl

module _ (types : List GType) (v : Data) where
  abbrev read_with : Names
  read_with = code_names formats.First types v

  same_in : (path : List ℕ) (programs : List Program) (d : Data) → program_in path read_with programs d ≡ before.program_in path read_with programs d
  unfolding program_in before.program_in
  same_in path programs d =
      same_next (members_at path d) _ _ λ ms e.
      ap (λ r. r >>= λ ahead. room_for_program programs >>= λ room. text_at path d (codes "name") >>= λ name. new_program (under path (codes "name")) programs name >>= λ new. unless_refused path ahead)
      (same_ahead types (place_with_id v) path d)

  same_at : (path : List ℕ) (programs : List Program) (d : Data) → program_at path read_with programs d ≡ before.program_at path read_with programs d
  unfolding program_at before.program_at
  same_at path programs d = ap (λ r. r >>= λ p. Ok (programs ++ p ∷ [])) (same_in path programs d)

  same_programs : programs_in formats.First types v ≡ before.programs_in types v
  unfolding programs_in before.programs_in
  same_programs =
      same_next (entries_at [] v (codes "programs")) _ _ λ list e.
      ap (λ (step : ℕ → List Program → Data → Result (List Program) Refusal). each step 0 [] list)
      (fun_ext λ i. fun_ext λ programs. fun_ext λ d. same_at _ programs d)

-- ** the whole

abbrev is_read : Result (Unit {0}) Refusal
is_read = Ok tt

first_before : (n : Option ℕ) → format_of n ≡ Ok formats.First → before.format_of n ≡ Ok tt
first_before None e = absurd (cc)
first_before (Some n) e = by (n == 1) (n == 2) e
  where
    by : (one two : Bool) → (if one then Ok formats.First else (if two then Ok formats.Second else Err (shape (codes "/format")))) ≡ Ok formats.First
        → (if one then is_read else Err (shape (codes "/format"))) ≡ is_read
    by true two e = refl
    by false true e = absurd (cc)
    by false false e = absurd (cc)

pub as_before : FirstIsAsBefore
unfolding definition_in before.definition_in
as_before v first =
    same_next (members_at [] v) _ _ λ ms m.
    ap (λ (r : Result Format Refusal). r >>= rest ms) first
    ∙ (same_next (limits_in v) _ _ λ limits l.
    same_next (draft_in v) _ _ λ draft c.
    ap (λ (r : Result (List Program) Refusal). r >>= behind ms limits draft) (same_programs draft.types v))
    ∙ sym (ap (λ (r : Result (Unit {0}) Refusal). r >>= rest_before ms) (first_before (format_number v) first))
  where
    behind : Members → Limits → ClassDraft → List Program → Result Definition Refusal
    behind ms limits draft programs =
        prototypes_in draft.types (specs_by draft.types draft.own) (is_shaped_by draft.types draft.answers.shaped) v >>= λ prototypes.
        objects_in draft.types (specs_by draft.types draft.own) (is_shaped_by draft.types draft.answers.shaped) programs prototypes limits.objects v >>= λ objects.
        document.only_at [] ms keys_of_definition >>= λ only.
        Ok (definition_with draft programs (objects.places ++ prototypes) objects.bindings limits)

    rest : Members → Format → Result Definition Refusal
    rest ms format = limits_in v >>= λ limits. draft_in v >>= λ draft. programs_in format draft.types v >>= behind ms limits draft

    rest_before : Members → Unit {0} → Result Definition Refusal
    rest_before ms u = limits_in v >>= λ limits. draft_in v >>= λ draft. before.programs_in draft.types v >>= behind ms limits draft
