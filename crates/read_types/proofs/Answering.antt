-- What a class names, part by part.
use Rattle.std.proofs.Common.{◌≡◌, ℕ, List, Option, Result, Ok, sym, ap, ◌∙◌}
use Rattle.std.proofs.Math.Path.{fun_ext}
use Rattle.serde_json.specs.Data.{Data}
use Rattle.ui_machine.specs.Outcome.{◌>>=◌}
use Rattle.ui_machine.specs.Definition.Signals.{ClassHandler, Shape}
use Rattle.ui_machine.specs.Definition.Types.{GType}
use Rattle.signal_core.specs.Table.{AddsHandler, named_of}
use Rattle.definition_format.specs.declared.faults.ReadError.{ReadError}
use Rattle.definition_format.specs.Refusals.{Refusal, Fails}
use Rattle.definition_format.specs.Denoted.Entries.{ProgramNames}
use Rattle.definition_format.specs.Denoted.Drafts.{Answers, ClassDraft, Draft, answers_of, with_answers}
use Rattle.definition_format.specs.Denoted.ClassHandlers.{add_handler, class_handlers_at}
use Rattle.definition_format.specs.Denoted.Constructed.{constructed_at}
use Rattle.definition_format.specs.Denoted.Classes.{answers_at, answering_at}
use Rattle.definition_format.specs.Denoted.Shapes.{shaped_at}
use Rattle.read_parts.proofs.Chains.{fails_first, fails_as}

-- a class handler that was added, seen as the types' own
pub handler_added : (old new : List (List ClassHandler)) (t : ℕ) (h : ClassHandler) → AddsHandler old new t h → add_handler (named_of old) t h ≡ named_of new
handler_added old new t h adds = sym (fun_ext adds)

-- what a class names once its class handlers are read
module _ (path : List ℕ) (programs : ProgramNames) (types : List GType) (t : ℕ) (answers : Answers) (handlers : ℕ → List ClassHandler) (d : Data)
    (read : class_handlers_at path programs t answers.handlers d ≡ Ok handlers) where
  all_of : (ℕ → Option ℕ) → (ℕ → Option ℕ) → Result Answers Refusal
  all_of constructed shaped = Ok (record { shapes = answers.shapes; handlers = handlers; constructed = constructed; shaped = shaped })

  last : (ℕ → Option ℕ) → Result Answers Refusal
  last constructed = shaped_at path types answers.shapes t answers.shaped d >>= all_of constructed

  handled : answers_at path programs types t answers d ≡ (constructed_at path programs t answers.constructed d >>= last)
  unfolding answers_at last all_of
  handled =
      ap (λ (r : Result (ℕ → List ClassHandler) Refusal). r >>= λ hs. constructed_at path programs t answers.constructed d >>= λ cs. shaped_at path types answers.shapes t answers.shaped d >>= λ ss. Ok (record { shapes = answers.shapes; handlers = hs; constructed = cs; shaped = ss })) read

  pub constructed_fails : (e : ReadError) → Fails e (constructed_at path programs t answers.constructed d) → Fails e (answers_at path programs types t answers d)
  constructed_fails e h = fails_as e _ _ handled (fails_first e (constructed_at path programs t answers.constructed d) last h)

  module _ (constructed : ℕ → Option ℕ) (named : constructed_at path programs t answers.constructed d ≡ Ok constructed) where
    both : answers_at path programs types t answers d ≡ last constructed
    both = handled ∙ ap (λ r. r >>= last) named

    -- where the shape is refused, its programs are of no use
    pub shape_fails : (e : ReadError) → Fails e (shaped_at path types answers.shapes t answers.shaped d) → Fails e (answers_at path programs types t answers d)
    unfolding last
    shape_fails e h = fails_as e _ _ both (fails_first e (shaped_at path types answers.shapes t answers.shaped d) (all_of constructed) h)

    pub all_answered : (shaped : ℕ → Option ℕ) → shaped_at path types answers.shapes t answers.shaped d ≡ Ok shaped
        → answers_at path programs types t answers d ≡ Ok (record { shapes = answers.shapes; handlers = handlers; constructed = constructed; shaped = shaped })
    unfolding last all_of
    all_answered shaped h = both ∙ ap (λ (r : Result (ℕ → Option ℕ) Refusal). r >>= all_of constructed) h

-- what a type names, which is the next, where nothing was named since
module _ (path : List ℕ) (programs : ProgramNames) (n t : ℕ) (at : t ≡ n) (shapes : List Shape) (old mid : List (List ClassHandler)) (same : mid ≡ old)
    (constructed shaped : List (Option ℕ)) (d : Data) (given : Draft) where
  whole : Answers → Result ClassDraft Refusal
  whole all = Ok (with_answers given all)

  answering_is : answering_at path programs n (answers_of shapes old constructed shaped) d given ≡ (answers_at path programs given.types t (answers_of shapes mid constructed shaped) d >>= whole)
  unfolding answering_at whole
  answering_is =
      ap (λ m. answers_at path programs given.types m (answers_of shapes old constructed shaped) d >>= whole) (sym at)
      ∙ ap (λ (hs : List (List ClassHandler)). answers_at path programs given.types t (answers_of shapes hs constructed shaped) d >>= whole) (sym same)

  pub answering_fails : (e : ReadError) → Fails e (answers_at path programs given.types t (answers_of shapes mid constructed shaped) d)
      → Fails e (answering_at path programs n (answers_of shapes old constructed shaped) d given)
  answering_fails e h = fails_as e _ _ answering_is (fails_first e (answers_at path programs given.types t (answers_of shapes mid constructed shaped) d) whole h)

  pub answering_with : (all : Answers) → answers_at path programs given.types t (answers_of shapes mid constructed shaped) d ≡ Ok all
      → answering_at path programs n (answers_of shapes old constructed shaped) d given ≡ Ok (with_answers given all)
  unfolding whole
  answering_with all is = answering_is ∙ ap (λ r. r >>= whole) is
