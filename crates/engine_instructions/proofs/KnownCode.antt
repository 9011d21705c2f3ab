-- The kinds that an instruction names are known, wherever a program takes it.
use Rattle.std.proofs.Common.{◌≡◌, ℕ, zero, suc, List, [], ◌∷◌, Option, None, Some, option_map, option_and_then, slice_get, refl, sym, ap, subst, ◌∙◌, arith}
use Rattle.std.specs.Prelude.{All, IfSome}
use Rattle.std.proofs.lemmas.Option.{slice_get-map}
use Rattle.ui_machine.specs.Definition.Programs as words
use Rattle.ui_machine.specs.Definition.Types.{GType}
use Rattle.ui_machine.specs.Instructions.Jumps.{in_pass, past}
use Rattle.ui_machine.specs.State.Tasks as config
use Rattle.g_values.specs.View.{IsKnown, kind_view}
use Rattle.g_values.specs.declared.kind.Kind.{Kind}
use Rattle.g_values.specs.declared.kind.Kind.TheVariants as kinds
use Rattle.bytecode.specs.declared.computations.Computation.{Computation}
use Rattle.bytecode.specs.declared.computations.Computation.TheVariants as computations
use Rattle.bytecode.specs.declared.instructions.Instruction.{Instruction}
use Rattle.bytecode.specs.declared.instructions.Instruction.TheVariants as instructions
use Rattle.bytecode.specs.declared.instructions.ControlInstruction.{ControlInstruction}
use Rattle.bytecode.specs.declared.instructions.ControlInstruction.TheVariants as controls
use Rattle.bytecode.specs.declared.instructions.PropertyInstruction.{PropertyInstruction}
use Rattle.bytecode.specs.declared.instructions.PropertyInstruction.TheVariants as properties
use Rattle.bytecode.specs.declared.instructions.ObjectInstruction.{ObjectInstruction}
use Rattle.bytecode.specs.declared.instructions.ObjectInstruction.TheVariants as objects
use Rattle.bytecode.specs.declared.instructions.SignalInstruction.{SignalInstruction}
use Rattle.bytecode.specs.declared.instructions.SignalInstruction.TheVariants as signals
use Rattle.bytecode.specs.declared.instructions.SourceInstruction.{SourceInstruction}
use Rattle.bytecode.specs.declared.instructions.SourceInstruction.TheVariants as sources
use Rattle.bytecode.specs.declared.programs.Block.{Block}
use Rattle.bytecode.specs.declared.programs.Program.{Program}
use Rattle.bytecode.specs.Computing.{HasKnownKind, instruction_of}
use Rattle.frames.specs.FrameView.{Taken, taken_in, taken_of}
use Rattle.bytecode.specs.Known.{HasKnownBlocks, HasKnownCode, HasKnownKinds}
use Rattle.bytecode.specs.View.{block_view, control_view, instruction_view, object_instruction_view, program_view, property_instruction_view, signal_instruction_view, source_instruction_view}
use Rattle.definition_format.specs.Meaning.{IsKnownKind}

-- what is so of all is so of the one at a place
all_get : {A : Type 0} (P : A → Type 0) (xs : List A) (i : ℕ) (x : A) → All P xs → slice_get xs i ≡ Some x → P x
all_get P [] i x p h = absurd (cc h)
all_get P (y ∷ ys) zero x p h = let e : y ≡ x = cc h in subst P e (p 0 y (omega arith))
all_get P (y ∷ ys) (suc i) x p h = all_get P ys i x (λ k d less. p (suc k) d (omega (arith, less))) h

-- the kind that the machine's instruction names is known
abbrev KnownWord : List GType → words.Instruction → Type 0
KnownWord types (words.convert to from kind) = IsKnownKind types kind
KnownWord types _ = Unit {0}

module _ (types : List GType) where
  seen_kind : (kind : Kind) → IsKnown types kind → IsKnownKind types (kind_view kind)
  seen_kind kinds.Bool h = tt
  seen_kind kinds.Int h = tt
  seen_kind kinds.UInt h = tt
  seen_kind kinds.Int64 h = tt
  seen_kind kinds.UInt64 h = tt
  seen_kind kinds.Text h = tt
  seen_kind (kinds.Enum t) h = h
  seen_kind (kinds.Flags t) h = h
  seen_kind (kinds.Object t) h = tt

  kind_seen : (kind : Kind) → IsKnownKind types (kind_view kind) → IsKnown types kind
  kind_seen kinds.Bool h = tt
  kind_seen kinds.Int h = tt
  kind_seen kinds.UInt h = tt
  kind_seen kinds.Int64 h = tt
  kind_seen kinds.UInt64 h = tt
  kind_seen kinds.Text h = tt
  kind_seen (kinds.Enum t) h = h
  kind_seen (kinds.Flags t) h = h
  kind_seen (kinds.Object t) h = tt

  computation_seen : (c : Computation) (to : ℕ) → KnownWord types (instruction_of c to) → HasKnownKind types c
  computation_seen (computations.Const v) to h = tt
  computation_seen (computations.Move from) to h = tt
  computation_seen computations.Clear to h = tt
  computation_seen (computations.Arithmetic operation a b) to h = tt
  computation_seen (computations.Compare comparison a b) to h = tt
  computation_seen (computations.Same a b) to h = tt
  computation_seen (computations.Not a) to h = tt
  computation_seen (computations.And a b) to h = tt
  computation_seen (computations.Or a b) to h = tt
  computation_seen (computations.Join a b) to h = tt
  computation_seen (computations.Convert a kind) to h = kind_seen kind h

  seen_computation : (c : Computation) (to : ℕ) → HasKnownKind types c → KnownWord types (instruction_of c to)
  seen_computation (computations.Const v) to h = tt
  seen_computation (computations.Move from) to h = tt
  seen_computation computations.Clear to h = tt
  seen_computation (computations.Arithmetic operation a b) to h = tt
  seen_computation (computations.Compare comparison a b) to h = tt
  seen_computation (computations.Same a b) to h = tt
  seen_computation (computations.Not a) to h = tt
  seen_computation (computations.And a b) to h = tt
  seen_computation (computations.Or a b) to h = tt
  seen_computation (computations.Join a b) to h = tt
  seen_computation (computations.Convert a kind) to h = seen_kind kind h

  instruction_seen : (i : Instruction) → KnownWord types (instruction_view i) → HasKnownKinds types i
  instruction_seen (instructions.Compute to c) h = computation_seen c to.0 h
  instruction_seen _ h = tt

  seen_instruction : (i : Instruction) → HasKnownKinds types i → KnownWord types (instruction_view i)
  seen_instruction (instructions.Compute to c) h = seen_computation c to.0 h
  seen_instruction (instructions.Control i) h = by i
    where
      by : (i : ControlInstruction) → KnownWord types (control_view i)
      by (controls.Jump to) = tt
      by (controls.Branch on then_to else_to) = tt
      by (controls.BranchNull on then_to else_to) = tt
      by (controls.Return from) = tt
  seen_instruction (instructions.Property i) h = by i
    where
      by : (i : PropertyInstruction) → KnownWord types (property_instruction_view i)
      by (properties.Get to object property) = tt
      by (properties.Set object property from) = tt
      by (properties.Notify object property) = tt
      by (properties.Freeze object) = tt
      by (properties.Thaw object) = tt
  seen_instruction (instructions.Object i) h = by i
    where
      by : (i : ObjectInstruction) → KnownWord types (object_instruction_view i)
      by (objects.LookUp to id) = tt
      by (objects.New to id) = tt
      by (objects.Sink object) = tt
      by (objects.Orphan object) = tt
      by (objects.Dispose object) = tt
      by (objects.Adopt to parent child) = tt
  seen_instruction (instructions.Signal i) h = by i
    where
      by : (i : SignalInstruction) → KnownWord types (signal_instruction_view i)
      by (signals.Emit into object signal detail args) = tt
      by (signals.Connect to object connection) = tt
      by (signals.Disconnect object program) = tt
      by (signals.Block object program) = tt
      by (signals.Unblock object program) = tt
      by signals.Stop = tt
  seen_instruction (instructions.Source i) h = by i
    where
      by : (i : SourceInstruction) → KnownWord types (source_instruction_view i)
      by (sources.Unbind name) = tt
      by (sources.Idle to program priority with) = tt
      by (sources.Timeout to program priority interval with) = tt
      by (sources.Remove program) = tt
  seen_instruction (instructions.Peer c) h = tt

  -- the kind of a result
  pub known_result : (result : Option Kind) → IfSome result (λ k. IsKnown types k) → IfSome (option_map kind_view result) (IsKnownKind types)
  known_result None h = tt
  known_result (Some kind) h = seen_kind kind h

  -- of the instruction at a place of a block
  of_code : (b : Block) (at : ℕ) (word : words.Instruction) → HasKnownCode types b → slice_get (block_view b).code at ≡ Some word → KnownWord types word
  of_code b at word known is = by (slice_get b.code.items at) refl (sym (slice_get-map instruction_view b.code.items at) ∙ is)
    where
      by : (found : Option Instruction) → slice_get b.code.items at ≡ found → option_map instruction_view found ≡ Some word → KnownWord types word
      by None there e = absurd (cc e)
      by (Some i) there e =
          let same : instruction_view i ≡ word = cc e in
          let of = all_get (λ i. HasKnownKinds types i) b.code.items at i known there in
          subst (KnownWord types) same (seen_instruction i of)

  of_block : (p : Program) (n at : ℕ) (block : words.Block) (word : words.Instruction) → HasKnownBlocks types p → slice_get (program_view p).blocks n ≡ Some block
      → slice_get block.code at ≡ Some word → KnownWord types word
  of_block p n at block word known there is = by (slice_get p.blocks.items n) refl (sym (slice_get-map block_view p.blocks.items n) ∙ there)
    where
      by : (found : Option Block) → slice_get p.blocks.items n ≡ found → option_map block_view found ≡ Some block → KnownWord types word
      by None none e = absurd (cc e)
      by (Some b) some e =
          let same : block ≡ block_view b = cc e in
          of_code b at word (all_get (λ b. HasKnownCode types b) p.blocks.items n b known.0 some) (subst (λ (x : words.Block). slice_get x.code at ≡ Some word) same is)

  -- an instruction that a frame takes
  pub taken_known : (p : Program) (f g : config.Frame) (i : Instruction) → HasKnownBlocks types p
      → taken_in (program_view p) f ≡ Some (record { instruction = instruction_view i; frame = g }) → HasKnownKinds types i
  taken_known p f g i known is = by (slice_get (program_view p).blocks f.block) refl is
    where
      in_code : (block : words.Block) → slice_get (program_view p).blocks f.block ≡ Some block → (found : Option words.Instruction) → slice_get block.code (in_pass block f).at ≡ found
          → ◌≡◌ {A = Option Taken} (option_map (λ w. record { instruction = w; frame = past (in_pass block f) }) found) (Some (record { instruction = instruction_view i; frame = g })) → HasKnownKinds types i
      in_code block there None at e = absurd (cc e)
      in_code block there (Some word) at e =
          let taken : ◌≡◌ {A = Taken} (record { instruction = word; frame = past (in_pass block f) }) (record { instruction = instruction_view i; frame = g }) = cc e in
          let same : word ≡ instruction_view i = ap (λ (t : Taken). t.instruction) taken in
          let of = subst (KnownWord types) same (of_block p f.block (in_pass block f).at block word known there at) in
          instruction_seen i of

      by : (block : Option words.Block) → slice_get (program_view p).blocks f.block ≡ block → option_and_then (taken_of f) block ≡ Some (record { instruction = instruction_view i; frame = g }) → HasKnownKinds types i
      by None none e = absurd (cc e)
      by (Some block) there e = in_code block there (slice_get block.code (in_pass block f).at) refl e
