-- Where the reading of a list stops: the first entry that is refused decides, unless memory ran out.
use Rattle.std.proofs.Common.{◌≡◌, ℕ, ◌<◌, List, map, length, drop, get_or, Result, Ok}
use Rattle.ui_machine.specs.Outcome.{◌>>=◌}
use Rattle.bytecode.specs.declared.faults.ProgramFault.{ProgramFault}
use Rattle.bytecode.specs.declared.errors.ProgramError.{ProgramError}
use Rattle.bytecode.specs.declared.errors.ProgramError.TheVariants as program_errors
use Rattle.bytecode.specs.declared.outline_faults.OutlineError.{OutlineError}
use Rattle.bytecode.specs.declared.outline_faults.OutlineError.TheVariants as outline_errors
use Rattle.bytecode.specs.Reading.Each.{each}
use Rattle.bytecode.specs.Reading.OutlineFaults as outlines
use Rattle.bytecode.specs.Reading.Programs as programs
use Rattle.handler_code.proofs.Each.{stops}

pub stops_outline : {S X V A : Type 0} (step : ℕ → S → X → Result S outlines.OutlineFault) (view : V → X) (vs : List V) (i : ℕ) (s : S) (total : Result S outlines.OutlineFault)
    (v : V) (e : OutlineError) (first : Result A outlines.OutlineFault) (add : A → S) → i < length vs → v ≡ get_or vs i v
    → step i s (view v) ≡ (first >>= λ a. Ok (add a)) → outlines.Fails e first → each step i s (map view (drop i vs)) ≡ total → outlines.Fails e total
stops_outline step view vs i s total v outline_errors.OutOfMemory first add lt is by h so = tt
stops_outline step view vs i s total v (outline_errors.Refused f) first add lt is by h so = stops step view vs i s total v (outlines.fault_view f) first add lt is by h so

pub stops_program : {S X V A : Type 0} (step : ℕ → S → X → Result S ProgramFault) (view : V → X) (vs : List V) (i : ℕ) (s : S) (total : Result S ProgramFault)
    (v : V) (e : ProgramError) (first : Result A ProgramFault) (add : A → S) → i < length vs → v ≡ get_or vs i v
    → step i s (view v) ≡ (first >>= λ a. Ok (add a)) → programs.Fails e first → each step i s (map view (drop i vs)) ≡ total → programs.Fails e total
stops_program step view vs i s total v program_errors.OutOfMemory first add lt is by h so = tt
stops_program step view vs i s total v (program_errors.Refused f) first add lt is by h so = stops step view vs i s total v f first add lt is by h so
