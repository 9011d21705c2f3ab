-- What a document denotes, the bytes that hold it denote.
use Rattle.std.proofs.Common.{◌≡◌, ℕ, List, Result, Ok, ap, ◌∙◌}
use Rattle.serde_json.specs.Data.{Data}
use Rattle.ui_machine.specs.Outcome.{◌>>=◌}
use Rattle.ui_machine.specs.Definition.{Definition}
use Rattle.definition_format.specs.Refusals.{Refusal}
use Rattle.definition_format.specs.Document.{document}
use Rattle.definition_format.specs.Denoted.{definition_in, denoted}
use Rattle.definition_format.specs.Origin.{IsDenoted}

held : (bytes : List ℕ) (value : Data) (d : Definition) → document bytes ≡ Ok value → definition_in value ≡ Ok d → denoted bytes ≡ Ok d
unfolding denoted
held bytes value d read is = ap (λ (r : Result Data Refusal). r >>= λ v. definition_in v) read ∙ is

pub by_document : (bytes : List ℕ) (value : Data) (d : Definition) → document bytes ≡ Ok value → definition_in value ≡ Ok d → IsDenoted d
by_document bytes value d read is = record { bytes = bytes; is = held bytes value d read is }
