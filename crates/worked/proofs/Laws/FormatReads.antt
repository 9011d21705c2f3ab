-- What the texts of both formats denote.
use Rattle.std.proofs.Common.{◌≡◌, Ok, refl}
use Rattle.std.specs.Fmt.{digits}
use Rattle.serde_json.specs.Data.{Data}
use Rattle.definition_format.specs.Denoted.{definition_in, denoted}
use Rattle.definition_format.specs.Document.{document}
use Rattle.worked.specs.Laws.WorkedFormats.{FormatsMet, first}
use Rattle.worked.proofs.Laws.OnLiterals.{text_on_literals, types_on_literals, programs_on_literals, objects_on_literals}

first_read : (v : Data) × (document first ≡ Ok v)
unfolding text_on_literals
first_read = (_, refl)

pub formats_met : FormatsMet
unfolding denoted definition_in first_read text_on_literals types_on_literals programs_on_literals objects_on_literals digits
formats_met = record {
  value = first_read.0;
  read = first_read.1;
  changed = refl;
  is_first = refl;
  denotes = refl;
  same = refl;
  repeated = refl;
  refused = refl;
}
