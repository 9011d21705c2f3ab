use Rattle.law_reading.proofs.FirstProofs.{as_before}
use Rattle.law_reading.proofs.FormatProofs.{first_is_second, bytes_agree}
use Rattle.law_reading.proofs.formats.Goals as goal

pub returns : goal.returns
returns c = record { before = as_before; values = first_is_second; bytes = bytes_agree }
