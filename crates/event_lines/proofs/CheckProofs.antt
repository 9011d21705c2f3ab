-- What a check comes to.
use Rattle.std.proofs.Common.{◌≡◌, ℕ, Bool, List, [], ◌∷◌, codes, String, Global, Option, None, Ok, refl, subst, inl, inr}
use Rattle.std.specs.Prelude.{string_bytes, ◌⊎◌}
use Rattle.ui_machine.specs.Definition.{Definition}
use Rattle.law_typing.specs.Rules.Faults.{Fault}
use Rattle.law_typing.specs.Verdict.Accepted.{Accepted}
use Rattle.law_typing.specs.Verdict.FaultText.{fault_text}
use Rattle.law_typing.specs.Verdict.Judges.{Judges}
use Rattle.verified.specs.Lines.{report_of}
use Rattle.builder_defs.specs.Denoted.{denoted}
use Rattle.event_lines.specs.Checks.{Checked, IsSaid, IsReported, refused, unjudged, rejected, accepted}
use Rattle.event_lines.specs.CheckView.{IsUnread, IsRejected}
use Rattle.event_lines.specs.Opening.{Concludes, rejected_text}
use Rattle.event_lines.specs.Texts.{joined, nothing_begun}
use Rattle.event_lines.specs.Writing.{Sent, Sends}

-- the one line of a refusal
abbrev pub line_of : List ℕ → List ℕ
line_of text = joined (codes "refused: " ∷ text ∷ codes "\n" ∷ [])

pub line_is : (d : Definition) (fault : Fault) → line_of (fault_text d fault) ≡ rejected_text d fault
line_is d fault = refl

module _ (bytes : List ℕ) (a c : Sent) (status : ℕ) (torn : Bool) where
  abbrev IsWritten : List ℕ → ℕ → Type 0
  IsWritten whole answer = (out : List ℕ) × Concludes whole answer status torn out × Sends 0 0 a c out

  said : (whole : List ℕ) (answer : ℕ) → IsWritten whole answer → IsSaid whole answer status torn a.bytes c.bytes
  said whole answer w = (w.0, w.1, w.2.appends)

  pub checked_refused : (text : String Global) → IsUnread bytes (string_bytes text) ⊎ IsRejected bytes (string_bytes text) → IsWritten (line_of (string_bytes text)) 1 → Checked bytes status torn a.bytes c.bytes
  checked_refused text (inl (refusal, denotes, is)) w =
      record { check = refused refusal; comes = denotes; shows = said _ _ (subst (λ t. IsWritten (line_of t) 1) is w) }
  checked_refused text (inr (d, fault, denotes, judged, is)) w = record {
    check = rejected d fault;
    comes = (denotes, judged);
    shows = said _ _ (subst (λ t. IsWritten t 1) (line_is d fault) (subst (λ t. IsWritten (line_of t) 1) is w));
  }

  pub checked_unjudged : IsWritten nothing_begun 3 → Checked bytes status torn a.bytes c.bytes
  checked_unjudged w = record { check = unjudged; comes = tt; shows = said _ _ w }

pub checked_accepted : (bytes : List ℕ) (old new : Option (List ℕ)) (status : ℕ) (torn : Bool) (d : Definition) → (denoted bytes ≡ Ok d) × Judges d None → Accepted d
    → ((a : Accepted d) → IsReported (report_of d a) status torn old new) → Checked bytes status torn old new
checked_accepted bytes old new status torn d judged is reports = record { check = accepted d; comes = judged; shows = (is, reports) }
