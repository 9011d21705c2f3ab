-- What a report comes to: all its lines, or the first of them and the line of a want of memory, or a part of them where the writer failed.
use Rattle.std.proofs.Common.{◌≡◌, refl, sym, ap, ◌∙◌, ℕ, Bool, true, false, List, ◌++◌, append_assoc, Option, inl, inr}
use Rattle.std.proofs.KnownBytes.{Appends-trans}
use Rattle.std.specs.Io.KnownBytes.{Appends}
use Rattle.ui_machine.specs.Prefix.{IsPrefix}
use Rattle.verified.specs.Writing.{AppendsLines, AppendsPart, lines_text}
use Rattle.event_lines.specs.Checks.{IsReported}
use Rattle.event_lines.specs.Opening.{Concludes}
use Rattle.event_lines.specs.Texts.{nothing_begun}
use Rattle.event_lines.specs.Writing.{Sent, Sends}

-- what was concluded behind some bytes
behind : (before whole : List ℕ) (answer status : ℕ) (torn : Bool) (out : List ℕ) → Concludes whole answer status torn out →
    Concludes (before ++ whole) answer status torn (before ++ out)
behind before whole answer status torn out (inl (is, fails, p)) =
    inl (is, fails, record { more = p.more; whole = ap (λ t. before ++ t) p.whole ∙ sym (append_assoc before out p.more) })
behind before whole answer status torn out (inr (is, works, same)) = inr (is, works, ap (λ t. before ++ t) same)

-- the first lines of a report came, and then the line of a want of memory
pub cut_report : (lines : List (List ℕ)) (status : ℕ) (torn : Bool) (a : Option (List ℕ)) (b c : Sent) → AppendsLines a b.bytes lines →
    ((out : List ℕ) × Concludes nothing_begun 3 status torn out × Sends 0 0 b c out) → IsReported lines status torn a c.bytes
cut_report lines status torn a b c h w =
    inr (
      h.first,
      record { more = h.more; whole = h.split },
      (
        lines_text h.first ++ w.0,
        behind (lines_text h.first) nothing_begun 3 status torn w.0 w.1,
        Appends-trans a b.bytes c.bytes (lines_text h.first) w.0 h.appends w.2.appends,
      ),
    )

-- all lines of a report came
pub whole_report : (lines : List (List ℕ)) (torn : Bool) (a c : Option (List ℕ)) → torn ≡ false → Appends a c (lines_text lines) → IsReported lines 0 torn a c
whole_report lines torn a c works h = inl (lines_text lines, inr (refl, works, refl), h)

-- the writer failed within them
pub broken_report : (lines : List (List ℕ)) (torn : Bool) (a c : Option (List ℕ)) → torn ≡ true → AppendsPart a c (lines_text lines) → IsReported lines 4 torn a c
broken_report lines torn a c fails h = inl (h.part, inl (refl, fails, record { more = h.more; whole = h.split }), h.appends)
