-- A transcript that grows line by line.
use Rattle.std.proofs.Common.{◌≡◌, refl, ap, sym, ◌∙◌, ℕ, List, [], ◌∷◌, ◌++◌, map}
use Rattle.std.proofs.lemmas.List.{append-nil}
use Rattle.ui_machine.specs.Definition.{Definition}
use Rattle.ui_machine.specs.Output.Lines.{Line}
use Rattle.ui_machine.specs.Output.Text.{text_of_line}
use Rattle.law_typing.proofs.Lists.{each_append}
use Rattle.law_typing.specs.Verdict.Accepted.{Each}
use Rattle.law_line_lengths.specs.LineLengths.{IsLikeLineOf}
use Rattle.law_line_lengths.specs.StepLines.{Grows}

pub grows_not : (d : Definition) (before : List (List ℕ)) → Grows d before before
grows_not d before = record { said = []; by = record { grown = sym (append-nil before); short = tt } }

pub grows_once : (d : Definition) (before : List (List ℕ)) (line : Line) → IsLikeLineOf d line → Grows d before (before ++ text_of_line d.types line ∷ [])
grows_once d before line is = record { said = line ∷ []; by = record { grown = refl; short = (is, tt) } }

each_last : (P : Line → Type 0) (said : List Line) (line : Line) → Each P said → P line → Each P (said ++ line ∷ [])
each_last P [] line all p = (p, tt)
each_last P (x ∷ said) line all p = (all.0, each_last P said line all.1 p)

map_last : (f : Line → List ℕ) (before : List (List ℕ)) (said : List Line) (line : Line) → (before ++ map f said) ++ f line ∷ [] ≡ before ++ map f (said ++ line ∷ [])
map_last f (x ∷ before) said line = ap (λ xs. x ∷ xs) (map_last f before said line)
map_last f [] [] line = refl
map_last f [] (x ∷ said) line = ap (λ xs. f x ∷ xs) (map_last f [] said line)

pub grows_more : (d : Definition) (before mid : List (List ℕ)) → Grows d before mid → (line : Line) → IsLikeLineOf d line → Grows d before (mid ++ text_of_line d.types line ∷ [])
grows_more d before mid g line is = record {
  said = g.said ++ line ∷ [];
  by = record {
    grown = ap (λ (t : List (List ℕ)). t ++ text_of_line d.types line ∷ []) g.by.grown ∙ map_last (text_of_line d.types) before g.said line;
    short = each_last (IsLikeLineOf d) g.said line g.by.short is;
  };
}

-- ** one growth after another

map_joined : (f : Line → List ℕ) (before : List (List ℕ)) (first later : List Line) → (before ++ map f first) ++ map f later ≡ before ++ map f (first ++ later)
map_joined f (x ∷ before) first later = ap (λ xs. x ∷ xs) (map_joined f before first later)
map_joined f [] [] later = refl
map_joined f [] (x ∷ first) later = ap (λ xs. f x ∷ xs) (map_joined f [] first later)

pub grows_on : (d : Definition) (before mid after : List (List ℕ)) → Grows d before mid → Grows d mid after → Grows d before after
grows_on d before mid after g h = record {
  said = g.said ++ h.said;
  by = record {
    grown = h.by.grown ∙ (ap (λ (t : List (List ℕ)). t ++ map (text_of_line d.types) h.said) g.by.grown ∙ map_joined (text_of_line d.types) before g.said h.said);
    short = each_append (IsLikeLineOf d) g.said h.said g.by.short h.by.short;
  };
}
