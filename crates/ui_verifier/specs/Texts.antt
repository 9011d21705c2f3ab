-- Texts of cycles, link by link.
use Rattle.std.specs.Prelude.{ℕ, suc, nat_eq, cond, List, [], ◌∷◌, ◌++◌, codes}
use Rattle.ui_machine.specs.Definition.{Definition}
use Rattle.law_typing.specs.Graph.Channels.{Link}
use Rattle.law_typing.specs.Verdict.FaultText.{link_text}

-- what is before the link of a number
abbrev pub separator : ℕ → List ℕ
separator number = cond (nat_eq number 0) [] (codes ", ")

-- the links from a number on, each with what is before it
abbrev pub links_from : Definition → ℕ → List Link → List ℕ
links_from d number [] = []
links_from d number (l ∷ more) = separator number ++ (link_text d l ++ links_from d (suc number) more)
