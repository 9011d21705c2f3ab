use Rattle.std.proofs.Common.{◌≡◌, ◌++◌, drop, map, string_bytes}
use Rattle.law_typing.specs.Verdict.FaultText.{links_text}
use Rattle.ui_verifier.specs.Texts.{links_from}
use Rattle.ui_verifier.specs.Verdicts.{link_view}
use Rattle.ui_verifier.proofs.texts.links_text.Given as goal

abbrev pub invariant-loop-number : goal.invariant-loop-number
invariant-loop-number l =
    string_bytes l.text ++ links_from l.definition l.number (drop l.number (map link_view l.links)) ≡ links_text l.definition (map link_view l.links)
