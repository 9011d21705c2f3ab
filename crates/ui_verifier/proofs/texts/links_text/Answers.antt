use Rattle.std.proofs.Common.{◌≡◌, ◌∙◌, sym, ap, ◌++◌, ◌+◌, suc, map, drop, string_bytes}
use Rattle.std.proofs.lemmas.List.{append_assoc}
use Rattle.law_typing.specs.Verdict.FaultText.{link_text}
use Rattle.verify_numbers.proofs.Lists.{one_more}
use Rattle.ui_verifier.specs.Texts.{links_from, separator}
use Rattle.ui_verifier.specs.Verdicts.{link_view}
use Rattle.ui_verifier.proofs.LinkTexts.{from_first, from_link}
use Rattle.ui_verifier.proofs.texts.links_text.Goals as goal

pub loop-number-init : goal.loop-number-init
loop-number-init c =
    ap (λ xs. xs ++ links_from c.args.definition.now 0 (map link_view c.args.links.now)) c.new-text.ensures.bytes
    ∙ from_first c.args.definition.now (map link_view c.args.links.now)

pub loop-number-preserved : goal.loop-number-preserved
loop-number-preserved c =
    let d = c.args.definition.now in
    let n = c.loop-number.number in
    let ls = map link_view c.args.links.now in
    let x = c.link_at.result in
    let here = from_link link_view c.args.links.now n x c.link_at.ensures in
    let old = string_bytes c.loop-number.text in
    let sep = separator n in
    let words = link_text d (link_view x) in
    let rest = links_from d (suc n) (drop (suc n) ls) in
    let bytes : string_bytes c.push_str-in-loop-number.new.self ≡ (old ++ sep) ++ words =
    c.in_ok-push_str-2.ensures.bytes
    ∙ (ap (λ xs. xs ++ c.deref.result.now) c.in_ok-push_str.ensures.bytes
    ∙ (ap (λ xs. (old ++ xs) ++ c.deref.result.now) c.separator.ensures ∙ ap (λ xs. (old ++ sep) ++ xs) (c.deref.ensures ∙ c.in_ok-words.ensures))) in
    let more : n + 1 ≡ suc n = sym (one_more n) in
    ap (λ xs. xs ++ links_from d (n + 1) (drop (n + 1) ls)) bytes
    ∙ (ap (λ k. ((old ++ sep) ++ words) ++ links_from d k (drop k ls)) more
    ∙ (append_assoc (old ++ sep) words rest
    ∙ (append_assoc old sep (words ++ rest)
    ∙ (ap (λ xs. old ++ links_from d n xs) (sym here) ∙ c.loop-number.invariant))))
