use Rattle.std.proofs.Common.{◌∙◌, refl, sym, ap, nat_lt, option_map, None, Some}
use Rattle.std.specs.List.{find}
use Rattle.law_typing.specs.Graph.{graph}
use Rattle.law_typing.specs.Graph.Channels as entries
use Rattle.law_typing.specs.Verdict.{most_bound}
use Rattle.verified.specs.Entries.{entry_of}
use Rattle.verified.specs.declared.numbers.SourceBound.{SourceBound}
use Rattle.ui_verifier.specs.Large.{large_source}
use Rattle.ui_verifier.proofs.LargeProofs.{build_small, first_of_rest, source_found}
use Rattle.ui_verifier.proofs.large_bounds.too_large.Goals as goal

pub returns-in-Some : goal.returns-in-Some
returns-in-Some c d by_rank t by_depth capped known =
    first_of_rest d t (option_map entry_of (Some c.in-Some.entry)) (large_source d t (graph d).sources)
    (build_small d t c.args.numbers.now.build capped.build c.if-numbers-gt-MOST_BOUND.false)
    (sym (ap (option_map entry_of) c.in-Some.is) ∙ c.large_channel.ensures d by_rank t by_depth capped known) refl

pub returns-in-Some-large_source : goal.returns-in-Some-large_source
returns-in-Some-large_source c d by_rank t by_depth capped known =
    first_of_rest d t None (Some (entries.source c.in-Some-large_source.source.program))
    (build_small d t c.args.numbers.now.build capped.build c.if-numbers-gt-MOST_BOUND.false)
    (sym (ap (option_map entry_of) c.in_default.is) ∙ c.large_channel.ensures d by_rank t by_depth capped known)
    (ap (option_map (λ (s : SourceBound). entries.source s.program))
    (sym c.in-Some-large_source.is ∙ (c.large_source.ensures ∙ ap (λ ss. find (λ (s : SourceBound). nat_lt most_bound s.bound) ss) c.as_slice.ensures.value))
    ∙ source_found d t c.args.numbers.now.sources.items (graph d).sources capped.sources)

pub returns-in-None : goal.returns-in-None
returns-in-None c d by_rank t by_depth capped known =
    first_of_rest d t None None
    (build_small d t c.args.numbers.now.build capped.build c.if-numbers-gt-MOST_BOUND.false)
    (sym (ap (option_map entry_of) c.in_default.is) ∙ c.large_channel.ensures d by_rank t by_depth capped known)
    (ap (option_map (λ (s : SourceBound). entries.source s.program))
    (sym c.in-None.is ∙ (c.large_source.ensures ∙ ap (λ ss. find (λ (s : SourceBound). nat_lt most_bound s.bound) ss) c.as_slice.ensures.value))
    ∙ source_found d t c.args.numbers.now.sources.items (graph d).sources capped.sources)
