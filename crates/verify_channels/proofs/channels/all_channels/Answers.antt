use Rattle.std.proofs.Common.{◌≡◌, ◌∙◌, inl, inr, sym, ap, subst, ◌∷◌, [], List, length, length-append, map, slice_get, arith}
use Rattle.std.proofs.lemmas.List.{length-map}
use Rattle.verify_sketches.specs.View.{channel_view}
use Rattle.verify_sketches.specs.Sketches.{SketchedChannel}
use Rattle.verify_graph.proofs.Prefixes.{mapped_last}
use Rattle.verify_channels.specs.Raised.{IsRaised}
use Rattle.verify_channels.proofs.MeantLists.{last_cases}
use Rattle.verify_channels.proofs.channels.all_channels.Goals as goal

pub loop-number-preserved : goal.loop-number-preserved
loop-number-preserved c =
    let d = c.args.lookups.now in
    let all = c.args.numbers.now in
    let paired = c.args.paired.now in
    let parts = c.args.parts.now in
    let old = c.loop-number.channels.items in
    let x = c.in_ok-channel.channel in
    let items = c.in_ok-push.ensures.items in
    let e = ap length items in
    let l = length-append old (x ∷ []) in
    let seen = mapped_last channel_view old c.push.new.self.items x items in
    let count = length-map old channel_view ∙ c.loop-number.invariant.count in
    record {
      count = omega (arith, e, l, c.loop-number.invariant.count);
      each = λ n k is.
          elim (last_cases (map channel_view old) (channel_view x) n k (ap (λ (ks : List SketchedChannel). slice_get ks n) (sym seen) ∙ is)) [
            | inl h ↦ c.loop-number.invariant.each n k h
            | inr h ↦ subst (λ m. IsRaised d all paired parts m k) (sym (h.0 ∙ count)) (subst (λ (j : SketchedChannel). IsRaised d all paired parts c.loop-number.number j) h.1 c.in_ok-channel.ensures)
          ];
    }

pub returns : goal.returns
returns c =
    let n = c.loop-number.number in
    let whole : n ≡ length c.args.numbers.now = omega (arith, c.count-number-end.ensures.count) in
    record {
      count = length-map c.loop-number.channels.items channel_view ∙ (c.loop-number.invariant.count ∙ whole);
      each = c.loop-number.invariant.each;
    }
