use Rattle.std.proofs.Common.{◌≡◌, ◌∙◌, ◌+◌, ◌++◌, ◌<◌, ◌≤◌, List, ℕ, length, sym, ap, subst, arith}
use Rattle.std.proofs.lemmas.Result.{err_from_is_err_and}
use Rattle.ui_machine.specs.Definition.{Definition}
use Rattle.law_typing.specs.Graph.Channels.{channels_at}
use Rattle.verify_graph.specs.ChannelView.{channels_of}
use Rattle.verified.specs.Lines.{channel_lines, place_lines}
use Rattle.verified.specs.Writing.{Reports, Stops}
use Rattle.verified.specs.declared.faults.ReportFault.TheVariants as faults
use Rattle.verified.proofs.Pieces.{more_came, none_came, same_came, stopped, stops_after, stops_early}
use Rattle.verified.proofs.ReportLines.{all_places, first_places, more_places, next_lines, other_places, split_places}
use Rattle.verified.proofs.verified.Verified.report_channels.Goals as goal

pub returns-in_err-lookups-clause-lines : goal.returns-in_err-lookups-clause-lines
returns-in_err-lookups-clause-lines g c a =
    let p = err_from_is_err_and c.from_residual.result c.from_residual.ensures.1 in
    stopped c.from_residual.result p.0 faults.OutOfMemory _ _ (channel_lines c.args.self.now a) p.1 p.2 (none_came _ (channel_lines c.args.self.now a))

pub returns-in_err-channels-clause-lines : goal.returns-in_err-channels-clause-lines
returns-in_err-channels-clause-lines g c a =
    let d = c.args.self.now in
    let n = c.loop-place.place in
    let r = c.from_residual-in_err-channels in
    let p = err_from_is_err_and r.result r.ensures.1 in
    subst (Reports r.result _ _) (split_places d a n)
    (stopped r.result p.0 faults.OutOfMemory _ _ (first_places d a n ++ other_places d a n) p.1 p.2
    (stops_after faults.OutOfMemory _ _ _ (first_places d a n) (other_places d a n) (c.loop-place.invariant.came a) (none_came _ (other_places d a n))))

pub returns-in_err-report_place-clause-lines : goal.returns-in_err-report_place-clause-lines
returns-in_err-report_place-clause-lines g c a =
    let d = c.args.self.now in
    let n = c.loop-place.place in
    let count = ap (λ (x : Definition). length x.places) c.definition-2.ensures.same in
    let within : n < length d.places = omega (arith, c.loop-place-test.true, c.place_count-place-end.ensures.count, count) in
    let are = ap channels_of c.as_slice.ensures.value ∙ (c.in_ok-channels.ensures ∙ ap (λ (x : Definition). channels_at x n) (c.in_ok-lookups.ensures ∙ c.definition.ensures.same)) in
    let e = c.in_err-report_place.field-0.0 in
    let r = c.from_residual-in_err-report_place in
    let p = err_from_is_err_and r.result r.ensures.1 in
    let stops = stops_early e _ _ (place_lines d a n) (other_places d a (n + 1)) (c.in_err-report_place.ensures.lines n a within are) in
    subst (Reports r.result _ _) (split_places d a n)
    (stopped r.result p.0 e _ _ (first_places d a n ++ other_places d a n) p.1 p.2
    (stops_after e _ _ _ (first_places d a n) (other_places d a n) (c.loop-place.invariant.came a) (subst (Stops e _ _) (next_lines d a n within) stops)))

pub loop-place-preserved : goal.loop-place-preserved
loop-place-preserved g c =
    let d = c.args.self.now in
    let n = c.loop-place.place in
    let count = ap (λ (x : Definition). length x.places) c.definition-2.ensures.same in
    let within : n < length d.places = omega (arith, c.loop-place-test.true, c.place_count-place-end.ensures.count, count) in
    let are = ap channels_of c.as_slice.ensures.value ∙ (c.in_ok-channels.ensures ∙ ap (λ (x : Definition). channels_at x n) (c.in_ok-lookups.ensures ∙ c.definition.ensures.same)) in
    record {
      came = λ a.
          same_came _ _ _ _ (more_places d a n within)
          (more_came _ _ _ (first_places d a n) (place_lines d a n) (c.loop-place.invariant.came a) (c.in_ok-report_place.ensures.lines n a within are));
      works = c.in_ok-report_place.ensures.marks;
    }

pub returns-clause-lines : goal.returns-clause-lines
returns-clause-lines g c a =
    let d = c.args.self.now in
    let n = c.loop-place.place in
    let count = ap (λ (x : Definition). length x.places) c.definition-2.ensures.same in
    let past : length d.places ≤ n = omega (arith, c.loop-place-test.false, c.place_count-place-end.ensures.count, count) in
    same_came _ _ _ _ (all_places d a n past) (c.loop-place.invariant.came a)
