use Rattle.std.proofs.Common.{◌+◌, ◌++◌, ◌∷◌, [], ◌≡◌, ◌<◌, length, subst, sym, arith, ap, ◌∙◌}
use Rattle.ui_machine.specs.State.Sources.{Source}
use Rattle.main_context.specs.Attached.{IsKept}
use Rattle.main_context.specs.Places.{IsAscending, idle_rank, place_by, program_place, program_rank, timeout_rank, with_any, with_place}
use Rattle.main_context.proofs.Kept.{kept_more}
use Rattle.main_context.proofs.Ranked.{places_ascend}
use Rattle.main_context.proofs.context.Context.attach.Goals as goal

pub add-requires-clause-ascending : goal.add-requires-clause-ascending
add-requires-clause-ascending c =
    subst IsAscending (sym c.reserve.ensures.items) (places_ascend program_rank c.self.inside.sources.items c.self.inside.programs.items c.self.invariant.by_program)

pub add_any-requires-clause-ascending : goal.add_any-requires-clause-ascending
add_any-requires-clause-ascending c =
    subst IsAscending (sym c.reserve-2.ensures.items) (places_ascend idle_rank c.self.inside.sources.items c.self.inside.idles.items c.self.invariant.by_priority)

pub add_any-requires-2-clause-ascending : goal.add_any-requires-2-clause-ascending
add_any-requires-2-clause-ascending c =
    subst IsAscending (sym c.reserve-3.ensures.items) (places_ascend timeout_rank c.self.inside.sources.items c.self.inside.timeouts.items c.self.invariant.by_due)

pub invariant_of-self-2 : goal.invariant_of-self-2
invariant_of-self-2 c =
    let s = c.new-source.result in
    let inside = c.self.inside in
    let next : c.in-Some.number ≡ inside.last + 1 = omega (arith, c.in-Some.ensures) in
    let room : length inside.sources.items < 256 = omega (arith, c.if-len-ge-MAX_SOURCES.false, c.len.ensures) in
    let programs = c.add.ensures ∙ ap (with_place c.program_place-program.result) c.reserve.ensures.items ∙ ap (λ p. with_place p inside.programs.items) c.program_place-program.ensures in
    let idles = c.add_any.ensures ∙ ap (with_any c.idle_place-idle.result) c.reserve-2.ensures.items ∙ ap (λ p. with_any p inside.idles.items) c.idle_place-idle.ensures in
    let timeouts = c.add_any-2.ensures ∙ ap (with_any c.timeout_place-timeout.result) c.reserve-3.ensures.items ∙ ap (λ p. with_any p inside.timeouts.items) c.timeout_place-timeout.ensures in
    let l = inside.sources.items ++ s ∷ [] in
    let ps = with_place (program_place s) inside.programs.items in
    let is = with_any (place_by idle_rank s) inside.idles.items in
    let ts = with_any (place_by timeout_rank s) inside.timeouts.items in
    subst (λ m. IsKept m c.add.new.places.items c.add_any.new.places.items c.add_any-2.new.places.items c.in-Some.number) (sym c.in_ok-push.ensures.items)
    (subst (λ m. IsKept l m c.add_any.new.places.items c.add_any-2.new.places.items c.in-Some.number) (sym programs)
    (subst (λ m. IsKept l ps m c.add_any-2.new.places.items c.in-Some.number) (sym idles)
    (subst (λ m. IsKept l ps is m c.in-Some.number) (sym timeouts)
    (subst (IsKept l ps is ts) (sym next)
    (kept_more s inside.sources.items inside.programs.items inside.idles.items inside.timeouts.items inside.last (ap (λ (s : Source). s.number) c.new-source.ensures ∙ next) room c.self.invariant)))))
