use Rattle.std.proofs.Common.{◌<◌, length, subst, sym, ap, ◌∙◌}
use Rattle.ui_machine.specs.State.Sources.{is_numbered, without_source}
use Rattle.main_context.specs.Attached.{IsKept}
use Rattle.main_context.specs.Places.{IsThere, idle_rank, index_from, place_by, program_place, program_rank, timeout_rank, without_any, without_place}
use Rattle.main_context.proofs.Kept.{kept_less, kept_none}
use Rattle.main_context.proofs.Ranked.{place_there, places_ascend}
use Rattle.main_context.proofs.context.Context.take.Goals as goal

pub invariant_of-self : goal.invariant_of-self
invariant_of-self c =
    subst (λ l. IsKept l c.self.inside.programs.items c.self.inside.idles.items c.self.inside.timeouts.items c.self.inside.last) (sym c.take.ensures.left)
    (kept_none c.args.number c.self.inside.sources.items c.self.inside.programs.items c.self.inside.idles.items c.self.inside.timeouts.items c.self.inside.last (sym c.in_err-source.ensures.given) c.self.invariant)

pub take-requires-2-clause-ascending : goal.take-requires-2-clause-ascending
take-requires-2-clause-ascending c = places_ascend program_rank c.self.inside.sources.items c.self.inside.programs.items c.self.invariant.by_program

pub take-requires-2-clause-there : goal.take-requires-2-clause-there
take-requires-2-clause-there c =
    subst (λ p. index_from p c.self.inside.programs.items < length c.self.inside.programs.items) (sym c.program_place.ensures)
    (place_there program_rank (is_numbered c.args.number) c.in_ok-source.source c.self.inside.sources.items c.self.inside.programs.items (sym c.in_ok-source.ensures.given) c.self.invariant.by_program)

pub take_any-requires-clause-ascending : goal.take_any-requires-clause-ascending
take_any-requires-clause-ascending c = places_ascend idle_rank c.self.inside.sources.items c.self.inside.idles.items c.self.invariant.by_priority

pub take_any-requires-clause-there : goal.take_any-requires-clause-there
take_any-requires-clause-there c =
    subst (λ p. IsThere p c.self.inside.idles.items) (sym c.idle_place.ensures)
    (place_there idle_rank (is_numbered c.args.number) c.in_ok-source.source c.self.inside.sources.items c.self.inside.idles.items (sym c.in_ok-source.ensures.given) c.self.invariant.by_priority)

pub take_any-requires-2-clause-ascending : goal.take_any-requires-2-clause-ascending
take_any-requires-2-clause-ascending c = places_ascend timeout_rank c.self.inside.sources.items c.self.inside.timeouts.items c.self.invariant.by_due

pub take_any-requires-2-clause-there : goal.take_any-requires-2-clause-there
take_any-requires-2-clause-there c =
    subst (λ p. IsThere p c.self.inside.timeouts.items) (sym c.timeout_place.ensures)
    (place_there timeout_rank (is_numbered c.args.number) c.in_ok-source.source c.self.inside.sources.items c.self.inside.timeouts.items (sym c.in_ok-source.ensures.given) c.self.invariant.by_due)

pub invariant_of-self-2 : goal.invariant_of-self-2
invariant_of-self-2 c =
    let inside = c.self.inside in
    let s = c.in_ok-source.source in
    let l = without_source c.args.number inside.sources.items in
    let ps = without_place (program_place s) inside.programs.items in
    let is = without_any (place_by idle_rank s) inside.idles.items in
    let programs = c.take-2.ensures.left ∙ ap (λ p. without_place p inside.programs.items) c.program_place.ensures in
    let idles = c.take_any.ensures ∙ ap (λ p. without_any p inside.idles.items) c.idle_place.ensures in
    let timeouts = c.take_any-2.ensures ∙ ap (λ p. without_any p inside.timeouts.items) c.timeout_place.ensures in
    subst (λ m. IsKept m c.take-2.new.places.items c.take_any.new.places.items c.take_any-2.new.places.items inside.last) (sym c.take.ensures.left)
    (subst (λ m. IsKept l m c.take_any.new.places.items c.take_any-2.new.places.items inside.last) (sym programs)
    (subst (λ m. IsKept l ps m c.take_any-2.new.places.items inside.last) (sym idles)
    (subst (λ m. IsKept l ps is m inside.last) (sym timeouts)
    (kept_less c.args.number s inside.sources.items inside.programs.items inside.idles.items inside.timeouts.items inside.last (sym c.in_ok-source.ensures.given) c.self.invariant))))
