-- `nothing` makes a place of nothing.
use Rattle.std.proofs.Common.{[], ◌∷◌, refl}
use mir.Val.{Val}
use base.Logic.{SProp}
use types.Kit.{raw, ◌$◌, ◌∵◌, !, qed, by, keep, use0, drop}
use types.Run.{lit, no_more, and_then, returns, enter}
use types.ByLocal.{alloc_all, pass_all, free_all, look_at, sets}
use types.Part.{agg}
use base.Logic.{emp}
use contract.Monad.{fact, fact_i}
use contract.Running.{tables}
use denote.RawPtr.{null_ptr, ptr_val}
use denote.Steps.{nothing}
use denote.Triple.Entry.{on_entry}
use denote.Triple.Walked.{walk_of}
use Rattle.c_sessions.specs.declared.hosted_session.HostedSession.{HostedSession}
use Rattle.std.proofs.raw_atomic.Walks.{proved_at, leaves}
use Rattle.std.specs.Prelude.{◌≡◌, Option, None}
use Rattle.c_sessions.proofs.KeptValues.{one, kept_good, kept_in}
use Rattle.c_sessions.specs.contracts.kept.Kept.nothing as f
use Rattle.c_sessions.proofs.kept.Kept.nothing.Statement.{statement}
use Rattle.c_sessions.proofs.kept.Kept.nothing.Code as code

pub nothing_spec : {M : Type 1} → statement M
nothing_spec 𝓤 𝓛 𝓜 𝓡 wired =
    let c = f.clauses 𝓛 𝓜.mem 𝓡.returns in let 𝓣 = tables 𝓤 𝓛.H 𝓜 𝓡 𝓡.env in
    proved_at 𝓛 f.ended tt c 𝓜 𝓡 tt f.Key.name code.function (code.unfolded 𝓤 𝓛.H 𝓜 𝓡 wired) (λ z are.
    let Post : Val → SProp 𝓤 = (walk_of 𝓛 f.ended tt c).post z in
    let asked = raw ((c z.0.0 z.0.3).requires z.1) in
    qed 𝓛 (raw (on_entry 𝓛 f.signature z.0.0 z.0.1 z.0.3 z.0.4) ∷ asked ∷ []) ∵ drop ! $ drop ! $
    enter ! 𝓣.C 𝓣.Λ code.function [] Post $ alloc_all ! (λ l. pass_all ! refl tt $
    sets ! (agg ! (and_then ! (lit ! tt) (no_more !))) refl (kept_good null_ptr) $
    nothing ! $ kept_in ! null_ptr None $
    let nothing_kept : Option HostedSession = None in use0 𝓛 (raw (fact 𝓤 (nothing_kept ≡ None))) (fact_i 𝓤 (nothing_kept ≡ None) (emp 𝓤) refl) $ nothing ! $ nothing ! $
    returns ! (look_at ! 0 refl) $ free_all ! refl $ keep ! (0 ∷ 1 ∷ 3 ∷ 2 ∷ []) $
    by ! (leaves 𝓛 f.ended tt c z (one (ptr_val null_ptr)) (record { at = null_ptr; session = None }) tt tt)))
