-- `unseal` makes the loose box again, by any handle of `Global`: each frees what another one allocated.
use Rattle.std.proofs.Common.{List, [], ◌∷◌, ◌++◌, refl, sym, ap, ◌∙◌, subst}
use mir.Val.{Val, vptr}
use mir.Raw.{raw as bare}
use base.Logic.{SProp, ent, emp, id⊢, never, fst∗}
use prog.Wp.{WpFn}
use types.Logic.{sem}
use types.Kit.{‵, raw, ◌⊛◌, ◌$◌, ◌∵◌, !, qed, by, move, keep, use0, split, fsplit, fjoin, rewrite, suffices}
use types.Run.{stop, fld, of_opd, no_more, and_then, returns, enter}
use types.ByLocal.{alloc_all, pass_all, free_all, look_at, get, get_in, sets}
use types.Part.{agg, sub, whole}
use contract.Monad.{fact, fact_i}
use contract.Running.{tables}
use denote.Exit.{yes}
use denote.Memory.{lone}
use denote.RattleType.{RattleType, owns}
use denote.RawPtr.{Ptr, block_ptr, null_ptr, ptr_val, in_a_block}
use denote.Signature.{types_at, plain}
use denote.Steps.{nothing, heard}
use denote.Triple.Entry.{alive}
use denote.Triple.Walked.{Stays, stay_dropped, walk_of, Goes-dropped}
use Rattle.std.proofs.alloc.Calls.{Goes-blank, handle_tells}
use Rattle.std.proofs.alloc.Global.TheLaws.{the_row_laws}
use Rattle.std.specs.contracts.alloc.Global as global
use Rattle.std.specs.contracts.impls.GlobalAllocator.TheImpl.{ghosts}
use Rattle.std.proofs.raw_atomic.Walks.{proved_at, leaves}
use Rattle.std.specs.Prelude.{◌≡◌, Option, Some}
use Rattle.c_sessions.specs.declared.hosted_session.HostedSession.{HostedSession}
use Rattle.c_sessions.specs.Held.{held}
use Rattle.c_sessions.proofs.KeptValues.{Kept, one, kept_good, kept_out}
use Rattle.c_sessions.proofs.LooseValues.{al, both, loose_good, loose_in}
use Rattle.c_sessions.specs.contracts.hosted_session.HostedSession as hosted
use Rattle.c_sessions.specs.contracts.kept.Kept.unseal as f
use Rattle.c_sessions.proofs.kept.Kept.unseal.Statement.{statement}
use Rattle.c_sessions.proofs.kept.Kept.unseal.Code as code

pub unseal_spec : {M : Type 1} → statement M
unseal_spec 𝓤 𝓛 𝓜 𝓡 wired =
    let c = f.clauses 𝓛 𝓜.mem 𝓡.returns in let 𝓣 = tables 𝓤 𝓛.H 𝓜 𝓡 𝓡.env in
    let R : RattleType = hosted.the_row in let Z : RattleType = global.the_row in let L = the_row_laws in let g = ghosts in
    let hs : Stays f.ended.signature.params f.ended.kept = (stay_dropped (plain (λ _. Kept)) yes, (stay_dropped (plain (λ _. Z)) yes, tt)) in
    proved_at 𝓛 f.ended hs c 𝓜 𝓡 (Goes-blank 𝓛 0 (plain (λ _. Kept)) yes (λ κs x e. tt), (Goes-dropped 𝓛 0 (plain (λ _. Z)) yes (λ κs x e. refl), tt)) f.Key.name code.function (code.unfolded 𝓤 𝓛.H 𝓜 𝓡 wired) (λ z are.
    let v = z.0.3.0 in let a = z.0.3.1.0 in let Post : Val → SProp 𝓤 = (walk_of 𝓛 f.ended hs c).post z in
    let Run : List Val → SProp 𝓤 = λ ws. WpFn 𝓤 𝓛.H 𝓣.C 𝓣.Λ code.function ws Post in
    qed 𝓛 ((raw (alive 𝓛 f.signature z.0.0 z.0.1) ⊛ ‵ (owns (types_at f.signature.params z.0.0) z.0.3 z.0.4)) ∷ raw (fact 𝓤 ((x : HostedSession) × (v.session ≡ Some x))) ∷ []) ∵ move ! (1 ∷ []) $ heard ! ((x : HostedSession) × (v.session ≡ Some x)) (λ is. let x = is.0 in let full = is.1 in
    split ! $ move ! (1 ∷ []) $ fsplit ! $ kept_out ! v z.0.4.0 (λ ws. rewrite ! 0 (λ (y : Option HostedSession). ‵ (held v.at y)) full refl $
    in_a_block ! v.at (λ p. held p (Some x)) (fst∗ 𝓤 (never 𝓤) (sem 𝓛 (g.dealloc_token a (bare (lone R.mir)) null_ptr))) (λ b o e.
    move ! (1 ∷ []) $ fsplit ! $ handle_tells (al R Z L g) ! a z.0.4.1.0 (λ h eh fits.
    let us : List Val = one (vptr b o) ∷ h ∷ [] in let ew = ws ∙ ap (λ (p : Ptr). one (ptr_val p) ∷ []) e in
    keep ! (2 ∷ 0 ∷ []) $
    suffices ! (Run us) (subst (λ (vs : List Val). ent 𝓤 (Run us) (Run vs)) (sym (λ i. ew i ++ (eh i ++ []))) (id⊢ 𝓤 (Run us))) $
    enter ! 𝓣.C 𝓣.Λ code.function us Post $ alloc_all ! (λ l. pass_all ! refl (kept_good (block_ptr b o), (fits, tt)) $
    sets ! (of_opd ! (get_in ! (fld ! refl (stop !)) (sub ! 0 refl (whole !)))) refl (tt, tt) $
    sets ! (of_opd ! (get ! refl)) refl (tt, tt) $
    sets ! (agg ! (and_then ! (get ! refl) (and_then ! (get ! refl) (no_more !)))) refl (loose_good R Z L g b o h fits) $
    loose_in R Z L g ! b o h a x $
    use0 𝓛 (raw (fact 𝓤 (Some x ≡ v.session))) (fact_i 𝓤 (Some x ≡ v.session) (emp 𝓤) (sym full)) $
    nothing ! $ nothing ! $ fjoin ! $ nothing ! $ fjoin ! $ nothing ! $
    returns ! (look_at ! 0 refl) $ free_all ! refl $ keep ! (0 ∷ 1 ∷ 3 ∷ 2 ∷ []) $
    by ! (leaves 𝓛 f.ended hs c z (both (vptr b o) h) (record { at = block_ptr b o; alloc = a; value = x }) (tt, (tt, tt)) (tt, (tt, tt)))))))))
