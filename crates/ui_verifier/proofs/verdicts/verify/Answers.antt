use Rattle.std.proofs.lemmas.Result.{err_from_is_err_and}
use Rattle.ui_verifier.proofs.verdicts.verify.Goals as goal

pub returns-in_err-refusal : goal.returns-in_err-refusal
returns-in_err-refusal c =
    let p = err_from_is_err_and c.from_residual-in_err-refusal.result c.from_residual-in_err-refusal.ensures.1 in
    rw (p.1, p.2) tt

pub returns-in_err-busy : goal.returns-in_err-busy
returns-in_err-busy c =
    let p = err_from_is_err_and c.from_residual-in_err-busy.result c.from_residual-in_err-busy.ensures.1 in
    rw (p.1, p.2) tt
