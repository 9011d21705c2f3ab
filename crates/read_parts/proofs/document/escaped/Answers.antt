use Rattle.std.proofs.Common.{◌++◌, ◌∷◌, [], string_bytes, length, drop, ap, sym, ◌∙◌}
use Rattle.std.proofs.lemmas.Iterator.{YieldsList-from_chars}
use Rattle.std.proofs.lemmas.Iterator.Consumers.{YieldsList-turn, YieldsList-end}
use Rattle.std.specs.Str.{chars}
use Rattle.read_parts.proofs.Escapes.{spelled, spelled_turn, spelled_end}
use Rattle.read_parts.proofs.document.escaped.Goals as goal

pub loop-c-preserved : goal.loop-c-preserved
loop-c-preserved c =
    let t = YieldsList-turn (YieldsList-from_chars c.args.key.now c.utf8.key cc) c.loop-c.yielded _ c.loop-c.yielded_by _ _ c.in-Some.c c.in-Some.is c.next.ensures.steps in
    ap (λ l. l ++ spelled (drop (length (c.loop-c.yielded ++ c.in-Some.c ∷ [])) (chars c.args.key.now))) c.in_ok-push_escaped.ensures
    ∙ spelled_turn (string_bytes c.loop-c.out) (chars c.args.key.now) c.loop-c.yielded c.in-Some.c t c.loop-c.invariant

pub returns : goal.returns
returns c =
    let t = YieldsList-end (YieldsList-from_chars c.args.key.now c.utf8.key cc) c.loop-c.yielded _ c.loop-c.yielded_by _ _ c.in-None.is c.next.ensures.steps in
    spelled_end (string_bytes c.loop-c.out) c.args.key.now c.loop-c.yielded c.utf8.key (sym t.1) c.loop-c.invariant
