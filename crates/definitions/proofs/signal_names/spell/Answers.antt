use Rattle.std.proofs.Common.{◌≡◌, ◌+◌, ◌∙◌, ◌++◌, ◌∷◌, [], suc, take, get_or, length, sym, ap, arith}
use Rattle.std.proofs.lemmas.List.{get_or_default, take_more_set, length-set}
use Rattle.ui_machine.specs.Definition.Names.{canonical}
use Rattle.definitions.proofs.Spelled.{spelled_more}
use Rattle.definitions.proofs.signal_names.spell.Goals as goal

pub bytes-preserved : goal.bytes-preserved
bytes-preserved c =
    let name = c.args.name.now in
    let at = c.bytes.at in
    let next : at + 1 ≡ suc at = omega arith in
    record {
      room = omega (arith, c.bytes.invariant.room, length-set c.bytes.room at c.dashed.result);
      done =
          take_more_set c.bytes.room at c.dashed.result (omega (arith, c.bytes.invariant.room, c.bytes-test.true))
          ∙ ap (λ l. l ++ c.dashed.result ∷ []) c.bytes.invariant.done
          ∙ ap (λ b. canonical (take at name) ++ b ∷ []) c.dashed.ensures
          ∙ sym (ap (λ k. canonical (take k name)) next ∙ spelled_more name at (get_or name at 0) c.bytes-test.true (get_or_default name at 0 (get_or name at 0) c.bytes-test.true));
    }
