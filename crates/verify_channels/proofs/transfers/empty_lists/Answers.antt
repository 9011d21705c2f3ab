use Rattle.std.proofs.Common.{◌∙◌, ap, ℕ, ◌∷◌, [], List, Option, Vec, length, length-append, arith}
use Rattle.std.specs.Global.{Global}
use Rattle.verify_channels.specs.Transfers.{list_at}
use Rattle.verify_channels.proofs.TransferLists.{none_more}
use Rattle.verify_channels.proofs.transfers.empty_lists.Goals as goal

pub loop-number-preserved : goal.loop-number-preserved
loop-number-preserved c =
    let seen : Vec (Option ℕ) Global → List (Option ℕ) = λ v. v.items in
    let items = c.in_ok-push.ensures.items in
    let e = ap length items in
    let l = length-append c.loop-number.lists.items (c.new.result ∷ []) in
    record {
      count = omega (arith, e, l, c.loop-number.invariant.count);
      empty = λ n.
          ap (λ (xs : List (Vec (Option ℕ) Global)). list_at xs n) items
          ∙ none_more seen c.loop-number.lists.items c.new.result c.new.ensures.items c.loop-number.invariant.empty n;
    }
