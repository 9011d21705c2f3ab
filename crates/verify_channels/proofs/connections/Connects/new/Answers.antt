use Rattle.std.proofs.Common.{◌∙◌, ap, ◌∷◌, [], List, length, map, length-append, arith}
use Rattle.verify_channels.specs.Connected.{group_view, placed}
use Rattle.verify_channels.specs.Meanings.{Meant}
use Rattle.verify_channels.specs.SignalLists.{list_of}
use Rattle.verify_channels.specs.declared.connections.PlacedGroup.{PlacedGroup}
use Rattle.verify_channels.specs.declared.signal_lists.SignalLists.{SignalLists}
use Rattle.verify_channels.proofs.TransferLists.{none_more}
use Rattle.verify_channels.proofs.connections.Connects.new.Goals as goal

pub loop-place-preserved : goal.loop-place-preserved
loop-place-preserved c =
    let items = c.in_ok-push.ensures.items in
    let e = ap length items in
    let l = length-append c.loop-place.at.items (c.new.result ∷ []) in
    record {
      count = omega (arith, e, l, c.loop-place.invariant.count);
      empty = λ n number.
          ap (λ (xs : List (SignalLists PlacedGroup)). placed xs n number) items
          ∙ none_more (λ (s : SignalLists PlacedGroup). map group_view (list_of s number)) c.loop-place.at.items c.new.result (ap (map group_view) (c.new.ensures number))
          (λ m. c.loop-place.invariant.empty m number) n;
    }
