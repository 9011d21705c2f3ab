use Rattle.law_asked_prices.proofs.MetProofs.{premises_met_alone}
use Rattle.law_asked_prices.proofs.PeerProofs.{each_peer_is_within}
use Rattle.law_asked_prices.proofs.ReplyProofs.{each_is_given_by_shape, one_shape_is_within, alike_peers_are_within, shapes_give_all}
use Rattle.law_asked_prices.proofs.given.Goals as goal

pub returns : goal.returns
returns c = record {
  each = each_is_given_by_shape;
  sum = shapes_give_all;
  within = alike_peers_are_within;
  alone = one_shape_is_within;
  met = premises_met_alone;
  peers = each_peer_is_within;
}
