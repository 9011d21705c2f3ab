-- The worked pools compute.
use Rattle.std.proofs.Common.{refl, arith}
use Rattle.law_peers.specs.WorkedPools.{definition, pool, WorkedPools}
use Rattle.law_peers.proofs.PoolProofs.{matched_is_ready}
use Rattle.law_peers.proofs.ApartProofs.{matched_is_apart}

pub worked_pools : WorkedPools
worked_pools = record {
  needs = refl;
  matches = refl;
  free = (refl, (refl, tt));
  ready = matched_is_ready definition pool refl (refl, (refl, tt));
  plain = refl;
  two = refl;
  apart = matched_is_apart definition pool 1 refl refl refl (omega arith);
  empty = refl;
  without = refl;
  shut = refl;
  shaped = refl;
  more = refl;
  first = refl;
}
