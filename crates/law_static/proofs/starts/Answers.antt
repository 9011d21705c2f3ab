use Rattle.law_static.proofs.StartProofs.{starts_reach, thaws_reach, pairs_pay, due_within}
use Rattle.law_static.proofs.starts.Goals as goal

pub returns : goal.returns
returns c = record { reach = starts_reach; thaws = thaws_reach; pairs = pairs_pay; due = due_within }
