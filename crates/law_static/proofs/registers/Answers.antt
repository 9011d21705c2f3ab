use Rattle.law_static.proofs.FitsProofs.{holds_fits, holds_live, holds_kind, holds_set, operands_stand, classes_agree, given_hold, given_fit}
use Rattle.law_static.proofs.registers.Goals as goal

pub returns : goal.returns
returns c = record {
  fits = holds_fits;
  live = holds_live;
  kind = holds_kind;
  set = holds_set;
  operands = operands_stand;
  classes = classes_agree;
  given = given_hold;
  parameters = given_fit;
}
