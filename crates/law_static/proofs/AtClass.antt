-- What is of a class fits, at its place, whatever the class fits.
use Rattle.std.proofs.Common.{◌≡◌, refl, ℕ, true}
use Rattle.ui_machine.specs.Definition.Kinds.{RegisterKind}
use Rattle.ui_machine.specs.Definition.Kinds as kinds
use Rattle.ui_machine.specs.Definition.{Definition}
use Rattle.ui_machine.specs.Rules.Transform.{is_one}
use Rattle.law_typing.specs.Rules.RegisterKinds.{class_at, fits}
use Rattle.law_typing.specs.Laws.WellRead.{TypesRead}
use Rattle.law_static.proofs.FitsProofs.{one_further}

module _ (d : Definition) (types : TypesRead d) where
  pub at_class : (place type : ℕ) (k : RegisterKind) → is_one d.types type (class_at d place) ≡ true → fits d (kinds.some type) k ≡ true → fits d (kinds.at place) k ≡ true
  at_class place type kinds.unset c e = refl
  at_class place type (kinds.plain (kinds.object u)) c e = one_further d types type u (class_at d place) e c
  at_class place type (kinds.plain kinds.bool) c e = absurd (cc)
  at_class place type (kinds.plain (kinds.whole w)) c e = absurd (cc)
  at_class place type (kinds.plain kinds.text) c e = absurd (cc)
  at_class place type (kinds.plain (kinds.enum t)) c e = absurd (cc)
  at_class place type (kinds.plain (kinds.flags t)) c e = absurd (cc)
  at_class place type (kinds.some u) c e = one_further d types type u (class_at d place) e c
  at_class place type (kinds.at p) c e = absurd (cc)
  at_class place type (kinds.at_or_null p) c e = absurd (cc)
