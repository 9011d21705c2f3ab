-- The places that a kind covers are those of what it is once null is ruled out.
use Rattle.std.proofs.Common.{◌≡◌, refl}
use Rattle.ui_machine.specs.Definition.Kinds.{RegisterKind}
use Rattle.ui_machine.specs.Definition.Kinds as kinds
use Rattle.ui_machine.specs.Definition.{Definition}
use Rattle.law_typing.specs.Rules.RegisterKinds.{places}
use Rattle.verify_starts.specs.Covering.{covering}

pub covering_places : (d : Definition) (k : RegisterKind) → places d (covering k) ≡ places d k
covering_places d kinds.unset = refl
covering_places d (kinds.plain kinds.bool) = refl
covering_places d (kinds.plain (kinds.whole w)) = refl
covering_places d (kinds.plain kinds.text) = refl
covering_places d (kinds.plain (kinds.enum t)) = refl
covering_places d (kinds.plain (kinds.flags t)) = refl
covering_places d (kinds.plain (kinds.object t)) = refl
covering_places d (kinds.some t) = refl
covering_places d (kinds.at c) = refl
covering_places d (kinds.at_or_null c) = refl
