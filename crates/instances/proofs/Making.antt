-- An object that was made is there.
use Rattle.std.proofs.Common.{◌≡◌, ◌∙◌, ap, refl, Some, IfOk, Result, Ok, Err}
use Rattle.ui_machine.specs.State.Objects.{Object, living}
use Rattle.ui_machine.specs.declared.ids.ObjectId.{ObjectId}
use Rattle.instance_tables.specs.Store.{Store, Creates, CreatesFloating, with_object}
use Rattle.instance_tables.specs.declared.error.CreateError.{CreateError}
use Rattle.instance_tables.specs.declared.error.CreateError.TheVariants.{ObjectLimit, OutOfMemory}
use Rattle.instance_tables.proofs.Born.{born_there}

pub made_there : (r : Result ObjectId CreateError) (o new : Object) (s n : Store) → o ≡ new → Creates r o s n → IfOk r (λ id. living n.objects id.0 ≡ Some new)
made_there (Ok id) o new s n is created = born_there s n id.0 o (created.1, created.2) ∙ ap Some is
made_there (Err ObjectLimit) o new s n is created = tt
made_there (Err OutOfMemory) o new s n is created = tt

pub floats_there : (r : Result ObjectId CreateError) (o new : Object) (s n : Store) → o ≡ new → CreatesFloating r o s n → IfOk r (λ id. living n.objects id.0 ≡ Some new)
floats_there (Ok id) o new s n is created =
    ap (λ (x : Store). living x.objects id.0) created.2 ∙ born_there s (with_object o s) id.0 o (created.1, refl) ∙ ap Some is
floats_there (Err ObjectLimit) o new s n is created = tt
floats_there (Err OutOfMemory) o new s n is created = tt
