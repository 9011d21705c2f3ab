-- Objects that are made, and float or not.
use Rattle.std.proofs.Common.{◌≡◌, ◌∙◌, suc, length, Bool, true, false, cond, ◌++◌, ◌∷◌, [], Result, Ok, Err, IfOk, refl, sym, ap, subst}
use Rattle.std.specs.declared.alloc.AllocError.{AllocError}
use Rattle.ui_machine.specs.State.Objects.{Object}
use Rattle.ui_machine.specs.declared.ids.ObjectId.{ObjectId}
use Rattle.instance_tables.specs.Laws.{Counted}
use Rattle.instance_tables.specs.Store.{Store, with_floating, with_object}
use Rattle.instance_tables.proofs.Born.{born_lives}
use Rattle.instance_tables.proofs.Created.{float_exact}
use Rattle.engine_world.specs.NewObjects.{Adds}
use Rattle.engine_world.proofs.Counts.{made_counted}

module _ (r : Result ObjectId AllocError) (o : Object) (floats : Bool) (s n : Store) where
  -- one that does not float
  pub adds : floats ≡ false → IfOk r (λ id. (id.0 ≡ suc (length s.objects)) × (n ≡ with_object o s)) → IfOk r (λ id. Adds o floats id.0 s n)
  adds stays made = by r made
    where
      by : (r : Result ObjectId AllocError) → IfOk r (λ id. (id.0 ≡ suc (length s.objects)) × (n ≡ with_object o s)) → IfOk r (λ id. Adds o floats id.0 s n)
      by (Ok id) h = record {
        identity = h.0;
        objects = ap (λ (x : Store). x.objects) h.1;
        floating = ap (λ (x : Store). x.floating) h.1 ∙ sym (ap (λ b. cond b (s.floating ++ id.0 ∷ []) s.floating) stays);
        counted = λ d beside none counted. made_counted d (λ q. 0) beside s n o h.1 none counted;
      }
      by (Err error) h = tt

  -- one that does
  pub adds_floating : floats ≡ true → IfOk r (λ id. (id.0 ≡ suc (length s.objects)) × (n ≡ with_floating id.0 (with_object o s))) → IfOk r (λ id. Adds o floats id.0 s n)
  adds_floating floats_so made = by r made
    where
      by : (r : Result ObjectId AllocError) → IfOk r (λ id. (id.0 ≡ suc (length s.objects)) × (n ≡ with_floating id.0 (with_object o s))) → IfOk r (λ id. Adds o floats id.0 s n)
      by (Ok id) h = record {
        identity = h.0;
        objects = ap (λ (x : Store). x.objects) h.1;
        floating = ap (λ (x : Store). x.floating) h.1 ∙ sym (ap (λ b. cond b (s.floating ++ id.0 ∷ []) s.floating) floats_so);
        counted = λ d beside none counted.
            let m = with_object o s in
            subst (λ (x : Store). Counted d beside x) (sym h.1)
            (float_exact d beside m id.0 (born_lives s m id.0 o (h.0, refl)) (made_counted d (λ q. 0) beside s m o refl none counted));
      }
      by (Err error) h = tt
