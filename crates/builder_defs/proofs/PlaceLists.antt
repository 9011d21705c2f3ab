-- The objects and the prototypes of a definition, of the lists that hold them.
use Rattle.std.proofs.Common.{◌≡◌, ◌∙◌, ℕ, Bool, List, [], codes, Option, None, Result, Ok, ap, subst}
use Rattle.serde_json.specs.Data.{Data, Items}
use Rattle.ui_machine.specs.Definition.Places.{Place}
use Rattle.ui_machine.specs.Definition.Programs.{Program}
use Rattle.ui_machine.specs.Definition.Properties.{Spec}
use Rattle.ui_machine.specs.Definition.Types.{GType}
use Rattle.ui_machine.specs.Seq.{read}
use Rattle.ui_machine.specs.Outcome.{◌>>=◌}
use Rattle.definition_format.specs.declared.faults.ReadError.{ReadError}
use Rattle.definition_format.specs.Refusals.{Refusal, Fails}
use Rattle.definition_format.specs.Document.{at_entry, each, entries_at, under}
use Rattle.definition_format.specs.Denoted.Entries.{most_levels}
use Rattle.definition_format.specs.Denoted.Objects.{Built, no_objects, object_at}
use Rattle.definition_format.specs.Denoted.Prototypes.{prototype_at, prototypes_in}
use Rattle.definition_format.specs.Denoted.Shapes.{is_shaped_by}
use Rattle.definition_format.specs.Denoted.{objects_in, scope_with}
use Rattle.read_parts.proofs.Chains.{fails_as}

module _ (types : List GType) (specs : ℕ → List Spec) (has_shape : ℕ → Bool) (programs : List Program) (prototypes : List Place) (most : ℕ) (d : Data) (list : Items)
    (at : entries_at [] d (codes "objects") ≡ Ok list) where
  abbrev listed : Items → Result Built Refusal
  listed items = each (at_entry (object_at most_levels (scope_with types specs has_shape programs prototypes most items) None) (under [] (codes "objects"))) 0 no_objects items

  objects_are : objects_in types specs has_shape programs prototypes most d ≡ listed list
  unfolding objects_in
  objects_are = ap (λ (r : Result Items Refusal). r >>= listed) at

  pub objects_fail : (e : ReadError) → Fails e (listed list) → Fails e (objects_in types specs has_shape programs prototypes most d)
  objects_fail e fails = fails_as e _ _ objects_are fails

  pub objects_done : (built : Built) → listed list ≡ Ok built → objects_in types specs has_shape programs prototypes most d ≡ Ok built
  objects_done built read = objects_are ∙ read

module _ (types : List GType) (specs : ℕ → List Spec) (has_shape : ℕ → Bool) (d : Data) (list : Items) (at : entries_at [] d (codes "prototypes") ≡ Ok list) where
  abbrev prototypes_listed : Items → Result (List Place) Refusal
  prototypes_listed items = each (at_entry (λ path. prototype_at path types specs has_shape) (under [] (codes "prototypes"))) 0 [] items

  prototypes_are : prototypes_in types specs has_shape d ≡ prototypes_listed list
  unfolding prototypes_in
  prototypes_are = ap (λ (r : Result Items Refusal). r >>= prototypes_listed) at

  pub prototypes_fail : (e : ReadError) → Fails e (prototypes_listed list) → Fails e (prototypes_in types specs has_shape d)
  prototypes_fail e fails = fails_as e _ _ prototypes_are fails

-- ** of the same shapes

module _ (types : List GType) (specs : ℕ → List Spec) (d : Data) (shaped kept : List (Option ℕ)) where
  pub prototypes_same : (r : Result (List Place) Refusal) → shaped ≡ kept → prototypes_in types specs (is_shaped_by types (read None shaped)) d ≡ r → prototypes_in types specs (is_shaped_by types (read None kept)) d ≡ r
  prototypes_same r same is = subst (λ (s : List (Option ℕ)). prototypes_in types specs (is_shaped_by types (read None s)) d ≡ r) same is

  pub prototypes_fail_same : (e : ReadError) → shaped ≡ kept → Fails e (prototypes_in types specs (is_shaped_by types (read None shaped)) d) → Fails e (prototypes_in types specs (is_shaped_by types (read None kept)) d)
  prototypes_fail_same e same fails = subst (λ (s : List (Option ℕ)). Fails e (prototypes_in types specs (is_shaped_by types (read None s)) d)) same fails

module _ (types : List GType) (specs : ℕ → List Spec) (programs : List Program) (prototypes : List Place) (most : ℕ) (d : Data) (shaped kept : List (Option ℕ)) where
  abbrev objects_by : List (Option ℕ) → Result Built Refusal
  objects_by s = objects_in types specs (is_shaped_by types (read None s)) programs prototypes most d

  pub objects_same : (r : Result Built Refusal) → shaped ≡ kept → objects_by shaped ≡ r → objects_by kept ≡ r
  objects_same r same is = subst (λ (s : List (Option ℕ)). objects_by s ≡ r) same is

  pub objects_fail_same : (e : ReadError) → shaped ≡ kept → Fails e (objects_by shaped) → Fails e (objects_by kept)
  objects_fail_same e same fails = subst (λ (s : List (Option ℕ)). Fails e (objects_by s)) same fails
