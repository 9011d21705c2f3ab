-- Installing a property, seen as the types' own properties.
use Rattle.std.proofs.Common.{◌≡◌, ℕ, List, Some, Ok, Err, refl, sym, ap, ◌∙◌}
use Rattle.std.proofs.Math.Path.{fun_ext}
use Rattle.ui_machine.specs.Definition.Types.{GType}
use Rattle.ui_machine.specs.Definition.Properties.{Spec}
use Rattle.ui_machine.specs.Rules.Ancestry.{parent_of}
use Rattle.param_specs.specs.declared.error.SpecFault.{SpecFault}
use Rattle.param_specs.specs.declared.error.SpecError.{SpecError}
use Rattle.param_specs.specs.declared.error.SpecError.TheVariants.{OutOfMemory, Refused}
use Rattle.param_specs.specs.Table.{own_of, specs_of, install_fault, canonical_spec, Installs}
use Rattle.definition_format.specs.Refusals.{not_installed}
use Rattle.definition_format.specs.Denoted.Entries.{TypeNames}
use Rattle.definition_format.specs.Denoted.Properties.{specs_by, inherited_of, add_own, installed_or, installed, spec_at, property_at}
use Rattle.ui_machine.specs.Outcome.{◌>>=◌}
use Rattle.serde_json.specs.Data.{Data}

pub specs_of-is : (types : List GType) (table : List (List Spec)) (t : ℕ) → specs_of types table t ≡ specs_by types (own_of table) t
unfolding specs_of
specs_of-is types table t = refl

module _ (path : List ℕ) (types : List GType) (old new : List (List Spec)) (t : ℕ) (spec : Spec) where
  pub installs_ok : (slot : ℕ) → Installs (Ok slot) (install_fault types (specs_of types old t) spec) (specs_of types old t) t spec old new
      → installed path types t (own_of old) spec ≡ Ok (own_of new)
  installs_ok slot h =
      ap (λ (specs : List Spec). installed_or path (install_fault types specs spec) (add_own (own_of old) t (canonical_spec spec))) (sym (specs_of-is types old t))
      ∙ ap (λ f. installed_or path f (add_own (own_of old) t (canonical_spec spec))) h.0 ∙ ap (λ (own : ℕ → List Spec). Ok own) (sym (fun_ext h.2))

  cause-is : (error : SpecError) (cause : SpecFault) → error ≡ Refused cause → Installs (Err error) (install_fault types (specs_of types old t) spec) (specs_of types old t) t spec old new
      → install_fault types (specs_of types old t) spec ≡ Some cause
  cause-is OutOfMemory cause is h = absurd (cc)
  cause-is (Refused other) cause is h = h.0 ∙ let same : other ≡ cause = cc in ap Some same

  pub installs_err : (error : SpecError) (cause : SpecFault) → error ≡ Refused cause → Installs (Err error) (install_fault types (specs_of types old t) spec) (specs_of types old t) t spec old new
      → installed path types t (own_of old) spec ≡ Err (not_installed path cause)
  installs_err error cause is h =
      ap (λ (specs : List Spec). installed_or path (install_fault types specs spec) (add_own (own_of old) t (canonical_spec spec))) (sym (specs_of-is types old t))
      ∙ ap (λ f. installed_or path f (add_own (own_of old) t (canonical_spec spec))) (cause-is error cause is h)

-- the specs that a type of a table inherits
abbrev pub inherited_in : List GType → List (List Spec) → ℕ → List Spec
inherited_in types table t = inherited_of (specs_of types table) (parent_of types t)

-- reading a property beside those of a table
pub property_at_is : (path : List ℕ) (types : List GType) (names : TypeNames) (t : ℕ) (table : List (List Spec)) (d : Data)
    → property_at path types names t (own_of table) d ≡ (spec_at path types names (inherited_in types table t) (specs_of types table t) d >>= λ spec. installed path types t (own_of table) spec)
unfolding property_at
property_at_is path types names t table d =
    ap (λ (specs : ℕ → List Spec). spec_at path types names (inherited_of specs (parent_of types t)) (specs t) d >>= λ spec. installed path types t (own_of table) spec) (fun_ext (λ u. sym (specs_of-is types table u)))
