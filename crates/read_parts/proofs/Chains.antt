-- One reading after the other, where one fails.
use Rattle.std.proofs.Common.{◌≡◌, ℕ, List, length, Result, Ok, Err, refl, sym, ap, ◌∙◌}
use Rattle.serde_json.specs.Data.{Data, Members}
use Rattle.ui_machine.specs.Definition.Types.{GType}
use Rattle.ui_machine.specs.Definition.Properties.{Spec}
use Rattle.ui_machine.specs.Definition.Signals.{Signal}
use Rattle.signal_core.specs.Sources as tables
use Rattle.param_specs.specs.Table.{own_of, specs_of}
use Rattle.definition_format.specs.declared.faults.ReadError.{ReadError}
use Rattle.definition_format.specs.declared.faults.ReadError.TheVariants as errors
use Rattle.ui_machine.specs.Outcome.{◌>>=◌}
use Rattle.definition_format.specs.Refusals.{Refusal, Fails}
use Rattle.definition_format.specs.Document.{members_at, only_at}
use Rattle.definition_format.specs.Denoted.Entries.{TypeNames}
use Rattle.definition_format.specs.Denoted.Properties.{spec_at, installed, property_at}
use Rattle.definition_format.specs.Denoted.Drafts.{Draft, draft_of, given_at, type_at}
use Rattle.definition_format.proofs.Installing.{inherited_in, property_at_is}

-- a chain that gives something, link by link
pub bound : {A B E : Type 0} (r : Result A E) (f : A → Result B E) (y : B) → (r >>= f) ≡ Ok y → (x : A) × (r ≡ Ok x) × (f x ≡ Ok y)
bound (Ok x) f y h = (x, refl, h)
bound (Err e) f y h = absurd (cc)

pub fails_first : {A B : Type 0} (e : ReadError) (r : Result A Refusal) (f : A → Result B Refusal) → Fails e r → Fails e (r >>= f)
fails_first errors.OutOfMemory r f h = tt
fails_first (errors.Refused x) r f h = ap (λ q. q >>= f) h

pub fails_as : {A : Type 0} (e : ReadError) (r s : Result A Refusal) → r ≡ s → Fails e s → Fails e r
fails_as errors.OutOfMemory r s same h = tt
fails_as (errors.Refused x) r s same h = same ∙ h

module _ (path : List ℕ) (types : List GType) (names : TypeNames) (t : ℕ) (table : List (List Spec)) (d : Data) where
  next : Spec → Result (ℕ → List Spec) Refusal
  next spec = installed path types t (own_of table) spec

  pub spec_fails : (e : ReadError) → Fails e (spec_at path types names (inherited_in types table t) (specs_of types table t) d) → Fails e (property_at path types names t (own_of table) d)
  unfolding next
  spec_fails e h = fails_as e _ _ (property_at_is path types names t table d) (fails_first e (spec_at path types names (inherited_in types table t) (specs_of types table t) d) next h)

  pub property_with : (spec : Spec) → spec_at path types names (inherited_in types table t) (specs_of types table t) d ≡ Ok spec → property_at path types names t (own_of table) d ≡ installed path types t (own_of table) spec
  unfolding next
  property_with spec h = property_at_is path types names t table d ∙ ap (λ r. r >>= next) h

module _ {A : Type 0} (path : List ℕ) (keys : List (List ℕ)) (declare : Result (List GType) Refusal) (behind : Draft → Result A Refusal) (names : TypeNames) (types : List GType) (table : List (List Spec)) (declared_table : List (List Signal)) (d : Data)
    (ms : Members) (new : List GType) (t : ℕ) (members : members_at path d ≡ Ok ms) (declared : declare ≡ Ok new) (at_end : t ≡ length types) where
  finish : Draft → Result A Refusal
  finish given = behind given >>= λ whole. only_at path ms keys >>= λ only. Ok whole

  type_is : type_at path keys declare behind names (draft_of types table declared_table) d ≡ (given_at path new names t (own_of table) (tables.own_of declared_table) d >>= finish)
  unfolding type_at finish
  type_is =
      ap (λ (r : Result Members Refusal). r >>= λ m. declare >>= λ gs. given_at path gs names (length types) (own_of table) (tables.own_of declared_table) d >>= λ given. behind given >>= λ whole. only_at path m keys >>= λ only. Ok whole) members
      ∙ ap (λ (r : Result (List GType) Refusal). r >>= λ gs. given_at path gs names (length types) (own_of table) (tables.own_of declared_table) d >>= λ given. behind given >>= λ whole. only_at path ms keys >>= λ only. Ok whole) declared
      ∙ ap (λ n. given_at path new names n (own_of table) (tables.own_of declared_table) d >>= finish) (sym at_end)

  pub members_fail : (e : ReadError) → Fails e (given_at path new names t (own_of table) (tables.own_of declared_table) d) → Fails e (type_at path keys declare behind names (draft_of types table declared_table) d)
  members_fail e h = fails_as e _ _ type_is (fails_first e (given_at path new names t (own_of table) (tables.own_of declared_table) d) finish h)

  module _ (given : Draft) (are : given_at path new names t (own_of table) (tables.own_of declared_table) d ≡ Ok given) where
    type_given : type_at path keys declare behind names (draft_of types table declared_table) d ≡ finish given
    type_given = type_is ∙ ap (λ r. r >>= finish) are

    pub unset_fails : (e : ReadError) → Fails e (behind given) → Fails e (type_at path keys declare behind names (draft_of types table declared_table) d)
    unfolding finish
    unset_fails e h = fails_as e _ _ type_given (fails_first e (behind given) (λ whole. only_at path ms keys >>= λ only. Ok whole) h)

    module _ (whole : A) (set : behind given ≡ Ok whole) where
      type_set : type_at path keys declare behind names (draft_of types table declared_table) d ≡ (only_at path ms keys >>= λ only. Ok whole)
      unfolding finish
      type_set = type_given ∙ ap (λ (r : Result A Refusal). r >>= λ whole. only_at path ms keys >>= λ only. Ok whole) set

      pub only_fails : (e : ReadError) → Fails e (only_at path ms keys) → Fails e (type_at path keys declare behind names (draft_of types table declared_table) d)
      only_fails e h = fails_as e _ _ type_set (fails_first e (only_at path ms keys) (λ only. Ok whole) h)

      pub type_done : only_at path ms keys ≡ Ok tt → type_at path keys declare behind names (draft_of types table declared_table) d ≡ Ok whole
      type_done h = type_set ∙ ap (λ (r : Result (Unit {0}) Refusal). r >>= λ only. Ok whole) h
