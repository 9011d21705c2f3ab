-- Values, registers and emissions are good wherever what they name keeps its place.
use Rattle.std.proofs.Common.{◌≡◌, refl, ap, ◌∙◌, ℕ, zero, suc, ◌≤◌, Bool, true, false, cond, List, [], ◌∷◌, Option, None, Some, arith}
use Rattle.std.specs.Prelude.{◌&&◌, is_some}
use Rattle.std.proofs.lemmas.Bool.{eq-eqb}
use Rattle.ui_machine.specs.Seq.{read, total}
use Rattle.ui_machine.specs.Definition.Kinds.{Kind, RegisterKind}
use Rattle.ui_machine.specs.Definition.Kinds as kinds
use Rattle.ui_machine.specs.Definition.Values.{Value}
use Rattle.ui_machine.specs.Definition.Values as values
use Rattle.ui_machine.specs.Definition.{Definition}
use Rattle.ui_machine.specs.State.References.{same, in_value, in_register, in_emission}
use Rattle.ui_machine.specs.State.Tasks.{Registers, Emission}
use Rattle.ui_machine.specs.Rules.Programs.{all_fit}
use Rattle.ui_machine.specs.Rules.Transform.{is_one, kind_fits}
use Rattle.law_typing.specs.Rules.RegisterKinds.{Kinds, kind_in, class_at}
use Rattle.law_typing.specs.Graph.{number_for}
use Rattle.law_typing.specs.Good.Standing.{Standing, class_by, lives_by, covers_if, holds, RegistersFit}
use Rattle.law_typing.specs.Good.Emissions.{EmissionFits}
use Rattle.law_typing.proofs.Lists.{both_parts}
use Rattle.law_steps.specs.Kept.Agenda.{Stays, Keeps}

pub same_itself : (o : ℕ) → same o o ≡ 1
same_itself o = ap (λ b. cond b 1 0) (eq-eqb o o refl)

both : (a b : Bool) → a ≡ true → b ≡ true → (a && b) ≡ true
both a b p q = ap (λ x. x && b) p ∙ q

pub keeps_more : (s z : Standing) (m n : ℕ → ℕ) → ((o : ℕ) → m o ≤ n o) → Keeps s z n → Keeps s z m
keeps_more s z m n less keeps id some = keeps id (let l = less id in omega (arith, l, some))

-- what holds of an identity that keeps its place
pub stays_at : (s z : Standing) (P : Option ℕ → Bool) → P None ≡ false → (id : ℕ) → Stays s z id → P (s id) ≡ true → P (z id) ≡ true
stays_at s z P none id stays h = go (s id) refl h
  where
    go : (o : Option ℕ) → s id ≡ o → P o ≡ true → P (z id) ≡ true
    go None e h = absurd (cc)
    go (Some place) e h = ap P (stays place e) ∙ h

module _ (d : Definition) (s z : Standing) where
  -- ** values

  pub lives_kept : (v : Value) → Keeps s z (λ o. in_value o v) → lives_by s v ≡ true → lives_by z v ≡ true
  lives_kept (values.object (Some id)) keeps h = stays_at s z (λ (o : Option ℕ). is_some o) refl id (keeps id (let e = same_itself id in omega (arith, e))) h
  lives_kept (values.object None) keeps h = refl
  lives_kept (values.bool b) keeps h = refl
  lives_kept (values.whole k n) keeps h = refl
  lives_kept (values.text t) keeps h = refl
  lives_kept (values.enum t n) keeps h = refl
  lives_kept (values.flags t n) keeps h = refl

  pub kind_kept : (v : Value) (kind : Kind) → Keeps s z (λ o. in_value o v) → kind_fits (class_by d s) d.types v kind ≡ true → kind_fits (class_by d z) d.types v kind ≡ true
  kind_kept (values.object (Some id)) (kinds.object t) keeps h =
      stays_at s z (λ o. is_one d.types t (number_for (class_at d) o)) refl id (keeps id (let e = same_itself id in omega (arith, e))) h
  kind_kept (values.object None) (kinds.object t) keeps h = h
  kind_kept (values.bool b) kinds.bool keeps h = h
  kind_kept (values.whole k n) (kinds.whole l) keeps h = h
  kind_kept (values.text t) kinds.text keeps h = h
  kind_kept (values.enum t n) (kinds.enum u) keeps h = h
  kind_kept (values.flags t n) (kinds.flags u) keeps h = h
  kind_kept _ _ keeps h = absurd (cc)

  pub args_kept : (vs : List Value) (ks : List Kind) → Keeps s z (λ o. total (in_value o) vs) →
      all_fit (kind_fits (class_by d s) d.types) vs ks ≡ true → all_fit (kind_fits (class_by d z) d.types) vs ks ≡ true
  args_kept [] [] keeps h = refl
  args_kept [] (k ∷ ks) keeps h = absurd (cc)
  args_kept (v ∷ vs) [] keeps h = absurd (cc)
  args_kept (v ∷ vs) (k ∷ ks) keeps h =
      let b = both_parts (kind_fits (class_by d s) d.types v k) (all_fit (kind_fits (class_by d s) d.types) vs ks) h in
      both (kind_fits (class_by d z) d.types v k) (all_fit (kind_fits (class_by d z) d.types) vs ks)
      (kind_kept v k (keeps_more s z (λ o. in_value o v) (λ o. total (in_value o) (v ∷ vs)) (λ o. omega arith) keeps) b.0)
      (args_kept vs ks (keeps_more s z (λ o. total (in_value o) vs) (λ o. total (in_value o) (v ∷ vs)) (λ o. omega arith) keeps) b.1)

  -- ** registers

  some_kept : (k : RegisterKind) (id : ℕ) → Stays s z id → covers_if d k (s id) ≡ true → covers_if d k (z id) ≡ true
  some_kept k id stays h = stays_at s z (covers_if d k) refl id stays h

  at_one : (id : ℕ) → Keeps s z (λ o. in_value o (values.object (Some id))) → Stays s z id
  at_one id keeps = keeps id (let e = same_itself id in omega (arith, e))

  pub holds_kept : (k : RegisterKind) (v : Option Value) → Keeps s z (λ o. in_register o v) → holds d s k v ≡ true → holds d z k v ≡ true
  holds_kept kinds.unset None keeps h = refl
  holds_kept kinds.unset (Some v) keeps h = lives_kept v keeps h
  holds_kept (kinds.plain kind) None keeps h = absurd (cc)
  holds_kept (kinds.plain kind) (Some v) keeps h = kind_kept v kind keeps h
  holds_kept (kinds.some t) (Some (values.object (Some id))) keeps h = some_kept (kinds.some t) id (at_one id keeps) h
  holds_kept (kinds.at p) (Some (values.object (Some id))) keeps h = some_kept (kinds.at p) id (at_one id keeps) h
  holds_kept (kinds.at_or_null p) (Some (values.object (Some id))) keeps h = some_kept (kinds.at p) id (at_one id keeps) h
  holds_kept (kinds.at_or_null p) (Some (values.object None)) keeps h = refl
  holds_kept _ _ keeps h = absurd (cc)

  read_total : (o : ℕ) (registers : Registers) (r : ℕ) → in_register o (read None registers r) ≤ total (in_register o) registers
  read_total o [] r = omega arith
  read_total o (v ∷ registers) zero = omega arith
  read_total o (v ∷ registers) (suc r) = let h = read_total o registers r in omega (arith, h)

  pub registers_kept : (ks : Kinds) (registers : Registers) → Keeps s z (λ o. total (in_register o) registers) → RegistersFit d s ks registers → RegistersFit d z ks registers
  registers_kept ks registers keeps fit r =
      holds_kept (kind_in ks r) (read None registers r)
      (keeps_more s z (λ o. in_register o (read None registers r)) (λ o. total (in_register o) registers) (λ o. read_total o registers r) keeps) (fit r)

  -- ** emissions

  abbrev pub emission_kept : (e : Emission) → Keeps s z (λ o. in_emission o e) → EmissionFits d s e → EmissionFits d z e
  emission_kept e keeps g = record {
    place = g.place;
    class = g.class;
    sig = g.sig;
    is = keeps e.object (let k = same_itself e.object in omega (arith, k)) g.place g.is;
    of_class = g.of_class;
    has = g.has;
    args = args_kept e.args g.sig.params (keeps_more s z (λ o. total (in_value o) e.args) (λ o. in_emission o e) (λ o. omega arith) keeps) g.args;
    value = λ v is. (let old = g.value v is in (
      old.0,
      old.1,
      kind_kept v old.0
          (keeps_more s z (λ o. in_value o v) (λ o. in_emission o e) (λ o. let n : in_register o e.value ≡ in_value o v = ap (in_register o) is in omega (arith, n)) keeps) old.2,
    ));
  }
