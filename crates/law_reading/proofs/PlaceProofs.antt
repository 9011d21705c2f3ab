-- The places of a definition that was read are as they should be.
use Rattle.std.proofs.Common.{◌≡◌, ℕ, ◌+◌, ◌<◌, ◌≤◌, ◌⊎◌, inl, inr, Bool, true, false, cond, nat_lt, List, [], ◌∷◌, ◌++◌, length, slice_get, is_some, Option, None, Some, refl, sym, ap, subst, ◌∙◌, arith}
use Rattle.std.proofs.lemmas.Bool.Decides.{nat_tests}
use Rattle.std.specs.Prelude.{◌&&◌, if◌then◌else◌}
use Rattle.std.specs.List.{flat_map, list_all}
use Rattle.std.proofs.lemmas.Option.{slice_get_within}
use Rattle.ui_machine.specs.Definition.{Class, Definition}
use Rattle.ui_machine.specs.Definition.Lookups.{place_at}
use Rattle.ui_machine.specs.Definition.Names.{same_name}
use Rattle.ui_machine.specs.Definition.Programs.{Program}
use Rattle.ui_machine.specs.Definition.Places.{Attached, Bind, Given, GivenProperty, Place, value, named}
use Rattle.ui_machine.specs.Definition.Properties.{Spec, is_construct_only}
use Rattle.ui_machine.specs.Definition.Types.{GType}
use Rattle.ui_machine.specs.Definition.Kinds.{Kind}
use Rattle.ui_machine.specs.Rules.Construction.{is_forward}
use Rattle.ui_machine.specs.declared.limits.Limits.{Limits}
use Rattle.definition_format.specs.Denoted.Drafts.{ClassDraft}
use Rattle.definition_format.specs.Denoted.Entries.{at_most}
use Rattle.definition_format.specs.Denoted.Given.{may_be}
use Rattle.definition_format.specs.Denoted.Objects.{Built}
use Rattle.definition_format.specs.Denoted.Properties.{specs_by}
use Rattle.definition_format.specs.Denoted.Shapes.{is_shaped_by}
use Rattle.definition_format.specs.Denoted.{definition_with}
use Rattle.law_typing.specs.Verdict.Accepted.{Each}
use Rattle.law_typing.specs.Laws.WellRead.{no_two, is_plain, GivenFits, GivenRead, IsObject, IsObjectIf, PlaceRead}
use Rattle.law_reading.proofs.AttachedProofs.{HasData, IsEntry}
use Rattle.law_reading.proofs.BindProofs.{IsBetween}
use Rattle.law_reading.proofs.GivenProofs.{Refers, IsOfKind, IsFit}
use Rattle.law_reading.proofs.ListProofs.{each_more, each_get, get_front, got_either, got_within}
use Rattle.law_reading.proofs.ObjectProofs.{IsObjectRead, AreObjects}
use Rattle.law_reading.proofs.PrototypeProofs.{IsItself, IsPlainFit, IsPrototypeRead, ArePrototypes}
use Rattle.law_reading.proofs.PassedShapes.{AreShaped}
use Rattle.law_reading.proofs.PeerNames.{places_once}
use Rattle.law_reading.proofs.SignalProofs.{known, shape_is}

-- what a value itself is given to names no object
plain_given : (types : List GType) (kind : Kind) (g : GivenProperty) → IsItself types kind g.given → is_plain g ≡ true
plain_given types kind g itself = by g.given itself.is
  where
    by : (x : Given) → x ≡ value itself.of → is_plain (record { slot = g.slot; given = x }) ≡ true
    by (value v) e = refl
    by (named to) e = absurd (cc)

all_plain : (types : List GType) (specs : List Spec) (gs : List GivenProperty) → Each (IsPlainFit types specs) gs → list_all is_plain gs ≡ true
all_plain types specs [] all = refl
all_plain types specs (g ∷ gs) all =
    ap (λ b. b && list_all is_plain gs) (plain_given types all.0.spec.kind g all.0.itself) ∙ all_plain types specs gs all.1

module _ (draft : ClassDraft) (programs : List Program) (built : Built) (prototypes : List Place) (limits : Limits)
    (shaped : AreShaped draft.types draft.answers.shaped)
    (read : AreObjects draft.types (specs_by draft.types draft.own) (is_shaped_by draft.types draft.answers.shaped) prototypes built)
    (made : ArePrototypes draft.types (specs_by draft.types draft.own) prototypes)
    (fit : length built.places + length prototypes ≤ 512) where
  abbrev objects : List Place
  objects = built.places

  abbrev whole : Definition
  whole = definition_with draft programs (objects ++ prototypes) built.bindings limits

  abbrev Objectlike : ℕ → Place → Type 0
  Objectlike place p = IsObjectRead draft.types (specs_by draft.types draft.own) (is_shaped_by draft.types draft.answers.shaped) read.names place p

  abbrev Prototypal : Place → Type 0
  Prototypal p = IsPrototypeRead draft.types (specs_by draft.types draft.own) p

  -- a place is of an object, or it is a prototype behind all objects
  either : (place : ℕ) (p : Place) → place_at whole place ≡ Some p
      → ((place < length objects) × Objectlike place p) ⊎ ((length objects ≤ place) × Prototypal p)
  either place p e = by (got_either objects prototypes place p e)
    where
      by : (slice_get objects place ≡ Some p) ⊎ ((length objects ≤ place) × ((j : ℕ) × (slice_get prototypes j ≡ Some p)))
          → ((place < length objects) × Objectlike place p) ⊎ ((length objects ≤ place) × Prototypal p)
      by (inl there) = inl (slice_get_within objects place p there, read.all place p there)
      by (inr behind) = inr (behind.0, each_get (IsPrototypeRead draft.types (specs_by draft.types draft.own)) prototypes behind.1.0 p made behind.1.1)

  -- each object has a place
  object_at : (place : ℕ) → place < length objects → (p : Place) × (place_at whole place ≡ Some p) × Objectlike place p
  object_at place h =
      let found = got_within objects place h in
      (found.0, get_front objects prototypes place found.0 found.1, read.all place found.0 found.1)

  -- a number that denotes a place is the place's
  number_is : (n : ℕ) → n < length objects → at_most 512 n ≡ n
  number_is n h = by (nat_lt n 512) refl
    where
      by : (b : Bool) → nat_lt n 512 ≡ b → (if b then n else 512) ≡ n
      by true e = refl
      by false e = absurd (grind (arith, nat_tests))

  named_fits : (kind : Kind) (to : ℕ) → Refers draft.types read.names kind to → GivenFits whole kind (named to)
  named_fits kind to r =
      let within : r.place < length objects = let n = read.many in let m = r.there in omega (arith, n, m) in
      let o = object_at r.place within in
      let same : r.place ≡ to = sym (number_is r.place within) ∙ sym r.number in (
        o.0,
        r.type,
        subst (λ n. place_at whole n ≡ Some o.0) same o.1,
        o.2.object,
        r.is,
        sym (ap (may_be draft.types r.type) o.2.named) ∙ r.fits,
      )

  given_fits : (kind : Kind) (g : Given) → IsOfKind draft.types read.names kind g → GivenFits whole kind g
  given_fits kind (value v) fits = fits
  given_fits kind (named to) fits = named_fits kind to fits

  given_read : (place : ℕ) (p : Place) → p.class < length draft.types → (g : GivenProperty)
      → IsFit draft.types read.names place (specs_by draft.types draft.own p.class) g → GivenRead whole place p g
  given_read place p there g fit = record {
    spec = fit.spec;
    is = ap (λ (c : Class). slice_get c.specs g.slot) (known draft programs (objects ++ prototypes) built.bindings limits p.class there) ∙ fit.is;
    writable = fit.writable;
    fits = given_fits fit.spec.kind g.given fit.fits;
    forward = fit.forward;
  }

  -- a value itself is of its kind, and comes in time
  itself_fits : (kind : Kind) (g : Given) → IsItself draft.types kind g → GivenFits whole kind g
  itself_fits kind g i = subst (GivenFits whole kind) (sym i.is) i.fits

  itself_in_time : (place : ℕ) (spec : Spec) (g : Given) → IsItself draft.types spec.kind g → is_forward place g ≡ true → is_construct_only spec ≡ false
  itself_in_time place spec g i h = let early : is_forward place (value i.of) ≡ true = subst (λ x. is_forward place x ≡ true) i.is h in absurd (cc)

  plain_read : (place : ℕ) (p : Place) → p.class < length draft.types → (g : GivenProperty)
      → IsPlainFit draft.types (specs_by draft.types draft.own p.class) g → GivenRead whole place p g
  plain_read place p there g fit = record {
    spec = fit.spec;
    is = ap (λ (c : Class). slice_get c.specs g.slot) (known draft programs (objects ++ prototypes) built.bindings limits p.class there) ∙ fit.is;
    writable = fit.writable;
    fits = itself_fits fit.spec.kind g.given fit.itself;
    forward = itself_in_time place fit.spec g.given fit.itself;
  }

  -- among the objects each place is of an object
  object_there : (place : ℕ) → place < length objects → IsObject whole place
  object_there place h = let o = object_at place h in (o.0, o.1, o.2.object)

  -- what the number of an entry denotes is an object
  entry_there : (to : ℕ) → IsEntry read.names to → IsObject whole to
  entry_there to r =
      let within : r.place < length objects = let n = read.many in let m = r.there in omega (arith, n, m) in
      subst (IsObject whole) (sym (number_is r.place within) ∙ sym r.number) (object_there r.place within)

  -- the data of a signal is an object
  data_there : (with : Option ℕ) → ((to : ℕ) → with ≡ Some to → IsEntry read.names to) → IsObjectIf whole with
  data_there None is = tt
  data_there (Some to) is = entry_there to (is to refl)

  object_read : (place : ℕ) (p : Place) → place < length objects → Objectlike place p → PlaceRead whole place p
  object_read place p here o = record {
    known = o.class.known;
    class = o.class.sort;
    concrete = o.class.concrete;
    parent = λ above h. let before = o.parent above h in (before, object_there above (omega (arith, before, here)));
    given = each_more (IsFit draft.types read.names place (specs_by draft.types draft.own p.class)) (GivenRead whole place p) p.given
        (given_read place p o.class.known) o.given.fit;
    slots = o.given.apart;
    plain = λ h. absurd (let no = o.object in cc);
    silent = λ h. absurd (let no = o.object in cc);
    peers = λ h.
        o.peers ∙ ap (λ shape. cond (is_some shape) 1 0) (shape_is draft programs (objects ++ prototypes) built.bindings limits shaped.past p.class);
    signals = each_more (HasData read.names) (λ (a : Attached). IsObjectIf whole a.with) p.signals (λ a has. data_there a.with has.entry) o.signals;
  }

  prototype_read : (place : ℕ) (p : Place) → Prototypal p → PlaceRead whole place p
  prototype_read place p q = record {
    known = q.class.known;
    class = q.class.sort;
    concrete = q.class.concrete;
    parent = λ above h. absurd (let none = q.parent in cc);
    given = each_more (IsPlainFit draft.types (specs_by draft.types draft.own p.class)) (GivenRead whole place p) p.given
        (plain_read place p q.class.known) q.given.fit;
    slots = q.given.apart;
    plain = λ h. all_plain draft.types (specs_by draft.types draft.own p.class) p.given q.given.fit;
    silent = λ h. q.signals;
    peers = λ h. absurd (let is = q.prototype in cc);
    signals = subst (Each (λ (a : Attached). IsObjectIf whole a.with)) (sym q.signals) tt;
  }

  pub place_read : (place : ℕ) (p : Place) → place_at whole place ≡ Some p → PlaceRead whole place p
  place_read place p e = by (either place p e)
    where
      by : ((place < length objects) × Objectlike place p) ⊎ ((length objects ≤ place) × Prototypal p) → PlaceRead whole place p
      by (inl o) = object_read place p o.0 o.1
      by (inr q) = prototype_read place p q.1

  pub place_order : (a b : ℕ) (p q : Place) → place_at whole a ≡ Some p → place_at whole b ≡ Some q → p.is_prototype ≡ true → q.is_prototype ≡ false → b < a
  place_order a b p q e f g h = by (either a p e) (either b q f)
    where
      by : ((a < length objects) × Objectlike a p) ⊎ ((length objects ≤ a) × Prototypal p)
          → ((b < length objects) × Objectlike b q) ⊎ ((length objects ≤ b) × Prototypal q) → b < a
      by (inl o) other = absurd (let no = o.1.object in cc)
      by (inr x) (inl o) = let first = o.0 in let behind = x.0 in omega (arith, first, behind)
      by (inr x) (inr y) = absurd (let is = y.1.prototype in cc)

  -- no peer is named twice
  pub peers_apart : no_two same_name (flat_map (λ (p : Place). p.peers) (objects ++ prototypes)) ≡ true
  peers_apart = places_once objects prototypes read.once

  -- a binding is between two objects
  pub binds_read : Each (λ (b : Bind). IsObject whole b.source × IsObject whole b.target) whole.bindings
  binds_read =
      each_more (IsBetween read.names) (λ (b : Bind). IsObject whole b.source × IsObject whole b.target) built.bindings
      (λ b is. (entry_there b.source is.source, entry_there b.target is.target)) read.bound
