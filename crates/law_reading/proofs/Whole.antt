-- Each definition that bytes denote is well read, and each event that a line denotes for it names what is there and fits.
use Rattle.std.proofs.Common.{◌≡◌, ℕ, true, List, ◌++◌, Some, sym, subst, ◌∙◌, arith, IfOk}
use Rattle.ui_machine.specs.Definition.{Definition}
use Rattle.ui_machine.specs.Definition.Programs.{Program}
use Rattle.ui_machine.specs.Definition.Places.{Bind, Place}
use Rattle.ui_machine.specs.Output.Text.{no_type, members_of}
use Rattle.ui_machine.specs.Rules.Ancestry.{is_a}
use Rattle.ui_machine.specs.Rules.Construction.{nearest_shape}
use Rattle.ui_machine.specs.declared.limits.Limits.{Limits}
use Rattle.definition_format.specs.Denoted.{definition_with}
use Rattle.definition_format.specs.Denoted.Drafts.{ClassDraft, unanswered}
use Rattle.definition_format.specs.Denoted.Objects.{Built}
use Rattle.definition_format.specs.Denoted.Properties.{specs_by}
use Rattle.definition_format.specs.Denoted.Shapes.{is_shaped_by}
use Rattle.definition_format.proofs.Soundness as soundness
use Rattle.definition_format.proofs.Soundness.{OnRead, AreFew, AreWithin, PlainDraft, draft_plain, prototypes_within, PlainClasses}
use Rattle.law_typing.specs.Laws.WellRead.{ProgramRead, TypesRead, WellRead}
use Rattle.law_typing.specs.Verdict.Accepted.{Each}
use Rattle.law_reading.specs.Reading.{ReadingIsWell, EventsAreRead}
use Rattle.law_reading.proofs.EventProofs.{event_read}
use Rattle.law_reading.proofs.ValueProofs.{HaveFewBits}
use Rattle.law_steps.specs.Served.Sessions.{EventRead}
use Rattle.law_reading.proofs.Parts.{IsRead, parts}
use Rattle.law_reading.proofs.Ancestors.{transitive}
use Rattle.law_reading.proofs.LimitProofs.{Small, limits_small, objects_few}
use Rattle.law_reading.proofs.ListProofs.{all_read, each_more, each_get}
use Rattle.law_reading.proofs.ListedPrograms.{programs_read}
use Rattle.law_reading.proofs.ObjectProofs.{AreObjects, all_objects}
use Rattle.law_reading.proofs.PassedShapes.{shape_passed}
use Rattle.law_reading.proofs.PrototypeProofs.{AreReadOnce, IsPrototypeRead, ArePrototypes, all_prototypes}
use Rattle.law_reading.proofs.PlaceProofs.{binds_read, place_read, place_order, peers_apart}
use Rattle.law_reading.proofs.SignalProofs.{as_many, has_notify, some_signal, found, results_filled, shape_is}
use Rattle.law_reading.proofs.SpecProofs.{spec_read, names_apart, specs_inherited}
use Rattle.law_reading.proofs.TreeProofs.{GrownClasses, ReadClasses, draft_grown}

module _ (draft : ClassDraft) (programs : List Program) (objects : Built) (prototypes : List Place) (limits : Limits) (all : ReadClasses draft) (plain : PlainDraft (unanswered draft))
    (placed : AreObjects draft.types (specs_by draft.types draft.own) (is_shaped_by draft.types draft.answers.shaped) prototypes objects)
    (made : ArePrototypes draft.types (specs_by draft.types draft.own) prototypes)
    (small : Small limits) (few : AreFew limits.objects prototypes objects.places)
    (read : Each (ProgramRead (definition_with draft programs (objects.places ++ prototypes) objects.bindings limits)) programs) where
  abbrev places : List Place
  places = objects.places ++ prototypes

  abbrev bindings : List Bind
  bindings = objects.bindings

  abbrev grown : GrownClasses draft
  grown = all.grown

  shape_kept : (class type shape : ℕ) → is_a draft.types class type ≡ true → nearest_shape (definition_with draft programs places bindings limits) type ≡ Some shape
      → nearest_shape (definition_with draft programs places bindings limits) class ≡ Some shape
  shape_kept class type shape h e =
      let is = shape_is draft programs places bindings limits all.shaped.past in
      sym (is class) ∙ shape_passed draft.types grown.0.tree draft.answers.shaped grown.0.heirs all.shaped class type shape h (is type ∙ e)

  types_read : TypesRead (definition_with draft programs places bindings limits)
  types_read = record {
    classes = as_many draft programs places bindings limits;
    parents = grown.0.tree.parents_first;
    transitive = transitive draft.types grown.0.tree grown.0.heirs;
    inherits = specs_inherited draft programs places bindings limits grown plain;
    shapes = shape_kept;
    notify = λ class known sort. has_notify draft programs places bindings limits class known;
    first = λ type number s e. has_notify draft programs places bindings limits type (some_signal draft programs places bindings limits type number s e);
    specs = spec_read draft programs places bindings limits grown plain;
    names = names_apart draft programs places bindings limits grown plain;
    replies = all.replies (definition_with draft programs places bindings limits);
    results = results_filled draft programs places bindings limits grown.3 grown.0 plain.known;
    signals = found draft programs places bindings limits grown.3;
    members = all_read no_type _ draft.types (λ t. (grown.0.members t).few);
  }

  well : WellRead (definition_with draft programs places bindings limits)
  well =
      let live =
      objects_few objects.places prototypes
      (each_more (IsPrototypeRead draft.types (specs_by draft.types draft.own)) (λ p. p.is_prototype ≡ true) prototypes (λ p q. q.prototype) made) in
      record {
        types = types_read;
        programs = λ number p e. each_get (ProgramRead (definition_with draft programs places bindings limits)) programs number p read e;
        places = place_read draft programs objects prototypes limits all.shaped placed made few.placed;
        order = place_order draft programs objects prototypes limits all.shaped placed made few.placed;
        peers = peers_apart draft programs objects prototypes limits all.shaped placed made few.placed;
        bindings = binds_read draft programs objects prototypes limits all.shaped placed made few.placed;
        objects = omega (arith, live, few.live);
        most_objects = small.objects;
        most_handlers = small.handlers;
      }

-- what is so of the parts of a definition that was read
pub record Facts (d : Definition) : Type 0 where
  pub read : IsRead d
  pub all : ReadClasses read.draft
  pub plain : PlainDraft (unanswered read.draft)
  pub objects : AreObjects read.draft.types (specs_by read.draft.types read.draft.own) (is_shaped_by read.draft.types read.draft.answers.shaped) read.prototypes read.objects
  pub prototypes : ArePrototypes read.draft.types (specs_by read.draft.types read.draft.own) read.prototypes
  pub small : Small read.limits
  pub few : AreFew read.limits.objects read.prototypes read.objects.places
  pub programs : Each (ProgramRead d) read.programs

pub facts : (d : Definition) → IsRead d → Facts d
facts d r =
    let specs = specs_by r.draft.types r.draft.own in
    let has_shape = is_shaped_by r.draft.types r.draft.answers.shaped in
    let all : ReadClasses r.draft = subst (OnRead ReadClasses) r.drafted (draft_grown r.value) in
    let grown = all.grown in
    let within : AreWithin r.prototypes = subst (OnRead AreWithin) r.made (prototypes_within r.draft.types specs has_shape r.value) in
    let made : AreReadOnce r.draft.types specs r.prototypes =
    subst (OnRead (AreReadOnce r.draft.types specs)) r.made (all_prototypes r.draft.types (λ t. (grown.0.members t).few) specs has_shape r.value) in
    record {
      read = r;
      all = all;
      plain = (subst (OnRead PlainClasses) r.drafted (draft_plain r.value)).plain;
      objects = subst (OnRead (AreObjects r.draft.types specs has_shape r.prototypes)) r.placed
          (all_objects r.draft.types (λ t. (grown.0.members t).few) specs has_shape r.programs r.prototypes r.limits.objects r.value made.once);
      prototypes = made.read;
      small = subst (OnRead Small) r.limited (limits_small r.value);
      few = subst (OnRead (λ (built : Built). AreFew r.limits.objects r.prototypes built.places)) r.placed
          (soundness.objects_few r.draft.types specs has_shape r.programs r.prototypes r.limits.objects r.value within);
      programs = subst (λ (x : Definition). Each (ProgramRead x) r.programs) r.is
          (subst (OnRead (Each (ProgramRead (definition_with r.draft r.programs (r.objects.places ++ r.prototypes) r.objects.bindings r.limits)))) r.programmed
          (programs_read (definition_with r.draft r.programs (r.objects.places ++ r.prototypes) r.objects.bindings r.limits) (λ t. grown.0.members t) r.format r.value));
    }

few_bits : (d : Definition) → Facts d → (t : ℕ) → HaveFewBits (members_of d.types t)
few_bits d f t = subst (λ (x : Definition). HaveFewBits (members_of x.types t)) f.read.is (f.all.grown.0.members t).few

pub events_read : EventsAreRead
events_read bytes d h line event e =
    let f = facts d (parts bytes d h) in
    subst (λ r. IfOk r (EventRead d)) e (event_read d (few_bits d f) line)

pub well_read : ReadingIsWell
well_read bytes d h =
    let f = facts d (parts bytes d h) in
    let programs = subst (λ (x : Definition). Each (ProgramRead x) f.read.programs) (sym f.read.is) f.programs in
    subst WellRead f.read.is (well f.read.draft f.read.programs f.read.objects f.read.prototypes f.read.limits f.all f.plain f.objects f.prototypes f.small f.few programs)
