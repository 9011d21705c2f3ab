-- An event that a line denotes names what is there, and its values fit.
use Rattle.std.proofs.Common.{◌≡◌, ℕ, zero, suc, ◌<◌, nat_eq, Bool, true, false, not, List, [], ◌∷◌, ◌++◌, length, Option, None, Some, option_and_then, option_map, Result, Ok, Err, refl, sym, ap, subst, ◌∙◌, arith}
use Rattle.std.specs.List.{AllZip}
use Rattle.std.proofs.lemmas.Bool.{eqb-true}
use Rattle.std.proofs.lemmas.Bool.Decides.{nat_tests}
use Rattle.std.proofs.lemmas.List.{append-nil, append_assoc}
use Rattle.std.specs.Prelude.{if◌then◌else◌, IfOk, codes}
use Rattle.serde_json.specs.Data.{Data, Items, no_items, item}
use Rattle.serde_json.specs.Find.{get, as_array, as_number, as_str, as_u64}
use Rattle.g_values.specs.Reading.{json_value}
use Rattle.g_values.specs.declared.error.JsonFault.{JsonFault}
use Rattle.ui_machine.specs.Outcome.{◌>>=◌}
use Rattle.ui_machine.specs.Definition.{Definition}
use Rattle.ui_machine.specs.Definition.Lookups.{place_at, place_of, slot_of, spec_of}
use Rattle.ui_machine.specs.Definition.Kinds.{Kind}
use Rattle.ui_machine.specs.Definition.Kinds as kinds
use Rattle.ui_machine.specs.Definition.Places.{Given, Place, named}
use Rattle.ui_machine.specs.Definition.Properties.{Spec, has_flags, is_readable, is_writable, is_construct_only}
use Rattle.ui_machine.specs.Definition.Signals.{Signal}
use Rattle.ui_machine.specs.Rules.Connections.{may_stand, signal_number}
use Rattle.ui_machine.specs.Rules.EmissionPlan.{signal_of}
use Rattle.ui_machine.specs.Definition.Values.{Value}
use Rattle.ui_machine.specs.Output.Text.{members_of}
use Rattle.ui_machine.specs.Rules.Ancestry.{is_a}
use Rattle.ui_machine.specs.Rules.Transform.{kind_fits}
use Rattle.definition_format.specs.Meaning as code
use Rattle.definition_format.specs.Meaning.{is_object_there, if_object, object_place}
use Rattle.definition_format.specs.Denoted.Given.{reference}
use Rattle.definition_format.specs.EventMeaning.{EventRefusal, unknown, shape, not_readable, construct_only, not_writable, value_fault, or_refused, line_value, has_one_member, words_of_set, words_of_get, Target, target, object_of, object_named, is_of_kind, itself, given_by, or_value_fault, writable, readable, set_event, get_event, release_event, release_by, event_by, event_meant, event_denoted, words_of_emit, SignalTarget, but_notify, signal_target, count, check_count, check_detail, each_of, id_known, argument, emit_event, emit_by, moment_if, turn_event, turn_by}
use Rattle.law_typing.specs.Rules.RegisterKinds.{class_at}
use Rattle.law_typing.specs.Graph.Channels.{spec_at}
use Rattle.law_typing.specs.Laws.WellRead.{no_class_of, GivenFits, IsObject}
use Rattle.law_steps.specs.Served.Sessions.{EventRead}
use Rattle.law_steps.proofs.Served.IfOkProofs.{after_each, after_such}
use Rattle.law_reading.proofs.ValueProofs.{HaveFewBits, value_fits}

after_read : {A B E : Type 0} (r : Result A E) (f : A → Result B E) (P : B → Type 0) → ((x : A) → r ≡ Ok x → IfOk (f x) P)
    → IfOk (r >>= f) P
after_read (Ok x) f P all = all x refl
after_read (Err e) f P all = tt

taken : {A : Type 0} (refusal : EventRefusal) (found : Option A) (x : A) → or_refused refusal found ≡ Ok x → found ≡ Some x
taken refusal None x e = absurd (cc)
taken refusal (Some y) x e = let same : y ≡ x = cc in ap Some same

module _ (d : Definition) (few : (t : ℕ) → HaveFewBits (members_of d.types t)) where
  -- the object of an id is there
  object_is : (id : List ℕ) (place : ℕ) → object_place d id ≡ Some place → IsObject d place
  object_is id place e = by (place_of d id) e
    where
      of : (n : ℕ) (p : Place) → place_at d n ≡ Some p → (b : Bool) → p.is_prototype ≡ b → (if not b then Some n else None) ≡ Some place → IsObject d place
      of n p there true is h = absurd (cc)
      of n p there false is h = let same : n ≡ place = cc in subst (IsObject d) same (p, there, is)

      here : (n : ℕ) (o : Option Place) → place_at d n ≡ o → (if is_object_there o then Some n else None) ≡ Some place → IsObject d place
      here n None there h = absurd (cc)
      here n (Some p) there h = of n p there p.is_prototype refl h

      by : (o : Option ℕ) → option_and_then (if_object d) o ≡ Some place → IsObject d place
      by None h = absurd (cc)
      by (Some n) h = here n (place_at d n) refl h

  -- a property of an object of the document
  record IsTarget (t : Target) : Type 0 where
    object : IsObject d t.place
    spec : spec_at d t.place t.slot ≡ Some t.spec

  target_of : (place slot : ℕ) (spec : Spec) → IsObject d place → spec_of d (code.class_at d place) slot ≡ Some spec
      → IsTarget (record { place = place; slot = slot; spec = spec })
  target_of place slot spec o has = record { object = o; spec = by o.0 o.1 has }
    where
      by : (p : Place) → place_at d place ≡ Some p → spec_of d (code.class_at d place) slot ≡ Some spec → spec_at d place slot ≡ Some spec
      by p e f = let known : spec_of d p.class slot ≡ Some spec = rw e at f in rw e known

  is_target : (id name : List ℕ) → IfOk (target d id name) IsTarget
  unfolding target
  is_target id name =
      after_read (or_refused (unknown id) (object_place d id)) _ IsTarget λ place found.
      after_each (or_refused (unknown name) (slot_of d (code.class_at d place) name)) _ IsTarget λ slot.
      after_read (or_refused (unknown name) (spec_of d (code.class_at d place) slot)) _ IsTarget λ spec has.
      target_of place slot spec (object_is id place (taken (unknown id) (object_place d id) place found)) (taken (unknown name) (spec_of d (code.class_at d place) slot) spec has)

  may_be_set : (s : Spec) → IfOk (writable s) (λ u. (is_writable s ≡ true) × (is_construct_only s ≡ false))
  may_be_set s = by (is_writable s) (is_construct_only s) refl refl
    where
      by : (a b : Bool) → is_writable s ≡ a → is_construct_only s ≡ b
          → IfOk {T = Unit {0}} (if a then (if b then Err construct_only else Ok tt) else Err not_writable)
          (λ u. (is_writable s ≡ true) × (is_construct_only s ≡ false))
      by true true e f = tt
      by true false e f = (e, f)
      by false b e f = tt

  may_be_read : (s : Spec) → IfOk (readable s) (λ u. is_readable s ≡ true)
  may_be_read s = by (is_readable s) refl
    where
      by : (b : Bool) → is_readable s ≡ b → IfOk {T = Unit {0}} (if b then Ok tt else Err not_readable) (λ u. is_readable s ≡ true)
      by true e = e
      by false e = tt

  -- a value itself
  is_value : (kind : Kind) (words : Data) → IfOk (itself (or_value_fault (json_value d.types kind words))) (GivenFits d kind)
  is_value kind words = by (json_value d.types kind words) (value_fits no_class_of d.types few kind words)
    where
      by : (r : Result Value JsonFault) → IfOk r (λ v. kind_fits no_class_of d.types v kind ≡ true)
          → IfOk (itself (or_value_fault r)) (GivenFits d kind)
      by (Ok v) h = h
      by (Err cause) h = tt

  -- an object of the document
  object_fits : (kind : Kind) (place : ℕ) → IsObject d place → is_of_kind d.types kind (code.class_at d place) ≡ true → GivenFits d kind (named place)
  object_fits (kinds.object t) place o h = (o.0, t, o.1, o.2, refl, by o.0 o.1 h)
    where
      by : (p : Place) → place_at d place ≡ Some p → is_a d.types (code.class_at d place) t ≡ true → is_a d.types p.class t ≡ true
      by p e h = let known : is_a d.types p.class t ≡ true = rw e at h in known
  object_fits kinds.bool place o h = absurd (cc)
  object_fits (kinds.whole k) place o h = absurd (cc)
  object_fits kinds.text place o h = absurd (cc)
  object_fits (kinds.enum t) place o h = absurd (cc)
  object_fits (kinds.flags t) place o h = absurd (cc)

  -- an object that is there, if there is one
  abbrev IsThere : Option ℕ → Type 0
  IsThere o = (place : ℕ) → o ≡ Some place → IsObject d place

  object_there : (id : List ℕ) → IfOk (object_of d id) IsThere
  unfolding object_of
  object_there id =
      after_read (or_refused (unknown id) (object_place d id)) _ IsThere λ place found.
      λ to e.
      let same : place ≡ to = cc in subst (IsObject d) same (object_is id place (taken (unknown id) (object_place d id) place found))

  named_there : (o : Option (ℕ × List ℕ)) → IfOk (object_named d o) IsThere
  named_there None = λ place e. absurd (cc)
  named_there (Some r) = object_there r.1

  is_given : (kind : Kind) (words : Data) (o : Option ℕ) → IsThere o → IfOk (given_by d kind words o) (GivenFits d kind)
  is_given kind words None there = is_value kind words
  is_given kind words (Some place) there = by (is_of_kind d.types kind (code.class_at d place)) refl
    where
      by : (b : Bool) → is_of_kind d.types kind (code.class_at d place) ≡ b
          → IfOk {T = Given} (if b then Ok (named place) else Err value_fault) (GivenFits d kind)
      by true e = object_fits kind place (there place refl) e
      by false e = tt

  set_read : (words : Data) → IfOk (set_event d words) (EventRead d)
  unfolding set_event
  set_read words =
      after_each (or_refused shape (option_and_then words_of_set (as_array words))) _ (EventRead d) λ said.
      after_such (target d said.0 said.1) _ IsTarget (EventRead d) (is_target said.0 said.1) λ t is.
      after_such (object_named d (reference t.spec.kind (as_str said.2))) _ IsThere (EventRead d)
      (named_there (reference t.spec.kind (as_str said.2))) λ o there.
      after_such (writable t.spec) _ (λ u. (is_writable t.spec ≡ true) × (is_construct_only t.spec ≡ false)) (EventRead d)
      (may_be_set t.spec) λ u may.
      after_such (given_by d t.spec.kind said.2 o) _ (GivenFits d t.spec.kind) (EventRead d) (is_given t.spec.kind said.2 o there)
      λ g fits. (is.object, t.spec, is.spec, may.0, may.1, fits)

  get_read : (words : Data) → IfOk (get_event d words) (EventRead d)
  unfolding get_event
  get_read words =
      after_each (or_refused shape (option_and_then words_of_get (as_array words))) _ (EventRead d) λ said.
      after_such (target d said.0 said.1) _ IsTarget (EventRead d) (is_target said.0 said.1) λ t is.
      after_such (readable t.spec) _ (λ u. is_readable t.spec ≡ true) (EventRead d) (may_be_read t.spec) λ u may.
      (is.object, t.spec, is.spec, may)

  release_read : (word : Data) → IfOk (release_event d word) (EventRead d)
  unfolding release_event
  release_read word =
      after_each (or_refused shape (as_str word)) _ (EventRead d) λ id.
      after_read (or_refused (unknown id) (object_place d id)) _ (EventRead d) λ place found.
      object_is id place (taken (unknown id) (object_place d id) place found)

  -- ** emissions

  -- a signal of an object of the document, and not `notify`
  record IsEmitted (t : SignalTarget) : Type 0 where
    object : IsObject d t.place
    class : ℕ
    placed : class_at d t.place ≡ Some class
    signal : signal_of d class t.which ≡ Some t.signal
    number : 0 < t.which

  above_notify : (found : Option ℕ) (number : ℕ) → but_notify found ≡ Some number → 0 < number
  above_notify None number e = absurd (cc)
  above_notify (Some zero) number e = absurd (cc)
  above_notify (Some (suc n)) number e = let same : suc n ≡ number = cc in omega (arith, same)

  emitted_by : (place number : ℕ) (s : Signal) → IsObject d place → signal_of d (code.class_at d place) number ≡ Some s → 0 < number
      → IsEmitted (record { place = place; which = number; signal = s })
  emitted_by place number s o has above =
      record { object = o; class = o.0.class; placed = placed o.0 o.1; signal = by o.0 o.1 has; number = above }
    where
      placed : (p : Place) → place_at d place ≡ Some p → class_at d place ≡ Some p.class
      placed p e = ap (λ o. option_map (λ (x : Place). x.class) o) e

      by : (p : Place) → place_at d place ≡ Some p → signal_of d (code.class_at d place) number ≡ Some s → signal_of d p.class number ≡ Some s
      by p e f = let known : signal_of d p.class number ≡ Some s = rw e at f in known

  is_emitted : (id name : List ℕ) → IfOk (signal_target d id name) IsEmitted
  unfolding signal_target
  is_emitted id name =
      after_read (or_refused (unknown id) (object_place d id)) _ IsEmitted λ place is.
      after_read (or_refused (unknown name) (but_notify (signal_number d (code.class_at d place) name))) _ IsEmitted λ number named.
      after_read (or_refused (unknown name) (signal_of d (code.class_at d place) number)) _ IsEmitted λ s has.
      emitted_by place number s (object_is id place (taken (unknown id) (object_place d id) place is)) (taken (unknown name) (signal_of d (code.class_at d place) number) s has)
      (above_notify (signal_number d (code.class_at d place) name) number (taken (unknown name) (but_notify (signal_number d (code.class_at d place) name)) number named))

  -- the arguments so far, with one more that fits
  OneMore : Kind → List Given → List Given → Type 0
  OneMore kind so_far more = (g : Given) × (more ≡ so_far ++ g ∷ []) × GivenFits d kind g

  is_argument : (kind : Kind) (words : Data) (so_far : List Given) → IfOk (argument d so_far kind words) (OneMore kind so_far)
  unfolding argument OneMore
  is_argument kind words so_far =
      after_such (object_named d (reference kind (as_str words))) _ IsThere (OneMore kind so_far) (named_there (reference kind (as_str words))) λ o there.
      after_such (given_by d kind words o) _ (GivenFits d kind) (OneMore kind so_far) (is_given kind words o there) λ g fits. (g, refl, fits)

  -- the arguments so far, with as many more as there are kinds, each of its kind
  AllFit : List Kind → List Given → List Given → Type 0
  AllFit ks so_far all = (rest : List Given) × (all ≡ so_far ++ rest) × AllZip (λ g kind. GivenFits d kind g) rest ks

  if_more : {A E : Type 0} (P Q : A → Type 0) (r : Result A E) → ((x : A) → P x → Q x) → IfOk r P → IfOk r Q
  if_more P Q (Ok x) more p = more x p
  if_more P Q (Err e) more p = tt

  one_before : (kind : Kind) (ks : List Kind) (so_far more all : List Given) → OneMore kind so_far more → AllFit ks more all → AllFit (kind ∷ ks) so_far all
  unfolding OneMore AllFit
  one_before kind ks so_far more all one rest =
      (one.0 ∷ rest.0, rest.1 ∙ ap (λ (gs : List Given). gs ++ rest.0) one.1 ∙ append_assoc so_far (one.0 ∷ []) rest.0, (one.2, rest.2))

  all_fit : (ks : List Kind) (vs : Items) (so_far : List Given) → count vs ≡ length ks → IfOk (each_of (argument d) so_far ks vs) (AllFit ks so_far)
  unfolding each_of AllFit
  all_fit [] no_items so_far same = ([], sym (append-nil so_far), tt)
  all_fit [] (item v vs) so_far same = absurd (cc)
  all_fit (k ∷ ks) no_items so_far same = absurd (cc)
  all_fit (k ∷ ks) (item v vs) so_far same =
      after_such (argument d so_far k v) _ (OneMore k so_far) (AllFit (k ∷ ks) so_far) (is_argument k v so_far) λ more one.
      if_more (AllFit ks more) (AllFit (k ∷ ks) so_far) (each_of (argument d) more ks vs) (λ all rest. one_before k ks so_far more all one rest)
      (all_fit ks vs more (let same : count vs ≡ length ks = omega (arith, same) in same))

  as_many : (s : Signal) (args : Items) → IfOk (check_count s args) (λ u. count args ≡ length s.params)
  as_many s args = by (nat_eq (length s.params) (count args)) refl
    where
      by : (b : Bool) → nat_eq (length s.params) (count args) ≡ b → IfOk {T = Unit {0}} (if b then Ok tt else Err shape) (λ u. count args ≡ length s.params)
      by true e = grind (arith, nat_tests)
      by false e = tt

  not_notify : (n : ℕ) → nat_eq (suc n) 0 ≡ false
  not_notify n = by (nat_eq (suc n) 0) refl
    where
      by : (b : Bool) → nat_eq (suc n) 0 ≡ b → nat_eq (suc n) 0 ≡ false
      by true e = let same = eqb-true (suc n) 0 e in absurd (omega (arith, same))
      by false e = e

  may_be_detailed : (class number : ℕ) (s : Signal) (detail : Option (List ℕ)) → 0 < number → IfOk (check_detail s detail) (λ u. may_stand d class number s detail ≡ true)
  may_be_detailed class number s None above = refl
  may_be_detailed class zero s (Some detail) above = absurd (omega (arith, above))
  may_be_detailed class (suc n) s (Some detail) above = by (has_flags 16 s.flags) refl
    where
      by : (b : Bool) → has_flags 16 s.flags ≡ b → IfOk {T = Unit {0}} (if b then Ok tt else Err (unknown detail)) (λ u. may_stand d class (suc n) s (Some detail) ≡ true)
      by true e = let other = not_notify n in rw (e, other) refl
      by false e = tt

  emit_read : (words : Data) → IfOk (emit_event d words) (EventRead d)
  unfolding emit_event AllFit
  emit_read words =
      after_each (or_refused shape (option_and_then words_of_emit (as_array words))) _ (EventRead d) λ said.
      after_such (signal_target d said.id said.name) _ IsEmitted (EventRead d) (is_emitted said.id said.name) λ t is.
      after_such (check_count t.signal said.args) _ (λ u. count said.args ≡ length t.signal.params) (EventRead d) (as_many t.signal said.args) λ u same.
      after_each (each_of (id_known d) tt t.signal.params said.args) _ (EventRead d) λ v.
      after_such (check_detail t.signal said.detail) _ (λ u. may_stand d is.class t.which t.signal said.detail ≡ true) (EventRead d)
      (may_be_detailed is.class t.which t.signal said.detail is.number) λ w may.
      after_such (each_of (argument d) [] t.signal.params said.args) _ (AllFit t.signal.params []) (EventRead d) (all_fit t.signal.params said.args [] same) λ all fit. (
        is.object,
        is.class,
        t.signal,
        is.placed,
        is.signal,
        is.number,
        subst (λ gs. AllZip (λ g kind. GivenFits d kind g) gs t.signal.params) (sym fit.1) fit.2,
        may,
      )

  turn_read : (word : Data) → IfOk (turn_event word) (EventRead d)
  unfolding turn_event
  turn_read word =
      after_each (or_refused shape (as_number word)) _ (EventRead d) λ said.
      after_each (moment_if (as_u64 said)) _ (EventRead d) λ moment. tt

  by_turn : (turn : Option Data) → IfOk (turn_by turn) (EventRead d)
  by_turn None = tt
  by_turn (Some word) = turn_read word

  by_emit : (emit turn : Option Data) → IfOk (emit_by d emit turn) (EventRead d)
  by_emit None turn = by_turn turn
  by_emit (Some words) turn = emit_read words

  by_release : (release emit turn : Option Data) → IfOk (release_by d release emit turn) (EventRead d)
  by_release None emit turn = by_emit emit turn
  by_release (Some word) emit turn = release_read word

  by_member : (set get release emit turn : Option Data) → IfOk (event_by d set get release emit turn) (EventRead d)
  by_member None None release emit turn = by_release release emit turn
  by_member None (Some words) release emit turn = get_read words
  by_member (Some words) get release emit turn = set_read words

  meant_read : (value : Data) → IfOk (event_meant d value) (EventRead d)
  unfolding event_meant
  meant_read value = by (has_one_member value)
    where
      by : (b : Bool)
          → IfOk (if b then event_by d (get (codes "set") value) (get (codes "get") value) (get (codes "release") value) (get (codes "emit") value) (get (codes "turn") value) else Err shape) (EventRead d)
      by true = by_member (get (codes "set") value) (get (codes "get") value) (get (codes "release") value) (get (codes "emit") value) (get (codes "turn") value)
      by false = tt

  pub event_read : (line : List ℕ) → IfOk (event_denoted d line) (EventRead d)
  unfolding event_denoted
  event_read line = after_each (line_value line) _ (EventRead d) meant_read
