-- Handlers and groups that are for a channel.
use Rattle.std.proofs.Common.{◌≡◌, ◌∙◌, inl, inr, ◌⊎◌, refl, sym, ap, ℕ, zero, suc, ◌<◌, ◌≤◌, Bool, true, false, cond, List, [], ◌∷◌, ◌++◌, length, map, nat_eq, append-nil, Option, None, Some, slice_get, slice_index_or, arith}
use Rattle.std.specs.Prelude.{◌&&◌, option_map}
use Rattle.std.specs.List.{filter}
use Rattle.std.proofs.lemmas.Bool.Decides.{nat_tests}
use Rattle.std.proofs.lemmas.List.Elements.{filter-append}
use Rattle.std.proofs.lemmas.List.{length-map, map-append}
use Rattle.std.proofs.lemmas.Option.{none-some, same_Some, slice_get-map, slice_get_past, slice_get_read, slice_get_within}
use Rattle.ui_machine.specs.Seq.{read}
use Rattle.ui_machine.specs.Definition.{Definition}
use Rattle.ui_machine.specs.Definition.Places.{Attached, Place}
use Rattle.law_typing.specs.Graph.{attached_for, attached_to, can_mean, place_of_channel}
use Rattle.law_typing.specs.Graph.Channels.{Channel, constructed, of_class, property, signal}
use Rattle.law_typing.specs.Rules.RegisterKinds.{class_at}
use Rattle.ui_machine.specs.declared.ids.Channel as code
use Rattle.ui_machine.specs.declared.ids.Member.{Member}
use Rattle.ui_machine.specs.declared.ids.Member.TheVariants as members
use Rattle.verify_graph.specs.ChannelView.{channel_at, channel_of}
use Rattle.verify_graph.proofs.Prefixes.{listed_get, listed_length}
use Rattle.ui_machine.specs.Rules.Programs.{is_number}
use Rattle.verify_channels.specs.Attached.{AreAttached, handlers_for}
use Rattle.verify_channels.specs.Meanings.{Meaning, Meant, attached_in, attached_meanings, is_meant, meaning_of, meant, names, of_signal, signal_of_channel}
use Rattle.verify_channels.specs.declared.signal_lists.SignalLists.{SignalLists}
use Rattle.verify_channels.specs.declared.attached_handlers.AttachedHandler.{AttachedHandler}

-- what a signal with a detail means in a class is what it can mean
pub meant_is : (d : Definition) (class : ℕ) (c : Channel) (name : List ℕ) (detail : Option (List ℕ)) → is_meant c (meaning_of d class name detail) ≡ can_mean d class c name detail
meant_is d class (constructed place) name detail = refl
meant_is d class (property place slot) name None = refl
meant_is d class (property place slot) name (Some detail) = refl
meant_is d class (signal place number) name detail = refl

pub meant_both : (c : Channel) (xs ys : List Meant) → meant c (xs ++ ys) ≡ meant c xs ++ meant c ys
meant_both c xs ys =
    ap (map (λ (x : Meant). x.what)) (filter-append (λ (x : Meant). is_meant c x.meaning) xs ys)
    ∙ map-append (λ (x : Meant). x.what) (filter (λ (x : Meant). is_meant c x.meaning) xs) (filter (λ (x : Meant). is_meant c x.meaning) ys)

pub of_signal_both : (number : ℕ) (xs ys : List Meant) → of_signal number (xs ++ ys) ≡ of_signal number xs ++ of_signal number ys
of_signal_both number xs ys = filter-append (λ (x : Meant). is_number number x.meaning.signal) xs ys

-- what is for another signal is not meant
not_meant : (c : Channel) (m : Meaning) → is_number (signal_of_channel c) m.signal ≡ false → is_meant c m ≡ false
not_meant (constructed place) m other = refl
not_meant (property place slot) m other = ap (λ b. b && names m.detail slot) other
not_meant (signal place number) m other = other

-- what is for a channel is for its signal
pub meant_of_signal : (c : Channel) (xs : List Meant) → meant c (of_signal (signal_of_channel c) xs) ≡ meant c xs
meant_of_signal c [] = refl
meant_of_signal c (x ∷ xs) = by (is_number (signal_of_channel c) x.meaning.signal) refl (meant_of_signal c xs)
  where
    rest : List Meant
    rest = of_signal (signal_of_channel c) xs

    one : (b : Bool) → meant c rest ≡ meant c xs
        → map (λ (y : Meant). y.what) (cond b (x ∷ filter (λ (y : Meant). is_meant c y.meaning) rest) (filter (λ (y : Meant). is_meant c y.meaning) rest))
        ≡ map (λ (y : Meant). y.what) (cond b (x ∷ filter (λ (y : Meant). is_meant c y.meaning) xs) (filter (λ (y : Meant). is_meant c y.meaning) xs))
    one true same = ap (λ l. x.what ∷ l) same
    one false same = same

    by : (b : Bool) → is_number (signal_of_channel c) x.meaning.signal ≡ b → meant c rest ≡ meant c xs → meant c (cond b (x ∷ rest) rest) ≡ meant c (x ∷ xs)
    by true e same = one (is_meant c x.meaning) same
    by false e same =
        same
        ∙ sym (ap (λ b. map (λ (y : Meant). y.what) (cond b (x ∷ filter (λ (y : Meant). is_meant c y.meaning) xs) (filter (λ (y : Meant). is_meant c y.meaning) xs))) (not_meant c x.meaning e))

-- a list of a signal that gets one more, seen with what each is for
pub one_more : {T : Type 0} (view : T → Meant) (old new : List T) (under number : ℕ) (x : T) → new ≡ cond (nat_eq under number) (old ++ x ∷ []) old
    → (view x).meaning.signal ≡ Some under → map view new ≡ map view old ++ of_signal number (view x ∷ [])
one_more view old new under number x is for =
    ap (map view) is ∙ by (nat_eq under number) ∙ ap (λ b. map view old ++ cond b (view x ∷ []) []) (sym (ap (is_number number) for ∙ same number under))
  where
    same : (n s : ℕ) → is_number n (Some s) ≡ nat_eq s n
    same n s = grind (arith, nat_tests)

    by : (b : Bool) → map view (cond b (old ++ x ∷ []) old) ≡ map view old ++ cond b (view x ∷ []) []
    by true = map-append view old (x ∷ [])
    by false = sym (append-nil (map view old))

-- ** the handlers of objects

attached_is : (d : Definition) (class : ℕ) (c : Channel) (xs : List Attached) →
    meant c (attached_in d class xs) ≡ map (λ (a : Attached). a.program) (filter (λ (a : Attached). can_mean d class c a.signal a.detail) xs)
attached_is d class c [] = refl
attached_is d class c (a ∷ xs) =
    ap (λ b. map (λ (x : Meant). x.what)
    (cond b (record { what = a.program; meaning = meaning_of d class a.signal a.detail } ∷ filter (λ (x : Meant). is_meant c x.meaning) (attached_in d class xs))
    (filter (λ (x : Meant). is_meant c x.meaning) (attached_in d class xs)))) (meant_is d class c a.signal a.detail)
    ∙ by (can_mean d class c a.signal a.detail) (attached_is d class c xs)
  where
    by : (b : Bool) → meant c (attached_in d class xs) ≡ map (λ (a : Attached). a.program) (filter (λ (a : Attached). can_mean d class c a.signal a.detail) xs) →
        map (λ (x : Meant). x.what)
        (cond b (record { what = a.program; meaning = meaning_of d class a.signal a.detail } ∷ filter (λ (x : Meant). is_meant c x.meaning) (attached_in d class xs))
        (filter (λ (x : Meant). is_meant c x.meaning) (attached_in d class xs)))
        ≡ map (λ (a : Attached). a.program) (cond b (a ∷ filter (λ (a : Attached). can_mean d class c a.signal a.detail) xs)
        (filter (λ (a : Attached). can_mean d class c a.signal a.detail) xs))
    by true later = ap (λ ps. a.program ∷ ps) later
    by false later = later

pub attached_for_is : (d : Definition) (c : Channel) (o : Option ℕ) → meant c (of_class (λ class. attached_in d class (attached_to d (place_of_channel c))) o) ≡ of_class (attached_for d c) o
attached_for_is d c None = refl
attached_for_is d c (Some class) = attached_is d class c (attached_to d (place_of_channel c))

-- a place that is not there has no class
pub no_class : (d : Definition) (place : ℕ) → length d.places ≤ place → class_at d place ≡ None
no_class d place behind = ap (λ (o : Option Place). option_map (λ (p : Place). p.class) o) (slice_get_past d.places place behind)

pub attached_length : (d : Definition) (lists : List (SignalLists AttachedHandler)) → AreAttached d lists → length lists ≡ length d.places
attached_length d lists are =
    sym (length-map lists (λ s. handlers_for s 0)) ∙ (ap length (are 0) ∙ listed_length (λ place. of_signal 0 (attached_meanings d place)) (length d.places))

-- the handlers that are kept at a place for a signal are its own for the signal
pub attached_at : (d : Definition) (lists : List (SignalLists AttachedHandler)) (place number : ℕ) (s : SignalLists AttachedHandler) → AreAttached d lists →
    slice_get lists place ≡ Some s → handlers_for s number ≡ of_signal number (attached_meanings d place)
attached_at d lists place number s are at =
    let low = slice_get_within lists place s at in
    let len = attached_length d lists are in
    same_Some _ _ (ap (option_map (λ (w : SignalLists AttachedHandler). handlers_for w number)) (sym at)
    ∙ (sym (slice_get-map (λ (w : SignalLists AttachedHandler). handlers_for w number) lists place)
    ∙ (ap (λ xs. slice_get xs place) (are number) ∙ listed_get (λ p. of_signal number (attached_meanings d p)) (length d.places) place (omega (arith, low, len)))))

pub got : {A : Type 0} → (xs : List A) (n : ℕ) (x : A) → n < length xs → x ≡ slice_index_or xs n x → slice_get xs n ≡ Some x
got xs n x within is = slice_get_read xs (length xs) n x refl within is

-- ** places of channels

pub place_is : (c : code.Channel) → place_of_channel (channel_of c) ≡ c.place.0
place_is c = by c.member
  where
    by : (m : Member) → place_of_channel (channel_at c.place.0 m) ≡ c.place.0
    by (members.Property slot) = refl
    by (members.Signal number) = refl
    by members.Constructed = refl

-- the handlers of the place of a channel that are for it
pub attached_here : (d : Definition) (c : code.Channel) → meant (channel_of c) (attached_meanings d c.place.0) ≡ of_class (attached_for d (channel_of c)) (class_at d c.place.0)
attached_here d c =
    ap (λ p. meant (channel_of c) (attached_meanings d p)) (sym (place_is c))
    ∙ (attached_for_is d (channel_of c) (class_at d (place_of_channel (channel_of c))) ∙ ap (λ p. of_class (attached_for d (channel_of c)) (class_at d p)) (place_is c))

pub read_mapped : {A B : Type 0} (f : A → List B) (xs : List A) (n : ℕ) (x : A) → slice_get xs n ≡ Some x → read [] (map f xs) n ≡ f x
read_mapped f [] n x is = absurd (none-some x is)
read_mapped f (y ∷ ys) zero x is = ap f (same_Some _ _ is)
read_mapped f (y ∷ ys) (suc n) x is = read_mapped f ys n x is

-- what is got of a list with one more
pub last_cases : {A : Type 0} (xs : List A) (y : A) (n : ℕ) (k : A) → slice_get (xs ++ y ∷ []) n ≡ Some k → (slice_get xs n ≡ Some k) ⊎ ((n ≡ length xs) × (y ≡ k))
last_cases [] y zero k is = inr (refl, same_Some _ _ is)
last_cases [] y (suc n) k is = absurd (none-some k is)
last_cases (x ∷ xs) y zero k is = inl is
last_cases (x ∷ xs) y (suc n) k is = elim (last_cases xs y n k is) [ inl h ↦ inl h | inr h ↦ inr (let e = h.0 in omega (arith, e), h.1) ]
