-- A handler runs only at a channel that its signal and its detail can mean.
use Rattle.std.proofs.Common.{◌≡◌, inl, inr, refl, sym, ap, ◌∙◌, ℕ, true, cond, List, [], ◌∷◌, Option, None, Some}
use Rattle.std.specs.Prelude.{◌&&◌, nat_eq, map, option_map}
use Rattle.std.proofs.lemmas.Bool.{eqb-true, eq-eqb}
use Rattle.ui_machine.specs.Definition.Names.{canonical}
use Rattle.ui_machine.specs.Definition.Properties.{Spec}
use Rattle.ui_machine.specs.Definition.{Definition}
use Rattle.ui_machine.specs.Definition.Lookups.{slot_of, spec_of}
use Rattle.ui_machine.specs.Rules.Connections.{signal_number}
use Rattle.ui_machine.specs.Rules.EmissionPlan.{fits_detail}
use Rattle.ui_machine.specs.Rules.Programs.{is_number}
use Rattle.law_typing.specs.Graph.Channels.{constructed, property, signal, channels, is_channel, is_readable_one, spec_at, spec_if}
use Rattle.law_typing.specs.Graph.{Raised, names_slot}
use Rattle.law_typing.specs.Verdict.Report.{property_name}
use Rattle.law_typing.specs.Laws.{IsIn}
use Rattle.law_typing.specs.Laws.WellRead.{TypesRead}
use Rattle.law_typing.proofs.Lists.{both_parts, each_in}
use Rattle.law_static.specs.Means.{HandlersMean, RaisedKnown}
use Rattle.law_static.specs.Raises.{raised_there}
use Rattle.law_static.proofs.AbsentProofs.{all_there}
use Rattle.law_static.proofs.Same.{names_same}
use Rattle.law_static.proofs.SubclassProofs.{own_name_finds}

-- the number that is found is the one
found_number : (o : Option ℕ) (n m : ℕ) → o ≡ Some n → n ≡ m → is_number m o ≡ true
found_number o n m e same = ap (is_number m) e ∙ eq-eqb n m same

-- a property that is there has its spec
has_spec : (o : Option Spec) → is_readable_one o ≡ true → (s : Spec) × (o ≡ Some s)
has_spec None e = absurd (cc)
has_spec (Some s) e = (s, refl)

-- a detail of `notify` that fits a property's name names the property
names_it : (d : Definition) → TypesRead d → (class slot : ℕ) (s : Spec) (detail : Option (List ℕ)) → spec_of d class slot ≡ Some s →
    fits_detail (option_map canonical detail) (Some s.name) ≡ true → names_slot d class slot detail ≡ true
names_it d types class slot s None has e = refl
names_it d types class slot s (Some name) has e =
    found_number (slot_of d class name) slot slot (own_name_finds d types class slot name s has (sym (names_same (canonical name) s.name e))) refl

pub handlers_mean : HandlersMean
handlers_mean d types class name detail h (constructed place) named as_it_stands of_class there runs = absurd (cc)
handlers_mean d types class name detail h (signal place number) named as_it_stands of_class there runs =
    found_number (signal_number d class name) h.signal number named (eqb-true h.signal number runs)
handlers_mean d types class name detail h (property place slot) named as_it_stands of_class there runs =
    let p = both_parts (nat_eq h.signal 0) (fits_detail h.detail (Some (property_name (spec_at d place slot)))) runs in
    let s = has_spec (spec_at d place slot) there in
    let own : spec_of d class slot ≡ Some s.0 = ap (spec_if d slot) (sym of_class) ∙ s.1 in
    let plain : h.detail ≡ option_map canonical detail = as_it_stands ∙ ap (λ b. cond b (option_map canonical detail) detail) p.0 in
    let fits : fits_detail (option_map canonical detail) (Some s.0.name) ≡ true =
    ap (λ o. fits_detail o (Some s.0.name)) (sym plain) ∙ (ap (λ o. fits_detail h.detail (Some (property_name o))) (sym s.1) ∙ p.1) in
    ap (λ b. b && names_slot d class slot detail) (found_number (signal_number d class name) h.signal 0 named (eqb-true h.signal 0 p.0))
    ∙ names_it d types class slot s.0 detail own fits

-- ** what the graph has

out_of_map : {A B : Type 0} (f : A → B) (xs : List A) (y : B) → IsIn y (map f xs) → (x : A) × IsIn x xs × (y ≡ f x)
out_of_map f [] y h = absurd h
out_of_map f (x ∷ xs) y (inl e) = (x, inl refl, e)
out_of_map f (x ∷ xs) y (inr h) = let k = out_of_map f xs y h in (k.0, inr k.1, k.2)

pub raised_known : RaisedKnown
raised_known d r h =
    let k = out_of_map (raised_there d) (channels d) r h in
    let at : r.channel ≡ k.0 = ap (λ (r : Raised). r.channel) k.2 in
    (k.2 ∙ ap (raised_there d) (sym at), ap (is_channel d) at ∙ each_in (λ c. is_channel d c ≡ true) (channels d) (all_there d) k.0 k.1)
