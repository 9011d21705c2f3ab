-- Prototypes with the names of their peers by themselves are the prototypes.
use Rattle.std.proofs.Common.{◌≡◌, ◌∙◌, ℕ, Bool, true, false, ◌||◌, if◌then◌else◌, List, [], ◌∷◌, ◌++◌, codes, Option, None, Some, Result, Ok, Err, refl, sym, ap}
use Rattle.std.specs.Str.{bytes_eq}
use Rattle.std.proofs.Math.Path.{fun_ext}
use Rattle.std.proofs.lemmas.List.{append-nil, append_assoc}
use Rattle.std.proofs.lemmas.List.Folds.{list_any-append}
use Rattle.serde_json.specs.Data.{Data, Items}
use Rattle.serde_json.specs.Find.{as_array, get}
use Rattle.ui_machine.specs.Outcome.{◌>>=◌}
use Rattle.ui_machine.specs.Definition.Places.{Place}
use Rattle.ui_machine.specs.Definition.Properties.{Spec}
use Rattle.ui_machine.specs.Definition.Types.{GType}
use Rattle.definition_format.specs.Meaning.{prototype_with}
use Rattle.definition_format.specs.Refusals.{Refusal, shape, or_refused}
use Rattle.definition_format.specs.Document.{at_entry, each, is_among, members_at, only_at, text_at, under}
use Rattle.definition_format.specs.Denoted.Enums.{name_at, unless_there}
use Rattle.definition_format.specs.Denoted.Objects.{class_at_key, new_id}
use Rattle.definition_format.specs.Denoted.Peers.{listed_peers, next_peer_at, peer_at, peers_of, peers_or}
use Rattle.definition_format.specs.Denoted.Prototypes.{all_plain_at, keys_of_prototype, prototype_at, prototype_in, room_for_prototype}
use Rattle.read_objects.specs.PeerDrafts.{NewStock, OwnPeers, Stock, no_peers, own_behind, own_peer_at, own_peers_at, own_peers_or, stock_at, stock_in, stocked, with_name}
use Rattle.read_types.specs.Drafted.{drafted}
use Rattle.read_types.proofs.Drafting.{each_drafted, through}

-- ** names

last_or : (b rest : Bool) → (if b then true else rest) ≡ (rest || (b || false))
last_or true true = refl
last_or true false = refl
last_or false true = refl
last_or false false = refl

-- one name more
pub named_more : (names : List (List ℕ)) (name : List ℕ) → with_name (is_among names) name ≡ is_among (names ++ name ∷ [])
named_more names name = fun_ext (λ other. last_or (bytes_eq name other) (is_among names other) ∙ sym (list_any-append (λ k. bytes_eq k other) names (name ∷ [])))

own_same : (peers : List (List ℕ)) (a b : List ℕ → Bool) → a ≡ b → record { peers = peers; is_named = a } ≡ (let own : OwnPeers = record { peers = peers; is_named = b } in own)
own_same peers a b h = ap (λ (f : List ℕ → Bool). record { peers = peers; is_named = f }) h

-- ** the peers of one prototype

own_agrees : (before : List (List ℕ)) (path : List ℕ) (peers : List (List ℕ)) (d : Data)
    → own_peer_at path (own_behind before peers) d ≡ drafted (own_behind before) (next_peer_at path before peers d)
unfolding own_peer_at next_peer_at peer_at
own_agrees before path peers d = by (name_at path d)
  where
    then_by : (name : List ℕ) (r : Result (Unit {0}) Refusal)
        → (r >>= λ new. Ok (let own : OwnPeers = record { peers = peers ++ name ∷ []; is_named = with_name (is_among (before ++ peers)) name } in own))
        ≡ drafted (own_behind before) ((r >>= λ new. Ok name) >>= λ n. Ok (peers ++ n ∷ []))
    then_by name (Ok u) =
        ap (λ (own : OwnPeers). Ok own)
        (own_same (peers ++ name ∷ []) _ _ (named_more (before ++ peers) name ∙ ap is_among (append_assoc before peers (name ∷ []))))
    then_by name (Err e) = refl

    by : (r : Result (List ℕ) Refusal)
        → (r >>= λ name. unless_there path (is_among (before ++ peers) name) >>= λ new. Ok (let own : OwnPeers = record { peers = peers ++ name ∷ []; is_named = with_name (is_among (before ++ peers)) name } in own))
        ≡ drafted (own_behind before) ((r >>= λ name. unless_there path (is_among (before ++ peers) name) >>= λ new. Ok name) >>= λ n. Ok (peers ++ n ∷ []))
    by (Ok name) = then_by name (unless_there path (is_among (before ++ peers) name))
    by (Err e) = refl

none_behind : (before : List (List ℕ)) → no_peers (is_among before) ≡ own_behind before []
none_behind before = own_same [] (is_among before) (is_among (before ++ [])) (ap is_among (sym (append-nil before)))

listed_agrees : (before : List (List ℕ)) (path : List ℕ) (d : Data) → own_peers_at path (is_among before) d ≡ drafted (own_behind before) (listed_peers path before d)
unfolding own_peers_at listed_peers
listed_agrees before path d =
    through (own_behind before) (or_refused (shape path) (as_array d)) _ _ (λ list.
    ap (λ (own : OwnPeers). each (at_entry own_peer_at path) 0 own list) (none_behind before)
    ∙ each_drafted (own_behind before) own_peer_at (λ entry. next_peer_at entry before) (own_agrees before) path 0 [] list)

or_agrees : (before : List (List ℕ)) (path : List ℕ) (has_shape : Bool) (d : Option Data)
    → own_peers_or path has_shape (is_among before) d ≡ drafted (own_behind before) (peers_or path has_shape before d)
or_agrees before path has_shape None = ap (λ (own : OwnPeers). Ok own) (none_behind before)
or_agrees before path true (Some d) = listed_agrees before path d
or_agrees before path false (Some d) = refl

-- ** prototypes

-- a prototype behind others
new_behind : List Place → Place → NewStock
new_behind places p = record { place = p; is_named = is_among (peers_of places ++ p.peers) }

-- what follows the peers of a prototype
pub after : {A B S T : Type 0} (draft : A → B) (r : Result A Refusal) (f : B → Result T Refusal) (g : A → Result S Refusal) (to : S → T)
    → ((x : A) → f (draft x) ≡ drafted to (g x)) → (drafted draft r >>= f) ≡ drafted to (r >>= g)
after draft (Ok x) f g to h = h x
after draft (Err e) f g to h = refl

module _ (path : List ℕ) (types : List GType) (specs : ℕ → List Spec) (has_shape : ℕ → Bool) (places : List Place) (d : Data) where
  in_agrees : stock_in path types specs has_shape (stocked places) d ≡ drafted (new_behind places) (prototype_in path types specs has_shape places d)
  unfolding stock_in prototype_in new_behind
  in_agrees =
      through (new_behind places) (members_at path d) _ _ (λ members.
      through (new_behind places) (room_for_prototype places) _ _ (λ room.
      through (new_behind places) (text_at path d (codes "id")) _ _ (λ id.
      through (new_behind places) (new_id (under path (codes "id")) places id) _ _ (λ new.
      through (new_behind places) (class_at_key path types d) _ _ (λ class.
      through (new_behind places) (all_plain_at path types (specs class) d) _ _ (λ given.
      ap (λ r. r >>= λ (own : OwnPeers). only_at path members keys_of_prototype >>= λ only. Ok (let new : NewStock = record { place = prototype_with id class own.peers given; is_named = own.is_named } in new))
      (or_agrees (peers_of places) (under path (codes "peers")) (has_shape class) (get (codes "peers") d))
      ∙ after (own_behind (peers_of places)) (peers_or (under path (codes "peers")) (has_shape class) (peers_of places) (get (codes "peers") d)) _ _ (new_behind places) (λ peers.
      through (new_behind places) (only_at path members keys_of_prototype) _ _ (λ only. refl))))))))

  pub stock_agrees : stock_at path types specs has_shape (stocked places) d ≡ drafted stocked (prototype_at path types specs has_shape places d)
  unfolding stock_at prototype_at new_behind
  stock_agrees =
      ap (λ r. r >>= λ (new : NewStock). Ok (let stock : Stock = record { places = places ++ new.place ∷ []; is_named = new.is_named } in stock)) in_agrees
      ∙ after (new_behind places) (prototype_in path types specs has_shape places d) _ _ stocked (λ p. ap (λ (stock : Stock). Ok stock) (more p))
    where
      flat_last : (ps : List Place) (p : Place) → (peers_of ps ++ p.peers) ≡ peers_of (ps ++ p ∷ [])
      flat_last [] p = sym (append-nil p.peers)
      flat_last (q ∷ ps) p = append_assoc q.peers (peers_of ps) p.peers ∙ ap (λ l. q.peers ++ l) (flat_last ps p)

      more : (p : Place) → (let stock : Stock = record { places = places ++ p ∷ []; is_named = is_among (peers_of places ++ p.peers) } in stock) ≡ stocked (places ++ p ∷ [])
      more p = ap (λ (names : List (List ℕ)). let stock : Stock = record { places = places ++ p ∷ []; is_named = is_among names } in stock) (flat_last places p)

-- reading from the first on
pub stock_is : (base : List ℕ) (types : List GType) (specs : ℕ → List Spec) (has_shape : ℕ → Bool) (stock : Stock) (ds : Items) → stock ≡ stocked []
    → each (at_entry (λ path. stock_at path types specs has_shape) base) 0 stock ds
    ≡ drafted stocked (each (at_entry (λ path. prototype_at path types specs has_shape) base) 0 [] ds)
stock_is base types specs has_shape stock ds begun =
    ap (λ (s : Stock). each (at_entry (λ path. stock_at path types specs has_shape) base) 0 s ds) begun
    ∙ each_drafted stocked (λ path. stock_at path types specs has_shape) (λ path. prototype_at path types specs has_shape) (λ path places d. stock_agrees path types specs has_shape places d) base 0 [] ds

-- before the first prototype
pub stock_begun : (places : List Place) (named : List ℕ → Bool) → places ≡ [] → ((name : List ℕ) → named name ≡ false)
    → (let stock : Stock = record { places = places; is_named = named } in stock) ≡ stocked []
stock_begun places named none each_no =
    ap (λ (ps : List Place). let stock : Stock = record { places = ps; is_named = named } in stock) none
    ∙ ap (λ (f : List ℕ → Bool). let stock : Stock = record { places = []; is_named = f } in stock) (fun_ext each_no)

-- with the prototype of an entry
pub stock_more : (path : List ℕ) (types : List GType) (specs : ℕ → List Spec) (has_shape : ℕ → Bool) (stock : Stock) (d : Data) (new : NewStock) (places : List Place)
    → stock_in path types specs has_shape stock d ≡ Ok new → (stock.places ++ new.place ∷ []) ≡ places
    → stock_at path types specs has_shape stock d ≡ Ok (let more : Stock = record { places = places; is_named = new.is_named } in more)
unfolding stock_at
stock_more path types specs has_shape stock d new places is longer =
    ap (λ r. r >>= λ (n : NewStock). Ok (let more : Stock = record { places = stock.places ++ n.place ∷ []; is_named = n.is_named } in more)) is
    ∙ ap (λ (ps : List Place). Ok (let more : Stock = record { places = ps; is_named = new.is_named } in more)) longer

-- the names are those of the prototypes
pub stock_named : (places : List Place) (stock : Stock) → stocked places ≡ stock → stock.is_named ≡ is_among (peers_of stock.places)
stock_named places stock same = sym (ap (λ (s : Stock). s.is_named) same) ∙ ap (λ (ps : List Place). is_among (peers_of ps)) (ap (λ (s : Stock). s.places) same)
