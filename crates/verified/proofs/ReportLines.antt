-- The lines of the report, one by one.
use Rattle.std.proofs.Common.{◌≡◌, inl, inr, refl, sym, ap, ◌∙◌, ℕ, zero, suc, ◌+◌, ◌<◌, ◌≤◌, List, [], ◌∷◌, ◌++◌, length, map, take, drop, Some, option_map, slice_get, append-nil, codes, arith}
use Rattle.std.specs.List.{flat_map}
use Rattle.std.proofs.lemmas.Grind.{flat_map-append}
use Rattle.std.proofs.lemmas.List.{length-map, map-append, take-append-drop}
use Rattle.std.proofs.lemmas.Option.{none-some, same_Some, slice_get-map}
use Rattle.std.proofs.lemmas.Simd.{map-map}
use Rattle.ui_machine.specs.Definition.{Definition}
use Rattle.law_typing.specs.Rules.Sites.{sites}
use Rattle.law_typing.specs.Graph.{Raised, graph, raised_at, connections}
use Rattle.law_typing.specs.Graph.Channels.{Channel, channels, channels_at}
use Rattle.law_typing.specs.Graph.Channels as entries
use Rattle.law_typing.specs.Laws.{IsIn}
use Rattle.law_typing.specs.Rules.RegisterKinds.{place_numbers}
use Rattle.law_typing.proofs.CostProofs.{listed_in}
use Rattle.law_typing.proofs.EdgeProofs.{flat_in}
use Rattle.ui_machine.specs.declared.ids.Channel as code
use Rattle.verify_graph.specs.ChannelView.{channel_of, channels_of}
use Rattle.verify_graph.proofs.ChannelLists.{next_place}
use Rattle.verify_graph.proofs.Prefixes.{listed_get, listed_length, take_all, take_last}
use Rattle.law_typing.specs.Verdict.Accepted.{Accepted}
use Rattle.law_typing.specs.Verdict.Report.{channel_line, numbered}
use Rattle.verified.specs.declared.numbers.SourceBound.{SourceBound}
use Rattle.verified.specs.Lines.{channel_lines, line_in, line_of_channel, line_of_source, place_lines, report_of, source_lines, total_lines}
use Rattle.verified.specs.Told.{AreSources, IsBound, IsRank, bound_of, depth_of, rank_of, source_view}

-- the parts are the whole
pub whole_report : (d : Definition) (a : Accepted d) → total_lines d a ++ (channel_lines d a ++ source_lines d a) ≡ report_of d a
whole_report d a =
    let line : Raised → List ℕ = λ (r : Raised). channel_line d (graph d) a.weighed.ranks a.weighed.costs r.channel in
    ap (λ ls. total_lines d a ++ (ls ++ source_lines d a)) (sym (map-map line (raised_at d (connections d (sites d))) (channels d)))

-- a channel's line says its rank and its bound
pub channel_line_is : (d e : Definition) (c : Channel) (rank bound : ℕ) (text : List ℕ) → e ≡ d → IsRank d c rank → IsBound d (entries.at c) bound →
    text ≡ line_of_channel e c rank bound → (a : Accepted d) → text ≡ line_in d a c
channel_line_is d e c rank bound text same ranks bounds is a =
    is ∙ (ap (λ (x : Definition). line_of_channel x c rank bound) same
    ∙ (ap (λ n. line_of_channel d c n bound) (ranks a) ∙ ap (line_of_channel d c (rank_of d a c)) (bounds a)))

-- ** place by place

in_place : (cs : List Channel) (k : ℕ) (c : Channel) → slice_get cs k ≡ Some c → IsIn c cs
in_place [] k c at = absurd (none-some c at)
in_place (e ∷ cs) zero c at = inl (sym (same_Some _ _ at))
in_place (e ∷ cs) (suc k) c at = inr (in_place cs k c at)

-- the line of a channel of a place
pub line_at : (d : Definition) (a : Accepted d) (own : List code.Channel) (place k : ℕ) (c : code.Channel) (text : List ℕ) → place < length d.places →
    channels_of own ≡ channels_at d place → slice_get own k ≡ Some c → (IsIn (channel_of c) (channels d) → (a : Accepted d) → text ≡ line_in d a (channel_of c)) →
    slice_get (place_lines d a place) k ≡ Some text
line_at d a own place k c text within are at is =
    let here : slice_get (channels_at d place) k ≡ Some (channel_of c) = ap (λ cs. slice_get cs k) (sym are) ∙ (slice_get-map channel_of own k ∙ ap (option_map channel_of) at) in
    let there = flat_in (channels_at d) (place_numbers d) place (channel_of c) (listed_in (λ i. i) (length d.places) place within) (in_place (channels_at d place) k (channel_of c) here) in
    slice_get-map (line_in d a) (channels_at d place) k ∙ (ap (option_map (line_in d a)) here ∙ ap Some (sym (is there a)))

pub place_count : (d : Definition) (a : Accepted d) (own : List code.Channel) (place k : ℕ) → channels_of own ≡ channels_at d place → length own ≤ k →
    length (place_lines d a place) ≤ k
place_count d a own place k are past =
    let same = ap length are in
    omega (arith, past, same, length-map own channel_of, length-map (channels_at d place) (line_in d a))

-- lines of what is put together
lines_flat : (line : Channel → List ℕ) (f : ℕ → List Channel) (ps : List ℕ) → map line (flat_map f ps) ≡ flat_map (λ p. map line (f p)) ps
lines_flat line f [] = refl
lines_flat line f (p ∷ ps) = map-append line (f p) (flat_map f ps) ∙ ap (λ ls. map line (f p) ++ ls) (lines_flat line f ps)

module _ (d : Definition) (a : Accepted d) where
  -- the lines of the first places
  abbrev pub first_places : ℕ → List (List ℕ)
  first_places n = flat_map (place_lines d a) (take n (place_numbers d))

  -- and of those after them
  abbrev pub other_places : ℕ → List (List ℕ)
  other_places n = flat_map (place_lines d a) (drop n (place_numbers d))

  by_places : channel_lines d a ≡ flat_map (place_lines d a) (place_numbers d)
  by_places = lines_flat (line_in d a) (channels_at d) (place_numbers d)

  pub split_places : (n : ℕ) → first_places n ++ other_places n ≡ channel_lines d a
  split_places n =
      sym (flat_map-append (place_lines d a) (take n (place_numbers d)) (drop n (place_numbers d)))
      ∙ (ap (flat_map (place_lines d a)) (take-append-drop n (place_numbers d)) ∙ sym by_places)

  pub next_lines : (n : ℕ) → n < length d.places → place_lines d a n ++ other_places (n + 1) ≡ other_places n
  next_lines n within = sym (next_place (place_lines d a) n (length d.places) within)

  pub more_places : (n : ℕ) → n < length d.places → first_places n ++ place_lines d a n ≡ first_places (n + 1)
  more_places n within =
      ap (λ ls. first_places n ++ ls) (sym (append-nil (place_lines d a n)))
      ∙ (sym (flat_map-append (place_lines d a) (take n (place_numbers d)) (n ∷ []))
      ∙ ap (flat_map (place_lines d a)) (sym (take_last (place_numbers d) n n (sym (listed_get (λ i. i) (length d.places) n within)))))

  pub all_places : (n : ℕ) → length d.places ≤ n → first_places n ≡ channel_lines d a
  all_places n past =
      let count = listed_length (λ i. i) (length d.places) in
      ap (flat_map (place_lines d a)) (take_all (place_numbers d) n (omega (arith, past, count))) ∙ sym by_places

-- the lines of sources are those of what is kept of them
kept_lines : (d : Definition) (ss : List SourceBound) → AreSources d ss → (a : Accepted d) →
    source_lines d a ≡ map (λ (x : ℕ × ℕ). line_of_source d x.0 x.1) (map source_view ss)
kept_lines d ss are a =
    sym (map-map (λ (x : ℕ × ℕ). line_of_source d x.0 x.1) (λ (p : ℕ). (p, bound_of d a (entries.source p))) (graph d).sources)
    ∙ ap (map (λ (x : ℕ × ℕ). line_of_source d x.0 x.1)) (sym (are a))

pub source_line_is : (d e : Definition) (ss : List SourceBound) (k : ℕ) (s : SourceBound) (text : List ℕ) → e ≡ d → AreSources d ss →
    slice_get ss k ≡ Some s → text ≡ line_of_source e s.program s.bound → (a : Accepted d) → slice_get (source_lines d a) k ≡ Some text
source_line_is d e ss k s text same are at is a =
    let line : ℕ × ℕ → List ℕ = λ (x : ℕ × ℕ). line_of_source d x.0 x.1 in
    ap (λ ls. slice_get ls k) (kept_lines d ss are a)
    ∙ (slice_get-map line (map source_view ss) k
    ∙ (ap (option_map line) (slice_get-map source_view ss k ∙ ap (option_map source_view) at)
    ∙ ap Some (sym (is ∙ ap (λ (x : Definition). line_of_source x s.program s.bound) same))))

pub source_count : (d : Definition) (ss : List SourceBound) → AreSources d ss → (a : Accepted d) (k : ℕ) → length ss ≤ k →
    length (source_lines d a) ≤ k
source_count d ss are a k past =
    let line : ℕ × ℕ → List ℕ = λ (x : ℕ × ℕ). line_of_source d x.0 x.1 in
    omega (arith, past, ap length (kept_lines d ss are a), length-map (map source_view ss) line, length-map ss source_view)

-- the lines of the depth and of the build
pub totals_are : (d : Definition) (a : Accepted d) (depth build : List ℕ) → depth ≡ numbered (codes "depth ") (depth_of d a) →
    build ≡ numbered (codes "build bound ") (bound_of d a entries.build) → depth ∷ build ∷ [] ≡ total_lines d a
totals_are d a depth build is_depth is_build =
    ap (λ x. x ∷ build ∷ []) is_depth ∙ ap (λ x. numbered (codes "depth ") (depth_of d a) ∷ x ∷ []) is_build
