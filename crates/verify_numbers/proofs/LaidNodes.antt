-- The nodes of a sketch are where they are said to be, and there are no others.
use Rattle.std.proofs.Common.{◌≡◌, inl, inr, ◌⊎◌, refl, sym, ap, subst, ◌∙◌, ℕ, ◌+◌, ◌*◌, List, ◌++◌, length, Some, slice_get, slice_index_or, zero-add, length-append, arith}
use Rattle.verify_sketches.specs.Sketches.{Sketch, SketchedBlock, SketchedChannel, SketchedStart}
use Rattle.verify_sketches.specs.Numbered.{IsNumbered, IsPart, Node, Part, own, stages, connected, group, program, blocks, place, start, block, passes, next, whole}
use Rattle.verify_sketches.specs.Numbered.{of_whole, of_own, of_stages, of_connected, of_group, of_program, of_blocks, of_place, of_start, of_block, of_passes, of_next}
use Rattle.verify_sketches.specs.Numbered.{group_node, place_node, start_node}
use Rattle.verify_numbers.specs.Counts.{at, at_in, befores_from, block_count}
use Rattle.verify_numbers.specs.Laid.{all_of_blocks, all_of_channels, all_of_programs, block_nodes, block_part_node, channel_node, channel_nodes, group_nodes, laid, place_nodes, program_nodes, program_part_node, start_nodes}
use Rattle.verify_numbers.specs.declared.channel_nodes.ChannelPart.{ChannelPart}
use Rattle.verify_numbers.specs.declared.channel_nodes.ChannelPart.TheVariants as of_channel
use Rattle.verify_numbers.specs.declared.program_nodes.ProgramPart.{ProgramPart}
use Rattle.verify_numbers.specs.declared.program_nodes.ProgramPart.TheVariants as the_program
use Rattle.verify_numbers.specs.declared.block_nodes.BlockPart.{BlockPart}
use Rattle.verify_numbers.specs.declared.block_nodes.BlockPart.TheVariants as the_block
use Rattle.verify_numbers.proofs.Regions.{InRest, IsAmong, among, left, numbered_get, numbered_length, right, splits}
use Rattle.verify_numbers.proofs.BlockRegions.{IsOfBlock, block_get_from, block_has, block_length, kept}

module _ (s : Sketch) (handlers : ℕ) where
  -- ** how many there are

  channels_length : (part : ChannelPart) → length (channel_nodes s handlers part) ≡ length s.channels
  channels_length part = numbered_length (channel_node s handlers part) 0 s.channels

  programs_length : (part : ProgramPart) → length (program_nodes s part) ≡ length s.programs
  programs_length part = numbered_length (program_part_node s part) 0 s.programs

  groups_length : length (group_nodes s) ≡ length s.groups
  groups_length = numbered_length (group_node s (at_in s)) 0 s.groups

  places_length : length (place_nodes s) ≡ length s.paired
  places_length = numbered_length (place_node s (at_in s)) 0 s.paired

  starts_length : length (start_nodes s) ≡ length s.starts
  starts_length = numbered_length (start_node s (at_in s)) 0 s.starts

  blocks_length : (part : BlockPart) → length (block_nodes s part) ≡ block_count s.programs
  blocks_length part = block_length s part 0 s.programs

  abbrev wholes : List Node
  wholes = channel_nodes s handlers of_channel.Whole

  abbrev owns : List Node
  owns = channel_nodes s handlers of_channel.Own

  abbrev handled : List Node
  handled = channel_nodes s handlers of_channel.Stages

  abbrev connecteds : List Node
  connecteds = channel_nodes s handlers of_channel.Connected

  abbrev programs : List Node
  programs = program_nodes s the_program.Program

  abbrev all_blocks : List Node
  all_blocks = program_nodes s the_program.Blocks

  abbrev bodies : List Node
  bodies = block_nodes s the_block.Block

  abbrev repeats : List Node
  repeats = block_nodes s the_block.Passes

  abbrev nexts : List Node
  nexts = block_nodes s the_block.Next

  all_channels : length (all_of_channels s handlers) ≡ 4 * length s.channels
  all_channels =
      let a = channels_length of_channel.Whole in
      let b = channels_length of_channel.Own in
      let c = channels_length of_channel.Stages in
      let d = channels_length of_channel.Connected in
      let e = length-append wholes (owns ++ (handled ++ connecteds)) in
      let f = length-append owns (handled ++ connecteds) in
      let g = length-append handled connecteds in
      omega (arith, a, b, c, d, e, f, g)

  all_programs : length (all_of_programs s) ≡ length s.groups + 2 * length s.programs + length s.paired + length s.starts
  all_programs =
      let a = groups_length in
      let b = programs_length the_program.Program in
      let c = programs_length the_program.Blocks in
      let d = places_length in
      let e = starts_length in
      let f = length-append (group_nodes s) (programs ++ (all_blocks ++ (place_nodes s ++ start_nodes s))) in
      let g = length-append programs (all_blocks ++ (place_nodes s ++ start_nodes s)) in
      let h = length-append all_blocks (place_nodes s ++ start_nodes s) in
      let i = length-append (place_nodes s) (start_nodes s) in
      omega (arith, a, b, c, d, e, f, g, h, i)

  all_in_blocks : length (all_of_blocks s) ≡ 3 * block_count s.programs
  all_in_blocks =
      let a = blocks_length the_block.Block in
      let b = blocks_length the_block.Passes in
      let c = blocks_length the_block.Next in
      let d = length-append bodies (repeats ++ nexts) in
      let e = length-append repeats nexts in
      omega (arith, a, b, c, d, e)

  -- how many there are in all
  pub laid_length :
      length (laid s handlers)
      ≡ 4 * length s.channels + (length s.groups + 2 * length s.programs + length s.paired + length s.starts + 3 * block_count s.programs)
  laid_length =
      let a = all_channels in
      let b = all_programs in
      let c = all_in_blocks in
      let d = length-append (all_of_channels s handlers) (all_of_programs s ++ all_of_blocks s) in
      let e = length-append (all_of_programs s) (all_of_blocks s) in
      omega (arith, a, b, c, d, e)

  -- ** each part has its node

  in_channels : (k : ℕ) (y : Node) → slice_get (all_of_channels s handlers) k ≡ Some y → slice_get (laid s handlers) k ≡ Some y
  in_channels k y is = left (all_of_channels s handlers) (all_of_programs s ++ all_of_blocks s) k y is

  in_programs : (k j : ℕ) (y : Node) → k ≡ 4 * length s.channels + j → slice_get (all_of_programs s) j ≡ Some y → slice_get (laid s handlers) k ≡ Some y
  in_programs k j y at is =
      let l = all_channels in
      let e : k ≡ length (all_of_channels s handlers) + j = omega (arith, at, l) in
      right (all_of_channels s handlers) (all_of_programs s ++ all_of_blocks s) k j y e (left (all_of_programs s) (all_of_blocks s) j y is)

  in_blocks : (k j : ℕ) (y : Node) →
      k ≡ 4 * length s.channels + (length s.groups + 2 * length s.programs + length s.paired + length s.starts) + j →
      slice_get (all_of_blocks s) j ≡ Some y → slice_get (laid s handlers) k ≡ Some y
  in_blocks k j y at is =
      let l = all_channels in
      let m = all_programs in
      let e : k ≡ length (all_of_channels s handlers) + (length (all_of_programs s) + j) = omega (arith, at, l, m) in
      right (all_of_channels s handlers) (all_of_programs s ++ all_of_blocks s) k (length (all_of_programs s) + j) y e
      (right (all_of_programs s) (all_of_blocks s) (length (all_of_programs s) + j) j y refl is)

  -- a channel's
  whole_get : (i : ℕ) (k : SketchedChannel) → slice_get s.channels i ≡ Some k → slice_get (laid s handlers) (at_in s (whole i)) ≡ Some (channel_node s handlers of_channel.Whole i k)
  whole_get i k is =
      in_channels i (channel_node s handlers of_channel.Whole i k)
      (left wholes (owns ++ (handled ++ connecteds)) i (channel_node s handlers of_channel.Whole i k) (numbered_get (channel_node s handlers of_channel.Whole) s.channels i k is))

  own_get : (i : ℕ) (k : SketchedChannel) → slice_get s.channels i ≡ Some k → slice_get (laid s handlers) (at_in s (own i)) ≡ Some (channel_node s handlers of_channel.Own i k)
  own_get i k is =
      let y = channel_node s handlers of_channel.Own i k in
      let a = channels_length of_channel.Whole in
      let e : at_in s (own i) ≡ length wholes + i = omega (arith, a) in
      in_channels (at_in s (own i)) y
      (right wholes (owns ++ (handled ++ connecteds)) (at_in s (own i)) i y e
      (left owns (handled ++ connecteds) i y (numbered_get (channel_node s handlers of_channel.Own) s.channels i k is)))

  stages_get : (i : ℕ) (k : SketchedChannel) → slice_get s.channels i ≡ Some k → slice_get (laid s handlers) (at_in s (stages i)) ≡ Some (channel_node s handlers of_channel.Stages i k)
  stages_get i k is =
      let y = channel_node s handlers of_channel.Stages i k in
      let a = channels_length of_channel.Whole in
      let b = channels_length of_channel.Own in
      let e : at_in s (stages i) ≡ length wholes + (length owns + i) = omega (arith, a, b) in
      in_channels (at_in s (stages i)) y
      (right wholes (owns ++ (handled ++ connecteds)) (at_in s (stages i)) (length owns + i) y e
      (right owns (handled ++ connecteds) (length owns + i) i y refl
      (left handled connecteds i y (numbered_get (channel_node s handlers of_channel.Stages) s.channels i k is))))

  connected_get : (i : ℕ) (k : SketchedChannel) → slice_get s.channels i ≡ Some k → slice_get (laid s handlers) (at_in s (connected i)) ≡ Some (channel_node s handlers of_channel.Connected i k)
  connected_get i k is =
      let y = channel_node s handlers of_channel.Connected i k in
      let a = channels_length of_channel.Whole in
      let b = channels_length of_channel.Own in
      let c = channels_length of_channel.Stages in
      let e : at_in s (connected i) ≡ length wholes + (length owns + (length handled + i)) = omega (arith, a, b, c) in
      in_channels (at_in s (connected i)) y
      (right wholes (owns ++ (handled ++ connecteds)) (at_in s (connected i)) (length owns + (length handled + i)) y e
      (right owns (handled ++ connecteds) (length owns + (length handled + i)) (length handled + i) y refl
      (right handled connecteds (length handled + i) i y refl (numbered_get (channel_node s handlers of_channel.Connected) s.channels i k is))))

  abbrev after_groups : List Node
  after_groups = programs ++ (all_blocks ++ (place_nodes s ++ start_nodes s))

  abbrev after_programs : List Node
  after_programs = all_blocks ++ (place_nodes s ++ start_nodes s)

  abbrev after_blocks : List Node
  after_blocks = place_nodes s ++ start_nodes s

  group_get : (i : ℕ) (ps : List ℕ) → slice_get s.groups i ≡ Some ps → slice_get (laid s handlers) (at_in s (group i)) ≡ Some (group_node s (at_in s) i ps)
  group_get i ps is =
      in_programs (at_in s (group i)) i (group_node s (at_in s) i ps) refl
      (left (group_nodes s) after_groups i (group_node s (at_in s) i ps) (numbered_get (group_node s (at_in s)) s.groups i ps is))

  program_get : (i : ℕ) (bs : List SketchedBlock) → slice_get s.programs i ≡ Some bs →
      slice_get (laid s handlers) (at_in s (program i)) ≡ Some (program_part_node s the_program.Program i bs)
  program_get i bs is =
      let y = program_part_node s the_program.Program i bs in
      let a = groups_length in
      let e : at_in s (program i) ≡ 4 * length s.channels + (length (group_nodes s) + i) = omega (arith, a) in
      in_programs (at_in s (program i)) (length (group_nodes s) + i) y e
      (right (group_nodes s) after_groups (length (group_nodes s) + i) i y refl
      (left programs after_programs i y (numbered_get (program_part_node s the_program.Program) s.programs i bs is)))

  blocks_get : (i : ℕ) (bs : List SketchedBlock) → slice_get s.programs i ≡ Some bs →
      slice_get (laid s handlers) (at_in s (blocks i)) ≡ Some (program_part_node s the_program.Blocks i bs)
  blocks_get i bs is =
      let y = program_part_node s the_program.Blocks i bs in
      let a = groups_length in
      let b = programs_length the_program.Program in
      let e : at_in s (blocks i) ≡ 4 * length s.channels + (length (group_nodes s) + (length programs + i)) = omega (arith, a, b) in
      in_programs (at_in s (blocks i)) (length (group_nodes s) + (length programs + i)) y e
      (right (group_nodes s) after_groups (length (group_nodes s) + (length programs + i)) (length programs + i) y refl
      (right programs after_programs (length programs + i) i y refl
      (left all_blocks after_blocks i y (numbered_get (program_part_node s the_program.Blocks) s.programs i bs is))))

  place_get : (i : ℕ) (cs : List ℕ) → slice_get s.paired i ≡ Some cs → slice_get (laid s handlers) (at_in s (place i)) ≡ Some (place_node s (at_in s) i cs)
  place_get i cs is =
      let y = place_node s (at_in s) i cs in
      let a = groups_length in
      let b = programs_length the_program.Program in
      let d = programs_length the_program.Blocks in
      let e : at_in s (place i) ≡ 4 * length s.channels + (length (group_nodes s) + (length programs + (length all_blocks + i))) = omega (arith, a, b, d) in
      in_programs (at_in s (place i)) (length (group_nodes s) + (length programs + (length all_blocks + i))) y e
      (right (group_nodes s) after_groups (length (group_nodes s) + (length programs + (length all_blocks + i))) (length programs + (length all_blocks + i)) y refl
      (right programs after_programs (length programs + (length all_blocks + i)) (length all_blocks + i) y refl
      (right all_blocks after_blocks (length all_blocks + i) i y refl
      (left (place_nodes s) (start_nodes s) i y (numbered_get (place_node s (at_in s)) s.paired i cs is)))))

  start_get : (i : ℕ) (k : SketchedStart) → slice_get s.starts i ≡ Some k → slice_get (laid s handlers) (at_in s (start i)) ≡ Some (start_node s (at_in s) i k)
  start_get i k is =
      let y = start_node s (at_in s) i k in
      let a = groups_length in
      let b = programs_length the_program.Program in
      let d = programs_length the_program.Blocks in
      let f = places_length in
      let j = length all_blocks + (length (place_nodes s) + i) in
      let e : at_in s (start i) ≡ 4 * length s.channels + (length (group_nodes s) + (length programs + (length all_blocks + (length (place_nodes s) + i)))) = omega (arith, a, b, d, f) in
      in_programs (at_in s (start i)) (length (group_nodes s) + (length programs + j)) y e
      (right (group_nodes s) after_groups (length (group_nodes s) + (length programs + j)) (length programs + j) y refl
      (right programs after_programs (length programs + j) j y refl
      (right all_blocks after_blocks j (length (place_nodes s) + i) y refl
      (right (place_nodes s) (start_nodes s) (length (place_nodes s) + i) i y refl (numbered_get (start_node s (at_in s)) s.starts i k is)))))

  -- a block's
  of_program_got : (part : BlockPart) (p i : ℕ) (bs : List SketchedBlock) (b : SketchedBlock) → slice_get s.programs p ≡ Some bs → slice_get bs i ≡ Some b →
      slice_get (block_nodes s part) (slice_index_or (befores_from 0 s.programs) p 0 + i) ≡ Some (block_part_node s part p (length bs) i b)
  of_program_got part p i bs b is there =
      ap (λ k. slice_get (block_nodes s part) (k + i)) (kept s.programs p bs is)
      ∙ (block_get_from s part 0 s.programs p i bs b is there ∙ ap (λ k. Some (block_part_node s part k (length bs) i b)) (zero-add p))

  block_get : (p i : ℕ) (bs : List SketchedBlock) (b : SketchedBlock) → slice_get s.programs p ≡ Some bs → slice_get bs i ≡ Some b →
      slice_get (laid s handlers) (at_in s (block p i)) ≡ Some (block_part_node s the_block.Block p (length bs) i b)
  block_get p i bs b is there =
      let y = block_part_node s the_block.Block p (length bs) i b in
      let n = slice_index_or (befores_from 0 s.programs) p 0 + i in
      let e : at_in s (block p i) ≡ 4 * length s.channels + (length s.groups + 2 * length s.programs + length s.paired + length s.starts) + n = omega arith in
      in_blocks (at_in s (block p i)) n y e (left bodies (repeats ++ nexts) n y (of_program_got the_block.Block p i bs b is there))

  passes_get : (p i : ℕ) (bs : List SketchedBlock) (b : SketchedBlock) → slice_get s.programs p ≡ Some bs → slice_get bs i ≡ Some b →
      slice_get (laid s handlers) (at_in s (passes p i)) ≡ Some (block_part_node s the_block.Passes p (length bs) i b)
  passes_get p i bs b is there =
      let y = block_part_node s the_block.Passes p (length bs) i b in
      let n = slice_index_or (befores_from 0 s.programs) p 0 + i in
      let a = blocks_length the_block.Block in
      let e : at_in s (passes p i) ≡ 4 * length s.channels + (length s.groups + 2 * length s.programs + length s.paired + length s.starts) + (length bodies + n) = omega (arith, a) in
      in_blocks (at_in s (passes p i)) (length bodies + n) y e
      (right bodies (repeats ++ nexts) (length bodies + n) n y refl (left repeats nexts n y (of_program_got the_block.Passes p i bs b is there)))

  next_get : (p i : ℕ) (bs : List SketchedBlock) (b : SketchedBlock) → slice_get s.programs p ≡ Some bs → slice_get bs i ≡ Some b →
      slice_get (laid s handlers) (at_in s (next p i)) ≡ Some (block_part_node s the_block.Next p (length bs) i b)
  next_get p i bs b is there =
      let y = block_part_node s the_block.Next p (length bs) i b in
      let n = slice_index_or (befores_from 0 s.programs) p 0 + i in
      let a = blocks_length the_block.Block in
      let d = blocks_length the_block.Passes in
      let e : at_in s (next p i) ≡ 4 * length s.channels + (length s.groups + 2 * length s.programs + length s.paired + length s.starts) + (length bodies + (length repeats + n)) = omega (arith, a, d) in
      in_blocks (at_in s (next p i)) (length bodies + (length repeats + n)) y e
      (right bodies (repeats ++ nexts) (length bodies + (length repeats + n)) (length repeats + n) y refl
      (right repeats nexts (length repeats + n) n y refl (of_program_got the_block.Next p i bs b is there)))

  there_is : (x : Part) (y : Node) → IsPart s (at_in s) handlers x y → slice_get (laid s handlers) (at_in s x) ≡ Some y
  there_is _ _ (of_whole i k is) = whole_get i k is
  there_is _ _ (of_own i k is) = own_get i k is
  there_is _ _ (of_stages i k is) = stages_get i k is
  there_is _ _ (of_connected i k is) = connected_get i k is
  there_is _ _ (of_group i ps is) = group_get i ps is
  there_is _ _ (of_program i bs is) = program_get i bs is
  there_is _ _ (of_blocks i bs is) = blocks_get i bs is
  there_is _ _ (of_place i cs is) = place_get i cs is
  there_is _ _ (of_start i k is) = start_get i k is
  there_is _ _ (of_block p i bs b is there) = block_get p i bs b is there
  there_is _ _ (of_passes p i bs b is there) = passes_get p i bs b is there
  there_is _ _ (of_next p i bs b is there) = next_get p i bs b is there

  -- ** and there are no others

  abbrev IsIn : ℕ → Node → Type 0
  IsIn k y = (at_in s y.part ≡ k) × IsPart s (at_in s) handlers y.part y

  -- a node of a sort that is at this place, where this is the first
  of_sort : {A : Type 0} → (f : ℕ → A → Node) (xs : List A) (begin : ℕ) → ((i : ℕ) (x : A) → slice_get xs i ≡ Some x → IsIn (begin + i) (f i x)) →
      (i k : ℕ) (y : Node) → k ≡ begin + i → IsAmong f xs i y → IsIn k y
  of_sort f xs begin each i k y at (x, got, e) = subst (λ z. IsIn k z) e (subst (λ n. IsIn n (f i x)) (sym at) (each i x got))

  channel_is : (part : ChannelPart) (i k : ℕ) (y : Node) (begin : ℕ) →
      ((j : ℕ) (x : SketchedChannel) → slice_get s.channels j ≡ Some x → IsIn (begin + j) (channel_node s handlers part j x)) →
      k ≡ begin + i → slice_get (channel_nodes s handlers part) i ≡ Some y → IsIn k y
  channel_is part i k y begin each at is =
      of_sort (channel_node s handlers part) s.channels begin each i k y at (among (channel_node s handlers part) s.channels i y is)

  program_is : (part : ProgramPart) (i k : ℕ) (y : Node) (begin : ℕ) →
      ((j : ℕ) (x : List SketchedBlock) → slice_get s.programs j ≡ Some x → IsIn (begin + j) (program_part_node s part j x)) →
      k ≡ begin + i → slice_get (program_nodes s part) i ≡ Some y → IsIn k y
  program_is part i k y begin each at is =
      of_sort (program_part_node s part) s.programs begin each i k y at (among (program_part_node s part) s.programs i y is)

  -- the block of a node, by its number
  block_is : (part : BlockPart) (j k : ℕ) (y : Node) (begin : ℕ) →
      ((p i : ℕ) (bs : List SketchedBlock) (b : SketchedBlock) → slice_get s.programs p ≡ Some bs → slice_get bs i ≡ Some b →
      IsIn (begin + (slice_index_or (befores_from 0 s.programs) p 0 + i)) (block_part_node s part p (length bs) i b)) →
      k ≡ begin + j → slice_get (block_nodes s part) j ≡ Some y → IsIn k y
  block_is part j k y begin each at is = by (block_has s part 0 s.programs j y is)
    where
      by : IsOfBlock s part 0 s.programs j y → IsIn k y
      by o =
          let e = o.at in
          let n = kept s.programs o.q o.bs o.program in
          let m : k ≡ begin + (slice_index_or (befores_from 0 s.programs) o.q 0 + o.i) = omega (arith, at, e, n) in
          subst (λ z. IsIn k z) (ap (λ q. block_part_node s part q (length o.bs) o.i o.b) (sym (zero-add o.q)) ∙ o.is)
          (subst (λ h. IsIn h (block_part_node s part o.q (length o.bs) o.i o.b)) (sym m) (each o.q o.i o.bs o.b o.program o.there))

  -- ** one sort after the other

  in_connecteds : (k j : ℕ) (y : Node) → k ≡ 3 * length s.channels + j → slice_get connecteds j ≡ Some y → IsIn k y
  in_connecteds k j y at is = channel_is of_channel.Connected j k y (3 * length s.channels) (λ i x got. (refl, of_connected i x got)) at is

  in_handled : (k j : ℕ) (y : Node) → k ≡ 2 * length s.channels + j → slice_get (handled ++ connecteds) j ≡ Some y → IsIn k y
  in_handled k j y at is = by (splits handled connecteds j y is)
    where
      by : (slice_get handled j ≡ Some y) ⊎ InRest handled connecteds j y → IsIn k y
      by (inl here) = channel_is of_channel.Stages j k y (2 * length s.channels) (λ i x got. (refl, of_stages i x got)) at here
      by (inr (i, e, there)) =
          let l = channels_length of_channel.Stages in
          let n : k ≡ 3 * length s.channels + i = omega (arith, at, e, l) in
          in_connecteds k i y n there

  in_owns : (k j : ℕ) (y : Node) → k ≡ length s.channels + j → slice_get (owns ++ (handled ++ connecteds)) j ≡ Some y → IsIn k y
  in_owns k j y at is = by (splits owns (handled ++ connecteds) j y is)
    where
      by : (slice_get owns j ≡ Some y) ⊎ InRest owns (handled ++ connecteds) j y → IsIn k y
      by (inl here) = channel_is of_channel.Own j k y (length s.channels) (λ i x got. (refl, of_own i x got)) at here
      by (inr (i, e, there)) =
          let l = channels_length of_channel.Own in
          let n : k ≡ 2 * length s.channels + i = omega (arith, at, e, l) in
          in_handled k i y n there

  in_all_channels : (k : ℕ) (y : Node) → slice_get (all_of_channels s handlers) k ≡ Some y → IsIn k y
  in_all_channels k y is = by (splits wholes (owns ++ (handled ++ connecteds)) k y is)
    where
      by : (slice_get wholes k ≡ Some y) ⊎ InRest wholes (owns ++ (handled ++ connecteds)) k y → IsIn k y
      by (inl here) = channel_is of_channel.Whole k k y 0 (λ i x got. (sym (zero-add i), of_whole i x got)) (sym (zero-add k)) here
      by (inr (i, e, there)) =
          let l = channels_length of_channel.Whole in
          let n : k ≡ length s.channels + i = omega (arith, e, l) in
          in_owns k i y n there

  in_starts : (k j : ℕ) (y : Node) → k ≡ 4 * length s.channels + length s.groups + 2 * length s.programs + length s.paired + j →
      slice_get (start_nodes s) j ≡ Some y → IsIn k y
  in_starts k j y at is =
      of_sort (start_node s (at_in s)) s.starts (4 * length s.channels + length s.groups + 2 * length s.programs + length s.paired)
      (λ i x got. (refl, of_start i x got)) j k y at (among (start_node s (at_in s)) s.starts j y is)

  in_places : (k j : ℕ) (y : Node) → k ≡ 4 * length s.channels + length s.groups + 2 * length s.programs + j → slice_get after_blocks j ≡ Some y → IsIn k y
  in_places k j y at is = by (splits (place_nodes s) (start_nodes s) j y is)
    where
      by : (slice_get (place_nodes s) j ≡ Some y) ⊎ InRest (place_nodes s) (start_nodes s) j y → IsIn k y
      by (inl here) =
          of_sort (place_node s (at_in s)) s.paired (4 * length s.channels + length s.groups + 2 * length s.programs)
          (λ i x got. (refl, of_place i x got)) j k y at (among (place_node s (at_in s)) s.paired j y here)
      by (inr (i, e, there)) =
          let l = places_length in
          let n : k ≡ 4 * length s.channels + length s.groups + 2 * length s.programs + length s.paired + i = omega (arith, at, e, l) in
          in_starts k i y n there

  in_all_blocks : (k j : ℕ) (y : Node) → k ≡ 4 * length s.channels + length s.groups + length s.programs + j → slice_get after_programs j ≡ Some y → IsIn k y
  in_all_blocks k j y at is = by (splits all_blocks after_blocks j y is)
    where
      by : (slice_get all_blocks j ≡ Some y) ⊎ InRest all_blocks after_blocks j y → IsIn k y
      by (inl here) = program_is the_program.Blocks j k y (4 * length s.channels + length s.groups + length s.programs) (λ i x got. (refl, of_blocks i x got)) at here
      by (inr (i, e, there)) =
          let l = programs_length the_program.Blocks in
          let n : k ≡ 4 * length s.channels + length s.groups + 2 * length s.programs + i = omega (arith, at, e, l) in
          in_places k i y n there

  in_the_programs : (k j : ℕ) (y : Node) → k ≡ 4 * length s.channels + length s.groups + j → slice_get after_groups j ≡ Some y → IsIn k y
  in_the_programs k j y at is = by (splits programs after_programs j y is)
    where
      by : (slice_get programs j ≡ Some y) ⊎ InRest programs after_programs j y → IsIn k y
      by (inl here) = program_is the_program.Program j k y (4 * length s.channels + length s.groups) (λ i x got. (refl, of_program i x got)) at here
      by (inr (i, e, there)) =
          let l = programs_length the_program.Program in
          let n : k ≡ 4 * length s.channels + length s.groups + length s.programs + i = omega (arith, at, e, l) in
          in_all_blocks k i y n there

  in_groups : (k j : ℕ) (y : Node) → k ≡ 4 * length s.channels + j → slice_get (all_of_programs s) j ≡ Some y → IsIn k y
  in_groups k j y at is = by (splits (group_nodes s) after_groups j y is)
    where
      by : (slice_get (group_nodes s) j ≡ Some y) ⊎ InRest (group_nodes s) after_groups j y → IsIn k y
      by (inl here) =
          of_sort (group_node s (at_in s)) s.groups (4 * length s.channels) (λ i x got. (refl, of_group i x got)) j k y at
          (among (group_node s (at_in s)) s.groups j y here)
      by (inr (i, e, there)) =
          let l = groups_length in
          let n : k ≡ 4 * length s.channels + length s.groups + i = omega (arith, at, e, l) in
          in_the_programs k i y n there

  abbrev before_blocks : ℕ
  before_blocks = 4 * length s.channels + length s.groups + 2 * length s.programs + length s.paired + length s.starts

  in_nexts : (k j : ℕ) (y : Node) → k ≡ before_blocks + 2 * block_count s.programs + j → slice_get nexts j ≡ Some y → IsIn k y
  in_nexts k j y at is =
      block_is the_block.Next j k y (before_blocks + 2 * block_count s.programs) (λ p i bs b got there. (refl, of_next p i bs b got there)) at is

  in_repeats : (k j : ℕ) (y : Node) → k ≡ before_blocks + block_count s.programs + j → slice_get (repeats ++ nexts) j ≡ Some y → IsIn k y
  in_repeats k j y at is = by (splits repeats nexts j y is)
    where
      by : (slice_get repeats j ≡ Some y) ⊎ InRest repeats nexts j y → IsIn k y
      by (inl here) =
          block_is the_block.Passes j k y (before_blocks + block_count s.programs) (λ p i bs b got there. (refl, of_passes p i bs b got there)) at here
      by (inr (i, e, there)) =
          let l = blocks_length the_block.Passes in
          let n : k ≡ before_blocks + 2 * block_count s.programs + i = omega (arith, at, e, l) in
          in_nexts k i y n there

  in_bodies : (k j : ℕ) (y : Node) → k ≡ before_blocks + j → slice_get (all_of_blocks s) j ≡ Some y → IsIn k y
  in_bodies k j y at is = by (splits bodies (repeats ++ nexts) j y is)
    where
      by : (slice_get bodies j ≡ Some y) ⊎ InRest bodies (repeats ++ nexts) j y → IsIn k y
      by (inl here) = block_is the_block.Block j k y before_blocks (λ p i bs b got there. (refl, of_block p i bs b got there)) at here
      by (inr (i, e, there)) =
          let l = blocks_length the_block.Block in
          let n : k ≡ before_blocks + block_count s.programs + i = omega (arith, at, e, l) in
          in_repeats k i y n there

  each_is : (k : ℕ) (y : Node) → slice_get (laid s handlers) k ≡ Some y → IsIn k y
  each_is k y is = by (splits (all_of_channels s handlers) (all_of_programs s ++ all_of_blocks s) k y is)
    where
      later : (i : ℕ) → k ≡ length (all_of_channels s handlers) + i →
          (slice_get (all_of_programs s) i ≡ Some y) ⊎ InRest (all_of_programs s) (all_of_blocks s) i y → IsIn k y
      later i e (inl here) =
          let l = all_channels in
          let n : k ≡ 4 * length s.channels + i = omega (arith, e, l) in
          in_groups k i y n here
      later i e (inr (j, f, there)) =
          let l = all_channels in
          let m = all_programs in
          let n : k ≡ before_blocks + j = omega (arith, e, f, l, m) in
          in_bodies k j y n there

      by : (slice_get (all_of_channels s handlers) k ≡ Some y) ⊎ InRest (all_of_channels s handlers) (all_of_programs s ++ all_of_blocks s) k y → IsIn k y
      by (inl here) = in_all_channels k y here
      by (inr (i, e, there)) = later i e (splits (all_of_programs s) (all_of_blocks s) i y there)

  pub laid_is_numbered : IsNumbered s (at_in s) handlers (laid s handlers)
  laid_is_numbered = record { there = there_is; each = each_is }
