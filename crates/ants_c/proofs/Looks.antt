-- Looks one after another: what is in the caller's rooms, and which round the game has reached.
use Rattle.std.proofs.Common.{◌≡◌, ℕ, ◌+◌, ◌*◌, ◌-◌, ◌<◌, ◌≤◌, List, [], ◌∷◌, ◌++◌, length, take, drop, map, slice_set, slice_index_or, sym, ap, ap₂, ◌∙◌, subst, arith}
use Rattle.std.proofs.lemmas.List.{append_assoc, append-nil, drop_more, length-append, length-drop, length-map, length-take-le, map_more, take-append-drop, take_more}
use Rattle.std.proofs.lemmas.Grind.{flat_map-append}
use Rattle.std.proofs.lemmas.List.FromFn.{length-map-range_with_len, map-range_with_len_more}
use Rattle.std.proofs.lemmas.Slice.{drop-append-drop, drop-put_mid, take-put_mid}
use Rattle.std.proofs.lemmas.Nat.{mul-le}
use Rattle.std.proofs.Math.Seq.{set-append_seam, take-append_seam}
use native.Mathlib.Nat.{add_comm, suc-mul}
use native.Mathlib.Numerals.{unary_clauses}
use borrow.Rule.Slice.PartMut.{put_mid}
use Rattle.std.specs.List.{range_with_len}
use Rattle.ant_turn.specs.Minds.{contest_minds}
use Rattle.ant_turn.specs.Rounds.{Moment, after_rounds, start_of}
use Rattle.ant_turn.proofs.KeptByRounds.{after_rounds-ids, after_rounds-then}
use Rattle.brain_read.specs.declared.instr.Instr.{Instr}
use Rattle.cell_world.specs.Grid.{Grid, world_of}
use Rattle.cell_world.specs.World.{World}
use Rattle.match_run.specs.Run.{world_after}
use Rattle.match_run.specs.Alone.{IsPlayedOn, GameAloneValue, standing}
use Rattle.ants_c.specs.Looked.{AreRising, ants_after, seen_ant, seen_ants}
use Rattle.ants_c.specs.Played.{game_score}
use Rattle.ants_c.specs.declared.ant.AntsAnt.{AntsAnt}
use Rattle.ants_c.specs.declared.score.AntsScore.{AntsScore}

-- one more after a front that lies over a room
one_more : {A : Type 0} (front old : List A) (n : ℕ) (a : A) → length front ≡ n → n < length old → slice_set (front ++ drop n old) n a ≡ (front ++ a ∷ []) ++ drop (n + 1) old
one_more front old n a long below =
    rw (drop_more old n a below, ← long) (set-append_seam front _ _ a ∙ sym (append_assoc front (a ∷ []) _))

-- the ant of one id more
pub ant_more : (w : World) (old : List AntsAnt) (id : ℕ) → id < length old
    → slice_set (map (seen_ant w) (range_with_len 0 id) ++ drop id old) id (seen_ant w id) ≡ map (seen_ant w) (range_with_len 0 (id + 1)) ++ drop (id + 1) old
ant_more w old id below =
    one_more (map (seen_ant w) (range_with_len 0 id)) old id (seen_ant w id) (length-map-range_with_len (seen_ant w) 0 id) below
    ∙ ap (λ front. front ++ drop (id + 1) old) (sym (map-range_with_len_more (seen_ant w) 0 id id (omega arith)))

-- how many ants some looks have together
ants_after-length : (world : Grid) (red black : List Instr) (seed : ℕ) (rounds : List ℕ) → length (ants_after world red black seed rounds) ≡ length rounds * world.ids
unfolding world_after
ants_after-length world red black seed [] = let none : 0 ≡ 0 * world.ids = omega arith in none
ants_after-length world red black seed (round ∷ rounds) =
    let minds = contest_minds red black in
    let w = world_after minds seed (world_of world) round in
    let here : length (seen_ants w) ≡ world.ids = length-map-range_with_len (seen_ant w) 0 w.ids ∙ after_rounds-ids minds seed (start_of (world_of world)) round in
    let more = ants_after-length world red black seed rounds in
    length-append (seen_ants w) (ants_after world red black seed rounds) ∙ ap₂ (λ (a b : ℕ). a + b) here more
    ∙ add_comm world.ids (length rounds * world.ids) ∙ sym (suc-mul (length rounds) world.ids)

-- rounds that rise from a later round on also rise from an earlier one on
AreRising-from : (least from : ℕ) (rounds : List ℕ) → least ≤ from → AreRising from rounds → AreRising least rounds
AreRising-from least from [] below rising = rising
AreRising-from least from (round ∷ rounds) below rising = let later = rising.0 in (omega (arith, below, later), rising.1, rising.2)

-- a game has played this many of the rounds, and the rounds to come rise from there on
pub record Looking (world : Grid) (red black : List Instr) (seed : ℕ) (rounds : List ℕ) (index : ℕ) (game : GameAloneValue) : Type 0 where
  pub minds : game.minds ≡ contest_minds red black
  pub same_seed : game.seed ≡ seed
  pub stands : standing game ≡ after_rounds (contest_minds red black) seed (start_of (world_of world)) game.done
  pub later : AreRising game.done (drop index rounds)

-- the next round is at least the one that the game has reached, and within the limit
pub next_round : (world : Grid) (red black : List Instr) (seed : ℕ) (rounds : List ℕ) (index : ℕ) (game : GameAloneValue) → Looking world red black seed rounds index game → index < length rounds
    → AreRising game.done (slice_index_or rounds index 0 ∷ drop (index + 1) rounds)
next_round world red black seed rounds index game it below = subst (AreRising game.done) (drop_more rounds index 0 below) it.later

-- it is played on to the next round
pub looked_on : (world : Grid) (red black : List Instr) (seed : ℕ) (rounds : List ℕ) (index : ℕ) (game new : GameAloneValue) → Looking world red black seed rounds index game → index < length rounds
    → IsPlayedOn game new (slice_index_or rounds index 0 - game.done)
    → Looking world red black seed rounds (index + 1) new × (world_of new.world ≡ world_after (contest_minds red black) seed (world_of world) (slice_index_or rounds index 0))
unfolding world_after
looked_on world red black seed rounds index game new it below played =
    let round = slice_index_or rounds index 0 in
    let minds = contest_minds red black in
    let start = start_of (world_of world) in
    let next = next_round world red black seed rounds index game it below in
    let first = next.0 in
    let count = played.done in
    let done : new.done ≡ round = omega (arith, first, count) in
    let stood : after_rounds game.minds game.seed (standing game) (round - game.done) ≡ after_rounds minds seed start (game.done + (round - game.done)) =
    rw (it.minds, it.same_seed, it.stands) (after_rounds-then minds seed start game.done (round - game.done)) in
    let stands : standing new ≡ after_rounds minds seed start new.done = played.now ∙ stood ∙ ap (after_rounds minds seed start) (sym count) in (
      record {
        minds = played.minds ∙ it.minds;
        same_seed = played.seed ∙ it.same_seed;
        stands = stands;
        later = rw done (AreRising-from round (round + 1) (drop (index + 1) rounds) (omega arith) next.2);
      },
      ap (λ (m : Moment). m.world) stands ∙ ap (λ (n : ℕ). (after_rounds minds seed start n).world) done,
    )

-- the first looks lie over the rooms
pub record AreLaid (world : Grid) (red black : List Instr) (seed : ℕ) (rounds : List ℕ) (index : ℕ) (scores new_scores : List AntsScore) (ants new_ants : List AntsAnt) : Type 0 where
  pub scored : new_scores ≡ map (λ round. game_score world red black round seed) (take index rounds) ++ drop index scores
  pub seen : new_ants ≡ ants_after world red black seed (take index rounds) ++ drop (index * world.ids) ants

-- a score more
pub score_more : {A : Type 0} (f : ℕ → A) (rounds : List ℕ) (old : List A) (index : ℕ) → index < length rounds → length rounds ≤ length old
    → slice_set (map f (take index rounds) ++ drop index old) index (f (slice_index_or rounds index 0)) ≡ map f (take (index + 1) rounds) ++ drop (index + 1) old
score_more f rounds old index below long =
    let many : length (map f (take index rounds)) ≡ index = length-map (take index rounds) f ∙ length-take-le index rounds (omega (arith, below)) in
    one_more (map f (take index rounds)) old index (f (slice_index_or rounds index 0)) many (omega (arith, below, long))
    ∙ ap (λ front. front ++ drop (index + 1) old) (sym (map_more f rounds index 0 below))

-- a piece more after a front that lies over a room
piece_more : {A : Type 0} (front old piece : List A) (a k : ℕ) → length front ≡ a → length piece ≡ k → a + k ≤ length old
    → put_mid a k (front ++ drop a old) piece ≡ (front ++ piece) ++ drop (a + k) old
piece_more front old piece a k long many fits =
    let room = front ++ drop a old in
    let whole : length room ≡ a + (length old - a) = length-append front (drop a old) ∙ ap₂ (λ (m n : ℕ). m + n) long (length-drop a old) in
    let below : a ≤ length room = omega (arith, whole) in
    let first : take (a + k) (put_mid a k room piece) ≡ take a room ++ piece = take-put_mid a k room piece (a + k) (omega (arith, many)) below in
    let behind : drop (a + k) (put_mid a k room piece) ≡ drop (a + k) room = drop-put_mid a k room piece (a + k) (omega arith) below many in
    let kept : take a room ≡ front = ap (λ n. take n room) (sym long) ∙ take-append_seam front (drop a old) in
    let later : drop (a + k) room ≡ drop (a + k) old = drop-append-drop a old front (a + k) (omega arith) long in
    sym (take-append-drop (a + k) (put_mid a k room piece))
    ∙ ap₂ (λ (x y : List _). x ++ y) (first ∙ ap (λ x. x ++ piece) kept) (behind ∙ later)

-- the ants of a look more
pub look_more : (world : Grid) (red black : List Instr) (seed : ℕ) (rounds : List ℕ) (index : ℕ) (old piece : List AntsAnt) → index < length rounds → length rounds * world.ids ≤ length old
    → piece ≡ seen_ants (world_after (contest_minds red black) seed (world_of world) (slice_index_or rounds index 0))
    → put_mid (index * world.ids) ((index + 1) * world.ids - index * world.ids) (ants_after world red black seed (take index rounds) ++ drop (index * world.ids) old) piece
    ≡ ants_after world red black seed (take (index + 1) rounds) ++ drop ((index + 1) * world.ids) old
unfolding world_after
look_more world red black seed rounds index old piece below fits seen =
    let minds = contest_minds red black in
    let ants_of = λ (it : ℕ). seen_ants (world_after minds seed (world_of world) it) in
    let round = slice_index_or rounds index 0 in
    let front = ants_after world red black seed (take index rounds) in
    let next : (index + 1) * world.ids ≡ index * world.ids + world.ids = simp unary_clauses (omega arith) in
    let all : (index + 1) * world.ids ≤ length rounds * world.ids = mul-le (index + 1) world.ids (length rounds) world.ids (omega (arith, below)) (omega arith) in
    let long : length front ≡ index * world.ids = ants_after-length world red black seed (take index rounds) ∙ ap (λ n. n * world.ids) (length-take-le index rounds (omega (arith, below))) in
    let many : length piece ≡ world.ids =
    ap length seen ∙ length-map-range_with_len (seen_ant (world_after minds seed (world_of world) round)) 0 _ ∙ after_rounds-ids minds seed (start_of (world_of world)) round in
    let one : (index + 1) * world.ids - index * world.ids ≡ world.ids = omega (arith, next) in
    let grown : ants_after world red black seed (take (index + 1) rounds) ≡ front ++ piece =
    ap (ants_after world red black seed) (take_more rounds index 0 below) ∙ flat_map-append ants_of (take index rounds) (round ∷ [])
    ∙ ap (λ x. front ++ x) (append-nil (ants_of round) ∙ sym seen) in
    rw (one, grown, next) (piece_more front old piece (index * world.ids) world.ids long many (omega (arith, next, all, fits)))

-- there is room for the ants of a look more
pub room_for : (world : Grid) (index n ids : ℕ) (now : List AntsAnt) → ids ≡ world.ids → index < n → n * world.ids ≤ length now
    → length (take ((index + 1) * ids - index * ids) (drop (index * ids) now)) ≡ world.ids
room_for world index n ids now made below fits =
    let next : (index + 1) * world.ids ≡ index * world.ids + world.ids = simp unary_clauses (omega arith) in
    let all : (index + 1) * world.ids ≤ n * world.ids = mul-le (index + 1) world.ids n world.ids (omega (arith, below)) (omega arith) in
    let one : (index + 1) * world.ids - index * world.ids ≡ world.ids = omega (arith, next) in
    let left : length (drop (index * world.ids) now) ≡ length now - index * world.ids = length-drop (index * world.ids) now in
    rw (made, one) (length-take-le world.ids (drop (index * world.ids) now) (omega (arith, left, next, all, fits)))

-- a game keeps its ids
pub ids_kept : (world : Grid) (red black : List Instr) (seed : ℕ) (new : Grid) (round : ℕ) → world_of new ≡ world_after (contest_minds red black) seed (world_of world) round → new.ids ≡ world.ids
unfolding world_after
ids_kept world red black seed new round is = ap (λ (w : World). w.ids) is ∙ after_rounds-ids (contest_minds red black) seed (start_of (world_of world)) round
