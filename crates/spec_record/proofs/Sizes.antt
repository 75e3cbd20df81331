-- A look has at most 19 reads and 7 writes.
use Rattle.std.proofs.Common.{◌≡◌, inl, inr, ℕ, zero, suc, ◌≤◌, Bool, true, false, if◌then◌else◌, Option, Some, None, List, [], ◌∷◌, ◌++◌, map, length, refl, sym, ap, subst, arith}
use Rattle.std.specs.List.{AllByRecursion}
use Rattle.std.proofs.lemmas.Bool.{cases_Bool, cond-true, cond-false, or_left, or_right}
use Rattle.list_lemmas.proofs.AllElements.{AllByRecursion-append, AllByRecursion-weaker}
use Rattle.hex_geometry.specs.declared.position.Pos.{Pos}
use Rattle.hex_geometry.specs.Neighbourhood.{adjacent_pos}
use Rattle.hex_geometry.specs.Position.{IsInner, same_pos}
use Rattle.hex_geometry.proofs.Places.{same_pos_self}
use Rattle.cell_world.specs.declared.ant.Ant.{Ant}
use Rattle.cell_world.specs.declared.part.Part.TheVariants as part
use Rattle.cell_world.specs.declared.part.Parts.{Parts}
use Rattle.cell_world.specs.Parts.{only}
use Rattle.cell_world.specs.Valid.{Valid}
use Rattle.cell_world.specs.World.{Cells, World, place_in}
use Rattle.cell_world.proofs.Places.{ant-clear}
use Rattle.brain_read.specs.declared.instr.Instr.{Instr}
use Rattle.brain_read.specs.declared.instr.Instr.TheVariants.{Move}
use Rattle.ant_turn.specs.Kills.{check_at, is_surrounded, places_around}
use Rattle.ant_turn.specs.Minds.{Minds, mind_of}
use Rattle.ant_turn.specs.Sheet.{Sheet}
use Rattle.ant_turn.specs.Turn.{instruction_at, is_blocked, stepped}
use Rattle.ant_turn.proofs.KeptByTurns.{free_clear}
use Rattle.cell_world.specs.Cell.{rock}
use Rattle.spec_record.specs.Claims.{Claim, claim, merged, with_cells_at}
use Rattle.spec_record.specs.Inner.Sightings.{all_sighted}
use Rattle.spec_record.specs.Reads.{ant_and_food, emptied, load_and_food, reads, reads_acting, reads_besides, reads_from, reads_going, reads_of, seen_around, who_and_mind}
use Rattle.spec_record.specs.Writes.{writes, writes_acting, writes_besides, writes_from, writes_going, writes_of}
use Rattle.spec_record.proofs.Bounds.{from-beside, seen-ring}
use Rattle.spec_record.proofs.ClaimLemmas.{positions}
use Rattle.spec_record.proofs.EmptiedCells.{seen_around-from}
use Rattle.spec_record.proofs.Ring.{among-self, around-length, ring, ring-around, ring-length}
use Rattle.spec_record.proofs.SettledTurns.{all_at_places}
use Rattle.spec_record.proofs.Sighting.{all_sighted-fits, among, with_cells_at-merged}

-- whose ants decide the checks around the cell that an ant enters are in the ring around it
near_seen : (sheet : Sheet) (w : World) (p : Pos) (ant : Ant) (q : Pos) (next : ℕ) → Valid w → 1 ≤ q.x → 1 ≤ q.y → AllByRecursion (λ r. among r (ring q) ≡ true) (seen_around (stepped sheet w.cells p ant q next) q)
near_seen sheet w p ant q next valid left top =
    subst (AllByRecursion (λ r. among r (ring q) ≡ true)) (sym (seen_around-from sheet w.cells p ant q next left top)) (seen-ring w p q valid left top)

-- checks empty cells among those that they check
emptied_in : (sheet : Sheet) (places : List Pos) (v : Cells) → AllByRecursion (λ r. among r places ≡ true) (emptied sheet v places)
emptied_in sheet [] v = tt
emptied_in sheet (x ∷ places) v =
    let In : Pos → Type 0 = λ r. among r (x ∷ places) ≡ true in
    AllByRecursion-append In (if is_surrounded sheet v x then x ∷ [] else []) (emptied sheet (check_at sheet v x) places)
    (elim (cases_Bool (is_surrounded sheet v x)) [
      | inl struck ↦ subst (AllByRecursion In) (sym (cond-true _ (x ∷ []) [] struck)) (or_left (same_pos x x) (among x places) (same_pos_self x), tt)
      | inr spared ↦ subst (AllByRecursion In) (sym (cond-false _ (x ∷ []) [] spared)) tt
    ])
    (AllByRecursion-weaker (λ r. among r places ≡ true) In (emptied sheet (check_at sheet v x) places) (emptied_in sheet places (check_at sheet v x)) (λ q found. or_right (same_pos x q) (among q places) found))

-- every position of a list is in it
in_itself : (places : List Pos) → AllByRecursion (λ r. among r places ≡ true) places
in_itself [] = tt
in_itself (p ∷ places) = (or_left (same_pos p p) (among p places) (same_pos_self p), AllByRecursion-weaker (λ r. among r places ≡ true) (λ r. among r (p ∷ places) ≡ true) places (in_itself places) (λ q found. or_right (same_pos p q) (among q places) found))

-- as many positions as claims, and as many with cells
length-positions : (claims : List Claim) → length (positions claims) ≡ length claims
length-positions [] = refl
length-positions (c ∷ claims) = ap suc (length-positions claims)

length-with_cells_at : (cells : Cells) (claims : List Claim) → length (with_cells_at cells claims) ≡ length claims
length-with_cells_at cells [] = refl
length-with_cells_at cells (c ∷ claims) = ap suc (length-with_cells_at cells claims)

-- claims at positions of a list are merged into no more than it has
merged-within : (claims : List Claim) (places : List Pos) → AllByRecursion (λ r. among r places ≡ true) (positions claims) → length (merged claims) ≤ length places
merged-within claims places found =
    let cells : Cells = λ r. rock in
    let less : length (all_sighted [] (with_cells_at cells claims)) ≤ length places = all_sighted-fits (with_cells_at cells claims) places (all_at_places (λ r. among r places ≡ true) cells claims found) in
    let same : length (with_cells_at cells (merged claims)) ≡ length (all_sighted [] (with_cells_at cells claims)) = ap length (with_cells_at-merged cells claims) in
    let as_many : length (with_cells_at cells (merged claims)) ≡ length (merged claims) = length-with_cells_at cells (merged claims) in
    omega (arith, less, same, as_many)

-- and into no more than there are
merged-fewer : (claims : List Claim) (n : ℕ) → length claims ≤ n → length (merged claims) ≤ n
merged-fewer claims n few =
    let less : length (merged claims) ≤ length (positions claims) = merged-within claims (positions claims) (in_itself (positions claims)) in
    let same : length (positions claims) ≡ length claims = length-positions claims in
    omega (arith, less, same, few)

-- the positions of a mapped list
positions-map : (parts : Parts) (places : List Pos) → positions (map (λ r. claim r parts) places) ≡ places
positions-map parts [] = refl
positions-map parts (p ∷ places) = ap (λ l. p ∷ l) (positions-map parts places)

positions-append : (claims more : List Claim) → positions (claims ++ more) ≡ positions claims ++ positions more
positions-append [] more = refl
positions-append (c ∷ claims) more = ap (λ l. c.at ∷ l) (positions-append claims more)

-- an ant on a cell of a world
module _ (minds : Minds) (w : World) (valid : Valid w) (p : Pos) (ant : Ant) (is : (w.cells p).ant ≡ Some ant) where
  -- it is one of the six around the cell ahead
  own_around : among p (places_around (adjacent_pos p ant.facing)) ≡ true
  own_around = let inner : IsInner w.width w.height p = valid.rim p (ant-clear w p ant valid is) in from-beside p (adjacent_pos p ant.facing) ant.facing inner.from_left inner.from_top refl

  -- what it writes when it goes
  writes_going-few : (next : ℕ) → length (merged (claim p (only part.Mind) ∷ writes_going minds.sheet w.cells p ant (adjacent_pos p ant.facing) next)) ≤ 7
  writes_going-few next =
      let q : Pos = adjacent_pos p ant.facing in
      let gone : List Pos = emptied minds.sheet (stepped minds.sheet w.cells p ant q next) (places_around q) in
      let all : AllByRecursion (λ r. among r (places_around q) ≡ true) (positions (map (λ r. claim r ant_and_food) gone)) = subst (AllByRecursion (λ r. among r (places_around q) ≡ true)) (sym (positions-map ant_and_food gone)) (emptied_in minds.sheet (places_around q) (stepped minds.sheet w.cells p ant q next)) in
      let less = merged-within (claim p (only part.Mind) ∷ writes_going minds.sheet w.cells p ant q next) (places_around q) (own_around, (own_around, (among-self q, all))) in
      let seven : length (places_around q) ≡ 7 = around-length q in
      omega (arith, less, seven)

  -- and reads
  reads_going-few : (next : ℕ) → is_blocked (w.cells (adjacent_pos p ant.facing)) ≡ false → length (merged (claim p who_and_mind ∷ reads_going minds.sheet w.cells p ant (adjacent_pos p ant.facing) next)) ≤ 19
  reads_going-few next free =
      let q : Pos = adjacent_pos p ant.facing in
      let there : Cells = stepped minds.sheet w.cells p ant q next in
      let inner : IsInner w.width w.height q = valid.rim q (free_clear (w.cells q) free) in
      let gone : List Pos = emptied minds.sheet there (places_around q) in
      let seen : AllByRecursion (λ r. among r (ring q) ≡ true) (positions (map (λ r. claim r (only part.Who)) (seen_around there q))) = subst (AllByRecursion (λ r. among r (ring q) ≡ true)) (sym (positions-map (only part.Who) (seen_around there q))) (near_seen minds.sheet w p ant q next valid inner.from_left inner.from_top) in
      let left : AllByRecursion (λ r. among r (ring q) ≡ true) (positions (map (λ r. claim r load_and_food) gone)) = subst (AllByRecursion (λ r. among r (ring q) ≡ true)) (sym (positions-map load_and_food gone)) (AllByRecursion-weaker (λ r. among r (places_around q) ≡ true) (λ r. among r (ring q) ≡ true) gone (emptied_in minds.sheet (places_around q) there) (λ r found. ring-around q r found)) in
      let more : AllByRecursion (λ r. among r (ring q) ≡ true) (positions (map (λ r. claim r (only part.Who)) (seen_around there q) ++ map (λ r. claim r load_and_food) gone)) =
      subst (AllByRecursion (λ r. among r (ring q) ≡ true)) (sym (positions-append (map (λ r. claim r (only part.Who)) (seen_around there q)) (map (λ r. claim r load_and_food) gone)))
      (AllByRecursion-append (λ r. among r (ring q) ≡ true) (positions (map (λ r. claim r (only part.Who)) (seen_around there q))) (positions (map (λ r. claim r load_and_food) gone)) seen left) in
      let own : among p (ring q) ≡ true = ring-around q p own_around in
      let less = merged-within (claim p who_and_mind ∷ reads_going minds.sheet w.cells p ant q next) (ring q) (own, (own, more)) in
      let nineteen : length (ring q) ≡ 19 = ring-length q in
      omega (arith, less, nineteen)

  -- a Move
  move_writes-few : (next : ℕ) (blocked : Bool) → length (merged (claim p (only part.Mind) ∷ (if blocked then [] else writes_going minds.sheet w.cells p ant (adjacent_pos p ant.facing) next))) ≤ 7
  move_writes-few next true = merged-fewer (claim p (only part.Mind) ∷ []) 7 (omega arith)
  move_writes-few next false = writes_going-few next

  move_reads-few : (next : ℕ) (blocked : Bool) → is_blocked (w.cells (adjacent_pos p ant.facing)) ≡ blocked →
      length (merged (claim p who_and_mind ∷ (if blocked then claim (adjacent_pos p ant.facing) (only part.Who) ∷ [] else reads_going minds.sheet w.cells p ant (adjacent_pos p ant.facing) next))) ≤ 19
  move_reads-few next true at = merged-fewer (claim p who_and_mind ∷ claim (adjacent_pos p ant.facing) (only part.Who) ∷ []) 19 (omega arith)
  move_reads-few next false free = reads_going-few next free

  -- what an instruction writes and reads
  besides_writes-few : (instruction : Instr) → length (merged (claim p (only part.Mind) ∷ writes_besides minds.sheet w.cells p ant instruction)) ≤ 7
  besides_writes-few (Move met unmet) = move_writes-few met (is_blocked (w.cells (adjacent_pos p ant.facing)))
  besides_writes-few it = merged-fewer (claim p (only part.Mind) ∷ writes_besides minds.sheet w.cells p ant it) 7 (omega arith)

  besides_reads-few : (instruction : Instr) → length (merged (claim p who_and_mind ∷ reads_besides minds.sheet w.cells p ant instruction)) ≤ 19
  besides_reads-few (Move met unmet) = move_reads-few met (is_blocked (w.cells (adjacent_pos p ant.facing))) refl
  besides_reads-few it = merged-fewer (claim p who_and_mind ∷ reads_besides minds.sheet w.cells p ant it) 19 (omega arith)

  -- what it does when it acts or rests
  acting_writes-few : (resting : ℕ) → length (merged (claim p (only part.Mind) ∷ writes_acting resting minds w.cells p ant)) ≤ 7
  acting_writes-few zero = besides_writes-few (instruction_at (mind_of minds ant.colour) ant.state)
  acting_writes-few (suc left) = merged-fewer (claim p (only part.Mind) ∷ []) 7 (omega arith)

  acting_reads-few : (resting : ℕ) → length (merged (claim p who_and_mind ∷ reads_acting resting minds w.cells p ant)) ≤ 19
  acting_reads-few zero = besides_reads-few (instruction_at (mind_of minds ant.colour) ant.state)
  acting_reads-few (suc left) = merged-fewer (claim p who_and_mind ∷ []) 19 (omega arith)

of_writes-few : (minds : Minds) (w : World) (p : Pos) (o : Option Ant) → Valid w → (w.cells p).ant ≡ o → length (merged (writes_of minds w.cells p o)) ≤ 7
of_writes-few minds w p None valid is = merged-fewer [] 7 (omega arith)
of_writes-few minds w p (Some ant) valid is = acting_writes-few minds w valid p ant is ant.resting

of_reads-few : (minds : Minds) (w : World) (p : Pos) (o : Option Ant) → Valid w → (w.cells p).ant ≡ o → length (merged (reads_of minds w.cells p o)) ≤ 19
of_reads-few minds w p None valid is = merged-fewer [] 19 (omega arith)
of_reads-few minds w p (Some ant) valid is = acting_reads-few minds w valid p ant is ant.resting

from_writes-few : (minds : Minds) (w : World) (o : Option Pos) → Valid w → length (merged (writes_from minds w.cells o)) ≤ 7
from_writes-few minds w None valid = merged-fewer [] 7 (omega arith)
from_writes-few minds w (Some p) valid = of_writes-few minds w p (w.cells p).ant valid refl

from_reads-few : (minds : Minds) (w : World) (o : Option Pos) → Valid w → length (merged (reads_from minds w.cells o)) ≤ 19
from_reads-few minds w None valid = merged-fewer [] 19 (omega arith)
from_reads-few minds w (Some p) valid = of_reads-few minds w p (w.cells p).ant valid refl

-- a turn writes at most 7 positions
pub writes-few : (minds : Minds) (w : World) (t : ℕ) → Valid w → length (writes minds w t) ≤ 7
unfolding writes
writes-few minds w t valid = from_writes-few minds w (place_in w t) valid

-- and reads at most 19
pub reads-few : (minds : Minds) (w : World) (t : ℕ) → Valid w → length (reads minds w t) ≤ 19
unfolding reads
reads-few minds w t valid = from_reads-few minds w (place_in w t) valid
