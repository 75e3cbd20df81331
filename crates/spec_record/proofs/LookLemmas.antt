-- The look at a turn, by where its ant is and what it does.
use Rattle.std.proofs.Common.{◌≡◌, ◌≢◌, ◌≤◌, ℕ, suc, Bool, true, false, if◌then◌else◌, List, [], ◌∷◌, ◌++◌, map, length, Option, Some, None, refl, sym, ◌∙◌, ap, ap₂, subst}
use Rattle.std.specs.List.{AllByRecursion}
use Rattle.std.proofs.lemmas.Bool.{or_parts, cond-true, cond-false}
use Rattle.hex_geometry.specs.declared.position.Pos.{Pos}
use Rattle.hex_geometry.specs.Neighbourhood.{adjacent_pos, sensed_pos}
use Rattle.hex_geometry.specs.Position.{HasNeighbours, IsInner, IsInside}
use Rattle.hex_geometry.proofs.Beside.{adjacent_pos_inside, adjacent_pos_moves, sensed_pos_inside}
use Rattle.hex_geometry.proofs.Places.{inner_inside, same_pos_apart, same_pos_self}
use Rattle.cell_world.specs.declared.ant.Ant.{Ant}
use Rattle.cell_world.specs.declared.cell.Cell.{Cell}
use Rattle.cell_world.specs.declared.part.Part.TheVariants as part
use Rattle.cell_world.specs.declared.part.Parts.{Parts}
use Rattle.cell_world.specs.Colour.{foe_of}
use Rattle.cell_world.specs.Parts.{no_parts, only, union}
use Rattle.cell_world.specs.World.{Cells, World, place_in}
use Rattle.cell_world.specs.Valid.{Valid}
use Rattle.cell_world.proofs.Places.{ant-clear, clear_has_neighbours}
use Rattle.cell_world.proofs.Puts.{put_cell-same}
use Rattle.brain_read.specs.declared.instr.Instr.{Instr}
use Rattle.brain_read.specs.declared.instr.Instr.TheVariants.{Sense, Mark, Unmark, PickUp, Drop, Turn, Move, Flip}
use Rattle.ant_turn.specs.InPlace.{StaysSeeing}
use Rattle.ant_turn.specs.Kills.{check_all, places_around}
use Rattle.ant_turn.specs.Minds.{Minds, mind_of}
use Rattle.ant_turn.specs.Sheet.{Sheet}
use Rattle.ant_turn.specs.Turn.{Outcome, acts, arrived, checked, execute, has_ant, instruction_at, is_blocked, stepped, turn, turn_from, turn_at, with_ant}
use Rattle.ant_turn.proofs.Turns.{turn-acts}
use Rattle.spec_record.specs.Claims.{Claim, EachOnce, Sighting, claim, merged, seen_positions, with_cells_at}
use Rattle.spec_record.specs.Look.{LookValue, look_of, look_with}
use Rattle.spec_record.specs.Reads.{ant_and_food, asked, emptied, marks_part, load_and_food, reads, reads_acting, reads_besides, reads_from, reads_going, reads_of, seen_around, who_and_mind, whole_ant}
use Rattle.spec_record.specs.Writes.{writes, writes_acting, writes_besides, writes_from, writes_going, writes_of}
use Rattle.spec_record.specs.Inner.Moves.{GoesTo, calm_reads, calm_writes, destination, fallen, going_reads, going_writes, seen_from, state_gone}
use Rattle.spec_record.specs.Inner.Near.{AreNoneOf, IsWithin}
use Rattle.spec_record.specs.Inner.Sightings.{all_sighted, sighted, sightings_of}
use Rattle.spec_record.specs.Inner.Stays.{blank_look, read_at, rested_look, staying_reads, staying_writes}
use Rattle.spec_record.proofs.ClaimLemmas.{EachOnce-sightings}
use Rattle.spec_record.proofs.Bounds.{going_reads-fit, going_writes-fit}
use Rattle.spec_record.proofs.EmptiedCells.{emptied-fallen, emptied-none, seen_around-from}
use Rattle.spec_record.proofs.Near.{within-back, within-beside}
use Rattle.spec_record.proofs.QuietMoves.{NoneAt, apart-once, seen-none, step-checks, step-kills, stepped-from, stepped-to}
use Rattle.spec_record.proofs.Sighting.{all_sighted-apart, all_sighted-append, claims-append, claims-sightings_of, sightings_of-room, with_cells_at-merged}

-- the look of an outcome with these claims
abbrev look_claiming : Cells → ℕ → ℕ → Outcome → List Claim → List Claim → LookValue
look_claiming cells t guess outcome read written = look_with t guess outcome (with_cells_at cells (merged read)) (with_cells_at outcome.cells (merged written))

-- by where the ant is, if it has a place
abbrev look_from : Minds → ℕ → Cells → ℕ → ℕ → Option Pos → LookValue
look_from minds seed cells guess t o = look_claiming cells t guess (turn_from minds seed cells guess o) (reads_from minds cells o) (writes_from minds cells o)

look_of-from : (minds : Minds) (seed : ℕ) (w : World) (guess t : ℕ) → look_of minds seed w guess t ≡ look_from minds seed w.cells guess t (place_in w t)
unfolding look_of turn reads writes
look_of-from minds seed w guess t = refl

-- by the ant there, if there is one
abbrev look_at : Minds → ℕ → Cells → ℕ → ℕ → Pos → Option Ant → LookValue
look_at minds seed cells guess t p o = look_claiming cells t guess (turn_at minds seed cells guess p o) (reads_of minds cells p o) (writes_of minds cells p o)

-- by its resting count
abbrev look_acting : Minds → ℕ → Cells → ℕ → ℕ → Pos → Ant → ℕ → LookValue
look_acting minds seed cells guess t p ant n =
    look_claiming cells t guess (acts n minds seed cells guess p ant) (claim p who_and_mind ∷ reads_acting n minds cells p ant) (claim p (only part.Mind) ∷ writes_acting n minds cells p ant)

-- by its instruction
abbrev pub look_by : Sheet → ℕ → Cells → ℕ → ℕ → Pos → Ant → Instr → LookValue
look_by sheet seed cells guess t p ant instruction =
    look_claiming cells t guess (execute sheet seed cells guess p ant instruction) (claim p who_and_mind ∷ reads_besides sheet cells p ant instruction) (claim p (only part.Mind) ∷ writes_besides sheet cells p ant instruction)

-- nothing is recorded of a dead ant
pub look_of-dead : (minds : Minds) (seed : ℕ) (w : World) (guess t : ℕ) → place_in w t ≡ None → look_of minds seed w guess t ≡ blank_look t guess
unfolding merged
look_of-dead minds seed w guess t dead = look_of-from minds seed w guess t ∙ ap (look_from minds seed w.cells guess t) dead

-- nor where nobody is
pub look_of-empty : (minds : Minds) (seed : ℕ) (w : World) (guess t : ℕ) (p : Pos) → place_in w t ≡ Some p → (w.cells p).ant ≡ None → look_of minds seed w guess t ≡ blank_look t guess
unfolding merged
look_of-empty minds seed w guess t p found none =
    look_of-from minds seed w guess t ∙ ap (look_from minds seed w.cells guess t) found ∙ ap (look_at minds seed w.cells guess t p) none

-- the look at a turn of an ant that lives
look_of-acting : (minds : Minds) (seed : ℕ) (w : World) (guess t : ℕ) (p : Pos) (ant : Ant) → place_in w t ≡ Some p → (w.cells p).ant ≡ Some ant → look_of minds seed w guess t ≡ look_acting minds seed w.cells guess t p ant ant.resting
look_of-acting minds seed w guess t p ant found is =
    look_of-from minds seed w guess t ∙ ap (look_from minds seed w.cells guess t) found ∙ ap (look_at minds seed w.cells guess t p) is

-- of one that rests
pub look_of-rests : (minds : Minds) (seed : ℕ) (w : World) (guess t : ℕ) (p : Pos) (ant : Ant) (left : ℕ) → place_in w t ≡ Some p → (w.cells p).ant ≡ Some ant → ant.resting ≡ suc left →
    look_of minds seed w guess t ≡ rested_look t guess p (w.cells p) (record ant { resting = left })
unfolding merged
look_of-rests minds seed w guess t p ant left found is tired =
    look_of-acting minds seed w guess t p ant found is
    ∙ ap (look_acting minds seed w.cells guess t p ant) tired
    ∙ ap (λ (cell : Cell). record (rested_look t guess p (w.cells p) (record ant { resting = left })) { writes = (p, only part.Mind, cell) ∷ [] }) (put_cell-same w.cells p (with_ant (w.cells p) (record ant { resting = left })))

-- of one that executes an instruction
pub look_of-executes : (minds : Minds) (seed : ℕ) (w : World) (guess t : ℕ) (p : Pos) (ant : Ant) → place_in w t ≡ Some p → (w.cells p).ant ≡ Some ant → ant.resting ≡ 0 →
    look_of minds seed w guess t ≡ look_by minds.sheet seed w.cells guess t p ant (instruction_at (mind_of minds ant.colour) ant.state)
look_of-executes minds seed w guess t p ant found is ready = look_of-acting minds seed w guess t p ant found is ∙ ap (look_acting minds seed w.cells guess t p ant) ready

-- no part more of a position that was seen
nothing_more : (cells : Cells) (p : Pos) (parts : Parts) → sighted ((p, parts, cells p) ∷ []) (p, no_parts, cells p) ≡ (p, union parts no_parts, cells p) ∷ []
nothing_more cells p parts = cond-true _ _ _ (same_pos_self p)

-- two claims of one position
two_claims : (cells : Cells) (p : Pos) (first second : Parts) → with_cells_at cells (merged (claim p first ∷ claim p second ∷ [])) ≡ (p, union first second, cells p) ∷ []
two_claims cells p first second = with_cells_at-merged cells (claim p first ∷ claim p second ∷ []) ∙ cond-true _ _ _ (same_pos_self p)

one_claim : (cells : Cells) (p : Pos) (parts : Parts) → with_cells_at cells (merged (claim p parts ∷ [])) ≡ (p, parts, cells p) ∷ []
unfolding merged
one_claim cells p parts = refl

reads-nothing : (cells : Cells) (p : Pos) → with_cells_at cells (merged (claim p who_and_mind ∷ [])) ≡ sighted ((p, who_and_mind, cells p) ∷ []) (p, no_parts, cells p)
reads-nothing cells p = one_claim cells p who_and_mind ∙ sym (nothing_more cells p who_and_mind)

blocked_claims : (blocked : Bool) (sheet : Sheet) (cells : Cells) (p : Pos) (ant : Ant) (q : Pos) (met : ℕ) → is_blocked (cells q) ≡ blocked → (if blocked then None else Some q) ≡ None →
    (if is_blocked (cells q) then claim q (only part.Who) ∷ [] else reads_going sheet cells p ant q met) ≡ claim q (only part.Who) ∷ []
blocked_claims true sheet cells p ant q met is stays = cond-true _ _ _ is
blocked_claims false sheet cells p ant q met is stays = absurd (cc)

blocked_writes : (blocked : Bool) (sheet : Sheet) (cells : Cells) (p : Pos) (ant : Ant) (q : Pos) (met : ℕ) → is_blocked (cells q) ≡ blocked → (if blocked then None else Some q) ≡ None →
    (if is_blocked (cells q) then [] else writes_going sheet cells p ant q met) ≡ []
blocked_writes true sheet cells p ant q met is stays = cond-true _ _ _ is
blocked_writes false sheet cells p ant q met is stays = absurd (cc)

-- the cell ahead of an ant that doesn't go is blocked
blocked_ahead : (blocked : Bool) (q : Pos) → (if blocked then None else Some q) ≡ None → blocked ≡ true
blocked_ahead true q stays = refl
blocked_ahead false q stays = absurd (cc)

-- an ant that doesn't go stays, and senses the cell that it reads
pub stays-seeing : (cells : Cells) (p : Pos) (ant : Ant) (seen : Cell) (instruction : Instr) → seen ≡ cells (read_at p ant instruction) → destination cells p ant instruction ≡ None → StaysSeeing cells p ant seen instruction
stays-seeing cells p ant seen (Sense sight met unmet condition) is stays = is
stays-seeing cells p ant seen (Move met unmet) is stays = blocked_ahead (is_blocked (cells (adjacent_pos p ant.facing))) (adjacent_pos p ant.facing) stays
stays-seeing cells p ant seen it is stays = tt

-- what an ant that stays reads
reads-stays : (sheet : Sheet) (cells : Cells) (p : Pos) (ant : Ant) (instruction : Instr) → destination cells p ant instruction ≡ None →
    with_cells_at cells (merged (claim p who_and_mind ∷ reads_besides sheet cells p ant instruction)) ≡ staying_reads cells p ant instruction
reads-stays sheet cells p ant (Sense sight met unmet condition) stays = with_cells_at-merged cells (claim p who_and_mind ∷ claim (sensed_pos p ant.facing sight) (asked condition ant.colour) ∷ [])
reads-stays sheet cells p ant (PickUp met unmet) stays = with_cells_at-merged cells (claim p who_and_mind ∷ claim p load_and_food ∷ [])
reads-stays sheet cells p ant (Drop next) stays = with_cells_at-merged cells (claim p who_and_mind ∷ claim p load_and_food ∷ [])
reads-stays sheet cells p ant (Turn side next) stays = reads-nothing cells p
reads-stays sheet cells p ant (Move met unmet) stays =
    let q : Pos = adjacent_pos p ant.facing in
    ap (λ claims. with_cells_at cells (merged (claim p who_and_mind ∷ claims))) (blocked_claims (is_blocked (cells q)) sheet cells p ant q met refl stays)
    ∙ with_cells_at-merged cells (claim p who_and_mind ∷ claim q (only part.Who) ∷ [])
reads-stays sheet cells p ant (Flip bound met unmet) stays = reads-nothing cells p
reads-stays sheet cells p ant it stays = with_cells_at-merged cells (claim p who_and_mind ∷ claim p (only (marks_part ant.colour)) ∷ [])

-- what it writes
writes-stays : (sheet : Sheet) (cells last : Cells) (p : Pos) (ant : Ant) (instruction : Instr) → destination cells p ant instruction ≡ None →
    with_cells_at last (merged (claim p (only part.Mind) ∷ writes_besides sheet cells p ant instruction)) ≡ staying_writes last p ant instruction
writes-stays sheet cells last p ant (Mark i next) stays = two_claims last p (only part.Mind) (only (marks_part ant.colour))
writes-stays sheet cells last p ant (Unmark i next) stays = two_claims last p (only part.Mind) (only (marks_part ant.colour))
writes-stays sheet cells last p ant (PickUp met unmet) stays = two_claims last p (only part.Mind) load_and_food
writes-stays sheet cells last p ant (Drop next) stays = two_claims last p (only part.Mind) load_and_food
writes-stays sheet cells last p ant (Move met unmet) stays =
    let q : Pos = adjacent_pos p ant.facing in
    ap (λ claims. with_cells_at last (merged (claim p (only part.Mind) ∷ claims))) (blocked_writes (is_blocked (cells q)) sheet cells p ant q met refl stays)
    ∙ one_claim last p (only part.Mind)
writes-stays sheet cells last p ant it stays = one_claim last p (only part.Mind)

-- the look at an ant that stays
pub look_by-stays : (sheet : Sheet) (seed : ℕ) (cells : Cells) (guess t : ℕ) (p : Pos) (ant : Ant) (instruction : Instr) (outcome : Outcome) → destination cells p ant instruction ≡ None → outcome ≡ execute sheet seed cells guess p ant instruction →
    look_by sheet seed cells guess t p ant instruction ≡ look_with t guess outcome (staying_reads cells p ant instruction) (staying_writes outcome.cells p ant instruction)
look_by-stays sheet seed cells guess t p ant instruction outcome stays is =
    ap (λ (o : Outcome). look_claiming cells t guess o (claim p who_and_mind ∷ reads_besides sheet cells p ant instruction) (claim p (only part.Mind) ∷ writes_besides sheet cells p ant instruction)) (sym is)
    ∙ ap₂ (look_with t guess outcome) (reads-stays sheet cells p ant instruction stays) (writes-stays sheet cells outcome.cells p ant instruction stays)

-- the cell to which an ant goes by a Move
pub record Goes (sheet : Sheet) (seed : ℕ) (cells : Cells) (guess : ℕ) (p : Pos) (ant : Ant) (instruction : Instr) (q : Pos) : Type 0 where
  pub next : ℕ
  pub ahead : q ≡ adjacent_pos p ant.facing
  pub free : is_blocked (cells q) ≡ false
  pub reads : reads_besides sheet cells p ant instruction ≡ reads_going sheet cells p ant q next
  pub writes : writes_besides sheet cells p ant instruction ≡ writes_going sheet cells p ant q next
  pub outcome : execute sheet seed cells guess p ant instruction ≡ checked sheet (stepped sheet cells p ant q next) q
  pub is_next : next ≡ state_gone instruction

goes-ahead : (blocked : Bool) (sheet : Sheet) (seed : ℕ) (cells : Cells) (guess : ℕ) (p : Pos) (ant : Ant) (met unmet : ℕ) (q : Pos) → is_blocked (cells (adjacent_pos p ant.facing)) ≡ blocked → (if blocked then None else Some (adjacent_pos p ant.facing)) ≡ Some q → Goes sheet seed cells guess p ant (Move met unmet) q
goes-ahead true sheet seed cells guess p ant met unmet q is goes = absurd (cc)
goes-ahead false sheet seed cells guess p ant met unmet q is goes =
    let same : adjacent_pos p ant.facing ≡ q = cc in
    subst (Goes sheet seed cells guess p ant (Move met unmet)) same (record {
      next = met;
      ahead = refl;
      free = is;
      reads = cond-false _ _ _ is;
      writes = cond-false _ _ _ is;
      outcome = cond-false _ _ _ is;
      is_next = refl;
    })

pub goes_to : (sheet : Sheet) (seed : ℕ) (cells : Cells) (guess : ℕ) (p : Pos) (ant : Ant) (instruction : Instr) (q : Pos) → destination cells p ant instruction ≡ Some q → Goes sheet seed cells guess p ant instruction q
goes_to sheet seed cells guess p ant (Move met unmet) q there = goes-ahead (is_blocked (cells (adjacent_pos p ant.facing))) sheet seed cells guess p ant met unmet q refl there
goes_to sheet seed cells guess p ant it q there = absurd (cc)

-- the claims of an ant that goes, as sightings one after another
reads-goes : (sheet : Sheet) (cells last : Cells) (p : Pos) (ant : Ant) (q : Pos) (next : ℕ) → 1 ≤ q.x → 1 ≤ q.y → last ≡ check_all sheet (stepped sheet cells p ant q next) (places_around q) →
    with_cells_at cells (merged (claim p who_and_mind ∷ reads_going sheet cells p ant q next)) ≡ going_reads cells last p q
reads-goes sheet cells last p ant q next left top is =
    let after : Cells = stepped sheet cells p ant q next in
    let checks : List Claim = map (λ r. claim r (only part.Who)) (seen_around after q) in
    let corpses : List Claim = map (λ r. claim r load_and_food) (emptied sheet after (places_around q)) in
    let both : with_cells_at cells (checks ++ corpses) ≡ sightings_of cells (only part.Who) (seen_from cells p q) ++ sightings_of cells load_and_food (fallen cells last p q) =
    claims-append cells checks corpses
    ∙ ap₂ (λ xs ys. xs ++ ys)
    (claims-sightings_of cells (only part.Who) (seen_around after q) ∙ ap (sightings_of cells (only part.Who)) (seen_around-from sheet cells p ant q next left top))
    (claims-sightings_of cells load_and_food (emptied sheet after (places_around q)) ∙ ap (sightings_of cells load_and_food) (emptied-fallen sheet cells last p ant q next left top is)) in
    with_cells_at-merged cells (claim p who_and_mind ∷ claim p (only part.Load) ∷ (checks ++ corpses))
    ∙ ap (λ list. all_sighted list (with_cells_at cells (checks ++ corpses))) (cond-true _ ((p, whole_ant, cells p) ∷ []) _ (same_pos_self p))
    ∙ ap (all_sighted ((p, whole_ant, cells p) ∷ [])) both
    ∙ all_sighted-append ((p, whole_ant, cells p) ∷ []) (sightings_of cells (only part.Who) (seen_from cells p q)) (sightings_of cells load_and_food (fallen cells last p q))

writes-goes : (sheet : Sheet) (cells last : Cells) (p : Pos) (ant : Ant) (q : Pos) (next : ℕ) → 1 ≤ q.x → 1 ≤ q.y → p ≢ q → last ≡ check_all sheet (stepped sheet cells p ant q next) (places_around q) →
    with_cells_at last (merged (claim p (only part.Mind) ∷ writes_going sheet cells p ant q next)) ≡ going_writes cells last p q
writes-goes sheet cells last p ant q next left top other is =
    let after : Cells = stepped sheet cells p ant q next in
    let corpses : List Claim = map (λ r. claim r ant_and_food) (emptied sheet after (places_around q)) in
    let left_there : with_cells_at last corpses ≡ sightings_of last ant_and_food (fallen cells last p q) =
    claims-sightings_of last ant_and_food (emptied sheet after (places_around q)) ∙ ap (sightings_of last ant_and_food) (emptied-fallen sheet cells last p ant q next left top is) in
    with_cells_at-merged last (claim p (only part.Mind) ∷ claim p whole_ant ∷ claim q whole_ant ∷ corpses)
    ∙ ap (λ list. all_sighted (sighted list (q, whole_ant, last q)) (with_cells_at last corpses)) (cond-true _ ((p, whole_ant, last p) ∷ []) _ (same_pos_self p))
    ∙ ap (λ list. all_sighted list (with_cells_at last corpses)) (cond-false _ _ ((p, whole_ant, last p) ∷ (q, whole_ant, last q) ∷ []) (same_pos_apart p q other))
    ∙ ap (all_sighted ((p, whole_ant, last p) ∷ (q, whole_ant, last q) ∷ [])) left_there

-- the turn of an ant that acts is its instruction's
turn-instruction : (minds : Minds) (seed : ℕ) (w : World) (guess t : ℕ) (p : Pos) (ant : Ant) → place_in w t ≡ Some p → (w.cells p).ant ≡ Some ant → ant.resting ≡ 0 →
    turn minds seed w guess t ≡ execute minds.sheet seed w.cells guess p ant (instruction_at (mind_of minds ant.colour) ant.state)
turn-instruction minds seed w guess t p ant found is ready = turn-acts minds seed w guess t p ant found is ∙ ap (λ n. acts n minds seed w.cells guess p ant) ready

-- an ant that executes an instruction in the turn of id t, with this outcome
pub record Acting (minds : Minds) (seed : ℕ) (w : World) (guess t : ℕ) (p : Pos) (ant : Ant) (instruction : Instr) (outcome : Outcome) : Type 0 where
  pub valid : Valid w
  pub found : place_in w t ≡ Some p
  pub holds : (w.cells p).ant ≡ Some ant
  pub ready : ant.resting ≡ 0
  pub at : instruction ≡ instruction_at (mind_of minds ant.colour) ant.state
  pub is : outcome ≡ turn minds seed w guess t

-- an ant that goes executes its instruction in its turn
abbrev pub GoingActs : (minds : Minds) (seed : ℕ) (w : World) (guess t : ℕ) (p q : Pos) → GoesTo minds w t p q → Type 0
GoingActs minds seed w guess t p q goes = Acting minds seed w guess t p goes.ant (instruction_at (mind_of minds goes.ant.colour) goes.ant.state) (turn minds seed w guess t)

pub acting-goes : (minds : Minds) (seed : ℕ) (w : World) (guess t : ℕ) (p q : Pos) (goes : GoesTo minds w t p q) → Valid w → GoingActs minds seed w guess t p q goes
acting-goes minds seed w guess t p q goes valid = record {
  valid = valid;
  found = goes.found;
  holds = goes.holds;
  ready = goes.ready;
  at = refl;
  is = refl;
}

module _ {minds : Minds} {seed : ℕ} {w : World} {guess t : ℕ} {p : Pos} {ant : Ant} {instruction : Instr} {outcome : Outcome} (acting : Acting minds seed w guess t p ant instruction outcome) where
  -- where it stands
  pub acting-clear : (w.cells p).rocky ≡ false
  acting-clear = ant-clear w p ant acting.valid acting.holds

  pub acting-inner : IsInner w.width w.height p
  acting-inner = acting.valid.rim p acting-clear

  pub acting-near : HasNeighbours p
  acting-near = clear_has_neighbours w p acting.valid acting-clear

  -- what it does
  pub acting-executes : outcome ≡ execute minds.sheet seed w.cells guess p ant instruction
  acting-executes = acting.is ∙ turn-instruction minds seed w guess t p ant acting.found acting.holds acting.ready ∙ ap (execute minds.sheet seed w.cells guess p ant) (sym acting.at)

  acting-look : look_of minds seed w guess t ≡ look_by minds.sheet seed w.cells guess t p ant instruction
  acting-look = look_of-executes minds seed w guess t p ant acting.found acting.holds acting.ready ∙ ap (look_by minds.sheet seed w.cells guess t p ant) (sym acting.at)

  -- a look lists each position once
  reads-once : (seen left : List Sighting) → look_of minds seed w guess t ≡ look_with t guess outcome seen left → EachOnce (seen_positions seen)
  unfolding look_of reads
  reads-once seen left is = subst (λ (l : LookValue). EachOnce (seen_positions l.reads)) is (EachOnce-sightings w.cells (reads_from minds w.cells (place_in w t)))

  writes-once : (seen left : List Sighting) → look_of minds seed w guess t ≡ look_with t guess outcome seen left → EachOnce (seen_positions left)
  unfolding look_of writes
  writes-once seen left is =
      subst (λ (l : LookValue). EachOnce (seen_positions l.writes)) is (EachOnce-sightings (turn minds seed w guess t).cells (writes_from minds w.cells (place_in w t)))

  -- the look at it where it stays
  pub look-stays : (last : Cells) → last ≡ outcome.cells → destination w.cells p ant instruction ≡ None →
      look_of minds seed w guess t ≡ look_with t guess outcome (staying_reads w.cells p ant instruction) (staying_writes last p ant instruction)
  look-stays last left stays =
      acting-look ∙ look_by-stays minds.sheet seed w.cells guess t p ant instruction outcome stays acting-executes
      ∙ ap (λ (cells : Cells). look_with t guess outcome (staying_reads w.cells p ant instruction) (staying_writes cells p ant instruction)) (sym left)

  pub stays-once : (last : Cells) → last ≡ outcome.cells → destination w.cells p ant instruction ≡ None → EachOnce (seen_positions (staying_reads w.cells p ant instruction))
  stays-once last left stays = reads-once (staying_reads w.cells p ant instruction) (staying_writes last p ant instruction) (look-stays last left stays)

  module _ {q : Pos} (way : destination w.cells p ant instruction ≡ Some q) where
    there : Goes minds.sheet seed w.cells guess p ant instruction q
    there = goes_to minds.sheet seed w.cells guess p ant instruction q way

    clear-there : (w.cells q).rocky ≡ false
    clear-there = (or_parts (w.cells q).rocky (has_ant (w.cells q).ant) there.free).0

    -- where it goes
    pub inner-there : IsInner w.width w.height q
    inner-there = acting.valid.rim q clear-there

    pub near-there : HasNeighbours q
    near-there = clear_has_neighbours w q acting.valid clear-there

    other-there : p ≢ q
    other-there same = adjacent_pos_moves p ant.facing acting-inner.from_left acting-inner.from_top (sym there.ahead ∙ sym same)

    checked-there : outcome ≡ checked minds.sheet (stepped minds.sheet w.cells p ant q there.next) q
    checked-there = acting-executes ∙ there.outcome

    last-there : (last : Cells) → last ≡ outcome.cells → last ≡ check_all minds.sheet (stepped minds.sheet w.cells p ant q there.next) (places_around q)
    last-there last left = left ∙ ap (λ (o : Outcome). o.cells) checked-there

    -- the look at it
    pub look-goes : (last : Cells) → last ≡ outcome.cells → look_of minds seed w guess t ≡ look_with t guess outcome (going_reads w.cells last p q) (going_writes w.cells last p q)
    look-goes last left =
        acting-look
        ∙ ap (λ (o : Outcome). look_claiming w.cells t guess o (claim p who_and_mind ∷ reads_besides minds.sheet w.cells p ant instruction) (claim p (only part.Mind) ∷ writes_besides minds.sheet w.cells p ant instruction)) (sym acting-executes)
        ∙ ap₂ (λ read written. look_claiming w.cells t guess outcome (claim p who_and_mind ∷ read) (claim p (only part.Mind) ∷ written)) there.reads there.writes
        ∙ ap (λ (cells : Cells). look_with t guess outcome (with_cells_at w.cells (merged (claim p who_and_mind ∷ reads_going minds.sheet w.cells p ant q there.next))) (with_cells_at cells (merged (claim p (only part.Mind) ∷ writes_going minds.sheet w.cells p ant q there.next)))) (sym left)
        ∙ ap₂ (look_with t guess outcome)
        (reads-goes minds.sheet w.cells last p ant q there.next inner-there.from_left inner-there.from_top (last-there last left))
        (writes-goes minds.sheet w.cells last p ant q there.next inner-there.from_left inner-there.from_top other-there (last-there last left))

    pub goes-reads_once : (last : Cells) → last ≡ outcome.cells → EachOnce (seen_positions (going_reads w.cells last p q))
    goes-reads_once last left = reads-once (going_reads w.cells last p q) (going_writes w.cells last p q) (look-goes last left)

    pub goes-writes_once : (last : Cells) → last ≡ outcome.cells → EachOnce (seen_positions (going_writes w.cells last p q))
    goes-writes_once last left = writes-once (going_reads w.cells last p q) (going_writes w.cells last p q) (look-goes last left)

    -- it has room
    pub reads-there : (last : Cells) → length (going_reads w.cells last p q) ≤ 19
    reads-there last = going_reads-fit w last p q ant.facing acting.valid acting-inner.from_left acting-inner.from_top inner-there.from_left inner-there.from_top there.ahead

    pub writes-there : (last : Cells) → length (going_writes w.cells last p q) ≤ 7
    writes-there last = going_writes-fit w.cells last p q ant.facing acting-inner.from_left acting-inner.from_top other-there there.ahead

    -- if no ant is killed, no cell is emptied
    pub spared-there : (last : Cells) → last ≡ outcome.cells → outcome.killed ≡ [] → fallen w.cells last p q ≡ []
    spared-there last left none =
        sym (emptied-fallen minds.sheet w.cells last p ant q there.next inner-there.from_left inner-there.from_top (last-there last left))
        ∙ emptied-none minds.sheet (places_around q) (stepped minds.sheet w.cells p ant q there.next) (ap (λ (o : Outcome). o.killed) (sym checked-there) ∙ none)

    -- what it reads but of the killed has room, and each position is there once
    pub calm-room : length (calm_reads w.cells p q) ≤ 19
    calm-room = sightings_of-room (calm_reads w.cells p q) (going_reads w.cells outcome.cells p q) w.cells load_and_food (fallen w.cells outcome.cells p q) 19 refl (reads-there outcome.cells)

    pub calm-writes_once : (next : ℕ) → EachOnce (seen_positions (calm_writes minds.sheet w.cells p ant q next))
    calm-writes_once next = (((λ e. other-there (sym e)), tt), (tt, tt))

    -- the cell to which it goes is beside
    pub within-there : IsWithin 1 q p
    within-there = within-back 1 p q (subst (IsWithin 1 p) (sym there.ahead) (within-beside p ant.facing))

    -- if no foe is near, no ant is killed
    module _ (some : 1 ≤ minds.sheet.surround) (none : AreNoneOf (foe_of ant.colour) (calm_reads w.cells p q)) where
      none_around : AllByRecursion (NoneAt (foe_of ant.colour) w.cells) (seen_around (stepped minds.sheet w.cells p ant q there.next) q)
      none_around =
          subst (AllByRecursion (NoneAt (foe_of ant.colour) w.cells)) (sym (seen_around-from minds.sheet w.cells p ant q there.next inner-there.from_left inner-there.from_top))
          (seen-none (foe_of ant.colour) w.cells p whole_ant (only part.Who) (seen_from w.cells p q) none)

      calm-outcome : outcome ≡ record { cells = stepped minds.sheet w.cells p ant q there.next; drew = false; killed = [] }
      calm-outcome =
          let made : Cells → List ℕ → Outcome = λ cells killed. record { cells = cells; drew = false; killed = killed } in
          checked-there ∙ ap₂ made
          (step-checks minds.sheet w.cells p ant q there.next inner-there.from_left inner-there.from_top some none_around)
          (step-kills minds.sheet w.cells p ant q there.next inner-there.from_left inner-there.from_top some none_around)

      -- the look at it
      pub look-calm : look_of minds seed w guess t ≡ record {
        turn = t;
        guess = guess;
        drew = false;
        reads = calm_reads w.cells p q;
        writes = calm_writes minds.sheet w.cells p ant q (state_gone instruction);
        killed = [];
      }
      look-calm =
          let nobody : fallen w.cells outcome.cells p q ≡ [] = spared-there outcome.cells refl (ap (λ (o : Outcome). o.killed) calm-outcome) in
          let sheet : Sheet = minds.sheet in
          let made : Cell → Cell → LookValue = λ a b. record { turn = t; guess = guess; drew = false; reads = calm_reads w.cells p q; writes = (p, whole_ant, a) ∷ (q, whole_ant, b) ∷ []; killed = [] } in
          look-goes outcome.cells refl
          ∙ ap₂ (look_with t guess outcome)
          (ap (λ (places : List Pos). all_sighted (calm_reads w.cells p q) (sightings_of w.cells load_and_food places)) nobody)
          (ap (λ (places : List Pos). all_sighted ((p, whole_ant, outcome.cells p) ∷ (q, whole_ant, outcome.cells q) ∷ []) (sightings_of outcome.cells ant_and_food places)) nobody)
          ∙ ap (λ (o : Outcome). look_with t guess o (calm_reads w.cells p q) ((p, whole_ant, o.cells p) ∷ (q, whole_ant, o.cells q) ∷ [])) calm-outcome
          ∙ ap₂ made (stepped-from sheet w.cells p ant q there.next other-there) (stepped-to sheet w.cells p ant q there.next ∙ ap (λ n. with_ant (w.cells q) (arrived sheet ant n)) there.is_next)

-- what an ant that goes reads but of the killed, each position once
pub calm-once : (cells : Cells) (p q : Pos) → EachOnce (seen_positions (calm_reads cells p q))
calm-once cells p q =
    apart-once (calm_reads cells p q) (all_sighted-apart ((p, whole_ant, cells p) ∷ []) (sightings_of cells (only part.Who) (seen_from cells p q)) (tt, tt))

-- the cell that an ant that stays reads is inside
pub read_at-inside : {width height : ℕ} (p : Pos) (ant : Ant) (instruction : Instr) → IsInner width height p → IsInside width height (read_at p ant instruction)
read_at-inside p ant (Sense sight met unmet condition) inner = sensed_pos_inside ant.facing sight inner
read_at-inside p ant (Move met unmet) inner = adjacent_pos_inside ant.facing inner
read_at-inside p ant it inner = inner_inside inner
