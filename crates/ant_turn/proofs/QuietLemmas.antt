-- What turns leave as it is.
use Rattle.std.proofs.Common.{◌≡◌, ◌≢◌, inl, inr, ℕ, suc, ◌+◌, true, false, List, [], ◌∷◌, Some, None, refl, sym, ◌∙◌, ap, subst, arith, add-zero}
use Rattle.std.specs.List.{Contains}
use Rattle.std.proofs.lemmas.Bool.{both_ways}
use Rattle.std.proofs.lemmas.List.Elements.{Contains-append_left, Contains-append_right}
use Rattle.hex_geometry.specs.declared.position.Pos.{Pos}
use Rattle.hex_geometry.specs.Neighbourhood.{adjacent_pos, neighbours_of}
use Rattle.cell_world.specs.declared.ant.Ant.{Ant}
use Rattle.cell_world.specs.declared.cell.Cell.{Cell}
use Rattle.cell_world.specs.Cell.{holds_id}
use Rattle.cell_world.specs.World.{Cells, World, place_in, put, put_cell}
use Rattle.cell_world.proofs.Places.{holds_id-own}
use Rattle.cell_world.proofs.Puts.{cases_pos, put_cell-other, put_cell-same}
use Rattle.brain_read.specs.declared.instr.Instr.{Instr}
use Rattle.ant_turn.specs.FoodLaws.{killed_in}
use Rattle.ant_turn.specs.Kills.{after_kill, check_all, check_at, killed_all, killed_at, places_around}
use Rattle.ant_turn.specs.Minds.{Minds, mind_of}
use Rattle.ant_turn.specs.Rounds.{Moment, after_turn, moment_after}
use Rattle.ant_turn.specs.Sheet.{Sheet}
use Rattle.ant_turn.specs.Turn.{Outcome, acts, arrived, instruction_at, left_by_ant, stepped, turn, with_ant}
use Rattle.ant_turn.proofs.Checks.{check_at-cases}
use Rattle.ant_turn.proofs.KeptByChecks.{check_all-ant}
use Rattle.ant_turn.proofs.KeptByTurns.{free_apart}
use Rattle.ant_turn.proofs.TurnParts.{Does, acts_parts}
use Rattle.ant_turn.proofs.Turns.{turn-acts, turn-dead, turn-rests}

-- the turn of a dead ant changes nothing
pub after_turn-dead : (minds : Minds) (seed : ℕ) (m : Moment) (t : ℕ) → place_in m.world t ≡ None → after_turn minds seed m t ≡ m
unfolding after_turn
after_turn-dead minds seed m t dead = ap (moment_after m) (turn-dead minds seed m.world m.place t dead) ∙ ap (λ n. record m { place = n }) (add-zero m.place)

-- the turn of an ant that rests
pub after_turn-rests : (minds : Minds) (seed : ℕ) (m : Moment) (t : ℕ) (p : Pos) (ant : Ant) (left : ℕ) → place_in m.world t ≡ Some p → (m.world.cells p).ant ≡ Some ant → ant.resting ≡ left + 1 →
    after_turn minds seed m t ≡ record m { world = put m.world p (with_ant (m.world.cells p) (record ant { resting = left })) }
unfolding after_turn
after_turn-rests minds seed m t p ant left found is tired =
    ap (moment_after m) (turn-rests minds seed m.world m.place t p ant left found is tired)
    ∙ ap (λ n. record { world = put m.world p (with_ant (m.world.cells p) (record ant { resting = left })); place = n }) (add-zero m.place)

-- a position that isn't one of a list's isn't its first
not_first : (p : Pos) (places : List Pos) (q : Pos) → (Contains (p ∷ places) q → ⊥) → p ≢ q
not_first p places q away same = away (0, omega arith, same)

-- nor one of the others
not_later : (p : Pos) (places : List Pos) (q : Pos) → (Contains (p ∷ places) q → ⊥) → Contains places q → ⊥
not_later p places q away found = away (suc found.0, omega (arith, found.1), found.2)

-- a check changes no other cell
pub check_at-elsewhere : (sheet : Sheet) (cells : Cells) (p q : Pos) → p ≢ q → check_at sheet cells p q ≡ cells q
check_at-elsewhere sheet cells p q apart =
    check_at-cases sheet cells p (λ now _. now q ≡ cells q) refl (λ _. put_cell-other cells p (after_kill sheet (cells p)) q apart)

-- checks change none but those that are checked
check_all-elsewhere : (sheet : Sheet) (places : List Pos) (cells : Cells) (q : Pos) → (Contains places q → ⊥) → check_all sheet cells places q ≡ cells q
check_all-elsewhere sheet [] cells q away = refl
check_all-elsewhere sheet (p ∷ places) cells q away =
    check_all-elsewhere sheet places (check_at sheet cells p) q (not_later p places q away) ∙ check_at-elsewhere sheet cells p q (not_first p places q away)

-- a step changes none but its two
stepped-elsewhere : (sheet : Sheet) (cells : Cells) (p : Pos) (ant : Ant) (ahead : Pos) (next : ℕ) (q : Pos) → p ≢ q → ahead ≢ q → stepped sheet cells p ant ahead next q ≡ cells q
unfolding stepped
stepped-elsewhere sheet cells p ant ahead next q apart beyond =
    put_cell-other (put_cell cells p (left_by_ant (cells p))) ahead (with_ant (cells ahead) (arrived sheet ant next)) q beyond ∙ put_cell-other cells p (left_by_ant (cells p)) q apart

-- the cell ahead is the first of those that are checked around it
first_around : (ahead q : Pos) → (Contains (places_around ahead) q → ⊥) → ahead ≢ q
unfolding places_around
first_around ahead q away = not_first ahead (neighbours_of ahead) q away

-- an ant that stays or goes changes none but its own cell and those around the one ahead
does-elsewhere : (instruction : Instr) (sheet : Sheet) (cells : Cells) (p : Pos) (ant : Ant) (outcome : Outcome) (q : Pos) → Does instruction sheet cells p ant outcome → p ≢ q → (Contains (places_around (adjacent_pos p ant.facing)) q → ⊥) → outcome.cells q ≡ cells q
does-elsewhere instruction sheet cells p ant outcome q (inl stayed) apart away =
    ap (λ (now : Cells). now q) stayed.cells_after ∙ put_cell-other cells p stayed.new q apart
does-elsewhere instruction sheet cells p ant outcome q (inr went) apart away =
    let ahead : Pos = adjacent_pos p ant.facing in
    ap (λ (o : Outcome). o.cells q) went.is
    ∙ check_all-elsewhere sheet (places_around ahead) (stepped sheet cells p ant ahead went.next) q away
    ∙ stepped-elsewhere sheet cells p ant ahead went.next q apart (first_around ahead q away)

-- a turn changes none but those
pub turn-elsewhere : (minds : Minds) (seed : ℕ) (w : World) (place t : ℕ) (p : Pos) (ant : Ant) (q : Pos) → place_in w t ≡ Some p → (w.cells p).ant ≡ Some ant → q ≢ p → (Contains (places_around (adjacent_pos p ant.facing)) q → ⊥) →
    (turn minds seed w place t).cells q ≡ w.cells q
turn-elsewhere minds seed w place t p ant q found is apart away =
    rw (turn-acts minds seed w place t p ant found is)
    (does-elsewhere (instruction_at (mind_of minds ant.colour) ant.state) minds.sheet w.cells p ant (acts ant.resting minds seed w.cells place p ant) q (acts_parts minds seed w.cells place p ant ant.resting) (λ e. apart (sym e)) away)

-- none of these is at q
abbrev NoneAt : Cells → List ℕ → Pos → Type 0
NoneAt cells killed q = (u : ℕ) → Contains killed u → holds_id u (cells q) ≡ false

-- a check that kills no ant on a cell doesn't change it
check_at-spared_cell : (sheet : Sheet) (cells : Cells) (p q : Pos) → NoneAt cells (killed_at sheet cells p) q → check_at sheet cells p q ≡ cells q
check_at-spared_cell sheet cells p q =
    check_at-cases sheet cells p (λ now killed. NoneAt cells killed q → now q ≡ cells q)
    (λ _. refl)
    (λ it none. elim (cases_pos p q) [
      | inl same ↦
          let there : holds_id it.ant.id (cells q) ≡ true = subst (λ r. holds_id it.ant.id (cells r) ≡ true) same (holds_id-own (cells p) it.ant it.is) in
          absurd (both_ways (holds_id it.ant.id (cells q)) (none it.ant.id (0, omega arith, refl)) there)
      | inr apart ↦ put_cell-other cells p (after_kill sheet (cells p)) q apart
    ])

-- nor do checks
check_all-spared_cell : (sheet : Sheet) (places : List Pos) (cells : Cells) (q : Pos) → NoneAt cells (killed_all sheet cells places) q → check_all sheet cells places q ≡ cells q
check_all-spared_cell sheet [] cells q none = refl
check_all-spared_cell sheet (p ∷ places) cells q none =
    let first : check_at sheet cells p q ≡ cells q =
    check_at-spared_cell sheet cells p q (λ u found. none u (Contains-append_left (killed_at sheet cells p) (killed_all sheet (check_at sheet cells p) places) u found)) in
    check_all-spared_cell sheet places (check_at sheet cells p) q
    (λ u found. ap (holds_id u) first ∙ none u (Contains-append_right (killed_at sheet cells p) (killed_all sheet (check_at sheet cells p) places) u found))
    ∙ first

-- an ant that stays or goes changes none but its own cell, the one ahead and those of the killed
does-spared : (instruction : Instr) (sheet : Sheet) (cells : Cells) (p : Pos) (ant : Ant) (outcome : Outcome) (q : Pos) → Does instruction sheet cells p ant outcome → p ≢ q → adjacent_pos p ant.facing ≢ q → NoneAt cells outcome.killed q → outcome.cells q ≡ cells q
does-spared instruction sheet cells p ant outcome q (inl stayed) apart beyond none =
    ap (λ (now : Cells). now q) stayed.cells_after ∙ put_cell-other cells p stayed.new q apart
does-spared instruction sheet cells p ant outcome q (inr went) apart beyond none =
    let ahead : Pos = adjacent_pos p ant.facing in
    let step : stepped sheet cells p ant ahead went.next q ≡ cells q = stepped-elsewhere sheet cells p ant ahead went.next q apart beyond in
    ap (λ (o : Outcome). o.cells q) went.is
    ∙ check_all-spared_cell sheet (places_around ahead) (stepped sheet cells p ant ahead went.next) q
    (λ u found. ap (holds_id u) step ∙ none u (subst (λ (o : Outcome). Contains o.killed u) (sym went.is) found))
    ∙ step

-- so does a turn
pub turn-spared : (minds : Minds) (seed : ℕ) (w : World) (place t : ℕ) (p : Pos) (ant : Ant) (q : Pos) → place_in w t ≡ Some p → (w.cells p).ant ≡ Some ant → q ≢ p → q ≢ adjacent_pos p ant.facing →
    ((u : ℕ) → Contains (killed_in minds seed w place t) u → holds_id u (w.cells q) ≡ false) → (turn minds seed w place t).cells q ≡ w.cells q
turn-spared minds seed w place t p ant q found is apart beyond =
    subst (λ (o : Outcome). NoneAt w.cells o.killed q → o.cells q ≡ w.cells q) (sym (turn-acts minds seed w place t p ant found is))
    (does-spared (instruction_at (mind_of minds ant.colour) ant.state) minds.sheet w.cells p ant (acts ant.resting minds seed w.cells place p ant) q (acts_parts minds seed w.cells place p ant ant.resting) (λ e. apart (sym e)) (λ e. beyond (sym e)))

-- no ant is on the cell that an ant left
left_empty : (sheet : Sheet) (cells : Cells) (p : Pos) (ant : Ant) (ahead : Pos) (next : ℕ) → p ≢ ahead → (stepped sheet cells p ant ahead next p).ant ≡ None
unfolding stepped
left_empty sheet cells p ant ahead next apart =
    ap (λ (cell : Cell). cell.ant) (put_cell-other (put_cell cells p (left_by_ant (cells p))) ahead (with_ant (cells ahead) (arrived sheet ant next)) p (λ e. apart (sym e)) ∙ put_cell-same cells p (left_by_ant (cells p)))

-- if an ant is left on its own cell, it stayed
does-stayed : (instruction : Instr) (sheet : Sheet) (cells : Cells) (p : Pos) (ant left : Ant) (outcome : Outcome) (q : Pos) → Does instruction sheet cells p ant outcome → (cells p).ant ≡ Some ant → p ≢ q → (outcome.cells p).ant ≡ Some left → outcome.cells q ≡ cells q
does-stayed instruction sheet cells p ant left outcome q (inl stayed) is apart there =
    ap (λ (now : Cells). now q) stayed.cells_after ∙ put_cell-other cells p stayed.new q apart
does-stayed instruction sheet cells p ant left outcome q (inr went) is apart there =
    let ahead : Pos = adjacent_pos p ant.facing in
    let before : (stepped sheet cells p ant ahead went.next p).ant ≡ Some left =
    check_all-ant sheet (places_around ahead) (stepped sheet cells p ant ahead went.next) p left (sym (ap (λ (o : Outcome). (o.cells p).ant) went.is) ∙ there) in
    let both : None ≡ Some left = sym (left_empty sheet cells p ant ahead went.next (free_apart cells p ant ahead is went.free)) ∙ before in
    absurd (cc)

-- then a turn changes no other cell
pub turn-stayed : (minds : Minds) (seed : ℕ) (w : World) (place t : ℕ) (p : Pos) (ant left : Ant) (q : Pos) → place_in w t ≡ Some p → (w.cells p).ant ≡ Some ant → q ≢ p →
    ((turn minds seed w place t).cells p).ant ≡ Some left → (turn minds seed w place t).cells q ≡ w.cells q
turn-stayed minds seed w place t p ant left q found is apart =
    subst (λ (o : Outcome). (o.cells p).ant ≡ Some left → o.cells q ≡ w.cells q) (sym (turn-acts minds seed w place t p ant found is))
    (does-stayed (instruction_at (mind_of minds ant.colour) ant.state) minds.sheet w.cells p ant left (acts ant.resting minds seed w.cells place p ant) q (acts_parts minds seed w.cells place p ant ant.resting) is (λ e. apart (sym e)))
