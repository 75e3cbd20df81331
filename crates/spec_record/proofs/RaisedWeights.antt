-- A turn raises the weight of one cell at most.
use Rattle.std.proofs.Common.{◌≡◌, ◌≢◌, inl, inr, ℕ, ◌≤◌, Option, Some, None, refl, sym, ◌∙◌, ap, subst, arith}
use Rattle.std.proofs.lemmas.Bool.{false≢true}
use Rattle.spec_record.proofs.QuietMoves.{stepped-to}
use Rattle.hex_geometry.specs.declared.position.Pos.{Pos}
use Rattle.hex_geometry.specs.Neighbourhood.{adjacent_pos}
use Rattle.cell_world.specs.declared.ant.Ant.{Ant}
use Rattle.cell_world.specs.declared.cell.Cell.{Cell}
use Rattle.cell_world.specs.Cell.{ant_weight, cell_weight}
use Rattle.cell_world.specs.Inner.Replaces.{Replaces}
use Rattle.cell_world.specs.World.{Cells, World, put_cell}
use Rattle.cell_world.proofs.Puts.{put_cell-other}
use Rattle.cell_world.proofs.ValidLemmas.{put_cell-all}
use Rattle.brain_read.specs.declared.instr.Instr.{Instr}
use Rattle.ant_turn.specs.Kills.{after_kill, check_all, places_around}
use Rattle.ant_turn.specs.Minds.{Minds, mind_of}
use Rattle.ant_turn.specs.Sheet.{Sheet}
use Rattle.ant_turn.specs.Turn.{Outcome, arrived, instruction_at, left_by_ant, stepped, turn, with_ant}
use Rattle.ant_turn.proofs.Corpses.{Replaces-after_kill}
use Rattle.ant_turn.proofs.KeptByChecks.{check_all-cell}
use Rattle.ant_turn.proofs.KeptByTurns.{Replaces-left_by_ant, free_empty}
use Rattle.ant_turn.proofs.OwnCells.{stays_replaces}
use Rattle.ant_turn.proofs.TurnParts.{Does, turn_parts}

-- all cells but one are replaced, and that one too where it is no heavier
pub record RaisesOne (v v' : Cells) : Type 0 where
  pub q : Pos
  pub others : (p : Pos) → p ≢ q → Replaces (v p) (v' p)
  pub own : cell_weight (v' q) ≤ cell_weight (v q) → Replaces (v q) (v' q)

Replaces-self : (cell : Cell) → Replaces cell cell
Replaces-self cell = record { same_kind = refl; same_hill = refl; same_ant = λ t held. held; no_heavier = omega arith }

Replaces-then : {a b c : Cell} → Replaces a b → Replaces b c → Replaces a c
Replaces-then {a} {b} {c} first second = record {
  same_kind = second.same_kind ∙ first.same_kind;
  same_hill = second.same_hill ∙ first.same_hill;
  same_ant = λ t held. first.same_ant t (second.same_ant t held);
  no_heavier = let one : cell_weight b ≤ cell_weight a = first.no_heavier in let two : cell_weight c ≤ cell_weight b = second.no_heavier in omega arith;
}

-- a cell without an ant, if an ant would have been killed
Replaces-spared : (sheet : Sheet) (cell : Cell) → cell.ant ≡ None → Replaces cell (after_kill sheet cell)
unfolding cell_weight
Replaces-spared sheet cell none = record {
  same_kind = refl;
  same_hill = refl;
  same_ant = λ t held. absurd (false≢true held);
  no_heavier = rw none (omega arith);
}

-- a cell where an ant was killed, if there was one
Replaces-killed : (sheet : Sheet) (cell : Cell) → sheet.corpse ≤ 9 → Replaces cell (after_kill sheet cell)
Replaces-killed sheet cell light = go cell.ant refl where
  go : (o : Option Ant) → cell.ant ≡ o → Replaces cell (after_kill sheet cell)
  go None none = Replaces-spared sheet cell none
  go (Some ant) is = Replaces-after_kill sheet cell ant is light

-- after checks of cells of which each was replaced
Replaces-checked : (sheet : Sheet) (v : Cells) (p : Pos) (old : Cell) → sheet.corpse ≤ 9 → (q : Pos) → Replaces old (v p) → Replaces old (check_all sheet v (places_around q) p)
Replaces-checked sheet v p old light q first =
    elim (check_all-cell sheet (places_around q) v p) [
      | inl same ↦ subst (Replaces old) (sym same) first
      | inr killed ↦ subst (Replaces old) (sym killed) (Replaces-then first (Replaces-killed sheet (v p) light))
    ]

-- the cell on which an ant arrives is heavier, but where it is killed there
arrives-heavier : (sheet : Sheet) (cell : Cell) (ant : Ant) (next : ℕ) → cell.ant ≡ None → cell_weight (with_ant cell (arrived sheet ant next)) ≤ cell_weight cell → ⊥
unfolding cell_weight
arrives-heavier sheet cell ant next none light =
    let empty : ant_weight cell.ant ≡ 0 = ap ant_weight none in
    omega (arith, light, empty)

-- if it is killed, no new ant is there
Replaces-perished : (sheet : Sheet) (cell : Cell) (ant : Ant) (next : ℕ) → cell_weight (after_kill sheet (with_ant cell (arrived sheet ant next))) ≤ cell_weight cell → Replaces cell (after_kill sheet (with_ant cell (arrived sheet ant next)))
Replaces-perished sheet cell ant next light = record { same_kind = refl; same_hill = refl; same_ant = λ t held. absurd (false≢true held); no_heavier = light }

-- a step replaces all cells but the one ahead
stepped-others : (sheet : Sheet) (w : World) (p : Pos) (ant : Ant) (ahead : Pos) (next : ℕ) (r : Pos) → r ≢ ahead → Replaces (w.cells r) (stepped sheet w.cells p ant ahead next r)
unfolding stepped
stepped-others sheet w p ant ahead next r apart =
    subst (Replaces (w.cells r)) (sym (put_cell-other (put_cell w.cells p (left_by_ant (w.cells p))) ahead (with_ant (w.cells ahead) (arrived sheet ant next)) r (λ e. apart (sym e))))
    (put_cell-all w p (left_by_ant (w.cells p)) (λ s c. Replaces (w.cells s) c) (Replaces-left_by_ant (w.cells p)) (λ s _. Replaces-self (w.cells s)) r)

does-raises : (sheet : Sheet) (w : World) (p : Pos) (ant : Ant) (instruction : Instr) (outcome : Outcome) → sheet.corpse ≤ 9 → (w.cells p).ant ≡ Some ant → Does instruction sheet w.cells p ant outcome → RaisesOne w.cells outcome.cells
does-raises sheet w p ant instruction outcome light is (inl stayed) =
    let all : (r : Pos) → Replaces (w.cells r) (put_cell w.cells p stayed.new r) = put_cell-all w p stayed.new (λ r c. Replaces (w.cells r) c) (stays_replaces stayed.stays is) (λ r _. Replaces-self (w.cells r)) in
    subst (RaisesOne w.cells) (sym stayed.cells_after) (record { q = p; others = λ r _. all r; own = λ _. all p })
does-raises sheet w p ant instruction outcome light is (inr went) =
    let ahead : Pos = adjacent_pos p ant.facing in
    let there : Cells = stepped sheet w.cells p ant ahead went.next in
    subst (λ (o : Outcome). RaisesOne w.cells o.cells) (sym went.is) (record {
      q = ahead;
      others = λ r apart. Replaces-checked sheet there r (w.cells r) light ahead (stepped-others sheet w p ant ahead went.next r apart);
      own = λ no_more. elim (check_all-cell sheet (places_around ahead) there ahead) [
        | inl same ↦ absurd (arrives-heavier sheet (w.cells ahead) ant went.next (free_empty (w.cells ahead) went.free)
            (subst (λ c. cell_weight c ≤ cell_weight (w.cells ahead)) (same ∙ stepped-to sheet w.cells p ant ahead went.next) no_more))
        | inr killed ↦
            let is_now : check_all sheet there (places_around ahead) ahead ≡ after_kill sheet (with_ant (w.cells ahead) (arrived sheet ant went.next)) = killed ∙ ap (after_kill sheet) (stepped-to sheet w.cells p ant ahead went.next) in
            subst (Replaces (w.cells ahead)) (sym is_now) (Replaces-perished sheet (w.cells ahead) ant went.next (subst (λ c. cell_weight c ≤ cell_weight (w.cells ahead)) is_now no_more))
      ];
    })

-- a turn raises the weight of one cell at most
pub turn-raises : (minds : Minds) (seed : ℕ) (w : World) (place t : ℕ) → minds.sheet.corpse ≤ 9 → RaisesOne w.cells (turn minds seed w place t).cells
turn-raises minds seed w place t light =
    elim (turn_parts minds seed w place t) [
      | inl nothing ↦ subst (λ (o : Outcome). RaisesOne w.cells o.cells) (sym nothing) (record { q = record { x = 0; y = 0 }; others = λ p _. Replaces-self (w.cells p); own = λ _. Replaces-self (w.cells (record { x = 0; y = 0 })) })
      | inr acted ↦ does-raises minds.sheet w acted.p acted.ant (instruction_at (mind_of minds acted.ant.colour) acted.ant.state) (turn minds seed w place t) light acted.is acted.does
    ]
