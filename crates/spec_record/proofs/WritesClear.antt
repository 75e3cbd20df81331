-- A turn writes clear cells alone.
use Rattle.std.proofs.Common.{◌≡◌, inl, inr, ℕ, zero, suc, Bool, true, false, if◌then◌else◌, Option, Some, None, List, [], ◌∷◌, map, refl, sym, ap, subst}
use Rattle.std.specs.List.{AllByRecursion}
use Rattle.std.proofs.lemmas.Bool.{cases_Bool, false≢true}
use Rattle.list_lemmas.proofs.AllElements.{AllByRecursion-append, AllByRecursion-weaker}
use Rattle.hex_geometry.specs.declared.position.Pos.{Pos}
use Rattle.hex_geometry.specs.Neighbourhood.{adjacent_pos}
use Rattle.cell_world.specs.declared.ant.Ant.{Ant}
use Rattle.cell_world.specs.Valid.{Valid}
use Rattle.cell_world.specs.World.{Cells, World, place_in, put}
use Rattle.cell_world.proofs.Places.{ant-clear}
use Rattle.cell_world.proofs.ValidLemmas.{put_cell-all}
use Rattle.brain_read.specs.declared.instr.Instr.{Instr}
use Rattle.brain_read.specs.declared.instr.Instr.TheVariants.{Sense, Mark, Turn, Move, Flip}
use Rattle.ant_turn.specs.Kills.{check_at, is_surrounded, places_around}
use Rattle.ant_turn.specs.Minds.{Minds, mind_of}
use Rattle.ant_turn.specs.Sheet.{Sheet}
use Rattle.ant_turn.specs.Turn.{arrived, has_ant, instruction_at, is_blocked, left_by_ant, stepped, with_ant}
use Rattle.ant_turn.proofs.Checks.{Struck, is_surrounded-true}
use Rattle.ant_turn.proofs.KeptByTurns.{free_clear}
use Rattle.spec_record.specs.Claims.{claim}
use Rattle.spec_record.specs.Reads.{ant_and_food, emptied}
use Rattle.spec_record.specs.Writes.{writes, writes_acting, writes_besides, writes_from, writes_going, writes_of}
use Rattle.spec_record.proofs.CheckSteps.{no_new}
use Rattle.spec_record.proofs.ClaimLemmas.{positions, positions-merged}

-- the cells that checks empty held ants
pub emptied-manned : (sheet : Sheet) (places : List Pos) (v : Cells) → AllByRecursion (λ r. has_ant (v r).ant ≡ true) (emptied sheet v places)
emptied-manned sheet [] v = tt
emptied-manned sheet (x ∷ places) v =
    AllByRecursion-append (λ r. has_ant (v r).ant ≡ true) (if is_surrounded sheet v x then x ∷ [] else []) (emptied sheet (check_at sheet v x) places)
    (elim (cases_Bool (is_surrounded sheet v x)) [
      | inl struck ↦ let it : Struck sheet v x = is_surrounded-true sheet v x struck in rw struck (ap has_ant it.is, tt)
      | inr spared ↦ rw spared tt
    ])
    (AllByRecursion-weaker (λ r. has_ant (check_at sheet v x r).ant ≡ true) (λ r. has_ant (v r).ant ≡ true) (emptied sheet (check_at sheet v x) places) (emptied-manned sheet places (check_at sheet v x)) (λ r. no_new sheet v x r))

-- an ant that may be there
manned-clear : (w : World) (valid : Valid w) (p : Pos) (o : Option Ant) → (w.cells p).ant ≡ o → has_ant o ≡ true → (w.cells p).rocky ≡ false
manned-clear w valid p None is has = absurd (false≢true has)
manned-clear w valid p (Some ant) is has = ant-clear w p ant valid is

-- an ant stands on clear cells alone, also after a step
stepped-clear : (sheet : Sheet) (w : World) (p : Pos) (ant : Ant) (q : Pos) (next : ℕ) → Valid w → is_blocked (w.cells q) ≡ false → (r : Pos) → has_ant (stepped sheet w.cells p ant q next r).ant ≡ true → (w.cells r).rocky ≡ false
unfolding stepped
stepped-clear sheet w p ant q next valid free =
    put_cell-all (put w p (left_by_ant (w.cells p))) q (with_ant (w.cells q) (arrived sheet ant next)) (λ r c. has_ant c.ant ≡ true → (w.cells r).rocky ≡ false)
    (λ _. free_clear (w.cells q) free)
    (λ r _. put_cell-all w p (left_by_ant (w.cells p)) (λ s c. has_ant c.ant ≡ true → (w.cells s).rocky ≡ false) (λ has. absurd (false≢true has)) (λ s _ has. manned-clear w valid s (w.cells s).ant refl has) r)

-- the positions of claims at places
positions-emptied : (places : List Pos) → positions (map (λ r. claim r ant_and_food) places) ≡ places
positions-emptied [] = refl
positions-emptied (p ∷ places) = ap (λ l. p ∷ l) (positions-emptied places)

module _ (w : World) (valid : Valid w) (p : Pos) (ant : Ant) (is : (w.cells p).ant ≡ Some ant) where
  -- the cells of a world are clear at these positions
  abbrev AreClear : List Pos → Type 0
  AreClear places = AllByRecursion (λ q. (w.cells q).rocky ≡ false) places

  here_clear : (w.cells p).rocky ≡ false
  here_clear = ant-clear w p ant valid is

  -- what an ant writes that goes
  going_clear : (sheet : Sheet) (q : Pos) (next : ℕ) → is_blocked (w.cells q) ≡ false → AreClear (positions (writes_going sheet w.cells p ant q next))
  going_clear sheet q next free = (
    here_clear,
    (
      free_clear (w.cells q) free,
      subst AreClear (sym (positions-emptied (emptied sheet (stepped sheet w.cells p ant q next) (places_around q))))
          (AllByRecursion-weaker (λ r. has_ant (stepped sheet w.cells p ant q next r).ant ≡ true) (λ r. (w.cells r).rocky ≡ false) (emptied sheet (stepped sheet w.cells p ant q next) (places_around q)) (emptied-manned sheet (places_around q) (stepped sheet w.cells p ant q next)) (stepped-clear sheet w p ant q next valid free)),
    ),
  )

  move_clear : (sheet : Sheet) (next : ℕ) (blocked : Bool) → is_blocked (w.cells (adjacent_pos p ant.facing)) ≡ blocked → AreClear (positions (if blocked then [] else writes_going sheet w.cells p ant (adjacent_pos p ant.facing) next))
  move_clear sheet next true at = tt
  move_clear sheet next false free = going_clear sheet (adjacent_pos p ant.facing) next free

  -- what it writes by its instruction
  besides_clear : (sheet : Sheet) (instruction : Instr) → AreClear (positions (writes_besides sheet w.cells p ant instruction))
  besides_clear sheet (Sense sight met unmet condition) = tt
  besides_clear sheet (Mark i next) = (here_clear, tt)
  besides_clear sheet (Turn side next) = tt
  besides_clear sheet (Move met unmet) = move_clear sheet met (is_blocked (w.cells (adjacent_pos p ant.facing))) refl
  besides_clear sheet (Flip bound met unmet) = tt
  besides_clear sheet it = (here_clear, tt)

  acting_clear : (minds : Minds) (resting : ℕ) → AreClear (positions (writes_acting resting minds w.cells p ant))
  acting_clear minds zero = besides_clear minds.sheet (instruction_at (mind_of minds ant.colour) ant.state)
  acting_clear minds (suc left) = tt

of_clear : (minds : Minds) (w : World) (p : Pos) (o : Option Ant) → Valid w → (w.cells p).ant ≡ o → AllByRecursion (λ q. (w.cells q).rocky ≡ false) (positions (writes_of minds w.cells p o))
of_clear minds w p None valid is = tt
of_clear minds w p (Some ant) valid is = (here_clear w valid p ant is, acting_clear w valid p ant is minds ant.resting)

from_clear : (minds : Minds) (w : World) (o : Option Pos) → Valid w → AllByRecursion (λ q. (w.cells q).rocky ≡ false) (positions (writes_from minds w.cells o))
from_clear minds w None valid = tt
from_clear minds w (Some p) valid = of_clear minds w p (w.cells p).ant valid refl

-- a turn writes clear cells alone
pub writes-clear : (minds : Minds) (w : World) (t : ℕ) → Valid w → AllByRecursion (λ q. (w.cells q).rocky ≡ false) (positions (writes minds w t))
unfolding writes
writes-clear minds w t valid = positions-merged (λ q. (w.cells q).rocky ≡ false) (writes_from minds w.cells (place_in w t)) (from_clear minds w (place_in w t) valid)
