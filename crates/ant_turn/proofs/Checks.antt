-- What one check does, and what checks of a list of places do.
use Rattle.std.proofs.Common.{inl, inr, Option, ◌≡◌, ℕ, true, false, nat_le, List, [], ◌∷◌, ◌++◌, Some, None, refl, ap, ◌∙◌, append_assoc, append-nil}
use Rattle.std.proofs.lemmas.Bool.{cases_Bool, cond-true, cond-false, false≢true}
use Rattle.hex_geometry.specs.declared.position.Pos.{Pos}
use Rattle.hex_geometry.specs.Neighbourhood.{neighbours_of}
use Rattle.cell_world.specs.declared.ant.Ant.{Ant}
use Rattle.cell_world.specs.declared.ant.PlacedAnt.{PlacedAnt}
use Rattle.cell_world.specs.Colour.{foe_of}
use Rattle.cell_world.specs.World.{Cells, put_cell}
use Rattle.ant_turn.specs.Deaths.{dead_all, dead_around, dead_at, placed, with_noted}
use Rattle.ant_turn.specs.Kills.{ants_among, has_foes, is_surrounded, after_kill, check_at, check_all, id_of, killed_at, killed_all, places_around, check_around_at, killed_around}
use Rattle.ant_turn.specs.Sheet.{Sheet}

-- no ant is surrounded if there is none
pub is_surrounded-none : (sheet : Sheet) (cells : Cells) (p : Pos) → (cells p).ant ≡ None → is_surrounded sheet cells p ≡ false
unfolding is_surrounded
is_surrounded-none sheet cells p is = ap (has_foes sheet cells (neighbours_of p)) is

-- an ant is surrounded where it has foes enough
pub is_surrounded-some : (sheet : Sheet) (cells : Cells) (p : Pos) (ant : Ant) → (cells p).ant ≡ Some ant
    → is_surrounded sheet cells p ≡ nat_le sheet.surround (ants_among cells (foe_of ant.colour) (neighbours_of p))
unfolding is_surrounded
is_surrounded-some sheet cells p ant is = ap (has_foes sheet cells (neighbours_of p)) is

-- the check of a cell without a surrounded ant changes nothing
pub check_at-spared : (sheet : Sheet) (cells : Cells) (p : Pos) → is_surrounded sheet cells p ≡ false → check_at sheet cells p ≡ cells
unfolding check_at
check_at-spared sheet cells p spared = cond-false _ _ _ spared

-- and kills no ant
pub killed_at-spared : (sheet : Sheet) (cells : Cells) (p : Pos) → is_surrounded sheet cells p ≡ false → killed_at sheet cells p ≡ []
unfolding killed_at
killed_at-spared sheet cells p spared = cond-false _ _ _ spared

-- the check of a cell with a surrounded ant leaves its corpse
pub check_at-struck : (sheet : Sheet) (cells : Cells) (p : Pos) → is_surrounded sheet cells p ≡ true → check_at sheet cells p ≡ put_cell cells p (after_kill sheet (cells p))
unfolding check_at
check_at-struck sheet cells p struck = cond-true _ _ _ struck

-- and kills that ant
pub killed_at-struck : (sheet : Sheet) (cells : Cells) (p : Pos) (ant : Ant) → (cells p).ant ≡ Some ant → is_surrounded sheet cells p ≡ true → killed_at sheet cells p ≡ ant.id ∷ []
unfolding killed_at
killed_at-struck sheet cells p ant is struck = cond-true _ _ _ struck ∙ ap id_of is

-- so it is with the ants themselves
pub dead_at-spared : (sheet : Sheet) (cells : Cells) (p : Pos) → is_surrounded sheet cells p ≡ false → dead_at sheet cells p ≡ []
unfolding dead_at
dead_at-spared sheet cells p spared = cond-false _ _ _ spared

pub dead_at-struck : (sheet : Sheet) (cells : Cells) (p : Pos) (ant : Ant) → (cells p).ant ≡ Some ant → is_surrounded sheet cells p ≡ true → dead_at sheet cells p ≡ Some (record { place = p; ant = ant }) ∷ []
unfolding dead_at
dead_at-struck sheet cells p ant is struck = cond-true _ _ _ struck ∙ ap (placed p) is

-- the ant of a cell that is surrounded
pub record Struck (sheet : Sheet) (cells : Cells) (p : Pos) : Type 0 where
  pub ant : Ant
  pub is : (cells p).ant ≡ Some ant
  pub surrounded : is_surrounded sheet cells p ≡ true

-- what has foes is an ant
someone : (sheet : Sheet) (cells : Cells) (places : List Pos) (o : Option Ant) → has_foes sheet cells places o ≡ true → (ant : Ant) × (o ≡ Some ant)
someone sheet cells places None foes = absurd (false≢true foes)
someone sheet cells places (Some ant) foes = (ant, refl)

-- if a cell is surrounded, there is an ant
pub is_surrounded-true : (sheet : Sheet) (cells : Cells) (p : Pos) → is_surrounded sheet cells p ≡ true → Struck sheet cells p
unfolding is_surrounded
is_surrounded-true sheet cells p foes =
    let it : (ant : Ant) × ((cells p).ant ≡ Some ant) = someone sheet cells (neighbours_of p) (cells p).ant foes in
    record { ant = it.0; is = it.1; surrounded = foes }

-- what holds where no ant is killed, and where the ant is killed, holds after a check and of whom it kills
pub check_at-cases : (sheet : Sheet) (cells : Cells) (p : Pos) (P : Cells → List ℕ → Type 0) → P cells [] → ((it : Struck sheet cells p) → P (put_cell cells p (after_kill sheet (cells p))) (it.ant.id ∷ [])) → P (check_at sheet cells p) (killed_at sheet cells p)
check_at-cases sheet cells p P spared struck =
    elim (cases_Bool (is_surrounded sheet cells p)) [
      | inl hit ↦
          let it : Struck sheet cells p = is_surrounded-true sheet cells p hit in
          rw (check_at-struck sheet cells p hit, killed_at-struck sheet cells p it.ant it.is hit) (struck it)
      | inr free ↦ rw (check_at-spared sheet cells p free, killed_at-spared sheet cells p free) spared
    ]

-- the check around a position: the check of its own cell, and then of its neighbours
pub check_around_at-first : (sheet : Sheet) (cells : Cells) (p : Pos) → check_around_at sheet cells p ≡ check_all sheet (check_at sheet cells p) (neighbours_of p)
unfolding places_around
check_around_at-first sheet cells p = refl

-- the killed likewise
pub killed_around-first : (sheet : Sheet) (cells : Cells) (p : Pos) → killed_around sheet cells p ≡ killed_at sheet cells p ++ killed_all sheet (check_at sheet cells p) (neighbours_of p)
unfolding places_around
killed_around-first sheet cells p = refl

pub dead_around-first : (sheet : Sheet) (cells : Cells) (p : Pos) → dead_around sheet cells p ≡ dead_at sheet cells p ++ dead_all sheet (check_at sheet cells p) (neighbours_of p)
unfolding places_around
dead_around-first sheet cells p = refl

-- some and then more are noted
pub noted-more : (noted : Option (List (Option PlacedAnt))) (dead more : List (Option PlacedAnt)) → with_noted more (with_noted dead noted) ≡ with_noted (dead ++ more) noted
noted-more None dead more = refl
noted-more (Some all) dead more = ap Some (append_assoc all dead more)

-- none are noted
pub noted-none : (noted : Option (List (Option PlacedAnt))) → with_noted [] noted ≡ noted
noted-none None = refl
noted-none (Some all) = ap Some (append-nil all)
