-- The ants that are killed, and that no others are.
use Rattle.std.proofs.Common.{◌≡◌, ◌≢◌, inl, inr, ℕ, suc, ◌<◌, ◌≤◌, true, List, [], ◌∷◌, ◌++◌, length, take, slice_index_or, Some, None, refl, sym, ap, ◌∙◌, subst, arith}
use Rattle.std.specs.List.{AllPairs, Contains}
use Rattle.std.proofs.lemmas.List.Elements.{All-contains_itself, Contains-append_cases, Contains-append_left, Contains-append_right}
use Rattle.std.proofs.lemmas.List.Kept.{AllPairs-cons}
use Rattle.std.proofs.lemmas.Bool.{both_ways, false_from_ne_true, true_from_ne_false}
use Rattle.list_lemmas.proofs.Elements.{Contains-none, Contains-one}
use Rattle.hex_geometry.specs.declared.position.Pos.{Pos}
use Rattle.cell_world.specs.Cell.{holds_id}
use Rattle.cell_world.specs.World.{Cells, World, place_in, put_cell, with_cells}
use Rattle.cell_world.specs.Valid.{Valid}
use Rattle.cell_world.proofs.Places.{Holder, is_ant-true, holds_id-own, place_in-nowhere, place_in-none, place_in-found, place_in-put_gone, place_in-put_other}
use Rattle.ant_turn.specs.Kills.{after_kill, check_at, check_all, is_surrounded, killed_at, killed_all}
use Rattle.ant_turn.specs.Sheet.{Sheet}
use Rattle.ant_turn.proofs.Checks.{check_at-cases}
use Rattle.ant_turn.proofs.KeptByChecks.{check_all-holds_id, check_at-Valid}

-- whom a check kills was surrounded there
pub killed_at-surrounded : (sheet : Sheet) (cells : Cells) (p : Pos) (t : ℕ) → Contains (killed_at sheet cells p) t → (is_surrounded sheet cells p ≡ true) × (holds_id t (cells p) ≡ true)
killed_at-surrounded sheet cells p t =
    check_at-cases sheet cells p (λ _ killed. Contains killed t → (is_surrounded sheet cells p ≡ true) × (holds_id t (cells p) ≡ true))
    (λ found. absurd (Contains-none t found))
    (λ it found. (it.surrounded, subst (λ i. holds_id i (cells p) ≡ true) (Contains-one it.ant.id t found) (holds_id-own (cells p) it.ant it.is)))

-- one of the checks of a list of places that finds the ant t surrounded
pub record Kill (sheet : Sheet) (cells : Cells) (places : List Pos) (t : ℕ) : Type 0 where
  pub number : ℕ
  pub place : Pos
  pub early : number < length places
  pub at : slice_index_or places number place ≡ place
  pub surrounded : is_surrounded sheet (check_all sheet cells (take number places)) place ≡ true
  pub holds : holds_id t (check_all sheet cells (take number places) place) ≡ true

-- no ant is killed that isn't surrounded when its cell is checked
pub killed_all-surrounded : (sheet : Sheet) (places : List Pos) (cells : Cells) (t : ℕ) → Contains (killed_all sheet cells places) t → Kill sheet cells places t
killed_all-surrounded sheet [] cells t found = absurd (Contains-none t found)
killed_all-surrounded sheet (p ∷ places) cells t found =
    elim (Contains-append_cases (killed_at sheet cells p) (killed_all sheet (check_at sheet cells p) places) t found) [
      | inl first ↦
          let it = killed_at-surrounded sheet cells p t first in
          record { number = 0; place = p; early = omega arith; at = refl; surrounded = it.0; holds = it.1 }
      | inr later ↦
          let it : Kill sheet (check_at sheet cells p) places t = killed_all-surrounded sheet places (check_at sheet cells p) t later in
          record { number = suc it.number; place = it.place; early = omega (arith, it.early); at = it.at; surrounded = it.surrounded; holds = it.holds }
    ]

-- whom checks kill was there before them
pub killed_all-holds_id : (sheet : Sheet) (places : List Pos) (cells : Cells) (t : ℕ) → Contains (killed_all sheet cells places) t → (q : Pos) × (holds_id t (cells q) ≡ true)
killed_all-holds_id sheet places cells t found =
    let it : Kill sheet cells places t = killed_all-surrounded sheet places cells t found in
    (it.place, true_from_ne_false (holds_id t (cells it.place)) λ free. both_ways (holds_id t (check_all sheet cells (take it.number places) it.place)) (check_all-holds_id sheet (take it.number places) cells t it.place free) it.holds)

-- the killed had a place
pub killed_all-alive : (sheet : Sheet) (places : List Pos) (w : World) (t : ℕ) → Valid w → Contains (killed_all sheet w.cells places) t → (q : Pos) × (place_in w t ≡ Some q)
killed_all-alive sheet places w t valid found =
    let it = killed_all-holds_id sheet places w.cells t found in
    (it.0, place_in-found w t it.0 valid it.1)

-- the dead stay dead
pub check_all-dead : (sheet : Sheet) (places : List Pos) (w : World) (t : ℕ) → Valid w → place_in w t ≡ None → place_in (with_cells w (check_all sheet w.cells places)) t ≡ None
check_all-dead sheet places w t valid dead =
    place_in-nowhere (with_cells w (check_all sheet w.cells places)) t (λ q. check_all-holds_id sheet places w.cells t q (place_in-none w t q valid dead))

-- whom a check kills has no place after it
pub killed_at-gone : (sheet : Sheet) (w : World) (p : Pos) (t : ℕ) → Valid w → Contains (killed_at sheet w.cells p) t → place_in (with_cells w (check_at sheet w.cells p)) t ≡ None
killed_at-gone sheet w p t valid =
    check_at-cases sheet w.cells p (λ now killed. Contains killed t → place_in (with_cells w now) t ≡ None)
    (λ found. absurd (Contains-none t found))
    (λ it found. place_in-put_gone w p (after_kill sheet (w.cells p)) t valid (subst (λ i. holds_id i (w.cells p) ≡ true) (Contains-one it.ant.id t found) (holds_id-own (w.cells p) it.ant it.is)) refl)

-- the killed have none after the checks
pub killed_all-gone : (sheet : Sheet) (places : List Pos) (w : World) (t : ℕ) → sheet.corpse ≤ 9 → Valid w → Contains (killed_all sheet w.cells places) t → place_in (with_cells w (check_all sheet w.cells places)) t ≡ None
killed_all-gone sheet [] w t light valid found = absurd (Contains-none t found)
killed_all-gone sheet (p ∷ places) w t light valid found =
    let next : World = with_cells w (check_at sheet w.cells p) in
    let still : Valid next = check_at-Valid sheet w p light valid in
    elim (Contains-append_cases (killed_at sheet w.cells p) (killed_all sheet next.cells places) t found) [
      | inl first ↦ check_all-dead sheet places next t still (killed_at-gone sheet w p t valid first)
      | inr later ↦ killed_all-gone sheet places next t light still later
    ]

-- who isn't killed by a check stays where it was
pub check_at-place_in : (sheet : Sheet) (w : World) (p : Pos) (t : ℕ) → (Contains (killed_at sheet w.cells p) t → ⊥) → place_in (with_cells w (check_at sheet w.cells p)) t ≡ place_in w t
check_at-place_in sheet w p t =
    check_at-cases sheet w.cells p (λ now killed. (Contains killed t → ⊥) → place_in (with_cells w now) t ≡ place_in w t)
    (λ _. refl)
    (λ it spared. place_in-put_other w p (after_kill sheet (w.cells p)) t (false_from_ne_true (holds_id t (w.cells p)) λ holds.
    let its : Holder t (w.cells p).ant = is_ant-true t (w.cells p).ant holds in
    let one : Some its.ant ≡ Some it.ant = sym its.is ∙ it.is in
    let same : its.ant ≡ it.ant = cc in
    spared (0, omega arith, sym (ap (λ a. a.id) same) ∙ its.id)))

-- who isn't killed by the checks stays where it was
pub check_all-place_in : (sheet : Sheet) (places : List Pos) (w : World) (t : ℕ) → (Contains (killed_all sheet w.cells places) t → ⊥) → place_in (with_cells w (check_all sheet w.cells places)) t ≡ place_in w t
check_all-place_in sheet [] w t spared = refl
check_all-place_in sheet (p ∷ places) w t spared =
    let next : World = with_cells w (check_at sheet w.cells p) in
    check_all-place_in sheet places next t (λ later. spared (Contains-append_right (killed_at sheet w.cells p) (killed_all sheet next.cells places) t later))
    ∙ check_at-place_in sheet w p t (λ first. spared (Contains-append_left (killed_at sheet w.cells p) (killed_all sheet next.cells places) t first))

-- no ant is killed twice
pub killed_all-differ : (sheet : Sheet) (places : List Pos) (w : World) → sheet.corpse ≤ 9 → Valid w → AllPairs ◌≢◌ (killed_all sheet w.cells places)
killed_all-differ sheet [] w light valid = λ i j d lt within. absurd (omega (arith, within))
killed_all-differ sheet (p ∷ places) w light valid =
    let next : World = with_cells w (check_at sheet w.cells p) in
    let still : Valid next = check_at-Valid sheet w p light valid in
    check_at-cases sheet w.cells p
    (λ now killed. AllPairs ◌≢◌ (killed_all sheet now places) → ((u : ℕ) → Contains killed u → Contains (killed_all sheet now places) u → ⊥) → AllPairs ◌≢◌ (killed ++ killed_all sheet now places))
    (λ differ _. differ)
    (λ it differ apart. AllPairs-cons ◌≢◌ it.ant.id (killed_all sheet (put_cell w.cells p (after_kill sheet (w.cells p))) places)
    (λ k d inside same. apart it.ant.id (0, omega arith, refl)
    (subst (Contains (killed_all sheet (put_cell w.cells p (after_kill sheet (w.cells p))) places)) (sym same) (All-contains_itself (killed_all sheet (put_cell w.cells p (after_kill sheet (w.cells p))) places) k d inside))) differ)
    (killed_all-differ sheet places next light still)
    (λ u first later.
    let gone : place_in next u ≡ None = killed_at-gone sheet w p u valid first in
    let there = killed_all-alive sheet places next u still later in
    let both : None ≡ Some there.0 = sym gone ∙ there.1 in cc)
