-- Of whom a turn kills, the line that a deed tells is the one that the definition has.
use Rattle.std.proofs.Common.{◌≡◌, ◌≢◌, inl, inr, ℕ, zero, suc, Bool, true, false, if◌then◌else◌, List, [], ◌∷◌, ◌++◌, Option, Some, None, option_map, nat_eq, refl, sym, ◌∙◌, ap, ap₂, codes, decimal}
use Rattle.std.specs.List.{flat_map}
use Rattle.std.specs.Option.{option_and_then}
use Rattle.std.proofs.lemmas.Bool.{cases_Bool, cond-false, cond-true, eq-eqb, false_from_ne_true, eqb-true}
use Rattle.std.proofs.lemmas.Grind.{flat_map-append}
use Rattle.std.proofs.lemmas.Option.{same_Some}
use Rattle.ant_base.specs.Layout.{◌+++◌}
use Rattle.hex_geometry.specs.declared.position.Pos.{Pos}
use Rattle.hex_geometry.specs.Neighbourhood.{adjacent_pos}
use Rattle.brain_read.specs.declared.instr.Instr.{Instr}
use Rattle.brain_read.specs.declared.instr.Instr.TheVariants.{Sense, Mark, Unmark, PickUp, Drop, Turn, Move, Flip}
use Rattle.cell_world.specs.declared.ant.Ant.{Ant}
use Rattle.cell_world.specs.declared.ant.PlacedAnt.{PlacedAnt}
use Rattle.cell_world.specs.Cell.{holds_id}
use Rattle.cell_world.specs.Valid.{Valid}
use Rattle.cell_world.specs.World.{Cells, World, place_in, put_cell}
use Rattle.cell_world.proofs.Places.{Holder, holds_id-own, place_in-ant, place_in-found}
use Rattle.cell_world.proofs.Puts.{cases_pos, put_cell-other, put_cell-same}
use Rattle.ant_turn.specs.Deaths.{dead_after, dead_all, dead_at, dead_by}
use Rattle.ant_turn.specs.Kills.{check_at, is_surrounded, killed_all, killed_at, places_around}
use Rattle.ant_turn.specs.Minds.{Minds, mind_of}
use Rattle.ant_turn.specs.Sheet.{Sheet}
use Rattle.ant_turn.specs.Turn.{acts, ant_becomes, arrived, checked, execute, in_state, instruction_at, is_blocked, left_by_ant, stepped, with_ant}
use Rattle.ant_turn.proofs.Checks.{Struck, dead_at-spared, dead_at-struck, is_surrounded-true, killed_at-spared, killed_at-struck}
use Rattle.ant_turn.proofs.KeptByChecks.{check_all-ant}
use Rattle.match_run.specs.Seen.{ahead_of, ant_in, death_place}
use Rattle.game_reports.specs.Events.{ant_words, death_words, place_words}
use Rattle.game_reports.specs.Inner.EventWords.{told_death}

-- the ant of an id is known by its place
pub ant_in-at : (w : World) (t : ℕ) (p : Pos) (ant : Ant) → place_in w t ≡ Some p → (w.cells p).ant ≡ Some ant → ant_in w t ≡ Some ant
unfolding ant_in
ant_in-at w t p ant place is = ap (option_and_then (λ q. (w.cells q).ant)) place ∙ is

-- so is the cell ahead of it
ahead_of-at : (w : World) (t : ℕ) (p : Pos) (ant : Ant) → place_in w t ≡ Some p → (w.cells p).ant ≡ Some ant → ahead_of w t ≡ Some (adjacent_pos p ant.facing)
unfolding ahead_of
ahead_of-at w t p ant place is =
    ap (option_and_then (λ q. option_map (λ (a : Ant). adjacent_pos q a.facing) (w.cells q).ant)) place ∙ ap (option_map (λ (a : Ant). adjacent_pos p a.facing)) is

-- one text for the id of each ant that stands on some cells, and one for the ant with its place
module _ (sheet : Sheet) (by_id : ℕ → List ℕ) (by_ant : Option PlacedAnt → List ℕ) where
  abbrev Agree : Cells → Type 0
  Agree cells = (q : Pos) (ant : Ant) → (cells q).ant ≡ Some ant → by_id ant.id ≡ by_ant (Some (record { place = q; ant = ant }))

  -- if they agree, so do the texts of whom one check kills
  check-told : (cells : Cells) (p : Pos) → Agree cells → flat_map by_id (killed_at sheet cells p) ≡ flat_map by_ant (dead_at sheet cells p)
  check-told cells p agree =
      elim (cases_Bool (is_surrounded sheet cells p)) [
        | inl hit ↦
            let it : Struck sheet cells p = is_surrounded-true sheet cells p hit in
            ap (flat_map by_id) (killed_at-struck sheet cells p it.ant it.is hit)
            ∙ ap (λ t. t ++ []) (agree p it.ant it.is)
            ∙ ap (flat_map by_ant) (sym (dead_at-struck sheet cells p it.ant it.is hit))
        | inr free ↦ ap (flat_map by_id) (killed_at-spared sheet cells p free) ∙ ap (flat_map by_ant) (sym (dead_at-spared sheet cells p free))
      ]

  -- and of whom checks kill
  checks-told : (places : List Pos) (cells : Cells) → Agree cells → flat_map by_id (killed_all sheet cells places) ≡ flat_map by_ant (dead_all sheet cells places)
  checks-told [] cells agree = refl
  checks-told (p ∷ places) cells agree =
      let next : Cells = check_at sheet cells p in
      flat_map-append by_id (killed_at sheet cells p) (killed_all sheet next places)
      ∙ ap₂ (λ (front rest : List ℕ). front ++ rest) (check-told cells p agree) (checks-told places next (λ q ant is. agree q ant (check_all-ant sheet (p ∷ []) cells q ant is)))
      ∙ sym (flat_map-append by_ant (dead_at sheet cells p) (dead_all sheet next places))

module _ (minds : Minds) (seed round : ℕ) (w : World) (place t : ℕ) (p : Pos) (ant : Ant) (valid : Valid w) (found : place_in w t ≡ Some p) (is : (w.cells p).ant ≡ Some ant) where
  abbrev by_id : ℕ → List ℕ
  by_id u = codes "\n" ++ death_words round w t u

  own : ant.id ≡ t
  own = let it : Holder t (w.cells p).ant = place_in-ant w t p found in ap (λ (a : Ant). a.id) (same_Some ant it.ant (sym is ∙ it.is)) ∙ it.id

  -- the line of an ant that is known, with the place at which it dies
  line-of : (u : ℕ) (q : Pos) (killed : Ant) → ant_words (ant_in w u) ≡ ant_words (Some killed) → death_place w t u ≡ Some q → by_id u ≡ told_death round ant (Some (record { place = q; ant = killed }))
  unfolding death_words
  line-of u q killed words where_it_dies =
      let line : List ℕ → List ℕ → Option Pos → List ℕ =
      λ a b r. codes "\n" ++ ((codes "round " +++ decimal round +++ codes ", " +++ a +++ codes ": ") +++ b +++ codes " dies on " +++ place_words r) in
      ap (λ a. line (ant_words a) (ant_words (ant_in w u)) (death_place w t u)) (ant_in-at w t p ant found is)
      ∙ ap (λ b. line (ant_words (Some ant)) b (death_place w t u)) words
      ∙ ap (λ r. line (ant_words (Some ant)) (ant_words (Some killed)) r) where_it_dies

  -- after its step ahead each ant dies where it stands
  step-agrees : (next : ℕ) (q : Pos) (killed : Ant) → (stepped minds.sheet w.cells p ant (adjacent_pos p ant.facing) next q).ant ≡ Some killed →
      by_id killed.id ≡ told_death round ant (Some (record { place = q; ant = killed }))
  unfolding stepped death_place
  step-agrees next q killed stands =
      let ahead : Pos = adjacent_pos p ant.facing in
      let left = put_cell w.cells p (left_by_ant (w.cells p)) in
      let new = with_ant (w.cells ahead) (arrived minds.sheet ant next) in
      elim (cases_pos ahead q) [
        | inl one ↦
            let me : arrived minds.sheet ant next ≡ killed = same_Some (arrived minds.sheet ant next) killed (ap (λ c. c.ant) (sym (put_cell-same left ahead new) ∙ ap (put_cell left ahead new) one) ∙ stands) in
            let id : killed.id ≡ t = ap (λ (a : Ant). a.id) (sym me) ∙ own in
            ap by_id id
            ∙ line-of t q killed (ap ant_words (ant_in-at w t p ant found is) ∙ ap (λ (a : Ant). ant_words (Some a)) me)
            (cond-true _ _ _ (eq-eqb t t refl) ∙ ahead_of-at w t p ant found is ∙ ap Some one)
        | inr beyond ↦ elim (cases_pos p q) [
          | inl mine ↦
              let none : None ≡ Some killed = ap (λ c. c.ant) (sym (put_cell-same w.cells p (left_by_ant (w.cells p))) ∙ ap left mine ∙ sym (put_cell-other left ahead new q beyond)) ∙ stands in
              absurd (cc)
          | inr elsewhere ↦
              let there : (w.cells q).ant ≡ Some killed = ap (λ c. c.ant) (sym (put_cell-other left ahead new q beyond ∙ put_cell-other w.cells p (left_by_ant (w.cells p)) q elsewhere)) ∙ stands in
              let holds : holds_id killed.id (w.cells q) ≡ true = holds_id-own (w.cells q) killed there in
              let at : place_in w killed.id ≡ Some q = place_in-found w killed.id q valid holds in
              let apart : killed.id ≢ t = λ same. elsewhere (valid.once t p q (ap (λ u. holds_id u (w.cells p)) (sym own) ∙ holds_id-own (w.cells p) ant is) (ap (λ u. holds_id u (w.cells q)) (sym same) ∙ holds)) in
              line-of killed.id q killed (ap ant_words (ant_in-at w killed.id q killed at there)) (cond-false _ _ _ (false_from_ne_true (nat_eq killed.id t) (λ same. apart (eqb-true killed.id t same))) ∙ at)
        ]
      ]

  move-told : (b : Bool) (met unmet : ℕ) → let ahead = adjacent_pos p ant.facing in
      flat_map by_id (if b then ant_becomes w.cells p (in_state ant unmet) else checked minds.sheet (stepped minds.sheet w.cells p ant ahead met) ahead).killed
      ≡ flat_map (told_death round ant) (if b then [] else dead_all minds.sheet (stepped minds.sheet w.cells p ant ahead met) (places_around ahead))
  move-told true met unmet = refl
  move-told false met unmet =
      let ahead : Pos = adjacent_pos p ant.facing in
      checks-told minds.sheet by_id (told_death round ant) (places_around ahead) (stepped minds.sheet w.cells p ant ahead met) (step-agrees met)

  -- whom an instruction kills
  execute-told : (instruction : Instr) → flat_map by_id (execute minds.sheet seed w.cells place p ant instruction).killed ≡ flat_map (told_death round ant) (dead_by minds.sheet w.cells p ant instruction)
  execute-told (Sense sight met unmet condition) = refl
  execute-told (Mark i next) = refl
  execute-told (Unmark i next) = refl
  execute-told (PickUp met unmet) = refl
  execute-told (Drop next) = refl
  execute-told (Turn side next) = refl
  execute-told (Move met unmet) = move-told (is_blocked (w.cells (adjacent_pos p ant.facing))) met unmet
  execute-told (Flip bound met unmet) = refl

  -- whom a turn kills
  pub acts-told : (resting : ℕ) → flat_map by_id (acts resting minds seed w.cells place p ant).killed ≡ flat_map (told_death round ant) (dead_after resting minds w.cells p ant)
  acts-told zero = execute-told (instruction_at (mind_of minds ant.colour) ant.state)
  acts-told (suc left) = refl
