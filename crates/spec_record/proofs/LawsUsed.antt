-- Each law of looks, used on a field of seven ants: a weaker law would not do.
use Rattle.std.proofs.Common.{◌≡◌, ◌≢◌, ℕ, ◌+◌, ◌≤◌, true, false, List, [], ◌∷◌, length, map, Some, None, refl, sym, subst, arith}
use Rattle.std.specs.Prelude.{AllPairs, option_map}
use Rattle.std.specs.List.{AllByRecursion}
use Rattle.hex_geometry.proofs.Places.{at}
use Rattle.hex_geometry.specs.Position.{same_pos}
use Rattle.hex_geometry.specs.declared.position.Pos.{Pos}
use Rattle.cell_world.specs.declared.ant.Colour.TheVariants.{Red}
use Rattle.cell_world.specs.declared.part.Part.TheVariants as part
use Rattle.cell_world.specs.Cell.{holds_id, rock}
use Rattle.cell_world.specs.Grid.{cell_in}
use Rattle.cell_world.specs.Opening.{floor, hill_cell, opening}
use Rattle.cell_world.specs.Parts.{Agree, only, patched, posture_of, with_part}
use Rattle.cell_world.specs.Valid.{Valid}
use Rattle.cell_world.specs.World.{Cells, World, place_in, put_cell, with_cells}
use Rattle.cell_world.proofs.OpeningValid.{IsWorld-opening}
use Rattle.cell_world.proofs.Plans.{IsPlan-test}
use Rattle.ant_random.specs.Stream.{drawn, random_at, state_at}
use Rattle.ant_turn.specs.Minds.{AreSound, Minds}
use Rattle.ant_turn.specs.Rounds.{Moment, after_round, after_turn}
use Rattle.ant_turn.specs.Turn.{Outcome, turn}
use Rattle.spec_record.specs.Claims.{Claim, Sighting, claim, merged}
use Rattle.spec_record.specs.Guess.{flips}
use Rattle.spec_record.specs.Holds.{Holds, LookHolds}
use Rattle.spec_record.specs.Locality.{GoesOn, IsLater, IsLookedAt, LooksAreMerged, LooksSettle, LooksTell, TurnsAreLocal, TurnsAreLocalAlone, TurnsArePatches, TurnsAreSmall, TurnsDrawAtFlips, TurnsWriteAlone, outcome_by}
use Rattle.spec_record.specs.Look.{LookValue, look_of}
use Rattle.spec_record.specs.Patches.{CanSetWrites, after_heavier, after_lighter, parts_at}
use Rattle.spec_record.specs.Places.{PlacesCountFlips, flips_in_turns}
use Rattle.spec_record.specs.Reads.{reads, who_and_mind}
use Rattle.spec_record.specs.SameLooks.{LooksAgree}
use Rattle.spec_record.specs.Writes.{writes}
use Rattle.spec_record.proofs.LooksWorked.{field, kinds, minds}
use Rattle.spec_record.proofs.SameLooksWorked.{blocked-same, elsewhere, others}

-- three claims, two of them of one position
abbrev three_claims : List Claim
three_claims = claim (at 1 1) (only part.Who) ∷ claim (at 2 1) (only part.Mind) ∷ claim (at 1 1) (only part.Food) ∷ []

pub looks_are_merged_used : LooksAreMerged →
    AllPairs ◌≢◌ (map (λ (c : Claim). c.at) (merged three_claims))
    × (parts_at (merged three_claims) (at 1 1) ≡ with_part (only part.Who) part.Food)
    × (parts_at (merged three_claims) (at 2 1) ≡ only part.Mind)
unfolding same_pos
looks_are_merged_used law = ((law three_claims).0, (law three_claims).1 (at 1 1), (law three_claims).1 (at 2 1))

field_valid : Valid field
field_valid = (IsWorld-opening 7 6 kinds (IsPlan-test 7 6 kinds refl)).valid

-- the look at the red ant of id 4, on (1, 4) and at a Flip, with the guess 1
abbrev flipped : LookValue
flipped = record { turn = 4; guess = 1; drew = true; reads = (at 1 4, who_and_mind, hill_cell Red 4) ∷ []; writes = (at 1 4, only part.Mind, hill_cell Red 4) ∷ []; killed = [] }

look-flipped : look_of minds 12345 field 1 4 ≡ flipped
unfolding look_of turn reads writes merged opening cell_in rock floor place_in put_cell same_pos drawn random_at state_at
look-flipped = refl

-- the reads of its turn
reads-flipped : reads minds field 4 ≡ claim (at 1 4) who_and_mind ∷ []
unfolding reads merged opening cell_in rock floor place_in same_pos
reads-flipped = refl

-- what such a turn comes to in a later world
abbrev Flipped : Cells → Outcome → Type 0
Flipped cells outcome =
    (outcome.drew ≡ true)
    × (outcome.killed ≡ [])
    × (option_map posture_of (outcome.cells (at 1 4)).ant ≡ option_map posture_of (hill_cell Red 4).ant)
    × ((p : Pos) → (outcome.cells p).food ≡ (cells p).food)
    × ((p : Pos) → (outcome.cells p).rocky ≡ (cells p).rocky)
    × ((p : Pos) → (outcome.cells p).hill ≡ (cells p).hill)

flipped_so : (cells : Cells) (outcome : Outcome) → IsLookedAt flipped cells outcome → Flipped cells outcome
flipped_so cells outcome is = (is.drew, is.killed, is.written.0 part.Mind refl, (λ p. is.others p part.Food (λ _. refl, tt)), is.rocks, is.hills)

pub turns_are_local_used : TurnsAreLocal → (now : World) (place : ℕ) → IsLater minds field now → Holds minds field 1 now place 4 → Flipped now.cells (turn minds 12345 now place 4)
turns_are_local_used law now place later holds =
    flipped_so now.cells (turn minds 12345 now place 4) (subst (λ look. IsLookedAt look now.cells (turn minds 12345 now place 4)) look-flipped (law minds 12345 field 1 now place 4 later holds))

-- a world as wide and high as the field, with its rocks and hills, on which the ant is on one cell at most, and where
-- it is unchanged
module _ (now : World) (wide : now.width ≡ 7) (high : now.height ≡ 6) (rocks : (p : Pos) → (now.cells p).rocky ≡ (field.cells p).rocky)
    (hills : (p : Pos) → (now.cells p).hill ≡ (field.cells p).hill) (dead : place_in field 4 ≡ None → place_in now 4 ≡ None)
    (once : (p q : Pos) → holds_id 4 (now.cells p) ≡ true → holds_id 4 (now.cells q) ≡ true → p ≡ q)
    (same : Agree who_and_mind (field.cells (at 1 4)) (now.cells (at 1 4))) where
  goes_on : GoesOn field now 4
  unfolding opening
  goes_on = record { width = wide; height = high; rocks = rocks; hills = hills; dead = dead; once = once }

  still_holds : Holds minds field 1 now 1 4
  still_holds = record {
    unchanged = subst (AllByRecursion (λ (read : Claim). Agree read.parts (field.cells read.at) (now.cells read.at))) (sym reads-flipped) (same, tt);
    guessed = λ _. refl;
  }

  pub turns_are_local_alone_used : TurnsAreLocalAlone → Flipped now.cells (turn minds 12345 now 1 4)
  turns_are_local_alone_used law =
      flipped_so now.cells (turn minds 12345 now 1 4) (subst (λ look. IsLookedAt look now.cells (turn minds 12345 now 1 4)) look-flipped (law minds 12345 field 1 now 1 4 goes_on still_holds))

  -- what the turn sets is what the ant is about
  pub turns_are_patches_used : TurnsArePatches →
      turn minds 12345 now 1 4 ≡ record { cells = put_cell now.cells (at 1 4) (patched (now.cells (at 1 4)) (hill_cell Red 4) (only part.Mind)); drew = true; killed = [] }
  turns_are_patches_used law = subst (λ look. turn minds 12345 now 1 4 ≡ outcome_by look now.cells) look-flipped (law minds 12345 field 1 now 1 4 goes_on still_holds)

  pub looks_tell_used : LooksTell → Agree who_and_mind (hill_cell Red 4) (now.cells (at 1 4)) →
      turn minds 12345 now 1 4 ≡ record { cells = put_cell now.cells (at 1 4) (patched (now.cells (at 1 4)) (hill_cell Red 4) (only part.Mind)); drew = true; killed = [] }
  looks_tell_used law as_seen =
      let holds : LookHolds flipped now.cells 1 = record { unchanged = (as_seen, tt); guessed = λ _. refl } in
      subst (λ look. turn minds 12345 now 1 4 ≡ outcome_by look now.cells) look-flipped
      (law minds 12345 field 1 now 1 4 goes_on (subst (λ look. LookHolds look now.cells 1) (sym look-flipped) holds))

-- and it may be set, with room for one more
pub looks_settle_used : LooksSettle → AreSound minds → (now : World) (place : ℕ) → IsLater minds field now → Holds minds field 1 now place 4 →
    let written : List Sighting = (at 1 4, only part.Mind, hill_cell Red 4) ∷ [] in
    CanSetWrites now 1 written × (after_heavier (after_lighter now written) written ≡ with_cells now (turn minds 12345 now place 4).cells)
looks_settle_used law sound now place later holds =
    subst (λ look. CanSetWrites now 1 look.writes × (after_heavier (after_lighter now look.writes) look.writes ≡ with_cells now (turn minds 12345 now place 4).cells)) look-flipped
    (law minds 12345 field 1 now place 4 1 sound later holds (omega arith))

-- its turn on the field changes no food, no rock and no hill
pub turns_write_alone_used : TurnsWriteAlone →
    ((p : Pos) → ((turn minds 12345 field 0 4).cells p).food ≡ (field.cells p).food)
    × (((turn minds 12345 field 0 4).cells (at 4 2)).rocky ≡ true)
    × (((turn minds 12345 field 0 4).cells (at 1 4)).hill ≡ Some Red)
unfolding writes merged opening cell_in rock floor place_in same_pos
turns_write_alone_used law =
    let alone = law minds 12345 field 0 4 field_valid in
    ((λ p. alone.parts p part.Food (λ _. refl, tt)), alone.rocks (at 4 2), alone.hills (at 1 4))

-- whatever the brains are
pub turns_are_small_used : TurnsAreSmall → (brains : Minds) (t : ℕ) → (length (reads brains field t) ≤ 19) × (length (writes brains field t) ≤ 7)
turns_are_small_used law brains t = law brains field t field_valid

-- the red ant draws, and the black one that goes doesn't
pub turns_draw_at_flips_used : TurnsDrawAtFlips → ((turn minds 12345 field 0 4).drew ≡ true) × ((turn minds 12345 field 0 1).drew ≡ false)
unfolding flips opening cell_in rock floor place_in
turns_draw_at_flips_used law = (law minds 12345 field 0 4, law minds 12345 field 0 1)

-- after its turn the place is one more, and after a round as many more as turns flipped
pub places_count_flips_used : PlacesCountFlips →
    ((after_turn minds 12345 (record { world = field; place = 5 }) 4).place ≡ 6)
    × ((m : Moment) → (after_round minds 12345 m).place ≡ m.place + (0 + flips_in_turns minds 12345 m 0 m.world.ids))
unfolding flips opening cell_in rock floor place_in
places_count_flips_used law = (law.turns minds 12345 (record { world = field; place = 5 }) 4 1, (λ m. law.rounds minds 12345 m 1))

-- a look on a field that is another where the turn doesn't read
pub looks_agree_used : LooksAgree → look_of others 12345 elsewhere 0 0 ≡ look_of minds 12345 field 0 0
looks_agree_used law = law minds others 12345 field elsewhere 0 0 blocked-same
