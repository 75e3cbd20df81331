-- What turns and rounds keep, one after another.
use Rattle.std.proofs.Common.{◌≡◌, ℕ, zero, suc, ◌+◌, ◌*◌, ◌≤◌, refl, sym, ◌∙◌, ap, ap₂, subst, arith, add-zero, add-one}
use Rattle.cell_world.specs.Cell.{one_if}
use Rattle.cell_world.specs.Valid.{Valid}
use Rattle.cell_world.proofs.GridSums.{one_if-le_one}
use Rattle.ant_turn.specs.Keeps.{Keeps}
use Rattle.ant_turn.specs.Minds.{Minds, Fits, AreSound}
use Rattle.ant_turn.specs.Rounds.{Moment, after_turn, after_turns, after_round, after_rounds}
use Rattle.ant_turn.specs.Turn.{turn}
use Rattle.ant_turn.proofs.KeepsLemmas.{Keeps-self, Keeps-then}
use Rattle.ant_turn.proofs.KeptByTurns.{Keeps-turn}

-- what one turn keeps
pub Keeps-after_turn : (minds : Minds) (seed : ℕ) (m : Moment) (t : ℕ) → AreSound minds → Valid m.world → Fits m.world minds → Keeps minds m.world (after_turn minds seed m t).world
unfolding after_turn
Keeps-after_turn minds seed m t sound valid fits = Keeps-turn minds seed m.world m.place t sound valid fits

-- what turns keep
pub Keeps-after_turns : (minds : Minds) (seed : ℕ) (m : Moment) (from n : ℕ) → AreSound minds → Valid m.world → Fits m.world minds → Keeps minds m.world (after_turns minds seed m from n).world
Keeps-after_turns minds seed m from zero sound valid fits = Keeps-self minds m.world valid fits
Keeps-after_turns minds seed m from (suc n) sound valid fits =
    let before : Keeps minds m.world (after_turns minds seed m from n).world = Keeps-after_turns minds seed m from n sound valid fits in
    Keeps-then before (Keeps-after_turn minds seed (after_turns minds seed m from n) (from + n) sound before.valid before.fits)

-- what a round keeps
pub Keeps-after_round : (minds : Minds) (seed : ℕ) (m : Moment) → AreSound minds → Valid m.world → Fits m.world minds → Keeps minds m.world (after_round minds seed m).world
unfolding after_round
Keeps-after_round minds seed m sound valid fits = Keeps-after_turns minds seed m 0 m.world.ids sound valid fits

-- what rounds keep
pub Keeps-after_rounds : (minds : Minds) (seed : ℕ) (m : Moment) (r : ℕ) → AreSound minds → Valid m.world → Fits m.world minds → Keeps minds m.world (after_rounds minds seed m r).world
Keeps-after_rounds minds seed m zero sound valid fits = Keeps-self minds m.world valid fits
Keeps-after_rounds minds seed m (suc r) sound valid fits =
    let before : Keeps minds m.world (after_rounds minds seed m r).world = Keeps-after_rounds minds seed m r sound valid fits in
    Keeps-then before (Keeps-after_round minds seed (after_rounds minds seed m r) sound before.valid before.fits)

-- a place that lies from one place on, so many numbers at most
pub record IsWithin (place most now : ℕ) : Type 0 where
  pub from : place ≤ now
  pub to : now ≤ place + most

-- a turn uses at most one number
pub after_turn-place : (minds : Minds) (seed : ℕ) (m : Moment) (t : ℕ) → IsWithin m.place 1 (after_turn minds seed m t).place
unfolding after_turn
after_turn-place minds seed m t =
    let small : one_if (turn minds seed m.world m.place t).drew ≤ 1 = one_if-le_one (turn minds seed m.world m.place t).drew in
    record { from = omega arith; to = omega arith }

-- turns use at most one number each
pub after_turns-place : (minds : Minds) (seed : ℕ) (m : Moment) (from n : ℕ) → IsWithin m.place n (after_turns minds seed m from n).place
after_turns-place minds seed m from zero = record { from = omega arith; to = omega arith }
after_turns-place minds seed m from (suc n) =
    let before : IsWithin m.place n (after_turns minds seed m from n).place = after_turns-place minds seed m from n in
    let last : IsWithin (after_turns minds seed m from n).place 1 (after_turn minds seed (after_turns minds seed m from n) (from + n)).place = after_turn-place minds seed (after_turns minds seed m from n) (from + n) in
    let a = before.from in
    let b = before.to in
    let c = last.from in
    let d = last.to in
    record { from = omega arith; to = omega arith }

-- a round uses at most one number for each id
pub after_round-place : (minds : Minds) (seed : ℕ) (m : Moment) → IsWithin m.place m.world.ids (after_round minds seed m).place
unfolding after_round
after_round-place minds seed m = after_turns-place minds seed m 0 m.world.ids

-- turns make no id
pub after_turns-ids : (minds : Minds) (seed : ℕ) (m : Moment) (from n : ℕ) → (after_turns minds seed m from n).world.ids ≡ m.world.ids
unfolding after_turn
after_turns-ids minds seed m from zero = refl
after_turns-ids minds seed m from (suc n) = after_turns-ids minds seed m from n

-- rounds make no id
pub after_rounds-ids : (minds : Minds) (seed : ℕ) (m : Moment) (r : ℕ) → (after_rounds minds seed m r).world.ids ≡ m.world.ids
unfolding after_round
after_rounds-ids minds seed m zero = refl
after_rounds-ids minds seed m (suc r) = after_turns-ids minds seed (after_rounds minds seed m r) 0 (after_rounds minds seed m r).world.ids ∙ after_rounds-ids minds seed m r

-- rounds use at most one number for each round and id
pub after_rounds-place : (minds : Minds) (seed : ℕ) (m : Moment) (r : ℕ) → IsWithin m.place (r * m.world.ids) (after_rounds minds seed m r).place
after_rounds-place minds seed m zero = record { from = omega arith; to = grind arith }
after_rounds-place minds seed m (suc r) =
    let earlier : Moment = after_rounds minds seed m r in
    let before : IsWithin m.place (r * m.world.ids) earlier.place = after_rounds-place minds seed m r in
    let last : IsWithin earlier.place m.world.ids (after_round minds seed earlier).place =
    subst (λ ids. IsWithin earlier.place ids (after_round minds seed earlier).place) (after_rounds-ids minds seed m r) (after_round-place minds seed earlier) in
    let a = before.from in
    let b = before.to in
    let c = last.from in
    let d = last.to in
    record { from = omega arith; to = grind arith }

-- one turn more
pub after_turns-more : (minds : Minds) (seed : ℕ) (m : Moment) (from n : ℕ) → after_turns minds seed m from (n + 1) ≡ after_turn minds seed (after_turns minds seed m from n) (from + n)
after_turns-more minds seed m from n = ap (after_turns minds seed m from) (add-one n)

-- one round more
pub after_rounds-more : (minds : Minds) (seed : ℕ) (m : Moment) (r : ℕ) → after_rounds minds seed m (r + 1) ≡ after_round minds seed (after_rounds minds seed m r)
after_rounds-more minds seed m r = ap (after_rounds minds seed m) (add-one r)

-- some turns and then the next ones
pub after_turns-then : (minds : Minds) (seed : ℕ) (m : Moment) (from n k : ℕ) → after_turns minds seed (after_turns minds seed m from n) (from + n) k ≡ after_turns minds seed m from (n + k)
after_turns-then minds seed m from n zero = ap (after_turns minds seed m from) (sym (add-zero n))
after_turns-then minds seed m from n (suc k) =
    let last : from + n + k ≡ from + (n + k) = omega arith in
    let all : suc (n + k) ≡ n + suc k = omega arith in
    ap₂ (after_turn minds seed) (after_turns-then minds seed m from n k) last ∙ ap (after_turns minds seed m from) all

-- some rounds and then more
pub after_rounds-then : (minds : Minds) (seed : ℕ) (m : Moment) (r k : ℕ) → after_rounds minds seed (after_rounds minds seed m r) k ≡ after_rounds minds seed m (r + k)
after_rounds-then minds seed m r zero = ap (after_rounds minds seed m) (sym (add-zero r))
after_rounds-then minds seed m r (suc k) =
    let all : suc (r + k) ≡ r + suc k = omega arith in
    ap (after_round minds seed) (after_rounds-then minds seed m r k) ∙ ap (after_rounds minds seed m) all
