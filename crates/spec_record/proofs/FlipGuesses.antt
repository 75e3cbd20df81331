-- Which ants flip, and the guesses that follow.
use Rattle.std.proofs.Common.{◌≡◌, ℕ, zero, suc, refl, ◌+◌, ◌-◌, ◌≤◌, false, ◌∷◌, Some, None, sym, ap, ◌∙◌, add-one, arith}
use Rattle.hex_geometry.specs.declared.position.Pos.{Pos}
use Rattle.cell_world.specs.declared.ant.Ant.{Ant}
use Rattle.cell_world.specs.Cell.{one_if}
use Rattle.cell_world.specs.World.{World, place_in}
use Rattle.ant_turn.specs.Minds.{Minds, mind_of}
use Rattle.ant_turn.specs.Turn.{instruction_at}
use Rattle.spec_record.specs.Guess.{ant_flips, flips, flips_among, flips_from, flips_now, guess, guesses_of, is_flip}

-- an ant without a place doesn't flip
pub flips-dead : (minds : Minds) (w : World) (t : ℕ) → place_in w t ≡ None → flips minds w t ≡ false
unfolding flips
flips-dead minds w t dead = ap (flips_from minds w.cells) dead

-- who has one flips where the ant there does
pub flips-at : (minds : Minds) (w : World) (t : ℕ) (p : Pos) → place_in w t ≡ Some p → flips minds w t ≡ ant_flips minds (w.cells p).ant
unfolding flips
flips-at minds w t p found = ap (flips_from minds w.cells) found

-- an ant that rests doesn't
pub flips_now-rests : (n : ℕ) (minds : Minds) (ant : Ant) → 1 ≤ n → flips_now n minds ant ≡ false
flips_now-rests zero minds ant some = absurd (omega arith)
flips_now-rests (suc left) minds ant some = refl

-- one that acts does where its instruction is a Flip
pub flips_now-ready : (n : ℕ) (minds : Minds) (ant : Ant) → n ≡ 0 → flips_now n minds ant ≡ is_flip (instruction_at (mind_of minds ant.colour) ant.state)
flips_now-ready n minds ant ready = ap (λ k. flips_now k minds ant) ready

-- the guess for the first turn
pub guess-first : (minds : Minds) (w : World) (place from : ℕ) → guess minds w place from from ≡ place
unfolding guess
guess-first minds w place from =
    let none : from - from ≡ 0 = omega arith in
    let same = ap (flips_among minds w from) none in
    omega (arith, same)

-- the guess for the next turn is one more where this one flips
pub guess-next : (minds : Minds) (w : World) (place from t : ℕ) → from ≤ t → guess minds w place from (suc t) ≡ guess minds w place from t + one_if (flips minds w t)
unfolding guess
guess-next minds w place from t order =
    let more : suc t - from ≡ suc (t - from) = omega arith in
    let here : from + (t - from) ≡ t = omega arith in
    let count = ap (flips_among minds w from) more in
    let one = ap (λ n. one_if (flips minds w n)) here in
    omega (arith, count, one)

-- the guesses from a turn on: its own, and those from the next on
pub guesses_of-next : (minds : Minds) (w : World) (place from t to : ℕ) → t + 1 ≤ to → guesses_of minds w place from t (to - t) ≡ guess minds w place from t ∷ guesses_of minds w place from (t + 1) (to - (t + 1))
guesses_of-next minds w place from t to more =
    let left : to - t ≡ suc (to - (t + 1)) = omega arith in
    ap (guesses_of minds w place from t) left ∙ ap (λ n. guess minds w place from t ∷ guesses_of minds w place from n (to - (t + 1))) (sym (add-one t))
