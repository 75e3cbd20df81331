-- The lines of an ant, as they are defined and as they are pushed.
use Rattle.std.proofs.Common.{◌≡◌, ℕ, zero, suc, ◌+◌, ◌&&◌, Bool, true, false, cond, List, [], ◌++◌, Option, Some, None, is_some, is_none, codes, refl, ◌∙◌, ap, ap₂, append_assoc, append-nil, add-one, arith}
use Rattle.std.proofs.lemmas.Bool.{cond-true, cond-false}
use Rattle.hex_geometry.specs.declared.position.Pos.{Pos}
use Rattle.ant_base.specs.Layout.{numbered}
use Rattle.ant_base.proofs.Numbered.{numbered-more}
use Rattle.cell_world.specs.World.{World, place_in}
use Rattle.dump_print.proofs.Breaks.{numbered-shift}
use Rattle.dump_print.specs.Texts.{cell_line}
use Rattle.cell_world.specs.Grid.{Grid, world_of}
use Rattle.match_run.specs.Alone.{IsPlayedOn, GameAloneValue}
use Rattle.match_run.proofs.AloneLemmas.{IsPlayedOn-world}
use Rattle.game_reports.specs.Inner.WayWords.{broken_line, told_of, words_of, worlds_from}
use Rattle.game_reports.specs.Trace.{lives_in_first, told_line, way_line, way_text}

-- a line after an LF is the line with its LF after it
feed-line : (round : ℕ) (w : World) (place : Option Pos) → codes "\n" ++ way_line round w place ≡ words_of (told_of w round place) ++ codes "\n"
unfolding cell_line
feed-line round w None = simp append_assoc
feed-line round w (Some p) = simp append_assoc

-- one world more in which the ant lives, or doesn't
pub lives-more : (worlds : ℕ → World) (id n : ℕ) → lives_in_first worlds id n ≡ true → lives_in_first worlds id (n + 1) ≡ is_some (place_in (worlds n) id)
lives-more worlds id n lives = rw add-one (ap (λ b. b && is_some (place_in (worlds n) id)) lives)

-- the text of one line more, if the ant lived before
pub broken-more : (worlds : ℕ → World) (id from n : ℕ) → lives_in_first worlds id n ≡ true
    → numbered (broken_line worlds id from) (n + 1) ≡ numbered (broken_line worlds id from) n ++ words_of (told_of (worlds n) (from + n) (place_in (worlds n) id))
unfolding broken_line
broken-more worlds id from n lives =
    numbered-more (broken_line worlds id from) n
    ∙ ap (λ line. numbered (broken_line worlds id from) n ++ line) (cond-true _ _ _ lives)

-- once it is dead, nothing is reported
pub broken-dead : (worlds : ℕ → World) (id from k more : ℕ) → lives_in_first worlds id k ≡ false → numbered (broken_line worlds id from) (k + more) ≡ numbered (broken_line worlds id from) k
unfolding broken_line numbered
broken-dead worlds id from k more dead = go more
  where
    still : (n : ℕ) → lives_in_first worlds id (k + n) ≡ false
    still zero = ap (lives_in_first worlds id) (let s : k + 0 ≡ k = omega arith in s) ∙ dead
    still (suc n) =
        ap (lives_in_first worlds id) (let s : k + suc n ≡ suc (k + n) = omega arith in s)
        ∙ ap (λ b. b && is_some (place_in (worlds (k + n)) id)) (still n)

    go : (n : ℕ) → numbered (broken_line worlds id from) (k + n) ≡ numbered (broken_line worlds id from) k
    go zero = ap (numbered (broken_line worlds id from)) (let s : k + 0 ≡ k = omega arith in s)
    go (suc n) =
        ap (numbered (broken_line worlds id from)) (let s : k + suc n ≡ (k + n) + 1 = omega arith in s)
        ∙ numbered-more (broken_line worlds id from) (k + n)
        ∙ ap₂ (λ a b. a ++ b) (go n) (cond-false _ _ _ (still n))
        ∙ append-nil (numbered (broken_line worlds id from) k)

-- the lines after an LF are the lines that are pushed, and an LF after them
pub way-shift : (worlds : ℕ → World) (id from n : ℕ) → codes "\n" ++ way_text worlds id from n ≡ numbered (broken_line worlds id from) n ++ codes "\n"
unfolding way_text told_line broken_line
way-shift worlds id from n =
    numbered-shift (codes "\n") (told_line worlds id from) (broken_line worlds id from) n
    (λ i. go (lives_in_first worlds id i) (way_line (from + i) (worlds i) (place_in (worlds i) id)) (words_of (told_of (worlds i) (from + i) (place_in (worlds i) id))) (feed-line (from + i) (worlds i) (place_in (worlds i) id)))
  where
    go : (b : Bool) (line words : List ℕ) → codes "\n" ++ line ≡ words ++ codes "\n" → codes "\n" ++ cond b line [] ≡ cond b words [] ++ codes "\n"
    go true line words same = same
    go false line words same = refl

-- it is the last line exactly if the ant is dead
pub last-dead : (w : World) (round : ℕ) (place : Option Pos) → is_none (told_of w round place).cell ≡ true → is_some place ≡ false
last-dead w round None last = refl
last-dead w round (Some p) last = absurd (cc)

pub not_last-lives : (w : World) (round : ℕ) (place : Option Pos) → is_none (told_of w round place).cell ≡ false → is_some place ≡ true
not_last-lives w round None more = absurd (cc)
not_last-lives w round (Some p) more = refl

-- the report of a game that was played so far
pub told-played : {first game : GameAloneValue} {k : ℕ} → IsPlayedOn first game k → (id : ℕ) (world : Grid) (done : ℕ) → world ≡ game.world → done ≡ game.done
    → told_of (world_of world) done (place_in (world_of world) id) ≡ told_of (worlds_from first k) (first.done + k) (place_in (worlds_from first k) id)
unfolding worlds_from
told-played {first} {game} {k} played id world done same_world same_done =
    ap₂ (λ (w : World) (round : ℕ). told_of w round (place_in w id)) (ap world_of same_world ∙ IsPlayedOn-world played) (same_done ∙ played.done)
