-- The lines of all players, after some games more.
use Rattle.std.proofs.Common.{◌≡◌, ℕ, suc, ◌+◌, ◌<◌, List, [], ◌∷◌, ◌++◌, length, map, get_or, take, All, refl, sym, ◌∙◌, ap, subst, arith, length-append}
use Rattle.std.proofs.lemmas.List.{map-append, take_more}
use Rattle.std.proofs.lemmas.List.Elements.{All-push, All-same}
use Rattle.tournament.specs.declared.games.Played.{Played}
use Rattle.tournament.specs.declared.standing.Line.{Line}
use Rattle.tournament.specs.declared.tally.Tally.{Tally}
use Rattle.tournament.specs.Games.{below}
use Rattle.tournament.specs.Inner.Tallies.{IsSmall, IsTally, with_games}
use Rattle.tournament.specs.Standing.{line_of}
use Rattle.tournament.proofs.PrintedLemmas.{games_added_up}
use Rattle.tournament.proofs.StandingLemmas.{line_of-player}

-- one line more
pub lines_more : (games : List Played) (player : ℕ) (old new : List Line) (line : Line) → old ≡ map (line_of games) (below player) → line ≡ line_of games player → new ≡ old ++ line ∷ []
    → new ≡ map (line_of games) (below (player + 1))
lines_more games player old new line before is more =
    let next : suc player ≡ player + 1 = omega arith in
    more ∙ ap (λ t. t ++ line ∷ []) before ∙ ap (λ x. map (line_of games) (below player) ++ x ∷ []) is
    ∙ sym (map-append (line_of games) (below player) (player ∷ [])) ∙ ap (λ n. map (line_of games) (below n)) next

-- one line more is small
pub small_more : (games : ℕ) (old new : List Line) (line : Line) → All (IsSmall games) old → IsSmall games line → new ≡ old ++ line ∷ [] → All (IsSmall games) new
small_more games old new line before is more = All-same (IsSmall games) new (old ++ line ∷ []) more (All-push (IsSmall games) old line before is)

-- one line more with the games
pub with_more : (games : List Played) (lines : List Line) (i : ℕ) (d : Line) (old new : List Line) (line : Line) → i < length lines → old ≡ map (with_games games) (take i lines) → line ≡ with_games games (get_or lines i d)
    → new ≡ old ++ line ∷ [] → new ≡ map (with_games games) (take (i + 1) lines)
with_more games lines i d old new line lt before is more =
    more ∙ ap (λ t. t ++ line ∷ []) before ∙ ap (λ x. map (with_games games) (take i lines) ++ x ∷ []) is
    ∙ sym (ap (map (with_games games)) (take_more lines i d lt) ∙ map-append (with_games games) (take i lines) (get_or lines i d ∷ []))

with_each : (games more : List Played) (players : List ℕ) → map (with_games more) (map (line_of games) players) ≡ map (line_of (games ++ more)) players
unfolding line_of
with_each games more [] = refl
with_each games more (p ∷ players) =
    let at = line_of-player games p in
    let here : with_games more (line_of games p) ≡ line_of (games ++ more) p = rw at (sym (games_added_up games more p)) in
    rw here (ap (λ t. line_of (games ++ more) p ∷ t) (with_each games more players))

-- the tally with some games more
pub tally_more : (games : List Played) (old new : Tally) → new.lines.items ≡ map (with_games games) old.lines.items → new.games ≡ old.games + length games → All (IsSmall (old.games + length games)) new.lines.items
    → (players : ℕ) (before : List Played) → IsTally players before old → IsTally players (before ++ games) new
tally_more games old new lines count small players before tally = record {
  lines = lines ∙ ap (map (with_games games)) tally.lines ∙ with_each before games (below players);
  count = (let counted = tally.count in let long = length-append before games in omega arith);
  small = subst (λ n. All (IsSmall n) new.lines.items) (sym count) small;
}
