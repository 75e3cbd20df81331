-- Pieces of a list of games: where they begin, and what they are together.
use Rattle.ant_base.specs.declared.memory.OutOfMemory.{OutOfMemory}
use Rattle.std.proofs.Common.{Result, Ok, Err, Vec, IfOk, OnOk, ◌≡◌, ◌≢◌, ℕ, suc, ◌+◌, ◌-◌, ◌<◌, ◌≤◌, Bool, true, false, List, [], ◌∷◌, ◌++◌, ◌==◌, length, get_or, take, drop, map, All, append-nil, refl, sym, ◌∙◌, ap, arith}
use Rattle.std.proofs.lemmas.Bool.{OnFalse_at}
use Rattle.std.proofs.Math.Dec.{eqb-suc-zero}
use Rattle.std.proofs.Math.Seq.{take-add}
use Rattle.std.proofs.lemmas.List.{append_assoc, map-append, take_more, take_at, drop_at, flat_map_more}
use Rattle.std.proofs.lemmas.List.Elements.{All-take, All-drop, All-same, All-nil, All-cons}
use Rattle.cell_world.specs.declared.score.Score.{Score}
use Rattle.tournament.specs.declared.games.Pairing.{Pairing}
use Rattle.tournament.specs.declared.games.Played.{Played}
use Rattle.tournament.specs.declared.pieces.Piece.{Piece}
use Rattle.tournament.specs.Games.{games_between, played_by}
use Rattle.tournament.specs.Plays.{AreKnown, CanBePlayedBy}
use Rattle.tournament.proofs.GamesLemmas.{known_between, length-games_between}
use Rattle.tournament.specs.Inner.Pieces.{IsPieceReady, IsPieceDone, dealt_games, played_games}

-- one piece more
pub dealt_more : (games old new : List Pairing) (from to : ℕ) → from ≤ to → old ≡ take from games → new ≡ old ++ take (to - from) (drop from games) → new ≡ take to games
dealt_more games old new from to le before more =
    let at : to ≡ from + (to - from) = omega arith in
    more ∙ ap (λ t. t ++ take (to - from) (drop from games)) before ∙ sym (take-add from (to - from) games) ∙ ap (λ n. take n games) (sym at)

-- the games of the pieces and of one more
pub dealt_push : (pieces : List Piece) (piece : Piece) → dealt_games (pieces ++ piece ∷ []) ≡ dealt_games pieces ++ piece.games.items
dealt_push pieces piece = sym (flat_map_more (λ p. p.games.items) [] pieces piece)

-- a list with no game after it
pub nothing_more : {X : Type 0} (xs games : List X) → (length games == 0) ≡ true → xs ≡ xs ++ games
nothing_more xs [] none = sym (append-nil xs)
nothing_more xs (game ∷ games) none = let never = sym none ∙ eqb-suc-zero (length games) in absurd (cc)

-- one game more was played
pub played_push : (score : ℕ → ℕ → ℕ → Score) (games : List Pairing) (i : ℕ) (d : Pairing) (it : Score) (first old new : List Played) → i < length games
    → it ≡ score (get_or games i d).world (get_or games i d).red (get_or games i d).black
    → old ≡ first ++ map (played_by score) (take i games) → new ≡ old ++ (record { game = get_or games i d; score = it }) ∷ []
    → new ≡ first ++ map (played_by score) (take (i + 1) games)
played_push score games i d it first old new lt at before more =
    let front : List Played = map (played_by score) (take i games) in let here : Pairing = get_or games i d in
    more ∙ ap (λ t. t ++ (record { game = here; score = it }) ∷ []) before ∙ append_assoc first front ((record { game = here; score = it }) ∷ [])
    ∙ ap (λ s. first ++ (front ++ (record { game = here; score = s }) ∷ [])) at
    ∙ ap (λ t. first ++ t) (sym (map-append (played_by score) (take i games) (here ∷ [])) ∙ ap (λ t. map (played_by score) t) (sym (take_more games i d lt)))

-- what was played of the first pieces and of one more
pub played_more : (pieces : List Piece) (i : ℕ) (piece : Piece) → i < length pieces → piece ≡ get_or pieces i piece → played_games (take (i + 1) pieces) ≡ played_games (take i pieces) ++ piece.played.items
played_more pieces i piece lt is =
    ap played_games (take_more pieces i piece lt) ∙ sym (flat_map_more (λ p. p.played.items) [] (take i pieces) (get_or pieces i piece)) ∙ ap (λ p. played_games (take i pieces) ++ p.played.items) (sym is)

All-left : (P : Pairing → Type 0) (xs ys : List Pairing) → All P (xs ++ ys) → All P xs
All-left P xs ys all = All-same P xs (take (length xs) (xs ++ ys)) (sym (take_at xs ys (length xs) refl)) (All-take P (length xs) (xs ++ ys) all)

All-right : (P : Pairing → Type 0) (xs ys : List Pairing) → All P (xs ++ ys) → All P ys
All-right P xs ys all = All-same P ys (drop (length xs) (xs ++ ys)) (sym (drop_at xs ys (length xs) refl)) (All-drop P (length xs) (xs ++ ys) all)

-- and those of its pieces
pub ready_by : (knows : ℕ → ℕ → ℕ → Type 0) (pieces : List Piece) → AreKnown knows (dealt_games pieces) → All (λ piece. piece.played.items ≡ []) pieces → All (IsPieceReady knows) pieces
ready_by knows [] known fresh = All-nil (IsPieceReady knows)
ready_by knows (piece ∷ pieces) known fresh =
    let here = All-left (λ game. knows game.world game.red game.black) piece.games.items (dealt_games pieces) known in
    let rest = All-right (λ game. knows game.world game.red game.black) piece.games.items (dealt_games pieces) known in
    All-cons (IsPieceReady knows) piece pieces (record { fresh = fresh 0 piece (omega arith); known = here }) (ready_by knows pieces rest (λ k d lt. fresh (suc k) d (omega arith)))

-- what all pieces played together, if no game was refused
pub done : (score : ℕ → ℕ → ℕ → Score) (old new : List Piece) → length new ≡ length old
    → ((i : ℕ) (d : Piece) → i < length old → IsPieceDone score (get_or old i d) (get_or new i d))
    → All (λ piece. piece.refused ≡ false) new → played_games new ≡ map (played_by score) (dealt_games old)
done score [] [] len each whole = refl
done score (x ∷ xs) (y ∷ ys) len each whole =
    let here : y.played.items ≡ map (played_by score) x.games.items = OnFalse_at (whole 0 y (omega arith)) (each 0 x (omega arith)) in
    let rest = done score xs ys (omega arith) (λ i d lt. each (suc i) d (omega arith)) (λ k d lt. whole (suc k) d (omega arith)) in
    ap (λ t. t ++ played_games ys) here ∙ ap (λ t. map (played_by score) x.games.items ++ t) rest ∙ sym (map-append (played_by score) x.games.items (dealt_games xs))
done score it that len each whole = absurd (omega arith)

-- what was gathered from the pieces is what they played
pub gathered_done : {A : Type 0} (result : Result (Vec Played A) OutOfMemory) (score : ℕ → ℕ → ℕ → Score) (old new : List Piece) → length new ≡ length old
    → ((i : ℕ) (d : Piece) → i < length old → IsPieceDone score (get_or old i d) (get_or new i d))
    → IfOk result (λ played. played.items ≡ played_games new) → OnOk result (All (λ piece. piece.refused ≡ false) new)
    → IfOk result (λ played. played.items ≡ map (played_by score) (dealt_games old))
gathered_done (Ok played) score old new len each is whole = is ∙ done score old new len each whole
gathered_done (Err e) score old new len each is whole = tt

-- the games of a cup on some worlds can be played
pub can_play_between : (knows : ℕ → ℕ → ℕ → Type 0) (gauntlet : Bool) (players first count workers : ℕ) (games : List Pairing) → players ≤ 16 → count ≤ 1024 → 1 ≤ workers → workers ≤ 16
    → games ≡ games_between gauntlet players first count
    → ((world red black : ℕ) → first ≤ world → world < first + count → red < players → black < players → red ≢ black → knows world red black) → CanBePlayedBy workers knows games
can_play_between knows gauntlet players first count workers games few_players few_worlds worker few_workers is known =
    let short = length-games_between gauntlet players first count few_players in let long = ap length is in
    record {
      few = omega arith;
      worker = worker;
      few_workers = few_workers;
      known = All-same (λ (game : Pairing). knows game.world game.red game.black) games (games_between gauntlet players first count) is (known_between knows gauntlet players first count known);
    }
