-- Games that are printed, world by world.
use Rattle.std.proofs.Common.{◌≡◌, ℕ, suc, ◌+◌, ◌-◌, ◌*◌, ◌<◌, ◌≤◌, Bool, List, [], ◌∷◌, ◌++◌, length, get_or, take, map, All, count_by, cond, append-nil, append_assoc, refl, sym, ◌∙◌, ap, subst, arith}
use Rattle.std.specs.List.{flat_map}
use Rattle.std.proofs.Math.Nat.{mul-le-mul_right, suc-mul}
use Rattle.std.proofs.lemmas.List.{length-map, length-take-le, map-append, take-append-drop, take_more}
use Rattle.std.proofs.lemmas.List.Elements.{All-map}
use Rattle.std.proofs.lemmas.List.Sums.{sum_by-append}
use Rattle.ant_base.specs.Sink.{SinkState, PushedAll, PushedFront}
use Rattle.ant_base.proofs.Pushes.{all_of_nothing, all_then, front_more, front_then}
use Rattle.cell_world.specs.declared.score.Score.{Score}
use Rattle.tournament.specs.declared.games.Played.{Played}
use Rattle.tournament.specs.declared.format.Format.{Format}
use Rattle.tournament.specs.declared.standing.Line.{Line}
use Rattle.ant_base.specs.declared.push_fault.PushFault.{PushFault}
use Rattle.ant_base.specs.declared.push_fault.PushFault.TheVariants.{WriteFault, OutOfMemory}
use Rattle.tournament.specs.Games.{IsGame, all_played, below, games_between, games_of, games_on, played_by, world_played, worlds_played}
use Rattle.tournament.specs.Inner.Worlds.{WorldStops}
use Rattle.tournament.specs.Laws.{GamesAddUp, WorldsInOrder}
use Rattle.tournament.specs.Standing.{Ranks, food_against, food_for, is_won, is_lost, is_drawn, line_of}
use Rattle.tournament.specs.Text.{standing_text}
use Rattle.tournament.specs.Printed.{IsPrintedCupText, PrintedBy, cup_played, first_played, game_line_text, games_text}
use Rattle.tournament.proofs.GamesLemmas.{All-games_between, games_of-between, length-games_between, length-games_of}
use Rattle.tournament.proofs.SortedLines.{has_standing}

-- the scores of the games on some worlds more come last
pub all_played-between : (gauntlet : Bool) (players worlds count : ℕ) (score : ℕ → ℕ → ℕ → Score)
    → all_played gauntlet players (worlds + count) score ≡ all_played gauntlet players worlds score ++ worlds_played gauntlet players worlds count score
all_played-between gauntlet players worlds count score =
    ap (map (played_by score)) (games_of-between gauntlet players worlds count) ∙ map-append (played_by score) (games_of gauntlet players worlds) (games_between gauntlet players worlds count)

-- on no world there is no game
pub all_played-none : (gauntlet : Bool) (players : ℕ) (score : ℕ → ℕ → ℕ → Score) → all_played gauntlet players 0 score ≡ []
unfolding games_of
all_played-none gauntlet players score = refl

-- a cup is short, and so are its games on some worlds
pub length-all_played : (gauntlet : Bool) (players worlds : ℕ) (score : ℕ → ℕ → ℕ → Score) → players ≤ 16 → length (all_played gauntlet players worlds score) ≤ worlds * 512
length-all_played gauntlet players worlds score le = let many = length-map (games_of gauntlet players worlds) (played_by score) in omega (arith, many, length-games_of gauntlet players worlds le)

pub length-worlds_played : (gauntlet : Bool) (players first count : ℕ) (score : ℕ → ℕ → ℕ → Score) → players ≤ 16 → length (worlds_played gauntlet players first count score) ≤ count * 512
length-worlds_played gauntlet players first count score le =
    let many = length-map (games_between gauntlet players first count) (played_by score) in omega (arith, many, length-games_between gauntlet players first count le)

-- each game on some worlds is one of the cup
pub All-worlds_played : (gauntlet : Bool) (players worlds first count : ℕ) (score : ℕ → ℕ → ℕ → Score) → first + count ≤ worlds → All (λ it. IsGame players worlds it.game) (worlds_played gauntlet players first count score)
All-worlds_played gauntlet players worlds first count score within =
    All-map (λ (it : Played). IsGame players worlds it.game) (played_by score) (games_between gauntlet players first count) (All-games_between gauntlet players worlds first count within)

map-worlds : (gauntlet : Bool) (players : ℕ) (score : ℕ → ℕ → ℕ → Score) (worlds : List ℕ)
    → map (played_by score) (flat_map (games_on gauntlet players) worlds) ≡ flat_map (λ world. world_played gauntlet players world score) worlds
map-worlds gauntlet players score [] = refl
map-worlds gauntlet players score (world ∷ worlds) =
    map-append (played_by score) (games_on gauntlet players world) (flat_map (games_on gauntlet players) worlds) ∙ ap (λ games. world_played gauntlet players world score ++ games) (map-worlds gauntlet players score worlds)

pub worlds_in_order : WorldsInOrder
unfolding games_of
worlds_in_order gauntlet players worlds score = map-worlds gauntlet players score (below worlds)

-- counts of games and of more are added up
counted_up : (p : Played → Bool) (games more : List Played) → count_by p (games ++ more) ≡ count_by p games + count_by p more
counted_up p games more = sum_by-append (λ it. cond (p it) 1 0) games more

pub games_added_up : GamesAddUp
unfolding line_of
games_added_up games more p =
    let won = counted_up (is_won p) games more in let drawn = counted_up (is_drawn p) games more in let lost = counted_up (is_lost p) games more in
    let points : 2 * count_by (is_won p) (games ++ more) + count_by (is_drawn p) (games ++ more)
    ≡ (2 * count_by (is_won p) games + count_by (is_drawn p) games) + (2 * count_by (is_won p) more + count_by (is_drawn p) more) = omega (arith, won, drawn) in
    rw (points, won, drawn, lost, sum_by-append (food_for p) games more, sum_by-append (food_against p) games more) refl

-- the games on the first worlds come first
played_front : (gauntlet : Bool) (players printed worlds : ℕ) (score : ℕ → ℕ → ℕ → Score) → printed ≤ worlds → (rest : List Played) × (all_played gauntlet players worlds score ≡ all_played gauntlet players printed score ++ rest)
played_front gauntlet players printed worlds score few =
    let at : worlds ≡ printed + (worlds - printed) = omega arith in
    (worlds_played gauntlet players printed (worlds - printed) score, ap (λ n. all_played gauntlet players n score) at ∙ all_played-between gauntlet players printed (worlds - printed) score)

-- as many worlds with seeds, and those of one world more
pub worlds_more : (world count : ℕ) → (world + 1) * count ≡ world * count + count
worlds_more world count = let next : world + 1 ≡ suc world = omega arith in ap (λ n. n * count) next ∙ suc-mul world count

module _ (format : Format) (worlds players : List (List ℕ)) where
  -- the lines of games and of more
  pub games_text-append : (games more : List Played) (number : ℕ) → games_text format worlds players (games ++ more) number ≡ games_text format worlds players games number ++ games_text format worlds players more (number + length games)
  games_text-append [] more number = let at : number ≡ number + 0 = omega arith in ap (games_text format worlds players more) at
  games_text-append (it ∷ games) more number =
      let at : suc number + length games ≡ number + suc (length games) = omega arith in
      ap (λ text. game_line_text format worlds players number it ++ text) (games_text-append games more (suc number) ∙ ap (λ n. games_text format worlds players games (suc number) ++ games_text format worlds players more n) at)
      ∙ sym (append_assoc (game_line_text format worlds players number it) (games_text format worlds players games (suc number)) (games_text format worlds players more (number + suc (length games))))

  -- the line of one game more comes last
  pub games_text-more : (games : List Played) (i number : ℕ) (d : Played) → i < length games
      → games_text format worlds players (take (i + 1) games) number ≡ games_text format worlds players (take i games) number ++ game_line_text format worlds players (number + i) (get_or games i d)
  games_text-more games i number d early =
      let many = length-take-le i games (omega arith) in
      ap (λ front. games_text format worlds players front number) (take_more games i d early)
      ∙ games_text-append (take i games) (get_or games i d ∷ []) number
      ∙ ap (λ text. games_text format worlds players (take i games) number ++ text) (append-nil (game_line_text format worlds players (number + length (take i games)) (get_or games i d)))
      ∙ ap (λ n. games_text format worlds players (take i games) number ++ game_line_text format worlds players (number + n) (get_or games i d)) many

  -- the lines of the first games are a prefix of those of all
  pub games_text-front : (games : List Played) (i number : ℕ) → (rest : List ℕ) × (games_text format worlds players games number ≡ games_text format worlds players (take i games) number ++ rest)
  games_text-front games i number =
      (games_text format worlds players _ (number + length (take i games)), ap (λ all. games_text format worlds players all number) (sym (take-append-drop i games)) ∙ games_text-append (take i games) _ number)

  module _ (games : List Played) (i first number : ℕ) (d : Played) (old mid new : SinkState) (early : i < length games) (at : number ≡ first + i) (so_far : PushedAll old mid (games_text format worlds players (take i games) first)) where
    -- the line of one game more is pushed
    pub line_pushed : PushedAll mid new (game_line_text format worlds players number (get_or games i d)) → PushedAll old new (games_text format worlds players (take (i + 1) games) first)
    line_pushed more =
        subst (PushedAll old new) (sym (games_text-more games i first d early))
        (all_then old mid new _ _ so_far (subst (λ n. PushedAll mid new (game_line_text format worlds players n (get_or games i d))) at more))

    -- the sink fails in it
    pub line_stopped : PushedFront mid new (game_line_text format worlds players number (get_or games i d)) → PushedFront old new (games_text format worlds players games first)
    line_stopped stopped =
        let rest = games_text-front games (i + 1) first in
        subst (PushedFront old new) (sym rest.1)
        (front_more old new _ rest.0
        (subst (PushedFront old new) (sym (games_text-more games i first d early))
        (front_then old mid new _ _ so_far (subst (λ n. PushedFront mid new (game_line_text format worlds players n (get_or games i d))) at stopped))))

  module _ (score : ℕ → ℕ → ℕ → Score) where
    -- the games on the first worlds
    abbrev first_games : ℕ → List Played
    first_games printed = first_played format players printed score

    -- the games on a world with all seeds
    abbrev here_played : ℕ → List Played
    here_played world = worlds_played format.gauntlet (length players) (world * format.seeds.count) format.seeds.count score

    pub first_games-more : (world : ℕ) → first_games (world + 1) ≡ first_games world ++ here_played world
    first_games-more world =
        ap (λ n. all_played format.gauntlet (length players) n score) (worlds_more world format.seeds.count)
        ∙ all_played-between format.gauntlet (length players) (world * format.seeds.count) format.seeds.count score

    pub first_games-none : first_games 0 ≡ []
    first_games-none =
        let none : 0 * format.seeds.count ≡ 0 = omega arith in
        ap (λ n. all_played format.gauntlet (length players) n score) none ∙ all_played-none format.gauntlet (length players) score

    -- there are fewer than 2^23 of them
    pub length-first_games : (world : ℕ) → length players ≤ 16 → world ≤ 16 → format.seeds.count ≤ 1000 → length (first_games world) ≤ 8192000
    length-first_games world few_players few_worlds few_seeds =
        let slots = mul-le-mul_right {m = world} {n = 16} format.seeds.count few_worlds in
        omega (arith, length-all_played format.gauntlet (length players) (world * format.seeds.count) score few_players)

    -- no line is pushed of no world
    pub nothing_printed : (state : SinkState) → PushedAll state state (games_text format worlds players (first_games 0) 1)
    nothing_printed state = subst (λ (games : List Played). PushedAll state state (games_text format worlds players games 1)) (sym first_games-none) (all_of_nothing state)

    -- the lines of the games on one world more
    more_lines : (world : ℕ) → games_text format worlds players (first_games (world + 1)) 1
        ≡ games_text format worlds players (first_games world) 1 ++ games_text format worlds players (here_played world) (length (first_games world) + 1)
    more_lines world =
        let at : 1 + length (first_games world) ≡ length (first_games world) + 1 = omega arith in
        ap (λ games. games_text format worlds players games 1) (first_games-more world)
        ∙ games_text-append (first_games world) (here_played world) 1
        ∙ ap (λ n. games_text format worlds players (first_games world) 1 ++ games_text format worlds players (here_played world) n) at

    -- the text of a cup begins with the lines of the games on its first worlds, and ends with the standing
    pub printed_text-front : (printed : ℕ) (text : List ℕ) → printed ≤ length worlds → (is_text : IsPrintedCupText format worlds players score text)
        → (rest : List ℕ) × (text ≡ games_text format worlds players (first_games printed) 1 ++ (rest ++ standing_text format.leads players is_text.lines))
    printed_text-front printed text few is_text =
        let front = played_front format.gauntlet (length players) (printed * format.seeds.count) (length worlds * format.seeds.count) score (mul-le-mul_right format.seeds.count few) in
        let rest : List ℕ = games_text format worlds players front.0 (1 + length (first_games printed)) in (
          rest,
          is_text.is
              ∙ ap (λ games. games_text format worlds players games 1 ++ standing_text format.leads players is_text.lines) front.1
              ∙ ap (λ text. text ++ standing_text format.leads players is_text.lines) (games_text-append (first_games printed) front.0 1)
              ∙ append_assoc (games_text format worlds players (first_games printed) 1) rest (standing_text format.leads players is_text.lines),
        )

    -- the lines of a world's games are pushed
    pub world_printed : (old mid new : SinkState) (world : ℕ) → PushedAll old mid (games_text format worlds players (first_games world) 1)
        → PushedAll mid new (games_text format worlds players (here_played world) (length (first_games world) + 1))
        → PushedAll old new (games_text format worlds players (first_games (world + 1)) 1)
    world_printed old mid new world so_far more = subst (PushedAll old new) (sym (more_lines world)) (all_then old mid new _ _ so_far more)

    -- they aren't
    pub world_stopped : (old mid new : SinkState) (world : ℕ) (fault : PushFault) → world < length worlds → PushedAll old mid (games_text format worlds players (first_games world) 1)
        → WorldStops mid new (games_text format worlds players (here_played world) (length (first_games world) + 1)) fault
        → PrintedBy old new format worlds players score fault
    world_stopped old mid new world WriteFault early so_far stopped =
        let standing = has_standing format.gauntlet (length players) (length worlds * format.seeds.count) score in
        let text : List ℕ = games_text format worlds players (cup_played format worlds players score) 1 ++ standing_text format.leads players standing.0 in
        let is_text : IsPrintedCupText format worlds players score text = record { lines = standing.0; standing = standing.1; is = refl } in
        let front = printed_text-front (world + 1) text (omega arith) is_text in
        let lines = subst (PushedFront old new) (sym (more_lines world)) (front_then old mid new _ _ so_far stopped) in
        record { text = text; is_text = is_text; pushed = subst (PushedFront old new) (sym front.1) (front_more old new _ (front.0 ++ standing_text format.leads players standing.0) lines) }
    world_stopped old mid new world OutOfMemory early so_far stopped = record {
      printed = world;
      some = omega arith;
      pushed = subst (λ state. PushedAll old state (games_text format worlds players (first_games world) 1)) (sym stopped) so_far;
    }

    -- the whole text of a cup, when the games on all worlds are played
    pub whole_cup : (world : ℕ) → world ≡ length worlds → (count : ℕ) → count ≡ length players → (lines : List Line) → Ranks count (first_games world) lines
        → IsPrintedCupText format worlds players score (games_text format worlds players (first_games world) 1 ++ standing_text format.leads players lines)
    whole_cup world all count named lines ranks = record {
      lines = lines;
      standing = subst (λ n. Ranks n (cup_played format worlds players score) lines) named (subst (λ (it : List Played). Ranks count it lines) (ap first_games all) ranks);
      is = ap (λ n. games_text format worlds players (first_games n) 1 ++ standing_text format.leads players lines) all;
    }
