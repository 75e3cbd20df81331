-- the games on the world are known, and few; their lines follow those of the games before them
use Rattle.std.proofs.Common.{ℕ, ◌+◌, ◌*◌, ◌<◌, ◌≤◌, ◌++◌, List, length, ap, sym, ◌∙◌, arith, subst}
use Rattle.std.proofs.lemmas.List.Elements.{All-same}
use Rattle.std.proofs.Math.Nat.{div-eq_of_lt-le, mul-le-mul_right}
use Rattle.tournament.specs.Games.{IsGame, worlds_played}
use Rattle.tournament.specs.Inner.Tallies.{IsTally}
use Rattle.tournament.specs.Names.{texts_of}
use Rattle.tournament.specs.Printed.{first_played}
use Rattle.tournament.specs.declared.games.Played.{Played}
use Rattle.tournament.proofs.PrintedLemmas.{All-worlds_played, first_games-more, length-first_games, length-worlds_played, worlds_more}
use Rattle.tournament.proofs.games_printed.print_world.Goals as goal

pub play_worlds-requires-clause-known : goal.play_worlds-requires-clause-known
play_worlds-requires-clause-known g c κs within = λ n red black from to red_there black_there apart.
    let seeds = c.args.cup.now.format.seeds.count in
    let below = subst (λ (t : ℕ). n < t) (sym (worlds_more c.args.world seeds)) to in
    c.requires.can.known n red black (div-eq_of_lt-le {k = c.args.world} seeds {m = n} from below) (omega (arith, red_there, c.len-players.ensures)) (omega (arith, black_there, c.len-players.ensures)) apart

pub overflow_add-first : goal.overflow_add-first
overflow_add-first g c =
    let can = c.requires.can in
    let few =
    length-first_games c.args.cup.now.format (texts_of c.args.cup.now.worlds.now) c.args.cup.now.players.now (g.F.Referee.score c.args.cup.now.referee.now) c.args.world can.few_players (omega (arith, can.few_worlds, can.early)) can.few_seeds in
    omega (arith, c.requires.before.count, few)

pub add-requires-clause-few : goal.add-requires-clause-few
add-requires-clause-few g c =
    let can = c.requires.can in let score = g.F.Referee.score c.args.cup.now.referee.now in let format = c.args.cup.now.format in let players = length c.args.cup.now.players.now in
    let few = length-first_games format (texts_of c.args.cup.now.worlds.now) c.args.cup.now.players.now score c.args.world can.few_players (omega (arith, can.few_worlds, can.early)) can.few_seeds in
    let more = length-worlds_played format.gauntlet c.len-players.result (c.args.world * format.seeds.count) format.seeds.count score (omega (arith, c.len-players.ensures, can.few_players)) in
    let played = ap length (c.deref.ensures.value ∙ c.in_ok-games.ensures) in
    omega (arith, c.requires.before.count, few, more, played, can.few_seeds)

pub push_games-requires-clause-named : goal.push_games-requires-clause-named
push_games-requires-clause-named g c =
    let can = c.requires.can in let score = g.F.Referee.score c.args.cup.now.referee.now in let format = c.args.cup.now.format in let players = length c.args.cup.now.players.now in
    let seeds = format.seeds.count in let worlds = length c.args.cup.now.worlds.now in
    let same = c.in_ok-games.ensures ∙ ap (λ (n : ℕ). worlds_played format.gauntlet n (c.args.world * seeds) seeds score) c.len-players.ensures in
    let all : c.args.world * seeds + seeds ≤ worlds * seeds = subst (λ (t : ℕ). t ≤ worlds * seeds) (worlds_more c.args.world seeds) (mul-le-mul_right {m = c.args.world + 1} {n = worlds} seeds (omega (arith, can.early))) in
    All-same (λ (it : Played). IsGame players (worlds * seeds) it.game) _ _ (c.deref-2.ensures.value ∙ same) (All-worlds_played format.gauntlet players (worlds * seeds) (c.args.world * seeds) seeds score all)

pub push_games-requires-clause-few : goal.push_games-requires-clause-few
push_games-requires-clause-few g c =
    let can = c.requires.can in let score = g.F.Referee.score c.args.cup.now.referee.now in let format = c.args.cup.now.format in
    let few = length-first_games format (texts_of c.args.cup.now.worlds.now) c.args.cup.now.players.now score c.args.world can.few_players (omega (arith, can.few_worlds, can.early)) can.few_seeds in
    let more = length-worlds_played format.gauntlet c.len-players.result (c.args.world * format.seeds.count) format.seeds.count score (omega (arith, c.len-players.ensures, can.few_players)) in
    let played = ap length (c.deref-2.ensures.value ∙ c.in_ok-games.ensures) in
    omega (arith, c.requires.before.count, few, more, played, can.few_seeds)

pub returns-clause-played : goal.returns-clause-played
returns-clause-played g c =
    let score = g.F.Referee.score c.args.cup.now.referee.now in let format = c.args.cup.now.format in let players = length c.args.cup.now.players.now in
    let seeds = format.seeds.count in
    let so_far : List Played = first_played format c.args.cup.now.players.now c.args.world score in
    let same = c.deref.ensures.value ∙ c.in_ok-games.ensures ∙ ap (λ (n : ℕ). worlds_played format.gauntlet n (c.args.world * seeds) seeds score) c.len-players.ensures in
    subst (λ (games : List Played). IsTally players games c.add.new.self)
    (ap (λ (more : List Played). so_far ++ more) same ∙ sym (first_games-more format (texts_of c.args.cup.now.worlds.now) c.args.cup.now.players.now score c.args.world))
    (c.in_ok-add.ensures players so_far c.requires.before)
