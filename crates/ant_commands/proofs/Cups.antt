-- A cup can be played with what was read of its files, and the names of its players are different.
use Rattle.std.proofs.Common.{◌≡◌, ◌≢◌, ℕ, zero, suc, ◌+◌, ◌*◌, ◌<◌, ◌≤◌, Bool, true, false, cond, List, [], ◌∷◌, ◌++◌, length, map, take, get_or, refl, sym, ◌∙◌, ap, subst, arith}
use Rattle.std.proofs.lemmas.List.{get_or_default, length-map, map-append, take_more}
use Rattle.std.proofs.Math.ListN.{get_or-map}
use Rattle.std.proofs.Math.Nat.{div-lt_iff_lt-mul}
use Rattle.std.proofs.lemmas.Slice.Eq.{bytes_eq-Decides}
use Rattle.std.specs.List.{AllByRecursion, take-map}
use Rattle.std.specs.Prelude.{String, string_bytes}
use Rattle.std.specs.Str.{bytes_eq}
use Rattle.std.specs.declared.alloc.Global.{Global}
use Rattle.ant_base.specs.Fetched.{Fetched}
use Rattle.ant_turn.specs.Minds.{Fits, contest_minds}
use Rattle.ant_turn.specs.Sheet.{Sheet, contest}
use Rattle.ant_turn.proofs.FitLemmas.{Fits-opening}
use Rattle.brain_read.specs.declared.instr.Instr.{Instr}
use Rattle.brain_read.proofs.SoundnessLemmas.{brain_of}
use Rattle.cell_world.specs.Grid.{Grid, world_of}
use Rattle.cell_world.specs.Score.{score_of}
use Rattle.cell_world.specs.declared.score.Score.{Score}
use Rattle.ant_commands.specs.Setups.{CupWithin}
use Rattle.command_words.specs.Words.{texts}
use Rattle.command_words.specs.Slots.{AllDiffer}
use Rattle.match_run.specs.Run.{most_rounds, world_after}
use Rattle.ant_base.specs.Names.{has_name}
use Rattle.tournament.specs.Names.{with_name}
use Rattle.tournament.specs.Seeds.{seed_at, world_at}
use Rattle.tournament.specs.declared.format.Format.{Format}
use Rattle.tournament.specs.declared.format.Seeds.{Seeds}
use Rattle.far_crew.proofs.JobLemmas.{all_at}
use Rattle.ant_commands.specs.Files.{AreAccepted}
use Rattle.ant_commands.specs.Inner.Cups.{AreReady, CanBePlayed, Opens}
use Rattle.ant_commands.specs.Outputs.{brain_file, cup_contents, cup_files, nowhere, score_between, score_in_cup}

-- What was read of the files of a cup: this many worlds at the start of a game, and this many brains with at least one
-- state.
pub record IsRoster (world_count player_count : ℕ) (worlds : List Grid) (players : List (List Instr)) : Type 0 where
  pub worlds_counted : length worlds ≡ world_count
  pub players_counted : length players ≡ player_count
  pub opened : AllByRecursion Opens worlds
  pub sound : AllByRecursion (λ (player : List Instr). 1 ≤ length player) players

brains_roster : (names : List (List ℕ)) (fetches : List Fetched) (worlds : List Grid) (players : List (List Instr)) → AreAccepted (map brain_file names) fetches (cup_contents worlds players) → IsRoster 0 (length names) worlds players
brains_roster [] fetches [] [] are = record { worlds_counted = refl; players_counted = refl; opened = tt; sound = tt }
brains_roster [] fetches [] (player ∷ players) are = (let never = are.1 in absurd (cc))
brains_roster [] fetches (world ∷ worlds) players are = (let never = are.1 in absurd (cc))
brains_roster (name ∷ names) [] worlds players are = absurd are
brains_roster (name ∷ names) (fetch ∷ fetches) [] [] are = absurd are
brains_roster (name ∷ names) (fetch ∷ fetches) (world ∷ worlds) players are = absurd are.0.reads
brains_roster (name ∷ names) (fetch ∷ fetches) [] (player ∷ players) are =
    let rest = brains_roster names fetches [] players are.1 in
    record {
      worlds_counted = refl;
      players_counted = (let counted = rest.players_counted in omega arith);
      opened = tt;
      sound = ((brain_of are.0.bytes player are.0.reads).some, rest.sound);
    }

roster : (world_names names : List (List ℕ)) (fetches : List Fetched) (worlds : List Grid) (players : List (List Instr)) → AreAccepted (cup_files world_names names) fetches (cup_contents worlds players)
    → IsRoster (length world_names) (length names) worlds players
roster [] names fetches worlds players are = brains_roster names fetches worlds players are
roster (first ∷ world_names) names [] worlds players are = absurd are
roster (first ∷ world_names) names (fetch ∷ fetches) [] [] are = absurd are
roster (first ∷ world_names) names (fetch ∷ fetches) [] (player ∷ players) are = absurd are.0.reads
roster (first ∷ world_names) names (fetch ∷ fetches) (world ∷ worlds) players are =
    let rest = roster world_names names fetches worlds players are.1 in
    record {
      worlds_counted = (let counted = rest.worlds_counted in omega arith);
      players_counted = rest.players_counted;
      opened = (record { kinds = are.0.reads.kinds; opened = are.0.reads.opened }, rest.opened);
      sound = rest.sound;
    }

-- the files of a cup whose words are within their limits were read as what can be played
pub ready : (world_names names : List (List ℕ)) (format : Format) (rounds workers : ℕ) (fetches : List Fetched) (worlds : List Grid) (players : List (List Instr)) → CupWithin world_names names format rounds workers
    → AreAccepted (cup_files world_names names) fetches (cup_contents worlds players) → AreReady worlds players
ready world_names names format rounds workers fetches worlds players within are =
    let is = roster world_names names fetches worlds players are in
    let worlds_are = is.worlds_counted in
    let players_are = is.players_counted in
    let some = within.world_names.enough in
    let few = within.world_names.few in
    let pair = within.brain_names.enough in
    let most = within.brain_names.few in
    record {
      some_worlds = omega arith;
      few_worlds = omega arith;
      some_players = omega arith;
      few_players = omega arith;
      opened = is.opened;
      sound = is.sound;
    }

-- there is a name for each world, and for each player
pub worlds_counted : (world_names names : List (List ℕ)) (fetches : List Fetched) (worlds : List Grid) (players : List (List Instr)) → AreAccepted (cup_files world_names names) fetches (cup_contents worlds players)
    → length worlds ≡ length world_names
worlds_counted world_names names fetches worlds players are = (roster world_names names fetches worlds players are).worlds_counted

pub players_counted : (world_names names : List (List ℕ)) (fetches : List Fetched) (worlds : List Grid) (players : List (List Instr)) → AreAccepted (cup_files world_names names) fetches (cup_contents worlds players)
    → length players ≡ length names
players_counted world_names names fetches worlds players are = (roster world_names names fetches worlds players are).players_counted

fits : (world : Grid) (red black : List Instr) → Opens world → 1 ≤ length red → 1 ≤ length black → Fits (world_of world) (contest_minds red black)
fits world red black opens red_some black_some =
    subst (λ (g : Grid). Fits (world_of g) (contest_minds red black)) (sym opens.opened) (Fits-opening world.width world.height opens.kinds (contest_minds red black) red_some black_some)

playable : (worlds : List Grid) (players : List (List Instr)) (seeds : Seeds) (rounds : ℕ) → AreReady worlds players → 1 ≤ seeds.count → rounds ≤ most_rounds
    → (n red black : ℕ) → world_at seeds n < length worlds → red < length players → black < length players → CanBePlayed worlds players seeds rounds n red black
playable worlds players seeds rounds is some few n red black world_there red_there black_there =
    record {
      some_seeds = some;
      world_there = world_there;
      red_there = red_there;
      black_there = black_there;
      fit = fits (get_or worlds (world_at seeds n) nowhere) (get_or players red []) (get_or players black []) (all_at Opens worlds (world_at seeds n) nowhere is.opened world_there)
          (all_at (λ (player : List Instr). 1 ≤ length player) players red [] is.sound red_there)
          (all_at (λ (player : List Instr). 1 ≤ length player) players black [] is.sound black_there);
      few_rounds = few;
    }

-- each game of a cup can be played
pub all_playable : (worlds others : List Grid) (players same : List (List Instr)) (seeds : Seeds) (rounds world_count player_count : ℕ) → others ≡ worlds → same ≡ players → world_count ≡ length others → player_count ≡ length same
    → AreReady worlds players → 1 ≤ seeds.count → rounds ≤ most_rounds → (n red black : ℕ) → world_at seeds n < world_count → red < player_count → black < player_count → red ≢ black
    → CanBePlayed others same seeds rounds n red black
all_playable worlds others players same seeds rounds world_count player_count worlds_are players_are worlds_counted players_counted is some few n red black world_there red_there black_there differ =
    let worlds_long = ap length worlds_are in
    let players_long = ap length players_are in
    rw (worlds_are, players_are) (playable worlds players seeds rounds is some few n red black (omega arith) (omega arith) (omega arith))

-- a world with a seed is one of the cup's worlds, if its number is below that of all of them
pub world_within : (seeds : Seeds) (n worlds : ℕ) → 1 ≤ seeds.count → n < worlds * seeds.count → world_at seeds n < worlds
world_within seeds n worlds some lt = (div-lt_iff_lt-mul {k = seeds.count} {x = n} {y = worlds} some).1 lt

-- the score of a game on a copy of its world
pub score_in_cup_copy : (worlds : List Grid) (players : List (List Instr)) (seeds : Seeds) (seed rounds n world red black : ℕ) (field any : Grid) (one two : List Instr) (sheet : Sheet)
    → CanBePlayed worlds players seeds rounds n red black → seed ≡ seed_at seeds n → world ≡ world_at seeds n → field ≡ get_or worlds world any → sheet ≡ contest
    → score_of (world_after (record { red = get_or players red one; black = get_or players black two; sheet = sheet }) seed (world_of field) rounds) ≡ score_in_cup worlds players seeds rounds n red black
unfolding score_between
score_in_cup_copy worlds players seeds seed rounds n world red black field any one two sheet can seeded at copied same =
    let score : ℕ → List Instr → List Instr → Sheet → Grid → Score = λ t r b s g. score_of (world_after (record { red = r; black = b; sheet = s }) t (world_of g) rounds) in
    let here : field ≡ get_or worlds (world_at seeds n) nowhere = copied ∙ ap (λ (w : ℕ). get_or worlds w any) at ∙ get_or_default worlds (world_at seeds n) any nowhere can.world_there in
    ap (λ (g : Grid). score seed (get_or players red one) (get_or players black two) sheet g) here
    ∙ ap (λ (t : ℕ). score t (get_or players red one) (get_or players black two) sheet (get_or worlds (world_at seeds n) nowhere)) seeded
    ∙ ap (λ (s : Sheet). score (seed_at seeds n) (get_or players red one) (get_or players black two) s (get_or worlds (world_at seeds n) nowhere)) same
    ∙ ap (λ (r : List Instr). score (seed_at seeds n) r (get_or players black two) contest (get_or worlds (world_at seeds n) nowhere)) (get_or_default players red one [] can.red_there)
    ∙ ap (λ (b : List Instr). score (seed_at seeds n) (get_or players red []) b contest (get_or worlds (world_at seeds n) nowhere)) (get_or_default players black two [] can.black_there)

other_name : (name other : List ℕ) → other ≢ name → bytes_eq name other ≡ false
other_name name other differ = go (bytes_eq name other) refl
  where
    go : (b : Bool) → bytes_eq name other ≡ b → bytes_eq name other ≡ false
    go true e = absurd (differ (sym ((bytes_eq-Decides name other).0 e)))
    go false e = e

-- of different names, none is equal to one before it
not_before : (names : List (List ℕ)) (i : ℕ) (none : List ℕ) → AllDiffer names → i < length names → has_name (take i names) (get_or names i none) ≡ false
not_before [] i none differ below = absurd (omega arith)
not_before (name ∷ names) zero none differ below = refl
not_before (name ∷ names) (suc i) none differ below =
    let within : i < length names = omega arith in
    let here = other_name name (get_or names i none) (all_at (λ (other : List ℕ). other ≢ name) names i none differ.0 within) in
    let later = not_before names i none differ.1 within in
    rw here later

-- of different words one more is named
pub named_more : (words : List (String Global)) (i : ℕ) (word : String Global) (names new : List (List ℕ)) → AllDiffer (texts words) → i < length words → word ≡ get_or words i word → names ≡ texts (take i words)
    → new ≡ with_name names (string_bytes word) → new ≡ texts (take (i + 1) words)
named_more words i word names new differ below is old made =
    let text : get_or (texts words) i (string_bytes word) ≡ string_bytes word = get_or-map string_bytes words i word ∙ ap string_bytes (sym is) in
    let fresh : has_name names (string_bytes word) ≡ false = subst (λ (before : List (List ℕ)). has_name before (string_bytes word) ≡ false) (take-map string_bytes i words ∙ sym old)
    (subst (λ (name : List ℕ). has_name (take i (texts words)) name ≡ false) text (not_before (texts words) i (string_bytes word) differ (rw (length-map words string_bytes) below))) in
    let last : with_name names (string_bytes word) ≡ names ++ string_bytes word ∷ [] = ap (λ (b : Bool). cond b names (names ++ string_bytes word ∷ [])) fresh in
    made ∙ last ∙ ap (λ (before : List (List ℕ)). before ++ string_bytes word ∷ []) old
    ∙ ap (λ (w : String Global). texts (take i words) ++ string_bytes w ∷ []) is
    ∙ sym (ap texts (take_more words i word below) ∙ map-append string_bytes (take i words) (get_or words i word ∷ []))
