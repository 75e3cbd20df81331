-- Lists of games, one player, pair or world at a time.
use Rattle.std.proofs.Common.{◌≡◌, ◌≢◌, ℕ, zero, suc, ◌+◌, ◌*◌, ◌<◌, ◌≤◌, ◌==◌, Bool, true, false, nat_lt, List, [], ◌∷◌, ◌++◌, length, get_or, filter, All, refl, sym, ◌∙◌, ap, append-nil, length-append, add-one, subst, arith}
use Rattle.std.specs.List.{flat_map}
use Rattle.std.proofs.lemmas.List.{append_assoc, flat_map_more}
use Rattle.std.proofs.lemmas.List.Elements.{filter-append, All-append, All-filter, All-nil, All-cons, All-push}
use Rattle.std.proofs.lemmas.Bool.{lt-ltb, ltb-true, le-ltb, ne_eqb}
use Rattle.std.proofs.lemmas.List.Sums.{length-filter, count_by-le-length}
use Rattle.std.proofs.Math.Bool.{or-true}
use Rattle.std.proofs.Math.Nat.{suc-mul}
use Rattle.tournament.specs.declared.games.Pairing.{Pairing}
use Rattle.tournament.specs.Games.{IsGame, below, above, both_ways, each_pair_on, games_between, games_with, games_on, games_of, has_first}

-- one number more comes last
pub below-more : (n : ℕ) → below (n + 1) ≡ below n ++ n ∷ []
below-more n = rw add-one refl

-- there are n numbers below n
pub length-below : (n : ℕ) → length (below n) ≡ n
length-below zero = refl
length-below (suc n) = length-append (below n) (n ∷ []) ∙ omega (arith, length-below n)

-- the lists of the numbers up to n, one after another
pub all_more : {A : Type 0} (f : ℕ → List A) (old mid new : List A) (n : ℕ) → mid ≡ old ++ flat_map f (below n) → new ≡ mid ++ f n → new ≡ old ++ flat_map f (below (n + 1))
all_more f old mid new n before more =
    more ∙ ap (λ t. t ++ f n) before ∙ flat_map_more f old (below n) n ∙ ap (λ ns. old ++ flat_map f ns) (sym (below-more n))

none_above : (i n : ℕ) → n ≤ i + 1 → filter (nat_lt i) (below n) ≡ []
none_above i zero le = refl
none_above i (suc n) le =
    let front = none_above i n (omega arith) in
    let last : nat_lt i n ≡ false = le-ltb i n (omega arith) in
    filter-append (nat_lt i) (below n) (n ∷ []) ∙ rw (front, last) refl

-- no number is above i and below i + 1
pub above-none : (i : ℕ) → above i (i + 1) ≡ []
unfolding above
above-none i = none_above i (i + 1) (omega arith)

-- one number more comes last
pub above-more : (i n : ℕ) → i < n → above i (n + 1) ≡ above i n ++ n ∷ []
unfolding above
above-more i n lt =
    let last : nat_lt i n ≡ true = lt-ltb i n lt in
    ap (filter (nat_lt i)) (below-more n) ∙ filter-append (nat_lt i) (below n) (n ∷ []) ∙ rw last refl

-- the first pair's games come first
pub pairs_none : (old : List Pairing) (world i : ℕ) → old ≡ old ++ flat_map (both_ways world i) (above i (i + 1))
pairs_none old world i = sym (ap (λ ns. old ++ flat_map (both_ways world i) ns) (above-none i) ∙ append-nil old)

-- one pair's games more come last
pub pairs_more : (old mid new : List Pairing) (world i j : ℕ) → i < j → mid ≡ old ++ flat_map (both_ways world i) (above i j) → new ≡ mid ++ both_ways world i j → new ≡ old ++ flat_map (both_ways world i) (above i (j + 1))
pairs_more old mid new world i j lt before more =
    more ∙ ap (λ t. t ++ both_ways world i j) before ∙ flat_map_more (both_ways world i) old (above i j) j ∙ ap (λ ns. old ++ flat_map (both_ways world i) ns) (sym (above-more i j lt))

-- when all pairs are there
pub pairs_all : (old new : List Pairing) (players world i j : ℕ) → j ≡ players → new ≡ old ++ flat_map (both_ways world i) (above i j) → new ≡ old ++ games_with players world i
unfolding games_with
pairs_all old new players world i j at before = before ∙ ap (λ n. old ++ flat_map (both_ways world i) (above i n)) at

-- when all players of a world are there
pub players_all : (old new : List Pairing) (players world i : ℕ) → i ≡ players → new ≡ old ++ flat_map (games_with players world) (below i) → new ≡ old ++ each_pair_on players world
unfolding each_pair_on
players_all old new players world i at before = before ∙ ap (λ n. old ++ flat_map (games_with players world) (below n)) at

-- the games on one world more come last
pub between_more : (old mid new : List Pairing) (gauntlet : Bool) (players first k world : ℕ) → world ≡ first + k → mid ≡ games_between gauntlet players first k → new ≡ mid ++ games_on gauntlet players world
    → new ≡ games_between gauntlet players first (k + 1)
between_more old mid new gauntlet players first k world at before more =
    let next : suc k ≡ k + 1 = omega arith in
    more ∙ ap (λ t. t ++ games_on gauntlet players world) before ∙ ap (λ w. games_between gauntlet players first k ++ games_on gauntlet players w) at
    ∙ ap (games_between gauntlet players first) next

-- what holds of each element of each list holds of all together
pub All-flat_map : {X A : Type 0} (P : A → Type 0) (f : X → List A) (Q : X → Type 0) → ((x : X) → Q x → All P (f x)) → (xs : List X) → All Q xs → All P (flat_map f xs)
All-flat_map P f Q each [] all = All-nil P
All-flat_map P f Q each (x ∷ xs) all = All-append P (f x) (flat_map f xs) (each x (all 0 x (omega arith))) (All-flat_map P f Q each xs (λ k d lt. all (suc k) d (omega arith)))

-- each number below n is
pub All-below : (n : ℕ) → All (λ k. k < n) (below n)
All-below zero = All-nil (λ k. k < 0)
All-below (suc n) = All-push (λ k. k < suc n) (below n) n (λ k d lt. let at = All-below n k d lt in omega arith) (omega arith)

above_in_by : (i n m : ℕ) (ns : List ℕ) → m < n → All (λ k. (i < k) × (k < n)) (filter (nat_lt i) ns) → (b : Bool) → nat_lt i m ≡ b → All (λ k. (i < k) × (k < n)) (filter (nat_lt i) (m ∷ ns))
above_in_by i n m ns lt rest true is = rw is (All-cons (λ k. (i < k) × (k < n)) m (filter (nat_lt i) ns) (ltb-true i m is, lt) rest)
above_in_by i n m ns lt rest false is = rw is rest

above_in : (i n : ℕ) → (ns : List ℕ) → All (λ k. k < n) ns → All (λ k. (i < k) × (k < n)) (filter (nat_lt i) ns)
above_in i n [] all = All-nil (λ k. (i < k) × (k < n))
above_in i n (m ∷ ns) all = above_in_by i n m ns (all 0 m (omega arith)) (above_in i n ns (λ k d lt. all (suc k) d (omega arith))) (nat_lt i m) refl

-- each number above i and below n is
pub All-above : (i n : ℕ) → All (λ k. (i < k) × (k < n)) (above i n)
unfolding above
All-above i n = above_in i n (below n) (All-below n)

less_apart : (i j : ℕ) → i < j → i ≢ j
less_apart i j lt = λ (e : i ≡ j). absurd (omega arith)

more_apart : (i j : ℕ) → i < j → j ≢ i
more_apart i j lt = λ (e : j ≡ i). absurd (omega arith)

filter_all : (p : Pairing → Bool) (games : List Pairing) → All (λ game. p game ≡ true) games → filter p games ≡ games
filter_all p [] all = refl
filter_all p (game ∷ games) all =
    let here = all 0 game (omega arith) in
    let rest = filter_all p games (λ k d lt. all (suc k) d (omega arith)) in
    rw here (ap (λ t. game ∷ t) rest)

filter_none : (p : Pairing → Bool) (games : List Pairing) → All (λ game. p game ≡ false) games → filter p games ≡ []
filter_none p [] all = refl
filter_none p (game ∷ games) all =
    let here = all 0 game (omega arith) in
    rw here (filter_none p games (λ k d lt. all (suc k) d (omega arith)))

first_in_pair : (world j : ℕ) → All (λ game. has_first game ≡ true) (both_ways world 0 j)
first_in_pair world j =
    let there : Pairing = record { world = world; red = 0; black = j } in
    let back : Pairing = record { world = world; red = j; black = 0 } in
    All-cons (λ (game : Pairing). has_first game ≡ true) there (back ∷ []) refl
    (All-cons (λ (game : Pairing). has_first game ≡ true) back [] (or-true (j == 0)) (All-nil (λ (game : Pairing). has_first game ≡ true)))

-- player 0 plays each game with a player of a higher number
first_plays : (players world : ℕ) → All (λ game. has_first game ≡ true) (games_with players world 0)
unfolding games_with
first_plays players world = All-flat_map (λ (game : Pairing). has_first game ≡ true) (both_ways world 0) (λ _. Unit {0}) (λ j _. first_in_pair world j) (above 0 players) (λ k d lt. tt)

others_in_pair : (world i j : ℕ) → 1 ≤ i → i < j → All (λ game. has_first game ≡ false) (both_ways world i j)
others_in_pair world i j some lt =
    let there : Pairing = record { world = world; red = i; black = j } in
    let back : Pairing = record { world = world; red = j; black = i } in
    let no_i : (i == 0) ≡ false = ne_eqb i 0 (λ (e : i ≡ 0). absurd (omega arith)) in
    let no_j : (j == 0) ≡ false = ne_eqb j 0 (λ (e : j ≡ 0). absurd (omega arith)) in
    All-cons (λ (game : Pairing). has_first game ≡ false) there (back ∷ []) (rw (no_i, no_j) refl)
    (All-cons (λ (game : Pairing). has_first game ≡ false) back [] (rw (no_i, no_j) refl) (All-nil (λ (game : Pairing). has_first game ≡ false)))

-- and none of those of other players with one of a higher number
others_play : (players world i : ℕ) → 1 ≤ i → All (λ game. has_first game ≡ false) (games_with players world i)
unfolding games_with
others_play players world i some =
    All-flat_map (λ (game : Pairing). has_first game ≡ false) (both_ways world i) (λ j. (i < j) × (j < players)) (λ j at. others_in_pair world i j some at.0) (above i players) (All-above i players)

first_alone : (players world n : ℕ) → filter has_first (flat_map (games_with players world) (below (suc n))) ≡ games_with players world 0
first_alone players world zero = ap (filter has_first) (append-nil (games_with players world 0)) ∙ filter_all has_first (games_with players world 0) (first_plays players world)
first_alone players world (suc n) =
    let before = first_alone players world n in
    let none = filter_none has_first (games_with players world (suc n)) (others_play players world (suc n) (omega arith)) in
    ap (filter has_first) (sym (flat_map_more (games_with players world) [] (below (suc n)) (suc n)))
    ∙ filter-append has_first (flat_map (games_with players world) (below (suc n))) (games_with players world (suc n))
    ∙ rw (before, none) (append-nil (games_with players world 0))

-- a gauntlet is what player 0 plays with those of higher numbers
gauntlet_is : (players world : ℕ) → 1 ≤ players → games_on true players world ≡ games_with players world 0
unfolding each_pair_on
gauntlet_is zero world some = absurd (omega arith)
gauntlet_is (suc n) world some = first_alone (suc n) world n

pub gauntlet_all : (old new : List Pairing) (gauntlet : Bool) (players world : ℕ) → gauntlet ≡ true → 1 ≤ players → new ≡ old ++ games_with players world 0 → new ≡ old ++ games_on gauntlet players world
gauntlet_all old new gauntlet players world is some made =
    made ∙ ap (λ t. old ++ t) (sym (gauntlet_is players world some)) ∙ ap (λ g. old ++ games_on g players world) (sym is)

pub each_all : (old new : List Pairing) (gauntlet : Bool) (players world : ℕ) → gauntlet ≡ false → new ≡ old ++ each_pair_on players world → new ≡ old ++ games_on gauntlet players world
each_all old new gauntlet players world is made = made ∙ ap (λ g. old ++ games_on g players world) (sym is)

pair_all : (players worlds world i j : ℕ) → world < worlds → i < j → j < players → All (IsGame players worlds) (both_ways world i j)
pair_all players worlds world i j w lt j_in =
    let there : Pairing = record { world = world; red = i; black = j } in
    let back : Pairing = record { world = world; red = j; black = i } in
    All-cons (IsGame players worlds) there (back ∷ []) (record { world = w; red = omega arith; black = j_in; apart = less_apart i j lt })
    (All-cons (IsGame players worlds) back [] (record { world = w; red = j_in; black = omega arith; apart = more_apart i j lt }) (All-nil (IsGame players worlds)))

with_all : (players worlds world i : ℕ) → world < worlds → All (IsGame players worlds) (games_with players world i)
unfolding games_with
with_all players worlds world i w =
    All-flat_map (IsGame players worlds) (both_ways world i) (λ j. (i < j) × (j < players)) (λ j at. pair_all players worlds world i j w at.0 at.1) (above i players) (All-above i players)

each_all_on : (players worlds world : ℕ) → world < worlds → All (IsGame players worlds) (each_pair_on players world)
unfolding each_pair_on
each_all_on players worlds world w =
    All-flat_map (IsGame players worlds) (games_with players world) (λ i. i < players) (λ i _. with_all players worlds world i w) (below players) (All-below players)

pub on_all : (gauntlet : Bool) (players worlds world : ℕ) → world < worlds → All (IsGame players worlds) (games_on gauntlet players world)
on_all false players worlds world w = each_all_on players worlds world w
on_all true players worlds world w = All-filter has_first (IsGame players worlds) (each_pair_on players world) (each_all_on players worlds world w)

-- each game of a cup is one
pub All-games_of : (gauntlet : Bool) (players worlds : ℕ) → All (IsGame players worlds) (games_of gauntlet players worlds)
unfolding games_of
All-games_of gauntlet players worlds =
    All-flat_map (IsGame players worlds) (games_on gauntlet players) (λ world. world < worlds) (λ world w. on_all gauntlet players worlds world w) (below worlds) (All-below worlds)

-- so is each on some of its worlds
pub All-games_between : (gauntlet : Bool) (players worlds first count : ℕ) → first + count ≤ worlds → All (IsGame players worlds) (games_between gauntlet players first count)
All-games_between gauntlet players worlds first zero le = All-nil (IsGame players worlds)
All-games_between gauntlet players worlds first (suc count) le =
    All-append (IsGame players worlds) (games_between gauntlet players first count) (games_on gauntlet players (first + count))
    (All-games_between gauntlet players worlds first count (omega arith)) (on_all gauntlet players worlds (first + count) (omega arith))

length_within : {X A : Type 0} (f : X → List A) (m : ℕ) → ((x : X) → length (f x) ≤ m) → (xs : List X) (n : ℕ) → length xs ≤ n → length (flat_map f xs) ≤ n * m
length_within f m each [] n le = omega arith
length_within f m each (x ∷ xs) zero le = absurd (omega arith)
length_within f m each (x ∷ xs) (suc n) le =
    let rest = length_within f m each xs n (omega arith) in
    let here = each x in
    let both = length-append (f x) (flat_map f xs) in
    let step = suc-mul n m in
    omega arith

length-above : (i n : ℕ) → length (above i n) ≤ n
unfolding above
length-above i n = omega (arith, length-filter (nat_lt i) (below n), count_by-le-length (nat_lt i) (below n), length-below n)

length-games_with : (players world i : ℕ) → players ≤ 16 → length (games_with players world i) ≤ 32
unfolding games_with
length-games_with players world i le = omega (arith, length_within (both_ways world i) 2 (λ j. omega arith) (above i players) 16 (omega (arith, length-above i players)))

length-each_pair_on : (players world : ℕ) → players ≤ 16 → length (each_pair_on players world) ≤ 512
unfolding each_pair_on
length-each_pair_on players world le = omega (arith, length_within (games_with players world) 32 (λ i. length-games_with players world i le) (below players) 16 (omega (arith, length-below players)))

pub length-games_on : (gauntlet : Bool) (players world : ℕ) → players ≤ 16 → length (games_on gauntlet players world) ≤ 512
length-games_on false players world le = length-each_pair_on players world le
length-games_on true players world le =
    omega (arith, length-each_pair_on players world le, length-filter has_first (each_pair_on players world), count_by-le-length has_first (each_pair_on players world))

-- a cup is short
pub length-games_of : (gauntlet : Bool) (players worlds : ℕ) → players ≤ 16 → length (games_of gauntlet players worlds) ≤ worlds * 512
unfolding games_of
length-games_of gauntlet players worlds le = length_within (games_on gauntlet players) 512 (λ world. length-games_on gauntlet players world le) (below worlds) worlds (omega (arith, length-below worlds))

pub length-games_between : (gauntlet : Bool) (players first count : ℕ) → players ≤ 16 → length (games_between gauntlet players first count) ≤ count * 512
length-games_between gauntlet players first zero le = omega arith
length-games_between gauntlet players first (suc count) le =
    omega (
      arith,
      length-games_between gauntlet players first count le,
      length-games_on gauntlet players (first + count) le,
      length-append (games_between gauntlet players first count) (games_on gauntlet players (first + count)),
    )

both_here : (world i j : ℕ) → All (λ game. game.world ≡ world) (both_ways world i j)
both_here world i j =
    let there : Pairing = record { world = world; red = i; black = j } in
    let back : Pairing = record { world = world; red = j; black = i } in
    All-cons (λ (game : Pairing). game.world ≡ world) there (back ∷ []) refl (All-cons (λ (game : Pairing). game.world ≡ world) back [] refl (All-nil (λ (game : Pairing). game.world ≡ world)))

with_here : (players world i : ℕ) → All (λ game. game.world ≡ world) (games_with players world i)
unfolding games_with
with_here players world i = All-flat_map (λ (game : Pairing). game.world ≡ world) (both_ways world i) (λ _. Unit {0}) (λ j _. both_here world i j) (above i players) (λ k d lt. tt)

each_here : (players world : ℕ) → All (λ game. game.world ≡ world) (each_pair_on players world)
unfolding each_pair_on
each_here players world = All-flat_map (λ (game : Pairing). game.world ≡ world) (games_with players world) (λ _. Unit {0}) (λ i _. with_here players world i) (below players) (λ k d lt. tt)

on_here : (gauntlet : Bool) (players world : ℕ) → All (λ game. game.world ≡ world) (games_on gauntlet players world)
on_here false players world = each_here players world
on_here true players world = All-filter has_first (λ (game : Pairing). game.world ≡ world) (each_pair_on players world) (each_here players world)

known_on : (knows : ℕ → ℕ → ℕ → Type 0) (gauntlet : Bool) (players world : ℕ) → ((red black : ℕ) → red < players → black < players → red ≢ black → knows world red black)
    → All (λ game. knows game.world game.red game.black) (games_on gauntlet players world)
known_on knows gauntlet players world known k d lt =
    let it : Pairing = get_or (games_on gauntlet players world) k d in
    let game = on_all gauntlet players (world + 1) world (omega arith) k d lt in
    subst (λ w. knows w it.red it.black) (sym (on_here gauntlet players world k d lt)) (known it.red it.black game.red game.black game.apart)

-- what is known of each pair of players on some worlds is known of the games there
pub known_between : (knows : ℕ → ℕ → ℕ → Type 0) (gauntlet : Bool) (players first count : ℕ)
    → ((world red black : ℕ) → first ≤ world → world < first + count → red < players → black < players → red ≢ black → knows world red black)
    → All (λ game. knows game.world game.red game.black) (games_between gauntlet players first count)
known_between knows gauntlet players first zero known = All-nil (λ (game : Pairing). knows game.world game.red game.black)
known_between knows gauntlet players first (suc count) known =
    All-append (λ (game : Pairing). knows game.world game.red game.black) (games_between gauntlet players first count) (games_on gauntlet players (first + count))
    (known_between knows gauntlet players first count (λ world red black from to. known world red black from (omega arith)))
    (known_on knows gauntlet players (first + count) (λ red black. known (first + count) red black (omega arith) (omega arith)))

-- the games on one world more come last
pub games_of-more : (gauntlet : Bool) (players worlds : ℕ) → games_of gauntlet players (worlds + 1) ≡ games_of gauntlet players worlds ++ games_on gauntlet players worlds
unfolding games_of
games_of-more gauntlet players worlds = ap (flat_map (games_on gauntlet players)) (below-more worlds) ∙ sym (flat_map_more (games_on gauntlet players) [] (below worlds) worlds)

-- so do those on some worlds more
pub games_of-between : (gauntlet : Bool) (players worlds count : ℕ) → games_of gauntlet players (worlds + count) ≡ games_of gauntlet players worlds ++ games_between gauntlet players worlds count
games_of-between gauntlet players worlds zero = let at : worlds + 0 ≡ worlds = omega arith in ap (games_of gauntlet players) at ∙ sym (append-nil (games_of gauntlet players worlds))
games_of-between gauntlet players worlds (suc count) =
    let at : worlds + suc count ≡ (worlds + count) + 1 = omega arith in
    ap (games_of gauntlet players) at ∙ games_of-more gauntlet players (worlds + count)
    ∙ ap (λ t. t ++ games_on gauntlet players (worlds + count)) (games_of-between gauntlet players worlds count)
    ∙ append_assoc (games_of gauntlet players worlds) (games_between gauntlet players worlds count) (games_on gauntlet players (worlds + count))
