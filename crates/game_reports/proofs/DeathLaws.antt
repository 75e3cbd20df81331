-- Who dies in a game: those that live at its start and not at its end, each once.
use Rattle.std.proofs.Common.{◌≡◌, ◌≢◌, ◌⊎◌, inl, inr, ℕ, zero, suc, ◌+◌, List, [], ◌∷◌, ◌++◌, Option, Some, None, refl, sym, ◌∙◌, ap, subst, arith}
use Rattle.std.specs.Option.{IsSome}
use Rattle.std.specs.List.{AllPairs, Contains}
use Rattle.std.proofs.lemmas.Bool.{cases_eq, false≢true}
use Rattle.std.proofs.lemmas.List.Elements.{All-contains_itself, Contains-append_cases, Contains-append_left, Contains-append_right}
use Rattle.std.proofs.lemmas.List.Kept.{AllPairs-cons}
use Rattle.list_lemmas.proofs.Elements.{Contains-cases, Contains-first, Contains-later, Contains-none}
use Rattle.hex_geometry.specs.declared.position.Pos.{Pos}
use Rattle.ant_turn.specs.FoodLaws.{killed_in, world_after_turn}
use Rattle.ant_turn.specs.KillLaws.{KillsAlone}
use Rattle.ant_turn.specs.Keeps.{Keeps}
use Rattle.ant_turn.specs.Minds.{AreSound, Fits, Minds}
use Rattle.ant_turn.specs.Rounds.{Moment, after_round, after_rounds, after_turn, after_turns, start_of}
use Rattle.ant_turn.proofs.KeptByRounds.{Keeps-after_rounds, Keeps-after_turns}
use Rattle.ant_turn.proofs.KillLemmas.{turn-KillsAlone}
use Rattle.cell_world.specs.Valid.{Valid}
use Rattle.cell_world.specs.World.{World, place_in}
use Rattle.match_run.specs.Run.{world_after}
use Rattle.game_reports.specs.Events.{deaths_in}
use Rattle.game_reports.specs.Laws.{DeathsAreTheDead, all_deaths}
use Rattle.match_run.specs.Told.{told_in_rounds, told_in_turns}

-- each number is in a list or not
in_or_not : (xs : List ℕ) (u : ℕ) → Contains xs u ⊎ (Contains xs u → ⊥)
in_or_not [] u = inr (Contains-none u)
in_or_not (x ∷ xs) u =
    elim (cases_eq x u) [
      | inl one ↦ inl (subst (Contains (x ∷ xs)) one (Contains-first x xs))
      | inr apart ↦ elim (in_or_not xs u) [
        | inl there ↦ inl (Contains-later x u xs there)
        | inr nowhere ↦ inr (λ found. elim (Contains-cases x u xs found) [
          | inl one ↦ apart one
          | inr there ↦ nowhere there
        ])
      ]
    ]

-- two lists without repetitions and without a common element have none together
pairs-append : (xs ys : List ℕ) → AllPairs ◌≢◌ xs → AllPairs ◌≢◌ ys → ((u : ℕ) → Contains xs u → Contains ys u → ⊥) → AllPairs ◌≢◌ (xs ++ ys)
pairs-append [] ys first second apart = second
pairs-append (x ∷ xs) ys first second apart =
    AllPairs-cons ◌≢◌ x (xs ++ ys)
    (λ k d inside same. elim (Contains-append_cases xs ys x (subst (Contains (xs ++ ys)) (sym same) (All-contains_itself (xs ++ ys) k d inside))) [
      | inl there ↦ first 0 (suc there.0) x (omega arith) (omega (arith, there.1)) (sym there.2)
      | inr there ↦ apart x (Contains-first x xs) there
    ])
    (pairs-append xs ys (λ i j d lt within. first (suc i) (suc j) d (omega (arith, lt)) (omega (arith, within))) second (λ u there. apart u (Contains-later x u xs there)))

-- what a list of deaths says of who is alive before and after
record Kills (old new : World) (deaths : List ℕ) : Type 0 where
  lived : (u : ℕ) → Contains deaths u → IsSome (place_in old u)
  gone : (u : ℕ) → Contains deaths u → place_in new u ≡ None
  stays : (u : ℕ) → IsSome (place_in old u) → Contains deaths u ⊎ IsSome (place_in new u)
  dead : (u : ℕ) → place_in old u ≡ None → place_in new u ≡ None
  once : AllPairs ◌≢◌ deaths

-- no ant dies
Kills-none : (w : World) → Kills w w []
Kills-none w = record {
  lived = λ u found. absurd (Contains-none u found);
  gone = λ u found. absurd (Contains-none u found);
  stays = λ u alive. inr alive;
  dead = λ u dead. dead;
  once = λ i j d lt within. absurd (omega (arith, within));
}

-- who has no place isn't alive
none-some : {place : Option Pos} → place ≡ None → IsSome place → ⊥
none-some none some = false≢true (subst IsSome none some)

-- some die, and then some more
Kills-then : (old mid new : World) (first second : List ℕ) → Kills old mid first → Kills mid new second → Kills old new (first ++ second)
Kills-then old mid new first second one other = record {
  lived = λ u found. elim (Contains-append_cases first second u found) [
    | inl early ↦ one.lived u early
    | inr late ↦ was u (other.lived u late)
  ];
  gone = λ u found. elim (Contains-append_cases first second u found) [
    | inl early ↦ other.dead u (one.gone u early)
    | inr late ↦ other.gone u late
  ];
  stays = λ u alive. elim (one.stays u alive) [
    | inl early ↦ inl (Contains-append_left first second u early)
    | inr still ↦ elim (other.stays u still) [
      | inl late ↦ inl (Contains-append_right first second u late)
      | inr lives ↦ inr lives
    ]
  ];
  dead = λ u none. other.dead u (one.dead u none);
  once = pairs-append first second one.once other.once (λ u early late. none-some (one.gone u early) (other.lived u late));
}
  where
    was : (u : ℕ) → IsSome (place_in mid u) → IsSome (place_in old u)
    was u alive = go (place_in old u) refl
      where
        go : (place : Option Pos) → place_in old u ≡ place → IsSome place
        go None none = absurd (none-some (one.dead u none) alive)
        go (Some p) some = refl

-- a turn
Kills-turn : (minds : Minds) (seed : ℕ) (m : Moment) (t : ℕ) → AreSound minds → Valid m.world → Kills m.world (after_turn minds seed m t).world (deaths_in minds seed m t)
unfolding after_turn deaths_in
Kills-turn minds seed m t sound valid =
    let alone : KillsAlone minds seed m.world m.place t = turn-KillsAlone minds seed m.world m.place t sound.corpse valid in
    record {
      lived = alone.were_alive;
      gone = alone.are_gone;
      stays = λ u alive. elim (in_or_not (killed_in minds seed m.world m.place t) u) [
        | inl killed ↦ inl killed
        | inr spared ↦ elim (cases_eq u t) [
          | inl own ↦ inr (subst (λ k. IsSome (place_in (world_after_turn minds seed m.world m.place t) k)) (sym own) (alone.own_lives (λ found. spared (subst (Contains (killed_in minds seed m.world m.place t)) (sym own) found)) (subst (λ k. IsSome (place_in m.world k)) own alive)))
          | inr other ↦ inr (subst IsSome (sym (alone.others_stay u other spared)) alive)
        ]
      ];
      dead = λ u none. elim (cases_eq u t) [
        | inl own ↦ subst (λ k. place_in (world_after_turn minds seed m.world m.place t) k ≡ None) (sym own) (alone.dead_stay (ap (place_in m.world) (sym own) ∙ none))
        | inr other ↦ alone.others_stay u other (λ found. none-some none (alone.were_alive u found)) ∙ none
      ];
      once = alone.differ;
    }

-- turns
Kills-turns : (minds : Minds) (seed : ℕ) (m : Moment) (from n : ℕ) → AreSound minds → Valid m.world → Fits m.world minds → Kills m.world (after_turns minds seed m from n).world (told_in_turns (deaths_in minds seed) minds seed m from n)
Kills-turns minds seed m from zero sound valid fits = Kills-none m.world
Kills-turns minds seed m from (suc n) sound valid fits =
    let mid : Moment = after_turns minds seed m from n in
    let kept : Keeps minds m.world mid.world = Keeps-after_turns minds seed m from n sound valid fits in
    Kills-then m.world mid.world (after_turn minds seed mid (from + n)).world _ _ (Kills-turns minds seed m from n sound valid fits) (Kills-turn minds seed mid (from + n) sound kept.valid)

-- rounds
Kills-rounds : (minds : Minds) (seed : ℕ) (m : Moment) (n : ℕ) → AreSound minds → Valid m.world → Fits m.world minds → Kills m.world (after_rounds minds seed m n).world (told_in_rounds (λ round. deaths_in minds seed) minds seed m n)
unfolding after_round
Kills-rounds minds seed m zero sound valid fits = Kills-none m.world
Kills-rounds minds seed m (suc n) sound valid fits =
    let mid : Moment = after_rounds minds seed m n in
    let kept : Keeps minds m.world mid.world = Keeps-after_rounds minds seed m n sound valid fits in
    Kills-then m.world mid.world (after_turns minds seed mid 0 mid.world.ids).world _ _ (Kills-rounds minds seed m n sound valid fits) (Kills-turns minds seed mid 0 mid.world.ids sound kept.valid kept.fits)

pub deaths_are_the_dead : DeathsAreTheDead
unfolding all_deaths world_after
deaths_are_the_dead minds seed w rounds sound valid fits =
    let it = Kills-rounds minds seed (start_of w) rounds sound valid fits in
    record {
      lived = it.lived;
      gone = it.gone;
      all = λ u alive none. elim (it.stays u alive) [
        | inl dies ↦ dies
        | inr lives ↦ absurd (none-some none lives)
      ];
      once = it.once;
    }
