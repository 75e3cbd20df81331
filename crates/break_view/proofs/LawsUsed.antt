-- Each law of this crate, used: what it says of one text or of one game, so that a law that says less is refused here.
use Rattle.std.proofs.Common.{◌≡◌, ℕ, ◌<◌, ◌≤◌, ◌==◌, Bool, true, false, cond, List, [], ◌∷◌, Option, Some, None, inl, inr, codes, refl, arith}
use Rattle.std.proofs.lemmas.Bool.{eqb-true}
use Rattle.list_lemmas.proofs.Elements.{Contains-later}
use Rattle.hex_geometry.specs.Direction.{directions}
use Rattle.hex_geometry.specs.Neighbourhood.{adjacent_pos, neighbours_of}
use Rattle.hex_geometry.specs.Position.{same_pos}
use Rattle.cell_world.specs.Cell.{rock}
use Rattle.cell_world.specs.Grid.{cell_in}
use Rattle.cell_world.specs.Opening.{floor, opening}
use Rattle.cell_world.specs.World.{World, place_in, put_cell}
use Rattle.ant_random.specs.Stream.{drawn, random_at, state_at}
use Rattle.ant_turn.specs.Kills.{check_at, is_surrounded, killed_at, places_around}
use Rattle.ant_turn.specs.Rounds.{after_turn}
use Rattle.ant_turn.specs.Turn.{stepped, turn}
use Rattle.match_run.proofs.RunWorked.{stone}
use Rattle.break_view.specs.declared.breaks.Break.{Break}
use Rattle.break_view.specs.declared.breaks.Break.TheVariants.{Killed, Round}
use Rattle.break_view.specs.declared.fault.BreakFault.{BreakFault}
use Rattle.break_view.specs.declared.fault.BreakFault.TheVariants.{UnknownWord}
use Rattle.break_view.specs.declared.stop.Stop.{Stop}
use Rattle.break_view.specs.Faulty.{IsBreakFault}
use Rattle.break_view.specs.Grammar.{IsBreakText}
use Rattle.break_view.specs.Laws.{EndsAreFound, FewerStopLater, LaterRoundsAddNothing, OneFirstStop, OneListOrOneFault, QuietRoundsArePassed, StopsFollowTurns}
use Rattle.break_view.specs.Stops.{EndsAt, HasNoStop, IsEarlier, IsFirstStop, met_at, world_at, world_in_round}
use Rattle.break_view.specs.Texts.{IsViewText, view_of, view_text}
use Rattle.break_view.proofs.WorkedFrom.{again, held_before}
use Rattle.break_view.proofs.WorkedGame.{killed_first, minds, start}
use Rattle.break_view.proofs.WorkedTexts.{no_such_word, one_break}

-- the text of one break has that list and no other and no fault; one with a fault has that fault and no other
one_list_or_one_fault_used : OneListOrOneFault →
    ((list : List Break) × IsBreakText (codes "Killed 2") list)
    × ((list : List Break) → IsBreakText (codes "Killed 2") list → list ≡ Killed 2 ∷ [])
    × ((fault : BreakFault) → IsBreakFault (codes "Killed 2") fault → ⊥)
    × ((fault : BreakFault) → IsBreakFault (codes "Jump 1") fault → fault ≡ UnknownWord 1)
one_list_or_one_fault_used law = (
  elim (law.some (codes "Killed 2")) [ inl it ↦ it | inr fault ↦ absurd (law.never_both (codes "Killed 2") (Killed 2 ∷ []) fault.0 one_break fault.1) ],
  λ list it. law.one_list (codes "Killed 2") list (Killed 2 ∷ []) it one_break,
  λ fault it. law.never_both (codes "Killed 2") (Killed 2 ∷ []) fault one_break it,
  λ fault it. law.one_fault (codes "Jump 1") fault (UnknownWord 1) it no_such_word,
)

-- the game of the ambush stops after the turn of id 1 in round 1, in which ant 2 is killed
abbrev killed : Stop
killed = record { round = 1; id = 1; which = 1 }

one_first_stop_used : OneFirstStop →
    ((stop : Stop) → IsFirstStop minds 12345 5 2 start (Killed 2 ∷ []) stop → stop ≡ again)
    × (HasNoStop minds 12345 5 2 start (Killed 2 ∷ []) → ⊥)
    × ((stop : Stop) (end : World) → EndsAt minds 12345 5 2 start (Killed 2 ∷ []) (Some stop) end → (Some stop ≡ Some again) × (end ≡ world_at minds 12345 start 2 0))
    × ((text other : List ℕ) → IsViewText minds 12345 5 2 start (Killed 2 ∷ []) text → IsViewText minds 12345 5 2 start (Killed 2 ∷ []) other → text ≡ other)
one_first_stop_used law = (
  λ stop it. law.one minds 12345 5 2 start (Killed 2 ∷ []) stop again it held_before,
  λ none. law.never_both minds 12345 5 2 start (Killed 2 ∷ []) again held_before none,
  λ stop end it. law.one_end minds 12345 5 2 start (Killed 2 ∷ []) (Some stop) (Some again) end (world_at minds 12345 start 2 0) it (held_before, refl),
  λ text other it same. law.one_view minds 12345 5 2 start (Killed 2 ∷ []) text other it same,
)

-- with another break besides, it stops no later
fewer_stop_later_used : FewerStopLater →
    ((stop : Stop) → IsFirstStop minds 12345 5 2 start (Round 2 ∷ Killed 2 ∷ []) stop → IsEarlier 2 0 stop.round stop.id → ⊥)
    × (HasNoStop minds 12345 5 3 start (Round 9 ∷ Round 8 ∷ []) → HasNoStop minds 12345 5 3 start (Round 8 ∷ []))
fewer_stop_later_used law = (
  λ stop it later. law.later minds 12345 5 2 start (Killed 2 ∷ []) (Round 2 ∷ Killed 2 ∷ []) again stop (λ item has. Contains-later (Round 2) item (Killed 2 ∷ []) has) held_before it later,
  λ none. law.never minds 12345 5 3 start (Round 8 ∷ []) (Round 9 ∷ Round 8 ∷ []) (λ item has. Contains-later (Round 9) item (Round 8 ∷ []) has) none,
)

stops_follow_turns_used : StopsFollowTurns →
    (1 ≤ 1) × (2 ≤ 2) × HasNoStop minds 12345 0 0 start (Killed 2 ∷ []) × HasNoStop minds 12345 5 6 start (Killed 2 ∷ []) × HasNoStop minds 12345 5 1 stone (Round 1 ∷ []) × HasNoStop minds 12345 5 1 start []
stops_follow_turns_used law = (
  law.round minds 12345 5 0 start (Killed 2 ∷ []) killed killed_first,
  law.reached minds 12345 5 2 start (Killed 2 ∷ []) again held_before,
  law.no_round minds 12345 0 start (Killed 2 ∷ []),
  law.none_reached minds 12345 5 6 start (Killed 2 ∷ []) (omega arith),
  law.no_ant minds 12345 5 1 stone (Round 1 ∷ []) refl,
  law.no_break minds 12345 5 1 start,
)

later_rounds_add_nothing_used : LaterRoundsAddNothing → IsFirstStop minds 12345 9 2 start (Killed 2 ∷ []) again
later_rounds_add_nothing_used law = law minds 12345 5 9 2 start (Killed 2 ∷ []) again (omega arith) held_before

found : EndsAreFound → IsFirstStop minds 12345 1 0 start (Killed 2 ∷ []) killed
unfolding world_in_round after_turn turn place_in opening cell_in rock floor put_cell same_pos adjacent_pos neighbours_of directions stepped is_surrounded check_at killed_at places_around drawn random_at state_at
found law = (law.found minds 12345 1 0 start (Killed 2 ∷ [])).0

ends_are_found_used : EndsAreFound → IsFirstStop minds 12345 1 0 start (Killed 2 ∷ []) killed
    × (view_text (world_at minds 12345 start 2 0) 12345 5 (Some again) ≡ view_of minds 12345 5 2 start (Killed 2 ∷ []))
ends_are_found_used law = (found law, law.view minds 12345 5 2 start (Killed 2 ∷ []) (Some again) (world_at minds 12345 start 2 0) (held_before, refl))

-- before round 9 a break of round 9 doesn't hold
never_in : (r t : ℕ) → r < 9 → met_at minds 12345 start (Round 9 ∷ []) r t ≡ None
never_in r t below = go (9 == r) refl
  where
    go : (b : Bool) → (9 == r) ≡ b → cond {A = Option ℕ} b (Some 1) None ≡ None
    go true is = absurd (let same = eqb-true 9 r is in omega (arith, same, below))
    go false is = refl

-- so the view from that round on is that from round 2 on; and that from round 1 on is that of the whole game
quiet_rounds_are_passed_used : QuietRoundsArePassed →
    (view_of minds 12345 5 0 start (Killed 2 ∷ []) ≡ view_of minds 12345 5 1 start (Killed 2 ∷ []))
    × (view_of minds 12345 20 2 start (Round 9 ∷ []) ≡ view_of minds 12345 20 9 start (Round 9 ∷ []))
quiet_rounds_are_passed_used law = (
  law minds 12345 5 0 1 start (Killed 2 ∷ []) (omega arith) (λ r t turn below. absurd (let begun = turn.begun in omega (arith, begun, below))),
  law minds 12345 20 2 9 start (Round 9 ∷ []) (omega arith) (λ r t turn below. never_in r t below),
)
