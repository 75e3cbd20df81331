-- Games with an assembled brain, and with its labelled program.
use Rattle.std.proofs.Common.{◌≡◌, ◌≢◌, ℕ, zero, suc, ◌+◌, Bool, true, List, [], ◌∷◌, Option, Some, None, refl, sym, ap, ap₂, ◌∙◌, subst}
use Rattle.std.specs.Prelude.{option_map, if◌then◌else◌}
use Rattle.std.proofs.Math.Path.{fun_ext}
use Rattle.std.proofs.lemmas.Bool.{cond_both}
use Rattle.std.proofs.lemmas.Option.{get_or_from_slice_get}
use Rattle.hex_geometry.specs.declared.position.Pos.{Pos}
use Rattle.cell_world.specs.declared.ant.Ant.{Ant}
use Rattle.cell_world.specs.declared.ant.Colour.{Colour}
use Rattle.cell_world.specs.declared.ant.Colour.TheVariants.{Red, Black}
use Rattle.cell_world.specs.declared.cell.Cell.{Cell}
use Rattle.cell_world.specs.declared.kind.Kind.{Kind}
use Rattle.cell_world.specs.Cell.{holds_id, one_if}
use Rattle.cell_world.specs.Colour.{same_colour}
use Rattle.cell_world.specs.Grid.{world_of}
use Rattle.cell_world.specs.Opening.{opening}
use Rattle.cell_world.specs.Valid.{Valid}
use Rattle.cell_world.specs.World.{Cells, World, place_in, with_cells}
use Rattle.cell_world.proofs.OpeningLaws.{opening-new}
use Rattle.cell_world.proofs.Places.{Holder, holds_id-own, place_in-ant, place_in-holds}
use Rattle.brain_read.specs.declared.instr.Instr.{Instr}
use Rattle.brain_read.specs.declared.instr.Instr.TheVariants as instr
use Rattle.ant_turn.specs.Keeps.{Keeps}
use Rattle.ant_turn.specs.Minds.{Minds, Fits, AreSound, mind_of}
use Rattle.ant_turn.specs.Renumber.{redirected, renumbered_ant, renumbered_cell, renumbered_cells, renumbered_world, with_mind}
use Rattle.ant_turn.specs.Rounds.{Moment, after_round, after_rounds, after_turn, after_turns, start_of}
use Rattle.ant_turn.specs.Turn.{Outcome, acts, instruction_at, turn, turn_at, turn_from, with_ant}
use Rattle.ant_turn.proofs.KeptByTurns.{Keeps-turn}
use Rattle.ant_turn.proofs.FitLemmas.{Fits-opening}
use Rattle.ant_turn.proofs.RenumberLemmas.{after, place_in-renumbered}
use Rattle.ant_asm.specs.declared.action.Label.{Label}
use Rattle.ant_asm.specs.Program.{Items}
use Rattle.ant_asm.specs.Places.{Address, Placed, beginning, placed}
use Rattle.ant_asm.specs.LabelGame.{LabelMoment, address_acted, address_at, address_from, bare_instruction, instruction_by, label_outcome, label_rounds, label_start, label_taken, label_turn, label_turns, with_address}
use Rattle.ant_asm.specs.Assembled.{IsAssembled, number_in}
use Rattle.ant_asm.specs.Match.{label_game, numbered_ant, numbered_cell, numbered_moment}
use Rattle.ant_asm.proofs.Brains.{some_places}
use Rattle.ant_asm.proofs.Addresses.{HasPlace, beginning-number, beginning-place, target-place}
use Rattle.ant_asm.proofs.NextStates.{OfAll, OfOthers, execute-of, leaves, state_taken}
use Rattle.ant_asm.proofs.LabelTurns.{address_from-has, address_from-states, agrees_side, cond-one, mind_of-side, redirected-bare, same_colour-side, state_taken-by, turn-side, wiped, with_address-has, with_address-other, with_address-own, with_address-same}

module _ (main : Items) (brain : List Instr) (list : List Address) (assembled : IsAssembled main brain list) (side : Colour) (minds : Minds) (seed : ℕ) where
  -- the minds with the assembled brain
  abbrev real : Minds
  real = with_mind minds side brain

  -- the number of an address
  abbrev number : Address → ℕ
  number = number_in list

  -- labels lead to places
  leads_to : (address : Address) (label : Label) → HasPlace list ((placed main address).target label)
  leads_to address label = subst (λ (l : List Address). HasPlace l ((placed main address).target label)) (sym assembled.places) (target-place main (some_places main brain list assembled) address label)

  begins : HasPlace list (beginning main)
  begins = subst (λ (l : List Address). HasPlace l (beginning main)) (sym assembled.places) (beginning-place main (some_places main brain list assembled))

  begins_zero : number (beginning main) ≡ 0
  begins_zero = subst (λ (l : List Address). number_in l (beginning main) ≡ 0) (sym assembled.places) (beginning-number main (some_places main brain list assembled))

  -- the state for a label of the instruction at an address
  abbrev state_of : Address → Label → ℕ
  state_of address label = number ((placed main address).target label)

  -- the instruction at the number of an address
  numbered_instruction : (address : Address) → HasPlace list address → instruction_at brain (number address) ≡ instruction_by (state_of address) (placed main address).action
  numbered_instruction address has = get_or_from_slice_get brain (number address) (instruction_by (state_of address) (placed main address).action) (instr.Drop 0) (assembled.each (number address) address has)

  -- the ants of the side are in the states of their addresses
  abbrev InState : (ℕ → Address) → Ant → Type 0
  InState addresses ant = ant.colour ≡ side → ant.state ≡ number (addresses ant.id)

  -- a moment of the game matches one of the labelled game
  record Matches (m : Moment) (l : LabelMoment) : Type 0 where
    world : l.world ≡ renumbered_world (wiped side) m.world
    place : l.place ≡ m.place
    states : OfAll (InState l.address) m.world.cells
    known : (t : ℕ) → HasPlace list (l.address t)
    valid : Valid m.world
    fits : Fits m.world real

  -- the turn of an id, in matching moments
  module _ (w : World) (place : ℕ) (addresses : ℕ → Address) (states : OfAll (InState addresses) w.cells) (known : (t : ℕ) → HasPlace list (addresses t)) (valid : Valid w) (t : ℕ) where
    abbrev at : Placed
    at = placed main (addresses t)

    -- the ant that acts has its instruction
    own_instruction : (p : Pos) (ant : Ant) → place_in w t ≡ Some p → (w.cells p).ant ≡ Some ant → ant.colour ≡ side → instruction_at brain ant.state ≡ instruction_by (state_of (addresses t)) at.action
    own_instruction p ant found is mine =
        let holder : Holder t (w.cells p).ant = place_in-ant w t p found in
        let one : holder.ant ≡ ant = let e : Some holder.ant ≡ Some ant = sym holder.is ∙ is in cc in
        let id : ant.id ≡ t = ap (λ (a : Ant). a.id) (sym one) ∙ holder.id in
        ap (instruction_at brain) (states p ant is mine ∙ ap (λ u. number (addresses u)) id) ∙ numbered_instruction (addresses t) (known t)

    own_id : (p : Pos) (ant : Ant) → place_in w t ≡ Some p → (w.cells p).ant ≡ Some ant → ant.id ≡ t
    own_id p ant found is =
        let holder : Holder t (w.cells p).ant = place_in-ant w t p found in
        let one : holder.ant ≡ ant = let e : Some holder.ant ≡ Some ant = sym holder.is ∙ is in cc in
        ap (λ (a : Ant). a.id) (sym one) ∙ holder.id

    -- so the labelled turn is the turn, without the states
    outcome_wiped : turn (with_mind minds side (bare_instruction at.action ∷ [])) seed (renumbered_world (wiped side) w) place t ≡ after (wiped side) (turn real seed w place t)
    outcome_wiped = turn-side minds brain (bare_instruction at.action ∷ []) side seed w place t (λ p ant found is.
        agrees_side minds brain (bare_instruction at.action) side ant.colour ant.state
        (λ mine. ap (redirected (λ n. 0)) (own_instruction p ant found is mine) ∙ redirected-bare (state_of (addresses t)) at.action))

    -- an ant with another id than t stays in its state, whatever the address of t becomes
    others_stay : (address : Address) (ant : Ant) → t ≢ ant.id → InState addresses ant → InState (with_address addresses t address) ant
    others_stay address ant other state mine = state mine ∙ ap number (sym (with_address-other addresses t address ant.id other))

    -- all ants stay in their states, if the address of t is unchanged
    all_stay : (ant : Ant) → InState addresses ant → InState (with_address addresses t (addresses t)) ant
    all_stay ant state mine = state mine ∙ ap number (sym (with_address-same addresses t ant.id))

    -- an ant of id t in the state of its new address
    own_goes : (address : Address) (ant : Ant) → ant.id ≡ t → (ant.colour ≡ side → ant.state ≡ number address) → InState (with_address addresses t address) ant
    own_goes address ant id state mine =
        state mine ∙ ap number (sym (ap (with_address addresses t address) id ∙ with_address-own addresses t address))

    -- the other ants stay in their states, if t is at p
    others_there : (address : Address) (p : Pos) → place_in w t ≡ Some p → OfOthers (InState (with_address addresses t address)) w.cells p
    others_there address p found q apart ant is =
        others_stay address ant (λ id. apart (valid.once t p q (place_in-holds w t p found) (subst (λ u. holds_id u (w.cells q) ≡ true) (sym id) (holds_id-own (w.cells q) ant is)))) (states q ant is)

    -- the address of t after it acted, if it is of the side
    taken_address : (ant : Ant) (address : Address) → ant.colour ≡ side → (if same_colour side ant.colour then address else addresses t) ≡ address
    taken_address ant address mine = ap (λ (b : Bool). if b then address else addresses t) (same_colour-side side ant.colour mine)

    acts_states : (n : ℕ) (p : Pos) (ant : Ant) → place_in w t ≡ Some p → (w.cells p).ant ≡ Some ant →
        OfAll (InState (with_address addresses t (if same_colour side ant.colour then address_acted n seed w.cells place p ant at (addresses t) else addresses t))) (acts n real seed w.cells place p ant).cells
    acts_states zero p ant found is =
        let onward : Address = at.target (label_taken seed w.cells place p ant at.action) in
        let address : Address = if same_colour side ant.colour then onward else addresses t in
        execute-of (InState (with_address addresses t address)) real.sheet seed w.cells place p ant (instruction_at (mind_of real ant.colour) ant.state) (others_there address p found)
        (λ gone id colour state. own_goes address gone (id ∙ own_id p ant found is) (λ mine.
        let own : ant.colour ≡ side = sym colour ∙ mine in
        state
        ∙ ap (state_taken seed w.cells place p ant) (ap (λ (b : List Instr). instruction_at b ant.state) (mind_of-side minds brain side ant.colour own) ∙ own_instruction p ant found is own)
        ∙ state_taken-by (state_of (addresses t)) seed w.cells place p ant at.action
        ∙ ap number (sym (taken_address ant onward own))))
    acts_states (suc left) p ant found is =
        let address : Address = if same_colour side ant.colour then addresses t else addresses t in
        leaves (InState (with_address addresses t address)) w.cells p (with_ant (w.cells p) (record ant { resting = left })) (record ant { resting = left }) (others_there address p found) refl
        (own_goes address (record ant { resting = left }) (own_id p ant found is) (λ mine.
        states p ant is mine ∙ ap (λ u. number (addresses u)) (own_id p ant found is) ∙ ap number (sym (cond-one (same_colour side ant.colour) (addresses t)))))

    turn_at_states : (p : Pos) (o : Option Ant) → place_in w t ≡ Some p → (w.cells p).ant ≡ o →
        OfAll (InState (with_address addresses t (address_at side seed w.cells place p o at (addresses t)))) (turn_at real seed w.cells place p o).cells
    turn_at_states p None found is = λ q ant there. all_stay ant (states q ant there)
    turn_at_states p (Some ant) found is = acts_states ant.resting p ant found is

    turn_from_states : (o : Option Pos) → place_in w t ≡ o →
        OfAll (InState (with_address addresses t (address_from side seed w.cells place o at (addresses t)))) (turn_from real seed w.cells place o).cells
    turn_from_states None found = λ q ant there. all_stay ant (states q ant there)
    turn_from_states (Some p) found = turn_at_states p (w.cells p).ant found refl

    turn_states : OfAll (InState (with_address addresses t (address_from side seed w.cells place (place_in w t) at (addresses t)))) (turn real seed w place t).cells
    unfolding turn
    turn_states = turn_from_states (place_in w t) refl

    -- the labelled game sends t to the same address
    address_wiped : address_from side seed (renumbered_cells (wiped side) w.cells) place (place_in (renumbered_world (wiped side) w) t) at (addresses t) ≡ address_from side seed w.cells place (place_in w t) at (addresses t)
    address_wiped =
        ap (λ (o : Option Pos). address_from side seed (renumbered_cells (wiped side) w.cells) place o at (addresses t)) (place_in-renumbered (wiped side) w t)
        ∙ address_from-states (wiped side) side seed w.cells place (place_in w t) at (addresses t)

  -- a turn
  Matches-turn : AreSound real → (m : Moment) (l : LabelMoment) (t : ℕ) → Matches m l → Matches (after_turn real seed m t) (label_turn main side minds seed l t)
  unfolding after_turn label_turn label_outcome
  Matches-turn sound m l t matches =
      let kept : Keeps real m.world (with_cells m.world (turn real seed m.world m.place t).cells) = Keeps-turn real seed m.world m.place t sound matches.valid matches.fits in
      let there : Placed = placed main (l.address t) in
      let same : turn (with_mind minds side (bare_instruction there.action ∷ [])) seed l.world l.place t ≡ after (wiped side) (turn real seed m.world m.place t) =
      ap₂ (λ (w : World) (place : ℕ). turn (with_mind minds side (bare_instruction there.action ∷ [])) seed w place t) matches.world matches.place
      ∙ outcome_wiped m.world m.place l.address matches.states matches.known matches.valid t in
      let goes : address_from side seed l.world.cells l.place (place_in l.world t) there (l.address t) ≡ address_from side seed m.world.cells m.place (place_in m.world t) there (l.address t) =
      ap₂ (λ (w : World) (place : ℕ). address_from side seed w.cells place (place_in w t) there (l.address t)) matches.world matches.place
      ∙ address_wiped m.world m.place l.address matches.states matches.known matches.valid t in
      record {
        world = ap₂ (λ (w : World) (outcome : Outcome). with_cells w outcome.cells) matches.world same;
        place = ap₂ (λ (place : ℕ) (outcome : Outcome). place + one_if outcome.drew) matches.place same;
        states = subst (λ (address : Address). OfAll (InState (with_address l.address t address)) (turn real seed m.world m.place t).cells) (sym goes)
            (turn_states m.world m.place l.address matches.states matches.known matches.valid t);
        known = with_address-has (HasPlace list) l.address t (address_from side seed l.world.cells l.place (place_in l.world t) there (l.address t)) matches.known
            (address_from-has (HasPlace list) side seed l.world.cells l.place there (l.address t) (matches.known t) (leads_to (l.address t)) (place_in l.world t));
        valid = kept.valid;
        fits = kept.fits;
      }

  -- turns
  Matches-turns : AreSound real → (m : Moment) (l : LabelMoment) (from n : ℕ) → Matches m l → Matches (after_turns real seed m from n) (label_turns main side minds seed l from n)
  Matches-turns sound m l from zero matches = matches
  Matches-turns sound m l from (suc n) matches =
      Matches-turn sound (after_turns real seed m from n) (label_turns main side minds seed l from n) (from + n) (Matches-turns sound m l from n matches)

  -- a round
  Matches-round : AreSound real → (m : Moment) (l : LabelMoment) → Matches m l → Matches (after_round real seed m) (label_turns main side minds seed l 0 l.world.ids)
  unfolding after_round
  Matches-round sound m l matches =
      subst (λ (n : ℕ). Matches (after_turns real seed m 0 m.world.ids) (label_turns main side minds seed l 0 n)) (sym (ap (λ (w : World). w.ids) matches.world))
      (Matches-turns sound m l 0 m.world.ids matches)

  -- rounds
  Matches-rounds : AreSound real → (m : Moment) (l : LabelMoment) (r : ℕ) → Matches m l → Matches (after_rounds real seed m r) (label_rounds main side minds seed l r)
  Matches-rounds sound m l zero matches = matches
  Matches-rounds sound m l (suc r) matches = Matches-round sound (after_rounds real seed m r) (label_rounds main side minds seed l r) (Matches-rounds sound m l r matches)

  -- if all ants of a world are in state 0, wiping out their states doesn't change the world
  wiped-zero : (own : Colour) (state : ℕ) → state ≡ 0 → wiped side own state ≡ state
  wiped-zero own state zero_state = cond_both (same_colour side own) 0 state (λ n. n ≡ state) (λ _. sym zero_state) (λ _. refl)

  wiped_ant : (o : Option Ant) → ((ant : Ant) → o ≡ Some ant → ant.state ≡ 0) → o ≡ option_map (renumbered_ant (wiped side)) o
  wiped_ant None zeros = refl
  wiped_ant (Some ant) zeros = ap (λ (n : ℕ). let same : Ant = record ant { state = n } in Some same) (sym (wiped-zero ant.colour ant.state (zeros ant refl)))

  wiped_start : (w : World) → ((p : Pos) (ant : Ant) → (w.cells p).ant ≡ Some ant → ant.state ≡ 0) → w ≡ renumbered_world (wiped side) w
  wiped_start w zeros =
      ap (λ (cells : Cells). with_cells w cells) (fun_ext λ p.
      ap (λ (o : Option Ant). let cell : Cell = record (w.cells p) { ant = o } in cell) (wiped_ant (w.cells p).ant (zeros p)))

  -- the start
  Matches-start : (w : World) → Valid w → Fits w real → ((p : Pos) (ant : Ant) → (w.cells p).ant ≡ Some ant → ant.state ≡ 0) → Matches (start_of w) (label_start main w)
  Matches-start w valid fits zeros = record {
    world = wiped_start w zeros;
    place = refl;
    states = λ p ant is mine. zeros p ant is ∙ sym begins_zero;
    known = λ t. begins;
    valid = valid;
    fits = fits;
  }

  -- an ant gets its state back from its address
  ant_again : (addresses : ℕ → Address) (ant : Ant) → InState addresses ant → (own : Colour) → ant.colour ≡ own → (if same_colour side own then number (addresses ant.id) else wiped side own ant.state) ≡ ant.state
  ant_again addresses ant state own is = go side own (λ same. state (is ∙ same)) where
    go : (s o : Colour) → (o ≡ s → ant.state ≡ number (addresses ant.id)) → (if same_colour s o then number (addresses ant.id) else wiped s o ant.state) ≡ ant.state
    go Red Red back = sym (back refl)
    go Red Black back = refl
    go Black Red back = refl
    go Black Black back = sym (back refl)

  option_again : (addresses : ℕ → Address) (o : Option Ant) → ((ant : Ant) → o ≡ Some ant → InState addresses ant) → o ≡ option_map (numbered_ant list side addresses) (option_map (renumbered_ant (wiped side)) o)
  option_again addresses None states = refl
  option_again addresses (Some ant) states =
      ap (λ (n : ℕ). let same : Ant = record ant { state = n } in Some same) (sym (ant_again addresses ant (states ant refl) ant.colour refl))

  world_again : (w : World) (addresses : ℕ → Address) → OfAll (InState addresses) w.cells →
      w ≡ with_cells w (λ p. numbered_cell list side addresses (renumbered_cell (wiped side) (w.cells p)))
  world_again w addresses states =
      ap (λ (cells : Cells). with_cells w cells) (fun_ext λ p.
      ap (λ (o : Option Ant). let cell : Cell = record (w.cells p) { ant = o } in cell) (option_again addresses (w.cells p).ant (states p)))

  -- so a moment is the one that it matches, with numbers for addresses
  Matches-same : (m : Moment) (l : LabelMoment) → Matches m l → m ≡ numbered_moment list side l
  Matches-same m l matches =
      ap₂ (λ (w : World) (place : ℕ). let moment : Moment = record { world = w; place = place } in moment) (world_again m.world l.address matches.states) (sym matches.place)
      ∙ ap (λ (w : World). numbered_moment list side (record l { world = w })) (sym matches.world)

-- the games are alike
pub game_labelled : (main : Items) (brain : List Instr) (list : List Address) → IsAssembled main brain list →
    (side : Colour) (minds : Minds) (seed width height : ℕ) (kinds : List Kind) (r : ℕ) → AreSound (with_mind minds side brain) → Valid (world_of (opening width height kinds)) →
    after_rounds (with_mind minds side brain) seed (start_of (world_of (opening width height kinds))) r
    ≡ numbered_moment list side (label_game main side minds seed width height kinds r)
game_labelled main brain list assembled side minds seed width height kinds r sound valid =
    let start : World = world_of (opening width height kinds) in
    Matches-same main brain list assembled side minds seed (after_rounds (with_mind minds side brain) seed (start_of start) r) (label_game main side minds seed width height kinds r)
    (Matches-rounds main brain list assembled side minds seed sound (start_of start) (label_start main start) r
    (Matches-start main brain list assembled side minds seed start valid
    (Fits-opening width height kinds (with_mind minds side brain) sound.red.some sound.black.some)
    (λ p ant is. ap (λ (a : Ant). a.state) (opening-new width height kinds p ant is))))
