-- Of some ids the turns of those whose ants rest may be taken first: a law of chunks of a round.
use Rattle.std.proofs.Common.{◌≡◌, ◌≢◌, inl, inr, ℕ, zero, suc, ◌+◌, ◌-◌, ◌<◌, ◌≤◌, Bool, true, false, List, [], ◌∷◌, Option, Some, None, refl, sym, ap, ◌∙◌, subst, arith, add-zero}
use Rattle.std.specs.Prelude.{nat_eq, option_map}
use Rattle.std.specs.List.{AllByRecursion}
use Rattle.std.proofs.Math.Path.{fun_ext}
use Rattle.std.proofs.lemmas.Bool.{both_ways, cases_eq, eqb-true, cond_both}
use Rattle.std.proofs.lemmas.Option.{same_Some}
use Rattle.hex_geometry.specs.declared.position.Pos.{Pos}
use Rattle.hex_geometry.specs.Neighbourhood.{adjacent_pos}
use Rattle.cell_world.specs.declared.ant.Ant.{Ant}
use Rattle.cell_world.specs.declared.cell.Cell.{Cell}
use Rattle.cell_world.specs.Cell.{holds_id}
use Rattle.cell_world.specs.Resting.{ActsListed, ids_where, one_less, rested, with_rest, with_rest_in}
use Rattle.cell_world.specs.Valid.{Valid}
use Rattle.cell_world.specs.World.{Cells, World, place_in, put, put_cell, with_cells}
use Rattle.cell_world.proofs.Places.{Holder, holds_id-own, place_in-ant, place_in-none}
use Rattle.cell_world.proofs.Puts.{cases_pos, put_cell-other, put_cell-same}
use Rattle.cell_world.proofs.RestingLemmas.{nothing_among, one_less-among, one_less-before, one_less-fewer, one_less-none}
use Rattle.brain_read.specs.declared.instr.Instr.{Instr}
use Rattle.ant_turn.specs.Keeps.{Keeps}
use Rattle.ant_turn.specs.Kills.{places_around}
use Rattle.ant_turn.specs.Listed.{AreUp, after_listed}
use Rattle.ant_turn.specs.Minds.{AreSound, Fits, Minds}
use Rattle.ant_turn.specs.Rounds.{Moment, after_turn, after_turns}
use Rattle.ant_turn.specs.Sheet.{Sheet}
use Rattle.ant_turn.specs.Turn.{Outcome, arrived, left_by_ant, stepped, turn, with_ant}
use Rattle.ant_turn.proofs.KeptByChecks.{check_all-ant}
use Rattle.ant_turn.proofs.KeptByRounds.{Keeps-after_turn, after_turns-then}
use Rattle.ant_turn.proofs.QuietLemmas.{after_turn-dead, after_turn-rests}
use Rattle.ant_turn.proofs.RestingTurns.{after_turn-with_rests}
use Rattle.ant_turn.proofs.TurnParts.{Does, turn_parts}

-- the ant that a step moved is the one on the cell ahead, and its own cell is empty
stepped-ant : (sheet : Sheet) (cells : Cells) (p : Pos) (ant : Ant) (ahead : Pos) (next : ℕ) (q : Pos) (other : Ant) → (stepped sheet cells p ant ahead next q).ant ≡ Some other → other.id ≢ ant.id → (cells q).ant ≡ Some other
unfolding stepped
stepped-ant sheet cells p ant ahead next q other is apart =
    let left : Cells = put_cell cells p (left_by_ant (cells p)) in
    let new : Cell = with_ant (cells ahead) (arrived sheet ant next) in
    elim (cases_pos ahead q) [
      | inl one ↦
          let moved : Some (arrived sheet ant next) ≡ Some other = ap (λ (c : Cell). c.ant) (sym (put_cell-same left ahead new) ∙ ap (put_cell left ahead new) one) ∙ is in
          absurd (apart (sym (ap (λ (a : Ant). a.id) (same_Some (arrived sheet ant next) other moved))))
      | inr beyond ↦ elim (cases_pos p q) [
        | inl own ↦
            let none : None ≡ Some other = ap (λ (c : Cell). c.ant) (sym (put_cell-same cells p (left_by_ant (cells p))) ∙ ap left own ∙ sym (put_cell-other left ahead new q beyond)) ∙ is in
            absurd (cc)
        | inr there ↦ ap (λ (c : Cell). c.ant) (sym (put_cell-other left ahead new q beyond ∙ put_cell-other cells p (left_by_ant (cells p)) q there)) ∙ is
      ]
    ]

-- an ant that stays or goes leaves no other ant anew
does-others : (instruction : Instr) (sheet : Sheet) (cells : Cells) (p : Pos) (ant : Ant) (outcome : Outcome) (q : Pos) (other : Ant) → Does instruction sheet cells p ant outcome → (outcome.cells q).ant ≡ Some other → other.id ≢ ant.id → (cells q).ant ≡ Some other
does-others instruction sheet cells p ant outcome q other (inl stayed) is apart =
    let there : (put_cell cells p stayed.new q).ant ≡ Some other = ap (λ (now : Cells). (now q).ant) (sym stayed.cells_after) ∙ is in
    elim (cases_pos p q) [
      | inl one ↦
          let own : Some stayed.stays.after ≡ Some other = sym stayed.stays.holds ∙ ap (λ (c : Cell). c.ant) (sym (put_cell-same cells p stayed.new) ∙ ap (put_cell cells p stayed.new) one) ∙ there in
          absurd (apart (sym (ap (λ (a : Ant). a.id) (same_Some stayed.stays.after other own)) ∙ stayed.stays.same_id))
      | inr elsewhere ↦ ap (λ (c : Cell). c.ant) (sym (put_cell-other cells p stayed.new q elsewhere)) ∙ there
    ]
does-others instruction sheet cells p ant outcome q other (inr went) is apart =
    let ahead : Pos = adjacent_pos p ant.facing in
    stepped-ant sheet cells p ant ahead went.next q other
    (check_all-ant sheet (places_around ahead) (stepped sheet cells p ant ahead went.next) q other (ap (λ (o : Outcome). (o.cells q).ant) (sym went.is) ∙ is)) apart

-- after the turn of an id each other ant is unchanged, and where it was
turn-others : (minds : Minds) (seed : ℕ) (w : World) (place t : ℕ) (q : Pos) (other : Ant) → ((turn minds seed w place t).cells q).ant ≡ Some other → other.id ≢ t → (w.cells q).ant ≡ Some other
turn-others minds seed w place t q other is apart =
    elim (turn_parts minds seed w place t) [
      | inl nothing ↦ ap (λ (o : Outcome). (o.cells q).ant) (sym nothing) ∙ is
      | inr acted ↦
          let it : Holder t (w.cells acted.p).ant = place_in-ant w t acted.p acted.place in
          let own : acted.ant.id ≡ t = ap (λ (a : Ant). a.id) (same_Some acted.ant it.ant (sym acted.is ∙ it.is)) ∙ it.id in
          does-others _ minds.sheet w.cells acted.p acted.ant (turn minds seed w place t) q other acted.does is (λ same. apart (same ∙ own))
    ]

-- also at a moment
pub after_turn-others : (minds : Minds) (seed : ℕ) (m : Moment) (t : ℕ) (q : Pos) (other : Ant) → ((after_turn minds seed m t).world.cells q).ant ≡ Some other → other.id ≢ t → (m.world.cells q).ant ≡ Some other
unfolding after_turn
after_turn-others minds seed m t q other is apart = turn-others minds seed m.world m.place t q other is apart

-- ids whose ants don't rest are so after the turn of another
AreUp-turn : (minds : Minds) (seed : ℕ) (m : Moment) (t : ℕ) (ids : List ℕ) → AllByRecursion (λ u. u ≢ t) ids → AreUp m.world ids → AreUp (after_turn minds seed m t).world ids
unfolding after_turn
AreUp-turn minds seed m t [] apart up = tt
AreUp-turn minds seed m t (u ∷ ids) apart up =
    (λ p ant is same. up.0 p ant (turn-others minds seed m.world m.place t p ant is (λ one. apart.0 (sym same ∙ one))) same, up.1, up.2, AreUp-turn minds seed m t ids apart.1 up.3)

pub AreUp-next : (minds : Minds) (seed : ℕ) (m : Moment) (t : ℕ) (ids : List ℕ) → AreUp m.world (t ∷ ids) → AreUp (after_turn minds seed m t).world ids
AreUp-next minds seed m t ids up = AreUp-turn minds seed m t ids up.2 up.3

-- two ways to change the counts that agree on each ant
same_rest : (f g : ℕ → ℕ → ℕ) (cell : Cell) → ((ant : Ant) → cell.ant ≡ Some ant → f ant.id ant.resting ≡ g ant.id ant.resting) → with_rest_in f cell ≡ with_rest_in g cell
same_rest f g cell agree = let with : Option Ant → Cell = λ o. record cell { ant = o } in ap with (each cell.ant agree)
  where
    each : (o : Option Ant) → ((ant : Ant) → o ≡ Some ant → f ant.id ant.resting ≡ g ant.id ant.resting) → option_map (with_rest f) o ≡ option_map (with_rest g) o
    each None same = refl
    each (Some ant) same = ap (λ n. let after : Ant = record ant { resting = n } in Some after) (same ant refl)

-- a way that changes no count
no_rest : (f : ℕ → ℕ → ℕ) (cell : Cell) → ((t n : ℕ) → f t n ≡ n) → with_rest_in f cell ≡ cell
no_rest f cell same = let with : Option Ant → Cell = λ o. record cell { ant = o } in ap with (each cell.ant)
  where
    each : (o : Option Ant) → option_map (with_rest f) o ≡ o
    each None = refl
    each (Some ant) = ap (λ n. let after : Ant = record ant { resting = n } in Some after) (same ant.id ant.resting)

-- the moment in which the ants of these ids that rest have one turn less to rest
abbrev pub rested_moment : ℕ → ℕ → Moment → Moment
rested_moment from to m = record m { world = rested from to m.world }

-- the test tells who of the n ids from `from` on acts
abbrev pub TellsWhoActs : (ℕ → Bool) → World → ℕ → ℕ → Type 0
TellsWhoActs acts w from n = (p : Pos) (ant : Ant) → (w.cells p).ant ≡ Some ant → from ≤ ant.id → ant.id < from + n → acts ant.id ≡ nat_eq ant.resting 0

-- so it does after the turn of the first
pub TellsWhoActs-next : (acts : ℕ → Bool) (minds : Minds) (seed : ℕ) (m : Moment) (from n : ℕ) → TellsWhoActs acts m.world from (suc n) → TellsWhoActs acts (after_turn minds seed m from).world (from + 1) n
TellsWhoActs-next acts minds seed m from n tells p ant is late early =
    tells p ant (after_turn-others minds seed m from p ant is (λ one. let e : ant.id ≡ from = one in omega arith)) (omega arith) (omega arith)

-- if the first acts, it doesn't have to be among those with one less to rest
pub rested-acting : (w : World) (from to : ℕ) → ((p : Pos) (ant : Ant) → (w.cells p).ant ≡ Some ant → ant.id ≡ from → ant.resting ≡ 0) → rested from to w ≡ rested (from + 1) to w
rested-acting w from to up =
    ap (with_cells w) (fun_ext λ p. same_rest (one_less from to) (one_less (from + 1) to) (w.cells p) λ ant is.
    elim (cases_eq ant.id from) [
      | inl own ↦
          ap (one_less from to ant.id) (up p ant is own) ∙ one_less-none from to ant.id ∙ sym (one_less-none (from + 1) to ant.id) ∙ ap (one_less (from + 1) to ant.id) (sym (up p ant is own))
      | inr apart ↦ sym (one_less-fewer from to ant.id ant.resting apart)
    ])

-- if it is dead, neither
rested-dead : (w : World) (from to : ℕ) → Valid w → place_in w from ≡ None → rested from to w ≡ rested (from + 1) to w
rested-dead w from to valid dead =
    rested-acting w from to λ p ant is own. absurd (both_ways (holds_id from (w.cells p)) (place_in-none w from p valid dead) (ap (λ t. holds_id t (w.cells p)) (sym own) ∙ holds_id-own (w.cells p) ant is))

-- if it rests, one less to rest is its turn
rested-resting : (w : World) (from to : ℕ) (p : Pos) (ant : Ant) (left : ℕ) → Valid w → from < to → (w.cells p).ant ≡ Some ant → ant.id ≡ from → ant.resting ≡ left + 1 →
    rested from to w ≡ rested (from + 1) to (put w p (with_ant (w.cells p) (record ant { resting = left })))
rested-resting w from to p ant left valid early is own tired =
    let new : Cell = with_ant (w.cells p) (record ant { resting = left }) in
    let with : Option Ant → Cell = λ o. record (w.cells p) { ant = o } in
    let less : one_less from to ant.id ant.resting ≡ one_less (from + 1) to ant.id left =
    one_less-among from to ant.id ant.resting (omega (arith, own)) (omega (arith, own, early))
    ∙ (let e : ant.resting - 1 ≡ left = omega (arith, tired) in e)
    ∙ sym (one_less-before (from + 1) to ant.id left (omega (arith, own))) in
    let here : with_rest_in (one_less from to) (w.cells p) ≡ with_rest_in (one_less (from + 1) to) new =
    ap (λ o. with (option_map (with_rest (one_less from to)) o)) is ∙ ap (λ n. let after : Ant = record ant { resting = n } in with (Some after)) less in
    ap (with_cells w) (fun_ext λ q. elim (cases_pos p q) [
      | inl one ↦
          ap (λ r. with_rest_in (one_less from to) (w.cells r)) (sym one)
          ∙ here
          ∙ ap (with_rest_in (one_less (from + 1) to)) (sym (put_cell-same w.cells p new) ∙ ap (put_cell w.cells p new) one)
      | inr apart ↦
          same_rest (one_less from to) (one_less (from + 1) to) (w.cells q)
          (λ other there. sym (one_less-fewer from to other.id other.resting (λ same. apart (valid.once from p q
          (ap (λ t. holds_id t (w.cells p)) (sym own) ∙ holds_id-own (w.cells p) ant is)
          (ap (λ t. holds_id t (w.cells q)) (sym same) ∙ holds_id-own (w.cells q) other there)))))
          ∙ ap (with_rest_in (one_less (from + 1) to)) (sym (put_cell-other w.cells p new q apart))
    ])

-- a count that isn't 0
tired_by : (n : ℕ) → false ≡ nat_eq n 0 → n ≡ n - 1 + 1
tired_by zero e = absurd (cc)
tired_by (suc n) e = omega arith

-- the turn of the first, if it doesn't act
pub turn-resting : (acts : ℕ → Bool) (minds : Minds) (seed : ℕ) (m : Moment) (from n to : ℕ) → from < to → Valid m.world → TellsWhoActs acts m.world from (suc n) → acts from ≡ false →
    (place : Option Pos) → place_in m.world from ≡ place → rested_moment from to m ≡ rested_moment (from + 1) to (after_turn minds seed m from)
turn-resting acts minds seed m from n to early valid tells rests None dead =
    ap (λ (w : World). let now : Moment = record m { world = w } in now) (rested-dead m.world from to valid dead)
    ∙ ap (rested_moment (from + 1) to) (sym (after_turn-dead minds seed m from dead))
turn-resting acts minds seed m from n to early valid tells rests (Some p) found =
    let it : Holder from (m.world.cells p).ant = place_in-ant m.world from p found in
    let idle_count : false ≡ nat_eq it.ant.resting 0 = sym rests ∙ ap acts (sym it.id) ∙ tells p it.ant it.is (omega (arith, it.id)) (omega (arith, it.id)) in
    let tired : it.ant.resting ≡ it.ant.resting - 1 + 1 = tired_by it.ant.resting idle_count in
    ap (λ (w : World). let now : Moment = record m { world = w } in now) (rested-resting m.world from to p it.ant (it.ant.resting - 1) valid early it.is it.id tired)
    ∙ ap (rested_moment (from + 1) to) (sym (after_turn-rests minds seed m from p it.ant (it.ant.resting - 1) found it.is tired))

-- the turn of the first, if it acts
pub turn-acting : (acts : ℕ → Bool) (minds : Minds) (seed : ℕ) (m : Moment) (from n to : ℕ) → TellsWhoActs acts m.world from (suc n) → acts from ≡ true →
    after_turn minds seed (rested_moment from to m) from ≡ rested_moment (from + 1) to (after_turn minds seed m from)
turn-acting acts minds seed m from n to tells ready =
    ap (λ (w : World). let now : Moment = record m { world = w } in after_turn minds seed now from)
    (rested-acting m.world from to λ p ant is own.
    eqb-true ant.resting 0 (sym (tells p ant is (omega (arith, own)) (omega (arith, own))) ∙ ap acts own ∙ ready))
    ∙ after_turn-with_rests (one_less (from + 1) to) from (λ rest. one_less-before (from + 1) to from rest (omega arith)) minds seed m

-- a turn and then those of the next ids
turns_from_front : (minds : Minds) (seed : ℕ) (m : Moment) (from n : ℕ) → after_turns minds seed (after_turn minds seed m from) (from + 1) n ≡ after_turns minds seed m from (suc n)
turns_from_front minds seed m from n =
    ap (λ t. after_turns minds seed (after_turn minds seed m t) (from + 1) n) (sym (add-zero from))
    ∙ after_turns-then minds seed m from 1 n
    ∙ ap (after_turns minds seed m from) (let e : 1 + n ≡ suc n = omega arith in e)

-- the turns of n ids are those of the acting ones, once those that rest have one turn less to rest
pub resting_first : (acts : ℕ → Bool) (minds : Minds) (seed : ℕ) (m : Moment) (from n to : ℕ) → from + n ≡ to → AreSound minds → Valid m.world → Fits m.world minds → TellsWhoActs acts m.world from n →
    after_listed minds seed (rested_moment from to m) (ids_where acts from n) ≡ after_turns minds seed m from n
resting_first acts minds seed m from zero to all sound valid fits tells =
    ap (λ k. rested_moment from k m) (sym all ∙ add-zero from)
    ∙ ap (λ cells. let now : Moment = record m { world = with_cells m.world cells } in now) (fun_ext λ p. no_rest (one_less from from) (m.world.cells p) (nothing_among from))
resting_first acts minds seed m from (suc n) to all sound valid fits tells =
    let next : Moment = after_turn minds seed m from in
    let kept : Keeps minds m.world next.world = Keeps-after_turn minds seed m from sound valid fits in
    let rest : after_listed minds seed (rested_moment (from + 1) to next) (ids_where acts (from + 1) n) ≡ after_turns minds seed next (from + 1) n =
    resting_first acts minds seed next (from + 1) n to (omega (arith, all)) sound kept.valid kept.fits (TellsWhoActs-next acts minds seed m from n tells) in
    cond_both (acts from) (from ∷ ids_where acts (from + 1) n) (ids_where acts (from + 1) n)
    (λ ids. after_listed minds seed (rested_moment from to m) ids ≡ after_turns minds seed m from (suc n))
    (λ ready. ap (λ (now : Moment). after_listed minds seed now (ids_where acts (from + 1) n)) (turn-acting acts minds seed m from n to tells ready) ∙ rest ∙ turns_from_front minds seed m from n)
    (λ rests. ap (λ (now : Moment). after_listed minds seed now (ids_where acts (from + 1) n)) (turn-resting acts minds seed m from n to (omega (arith, all)) valid tells rests (place_in m.world from) refl) ∙ rest ∙ turns_from_front minds seed m from n)

-- listed ids lie from the first one on
ids_where-late : (acts : ℕ → Bool) (from n least : ℕ) → least < from → AllByRecursion (λ u. u ≢ least) (ids_where acts from n)
ids_where-late acts from zero least early = tt
ids_where-late acts from (suc n) least early =
    cond_both (acts from) (from ∷ ids_where acts (from + 1) n) (ids_where acts (from + 1) n) (AllByRecursion (λ u. u ≢ least))
    (λ _. (λ same. let e : from ≡ least = same in omega arith, ids_where-late acts (from + 1) n least (omega (arith, early))))
    (λ _. ids_where-late acts (from + 1) n least (omega (arith, early)))

-- their ants don't rest, even if others have less to rest
AreUp-listed : (acts : ℕ → Bool) (w : World) (first last from n : ℕ) → from + n ≤ w.ids → TellsWhoActs acts w from n → AreUp (rested first last w) (ids_where acts from n)
AreUp-listed acts w first last from zero made tells = tt
AreUp-listed acts w first last from (suc n) made tells =
    let later : AreUp (rested first last w) (ids_where acts (from + 1) n) =
    AreUp-listed acts w first last (from + 1) n (omega (arith, made)) (λ p ant is late early. tells p ant is (omega (arith, late)) (omega (arith, early))) in
    cond_both (acts from) (from ∷ ids_where acts (from + 1) n) (ids_where acts (from + 1) n) (AreUp (rested first last w))
    (λ ready. (λ p ant is own. up_one ready (w.cells p).ant (λ before at. tells p before at) ant is own, omega (arith, made), ids_where-late acts (from + 1) n from (omega arith), later))
    (λ _. later)
  where
    up_one : acts from ≡ true → (o : Option Ant) → ((ant : Ant) → o ≡ Some ant → from ≤ ant.id → ant.id < from + suc n → acts ant.id ≡ nat_eq ant.resting 0) → (ant : Ant) → option_map (with_rest (one_less first last)) o ≡ Some ant → ant.id ≡ from → ant.resting ≡ 0
    up_one ready None told ant is own = absurd (cc)
    up_one ready (Some before) told ant is own =
        let same : with_rest (one_less first last) before ≡ ant = same_Some (with_rest (one_less first last) before) ant is in
        let id : before.id ≡ from = ap (λ (a : Ant). a.id) same ∙ own in
        let none : before.resting ≡ 0 = eqb-true before.resting 0 (sym (told before refl (omega (arith, id)) (omega (arith, id))) ∙ ap acts id ∙ ready) in
        sym (ap (λ (a : Ant). a.resting) same) ∙ ap (one_less first last before.id) none ∙ one_less-none first last before.id

-- the result of a chunk of a round, from what was reported of it
module _ (minds : Minds) (seed : ℕ) (m : Moment) (from n : ℕ) (listed : List ℕ) (told : ActsListed m.world from n listed) where
  pub chunk-moment : AreSound minds → Valid m.world → Fits m.world minds → after_listed minds seed (rested_moment from (from + n) m) listed ≡ after_turns minds seed m from n
  chunk-moment sound valid fits = ap (after_listed minds seed (rested_moment from (from + n) m)) told.are ∙ resting_first told.acts minds seed m from n (from + n) refl sound valid fits told.each

  pub chunk-up : from + n ≤ m.world.ids → AreUp (rested from (from + n) m.world) listed
  chunk-up made = subst (AreUp (rested from (from + n) m.world)) (sym told.are) (AreUp-listed told.acts m.world from (from + n) from n made told.each)
