-- An idle turn has no report, so the reports of some ids are those of the ids whose ants act, once the others rest.
use Rattle.std.proofs.Common.{◌≡◌, ℕ, zero, suc, ◌+◌, ◌-◌, Bool, true, false, List, [], ◌∷◌, ◌++◌, Option, Some, None, refl, sym, ap, ap₂, ◌∙◌, add-zero, append-nil, append_assoc, arith}
use Rattle.std.specs.Prelude.{nat_eq}
use Rattle.std.proofs.lemmas.Bool.{cond_both, eqb-true}
use Rattle.hex_geometry.specs.declared.position.Pos.{Pos}
use Rattle.cell_world.specs.Resting.{ActsListed, ids_where, one_less}
use Rattle.cell_world.specs.Valid.{Valid}
use Rattle.cell_world.specs.World.{World, place_in}
use Rattle.cell_world.proofs.Places.{Holder, place_in-ant}
use Rattle.cell_world.proofs.RestingLemmas.{one_less-before}
use Rattle.ant_turn.specs.Keeps.{Keeps}
use Rattle.ant_turn.specs.Minds.{AreSound, Fits, Minds}
use Rattle.ant_turn.specs.Rounds.{Moment, after_turn, after_turns}
use Rattle.ant_turn.proofs.KeptByRounds.{Keeps-after_turn, after_turns-then}
use Rattle.ant_turn.proofs.RestingChunks.{TellsWhoActs, TellsWhoActs-next, rested-acting, rested_moment, turn-acting, turn-resting}
use Rattle.match_run.specs.Inner.Watch.{told_in_listed}
use Rattle.match_run.specs.Watch.{IgnoresRest}
use Rattle.match_run.specs.Told.{Telling, told_in_turns}
use Rattle.match_run.proofs.ToldLemmas.{told_in_turns-more}

-- a count that isn't 0
some_rest : (n : ℕ) → false ≡ nat_eq n 0 → n ≡ n - 1 + 1
some_rest zero e = absurd (cc)
some_rest (suc n) e = omega arith

module _ {A : Type 0} (minds : Minds) (seed : ℕ) (telling : Telling A) where
  -- the reports of some turns and then of more
  pub told_in_turns-then : (m : Moment) (from k n : ℕ) → told_in_turns telling minds seed m from (k + n) ≡ told_in_turns telling minds seed m from k ++ told_in_turns telling minds seed (after_turns minds seed m from k) (from + k) n
  told_in_turns-then m from k zero = ap (told_in_turns telling minds seed m from) (add-zero k) ∙ sym (append-nil (told_in_turns telling minds seed m from k))
  told_in_turns-then m from k (suc n) =
      let first : List A = told_in_turns telling minds seed m from k in
      let later : Moment = after_turns minds seed m from k in
      ap (told_in_turns telling minds seed m from) (let e : k + suc n ≡ (k + n) + 1 = omega arith in e)
      ∙ told_in_turns-more minds seed telling m from (k + n)
      ∙ ap₂ (λ (told more : List A). told ++ more) (told_in_turns-then m from k n)
      (ap₂ telling (sym (after_turns-then minds seed m from k n)) (let e : from + (k + n) ≡ (from + k) + n = omega arith in e))
      ∙ append_assoc first (told_in_turns telling minds seed later (from + k) n) (telling (after_turns minds seed later (from + k) n) ((from + k) + n))

  -- the report of a turn and then of more
  told_in_turns-first : (m : Moment) (from n : ℕ) → told_in_turns telling minds seed m from (suc n) ≡ telling m from ++ told_in_turns telling minds seed (after_turn minds seed m from) (from + 1) n
  told_in_turns-first m from n =
      ap (told_in_turns telling minds seed m from) (let e : suc n ≡ 1 + n = omega arith in e)
      ∙ told_in_turns-then m from 1 n
      ∙ ap (λ t. telling m t ++ told_in_turns telling minds seed (after_turn minds seed m t) (from + 1) n) (add-zero from)

  module _ (ignores : IgnoresRest telling) where
    -- an id that doesn't act has no report
    untold : (acts : ℕ → Bool) (m : Moment) (t n : ℕ) → TellsWhoActs acts m.world t (suc n) → acts t ≡ false → (place : Option Pos) → place_in m.world t ≡ place → telling m t ≡ []
    untold acts m t n tells rests None dead = ignores.dead m t dead
    untold acts m t n tells rests (Some p) found =
        let it : Holder t (m.world.cells p).ant = place_in-ant m.world t p found in
        let idle : false ≡ nat_eq it.ant.resting 0 = sym rests ∙ ap acts (sym it.id) ∙ tells p it.ant it.is (omega (arith, it.id)) (omega (arith, it.id)) in
        ignores.resting m t p it.ant (it.ant.resting - 1) found it.is (some_rest it.ant.resting idle)

    -- the reports of n ids are those of the acting ones, once those that rest have one turn less to rest
    told-resting_first : (acts : ℕ → Bool) (m : Moment) (from n to : ℕ) → from + n ≡ to → AreSound minds → Valid m.world → Fits m.world minds → TellsWhoActs acts m.world from n →
        told_in_listed telling minds seed (rested_moment from to m) (ids_where acts from n) ≡ told_in_turns telling minds seed m from n
    told-resting_first acts m from zero to all sound valid fits tells = refl
    told-resting_first acts m from (suc n) to all sound valid fits tells =
        let next : Moment = after_turn minds seed m from in
        let later : List ℕ = ids_where acts (from + 1) n in
        let more : List A = told_in_turns telling minds seed next (from + 1) n in
        let kept : Keeps minds m.world next.world = Keeps-after_turn minds seed m from sound valid fits in
        let rest : told_in_listed telling minds seed (rested_moment (from + 1) to next) later ≡ more =
        told-resting_first acts next (from + 1) n to (omega (arith, all)) sound kept.valid kept.fits (TellsWhoActs-next acts minds seed m from n tells) in
        cond_both (acts from) (from ∷ later) later
        (λ ids. told_in_listed telling minds seed (rested_moment from to m) ids ≡ told_in_turns telling minds seed m from (suc n))
        (λ ready. ap₂ (λ (told then : List A). told ++ then) (first ready) (ap (λ (now : Moment). told_in_listed telling minds seed now later) (turn-acting acts minds seed m from n to tells ready) ∙ rest) ∙ sym (told_in_turns-first m from n))
        (λ rests.
        ap (λ (now : Moment). told_in_listed telling minds seed now later) (turn-resting acts minds seed m from n to (omega (arith, all)) valid tells rests (place_in m.world from) refl)
        ∙ rest
        ∙ ap (λ (told : List A). told ++ more) (sym (untold acts m from n tells rests (place_in m.world from) refl))
        ∙ sym (told_in_turns-first m from n))
      where
        first : acts from ≡ true → telling (rested_moment from to m) from ≡ telling m from
        first ready =
            ap (λ (w : World). let now : Moment = record m { world = w } in telling now from)
            (rested-acting m.world from to λ p ant is own.
            eqb-true ant.resting 0 (sym (tells p ant is (omega (arith, own)) (omega (arith, own))) ∙ ap acts own ∙ ready))
            ∙ ignores.others (one_less (from + 1) to) from (λ n. one_less-before (from + 1) to from n (omega arith)) m

    -- so it is of the ids that were listed
    pub told-listed : (m : Moment) (from n : ℕ) (listed : List ℕ) → ActsListed m.world from n listed → AreSound minds → Valid m.world → Fits m.world minds →
        told_in_listed telling minds seed (rested_moment from (from + n) m) listed ≡ told_in_turns telling minds seed m from n
    told-listed m from n listed told sound valid fits =
        ap (told_in_listed telling minds seed (rested_moment from (from + n) m)) told.are ∙ told-resting_first told.acts m from n (from + n) refl sound valid fits told.each
