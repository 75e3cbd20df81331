-- How often each state was executed, counted turn by turn.
use Rattle.std.proofs.Common.{◌≡◌, ◌≢◌, inl, inr, ℕ, ◌+◌, ◌<◌, ◌≤◌, ◌^◌, ◌&&◌, Bool, true, false, cond, List, [], ◌∷◌, ◌++◌, length, filter, slice_index_or, refl, sym, ◌∙◌, ap, ap₂, subst, arith}
use Rattle.std.specs.Prelude.{◌==◌}
use Rattle.std.proofs.lemmas.Bool.{cases_eq, cases_lt, eq-eqb, eqb-true, false_from_ne_true}
use Rattle.std.proofs.lemmas.List.{get_or-set_other, get_or-set_same, get_or_append_left, get_or_push, length-append, length-set}
use Rattle.std.proofs.lemmas.List.Elements.{filter-append}
use Rattle.ant_turn.specs.Minds.{Minds, mind_of}
use Rattle.cell_world.specs.Cell.{one_if}
use Rattle.cell_world.specs.Colour.{foe_of, same_colour}
use Rattle.cell_world.specs.declared.ant.Colour.{Colour}
use Rattle.cell_world.specs.declared.ant.Colour.TheVariants.{Red, Black}
use Rattle.game_reports.specs.declared.executed.Executed.{Executed}
use Rattle.game_reports.specs.declared.tally.Tallies.{Tallies}
use Rattle.game_reports.specs.declared.tally.Tally.{Tally}
use Rattle.game_reports.specs.Inner.Tallies.{AreFew, AreTallied, CountsOn, IsTallied, counted_on, no_tally, tallies_of, tally_of}
use Rattle.game_reports.specs.Profile.{is_of, met_of, times_of}

-- room for many turns is room for fewer
pub AreFew-less : (tallies : Tallies) (left less : ℕ) → AreFew tallies left → less ≤ left → AreFew tallies less
AreFew-less tallies left less few within = record {
  times = λ colour state. omega (arith, few.times colour state, within);
  met = λ colour state. omega (arith, few.met colour state, within);
}

-- a test that one more element passes, or doesn't
filter-one : (test : Executed → Bool) (list : List Executed) (e : Executed) → length (filter test (list ++ e ∷ [])) ≡ length (filter test list) + one_if (test e)
filter-one test list e =
    ap length (filter-append test list (e ∷ []))
    ∙ length-append (filter test list) (filter test (e ∷ []))
    ∙ ap (λ n. length (filter test list) + n) (go (test e))
  where
    go : (b : Bool) → length (cond b (e ∷ []) []) ≡ one_if b
    go true = refl
    go false = refl

-- the tally of a state when one more was executed
tally_of-more : (list : List Executed) (e : Executed) (colour : Colour) (state : ℕ) → tally_of (list ++ e ∷ []) colour state
    ≡ record { times = times_of list colour state + one_if (is_of colour state e); met = met_of list colour state + one_if (is_of colour state e && e.met) }
unfolding times_of met_of
tally_of-more list e colour state =
    ap₂ (λ (t m : ℕ). let tally : Tally = record { times = t; met = m } in tally)
    (filter-one (is_of colour state) list e) (filter-one (λ x. is_of colour state x && x.met) list e)

-- what isn't of it leaves its tally
tally_of-other : (list : List Executed) (e : Executed) (colour : Colour) (state : ℕ) → is_of colour state e ≡ false → tally_of (list ++ e ∷ []) colour state ≡ tally_of list colour state
tally_of-other list e colour state other =
    tally_of-more list e colour state
    ∙ ap (λ b. let tally : Tally = record { times = times_of list colour state + one_if b; met = met_of list colour state + one_if (b && e.met) } in tally) other
    ∙ ap₂ (λ (t m : ℕ). let tally : Tally = record { times = t; met = m } in tally)
    (let one : times_of list colour state + 0 ≡ times_of list colour state = omega arith in one)
    (let two : met_of list colour state + 0 ≡ met_of list colour state = omega arith in two)

-- what is of it counts on
tally_of-own : (list : List Executed) (e : Executed) (colour : Colour) (state : ℕ) → is_of colour state e ≡ true → tally_of (list ++ e ∷ []) colour state ≡ record { times = times_of list colour state + 1; met = met_of list colour state + one_if e.met }
tally_of-own list e colour state own =
    tally_of-more list e colour state
    ∙ ap (λ b. let tally : Tally = record { times = times_of list colour state + one_if b; met = met_of list colour state + one_if (b && e.met) } in tally) own

same_colour-own : (colour : Colour) → same_colour colour colour ≡ true
same_colour-own Red = refl
same_colour-own Black = refl

same_colour-foe : (colour : Colour) → same_colour colour (foe_of colour) ≡ false
same_colour-foe Red = refl
same_colour-foe Black = refl

-- each colour is this one or its foe
by_colour : (own : Colour) (P : Colour → Type 0) → P own → P (foe_of own) → (colour : Colour) → P colour
by_colour Red P one other Red = one
by_colour Red P one other Black = other
by_colour Black P one other Red = other
by_colour Black P one other Black = one

module _ (minds : Minds) (old new : Tallies) (e : Executed) (counted : tallies_of new e.colour ≡ counted_on (tallies_of old e.colour) e) (other : tallies_of new (foe_of e.colour) ≡ tallies_of old (foe_of e.colour))
    (inside : e.state < length (tallies_of old e.colour)) where
  -- the tallies of its colour
  abbrev xs : List Tally
  xs = tallies_of old e.colour

  abbrev here : Tally
  here = slice_index_or xs e.state no_tally

  abbrev after : Tally
  after = record { times = here.times + 1; met = here.met + one_if e.met }

  at_state : slice_index_or (tallies_of new e.colour) e.state no_tally ≡ after
  at_state = ap (λ ys. slice_index_or ys e.state no_tally) counted ∙ get_or-set_same xs e.state after no_tally inside

  elsewhere : (state : ℕ) → state ≢ e.state → slice_index_or (tallies_of new e.colour) state no_tally ≡ slice_index_or xs state no_tally
  elsewhere state apart = ap (λ ys. slice_index_or ys state no_tally) counted ∙ get_or-set_other xs e.state state after no_tally apart

  as_long : (colour : Colour) → length (tallies_of new colour) ≡ length (tallies_of old colour)
  as_long = by_colour e.colour (λ colour. length (tallies_of new colour) ≡ length (tallies_of old colour)) (ap length counted ∙ length-set xs e.state after) (ap length other)

  own-tallied : (list : List Executed) → AreTallied minds list old → (state : ℕ) → state < length (mind_of minds e.colour) → slice_index_or (tallies_of new e.colour) state no_tally ≡ tally_of (list ++ e ∷ []) e.colour state
  own-tallied list before state below =
      elim (cases_eq state e.state) [
        | inl one ↦
            let was : here ≡ tally_of list e.colour state = ap (λ s. slice_index_or xs s no_tally) (sym one) ∙ (before e.colour).are state below in
            ap (λ s. slice_index_or (tallies_of new e.colour) s no_tally) one
            ∙ at_state
            ∙ ap (λ (t : Tally). let tally : Tally = record { times = t.times + 1; met = t.met + one_if e.met } in tally) was
            ∙ sym (tally_of-own list e e.colour state (ap₂ ◌&&◌ (same_colour-own e.colour) (eq-eqb e.state state (sym one))))
        | inr apart ↦
            elsewhere state apart
            ∙ (before e.colour).are state below
            ∙ sym (tally_of-other list e e.colour state (ap₂ ◌&&◌ (same_colour-own e.colour) (false_from_ne_true _ (λ same. apart (sym (eqb-true e.state state same))))))
      ]

  foe-tallied : (list : List Executed) → AreTallied minds list old → (state : ℕ) → state < length (mind_of minds (foe_of e.colour)) → slice_index_or (tallies_of new (foe_of e.colour)) state no_tally ≡ tally_of (list ++ e ∷ []) (foe_of e.colour) state
  foe-tallied list before state below =
      ap (λ ys. slice_index_or ys state no_tally) other
      ∙ (before (foe_of e.colour)).are state below
      ∙ sym (tally_of-other list e (foe_of e.colour) state (ap (λ b. b && (e.state == state)) (same_colour-foe e.colour)))

  -- no count rises by more than one
  few_times : (left : ℕ) → AreFew old (left + 1) → (colour : Colour) (state : ℕ) → (slice_index_or (tallies_of new colour) state no_tally).times + left < 2 ^ 64
  few_times left few =
      by_colour e.colour (λ colour. (state : ℕ) → (slice_index_or (tallies_of new colour) state no_tally).times + left < 2 ^ 64)
      (λ state. elim (cases_eq state e.state) [
        | inl one ↦
            subst (λ s. (slice_index_or (tallies_of new e.colour) s no_tally).times + left < 2 ^ 64) (sym one)
            (subst (λ (t : Tally). t.times + left < 2 ^ 64) (sym at_state) (omega (arith, few.times e.colour e.state)))
        | inr apart ↦ subst (λ (t : Tally). t.times + left < 2 ^ 64) (sym (elsewhere state apart)) (omega (arith, few.times e.colour state))
      ])
      (λ state. subst (λ ys. (slice_index_or ys state no_tally).times + left < 2 ^ 64) (sym other) (omega (arith, few.times (foe_of e.colour) state)))

  few_met : (left : ℕ) → AreFew old (left + 1) → (colour : Colour) (state : ℕ) → (slice_index_or (tallies_of new colour) state no_tally).met + left < 2 ^ 64
  few_met left few =
      by_colour e.colour (λ colour. (state : ℕ) → (slice_index_or (tallies_of new colour) state no_tally).met + left < 2 ^ 64)
      (λ state. elim (cases_eq state e.state) [
        | inl one ↦
            subst (λ s. (slice_index_or (tallies_of new e.colour) s no_tally).met + left < 2 ^ 64) (sym one)
            (subst (λ (t : Tally). t.met + left < 2 ^ 64) (sym at_state) (at_most_one e.met here.met (few.met e.colour e.state)))
        | inr apart ↦ subst (λ (t : Tally). t.met + left < 2 ^ 64) (sym (elsewhere state apart)) (omega (arith, few.met e.colour state))
      ])
      (λ state. subst (λ ys. (slice_index_or ys state no_tally).met + left < 2 ^ 64) (sym other) (omega (arith, few.met (foe_of e.colour) state)))
    where
      at_most_one : (met : Bool) (n : ℕ) → n + (left + 1) < 2 ^ 64 → n + one_if met + left < 2 ^ 64
      at_most_one true n below = omega (arith, below)
      at_most_one false n below = omega (arith, below)

  -- one more is counted
  pub CountsOn-one : CountsOn minds (e ∷ []) 1 old new
  CountsOn-one = record {
    on = λ list before. by_colour e.colour (λ colour. IsTallied colour (length (mind_of minds colour)) (list ++ e ∷ []) (tallies_of new colour))
        (record { each = as_long e.colour ∙ (before e.colour).each; are = own-tallied list before })
        (record { each = as_long (foe_of e.colour) ∙ (before (foe_of e.colour)).each; are = foe-tallied list before });
    few = λ left few. record { times = few_times left few; met = few_met left few };
    states = λ have colour. as_long colour ∙ have colour;
  }

-- tallies of nothing, one more
pub none-more : (colour : Colour) (states : ℕ) (tallies : List Tally) → IsTallied colour states [] tallies → IsTallied colour (states + 1) [] (tallies ++ no_tally ∷ [])
unfolding times_of met_of
none-more colour states tallies counted = record {
  each = length-append tallies (no_tally ∷ []) ∙ ap (λ n. n + 1) counted.each;
  are = λ state below. elim (cases_lt state states) [
    | inl early ↦ get_or_append_left tallies (no_tally ∷ []) no_tally state (let each = counted.each in omega (arith, each, early)) ∙ counted.are state early
    | inr late ↦ get_or_push tallies no_tally no_tally state (let each = counted.each in omega (arith, each, late, below))
  ];
}
