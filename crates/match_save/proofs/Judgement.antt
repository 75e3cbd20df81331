-- Whether the lines of a save describe a state of a game.
use Rattle.std.proofs.Common.{◌≡◌, ℕ, suc, ◌+◌, ◌*◌, ◌<◌, ◌≤◌, Bool, true, false, List, [], ◌∷◌, length, get_or, Option, Some, None, refl, sym, ◌∙◌, ap, subst, arith, sum}
use native.Mathlib.Decide.{dec_le, dec_lt, map_dec, ℕ_discrete}
use mathlib.Core.Bool.{Bool-discrete}
use mathlib.Core.Logic.Dec
use Rattle.std.specs.List.{AllByRecursion}
use Rattle.std.proofs.lemmas.Nat.{mul-le}
use Rattle.std.proofs.lemmas.List.Sums.{sum_by-cons}
use Rattle.hex_geometry.specs.RowOrder.{index_of}
use Rattle.cell_world.specs.declared.ant.Ant.{Ant}
use Rattle.cell_world.specs.declared.ant.PlacedAnt.{PlacedAnt}
use Rattle.cell_world.specs.declared.cell.Cell.{Cell}
use Rattle.cell_world.specs.Cell.{rock}
use Rattle.cell_world.specs.Grid.{Grid, IsWorld, cell_in, world_of}
use Rattle.cell_world.specs.Limits.{most_ants, most_weight}
use Rattle.cell_world.specs.World.{weight}
use Rattle.cell_world.proofs.GridSums.{one_if-le_one}
use Rattle.cell_world.proofs.GridLemmas.{cell_in-column}
use Rattle.cell_world.proofs.Sets.{IsWorld-set}
use Rattle.brain_read.specs.declared.instr.Instr.{Instr}
use Rattle.brain_read.specs.Grammar.{StatesBelow, states_of}
use Rattle.match_save.specs.declared.soil.Soil.{Soil}
use Rattle.match_save.specs.declared.fault.SaveFault.{SaveFault}
use Rattle.match_save.specs.declared.fault.SaveFault.TheVariants.{BadLine, BadState, OutOfMemory}
use Rattle.match_save.specs.Draft.{Draft, IdsRise, IsAnt, IsInForm}
use Rattle.match_save.specs.State.{IsState, grid_of_draft, ground_cells, hill_count, program_of, turns_of}
use Rattle.match_save.specs.Inner.Floor.{are_sound_cells, floor_of}
use Rattle.match_save.specs.Inner.Judged.{Refutes}
use Rattle.match_save.specs.Inner.Made.{made_saved}
use Rattle.match_save.specs.Saved.{saved_of}
use Rattle.match_save.specs.Inner.State.{HasRest, HasWorld}
use Rattle.match_save.specs.Inner.AntPuts.{CanAllStand, CanStand, PutsAll, all_standing, standing, weight_of_ants}
use Rattle.match_save.proofs.Floors.{IsGround-floor, empty-floor, full-floor, inside-all, light-state, sound-state, stand-state, weight-floor}
use Rattle.match_save.proofs.Standings.{AreBelow, CanSet-standing, StandsInside, all-can, below-standing, standing-set, stood_on, weight-standing}

-- a world into which ants are put is one
world-standing : (ants : List PlacedAnt) (g : Grid) (least : ℕ) → IsWorld g → AllByRecursion (StandsInside g.width g.height) ants → CanAllStand g ants → IdsRise least ants → AreBelow g least
    → weight (world_of g) + weight_of_ants ants ≤ most_weight → IsWorld (all_standing g ants)
world-standing [] g least world inside can rise below light = world
world-standing (it ∷ ants) g least world inside can rise below light =
    let late : AreBelow g it.ant.id = λ p ant there. (let b = below p ant there in let r = rise.0 in omega (arith, b, r)) in
    let set = CanSet-standing g it 9 (omega arith) world inside.0 can.0 late (omega (arith, light)) in
    let one : IsWorld (standing g it) = subst IsWorld (sym (standing-set g it inside.0.column)) (IsWorld-set g it.place (stood_on g it) 9 world set) in
    world-standing ants (standing g it) (suc it.ant.id) one inside.1 can.1 rise.1 (below-standing g it least world.full inside.0 rise.0 below)
    (let w = weight-standing g it world.full inside.0 can.0.free in omega (arith, light, w))

module _ (d : Draft) (ok : IsInForm d) where
  -- the world of a state
  pub world-is : HasWorld d → IsWorld (grid_of_draft d)
  unfolding grid_of_draft
  world-is has =
      let ground = IsGround-floor d ok has.few has.sound (let l = has.light in omega (arith, l)) in
      world-standing d.ants (floor_of d) 0 ground.world (inside-all d ok d.ants ok.ants) has.stand ok.rise
      (λ p ant there. (let both : None ≡ Some ant = sym (empty-floor d ok p) ∙ there in absurd (cc)))
      (let w = weight-floor d ok in let l = has.light in omega (arith, w, l))

  -- what has all this is a state
  pub has-state : HasWorld d → HasRest d → IsState d
  has-state has rest =
      let stand = all-can d.ants (floor_of d) (full-floor d ok) (inside-all d ok d.ants ok.ants) has.stand in
      record {
        world = world-is has;
        clear = clear d.ants (inside-all d ok d.ants ok.ants) stand.can;
        apart = stand.apart;
        red = rest.red;
        black = rest.black;
        fits = rest.fits;
        place = rest.place;
        turns = rest.turns;
      }
    where
      clear : (ants : List PlacedAnt) → AllByRecursion (StandsInside d.head.width d.head.height) ants → AllByRecursion (CanStand (floor_of d)) ants
          → AllByRecursion (λ (it : PlacedAnt). (get_or (floor_of d).cells (index_of d.head.width it.place) rock).rocky ≡ false) ants
      clear [] inside all = tt
      clear (it ∷ ants) inside all = (ap (λ (c : Cell). c.rocky) (sym (cell_in-column (floor_of d) it.place inside.0.column)) ∙ all.0.clear, clear ants inside.1 all.1)

  -- and a state has it
  pub state-world : IsState d → HasWorld d
  unfolding grid_of_draft
  state-world state = record { few = state.world.valid.few; sound = sound-state d ok state; light = light-state d ok state; stand = stand-state d ok state }

-- it can be told whether a fact holds of each element of a list, and whether ants can stand
dec_all : {A : Type 0} (P : A → Type 0) → ((a : A) → Dec (P a)) → (list : List A) → Dec (AllByRecursion P list)
dec_all P one [] = yes tt
dec_all P one (x ∷ list) = Dec.and (one x) (dec_all P one list)

dec_stand : (ants : List PlacedAnt) (g : Grid) → Dec (CanAllStand g ants)
dec_stand [] g = yes tt
dec_stand (it ∷ ants) g = Dec.and (one (cell_in g it.place).rocky refl (cell_in g it.place).ant refl) (dec_stand ants (standing g it)) where
  one : (b : Bool) → (cell_in g it.place).rocky ≡ b → (o : Option Ant) → (cell_in g it.place).ant ≡ o → Dec (CanStand g it)
  one true rocky o free = no (λ can. (let wrong : true ≡ false = sym rocky ∙ can.clear in absurd (cc)))
  one false clear (Some ant) there = no (λ can. (let wrong : Some ant ≡ None = sym there ∙ can.free in absurd (cc)))
  one false clear None free = map_dec (λ made. record { clear = clear; free = free; made = made }) (λ can. can.made) (dec_lt it.ant.id g.ids)

dec_states : (n : ℕ) (list : List Instr) → Dec (StatesBelow n list)
dec_states n list = dec_all (λ i. AllByRecursion (λ state. state < n) (states_of i)) (λ i. dec_all (λ state. state < n) (λ state. dec_lt state n) (states_of i)) list

-- lines in form describe a state of a game, or none
pub dec_state : (d : Draft) → IsInForm d → Dec (IsState d)
dec_state d ok = go
    (dec_le (hill_count d.soils) most_ants)
    (Bool-discrete (are_sound_cells d.head.width d.head.height 0 (floor_of d).cells) true)
    (dec_le (sum d.foods + weight_of_ants d.ants) most_weight)
    (dec_stand d.ants (floor_of d))
    (Dec.and (dec_states (length d.red) d.red) (dec_states (length d.black) d.black))
    (dec_all (λ (it : PlacedAnt). it.ant.state < length (program_of d it.ant.colour)) (λ it. dec_lt it.ant.state (length (program_of d it.ant.colour))) d.ants)
    (Dec.and (dec_le d.head.place (turns_of d)) (ℕ_discrete (d.head.taken + d.head.redone) (turns_of d)))
  where
    go : Dec (hill_count d.soils ≤ most_ants) → Dec (are_sound_cells d.head.width d.head.height 0 (floor_of d).cells ≡ true) → Dec (sum d.foods + weight_of_ants d.ants ≤ most_weight)
        → Dec (CanAllStand (floor_of d) d.ants) → Dec (StatesBelow (length d.red) d.red × StatesBelow (length d.black) d.black)
        → Dec (AllByRecursion (λ (it : PlacedAnt). it.ant.state < length (program_of d it.ant.colour)) d.ants)
        → Dec ((d.head.place ≤ turns_of d) × (d.head.taken + d.head.redone ≡ turns_of d)) → Dec (IsState d)
    go (no wrong) b c e f g h = no (λ state. wrong (state-world d ok state).few)
    go (yes few) (no wrong) c e f g h = no (λ state. wrong (state-world d ok state).sound)
    go (yes few) (yes sound) (no wrong) e f g h = no (λ state. wrong (state-world d ok state).light)
    go (yes few) (yes sound) (yes light) (no wrong) f g h = no (λ state. wrong (state-world d ok state).stand)
    go (yes few) (yes sound) (yes light) (yes stand) (no wrong) g h = no (λ state. wrong (state.red, state.black))
    go (yes few) (yes sound) (yes light) (yes stand) (yes below) (no wrong) h = no (λ state. wrong state.fits)
    go (yes few) (yes sound) (yes light) (yes stand) (yes below) (yes fits) (no wrong) = no (λ state. wrong (state.place, state.turns))
    go (yes few) (yes sound) (yes light) (yes stand) (yes below) (yes fits) (yes counts) =
        yes (has-state d ok (record { few = few; sound = sound; light = light; stand = stand }) (record { red = below.0; black = below.1; fits = fits; place = counts.0; turns = counts.1 }))

-- a world has few cells
pub few-cells : (d : Draft) → IsInForm d → length d.foods ≤ 262144
few-cells d ok = (let l = mul-le d.head.height d.head.width 512 512 ok.head.low ok.head.narrow in let f = ok.foods in omega (arith, l, f))

-- and few ants
pub few-ants : (d : Draft) → IsInForm d → length d.ants ≤ 16384
few-ants d ok = (let l = go d.ants 0 ok.ants ok.rise (omega arith) in omega (arith, l)) where
  go : (ants : List PlacedAnt) (least : ℕ) → AllByRecursion (IsAnt d.head.width d.head.height) ants → IdsRise least ants → least ≤ most_ants → least + length ants ≤ most_ants
  go [] least all rise low = omega (arith, low)
  go (it ∷ ants) least all rise low = (let i = all.0.id in let r = go ants (suc it.ant.id) all.1 rise.1 (omega (arith, i)) in let l = rise.0 in omega (arith, r, l))

-- the floor, as it is built
pub floor-is : (d : Draft) (ids : ℕ) (cells : List Cell) → ids ≡ hill_count d.soils → cells ≡ ground_cells d.soils d.red_marks d.black_marks d.foods
    → ◌≡◌ {A = Grid} (record { width = d.head.width; height = d.head.height; ids = ids; cells = cells }) (floor_of d)
floor-is d ids cells same_ids same_cells =
    ap (λ (n : ℕ). record { width = d.head.width; height = d.head.height; ids = n; cells = cells }) same_ids
    ∙ ap (λ (l : List Cell). record { width = d.head.width; height = d.head.height; ids = hill_count d.soils; cells = l }) same_cells

-- the food and the ants of a save can be added up
sum-bound : (foods : List ℕ) → AllByRecursion (λ food. food ≤ most_weight) foods → sum foods ≤ length foods * 2340900
sum-bound [] all = omega arith
sum-bound (food ∷ foods) all = (let here = sum_by-cons (λ (n : ℕ). n) food foods in let r = sum-bound foods all.1 in let f = all.0 in omega (arith, here, r, f))

pub few-food : (d : Draft) → IsInForm d → sum d.foods ≤ 613652889600
few-food d ok = (let s = sum-bound d.foods ok.amounts in let f = few-cells d ok in omega (arith, s, f))

ants-bound : (ants : List PlacedAnt) → weight_of_ants ants ≤ 10 * length ants
ants-bound [] = omega arith
ants-bound (it ∷ ants) = (let r = ants-bound ants in let l = one_if-le_one it.ant.laden in omega (arith, r, l))

pub light-ants : (d : Draft) → IsInForm d → weight_of_ants d.ants ≤ 163840
light-ants d ok = (let b = ants-bound d.ants in let f = few-ants d ok in omega (arith, b, f))

-- cells of the same lists
pub same-cells : {soils others : List Soil} {reds reds' blacks blacks' foods foods' : List ℕ} → soils ≡ others → reds ≡ reds' → blacks ≡ blacks' → foods ≡ foods' → ground_cells soils reds blacks foods ≡ ground_cells others reds' blacks' foods'
same-cells {soils} {others} {reds} {reds'} {blacks} {blacks'} {foods} {foods'} a b c e =
    ap (λ l. ground_cells l reds blacks foods) a ∙ ap (λ l. ground_cells others l blacks foods) b ∙ ap (λ l. ground_cells others reds' l foods) c ∙ ap (ground_cells others reds' blacks') e

-- what putting all ants did
pub put-world : (d : Draft) (old new : Grid) (ants : List PlacedAnt) → old ≡ floor_of d → ants ≡ d.ants → PutsAll old new ants true
    → hill_count d.soils ≤ most_ants → are_sound_cells d.head.width d.head.height 0 (floor_of d).cells ≡ true → sum d.foods + weight_of_ants d.ants ≤ most_weight → HasWorld d × (new ≡ grid_of_draft d)
unfolding grid_of_draft
put-world d old new ants is are put few sound light =
    let can : CanAllStand (floor_of d) d.ants = subst (λ (l : List PlacedAnt). CanAllStand (floor_of d) l) are (subst (λ (g : Grid). CanAllStand g ants) is put.0) in (
      record { few = few; sound = sound; light = light; stand = can },
      put.1 ∙ ap (λ (g : Grid). all_standing g ants) is ∙ ap (all_standing (floor_of d)) are,
    )

pub put-none : (d : Draft) (ok : IsInForm d) (old new : Grid) (ants : List PlacedAnt) → old ≡ floor_of d → ants ≡ d.ants → PutsAll old new ants false → IsState d → ⊥
put-none d ok old new ants is are put state =
    put (subst (λ (g : Grid). CanAllStand g ants) (sym is) (subst (λ (l : List PlacedAnt). CanAllStand (floor_of d) l) (sym are) (stand-state d ok state)))

-- the save that is made is that of the lines
pub made-is : (d : Draft) (red black : List Instr) (world : Grid) → red ≡ d.red → black ≡ d.black → world ≡ grid_of_draft d → made_saved d.head red black world ≡ saved_of d
unfolding saved_of grid_of_draft
made-is d red black world is_red is_black is_world =
    ap (λ (l : List Instr). made_saved d.head l black world) is_red
    ∙ ap (λ (l : List Instr). made_saved d.head d.red l world) is_black
    ∙ ap (λ (g : Grid). made_saved d.head d.red d.black g) is_world

-- what rules out a fact rules out all that need it
pub refutes-sooner : {P Q : Type 0} → (P → Q) → (fault : SaveFault) → Refutes Q fault → Refutes P fault
refutes-sooner need (BadLine line) wrong = wrong
refutes-sooner need BadState wrong = λ has. wrong (need has)
refutes-sooner need OutOfMemory free = tt
