use Rattle.std.proofs.Common.{◌≡◌, ℕ, ◌+◌, ◌*◌, ◌≤◌, true, false, List, length, sum, None, sym, ◌∙◌, ap, subst, arith}
use Rattle.std.specs.List.{AllByRecursion}
use Rattle.hex_geometry.specs.declared.position.Pos.{Pos}
use Rattle.hex_geometry.specs.Position.{IsInside}
use Rattle.cell_world.specs.declared.ant.PlacedAnt.{PlacedAnt}
use Rattle.cell_world.specs.declared.cell.Cell.{Cell}
use Rattle.cell_world.specs.Grid.{Grid, IsGround, cell_in, world_of}
use Rattle.cell_world.specs.Limits.{most_ants, most_weight}
use Rattle.cell_world.specs.World.{weight}
use Rattle.match_save.specs.Draft.{Draft}
use Rattle.match_save.specs.State.{hill_count}
use Rattle.match_save.specs.Inner.Floor.{are_sound_cells, floor_of}
use Rattle.match_save.specs.Inner.Said.{said}
use Rattle.match_save.specs.Inner.AntPuts.{weight_of_ants}
use Rattle.match_save.proofs.Floors.{IsGround-floor, empty-floor, full-floor, inside-all, light-state, sound-state, weight-floor}
use Rattle.match_save.proofs.Judgement.{few-ants, few-cells, few-food, floor-is, light-ants, put-none, put-world, same-cells}
use Rattle.match_save.proofs.judge.world_of.Goals as goal

pub are_sound_cells-requires : goal.are_sound_cells-requires
are_sound_cells-requires c =
    let d : Draft = said c.args.draft.now in
    let are : c.deref-5.result.now ≡ (floor_of d).cells = c.deref-5.ensures.value ∙ c.in_ok-cells.ensures ∙ same-cells c.deref.ensures.value c.deref-2.ensures.value c.deref-3.ensures.value c.deref-4.ensures.value in
    record { wide = (let w = c.requires.form.head.wide in omega (arith, w)); full = subst (λ (l : List Cell). length l ≡ d.head.width * d.head.height) (sym are) (full-floor d c.requires.form) }

pub returns-then-not-are_sound_cells : goal.returns-then-not-are_sound_cells
returns-then-not-are_sound_cells c = λ state.
    let d : Draft = said c.args.draft.now in
    let are : c.deref-5.result.now ≡ (floor_of d).cells = c.deref-5.ensures.value ∙ c.in_ok-cells.ensures ∙ same-cells c.deref.ensures.value c.deref-2.ensures.value c.deref-3.ensures.value c.deref-4.ensures.value in
    let wrong : false ≡ true = c.if-not-are_sound_cells.ensures ∙ ap (are_sound_cells d.head.width d.head.height 0) are ∙ sound-state d c.requires.form state in
    absurd (cc)

pub food_sum-requires : goal.food_sum-requires
food_sum-requires c =
    let d : Draft = said c.args.draft.now in
    let are : c.deref-6.result.now ≡ d.foods = c.deref-6.ensures.value in
    subst (λ (l : List ℕ). length l ≤ 262144) (sym are) (few-cells d c.requires.form)

pub weight_of_ants-requires : goal.weight_of_ants-requires
weight_of_ants-requires c =
    let d : Draft = said c.args.draft.now in
    let are : c.deref-7.result.now ≡ d.ants = c.deref-7.ensures.value in
    subst (λ (l : List PlacedAnt). length l ≤ 16384) (sym are) (few-ants d c.requires.form)

pub overflow_add-food_sum : goal.overflow_add-food_sum
overflow_add-food_sum c =
    let d : Draft = said c.args.draft.now in
    let f : c.food_sum.result ≡ sum d.foods = c.food_sum.ensures ∙ ap sum c.deref-6.ensures.value in
    let w : c.weight_of_ants.result ≡ weight_of_ants d.ants = c.weight_of_ants.ensures ∙ ap weight_of_ants c.deref-7.ensures.value in
    omega (arith, f, w, few-food d c.requires.form, light-ants d c.requires.form)

pub returns-then-food_sum-weight_of_ants : goal.returns-then-food_sum-weight_of_ants
returns-then-food_sum-weight_of_ants c = λ state.
    let d : Draft = said c.args.draft.now in
    let f : c.food_sum.result ≡ sum d.foods = c.food_sum.ensures ∙ ap sum c.deref-6.ensures.value in
    let w : c.weight_of_ants.result ≡ weight_of_ants d.ants = c.weight_of_ants.ensures ∙ ap weight_of_ants c.deref-7.ensures.value in
    let wrong : ⊥ = omega (arith, f, w, light-state d c.requires.form state) in
    wrong

pub of_ground-requires : goal.of_ground-requires
of_ground-requires c =
    let d : Draft = said c.args.draft.now in
    let are : c.deref-5.result.now ≡ (floor_of d).cells = c.deref-5.ensures.value ∙ c.in_ok-cells.ensures ∙ same-cells c.deref.ensures.value c.deref-2.ensures.value c.deref-3.ensures.value c.deref-4.ensures.value in
    let cells : c.deref-8.result.now ≡ (floor_of d).cells = c.deref-8.ensures.value ∙ c.in_ok-cells.ensures ∙ same-cells c.deref.ensures.value c.deref-2.ensures.value c.deref-3.ensures.value c.deref-4.ensures.value in
    let f : c.food_sum.result ≡ sum d.foods = c.food_sum.ensures ∙ ap sum c.deref-6.ensures.value in
    let w : c.weight_of_ants.result ≡ weight_of_ants d.ants = c.weight_of_ants.ensures ∙ ap weight_of_ants c.deref-7.ensures.value in
    let few : hill_count d.soils ≤ most_ants = (let n = c.requires.few in let i = c.requires.ids in omega (arith, n, i)) in
    let light : sum d.foods ≤ most_weight = omega (arith, f, w) in
    subst IsGround (sym (floor-is d c.args.ids c.deref-8.result.now c.requires.ids cells))
    (IsGround-floor d c.requires.form few (sym (c.if-not-are_sound_cells.ensures ∙ ap (are_sound_cells d.head.width d.head.height 0) are)) light)

pub put_ants-requires-clause-inside : goal.put_ants-requires-clause-inside
put_ants-requires-clause-inside c =
    let d : Draft = said c.args.draft.now in
    let cells : c.deref-8.result.now ≡ (floor_of d).cells = c.deref-8.ensures.value ∙ c.in_ok-cells.ensures ∙ same-cells c.deref.ensures.value c.deref-2.ensures.value c.deref-3.ensures.value c.deref-4.ensures.value in
    let ants : c.deref-9.result.now ≡ d.ants = c.deref-9.ensures.value in
    let same : c.in_ok-world.world ≡ floor_of d = c.in_ok-world.ensures ∙ floor-is d c.args.ids c.deref-8.result.now c.requires.ids cells in
    subst (λ (l : List PlacedAnt). AllByRecursion (λ (it : PlacedAnt). IsInside c.in_ok-world.world.width c.in_ok-world.world.height it.place) l) (sym ants)
    (subst (λ (g : Grid). AllByRecursion (λ (it : PlacedAnt). IsInside g.width g.height it.place) d.ants) (sym same) (inside-all d c.requires.form d.ants c.requires.form.ants))

pub put_ants-requires-clause-empty : goal.put_ants-requires-clause-empty
put_ants-requires-clause-empty c =
    let d : Draft = said c.args.draft.now in
    let cells : c.deref-8.result.now ≡ (floor_of d).cells = c.deref-8.ensures.value ∙ c.in_ok-cells.ensures ∙ same-cells c.deref.ensures.value c.deref-2.ensures.value c.deref-3.ensures.value c.deref-4.ensures.value in
    let same : c.in_ok-world.world ≡ floor_of d = c.in_ok-world.ensures ∙ floor-is d c.args.ids c.deref-8.result.now c.requires.ids cells in
    subst (λ (g : Grid). (p : Pos) → (cell_in g p).ant ≡ None) (sym same) (empty-floor d c.requires.form)

pub put_ants-requires-clause-light : goal.put_ants-requires-clause-light
put_ants-requires-clause-light c =
    let d : Draft = said c.args.draft.now in
    let cells : c.deref-8.result.now ≡ (floor_of d).cells = c.deref-8.ensures.value ∙ c.in_ok-cells.ensures ∙ same-cells c.deref.ensures.value c.deref-2.ensures.value c.deref-3.ensures.value c.deref-4.ensures.value in
    let ants : c.deref-9.result.now ≡ d.ants = c.deref-9.ensures.value in
    let same : c.in_ok-world.world ≡ floor_of d = c.in_ok-world.ensures ∙ floor-is d c.args.ids c.deref-8.result.now c.requires.ids cells in
    let f : c.food_sum.result ≡ sum d.foods = c.food_sum.ensures ∙ ap sum c.deref-6.ensures.value in
    let w : c.weight_of_ants.result ≡ weight_of_ants d.ants = c.weight_of_ants.ensures ∙ ap weight_of_ants c.deref-7.ensures.value in
    let light : weight (world_of (floor_of d)) + weight_of_ants d.ants ≤ most_weight = omega (arith, f, w, weight-floor d c.requires.form) in
    subst (λ (l : List PlacedAnt). weight (world_of c.in_ok-world.world) + weight_of_ants l ≤ most_weight) (sym ants)
    (subst (λ (g : Grid). weight (world_of g) + weight_of_ants d.ants ≤ most_weight) (sym same) light)

pub returns-then-not-put_ants : goal.returns-then-not-put_ants
returns-then-not-put_ants c = λ state.
    let d : Draft = said c.args.draft.now in
    let cells : c.deref-8.result.now ≡ (floor_of d).cells = c.deref-8.ensures.value ∙ c.in_ok-cells.ensures ∙ same-cells c.deref.ensures.value c.deref-2.ensures.value c.deref-3.ensures.value c.deref-4.ensures.value in
    let ants : c.deref-9.result.now ≡ d.ants = c.deref-9.ensures.value in
    let same : c.in_ok-world.world ≡ floor_of d = c.in_ok-world.ensures ∙ floor-is d c.args.ids c.deref-8.result.now c.requires.ids cells in
    put-none d c.requires.form c.in_ok-world.world c.put_ants.new.world c.deref-9.result.now same ants c.if-not-put_ants.ensures state

pub returns : goal.returns
returns c =
    let d : Draft = said c.args.draft.now in
    let are : c.deref-5.result.now ≡ (floor_of d).cells = c.deref-5.ensures.value ∙ c.in_ok-cells.ensures ∙ same-cells c.deref.ensures.value c.deref-2.ensures.value c.deref-3.ensures.value c.deref-4.ensures.value in
    let cells : c.deref-8.result.now ≡ (floor_of d).cells = c.deref-8.ensures.value ∙ c.in_ok-cells.ensures ∙ same-cells c.deref.ensures.value c.deref-2.ensures.value c.deref-3.ensures.value c.deref-4.ensures.value in
    let ants : c.deref-9.result.now ≡ d.ants = c.deref-9.ensures.value in
    let same : c.in_ok-world.world ≡ floor_of d = c.in_ok-world.ensures ∙ floor-is d c.args.ids c.deref-8.result.now c.requires.ids cells in
    let f : c.food_sum.result ≡ sum d.foods = c.food_sum.ensures ∙ ap sum c.deref-6.ensures.value in
    let w : c.weight_of_ants.result ≡ weight_of_ants d.ants = c.weight_of_ants.ensures ∙ ap weight_of_ants c.deref-7.ensures.value in
    let few : hill_count d.soils ≤ most_ants = (let n = c.requires.few in let i = c.requires.ids in omega (arith, n, i)) in
    let light : sum d.foods + weight_of_ants d.ants ≤ most_weight = omega (arith, f, w) in
    put-world d c.in_ok-world.world c.put_ants.new.world c.deref-9.result.now same ants c.if-not-put_ants.ensures few (sym (c.if-not-are_sound_cells.ensures ∙ ap (are_sound_cells d.head.width d.head.height 0) are)) light
