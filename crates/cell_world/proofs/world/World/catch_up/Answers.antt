-- the world's tiles and bodies are brought up to the other's
use Rattle.std.proofs.Common.{◌≡◌, List, [], refl, sym, ◌∙◌, subst}
use Rattle.cell_world.specs.declared.body.Body.{Body}
use Rattle.cell_world.specs.Grid.{Grid}
use Rattle.cell_world.specs.Inner.CatchUp.{Catching}
use Rattle.hex_geometry.specs.Position.{IsInside}
use Rattle.cell_world.proofs.CatchUpLemmas.{Catching-bodies, Pair-of, pair-early, pair-grid, pair-kept, pair-long, pair-start}
use Rattle.cell_world.proofs.world.World.catch_up.Goals as goal
use Rattle.cell_world.proofs.world.World.catch_up.Goals.{After-follow_tiles}

pub follow-requires-clause-all_tiles : goal.follow-requires-clause-all_tiles
follow-requires-clause-all_tiles c =
    let pair = Pair-of c.self.inside c.other.inside c.args.self.now c.args.other.now c.self.invariant c.other.invariant c.self.view_is c.other.view_is c.requires.width c.requires.height c.requires.ids in
    pair-long c.self.inside c.other.inside pair

pub follow-requires-clause-all_ids : goal.follow-requires-clause-all_ids
follow-requires-clause-all_ids c =
    let pair = Pair-of c.self.inside c.other.inside c.args.self.now c.args.other.now c.self.invariant c.other.invariant c.self.view_is c.other.view_is c.requires.width c.requires.height c.requires.ids in
    sym pair.same_ids

pub follow-requires-clause-inside : goal.follow-requires-clause-inside
follow-requires-clause-inside c =
    let pair = Pair-of c.self.inside c.other.inside c.args.self.now c.args.other.now c.self.invariant c.other.invariant c.self.view_is c.other.view_is c.requires.width c.requires.height c.requires.ids in
    λ p held. pair-early c.self.inside c.other.inside pair p (subst (λ (g : Grid). IsInside g.width g.height p) (sym c.self.view_is) (c.requires.inside p held))

pub follow-requires-clause-start : goal.follow-requires-clause-start
follow-requires-clause-start c =
    let pair = Pair-of c.self.inside c.other.inside c.args.self.now c.args.other.now c.self.invariant c.other.invariant c.self.view_is c.other.view_is c.requires.width c.requires.height c.requires.ids in
    pair-start c.self.inside c.other.inside pair c.args.places.now c.args.self.now c.args.other.now c.self.view_is c.other.view_is c.requires.same

pub follow_tiles-requires-clause-inside : goal.follow_tiles-requires-clause-inside
follow_tiles-requires-clause-inside c =
    let pair = Pair-of c.self.inside c.other.inside c.args.self.now c.args.other.now c.self.invariant c.other.invariant c.self.view_is c.other.view_is c.requires.width c.requires.height c.requires.ids in
    λ p held. pair-early c.self.inside c.other.inside pair p (subst (λ (g : Grid). IsInside g.width g.height p) (sym c.self.view_is) (c.requires.inside p held))

-- all bodies are the other world's, and then the tiles
caught : (c : After-follow_tiles) →
    Catching c.self.inside.width c.self.inside.tiles.items c.follow_tiles.new.tiles.items c.other.inside.tiles.items c.self.inside.bodies.items c.copy_from_slice.new.self.items c.other.inside.bodies.items []
caught c =
    let pair = Pair-of c.self.inside c.other.inside c.args.self.now c.args.other.now c.self.invariant c.other.invariant c.self.view_is c.other.view_is c.requires.width c.requires.height c.requires.ids in
    let start = pair-start c.self.inside c.other.inside pair c.args.places.now c.args.self.now c.args.other.now c.self.view_is c.other.view_is c.requires.same in
    let bodies : c.copy_from_slice.new.self.items ≡ c.other.inside.bodies.items = c.copy_from_slice.ensures.items ∙ c.deref.ensures.value in
    let all = Catching-bodies c.self.inside.width c.self.inside.tiles.items c.self.inside.tiles.items c.other.inside.tiles.items c.self.inside.bodies.items c.self.inside.bodies.items c.other.inside.bodies.items c.args.places.now (sym pair.same_ids) start in
    subst (λ (list : List Body). Catching c.self.inside.width c.self.inside.tiles.items c.follow_tiles.new.tiles.items c.other.inside.tiles.items c.self.inside.bodies.items c.copy_from_slice.new.self.items list []) bodies
    (c.follow_tiles.ensures c.self.inside.bodies.items
    (subst (λ (list : List Body). Catching c.self.inside.width c.self.inside.tiles.items c.self.inside.tiles.items c.other.inside.tiles.items c.self.inside.bodies.items list list c.args.places.now) (sym bodies) all))

pub invariant_of-self : goal.invariant_of-self
invariant_of-self c =
    let pair = Pair-of c.self.inside c.other.inside c.args.self.now c.args.other.now c.self.invariant c.other.invariant c.self.view_is c.other.view_is c.requires.width c.requires.height c.requires.ids in
    pair-kept c.self.inside c.other.inside pair (record { width = c.self.inside.width; height = c.self.inside.height; tiles = c.follow_tiles.new.tiles; bodies = c.copy_from_slice.new.self }) refl refl (caught (goal.at.invariant_of-self c).After-follow_tiles) c.other.invariant

pub returns-then-places-len : goal.returns-then-places-len
returns-then-places-len c =
    let pair = Pair-of c.self.inside c.other.inside c.args.self.now c.args.other.now c.self.invariant c.other.invariant c.self.view_is c.other.view_is c.requires.width c.requires.height c.requires.ids in
    pair-grid c.self.inside c.other.inside pair (record { width = c.self.inside.width; height = c.self.inside.height; tiles = c.follow_tiles.new.tiles; bodies = c.copy_from_slice.new.self }) refl refl (caught (goal.at.returns-then-places-len c).After-follow_tiles) ∙ c.other.view_is

pub invariant_of-self-2 : goal.invariant_of-self-2
invariant_of-self-2 c =
    let pair = Pair-of c.self.inside c.other.inside c.args.self.now c.args.other.now c.self.invariant c.other.invariant c.self.view_is c.other.view_is c.requires.width c.requires.height c.requires.ids in
    pair-kept c.self.inside c.other.inside pair (record { width = c.self.inside.width; height = c.self.inside.height; tiles = c.follow.new.tiles; bodies = c.follow.new.bodies }) refl refl c.follow.ensures c.other.invariant

pub returns : goal.returns
returns c =
    let pair = Pair-of c.self.inside c.other.inside c.args.self.now c.args.other.now c.self.invariant c.other.invariant c.self.view_is c.other.view_is c.requires.width c.requires.height c.requires.ids in
    pair-grid c.self.inside c.other.inside pair (record { width = c.self.inside.width; height = c.self.inside.height; tiles = c.follow.new.tiles; bodies = c.follow.new.bodies }) refl refl c.follow.ensures ∙ c.other.view_is
