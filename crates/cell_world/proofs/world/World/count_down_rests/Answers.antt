-- the bodies that were distinguished are those of a world
use Rattle.std.proofs.Common.{◌≡◌, ℕ, ◌-◌, ◌∙◌, List, Vec, ap, length, subst, take}
use Rattle.std.specs.Vec.{with_items}
use Rattle.std.proofs.lemmas.List.{with_items_is}
use Rattle.cell_world.specs.declared.body.Body.{Body}
use Rattle.cell_world.specs.Grid.{Grid, world_of}
use Rattle.cell_world.specs.Inner.ToldApart.{ToldApart}
use Rattle.cell_world.specs.Resting.{ActsListed, one_less, rested}
use Rattle.cell_world.proofs.RestingLemmas.{stored-with_rests, told-listed, told-read, world_of-with_rests}
use Rattle.cell_world.proofs.world.World.count_down_rests.Goals as goal

-- bodies that were distinguished in a slice are distinguished in the list that it was of
told-in : {Z : Type 0} (bodies : Vec Body Z) (slice new : List Body) (from to : ℕ) (listed : List ℕ)
    → slice ≡ bodies.items → length slice ≡ bodies.len → ToldApart slice new from to listed → ToldApart bodies.items (with_items bodies new).items from to listed
told-in bodies slice new from to listed same long told =
    rw (with_items_is bodies new (told.all_ids ∙ long), ← same) told

pub invariant_of-self : goal.invariant_of-self
invariant_of-self c =
    let listed = take c.rest_bodies.result c.rest_bodies.new.acting in
    let told = told-in c.self.inside.bodies c.deref_mut.result.now c.rest_bodies.new.bodies c.args.from c.args.to listed c.deref_mut.ensures.value c.deref_mut.ensures.len c.rest_bodies.ensures.told in
    let read = told-read _ _ c.args.from c.args.to listed told in
    let stored = stored-with_rests (one_less c.args.from c.args.to) read c.self.inside.width c.self.inside.height c.self.inside.tiles.items c.self.invariant.world c.self.invariant.index in
    record { world = stored.0; index = stored.1 }

pub returns : goal.returns
returns c =
    let listed = take c.rest_bodies.result c.rest_bodies.new.acting in
    let told = told-in c.self.inside.bodies c.deref_mut.result.now c.rest_bodies.new.bodies c.args.from c.args.to listed c.deref_mut.ensures.value c.deref_mut.ensures.len c.rest_bodies.ensures.told in
    let read = told-read _ _ c.args.from c.args.to listed told in
    record {
      world =
          world_of-with_rests (one_less c.args.from c.args.to) read c.self.inside.width c.self.inside.height c.self.inside.tiles.items
          ∙ ap (λ (g : Grid). rested c.args.from c.args.to (world_of g)) c.self.view_is;
      listed = subst (λ (g : Grid). ActsListed (world_of g) c.args.from (c.args.to - c.args.from) listed) c.self.view_is
          (told-listed c.self.inside.width c.self.inside.height c.self.inside.tiles.items _ _ c.args.from c.args.to listed c.self.invariant.world told);
      count = c.rest_bodies.ensures.count;
      kept = (stored-with_rests (one_less c.args.from c.args.to) read c.self.inside.width c.self.inside.height c.self.inside.tiles.items c.self.invariant.world c.self.invariant.index).0;
    }
