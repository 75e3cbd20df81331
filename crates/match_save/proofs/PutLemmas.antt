-- Ants that are put one after another.
use Rattle.std.proofs.Common.{◌≡◌, ℕ, suc, ◌+◌, ◌<◌, ◌≤◌, List, ◌∷◌, length, get_or, drop, Some, sym, ◌∙◌, ap, subst, arith, true, add-one}
use Rattle.std.proofs.Math.Seq.{drop-cons}
use Rattle.hex_geometry.specs.Position.{IsInside}
use Rattle.hex_geometry.specs.declared.position.Pos.{Pos}
use Rattle.cell_world.specs.declared.ant.Ant.{Ant}
use Rattle.cell_world.specs.declared.ant.PlacedAnt.{PlacedAnt}
use Rattle.cell_world.specs.Cell.{ant_weight}
use Rattle.cell_world.specs.Grid.{Grid, cell_in, world_of}
use Rattle.cell_world.specs.Limits.{most_weight}
use Rattle.cell_world.specs.World.{weight}
use Rattle.match_save.specs.Inner.Puts.{PutsOn}
use Rattle.match_save.specs.Inner.AntPuts.{PutsOne}
use Rattle.match_save.proofs.Standings.{below-standing, full-standing, weight-standing}

-- what the next ant asks for
pub record AsksFor (now : Grid) (it : PlacedAnt) : Type 0 where
  pub inside : IsInside now.width now.height it.place
  pub light : weight (world_of now) + ant_weight (Some it.ant) ≤ most_weight
  pub late : (p : Pos) (ant : Ant) → (cell_in now p).ant ≡ Some ant → ant.id < it.ant.id

pub PutsOn-asks : {old now : Grid} {all : List PlacedAnt} (it : PlacedAnt) (rest : List PlacedAnt) → PutsOn old now all (it ∷ rest) → AsksFor now it
PutsOn-asks it rest on = record {
  inside = on.inside.0;
  light = (let l = on.light in omega (arith, l));
  late = λ p ant there. (let b = on.below p ant there in let r = on.rise.0 in omega (arith, b, r));
}

-- an ant was put
pub PutsOn-more : {old now : Grid} {all : List PlacedAnt} (new : Grid) (it : PlacedAnt) (rest : List PlacedAnt) → PutsOn old now all (it ∷ rest) → PutsOne now new it true → PutsOn old new all rest
PutsOn-more {old} {now} {all} new it rest on put = subst (λ (g : Grid). PutsOn old g all rest) (sym put.1) (record {
  full = full-standing now it on.full;
  becomes = on.becomes;
  can = λ can. on.can (put.0, can);
  could = λ can. (on.could can).1;
  inside = on.inside.1;
  least = suc it.ant.id;
  rise = on.rise.1;
  below = below-standing now it on.least on.full on.inside.0 on.rise.0 on.below;
  light = (let l = on.light in let w = weight-standing now it on.full on.inside.0 put.0.free in omega (arith, l, w));
})

-- the elements of a list from one on
pub drop-from : {X : Type 0} (xs : List X) (i : ℕ) (none : X) → i < length xs → drop i xs ≡ get_or xs i none ∷ drop (i + 1) xs
drop-from xs i none below = drop-cons xs i none below ∙ ap (λ n. get_or xs i none ∷ drop n xs) (sym (add-one i))
