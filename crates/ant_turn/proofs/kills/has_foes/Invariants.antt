use Rattle.std.proofs.Common.{◌≡◌, ◌+◌, drop}
use Rattle.hex_geometry.specs.Neighbourhood.{neighbours_of}
use Rattle.ant_turn.specs.Kills.{ants_among}
use Rattle.ant_turn.proofs.kills.has_foes.Given as goal

abbrev pub invariant-loop-q : goal.invariant-loop-q
invariant-loop-q g l =
    let cells = (g.G.Ground.world l.initial.ground).cells in
    record {
      world : g.G.Ground.world l.ground ≡ g.G.Ground.world l.initial.ground;
      room : g.G.Ground.room l.ground ≡ g.G.Ground.room l.initial.ground;
      count : ants_among cells l.foe (drop l.q-index (neighbours_of l.fn.p)) + l.q-index + l.gaps + l.fn.surround ≡ ants_among cells l.foe (neighbours_of l.fn.p) + 6;
    }
