-- the looks so far, and those of the places that are left, are all of them
use Rattle.std.proofs.Common.{◌≡◌, ◌+◌, ◌≤◌, ◌++◌, length, map}
use Rattle.std.specs.Vec.{vec_capacity, vec_len}
use Rattle.std.specs.Vec.Iter.{into_iter_items, into_iter_len}
use Rattle.round_workers.specs.Inner.BoardPlaces.{look_in}
use Rattle.round_workers.proofs.board.end.looks_out_of.Given as goal

abbrev pub invariant-loop-place : goal.invariant-loop-place
invariant-loop-place l = record {
  all : l.room.items ++ map look_in (into_iter_items l.rest) ≡ map look_in l.fn.places.items;
  long : length (into_iter_items l.rest) ≡ into_iter_len l.rest;
  fits : vec_len l.room + into_iter_len l.rest ≤ vec_capacity l.room;
}

abbrev pub decreases-loop-place : goal.decreases-loop-place
decreases-loop-place l = into_iter_len l.rest
