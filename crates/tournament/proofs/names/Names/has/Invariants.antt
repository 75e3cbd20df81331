use Rattle.std.proofs.Common.{◌≡◌, drop}
use Rattle.ant_base.specs.Names.{has_name}
use Rattle.tournament.specs.Names.{texts_of}
use Rattle.tournament.proofs.names.Names.has.Given as goal

-- whether the name is among those that are left
abbrev pub invariant-loop-other : goal.invariant-loop-other
invariant-loop-other l = has_name (texts_of (drop l.other-index l.other-items)) l.name ≡ has_name l.self l.name
