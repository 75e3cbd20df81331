-- all can be read exactly if what is left can
use Rattle.std.proofs.Common.{drop}
use Rattle.ant_base.specs.Lines.{lines_of}
use Rattle.ants_c.specs.Called.{AreFiles}
use Rattle.ants_c.proofs.lent_shelf.are_files.Given as goal

abbrev pub invariant-loop-size : goal.invariant-loop-size
invariant-loop-size l = record {
  left : AreFiles (lines_of l.names) l.sizes l.fn.bytes → AreFiles (lines_of l.lines) (drop l.size-index l.sizes) l.bytes;
  all : AreFiles (lines_of l.lines) (drop l.size-index l.sizes) l.bytes → AreFiles (lines_of l.names) l.sizes l.fn.bytes;
}
