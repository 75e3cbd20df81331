-- no file so far has the name, so its content is the one that it has among the files that are left
use Rattle.std.proofs.Common.{◌≡◌, drop}
use Rattle.ant_base.specs.Lines.{lines_of}
use Rattle.ant_base.specs.MemShelf.{content_of}
use Rattle.ants_c.specs.Called.{files_in}
use Rattle.ants_c.proofs.lent_shelf.content.Given as goal

abbrev pub invariant-loop-size : goal.invariant-loop-size
invariant-loop-size l = content_of (files_in (lines_of l.lines) (drop l.size-index l.sizes) l.bytes) l.name ≡ content_of (files_in (lines_of l.names) l.sizes l.fn.bytes) l.name
