use Rattle.std.proofs.Common.{◌≡◌, drop, length}
use Rattle.ant_base.specs.Inner.Entries.{bytes_in, files_in}
use Rattle.ant_base.specs.MemShelf.{content_of}
use Rattle.ant_base.proofs.files.Files.content.Given as goal

abbrev pub invariant-loop-sizes : goal.invariant-loop-sizes
invariant-loop-sizes l = (content_of (files_in (drop l.sizes-index l.sizes-items) l.rest) l.name ≡ content_of l.self.files l.name) × (bytes_in (drop l.sizes-index l.sizes-items) ≡ length l.rest)
