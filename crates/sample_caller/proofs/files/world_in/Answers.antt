-- the file was fetched and its bytes were opened, or not
use Rattle.std.proofs.lemmas.Result.{err_from_is_err_and}
use Rattle.sample_caller.specs.Files.ReadsFile.{Opened, Unfetched}
use Rattle.sample_caller.proofs.files.world_in.Goals as goal

pub returns-in_err-bytes : goal.returns-in_err-bytes
returns-in_err-bytes g c =
    let p = err_from_is_err_and c.from_residual.result c.from_residual.ensures.1 in
    rw (p.1, p.2) (Unfetched c.in_err-bytes.field-0.0 c.in_err-bytes.ensures)

pub returns : goal.returns
returns g c = Opened c.in_ok-bytes.bytes.items c.open_world.result c.named.result c.in_ok-bytes.ensures.0 (rw (← c.deref.ensures.value) c.open_world.ensures.opens) c.named.ensures
