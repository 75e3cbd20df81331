use Rattle.match_save.proofs.SaveVerdicts.{every-fault, every-saved, reads-fault, reads-saved}
use Rattle.match_save.proofs.read.read_saved.Goals as goal

pub returns : goal.returns
returns c = record {
  saved = reads-saved c.args.text.now c.read_text.result c.read_text.ensures;
  fault = reads-fault c.args.text.now c.read_text.result c.read_text.ensures;
  every_saved = λ saved is. every-saved c.args.text.now c.read_text.result c.read_text.ensures saved is;
  every_fault = λ fault is. every-fault c.args.text.now c.read_text.result c.read_text.ensures fault is;
}
