use Rattle.std.proofs.Common.{◌≡◌, ℕ, List, ◌++◌, ◌∙◌, ap}
use Rattle.std.specs.Str.{bytes_eq}
use Rattle.ant_base.specs.MemSink.{MemSinkState}
use Rattle.brain_read.specs.Canonical.{instruction_text}
use Rattle.brain_read.specs.Drafts.{drafted}
use Rattle.match_save.proofs.Drafted.{printed-line}
use Rattle.match_save.proofs.programs.is_printed_as.Goals as goal

pub returns : goal.returns
returns c =
    let held : c.held.result.now ≡ instruction_text (drafted c.args.draft) =
    c.held.ensures ∙ c.if-not-prints.ensures ∙ ap (λ (s : MemSinkState). s.held ++ instruction_text (drafted c.args.draft)) c.in-Ok.ensures in
    c.are_same-same.ensures ∙ ap (λ (t : List ℕ). bytes_eq t c.args.line.now) (c.without_last.ensures ∙ printed-line c.held.result.now (drafted c.args.draft) held)
