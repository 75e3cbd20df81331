use Rattle.std.proofs.Common.{subst}
use Rattle.ant_base.specs.Sink.{Pushed}
use Rattle.ant_base.proofs.Numbered.{numbered-list}
use Rattle.tournament.specs.Inner.Blank.{blank}
use Rattle.tournament.specs.Text.{table_line_text}
use Rattle.tournament.proofs.text.push_standing_with.Goals as goal

pub returns : goal.returns
returns g c =
    subst (λ text. Pushed (g.K.Sink.state c.args.sink.now) (g.K.Sink.state c.push_to.new.sink) text c.push_to.result)
    (numbered-list (table_line_text c.args.leads c.args.names.now) c.args.standing.now blank) c.push_to.ensures
