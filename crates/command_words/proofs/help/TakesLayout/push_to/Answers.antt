-- the options stand in the line, if there are some
use Rattle.std.proofs.Common.{Bool, List, [], ap, codes, cond, subst, sym, ℕ, ◌∙◌}
use Rattle.ant_base.specs.Layout.{◌+++◌}
use Rattle.ant_base.specs.Sink.{Pushed}
use Rattle.command_words.specs.Help.{free_texts, takes_line}
use Rattle.command_words.proofs.help.TakesLayout.push_to.Goals as goal

pub returns-then-has_free : goal.returns-then-has_free
unfolding takes_line
returns-then-has_free g c =
    subst (λ (text : List ℕ). Pushed (g.K.Sink.state c.args.sink.now) (g.K.Sink.state c.push_to.new.sink) text c.push_to.result)
    (sym (ap (λ (free : Bool). cond free (codes "      takes" +++ free_texts c.args.self.now.0.now +++ codes "\n") []) (sym c.has_free.ensures ∙ c.if-has_free.true)))
    c.push_to.ensures
