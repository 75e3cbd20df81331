use Rattle.std.proofs.Common.{◌∙◌, ap}
use Rattle.line_tokens.specs.Inner.Scan.{begins_token}
use Rattle.line_tokens.specs.Tokens.{has_token}
use Rattle.line_tokens.proofs.TokensLemmas.{has_next_of}
use Rattle.line_tokens.proofs.tokens.Tokens.has_next.Goals as goal

pub returns : goal.returns
returns c = c.begins_token.ensures ∙ ap begins_token c.after_separators.ensures ∙ has_next_of c.self.inside.rest.now ∙ ap has_token c.self.view_is
