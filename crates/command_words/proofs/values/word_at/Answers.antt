use Rattle.std.proofs.Common.{Some, length, option_copied, option_map, refl, sym, ap, ◌∙◌, arith}
use Rattle.std.specs.String.{string_bytes}
use Rattle.std.proofs.lemmas.Bool.{ltb-false}
use Rattle.std.proofs.lemmas.Option.{slice_get-map, slice_get_past, slice_get_read}
use Rattle.command_words.proofs.values.word_at.Goals as goal

pub returns-in_err-word : goal.returns-in_err-word
returns-in_err-word c =
    let ws = c.args.words.now in let past = ltb-false c.args.place (length ws) (sym c.in_err-word.ensures.lookup.0) in
    ap option_copied c.from_residual.ensures ∙ sym (slice_get-map string_bytes ws c.args.place ∙ ap (option_map string_bytes) (slice_get_past ws c.args.place (omega (arith, past))))

pub returns : goal.returns
returns c =
    let ws = c.args.words.now in let found = c.in_ok-word.ensures.lookup in let word = c.in_ok-word.word.now in
    ap Some c.as_str.ensures.value ∙ sym (slice_get-map string_bytes ws c.args.place ∙ ap (option_map string_bytes) (slice_get_read ws (length ws) c.args.place word refl found.3.0 found.1))
