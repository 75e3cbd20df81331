use Rattle.std.proofs.Common.{◌≡◌, ℕ, ◌+◌, List, length, string_bytes, sym, ap, ◌∙◌, subst}
use Rattle.std.specs.Prelude.{String, min}
use Rattle.std.specs.declared.alloc.Global.{Global}
use Rattle.std.proofs.lemmas.List.{length-map}
use Rattle.command_words.specs.declared.table.Choice.TheVariants.{Far}
use Rattle.command_words.specs.Command.{IsCommand, IsRefusedAt, plain}
use Rattle.command_words.specs.Far.{words_without_far}
use Rattle.command_words.specs.Table.{option_of}
use Rattle.command_words.specs.Words.{texts}
use Rattle.command_words.specs.Inner.Fronts.{words_before}
use Rattle.command_words.proofs.FarWords.{refused-after_command, refused-earlier}
use Rattle.command_words.proofs.far.refused_far.Goals as goal

-- the words before it, as their bytes
front_is : (words front : List (String Global)) (text : List ℕ) → text ≡ option_of Far → texts front ≡ words_before text (texts words) → texts front ≡ words_before (option_of Far) (texts words)
front_is words front text same is = is ∙ ap (λ (t : List ℕ). words_before t (texts words)) same

-- and how many they are
front_size : (words front : List (String Global)) → texts front ≡ words_before (option_of Far) (texts words) → length front ≡ length (words_before (option_of Far) (texts words))
front_size words front is = sym (length-map front string_bytes) ∙ ap length is

pub returns-in-Ok : goal.returns-in-Ok
returns-in-Ok c =
    let front = front_is c.args.words.now c.words_before-front.result.now c.word.result.now c.word.ensures c.words_before-front.ensures in
    subst (λ (n : ℕ). IsRefusedAt (words_without_far (texts c.args.words.now)) (n + 1)) (sym (front_size c.args.words.now c.words_before-front.result.now front))
    (refused-after_command (texts c.args.words.now) c.requires (plain c.in-Ok.field-0) (subst (λ (ws : List (List ℕ)). IsCommand ws (plain c.in-Ok.field-0)) front c.in-Ok.ensures.command))

pub returns-in-Err : goal.returns-in-Err
returns-in-Err c =
    let front = front_is c.args.words.now c.words_before-front.result.now c.word.result.now c.word.ensures c.words_before-front.ensures in
    subst (IsRefusedAt (words_without_far (texts c.args.words.now)))
    (sym (c.earlier.ensures ∙ ap (λ (n : ℕ). min c.in-Err.refused.word (n + 1)) (front_size c.args.words.now c.words_before-front.result.now front)))
    (refused-earlier (texts c.args.words.now) c.requires c.in-Err.refused.word (subst (λ (ws : List (List ℕ)). IsRefusedAt ws c.in-Err.refused.word) front c.in-Err.ensures.refused))
