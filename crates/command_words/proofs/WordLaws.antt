-- What holds of all words.
use Rattle.std.proofs.Common.{◌≡◌, ℕ, ◌+◌, ◌<◌, List, [], length, Result, Ok, Err, sym, ap, ◌∙◌, subst, ◌⊎◌, inl, inr, refl, arith}
use Rattle.std.proofs.lemmas.Bool.{cases_order}
use Rattle.std.proofs.lemmas.List.{append-nil}
use Rattle.command_words.specs.Command.{AskedWithin, IsBeginning, IsCommand, IsRefusedAt, PlainAsked, asked_in, asked_of}
use Rattle.command_words.specs.Inner.Walk.{read_of}
use Rattle.command_words.specs.Laws.{AnyOrder, FrontBegins, NeverBoth, OneCommand, OneOfBoth, OneRefusedWord, WithinLimits}
use Rattle.command_words.proofs.AnswersLemmas.{answers-same, answers_in-of}
use Rattle.command_words.proofs.WithinLemmas.{asked-within}
use Rattle.command_words.proofs.ReadLemmas.{read-command, read-accepts, read-refuses, IsBeginning-front, IsBeginning-take}

pub one_command : OneCommand
one_command words a b is_a is_b = (let both : Ok a ≡ Ok b = sym (read-command words a is_a) ∙ read-command words b is_b in cc)

-- of two refused words none is the earlier
not_earlier : (words : List (List ℕ)) (a b : ℕ) → IsRefusedAt words a → IsRefusedAt words b → a < b → ⊥
not_earlier words a b at_a at_b less =
    let top = at_b.no_further in
    at_a.refused (omega arith) (at_b.before a less)

pub one_refused_word : OneRefusedWord
one_refused_word words a b at_a at_b =
    elim (cases_order a b) [
      | inl same ↦ same
      | inr other ↦ elim other [ inl less ↦ absurd (not_earlier words a b at_a at_b less) | inr more ↦ absurd (not_earlier words b a at_b at_a more) ]
    ]

command-begins : (words : List (List ℕ)) (command : PlainAsked) → IsCommand words command → IsBeginning words
command-begins words command is = record { more = []; asked = command; whole = subst (λ ws. IsCommand ws command) (sym (append-nil words)) is }

pub never_both : NeverBoth
never_both words command word is at =
    elim (cases_order word (length words + 1)) [
      | inl last ↦ at.unfinished last command is
      | inr other ↦ elim other [
        | inl within ↦ at.refused (omega arith) (IsBeginning-take word words (command-begins words command is))
        | inr past ↦ (let top = at.no_further in omega arith)
      ]
    ]

pub one_of_both : OneOfBoth
one_of_both words = go (read_of words) refl where
  go : (r : Result PlainAsked ℕ) → read_of words ≡ r → ((command : PlainAsked) × IsCommand words command) ⊎ ((word : ℕ) × IsRefusedAt words word)
  go (Ok command) e = inl (command, read-accepts words command e)
  go (Err word) e = inr (word, read-refuses words word e)

pub front_begins : FrontBegins
front_begins words more is = IsBeginning-front words more is

pub any_order : AnyOrder
any_order words more command is others form to from =
    let same = answers-same is.kind is.front is.given others is.form.once form.once to from in
    let here = answers_in-of is.kind is.front is.given is.form.places is.form.options in
    let there = answers_in-of is.kind is.front others form.places form.options in
    record {
      kind = is.kind;
      front = is.front;
      given = others;
      form = form;
      says = ap (asked_in is.kind) form.whole ∙ ap (asked_of is.kind) (there ∙ same ∙ sym here) ∙ ap (asked_in is.kind) (sym is.form.whole) ∙ is.says;
    }

pub within_limits : WithinLimits
within_limits words command is =
    subst AskedWithin is.says (asked-within is.kind is.front is.given words is.form)
