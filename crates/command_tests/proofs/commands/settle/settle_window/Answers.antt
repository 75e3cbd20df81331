-- the guesses of a window, one by one, and the looks that are made at them
use Rattle.std.proofs.Common.{◌≡◌, ℕ, ◌+◌, ◌-◌, ◌<◌, List, length, slice_index_or, sym, ◌∙◌, ap, arith}
use Rattle.ant_turn.specs.Minds.{minds_of}
use Rattle.cell_world.specs.Grid.{Grid, world_of}
use Rattle.spec_record.specs.Guess.{guess, guesses_of}
use Rattle.round_book.specs.Book.{BookValue, FieldValue, IsSameWindow, StandsOn}
use Rattle.round_book.specs.Window.{guess_for}
use Rattle.round_book.proofs.GuessLemmas.{guesses_of-at, guesses_of-length}
use Rattle.round_book.proofs.SoloLemmas.{Going, going-guess, going-look}
use Rattle.command_tests.proofs.commands.settle.settle_window.Goals as goal

-- the guesses of a window
abbrev AreGuesses : FieldValue → BookValue → List ℕ → Type 0
AreGuesses field book guesses = guesses ≡ guesses_of field.minds (world_of field.world) field.place book.from book.from (book.to - book.from)

-- a window has a guess for each turn
length-given : (field : FieldValue) (book : BookValue) (guesses : List ℕ) → AreGuesses field book guesses → length guesses ≡ book.to - book.from
length-given field book guesses given = ap length given ∙ guesses_of-length field.minds (world_of field.world) field.place book.from book.from (book.to - book.from)

-- where a window is after some turns
going-at : (field : FieldValue) (old book : BookValue) (guesses : List ℕ) (k id : ℕ) → AreGuesses field old guesses → k < length guesses → StandsOn field book → IsSameWindow old book → book.next ≡ old.from + k → id ≡ book.next
    → Going field old.from old.to id book (slice_index_or guesses k 0)
unfolding guess_for
going-at field old book guesses k id given below stands same next here =
    let many = length-given field old guesses given in
    record {
      stands = stands;
      begins = same.from;
      ends = same.to;
      at = sym here;
      guessed =
          ap (λ (all : List ℕ). slice_index_or all k 0) given
          ∙ guesses_of-at field.minds (world_of field.world) field.place old.from old.from (old.to - old.from) k 0 (omega (arith, below, many))
          ∙ ap (guess field.minds (world_of field.world) field.place old.from) (sym (here ∙ next));
    }

pub look-look-requires-clause-id : goal.look-look-requires-clause-id
look-look-requires-clause-id c =
    let ids = ap (λ (grid : Grid). grid.ids) c.world.ensures.world in
    let last = c.requires.stands.stands.playable.ids in
    let many = length-given c.args.field.now c.args.book.now c.args.guesses.now c.requires.guesses in
    let next = c.loop-guess.invariant.next in
    let here = c.next-id.ensures.next in
    omega (arith, ids, last, many, next, here, c.loop-guess-test.true)

pub look-look-requires-clause-guess : goal.look-look-requires-clause-guess
look-look-requires-clause-guess c =
    let many = length-given c.args.field.now c.args.book.now c.args.guesses.now c.requires.guesses in
    let next = c.loop-guess.invariant.next in
    let here = c.next-id.ensures.next in
    going-guess c.args.field.now c.args.book.now.from c.args.book.now.to c.next-id.result c.loop-guess.book (slice_index_or c.args.guesses.now c.loop-guess.guess-index 0) (going-at c.args.field.now c.args.book.now c.loop-guess.book c.args.guesses.now c.loop-guess.guess-index c.next-id.result c.requires.guesses c.loop-guess-test.true c.loop-guess.invariant.stands c.loop-guess.invariant.same c.loop-guess.invariant.next c.next-id.ensures.next) (omega (arith, many, next, here, c.loop-guess-test.true))

pub settle_or_redo-cause-requires-clause-left : goal.settle_or_redo-cause-requires-clause-left
settle_or_redo-cause-requires-clause-left c =
    let many = length-given c.args.field.now c.args.book.now c.args.guesses.now c.requires.guesses in
    let next = c.loop-guess.invariant.next in
    let to = c.loop-guess.invariant.same.to in
    omega (arith, many, next, to, c.loop-guess-test.true)

pub settle_or_redo-cause-requires-clause-look : goal.settle_or_redo-cause-requires-clause-look
settle_or_redo-cause-requires-clause-look c =
    going-look c.args.field.now c.args.book.now.from c.args.book.now.to c.next-id.result c.loop-guess.book (slice_index_or c.args.guesses.now c.loop-guess.guess-index 0) (going-at c.args.field.now c.args.book.now c.loop-guess.book c.args.guesses.now c.loop-guess.guess-index c.next-id.result c.requires.guesses c.loop-guess-test.true c.loop-guess.invariant.stands c.loop-guess.invariant.same c.loop-guess.invariant.next c.next-id.ensures.next)
    c.look-look.result (minds_of c.brains.result) c.seed.result c.world.result.now c.brains.ensures.brains c.seed.ensures c.world.ensures.world c.look-look.ensures

pub returns-clause-done : goal.returns-clause-done
returns-clause-done c =
    let many = length-given c.args.field.now c.args.book.now c.args.guesses.now c.requires.guesses in
    let next = c.loop-guess.invariant.next in
    let to = c.loop-guess.invariant.same.to in
    let forwards = c.requires.stands.stands.playable.forwards in
    omega (arith, many, next, to, forwards, c.loop-guess-test.false, c.loop-guess.auto.guess-index-end)
