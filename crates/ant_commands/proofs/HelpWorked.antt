-- The page of `--help` has lines of at most 80 columns.
use Rattle.std.proofs.Common.{◌≡◌, ℕ, true, List, length, refl}
use Rattle.std.specs.Fmt.{digits}
use Rattle.std.specs.List.{list_all}
use Rattle.std.specs.Prelude.{nat_le}
use Rattle.ant_base.specs.Layout.{numbered}
use Rattle.ant_base.specs.Lines.{lines_of}
use Rattle.command_words.specs.Help.{command_text, free_texts, has_free, more_text, needed_texts, option_line, place_lines, table_text, takes_line}
use Rattle.ant_commands.specs.Help.{head_lines, help_text, tail_lines}

pub lines_are_short : list_all (λ (line : List ℕ). nat_le (length line) 80) (lines_of help_text) ≡ true
unfolding help_text head_lines table_text tail_lines command_text needed_texts more_text place_lines has_free takes_line free_texts option_line numbered digits
lines_are_short = refl
