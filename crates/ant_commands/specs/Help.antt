-- The pages of `--help` and `--version` (this project's own). What a page says about commands and options is built from
-- the table of words, with their limits; each line has at most 80 columns (proofs/HelpWorked.antt).
use Rattle.std.specs.Prelude.{ℕ, List, codes}
use Rattle.ant_base.specs.Layout.{◌+++◌}
use Rattle.command_words.specs.Help.{table_text}

-- the first lines: what the program is, and how it is called
unfoldable pub head_lines : List ℕ
head_lines =
    codes "ants 1.2.0-dev plays the ant world of the ICFP Programming Contest 2004.\n"
    +++ codes "\n"
    +++ codes "usage: ants COMMAND WORD.. [OPTION]..\n"
    +++ codes "\n"
    +++ codes "Give a file for each word in capitals, or a number if its line says so; - is\n"
    +++ codes "standard input. Options come last, in any order.\n"
    +++ codes "\n"

-- what workers are for, the exit statuses, and where to read on
unfoldable pub tail_lines : List ℕ
tail_lines =
    codes "\n"
    +++ codes "Workers of run, save, resume and advance look ahead, which is slower; those of\n"
    +++ codes "cup play games at the same time, which is faster. None changes what is printed.\n"
    +++ codes "\n"
    +++ codes "Exit status:\n"
    +++ codes "  0  all of the output was written\n"
    +++ codes "  1  a word isn't UTF-8; nothing is written\n"
    +++ codes "  2  the words are not a command\n"
    +++ codes "  3  a file could not be read\n"
    +++ codes "  4  the output failed\n"
    +++ codes "  5  a file was refused, or an element of a world has no room\n"
    +++ codes "  6  out of memory\n"
    +++ codes "\n"
    +++ codes "docs/RULES.md has the rules and the files, docs/COMMANDS.md the commands.\n"

-- the output of `--help`: a page that is built from the table of words
unfoldable pub help_text : List ℕ
help_text = head_lines +++ table_text +++ tail_lines

-- the output of `--version`
unfoldable pub version_text : List ℕ
version_text = codes "ants 1.2.0-dev\n"
