-- Words that are fronts of a command's own words, refused at their word.
use Rattle.std.proofs.Common.{codes, refl}
use Rattle.ant_base.specs.Number.{decimal_value}
use Rattle.command_words.specs.Command.{IsRefusedAt, is_among, rest_after}
use Rattle.command_words.specs.Inner.Walk.{command_kind_of, choice_of}
use Rattle.command_words.specs.Slots.{dumps_of, is_dumps, is_file_name}
use Rattle.command_words.proofs.ReadLemmas.{read-refuses}
use Rattle.command_words.proofs.WorkedLines.{words_of}

-- a prefix of a command's word is not a command
pub command_cut : IsRefusedAt (words_of (codes "sho w 1")) 1
unfolding command_kind_of choice_of is_among rest_after is_file_name is_dumps dumps_of decimal_value
command_cut = read-refuses (words_of (codes "sho w 1")) 1 refl

-- nor is a prefix of an option's word an option
pub option_cut : IsRefusedAt (words_of (codes "run w r b --see 1")) 5
unfolding command_kind_of choice_of is_among rest_after is_file_name is_dumps dumps_of decimal_value
option_cut = read-refuses (words_of (codes "run w r b --see 1")) 5 refl
