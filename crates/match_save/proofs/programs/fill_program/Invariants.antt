use Rattle.std.proofs.Common.{◌≡◌, ◌-◌, map}
use Rattle.brain_read.specs.Drafts.{drafted}
use Rattle.match_save.specs.Inner.Answered.{behind}
use Rattle.match_save.specs.Inner.Readers.{many}
use Rattle.match_save.specs.Inner.Reading.{instruction_of}
use Rattle.match_save.proofs.programs.fill_program.Given as goal

-- the instructions that are left, after those that were read, are all instructions
abbrev pub invariant-loop-state : goal.invariant-loop-state
invariant-loop-state l =
    behind (map drafted l.fn.list.items) (many instruction_of l.count l.fn.lines) ≡ behind (map drafted l.list.items) (many instruction_of (l.count - l._state) l.lines)
