-- What was read from all lines.
use Rattle.std.specs.Prelude.{◌≡◌, map, Result, Ok, Err, ℕ}
use Rattle.brain_read.specs.Drafts.{drafted}
use Rattle.match_save.specs.declared.draft.SaveDraft.{SaveDraft}
use Rattle.match_save.specs.declared.fault.SaveFault.{SaveFault}
use Rattle.match_save.specs.Draft.{Draft}
use Rattle.match_save.specs.Inner.Answered.{FaultTold}

-- what it says
abbrev pub said : SaveDraft → Draft
said it = record {
  head = it.head;
  red = map drafted it.red.items;
  black = map drafted it.black.items;
  soils = it.soils.items;
  red_marks = it.red_marks.items;
  black_marks = it.black_marks.items;
  foods = it.foods.items;
  ants = it.ants.items;
}

-- what is read from a text is what was judged, or its fault is the line that was judged bad
abbrev pub TellsDraft : Result Draft ℕ → Result SaveDraft SaveFault → Type 0
TellsDraft told (Ok draft) = told ≡ Ok (said draft)
TellsDraft told (Err fault) = FaultTold told fault
