-- How the positions of a line are judged, for any positions and faults (this project's own: the rule of faults).
use Rattle.std.specs.Prelude.{List, [], Option, Some, None}

-- no further position, whatever the token means
abbrev pub nothing_more : {A P : Type 0} → A → List P
nothing_more x = []

-- the fault of a position that doesn't accept its token; otherwise the result of what comes next, which gets the
-- positions that the token adds
abbrev pub judged : {P F : Type 0} → Option (List P) → F → (List P → Option F) → Option F
judged None fault next = Some fault
judged (Some brings) fault next = next brings
