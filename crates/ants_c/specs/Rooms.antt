-- The caller's room, and what is written over it (this project's own).
use Rattle.std.specs.Prelude.{◌≡◌, ◌⊎◌, ◌≤◌, ℕ, min, List, [], ◌∷◌, length, take, drop, nat_le, if◌then◌else◌}

-- A room with a text written over it, byte by byte from its front on. The bytes that the text doesn't reach are
-- unchanged. The bytes of the text that have no room are left out.
abbrev pub overlaid : List ℕ → List ℕ → List ℕ
overlaid [] text = []
overlaid (byte ∷ room) [] = byte ∷ room
overlaid (byte ∷ room) (code ∷ text) = code ∷ overlaid room text

-- how many bytes a text has, as a number of 64 bits; the largest such number also means any larger number
abbrev pub counted : List ℕ → ℕ
counted text = min (length text) 18446744073709551615

-- the status if this many bytes are written over a room: 4 if they are more than it holds, otherwise 0
abbrev pub room_status : ℕ → List ℕ → ℕ
room_status size room = if nat_le size (length room) then 0 else 4

-- a text was written over the caller's room, its bytes were counted, and the status says whether the room held them all
pub record IsPut (text before after : List ℕ) (used status : ℕ) : Type 0 where
  pub laid : after ≡ overlaid before text
  pub count : used ≡ counted text
  pub answered : status ≡ room_status (length text) before

-- a status at which a text is written over the room: 0 if all of it has room, 4 if only a part has
abbrev pub Writes : ℕ → Type 0
Writes status = (status ≡ 0) ⊎ (status ≡ 4)

-- what a log has after what a room held
abbrev pub behind : List ℕ → List ℕ → List ℕ
behind room log = drop (length room) log

-- The log has what the room held at first, followed by what was pushed. What was pushed was written over the room, and
-- its bytes are counted.
pub record IsLaid (room : List ℕ) (pushed : ℕ) (log : List ℕ) : Type 0 where
  pub long : length room ≤ length log
  pub laid : room ≡ overlaid (take (length room) log) (drop (length room) log)
  pub count : pushed ≡ counted (drop (length room) log)
