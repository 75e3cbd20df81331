-- Pieces of a window, before and after their looks are made.
use Rattle.std.specs.Prelude.{◌≡◌, ℕ, ◌-◌, ◌≤◌, List, [], ◌∷◌, take, map, All}
use Rattle.std.specs.Vec.{vec_capacity}
use Rattle.round_book.specs.Book.{CanBegin, FieldValue, window_of}
use Rattle.round_book.specs.Window.{Window, guess_for}
use Rattle.spec_record.specs.Look.{LookValue}
use Rattle.round_workers.specs.declared.piece.Piece.{Piece}
use Rattle.round_workers.specs.declared.share.Share.{Share}
use Rattle.round_workers.specs.Inner.Shares.{looks_for}

-- there is room for the looks at all its turns
abbrev pub HasPieceRoom : Piece → Type 0
HasPieceRoom piece = piece.share.to - piece.share.from ≤ vec_capacity piece.looks

-- the shares of the first n pieces
abbrev pub shares_among : ℕ → List Piece → List Share
shares_among n pieces = map (λ piece. piece.share) (take n pieces)

-- the first n pieces have room
abbrev pub all_have_room : ℕ → List Piece → Type 0
all_have_room n pieces = All HasPieceRoom (take n pieces)

-- the first looks of the list are those at the turns of the share
abbrev pub AreLooked : Window → Share → List LookValue → Type 0
AreLooked window share looks = take (share.to - share.from) looks ≡ looks_for window share.from (share.to - share.from)

-- the guess for the first turn of a share, in a window of this field that begins at turn `from`, is the one of the
-- share
abbrev pub IsGuessed : FieldValue → ℕ → Share → Type 0
IsGuessed field from share = share.guess ≡ guess_for (window_of field from share.to) share.from

-- a piece of a window of this field that begins at turn `from`
pub record IsPieceReady (field : FieldValue) (from : ℕ) (piece : Piece) : Type 0 where
  pub begin : CanBegin field from piece.share.to
  pub first : from ≤ piece.share.from
  pub forwards : piece.share.from ≤ piece.share.to
  pub guess : IsGuessed field from piece.share
  pub room : HasPieceRoom piece

-- its looks are made
pub record IsPieceDone (field : FieldValue) (from : ℕ) (old new : Piece) : Type 0 where
  pub share : new.share ≡ old.share
  pub looked : AreLooked (window_of field from old.share.to) old.share new.looks.items

-- shares follow one another, from a turn up to another
abbrev pub AreConsecutive : List Share → (from to : ℕ) → Type 0
AreConsecutive [] from to = from ≡ to
AreConsecutive (share ∷ shares) from to =
    (share.from ≡ from) × (share.from ≤ share.to) × AreConsecutive shares share.to to
