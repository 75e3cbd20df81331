-- What a look is worth in a book.
use Rattle.std.proofs.Common.{◌≡◌, ◌≢◌, inl, inr, ⊎_elim, ℕ, suc, ◌+◌, ◌-◌, ◌<◌, ◌≤◌, false, List, [], ◌∷◌, ◌++◌, map, refl, sym, ◌∙◌, ap, subst, arith}
use Rattle.std.specs.List.{AllByRecursion, Contains}
use Rattle.std.proofs.lemmas.List.Elements.{Contains-append_right}
use Rattle.list_lemmas.proofs.Elements.{Contains-cases, Contains-none}
use Rattle.hex_geometry.specs.declared.position.Pos.{Pos}
use Rattle.cell_world.specs.Cell.{one_if}
use Rattle.cell_world.specs.Grid.{world_of}
use Rattle.cell_world.specs.Parts.{Agree, has_part, part}
use Rattle.cell_world.specs.Valid.{Valid}
use Rattle.cell_world.specs.World.{Cells, World, with_cells}
use Rattle.cell_world.proofs.Places.{clear_inside}
use Rattle.ant_turn.specs.Keeps.{Keeps}
use Rattle.ant_turn.specs.Minds.{AreSound, Fits, Minds}
use Rattle.ant_turn.specs.Rounds.{Moment, after_turn}
use Rattle.ant_turn.specs.Turn.{Outcome, turn}
use Rattle.spec_record.specs.Claims.{Claim, Sighting, seen_cell, seen_parts, seen_place, seen_positions, with_cells_at}
use Rattle.spec_record.specs.Holds.{Holds}
use Rattle.spec_record.specs.Locality.{GoesOn, outcome_by}
use Rattle.spec_record.specs.Look.{LookValue, look_of}
use Rattle.spec_record.specs.Reads.{reads}
use Rattle.spec_record.specs.Writes.{writes}
use Rattle.spec_record.proofs.ClaimLemmas.{seen_positions-claims}
use Rattle.spec_record.proofs.Flips.{LookHolds-Holds, look-drew}
use Rattle.spec_record.proofs.Patched.{turn-patched}
use Rattle.spec_record.proofs.SettledWrites.{Makes}
use Rattle.spec_record.proofs.SettledTurns.{look-CanSetWrites, settles}
use Rattle.spec_record.proofs.WritesAlone.{GoesOn-itself, Holds-itself}
use Rattle.round_book.specs.declared.verdict.Cause.{Cause}
use Rattle.round_book.specs.declared.verdict.Cause.TheVariants as cause
use Rattle.round_book.specs.declared.verdict.Verdict.{Verdict}
use Rattle.round_book.specs.declared.verdict.Verdict.TheVariants.{Taken, Redone}
use Rattle.round_book.specs.Book.{AgreesUnwritten, BookValue, CanPatchIn, CanTake, HoldsInBook, IsCause, IsEnded, IsRedone, IsSameWindow, IsTaken, Stands, Wrote, moment_of}
use Rattle.round_book.specs.Machine.{taken}
use Rattle.round_book.specs.Window.{HoldsIn, IsPlayable, IsVerdict, AreVerdicts, Window, guess_for, look_for, moment_before}
use Rattle.round_book.proofs.MachineLemmas.{IsSound-playable, Keeps-moment_before, moment_before-suc}
use Rattle.round_book.proofs.PassLemmas.{patched_cells-other}
use Rattle.round_book.proofs.WindowLemmas.{GoesOn-Keeps, LookIsTurn-window}

-- each can be patched
each_patched : (now : World) (wanted : Cells) (writes : List Sighting) → Valid now → AllByRecursion (Makes now.cells wanted) writes → AllByRecursion (λ write. (now.cells (seen_place write)).rocky ≡ false) writes → AllByRecursion (CanPatchIn now) writes
each_patched now wanted [] valid makes clear = tt
each_patched now wanted (write ∷ writes) valid makes clear =
    ((clear_inside now (seen_place write) valid clear.0, makes.0.can_patch), each_patched now wanted writes valid makes.1 clear.1)

-- the writes of a look that holds may be set
pub look-CanTake : (minds : Minds) (seed : ℕ) (base : World) (guess : ℕ) (now : World) (place t : ℕ) → AreSound minds → Valid base → Valid now → Fits now minds → GoesOn base now t → Holds minds base guess now place t →
    CanTake now (look_of minds seed base guess t).writes
look-CanTake minds seed base guess now place t sound valid_base valid fits goes holds =
    let may = settles minds seed base guess now place t sound valid_base valid fits goes holds in
    record {
      each = each_patched now (turn minds seed now place t).cells (look_of minds seed base guess t).writes valid may.made may.clear;
      in_order = look-CanSetWrites minds seed base guess now place t sound valid_base valid fits goes holds 9 (omega arith);
    }

-- the look at a turn in the very world where it is taken may be taken, and is worth the turn
pub own-CanTake : (minds : Minds) (seed : ℕ) (w : World) (place t : ℕ) → AreSound minds → Valid w → Fits w minds → CanTake w (look_of minds seed w place t).writes
own-CanTake minds seed w place t sound valid fits =
    look-CanTake minds seed w place w place t sound valid valid fits (GoesOn-itself w t valid) (Holds-itself minds w place t)

abbrev pub moment_at : World → ℕ → Moment
moment_at w place = record { world = w; place = place }

own-turn : (minds : Minds) (seed : ℕ) (w : World) (place t : ℕ) → Valid w →
    taken (moment_at w place) (look_of minds seed w place t) ≡ after_turn minds seed (moment_at w place) t
unfolding after_turn
own-turn minds seed w place t valid =
    let same : turn minds seed w place t ≡ outcome_by (look_of minds seed w place t) w.cells = turn-patched minds seed w place w place t (GoesOn-itself w t valid) (Holds-itself minds w place t) in
    sym (ap (λ (out : Outcome). record { world = with_cells w out.cells; place = place + one_if out.drew }) same)

-- the positions of a look's writes are those of the turn's writes
look-places : (minds : Minds) (seed : ℕ) (w : World) (place t : ℕ) → seen_positions (look_of minds seed w place t).writes ≡ map (λ write. write.at) (writes minds w t)
unfolding look_of
look-places minds seed w place t = sym (seen_positions-claims (turn minds seed w place t).cells (writes minds w t))

-- a turn that ended as the look at it in the book's own world was executed again
pub IsRedone-ended : (minds : Minds) (found : Cause) (look : LookValue) (book new : BookValue) → Valid (world_of book.world) → look ≡ look_of minds book.seed (world_of book.world) book.place book.next →
    IsEnded look (Redone found) book new → IsRedone minds found book new
IsRedone-ended minds found look book new valid is ended = record {
  now = ended.now ∙ ap (taken (moment_of book)) is ∙ own-turn minds book.seed (world_of book.world) book.place book.next valid;
  written = subst (λ (places : List Pos). Wrote book.written places new.written) (ap (λ (l : LookValue). seen_positions l.writes) is ∙ look-places minds book.seed (world_of book.world) book.place book.next) ended.written;
  next = ended.next;
  verdicts = ended.verdicts;
}

-- where a book stands
module _ (window : Window) (book : BookValue) (playable : IsPlayable window) (stands : Stands window book) where
  pub keeps : Keeps window.minds window.base (world_of book.world)
  keeps = subst (λ (m : Moment). Keeps window.minds window.base m.world) (sym stands.now) (Keeps-moment_before window book.next (IsSound-playable window playable))

  -- what a look read that wasn't written is there
  unwritten_all : (claims : List Claim) → AllByRecursion (AgreesUnwritten book) (with_cells_at window.base.cells claims)
  unwritten_all [] = tt
  unwritten_all (c ∷ claims) = (λ fresh. λ k named. ap (part k) (sym (stands.unwritten c.at fresh)), unwritten_all claims)

  pub look_for-unwritten : (t : ℕ) → AllByRecursion (AgreesUnwritten book) (look_for window t).reads
  unfolding look_for look_of
  look_for-unwritten t = unwritten_all (reads window.minds window.base t)

  pub look_for-turn : (t : ℕ) → (look_for window t).turn ≡ t
  unfolding look_for look_of
  look_for-turn t = refl

  -- a look that holds in hand holds
  pub look_for-holds : (t : ℕ) → HoldsInBook book (look_for window t) → HoldsIn window (moment_of book) t
  unfolding look_for
  look_for-holds t holds = LookHolds-Holds window.minds window.seed window.base (guess_for window t) (world_of book.world) book.place t holds

  -- and its writes may be set
  pub look_for-CanTake : (t : ℕ) → HoldsInBook book (look_for window t) → CanTake (world_of book.world) (look_for window t).writes
  unfolding look_for
  look_for-CanTake t holds =
      look-CanTake window.minds window.seed window.base (guess_for window t) (world_of book.world) book.place t playable.sound playable.valid keeps.valid keeps.fits (GoesOn-Keeps window (world_of book.world) t (IsSound-playable window playable) keeps) (look_for-holds t holds)

-- what isn't contained is apart
apart_from : (writes : List Sighting) (p : Pos) → ¬ Contains (seen_positions writes) p → AllByRecursion (λ q. q ≢ p) (seen_positions writes)
apart_from [] p none = tt
apart_from (write ∷ writes) p none = (
  λ same. none (subst (λ q. Contains (seen_place write ∷ seen_positions writes) q) same (0, omega arith, refl)),
  apart_from writes p (λ held. none (Contains-append_right (seen_place write ∷ []) (seen_positions writes) p held)),
)

-- a sighting among claims with their cells is one of them
record Claimed (cells : Cells) (claims : List Claim) (read : Sighting) : Type 0 where
  pub claim : Claim
  pub is_read : Contains claims claim
  pub seen : read ≡ (claim.at, claim.parts, cells claim.at)

find_claim : (cells : Cells) (claims : List Claim) (read : Sighting) → Contains (with_cells_at cells claims) read → Claimed cells claims read
find_claim cells [] read held = absurd (Contains-none read held)
find_claim cells (c ∷ claims) read held = ⊎_elim
    (λ same. record { claim = c; is_read = (0, omega arith, refl); seen = sym same })
    (λ later.
    let found = find_claim cells claims read later in
    record { claim = found.claim; is_read = Contains-append_right (c ∷ []) claims found.claim found.is_read; seen = found.seen })
    (Contains-cases (c.at, c.parts, cells c.at) read (with_cells_at cells claims) held)

-- what agrees with all sightings agrees with all claims
agree_claims : (v w : Cells) (claims : List Claim) → AllByRecursion (λ read. Agree (seen_parts read) (seen_cell read) (w (seen_place read))) (with_cells_at v claims) → AllByRecursion (λ c. Agree c.parts (v c.at) (w c.at)) claims
agree_claims v w [] all = tt
agree_claims v w (c ∷ claims) all = (all.0, agree_claims v w claims all.1)

-- why the look doesn't hold is what may be said of its turn
pub IsVerdict-cause : (window : Window) (now : Moment) (t : ℕ) (found : Cause) → IsCause (look_for window t) now found → IsVerdict window now t (Redone found)
unfolding look_for look_of
IsVerdict-cause window now t (cause.Part at k) changed =
    let claimed = find_claim window.base.cells (reads window.minds window.base t) changed.read changed.is_read in
    let here : claimed.claim.at ≡ at = sym (ap seen_place claimed.seen) ∙ changed.here in
    record {
      read = claimed.claim;
      is_read = claimed.is_read;
      here = here;
      named = ap (λ (s : Sighting). has_part (seen_parts s) k) (sym claimed.seen) ∙ changed.named;
      differs = λ alike. changed.differs (ap (λ (s : Sighting). part k (seen_cell s)) claimed.seen ∙ ap (λ q. part k (window.base.cells q)) here ∙ alike);
    }
IsVerdict-cause window now t (cause.Place guessed actual) moved = record {
  unchanged = agree_claims window.base.cells now.world.cells (reads window.minds window.base t) moved.unchanged;
  flips = sym (look-drew window.minds window.seed window.base (guess_for window t) t) ∙ moved.drew;
  is_guess = moved.is_guess;
  is_actual = moved.is_actual;
  differs = moved.differs;
}

-- the turn of an id leaves the cells that it doesn't write
turn-unwritten : (minds : Minds) (seed : ℕ) (w : World) (place t : ℕ) (p : Pos) → Valid w → ¬ Contains (map (λ write. write.at) (writes minds w t)) p → (after_turn minds seed (moment_at w place) t).world.cells p ≡ w.cells p
turn-unwritten minds seed w place t p valid none =
    ap (λ (m : Moment). m.world.cells p) (sym (own-turn minds seed w place t valid))
    ∙ patched_cells-other (look_of minds seed w place t).writes w.cells p
    (apart_from (look_of minds seed w place t).writes p (subst (λ (places : List Pos). ¬ Contains places p) (sym (look-places minds seed w place t)) none))

module _ (window : Window) (book new : BookValue) (playable : IsPlayable window) (stands : Stands window book) (same : IsSameWindow book new) where
  -- one verdict more
  verdicts_more : (verdict : Verdict) → window.from ≤ book.next → new.next ≡ book.next + 1 → new.verdicts ≡ book.verdicts ++ verdict ∷ [] → IsVerdict window (moment_of book) book.next verdict → AreVerdicts window (new.next - window.from) new.verdicts
  verdicts_more verdict begun next more said =
      let count : suc (book.next - window.from) ≡ new.next - window.from = (let e : new.next ≡ book.next + 1 = next in omega arith) in
      let here : book.next ≡ window.from + (book.next - window.from) = omega arith in
      let said_there : IsVerdict window (moment_before window book.next) book.next verdict = subst (λ (m : Moment). IsVerdict window m book.next verdict) stands.now said in
      subst (λ k. AreVerdicts window k new.verdicts) count
      (book.verdicts, verdict, more, stands.verdicts, subst (λ t. IsVerdict window (moment_before window t) t verdict) here said_there)

  -- the moment after the next turn
  now_more : window.from ≤ book.next → new.next ≡ book.next + 1 → moment_of new ≡ after_turn window.minds window.seed (moment_of book) book.next → moment_of new ≡ moment_before window new.next
  now_more begun next now =
      now ∙ ap (λ m. after_turn window.minds window.seed m book.next) stands.now ∙ sym (moment_before-suc window book.next begun) ∙ ap (moment_before window) (sym next)

  -- after a look was taken the book stands
  pub Stands-taken : window.from ≤ book.next → book.next < window.to → IsTaken (look_for window book.next) book new → Stands window new
  Stands-taken begun below taken_so =
      let holds : HoldsIn window (moment_of book) book.next = look_for-holds window book playable stands book.next taken_so.holds in
      record {
        seed = same.seed ∙ stands.seed;
        from = same.from ∙ stands.from;
        to = same.to ∙ stands.to;
        now = now_more begun taken_so.ended.next (taken_so.ended.now ∙ LookIsTurn-window window (IsSound-playable window playable) (moment_of book) book.next below (keeps window book playable stands) holds);
        verdicts = verdicts_more Taken begun taken_so.ended.next taken_so.ended.verdicts holds;
        unwritten = λ p none.
            ap (λ (m : Moment). m.world.cells p) taken_so.ended.now
            ∙ patched_cells-other (look_for window book.next).writes (world_of book.world).cells p (apart_from (look_for window book.next).writes p (λ held. none ((taken_so.ended.written p).1 (inr held))))
            ∙ stands.unwritten p (λ held. none ((taken_so.ended.written p).1 (inl held)));
      }

  -- after a turn was executed again, for the cause that the look has, the book stands
  pub Stands-redone : (found : Cause) → window.from ≤ book.next → IsCause (look_for window book.next) (moment_of book) found → IsRedone window.minds found book new → Stands window new
  Stands-redone found begun is_cause redone = record {
    seed = same.seed ∙ stands.seed;
    from = same.from ∙ stands.from;
    to = same.to ∙ stands.to;
    now = now_more begun redone.next (redone.now ∙ ap (λ s. after_turn window.minds s (moment_of book) book.next) stands.seed);
    verdicts = verdicts_more (Redone found) begun redone.next redone.verdicts (IsVerdict-cause window (moment_of book) book.next found is_cause);
    unwritten = λ p none.
        ap (λ (m : Moment). m.world.cells p) redone.now
        ∙ turn-unwritten window.minds book.seed (world_of book.world) book.place book.next p (keeps window book playable stands).valid (λ held. none ((redone.written p).1 (inr held)))
        ∙ stands.unwritten p (λ held. none ((redone.written p).1 (inl held)));
  }
