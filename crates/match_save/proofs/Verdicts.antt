-- Every text is that of one save's lines, or has one first bad line.
use Rattle.std.proofs.Common.{◌≡◌, ℕ, ◌+◌, ◌-◌, Bool, true, false, cond, List, [], ◌∷◌, ◌++◌, length, Result, Ok, Err, refl, sym, ◌∙◌, ap, subst, append_assoc, append-nil, length-append, inl, inr, arith}
use Rattle.std.proofs.lemmas.List.{append_cancel_left}
use Rattle.ant_base.specs.Lines.{ends_in_lf, lines_of}
use Rattle.match_save.specs.Draft.{Draft, IsInForm}
use Rattle.match_save.specs.Text.{draft_lines}
use Rattle.match_save.specs.Verdict.{BeginSave, IsBadLine, IsDraftText, IsFirstBad, StopsBefore}
use Rattle.match_save.specs.Verdict.IsBadLine.{Unlike, Unended}
use Rattle.match_save.specs.Inner.Readers.{Left, Took, StopsAt}
use Rattle.match_save.specs.Inner.Reading.{draft_from, draft_of_text, if_ends, read_draft, whole_draft}
use Rattle.match_save.proofs.Readers.Composed.{err-no-ok, fronts, left_at, one-value}
use Rattle.match_save.proofs.DraftReads.{draft-good}

-- the lines of a save are read as what they say
pub read-again : (text : List ℕ) (d : Draft) → IsDraftText text d → draft_of_text text ≡ Ok d
unfolding draft_of_text
read-again text d is =
    ap (λ lines. draft_from (ends_in_lf text) (read_draft (left_at 1 lines))) (is.lines ∙ sym (append-nil (draft_lines d)))
    ∙ ap (draft_from (ends_in_lf text)) (draft-good.reads.prints 1 d [] is.in_form)
    ∙ ap (λ (b : Bool). if_ends d (cond {A = Result (Unit {0}) ℕ} b (Ok tt) (Err (1 + length (draft_lines d) - 1)))) is.ended

-- some lines aren't in form if no save begins with them
stops_whole : (before after : List (List ℕ)) (d : Draft) → IsInForm d → StopsBefore before after → draft_lines d ≡ before ++ after → ⊥
stops_whole before [] d ok stops is = stops d ok (is ∙ append-nil before)
stops_whole before (line ∷ later) d ok stops is = stops (record { draft = d; in_form = ok; rest = later; lines = is ∙ sym (append_assoc before (line ∷ []) later) })

-- what is read of a text is what its lines say, and a refused line is its first bad one
pub read-known : (text : List ℕ) (d : Draft) → draft_of_text text ≡ Ok d → IsDraftText text d
unfolding draft_of_text
read-known text d e = go (read_draft (left_at 1 (lines_of text))) refl e where
  ended : (b : Bool) → ends_in_lf text ≡ b → (c : Draft) (n : ℕ) → Took IsInForm draft_lines (left_at 1 (lines_of text)) c (left_at n []) → if_ends c (cond {A = Result (Unit {0}) ℕ} b (Ok tt) (Err (n - 1))) ≡ Ok d → IsDraftText text d
  ended false is c n took e = absurd (cc)
  ended true is c n took e =
      let same : c ≡ d = cc in
      subst (IsDraftText text) same (record { in_form = took.is_ok; lines = took.items ∙ append-nil (draft_lines c); ended = is })

  last : (c : Draft) (n : ℕ) (left : List (List ℕ)) → Took IsInForm draft_lines (left_at 1 (lines_of text)) c (left_at n left) → whole_draft (ends_in_lf text) c n left ≡ Ok d → IsDraftText text d
  last c n (line ∷ lines) took e = absurd (cc)
  last c n [] took e = ended (ends_in_lf text) refl c n took e

  go : (got : Result (Draft × Left (List ℕ)) ℕ) → read_draft (left_at 1 (lines_of text)) ≡ got → draft_from (ends_in_lf text) got ≡ Ok d → IsDraftText text d
  go (Err k) is e = absurd (cc)
  go (Ok got) is e = last got.0 got.1.number got.1.items (draft-good.reads.reads (left_at 1 (lines_of text)) got.0 got.1 is) e

pub refused-known : (text : List ℕ) (k : ℕ) → draft_of_text text ≡ Err k → IsBadLine text k
unfolding draft_of_text
refused-known text k e = go (read_draft (left_at 1 (lines_of text))) refl e where
  stopped : (before after : List (List ℕ)) → lines_of text ≡ before ++ after → read_draft (left_at 1 (lines_of text)) ≡ Err k
      → ((next : List ℕ) (later : List (List ℕ)) → after ≡ next ∷ later → BeginSave (before ++ next ∷ []) → ⊥) → StopsBefore before after
  stopped before [] lines is bad = λ d ok whole.
      err-no-ok (read_draft (left_at 1 (lines_of text))) k (d, left_at (1 + length (draft_lines d)) []) is
      (ap (λ l. read_draft (left_at 1 l)) (lines ∙ ap (λ l. l ++ []) (sym whole)) ∙ draft-good.reads.prints 1 d [] ok)
  stopped before (next ∷ later) lines is bad = bad next later refl

  first : read_draft (left_at 1 (lines_of text)) ≡ Err k → StopsAt IsInForm draft_lines (left_at 1 (lines_of text)) k → IsBadLine text k
  first is stop = Unlike (record {
    before = stop.before;
    after = stop.after;
    lines = stop.split;
    good = record { draft = stop.good.value; in_form = stop.good.is_ok; rest = stop.good.rest; lines = stop.good.is };
    stops = stopped stop.before stop.after stop.split is (λ next later is_next begins. stop.bad next later is_next (record { value = begins.draft; is_ok = begins.in_form; rest = begins.rest; is = begins.lines }));
    number = (let n = stop.number in omega (arith, n));
  })

  ended : (b : Bool) → ends_in_lf text ≡ b → (c : Draft) (n : ℕ) → Took IsInForm draft_lines (left_at 1 (lines_of text)) c (left_at n []) → if_ends c (cond {A = Result (Unit {0}) ℕ} b (Ok tt) (Err (n - 1))) ≡ Err k → IsBadLine text k
  ended true is c n took e = absurd (cc)
  ended false is c n took e =
      let same : n - 1 ≡ k = cc in
      let whole : lines_of text ≡ draft_lines c = took.items ∙ append-nil (draft_lines c) in
      let as_many : length (lines_of text) ≡ length (draft_lines c) = ap length whole in
      Unended (record { draft = c; in_form = took.is_ok; lines = whole; unended = is; number = (let l = took.number in omega (arith, l, same, as_many)) })

  last : (c : Draft) (n : ℕ) (left : List (List ℕ)) → Took IsInForm draft_lines (left_at 1 (lines_of text)) c (left_at n left) → whole_draft (ends_in_lf text) c n left ≡ Err k → IsBadLine text k
  last c n [] took e = ended (ends_in_lf text) refl c n took e
  last c n (line ∷ lines) took e =
      let same : n ≡ k = cc in
      Unlike (record {
        before = draft_lines c;
        after = line ∷ lines;
        lines = took.items;
        good = record { draft = c; in_form = took.is_ok; rest = []; lines = sym (append-nil (draft_lines c)) };
        stops = λ begins.
            let is : draft_lines begins.draft ++ [] ≡ draft_lines c ++ (line ∷ begins.rest) = append-nil (draft_lines begins.draft) ∙ begins.lines ∙ append_assoc (draft_lines c) (line ∷ []) begins.rest in
            let pair = one-value draft-good.reads begins.draft c [] (line ∷ begins.rest) begins.in_form took.is_ok is in
            let rests : [] ≡ line ∷ begins.rest = ap (λ (z : Draft × List (List ℕ)). z.1) pair in
            absurd (cc);
        number = (let l = took.number in omega (arith, l, same));
      })

  go : (got : Result (Draft × Left (List ℕ)) ℕ) → read_draft (left_at 1 (lines_of text)) ≡ got → draft_from (ends_in_lf text) got ≡ Err k → IsBadLine text k
  go (Err j) is e =
      let same : j ≡ k = cc in
      first (is ∙ ap Err same) (draft-good.refuses (left_at 1 (lines_of text)) k (is ∙ ap Err same))
  go (Ok got) is e = last got.0 got.1.number got.1.items (draft-good.reads.reads (left_at 1 (lines_of text)) got.0 got.1 is) e

-- a text whose lines are a save's has no bad line
pub never_both : (text : List ℕ) (d : Draft) (k : ℕ) → IsDraftText text d → IsBadLine text k → ⊥
never_both text d k is (Unlike bad) = stops_whole bad.before bad.after d is.in_form bad.stops (sym is.lines ∙ bad.lines)
never_both text d k is (Unended bad) =
    let wrong : true ≡ false = sym is.ended ∙ bad.unended in
    absurd (cc)

pub one_draft : (text : List ℕ) (d c : Draft) → IsDraftText text d → IsDraftText text c → d ≡ c
one_draft text d c is_d is_c =
    let both : Ok d ≡ Ok c = sym (read-again text d is_d) ∙ read-again text c is_c in
    cc

-- lines that begin a save don't stop before its later lines
early : (before after z : List (List ℕ)) (others : List (List ℕ)) → BeginSave others → StopsBefore before after → others ≡ before ++ z → others ++ [] ≡ others → (rest : List (List ℕ)) → before ++ after ≡ others ++ rest → z ≡ []
early before after [] others begins stops is triv rest whole = refl
early before [] (line ∷ z) others begins stops is triv rest whole = absurd (
    let l : length (before ++ []) ≡ length (others ++ rest) = ap length whole in
    let m : length others ≡ length (before ++ line ∷ z) = ap length is in
    let a = length-append before [] in
    let b = length-append others rest in
    let c = length-append before (line ∷ z) in
    let wrong : ⊥ = omega (arith, l, m, a, b, c) in wrong)
early before (next ∷ later) (line ∷ z) others begins stops is triv rest whole =
    let tail : before ++ (next ∷ later) ≡ before ++ ((line ∷ z) ++ rest) = whole ∙ ap (λ l. l ++ rest) is ∙ append_assoc before (line ∷ z) rest in
    let cut : next ∷ later ≡ (line ∷ z) ++ rest = append_cancel_left before (next ∷ later) ((line ∷ z) ++ rest) tail in
    let same : next ≡ line = cc in
    absurd (stops (record {
      draft = begins.draft;
      in_form = begins.in_form;
      rest = z ++ begins.rest;
      lines = begins.lines ∙ ap (λ l. l ++ begins.rest) (is ∙ ap (λ l. before ++ (l ∷ z)) (sym same)) ∙ append_assoc before (next ∷ z) begins.rest ∙ sym (append_assoc before (next ∷ []) (z ++ begins.rest));
    }))

-- two first bad lines are one
first_same : (text : List ℕ) (j k : ℕ) → IsFirstBad text j → IsFirstBad text k → j ≡ k
first_same text j k a b =
    let whole : a.before ++ a.after ≡ b.before ++ b.after = sym a.lines ∙ b.lines in
    elim (fronts a.before b.before a.after b.after whole) [
      | inl found ↦
          let none = early b.before b.after found.0 a.before a.good b.stops found.1 (append-nil a.before) a.after (sym whole) in
          let same : length a.before ≡ length b.before = ap length (found.1 ∙ ap (λ z. b.before ++ z) none ∙ append-nil b.before) in
          (let m = a.number in let n = b.number in omega (arith, m, n, same))
      | inr found ↦
          let none = early a.before a.after found.0 b.before b.good a.stops found.1 (append-nil b.before) b.after whole in
          let same : length b.before ≡ length a.before = ap length (found.1 ∙ ap (λ z. a.before ++ z) none ∙ append-nil a.before) in
          (let m = a.number in let n = b.number in omega (arith, m, n, same))
    ]

pub one_line : (text : List ℕ) (j k : ℕ) → IsBadLine text j → IsBadLine text k → j ≡ k
one_line text j k (Unlike a) (Unlike b) = first_same text j k a b
one_line text j k (Unlike a) (Unended b) = absurd (stops_whole a.before a.after b.draft b.in_form a.stops (sym b.lines ∙ a.lines))
one_line text j k (Unended a) (Unlike b) = absurd (stops_whole b.before b.after a.draft a.in_form b.stops (sym a.lines ∙ b.lines))
one_line text j k (Unended a) (Unended b) = a.number ∙ sym b.number
