-- Texts that are read section by section.
use Rattle.std.proofs.Common.{◌≡◌, ℕ, List, Result, Ok, Err, refl, sym, ◌∙◌, ap}
use Rattle.ant_base.specs.Lines.{ends_in_lf, lines_of}
use Rattle.match_save.specs.declared.head.Head.{Head}
use Rattle.match_save.specs.Draft.{Draft}
use Rattle.match_save.specs.Inner.Readers.{Left, go_on, made, paired}
use Rattle.match_save.specs.Inner.Reading.{BodyParts, body_parts, draft_from, draft_of_parts, draft_of_text, if_ends, line_end, read_body, read_draft, read_head}

body-read : (head : Head) (told : Result (BodyParts × Left (List ℕ)) ℕ) → made draft_of_parts (paired head told) ≡ made (λ (body : BodyParts). draft_of_parts (head, body)) told
body-read head (Ok read) = refl
body-read head (Err k) = refl

module _ (text : List ℕ) (at : Left (List ℕ)) (start : ◌≡◌ {A = Left (List ℕ)} at (record { number = 1; items = lines_of text })) where
  from_start : (told : Result (Draft × Left (List ℕ)) ℕ) → read_draft at ≡ told → draft_of_text text ≡ draft_from (ends_in_lf text) told
  unfolding draft_of_text
  from_start told e = ap (λ (l : Left (List ℕ)). draft_from (ends_in_lf text) (read_draft l)) (sym start) ∙ ap (draft_from (ends_in_lf text)) e

  pub text-head : (k : ℕ) → read_head at ≡ Err k → draft_of_text text ≡ Err k
  text-head k e = from_start (Err k) (ap (λ (told : Result (Head × Left (List ℕ)) ℕ). made draft_of_parts (go_on (λ (head : Head). body_parts head.width head.height) told)) e)

  whole : (head : Head) (mid : Left (List ℕ)) → read_head at ≡ Ok (head, mid) → read_draft at ≡ read_body head mid
  whole head mid e =
      ap (λ (told : Result (Head × Left (List ℕ)) ℕ). made draft_of_parts (go_on (λ (h : Head). body_parts h.width h.height) told)) e
      ∙ body-read head (body_parts head.width head.height mid)

  pub text-body : (head : Head) (mid : Left (List ℕ)) (k : ℕ) → read_head at ≡ Ok (head, mid) → read_body head mid ≡ Err k → draft_of_text text ≡ Err k
  text-body head mid k e f = from_start (Err k) (whole head mid e ∙ f)

  module _ (head : Head) (mid left : Left (List ℕ)) (d : Draft) (first : read_head at ≡ Ok (head, mid)) (second : read_body head mid ≡ Ok (d, left)) where
    pub text-end : (k : ℕ) → line_end (ends_in_lf text) left ≡ Err k → draft_of_text text ≡ Err k
    text-end k e = from_start (Ok (d, left)) (whole head mid first ∙ second) ∙ ap (if_ends d) e

    pub text-read : (u : Unit {0}) → line_end (ends_in_lf text) left ≡ Ok u → draft_of_text text ≡ Ok d
    text-read u e = from_start (Ok (d, left)) (whole head mid first ∙ second) ∙ ap (if_ends d) e
