-- Bodies by the names in their lines, one after another.
use Rattle.std.proofs.Common.{◌≡◌, ℕ, zero, suc, ◌+◌, ◌≤◌, List, [], ◌∷◌, ◌++◌, length, Some, refl, sym, ap, ap₂, ◌∙◌, subst, arith, append_assoc, append-nil}
use Rattle.std.specs.Prelude.{slice_get, slice_index_or}
use Rattle.std.specs.List.{AllByRecursion}
use Rattle.std.proofs.lemmas.List.{get_or-append-add, get_or_append_left, length_push}
use Rattle.list_lemmas.proofs.AllElements.{AllByRecursion-push, AllByRecursion-weaker}
use Rattle.ant_asm.specs.declared.named.NamedBody.{NamedBody}
use Rattle.ant_asm.specs.declared.named.NamedLine.{NamedLine}
use Rattle.ant_asm.specs.Labels.{Outline}
use Rattle.ant_asm.specs.Labels.Outline.{Closed, Labelled, Instructed, Used}
use Rattle.ant_asm.specs.Inner.Outlines.{AreGoodNamed, IsGoodNamed, IsUseBelow, counted_from, line_before, lines_before, most_size, outline_at, outline_in, outline_size, outlines_from, outlines_of}

-- lines and further lines
pub lines_before-append : (blocks : List Outline) (front back : List NamedLine) (others : Outline) → lines_before blocks (front ++ back) others ≡ lines_before blocks front (lines_before blocks back others)
lines_before-append blocks [] back others = refl
lines_before-append blocks (line ∷ front) back others = ap (line_before blocks line) (lines_before-append blocks front back others)

-- how many instructions they expand to
pub line_before-size : (blocks : List Outline) (line : NamedLine) (others : Outline) → outline_size (line_before blocks line others) ≡ outline_size (line_before blocks line Closed) + outline_size others
line_before-size blocks (NamedLine.Label name) others = omega arith
line_before-size blocks it others = omega arith

pub lines_before-size : (blocks : List Outline) (lines : List NamedLine) (others : Outline) → outline_size (lines_before blocks lines others) ≡ outline_size (lines_before blocks lines Closed) + outline_size others
lines_before-size blocks [] others = omega arith
lines_before-size blocks (line ∷ lines) others =
    let more : outline_size (lines_before blocks lines others) ≡ outline_size (lines_before blocks lines Closed) + outline_size others = lines_before-size blocks lines others in
    let one = line_before-size blocks line (lines_before blocks lines others) in
    let none = line_before-size blocks line (lines_before blocks lines Closed) in
    omega (arith, more, one, none)

-- bodies and further bodies
pub outlines_from-append : (blocks : List Outline) (bodies more : List NamedBody) → outlines_from blocks (bodies ++ more) ≡ outlines_from (outlines_from blocks bodies) more
outlines_from-append blocks [] more = refl
outlines_from-append blocks (body ∷ bodies) more = outlines_from-append (blocks ++ outline_in blocks body ∷ []) bodies more

pub outlines_of-push : (bodies : List NamedBody) (body : NamedBody) → outlines_of (bodies ++ body ∷ []) ≡ outlines_of bodies ++ outline_in (outlines_of bodies) body ∷ []
outlines_of-push bodies body = outlines_from-append [] bodies (body ∷ [])

outlines_from-length : (blocks : List Outline) (bodies : List NamedBody) → length (outlines_from blocks bodies) ≡ length blocks + length bodies
outlines_from-length blocks [] = omega arith
outlines_from-length blocks (body ∷ bodies) =
    let later = outlines_from-length (blocks ++ outline_in blocks body ∷ []) bodies in
    let one = length_push blocks (outline_in blocks body) in omega (arith, later, one)

pub outlines_of-length : (bodies : List NamedBody) → length (outlines_of bodies) ≡ length bodies
outlines_of-length bodies = let all = outlines_from-length [] bodies in omega (arith, all)

-- further blocks change no outline
pub lines_before-agree : (blocks more : List Outline) (lines : List NamedLine) (others : Outline) → AllByRecursion (IsUseBelow (length blocks)) lines → lines_before (blocks ++ more) lines others ≡ lines_before blocks lines others
lines_before-agree blocks more [] others uses = refl
lines_before-agree blocks more (NamedLine.Label name ∷ lines) others uses = ap (λ (o : Outline). Labelled name.items o) (lines_before-agree blocks more lines others uses.1)
lines_before-agree blocks more (NamedLine.Instruction line ∷ lines) others uses = ap (λ (o : Outline). Instructed line o) (lines_before-agree blocks more lines others uses.1)
lines_before-agree blocks more (NamedLine.Use line name block ∷ lines) others uses =
    ap₂ (λ (b o : Outline). Used line name.items b o) (get_or_append_left blocks more Closed block uses.0) (lines_before-agree blocks more lines others uses.1)

pub use_below-more : (n m : ℕ) → n ≤ m → (line : NamedLine) → IsUseBelow n line → IsUseBelow m line
use_below-more n m more (NamedLine.Use line name block) is = omega (arith, more, is)
use_below-more n m more it is = tt

pub good-more : (blocks more : List Outline) (body : NamedBody) → IsGoodNamed blocks body → IsGoodNamed (blocks ++ more) body
good-more blocks more body good = record {
  uses = AllByRecursion-weaker (IsUseBelow (length blocks)) (IsUseBelow (length (blocks ++ more))) body.lines.items good.uses (use_below-more (length blocks) (length (blocks ++ more)) (longer blocks));
  counted = good.counted;
  size = subst (λ (o : Outline). outline_size o ≤ most_size → body.size ≡ outline_size o) (sym (lines_before-agree blocks more body.lines.items Closed good.uses)) good.size;
}
  where
    longer : (list : List Outline) → length list ≤ length (list ++ more)
    longer [] = omega arith
    longer (x ∷ list) = let later = longer list in omega (arith, later)

pub AreGoodNamed-push : (blocks : List Outline) (bodies : List NamedBody) (body : NamedBody) → AreGoodNamed blocks bodies → IsGoodNamed (outlines_from blocks bodies) body → AreGoodNamed blocks (bodies ++ body ∷ [])
AreGoodNamed-push blocks [] body good one = (one, tt)
AreGoodNamed-push blocks (other ∷ bodies) body good one = (good.0, AreGoodNamed-push (blocks ++ outline_in blocks other ∷ []) bodies body good.1 one)

-- the outlines of blocks stay in front
outlines_from-front : (blocks : List Outline) (bodies : List NamedBody) → (more : List Outline) × (outlines_from blocks bodies ≡ blocks ++ more)
outlines_from-front blocks [] = ([], sym (append-nil blocks))
outlines_from-front blocks (body ∷ bodies) =
    let later = outlines_from-front (blocks ++ outline_in blocks body ∷ []) bodies in
    (outline_in blocks body ∷ later.0, later.1 ∙ append_assoc blocks (outline_in blocks body ∷ []) later.0)

-- what is known of the body of a number, after this many blocks
record IsAt (blocks : List Outline) (bodies : List NamedBody) (n : ℕ) (body : NamedBody) : Type 0 where
  uses : AllByRecursion (IsUseBelow n) body.lines.items
  counted : body.counted.items ≡ counted_from 0 body.lines.items
  size : outline_size (slice_index_or (outlines_from blocks bodies) n Closed) ≤ most_size → body.size ≡ outline_size (slice_index_or (outlines_from blocks bodies) n Closed)
  is : slice_index_or (outlines_from blocks bodies) n Closed ≡ outline_in (outlines_from blocks bodies) body

is-at : (blocks : List Outline) (bodies : List NamedBody) (i : ℕ) (body : NamedBody) → slice_get bodies i ≡ Some body → AreGoodNamed blocks bodies → IsAt blocks bodies (length blocks + i) body
is-at blocks [] i body at good = absurd (cc)
is-at blocks (other ∷ bodies) zero body at good =
    let same : other ≡ body = cc in
    let mine : IsGoodNamed blocks body = subst (IsGoodNamed blocks) same good.0 in
    let front = outlines_from-front (blocks ++ outline_in blocks other ∷ []) bodies in
    let whole : outlines_from blocks (other ∷ bodies) ≡ blocks ++ outline_in blocks other ∷ front.0 = front.1 ∙ append_assoc blocks (outline_in blocks other ∷ []) front.0 in
    let own : slice_index_or (outlines_from blocks (other ∷ bodies)) (length blocks + 0) Closed ≡ outline_in blocks body =
    ap (λ (l : List Outline). slice_index_or l (length blocks + 0) Closed) whole ∙ get_or-append-add blocks (outline_in blocks other ∷ front.0) 0 Closed ∙ ap (outline_in blocks) same in
    record {
      uses = subst (λ (n : ℕ). AllByRecursion (IsUseBelow n) body.lines.items) (let e : length blocks ≡ length blocks + 0 = omega arith in e) mine.uses;
      counted = mine.counted;
      size = subst (λ (o : Outline). outline_size o ≤ most_size → body.size ≡ outline_size o) (sym own) mine.size;
      is = own ∙ sym (ap (λ (l : List Outline). outline_in l body) whole ∙ lines_before-agree blocks (outline_in blocks other ∷ front.0) body.lines.items Closed mine.uses);
    }
is-at blocks (other ∷ bodies) (suc i) body at good =
    let more = length_push blocks (outline_in blocks other) in
    subst (λ (n : ℕ). IsAt blocks (other ∷ bodies) n body) (let e : length (blocks ++ outline_in blocks other ∷ []) + i ≡ length blocks + suc i = omega (arith, more) in e)
    (let later = is-at (blocks ++ outline_in blocks other ∷ []) bodies i body at good.1 in record { uses = later.uses; counted = later.counted; size = later.size; is = later.is })

-- what is known of the body of a number
pub record IsNamedAt (bodies : List NamedBody) (n : ℕ) (body : NamedBody) : Type 0 where
  pub uses : AllByRecursion (IsUseBelow n) body.lines.items
  pub counted : body.counted.items ≡ counted_from 0 body.lines.items
  pub size : outline_size (outline_at bodies n) ≤ most_size → body.size ≡ outline_size (outline_at bodies n)
  pub is : outline_at bodies n ≡ outline_in (outlines_of bodies) body

pub named-at : (bodies : List NamedBody) (n : ℕ) (body : NamedBody) → slice_get bodies n ≡ Some body → AreGoodNamed [] bodies → IsNamedAt bodies n body
named-at bodies n body at good =
    let there = is-at [] bodies n body at good in
    let here : 0 + n ≡ n = omega arith in
    subst (λ (k : ℕ). IsNamedAt bodies k body) here (record { uses = there.uses; counted = there.counted; size = there.size; is = there.is })

-- further lines
counted_from-append : (place : ℕ) (front back : List NamedLine) → counted_from place (front ++ back) ≡ counted_from place front ++ counted_from (place + length front) back
counted_from-append place [] back = ap (λ (n : ℕ). counted_from n back) (let e : place ≡ place + 0 = omega arith in e)
counted_from-append place (NamedLine.Label name ∷ front) back =
    counted_from-append (suc place) front back ∙ ap (λ (n : ℕ). counted_from (suc place) front ++ counted_from n back) (let e : suc place + length front ≡ place + suc (length front) = omega arith in e)
counted_from-append place (NamedLine.Instruction line ∷ front) back =
    ap (λ (l : List ℕ). place ∷ l)
    (counted_from-append (suc place) front back ∙ ap (λ (n : ℕ). counted_from (suc place) front ++ counted_from n back) (let e : suc place + length front ≡ place + suc (length front) = omega arith in e))
counted_from-append place (NamedLine.Use line name block ∷ front) back =
    ap (λ (l : List ℕ). place ∷ l)
    (counted_from-append (suc place) front back ∙ ap (λ (n : ℕ). counted_from (suc place) front ++ counted_from n back) (let e : suc place + length front ≡ place + suc (length front) = omega arith in e))

-- one line more
pub good-push : (blocks : List Outline) (body new : NamedBody) (line : NamedLine) (size : ℕ) → IsGoodNamed blocks body → new.lines.items ≡ body.lines.items ++ line ∷ [] →
    new.counted.items ≡ body.counted.items ++ counted_from (length body.lines.items) (line ∷ []) → (body.size + size ≤ most_size → new.size ≡ body.size + size) →
    IsUseBelow (length blocks) line → (outline_size (line_before blocks line Closed) ≤ most_size → size ≡ outline_size (line_before blocks line Closed)) → IsGoodNamed blocks new
good-push blocks body new line size good lines counted grown below known =
    let both : outline_size (outline_in blocks new) ≡ outline_size (outline_in blocks body) + outline_size (line_before blocks line Closed) =
    ap (λ (l : List NamedLine). outline_size (lines_before blocks l Closed)) lines ∙ ap outline_size (lines_before-append blocks body.lines.items (line ∷ []) Closed)
    ∙ lines_before-size blocks body.lines.items (line_before blocks line Closed) in
    record {
      uses = subst (AllByRecursion (IsUseBelow (length blocks))) (sym lines) (AllByRecursion-push (IsUseBelow (length blocks)) body.lines.items line good.uses below);
      counted =
          counted ∙ ap (λ (l : List ℕ). l ++ counted_from (length body.lines.items) (line ∷ [])) good.counted
          ∙ ap (λ (n : ℕ). counted_from 0 body.lines.items ++ counted_from n (line ∷ [])) (let e : length body.lines.items ≡ 0 + length body.lines.items = omega arith in e)
          ∙ sym (counted_from-append 0 body.lines.items (line ∷ [])) ∙ ap (counted_from 0) (sym lines);
      size = λ few.
          let first : body.size ≡ outline_size (outline_in blocks body) = good.size (omega (arith, few, both)) in
          let second : size ≡ outline_size (line_before blocks line Closed) = known (omega (arith, few, both)) in
          let all : new.size ≡ body.size + size = grown (omega (arith, few, both, first, second)) in
          omega (arith, both, first, second, all);
    }
