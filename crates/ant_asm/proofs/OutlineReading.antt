-- The reading of names, line by line: what was read, with what the lines that are left will add, is always what the
-- whole text says.
use Rattle.std.proofs.Common.{◌≡◌, ℕ, ◌+◌, ◌<◌, ◌≤◌, Bool, true, false, cond, List, [], ◌∷◌, ◌++◌, length, Option, Some, None, Ok, refl, sym, ap, ap₂, ◌∙◌, subst, arith}
use Rattle.std.specs.Prelude.{bytes_eq, slice_index_or}
use Rattle.std.proofs.Math.Path.{fun_ext}
use Rattle.std.proofs.lemmas.List.{get_or-append-add, get_or_append_left, length_push}
use Rattle.line_tokens.proofs.LineLemmas.{with_line-none}
use Rattle.line_tokens.specs.Tokens.{has_token, tokens_of}
use Rattle.line_tokens.specs.TokenLines.{TokenLine, token_lines, with_line}
use Rattle.ant_base.specs.Lines.{lines_of}
use Rattle.ant_asm.specs.declared.named.NamedBody.{NamedBody}
use Rattle.ant_asm.specs.declared.named.NamedLine.{NamedLine}
use Rattle.ant_asm.specs.declared.outline.Around.{Around}
use Rattle.ant_asm.specs.declared.outline.Outlines.{Outlines}
use Rattle.ant_asm.specs.Names.{Named}
use Rattle.ant_asm.specs.Lines.{Line}
use Rattle.ant_asm.specs.Lines.Line.{Ends, Uses}
use Rattle.ant_asm.specs.Standing.{most_blocks, with_name}
use Rattle.ant_asm.specs.Labels.{NumberedLine, Outline, block_outline, main_outline, outline_of, with_use}
use Rattle.ant_asm.specs.Labels.NumberedLine.{At}
use Rattle.ant_asm.specs.Labels.Outline.{Closed, Used}
use Rattle.ant_asm.specs.Inner.Outlines.{AreGoodNamed, AreOutlinesOf, IsGoodAround, IsGoodNamed, IsGoodOutlines, blocks_named, line_before, lines_before, lines_said, main_of, outline_in, outline_in_map, outlines_of, rest_around, rest_from, rest_of, said_before, said_by}
use Rattle.ant_asm.specs.Inner.Reading.{Read, read_line}
use Rattle.ant_asm.specs.Inner.Scopes.{known_as}
use Rattle.ant_asm.proofs.OutlineLemmas.{AreGoodNamed-push, good-more, lines_before-agree, lines_before-append, outlines_of-length, outlines_of-push}

-- a line adds to the body that is read
module _ (bodies : List NamedBody) (current new : NamedBody) (blocks : List ℕ → Option Outline) (line : NamedLine) (said : NumberedLine) (lines : List NumberedLine) where
  pub add-on : (around : Option Around) → new.lines.items ≡ current.lines.items ++ line ∷ [] →
      main_outline (said ∷ lines) false blocks ≡ line_before (outlines_of bodies) line (main_outline lines false blocks) →
      ((named : List ℕ → Option Outline) → main_outline (said ∷ lines) true named ≡ main_outline lines true named) →
      block_outline (said ∷ lines) blocks ≡ line_before (outlines_of bodies) line (block_outline lines blocks) →
      rest_around bodies around new blocks lines ≡ rest_around bodies around current blocks (said ∷ lines)
  add-on None is outside inside block =
      ap (λ (l : List NamedLine). lines_before (outlines_of bodies) l (main_outline lines false blocks)) is
      ∙ lines_before-append (outlines_of bodies) current.lines.items (line ∷ []) (main_outline lines false blocks)
      ∙ ap (lines_before (outlines_of bodies) current.lines.items) (sym outside)
  add-on (Some around) is outside inside block =
      ap (λ (o : Outline). lines_before (outlines_of bodies) around.main.lines.items (main_outline lines true (with_name around.name.now o blocks)))
      (ap (λ (l : List NamedLine). lines_before (outlines_of bodies) l (block_outline lines blocks)) is
      ∙ lines_before-append (outlines_of bodies) current.lines.items (line ∷ []) (block_outline lines blocks)
      ∙ ap (lines_before (outlines_of bodies) current.lines.items) (sym block))
      ∙ ap (lines_before (outlines_of bodies) around.main.lines.items) (sym (inside (with_name around.name.now (lines_before (outlines_of bodies) current.lines.items (block_outline (said ∷ lines) blocks)) blocks)))

-- a use of a block that has ended
pub put-on : (bodies : List NamedBody) (current new : NamedBody) (blocks : List ℕ → Option Outline) (line : NamedLine) (block : Outline) (number : ℕ) (name : List ℕ) (handed : List Named) (lines : List NumberedLine) (around : Option Around) →
    new.lines.items ≡ current.lines.items ++ line ∷ [] → blocks name ≡ Some block → ((others : Outline) → line_before (outlines_of bodies) line others ≡ Used number name block others) →
    rest_around bodies around new blocks lines ≡ rest_around bodies around current blocks (At number (Uses name handed) ∷ lines)
put-on bodies current new blocks line block number name handed lines around is known before =
    add-on bodies current new blocks line (At number (Uses name handed)) lines around is
    (ap (λ (o : Option Outline). with_use number name o (main_outline lines false blocks)) known ∙ sym (before (main_outline lines false blocks)))
    (λ named. refl)
    (ap (λ (o : Option Outline). with_use number name o (block_outline lines blocks)) known ∙ sym (before (block_outline lines blocks)))

-- the body that is read changes
pub current-good : (o : Outlines) (new : NamedBody) → IsGoodOutlines o → IsGoodNamed (outlines_of o.bodies.items) new → IsGoodOutlines (record { current = new; around = o.around; bodies = o.bodies; blocks = o.blocks })
current-good o new good mine = record { bodies = good.bodies; few = good.few; blocks = good.blocks; current = mine; around = good.around }

-- a block ends
module _ (o : Outlines) (good : IsGoodOutlines o) (around : Around) (is : o.around ≡ Some around) where
  abbrev above : List Outline
  above = outlines_of o.bodies.items

  abbrev more : List NamedBody
  more = o.bodies.items ++ o.current ∷ []

  abbrev block : Outline
  block = outline_in above o.current

  main-good : IsGoodNamed above around.main
  main-good = subst (IsGoodAround above) is good.around

  named-last : slice_index_or (outlines_of more) (length o.bodies.items) Closed ≡ block
  named-last =
      ap₂ (λ (l : List Outline) (n : ℕ). slice_index_or l n Closed) (outlines_of-push o.bodies.items o.current) (let all = outlines_of-length o.bodies.items in let e : length o.bodies.items ≡ length above + 0 = omega (arith, all) in e)
      ∙ get_or-append-add above (block ∷ []) 0 Closed

  named-front : (known : Option ℕ) → ((n : ℕ) → known ≡ Some n → n < length o.bodies.items) → outline_in_map (outlines_of more) known ≡ outline_in_map above known
  named-front None inside = refl
  named-front (Some n) inside =
      ap Some (ap (λ (l : List Outline). slice_index_or l n Closed) (outlines_of-push o.bodies.items o.current)
      ∙ get_or_append_left above (block ∷ []) Closed n (let here : n < length o.bodies.items = inside n refl in let all = outlines_of-length o.bodies.items in omega (arith, here, all)))

  module _ (new : Outlines) (bodies : new.bodies.items ≡ o.bodies.items ++ o.current ∷ []) (current : new.current ≡ around.main) (none : new.around ≡ None)
      (blocks : known_as new.blocks.entries ≡ with_name around.name.now (length o.bodies.items) (known_as o.blocks.entries)) where
    named-with : (name : List ℕ) → outline_in_map (outlines_of more) (known_as new.blocks.entries name) ≡ with_name around.name.now block (blocks_named o.bodies.items o.blocks.entries) name
    named-with name = ap (λ (k : List ℕ → Option ℕ). outline_in_map (outlines_of more) (k name)) blocks ∙ go (bytes_eq around.name.now name)
      where
        go : (b : Bool) → outline_in_map (outlines_of more) (cond b (Some (length o.bodies.items)) (known_as o.blocks.entries name)) ≡ cond b (Some block) (outline_in_map above (known_as o.blocks.entries name))
        go true = ap Some named-last
        go false = named-front (known_as o.blocks.entries name) (λ n known. good.blocks name n known)

    pub end-on : (number : ℕ) (lines : List NumberedLine) → rest_of new lines ≡ rest_of o (At number Ends ∷ lines)
    end-on number lines =
        ap (λ (a : Option Around). rest_around new.bodies.items a new.current (blocks_named new.bodies.items new.blocks.entries) lines) none
        ∙ ap₂ (λ (b : List NamedBody) (c : NamedBody). lines_before (outlines_of b) c.lines.items (main_outline lines false (blocks_named b new.blocks.entries))) bodies current
        ∙ ap₂ (λ (l : List Outline) (named : List ℕ → Option Outline). lines_before l around.main.lines.items (main_outline lines false named)) (outlines_of-push o.bodies.items o.current) (fun_ext named-with)
        ∙ lines_before-agree above (block ∷ []) around.main.lines.items (main_outline lines false (with_name around.name.now block (blocks_named o.bodies.items o.blocks.entries))) main-good.uses
        ∙ sym (ap (λ (a : Option Around). rest_around o.bodies.items a o.current (blocks_named o.bodies.items o.blocks.entries) (At number Ends ∷ lines)) is)

    inside-with : (name : List ℕ) (n : ℕ) → known_as new.blocks.entries name ≡ Some n → n < length (o.bodies.items ++ o.current ∷ [])
    inside-with name n known = go (bytes_eq around.name.now name) (ap (λ (k : List ℕ → Option ℕ). k name) (sym blocks) ∙ known)
      where
        go : (b : Bool) → cond b (Some (length o.bodies.items)) (known_as o.blocks.entries name) ≡ Some n → n < length (o.bodies.items ++ o.current ∷ [])
        go true q = let same : length o.bodies.items ≡ n = cc in let all = length_push o.bodies.items o.current in omega (arith, same, all)
        go false q = let early = good.blocks name n q in let all = length_push o.bodies.items o.current in omega (arith, early, all)

    pub end-good : length o.bodies.items < most_blocks → IsGoodOutlines new
    end-good room = record {
      bodies = subst (AreGoodNamed []) (sym bodies) (AreGoodNamed-push [] o.bodies.items o.current good.bodies good.current);
      few = let all = length_push o.bodies.items o.current in let same = ap length bodies in omega (arith, all, same, room);
      blocks = λ name n known. subst (λ (b : List NamedBody). n < length b) (sym bodies) (inside-with name n known);
      current = subst (λ (c : NamedBody). IsGoodNamed (outlines_of new.bodies.items) c) (sym current)
          (subst (λ (b : List NamedBody). IsGoodNamed (outlines_of b) around.main) (sym bodies)
          (subst (λ (l : List Outline). IsGoodNamed l around.main) (sym (outlines_of-push o.bodies.items o.current)) (good-more above (block ∷ []) around.main main-good)));
      around = subst (IsGoodAround (outlines_of new.bodies.items)) (sym none) tt;
    }

-- the text ends
pub outlines-read : (o : Outlines) (main : NamedBody) (lines : List NumberedLine) → IsGoodOutlines o → IsGoodNamed (outlines_of o.bodies.items) main → rest_of o [] ≡ outline_of lines → rest_of o [] ≡ outline_in (outlines_of o.bodies.items) main →
    AreOutlinesOf lines (o.bodies.items ++ main ∷ [])
outlines-read o main lines good mine whole is = record {
  good = AreGoodNamed-push [] o.bodies.items main good.bodies mine;
  some = let all = length_push o.bodies.items main in omega (arith, all);
  short = let all = length_push o.bodies.items main in let few = good.few in omega (arith, all, few);
  main =
      ap₂ (λ (l : List Outline) (n : ℕ). slice_index_or l n Closed) (outlines_of-push o.bodies.items main)
      (let all = length_push o.bodies.items main in let same = outlines_of-length o.bodies.items in let e : main_of (o.bodies.items ++ main ∷ []) ≡ length (outlines_of o.bodies.items) + 0 = omega (arith, all, same) in e)
      ∙ get_or-append-add (outlines_of o.bodies.items) (outline_in (outlines_of o.bodies.items) main ∷ []) 0 Closed
      ∙ sym is ∙ whole;
}

-- a line without a token
pub rest_from-skip : (o : Outlines) (number : ℕ) (line : List ℕ) (lines : List (List ℕ)) → has_token (tokens_of line) ≡ false → rest_from o (number + 1) lines ≡ rest_from o number (line ∷ lines)
unfolding rest_from
rest_from-skip o number line lines none = sym (ap (λ (l : List TokenLine). rest_of o (said_by l)) (with_line-none number (tokens_of line) (token_lines (number + 1) lines) none))

-- a line that was read
pub rest_from-more : (o new : Outlines) (number : ℕ) (line : List ℕ) (lines : List (List ℕ)) (said : Line) → has_token (tokens_of line) ≡ true → read_line (tokens_of line) ≡ Ok said →
    rest_of new (said_by (token_lines (number + 1) lines)) ≡ rest_of o (At number said ∷ said_by (token_lines (number + 1) lines)) → rest_from new (number + 1) lines ≡ rest_from o number (line ∷ lines)
unfolding rest_from
rest_from-more o new number line lines said has read on =
    on ∙ sym (keep (tokens_of line) has ∙ ap (λ (r : Read Line). rest_of o (said_before number r (said_by (token_lines (number + 1) lines)))) read)
  where
    keep : (tokens : List (List ℕ)) → has_token tokens ≡ true → rest_of o (said_by (with_line number tokens (token_lines (number + 1) lines))) ≡ rest_of o (said_before number (read_line tokens) (said_by (token_lines (number + 1) lines)))
    keep [] e = (let never : false ≡ true = e in absurd (cc))
    keep (token ∷ tokens) e = refl

pub rest_from_start : (o : Outlines) (text : List ℕ) → rest_from o 1 (lines_of text) ≡ rest_of o (lines_said text)
unfolding rest_from
rest_from_start o text = refl

pub rest_from_end : (o : Outlines) (number : ℕ) → rest_from o number [] ≡ rest_of o []
unfolding rest_from
rest_from_end o number = refl

-- How far the names of a text have been read: these lines are left, and the first of them has this number.
pub record AreUnderway (first o : Outlines) (number : ℕ) (lines : List (List ℕ)) (text : List ℕ) : Type 0 where
  pub on : rest_from o number lines ≡ rest_from first 1 (lines_of text)
  pub good : IsGoodOutlines o
  pub left : number + length lines ≤ length text + 1
