-- The outline of a program is that of its items.
use Rattle.std.proofs.Common.{◌≡◌, ℕ, suc, ◌+◌, ◌≤◌, Bool, true, false, cond, List, [], ◌∷◌, ◌++◌, length, map, Option, Some, None, refl, sym, ap, ap₂, ◌∙◌, subst, arith, append_assoc, append-nil}
use Rattle.std.specs.Prelude.{bytes_eq, if◌then◌else◌, ◌==◌}
use Rattle.std.specs.List.{AllByRecursion}
use Rattle.line_tokens.specs.TokenLines.{TokenLine, lines_with_tokens}
use Rattle.ant_asm.specs.declared.action.Action.{Action}
use Rattle.ant_asm.specs.declared.action.Label.{Label}
use Rattle.ant_asm.specs.declared.fault.AsmFault.TheVariants.{EmptyBlock, Misplaced, NoBlock}
use Rattle.ant_asm.specs.Program.{Items, size_of}
use Rattle.ant_asm.specs.Program.Items.{End, Do, Use}
use Rattle.ant_asm.specs.Names.{Named}
use Rattle.ant_asm.specs.Lines.{Line}
use Rattle.ant_asm.specs.Lines.Line.{Marks, Begins, Ends, Uses, Instructs}
use Rattle.ant_asm.specs.Standing.{Begun, Block, Draft, Item, ItemLine, Standing, below, earlier, items_by, items_of, mapped, new_draft, nothing_yet, place_fault, unknown_of, use_fault, used, way_or_next, with_item, with_line, with_mark, with_name}
use Rattle.ant_asm.specs.Standing.Item.{Instruction, Call}
use Rattle.ant_asm.specs.Text.{IsAsmText, Leads, last_fault}
use Rattle.ant_asm.specs.Labels.{AreSaid, NumberedLine, Outline, block_outline, main_outline, outline_of, with_use}
use Rattle.ant_asm.specs.Labels.NumberedLine.{At}
use Rattle.ant_asm.specs.Labels.Outline.{Closed, Labelled, Instructed, Used}
use Rattle.ant_asm.specs.Inner.Outlines.{lines_said, outline_size, said_before, said_by}
use Rattle.ant_asm.specs.Inner.Reading.{Read}
use Rattle.ant_asm.proofs.LineLemmas.{line_again, lines_decide}

-- An outline is that of these items. `P` holds of each instruction and its line, and `Q` of the line and the name of
-- each use. Each block that is used has an instruction.
abbrev pub Tells : (ℕ → Action Label → Type 0) → (ℕ → List ℕ → Type 0) → Outline → Items → Type 0
Tells P Q Closed End = Unit {0}
Tells P Q (Labelled name outline) items = Tells P Q outline items
Tells P Q (Instructed line outline) (Do action others) = P line action × Tells P Q outline others
Tells P Q (Used line name inside outline) (Use handed block others) = Tells P Q inside block × Tells P Q outline others × (1 ≤ size_of block) × Q line name
Tells P Q it items = ⊥

-- an outline is that of these items
abbrev pub Fits : Outline → Items → Type 0
Fits = Tells (λ line action. Unit {0}) (λ line name. Unit {0})

pub fits-size : (outline : Outline) (items : Items) → Fits outline items → outline_size outline ≡ size_of items
fits-size Closed End fits = refl
fits-size (Labelled name outline) items fits = fits-size outline items fits
fits-size (Instructed line outline) (Do action others) fits = ap suc (fits-size outline others fits.1)
fits-size (Used line name inside outline) (Use handed block others) fits = ap₂ ◌+◌ (fits-size inside block fits.0) (fits-size outline others fits.1)
fits-size it items fits = absurd fits

-- what these lines say leads from one state to another, and none of the lines is at fault
abbrev LeadsSaid : Standing → List NumberedLine → Standing → Type 0
LeadsSaid standing [] last = standing ≡ last
LeadsSaid standing (At number said ∷ lines) last = (place_fault standing number said ≡ None) × LeadsSaid (below standing number said) lines last

-- what the lines of a text say is what is read of them
leads-said : (lines : List TokenLine) (standing last : Standing) → Leads standing lines last → LeadsSaid standing (said_by lines) last
leads-said [] standing last leads = leads
leads-said (line ∷ lines) standing last leads =
    subst (λ (r : Read Line). LeadsSaid standing (said_before line.number r (said_by lines)) last) (sym (line_again leads.0 line.tokens leads.1))
    (leads.2, leads-said lines (below standing line.number leads.0) last leads.3)

are-said : (lines : List TokenLine) (standing last : Standing) → Leads standing lines last → AreSaid lines (said_by lines)
are-said [] standing last leads = tt
are-said (line ∷ lines) standing last leads =
    subst (λ (r : Read Line). AreSaid (line ∷ lines) (said_before line.number r (said_by lines))) (sym (line_again leads.0 line.tokens leads.1))
    (refl, leads.1, are-said lines (below standing line.number leads.0) last leads.3)

-- a line says one thing
pub one-said : (lines : List TokenLine) (a b : List NumberedLine) → AreSaid lines a → AreSaid lines b → a ≡ b
one-said [] [] [] first second = refl
one-said [] (said ∷ a) b first second = absurd first
one-said (line ∷ lines) [] b first second = absurd first
one-said (line ∷ lines) (At number said ∷ a) (At other says ∷ b) first second =
    ap₂ (λ (l : NumberedLine) (ls : List NumberedLine). l ∷ ls) (ap₂ At (first.0 ∙ sym second.0) (lines_decide.one line.tokens said says first.1 second.1)) (one-said lines a b first.2 second.2)
one-said it that b first second = absurd second

abbrev Blocks : Type 0
Blocks = List ℕ → Option Block

abbrev Named-blocks : Type 0
Named-blocks = List ℕ → Option Outline

-- if lines are added to main
abbrev outside : Draft → ℕ → Blocks → Option ℕ → Standing
outside main count blocks unknown = record { main = main; count = count; blocks = blocks; begun = None; unknown = unknown }

-- if they are added to a block
abbrev inside : Draft → ℕ → Blocks → Option ℕ → List ℕ → ℕ → Draft → Standing
inside main count blocks unknown name line draft = record { main = main; count = count; blocks = blocks; begun = Some (record { name = name; line = line; draft = draft }); unknown = unknown }

-- a use in a program is of a block that has ended
use-known : (size : ℕ) (found : Option Block) (handed : List Named) (number : ℕ) → use_fault size found handed number ≡ None → (block : Block) × (found ≡ Some block)
use-known size None handed number free = let never : Some (NoBlock number) ≡ None = free in absurd (cc)
use-known size (Some block) handed number free = (block, refl)

-- If a line says an instruction, `P` holds of it, whatever its names mean. If it is a use, `Q` holds of it.
abbrev pub IsTold : (ℕ → Action Label → Type 0) → (ℕ → List ℕ → Type 0) → NumberedLine → Type 0
IsTold P Q (At number (Instructs action)) = (meaning : List ℕ → Option Label) → P number (mapped (way_or_next meaning) action)
IsTold P Q (At number (Uses name handed)) = Q number name
IsTold P Q (At number says) = Unit {0}

module _ (P : ℕ → Action Label → Type 0) (Q : ℕ → List ℕ → Type 0) where
  -- an outline is that of a block's items, if there is such a block
  abbrev FitsBlock : Option Outline → Option Block → Type 0
  FitsBlock outline None = Unit {0}
  FitsBlock None (Some block) = ⊥
  FitsBlock (Some outline) (Some block) = Tells P Q outline block.items × (1 ≤ size_of block.items)

  -- an outline is that of items with names, whatever the names mean
  abbrev FitsLines : Outline → List ItemLine → Type 0
  FitsLines outline lines = (meaning : List ℕ → Option Label) → Tells P Q outline (items_by (way_or_next meaning) lines)

  -- main's items at the end: those so far, and more that fit the outline
  record HasMore (draft last : Draft) (outline : Outline) : Type 0 where
    more : List ItemLine
    are : last.items ≡ draft.items ++ more
    fits : FitsLines outline more

  -- a line that adds an item
  one-more : (draft last : Draft) (item : ItemLine) (outline whole : Outline) (next : Draft) → next.items ≡ draft.items ++ item ∷ [] → HasMore next last outline →
      ((more : List ItemLine) → FitsLines outline more → FitsLines whole (item ∷ more)) → HasMore draft last whole
  one-more draft last item outline whole next is later grow = record {
    more = item ∷ later.more;
    are = later.are ∙ ap (λ (l : List ItemLine). l ++ later.more) is ∙ append_assoc draft.items (item ∷ []) later.more;
    fits = grow later.more later.fits;
  }

  abbrev AllFit : Named-blocks → Blocks → Type 0
  AllFit named blocks = (name : List ℕ) → FitsBlock (named name) (blocks name)

  fits-known : (named : Option Outline) (block : Block) → FitsBlock named (Some block) → (outline : Outline) × (named ≡ Some outline) × Tells P Q outline block.items × (1 ≤ size_of block.items)
  fits-known None block fits = absurd fits
  fits-known (Some outline) block fits = (outline, refl, fits.0, fits.1)

  -- a block that ends has an item, and so an instruction
  some-items : (items : List ItemLine) (number : ℕ) → (if length items == 0 then Some (EmptyBlock number) else None) ≡ None → 1 ≤ length items
  some-items [] number free = (let never : Some (EmptyBlock number) ≡ None = free in absurd (cc))
  some-items (item ∷ items) number free = omega arith

  tells-some : (outline : Outline) (items : List ItemLine) (way : Named → Label) → 1 ≤ length items → Tells P Q outline (items_by way items) → 1 ≤ size_of (items_by way items)
  tells-some outline [] way some tells = absurd (omega (arith, some))
  tells-some outline (item ∷ items) way some tells = one item.item tells
    where
      used : (outline : Outline) (handed : List Label) (block others : Items) → Tells P Q outline (Use handed block others) → 1 ≤ size_of block
      used Closed handed block others tells = absurd tells
      used (Labelled name rest) handed block others tells = used rest handed block others tells
      used (Instructed line rest) handed block others tells = absurd tells
      used (Used line name inside rest) handed block others tells = tells.2

      one : (it : Item) → Tells P Q outline (with_item way it (items_by way items)) → 1 ≤ size_of (with_item way it (items_by way items))
      one (Instruction action) told = omega arith
      one (Call handed block) told = let inside = used outline (map way handed) block (items_by way items) told in omega (arith, inside)

  -- one block more
  AllFit-with : (named : Named-blocks) (blocks : Blocks) (name : List ℕ) (outline : Outline) (block : Block) → AllFit named blocks → Tells P Q outline block.items × (1 ≤ size_of block.items) → AllFit (with_name name outline named) (with_name name block blocks)
  AllFit-with named blocks name outline block all fits other = go (bytes_eq name other)
    where
      go : (b : Bool) → FitsBlock (cond b (Some outline) (named other)) (cond b (Some block) (blocks other))
      go true = fits
      go false = all other

  mutual
    fits-outside : (lines : List NumberedLine) (named : Named-blocks) (main : Draft) (count : ℕ) (blocks : Blocks) (unknown : Option ℕ) (last : Standing) → AllFit named blocks →
        LeadsSaid (outside main count blocks unknown) lines last → last.begun ≡ None → AllByRecursion (IsTold P Q) lines → HasMore main last.main (main_outline lines false named)
    fits-outside [] named main count blocks unknown last all leads closed each = record {
      more = [];
      are = ap (λ (s : Standing). s.main.items) (sym leads) ∙ sym (append-nil main.items);
      fits = λ way. tt;
    }
    fits-outside (At number (Marks name) ∷ lines) named main count blocks unknown last all leads closed each =
        let later = fits-outside lines named (with_mark main name) count blocks unknown last all leads.1 closed each.1 in
        record { more = later.more; are = later.are; fits = later.fits }
    fits-outside (At number (Begins name parameters) ∷ lines) named main count blocks unknown last all leads closed each =
        fits-inside lines named main count blocks unknown name number (new_draft parameters) (block_outline lines named) last all (λ tail fits. fits) leads.1 closed each.1
    fits-outside (At number Ends ∷ lines) named main count blocks unknown last all leads closed each = (let never : Some (Misplaced number) ≡ None = leads.0 in absurd (cc))
    fits-outside (At number (Uses name handed) ∷ lines) named main count blocks unknown last all leads closed each =
        let known = use-known main.size (blocks name) handed number leads.0 in
        let there = fits-known (named name) known.0 (subst (FitsBlock (named name)) known.1 (all name)) in
        subst (λ (o : Option Outline). HasMore main last.main (with_use number name o (main_outline lines false named))) (sym there.1)
        (one-more main last.main (record { line = number; item = Call handed known.0.items }) (main_outline lines false named) (Used number name there.0 (main_outline lines false named))
        (with_line main number (Call handed known.0.items)) refl
        (fits-outside lines named (with_line main number (Call handed known.0.items)) count blocks unknown last all
        (subst (λ (b : Option Block). LeadsSaid (used b (outside main count blocks unknown) number handed) lines last) known.1 leads.1) closed each.1)
        (λ more fits way. (there.2, fits way, there.3, each.0)))
    fits-outside (At number (Instructs action) ∷ lines) named main count blocks unknown last all leads closed each =
        one-more main last.main (record { line = number; item = Instruction action }) (main_outline lines false named) (Instructed number (main_outline lines false named))
        (with_line main number (Instruction action)) refl
        (fits-outside lines named (with_line main number (Instruction action)) count blocks unknown last all leads.1 closed each.1)
        (λ more fits way. (each.0 way, fits way))

    fits-inside : (lines : List NumberedLine) (named : Named-blocks) (main : Draft) (count : ℕ) (blocks : Blocks) (unknown : Option ℕ) (name : List ℕ) (line : ℕ) (draft : Draft) (whole : Outline) (last : Standing) → AllFit named blocks →
        ((tail : List ItemLine) → FitsLines (block_outline lines named) tail → FitsLines whole (draft.items ++ tail)) →
        LeadsSaid (inside main count blocks unknown name line draft) lines last → last.begun ≡ None → AllByRecursion (IsTold P Q) lines → HasMore main last.main (main_outline lines true (with_name name whole named))
    fits-inside [] named main count blocks unknown name line draft whole last all grow leads closed each =
        (let never : Some (let b : Begun = record { name = name; line = line; draft = draft } in b) ≡ None = ap (λ (s : Standing). s.begun) leads ∙ closed in absurd (cc))
    fits-inside (At number (Marks label) ∷ lines) named main count blocks unknown name line draft whole last all grow leads closed each =
        fits-inside lines named main count blocks unknown name line (with_mark draft label) whole last all (λ tail fits. grow tail (λ way. fits way)) leads.1 closed each.1
    fits-inside (At number (Begins label parameters) ∷ lines) named main count blocks unknown name line draft whole last all grow leads closed each =
        (let never : Some (Misplaced number) ≡ None = leads.0 in absurd (cc))
    fits-inside (At number Ends ∷ lines) named main count blocks unknown name line draft whole last all grow leads closed each =
        fits-outside lines (with_name name whole named) main (suc count) (with_name name (record { parameters = draft.parameters; items = items_of draft }) blocks) (earlier unknown (unknown_of draft)) last
        (AllFit-with named blocks name whole (record { parameters = draft.parameters; items = items_of draft }) all
        (let fits = subst (λ (l : List ItemLine). Tells P Q whole (items_by (way_or_next draft.meaning) l)) (append-nil draft.items) (grow [] (λ way. tt) draft.meaning) in
        (fits, tells-some whole draft.items (way_or_next draft.meaning) (some-items draft.items number leads.0) fits)))
        leads.1 closed each.1
    fits-inside (At number (Uses label handed) ∷ lines) named main count blocks unknown name line draft whole last all grow leads closed each =
        let known = use-known draft.size (blocks label) handed number leads.0 in
        let there = fits-known (named label) known.0 (subst (FitsBlock (named label)) known.1 (all label)) in
        let item : ItemLine = record { line = number; item = Call handed known.0.items } in
        fits-inside lines named main count blocks unknown name line (with_line draft number (Call handed known.0.items)) whole last all
        (λ tail fits. subst (FitsLines whole) (sym (append_assoc draft.items (item ∷ []) tail))
        (grow (item ∷ tail) (subst (λ (o : Option Outline). FitsLines (with_use number label o (block_outline lines named)) (item ∷ tail)) (sym there.1) (λ way. (there.2, fits way, there.3, each.0)))))
        (subst (λ (b : Option Block). LeadsSaid (used b (inside main count blocks unknown name line draft) number handed) lines last) known.1 leads.1) closed each.1
    fits-inside (At number (Instructs action) ∷ lines) named main count blocks unknown name line draft whole last all grow leads closed each =
        let item : ItemLine = record { line = number; item = Instruction action } in
        fits-inside lines named main count blocks unknown name line (with_line draft number (Instruction action)) whole last all
        (λ tail fits. subst (FitsLines whole) (sym (append_assoc draft.items (item ∷ []) tail)) (grow (item ∷ tail) (λ way. (each.0 way, fits way)))) leads.1 closed each.1

-- no block is left open
last-closed : (standing : Standing) (begun : Option Begun) → last_fault begun standing ≡ None → begun ≡ None
last-closed standing None free = refl
last-closed standing (Some begun) free = (let never : Some (Misplaced begun.line) ≡ None = free in absurd (cc))

-- so the outline of a program is that of its items
pub text-said : (text : List ℕ) (main : Items) → IsAsmText text main → AreSaid (lines_with_tokens text) (lines_said text)
text-said text main is = are-said (lines_with_tokens text) nothing_yet is.standing is.leads

pub text-tells : (P : ℕ → Action Label → Type 0) (Q : ℕ → List ℕ → Type 0) (text : List ℕ) (main : Items) → IsAsmText text main → AllByRecursion (IsTold P Q) (lines_said text) → Tells P Q (outline_of (lines_said text)) main
text-tells P Q text main is each =
    let more = fits-outside P Q (lines_said text) (λ name. None) (new_draft []) 0 (λ name. None) None is.standing (λ name. tt) (leads-said (lines_with_tokens text) nothing_yet is.standing is.leads)
    (last-closed is.standing is.standing.begun is.good) each in
    subst (Tells P Q (outline_of (lines_said text))) (sym (is.is ∙ ap (items_by (way_or_next is.standing.main.meaning)) more.are)) (more.fits is.standing.main.meaning)

pub text-fits : (text : List ℕ) (main : Items) → IsAsmText text main → Fits (outline_of (lines_said text)) main
text-fits text main is = text-tells (λ line action. Unit {0}) (λ line name. Unit {0}) text main is (none (lines_said text))
  where
    none : (lines : List NumberedLine) → AllByRecursion (IsTold (λ line action. Unit {0}) (λ line name. Unit {0})) lines
    none [] = tt
    none (At number (Instructs action) ∷ lines) = ((λ way. tt), none lines)
    none (At number (Marks name) ∷ lines) = (tt, none lines)
    none (At number (Begins name parameters) ∷ lines) = (tt, none lines)
    none (At number Ends ∷ lines) = (tt, none lines)
    none (At number (Uses name handed) ∷ lines) = (tt, none lines)
