-- A block that ends, and a text that ends.
use Rattle.std.proofs.Common.{◌≡◌, inl, inr, ℕ, zero, suc, ◌<◌, ◌≤◌, Bool, true, false, cond, List, [], ◌∷◌, ◌++◌, length, Option, Some, None, Ok, refl, sym, ap, ap₂, ◌∙◌, subst, arith, add-one}
use Rattle.std.proofs.lemmas.List.{length_push}
use Rattle.std.specs.Prelude.{slice_get, if◌then◌else◌, ◌==◌, bytes_eq, option_map}
use Rattle.std.proofs.Math.Path.{fun_ext}
use Rattle.std.proofs.lemmas.Bool.{eq-eqb, eqb-true, false_from_ne_true}
use Rattle.line_tokens.specs.TokenLines.{lines_with_tokens}
use Rattle.list_lemmas.proofs.Entries.{slice_get-front, slice_get-last}
use Rattle.ant_asm.specs.declared.body.Body.{Body}
use Rattle.ant_asm.specs.declared.fault.AsmFault.{AsmFault}
use Rattle.ant_asm.specs.declared.fault.AsmFault.TheVariants.{Empty, EmptyBlock, Misplaced, NoLabel}
use Rattle.ant_asm.specs.declared.open.OpenBody.{OpenBody}
use Rattle.ant_asm.specs.declared.program.Outer.{Outer}
use Rattle.ant_asm.specs.declared.program.Program.{Program}
use Rattle.ant_asm.specs.Program.{Items, size_of}
use Rattle.ant_asm.specs.Lines.Line.{Ends}
use Rattle.ant_asm.specs.Standing.{Block, Draft, Standing, below, block_of, earlier, end_fault, ended, items_of, nothing_yet, place_fault, unknown_of, with_name}
use Rattle.ant_asm.specs.Text.{IsAsmFault, IsAsmText, last_fault}
use Rattle.ant_asm.specs.Text.IsAsmFault.{OfWhole}
use Rattle.ant_asm.specs.Inner.Flat.{tree_at, trees_of}
use Rattle.ant_asm.specs.Inner.ProgramView.{AreBodiesOf, AreGoodBlocks, FailsText, IsGoodOuter, IsGoodProgram, IsReadInto, begun_seen, block_in, blocks_seen, last_of, main_of, program_seen, reading, standing_of}
use Rattle.ant_asm.specs.Inner.Ranged.{AreRanged}
use Rattle.ant_asm.specs.Inner.Scopes.{known_as}
use Rattle.ant_asm.specs.Inner.View.{FailsWith, IsClosedAs, IsGoodOpen, open_items, open_seen, parameters_in}
use Rattle.ant_asm.proofs.OpenLemmas.{AreGood-push, closed-good, closed-ranged, closed-some, closed-tree, length-open, open-push, open_seen-push, tree_at-before}
use Rattle.ant_asm.proofs.ReadingLemmas.{reading-leads}

-- a body that has items becomes one of the bodies
module _ (bodies : List Body) (draft : OpenBody) (body : Body) (blocks : AreGoodBlocks bodies) (good : IsGoodOpen bodies draft) (closed : IsClosedAs draft body) (some : 1 ≤ length draft.items.items) where
  -- a fact of the trees of the bodies
  each-tree : (P : Items → Type 0) → ((n : ℕ) → n < length bodies → P (tree_at bodies n)) → P (tree_at (bodies ++ body ∷ []) (length bodies)) → (n : ℕ) → n < length (bodies ++ body ∷ []) → P (tree_at (bodies ++ body ∷ []) n)
  each-tree P before last n inside = go (n == length bodies) refl
    where
      go : (b : Bool) → (n == length bodies) ≡ b → P (tree_at (bodies ++ body ∷ []) n)
      go true is = subst (λ (k : ℕ). P (tree_at (bodies ++ body ∷ []) k)) (sym (eqb-true n (length bodies) is)) last
      go false is =
          let apart : n ≡ length bodies → ⊥ = λ same. let never : true ≡ false = sym (eq-eqb n (length bodies) same) ∙ is in absurd (cc) in
          let more = length_push bodies body in
          let early : n < length bodies = below n (length bodies) apart (omega (arith, inside, more)) in
          subst P (sym (tree_at-before bodies body n early)) (before n early)
        where
          below : (a b : ℕ) → (a ≡ b → ⊥) → a < suc b → a < b
          below zero zero other less = absurd (other refl)
          below zero (suc b) other less = omega arith
          below (suc a) zero other less = absurd (omega (arith, less))
          below (suc a) (suc b) other less = let later = below a b (λ same. other (ap suc same)) (omega (arith, less)) in omega (arith, later)

  pub blocks-push : AreGoodBlocks (bodies ++ body ∷ [])
  blocks-push = record {
    good = AreGood-push bodies body blocks.good (closed-good bodies draft body good closed);
    some = each-tree (λ t. 1 ≤ size_of t) blocks.some (closed-some bodies draft body good closed some);
    ranged = each-tree AreRanged blocks.ranged (closed-ranged bodies draft body good closed blocks.ranged);
  }

-- a block ends
module _ (p : Program) (number : ℕ) where
  pub end-inside : (outer : Outer) → p.outer ≡ Some outer → place_fault (program_seen p) number Ends ≡ (if length (open_items (trees_of p.bodies.items) p.current.items.items) == 0 then Some (EmptyBlock number) else None)
  end-inside outer is = ap (λ (o : Option Outer). end_fault (begun_seen (trees_of p.bodies.items) o p.current) number) is

  pub end-free : (outer : Outer) → p.outer ≡ Some outer → (length p.current.items.items ≡ 0 → ⊥) → place_fault (program_seen p) number Ends ≡ None
  end-free outer is some =
      end-inside outer is ∙ ap (λ (b : Bool). cond b (Some (EmptyBlock number)) None) (false_from_ne_true (length (open_items (trees_of p.bodies.items) p.current.items.items) == 0)
      (λ none. some (sym (length-open (trees_of p.bodies.items) p.current.items.items) ∙ eqb-true (length (open_items (trees_of p.bodies.items) p.current.items.items)) 0 none)))

  module _ (outer : Outer) (body : Body) (is : p.outer ≡ Some outer) (some : length p.current.items.items ≡ 0 → ⊥) (good : IsGoodProgram p) (closed : IsClosedAs p.current body) where
    more : List Body
    more = p.bodies.items ++ body ∷ []

    outer-good : IsGoodOpen p.bodies.items outer.main
    outer-good = (subst (IsGoodOuter p.bodies.items) is good.outer).0

    -- the blocks, with the one that ended
    block-last : block_in (p.bodies.items ++ body ∷ []) (Some (length p.bodies.items)) ≡ Some (block_of (open_seen (trees_of p.bodies.items) p.current))
    block-last =
        ap₂ (λ (a : ℕ) (i : Items). let b : Block = record { parameters = a; items = i } in Some b)
        (ap parameters_in (slice_get-last p.bodies.items body) ∙ closed.parameters) (closed-tree p.bodies.items p.current body good.current closed)

    block-front : (o : Option ℕ) → ((n : ℕ) → o ≡ Some n → n < length p.bodies.items) → block_in (p.bodies.items ++ body ∷ []) o ≡ block_in p.bodies.items o
    block-front None inside = refl
    block-front (Some n) inside =
        ap₂ (λ (a : ℕ) (i : Items). let b : Block = record { parameters = a; items = i } in Some b)
        (ap parameters_in (slice_get-front p.bodies.items (body ∷ []) n (inside n refl))) (tree_at-before p.bodies.items body n (inside n refl))

    blocks-with : (known : List ℕ → Option ℕ) → known ≡ with_name outer.name.now (length p.bodies.items) (known_as p.blocks.entries) →
        (name : List ℕ) → block_in (p.bodies.items ++ body ∷ []) (known name)
        ≡ with_name outer.name.now (block_of (open_seen (trees_of p.bodies.items) p.current)) (blocks_seen p.bodies.items p.blocks.entries) name
    blocks-with known same name = ap (λ (k : List ℕ → Option ℕ). block_in (p.bodies.items ++ body ∷ []) (k name)) same ∙ go (bytes_eq outer.name.now name)
      where
        go : (b : Bool) → block_in (p.bodies.items ++ body ∷ []) (cond b (Some (length p.bodies.items)) (known_as p.blocks.entries name))
            ≡ cond b (Some (block_of (open_seen (trees_of p.bodies.items) p.current))) (block_in p.bodies.items (known_as p.blocks.entries name))
        go true = block-last
        go false = block-front (known_as p.blocks.entries name) (λ n known_n. good.blocks name n known_n)

    module _ (new : Program) (current : new.current ≡ outer.main) (none : new.outer ≡ None) (bodies : new.bodies.items ≡ p.bodies.items ++ body ∷ [])
        (blocks : known_as new.blocks.entries ≡ with_name outer.name.now (length p.bodies.items) (known_as p.blocks.entries)) (unknown : new.unknown ≡ earlier p.unknown (unknown_of (open_seen (trees_of p.bodies.items) p.current))) where
      -- the state below the line, by its parts
      parts : (main : Draft) (count : ℕ) (named : List ℕ → Option Block) → main ≡ open_seen (trees_of p.bodies.items) (main_of p.outer p.current) → count ≡ suc (length p.bodies.items) →
          named ≡ with_name outer.name.now (block_of (open_seen (trees_of p.bodies.items) p.current)) (blocks_seen p.bodies.items p.blocks.entries) →
          (let s : Standing = record { main = main; count = count; blocks = named; begun = None; unknown = new.unknown } in s) ≡ ended (Some (record { name = outer.name.now; line = outer.line; draft = open_seen (trees_of p.bodies.items) p.current })) (program_seen p)
      parts main count named first second third =
          ap (λ (m : Draft). let s : Standing = record { main = m; count = count; blocks = named; begun = None; unknown = new.unknown } in s) first
          ∙ ap (λ (n : ℕ). let s : Standing = record { main = open_seen (trees_of p.bodies.items) (main_of p.outer p.current); count = n; blocks = named; begun = None; unknown = new.unknown } in s) second
          ∙ ap₂ (λ (b : List ℕ → Option Block) (u : Option ℕ). let s : Standing = record { main = open_seen (trees_of p.bodies.items) (main_of p.outer p.current); count = suc (length p.bodies.items); blocks = b; begun = None; unknown = u } in s) third unknown

      seen-with : standing_of (p.bodies.items ++ body ∷ []) None outer.main new.blocks.entries new.unknown ≡ below (program_seen p) number Ends
      seen-with =
          parts (open_seen (trees_of (p.bodies.items ++ body ∷ [])) outer.main) (length (p.bodies.items ++ body ∷ [])) (blocks_seen (p.bodies.items ++ body ∷ []) new.blocks.entries)
          (open_seen-push p.bodies.items body outer.main outer-good ∙ ap (λ (o : Option Outer). open_seen (trees_of p.bodies.items) (main_of o p.current)) (sym is))
          (length_push p.bodies.items body ∙ add-one (length p.bodies.items))
          (fun_ext (blocks-with (known_as new.blocks.entries) blocks))
          ∙ sym (ap (λ (o : Option Outer). ended (begun_seen (trees_of p.bodies.items) o p.current) (program_seen p)) is)

      pub end-into : IsReadInto (program_seen p) number Ends (program_seen new)
      end-into = record {
        free = end-free outer is some;
        is =
            ap (λ (d : OpenBody). standing_of new.bodies.items new.outer d new.blocks.entries new.unknown) current
            ∙ ap₂ (λ (b : List Body) (o : Option Outer). standing_of b o outer.main new.blocks.entries new.unknown) bodies none
            ∙ seen-with;
      }

      -- the names of blocks are those of existing bodies
      inside-with : (name : List ℕ) (n : ℕ) → known_as new.blocks.entries name ≡ Some n → n < length (p.bodies.items ++ body ∷ [])
      inside-with name n known = go (bytes_eq outer.name.now name) (ap (λ (k : List ℕ → Option ℕ). k name) (sym blocks) ∙ known)
        where
          go : (b : Bool) → cond b (Some (length p.bodies.items)) (known_as p.blocks.entries name) ≡ Some n → n < length (p.bodies.items ++ body ∷ [])
          go true q = let same : length p.bodies.items ≡ n = cc in let all = length_push p.bodies.items body in omega (arith, same, all)
          go false q = let early = good.blocks name n q in let all = length_push p.bodies.items body in omega (arith, early, all)

      pub end-good : IsGoodProgram new
      end-good = record {
        bodies = subst AreGoodBlocks (sym bodies) (blocks-push p.bodies.items p.current body good.bodies good.current closed (positive (length p.current.items.items) some));
        few = (let room : length p.bodies.items < 256 = (subst (IsGoodOuter p.bodies.items) is good.outer).1 in let all = length_push p.bodies.items body in let same = ap length bodies in omega (arith, room, all, same));
        blocks = λ name n known. subst (λ (b : List Body). n < length b) (sym bodies) (inside-with name n known);
        current = subst (λ (d : OpenBody). IsGoodOpen new.bodies.items d) (sym current) (subst (λ (b : List Body). IsGoodOpen b outer.main) (sym bodies) (open-push p.bodies.items body outer.main outer-good));
        outer = subst (IsGoodOuter new.bodies.items) (sym none) tt;
        main = ap₂ (λ (o : Option Outer) (d : OpenBody). (main_of o d).parameters) none current ∙ sym (ap (λ (o : Option Outer). (main_of o p.current).parameters) is) ∙ good.main;
      }
        where
          positive : (n : ℕ) → (n ≡ 0 → ⊥) → 1 ≤ n
          positive zero other = absurd (other refl)
          positive (suc n) other = omega arith

-- a text ends
pub last-outer : (p : Program) → last_fault (program_seen p).begun (program_seen p) ≡ None → p.outer ≡ None
last-outer p free = go p.outer refl free
  where
    go : (o : Option Outer) → p.outer ≡ o → last_fault (begun_seen (trees_of p.bodies.items) o p.current) (program_seen p) ≡ None → p.outer ≡ None
    go None is q = is
    go (Some outer) is q = (let never : Some (Misplaced outer.line) ≡ None = q in absurd (cc))

-- the fault of main, if no block is left without an end
pub last-main : (p : Program) → p.outer ≡ None → last_fault (program_seen p).begun (program_seen p)
    ≡ (if length p.current.items.items == 0 then Some Empty else option_map NoLabel (earlier p.unknown (unknown_of (open_seen (trees_of p.bodies.items) p.current))))
last-main p none =
    ap (λ (o : Option Outer). last_fault (begun_seen (trees_of p.bodies.items) o p.current) (standing_of p.bodies.items o p.current p.blocks.entries p.unknown)) none
    ∙ ap (λ (n : ℕ). if n == 0 then Some Empty else option_map NoLabel (earlier p.unknown (unknown_of (open_seen (trees_of p.bodies.items) p.current)))) (length-open (trees_of p.bodies.items) p.current.items.items)

-- the bodies of a text that has a program
pub text-bodies : (text : List ℕ) (p : Program) (main : Body) → IsGoodProgram p → reading nothing_yet (lines_with_tokens text) ≡ Ok (program_seen p) → last_fault (program_seen p).begun (program_seen p) ≡ None → IsClosedAs p.current main →
    AreBodiesOf text (p.bodies.items ++ main ∷ [])
text-bodies text p main good read free closed = record {
  blocks = blocks-push p.bodies.items p.current main good.bodies good.current closed (positive (length p.current.items.items) refl);
  some = (let all = length_push p.bodies.items main in omega (arith, all));
  few = (let all = length_push p.bodies.items main in let few = good.few in omega (arith, all, few));
  main = subst (λ (n : ℕ). IsAsmText text (tree_at (p.bodies.items ++ main ∷ []) n)) (sym last) (record {
    standing = program_seen p;
    leads = reading-leads nothing_yet (lines_with_tokens text) (program_seen p) read;
    good = free;
    is = closed-tree p.bodies.items p.current main good.current closed ∙ ap (λ (o : Option Outer). items_of (open_seen (trees_of p.bodies.items) (main_of o p.current))) (sym none);
  });
  plain = ap (λ (n : ℕ). parameters_in (slice_get (p.bodies.items ++ main ∷ []) n)) last ∙ ap parameters_in (slice_get-last p.bodies.items main) ∙ closed.parameters
      ∙ sym (ap (λ (o : Option Outer). (main_of o p.current).parameters) none) ∙ good.main;
}
  where
    none : p.outer ≡ None
    none = last-outer p free

    last : last_of (p.bodies.items ++ main ∷ []) ≡ length p.bodies.items
    last = let all = length_push p.bodies.items main in omega (arith, all)

    positive : (n : ℕ) → length p.current.items.items ≡ n → 1 ≤ n
    positive zero is =
        let never : Some Empty ≡ None = sym (last-main p none ∙ ap (λ (n : ℕ). if n == 0 then Some Empty else option_map NoLabel (earlier p.unknown (unknown_of (open_seen (trees_of p.bodies.items) p.current)))) is) ∙ free in absurd (cc)
    positive (suc n) is = omega arith

pub text-fault : (text : List ℕ) (p : Program) (fault : AsmFault) → reading nothing_yet (lines_with_tokens text) ≡ Ok (program_seen p) → last_fault (program_seen p).begun (program_seen p) ≡ Some fault → IsAsmFault text fault
text-fault text p fault read wrong = OfWhole (program_seen p) (reading-leads nothing_yet (lines_with_tokens text) (program_seen p) read) wrong

pub text-fails : (text : List ℕ) (p : Program) (fault : AsmFault) → reading nothing_yet (lines_with_tokens text) ≡ Ok (program_seen p) → FailsWith fault (last_fault (program_seen p).begun (program_seen p)) → FailsText text fault
text-fails text p fault read (inl wrong) = inl (text-fault text p fault read wrong)
text-fails text p fault read (inr want) = inr want
