use Rattle.std.proofs.Common.{◌≡◌, ℕ, List, None, true, false, length, sym, ap, ◌∙◌, refl, subst}
use Rattle.std.specs.Prelude.{◌==◌}
use Rattle.std.specs.Vec.{vec_len}
use Rattle.std.proofs.Math.Path.{fun_ext}
use Rattle.std.proofs.lemmas.Bool.{eq-eqb}
use Rattle.ant_asm.specs.declared.program.Program.{Program}
use Rattle.ant_asm.specs.Lines.Line.{Ends}
use Rattle.ant_asm.specs.Standing.{earlier, unknown_of, with_name}
use Rattle.ant_asm.specs.Inner.Flat.{trees_of}
use Rattle.ant_asm.specs.Inner.ProgramView.{IsGoodProgram, IsReadInto, program_seen}
use Rattle.ant_asm.specs.Inner.Scopes.{known_as}
use Rattle.ant_asm.specs.Inner.View.{open_seen}
use Rattle.ant_asm.proofs.BlockLemmas.{end-good, end-into}
use Rattle.ant_asm.proofs.program.Program.end.Goals as goal
use Rattle.ant_asm.proofs.program.Program.end.Goals.{After-leave_block}

-- the block has items
some : (c : After-leave_block) → length c.args.self.now.current.items.items ≡ 0 → ⊥
some c none =
    let test : (vec_len c.args.self.now.current.items == 0) ≡ false = sym c.is_empty.ensures ∙ c.if-is_empty.false in
    let never : true ≡ false = sym (eq-eqb (vec_len c.args.self.now.current.items) 0 (c.args.self.now.current.items.ok.0 ∙ none)) ∙ test in
    absurd (cc)

-- the meanings of the names of blocks
blocks : (c : After-leave_block) → known_as c.insert.new.self.entries ≡ with_name c.in-Some.outer.name.now (length c.args.self.now.bodies.items) (known_as c.args.self.now.blocks.entries)
blocks c =
    fun_ext (λ (other : List ℕ). (c.in_ok-insert.ensures.updates).0 (record { ref_ptr = c.in-Some.outer.name.ref_ptr; now = other }))
    ∙ ap (λ (n : ℕ). with_name c.in-Some.outer.name.now n (known_as c.args.self.now.blocks.entries)) (c.len-block.ensures ∙ c.args.self.now.bodies.ok.0)

-- the first missing label so far
unknown : (c : After-leave_block) → c.earlier-self.result ≡ earlier c.args.self.now.unknown (unknown_of (open_seen (trees_of c.args.self.now.bodies.items) c.args.self.now.current))
unknown c = c.earlier-self.ensures ∙ ap (earlier c.args.self.now.unknown) (c.first_unknown-unknown.ensures (trees_of c.args.self.now.bodies.items))

-- what was read so far
abbrev new : (c : After-leave_block) → Program
new c = record { current = c.in-Some.outer.main; outer = None; bodies = c.push.new.self; blocks = c.insert.new.self; unknown = c.earlier-self.result }

pub returns-clause-good : goal.returns-clause-good
returns-clause-good c =
    subst IsGoodProgram (sym (c.leave_block.ensures c.in-Some.outer c.in-Some.is))
    (end-good c.args.self.now c.args.number c.in-Some.outer c.in_ok-body.body c.in-Some.is (some c) c.requires.good c.in_ok-body.ensures (new c) refl refl c.in_ok-push.ensures.items (blocks c) (unknown c))

pub returns-clause-into : goal.returns-clause-into
returns-clause-into c =
    subst (λ (p : Program). IsReadInto (program_seen c.args.self.now) c.args.number Ends (program_seen p)) (sym (c.leave_block.ensures c.in-Some.outer c.in-Some.is))
    (end-into c.args.self.now c.args.number c.in-Some.outer c.in_ok-body.body c.in-Some.is (some c) c.requires.good c.in_ok-body.ensures (new c) refl refl c.in_ok-push.ensures.items (blocks c) (unknown c))
