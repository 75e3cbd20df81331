use Rattle.std.proofs.Common.{ℕ, List, ◌∷◌, [], ◌++◌, sym, ap, ◌∙◌, arith}
use Rattle.std.proofs.Math.Path.{fun_ext}
use Rattle.ant_asm.specs.declared.named.NamedBody.{NamedBody}
use Rattle.ant_asm.specs.Standing.{with_name}
use Rattle.ant_asm.specs.Inner.Scopes.{known_as}
use Rattle.ant_asm.proofs.OutlineReading.{end-good, end-on}
use Rattle.ant_asm.proofs.outline.Outlines.end.Goals as goal

pub returns-clause-good : goal.returns-clause-good
returns-clause-good c =
    let o = c.args.self.now in
    let around = c.in-Some.around in
    end-good o c.requires.good around (sym c.take.ensures.value ∙ c.in-Some.is)
    (record { current = c.replace-body.new.dest; around = c.take.new.self; bodies = c.push.new.self; blocks = c.insert.new.self })
    (c.in_ok-push.ensures.items ∙ ap (λ (b : NamedBody). o.bodies.items ++ b ∷ []) c.replace-body.ensures.value)
    c.replace-body.ensures.after c.take.ensures.after
    (fun_ext (λ (other : List ℕ). (c.in_ok-insert.ensures.updates).0 (record { ref_ptr = around.name.ref_ptr; now = other }))
    ∙ ap (λ (n : ℕ). with_name around.name.now n (known_as o.blocks.entries)) (c.len-block.ensures ∙ o.bodies.ok.0))
    (let room = c.if-block-ge-MOST_BLOCKS.false in let many = c.len-block.ensures in omega (arith, room, many))

pub returns-clause-on : goal.returns-clause-on
returns-clause-on c =
    let o = c.args.self.now in
    let around = c.in-Some.around in
    end-on o c.requires.good around (sym c.take.ensures.value ∙ c.in-Some.is)
    (record { current = c.replace-body.new.dest; around = c.take.new.self; bodies = c.push.new.self; blocks = c.insert.new.self })
    (c.in_ok-push.ensures.items ∙ ap (λ (b : NamedBody). o.bodies.items ++ b ∷ []) c.replace-body.ensures.value)
    c.replace-body.ensures.after c.take.ensures.after
    (fun_ext (λ (other : List ℕ). (c.in_ok-insert.ensures.updates).0 (record { ref_ptr = around.name.ref_ptr; now = other }))
    ∙ ap (λ (n : ℕ). with_name around.name.now n (known_as o.blocks.entries)) (c.len-block.ensures ∙ o.bodies.ok.0))
