use Rattle.std.proofs.Common.{refl, ap, ◌∙◌, ◌++◌, ◌∷◌, []}
use Rattle.ant_base.specs.MemShelf.{FileList}
use Rattle.ant_base.proofs.Fetches.{files_in-added}
use Rattle.ant_base.proofs.files.Files.add.Goals as goal

pub invariant_of-self-2 : goal.invariant_of-self-2
invariant_of-self-2 c =
    (files_in-added _ _ _ _ _ _ _ _ _ _ _ c.in_ok-push.ensures.items c.reserve.ensures.items c.in_ok-extend_from_slice-2.ensures.items c.in_ok-extend_from_slice.ensures.items c.reserve-2.ensures.items c.as_bytes.ensures.value c.self.invariant refl refl).1

pub returns-clause-added : goal.returns-clause-added
returns-clause-added c =
    (files_in-added _ _ _ _ _ _ _ _ _ _ _ c.in_ok-push.ensures.items c.reserve.ensures.items c.in_ok-extend_from_slice-2.ensures.items c.in_ok-extend_from_slice.ensures.items c.reserve-2.ensures.items c.as_bytes.ensures.value c.self.invariant refl refl).0
    ∙ ap (λ (list : FileList). list.files ++ (c.args.name.now, c.args.bytes.now) ∷ []) c.self.view_is
