use Rattle.std.proofs.Common.{◌∙◌, [], ◌∷◌}
use Rattle.std.specs.Ordering.{nat_cmp}
use Rattle.std.specs.Cmp.Lexicographic.{slice_cmp, nat_list_cmp_total}
use Rattle.std.specs.FinMap.{empty, get-empty, get-insert}
use Rattle.ec_layers.proofs.outside.two_files.Goals as goal

pub add-requires : goal.add-requires
add-requires c = rw c.in_ok-folder.ensures.files (get-empty (slice_cmp nat_cmp) _)

pub add-requires-2 : goal.add-requires-2
add-requires-2 c =
    rw (c.in_ok-add.ensures.ok, c.in_ok-folder.ensures.files)
    (get-insert nat_list_cmp_total empty (97 ∷ []) _ (98 ∷ []) ∙ get-empty (slice_cmp nat_cmp) (98 ∷ []))
