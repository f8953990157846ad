-- A folder without files has none of any name, and one with a file has none of another name.
use Rattle.std.proofs.Common.{◌∙◌, [], ◌∷◌}
use Rattle.std.specs.Ordering.{nat_cmp}
use Rattle.std.specs.Cmp.Lexicographic.{slice_cmp, nat_list_cmp_total}
use Rattle.std.specs.FinMap.{empty, get-empty, get-insert}
use Rattle.ec_tests.proofs.whole.folder.Goals as goal

pub add-requires : goal.add-requires
add-requires c = rw c.in_ok-files.ensures.files (get-empty (slice_cmp nat_cmp) _)

pub add-requires-2 : goal.add-requires-2
add-requires-2 c =
    rw (c.in_ok-add.ensures.ok, c.in_ok-files.ensures.files)
    (get-insert nat_list_cmp_total empty (116 ∷ 46 ∷ 101 ∷ 99 ∷ []) _ (97 ∷ 46 ∷ 108 ∷ 105 ∷ 110 ∷ 101 ∷ 115 ∷ []) ∙ get-empty (slice_cmp nat_cmp) (97 ∷ 46 ∷ 108 ∷ 105 ∷ 110 ∷ 101 ∷ 115 ∷ []))

pub add-requires-3 : goal.add-requires-3
add-requires-3 c =
    rw (c.in_ok-add-2.ensures.ok, c.in_ok-add.ensures.ok, c.in_ok-files.ensures.files)
    (get-insert nat_list_cmp_total _ (97 ∷ 46 ∷ 108 ∷ 105 ∷ 110 ∷ 101 ∷ 115 ∷ []) _ (97 ∷ 46 ∷ 99 ∷ 101 ∷ 114 ∷ 116 ∷ [])
    ∙ get-insert nat_list_cmp_total empty (116 ∷ 46 ∷ 101 ∷ 99 ∷ []) _ (97 ∷ 46 ∷ 99 ∷ 101 ∷ 114 ∷ 116 ∷ []) ∙ get-empty (slice_cmp nat_cmp) (97 ∷ 46 ∷ 99 ∷ 101 ∷ 114 ∷ 116 ∷ []))
