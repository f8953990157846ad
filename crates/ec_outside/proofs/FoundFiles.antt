-- Files in memory, as the finite map that their entries make.
use Rattle.std.proofs.Common.{◌≡◌, ℕ, ◌+◌, ◌<◌, ◌∙◌, sym, ap, refl, cond, Some, None, List, [], ◌∷◌, ◌++◌, length, get_or, drop, string_bytes, nat_eq}
use Rattle.std.specs.Ordering.{nat_cmp}
use Rattle.std.specs.Cmp.Lexicographic.{slice_cmp, texts_ties, nat_list_cmp_total}
use Rattle.std.specs.FinMap.{find, get, insert, from_entries, from_entries_push, get-from_entries, nat_cmp-IsAntisymmetric, slice_cmp-IsAntisymmetric}
use lib.Pointwise.{pointwise}
use Rattle.std.proofs.lemmas.List.{map_push, at_drop_more}
use Rattle.ec_outside.specs.declared.named_files.File.{File}
use Rattle.ec_outside.specs.Files.{Files, HasFile, IsMissing, IsTooLong}
use Rattle.ec_outside.specs.Entries.{entries_of, entry_of}

-- a file pushed under a new name is inserted
pub from_entries-push : (before after : List File) (file : File) (files : Files) (name bytes : List ℕ)
    → files ≡ from_entries (entries_of before) → after ≡ before ++ file ∷ [] → string_bytes file.name ≡ name → file.bytes.items ≡ bytes
    → get files name ≡ None → from_entries (entries_of after) ≡ insert files name bytes
from_entries-push before after file files name bytes is_files is_after is_name is_bytes absent =
    let none : find (slice_cmp nat_cmp) name (entries_of before) ≡ None =
    sym (get-from_entries nat_list_cmp_total (entries_of before) name) ∙ ap (λ (m : Files). get m name) (sym is_files) ∙ absent in
    ap (λ fs. from_entries (entries_of fs)) is_after
    ∙ ap from_entries (map_push entry_of before file)
    ∙ ap (λ n. from_entries (entries_of before ++ (n, file.bytes.items) ∷ [])) is_name
    ∙ ap (λ b. from_entries (entries_of before ++ (name, b) ∷ [])) is_bytes
    ∙ from_entries_push nat_list_cmp_total (slice_cmp-IsAntisymmetric nat_cmp-IsAntisymmetric) (entries_of before) name bytes none
    ∙ ap (λ (m : Files). insert m name bytes) (sym is_files)

-- whether the name is that of the file at hand says which one is found
pub find-drop : (files : List File) (at : ℕ) (file : File) (name : List ℕ) → at < length files → file ≡ get_or files at file
    → find (slice_cmp nat_cmp) name (entries_of (drop at files))
    ≡ cond (pointwise nat_eq name (string_bytes file.name)) (Some file.bytes.items) (find (slice_cmp nat_cmp) name (entries_of (drop (at + 1) files)))
find-drop files at file name within is =
    at_drop_more (λ rest. find (slice_cmp nat_cmp) name (entries_of rest)) files at file within
    ∙ ap (λ (here : File). find (slice_cmp nat_cmp) name (entries_of (here ∷ drop (at + 1) files))) (sym is)
    ∙ ap (λ b. cond b (Some file.bytes.items) (find (slice_cmp nat_cmp) name (entries_of (drop (at + 1) files)))) (sym (texts_ties name (string_bytes file.name)))

-- what a folder says of a name that tells these files
pub HasFile-told : (files : Files) (name bytes : List ℕ) → get files name ≡ Some bytes → HasFile (Some files) name bytes
HasFile-told files name bytes found = record { files = files; is_told = refl; found = found }

pub IsMissing-told : (files : Files) (name : List ℕ) → get files name ≡ None → IsMissing (Some files) name
IsMissing-told files name absent = record { files = files; is_told = refl; absent = absent }

pub IsTooLong-told : (files : Files) (name bytes : List ℕ) (most : ℕ) → get files name ≡ Some bytes → most < length bytes → IsTooLong (Some files) name most
IsTooLong-told files name bytes most found long = record { bytes = bytes; file = HasFile-told files name bytes found; long = long }
