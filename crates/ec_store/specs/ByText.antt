-- Maps from texts: what is found under the bytes of a text.
use Rattle.std.specs.Prelude.{ℕ, List, Option, Vec, bytes_eq}
use Rattle.indexmap.specs.IndexMap.{IndexMap, get_by}

-- what a map has under a text
abbrev pub found_at : {Z X S : Type 0} → IndexMap (Vec ℕ Z) X S → List ℕ → Option X
found_at map text = get_by (λ key. bytes_eq text key.items) map
