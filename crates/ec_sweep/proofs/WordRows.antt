-- Words of slots, once one is put in its own place, and as new bits of slots.
use Rattle.std.proofs.Common.{◌≡◌, ◌≢◌, ℕ, true, false, not, cond, List, [], ◌∷◌, map, find, Some, IsTrue, refl, sym, ap, ◌∙◌, ⊎_elim}
use Rattle.std.specs.Prelude.{◌==◌, option_map}
use Rattle.std.specs.List.{AllByRecursion, IsDistinct, list_all}
use Rattle.std.specs.Map.{keys_of}
use Rattle.std.proofs.lemmas.Bool.{and_from, cases_Bool, cond-true, cond-false, eq-eqb, eqb-true, false_from_ne_true}
use Rattle.ec_lists.proofs.Numbers.{eqb_comm}
use Rattle.ec_rows.specs.Ordered.{is_ascending}
use Rattle.ec_terms.specs.declared.ids.Slot.{Slot}
use Rattle.ec_delta.specs.declared.flips.Flip.{Flip}
use Rattle.ec_delta.specs.Looked.{are_apart, flip_at}
use Rattle.ec_sweep.specs.Words.{flip_of, word_at}

-- the word of another slot stays
pub word_at-other : (p n word : ℕ) (before after : List (ℕ × ℕ)) → word_at n after ≡ cond (p == n) (Some word) (word_at n before) → p ≢ n → word_at n after ≡ word_at n before
word_at-other p n word before after put apart =
    put ∙ cond-false (p == n) (Some word) (word_at n before) (false_from_ne_true (p == n) (λ same. apart (eqb-true p n same)))

-- and its own is the one that was put
pub word_at-own : (p word : ℕ) (before after : List (ℕ × ℕ)) → word_at p after ≡ cond (p == p) (Some word) (word_at p before) → word_at p after ≡ Some word
word_at-own p word before after put = put ∙ cond-true (p == p) (Some word) (word_at p before) (eq-eqb p p refl)

-- no slot has two words
pub are_apart-words : (rows : List (ℕ × ℕ)) → IsDistinct (λ a b. a == b) (keys_of rows) → IsTrue (are_apart (map flip_of rows))
unfolding IsDistinct is_ascending
are_apart-words [] once = refl
are_apart-words (row ∷ rows) once = and_from _ _ (others rows once.0) (are_apart-words rows once.1)
  where
    others : (more : List (ℕ × ℕ)) → AllByRecursion (λ n. (row.0 == n) ≡ false) (keys_of more) → list_all (λ (g : Flip). not (row.0 == g.slot.0)) (map flip_of more) ≡ true
    others [] all = refl
    others (other ∷ more) all = and_from _ _ (ap not all.0) (others more all.1)

-- the new bits of a slot are its word
pub flip_at-words : (slot : Slot) (rows : List (ℕ × ℕ)) → flip_at slot (map flip_of rows) ≡ word_at slot.0 rows
flip_at-words slot [] = refl
flip_at-words slot (row ∷ rows) =
    ⊎_elim
    (λ here.
    let turned : (slot.0 == row.0) ≡ true = eqb_comm slot.0 row.0 ∙ here in
    ap (option_map (λ (f : Flip). f.active)) (cond-true (row.0 == slot.0) (Some (flip_of row)) (find (λ (f : Flip). f.slot.0 == slot.0) (map flip_of rows)) here)
    ∙ sym (cond-true (slot.0 == row.0) (Some row.1) (word_at slot.0 rows) turned))
    (λ other.
    let turned : (slot.0 == row.0) ≡ false = eqb_comm slot.0 row.0 ∙ other in
    ap (option_map (λ (f : Flip). f.active)) (cond-false (row.0 == slot.0) (Some (flip_of row)) (find (λ (f : Flip). f.slot.0 == slot.0) (map flip_of rows)) other)
    ∙ flip_at-words slot rows
    ∙ sym (cond-false (slot.0 == row.0) (Some row.1) (word_at slot.0 rows) turned))
    (cases_Bool (row.0 == slot.0))
