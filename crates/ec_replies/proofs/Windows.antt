-- What a window over accepted updates keeps.
use Rattle.std.proofs.Common.{◌≡◌, ℕ, ◌+◌, ◌-◌, ◌<◌, ◌≤◌, Bool, true, false, cond, leb, List, [], ◌∷◌, ◌++◌, All, length, take, refl, sym, ap, subst, ◌∙◌, arith}
use Rattle.std.proofs.lemmas.Bool.{cond-true, cond-false, le-leb, leb-true, leb-false, lt-leb}
use Rattle.std.proofs.lemmas.List.{length-take}
use Rattle.std.proofs.lemmas.List.Elements.{All-same, All-take}
use Rattle.ec_replies.specs.Past.{Accepted, total_weight, within_window}
use Rattle.ec_replies.specs.PastLaws.{IsWidestWindow, WindowsAreWidest, WindowsNeedNoMore}

-- all updates are kept where there is room for all
pub within_window-all : (room : ℕ) (all : List Accepted) → total_weight all ≤ room → within_window room all ≡ all
unfolding within_window
within_window-all room [] fits = refl
within_window-all room (update ∷ earlier) fits =
    cond-true (leb update.weight room) _ _ (le-leb update.weight room (omega arith))
    ∙ ap (λ kept. update ∷ kept) (within_window-all (room - update.weight) earlier (omega arith))

-- the oldest update is left out where there is no room for all
pub within_window-oldest : (room : ℕ) (later : List Accepted) (oldest : Accepted) → room < total_weight later + oldest.weight
    → within_window room (later ++ oldest ∷ []) ≡ within_window room later
unfolding within_window
within_window-oldest room [] oldest over = cond-false (leb oldest.weight room) _ _ (lt-leb oldest.weight room (omega arith))
within_window-oldest room (update ∷ later) oldest over =
    by_test (leb update.weight room) refl (λ less. within_window-oldest (room - update.weight) later oldest less)
  where
    by_test : (fits : Bool) → leb update.weight room ≡ fits
        → (room - update.weight < total_weight later + oldest.weight
        → within_window (room - update.weight) (later ++ oldest ∷ []) ≡ within_window (room - update.weight) later)
        → cond fits (update ∷ within_window (room - update.weight) (later ++ oldest ∷ [])) [] ≡ cond fits (update ∷ within_window (room - update.weight) later) []
    by_test true fits rest = let small = leb-true update.weight room fits in ap (λ kept. update ∷ kept) (rest (omega arith))
    by_test false fits rest = refl

-- a window within a wider one
within_window-wider : (small room : ℕ) (all : List Accepted) → small ≤ room → within_window small (within_window room all) ≡ within_window small all
unfolding within_window
within_window-wider small room [] less = refl
within_window-wider small room (update ∷ earlier) less =
    by_test (leb update.weight room) refl
    (λ fewer. within_window-wider (small - update.weight) (room - update.weight) earlier fewer)
  where
    by_test : (fits : Bool) → leb update.weight room ≡ fits
        → (small - update.weight ≤ room - update.weight
        → within_window (small - update.weight) (within_window (room - update.weight) earlier) ≡ within_window (small - update.weight) earlier)
        → within_window small (cond fits (update ∷ within_window (room - update.weight) earlier) []) ≡ cond (leb update.weight small) (update ∷ within_window (small - update.weight) earlier) []
    by_test true fits rest = ap (λ kept. cond (leb update.weight small) (update ∷ kept) []) (rest (omega arith))
    by_test false fits rest =
        let heavy = leb-false update.weight room fits in
        sym (cond-false (leb update.weight small) _ _ (lt-leb update.weight small (omega arith)))

-- the law
pub WindowsNeedNoMore-law : WindowsNeedNoMore
unfolding within_window
WindowsNeedNoMore-law room update earlier =
    ap (λ kept. cond (leb update.weight room) (update ∷ kept) []) (within_window-wider (room - update.weight) room earlier (omega arith))

-- the law
pub WindowsAreWidest-law : WindowsAreWidest
unfolding within_window
WindowsAreWidest-law room [] = record { front = refl; fits = omega arith; widest = λ earlier there. cc }
WindowsAreWidest-law room (update ∷ earlier) = by_test (leb update.weight room) refl (WindowsAreWidest-law (room - update.weight) earlier)
  where
    by_test : (b : Bool) → leb update.weight room ≡ b → IsWidestWindow (room - update.weight) earlier (within_window (room - update.weight) earlier)
        → IsWidestWindow room (update ∷ earlier) (cond b (update ∷ within_window (room - update.weight) earlier) [])
    by_test true here rest =
        let small = leb-true update.weight room here in
        let within = rest.fits in record {
          front = ap (λ kept. update ∷ kept) rest.front;
          fits = omega arith;
          widest = λ oldest there. let over = rest.widest oldest there in omega arith;
        }
    by_test false here rest =
        let heavy = leb-false update.weight room here in record {
          front = refl;
          fits = omega arith;
          widest = λ oldest there. let same : update ≡ oldest = cc in subst (λ (it : Accepted). room < 0 + it.weight) same (omega arith);
        }

-- what is said of all updates is said of those that are kept
pub within_window-All : (P : Accepted → Type 0) (room : ℕ) (all : List Accepted) → All P all → All P (within_window room all)
within_window-All P room all each =
    let widest = WindowsAreWidest-law room all in All-same P (within_window room all) (take (length (within_window room all)) all) widest.front (All-take P (length (within_window room all)) all each)

-- no more are kept than there are
pub length-within_window : (room : ℕ) (all : List Accepted) → length (within_window room all) ≤ length all
length-within_window room all =
    let widest = WindowsAreWidest-law room all in
    let taken = ap length widest.front ∙ length-take (length (within_window room all)) all in omega (arith, taken)
