-- The three answers of an order, and lists in dictionary order.
use Rattle.std.proofs.Common.{◌≡◌, true, ◌&&◌, [], ◌∷◌, refl}
use Rattle.std.specs.Cmp.Lexicographic.{slice_cmp}
use Rattle.std.specs.Ordering.{is_lt, is_eq, is_gt, ordering_then}
use Rattle.std.specs.declared.cmp.Ordering.{Ordering}
use Rattle.std.specs.declared.cmp.Ordering.TheVariants.{Less, Equal, Greater}
use Rattle.std.proofs.lemmas.Map.Lookups.{CmpEqualImpliesEq}

-- what the tests of an answer say
pub Less-from_is_lt : (r : Ordering) → is_lt r ≡ true → r ≡ Less
Less-from_is_lt Less h = refl
Less-from_is_lt Equal h = cc
Less-from_is_lt Greater h = cc

pub Equal-from_is_eq : (r : Ordering) → is_eq r ≡ true → r ≡ Equal
Equal-from_is_eq Less h = cc
Equal-from_is_eq Equal h = refl
Equal-from_is_eq Greater h = cc

pub Greater-from_is_gt : (r : Ordering) → is_gt r ≡ true → r ≡ Greater
Greater-from_is_gt Less h = cc
Greater-from_is_gt Equal h = cc
Greater-from_is_gt Greater h = refl

-- two steps of an order are equal only where the first is
pub Equal-from_then : (a b : Ordering) → ordering_then a b ≡ Equal → a ≡ Equal
Equal-from_then Less b h = cc
Equal-from_then Equal b h = refl
Equal-from_then Greater b h = cc

-- and where the second is
pub Equal-from_then_last : (a b : Ordering) → ordering_then a b ≡ Equal → b ≡ Equal
Equal-from_then_last Less b h = cc
Equal-from_then_last Equal b h = h
Equal-from_then_last Greater b h = cc

-- both are equal where the steps are
pub is_eq-then : (r o : Ordering) → is_eq (ordering_then r o) ≡ (is_eq r && is_eq o)
is_eq-then Less o = refl
is_eq-then Equal o = refl
is_eq-then Greater o = refl

-- three steps, in whichever way they are taken together
pub ordering_then_assoc : (a b c : Ordering) → ordering_then (ordering_then a b) c ≡ ordering_then a (ordering_then b c)
ordering_then_assoc Less b c = refl
ordering_then_assoc Equal b c = refl
ordering_then_assoc Greater b c = refl

-- lists that the dictionary order calls equal are the same, where this is so of their members
pub slice_cmp-exact : {K : Type 0} {R : K → K → Ordering} → CmpEqualImpliesEq R → CmpEqualImpliesEq (slice_cmp R)
slice_cmp-exact exact [] [] h = refl
slice_cmp-exact exact [] (y ∷ ys) h = cc
slice_cmp-exact exact (x ∷ xs) [] h = cc
slice_cmp-exact {K} {R} exact (x ∷ xs) (y ∷ ys) h =
    let first = exact x y (Equal-from_then (R x y) (slice_cmp R xs ys) h) in
    let rest = slice_cmp-exact exact xs ys (Equal-from_then_last (R x y) (slice_cmp R xs ys) h) in
    cc
