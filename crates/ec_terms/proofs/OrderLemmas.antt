-- The laws of the order and of the equality of arguments and terms.
use Rattle.std.proofs.Common.{◌≡◌, true, false, ℕ, List, map, [], ◌∷◌, length, refl, ap, subst, ◌∙◌}
use Rattle.std.specs.Bool.{Decides}
use Rattle.std.specs.Cmp.{IsTotalOrder}
use Rattle.std.specs.Cmp.Lexicographic.{slice_cmp, pointwise}
use Rattle.std.specs.Ordering.{nat_cmp, is_ne, ordering_reverse, ordering_then}
use Rattle.std.specs.declared.cmp.Ordering.{Ordering}
use Rattle.std.specs.declared.cmp.Ordering.TheVariants.{Less, Equal, Greater}
use Rattle.std.proofs.lemmas.Bool.Decides.{Decides-int_eq}
use Rattle.std.proofs.lemmas.Cmp.{int_cmp_total, nat_cmp_total, nat_list_cmp_total, lists_total, on_total, then_total, tied_itself}
use Rattle.std.proofs.lemmas.List.{length-map}
use Rattle.std.proofs.lemmas.Map.Lookups.{CmpEqualImpliesEq, exact_signed, exact_bytes}
use Rattle.std.proofs.lemmas.Slice.Eq.{bytes_eq-Decides, slice_eq-Decides}
use Rattle.ec_terms.specs.declared.ground.Arg.{Arg}
use Rattle.ec_terms.specs.declared.ground.Arg.TheVariants.{Int, Word}
use Rattle.ec_terms.specs.declared.ground.Ground.{Ground}
use Rattle.ec_terms.specs.contracts.ground.ArgRefOrd.TheImpl.{cmp-value}
use Rattle.ec_terms.specs.declared.ground.ArgRef.{ArgRef}
use Rattle.ec_terms.specs.declared.ground.ArgRef.TheVariants.{Int as IntRef, Word as WordRef}
use Rattle.ec_terms.specs.declared.ground.GroundRef.{GroundRef}
use Rattle.ec_terms.specs.OrderLaws.{IsEqualOnlyIfSame, IsEquality}
use Rattle.ec_terms.specs.Term.{arg_of, ground_of, arg_eq, term_eq, arg_cmp, term_cmp, name_cmp}
use Rattle.std.proofs.lemmas.Bool.{and_parts, and_from}
use Rattle.ec_lists.proofs.Orderings.{Equal-from_then, Equal-from_then_last, ordering_then_assoc, slice_cmp-exact}

-- ---- the order of arguments

arg_cmp-antisymm : (x y : Arg) → arg_cmp x y ≡ ordering_reverse (arg_cmp y x)
unfolding arg_cmp
arg_cmp-antisymm (Int x) (Int y) = int_cmp_total.antisymm x y
arg_cmp-antisymm (Int x) (Word w) = refl
arg_cmp-antisymm (Word v) (Int y) = refl
arg_cmp-antisymm (Word v) (Word w) = nat_list_cmp_total.antisymm v w

arg_cmp-trans : (x y z : Arg) → arg_cmp x y ≡ Less → arg_cmp y z ≡ Less → arg_cmp x z ≡ Less
unfolding arg_cmp
arg_cmp-trans (Int x) (Int y) (Int z) h k = int_cmp_total.trans x y z h k
arg_cmp-trans (Int x) (Int y) (Word w) h k = refl
arg_cmp-trans (Int x) (Word v) (Int z) h k = cc
arg_cmp-trans (Int x) (Word v) (Word w) h k = refl
arg_cmp-trans (Word v) (Int y) z h k = cc
arg_cmp-trans (Word u) (Word v) (Int z) h k = cc
arg_cmp-trans (Word u) (Word v) (Word w) h k = nat_list_cmp_total.trans u v w h k

arg_cmp-congr : (x y z : Arg) → arg_cmp x y ≡ Equal → arg_cmp x z ≡ arg_cmp y z
unfolding arg_cmp
arg_cmp-congr (Int x) (Int y) (Int z) h = int_cmp_total.congr x y z h
arg_cmp-congr (Int x) (Int y) (Word w) h = refl
arg_cmp-congr (Int x) (Word v) z h = cc
arg_cmp-congr (Word v) (Int y) z h = cc
arg_cmp-congr (Word u) (Word v) (Int z) h = refl
arg_cmp-congr (Word u) (Word v) (Word w) h = nat_list_cmp_total.congr u v w h

-- arguments are in a total order
pub arg_cmp-total : IsTotalOrder arg_cmp
arg_cmp-total = record { antisymm = arg_cmp-antisymm; trans = arg_cmp-trans; congr = arg_cmp-congr }

-- arguments that the order calls equal are the same
pub arg_cmp-exact : CmpEqualImpliesEq arg_cmp
unfolding arg_cmp
arg_cmp-exact (Int x) (Int y) h = ap Int (exact_signed x y h)
arg_cmp-exact (Int x) (Word w) h = cc
arg_cmp-exact (Word v) (Int y) h = cc
arg_cmp-exact (Word v) (Word w) h = ap Word (exact_bytes v w h)

-- ---- lists in dictionary order

-- ---- the order of terms

-- terms are in a total order
pub term_cmp-total : IsTotalOrder term_cmp
unfolding term_cmp
term_cmp-total =
    then_total
    (on_total (λ (p : Ground). p.name) nat_list_cmp_total)
    (then_total (on_total (λ (p : Ground). length p.args) nat_cmp_total) (on_total (λ (p : Ground). p.args) (lists_total arg_cmp-total)))

-- two terms with the same name and arguments are the same
pub ground_same : (p q : Ground) → p.name ≡ q.name → p.args ≡ q.args → p ≡ q
ground_same p q names lists =
    let named : List ℕ → Ground = λ n. record { name = n; args = p.args } in
    let applied : List Arg → Ground = λ a. record { name = q.name; args = a } in
    ap named names ∙ ap applied lists

-- terms that the order calls equal are the same
pub term_cmp-exact : CmpEqualImpliesEq term_cmp
unfolding term_cmp
term_cmp-exact p q h =
    let names = exact_bytes p.name q.name (Equal-from_then (name_cmp p.name q.name) _ h) in
    let rest = Equal-from_then_last (name_cmp p.name q.name) _ h in
    let args = Equal-from_then_last (nat_cmp (length p.args) (length q.args)) _ rest in
    ground_same p q names (slice_cmp-exact arg_cmp-exact p.args q.args args)

-- ---- equality

-- `arg_eq` tells whether two arguments are the same
pub arg_eq-Decides : (x y : Arg) → Decides (arg_eq x y) (x ≡ y)
unfolding arg_eq
arg_eq-Decides (Int x) (Int y) = ((λ h. ap Int ((Decides-int_eq x y).0 h)), (λ h. (Decides-int_eq x y).1 cc))
arg_eq-Decides (Int x) (Word w) = ((λ h. cc), (λ h. cc))
arg_eq-Decides (Word v) (Int y) = ((λ h. cc), (λ h. cc))
arg_eq-Decides (Word v) (Word w) = ((λ h. ap Word ((bytes_eq-Decides v w).0 h)), (λ h. (bytes_eq-Decides v w).1 cc))

-- `pointwise arg_eq` tells whether two lists of arguments are the same
pub args_eq-Decides : (xs ys : List Arg) → Decides (pointwise arg_eq xs ys) (xs ≡ ys)
args_eq-Decides xs ys = slice_eq-Decides arg_eq-Decides xs ys (pointwise arg_eq xs ys) refl

-- `term_eq` tells whether two terms are the same
pub term_eq-Decides : (p q : Ground) → Decides (term_eq p q) (p ≡ q)
unfolding term_eq
term_eq-Decides p q = (
  (λ h.
      let both = and_parts _ _ h in
      let names = (bytes_eq-Decides p.name q.name).0 both.0 in
      ground_same p q names ((args_eq-Decides p.args q.args).0 both.1)),
  (λ h. and_from _ _ ((bytes_eq-Decides p.name q.name).1 (ap (λ (r : Ground). r.name) h)) ((args_eq-Decides p.args q.args).1 (ap (λ (r : Ground). r.args) h))),
)

-- ---- both ways

-- the order of arguments says "equal" of the same arguments, and of no others
pub arg_cmp-Equal : IsEqualOnlyIfSame arg_cmp
arg_cmp-Equal x y = (arg_cmp-exact x y, λ h. subst (λ (z : Arg). arg_cmp x z ≡ Equal) h (tied_itself arg_cmp-total x))

-- the order of terms says "equal" of the same terms, and of no others
pub term_cmp-Equal : IsEqualOnlyIfSame term_cmp
term_cmp-Equal p q = (term_cmp-exact p q, λ h. subst (λ (r : Ground). term_cmp p r ≡ Equal) h (tied_itself term_cmp-total p))

-- the test of arguments passes the same arguments, and no others
pub arg_eq-IsEquality : IsEquality arg_eq
arg_eq-IsEquality x y = arg_eq-Decides x y

-- the test of terms passes the same terms, and no others
pub term_eq-IsEquality : IsEquality term_eq
term_eq-IsEquality p q = term_eq-Decides p q

-- ---- borrowed terms

-- the order that borrowed arguments have is that of the arguments that they show
pub arg_ref_cmp : (x y : ArgRef) → cmp-value.it x y ≡ arg_cmp (arg_of x) (arg_of y)
unfolding arg_cmp
arg_ref_cmp (IntRef x) (IntRef y) = refl
arg_ref_cmp (IntRef x) (WordRef w) = refl
arg_ref_cmp (WordRef v) (IntRef y) = refl
arg_ref_cmp (WordRef v) (WordRef w) = refl

-- lists of borrowed arguments are in the order of the lists that they show
pub arg_refs_cmp : (xs ys : List ArgRef) → slice_cmp cmp-value.it xs ys ≡ slice_cmp arg_cmp (map arg_of xs) (map arg_of ys)
arg_refs_cmp [] [] = refl
arg_refs_cmp [] (y ∷ ys) = refl
arg_refs_cmp (x ∷ xs) [] = refl
arg_refs_cmp (x ∷ xs) (y ∷ ys) = rw (arg_ref_cmp x y, arg_refs_cmp xs ys)

-- a first step that is not equal decides
pub then-decided : (a c : Ordering) → is_ne a ≡ true → a ≡ ordering_then a c
then-decided Less c h = refl
then-decided Equal c h = cc
then-decided Greater c h = refl

-- a first step that is equal leaves it to the second
pub then-left_open : (a c : Ordering) → is_ne a ≡ false → c ≡ ordering_then a c
then-left_open Less c h = cc
then-left_open Equal c h = refl
then-left_open Greater c h = cc

-- the order of the terms that two borrowed terms show, in two steps: names and lengths, then arguments
pub term_cmp-ground_of : (p q : GroundRef) →
    ordering_then (ordering_then (name_cmp p.name.now q.name.now) (nat_cmp (length p.args) (length q.args))) (slice_cmp cmp-value.it p.args q.args)
    ≡ term_cmp (ground_of p) (ground_of q)
unfolding term_cmp
term_cmp-ground_of p q =
    rw (arg_refs_cmp p.args q.args, length-map p.args arg_of, length-map q.args arg_of)
    (ordering_then_assoc (name_cmp p.name.now q.name.now) (nat_cmp (length p.args) (length q.args)) (slice_cmp arg_cmp (map arg_of p.args) (map arg_of q.args)))
