-- Links by one mention more.
use Rattle.std.proofs.Common.{◌≡◌, ℕ, ◌+◌, Bool, true, false, cond, List, [], ◌∷◌, ◌++◌, refl, sym, ap, ap₂, ◌∙◌, arith}
use Rattle.std.specs.List.{list_any, sum_by}
use Rattle.std.specs.List.Sorted.{IsPermutation}
use Rattle.std.proofs.lemmas.List.Sorted.{sum_by-IsPermutation, list_any-IsPermutation, IsPermutation-append_right, IsPermutation-middle}
use Rattle.std.proofs.lemmas.List.Sums.{sum_by-cons}
use Rattle.ec_terms.specs.declared.ground.Ground.{Ground}
use Rattle.ec_terms.specs.declared.theory.Theory.{Theory}
use Rattle.ec_terms.specs.Term.{term_eq}
use Rattle.ec_terms.specs.Domain.{are_exclusive}
use Rattle.ec_terms.proofs.DomainLemmas.{are_exclusive-comm, are_exclusive-itself}
use Rattle.ec_axioms.specs.Links.{initial_properties, with_property, in_term_order, live_properties, link_count}
use Rattle.ec_changes.specs.LinkLaws.{live_by, exclusive_count, links_of, LinksAreOfMentions, LinksInAnyOrder, OneMentionMore}
use Rattle.ec_changes.proofs.TermOrder.{in_term_order-same, IsPairwise-in_term_order, IsMember-from_test, test-IsMember, length-filter-with_property}
use Rattle.ec_changes.proofs.Tallies.{sum_by-agree}

-- the law
pub LinksAreOfMentions-law : LinksAreOfMentions
unfolding link_count links_of live_properties
LinksAreOfMentions-law theory events = refl

-- lists that are the same but for their order are the same in term order
in_term_order-IsPermutation : (xs ys : List Ground) → IsPermutation xs ys → in_term_order xs ≡ in_term_order ys
in_term_order-IsPermutation xs ys moved =
    let same : (q : Ground) → list_any (term_eq q) xs ≡ list_any (term_eq q) ys = λ q. list_any-IsPermutation (term_eq q) xs ys moved in
    in_term_order-same xs ys
    (λ q member. IsMember-from_test ys q (sym (same q) ∙ test-IsMember xs q member))
    (λ q member. IsMember-from_test xs q (same q ∙ test-IsMember ys q member))

-- the law
pub LinksInAnyOrder-law : LinksInAnyOrder
unfolding links_of
LinksInAnyOrder-law theory mentions others moved =
    let live = sym (in_term_order-IsPermutation (initial_properties theory ++ mentions) (initial_properties theory ++ others)
    (IsPermutation-append_right (initial_properties theory) mentions others moved)) in (
      live,
      ap (λ properties. sum_by (λ p. exclusive_count theory p properties) others) live
          ∙ sum_by-IsPermutation (λ p. exclusive_count theory p (live_by theory mentions)) mentions others moved,
    )

-- the live properties with one mention more
live_by-cons : (theory : Theory) (p : Ground) (mentions : List Ground) → live_by theory (p ∷ mentions) ≡ with_property p (live_by theory mentions)
live_by-cons theory p mentions =
    in_term_order-IsPermutation (initial_properties theory ++ p ∷ mentions) (p ∷ (initial_properties theory ++ mentions)) (IsPermutation-middle (initial_properties theory) p mentions)

-- how many of them are exclusive to q
exclusive_count-cons : (theory : Theory) (p q : Ground) (mentions : List Ground)
    → exclusive_count theory q (live_by theory (p ∷ mentions))
    ≡ exclusive_count theory q (live_by theory mentions) + cond (list_any (term_eq p) (live_by theory mentions)) 0 (cond (are_exclusive theory q p) 1 0)
exclusive_count-cons theory p q mentions =
    ap (exclusive_count theory q) (live_by-cons theory p mentions)
    ∙ length-filter-with_property (are_exclusive theory q) p (live_by theory mentions) (IsPairwise-in_term_order (initial_properties theory ++ mentions))

-- one more for each mention that is exclusive to p, if p was not live
sum_by-with_property : (theory : Theory) (f : Ground → ℕ) (p : Ground) (there : Bool) (mentions : List Ground)
    → sum_by (λ q. f q + cond there 0 (cond (are_exclusive theory q p) 1 0)) mentions
    ≡ sum_by f mentions + cond there 0 (exclusive_count theory p mentions)
sum_by-with_property theory f p true [] = refl
sum_by-with_property theory f p false [] = refl
sum_by-with_property theory f p true (q ∷ mentions) =
    omega (arith, sum_by-with_property theory f p true mentions, sum_by-cons f q mentions, sum_by-cons (λ q. f q + 0) q mentions)
sum_by-with_property theory f p false (q ∷ mentions) =
    let rest = sum_by-with_property theory f p false mentions in
    let one = sum_by-cons f q mentions in
    let more = sum_by-cons (λ q. f q + cond (are_exclusive theory q p) 1 0) q mentions in
    let both_ways = are_exclusive-comm theory p q in grind arith

-- the law
pub OneMentionMore-law : OneMentionMore
unfolding links_of
OneMentionMore-law theory p mentions =
    let live = live_by theory mentions in
    let there : Bool = list_any (term_eq p) live in
    let count : Ground → ℕ = λ q. exclusive_count theory q live in
    let itself = are_exclusive-itself theory p in
    let own : exclusive_count theory p (live_by theory (p ∷ mentions)) ≡ count p = exclusive_count-cons theory p p mentions ∙ not_itself _ there _ itself in
    let others = sum_by-agree (λ q. exclusive_count theory q (live_by theory (p ∷ mentions))) (λ q. count q + cond there 0 (cond (are_exclusive theory q p) 1 0)) mentions
    (λ q member. exclusive_count-cons theory p q mentions) in
    sum_by-cons (λ q. exclusive_count theory q (live_by theory (p ∷ mentions))) p mentions
    ∙ ap₂ (λ a b. a + b) own (others ∙ sum_by-with_property theory count p there mentions)
    ∙ regroup (count p) (sum_by count mentions) _
  where
    not_itself : (n : ℕ) (there exclusive : Bool) → exclusive ≡ false → n + cond there 0 (cond exclusive 1 0) ≡ n
    not_itself n true exclusive apart = omega arith
    not_itself n false exclusive apart = grind arith

    regroup : (a b c : ℕ) → a + (b + c) ≡ b + a + c
    regroup a b c = omega arith
