-- Nodes that are reached by some forms.
use Rattle.std.proofs.Common.{◌≡◌, ℕ, zero, suc, ◌<◌, Bool, true, false, not, ◌||◌, List, [], ◌∷◌, ◌++◌, length, map, filter, get_or, set, IsTrue, None, nat_lt, refl, ap, ap₂, ◌∙◌, arith}
use Rattle.std.specs.List.{list_any, list_all, position, position_or_len}
use Rattle.std.proofs.lemmas.Bool.Decides.{nat_tests}
use Rattle.std.proofs.lemmas.List.{length-map, map-append}
use Rattle.std.proofs.lemmas.List.Folds.{list_any-append}
use Rattle.ec_lists.proofs.Filters.{filter-map}
use Rattle.ec_lists.proofs.Tests.{list_all-push}
use Rattle.ec_cone.specs.declared.node.Node.{Node}
use Rattle.ec_cone.specs.Forms.{Form, form_eq}
use Rattle.ec_cone.specs.Growing.{Reads, node_reads, reached_by, is_new}

-- ---- forms one by one

-- a node with the flag that it has
flagged : Node → Bool → Node
flagged node flag = record node { reached = flag }

-- no form reaches nothing
pub reached_by-none : (nodes : List Node) → nodes ≡ map (reached_by []) nodes
unfolding flagged
reached_by-none [] = refl
reached_by-none (node ∷ nodes) =
    let same : node ≡ reached_by [] node = ap (flagged node) (or_none node.reached) in
    ap (λ n. n ∷ nodes) same ∙ ap (λ ns. reached_by [] node ∷ ns) (reached_by-none nodes)
  where
    or_none : (b : Bool) → b ≡ (b || false)
    or_none b = grind arith

-- a form more reaches those that have it
pub reached_by-more : (forms : List Form) (form : Form) (nodes : List Node)
    → map (reached_by (form ∷ [])) (map (reached_by forms) nodes) ≡ map (reached_by (forms ++ form ∷ [])) nodes
unfolding flagged
reached_by-more forms form [] = refl
reached_by-more forms form (node ∷ nodes) =
    let has : Form → Bool = form_eq (node_reads node).form in
    let joined = list_any-append has forms (form ∷ []) in
    let same : reached_by (form ∷ []) (reached_by forms node) ≡ reached_by (forms ++ form ∷ []) node =
    ap (flagged node) (or_joined node.reached (list_any has forms) (list_any has (form ∷ [])) (list_any has (forms ++ form ∷ [])) joined) in
    ap (λ n. n ∷ map (reached_by (form ∷ [])) (map (reached_by forms) nodes)) same
    ∙ ap (λ ns. reached_by (forms ++ form ∷ []) node ∷ ns) (reached_by-more forms form nodes)
  where
    or_joined : (a b c d : Bool) → d ≡ (b || c) → ((a || b) || c) ≡ (a || d)
    or_joined a b c d is = grind arith

-- one node that has the form, and one that has not
pub reached_by-here : (form : Form) (node : Node) → form_eq (node_reads node).form form ≡ true → record node { reached = true } ≡ reached_by (form ∷ []) node
unfolding flagged
reached_by-here form node has = ap (flagged node) (or_here node.reached (form_eq (node_reads node).form form) has)
  where
    or_here : (a b : Bool) → b ≡ true → true ≡ (a || (b || false))
    or_here a b has = grind arith

pub reached_by-not_here : (form : Form) (node : Node) → form_eq (node_reads node).form form ≡ false → node ≡ reached_by (form ∷ []) node
unfolding flagged
reached_by-not_here form node lacks = ap (flagged node) (or_not_here node.reached (form_eq (node_reads node).form form) lacks)
  where
    or_not_here : (a b : Bool) → b ≡ false → a ≡ (a || (b || false))
    or_not_here a b lacks = grind arith

-- ---- what stays

-- nodes read what they read
pub map_node_reads-reached_by : (forms : List Form) (nodes : List Node) → map node_reads (map (reached_by forms) nodes) ≡ map node_reads nodes
map_node_reads-reached_by forms [] = refl
map_node_reads-reached_by forms (node ∷ nodes) = ap (λ rs. node_reads node ∷ rs) (map_node_reads-reached_by forms nodes)

-- as many are left to follow
abbrev pub is_left : Node → Bool
is_left node = not node.followed

pub left-reached_by : (forms : List Form) (nodes : List Node) → length (filter is_left (map (reached_by forms) nodes)) ≡ length (filter is_left nodes)
left-reached_by forms nodes = ap length (filter-map is_left (reached_by forms) nodes) ∙ length-map (filter is_left nodes) (reached_by forms)

-- and fewer where one is followed
pub length-filter_set : {X : Type 0} (p : X → Bool) (xs : List X) (i : ℕ) (y d : X) → i < length xs → p (get_or xs i d) ≡ true → p y ≡ false
    → length (filter p (set xs i y)) < length (filter p xs)
length-filter_set p [] i y d within passes fails = absurd (omega arith)
length-filter_set p (x ∷ xs) zero y d within passes fails = grind arith
length-filter_set p (x ∷ xs) (suc i) y d within passes fails = let rest = length-filter_set p xs i y d (omega arith) passes fails in grind arith

-- ---- nodes that are made

-- one more node reads one thing more
pub node_reads-push : (nodes after : List Node) (node : Node) (so_far : List Reads) (source : Reads) → after ≡ nodes ++ node ∷ []
    → map node_reads nodes ≡ so_far → node_reads node ≡ source → map node_reads after ≡ so_far ++ source ∷ []
node_reads-push nodes after node so_far source pushed before own =
    ap (map node_reads) pushed ∙ map-append node_reads nodes (node ∷ []) ∙ ap₂ (λ rs r. rs ++ r ∷ []) before own

-- and is new where they are
pub is_new-push : (nodes after : List Node) (node : Node) → after ≡ nodes ++ node ∷ [] → IsTrue (list_all is_new nodes) → IsTrue (is_new node)
    → IsTrue (list_all is_new after)
is_new-push nodes after node pushed before own = ap (list_all is_new) pushed ∙ list_all-push is_new nodes node before own

-- ---- the first that passes

-- the first place is within exactly where some member passes
list_any-place : {X : Type 0} (p : X → Bool) (xs : List X) → list_any p xs ≡ nat_lt (position_or_len p xs) (length xs)
list_any-place p [] = refl
list_any-place p (x ∷ xs) = let rest = list_any-place p xs in grind (arith, nat_tests)

-- where there is no first place, none passes
pub position-None : {X : Type 0} (p : X → Bool) (xs : List X) → position p xs ≡ None → list_any p xs ≡ false
position-None p xs none = let some = list_any-place p xs in grind arith
