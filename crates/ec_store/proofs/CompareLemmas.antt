-- A term and a borrowed one are compared in place: by name and number of arguments, then argument by argument.
use Rattle.std.proofs.Common.{◌≡◌, ℕ, ◌+◌, ◌<◌, List, ◌∷◌, length, map, get_or, drop, sym, ap, ap₂, ◌∙◌, arith}
use Rattle.std.specs.Cmp.Lexicographic.{slice_cmp}
use Rattle.std.specs.Ordering.{nat_cmp, ordering_then}
use Rattle.std.proofs.lemmas.List.{length-map, get_or-map, drop_more}
use Rattle.ec_lists.proofs.Orderings.{ordering_then_assoc}
use Rattle.ec_terms.specs.declared.ground.Arg.{Arg}
use Rattle.ec_terms.specs.declared.ground.ArgRef.{ArgRef}
use Rattle.ec_terms.specs.declared.ground.Ground.{Ground}
use Rattle.ec_terms.specs.declared.ground.GroundRef.{GroundRef}
use Rattle.ec_terms.specs.Term.{arg_of, ground_of, name_cmp, arg_cmp, term_cmp}
use Rattle.ec_store.specs.Table.{arity_cmp}

-- one argument decides, or leaves it to the rest
pub args_cmp-step : (xs : List Arg) (refs : List ArgRef) (i : ℕ) (x : Arg) (r d : ArgRef) → i < length xs → length xs ≡ length refs →
    x ≡ get_or xs i x → r ≡ get_or refs i d →
    slice_cmp arg_cmp (drop i xs) (drop i (map arg_of refs))
    ≡ ordering_then (arg_cmp x (arg_of r)) (slice_cmp arg_cmp (drop (i + 1) xs) (drop (i + 1) (map arg_of refs)))
args_cmp-step xs refs i x r d within lengths here there =
    let inside : i < length refs = omega arith in
    let also : i < length (map arg_of refs) = omega (arith, length-map refs arg_of) in
    ap₂ (slice_cmp arg_cmp)
    (drop_more xs i x within ∙ ap (λ y. y ∷ drop (i + 1) xs) (sym here))
    (drop_more (map arg_of refs) i (arg_of r) also
    ∙ ap (λ y. y ∷ drop (i + 1) (map arg_of refs)) (get_or-map arg_of refs i d (arg_of r) inside ∙ ap arg_of (sym there)))

-- the two steps
pub term_cmp-steps : (p : Ground) (o : GroundRef) →
    term_cmp p (ground_of o) ≡ ordering_then (arity_cmp p o.name.now (length o.args)) (slice_cmp arg_cmp p.args (map arg_of o.args))
unfolding term_cmp
term_cmp-steps p o =
    sym (ordering_then_assoc (name_cmp p.name o.name.now) (nat_cmp (length p.args) (length (map arg_of o.args))) (slice_cmp arg_cmp p.args (map arg_of o.args)))
    ∙ ap (λ n. ordering_then (ordering_then (name_cmp p.name o.name.now) (nat_cmp (length p.args) n)) (slice_cmp arg_cmp p.args (map arg_of o.args))) (length-map o.args arg_of)
