-- The term at the front of a text, from the name there and the arguments behind it.
use Rattle.std.proofs.Common.{◌≡◌, ℕ, ◌≤◌, ◌+◌, Bool, true, false, ◌==◌, List, [], length, take, drop, cond, arith, length-drop, ◌-◌, refl, ap, sym, ◌∙◌, Option, Some, None, option_map, option_and_then}
use Rattle.std.specs.Option.{unwrap_or}
use Rattle.std.specs.List.{list_all}
use Rattle.std.proofs.lemmas.List.{take_rest}
use Rattle.std.proofs.lemmas.Bool.{and_from, cond-true, cond-false}
use Rattle.ec_terms.specs.declared.ground.Arg.{Arg}
use Rattle.ec_terms.specs.declared.ground.Ground.{Ground}
use Rattle.ec_terms.specs.Spelling.{begins_with, is_name, name_run}
use Rattle.ec_terms.specs.Term.{is_argument, names_are_names, args_within, inside_of, term_with_args, term_front}
use Rattle.ec_terms.specs.Front.{name_front, args_front}

-- a term and its length, from a name of n bytes and what stands behind its `(`
abbrev pub with_args : List ℕ → ℕ → Option (List Arg × ℕ) → Option (Ground × ℕ)
with_args name n found = option_map {U = Ground × ℕ} (λ f. (record { name = name; args = f.0 }, n + 1 + f.1)) found

-- the name in front, as the reader finds it
name_found : (bs name : List ℕ) (n : ℕ) → name_front bs ≡ Some (name, n) → (is_name (name_run bs) ≡ true) × (name_run bs ≡ name) × (length (name_run bs) ≡ n)
unfolding name_front
name_found bs name n h = of (is_name (name_run bs)) refl h
  where
    of : (t : Bool) → is_name (name_run bs) ≡ t → cond {A = Option (List ℕ × ℕ)} t (Some (name_run bs, length (name_run bs))) None ≡ Some (name, n) →
        (is_name (name_run bs) ≡ true) × (name_run bs ≡ name) × (length (name_run bs) ≡ n)
    of false e k = cc
    of true e k =
        (e, ap (λ (o : Option (List ℕ × ℕ)). (unwrap_or o (name_run bs, n)).0) k, ap (λ (o : Option (List ℕ × ℕ)). (unwrap_or o (name, length (name_run bs))).1) k)

-- with no name in front there is no term
pub term_front-no_name : (bs : List ℕ) → name_front bs ≡ None → term_front bs ≡ None
unfolding name_front term_front
term_front-no_name bs h = of (is_name (name_run bs)) refl h
  where
    of : (t : Bool) → is_name (name_run bs) ≡ t → cond {A = Option (List ℕ × ℕ)} t (Some (name_run bs, length (name_run bs))) None ≡ None → term_front bs ≡ None
    of false e k = cond-false _ _ _ e
    of true e k = cc

-- a name with no `(` behind it
pub term_front-plain : (bs name : List ℕ) (n : ℕ) → name_front bs ≡ Some (name, n) → begins_with (λ b. b == 40) (drop n bs) ≡ false →
    term_front bs ≡ Some (record { name = name; args = [] }, n)
unfolding term_front
term_front-plain bs name n h open_mark =
    let found = name_found bs name n h in
    cond-true _ _ _ found.0
    ∙ cond-false _ _ _ (ap (λ k. begins_with (λ b. b == 40) (drop k bs)) found.2 ∙ open_mark)
    ∙ ap (λ (x : List ℕ). Some (record { name = x; args = [] }, length (name_run bs))) found.1
    ∙ ap (λ (k : ℕ). Some (record { name = name; args = [] }, k)) found.2

-- the two ways to count the length of a term with arguments
term_with_args-is : (name rest : List ℕ) → term_with_args name rest ≡ with_args name (length name) (args_front rest)
unfolding term_with_args args_front
term_with_args-is name rest = of (inside_of rest)
  where
    inner : (inside : List ℕ) (o : Option (List Arg)) →
        option_map {U = Ground × ℕ} (λ args. (record { name = name; args = args }, length name + length inside + 2)) o
        ≡ with_args name (length name) (option_map {U = List Arg × ℕ} (λ args. (args, length inside + 1)) o)
    inner inside None = refl
    inner inside (Some args) =
        let e : length name + length inside + 2 ≡ length name + 1 + (length inside + 1) = omega arith in
        ap (λ (k : ℕ). Some (record { name = name; args = args }, k)) e

    of : (o : Option (List ℕ)) →
        option_and_then {U = Ground × ℕ} (λ inside. option_map {U = Ground × ℕ} (λ args. (record { name = name; args = args }, length name + length inside + 2)) (args_within inside)) o
        ≡ with_args name (length name) (option_and_then {U = List Arg × ℕ} (λ inside. option_map {U = List Arg × ℕ} (λ args. (args, length inside + 1)) (args_within inside)) o)
    of None = refl
    of (Some inside) = inner inside (args_within inside)

-- a name and a `(`
pub term_front-args : (bs name : List ℕ) (n : ℕ) → name_front bs ≡ Some (name, n) → begins_with (λ b. b == 40) (drop n bs) ≡ true →
    term_front bs ≡ with_args name n (args_front (drop 1 (drop n bs)))
unfolding term_front
term_front-args bs name n h open_mark =
    let found = name_found bs name n h in
    let len : length name ≡ n = ap length (sym found.1) ∙ found.2 in
    cond-true _ _ _ found.0
    ∙ cond-true _ _ _ (ap (λ k. begins_with (λ b. b == 40) (drop k bs)) found.2 ∙ open_mark)
    ∙ ap (λ k. term_with_args (name_run bs) (drop 1 (drop k bs))) found.2
    ∙ ap (λ x. term_with_args x (drop 1 (drop n bs))) found.1
    ∙ term_with_args-is name (drop 1 (drop n bs))
    ∙ ap (λ k. with_args name k (args_front (drop 1 (drop n bs)))) len

-- the same at the places that the reader cuts
pub read_plain : (bs name : List ℕ) (n : ℕ) → name_front bs ≡ Some (name, n) → begins_with (λ b. b == 40) (take (length bs - n) (drop n bs)) ≡ false →
    term_front bs ≡ Some (record { name = name; args = [] }, n)
read_plain bs name n h open_mark =
    term_front-plain bs name n h (ap (begins_with (λ b. b == 40)) (sym (take_rest bs n)) ∙ open_mark)

pub read_parts : (bs name : List ℕ) (n : ℕ) (inside : List ℕ) → name_front bs ≡ Some (name, n) → begins_with (λ b. b == 40) (take (length bs - n) (drop n bs)) ≡ true →
    inside ≡ drop 1 (drop n bs) → term_front bs ≡ with_args name n (args_front inside)
read_parts bs name n inside h open_mark e =
    term_front-args bs name n h (ap (begins_with (λ b. b == 40)) (sym (take_rest bs n)) ∙ open_mark)
    ∙ ap (λ xs. with_args name n (args_front xs)) (sym e)

-- the rest of the rest of a text
pub rest_of_rest : (bs : List ℕ) (n : ℕ) →
    take (length (take (length bs - n) (drop n bs)) - 1) (drop 1 (take (length bs - n) (drop n bs))) ≡ drop 1 (drop n bs)
rest_of_rest bs n = take_rest (take (length bs - n) (drop n bs)) 1 ∙ ap (drop 1) (take_rest bs n)

pub length-rest_of_rest : (bs : List ℕ) (n : ℕ) → n ≤ length bs → 1 ≤ length (take (length bs - n) (drop n bs)) →
    n + 1 + length (drop 1 (drop n bs)) ≡ length bs
length-rest_of_rest bs n within some =
    let t = ap length (take_rest bs n) in
    let l = length-drop n bs in
    let k = length-drop 1 (drop n bs) in
    omega arith

-- the names of a term
pub names-from : (name : List ℕ) (args : List Arg) → is_name name ≡ true → list_all is_argument args ≡ true →
    names_are_names (record { name = name; args = args }) ≡ true
unfolding names_are_names
names-from name args h k = and_from _ _ h k
