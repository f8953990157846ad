-- The arguments between the parentheses, piece by piece: what one more argument, a `,` and a `)` do.
use Rattle.std.proofs.Common.{◌≡◌, ℕ, ◌<◌, ◌≤◌, ◌+◌, Bool, true, false, ◌==◌, not, nat_le, List, [], ◌∷◌, ◌++◌, length, take, drop, get_or, cond, map, arith, refl, ap, sym, subst, ◌∙◌, inl, inr, eqb-true, append_assoc, length-append, length-drop, ◌-◌, add-one, zero-add, Option, Some, None, option_map, option_and_then}
use Rattle.std.specs.List.{list_all, before_first}
use Rattle.std.proofs.lemmas.Bool.{cases_Bool, and_from, cond-true, cond-false, le-leb, lt-leb, and_parts}
use Rattle.std.proofs.lemmas.Bool.Decides.{nat_tests}
use Rattle.std.specs.Option.{unwrap_or}
use Rattle.std.proofs.Math.Seq.{get_or-append_seam, split_at}
use Rattle.std.proofs.lemmas.List.{length-take-le, take_rest, get_or-drop, drop-drop, map-append}
use Rattle.std.proofs.lemmas.List.Folds.{list_all-append}
use Rattle.std.proofs.lemmas.List.Sums.{take_while-cons}
use Rattle.ec_terms.specs.declared.limits.TheConstants.{MOST_ARGS}
use Rattle.ec_terms.specs.declared.ground.Arg.{Arg}
use Rattle.ec_terms.specs.declared.ground.ArgRef.{ArgRef}
use Rattle.ec_terms.specs.Spelling.{begins_with}
use Rattle.ec_terms.specs.Pieces.{pieces_between, before_first_piece}
use Rattle.ec_terms.specs.Term.{arg_of, is_argument, arg_value, pieces_of, args_value, args_within, inside_of}
use Rattle.ec_terms.specs.Front.{arg_run, arg_front, args_front}
use Rattle.ec_terms.proofs.Runs.{take_while-append}
use Rattle.ec_terms.proofs.Arguments.{is_mark, is_plain, arg_run-is_take, arg_run-within, plain_arg_run, arg_run-seam, arg_run-all}
use Rattle.ec_lists.proofs.Tests.{list_all-weaker}
use Rattle.ec_lists.proofs.Fronts.{take_while-all, take_while-pass}

-- ---- up to the `)`

plain_open : (b : ℕ) → is_plain b ≡ true → not (b == 41) ≡ true
plain_open b h = grind (arith, nat_tests)

plain_all_open : (p : List ℕ) → list_all is_plain p ≡ true → list_all (λ b. not (b == 41)) p ≡ true
plain_all_open p h = list_all-weaker is_plain (λ b. not (b == 41)) plain_open p h

same_test : (a b c d : ℕ) → (a ≤ b → c ≤ d) → (c ≤ d → a ≤ b) → nat_le a b ≡ nat_le c d
same_test a b c d there back = grind (arith, nat_tests)

no_close : (bs : List ℕ) → begins_with (λ b. not (b == 41)) (41 ∷ bs) ≡ false
unfolding begins_with
no_close bs = refl

-- the inside, from what stands before the first `)` if there is one
inside_at : (bs inside : List ℕ) → before_first (λ b. b == 41) bs ≡ inside → inside_of bs ≡ cond (nat_le (length bs) (length inside)) None (Some inside)
unfolding inside_of
inside_at bs inside e = ap (λ (x : List ℕ). cond (nat_le (length bs) (length x)) None (Some x)) e

-- with no `)` nothing is inside
pub inside_of-none : (bs : List ℕ) → list_all is_plain bs ≡ true → inside_of bs ≡ None
inside_of-none bs h =
    inside_at bs bs (take_while-all (λ b. not (b == 41)) bs (plain_all_open bs h))
    ∙ cond-true (nat_le (length bs) (length bs)) None (Some bs) (le-leb _ _ (omega arith))

-- what stands before the first `)` is inside
pub inside_of-close : (p r : List ℕ) → list_all is_plain p ≡ true → inside_of (p ++ 41 ∷ r) ≡ Some p
inside_of-close p r h =
    inside_at (p ++ 41 ∷ r) p (take_while-append (λ b. not (b == 41)) p (41 ∷ r) (plain_all_open p h) (no_close r))
    ∙ cond-false (nat_le (length (p ++ 41 ∷ r)) (length p)) None (Some p) (lt-leb _ _ (omega (arith, length-append p (41 ∷ r))))

-- behind a `,` the inside goes on
pub inside_of-comma : (p r : List ℕ) → list_all is_plain p ≡ true → inside_of (p ++ 44 ∷ r) ≡ option_map (λ i. p ++ 44 ∷ i) (inside_of r)
inside_of-comma p r h =
    let x : List ℕ = before_first (λ b. b == 41) r in
    inside_at (p ++ 44 ∷ r) (p ++ 44 ∷ x)
    (take_while-pass (λ b. not (b == 41)) p (44 ∷ r) (plain_all_open p h) ∙ ap (λ zs. p ++ zs) (take_while-cons (λ b. not (b == 41)) 44 r))
    ∙ ap (λ t. cond t None (Some (p ++ 44 ∷ x)))
    (same_test (length (p ++ 44 ∷ r)) (length (p ++ 44 ∷ x)) (length r) (length x)
    (λ k. omega (arith, length-append p (44 ∷ r), length-append p (44 ∷ x))) (λ k. omega (arith, length-append p (44 ∷ r), length-append p (44 ∷ x))))
    ∙ either (nat_le (length r) (length x)) x ∙ ap (option_map (λ i. p ++ 44 ∷ i)) (sym (inside_at r x refl))
  where
    either : (b : Bool) (x : List ℕ) → cond b None (Some (p ++ 44 ∷ x)) ≡ option_map (λ i. p ++ 44 ∷ i) (cond b None (Some x))
    either true x = refl
    either false x = refl

-- ---- pieces

pub pieces_of-first : (b : ℕ) (bs p : List ℕ) (ps : List (List ℕ)) → (b == 44) ≡ false → pieces_of bs ≡ p ∷ ps → pieces_of (b ∷ bs) ≡ (b ∷ p) ∷ ps
unfolding pieces_between
pieces_of-first b bs p ps h e = cond-false (b == 44) ([] ∷ pieces_of bs) (before_first_piece b (pieces_of bs)) h ∙ ap (before_first_piece b) e

plain_no_comma : (b : ℕ) → is_plain b ≡ true → (b == 44) ≡ false
plain_no_comma b h = grind (arith, nat_tests)

-- a text with no `,` is one piece
pub pieces_of-plain : (p : List ℕ) → list_all is_plain p ≡ true → pieces_of p ≡ p ∷ []
unfolding pieces_between
pieces_of-plain [] h = refl
pieces_of-plain (b ∷ p) h = pieces_of-first b p p [] (plain_no_comma b (and_parts _ _ h).0) (pieces_of-plain p (and_parts _ _ h).1)

-- a `,` ends a piece
pub pieces_of-comma : (p i : List ℕ) → list_all is_plain p ≡ true → pieces_of (p ++ 44 ∷ i) ≡ p ∷ pieces_of i
unfolding pieces_between
pieces_of-comma [] i h = refl
pieces_of-comma (b ∷ p) i h = pieces_of-first b (p ++ 44 ∷ i) p (pieces_of i) (plain_no_comma b (and_parts _ _ h).0) (pieces_of-comma p i (and_parts _ _ h).1)

some_piece : (bs : List ℕ) → (p : List ℕ) × (ps : List (List ℕ)) × (pieces_of bs ≡ p ∷ ps)
unfolding pieces_between
some_piece [] = ([], [], refl)
some_piece (b ∷ bs) =
    let more = some_piece bs in
    elim (cases_Bool (b == 44)) [
      | inl e ↦ ([], pieces_of bs, cond-true _ _ _ e)
      | inr e ↦ (b ∷ more.0, more.1, pieces_of-first b bs more.0 more.1 e more.2)
    ]

-- a text has a piece at least
pub length-pieces_of : (bs : List ℕ) → 0 < length (pieces_of bs)
length-pieces_of bs = let some = some_piece bs in omega (arith, ap length some.2)

-- ---- a text up to its first mark

pub mark_cases : (P : List ℕ → Type 0) → ((bs : List ℕ) → list_all is_plain bs ≡ true → P bs) →
    ((p : List ℕ) (d : ℕ) (r : List ℕ) → list_all is_plain p ≡ true → is_mark d ≡ true → P (p ++ d ∷ r)) → (bs : List ℕ) → P bs
mark_cases P none some [] = none [] refl
mark_cases P none some (b ∷ bs) =
    elim (cases_Bool (is_mark b)) [
      | inl e ↦ some [] b bs refl e
      | inr e ↦
          let plain : is_plain b ≡ true = ap not e in
          mark_cases (λ xs. P (b ∷ xs)) (λ xs h. none (b ∷ xs) (and_from _ _ plain h))
          (λ p d r h k. some (b ∷ p) d r (and_from _ _ plain h) k) bs
    ]

-- ---- the arguments from a place on

-- the arguments that the pieces spell behind `count` others, as few in all as a term has
abbrev pub args_after : ℕ → List (List ℕ) → Option (List Arg)
args_after count pieces = cond (nat_le (count + length pieces) MOST_ARGS) (args_value pieces) None

-- what stands inside is read behind the arguments `before`, which took `at` bytes
abbrev pub args_inside : List Arg → ℕ → Option (List ℕ) → Option (List Arg × ℕ)
args_inside before at None = None
args_inside before at (Some inside) = option_map {U = List Arg × ℕ} (λ more. (before ++ more, at + length inside + 1)) (args_after (length before) (pieces_of inside))

-- the arguments of a text that goes on with `rest` behind the arguments `before`, which took `at` bytes
abbrev pub args_from : List Arg → ℕ → List ℕ → Option (List Arg × ℕ)
args_from before at rest = args_inside before at (inside_of rest)

-- at the front nothing is before
pub args_from-front : (bs : List ℕ) → args_front bs ≡ args_from [] 0 bs
unfolding args_front args_within
args_from-front bs = of (inside_of bs)
  where
    of : (o : Option (List ℕ)) → option_and_then (λ inside. option_map {U = List Arg × ℕ} (λ args. (args, length inside + 1)) (args_within inside)) o ≡ args_inside [] 0 o
    of None = refl
    of (Some inside) = rw zero-add (rw zero-add refl)

-- the test of the number of arguments, with one argument more before and one piece less behind
one_more : (before : List Arg) (a : Arg) (p : List ℕ) (ps : List (List ℕ)) →
    nat_le (length before + length (p ∷ ps)) MOST_ARGS ≡ nat_le (length (before ++ a ∷ []) + length ps) MOST_ARGS
one_more before a p ps =
    ap (λ n. nat_le n MOST_ARGS) (let e = length-append before (a ∷ []) in omega arith)

-- an argument and a `,`
pub args_from-comma : (before : List Arg) (at : ℕ) (p r : List ℕ) (a : Arg) → list_all is_plain p ≡ true → arg_value p ≡ Some a →
    args_from before at (p ++ 44 ∷ r) ≡ args_from (before ++ a ∷ []) (at + length p + 1) r
unfolding args_value
args_from-comma before at p r a h e = ap (args_inside before at) (inside_of-comma p r h) ∙ of (inside_of r)
  where
    counts : (i : List ℕ) → at + length (p ++ 44 ∷ i) + 1 ≡ at + length p + 1 + length i + 1
    counts i = let l = length-append p (44 ∷ i) in omega arith

    found : (i : List ℕ) (t : Bool) (o : Option (List Arg)) →
        option_map {U = List Arg × ℕ} (λ more. (before ++ more, at + length (p ++ 44 ∷ i) + 1)) (cond t (option_map (λ rest. a ∷ rest) o) None)
        ≡ option_map {U = List Arg × ℕ} (λ more. ((before ++ a ∷ []) ++ more, at + length p + 1 + length i + 1)) (cond t o None)
    found i false o = refl
    found i true None = refl
    found i true (Some more) =
        let l = append_assoc before (a ∷ []) more in
        let k = counts i in
        cc

    read : (i : List ℕ) → args_value (p ∷ pieces_of i) ≡ option_map (λ rest. a ∷ rest) (args_value (pieces_of i))
    read i = ap (option_and_then (λ b. option_map (λ rest. b ∷ rest) (args_value (pieces_of i)))) e

    after : (i : List ℕ) → args_after (length before) (pieces_of (p ++ 44 ∷ i))
        ≡ cond (nat_le (length (before ++ a ∷ []) + length (pieces_of i)) MOST_ARGS) (option_map (λ rest. a ∷ rest) (args_value (pieces_of i))) None
    after i =
        ap (args_after (length before)) (pieces_of-comma p i h)
        ∙ ap (λ t. cond t (args_value (p ∷ pieces_of i)) None) (one_more before a p (pieces_of i))
        ∙ ap (λ o. cond (nat_le (length (before ++ a ∷ []) + length (pieces_of i)) MOST_ARGS) o None) (read i)

    of : (o : Option (List ℕ)) → args_inside before at (option_map (λ i. p ++ 44 ∷ i) o) ≡ args_inside (before ++ a ∷ []) (at + length p + 1) o
    of None = refl
    of (Some i) =
        ap (option_map {U = List Arg × ℕ} (λ more. (before ++ more, at + length (p ++ 44 ∷ i) + 1))) (after i)
        ∙ found i (nat_le (length (before ++ a ∷ []) + length (pieces_of i)) MOST_ARGS) (args_value (pieces_of i))

-- an argument and a `)`
pub args_from-close : (before : List Arg) (at : ℕ) (p r : List ℕ) (a : Arg) → list_all is_plain p ≡ true → arg_value p ≡ Some a →
    length before < MOST_ARGS → args_from before at (p ++ 41 ∷ r) ≡ Some (before ++ a ∷ [], at + length p + 1)
unfolding args_value
args_from-close before at p r a h e few =
    ap (args_inside before at) (inside_of-close p r h)
    ∙ ap (λ ps. option_map {U = List Arg × ℕ} (λ more. (before ++ more, at + length p + 1)) (args_after (length before) ps)) (pieces_of-plain p h)
    ∙ ap (λ o. option_map {U = List Arg × ℕ} (λ more. (before ++ more, at + length p + 1)) o)
    (cond-true (nat_le (length before + 1) MOST_ARGS) (args_value (p ∷ [])) None (le-leb _ _ (omega arith)) ∙ ap (option_and_then (λ b. option_map (λ rest. b ∷ rest) (Some []))) e)

-- a piece that spells no argument
pub args_from-no_arg : (before : List Arg) (at : ℕ) (p : List ℕ) (d : ℕ) (r : List ℕ) → list_all is_plain p ≡ true → is_mark d ≡ true →
    arg_value p ≡ None → args_from before at (p ++ d ∷ r) ≡ None
unfolding args_value
args_from-no_arg before at p d r h k e =
    elim (cases_Bool (d == 44)) [
      | inl c ↦ subst (λ (x : ℕ). args_from before at (p ++ x ∷ r) ≡ None) (sym (eqb-true d 44 c)) (comma)
      | inr c ↦ subst (λ (x : ℕ). args_from before at (p ++ x ∷ r) ≡ None) (sym (close_mark c)) (close)
    ]
  where
    close_mark : (d == 44) ≡ false → d ≡ 41
    close_mark c = grind (arith, nat_tests)

    neither : (t : Bool) → cond {A = Option (List Arg)} t None None ≡ None
    neither true = refl
    neither false = refl

    none_after : (ps : List (List ℕ)) → args_after (length before) (p ∷ ps) ≡ None
    none_after ps = ap (λ o. cond (nat_le (length before + length (p ∷ ps)) MOST_ARGS) (option_and_then (λ b. option_map (λ rest. b ∷ rest) (args_value ps)) o) None) e ∙ neither (nat_le (length before + length (p ∷ ps)) MOST_ARGS)

    of : (o : Option (List ℕ)) → args_inside before at (option_map (λ i. p ++ 44 ∷ i) o) ≡ None
    of None = refl
    of (Some i) = ap (λ o. option_map {U = List Arg × ℕ} (λ more. (before ++ more, at + length (p ++ 44 ∷ i) + 1)) o) (ap (args_after (length before)) (pieces_of-comma p i h) ∙ none_after (pieces_of i))

    comma : args_from before at (p ++ 44 ∷ r) ≡ None
    comma = ap (args_inside before at) (inside_of-comma p r h) ∙ of (inside_of r)

    close : args_from before at (p ++ 41 ∷ r) ≡ None
    close =
        ap (args_inside before at) (inside_of-close p r h)
        ∙ ap (λ o. option_map {U = List Arg × ℕ} (λ more. (before ++ more, at + length p + 1)) o) (ap (args_after (length before)) (pieces_of-plain p h) ∙ none_after [])

-- no argument has room behind as many as a term has
pub args_from-full : (before : List Arg) (at : ℕ) (rest : List ℕ) → MOST_ARGS ≤ length before → args_from before at rest ≡ None
args_from-full before at rest full = of (inside_of rest)
  where
    of : (o : Option (List ℕ)) → args_inside before at o ≡ None
    of None = refl
    of (Some i) =
        ap (option_map {U = List Arg × ℕ} (λ more. (before ++ more, at + length i + 1)))
        (cond-false (nat_le (length before + length (pieces_of i)) MOST_ARGS) (args_value (pieces_of i)) None (lt-leb _ _ (let some = length-pieces_of i in omega arith)))

-- ---- the arguments, as the reader finds them

-- a list is what stands before a place, the element there and the rest
around : (n : ℕ) (xs : List ℕ) → n < length xs → xs ≡ take n xs ++ get_or xs n 0 ∷ drop (n + 1) xs
around n xs h = split_at xs n 0 h ∙ ap (λ k. take n xs ++ get_or xs n 0 ∷ drop k xs) (sym (add-one n))

same_arg : (a b : Arg) (n m : ℕ) → ◌≡◌ {A = Option (Arg × ℕ)} (Some (a, n)) (Some (b, m)) → a ≡ b
same_arg a b n m e = ap (λ (o : Option (Arg × ℕ)). (unwrap_or o (a, n)).0) e

same_len : (a b : Arg) (n m : ℕ) → ◌≡◌ {A = Option (Arg × ℕ)} (Some (a, n)) (Some (b, m)) → n ≡ m
same_len a b n m e = ap (λ (o : Option (Arg × ℕ)). (unwrap_or o (a, n)).1) e

-- what was found in front
found_run : (bs : List ℕ) (a : Arg) (n : ℕ) → arg_front bs ≡ Some (a, n) → (arg_value (arg_run bs) ≡ Some a) × (length (arg_run bs) ≡ n)
unfolding arg_front
found_run bs a n h = of (arg_value (arg_run bs)) refl h
  where
    of : (o : Option Arg) → arg_value (arg_run bs) ≡ o → option_map {U = Arg × ℕ} (λ b. (b, length (arg_run bs))) o ≡ Some (a, n) → (arg_value (arg_run bs) ≡ Some a) × (length (arg_run bs) ≡ n)
    of None e k = cc
    of (Some b) e k = (e ∙ ap Some (same_arg b a (length (arg_run bs)) n k), same_len b a (length (arg_run bs)) n k)

pub arg_front-within : (bs : List ℕ) (a : Arg) (n : ℕ) → arg_front bs ≡ Some (a, n) → n ≤ length bs
arg_front-within bs a n h = let found = found_run bs a n h in omega (arith, arg_run-within bs)

found_take : (bs : List ℕ) (a : Arg) (n : ℕ) → arg_front bs ≡ Some (a, n) → (list_all is_plain (take n bs) ≡ true) × (arg_value (take n bs) ≡ Some a)
found_take bs a n h =
    let found = found_run bs a n h in
    let run : arg_run bs ≡ take n bs = arg_run-is_take bs ∙ ap (λ k. take k bs) found.1 in
    (ap (list_all is_plain) (sym run) ∙ plain_arg_run bs, ap arg_value (sym run) ∙ found.0)

-- an argument with a `,` behind it
pub step_comma : (before : List Arg) (at : ℕ) (rest : List ℕ) (a : Arg) (n : ℕ) → arg_front rest ≡ Some (a, n) → n < length rest → get_or rest n 0 ≡ 44 →
    args_from before at rest ≡ args_from (before ++ a ∷ []) (at + n + 1) (drop (n + 1) rest)
step_comma before at rest a n h within mark =
    let found = found_take rest a n h in
    let cut : rest ≡ take n rest ++ 44 ∷ drop (n + 1) rest = around n rest within ∙ ap (λ d. take n rest ++ d ∷ drop (n + 1) rest) mark in
    let l : length (take n rest) ≡ n = length-take-le n rest (omega arith) in
    ap (args_from before at) cut ∙ args_from-comma before at (take n rest) (drop (n + 1) rest) a found.0 found.1
    ∙ ap (λ k. args_from (before ++ a ∷ []) (at + k + 1) (drop (n + 1) rest)) l

-- an argument with a `)` behind it
pub step_close : (before : List Arg) (at : ℕ) (rest : List ℕ) (a : Arg) (n : ℕ) → arg_front rest ≡ Some (a, n) → n < length rest → get_or rest n 0 ≡ 41 →
    length before < MOST_ARGS → args_from before at rest ≡ Some (before ++ a ∷ [], at + n + 1)
step_close before at rest a n h within mark few =
    let found = found_take rest a n h in
    let cut : rest ≡ take n rest ++ 41 ∷ drop (n + 1) rest = around n rest within ∙ ap (λ d. take n rest ++ d ∷ drop (n + 1) rest) mark in
    let l : length (take n rest) ≡ n = length-take-le n rest (omega arith) in
    ap (args_from before at) cut ∙ args_from-close before at (take n rest) (drop (n + 1) rest) a found.0 found.1 few
    ∙ ap (λ (k : ℕ). Some (before ++ a ∷ [], at + k + 1)) l

-- an argument that a mark follows is found in front
found_before_mark : (p : List ℕ) (d : ℕ) (r : List ℕ) (a : Arg) → is_mark d ≡ true → arg_value p ≡ Some a → arg_front (p ++ d ∷ r) ≡ Some (a, length p)
unfolding arg_front
found_before_mark p d r a k e =
    let run : arg_run (p ++ d ∷ r) ≡ p = arg_run-seam p d r k ∙ arg_run-all p a e in
    ap (λ (x : List ℕ). option_map {U = Arg × ℕ} (λ b. (b, length x)) (arg_value x)) run ∙ ap (option_map {U = Arg × ℕ} (λ b. (b, length p))) e

-- with no argument and mark in front, nothing is read
pub step_none : (before : List Arg) (at : ℕ) (rest : List ℕ) →
    ((a : Arg) (n : ℕ) → arg_front rest ≡ Some (a, n) → n < length rest → is_mark (get_or rest n 0) ≡ true → ⊥) →
    args_from before at rest ≡ None
step_none before at =
    mark_cases (λ rest. ((a : Arg) (n : ℕ) → arg_front rest ≡ Some (a, n) → n < length rest → is_mark (get_or rest n 0) ≡ true → ⊥) → args_from before at rest ≡ None)
    (λ bs h refused. ap (args_inside before at) (inside_of-none bs h))
    (λ p d r h k refused. args_from-no_arg before at p d r h k (none p d r k (arg_value p) refl refused))
  where
    none : (p : List ℕ) (d : ℕ) (r : List ℕ) → is_mark d ≡ true → (o : Option Arg) → arg_value p ≡ o →
        ((a : Arg) (n : ℕ) → arg_front (p ++ d ∷ r) ≡ Some (a, n) → n < length (p ++ d ∷ r) → is_mark (get_or (p ++ d ∷ r) n 0) ≡ true → ⊥) → arg_value p ≡ None
    none p d r k None e refused = e
    none p d r k (Some a) e refused =
        absurd (refused a (length p) (found_before_mark p d r a k e) (omega (arith, length-append p (d ∷ r)))
        (ap is_mark (get_or-append_seam p d r 0) ∙ k))

-- nothing is read where no argument is in front
pub step_no_arg : (before : List Arg) (at : ℕ) (rest : List ℕ) → arg_front rest ≡ None → args_from before at rest ≡ None
step_no_arg before at rest h = step_none before at rest (λ a n e within mark. cc)

-- nor where an argument ends the text
pub step_end : (before : List Arg) (at : ℕ) (rest : List ℕ) (a : Arg) (n : ℕ) → arg_front rest ≡ Some (a, n) → length rest ≤ n → args_from before at rest ≡ None
step_end before at rest a n h ends =
    step_none before at rest (λ b m e within mark. let same = same_len b a m n (sym e ∙ h) in omega arith)

-- nor where another byte follows it
pub step_other : (before : List Arg) (at : ℕ) (rest : List ℕ) (a : Arg) (n b : ℕ) → arg_front rest ≡ Some (a, n) → get_or rest n 0 ≡ b → (b ≡ 44 → ⊥) → (b ≡ 41 → ⊥) →
    args_from before at rest ≡ None
step_other before at rest a n b h byte no_comma no_close_mark =
    step_none before at rest (λ c m e within mark.
    let same = same_len c a m n (sym e ∙ h) in
    let is : is_mark b ≡ true = ap is_mark (sym (ap (λ k. get_or rest k 0) same ∙ byte)) ∙ mark in
    no_mark is)
  where
    no_mark : is_mark b ≡ true → ⊥
    no_mark is = grind (arith, nat_tests)

-- ---- the reader's steps at a place of the text

-- what the reader knows at a place: the text's arguments are those before, and those from the place on
abbrev pub ReadSoFar : List ℕ → List Arg → ℕ → Type 0
ReadSoFar bs before at = args_front bs ≡ args_from before at (drop at bs)

-- the argument at a place
abbrev pub arg_at : List ℕ → ℕ → Option (Arg × ℕ)
arg_at bs at = arg_front (take (length bs - at) (drop at bs))

arg_at-is : (bs : List ℕ) (at : ℕ) → arg_front (drop at bs) ≡ arg_at bs at
arg_at-is bs at = ap arg_front (sym (take_rest bs at))

pub read_no_arg : (bs : List ℕ) (before : List Arg) (at : ℕ) → ReadSoFar bs before at → arg_at bs at ≡ None → args_front bs ≡ None
read_no_arg bs before at so_far h = so_far ∙ step_no_arg before at (drop at bs) (arg_at-is bs at ∙ h)

pub read_comma : (bs : List ℕ) (before : List Arg) (at : ℕ) (a : Arg) (n : ℕ) → ReadSoFar bs before at → arg_at bs at ≡ Some (a, n) →
    at + n < length bs → get_or bs (at + n) 0 ≡ 44 → ReadSoFar bs (before ++ a ∷ []) (at + n + 1)
read_comma bs before at a n so_far h within mark =
    let rest : drop (n + 1) (drop at bs) ≡ drop (at + n + 1) bs = drop-drop (n + 1) at bs ∙ ap (λ k. drop k bs) (omega arith) in
    so_far
    ∙ step_comma before at (drop at bs) a n (arg_at-is bs at ∙ h) (let l = length-drop at bs in omega arith) (get_or-drop at bs n 0 ∙ mark)
    ∙ ap (args_from (before ++ a ∷ []) (at + n + 1)) rest

pub read_close : (bs : List ℕ) (before : List Arg) (at : ℕ) (a : Arg) (n : ℕ) → ReadSoFar bs before at → arg_at bs at ≡ Some (a, n) →
    at + n < length bs → get_or bs (at + n) 0 ≡ 41 → length before < MOST_ARGS → args_front bs ≡ Some (before ++ a ∷ [], at + n + 1)
read_close bs before at a n so_far h within mark few =
    so_far
    ∙ step_close before at (drop at bs) a n (arg_at-is bs at ∙ h) (let l = length-drop at bs in omega arith) (get_or-drop at bs n 0 ∙ mark) few

pub read_end : (bs : List ℕ) (before : List Arg) (at : ℕ) (a : Arg) (n : ℕ) → ReadSoFar bs before at → arg_at bs at ≡ Some (a, n) →
    length bs ≤ at + n → args_front bs ≡ None
read_end bs before at a n so_far h ends =
    so_far ∙ step_end before at (drop at bs) a n (arg_at-is bs at ∙ h) (let l = length-drop at bs in omega arith)

pub read_other : (bs : List ℕ) (before : List Arg) (at : ℕ) (a : Arg) (n b : ℕ) → ReadSoFar bs before at → arg_at bs at ≡ Some (a, n) →
    get_or bs (at + n) 0 ≡ b → (b ≡ 44 → ⊥) → (b ≡ 41 → ⊥) → args_front bs ≡ None
read_other bs before at a n b so_far h byte no_comma no_close_mark =
    so_far ∙ step_other before at (drop at bs) a n b (arg_at-is bs at ∙ h) (get_or-drop at bs n 0 ∙ byte) no_comma no_close_mark

pub read_full : (bs : List ℕ) (before : List Arg) (at : ℕ) → ReadSoFar bs before at → MOST_ARGS ≤ length before → args_front bs ≡ None
read_full bs before at so_far full = so_far ∙ args_from-full before at (drop at bs) full

-- ---- the arguments that the reader keeps

pub map-push : (new old : List ArgRef) (x : ArgRef) → new ≡ old ++ x ∷ [] → map arg_of new ≡ map arg_of old ++ arg_of x ∷ []
map-push new old x e = ap (map arg_of) e ∙ map-append arg_of old (x ∷ [])

pub names-push : (new old : List ArgRef) (x : ArgRef) → new ≡ old ++ x ∷ [] → list_all is_argument (map arg_of old) ≡ true → is_argument (arg_of x) ≡ true →
    list_all is_argument (map arg_of new) ≡ true
names-push new old x e h k =
    ap (list_all is_argument) (map-push new old x e) ∙ list_all-append is_argument (map arg_of old) (arg_of x ∷ []) ∙ and_from _ _ h (and_from _ _ k refl)

-- an argument at a place ends within the text
pub place-within : (bs : List ℕ) (at n : ℕ) → at ≤ length bs → n ≤ length (take (length bs - at) (drop at bs)) → at + n ≤ length bs
place-within bs at n within h =
    let l = length-drop at bs in
    let t = ap length (take_rest bs at) in
    omega arith
