-- Where two texts leave each other: the line ends in what they have in common, from the front on.
use Rattle.std.proofs.Common.{◌≡◌, ℕ, suc, ◌+◌, ◌<◌, ◌≤◌, Bool, true, false, cond, List, [], ◌∷◌, length, take, drop, get_or, refl, sym, ap, ap₂, ◌∙◌, ◌≢◌, ⊎_elim, arith, length-drop, length-take-le}
use Rattle.std.specs.Prelude.{◌==◌, nat_eq, filter, min}
use Rattle.std.specs.List.{common_prefix_len}
use Rattle.std.proofs.lemmas.Bool.{cases_lt, cond-true, cond-false, eq-eqb, ne_eqb}
use Rattle.std.proofs.lemmas.List.{drop_more}
use Rattle.std.proofs.lemmas.List.Sums.{common_prefix_len-le}
use Rattle.ec_commands.specs.Lines.{line_feed}
use Rattle.ec_cert.specs.Verdicts.{bad_line, common_prefix}

-- how many line ends two texts have in common
abbrev pub common_ends : List ℕ → List ℕ → ℕ
common_ends a b = length (filter (λ (x : ℕ). x == line_feed) (common_prefix a b))

-- the line at which they leave each other is one more
pub bad_line-ends : (certificate label : List ℕ) → bad_line certificate label ≡ 1 + common_ends certificate label
unfolding bad_line
bad_line-ends certificate label = refl

-- a line end in front
one_more : (ends : Bool) (x : ℕ) (xs : List ℕ) → length (cond ends (x ∷ xs) xs) ≡ cond ends 1 0 + length xs
one_more true x xs = omega arith
one_more false x xs = omega arith

-- the same byte in front of both
pub common_ends-same : (x y : ℕ) (xs ys : List ℕ) → x ≡ y → common_ends (x ∷ xs) (y ∷ ys) ≡ cond (x == line_feed) 1 0 + common_ends xs ys
common_ends-same x y xs ys same =
    let n = common_prefix_len nat_eq xs ys in
    let more : 1 + n ≡ suc n = omega arith in
    ap (λ (k : ℕ). length (filter (λ (b : ℕ). b == line_feed) (take k (x ∷ xs)))) (cond-true (nat_eq x y) (1 + n) 0 (eq-eqb x y same) ∙ more)
    ∙ one_more (x == line_feed) x (filter (λ (b : ℕ). b == line_feed) (take n xs))

-- another byte in front of each
pub common_ends-other : (x y : ℕ) (xs ys : List ℕ) → nat_eq x y ≡ false → common_ends (x ∷ xs) (y ∷ ys) ≡ 0
common_ends-other x y xs ys other =
    ap (λ (k : ℕ). length (filter (λ (b : ℕ). b == line_feed) (take k (x ∷ xs)))) (cond-false (nat_eq x y) (1 + common_prefix_len nat_eq xs ys) 0 other)

-- one of them is at its end
pub common_ends-left : (ys : List ℕ) → common_ends [] ys ≡ 0
common_ends-left ys = refl

pub common_ends-right : (xs : List ℕ) → common_ends xs [] ≡ 0
common_ends-right [] = refl
common_ends-right (x ∷ xs) = refl

-- ---- at a place of both

-- the same byte stands there
pub common_ends-step : (a b : List ℕ) (i x y : ℕ) → i < length a → i < length b → x ≡ get_or a i 0 → y ≡ get_or b i 0 → x ≡ y
    → common_ends (drop i a) (drop i b) ≡ cond (x == line_feed) 1 0 + common_ends (drop (i + 1) a) (drop (i + 1) b)
common_ends-step a b i x y within also is are same =
    ap₂ common_ends (drop_more a i 0 within) (drop_more b i 0 also)
    ∙ common_ends-same (get_or a i 0) (get_or b i 0) (drop (i + 1) a) (drop (i + 1) b) (sym is ∙ same ∙ are)
    ∙ ap (λ (n : ℕ). cond (n == line_feed) 1 0 + common_ends (drop (i + 1) a) (drop (i + 1) b)) (sym is)

-- other bytes stand there
pub common_ends-stop : (a b : List ℕ) (i x y : ℕ) → i < length a → i < length b → x ≡ get_or a i 0 → y ≡ get_or b i 0 → x ≢ y → common_ends (drop i a) (drop i b) ≡ 0
common_ends-stop a b i x y within also is are other =
    ap₂ common_ends (drop_more a i 0 within) (drop_more b i 0 also)
    ∙ common_ends-other (get_or a i 0) (get_or b i 0) (drop (i + 1) a) (drop (i + 1) b) (ne_eqb _ _ (λ same. other (is ∙ same ∙ sym are)))

-- nothing is left of one of them
none_left : (xs ys : List ℕ) → length xs ≡ 0 → common_ends xs ys ≡ 0
none_left [] ys none = refl
none_left (x ∷ xs) ys none = absurd (omega arith)

none_right : (xs ys : List ℕ) → length ys ≡ 0 → common_ends xs ys ≡ 0
none_right xs [] none = common_ends-right xs
none_right xs (y ∷ ys) none = absurd (omega arith)

pub common_ends-end : (a b : List ℕ) (i : ℕ) → i ≡ min (length a) (length b) → common_ends (drop i a) (drop i b) ≡ 0
common_ends-end a b i is =
    ⊎_elim (λ less. none_left (drop i a) (drop i b) (omega (arith, length-drop i a))) (λ more. none_right (drop i a) (drop i b) (omega (arith, length-drop i b)))
    (cases_lt (length a) (length b))

-- ---- in a count of lines

-- the line where nothing more is in common
pub at_stop : (line rest all : ℕ) → rest ≡ 0 → line + rest ≡ 1 + all → line ≡ 1 + all
at_stop line rest all none is = omega arith

-- behind a byte
pub at_more : (line more rest all ended ends : ℕ) → more ≡ ends + rest → ended ≡ ends → line + more ≡ 1 + all → line + ended + rest ≡ 1 + all
at_more line more rest all ended ends step same is = omega arith

-- no more line ends than bytes
filtered_le : (xs : List ℕ) → length (filter (λ (x : ℕ). x == line_feed) xs) ≤ length xs
filtered_le [] = omega arith
filtered_le (x ∷ xs) = one_le (x == line_feed) (filter (λ (b : ℕ). b == line_feed) xs) (filtered_le xs)
  where
    one_le : (ends : Bool) (kept : List ℕ) → length kept ≤ length xs → length (cond ends (x ∷ kept) kept) ≤ length (x ∷ xs)
    one_le true kept le = omega arith
    one_le false kept le = omega arith

pub common_ends-le : (a b : List ℕ) → common_ends a b ≤ length a
common_ends-le a b =
    let shared = (common_prefix_len-le nat_eq a b).0 in
    let taken = length-take-le (common_prefix_len nat_eq a b) a shared in
    let kept = filtered_le (common_prefix a b) in
    omega (arith, shared, taken, kept)

-- so a line's number is small where the text is
pub small_line : (line rest all long : ℕ) → line + rest ≡ 1 + all → all ≤ long → long ≤ 67108864 → line ≤ 67108865
small_line line rest all long is le few = omega arith
