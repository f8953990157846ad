-- Sums over lists with the same members, each once; and what stands at a place of lists joined and cut.
use Rattle.std.proofs.Common.{◌≡◌, ℕ, ◌+◌, zero, suc, ◌<◌, List, [], ◌∷◌, ◌++◌, length, take, Some, refl, sym, ap, subst, ◌∙◌, ◌⊎◌, inl, inr, ⊎_elim, arith}
use Rattle.std.specs.Prelude.{slice_get}
use Rattle.std.specs.List.{sum_by}
use Rattle.std.proofs.lemmas.List.Sums.{sum_by-cons}
use Rattle.std.proofs.lemmas.Option.{none-some}
use Rattle.ec_axioms.proofs.Members.{IsMember, IsPairwise}
use Rattle.ec_changes.proofs.JoinedMembers.{empty_from_members}

-- ---- a member between two parts

record IsSplit {X : Type 0} (xs : List X) (x : X) : Type 0 where
  before : List X
  behind : List X
  parts : xs ≡ before ++ x ∷ behind

split-member : {X : Type 0} (xs : List X) (x : X) → IsMember xs x → IsSplit xs x
split-member [] x member = absurd member
split-member (y ∷ xs) x (inl same) = record { before = []; behind = xs; parts = ap (λ z. z ∷ xs) same }
split-member (y ∷ xs) x (inr later) =
    let split = split-member xs x later in record { before = y ∷ split.before; behind = split.behind; parts = ap (λ zs. y ∷ zs) split.parts }

-- what is a member with it is it, or is a member without it
member-less : {X : Type 0} (before : List X) (x : X) (behind : List X) (z : X) → IsMember (before ++ x ∷ behind) z → (x ≡ z) ⊎ IsMember (before ++ behind) z
member-less [] x behind z (inl same) = inl same
member-less [] x behind z (inr later) = inr later
member-less (y ∷ before) x behind z (inl same) = inr (inl same)
member-less (y ∷ before) x behind z (inr later) = ⊎_elim (λ same. inl same) (λ other. inr (inr other)) (member-less before x behind z later)

member-more : {X : Type 0} (before : List X) (x : X) (behind : List X) (z : X) → IsMember (before ++ behind) z → IsMember (before ++ x ∷ behind) z
member-more [] x behind z member = inr member
member-more (y ∷ before) x behind z (inl same) = inl same
member-more (y ∷ before) x behind z (inr later) = inr (member-more before x behind z later)

member-between : {X : Type 0} (before : List X) (x : X) (behind : List X) → IsMember (before ++ x ∷ behind) x
member-between [] x behind = inl refl
member-between (y ∷ before) x behind = inr (member-between before x behind)

-- members stand there once
abbrev pub AreApart : {X : Type 0} → List X → Type 0
AreApart xs = IsPairwise (λ a b. a ≡ b → ⊥) xs

apart-less : {X : Type 0} (before : List X) (x : X) (behind : List X) → AreApart (before ++ x ∷ behind) → AreApart (before ++ behind)
apart-less [] x behind pairs = pairs.1
apart-less (y ∷ before) x behind pairs = (λ z member. pairs.0 z (member-more before x behind z member), apart-less before x behind pairs.1)

apart-missing : {X : Type 0} (before : List X) (x : X) (behind : List X) → AreApart (before ++ x ∷ behind) → IsMember (before ++ behind) x → ⊥
apart-missing [] x behind pairs member = pairs.0 x member refl
apart-missing (y ∷ before) x behind pairs (inl same) = pairs.0 x (member-between before x behind) same
apart-missing (y ∷ before) x behind pairs (inr later) = apart-missing before x behind pairs.1 later

sum-between : {X : Type 0} (f : X → ℕ) (before : List X) (x : X) (behind : List X) → sum_by f (before ++ x ∷ behind) ≡ f x + sum_by f (before ++ behind)
sum-between f [] x behind = sum_by-cons f x behind
sum-between f (y ∷ before) x behind =
    let rest = sum-between f before x behind in omega (arith, sum_by-cons f y (before ++ x ∷ behind), sum_by-cons f y (before ++ behind))

-- lists with the same members, each once, have the same sum
pub sum-same_members : {X : Type 0} (f : X → ℕ) (xs ys : List X) → AreApart xs → AreApart ys → ((x : X) → IsMember xs x → IsMember ys x) → ((x : X) → IsMember ys x → IsMember xs x)
    → sum_by f xs ≡ sum_by f ys
sum-same_members f [] ys once_xs once_ys into back = ap (sum_by f) (sym (empty_from_members ys back))
sum-same_members f (x ∷ xs) ys once_xs once_ys into back =
    let split = split-member ys x (into x (inl refl)) in
    let whole : AreApart (split.before ++ x ∷ split.behind) = subst (λ zs. AreApart zs) split.parts once_ys in
    let rest = sum-same_members f xs (split.before ++ split.behind) once_xs.1 (apart-less split.before x split.behind whole)
    (λ z member. ⊎_elim (λ same. absurd (once_xs.0 z member same)) (λ there. there)
    (member-less split.before x split.behind z (subst (λ zs. IsMember zs z) split.parts (into z (inr member)))))
    (λ z member. ⊎_elim (λ same. absurd (apart-missing split.before x split.behind whole (subst (IsMember (split.before ++ split.behind)) (sym same) member))) (λ there. there)
    (back z (subst (λ zs. IsMember zs z) (sym split.parts) (member-more split.before x split.behind z member)))) in
    sum_by-cons f x xs ∙ ap (λ n. f x + n) rest ∙ sym (sum-between f split.before x split.behind) ∙ ap (sum_by f) (sym split.parts)

-- ---- places

-- a place of two lists joined is one of the first, or one of the second behind it
pub slice_get-joined : {X : Type 0} (xs ys : List X) (i : ℕ) (x : X) → slice_get (xs ++ ys) i ≡ Some x
    → ((i < length xs) × (slice_get xs i ≡ Some x)) ⊎ ((j : ℕ) × (i ≡ length xs + j) × (slice_get ys j ≡ Some x))
slice_get-joined [] ys i x there = inr (i, omega arith, there)
slice_get-joined (y ∷ xs) ys zero x there = inl (omega arith, there)
slice_get-joined (y ∷ xs) ys (suc i) x there =
    ⊎_elim (λ left. let within = left.0 in inl (omega arith, left.1)) (λ right. let is = right.1 in inr (right.0, omega arith, right.2)) (slice_get-joined xs ys i x there)

pub slice_get-take : {X : Type 0} (n : ℕ) (xs : List X) (i : ℕ) (x : X) → i < n → slice_get xs i ≡ Some x → slice_get (take n xs) i ≡ Some x
slice_get-take zero xs i x within there = absurd (omega arith)
slice_get-take (suc n) [] i x within there = absurd (none-some x there)
slice_get-take (suc n) (y ∷ xs) zero x within there = there
slice_get-take (suc n) (y ∷ xs) (suc i) x within there = slice_get-take n xs i x (omega arith) there
