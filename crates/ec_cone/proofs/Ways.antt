-- Ways over readings. No way needs more readings than there are, so what so many rounds reach is closed under readings; and it
-- lies in every set that is.
use Rattle.std.proofs.Common.{◌≡◌, ◌⊎◌, ℕ, zero, suc, ◌<◌, Bool, not, ◌&&◌, List, [], ◌∷◌, length, filter, IsTrue, IsFalse, refl, sym, subst, ◌∙◌, inl, inr, ⊎_elim, arith}
use Rattle.std.specs.List.{list_any}
use Rattle.std.proofs.lemmas.Bool.{or_left, or_right, or_cases, and_parts, and_from, cases_Bool, false≢true, not-true}
use Rattle.ec_lists.proofs.Filters.{length-filter_le}
use Rattle.ec_axioms.proofs.Members.{IsMember, IsMember-filter, list_any-member, member-list_any, list_any-false, length-filter_fewer}
use Rattle.ec_cone.specs.Forms.{Form, form_eq, Reading}
use Rattle.ec_cone.specs.Cone.{reaches}
use Rattle.ec_cone.proofs.FormEquality.{form_eq-Decides}

-- a list with a member has some length
some_length : {X : Type 0} (xs : List X) (x : X) → IsMember xs x → 0 < length xs
some_length [] x member = absurd member
some_length (y ∷ xs) x member = omega arith

-- a test that passes not where another does fails with it
both_or_second : (a b : Bool) → IsFalse (a && not b) → IsTrue a → IsTrue b
both_or_second a b none first = grind arith

module _ (readings : List Reading) (start : Form) where
  -- ---- one round

  -- one round more reaches no less
  reaches-more : (n : ℕ) (form : Form) → IsTrue (reaches readings start n form) → IsTrue (reaches readings start (suc n) form)
  unfolding reaches
  reaches-more n form there = or_left _ _ there

  -- and what a reading leads to
  reaches-on : (n : ℕ) (r : Reading) → IsMember readings r → IsTrue (reaches readings start n r.from) → IsTrue (reaches readings start (suc n) r.to)
  unfolding reaches
  reaches-on n r member there =
      or_right _ _
      (member-list_any (λ (s : Reading). reaches readings start n s.from && form_eq s.to r.to) readings r member
      (and_from _ _ there ((form_eq-Decides r.to r.to).1 refl)))

  -- and nothing else
  abbrev IsLedTo : ℕ → Form → Type 0
  IsLedTo n form = (r : Reading) × IsMember readings r × IsTrue (reaches readings start n r.from) × (r.to ≡ form)

  reaches-cases : (n : ℕ) (form : Form) → IsTrue (reaches readings start (suc n) form) → IsTrue (reaches readings start n form) ⊎ IsLedTo n form
  unfolding reaches
  reaches-cases n form there =
      ⊎_elim inl
      (λ led.
      let found = list_any-member (λ (s : Reading). reaches readings start n s.from && form_eq s.to form) readings led in
      let parts = and_parts _ _ found.2 in
      inr (found.0, found.1, parts.0, (form_eq-Decides found.0.to form).0 parts.1))
      (or_cases _ _ there)

  -- ---- rounds that reach nothing new

  -- the round behind n reaches nothing new
  abbrev IsSettled : ℕ → Type 0
  IsSettled n = (form : Form) → IsTrue (reaches readings start (suc n) form) → IsTrue (reaches readings start n form)

  -- no reading begins at what it reaches anew
  abbrev NoneBegins : ℕ → Type 0
  NoneBegins n = (r : Reading) → IsMember readings r → IsTrue (reaches readings start (suc n) r.from) → IsTrue (reaches readings start n r.from)

  -- then the next one reaches nothing new
  IsSettled-next : (n : ℕ) → NoneBegins n → IsSettled (suc n)
  IsSettled-next n none form there =
      ⊎_elim (λ before. before)
      (λ led. subst (λ f. IsTrue (reaches readings start (suc n) f)) led.3 (reaches-on n led.0 led.1 (none led.0 led.1 led.2)))
      (reaches-cases (suc n) form there)

  -- how many readings begin at what n rounds reach
  abbrev begun : ℕ → ℕ
  begun n = length (filter (λ (r : Reading). reaches readings start n r.from) readings)

  -- Each round reaches the begin of one reading more, or the next one reaches nothing new.
  grows : (n : ℕ) → (n < begun n) ⊎ IsSettled n
  grows zero =
      let begins : Reading → Bool = λ r. reaches readings start zero r.from in
      ⊎_elim
      (λ some.
      let found = list_any-member begins readings some in
      inl (some_length (filter begins readings) found.0 (IsMember-filter begins readings found.0 found.1 found.2)))
      (λ none. inr (λ form there.
      ⊎_elim (λ here. here)
      (λ led. absurd (false≢true (sym (list_any-false begins readings led.0 none led.1) ∙ led.2)))
      (reaches-cases zero form there)))
      (cases_Bool (list_any begins readings))
  grows (suc n) =
      let before : Reading → Bool = λ r. reaches readings start n r.from in
      let begins : Reading → Bool = λ r. reaches readings start (suc n) r.from in
      let anew : Reading → Bool = λ r. begins r && not (before r) in
      ⊎_elim
      (λ more. ⊎_elim
      (λ some.
      let found = list_any-member anew readings some in
      inl (one_more found.0 found.1 found.2 more))
      (λ none. inr (IsSettled-next n (λ r member there. both_or_second (begins r) (before r) (list_any-false anew readings r none member) there)))
      (cases_Bool (list_any anew readings)))
      (λ settled. inr (IsSettled-next n (λ r member there. settled r.from there)))
      (grows n)
    where
      one_more : (r : Reading) → IsMember readings r → IsTrue (reaches readings start (suc n) r.from && not (reaches readings start n r.from))
          → n < begun n → suc n < begun (suc n)
      one_more r member anew more =
          let parts = and_parts _ _ anew in
          let fewer = length-filter_fewer (λ (s : Reading). reaches readings start (suc n) s.from) (λ (s : Reading). reaches readings start n s.from) readings r
          (λ s there. reaches-more n s.from there) member parts.0 (not-true _ parts.1) in
          omega (arith, fewer, more)

  -- ---- as many rounds as there are readings

  -- they reach what each reading leads to from there
  pub reaches-closed : (r : Reading) → IsMember readings r → IsTrue (reaches readings start (length readings) r.from) → IsTrue (reaches readings start (length readings) r.to)
  reaches-closed r member there =
      ⊎_elim
      (λ many. absurd (too_many many))
      (λ settled. settled r.to (reaches-on (length readings) r member there))
      (grows (length readings))
    where
      too_many : length readings < begun (length readings) → ⊥
      too_many many = let most = length-filter_le (λ (s : Reading). reaches readings start (length readings) s.from) readings in omega (arith, many, most)

  -- they reach the start
  pub reaches-start : (n : ℕ) → IsTrue (reaches readings start n start)
  unfolding reaches
  reaches-start zero = (form_eq-Decides start start).1 refl
  reaches-start (suc n) = or_left _ _ (reaches-start n)

  -- and nothing that is not in each set that is closed and has the start
  pub reaches-least : (inside : Form → Bool) → IsTrue (inside start)
      → ((r : Reading) → IsMember readings r → IsTrue (inside r.from) → IsTrue (inside r.to))
      → (n : ℕ) (form : Form) → IsTrue (reaches readings start n form) → IsTrue (inside form)
  unfolding reaches
  reaches-least inside first closed zero form there = subst (λ f. IsTrue (inside f)) ((form_eq-Decides start form).0 there) first
  reaches-least inside first closed (suc n) form there =
      ⊎_elim (λ before. reaches-least inside first closed n form before)
      (λ led. subst (λ f. IsTrue (inside f)) led.3 (closed led.0 led.1 (reaches-least inside first closed n led.0.from led.2)))
      (reaches-cases n form there)
