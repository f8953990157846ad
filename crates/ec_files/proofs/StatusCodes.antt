-- Exit statuses and their numbers, and shapes.
use Rattle.std.proofs.Common.{◌≡◌, ◌≤◌, ◌==◌, ◌⊎◌, ℕ, arith, List, Option, Some, None, IsSome, IsTrue, refl, sym, ap, subst, ◌∙◌, inl, inr, cond}
use Rattle.ec_outside.specs.Counts.{Rose}
use Rattle.ec_files.specs.declared.status.Status.{Status}
use Rattle.ec_files.specs.declared.status.Status.TheVariants as status
use Rattle.ec_files.specs.ExitStatus.{code_of, hands_on}
use Rattle.ec_files.specs.Words.{Shape, certify, check_theory, replay_lines, serve_theory, soak_lines}

-- ---- statuses

-- the status of a number
abbrev of_code : ℕ → Status
of_code code =
    cond (code == 0) status.Done
    (cond (code == 2) status.NoShape
    (cond (code == 3) status.BadTheory
    (cond (code == 4) status.ReadFault
    (cond (code == 5) status.WriteFault
    (cond (code == 6) status.NoMemory
    (cond (code == 7) status.FolderFault
    (cond (code == 8) status.LimitReached
    (cond (code == 9) status.LongLines status.BadEvents))))))))

of_code-code : (s : Status) → of_code (code_of s) ≡ s
unfolding code_of
of_code-code status.Done = refl
of_code-code status.NoShape = refl
of_code-code status.BadTheory = refl
of_code-code status.ReadFault = refl
of_code-code status.WriteFault = refl
of_code-code status.NoMemory = refl
of_code-code status.FolderFault = refl
of_code-code status.LimitReached = refl
of_code-code status.LongLines = refl
of_code-code status.BadEvents = refl

-- statuses with one number are the same
pub status_same : {code : ℕ} {s : Status} (t : Status) → code ≡ code_of s → code ≡ code_of t → s ≡ t
status_same {code} {s} t one other = sym (of_code-code s) ∙ ap of_code (sym one ∙ other) ∙ of_code-code t

-- one of two statuses has one of their numbers
pub either_code : {code : ℕ} {s : Status} (a b : Status) → code ≡ code_of s → (s ≡ a) ⊎ (s ≡ b) → (code ≡ code_of a) ⊎ (code ≡ code_of b)
either_code a b is (inl one) = inl (is ∙ ap code_of one)
either_code a b is (inr other) = inr (is ∙ ap code_of other)

-- what is told by a status is told by its number
pub told_code : {Quiet : Type 0} {code : ℕ} {s : Status} (t : Status) → code ≡ code_of s → (s ≡ t) ⊎ Quiet → (code ≡ code_of t) ⊎ Quiet
told_code t is (inl told) = inl (is ∙ ap code_of told)
told_code t is (inr quiet) = inr quiet

-- a run with one of these numbers has handed on what it wrote
pub hands_on-code : {code : ℕ} (s : Status) → code ≡ code_of s → (code ≡ 0) ⊎ ((code ≡ 4) ⊎ (code ≡ 8)) → IsTrue (hands_on s)
unfolding code_of hands_on
hands_on-code s is (inl none) = subst (λ (t : Status). IsTrue (hands_on t)) (status_same {s = status.Done} s none is) refl
hands_on-code s is (inr (inl four)) = subst (λ (t : Status). IsTrue (hands_on t)) (status_same {s = status.ReadFault} s four is) refl
hands_on-code s is (inr (inr eight)) = subst (λ (t : Status). IsTrue (hands_on t)) (status_same {s = status.LimitReached} s eight is) refl

-- 5 is the number of a write that failed alone
pub fault_status : {code : ℕ} (s : Status) → code ≡ code_of s → code ≡ 5 → s ≡ status.WriteFault
unfolding code_of
fault_status s is five = status_same {s = s} status.WriteFault is five

-- ---- shapes

pub shape_same : {a b : Shape} {shape : Option Shape} → shape ≡ Some a → shape ≡ Some b → a ≡ b
shape_same one other = let both = sym one ∙ other in cc

pub shape_is_there : {a : Shape} {shape : Option Shape} → shape ≡ Some a → shape ≡ None → ⊥
shape_is_there one none = let both = sym one ∙ none in cc

-- a shape that asks for no generated lines
abbrev pub IsNoSoak : Shape → Type 0
IsNoSoak (check_theory name) = Unit {0}
IsNoSoak (serve_theory name) = Unit {0}
IsNoSoak (replay_lines name lines) = Unit {0}
IsNoSoak (soak_lines lines seed) = ⊥
IsNoSoak (certify claim) = Unit {0}

-- words of such a shape ask for none
pub no_soak : {a : Shape} {shape : Option Shape} {lines seed : ℕ} → shape ≡ Some a → IsNoSoak a → shape ≡ Some (soak_lines lines seed) → ⊥
no_soak one is other = subst (λ (s : Shape). IsNoSoak s) (shape_same one other) is

-- a shape that asks for no input
abbrev pub IsNoServe : Shape → Type 0
IsNoServe (check_theory name) = Unit {0}
IsNoServe (serve_theory name) = ⊥
IsNoServe (replay_lines name lines) = Unit {0}
IsNoServe (soak_lines lines seed) = Unit {0}
IsNoServe (certify claim) = Unit {0}

-- words of such a shape ask for none
pub no_serve : {a : Shape} {shape : Option Shape} {name : List ℕ} → shape ≡ Some a → IsNoServe a → shape ≡ Some (serve_theory name) → ⊥
no_serve one is other = subst (λ (s : Shape). IsNoServe s) (shape_same one other) is

-- ---- either of two

pub first_of_two : {A B : Type 0} → A ⊎ B → (B → ⊥) → A
first_of_two (inl a) never = a
first_of_two (inr b) never = absurd (never b)

pub by_either : {A B C : Type 0} → A ⊎ B → (A → C) → (B → C) → C
by_either (inl a) one other = one a
by_either (inr b) one other = other b

pub second_of_two : {A B : Type 0} → A ⊎ B → (A → ⊥) → B
second_of_two (inl a) never = absurd (never a)
second_of_two (inr b) never = b

-- where no fault was counted at first, and later none that is not told, none was counted that is not told
pub quiet-then : {Told : Type 0} {before middle after : ℕ} → middle ≡ before → Told ⊎ (after ≡ middle) → Told ⊎ (after ≡ before)
quiet-then same (inl told) = inl told
quiet-then same (inr quiet) = inr (quiet ∙ same)

-- a count that stayed and then rose, did not fall or stayed
pub Rose-since : {before middle after : ℕ} → middle ≡ before → Rose middle after → Rose before after
Rose-since {after = after} same rose = subst (λ (n : ℕ). Rose n after) same rose

pub counted-since : {before middle after : ℕ} → middle ≡ before → middle ≤ after → before ≤ after
counted-since {after = after} same counted = subst (λ (n : ℕ). n ≤ after) same counted

pub counted-same : {before after : ℕ} → after ≡ before → before ≤ after
counted-same same = omega (arith, same)

-- an option that has a value
pub some_of : {A : Type 0} (option : Option A) → IsSome option → (a : A) × (option ≡ Some a)
some_of (Some a) is = (a, refl)
some_of None is = cc
