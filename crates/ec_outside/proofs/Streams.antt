-- How takings and appendings follow one another, and what a run of writes leaves.
use Rattle.std.proofs.Common.{◌≡◌, ℕ, ◌≤◌, List, [], ◌++◌, take, drop, length, ◌-◌, Option, refl, sym, ◌∙◌, ap, subst, append_assoc, append-nil, take-append-drop, arith, ◌+◌, Some}
use Rattle.std.proofs.lemmas.List.{take_rest, take_at, drop-drop, length-take-le, length-drop, take_all}
use Rattle.std.proofs.Math.Seq.{take-add}
use Rattle.ec_outside.specs.Streams.{Appended, AppendedPart, NothingAppended, Took}

-- bytes taken, and then more
pub Took-then : {a b c : Option (List ℕ)} {p q : List ℕ} → Took a b p → Took b c q → Took a c (p ++ q)
Took-then {p = p} {q = q} first second = record {
  rest = λ text told.
      let x = first.rest text told in
      let y = second.rest x.0 x.1 in
      (y.0, y.1, x.2 ∙ ap (λ more. p ++ more) y.2 ∙ sym (append_assoc p q y.0));
}

-- nothing was taken where the same is left
pub Took-nil : {a b : Option (List ℕ)} → b ≡ a → Took a b []
Took-nil same = record { rest = λ text told. (text, same ∙ told, refl) }

-- a told list loses what it begins with
pub Took-some : {before after bytes : List ℕ} → before ≡ bytes ++ after → Took (Some before) (Some after) bytes
Took-some {after = after} split = record { rest = λ text told. let same : _ ≡ text = cc in (after, refl, sym same ∙ split) }

-- what a read copies out of a list, and what it leaves
pub read_split : (items left copied back : List ℕ) (at count : ℕ) → left ≡ drop at items → copied ≡ take count left → count ≤ length left
    → left ≡ take count (copied ++ back) ++ drop (at + count) items
read_split items left copied back at count is_left is_copied within =
    let size : length copied ≡ count = ap length is_copied ∙ length-take-le count left within in
    sym (take-append-drop count left)
    ∙ ap (λ all. all ++ drop count left) (sym is_copied ∙ sym (take_at copied back count size))
    ∙ ap (λ all. take count (copied ++ back) ++ all) (ap (λ all. drop count all) is_left ∙ drop-drop count at items)

module _ {S : Type 0} {stands : S → List ℕ → Type 0} where
  -- bytes appended, and then more
  pub Appended-then : {a b c : S} {p q : List ℕ} → Appended stands a b p → Appended stands b c q → Appended stands a c (p ++ q)
  Appended-then {c = c} {p = p} {q = q} first second = record {
    follows = λ text stood. subst (λ (all : List ℕ). stands c all) (append_assoc text p q) (second.follows (text ++ p) (first.follows text stood));
  }

  pub Appended-then-NothingAppended : {a b c : S} {p : List ℕ} → Appended stands a b p → NothingAppended stands b c → Appended stands a c p
  Appended-then-NothingAppended {p = p} first second = record { follows = λ text stood. second.same (text ++ p) (first.follows text stood) }

  pub NothingAppended-then-Appended : {a b c : S} {p : List ℕ} → NothingAppended stands a b → Appended stands b c p → Appended stands a c p
  NothingAppended-then-Appended first second = record { follows = λ text stood. second.follows text (first.same text stood) }

  pub NothingAppended-then : {a b c : S} → NothingAppended stands a b → NothingAppended stands b c → NothingAppended stands a c
  NothingAppended-then first second = record { same = λ text stood. second.same text (first.same text stood) }

  pub NothingAppended-refl : (a : S) → NothingAppended stands a a
  NothingAppended-refl a = record { same = λ text stood. stood }

  -- what is kept has nothing appended, and the other way round
  pub Appended-nil : {a b : S} → NothingAppended stands a b → Appended stands a b []
  Appended-nil {b = b} kept = record {
    follows = λ text stood. subst (λ (all : List ℕ). stands b all) (sym (append-nil text)) (kept.same text stood);
  }

  pub NothingAppended-nil : {a b : S} → Appended stands a b [] → NothingAppended stands a b
  NothingAppended-nil {b = b} appended = record {
    same = λ text stood. subst (λ (all : List ℕ). stands b all) (append-nil text) (appended.follows text stood);
  }

  -- all of the bytes are a first part of them, and so is none of them
  pub AppendedPart-all : {a b : S} {p : List ℕ} → Appended stands a b p → AppendedPart stands a b p
  AppendedPart-all {p = p} appended = record { part = p; missing = []; whole = sym (append-nil p); appended = appended }

  pub AppendedPart-none : {a b : S} (p : List ℕ) → NothingAppended stands a b → AppendedPart stands a b p
  AppendedPart-none p kept = record { part = []; missing = p; whole = refl; appended = Appended-nil kept }

  -- bytes appended, and then a part of more
  pub Appended-then-part : {a b c : S} {p q : List ℕ} → Appended stands a b p → AppendedPart stands b c q → AppendedPart stands a c (p ++ q)
  Appended-then-part {p = p} first second = record {
    part = p ++ second.part;
    missing = second.missing;
    whole = ap (λ all. p ++ all) second.whole ∙ sym (append_assoc p second.part second.missing);
    appended = Appended-then first second.appended;
  }

  -- a part of bytes is a part of what they begin
  pub AppendedPart-longer : {a b : S} {p : List ℕ} → AppendedPart stands a b p → (q : List ℕ) → AppendedPart stands a b (p ++ q)
  AppendedPart-longer {p = p} some q = record {
    part = some.part;
    missing = some.missing ++ q;
    whole = ap (λ all. all ++ q) some.whole ∙ append_assoc some.part some.missing q;
    appended = some.appended;
  }

  pub AppendedPart-then-NothingAppended : {a b c : S} {p : List ℕ} → AppendedPart stands a b p → NothingAppended stands b c → AppendedPart stands a c p
  AppendedPart-then-NothingAppended some kept = record {
    part = some.part;
    missing = some.missing;
    whole = some.whole;
    appended = Appended-then-NothingAppended some.appended kept;
  }

-- the first of the bytes have been appended, as many as the count says, and no fault was counted
pub record WrittenSoFar {S : Type 0} (stands : S → List ℕ → Type 0) (faults : S → ℕ) (before after : S) (bytes : List ℕ) (count : ℕ) : Type 0 where
  pub within : count ≤ length bytes
  pub appended : Appended stands before after (take count bytes)
  pub quiet : faults after ≡ faults before

-- one more write
pub WrittenSoFar-next : {S : Type 0} {stands : S → List ℕ → Type 0} {faults : S → ℕ} {before middle after : S} {bytes : List ℕ} {count : ℕ}
    → WrittenSoFar stands faults before middle bytes count
    → (taken : ℕ) → taken ≤ length (take (length bytes - count) (drop count bytes))
    → Appended stands middle after (take taken (take (length bytes - count) (drop count bytes)))
    → faults after ≡ faults middle
    → WrittenSoFar stands faults before after bytes (count + taken)
WrittenSoFar-next {stands = stands} {before = before} {middle = middle} {after = after} {bytes = bytes} {count = count} so_far taken fits appended quiet =
    let rest : take (length bytes - count) (drop count bytes) ≡ drop count bytes = take_rest bytes count in
    let next : Appended stands before after (take count bytes ++ take taken (drop count bytes)) =
    Appended-then so_far.appended (subst (λ (all : List ℕ). Appended stands middle after (take taken all)) rest appended) in
    record {
      within = omega (arith, so_far.within, fits, ap length rest, length-drop count bytes);
      appended = subst (λ (all : List ℕ). Appended stands before after all) (sym (take-add count taken bytes)) next;
      quiet = quiet ∙ so_far.quiet;
    }

-- all or a part, as the count says
pub Appended-counted : {S : Type 0} {stands : S → List ℕ → Type 0} {before after : S} {bytes : List ℕ} {count : ℕ}
    → Appended stands before after (take count bytes) → count ≡ length bytes → Appended stands before after bytes
Appended-counted {stands = stands} {before = before} {after = after} {bytes = bytes} appended all =
    subst (λ (some : List ℕ). Appended stands before after some) (ap (λ n. take n bytes) all ∙ take_all (length bytes) bytes (omega arith)) appended

pub AppendedPart-counted : {S : Type 0} {stands : S → List ℕ → Type 0} {before after : S} (bytes : List ℕ) (count : ℕ)
    → Appended stands before after (take count bytes) → AppendedPart stands before after bytes
AppendedPart-counted bytes count appended =
    record { part = take count bytes; missing = drop count bytes; whole = sym (take-append-drop count bytes); appended = appended }
