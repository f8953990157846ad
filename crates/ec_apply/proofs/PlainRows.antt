-- Rows of marks as the calculus has them: what stands in them at each instant, and that they are known by it.
use Rattle.std.proofs.Common.{◌≡◌, ℕ, ◌+◌, ℤ, nat_lt, Bool, true, false, cond, List, [], ◌∷◌, map, filter, find, Option, Some, None, option_map, IsTrue, IsFalse, refl, sym, ap, subst, ◌∙◌, inl, inr, ⊎_elim, arith}
use Rattle.std.specs.Prelude.{int_lt}
use Rattle.std.specs.Ordering.{int_eq}
use Rattle.std.proofs.lemmas.Bool.{cases_Bool, false≢true}
use Rattle.std.proofs.lemmas.Int.{ints}
use Rattle.ec_lists.proofs.Finds.{find-map}
use Rattle.ec_lists.proofs.Integers.{int_eq-is, int_eq-same}
use Rattle.ec_terms.specs.declared.ground.Ground.{Ground}
use Rattle.ec_terms.specs.declared.theory.Theory.{Theory}
use Rattle.ec_axioms.specs.Calculus.{PlainEvent, instants_of}
use Rattle.ec_axioms.specs.Changes.{is_history}
use Rattle.ec_axioms.specs.Marks.{PlainMark, is_marked, mark_at, mark_initiates, marks_of}
use Rattle.ec_axioms.proofs.HistoryMarks.{AreAllMarked-mark_at, instant-mark_at}
use Rattle.ec_axioms.proofs.Instants.{IsPairwise-from_ascending, is_ascending-instants_of}
use Rattle.ec_axioms.proofs.Members.{IsMember, IsMember-filter, IsMember-from_filter, IsMember-from_map, IsMember-map, IsPairwise, IsPairwise-filter, IsPairwise-map, IsPairwise-weaker, find-None, find-Some}
use Rattle.ec_axioms.proofs.MarkLaws.{is_marked-initiates}
use Rattle.ec_exclusive.specs.Forms.{breaks_by_initiation}
use Rattle.ec_rows.proofs.KnownByTimes.{by_time-ext}
use Rattle.ec_rows.proofs.OrderedPairs.{ascending-from_pairwise}
use Rattle.ec_parts.specs.Caches.{initiations_of, initiations_of_mark, kept_initiations}
use Rattle.ec_delta.specs.Ready.{initiation_at}

-- the plain mark at an instant, if there is one
abbrev pub plain_at : ℤ → List PlainMark → Option PlainMark
plain_at t marks = find (λ (mark : PlainMark). int_eq mark.instant t) marks

-- a mark, where it has a count
abbrev pub if_marked : PlainMark → Option PlainMark
if_marked mark = cond (is_marked mark) (Some mark) None

-- plain marks stand in the order of their instants
abbrev pub AreInOrder : List PlainMark → Type 0
AreInOrder marks = IsPairwise (λ (m n : PlainMark). IsTrue (int_lt m.instant n.instant)) marks

-- two rows in order with the same at each instant are one
pub plain_rows-ext : (xs ys : List PlainMark) → AreInOrder xs → AreInOrder ys → ((t : ℤ) → plain_at t xs ≡ plain_at t ys) → xs ≡ ys
plain_rows-ext xs ys order_xs order_ys same =
    by_time-ext (λ (t : ℤ). t) (λ (m : PlainMark). m.instant) xs ys (ascending-from_pairwise _ xs order_xs) (ascending-from_pairwise _ ys order_ys) same

-- ---- initiations

-- a mark is kept where it initiates
abbrev keep_initiating : Option PlainMark → Option PlainMark
keep_initiating None = None
keep_initiating (Some mark) = cond (mark_initiates mark) (Some mark) None

-- nothing stands at an instant that no mark has
nothing_at : (t : ℤ) (marks : List PlainMark) → ((x : PlainMark) → IsMember marks x → IsFalse (int_eq x.instant t)) → plain_at t marks ≡ None
nothing_at t [] none = refl
nothing_at t (m ∷ marks) none = ap (λ b. cond b (Some m) (plain_at t marks)) (none m (inl refl)) ∙ nothing_at t marks (λ x member. none x (inr member))

-- what stands at an instant among the marks that initiate
plain_at-initiating : (t : ℤ) (marks : List PlainMark) → AreInOrder marks → plain_at t (filter mark_initiates marks) ≡ keep_initiating (plain_at t marks)
plain_at-initiating t [] order = refl
plain_at-initiating t (m ∷ marks) order =
    let ih = plain_at-initiating t marks order.1 in
    ⊎_elim
    (λ here. ⊎_elim
    (λ starts. ap (λ b. plain_at t (cond b (m ∷ filter mark_initiates marks) (filter mark_initiates marks))) starts ∙ ap (λ b. cond b (Some m) (plain_at t (filter mark_initiates marks))) here
    ∙ sym (ap (λ b. keep_initiating (cond b (Some m) (plain_at t marks))) here ∙ ap (λ b. cond b (Some m) None) starts))
    (λ none. ap (λ b. plain_at t (cond b (m ∷ filter mark_initiates marks) (filter mark_initiates marks))) none
    ∙ nothing_at t (filter mark_initiates marks)
    (λ x member. later m.instant x.instant here (order.0 x (IsMember-from_filter mark_initiates marks x member).0))
    ∙ sym (ap (λ b. keep_initiating (cond b (Some m) (plain_at t marks))) here ∙ ap (λ b. cond b (Some m) None) none))
    (cases_Bool (mark_initiates m)))
    (λ elsewhere. ⊎_elim
    (λ starts. ap (λ b. plain_at t (cond b (m ∷ filter mark_initiates marks) (filter mark_initiates marks))) starts ∙ ap (λ b. cond b (Some m) (plain_at t (filter mark_initiates marks))) elsewhere
    ∙ ih ∙ sym (ap (λ b. keep_initiating (cond b (Some m) (plain_at t marks))) elsewhere))
    (λ none. ap (λ b. plain_at t (cond b (m ∷ filter mark_initiates marks) (filter mark_initiates marks))) none
    ∙ ih ∙ sym (ap (λ b. keep_initiating (cond b (Some m) (plain_at t marks))) elsewhere))
    (cases_Bool (mark_initiates m)))
    (cases_Bool (int_eq m.instant t))
  where
    later : (a b : ℤ) → int_eq a t ≡ true → int_lt a b ≡ true → int_eq b t ≡ false
    later a b here before = grind (arith, ints)

bare_marked : (n : ℕ) → nat_lt 0 (n + 0 + 0) ≡ nat_lt 0 n
bare_marked n = ap (nat_lt 0) (omega arith)

-- the initiations of a mark, where it has some
initiation_kept : (mark : PlainMark) (t : ℤ) → mark.instant ≡ t
    → option_map initiations_of_mark (keep_initiating (if_marked mark)) ≡ if_marked (record { instant = t; inits = mark.inits; terms = 0; clashes = 0 })
initiation_kept mark t placed =
    let bare : ℤ → PlainMark = λ u. record { instant = u; inits = mark.inits; terms = 0; clashes = 0 } in
    ⊎_elim
    (λ starts. ap (λ b. option_map initiations_of_mark (keep_initiating (cond b (Some mark) None))) (is_marked-initiates mark starts)
    ∙ ap (λ b. option_map initiations_of_mark (cond b (Some mark) None)) starts ∙ ap (λ u. Some (bare u)) placed
    ∙ sym (ap (λ b. cond b (Some (bare t)) None) (bare_marked mark.inits ∙ starts)))
    (λ none. dropped none (is_marked mark) ∙ sym (ap (λ b. cond b (Some (bare t)) None) (bare_marked mark.inits ∙ none)))
    (cases_Bool (mark_initiates mark))
  where
    dropped : mark_initiates mark ≡ false → (b : Bool) → option_map initiations_of_mark (keep_initiating (cond b (Some mark) None)) ≡ None
    dropped none true = ap (λ c. option_map initiations_of_mark (cond c (Some mark) None)) none
    dropped none false = refl

-- ---- the marks of a history

module _ (theory : Theory) (events : List PlainEvent) (p : Ground) (history : IsTrue (is_history events)) where
  pub AreInOrder-marks_of : AreInOrder (marks_of theory events p)
  unfolding marks_of
  AreInOrder-marks_of =
      IsPairwise-filter (λ (m n : PlainMark). IsTrue (int_lt m.instant n.instant)) is_marked (map (mark_at theory events p) (instants_of events))
      (IsPairwise-map (λ (m n : PlainMark). IsTrue (int_lt m.instant n.instant)) (mark_at theory events p) (instants_of events)
      (IsPairwise-weaker (λ s t. IsTrue (int_lt s t)) _ (instants_of events) (IsPairwise-from_ascending (instants_of events) (is_ascending-instants_of events history))
      (λ s t left right before.
      subst (λ u. IsTrue (int_lt u (mark_at theory events p t).instant)) (sym (instant-mark_at theory events p s))
      (subst (λ u. IsTrue (int_lt s u)) (sym (instant-mark_at theory events p t)) before))))

  -- a mark of the row is that at its instant, and has a count
  pub from_marks_of : (mark : PlainMark) → IsMember (marks_of theory events p) mark → (mark_at theory events p mark.instant ≡ mark) × IsTrue (is_marked mark)
  unfolding marks_of
  from_marks_of mark member =
      let kept = IsMember-from_filter is_marked (map (mark_at theory events p) (instants_of events)) mark member in
      let found = IsMember-from_map (mark_at theory events p) (instants_of events) mark kept.0 in
      let placed : found.0 ≡ mark.instant = sym (instant-mark_at theory events p found.0) ∙ ap (λ (m : PlainMark). m.instant) found.2 in
      (ap (mark_at theory events p) (sym placed) ∙ found.2, kept.1)

  -- and each that has a count stands in it
  in_marks_of : (t : ℤ) → IsTrue (is_marked (mark_at theory events p t)) → IsMember (marks_of theory events p) (mark_at theory events p t)
  unfolding marks_of
  in_marks_of t some =
      IsMember-filter is_marked (map (mark_at theory events p) (instants_of events)) (mark_at theory events p t)
      (IsMember-map (mark_at theory events p) (instants_of events) t (AreAllMarked-mark_at theory events p t some)) some

  -- what stands in the row at an instant is the mark there, where it has a count
  pub plain_at-marks_of : (t : ℤ) → plain_at t (marks_of theory events p) ≡ if_marked (mark_at theory events p t)
  plain_at-marks_of t = by_find (plain_at t (marks_of theory events p)) refl
    where
      by_find : (o : Option PlainMark) → plain_at t (marks_of theory events p) ≡ o → plain_at t (marks_of theory events p) ≡ if_marked (mark_at theory events p t)
      by_find None is =
          ⊎_elim
          (λ some. absurd (false≢true (sym (find-None (λ (mark : PlainMark). int_eq mark.instant t) (marks_of theory events p) (mark_at theory events p t) is (in_marks_of t some))
          ∙ ap (λ u. int_eq u t) (instant-mark_at theory events p t) ∙ int_eq-same t)))
          (λ none. is ∙ sym (ap (λ b. cond b (Some (mark_at theory events p t)) None) none))
          (cases_Bool (is_marked (mark_at theory events p t)))
      by_find (Some mark) is =
          let found = find-Some (λ (m : PlainMark). int_eq m.instant t) (marks_of theory events p) mark is in
          let kept = from_marks_of mark found.0 in
          let same : mark_at theory events p t ≡ mark = ap (mark_at theory events p) (sym (int_eq-is mark.instant t found.1)) ∙ kept.0 in
          is ∙ sym (ap (λ m. cond (is_marked m) (Some m) None) same ∙ ap (λ b. cond b (Some mark) None) kept.1)

  -- ---- the initiations of a history

  AreInOrder-initiations_of : AreInOrder (initiations_of theory events p)
  AreInOrder-initiations_of =
      IsPairwise-map (λ (m n : PlainMark). IsTrue (int_lt m.instant n.instant)) initiations_of_mark (filter mark_initiates (marks_of theory events p))
      (IsPairwise-filter (λ (m n : PlainMark). IsTrue (int_lt m.instant n.instant)) mark_initiates (marks_of theory events p) AreInOrder-marks_of)

  -- an initiation alone, of so many, where they are kept
  abbrev bare_if : Bool → ℤ → PlainMark
  bare_if kept t = record { instant = t; inits = cond kept (mark_at theory events p t).inits 0; terms = 0; clashes = 0 }

  plain_at-initiations_of : (t : ℤ) → plain_at t (initiations_of theory events p) ≡ if_marked (bare_if true t)
  plain_at-initiations_of t =
      find-map (λ (m : PlainMark). int_eq m.instant t) initiations_of_mark (filter mark_initiates (marks_of theory events p))
      ∙ ap (option_map initiations_of_mark) (plain_at-initiating t (marks_of theory events p) AreInOrder-marks_of ∙ ap keep_initiating (plain_at-marks_of t))
      ∙ initiation_kept (mark_at theory events p t) t (instant-mark_at theory events p t)

  -- they are kept, or none are
  pub AreInOrder-kept_initiations : AreInOrder (kept_initiations theory events p)
  AreInOrder-kept_initiations = each (breaks_by_initiation theory p)
    where
      each : (b : Bool) → AreInOrder (cond b (initiations_of theory events p) [])
      each true = AreInOrder-initiations_of
      each false = tt

  pub plain_at-kept_initiations : (t : ℤ) → plain_at t (kept_initiations theory events p) ≡ if_marked (initiation_at theory events p t)
  plain_at-kept_initiations t = each (breaks_by_initiation theory p)
    where
      each : (b : Bool) → plain_at t (cond b (initiations_of theory events p) []) ≡ if_marked (bare_if b t)
      each true = plain_at-initiations_of t
      each false = refl
