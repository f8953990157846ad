-- The begin that is open behind the first marks of a row, found by walking back.
use Rattle.std.proofs.Common.{◌≡◌, ℕ, ◌-◌, ◌<◌, suc, ℤ, Bool, true, false, cond, not, ◌&&◌, ◌||◌, List, [], ◌∷◌, ◌++◌, map, take, Option, Some, None, option_map, is_some, refl, ap, ap₂, sym, ◌∙◌, inl, inr, ◌⊎◌, arith}
use Rattle.std.specs.Prelude.{slice_get}
use Rattle.std.specs.List.{last_or, take-map}
use Rattle.std.proofs.lemmas.Bool.{false≢true}
use Rattle.std.proofs.lemmas.Option.{slice_get_within, get_or_from_slice_get}
use Rattle.std.proofs.lemmas.List.{map-append, append_assoc}
use Rattle.std.proofs.Math.Seq.{take-suc}
use Rattle.ec_axioms.specs.Timeline.{Begin, before_all, begin_at, Interval as PlainInterval}
use Rattle.ec_axioms.specs.Marks.{mark_initiates, mark_breaks}
use Rattle.ec_axioms.proofs.Members.{list_all-member, IsMember-slice_get}
use Rattle.ec_rows.specs.Marks.{IsMarkRow, is_counted}
use Rattle.ec_rows.specs.PlainMarks.{plain_mark, plain_marks}
use Rattle.ec_rows.specs.declared.mark.Mark.{Mark}
use Rattle.ec_rows.specs.declared.span.End.{End}
use Rattle.ec_rows.specs.declared.span.Span.{Span}
use Rattle.ec_intervals.specs.Steps.{first_open, open_behind, open_through}
use Rattle.ec_intervals.specs.Table.{front_members, span_interval, plain_end, plain_interval, plain_intervals}
use Rattle.ec_intervals.proofs.Pass.{is_some-open_behind}
use Rattle.ec_intervals.proofs.Cut.{open_through-append}
use Rattle.ec_intervals.proofs.TwoRows.{last_or-one_more}

module _ {T : Type 0} (rank : T → ℤ) (marks : List (Mark T)) (strong initial : Bool) where
  -- the begin that is open behind the first i marks
  abbrev pub open_at : ℕ → Option Begin
  open_at i = open_through strong (first_open initial) (take i (plain_marks rank marks))

  open_at-none : (i : ℕ) → i ≡ 0 → open_at i ≡ first_open initial
  unfolding open_through
  open_at-none i none = ap open_at none

  pub is_open-none : (i : ℕ) → i ≡ 0 → initial ≡ is_some (open_at i)
  is_open-none i none = sym (ap is_some (open_at-none i none) ∙ first initial)
    where
      first : (b : Bool) → is_some (first_open b) ≡ b
      first true = refl
      first false = refl

  -- nothing is in front of the first mark but the begin before all events
  pub open_at-initial : (i : ℕ) → i ≡ 0 → is_some (open_at i) ≡ true → Some before_all ≡ open_at i
  open_at-initial i none some = sym (open_at-none i none ∙ first initial (sym (ap is_some (open_at-none i none)) ∙ some))
    where
      first : (b : Bool) → is_some (first_open b) ≡ true → first_open b ≡ Some before_all
      first true some = refl
      first false some = absurd (false≢true some)

  module _ (row : IsMarkRow rank marks) (i : ℕ) (more : 0 < i) (mark : Mark T) (read : slice_get marks (i - 1) ≡ Some mark) where
    open_at-next : open_at i ≡ open_behind strong (open_at (i - 1)) (plain_mark rank mark)
    unfolding open_through
    open_at-next =
        let count : i ≡ suc (i - 1) = omega arith in
        ap open_at count
        ∙ ap (open_through strong (first_open initial))
        (take-map (plain_mark rank) (suc (i - 1)) marks
        ∙ ap (plain_marks rank) (take-suc marks (i - 1) mark (slice_get_within marks (i - 1) mark read) ∙ ap (λ m. take (i - 1) marks ++ m ∷ []) (get_or_from_slice_get marks (i - 1) mark mark read))
        ∙ map-append (plain_mark rank) (take (i - 1) marks) (mark ∷ []) ∙ ap (λ ms. ms ++ plain_mark rank mark ∷ []) (sym (take-map (plain_mark rank) (i - 1) marks)))
        ∙ open_through-append strong (first_open initial) (take (i - 1) (plain_marks rank marks)) (plain_mark rank mark ∷ [])

    is_open-next : mark_initiates (plain_mark rank mark) ≡ is_some (open_at i)
    is_open-next =
        sym (ap is_some open_at-next
        ∙ is_some-open_behind strong (open_at (i - 1)) (plain_mark rank mark) (list_all-member is_counted marks mark row.counted (IsMember-slice_get marks (i - 1) mark read)))

    pub is_open-last : mark_initiates (plain_mark rank mark) ≡ is_some (open_at i)
    is_open-last = is_open-next

    module _ (some : is_some (open_at i) ≡ true) where
      opens : (breaks : Bool) (begun : Option Begin) → (breaks ≡ true) ⊎ (is_some begun ≡ false) →
          cond (mark_initiates (plain_mark rank mark) && (breaks || not (is_some begun))) (Some (begin_at (rank mark.at))) (cond breaks None begun) ≡ Some (begin_at (rank mark.at))
      opens breaks begun why =
          ap (λ c. cond (c && (breaks || not (is_some begun))) (Some (begin_at (rank mark.at))) (cond breaks None begun)) (is_open-next ∙ some) ∙ by_cases breaks begun why
        where
          by_cases : (breaks : Bool) (begun : Option Begin) → (breaks ≡ true) ⊎ (is_some begun ≡ false) →
              cond (breaks || not (is_some begun)) (Some (begin_at (rank mark.at))) (cond breaks None begun) ≡ Some (begin_at (rank mark.at))
          by_cases true begun why = refl
          by_cases false None why = refl
          by_cases false (Some begin) (inl why) = absurd (false≢true why)
          by_cases false (Some begin) (inr why) = absurd (false≢true (sym why))

      -- the mark opens where it breaks, and where nothing is open in front of it
      pub open_at-here : (mark_breaks strong (plain_mark rank mark) ≡ true) ⊎ (is_some (open_at (i - 1)) ≡ false) → Some (begin_at (rank mark.at)) ≡ open_at i
      open_at-here why = sym (open_at-next ∙ opens (mark_breaks strong (plain_mark rank mark)) (open_at (i - 1)) why)

      -- else what was open stays open
      pub open_at-before : mark_breaks strong (plain_mark rank mark) ≡ false → is_some (open_at (i - 1)) ≡ true → open_at i ≡ open_at (i - 1)
      open_at-before whole before = open_at-next ∙ stays (mark_breaks strong (plain_mark rank mark)) (open_at (i - 1)) whole before
        where
          stays : (breaks : Bool) (begun : Option Begin) → breaks ≡ false → is_some begun ≡ true →
              cond (mark_initiates (plain_mark rank mark) && (breaks || not (is_some begun))) (Some (begin_at (rank mark.at))) (cond breaks None begun) ≡ begun
          stays breaks begun whole before = ap₂ (λ c d. cond (mark_initiates (plain_mark rank mark) && (c || not d)) (Some (begin_at (rank mark.at))) (cond c None begun)) whole before ∙ neither (mark_initiates (plain_mark rank mark))
            where
              neither : (b : Bool) → cond (b && (false || false)) (Some (begin_at (rank mark.at))) begun ≡ begun
              neither true = refl
              neither false = refl

-- ---- the last of some spans

-- the members up to a place, the last of them apart
pub take-last : {X : Type 0} (xs : List X) (count : ℕ) → 0 < count → (x : X) → slice_get xs (count - 1) ≡ Some x → take count xs ≡ take (count - 1) xs ++ x ∷ []
take-last xs count more x read =
    let is : count ≡ suc (count - 1) = omega arith in
    ap (λ n. take n xs) is ∙ take-suc xs (count - 1) x (slice_get_within xs (count - 1) x read)
    ∙ ap (λ y. take (count - 1) xs ++ y ∷ []) (get_or_from_slice_get xs (count - 1) x x read)

module _ {T : Type 0} (rank : T → ℤ) where
  pub last-span : (front : Option (End T)) (spans : List (Span T)) (count : ℕ) → 0 < count → (span : Span T) → slice_get spans (count - 1) ≡ Some span →
      Some (plain_end rank span.end) ≡ option_map (λ (i : PlainInterval). i.until) (last_or None (plain_intervals rank (front_members front ++ map span_interval (take count spans))))
  last-span front spans count more span read =
      sym (ap (option_map (λ (i : PlainInterval). i.until))
      (ap (last_or None)
      (ap (λ xs. plain_intervals rank (front_members front ++ map span_interval xs)) (take-last spans count more span read)
      ∙ ap (λ xs. plain_intervals rank (front_members front ++ xs)) (map-append span_interval (take (count - 1) spans) (span ∷ []))
      ∙ ap (plain_intervals rank) (sym (append_assoc (front_members front) (map span_interval (take (count - 1) spans)) (span_interval span ∷ [])))
      ∙ map-append (plain_interval rank) (front_members front ++ map span_interval (take (count - 1) spans)) (span_interval span ∷ []))
      ∙ last_or-one_more None (plain_intervals rank (front_members front ++ map span_interval (take (count - 1) spans))) (plain_interval rank (span_interval span))))
