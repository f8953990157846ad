-- A row of intervals, mended where its marks changed: what is read of the old intervals, and that the new ones are spelt.
use Rattle.std.proofs.Common.{◌≡◌, ℕ, ◌+◌, ◌-◌, ◌<◌, ◌≤◌, zero, suc, ℤ, Bool, true, false, cond, not, ◌&&◌, ◌||◌, List, [], ◌∷◌, ◌++◌, map, filter, find, take, drop, length, Option, Some, None, is_some, option_map, refl, ap, ap₂, sym, subst, ◌∙◌, inl, arith}
use Rattle.std.specs.Prelude.{int_lt, int_le, slice_get, IsTrue}
use Rattle.std.specs.List.{list_all, list_any, HoldsAt, take-map, drop-map, splice}
use Rattle.std.specs.Option.{option_map_or, option_to_list}
use Rattle.std.proofs.lemmas.Bool.{not-true, false≢true}
use Rattle.std.proofs.lemmas.Option.{slice_get_read, slice_get_within, get_or_from_slice_get}
use Rattle.std.proofs.lemmas.Int.{ints}
use Rattle.std.proofs.lemmas.List.{append-nil, append_assoc, append_cancel_left, append_cancel_right, map-append, take-append-drop, drop-drop, length-map, length-append, length-drop, length-take-le, get_or-drop}
use Rattle.std.proofs.Math.Seq.{take-suc}
use Rattle.std.proofs.lemmas.List.Filters.{length-filter_both}
use Rattle.std.proofs.Math.ListN.{drop_of_length-le}
use Rattle.std.proofs.lemmas.List.Folds.{list_all-map}
use Rattle.std.proofs.lemmas.List.Elements.{filter-append}
use Rattle.std.proofs.Math.Bool.{not-not}
use Rattle.ec_axioms.specs.Timeline.{Begin, before_all, begin_at, Interval as PlainInterval}
use Rattle.ec_axioms.specs.Marks.{PlainMark, spans_of}
use Rattle.ec_axioms.proofs.Members.{IsMember, filter-map, IsMember-append_right, IsMember-map, IsMember-slice_get, IsMember-append_left, filter_agree}
use Rattle.ec_axioms.proofs.Ranks.{int_lt-same}
use Rattle.ec_rows.specs.Marks.{IsMarkRow, mark_before, marks_before, marks_after}
use Rattle.ec_rows.specs.PlainMarks.{plain_mark, plain_marks}
use Rattle.ec_rows.specs.Spans.{IsSpanRow, is_covering, reaches}
use Rattle.ec_rows.specs.declared.mark.Mark.{Mark}
use Rattle.ec_rows.specs.declared.span.End.{End}
use Rattle.ec_rows.specs.declared.span.Span.{Span}
use Rattle.ec_lists.proofs.Booleans.{and-left, and-right}
use Rattle.ec_intervals.specs.declared.draft.Draft.{Draft}
use Rattle.ec_intervals.specs.declared.interval.Begin.{Begin as Begun}
use Rattle.ec_intervals.specs.declared.interval.Begin.TheVariants.{Initial}
use Rattle.ec_intervals.specs.declared.interval.Interval.{Interval}
use Rattle.ec_intervals.specs.Drafts.{drafted, IsReadOver}
use Rattle.ec_intervals.specs.OldMarks.{AreOfOldMarks}
use Rattle.ec_intervals.specs.Steps.{first_open, lasting, open_through, ended_through, spelt_through, is_behind, up_to_first_behind, first_behind, end_behind, ends_before, begins_behind, begins_where, IsIntervalRow}
use Rattle.ec_intervals.specs.Table.{front_members, span_interval, plain_begin, plain_interval, plain_intervals, plain_spans, spans_up_to}
use Rattle.ec_intervals.proofs.Pass.{IsPlainRow, plain_before, behind_first, pass, interval_by, pass-spans_of}
use Rattle.ec_intervals.proofs.Written.{IsPlainRow-from_row, IsIntervalRow-spans_of, IsSpanRow-members}
use Rattle.ec_intervals.proofs.Cut.{cut-front, cut-behind, IsPlainRow-behind, pass-append, pass-spelt_through, ended_through-begins, open_through-begins}
use Rattle.ec_intervals.proofs.SpanCuts.{filter-both, take-cut, drop-cut, plain-take, plain-drop, reaching-lasts, taken-up_to, dropped-up_to}
use Rattle.ec_intervals.proofs.TwoRows.{is_start, kept-taken, opened-by, kept-before_all, front-kept, new-spelt, list_all-both}
use Rattle.ec_intervals.proofs.Reading.{up_to-None, first_behind-None, up_to_all, none_behind-up_to, none_behind-find}
use Rattle.ec_lists.proofs.Tests.{list_any-none, list_all-weaker, list_all-each}
use Rattle.ec_lists.proofs.Filters.{filter-none, length-filter_wider, list_all-kept}

-- ---- lists

-- a member of the rest of a list
pub slice_get-drop : {X : Type 0} (xs : List X) (n i : ℕ) (x : X) → slice_get xs (n + i) ≡ Some x → slice_get (drop n xs) i ≡ Some x
slice_get-drop xs n i x read =
    let within = slice_get_within xs (n + i) x read in
    let left = length-drop n xs in
    slice_get_read (drop n xs) (length (drop n xs)) i x refl (omega (arith, within, left)) (sym (get_or-drop n xs i x ∙ get_or_from_slice_get xs (n + i) x x read))

take-take : {X : Type 0} (m n : ℕ) (xs : List X) → m ≤ n → take m (take n xs) ≡ take m xs
take-take zero n xs le = refl
take-take (suc m) zero xs le = absurd (omega arith)
take-take (suc m) (suc n) [] le = refl
take-take (suc m) (suc n) (x ∷ xs) le = ap (λ ys. x ∷ ys) (take-take m n xs (omega arith))

append_nil_back : {X : Type 0} (xs ys : List X) → xs ++ ys ≡ [] → ys ≡ []
append_nil_back [] ys none = none
append_nil_back (x ∷ xs) ys none = absurd (let no = none in cc)

module _ {T : Type 0} (rank : T → ℤ) where
  -- ---- the front and the spans

  pub front-not_start : (front : Option (End T)) → list_all (λ (i : PlainInterval). not (is_start i.from)) (plain_intervals rank (front_members front)) ≡ true
  front-not_start None = refl
  front-not_start (Some end) = refl

  pub spans-start : (spans : List (Span T)) → list_all (λ (i : PlainInterval). is_start i.from) (plain_spans rank spans) ≡ true
  spans-start [] = refl
  spans-start (s ∷ spans) = spans-start spans

  pub plain-members : (front : Option (End T)) (spans : List (Span T)) → plain_intervals rank (front_members front ++ map span_interval spans) ≡ plain_intervals rank (front_members front) ++ plain_spans rank spans
  plain-members front spans = map-append (plain_interval rank) (front_members front) (map span_interval spans)

  plain-append : (xs ys : List (Span T)) → plain_spans rank (xs ++ ys) ≡ plain_spans rank xs ++ plain_spans rank ys
  plain-append xs ys = ap (plain_intervals rank) (map-append span_interval xs ys) ∙ map-append (plain_interval rank) (map span_interval xs) (map span_interval ys)

  -- ---- the marks before a time, and the rest

  module _ (a : ℤ) (marks : List (Mark T)) (row : IsMarkRow rank marks) where
    abbrev pub earlier : List PlainMark
    earlier = plain_marks rank (marks_before rank a marks)

    abbrev pub rest : List PlainMark
    rest = drop (length (marks_before rank a marks)) (plain_marks rank marks)

    both-earlier : marks_before rank a marks ++ filter (λ (m : Mark T). not (int_lt (rank m.at) a)) marks ≡ marks
    both-earlier = filter-both (mark_before rank) (λ (m : Mark T). int_lt (rank m.at) a) (λ m n. before (rank m.at) (rank n.at)) marks row.ascending
      where
        before : (x y : ℤ) → int_lt x y ≡ true → int_lt y a ≡ true → int_lt x a ≡ true
        before x y first second = grind (arith, ints)

    pub take-earlier : take (length (marks_before rank a marks)) (plain_marks rank marks) ≡ earlier
    take-earlier = take-map (plain_mark rank) (length (marks_before rank a marks)) marks ∙ ap (plain_marks rank) (take-cut (λ (m : Mark T). int_lt (rank m.at) a) marks both-earlier)

    pub earlier-rest : plain_marks rank marks ≡ earlier ++ rest
    earlier-rest = sym (take-append-drop (length (marks_before rank a marks)) (plain_marks rank marks)) ∙ ap (λ ms. ms ++ rest) take-earlier

    pub earlier-before : list_all (λ (m : PlainMark). int_lt m.instant a) earlier ≡ true
    earlier-before = list_all-map (λ (m : PlainMark). int_lt m.instant a) (plain_mark rank) (marks_before rank a marks) ∙ list_all-kept (λ (m : Mark T). int_lt (rank m.at) a) marks

    pub rest-from : list_all (λ (m : PlainMark). not (int_lt m.instant a)) rest ≡ true
    rest-from =
        ap (list_all (λ (m : PlainMark). not (int_lt m.instant a)))
        (drop-map (plain_mark rank) (length (marks_before rank a marks)) marks ∙ ap (plain_marks rank) (drop-cut (λ (m : Mark T). int_lt (rank m.at) a) marks both-earlier))
        ∙ list_all-map (λ (m : PlainMark). not (int_lt m.instant a)) (plain_mark rank) (filter (λ (m : Mark T). not (int_lt (rank m.at) a)) marks)
        ∙ list_all-kept (λ (m : Mark T). not (int_lt (rank m.at) a)) marks

    pub row-rest : IsPlainRow (earlier ++ rest)
    row-rest = subst IsPlainRow earlier-rest (IsPlainRow-from_row rank marks row)

    -- what the row spells: what the earlier marks end, and what the rest spells
    pub spans_of-rest : (strong initial : Bool) →
        spans_of (plain_marks rank marks) strong initial
        ≡ ended_through strong (first_open initial) earlier ++ spelt_through strong (open_through strong (first_open initial) earlier) rest
    spans_of-rest strong initial =
        sym (pass-spans_of (plain_marks rank marks) strong initial (IsPlainRow-from_row rank marks row)) ∙ ap (pass interval_by strong (first_open initial)) earlier-rest
        ∙ pass-append strong (first_open initial) earlier rest
        ∙ ap (λ xs. ended_through strong (first_open initial) earlier ++ xs) (pass-spelt_through strong (open_through strong (first_open initial) earlier) rest)

    -- the rest up to a time and behind it
    module _ (b : ℤ) (ordered : int_le a b ≡ true) where
      abbrev pub within : List PlainMark
      within = filter (λ (m : PlainMark). not (int_lt b m.instant)) rest

      abbrev pub behind : List PlainMark
      behind = plain_marks rank (marks_after rank b marks)

      pub rest-split : rest ≡ within ++ behind
      rest-split =
          sym (filter-both plain_before (λ (m : PlainMark). not (int_lt b m.instant)) (λ m n. keeps m.instant n.instant) rest (IsPlainRow-behind earlier rest row-rest).ascending)
          ∙ ap (λ ms. within ++ ms)
          (filter_agree (λ (m : PlainMark). not (not (int_lt b m.instant))) (λ (m : PlainMark). int_lt b m.instant) rest (λ m member. not-not (int_lt b m.instant))
          ∙ ap (λ ms. ms ++ filter (λ (m : PlainMark). int_lt b m.instant) rest)
          (sym (filter-none (λ (m : PlainMark). int_lt b m.instant) earlier (list_any-none (λ (m : PlainMark). int_lt b m.instant) earlier (list_all-weaker (λ (m : PlainMark). int_lt m.instant a) (λ (m : PlainMark). not (int_lt b m.instant)) (λ m. early m.instant) earlier earlier-before))))
          ∙ sym (filter-append (λ (m : PlainMark). int_lt b m.instant) earlier rest) ∙ ap (filter (λ (m : PlainMark). int_lt b m.instant)) (sym earlier-rest)
          ∙ filter-map (λ (m : PlainMark). int_lt b m.instant) (plain_mark rank) marks)
        where
          keeps : (x y : ℤ) → int_lt x y ≡ true → not (int_lt b y) ≡ true → not (int_lt b x) ≡ true
          keeps x y before up_to = grind (arith, ints)

          early : (x : ℤ) → int_lt x a ≡ true → not (int_lt b x) ≡ true
          early x before = grind (arith, ints)

      pub within-up_to : list_all (λ (m : PlainMark). not (int_lt b m.instant)) within ≡ true
      within-up_to = list_all-kept (λ (m : PlainMark). not (int_lt b m.instant)) rest

      pub behind-behind : list_all (λ (m : PlainMark). int_lt b m.instant) behind ≡ true
      behind-behind = list_all-map (λ (m : PlainMark). int_lt b m.instant) (plain_mark rank) (marks_after rank b marks) ∙ list_all-kept (λ (m : Mark T). int_lt b (rank m.at)) marks

  -- ---- a whole row

  -- what is read of all marks, with what stays open, is what the row spells
  pub rebuilt : (marks : List (Mark T)) (row : IsMarkRow rank marks) (strong initial : Bool) (start mid new : Draft T) → drafted start ≡ [] → option_map (plain_begin rank) start.begun ≡ first_open initial →
      IsReadOver rank strong (up_to_first_behind None (plain_marks rank marks)) start mid →
      plain_intervals rank (drafted new) ≡ plain_intervals rank (drafted mid) ++ option_to_list (lasting (Some None) (option_map (plain_begin rank) mid.begun)) →
      plain_intervals rank (drafted new) ≡ spans_of (plain_marks rank marks) strong initial
  rebuilt marks row strong initial start mid new empty begun over closed =
      closed
      ∙ ap₂ (λ xs o. xs ++ option_to_list (lasting (Some None) o))
      (over.intervals ∙ ap₂ (λ xs ms. plain_intervals rank xs ++ ended_through strong (option_map (plain_begin rank) start.begun) ms) empty (up_to-None (plain_marks rank marks))
      ∙ ap (λ o. ended_through strong o (plain_marks rank marks)) begun)
      (over.begun ∙ ap₂ (λ o ms. open_through strong o ms) begun (up_to-None (plain_marks rank marks)))
      ∙ sym (pass-spelt_through strong (first_open initial) (plain_marks rank marks)) ∙ pass-spans_of (plain_marks rank marks) strong initial (IsPlainRow-from_row rank marks row)

  -- what a row spells in members is a row of spans
  module _ (marks : List (Mark T)) (row : IsMarkRow rank marks) (strong initial : Bool) (front : Option (End T)) (spans : List (Span T))
      (spelt : plain_intervals rank (front_members front ++ map span_interval spans) ≡ spans_of (plain_marks rank marks) strong initial) where
    pub IsSpanRow-spelt : IsSpanRow rank spans
    IsSpanRow-spelt = IsSpanRow-members rank front spans (subst IsIntervalRow (sym spelt) (IsIntervalRow-spans_of rank marks strong initial row))

    pub length-spelt : length spans ≤ length (spans_of (plain_marks rank marks) strong initial)
    length-spelt =
        let all = ap length spelt in
        let plain = length-map (front_members front ++ map span_interval spans) (plain_interval rank) in
        let parts = length-append (front_members front) (map span_interval spans) in
        let some = length-map spans span_interval in
        omega (arith, all, plain, parts, some)

  -- ---- two lists of members

  members-apart : (front front' : Option (End T)) (xs ys : List (Span T)) →
      plain_intervals rank (front_members front ++ map span_interval xs) ≡ plain_intervals rank (front_members front' ++ map span_interval ys) →
      (plain_intervals rank (front_members front) ≡ plain_intervals rank (front_members front')) × (plain_spans rank xs ≡ plain_spans rank ys)
  members-apart front front' xs ys same = (
    cut-front (λ (i : PlainInterval). not (is_start i.from)) (plain_intervals rank (front_members front)) (plain_spans rank xs) (plain_intervals rank (front_members front')) (plain_spans rank ys) both
        (front-not_start front) (starting xs) (front-not_start front') (starting ys),
    cut-behind (λ (i : PlainInterval). not (is_start i.from)) (plain_intervals rank (front_members front)) (plain_spans rank xs) (plain_intervals rank (front_members front')) (plain_spans rank ys) both
        (front-not_start front) (starting xs) (front-not_start front') (starting ys),
  )
    where
      both : plain_intervals rank (front_members front) ++ plain_spans rank xs ≡ plain_intervals rank (front_members front') ++ plain_spans rank ys
      both = sym (plain-members front xs) ∙ same ∙ plain-members front' ys

      starting : (spans : List (Span T)) → list_all (λ (i : PlainInterval). not (not (is_start i.from))) (plain_spans rank spans) ≡ true
      starting [] = refl
      starting (s ∷ spans) = starting spans

  module _ (front front' : Option (End T)) (spans with : List (Span T)) (start end : ℕ) (ordered : start ≤ end) where
    abbrev between : List (Span T)
    between = take (end - start) (drop start spans)

    whole-spans : spans ≡ take start spans ++ (between ++ drop end spans)
    whole-spans =
        sym (take-append-drop start spans)
        ∙ ap (λ xs. take start spans ++ xs)
        (sym (take-append-drop (end - start) (drop start spans)) ∙ ap (λ xs. between ++ xs) (drop-drop (end - start) start spans ∙ ap (λ n. drop n spans) (omega (arith, ordered))))

    pub same-members : plain_intervals rank (front_members front) ≡ plain_intervals rank (front_members front') → plain_spans rank between ≡ plain_spans rank with →
        plain_intervals rank (front_members front ++ map span_interval spans) ≡ plain_intervals rank (front_members front' ++ map span_interval (splice spans start end with))
    same-members fronts middle =
        plain-members front spans
        ∙ ap₂ (λ xs ys. xs ++ ys) fronts
        (ap (plain_spans rank) whole-spans ∙ plain-append (take start spans) (between ++ drop end spans)
        ∙ ap (λ xs. plain_spans rank (take start spans) ++ xs) (plain-append between (drop end spans) ∙ ap (λ xs. xs ++ plain_spans rank (drop end spans)) middle ∙ sym (plain-append with (drop end spans)))
        ∙ sym (plain-append (take start spans) (with ++ drop end spans)))
        ∙ sym (plain-members front' (splice spans start end with))

    pub members-same : plain_intervals rank (front_members front ++ map span_interval spans) ≡ plain_intervals rank (front_members front' ++ map span_interval (splice spans start end with)) →
        (plain_intervals rank (front_members front) ≡ plain_intervals rank (front_members front')) × (plain_spans rank between ≡ plain_spans rank with)
    members-same same =
        let apart = members-apart front front' spans (splice spans start end with) same in (
          apart.0,
          append_cancel_right (plain_spans rank between) (plain_spans rank with) (plain_spans rank (drop end spans))
              (append_cancel_left (plain_spans rank (take start spans)) (plain_spans rank between ++ plain_spans rank (drop end spans)) (plain_spans rank with ++ plain_spans rank (drop end spans))
              (sym (ap (plain_spans rank) whole-spans ∙ plain-append (take start spans) (between ++ drop end spans) ∙ ap (λ xs. plain_spans rank (take start spans) ++ xs) (plain-append between (drop end spans)))
              ∙ apart.1 ∙ plain-append (take start spans) (with ++ drop end spans) ∙ ap (λ xs. plain_spans rank (take start spans) ++ xs) (plain-append with (drop end spans)))),
        )

    pub length-spliced : end ≤ length spans → length (splice spans start end with) + (end - start) ≡ length spans + length with
    length-spliced within =
        let parts = length-append (take start spans) (with ++ drop end spans) in
        let back = length-append with (drop end spans) in
        let some = length-take-le start spans (omega (arith, ordered, within)) in
        let left = length-drop end spans in
        omega (arith, parts, back, some, left, ordered, within)

  -- one span more is the same
  module _ (xs ys : List (Span T)) (i : ℕ) (x y : Span T) (read : slice_get xs i ≡ Some x) (other : slice_get ys i ≡ Some y) where
    more : (zs : List (Span T)) (z : Span T) → slice_get zs i ≡ Some z → plain_spans rank (take (i + 1) zs) ≡ plain_spans rank (take i zs) ++ plain_spans rank (z ∷ [])
    more zs z is =
        ap (λ n. plain_spans rank (take n zs)) add_one
        ∙ ap (plain_spans rank) (take-suc zs i z (slice_get_within zs i z is) ∙ ap (λ w. take i zs ++ w ∷ []) (get_or_from_slice_get zs i z z is)) ∙ plain-append (take i zs) (z ∷ [])
      where
        add_one : i + 1 ≡ suc i
        add_one = omega arith

    module _ (so_far : plain_spans rank (take i xs) ≡ plain_spans rank (take i ys)) where
      pub same-next : plain_spans rank (x ∷ []) ≡ plain_spans rank (y ∷ []) → plain_spans rank (take (i + 1) xs) ≡ plain_spans rank (take (i + 1) ys)
      same-next same = more xs x read ∙ ap₂ (λ front next. front ++ next) so_far same ∙ sym (more ys y other)

      pub next-same : (n : ℕ) → i < n → plain_spans rank (take n xs) ≡ plain_spans rank ys → plain_spans rank (x ∷ []) ≡ plain_spans rank (y ∷ [])
      next-same n within same =
          append_cancel_left (plain_spans rank (take i ys)) (plain_spans rank (x ∷ [])) (plain_spans rank (y ∷ []))
          (ap (λ zs. zs ++ plain_spans rank (x ∷ [])) (sym so_far) ∙ sym (more xs x read)
          ∙ ap (plain_spans rank) (sym (take-take (i + 1) n xs (omega (arith, within)))) ∙ sym (plain-take rank (i + 1) (take n xs)) ∙ ap (take (i + 1)) same ∙ plain-take rank (i + 1) ys ∙ more ys y other)

  -- ---- an old row and the one that it was changed to

  module _ (a b : ℤ) (strong initial : Bool) (marks : List (Mark T)) (front : Option (End T)) (spans : List (Span T))
      (changed : AreOfOldMarks rank a b strong initial marks (plain_intervals rank (front_members front ++ map span_interval spans))) where
    abbrev old_rest : List PlainMark
    old_rest = rest a changed.old changed.row

    abbrev old_earlier : List PlainMark
    old_earlier = earlier a changed.old changed.row

    abbrev sure : List PlainMark
    sure = plain_marks rank (marks_before rank a marks)

    pub IsSpanRow-old : IsSpanRow rank spans
    IsSpanRow-old = IsSpanRow-members rank front spans (subst IsIntervalRow (sym changed.spelt) (IsIntervalRow-spans_of rank changed.old strong initial changed.row))

    same_earlier : old_earlier ≡ sure
    same_earlier = ap (plain_marks rank) changed.before

    old-spelt : plain_intervals rank (front_members front) ++ plain_spans rank spans ≡ pass interval_by strong (first_open initial) (sure ++ old_rest)
    old-spelt =
        sym (plain-members front spans) ∙ changed.spelt ∙ sym (pass-spans_of (plain_marks rank changed.old) strong initial (IsPlainRow-from_row rank changed.old changed.row))
        ∙ ap (pass interval_by strong (first_open initial)) (earlier-rest a changed.old changed.row ∙ ap (λ ms. ms ++ old_rest) same_earlier)

    sure-before : list_all (λ (m : PlainMark). int_lt m.instant a) sure ≡ true
    sure-before = subst (λ ms. list_all (λ (m : PlainMark). int_lt m.instant a) ms ≡ true) same_earlier (earlier-before a changed.old changed.row)

    old_row : IsPlainRow (sure ++ old_rest)
    old_row = subst (λ ms. IsPlainRow (ms ++ old_rest)) same_earlier (row-rest a changed.old changed.row)

    abbrev opened : Option Begin
    opened = open_through strong (first_open initial) sure

    -- one of the old intervals that begins before a and does not end before it begins where the open begin is
    pub opened-interval : (i : PlainInterval) → IsMember (plain_intervals rank (front_members front) ++ plain_spans rank spans) i → ends_before a i ≡ false →
        begins_where (λ s. not (int_lt s a)) i.from ≡ false → opened ≡ Some i.from
    opened-interval =
        opened-by strong initial a b sure (plain_intervals rank (front_members front)) (plain_spans rank spans) sure-before (front-not_start front) (spans-start spans) old_rest
        (rest-from a changed.old changed.row) old_row old-spelt

    -- a span of them
    pub opened-span : (place : ℕ) (span : Span T) → slice_get spans place ≡ Some span → ends_before a (plain_interval rank (span_interval span)) ≡ false → int_lt (rank span.from) a ≡ true →
        opened ≡ Some (begin_at (rank span.from))
    opened-span place span read lasts before =
        opened-interval (plain_interval rank (span_interval span))
        (IsMember-append_right (plain_intervals rank (front_members front)) (plain_spans rank spans) (plain_interval rank (span_interval span))
        (IsMember-map (λ (s : Interval T). plain_interval rank s) (map span_interval spans) (span_interval span) (IsMember-map span_interval spans span (IsMember-slice_get spans place span read))))
        lasts (ap not before)

    pub opened-covering : (place : ℕ) (span : Span T) → slice_get spans place ≡ Some span → HoldsAt (λ s. IsTrue (is_covering rank a s)) spans place → Some (begin_at (rank span.from)) ≡ opened
    opened-covering place span read covers =
        let here : is_covering rank a span ≡ true = subst (λ s. IsTrue (is_covering rank a s)) (get_or_from_slice_get spans place span span read) (covers span) in
        sym (opened-span place span read (not-true (ends_before a (plain_interval rank (span_interval span))) (reaching-lasts rank a span (and-right (int_lt (rank span.from) a) (reaches rank a span.end) here)))
        (and-left (int_lt (rank span.from) a) (reaches rank a span.end) here))

    -- the front of them
    pub opened-front : list_any (λ i. not (ends_before a i)) (plain_intervals rank (front_members front)) ≡ true → opened ≡ Some before_all
    opened-front reaches = by_front front reaches (λ end member. opened-interval (plain_interval rank (record { from = Initial; end = end })) (IsMember-append_left (plain_intervals rank (front_members front)) (plain_spans rank spans) (plain_interval rank (record { from = Initial; end = end })) member))
      where
        by_front : (front' : Option (End T)) → list_any (λ i. not (ends_before a i)) (plain_intervals rank (front_members front')) ≡ true →
            ((end : End T) → IsMember (plain_intervals rank (front_members front')) (plain_interval rank (record { from = Initial; end = end })) →
            ends_before a (plain_interval rank (record { from = Initial; end = end })) ≡ false → false ≡ false → opened ≡ Some before_all) → opened ≡ Some before_all
        by_front None reaches each = absurd (false≢true reaches)
        by_front (Some end) reaches each = each end (inl refl) (lasts (ends_before a (plain_interval rank (record { from = Initial; end = end }))) reaches) refl
          where
            lasts : (b : Bool) → (not b || false) ≡ true → b ≡ false
            lasts true is = absurd (false≢true is)
            lasts false is = refl

    -- ---- the new row

    module _ (row : IsMarkRow rank marks) (ordered : int_le a b ≡ true) where
      abbrev new_rest : List PlainMark
      new_rest = rest a marks row

      abbrev old_within : List PlainMark
      old_within = within a changed.old changed.row b ordered

      abbrev new_within : List PlainMark
      new_within = within a marks row b ordered

      -- where a mark is behind b, the marks up to the first one and the old intervals behind it tell what the rest spells
      module _ (t : ℤ) (hi : ℕ) (count : hi ≡ length (spans_up_to rank t spans)) where
        abbrev taken : List PlainInterval
        taken = plain_intervals rank (front_members front ++ map span_interval (take hi spans))

        RestIs : List PlainMark → Type 0
        RestIs read = spelt_through strong opened new_rest
            ≡ ended_through strong opened read ++ (option_to_list (lasting (end_behind t taken) (open_through strong opened read)) ++ drop hi (plain_spans rank spans))

        by_behind : (behind : List PlainMark) → list_all (λ (m : PlainMark). int_lt b m.instant) behind ≡ true → old_rest ≡ old_within ++ behind → new_rest ≡ new_within ++ behind →
            first_behind (Some b) new_rest ≡ Some t → RestIs (up_to_first_behind (Some b) new_rest) × (int_lt b t ≡ true)
        unfolding RestIs up_to_first_behind
        by_behind [] late old_split new_split first =
            absurd (let no = sym (ap (first_behind (Some b)) new_split ∙ ap (option_map (λ (m : PlainMark). m.instant)) (none_behind-find (Some b) new_within [] (within-up_to a marks row b ordered))) ∙ first in false≢true (ap is_some no))
        by_behind (m ∷ ms) late old_split new_split first =
            let here : int_lt b m.instant ≡ true = and-left (int_lt b m.instant) _ late in
            let at : m.instant ≡ t = some-is (sym (ap (first_behind (Some b)) new_split
            ∙ ap (option_map (λ (n : PlainMark). n.instant)) (none_behind-find (Some b) new_within (m ∷ ms) (within-up_to a marks row b ordered))
            ∙ ap (λ c. option_map (λ (n : PlainMark). n.instant) (cond c (Some m) (find (is_behind (Some b)) ms))) here) ∙ first) in
            let read : up_to_first_behind (Some b) new_rest ≡ new_within ++ m ∷ [] =
            ap (up_to_first_behind (Some b)) new_split ∙ none_behind-up_to (Some b) new_within (m ∷ ms) (within-up_to a marks row b ordered)
            ∙ ap (λ c. new_within ++ m ∷ cond c [] (up_to_first_behind (Some b) ms)) here in
            (subst RestIs (sym read) (whole m ms here (and-right (int_lt b m.instant) _ late) old_split new_split at), subst (λ u. int_lt b u ≡ true) at here)
          where
            some-is : {x y : ℤ} → Some x ≡ Some y → x ≡ y
            some-is {x} {y} is = ap (λ o. option_map_or (λ z. z) o x) is

            up_to-before : (x : ℤ) → not (int_lt b x) ≡ true → (u : ℤ) → int_lt b u ≡ true → not (int_lt u x) ≡ true
            up_to-before x up_to u late = grind (arith, ints)

            early-before : (x : ℤ) → int_lt x a ≡ true → (u : ℤ) → int_lt b u ≡ true → not (int_lt u x) ≡ true
            early-before x before u late = grind (arith, ints)

            whole : (m : PlainMark) (ms : List PlainMark) → int_lt b m.instant ≡ true → list_all (λ (n : PlainMark). int_lt b n.instant) ms ≡ true → old_rest ≡ old_within ++ m ∷ ms →
                new_rest ≡ new_within ++ m ∷ ms → m.instant ≡ t → RestIs (new_within ++ m ∷ [])
            whole m ms here late old_split new_split at =
                let old_whole : IsPlainRow (sure ++ (old_within ++ m ∷ ms)) = subst (λ xs. IsPlainRow (sure ++ xs)) old_split old_row in
                let new_whole : IsPlainRow (sure ++ (new_within ++ m ∷ ms)) = subst (λ xs. IsPlainRow (sure ++ xs)) new_split (row-rest a marks row) in
                let up_to : hi ≡ length (spans_up_to rank m.instant spans) = count ∙ ap (λ u. length (spans_up_to rank u spans)) (sym at) in
                let taken_is : plain_intervals rank (front_members front) ++ take hi (plain_spans rank spans) ≡ taken =
                ap (λ xs. plain_intervals rank (front_members front) ++ xs) (plain-take rank hi spans) ∙ sym (plain-members front (take hi spans)) in
                sym (pass-spelt_through strong opened new_rest) ∙ ap (pass interval_by strong opened) new_split
                ∙ new-spelt strong initial a b sure (plain_intervals rank (front_members front)) (plain_spans rank spans) sure-before (front-not_start front) (spans-start spans)
                old_within new_within m ms old_whole new_whole
                (list_all-both (λ (n : PlainMark). not (int_lt m.instant n.instant)) sure (old_within ++ m ∷ [])
                (list_all-weaker (λ (n : PlainMark). int_lt n.instant a) (λ (n : PlainMark). not (int_lt m.instant n.instant)) (λ n before. early-before n.instant before m.instant here) sure sure-before)
                (list_all-both (λ (n : PlainMark). not (int_lt m.instant n.instant)) old_within (m ∷ [])
                (list_all-weaker (λ (n : PlainMark). not (int_lt b n.instant)) (λ (n : PlainMark). not (int_lt m.instant n.instant)) (λ n up_to. up_to-before n.instant up_to m.instant here) old_within
                (within-up_to a changed.old changed.row b ordered))
                (ap (λ c. not c && true) (int_lt-same m.instant))))
                (behind_first m ms (IsPlainRow-behind old_within (m ∷ ms) (IsPlainRow-behind sure (old_within ++ m ∷ ms) old_whole)))
                (old-spelt ∙ ap (λ xs. pass interval_by strong (first_open initial) (sure ++ xs)) old_split)
                hi
                (subst (λ n. list_all (λ i. not (begins_behind m.instant i)) (take n (plain_spans rank spans)) ≡ true) (sym up_to) (taken-up_to rank m.instant spans IsSpanRow-old))
                (subst (λ n. list_all (begins_behind m.instant) (drop n (plain_spans rank spans)) ≡ true) (sym up_to) (dropped-up_to rank m.instant spans IsSpanRow-old))
                ∙ ap₂ (λ u xs. ended_through strong opened (new_within ++ m ∷ []) ++ (option_to_list (lasting (end_behind u xs) (open_through strong opened (new_within ++ m ∷ []))) ++ drop hi (plain_spans rank spans)))
                at taken_is

        rest-behind : first_behind (Some b) new_rest ≡ Some t → RestIs (up_to_first_behind (Some b) new_rest) × (int_lt b t ≡ true)
        rest-behind first =
            by_behind (behind a marks row b ordered) (behind-behind a marks row b ordered)
            (rest-split a changed.old changed.row b ordered ∙ ap (λ ms. old_within ++ ms) (ap (plain_marks rank) changed.behind)) (rest-split a marks row b ordered) first

      -- ---- what is drafted

      module _ (first : ℕ) (count : first ≡ length (marks_before rank a marks)) (start mid new : Draft T) (empty : drafted start ≡ []) (begun : option_map (plain_begin rank) start.begun ≡ opened)
          (over : IsReadOver rank strong (up_to_first_behind (Some b) (drop first (plain_marks rank marks))) start mid) where
        rest_is : drop first (plain_marks rank marks) ≡ new_rest
        rest_is = ap (λ n. drop n (plain_marks rank marks)) count

        abbrev read : List PlainMark
        read = up_to_first_behind (Some b) new_rest

        mid-is : plain_intervals rank (drafted mid) ≡ ended_through strong opened read
        mid-is =
            over.intervals
            ∙ ap₂ (λ xs ms. plain_intervals rank xs ++ ended_through strong (option_map (plain_begin rank) start.begun) (up_to_first_behind (Some b) ms)) empty rest_is
            ∙ ap (λ o. ended_through strong o read) begun

        mid-open : option_map (plain_begin rank) mid.begun ≡ open_through strong opened read
        mid-open = over.begun ∙ ap₂ (λ o ms. open_through strong o (up_to_first_behind (Some b) ms)) begun rest_is

        spelt-is : spelt_through strong opened new_rest ≡ spelt_through strong (option_map (plain_begin rank) start.begun) (drop first (plain_marks rank marks))
        spelt-is = ap₂ (λ o ms. spelt_through strong o ms) (sym begun) (sym rest_is)

        module _ (end : Option (Option ℤ)) (closed : plain_intervals rank (drafted new) ≡ plain_intervals rank (drafted mid) ++ option_to_list (lasting end (option_map (plain_begin rank) mid.begun))) where
          new-is : plain_intervals rank (drafted new) ≡ ended_through strong opened read ++ option_to_list (lasting end (open_through strong opened read))
          new-is = closed ∙ ap₂ (λ xs o. xs ++ option_to_list (lasting end o)) mid-is mid-open

          -- where a begin at an instant is open in front of it, the draft has no front
          pub draft-starts : (option_map (plain_begin rank) start.begun ≡ Some before_all → ⊥) → new.front ≡ None
          draft-starts other =
              front_none new
              (ap (list_all (λ (i : PlainInterval). is_start i.from)) new-is
              ∙ list_all-both (λ (i : PlainInterval). is_start i.from) (ended_through strong opened read) (option_to_list (lasting end (open_through strong opened read)))
              (ended_through-begins is_start strong opened read (starts opened (λ is. other (begun ∙ is))) (list_all-each read))
              (lasting-starts end (open_through strong opened read) (open_through-begins is_start strong opened read (starts opened (λ is. other (begun ∙ is))) (list_all-each read))))
            where
              starts : (o : Option Begin) → (o ≡ Some before_all → ⊥) → option_map_or is_start o true ≡ true
              starts None is = refl
              starts (Some before_all) is = absurd (is refl)
              starts (Some (begin_at s)) is = refl

              lasting-starts : (end : Option (Option ℤ)) (o : Option Begin) → option_map_or is_start o true ≡ true → list_all (λ (i : PlainInterval). is_start i.from) (option_to_list (lasting end o)) ≡ true
              lasting-starts None o all = refl
              lasting-starts (Some until) None all = refl
              lasting-starts (Some until) (Some begin) all = ap (λ c. c && true) all

              front_none : (draft : Draft T) → list_all (λ (i : PlainInterval). is_start i.from) (plain_intervals rank (drafted draft)) ≡ true → draft.front ≡ None
              front_none draft all = by_front draft.front all
                where
                  by_front : (front' : Option (End T)) → list_all (λ (i : PlainInterval). is_start i.from) (plain_intervals rank (front_members front' ++ map span_interval draft.spans.items)) ≡ true → front' ≡ None
                  by_front None all = refl
                  by_front (Some end) all = absurd (false≢true all)

        -- where a mark is behind the window
        module _ (t : ℤ) (first_is : Some t ≡ first_behind (Some b) (drop first (plain_marks rank marks))) (hi : ℕ) (counted : hi ≡ length (spans_up_to rank t spans)) where
          found : first_behind (Some b) new_rest ≡ Some t
          found = sym (first_is ∙ ap (first_behind (Some b)) rest_is)

          pub spelt-behind :
              plain_intervals rank (drafted new) ≡ plain_intervals rank (drafted mid)
              ++ option_to_list (lasting (end_behind t (plain_intervals rank (front_members front ++ map span_interval (take hi spans)))) (option_map (plain_begin rank) mid.begun)) →
              plain_intervals rank (drafted new) ++ drop hi (plain_spans rank spans) ≡ spelt_through strong (option_map (plain_begin rank) start.begun) (drop first (plain_marks rank marks))
          unfolding RestIs
          spelt-behind closed =
              let end = end_behind t (plain_intervals rank (front_members front ++ map span_interval (take hi spans))) in
              ap (λ xs. xs ++ drop hi (plain_spans rank spans)) (new-is end closed)
              ∙ append_assoc (ended_through strong opened read) (option_to_list (lasting end (open_through strong opened read))) (drop hi (plain_spans rank spans))
              ∙ sym (rest-behind t hi counted found).0 ∙ spelt-is

          pub later-behind : length (spans_up_to rank b spans) ≤ hi
          later-behind =
              let later = length-filter_wider (λ (s : Span T). int_le (rank s.from) b) (λ (s : Span T). int_le (rank s.from) t) (λ s. up_to (rank s.from) t (rest-behind t hi counted found).1) spans in
              omega (arith, later, counted)
            where
              up_to : (x u : ℤ) → int_lt b u ≡ true → int_le x b ≡ true → int_le x u ≡ true
              up_to x u late before = grind (arith, ints)

        -- where none is
        module _ (none : None ≡ first_behind (Some b) (drop first (plain_marks rank marks))) (hi : ℕ) (all : hi ≡ length spans) where
          pub spelt-all : plain_intervals rank (drafted new) ≡ plain_intervals rank (drafted mid) ++ option_to_list (lasting (Some None) (option_map (plain_begin rank) mid.begun)) →
              plain_intervals rank (drafted new) ++ drop hi (plain_spans rank spans) ≡ spelt_through strong (option_map (plain_begin rank) start.begun) (drop first (plain_marks rank marks))
          spelt-all closed =
              ap₂ (λ xs ys. xs ++ ys) (new-is (Some None) closed) (plain-drop rank hi spans ∙ ap (plain_spans rank) (drop_of_length-le spans (omega (arith, all))))
              ∙ append-nil (ended_through strong opened read ++ option_to_list (lasting (Some None) (open_through strong opened read)))
              ∙ ap (λ ms. ended_through strong opened ms ++ option_to_list (lasting (Some None) (open_through strong opened ms)))
              (up_to_all (Some b) new_rest (first_behind-None (Some b) new_rest (sym (none ∙ ap (first_behind (Some b)) rest_is))))
              ∙ spelt-is

          pub later-all : length (spans_up_to rank b spans) ≤ hi
          later-all =
              let both = length-filter_both (λ (s : Span T). int_le (rank s.from) b) (λ (s : Span T). not (int_le (rank s.from) b)) (λ s. refl) spans in
              omega (arith, both, all)

      -- ---- what is written

      module _ (lo hi : ℕ) (draft : Draft T) (first : ℕ) (count : first ≡ length (marks_before rank a marks)) (begun : Option (Begun T)) (begun_is : option_map (plain_begin rank) begun ≡ opened)
          (ended : list_all (ends_before a) (take lo (plain_spans rank spans)) ≡ true) (lasting_on : list_all (λ i. not (ends_before a i)) (drop lo (plain_spans rank spans)) ≡ true)
          (spelt : plain_intervals rank (drafted draft) ++ drop hi (plain_spans rank spans) ≡ spelt_through strong (option_map (plain_begin rank) begun) (drop first (plain_marks rank marks))) where
        abbrev kept : List PlainInterval
        kept = ended_through strong (first_open initial) sure

        whole : spans_of (plain_marks rank marks) strong initial ≡ kept ++ (plain_intervals rank (drafted draft) ++ drop hi (plain_spans rank spans))
        whole =
            spans_of-rest a marks row strong initial
            ∙ ap (λ xs. kept ++ xs) (sym (spelt ∙ ap₂ (λ o ms. spelt_through strong o ms) begun_is (ap (λ n. drop n (plain_marks rank marks)) count)))

        taken-kept : filter (ends_before a) (plain_intervals rank (front_members front)) ++ take lo (plain_spans rank spans) ≡ kept
        taken-kept =
            kept-taken strong initial a b sure (plain_intervals rank (front_members front)) (plain_spans rank spans) sure-before (front-not_start front) (spans-start spans) old_rest
            (rest-from a changed.old changed.row) old_row old-spelt lo ended lasting_on

        parts : (front' : Option (End T)) → plain_intervals rank (front_members front' ++ map span_interval (splice spans lo hi draft.spans.items))
            ≡ plain_intervals rank (front_members front') ++ (take lo (plain_spans rank spans) ++ (plain_spans rank draft.spans.items ++ drop hi (plain_spans rank spans)))
        parts front' =
            plain-members front' (splice spans lo hi draft.spans.items)
            ∙ ap (λ xs. plain_intervals rank (front_members front') ++ xs)
            (plain-append (take lo spans) (draft.spans.items ++ drop hi spans) ∙ ap₂ (λ xs ys. xs ++ ys) (sym (plain-take rank lo spans))
            (plain-append draft.spans.items (drop hi spans) ∙ ap (λ xs. plain_spans rank draft.spans.items ++ xs) (sym (plain-drop rank hi spans))))

        -- where the begin before all events is open at the window, the draft has the front
        pub spliced-initial : option_map (plain_begin rank) begun ≡ Some before_all →
            plain_intervals rank (front_members draft.front ++ map span_interval (splice spans lo hi draft.spans.items)) ≡ spans_of (plain_marks rank marks) strong initial
        spliced-initial is =
            let nothing : kept ≡ [] =
            kept-before_all strong initial a b sure (plain_intervals rank (front_members front)) (plain_spans rank spans) sure-before (front-not_start front) (spans-start spans) old_rest
            (rest-from a changed.old changed.row) old_row old-spelt (sym begun_is ∙ is) in
            parts draft.front
            ∙ ap (λ xs. plain_intervals rank (front_members draft.front) ++ (xs ++ (plain_spans rank draft.spans.items ++ drop hi (plain_spans rank spans))))
            (append_nil_back (filter (ends_before a) (plain_intervals rank (front_members front))) (take lo (plain_spans rank spans)) (taken-kept ∙ nothing))
            ∙ sym (append_assoc (plain_intervals rank (front_members draft.front)) (plain_spans rank draft.spans.items) (drop hi (plain_spans rank spans)))
            ∙ ap (λ xs. xs ++ drop hi (plain_spans rank spans)) (sym (plain-members draft.front draft.spans.items))
            ∙ sym (whole ∙ ap (λ xs. xs ++ (plain_intervals rank (drafted draft) ++ drop hi (plain_spans rank spans))) nothing)

        -- and else the front stays
        pub spliced-other : (option_map (plain_begin rank) begun ≡ Some before_all → ⊥) → draft.front ≡ None →
            plain_intervals rank (front_members front ++ map span_interval (splice spans lo hi draft.spans.items)) ≡ spans_of (plain_marks rank marks) strong initial
        spliced-other other none =
            let stays : filter (ends_before a) (plain_intervals rank (front_members front)) ≡ plain_intervals rank (front_members front) =
            front-kept strong initial a b sure (plain_intervals rank (front_members front)) (plain_spans rank spans) sure-before (front-not_start front) (spans-start spans) old_rest
            (rest-from a changed.old changed.row) old_row old-spelt (λ is. other (begun_is ∙ is)) in
            parts front
            ∙ sym (append_assoc (plain_intervals rank (front_members front)) (take lo (plain_spans rank spans)) (plain_spans rank draft.spans.items ++ drop hi (plain_spans rank spans)))
            ∙ ap₂ (λ xs ys. xs ++ (ys ++ drop hi (plain_spans rank spans)))
            (ap (λ xs. xs ++ take lo (plain_spans rank spans)) (sym stays) ∙ taken-kept)
            (sym (ap (λ f. plain_intervals rank (front_members f ++ map span_interval draft.spans.items)) none))
            ∙ sym whole
