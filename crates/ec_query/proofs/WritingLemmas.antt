-- A text that is written one part after the other: what of it is left to write.
use Rattle.std.proofs.Common.{◌≡◌, ℕ, ◌+◌, ◌≤◌, suc, List, [], ◌∷◌, ◌++◌, length, take, drop, map, Some, Result, Ok, Err, OnOk, OnErr, refl, sym, ap, ap₂, subst, ◌∙◌, append_assoc, append-nil, take-append-drop, arith}
use Rattle.std.specs.Prelude.{ℤ, Option, flat_map, slice_get, decimal}
use Rattle.std.proofs.lemmas.List.{drop-drop, drop_all, length-map}
use Rattle.ec_lists.proofs.Fronts.{drop-slice_get}
use Rattle.ec_lists.proofs.Results.{OnErr-anyway}
use Rattle.ec_outside.specs.Counts.{Rose}
use Rattle.ec_outside.specs.Streams.{Appended, AppendedPart}
use Rattle.ec_outside.proofs.Streams.{Appended-nil, Appended-then, Appended-then-part, AppendedPart-longer, NothingAppended-refl}
use Rattle.ec_commands.specs.QueryTexts.{Canon, counted_text, interval_text}
use Rattle.ec_rows.specs.declared.span.End.{End}
use Rattle.ec_rows.specs.declared.span.Span.{Span}
use Rattle.ec_intervals.specs.Table.{front_members, plain_interval, plain_intervals, span_interval}
use Rattle.ec_query.specs.Members.{members_text, span_text}

-- ---- what is left

-- all of a text but the rest was appended, and no fault was counted
pub record IsLeft {S : Type 0} (stands : S → List ℕ → Type 0) (faults : S → ℕ) (before now : S) (whole rest : List ℕ) : Type 0 where
  pub done : List ℕ
  pub split : whole ≡ done ++ rest
  pub appended : Appended stands before now done
  pub quiet : faults now ≡ faults before

module _ {S : Type 0} {stands : S → List ℕ → Type 0} {faults : S → ℕ} where
  -- at first all is
  pub IsLeft-start : (sink : S) (whole rest : List ℕ) → whole ≡ rest → IsLeft stands faults sink sink whole rest
  IsLeft-start sink whole rest same = record { done = []; split = same; appended = Appended-nil (NothingAppended-refl sink); quiet = refl }

  -- a part was written
  pub IsLeft-next : {before now after : S} {whole rest : List ℕ} (bytes more : List ℕ) → IsLeft stands faults before now whole rest → rest ≡ bytes ++ more
      → Appended stands now after bytes → faults after ≡ faults now → IsLeft stands faults before after whole more
  IsLeft-next bytes more left is appended quiet = record {
    done = left.done ++ bytes;
    split = left.split ∙ ap (λ all. left.done ++ all) is ∙ sym (append_assoc left.done bytes more);
    appended = Appended-then left.appended appended;
    quiet = quiet ∙ left.quiet;
  }

  -- or a part of that part
  pub IsLeft-part : {before now after : S} {whole rest : List ℕ} (bytes more : List ℕ) → IsLeft stands faults before now whole rest → rest ≡ bytes ++ more
      → AppendedPart stands now after bytes → AppendedPart stands before after whole
  IsLeft-part {before = before} {after = after} bytes more left is part =
      subst (λ (all : List ℕ). AppendedPart stands before after all) (sym (left.split ∙ ap (λ all. left.done ++ all) is))
      (Appended-then-part left.appended (AppendedPart-longer part more))

  -- at last nothing is left
  pub IsLeft-end : {before after : S} {whole rest : List ℕ} → IsLeft stands faults before after whole rest → rest ≡ [] → Appended stands before after whole
  IsLeft-end {before = before} {after = after} left none =
      subst (λ (all : List ℕ). Appended stands before after all) (sym (left.split ∙ ap (λ all. left.done ++ all) none ∙ append-nil left.done)) left.appended

  -- the last part is written by a call whose result is handed on
  pub IsLeft-last : {before now : S} {whole rest : List ℕ} (after : S) {E X : Type 0} (r : Result X E) (bytes : List ℕ) → IsLeft stands faults before now whole rest → rest ≡ bytes
      → OnOk r (Appended stands now after bytes) → OnOk r (Appended stands before after whole)
  IsLeft-last {before = before} after (Ok x) bytes left is appended =
      subst (λ (all : List ℕ). Appended stands before after all) (sym (left.split ∙ ap (λ all. left.done ++ all) is)) (Appended-then left.appended appended)
  IsLeft-last after (Err e) bytes left is appended = appended

  pub IsLeft-last_part : {before now : S} {whole rest : List ℕ} (after : S) {E X : Type 0} (r : Result X E) (bytes : List ℕ) → IsLeft stands faults before now whole rest → rest ≡ bytes
      → OnErr r (AppendedPart stands now after bytes) → OnErr r (AppendedPart stands before after whole)
  IsLeft-last_part {before = before} after (Err e) bytes left is part =
      subst (λ (all : List ℕ). AppendedPart stands before after all) (sym (left.split ∙ ap (λ all. left.done ++ all) is)) (Appended-then-part left.appended part)
  IsLeft-last_part after (Ok x) bytes left is part = part

-- what rose from a count that is as before rose from that before
pub OnErr-rose : {X E : Type 0} (r : Result X E) {before middle : ℕ} (after : ℕ) → middle ≡ before → Rose middle after → OnErr r (Rose before after)
OnErr-rose r after same rose = OnErr-anyway r (subst (λ n. Rose n after) same rose)

-- ---- members

module _ {X : Type 0} (text : X → List ℕ) where
  pub members_text-append : (xs ys : List X) → members_text text (xs ++ ys) ≡ members_text text xs ++ members_text text ys
  members_text-append [] ys = refl
  members_text-append (x ∷ xs) ys = ap (λ all. (32 ∷ text x) ++ all) (members_text-append xs ys) ∙ sym (append_assoc (32 ∷ text x) (members_text text xs) (members_text text ys))

  -- the member at a place, and those behind it
  pub members_text-next : (xs : List X) (i : ℕ) (x : X) → slice_get xs i ≡ Some x → members_text text (drop i xs) ≡ (32 ∷ text x) ++ members_text text (drop (i + 1) xs)
  members_text-next xs i x is =
      let next : suc i ≡ i + 1 = omega arith in
      ap (members_text text) (drop-slice_get xs i x is) ∙ ap (λ n. (32 ∷ text x) ++ members_text text (drop n xs)) next

  -- the members of a run, and those behind it
  pub members_text-run : (xs run : List X) (i : ℕ) → run ≡ take (length run) (drop i xs) → members_text text (drop i xs) ≡ members_text text run ++ members_text text (drop (i + length run) xs)
  members_text-run xs run i is =
      ap (members_text text) (sym (take-append-drop (length run) (drop i xs)))
      ∙ members_text-append (take (length run) (drop i xs)) (drop (length run) (drop i xs))
      ∙ ap (λ ys. members_text text ys ++ members_text text (drop (length run) (drop i xs))) (sym is)
      ∙ ap (λ ys. members_text text run ++ members_text text ys) (drop-drop (length run) i xs)

  pub members_text-end : (xs : List X) (i : ℕ) → length xs ≤ i → members_text text (drop i xs) ≡ []
  members_text-end xs i end = ap (members_text text) (drop_all i xs end)

-- the text of what members are made of
pub members_text-map : {X Y : Type 0} (text : Y → List ℕ) (f : X → Y) (xs : List X) → flat_map (λ member. 32 ∷ member) (map text (map f xs)) ≡ members_text (λ x. text (f x)) xs
members_text-map text f [] = refl
members_text-map text f (x ∷ xs) = ap (λ all. (32 ∷ text (f x)) ++ all) (members_text-map text f xs)

pub members_text-of : {X Y : Type 0} (text : Y → List ℕ) (f : X → Y) (xs : List X) → members_text text (map f xs) ≡ members_text (λ x. text (f x)) xs
members_text-of text f [] = refl
members_text-of text f (x ∷ xs) = ap (λ all. (32 ∷ text (f x)) ++ all) (members_text-of text f xs)

-- a counted text, by what its members are made of
pub counted_text-map : {X Y : Type 0} (text : Y → List ℕ) (f : X → Y) (xs : List X) → counted_text (map text (map f xs)) ≡ decimal (length xs) ++ members_text (λ x. text (f x)) xs
counted_text-map text f xs = ap₂ (λ n all. decimal n ++ all) (length-map (map f xs) text ∙ length-map xs f) (members_text-map text f xs)

-- a counted text, by its members
pub counted_text-of : {X : Type 0} (text : X → List ℕ) (xs : List X) → counted_text (map text xs) ≡ decimal (length xs) ++ members_text text xs
counted_text-of {X} text xs = ap₂ (λ n all. decimal n ++ all) (length-map xs text) (members_text-all xs)
  where
    members_text-all : (ys : List X) → flat_map (λ member. 32 ∷ member) (map text ys) ≡ members_text text ys
    members_text-all [] = refl
    members_text-all (y ∷ ys) = ap (λ all. (32 ∷ text y) ++ all) (members_text-all ys)

-- a text is appended by its other name
pub OnOk-renamed : {S X E : Type 0} (stands : S → List ℕ → Type 0) (before after : S) (r : Result X E) {text other : List ℕ} → text ≡ other
    → OnOk r (Appended stands before after text) → OnOk r (Appended stands before after other)
OnOk-renamed stands before after r same = subst (λ (all : List ℕ). OnOk r (Appended stands before after all)) same

pub OnErr-renamed : {S X E : Type 0} (stands : S → List ℕ → Type 0) (before after : S) (r : Result X E) {text other : List ℕ} → text ≡ other
    → OnErr r (AppendedPart stands before after text) → OnErr r (AppendedPart stands before after other)
OnErr-renamed stands before after r same = subst (λ (all : List ℕ). OnErr r (AppendedPart stands before after all)) same

-- the intervals of a row, the front first and then the spans
pub counted_text-intervals : {T : Type 0} (rank : T → ℤ) (canon : Canon) (front : Option (End T)) (spans : List (Span T))
    → counted_text (map (interval_text canon) (plain_intervals rank (front_members front ++ map span_interval spans)))
    ≡ decimal (length (front_members front ++ map span_interval spans))
    ++ (members_text (λ interval. interval_text canon (plain_interval rank interval)) (front_members front) ++ members_text (span_text rank canon) spans)
counted_text-intervals rank canon front spans =
    counted_text-map (interval_text canon) (plain_interval rank) (front_members front ++ map span_interval spans)
    ∙ ap (λ all. decimal (length (front_members front ++ map span_interval spans)) ++ all)
    (members_text-append (λ interval. interval_text canon (plain_interval rank interval)) (front_members front) (map span_interval spans)
    ∙ ap (λ all. members_text (λ interval. interval_text canon (plain_interval rank interval)) (front_members front) ++ all)
    (members_text-of (λ interval. interval_text canon (plain_interval rank interval)) span_interval spans))
