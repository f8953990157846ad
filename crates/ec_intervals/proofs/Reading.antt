-- Drafts that are read on over marks, one part of a row after the other.
use Rattle.std.proofs.Common.{◌≡◌, ℕ, ◌+◌, ◌≤◌, ℤ, Bool, true, false, cond, not, ◌&&◌, List, [], ◌∷◌, ◌++◌, map, find, take, drop, length, Option, Some, None, option_map, is_some, refl, ap, ap₂, sym, subst, ◌∙◌, arith}
use Rattle.std.specs.Prelude.{vec_len}
use Rattle.std.specs.List.{list_all, drop-map}
use Rattle.std.specs.Option.{option_to_list}
use Rattle.std.specs.Vec.{vec_capacity}
use Rattle.std.proofs.lemmas.Bool.{false≢true}
use Rattle.std.proofs.lemmas.List.{append-nil, append_assoc, length-append, map-append, take-append-drop, drop-drop}
use Rattle.std.proofs.lemmas.List.Folds.{list_all-append}
use Rattle.ec_axioms.specs.Timeline.{before_all}
use Rattle.ec_axioms.specs.Marks.{PlainMark}
use Rattle.ec_rows.specs.PlainMarks.{plain_mark, plain_marks}
use Rattle.ec_rows.specs.declared.mark.Mark.{Mark}
use Rattle.ec_lists.proofs.Booleans.{and-left, and-right}
use Rattle.ec_intervals.specs.declared.draft.Draft.{Draft}
use Rattle.ec_intervals.specs.declared.interval.Begin.{Begin}
use Rattle.ec_intervals.specs.declared.interval.Begin.TheVariants.{Initial, At}
use Rattle.ec_intervals.specs.declared.interval.Interval.{Interval}
use Rattle.ec_intervals.specs.Drafts.{drafted, IsFresh, IsReadOver}
use Rattle.ec_intervals.specs.Steps.{open_behind, ended_by, open_through, ended_through, is_behind, up_to_first_behind, first_behind}
use Rattle.ec_intervals.specs.Table.{plain_begin, plain_intervals}
use Rattle.ec_intervals.proofs.Cut.{open_through-append, ended_through-append, open_behind-before_all}

-- ---- the marks up to the first one behind an instant

pub none_behind-up_to : (until : Option ℤ) (xs ys : List PlainMark) → list_all (λ m. not (is_behind until m)) xs ≡ true → up_to_first_behind until (xs ++ ys) ≡ xs ++ up_to_first_behind until ys
unfolding up_to_first_behind
none_behind-up_to until [] ys none = refl
none_behind-up_to until (m ∷ xs) ys none =
    here (is_behind until m) (and-left (not (is_behind until m)) _ none) ∙ ap (λ zs. m ∷ zs) (none_behind-up_to until xs ys (and-right (not (is_behind until m)) _ none))
  where
    here : (b : Bool) → not b ≡ true → m ∷ cond b [] (up_to_first_behind until (xs ++ ys)) ≡ m ∷ up_to_first_behind until (xs ++ ys)
    here true not_none = absurd (false≢true not_none)
    here false not_none = refl

pub none_behind-find : (until : Option ℤ) (xs ys : List PlainMark) → list_all (λ m. not (is_behind until m)) xs ≡ true → find (is_behind until) (xs ++ ys) ≡ find (is_behind until) ys
none_behind-find until [] ys none = refl
none_behind-find until (m ∷ xs) ys none =
    here (is_behind until m) (and-left (not (is_behind until m)) _ none) ∙ none_behind-find until xs ys (and-right (not (is_behind until m)) _ none)
  where
    here : (b : Bool) → not b ≡ true → cond b (Some m) (find (is_behind until) (xs ++ ys)) ≡ find (is_behind until) (xs ++ ys)
    here true not_none = absurd (false≢true not_none)
    here false not_none = refl

-- where none is behind it, these are all
pub first_behind-None : (until : Option ℤ) (xs : List PlainMark) → first_behind until xs ≡ None → list_all (λ m. not (is_behind until m)) xs ≡ true
first_behind-None until [] none = refl
first_behind-None until (m ∷ xs) none = here (is_behind until m) none (first_behind-None until xs)
  where
    here : (b : Bool) → option_map (λ (n : PlainMark). n.instant) (cond b (Some m) (find (is_behind until) xs)) ≡ None →
        (first_behind until xs ≡ None → list_all (λ n. not (is_behind until n)) xs ≡ true) → (not b && list_all (λ n. not (is_behind until n)) xs) ≡ true
    here true none rest = absurd (let no = none in cc)
    here false none rest = rest none

pub up_to_all : (until : Option ℤ) (xs : List PlainMark) → list_all (λ m. not (is_behind until m)) xs ≡ true → up_to_first_behind until xs ≡ xs
unfolding up_to_first_behind
up_to_all until xs none = ap (up_to_first_behind until) (sym (append-nil xs)) ∙ none_behind-up_to until xs [] none ∙ append-nil xs

-- where no instant is given, all are read
pub up_to-None : (xs : List PlainMark) → up_to_first_behind None xs ≡ xs
unfolding up_to_first_behind
up_to-None [] = refl
up_to-None (m ∷ xs) = ap (λ ms. m ∷ ms) (up_to-None xs)

-- no more are read than there are
pub length-up_to : (until : Option ℤ) (xs : List PlainMark) → length (up_to_first_behind until xs) ≤ length xs
unfolding up_to_first_behind
length-up_to until [] = omega arith
length-up_to until (m ∷ xs) = one (is_behind until m) (length-up_to until xs)
  where
    one : (b : Bool) → length (up_to_first_behind until xs) ≤ length xs → length (m ∷ cond b [] (up_to_first_behind until xs)) ≤ length (m ∷ xs)
    one true rest = omega (arith, rest)
    one false rest = omega (arith, rest)

-- where one is, what follows is not read
module _ (until : Option ℤ) where
  pub first_behind-front : (xs ys : List PlainMark) → is_some (first_behind until xs) ≡ true →
      (up_to_first_behind until (xs ++ ys) ≡ up_to_first_behind until xs) × (first_behind until (xs ++ ys) ≡ first_behind until xs)
  unfolding up_to_first_behind
  first_behind-front [] ys some = absurd (false≢true some)
  first_behind-front (m ∷ xs) ys some = here (is_behind until m) some (first_behind-front xs ys)
    where
      here : (b : Bool) → is_some (option_map (λ (n : PlainMark). n.instant) (cond b (Some m) (find (is_behind until) xs))) ≡ true →
          (is_some (first_behind until xs) ≡ true → (up_to_first_behind until (xs ++ ys) ≡ up_to_first_behind until xs) × (first_behind until (xs ++ ys) ≡ first_behind until xs)) →
          (m ∷ cond b [] (up_to_first_behind until (xs ++ ys)) ≡ m ∷ cond b [] (up_to_first_behind until xs))
          × (option_map (λ (n : PlainMark). n.instant) (cond b (Some m) (find (is_behind until) (xs ++ ys))) ≡ option_map (λ (n : PlainMark). n.instant) (cond b (Some m) (find (is_behind until) xs)))
      here true some rest = (refl, refl)
      here false some rest = let same = rest some in (ap (λ zs. m ∷ zs) same.0, same.1)

-- ---- marks of a row

-- what is left of a row begins with the marks that are read together
pub marks-run : {T : Type 0} (rank : T → ℤ) (marks run : List (Mark T)) (i : ℕ) → run ≡ take (length run) (drop i marks) →
    drop i (plain_marks rank marks) ≡ plain_marks rank run ++ drop (i + length run) (plain_marks rank marks)
marks-run rank marks run i is =
    drop-map (plain_mark rank) i marks ∙ ap (map (plain_mark rank)) (sym (take-append-drop (length run) (drop i marks)) ∙ ap₂ (λ xs ys. xs ++ ys) (sym is) (drop-drop (length run) i marks))
    ∙ map-append (plain_mark rank) run (drop (i + length run) marks)
    ∙ ap (λ ms. plain_marks rank run ++ ms) (sym (drop-map (plain_mark rank) (i + length run) marks))

-- ---- drafts

module _ {T : Type 0} (rank : T → ℤ) (strong : Bool) where
  begin-initial : (o : Option (Begin T)) → option_map (plain_begin rank) o ≡ Some before_all → o ≡ Some Initial
  begin-initial None is = absurd (let no = is in cc)
  begin-initial (Some Initial) is = refl
  begin-initial (Some (At t)) is = absurd (let no = is in cc)

  plain-nil : (xs : List (Interval T)) → plain_intervals rank xs ≡ [] → xs ≡ []
  plain-nil [] is = refl
  plain-nil (x ∷ xs) is = absurd (let no = is in cc)

  -- over no mark
  pub IsReadOver-none : (draft : Draft T) → IsFresh draft → IsReadOver rank strong [] draft draft
  unfolding open_through ended_through
  IsReadOver-none draft fresh = record {
    begun = refl;
    intervals = sym (append-nil (plain_intervals rank (drafted draft)));
    fresh = fresh;
    count = omega arith;
    capacity = refl;
  }

  -- over one
  pub IsReadOver-mark : (m : PlainMark) (old new : Draft T) → IsFresh old → option_map (plain_begin rank) new.begun ≡ open_behind strong (option_map (plain_begin rank) old.begun) m →
      plain_intervals rank (drafted new) ≡ plain_intervals rank (drafted old) ++ option_to_list (ended_by (option_map (plain_begin rank) old.begun) m) →
      vec_len new.spans ≤ vec_len old.spans + 1 → vec_capacity new.spans ≡ vec_capacity old.spans → IsReadOver rank strong (m ∷ []) old new
  unfolding open_through ended_through
  IsReadOver-mark m old new fresh opened added count capacity = record {
    begun = opened;
    intervals = added ∙ ap (λ xs. plain_intervals rank (drafted old) ++ xs) (sym (append-nil (option_to_list (ended_by (option_map (plain_begin rank) old.begun) m))));
    fresh = λ is.
        let before = open_behind-before_all strong (option_map (plain_begin rank) old.begun) m (sym opened ∙ ap (option_map (plain_begin rank)) is) in
        plain-nil (drafted new)
        (added ∙ ap₂ (λ xs o. plain_intervals rank xs ++ option_to_list o) (fresh (begin-initial old.begun before.0)) before.1);
    count = count;
    capacity = capacity;
  }

  -- over two parts
  pub IsReadOver-append : (xs ys : List PlainMark) (old mid new : Draft T) → IsReadOver rank strong xs old mid → IsReadOver rank strong ys mid new → IsReadOver rank strong (xs ++ ys) old new
  IsReadOver-append xs ys old mid new first second = record {
    begun = second.begun ∙ ap (λ b. open_through strong b ys) first.begun ∙ sym (open_through-append strong (option_map (plain_begin rank) old.begun) xs ys);
    intervals =
        second.intervals
        ∙ ap₂ (λ zs b. zs ++ ended_through strong b ys) first.intervals first.begun
        ∙ append_assoc (plain_intervals rank (drafted old)) (ended_through strong (option_map (plain_begin rank) old.begun) xs)
        (ended_through strong (open_through strong (option_map (plain_begin rank) old.begun) xs) ys)
        ∙ ap (λ zs. plain_intervals rank (drafted old) ++ zs) (sym (ended_through-append strong (option_map (plain_begin rank) old.begun) xs ys));
    fresh = second.fresh;
    count = let lengths = length-append xs ys in let one = first.count in let two = second.count in omega (arith, one, two, lengths);
    capacity = second.capacity ∙ first.capacity;
  }

  -- what is read of some marks, when others are left and none was behind the instant
  pub record IsReadUpTo (until : Option ℤ) (whole left : List PlainMark) (old new : Draft T) : Type 0 where
    pub passed : List PlainMark
    pub split : whole ≡ passed ++ left
    pub none : list_all (λ m. not (is_behind until m)) passed ≡ true
    pub read : IsReadOver rank strong passed old new

  module _ (until : Option ℤ) (whole : List PlainMark) where
    pub IsReadUpTo-none : (draft : Draft T) → IsFresh draft → IsReadUpTo until whole whole draft draft
    IsReadUpTo-none draft fresh = record { passed = []; split = refl; none = refl; read = IsReadOver-none draft fresh }

    module _ (run left : List PlainMark) (old mid new : Draft T) (so_far : IsReadUpTo until whole (run ++ left) old mid) (over : IsReadOver rank strong (up_to_first_behind until run) mid new) where
      -- a part of which no mark is behind it
      pub IsReadUpTo-run : first_behind until run ≡ None → IsReadUpTo until whole left old new
      IsReadUpTo-run none =
          let none_behind = first_behind-None until run none in
          record {
            passed = so_far.passed ++ run;
            split = so_far.split ∙ sym (append_assoc so_far.passed run left);
            none = list_all-append (λ m. not (is_behind until m)) so_far.passed run ∙ ap₂ (λ a b. a && b) so_far.none none_behind;
            read = IsReadOver-append so_far.passed run old mid new so_far.read (subst (λ ms. IsReadOver rank strong ms mid new) (up_to_all until run none_behind) over);
          }

      -- a part with one behind it
      pub IsReadOver-run : is_some (first_behind until run) ≡ true → IsReadOver rank strong (up_to_first_behind until whole) old new
      IsReadOver-run some =
          subst (λ ms. IsReadOver rank strong ms old new)
          (sym (ap (up_to_first_behind until) so_far.split ∙ none_behind-up_to until so_far.passed (run ++ left) so_far.none
          ∙ ap (λ ms. so_far.passed ++ ms) (first_behind-front until run left some).0))
          (IsReadOver-append so_far.passed (up_to_first_behind until run) old mid new so_far.read over)

      pub first_behind-run : is_some (first_behind until run) ≡ true → first_behind until run ≡ first_behind until whole
      first_behind-run some =
          sym (ap (first_behind until) so_far.split ∙ ap (option_map (λ (n : PlainMark). n.instant)) (none_behind-find until so_far.passed (run ++ left) so_far.none)
          ∙ (first_behind-front until run left some).1)

    module _ (m : PlainMark) (left : List PlainMark) (old mid new : Draft T) (so_far : IsReadUpTo until whole (m ∷ left) old mid) (over : IsReadOver rank strong (m ∷ []) mid new) where
      over-one : IsReadOver rank strong (up_to_first_behind until (m ∷ [])) mid new
      unfolding up_to_first_behind
      over-one = subst (λ ms. IsReadOver rank strong ms mid new) (one (is_behind until m)) over
        where
          one : (b : Bool) → m ∷ [] ≡ m ∷ cond b [] []
          one true = refl
          one false = refl

      -- a mark that is not behind it
      pub IsReadUpTo-one : is_behind until m ≡ false → IsReadUpTo until whole left old new
      IsReadUpTo-one up_to = IsReadUpTo-run (m ∷ []) left old mid new so_far over-one (ap (λ b. option_map (λ (n : PlainMark). n.instant) (cond b (Some m) None)) up_to)

      -- and one that is
      pub IsReadOver-one : is_behind until m ≡ true → IsReadOver rank strong (up_to_first_behind until whole) old new
      IsReadOver-one behind = IsReadOver-run (m ∷ []) left old mid new so_far over-one (ap (λ b. is_some (option_map (λ (n : PlainMark). n.instant) (cond b (Some m) None))) behind)

      pub first_behind-one : is_behind until m ≡ true → Some m.instant ≡ first_behind until whole
      first_behind-one behind =
          sym (ap (λ b. option_map (λ (n : PlainMark). n.instant) (cond b (Some m) None)) behind)
          ∙ first_behind-run (m ∷ []) left old mid new so_far over-one (ap (λ b. is_some (option_map (λ (n : PlainMark). n.instant) (cond b (Some m) None))) behind)

    -- the draft has grown by no more than what is read
    pub IsReadUpTo-count : (left : List PlainMark) (old new : Draft T) → IsReadUpTo until whole left old new → vec_len new.spans + length left ≤ vec_len old.spans + length whole
    IsReadUpTo-count left old new so_far =
        let count = so_far.read.count in
        let lengths : length whole ≡ length so_far.passed + length left = ap length so_far.split ∙ length-append so_far.passed left in
        omega (arith, count, lengths)

    -- all is read
    module _ (old new : Draft T) (left : List PlainMark) (nothing : left ≡ []) (so_far : IsReadUpTo until whole left old new) where
      passed-all : whole ≡ so_far.passed
      passed-all = so_far.split ∙ ap (λ ms. so_far.passed ++ ms) nothing ∙ append-nil so_far.passed

      pub IsReadOver-all : IsReadOver rank strong (up_to_first_behind until whole) old new
      IsReadOver-all =
          subst (λ ms. IsReadOver rank strong ms old new) (sym (ap (up_to_first_behind until) passed-all ∙ up_to_all until so_far.passed so_far.none)) so_far.read

      pub first_behind-all : None ≡ first_behind until whole
      first_behind-all =
          sym (ap (first_behind until) (passed-all ∙ sym (append-nil so_far.passed)) ∙ ap (option_map (λ (n : PlainMark). n.instant)) (none_behind-find until so_far.passed [] so_far.none))
