-- How far an input is served, turn by turn.
use Rattle.std.proofs.Common.{◌≡◌, ◌≤◌, ◌<◌, ℕ, zero, suc, ◌+◌, ◌-◌, ◌⊎◌, Bool, true, false, ◌==◌, ◌&&◌, inl, inr, List, [], ◌++◌, length, take, Result, Ok, Err, IfOk, OnErr, OnOk, append-nil, sym, refl, ap, ◌∙◌, subst, arith, length-append}
use Rattle.std.specs.Prelude.{Option, is_err, nat_lt}
use Rattle.std.proofs.lemmas.Bool.{ne_eqb}
use Rattle.std.proofs.lemmas.List.{length-take-le}
use Rattle.ec_commands.specs.Lines.{cut_of}
use Rattle.ec_replies.specs.State.{State, empty_state}
use Rattle.ec_replies.specs.Replies.{Language}
use Rattle.ec_server.specs.Answered.{IsServing}
use Rattle.ec_lines.specs.FeedState.{FeedState, IsPart}
use Rattle.ec_outside.specs.Counts.{Rose, next_count}
use Rattle.ec_outside.specs.Reads.{meets_end, next_ended}
use Rattle.ec_outside.specs.Streams.{Took, NothingAppended}
use Rattle.ec_outside.proofs.Counts.{Rose-next, next_count-Rose}
use Rattle.ec_outside.proofs.Streams.{Took-then, Took-nil, NothingAppended-refl, NothingAppended-then}
use Rattle.ec_server.specs.Serving.{IsAt}
use Rattle.ec_server.proofs.Serving.{IsServing-start, IsServing-kept}

-- a read that gave nothing took nothing
pub Took-none : {a b c : Option (List ℕ)} {taken : List ℕ} (buffer : List ℕ) (count : ℕ) → Took a b taken → Took b c (take count buffer) → count ≡ 0 → Took a c taken
Took-none {a} {c = c} {taken = taken} buffer count first second none =
    subst (λ (t : List ℕ). Took a c t) (ap (λ (n : ℕ). taken ++ take n buffer) none ∙ append-nil taken) (Took-then first second)

-- what is said of a result without an error, and of one with an error
pub from_no_err : {T E P : Type 0} (r : Result T E) → is_err r ≡ false → OnOk r P → P
from_no_err (Ok x) fine holds = holds
from_no_err (Err e) fine holds = absurd (cc)

pub from_err : {T E P : Type 0} (r : Result T E) → is_err r ≡ true → OnErr r P → P
from_err (Ok x) failed holds = absurd (cc)
from_err (Err e) failed holds = holds

-- ---- numbers of bytes

-- a piece has as many bytes as were read
pub piece_size : (count most : ℕ) (buffer : List ℕ) → count ≤ most → length buffer ≡ most → length (take count buffer) ≡ count
piece_size count most buffer within long = length-take-le count buffer (omega (arith, within, long))

pub piece_fits : (count most : ℕ) (buffer : List ℕ) → count ≤ most → length buffer ≡ most → count ≤ length buffer
piece_fits count most buffer within long = omega (arith, within, long)

-- what a piece leaves of the limit
pub piece_shorter : (piece : List ℕ) (count remaining : ℕ) → length piece ≡ count → count ≤ remaining → length piece + (remaining - count) ≡ remaining
piece_shorter piece count remaining size few = omega (arith, size, few)

pub piece_within : (taken piece : List ℕ) (count remaining limit : ℕ) → length taken + remaining ≡ limit → length piece ≡ count → count ≤ remaining → length (taken ++ piece) ≤ limit
piece_within taken piece count remaining limit within size few = omega (arith, length-append taken piece, within, size, few)

-- what was taken is within the limit, and below it where something of it is left
pub taken_within : (taken : List ℕ) (remaining limit : ℕ) → length taken + remaining ≡ limit → length taken ≤ limit
taken_within taken remaining limit within = omega (arith, within)

pub taken_below : (taken : List ℕ) (remaining limit : ℕ) → length taken + remaining ≡ limit → (remaining ≡ 0 → ⊥) → length taken < limit
taken_below taken zero limit within some = absurd (some refl)
taken_below taken (suc remaining) limit within some = omega (arith, within)

-- a piece with a byte leaves less
pub less_left : (count remaining : ℕ) → (count ≡ 0 → ⊥) → count ≤ remaining → remaining - count < remaining
less_left zero remaining some few = absurd (some refl)
less_left (suc count) remaining some few = omega (arith, few)

pub some_left : (remaining : ℕ) → (remaining ≡ 0 → ⊥) → 0 < remaining
some_left zero some = absurd (some refl)
some_left (suc remaining) some = omega arith

-- ---- counts of reads

-- a read that does not meet the end leaves the count at none
ended-none : (met : Bool) (ended : ℕ) → met ≡ false → ended ≡ 0 → next_ended ended met ≡ 0
ended-none met ended unmet none = subst (λ (b : Bool). next_ended ended b ≡ 0) (sym unmet) (subst (λ (n : ℕ). next_ended n false ≡ 0) (sym none) refl)

-- a read that gave a byte does not meet it
ended-going : (count room ended : ℕ) → 0 < count → ended ≡ 0 → next_ended ended ((count == 0) && nat_lt 0 room) ≡ 0
ended-going count room ended some none =
    let given : (count == 0) ≡ false = ne_eqb count 0 (λ same. omega (arith, some, same)) in
    ended-none ((count == 0) && nat_lt 0 room) ended (ap (λ (b : Bool). b && nat_lt 0 room) given) none

-- one read meets the end at the most, where none met it before
pub ended-once : (met : Bool) (ended : ℕ) → ended ≡ 0 → next_ended ended met ≤ 1
ended-once true ended none = rw none (omega arith)
ended-once false ended none = rw none (omega arith)

-- so it is with what a read answers
pub going-read : {E : Type 0} (result : Result ℕ E) (room before after : ℕ) → after ≡ next_ended before (meets_end result room)
    → IfOk result (λ count. 0 < count → before ≡ 0 → after ≡ 0)
going-read (Ok count) room before after is = λ some none. is ∙ ended-going count room before some none
going-read (Err failed) room before after is = tt

pub once-read : {E : Type 0} (result : Result ℕ E) (room before after : ℕ) → after ≡ next_ended before (meets_end result room)
    → before ≡ 0 → after ≤ 1
once-read result room before after is none = rw is (ended-once (meets_end result room) before none)

pub none_within : {count : ℕ} → count ≡ 0 → count ≤ 1
none_within none = omega (arith, none)

-- where a read was made, or none so far, one more is one that was made
pub reads_begun : {Unread : Type 0} {before middle after : ℕ} → Rose before middle ⊎ ((middle ≡ before) × Unread) → after ≡ next_count middle → Rose before after
reads_begun {before = before} {middle = middle} (inl rose) one_more = rw one_more (Rose-next before middle rose)
reads_begun {before = before} (inr unread) one_more = rw (one_more, unread.0) (next_count-Rose before)

-- ---- turns

-- a read that failed took nothing
pub Took-same : {a b c : Option (List ℕ)} {taken : List ℕ} → c ≡ b → Took a b taken → Took a c taken
Took-same {a} {taken = taken} same took = subst (λ (o : Option (List ℕ)). Took a o taken) (sym same) took

-- where nothing was written before the first read, a flush changes nothing in that
pub unread_kept : {K : Type 0} {stands : K → List ℕ → Type 0} {start now next : K} {before middle : ℕ}
    → Rose before middle ⊎ ((middle ≡ before) × NothingAppended stands start now) → NothingAppended stands now next → Rose before middle ⊎ NothingAppended stands start next
unread_kept (inl rose) kept = inl rose
unread_kept (inr unread) kept = inr (NothingAppended-then unread.1 kept)

-- So many bytes of the limit are left, and the bytes taken so far are served.
pub record IsTaking {S K : Type 0} (left : S → Option (List ℕ)) (stands : K → List ℕ → Type 0) (language : Language)
    (limit remaining : ℕ) (state : State) (feed : FeedState) (input_before input : S) (output_before output : K) : Type 0 where
  pub taken : List ℕ
  pub within : length taken + remaining ≡ limit
  pub took : Took (left input_before) (left input) taken
  pub at : IsAt stands language taken state feed output_before output

module _ {S K : Type 0} (left : S → Option (List ℕ)) (stands : K → List ℕ → Type 0) (language : Language) (limit : ℕ)
    (input_before : S) (output_before : K) where
  -- what is taken at a time
  abbrev Taking : ℕ → State → FeedState → S → K → Type 0
  Taking remaining state feed input output = IsTaking left stands language limit remaining state feed input_before input output_before output

  -- at first nothing is taken
  pub IsTaking-start : (state : State) (feed : FeedState) → state ≡ empty_state → IsPart feed [] → Taking limit state feed input_before output_before
  unfolding cut_of
  IsTaking-start state feed empty part = record {
    taken = [];
    within = omega arith;
    took = Took-nil refl;
    at = record { part = part; serving = subst (λ (s : State). IsServing stands language [] s output_before output_before) (sym empty) (IsServing-start output_before (NothingAppended-refl output_before)) };
  }

  -- a flush
  pub IsTaking-kept : (remaining : ℕ) (state : State) (feed : FeedState) (input : S) (output next : K) → Taking remaining state feed input output → NothingAppended stands output next
      → Taking remaining state feed input next
  IsTaking-kept remaining state feed input output next taking kept = record {
    taken = taking.taken;
    within = taking.within;
    took = taking.took;
    at = record { part = taking.at.part; serving = IsServing-kept taking.at.serving kept };
  }

  -- a piece that was read and served
  pub IsTaking-next : (remaining less : ℕ) (piece : List ℕ) (state after : State) (feed fed : FeedState) (input next : S) (output then_ : K)
      → (taking : Taking remaining state feed input output) → Took (left input) (left next) piece → length piece + less ≡ remaining
      → ((taken : List ℕ) (start : K) → IsAt stands language taken state feed start output → IsAt stands language (taken ++ piece) after fed start then_)
      → Taking less after fed next then_
  IsTaking-next remaining less piece state after feed fed input next output then_ taking took shorter served = record {
    taken = taking.taken ++ piece;
    within = omega (arith, length-append taking.taken piece, taking.within, shorter);
    took = Took-then taking.took took;
    at = served taking.taken output_before taking.at;
  }
