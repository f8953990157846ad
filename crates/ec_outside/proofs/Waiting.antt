-- How a sink that holds back bytes keeps what it stands for.
use Rattle.std.proofs.Common.{◌≡◌, ◌∙◌, ℕ, List, [], ◌++◌, sym, ap, append_assoc, append-nil, ◌+◌, ◌-◌, take, drop, length, subst, take-append-drop, arith, Result, Ok, Err, is_ok, true, OnOk}
use Rattle.std.proofs.lemmas.List.{drop-drop, take_all, take_rest}
use Rattle.ec_outside.specs.Streams.{Appended, NothingAppended}
use Rattle.ec_outside.specs.BufferedState.{stands_with_waiting}
use Rattle.ec_outside.proofs.Streams.{NothingAppended-then, NothingAppended-then-Appended}

module _ {S : Type 0} {stands : S → List ℕ → Type 0} where
  -- bytes that are handed on were written before
  pub NothingAppended-sent : {before after : S} {waiting rest done : List ℕ} → Appended stands before after done → waiting ≡ done ++ rest
      → NothingAppended (stands_with_waiting stands) (before, waiting) (after, rest)
  NothingAppended-sent {rest = rest} {done = done} appended whole = record {
    same = λ text (front, (stood, is)). (
      front ++ done,
      (appended.follows front stood, is ∙ ap (λ all. front ++ all) whole ∙ sym (append_assoc front done rest)),
    );
  }

  -- where no bytes wait, what is appended behind is appended
  pub Appended-behind : {before after : S} {bytes : List ℕ} → Appended stands before after bytes
      → Appended (stands_with_waiting stands) (before, []) (after, []) bytes
  Appended-behind {bytes = bytes} behind = record {
    follows = λ text (front, (stood, is)). (
      front ++ bytes,
      (behind.follows front stood, ap (λ all. all ++ bytes) (is ∙ append-nil front) ∙ sym (append-nil (front ++ bytes))),
    );
  }

  -- what is kept behind is kept
  pub NothingAppended-behind : {before after : S} (waiting : List ℕ) → NothingAppended stands before after → NothingAppended (stands_with_waiting stands) (before, waiting) (after, waiting)
  NothingAppended-behind waiting behind = record { same = λ text (front, (stood, is)). (front, (behind.same front stood, is)) }

-- the first bytes of those that wait were handed on
pub NothingAppended-some : {S : Type 0} {stands : S → List ℕ → Type 0} {before after : S} (buffer : List ℕ) (sent count : ℕ)
    → Appended stands before after (take count (take (length buffer - sent) (drop sent buffer)))
    → NothingAppended (stands_with_waiting stands) (before, drop sent buffer) (after, drop (sent + count) buffer)
NothingAppended-some {stands = stands} {before = before} {after = after} buffer sent count appended =
    NothingAppended-sent (subst (λ (all : List ℕ). Appended stands before after (take count all)) (take_rest buffer sent) appended)
    (sym (take-append-drop count (drop sent buffer)) ∙ ap (λ rest. take count (drop sent buffer) ++ rest) (drop-drop count sent buffer))

-- all bytes that wait were handed on
pub NothingAppended-all : {S : Type 0} {stands : S → List ℕ → Type 0} {before after : S} (buffer : List ℕ) (sent count : ℕ)
    → Appended stands before after (take count (take (length buffer - sent) (drop sent buffer)))
    → count ≡ length (take (length buffer - sent) (drop sent buffer))
    → NothingAppended (stands_with_waiting stands) (before, drop sent buffer) (after, [])
NothingAppended-all {stands = stands} {before = before} {after = after} buffer sent count appended all =
    NothingAppended-sent
    (subst (λ (some : List ℕ). Appended stands before after some)
    (take_all count (take (length buffer - sent) (drop sent buffer)) (omega arith) ∙ take_rest buffer sent) appended)
    (sym (append-nil (drop sent buffer)))

-- what is said of a result that is `Ok`
pub from_on_ok : {T E P : Type 0} (r : Result T E) → is_ok r ≡ true → OnOk r P → P
from_on_ok (Ok x) _ holds = holds
from_on_ok (Err e) wrong holds = absurd (cc)

-- what a flush of the sink behind keeps is kept
pub NothingAppended-flushed : {S : Type 0} {stands : S → List ℕ → Type 0} {before middle : S × List ℕ} {sink after : S} (waiting : List ℕ)
    → NothingAppended (stands_with_waiting stands) before middle → (sink, waiting) ≡ middle → NothingAppended stands sink after
    → NothingAppended (stands_with_waiting stands) before (after, waiting)
NothingAppended-flushed {stands = stands} {before = before} waiting kept is behind =
    NothingAppended-then (subst (λ m. NothingAppended (stands_with_waiting stands) before m) (sym is) kept) (NothingAppended-behind waiting behind)

-- all of the bytes, as many as there are
pub Appended-whole : {S : Type 0} (stands : S → List ℕ → Type 0) (before after : S) (bytes : List ℕ)
    → Appended stands before after bytes → Appended stands before after (take (length bytes) bytes)
Appended-whole stands before after bytes appended =
    subst (λ (all : List ℕ). Appended stands before after all) (sym (take_all (length bytes) bytes (omega arith))) appended

-- bytes that were kept once those before them were handed on are appended
pub Appended-waited : {S : Type 0} (stands : S → List ℕ → Type 0) (before same middle after : S × List ℕ) (bytes : List ℕ)
    → same ≡ before → NothingAppended (stands_with_waiting stands) same middle → Appended (stands_with_waiting stands) middle after bytes
    → Appended (stands_with_waiting stands) before after (take (length bytes) bytes)
Appended-waited stands before same middle after bytes is kept appended =
    Appended-whole (stands_with_waiting stands) before after bytes
    (NothingAppended-then-Appended (subst (λ s. NothingAppended (stands_with_waiting stands) s middle) is kept) appended)

-- bytes that were written behind, where none wait, are appended
pub Appended-passed : {S : Type 0} {stands : S → List ℕ → Type 0} {before same middle again : S × List ℕ} {sink after : S} {bytes : List ℕ} (waiting : List ℕ)
    → same ≡ before → NothingAppended (stands_with_waiting stands) same middle → middle.1 ≡ [] → again ≡ middle → (sink, waiting) ≡ again
    → Appended stands sink after bytes → Appended (stands_with_waiting stands) before (after, waiting) bytes
Appended-passed {S = S} {stands = stands} {before = before} {middle = middle} {sink = sink} {after = after} {bytes = bytes} waiting first kept none second is behind =
    let whole : (sink, waiting) ≡ middle = is ∙ second in
    let empty : waiting ≡ [] = ap (λ (m : S × List ℕ). m.1) whole ∙ none in
    let start : NothingAppended (stands_with_waiting stands) before middle = subst (λ s. NothingAppended (stands_with_waiting stands) s middle) first kept in
    let opened : NothingAppended (stands_with_waiting stands) before (sink, waiting) = subst (λ m. NothingAppended (stands_with_waiting stands) before m) (sym whole) start in
    let emptied : NothingAppended (stands_with_waiting stands) before (sink, []) = subst (λ (all : List ℕ). NothingAppended (stands_with_waiting stands) before (sink, all)) empty opened in
    subst (λ (all : List ℕ). Appended (stands_with_waiting stands) before (after, all) bytes) (sym empty)
    (NothingAppended-then-Appended emptied (Appended-behind behind))

pub NothingAppended-passed : {S : Type 0} {stands : S → List ℕ → Type 0} {before same middle again : S × List ℕ} {sink after : S} (waiting : List ℕ)
    → same ≡ before → NothingAppended (stands_with_waiting stands) same middle → again ≡ middle → (sink, waiting) ≡ again
    → NothingAppended stands sink after → NothingAppended (stands_with_waiting stands) before (after, waiting)
NothingAppended-passed {stands = stands} {middle = middle} waiting first kept second is behind =
    NothingAppended-flushed waiting (subst (λ s. NothingAppended (stands_with_waiting stands) s middle) first kept) (is ∙ second) behind
