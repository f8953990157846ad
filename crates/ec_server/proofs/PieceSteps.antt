-- How a piece of the input is served, line by line.
use Rattle.std.proofs.Common.{◌≡◌, ℕ, ◌-◌, Bool, true, false, List, [], ◌∷◌, ◌++◌, length, take, drop, refl, sym, ap, ◌∙◌, subst, append_assoc, append-nil, take-append-drop, arith}
use Rattle.std.proofs.lemmas.List.{take_rest}
use Rattle.ec_commands.specs.Lines.{cut_of, whole_lines}
use Rattle.ec_replies.specs.State.{State}
use Rattle.ec_replies.specs.Replies.{Language}
use Rattle.ec_sessions.specs.Handling.{IsHandled}
use Rattle.ec_server.specs.Answered.{IsServing}
use Rattle.ec_lines.specs.FeedState.{FeedState, IsPart, IsReady, Advances}
use Rattle.ec_sessions.specs.declared.handled.Handled.{Handled}
use Rattle.ec_sessions.specs.declared.handled.Handled.TheVariants.{Go, Bye, WriteFault}
use Rattle.ec_server.specs.Serving.{IsAt, IsPieceHandled}
use Rattle.ec_server.proofs.PartialReplies.{AnswersPart-line}
use Rattle.ec_server.proofs.Serving.{IsServing-piece, IsServing-line, HasQuit-line}

-- what goes on, and what ends with `quit`, did not end with a fault
pub go_is_quiet : Go ≡ WriteFault → ⊥
go_is_quiet same = cc

pub bye_is_quiet : Bye ≡ WriteFault → ⊥
bye_is_quiet same = cc

module _ {K : Type 0} (stands : K → List ℕ → Type 0) (language : Language) where
  -- no line is ready: the feed is at the rest of more bytes
  pub IsAt-part : (taken longer : List ℕ) (state : State) (feed : FeedState) (start now : K) → IsServing stands language taken state start now
      → Advances false feed taken longer → IsAt stands language longer state feed start now
  IsAt-part taken longer state feed start now serving advances = record { part = advances.0; serving = IsServing-piece advances.1 serving }

  -- a line is ready and was handled, and the feed begins the next one
  pub IsPieceHandled-line : (handled : Handled) (taken longer line : List ℕ) (state after : State) (next : FeedState) (start now then_ : K)
      → IsServing stands language taken state start now → whole_lines longer ≡ whole_lines taken ++ line ∷ [] → (cut_of longer).rest ≡ []
      → IsHandled stands language handled line state after now then_ → IsPart next [] → IsPieceHandled stands language handled longer after next start then_
  IsPieceHandled-line Go taken longer line state after next start now then_ serving same none answered part = record {
    part = subst (λ (rest : List ℕ). IsPart next rest) (sym none) part;
    serving = IsServing-line same serving answered;
  }
  IsPieceHandled-line Bye taken longer line state after next start now then_ serving same none answered part = HasQuit-line longer [] same (sym (append-nil longer)) serving answered
  IsPieceHandled-line WriteFault taken longer line state after next start now then_ serving same none answered part =
      record { done = longer; rest = []; split = sym (append-nil longer); part = AnswersPart-line same serving answered }

  -- what the handling of the line that is ready leaves
  pub IsPieceHandled-ready : (handled : Handled) (is_ready : Bool) (taken longer : List ℕ) (state after : State) (feed next : FeedState) (start now then_ : K) → is_ready ≡ true
      → Advances is_ready feed taken longer → ((line : List ℕ) → IsReady feed line → IsHandled stands language handled line state after now then_) → IsPart next []
      → IsServing stands language taken state start now → IsPieceHandled stands language handled longer after next start then_
  IsPieceHandled-ready handled true taken longer state after feed next start now then_ ready advances says part serving =
      IsPieceHandled-line handled taken longer advances.0 state after next start now then_ serving advances.2 advances.3 (says advances.0 advances.1) part
  IsPieceHandled-ready handled false taken longer state after feed next start now then_ ready advances says part serving = cc

  -- what stands where no line is ready
  pub IsPieceHandled-part : (is_ready : Bool) (taken longer : List ℕ) (state : State) (feed : FeedState) (start now : K) → is_ready ≡ false
      → Advances is_ready feed taken longer → IsServing stands language taken state start now → IsAt stands language longer state feed start now
  IsPieceHandled-part false taken longer state feed start now none advances serving = IsAt-part taken longer state feed start now serving advances
  IsPieceHandled-part true taken longer state feed start now none advances serving = cc

  -- what was served of a first part of the bytes and ended there
  pub IsPieceHandled-more : (handled : Handled) (taken more all : List ℕ) (state : State) (feed : FeedState) (start now : K) → (handled ≡ Go → ⊥) → all ≡ taken ++ more
      → IsPieceHandled stands language handled taken state feed start now → IsPieceHandled stands language handled all state feed start now
  IsPieceHandled-more Go taken more all state feed start now other split served = absurd (other refl)
  IsPieceHandled-more Bye taken more all state feed start now other split served = record {
    done = served.done;
    rest = served.rest ++ more;
    split = split ∙ ap (λ (t : List ℕ). t ++ more) served.split ∙ append_assoc served.done served.rest more;
    quit = served.quit;
    answers = served.answers;
  }
  IsPieceHandled-more WriteFault taken more all state feed start now other split served = record {
    done = served.done;
    rest = served.rest ++ more;
    split = split ∙ ap (λ (t : List ℕ). t ++ more) served.split ∙ append_assoc served.done served.rest more;
    part = served.part;
  }

-- A piece of the input is under way: the bytes before the rest are served, and no fault was counted.
pub record IsUnderWay {K : Type 0} (stands : K → List ℕ → Type 0) (faults : K → ℕ) (language : Language) (piece rest : List ℕ)
    (before now : State) (feed_before feed : FeedState) (out_before out : K) : Type 0 where
  pub done : List ℕ
  pub split : piece ≡ done ++ rest
  pub serves : (taken : List ℕ) (start : K) → IsAt stands language taken before feed_before start out_before → IsAt stands language (taken ++ done) now feed start out
  pub ready : feed.is_ready ≡ false
  pub quiet : faults out ≡ faults out_before

-- a list without members
pub empty_list : (xs : List ℕ) → length xs ≡ 0 → xs ≡ []
empty_list [] none = refl
empty_list (x ∷ xs) none = absurd (omega arith)

module _ {K : Type 0} (stands : K → List ℕ → Type 0) (faults : K → ℕ) (language : Language) (piece : List ℕ) (before : State) (feed_before : FeedState) (out_before : K) where
  -- nothing is served yet
  pub IsUnderWay-start : feed_before.is_ready ≡ false → IsUnderWay stands faults language piece piece before before feed_before feed_before out_before out_before
  IsUnderWay-start ready = record {
    done = [];
    split = refl;
    serves = λ taken start at. subst (λ (t : List ℕ). IsAt stands language t before feed_before start out_before) (sym (append-nil taken)) at;
    ready = ready;
    quiet = refl;
  }

  -- the bytes up to the next line end, or all of them, are served
  pub IsUnderWay-next : (rest : List ℕ) (count : ℕ) (now next : State) (feed fed next_feed : FeedState) (out next_out : K)
      → IsUnderWay stands faults language piece rest before now feed_before feed out_before out
      → ((stream : List ℕ) → IsPart feed (cut_of stream).rest → Advances fed.is_ready fed stream (stream ++ take count rest))
      → ((taken longer : List ℕ) (start : K) → IsServing stands language taken now start out → Advances fed.is_ready fed taken longer → IsAt stands language longer next next_feed start next_out)
      → next_feed.is_ready ≡ false → faults next_out ≡ faults out
      → IsUnderWay stands faults language piece (take (length rest - count) (drop count rest)) before next feed_before next_feed out_before next_out
  IsUnderWay-next rest count now next feed fed next_feed out next_out under stream served ready quiet = record {
    done = under.done ++ take count rest;
    split = under.split ∙ ap (λ (r : List ℕ). under.done ++ r) (sym (take-append-drop count rest))
        ∙ sym (append_assoc under.done (take count rest) (drop count rest))
        ∙ ap (λ (r : List ℕ). (under.done ++ take count rest) ++ r) (sym (take_rest rest count));
    serves = λ taken start at. let here = under.serves taken start at in
        subst (λ (t : List ℕ). IsAt stands language t next next_feed start next_out) (append_assoc taken under.done (take count rest))
        (served (taken ++ under.done) ((taken ++ under.done) ++ take count rest) start here.serving (stream (taken ++ under.done) here.part));
    ready = ready;
    quiet = quiet ∙ under.quiet;
  }

  -- a line ended the serving of the piece
  pub IsUnderWay-stop : (handled : Handled) (rest : List ℕ) (count : ℕ) (now next : State) (feed fed next_feed : FeedState) (out next_out : K)
      → IsUnderWay stands faults language piece rest before now feed_before feed out_before out → (handled ≡ Go → ⊥)
      → ((stream : List ℕ) → IsPart feed (cut_of stream).rest → Advances fed.is_ready fed stream (stream ++ take count rest))
      → ((taken longer : List ℕ) (start : K) → IsServing stands language taken now start out → Advances fed.is_ready fed taken longer
      → IsPieceHandled stands language handled longer next next_feed start next_out)
      → (taken : List ℕ) (start : K) → IsAt stands language taken before feed_before start out_before
      → IsPieceHandled stands language handled (taken ++ piece) next next_feed start next_out
  IsUnderWay-stop handled rest count now next feed fed next_feed out next_out under other stream served taken start at =
      let here = under.serves taken start at in
      IsPieceHandled-more stands language handled ((taken ++ under.done) ++ take count rest) (drop count rest) (taken ++ piece) next next_feed start next_out other
      (ap (λ (p : List ℕ). taken ++ p) (under.split ∙ ap (λ (r : List ℕ). under.done ++ r) (sym (take-append-drop count rest)) ∙ sym (append_assoc under.done (take count rest) (drop count rest)))
      ∙ sym (append_assoc taken (under.done ++ take count rest) (drop count rest))
      ∙ ap (λ (t : List ℕ). t ++ drop count rest) (sym (append_assoc taken under.done (take count rest))))
      (served (taken ++ under.done) ((taken ++ under.done) ++ take count rest) start here.serving (stream (taken ++ under.done) here.part))

  -- the whole piece is served
  pub IsUnderWay-end : (rest : List ℕ) (now : State) (feed : FeedState) (out : K) → IsUnderWay stands faults language piece rest before now feed_before feed out_before out
      → rest ≡ [] → (taken : List ℕ) (start : K) → IsAt stands language taken before feed_before start out_before → IsAt stands language (taken ++ piece) now feed start out
  IsUnderWay-end rest now feed out under none taken start at =
      let whole : piece ≡ under.done = under.split ∙ ap (λ (r : List ℕ). under.done ++ r) none ∙ append-nil under.done in
      subst (λ (t : List ℕ). IsAt stands language t now feed start out) (ap (λ (p : List ℕ). taken ++ p) (sym whole)) (under.serves taken start at)
