-- What a feed has when it has taken a piece, and at the end.
use Rattle.std.proofs.Common.{◌≡◌, ℕ, ◌<◌, Bool, true, false, ◌||◌, List, [], ◌∷◌, ◌++◌, append-nil, length, refl, sym, ap, ◌∙◌, subst, ⊎_elim, arith}
use Rattle.std.proofs.lemmas.Bool.{cases_Bool, false≢true, lt-ltb}
use Rattle.ec_commands.specs.Lines.{CutText, longest_line, line_feed, is_long, without_return, cut_of, whole_lines, lines_of, last_line}
use Rattle.ec_lines.specs.FeedState.{FeedState, IsPart, IsReady, IsEnded, Advances, Finishes}
use Rattle.ec_lines.proofs.CutLines.{HasNoLineEnd, length-without_return, cut_of-piece, cut_of-piece_line, whole_lines-piece, whole_lines-piece_line}

-- more bytes than a line has
pub is_long-more : (bytes : List ℕ) → longest_line < length bytes → is_long bytes ≡ true
unfolding is_long
is_long-more bytes more = lt-ltb longest_line (length bytes) more

-- A line of some bytes is ready where `part` had kept other bytes: those of the line are kept now, if not too
-- many bytes were there before, and then the line is long anyway.
IsReady-by : (line : List ℕ) (was : Bool) (done : FeedState) → (was ≡ false → done.kept ≡ line) → (was ≡ true → is_long line ≡ true)
    → done.is_ready ≡ true → done.is_long ≡ (was || is_long done.kept) → IsReady done line
IsReady-by line true done kept long ready is = record {
  is_ready = ready;
  same_length = is ∙ sym (long refl);
  kept = λ short. absurd (false≢true (sym short ∙ is));
}
IsReady-by line false done kept long ready is = record {
  is_ready = ready;
  same_length = is ∙ ap is_long (kept refl);
  kept = λ _. kept refl;
}

-- a line end makes a line of the bytes so far, without one carriage return
pub IsReady-line_end : (part dropped done : FeedState) (bytes : List ℕ) → IsPart part bytes
    → dropped.is_long ≡ part.is_long → dropped.kept ≡ without_return part.kept
    → done.is_ready ≡ true → done.is_long ≡ (dropped.is_long || is_long dropped.kept) → done.kept ≡ dropped.kept
    → IsReady done (without_return bytes)
IsReady-line_end part dropped done bytes is_part same kept ready long same_kept =
    IsReady-by (without_return bytes) dropped.is_long done
    (λ short. same_kept ∙ kept ∙ ap without_return (is_part.kept (sym same ∙ short)))
    (λ more. is_long-more (without_return bytes) (omega (arith, length-without_return bytes, is_part.long (sym same ∙ more))))
    ready
    (long ∙ ap (λ all. dropped.is_long || is_long all) (sym same_kept))

-- the end of the stream makes a line of the bytes so far, as they are
pub IsReady-end : (part done : FeedState) (bytes : List ℕ) → IsPart part bytes
    → done.is_ready ≡ true → done.is_long ≡ (part.is_long || is_long part.kept) → done.kept ≡ part.kept
    → IsReady done bytes
IsReady-end part done bytes is_part ready long same_kept =
    IsReady-by bytes part.is_long done
    (λ short. same_kept ∙ is_part.kept short)
    (λ more. is_long-more bytes (omega (arith, is_part.long more)))
    ready
    (long ∙ ap (λ all. part.is_long || is_long all) (sym same_kept))

-- a line of some bytes is what is left at the end
pub IsEnded-some : (feed : FeedState) (bytes : List ℕ) → 0 < length bytes → IsReady feed bytes → IsEnded feed bytes
IsEnded-some feed [] some ready = absurd (omega arith)
IsEnded-some feed (b ∷ bytes) some ready = ready

-- no line is left at the end where nothing is kept
pub IsEnded-none : (feed : FeedState) (bytes : List ℕ) → IsPart feed bytes → feed.is_long ≡ false → length feed.kept ≡ 0 → IsEnded feed bytes
IsEnded-none feed [] part short empty = part
IsEnded-none feed (b ∷ bytes) part short empty = absurd (omega (arith, empty, ap length (part.kept short)))

-- there are bytes of a line where some are kept, or too many to keep
pub length-part : (part : FeedState) (bytes : List ℕ) → IsPart part bytes → (part.is_long ≡ false → 0 < length part.kept) → 0 < length bytes
length-part part bytes is_part some =
    ⊎_elim (λ long. omega (arith, is_part.long long)) (λ short. omega (arith, some short, ap length (is_part.kept short))) (cases_Bool part.is_long)

-- a piece without a line end leaves the whole lines as they were
pub Advances-part : (feed : FeedState) (stream piece : List ℕ) → HasNoLineEnd piece → IsPart feed ((cut_of stream).rest ++ piece)
    → Advances feed.is_ready feed stream (stream ++ piece)
Advances-part feed stream piece none part =
    subst (λ (b : Bool). Advances b feed stream (stream ++ piece)) (sym part.not_ready)
    (subst (λ (w : CutText). IsPart feed w.rest) (sym (cut_of-piece stream piece none)) part, whole_lines-piece stream piece none)

-- a piece with a line end makes the next whole line ready
pub Advances-line : (feed : FeedState) (stream front : List ℕ) → HasNoLineEnd front → IsReady feed (without_return ((cut_of stream).rest ++ front))
    → Advances feed.is_ready feed stream (stream ++ (front ++ line_feed ∷ []))
Advances-line feed stream front none ready =
    subst (λ (b : Bool). Advances b feed stream (stream ++ (front ++ line_feed ∷ []))) (sym ready.is_ready) (
      without_return ((cut_of stream).rest ++ front),
      ready,
      whole_lines-piece_line stream front none,
      ap (λ (w : CutText). w.rest) (cut_of-piece_line stream front none),
    )

-- what is left at the end is the line behind the whole lines
Finishes-rest : (feed : FeedState) (stream rest : List ℕ) → lines_of stream ≡ whole_lines stream ++ last_line rest → IsEnded feed rest
    → Finishes feed.is_ready feed stream
unfolding last_line
Finishes-rest feed stream [] lines part =
    subst (λ (b : Bool). Finishes b feed stream) (sym part.not_ready) (part, lines ∙ append-nil (whole_lines stream))
Finishes-rest feed stream (b ∷ rest) lines ready =
    subst (λ (b : Bool). Finishes b feed stream) (sym ready.is_ready) (b ∷ rest, ready, lines)

lines_of-split : (stream : List ℕ) → lines_of stream ≡ whole_lines stream ++ last_line (cut_of stream).rest
unfolding lines_of
lines_of-split stream = refl

pub Finishes-end : (feed : FeedState) (stream : List ℕ) → IsEnded feed (cut_of stream).rest → Finishes feed.is_ready feed stream
Finishes-end feed stream ended = Finishes-rest feed stream (cut_of stream).rest (lines_of-split stream) ended
