-- The walk and the grammar: where the walk ends at a clause's beginning there is a reading, and where it stops the tokens go wrong.
use Rattle.std.proofs.Common.{◌≡◌, Bool, true, false, cond, List, [], ◌∷◌, ◌++◌, map, Option, Some, None, sym, refl, ap, ◌∙◌, subst}
use Rattle.std.specs.Prelude.{◌↔◌, option_and_then}
use Rattle.std.specs.Option.{option_map_or}
use Rattle.std.proofs.lemmas.Bool.{false≢true}
use Rattle.std.proofs.lemmas.List.{map-append}
use Rattle.ec_theory.specs.declared.place.Place.{Place}
use Rattle.ec_theory.specs.Lexeme.{Lexeme, Lexemes}
use Rattle.ec_theory.specs.declared.syntax_fault.SyntaxFault.{SyntaxFault}
use Rattle.ec_theory.specs.declared.syntax_fault.SyntaxFault.TheVariants.{Syntax, Memory}
use Rattle.ec_theory.specs.Sign.{Sign, sign_of}
use Rattle.ec_theory.specs.Walk.{Spot, Beginning, PatternAt, AfterName, ArgumentAt, AfterArgument, AfterPattern, ConditionAt, AfterConditionName, CompareAt, RightSideAt, StrongNameAt, SlashAt, ArityAt, AfterArity, TimeKindAt, AfterTimeKind, step, walk, first_stop, stop_of, is_beginning}
use Rattle.ec_theory.specs.Reading.{IsReadable, BeginsReadable, GoesWrongAt, at_token, at_end, IsSyntaxFault, HasNoReading}
use Rattle.ec_theory.specs.Reader.{IsStop}
use Rattle.ec_theory.proofs.WalkEnds.{finishes, reading_finishes, no_stop}
use Rattle.ec_theory.proofs.GrammarFromWalk.{finishes_reads}
use Rattle.ec_theory.proofs.WayBack.{way_back}

-- ---- the end of the walk

walk-append : (spot : Spot) (front back : List Sign) → walk spot (front ++ back) ≡ option_and_then (λ next. walk next back) (walk spot front)
unfolding walk
walk-append spot [] back = refl
walk-append spot (s ∷ front) back = through (step spot s) (λ next. walk-append next front back)
  where
    through : (o : Option Spot) → ((next : Spot) → walk next (front ++ back) ≡ option_and_then (λ n. walk n back) (walk next front)) → option_and_then (λ n. walk n (front ++ back)) o ≡ option_and_then (λ n. walk n back) (option_and_then (λ n. walk n front) o)
    through None later = refl
    through (Some next) later = later next

finishes-walk : (spot : Spot) (signs : List Sign) → finishes spot signs ≡ option_map_or is_beginning (walk spot signs) false
unfolding walk finishes
finishes-walk spot [] = refl
finishes-walk spot (s ∷ signs) = through (step spot s) (λ next. finishes-walk next signs)
  where
    through : (o : Option Spot) → ((next : Spot) → finishes next signs ≡ option_map_or is_beginning (walk next signs) false) → option_map_or (λ n. finishes n signs) o false ≡ option_map_or is_beginning (option_and_then (λ n. walk n signs) o) false
    through None later = refl
    through (Some next) later = later next

is_beginning-only : (spot : Spot) → is_beginning spot ≡ true → spot ≡ Beginning
is_beginning-only Beginning e = refl
is_beginning-only (PatternAt part) e = absurd (false≢true e)
is_beginning-only (AfterName part) e = absurd (false≢true e)
is_beginning-only (ArgumentAt part) e = absurd (false≢true e)
is_beginning-only (AfterArgument part) e = absurd (false≢true e)
is_beginning-only (AfterPattern part) e = absurd (false≢true e)
is_beginning-only ConditionAt e = absurd (false≢true e)
is_beginning-only AfterConditionName e = absurd (false≢true e)
is_beginning-only CompareAt e = absurd (false≢true e)
is_beginning-only RightSideAt e = absurd (false≢true e)
is_beginning-only StrongNameAt e = absurd (false≢true e)
is_beginning-only SlashAt e = absurd (false≢true e)
is_beginning-only ArityAt e = absurd (false≢true e)
is_beginning-only AfterArity e = absurd (false≢true e)
is_beginning-only TimeKindAt e = absurd (false≢true e)
is_beginning-only AfterTimeKind e = absurd (false≢true e)

at_beginning : (o : Option Spot) → option_map_or is_beginning o false ≡ true → o ≡ Some Beginning
at_beginning None e = absurd (false≢true e)
at_beginning (Some spot) e = ap Some (is_beginning-only spot e)

ends_reads : (tokens : List Lexeme) → walk Beginning (map sign_of tokens) ≡ Some Beginning → IsReadable tokens
ends_reads tokens ends =
    let read = finishes_reads 1 (map sign_of tokens) (finishes-walk Beginning (map sign_of tokens) ∙ ap (λ o. option_map_or is_beginning o false) ends) in
    record { theory = read.0; reads = read.1 }

reads_ends : (tokens : List Lexeme) → IsReadable tokens → walk Beginning (map sign_of tokens) ≡ Some Beginning
reads_ends tokens readable = at_beginning (walk Beginning (map sign_of tokens)) (sym (finishes-walk Beginning (map sign_of tokens)) ∙ reading_finishes readable.reads)

-- the walk ends at a clause's beginning exactly where there is a reading
pub walk_reads : (tokens : List Lexeme) → (walk Beginning (map sign_of tokens) ≡ Some Beginning) ↔ IsReadable tokens
walk_reads tokens = (ends_reads tokens, reads_ends tokens)

-- ---- the stop of the walk

-- what the walk shows where it stops: a token that leads nowhere, or an end within a clause
data Stop (spot : Spot) (tokens : List Lexeme) (end place : Place) : Type 0 where
  token_stops : (before behind : List Lexeme) (t : Lexeme) (s : Spot) → tokens ≡ before ++ t ∷ behind → place ≡ t.place → walk spot (map sign_of before) ≡ Some s → step s (sign_of t) ≡ None → Stop spot tokens end place
  end_stops : (s : Spot) → place ≡ end → walk spot (map sign_of tokens) ≡ Some s → is_beginning s ≡ false → Stop spot tokens end place

stop_more : (spot next : Spot) (t : Lexeme) (tokens : List Lexeme) (end place : Place) → step spot (sign_of t) ≡ Some next → Stop next tokens end place → Stop spot (t ∷ tokens) end place
unfolding walk
stop_more spot next t tokens end place leads (token_stops before behind u s cut at w none) =
    token_stops (t ∷ before) behind u s (ap (λ l. t ∷ l) cut) at (ap (λ o. option_and_then (λ n. walk n (map sign_of before)) o) leads ∙ w) none
stop_more spot next t tokens end place leads (end_stops s at w within) = end_stops s at (ap (λ o. option_and_then (λ n. walk n (map sign_of tokens)) o) leads ∙ w) within

first_stop-shows : (tokens : List Lexeme) (spot : Spot) (end place : Place) → first_stop spot tokens end ≡ Some place → Stop spot tokens end place
unfolding walk first_stop
first_stop-shows [] spot end place stop = by_spot (is_beginning spot) refl stop
  where
    by_spot : (b : Bool) → is_beginning spot ≡ b → (◌≡◌ {A = Option Place} (cond b None (Some end)) (Some place)) → Stop spot [] end place
    by_spot true is e = cc
    by_spot false is e = let same : place ≡ end = cc in end_stops spot same refl is
first_stop-shows (t ∷ tokens) spot end place stop = by_step (step spot (sign_of t)) refl stop (λ next. first_stop-shows tokens next end place)
  where
    by_step : (o : Option Spot) → step spot (sign_of t) ≡ o → option_map_or (λ n. first_stop n tokens end) o (Some t.place) ≡ Some place → ((next : Spot) → first_stop next tokens end ≡ Some place → Stop next tokens end place) → Stop spot (t ∷ tokens) end place
    by_step None leads e later = let same : place ≡ t.place = cc in token_stops [] tokens t spot refl same refl leads
    by_step (Some next) leads e later = stop_more spot next t tokens end place leads (later next e)

token_stop : (before : List Lexeme) (spot s : Spot) (t : Lexeme) (behind : List Lexeme) (end : Place) → walk spot (map sign_of before) ≡ Some s → step s (sign_of t) ≡ None → first_stop spot (before ++ t ∷ behind) end ≡ Some t.place
unfolding walk first_stop
token_stop [] spot s t behind end w none =
    let same : spot ≡ s = cc in
    ap (λ o. option_map_or (λ n. first_stop n behind end) o (Some t.place)) (subst (λ x. step x (sign_of t) ≡ None) (sym same) none)
token_stop (x ∷ before) spot s t behind end w none = by_step (step spot (sign_of x)) w (λ next e. token_stop before next s t behind end e none)
  where
    by_step : (o : Option Spot) → option_and_then (λ n. walk n (map sign_of before)) o ≡ Some s → ((next : Spot) → walk next (map sign_of before) ≡ Some s → first_stop next (before ++ t ∷ behind) end ≡ Some t.place) → option_map_or (λ n. first_stop n (before ++ t ∷ behind) end) o (Some x.place) ≡ Some t.place
    by_step None e later = cc
    by_step (Some next) e later = later next e

end_stop : (tokens : List Lexeme) (spot s : Spot) (end : Place) → walk spot (map sign_of tokens) ≡ Some s → first_stop spot tokens end ≡ cond (is_beginning s) None (Some end)
unfolding walk first_stop
end_stop [] spot s end w = let same : spot ≡ s = cc in ap (λ x. cond (is_beginning x) None (Some end)) same
end_stop (t ∷ tokens) spot s end w = by_step (step spot (sign_of t)) w (λ next. end_stop tokens next s end)
  where
    by_step : (o : Option Spot) → option_and_then (λ n. walk n (map sign_of tokens)) o ≡ Some s → ((next : Spot) → walk next (map sign_of tokens) ≡ Some s → first_stop next tokens end ≡ cond (is_beginning s) None (Some end)) → option_map_or (λ n. first_stop n tokens end) o (Some t.place) ≡ cond (is_beginning s) None (Some end)
    by_step None e later = cc
    by_step (Some next) e later = later next e

-- ---- tokens that begin a readable list

walk_begins : (tokens : List Lexeme) (s : Spot) → walk Beginning (map sign_of tokens) ≡ Some s → BeginsReadable tokens
walk_begins tokens s w =
    let back = way_back s in
    record {
      more = back.tokens;
      readable = ends_reads (tokens ++ back.tokens)
          (ap (walk Beginning) (map-append sign_of tokens back.tokens) ∙ walk-append Beginning (map sign_of tokens) (map sign_of back.tokens) ∙ ap (λ o. option_and_then (λ n. walk n (map sign_of back.tokens)) o) w ∙ back.back);
    }

some_first : {A B : Type 0} (f : A → Option B) (o : Option A) (b : B) → option_and_then f o ≡ Some b → (a : A) × (o ≡ Some a)
some_first f None b e = cc
some_first f (Some a) b e = (a, refl)

begins_walk : (tokens : List Lexeme) → BeginsReadable tokens → (s : Spot) × (walk Beginning (map sign_of tokens) ≡ Some s)
begins_walk tokens begins =
    some_first (λ n. walk n (map sign_of begins.more)) (walk Beginning (map sign_of tokens)) Beginning
    (sym (ap (walk Beginning) (map-append sign_of tokens begins.more) ∙ walk-append Beginning (map sign_of tokens) (map sign_of begins.more)) ∙ reads_ends (tokens ++ begins.more) begins.readable)

-- one token behind others
walk-last : (before : List Lexeme) (t : Lexeme) (s : Spot) → walk Beginning (map sign_of before) ≡ Some s → walk Beginning (map sign_of (before ++ t ∷ [])) ≡ step s (sign_of t)
unfolding walk
walk-last before t s w =
    ap (walk Beginning) (map-append sign_of before (t ∷ [])) ∙ walk-append Beginning (map sign_of before) (sign_of t ∷ []) ∙ ap (λ o. option_and_then (λ n. walk n (sign_of t ∷ [])) o) w ∙ some_same (step s (sign_of t))
  where
    some_same : (o : Option Spot) → option_and_then (λ (n : Spot). Some n) o ≡ o
    some_same None = refl
    some_same (Some n) = refl

stop_wrong : (l : Lexemes) (place : Place) → Stop Beginning l.tokens l.end place → GoesWrongAt l place
stop_wrong l place (token_stops before behind t s cut at w none) =
    at_token before behind t cut at (walk_begins before s w)
    (λ begins. let further = begins_walk (before ++ t ∷ []) begins in let both : None ≡ Some further.0 = sym (walk-last before t s w ∙ none) ∙ further.1 in cc)
stop_wrong l place (end_stops s at w within) =
    at_end at (walk_begins l.tokens s w)
    (λ readable. let both : Some s ≡ Some Beginning = sym w ∙ reads_ends l.tokens readable in let same : s ≡ Beginning = cc in false≢true (sym within ∙ ap is_beginning same))

wrong_stop : (l : Lexemes) (place : Place) → GoesWrongAt l place → stop_of Beginning l ≡ Some place
wrong_stop l place (at_token before behind t cut at begins wrong) =
    let so_far = begins_walk before begins in
    ap (λ ts. first_stop Beginning ts l.end) cut
    ∙ token_stop before Beginning so_far.0 t behind l.end so_far.1 (by_step (step so_far.0 (sign_of t)) (walk-last before t so_far.0 so_far.1))
    ∙ ap Some (sym at)
  where
    by_step : (o : Option Spot) → walk Beginning (map sign_of (before ++ t ∷ [])) ≡ o → o ≡ None
    by_step None w = refl
    by_step (Some s) w = absurd (wrong (walk_begins (before ++ t ∷ []) s w))
wrong_stop l place (at_end at begins unread) =
    let all = begins_walk l.tokens begins in
    end_stop l.tokens Beginning all.0 l.end all.1 ∙ by_spot all.0 all.1 (is_beginning all.0) refl ∙ ap Some (sym at)
  where
    by_spot : (s : Spot) → walk Beginning (map sign_of l.tokens) ≡ Some s → (b : Bool) → is_beginning s ≡ b → (◌≡◌ {A = Option Place} (cond b None (Some l.end)) (Some l.end))
    by_spot s w true is = absurd (unread (ends_reads l.tokens (w ∙ ap Some (is_beginning-only s is))))
    by_spot s w false is = refl

-- the walk stops exactly where the tokens go wrong
pub stop_of_wrong : (l : Lexemes) (place : Place) → (stop_of Beginning l ≡ Some place) ↔ GoesWrongAt l place
stop_of_wrong l place = (λ stop. stop_wrong l place (first_stop-shows l.tokens Beginning l.end place stop), wrong_stop l place)

-- where the walk stops nowhere it ends at a clause's beginning
nowhere_ends : (tokens : List Lexeme) (spot : Spot) (end : Place) → first_stop spot tokens end ≡ None → walk spot (map sign_of tokens) ≡ Some Beginning
unfolding walk first_stop
nowhere_ends [] spot end none = by_spot (is_beginning spot) refl none
  where
    by_spot : (b : Bool) → is_beginning spot ≡ b → (◌≡◌ {A = Option Place} (cond b None (Some end)) None) → Some spot ≡ Some Beginning
    by_spot true is e = ap Some (is_beginning-only spot is)
    by_spot false is e = cc
nowhere_ends (t ∷ tokens) spot end none = by_step (step spot (sign_of t)) none (λ next. nowhere_ends tokens next end)
  where
    by_step : (o : Option Spot) → option_map_or (λ n. first_stop n tokens end) o (Some t.place) ≡ None → ((next : Spot) → first_stop next tokens end ≡ None → walk next (map sign_of tokens) ≡ Some Beginning) → option_and_then (λ n. walk n (map sign_of tokens)) o ≡ Some Beginning
    by_step None e later = cc
    by_step (Some next) e later = later next e

-- the walk stops nowhere exactly where there is a reading
pub stop_of_reads : (l : Lexemes) → (stop_of Beginning l ≡ None) ↔ IsReadable l.tokens
stop_of_reads l = (λ none. ends_reads l.tokens (nowhere_ends l.tokens Beginning l.end none), λ readable. no_stop Beginning l.tokens l.end (reading_finishes readable.reads))

-- ---- the faults of a reader

pub syntax_fault : (l : Lexemes) (fault : SyntaxFault) → IsStop fault (stop_of Beginning l) → IsSyntaxFault fault l
syntax_fault l (Syntax place) stop = (stop_of_wrong l place).0 stop
syntax_fault l Memory stop = tt

pub no_reading : (l : Lexemes) (fault : SyntaxFault) → IsStop fault (stop_of Beginning l) → HasNoReading fault l
no_reading l (Syntax place) stop = λ readable. let both : Some place ≡ None = sym stop ∙ (stop_of_reads l).1 readable in cc
no_reading l Memory stop = tt
