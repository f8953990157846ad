-- Where the clauses lead the walk, and what they take.
use Rattle.std.proofs.Common.{◌≡◌, ℕ, ◌<◌, Bool, false, List, [], ◌∷◌, length, map, ℤ, Some, refl, ◌∙◌, subst, arith}
use Rattle.ec_terms.specs.declared.pattern.Pattern.{Pattern}
use Rattle.ec_terms.specs.declared.theory.Kind.{Kind}
use Rattle.ec_terms.specs.declared.theory.TimeKind.{TimeKind}
use Rattle.ec_theory.specs.declared.token.Token.{Token}
use Rattle.ec_theory.specs.declared.place.Place.{Place}
use Rattle.ec_theory.specs.Lexeme.{Lexemes, lexeme_of}
use Rattle.ec_theory.specs.declared.syntax_fault.SyntaxFault.{SyntaxFault}
use Rattle.ec_theory.specs.declared.syntax_fault.SyntaxFault.TheVariants.{Syntax}
use Rattle.ec_theory.specs.declared.condition.Body.{Body}
use Rattle.ec_theory.specs.declared.clause.Clause.TheVariants as clause
use Rattle.ec_theory.specs.declared.sign.Symbol.TheVariants.{Dot, Slash}
use Rattle.ec_theory.specs.declared.sign.Keyword.{Keyword}
use Rattle.ec_theory.specs.declared.sign.Keyword.TheVariants.{Rule, Exclusive, Strong, Initially, Time}
use Rattle.ec_theory.specs.Body.{Collects}
use Rattle.ec_theory.specs.Sign.{Sign, Word, Number, Given, signs_of, keyword_of, is_given, is_word, is_number, is_time_kind, is_keyword, is_rule, is_exclusive, is_strong, is_initially, is_time}
use Rattle.ec_theory.specs.Grammar.{TakesPattern, TakesBody, TakesClause, rule, exclusive, strong, initially, time}
use Rattle.ec_theory.specs.Walk.{Event, Head, Left, Right, Initial, Beginning, PatternAt, AfterPattern, StrongNameAt, SlashAt, ArityAt, AfterArity, TimeKindAt, AfterTimeKind, moves, moves_behind, first_move, first_stop, stop_of}
use Rattle.ec_theory.specs.Reader.{Steps, Refuses, HasKeyword, HasTimeKind, first_passes, place_at, IsStop}
use Rattle.ec_theory.proofs.WalkSteps.{steps_signs, step_goes, refused, same_row, goes_on_fault}

-- a word that begins a clause
pub rule_goes : {kind : Kind} (l m : Lexemes) → HasKeyword l (Rule kind) m → stop_of Beginning l ≡ stop_of (PatternAt Event) m
unfolding moves first_move
rule_goes l m has = step_goes Beginning (PatternAt Event) l (Word has.word) m has.steps (rw has.begins refl)

pub exclusive_goes : (l m : Lexemes) → HasKeyword l Exclusive m → stop_of Beginning l ≡ stop_of (PatternAt Left) m
unfolding moves first_move
exclusive_goes l m has = step_goes Beginning (PatternAt Left) l (Word has.word) m has.steps (rw has.begins refl)

pub strong_goes : (l m : Lexemes) → HasKeyword l Strong m → stop_of Beginning l ≡ stop_of StrongNameAt m
unfolding moves first_move
strong_goes l m has = step_goes Beginning StrongNameAt l (Word has.word) m has.steps (rw has.begins refl)

pub initially_goes : (l m : Lexemes) → HasKeyword l Initially m → stop_of Beginning l ≡ stop_of (PatternAt Initial) m
unfolding moves first_move
initially_goes l m has = step_goes Beginning (PatternAt Initial) l (Word has.word) m has.steps (rw has.begins refl)

pub time_goes : (l m : Lexemes) → HasKeyword l Time m → stop_of Beginning l ≡ stop_of TimeKindAt m
unfolding moves first_move
time_goes l m has = step_goes Beginning TimeKindAt l (Word has.word) m has.steps (rw has.begins refl)

-- a token that begins no clause
pub no_clause : (tokens : List Token) (end : Place) (fault : SyntaxFault) → 0 < length tokens → ((test : Keyword → Bool) → first_passes (is_keyword test) (map lexeme_of tokens) ≡ false) → fault ≡ Syntax (place_at (map lexeme_of tokens) end) → IsStop fault (first_stop Beginning (map lexeme_of tokens) end)
unfolding moves first_move first_stop first_passes place_at
no_clause [] end fault nonempty fails place = absurd (omega arith)
no_clause (t ∷ tokens) end fault nonempty fails place = rw (place, fails is_rule, fails is_exclusive, fails is_strong, fails is_initially, fails is_time) refl

-- from the first pattern of a clause to the second
pub event_to_head : (l : Lexemes) → stop_of (AfterPattern Event) l ≡ stop_of (PatternAt Head) l
unfolding moves moves_behind
event_to_head l = same_row (AfterPattern Event) (PatternAt Head) l refl (λ s. refl)

pub left_to_right : (l : Lexemes) → stop_of (AfterPattern Left) l ≡ stop_of (PatternAt Right) l
unfolding moves moves_behind
left_to_right l = same_row (AfterPattern Left) (PatternAt Right) l refl (λ s. refl)

-- behind the right side of an exclusive declaration
pub right_ends : (l m : Lexemes) → Steps l (Given Dot) m → stop_of (AfterPattern Right) l ≡ stop_of Beginning m
unfolding moves moves_behind first_move
right_ends l m dot = step_goes (AfterPattern Right) Beginning l (Given Dot) m dot refl

pub right_refused : (l : Lexemes) (fault : SyntaxFault) → Refuses (is_given Dot) l fault → IsStop fault (stop_of (AfterPattern Right) l)
unfolding moves moves_behind first_move
right_refused l fault refuses = refused (AfterPattern Right) (is_given Dot) l fault refl (λ s e. rw e refl) refuses

-- behind an initial property
pub initial_ends : (l m : Lexemes) → Steps l (Given Dot) m → stop_of (AfterPattern Initial) l ≡ stop_of Beginning m
unfolding moves moves_behind first_move
initial_ends l m dot = step_goes (AfterPattern Initial) Beginning l (Given Dot) m dot refl

pub initial_refused : (l : Lexemes) (fault : SyntaxFault) → Refuses (is_given Dot) l fault → IsStop fault (stop_of (AfterPattern Initial) l)
unfolding moves moves_behind first_move
initial_refused l fault refuses = refused (AfterPattern Initial) (is_given Dot) l fault refl (λ s e. rw e refl) refuses

pub initial_takes : {names : List (List ℕ)} {number : ℕ} {signs : List Sign} {prop : Pattern} (l m : Lexemes) (w : List ℕ) → keyword_of w ≡ Some Initially → TakesPattern names signs prop (signs_of l) → Steps l (Given Dot) m → TakesClause names number (Word w ∷ signs) (clause.Initial (record { clause = number; prop = prop })) (signs_of m)
initial_takes {names = names} {signs = signs} {prop = prop} l m w begins takes dot = initially begins (subst (λ x. TakesPattern names signs prop x) (steps_signs l (Given Dot) m dot) takes)

pub exclusive_takes : {names : List (List ℕ)} {number : ℕ} {signs middle : List Sign} {left right : Pattern} (l m : Lexemes) (w : List ℕ) → keyword_of w ≡ Some Exclusive → TakesPattern names signs left middle → TakesPattern names middle right (signs_of l) → Steps l (Given Dot) m → TakesClause names number (Word w ∷ signs) (clause.Exclusive (record { clause = number; left = left; right = right })) (signs_of m)
exclusive_takes {names = names} {middle = middle} {right = right} l m w begins takes_left takes_right dot = exclusive begins takes_left (subst (λ x. TakesPattern names middle right x) (steps_signs l (Given Dot) m dot) takes_right)

pub rule_takes : {names : List (List ℕ)} {number : ℕ} {signs middle tail rest : List Sign} {event head : Pattern} {kind : Kind} (body : Body) (w : List ℕ) → keyword_of w ≡ Some (Rule kind) → TakesPattern names signs event middle → TakesPattern names middle head tail → Collects (λ cs. TakesBody names tail cs rest) body → TakesClause names number (Word w ∷ signs) (clause.Rule (record { clause = number; kind = kind; event = event; head = head; tests = body.tests; literals = body.literals })) rest
rule_takes body w begins takes_event takes_head collects = rw (collects.tests, collects.literals) (rule begins takes_event takes_head collects.takes)

-- the parts of a strong declaration
module _ (l : Lexemes) where
  pub strong_refused : (fault : SyntaxFault) → Refuses is_word l fault → IsStop fault (stop_of StrongNameAt l)
  unfolding moves first_move
  strong_refused fault refuses = refused StrongNameAt is_word l fault refl (λ s e. rw e refl) refuses

  module _ {name : List ℕ} {m : Lexemes} (word : Steps l (Word name) m) where
    goes_slash : stop_of StrongNameAt l ≡ stop_of SlashAt m
    unfolding moves first_move
    goes_slash = step_goes StrongNameAt SlashAt l (Word name) m word refl

    pub slash_refused : (fault : SyntaxFault) → Refuses (is_given Slash) m fault → IsStop fault (stop_of StrongNameAt l)
    unfolding moves first_move
    slash_refused fault refuses = goes_on_fault StrongNameAt SlashAt l m fault goes_slash (refused SlashAt (is_given Slash) m fault refl (λ s e. rw e refl) refuses)

    module _ {k : Lexemes} (slash : Steps m (Given Slash) k) where
      goes_arity : stop_of StrongNameAt l ≡ stop_of ArityAt k
      unfolding moves first_move
      goes_arity = goes_slash ∙ step_goes SlashAt ArityAt m (Given Slash) k slash refl

      pub arity_refused : (fault : SyntaxFault) → Refuses is_number k fault → IsStop fault (stop_of StrongNameAt l)
      unfolding moves first_move
      arity_refused fault refuses = goes_on_fault StrongNameAt ArityAt l k fault goes_arity (refused ArityAt is_number k fault refl (λ s e. rw e refl) refuses)

      module _ {arity : ℤ} {n : Lexemes} (number : Steps k (Number arity) n) where
        goes_end : stop_of StrongNameAt l ≡ stop_of AfterArity n
        unfolding moves first_move
        goes_end = goes_arity ∙ step_goes ArityAt AfterArity k (Number arity) n number refl

        pub strong_unended : (fault : SyntaxFault) → Refuses (is_given Dot) n fault → IsStop fault (stop_of StrongNameAt l)
        unfolding moves first_move
        strong_unended fault refuses = goes_on_fault StrongNameAt AfterArity l n fault goes_end (refused AfterArity (is_given Dot) n fault refl (λ s e. rw e refl) refuses)

        module _ {rest : Lexemes} (dot : Steps n (Given Dot) rest) where
          pub strong_ends : stop_of StrongNameAt l ≡ stop_of Beginning rest
          unfolding moves first_move
          strong_ends = goes_end ∙ step_goes AfterArity Beginning n (Given Dot) rest dot refl

          pub strong_takes : (names : List (List ℕ)) (clause_number : ℕ) (w : List ℕ) → keyword_of w ≡ Some Strong → TakesClause names clause_number (Word w ∷ signs_of l) (clause.Strong (record { clause = clause_number; name = name; arity = arity })) (signs_of rest)
          strong_takes names clause_number w begins =
              rw (steps_signs l (Word name) m word, steps_signs m (Given Slash) k slash, steps_signs k (Number arity) n number, steps_signs n (Given Dot) rest dot) (strong begins)

-- the parts of a time declaration
module _ (l : Lexemes) where
  pub time_refused : (fault : SyntaxFault) → Refuses is_time_kind l fault → IsStop fault (stop_of TimeKindAt l)
  unfolding moves first_move
  time_refused fault refuses = refused TimeKindAt is_time_kind l fault refl (λ s e. rw e refl) refuses

  module _ {kind : TimeKind} {m : Lexemes} (has : HasTimeKind l kind m) where
    goes_dot : stop_of TimeKindAt l ≡ stop_of AfterTimeKind m
    unfolding moves first_move
    goes_dot = step_goes TimeKindAt AfterTimeKind l (Word has.word) m has.steps (rw has.names refl)

    pub time_unended : (fault : SyntaxFault) → Refuses (is_given Dot) m fault → IsStop fault (stop_of TimeKindAt l)
    unfolding moves first_move
    time_unended fault refuses = goes_on_fault TimeKindAt AfterTimeKind l m fault goes_dot (refused AfterTimeKind (is_given Dot) m fault refl (λ s e. rw e refl) refuses)

    module _ {rest : Lexemes} (dot : Steps m (Given Dot) rest) where
      pub time_ends : stop_of TimeKindAt l ≡ stop_of Beginning rest
      unfolding moves first_move
      time_ends = goes_dot ∙ step_goes AfterTimeKind Beginning m (Given Dot) rest dot refl

      pub time_takes : (names : List (List ℕ)) (clause_number : ℕ) (w : List ℕ) → keyword_of w ≡ Some Time → TakesClause names clause_number (Word w ∷ signs_of l) (clause.Time (record { clause = clause_number; kind = kind })) (signs_of rest)
      time_takes names clause_number w begins = rw (steps_signs l (Word has.word) m has.steps, steps_signs m (Given Dot) rest dot) (time begins has.names)
