-- What a line says: its session and its command, by the words of the line.
use Rattle.std.specs.Prelude.{ℕ, ◌+◌, ◌-◌, ◌*◌, ◌^◌, ◌&&◌, ◌==◌, if◌then◌else◌, nat_le, nat_lt, List, [], ◌∷◌, length, ℤ, Option, Some, None, option_map, option_and_then, codes, bytes_eq, find}
use Rattle.std.specs.Char.{is_ascii_digit}
use Rattle.std.specs.List.{list_all}
use Rattle.std.specs.Str.Parse.{digits_value}
use Rattle.ec_terms.specs.declared.ground.Ground.{Ground}
use Rattle.ec_terms.specs.Spelling.{is_name}
use Rattle.ec_terms.specs.Term.{term_value}
use Rattle.ec_commands.specs.declared.keyword.Keyword.{Keyword}
use Rattle.ec_commands.specs.declared.keyword.Keyword.TheVariants.{Assert, Retract, Begin, Commit, Abort, Holds, Through, Intervals, Broken, At, Clashes, Events, Why, Pairs, Related, Last, Quit}
use Rattle.ec_commands.specs.declared.relation.Relation.{Relation}
use Rattle.ec_commands.specs.declared.limits.TheConstants.{SESSIONS}
use Rattle.ec_commands.specs.Lines.{words_of}
use Rattle.ec_commands.specs.Relations.{relation_spelt}

-- what can be asked of one list of events, with its times as ranks
pub data PlainQuery : Type 0 where
  ask_holds : Ground → ℤ → PlainQuery
  ask_through : Ground → ℤ → ℤ → PlainQuery
  ask_intervals : Ground → PlainQuery
  ask_broken : Ground → PlainQuery
  ask_at : ℤ → PlainQuery
  ask_clashes : PlainQuery
  ask_events : PlainQuery
  ask_why : Ground → ℤ → PlainQuery

-- A command: `ask` asks a query of the present events, `ask_past` one of those after so many accepted updates; `ask_pairs` and
-- `ask_related` compare the intervals of two properties; `watch_prop` has a property's changes noted from then on, `unwatch_prop` no more.
pub data PlainCommand : Type 0 where
  silent : PlainCommand
  bad : PlainCommand
  assert_event : List ℕ → ℤ → Ground → PlainCommand
  retract_event : List ℕ → PlainCommand
  begin_draft : PlainCommand
  commit_draft : PlainCommand
  abort_draft : PlainCommand
  ask : PlainQuery → PlainCommand
  ask_past : ℕ → PlainQuery → PlainCommand
  ask_pairs : Ground → Relation → Ground → PlainCommand
  ask_related : Ground → ℤ → Relation → Ground → PlainCommand
  watch_prop : Ground → PlainCommand
  unwatch_prop : Ground → PlainCommand
  ask_last : PlainCommand
  quit : PlainCommand

-- the session that a line's prefix names, if it has a prefix, and its command
pub record PlainParsed : Type 0 where
  pub session : Option ℕ
  pub command : PlainCommand

-- each keyword with its spelling
unfoldable pub keywords : List (List ℕ × Keyword)
keywords =
    (codes "assert", Assert) ∷ (codes "retract", Retract) ∷ (codes "begin", Begin) ∷ (codes "commit", Commit)
    ∷ (codes "abort", Abort) ∷ (codes "holds", Holds) ∷ (codes "through", Through) ∷ (codes "intervals", Intervals)
    ∷ (codes "broken", Broken) ∷ (codes "at", At) ∷ (codes "clashes", Clashes) ∷ (codes "events", Events)
    ∷ (codes "why", Why) ∷ (codes "pairs", Pairs) ∷ (codes "related", Related) ∷ (codes "last", Last) ∷ (codes "quit", Quit) ∷ []

-- the keyword that a word spells, or none
unfoldable pub keyword_of : List ℕ → Option Keyword
keyword_of word = option_map (λ (known : List ℕ × Keyword). known.1) (find (λ known. bytes_eq known.0 word) keywords)

-- the name that a word spells, or none
unfoldable pub name_value : List ℕ → Option (List ℕ)
name_value word = if is_name word then Some word else None

-- a command whose parts are all there, and bad where one is not
abbrev pub if_part : {A : Type 0} → Option A → (A → PlainCommand) → PlainCommand
if_part None then_ = bad
if_part (Some part) then_ = then_ part

-- the command that no word, one, two, three or four words behind a keyword make; bad where there are more or fewer
abbrev pub of_none : PlainCommand → List (List ℕ) → PlainCommand
of_none command [] = command
of_none command (word ∷ words) = bad

abbrev pub of_one : (List ℕ → PlainCommand) → List (List ℕ) → PlainCommand
of_one command [] = bad
of_one command (a ∷ words) = of_none (command a) words

abbrev pub of_two : (List ℕ → List ℕ → PlainCommand) → List (List ℕ) → PlainCommand
of_two command [] = bad
of_two command (a ∷ words) = of_one (command a) words

abbrev pub of_three : (List ℕ → List ℕ → List ℕ → PlainCommand) → List (List ℕ) → PlainCommand
of_three command [] = bad
of_three command (a ∷ words) = of_two (command a) words

abbrev pub of_four : (List ℕ → List ℕ → List ℕ → List ℕ → PlainCommand) → List (List ℕ) → PlainCommand
of_four command [] = bad
of_four command (a ∷ words) = of_three (command a) words

-- the command of a keyword and the words behind it; bad where their number or one of them is not as the command wants it
unfoldable pub command_by : (List ℕ → Option ℤ) → Keyword → List (List ℕ) → PlainCommand
command_by spelt Assert words =
    of_three (λ id time event. if_part (name_value id) (λ i. if_part (spelt time) (λ t. if_part (term_value event) (λ e. assert_event i t e)))) words
command_by spelt Retract words = of_one (λ id. if_part (name_value id) (λ i. retract_event i)) words
command_by spelt Begin words = of_none begin_draft words
command_by spelt Commit words = of_none commit_draft words
command_by spelt Abort words = of_none abort_draft words
command_by spelt Holds words = of_two (λ prop time. if_part (term_value prop) (λ p. if_part (spelt time) (λ t. ask (ask_holds p t)))) words
command_by spelt Through words =
    of_three (λ prop from until. if_part (term_value prop) (λ p. if_part (spelt from) (λ s. if_part (spelt until) (λ e. ask (ask_through p s e))))) words
command_by spelt Intervals words = of_one (λ prop. if_part (term_value prop) (λ p. ask (ask_intervals p))) words
command_by spelt Broken words = of_one (λ prop. if_part (term_value prop) (λ p. ask (ask_broken p))) words
command_by spelt At words = of_one (λ time. if_part (spelt time) (λ t. ask (ask_at t))) words
command_by spelt Clashes words = of_none (ask ask_clashes) words
command_by spelt Events words = of_none (ask ask_events) words
command_by spelt Why words = of_two (λ prop time. if_part (term_value prop) (λ p. if_part (spelt time) (λ t. ask (ask_why p t)))) words
command_by spelt Pairs words =
    of_three (λ left word right. if_part (term_value left) (λ p. if_part (relation_spelt word) (λ r. if_part (term_value right) (λ q. ask_pairs p r q)))) words
command_by spelt Related words =
    of_four
    (λ left time word right. if_part (term_value left) (λ p. if_part (spelt time) (λ t. if_part (relation_spelt word) (λ r. if_part (term_value right) (λ q. ask_related p t r q)))))
    words
command_by spelt Last words = of_none ask_last words
command_by spelt Quit words = of_none quit words

-- the command that some words make which `asof` is not the first of
unfoldable pub plain_of_words : (List ℕ → Option ℤ) → List (List ℕ) → PlainCommand
plain_of_words spelt [] = bad
plain_of_words spelt (word ∷ words) = if_part (keyword_of word) (λ keyword. command_by spelt keyword words)

-- a number of accepted updates: 1 to 20 digits, below 2 ^ 64
unfoldable pub count_value : List ℕ → Option ℕ
count_value word =
    if nat_le 1 (length word) && nat_le (length word) 20 && list_all is_ascii_digit word && nat_lt (digits_value 10 word) (2 ^ 64)
    then Some (digits_value 10 word) else None

-- the question of a query about the list after so many accepted updates; bad where the command is no query of one list
abbrev pub past_query : ℕ → PlainCommand → PlainCommand
past_query k silent = bad
past_query k bad = bad
past_query k (assert_event id t term) = bad
past_query k (retract_event id) = bad
past_query k begin_draft = bad
past_query k commit_draft = bad
past_query k abort_draft = bad
past_query k (ask query) = ask_past k query
past_query k (ask_past n query) = bad
past_query k (ask_pairs p r q) = bad
past_query k (ask_related p t r q) = bad
past_query k (watch_prop p) = bad
past_query k (unwatch_prop p) = bad
past_query k ask_last = bad
past_query k quit = bad

-- what `asof` asks with the words behind it: a number of accepted updates, and the words of a query of one list
unfoldable pub past_of_words : (List ℕ → Option ℤ) → List (List ℕ) → PlainCommand
past_of_words spelt [] = bad
past_of_words spelt (number ∷ words) = if_part (count_value number) (λ k. past_query k (plain_of_words spelt words))

-- the command that some words make
unfoldable pub command_of_words : (List ℕ → Option ℤ) → List (List ℕ) → PlainCommand
command_of_words spelt [] = bad
command_of_words spelt (word ∷ words) = if bytes_eq (codes "asof") word then past_of_words spelt words else plain_of_words spelt (word ∷ words)

-- a digit's value, or none
unfoldable pub digit_value_of : ℕ → Option ℕ
digit_value_of b = if nat_le 48 b && nat_le b 57 then Some (b - 48) else None

-- a number of a session: one less than their count is the last
unfoldable pub session_within : ℕ → Option ℕ
session_within n = if nat_lt n SESSIONS then Some n else None

-- the session that one or two digits name: 0 to 63
unfoldable pub session_of_digits : List ℕ → Option ℕ
session_of_digits (a ∷ []) = digit_value_of a
session_of_digits (a ∷ b ∷ []) =
    option_and_then (λ x. option_and_then (λ y. session_within (10 * x + y)) (digit_value_of b)) (digit_value_of a)
session_of_digits digits = None

-- a line whose first word begins with `@`: a session's digits must follow; else it is bad and has no session
unfoldable pub prefixed_line : (List ℕ → Option ℤ) → Option ℕ → List (List ℕ) → PlainParsed
prefixed_line spelt None words = record { session = None; command = bad }
prefixed_line spelt (Some session) words = record { session = Some session; command = command_of_words spelt words }

-- what the words of a line say: nothing where there are none or the first begins with `%`
unfoldable pub parsed_words : (List ℕ → Option ℤ) → List (List ℕ) → PlainParsed
parsed_words spelt [] = record { session = None; command = silent }
parsed_words spelt ([] ∷ words) = record { session = None; command = bad }
parsed_words spelt ((b ∷ word) ∷ words) =
    if b == 37 then record { session = None; command = silent }
    else (if b == 64 then prefixed_line spelt (session_of_digits word) words
    else record { session = None; command = command_of_words spelt ((b ∷ word) ∷ words) })

-- what a line says that is not long
unfoldable pub parsed_of : (List ℕ → Option ℤ) → List ℕ → PlainParsed
parsed_of spelt line = parsed_words spelt (words_of line)
