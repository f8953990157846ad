-- The theories and the events of the worked examples: lamps that are plugged and pushed, and people who move.
use Rattle.std.specs.Prelude.{ℕ, ◌+◌, ◌/◌, ◌%◌, nat_lt, if◌then◌else◌, Bool, true, false, List, [], ◌∷◌, ◌++◌, ℤ, pos, negsuc, Some, None, codes}
use Rattle.ec_terms.specs.declared.ground.Arg.{Arg}
use Rattle.ec_terms.specs.declared.ground.Arg.TheVariants.{Word}
use Rattle.ec_terms.specs.declared.ground.Ground.{Ground}
use Rattle.ec_terms.specs.declared.pattern.PatArg.{PatArg}
use Rattle.ec_terms.specs.declared.pattern.PatArg.TheVariants.{Var, Fixed}
use Rattle.ec_terms.specs.declared.pattern.Pattern.{Pattern}
use Rattle.ec_terms.specs.declared.theory.Kind.{Kind}
use Rattle.ec_terms.specs.declared.theory.Kind.TheVariants.{Initiates, Terminates}
use Rattle.ec_terms.specs.declared.theory.Literal.{Literal}
use Rattle.ec_terms.specs.declared.theory.Rule.{Rule}
use Rattle.ec_terms.specs.declared.theory.Exclusive.{Exclusive}
use Rattle.ec_terms.specs.declared.theory.Theory.{Theory}
use Rattle.ec_axioms.specs.Timeline.{begin_at, Interval}
use Rattle.ec_axioms.specs.Calculus.{PlainEvent}

-- a pattern
abbrev pub pattern : List ℕ → List PatArg → Pattern
pattern name args = record { name = name; args = args }

-- a ground term over names
abbrev pub term : List ℕ → List (List ℕ) → Ground
term name words = record { name = name; args = words_of words }
  where
    words_of : List (List ℕ) → List Arg
    words_of [] = []
    words_of (w ∷ ws) = Word w ∷ words_of ws

-- an event at a time that is not below 0
abbrev pub event : List ℕ → ℕ → Ground → PlainEvent
event id t what = record { id = id; rank = pos t; term = what }

-- a rule without tests
abbrev pub rule : ℕ → Kind → Pattern → Pattern → List Literal → Rule
rule clause kind event head literals = record { clause = clause; kind = kind; event = event; head = head; tests = []; literals = literals }

-- a literal
abbrev pub literal : Bool → Pattern → Literal
literal positive prop = record { positive = positive; prop = prop }

-- push(P,L), lit(L) behind it, and powered(L)
abbrev pub push_lamp : Pattern
push_lamp = pattern (codes "push") (Var 0 ∷ Var 1 ∷ [])

abbrev pub lit_second : Pattern
lit_second = pattern (codes "lit") (Var 1 ∷ [])

abbrev pub powered_second : Pattern
powered_second = pattern (codes "powered") (Var 1 ∷ [])

-- the rules of theory A: a lamp that is pushed is lit or put out, where it is powered; a person who moves is there until they leave
unfoldable pub lamp_rules : List Rule
lamp_rules =
    rule 1 Initiates push_lamp lit_second (literal true powered_second ∷ literal false lit_second ∷ [])
    ∷ rule 2 Terminates push_lamp lit_second (literal true lit_second ∷ [])
    ∷ rule 3 Initiates (pattern (codes "plug") (Var 0 ∷ [])) (pattern (codes "powered") (Var 0 ∷ [])) []
    ∷ rule 4 Terminates (pattern (codes "unplug") (Var 0 ∷ [])) (pattern (codes "powered") (Var 0 ∷ [])) []
    ∷ rule 5 Terminates (pattern (codes "unplug") (Var 0 ∷ [])) (pattern (codes "lit") (Var 0 ∷ [])) []
    ∷ rule 6 Initiates (pattern (codes "move") (Var 0 ∷ Var 1 ∷ [])) (pattern (codes "at") (Var 0 ∷ Var 1 ∷ [])) []
    ∷ rule 7 Terminates (pattern (codes "leave") (Var 0 ∷ Var 1 ∷ [])) (pattern (codes "at") (Var 0 ∷ Var 1 ∷ [])) []
    ∷ []

-- nobody is at two places
unfoldable pub one_place : List Exclusive
one_place = record { clause = 8; left = pattern (codes "at") (Var 0 ∷ Var 1 ∷ []); right = pattern (codes "at") (Var 0 ∷ Var 2 ∷ []) } ∷ []

-- theory A
unfoldable pub theory_a : Theory
theory_a = record { rules = lamp_rules; exclusives = one_place; strongs = []; initials = []; times = [] }

-- theory B: being somewhere is strong
unfoldable pub theory_b : Theory
theory_b = record { rules = lamp_rules; exclusives = one_place; strongs = record { clause = 9; name = codes "at"; arity = pos 2 } ∷ []; initials = []; times = [] }

-- theory C: who is rung at home has answered
unfoldable pub theory_c : Theory
theory_c = record {
  rules = lamp_rules ++ rule 9 Initiates (pattern (codes "ring") (Var 0 ∷ [])) (pattern (codes "answered") (Var 0 ∷ [])) (literal true (pattern (codes "at") (Var 0 ∷ Fixed (Word (codes "home")) ∷ [])) ∷ []) ∷ [];
  exclusives = one_place;
  strongs = [];
  initials = [];
  times = [];
}

-- theory A with the lamp a powered from before all events
unfoldable pub theory_powered : Theory
theory_powered = record { rules = lamp_rules; exclusives = one_place; strongs = []; initials = record { clause = 9; prop = pattern (codes "powered") (Fixed (Word (codes "a")) ∷ []) } ∷ []; times = [] }

-- properties
abbrev pub lit_a : Ground
lit_a = term (codes "lit") (codes "a" ∷ [])

abbrev pub powered_a : Ground
powered_a = term (codes "powered") (codes "a" ∷ [])

abbrev pub bob_at_home : Ground
bob_at_home = term (codes "at") (codes "bob" ∷ codes "home" ∷ [])

abbrev pub bob_at_work : Ground
bob_at_work = term (codes "at") (codes "bob" ∷ codes "work" ∷ [])

-- events
abbrev pub plug_a : Ground
plug_a = term (codes "plug") (codes "a" ∷ [])

abbrev pub unplug_a : Ground
unplug_a = term (codes "unplug") (codes "a" ∷ [])

abbrev pub push_a : Ground
push_a = term (codes "push") (codes "bob" ∷ codes "a" ∷ [])

abbrev pub move_home : Ground
move_home = term (codes "move") (codes "bob" ∷ codes "home" ∷ [])

abbrev pub move_work : Ground
move_work = term (codes "move") (codes "bob" ∷ codes "work" ∷ [])

abbrev pub leave_home : Ground
leave_home = term (codes "leave") (codes "bob" ∷ codes "home" ∷ [])

-- a lamp that is plugged at 5 and pushed at 10
unfoldable pub plugged_and_pushed : List PlainEvent
plugged_and_pushed = event (codes "p") 5 plug_a ∷ event (codes "q") 10 push_a ∷ []

-- the same with an unplug at 7
unfoldable pub unplugged_between : List PlainEvent
unplugged_between = event (codes "p") 5 plug_a ∷ event (codes "u") 7 unplug_a ∷ event (codes "q") 10 push_a ∷ []

-- a lamp that is plugged at 5 and pushed at 10, 20 and 30
unfoldable pub three_pushes : List PlainEvent
three_pushes = event (codes "p") 5 plug_a ∷ event (codes "q") 10 push_a ∷ event (codes "r") 20 push_a ∷ event (codes "s") 30 push_a ∷ []

-- the same with a push at 7
unfoldable pub four_pushes : List PlainEvent
four_pushes = event (codes "p") 5 plug_a ∷ event (codes "t") 7 push_a ∷ event (codes "q") 10 push_a ∷ event (codes "r") 20 push_a ∷ event (codes "s") 30 push_a ∷ []

-- an interval between two instants, and one that has no end
abbrev pub interval : ℕ → ℕ → Interval
interval from until = record { from = begin_at (pos from); until = Some (pos until) }

abbrev pub unended : ℕ → Interval
unended from = record { from = begin_at (pos from); until = None }

abbrev pub bob_answered : Ground
bob_answered = term (codes "answered") (codes "bob" ∷ [])

-- theory A with bob at home from before all events, and the same where being somewhere is strong
unfoldable pub home_from_the_start : Theory
home_from_the_start = record { rules = lamp_rules; exclusives = one_place; strongs = []; initials = record { clause = 9; prop = pattern (codes "at") (Fixed (Word (codes "bob")) ∷ Fixed (Word (codes "home")) ∷ []) } ∷ []; times = [] }

unfoldable pub strong_home_from_the_start : Theory
strong_home_from_the_start = record {
  rules = lamp_rules;
  exclusives = one_place;
  strongs = record { clause = 9; name = codes "at"; arity = pos 2 } ∷ [];
  initials = record { clause = 10; prop = pattern (codes "at") (Fixed (Word (codes "bob")) ∷ Fixed (Word (codes "home")) ∷ []) } ∷ [];
  times = [];
}

-- a push and a plug at one instant
unfoldable pub pushed_before_plugged : List PlainEvent
pushed_before_plugged = event (codes "p") 10 plug_a ∷ event (codes "q") 10 push_a ∷ []

-- a lamp that is plugged at 5, and unplugged and plugged again at 10
unfoldable pub plugged_at_the_unplug : List PlainEvent
plugged_at_the_unplug = event (codes "p") 5 plug_a ∷ event (codes "u") 10 unplug_a ∷ event (codes "v") 10 plug_a ∷ []

-- bob moves home at 10 and to work at 20
unfoldable pub two_moves : List PlainEvent
two_moves = event (codes "m1") 10 move_home ∷ event (codes "m2") 20 move_work ∷ []

-- the same, and he leaves home at 18
unfoldable pub two_moves_and_a_leave : List PlainEvent
two_moves_and_a_leave = event (codes "m1") 10 move_home ∷ event (codes "l1") 18 leave_home ∷ event (codes "m2") 20 move_work ∷ []

-- the two moves, and bob is rung at 15
unfoldable pub rung_between : List PlainEvent
rung_between = event (codes "m1") 10 move_home ∷ event (codes "g") 15 (term (codes "ring") (codes "bob" ∷ [])) ∷ event (codes "m2") 20 move_work ∷ []

-- bob moves home at 10 and again at 14, and leaves at 20
unfoldable pub moved_home_twice : List PlainEvent
moved_home_twice = event (codes "m1") 10 move_home ∷ event (codes "m2") 14 move_home ∷ event (codes "l1") 20 leave_home ∷ []

-- bob moves to two places at 10
unfoldable pub moved_to_two_places : List PlainEvent
moved_to_two_places = event (codes "m1") 10 move_home ∷ event (codes "m2") 10 move_work ∷ []

-- bob moves to two places at 1, and to the first again at 2
unfoldable pub three_linked_moves : List PlainEvent
three_linked_moves = event (codes "m1") 1 move_home ∷ event (codes "m2") 1 move_work ∷ event (codes "m3") 2 move_home ∷ []

-- bob moves home at 10
unfoldable pub moved_home_once : List PlainEvent
moved_home_once = event (codes "m1") 10 move_home ∷ []

-- a number below 100 in one or two digits, with `-` before it where it is below 0, as the worked replies write times
abbrev pub short_number : ℤ → List ℕ
short_number (pos n) = if nat_lt n 10 then (48 + n) ∷ [] else (48 + n / 10) ∷ (48 + n % 10) ∷ []
short_number (negsuc n) = 45 ∷ (49 + n) ∷ []

-- a bare name as a term, and as a pattern
abbrev pub bare : List ℕ → Ground
bare name = term name []

abbrev pub bare_pattern : List ℕ → Pattern
bare_pattern name = pattern name []

-- a lamp that a push lights by one rule, and a plug by two
unfoldable pub theory_of_ties : Theory
theory_of_ties = record {
  rules = rule 1 Initiates (bare_pattern (codes "push")) (bare_pattern (codes "lit")) []
      ∷ rule 2 Initiates (bare_pattern (codes "plug")) (bare_pattern (codes "lit")) []
      ∷ rule 3 Initiates (bare_pattern (codes "plug")) (bare_pattern (codes "lit")) []
      ∷ [];
  exclusives = [];
  strongs = [];
  initials = [];
  times = [];
}

-- a push and a plug at 10
unfoldable pub plugged_with_a_push : List PlainEvent
plugged_with_a_push = event (codes "a") 10 (bare (codes "plug")) ∷ event (codes "b") 10 (bare (codes "push")) ∷ []
