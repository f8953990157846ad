-- The texts of the replies to queries, byte for byte. Times are written as `canon` says.
use Rattle.std.specs.Prelude.{ℕ, nat_lt, if◌then◌else◌, List, [], ◌∷◌, ◌++◌, ℤ, Option, Some, None, map, filter, find, flat_map, length, codes, decimal}
use Rattle.ec_terms.specs.declared.ground.Ground.{Ground}
use Rattle.ec_terms.specs.declared.theory.Theory.{Theory}
use Rattle.ec_terms.specs.Term.{term_text}
use Rattle.ec_axioms.specs.Timeline.{Begin, before_all, begin_at, Interval, covers, Reason, reason_yes, reason_never, reason_ended, reason_broken}
use Rattle.ec_axioms.specs.Calculus.{PlainEvent, PlainCause, first_cause, is_initiating, is_terminating, is_breaking, holds_at, intervals_of, broken_of, clashes_of, reason_of}
use Rattle.ec_axioms.specs.Links.{live_properties}
use Rattle.ec_commands.specs.declared.limits.TheConstants.{MOST_PAIRS}
use Rattle.ec_commands.specs.declared.relation.Relation.{Relation}
use Rattle.ec_commands.specs.Answers.{refused_full_pairs, answer_text}
use Rattle.ec_commands.specs.Relations.{stands_in, pairs_of}

-- how times are written
abbrev pub Canon : Type 0
Canon = ℤ → List ℕ

-- ---- members

-- how many members there are, and each of them behind a space
abbrev pub counted_text : List (List ℕ) → List ℕ
counted_text members = decimal (length members) ++ flat_map (λ member. 32 ∷ member) members

-- a begin: its time, or `-inf` for that before all events
abbrev pub begin_text : Canon → Begin → List ℕ
begin_text canon before_all = codes "-inf"
begin_text canon (begin_at s) = canon s

-- an end: its time, or `inf` where there is none
abbrev pub end_text : Canon → Option ℤ → List ℕ
end_text canon None = codes "inf"
end_text canon (Some x) = canon x

-- what closes an interval: `]` where it has an end, `)` where it has none
abbrev pub closing_text : Option ℤ → List ℕ
closing_text None = codes ")"
closing_text (Some x) = codes "]"

-- an interval, as (5,10] or (5,inf)
abbrev pub interval_text : Canon → Interval → List ℕ
interval_text canon interval =
    codes "(" ++ begin_text canon interval.from ++ codes "," ++ end_text canon interval.until ++ closing_text interval.until

-- a broken begin and its break
abbrev pub broken_text : Canon → Begin × ℤ → List ℕ
broken_text canon broken = begin_text canon broken.0 ++ codes " " ++ canon broken.1

-- an event: its identity, its time and its term
abbrev pub event_text : Canon → PlainEvent → List ℕ
event_text canon e = e.id ++ codes " " ++ canon e.rank ++ codes " " ++ term_text e.term

-- ---- reasons

-- a cause: the event and the number of the rule; no text where there is none
abbrev pub cause_text : Option PlainCause → List ℕ
cause_text None = []
cause_text (Some cause) = cause.id ++ codes " rule " ++ decimal cause.rule

-- the first cause of the termination at an instant, of the break there that is none, and of the initiation there
abbrev pub end_cause : Theory → List PlainEvent → Ground → ℤ → List ℕ
end_cause theory events p x = cause_text (first_cause theory events (is_terminating p) x)

abbrev pub break_cause : Theory → List PlainEvent → Ground → ℤ → List ℕ
break_cause theory events p x = cause_text (first_cause theory events (is_breaking theory p) x)

-- what a begin came by: an event's rule, or that the property is declared initial
abbrev pub origin_text : Theory → List PlainEvent → Ground → Begin → List ℕ
origin_text theory events p before_all = codes "initially"
origin_text theory events p (begin_at s) = codes "by " ++ cause_text (first_cause theory events (is_initiating p) s)

-- a reason with its causes
unfoldable pub reason_text : Theory → List PlainEvent → Canon → Ground → Reason → List ℕ
reason_text theory events canon p (reason_yes begin None) = codes "yes " ++ begin_text canon begin ++ codes " inf " ++ origin_text theory events p begin
reason_text theory events canon p (reason_yes begin (Some x)) =
    codes "yes " ++ begin_text canon begin ++ codes " " ++ canon x ++ codes " " ++ origin_text theory events p begin ++ codes " until "
    ++ end_cause theory events p x
reason_text theory events canon p reason_never = codes "no never"
reason_text theory events canon p (reason_ended begin x) =
    codes "no ended " ++ begin_text canon begin ++ codes " " ++ canon x ++ codes " by " ++ end_cause theory events p x
reason_text theory events canon p (reason_broken begin x) =
    codes "no broken " ++ begin_text canon begin ++ codes " " ++ canon x ++ codes " by " ++ break_cause theory events p x

-- ---- the replies

-- the properties that hold at t, in term order
unfoldable pub holding_at : Theory → List PlainEvent → ℤ → List Ground
holding_at theory events t = filter (λ p. holds_at theory events p t) (live_properties theory events)

-- `intervals P`, `broken P`, `at T`, `clashes`, `events` and `why P T`
unfoldable pub intervals_reply : Theory → List PlainEvent → Canon → Ground → List ℕ
intervals_reply theory events canon p = counted_text (map (interval_text canon) (intervals_of theory events p))

unfoldable pub broken_reply : Theory → List PlainEvent → Canon → Ground → List ℕ
broken_reply theory events canon p = counted_text (map (broken_text canon) (broken_of theory events p))

unfoldable pub at_reply : Theory → List PlainEvent → ℤ → List ℕ
at_reply theory events t = counted_text (map term_text (holding_at theory events t))

unfoldable pub clashes_reply : Theory → List PlainEvent → Canon → List ℕ
clashes_reply theory events canon = counted_text (map canon (clashes_of theory events))

unfoldable pub events_reply : List PlainEvent → Canon → List ℕ
events_reply events canon = counted_text (map (event_text canon) events)

unfoldable pub why_reply : Theory → List PlainEvent → Canon → Ground → ℤ → List ℕ
why_reply theory events canon p t = reason_text theory events canon p (reason_of theory events p t)

-- ---- relations

-- two intervals, the first and the second
abbrev pub pair_text : Canon → Interval × Interval → List ℕ
pair_text canon pair = interval_text canon pair.0 ++ codes " " ++ interval_text canon pair.1

-- pairs, unless there are more than a reply lists
abbrev pub pairs_text : Canon → List (Interval × Interval) → List ℕ
pairs_text canon pairs = if nat_lt MOST_PAIRS (length pairs) then answer_text refused_full_pairs else counted_text (map (pair_text canon) pairs)

-- of some intervals, those that one stands in a relation to; `none` where there is no such one
abbrev pub related_text : Canon → Relation → List Interval → Option Interval → List ℕ
related_text canon r intervals None = codes "none"
related_text canon r intervals (Some i) = counted_text (map (interval_text canon) (filter (stands_in r i) intervals))

-- the interval of a property that covers t, if it holds there
unfoldable pub interval_at : Theory → List PlainEvent → Ground → ℤ → Option Interval
interval_at theory events p t = find (covers t) (intervals_of theory events p)

-- `pairs P REL Q` and `related P T REL Q`
unfoldable pub pairs_reply : Theory → List PlainEvent → Canon → Ground → Relation → Ground → List ℕ
pairs_reply theory events canon p r q = pairs_text canon (pairs_of theory events p r q)

unfoldable pub related_reply : Theory → List PlainEvent → Canon → Ground → ℤ → Relation → Ground → List ℕ
related_reply theory events canon p t r q = related_text canon r (intervals_of theory events q) (interval_at theory events p t)
