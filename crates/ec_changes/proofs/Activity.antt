-- An entry is active alike under two currencies that agree on what it reads.
use Rattle.std.proofs.Common.{◌≡◌, ℤ, Bool, ◌&&◌, List, [], ◌∷◌, filter, IsTrue, IsFalse, refl, sym, ap, ap₂, ◌∙◌, inl, inr, arith}
use Rattle.std.specs.Bool.{beq}
use Rattle.std.specs.List.{list_all}
use Rattle.std.specs.Ordering.{int_eq}
use Rattle.ec_lists.proofs.Integers.{int_eq-is}
use Rattle.ec_terms.specs.declared.ground.Ground.{Ground}
use Rattle.ec_terms.specs.declared.theory.Theory.{Theory}
use Rattle.ec_terms.specs.Term.{term_eq}
use Rattle.ec_terms.specs.Domain.{GroundLiteral, GroundEntry, entries_of}
use Rattle.ec_terms.proofs.DomainLemmas.{term_eq-refl}
use Rattle.ec_axioms.specs.Plain.{events_at}
use Rattle.ec_axioms.specs.Calculus.{PlainEvent, Effect, Currency, effects_of, effects_at, agrees, is_active, is_current}
use Rattle.ec_axioms.proofs.Members.{IsMember, IsMember-from_map, IsMember-from_filter, filter_agree, member-list_any}
use Rattle.ec_changes.proofs.JoinedMembers.{IsMember-from_flat_map}
use Rattle.ec_changes.specs.Differences.{differs, entries_at, reads}

-- two tests that are the same
pub beq-is : (a b : Bool) → IsTrue (beq a b) → a ≡ b
beq-is a b same = grind arith

-- what does not differ is the same
pub differs-not : (theory : Theory) (old new : List PlainEvent) (p : Ground) (t : ℤ) → IsFalse (differs theory old new p t)
    → is_current theory old p t ≡ is_current theory new p t
unfolding differs
differs-not theory old new p t same = grind arith

-- ---- the entries at an instant

-- an entry of an event names the event
pub event-effects_of : (theory : Theory) (e : PlainEvent) (effect : Effect) → IsMember (effects_of theory e) effect → effect.event ≡ e
unfolding effects_of
event-effects_of theory e effect member =
    let found = IsMember-from_map (λ (entry : GroundEntry). record { event = e; entry = entry }) (entries_of theory e.term) effect member in
    ap (λ (f : Effect). f.event) (sym found.2)

-- an entry at an instant is of an event there
pub rank-entries_at : (theory : Theory) (events : List PlainEvent) (t : ℤ) (effect : Effect) → IsMember (entries_at theory events t) effect
    → effect.event.rank ≡ t
rank-entries_at theory events t effect member =
    let found = IsMember-from_flat_map (effects_of theory) (events_at t events) effect member in
    let kept = IsMember-from_filter (λ (e : PlainEvent). int_eq e.rank t) events found.0 found.1 in
    ap (λ (e : PlainEvent). e.rank) (event-effects_of theory found.0 effect found.2) ∙ int_eq-is found.0.rank t kept.1

-- ---- activity

-- literals agree alike with currencies that agree on each of their properties
pub agrees-each : (c d : Currency) (t : ℤ) (literals : List GroundLiteral)
    → ((literal : GroundLiteral) → IsMember literals literal → c literal.prop t ≡ d literal.prop t)
    → list_all (agrees c t) literals ≡ list_all (agrees d t) literals
unfolding agrees
agrees-each c d t [] same = refl
agrees-each c d t (literal ∷ literals) same =
    ap₂ (λ x y. beq x literal.positive && y) (same literal (inl refl)) (agrees-each c d t literals (λ other later. same other (inr later)))

-- so an entry is active in both
pub is_active-each : (c d : Currency) (effect : Effect)
    → ((literal : GroundLiteral) → IsMember effect.entry.literals literal → c literal.prop effect.event.rank ≡ d literal.prop effect.event.rank)
    → is_active c effect ≡ is_active d effect
unfolding is_active
is_active-each c d effect same = agrees-each c d effect.event.rank effect.entry.literals same

-- an entry reads the property of each of its literals
pub reads-literal : (effect : Effect) (literal : GroundLiteral) → IsMember effect.entry.literals literal → IsTrue (reads literal.prop effect)
unfolding reads
reads-literal effect literal member =
    member-list_any (λ (other : GroundLiteral). term_eq other.prop literal.prop) effect.entry.literals literal member (term_eq-refl literal.prop)

-- an entry that reads no property of which the currencies differ is active in both, or in neither
pub is_active-unread : (c d : Currency) (effect : Effect)
    → ((p : Ground) → IsTrue (reads p effect) → c p effect.event.rank ≡ d p effect.event.rank)
    → is_active c effect ≡ is_active d effect
is_active-unread c d effect same =
    is_active-each c d effect (λ literal member. same literal.prop (reads-literal effect literal member))

-- effects of entries that are active alike are the same
pub effects_at-agree : (theory : Theory) (events : List PlainEvent) (c d : Currency) (wanted : GroundEntry → Bool) (t : ℤ)
    → ((effect : Effect) → IsMember (entries_at theory events t) effect → is_active c effect ≡ is_active d effect)
    → effects_at theory events c wanted t ≡ effects_at theory events d wanted t
unfolding effects_at
effects_at-agree theory events c d wanted t same =
    filter_agree (is_active c) (is_active d) (filter (λ (effect : Effect). wanted effect.entry) (entries_at theory events t))
    (λ effect kept. same effect (IsMember-from_filter (λ (f : Effect). wanted f.entry) (entries_at theory events t) effect kept).0)
