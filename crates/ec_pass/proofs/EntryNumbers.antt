-- What the entries of an event start and end, by number, is what they initiate and terminate, by term; and their bits are those of the event's line.
use Rattle.std.proofs.Common.{◌≡◌, ℕ, Bool, true, false, cond, ◌&&◌, List, [], ◌∷◌, ◌++◌, Some, filter, flat_map, map, refl, sym, ap, ap₂, subst, ◌∙◌, inl, inr, arith}
use Rattle.std.specs.Prelude.{◌==◌}
use Rattle.std.specs.List.{list_any}
use Rattle.std.proofs.lemmas.List.Concat.{flat_map-cons}
use Rattle.std.proofs.lemmas.List.Folds.{list_any-append}
use Rattle.std.proofs.Math.Bool.{or-false}
use Rattle.ec_terms.specs.declared.ground.Ground.{Ground}
use Rattle.ec_terms.specs.declared.ids.PropId.{PropId}
use Rattle.ec_terms.specs.declared.theory.Kind.{Kind}
use Rattle.ec_terms.specs.declared.theory.Kind.TheVariants.{Initiates, Terminates}
use Rattle.ec_terms.specs.Domain.{GroundEntry}
use Rattle.ec_terms.specs.Term.{term_eq}
use Rattle.ec_axioms.specs.Calculus.{Currency, Effect, PlainEvent, is_active, is_initiating, is_terminating}
use Rattle.ec_axioms.proofs.Members.{IsMember}
use Rattle.ec_store.specs.Table.{KeptProp, is_in_order}
use Rattle.ec_numbered.specs.PropSet.{has_number}
use Rattle.ec_exclusive.specs.CurrentProps.{MemberForms, is_in}
use Rattle.ec_context.specs.Activity.{IsCurrencyOfTerms}
use Rattle.ec_context.specs.Entries.{each_of, shown_entries, shown_entry}
use Rattle.ec_context.specs.declared.entry.Entry.{Entry}
use Rattle.ec_context.proofs.EachOf.{each_of-first}
use Rattle.ec_context.proofs.Shown.{IsShownAs, IsShownAs-entry, literals_agree-is_active}
use Rattle.ec_cone.specs.Cone.{has_number as has_rule}
use Rattle.ec_cone.specs.Label.{bit_of}
use Rattle.ec_pass.specs.Looked.{bit_for, bits_by, ended_by, if_initiates, if_terminates, is_active_now, started_by}
use Rattle.ec_pass.specs.Numbers.{AreNumbersOf}
use Rattle.ec_pass.proofs.NumberLemmas.{AreNumbersOf-none, AreNumbersOf-one, AreNumbersOf-or, AreNumbersOf-same}

-- ---- kinds

abbrev starts : Kind → Bool
starts Initiates = true
starts Terminates = false

abbrev ends : Kind → Bool
ends Initiates = false
ends Terminates = true

starts-number : (kind : Kind) (head : PropId) (n : ℕ) → has_number n (if_initiates kind head) ≡ (starts kind && (head.0 == n))
starts-number Initiates head n = or-false (head.0 == n)
starts-number Terminates head n = refl

ends-number : (kind : Kind) (head : PropId) (n : ℕ) → has_number n (if_terminates kind head) ≡ (ends kind && (head.0 == n))
ends-number Initiates head n = refl
ends-number Terminates head n = or-false (head.0 == n)

starts-term : (q : Ground) (g : GroundEntry) → is_initiating q g ≡ (starts g.kind && term_eq g.head q)
unfolding is_initiating
starts-term q g = by_kind g.kind refl
  where
    by_kind : (kind : Kind) → g.kind ≡ kind → is_initiating q g ≡ (starts kind && term_eq g.head q)
    by_kind Initiates is = rw is refl
    by_kind Terminates is = rw is refl

ends-term : (q : Ground) (g : GroundEntry) → is_terminating q g ≡ (ends g.kind && term_eq g.head q)
unfolding is_terminating
ends-term q g = by_kind g.kind refl
  where
    by_kind : (kind : Kind) → g.kind ≡ kind → is_terminating q g ≡ (ends kind && term_eq g.head q)
    by_kind Initiates is = rw is refl
    by_kind Terminates is = rw is refl

module _ (table : List KeptProp) (order : is_in_order table ≡ true) (now : MemberForms) (current : Currency) (e : PlainEvent)
    (says : IsCurrencyOfTerms table (λ n _. is_in n now) current e.rank) where
  -- an entry of the event, as an effect
  abbrev effect : GroundEntry → Effect
  effect g = record { event = e; entry = g }

  -- an entry is active by number where it is by term
  is_active-shown : (entry : Entry) (g : GroundEntry) → shown_entry table entry ≡ Some g → is_active_now now e.rank entry ≡ is_active current (effect g)
  is_active-shown entry g shown = literals_agree-is_active table (λ n _. is_in n now) current e says entry g shown

  -- ---- changes

  module _ (does : Kind → PropId → List PropId) (makes : Kind → Bool) (wanted : Ground → GroundEntry → Bool)
      (by_number : (kind : Kind) (head : PropId) (n : ℕ) → has_number n (does kind head) ≡ (makes kind && (head.0 == n)))
      (by_term : (q : Ground) (g : GroundEntry) → wanted q g ≡ (makes g.kind && term_eq g.head q)) where
    -- those that one entry changes
    abbrev done_by : Entry → List PropId
    done_by entry = cond (is_active_now now e.rank entry) (does entry.kind entry.head) []

    number-one : (entry : Entry) (g : GroundEntry) (n : ℕ) (active : Bool) → entry.kind ≡ g.kind → active ≡ is_active current (effect g)
        → has_number n (cond active (does entry.kind entry.head) []) ≡ ((makes g.kind && is_active current (effect g)) && (entry.head.0 == n))
    number-one entry g n true kind is =
        by_number entry.kind entry.head n ∙ ap (λ k. makes k && (entry.head.0 == n)) kind ∙ joined (makes g.kind) (is_active current (effect g)) (entry.head.0 == n) (sym is)
      where
        joined : (m a h : Bool) → a ≡ true → (m && h) ≡ ((m && a) && h)
        joined m a h is = grind arith
    number-one entry g n false kind is = joined (makes g.kind) (is_active current (effect g)) (entry.head.0 == n) (sym is)
      where
        joined : (m a h : Bool) → a ≡ false → false ≡ ((m && a) && h)
        joined m a h is = grind arith

    one : (entry : Entry) (g : GroundEntry) → shown_entry table entry ≡ Some g
        → AreNumbersOf table (λ n. has_number n (done_by entry)) (λ q. wanted q g && is_active current (effect g))
    one entry g shown =
        let seen : IsShownAs table entry g = IsShownAs-entry table entry g shown in
        AreNumbersOf-same (λ n. number-one entry g n (is_active_now now e.rank entry) seen.kind (is_active-shown entry g shown))
        (λ q. ap (λ b. b && is_active current (effect g)) (by_term q g) ∙ swapped (makes g.kind) (term_eq g.head q) (is_active current (effect g)))
        (AreNumbersOf-one (makes g.kind && is_active current (effect g)) entry.head.0 g.head order seen.head)
      where
        swapped : (m h a : Bool) → ((m && h) && a) ≡ ((m && a) && h)
        swapped m h a = grind arith

    -- those that all entries change
    each : (entries : List Entry) (gs : List GroundEntry) → shown_entries table entries ≡ Some gs
        → AreNumbersOf table (λ n. has_number n (flat_map done_by entries)) (λ q. list_any (λ g. wanted q g && is_active current (effect g)) gs)
    unfolding each_of
    each [] [] shown = AreNumbersOf-none
    each [] (g ∷ gs) shown = cc
    each (entry ∷ entries) gs shown =
        let parts = each_of-first (shown_entry table) entry entries gs shown in
        AreNumbersOf-same
        (λ n. ap (has_number n) (flat_map-cons done_by entry entries) ∙ list_any-append (λ (p : PropId). p.0 == n) (done_by entry) (flat_map done_by entries))
        (λ q. ap (list_any (λ g. wanted q g && is_active current (effect g))) parts.all_are)
        (AreNumbersOf-or (one entry parts.first parts.first_is) (each entries parts.others parts.others_are))

  pub started-numbers : (entries : List Entry) (gs : List GroundEntry) → shown_entries table entries ≡ Some gs
      → AreNumbersOf table (λ n. has_number n (flat_map (started_by now e.rank) entries)) (λ q. list_any (λ g. is_initiating q g && is_active current (effect g)) gs)
  started-numbers = each if_initiates starts is_initiating starts-number starts-term

  pub ended-numbers : (entries : List Entry) (gs : List GroundEntry) → shown_entries table entries ≡ Some gs
      → AreNumbersOf table (λ n. has_number n (flat_map (ended_by now e.rank) entries)) (λ q. list_any (λ g. is_terminating q g && is_active current (effect g)) gs)
  ended-numbers = each if_terminates ends is_terminating ends-number ends-term

  -- ---- bits

  module _ (cone : List Bool) (inside : GroundEntry → Bool) where
    -- an entry with a bit, and one without
    bit-one : (b : Bool) (active : Bool) (g : GroundEntry) (rest : List Effect) → active ≡ is_active current (effect g)
        → (cond b (bit_for active ∷ []) [] ++ map (bit_of current) rest) ≡ map (bit_of current) (cond b (effect g ∷ rest) rest)
    bit-one true active g rest is = ap (λ a. bit_for a ∷ map (bit_of current) rest) is
    bit-one false active g rest is = refl

    pub bits-shown : (entries : List Entry) (gs : List GroundEntry) → shown_entries table entries ≡ Some gs → ((g : GroundEntry) → IsMember gs g → has_rule cone g.rule ≡ inside g)
        → flat_map (bits_by cone now e.rank) entries ≡ map (bit_of current) (filter (λ (f : Effect). inside f.entry) (map effect gs))
    unfolding each_of
    bits-shown [] [] shown rules = refl
    bits-shown [] (g ∷ gs) shown rules = cc
    bits-shown (entry ∷ entries) gs shown rules =
        let parts = each_of-first (shown_entry table) entry entries gs shown in
        let g = parts.first in
        let seen : IsShownAs table entry g = IsShownAs-entry table entry g parts.first_is in
        let own : (h : GroundEntry) → IsMember (g ∷ parts.others) h → has_rule cone h.rule ≡ inside h = subst (λ hs. (h : GroundEntry) → IsMember hs h → has_rule cone h.rule ≡ inside h) parts.all_are rules in
        let here : has_rule cone entry.rule ≡ inside g = ap (has_rule cone) seen.rule ∙ own g (inl refl) in
        let rest = filter (λ (f : Effect). inside f.entry) (map effect parts.others) in
        flat_map-cons (bits_by cone now e.rank) entry entries
        ∙ ap₂ (λ b bs. cond b (bit_for (is_active_now now e.rank entry) ∷ []) [] ++ bs) here (bits-shown entries parts.others parts.others_are (λ h member. own h (inr member)))
        ∙ bit-one (inside g) (is_active_now now e.rank entry) g rest (is_active-shown entry g parts.first_is)
        ∙ ap (λ hs. map (bit_of current) (filter (λ (f : Effect). inside f.entry) (map effect hs))) (sym parts.all_are)
