-- Tables of what is initial, and empty caches, stand for no event.
use Rattle.std.proofs.Common.{◌≡◌, ℕ, ℤ, ◌+◌, true, cond, List, [], length, filter, map, Some, None, is_some, IsSome, refl, sym, ap, ap₂, subst, ◌∙◌}
use Rattle.std.proofs.lemmas.Bool.{or_left}
use Rattle.std.proofs.Math.Bool.{or-false}
use Rattle.ec_lists.proofs.Options.{is_some-option_map}
use Rattle.ec_terms.specs.declared.ids.PropId.{PropId}
use Rattle.ec_terms.specs.declared.ground.Ground.{Ground}
use Rattle.ec_terms.specs.declared.theory.Theory.{Theory}
use Rattle.ec_terms.specs.Term.{term_eq}
use Rattle.ec_terms.specs.Domain.{is_initial, is_strong}
use Rattle.ec_axioms.specs.Calculus.{instants_of}
use Rattle.ec_axioms.specs.Changes.{is_history}
use Rattle.ec_axioms.specs.Links.{initial_properties, is_live, mentions_of, link_count}
use Rattle.ec_axioms.specs.Marks.{marks_of, mark_initiates, spans_of}
use Rattle.ec_axioms.proofs.HistoryLaws.{SpansAreTheIntervals-law}
use Rattle.ec_changes.specs.LiveLaws.{ListsInitials}
use Rattle.ec_exclusive.specs.Added.{added_props}
use Rattle.ec_exclusive.specs.Neighbours.{AreNeighbours}
use Rattle.ec_store.specs.Store.{history_of, event_at}
use Rattle.ec_numbered.specs.ByNumber.{kept_at}
use Rattle.ec_numbered.specs.PropSet.{has_number}
use Rattle.ec_points.specs.Table.{marks_at, marks_in, row_at}
use Rattle.ec_store.specs.Table.{KeptProp, prop_at, term_at, prop_of}
use Rattle.ec_rows.specs.PlainMarks.{plain_marks}
use Rattle.ec_parts.specs.Caches.{initiations_of_mark, AreEntriesOf, IsEnteredIn, AreInitialsOf}
use Rattle.ec_parts.specs.StandFor.{View, StandFor}
use Rattle.ec_parts.specs.Initials.{KeepsOnce, HaveFirstIntervals}
use Rattle.ec_parts.specs.declared.tally.Tally.{Tally}
use Rattle.ec_parts.proofs.KeptInitiations.{kept_initiations-none}

-- ---- no events

-- parts that keep what is initial alone, without events
pub record AreFirst {T : Type 0} (rank : T → ℤ) (theory : Theory) (numbers : List PropId) (view : View T) (tally : Tally) : Type 0 where
  pub lists : ListsInitials theory
  pub once : KeepsOnce (initial_properties theory) view.table
  pub numbers_of : (id : ℕ) → has_number id numbers ≡ is_some (prop_at id view.table)
  pub neighbours : AreNeighbours theory view.table view.neighbours
  pub added : added_props view.neighbours.rows ≡ numbers
  pub initials : view.points.initials ≡ numbers
  pub marks : (n : ℕ) → marks_at n view.points ≡ []
  pub initiations : (n : ℕ) → row_at n view.initiations ≡ None
  pub intervals : HaveFirstIntervals rank view.neighbours numbers view.intervals
  pub events : view.store.events ≡ []
  pub slots : view.entries.slots ≡ []
  pub mentions : tally.mentions ≡ 0
  pub links : tally.links ≡ 0

module _ {T : Type 0} (rank : T → ℤ) (theory : Theory) (numbers : List PropId) (view : View T) (tally : Tally) (first : AreFirst rank theory numbers view tally) where
  -- what is kept is initial
  initial-kept : (id : ℕ) (p : Ground) → term_at id view.table ≡ Some p → is_initial theory p ≡ true
  initial-kept id p is = first.lists p ∙ first.once.only id p is

  there : (id : ℕ) (p : Ground) → term_at id view.table ≡ Some p → is_some (prop_at id view.table) ≡ true
  there id p is = sym (is_some-option_map (λ (k : KeptProp). k.term) (prop_at id view.table)) ∙ ap is_some is

  live-initial : (p : Ground) → is_live theory [] p ≡ true → is_initial theory p ≡ true
  unfolding is_live mentions_of
  live-initial p live = sym (or-false (is_initial theory p)) ∙ live

  initial-live : (p : Ground) → is_initial theory p ≡ true → is_live theory [] p ≡ true
  unfolding is_live mentions_of
  initial-live p initial = or_left (is_initial theory p) _ initial

  live-kept : (p : Ground) → is_live theory [] p ≡ true → IsSome (prop_of p view.table)
  live-kept p live = first.once.all p (sym (first.lists p) ∙ live-initial p live)

  AreInitialsOf-first : AreInitialsOf theory view.table view.points
  AreInitialsOf-first = record {
    initial = λ id p is. ap (has_number id) first.initials ∙ first.numbers_of id ∙ there id p is ∙ sym (initial-kept id p is);
    none = λ id none. ap (has_number id) first.initials ∙ first.numbers_of id ∙ ap is_some none;
  }

  no_marks : (p : Ground) → marks_of theory [] p ≡ []
  unfolding marks_of instants_of
  no_marks p = refl

  AreEntriesOf-first : AreEntriesOf rank theory [] view.table view.store view.entries
  AreEntriesOf-first slot =
      subst (λ events. IsEnteredIn rank theory [] view.table (event_at slot events) (kept_at slot.0 view.entries.slots)) (sym first.events)
      (subst (λ slots. IsEnteredIn rank theory [] view.table (event_at slot []) (kept_at slot.0 slots)) (sym first.slots) tt)

  no_mentions : length (mentions_of theory []) ≡ 0
  unfolding mentions_of
  no_mentions = refl

  no_links : link_count theory [] ≡ 0
  unfolding link_count mentions_of
  no_links = refl

  counted : (p : Ground) → length (filter (term_eq p) (mentions_of theory [])) ≡ 0
  unfolding mentions_of
  counted p = refl

  history : is_history [] ≡ true
  unfolding is_history
  history = refl

  -- they stand for no event
  pub StandFor-first : StandFor rank theory [] view tally
  StandFor-first = record {
    both = record {
      tables = record {
        kept = record {
          live = live-kept;
          mentions = λ id p is. first.once.once id p is ∙ ap Some (sym (ap₂ (λ n b. n + cond b 1 0) (counted p) (initial-kept id p is)));
        };
        added = record { neighbours = first.neighbours; added = λ q. ap (has_number q.0) first.added ∙ first.numbers_of q.0 };
        initials = AreInitialsOf-first;
        tally_of = record { mentions = first.mentions ∙ sym no_mentions; links = first.links ∙ sym no_links };
      };
      caches = record {
        history = history;
        events_of = ap (history_of rank) first.events;
        entries_of = AreEntriesOf-first;
        marks_of = record {
          marks = λ id p is. ap (plain_marks rank) (first.marks id) ∙ sym (no_marks p);
          none = λ id none. first.marks id;
          initials = AreInitialsOf-first;
        };
        initiations_of = record {
          marks = λ id p is. ap (λ row. plain_marks rank (marks_in row)) (first.initiations id)
              ∙ sym (kept_initiations-none theory [] p (ap (λ marks. map initiations_of_mark (filter mark_initiates marks)) (no_marks p)));
          none = λ id none. ap marks_in (first.initiations id);
        };
        intervals_of = record {
          members = λ id p is.
              first.intervals.first theory view.table (record { 0 = id }) p first.neighbours (first.numbers_of id ∙ there id p is) is
              ∙ ap₂ (λ marks b. spans_of marks (is_strong theory p) b) (sym (no_marks p)) (sym (initial-kept id p is))
              ∙ (SpansAreTheIntervals-law theory [] p history).0;
          none = λ id none. first.intervals.none (record { 0 = id }) (first.numbers_of id ∙ ap is_some none);
        };
      };
      live = live-kept;
    };
    only_live = λ id p is. initial-live p (initial-kept id p is);
  }
