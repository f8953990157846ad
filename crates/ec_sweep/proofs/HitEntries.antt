-- Each hit has an entry.
use Rattle.std.proofs.Common.{◌≡◌, ℕ, ℤ, Bool, true, false, ◌&&◌, not, List, Option, Some, None, is_some, IsSome, refl, sym, ◌∙◌}
use Rattle.std.specs.Prelude.{option_and_then, slice_get}
use Rattle.std.specs.List.{All}
use Rattle.std.specs.Option.{option_map_or}
use Rattle.std.specs.Ordering.{int_eq}
use Rattle.std.proofs.lemmas.Bool.{and_from, and_parts, eq-eqb, not-true}
use Rattle.ec_parts.proofs.Waiting.{All-from_members}
use Rattle.ec_terms.specs.declared.ids.PropId.{PropId}
use Rattle.ec_numbered.specs.ByNumber.{kept_at}
use Rattle.ec_context.specs.declared.entry.Entry.{Entry}
use Rattle.ec_axioms.proofs.Members.{IsMember, list_any-member, member-list_any}
use Rattle.ec_entries.specs.declared.event_entries.EventEntries.{EventEntries}
use Rattle.ec_entries.specs.declared.event_entries.Dependent.{Dependent}
use Rattle.ec_entries.specs.Dependents.{any_on, dependent_if, dependent_in}
use Rattle.ec_revise.specs.declared.change.Removal.{Removal}
use Rattle.ec_revise.specs.Change.{has_slot}
use Rattle.ec_sweep.specs.declared.hits.Hit.{Hit}
use Rattle.ec_sweep.specs.State.{DirtyRows, dirty_at}
use Rattle.ec_sweep.specs.Acting.{entry_at}
use Rattle.ec_sweep.specs.Hits.{AreHits, Slots, depends_at, depends_on_due, has_hit, is_hit}

-- a hit is one of its list
pub has_hit-member : (hits : List Hit) (hit : Hit) → IsMember hits hit → has_hit hit.slot.0 hit.place hits ≡ true
has_hit-member hits hit member =
    member-list_any (is_hit hit.slot.0 hit.place) hits hit member (and_from _ _ (eq-eqb hit.slot.0 hit.slot.0 refl) (eq-eqb hit.place hit.place refl))

-- what depends on a property is an entry
depends_at-entry : {T : Type 0} (rank : T → ℤ) (slots : Slots T) (t : ℤ) (hit : Hit) (n : ℕ) → depends_at rank slots t hit.slot.0 hit.place n ≡ true → IsSome (entry_at slots hit)
depends_at-entry {T} rank slots t hit n depends = of (kept_at hit.slot.0 slots) depends
  where
    of : (o : Option (EventEntries T))
        → option_map_or (λ (d : Dependent T). int_eq (rank d.at) t) (option_and_then (λ (kept : EventEntries T). dependent_in n kept.at hit.slot.0 kept.list hit.place) o) false ≡ true
        → is_some (option_and_then (λ (kept : EventEntries T). slice_get kept.list hit.place) o) ≡ true
    of None none = none
    of (Some kept) some = in_list (slice_get kept.list hit.place) some
      where
        in_list : (o : Option Entry)
            → option_map_or (λ (d : Dependent T). int_eq (rank d.at) t) (option_and_then (λ (entry : Entry). dependent_if (any_on n entry.literals) kept.at hit.slot.0 hit.place) o) false ≡ true
            → is_some o ≡ true
        in_list None none = none
        in_list (Some entry) some = refl

module _ {T : Type 0} (rank : T → ℤ) (slots : Slots T) (t : ℤ) (dirty : DirtyRows) (due : List PropId) (removals : List (Removal T)) (hits : List Hit)
    (are : AreHits rank slots t dirty due removals hits) where
  -- what a hit is: its event stays, and it reads a property that is dirty and due
  pub record IsHitBy (hit : Hit) : Type 0 where
    pub prop : PropId
    pub due_there : IsMember due prop
    pub dirty_there : is_some (dirty_at prop.0 dirty) ≡ true
    pub depends : depends_at rank slots t hit.slot.0 hit.place prop.0 ≡ true
    pub stays : has_slot hit.slot removals ≡ false

  pub hit-by : (hit : Hit) → IsMember hits hit → IsHitBy hit
  hit-by hit member =
      let both = and_parts (not (has_slot hit.slot removals)) (depends_on_due rank slots t dirty due hit.slot.0 hit.place) (sym (are.hit hit.slot.0 hit.place) ∙ has_hit-member hits hit member) in
      let found = list_any-member (λ (p : PropId). is_some (dirty_at p.0 dirty) && depends_at rank slots t hit.slot.0 hit.place p.0) due both.1 in
      let parts = and_parts (is_some (dirty_at found.0.0 dirty)) (depends_at rank slots t hit.slot.0 hit.place found.0.0) found.2 in
      record { prop = found.0; due_there = found.1; dirty_there = parts.0; depends = parts.1; stays = not-true _ both.0 }

  pub hits-have_entries : All (λ (hit : Hit). IsSome (entry_at slots hit)) hits
  hits-have_entries =
      All-from_members (λ (hit : Hit). IsSome (entry_at slots hit)) hits (λ hit member. let by = hit-by hit member in depends_at-entry rank slots t hit by.prop.0 by.depends)
