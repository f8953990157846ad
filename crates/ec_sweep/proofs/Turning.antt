-- One entry more of a list whose turns are told.
use Rattle.std.proofs.Common.{◌≡◌, ℕ, ◌+◌, ◌<◌, Bool, true, false, List, [], ◌∷◌, ◌++◌, length, get_or, map, filter, flat_map, filter_map, drop, Option, None, Some, sym, ap, ap₂, ◌∙◌, append_assoc, add-one}
use Rattle.std.specs.Prelude.{option_map, unwrap_or}
use Rattle.std.specs.Option.{option_to_list}
use Rattle.std.proofs.lemmas.Bool.{cond-true, cond-false}
use Rattle.std.proofs.lemmas.Option.{none-some}
use Rattle.std.proofs.Math.Seq.{drop-cons}
use Rattle.ec_lists.proofs.Options.{cons_option-is_append}
use Rattle.ec_context.specs.declared.entry.Entry.{Entry}
use Rattle.ec_parts.specs.Activity.{is_bit_set}
use Rattle.ec_entries.specs.declared.event_entries.EventEntries.{EventEntries}
use Rattle.ec_revise.specs.declared.turn.Turn.{Turn}
use Rattle.ec_sweep.specs.Acting.{down_turns, turn_of, turns_from}

-- the rest of a list from a place begins with the member there
pub drop-next : {X : Type 0} (xs : List X) (i : ℕ) (x : X) → i < length xs → x ≡ get_or xs i x → drop i xs ≡ x ∷ drop (i + 1) xs
drop-next xs i x within here = drop-cons xs i x within ∙ ap₂ (λ y n. y ∷ drop n xs) (sym here) (sym (add-one i))

module _ {X : Type 0} (all : List X) (i : ℕ) (x : X) (within : i < length all) (here : x ≡ get_or all i x) where
  -- what a function gives for the rest begins with what it gives for that member
  pub flat_map-next : {Y : Type 0} (f : X → List Y) (before told now : List Y) → before ≡ told ++ flat_map f (drop i all) → now ≡ told ++ f x → before ≡ now ++ flat_map f (drop (i + 1) all)
  flat_map-next f before told now is more = is ∙ ap (λ xs. told ++ flat_map f xs) (drop-next all i x within here) ∙ sym (append_assoc told (f x) (flat_map f (drop (i + 1) all))) ∙ ap (λ ys. ys ++ flat_map f (drop (i + 1) all)) (sym more)

  pub filter_map-next : {Y : Type 0} (h : X → Option Y) (before told now : List Y) → before ≡ told ++ filter_map h (drop i all) → now ≡ told ++ option_to_list (h x)
      → before ≡ now ++ filter_map h (drop (i + 1) all)
  filter_map-next h before told now is more =
      is ∙ ap (λ xs. told ++ filter_map h xs) (drop-next all i x within here)
      ∙ ap (λ ys. told ++ ys) (cons_option-is_append (h x) (filter_map h (drop (i + 1) all)))
      ∙ sym (append_assoc told (option_to_list (h x)) (filter_map h (drop (i + 1) all)))
      ∙ ap (λ ys. ys ++ filter_map h (drop (i + 1) all)) (sym more)

module _ (list : List Entry) (k : ℕ) (entry : Entry) (within : k < length list) (here : entry ≡ get_or list k entry) (before told : List Turn) where
  -- where an entry passes a test, its turn up is told
  pub map_filter-pass : (test : Entry → Bool) (turn : Entry → Turn) (now : List Turn) → test entry ≡ true → before ≡ told ++ map turn (filter test (drop k list))
      → now ≡ told ++ turn entry ∷ [] → before ≡ now ++ map turn (filter test (drop (k + 1) list))
  map_filter-pass test turn now passes is more =
      is ∙ ap (λ xs. told ++ map turn (filter test xs)) (drop-next list k entry within here)
      ∙ ap (λ xs. told ++ map turn xs) (cond-true (test entry) _ _ passes)
      ∙ sym (append_assoc told (turn entry ∷ []) (map turn (filter test (drop (k + 1) list))))
      ∙ ap (λ ys. ys ++ map turn (filter test (drop (k + 1) list))) (sym more)

  pub map_filter-fail : (test : Entry → Bool) (turn : Entry → Turn) (now : List Turn) → test entry ≡ false → before ≡ told ++ map turn (filter test (drop k list)) → now ≡ told
      → before ≡ now ++ map turn (filter test (drop (k + 1) list))
  map_filter-fail test turn now fails is same =
      is ∙ ap (λ xs. told ++ map turn (filter test xs)) (drop-next list k entry within here) ∙ ap (λ xs. told ++ map turn xs) (cond-false (test entry) _ _ fails)
      ∙ ap (λ ys. ys ++ map turn (filter test (drop (k + 1) list))) (sym same)

  -- where the bit of an entry is set, its turn down is told
  pub turns_from-set : (word : ℕ) (now : List Turn) → is_bit_set word k ≡ true → before ≡ told ++ turns_from word k (drop k list) → now ≡ told ++ turn_of false entry ∷ []
      → before ≡ now ++ turns_from word (k + 1) (drop (k + 1) list)
  turns_from-set word now set is more =
      is ∙ ap (λ xs. told ++ turns_from word k xs) (drop-next list k entry within here)
      ∙ ap (λ xs. told ++ xs) (cond-true (is_bit_set word k) _ _ set)
      ∙ sym (append_assoc told (turn_of false entry ∷ []) (turns_from word (k + 1) (drop (k + 1) list)))
      ∙ ap (λ ys. ys ++ turns_from word (k + 1) (drop (k + 1) list)) (sym more)

  -- and where it is not, nothing
  pub turns_from-clear : (word : ℕ) (now : List Turn) → is_bit_set word k ≡ false → before ≡ told ++ turns_from word k (drop k list) → now ≡ told
      → before ≡ now ++ turns_from word (k + 1) (drop (k + 1) list)
  turns_from-clear word now clear is same =
      is ∙ ap (λ xs. told ++ turns_from word k xs) (drop-next list k entry within here)
      ∙ ap (λ xs. told ++ xs) (cond-false (is_bit_set word k) _ _ clear)
      ∙ ap (λ ys. ys ++ turns_from word (k + 1) (drop (k + 1) list)) (sym same)

-- what is told of the entries and the bits that are kept of an event is told of the event
pub down_turns-read : {T : Type 0} (kept : Option (EventEntries T)) (list : List Entry) (active : ℕ) → option_map (λ (k : EventEntries T). k.list) kept ≡ Some list
    → option_map (λ (k : EventEntries T). k.active) kept ≡ Some active → turns_from active 0 list ≡ down_turns kept
down_turns-read None list active listed bits = absurd (none-some list listed)
down_turns-read (Some k) list active listed bits = sym (ap₂ (λ word entries. turns_from word 0 entries) (ap (λ o. unwrap_or o active) bits) (ap (λ o. unwrap_or o list) listed))
