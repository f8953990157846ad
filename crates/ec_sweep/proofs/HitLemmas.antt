-- What is noted of one hit, and of one hit more.
use Rattle.std.proofs.Common.{◌≡◌, ◌≢◌, ℕ, ℤ, ◌+◌, ◌<◌, Bool, true, false, cond, ◌&&◌, ◌||◌, List, [], ◌∷◌, ◌++◌, get_or, length, map, take, Option, Some, None, is_some, IsTrue, IsSome, refl, sym, ap, ap₂, subst, ◌∙◌, ◌⊎◌, inl, inr, ⊎_elim, append-nil, arith}
use Rattle.std.specs.Prelude.{◌==◌, option_map, option_and_then, slice_get, unwrap_or}
use Rattle.std.specs.Bool.{beq}
use Rattle.std.specs.Option.{option_map_or, option_to_list}
use Rattle.std.proofs.lemmas.Bool.{cases_Bool, cond-true, cond-false, eqb-true, false≢true, or_parts}
use Rattle.std.proofs.lemmas.List.{take_more}
use Rattle.std.proofs.lemmas.List.Folds.{list_any-append}
use Rattle.std.proofs.lemmas.Option.{none-some, get_or_from_slice_get, slice_get_within}
use Rattle.ec_lists.proofs.Numbers.{eqb-same}
use Rattle.ec_terms.specs.declared.ids.Slot.{Slot}
use Rattle.ec_numbered.specs.ByNumber.{kept_at}
use Rattle.ec_context.specs.declared.entry.Entry.{Entry}
use Rattle.ec_context.specs.Activity.{NumberCurrency}
use Rattle.ec_entries.specs.declared.event_entries.EventEntries.{EventEntries}
use Rattle.ec_parts.specs.Activity.{is_bit_set}
use Rattle.ec_revise.specs.declared.turn.Turn.{Turn}
use Rattle.ec_delta.specs.declared.flips.Flip.{Flip}
use Rattle.ec_delta.specs.Looked.{active_of, are_apart, flip_at}
use Rattle.ec_sweep.specs.declared.hits.Hit.{Hit}
use Rattle.ec_sweep.specs.Acting.{FlipsHits, WordsHit, acts, acts_at, entry_at, has_hit_in, turn_at, turn_of, word_found}
use Rattle.ec_sweep.specs.Hits.{Slots, has_hit, is_hit}
use Rattle.ec_sweep.specs.Words.{flip_of, word_at}
use Rattle.ec_sweep.proofs.WordRows.{flip_at-words}

-- ---- one hit

-- the entry of a hit is within its list
pub entry_at-within : {T : Type 0} (slots : Slots T) (hit : Hit) (list xs : List Entry) (place : ℕ) → IsSome (entry_at slots hit)
    → option_map (λ (kept : EventEntries T). kept.list) (kept_at hit.slot.0 slots) ≡ Some list → xs ≡ list → place ≡ hit.place → place < length xs
entry_at-within {T} slots hit list xs place some is same here = subst (λ ys. place < length ys) (sym same) (subst (λ p. p < length list) (sym here) (of (kept_at hit.slot.0 slots) is some))
  where
    in_list : (o : Option Entry) → slice_get list hit.place ≡ o → is_some o ≡ true → hit.place < length list
    in_list None none fails = absurd (false≢true fails)
    in_list (Some e) found holds = slice_get_within list hit.place e found

    of : (o : Option (EventEntries T)) → option_map (λ (kept : EventEntries T). kept.list) o ≡ Some list
        → is_some (option_and_then (λ (kept : EventEntries T). slice_get kept.list hit.place) o) ≡ true → hit.place < length list
    of None both fails = absurd (false≢true fails)
    of (Some kept) both holds =
        in_list (slice_get list hit.place) refl (ap (λ (o : Option (List Entry)). is_some (slice_get (unwrap_or o kept.list) hit.place)) (sym both) ∙ holds)

module _ {T : Type 0} (slots : Slots T) (hit : Hit) (before : ℕ) where
  -- what is read of a hit is its entry
  pub entry_at-read : (list xs : List Entry) (place : ℕ) (entry : Entry) → IsSome (entry_at slots hit) → option_map (λ (kept : EventEntries T). kept.list) (kept_at hit.slot.0 slots) ≡ Some list
      → xs ≡ list → place ≡ hit.place → entry ≡ get_or xs place entry → entry_at slots hit ≡ Some entry
  entry_at-read list xs place entry some is same here read = of (kept_at hit.slot.0 slots) is some
    where
      there : (e : Entry) → slice_get list hit.place ≡ Some e → e ≡ entry
      there e found = sym (get_or_from_slice_get list hit.place e entry found) ∙ ap₂ (λ ys p. get_or ys p entry) (sym same) (sym here) ∙ sym read

      in_list : (o : Option Entry) → slice_get list hit.place ≡ o → is_some o ≡ true → slice_get list hit.place ≡ Some entry
      in_list None none fails = absurd (false≢true fails)
      in_list (Some e) found holds = found ∙ ap Some (there e found)

      of : (o : Option (EventEntries T)) → option_map (λ (kept : EventEntries T). kept.list) o ≡ Some list
          → is_some (option_and_then (λ (kept : EventEntries T). slice_get kept.list hit.place) o) ≡ true
          → option_and_then (λ (kept : EventEntries T). slice_get kept.list hit.place) o ≡ Some entry
      of None both fails = absurd (none-some list both)
      of (Some kept) both holds =
          let lists : kept.list ≡ list = ap (λ o. unwrap_or o kept.list) both in
          ap (λ ys. slice_get ys hit.place) lists ∙ in_list (slice_get list hit.place) refl (ap (λ ys. is_some (slice_get ys hit.place)) (sym lists) ∙ holds)

  -- and its bits
  pub active_of-read : option_map (λ (kept : EventEntries T). kept.active) (kept_at hit.slot.0 slots) ≡ Some before → active_of (kept_at hit.slot.0 slots) ≡ before
  active_of-read is = of (kept_at hit.slot.0 slots) is
    where
      of : (o : Option (EventEntries T)) → option_map (λ (kept : EventEntries T). kept.active) o ≡ Some before → active_of o ≡ before
      of None both = absurd (none-some before both)
      of (Some kept) both = ap (λ o. unwrap_or o kept.active) both

module _ {T : Type 0} (current : NumberCurrency) (t : ℤ) (slots : Slots T) where
  -- a hit acts as its entry does
  pub acts_at-entry : (hit : Hit) (entry : Entry) → entry_at slots hit ≡ Some entry → acts_at current t slots hit ≡ acts current t entry
  acts_at-entry hit entry is = ap (λ o. option_map_or (acts current t) o false) is

  -- a hit that acts as it did has no turn
  pub turn_at-same : (hit : Hit) (told : List Turn) → beq (is_bit_set (active_of (kept_at hit.slot.0 slots)) hit.place) (acts_at current t slots hit) ≡ true
      → told ≡ told ++ option_to_list (turn_at current t slots hit)
  turn_at-same hit told same =
      sym (append-nil told) ∙ ap (λ (o : Option Turn). told ++ option_to_list o) (sym (cond-true (beq (is_bit_set (active_of (kept_at hit.slot.0 slots)) hit.place) (acts_at current t slots hit)) None _ same))

  -- one that acts as it did not has the turn of its entry
  pub turn_at-turned : (hit : Hit) (told now : List Turn) (up : Bool) (entry : Entry)
      → beq (is_bit_set (active_of (kept_at hit.slot.0 slots)) hit.place) (acts_at current t slots hit) ≡ false
      → acts_at current t slots hit ≡ up → entry_at slots hit ≡ Some entry → now ≡ told ++ turn_of up entry ∷ [] → now ≡ told ++ option_to_list (turn_at current t slots hit)
  turn_at-turned hit told now up entry turned acts is more =
      more
      ∙ ap (λ (o : Option Turn). told ++ option_to_list o)
      (sym (cond-false (beq (is_bit_set (active_of (kept_at hit.slot.0 slots)) hit.place) (acts_at current t slots hit)) None _ turned ∙ ap₂ (λ b o. option_map (turn_of b) o) acts is))

  -- the words say of one hit whether it acts
  pub WordsHit-one : (hit : Hit) (before : ℕ) (now : Bool) (old new : List (ℕ × ℕ)) → active_of (kept_at hit.slot.0 slots) ≡ before → acts_at current t slots hit ≡ now
      → ((k : ℕ) → is_bit_set (unwrap_or (word_at hit.slot.0 new) before) k ≡ cond (hit.place == k) now (is_bit_set (unwrap_or (word_at hit.slot.0 old) before) k))
      → ((n : ℕ) → hit.slot.0 ≢ n → word_at n new ≡ word_at n old) → WordsHit current t slots (hit ∷ []) old new
  WordsHit-one hit before now old new was is here others = record {
    bits = λ slot k. ⊎_elim (same slot k) (other slot k) (cases_Bool (hit.slot.0 == slot));
    others = λ slot none. others slot (λ same. false≢true (sym none ∙ ap (λ n. (hit.slot.0 == n) || false) (sym same) ∙ itself hit.slot.0));
  }
    where
      itself : (n : ℕ) → ((n == n) || false) ≡ true
      itself n = grind arith

      same : (slot k : ℕ) → (hit.slot.0 == slot) ≡ true
          → is_bit_set (word_found slots new slot) k ≡ cond (is_hit slot k hit || false) (acts_at current t slots (record { slot = record { 0 = slot }; place = k })) (is_bit_set (word_found slots old slot) k)
      same slot k there =
          let slot_is : hit.slot.0 ≡ slot = eqb-true hit.slot.0 slot there in
          subst
          (λ n. is_bit_set (word_found slots new n) k ≡ cond (is_hit n k hit || false) (acts_at current t slots (record { slot = record { 0 = n }; place = k })) (is_bit_set (word_found slots old n) k))
          slot_is
          (ap (λ w. is_bit_set (unwrap_or (word_at hit.slot.0 new) w) k) was ∙ here k ∙ at_place (cases_Bool (hit.place == k))
          ∙ ap (λ b. cond b (acts_at current t slots (record { slot = hit.slot; place = k })) (is_bit_set (word_found slots old hit.slot.0) k)) (sym (only (hit.slot.0) (hit.place == k))))
        where
          only : (n : ℕ) (b : Bool) → (((n == n) && b) || false) ≡ b
          only n b = grind arith

          at_place : ((hit.place == k) ≡ true) ⊎ ((hit.place == k) ≡ false)
              → cond (hit.place == k) now (is_bit_set (unwrap_or (word_at hit.slot.0 old) before) k)
              ≡ cond (hit.place == k) (acts_at current t slots (record { slot = hit.slot; place = k })) (is_bit_set (word_found slots old hit.slot.0) k)
          at_place (inl at_it) =
              cond-true (hit.place == k) _ _ at_it ∙ sym is ∙ ap (λ j. acts_at current t slots (record { slot = hit.slot; place = j })) (eqb-true hit.place k at_it) ∙ sym (cond-true (hit.place == k) _ _ at_it)
          at_place (inr elsewhere) =
              cond-false (hit.place == k) _ _ elsewhere ∙ ap (λ w. is_bit_set (unwrap_or (word_at hit.slot.0 old) w) k) (sym was) ∙ sym (cond-false (hit.place == k) _ _ elsewhere)

      other : (slot k : ℕ) → (hit.slot.0 == slot) ≡ false
          → is_bit_set (word_found slots new slot) k ≡ cond (is_hit slot k hit || false) (acts_at current t slots (record { slot = record { 0 = slot }; place = k })) (is_bit_set (word_found slots old slot) k)
      other slot k apart =
          ap (λ o. is_bit_set (unwrap_or o (active_of (kept_at slot slots))) k) (others slot (λ same. false≢true (sym apart ∙ ap (λ n. hit.slot.0 == n) (sym same) ∙ eqb-same hit.slot.0)))
          ∙ sym (cond-false (is_hit slot k hit || false) _ _ (fails (hit.slot.0 == slot) (hit.place == k) apart))
        where
          fails : (a b : Bool) → a ≡ false → ((a && b) || false) ≡ false
          fails a b none = grind arith

  -- ---- one hit more

  -- what the words say of some hits and then of one more, they say of all
  pub WordsHit-more : (hits : List Hit) (hit : Hit) (first second third : List (ℕ × ℕ)) → WordsHit current t slots hits first second → WordsHit current t slots (hit ∷ []) second third
      → WordsHit current t slots (hits ++ hit ∷ []) first third
  WordsHit-more hits hit first second third before after = record {
    bits = λ slot k.
        after.bits slot k
        ∙ ap (λ z. cond (has_hit slot k (hit ∷ [])) (acts_at current t slots (record { slot = record { 0 = slot }; place = k })) z) (before.bits slot k)
        ∙ either (has_hit slot k hits) (has_hit slot k (hit ∷ [])) _ _
        ∙ ap (λ b. cond b (acts_at current t slots (record { slot = record { 0 = slot }; place = k })) (is_bit_set (word_found slots first slot) k)) (sym (list_any-append (is_hit slot k) hits (hit ∷ [])));
    others = λ slot none.
        let parts = or_parts (has_hit_in slot hits) (has_hit_in slot (hit ∷ [])) (sym (list_any-append (λ (h : Hit). h.slot.0 == slot) hits (hit ∷ [])) ∙ none) in
        after.others slot parts.1 ∙ before.others slot parts.0;
  }
    where
      either : (a b x y : Bool) → cond b x (cond a x y) ≡ cond (a || b) x y
      either a b x y = grind arith

  -- so they do of the first hits with the next
  pub WordsHit-next : (hits : List Hit) (i : ℕ) (hit : Hit) (first second third : List (ℕ × ℕ)) → slice_get hits i ≡ Some hit
      → WordsHit current t slots (take i hits) first second → WordsHit current t slots (hit ∷ []) second third → WordsHit current t slots (take (i + 1) hits) first third
  WordsHit-next hits i hit first second third there before after =
      subst (λ hs. WordsHit current t slots hs first third)
      (ap (λ (h : Hit). take i hits ++ h ∷ []) (sym (get_or_from_slice_get hits i hit hit there)) ∙ sym (take_more hits i hit (slice_get_within hits i hit there)))
      (WordsHit-more (take i hits) hit first second third before after)

  -- words of all hits, behind the new bits of slots
  pub FlipsHits-from_words : (hits : List Hit) (none words : List (ℕ × ℕ)) (before after : List Flip) → none ≡ [] → WordsHit current t slots hits none words
      → IsTrue (are_apart (map flip_of words)) → after ≡ before ++ map flip_of words → FlipsHits current t slots hits before after
  FlipsHits-from_words hits none words before after empty are apart is = record {
    added = map flip_of words;
    are = is;
    apart = apart;
    of_hits = λ slot some. ⊎_elim (λ there. there) (λ missing. absurd (false≢true (sym (ap is_some (nothing slot missing)) ∙ some))) (cases_Bool (has_hit_in slot.0 hits));
    bits = λ slot k.
        ap (λ o. is_bit_set (unwrap_or o (active_of (kept_at slot.0 slots))) k) (flip_at-words slot words)
        ∙ are.bits slot.0 k
        ∙ ap (λ rows. cond (has_hit slot.0 k hits) (acts_at current t slots (record { slot = slot; place = k })) (is_bit_set (word_found slots rows slot.0) k)) empty;
  }
    where
      nothing : (slot : Slot) → has_hit_in slot.0 hits ≡ false → flip_at slot (map flip_of words) ≡ None
      nothing slot missing = flip_at-words slot words ∙ are.others slot.0 missing ∙ ap (word_at slot.0) empty
