-- What some entries start and end, with one entry more.
use Rattle.std.proofs.Common.{◌≡◌, ℕ, ◌+◌, ◌<◌, ℤ, Bool, cond, List, [], ◌∷◌, ◌++◌, length, get_or, take, flat_map, sym, ap, ◌∙◌}
use Rattle.std.proofs.lemmas.List.{append_assoc, append-nil}
use Rattle.ec_parts.proofs.Mentioned.{flat_map-take_more}
use Rattle.ec_exclusive.specs.CurrentProps.{MemberForms}
use Rattle.ec_context.specs.declared.entry.Entry.{Entry}
use Rattle.ec_cone.specs.Cone.{has_number}
use Rattle.ec_pass.specs.declared.present.Present.{Present}
use Rattle.ec_pass.specs.Looked.{HasLooked, bit_for, bits_by, ended_by, if_initiates, if_terminates, is_active_now, started_by}

-- a list that grew by those of the first so many, with one more
grown : {X Y : Type 0} (f : X → List Y) (xs : List X) (i : ℕ) (x : X) (start before after : List Y) → i < length xs → x ≡ get_or xs i x
    → before ≡ start ++ flat_map f (take i xs) → after ≡ before ++ f x → after ≡ start ++ flat_map f (take (i + 1) xs)
grown f xs i x start before after within here so_far more =
    more ∙ ap (λ ys. ys ++ f x) so_far ∙ append_assoc start (flat_map f (take i xs)) (f x)
    ∙ ap (λ y. start ++ (flat_map f (take i xs) ++ f y)) here
    ∙ ap (λ ys. start ++ ys) (sym (flat_map-take_more f xs i x within))

-- one entry more
pub HasLooked-more : (start before after : Present) (cone : List Bool) (t : ℤ) (entries : List Entry) (i : ℕ) (entry : Entry) (active : Bool) (bits_start bits_before bits : List ℕ)
    → i < length entries → entry ≡ get_or entries i entry → HasLooked start before cone t (take i entries) bits_start bits_before
    → active ≡ is_active_now before.current t entry → after.props ≡ before.props → after.current ≡ before.current
    → after.started.items ≡ before.started.items ++ cond active (if_initiates entry.kind entry.head) []
    → after.ended.items ≡ before.ended.items ++ cond active (if_terminates entry.kind entry.head) []
    → bits ≡ bits_before ++ cond (has_number cone entry.rule) (bit_for active ∷ []) []
    → HasLooked start after cone t (take (i + 1) entries) bits_start bits
HasLooked-more start before after cone t entries i entry active bits_start bits_before bits within here so_far is props now started ended added =
    let by : active ≡ is_active_now start.current t entry = is ∙ ap (λ (set : MemberForms). is_active_now set t entry) so_far.current in
    record {
      props = props ∙ so_far.props;
      current = now ∙ so_far.current;
      started = grown (started_by start.current t) entries i entry start.started.items before.started.items after.started.items within here so_far.started
          (started ∙ ap (λ b. before.started.items ++ cond b (if_initiates entry.kind entry.head) []) by);
      ended = grown (ended_by start.current t) entries i entry start.ended.items before.ended.items after.ended.items within here so_far.ended
          (ended ∙ ap (λ b. before.ended.items ++ cond b (if_terminates entry.kind entry.head) []) by);
      bits = grown (bits_by cone start.current t) entries i entry bits_start bits_before bits within here so_far.bits
          (added ∙ ap (λ b. bits_before ++ cond (has_number cone entry.rule) (bit_for b ∷ []) []) by);
    }

-- none yet
pub HasLooked-none : (start now : Present) (cone : List Bool) (t : ℤ) (bits : List ℕ) → now.props ≡ start.props → now.current ≡ start.current
    → now.started.items ≡ start.started.items → now.ended.items ≡ start.ended.items → HasLooked start now cone t [] bits bits
HasLooked-none start now cone t bits props currents started ended = record {
  props = props;
  current = currents;
  started = started ∙ sym (append-nil start.started.items);
  ended = ended ∙ sym (append-nil start.ended.items);
  bits = sym (append-nil bits);
}
