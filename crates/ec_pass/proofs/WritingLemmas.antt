-- A label with the line of one event more, if it has one.
use Rattle.std.proofs.Common.{◌≡◌, ℕ, ◌+◌, ℤ, Bool, true, false, cond, List, [], ◌∷◌, ◌++◌, flat_map, length, map, sym, ap, ap₂, ◌∙◌, arith}
use Rattle.std.specs.Prelude.{◌==◌, nat_lt}
use Rattle.std.proofs.lemmas.List.{append-nil, append_assoc, length-append, length-map}
use Rattle.std.proofs.lemmas.List.Elements.{filter-append}
use Rattle.std.proofs.lemmas.Grind.{flat_map-append}
use Rattle.ec_lists.proofs.Tests.{list_any-map, nat_lt-filter}
use Rattle.ec_terms.specs.declared.ground.Ground.{Ground}
use Rattle.ec_terms.specs.declared.theory.Theory.{Theory}
use Rattle.ec_terms.specs.Domain.{GroundEntry, entries_of}
use Rattle.ec_axioms.specs.Calculus.{Effect, PlainEvent, effects_of, is_current}
use Rattle.ec_cone.specs.Closed.{has_entry_inside}
use Rattle.ec_cone.specs.Cone.{cone_effects, cone_events, in_cone, is_cone_entry}
use Rattle.ec_cone.specs.Label.{bit_of, end_line, event_line, head_line, label_text}
use Rattle.ec_pass.specs.declared.label.Label.{Label}
use Rattle.ec_pass.specs.Written.{IsWritten, line_of}

module _ (theory : Theory) (events done : List PlainEvent) (canon : ℤ → List ℕ) (p : Ground) (t : ℤ) (e : PlainEvent) where
  abbrev line : PlainEvent → List ℕ
  line = event_line theory (is_current theory events) p

  abbrev inside : PlainEvent → Bool
  inside = has_entry_inside theory (in_cone theory p)

  -- an event has a line where it has cone entries
  inside-effects : inside e ≡ nat_lt 0 (length (cone_effects theory p e))
  unfolding has_entry_inside cone_effects effects_of
  inside-effects =
      sym (nat_lt-filter (λ (f : Effect). is_cone_entry theory p f.entry) (map (λ (g : GroundEntry). record { event = e; entry = g }) (entries_of theory e.term))
      ∙ list_any-map (λ (f : Effect). is_cone_entry theory p f.entry) (λ (g : GroundEntry). record { event = e; entry = g }) (entries_of theory e.term))

  module _ (bits : List ℕ) (are : bits ≡ map (bit_of (is_current theory events)) (cone_effects theory p e)) where
    -- where there are bits
    inside-bits : (empty : Bool) → empty ≡ (length bits == 0) → inside e ≡ cond empty false true
    inside-bits empty is =
        inside-effects ∙ ap (nat_lt 0) (sym (ap length are ∙ length-map (cone_effects theory p e) (bit_of (is_current theory events))))
        ∙ of (length bits) empty is
      where
        of : (n : ℕ) (b : Bool) → b ≡ (n == 0) → nat_lt 0 n ≡ cond b false true
        of n b is = grind arith

    line-bits : line e ≡ line_of e.id bits
    unfolding event_line
    line-bits = ap (line_of e.id) (sym are)

    module _ (before after : Label) (written : IsWritten theory events done canon p t before) where
      pub IsWritten-line : false ≡ (length bits == 0) → after.text.items ≡ before.text.items ++ line_of e.id bits → after.lines ≡ before.lines + 1
          → IsWritten theory events (done ++ e ∷ []) canon p t after
      IsWritten-line some text lines = record {
        text = text ∙ ap₂ (λ xs ys. xs ++ ys) written.text (sym line-bits)
            ∙ append_assoc (head_line canon p t) (flat_map line (cone_events theory p done)) (line e)
            ∙ ap (λ ls. head_line canon p t ++ ls) (sym (ap (flat_map line) one_more ∙ flat_map-append line (cone_events theory p done) (e ∷ []) ∙ ap (λ l. flat_map line (cone_events theory p done) ++ l) (append-nil (line e))));
        lines = lines ∙ ap (λ n. n + 1) written.lines ∙ sym (ap length one_more ∙ length-push (cone_events theory p done));
      }
        where
          one_more : cone_events theory p (done ++ e ∷ []) ≡ cone_events theory p done ++ e ∷ []
          one_more = filter-append inside done (e ∷ []) ∙ ap (λ b. cone_events theory p done ++ cond b (e ∷ []) []) (inside-bits false some)

          length-push : (xs : List PlainEvent) → length (xs ++ e ∷ []) ≡ length xs + 1
          length-push xs = length-append xs (e ∷ [])

      pub IsWritten-none : true ≡ (length bits == 0) → after.text.items ≡ before.text.items → after.lines ≡ before.lines → IsWritten theory events (done ++ e ∷ []) canon p t after
      IsWritten-none none text lines = record {
        text = text ∙ written.text ∙ ap (λ es. head_line canon p t ++ flat_map line es) (sym no_more);
        lines = lines ∙ written.lines ∙ ap length (sym no_more);
      }
        where
          no_more : cone_events theory p (done ++ e ∷ []) ≡ cone_events theory p done
          no_more =
              filter-append inside done (e ∷ []) ∙ ap (λ b. cone_events theory p done ++ cond b (e ∷ []) []) (inside-bits true none)
              ∙ append-nil (cone_events theory p done)

-- a label with the lines of all events, and its last line
pub label-written : (theory : Theory) (events : List PlainEvent) (canon : ℤ → List ℕ) (p : Ground) (t : ℤ) (label : Label) → IsWritten theory events events canon p t label
    → label.text.items ++ end_line label.lines ≡ label_text theory events canon p t
unfolding label_text
label-written theory events canon p t label written = ap₂ (λ text lines. text ++ end_line lines) written.text written.lines
