-- A span that can stand behind the others stands behind them.
use Rattle.std.proofs.Common.{◌≡◌, ℕ, ◌+◌, ◌<◌, true, List, ◌++◌, ◌∷◌, [], take, length, get_or, pos, refl, sym, subst, ◌∙◌}
use Rattle.std.specs.List.{list_all}
use Rattle.std.proofs.lemmas.List.{take_more}
use Rattle.std.proofs.lemmas.List.Folds.{list_all-append}
use Rattle.ec_moment.specs.declared.tick.Tick.{Tick}
use Rattle.ec_rows.specs.declared.span.End.TheVariants.{At}
use Rattle.ec_rows.specs.declared.span.Span.{Span}
use Rattle.ec_rows.specs.Spans.{IsSpanRow, is_proper, span_before}
use Rattle.ec_rows.proofs.OrderedLemmas.{is_ascending-append_one}
use Rattle.ec_rows.proofs.SpanLemmas.{IsSpanRow-nil}
use Rattle.ec_layers.proofs.block_spans.is_row.Goals as goal

IsSpanRow-append_one : (spans : List (Span Tick)) (span : Span Tick) → IsSpanRow (λ tick. tick.0) spans → is_proper (λ tick. tick.0) span ≡ true →
    list_all (λ s. span_before (λ tick. tick.0) s span) spans ≡ true → IsSpanRow (λ tick. tick.0) (spans ++ span ∷ [])
IsSpanRow-append_one spans span row proper behind = record {
  proper = list_all-append (is_proper (λ (tick : Tick). tick.0)) spans (span ∷ []) ∙ rw (row.proper, proper) refl;
  ascending = is_ascending-append_one (span_before (λ (tick : Tick). tick.0)) spans span row.ascending behind;
}

one-more : (spans : List (Span Tick)) (i : ℕ) (d : Span Tick) → i < length spans → IsSpanRow (λ tick. tick.0) (take i spans) →
    is_proper (λ tick. tick.0) (get_or spans i d) ≡ true → list_all (λ s. span_before (λ tick. tick.0) s (get_or spans i d)) (take i spans) ≡ true →
    IsSpanRow (λ tick. tick.0) (take (i + 1) spans)
one-more spans i d within row proper behind =
    subst (IsSpanRow (λ (tick : Tick). tick.0)) (sym (take_more spans i d within)) (IsSpanRow-append_one (take i spans) (get_or spans i d) row proper behind)

pub loop-i-init : goal.loop-i-init
loop-i-init c = IsSpanRow-nil (λ (tick : Tick). tick.0) [] refl

pub loop-i-preserved : goal.loop-i-preserved
loop-i-preserved c =
    one-more c.args.spans.now c.loop-i.i (record { from = record { 0 = pos 0 }; end = At (record { 0 = pos 0 }) }) c.loop-i-test.true c.loop-i.invariant
    (c.if-not-can_follow.ensures.proper refl) (c.if-not-can_follow.ensures.behind refl)
