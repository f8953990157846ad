-- One entry is read, evaluated and noted.
use Rattle.std.proofs.Common.{◌≡◌, ◌<◌, ◌≤◌, ℕ, Bool, true, false, not, cond, refl, sym, ap, ap₂, ◌∙◌, arith}
use Rattle.std.specs.Bool.{beq}
use Rattle.std.specs.Prelude.{◌==◌, unwrap_or}
use Rattle.std.proofs.lemmas.Bool.{not-true, not-false}
use Rattle.ec_parts.specs.Activity.{is_bit_set}
use Rattle.ec_sweep.specs.Words.{word_at}
use Rattle.ec_sweep.proofs.HitLemmas.{WordsHit-one, active_of-read, acts_at-entry, entry_at-read, entry_at-within, turn_at-same, turn_at-turned}
use Rattle.ec_sweep.proofs.look_hits.look_at.Goals as goal

-- a place among few entries is one of a word
place_in_word : (place many : ℕ) → place < many → many ≤ 64 → place < 64
place_in_word place many within few = omega arith

pub returns-in_ok-push-clause-words : goal.returns-in_ok-push-clause-words
returns-in_ok-push-clause-words g c =
    WordsHit-one (g.C.Current.is_current c.args.current.now) (g.T.Moment.rank c.args.at) c.args.entries.now.slots c.args.hit c.active-before.result c.evaluate-now.result c.args.words.now c.note.new.self
    (active_of-read c.args.entries.now.slots c.args.hit c.active-before.result c.active-before.ensures)
    (acts_at-entry (g.C.Current.is_current c.args.current.now) (g.T.Moment.rank c.args.at) c.args.entries.now.slots c.args.hit c.index-list-place.result
    (entry_at-read c.args.entries.now.slots c.args.hit c.active-before.result c.list.result.now c.as_slice-list.result.now c.from-place.result c.index-list-place.result c.requires c.list.ensures.list
    c.as_slice-list.ensures.items c.from-place.ensures c.index-list-place.is)
    ∙ sym c.evaluate-now.ensures.active)
    (λ k. c.in_ok-note.ensures.here k
    ∙ ap (λ p. cond (p == k) c.evaluate-now.result (is_bit_set (unwrap_or (word_at c.args.hit.slot.0 c.args.words.now) c.active-before.result) k)) c.from-place.ensures)
    c.in_ok-note.ensures.others

pub returns-else-has_bit-now-clause-words : goal.returns-else-has_bit-now-clause-words
returns-else-has_bit-now-clause-words g c =
    WordsHit-one (g.C.Current.is_current c.args.current.now) (g.T.Moment.rank c.args.at) c.args.entries.now.slots c.args.hit c.active-before.result c.evaluate-now.result c.args.words.now c.note.new.self
    (active_of-read c.args.entries.now.slots c.args.hit c.active-before.result c.active-before.ensures)
    (acts_at-entry (g.C.Current.is_current c.args.current.now) (g.T.Moment.rank c.args.at) c.args.entries.now.slots c.args.hit c.index-list-place.result
    (entry_at-read c.args.entries.now.slots c.args.hit c.active-before.result c.list.result.now c.as_slice-list.result.now c.from-place.result c.index-list-place.result c.requires c.list.ensures.list
    c.as_slice-list.ensures.items c.from-place.ensures c.index-list-place.is)
    ∙ sym c.evaluate-now.ensures.active)
    (λ k. c.in_ok-note.ensures.here k
    ∙ ap (λ p. cond (p == k) c.evaluate-now.result (is_bit_set (unwrap_or (word_at c.args.hit.slot.0 c.args.words.now) c.active-before.result) k)) c.from-place.ensures)
    c.in_ok-note.ensures.others

pub returns-else-has_bit-now-clause-turns : goal.returns-else-has_bit-now-clause-turns
returns-else-has_bit-now-clause-turns g c =
    turn_at-same (g.C.Current.is_current c.args.current.now) (g.T.Moment.rank c.args.at) c.args.entries.now.slots c.args.hit c.args.turns.now.items
    (ap₂ beq
    (ap₂ is_bit_set (active_of-read c.args.entries.now.slots c.args.hit c.active-before.result c.active-before.ensures) (sym c.from-place.ensures) ∙ sym c.has_bit.ensures)
    (acts_at-entry (g.C.Current.is_current c.args.current.now) (g.T.Moment.rank c.args.at) c.args.entries.now.slots c.args.hit c.index-list-place.result
    (entry_at-read c.args.entries.now.slots c.args.hit c.active-before.result c.list.result.now c.as_slice-list.result.now c.from-place.result c.index-list-place.result c.requires c.list.ensures.list
    c.as_slice-list.ensures.items c.from-place.ensures c.index-list-place.is)
    ∙ sym c.evaluate-now.ensures.active)
    ∙ not-false _ c.if-has_bit-now.false)

pub returns-in_ok-push-clause-turns : goal.returns-in_ok-push-clause-turns
returns-in_ok-push-clause-turns g c =
    let read =
    entry_at-read c.args.entries.now.slots c.args.hit c.active-before.result c.list.result.now c.as_slice-list.result.now c.from-place.result c.index-list-place.result c.requires c.list.ensures.list
    c.as_slice-list.ensures.items c.from-place.ensures c.index-list-place.is in
    let acts = acts_at-entry (g.C.Current.is_current c.args.current.now) (g.T.Moment.rank c.args.at) c.args.entries.now.slots c.args.hit c.index-list-place.result read ∙ sym c.evaluate-now.ensures.active in
    turn_at-turned (g.C.Current.is_current c.args.current.now) (g.T.Moment.rank c.args.at) c.args.entries.now.slots c.args.hit c.args.turns.now.items c.push.new.self.items c.evaluate-now.result
    c.index-list-place.result
    (ap₂ beq
    (ap₂ is_bit_set (active_of-read c.args.entries.now.slots c.args.hit c.active-before.result c.active-before.ensures) (sym c.from-place.ensures) ∙ sym c.has_bit.ensures)
    acts
    ∙ not-true _ c.if-has_bit-now.true)
    acts read c.in_ok-push.ensures.items

pub bounds-list-place : goal.bounds-list-place
bounds-list-place g c =
    entry_at-within c.args.entries.now.slots c.args.hit c.list.result.now c.as_slice-list.result.now c.from-place.result c.requires c.list.ensures.list c.as_slice-list.ensures.items c.from-place.ensures

pub note-requires : goal.note-requires
note-requires g c =
    place_in_word c.from-place.result _
    (entry_at-within c.args.entries.now.slots c.args.hit c.list.result.now c.list.result.now c.from-place.result c.requires c.list.ensures.list refl c.from-place.ensures)
    c.as_slice-list.ensures.list.few

pub has_bit-requires : goal.has_bit-requires
has_bit-requires g c =
    place_in_word c.from-place.result _
    (entry_at-within c.args.entries.now.slots c.args.hit c.list.result.now c.list.result.now c.from-place.result c.requires c.list.ensures.list refl c.from-place.ensures)
    c.as_slice-list.ensures.list.few
